use Rattle.std.proofs.Common.{◌≡◌, ◌++◌, List, ℕ, ap, sym, ◌∙◌, rules}
use Rattle.tml_canon.specs.Canonical.{quoted}
use Rattle.tml_canon.proofs.Searching.{none_found, quote_passed}
use Rattle.tml_canon.proofs.canonical.push_value.Goals as goal

pub loop-at-preserved : goal.loop-at-preserved
loop-at-preserved c = quote_passed c.loop-at.out.items _ _ c.loop-at.rest.now _ c.in-Some.at c.in-Some.ensures c.loop-at.invariant c.in_ok-extend_from_slice.ensures.items c.in_ok-extend_from_slice-2.ensures.items

pub returns : goal.returns
returns c =
    let whole : c.loop-at.out.items ++ c.loop-at.rest.now ≡ c.args.out.now.items ++ quoted c.args.value.now =
    ap (λ (s : List ℕ). c.loop-at.out.items ++ s) (sym (none_found c.loop-at.rest.now c.in_default.ensures)) ∙ c.loop-at.invariant in
    rw (← whole) (search rules)
