use Rattle.std.proofs.Common.{◌++◌, ◌∷◌, [], ℕ, Bor, List, map, take, ap, sym, ◌∙◌, arith}
use Rattle.std.proofs.lemmas.List.{map-append}
use Rattle.tml_refs.specs.Documents.{interval_name}
use Rattle.tml_refs.specs.View.{plain_interval}
use Rattle.answers.proofs.NamedIntervals.{one_further}
use Rattle.answers.proofs.names.names_of.Goals as goal

pub loop-i-preserved : goal.loop-i-preserved
loop-i-preserved c =
    let intervals = c.args.document.now.intervals in
    let i = c.loop-i.i in
    let NameOf = λ (name : Bor (List ℕ)). name.now in
    let interval = plain_interval c.interval.result in record {
      end = c.loop-i.invariant.end;
      within = omega (arith, c.loop-i-test.true);
      names = ap (map NameOf) c.in_ok-push.ensures.items
          ∙ map-append NameOf c.loop-i.names.items (c.name.result ∷ [])
          ∙ (λ k. c.loop-i.invariant.names k ++ c.name.ensures k ∷ [])
          ∙ sym (map-append interval_name (take i intervals) (interval ∷ []))
          ∙ ap (map interval_name) (sym (one_further intervals i interval c.interval.ensures));
    }
