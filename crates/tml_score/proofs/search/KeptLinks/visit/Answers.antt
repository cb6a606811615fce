use Rattle.std.proofs.Common.{ℕ, List, inl, inr, ap, sym, subst, rules}
use Rattle.std.specs.List.{Contains}
use Rattle.std.proofs.lemmas.List.Elements.{Contains-push}
use Rattle.tml_score.specs.Reached.{PlainReached}
use Rattle.tml_score.proofs.search.KeptLinks.visit.Goals as goal

pub returns-in_ok-add : goal.returns-in_ok-add
returns-in_ok-add c =
    let points_are = ap (λ (r : PlainReached). r.points) c.in_ok-add.ensures in (
      inr c.in_ok-add.ensures,
      inl (subst (λ (xs : List ℕ). Contains xs c.args.point) (sym points_are) (Contains-push c.args.own.now.points c.args.point)),
      λ among. let h = c.if-has.ensures.1 among in absurd (search rules),
    )
