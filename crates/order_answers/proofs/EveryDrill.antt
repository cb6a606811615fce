-- Every drill has a summary.
use Rattle.std.proofs.Common.{inl, inr, ℕ, suc, ◌<◌, ◌≤◌, List, [], ◌∷◌, ◌++◌, length, codes, refl, arith}
use Rattle.std.proofs.lemmas.Bool.{cases_lt}
use Rattle.std.proofs.lemmas.List.Elements.{All-cons, All-nil, All-weaker}
use Rattle.drill.specs.Laws.{IsDrill}
use Rattle.drill.specs.Numbers.{hidden_timeline}
use Rattle.drill.specs.Texts.{drill_contents, drill_document}
use Rattle.drill.proofs.Accepted.{drill_is_accepted}
use Rattle.drill.proofs.Fitting.{hidden_intervals_fit}
use Rattle.order_answers.specs.declared.drill_command.Figures.{Figures}
use Rattle.order_answers.specs.Drill.{IsGreatest, IsSummary, figure_lines}
use Rattle.order_answers.proofs.Drills.{as_many_points}
use Rattle.net_answers.proofs.Nets.{its_net}
use Rattle.net_core.specs.Entailment.{HasTimeline}
use Rattle.order_answers.proofs.Fitting.{some_relations, some_timeline}

-- numbers of which there is one have a greatest
every_greatest : (n : ℕ) (numbers : List ℕ) → (greatest : ℕ) × IsGreatest (n ∷ numbers) greatest
every_greatest n [] = (n, ((0, omega arith, refl), All-cons (λ k. k ≤ n) n [] (omega arith) (All-nil (λ k. k ≤ n))))
every_greatest n (m ∷ numbers) =
    let rest = every_greatest m numbers in
    let later = rest.1.0 in
    elim (cases_lt n rest.0) [
      | inl less ↦ (rest.0, ((suc later.0, let within = later.1 in omega arith, later.2), All-cons (λ k. k ≤ rest.0) n (m ∷ numbers) (omega arith) rest.1.1))
      | inr more ↦ (n, ((0, omega arith, refl), All-cons (λ k. k ≤ n) n (m ∷ numbers) (omega arith) (All-weaker (λ k. k ≤ rest.0) (λ k. k ≤ n) (λ k le. omega arith) (m ∷ numbers) rest.1.1)))
    ]

some_greatest : (numbers : List ℕ) → 0 < length numbers → (greatest : ℕ) × IsGreatest numbers greatest
some_greatest [] some = absurd (omega arith)
some_greatest (n ∷ numbers) some = every_greatest n numbers

-- every drill has a summary: some timeline fits its document, the hidden one
pub every_drill : (n : ℕ) → IsDrill n → (text : List ℕ) × IsSummary n text
every_drill n drill =
    let contents = drill_contents n in
    let says = drill_is_accepted n drill in
    let has = its_net (drill_document n) contents says in
    let fits : HasTimeline has.net = (hidden_timeline n, hidden_intervals_fit n has.net drill has.built) in
    let shown = some_timeline has.net has.is fits in
    let ranks = shown.1.0 in
    let least = shown.1.1 in
    let related = some_relations has.net has.is fits in
    let many = as_many_points n has.net has.built in
    let size = least.0 in
    let first = drill.0 in
    let greatest = some_greatest ranks (omega arith) in
    let figures : Figures = record { drill = n; bytes = length (drill_document n); links = length has.net.links; greatest = greatest.0; relations = length related.0 } in (
      figure_lines figures ++ codes "verified timeline\n",
      (
        figures,
        record {
          net = has.net;
          ranks = ranks;
          rows = related.0;
          has_net = (contents, says, has.built);
          least = least;
          follow = related.1;
          drill = refl;
          bytes = refl;
          links = refl;
          greatest = greatest.1;
          relations = refl;
        },
        refl,
      ),
    )
