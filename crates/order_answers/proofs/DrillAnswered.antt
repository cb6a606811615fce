-- Each drill has one answer.
use Rattle.std.proofs.Common.{◌≡◌, ◌<◌, ℕ, List, [], ◌∷◌, false, length, refl, sym, ap, subst, ◌∙◌, Some}
use Rattle.runs.specs.EveryReply.{HasNext}
use Rattle.runs.specs.OneReply.{Agree, HasOneText, is_aborted}
use Rattle.runs.specs.Rows.{File, NeverFree, Next, answers, reads}
use Rattle.runs.specs.declared.status.Status.{Status}
use Rattle.runs.specs.declared.status.Status.TheVariants.{Done}
use Rattle.runs.proofs.Answering.{AreAnswered}
use Rattle.order_answers.specs.Drill.{OfDrill, drill_number, drill_rows}
use Rattle.order_answers.proofs.DrillNumbers.{drill_in_range}
use Rattle.order_answers.proofs.Drills.{one_summary}
use Rattle.order_answers.proofs.EveryDrill.{every_drill}

-- a drill is answered by Done, and by one text
done : (n : ℕ) (status : Status) (text : List ℕ) → OfDrill n status text → status ≡ Done
done n Done text h = refl
done n status text h = absurd h

one_answer : (n : ℕ) (status : Status) (text line : List ℕ) → OfDrill n status text → OfDrill n status line → text ≡ line
one_answer n Done text line h k = one_summary n text line h k
one_answer n status text line h k = absurd h

module _ (word : List ℕ) (n : ℕ) (is : drill_number word ≡ Some n) where
  agree : (contents : List (List ℕ)) (next other : Next) → drill_rows word contents next → drill_rows word contents other → Agree next other
  agree [] (answers status text) (answers other line) h k = done h.0 status text h.2 ∙ sym (done k.0 other line k.2)
  agree [] (answers status text) (reads file) h k = absurd k
  agree contents next other h k = absurd h

  every_next : HasNext (drill_rows word)
  every_next [] reading = let summary = every_drill n (drill_in_range word n is) in (answers Done summary.0, (n, is, summary.1))
  every_next (bytes ∷ rest) reading = absurd reading.1

  few : (contents : List (List ℕ)) (file : File) → drill_rows word contents (reads file) → length contents < 0
  few [] file row = absurd row
  few (bytes ∷ rest) file row = absurd row

  whole : (contents : List (List ℕ)) (status : Status) (text : List ℕ) → drill_rows word contents (answers status text) → is_aborted status ≡ false
  whole [] status text row = ap is_aborted (done row.0 status text row.2)
  whole (bytes ∷ rest) status text row = absurd row

  line_of : (contents : List (List ℕ)) (status : Status) → (NeverFree contents status → ⊥) → HasOneText (drill_rows word) contents status
  line_of [] status determined text line h k =
      let same : k.0 ≡ h.0 = let both = sym k.1 ∙ h.1 in cc in
      one_answer h.0 status text line h.2 (subst (λ (m : ℕ). OfDrill m status line) same k.2)
  line_of (bytes ∷ rest) status determined text line h k = absurd h

  pub drill_answered : AreAnswered (drill_rows word) NeverFree
  drill_answered = record { one_next = agree; next = every_next; most = 0; few = few; whole = whole; one_text = line_of }
