-- What the rows of two files have, by how the first one is judged and what the second one is answered.
use Rattle.std.proofs.Common.{◌≡◌, ◌⊎◌, ◌≤◌, ◌<◌, ℕ, List, [], ◌∷◌, false, length, refl, sym, subst, ◌∙◌, Option, Some, None, IsSome, inl, inr, arith}
use Rattle.tml_io.specs.Files.{Files, IsThere, held}
use Rattle.runs.specs.declared.status.Status.{Status}
use Rattle.runs.specs.declared.status.Status.TheVariants.{ReadFault, TooLong}
use Rattle.runs.specs.EveryReply.{HasNext}
use Rattle.runs.specs.OneFile.{Answers}
use Rattle.runs.specs.OneReply.{Agree, HasOneText, is_aborted}
use Rattle.runs.specs.Reading.{ReadsWhole, Reached, AreFirstContents}
use Rattle.runs.specs.Replies.{Replies}
use Rattle.runs.specs.Rows.{File, NeverFree, Next, Rows, answers, reads}
use Rattle.runs.specs.TwoFiles.{CannotJudge, IsNotRefused, IsRefusedFirst, Judging, after_first, of_both, of_two_files}
use Rattle.runs.proofs.Answering.{AreAnswered, IsAnsweredAfter, IsDecisive}
use Rattle.runs.proofs.OneFile.{freer, the_one}
use Rattle.runs.proofs.OneReply.{EndsWhole, ends_whole, not_both}
use Rattle.runs.proofs.Replied.{EndsAfter}

module _ {C : Type 0} (judging : Judging C) (first second : File) (Of : C → Answers) (IsFree : C → List ℕ → Status → Type 0) (is : IsDecisive first.limit judging) (are : IsAnsweredAfter judging first.limit second.limit Of IsFree) where
  agree : (contents : List (List ℕ)) (next other : Next) → of_two_files judging first second Of contents next → of_two_files judging first second Of contents other → Agree next other
  agree [] (reads a) (reads b) h k = h ∙ sym k
  agree [] (reads a) other h k = absurd k
  agree (one ∷ []) (answers status text) (answers other line) h k = (is.refusal one).one_status status other text line h k
  agree (one ∷ []) (answers status text) (reads b) h k = absurd (is.not_both one status text k.0 h)
  agree (one ∷ []) (reads a) (answers status line) h k = absurd (is.not_both one status line h.0 k)
  agree (one ∷ []) (reads a) (reads b) h k = h.1 ∙ sym k.1
  agree (one ∷ other ∷ []) (answers status text) (answers found line) h k =
      (are one k.0 k.1 other).one_status status found text line (subst (λ (c : C). Of c other status text) (is.one_said one h.0 k.0 h.1 k.1) h.2) k.2
  agree (one ∷ other ∷ []) (answers status text) next h k = absurd k
  agree contents next other h k = absurd h

  every_next : HasNext (of_two_files judging first second Of)
  every_next [] reading = (reads first, refl)
  every_next (one ∷ []) (file, same, gives, rest) =
      let within = subst (λ (f : File). length one ≤ f.limit) same gives.1 in
      elim (is.some one within) [
        | inl passed ↦ (reads second, (passed, refl))
        | inr refused ↦ (answers refused.0 refused.1, refused.2)
      ]
  every_next (one ∷ other ∷ []) (file, is_first, gives, (next, (passed, same), short, rest)) =
      let one_within = subst (λ (f : File). length one ≤ f.limit) is_first gives.1 in
      let other_within = subst (λ (f : File). length other ≤ f.limit) same short.1 in
      let answer = (are one passed.0 passed.1 other).some (one_within, other_within) in
      (answers answer.0 answer.1, (passed.0, passed.1, answer.2))
  every_next (one ∷ other ∷ more ∷ rest) reading = absurd reading.3.3.1

  few : (contents : List (List ℕ)) (file : File) → of_two_files judging first second Of contents (reads file) → length contents < 2
  few [] file row = omega arith
  few (one ∷ []) file row = omega arith
  few (one ∷ other ∷ []) file row = absurd row
  few (one ∷ other ∷ more ∷ rest) file row = absurd row

  whole_row : (contents : List (List ℕ)) (status : Status) (text : List ℕ) → of_two_files judging first second Of contents (answers status text) → is_aborted status ≡ false
  whole_row (one ∷ []) status text row = (is.refusal one).whole status text row
  whole_row (one ∷ other ∷ []) status text row = (are one row.0 row.1 other).whole status text row.2
  whole_row contents status text row = absurd row

  line_of : (contents : List (List ℕ)) (status : Status) → (of_both judging IsFree contents status → ⊥) → HasOneText (of_two_files judging first second Of) contents status
  line_of (one ∷ []) status determined text line h k = (is.refusal one).one_text status text line (λ free. free) h k
  line_of (one ∷ other ∷ []) status determined text line h k =
      (are one k.0 k.1 other).one_text status text line (λ free. determined (k.0, k.1, free)) (subst (λ (c : C). Of c other status text) (is.one_said one h.0 k.0 h.1 k.1) h.2) k.2
  line_of contents status determined text line h k = absurd h

  pub both_answered : AreAnswered (of_two_files judging first second Of) (of_both judging IsFree)
  both_answered = record { one_next = agree; next = every_next; most = 2; few = few; whole = whole_row; one_text = line_of }

-- the rows of two files of which every text is determined
pub both_answered_once : {C : Type 0} (judging : Judging C) (first second : File) (Of : C → Answers) → IsDecisive first.limit judging → IsAnsweredAfter judging first.limit second.limit Of (λ c other status. ⊥)
    → AreAnswered (of_two_files judging first second Of) NeverFree
both_answered_once {C} judging first second Of is are =
    let IsFree : C → List ℕ → Status → Type 0 = λ c other status. ⊥ in
    freer (of_two_files judging first second Of) (of_both judging IsFree) NeverFree none (both_answered judging first second Of IsFree is are)
  where
    none : (contents : List (List ℕ)) (status : Status) → of_both judging (λ c other status. ⊥) contents status → ⊥
    none (one ∷ other ∷ []) status free = free.2
    none contents status free = free

-- the first file is refused after it was read, or out of memory
pub ends_refused : {C : Type 0} (judging : Judging C) (rows : Rows) (one : List ℕ) (status : Status) (text : List ℕ)
    → (judging.IsRefused one status text → rows (one ∷ []) (answers status text)) → (judging.IsRefused one status text → status ≡ ReadFault → ⊥)
    → CannotJudge judging one status text → EndsAfter rows (one ∷ []) status text
ends_refused judging rows one status text next no_fault (inl h) = record { ends = inl (next h); no_fault = no_fault h }
ends_refused judging rows one status text next no_fault (inr h) = record { ends = inr h; no_fault = λ e. cc (sym e ∙ h.0) }

-- A reply that is not aborted is by the first file, where that is short enough: it is refused, or some second file is answered. Or a file is too long.
pub judged_or_long : {C : Type 0} (judging : Judging C) (files : Files) (first second : File) (Of : C → Answers) (status : Status) (text : List ℕ) (taken : ℕ) → is_aborted status ≡ false
    → Replies (Some files) (of_two_files judging first second Of) status text taken
    → ((one : List ℕ) × (held files first.name ≡ Some one) × (length one ≤ first.limit) × (judging.IsRefused one status text ⊎ ((other : List ℕ) × after_first judging Of one other status text))) ⊎ (status ≡ TooLong)
judged_or_long judging files first second Of status text taken whole h = after h.contents h.reading (ends_whole (Some files) (of_two_files judging first second Of) h.contents status text h.part whole h.ends)
  where
    after : (contents : List (List ℕ)) → AreFirstContents (Some files) (of_two_files judging first second Of) contents → EndsWhole (Some files) (of_two_files judging first second Of) contents status text h.part
        → ((one : List ℕ) × (held files first.name ≡ Some one) × (length one ≤ first.limit) × (judging.IsRefused one status text ⊎ ((other : List ℕ) × after_first judging Of one other status text))) ⊎ (status ≡ TooLong)
    after [] reading (inl row) = absurd row.0
    after (one ∷ []) reading (inl row) =
        let holds = subst (λ (f : File). (held files f.name ≡ Some one) × (length one ≤ f.limit)) reading.1 reading.2 in
        inl (one, holds.0, holds.1, inl row.0)
    after (one ∷ other ∷ []) reading (inl row) =
        let holds = subst (λ (f : File). (held files f.name ≡ Some one) × (length one ≤ f.limit)) reading.1 reading.2 in
        inl (one, holds.0, holds.1, inr (other, row.0))
    after (one ∷ other ∷ more ∷ rest) reading (inl row) = absurd row.0
    after contents reading (inr long) = inr long.2.1

-- ---- a first file that is refused

is_there : (o : Option (List ℕ)) (bytes : List ℕ) → o ≡ Some bytes → IsSome o
is_there (Some found) bytes h = refl
is_there None bytes h = absurd (cc h)

module _ {C : Type 0} (judging : Judging C) (files : Files) (first second : File) (Of : C → Answers) (one : List ℕ) (known : held files first.name ≡ Some one) (short : length one ≤ first.limit) (stops : IsNotRefused judging one → ⊥) where
  -- what was read first is not passed
  not_passed : (file : File) (bytes : List ℕ) → file ≡ first → ReadsWhole (Some files) file bytes → IsNotRefused judging bytes → ⊥
  not_passed file bytes same gives passed = stops (subst (λ (b : List ℕ). IsNotRefused judging b) (the_one files first file one bytes known same gives) passed)

  reached_first : (file : File) (contents : List (List ℕ)) → AreFirstContents (Some files) (of_two_files judging first second Of) contents → of_two_files judging first second Of contents (reads file) → file ≡ first
  reached_first file [] reading next = next
  reached_first file (bytes ∷ []) (read, same, gives, rest) next = absurd (not_passed read bytes same gives next.0)
  reached_first file (bytes ∷ other ∷ more) (read, same, gives, next) after = absurd (not_passed read bytes same gives next.1.0)

  reply_first : (contents : List (List ℕ)) (status : Status) (text : List ℕ) (part : ℕ) → AreFirstContents (Some files) (of_two_files judging first second Of) contents
      → EndsWhole (Some files) (of_two_files judging first second Of) contents status text part → judging.IsRefused one status text
  reply_first [] status text part reading (inl h) = absurd h.0
  reply_first [] status text part reading (inr h) = absurd (not_both files first h.0 one (sym h.1) (known, short) h.2.0)
  reply_first (bytes ∷ []) status text part (read, same, gives, rest) (inl h) = subst (λ (b : List ℕ). judging.IsRefused b status text) (the_one files first read one bytes known same gives) h.0
  reply_first (bytes ∷ []) status text part (read, same, gives, rest) (inr h) = absurd (not_passed read bytes same gives h.1.0)
  reply_first (bytes ∷ other ∷ more) status text part (read, same, gives, next) h = absurd (not_passed read bytes same gives next.1.0)

  pub refused_first : IsRefusedFirst judging files (of_two_files judging first second Of) first one
  refused_first =
      let reached : (file : File) → Reached (Some files) (of_two_files judging first second Of) file → file ≡ first = λ file r. reached_first file r.0 r.1 r.2 in
      record {
        reply = λ status text taken e r. reply_first r.contents status text r.part r.reading (ends_whole (Some files) (of_two_files judging first second Of) r.contents status text r.part e r.ends);
        reached = reached;
        no_fault = λ file r. subst (λ (f : File). IsThere (Some files) f.name) (sym (reached file r)) (is_there (held files first.name) one known);
      }
