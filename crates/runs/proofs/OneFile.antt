-- What the rows of one file have, by what its contents are answered.
use Rattle.std.proofs.Common.{◌≡◌, ◌⊎◌, ◌<◌, ◌≤◌, ℕ, ◌+◌, List, [], ◌∷◌, false, length, refl, sym, subst, ◌∙◌, inl, inr, arith, Some}
use Rattle.std.specs.Prelude.{⊤}
use Rattle.tml_io.specs.Files.{Files, held}
use Rattle.runs.specs.declared.status.Status.{Status}
use Rattle.runs.specs.declared.status.Status.TheVariants.{TooLong}
use Rattle.runs.specs.EveryReply.{HasNext}
use Rattle.runs.specs.OneFile.{Answers, of_its_bytes, of_one_file}
use Rattle.runs.proofs.Answering.{AreAnswered, IsAnswered}
use Rattle.runs.specs.OneReply.{Agree, HasOneText, is_aborted}
use Rattle.runs.specs.Reading.{ReadsWhole, AreFirstContents, total_length}
use Rattle.runs.specs.Replies.{Replies}
use Rattle.runs.specs.Rows.{File, Freedom, NeverFree, Next, Rows, answers, reads}
use Rattle.runs.proofs.OneReply.{EndsWhole, ends_whole, not_both, one_held}

module _ (file : File) (Of : Answers) (IsFree : List ℕ → Status → Type 0) (are : (bytes : List ℕ) → IsAnswered ⊤ (Of bytes) (IsFree bytes)) where
  agree : (contents : List (List ℕ)) (next other : Next) → of_one_file file Of contents next → of_one_file file Of contents other → Agree next other
  agree [] (reads a) (reads b) h k = h ∙ sym k
  agree [] (reads a) other h k = absurd k
  agree (bytes ∷ []) (answers status text) (answers other line) h k = (are bytes).one_status status other text line h k
  agree (bytes ∷ []) (answers status text) other h k = absurd k
  agree contents next other h k = absurd h

  every_next : HasNext (of_one_file file Of)
  every_next [] reading = (reads file, refl)
  every_next (bytes ∷ []) reading = let answer = (are bytes).some tt in (answers answer.0 answer.1, answer.2)
  every_next (bytes ∷ more ∷ rest) reading = absurd reading.3.1

  few : (contents : List (List ℕ)) (other : File) → of_one_file file Of contents (reads other) → length contents < 1
  few [] other row = omega arith
  few (bytes ∷ []) other row = absurd row
  few (bytes ∷ more ∷ rest) other row = absurd row

  whole : (contents : List (List ℕ)) (status : Status) (text : List ℕ) → of_one_file file Of contents (answers status text) → is_aborted status ≡ false
  whole (bytes ∷ []) status text row = (are bytes).whole status text row
  whole contents status text row = absurd row

  line_of : (contents : List (List ℕ)) (status : Status) → (of_its_bytes IsFree contents status → ⊥) → HasOneText (of_one_file file Of) contents status
  line_of (bytes ∷ []) status determined text line h k = (are bytes).one_text status text line determined h k
  line_of contents status determined text line h k = absurd h

  pub answered : AreAnswered (of_one_file file Of) (of_its_bytes IsFree)
  answered = record { one_next = agree; next = every_next; most = 1; few = few; whole = whole; one_text = line_of }

-- what is determined where less is free
pub freer : (rows : Rows) (A B : Freedom) → ((contents : List (List ℕ)) (status : Status) → A contents status → B contents status) → AreAnswered rows A → AreAnswered rows B
freer rows A B into are = record {
  one_next = are.one_next;
  next = are.next;
  most = are.most;
  few = are.few;
  whole = are.whole;
  one_text = λ contents status determined. are.one_text contents status (λ free. determined (into contents status free));
}

-- the rows of one file of which every text is determined
pub answered_once : (file : File) (Of : Answers) → ((bytes : List ℕ) → IsAnswered ⊤ (Of bytes) (λ status. ⊥)) → AreAnswered (of_one_file file Of) NeverFree
answered_once file Of are = freer (of_one_file file Of) (of_its_bytes (λ bytes status. ⊥)) NeverFree none (answered file Of (λ bytes status. ⊥) are)
  where
    none : (contents : List (List ℕ)) (status : Status) → of_its_bytes (λ bytes status. ⊥) contents status → ⊥
    none (bytes ∷ []) status free = free
    none contents status free = free

-- ---- replies by a file that is there

-- a file that was read is the one that a name holds
pub the_one : (files : Files) (file other : File) (bytes found : List ℕ) → held files file.name ≡ Some bytes → other ≡ file → ReadsWhole (Some files) other found → found ≡ bytes
the_one files file other bytes found known same gives = one_held (held files file.name) found bytes (subst (λ (f : File). held files f.name ≡ Some found) same gives.0) known

module _ (files : Files) (file : File) (Of : Answers) (bytes : List ℕ) (known : held files file.name ≡ Some bytes) (short : length bytes ≤ file.limit) where
  answer_after : (contents : List (List ℕ)) (status : Status) (text : List ℕ) (part : ℕ) → AreFirstContents (Some files) (of_one_file file Of) contents → EndsWhole (Some files) (of_one_file file Of) contents status text part → Of bytes status text
  answer_after [] status text part reading (inl h) = absurd h.0
  answer_after [] status text part reading (inr h) = absurd (not_both files file h.0 bytes (sym h.1) (known, short) h.2.0)
  answer_after (found ∷ []) status text part reading (inl h) = subst (λ (b : List ℕ). Of b status text) (the_one files file reading.0 bytes found known reading.1 reading.2) h.0
  answer_after (found ∷ []) status text part reading (inr h) = absurd h.1
  answer_after (found ∷ more ∷ rest) status text part reading h = absurd reading.3.1

  -- a reply that is not aborted answers what the file holds
  pub replied : (status : Status) (text : List ℕ) (taken : ℕ) → is_aborted status ≡ false → Replies (Some files) (of_one_file file Of) status text taken → Of bytes status text
  replied status text taken whole h = answer_after h.contents status text h.part h.reading (ends_whole (Some files) (of_one_file file Of) h.contents status text h.part whole h.ends)

  -- and each answer to that is a reply
  pub replies : (status : Status) (text : List ℕ) → Of bytes status text → Replies (Some files) (of_one_file file Of) status text (total_length (bytes ∷ []) + 0)
  replies status text h = record { contents = bytes ∷ []; reading = (file, refl, (known, short), tt); part = 0; ends = inl (h, refl); bytes = refl }

-- a reply that is not aborted is an answer to what the file holds, where that is short enough, or the file is too long
pub answered_or_long : (files : Files) (file : File) (Of : Answers) (status : Status) (text : List ℕ) (taken : ℕ) → is_aborted status ≡ false → Replies (Some files) (of_one_file file Of) status text taken
    → ((bytes : List ℕ) × (held files file.name ≡ Some bytes) × (length bytes ≤ file.limit) × Of bytes status text) ⊎ (status ≡ TooLong)
answered_or_long files file Of status text taken whole h = after h.contents h.reading (ends_whole (Some files) (of_one_file file Of) h.contents status text h.part whole h.ends)
  where
    after : (contents : List (List ℕ)) → AreFirstContents (Some files) (of_one_file file Of) contents → EndsWhole (Some files) (of_one_file file Of) contents status text h.part
        → ((bytes : List ℕ) × (held files file.name ≡ Some bytes) × (length bytes ≤ file.limit) × Of bytes status text) ⊎ (status ≡ TooLong)
    after [] reading (inl row) = absurd row.0
    after (bytes ∷ []) reading (inl row) =
        let gives = subst (λ (f : File). (held files f.name ≡ Some bytes) × (length bytes ≤ f.limit)) reading.1 reading.2 in
        inl (bytes, gives.0, gives.1, row.0)
    after (bytes ∷ more ∷ rest) reading (inl row) = absurd row.0
    after contents reading (inr long) = inr long.2.1
