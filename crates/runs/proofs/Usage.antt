-- Words that have no form have one answer, and no file is read for it.
use Rattle.std.proofs.Common.{◌≡◌, ◌<◌, ℕ, Bool, false, List, [], ◌∷◌, length, refl, sym, ◌∙◌, inl}
use Rattle.tml_io.specs.Known.{KnownInputs}
use Rattle.runs.specs.EveryReply.{HasNext}
use Rattle.runs.specs.OneReply.{Agree, HasOneText, is_aborted}
use Rattle.runs.specs.Replied.{IsReplyTo}
use Rattle.runs.specs.Rows.{File, NeverFree, Next, answers, reads}
use Rattle.runs.specs.Words.{usage_rows}
use Rattle.runs.specs.declared.status.Status.{Status}
use Rattle.runs.specs.declared.status.Status.TheVariants.{Usage}
use Rattle.runs.proofs.Answering.{AreAnswered}
use Rattle.runs.proofs.Replied.{by_none}

module _ (usage : List ℕ) where
  agree : (contents : List (List ℕ)) (next other : Next) → usage_rows usage contents next → usage_rows usage contents other → Agree next other
  agree [] (answers Usage text) (answers Usage line) h k = refl
  agree [] (answers Usage text) other h k = absurd k
  agree contents next other h k = absurd h

  every_next : HasNext (usage_rows usage)
  every_next [] reading = (answers Usage usage, refl)
  every_next (bytes ∷ rest) reading = absurd reading.1

  few : (contents : List (List ℕ)) (file : File) → usage_rows usage contents (reads file) → length contents < 0
  few [] file row = absurd row
  few (bytes ∷ rest) file row = absurd row

  whole : (contents : List (List ℕ)) (status : Status) (text : List ℕ) → usage_rows usage contents (answers status text) → is_aborted status ≡ false
  whole [] Usage text row = refl
  whole contents status text row = absurd row

  one_text : (contents : List (List ℕ)) (status : Status) → (NeverFree contents status → ⊥) → HasOneText (usage_rows usage) contents status
  one_text [] Usage determined text line h k = h ∙ sym k
  one_text contents status determined text line h k = absurd h

  pub usage_answered : AreAnswered (usage_rows usage) NeverFree
  usage_answered = record { one_next = agree; next = every_next; most = 0; few = few; whole = whole; one_text = one_text }

  -- the usage text is the reply
  pub usage_replied : {S : Type 0} (known : S → KnownInputs) (now : S) (text : List ℕ) → text ≡ usage → IsReplyTo known (usage_rows usage) [] now now Usage text
  usage_replied known now text is = by_none known (usage_rows usage) now Usage text (record { ends = inl is; no_fault = λ e. cc })
