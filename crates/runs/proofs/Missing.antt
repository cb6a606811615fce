-- A file that is not there is neither read whole nor too long, so what needs it is aborted.
use Rattle.std.proofs.Common.{◌≡◌, ℕ, List, [], ◌∷◌, refl, sym, subst, Option, Some, inl, inr}
use Rattle.std.specs.Prelude.{IsSome}
use Rattle.std.proofs.lemmas.Bool.{true_from_ne_false}
use Rattle.tml_io.specs.Files.{Files, HasContents, IsThere, held}
use Rattle.runs.specs.declared.status.Status.{Status}
use Rattle.runs.specs.declared.status.Status.TheVariants.{ReadFault}
use Rattle.runs.specs.Missing.{MissingBreaksOff, ReadFaultHasFile}
use Rattle.runs.specs.OneReply.{HasOneNext, is_aborted}
use Rattle.runs.specs.Reading.{ReadsWhole, AreFirstContents}
use Rattle.runs.specs.Replies.{RepliesAfter}
use Rattle.runs.specs.Rows.{File, Freedom, Rows, answers, once_read, reads}
use Rattle.runs.proofs.Answering.{AreAnswered}
use Rattle.runs.proofs.OneReply.{EndsWhole, ends_whole, not_yet, one_held}

-- a name that holds something is there
is_there : (files : Files) (file other : File) (bytes : List ℕ) → file ≡ other → HasContents (Some files) other.name bytes → IsThere (Some files) file.name
is_there files file other bytes same holds =
    subst (λ (f : File). IsThere (Some files) f.name) (sym same) (subst (λ (o : Option (List ℕ)). IsSome o) (sym holds) refl)

module _ (files : Files) (file : File) (gone : IsThere (Some files) file.name → ⊥) (status : Status) (text : List ℕ) (part : ℕ) where
  no_end : (rows : Rows) → HasOneNext rows → (contents others : List (List ℕ)) → AreFirstContents (Some files) rows contents → rows contents (reads file)
      → AreFirstContents (Some files) rows others → EndsWhole (Some files) rows others status text part → ⊥
  no_end rows one [] [] r next q (inl h) = one [] (answers status text) (reads file) h.0 next
  no_end rows one [] [] r next q (inr h) = gone (is_there files file h.0 h.2.0.0 (one [] (reads file) (reads h.0) next h.1) h.2.0.1)
  no_end rows one [] (d ∷ ds) r next q h = gone (is_there files file q.0 d (one [] (reads file) (reads q.0) next q.1) q.2.0)
  no_end rows one (c ∷ cs) [] r next q h = not_yet rows one files [] status text part r.0 c h r.1 r.2
  no_end rows one (c ∷ cs) (d ∷ ds) r next q h =
      let same = one [] (reads r.0) (reads q.0) r.1 q.1 in
      let gives = subst (λ (f : File). ReadsWhole (Some files) f c) same r.2 in
      let bytes = one_held (held files q.0.name) c d gives.0 q.2.0 in
      no_end (once_read c rows) (λ contents. one (c ∷ contents)) cs ds r.3 next
      (subst (λ (b : List ℕ). AreFirstContents (Some files) (once_read b rows) ds) (sym bytes) q.3)
      (subst (λ (b : List ℕ). EndsWhole (Some files) rows (b ∷ ds) status text part) (sym bytes) h)

pub missing_breaks_off : (rows : Rows) → HasOneNext rows → MissingBreaksOff rows
missing_breaks_off rows one = λ files file status text taken reached gone replies.
    true_from_ne_false (is_aborted status) (λ whole. no_end files file gone status text replies.part rows one reached.0 replies.contents reached.1 reached.2
    replies.reading (ends_whole (Some files) rows replies.contents status text replies.part whole replies.ends))

has_file : (rows : Rows) (IsFree : Freedom) → AreAnswered rows IsFree → (known : Option Files) (contents : List (List ℕ)) (text : List ℕ) (part : ℕ)
    → RepliesAfter known rows contents ReadFault text part → (file : File) × rows contents (reads file)
has_file rows IsFree are known contents text part (inl h) = absurd (cc (are.whole contents ReadFault text h.0))
has_file rows IsFree are known contents text part (inr (inl h)) = (h.0, h.1)
has_file rows IsFree are known contents text part (inr (inr h)) = absurd (cc h.0)

pub read_fault_has_file : (rows : Rows) (IsFree : Freedom) → AreAnswered rows IsFree → ReadFaultHasFile rows
read_fault_has_file rows IsFree are = λ known text taken replies.
    let found = has_file rows IsFree are known replies.contents text replies.part replies.ends in
    (found.0, (replies.contents, replies.reading, found.1))
