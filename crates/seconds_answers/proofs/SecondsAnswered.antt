-- A document has one answer in seconds: one status. Which placing or which cycle is printed is free.
use Rattle.std.proofs.Common.{◌≡◌, ◌⊎◌, ℕ, List, [], ◌∷◌, refl, inl, inr}
use Rattle.std.specs.Prelude.{⊤}
use Rattle.answers.specs.Documents.{doc_file, of_contents, of_its_contents}
use Rattle.answers.proofs.Answering.{ContentsAreAnswered}
use Rattle.answers.proofs.Answered.{contents_answered}
use Rattle.answers.proofs.Contents.{its_document}
use Rattle.seconds_build.specs.Built.{IsTimedOf}
use Rattle.seconds_build.proofs.EveryTime.{every_timed}
use Rattle.seconds_build.proofs.Nets.{one_timed}
use Rattle.seconds_core.specs.Timed.{IsTimed, PlainTimed}
use Rattle.tml_refs.specs.Documents.{PlainDocument}
use Rattle.runs.specs.OneFile.{of_its_bytes}
use Rattle.runs.specs.declared.status.Status.{Status}
use Rattle.runs.specs.declared.status.Status.TheVariants.{Clash, Done}
use Rattle.runs.proofs.Answering.{AreAnswered, IsAnswered, by_the_one, one_of_two}
use Rattle.runs.proofs.OneFile.{answered, freer}
use Rattle.seconds_answers.specs.Seconds.{OfSeconds, OfTimed, SecondsAreFree, seconds_rows}
use Rattle.seconds_answers.proofs.Whole.{timed_answered}

either : (timed : PlainTimed) (status : Status) (text : List ℕ) → OfTimed timed status text → (status ≡ Done) ⊎ (status ≡ Clash)
either timed Done text h = inl refl
either timed Clash text h = inr refl
either timed status text h = absurd h

-- the texts of a placing and of a cycle are free, and there are no others
abbrev IsFree : PlainDocument → Status → Type 0
IsFree contents status = (status ≡ Done) ⊎ (status ≡ Clash)

of_timed : (contents : PlainDocument) (timed : PlainTimed) → IsTimed timed → IsAnswered ⊤ (OfTimed timed) (IsFree contents)
of_timed contents timed is = one_of_two (OfTimed timed) (IsFree contents) Done Clash refl refl (either timed) (λ text line h k. k.0 (h.0, h.1))
    (λ text line determined. absurd (determined (inl refl))) (λ text line determined. absurd (determined (inr refl))) (λ given. timed_answered timed is)

seconds : ContentsAreAnswered OfSeconds IsFree
seconds doc contents says =
    let (timed, built, is) = every_timed contents (its_document doc contents says) in
    by_the_one (IsTimedOf contents) (one_timed contents) OfTimed timed built (of_timed contents timed is)

free : (contents : List (List ℕ)) (status : Status) → of_its_bytes (of_its_contents IsFree) contents status → SecondsAreFree contents status
free (doc ∷ []) status is = is.2
free contents status is = absurd is

pub seconds_answered : (name : List ℕ) → AreAnswered (seconds_rows name) SecondsAreFree
seconds_answered name = freer (seconds_rows name) (of_its_bytes (of_its_contents IsFree)) SecondsAreFree free
    (answered (doc_file name) (of_contents OfSeconds) (of_its_contents IsFree) (contents_answered OfSeconds IsFree seconds))
