-- What `confirm` says is so.
use Rattle.std.proofs.Common.{◌≡◌, ℕ, List, [], ◌∷◌, codes, get_or, refl, sym, ap, subst, Some, inl, inr, arith}
use Rattle.answers.specs.Judged.{documents}
use Rattle.answers.proofs.Contents.{its_document}
use Rattle.seconds_build.specs.Built.{IsTimedOf}
use Rattle.seconds_build.proofs.EveryTime.{every_timed}
use Rattle.seconds_build.proofs.Nets.{one_timed}
use Rattle.seconds_core.specs.Evidence.{PlainSeconds, Placed, Cycle}
use Rattle.seconds_core.specs.Placed.{HasPlacing}
use Rattle.seconds_core.specs.Timed.{IsTimed, PlainTimed}
use Rattle.seconds_core.proofs.Sums.{negative_is_unplaced}
use Rattle.seconds_check.specs.Confirmed.{IsConfirmed}
use Rattle.seconds_format.specs.Texts.{IsSecondsText}
use Rattle.tml_accept.specs.Acceptance.{Says}
use Rattle.tml_io.specs.Files.{Files, held}
use Rattle.tml_refs.specs.Documents.{PlainDocument}
use Rattle.runs.specs.Replies.{Replies}
use Rattle.runs.specs.declared.status.Status.TheVariants.{Done}
use Rattle.runs.specs.Reading.{AreFirstContents}
use Rattle.runs.specs.Rows.{File}
use Rattle.runs.specs.TwoFiles.{after_first}
use Rattle.runs.proofs.OneReply.{EndsWhole, ends_whole}
use Rattle.evidence_answers.specs.ConfirmTexts.{seconds_claim_line}
use Rattle.evidence_answers.specs.Confirmed.{OfConfirm, ReportsClaim, confirm_rows}
use Rattle.evidence_answers.specs.Truth.{CycleIsTrue, HoldsPlacing, HoldsTimed, PlacingIsTrue}

-- what a reply Done says is of the net of the document, and of what the other file holds
record Claims (files : Files) (name other text : List ℕ) : Type 0 where
  timed : PlainTimed
  of : HoldsTimed files name timed
  is : IsTimed timed
  bytes : List ℕ
  holds : held files other ≡ Some bytes
  claim : ReportsClaim timed bytes text

-- the net of a document is one
pub is_timed : (doc : List ℕ) (contents : PlainDocument) (timed : PlainTimed) → Says doc contents → IsTimedOf contents timed → IsTimed timed
is_timed doc contents timed says built =
    let (other, too, is) = every_timed contents (its_document doc contents says) in
    subst IsTimed (one_timed contents other timed too built) is

module _ (files : Files) (name other text : List ℕ) where
  both_read : (doc bytes : List ℕ) → AreFirstContents (Some files) (confirm_rows name other) (doc ∷ bytes ∷ []) → after_first documents OfConfirm doc bytes Done text → Claims files name other text
  both_read doc bytes (file, is_doc, gives, (next, row, gives_next, end)) (contents, says, (timed, built, claim)) = record {
    timed = timed;
    of = record { doc = doc; contents = contents; holds = subst (λ (f : File). held files f.name ≡ Some doc) is_doc gives.0; says = says; built = built };
    is = is_timed doc contents timed says built;
    bytes = bytes;
    holds = subst (λ (f : File). held files f.name ≡ Some bytes) row.1 gives_next.0;
    claim = claim;
  }

  after : (contents : List (List ℕ)) (part : ℕ) → AreFirstContents (Some files) (confirm_rows name other) contents → EndsWhole (Some files) (confirm_rows name other) contents Done text part → Claims files name other text
  after [] part reading (inl row) = absurd row.0
  after (doc ∷ []) part reading (inl row) = absurd (cc row.0.0)
  after (doc ∷ bytes ∷ []) part reading (inl row) = both_read doc bytes reading row.0
  after (doc ∷ bytes ∷ more ∷ rest) part reading (inl row) = absurd row.0
  after contents part reading (inr long) = absurd (cc long.2.1)

  claimed : (taken : ℕ) → Replies (Some files) (confirm_rows name other) Done text taken → Claims files name other text
  claimed taken h = after h.contents h.part h.reading (ends_whole (Some files) (confirm_rows name other) h.contents Done text h.part refl h.ends)

-- the lines of both claims differ
differ : codes "confirmed placing\n" ≡ codes "confirmed cycle\n" → ⊥
differ e = let letter = ap (λ (line : List ℕ). get_or line 10 0) e in omega (arith, letter)

placing_of : (files : Files) (other : List ℕ) (timed : PlainTimed) (bytes : List ℕ) → held files other ≡ Some bytes
    → (e : PlainSeconds) → IsSecondsText e bytes → IsConfirmed timed e → codes "confirmed placing\n" ≡ seconds_claim_line e → HoldsPlacing files other timed
placing_of files other timed bytes holds (Placed seconds) text confirmed line = (bytes, seconds, holds, text, confirmed)
placing_of files other timed bytes holds (Cycle lines) text confirmed line = absurd (differ line)

no_placing : (timed : PlainTimed) → IsTimed timed → (e : PlainSeconds) → IsConfirmed timed e → codes "confirmed cycle\n" ≡ seconds_claim_line e → HasPlacing timed → ⊥
no_placing timed is (Cycle lines) confirmed line = negative_is_unplaced timed lines is confirmed
no_placing timed is (Placed seconds) confirmed line = absurd (differ (sym line))

pub placing_is_true : PlacingIsTrue
placing_is_true = λ files name other taken h.
    let found = claimed files name other (codes "confirmed placing\n") taken h in
    let (e, text, confirmed, line) = found.claim in
    (found.timed, found.of, placing_of files other found.timed found.bytes found.holds e text confirmed line)

pub cycle_is_true : CycleIsTrue
cycle_is_true = λ files name other taken h.
    let found = claimed files name other (codes "confirmed cycle\n") taken h in
    let (e, text, confirmed, line) = found.claim in
    (found.timed, found.of, no_placing found.timed found.is e confirmed line)
