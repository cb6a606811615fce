-- The document of a drill is accepted, its links can all be true, and it has one summary.
use Rattle.std.proofs.Common.{◌≡◌, inl, ℕ, ◌*◌, ◌≤◌, List, [], ◌∷◌, ◌++◌, length, codes, refl, sym, ap, subst, ◌∙◌, arith, le_antisymm}
use Rattle.std.specs.List.{All, Contains}
use Rattle.std.proofs.lemmas.List.Elements.{All-get_or}
use Rattle.std.proofs.lemmas.List.FromFn.{length-map-range_with_len}
use Rattle.faults.specs.declared.kind.FaultKind.{FaultKind}
use Rattle.net_core.specs.Fits.{RanksFit}
use Rattle.net_core.specs.Nets.{PlainNet, points}
use Rattle.net_core.specs.Ranks.{pairs_of}
use Rattle.net_build.specs.Built.{IsNetOf}
use Rattle.net_build.proofs.Intervals.{as_many}
use Rattle.net_build.proofs.OneNet.{one_net}
use Rattle.derive_rel.specs.declared.all_rows.Row.{Row}
use Rattle.drill.specs.Laws.{IsDrill}
use Rattle.drill.specs.Texts.{drill_contents, drill_document, instance_name}
use Rattle.drill.proofs.Accepted.{drill_is_accepted}
use Rattle.evidence_check.specs.Claims.{ShowsTruth}
use Rattle.evidence_check.specs.Supported.{IsSupported}
use Rattle.evidence_check.proofs.Soundness.{supported_is_true}
use Rattle.evidence_format.proofs.Claims.{all_of_one}
use Rattle.evidence_format.specs.Bundles.{IsClaimText}
use Rattle.evidence_format.specs.Evidence.{timeline}
use Rattle.tml_refs.specs.Documents.{PlainDocument, instance}
use Rattle.tml_accept.specs.Acceptance.{FirstFault, Says}
use Rattle.order_answers.specs.Drill.{AreFigures, IsGreatest, IsSummary, figure_lines}
use Rattle.net_core.specs.Least.{AreLeastRanks}
use Rattle.evidence_answers.specs.Verify.{OfEvidence, OfVerify}
use Rattle.runs.specs.View.{finding_status}
use Rattle.runs.specs.declared.answer.Finding.{Finding}
use Rattle.runs.specs.declared.answer.Finding.TheVariants as findings
use Rattle.runs.specs.declared.status.Status.{Status}
use Rattle.runs.specs.declared.status.Status.TheVariants.{Done}
use Rattle.order_answers.specs.declared.drill_command.Figures.{Figures}
use Rattle.order_answers.proofs.RelationsAnswered.{one_list_of}
use Rattle.net_answers.proofs.Nets.{one_net_of}
use Rattle.evidence_answers.proofs.VerifyAnswered.{of_evidence}
use Rattle.tml_accept.proofs.Phases.{accepted_or_fault, one_document}
use Rattle.order_answers.proofs.Timelines.{one_least, timeline_supported}

-- it has no fault
pub no_fault : (n : ℕ) (kind : FaultKind) (place : ℕ) → IsDrill n → FirstFault (drill_document n) kind place → ⊥
no_fault n kind place drill fault = accepted_or_fault (drill_document n) kind place (drill_contents n, drill_is_accepted n drill) fault

-- it says nothing else
pub only_drawn : (n : ℕ) (contents : PlainDocument) → IsDrill n → Says (drill_document n) contents → contents ≡ drill_contents n
only_drawn n contents drill says = one_document (drill_document n) contents (drill_contents n) says (drill_is_accepted n drill)

-- its net has as many intervals as its number says
pub as_many_points : (n : ℕ) (net : PlainNet) → IsNetOf (drill_contents n) net → points net ≡ 2 * n
as_many_points n net built =
    let size : length (drill_contents n).intervals ≡ n = length-map-range_with_len (λ (i : ℕ). instance (instance_name i)) 0 n in
    omega (arith, as_many (drill_contents n) net built, size)

-- ---- the verdict on its timeline

-- only one finding has the status Done
finding_done : (finding : Finding) → finding_status finding ≡ Done → finding ≡ findings.Done
finding_done findings.Done e = refl
finding_done finding e = absurd cc

-- the verdict on the text of a timeline that fits the net of a document
pub timeline_verdict : (contents : PlainDocument) (net : PlainNet) (ranks text : List ℕ) (finding : Finding) (line : List ℕ) → IsNetOf contents net → RanksFit net ranks → IsClaimText (timeline (pairs_of ranks)) text
    → OfVerify contents text (finding_status finding) line → (finding ≡ findings.Done) × (line ≡ codes "verified timeline\n")
timeline_verdict contents net ranks text finding line built fit is (other, is_net, told) =
    let verdict = subst (λ (n : PlainNet). OfEvidence contents n text (finding_status finding) line) (one_net contents other net is_net built) told in
    let e = timeline (pairs_of ranks) in
    let shows = timeline_supported net ranks fit in
    let done : OfEvidence contents net text Done (codes "verified timeline\n") = (e ∷ [], inl is, all_of_one (IsSupported net) e shows, all_of_one (ShowsTruth net) e (supported_is_true net e shows), refl) in
    let status = (of_evidence contents net text).one_status (finding_status finding) Done line (codes "verified timeline\n") verdict done in
    (finding_done finding status, (of_evidence contents net text).one_text Done line (codes "verified timeline\n") (λ free. free) (subst (λ (s : Status). OfEvidence contents net text s line) status verdict) done)

-- ---- one summary

-- numbers have one greatest
one_greatest : (ranks : List ℕ) (g h : ℕ) → IsGreatest ranks g → IsGreatest ranks h → g ≡ h
one_greatest ranks g h (in_g, above_g) (in_h, above_h) = le_antisymm (below ranks g h in_g above_h) (below ranks h g in_h above_g)
  where
    below : (ranks : List ℕ) (g h : ℕ) → Contains ranks g → All (λ n. n ≤ h) ranks → g ≤ h
    below ranks g h (k, lt, e) all = subst (λ n. n ≤ h) e (All-get_or (λ n. n ≤ h) ranks k _ lt all)

-- a drill has one list of figures
one_figures : (n : ℕ) (a b : Figures) → AreFigures n a → AreFigures n b → a ≡ b
one_figures n a b h k =
    let net = one_net_of (drill_document n) h.net k.net h.has_net k.has_net in
    let ranks = one_least k.net h.ranks k.ranks (subst (λ (m : PlainNet). AreLeastRanks m h.ranks) net h.least) k.least in
    let rows = one_list_of h.net k.net h.rows k.rows net h.follow k.follow in
    let greatest = one_greatest k.ranks a.greatest b.greatest (subst (λ (rs : List ℕ). IsGreatest rs a.greatest) ranks h.greatest) k.greatest in
    let links : a.links ≡ b.links = h.links ∙ ap (λ (m : PlainNet). length m.links) net ∙ sym k.links in
    let relations : a.relations ≡ b.relations = h.relations ∙ ap (λ (rs : List Row). length rs) rows ∙ sym k.relations in
    let drill : a.drill ≡ b.drill = h.drill ∙ sym k.drill in
    let bytes : a.bytes ≡ b.bytes = h.bytes ∙ sym k.bytes in
    λ i. record { drill = drill i; bytes = bytes i; links = links i; greatest = greatest i; relations = relations i }

-- a drill has one summary
pub one_summary : (n : ℕ) (text line : List ℕ) → IsSummary n text → IsSummary n line → text ≡ line
one_summary n text line h k = h.2 ∙ ap (λ (f : Figures). figure_lines f ++ codes "verified timeline\n") (one_figures n h.0 k.0 h.1 k.1) ∙ sym k.2
