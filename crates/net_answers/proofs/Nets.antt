-- A document has one net, and what is asked of it an answer: where no timeline fits a minimal clash.
use Rattle.std.proofs.Common.{◌≡◌, ◌⊎◌, ℕ, ◌<◌, List, [], ◌∷◌, map, refl, subst, inl, inr, arith}
use Rattle.std.specs.Prelude.{⊤}
use Rattle.std.specs.List.{Contains}
use Rattle.std.proofs.lemmas.Option.{slice_get_within}
use Rattle.answers.specs.Documents.{Contents, doc_file, document_rows, of_contents, of_its_contents}
use Rattle.answers.proofs.Answering.{ContentsAreAnswered}
use Rattle.answers.proofs.Answered.{contents_answered}
use Rattle.answers.proofs.Contents.{its_document}
use Rattle.clash.specs.Minimal.{IsProvedClash}
use Rattle.clash.specs.declared.minimal.Clash.{Clash as ClashOf}
use Rattle.clash.proofs.Answered.{every_net as answered_net}
use Rattle.evidence_format.proofs.Claims.{claim_text, has_claim_text}
use Rattle.evidence_format.specs.Evidence.{PlainEvidence, clash}
use Rattle.net_build.specs.Built.{IsNetOf}
use Rattle.net_build.proofs.EveryNet.{every_net}
use Rattle.net_build.proofs.Intervals.{as_many}
use Rattle.net_build.proofs.OneNet.{one_net}
use Rattle.net_core.specs.Entailment.{HasNoTimeline, HasTimeline}
use Rattle.net_core.specs.Fits.{EveryLink}
use Rattle.net_core.specs.Nets.{IsNet, PlainNet, intervals}
use Rattle.net_core.specs.Ranks.{pairs_of, timeline_of}
use Rattle.net_core.proofs.StepLaws.{fits_fewer}
use Rattle.tml_accept.specs.Acceptance.{Says}
use Rattle.tml_accept.proofs.Phases.{one_document}
use Rattle.tml_refs.specs.Documents.{IsNamed, PlainDocument}
use Rattle.runs.specs.OneFile.{of_its_bytes}
use Rattle.runs.specs.declared.status.Status.{Status}
use Rattle.runs.specs.declared.status.Status.TheVariants.{Clash}
use Rattle.runs.proofs.Answering.{Answer, AreAnswered, IsAnswered, by_the_one, left_only, one_answer, recast, right_only}
use Rattle.runs.proofs.OneFile.{answered, freer}
use Rattle.net_answers.specs.Nets.{ClashIsFree, HasNet, IsClash, NetAnswers, of_fitting, of_net}
use Rattle.net_answers.proofs.Answering.{NetsAreAnswered}
use Rattle.net_answers.specs.Showing.{ShowsClash}
use Rattle.net_answers.proofs.ClashProofs.{clash_well_formed, shows_clash}

pub one_net_of : (doc : List ℕ) (net other : PlainNet) → HasNet doc net → HasNet doc other → net ≡ other
one_net_of doc net other h k =
    let same = one_document doc h.0 k.0 h.1 k.1 in
    one_net k.0 net other (subst (λ (c : PlainDocument). IsNetOf c net) same h.2) k.2

-- the number of a named interval is that of one of the net
pub named_within : (contents : PlainDocument) (net : PlainNet) (name : List ℕ) (i : ℕ) → IsNetOf contents net → IsNamed contents.intervals name i → i < intervals net
named_within contents net name i built named = omega (arith, slice_get_within contents.intervals i named.0 named.1, as_many contents net built)

-- ---- every net is answered

-- the net of an accepted document
pub record HasItsNet (contents : PlainDocument) : Type 0 where
  pub net : PlainNet
  pub built : IsNetOf contents net
  pub is : IsNet net

pub its_net : (doc : List ℕ) (contents : PlainDocument) → Says doc contents → HasItsNet contents
its_net doc contents says =
    let found = every_net contents (its_document doc contents says) in
    record { net = found.0; built = found.1; is = found.2 }

-- some timeline fits a net, or a clash of it is printed
pub fits_or_clash : (net : PlainNet) → IsNet net → HasTimeline net ⊎ ((text : List ℕ) × ShowsClash net text)
fits_or_clash net is = elim (answered_net net is) [
  | inl least ↦ inl (timeline_of least.0, least.1.least.holds)
  | inr found ↦ inr (shown found.0 found.1)
]
  where
    shown : (found : ClashOf) → IsProvedClash net found → (text : List ℕ) × ShowsClash net text
    shown found proved =
        let none : HasNoTimeline net = λ t fits. proved.minimal.clashes t (fits_fewer net EveryLink (Contains found.cites) t (λ k below among. tt) fits) in
        let e : PlainEvidence = clash found.cites found.walk (map pairs_of found.spares) in
        (claim_text e, shows_clash net is found proved (claim_text e) none (has_claim_text e (clash_well_formed net is found proved)))

-- ---- what is asked of a net

-- a minimal clash is an answer, whose text is free
clash_answered : (IsFree : Status → Type 0) (net : PlainNet) (text : List ℕ) → ShowsClash net text → IsFree Clash → IsAnswered ⊤ (IsClash net) IsFree
clash_answered IsFree net text shown free = one_answer (IsClash net) IsFree Clash refl (λ status line h. h.0) (λ one other determined h k. absurd (determined free)) text (refl, shown)

-- so is what is asked, where it is one once some timeline fits; and the text of a clash is free
pub fitting_answered : (Of : PlainNet → Answer) (IsFree : Status → Type 0) (net : PlainNet) → IsNet net → (HasNoTimeline net → IsFree Clash) → (HasTimeline net → IsAnswered ⊤ (Of net) IsFree) → IsAnswered ⊤ (of_fitting Of net) IsFree
fitting_answered Of IsFree net is free are = elim (fits_or_clash net is) [
  | inl fits ↦ right_only (recast (are fits) (λ status text. HasTimeline net × Of net status text) (λ status text h. (fits, h)) (λ status text h. h.1)) (IsClash net) (λ status text h. h.1.none fits.0 fits.1)
  | inr shown ↦ left_only (clash_answered IsFree net shown.0 shown.1 (free shown.1.none)) (λ status text. HasTimeline net × Of net status text) (λ status text h. shown.1.none h.0.0 h.0.1)
]

-- and so is what is asked of the net of an accepted document
pub net_answered : (Of : NetAnswers) (IsFree : Status → Type 0) (doc : List ℕ) (contents : PlainDocument) → Says doc contents → ((net : PlainNet) → IsNetOf contents net → HasNoTimeline net → IsFree Clash)
    → ((net : PlainNet) → IsNetOf contents net → IsNet net → HasTimeline net → IsAnswered ⊤ (Of contents net) IsFree) → IsAnswered ⊤ (of_net Of contents) IsFree
net_answered Of IsFree doc contents says free are =
    let has = its_net doc contents says in
    by_the_one (IsNetOf contents) (one_net contents) (of_fitting (Of contents)) has.net has.built
    (fitting_answered (Of contents) IsFree has.net has.is (free has.net has.built) (are has.net has.built has.is))

-- of no document but the text of a clash is free
abbrev pub OnlyClash : PlainDocument → Status → Type 0
OnlyClash contents status = status ≡ Clash

-- the rows of a command that is asked of a document, of which all texts but that of a clash are determined
pub but_clashes_answered : (Of : Contents) → ContentsAreAnswered Of OnlyClash → (name : List ℕ) → AreAnswered (document_rows Of name) ClashIsFree
but_clashes_answered Of are name = freer (document_rows Of name) (of_its_bytes (of_its_contents OnlyClash)) ClashIsFree clash
    (answered (doc_file name) (of_contents Of) (of_its_contents OnlyClash) (contents_answered Of OnlyClash are))
  where
    clash : (contents : List (List ℕ)) (status : Status) → of_its_bytes (of_its_contents OnlyClash) contents status → status ≡ Clash
    clash (doc ∷ []) status free = free.2
    clash contents status free = absurd free

-- the rows of one that is asked of its net
pub net_rows_answered : (Of : NetAnswers) → NetsAreAnswered Of → (name : List ℕ) → AreAnswered (document_rows (of_net Of) name) ClashIsFree
net_rows_answered Of are name = but_clashes_answered (of_net Of) (λ doc contents says.
    net_answered Of (λ status. status ≡ Clash) doc contents says (λ net built none. refl) (λ net built is fits. are contents net is fits)) name
