-- The claims of a bundle, one after another.
use Rattle.std.proofs.Common.{◌≡◌, ◌⊎◌, inl, inr, ℕ, ◌+◌, ◌<◌, List, [], ◌∷◌, ◌++◌, length, map, take, drop, Some, length-append, sym, ap, subst, ◌∙◌, arith}
use Rattle.std.specs.Prelude.{slice_index_or}
use Rattle.std.specs.List.{All}
use Rattle.std.proofs.lemmas.Bool.{cases_lt}
use Rattle.std.proofs.lemmas.List.{get_or_append_left, get_or_past, length-map, length-take-le, take-append-drop, take_more}
use Rattle.std.proofs.lemmas.List.Elements.{All-append, All-cons, All-nil, All-from_get_or}
use Rattle.std.proofs.Math.ListN.{get_or-map}
use Rattle.std.proofs.Math.Seq.{get_or-append_seam}
use Rattle.std.proofs.lemmas.Option.{same_Some}
use Rattle.net_core.specs.Nets.{PlainNet}
use Rattle.net_core.proofs.FirstLaws.{one_first, first_or_none}
use Rattle.evidence_format.specs.Numbers.{IsPair}
use Rattle.evidence_format.specs.Evidence.{IsWellFormed, PlainEvidence, timeline}
use Rattle.evidence_format.specs.View.{plain}
use Rattle.evidence_format.specs.declared.evidence.Evidence.{Evidence}
use Rattle.evidence_check.specs.declared.refusal.Refused.{Refused}
use Rattle.evidence_check.specs.declared.refusal.RefusedClaim.{RefusedClaim}
use Rattle.evidence_check.specs.Bundles.{claim_at, IsSupportedAt, AreSupported, IsFirstRefused, OneBundleVerdict}
use Rattle.evidence_check.specs.Claims.{ShowsTruth}
use Rattle.evidence_check.specs.Supported.{IsSupported}
use Rattle.evidence_check.specs.Refusals.{IsRefused}
use Rattle.evidence_check.proofs.Soundness.{supported_is_true}
use Rattle.evidence_check.proofs.Verdicts.{one_verdict}
use Rattle.evidence_check.proofs.Judged.{supported_or_refused}

-- the claim of a number is the same with claims after it
claim_before : (es ds : List PlainEvidence) (j : ℕ) → j < length es → claim_at (es ++ ds) j ≡ claim_at es j
claim_before es ds j below = get_or_append_left es ds (timeline []) j below

-- with one claim more that is supported, all are
pub supported_more : (net : PlainNet) (es : List PlainEvidence) (e : PlainEvidence) → AreSupported net es → IsSupported net e → AreSupported net (es ++ e ∷ [])
supported_more net es e all supported = All-append (IsSupported net) es (e ∷ []) all (All-cons (IsSupported net) e [] supported (All-nil (IsSupported net)))

-- a claim after supported ones is refused first where its evidence is refused
pub refused_next : (net : PlainNet) (es : List PlainEvidence) (e : PlainEvidence) (k : ℕ) (refused : Refused) → AreSupported net es → length es ≡ k → IsRefused net e refused
    → IsFirstRefused net (es ++ e ∷ []) (record { claim = k; refused = refused })
refused_next net es e k refused all count bad =
    let here : claim_at (es ++ e ∷ []) k ≡ e = subst (λ (n : ℕ). claim_at (es ++ e ∷ []) n ≡ e) count (get_or-append_seam es e [] (timeline [])) in
    let refusal = subst (λ (e : PlainEvidence). IsRefused net e refused) (sym here) bad in
    let place : k < length (es ++ e ∷ []) = omega (arith, length-append es (e ∷ []), count) in
    let before : (j : ℕ) → j < k → IsSupportedAt net (es ++ e ∷ []) j = λ j below.
    let low : j < length es = omega (arith, below, count) in
    subst (IsSupported net) (sym (claim_before es (e ∷ []) j low)) (all j (timeline []) low) in
    ((place, (λ supported. (one_verdict net (claim_at (es ++ e ∷ []) k)).not_both refused supported refusal), before), refusal)

-- the claim that is refused first is so with claims after it
pub refused_still : (net : PlainNet) (es ds : List PlainEvidence) (refused : RefusedClaim) → IsFirstRefused net es refused → IsFirstRefused net (es ++ ds) refused
refused_still net es ds refused first =
    let below = first.0.0 in
    let same = claim_before es ds refused.claim below in
    let place : refused.claim < length (es ++ ds) = omega (arith, length-append es ds, below) in
    let before : (j : ℕ) → j < refused.claim → IsSupportedAt net (es ++ ds) j = λ j low.
    subst (IsSupported net) (sym (claim_before es ds j (omega (arith, low, below)))) (first.0.2 j low) in
    ((place, (λ supported. first.0.1 (subst (IsSupported net) same supported)), before), subst (λ (e : PlainEvidence). IsRefused net e refused.refused) (sym same) first.1)

-- ---- all claims of a bundle

-- the number of a claim is below their count as plain values
still_below : (claims : List Evidence) (k : ℕ) → k < length claims → k < length (map plain claims)
still_below claims k below = rw length-map below

-- the claim of a number is what stands there
claim_is : (claims : List Evidence) (k : ℕ) (e : Evidence) → e ≡ slice_index_or claims k e → slice_index_or (map plain claims) k (plain e) ≡ plain e
claim_is claims k e is = get_or-map plain claims k e ∙ ap plain (sym is)

-- it is well formed where all are
pub claim_fits : (claims : List Evidence) (k : ℕ) (e : Evidence) → k < length claims → e ≡ slice_index_or claims k e → All IsWellFormed (map plain claims) → IsWellFormed (plain e)
claim_fits claims k e below is fit = subst IsWellFormed (claim_is claims k e is) (fit k (plain e) (still_below claims k below))

-- there are as many claims before it as its number says
pub claims_before : (claims : List Evidence) (k : ℕ) → k < length claims → length (take k (map plain claims)) ≡ k
claims_before claims k below =
    let place = still_below claims k below in
    length-take-le k (map plain claims) (omega (arith, place))

-- it comes after the claims before it
claim_after : (claims : List Evidence) (k : ℕ) (e : Evidence) → k < length claims → e ≡ slice_index_or claims k e → take (k + 1) (map plain claims) ≡ take k (map plain claims) ++ plain e ∷ []
claim_after claims k e below is =
    take_more (map plain claims) k (plain e) (still_below claims k below) ∙ ap (λ (x : PlainEvidence). take k (map plain claims) ++ x ∷ []) (claim_is claims k e is)

-- where it is supported as the claims before it are, one claim more is
pub supported_next : (net : PlainNet) (claims : List Evidence) (k : ℕ) (e : Evidence) → k < length claims → e ≡ slice_index_or claims k e
    → AreSupported net (take k (map plain claims)) → IsSupported net (plain e) → AreSupported net (take (k + 1) (map plain claims))
supported_next net claims k e below is all supported =
    subst (AreSupported net) (sym (claim_after claims k e below is)) (supported_more net (take k (map plain claims)) (plain e) all supported)

-- what is refused first of the claims up to it is so of all claims
pub refused_of_all : (net : PlainNet) (claims : List Evidence) (k : ℕ) (e : Evidence) (refused : RefusedClaim) → k < length claims → e ≡ slice_index_or claims k e
    → IsFirstRefused net (take k (map plain claims) ++ plain e ∷ []) refused → IsFirstRefused net (map plain claims) refused
refused_of_all net claims k e refused below is first =
    let es = map plain claims in
    let parts = ap (λ (x : List PlainEvidence). x ++ drop (k + 1) es) (sym (claim_after claims k e below is)) ∙ take-append-drop (k + 1) es in
    subst (λ (x : List PlainEvidence). IsFirstRefused net x refused) parts (refused_still net (take k es ++ plain e ∷ []) (drop (k + 1) es) refused first)

-- ---- one verdict

-- where a claim is refused, not all are supported
pub not_supported : (net : PlainNet) (es : List PlainEvidence) (refused : RefusedClaim) → IsFirstRefused net es refused → AreSupported net es → ⊥
not_supported net es refused first all = first.0.1 (all refused.claim (timeline []) first.0.0)

-- refused claims of one number, and for one reason, are one
same_claim : (r s : RefusedClaim) → r.claim ≡ s.claim → r.refused ≡ s.refused → r ≡ s
same_claim r s claim refused = λ i. record { claim = claim i; refused = refused i }

-- one claim at most is refused first, and for one reason
one_refusal : (net : PlainNet) (es : List PlainEvidence) (r s : RefusedClaim) → IsFirstRefused net es r → IsFirstRefused net es s → r ≡ s
one_refusal net es r s h k =
    let claim = same_Some r.claim s.claim (one_first (length es) (IsSupportedAt net es) (Some r.claim) (Some s.claim) h.0 k.0) in
    let bad : IsRefused net (claim_at es s.claim) r.refused = subst (λ (n : ℕ). IsRefused net (claim_at es n) r.refused) claim h.1 in
    same_claim r s claim ((one_verdict net (claim_at es s.claim)).one_refusal r.refused s.refused bad k.1)

-- whether well-formed evidence is supported
dec_supported : (net : PlainNet) (e : PlainEvidence) → IsWellFormed e → Dec (IsSupported net e)
dec_supported net e well = elim (supported_or_refused net e well) [
  | inl supported ↦ yes supported
  | inr refusal ↦ no (λ supported. (one_verdict net e).not_both refusal.0 supported refusal.1)
]

-- well-formed evidence that is not supported is refused
refusal_of : (net : PlainNet) (e : PlainEvidence) → IsWellFormed e → (IsSupported net e → ⊥) → (refused : Refused) × IsRefused net e refused
refusal_of net e well never = elim (supported_or_refused net e well) [ inl supported ↦ absurd (never supported) | inr refusal ↦ refusal ]

-- the claim of any number is well formed where all claims are: past them stands an empty timeline
well_at : (es : List PlainEvidence) (k : ℕ) → All IsWellFormed es → IsWellFormed (claim_at es k)
well_at es k all = elim (cases_lt k (length es)) [
  | inl below ↦ all k (timeline []) below
  | inr past ↦ subst IsWellFormed (sym (get_or_past es k (timeline []) past)) (All-nil IsPair, omega arith)
]

-- all claims are supported, or one is refused first
all_or_refused : (net : PlainNet) (es : List PlainEvidence) → All IsWellFormed es → AreSupported net es ⊎ ((refused : RefusedClaim) × IsFirstRefused net es refused)
all_or_refused net es well = elim (first_or_none (length es) (IsSupportedAt net es) (λ k. dec_supported net (claim_at es k) (well_at es k well))) [
  | inl all ↦ inl (All-from_get_or (IsSupported net) es (timeline []) all)
  | inr first ↦
      let refusal = refusal_of net (claim_at es first.0) (well_at es first.0 well) first.1.1 in
      inr (record { claim = first.0; refused = refusal.0 }, (first.1, refusal.1))
]

-- several claims have one verdict
pub one_bundle_verdict : OneBundleVerdict
one_bundle_verdict net es = record { not_both = λ refused all first. not_supported net es refused first all; one_refusal = one_refusal net es; supported_or_refused = all_or_refused net es }

-- what the evidence of supported claims shows is true
pub all_true : (net : PlainNet) (es : List PlainEvidence) → AreSupported net es → All (ShowsTruth net) es
all_true net es all = λ k d below. supported_is_true net (slice_index_or es k d) (all k d below)
