-- Cutting a source unit by unit.
use Rattle.std.proofs.Common.{◌≡◌, ℕ, ◌+◌, ◌-◌, List, [], ◌∷◌, ◌++◌, length, refl, sym, ap, subst, ◌∙◌, append_assoc, arith, length-append}
use Rattle.std.proofs.lemmas.List.{append-nil, nil_from_length}
use Rattle.tml_span.specs.Units.{PlainUnit, Kind, bom, SpelledKind}
use Rattle.tml_span.specs.Cutting.{Stops, CutsFrom, FindsUnit}
use Rattle.tml_span.proofs.Leads.{lead, lead_of, leads, nothing}

-- what a cut of the rest does to a cut of the source
abbrev pub GoesOn : List ℕ → List PlainUnit → ℕ → List ℕ → Type 0
GoesOn source done place rest = (more : List PlainUnit) (end : List ℕ) → CutsFrom place rest more end → CutsFrom 0 source (done ++ more) end

pub goes_on : (source rest after : List ℕ) (done : List PlainUnit) (place : ℕ) (u : PlainUnit) → GoesOn source done place rest → FindsUnit place rest u after → GoesOn source (done ++ u ∷ []) (place + (length rest - length after)) after
goes_on source rest after done place u so_far found more end h =
    let len : length rest - length after ≡ length found.0 = omega (arith, ap length found.1, length-append found.0 after) in
    rw append_assoc (so_far (u ∷ more) end (found.0, after, found.1, found.2, found.3, subst (λ (n : ℕ). CutsFrom (place + n) after more end) len h))

pub stops_here : (source rest : List ℕ) (done : List PlainUnit) (place : ℕ) → GoesOn source done place rest → Stops place rest → CutsFrom 0 source done rest
stops_here source rest done place so_far stops = subst (λ (units : List PlainUnit). CutsFrom 0 source units rest) (append-nil done) (so_far [] rest (refl, stops))

no_lead : (k : Kind) → lead_of k ≡ nothing → ⊥
no_lead bom e = cc
no_lead k e = cc

-- an empty prefix is spelled by no kind
no_kind : (place : ℕ) (k : Kind) (prefix suffix : List ℕ) → [] ≡ prefix ++ suffix → SpelledKind place k prefix → ⊥
no_kind place k prefix suffix e h = no_lead k (sym (leads place k prefix suffix h) ∙ ap lead (sym e))

pub empty_stops : (place : ℕ) → Stops place []
empty_stops place u prefix suffix e h = no_kind place u.kind prefix suffix e h.kind

pub whole_here : (source rest : List ℕ) (done : List PlainUnit) (place : ℕ) → GoesOn source done place rest → length rest ≡ 0 → CutsFrom 0 source done []
whole_here source rest done place so_far none =
    let nil : rest ≡ [] = nil_from_length rest none in
    subst (λ (r : List ℕ). CutsFrom 0 source done r) nil (stops_here source rest done place so_far (subst (Stops place) (sym nil) (empty_stops place)))
