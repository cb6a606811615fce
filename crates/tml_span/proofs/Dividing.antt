-- A reader of a source that has no fault gives what its cutter gives.
use Rattle.std.proofs.Common.{◌≡◌, ℕ, ◌^◌, ◌<◌, List, [], ◌∷◌, ◌++◌, length, sym, ap, subst, ◌∙◌, append_assoc, Option, Result, Some, None, Ok, Err}
use Rattle.std.proofs.lemmas.List.{append-nil, append_cancel_left}
use Rattle.tml_span.specs.declared.fault.Cut.{Cut}
use Rattle.tml_span.specs.declared.unit.Unit as rust
use Rattle.tml_span.specs.Units.{PlainUnit}
use Rattle.tml_span.specs.Cutter.{BeginsCut, CutsOn, HasCut}
use Rattle.tml_span.specs.Cutting.{Cuts}
use Rattle.tml_span.specs.Whole.{IsWhole, CutsWhole}
use Rattle.tml_span.specs.Reader.{Divides, GivesUnit, IsReading, Reading}
use Rattle.tml_span.specs.View.{unit_of}
use Rattle.tml_span.proofs.FirstBad.{bad-append_left}
use Rattle.tml_span.proofs.OneCut.{one_cut_from}
use Rattle.tml_span.proofs.Pulling.{left_of, left_units, splits}

-- before the first unit
pub begins : (source : List ℕ) (r : Reading) → length source < 2 ^ 32 → BeginsCut source r → CutsWhole r.source → IsReading r
begins source r small b whole = (subst (λ (s : List ℕ). length s < 2 ^ 32) (ap (λ (q : Reading). q.source) (sym b.0)) small, [], whole.0, record { whole = whole.1; place = b.1.place })

pub none_given : (r : Reading) → IsReading r → r.place ≡ 0 → (left : List PlainUnit) × Divides r [] left
none_given r h start = (h.1 ++ h.2, record { whole = h.3.whole; place = start })

-- where all units are given
pub all_given : (r : Reading) (given left : List PlainUnit) → left ≡ [] → Divides r given left → IsWhole (record { source = r.source; units = given })
all_given r given left none d = subst (λ (us : List PlainUnit). IsWhole (record { source = r.source; units = us })) (ap (λ (us : List PlainUnit). given ++ us) none ∙ append-nil given) d.whole

-- ---- what a reader has given, its cutter has given

cut_divided : (r : Reading) (given left : List PlainUnit) → Divides r given left → HasCut r given
cut_divided r given left d = record {
  utf8 = d.whole.0;
  cuts = λ more rest h.
      let one = one_cut_from r.place (left_of r) left more [] rest (splits r given left [] d.place d.whole.1).cuts h in
      subst (λ (q : List PlainUnit × List ℕ). Cuts r.source (given ++ q.0) q.1) (λ i. (one.0 i, one.1 i)) d.whole.1;
  sound = λ place bad. d.whole.2 place (bad-append_left given left place bad);
  place = d.place;
}

source_whole : (r : Reading) → IsReading r → CutsWhole r.source
source_whole r h = (h.1 ++ h.2, h.3.whole)

module _ (old new : Reading) (reading : IsReading old) where
  divides_more : (u : rust.Unit) → CutsOn old new (Ok (Some u)) → (given left : List PlainUnit) → Divides old given left → (more : List PlainUnit) × (left ≡ unit_of u ∷ more) × Divides new (given ++ unit_of u ∷ []) more
  divides_more u on given left d =
      let cut = on.4 given (cut_divided old given left d) in
      let next = left_units new (given ++ unit_of u ∷ []) (subst CutsWhole (sym on.0) (source_whole old reading)) cut in
      let cuts = subst (λ (s : List ℕ). Cuts s ((given ++ unit_of u ∷ []) ++ next.0) []) on.0 next.1.1 in
      let same = one_cut_from 0 old.source (given ++ left) ((given ++ unit_of u ∷ []) ++ next.0) [] [] d.whole.1 cuts in
      (next.0, append_cancel_left given left (unit_of u ∷ next.0) (same.0 ∙ append_assoc given (unit_of u ∷ []) next.0), record { whole = next.1; place = cut.place })

  none_left : CutsOn old new (Ok None) → (given left : List PlainUnit) → Divides old given left → left ≡ []
  none_left on given left d =
      let same = one_cut_from 0 old.source (given ++ left) given [] [] d.whole.1 (on.2 given (cut_divided old given left d)).1 in
      append_cancel_left given left [] (same.0 ∙ sym (append-nil given))

  -- a unit or none
  pub gives : (found : Option rust.Unit) → CutsOn old new (Ok found) → GivesUnit old new (Ok found)
  gives (Some u) on = (on.0, on.1, on.2, on.3, divides_more u on)
  gives None on = (on.0, on.1, none_left on)

  -- what is pulled, it stays a reader
  pub still_reading : (found : Result (Option rust.Unit) Cut) → CutsOn old new found → IsReading new
  still_reading (Ok (Some u)) on =
      let next = divides_more u on reading.1 reading.2 reading.3 in
      (subst (λ (s : List ℕ). length s < 2 ^ 32) (sym on.0) reading.0, reading.1 ++ unit_of u ∷ [], next.0, next.2)
  still_reading (Ok None) on = subst IsReading (sym on.0) reading
  still_reading (Err cut) on = subst IsReading (sym on.0) reading
