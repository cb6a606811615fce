-- A cutter of units, one unit further.
use Rattle.std.proofs.Common.{◌≡◌, ℕ, ◌+◌, ◌-◌, ◌<◌, ◌≤◌, List, [], ◌∷◌, ◌++◌, length, drop, refl, sym, ap, subst, ◌∙◌, append_assoc, arith, length-append, None, Ok}
use Rattle.std.proofs.Math.Seq.{drop-append_seam}
use Rattle.tml_span.specs.Units.{PlainUnit}
use Rattle.tml_span.specs.Cutting.{Stops, CutsFrom, FindsUnit}
use Rattle.tml_span.specs.Cutter.{CutsOn, HasCut, IsCutSoFar}
use Rattle.tml_span.specs.Faults.{HasBadMarkup, HasBadReference}
use Rattle.tml_span.specs.References.{IsBadIn, IsLeastPlace, IsNowhere, pieces_of}
use Rattle.tml_span.specs.Slices.{UnitIsIn}
use Rattle.tml_span.specs.Whole.{IsWhole, CutsWhole}
use Rattle.tml_span.specs.Reader.{Reading, end_of}
use Rattle.tml_span.proofs.EveryCut.{every_cut_from}
use Rattle.tml_span.proofs.Joining.{GoesOn, whole_here}
use Rattle.tml_span.proofs.OneCut.{one_cut_from}
use Rattle.tml_span.proofs.Passing.{HasPassed, IsPassing, bad_reference, passed_more, stopped}
use Rattle.tml_span.proofs.SlicesIn.{unit_is_in}

abbrev pub at : List ℕ → ℕ → Reading
at source place = record { source = source; place = place }

abbrev pub left_of : Reading → List ℕ
left_of r = drop r.place r.source

-- ---- the bytes on both sides of the place

end_more : (place : ℕ) (units : List PlainUnit) (u : PlainUnit) → end_of place (units ++ u ∷ []) ≡ u.end
end_more place [] u = refl
end_more place (v ∷ units) u = end_more v.end units u

-- the bytes up to the end of some units, and the cut of those after them
parts : (place : ℕ) (bytes rest : List ℕ) (given left : List PlainUnit) → CutsFrom place bytes (given ++ left) rest
    → (before : List ℕ) × (after : List ℕ) × (bytes ≡ before ++ after) × (end_of place given ≡ place + length before) × CutsFrom (end_of place given) after left rest
parts place bytes rest [] left h = ([], bytes, refl, omega arith, h)
parts place bytes rest (u ∷ given) left h =
    let end : place + length h.0 ≡ u.end = sym h.3.end in
    let p = parts u.end h.1 rest given left (subst (λ (n : ℕ). CutsFrom n h.1 (given ++ left) rest) end h.5) in
    (h.0 ++ p.0, p.1, h.2 ∙ ap (λ (bs : List ℕ). h.0 ++ bs) p.2 ∙ sym (append_assoc h.0 p.0 p.1), omega (arith, p.3, end, length-append h.0 p.0), p.4)

-- the source is what is before the place and what follows it, which is cut so
pub record SplitsAt (r : Reading) (left : List PlainUnit) (rest : List ℕ) : Type 0 where
  pub before : List ℕ
  pub whole : r.source ≡ before ++ left_of r
  pub place : length before ≡ r.place
  pub cuts : CutsFrom r.place (left_of r) left rest

pub splits : (r : Reading) (given left : List PlainUnit) (rest : List ℕ) → r.place ≡ end_of 0 given → CutsFrom 0 r.source (given ++ left) rest → SplitsAt r left rest
splits r given left rest end cut =
    let p = parts 0 r.source rest given left cut in
    let place : length p.0 ≡ r.place = omega (arith, p.3, end) in
    let after : left_of r ≡ p.1 = ap (λ (n : ℕ). drop n r.source) (sym place) ∙ ap (drop (length p.0)) p.2 ∙ drop-append_seam p.0 p.1 in
    record {
      before = p.0;
      whole = p.2 ∙ ap (λ (bs : List ℕ). p.0 ++ bs) (sym after);
      place = place;
      cuts = subst (λ (q : ℕ × List ℕ). CutsFrom q.0 q.1 left rest) (λ i. (sym end i, sym after i)) p.4;
    }

-- what follows the place has some cut
pub some_cut : (r : Reading) (given : List PlainUnit) → HasCut r given → (left : List PlainUnit) × (rest : List ℕ) × CutsFrom 0 r.source (given ++ left) rest
some_cut r given h = let all = every_cut_from (length (left_of r)) r.place (left_of r) (omega arith) in (all.0, all.1.0, h.cuts all.0 all.1.0 all.1.1)

splits_here : (r : Reading) (given : List PlainUnit) (h : HasCut r given) → let some = some_cut r given h in SplitsAt r some.0 some.1
splits_here r given h = let some = some_cut r given h in splits r given some.0 some.1 h.place some.2

joins : (r : Reading) → IsCutSoFar r → r.place + length (left_of r) ≡ length r.source
joins r h = let s = splits_here r h.1 h.2 in omega (arith, s.place, ap length s.whole, length-append s.before (left_of r))

pub place_within : (r : Reading) → IsCutSoFar r → r.place ≤ length r.source
place_within r h = omega (arith, joins r h)

module _ (r : Reading) (cut : IsCutSoFar r) (bytes : List ℕ) (is : bytes ≡ left_of r) where
  here : r.place + length bytes ≡ length r.source
  here = omega (arith, ap length is, joins r cut)

  passed : (given : List PlainUnit) → HasCut r given → HasPassed r.source r.place bytes given
  passed given h = record { sound = h.sound; cuts = subst (GoesOn r.source given r.place) (sym is) h.cuts }

  pub passing : IsPassing r.source r.place bytes
  passing = record { joins = here; passed = (cut.1, passed cut.1 cut.2) }

  -- ---- where no unit begins

  pub gives_none : length bytes ≡ 0 → CutsOn r r (Ok None)
  gives_none none = (refl, omega (arith, here), λ given h. (h.utf8, whole_here r.source bytes given r.place (passed given h).cuts none, h.sound))

  pub no_unit : (length bytes ≡ 0 → ⊥) → Stops r.place bytes → HasBadMarkup r.source r.place
  no_unit some stops = stopped r.source bytes r.place cut.2.utf8 passing some stops

  -- ---- where a unit begins

  module _ (after : List ℕ) (u : PlainUnit) (found : FindsUnit r.place bytes u after) where
    pub unit_is_bad : (bad : ℕ) → IsLeastPlace (IsBadIn (pieces_of u)) bad → HasBadReference r.source bad
    unit_is_bad bad first = bad_reference r.source bytes after r.place u bad cut.2.utf8 passing found first

    abbrev pub next : Reading
    next = at r.source (r.place + (length bytes - length after))

    len : length bytes ≡ length found.0 + length after
    len = ap length found.1 ∙ length-append found.0 after

    source_here : r.source ≡ (splits_here r cut.1 cut.2).before ++ (found.0 ++ after)
    source_here = let s = splits_here r cut.1 cut.2 in s.whole ∙ ap (λ (bs : List ℕ). s.before ++ bs) (sym is ∙ found.1)

    pub here_in : UnitIsIn r.source u
    here_in = let s = splits_here r cut.1 cut.2 in unit_is_in r.source s.before after found.0 r.place u source_here s.place found.2

    pub left_next : left_of next ≡ after
    left_next =
        let s = splits_here r cut.1 cut.2 in
        let place : next.place ≡ length (s.before ++ found.0) = omega (arith, len, s.place, length-append s.before found.0) in
        ap (λ (n : ℕ). drop n r.source) place ∙ ap (drop (length (s.before ++ found.0))) (source_here ∙ sym (append_assoc s.before found.0 after)) ∙ drop-append_seam (s.before ++ found.0) after

    module _ (good : IsNowhere (IsBadIn (pieces_of u))) (shorter : length after < length bytes) where
      cuts_more : (given : List PlainUnit) → HasCut r given → HasCut next (given ++ u ∷ [])
      cuts_more given h =
          let p = passed_more r.source bytes after r.place given u (passed given h) found good in
          record {
            utf8 = h.utf8;
            cuts = subst (GoesOn r.source (given ++ u ∷ []) next.place) (sym left_next) p.cuts;
            sound = p.sound;
            place = omega (arith, len, found.2.end, end_more 0 given u);
          }

      pub goes_further : IsCutSoFar next
      goes_further = (cut.0, cut.1 ++ u ∷ [], cuts_more cut.1 cut.2)

      pub moves_on : (next.source ≡ r.source) × (r.place < next.place) × (next.place ≤ length r.source) × UnitIsIn r.source u × ((given : List PlainUnit) → HasCut r given → HasCut next (given ++ u ∷ []))
      moves_on =
          (refl, omega (arith, shorter), omega (arith, here), here_in, cuts_more)

-- ---- a source that has no fault

-- the units given are the first of its units
pub left_units : (r : Reading) (given : List PlainUnit) → CutsWhole r.source → HasCut r given → (left : List PlainUnit) × IsWhole (record { source = r.source; units = given ++ left })
left_units r given whole h =
    let some = some_cut r given h in
    let one = one_cut_from 0 r.source (given ++ some.0) whole.0 some.1 [] some.2 whole.1.1 in
    (some.0, subst (λ (us : List PlainUnit). IsWhole (record { source = r.source; units = us })) (sym one.0) whole.1)
