-- A duration is read in one way.
use Rattle.std.proofs.Common.{◌≡◌, ◌≢◌, inl, inr, ℕ, Bool, true, false, ◌||◌, List, [], ◌∷◌, codes, refl, sym, ap, ◌∙◌, subst, arith}
use Rattle.std.specs.Str.{byte}
use Rattle.std.specs.Char.{is_ascii_digit}
use Rattle.timex_value.specs.Durations.{CountsThen, ClockThen, ClockText, SpellsLength, is_present, has_clock}
use Rattle.timex_value.specs.Counts.{ReadsCount}
use Rattle.timex_value.specs.declared.length.Count.{Count}
use Rattle.timex_value.specs.declared.length.Count.TheVariants.{Absent, Number, Unknown}
use Rattle.timex_value.specs.declared.length.Length.{Length}
use Rattle.timex_value.proofs.CountTexts.{is_mark, unit_at, tail_is, unit_before, reads_count, same_count}

-- the byte is none of these
abbrev pub IsNoneOf : List ℕ → ℕ → Type 0
IsNoneOf [] b = Unit {0}
IsNoneOf (u ∷ units) b = (u ≢ b) × IsNoneOf units b

-- the units are neither digits nor X, and each comes once
abbrev AreUnits : List ℕ → Type 0
AreUnits [] = Unit {0}
AreUnits (u ∷ units) = (is_ascii_digit u ≡ false) × (is_mark u ≡ false) × IsNoneOf units u × AreUnits units

date_units : AreUnits (codes "YMWD")
date_units = (refl, refl, (λ e. omega arith, (λ e. omega arith, (λ e. omega arith, tt))), (refl, refl, (λ e. omega arith, (λ e. omega arith, tt)), (refl, refl, (λ e. omega arith, tt), (refl, refl, tt, tt))))

clock_units : AreUnits (codes "HMS")
clock_units = (refl, refl, (λ e. omega arith, (λ e. omega arith, tt)), (refl, refl, (λ e. omega arith, tt), (refl, refl, tt, tt)))

-- counts are read from left to right
abbrev pub ReadsCounts : List ℕ → List Count → List ℕ → List ℕ → Type 0
ReadsCounts [] [] text rest = text ≡ rest
ReadsCounts (u ∷ units) (c ∷ counts) text rest = (next : List ℕ) × ReadsCount u c text next × ReadsCounts units counts next rest
ReadsCounts units counts text rest = ⊥

-- before counts of other units a unit does not come, unless it comes after them
unit_before_all : (us : List ℕ) (cs : List Count) (text rest : List ℕ) (v : ℕ) → AreUnits us → IsNoneOf us v → CountsThen us cs text rest → unit_at rest ≢ v → unit_at text ≢ v
unit_before_all [] [] text rest v units none h end = λ e. end (ap unit_at (sym h) ∙ e)
unit_before_all [] (c ∷ cs) text rest v units none h end = absurd h
unit_before_all (u ∷ us) [] text rest v units none h end = absurd h
unit_before_all (u ∷ us) (c ∷ cs) text rest v units none h end =
    unit_before u v c text h.0 units.1 none.0 h.1 (unit_before_all us cs h.0 rest v units.3 none.1 h.2 end)

-- counts are read as they are written, where no unit of theirs follows
counts_read : (us : List ℕ) (cs : List Count) (text rest : List ℕ) → AreUnits us → IsNoneOf us (unit_at rest) → CountsThen us cs text rest → ReadsCounts us cs text rest
counts_read [] [] text rest units past h = h
counts_read [] (c ∷ cs) text rest units past h = absurd h
counts_read (u ∷ us) [] text rest units past h = absurd h
counts_read (u ∷ us) (c ∷ cs) text rest units past h =
    let next = unit_before_all us cs h.0 rest u units.3 units.2 h.2 (λ e. past.0 (sym e)) in
    (h.0, reads_count u c text h.0 units.1 h.1 next, counts_read us cs h.0 rest units.3 past.1 h.2)

-- counts are read in one way
same_counts : (us : List ℕ) (cs ds : List Count) (text r s : List ℕ) → AreUnits us → ReadsCounts us cs text r → ReadsCounts us ds text s → (cs ≡ ds) × (r ≡ s)
same_counts [] [] [] text r s units h k = (refl, sym h ∙ k)
same_counts [] [] (d ∷ ds) text r s units h k = absurd k
same_counts [] (c ∷ cs) ds text r s units h k = absurd h
same_counts (u ∷ us) [] ds text r s units h k = absurd h
same_counts (u ∷ us) (c ∷ cs) [] text r s units h k = absurd k
same_counts (u ∷ us) (c ∷ cs) (d ∷ ds) text r s units h k =
    let e = same_count u c d text h.0 k.0 units.0 h.1 k.1 in
    let f = same_counts us cs ds h.0 r s units.3 h.2 (subst (λ (x : List ℕ). ReadsCounts us ds x s) (sym e.1) k.2) in
    (λ i. e.0 i ∷ f.0 i, f.1)

-- no unit of a date comes first in the text of a clock
none_past : IsNoneOf (codes "YMWD") (unit_at [])
unfolding unit_at
none_past = (λ e. omega arith, (λ e. omega arith, (λ e. omega arith, (λ e. omega arith, tt))))

clock_past : (text : List ℕ) → IsNoneOf (codes "YMWD") (unit_at (byte "T" ∷ text))
unfolding unit_at
clock_past text = (λ e. omega arith, (λ e. omega arith, (λ e. omega arith, (λ e. omega arith, tt))))

past_date : (h m s : Count) (text : List ℕ) → ClockText h m s text → IsNoneOf (codes "YMWD") (unit_at text)
past_date h m s text (inl k) = rw k.1 none_past
past_date h m s text (inr k) = rw k.1.1 (clock_past k.1.0)

none_at_end : IsNoneOf (codes "HMS") (unit_at [])
unfolding unit_at
none_at_end = (λ e. omega arith, (λ e. omega arith, (λ e. omega arith, tt)))

-- the counts of a clock that are read are all that can be there, and nothing follows them
pub clock_read : (h m s h2 m2 s2 : Count) (text r : List ℕ) → ReadsCounts (codes "HMS") (h ∷ m ∷ s ∷ []) text r → ClockThen h2 m2 s2 text []
    → ((h ∷ m ∷ s ∷ []) ≡ (h2 ∷ m2 ∷ s2 ∷ [])) × (r ≡ [])
clock_read h m s h2 m2 s2 text r p k =
    same_counts (codes "HMS") (h ∷ m ∷ s ∷ []) (h2 ∷ m2 ∷ s2 ∷ []) text r [] clock_units p (counts_read (codes "HMS") (h2 ∷ m2 ∷ s2 ∷ []) text [] clock_units none_at_end k)

absent : (c : Count) → is_present c ≡ false → c ≡ Absent
absent Absent e = refl
absent (Number n) e = absurd cc
absent Unknown e = absurd cc

none_of : (a b c : Bool) → (a || b || c) ≡ false → (a ≡ false) × (b ≡ false) × (c ≡ false)
none_of false false false e = (refl, refl, refl)
none_of true b c e = absurd cc
none_of false true c e = absurd cc
none_of false false true e = absurd cc

no_clock : (h m s : Count) → has_clock h m s ≡ false → (h ≡ Absent) × (m ≡ Absent) × (s ≡ Absent)
no_clock h m s e = let each = none_of (is_present h) (is_present m) (is_present s) e in (absent h each.0, absent m each.1, absent s each.2)

-- a text has the counts of one clock
pub one_clock : (h m s h2 m2 s2 : Count) (text : List ℕ) → ClockText h m s text → ClockText h2 m2 s2 text → (h ≡ h2) × (m ≡ m2) × (s ≡ s2)
one_clock h m s h2 m2 s2 text (inl k) (inl l) =
    let a = no_clock h m s k.0 in
    let b = no_clock h2 m2 s2 l.0 in
    (a.0 ∙ sym b.0, a.1 ∙ sym b.1, a.2 ∙ sym b.2)
one_clock h m s h2 m2 s2 text (inl k) (inr l) = let e : [] ≡ byte "T" ∷ l.1.0 = sym k.1 ∙ l.1.1 in absurd cc
one_clock h m s h2 m2 s2 text (inr k) (inl l) = let e : [] ≡ byte "T" ∷ k.1.0 = sym l.1 ∙ k.1.1 in absurd cc
one_clock h m s h2 m2 s2 text (inr k) (inr l) =
    let timed : l.1.0 ≡ k.1.0 = tail_is (sym l.1.1 ∙ k.1.1) in
    let reads = counts_read (codes "HMS") (h ∷ m ∷ s ∷ []) k.1.0 [] clock_units none_at_end k.1.2 in
    let e = (clock_read h m s h2 m2 s2 k.1.0 [] reads (subst (λ (x : List ℕ). ClockThen h2 m2 s2 x []) timed l.1.2)).0 in
    (cc, cc, cc)

-- the counts of a date
abbrev pub date_of : Length → List Count
date_of l = l.years ∷ l.months ∷ l.weeks ∷ l.days ∷ []

-- the counts of a date that are read are those of each duration that the text spells, and its clock comes after them
pub length_read : (y m w d : Count) (l : Length) (text dated r : List ℕ) → text ≡ byte "P" ∷ dated → ReadsCounts (codes "YMWD") (y ∷ m ∷ w ∷ d ∷ []) dated r → SpellsLength l text
    → ((y ∷ m ∷ w ∷ d ∷ []) ≡ date_of l) × ClockText l.hours l.minutes l.seconds r
length_read y m w d l text dated r e reads h =
    let past = past_date l.hours l.minutes l.seconds h.1 h.4 in
    let same : h.0 ≡ dated = tail_is (sym h.2 ∙ e) in
    let written = subst (λ (x : List ℕ). ReadsCounts (codes "YMWD") (date_of l) x h.1) same (counts_read (codes "YMWD") (date_of l) h.0 h.1 date_units past h.3) in
    let k = same_counts (codes "YMWD") (y ∷ m ∷ w ∷ d ∷ []) (date_of l) dated r h.1 date_units reads written in
    (k.0, subst (λ (x : List ℕ). ClockText l.hours l.minutes l.seconds x) (sym k.1) h.4)

pub length_by_counts : (l m : Length) → date_of l ≡ date_of m → l.hours ≡ m.hours → l.minutes ≡ m.minutes → l.seconds ≡ m.seconds → l ≡ m
length_by_counts l m date h mi s =
    let years : l.years ≡ m.years = cc in
    let months : l.months ≡ m.months = cc in
    let weeks : l.weeks ≡ m.weeks = cc in
    let days : l.days ≡ m.days = cc in
    λ i. record { years = years i; months = months i; weeks = weeks i; days = days i; hours = h i; minutes = mi i; seconds = s i }

-- a text spells one duration
pub one_length : (l m : Length) (text : List ℕ) → SpellsLength l text → SpellsLength m text → l ≡ m
one_length l m text h k =
    let reads = counts_read (codes "YMWD") (date_of l) h.0 h.1 date_units (past_date l.hours l.minutes l.seconds h.1 h.4) h.3 in
    let e = length_read l.years l.months l.weeks l.days m text h.0 h.1 h.2 reads k in
    let f = one_clock l.hours l.minutes l.seconds m.hours m.minutes m.seconds h.1 h.4 e.1 in
    length_by_counts l m e.0 f.0 f.1 f.2
