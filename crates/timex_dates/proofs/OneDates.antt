-- A day has one date, and a second one civil text.
use Rattle.std.proofs.Common.{◌≡◌, ℕ, List, suc, ◌-◌, ◌<◌, ◌≤◌, arith, refl, sym, subst}
use Rattle.net_core.proofs.FirstLaws.{neither_less}
use Rattle.jiff_core.proofs.SignedLemmas.{signed_arith}
use Rattle.timex_value.specs.Civil.{month_length, IsDateOf, IsInYear, IsInMonth}
use Rattle.timex_dates.specs.Seconds.{day_of}
use Rattle.timex_dates.specs.Printed.{IsPrinted, OneText}
use Rattle.timex_dates.proofs.Totals.{total_grows}
use Rattle.timex_dates.proofs.Intervals.{next_year, next_month, year_start_grows, year_days, month_days}

-- a day of a year is no day of a later one
year_before : (n y z : ℕ) → 1 ≤ y → IsInYear n y → IsInYear n z → y < z → ⊥
year_before n y z low h k lt =
    let at = (year_days n y low).0 h in
    let next = (year_days n z (omega arith)).0 k in
    omega (arith, next_year y low, year_start_grows (suc y) z (omega arith) (omega arith))

-- a day of a month is no day of a later one
month_before : (n y m k : ℕ) → IsInMonth n y m → IsInMonth n y k → m < k → ⊥
month_before n y m k h j lt =
    let at = (month_days n y m h.1.0.0 h.1.0.1).0 h in
    let next = (month_days n y k j.1.0.0 j.1.0.1).0 j in
    omega (arith, next_month y m h.1.0.1.0, total_grows (month_length y) m (k - 1) (omega arith))

one_date : (n y m d z k e : ℕ) → IsDateOf n y m d → IsDateOf n z k e → (y ≡ z) × (m ≡ k) × (d ≡ e)
one_date n y m d z k e h j =
    let year = neither_less y z (year_before n y z h.0.0 (m, d, h) (k, e, j)) (year_before n z y j.0.0 (k, e, j) (m, d, h)) in
    let there : IsDateOf n y k e = subst (λ x. IsDateOf n x k e) (sym year) j in
    let month = neither_less m k (month_before n y m k (d, h) (e, there)) (month_before n y k m (e, there) (d, h)) in
    let same : IsDateOf n y m e = subst (λ x. IsDateOf n y x e) (sym month) there in
    (year, month, omega arith)

printed_once : (t : ℕ) (a b : List ℕ) → IsPrinted t a → IsPrinted t b → a ≡ b
printed_once t a b h k =
    let e = one_date (day_of t) h.0 h.1 h.2 k.0 k.1 k.2 h.3 k.3 in
    rw (h.4, k.4, e.0, e.1, e.2) refl

pub one_text : OneText
one_text second a b h k =
    let same : h.0 ≡ k.0 = omega (arith, signed_arith) in
    printed_once k.0 a b (subst (λ (t : ℕ). IsPrinted t a) same h.2) k.2
