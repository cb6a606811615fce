-- Whether something holds: by its parts, by a test, or by a search. `Dec.and`, `Dec.not`, `Dec.of_iff`, `dec_le`, `ℕ_discrete` and `List-discrete` of the library stand beside these.
use Rattle.std.proofs.Common.{◌≡◌, ◌⊎◌, inl, inr, ℕ, zero, suc, ◌≤◌, ◌<◌, Bool, true, false, refl, subst, arith}
use Rattle.std.specs.Bool.{Decides}
use Rattle.std.specs.Int.{IsInRange}
use Rattle.std.proofs.lemmas.Bool.{cases_lt}
use mathlib.Core.Logic.Dec
use native.Mathlib.Decide.{dec_le}

-- one of two
pub either : {P Q : Type 0} → Dec P → Dec Q → Dec (P ⊎ Q)
either (yes p) q = yes (inl p)
either (no no_p) (yes q) = yes (inr q)
either (no no_p) (no no_q) = no (λ h. elim h [ inl p ↦ no_p p | inr q ↦ no_q q ])

-- one where the other holds
pub implied : {P Q : Type 0} → Dec P → Dec Q → Dec (P → Q)
implied (no never) q = yes (λ p. absurd (never p))
implied (yes p) (yes q) = yes (λ _. q)
implied (yes p) (no never) = no (λ h. never (h p))

-- all of three
pub all_three : {P Q R : Type 0} → Dec P → Dec Q → Dec R → Dec (P × Q × R)
all_three p q r = Dec.of_iff (λ h. (h.0, h.1.0, h.1.1), λ h. (h.0, (h.1, h.2))) (Dec.and p (Dec.and q r))

-- what is found, or else what is found where that is not there
pub or_else : {P Q : Type 0} → Dec P → (P → Q) → ((P → ⊥) → Dec Q) → Dec Q
or_else (yes p) found other = yes (found p)
or_else (no never) found other = other never

-- whether a number lies between two
pub in_range : (low high n : ℕ) → Dec (IsInRange low high n)
in_range low high n = Dec.and (dec_le low n) (dec_le n high)

-- what a test decides
pub by_test : {P : Type 0} (test : Bool) → Decides test P → Dec P
by_test true decides = yes (decides.0 refl)
by_test false decides = no (λ p. let e = decides.1 p in absurd cc)

module _ (P : ℕ → Type 0) where
  -- the least number of which it holds
  abbrev pub IsLeast : ℕ → Type 0
  IsLeast n = P n × ((other : ℕ) → P other → n ≤ other)

  module _ (decided : (n : ℕ) → Dec (P n)) where
    -- the least number, or none below a limit
    least_below : (limit : ℕ) → ((n : ℕ) × (n < limit) × IsLeast n) ⊎ ((n : ℕ) → n < limit → P n → ⊥)
    least_below zero = inr (λ n less h. omega arith)
    least_below (suc limit) = elim (least_below limit) [
      | inl least ↦ inl (least.0, let less = least.1 in omega arith, least.2)
      | inr none ↦ elim (decided limit) [
        | yes last ↦ inl (limit, omega arith, (last, λ other h. elim (cases_lt other limit) [ inl less ↦ absurd (none other less h) | inr more ↦ more ]))
        | no not_last ↦ inr (λ n less h. elim (cases_lt n limit) [
          | inl before ↦ none n before h
          | inr more ↦ let same : n ≡ limit = omega arith in not_last (subst P same h)
        ])
      ]
    ]

    -- the least number, or none, where those that can be are below a limit
    pub least_number : (limit : ℕ) → ((n : ℕ) → P n → n < limit) → ((n : ℕ) × IsLeast n) ⊎ ((n : ℕ) → P n → ⊥)
    least_number limit within = elim (least_below limit) [
      | inl least ↦ inl (least.0, least.2)
      | inr none ↦ inr (λ n h. none n (within n h) h)
    ]

    -- some number below a limit
    pub some_below : (limit : ℕ) → Dec ((n : ℕ) × (n < limit) × P n)
    some_below limit = elim (least_below limit) [
      | inl least ↦ yes (least.0, least.1, least.2.0)
      | inr none ↦ no (λ h. none h.0 h.1 h.2)
    ]

    -- some number, where those that can be are below a limit
    pub some_number : (limit : ℕ) → ((n : ℕ) → P n → n < limit) → Dec ((n : ℕ) × P n)
    some_number limit within = elim (least_number limit within) [
      | inl least ↦ yes (least.0, least.1.0)
      | inr none ↦ no (λ h. none h.0 h.1)
    ]
