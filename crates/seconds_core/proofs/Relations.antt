-- A relation holds of whole seconds exactly where each order is kept that it is.
use Rattle.std.proofs.Common.{◌≡◌, ◌↔◌, ℕ, ℤ, ◌≤ℤ◌, List, arith}
use Rattle.std.specs.Prelude.{⊤}
use Rattle.std.proofs.lemmas.Int.{ints}
use Rattle.net_core.specs.declared.net.NetLink.{NetLink}
use Rattle.net_core.specs.declared.rels.Rel.{Rel}
use Rattle.net_core.specs.declared.rels.Rel.TheVariants as rel
use Rattle.seconds_core.specs.Orders.{KeepsOrdersInSeconds}
use Rattle.seconds_core.specs.Placed.{KeepsLinkInSeconds}

-- seconds of which neither is after the other are one
same : (m n : ℤ) → m ≤ℤ n → n ≤ℤ m → m ≡ n
same m n le ge = omega (arith, ints, le, ge)

upto : (m n : ℤ) → m ≡ n → m ≤ℤ n
upto m n e = omega (arith, ints, e)

downto : (m n : ℤ) → m ≡ n → n ≤ℤ m
downto m n e = omega (arith, ints, e)

two : {A B : Type 0} → (A × B) ↔ (A × (B × ⊤))
two = (λ h. (h.0, (h.1, tt)), λ h. (h.0, h.1.0))

pub relation_by_orders : (seconds : List ℤ) (link : NetLink) → KeepsLinkInSeconds seconds link ↔ KeepsOrdersInSeconds seconds link
relation_by_orders seconds link = by link.rel link.a link.b
  where
    by : (r : Rel) (a b : ℕ) → KeepsLinkInSeconds seconds (record { a = a; rel = r; b = b }) ↔ KeepsOrdersInSeconds seconds (record { a = a; rel = r; b = b })
    by rel.Before a b = (λ h. (h, tt), λ h. h.0)
    by rel.After a b = (λ h. (h, tt), λ h. h.0)
    by rel.Includes a b = two
    by rel.IsIncluded a b = two
    by rel.During a b = two
    by rel.DuringInv a b = two
    by rel.Simultaneous a b = (λ h. (upto _ _ h.0, (downto _ _ h.0, (upto _ _ h.1, (downto _ _ h.1, tt)))), λ h. (same _ _ h.0 h.1.0, same _ _ h.1.1.0 h.1.1.1.0))
    by rel.Identity a b = (λ h. (upto _ _ h.0, (downto _ _ h.0, (upto _ _ h.1, (downto _ _ h.1, tt)))), λ h. (same _ _ h.0 h.1.0, same _ _ h.1.1.0 h.1.1.1.0))
    by rel.Ibefore a b = (λ h. (upto _ _ h, (downto _ _ h, tt)), λ h. same _ _ h.0 h.1.0)
    by rel.Iafter a b = (λ h. (upto _ _ h, (downto _ _ h, tt)), λ h. same _ _ h.0 h.1.0)
    by rel.Begins a b = (λ h. (upto _ _ h.0, (downto _ _ h.0, (h.1, tt))), λ h. (same _ _ h.0 h.1.0, h.1.1.0))
    by rel.BegunBy a b = (λ h. (downto _ _ h.0, (upto _ _ h.0, (h.1, tt))), λ h. (same _ _ h.1.0 h.0, h.1.1.0))
    by rel.Ends a b = (λ h. (upto _ _ h.0, (downto _ _ h.0, (h.1, tt))), λ h. (same _ _ h.0 h.1.0, h.1.1.0))
    by rel.EndedBy a b = (λ h. (downto _ _ h.0, (upto _ _ h.0, (h.1, tt))), λ h. (same _ _ h.1.0 h.0, h.1.1.0))
    by rel.Overlaps a b = (λ h. (h.0, (h.1, (h.2, tt))), λ h. (h.0, h.1.0, h.1.1.0))
    by rel.OverlappedBy a b = (λ h. (h.0, (h.1, (h.2, tt))), λ h. (h.0, h.1.0, h.1.1.0))
