-- Timelines that are the same at the points of a net.
use Rattle.std.proofs.Common.{◌≡◌, ℕ, ◌<◌, ◌*◌, ◌+◌, Bool, true, false, List, length, get_or, sym, subst, arith}
use Rattle.std.proofs.lemmas.List.Elements.{All-from_get_or, All-get_or}
use Rattle.net_core.specs.Atoms.{IsInOrder, IsInRange}
use Rattle.net_core.specs.Fits.{FitsWith, FollowsNumbers}
use Rattle.net_core.specs.Nets.{IsNet, PlainNet, intervals, link_at, lower, points, upper}
use Rattle.net_core.specs.Relations.{Holds, Timeline, ends_of}
use Rattle.net_core.specs.declared.net.Ends.{Ends}
use Rattle.net_core.specs.declared.net.NetLink.{NetLink}
use Rattle.net_core.specs.declared.rels.Rel.TheVariants as rel
use Rattle.net_orders.specs.Orders.{AllAreTrueBut, AreOrdersBelow, IsTrueBut}
use Rattle.net_orders.specs.declared.orders.Order.{Order}
use Rattle.net_orders.proofs.Ordered.{no_order}

-- two points that are in order stay so
in_order_same : (strict : Bool) (k l m n : ℕ) → m ≡ k → n ≡ l → IsInOrder strict k l → IsInOrder strict m n
in_order_same true k l m n first second holds = omega (arith, first, second, holds)
in_order_same false k l m n first second holds = omega (arith, first, second, holds)

-- orders of the points below n that are true of a timeline are true of one that is the same there
pub true_but_same : (n omitted : ℕ) (orders : List Order) (t u : Timeline) → ((p : ℕ) → p < n → u p ≡ t p) → AreOrdersBelow n orders → AllAreTrueBut omitted orders t → AllAreTrueBut omitted orders u
true_but_same n omitted orders t u same below all = All-from_get_or (λ (o : Order). IsTrueBut omitted o u) orders no_order (λ i lt is.
    let order = get_or orders i no_order in
    let range = All-get_or (λ (o : Order). IsInRange n o.atom) orders i no_order lt below in
    in_order_same order.atom.strict (t order.atom.from) (t order.atom.to) (u order.atom.from) (u order.atom.to) (same order.atom.from range.0) (same order.atom.to range.1)
    (All-get_or (λ (o : Order). IsTrueBut omitted o t) orders i no_order lt all is))

module _ (net : PlainNet) (t u : Timeline) (same : (p : ℕ) → p < points net → u p ≡ t p) where
  ends_same : (i : ℕ) → i < intervals net → ends_of t i ≡ ends_of u i
  ends_same i lt =
      let first = sym (same (2 * i) (omega arith)) in
      let last = sym (same (2 * i + 1) (omega arith)) in
      λ j. record { start = first j; finish = last j }

  -- a timeline fits where one does that is the same at the points of the net
  pub fits_same : (Chosen : ℕ → Type 0) → IsNet net → FitsWith net Chosen t → FitsWith net Chosen u
  fits_same Chosen net_is fits = record {
    order = λ i lt. omega (arith, fits.order i lt, same (2 * i) (omega arith), same (2 * i + 1) (omega arith));
    links = λ k lt chosen.
        let link = link_at net k in
        let within = All-get_or (λ (l : NetLink). (l.a < length net.bounds) × (l.b < length net.bounds)) net.links k (record { a = 0; rel = rel.Before; b = 0 }) lt net_is.ends in
        subst (λ (e : Ends). Holds (ends_of u link.a) link.rel e) (ends_same link.b within.1)
        (subst (λ (e : Ends). Holds e link.rel (ends_of t link.b)) (ends_same link.a within.0) (fits.links k lt chosen));
    calendar = λ p q lp lq.
        subst (λ (m : ℕ). FollowsNumbers (upper net p) (lower net q) m (u q)) (sym (same p lp))
        (subst (λ (n : ℕ). FollowsNumbers (upper net p) (lower net q) (t p) n) (sym (same q lq)) (fits.calendar p q lp lq));
  }
