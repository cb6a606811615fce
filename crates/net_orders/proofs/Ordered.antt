-- Orders that are put last, step by step.
use Rattle.std.proofs.Common.{◌≡◌, ◌≢◌, ◌↔◌, ℕ, ◌+◌, ◌*◌, ◌<◌, false, List, [], ◌∷◌, ◌++◌, length, get_or, Some, None, sym, subst, arith, below_more}
use Rattle.std.specs.List.{All}
use Rattle.std.proofs.lemmas.Bool.Decides.{nat_tests}
use Rattle.std.proofs.Math.Seq.{drop-append_seam, take-append_seam}
use Rattle.std.proofs.lemmas.List.Elements.{All-append, All-drop, All-push, All-take}
use Rattle.net_core.specs.Atoms.{IsInRange, Satisfies, before}
use Rattle.net_core.specs.Fits.{KeepsLink, StartsFirst}
use Rattle.net_core.specs.Nets.{PlainNet, intervals, points}
use Rattle.net_core.specs.Relations.{Timeline}
use Rattle.net_core.specs.declared.atom.Atom.{Atom}
use Rattle.order_closure.specs.Tables.{AreInRange, SatisfiesAll}
use Rattle.net_orders.specs.Steps.{KeepsDates, KeepsSpans}
use Rattle.net_orders.specs.Orders.{AllAreTrueBut, AreOrdersBelow, IsTrueBut, AppendsOrders, is_this_link}
use Rattle.net_orders.specs.declared.orders.Order.{Order}
use Rattle.net_orders.proofs.LinkAtoms.{no_atom}
use Rattle.net_orders.proofs.Steps.{Below, all_below}

-- what is read past the end of a list of orders
abbrev pub no_order : Order
no_order = record { atom = no_atom; link = None }

-- what is true of all items of two lists, one after the other, is true of those of each
pub all_parts : {X : Type 0} (P : X → Type 0) (xs ys : List X) → All P (xs ++ ys) ↔ (All P xs × All P ys)
all_parts P xs ys = (
  λ all. (
    subst (All P) (take-append_seam xs ys) (All-take P (length xs) (xs ++ ys) all),
    subst (All P) (drop-append_seam xs ys) (All-drop P (length xs) (xs ++ ys) all),
  ),
  λ both. All-append P xs ys both.0 both.1,
)

-- one order is put last
pub appends_one : (n : ℕ) (order : Order) (old new : List Order) → IsInRange n order.atom → new ≡ old ++ order ∷ [] → AppendsOrders n (λ omitted t. IsTrueBut omitted order t) old new
appends_one n order old new in_range is = subst (AppendsOrders n (λ omitted t. IsTrueBut omitted order t) old) (sym is) record {
  in_range = λ below. All-push (λ (o : Order). IsInRange n o.atom) old order below in_range;
  exact = λ omitted t. (
    λ all. let both = (all_parts (λ o. IsTrueBut omitted o t) old (order ∷ [])).0 all in (both.0, both.1 0 order (omega arith)),
    λ both. All-push (λ o. IsTrueBut omitted o t) old order both.0 both.1,
  );
}

-- nothing is put last
pub appends_nothing : (n : ℕ) (Says : ℕ → Timeline → Type 0) (old : List Order) → ((omitted : ℕ) (t : Timeline) → Says omitted t) → AppendsOrders n Says old old
appends_nothing n Says old says = record { in_range = λ below. below; exact = λ omitted t. (λ all. (all, says omitted t), λ both. both.0) }

pub appends_none : (n : ℕ) (Each : ℕ → ℕ → Timeline → Type 0) (old : List Order) → AppendsOrders n (λ omitted t. Below (λ j u. Each j omitted u) 0 t) old old
appends_none n Each old = appends_nothing n (λ omitted t. Below (λ j u. Each j omitted u) 0 t) old (λ omitted t j lt. absurd (omega arith))

-- one thing after others
pub appends_more : (n : ℕ) (Each : ℕ → ℕ → Timeline → Type 0) (k : ℕ) (start now next : List Order)
    → AppendsOrders n (λ omitted t. Below (λ j u. Each j omitted u) k t) start now → AppendsOrders n (Each k) now next → AppendsOrders n (λ omitted t. Below (λ j u. Each j omitted u) (k + 1) t) start next
appends_more n Each k start now next so_far this = record {
  in_range = λ below. this.in_range (so_far.in_range below);
  exact = λ omitted t. (
    λ all.
        let one = (this.exact omitted t).0 all in
        let rest = (so_far.exact omitted t).0 one.0 in
        (rest.0, below_more (λ j. Each j omitted t) k rest.1 one.1),
    λ both. (this.exact omitted t).1 ((so_far.exact omitted t).1 (both.0, λ j lt. both.1 j (omega arith)), both.1 k (omega arith)),
  );
}

-- the same of something that is true where it is
pub appends_same : (n : ℕ) (P Q : ℕ → Timeline → Type 0) (old new : List Order) → ((omitted : ℕ) (t : Timeline) → P omitted t ↔ Q omitted t) → AppendsOrders n P old new → AppendsOrders n Q old new
appends_same n P Q old new same appends = record {
  in_range = appends.in_range;
  exact = λ omitted t. (
    λ all. let both = (appends.exact omitted t).0 all in (both.0, (same omitted t).0 both.1),
    λ both. (appends.exact omitted t).1 (both.0, (same omitted t).1 both.1),
  );
}

-- the order of this number, of those that a link is
abbrev pub order_at : List Atom → ℕ → ℕ → Order
order_at atoms link k = record { atom = get_or atoms k no_atom; link = Some link }

-- a link is not the one that is left out where the test says so
other_link : (link omitted : ℕ) → (is_this_link omitted (Some link) ≡ false) ↔ (link ≢ omitted)
other_link link omitted = grind (arith, nat_tests)

-- all orders of a link are true unless it is left out, exactly where its atoms are unless it is left out
pub link_orders : (atoms : List Atom) (link omitted : ℕ) (t : Timeline)
    → Below (λ k u. IsTrueBut omitted (order_at atoms link k) u) (length atoms) t ↔ (link ≢ omitted → SatisfiesAll atoms t)
link_orders atoms link omitted t =
    let each = all_below (λ (a : Atom) (u : Timeline). Satisfies u a) atoms no_atom t in
    let test = other_link link omitted in (
      λ below other. each.0 (λ k lt. below k lt (test.1 other)),
      λ holds k lt is. each.1 (holds (test.0 is)) k lt,
    )

-- orders that are appended to an empty list are all of them
pub orders_appended : (n : ℕ) (Says : ℕ → Timeline → Type 0) (orders : List Order) → AppendsOrders n Says [] orders
    → (AreOrdersBelow n orders) × ((omitted : ℕ) (t : Timeline) → AllAreTrueBut omitted orders t ↔ Says omitted t)
orders_appended n Says orders appends = (
  appends.in_range (λ k d lt. absurd (omega arith)),
  λ omitted t. (λ all. ((appends.exact omitted t).0 all).1, λ says. (appends.exact omitted t).1 (λ k d lt. absurd (omega arith), says)),
)

-- the first n intervals start before they end
abbrev pub IsFixedBelow : ℕ → Timeline → Type 0
IsFixedBelow n t = Below (λ i u. StartsFirst u i) n t

-- one interval more
pub fixed_more : (net : PlainNet) (i : ℕ) (fixed next : List Atom) → i < intervals net → next ≡ fixed ++ before (2 * i) (2 * i + 1) ∷ []
    → AreInRange (points net) fixed → ((t : Timeline) → SatisfiesAll fixed t → IsFixedBelow i t) → ((t : Timeline) → KeepsSpans net t → SatisfiesAll fixed t ↔ KeepsDates net t)
    → AreInRange (points net) next × ((t : Timeline) → SatisfiesAll next t → IsFixedBelow (i + 1) t) × ((t : Timeline) → KeepsSpans net t → SatisfiesAll next t ↔ KeepsDates net t)
fixed_more net i fixed next within is in_range spans dates =
    let span = before (2 * i) (2 * i + 1) in
    subst (λ (xs : List Atom). AreInRange (points net) xs × ((t : Timeline) → SatisfiesAll xs t → IsFixedBelow (i + 1) t) × ((t : Timeline) → KeepsSpans net t → SatisfiesAll xs t ↔ KeepsDates net t)) (sym is) (
      All-push (IsInRange (points net)) fixed span in_range (omega arith, omega arith),
      λ t all. let both = (all_parts (Satisfies t) fixed (span ∷ [])).0 all in below_more (λ j. StartsFirst t j) i (spans t both.0) (both.1 0 span (omega arith)),
      λ t first. (
        λ all. (dates t first).0 ((all_parts (Satisfies t) fixed (span ∷ [])).0 all).0,
        λ keeps. All-push (Satisfies t) fixed span ((dates t first).1 keeps) (first i (omega arith)),
      ),
    )

-- the orders of one link more
pub link_more : (net : PlainNet) (n k : ℕ) (fixed orders atoms next : List Atom) → next ≡ orders ++ atoms → AreInRange n atoms → ((t : Timeline) → SatisfiesAll atoms t ↔ KeepsLink net t k)
    → AreInRange n orders → ((t : Timeline) → SatisfiesAll orders t ↔ (SatisfiesAll fixed t × Below (λ j u. KeepsLink net u j) k t))
    → AreInRange n next × ((t : Timeline) → SatisfiesAll next t ↔ (SatisfiesAll fixed t × Below (λ j u. KeepsLink net u j) (k + 1) t))
link_more net n k fixed orders atoms next is within said in_range exact =
    subst (λ (xs : List Atom). AreInRange n xs × ((t : Timeline) → SatisfiesAll xs t ↔ (SatisfiesAll fixed t × Below (λ j u. KeepsLink net u j) (k + 1) t))) (sym is) (
      (all_parts (IsInRange n) orders atoms).1 (in_range, within),
      λ t. (
        λ all.
            let both = (all_parts (Satisfies t) orders atoms).0 all in
            let old = (exact t).0 both.0 in
            (old.0, below_more (λ j. KeepsLink net t j) k old.1 ((said t).0 both.1)),
        λ both. (all_parts (Satisfies t) orders atoms).1 ((exact t).1 (both.0, λ j lt. both.1 j (omega arith)), (said t).1 (both.1 k (omega arith))),
      ),
    )
