-- Of any two intervals, exactly one of the base relations holds.
use Rattle.std.proofs.Common.{◌≡◌, ◌⊎◌, inl, inr, ℕ, ◌<◌, Ordering, Less, Equal, Greater, Some, refl, arith, rules}
use Rattle.std.specs.List.{AllByRecursion, Contains}
use Rattle.std.proofs.lemmas.Bool.{cases_order}
use Rattle.std.proofs.lemmas.List.Elements.{All-contains, All-from_recursion}
use Rattle.named.specs.Texts.{named_of}
use Rattle.net_core.specs.BaseRelations.{IsInterval, OneBaseRelationHolds, base_rels}
use Rattle.net_core.specs.Relations.{Holds}
use Rattle.net_core.specs.Rels.{rel_text}
use Rattle.net_core.specs.declared.net.Ends.{Ends}
use Rattle.net_core.specs.declared.rels.Rel.{Rel}
use Rattle.net_core.specs.declared.rels.Rel.TheVariants as rel
use Rattle.net_core.proofs.RelLaws.{found_is_there}

-- how one number stands to another
abbrev Stands : Ordering → ℕ → ℕ → Type 0
Stands Less m n = m < n
Stands Equal m n = m ≡ n
Stands Greater m n = n < m

stands_some : (m n : ℕ) → (o : Ordering) × Stands o m n
stands_some m n = by (cases_order m n)
  where
    by : (m ≡ n) ⊎ ((m < n) ⊎ (n < m)) → (o : Ordering) × Stands o m n
    by (inl same) = (Equal, same)
    by (inr (inl less)) = (Less, less)
    by (inr (inr more)) = (Greater, more)

stands_once : (o p : Ordering) (m n : ℕ) → Stands o m n → Stands p m n → o ≡ p
stands_once Less Less m n h k = refl
stands_once Less Equal m n h k = absurd (omega (arith, h, k))
stands_once Less Greater m n h k = absurd (omega (arith, h, k))
stands_once Equal Less m n h k = absurd (omega (arith, h, k))
stands_once Equal Equal m n h k = refl
stands_once Equal Greater m n h k = absurd (omega (arith, h, k))
stands_once Greater Less m n h k = absurd (omega (arith, h, k))
stands_once Greater Equal m n h k = absurd (omega (arith, h, k))
stands_once Greater Greater m n h k = refl

-- how two intervals lie: how the end of the first stands to the start of the second and its start to the end of the second, and how both starts and both ends stand
record Lie (m n s f : Ordering) (a b : Ends) : Type 0 where
  pub across : Stands m a.finish b.start
  pub back : Stands n a.start b.finish
  pub starts : Stands s a.start b.start
  pub finishes : Stands f a.finish b.finish

-- the base relation of two intervals that lie so
abbrev base_of : Ordering → Ordering → Ordering → Ordering → Rel
base_of Less n s f = rel.Before
base_of Equal n s f = rel.Ibefore
base_of Greater Greater s f = rel.After
base_of Greater Equal s f = rel.Iafter
base_of Greater Less Less Less = rel.Overlaps
base_of Greater Less Less Equal = rel.EndedBy
base_of Greater Less Less Greater = rel.Includes
base_of Greater Less Equal Less = rel.Begins
base_of Greater Less Equal Equal = rel.Simultaneous
base_of Greater Less Equal Greater = rel.BegunBy
base_of Greater Less Greater Less = rel.IsIncluded
base_of Greater Less Greater Equal = rel.Ends
base_of Greater Less Greater Greater = rel.OverlappedBy

-- it holds
base_holds : (a b : Ends) (m n s f : Ordering) → Lie m n s f a b → Holds a (base_of m n s f) b
base_holds a b Less n s f lie = lie.across
base_holds a b Equal n s f lie = lie.across
base_holds a b Greater Greater s f lie = lie.back
base_holds a b Greater Equal s f lie = omega (arith, lie.back)
base_holds a b Greater Less Less Less lie = (lie.starts, lie.across, lie.finishes)
base_holds a b Greater Less Less Equal lie = (omega (arith, lie.finishes), lie.starts)
base_holds a b Greater Less Less Greater lie = (lie.starts, lie.finishes)
base_holds a b Greater Less Equal Less lie = (lie.starts, lie.finishes)
base_holds a b Greater Less Equal Equal lie = (lie.starts, lie.finishes)
base_holds a b Greater Less Equal Greater lie = (omega (arith, lie.starts), lie.finishes)
base_holds a b Greater Less Greater Less lie = (lie.starts, lie.finishes)
base_holds a b Greater Less Greater Equal lie = (lie.finishes, lie.starts)
base_holds a b Greater Less Greater Greater lie = (lie.starts, lie.back, lie.finishes)

-- it is a base relation
base_found : (m n s f : Ordering) → named_of rel_text base_rels (rel_text (base_of m n s f)) ≡ Some (base_of m n s f)
base_found m n s f = search rules

base_is_there : (m n s f : Ordering) → Contains base_rels (base_of m n s f)
base_is_there m n s f = let r = base_of m n s f in found_is_there rel_text base_rels (rel_text r) r (base_found m n s f)

-- two intervals lie in one way
base_once : (m n s f o p t g : Ordering) (a b : Ends) → Lie m n s f a b → Lie o p t g a b → base_of m n s f ≡ base_of o p t g
base_once m n s f o p t g a b lie other =
    let across = stands_once m o a.finish b.start lie.across other.across in
    let back = stands_once n p a.start b.finish lie.back other.back in
    let starts = stands_once s t a.start b.start lie.starts other.starts in
    let finishes = stands_once f g a.finish b.finish lie.finishes other.finishes in
    λ i. base_of (across i) (back i) (starts i) (finishes i)

-- where a base relation holds, they lie so that it is theirs
module _ (a b : Ends) (a_is : IsInterval a) (b_is : IsInterval b) (m n s f : Ordering) (lie : Lie m n s f a b) where
  same : (o p t g : Ordering) → Stands o a.finish b.start → Stands p a.start b.finish → Stands t a.start b.start → Stands g a.finish b.finish → base_of o p t g ≡ base_of m n s f
  same o p t g across back starts finishes = base_once o p t g m n s f a b (record { across = across; back = back; starts = starts; finishes = finishes }) lie

  only_one : AllByRecursion (λ (r : Rel). Holds a r b → r ≡ base_of m n s f) base_rels
  only_one = (
    λ h. same Less Less Less Less h (omega arith) (omega arith) (omega arith),
    (
      λ h. same Greater Greater Greater Greater (omega arith) h (omega arith) (omega arith),
      (
        λ h. same Greater Less Less Greater (omega (arith, h)) (omega (arith, h)) h.0 h.1,
        (
          λ h. same Greater Less Greater Less (omega (arith, h)) (omega (arith, h)) h.0 h.1,
          (
            λ h. same Greater Less Equal Equal (omega (arith, h)) (omega (arith, h)) h.0 h.1,
            (
              λ h. same Equal Less Less Less h (omega (arith, h)) (omega (arith, h)) (omega (arith, h)),
              (
                λ h. same Greater Equal Greater Greater (omega (arith, h)) (omega (arith, h)) (omega (arith, h)) (omega (arith, h)),
                (
                  λ h. same Greater Less Equal Less (omega (arith, h)) (omega (arith, h)) h.0 h.1,
                  (
                    λ h. same Greater Less Equal Greater (omega (arith, h)) (omega (arith, h)) (omega (arith, h)) h.1,
                    (
                      λ h. same Greater Less Greater Equal (omega (arith, h)) (omega (arith, h)) h.1 h.0,
                      (
                        λ h. same Greater Less Less Equal (omega (arith, h)) (omega (arith, h)) h.1 (omega (arith, h)),
                        (
                          λ h. same Greater Less Less Less h.1 (omega (arith, h)) h.0 h.2,
                          (
                            λ h. same Greater Less Greater Greater (omega (arith, h)) h.1 h.0 h.2,
                            tt,
                          ),
                        ),
                      ),
                    ),
                  ),
                ),
              ),
            ),
          ),
        ),
      ),
    ),
  )

-- exactly one of them holds
pub one_base_relation_holds : OneBaseRelationHolds
one_base_relation_holds a b a_is b_is =
    let (m, across) = stands_some a.finish b.start in
    let (n, back) = stands_some a.start b.finish in
    let (s, starts) = stands_some a.start b.start in
    let (f, finishes) = stands_some a.finish b.finish in
    let lie : Lie m n s f a b = record { across = across; back = back; starts = starts; finishes = finishes } in
    let only = All-from_recursion (λ (r : Rel). Holds a r b → r ≡ base_of m n s f) base_rels (only_one a b a_is b_is m n s f lie) in
    (base_of m n s f, base_is_there m n s f, (base_holds a b m n s f lie, λ r is. All-contains (λ (r : Rel). Holds a r b → r ≡ base_of m n s f) base_rels r only is))
