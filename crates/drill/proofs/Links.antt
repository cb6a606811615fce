-- The links of a drill are true of its hidden intervals.
use Rattle.std.proofs.Common.{ℕ, ◌-◌, ◌*◌, ◌<◌, ◌≤◌, [], ◌∷◌, length, arith}
use Rattle.std.specs.List.{AllByRecursion, range_with_len}
use Rattle.std.specs.Option.{IfSome}
use Rattle.std.proofs.lemmas.List.FromFn.{length-range_with_len}
use Rattle.std.proofs.lemmas.Option.{IfSome_then}
use Rattle.named.proofs.Lists.{each_flat_map}
use Rattle.net_core.specs.Relations.{Holds}
use Rattle.net_core.specs.declared.rels.Rel.{Rel}
use Rattle.tml_refs.specs.declared.document.DocLink.{DocLink}
use Rattle.drill.specs.Numbers.{does_hold, drill_rels, first_relation, hidden, link_between, links_from, links_of, partner}
use Rattle.drill.proofs.Lists.{all_filter_map, all_range, filter_map_length, flat_map_length, found_passes, if_some_made}
use Rattle.drill.proofs.Relations.{holds_decided}

-- a link between intervals of the drill, whose relation holds of the hidden ones
pub record IsTrueLink (n : ℕ) (link : DocLink) : Type 0 where
  pub a : link.a < n
  pub b : link.b < n
  pub holds : Holds (hidden n link.a) link.rel (hidden n link.b)

-- a link that is made is true
true_link : (n i j : ℕ) → i < n → j < n → IfSome (link_between n i j) (IsTrueLink n)
true_link n i j from to =
    if_some_made (IsTrueLink n) (λ (r : Rel). record { a = i; rel = r; b = j }) (first_relation (hidden n i) (hidden n j))
    (IfSome_then (first_relation (hidden n i) (hidden n j)) (found_passes (λ (r : Rel). does_hold (hidden n i) r (hidden n j)) drill_rels)
    (λ r h. record { a = from; b = to; holds = (holds_decided r (hidden n i) (hidden n j)).0 h }))

-- the links from an interval are true
true_links_from : (n i : ℕ) → 1 ≤ i → i < n → AllByRecursion (IsTrueLink n) (links_from n i)
true_links_from n i some below =
    let each : (time : ℕ) → IfSome (link_between n i (partner n i time)) (IsTrueLink n) = λ time. true_link n i (partner n i time) below (omega arith) in
    all_filter_map (IsTrueLink n) (λ (time : ℕ). link_between n i (partner n i time)) (1 ∷ 2 ∷ 3 ∷ []) (each 1, (each 2, (each 3, tt)))

-- all links are true
pub true_links : (n : ℕ) → AllByRecursion (IsTrueLink n) (links_of n)
true_links n =
    each_flat_map (IsTrueLink n) (links_from n) (range_with_len 1 (n - 1))
    (all_range (λ i. AllByRecursion (IsTrueLink n) (links_from n i)) 1 (n - 1) (λ i some below. true_links_from n i some (omega arith)))

-- there are at most three from each interval but the first
pub few_links : (n : ℕ) → length (links_of n) ≤ 3 * (n - 1)
few_links n =
    let each : (i : ℕ) → length (links_from n i) ≤ 3 = λ i. filter_map_length (λ (time : ℕ). link_between n i (partner n i time)) (1 ∷ 2 ∷ 3 ∷ []) in
    let all = flat_map_length (links_from n) 3 (range_with_len 1 (n - 1)) (all_range (λ i. length (links_from n i) ≤ 3) 1 (n - 1) (λ i some below. each i)) in
    omega (arith, all, length-range_with_len 1 (n - 1))
