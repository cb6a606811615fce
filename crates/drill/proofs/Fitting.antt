-- The hidden intervals of a drill fit its document.
use Rattle.std.proofs.Common.{◌≡◌, ℕ, zero, suc, ◌+◌, ◌*◌, ◌/◌, ◌%◌, ◌==◌, Bool, List, [], ◌∷◌, map, refl, sym, subst, arith, get_or, ℤ, Option}
use Rattle.std.specs.List.{All, AllZip, range_with_len}
use Rattle.std.proofs.lemmas.List.Elements.{All-from_recursion, All-get_or, All-map, All-same}
use Rattle.named.proofs.Lists.{each_weaker}
use Rattle.net_core.specs.Bounds.{upper_of}
use Rattle.net_core.specs.Fits.{FollowsNumbers, StartsFirst}
use Rattle.net_core.specs.Nets.{bounds_at, lower}
use Rattle.net_core.specs.Relations.{Holds, Relates, ends_of}
use Rattle.net_core.specs.declared.bounds.Bounds.{Bounds}
use Rattle.net_core.specs.declared.bounds.Bounds.TheVariants.{Free}
use Rattle.net_core.specs.declared.net.Ends.{Ends}
use Rattle.net_core.specs.declared.net.NetLink.{NetLink}
use Rattle.net_core.specs.declared.rels.Rel.TheVariants as rel
use Rattle.net_build.specs.Built.{IntervalBounds, net_link}
use Rattle.tml_refs.specs.Documents.{instance}
use Rattle.tml_refs.specs.declared.document.DocLink.{DocLink}
use Rattle.drill.specs.Laws.{HiddenIntervalsFit}
use Rattle.drill.specs.Numbers.{hidden, hidden_timeline, links_of}
use Rattle.drill.specs.Texts.{instance_name}
use Rattle.drill.proofs.Links.{IsTrueLink, true_links}

-- the timeline gives a hidden interval its start
start_at : (n i : ℕ) → hidden_timeline n (2 * i) ≡ (hidden n i).start
start_at n i =
    let even : 2 * i % 2 ≡ 0 = omega arith in
    let half : 2 * i / 2 ≡ i = omega arith in
    rw (even, half) refl

-- and its end
finish_at : (n i : ℕ) → hidden_timeline n (2 * i + 1) ≡ (hidden n i).finish
finish_at n i =
    let odd : (2 * i + 1) % 2 ≡ 1 = omega arith in
    let half : (2 * i + 1) / 2 ≡ i = omega arith in
    rw (odd, half) refl

-- so it gives it both
ends_at : (n i : ℕ) → ends_of (hidden_timeline n) i ≡ hidden n i
ends_at n i = λ k. record { start = start_at n i k; finish = finish_at n i k }

-- a hidden interval starts before it ends
starts_first : (n i : ℕ) → StartsFirst (hidden_timeline n) i
starts_first n i = rw (start_at n i, finish_at n i) (omega arith)

-- a link relates its intervals on the timeline
abbrev IsRelated : ℕ → NetLink → Type 0
IsRelated n link = Relates (hidden_timeline n) link.a link.rel link.b

-- a true link does
related : (n : ℕ) (link : DocLink) → IsTrueLink n link → IsRelated n (net_link link)
related n link true = subst (λ (a : Ends). Holds a link.rel (ends_of (hidden_timeline n) link.b)) (sym (ends_at n link.a)) (subst (λ (b : Ends). Holds (hidden n link.a) link.rel b) (sym (ends_at n link.b)) true.holds)

-- the links of its net are related so
all_related : (n : ℕ) (links : List NetLink) → links ≡ map net_link (links_of n) → All (IsRelated n) links
all_related n links is =
    All-same (IsRelated n) links (map net_link (links_of n)) is (All-map (IsRelated n) net_link (links_of n)
    (All-from_recursion (λ (link : DocLink). IsRelated n (net_link link)) (links_of n) (each_weaker (IsTrueLink n) (λ (link : DocLink). IsRelated n (net_link link)) (related n) (links_of n) (true_links n))))

-- the calendar says nothing of instances
free_bounds : (numbers : List ℕ) (bounds : List Bounds) (p : ℕ) → AllZip IntervalBounds (map (λ (i : ℕ). instance (instance_name i)) numbers) bounds → get_or bounds p Free ≡ Free
free_bounds [] [] p zipped = refl
free_bounds [] (b ∷ bounds) p zipped = absurd zipped
free_bounds (i ∷ numbers) [] p zipped = refl
free_bounds (i ∷ numbers) (b ∷ bounds) zero zipped = zipped.0
free_bounds (i ∷ numbers) (b ∷ bounds) (suc p) zipped = free_bounds numbers bounds p zipped.1

-- so it gives no order of points
follows : (bounds : Bounds) (is_end : Bool) (lower : Option ℤ) (m n : ℕ) → bounds ≡ Free → FollowsNumbers (upper_of bounds is_end) lower m n
follows bounds is_end lower m n free = rw free tt

-- the hidden intervals fit a net of the document
pub hidden_intervals_fit : HiddenIntervalsFit
hidden_intervals_fit n net is of = record {
  order = λ i below. starts_first n i;
  links = λ k below chosen. All-get_or (IsRelated n) net.links k (record { a = 0; rel = rel.Before; b = 0 }) below (all_related n net.links of.links);
  calendar = λ p q first second. follows (bounds_at net (p / 2)) (p % 2 == 1) (lower net q) (hidden_timeline n p) (hidden_timeline n q) (free_bounds (range_with_len 0 n) net.bounds (p / 2) of.bounds);
}
