-- The numbers of a drill: hidden intervals and links between them, all drawn from its number.
use Rattle.std.specs.Prelude.{ℕ, zero, suc, ◌+◌, ◌-◌, ◌*◌, ◌%◌, ◌/◌, ◌==◌, nat_lt, nat_le, Bool, List, [], ◌∷◌, map, take, Option, option_map, if◌then◌else◌}
use Rattle.std.specs.List.{filter_map, find, flat_map, list_all, range_with_len}
use Rattle.net_core.specs.Atoms.{atoms_between}
use Rattle.net_core.specs.Relations.{Timeline}
use Rattle.net_core.specs.Rels.{all_rels}
use Rattle.net_core.specs.declared.atom.Atom.{Atom}
use Rattle.net_core.specs.declared.net.Ends.{Ends}
use Rattle.net_core.specs.declared.rels.Rel.{Rel}
use Rattle.tml_refs.specs.declared.document.DocLink.{DocLink}

-- the number that is drawn after a number
unfoldable pub next : ℕ → ℕ
next x = (75 * x + 74) % 65537

-- the numbers drawn in drill n, counted from 1; number 0 is n itself
abbrev pub drawn : ℕ → ℕ → ℕ
drawn n zero = n
drawn n (suc k) = next (drawn n k)

-- ---- intervals

-- the start of an interval and its end, by the two numbers that are drawn for it
abbrev pub ends_by : ℕ → ℕ → Ends
ends_by first second = record { start = first % 100; finish = first % 100 + 1 + second % 20 }

-- hidden interval i
abbrev pub hidden : ℕ → ℕ → Ends
hidden n i = ends_by (drawn n (2 * i + 1)) (drawn n (2 * i + 2))

-- all hidden intervals
abbrev pub hidden_intervals : ℕ → List Ends
hidden_intervals n = map (hidden n) (range_with_len 0 n)

-- the same as a timeline
abbrev pub hidden_timeline : ℕ → Timeline
hidden_timeline n = λ p. if p % 2 == 0 then (hidden n (p / 2)).start else (hidden n (p / 2)).finish

-- ---- links

-- an order of two numbers is true
abbrev pub is_in_order : Atom → Bool
is_in_order order = if order.strict then nat_lt order.from order.to else nat_le order.from order.to

-- a relation holds of two intervals: the orders are true that it is, of their starts and ends
abbrev pub does_hold : Ends → Rel → Ends → Bool
does_hold a r b = list_all is_in_order (atoms_between a r b)

-- the relations of a drill: the first fourteen of the table, which are those of TimeML
abbrev pub drill_rels : List Rel
drill_rels = take 14 all_rels

-- the first of them that holds of two intervals, if one does
abbrev pub first_relation : Ends → Ends → Option Rel
first_relation a b = find (λ (r : Rel). does_hold a r b) drill_rels

-- the link from interval i to interval j, where a relation holds between the hidden ones
abbrev pub link_between : ℕ → ℕ → ℕ → Option DocLink
link_between n i j = option_map (λ (r : Rel). record { a = i; rel = r; b = j }) (first_relation (hidden n i) (hidden n j))

-- the interval before interval i to which it is linked the first, the second or the third time
abbrev pub partner : ℕ → ℕ → ℕ → ℕ
partner n i time = drawn n (2 * n + 3 * (i - 1) + time) % i

-- the links from interval i
abbrev pub links_from : ℕ → ℕ → List DocLink
links_from n i = filter_map (λ (time : ℕ). link_between n i (partner n i time)) (1 ∷ 2 ∷ 3 ∷ [])

-- the links of the drill: from each interval but the first to three before it
abbrev pub links_of : ℕ → List DocLink
links_of n = flat_map (links_from n) (range_with_len 1 (n - 1))
