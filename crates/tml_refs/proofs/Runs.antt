-- Entries of one name stand side by side.
use Rattle.std.proofs.Common.{◌≡◌, ℕ, ◌+◌, ◌-◌, ◌<◌, ◌≤◌, false, List, length, take, get_or, sym, ap, subst, ◌∙◌, arith, length-take}
use Rattle.std.specs.List.{Contains}
use Rattle.std.specs.List.Sorted.{IsSortedByKey}
use Rattle.std.specs.Ordering.{is_lt}
use Rattle.std.specs.declared.cmp.Ordering.TheVariants.{Equal}
use Rattle.std.proofs.lemmas.List.{get_or-take, get_or_default}
use Rattle.std.proofs.lemmas.List.Elements.{All-contains, Contains-get_or}
use Rattle.std.proofs.lemmas.List.Sorted.{ranks_by, sorted_far}
use Rattle.tml_refs.specs.declared.name_index.Entry.{Entry}
use Rattle.tml_refs.specs.NameIndex.{AreEntriesInOrder, HasHead, entry_name, head_of, key_of}
use Rattle.tml_refs.proofs.Orders.{equal_names, name_order, name_total, names_equal, names_not_less, neither_less}

-- an element of a prefix stands below its end
pub place_in : {A : Type 0} (xs : List A) (i : ℕ) (x : A) → Contains (take i xs) x → (j : ℕ) × (j < i) × (j < length xs) × (get_or xs j x ≡ x)
place_in xs i x h =
    let below = h.1 in
    let inside : h.0 < i = omega (arith, length-take i xs) in
    (h.0, inside, omega (arith, length-take i xs), sym (get_or-take i xs h.0 x inside) ∙ h.2)

module _ (entries : List Entry) (order : AreEntriesInOrder entries) where
  by_names : IsSortedByKey key_of name_order entries
  by_names = λ k d low high. names_not_less (key_of (get_or entries (k + 1) d)) (key_of (get_or entries k d)) (order.sorted k d low high)

  same_head : (e f : Entry) → Contains entries e → Contains entries f → entry_name e ≡ entry_name f → e.key.head ≡ f.key.head
  same_head e f x y n =
      let own : HasHead e.key = All-contains (λ (d : Entry). HasHead d.key) entries e order.heads x in
      let its : HasHead f.key = All-contains (λ (d : Entry). HasHead d.key) entries f order.heads y in
      own ∙ ap head_of n ∙ sym its

  not_below : (i j : ℕ) (d : Entry) → i ≤ j → j < length entries → is_lt (name_order (get_or entries j d).key (get_or entries i d).key) ≡ false
  not_below = sorted_far (λ (x y : Entry). is_lt (name_order x.key y.key)) (ranks_by name_total key_of) entries by_names

  between : (e m f : Entry) → Contains entries e → Contains entries f → entry_name e ≡ entry_name f → is_lt (name_order m.key e.key) ≡ false → is_lt (name_order f.key m.key) ≡ false → entry_name e ≡ entry_name m
  between e m f x y n low high =
      let same : name_order e.key f.key ≡ Equal = names_equal e.key f.key (same_head e f x y n) n in
      let up : is_lt (name_order e.key m.key) ≡ false = ap is_lt (name_total.congr e.key f.key m.key same) ∙ high in
      let down = ap is_lt (sym (name_total.antisymm m.key e.key)) ∙ low in
      equal_names e.key m.key (neither_less (name_order e.key m.key) up down)

  -- where an entry has the name of one before it, so has the entry just before
  pub side_by_side : (i : ℕ) (e d : Entry) → 1 ≤ i → i < length entries → Contains (take i entries) e → entry_name e ≡ entry_name (get_or entries i d) → entry_name e ≡ entry_name (get_or entries (i - 1) d)
  side_by_side i e d one below h n =
      let at = place_in entries i e h in
      let before = get_or entries (i - 1) d in
      let here : get_or entries at.0 d ≡ e = get_or_default entries at.0 d e at.2 ∙ at.3 in
      let low : is_lt (name_order before.key e.key) ≡ false = subst (λ (f : Entry). is_lt (name_order before.key f.key) ≡ false) here (not_below at.0 (i - 1) d (omega (arith, at.1)) (omega arith)) in
      let high : is_lt (name_order (get_or entries i d).key before.key) ≡ false = not_below (i - 1) i d (omega arith) below in
      between e before (get_or entries i d) (at.0, at.2, at.3) (Contains-get_or entries i d below) n low high
