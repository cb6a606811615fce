-- In the canonical form of the tree of a source no text meets another one.
use Rattle.std.proofs.Common.{◌≡◌, inl, inr, ℕ, true, false, cond, List, [], ◌∷◌, ◌++◌, map, refl, sym, ap, subst, ◌∙◌, append_assoc}
use Rattle.std.specs.Prelude.{codes}
use Rattle.std.specs.List.{filter}
use Rattle.std.proofs.lemmas.List.{map-append}
use Rattle.tml_span.specs.Units.{Kind, comment, text, start_tag, end_tag, PlainUnit}
use Rattle.tml_span.specs.Written.{BeginsWithText, NoTextsMeet}
use Rattle.tml_span.proofs.TextsApart.{kind_of}
use Rattle.tml_tree.specs.Plain.{unit, PlainNode, PlainNodes, text_node, comment_node, element, none, more, nodes_of}
use Rattle.tml_tree.specs.Nesting.{Item, Items, is_content, is_element}
use Rattle.tml_tree.specs.Whole.{IsTreeOf}
use Rattle.tml_tree.specs.Written.{kinds_of, all_kinds, MayBeRoot, root_kinds}
use Rattle.tml_tree.proofs.AfterTag.{after_tag, apart_after_tag}
use Rattle.tml_tree.proofs.Running.{open_runs}
use Rattle.tml_canon.specs.Canonical.{canonical, canonical_attributes, canonical_nodes}
use Rattle.tml_canon.proofs.Standing.{stands}

-- where no two texts meet among some kinds none do among others, and these begin with a text only where those do
abbrev Spares : List Kind → List Kind → Type 0
Spares kinds others = (NoTextsMeet kinds → NoTextsMeet others) × (BeginsWithText others → BeginsWithText kinds)

-- ---- nodes and their units

mutual
  -- texts meet in the canonical form of a node, and after it, only where they do among its units
  item_spares : (node : PlainNode) (us : List PlainUnit) (kinds others : List Kind) → Item node us → Spares kinds others → Spares (map kind_of us ++ kinds) (kinds_of (canonical node) ++ others)
  item_spares (text_node start end bytes) us kinds others i h =
      subst (λ (vs : List PlainUnit). Spares (map kind_of vs ++ kinds) (text bytes ∷ others)) (sym i) (λ apart. (λ begins. apart.0 (h.1 begins), h.0 apart.1), λ begins. tt)
  item_spares (comment_node start end bytes) us kinds others i h =
      subst (λ (vs : List PlainUnit). Spares (map kind_of vs ++ kinds) (comment bytes ∷ others)) (sym i) (h.0, λ begins. begins)
  item_spares (element start end name attrs none) us kinds others (inl i) h =
      subst (λ (vs : List PlainUnit). Spares (map kind_of vs ++ kinds) (kinds_of (canonical (element start end name attrs none)) ++ others)) (sym i.1) (h.0, λ begins. begins)
  item_spares (element start end name attrs (more n ns)) us kinds others (inl i) h = absurd (cc (i.0))
  item_spares (element start end name attrs none) us kinds others (inr i) h =
      let whole = i.3 ∙ ap (λ (vs : List PlainUnit). unit start i.1 (start_tag name attrs) ∷ vs ++ unit i.2 end (end_tag name) ∷ []) i.4 in
      subst (λ (vs : List PlainUnit). Spares (map kind_of vs ++ kinds) (kinds_of (canonical (element start end name attrs none)) ++ others)) (sym whole) (h.0, λ begins. begins)
  item_spares (element start end name attrs (more n ns)) us kinds others (inr i) h =
      let inner = items_spare (more n ns) i.0 (end_tag name ∷ kinds) (end_tag name ∷ others) i.4 (h.0, λ begins. begins) in
      let children = all_kinds (canonical_nodes (more n ns)) in
      let before = ap (λ (ks : List Kind). ks ++ kinds) (map-append kind_of i.0 (unit i.2 end (end_tag name) ∷ [])) ∙ append_assoc (map kind_of i.0) (end_tag name ∷ []) kinds in
      let after = append_assoc children (end_tag name ∷ []) others in
      subst (λ (vs : List PlainUnit). Spares (map kind_of vs ++ kinds) (kinds_of (canonical (element start end name attrs (more n ns))) ++ others)) (sym i.3)
      (subst (λ (p : List Kind × List Kind). Spares (start_tag name attrs ∷ p.0) (start_tag name (canonical_attributes attrs) ∷ p.1)) (λ j. (sym before j, sym after j)) (inner.0, λ begins. begins))

  -- the same of nodes one after another
  items_spare : (nodes : PlainNodes) (us : List PlainUnit) (kinds others : List Kind) → Items nodes us → Spares kinds others → Spares (map kind_of us ++ kinds) (all_kinds (canonical_nodes nodes) ++ others)
  items_spare none us kinds others i h = subst (λ (vs : List PlainUnit). Spares (map kind_of vs ++ kinds) others) (sym i) h
  items_spare (more n ns) us kinds others i h =
      let parts = item_spares n i.0 (map kind_of i.1 ++ kinds) (all_kinds (canonical_nodes ns) ++ others) i.3 (items_spare ns i.1 kinds others i.4 h) in
      let before = ap (λ (vs : List PlainUnit). map kind_of vs ++ kinds) i.2 ∙ ap (λ (ks : List Kind). ks ++ kinds) (map-append kind_of i.0 i.1) ∙ append_assoc (map kind_of i.0) (map kind_of i.1) kinds in
      let after = append_assoc (kinds_of (canonical n)) (all_kinds (canonical_nodes ns)) others in
      subst (λ (p : List Kind × List Kind). Spares p.0 p.1) (λ j. (sym before j, sym after j)) parts

-- ---- the root

-- the units of a node that is no element are no tags
leaf_passed : (node : PlainNode) (us rest : List PlainUnit) → is_element node ≡ false → Item node us → after_tag (us ++ rest) ≡ after_tag rest
leaf_passed (text_node start end bytes) us rest e i = ap (λ (vs : List PlainUnit). after_tag (vs ++ rest)) i
leaf_passed (comment_node start end bytes) us rest e i = ap (λ (vs : List PlainUnit). after_tag (vs ++ rest)) i
leaf_passed (element start end name attrs children) us rest e i = absurd cc

-- the units of the first element among nodes, and those after it
root_units : (nodes : List PlainNode) (root : PlainNode) (others : List PlainNode) (us : List PlainUnit) → filter is_element nodes ≡ root ∷ others → Items (nodes_of nodes) us
    → (own : List PlainUnit) × (rest : List PlainUnit) × Item root own × (after_tag us ≡ after_tag (own ++ rest))
root_units [] root others us e i = absurd cc
root_units (n ∷ nodes) root others us e i =
    elim (is_element n) as (λ b. is_element n ≡ b → cond b (n ∷ filter is_element nodes) (filter is_element nodes) ≡ root ∷ others → (own : List PlainUnit) × (rest : List PlainUnit) × Item root own × (after_tag us ≡ after_tag (own ++ rest))) [
      | true ↦ λ is k. let same : n ≡ root = cc in (i.0, i.1, subst (λ (m : PlainNode). Item m i.0) same i.3, ap (λ (vs : List PlainUnit). after_tag vs) i.2)
      | false ↦ λ is k.
          let later = root_units nodes root others i.1 k i.4 in
          (later.0, later.1, later.2, ap (λ (vs : List PlainUnit). after_tag vs) i.2 ∙ leaf_passed n i.0 i.1 is i.3 ∙ later.3)
    ] refl e

-- where no two texts meet after the first tag of a root, none do in its canonical form
root_apart : (root : PlainNode) (own rest : List PlainUnit) → MayBeRoot root → Item root own → NoTextsMeet (map kind_of (after_tag (own ++ rest))) → NoTextsMeet (root_kinds (canonical root))
root_apart (text_node start end bytes) own rest m i h = absurd m
root_apart (comment_node start end bytes) own rest m i h = absurd m
root_apart (element start end name attrs none) own rest m i h = (λ begins. begins, tt)
root_apart (element start end name attrs (more n ns)) own rest m (inl i) h = absurd (cc (i.0))
root_apart (element start end name attrs (more n ns)) own rest m (inr i) h =
    let last = unit i.2 end (end_tag name) in
    let line = text (codes "\n") ∷ [] in
    let spares = items_spare (more n ns) i.0 (end_tag name ∷ map kind_of rest) (end_tag name ∷ line) i.4 (λ apart. (λ begins. begins, tt), λ begins. begins) in
    let later = ap (λ (vs : List PlainUnit). map kind_of (after_tag (vs ++ rest))) i.3 ∙ ap (λ (vs : List PlainUnit). map kind_of vs) (append_assoc i.0 (last ∷ []) rest) ∙ map-append kind_of i.0 (last ∷ rest) in
    subst (λ (ks : List Kind). NoTextsMeet ks) (sym (append_assoc (all_kinds (canonical_nodes (more n ns))) (end_tag name ∷ []) line)) (spares.0 (subst (λ (ks : List Kind). NoTextsMeet ks) later h))

-- what is written of a root begins with no text
pub root_begins : (root : PlainNode) → MayBeRoot root → BeginsWithText (root_kinds root) → ⊥
root_begins (text_node start end bytes) m begins = m
root_begins (comment_node start end bytes) m begins = m
root_begins (element start end name attrs none) m begins = begins
root_begins (element start end name attrs (more n ns)) m begins = begins

-- in the canonical form of the tree of a source, and the LF after it, no text meets another one
pub apart : (source : List ℕ) (root : PlainNode) → IsTreeOf source root → NoTextsMeet (root_kinds (canonical root))
apart source root t =
    let nodes = t.2.1.0 in
    let later = apart_after_tag [] t.0 0 source [] [] (record { tags = []; nodes = nodes }) refl (open_runs t.0 [] nodes t.2.1.1) t.2.0.1 t.1.1 in
    let units = root_units nodes root [] (filter is_content t.0) t.2.1.2 t.2.1.1 in
    root_apart root units.0 units.1 (stands source root t) units.2 (subst (λ (vs : List PlainUnit). NoTextsMeet (map kind_of vs)) units.3 later)
