-- Trees have one canonical text exactly where they are the same.
use Rattle.std.proofs.Common.{◌≡◌, ℕ, false, List, [], ◌∷◌, ◌++◌, refl, sym, ap, ap₂, subst}
use Rattle.std.specs.List.{AllByRecursion}
use Rattle.std.proofs.lemmas.Bool.{false_from_ne_true}
use Rattle.std.proofs.lemmas.List.Elements.{recursion_from_All}
use Rattle.faults.specs.declared.kind.FaultKind.TheVariants.{RepeatedAttribute}
use Rattle.tml_tree.specs.Plain.{PlainNode, PlainNodes, text_node, comment_node, element, none, more}
use Rattle.tml_tree.specs.Walking.{PlainTag, all_elements, elements}
use Rattle.tml_tree.specs.Whole.{IsTreeOf}
use Rattle.tml_tree.specs.Written.{root_text}
use Rattle.tml_tree.proofs.Paths.{one_tree_of_source}
use Rattle.tml_types.specs.Rules.{BreaksNoTagRule, is_repeated}
use Rattle.tml_refs.specs.Documents.{PlainDocument}
use Rattle.tml_canon.specs.Canonical.{canonical, canonical_nodes, canonical_text}
use Rattle.tml_accept.specs.Acceptance.{TreeSays}
use Rattle.tml_canon.specs.Laws.{OneCanonicalText, canonical_tree}
use Rattle.tml_canon.specs.Same.{AllSame, Same}
use Rattle.tml_canon.proofs.Alike.{canonical_is_same, same_back, same_on}
use Rattle.tml_canon.proofs.UnlikeNames.{same_attributes}
use Rattle.tml_canon.proofs.CanonicalTrees.{canonical_is_read}

-- ---- trees that are the same have one canonical text

-- no two attributes of any of some tags have one name
abbrev NoneRepeated : List PlainTag → Type 0
NoneRepeated tags = AllByRecursion (λ (tag : PlainTag). is_repeated tag.attrs ≡ false) tags

-- tags that break no rule have no repeated attribute
none_repeated : (tags : List PlainTag) → AllByRecursion BreaksNoTagRule tags → NoneRepeated tags
none_repeated [] all = tt
none_repeated (tag ∷ tags) all = (false_from_ne_true (is_repeated tag.attrs) (all.0 RepeatedAttribute), none_repeated tags all.1)

-- what holds of tags and of others holds of the tags
first_part : (tags others : List PlainTag) → NoneRepeated (tags ++ others) → NoneRepeated tags
first_part [] others all = tt
first_part (tag ∷ tags) others all = (all.0, first_part tags others all.1)

-- and it holds of the others
last_part : (tags others : List PlainTag) → NoneRepeated (tags ++ others) → NoneRepeated others
last_part [] others all = all
last_part (tag ∷ tags) others all = last_part tags others all.1

mutual
  -- trees without repeated attributes that are the same are one canonical tree
  same_canonical : (n m : PlainNode) → NoneRepeated (elements n) → NoneRepeated (elements m) → Same n m → canonical n ≡ canonical m
  same_canonical (text_node s e bytes) (text_node t f others) left right h = ap (λ (all : List ℕ). text_node 0 0 all) h
  same_canonical (text_node s e bytes) (comment_node t f others) left right h = absurd h
  same_canonical (text_node s e bytes) (element t f name attrs children) left right h = absurd h
  same_canonical (comment_node s e bytes) (text_node t f others) left right h = absurd h
  same_canonical (comment_node s e bytes) (comment_node t f others) left right h = ap (λ (all : List ℕ). comment_node 0 0 all) h
  same_canonical (comment_node s e bytes) (element t f name attrs children) left right h = absurd h
  same_canonical (element s e name attrs children) (text_node t f others) left right h = absurd h
  same_canonical (element s e name attrs children) (comment_node t f others) left right h = absurd h
  same_canonical (element s e name attrs children) (element t f other others nodes) left right h =
      let all = same_attributes attrs others left.0 right.0 h.1 in
      let inner = all_same_canonical children nodes left.1 right.1 h.2 in
      λ i. element 0 0 (h.0 i) (all i) (inner i)

  -- and so are nodes one after another
  all_same_canonical : (ns ms : PlainNodes) → NoneRepeated (all_elements ns) → NoneRepeated (all_elements ms) → AllSame ns ms → canonical_nodes ns ≡ canonical_nodes ms
  all_same_canonical none none left right h = refl
  all_same_canonical none (more m ms) left right h = absurd h
  all_same_canonical (more n ns) none left right h = absurd h
  all_same_canonical (more n ns) (more m ms) left right h = ap₂ (λ (k : PlainNode) (ks : PlainNodes). more k ks)
      (same_canonical n m (first_part (elements n) (all_elements ns) left) (first_part (elements m) (all_elements ms) right) h.0)
      (all_same_canonical ns ms (last_part (elements n) (all_elements ns) left) (last_part (elements m) (all_elements ms) right) h.1)

-- a tree that says something has no repeated attribute
of_tree : (root : PlainNode) (contents : PlainDocument) → TreeSays root contents → NoneRepeated (elements root)
of_tree root contents says = none_repeated (elements root) (recursion_from_All BreaksNoTagRule (elements root) says.1.sound)

-- ---- and the other way round

-- trees of sources that have one canonical text are the same, since this is read as one tree that is the same as each
same_from_text : (source other : List ℕ) (root tree : PlainNode) → IsTreeOf source root → IsTreeOf other tree → canonical_text root ≡ canonical_text tree → Same root tree
same_from_text source other root tree of_source of_other e =
    let left = canonical_is_read source root of_source in
    let right = subst (λ (text : List ℕ). IsTreeOf text (canonical_tree tree)) (sym e) (canonical_is_read other tree of_other) in
    let one = one_tree_of_source (canonical_text root) (canonical_tree root) (canonical_tree tree) left right in
    let back = same_back tree (canonical_tree tree) (canonical_is_same tree) in
    same_on root (canonical_tree root) tree (canonical_is_same root) (subst (λ (n : PlainNode). Same n tree) (sym one) back)

-- trees that break no rule have one canonical text exactly where they are the same
pub one_canonical_text : OneCanonicalText
one_canonical_text = λ source other root tree contents says of_source of_other root_says tree_says. (
  same_from_text source other root tree of_source of_other,
  λ h. ap root_text (same_canonical root tree (of_tree root contents root_says) (of_tree tree says tree_says) h),
)
