-- What is written of open tags and nodes, after one more unit and at the end.
use Rattle.std.proofs.Common.{◌≡◌, ℕ, suc, ◌+◌, ◌-◌, ◌≤◌, ◌^◌, min, Bool, true, false, cond, List, [], ◌∷◌, ◌++◌, length, refl, sym, ap, subst, ◌∙◌, append_assoc, arith, Some, None}
use Rattle.std.specs.Prelude.{codes}
use Rattle.std.specs.List.{filter}
use Rattle.std.specs.Str.{bytes_eq}
use Rattle.std.proofs.lemmas.List.{append-nil}
use Rattle.std.proofs.lemmas.List.Elements.{filter-append}
use Rattle.std.proofs.lemmas.Option.{same_Some}
use Rattle.std.proofs.lemmas.Slice.Eq.{bytes_eq-Decides}
use Rattle.tml_span.specs.Units.{Attribute, comment, text, start_tag, end_tag, empty_tag}
use Rattle.tml_span.specs.Written.{unit_text}
use Rattle.tml_tree.specs.Nesting.{OpenTag, is_element}
use Rattle.tml_tree.specs.Plain.{PlainNode, none, element, text_node, comment_node, nodes_of}
use Rattle.tml_tree.specs.Stage.{Stage}
use Rattle.tml_tree.specs.Written.{node_text}
use Rattle.tml_canon.specs.Canonical.{canonical, canonical_attributes, canonical_nodes, opening}
use Rattle.tml_canon.specs.Writing.{Closes, HasWritten, HasClosedStart, Writes, canonical_nodes_text, ends_bare, open_text, text_so_far}
use Rattle.tml_canon.specs.declared.writer.Writer.{Writer}
use Rattle.tml_canon.proofs.Pushing.{empty_text, full_text, nodes_text-more}

-- ---- one more node

-- the text of one more node is put last
nodes_text_more : (nodes : List PlainNode) (n : PlainNode) → canonical_nodes_text (nodes ++ n ∷ []) ≡ canonical_nodes_text nodes ++ node_text (canonical n)
nodes_text_more [] n = nodes_text-more (canonical n) none ∙ append-nil (node_text (canonical n))
nodes_text_more (m ∷ nodes) n =
    nodes_text-more (canonical m) (canonical_nodes (nodes_of (nodes ++ n ∷ [])))
    ∙ ap (λ (s : List ℕ). node_text (canonical m) ++ s) (nodes_text_more nodes n)
    ∙ sym (append_assoc (node_text (canonical m)) (canonical_nodes_text nodes) (node_text (canonical n)))
    ∙ ap (λ (s : List ℕ). s ++ node_text (canonical n)) (sym (nodes_text-more (canonical m) (canonical_nodes (nodes_of nodes))))

-- one more element outside all tags
outer_element : (nodes : List PlainNode) (n : PlainNode) → is_element n ≡ true → filter is_element (nodes ++ n ∷ []) ≡ filter is_element nodes ++ n ∷ []
outer_element nodes n e = filter-append is_element nodes (n ∷ []) ∙ ap (λ (b : Bool). filter is_element nodes ++ cond b (n ∷ []) []) e

-- a text or a comment outside all tags
outer_leaf : (nodes : List PlainNode) (n : PlainNode) → is_element n ≡ false → filter is_element (nodes ++ n ∷ []) ≡ filter is_element nodes
outer_leaf nodes n e = filter-append is_element nodes (n ∷ []) ∙ ap (λ (b : Bool). filter is_element nodes ++ cond b (n ∷ []) []) e ∙ append-nil (filter is_element nodes)

-- one more node inside a tag
inner_more : (t : OpenTag) (tags : List OpenTag) (nodes : List PlainNode) (n : PlainNode) → open_text (t ∷ tags) (nodes ++ n ∷ []) ≡ open_text (t ∷ tags) nodes ++ node_text (canonical n)
inner_more t tags nodes n =
    let start = open_text tags t.before ++ unit_text (start_tag t.name (canonical_attributes t.attrs)) in
    ap (λ (s : List ℕ). start ++ s) (nodes_text_more nodes n) ∙ sym (append_assoc start (canonical_nodes_text nodes) (node_text (canonical n)))

-- one more element
element_more : (tags : List OpenTag) (nodes : List PlainNode) (n : PlainNode) → is_element n ≡ true → open_text tags (nodes ++ n ∷ []) ≡ open_text tags nodes ++ node_text (canonical n)
element_more [] nodes n e = ap canonical_nodes_text (outer_element nodes n e) ∙ nodes_text_more (filter is_element nodes) n
element_more (t ∷ tags) nodes n e = inner_more t tags nodes n

-- where there is a node the innermost start tag has its `>`
so_far_more : (tags : List OpenTag) (nodes : List PlainNode) (n : PlainNode) → open_text tags (nodes ++ n ∷ []) ≡ text_so_far tags (nodes ++ n ∷ [])
so_far_more [] nodes n = refl
so_far_more (t ∷ tags) [] n = refl
so_far_more (t ∷ tags) (m ∷ nodes) n = refl

not_bare : (tags : List OpenTag) (nodes : List PlainNode) (n : PlainNode) → false ≡ ends_bare tags (nodes ++ n ∷ [])
not_bare [] nodes n = refl
not_bare (t ∷ tags) [] n = refl
not_bare (t ∷ tags) (m ∷ nodes) n = refl

-- ---- the last start tag gets its `>`

pub closed_start : (tags : List OpenTag) (nodes : List PlainNode) → true ≡ ends_bare tags nodes → text_so_far tags nodes ++ codes ">" ≡ open_text tags nodes
closed_start [] nodes e = absurd cc
closed_start (t ∷ tags) [] e =
    append_assoc (open_text tags t.before) (opening t.name (canonical_attributes t.attrs)) (codes ">")
    ∙ sym (append-nil (open_text tags t.before ++ unit_text (start_tag t.name (canonical_attributes t.attrs))))
closed_start (t ∷ tags) (n ∷ nodes) e = absurd cc

pub has_close : (tags : List OpenTag) (nodes : List PlainNode) → false ≡ ends_bare tags nodes → text_so_far tags nodes ≡ open_text tags nodes
has_close [] nodes e = refl
has_close (t ∷ tags) [] e = absurd cc
has_close (t ∷ tags) (n ∷ nodes) e = refl

-- a writer whose last start tag has its `>`, and one that gives it its `>`
pub is_closed : (w : Writer) → w.is_bare ≡ false → Closes w w
is_closed w b = λ tags nodes h. record { text = h.text ∙ has_close tags nodes (sym b ∙ h.is_bare); depth = h.depth; is_bare = b }

pub closes : (old new : Writer) → old.is_bare ≡ true → new.text.items ≡ old.text.items ++ codes ">" → new.depth ≡ old.depth → new.is_bare ≡ false → Closes old new
closes old new b e d c = λ tags nodes h. record {
  text = e ∙ ap (λ (s : List ℕ). s ++ codes ">") h.text ∙ closed_start tags nodes (sym b ∙ h.is_bare);
  depth = d ∙ h.depth;
  is_bare = c;
}

-- ---- a text or a comment

-- a text or a comment outside all tags is left out
leaf_left : (tags : List OpenTag) (nodes : List PlainNode) (n : PlainNode) (w : Writer) → is_element n ≡ false → w.depth ≡ 0 → HasWritten tags nodes w → HasWritten tags (nodes ++ n ∷ []) w
leaf_left [] nodes n w e d h = record { text = h.text ∙ sym (ap canonical_nodes_text (outer_leaf nodes n e)); depth = h.depth; is_bare = h.is_bare }
leaf_left (t ∷ tags) nodes n w e d h = absurd (omega (arith, d, h.depth))

-- and inside the root it stays
leaf_put : (tags : List OpenTag) (nodes : List PlainNode) (n : PlainNode) (ready new : Writer) → (length tags ≡ 0 → ⊥) → HasClosedStart tags nodes ready → new.text.items ≡ ready.text.items ++ node_text (canonical n) → new.depth ≡ ready.depth → new.is_bare ≡ ready.is_bare
    → HasWritten tags (nodes ++ n ∷ []) new
leaf_put [] nodes n ready new some h e d b = absurd (some refl)
leaf_put (t ∷ tags) nodes n ready new some h e d b = record {
  text = e ∙ ap (λ (s : List ℕ). s ++ node_text (canonical n)) h.text ∙ sym (inner_more t tags nodes n) ∙ so_far_more (t ∷ tags) nodes n;
  depth = d ∙ h.depth;
  is_bare = b ∙ h.is_bare ∙ not_bare (t ∷ tags) nodes n;
}

-- what is written of a stage is so of the stage that a step gives
of_stage : (r s : Stage) (w : Writer) → Some r ≡ Some s → HasWritten r.tags r.nodes w → HasWritten s.tags s.nodes w
of_stage r s w e h = subst (λ (q : Stage). HasWritten q.tags q.nodes w) (same_Some _ _ e) h

pub text_left : (b : List ℕ) (w : Writer) → w.depth ≡ 0 → Writes w (text b) w
text_left b w d = λ tags nodes start end s few e h. of_stage (record { tags = tags; nodes = nodes ++ text_node start end b ∷ [] }) s w e (leaf_left tags nodes (text_node start end b) w refl d h)

pub comment_left : (b : List ℕ) (w : Writer) → w.depth ≡ 0 → Writes w (comment b) w
comment_left b w d = λ tags nodes start end s few e h. of_stage (record { tags = tags; nodes = nodes ++ comment_node start end b ∷ [] }) s w e (leaf_left tags nodes (comment_node start end b) w refl d h)

module _ (b : List ℕ) (old ready new : Writer) (some : old.depth ≡ 0 → ⊥) (c : Closes old ready) (e : new.text.items ≡ ready.text.items ++ b) (d : new.depth ≡ ready.depth) (same : new.is_bare ≡ ready.is_bare) where
  leaf_text : new.text.items ≡ ready.text.items ++ (b ++ [])
  leaf_text = e ∙ ap (λ (s : List ℕ). ready.text.items ++ s) (sym (append-nil b))

  pub text_put : Writes old (text b) new
  text_put = λ tags nodes start end s few w h. of_stage (record { tags = tags; nodes = nodes ++ text_node start end b ∷ [] }) s new w (leaf_put tags nodes (text_node start end b) ready new (λ z. some (h.depth ∙ z)) (c tags nodes h) leaf_text d same)

  pub comment_put : Writes old (comment b) new
  comment_put = λ tags nodes start end s few w h. of_stage (record { tags = tags; nodes = nodes ++ comment_node start end b ∷ [] }) s new w (leaf_put tags nodes (comment_node start end b) ready new (λ z. some (h.depth ∙ z)) (c tags nodes h) leaf_text d same)

-- ---- a tag

pub start_put : (name : List ℕ) (attrs : List Attribute) (old ready new : Writer) → Closes old ready → new.text.items ≡ ready.text.items ++ opening name (canonical_attributes attrs) → new.depth ≡ min (ready.depth + 1) (2 ^ 32 - 1) → new.is_bare ≡ true
    → Writes old (start_tag name attrs) new
start_put name attrs old ready new c e d b = λ tags nodes start end s few w h.
    let r : Stage = record { tags = record { start = start; end = end; name = name; attrs = attrs; before = nodes } ∷ tags; nodes = [] } in
    let ready_is = c tags nodes h in
    let few_tags : length r.tags ≤ 32 = subst (λ (q : Stage). length q.tags ≤ 32) (sym (same_Some _ _ w)) few in
    of_stage r s new w (record {
      text = e ∙ ap (λ (s : List ℕ). s ++ opening name (canonical_attributes attrs)) ready_is.text;
      depth = d ∙ one_deeper ready.depth (length tags) ready_is.depth few_tags;
      is_bare = b;
    })
  where
    one_deeper : (depth tags : ℕ) → depth ≡ tags → suc tags ≤ 32 → min (depth + 1) (2 ^ 32 - 1) ≡ suc tags
    one_deeper depth tags e few = omega (arith, e, few)

-- an element is put last
element_put : (tags : List OpenTag) (nodes : List PlainNode) (n : PlainNode) (new : Writer) → is_element n ≡ true → new.text.items ≡ open_text tags nodes ++ node_text (canonical n) → new.depth ≡ length tags → new.is_bare ≡ false → HasWritten tags (nodes ++ n ∷ []) new
element_put tags nodes n new is e d b = record {
  text = e ∙ sym (element_more tags nodes n is) ∙ so_far_more tags nodes n;
  depth = d;
  is_bare = b ∙ not_bare tags nodes n;
}

pub empty_tag_put : (name : List ℕ) (attrs : List Attribute) (old ready new : Writer) → Closes old ready → new.text.items ≡ ready.text.items ++ opening name (canonical_attributes attrs) ++ codes "/>" → new.depth ≡ ready.depth → new.is_bare ≡ ready.is_bare
    → Writes old (empty_tag name attrs) new
empty_tag_put name attrs old ready new c e d b = λ tags nodes start end s few w h.
    let n = element start end name attrs none in
    let tag = opening name (canonical_attributes attrs) in
    let ready_is = c tags nodes h in
    let put : new.text.items ≡ open_text tags nodes ++ node_text (canonical n) =
    e ∙ ap (λ (s : List ℕ). s ++ tag ++ codes "/>") ready_is.text ∙ append_assoc (open_text tags nodes) tag (codes "/>") ∙ ap (λ (s : List ℕ). open_text tags nodes ++ s) (sym (empty_text name (canonical_attributes attrs))) in
    of_stage (record { tags = tags; nodes = nodes ++ n ∷ [] }) s new w (element_put tags nodes n new refl put (d ∙ ready_is.depth) (b ∙ ready_is.is_bare))

-- ---- an end tag

-- right after its start tag
bare_element : (t : OpenTag) (tags : List OpenTag) (end : ℕ) (out : List ℕ) → out ≡ text_so_far (t ∷ tags) [] → out ++ codes "/>" ≡ open_text tags t.before ++ node_text (canonical (element t.start end t.name t.attrs none))
bare_element t tags end out e =
    let tag = opening t.name (canonical_attributes t.attrs) in
    ap (λ (s : List ℕ). s ++ codes "/>") e
    ∙ append_assoc (open_text tags t.before) tag (codes "/>")
    ∙ ap (λ (s : List ℕ). open_text tags t.before ++ s) (sym (empty_text t.name (canonical_attributes t.attrs)))

-- after nodes
full_element : (t : OpenTag) (tags : List OpenTag) (n : PlainNode) (nodes : List PlainNode) (end : ℕ) (out : List ℕ) → out ≡ text_so_far (t ∷ tags) (n ∷ nodes)
    → out ++ unit_text (end_tag t.name) ≡ open_text tags t.before ++ node_text (canonical (element t.start end t.name t.attrs (nodes_of (n ∷ nodes))))
full_element t tags n nodes end out e =
    let start = unit_text (start_tag t.name (canonical_attributes t.attrs)) in
    let inner = canonical_nodes_text (n ∷ nodes) in
    let close = unit_text (end_tag t.name) in
    ap (λ (s : List ℕ). s ++ close) e
    ∙ append_assoc (open_text tags t.before ++ start) inner close
    ∙ append_assoc (open_text tags t.before) start (inner ++ close)
    ∙ ap (λ (s : List ℕ). open_text tags t.before ++ s) (sym (append_assoc start inner close) ∙ sym (full_text t.name (canonical_attributes t.attrs) (canonical n) (canonical_nodes (nodes_of nodes))))

-- the step of an end tag
ended : (t : OpenTag) (tags : List OpenTag) (nodes : List PlainNode) (end : ℕ) (name : List ℕ) (s : Stage) (new : Writer) (b : Bool) → bytes_eq t.name name ≡ b
    → cond b (Some (record { tags = tags; nodes = t.before ++ element t.start end t.name t.attrs (nodes_of nodes) ∷ [] })) None ≡ Some s
    → (t.name ≡ name → new.text.items ≡ open_text tags t.before ++ node_text (canonical (element t.start end t.name t.attrs (nodes_of nodes)))) → new.depth ≡ length tags → new.is_bare ≡ false → HasWritten s.tags s.nodes new
ended t tags nodes end name s new false same w put d b = absurd cc
ended t tags nodes end name s new true same w put d b =
    let n = element t.start end t.name t.attrs (nodes_of nodes) in
    of_stage (record { tags = tags; nodes = t.before ++ n ∷ [] }) s new w (element_put tags t.before n new refl (put ((bytes_eq-Decides t.name name).0 same)) d b)

less_deep : (depth tags : ℕ) → depth ≡ suc tags → depth - 1 ≡ tags
less_deep depth tags e = omega (arith, e)

module _ (name : List ℕ) (old new : Writer) (d : new.depth ≡ old.depth - 1) (b : new.is_bare ≡ false) where
  pub bare_end : old.is_bare ≡ true → new.text.items ≡ old.text.items ++ codes "/>" → Writes old (end_tag name) new
  bare_end is e [] nodes start end s few w h = absurd cc
  bare_end is e (t ∷ tags) [] start end s few w h =
      ended t tags [] end name s new (bytes_eq t.name name) refl w (λ same. e ∙ bare_element t tags end old.text.items h.text) (d ∙ less_deep old.depth (length tags) h.depth) b
  bare_end is e (t ∷ tags) (n ∷ nodes) start end s few w h = let not = sym is ∙ h.is_bare in absurd cc

  pub full_end : old.is_bare ≡ false → new.text.items ≡ old.text.items ++ unit_text (end_tag name) → Writes old (end_tag name) new
  full_end is e [] nodes start end s few w h = absurd cc
  full_end is e (t ∷ tags) [] start end s few w h = let not = sym is ∙ h.is_bare in absurd cc
  full_end is e (t ∷ tags) (n ∷ nodes) start end s few w h =
      ended t tags (n ∷ nodes) end name s new (bytes_eq t.name name) refl w
      (λ same. e ∙ ap (λ (q : List ℕ). old.text.items ++ unit_text (end_tag q)) (sym same) ∙ full_element t tags n nodes end old.text.items h.text) (d ∙ less_deep old.depth (length tags) h.depth) b
