-- Nesting and running give the same.
use Rattle.std.proofs.Common.{◌≡◌, inl, inr, ℕ, Bool, true, false, cond, List, [], ◌∷◌, ◌++◌, refl, sym, ap, subst, ◌∙◌, append_assoc, Option, Some, None}
use Rattle.std.proofs.lemmas.Option.{same_Some}
use Rattle.std.specs.Prelude.{option_and_then}
use Rattle.std.specs.List.{filter}
use Rattle.std.specs.Str.{bytes_eq}
use Rattle.std.proofs.lemmas.List.{append-nil}
use Rattle.std.proofs.lemmas.List.Elements.{filter-append}
use Rattle.std.proofs.lemmas.Slice.Eq.{bytes_eq-Decides}
use Rattle.tml_span.specs.Units.{Kind, bom, declaration, doctype, comment, text, start_tag, end_tag, empty_tag, PlainUnit}
use Rattle.tml_tree.specs.Plain.{unit, PlainNode, PlainNodes, text_node, comment_node, element, none, more, nodes_of}
use Rattle.tml_tree.specs.Nesting.{Item, Items, OpenTag, tag_unit, LeavesOpen, is_content}
use Rattle.tml_tree.specs.Stage.{Stage, step, run}

pub then_some : {A B : Type 0} (o : Option A) (f : A → Option B) (y : B) → option_and_then f o ≡ Some y → (x : A) × (o ≡ Some x) × (f x ≡ Some y)
then_some (Some x) f y e = (x, refl, e)
then_some None f y e = absurd cc

-- the children of a node as a list
unfoldable pub list_of : PlainNodes → List PlainNode
list_of none = []
list_of (more n ns) = n ∷ list_of ns

pub nodes_list : (ns : PlainNodes) → nodes_of (list_of ns) ≡ ns
unfolding list_of
nodes_list none = refl
nodes_list (more n ns) = ap (λ (m : PlainNodes). more n m) (nodes_list ns)

pub list_nodes : (ns : List PlainNode) → list_of (nodes_of ns) ≡ ns
unfolding list_of
list_nodes [] = refl
list_nodes (n ∷ ns) = ap (λ (m : List PlainNode). n ∷ m) (list_nodes ns)

pub same_name : (a : List ℕ) → bytes_eq a a ≡ true
same_name a = (bytes_eq-Decides a a).1 refl

-- running over the units of a node adds it
mutual
  unfolding list_of

  pub item_runs : (n : PlainNode) (us rest : List PlainUnit) (tags : List OpenTag) (nodes : List PlainNode) → Item n us → run tags nodes (us ++ rest) ≡ run tags (nodes ++ n ∷ []) rest
  item_runs (text_node start end bytes) us rest tags nodes h = rw h refl
  item_runs (comment_node start end bytes) us rest tags nodes h = rw h refl
  item_runs (element start end name attrs children) us rest tags nodes (inl h) = rw (h.1, h.0) refl
  item_runs (element start end name attrs children) us rest tags nodes (inr h) =
      let t : OpenTag = record { start = start; end = h.1; name = name; attrs = attrs; before = nodes } in
      let last = unit h.2 end (end_tag name) in
      rw (h.3, append_assoc h.0 (last ∷ []) rest) (items_run children h.0 (last ∷ rest) (t ∷ tags) [] h.4 ∙ rw (same_name name, nodes_list children) refl)

  pub items_run : (ns : PlainNodes) (us rest : List PlainUnit) (tags : List OpenTag) (nodes : List PlainNode) → Items ns us → run tags nodes (us ++ rest) ≡ run tags (nodes ++ list_of ns) rest
  items_run none us rest tags nodes h = rw (h, append-nil nodes) refl
  items_run (more n ns) us rest tags nodes h =
      rw (h.2, append_assoc h.0 h.1 rest) (item_runs n h.0 (h.1 ++ rest) tags nodes h.3 ∙ items_run ns h.1 rest tags (nodes ++ n ∷ []) h.4 ∙ ap (λ (ms : List PlainNode). run tags ms rest) (append_assoc nodes (n ∷ []) (list_of ns)))

pub opens_run : (tags : List OpenTag) (nodes : List PlainNode) (us rest : List PlainUnit) → LeavesOpen us tags nodes → run [] [] (us ++ rest) ≡ run tags nodes rest
opens_run [] nodes us rest h = items_run (nodes_of nodes) us rest [] [] h ∙ ap (λ (ms : List PlainNode). run [] ms rest) (list_nodes nodes)
opens_run (t ∷ tags) nodes us rest h =
    rw (h.2, append_assoc h.0 (tag_unit t ∷ h.1) rest) (opens_run tags t.before h.0 (tag_unit t ∷ h.1 ++ rest) h.3 ∙ items_run (nodes_of nodes) h.1 rest (t ∷ tags) [] h.4 ∙ ap (λ (ms : List PlainNode). run (t ∷ tags) ms rest) (list_nodes nodes))

-- a unit that is part of no node changes nothing
then_same : (o : Option Stage) (f g : Stage → Option Stage) → ((s : Stage) → f s ≡ g s) → option_and_then f o ≡ option_and_then g o
then_same None f g h = refl
then_same (Some s) f g h = h s

contents_kind : (start end : ℕ) (k : Kind) (us : List PlainUnit) (tags : List OpenTag) (nodes : List PlainNode) → ((ts : List OpenTag) (ns : List PlainNode) → run ts ns (filter is_content us) ≡ run ts ns us)
    → run tags nodes (filter is_content (unit start end k ∷ us)) ≡ run tags nodes (unit start end k ∷ us)
contents_kind start end bom us tags nodes h = h tags nodes
contents_kind start end (declaration b) us tags nodes h = h tags nodes
contents_kind start end (doctype b) us tags nodes h = h tags nodes
contents_kind start end k us tags nodes h = then_same (step tags nodes (unit start end k)) _ _ (λ s. h s.tags s.nodes)

pub contents_run : (us : List PlainUnit) (tags : List OpenTag) (nodes : List PlainNode) → run tags nodes (filter is_content us) ≡ run tags nodes us
contents_run [] tags nodes = refl
contents_run (u ∷ us) tags nodes = contents_kind u.start u.end u.kind us tags nodes (λ ts ns. contents_run us ts ns)

-- ---- one more node

pub items_more : (nodes : List PlainNode) (n : PlainNode) (us vs : List PlainUnit) → Items (nodes_of nodes) us → Item n vs → Items (nodes_of (nodes ++ n ∷ [])) (us ++ vs)
items_more [] n us vs h i = (vs, [], rw h (sym (append-nil vs)), i, refl)
items_more (m ∷ nodes) n us vs h i = (h.0, h.1 ++ vs, rw h.2 (append_assoc h.0 h.1 vs), h.3, items_more nodes n h.1 vs h.4 i)

pub opens_more : (tags : List OpenTag) (nodes : List PlainNode) (n : PlainNode) (us vs : List PlainUnit) → LeavesOpen us tags nodes → Item n vs → LeavesOpen (us ++ vs) tags (nodes ++ n ∷ [])
opens_more [] nodes n us vs h i = items_more nodes n us vs h i
opens_more (t ∷ tags) nodes n us vs h i = (h.0, h.1 ++ vs, rw h.2 (append_assoc h.0 (tag_unit t ∷ h.1) vs), h.3, items_more nodes n h.1 vs h.4 i)

-- an end tag makes an element of what follows its start tag
pub opens_end : (t : OpenTag) (tags : List OpenTag) (nodes : List PlainNode) (us : List PlainUnit) (turn end : ℕ) → LeavesOpen us (t ∷ tags) nodes
    → LeavesOpen (us ++ unit turn end (end_tag t.name) ∷ []) tags (t.before ++ element t.start end t.name t.attrs (nodes_of nodes) ∷ [])
opens_end t tags nodes us turn end h =
    let last = unit turn end (end_tag t.name) in
    rw (h.2, append_assoc h.0 (tag_unit t ∷ h.1) (last ∷ [])) (opens_more tags t.before (element t.start end t.name t.attrs (nodes_of nodes)) h.0 (tag_unit t ∷ h.1 ++ last ∷ []) h.3 (inr (h.1, t.end, turn, refl, h.4)))

-- ---- one more unit

closes : (t : OpenTag) (tags : List OpenTag) (nodes : List PlainNode) (us : List PlainUnit) (start end : ℕ) (name : List ℕ) (s : Stage) (b : Bool) → bytes_eq t.name name ≡ b → LeavesOpen us (t ∷ tags) nodes
    → cond b (Some (record { tags = tags; nodes = t.before ++ element t.start end t.name t.attrs (nodes_of nodes) ∷ [] })) None ≡ Some s → LeavesOpen (us ++ unit start end (end_tag name) ∷ []) s.tags s.nodes
closes t tags nodes us start end name s false e h w = absurd cc
closes t tags nodes us start end name s true e h w =
    let same = (bytes_eq-Decides t.name name).0 e in
    subst (λ (r : Stage). LeavesOpen (us ++ unit start end (end_tag name) ∷ []) r.tags r.nodes) (same_Some _ _ w) (subst (λ (n : List ℕ). LeavesOpen (us ++ unit start end (end_tag n) ∷ []) tags (t.before ++ element t.start end t.name t.attrs (nodes_of nodes) ∷ [])) same (opens_end t tags nodes us start end h))

opens_kind : (start end : ℕ) (k : Kind) (tags : List OpenTag) (nodes : List PlainNode) (us : List PlainUnit) (s : Stage) → LeavesOpen us tags nodes → step tags nodes (unit start end k) ≡ Some s → LeavesOpen (us ++ filter is_content (unit start end k ∷ [])) s.tags s.nodes
opens_kind start end bom tags nodes us s h e = rw (append-nil us) (subst (λ (r : Stage). LeavesOpen us r.tags r.nodes) (same_Some _ _ e) h)
opens_kind start end (declaration b) tags nodes us s h e = rw (append-nil us) (subst (λ (r : Stage). LeavesOpen us r.tags r.nodes) (same_Some _ _ e) h)
opens_kind start end (doctype b) tags nodes us s h e = rw (append-nil us) (subst (λ (r : Stage). LeavesOpen us r.tags r.nodes) (same_Some _ _ e) h)
opens_kind start end (comment b) tags nodes us s h e = subst (λ (r : Stage). LeavesOpen (us ++ unit start end (comment b) ∷ []) r.tags r.nodes) (same_Some _ _ e) (opens_more tags nodes (comment_node start end b) us _ h refl)
opens_kind start end (text b) tags nodes us s h e = subst (λ (r : Stage). LeavesOpen (us ++ unit start end (text b) ∷ []) r.tags r.nodes) (same_Some _ _ e) (opens_more tags nodes (text_node start end b) us _ h refl)
opens_kind start end (start_tag name attrs) tags nodes us s h e = subst (λ (r : Stage). LeavesOpen (us ++ unit start end (start_tag name attrs) ∷ []) r.tags r.nodes) (same_Some _ _ e) (us, [], refl, h, refl)
opens_kind start end (empty_tag name attrs) tags nodes us s h e = subst (λ (r : Stage). LeavesOpen (us ++ unit start end (empty_tag name attrs) ∷ []) r.tags r.nodes) (same_Some _ _ e) (opens_more tags nodes (element start end name attrs none) us _ h (inl (refl, refl)))
opens_kind start end (end_tag name) [] nodes us s h e = absurd cc
opens_kind start end (end_tag name) (t ∷ tags) nodes us s h e = closes t tags nodes us start end name s (bytes_eq t.name name) refl h e

-- what is open after one more unit
pub opens_step : (us : List PlainUnit) (u : PlainUnit) (tags : List OpenTag) (nodes : List PlainNode) (s : Stage) → LeavesOpen (filter is_content us) tags nodes → step tags nodes u ≡ Some s → LeavesOpen (filter is_content (us ++ u ∷ [])) s.tags s.nodes
opens_step us u tags nodes s h e = rw (filter-append is_content us (u ∷ [])) (opens_kind u.start u.end u.kind tags nodes (filter is_content us) s h e)

-- ---- nesting is running

pub open_runs : (us : List PlainUnit) (tags : List OpenTag) (nodes : List PlainNode) → LeavesOpen (filter is_content us) tags nodes → run [] [] us ≡ Some (record { tags = tags; nodes = nodes })
open_runs us tags nodes h = sym (contents_run us [] []) ∙ ap (λ (vs : List PlainUnit). run [] [] vs) (sym (append-nil (filter is_content us))) ∙ opens_run tags nodes (filter is_content us) [] h

run_from : (done us : List PlainUnit) (tags : List OpenTag) (nodes : List PlainNode) (s : Stage) → LeavesOpen (filter is_content done) tags nodes → run tags nodes us ≡ Some s → LeavesOpen (filter is_content (done ++ us)) s.tags s.nodes
run_from done [] tags nodes s h e = rw (append-nil done) (subst (λ (r : Stage). LeavesOpen (filter is_content done) r.tags r.nodes) (same_Some _ _ e) h)
run_from done (u ∷ us) tags nodes s h e =
    let one = then_some (step tags nodes u) (λ r. run r.tags r.nodes us) s e in
    subst (λ (vs : List PlainUnit). LeavesOpen (filter is_content vs) s.tags s.nodes) (append_assoc done (u ∷ []) us) (run_from (done ++ u ∷ []) us one.0.tags one.0.nodes s (opens_step done u tags nodes one.0 h one.1) one.2)

pub runs_open : (us : List PlainUnit) (s : Stage) → run [] [] us ≡ Some s → LeavesOpen (filter is_content us) s.tags s.nodes
runs_open us s e = run_from [] us [] [] s refl e

run_append : (us vs : List PlainUnit) (tags : List OpenTag) (nodes : List PlainNode) → run tags nodes (us ++ vs) ≡ option_and_then (λ (s : Stage). run s.tags s.nodes vs) (run tags nodes us)
run_append [] vs tags nodes = refl
run_append (u ∷ us) vs tags nodes = elim (step tags nodes u) as (λ o. option_and_then (λ (s : Stage). run s.tags s.nodes (us ++ vs)) o ≡ option_and_then (λ (s : Stage). run s.tags s.nodes vs) (option_and_then (λ (s : Stage). run s.tags s.nodes us) o)) [
  | None ↦ refl
  | Some s ↦ run_append us vs s.tags s.nodes
]

-- units nest in one way
pub one_nesting : (us : List PlainUnit) (tags others : List OpenTag) (nodes rest : List PlainNode) → LeavesOpen (filter is_content us) tags nodes → LeavesOpen (filter is_content us) others rest → (tags ≡ others) × (nodes ≡ rest)
one_nesting us tags others nodes rest h k =
    let e = sym (open_runs us tags nodes h) ∙ open_runs us others rest k in
    (ap (λ (s : Stage). s.tags) (same_Some _ _ e), ap (λ (s : Stage). s.nodes) (same_Some _ _ e))

-- units that nest do so without the last
pub nests_before : (us : List PlainUnit) (u : PlainUnit) (tags : List OpenTag) (nodes : List PlainNode) → LeavesOpen (filter is_content (us ++ u ∷ [])) tags nodes
    → (s : Stage) × LeavesOpen (filter is_content us) s.tags s.nodes × (step s.tags s.nodes u ≡ Some (record { tags = tags; nodes = nodes }))
nests_before us u tags nodes h =
    let one = then_some (run [] [] us) (λ s. run s.tags s.nodes (u ∷ [])) _ (sym (run_append us (u ∷ []) [] []) ∙ open_runs (us ++ u ∷ []) tags nodes h) in
    let two = then_some (step one.0.tags one.0.nodes u) (λ s. Some s) _ one.2 in
    (one.0, runs_open us one.0 one.1, two.1 ∙ two.2)
