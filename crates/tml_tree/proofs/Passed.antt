-- Units that are judged one after another, and what is known of them.
use Rattle.std.proofs.Common.{◌≡◌, ◌⊎◌, inl, inr, ℕ, Bool, true, false, cond, not, ◌&&◌, ◌||◌, nat_le, List, [], ◌∷◌, ◌++◌, map, refl, sym, ap, subst, ◌∙◌, Some, None}
use Rattle.std.proofs.Math.Bool.{or-false, or-true}
use Rattle.std.proofs.lemmas.Option.{same_Some}
use Rattle.std.specs.List.{filter, list_any}
use Rattle.std.specs.Str.{bytes_eq}
use Rattle.std.proofs.lemmas.List.{append-nil}
use Rattle.std.proofs.lemmas.List.Elements.{filter-append}
use Rattle.named.proofs.Lists.{any_more}
use Rattle.tml_span.specs.Units.{Kind, bom, declaration, doctype, comment, text, start_tag, end_tag, empty_tag, PlainUnit}
use Rattle.faults.specs.First.{NoneBreaks}
use Rattle.faults.proofs.First.{none_breaks_nil}
use Rattle.faults.specs.declared.kind.FaultKind.{FaultKind}
use Rattle.tml_tree.specs.Plain.{unit, PlainNode, text_node, comment_node, element, none, nodes_of}
use Rattle.tml_tree.specs.Nesting.{OpenTag, LeavesOpen, open_name, is_seen, is_content, is_element}
use Rattle.tml_tree.specs.TagNames.{is_known, is_root}
use Rattle.tml_tree.specs.Rules.{is_past_bom, is_tag, is_doctype, is_nil, History, history_of}
use Rattle.tml_tree.specs.Stage.{Stage, step}
use Rattle.tml_tree.specs.Trees.{BreaksUnitRule, Differs, Path, Document, Unclosed, UnitFaultAt}
use Rattle.tml_tree.specs.Roots.{outer, AtMostOne, EndsIn}
use Rattle.tml_tree.specs.Judging.{HavePassed, after, first_fault, no_history, outer_names}
use Rattle.tml_tree.proofs.Running.{opens_step}
use Rattle.tml_tree.proofs.FirstFaults.{first_of}
use Rattle.tml_tree.proofs.Paths.{one_path, fault_at, lawful_more}
use Rattle.tml_tree.proofs.LastUnits.{differs}

-- ---- whether the root was seen

seen_leaf : (tags : List OpenTag) (nodes : List PlainNode) (n : PlainNode) → is_element n ≡ false → is_seen tags (nodes ++ n ∷ []) ≡ is_seen tags nodes
seen_leaf [] nodes n e = any_more is_element nodes n ∙ ap (λ (b : Bool). list_any is_element nodes || b) e ∙ or-false (list_any is_element nodes)
seen_leaf (t ∷ tags) nodes n e = refl

seen_element : (tags : List OpenTag) (nodes : List PlainNode) (n : PlainNode) → is_element n ≡ true → is_seen tags (nodes ++ n ∷ []) ≡ is_nil (map open_name tags)
seen_element [] nodes n e = any_more is_element nodes n ∙ ap (λ (b : Bool). list_any is_element nodes || b) e ∙ or-true (list_any is_element nodes)
seen_element (t ∷ tags) nodes n e = refl

-- at most one element outside
single_leaf : (tags : List OpenTag) (nodes : List PlainNode) (n : PlainNode) → filter is_element (n ∷ []) ≡ [] → AtMostOne tags nodes → AtMostOne tags (nodes ++ n ∷ [])
single_leaf [] nodes n e h =
    let same : filter is_element (nodes ++ n ∷ []) ≡ filter is_element nodes = filter-append is_element nodes (n ∷ []) ∙ ap (λ (ns : List PlainNode). filter is_element nodes ++ ns) e ∙ append-nil (filter is_element nodes) in
    elim h [ inl k ↦ inl (same ∙ k) | inr k ↦ inr (k.0, same ∙ k.1) ]
single_leaf (t ∷ tags) nodes n e h = h

single_element : (tags : List OpenTag) (nodes : List PlainNode) (n : PlainNode) → filter is_element (n ∷ []) ≡ n ∷ [] → filter is_element (outer tags nodes) ≡ [] → AtMostOne tags (nodes ++ n ∷ [])
single_element [] nodes n e h = inr (n, filter-append is_element nodes (n ∷ []) ∙ ap (λ (ns : List PlainNode). filter is_element nodes ++ ns) e ∙ ap (λ (ns : List PlainNode). ns ++ n ∷ []) h)
single_element (t ∷ tags) nodes n e h = h

pub no_elements : (nodes : List PlainNode) → list_any is_element nodes ≡ false → filter is_element nodes ≡ []
no_elements [] e = refl
no_elements (n ∷ nodes) e = elim (is_element n) as (λ b. (b || list_any is_element nodes) ≡ false → cond b (n ∷ filter is_element nodes) (filter is_element nodes) ≡ []) [
  | true ↦ λ h. absurd cc
  | false ↦ λ h. no_elements nodes h
] e

pub some_elements : (nodes : List PlainNode) → filter is_element nodes ≡ [] → list_any is_element nodes ≡ false
some_elements [] e = refl
some_elements (n ∷ nodes) e = elim (is_element n) as (λ b. cond b (n ∷ filter is_element nodes) (filter is_element nodes) ≡ [] → (b || list_any is_element nodes) ≡ false) [
  | true ↦ λ h. absurd cc
  | false ↦ λ h. some_elements nodes h
] e

-- a tag that is allowed is where no root was seen
unseen_rule : (a m d s : Bool) → first_of a false (m || s || false) d ≡ None → s ≡ false
unseen_rule true m d s e = absurd cc
unseen_rule false true d s e = absurd cc
unseen_rule false false d true e = absurd cc
unseen_rule false false d false e = refl

none_outside : (before : List PlainUnit) (tags : List OpenTag) (nodes : List PlainNode) (name : List ℕ) → AtMostOne tags nodes → first_fault (history_of before (map open_name tags) (is_seen tags nodes)) (start_tag name []) ≡ None → filter is_element (outer tags nodes) ≡ []
none_outside before [] nodes name h e = no_elements nodes (unseen_rule (not (is_known name)) (not (list_any is_tag before) && not (is_root name)) (nat_le 32 0) (list_any is_element nodes) e)
none_outside before (t ∷ tags) nodes name h e = h

-- a step keeps both
pub record StaysSeen (tags : List OpenTag) (nodes : List PlainNode) (u : PlainUnit) (s : Stage) : Type 0 where
  pub seen : is_seen s.tags s.nodes ≡ cond (is_tag u) (is_nil (map open_name s.tags)) (is_seen tags nodes)
  pub single : AtMostOne s.tags s.nodes

kept_end : (t : OpenTag) (tags : List OpenTag) (nodes : List PlainNode) (start end : ℕ) (name : List ℕ) (s : Stage) (b : Bool) → AtMostOne (t ∷ tags) nodes
    → cond b (Some (record { tags = tags; nodes = t.before ++ element t.start end t.name t.attrs (nodes_of nodes) ∷ [] })) None ≡ Some s → StaysSeen (t ∷ tags) nodes (unit start end (end_tag name)) s
kept_end t tags nodes start end name s false h e = absurd cc
kept_end t tags nodes start end name s true h e =
    let n = element t.start end t.name t.attrs (nodes_of nodes) in
    subst (λ (r : Stage). StaysSeen (t ∷ tags) nodes (unit start end (end_tag name)) r) (same_Some _ _ e) (record { seen = seen_element tags t.before n refl; single = single_element tags t.before n refl h })

pub kept_kind : (start end : ℕ) (k : Kind) (before : List PlainUnit) (tags : List OpenTag) (nodes : List PlainNode) (s : Stage) → AtMostOne tags nodes → first_fault (history_of before (map open_name tags) (is_seen tags nodes)) k ≡ None
    → step tags nodes (unit start end k) ≡ Some s → StaysSeen tags nodes (unit start end k) s
kept_kind start end bom before tags nodes s h l e = subst (λ (r : Stage). StaysSeen tags nodes (unit start end bom) r) (same_Some _ _ e) (record { seen = refl; single = h })
kept_kind start end (declaration b) before tags nodes s h l e = subst (λ (r : Stage). StaysSeen tags nodes (unit start end (declaration b)) r) (same_Some _ _ e) (record { seen = refl; single = h })
kept_kind start end (doctype b) before tags nodes s h l e = subst (λ (r : Stage). StaysSeen tags nodes (unit start end (doctype b)) r) (same_Some _ _ e) (record { seen = refl; single = h })
kept_kind start end (comment b) before tags nodes s h l e =
    subst (λ (r : Stage). StaysSeen tags nodes (unit start end (comment b)) r) (same_Some _ _ e) (record { seen = seen_leaf tags nodes (comment_node start end b) refl; single = single_leaf tags nodes (comment_node start end b) refl h })
kept_kind start end (text b) before tags nodes s h l e =
    subst (λ (r : Stage). StaysSeen tags nodes (unit start end (text b)) r) (same_Some _ _ e) (record { seen = seen_leaf tags nodes (text_node start end b) refl; single = single_leaf tags nodes (text_node start end b) refl h })
kept_kind start end (start_tag name attrs) before tags nodes s h l e =
    subst (λ (r : Stage). StaysSeen tags nodes (unit start end (start_tag name attrs)) r) (same_Some _ _ e) (record { seen = refl; single = none_outside before tags nodes name h l })
kept_kind start end (empty_tag name attrs) before tags nodes s h l e =
    let n = element start end name attrs none in
    subst (λ (r : Stage). StaysSeen tags nodes (unit start end (empty_tag name attrs)) r) (same_Some _ _ e) (record { seen = seen_element tags nodes n refl; single = single_element tags nodes n refl (none_outside before tags nodes name h l) })
kept_kind start end (end_tag name) before [] nodes s h l e = absurd cc
kept_kind start end (end_tag name) before (t ∷ tags) nodes s h l e = kept_end t tags nodes start end name s (bytes_eq t.name name) h e

-- ---- the end

pub unclosed_open : (us : List PlainUnit) (t : OpenTag) (tags : List OpenTag) (nodes : List PlainNode) → LeavesOpen (filter is_content us) (t ∷ tags) nodes → NoneBreaks BreaksUnitRule us → Unclosed us
unclosed_open us t tags nodes h l =
    let path : Path us (open_name t ∷ map open_name tags) false = ((t ∷ tags, nodes, h, refl, refl), l) in
    ((_, _, path), λ p. let e = one_path us _ _ _ _ path p in absurd (cc (e.0)))

pub unclosed_none : (us : List PlainUnit) (nodes : List PlainNode) → LeavesOpen (filter is_content us) [] nodes → NoneBreaks BreaksUnitRule us → filter is_element nodes ≡ [] → Unclosed us
unclosed_none us nodes h l e =
    let path : Path us [] (list_any is_element nodes) = (([], nodes, h, refl, refl), l) in
    ((_, _, path), λ p. let q = one_path us _ _ _ _ path p in absurd (cc (q.1, some_elements nodes e)))

last_alone : (prefix : List PlainNode) (root : PlainNode) (ns : List PlainNode) → ns ≡ prefix ++ root ∷ [] → (ns ≡ []) ⊎ ((r : PlainNode) × (ns ≡ r ∷ [])) → ns ≡ root ∷ []
last_alone [] root ns e h = e
last_alone (f ∷ []) root ns e (inl k) = absurd cc
last_alone (f ∷ []) root ns e (inr k) = absurd (cc (k.1))
last_alone (f ∷ g ∷ prefix) root ns e (inl k) = absurd cc
last_alone (f ∷ g ∷ prefix) root ns e (inr k) = absurd (cc (k.1))

found : (nodes : List PlainNode) (root : PlainNode) → filter is_element nodes ≡ root ∷ [] → list_any is_element nodes ≡ true
found [] root e = absurd cc
found (n ∷ nodes) root e = elim (is_element n) as (λ b. cond b (n ∷ filter is_element nodes) (filter is_element nodes) ≡ root ∷ [] → (b || list_any is_element nodes) ≡ true) [
  | true ↦ λ h. refl
  | false ↦ λ h. found nodes root h
] e

pub document_is : (us : List PlainUnit) (root : PlainNode) (nodes : List PlainNode) → LeavesOpen (filter is_content us) [] nodes → NoneBreaks BreaksUnitRule us → AtMostOne [] nodes → EndsIn root (filter is_element nodes) → Document root us
document_is us root nodes h l s e =
    let one = last_alone e.0 root (filter is_element nodes) e.1 s in
    ((([], nodes, h, refl, sym (found nodes root one)), l), (nodes, h, one))

-- ---- one more unit

-- before the first unit
pub passed_none : HavePassed [] [] [] no_history
passed_none = record { opens = refl; lawful = none_breaks_nil BreaksUnitRule; begun = refl; tagged = refl; doctyped = refl; names = refl; seen = refl; single = inl refl }

-- what is known of units is what the rules ask about them
history_is : (us : List PlainUnit) (tags : List OpenTag) (nodes : List PlainNode) (h : History) → HavePassed us tags nodes h → h ≡ history_of us (map open_name tags) (is_seen tags nodes)
history_is us tags nodes h p = λ i. record { begun = p.begun i; tagged = p.tagged i; doctyped = p.doctyped i; names = p.names i; seen = p.seen i }

path_is : (us : List PlainUnit) (tags : List OpenTag) (nodes : List PlainNode) (h : History) → HavePassed us tags nodes h → Path us (map open_name tags) (is_seen tags nodes)
path_is us tags nodes h p = ((tags, nodes, p.opens, refl, refl), p.lawful)

begun_after : (h : History) (start end : ℕ) (k : Kind) → (after h k).begun ≡ (h.begun || is_past_bom (unit start end k))
begun_after h start end bom = sym (or-false h.begun)
begun_after h start end k = sym (or-true h.begun)

tagged_after : (h : History) (start end : ℕ) (k : Kind) → (after h k).tagged ≡ (h.tagged || is_tag (unit start end k))
tagged_after h start end (start_tag name attrs) = sym (or-true h.tagged)
tagged_after h start end (end_tag name) = sym (or-true h.tagged)
tagged_after h start end (empty_tag name attrs) = sym (or-true h.tagged)
tagged_after h start end k = sym (or-false h.tagged)

doctyped_after : (h : History) (start end : ℕ) (k : Kind) → (after h k).doctyped ≡ (h.doctyped || is_doctype (unit start end k))
doctyped_after h start end (doctype bytes) = sym (or-true h.doctyped)
doctyped_after h start end k = sym (or-false h.doctyped)

names_after : (h : History) (k : Kind) (names : List (List ℕ)) → Differs k h.names names → (after h k).names ≡ names
names_after h (start_tag name attrs) names d = sym d
names_after h (end_tag name) names d = ap outer_names d
names_after h k names d = sym d

seen_after : (h : History) (start end : ℕ) (k : Kind) (names : List (List ℕ)) → Differs k h.names names → (after h k).seen ≡ cond (is_tag (unit start end k)) (is_nil names) h.seen
seen_after h start end (start_tag name attrs) names d = sym (ap is_nil d)
seen_after h start end (end_tag name) names d = ap (λ (ns : List (List ℕ)). is_nil (outer_names ns)) d
seen_after h start end (empty_tag name attrs) names d = ap is_nil (sym d)
seen_after h start end k names d = refl

-- one more unit without a fault
pub passed_more : (us : List PlainUnit) (u : PlainUnit) (tags : List OpenTag) (nodes : List PlainNode) (h : History) (s : Stage) → HavePassed us tags nodes h → first_fault h u.kind ≡ None → step tags nodes u ≡ Some s
    → HavePassed (us ++ u ∷ []) s.tags s.nodes (after h u.kind)
passed_more us u tags nodes h s p sound e =
    let history = history_of us (map open_name tags) (is_seen tags nodes) in
    let lawful : first_fault history u.kind ≡ None = ap (λ (g : History). first_fault g u.kind) (sym (history_is us tags nodes h p)) ∙ sound in
    let kept = kept_kind u.start u.end u.kind us tags nodes s p.single lawful e in
    let d = subst (λ (ns : List (List ℕ)). Differs u.kind ns (map open_name s.tags)) (sym p.names) (differs u.start u.end u.kind tags nodes s e) in
    record {
      opens = opens_step us u tags nodes s p.opens e;
      lawful = lawful_more us u (map open_name tags) (is_seen tags nodes) (path_is us tags nodes h p) lawful;
      begun = begun_after h u.start u.end u.kind ∙ ap (λ (b : Bool). b || is_past_bom u) p.begun ∙ sym (any_more is_past_bom us u);
      tagged = tagged_after h u.start u.end u.kind ∙ ap (λ (b : Bool). b || is_tag u) p.tagged ∙ sym (any_more is_tag us u);
      doctyped = doctyped_after h u.start u.end u.kind ∙ ap (λ (b : Bool). b || is_doctype u) p.doctyped ∙ sym (any_more is_doctype us u);
      names = names_after h u.kind (map open_name s.tags) d;
      seen = seen_after h u.start u.end u.kind (map open_name s.tags) d ∙ ap (λ (b : Bool). cond (is_tag u) (is_nil (map open_name s.tags)) b) p.seen ∙ sym kept.seen;
      single = kept.single;
    }

-- a unit that does not pass is at fault
pub passed_not : (us rest : List PlainUnit) (u : PlainUnit) (tags : List OpenTag) (nodes : List PlainNode) (h : History) (kind : FaultKind) → HavePassed us tags nodes h → first_fault h u.kind ≡ Some kind → UnitFaultAt (us ++ u ∷ rest) u.start kind
passed_not us rest u tags nodes h kind p e =
    fault_at us u _ _ (path_is us tags nodes h p) rest kind (ap (λ (g : History). first_fault g u.kind) (sym (history_is us tags nodes h p)) ∙ e)
