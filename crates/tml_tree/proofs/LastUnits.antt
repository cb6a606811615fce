-- What the last unit does to the open names.
use Rattle.std.proofs.Common.{◌≡◌, ℕ, Bool, true, false, cond, List, [], ◌∷◌, map, refl, sym, ap, subst, Some, None}
use Rattle.std.proofs.lemmas.Option.{same_Some}
use Rattle.std.specs.Str.{bytes_eq}
use Rattle.std.proofs.lemmas.Slice.Eq.{bytes_eq-Decides}
use Rattle.faults.proofs.First.{none_breaks_prefix}
use Rattle.tml_span.specs.Units.{Kind, bom, declaration, doctype, comment, text, start_tag, end_tag, empty_tag}
use Rattle.tml_tree.specs.Plain.{unit, PlainNode}
use Rattle.tml_tree.specs.Nesting.{OpenTag, open_name, is_seen}
use Rattle.tml_tree.specs.Stage.{Stage, step}
use Rattle.tml_tree.specs.Trees.{BreaksUnitRule, Differs, LastUnit}
use Rattle.tml_tree.proofs.Running.{nests_before}

tags_are : (s t : Stage) → Some s ≡ Some t → map open_name t.tags ≡ map open_name s.tags
tags_are s t e = ap (λ (r : Stage). map open_name r.tags) (sym (same_Some _ _ e))

taken : (t : OpenTag) (tags : List OpenTag) (name : List ℕ) (nodes : List PlainNode) (s : Stage) (b : Bool) → bytes_eq t.name name ≡ b → cond b (Some (record { tags = tags; nodes = nodes })) None ≡ Some s → map open_name (t ∷ tags) ≡ name ∷ map open_name s.tags
taken t tags name nodes s false e h = absurd cc
taken t tags name nodes s true e h =
    let same = (bytes_eq-Decides t.name name).0 e in
    let rest = tags_are _ s h in
    λ i. (same i) ∷ (sym rest i)

pub differs : (start end : ℕ) (k : Kind) (tags : List OpenTag) (nodes : List PlainNode) (s : Stage) → step tags nodes (unit start end k) ≡ Some s → Differs k (map open_name tags) (map open_name s.tags)
differs start end (start_tag name attrs) tags nodes s e = tags_are _ s e
differs start end (end_tag name) [] nodes s e = absurd cc
differs start end (end_tag name) (t ∷ tags) nodes s e = taken t tags name _ s (bytes_eq t.name name) refl e
differs start end bom tags nodes s e = tags_are _ s e
differs start end (declaration b) tags nodes s e = tags_are _ s e
differs start end (doctype b) tags nodes s e = tags_are _ s e
differs start end (comment b) tags nodes s e = tags_are _ s e
differs start end (text b) tags nodes s e = tags_are _ s e
differs start end (empty_tag name attrs) tags nodes s e = tags_are _ s e

pub last_unit : LastUnit
last_unit = λ us u names seen h.
    let n = h.0 in
    let b = nests_before us u n.0 n.1 n.2 in (
      map open_name b.0.tags,
      is_seen b.0.tags b.0.nodes,
      ((b.0.tags, b.0.nodes, b.1, refl, refl), none_breaks_prefix BreaksUnitRule us (u ∷ []) h.1),
      subst (λ (ns : List (List ℕ)). Differs u.kind (map open_name b.0.tags) ns) (sym n.3) (differs u.start u.end u.kind b.0.tags b.0.nodes _ b.2),
    )
