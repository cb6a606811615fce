-- The identifiers and references of a drill: no identifier stands twice, and each reference is to an identifier that is there.
use Rattle.std.proofs.Common.{◌≡◌, ℕ, zero, suc, ◌+◌, ◌<◌, ◌≤◌, Bool, true, false, ◌&&◌, ◌||◌, not, List, [], ◌∷◌, ◌++◌, refl, sym, ap, subst, ◌∙◌, append_assoc, arith, Some, None}
use Rattle.std.specs.List.{AllByRecursion, flat_map, list_any, range_with_len}
use Rattle.std.specs.Str.{bytes_eq}
use Rattle.std.proofs.lemmas.Bool.{or_from, or_left}
use Rattle.std.proofs.lemmas.Cmp.{nat_list_eq_equiv}
use Rattle.std.proofs.lemmas.List.{append-nil}
use Rattle.std.proofs.lemmas.List.Folds.{list_any-append}
use Rattle.net_core.specs.Limits.{max_intervals}
use Rattle.tml_refs.specs.declared.document.DocLink.{DocLink}
use Rattle.tml_types.specs.declared.typed.TagKind.TheVariants as kind
use Rattle.tml_types.specs.Content.{Content, Reference}
use Rattle.tml_types.specs.References.{id_of, is_of_kind, reference, references_of}
use Rattle.drill.specs.Texts.{event_name, instance_name}
use Rattle.drill.proofs.AcceptedLinks.{HasEnds}
use Rattle.drill.proofs.AcceptedLists.{any_in_range, after_pieces}
use Rattle.drill.proofs.AcceptedNames.{events_differ, instances_differ, event_is_no_instance, instance_is_no_event}
use Rattle.drill.proofs.AcceptedTags.{contents_of, event_content, instance_content, interval_contents, link_content, link_contents}
use Rattle.drill.proofs.Lists.{all_range}

-- a tag that says this has this identifier
abbrev pub is_called : List ℕ → Content → Bool
is_called name c = elim (id_of c) [ None ↦ false | Some id ↦ bytes_eq name id ]

-- a tag that says this is what a reference asks for
abbrev pub is_asked : Reference → Content → Bool
is_asked r c = is_of_kind r.asked c && is_called r.name c

-- ---- no identifier stands twice

-- a tag before has the identifier of this one
abbrev pub is_taken : List Content → Content → Bool
is_taken before c = elim (id_of c) [ None ↦ false | Some id ↦ list_any (is_called id) before ]

-- no identifier of these is taken, neither by those before all of them nor by one of them
abbrev pub AreNew : List Content → List Content → Type 0
AreNew before [] = Unit {0}
AreNew before (c ∷ contents) = (is_taken before c ≡ false) × AreNew (before ++ c ∷ []) contents

-- so none is taken where such a list is cut
pub new_at : (seen before after : List Content) (c : Content) → AreNew seen (before ++ c ∷ after) → is_taken (seen ++ before) c ≡ false
new_at seen [] after c h = subst (λ (cs : List Content). is_taken cs c ≡ false) (sym (append-nil seen)) h.0
new_at seen (b ∷ before) after c h = subst (λ (cs : List Content). is_taken cs c ≡ false) (append_assoc seen (b ∷ []) before) (new_at (seen ++ b ∷ []) before after c h.1)

-- links have no identifiers
links_new : (seen : List Content) (links : List DocLink) → AreNew seen (flat_map link_contents links)
links_new seen [] = tt
links_new seen (link ∷ links) = (refl, links_new (seen ++ link_content link ∷ []) links)

-- from a number on the names of events and instances are free
abbrev AreFree : ℕ → List Content → Type 0
AreFree low seen = (i : ℕ) → low ≤ i → i < max_intervals → (list_any (is_called (event_name i)) seen ≡ false) × (list_any (is_called (instance_name i)) seen ≡ false)

-- a name that differs from that of one tag more is still free
still_free : (name : List ℕ) (seen : List Content) (c : Content) → list_any (is_called name) seen ≡ false → is_called name c ≡ false → list_any (is_called name) (seen ++ c ∷ []) ≡ false
still_free name seen c h k = list_any-append (is_called name) seen (c ∷ []) ∙ or_from (list_any (is_called name) seen) (is_called name c || false) h (ap (λ (b : Bool). b || false) k)

-- after an interval the names from the next number on are free
free_later : (k : ℕ) (seen : List Content) → k < max_intervals → AreFree k seen → AreFree (k + 1) (seen ++ event_content k ∷ [] ++ instance_content k ∷ [])
free_later k seen small free = λ i low high.
    let before = free i (omega arith) high in
    let event = seen ++ event_content k ∷ [] in (
      still_free (event_name i) event (instance_content k) (still_free (event_name i) seen (event_content k) before.0 (events_differ i k high small (omega arith))) (event_is_no_instance i k high),
      still_free (instance_name i) event (instance_content k) (still_free (instance_name i) seen (event_content k) before.1 (instance_is_no_event i k small)) (instances_differ i k high small (omega arith)),
    )

-- the identifiers of intervals one after another are new
intervals_new : (k len : ℕ) (seen rest : List Content) → k + len ≤ max_intervals → AreFree k seen → ((all : List Content) → AreNew all rest) → AreNew seen (flat_map interval_contents (range_with_len k len) ++ rest)
intervals_new k zero seen rest low free h = h seen
intervals_new k (suc len) seen rest low free h =
    let first = (free k (omega arith) (omega arith)).0 in
    let second = still_free (instance_name k) seen (event_content k) (free k (omega arith) (omega arith)).1 (instance_is_no_event k k (omega arith)) in
    (first, (second, intervals_new (k + 1) len (seen ++ event_content k ∷ [] ++ instance_content k ∷ []) rest (omega arith) (free_later k seen (omega arith) free) h))

-- no identifier of a drill stands twice
pub identifiers_new : (n : ℕ) (links : List DocLink) → n ≤ max_intervals → AreNew [] (contents_of (range_with_len 0 n) links)
identifiers_new n links few = intervals_new 0 n [] (flat_map link_contents links) (omega arith) (λ i low high. (refl, refl)) (λ all. links_new all links)

-- ---- each reference is to a tag

-- each reference of what a tag says is to one of these
abbrev pub IsKnown : List Content → Content → Type 0
IsKnown all c = list_any (λ (r : Reference). not (list_any (is_asked r) all)) (references_of c) ≡ false

module _ (n : ℕ) (links : List DocLink) where
  -- what all tags say
  abbrev all : List Content
  all = contents_of (range_with_len 0 n) links

  -- what an interval of a drill has, the drill has
  in_drill : (r : Reference) (i : ℕ) → i < n → list_any (is_asked r) (interval_contents i) ≡ true → list_any (is_asked r) all ≡ true
  in_drill r i low h =
      list_any-append (is_asked r) (flat_map interval_contents (range_with_len 0 n)) (flat_map link_contents links)
      ∙ or_left (list_any (is_asked r) (flat_map interval_contents (range_with_len 0 n))) (list_any (is_asked r) (flat_map link_contents links)) (any_in_range (is_asked r) interval_contents i 0 n (omega arith) (omega arith) h)

  -- each event is there
  event_known : (i : ℕ) → i < n → list_any (is_asked (reference kind.Event (event_name i))) all ≡ true
  event_known i low = in_drill (reference kind.Event (event_name i)) i low (ap (λ (b : Bool). b || false) (nat_list_eq_equiv.refl (event_name i)))

  -- and each instance
  instance_known : (i : ℕ) → i < n → list_any (is_asked (reference kind.Instance (instance_name i))) all ≡ true
  instance_known i low = in_drill (reference kind.Instance (instance_name i)) i low (ap (λ (b : Bool). b || false) (nat_list_eq_equiv.refl (instance_name i)))

  -- the references of an interval are known
  interval_known : (i : ℕ) (rest : List Content) → i < n → AllByRecursion (IsKnown all) rest → AllByRecursion (IsKnown all) (interval_contents i ++ rest)
  interval_known i rest low h = (refl, (ap (λ (b : Bool). not b || false) (event_known i low), h))

  -- and so are those of a link
  link_known : (link : DocLink) (rest : List Content) → HasEnds n link → AllByRecursion (IsKnown all) rest → AllByRecursion (IsKnown all) (link_contents link ++ rest)
  link_known link rest ends h = (ap (λ (p : Bool × Bool). not p.0 || (not p.1 || false)) (λ k. (instance_known link.a ends.0 k, instance_known link.b ends.1 k)), h)

  -- each reference of a drill is known
  pub references_known : AllByRecursion (HasEnds n) links → AllByRecursion (IsKnown all) all
  references_known ends =
      let later = after_pieces (AllByRecursion (IsKnown all)) (HasEnds n) link_contents link_known links [] ends tt in
      after_pieces (AllByRecursion (IsKnown all)) (λ (i : ℕ). i < n) interval_contents interval_known (range_with_len 0 n) (flat_map link_contents links) (all_range (λ (i : ℕ). i < n) 0 n (λ i from below. omega arith))
      (subst (AllByRecursion (IsKnown all)) (append-nil (flat_map link_contents links)) later)
