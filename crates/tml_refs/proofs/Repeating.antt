-- A place at which a name is repeated is that of a tag whose identifier is that of a tag before it.
use Rattle.std.proofs.Common.{◌≡◌, ℕ, true, List, ◌∷◌, ◌++◌, refl, sym, ap, ◌∙◌, inl, inr, append_assoc, arith, Option, Some, None, false}
use Rattle.std.specs.List.{list_any}
use Rattle.std.proofs.lemmas.List.Elements.{All-contains}
use Rattle.std.proofs.lemmas.Option.{same_Some}
use Rattle.faults.specs.declared.kind.FaultKind.TheVariants.{DuplicateId}
use Rattle.named.proofs.Cuts.{two_cuts}
use Rattle.tml_types.specs.Content.{PlainTyped}
use Rattle.tml_types.specs.References.{id_of}
use Rattle.tml_refs.specs.declared.name_index.Entry.{Entry}
use Rattle.tml_refs.specs.Firsts.{IsFirstPlace, StandsAt, nowhere}
use Rattle.tml_refs.specs.NameIndex.{AreEntriesOf, IsEntryIn, IsEntryOf, IsFirstRepeat, Repeats, entry_name}
use Rattle.tml_refs.specs.Rules.{BreaksReferenceRule, has_id}
use Rattle.tml_refs.proofs.Knowing.{some_from}
use Rattle.tml_refs.proofs.Lists.{any_inside, passes_at}
use Rattle.tml_refs.proofs.Placing.{begins_before}
use Rattle.tml_types.specs.Places.{HaveRisingPlaces}
use Rattle.tml_refs.proofs.Locating.{has_own_id, its_own_id, repeats_id}

-- an identifier is that of a tag before
taken_by : (before : List PlainTyped) (o : Option (List ℕ)) → elim o [ None ↦ false | Some id ↦ list_any (has_id id) before ] ≡ true → (id : List ℕ) × (o ≡ Some id) × (list_any (has_id id) before ≡ true)
taken_by before None h = absurd cc
taken_by before (Some id) h = (id, refl, h)

module _ (all : List PlainTyped) (placed : HaveRisingPlaces all) (names : List Entry) (known : AreEntriesOf all names) where
  repeated : (before after : List PlainTyped) (tag : PlainTyped) → all ≡ before ++ tag ∷ after → BreaksReferenceRule all DuplicateId before tag → Repeats names tag.place
  repeated before after tag whole broken =
      let taken = taken_by before (id_of tag.content) broken in
      let p = passes_at (has_id taken.0) before taken.2 in
      let its = its_own_id p.element taken.0 p.passes in
      let cut : all ≡ (p.before ++ p.element ∷ p.after) ++ tag ∷ after = whole ∙ ap (λ (ts : List PlainTyped). ts ++ tag ∷ after) p.whole in
      let e = known.each p.before (p.after ++ tag ∷ after) p.element (cut ∙ append_assoc p.before (p.element ∷ p.after) (tag ∷ after)) (some_from (id_of p.element.content) taken.0 its) in
      let f = known.each before after tag whole (some_from (id_of tag.content) taken.0 taken.1) in
      let one_name = same_Some (entry_name e.0) (entry_name f.0) (sym e.2.name ∙ its ∙ sym taken.1 ∙ f.2.name) in
      (e.0, f.0, e.1, f.1, one_name, omega (arith, e.2.place, f.2.place, begins_before all placed p.before p.after after p.element tag cut), f.2.place)

  taken_at : (before after mid rest : List PlainTyped) (tag other : PlainTyped) (e f : Entry) → all ≡ before ++ tag ∷ after → before ≡ mid ++ other ∷ rest → IsEntryOf mid other e → id_of tag.content ≡ Some (entry_name f) → entry_name e ≡ entry_name f → BreaksReferenceRule all DuplicateId before tag
  taken_at before after mid rest tag other e f whole cut its id n =
      repeats_id all before tag (entry_name f) id
      (ap (list_any (has_id (entry_name f))) cut ∙ any_inside (has_id (entry_name f)) mid rest other (has_own_id other (entry_name f) (its.name ∙ ap (λ (m : List ℕ). Some m) n)))

  -- at a place at which a name is repeated stands a tag whose identifier is taken
  taken_here : (place : ℕ) → Repeats names place → StandsAt (BreaksReferenceRule all DuplicateId) all place
  taken_here place r =
      let e = r.0 in
      let f = r.1 in
      let x : IsEntryIn all e = All-contains (IsEntryIn all) names e known.only r.2 in
      let y : IsEntryIn all f = All-contains (IsEntryIn all) names f known.only r.3 in
      record {
        before = y.0;
        tag = y.2;
        after = y.1;
        whole = y.3;
        place_is = sym y.4.place ∙ r.6;
        broken = elim (two_cuts y.0 x.0 y.1 x.1 y.2 x.2 (sym y.3 ∙ x.3)) [
          | inl k ↦ absurd (omega (arith, r.5, x.4.place, y.4.place, ap (λ (t : PlainTyped). t.place) k.1))
          | inr (inl k) ↦ absurd (omega (arith, r.5, x.4.place, y.4.place, begins_before all placed y.0 k.0 x.1 y.2 x.2 (x.3 ∙ ap (λ (ts : List PlainTyped). ts ++ x.2 ∷ x.1) k.1)))
          | inr (inr k) ↦ taken_at y.0 y.1 x.0 k.0 y.2 x.2 e f y.3 k.1 x.4 y.4.name r.4
        ];
      }

  -- the first place at which a name is repeated is that at which the rule of identifiers is broken first
  pub first_taken : (first : ℕ) → IsFirstRepeat names nowhere first → IsFirstPlace (BreaksReferenceRule all DuplicateId) all first
  first_taken first h = record {
    none = λ before after tag whole below broken. absurd (omega (arith, h.none_before tag.place (repeated before after tag whole broken), below));
    here = λ some. taken_here first (h.here some);
  }
