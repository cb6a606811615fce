use Rattle.std.proofs.Common.{◌∙◌, ◌++◌, ◌∷◌, ◌≡◌, [], sym, ap, refl}
use Rattle.tml_types.specs.View.{typed_of}
use Rattle.tml_refs.specs.declared.resolver.Resolver.{Resolver}
use Rattle.tml_refs.specs.NameIndex.{AreEntriesOf}
use Rattle.tml_refs.proofs.Taken.{few_intervals_taken, taken_more, with_entry, without_entry}
use Rattle.tml_refs.proofs.resolver.Resolver.take.Goals as goal
use Rattle.tml_refs.proofs.resolver.Resolver.take.Goals.{in-Some+in_ok-push, in_default}

pub intervals-number-requires : goal.intervals-number-requires
intervals-number-requires c = few_intervals_taken c.requires.1

pub returns : goal.returns
returns c = λ tags taken placed.
    let old = c.args.self.now in
    let between = c.match-entry_of.self in
    let entry : (between ≡ record old { entries = between.entries }) × AreEntriesOf (tags ++ typed_of c.args.tag.now ∷ []) between.entries = elim c.match-entry_of.branch [
      | in-Some+in_ok-push w ↦ (w.self-is ∙ (λ i. record old { entries = sym (ap (λ (r : Resolver). r.entries) w.self-is) i }), with_entry (typed_of c.args.tag.now) taken placed c.intervals-number.result w.in-Some.entry between.entries c.intervals-number.ensures w.in-Some.ensures.some (ap (λ (r : Resolver). r.entries) w.self-is ∙ w.in_ok-push.ensures.ok))
      | in_default w ↦ (w.self-is ∙ (λ i. record old { entries = sym (ap (λ (r : Resolver). r.entries) w.self-is) i }), without_entry (typed_of c.args.tag.now) taken placed between.entries (w.in_default.ensures.none refl) (ap (λ (r : Resolver). r.entries) w.self-is))
    ] in
    taken_more (typed_of c.args.tag.now) taken placed c.intervals-number.result c.intervals-number.ensures between entry.0 entry.1 c.ask.new.asked c.in_ok-ask.ensures c.add.new.self c.in_ok-add.ensures c.add-2.new.self (rw c.kind.ensures at c.add-2.ensures)
