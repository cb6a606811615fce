use Rattle.std.proofs.Common.{◌≡◌, List, [], map, refl, subst, sym, None}
use Rattle.std.proofs.lemmas.List.{append-nil}
use Rattle.tml_span.specs.Units.{Attribute}
use Rattle.tml_span.specs.Reading as reading
use Rattle.tml_span.specs.View.{attribute_of}
use Rattle.tml_span.proofs.tags.attributes_at.Goals as goal

pub returns-clause-reads : goal.returns-clause-reads
returns-clause-reads c =
    let none : reading.attribute_at c.loop-attr.at c.loop-attr.rest.now ≡ None = sym c.in_default.ensures.reads in
    subst (λ (attrs : List Attribute). reading.ReadsAttributes c.args.place c.args.bytes.now attrs c.loop-attr.rest.now) (append-nil (map attribute_of c.loop-attr.attrs)) (c.loop-attr.invariant.reads [] c.loop-attr.rest.now (refl, none))
