use Rattle.std.proofs.Common.{OnOk, map, sym, ap, subst, ◌∙◌}
use Rattle.tml_span.specs.Units.{Kind, start_tag, empty_tag}
use Rattle.tml_span.specs.View.{attribute_of, unit_of}
use Rattle.tml_span.specs.declared.unit.Unit.{Unit}
use Rattle.tml_canon.specs.Writing.{Writes}
use Rattle.tml_canon.proofs.writer.Writer.take.Goals as goal

pub returns-in-StartTag : goal.returns-in-StartTag
returns-in-StartTag c =
    let is = (λ i. start_tag c.in-StartTag.name.now (map attribute_of (c.as_slice.ensures i))) ∙ sym (ap (λ (u : Unit). (unit_of u).kind) c.in-StartTag.is) in
    subst (λ (k : Kind). OnOk c.start.result (Writes c.args.self.now k c.start.new.self)) is c.start.ensures

pub returns-in-EmptyTag : goal.returns-in-EmptyTag
returns-in-EmptyTag c =
    let is = (λ i. empty_tag c.in-EmptyTag.name.now (map attribute_of (c.as_slice-in-EmptyTag.ensures i))) ∙ sym (ap (λ (u : Unit). (unit_of u).kind) c.in-EmptyTag.is) in
    subst (λ (k : Kind). OnOk c.empty.result (Writes c.args.self.now k c.empty.new.self)) is c.empty.ensures

pub returns-in-EndTag : goal.returns-in-EndTag
returns-in-EndTag c = subst (λ (k : Kind). OnOk c.end.result (Writes c.args.self.now k c.end.new.self)) (sym (ap (λ (u : Unit). (unit_of u).kind) c.in-EndTag.is)) c.end.ensures

pub returns-in-Comment : goal.returns-in-Comment
returns-in-Comment c = subst (λ (k : Kind). OnOk c.content.result (Writes c.args.self.now k c.content.new.self)) (sym (ap (λ (u : Unit). (unit_of u).kind) c.in-Comment.is)) c.content.ensures.comment

pub returns-in-Text : goal.returns-in-Text
returns-in-Text c = subst (λ (k : Kind). OnOk c.content-in-Text.result (Writes c.args.self.now k c.content-in-Text.new.self)) (sym (ap (λ (u : Unit). (unit_of u).kind) c.in-Text.is)) c.content-in-Text.ensures.text
