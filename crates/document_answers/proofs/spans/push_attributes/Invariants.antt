use Rattle.std.proofs.Common.{◌≡◌, ◌++◌, map, drop}
use Rattle.std.specs.List.{flat_map}
use Rattle.tml_span.specs.View.{attribute_of}
use Rattle.document_answers.specs.Spans as texts
use Rattle.document_answers.proofs.spans.push_attributes.Given as goal

-- the lines so far, and those of what is left
abbrev pub invariant-loop-attr : goal.invariant-loop-attr
invariant-loop-attr l = l.out.items ++ flat_map texts.attribute_line (map attribute_of (drop l.attr-index l.attrs)) ≡ l.fn.out.items ++ flat_map texts.attribute_line (map attribute_of l.attrs)
