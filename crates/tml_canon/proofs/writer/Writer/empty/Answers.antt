use Rattle.std.proofs.Common.{List, ℕ, ◌++◌, map, refl, ap, ◌∙◌}
use Rattle.std.specs.Prelude.{codes}
use Rattle.tml_span.specs.View.{attribute_of}
use Rattle.tml_canon.proofs.Writing.{empty_tag_put}
use Rattle.tml_canon.proofs.writer.Writer.empty.Goals as goal

pub returns : goal.returns
returns c =
    let put = c.in_ok-extend_from_slice.ensures.items ∙ ap (λ (s : List ℕ). s ++ codes "/>") c.in_ok-push_opening.ensures in
    empty_tag_put c.args.name.now (map attribute_of c.args.attrs.now) c.args.self.now c.close_start.new.self _ c.in_ok-close_start.ensures put refl refl
