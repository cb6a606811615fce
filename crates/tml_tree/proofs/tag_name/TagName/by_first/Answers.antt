use Rattle.std.proofs.Common.{List, ap, ◌∙◌}
use Rattle.named.specs.Texts.{named_of}
use Rattle.tml_tree.specs.declared.tag_name.TagName.{TagName}
use Rattle.tml_tree.specs.TagNames.{text_of}
use Rattle.tml_tree.proofs.Known.{found_by_first}
use Rattle.tml_tree.proofs.tag_name.TagName.by_first.Goals as goal

pub returns-in-len1-up : goal.returns-in-len1-up
returns-in-len1-up c = c.named_in.ensures ∙ ap (λ (tags : List TagName). named_of text_of tags c.args.name.now) c.beginning_with.ensures ∙ found_by_first c.args.name.now c.in-len1-up.len_at_least
