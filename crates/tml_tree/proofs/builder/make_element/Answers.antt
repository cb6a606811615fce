use Rattle.tml_tree.proofs.Rows.{element_is}
use Rattle.tml_tree.proofs.builder.make_element.Goals as goal

pub returns : goal.returns
returns c = element_is (record { span = c.args.span; name = c.args.name; attrs = c.args.attrs; children = c.args.children })
