use Rattle.std.proofs.Common.{◌++◌, codes}
use Rattle.drill.specs.Texts as texts
use Rattle.drill.proofs.Lines.{interval_parts, last_part}
use Rattle.drill.proofs.text.push_interval.Goals as goal

pub returns : goal.returns
returns c =
    last_part c.extend_from_slice-2.result c.push_numbered-3.new.out.items (codes "\"/>\n") (c.args.out.now.items ++ texts.drill_interval_lines c.args.i) c.extend_from_slice-2.new.self.items c.extend_from_slice-2.ensures.items
    (interval_parts c.args.out.now.items c.push_numbered.new.out.items c.extend_from_slice.new.self.items c.push_numbered-2.new.out.items c.push_numbered-3.new.out.items c.args.i
    c.in_ok-push_numbered.ensures c.in_ok-extend_from_slice.ensures.items c.in_ok-push_numbered-2.ensures c.in_ok-push_numbered-3.ensures)
