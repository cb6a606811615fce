use Rattle.std.proofs.Common.{◌≡◌, ◌++◌, codes, ap, ◌∙◌, List, ℕ}
use Rattle.net_core.specs.Rels.{rel_text}
use Rattle.drill.specs.Texts as texts
use Rattle.drill.proofs.Lines.{last_part, link_parts}
use Rattle.drill.proofs.text.push_link.Goals as goal

pub returns : goal.returns
returns c =
    let relation : c.extend_from_slice-2.new.self.items ≡ c.extend_from_slice.new.self.items ++ rel_text c.args.link.rel =
    c.in_ok-extend_from_slice-2.ensures.items ∙ ap (λ (t : List ℕ). c.extend_from_slice.new.self.items ++ t) c.text.ensures in
    last_part c.extend_from_slice-3.result c.extend_from_slice-2.new.self.items (codes "\"/>\n") (c.args.out.now.items ++ texts.drill_link_line c.args.link) c.extend_from_slice-3.new.self.items c.extend_from_slice-3.ensures.items
    (link_parts c.args.out.now.items c.push_numbered.new.out.items c.push_numbered-2.new.out.items c.extend_from_slice.new.self.items c.extend_from_slice-2.new.self.items c.args.link
    c.in_ok-push_numbered.ensures c.in_ok-push_numbered-2.ensures c.in_ok-extend_from_slice.ensures.items relation)
