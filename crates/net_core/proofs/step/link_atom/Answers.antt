use Rattle.std.proofs.Common.{◌≡◌, ◌<◌, arith, List, length, Option, Some, option_and_then, sym, ap, ◌∙◌}
use Rattle.std.specs.List.{slice_get}
use Rattle.std.proofs.lemmas.Option.{slice_get-get_or}
use Rattle.net_core.specs.Atoms.{atoms_of}
use Rattle.net_core.specs.declared.atom.Atom.{Atom}
use Rattle.net_core.specs.declared.net.NetLink.{NetLink}
use Rattle.net_core.proofs.step.link_atom.Goals as goal

pub returns-clause-exact : goal.returns-clause-exact
returns-clause-exact c =
    let links = c.args.net.now.links in
    let below : c.args.link < length links = omega (arith, c.if-link-links.false, c.links.ensures.count) in
    let link : slice_get links c.args.link ≡ Some c.link-link.result = slice_get-get_or links c.args.link _ below ∙ ap (λ (l : NetLink). Some l) (sym c.link-link.ensures.link) in
    c.atom.ensures ∙ ap (λ (atoms : List Atom). slice_get atoms c.args.atom) c.atoms_of.ensures
    ∙ ap (λ (o : Option NetLink). option_and_then (λ (l : NetLink). slice_get (atoms_of l.a l.rel l.b) c.args.atom) o) (sym link)
