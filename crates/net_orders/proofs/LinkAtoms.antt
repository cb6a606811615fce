-- Links and their atoms.
use Rattle.std.proofs.Common.{◌≡◌, ◌↔◌, ℕ, List, false, sym, subst}
use Rattle.std.proofs.lemmas.List.Elements.{All-from_recursion, recursion_from_All}
use Rattle.net_core.specs.Atoms.{Satisfies, atoms_of}
use Rattle.net_core.specs.Fits.{KeepsLink}
use Rattle.net_core.specs.Nets.{PlainNet, link_at}
use Rattle.net_core.specs.Relations.{Timeline}
use Rattle.net_core.specs.declared.atom.Atom.{Atom}
use Rattle.net_core.proofs.AtomLaws.{atoms_say_the_relation}
use Rattle.order_closure.specs.Tables.{SatisfiesAll}

-- what is read past the end of a list of atoms
abbrev pub no_atom : Atom
no_atom = record { from = 0; to = 0; strict = false }

-- a link holds where all atoms of its relation are true
pub link_said : (net : PlainNet) (k : ℕ) (atoms : List Atom) → (let link = link_at net k in atoms ≡ atoms_of link.a link.rel link.b)
    → (t : Timeline) → SatisfiesAll atoms t ↔ KeepsLink net t k
link_said net k atoms are t =
    let link = link_at net k in
    let law = atoms_say_the_relation t link.rel link.a link.b in
    subst (λ (xs : List Atom). SatisfiesAll xs t ↔ KeepsLink net t k) (sym are) (
      λ all. law.1 (recursion_from_All (Satisfies t) (atoms_of link.a link.rel link.b) all),
      λ holds. All-from_recursion (Satisfies t) (atoms_of link.a link.rel link.b) (law.0 holds),
    )
