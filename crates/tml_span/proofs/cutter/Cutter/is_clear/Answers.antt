use Rattle.std.proofs.Common.{ℕ, List, subst, sym, arith}
use Rattle.std.proofs.lemmas.Bool.{not-true}
use Rattle.tml_span.specs.Cutter.{IsClear}
use Rattle.tml_span.specs.Reader.{Reading}
use Rattle.tml_span.specs.View.{unit_of}
use Rattle.tml_span.specs.References.{IsBadIn, Piece}
use Rattle.tml_span.proofs.Clear.{no_bad}
use Rattle.tml_span.proofs.cutter.Cutter.is_clear.Goals as goal

pub returns-then-end-self : goal.returns-then-end-self
returns-then-end-self c = λ yes.
    let r = c.args.self.now in
    let here = subst (λ (q : Reading). IsClear q.source q.place c.self.inside.clear) c.self.view_is c.self.invariant.1 in
    let clear = subst (λ (place : ℕ). IsClear r.source place c.self.inside.clear) (sym c.requires.start) here in
    no_bad r.source (unit_of c.args.unit.now) c.self.inside.clear c.requires.inside c.requires.order clear (omega (arith, c.requires.end, c.if-end-self.true))

pub returns : goal.returns
returns c = λ kind place bad.
    let none = c.has_pieces.ensures (not-true c.has_pieces.result kind) in
    subst (λ (pieces : List Piece). IsBadIn pieces place → ⊥) (sym none) (λ nowhere. nowhere) bad
