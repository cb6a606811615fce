use Rattle.std.proofs.Common.{◌∙◌, sym}
use Rattle.std.proofs.lemmas.Bool.{OnTrue_at, OnTrue_from}
use Rattle.tml_score.specs.Meeting.{IsLedTo}
use Rattle.tml_score.specs.Search.{basis_of}
use Rattle.tml_score.proofs.TreeLaws.{comes_before}
use Rattle.tml_score.proofs.trees.Known.comes_before.Goals as goal

pub returns : goal.returns
returns c =
    let basis = basis_of c.args.kept.now in
    OnTrue_from _ (IsLedTo basis c.args.asked c.args.point) (λ is. comes_before basis c.args.asked c.requires.ready c.requires.asked c.args.self.now c.requires.known c.args.point c.if-not-self.false
    (sym c.root.ensures ∙ c.if-root.false ∙ c.root-else-not-self.ensures) (OnTrue_at is c.covers.ensures))
