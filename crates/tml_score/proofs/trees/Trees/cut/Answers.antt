use Rattle.tml_score.specs.declared.ends.End.TheVariants.{From, To}
use Rattle.tml_score.proofs.TreeLaws.{ties_without}
use Rattle.tml_score.proofs.trees.Trees.cut.Goals as goal

pub returns : goal.returns
returns c = λ basis are. record {
  ties = ties_without basis c.args.link c.args.self.now.ties are.ties;
  onward = c.cut.ensures basis c.args.self.now.ties.roots.items From are.onward;
  back = c.cut-2.ensures basis c.args.self.now.ties.roots.items To are.back;
}
