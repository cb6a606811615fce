-- Serves the code: trees onward from the roots of all places, and back to them.
use Rattle.std.specs.Prelude.{ℕ}
use Rattle.std.specs.Bool.{OnTrue}
use Rattle.tml_score.specs.Search.{Basis}
use Rattle.tml_score.specs.Ties.{AreTies}
use Rattle.tml_score.specs.Tree.{IsBefore, IsCovered, IsTree, without}
use Rattle.tml_score.specs.declared.ends.End.TheVariants.{From, To}
use Rattle.tml_score.specs.declared.search.AskedOrder.{AskedOrder}
use Rattle.tml_score.specs.declared.trees.Known.{Known}
use Rattle.tml_score.specs.declared.trees.Trees.{Trees}

pub record AreTrees (basis : Basis) (trees : Trees) : Type 0 where
  pub ties : AreTies basis trees.ties
  pub onward : IsTree basis trees.ties.roots.items From trees.onward
  pub back : IsTree basis trees.ties.roots.items To trees.back

-- what are trees stay so
abbrev pub StayTrees : Trees → Trees → Type 0
StayTrees old new = (basis : Basis) → AreTrees basis old → AreTrees basis new

-- and without a link
abbrev pub AreCut : ℕ → Trees → Trees → Type 0
AreCut link old new = (basis : Basis) → AreTrees basis old → AreTrees (without basis link) new

-- What the trees show beside a link: their orders before those of the link, and whether these lead back from the first point that is asked for, and onward to the last.
pub record IsKnown (basis : Basis) (asked : AskedOrder) (known : Known) : Type 0 where
  pub trees : AreTrees basis known.trees.now
  pub onward : IsBefore asked.link known.trees.now.onward known.onward
  pub back : IsBefore asked.link known.trees.now.back known.back
  pub from : OnTrue known.from (IsCovered known.trees.now.ties.roots.items known.trees.now.back known.back asked.order.from)
  pub to : OnTrue known.to (IsCovered known.trees.now.ties.roots.items known.trees.now.onward known.onward asked.order.to)
