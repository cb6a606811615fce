use Rattle.std.specs.List.{Contains}
use Rattle.std.proofs.lemmas.List.Sorted.{All-permutation}
use Rattle.tml_score.proofs.ties.tied.Goals as goal

pub returns : goal.returns
returns c = All-permutation (Contains c.args.kept.now.graph.now.onward.items) c.in_ok-ties.ties.items c.sort_unstable_by_key.new.self.items c.sort_unstable_by_key.ensures.permutation c.in_ok-ties.ensures
