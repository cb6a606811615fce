use Rattle.std.proofs.Common.{◌↔◌, ℕ, Bool, List, Result, Ok, Err, IfOk, length, sym, subst}
use Rattle.std.specs.List.{Contains}
use Rattle.std.specs.List.Sorted.{IsStrictlyIncreasing}
use Rattle.net_core.specs.Nets.{PlainNet}
use Rattle.net_core.specs.Walks.{Kept}
use Rattle.lists.specs.declared.memory.Memory.{Memory}
use Rattle.tml_score.specs.Reduced.{IsReduced}
use Rattle.tml_score.specs.Reducing.{AreDecided}
use Rattle.tml_score.proofs.Redundancy.{reduced_when_done}
use Rattle.tml_score.proofs.reducing.reduced_by.Goals as goal

-- the marked links stay, where there are any
marked_stay : (net : PlainNet) (keep : List Bool) (r : Result (List ℕ) Memory) → AreDecided net (length net.links) keep → IfOk r IsStrictlyIncreasing → IfOk r (λ links. (k : ℕ) → Contains links k ↔ Kept keep k) → IfOk r (IsReduced net)
marked_stay net keep (Ok links) are rising exact = reduced_when_done net keep links are rising exact
marked_stay net keep (Err e) are rising exact = tt

pub returns : goal.returns
returns c =
    let net = c.args.net.now in
    marked_stay net c.deref.result.now c.marked.result (subst (AreDecided net (length net.links)) (sym c.deref.ensures.value) c.in_ok-keep.ensures) c.marked.ensures.rising c.marked.ensures.exact
