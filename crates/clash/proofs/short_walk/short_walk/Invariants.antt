use Rattle.std.specs.Option.{IfSome}
use Rattle.clash.specs.Minimal.{IsShortClosed}
use Rattle.clash.proofs.short_walk.short_walk.Given as goal

-- the walk so far, if there is one, is closed
abbrev pub invariant-loop-k : goal.invariant-loop-k
invariant-loop-k l = IfSome l.best (IsShortClosed l.net)
