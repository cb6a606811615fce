use Rattle.std.proofs.Common.{◌≡◌, length, map, take}
use Rattle.evidence_format.specs.View.{plain}
use Rattle.evidence_check.specs.Bundles.{AreSupported}
use Rattle.evidence_check.proofs.bundle.verify_all.Given as goal

-- the claims so far are supported
abbrev pub invariant-loop-k : goal.invariant-loop-k
invariant-loop-k l = record {
  end : l.k-end ≡ length l.bundle;
  so_far : AreSupported l.net (take l.k (map plain l.bundle));
}
