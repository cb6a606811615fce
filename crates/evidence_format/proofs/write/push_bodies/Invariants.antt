use Rattle.std.proofs.Common.{◌≡◌, ◌++◌, take, map}
use Rattle.std.specs.List.{flat_map}
use Rattle.evidence_format.specs.View.{plain}
use Rattle.evidence_format.specs.Written.{body_bytes}
use Rattle.evidence_format.proofs.write.push_bodies.Given as goal

-- the bodies of the first ones are written
abbrev pub invariant-loop-evidence : goal.invariant-loop-evidence
invariant-loop-evidence l = l.out.items ≡ l.initial.out.items ++ flat_map body_bytes (map plain (take l.evidence-index l.claims))
