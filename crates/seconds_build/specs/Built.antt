-- The net of a document, with limits of how long its intervals last.
use Rattle.std.specs.Prelude.{◌≡◌, map}
use Rattle.net_build.specs.Built.{IsNetOf}
use Rattle.seconds_core.specs.Timed.{IsTimed, PlainTimed}
use Rattle.seconds_core.specs.declared.timed.Limits.{Limits}
use Rattle.seconds_build.specs.Lengths.{limits_of, no_limits}
use Rattle.tml_refs.specs.Documents.{IsDocument, PlainDocument, PlainInterval, instance, time}

-- the limits of an interval: none of an instance, and of a time those of its value
abbrev pub interval_limits : PlainInterval → Limits
interval_limits (instance name) = no_limits
interval_limits (time t) = limits_of t.kind t.modifier t.value

-- it has the net of a document, and the limits of each interval, in their order
pub record IsTimedOf (doc : PlainDocument) (timed : PlainTimed) : Type 0 where
  pub net : IsNetOf doc timed.net
  pub limits : timed.limits ≡ map interval_limits doc.intervals

-- the law: a document has one net with limits
abbrev pub OneTimed : Type 0
OneTimed = (doc : PlainDocument) (timed other : PlainTimed) → IsTimedOf doc timed → IsTimedOf doc other → timed ≡ other

-- a document has a net with limits
abbrev pub EveryTimed : Type 0
EveryTimed = (doc : PlainDocument) → IsDocument doc → (timed : PlainTimed) × IsTimedOf doc timed × IsTimed timed
