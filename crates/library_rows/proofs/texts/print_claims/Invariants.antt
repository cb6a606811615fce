use Rattle.std.proofs.Common.{◌≡◌, ◌+◌, ◌≤◌, List, length}
use Rattle.evidence_format.specs.Evidence.{PlainEvidence}
use Rattle.evidence_format.specs.OneByOne.{HasReadClaims}
use Rattle.net_core.specs.Limits.{max_evidence}
use Rattle.library_rows.proofs.texts.print_claims.Given as goal

-- some claims were read from a text that is short enough, and the others are still to be read
abbrev pub invariant-loop : goal.invariant-loop
invariant-loop l = record {
  read : (es : List PlainEvidence) × HasReadClaims es l.unread;
  short : length l.unread.text.now ≤ max_evidence;
  left : l.unread.left + l.counter ≡ l.end;
}
