use Rattle.std.proofs.Common.{◌≡◌, ◌+◌, map}
use Rattle.evidence_format.specs.OneByOne.{HasReadClaims}
use Rattle.evidence_format.specs.View.{plain}
use Rattle.evidence_format.proofs.bundle.kept_claims.Given as goal

-- the claims so far were read from the text
abbrev pub invariant-loop : goal.invariant-loop
invariant-loop l = record {
  read : HasReadClaims (map plain l.claims.items) l.unread;
  text : l.unread.text.now ≡ l.text;
  left : l.unread.left + l.counter ≡ l.end;
}
