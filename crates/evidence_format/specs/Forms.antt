-- Serves the code: what a line says, which is a step, a cite, the kind of evidence, how many claims there are, or the version.
use Rattle.std.specs.Prelude.{ℕ, ◌+◌, ◌^◌, ◌&&◌, nat_le, nat_lt, List, Option, Some, None, option_map, if◌then◌else◌, codes}
use Rattle.std.specs.Option.{option_or}
use Rattle.net_core.specs.declared.step.Step.{Step}
use Rattle.net_core.specs.declared.step.Step.TheVariants as step
use Rattle.evidence_format.specs.declared.head.EvidenceHead.{EvidenceHead}
use Rattle.evidence_format.specs.declared.head.EvidenceHead.TheVariants as head
use Rattle.evidence_format.specs.declared.versions.Version.{Version}
use Rattle.evidence_format.specs.declared.versions.Version.TheVariants as version
use Rattle.evidence_format.specs.Evidence.{first_line}
use Rattle.evidence_format.specs.Bundles.{bundle_line}
use Rattle.line_texts.specs.Words.{◌>>=◌, one_of, two_of, relation_of, same_of}

-- the step of a line
unfoldable pub step_of : List ℕ → Option Step
step_of line =
    option_or (option_map (λ pair. step.Link pair.0 pair.1) (two_of (codes "via ") line))
    (option_or (option_map (λ i. step.Span i) (one_of (codes "span ") line))
    (option_map (λ pair. step.Calendar pair.0 pair.1) (two_of (codes "calendar ") line)))

-- the cite of a line: a number that is at least the least one, and leaves numbers for those to come after it
unfoldable pub cite_of : ℕ → ℕ → List ℕ → Option ℕ
cite_of left least line = do
  link ← one_of (codes "cite ") line
  if nat_le least link && nat_lt (link + left) (2 ^ 32) then Some link else None

-- the kind of evidence, by the line that names it
unfoldable pub head_of : List ℕ → Option EvidenceHead
head_of line =
    option_or (option_map (λ n. head.Timeline n) (one_of (codes "timeline ") line))
    (option_or (option_map (λ x. head.Entails x.0 x.1 x.2) (relation_of (codes "entails ") line))
    (option_or (option_map (λ x. head.Counter x.0 x.1 x.2) (relation_of (codes "counter ") line))
    (option_map (λ n. head.Clash n) (one_of (codes "clash ") line))))

-- how many claims there are, one at least, by the line that says it
unfoldable pub claims_of : List ℕ → Option ℕ
claims_of line = do
  n ← one_of (codes "claims ") line
  if nat_lt 0 n then Some n else None

-- the version, by the line that names it
unfoldable pub version_of : List ℕ → Option Version
version_of line =
    option_or (option_map (λ u. version.One) (same_of first_line line))
    (option_map (λ u. version.Two) (same_of bundle_line line))
