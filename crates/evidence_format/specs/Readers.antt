-- Serves the code: reading evidence, line by line.
use Rattle.std.specs.Prelude.{ℕ, zero, suc, ◌+◌, List, [], ◌∷◌, Result, Ok, codes}
use Rattle.net_core.specs.Atoms.{atom_count}
use Rattle.net_core.specs.declared.step.Step.{Step}
use Rattle.evidence_format.specs.declared.head.EvidenceHead.{EvidenceHead}
use Rattle.evidence_format.specs.declared.head.EvidenceHead.TheVariants.{Timeline, Entails, Counter, Clash}
use Rattle.evidence_format.specs.declared.versions.Version.{Version}
use Rattle.evidence_format.specs.declared.versions.Version.TheVariants.{One, Two}
use Rattle.line_texts.specs.Lines.{Lines}
use Rattle.evidence_format.specs.Evidence.{PlainEvidence, timeline, entails, counter, clash, first_line}
use Rattle.line_texts.specs.Words.{one_of, two_of, same_of}
use Rattle.evidence_format.specs.Forms.{step_of, cite_of, head_of, claims_of, version_of}
use Rattle.line_texts.specs.Reading.{Read, ◌>>=◌, line_at, many_at, end_at}

-- the ranks of n intervals
abbrev pub ranks_at : ℕ → Lines → Read (List (ℕ × ℕ))
ranks_at n ls = many_at (λ rest. line_at (two_of (codes "at ")) rest) n ls

unfoldable pub timeline_at : Lines → Read (List (ℕ × ℕ))
timeline_at ls = do
  n ← line_at (one_of (codes "timeline ")) ls
  ranks_at n.0 n.1

-- n steps
abbrev pub steps_at : ℕ → Lines → Read (List Step)
steps_at n ls = many_at (λ rest. line_at step_of rest) n ls

unfoldable pub walk_at : Lines → Read (List Step)
walk_at ls = do
  n ← line_at (one_of (codes "walk ")) ls
  steps_at n.0 n.1

-- n cites, each of which is at least the least one, and leaves numbers for those to come after it
unfoldable pub cites_at : ℕ → ℕ → Lines → Read (List ℕ)
cites_at zero least ls = Ok ([], ls)
cites_at (suc left) least ls = do
  link ← line_at (cite_of left least) ls
  more ← cites_at left (link.0 + 1) link.1
  Ok (link.0 ∷ more.0, more.1)

-- what follows the line that names the kind
unfoldable pub rest_at : EvidenceHead → Lines → Read PlainEvidence
rest_at (Timeline n) ls = do
  ranks ← ranks_at n ls
  Ok (timeline ranks.0, ranks.1)
rest_at (Entails a r b) ls = do
  walks ← many_at walk_at (atom_count r) ls
  Ok (entails a r b walks.0, walks.1)
rest_at (Counter a r b) ls = do
  ranks ← timeline_at ls
  Ok (counter a r b ranks.0, ranks.1)
rest_at (Clash n) ls = do
  cites ← cites_at n 0 ls
  walk ← walk_at cites.1
  spares ← many_at timeline_at n walk.1
  Ok (clash cites.0 walk.0 spares.0, spares.1)

unfoldable pub body_at : Lines → Read PlainEvidence
body_at ls = do
  head ← line_at head_of ls
  rest_at head.0 head.1

-- a text of version 1
unfoldable pub evidence_at : Lines → Result PlainEvidence Lines
evidence_at ls = do
  first ← line_at (same_of first_line) ls
  e ← body_at first.1
  end ← end_at e.1
  Ok e.0

-- how many bodies there are: in version 2 a line says it
unfoldable pub count_at : Version → Lines → Read ℕ
count_at One ls = Ok (1, ls)
count_at Two ls = line_at claims_of ls

-- how many bodies there are, by the lines before them
unfoldable pub opening_at : Lines → Read ℕ
opening_at ls = do
  version ← line_at version_of ls
  count_at version.0 version.1

-- a text of either version
unfoldable pub bundle_at : Lines → Result (List PlainEvidence) Lines
bundle_at ls = do
  n ← opening_at ls
  es ← many_at body_at n.0 n.1
  end ← end_at es.1
  Ok es.0
