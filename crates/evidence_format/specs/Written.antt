-- Serves the code: the bytes of evidence, as they are written.
use Rattle.std.specs.Prelude.{ℕ, List, ◌++◌, length, codes}
use Rattle.std.specs.List.{flat_map}
use Rattle.net_core.specs.declared.step.Step.{Step}
use Rattle.evidence_format.specs.Evidence.{PlainEvidence, timeline, entails, counter, clash, at_line, step_line, cite_line}
use Rattle.line_texts.specs.Numbers.{one_number, relation_line}

abbrev pub timeline_bytes : List (ℕ × ℕ) → List ℕ
timeline_bytes ranks = one_number (codes "timeline ") (length ranks) ++ flat_map at_line ranks

abbrev pub walk_bytes : List Step → List ℕ
walk_bytes steps = one_number (codes "walk ") (length steps) ++ flat_map step_line steps

abbrev pub body_bytes : PlainEvidence → List ℕ
body_bytes (timeline ranks) = timeline_bytes ranks
body_bytes (entails a r b walks) = relation_line (codes "entails ") a r b ++ flat_map walk_bytes walks
body_bytes (counter a r b ranks) = relation_line (codes "counter ") a r b ++ timeline_bytes ranks
body_bytes (clash cites walk spares) = one_number (codes "clash ") (length cites) ++ (flat_map cite_line cites ++ (walk_bytes walk ++ flat_map timeline_bytes spares))
