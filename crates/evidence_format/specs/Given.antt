-- Serves the code: what it answers, beside what reading lines gives.
use Rattle.std.specs.Borrow.{Bor}
use Rattle.std.specs.Prelude.{◌≡◌, ℕ, List, ◌++◌, Result, Ok, Err}
use Rattle.net_core.specs.Ranks.{ranks_of}
use Rattle.line_texts.specs.declared.stop.Stop.{Stop}
use Rattle.evidence_format.specs.declared.bodies.Bodies.{Bodies}
use Rattle.line_texts.specs.Lines.{Lines, lines_of}
use Rattle.line_texts.specs.Reading.{Read}
use Rattle.evidence_format.specs.Evidence.{PlainEvidence}
use Rattle.evidence_format.specs.Bundles.{AreBodies}
use Rattle.line_texts.specs.Given.{ReadingStopsAt}

-- what was appended to ranks are those of the intervals that reading gives, and the rest of a text follows them, unless out of memory
abbrev pub AppendsRanks : List ℕ → List ℕ → Result (Bor (List ℕ)) Stop → Read (List (ℕ × ℕ)) → Type 0
AppendsRanks old new (Ok rest) read = (pairs : List (ℕ × ℕ)) × (read ≡ Ok (pairs, lines_of rest.now)) × (new ≡ old ++ ranks_of pairs)
AppendsRanks old new (Err e) read = ReadingStopsAt e read

-- the bodies are those of the claims that reading gives, unless out of memory
abbrev pub GivesBodies : Result Bodies Stop → Result (List PlainEvidence) Lines → Type 0
GivesBodies (Ok bodies) read = (es : List PlainEvidence) × (read ≡ Ok es) × AreBodies es bodies
GivesBodies (Err e) read = ReadingStopsAt e read
