-- Which of two files are started.
use Rattle.std.specs.Prelude.{ℕ, List}
use Rattle.answers.specs.Judged.{JudgesFirst}
use Rattle.evidence_answers.specs.Confirmed.{confirm_rows}
use Rattle.evidence_answers.specs.Verify.{verify_rows}

-- `verify BAD MISSING`: the reply is the fault of the first file. The second one is not reached, and sound inputs fail nothing, whether it is there or not.
abbrev pub VerifyJudgesFirst : Type 0
VerifyJudgesFirst = (name other : List ℕ) → JudgesFirst name (verify_rows name other)

-- the same of `confirm BAD MISSING`
abbrev pub ConfirmJudgesFirst : Type 0
ConfirmJudgesFirst = (name seconds : List ℕ) → JudgesFirst name (confirm_rows name seconds)
