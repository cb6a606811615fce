-- Tags have one answer.
use Rattle.faults.specs.Kinds.{number_of}
use Rattle.faults.proofs.First.{none_of_all, none_or_fault, one_fault}
use Rattle.faults.proofs.Numbered.{kinds_are_numbered}
use Rattle.tml_types.specs.Answers.{OneTypedAnswers}
use Rattle.tml_types.specs.Rules.{BreaksTagRule, BreaksAfter}
use Rattle.tml_types.specs.Whole.{place_of}
use Rattle.tml_types.proofs.OneTyped.{one_typed}

pub one_answer : OneTypedAnswers
one_answer = λ tags. record {
  typed_or_fault = λ typed place kind t f. none_or_fault BreaksAfter number_of place_of tags place kind (none_of_all BreaksTagRule tags t.sound) f;
  one_fault = one_fault BreaksAfter number_of place_of kinds_are_numbered tags;
  one_typed = one_typed tags;
}
