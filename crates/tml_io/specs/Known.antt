-- What is known of inputs and of sinks.
use Rattle.std.specs.Prelude.{Bool, ℕ, List}
use Rattle.std.specs.declared.option.Option.{Option}
use Rattle.tml_io.specs.Files.{Files}

-- What is known of inputs: the names that are there, with the bytes that each holds, what is left of the started input, and which names were started, one after another, if these are known; how many bytes were given, how many calls there were, and how many of them failed; and whether no call can fail but the start of a name that is not there.
pub record KnownInputs : Type 0 where
  pub files : Option Files
  pub left : Option (List ℕ)
  pub started : Option (List (List ℕ))
  pub given : ℕ
  pub calls : ℕ
  pub faults : ℕ
  pub sound : Bool

-- What is known of a sink: the bytes that were written, and how many more it takes before it fails, if these are known; how many writes there were, and how many of them failed.
pub record KnownSink : Type 0 where
  pub written : Option (List ℕ)
  pub room : Option ℕ
  pub calls : ℕ
  pub faults : ℕ
