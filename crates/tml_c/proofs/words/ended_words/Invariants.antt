use denote.Shadow.{shadow}
use denote.Text.{Utf8}
use Rattle.std.proofs.Common.{◌≡◌, ◌++◌, length}
use Rattle.tml_c.specs.Words.{between_zeros}
use Rattle.runs.specs.Words.{texts_of}
use Rattle.tml_c.proofs.words.ended_words.Given as goal

-- the words so far come first, and then the parts of what is left
abbrev pub invariant-loop-word : goal.invariant-loop-word
invariant-loop-word l = record {
  text : shadow (Utf8 l.rest);
  cut : between_zeros l.fn.text ≡ texts_of l.words.items ++ between_zeros l.rest;
}

abbrev pub decreases-loop-word : goal.decreases-loop-word
decreases-loop-word l = length l.rest
