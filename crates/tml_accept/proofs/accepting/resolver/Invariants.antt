use Rattle.std.proofs.Common.{List}
use Rattle.tml_types.specs.Content.{PlainTyped}
use Rattle.tml_types.specs.TagReader.{HasGiven, bytes_left}
use Rattle.tml_refs.specs.Taking.{HasTakenTags}
use Rattle.tml_accept.proofs.accepting.resolver.Given as goal

-- what was given was taken
abbrev pub invariant-loop-tag : goal.invariant-loop-tag
invariant-loop-tag l = (typed : List PlainTyped) × HasTakenTags typed l.resolver × HasGiven l.fn.doc typed l.tags

abbrev pub decreases-loop-tag : goal.decreases-loop-tag
decreases-loop-tag l = bytes_left l.tags
