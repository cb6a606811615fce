use Rattle.std.proofs.Common.{map, take}
use Rattle.tml_types.specs.View.{typed_of}
use Rattle.tml_refs.specs.Taking.{HasTakenTags}
use Rattle.tml_refs.proofs.resolving.resolve.Given as goal

-- the tags so far were taken
abbrev pub invariant-loop-tag : goal.invariant-loop-tag
invariant-loop-tag l = HasTakenTags (map typed_of (take l.tag-index l.tag-items)) l.resolver
