-- Serves the code: a builder that takes one unit after another.
use Rattle.std.specs.Prelude.{◌≡◌, List, map, Some}
use Rattle.tml_span.specs.Units.{PlainUnit}
use Rattle.tml_tree.specs.declared.builder.Builder.{Builder}
use Rattle.tml_tree.specs.declared.whole.TreeFault.{TreeFault}
use Rattle.tml_tree.specs.Judging.{HavePassed, Passes, Refuses}
use Rattle.tml_tree.specs.Stage.{Stage, step}
use Rattle.tml_tree.specs.View.{node_of}
use Rattle.tml_tree.specs.Building.{names_of, open_tags_of}

-- the open tags and the nodes of a builder
abbrev pub stage_of : Builder → Stage
stage_of b = record { tags = open_tags_of b.frames.items; nodes = map node_of b.nodes.items }

-- the open tags and the nodes after one more unit
abbrev pub Builds : Builder → PlainUnit → Builder → Type 0
Builds b u c = step (open_tags_of b.frames.items) (map node_of b.nodes.items) u ≡ Some (stage_of c)

-- the unit has no fault, and it was taken
abbrev pub TakesUnit : Builder → PlainUnit → Builder → Type 0
TakesUnit b u c = Passes b.nesting u.kind c.nesting × Builds b u c

-- why a unit was not taken: its first fault
abbrev pub RefusesUnit : Builder → PlainUnit → TreeFault → Type 0
RefusesUnit b u fault = Refuses b.nesting u.kind u.start fault

-- the open tags have the names that are known to be open
abbrev pub KnowsOpenNames : Builder → Type 0
KnowsOpenNames b = b.nesting.names ≡ names_of b.frames.items

-- what a builder knows of the units that it has taken
abbrev pub HasBuilt : List PlainUnit → Builder → Type 0
HasBuilt us b = HavePassed us (open_tags_of b.frames.items) (map node_of b.nodes.items) b.nesting
