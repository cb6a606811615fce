-- Serves the code: the spares of a clash, in either of their forms.
use Rattle.std.specs.Prelude.{ℕ, List}
use Rattle.evidence_check.specs.declared.spares.Spares.{Spares}
use Rattle.evidence_check.specs.declared.spares.Spares.TheVariants.{Listed, Joined}

-- the ranks of each
abbrev pub spares_of : Spares → List (List ℕ)
spares_of (Listed timelines) = timelines.now
spares_of (Joined timelines) = timelines.now
