-- A point and the points that are to be in order with it: a row of the pairs of points.
use Rattle.std.specs.Prelude.{ℕ, ℤ, ◌<◌, Option, true, false}
use Rattle.net_core.specs.declared.bounds.Bounds.{Bounds}
use Rattle.net_core.specs.declared.net.Ends.{Ends}
use Rattle.net_core.specs.Bounds.{lower_of}
use Rattle.net_core.specs.Fits.{FollowsNumbers}
use Rattle.net_core.specs.Nets.{PlainNet, lower}
use Rattle.net_core.specs.Relations.{Timeline}

-- the first n points are in order with one of this upper number and this rank
abbrev pub KeepsRow : PlainNet → Timeline → Option ℤ → ℕ → ℕ → Type 0
KeepsRow net t upper rank n = (q : ℕ) → q < n → FollowsNumbers upper (lower net q) rank (t q)

-- both points of an interval are in order with one of this upper number and this rank
abbrev pub KeepsBoth : Bounds → Ends → Option ℤ → ℕ → Type 0
KeepsBoth bounds ends upper rank =
    FollowsNumbers upper (lower_of bounds false) rank ends.start × FollowsNumbers upper (lower_of bounds true) rank ends.finish
