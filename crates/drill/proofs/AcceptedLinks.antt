-- The ends of the links of a drill are intervals.
use Rattle.std.proofs.Common.{ℕ, ◌<◌}
use Rattle.std.specs.List.{AllByRecursion}
use Rattle.named.proofs.Lists.{each_weaker}
use Rattle.tml_refs.specs.declared.document.DocLink.{DocLink}
use Rattle.drill.specs.Numbers.{links_of}
use Rattle.drill.proofs.Links.{IsTrueLink, true_links}

-- the ends of a link are below a number
abbrev pub HasEnds : ℕ → DocLink → Type 0
HasEnds n link = (link.a < n) × (link.b < n)

-- the ends of all links are intervals
pub links_end : (n : ℕ) → AllByRecursion (HasEnds n) (links_of n)
links_end n = each_weaker (IsTrueLink n) (HasEnds n) (λ link true. (true.a, true.b)) (links_of n) (true_links n)
