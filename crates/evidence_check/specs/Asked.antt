-- Serves the code: the links that a timeline is asked to keep.
use Rattle.std.specs.Prelude.{ℕ, ◌<◌, ⊤, List, length, slice_index}
use Rattle.std.specs.List.{Contains}
use Rattle.net_core.specs.Clashes.{Others}
use Rattle.net_core.specs.Fits.{EveryLink}
use Rattle.net_core.specs.Nets.{PlainNet}
use Rattle.evidence_check.specs.declared.timeline.AskedLinks.{AskedLinks}
use Rattle.evidence_check.specs.declared.timeline.AskedLinks.TheVariants as asked

-- numbers of links, each below the next
pub record AreRisingLinks (net : PlainNet) (cites : List ℕ) : Type 0 where
  pub rise : (i j : ℕ) → i < j → j < length cites → slice_index cites i < slice_index cites j
  pub links : (i : ℕ) → i < length cites → slice_index cites i < length net.links

-- the set of links that are asked
abbrev pub chosen : AskedLinks → ℕ → Type 0
chosen asked.All = EveryLink
chosen (asked.Others cites own) = Others (Contains cites.now) own

-- cites are to be numbers of links that rise
abbrev pub CanBeAsked : PlainNet → AskedLinks → Type 0
CanBeAsked net asked.All = ⊤
CanBeAsked net (asked.Others cites own) = AreRisingLinks net cites.now
