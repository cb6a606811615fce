-- Serves the code: what a resolver keeps of the tags that it has taken.
use Rattle.std.specs.Prelude.{◌≡◌, ◌+◌, ◌<◌, ◌≤◌, ◌==◌, ◌&&◌, ℕ, Bool, true, List, [], ◌∷◌, ◌++◌, length, map, Option, Some, if◌then◌else◌}
use Rattle.std.specs.List.{AllZip, filter}
use Rattle.std.specs.Option.{option_to_list}
use Rattle.faults.specs.declared.kind.FaultKind.TheVariants.{TooManyIntervals, TooManyLinks}
use Rattle.net_core.specs.Limits.{max_intervals, max_links}
use Rattle.tml_types.specs.Content.{PlainTyped}
use Rattle.tml_types.specs.Places.{HaveRisingPlaces}
use Rattle.tml_refs.specs.declared.document.Interval.{Interval}
use Rattle.tml_refs.specs.declared.links.NamedLink.{NamedLink}
use Rattle.tml_refs.specs.declared.resolver.Resolver.{Resolver}
use Rattle.tml_refs.specs.Asking.{AreAsked}
use Rattle.tml_refs.specs.Documents.{counts_of, interval_of, intervals_of}
use Rattle.tml_refs.specs.Firsts.{IsFirstPlace, bound}
use Rattle.tml_refs.specs.Linking.{IsNamedLink}
use Rattle.tml_refs.specs.NameIndex.{AreEntriesOf}
use Rattle.tml_refs.specs.Rules.{BreaksReferenceRule, is_interval, is_tlink}
use Rattle.tml_refs.specs.View.{plain_interval}

-- A resolver has taken these tags, which are at places that rise.
pub record HasTakenTags (tags : List PlainTyped) (r : Resolver) : Type 0 where
  pub placed : HaveRisingPlaces tags
  pub entries : AreEntriesOf tags r.entries
  pub asked : AreAsked tags r.asked
  pub counts : r.contents.counts ≡ counts_of tags
  pub intervals : length (intervals_of tags) ≤ max_intervals → map plain_interval r.contents.intervals ≡ intervals_of tags
  pub no_links : r.contents.links ≡ []
  pub links : AllZip IsNamedLink (filter is_tlink tags) r.links
  pub past_intervals : IsFirstPlace (BreaksReferenceRule [] TooManyIntervals) tags (bound r.past_intervals)
  pub past_links : IsFirstPlace (BreaksReferenceRule [] TooManyLinks) tags (bound r.past_links)

-- one more tag stands after those that were taken
abbrev pub MayTake : Resolver → PlainTyped → Type 0
MayTake r t = (tags : List PlainTyped) × HasTakenTags tags r × HaveRisingPlaces (tags ++ t ∷ [])

-- and is taken
abbrev pub Takes : Resolver → PlainTyped → Resolver → Type 0
Takes old t new = (tags : List PlainTyped) → HasTakenTags tags old → HaveRisingPlaces (tags ++ t ∷ []) → HasTakenTags (tags ++ t ∷ []) new

-- ---- one tag more

-- where something is the first past a limit, this is its place
abbrev pub past : Bool → ℕ → ℕ → ℕ → Option ℕ → Option ℕ
past counts number most place old = if counts && number == most then Some place else old

-- an interval is kept that stands after this many others, unless there are as many as there may be
pub record KeepsInterval (old : Resolver) (number place : ℕ) (interval : Interval) (new : Resolver) : Type 0 where
  pub others : new ≡ record old { contents = record old.contents { intervals = new.contents.intervals }; past_intervals = new.past_intervals }
  pub intervals : number < max_intervals → new.contents.intervals ≡ old.contents.intervals ++ interval ∷ []
  pub past_intervals : new.past_intervals ≡ past true number max_intervals place old.past_intervals

-- a link is kept
abbrev pub AddsLink : Resolver → NamedLink → Resolver → Type 0
AddsLink old link new =
    new ≡ record old { links = old.links ++ link ∷ []; past_links = past true (length old.links) max_links link.place old.past_links }

-- of a tag that stands after this many intervals the interval or the link is kept
pub record AddsTag (old : Resolver) (number : ℕ) (t : PlainTyped) (new : Resolver) : Type 0 where
  pub entries : new.entries ≡ old.entries
  pub asked : new.asked ≡ old.asked
  pub counts : new.contents.counts ≡ old.contents.counts
  pub no_links : new.contents.links ≡ old.contents.links
  pub intervals : number + length (option_to_list (interval_of t)) ≤ max_intervals
      → map plain_interval new.contents.intervals ≡ map plain_interval old.contents.intervals ++ option_to_list (interval_of t)
  pub past_intervals : new.past_intervals ≡ past (is_interval t) number max_intervals t.place old.past_intervals
  pub links : (more : List NamedLink) × AllZip IsNamedLink (filter is_tlink (t ∷ [])) more × (new.links ≡ old.links ++ more)
  pub past_links : new.past_links ≡ past (is_tlink t) (length old.links) max_links t.place old.past_links
