use Rattle.std.proofs.Common.{◌≡◌, ◌<◌, ℕ, false, get_or}
use Rattle.tml_refs.specs.declared.asked.AskedReference.{AskedReference}
use Rattle.tml_refs.specs.Asking.{IsUnlistedAt, asked_reference}
use Rattle.tml_refs.specs.Firsts.{bound, nowhere}
use Rattle.tml_refs.specs.NameIndex.{is_unlisted}
use Rattle.tml_refs.proofs.asked.first_unlisted.Given as goal

abbrev pub invariant-loop-reference : goal.invariant-loop-reference
invariant-loop-reference l = record {
  before : (k : ℕ) (d : AskedReference) → k < l.reference-index → (get_or l.asked k d).place < bound l.first → is_unlisted l.names (asked_reference (get_or l.asked k d)) ≡ false;
  here : bound l.first < nowhere → IsUnlistedAt l.names l.asked (bound l.first);
}
