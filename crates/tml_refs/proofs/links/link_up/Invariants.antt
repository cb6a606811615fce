use Rattle.std.proofs.Common.{◌≡◌, ◌<◌, ℕ, false, get_or, take}
use Rattle.std.specs.List.{AllZip}
use Rattle.tml_refs.specs.declared.links.NamedLink.{NamedLink}
use Rattle.tml_refs.specs.Firsts.{bound, nowhere}
use Rattle.tml_refs.specs.Linking.{IsLinked, IsLooseAt, is_loose}
use Rattle.tml_refs.proofs.links.link_up.Given as goal

abbrev pub invariant-loop-link : goal.invariant-loop-link
invariant-loop-link l = record {
  links : ((k : ℕ) (d : NamedLink) → k < l.link-index → is_loose l.names (get_or l.named k d) ≡ false) → AllZip (IsLinked l.names) (take l.link-index l.named) l.links;
  before : (k : ℕ) (d : NamedLink) → k < l.link-index → (get_or l.named k d).place < bound l.loose → is_loose l.names (get_or l.named k d) ≡ false;
  here : bound l.loose < nowhere → IsLooseAt l.names l.named (bound l.loose);
}
