-- Only the innermost open tag can be a link tag.
use Rattle.std.proofs.Common.{◌≡◌, ℕ, Bool, true, false, not, ◌&&◌, ◌||◌, nat_le, List, [], length, refl, None}
use Rattle.std.specs.List.{list_any}
use Rattle.tml_span.specs.Units.{start_tag}
use Rattle.tml_tree.specs.TagNames.{is_known, is_link, is_root}
use Rattle.tml_tree.specs.Rules.{History, is_nil}
use Rattle.tml_tree.specs.Judging.{first_fault}
use Rattle.tml_tree.proofs.FirstFaults.{first_of}

-- a tag that is allowed is in no link tag
outside_rule : (a l m s r d : Bool) → first_of a false (l || m || s || r) d ≡ None → l ≡ false
outside_rule true l m s r d e = absurd cc
outside_rule false true m s r d e = absurd cc
outside_rule false false m s r d e = refl

pub outside : (h : History) (name : List ℕ) → first_fault h (start_tag name []) ≡ None → list_any is_link h.names ≡ false
outside h name none = outside_rule (not (is_known name)) (list_any is_link h.names) (not h.tagged && not (is_root name)) h.seen (not (is_nil h.names) && is_root name) (nat_le 32 (length h.names)) none
