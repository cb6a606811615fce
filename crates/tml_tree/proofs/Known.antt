-- The tag of a name, and the first fault of a start or empty tag.
use Rattle.std.proofs.Common.{◌≡◌, ◌≤◌, ◌<◌, ℕ, Bool, true, false, not, nat_le, List, [], ◌∷◌, length, slice_index_or, sym, ap, ◌∙◌, arith, Some}
use Rattle.std.specs.List.{filter}
use Rattle.std.proofs.lemmas.List.{length-map, length-reverse}
use Rattle.std.proofs.lemmas.Bool.Decides.{nat_tests}
use Rattle.named.specs.Texts.{named_of}
use Rattle.named.proofs.Tables.{found_among, named_some}
use Rattle.tml_tree.specs.declared.tag_name.TagName.{TagName}
use Rattle.tml_span.specs.Units.{start_tag}
use Rattle.tml_tree.specs.TagNames.{text_of, all_tags, begins_with, is_known}
use Rattle.tml_tree.specs.Rules.{History, is_misplaced_tag}
use Rattle.tml_tree.specs.Judging.{first_fault, names_in}
use Rattle.tml_tree.proofs.FirstFaults.{first_of}
use Rattle.tml_tree.proofs.Running.{same_name}

-- the tag of a name is one of those that begin with the first byte of the name
begins : (first : ℕ) (rest : List ℕ) (tag : TagName) → text_of tag ≡ first ∷ rest → begins_with first tag ≡ true
begins first rest tag e = rw e (same_name (first ∷ []))

pub found_by_first : (name : List ℕ) → 1 ≤ length name → named_of text_of (filter (begins_with (slice_index_or name 0 0)) all_tags) name ≡ named_of text_of all_tags name
found_by_first [] some = absurd (omega arith)
found_by_first (first ∷ rest) some = found_among text_of (begins_with first) all_tags (first ∷ rest) (begins first rest)

-- the first fault of a start tag by its three tests
pub fault_by : (h : History) (name : List ℕ) (known misplaced deep : Bool) → is_known name ≡ known → is_misplaced_tag h name ≡ misplaced → nat_le 32 (length h.names) ≡ deep → first_fault h (start_tag name []) ≡ first_of (not known) false misplaced deep
fault_by h name known misplaced deep k m d = λ i. first_of (not (k i)) false (m i) (d i)

deep_is : (open_tags : List TagName) → length (names_in open_tags) ≡ length open_tags
deep_is open_tags = simp (length-map, length-reverse)

pub is_deep : (open_tags : List TagName) → 32 ≤ length open_tags → nat_le 32 (length (names_in open_tags)) ≡ true
is_deep open_tags h = rw (deep_is open_tags) (grind (arith, nat_tests))

pub is_flat : (open_tags : List TagName) → length open_tags < 32 → nat_le 32 (length (names_in open_tags)) ≡ false
is_flat open_tags h = rw (deep_is open_tags) (grind (arith, nat_tests))

-- the same where the name is that of a tag
pub tag_fault_by : (h : History) (name : List ℕ) (tag : TagName) (misplaced deep : Bool) → named_of text_of all_tags name ≡ Some tag → is_misplaced_tag h (text_of tag) ≡ misplaced → nat_le 32 (length h.names) ≡ deep
    → first_fault h (start_tag name []) ≡ first_of false false misplaced deep
tag_fault_by h name tag misplaced deep n m d =
    let named = named_some text_of all_tags name tag n in
    fault_by h name true misplaced deep named.1 (ap (λ (t : List ℕ). is_misplaced_tag h t) (sym named.0) ∙ m) d
