-- An end tag that is taken, and one that is refused.
use Rattle.std.proofs.Common.{◌≡◌, ℕ, Bool, true, false, not, List, [], ◌∷◌, ◌++◌, refl, sym, ap, ◌∙◌, Some, None}
use Rattle.std.specs.Str.{bytes_eq}
use Rattle.tml_tree.specs.declared.builder.Frame.{Frame}
use Rattle.tml_tree.specs.TagNames.{text_of}
use Rattle.tml_tree.specs.Plain.{PlainNode, element, nodes_of}
use Rattle.tml_tree.specs.Nesting.{OpenTag}
use Rattle.tml_span.specs.Units.{end_tag}
use Rattle.tml_tree.specs.Judging.{first_fault}
use Rattle.tml_tree.specs.Rules.{History, is_innermost}
use Rattle.tml_tree.proofs.FirstFaults.{first_of}
use Rattle.tml_tree.specs.Stage.{closed}
use Rattle.tml_tree.specs.Building.{open_tag_of, open_tags_of}
use Rattle.tml_tree.proofs.Stacks.{tags_more}

pub closed_is : (frames rest : List Frame) (f : Frame) (nodes after : List PlainNode) (end : ℕ) (name : List ℕ) → frames ≡ rest ++ f ∷ [] → bytes_eq (text_of f.name) name ≡ true
    → after ≡ (open_tag_of f).before ++ element f.span.start end (text_of f.name) (open_tag_of f).attrs (nodes_of nodes) ∷ [] → closed (open_tags_of frames) nodes end name ≡ Some (record { tags = open_tags_of rest; nodes = after })
closed_is frames rest f nodes after end name e same a =
    ap (λ (fs : List Frame). closed (open_tags_of fs) nodes end name) e ∙ ap (λ (ts : List OpenTag). closed ts nodes end name) (tags_more rest f)
    ∙ rw (same, a) refl

closes : (same : Bool) → first_of false (not same) false false ≡ None → same ≡ true
closes true e = refl
closes false e = absurd cc

-- an end tag without a fault has the name of the innermost open tag
pub ends_innermost : (h : History) (names : List (List ℕ)) (innermost name : List ℕ) → h.names ≡ innermost ∷ names → first_fault h (end_tag name) ≡ None → bytes_eq innermost name ≡ true
ends_innermost h names innermost name e none = ap (λ (ns : List (List ℕ)). is_innermost name ns) (sym e) ∙ closes (is_innermost name h.names) none
