-- The names of tags tell their kinds apart.
use Rattle.std.proofs.Common.{◌≡◌, nat_eq, true, false, List, [], ◌∷◌, refl, sym, ap, ◌∙◌, rules}
use mathlib.Core.Bool.{true≢false}
use Rattle.named.specs.Texts.{AreApart}
use Rattle.named.proofs.Tables.{texts_tell}
use Rattle.tml_types.specs.declared.typed.TagKind.{TagKind}
use Rattle.tml_types.specs.declared.typed.TagKind.TheVariants as kind
use Rattle.tml_types.specs.References.{rank_of, tag_name}

abbrev all_kinds : List TagKind
all_kinds = kind.Event ∷ kind.Instance ∷ kind.Timex ∷ kind.Signal ∷ kind.Tlink ∷ kind.Alink ∷ kind.Slink ∷ []

apart : AreApart tag_name all_kinds
apart = search rules

itself : (k : TagKind) → nat_eq (rank_of k) (rank_of k) ≡ true
itself kind.Event = refl
itself kind.Instance = refl
itself kind.Timex = refl
itself kind.Signal = refl
itself kind.Tlink = refl
itself kind.Alink = refl
itself kind.Slink = refl

pub same_kind : (k l : TagKind) → tag_name k ≡ tag_name l → k ≡ l
same_kind k l e = texts_tell tag_name all_kinds k l apart e

-- the names of two kinds differ
pub names_differ : (k l : TagKind) → nat_eq (rank_of k) (rank_of l) ≡ false → tag_name k ≡ tag_name l → ⊥
names_differ k l d e = true≢false (sym (itself k) ∙ ap (λ (j : TagKind). nat_eq (rank_of k) (rank_of j)) (same_kind k l e) ∙ d)
