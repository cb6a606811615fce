-- Stacks whose innermost comes last, and lists whose innermost comes first.
use Rattle.std.proofs.Common.{◌≡◌, ℕ, List, [], ◌∷◌, ◌++◌, map, reverse, ap, sym, refl}
use Rattle.std.proofs.lemmas.List.{reverse-append}
use Rattle.tml_tree.specs.declared.builder.Frame.{Frame}
use Rattle.tml_tree.specs.declared.tag_name.TagName.{TagName}
use Rattle.tml_tree.specs.Judging.{names_in}
use Rattle.tml_tree.specs.Nesting.{open_name}
use Rattle.tml_tree.specs.TagNames.{text_of}
use Rattle.tml_tree.specs.Building as building

-- one more tag
pub names_more : (tags : List TagName) (t : TagName) → names_in (tags ++ t ∷ []) ≡ text_of t ∷ names_in tags
names_more tags t = ap (λ (ts : List TagName). map text_of ts) (reverse-append tags (t ∷ []))

-- one more frame
pub tags_more : (frames : List Frame) (f : Frame) → building.open_tags_of (frames ++ f ∷ []) ≡ building.open_tag_of f ∷ building.open_tags_of frames
tags_more frames f = ap (λ (fs : List Frame). map building.open_tag_of fs) (reverse-append frames (f ∷ []))

pub frame_names_more : (frames : List Frame) (f : Frame) → building.names_of (frames ++ f ∷ []) ≡ building.frame_name f ∷ building.names_of frames
frame_names_more frames f = ap (λ (fs : List Frame). map building.frame_name fs) (reverse-append frames (f ∷ []))

-- the names of frames are those of their open tags
names_tags : (frames : List Frame) → map open_name (map building.open_tag_of frames) ≡ map building.frame_name frames
names_tags [] = refl
names_tags (f ∷ frames) = ap (λ (ns : List (List ℕ)). building.frame_name f ∷ ns) (names_tags frames)

pub names_are : (frames : List Frame) → building.names_of frames ≡ map open_name (building.open_tags_of frames)
names_are frames = sym (names_tags (reverse frames))
