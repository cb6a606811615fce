-- Units that are written are cut again as they were, and no reference in them is bad.
use Rattle.std.proofs.Common.{◌≡◌, inl, inr, ℕ, ◌+◌, List, [], ◌∷◌, ◌++◌, length, map, refl, sym, ap, subst, append_assoc, arith}
use Rattle.std.specs.Prelude.{codes}
use Rattle.std.specs.List.{All, flat_map}
use Rattle.std.proofs.lemmas.List.{append-nil}
use Rattle.std.proofs.lemmas.List.Elements.{All-head, All-tail}
use Rattle.tml_span.specs.Units.{Attribute, SpelledAttribute, SpelledAttributes, Kind, bom, declaration, doctype, comment, text, start_tag, end_tag, empty_tag, SpelledTag, SpelledKind, Spelled}
use Rattle.tml_span.specs.Cutting.{Ends, CutsFrom}
use Rattle.tml_span.specs.References.{value_piece, IsBadIn, kind_pieces, IsBadInUnits, IsNowhere}
use Rattle.tml_span.specs.Written.{double_quote, attribute_text, unit_text, written, attribute_at, attributes_at, tag_attributes, kind_at, unit_at, units_at, IsAttribute, IsTag, IsContent, BeginsWithText, NoTextsMeet, WrittenIsCut}
use Rattle.tml_span.proofs.EveryCut.{spelling_some}
use Rattle.tml_span.proofs.FirstBad.{nowhere_at}
use Rattle.tml_span.proofs.Joining.{empty_stops}

-- ---- attributes and tags

-- the text of an attribute, with no white space about `=`
attribute_parts : (name value : List ℕ) → codes " " ++ name ++ codes "=\"" ++ value ++ codes "\"" ≡ codes " " ++ name ++ [] ++ codes "=" ++ double_quote ∷ value ++ double_quote ∷ []
attribute_parts name value =
    let open_quote : name ++ [] ++ codes "=" ++ (double_quote ∷ value) ≡ name ++ codes "=\"" ++ value = simp append_assoc in
    ap (λ (x : List ℕ). codes " " ++ (x ++ codes "\"")) (sym open_quote)

-- an attribute that is written at a place is spelled there
pub attribute_spelled : (place : ℕ) (a : Attribute) → IsAttribute a → SpelledAttribute place (attribute_at place a) (attribute_text a)
attribute_spelled place a h = record {
  before = codes " ";
  left = [];
  right = [];
  whole = attribute_parts a.name a.value;
  white_before = refl;
  white_left = refl;
  white_right = refl;
  apart = λ e. cc;
  name = h.0;
  quote = refl;
  value = h.1;
  start = refl;
  end = refl;
}

-- attributes that are written one after another are spelled so
pub attributes_spelled : (place : ℕ) (attrs : List Attribute) → All IsAttribute attrs → SpelledAttributes place (attributes_at place attrs) (flat_map attribute_text attrs)
attributes_spelled place [] h = refl
attributes_spelled place (a ∷ attrs) h = (
  attribute_text a,
  flat_map attribute_text attrs,
  refl,
  attribute_spelled place a (All-head IsAttribute a attrs h),
  attributes_spelled (place + length (attribute_text a)) attrs (All-tail IsAttribute a attrs h),
)

-- a tag that is written at a place is spelled there
pub tag_spelled : (place : ℕ) (name : List ℕ) (attrs : List Attribute) (close : List ℕ) → IsTag name attrs → SpelledTag place name (tag_attributes place name attrs) close (codes "<" ++ name ++ flat_map attribute_text attrs ++ close)
tag_spelled place name attrs close h = record {
  inner = flat_map attribute_text attrs;
  white = [];
  whole = rw (append-nil (name ++ flat_map attribute_text attrs));
  named = h.0;
  attributes = attributes_spelled (place + 1 + length name) attrs h.1;
  white_inner = refl;
}

-- ---- one unit

-- what is written at a place is spelled there as its kind is, unless it is a text with which a source begins
pub kind_spelled : (place : ℕ) (kind : Kind) (kinds : List Kind) → IsContent kind → (place ≡ 0 → BeginsWithText (kind ∷ kinds) → ⊥) → SpelledKind place (kind_at place kind) (unit_text kind)
kind_spelled place bom kinds h no_text = absurd h
kind_spelled place (declaration bytes) kinds h no_text = absurd h
kind_spelled place (doctype bytes) kinds h no_text = absurd h
kind_spelled place (comment bytes) kinds h no_text = (refl, h.0, h.1, h.2)
kind_spelled place (text bytes) kinds h no_text = (refl, h.0, h.1, λ zero begins. no_text zero tt)
kind_spelled place (start_tag name attrs) kinds h no_text = tag_spelled place name attrs (codes ">") h
kind_spelled place (end_tag name) kinds h no_text = ([], rw (append-nil name), h, refl)
kind_spelled place (empty_tag name attrs) kinds h no_text = tag_spelled place name attrs (codes "/>") h

-- a unit that is written at a place is spelled there, unless it is a text with which a source begins
pub unit_spelled : (place : ℕ) (kind : Kind) (kinds : List Kind) → IsContent kind → (place ≡ 0 → BeginsWithText (kind ∷ kinds) → ⊥) → Spelled place (unit_at place kind) (unit_text kind)
unit_spelled place kind kinds h no_text = record { kind = kind_spelled place kind kinds h no_text; start = refl; end = refl }

-- what is written and is no text begins with `<`
pub begins_marked : (kind : Kind) (kinds : List Kind) → IsContent kind → (BeginsWithText (kind ∷ kinds) → ⊥) → (suffix : List ℕ) × (unit_text kind ≡ codes "<" ++ suffix)
begins_marked bom kinds h no_text = absurd h
begins_marked (declaration bytes) kinds h no_text = absurd h
begins_marked (doctype bytes) kinds h no_text = absurd h
begins_marked (comment bytes) kinds h no_text = (codes "!--" ++ h.0 ++ codes "-->", h.1)
begins_marked (text bytes) kinds h no_text = absurd (no_text tt)
begins_marked (start_tag name attrs) kinds h no_text = (name ++ flat_map attribute_text attrs ++ codes ">", refl)
begins_marked (end_tag name) kinds h no_text = (codes "/" ++ name ++ codes ">", refl)
begins_marked (empty_tag name attrs) kinds h no_text = (name ++ flat_map attribute_text attrs ++ codes "/>", refl)

-- ---- all units

-- a text that is written is as long as can be, since no text follows it
pub written_ends : (place : ℕ) (kind : Kind) (kinds : List Kind) → All IsContent kinds → NoTextsMeet (kind ∷ kinds) → Ends (kind_at place kind) (written kinds)
written_ends place (text bytes) [] h apart = tt
written_ends place (text bytes) (next ∷ kinds) h apart =
    let begins = begins_marked next kinds (All-head IsContent next kinds h) apart.0 in
    subst (λ (x : List ℕ). Ends (text bytes) (x ++ written kinds)) (sym begins.1) refl
written_ends place kind kinds h apart = tt

-- where no two texts meet, none do after the first unit
pub no_texts_meet_after : (kind : Kind) (kinds : List Kind) → NoTextsMeet (kind ∷ kinds) → NoTextsMeet kinds
no_texts_meet_after (text bytes) kinds apart = apart.1
no_texts_meet_after kind kinds apart = apart

-- units that are written from a place on are cut there as they were, unless a source begins with them and the first is a text
pub written_cuts_from : (place : ℕ) (kinds : List Kind) → All IsContent kinds → NoTextsMeet kinds → (place ≡ 0 → BeginsWithText kinds → ⊥) → CutsFrom place (written kinds) (units_at place kinds) []
written_cuts_from place [] h apart no_text = (refl, empty_stops place)
written_cuts_from place (kind ∷ kinds) h apart no_text =
    let spelled = unit_spelled place kind kinds (All-head IsContent kind kinds h) no_text in
    let some = spelling_some place (unit_at place kind) (unit_text kind) spelled in
    let others = All-tail IsContent kind kinds h in (
      unit_text kind,
      written kinds,
      refl,
      spelled,
      written_ends place kind kinds others apart,
      written_cuts_from (place + length (unit_text kind)) kinds others (no_texts_meet_after kind kinds apart) (λ zero begins. omega arith),
    )

-- ---- references

-- in the values of attributes that are written no reference is bad
pub values_good : (place : ℕ) (attrs : List Attribute) → All IsAttribute attrs → IsNowhere (IsBadIn (map value_piece (attributes_at place attrs)))
values_good place [] h at bad = bad
values_good place (a ∷ attrs) h at (inl here) = (All-head IsAttribute a attrs h).2 here.0 here.1
values_good place (a ∷ attrs) h at (inr later) = values_good (place + length (attribute_text a)) attrs (All-tail IsAttribute a attrs h) at later

-- in a unit that is written no reference is bad
pub kind_good : (place : ℕ) (kind : Kind) → IsContent kind → IsNowhere (IsBadIn (kind_pieces place (kind_at place kind)))
kind_good place (text bytes) h at bad = nowhere_at place bytes h.2 at bad
kind_good place (start_tag name attrs) h at bad = values_good (place + 1 + length name) attrs h.1 at bad
kind_good place (empty_tag name attrs) h at bad = values_good (place + 1 + length name) attrs h.1 at bad
kind_good place kind h at bad = bad

-- in units that are written from a place on no reference is bad
pub written_good : (place : ℕ) (kinds : List Kind) → All IsContent kinds → IsNowhere (IsBadInUnits (units_at place kinds))
written_good place [] h at bad = bad
written_good place (kind ∷ kinds) h at (inl here) = kind_good place kind (All-head IsContent kind kinds h) at here
written_good place (kind ∷ kinds) h at (inr later) = written_good (place + length (unit_text kind)) kinds (All-tail IsContent kind kinds h) at later

-- units that can be written are cut again as they were
pub written_is_cut : WrittenIsCut
written_is_cut kinds h = (h.utf8, written_cuts_from 0 kinds h.content h.apart (λ zero. h.begins), written_good 0 kinds h.content)
