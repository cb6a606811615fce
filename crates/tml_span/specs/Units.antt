-- Units of markup as plain values, and how they are spelled.
use Rattle.std.specs.Prelude.{◌≡◌, ◌≢◌, ℕ, ◌+◌, true, List, [], ◌∷◌, ◌++◌, length, codes}
use Rattle.std.specs.List.{list_all}
use Rattle.tml_span.specs.Bytes.{is_white, is_name, is_text_byte, is_quote, is_value_byte, is_doctype_byte}

-- an attribute, from the first byte of its name up to past its closing quote
pub record Attribute : Type 0 where
  pub start : ℕ
  pub end : ℕ
  pub name : List ℕ
  pub value : List ℕ
  pub quote : ℕ

-- The kinds of unit. A declaration, a doctype, a comment and a text have all their bytes.
pub data Kind : Type 0 where
  bom : Kind
  declaration : List ℕ → Kind
  doctype : List ℕ → Kind
  comment : List ℕ → Kind
  text : List ℕ → Kind
  start_tag : List ℕ → List Attribute → Kind
  end_tag : List ℕ → Kind
  empty_tag : List ℕ → List Attribute → Kind

-- a unit, from its first byte up to past its last one
pub record PlainUnit : Type 0 where
  pub start : ℕ
  pub end : ℕ
  pub kind : Kind

-- An attribute at a place: one or more white space, a name, `=` with white space about it, and a value between two quotes.
pub record SpelledAttribute (place : ℕ) (a : Attribute) (bytes : List ℕ) : Type 0 where
  pub before : List ℕ
  pub left : List ℕ
  pub right : List ℕ
  pub whole : bytes ≡ before ++ a.name ++ left ++ (codes "=" ++ right) ++ a.quote ∷ a.value ++ a.quote ∷ []
  pub white_before : list_all is_white before ≡ true
  pub white_left : list_all is_white left ≡ true
  pub white_right : list_all is_white right ≡ true
  pub apart : before ≢ []
  pub name : is_name a.name ≡ true
  pub quote : is_quote a.quote ≡ true
  pub value : list_all (is_value_byte a.quote) a.value ≡ true
  pub start : a.start ≡ place + length before
  pub end : a.end ≡ place + length bytes

-- attributes that follow each other
abbrev pub SpelledAttributes : ℕ → List Attribute → List ℕ → Type 0
SpelledAttributes place [] bytes = bytes ≡ []
SpelledAttributes place (a ∷ attrs) bytes = (prefix : List ℕ) × (suffix : List ℕ) × (bytes ≡ prefix ++ suffix) × SpelledAttribute place a prefix × SpelledAttributes (place + length prefix) attrs suffix

-- A tag at a place: `<`, a name, attributes, white space, and `>` or `/>`.
pub record SpelledTag (place : ℕ) (name : List ℕ) (attrs : List Attribute) (close spelling : List ℕ) : Type 0 where
  pub inner : List ℕ
  pub white : List ℕ
  pub whole : spelling ≡ codes "<" ++ name ++ inner ++ white ++ close
  pub named : is_name name ≡ true
  pub attributes : SpelledAttributes (place + 1 + length name) attrs inner
  pub white_inner : list_all is_white white ≡ true

-- the bytes EF BB BF
abbrev pub bom_bytes : List ℕ
bom_bytes = 0xEF ∷ 0xBB ∷ 0xBF ∷ []

-- no part of the bytes is this piece
abbrev pub Lacks : List ℕ → List ℕ → Type 0
Lacks piece bytes = (prefix suffix : List ℕ) → bytes ≢ prefix ++ piece ++ suffix

-- the bytes begin with this piece
abbrev pub BeginsWith : List ℕ → List ℕ → Type 0
BeginsWith piece bytes = (suffix : List ℕ) × (bytes ≡ piece ++ suffix)

-- the bytes begin with this word and one white space
abbrev pub BeginsWithWord : List ℕ → List ℕ → Type 0
BeginsWithWord word bytes = (white : ℕ) × (suffix : List ℕ) × (bytes ≡ word ++ white ∷ suffix) × (is_white white ≡ true)

-- How a kind of unit is spelled at a place: a Bom at place 0 alone, where no text begins with its bytes.
abbrev pub SpelledKind : ℕ → Kind → List ℕ → Type 0
SpelledKind place bom spelling = (place ≡ 0) × (spelling ≡ bom_bytes)
SpelledKind place (declaration bytes) spelling = (spelling ≡ bytes) × (white : ℕ) × (body : List ℕ) × (bytes ≡ codes "<?xml" ++ white ∷ body ++ codes "?>") × (is_white white ≡ true) × Lacks (codes "?>") body
SpelledKind place (doctype bytes) spelling = (spelling ≡ bytes) × (white : ℕ) × (body : List ℕ) × (bytes ≡ codes "<!DOCTYPE" ++ white ∷ body ++ codes ">") × (is_white white ≡ true) × (list_all is_doctype_byte body ≡ true)
SpelledKind place (comment bytes) spelling = (spelling ≡ bytes) × (body : List ℕ) × (bytes ≡ codes "<!--" ++ body ++ codes "-->") × Lacks (codes "-->") body
SpelledKind place (text bytes) spelling = (spelling ≡ bytes) × (bytes ≢ []) × (list_all is_text_byte bytes ≡ true) × (place ≡ 0 → BeginsWith bom_bytes bytes → ⊥)
SpelledKind place (start_tag name attrs) spelling = SpelledTag place name attrs (codes ">") spelling
SpelledKind place (end_tag name) spelling = (white : List ℕ) × (spelling ≡ codes "</" ++ name ++ white ++ codes ">") × (is_name name ≡ true) × (list_all is_white white ≡ true)
SpelledKind place (empty_tag name attrs) spelling = SpelledTag place name attrs (codes "/>") spelling

-- a unit at a place is spelled so
pub record Spelled (place : ℕ) (u : PlainUnit) (spelling : List ℕ) : Type 0 where
  pub kind : SpelledKind place u.kind spelling
  pub start : u.start ≡ place
  pub end : u.end ≡ place + length spelling
