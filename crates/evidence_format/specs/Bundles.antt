-- Several claims as plain values, their one text of version 2, and the bad line of either version.
use Rattle.std.specs.Prelude.{◌≡◌, ◌⊎◌, ◌↔◌, ℕ, ◌<◌, List, [], ◌∷◌, ◌++◌, length, map, codes, Result}
use Rattle.std.specs.List.{All, concat, flat_map}
use Rattle.line_texts.specs.Lines.{Lines, last_line}
use Rattle.line_texts.specs.Grammar.{Begins}
use Rattle.evidence_format.specs.Evidence.{PlainEvidence, IsWellFormed, IsText, body_lines}
use Rattle.line_texts.specs.Numbers.{IsNumber, one_number}
use Rattle.line_texts.specs.Begun.{IsBadLineBy, ReadsBy, RefusesTextBy, TellsBadLineBy, TextOrBadLineBy}
use Rattle.evidence_format.specs.Begun.{IsBegun}
use Rattle.line_texts.specs.Parts.{AreBegunParts}
use Rattle.evidence_format.specs.Parts.{IsBegunBody}
use Rattle.evidence_format.specs.View.{plain}
use Rattle.evidence_format.specs.declared.bodies.Bodies.{Bodies}
use Rattle.evidence_format.specs.declared.evidence.Evidence.{Evidence}
use Rattle.line_texts.specs.declared.read.ReadEvidence.{ReadEvidence}

-- ---- texts

-- this number of claims can stand in a text: one at least
abbrev pub IsCount : ℕ → Type 0
IsCount n = (0 < n) × IsNumber n

-- each claim is well formed, and this number can stand in a text
abbrev pub AreClaims : List PlainEvidence → Type 0
AreClaims es = All IsWellFormed es × IsCount (length es)

-- the first line of version 2
abbrev pub bundle_line : List ℕ
bundle_line = codes "tml-evidence 2\n"

-- how many claims there are
abbrev pub claims_line : ℕ → List ℕ
claims_line n = one_number (codes "claims ") n

-- the first line, how many claims there are, the body of each, and the last line
abbrev pub bundle_lines : List PlainEvidence → Lines
bundle_lines es = bundle_line ∷ claims_line (length es) ∷ (flat_map body_lines es ++ last_line ∷ [])

-- the text of version 2
abbrev pub IsBundleText : List PlainEvidence → List ℕ → Type 0
IsBundleText es text = AreClaims es × (text ≡ concat (bundle_lines es))

-- the text of version 2 of one claim
abbrev pub IsClaimText : PlainEvidence → List ℕ → Type 0
IsClaimText e text = IsBundleText (e ∷ []) text

-- the text of version 2, or the text of version 1, which has one claim
abbrev pub IsTextOfEither : List PlainEvidence → List ℕ → Type 0
IsTextOfEither es text = IsBundleText es text ⊎ ((e : PlainEvidence) × (es ≡ e ∷ []) × IsText e text)

-- this number of claims, and the bytes of their bodies
abbrev pub AreBodies : List PlainEvidence → Bodies → Type 0
AreBodies es bodies = (length es ≡ bodies.count) × (bodies.text.now ≡ concat (flat_map body_lines es))

-- ---- the bad line

abbrev pub HasBundleLines : List PlainEvidence → Lines → Type 0
HasBundleLines es ls = AreClaims es × (ls ≡ bundle_lines es)

-- the lines are the first ones of the text of version 2 of some claims
abbrev pub IsBegunBundle : Lines → Type 0
IsBegunBundle ls = Begins HasBundleLines ls

-- the lines are begun by one of the versions
abbrev pub IsBegunByEither : Lines → Type 0
IsBegunByEither ls = IsBegun ls ⊎ IsBegunBundle ls

-- the lines before it are begun by one of the versions; with it they are begun by none, or there is no further line
abbrev pub IsBadLineOfEither : List ℕ → ℕ → Type 0
IsBadLineOfEither text line = IsBadLineBy IsBegunByEither text line

-- these claims were read, unless out of memory
abbrev pub ReadsBundle : List PlainEvidence → Result (List Evidence) ReadEvidence → Type 0
ReadsBundle es read = ReadsBy (λ bundle. map plain bundle) es read

-- the bad line of either version is reported, unless out of memory
abbrev pub TellsBadLineOfEither : List ℕ → ReadEvidence → Type 0
TellsBadLineOfEither text refused = TellsBadLineBy IsBegunByEither text refused

-- a text is that of no claims, and its bad line is reported, unless out of memory
abbrev pub RefusesText : List ℕ → ReadEvidence → Type 0
RefusesText text refused = RefusesTextBy IsTextOfEither IsBegunByEither text refused

-- a text is that of some claims, or is that of none and has a bad line of either version
abbrev pub BundleOrBadLine : List ℕ → Type 0
BundleOrBadLine text = TextOrBadLineBy IsTextOfEither IsBegunByEither text

-- ---- lines that are begun, by their parts

-- no line; the first line alone; after it how many claims there are, and no more bodies, of which the last may be begun; or the lines of a whole text
abbrev pub IsBegunBundleByParts : Lines → Type 0
IsBegunBundleByParts ls =
    (ls ≡ [])
    ⊎ (ls ≡ bundle_line ∷ [])
    ⊎ ((n : ℕ) × (rest : Lines) × IsCount n × AreBegunParts IsWellFormed body_lines IsBegunBody n rest × (ls ≡ bundle_line ∷ claims_line n ∷ rest))
    ⊎ ((es : List PlainEvidence) × AreClaims es × (ls ≡ bundle_lines es))

-- the law: both say the same
abbrev pub SameBegunBundle : Type 0
SameBegunBundle = (ls : Lines) → IsBegunBundleByParts ls ↔ IsBegunBundle ls
