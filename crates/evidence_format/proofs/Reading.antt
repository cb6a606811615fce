-- What is read of whole texts.
use Rattle.std.proofs.Common.{◌≡◌, inl, inr, ℕ, List, [], ◌∷◌, refl, ap}
use Rattle.std.specs.List.{concat}
use Rattle.line_texts.specs.Lines.{Lines}
use Rattle.line_texts.specs.Reading.{Read, ◌>>=◌, line_at}
use Rattle.line_texts.specs.Grammar.{Begins}
use Rattle.evidence_format.specs.Evidence.{PlainEvidence, IsText, text_lines, IsWellFormed, body_lines, first_line}
use Rattle.evidence_format.specs.Begun.{HasLines, IsBegun}
use Rattle.evidence_format.specs.Bundles.{BundleOrBadLine, IsTextOfEither, IsBegunByEither, IsBadLineOfEither, bundle_lines}
use Rattle.evidence_format.specs.Readers.{evidence_at, bundle_at, body_at}
use Rattle.line_texts.proofs.Exact.{Exact, all_of}
use Rattle.evidence_format.proofs.BundleLaws.{HasEither, claims_at, exact_claims, bundle_is}
use Rattle.evidence_format.proofs.LineLaws.{text_is, either_is}
use Rattle.line_texts.specs.Words.{same_of}
use Rattle.evidence_format.proofs.BodyLaws.{exact_body}
use Rattle.line_texts.proofs.Reading.{Texts, one_line, own_texts, text_or_bad_line}
use Rattle.line_texts.proofs.TextLaws.{closed, ends_after, exact_between}

-- ---- version 1

-- evidence from its first line to its last one
abbrev text_at : Lines → Read PlainEvidence
text_at ls = line_at (same_of first_line) ls >>= λ first. closed (body_at first.1)

-- reading a text is reading all its lines
evidence_is : (ls : Lines) → evidence_at ls ≡ all_of text_at ls
unfolding evidence_at
evidence_is ls = ends_after (line_at (same_of first_line) ls) (λ u rest. body_at rest)

-- evidence from its first line to its last one
exact_text : Exact HasLines text_at
exact_text = exact_between first_line IsWellFormed body_lines body_at exact_body

-- evidence and its texts
pub texts : Texts IsText IsBegun HasLines text_at evidence_at
texts = own_texts IsWellFormed text_lines text_at evidence_at exact_text evidence_is text_is

-- ---- either version

-- lines of one of the versions are those of a text of it
to_text : (es : List PlainEvidence) (ls : Lines) → HasEither es ls → IsTextOfEither es (concat ls)
to_text es ls (inl h) = inl (h.0, ap concat h.1)
to_text es ls (inr h) = inr (h.0, h.1, (h.2.0, ap concat h.2.1))

-- and a text has lines of one of the versions
pub from_text : (es : List PlainEvidence) (text : List ℕ) → IsTextOfEither es text → (ls : Lines) × HasEither es ls × (text ≡ concat ls)
from_text es text (inl h) = (bundle_lines es, inl (h.0, refl), h.1)
from_text es text (inr h) = (text_lines h.0, inr (h.0, h.1, (h.2.0, refl)), h.2.1)

-- lines that begin those of one of the versions are begun by one
to_begun : (ls : Lines) → Begins HasEither ls → IsBegunByEither ls
to_begun ls (es, more, inl h) = inr (es, more, h)
to_begun ls (es, more, inr h) = inl (h.0, more, h.2)

-- and lines that are begun by one of the versions begin such lines
from_begun : (ls : Lines) → IsBegunByEither ls → Begins HasEither ls
from_begun ls (inl h) = (h.0 ∷ [], h.1, inr (h.0, refl, h.2))
from_begun ls (inr h) = (h.0, h.1, inl h.2)

-- claims and their texts
pub bundles : Texts IsTextOfEither IsBegunByEither HasEither claims_at bundle_at
bundles = record { exact = exact_claims; reads = bundle_is; whole = either_is; to = to_text; from = from_text; begun = to_begun; begins = from_begun }

-- every text is that of some claims, or has a bad line
pub bundle_or_bad_line : (text : List ℕ) → BundleOrBadLine text
bundle_or_bad_line text = text_or_bad_line bundles text

-- a text has one bad line of either version at most
pub one_bad_of_either : (text : List ℕ) (m n : ℕ) → IsBadLineOfEither text m → IsBadLineOfEither text n → m ≡ n
one_bad_of_either text m n h k = one_line bundles text m n h k
