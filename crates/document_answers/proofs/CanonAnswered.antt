-- Every accepted document has one canonical text.
use Rattle.std.proofs.Common.{◌≡◌, ℕ, List, refl, sym, ap, subst, ◌∙◌}
use Rattle.std.specs.Prelude.{⊤}
use Rattle.answers.specs.Documents.{doc_file}
use Rattle.answers.proofs.Answered.{refused_or}
use Rattle.tml_accept.specs.Acceptance.{Accepted, IsAccepted}
use Rattle.tml_accept.proofs.Phases.{one_acceptance}
use Rattle.tml_canon.specs.Canonical.{canonical_text}
use Rattle.runs.specs.Rows.{NeverFree}
use Rattle.runs.specs.declared.status.Status.TheVariants.{Done}
use Rattle.runs.proofs.Answering.{AreAnswered, IsAnswered, one_answer}
use Rattle.runs.proofs.OneFile.{answered_once}
use Rattle.tml_tree.specs.Plain.{PlainNode}
use Rattle.tml_tree.specs.Whole.{IsTreeOf}
use Rattle.tml_tree.proofs.Paths.{one_tree_of_source}
use Rattle.document_answers.specs.Canon.{HasCanonicalText, OfCanon, canon_rows}

-- the canonical text of the tree of an accepted document is that of the document
pub has_canonical_text : (doc text : List ℕ) (root : PlainNode) → Accepted doc → IsTreeOf doc root → text ≡ canonical_text root → HasCanonicalText doc text
has_canonical_text doc text root (contents, (only, is)) tree written =
    (root, contents, subst (λ (r : PlainNode). IsAccepted doc r contents) (one_tree_of_source doc only root is.0 tree) is, written)

pub one_canonical_text : (doc text other : List ℕ) → HasCanonicalText doc text → HasCanonicalText doc other → text ≡ other
one_canonical_text doc text other h k = h.3 ∙ ap canonical_text ((one_acceptance doc).one_document h.0 k.0 h.1 k.1 h.2 k.2).0 ∙ sym k.3

-- an accepted document has its canonical text
of_accepted : (doc : List ℕ) → Accepted doc → IsAnswered ⊤ (λ status text. (status ≡ Done) × HasCanonicalText doc text) (λ status. ⊥)
of_accepted doc says =
    one_answer (λ status text. (status ≡ Done) × HasCanonicalText doc text) (λ status. ⊥) Done refl (λ status text h. h.0) (λ text line determined h k. one_canonical_text doc text line h.1 k.1)
    (canonical_text says.1.0) (refl, (says.1.0, says.0, says.1.1, refl))

pub canon_answered : (name : List ℕ) → AreAnswered (canon_rows name) NeverFree
canon_answered name = answered_once (doc_file name) OfCanon (λ doc.
    refused_or doc (λ status text. (status ≡ Done) × HasCanonicalText doc text) (λ status. ⊥) (λ status text h. (h.1.1, (h.1.0, h.1.2))) (of_accepted doc))
