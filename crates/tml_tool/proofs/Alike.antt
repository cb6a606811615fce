-- A document and its canonical text have one answer to what is asked of what they say.
use Rattle.std.proofs.Common.{◌≡◌, true, false, ℕ, ◌+◌, List, [], ◌∷◌, sym, subst, ◌∙◌, inl, inr, Some}
use Rattle.answers.specs.Commands.{Question, of_document, of_files, rows_of}
use Rattle.answers.specs.Documents.{Contents, doc_file, document_rows, of_contents}
use Rattle.tml_accept.specs.Acceptance.{IsAccepted, Says}
use Rattle.tml_accept.proofs.Phases.{accepted_or_fault, one_document}
use Rattle.tml_canon.specs.Canonical.{canonical_text}
use Rattle.tml_canon.specs.Laws.{canonical_tree}
use Rattle.tml_canon.proofs.CanonicalTrees.{canonical_is_read}
use Rattle.tml_canon.proofs.Saying.{canonical_says_the_same}
use Rattle.tml_canon.proofs.Alike.{canonical_is_itself}
use Rattle.tml_io.specs.Files.{Files}
use Rattle.tml_refs.specs.Documents.{PlainDocument}
use Rattle.runs.specs.OneReply.{is_aborted}
use Rattle.runs.specs.Reading.{total_length}
use Rattle.runs.specs.Replies.{Replies}
use Rattle.runs.specs.declared.status.Status.{Status}
use Rattle.runs.proofs.OneFile.{replied, replies}
use Rattle.tml_tree.specs.Plain.{PlainNode}
use Rattle.tml_tool.specs.Alike.{CanonicalIsAlike, HoldsDocument, is_of_contents}
use Rattle.tml_tool.specs.Commands.{command_of}

-- the canonical text of an accepted document is accepted, and says the same
canonical_accepted : (doc : List ℕ) (root : PlainNode) (contents : PlainDocument) → IsAccepted doc root contents → IsAccepted (canonical_text root) (canonical_tree root) contents
canonical_accepted doc root contents (tree, says) = (canonical_is_read doc root tree, canonical_says_the_same root contents says)

module _ (doc other : List ℕ) (contents : PlainDocument) (says : Says doc contents) (also : Says other contents) where
  -- what one document says is answered of the other one
  answered_alike : (Of : Contents) (status : Status) (line : List ℕ) → of_contents Of doc status line → of_contents Of other status line
  answered_alike Of status line (inl h) = absurd (accepted_or_fault doc h.1.0 h.1.1 (contents, says) h.1.2)
  answered_alike Of status line (inr (c, is, h)) = inr (c, subst (Says other) (one_document doc contents c says is) also, h)

  module _ (files : Files) (name another : List ℕ) (holds : HoldsDocument files name doc) (too : HoldsDocument files another other) where
    -- so a reply over the one has a reply over the other
    rows_alike : (Of : Contents) (status : Status) (line : List ℕ) (taken : ℕ) → is_aborted status ≡ false → Replies (Some files) (document_rows Of name) status line taken
        → (count : ℕ) × Replies (Some files) (document_rows Of another) status line count
    rows_alike Of status line taken whole h =
        let answer = replied files (doc_file name) (of_contents Of) doc holds.0 holds.1 status line taken whole h in
        (total_length (other ∷ []) + 0, replies files (doc_file another) (of_contents Of) other too.0 too.1 status line (answered_alike Of status line answer))

    reply_alike : (asks : Question) (given : List (List ℕ)) (status : Status) (line : List ℕ) → is_of_contents asks ≡ true → is_aborted status ≡ false
        → (taken : ℕ) × Replies (Some files) (rows_of asks (name ∷ given)) status line taken → (count : ℕ) × Replies (Some files) (rows_of asks (another ∷ given)) status line count
    reply_alike (of_document Of IsFree) given status line e whole (taken, h) = rows_alike (Of given) status line taken whole h
    reply_alike (of_files limits rows IsFree) given status line e whole h = absurd cc

-- a canonical text is its own, and is answered as the document is
pub canonical_is_alike : CanonicalIsAlike
canonical_is_alike = λ doc text (root, contents, is, written).
    let accepted = subst (λ (t : List ℕ). IsAccepted t (canonical_tree root) contents) (sym written) (canonical_accepted doc root contents is) in
    record {
      itself = (canonical_tree root, contents, accepted, written ∙ sym (canonical_is_itself root));
      alike = λ files form name other arguments status line e holds too whole. (
        reply_alike doc text contents (root, is) (canonical_tree root, accepted) files name other holds too (command_of form).asks arguments status line e whole,
        reply_alike text doc contents (canonical_tree root, accepted) (root, is) files other name too holds (command_of form).asks arguments status line e whole,
      );
    }
