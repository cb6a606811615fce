-- What an accepted document says is a document.
use Rattle.std.proofs.Common.{ℕ, List}
use Rattle.tml_accept.specs.Acceptance.{Says}
use Rattle.tml_refs.specs.Documents.{IsDocument, PlainDocument}
use Rattle.tml_refs.proofs.Documents.{resolved_document}

pub its_document : (doc : List ℕ) (contents : PlainDocument) → Says doc contents → IsDocument contents
its_document doc contents (root, (tree, (tags, types, resolved))) = resolved_document tags contents resolved
