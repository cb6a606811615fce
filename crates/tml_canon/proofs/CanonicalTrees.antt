-- The canonical text of the tree of a source is read as its canonical tree.
use Rattle.tml_canon.specs.Canonical.{canonical}
use Rattle.tml_canon.specs.Laws.{CanonicalIsRead}
use Rattle.tml_canon.proofs.Apart.{apart, root_begins}
use Rattle.tml_canon.proofs.Content.{content, utf8}
use Rattle.tml_canon.proofs.Standing.{canonical_stands}
use Rattle.tml_tree.proofs.WrittenTrees.{written_is_read}

-- it can be written, and so it is read again
pub canonical_is_read : CanonicalIsRead
canonical_is_read = λ source root tree.
    let stands = canonical_stands source root tree in
    written_is_read (canonical root) stands (record { content = content source root tree; apart = apart source root tree; begins = root_begins (canonical root) stands; utf8 = utf8 source root tree })
