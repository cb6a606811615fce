-- The plain values that intervals and documents stand for.
use Rattle.std.specs.Prelude.{map}
use Rattle.tml_refs.specs.declared.contents.Contents.{Contents}
use Rattle.tml_refs.specs.declared.document.Interval.{Interval}
use Rattle.tml_refs.specs.declared.document.Interval.TheVariants.{Instance, Timex}
use Rattle.tml_refs.specs.Documents.{PlainDocument, PlainInterval, instance, time}

abbrev pub plain_interval : Interval → PlainInterval
plain_interval (Instance name) = instance name.now
plain_interval (Timex name kind modifier value) = time (record { name = name.now; kind = kind; modifier = modifier; value = value })

abbrev pub document_of : Contents → PlainDocument
document_of c = record { counts = c.counts; intervals = map plain_interval c.intervals; links = c.links }
