-- The exit status of each way to end.
use Rattle.std.specs.Prelude.{ℕ}
use Rattle.runs.specs.declared.status.Status.{Status}
use Rattle.runs.specs.declared.status.Status.TheVariants.{Done, DocFault, Clash, Usage, ReadFault, WriteFault, NoMemory, EvidenceFault, UnknownName, TooLong}

abbrev pub status_number : Status → ℕ
status_number Done = 0
status_number DocFault = 1
status_number Clash = 2
status_number Usage = 3
status_number ReadFault = 4
status_number WriteFault = 5
status_number NoMemory = 6
status_number EvidenceFault = 7
status_number UnknownName = 8
status_number TooLong = 9
