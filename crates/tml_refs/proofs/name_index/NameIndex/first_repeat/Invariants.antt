use Rattle.std.proofs.Common.{◌≤◌, ◌-◌, get_or}
use Rattle.tml_refs.specs.declared.name_index.Entry.{Entry}
use Rattle.tml_refs.specs.Firsts.{bound, nowhere}
use Rattle.tml_refs.specs.NameIndex.{entry_name}
use Rattle.tml_refs.proofs.Scanning.{IsScanned}
use Rattle.tml_refs.proofs.name_index.NameIndex.first_repeat.Given as goal

abbrev pub invariant-loop-i : goal.invariant-loop-i
invariant-loop-i l = record {
  from : 1 ≤ l.i;
  scanned : (d : Entry) → IsScanned l.entries nowhere (bound l.first) l.least l.i (entry_name (get_or l.entries (l.i - 1) d));
}
