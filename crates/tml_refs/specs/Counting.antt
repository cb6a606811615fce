-- Serves the code: how many tags of each kind were counted.
use Rattle.std.specs.Prelude.{◌≡◌, ◌+◌, ◌<◌, ◌^◌, ◌-◌, ℕ}
use Rattle.tml_types.specs.declared.typed.TagKind.{TagKind}
use Rattle.tml_types.specs.declared.typed.TagKind.TheVariants as kind
use Rattle.tml_refs.specs.declared.document.Counts.{Counts}

-- no count is the greatest number of its type
pub record AreFew (counts : Counts) : Type 0 where
  pub events : counts.events < 2 ^ 32 - 1
  pub instances : counts.instances < 2 ^ 32 - 1
  pub timex : counts.timex < 2 ^ 32 - 1
  pub signals : counts.signals < 2 ^ 32 - 1
  pub tlinks : counts.tlinks < 2 ^ 32 - 1
  pub alinks : counts.alinks < 2 ^ 32 - 1
  pub slinks : counts.slinks < 2 ^ 32 - 1

-- one for a kind, and none for another
abbrev pub one_at : TagKind → TagKind → ℕ
one_at kind.Event kind.Event = 1
one_at kind.Instance kind.Instance = 1
one_at kind.Timex kind.Timex = 1
one_at kind.Signal kind.Signal = 1
one_at kind.Tlink kind.Tlink = 1
one_at kind.Alink kind.Alink = 1
one_at kind.Slink kind.Slink = 1
one_at k other = 0

-- a tag of this kind more
pub record IsOneMore (k : TagKind) (old new : Counts) : Type 0 where
  pub events : new.events ≡ old.events + one_at kind.Event k
  pub instances : new.instances ≡ old.instances + one_at kind.Instance k
  pub timex : new.timex ≡ old.timex + one_at kind.Timex k
  pub signals : new.signals ≡ old.signals + one_at kind.Signal k
  pub tlinks : new.tlinks ≡ old.tlinks + one_at kind.Tlink k
  pub alinks : new.alinks ≡ old.alinks + one_at kind.Alink k
  pub slinks : new.slinks ≡ old.slinks + one_at kind.Slink k
