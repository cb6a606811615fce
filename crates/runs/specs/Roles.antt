-- What files are read for.
use Rattle.std.specs.Prelude.{◌≡◌, ◌≤◌, ℕ, List}
use Rattle.tml_io.specs.declared.whole.TheConstants.{MAX_LIMIT}
use Rattle.runs.specs.declared.role.Role.{Role}
use Rattle.runs.specs.Replies.{too_long}
use Rattle.runs.specs.Rows.{File}

-- the file of a name that is read for something
abbrev pub file_of : Role → List ℕ → File
file_of role name = record { name = name; word = role.word.now; limit = role.limit }

-- the limit is one that a whole read can keep, and the line names the word
pub record IsRole (role : Role) : Type 0 where
  pub within : role.limit ≤ MAX_LIMIT
  pub line : role.line.now ≡ too_long role.word.now
