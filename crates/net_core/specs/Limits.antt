-- How much is taken, and how much is printed.
use Rattle.std.specs.Prelude.{ℕ, ◌*◌}

-- the most intervals of a document
abbrev pub max_intervals : ℕ
max_intervals = 1024

-- the most links of a document
abbrev pub max_links : ℕ
max_links = 4096

-- the most points of a net, two for each interval
abbrev pub max_points : ℕ
max_points = 2 * max_intervals

-- the most bytes of a document
abbrev pub max_document : ℕ
max_document = 4194304

-- the most bytes of evidence that is read
abbrev pub max_evidence : ℕ
max_evidence = 67108864

-- the most bytes of evidence that is printed, which is less
abbrev pub max_printed : ℕ
max_printed = 55000000
