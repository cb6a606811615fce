-- The table of the bytes of names says of each byte what their definition says.
use Rattle.std.proofs.Common.{◌≡◌, ℕ, ◌<◌, List, Bool, false, map, get_or, arith, refl, ap, ◌∙◌}
use Rattle.std.proofs.lemmas.List.FromFn.{get_or-map-range_with_len}
use Rattle.std.specs.List.{range_with_len, slice_index_or}
use Rattle.tml_span.specs.Bytes.{is_name_byte}
use Rattle.tml_span.specs.declared.bytes.TheConstants.{NAME_BYTES}

all_alike : NAME_BYTES ≡ map is_name_byte (range_with_len 0 256)
all_alike = refl

pub tabled : (b : ℕ) → b < 256 → slice_index_or NAME_BYTES b false ≡ is_name_byte b
tabled b h = ap (λ (t : List Bool). get_or t b false) all_alike ∙ get_or-map-range_with_len is_name_byte 0 256 b b false h (omega arith)
