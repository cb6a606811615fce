-- A table, one unit further.
use Rattle.std.proofs.Common.{◌≡◌, ℕ, List, [], ◌∷◌, ◌++◌, sym, ap, ◌∙◌}
use Rattle.std.proofs.lemmas.Grind.{flat_map-append}
use Rattle.std.proofs.lemmas.List.{append-nil}
use Rattle.tml_span.specs.Cutter.{HasCut}
use Rattle.tml_span.specs.Reader.{Reading}
use Rattle.tml_span.specs.Units.{PlainUnit}
use Rattle.document_answers.specs.Spans as texts

-- the table is that of the units given so far
abbrev pub HasRows : Reading → List ℕ → Type 0
HasRows r table = (given : List PlainUnit) × HasCut r given × (table ≡ texts.unit_table given)

unit_table-append : (units : List PlainUnit) (u : PlainUnit) → texts.unit_table (units ++ u ∷ []) ≡ texts.unit_table units ++ texts.unit_lines u
unit_table-append units u = flat_map-append texts.unit_lines units (u ∷ []) ∙ ap (λ (t : List ℕ). texts.unit_table units ++ t) (append-nil (texts.unit_lines u))

-- the table and the lines of one unit more are the table of the units and that one
pub one_more : (old new : Reading) (table lines : List ℕ) (u : PlainUnit) → ((given : List PlainUnit) → HasCut old given → HasCut new (given ++ u ∷ []))
    → HasRows old table → lines ≡ table ++ texts.unit_lines u → HasRows new lines
one_more old new table lines u gives so_far e =
    (so_far.0 ++ u ∷ [], gives so_far.0 so_far.1, e ∙ ap (λ (t : List ℕ). t ++ texts.unit_lines u) so_far.2 ∙ sym (unit_table-append so_far.0 u))
