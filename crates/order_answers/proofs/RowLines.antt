-- The line of a relation, by the names of all intervals.
use Rattle.std.proofs.Common.{◌≡◌, ◌++◌, ◌<◌, ℕ, Bor, List, Vec, [], codes, length, map, get_or, append_assoc, ap, sym, ◌∙◌, arith}
use Rattle.std.proofs.lemmas.List.{get_or-map, length-map}
use Rattle.std.specs.declared.alloc.Global.{Global}
use Rattle.answers.specs.Lines.{related}
use Rattle.answers.specs.Names.{AreNames}
use Rattle.answers.proofs.NamedIntervals.{name_there}
use Rattle.derive_rel.specs.declared.all_rows.Row.{Row}
use Rattle.tml_refs.specs.Documents.{PlainDocument, interval_name}
use Rattle.order_answers.specs.LineParts.{AreEnds, line_end, line_start}
use Rattle.order_answers.specs.Relations.{row_line}

-- what the line begins with, and what it ends with
pub row_more : (contents : PlainDocument) (names : List (List ℕ)) (row : Row) (text begun new : List ℕ) → AreNames contents.intervals names → row.a < length names → row.b < length names
    → begun ≡ text ++ line_start (get_or names row.a []) row.rel → new ≡ begun ++ line_end (get_or names row.b []) → new ≡ text ++ row_line contents row
row_more contents names row text begun new are la lb begin end =
    let intervals = contents.intervals in
    let many : length names ≡ length intervals = ap length are ∙ length-map intervals interval_name in
    let x = get_or names row.a [] in
    let named_a = name_there intervals row.a (omega (arith, la, many)) ∙ ap (λ (ns : List (List ℕ)). get_or ns row.a []) (sym are) in
    let named_b = name_there intervals row.b (omega (arith, lb, many)) ∙ ap (λ (ns : List (List ℕ)). get_or ns row.b []) (sym are) in
    let y = get_or names row.b [] in
    let line : text ++ line_start x row.rel ++ line_end y ≡ text ++ (related x row.rel y ++ codes "\n") =
    append_assoc text (line_start x row.rel) (line_end y) ∙ ap (λ (t : List ℕ). text ++ t) (sym (append_assoc (line_start x row.rel) y (codes "\n"))) in
    end ∙ ap (λ (t : List ℕ). t ++ line_end y) begin ∙ line ∙ (λ k. text ++ (related (sym named_a k) row.rel (sym named_b k) ++ codes "\n"))

abbrev text_of : Bor (List ℕ) → List ℕ
text_of name = name.now

abbrev items_of : Vec ℕ Global → List ℕ
items_of end = end.items

-- there are as many ends as names
as_many_ends : (names : List (Bor (List ℕ))) (ends : List (Vec ℕ Global)) → AreEnds (map text_of names) (map items_of ends) → length ends ≡ length names
as_many_ends names ends are =
    sym (length-map ends items_of) ∙ ap length are ∙ length-map (map text_of names) line_end ∙ length-map names text_of

-- an end is that of the name at its place
pub end_there : (names : List (Bor (List ℕ))) (ends : List (Vec ℕ Global)) (b : ℕ) (end : Vec ℕ Global) → AreEnds (map text_of names) (map items_of ends) → b < length names → end ≡ get_or ends b end
    → end.items ≡ line_end (get_or (map text_of names) b [])
end_there names ends b end are lt is =
    let many = as_many_ends names ends are in
    ap items_of is ∙ sym (get_or-map items_of ends b end [] (omega (arith, lt, many))) ∙ ap (λ (texts : List (List ℕ)). get_or texts b []) are
    ∙ get_or-map line_end (map text_of names) b [] [] (omega (arith, lt, length-map names text_of))
