-- The times of a document have one text.
use Rattle.std.proofs.Common.{◌≡◌, ℕ, ℤ, List, [], ◌∷◌, ◌++◌, codes, sym, ap, subst, ◌∙◌}
use Rattle.net_core.specs.declared.bounds.Bounds.{Bounds}
use Rattle.net_core.specs.declared.bounds.Bounds.TheVariants.{Exact, Within, Free}
use Rattle.net_build.proofs.OneNet.{one_interval}
use Rattle.timex_dates.proofs.OneDates.{one_text}
use Rattle.tml_refs.specs.Documents.{PlainInterval, instance, time}
use Rattle.document_answers.specs.Dates.{BoundsText, DateLine, DateLines, EndsText, numbers}

one_ends_text : (lo hi : ℤ) (text other : List ℕ) → EndsText lo hi text → EndsText lo hi other → text ≡ other
one_ends_text lo hi text other h k =
    let from = one_text lo h.0 k.0 h.2 k.2 in
    let to = one_text hi h.1 k.1 h.3 k.3 in
    h.4 ∙ (λ j. numbers lo hi ++ from j ++ codes " " ++ to j) ∙ sym k.4

one_bounds_text : (b : Bounds) (text other : List ℕ) → BoundsText b text → BoundsText b other → text ≡ other
one_bounds_text (Exact lo hi) text other h k = h.2 ∙ ap (λ (ends : List ℕ). codes "exact " ++ ends) (one_ends_text lo hi h.0 k.0 h.1 k.1) ∙ sym k.2
one_bounds_text (Within lo hi) text other h k = h.2 ∙ ap (λ (ends : List ℕ). codes "within " ++ ends) (one_ends_text lo hi h.0 k.0 h.1 k.1) ∙ sym k.2
one_bounds_text Free text other h k = h ∙ sym k

one_date_line : (v : PlainInterval) (line other : List ℕ) → DateLine v line → DateLine v other → line ≡ other
one_date_line (instance name) line other h k = h ∙ sym k
one_date_line (time t) line other h k =
    let bounds = one_interval (time t) h.0 k.0 h.2 k.2 in
    let text = one_bounds_text k.0 h.1 k.1 (subst (λ (b : Bounds). BoundsText b h.1) bounds h.3) k.3 in
    h.4 ∙ (λ j. t.name ++ codes " " ++ text j ++ codes "\n") ∙ sym k.4

pub one_date_lines : (vs : List PlainInterval) (out text : List ℕ) → DateLines vs out → DateLines vs text → out ≡ text
one_date_lines [] out text h k = h ∙ sym k
one_date_lines (v ∷ vs) out text h k =
    let here = one_date_line v h.0 k.0 h.2 k.2 in
    let later = one_date_lines vs h.1 k.1 h.3 k.3 in
    h.4 ∙ (λ j. here j ++ later j) ∙ sym k.4
