-- Which base relations two intervals can have has one answer.
use Rattle.std.proofs.Common.{◌≡◌, inl, inr, ℕ, List, codes, refl, sym, ap, subst, ◌∙◌, arith}
use Rattle.std.specs.Prelude.{⊤}
use Rattle.answers.specs.Names.{NamesOne}
use Rattle.answers.proofs.Contents.{its_document}
use Rattle.tml_refs.proofs.NamedIntervals.{named_or_not}
use Rattle.clash.specs.Closures.{IsClosureOf}
use Rattle.clash.proofs.Answered.{closed_net}
use Rattle.net_answers.specs.Nets.{ClashIsFree, of_net}
use Rattle.net_answers.proofs.Nets.{but_clashes_answered, named_within, net_answered}
use Rattle.net_core.specs.Entailment.{AreIntervals, HasTimeline}
use Rattle.net_core.specs.Fits.{Fits}
use Rattle.net_core.specs.Nets.{IsNet, PlainNet, points}
use Rattle.order_closure.specs.Tables.{AreCellsKept, Keeps, Table}
use Rattle.possible_answers.specs.Possible.{IsItemsText, OfPossible, ReportsUnknownName, items_text, of_intervals, possible_rows}
use Rattle.tml_accept.specs.Acceptance.{Says}
use Rattle.tml_possible.specs.Possible.{AreShown}
use Rattle.tml_possible.proofs.Deciding.{every_item}
use Rattle.tml_possible.proofs.OneList.{one_item_list, shown_by}
use Rattle.tml_refs.specs.Documents.{IsNamed, PlainDocument}
use Rattle.runs.specs.declared.status.Status.{Status}
use Rattle.runs.specs.declared.status.Status.TheVariants.{Clash, Done, UnknownName}
use Rattle.runs.proofs.Answering.{Answer, AreAnswered, IsAnswered, by_the_one, left_only, one_answer, recast, right_only}

-- the items of the closure are those of the net
pub shows_items : (contents : PlainDocument) (net : PlainNet) (table : Table) (a b : ℕ) (text : List ℕ) → IsClosureOf net table → IsItemsText table a b text → of_intervals a b contents net Done text
shows_items contents net table a b text closure (items, shown, is) =
    let by_net = shown_by table.points (Keeps table) a b (Fits net) closure.keeps items shown in
    (items, subst (λ (n : ℕ). AreShown n (Fits net) a b items) closure.size by_net, is)

-- ---- the words

named_or_unknown : (contents : PlainDocument) (x y text : List ℕ) → NamesOne contents x → NamesOne contents y → ReportsUnknownName contents x y text → ⊥
named_or_unknown contents x y text first second (inl h) = h.0 first.0 first.1
named_or_unknown contents x y text first second (inr h) = h.1 second.0 second.1

one_unknown : (contents : PlainDocument) (x y text line : List ℕ) → ReportsUnknownName contents x y text → ReportsUnknownName contents x y line → text ≡ line
one_unknown contents x y text line (inl h) (inl k) = h.1 ∙ sym k.1
one_unknown contents x y text line (inl h) (inr k) = absurd (h.0 k.0.0 k.0.1)
one_unknown contents x y text line (inr h) (inl k) = absurd (k.0 h.0.0 h.0.1)
one_unknown contents x y text line (inr h) (inr k) = h.2 ∙ sym k.2

-- ---- by the numbers of the intervals

done : (a b : ℕ) (contents : PlainDocument) (net : PlainNet) (status : Status) (text : List ℕ) → of_intervals a b contents net status text → status ≡ Done
done a b contents net Done text h = refl
done a b contents net status text h = absurd h

one_text : (a b : ℕ) (contents : PlainDocument) (net : PlainNet) (text line : List ℕ) → of_intervals a b contents net Done text → of_intervals a b contents net Done line → text ≡ line
one_text a b contents net text line (items, shown, is) (others, too, are) = is ∙ ap items_text (one_item_list (points net) (Fits net) a b items others shown too) ∙ sym are

-- where some timeline fits
of_numbers : (a b : ℕ) (contents : PlainDocument) (net : PlainNet) → IsNet net → HasTimeline net → AreIntervals net a b → IsAnswered ⊤ (of_intervals a b contents net) (λ status. status ≡ Clash)
of_numbers a b contents net is fits both =
    let (cell, closed, same) = closed_net net is fits.0 fits.1 in
    let (items, shown) = every_item (points net) cell closed a b (omega (arith, both.0)) (omega (arith, both.1)) in
    one_answer (of_intervals a b contents net) (λ status. status ≡ Clash) Done refl (done a b contents net) (λ text line determined h k. one_text a b contents net text line h k)
    (items_text items) (items, shown_by (points net) (AreCellsKept (points net) cell) a b (Fits net) same items shown, refl)

-- ---- by the words

module _ (x y doc : List ℕ) (contents : PlainDocument) (says : Says doc contents) where
  -- a word that names no interval is reported, or both name one
  abbrev Unknown : Answer
  Unknown status text = (status ≡ UnknownName) × ReportsUnknownName contents x y text

  abbrev Known : Answer
  Known status text = (a : ℕ) × (b : ℕ) × IsNamed contents.intervals x a × IsNamed contents.intervals y b × of_net (of_intervals a b) contents status text

  abbrev AreNamed : ℕ × ℕ → Type 0
  AreNamed asked = IsNamed contents.intervals x asked.0 × IsNamed contents.intervals y asked.1

  -- the words name one pair of intervals
  one_pair : (asked other : ℕ × ℕ) → AreNamed asked → AreNamed other → asked ≡ other
  one_pair asked other h k =
      let is = its_document doc contents says in
      let left = is.distinct x asked.0 other.0 h.0 k.0 in
      let right = is.distinct y asked.1 other.1 h.1 k.1 in
      λ i. (left i, right i)

  of_unknown : (text : List ℕ) → ReportsUnknownName contents x y text → IsAnswered ⊤ (OfPossible x y contents) (λ status. status ≡ Clash)
  of_unknown text reports = left_only
      (one_answer Unknown (λ status. status ≡ Clash) UnknownName refl (λ status line h. h.0) (λ line other determined h k. one_unknown contents x y line other h.1 k.1) text (refl, reports))
      Known (λ status line h. named_or_unknown contents x y text (h.0, h.2) (h.1, h.3) reports)

  of_known : (a : ℕ) → IsNamed contents.intervals x a → (b : ℕ) → IsNamed contents.intervals y b → IsAnswered ⊤ (OfPossible x y contents) (λ status. status ≡ Clash)
  of_known a first b second =
      let of_pair = net_answered (of_intervals a b) (λ status. status ≡ Clash) doc contents says (λ net built none. refl) (λ net built is fits.
      of_numbers a b contents net is fits (named_within contents net x a built first, named_within contents net y b built second)) in
      let of_words = by_the_one AreNamed one_pair (λ asked. of_net (of_intervals asked.0 asked.1) contents) (a, b) (first, second) of_pair in
      right_only (recast of_words Known (λ status text h. (h.0.0, h.0.1, h.1.0, h.1.1, h.2)) (λ status text h. ((h.0, h.1), (h.2, h.3), h.4)))
      Unknown (λ status text h. named_or_unknown contents x y text (a, first) (b, second) h.1)

  items : IsAnswered ⊤ (OfPossible x y contents) (λ status. status ≡ Clash)
  items = elim (named_or_not contents.intervals x) [
    | no none ↦ of_unknown (codes "unknown X\n") (inl (λ i named. none (i, named), refl))
    | yes first ↦ elim (named_or_not contents.intervals y) [
      | no none ↦ of_unknown (codes "unknown Y\n") (inr (first, λ i named. none (i, named), refl))
      | yes second ↦ of_known first.0 first.1 second.0 second.1
    ]
  ]

-- all texts but that of a clash are determined
pub possible_answered : (name x y : List ℕ) → AreAnswered (possible_rows name x y) ClashIsFree
possible_answered name x y = but_clashes_answered (OfPossible x y) (λ doc contents says. items x y doc contents says) name
