-- Whether a relation holds has one answer: one status, and one text, but for which walks prove a relation and which clash is printed.
use Rattle.std.proofs.Common.{◌≡◌, ◌⊎◌, ℕ, List, codes, refl, sym, ◌∙◌, inl, inr, Option, Some, None}
use Rattle.std.specs.Prelude.{⊤}
use Rattle.answers.proofs.Answered.{contents_answered}
use Rattle.answers.proofs.Contents.{its_document}
use Rattle.tml_refs.proofs.NamedIntervals.{named_or_not}
use Rattle.answers.specs.Documents.{doc_file, of_contents, of_its_contents}
use Rattle.named.specs.Texts.{NoneHas, named_of}
use Rattle.named.proofs.Tables.{found_has, none_has, texts_tell}
use Rattle.net_answers.specs.Nets.{of_net}
use Rattle.net_answers.proofs.Nets.{named_within, net_answered}
use Rattle.net_core.specs.Entailment.{Follows}
use Rattle.net_core.specs.Nets.{PlainNet}
use Rattle.net_core.specs.Rels.{all_rels, rel_text}
use Rattle.net_core.specs.declared.rels.Rel.{Rel}
use Rattle.net_core.proofs.RelLaws.{rels_apart}
use Rattle.tml_accept.specs.Acceptance.{Says}
use Rattle.tml_refs.specs.Documents.{PlainDocument}
use Rattle.runs.specs.declared.status.Status.{Status}
use Rattle.runs.specs.declared.status.Status.TheVariants.{Done, UnknownName}
use Rattle.runs.proofs.Answering.{Answer, AreAnswered, IsAnswered, by_the_one, left_only, one_answer, recast, right_only}
use Rattle.runs.proofs.OneFile.{answered}
use Rattle.order_answers.specs.Ask.{AskIsFree, IsFreeAsk, IsRelation, Name, OfAsk, OfRelation, ReportsUnknown, ask_rows, of_numbers}
use Rattle.order_answers.proofs.Fitting.{some_answer}
use Rattle.order_answers.proofs.OneCounterexample.{one_counterexample}

-- ---- the words

-- if each word names something, none is reported
named_or_unknown : (contents : PlainDocument) (x rel y text : List ℕ) (a : ℕ) (r : Rel) (b : ℕ) → Name contents x rel y a r b → ReportsUnknown contents x rel y text → ⊥
named_or_unknown contents x rel y text a r b name (inl h) = h.0 a name.first
named_or_unknown contents x rel y text a r b name (inr (inl h)) = h.1 r name.relation
named_or_unknown contents x rel y text a r b name (inr (inr h)) = h.2 b name.second

-- one word is the first that names nothing
one_unknown : (contents : PlainDocument) (x rel y text line : List ℕ) → ReportsUnknown contents x rel y text → ReportsUnknown contents x rel y line → text ≡ line
one_unknown contents x rel y text line (inl h) (inl k) = h.1 ∙ sym k.1
one_unknown contents x rel y text line (inl h) (inr (inl k)) = absurd (h.0 k.0.0 k.0.1)
one_unknown contents x rel y text line (inl h) (inr (inr k)) = absurd (h.0 k.0.0 k.0.1)
one_unknown contents x rel y text line (inr (inl h)) (inl k) = absurd (k.0 h.0.0 h.0.1)
one_unknown contents x rel y text line (inr (inl h)) (inr (inl k)) = h.2 ∙ sym k.2
one_unknown contents x rel y text line (inr (inl h)) (inr (inr k)) = absurd (h.1 k.1.0 k.1.1)
one_unknown contents x rel y text line (inr (inr h)) (inl k) = absurd (k.0 h.0.0 h.0.1)
one_unknown contents x rel y text line (inr (inr h)) (inr (inl k)) = absurd (k.1 h.1.0 h.1.1)
one_unknown contents x rel y text line (inr (inr h)) (inr (inr k)) = h.3 ∙ sym k.3

-- a relation has this text, or none has
relation_or_none : (text : List ℕ) → IsRelation text ⊎ NoneHas rel_text text
relation_or_none text = by (named_of rel_text all_rels text) refl
  where
    by : (found : Option Rel) → found ≡ named_of rel_text all_rels text → IsRelation text ⊎ NoneHas rel_text text
    by (Some r) is = inl (r, found_has rel_text all_rels text r (sym is))
    by None is = inr ((none_has rel_text all_rels text rels_apart None is).0 refl)

-- ---- by the numbers of the intervals

done : (a : ℕ) (r : Rel) (b : ℕ) (net : PlainNet) (status : Status) (text : List ℕ) → OfRelation a r b net status text → status ≡ Done
done a r b net Done text h = refl
done a r b net status text h = absurd h

-- one text if the relation does not follow
one_text : (net : PlainNet) (a : ℕ) (r : Rel) (b : ℕ) (text line : List ℕ) → (Follows net a r b → ⊥) → OfRelation a r b net Done text → OfRelation a r b net Done line → text ≡ line
one_text net a r b text line fails h (inl proof) = absurd (fails proof.2.2)
one_text net a r b text line fails h (inr example) = one_counterexample net a r b text line h example

-- ---- by the words

module _ (x rel y doc : List ℕ) (contents : PlainDocument) (says : Says doc contents) where
  -- a word that names nothing is reported, or all name something
  abbrev Unknown : Answer
  Unknown status text = (status ≡ UnknownName) × ReportsUnknown contents x rel y text

  abbrev Known : Answer
  Known status text = (a : ℕ) × (r : Rel) × (b : ℕ) × Name contents x rel y a r b × of_net (of_numbers a r b) contents status text

  abbrev IsFree : Status → Type 0
  IsFree = IsFreeAsk x rel y contents

  abbrev AreNamed : ℕ × Rel × ℕ → Type 0
  AreNamed asked = Name contents x rel y asked.0 asked.1 asked.2

  -- the words name one relation between two intervals
  one_name : (asked other : ℕ × Rel × ℕ) → AreNamed asked → AreNamed other → asked ≡ other
  one_name asked other h k =
      let is = its_document doc contents says in
      let first = is.distinct x asked.0 other.0 h.first k.first in
      let relation = texts_tell rel_text all_rels asked.1 other.1 rels_apart (h.relation ∙ sym k.relation) in
      let second = is.distinct y asked.2 other.2 h.second k.second in
      λ i. (first i, relation i, second i)

  of_unknown : (text : List ℕ) → ReportsUnknown contents x rel y text → IsAnswered ⊤ (OfAsk x rel y contents) IsFree
  of_unknown text reports = left_only
      (one_answer Unknown IsFree UnknownName refl (λ status line h. h.0) (λ line other determined h k. one_unknown contents x rel y line other h.1 k.1) text (refl, reports))
      Known (λ status line h. named_or_unknown contents x rel y text h.0 h.1 h.2 h.3 reports)

  of_known : (a : ℕ) (r : Rel) (b : ℕ) → Name contents x rel y a r b → IsAnswered ⊤ (OfAsk x rel y contents) IsFree
  of_known a r b name =
      let of_name = net_answered (of_numbers a r b) IsFree doc contents says (λ net built none. inl refl) (λ net built is fits.
      let answer = some_answer net is fits a r b (named_within contents net x a built name.first, named_within contents net y b built name.second) in
      one_answer (OfRelation a r b net) IsFree Done refl (done a r b net)
      (λ text line determined. one_text net a r b text line (λ follows. determined (inr (refl, (net, a, r, b, built, name, follows))))) answer.0 answer.1) in
      let of_words = by_the_one AreNamed one_name (λ asked. of_net (of_numbers asked.0 asked.1 asked.2) contents) (a, r, b) name of_name in
      right_only (recast of_words Known (λ status text h. (h.0.0, h.0.1, h.0.2, h.1, h.2)) (λ status text h. ((h.0, h.1, h.2), h.3, h.4)))
      Unknown (λ status text h. named_or_unknown contents x rel y text a r b name h.1)

  asks : IsAnswered ⊤ (OfAsk x rel y contents) IsFree
  asks = elim (named_or_not contents.intervals x) [
    | no none ↦ of_unknown (codes "unknown X\n") (inl (λ i named. none (i, named), refl))
    | yes first ↦ elim (relation_or_none rel) [
      | inr none ↦ of_unknown (codes "unknown REL\n") (inr (inl (first, none, refl)))
      | inl is ↦ elim (named_or_not contents.intervals y) [
        | no none ↦ of_unknown (codes "unknown Y\n") (inr (inr (first, is, λ i named. none (i, named), refl)))
        | yes second ↦ of_known first.0 is.0 second.0 (record { first = first.1; relation = is.1; second = second.1 })
      ]
    ]
  ]

-- all texts but that of a clash and that of a proof are determined
pub ask_answered : (name x rel y : List ℕ) → AreAnswered (ask_rows name x rel y) (AskIsFree x rel y)
ask_answered name x rel y = answered (doc_file name) (of_contents (OfAsk x rel y)) (of_its_contents (IsFreeAsk x rel y))
    (contents_answered (OfAsk x rel y) (IsFreeAsk x rel y) (λ doc contents says. asks x rel y doc contents says))
