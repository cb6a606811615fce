-- Units make a tree or have a fault, and so does a source.
use Rattle.std.proofs.Common.{◌≡◌, inl, inr, ℕ, true, false, ◌&&◌, List, [], ◌∷◌, ◌++◌, length, refl, append_assoc, append-nil, Some, None}
use Rattle.faults.specs.declared.kind.FaultKind.TheVariants as fault
use Rattle.tml_span.specs.Units.{PlainUnit}
use Rattle.tml_span.specs.Whole.{IsWhole}
use Rattle.tml_span.proofs.CutOrFault.{cut_or_fault}
use Rattle.tml_tree.specs.Plain.{PlainNode}
use Rattle.tml_tree.specs.Nesting.{OpenTag}
use Rattle.tml_tree.specs.Rules.{History, is_nil}
use Rattle.tml_tree.specs.Judging.{HavePassed, after, first_fault, no_history}
use Rattle.tml_tree.specs.Whole.{HaveTreeOrFault, TreeOrFault}
use Rattle.tml_tree.proofs.Passed.{passed_none, passed_not}
use Rattle.tml_tree.proofs.Passing.{passes_on, passed_whole, passed_unclosed}

-- ---- all units

-- where no unit is left, the root was seen whole, or it is not closed
ended : (end : ℕ) (us : List PlainUnit) (tags : List OpenTag) (nodes : List PlainNode) (h : History) → HavePassed us tags nodes h → HaveTreeOrFault end us
ended end us tags nodes h p = elim (is_nil h.names && h.seen) as (λ b. (is_nil h.names && h.seen) ≡ b → HaveTreeOrFault end us) [
  | true ↦ λ e. inl (passed_whole us tags nodes h p e)
  | false ↦ λ e. inr (end, fault.Unclosed, inr (refl, refl, passed_unclosed us tags nodes h p e))
] refl

-- units that pass, and those that follow them
judged_from : (end : ℕ) (rest before : List PlainUnit) (tags : List OpenTag) (nodes : List PlainNode) (h : History) → HavePassed before tags nodes h → HaveTreeOrFault end (before ++ rest)
judged_from end [] before tags nodes h p = rw (append-nil before) (ended end before tags nodes h p)
judged_from end (u ∷ rest) before tags nodes h p = elim (first_fault h u.kind) as (λ f. first_fault h u.kind ≡ f → HaveTreeOrFault end (before ++ u ∷ rest)) [
  | Some kind ↦ λ e. inr (u.start, kind, inl (passed_not before rest u tags nodes h kind p e))
  | None ↦ λ e.
      let next = passes_on before u tags nodes h (after h u.kind) p (e, refl) in
      rw (← append_assoc before (u ∷ []) rest) (judged_from end rest (before ++ u ∷ []) next.0.tags next.0.nodes (after h u.kind) next.1)
] refl

pub all_are_judged : (end : ℕ) (us : List PlainUnit) → HaveTreeOrFault end us
all_are_judged end us = judged_from end us [] [] [] no_history passed_none

-- ---- a source

of_whole : (source : List ℕ) (units : List PlainUnit) → IsWhole (record { source = source; units = units }) → HaveTreeOrFault (length source) units → TreeOrFault source
of_whole source units whole (inl tree) = inl (tree.0, (units, whole, tree.1))
of_whole source units whole (inr fault) = inr (fault.0, fault.1, inr (units, whole, fault.2))

pub every_source : (source : List ℕ) → TreeOrFault source
every_source source = elim (cut_or_fault source) [
  | inl cut ↦ of_whole source cut.0 cut.1 (all_are_judged (length source) cut.0)
  | inr fault ↦ inr (fault.0, fault.1, inl fault.2)
]
