-- Units have one answer.
use Rattle.std.proofs.Common.{◌≡◌, ℕ, List, [], length, refl, sym, subst, ◌∙◌, inl, inr}
use Rattle.faults.specs.declared.kind.FaultKind.{FaultKind}
use Rattle.faults.specs.Kinds.{number_of}
use Rattle.faults.proofs.First as first
use Rattle.faults.proofs.Numbered.{kinds_are_numbered}
use Rattle.tml_span.specs.Units.{PlainUnit}
use Rattle.tml_span.specs.Whole.{IsWhole}
use Rattle.tml_span.proofs.Excluding.{one_faults}
use Rattle.tml_span.proofs.OneCut.{one_cut_from}
use Rattle.tml_tree.specs.Plain.{PlainNode}
use Rattle.tml_tree.specs.Trees.{BreaksUnitRule, Document, start_of, OneTreeAnswers, PathEnds}
use Rattle.tml_tree.specs.Whole.{FaultOf, IsTreeOf, SourceFaultAt, OneSourceAnswers}

pub path_ends : PathEnds
path_ends = λ us place kind f. ((f.broken.0, f.broken.1, (f.broken.2, f.none_before)), λ h. h.2.1 f.before [] f.element kind refl f.broken)

pub one_answer : OneTreeAnswers
one_answer = λ us. record {
  tree_or_fault = λ root place kind d f. first.none_or_fault BreaksUnitRule number_of start_of us place kind d.0.1 f;
  tree_or_unclosed = λ root d n. n.1 d.0;
  fault_or_unclosed = λ place kind f n. first.none_or_fault BreaksUnitRule number_of start_of us place kind n.0.2.1 f;
  one_fault = first.one_fault BreaksUnitRule number_of start_of kinds_are_numbered us;
}

-- ---- of a source

one_of_units : (end : ℕ) (us : List PlainUnit) (place other : ℕ) (kind same : FaultKind) → FaultOf end us place kind → FaultOf end us other same → (place ≡ other) × (kind ≡ same)
one_of_units end us place other kind same (inl f) (inl g) = (one_answer us).one_fault place other kind same f g
one_of_units end us place other kind same (inl f) (inr g) = absurd ((one_answer us).fault_or_unclosed place kind f g.2)
one_of_units end us place other kind same (inr f) (inl g) = absurd ((one_answer us).fault_or_unclosed other same g f.2)
one_of_units end us place other kind same (inr f) (inr g) = (f.1 ∙ sym g.1, f.0 ∙ sym g.0)

no_fault : (end : ℕ) (us : List PlainUnit) (root : PlainNode) (place : ℕ) (kind : FaultKind) → Document root us → FaultOf end us place kind → ⊥
no_fault end us root place kind d (inl f) = (one_answer us).tree_or_fault root place kind d f
no_fault end us root place kind d (inr f) = (one_answer us).tree_or_unclosed root d f.2

same_units : (source : List ℕ) (us vs : List PlainUnit) → IsWhole (record { source = source; units = us }) → IsWhole (record { source = source; units = vs }) → us ≡ vs
same_units source us vs h k = (one_cut_from 0 source us vs [] [] h.1 k.1).0

tree_or_fault : (source : List ℕ) (root : PlainNode) (place : ℕ) (kind : FaultKind) → IsTreeOf source root → SourceFaultAt source place kind → ⊥
tree_or_fault source root place kind t (inl f) = (one_faults source).whole_or_fault t.0 place kind t.1 f
tree_or_fault source root place kind t (inr f) = no_fault (length source) f.0 root place kind (subst (λ (us : List PlainUnit). Document root us) (same_units source t.0 f.0 t.1 f.1) t.2) f.2

one_source_fault : (source : List ℕ) (place other : ℕ) (kind same : FaultKind) → SourceFaultAt source place kind → SourceFaultAt source other same → (place ≡ other) × (kind ≡ same)
one_source_fault source place other kind same (inl f) (inl g) = (one_faults source).one_fault place other kind same f g
one_source_fault source place other kind same (inl f) (inr g) = absurd ((one_faults source).whole_or_fault g.0 place kind g.1 f)
one_source_fault source place other kind same (inr f) (inl g) = absurd ((one_faults source).whole_or_fault f.0 other same f.1 g)
one_source_fault source place other kind same (inr f) (inr g) =
    one_of_units (length source) g.0 place other kind same (subst (λ (us : List PlainUnit). FaultOf (length source) us place kind) (same_units source f.0 g.0 f.1 g.1) f.2) g.2

pub one_source_answer : OneSourceAnswers
one_source_answer = λ source. record { tree_or_fault = tree_or_fault source; one_fault = one_source_fault source }
