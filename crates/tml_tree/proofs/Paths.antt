-- Laws of paths.
use Rattle.std.proofs.Common.{◌≡◌, ℕ, Bool, true, List, [], ◌∷◌, ◌++◌, map, refl, sym, ap, subst, ◌∙◌, Some, None}
use Rattle.std.specs.List.{filter}
use Rattle.faults.specs.First.{NoneBreaks}
use Rattle.faults.specs.declared.kind.FaultKind.{FaultKind}
use Rattle.faults.proofs.First.{none_breaks_more}
use Rattle.tml_span.specs.Units.{PlainUnit}
use Rattle.tml_tree.specs.Plain.{PlainNode}
use Rattle.tml_tree.specs.Nesting.{OpenTag, Nests, open_name, is_seen, is_element}
use Rattle.tml_tree.specs.Rules.{history_of, is_at_fault}
use Rattle.tml_tree.specs.Judging.{first_fault}
use Rattle.tml_tree.specs.Trees.{BreaksUnitRule, Path, Document, UnitFaultAt, OneTree}
use Rattle.tml_tree.specs.Whole.{OneTreeOfSource}
use Rattle.tml_span.proofs.OneCut.{one_cut_from}
use Rattle.tml_tree.proofs.FirstFaults.{no_fault, has_fault, is_least}
use Rattle.tml_tree.proofs.Running.{one_nesting}

-- ---- a list has at most one path

pub one_nests : (us : List PlainUnit) (names others : List (List ℕ)) (seen was : Bool) → Nests us names seen → Nests us others was → (names ≡ others) × (seen ≡ was)
one_nests us names others seen was h k =
    let e = one_nesting us h.0 k.0 h.1 k.1 h.2 k.2 in
    (h.3 ∙ ap (λ (ts : List OpenTag). map open_name ts) e.0 ∙ sym k.3, h.4 ∙ ap (λ (p : List OpenTag × List PlainNode). is_seen p.0 p.1) (λ i. (e.0 i, e.1 i)) ∙ sym k.4)

pub one_path : (us : List PlainUnit) (names others : List (List ℕ)) (seen was : Bool) → Path us names seen → Path us others was → (names ≡ others) × (seen ≡ was)
one_path us names others seen was h k = one_nests us names others seen was h.0 k.0

-- ---- one more unit

-- a unit that breaks a rule is at fault, in whichever way the units before it nest
fault_by : (us : List PlainUnit) (u : PlainUnit) (names : List (List ℕ)) (seen : Bool) → Nests us names seen → (kind : FaultKind) → BreaksUnitRule kind us u → is_at_fault kind (history_of us names seen) u.kind ≡ true
fault_by us u names seen h kind b =
    let same = one_nests us names b.0 seen b.1 h b.2 in
    ap (λ (q : List (List ℕ) × Bool). is_at_fault kind (history_of us q.0 q.1) u.kind) (λ i. (same.0 i, same.1 i)) ∙ b.3

module _ (us : List PlainUnit) (u : PlainUnit) (names : List (List ℕ)) (seen : Bool) (path : Path us names seen) where
  -- after units that have a path, a unit with a fault is the first that breaks a rule
  pub fault_at : (rest : List PlainUnit) (kind : FaultKind) → first_fault (history_of us names seen) u.kind ≡ Some kind → UnitFaultAt (us ++ u ∷ rest) u.start kind
  fault_at rest kind e = record {
    before = us;
    element = u;
    after = rest;
    whole = refl;
    none_before = path.1;
    broken = (names, seen, path.0, has_fault (history_of us names seen) u.kind kind e);
    least = λ other b. is_least (history_of us names seen) u.kind kind other e (fault_by us u names seen path.0 other b);
    place_is = refl;
  }

  -- and with a unit that has none they break no rule
  pub lawful_more : first_fault (history_of us names seen) u.kind ≡ None → NoneBreaks BreaksUnitRule (us ++ u ∷ [])
  lawful_more e = none_breaks_more BreaksUnitRule us u path.1 (λ kind b.
      let here = fault_by us u names seen path.0 kind b in
      let not_here = no_fault (history_of us names seen) u.kind e kind in
      absurd cc)

-- ---- units make one tree, and so does a source

same_head : {A : Type 0} {x y : A} → x ∷ [] ≡ y ∷ [] → x ≡ y
same_head e = cc

pub one_tree : OneTree
one_tree = λ us root other h k.
    let e = (one_nesting us [] [] h.1.0 k.1.0 h.1.1 k.1.1).1 in
    same_head (sym h.1.2 ∙ ap (λ (ns : List PlainNode). filter is_element ns) e ∙ k.1.2)

pub one_tree_of_source : OneTreeOfSource
one_tree_of_source = λ source root other h k.
    let e = (one_cut_from 0 source h.0 k.0 [] [] h.1.1 k.1.1).0 in
    one_tree k.0 root other (subst (λ (us : List PlainUnit). Document root us) e h.2) k.2
