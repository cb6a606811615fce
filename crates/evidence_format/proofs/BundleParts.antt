-- Lines are begun by the parts of version 2 exactly where they begin a text of version 2.
use Rattle.std.proofs.Common.{◌≡◌, ◌↔◌, inl, inr, ℕ, [], ◌∷◌, ◌++◌, length, refl, sym, ap, subst, ◌∙◌, append_assoc}
use Rattle.std.specs.List.{flat_map}
use Rattle.std.proofs.lemmas.List.{append-nil}
use Rattle.std.proofs.lemmas.List.Elements.{All-from_recursion, recursion_from_All}
use Rattle.line_texts.specs.Lines.{Lines, last_line}
use Rattle.line_texts.specs.Grammar.{Begins}
use Rattle.evidence_format.specs.Evidence.{timeline, IsWellFormed, body_lines}
use Rattle.evidence_format.specs.Parts.{IsBegunBody}
use Rattle.evidence_format.specs.Bundles.{IsCount, bundle_line, claims_line, IsBegunBundle, IsBegunBundleByParts}
use Rattle.line_texts.proofs.ReaderLaws.{AreMany}
use Rattle.evidence_format.proofs.BundleLaws.{one_claim}
use Rattle.line_texts.proofs.PartLaws.{prefix_cons, closed_prefix, many_prefix, many_begin}
use Rattle.evidence_format.proofs.PartLaws.{body_prefix, body_begins, no_intervals}

-- lines that begin a text of version 2 are begun by its parts
begun_by_parts : (ls : Lines) → IsBegunBundle ls → IsBegunBundleByParts ls
begun_by_parts ls (es, more, h) =
    elim (prefix_cons ls more bundle_line (claims_line (length es) ∷ (flat_map body_lines es ++ last_line ∷ [])) h.1) [
      | inl none ↦ inl none
      | inr m ↦ elim (prefix_cons m.0 more (claims_line (length es)) (flat_map body_lines es ++ last_line ∷ []) m.2) [
        | inl none ↦ inr (inl (m.1 ∙ ap (λ (x : Lines). bundle_line ∷ x) none))
        | inr b ↦
            let start = m.1 ∙ ap (λ (x : Lines). bundle_line ∷ x) b.1 in
            elim (closed_prefix b.0 more (flat_map body_lines es) b.2) [
              | inl k ↦ inr (inr (inl (length es, b.0, h.0.1, many_prefix IsWellFormed body_lines IsBegunBody body_prefix es b.0 k.0 (recursion_from_All IsWellFormed es h.0.0) k.1, start)))
              | inr all ↦ inr (inr (inr (es, h.0, start ∙ ap (λ (x : Lines). bundle_line ∷ claims_line (length es) ∷ x) all)))
            ]
      ]
    ]

-- after the first two lines, bodies that can go on to this number go on to a text
bodies_begin : (n : ℕ) (ls rest : Lines) → IsCount n → ls ≡ bundle_line ∷ claims_line n ∷ rest → Begins (AreMany IsWellFormed body_lines n) rest → IsBegunBundle ls
bodies_begin n ls rest count start b =
    let m = b.2 in
    let es = b.0 in
    let whole : ls ++ (b.1 ++ last_line ∷ []) ≡ bundle_line ∷ claims_line n ∷ (flat_map body_lines es ++ last_line ∷ []) =
    ap (λ (x : Lines). x ++ (b.1 ++ last_line ∷ [])) start ∙ ap (λ (x : Lines). bundle_line ∷ claims_line n ∷ x) (sym (append_assoc rest b.1 (last_line ∷ [])) ∙ ap (λ (x : Lines). x ++ last_line ∷ []) m.2) in
    (es, b.1 ++ last_line ∷ [], ((All-from_recursion IsWellFormed es m.0, subst IsCount (sym m.1) count), whole ∙ ap (λ (k : ℕ). bundle_line ∷ claims_line k ∷ (flat_map body_lines es ++ last_line ∷ [])) (sym m.1)))

-- one timeline of no intervals, as the only body
one_body : AreMany IsWellFormed body_lines 1 (timeline [] ∷ []) (flat_map body_lines (timeline [] ∷ []))
one_body = ((no_intervals, tt), refl, refl)

-- the first lines of a text begin one
prefix_begins : (ls more : Lines) → IsBegunBundle (ls ++ more) → IsBegunBundle ls
prefix_begins ls more h = (h.0, more ++ h.1, (h.2.0, sym (append_assoc ls more h.1) ∙ h.2.1))

-- a text of one body begins
one_begins : IsBegunBundle (bundle_line ∷ claims_line 1 ∷ [])
one_begins = bodies_begin 1 (bundle_line ∷ claims_line 1 ∷ []) [] one_claim refl (timeline [] ∷ [], flat_map body_lines (timeline [] ∷ []), one_body)

-- lines that are begun by the parts of version 2 begin a text of it
parts_begin : (ls : Lines) → IsBegunBundleByParts ls → IsBegunBundle ls
parts_begin ls (inl none) = subst IsBegunBundle (sym none) (prefix_begins [] (bundle_line ∷ claims_line 1 ∷ []) one_begins)
parts_begin ls (inr (inl first)) = subst IsBegunBundle (sym first) (prefix_begins (bundle_line ∷ []) (claims_line 1 ∷ []) one_begins)
parts_begin ls (inr (inr (inl p))) = bodies_begin p.0 ls p.1 p.2 p.4 (many_begin IsWellFormed body_lines IsBegunBody (timeline []) no_intervals body_begins p.0 p.1 p.3)
parts_begin ls (inr (inr (inr w))) = (w.0, [], (w.1, append-nil ls ∙ w.2))

-- both definitions of begun lines are one
pub same_begun_bundle : (ls : Lines) → IsBegunBundleByParts ls ↔ IsBegunBundle ls
same_begun_bundle ls = (parts_begin ls, begun_by_parts ls)
