-- The bodies of claims, as they stand in a text.
use Rattle.std.proofs.Common.{◌≡◌, ℕ, ◌+◌, ◌-◌, ◌≤◌, List, ◌++◌, length, take, Ok, sym, ap, ◌∙◌, append_assoc, length-append, refl, arith}
use Rattle.std.specs.List.{concat, flat_map}
use Rattle.std.proofs.lemmas.List.Concat.{flat_map-append}
use Rattle.line_texts.specs.Lines.{lines_of, last_line}
use Rattle.evidence_format.specs.Evidence.{PlainEvidence, IsWellFormed, body_lines}
use Rattle.evidence_format.specs.Bundles.{AreBodies, AreClaims, IsBundleText, bundle_line, claims_line}
use Rattle.evidence_format.specs.declared.bodies.Bodies.{Bodies}
use Rattle.line_texts.specs.Reading.{many_at, end_at}
use Rattle.evidence_format.specs.Readers.{body_at, opening_at, bundle_at}
use Rattle.evidence_format.proofs.BodyLaws.{exact_body}
use Rattle.line_texts.proofs.LineLaws.{concat_append, cut_before}
use Rattle.line_texts.proofs.ReaderLaws.{exact_many}
use Rattle.evidence_format.proofs.Writing.{bodies_text}

-- bodies that are read are the bytes before what follows them
pub bodies_cut : (n : ℕ) (text rest : List ℕ) (es : List PlainEvidence) → many_at body_at n (lines_of text) ≡ Ok (es, lines_of rest)
    → (length es ≡ n) × (length rest ≤ length text) × (take (length text - length rest) text ≡ concat (flat_map body_lines es))
bodies_cut n text rest es read =
    let found = (exact_many IsWellFormed body_lines body_at exact_body n).found (lines_of text) (lines_of rest) es read in
    let cut = cut_before text rest found.0 found.2 in
    (found.1.1, cut.0, cut.1 ∙ ap concat found.1.2)

-- bodies between the lines before them and the last line are those of a whole text
pub bodies_read : (text bodies rest : List ℕ) (n : ℕ) (es : List PlainEvidence) → opening_at (lines_of text) ≡ Ok (n, lines_of bodies) → many_at body_at n (lines_of bodies) ≡ Ok (es, lines_of rest)
    → end_at (lines_of rest) ≡ Ok tt → bundle_at (lines_of text) ≡ Ok es
unfolding bundle_at
bodies_read text bodies rest n es opening read end = rw (opening, read, end) refl

-- the bodies of claims, and those of others after them, with the lines around them are the text of all
pub text_of_both : (es ds : List PlainEvidence) (first second : Bodies) (out : List ℕ) → AreClaims (es ++ ds) → AreBodies es first → AreBodies ds second
    → out ≡ bundle_line ++ (claims_line (first.count + second.count) ++ (first.text.now ++ (second.text.now ++ last_line))) → IsBundleText (es ++ ds) out
text_of_both es ds first second out are h k bytes =
    let bodies : first.text.now ++ second.text.now ≡ concat (flat_map body_lines (es ++ ds)) =
    rw (h.1, k.1) (sym (concat_append (flat_map body_lines es) (flat_map body_lines ds)) ∙ ap concat (sym (flat_map-append body_lines es ds))) in
    let grouped = ap (λ (x : List ℕ). bundle_line ++ (claims_line (first.count + second.count) ++ x)) (sym (append_assoc first.text.now second.text.now last_line)) in
    bodies_text (es ++ ds) (first.text.now ++ second.text.now) out (first.count + second.count) are (omega (arith, length-append es ds, h.0, k.0)) bodies (bytes ∙ grouped)
