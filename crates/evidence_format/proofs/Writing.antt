-- The bytes that are written are those of the lines.
use Rattle.std.proofs.Common.{◌≡◌, ℕ, List, [], ◌∷◌, ◌++◌, length, map, refl, sym, ap, subst, ◌∙◌}
use Rattle.std.specs.Prelude.{codes}
use Rattle.std.specs.List.{All, concat, flat_map}
use Rattle.std.proofs.lemmas.List.{length-map}
use Rattle.net_core.specs.declared.step.Step.{Step}
use Rattle.evidence_format.specs.declared.evidence.Evidence.{Evidence}
use Rattle.evidence_format.specs.View.{plain}
use Rattle.evidence_format.specs.Evidence.{PlainEvidence, timeline, entails, counter, clash, IsWellFormed, at_line, timeline_lines, step_line, walk_lines, cite_line, body_lines, text_lines, first_line}
use Rattle.line_texts.specs.Numbers.{one_number}
use Rattle.line_texts.specs.Lines.{last_line}
use Rattle.evidence_format.specs.Bundles.{AreClaims, IsBundleText, IsCount, bundle_line, claims_line, bundle_lines}
use Rattle.evidence_format.specs.Written.{timeline_bytes, walk_bytes, body_bytes}
use Rattle.line_texts.proofs.LineLaws.{concat_append, mapped, joined, flat}

-- a timeline, joined
timeline_is : (ranks : List (ℕ × ℕ)) → concat (timeline_lines ranks) ≡ timeline_bytes ranks
timeline_is ranks = rw (mapped at_line ranks) refl

-- a walk, joined
walk_is : (steps : List Step) → concat (walk_lines steps) ≡ walk_bytes steps
walk_is steps = rw (mapped step_line steps) refl

-- what stands between the first line and the last one, joined
body_is : (e : PlainEvidence) → concat (body_lines e) ≡ body_bytes e
body_is (timeline ranks) = timeline_is ranks
body_is (entails a r b walks) = rw (flat walk_lines walk_bytes walk_is walks) refl
body_is (counter a r b ranks) = rw (timeline_is ranks) refl
body_is (clash cites walk spares) =
    let proof = joined (walk_lines walk) (flat_map timeline_lines spares) (walk_bytes walk) (flat_map timeline_bytes spares) (walk_is walk) (flat timeline_lines timeline_bytes timeline_is spares) in
    let all = joined (map cite_line cites) (walk_lines walk ++ flat_map timeline_lines spares) (flat_map cite_line cites) (walk_bytes walk ++ flat_map timeline_bytes spares) (mapped cite_line cites) proof in
    ap (λ (x : List ℕ). one_number (codes "clash ") (length cites) ++ x) all

-- the bodies of claims with the lines around them are their text of version 2
pub bodies_text : (es : List PlainEvidence) (bodies out : List ℕ) (n : ℕ) → AreClaims es → length es ≡ n → bodies ≡ concat (flat_map body_lines es)
    → out ≡ bundle_line ++ (claims_line n ++ (bodies ++ last_line)) → IsBundleText es out
bodies_text es bodies out n are count same bytes =
    let parts : concat (bundle_lines es) ≡ bundle_line ++ (claims_line (length es) ++ (concat (flat_map body_lines es) ++ last_line)) = rw (concat_append (flat_map body_lines es) (last_line ∷ [])) refl in
    let whole = ap (λ (k : ℕ). bundle_line ++ (claims_line k ++ (bodies ++ last_line))) (sym count) in
    (are, bytes ∙ whole ∙ ap (λ (x : List ℕ). bundle_line ++ (claims_line (length es) ++ (x ++ last_line))) same ∙ sym parts)

-- the bytes of claims are their text of version 2
pub bundle_text : (claims slice : List Evidence) (out : List ℕ) → All IsWellFormed (map plain claims) → IsCount (length claims) → slice ≡ claims
    → out ≡ bundle_line ++ (claims_line (length slice) ++ (flat_map body_bytes (map plain slice) ++ last_line)) → IsBundleText (map plain claims) out
bundle_text claims slice out good count same bytes =
    let es = map plain claims in
    let len : length es ≡ length claims = length-map claims plain in
    let all : out ≡ bundle_line ++ (claims_line (length claims) ++ (flat_map body_bytes es ++ last_line)) =
    subst (λ (xs : List Evidence). out ≡ bundle_line ++ (claims_line (length xs) ++ (flat_map body_bytes (map plain xs) ++ last_line))) same bytes in
    bodies_text es (flat_map body_bytes es) out (length claims) (good, subst IsCount (sym len) count) len (sym (flat body_lines body_bytes body_is es)) all

-- the lines of a text, joined
pub text_is : (e : PlainEvidence) → concat (text_lines e) ≡ first_line ++ (body_bytes e ++ last_line)
text_is e = rw (concat_append (body_lines e) (last_line ∷ []), body_is e) refl
