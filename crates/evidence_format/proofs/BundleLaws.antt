-- The reader of a text of either version is exact.
use Rattle.std.proofs.Common.{◌≡◌, ◌⊎◌, inl, inr, ℕ, true, ltb, cond, List, [], ◌∷◌, ◌++◌, length, Some, None, refl, sym, ap, subst, ◌∙◌, arith}
use Rattle.std.specs.Prelude.{codes, option_map}
use Rattle.std.specs.List.{flat_map}
use Rattle.std.proofs.lemmas.Bool.{ltb-true, lt-ltb}
use Rattle.std.proofs.lemmas.List.{append-nil}
use Rattle.std.proofs.lemmas.List.Elements.{All-from_recursion, recursion_from_All}
use Rattle.std.proofs.lemmas.Option.{cond_some}
use Rattle.evidence_format.specs.declared.versions.Version.{Version}
use Rattle.evidence_format.specs.declared.versions.Version.TheVariants as version
use Rattle.line_texts.specs.Lines.{Lines, last_line}
use Rattle.line_texts.specs.Words.{one_of, same_of}
use Rattle.evidence_format.specs.Forms.{claims_of, version_of}
use Rattle.line_texts.specs.Reading.{Read, ◌>>=◌, line_at, many_at}
use Rattle.line_texts.specs.Grammar.{Then}
use Rattle.evidence_format.specs.Evidence.{PlainEvidence, IsWellFormed, body_lines, first_line}
use Rattle.evidence_format.specs.Begun.{HasLines}
use Rattle.evidence_format.specs.Bundles.{IsCount, bundle_line, claims_line, HasBundleLines}
use Rattle.evidence_format.specs.Readers.{body_at, count_at, opening_at, bundle_at}
use Rattle.line_texts.proofs.Exact.{Exact, exact_then, exact_give, exact_same, all_of}
use Rattle.line_texts.proofs.Numbers.{some_bind}
use Rattle.line_texts.proofs.WordLaws.{IsForm, one_form, same_form, some_mapped, either}
use Rattle.line_texts.proofs.ReaderLaws.{Has, AreMany, exact_form, exact_many}
use Rattle.evidence_format.proofs.BodyLaws.{exact_body}
use Rattle.line_texts.proofs.TextLaws.{Closed, closed, exact_closed, ends_after}

-- ---- how many bodies there are

-- the first line of a version
abbrev version_line : Version → List ℕ
version_line version.One = first_line
version_line version.Two = bundle_line

-- a line names a version
abbrev SaysVersion : List ℕ → Version → Type 0
SaysVersion l v = (version_line v ≡ l) × Unit {0}

-- a line of which a version is read names it
version_found : (l : List ℕ) (v : Version) → version_of l ≡ Some v → SaysVersion l v
unfolding version_of
version_found l v e =
    elim (either (option_map (λ u. version.One) (same_of first_line l)) _ v e) [
      | inl h ↦ let m = some_mapped (λ u. version.One) (same_of first_line l) v h in subst (SaysVersion l) m.2 ((same_form first_line).found l m.0 m.1)
      | inr h ↦ let m = some_mapped (λ u. version.Two) (same_of bundle_line l) v h in subst (SaysVersion l) m.2 ((same_form bundle_line).found l m.0 m.1)
    ]

-- a version is read of its line
version_again : (v : Version) → Unit {0} → version_of (version_line v) ≡ Some v
unfolding version_of
version_again version.One u = refl
version_again version.Two u = refl

-- lines that name a version
version_form : IsForm version_line (λ v. Unit {0}) version_of
version_form = record { again = version_again; found = version_found }

-- lines that say how many claims there are
claims_form : IsForm claims_line IsCount claims_of
unfolding claims_of
claims_form = record {
  again = λ n h. let lt : ltb 0 n ≡ true = lt-ltb 0 n h.0 in rw ((one_form (codes "claims ")).again n h.1, lt) refl;
  found = λ l n e.
      let a = some_bind (one_of (codes "claims ") l) (λ n. cond (ltb 0 n) (Some n) None) n e in
      let g = cond_some (ltb 0 a.0) a.0 n a.2 in
      let f = (one_form (codes "claims ")).found l a.0 a.1 in
      subst (λ (m : ℕ). (claims_line m ≡ l) × IsCount m) g.1 (f.0, (ltb-true 0 a.0 g.0, f.1));
}

-- what follows the first line says how many bodies there are
abbrev HasCount : Version → ℕ → Lines → Type 0
HasCount version.One n ls = (n ≡ 1) × (ls ≡ [])
HasCount version.Two n ls = Has IsCount (λ n. claims_line n ∷ []) n ls

-- one claim can stand in a text
pub one_claim : IsCount 1
one_claim = (omega arith, omega arith)

-- how many bodies a version has
exact_count : (v : Version) → Exact (HasCount v) (count_at v)
unfolding count_at
exact_count version.One = exact_give 1
exact_count version.Two = exact_form claims_line IsCount claims_of 1 one_claim claims_form

-- the lines before the bodies say how many there are
abbrev HasOpening : ℕ → Lines → Type 0
HasOpening n ls = ((n ≡ 1) × (ls ≡ first_line ∷ [])) ⊎ (IsCount n × (ls ≡ bundle_line ∷ claims_line n ∷ []))

-- the lines of a version, and of what follows it
abbrev Versioned : ℕ → Lines → Type 0
Versioned = Then (Has (λ v. Unit {0}) (λ v. version_line v ∷ [])) HasCount

-- they are the lines before the bodies
to_opening : (n : ℕ) (ls : Lines) → Versioned n ls → HasOpening n ls
to_opening n ls (version.One, prefix, suffix, f, c, e) = inl (c.0, e ∙ ap (λ (x : Lines). x ++ suffix) f.1 ∙ ap (λ (x : Lines). first_line ∷ x) c.1)
to_opening n ls (version.Two, prefix, suffix, f, c, e) = inr (c.0, e ∙ ap (λ (x : Lines). x ++ suffix) f.1 ∙ ap (λ (x : Lines). bundle_line ∷ x) c.1)

-- and the lines before the bodies are these
from_opening : (n : ℕ) (ls : Lines) → HasOpening n ls → Versioned n ls
from_opening n ls (inl h) = (version.One, first_line ∷ [], [], (tt, refl), (h.0, refl), h.1)
from_opening n ls (inr h) = (version.Two, bundle_line ∷ [], claims_line n ∷ [], (tt, refl), (h.0, refl), h.1)

-- how many bodies there are
exact_opening : Exact HasOpening opening_at
unfolding opening_at
exact_opening =
    exact_same Versioned HasOpening (λ ls. line_at version_of ls >>= λ v. count_at v.0 v.1) to_opening from_opening
    (exact_then (Has (λ v. Unit {0}) (λ v. version_line v ∷ [])) HasCount (line_at version_of) count_at (exact_form version_line (λ v. Unit {0}) version_of version.One tt version_form) (λ v prefix g. exact_count v))

-- ---- a text of either version

-- this number of bodies, and the last line
abbrev HasBodies : ℕ → List PlainEvidence → Lines → Type 0
HasBodies n = Closed (AreMany IsWellFormed body_lines n)

-- the lines of version 2 of some claims, or the lines of version 1 of one
abbrev pub HasEither : List PlainEvidence → Lines → Type 0
HasEither es ls = HasBundleLines es ls ⊎ ((e : PlainEvidence) × (es ≡ e ∷ []) × HasLines e ls)

-- one body more than none is the only one
only_one : (es : List PlainEvidence) (n : ℕ) (ls : Lines) → n ≡ 1 → AreMany IsWellFormed body_lines n es ls → (e : PlainEvidence) × (es ≡ e ∷ []) × IsWellFormed e × (ls ≡ body_lines e)
only_one [] n ls one h = absurd (let len = h.1 in omega arith)
only_one (e ∷ []) n ls one h = (e, refl, h.0.0, h.2 ∙ append-nil (body_lines e))
only_one (e ∷ d ∷ es) n ls one h = absurd (let len = h.1 in omega arith)

-- bodies and the lines around them are those of one of the versions
to_either : (es : List PlainEvidence) (ls : Lines) → Then HasOpening HasBodies es ls → HasEither es ls
to_either es ls (n, prefix, suffix, inl h, b, e) =
    let o = only_one es n b.0 h.0 b.1 in
    inr (o.0, o.1, (o.2, e ∙ ap (λ (x : Lines). x ++ suffix) h.1 ∙ ap (λ (x : Lines). first_line ∷ x) (b.2 ∙ ap (λ (x : Lines). x ++ last_line ∷ []) o.3)))
to_either es ls (n, prefix, suffix, inr h, b, e) =
    let m = b.1 in
    let whole : ls ≡ bundle_line ∷ claims_line n ∷ (flat_map body_lines es ++ last_line ∷ []) = e ∙ ap (λ (x : Lines). x ++ suffix) h.1 ∙ ap (λ (x : Lines). bundle_line ∷ claims_line n ∷ x) (b.2 ∙ ap (λ (x : Lines). x ++ last_line ∷ []) m.2) in
    inl ((All-from_recursion IsWellFormed es m.0, subst IsCount (sym m.1) h.0), whole ∙ ap (λ (k : ℕ). bundle_line ∷ claims_line k ∷ (flat_map body_lines es ++ last_line ∷ [])) (sym m.1))

-- and the lines of one of the versions are these
from_either : (es : List PlainEvidence) (ls : Lines) → HasEither es ls → Then HasOpening HasBodies es ls
from_either es ls (inl h) =
    let bodies : AreMany IsWellFormed body_lines (length es) es (flat_map body_lines es) = (recursion_from_All IsWellFormed es h.0.0, refl, refl) in
    (length es, bundle_line ∷ claims_line (length es) ∷ [], flat_map body_lines es ++ last_line ∷ [], inr (h.0.1, refl), (flat_map body_lines es, bodies, refl), h.1)
from_either es ls (inr h) =
    let bodies : AreMany IsWellFormed body_lines 1 (h.0 ∷ []) (body_lines h.0) = ((h.2.0, tt), refl, sym (append-nil (body_lines h.0))) in
    (1, first_line ∷ [], body_lines h.0 ++ last_line ∷ [], inl (refl, refl), (body_lines h.0, subst (λ (bs : List PlainEvidence). AreMany IsWellFormed body_lines 1 bs (body_lines h.0)) (sym h.1) bodies, refl), h.2.1)

-- claims from the first line to the last one
abbrev pub claims_at : Lines → Read (List PlainEvidence)
claims_at ls = opening_at ls >>= λ n. closed (many_at body_at n.0 n.1)

-- reading a text is reading all its lines
pub bundle_is : (ls : Lines) → bundle_at ls ≡ all_of claims_at ls
unfolding bundle_at
bundle_is ls = ends_after (opening_at ls) (many_at body_at)

-- claims from the first line to the last one
pub exact_claims : Exact HasEither claims_at
exact_claims =
    exact_same (Then HasOpening HasBodies) HasEither claims_at to_either from_either
    (exact_then HasOpening HasBodies opening_at (λ n ls. closed (many_at body_at n ls)) exact_opening
    (λ n prefix g. exact_closed (AreMany IsWellFormed body_lines n) (many_at body_at n) (exact_many IsWellFormed body_lines body_at exact_body n)))
