-- What is read of whole texts.
use Rattle.std.proofs.Common.{◌≡◌, inl, inr, ℕ, ◌+◌, ◌-◌, ◌≤◌, List, [], ◌∷◌, ◌++◌, length, take, Result, Ok, Err, refl, sym, ap, subst, ◌∙◌}
use Rattle.std.specs.List.{count_by, concat, AllByRecursion}
use Rattle.named.proofs.Lists.{each_parts}
use Rattle.line_texts.specs.declared.read.ReadEvidence.{ReadEvidence}
use Rattle.line_texts.specs.declared.read.ReadEvidence.TheVariants as refused
use Rattle.line_texts.specs.declared.stop.Stop.{Stop}
use Rattle.line_texts.specs.declared.stop.Stop.TheVariants as stop
use Rattle.line_texts.specs.Lines.{Lines, is_lf, lines_of}
use Rattle.line_texts.specs.Reading.{Read}
use Rattle.line_texts.specs.Grammar.{Begins, Stuck}
use Rattle.line_texts.specs.Begun.{IsBadLineBy, ReadsBy, RefusesTextBy, TellsBadLineBy, TextOrBadLineBy}
use Rattle.line_texts.specs.Given.{IsStopWithin, ReadingStopsAt, refusal_of}
use Rattle.line_texts.proofs.Exact.{Exact, all_of, all_again, all_found, all_bad, one_place}
use Rattle.line_texts.proofs.LineLaws.{IsLine, lines_again, lines_concat, line_number}
use Rattle.line_texts.proofs.ReaderLaws.{Has}

-- values, their texts and lines that are begun: the lines of a value are whole, and are those of its text; lines are begun where they begin those of a value; a reader of these is exact, and what reads all lines is that reader
pub record Texts {A : Type 0} (T : A → List ℕ → Type 0) (B : Lines → Type 0) (G : A → Lines → Type 0) (p : Lines → Read A) (r : Lines → Result A Lines) : Type 0 where
  pub exact : Exact G p
  pub reads : (ls : Lines) → r ls ≡ all_of p ls
  pub whole : (a : A) (ls : Lines) → G a ls → AllByRecursion IsLine ls
  pub to : (a : A) (ls : Lines) → G a ls → T a (concat ls)
  pub from : (a : A) (text : List ℕ) → T a text → (ls : Lines) × G a ls × (text ≡ concat ls)
  pub begun : (ls : Lines) → Begins G ls → B ls
  pub begins : (ls : Lines) → B ls → Begins G ls

-- the text of a value that fits is its lines, joined
abbrev pub HasText : {A : Type 0} → (A → Type 0) → (A → Lines) → A → List ℕ → Type 0
HasText Fits lines a text = Fits a × (text ≡ concat (lines a))

-- values that fit, each with lines of its own
pub own_texts : {A : Type 0} (Fits : A → Type 0) (lines : A → Lines) (p : Lines → Read A) (r : Lines → Result A Lines) → Exact (Has Fits lines) p → ((ls : Lines) → r ls ≡ all_of p ls)
    → ((a : A) → Fits a → AllByRecursion IsLine (lines a)) → Texts (HasText Fits lines) (Begins (Has Fits lines)) (Has Fits lines) p r
own_texts Fits lines p r exact reads whole = record {
  exact = exact;
  reads = reads;
  whole = λ a ls h. subst (AllByRecursion IsLine) (sym h.1) (whole a h.0);
  to = λ a ls h. (h.0, ap concat h.1);
  from = λ a text h. (lines a, (h.0, refl), h.1);
  begun = λ ls h. h;
  begins = λ ls h. h;
}

module _ {A : Type 0} {T : A → List ℕ → Type 0} {B : Lines → Type 0} {G : A → Lines → Type 0} {p : Lines → Read A} {r : Lines → Result A Lines} (P : Texts T B G p r) where
  -- what is read has this text
  pub is_found : (a : A) (text : List ℕ) → r (lines_of text) ≡ Ok a → T a text
  is_found a text read = subst (T a) (lines_concat text) (P.to a (lines_of text) (all_found G p P.exact a (lines_of text) (sym (P.reads (lines_of text)) ∙ read)))

  -- what has this text is read
  pub is_read : (a : A) (text : List ℕ) → T a text → r (lines_of text) ≡ Ok a
  is_read a text h =
      let f = P.from a text h in
      let same : lines_of text ≡ f.0 = ap lines_of f.2 ∙ lines_again f.0 (P.whole a f.0 f.1) in
      P.reads (lines_of text) ∙ all_again G p P.exact a (lines_of text) (subst (G a) (sym same) f.1)

  -- where reading stops, lines are stuck
  stuck : (text : List ℕ) (rest : Lines) → r (lines_of text) ≡ Err rest → Stuck G (lines_of text) rest
  stuck text rest read = all_bad G p P.exact (lines_of text) rest (sym (P.reads (lines_of text)) ∙ read)

  -- and where they are, the line is bad
  stuck_is_bad : (text : List ℕ) (rest : Lines) (s : Stuck G (lines_of text) rest) → IsBadLineBy B text (length s.0 + 1)
  stuck_is_bad text rest s = (s.0, rest, s.1, refl, P.begun s.0 s.2, λ l more k b. s.3 l more k (P.begins (s.0 ++ l ∷ []) b))

  -- the rest at which reading stops is of the text, and its first line is bad
  pub is_bad : (text rest : List ℕ) → r (lines_of text) ≡ Err (lines_of rest) → (length rest ≤ length text) × IsBadLineBy B text (count_by is_lf (take (length text - length rest) text) + 1)
  is_bad text rest read =
      let s = stuck text (lines_of rest) read in
      let b = s.2 in
      let n = line_number text rest s.0 (each_parts IsLine s.0 b.1 (P.whole b.0 (s.0 ++ b.1) b.2)).0 s.1 in
      (n.0, subst (λ (k : ℕ). IsBadLineBy B text (k + 1)) (sym n.1) (stuck_is_bad text (lines_of rest) s))

  -- no text is read and not read
  pub not_both : (a : A) (text : List ℕ) (rest : Lines) → T a text → r (lines_of text) ≡ Err rest → ⊥
  not_both a text rest h read = let again = is_read a text h in cc

  -- where reading stops, the text is refused
  pub refuses : (text : List ℕ) (e : Stop) → ReadingStopsAt e (r (lines_of text)) → IsStopWithin text e × RefusesTextBy T B text (refusal_of text e)
  refuses text stop.Memory h = (tt, tt)
  refuses text (stop.BadLine rest) h =
      let bad = is_bad text rest.now h in
      (bad.0, (λ a has. not_both a text (lines_of rest.now) has h, bad.1))

  -- a value has no text that is refused
  pub none_reads : {X : Type 0} (view : X → A) (text : List ℕ) (f : ReadEvidence) (a : A) → RefusesTextBy T B text f → T a text → ReadsBy view a (Err f)
  none_reads view text refused.Memory a h has = tt
  none_reads view text (refused.BadLine line) a h has = absurd (h.0 a has)

  -- and such a text has the bad line
  pub tells : (text : List ℕ) (f : ReadEvidence) → RefusesTextBy T B text f → TellsBadLineBy B text f
  tells text refused.Memory h = tt
  tells text (refused.BadLine line) h = h.1

  -- by what reading its lines gives
  by_reading : (text : List ℕ) (read : Result A Lines) → r (lines_of text) ≡ read → TextOrBadLineBy T B text
  by_reading text (Ok a) is = inl (a, is_found a text is)
  by_reading text (Err rest) is =
      let s = stuck text rest is in
      inr (λ a h. not_both a text rest h is, length s.0 + 1, stuck_is_bad text rest s)

  -- every text is that of a value, or has a bad line
  pub text_or_bad_line : (text : List ℕ) → TextOrBadLineBy T B text
  text_or_bad_line text = by_reading text (r (lines_of text)) refl

  -- a text is that of one value at most
  pub one_of_texts : (a b : A) (text : List ℕ) → T a text → T b text → a ≡ b
  one_of_texts a b text h k = let one = is_read a text h in let two = is_read b text k in cc

  -- a text has one bad line at most
  pub one_line : (text : List ℕ) (m n : ℕ) → IsBadLineBy B text m → IsBadLineBy B text n → m ≡ n
  one_line text m n h k =
      let again : (line : ℕ) (b : IsBadLineBy B text line) → Stuck G (lines_of text) b.1 = λ line b. (b.0, b.2, P.begins b.0 b.4, λ l more e begun. b.5 l more e (P.begun (b.0 ++ l ∷ []) begun)) in
      let same = one_place G (lines_of text) h.1 k.1 (again m h) (again n k) in
      h.3 ∙ ap (λ (ls : Lines). length ls + 1) same ∙ sym k.3
