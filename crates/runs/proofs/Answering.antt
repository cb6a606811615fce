-- What the answers of a command have, so that its rows have what those of a program do.
use Rattle.std.proofs.Common.{◌≡◌, ◌⊎◌, ◌≤◌, ◌<◌, ℕ, false, List, length, sym, ap, subst, ◌∙◌, inl, inr}
use Rattle.std.specs.Prelude.{⊤}
pub use Rattle.runs.specs.Answered.{AreAnswered}
use Rattle.runs.specs.declared.status.Status.{Status}
use Rattle.runs.specs.OneFile.{Answers}
use Rattle.runs.specs.OneReply.{is_aborted}
use Rattle.runs.specs.TwoFiles.{IsNotRefused, Judging}

-- ---- answers

-- which texts are an answer, with which status
abbrev pub Answer : Type 1
Answer = Status → List ℕ → Type 0

abbrev pub HasAnswer : Answer → Type 0
HasAnswer Of = (status : Status) × (text : List ℕ) × Of status text

-- There is an answer, where this is given; it has one status, which is none that is aborted, and one text where that is not free.
pub record IsAnswered (IsGiven : Type 0) (Of : Answer) (IsFree : Status → Type 0) : Type 0 where
  pub some : IsGiven → HasAnswer Of
  pub one_status : (status other : Status) (text line : List ℕ) → Of status text → Of other line → status ≡ other
  pub whole : (status : Status) (text : List ℕ) → Of status text → is_aborted status ≡ false
  pub one_text : (status : Status) (text line : List ℕ) → (IsFree status → ⊥) → Of status text → Of status line → text ≡ line

-- A first file within its limit says something or is refused, and not both. It says one thing, or its refusal is one answer.
pub record IsDecisive {C : Type 0} (limit : ℕ) (judging : Judging C) : Type 0 where
  pub some : (one : List ℕ) → length one ≤ limit → IsNotRefused judging one ⊎ HasAnswer (judging.IsRefused one)
  pub not_both : (one : List ℕ) (status : Status) (text : List ℕ) → IsNotRefused judging one → judging.IsRefused one status text → ⊥
  pub one_said : (one : List ℕ) (c d : C) → judging.Says one c → judging.Says one d → c ≡ d
  pub refusal : (one : List ℕ) → IsAnswered (HasAnswer (judging.IsRefused one)) (judging.IsRefused one) (λ status. ⊥)

-- what a first file says has an answer for each second file, where both are within their limits
abbrev pub IsAnsweredAfter : {C : Type 0} → Judging C → ℕ → ℕ → (C → Answers) → (C → List ℕ → Status → Type 0) → Type 0
IsAnsweredAfter {C} judging first second Of IsFree =
    (one : List ℕ) (c : C) → judging.Says one c → (other : List ℕ) → IsAnswered ((length one ≤ first) × (length other ≤ second)) (Of c other) (IsFree c other)

-- ---- how answers are put together

left : {A B : Type 0} → (B → ⊥) → A ⊎ B → A
left none (inl a) = a
left none (inr b) = absurd (none b)

right : {A B : Type 0} → (A → ⊥) → A ⊎ B → B
right none (inl a) = absurd (none a)
right none (inr b) = b

module _ {IsGiven : Type 0} {Of : Answer} {IsFree : Status → Type 0} (are : IsAnswered IsGiven Of IsFree) where
  -- the same answers, said otherwise
  pub recast : (Same : Answer) → ((status : Status) (text : List ℕ) → Of status text → Same status text) → ((status : Status) (text : List ℕ) → Same status text → Of status text) → IsAnswered IsGiven Same IsFree
  recast Same there back = record {
    some = λ given. let answer = are.some given in (answer.0, answer.1, there answer.0 answer.1 answer.2);
    one_status = λ status other text line h k. are.one_status status other text line (back status text h) (back other line k);
    whole = λ status text h. are.whole status text (back status text h);
    one_text = λ status text line determined h k. are.one_text status text line determined (back status text h) (back status line k);
  }

  -- the same answers, of which the texts of more statuses are free
  pub freed : (Free : Status → Type 0) → ((status : Status) → IsFree status → Free status) → IsAnswered IsGiven Of Free
  freed Free into = record {
    some = are.some;
    one_status = are.one_status;
    whole = are.whole;
    one_text = λ status text line determined. are.one_text status text line (λ free. determined (into status free));
  }

  -- the same answers, of which there is one where more is given
  pub given_by : (More : Type 0) → (More → IsGiven) → IsAnswered More Of IsFree
  given_by More gives = record { some = λ more. are.some (gives more); one_status = are.one_status; whole = are.whole; one_text = are.one_text }

  -- the same answers beside others, of which there is none
  pub left_only : (Other : Answer) → ((status : Status) (text : List ℕ) → Other status text → ⊥) → IsAnswered IsGiven (λ status text. Of status text ⊎ Other status text) IsFree
  left_only Other none = recast (λ status text. Of status text ⊎ Other status text) (λ status text h. inl h) (λ status text h. left (none status text) h)

  pub right_only : (Other : Answer) → ((status : Status) (text : List ℕ) → Other status text → ⊥) → IsAnswered IsGiven (λ status text. Other status text ⊎ Of status text) IsFree
  right_only Other none = recast (λ status text. Other status text ⊎ Of status text) (λ status text h. inr h) (λ status text h. right (none status text) h)

-- the answers by a thing of which it is known that it alone is so
pub by_the_one : {C IsGiven : Type 0} {IsFree : Status → Type 0} (Is : C → Type 0) → ((c d : C) → Is c → Is d → c ≡ d) → (Of : C → Answer) (c : C) → Is c → IsAnswered IsGiven (Of c) IsFree
    → IsAnswered IsGiven (λ status text. (d : C) × Is d × Of d status text) IsFree
by_the_one {C} Is one Of c is are = recast are (λ status text. (d : C) × Is d × Of d status text) (λ status text h. (c, is, h)) (λ status text h. subst (λ (d : C). Of d status text) (one h.0 c h.1 is) h.2)

-- answers that all have one status
pub one_answer : (Of : Answer) (IsFree : Status → Type 0) (is : Status) → is_aborted is ≡ false → ((status : Status) (text : List ℕ) → Of status text → status ≡ is)
    → ((text line : List ℕ) → (IsFree is → ⊥) → Of is text → Of is line → text ≡ line) → (text : List ℕ) → Of is text → IsAnswered ⊤ Of IsFree
one_answer Of IsFree is whole only same answer shown = record {
  some = λ given. (is, answer, shown);
  one_status = λ status other text line h k. only status text h ∙ sym (only other line k);
  whole = λ status text h. ap is_aborted (only status text h) ∙ whole;
  one_text = λ status text line determined h k.
      let is_it = only status text h in
      same text line (λ free. determined (subst IsFree (sym is_it) free)) (subst (λ (s : Status). Of s text) is_it h) (subst (λ (s : Status). Of s line) is_it k);
}

-- answers that have one of two statuses, and not both
pub one_of_two : {IsGiven : Type 0} (Of : Answer) (IsFree : Status → Type 0) (this that : Status) → is_aborted this ≡ false → is_aborted that ≡ false
    → ((status : Status) (text : List ℕ) → Of status text → (status ≡ this) ⊎ (status ≡ that)) → ((text line : List ℕ) → Of this text → Of that line → ⊥)
    → ((text line : List ℕ) → (IsFree this → ⊥) → Of this text → Of this line → text ≡ line) → ((text line : List ℕ) → (IsFree that → ⊥) → Of that text → Of that line → text ≡ line)
    → (IsGiven → HasAnswer Of) → IsAnswered IsGiven Of IsFree
one_of_two Of IsFree this that whole also either not_both same same_too some = record {
  some = some;
  one_status = λ status other text line h k. elim (either status text h) [
    | inl a ↦ elim (either other line k) [
      | inl b ↦ a ∙ sym b
      | inr b ↦ absurd (not_both text line (with_status status this text a h) (with_status other that line b k))
    ]
    | inr a ↦ elim (either other line k) [
      | inl b ↦ absurd (not_both line text (with_status other this line b k) (with_status status that text a h))
      | inr b ↦ a ∙ sym b
    ]
  ];
  whole = λ status text h. elim (either status text h) [ inl a ↦ ap is_aborted a ∙ whole | inr a ↦ ap is_aborted a ∙ also ];
  one_text = λ status text line determined h k. elim (either status text h) [
    | inl a ↦ same text line (λ free. determined (subst IsFree (sym a) free)) (with_status status this text a h) (with_status status this line a k)
    | inr a ↦ same_too text line (λ free. determined (subst IsFree (sym a) free)) (with_status status that text a h) (with_status status that line a k)
  ];
}
  where
    with_status : (status is : Status) (text : List ℕ) → status ≡ is → Of status text → Of is text
    with_status status is text e h = subst (λ (s : Status). Of s text) e h
