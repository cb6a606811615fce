-- It is decided whether a text is that of a duration: its counts are read from left to right.
use Rattle.std.proofs.Common.{◌≡◌, inl, inr, ℕ, true, false, List, [], ◌∷◌, ◌++◌, take, drop, codes, refl, sym, ◌∙◌, subst}
use Rattle.std.specs.Prelude.{IsTrue}
use Rattle.std.specs.List.{prefix_len}
use Rattle.std.specs.Str.{byte}
use Rattle.std.specs.Str.Parse.{digits_value}
use Rattle.std.specs.Char.{is_ascii_digit}
use Rattle.std.proofs.lemmas.List.Folds.{length-prefix_len}
use Rattle.named.proofs.Deciding.{in_range}
use mathlib.Core.Bool.{Bool-discrete}
use mathlib.Core.List.{List-discrete}
use mathlib.Core.Logic.Dec
use native.Mathlib.Decide.{ℕ_discrete}
use Rattle.timex_value.specs.declared.length.Count.{Count}
use Rattle.timex_value.specs.declared.length.Count.TheVariants.{Absent, Number, Unknown}
use Rattle.timex_value.specs.declared.length.Length.{Length}
use Rattle.timex_value.specs.Durations.{CountThen, ClockThen, ClockText, SpellsLength, has_clock, is_length}
use Rattle.timex_value.specs.Counts.{ReadsCount}
use Rattle.timex_value.proofs.CountTexts.{number_is, number_read, x_then, tail_is}
use Rattle.timex_value.proofs.Lengths.{ReadsCounts, clock_read, length_read, one_clock, length_by_counts}

-- what follows some first bytes
after : (start text : List ℕ) → Dec ((rest : List ℕ) × (text ≡ start ++ rest))
after [] text = yes (text, refl)
after (b ∷ start) [] = no (λ h. let e = h.1 in absurd cc)
after (b ∷ start) (c ∷ text) = Dec.of_iff (λ h. (h.1.0, let same = h.0 in let e = h.1.1 in cc), λ h. let e = h.1 in (cc, (h.0, cc))) (Dec.and (ℕ_discrete c b) (after start text))

module _ (u : ℕ) (plain : is_ascii_digit u ≡ false) (text : List ℕ) where
  -- whether an X with its unit comes first, or a number
  x_after : Dec ((rest : List ℕ) × CountThen u Unknown text rest)
  x_after = Dec.of_iff (λ h. (h.0, (byte "X" ∷ u ∷ [], refl, h.1)), λ h. (h.0, x_then u text h.0 h.1)) (after (byte "X" ∷ u ∷ []) text)

  number_after : Dec ((n : ℕ) × (rest : List ℕ) × CountThen u (Number n) text rest)
  number_after =
      let size = prefix_len is_ascii_digit text in
      Dec.of_iff (
        λ h. (digits_value 10 (take size text), h.1.0, number_is u _ text (take size text) (drop size text) h.1.0 refl refl (rw (length-prefix_len is_ascii_digit text) h.0) refl h.1.1),
        λ h. let read = number_read u h.0 text h.1 plain h.2 in (read.0, (h.1, read.1)),
      ) (Dec.and (in_range 1 9 size) (after (u ∷ []) (drop size text)))

  -- a count is read, if only as absent
  reads : (count : Count) × (rest : List ℕ) × ReadsCount u count text rest
  reads = elim x_after [
    | yes h ↦ (Unknown, h.0, record { then = h.1; none = λ e. absurd cc })
    | no no_x ↦ elim number_after [
      | yes h ↦ (Number h.0, h.1, record { then = h.2; none = λ e. absurd cc })
      | no no_number ↦ (Absent, text, record { then = ([], refl, refl); none = λ _. (λ n rest h. no_number (n, rest, h), λ rest h. no_x (rest, h)) })
    ]
  ]

-- whether a text is that of a clock
has_clock_text : (text : List ℕ) → Dec ((h : Count) × (m : Count) × (s : Count) × ClockText h m s text)
has_clock_text [] = yes (Absent, Absent, Absent, inl (refl, refl))
has_clock_text (b ∷ text) = elim (after (codes "T") (b ∷ text)) [
  | no none ↦ no (λ k. elim k.3 [ inl empty ↦ let e = empty.1 in absurd cc | inr timed ↦ none (timed.1.0, timed.1.1) ])
  | yes timed ↦
      let h = reads (byte "H") refl timed.0 in
      let m = reads (byte "M") refl h.1 in
      let s = reads (byte "S") refl m.1 in
      Dec.of_iff (
        λ k. (h.0, m.0, s.0, inr (k.1, (timed.0, timed.1, (h.1, h.2.then, (m.1, m.2.then, (s.1, s.2.then, k.0)))))),
        λ k. elim k.3 [
          | inl empty ↦ let e = empty.1 in absurd cc
          | inr other ↦
              let same = tail_is (sym other.1.1 ∙ timed.1) in
              let read = clock_read h.0 m.0 s.0 k.0 k.1 k.2 timed.0 s.1 (h.1, h.2, (m.1, m.2, (s.1, s.2, refl))) (subst (λ x. ClockThen k.0 k.1 k.2 x []) same other.1.2) in
              let counts = read.0 in
              let written = other.0 in
              (read.1, cc)
        ],
      ) (Dec.and (List-discrete ℕ_discrete s.1 []) (Bool-discrete (has_clock h.0 m.0 s.0) true))
]

-- whether a text is that of a duration, where the counts of its date are read
is_length_after : (y m w d : Count) (text dated rest : List ℕ) → text ≡ byte "P" ∷ dated → ReadsCounts (codes "YMWD") (y ∷ m ∷ w ∷ d ∷ []) dated rest → Dec ((l : Length) × SpellsLength l text)
is_length_after y m w d text dated rest begins reads = elim (has_clock_text rest) [
  | no none ↦ no (λ k. none (k.0.hours, k.0.minutes, k.0.seconds, (length_read y m w d k.0 text dated rest begins reads k.1).1))
  | yes clock ↦
      let next = reads.2 in
      let last = next.2.2 in
      let length : Length = record { years = y; months = m; weeks = w; days = d; hours = clock.0; minutes = clock.1; seconds = clock.2 } in
      Dec.of_iff (
        λ written. (length, (dated, rest, begins, (reads.0, reads.1.then, (next.0, next.1.then, (next.2.0, next.2.1.then, (last.0, last.1.then, last.2)))), clock.3, written)),
        λ k.
            let read = length_read y m w d k.0 text dated rest begins reads k.1 in
            let same = one_clock clock.0 clock.1 clock.2 k.0.hours k.0.minutes k.0.seconds rest clock.3 read.1 in
            subst (λ x. IsTrue (is_length x)) (sym (length_by_counts length k.0 read.0 same.0 same.1 same.2)) k.1.5,
      ) (Bool-discrete (is_length length) true)
]

pub is_length_of : (text : List ℕ) → Dec ((l : Length) × SpellsLength l text)
is_length_of text = elim (after (codes "P") text) [
  | no none ↦ no (λ k. none (k.1.0, k.1.2))
  | yes dated ↦
      let y = reads (byte "Y") refl dated.0 in
      let m = reads (byte "M") refl y.1 in
      let w = reads (byte "W") refl m.1 in
      let d = reads (byte "D") refl w.1 in
      is_length_after y.0 m.0 w.0 d.0 text dated.0 d.1 dated.1 (y.1, y.2, (m.1, m.2, (w.1, w.2, (d.1, d.2, refl))))
]
