-- The lines of a drill, put last one after another.
use Rattle.std.proofs.Common.{◌≡◌, ℕ, ◌+◌, ◌-◌, ◌*◌, ◌%◌, ◌≤◌, List, [], ◌∷◌, ◌++◌, Option, ap, ◌∙◌, codes, cond, Result, Ok, Err, append_assoc, arith}
use Rattle.std.specs.Prelude.{decimal}
use Rattle.std.specs.Result.{OnOk, is_ok}
use Rattle.std.specs.List.{filter_map, flat_map, range_with_len}
use Rattle.std.specs.Option.{option_to_list}
use Rattle.std.proofs.lemmas.List.{append-nil}
use Rattle.std.proofs.lemmas.List.Concat.{flat_map-append}
use Rattle.named.proofs.Lists.{filter_map_more}
use Rattle.net_core.specs.Rels.{rel_text}
use Rattle.tml_refs.specs.declared.document.DocLink.{DocLink}
use Rattle.drill.specs.Numbers.{drawn, link_between, links_from, partner}
use Rattle.drill.specs.Texts.{drill_interval_lines, drill_link_line}
use Rattle.drill.proofs.Lists.{range_more}

-- one part more after those that are put last
pub put_after : (start old more all out new : List ℕ) → out ≡ start ++ old → new ≡ out ++ more → all ≡ old ++ more → new ≡ start ++ all
put_after start old more all out new h k e = rw (k, h, e) (append_assoc start old more)

-- what is made of a range with one number more
pub made_more : {Y : Type 0} (f : ℕ → List Y) (a k j : ℕ) → a + k ≡ j → flat_map f (range_with_len a (k + 1)) ≡ flat_map f (range_with_len a k) ++ f j
made_more f a k j e = ap (flat_map f) (range_more a k j e) ∙ flat_map-append f (range_with_len a k) (j ∷ []) ∙ ap (λ ys. flat_map f (range_with_len a k) ++ ys) (append-nil (f j))

-- the lines of the links to one interval more
links_to_more : (f : ℕ → Option DocLink) (k : ℕ) → flat_map drill_link_line (filter_map f (range_with_len 1 (k + 1))) ≡ flat_map drill_link_line (filter_map f (range_with_len 1 k)) ++ flat_map drill_link_line (option_to_list (f (k + 1)))
links_to_more f k =
    let made : filter_map f (range_with_len 1 (k + 1)) ≡ filter_map f (range_with_len 1 k) ++ option_to_list (f (k + 1)) =
    ap (filter_map f) (range_more 1 k (k + 1) (omega arith)) ∙ filter_map_more f (range_with_len 1 k) (k + 1) in
    ap (flat_map drill_link_line) made ∙ flat_map-append drill_link_line (filter_map f (range_with_len 1 k)) (option_to_list (f (k + 1)))

-- the link to one interval more is put last, by the number that is drawn for it
pub link_put_last : (n i k number : ℕ) (start out new : List ℕ) → number ≡ drawn n (2 * n + 3 * (i - 1) + (k + 1))
    → out ≡ start ++ flat_map drill_link_line (filter_map (λ (time : ℕ). link_between n i (partner n i time)) (range_with_len 1 k))
    → new ≡ out ++ flat_map drill_link_line (option_to_list (link_between n i (number % i)))
    → new ≡ start ++ flat_map drill_link_line (filter_map (λ (time : ℕ). link_between n i (partner n i time)) (range_with_len 1 (k + 1)))
link_put_last n i k number start out new is so_far more =
    let link = λ (time : ℕ). link_between n i (partner n i time) in
    let its : new ≡ out ++ flat_map drill_link_line (option_to_list (link (k + 1))) = more ∙ ap (λ m. out ++ flat_map drill_link_line (option_to_list (link_between n i (m % i)))) is in
    put_after start (flat_map drill_link_line (filter_map link (range_with_len 1 k))) (flat_map drill_link_line (option_to_list (link (k + 1)))) (flat_map drill_link_line (filter_map link (range_with_len 1 (k + 1)))) out new so_far its (links_to_more link k)

-- the lines of the links from one interval more
pub links_from_more : (n i : ℕ) → 1 ≤ i
    → flat_map drill_link_line (flat_map (links_from n) (range_with_len 1 (i + 1 - 1))) ≡ flat_map drill_link_line (flat_map (links_from n) (range_with_len 1 (i - 1))) ++ flat_map drill_link_line (links_from n i)
links_from_more n i some =
    let is : i + 1 - 1 ≡ i - 1 + 1 = omega arith in
    let made : flat_map (links_from n) (range_with_len 1 (i + 1 - 1)) ≡ flat_map (links_from n) (range_with_len 1 (i - 1)) ++ links_from n i =
    ap (λ m. flat_map (links_from n) (range_with_len 1 m)) is ∙ made_more (links_from n) 1 (i - 1) i (omega arith) in
    ap (flat_map drill_link_line) made ∙ flat_map-append drill_link_line (flat_map (links_from n) (range_with_len 1 (i - 1))) (links_from n i)

-- the parts of two lines, one after another
two_lines : (s a e d b m f g l : List ℕ) → s ++ (a ++ e) ++ d ++ b ++ (m ++ f) ++ d ++ (g ++ e) ++ d ++ l ≡ s ++ (a ++ (e ++ d) ++ b ++ (m ++ (f ++ d) ++ g ++ (e ++ d) ++ l))
two_lines s a e d b m f g l = simp append_assoc

-- the parts of one line
one_line : (s a e d b c t r l : List ℕ) → s ++ (a ++ e) ++ d ++ (b ++ e) ++ c ++ t ++ r ++ l ≡ s ++ (a ++ (e ++ d) ++ b ++ (e ++ c) ++ t ++ r ++ l)
one_line s a e d b c t r l = simp append_assoc

-- the parts of the lines of an interval
pub interval_parts : (start event named instance last : List ℕ) (i : ℕ) → event ≡ start ++ codes "<EVENT eid=\"e" ++ decimal i → named ≡ event ++ codes "\" class=\"OCCURRENCE\">x</EVENT>\n"
    → instance ≡ named ++ codes "<MAKEINSTANCE eiid=\"ei" ++ decimal i → last ≡ instance ++ codes "\" eventID=\"e" ++ decimal i → last ++ codes "\"/>\n" ≡ start ++ drill_interval_lines i
interval_parts start event named instance last i e n m l = rw (l, m, n, e) (two_lines start (codes "<EVENT eid=\"") (codes "e") (decimal i) (codes "\" class=\"OCCURRENCE\">x</EVENT>\n") (codes "<MAKEINSTANCE eiid=\"") (codes "ei") (codes "\" eventID=\"") (codes "\"/>\n"))

-- the parts of the line of a link
pub link_parts : (start left right type rel : List ℕ) (link : DocLink) → left ≡ start ++ codes "<TLINK eventInstanceID=\"ei" ++ decimal link.a → right ≡ left ++ codes "\" relatedToEventInstance=\"ei" ++ decimal link.b
    → type ≡ right ++ codes "\" relType=\"" → rel ≡ type ++ rel_text link.rel → rel ++ codes "\"/>\n" ≡ start ++ drill_link_line link
link_parts start left right type rel link l r t e = rw (e, t, r, l) (one_line start (codes "<TLINK eventInstanceID=\"") (codes "ei") (decimal link.a) (codes "\" relatedToEventInstance=\"") (decimal link.b) (codes "\" relType=\"") (rel_text link.rel) (codes "\"/>\n"))

-- the last part is there where there was memory for it
pub last_part : {T E : Type 0} (r : Result T E) (old more all new : List ℕ) → new ≡ cond (is_ok r) (old ++ more) old → old ++ more ≡ all → OnOk r (new ≡ all)
last_part (Ok x) old more all new h e = h ∙ e
last_part (Err x) old more all new h e = tt
