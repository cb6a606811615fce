-- Over known files a command has one reply that is not aborted, since one thing comes next.
use Rattle.std.proofs.Common.{◌≡◌, ◌⊎◌, ℕ, ◌+◌, ◌<◌, false, List, [], ◌∷◌, length, refl, sym, ap, subst, ◌∙◌, Option, Some, inl, inr, arith}
use Rattle.tml_io.specs.Files.{Files, held}
use Rattle.runs.specs.declared.status.Status.{Status}
use Rattle.runs.specs.declared.status.Status.TheVariants.{ReadFault, NoMemory, TooLong}
use Rattle.runs.specs.Rows.{File, Rows, answers, reads, once_read}
use Rattle.runs.specs.Reading.{ReadsWhole, AreFirstContents, total_length}
use Rattle.runs.specs.Replies.{RepliesAfter, IsTooLong, CannotRead, too_long}
use Rattle.runs.specs.OneReply.{HasOneNext, HasOneReply, HasOneText, HasOneTextOf, is_aborted}

-- a name holds one list of bytes
pub one_held : (o : Option (List ℕ)) (bytes other : List ℕ) → o ≡ Some bytes → o ≡ Some other → bytes ≡ other
one_held o bytes other h k = cc (sym h ∙ k)

-- a file is not both within its limit and too long
pub not_both : (files : Files) (file other : File) (bytes : List ℕ) → file ≡ other → ReadsWhole (Some files) file bytes → IsTooLong (Some files) other → ⊥
not_both files file other bytes e gives long =
    let gives = subst (λ (f : File). ReadsWhole (Some files) f bytes) e gives in
    let same = one_held (held files other.name) bytes long.0 gives.0 long.1 in
    omega (arith, gives.1, subst (λ (b : List ℕ). other.limit < length b) (sym same) long.2)

-- a file that ends a command, where that is not aborted, is too long
abbrev pub IsTheLongOne : Option Files → File → Status → List ℕ → ℕ → Type 0
IsTheLongOne known file status text part = IsTooLong known file × (status ≡ TooLong) × (text ≡ too_long file.word) × (part ≡ file.limit + 1)

stops_long : (known : Option Files) (file : File) (status : Status) (text : List ℕ) (part : ℕ) → is_aborted status ≡ false → CannotRead known file status text part → IsTheLongOne known file status text part
stops_long known file ReadFault text part e h = absurd (cc e)
stops_long known file NoMemory text part e h = absurd (cc e)
stops_long known file TooLong text part e h = (h.1, refl, h.0, h.2)
stops_long known file status text part e h = absurd h

-- after some contents there is the answer, or the next file is too long
abbrev pub EndsWhole : Option Files → Rows → List (List ℕ) → Status → List ℕ → ℕ → Type 0
EndsWhole known rows contents status text part =
    (rows contents (answers status text) × (part ≡ 0)) ⊎ ((file : File) × rows contents (reads file) × IsTheLongOne known file status text part)

pub ends_whole : (known : Option Files) (rows : Rows) (contents : List (List ℕ)) (status : Status) (text : List ℕ) (part : ℕ)
    → is_aborted status ≡ false → RepliesAfter known rows contents status text part → EndsWhole known rows contents status text part
ends_whole known rows contents status text part e (inl h) = inl h
ends_whole known rows contents status text part e (inr (inl h)) = inr (h.0, h.1, stops_long known h.0 status text part e h.2)
ends_whole known rows contents status text part e (inr (inr h)) = absurd (cc (sym e ∙ ap is_aborted h.0))

-- two replies, with the bytes that were taken
abbrev Same : Status → List ℕ → ℕ → Status → List ℕ → ℕ → Type 0 → Type 0
Same status text taken other line count IsOne = (status ≡ other) × (taken ≡ count) × (IsOne → text ≡ line)

-- the replies after the same contents
one_end : (rows : Rows) → HasOneNext rows → (known : Option Files) (contents : List (List ℕ)) (status other : Status) (text line : List ℕ) (part rest : ℕ)
    → EndsWhole known rows contents status text part → EndsWhole known rows contents other line rest → Same status text part other line rest (HasOneText rows contents status)
one_end rows one known contents status other text line part rest (inl h) (inl k) =
    let same = one contents (answers status text) (answers other line) h.0 k.0 in
    (same, h.1 ∙ sym k.1, λ texts. texts text line h.0 (subst (λ (s : Status). rows contents (answers s line)) (sym same) k.0))
one_end rows one known contents status other text line part rest (inl h) (inr k) = absurd (one contents (answers status text) (reads k.0) h.0 k.1)
one_end rows one known contents status other text line part rest (inr h) (inl k) = absurd (one contents (reads h.0) (answers other line) h.1 k.0)
one_end rows one known contents status other text line part rest (inr h) (inr k) =
    let same = one contents (reads h.0) (reads k.0) h.1 k.1 in
    (h.2.1 ∙ sym k.2.1, h.2.3 ∙ ap (λ (f : File). f.limit + 1) same ∙ sym k.2.3, λ _. h.2.2 ∙ ap (λ (f : File). too_long f.word) same ∙ sym k.2.2)

-- there is no reply yet where a further file is read
pub not_yet : (rows : Rows) → HasOneNext rows → (files : Files) (contents : List (List ℕ)) (status : Status) (text : List ℕ) (part : ℕ) (file : File) (bytes : List ℕ)
    → EndsWhole (Some files) rows contents status text part → rows contents (reads file) → ReadsWhole (Some files) file bytes → ⊥
not_yet rows one files contents status text part file bytes (inl h) next gives = one contents (answers status text) (reads file) h.0 next
not_yet rows one files contents status text part file bytes (inr h) next gives = not_both files file h.0 bytes (one contents (reads file) (reads h.0) next h.1) gives h.2.0

one_after : (rows : Rows) → HasOneNext rows → (files : Files) (contents others : List (List ℕ)) (status other : Status) (text line : List ℕ) (part rest : ℕ)
    → AreFirstContents (Some files) rows contents → AreFirstContents (Some files) rows others
    → EndsWhole (Some files) rows contents status text part → EndsWhole (Some files) rows others other line rest
    → Same status text (total_length contents + part) other line (total_length others + rest) (HasOneTextOf files rows status)
one_after rows one files [] [] status other text line part rest r q h k =
    let same = one_end rows one (Some files) [] status other text line part rest h k in
    (same.0, ap (λ (n : ℕ). 0 + n) same.1, λ texts. same.2 (texts [] tt))
one_after rows one files [] (d ∷ ds) status other text line part rest r q h k = absurd (not_yet rows one files [] status text part q.0 d h q.1 q.2)
one_after rows one files (c ∷ cs) [] status other text line part rest r q h k = absurd (not_yet rows one files [] other line rest r.0 c k r.1 r.2)
one_after rows one files (c ∷ cs) (d ∷ ds) status other text line part rest r q h k =
    let file = one [] (reads r.0) (reads q.0) r.1 q.1 in
    let gives = subst (λ (f : File). ReadsWhole (Some files) f c) file r.2 in
    let bytes = one_held (held files q.0.name) c d gives.0 q.2.0 in
    let same = one_after (once_read c rows) (λ contents. one (c ∷ contents)) files cs ds status other text line part rest r.3
    (subst (λ (b : List ℕ). AreFirstContents (Some files) (once_read b rows) ds) (sym bytes) q.3) h
    (subst (λ (b : List ℕ). EndsWhole (Some files) rows (b ∷ ds) other line rest) (sym bytes) k) in
    (same.0, omega (arith, same.1, ap length bytes), λ texts. same.2 (λ contents reading. texts (c ∷ contents) (r.0, r.1, r.2, reading)))

pub one_reply : (rows : Rows) → HasOneNext rows → HasOneReply rows
one_reply rows one = λ files status other text line taken count e f h k.
    let same = one_after rows one files h.contents k.contents status other text line h.part k.part h.reading k.reading
    (ends_whole (Some files) rows h.contents status text h.part e h.ends) (ends_whole (Some files) rows k.contents other line k.part f k.ends) in
    record { one_status = same.0; one_count = h.bytes ∙ same.1 ∙ sym k.bytes; one_text = same.2 }
