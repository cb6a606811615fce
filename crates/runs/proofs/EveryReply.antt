-- Where something comes next there is a reply over files that are there, and only one.
use Rattle.std.proofs.Common.{◌≡◌, inl, inr, ℕ, zero, suc, ◌+◌, ◌<◌, ◌≤◌, false, List, [], ◌∷◌, length, refl, ap, arith, Option, Some, None}
use Rattle.std.proofs.lemmas.Bool.{cases_lt}
use Rattle.std.specs.Prelude.{IsSome, is_some}
use Rattle.tml_io.specs.Files.{Files, IsThere, held}
use Rattle.runs.specs.declared.status.Status.{Status}
use Rattle.runs.specs.declared.status.Status.TheVariants.{TooLong}
use Rattle.runs.specs.EveryReply.{HasExactlyOneReply, HasNext}
use Rattle.runs.specs.OneReply.{is_aborted}
use Rattle.runs.specs.Reading.{AllThere, ReadsWhole}
use Rattle.runs.specs.Replies.{Replies, too_long}
use Rattle.runs.specs.Rows.{File, Freedom, Next, Rows, answers, once_read, reads}
use Rattle.runs.proofs.Answering.{AreAnswered}
use Rattle.runs.proofs.OneReply.{one_reply}

-- over these files there is a reply that is not aborted
abbrev HasReply : Files → Rows → Type 0
HasReply files rows = (status : Status) × (text : List ℕ) × (taken : ℕ) × (is_aborted status ≡ false) × Replies (Some files) rows status text taken

-- rows after which something comes next, which read no more than a number of files, and whose answers are not aborted
record AreWhole (most : ℕ) (rows : Rows) : Type 0 where
  next : HasNext rows
  few : (contents : List (List ℕ)) (file : File) → rows contents (reads file) → length contents < most
  whole : (contents : List (List ℕ)) (status : Status) (text : List ℕ) → rows contents (answers status text) → is_aborted status ≡ false

-- the rows that are left once a file was read
rest_whole : (most : ℕ) (rows : Rows) (file : File) (bytes : List ℕ) → rows [] (reads file) → length bytes ≤ file.limit → AreWhole (suc most) rows → AreWhole most (once_read bytes rows)
rest_whole most rows file bytes row short are = record {
  next = λ contents reading. are.next (bytes ∷ contents) (file, row, (tt, short), reading);
  few = λ contents other more. let less = are.few (bytes ∷ contents) other more in omega arith;
  whole = λ contents status text answer. are.whole (bytes ∷ contents) status text answer;
}

rest_there : (files : Files) (rows : Rows) (file : File) (bytes : List ℕ) → rows [] (reads file) → ReadsWhole (Some files) file bytes → AllThere (Some files) rows → AllThere (Some files) (once_read bytes rows)
rest_there files rows file bytes row gives there other reached = there other (bytes ∷ reached.0, (file, row, gives, reached.1), reached.2)

-- a reply by what is left
rest_replies : (files : Files) (rows : Rows) (file : File) (bytes : List ℕ) → rows [] (reads file) → ReadsWhole (Some files) file bytes → HasReply files (once_read bytes rows) → HasReply files rows
rest_replies files rows file bytes row gives (status, text, taken, whole, replies) = (
  status,
  text,
  length bytes + taken,
  whole,
  record {
    contents = bytes ∷ replies.contents;
    reading = (file, row, gives, replies.reading);
    part = replies.part;
    ends = replies.ends;
    bytes = let e = replies.bytes in omega arith;
  },
)

-- what a file that is there holds
holds : (files : Files) (name : List ℕ) → IsThere (Some files) name → (bytes : List ℕ) × (held files name ≡ Some bytes)
holds files name there = by (held files name) refl there
  where
    by : (o : Option (List ℕ)) → held files name ≡ o → IsSome (held files name) → (bytes : List ℕ) × (held files name ≡ Some bytes)
    by (Some bytes) is some = (bytes, is)
    by None is some = absurd (let none = ap is_some is in cc)

-- a reply by what comes next
next_replies : (files : Files) (rows : Rows) → ((status : Status) (text : List ℕ) → rows [] (answers status text) → is_aborted status ≡ false) → AllThere (Some files) rows
    → ((file : File) (bytes : List ℕ) → rows [] (reads file) → ReadsWhole (Some files) file bytes → HasReply files (once_read bytes rows))
    → (next : Next) → rows [] next → HasReply files rows
next_replies files rows whole there further (answers status text) row = (status, text, 0, whole status text row, record { contents = []; reading = tt; part = 0; ends = inl (row, refl); bytes = refl })
next_replies files rows whole there further (reads file) row =
    let has = holds files file.name (there file ([], tt, row)) in
    elim (cases_lt file.limit (length has.0)) [
      | inl long ↦ (
        TooLong,
        too_long file.word,
        file.limit + 1,
        refl,
        record { contents = []; reading = tt; part = file.limit + 1; ends = inr (inl (file, row, (refl, (has.0, has.1, long), refl))); bytes = omega arith },
      )
      | inr short ↦ rest_replies files rows file has.0 row (has.1, short) (further file has.0 row (has.1, short))
    ]

every_reply : (most : ℕ) (rows : Rows) → AreWhole most rows → (files : Files) → AllThere (Some files) rows → HasReply files rows
every_reply zero rows are files there =
    let first = are.next [] tt in
    next_replies files rows (are.whole []) there (λ file bytes row gives. absurd (let less = are.few [] file row in omega arith)) first.0 first.1
every_reply (suc most) rows are files there =
    let first = are.next [] tt in
    next_replies files rows (are.whole []) there (λ file bytes row gives. every_reply most (once_read bytes rows) (rest_whole most rows file bytes row gives.1 are) files (rest_there files rows file bytes row gives there)) first.0 first.1

pub exactly_one_reply : (rows : Rows) (IsFree : Freedom) → AreAnswered rows IsFree → HasExactlyOneReply rows
exactly_one_reply rows IsFree are = λ files there.
    let found = every_reply are.most rows (record { next = are.next; few = are.few; whole = are.whole }) files there in
    record {
      status = found.0;
      text = found.1;
      taken = found.2;
      whole = found.3;
      replies = found.4;
      only = λ other line count whole replies. one_reply rows are.one_next files found.0 other found.1 line found.2 count found.3 whole found.4 replies;
    }
