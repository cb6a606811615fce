-- Replies by the files that were read for them, one after another.
use Rattle.std.proofs.Common.{◌≡◌, ◌⊎◌, true, ℕ, ◌+◌, ◌≤◌, List, [], ◌∷◌, ◌++◌, append-nil, append_assoc, length, Result, Ok, Err, refl, sym, ap, subst, ◌∙◌, inl, inr, Option, None, Some, arith}
use Rattle.std.specs.Prelude.{IfOk}
use Rattle.tml_io.specs.Files.{Files, CountsTaken, IsThere, StartsSince}
use Rattle.tml_io.specs.Known.{KnownInputs}
use Rattle.runs.specs.declared.answer.Answer.{Answer}
use Rattle.runs.specs.declared.answer.Finding.{Finding}
use Rattle.runs.specs.declared.answer.Finding.TheVariants as findings
use Rattle.runs.specs.declared.reply.Reply.{Reply}
use Rattle.runs.specs.declared.status.Status.{Status}
use Rattle.runs.specs.declared.status.Status.TheVariants.{NoMemory, ReadFault, Usage}
use Rattle.runs.specs.Reading.{AllThere, AreFirstContents, AreStarted, total_length}
use Rattle.runs.specs.Replied.{AreRead, IsRead, IsReplyTo}
use Rattle.runs.specs.Replies.{CannotRead, Replies}
use Rattle.runs.specs.Rows.{File, Rows, answers, reads}
use Rattle.runs.specs.View.{HasReadFile, finding_status, reply_of, status_of, text_of}
use Rattle.runs.proofs.HowItEnds.{answered, counted_on, stopped}

-- the answer after what was read, or out of memory: none of them is a fault of reading, or that words have no form
pub record EndsAfter (rows : Rows) (contents : List (List ℕ)) (status : Status) (text : List ℕ) : Type 0 where
  pub ends : rows contents (answers status text) ⊎ ((status ≡ NoMemory) × (text ≡ []))
  pub no_fault : status ≡ ReadFault → ⊥

answer_no_fault : (finding : Finding) → finding_status finding ≡ ReadFault → ⊥
answer_no_fault findings.Done e = cc
answer_no_fault findings.DocFault e = cc
answer_no_fault findings.Clash e = cc
answer_no_fault findings.EvidenceFault e = cc
answer_no_fault findings.UnknownName e = cc

-- an answer is one
pub ends_by : {E : Type 0} (rows : Rows) (contents : List (List ℕ)) (r : Result Answer E) → IfOk r (λ answer. rows contents (answers (finding_status answer.finding) answer.text.items))
    → EndsAfter rows contents (status_of (reply_of r)) (text_of (reply_of r))
ends_by rows contents (Ok answer) row = record { ends = inl row; no_fault = answer_no_fault answer.finding }
ends_by rows contents (Err error) row = record { ends = inr (refl, refl); no_fault = λ e. cc }

-- no name was started
none_started : (started : Option (List (List ℕ))) → StartsSince started started []
none_started None = tt
none_started (Some names) = sym (append-nil names)

-- one name was started, and then another
both_started : (before middle now : Option (List (List ℕ))) (name next : List ℕ) → StartsSince before middle (name ∷ []) → StartsSince middle now (next ∷ []) → StartsSince before now (name ∷ next ∷ [])
both_started before middle None name next h k = tt
both_started before None (Some now) name next h k = absurd k
both_started None (Some middle) (Some now) name next h k = absurd h
both_started (Some before) (Some middle) (Some now) name next h k = k ∙ ap (λ (names : List (List ℕ)). names ++ next ∷ []) h ∙ append_assoc before (name ∷ []) (next ∷ [])

-- it is a reply
replied : (known : Option Files) (rows : Rows) (contents : List (List ℕ)) (status : Status) (text : List ℕ) (taken : ℕ)
    → AreFirstContents known rows contents → EndsAfter rows contents status text → taken ≡ total_length contents → Replies known rows status text taken
replied known rows contents status text taken reading after e = elim after.ends [
  | inl row ↦ answered known rows contents status text taken reading row e
  | inr aborted ↦ record { contents = contents; reading = reading; part = 0; ends = inr (inr (aborted.0, aborted.1, refl)); bytes = omega (arith, e) }
]

-- nothing was read
pub none_read : (old : KnownInputs) → AreRead [] old old
none_read old = record { files = refl; sound = refl; faults = omega arith; calls = (omega arith, omega arith); follows = λ few. omega arith }

-- a file was read, and more may have been
one_read : (limit : ℕ) (more : List ℕ) (old new : KnownInputs) → AreRead (limit ∷ []) old new → AreRead (limit ∷ more) old new
one_read limit more old new read = record {
  files = read.files;
  sound = read.sound;
  faults = read.faults;
  calls = (read.calls.0, omega (arith, read.calls.1));
  follows = λ few. omega (arith, read.follows few);
}

-- two files were read
both_read : (one other : ℕ) (old mid new : KnownInputs) → AreRead (one ∷ []) old mid → AreRead (other ∷ []) mid new → mid.given ≤ new.given → AreRead (one ∷ other ∷ []) old new
both_read one other old mid new first second given = record {
  files = second.files ∙ first.files;
  sound = second.sound ∙ first.sound;
  faults = omega (arith, first.faults, second.faults);
  calls = (omega (arith, first.calls.0, second.calls.0), omega (arith, first.calls.1, second.calls.1));
  follows = λ few.
      let before = first.follows (omega (arith, few, given)) in
      let after = second.follows few in
      omega (arith, before, after);
}

module _ {S : Type 0} (known : S → KnownInputs) (rows : Rows) where
  -- no file is read
  pub by_none : (now : S) (status : Status) (text : List ℕ) → EndsAfter rows [] status text → IsReplyTo known rows [] now now status text
  by_none now status text after = record {
    replies = (0, replied (known now).files rows [] status text 0 tt after (omega arith), omega arith);
    started = ([], none_started (known now).started, tt);
    fault = λ e. absurd (after.no_fault e);
    no_fault = λ sound there. refl;
    untouched = λ none. refl;
    read = none_read (known now);
  }

  module _ (first : File) (more : List ℕ) (old new : S) (row : rows [] (reads first)) where
    -- the first file cannot be read
    pub by_failing : (reply : Reply) → IsRead first (Err reply) (known old) (known new) → IsReplyTo known rows (first.limit ∷ more) old new (status_of reply) (text_of reply)
    by_failing reply read = record {
      replies = (read.gives.0, stopped (known old).files rows [] first (status_of reply) (text_of reply) read.gives.0 read.gives.0 tt row read.gives.1 (omega arith), read.gives.2);
      started = (first.name ∷ [], read.started, (first, row, refl));
      fault = read.fault;
      no_fault = λ sound there. read.no_fault sound (there first ([], tt, row));
      untouched = λ none. absurd (none first ([], tt, row));
      read = one_read first.limit more (known old) (known new) read.read;
    }

    -- it is read, and the reply is by what it holds
    pub by_one : (bytes : List ℕ) (status : Status) (text : List ℕ) → IsRead first (Ok bytes) (known old) (known new) → EndsAfter rows (bytes ∷ []) status text
        → IsReplyTo known rows (first.limit ∷ more) old new status text
    by_one bytes status text read after = record {
      replies = (read.gives.0, replied (known old).files rows (bytes ∷ []) status text read.gives.0 (first, row, read.gives.1.0, tt) after (omega (arith, read.gives.1.1)), read.gives.2);
      started = (first.name ∷ [], read.started, (first, row, refl));
      fault = λ e. absurd (after.no_fault e);
      no_fault = λ sound there. read.no_fault sound (there first ([], tt, row));
      untouched = λ none. absurd (none first ([], tt, row));
      read = one_read first.limit more (known old) (known new) read.read;
    }

    module _ (second : File) (mid : S) (one : List ℕ) (read : IsRead first (Ok one) (known old) (known mid)) (next : rows (one ∷ []) (reads second)) where
      -- what is known of both reads, by the files that are known at first
      still : (result : Result (List ℕ) Reply) → IsRead second result (known mid) (known new) → CountsTaken (known mid).given (known new).given (HasReadFile (known old).files second result)
      still result then_read = subst (λ (files : Option Files). CountsTaken (known mid).given (known new).given (HasReadFile files second result)) read.read.files then_read.gives

      no_fault : (result : Result (List ℕ) Reply) → IsRead second result (known mid) (known new) → (known old).sound ≡ true → AllThere (known old).files rows → (known new).faults ≡ (known old).faults
      no_fault result then_read sound there =
          let reached = there second (one ∷ [], (first, row, read.gives.1.0, tt), next) in
          let is_there = subst (λ (files : Option Files). IsThere files second.name) (sym read.read.files) reached in
          then_read.no_fault (read.read.sound ∙ sound) is_there ∙ read.no_fault sound (there first ([], tt, row))

      started : (result : Result (List ℕ) Reply) → IsRead second result (known mid) (known new) → (names : List (List ℕ)) × StartsSince (known old).started (known new).started names × AreStarted (known old).files rows names
      started result then_read = (
        first.name ∷ second.name ∷ [],
        both_started (known old).started (known mid).started (known new).started first.name second.name read.started then_read.started,
        (first, one, row, refl, read.gives.1.0, (second, next, refl)),
      )

      both : (result : Result (List ℕ) Reply) → IsRead second result (known mid) (known new) → AreRead (first.limit ∷ second.limit ∷ []) (known old) (known new)
      both result then_read = both_read first.limit second.limit (known old) (known mid) (known new) read.read then_read.read (omega (arith, then_read.gives.2))

      -- the second file cannot be read
      pub by_failing_second : (reply : Reply) → IsRead second (Err reply) (known mid) (known new) → IsReplyTo known rows (first.limit ∷ second.limit ∷ []) old new (status_of reply) (text_of reply)
      by_failing_second reply then_read =
          let gives = still (Err reply) then_read in
          record {
            replies = (
              read.gives.0 + gives.0,
              stopped (known old).files rows (one ∷ []) second (status_of reply) (text_of reply) gives.0 (read.gives.0 + gives.0) (first, row, read.gives.1.0, tt) next gives.1 (omega (arith, read.gives.1.1)),
              counted_on (known old).given (known mid).given (known new).given read.gives.0 gives.0 read.gives.2 gives.2,
            );
            started = started (Err reply) then_read;
            fault = λ e. omega (arith, read.read.faults, then_read.fault e);
            no_fault = no_fault (Err reply) then_read;
            untouched = λ none. absurd (none first ([], tt, row));
            read = both (Err reply) then_read;
          }

      -- it is read too, and the reply is by what both hold
      pub by_both : (other : List ℕ) (status : Status) (text : List ℕ) → IsRead second (Ok other) (known mid) (known new) → EndsAfter rows (one ∷ other ∷ []) status text
          → IsReplyTo known rows (first.limit ∷ second.limit ∷ []) old new status text
      by_both other status text then_read after =
          let gives = still (Ok other) then_read in
          record {
            replies = (
              read.gives.0 + gives.0,
              replied (known old).files rows (one ∷ other ∷ []) status text (read.gives.0 + gives.0) (first, row, read.gives.1.0, (second, next, gives.1.0, tt)) after (omega (arith, read.gives.1.1, gives.1.1)),
              counted_on (known old).given (known mid).given (known new).given read.gives.0 gives.0 read.gives.2 gives.2,
            );
            started = started (Ok other) then_read;
            fault = λ e. absurd (after.no_fault e);
            no_fault = no_fault (Ok other) then_read;
            untouched = λ none. absurd (none first ([], tt, row));
            read = both (Ok other) then_read;
          }
