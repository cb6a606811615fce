-- What a run answers if no device fails.
use Rattle.std.proofs.Common.{◌≡◌, ◌≢◌, ◌↔◌, ℕ, List, [], Option, Some, None, refl, sym, subst, ◌∙◌, true, inl, inr, arith}
use Rattle.tml_c.specs.Answers.{IsReply}
use Rattle.std.specs.Io.KnownBytes.{Appends}
use Rattle.tml_io.specs.Files.{Files}
use Rattle.tml_io.specs.Known.{KnownInputs, KnownSink}
use Rattle.runs.specs.Outcome.{Outcome, Written, before_writing}
use Rattle.runs.specs.Reading.{AllThere}
use Rattle.runs.specs.Replies.{Replies}
use Rattle.runs.specs.declared.status.Status.{Status}
use Rattle.runs.specs.declared.status.Status.TheVariants.{Done, NoMemory, ReadFault, Usage, WriteFault}
use Rattle.runs.specs.Words.{usage_rows}
use Rattle.runs.proofs.HowItEnds.{answered}
use Rattle.tml_tool.specs.Commands.{form_of, limits_of, rows_of, usage as usage_text}
use Rattle.tml_tool.specs.declared.commands.Form.{Form}

-- what an empty sink holds once a text was appended
appended : (old new : Option (List ℕ)) (text bytes : List ℕ) → old ≡ Some [] → new ≡ Some bytes → Appends old new text → bytes ≡ text
appended old new text bytes empty full h = subst (λ (o : Option (List ℕ)). Appends o (Some bytes) text) empty (subst (λ (n : Option (List ℕ)). Appends old n text) full h)

-- a text is written whole, and the status is that of the reply
record IsWhole (status : Status) (text bytes : List ℕ) : Type 0 where
  whole : bytes ≡ text
  kept : before_writing status ≡ status
  no_fault : status ≢ WriteFault

is_whole : (status : Status) (text bytes : List ℕ) (old new : KnownSink) → old.written ≡ Some [] → new.written ≡ Some bytes → old.faults ≡ 0 → new.faults ≡ 0 → Written status text old new → IsWhole status text bytes
is_whole Done text bytes old new empty full before after h = record { whole = appended old.written new.written text bytes empty full h; kept = refl; no_fault = λ e. cc }
is_whole WriteFault text bytes old new empty full before after h = absurd (omega (arith, before, after, h.0))
is_whole status text bytes old new empty full before after (inl h) = record { whole = appended old.written new.written text bytes empty full h; kept = refl; no_fault = λ e. cc }
is_whole status text bytes old new empty full before after (inr h) = absurd (omega (arith, before, after, h.0))

-- what a run over known files wrote to an empty sink is the text of a reply, if no write failed
pub reply_of_run : {I S : Type 0} (inputs : I → KnownInputs) (sink : S → KnownSink) (files : Files) (words : List (List ℕ)) (old new : I) (before after : S) (status : Status) (text : List ℕ)
    → Outcome inputs sink (rows_of (form_of words)) (limits_of (form_of words)) old new before after status → (status ≡ Usage) ↔ (form_of words ≡ None)
    → (inputs old).files ≡ Some files → (inputs old).faults ≡ 0 → (inputs old).sound ≡ true
    → (sink before).written ≡ Some [] → (sink after).written ≡ Some text → (sink before).faults ≡ 0 → (sink after).faults ≡ 0
    → IsReply files words status text
reply_of_run inputs sink files words old new before after status text h usage known none sound empty full whole_before whole_after =
    let rows = rows_of (form_of words) in
    let whole = is_whole status h.text text (sink before) (sink after) empty full whole_before whole_after h.delivered.written in
    let taken = h.reply.replies.0 in
    let by_files = subst (λ (k : Option Files). Replies k rows (before_writing status) h.text taken) known h.reply.replies.1 in
    let reply = subst (λ (s : Status). Replies (Some files) rows s h.text taken) whole.kept by_files in
    record {
      taken = taken;
      replies = subst (λ (t : List ℕ). Replies (Some files) rows status t taken) (sym whole.whole) reply;
      usage = usage;
      no_write_fault = whole.no_fault;
      no_read_fault = λ there is.
          let unchanged = h.reply.no_fault sound (subst (λ (k : Option Files). AllThere k rows) (sym known) there) in
          omega (arith, none, unchanged, h.reply.fault (whole.kept ∙ is));
    }

-- words that have no form are answered by the usage text
pub usage_is_reply : (files : Files) (words : List (List ℕ)) → form_of words ≡ None → IsReply files words Usage usage_text
usage_is_reply files words none = record {
  taken = 0;
  replies = subst (λ (asked : Option (Form × List (List ℕ))). Replies (Some files) (rows_of asked) Usage usage_text 0) (sym none) (answered (Some files) (usage_rows usage_text) [] Usage usage_text 0 tt refl refl);
  usage = (λ e. none, λ n. refl);
  no_write_fault = λ e. cc;
  no_read_fault = λ there e. cc;
}

-- and others may run out of memory
pub no_memory_is_reply : (files : Files) (words : List (List ℕ)) → form_of words ≢ None → IsReply files words NoMemory []
no_memory_is_reply files words form = record {
  taken = 0;
  replies = record { contents = []; reading = tt; part = 0; ends = inr (inr (refl, refl, refl)); bytes = refl };
  usage = (λ e. absurd (cc e), λ none. absurd (form none));
  no_write_fault = λ e. cc;
  no_read_fault = λ there e. cc;
}
