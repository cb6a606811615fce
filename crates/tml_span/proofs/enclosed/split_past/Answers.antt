use Rattle.std.proofs.Common.{◌∙◌, ◌+◌, List, ℕ, drop, take, length, subst, Some}
use Rattle.std.specs.Prelude.{IfNone}
use Rattle.std.proofs.lemmas.List.{take-append-drop}
use Rattle.memchr.specs.Find.{FindsNeedle}
use Rattle.tml_span.specs.Units.{Lacks}
use Rattle.tml_span.proofs.Closings.{none_lacks, before_lacks, past_piece}
use Rattle.tml_span.proofs.enclosed.split_past.Goals as goal

pub returns-in_err-len-clause-none : goal.returns-in_err-len-clause-none
returns-in_err-len-clause-none c =
    subst (λ (inner : List ℕ). IfNone c.from_residual.result (Lacks c.args.close.now inner)) c.split_at.ensures.back (rw c.from_residual.ensures (none_lacks _ _ c.in_err-len.ensures))

pub returns-clause-some : goal.returns-clause-some
returns-clause-some c =
    let len = c.in_ok-len.len in
    let found = subst (λ (inner : List ℕ). FindsNeedle inner c.args.close.now 0 (Some len)) c.split_at.ensures.back c.in_ok-len.ensures in
    let whole = take-append-drop (c.args.opening + len + length c.args.close.now) c.args.bytes.now in (
      take len (drop c.args.opening c.args.bytes.now),
      before_lacks _ _ _ c.requires.some found,
      c.split_at-2.ensures.front ∙ past_piece _ _ _ _ c.requires.within found.1,
      cc whole,
    )
