use Rattle.std.proofs.Common.{◌≤◌, List, ℕ, Some, None, length, subst, arith}
use Rattle.memchr.specs.Find.{IsFirstByte, is_byte}
use Rattle.tml_span.proofs.Searching.{first_near, first_far, none_far}
use Rattle.tml_span.proofs.bytes.index_of.Goals as goal

pub returns-in-Some : goal.returns-in-Some
returns-in-Some c =
    let within : c.min-few.result ≤ length c.args.bytes.now = omega (arith, c.min-few.ensures) in
    first_near (is_byte c.args.b) c.args.bytes.now c.min-few.result c.in-Some.index within (subst (λ (near : List ℕ). IsFirstByte (is_byte c.args.b) near (Some c.in-Some.index)) c.split_at.ensures.front c.in-Some.ensures)

pub returns : goal.returns
returns c =
    let within : c.min-few.result ≤ length c.args.bytes.now = omega (arith, c.min-few.ensures) in
    first_far (is_byte c.args.b) c.args.bytes.now c.min-few.result c.in_ok-ahead.ahead within
    (subst (λ (near : List ℕ). IsFirstByte (is_byte c.args.b) near None) c.split_at.ensures.front c.in_default.ensures)
    (subst (λ (far : List ℕ). IsFirstByte (is_byte c.args.b) far (Some c.in_ok-ahead.ahead)) c.split_at.ensures.back c.in_ok-ahead.ensures)

pub returns-in_err-ahead : goal.returns-in_err-ahead
returns-in_err-ahead c =
    let within : c.min-few.result ≤ length c.args.bytes.now = omega (arith, c.min-few.ensures) in
    rw c.from_residual.ensures (none_far (is_byte c.args.b) c.args.bytes.now c.min-few.result within
    (subst (λ (near : List ℕ). IsFirstByte (is_byte c.args.b) near None) c.split_at.ensures.front c.in_default.ensures)
    (subst (λ (far : List ℕ). IsFirstByte (is_byte c.args.b) far None) c.split_at.ensures.back c.in_err-ahead.ensures))
