use Rattle.std.proofs.Common.{◌≡◌, get_or, rules}
use Rattle.line_texts.proofs.Digits.{zero_read}
use Rattle.line_texts.proofs.words.long_to.Goals as goal

pub returns-in_ok-after_byte-in-48 : goal.returns-in_ok-after_byte-in-48
returns-in_ok-after_byte-in-48 c =
    let zero : get_or c.args.bytes.now 0 0 ≡ 48 = search rules in
    zero_read c.args.stop c.args.bytes.now c.in_ok-after_byte-in-48.field-0.now c.in-len1-up.len_at_least zero c.if-first-stop.false c.in_ok-after_byte-in-48.ensures
