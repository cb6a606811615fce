use Rattle.std.proofs.lemmas.Bool.{false≢true}
use Rattle.tml_span.proofs.ClosedUnits.{lead_declaration, declaration_unnamed, declaration_unclosed}
use Rattle.tml_span.proofs.enclosed.declaration_at.Goals as goal

pub returns-then-not-begins_with_word-clause-unit : goal.returns-then-not-begins_with_word-clause-unit
returns-then-not-begins_with_word-clause-unit c =
    declaration_unnamed _ _ (lead_declaration c.args.bytes.now c.requires.prefix) (λ h. false≢true (c.if-not-begins_with_word.ensures.1 h))

pub returns-in_err-text-clause-unit : goal.returns-in_err-text-clause-unit
returns-in_err-text-clause-unit c = rw c.from_residual.ensures (declaration_unclosed _ _ (lead_declaration c.args.bytes.now c.requires.prefix) c.in_err-text.ensures.none)
