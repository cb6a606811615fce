use Rattle.std.specs.Prelude.{ℕ, Some, codes, nat_eq}
use Rattle.std.proofs.lemmas.Bool.Decides.{Decides-eqb, Decides-like}
use Rattle.std.proofs.lemmas.Slice.Eq.{strip_prefix_is}
use Rattle.tml_span.proofs.Referring.{hex_begins}
use Rattle.tml_span.proofs.references.begins_hex.Goals as goal

pub returns-in-Some : goal.returns-in-Some
returns-in-Some c =
    let whole = strip_prefix_is {A = ℕ} {E = nat_eq} Decides-eqb c.args.bytes.now (codes "&#x") (Some c.in-Some.digits) c.in-Some.ensures.cases in
    let is = hex_begins _ _ _ whole c.hex_digits_len.ensures.len in
    Decides-like _ is.0 is.1 c.is_closed.ensures
