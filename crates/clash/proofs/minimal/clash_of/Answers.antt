use Rattle.std.proofs.Common.{◌↔◌, ℕ, Bool, List, Option, subst}
use Rattle.std.specs.List.{Contains}
use Rattle.std.specs.Option.{IfSome}
use Rattle.net_core.specs.Least.{AreSpares}
use Rattle.net_core.specs.Walks.{Kept}
use Rattle.net_core.specs.declared.ranks.Ranks.{Ranks}
use Rattle.clash.proofs.Proved.{proved_clash}
use Rattle.clash.proofs.Spared.{spares_needed}
use Rattle.clash.proofs.minimal.clash_of.Goals as goal

pub returns-in-Some : goal.returns-in-Some
returns-in-Some c =
    let net = c.args.net.now in
    let closed = c.args.first in
    let over = closed.over.items in
    let cites = c.in_ok-cites.cites in
    let exact = subst (λ (marks : List Bool). (k : ℕ) → Contains cites k ↔ Kept marks k) c.deref.ensures.value c.in_ok-cites.ensures.exact in
    let spares = subst (λ (xs : List ℕ). AreSpares net (Kept over) xs c.in-Some.spares) c.as_slice.ensures
    (subst (λ (o : Option (List Ranks)). IfSome o (AreSpares net (Kept over) c.as_slice.result.now)) c.in-Some.is c.in_ok-spares.ensures) in
    proved_clash net cites closed c.requires.closed exact (λ k kept. spares_needed net (Kept over) cites c.in-Some.spares spares k ((exact k).1 kept)) c.in-Some.spares c.in_ok-cites.ensures.rising spares

pub returns : goal.returns
returns c =
    let net = c.args.net.now in
    let closed = c.in_ok-closed.closed in
    let cites = c.in_ok-cites-2.cites in
    let exact = subst (λ (marks : List Bool). (k : ℕ) → Contains cites k ↔ Kept marks k) c.deref-2.ensures.value c.in_ok-cites-2.ensures.exact in
    proved_clash net cites closed c.in_ok-closed.ensures.closed exact c.in_ok-closed.ensures.spared c.in_ok-spares-2.spares c.in_ok-cites-2.ensures.rising
    (subst (λ (xs : List ℕ). AreSpares net (Kept closed.over.items) xs c.in_ok-spares-2.spares) c.as_slice-2.ensures c.in_ok-spares-2.ensures)
