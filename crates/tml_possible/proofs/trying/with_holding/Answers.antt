use Rattle.std.proofs.Common.{◌≡◌, ◌<◌, ◌≤◌, List, length, get_or, take, ap, sym, arith}
use Rattle.std.proofs.lemmas.List.{take_all}
use Rattle.net_core.specs.Relations.{Holds}
use Rattle.net_core.specs.Rels.{all_rels}
use Rattle.net_core.specs.declared.rels.Rel.{Rel}
use Rattle.net_core.specs.declared.rels.Rel.TheVariants as rel
use Rattle.tml_possible.proofs.Growing.{all_taken, further, no_further}
use Rattle.tml_possible.proofs.trying.with_holding.Goals as goal
use Rattle.tml_possible.proofs.trying.with_holding.Goals.{then-holds, else-holds}

pub loop-rel-preserved : goal.loop-rel-preserved
loop-rel-preserved c =
    let HoldsHere : Rel → Type 0 = λ r. Holds c.args.of_a r c.args.of_b in
    let k = c.loop-rel.rel-index in
    let items = c.loop-rel.invariant.items in
    let x = get_or c.all-rel-items.result.now k rel.Before in
    let lt : k < length all_rels = omega (arith, c.loop-rel-test.true, ap length items) in
    let is : get_or all_rels k rel.Before ≡ x = sym (ap (λ (rels : List Rel). get_or rels k rel.Before) items) in
    let more = c.loop-rel.invariant.more in record {
      items = items;
      more = elim c.if-holds.branch [
        | then-holds w ↦ rw w.more-is (further HoldsHere c.args.set k x lt is c.loop-rel.more more w.with-more.result w.with-more.ensures (c.holds.ensures.0 w.if-holds.true))
        | else-holds w ↦ rw w.more-is (no_further HoldsHere c.args.set k x lt is c.loop-rel.more more (λ h. let yes = c.holds.ensures.1 h in let no = w.if-holds.false in cc))
      ];
    }

pub returns : goal.returns
returns c =
    let k = c.loop-rel.rel-index in
    let past : length all_rels ≤ k = omega (arith, c.loop-rel-test.false, ap length c.loop-rel.invariant.items) in
    all_taken (λ r. Holds c.args.of_a r c.args.of_b) c.args.set c.loop-rel.more (take k all_rels) (take_all k all_rels past) c.loop-rel.invariant.more
