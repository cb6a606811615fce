use Rattle.std.proofs.Common.{◌≡◌, ◌<◌, ◌≤◌, List, length, get_or, ap, refl, sym, ◌∙◌, arith}
use Rattle.std.specs.List.{filter}
use Rattle.std.proofs.lemmas.List.{take_all}
use Rattle.std.proofs.lemmas.List.Elements.{All-push}
use Rattle.net_core.specs.Rels.{all_rels}
use Rattle.net_core.specs.declared.rels.Rel.{Rel}
use Rattle.net_core.specs.declared.rels.Rel.TheVariants as rel
use Rattle.order_closure.specs.Tables.{Keeps}
use Rattle.tml_possible.specs.Possible.{IsShown}
use Rattle.tml_possible.specs.Sets.{has}
use Rattle.tml_possible.specs.declared.timelines.PossibleItem.{PossibleItem}
use Rattle.tml_possible.proofs.Lists.{item_more, no_item_more, only_bases}
use Rattle.tml_possible.proofs.timelines.possible.Goals as goal
use Rattle.tml_possible.proofs.timelines.possible.Goals.{then-has+in_ok-ranks+in_ok-push, else-has}

pub loop-rel-preserved : goal.loop-rel-preserved
loop-rel-preserved c =
    let table = c.args.closed.now in
    let IsGood : PossibleItem → Type 0 = IsShown table.points (Keeps table) c.args.a c.args.b in
    let k = c.loop-rel.rel-index in
    let rels = c.loop-rel.invariant.rels in
    let x = get_or c.all-rel-items.result.now k rel.Before in
    let lt : k < length all_rels = omega (arith, c.loop-rel-test.true, ap length rels) in
    let is : get_or all_rels k rel.Before ≡ x = sym (ap (λ (xs : List Rel). get_or xs k rel.Before) rels) in
    let test = has c.possible_set-set.result in
    let before = c.loop-rel.invariant.relations in record {
      rels = rels;
      relations = elim c.if-has.branch [
        | then-has+in_ok-ranks+in_ok-push w ↦ rw (w.items-is, w.in_ok-push.ensures.ok) (item_more test c.loop-rel.items (record { rel = x; ranks = w.in_ok-ranks.ranks }) k lt is before (sym c.has.ensures ∙ w.if-has.true))
        | else-has w ↦ rw w.items-is (no_item_more test c.loop-rel.items k x lt is before (sym c.has.ensures ∙ w.if-has.false))
      ];
      shown = elim c.if-has.branch [
        | then-has+in_ok-ranks+in_ok-push w ↦ rw (w.items-is, w.in_ok-push.ensures.ok) (All-push IsGood c.loop-rel.items (record { rel = x; ranks = w.in_ok-ranks.ranks }) c.loop-rel.invariant.shown w.in_ok-ranks.ensures)
        | else-has w ↦ rw w.items-is c.loop-rel.invariant.shown
      ];
    }

pub returns : goal.returns
returns c =
    let set = c.possible_set-set.result in
    let k = c.loop-rel.rel-index in
    let past : length all_rels ≤ k = omega (arith, c.loop-rel-test.false, ap length c.loop-rel.invariant.rels) in record {
      relations = (
        has set,
        λ r base. (λ h. ((c.possible_set-set.ensures r).0 h).1, λ can. (c.possible_set-set.ensures r).1 (base, can)),
        c.loop-rel.invariant.relations ∙ ap (filter (has set)) (take_all k all_rels past) ∙ only_bases (has set) refl refl refl,
      );
      shown = c.loop-rel.invariant.shown;
    }
