use Rattle.std.proofs.Common.{sym, subst, arith}
use Rattle.std.proofs.lemmas.List.Elements.{All-get_or}
use Rattle.net_core.proofs.RankLaws.{few_pairs}
use Rattle.order_closure.specs.Tables.{Keeps}
use Rattle.tml_possible.specs.Possible.{IsShown}
use Rattle.tml_possible.specs.declared.timelines.PossibleItem.{PossibleItem}
use Rattle.possible_answers.proofs.possible.items_text.Goals as goal

pub push_item-requires : goal.push_item-requires
push_item-requires c =
    let table = c.args.table.now in
    let IsGood : PossibleItem → Type 0 = IsShown table.points (Keeps table) c.args.a c.args.b in
    let none = c.item-item.result in
    let shown : IsGood c.item-item.result = subst IsGood (sym c.item-item.is) (All-get_or IsGood c.as_slice-item-items.result.now c.loop-item.item-index none c.loop-item-test.true c.loop-item.invariant.shown.shown) in
    omega (arith, few_pairs c.item-item.result.ranks, shown.size, c.points.ensures.few)
