use Rattle.std.proofs.Common.{◌≡◌, ◌+◌, ◌<◌, ◌≤◌, ◌==◌, ◌∙◌, ◌++◌, ◌∷◌, [], true, false, List, length, slice_index_or, arith, refl, sym, ap, subst}
use Rattle.std.specs.Prelude.{bit_and}
use Rattle.std.proofs.lemmas.List.{get_or-map, length-map}
use Rattle.net_core.specs.Atoms.{orders_of}
use Rattle.net_core.specs.Rels.{all_rels}
use Rattle.net_core.specs.declared.rels.Rel.TheVariants as rel
use Rattle.derive_rel.specs.Entailed.{IsRow}
use Rattle.derive_rel.specs.Pairs.{mask_for}
use Rattle.derive_rel.specs.Pushing.{ArePutLast}
use Rattle.derive_rel.specs.declared.pairs.Mask.{Mask}
use Rattle.order_closure.specs.Between.{mask_of}
use Rattle.derive_rel.proofs.Masks.{mask_entails}
use Rattle.derive_rel.proofs.Turns.{IsOfFirst, last_relation, no_relation, one_relation, rel_at, row_of}
use Rattle.derive_rel.proofs.all_rows.push_all.Goals as goal
use Rattle.derive_rel.proofs.all_rows.push_all.Goals.{then-is_in+in_ok-push, else-is_in}

pub loop-mask-preserved : goal.loop-mask-preserved
loop-mask-preserved c =
    let table = c.args.closed.now in
    let a = c.args.a in
    let b = c.args.b in
    let before = c.args.rows.now in
    let rows = c.loop-mask.rows in
    let k = c.loop-mask.mask-index in
    let r = rel_at k in
    let set = c.orders_between-given.result in
    let none : Mask = record { rel = rel.Before; bits = 0 } in
    let lt : k < length all_rels = omega (arith, c.loop-mask-test.true, ap length c.requires.masks, length-map all_rels mask_for) in
    let is : slice_index_or c.args.masks.now k none ≡ mask_for r = ap (λ (masks : List Mask). slice_index_or masks k none) c.requires.masks ∙ get_or-map mask_for all_rels k rel.Before none lt in
    let test : c.is_in.result ≡ (bit_and set (mask_of (orders_of r)) == mask_of (orders_of r)) = c.is_in.ensures ∙ ap (λ (mask : Mask). bit_and set mask.bits == mask.bits) is in
    let entails = mask_entails table a b set r c.orders_between-given.ensures in
    elim c.if-is_in.branch [
      | then-is_in+in_ok-push w ↦
          subst (ArePutLast (IsRow table) (IsOfFirst a b (k + 1)) before) (sym (w.rows-is ∙ w.in_ok-push.ensures.ok ∙ ap (λ (mask : Mask). rows ++ row_of a b mask.rel ∷ []) is))
          (one_relation (IsRow table) a b before rows k r lt refl (c.requires.a, c.requires.b, entails.0 (sym test ∙ w.if-is_in.true)) c.loop-mask.invariant)
      | else-is_in w ↦
          subst (ArePutLast (IsRow table) (IsOfFirst a b (k + 1)) before) (sym w.rows-is)
          (no_relation (IsRow table) a b before rows k r refl (λ row. let both : true ≡ false = sym (entails.1 row.2) ∙ sym test ∙ w.if-is_in.false in cc) c.loop-mask.invariant)
    ]

pub returns : goal.returns
returns c =
    let past : length all_rels ≤ c.loop-mask.mask-index = omega (arith, c.loop-mask-test.false, ap length c.requires.masks, length-map all_rels mask_for) in
    last_relation (IsRow c.args.closed.now) c.args.a c.args.b c.args.rows.now c.loop-mask.rows c.loop-mask.mask-index past c.loop-mask.invariant
