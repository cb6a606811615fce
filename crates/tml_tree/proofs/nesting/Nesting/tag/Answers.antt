use Rattle.std.proofs.Common.{◌≡◌, false, true, nat_le, length, refl, subst, arith}
use Rattle.std.proofs.lemmas.Grind.{common_steps}
use Rattle.tml_tree.specs.Rules.{History}
use Rattle.tml_tree.specs.TagNames.{text_of, all_tags}
use Rattle.named.proofs.Tables.{named_some, named_none}
use Rattle.tml_tree.proofs.Known.{fault_by, tag_fault_by, is_deep, is_flat}
use Rattle.tml_tree.proofs.nesting.Nesting.tag.Goals as goal

pub returns-in_default : goal.returns-in_default
returns-in_default c = (fault_by c.args.self.now c.args.name.now false _ _ (named_none text_of all_tags c.args.name.now (cc)) refl refl, refl)

pub returns-then-is_misplaced : goal.returns-then-is_misplaced
returns-then-is_misplaced c = (tag_fault_by c.args.self.now c.args.name.now c.in-Some.tag true _ (cc) (cc) refl, refl)

pub returns-then-len-ge-MOST_OPEN : goal.returns-then-len-ge-MOST_OPEN
returns-then-len-ge-MOST_OPEN c =
    let deep = subst (λ (h : History). nat_le 32 (length h.names) ≡ true) c.self.view_is (is_deep c.self.inside.open.items (grind (arith, common_steps))) in
    (tag_fault_by c.args.self.now c.args.name.now c.in-Some.tag false true (cc) (cc) deep, refl)

pub returns : goal.returns
returns c =
    let flat = subst (λ (h : History). nat_le 32 (length h.names) ≡ false) c.self.view_is (is_flat c.self.inside.open.items (grind (arith, common_steps))) in (
      tag_fault_by c.args.self.now c.args.name.now c.in-Some.tag false false (cc) (cc) flat,
      (named_some text_of all_tags c.args.name.now c.in-Some.tag (cc)).0,
    )
