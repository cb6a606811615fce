use Rattle.std.proofs.Common.{◌≡◌, List, ◌<◌, ◌/◌, length, ◌++◌, ◌∷◌, [], get_or, set, Bool, false, true, subst, sym, ap, ◌∙◌, arith, rules}
use Rattle.walks.specs.States.{AreMarked}
use Rattle.walks.specs.declared.states.Entry.{Entry}
use Rattle.walks.proofs.StateLaws.{marked_push}
use Rattle.walks.proofs.states.States.visit.Goals as goal

pub invariant_of-self-2 : goal.invariant_of-self-2
invariant_of-self-2 c =
    let entries = c.self.inside.entries.items in
    let seen = c.self.inside.seen.items in
    let lt : c.args.entry.point < length seen / 2 = omega (arith, ap (λ v. v.points) c.self.view_is) in
    let no_mark : get_or seen c.place_of-place.result false ≡ false = subst (λ (b : Bool). get_or seen c.place_of-place.result b ≡ false) c.if-index.false (sym c.index.ensures ∙ c.if-index.false) in
    let pushed : c.push.new.self.items ≡ entries ++ c.args.entry ∷ [] = search rules in
    subst (λ (es : List Entry). AreMarked es (set seen c.place_of-place.result true)) (sym pushed) (marked_push entries seen c.args.entry c.place_of-place.result c.place_of-place.ensures lt no_mark c.self.invariant)
