use Rattle.std.proofs.Common.{◌≡◌, List, ℕ, [], ◌∷◌, ◌++◌, subst, sym, ap, ◌∙◌, rules}
use Rattle.net_core.specs.Ranks.{AreEven, pairs_of}
use Rattle.net_core.proofs.RankLaws.{even_push, pairs_push}
use Rattle.net_core.proofs.ranks.Ranks.push.Goals as goal

pub invariant_of-self-2 : goal.invariant_of-self-2
invariant_of-self-2 c =
    let all : c.extend_from_slice.new.self.items ≡ c.self.inside.items.items ++ c.args.start ∷ c.args.finish ∷ [] = search rules in
    subst AreEven (sym all) (even_push c.self.inside.items.items c.args.start c.args.finish c.self.invariant)

pub returns-clause-pairs : goal.returns-clause-pairs
returns-clause-pairs c =
    let all : c.extend_from_slice.new.self.items ≡ c.self.inside.items.items ++ c.args.start ∷ c.args.finish ∷ [] = search rules in
    let more = pairs_push c.self.inside.items.items c.args.start c.args.finish c.self.invariant in
    ap pairs_of all ∙ more ∙ ap (λ (ts : List ℕ). pairs_of ts ++ (c.args.start, c.args.finish) ∷ []) c.self.view_is
