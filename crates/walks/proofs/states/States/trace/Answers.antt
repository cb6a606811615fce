use Rattle.std.proofs.Common.{◌≡◌, ◌<◌, ◌++◌, ◌∷◌, [], List, Some, Option, IfSome, get_or, length, reverse, ap, subst, sym, ◌∙◌, arith, rules}
use Rattle.std.proofs.lemmas.List.{get_or_default, length_push}
use Rattle.net_core.specs.declared.step.Step.{Step}
use Rattle.walks.specs.States.{IsPath, entry_at, start_entry}
use Rattle.walks.specs.declared.states.Arrival.{Arrival}
use Rattle.walks.specs.declared.states.Entry.{Entry}
use Rattle.walks.proofs.StateLaws.{path_more}
use Rattle.walks.proofs.states.States.trace.Goals as goal

pub loop-arrival-preserved : goal.loop-arrival-preserved
loop-arrival-preserved c =
    let entries = c.args.self.now.entries in
    let k = c.loop-arrival.k in
    let arrival = c.in-Some.arrival in
    let within = c.loop-arrival.invariant.within in
    let here = c.index.result.now in
    let at : here ≡ entry_at entries k = subst (λ (es : List Entry). here ≡ get_or es k here) (ap (λ v. v.entries) c.self.view_is) c.index.ensures ∙ get_or_default entries k here (start_entry 0) within in
    let came : (entry_at entries k).arrival ≡ Some arrival = ap (λ (e : Entry). e.arrival) (sym at) ∙ c.in-Some.is in
    let earlier : arrival.parent < k = subst (λ (o : Option Arrival). IfSome o (λ (a : Arrival). a.parent < k)) came (c.requires.earlier k within) in
    let pushed : c.push.new.self.items ≡ c.loop-arrival.steps.items ++ arrival.step ∷ [] = search rules in
    record {
      within = omega arith;
      short = omega (arith, ap length pushed ∙ length_push c.loop-arrival.steps.items arrival.step);
      path = subst (λ (steps : List Step). IsPath entries c.args.last arrival.parent (reverse steps)) (sym pushed) (path_more entries c.args.last k arrival c.loop-arrival.steps.items within came c.loop-arrival.invariant.path);
    }
