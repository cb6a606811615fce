use Rattle.std.proofs.Common.{◌∙◌, sym, ap, refl, arith}
use mathlib.Core.Bool.{true≢false}
use Rattle.std.specs.Option.{is_none}
use Rattle.std.proofs.lemmas.List.Elements.{Contains-get_or}
use Rattle.tml_refs.specs.declared.links.NamedLink.{NamedLink}
use Rattle.tml_refs.specs.Firsts.{bound}
use Rattle.tml_refs.specs.Linking.{IsLinked, IsLooseAt, is_loose}
use Rattle.tml_refs.proofs.Earliest.{earlier_here}
use Rattle.tml_refs.proofs.Failing.{fails_next, passes_next, zip_next}
use Rattle.tml_refs.proofs.links.link_up.Goals as goal
use Rattle.tml_refs.proofs.links.link_up.Goals.{in-Some+in_ok-push-in-Some, in-None}

pub loop-link-preserved : goal.loop-link-preserved
loop-link-preserved c =
    let names = c.args.names.now in
    let named = c.args.named.now in
    let loop = c.loop-link in
    let inside = c.loop-link-test.true in
    let place = λ (n : NamedLink). n.place in
    let fails = is_loose names in
    elim c.match-link.branch [
      | in-Some+in_ok-push-in-Some w ↦
          let good = sym c.link.ensures.none ∙ ap is_none w.in-Some.is in
          let made = w.in-Some.ensures in
          record {
            links = λ none.
                zip_next (IsLinked names) named loop.link-index _ loop.links c.match-link.links w.in-Some.link inside (loop.invariant.links (λ k d below. none k d (omega (arith, below)))) (made.left, made.rel, made.right) (w.links-is ∙ w.in_ok-push-in-Some.ensures.ok);
            before = passes_next named place fails loop.link-index (bound loop.loose) (bound c.match-link.loose) _ inside loop.invariant.before good (ap bound w.loose-is);
            here = rw w.loose-is loop.invariant.here;
          }
      | in-None w ↦
          let bad = sym c.link.ensures.none ∙ ap is_none w.in-None.is in
          let new = ap bound w.loose-is ∙ w.earlier-loose.ensures in
          record {
            links = λ none. absurd (true≢false (sym bad ∙ none loop.link-index _ (omega arith)));
            before = fails_next named place fails loop.link-index (bound loop.loose) (bound c.match-link.loose) _ inside loop.invariant.before new;
            here = earlier_here (IsLooseAt names named) (bound loop.loose) _ (bound c.match-link.loose) new loop.invariant.here (λ small. (_, Contains-get_or named loop.link-index _ inside, refl, bad));
          }
    ]
