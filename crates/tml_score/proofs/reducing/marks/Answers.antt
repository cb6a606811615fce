use Rattle.std.proofs.Common.{◌≡◌, ◌+◌, ◌<◌, ℕ, Bool, true, false, List, length, replicate, slice_set, ap, sym, subst, ◌∙◌, arith, rules}
use Rattle.net_core.specs.Nets.{PlainNet}
use Rattle.order_closure.specs.Tables.{Table}
use Rattle.tml_score.specs.Reducing.{AreDecided, DecidesLink}
use Rattle.tml_score.specs.Search.{Basis}
use Rattle.tml_score.specs.Trees.{AreTrees}
use Rattle.tml_score.specs.declared.graph.Graph.{Graph}
use Rattle.tml_score.proofs.Redundancy.{decided_left_out, decided_kept, none_decided}
use Rattle.tml_score.proofs.TreeLaws.{ready_so_far}
use Rattle.tml_score.proofs.reducing.marks.Goals as goal
use Rattle.tml_score.proofs.reducing.marks.Goals.{then-branch, else-branch}

-- what a search goes by, with these marks
abbrev with_marks : PlainNet → Table → Graph → List Bool → Basis
with_marks net table graph keep = record { net = net; table = table; graph = graph; keep = keep }

pub new-requires-2 : goal.new-requires-2
new-requires-2 c =
    let net = c.args.net.now in
    let all : c.deref.result.now ≡ replicate (length net.links) true = c.deref.ensures.value ∙ c.in_ok-keep.ensures.items_if_clones_equal (λ y e. e) ∙ ap (λ (n : ℕ). replicate n true) c.links.ensures.count in
    ready_so_far (with_marks net c.args.table.now c.args.graph.now c.deref.result.now) 0 c.links.ensures.net c.requires.fits c.requires.closure c.requires.graph (subst (AreDecided net 0) (sym all) (none_decided net))

pub loop-link-init : goal.loop-link-init
loop-link-init c =
    let net = c.args.net.now in
    let all : c.in_ok-keep.keep.items ≡ replicate (length net.links) true = c.in_ok-keep.ensures.items_if_clones_equal (λ y e. e) ∙ ap (λ (n : ℕ). replicate n true) c.links.ensures.count in
    record {
      end = c.links-link-end.ensures.count;
      room = (c.in_ok-sides.ensures.0 ∙ c.points.ensures.points ∙ c.requires.closure.size, c.in_ok-sides.ensures.1 ∙ c.points.ensures.points ∙ c.requires.closure.size);
      trees = subst (λ (ks : List Bool). AreTrees (with_marks net c.args.table.now c.args.graph.now ks) c.in_ok-trees.trees) c.deref.ensures.value c.in_ok-trees.ensures;
      so_far = subst (AreDecided net 0) (sym all) (none_decided net);
    }

pub link_follows-requires : goal.link_follows-requires
link_follows-requires c =
    let net = c.args.net.now in
    let link = c.loop-link.link in
    let so_far : AreDecided net link c.deref-in-loop-link.result.now = subst (AreDecided net link) (sym c.deref-in-loop-link.ensures.value) c.loop-link.invariant.so_far in
    let below : link < length net.links = omega (arith, c.loop-link-test.true, c.loop-link.invariant.end) in
    record {
      ready = ready_so_far (with_marks net c.args.table.now c.args.graph.now c.deref-in-loop-link.result.now) link c.links.ensures.net c.requires.fits c.requires.closure c.requires.graph so_far;
      link = below;
      kept = so_far.later link (omega arith) below;
      trees = subst (λ (ks : List Bool). AreTrees (with_marks net c.args.table.now c.args.graph.now ks) c.loop-link.trees) (sym c.deref-in-loop-link.ensures.value) c.loop-link.invariant.trees;
      room = c.loop-link.invariant.room;
    }

pub loop-link-preserved : goal.loop-link-preserved
loop-link-preserved c =
    let net = c.args.net.now in
    let link = c.loop-link.link in
    let keep = c.loop-link.keep.items in
    let basis : List Bool → Basis = with_marks net c.args.table.now c.args.graph.now in
    let was = c.loop-link.invariant in
    let below : link < length net.links = omega (arith, c.loop-link-test.true, was.end) in
    let value = c.deref-in-loop-link.ensures.value in
    let decides : DecidesLink net keep link c.in_ok-link_follows.field-0 = subst (λ (ks : List Bool). DecidesLink net ks link c.in_ok-link_follows.field-0) value c.in_ok-link_follows.ensures.decides in
    let trees : AreTrees (basis keep) c.link_follows.new.trees = subst (λ (ks : List Bool). AreTrees (basis ks) c.link_follows.new.trees) value c.in_ok-link_follows.ensures.trees in
    elim c.if-branch.branch [
      | then-branch w ↦
          let now : c.if-branch.keep.items ≡ slice_set keep link false = search rules in
          let cut : AreTrees (basis (slice_set keep link false)) w.cut.new.self = w.cut.ensures (basis keep) trees in
          record {
            end = was.end;
            room = c.in_ok-link_follows.ensures.room;
            trees = subst (λ (ks : List Bool). AreTrees (basis ks) c.if-branch.trees) (sym now) (subst (AreTrees (basis (slice_set keep link false))) (sym w.trees-is) cut);
            so_far = subst (AreDecided net (link + 1)) (sym now) (decided_left_out net link keep was.so_far below (subst (DecidesLink net keep link) w.if-branch.true decides));
          }
      | else-branch w ↦
          let now : c.if-branch.keep.items ≡ keep = ap (λ v. v.items) w.keep-is in
          record {
            end = was.end;
            room = c.in_ok-link_follows.ensures.room;
            trees = subst (λ (ks : List Bool). AreTrees (basis ks) c.if-branch.trees) (sym now) (subst (AreTrees (basis keep)) (sym w.trees-is) trees);
            so_far = subst (AreDecided net (link + 1)) (sym now) (decided_kept net link keep was.so_far below (subst (DecidesLink net keep link) w.if-branch.false decides));
          }
    ]

pub returns : goal.returns
returns c =
    let end : c.loop-link.link ≡ length c.args.net.now.links = omega arith in
    subst (λ (n : ℕ). AreDecided c.args.net.now n c.loop-link.keep.items) end c.loop-link.invariant.so_far
