use Rattle.std.proofs.Common.{◌≡◌, ◌↔◌, ◌+◌, ◌<◌, ℕ, true, false, IsTrue, length, get_or, count_by, take, sym, ap, subst, ◌∙◌, arith, rules}
use Rattle.std.proofs.lemmas.List.{take_all}
use Rattle.std.proofs.lemmas.List.Elements.{All-contains, All-get_or}
use Rattle.std.proofs.lemmas.List.Sums.{count_by_more_no, count_by_more_yes}
use Rattle.std.proofs.lemmas.Bool.{false_from_ne_true}
use Rattle.net_core.specs.Nets.{link_at}
use Rattle.net_core.specs.declared.net.NetLink.{NetLink}
use Rattle.tml_score.specs.Reduced.{IsReduced}
use Rattle.tml_score.specs.Scoring.{ArePartners, EntailsBetween, annotation_of, annotated_table}
use Rattle.tml_score.proofs.Counted.{both_placed, entails_follows, partners_within, some_test}
use Rattle.tml_score.proofs.Rising.{few_rising}
use Rattle.tml_score.proofs.scoring.matched.Goals as goal
use Rattle.tml_score.proofs.scoring.matched.Goals.{then-follows_between, else-follows_between}

pub link-requires : goal.link-requires
link-requires c =
    let items = c.as_slice-link-items.result.now in
    let reduced = subst (IsReduced c.args.own.net.now) (sym c.as_slice-link-items.ensures) c.in_ok-reduced.ensures in
    All-get_or (λ (k : ℕ). k < length c.args.own.net.now.links) items c.loop-link.link-index 0 c.loop-link-test.true reduced.of_net

pub follows_between-requires : goal.follows_between-requires
follows_between-requires c =
    let own = annotation_of c.args.own in
    let other = annotation_of c.args.other in
    let items = c.as_slice-link-items.result.now in
    let reduced = subst (IsReduced own.net) (sym c.as_slice-link-items.ensures) c.in_ok-reduced.ensures in
    let k = get_or items c.loop-link.link-index 0 in
    let lt = All-get_or (λ (j : ℕ). j < length own.net.links) items c.loop-link.link-index 0 c.loop-link-test.true reduced.of_net in
    let partners = c.deref.result.now in
    let are : ArePartners own.contents.intervals other.contents.intervals partners = subst (ArePartners own.contents.intervals other.contents.intervals) (sym c.deref.ensures.value) c.in_ok-partners.ensures.partners in
    let placed = both_placed own other c.requires.own.net c.links.ensures.net partners are k lt in
    let link : c.link.result ≡ link_at own.net k = c.link.ensures.link in
    record {
      a = subst (λ (l : NetLink). l.a < length partners) (sym link) placed.0;
      b = subst (λ (l : NetLink). l.b < length partners) (sym link) placed.1;
      partners = partners_within own other c.requires.own.net c.links.ensures.net partners are (annotated_table c.args.other) c.requires.other;
    }

pub overflow_add-matched : goal.overflow_add-matched
overflow_add-matched c =
    let items = c.as_slice-link-items.result.now in
    let reduced = subst (IsReduced c.args.own.net.now) (sym c.as_slice-link-items.ensures) c.in_ok-reduced.ensures in
    let few = few_rising (length c.args.own.net.now.links) items reduced.rising reduced.of_net in
    omega (arith, few, c.loop-link.invariant.few, c.loop-link-test.true, c.links.ensures.net.few_links)

pub loop-link-preserved : goal.loop-link-preserved
loop-link-preserved c =
    let own = annotation_of c.args.own in
    let other = annotation_of c.args.other in
    let items = c.as_slice-link-items.result.now in
    let reduced = subst (IsReduced own.net) (sym c.as_slice-link-items.ensures) c.in_ok-reduced.ensures in
    let i = c.loop-link.link-index in
    let k = get_or items i 0 in
    let lt = All-get_or (λ (j : ℕ). j < length own.net.links) items i 0 c.loop-link-test.true reduced.of_net in
    let partners = c.deref.result.now in
    let are : ArePartners own.contents.intervals other.contents.intervals partners = subst (ArePartners own.contents.intervals other.contents.intervals) (sym c.deref.ensures.value) c.in_ok-partners.ensures.partners in
    let both = entails_follows own other c.requires.own.net c.links.ensures.net partners are (annotated_table c.args.other) c.requires.other k lt in
    let says : IsTrue c.follows_between.result ↔ EntailsBetween (annotated_table c.args.other) partners (link_at own.net k) =
    subst (λ (l : NetLink). IsTrue c.follows_between.result ↔ EntailsBetween (annotated_table c.args.other) partners l) c.link.ensures.link c.follows_between.ensures in
    let was = c.loop-link.invariant in
    elim c.if-follows_between.branch [
      | then-follows_between w ↦ record {
        few = omega (arith, w.matched-is, was.few);
        counted = λ test tells.
            let follows = both.0 (says.0 (search rules)) in
            w.matched-is ∙ ap (λ (n : ℕ). n + 1) (was.counted test tells) ∙ sym (count_by_more_yes test items i 0 c.loop-link-test.true ((tells k lt).1 follows));
      }
      | else-follows_between w ↦ record {
        few = omega (arith, w.matched-is, was.few);
        counted = λ test tells.
            let fails : test k ≡ false = false_from_ne_true (test k) (λ passes. let is = says.1 (both.1 ((tells k lt).0 passes)) in absurd (search rules)) in
            w.matched-is ∙ was.counted test tells ∙ sym (count_by_more_no test items i 0 c.loop-link-test.true fails);
      }
    ]

pub overflow_cast-result : goal.overflow_cast-result
overflow_cast-result c =
    let reduced = c.in_ok-reduced.ensures in
    let few = few_rising (length c.args.own.net.now.links) c.in_ok-reduced.reduced reduced.rising reduced.of_net in
    omega (arith, few, ap length c.as_slice.ensures, c.links.ensures.net.few_links)

pub returns : goal.returns
returns c =
    let own = annotation_of c.args.own in
    let other = annotation_of c.args.other in
    let list = c.in_ok-reduced.reduced in
    let reduced = c.in_ok-reduced.ensures in
    let items = c.as_slice-link-items.result.now in
    let test = some_test own other
    (record { contents = c.in_ok-partners.ensures.own; of_contents = c.requires.own.net; net = c.links.ensures.net; fits = c.requires.own.fits })
    (record { contents = c.in_ok-partners.ensures.other; of_contents = c.requires.other.net; net = c.links-2.ensures.net; fits = c.requires.other.fits }) in
    let all : take c.loop-link.link-index items ≡ list = take_all c.loop-link.link-index items c.loop-link-test.false ∙ c.as_slice-link-items.ensures in (
      list,
      reduced,
      ap length c.as_slice.ensures,
      (
        test.0,
        λ k among. test.1 k (All-contains (λ (j : ℕ). j < length own.net.links) list k reduced.of_net among),
        c.loop-link.invariant.counted test.0 test.1 ∙ ap (count_by test.0) all,
      ),
    )
