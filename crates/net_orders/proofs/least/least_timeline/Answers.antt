use Rattle.std.proofs.Common.{◌≡◌, ◌↔◌, ◌*◌, ◌∙◌, ℕ, List, drop, length, replicate, sym, ap, subst, arith}
use Rattle.std.proofs.lemmas.List.{take_at}
use Rattle.net_core.specs.Fits.{Fits}
use Rattle.net_core.specs.Least.{AreLeastRanks}
use Rattle.net_core.specs.Nets.{points}
use Rattle.net_core.specs.Ranks.{timeline_of}
use Rattle.net_core.specs.Relations.{Timeline}
use Rattle.net_core.specs.declared.atom.Atom.{Atom}
use Rattle.order_closure.specs.Tables.{SatisfiesAll}
use Rattle.net_orders.proofs.Rising.{rises_part}
use Rattle.net_orders.proofs.Zeros.{least_from_zeros}
use Rattle.net_orders.proofs.least.least_timeline.Goals as goal

pub returns-then-raise_in_turns : goal.returns-then-raise_in_turns
returns-then-raise_in_turns c =
    let net = c.args.net.now in
    let old = c.deref_mut.result.now in
    let new = c.raise_in_turns.new.ranks in
    let rises = c.raise_in_turns.ensures.rises in
    let zeros : old ≡ replicate (points net) 0 =
    c.deref_mut.ensures.value ∙ c.in_ok-ranks.ensures.items_if_clones_equal (λ y e. e) ∙ ap (λ (n : ℕ). replicate (2 * n) 0) c.intervals-points.ensures.count in
    let held : (t : Timeline) → SatisfiesAll c.deref-3.result.now t ↔ Fits net t =
    λ t. subst (λ (orders : List Atom). SatisfiesAll orders t ↔ Fits net t) (sym c.deref-3.ensures.value) (c.in_ok-orders.ensures.exact t) in
    let whole = take_at new (drop (length new) c.in_ok-ranks.ranks.items) c.in_ok-ranks.ranks.len (omega (arith, rises.size, c.deref_mut.ensures.len)) in
    subst (AreLeastRanks net) (sym (c.from_vec.ensures ∙ whole))
    (least_from_zeros (points net) old zeros (Fits net) new (rises_part (SatisfiesAll c.deref-3.result.now) (Fits net) old new (λ t fits. (held t).1 fits) rises)
    ((held (timeline_of new)).0 (c.raise_in_turns.ensures.fits c.if-raise_in_turns.true)))
