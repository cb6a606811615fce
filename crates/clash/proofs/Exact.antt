-- A closed table that is kept by the timelines that fit a net.
use Rattle.std.proofs.Common.{◌≡◌, ◌∙◌, ◌↔◌, ℕ, ◌<◌, ◌≤◌, Bool, true, false, List, arith}
use Rattle.std.specs.List.{Contains}
use Rattle.net_core.specs.Entailment.{Always, HasNoTimeline}
use Rattle.net_core.specs.Fits.{EveryLink, Fits, FitsWith}
use Rattle.net_core.specs.Nets.{PlainNet, points}
use Rattle.net_core.specs.Relations.{Timeline}
use Rattle.net_core.proofs.StepLaws.{fits_fewer}
use Rattle.order_closure.specs.Cells.{CellSays, order, strength}
use Rattle.order_closure.specs.Counting.{before_count}
use Rattle.net_core.specs.declared.atom.Atom.{Atom}
use Rattle.order_closure.specs.Tables.{IsClosed, Keeps, SatisfiesAll, Table, cell_at}
use Rattle.order_closure.proofs.Central.{always_stands, order_says, weak_is}
use Rattle.order_closure.proofs.Ranking.{counts_kept, strict_from, strict_says}
use Rattle.clash.specs.Closures.{IsClosureOf, IsTableOf, NoLink}
use Rattle.clash.specs.Minimal.{IsFirstClash, IsProvedClash, UpTo}
use Rattle.clash.specs.declared.minimal.Clash.{Clash}
use Rattle.net_orders.specs.Orders.{AreFixed}
use Rattle.net_orders.specs.Steps.{AddsToTable, IsFirstExcluded, KeepsLinks}

module _ (net : PlainNet) (table : Table) (closed : IsClosed table) (size : table.points ≡ points net) (keeps : (t : Timeline) → Keeps table t ↔ Fits net t) where
  -- an order that every timeline has stands in the table
  stands : (strict : Bool) (p q : ℕ) → p < table.points → q < table.points → Always net strict p q → strength (order strict) ≤ strength (cell_at table p q)
  stands strict p q lp lq always = always_stands table.points (cell_at table) closed strict p q lp lq (λ t kept. always t ((keeps t).0 kept))

  -- what a cell says of every timeline
  says : (p q : ℕ) → p < table.points → q < table.points → (t : Timeline) → Fits net t → CellSays (cell_at table p q) (t p) (t q)
  says p q lp lq t fits = (keeps t).1 fits p q lp lq

  -- the cells are exactly what all timelines that fit have in common
  pub closure_from : IsClosureOf net table
  closure_from = record {
    size = size;
    keeps = keeps;
    strict = λ p q fp fq.
        let lp : p < table.points = omega arith in
        let lq : q < table.points = omega arith in
        (λ e t fits. strict_says (cell_at table p q) _ _ e (says p q lp lq t fits), λ always. strict_from _ (stands true p q lp lq always));
    weak = λ p q fp fq.
        let lp : p < table.points = omega arith in
        let lq : q < table.points = omega arith in (
          λ e. (
            λ t fits. order_says (cell_at table p q) false _ _ (rw e (omega arith)) (says p q lp lq t fits),
            λ always. let is = strict_from (cell_at table p q) (stands true p q lp lq always) in cc,
          ),
          λ both. weak_is _ (stands false p q lp lq both.0)
              (λ e. both.1 (λ t fits. strict_says (cell_at table p q) _ _ e (says p q lp lq t fits))),
        );
  }

  -- some timeline fits
  pub one_fits : (t : Timeline) × Fits net t
  one_fits = let t = before_count table.points (cell_at table) in (t, (keeps t).0 (counts_kept table.points (cell_at table) closed))

-- the timelines that keep the table of what is fixed are those that fit with no links
pub unlinked : (net : PlainNet) (fixed : List Atom) (none last : Table) → AreFixed net fixed → ((t : Timeline) → Keeps none t) → AddsToTable (SatisfiesAll fixed) none last
    → (t : Timeline) → Keeps last t ↔ FitsWith net NoLink t
unlinked net fixed none last are all adds t = (
  λ kept.
      let both = (are.exact t).0 ((adds.1 t).0 kept).1 in
      record { order = both.0; links = λ k lt chosen. absurd chosen; calendar = both.1 },
  λ fits. (adds.1 t).1 (all t, (are.exact t).1 (fits.order, fits.calendar)),
)

module _ (net : PlainNet) (table : Table) (fitting : (t : Timeline) → Keeps table t ↔ FitsWith net NoLink t) where
  -- the timelines that keep the table with all links are those that fit
  pub keeps_fits : (last : Table) → AddsToTable (KeepsLinks net) table last → (t : Timeline) → Keeps last t ↔ Fits net t
  keeps_fits last links t = (
    λ kept.
        let both = (links.1 t).0 kept in
        let fits = (fitting t).0 both.0 in
        record { order = fits.order; links = λ k lt any. both.1 k lt; calendar = fits.calendar },
    λ fits. (links.1 t).1 ((fitting t).1 (fits_fewer net EveryLink NoLink t (λ k lt none. tt) fits), λ k lt. fits.links k lt tt),
  )

  -- the first link that no timeline keeps with those before it is the first that clashes
  pub first_clash : (k : ℕ) → IsFirstExcluded net table k → IsFirstClash net k
  first_clash k first = record {
    link = first.link;
    before =
        let t = first.before.0 in
        let fits = (fitting t).0 first.before.1 in
        (t, record { order = fits.order; links = λ j lt before. first.before.2 j before; calendar = fits.calendar });
    clashes = λ t fits.
        first.excluded t ((fitting t).1 (fits_fewer net (UpTo k) NoLink t (λ j lt none. absurd none) fits))
        (λ j less. fits.links j (omega (arith, less, first.link)) (omega (arith, less))) (fits.links k first.link (omega arith));
  }

-- where a link clashes with those before it no timeline fits
pub none_fits : (net : PlainNet) (k : ℕ) → IsFirstClash net k → HasNoTimeline net
none_fits net k first t fits = first.clashes t (fits_fewer net EveryLink (UpTo k) t (λ j lt up_to. tt) fits)

-- and so where a clash is proved
pub proved_excludes : (net : PlainNet) (clash : Clash) → IsProvedClash net clash → HasNoTimeline net
proved_excludes net clash proved t fits = proved.minimal.clashes t (fits_fewer net EveryLink (Contains clash.cites) t (λ j lt cited. tt) fits)

-- a table of orders that say what fits is one of what fits
pub table_of_fitting : (net : PlainNet) (orders : List Atom) (n : ℕ) (table : Table) → n ≡ points net → ((t : Timeline) → SatisfiesAll orders t ↔ Fits net t)
    → IsTableOf n (SatisfiesAll orders) table → IsTableOf (points net) (Fits net) table
table_of_fitting net orders n table size said is = record {
  size = is.size ∙ size;
  keeps = λ t. (λ kept. (said t).0 ((is.keeps t).0 kept), λ fits. (is.keeps t).1 ((said t).1 fits));
}
