-- What a net asks of a timeline.
use Rattle.std.specs.Prelude.{◌≡◌, []}
use Rattle.net_core.specs.Nets.{PlainNet}
use Rattle.evidence_check.specs.declared.demands.Demands.{Demands}
use Rattle.evidence_check.specs.Calendar.{IsCalendar}
use Rattle.evidence_check.specs.Orders.{AreOrdersOf}

-- the orders that the links of the net are, and its calendar
pub record AreDemands (net : PlainNet) (demands : Demands) : Type 0 where
  pub orders : AreOrdersOf net demands.orders
  pub calendar : IsCalendar net demands.calendar

-- nothing is asked
pub record AreNone (demands : Demands) : Type 0 where
  pub befores : demands.orders.befores ≡ []
  pub no_laters : demands.orders.no_laters ≡ []
  pub equals : demands.orders.equals ≡ []
  pub calendar : demands.calendar ≡ []
