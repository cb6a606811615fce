-- Serves the code: partners: intervals of two documents that have one name.
use Rattle.std.specs.Prelude.{◌≡◌, ◌↔◌, ℕ, ◌+◌, ◌*◌, ◌<◌, List, length, Option, Some, None, slice_index_or}
use Rattle.derive_rel.specs.Entailed.{TableEntails}
use Rattle.net_core.specs.declared.net.NetLink.{NetLink}
use Rattle.order_closure.specs.Tables.{Table}
use Rattle.tml_refs.specs.Documents.{PlainInterval}
use Rattle.tml_score.specs.Scores.{Annotation, HaveOneName}
use Rattle.tml_score.specs.declared.scoring.Annotated.{Annotated}

abbrev pub annotation_of : Annotated → Annotation
annotation_of a = record { contents = a.document.now; net = a.net.now }

abbrev pub annotated_table : Annotated → Table
annotated_table a = a.table.now

-- the number of the interval of another document that has the name of interval i, or none where there is none
abbrev pub IsPartner : List PlainInterval → List PlainInterval → ℕ → Option ℕ → Type 0
IsPartner own other i partner = (j : ℕ) → (partner ≡ Some j) ↔ HaveOneName own other i j

abbrev pub partner_at : List (Option ℕ) → ℕ → Option ℕ
partner_at partners i = slice_index_or partners i None

-- so for each interval
pub record ArePartners (own other : List PlainInterval) (partners : List (Option ℕ)) : Type 0 where
  pub size : length partners ≡ length own
  pub each : (i : ℕ) → i < length own → IsPartner own other i (partner_at partners i)

-- the partners are intervals whose points are below n
abbrev pub ArePartnersWithin : ℕ → List (Option ℕ) → Type 0
ArePartnersWithin n partners = (i : ℕ) (j : ℕ) → partner_at partners i ≡ Some j → 2 * j + 1 < n

-- both intervals of a link have partners, between which the table entails its relation
abbrev pub EntailsBetween : Table → List (Option ℕ) → NetLink → Type 0
EntailsBetween table partners link =
    (a : ℕ) × (b : ℕ) × (partner_at partners link.a ≡ Some a) × (partner_at partners link.b ≡ Some b) × TableEntails table a link.rel b
