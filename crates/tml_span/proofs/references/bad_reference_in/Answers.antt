use Rattle.std.specs.Prelude.{MatchOption}
use Rattle.std.proofs.Common.{subst, sym}
use Rattle.tml_span.specs.declared.unit.Unit.{Unit}
use Rattle.tml_span.specs.References.{HasPiecesInOrder, pieces_of, IsBadIn, IsNowhere, IsLeastPlace}
use Rattle.tml_span.specs.View.{unit_of}
use Rattle.tml_span.proofs.references.bad_reference_in.Goals as goal

pub bad_place_in_text-requires : goal.bad_place_in_text-requires
bad_place_in_text-requires c = let placed = subst (λ (u : Unit). HasPiecesInOrder (unit_of u)) c.in-Text.is c.requires in placed.follows.1

pub returns-in-Text : goal.returns-in-Text
returns-in-Text c = subst (λ (u : Unit). MatchOption c.bad_place_in_text.result (IsNowhere (IsBadIn (pieces_of (unit_of u)))) (IsLeastPlace (IsBadIn (pieces_of (unit_of u))))) (sym c.in-Text.is) c.bad_place_in_text.ensures
