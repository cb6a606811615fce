-- The texts of the relations of TLINK.
use Rattle.std.specs.Prelude.{ℕ, List, [], ◌∷◌, codes}
use Rattle.net_core.specs.declared.rels.Rel.{Rel}
use Rattle.net_core.specs.declared.rels.Rel.TheVariants as rel

-- the values of `relType` of TLINK, and after them the two by which this project extends them
abbrev pub rel_text : Rel → List ℕ
rel_text rel.Before = codes "BEFORE"
rel_text rel.After = codes "AFTER"
rel_text rel.Includes = codes "INCLUDES"
rel_text rel.IsIncluded = codes "IS_INCLUDED"
rel_text rel.During = codes "DURING"
rel_text rel.DuringInv = codes "DURING_INV"
rel_text rel.Simultaneous = codes "SIMULTANEOUS"
rel_text rel.Identity = codes "IDENTITY"
rel_text rel.Ibefore = codes "IBEFORE"
rel_text rel.Iafter = codes "IAFTER"
rel_text rel.Begins = codes "BEGINS"
rel_text rel.BegunBy = codes "BEGUN_BY"
rel_text rel.Ends = codes "ENDS"
rel_text rel.EndedBy = codes "ENDED_BY"
rel_text rel.Overlaps = codes "OVERLAPS"
rel_text rel.OverlappedBy = codes "OVERLAPPED_BY"

abbrev pub all_rels : List Rel
all_rels =
    rel.Before ∷ rel.After ∷ rel.Includes ∷ rel.IsIncluded ∷ rel.During ∷ rel.DuringInv ∷ rel.Simultaneous
    ∷ rel.Identity ∷ rel.Ibefore ∷ rel.Iafter ∷ rel.Begins ∷ rel.BegunBy ∷ rel.Ends ∷ rel.EndedBy
    ∷ rel.Overlaps ∷ rel.OverlappedBy ∷ []
