-- The texts of the values of attributes.
use Rattle.std.specs.Prelude.{ℕ, List, [], ◌∷◌, codes}
use Rattle.tml_types.specs.declared.listed.EventClass.{EventClass}
use Rattle.tml_types.specs.declared.listed.EventClass.TheVariants as class
use Rattle.tml_types.specs.declared.listed.Tense.{Tense}
use Rattle.tml_types.specs.declared.listed.Tense.TheVariants as tense
use Rattle.tml_types.specs.declared.listed.Aspect.{Aspect}
use Rattle.tml_types.specs.declared.listed.Aspect.TheVariants as aspect
use Rattle.tml_types.specs.declared.listed.Pos.{Pos}
use Rattle.tml_types.specs.declared.listed.Pos.TheVariants as pos
use Rattle.tml_types.specs.declared.listed.Polarity.{Polarity}
use Rattle.tml_types.specs.declared.listed.Polarity.TheVariants as polarity
use Rattle.tml_types.specs.declared.listed.DocFunction.{DocFunction}
use Rattle.tml_types.specs.declared.listed.DocFunction.TheVariants as function
use Rattle.tml_types.specs.declared.listed.AspectRel.{AspectRel}
use Rattle.tml_types.specs.declared.listed.AspectRel.TheVariants as aspect_rel
use Rattle.tml_types.specs.declared.listed.SubRel.{SubRel}
use Rattle.tml_types.specs.declared.listed.SubRel.TheVariants as sub_rel

-- the values of `class` of EVENT
abbrev pub class_text : EventClass → List ℕ
class_text class.Occurrence = codes "OCCURRENCE"
class_text class.Perception = codes "PERCEPTION"
class_text class.Reporting = codes "REPORTING"
class_text class.Aspectual = codes "ASPECTUAL"
class_text class.State = codes "STATE"
class_text class.IState = codes "I_STATE"
class_text class.IAction = codes "I_ACTION"

abbrev pub all_classes : List EventClass
all_classes =
    class.Occurrence ∷ class.Perception ∷ class.Reporting ∷ class.Aspectual ∷ class.State ∷ class.IState
    ∷ class.IAction ∷ []

-- the values of `tense` of MAKEINSTANCE
abbrev pub tense_text : Tense → List ℕ
tense_text tense.Past = codes "PAST"
tense_text tense.Present = codes "PRESENT"
tense_text tense.Future = codes "FUTURE"
tense_text tense.Infinitive = codes "INFINITIVE"
tense_text tense.PresPart = codes "PRESPART"
tense_text tense.PastPart = codes "PASTPART"
tense_text tense.NoTense = codes "NONE"

abbrev pub all_tenses : List Tense
all_tenses =
    tense.Past ∷ tense.Present ∷ tense.Future ∷ tense.Infinitive ∷ tense.PresPart ∷ tense.PastPart
    ∷ tense.NoTense ∷ []

-- the values of `aspect` of MAKEINSTANCE
abbrev pub aspect_text : Aspect → List ℕ
aspect_text aspect.Progressive = codes "PROGRESSIVE"
aspect_text aspect.Perfective = codes "PERFECTIVE"
aspect_text aspect.PerfectiveProgressive = codes "PERFECTIVE_PROGRESSIVE"
aspect_text aspect.NoAspect = codes "NONE"

abbrev pub all_aspects : List Aspect
all_aspects = aspect.Progressive ∷ aspect.Perfective ∷ aspect.PerfectiveProgressive ∷ aspect.NoAspect ∷ []

-- the values of `pos` of MAKEINSTANCE
abbrev pub pos_text : Pos → List ℕ
pos_text pos.Adjective = codes "ADJECTIVE"
pos_text pos.Noun = codes "NOUN"
pos_text pos.Verb = codes "VERB"
pos_text pos.Preposition = codes "PREPOSITION"
pos_text pos.Other = codes "OTHER"
pos_text pos.Prep = codes "PREP"
pos_text pos.Unknown = codes "UNKNOWN"

abbrev pub all_pos : List Pos
all_pos = pos.Adjective ∷ pos.Noun ∷ pos.Verb ∷ pos.Preposition ∷ pos.Other ∷ pos.Prep ∷ pos.Unknown ∷ []

-- the values of `polarity` of MAKEINSTANCE
abbrev pub polarity_text : Polarity → List ℕ
polarity_text polarity.Positive = codes "POS"
polarity_text polarity.Negative = codes "NEG"

abbrev pub all_polarities : List Polarity
all_polarities = polarity.Positive ∷ polarity.Negative ∷ []

-- the values of `functionInDocument` of TIMEX3
abbrev pub function_text : DocFunction → List ℕ
function_text function.CreationTime = codes "CREATION_TIME"
function_text function.ExpirationTime = codes "EXPIRATION_TIME"
function_text function.ModificationTime = codes "MODIFICATION_TIME"
function_text function.PublicationTime = codes "PUBLICATION_TIME"
function_text function.ReleaseTime = codes "RELEASE_TIME"
function_text function.ReceptionTime = codes "RECEPTION_TIME"
function_text function.NoFunction = codes "NONE"

abbrev pub all_functions : List DocFunction
all_functions =
    function.CreationTime ∷ function.ExpirationTime ∷ function.ModificationTime ∷ function.PublicationTime
    ∷ function.ReleaseTime ∷ function.ReceptionTime ∷ function.NoFunction ∷ []

-- the values of `relType` of ALINK
abbrev pub aspect_rel_text : AspectRel → List ℕ
aspect_rel_text aspect_rel.Initiates = codes "INITIATES"
aspect_rel_text aspect_rel.Culminates = codes "CULMINATES"
aspect_rel_text aspect_rel.Terminates = codes "TERMINATES"
aspect_rel_text aspect_rel.Continues = codes "CONTINUES"
aspect_rel_text aspect_rel.Reinitiates = codes "REINITIATES"

abbrev pub all_aspect_rels : List AspectRel
all_aspect_rels =
    aspect_rel.Initiates ∷ aspect_rel.Culminates ∷ aspect_rel.Terminates ∷ aspect_rel.Continues
    ∷ aspect_rel.Reinitiates ∷ []

-- the values of `relType` of SLINK
abbrev pub sub_rel_text : SubRel → List ℕ
sub_rel_text sub_rel.Modal = codes "MODAL"
sub_rel_text sub_rel.Evidential = codes "EVIDENTIAL"
sub_rel_text sub_rel.NegEvidential = codes "NEG_EVIDENTIAL"
sub_rel_text sub_rel.Factive = codes "FACTIVE"
sub_rel_text sub_rel.CounterFactive = codes "COUNTER_FACTIVE"
sub_rel_text sub_rel.Conditional = codes "CONDITIONAL"
sub_rel_text sub_rel.Intensional = codes "INTENSIONAL"

abbrev pub all_sub_rels : List SubRel
all_sub_rels =
    sub_rel.Modal ∷ sub_rel.Evidential ∷ sub_rel.NegEvidential ∷ sub_rel.Factive ∷ sub_rel.CounterFactive
    ∷ sub_rel.Conditional ∷ sub_rel.Intensional ∷ []
