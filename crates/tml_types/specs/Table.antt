-- The attributes of the tags that mean something: this project's profile of TimeML 1.2.1.
use Rattle.std.specs.Prelude.{ℕ, List, [], ◌∷◌, codes, Some, None}
use Rattle.named.specs.Texts.{named_of}
use Rattle.tml_tree.specs.TagNames.{text_of, all_tags}
use Rattle.tml_tree.specs.declared.tag_name.TagName.{TagName}
use Rattle.tml_tree.specs.declared.tag_name.TagName.TheVariants as tag

-- What a value has to be: an identifier, which a reference looks like too; any text; or one of a list.
pub data ValueForm : Type 0 where
  identifier : ValueForm
  any_text : ValueForm
  truth : ValueForm
  event_class : ValueForm
  tense : ValueForm
  aspect : ValueForm
  part_of_speech : ValueForm
  polarity : ValueForm
  timex_kind : ValueForm
  modifier : ValueForm
  doc_function : ValueForm
  relation : ValueForm
  aspect_relation : ValueForm
  sub_relation : ValueForm

-- an attribute that has to be there, one that may be there, or two of which one has to be there
pub data Row : Type 0 where
  required : List ℕ → ValueForm → Row
  optional : List ℕ → ValueForm → Row
  one_of : List ℕ → List ℕ → ValueForm → Row

-- the attributes of a tag; the root and the wrappers have none
abbrev pub attribute_rows : TagName → List Row
attribute_rows tag.Event =
    required (codes "eid") identifier
    ∷ required (codes "class") event_class
    ∷ []
attribute_rows tag.MakeInstance =
    required (codes "eiid") identifier
    ∷ required (codes "eventID") identifier
    ∷ optional (codes "tense") tense
    ∷ optional (codes "aspect") aspect
    ∷ optional (codes "pos") part_of_speech
    ∷ optional (codes "polarity") polarity
    ∷ optional (codes "signalID") identifier
    ∷ optional (codes "modality") any_text
    ∷ optional (codes "cardinality") any_text
    ∷ []
attribute_rows tag.Timex3 =
    required (codes "tid") identifier
    ∷ required (codes "type") timex_kind
    ∷ optional (codes "value") any_text
    ∷ optional (codes "mod") modifier
    ∷ optional (codes "functionInDocument") doc_function
    ∷ optional (codes "temporalFunction") truth
    ∷ optional (codes "anchorTimeID") identifier
    ∷ optional (codes "beginPoint") identifier
    ∷ optional (codes "endPoint") identifier
    ∷ optional (codes "quant") any_text
    ∷ optional (codes "freq") any_text
    ∷ []
attribute_rows tag.Signal =
    required (codes "sid") identifier
    ∷ []
attribute_rows tag.Tlink =
    required (codes "relType") relation
    ∷ one_of (codes "eventInstanceID") (codes "timeID") identifier
    ∷ one_of (codes "relatedToEventInstance") (codes "relatedToTime") identifier
    ∷ optional (codes "lid") identifier
    ∷ optional (codes "signalID") identifier
    ∷ []
attribute_rows tag.Alink =
    required (codes "eventInstanceID") identifier
    ∷ required (codes "relatedToEventInstance") identifier
    ∷ required (codes "relType") aspect_relation
    ∷ optional (codes "lid") identifier
    ∷ optional (codes "signalID") identifier
    ∷ []
attribute_rows tag.Slink =
    required (codes "subordinatedEventInstance") identifier
    ∷ required (codes "relType") sub_relation
    ∷ optional (codes "eventInstanceID") identifier
    ∷ optional (codes "lid") identifier
    ∷ optional (codes "signalID") identifier
    ∷ []
attribute_rows other = []

-- the rows of the tag with this name
unfoldable pub rows_at : List ℕ → List Row
rows_at name = elim (named_of text_of all_tags name) [ None ↦ [] | Some t ↦ attribute_rows t ]
