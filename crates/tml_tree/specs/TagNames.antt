-- The known tags and their texts.
use Rattle.std.specs.Prelude.{ℕ, Bool, nat_eq, List, [], ◌∷◌, map, codes}
use Rattle.std.specs.Str.{bytes_eq}
use Rattle.std.specs.List.{starts_with}
use Rattle.named.specs.Texts.{is_one_of}
use Rattle.tml_tree.specs.declared.tag_name.TagName.{TagName}
use Rattle.tml_tree.specs.declared.tag_name.TagName.TheVariants as tag

abbrev pub text_of : TagName → List ℕ
text_of tag.TimeMl = codes "TimeML"
text_of tag.Event = codes "EVENT"
text_of tag.Timex3 = codes "TIMEX3"
text_of tag.Signal = codes "SIGNAL"
text_of tag.MakeInstance = codes "MAKEINSTANCE"
text_of tag.Tlink = codes "TLINK"
text_of tag.Alink = codes "ALINK"
text_of tag.Slink = codes "SLINK"
text_of tag.DocId = codes "DOCID"
text_of tag.DocNo = codes "DOCNO"
text_of tag.Doc = codes "DOC"
text_of tag.Dct = codes "DCT"
text_of tag.Title = codes "TITLE"
text_of tag.ExtraInfo = codes "EXTRAINFO"
text_of tag.Text = codes "TEXT"
text_of tag.Body = codes "BODY"
text_of tag.Headline = codes "HEADLINE"
text_of tag.UpperP = codes "P"
text_of tag.LowerP = codes "p"
text_of tag.UpperS = codes "S"
text_of tag.LowerS = codes "s"
text_of tag.Enamex = codes "ENAMEX"
text_of tag.Numex = codes "NUMEX"
text_of tag.Confidence = codes "CONFIDENCE"
text_of tag.Timex3Interval = codes "TIMEX3INTERVAL"

abbrev pub all_tags : List TagName
all_tags = tag.TimeMl ∷ tag.Event ∷ tag.Timex3 ∷ tag.Signal ∷ tag.MakeInstance ∷ tag.Tlink ∷ tag.Alink ∷ tag.Slink ∷ tag.DocId ∷ tag.DocNo ∷ tag.Doc ∷ tag.Dct ∷ tag.Title ∷ tag.ExtraInfo ∷ tag.Text ∷ tag.Body ∷ tag.Headline ∷ tag.UpperP ∷ tag.LowerP ∷ tag.UpperS ∷ tag.LowerS ∷ tag.Enamex ∷ tag.Numex ∷ tag.Confidence ∷ tag.Timex3Interval ∷ []

-- the text of a tag begins with this byte
abbrev pub begins_with : ℕ → TagName → Bool
begins_with first t = starts_with nat_eq (text_of t) (first ∷ [])

abbrev pub is_known : List ℕ → Bool
is_known text = is_one_of (map text_of all_tags) text

-- the tag of a root
abbrev pub is_root : List ℕ → Bool
is_root text = bytes_eq (codes "TimeML") text

-- inside these there is no tag, and no text but white space
abbrev pub is_link : List ℕ → Bool
is_link text = is_one_of (codes "MAKEINSTANCE" ∷ codes "TLINK" ∷ codes "ALINK" ∷ codes "SLINK" ∷ []) text
