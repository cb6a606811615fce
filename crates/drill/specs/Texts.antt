-- The document of a drill.
use Rattle.std.specs.Prelude.{ℕ, List, ◌++◌, codes, decimal, length, map}
use Rattle.std.specs.List.{flat_map, range_with_len}
use Rattle.net_core.specs.Rels.{rel_text}
use Rattle.tml_refs.specs.Documents.{PlainDocument, instance}
use Rattle.tml_refs.specs.declared.document.DocLink.{DocLink}
use Rattle.drill.specs.Numbers.{links_of}

-- the names of event i and of its instance
abbrev pub event_name : ℕ → List ℕ
event_name i = codes "e" ++ decimal i

abbrev pub instance_name : ℕ → List ℕ
instance_name i = codes "ei" ++ decimal i

-- an event, and its instance
abbrev pub event_line : ℕ → List ℕ
event_line i = codes "<EVENT eid=\"" ++ event_name i ++ codes "\" class=\"OCCURRENCE\">x</EVENT>\n"

abbrev pub instance_line : ℕ → List ℕ
instance_line i = codes "<MAKEINSTANCE eiid=\"" ++ instance_name i ++ codes "\" eventID=\"" ++ event_name i ++ codes "\"/>\n"

abbrev pub drill_interval_lines : ℕ → List ℕ
drill_interval_lines i = event_line i ++ instance_line i

abbrev pub drill_link_line : DocLink → List ℕ
drill_link_line link =
    codes "<TLINK eventInstanceID=\"" ++ instance_name link.a ++ codes "\" relatedToEventInstance=\"" ++ instance_name link.b
    ++ codes "\" relType=\"" ++ rel_text link.rel ++ codes "\"/>\n"

-- the document of drill n: its events with their instances, and its links
abbrev pub drill_document : ℕ → List ℕ
drill_document n = codes "<TimeML>\n" ++ flat_map drill_interval_lines (range_with_len 0 n) ++ flat_map drill_link_line (links_of n) ++ codes "</TimeML>\n"

-- what it says
abbrev pub drill_contents : ℕ → PlainDocument
drill_contents n = record {
  counts = record { events = n; instances = n; timex = 0; signals = 0; tlinks = length (links_of n); alinks = 0; slinks = 0 };
  intervals = map (λ (i : ℕ). instance (instance_name i)) (range_with_len 0 n);
  links = links_of n;
}
