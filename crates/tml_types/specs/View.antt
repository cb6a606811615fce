-- The plain values that typed tags stand for.
use Rattle.std.specs.Prelude.{ℕ, List, Option, option_map}
use Rattle.std.specs.Borrow.{Bor}
use Rattle.tml_types.specs.declared.typed.LinkEnd.{LinkEnd}
use Rattle.tml_types.specs.declared.typed.LinkEnd.TheVariants as end
use Rattle.tml_types.specs.declared.typed.TagKind.TheVariants as kind
use Rattle.tml_types.specs.declared.typed.TypedTag.{TypedTag}
use Rattle.tml_types.specs.declared.typed.TypedTag.TheVariants.{Event, Instance, Timex, Signal, Tlink, Alink, Slink}
use Rattle.tml_types.specs.Content.{Reference, PlainTyped, event, instance, timex, signal, tlink, alink, slink}

-- the text of a slice that may be absent
abbrev pub text_of : Option (Bor (List ℕ)) → Option (List ℕ)
text_of slice = option_map (λ (s : Bor (List ℕ)). s.now) slice

abbrev pub reference_at_end : LinkEnd → Reference
reference_at_end (end.Instance name) = record { asked = kind.Instance; name = name.now }
reference_at_end (end.Time name) = record { asked = kind.Timex; name = name.now }

abbrev pub typed_of : TypedTag → PlainTyped
typed_of (Event place eid class) = record { place = place; content = event (record { eid = eid.now; class = class }) }
typed_of (Instance place eiid of_event by_signal tense aspect pos polarity) = record {
  place = place;
  content = instance (record { eiid = eiid.now; event = of_event.now; signal = text_of by_signal; tense = tense; aspect = aspect; pos = pos; polarity = polarity });
}
typed_of (Timex place tid kind value modifier function temporal anchor begin finish) = record {
  place = place;
  content = timex (record {
    tid = tid.now;
    kind = kind;
    value = value;
    modifier = modifier;
    function = function;
    temporal = temporal;
    anchor = text_of anchor;
    begin = text_of begin;
    finish = text_of finish;
  });
}
typed_of (Signal place sid) = record { place = place; content = signal (record { sid = sid.now }) }
typed_of (Tlink place lid by_signal left rel right) = record {
  place = place;
  content = tlink (record { lid = text_of lid; signal = text_of by_signal; left = reference_at_end left; rel = rel; right = reference_at_end right });
}
typed_of (Alink place lid by_signal of_event related rel) = record {
  place = place;
  content = alink (record { lid = text_of lid; signal = text_of by_signal; event = of_event.now; related = related.now; rel = rel });
}
typed_of (Slink place lid by_signal of_event subordinated rel) = record {
  place = place;
  content = slink (record { lid = text_of lid; signal = text_of by_signal; event = text_of of_event; subordinated = subordinated.now; rel = rel });
}
