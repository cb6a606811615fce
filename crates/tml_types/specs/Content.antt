-- Typed tags as plain values: a place, and beside it what the tag says.
use Rattle.std.specs.Prelude.{ℕ, Bool, List, Option}
use Rattle.net_core.specs.declared.rels.Rel.{Rel}
use Rattle.timex_value.specs.declared.kinds.TimexKind.{TimexKind}
use Rattle.timex_value.specs.declared.kinds.Modifier.{Modifier}
use Rattle.timex_value.specs.declared.value.Value.{Value}
use Rattle.tml_types.specs.declared.listed.EventClass.{EventClass}
use Rattle.tml_types.specs.declared.listed.Tense.{Tense}
use Rattle.tml_types.specs.declared.listed.Aspect.{Aspect}
use Rattle.tml_types.specs.declared.listed.Pos.{Pos}
use Rattle.tml_types.specs.declared.listed.Polarity.{Polarity}
use Rattle.tml_types.specs.declared.listed.DocFunction.{DocFunction}
use Rattle.tml_types.specs.declared.listed.AspectRel.{AspectRel}
use Rattle.tml_types.specs.declared.listed.SubRel.{SubRel}
use Rattle.tml_types.specs.declared.typed.TagKind.{TagKind}

-- what a reference asks for: the kind of a tag, and its identifier
pub record Reference : Type 0 where
  pub asked : TagKind
  pub name : List ℕ

pub record Event : Type 0 where
  pub eid : List ℕ
  pub class : EventClass

pub record Instance : Type 0 where
  pub eiid : List ℕ
  pub event : List ℕ
  pub signal : Option (List ℕ)
  pub tense : Option Tense
  pub aspect : Option Aspect
  pub pos : Option Pos
  pub polarity : Option Polarity

pub record Timex : Type 0 where
  pub tid : List ℕ
  pub kind : TimexKind
  pub value : Option Value
  pub modifier : Option Modifier
  pub function : Option DocFunction
  pub temporal : Option Bool
  pub anchor : Option (List ℕ)
  pub begin : Option (List ℕ)
  pub finish : Option (List ℕ)

pub record Signal : Type 0 where
  pub sid : List ℕ

-- each end refers to an instance or to a time
pub record Tlink : Type 0 where
  pub lid : Option (List ℕ)
  pub signal : Option (List ℕ)
  pub left : Reference
  pub rel : Rel
  pub right : Reference

pub record Alink : Type 0 where
  pub lid : Option (List ℕ)
  pub signal : Option (List ℕ)
  pub event : List ℕ
  pub related : List ℕ
  pub rel : AspectRel

pub record Slink : Type 0 where
  pub lid : Option (List ℕ)
  pub signal : Option (List ℕ)
  pub event : Option (List ℕ)
  pub subordinated : List ℕ
  pub rel : SubRel

-- what a tag says
pub data Content : Type 0 where
  event : Event → Content
  instance : Instance → Content
  timex : Timex → Content
  signal : Signal → Content
  tlink : Tlink → Content
  alink : Alink → Content
  slink : Slink → Content

-- a typed tag
pub record PlainTyped : Type 0 where
  pub place : ℕ
  pub content : Content
