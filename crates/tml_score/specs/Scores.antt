-- How much of one annotation follows from another: temporal awareness as exact counts (UzZaman and Allen 2011).
use Rattle.std.specs.Prelude.{◌≡◌, ◌↔◌, ℕ, Bool, true, List, length, count_by}
use Rattle.std.specs.List.{Contains}
use Rattle.clash.specs.Closures.{IsClosureOf}
use Rattle.net_build.specs.Built.{IsNetOf}
use Rattle.net_core.specs.Entailment.{Follows, HasTimeline}
use Rattle.net_core.specs.Nets.{IsNet, PlainNet, link_at}
use Rattle.order_closure.specs.Tables.{Table}
use Rattle.tml_refs.specs.Documents.{IsDocument, IsNamed, PlainDocument, PlainInterval}
use Rattle.tml_score.specs.Reduced.{IsReduced}
use Rattle.tml_score.specs.declared.scoring.Scores.{Scores}

-- a document and its net
pub record Annotation : Type 0 where
  pub contents : PlainDocument
  pub net : PlainNet

-- an interval of one document and one of another have one name, compared as bytes
abbrev pub HaveOneName : List PlainInterval → List PlainInterval → ℕ → ℕ → Type 0
HaveOneName intervals others i j = (name : List ℕ) × IsNamed intervals name i × IsNamed others name j

-- Link k of an annotation follows in another one: that one has intervals of the names of its two, and its relation follows between these.
abbrev pub FollowsIn : Annotation → Annotation → ℕ → Type 0
FollowsIn own other k =
    let link = link_at own.net k in
    (a : ℕ) × (b : ℕ)
    × HaveOneName own.contents.intervals other.contents.intervals link.a a
    × HaveOneName own.contents.intervals other.contents.intervals link.b b
    × Follows other.net a link.rel b

-- a number is how many of a list have a property
abbrev pub IsCountOf : (ℕ → Type 0) → List ℕ → ℕ → Type 0
IsCountOf Holds ks n = (test : ℕ → Bool) × ((k : ℕ) → Contains ks k → (test k ≡ true) ↔ Holds k) × (n ≡ count_by test ks)

-- how many links of an annotation stay when those that follow from others are left out, and how many of these follow in another annotation
abbrev pub AreMatched : Annotation → Annotation → ℕ → ℕ → Type 0
AreMatched own other links matched = (reduced : List ℕ) × IsReduced own.net reduced × (links ≡ length reduced) × IsCountOf (FollowsIn own other) reduced matched

-- The scores of a document against a key: precision is matched of doc_links, and recall is found of key_links.
abbrev pub AreScores : Annotation → Annotation → Scores → Type 0
AreScores doc key scores = AreMatched doc key scores.doc_links scores.matched × AreMatched key doc scores.key_links scores.found

-- a document, its net, which some timeline fits, and the closure of the net
pub record IsClosedOf (annotation : Annotation) (table : Table) : Type 0 where
  pub net : IsNetOf annotation.contents annotation.net
  pub closure : IsClosureOf annotation.net table
  pub fits : HasTimeline annotation.net

-- the law: of two annotations there is one set of scores
abbrev pub OneScore : Type 0
OneScore = (doc key : Annotation) (scores others : Scores) → AreScores doc key scores → AreScores doc key others → scores ≡ others

-- an annotation is a document and its net, which some timeline fits
pub record IsSound (annotation : Annotation) : Type 0 where
  pub contents : IsDocument annotation.contents
  pub of_contents : IsNetOf annotation.contents annotation.net
  pub net : IsNet annotation.net
  pub fits : HasTimeline annotation.net

-- the law: and there is one, where both annotations are sound
abbrev pub EveryScore : Type 0
EveryScore = (doc key : Annotation) → IsSound doc → IsSound key → (scores : Scores) × AreScores doc key scores
