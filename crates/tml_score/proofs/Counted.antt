-- Scores: that there is one set of them, and that there is one at all.
use Rattle.std.proofs.Common.{◌≡◌, ◌↔◌, ◌⊎◌, inl, inr, ℕ, ◌+◌, ◌<◌, Bool, true, false, cond, List, [], ◌∷◌, length, count_by, get_or, replicate, Option, Some, None, IfSome, IsNone, refl, sym, ap, subst, ◌∙◌, arith, rules}
use Rattle.std.specs.List.{Contains, slice_get}
use Rattle.std.proofs.lemmas.Bool.{cases_lt}
use Rattle.std.proofs.lemmas.Bool.Decides.{same_from_decides}
use Rattle.std.proofs.lemmas.List.{get_or-replicate, get_or_past}
use Rattle.std.proofs.lemmas.List.Elements.{All-contains, All-get_or}
use Rattle.std.proofs.lemmas.List.Sums.{sum_by-cons}
use Rattle.std.proofs.lemmas.Slice.Zip.{AllZip-long}
use Rattle.std.proofs.lemmas.Option.{slice_get-get_or, slice_get_within}
use Rattle.clash.proofs.Entailing.{gives_what_follows}
use Rattle.net_build.specs.Built.{IntervalBounds, IsNetOf}
use Rattle.net_core.specs.Atoms.{atoms_of}
use Rattle.net_core.specs.Entailment.{Follows, HasTimeline}
use Rattle.net_core.specs.Fits.{EveryLink}
use Rattle.net_core.specs.Nets.{IsNet, PlainNet, intervals, link_at}
use Rattle.net_core.specs.Relations.{Timeline}
use Rattle.net_core.specs.Walks.{Kept}
use Rattle.net_core.specs.declared.net.NetLink.{NetLink}
use Rattle.net_core.specs.declared.rels.Rel.{Rel}
use Rattle.net_core.specs.declared.rels.Rel.TheVariants as rel
use Rattle.net_core.proofs.AtomLaws.{atoms_in_range, atoms_say_the_relation}
use Rattle.net_core.proofs.StepLaws.{fits_fewer}
use Rattle.order_closure.specs.Tables.{Table}
use Rattle.tml_refs.specs.Documents.{IsNamed, PlainInterval, instance, interval_name}
use Rattle.tml_refs.proofs.NamedIntervals.{named_or_not}
use Rattle.tml_score.specs.Scores.{Annotation, AreMatched, EveryScore, FollowsIn, HaveOneName, IsClosedOf, IsCountOf, IsSound, OneScore}
use Rattle.tml_score.specs.Scoring.{ArePartners, ArePartnersWithin, EntailsBetween, IsPartner}
use Rattle.tml_score.proofs.Redundancy.{atoms_decided, every_net_is_reduced, one_reduced_list}
use Rattle.clash.proofs.Elements.{first_in, rest_in}

-- ---- partners

-- an interval with a name is one of the document
named_within : (intervals : List PlainInterval) (name : List ℕ) (i : ℕ) → IsNamed intervals name i → i < length intervals
named_within intervals name i named = slice_get_within intervals i named.0 named.1

-- an interval has one name
one_name : (intervals : List PlainInterval) (name other : List ℕ) (i : ℕ) → IsNamed intervals name i → IsNamed intervals other i → name ≡ other
one_name intervals name other i named also =
    let same : named.0 ≡ also.0 = let e = named.1 in let f = also.1 in cc in
    sym named.2 ∙ ap interval_name same ∙ also.2

-- and one partner
one_partner : (own other : List PlainInterval) → ((name : List ℕ) (i j : ℕ) → IsNamed other name i → IsNamed other name j → i ≡ j) → (i j k : ℕ) → HaveOneName own other i j → HaveOneName own other i k → j ≡ k
one_partner own other distinct i j k have also = distinct also.0 j k (subst (λ (name : List ℕ). IsNamed other name j) (one_name own have.0 also.0 i have.1 also.1) have.2) also.2

-- what is found by the name of an interval is its partner
pub partner_found : (own other : List PlainInterval) → ((name : List ℕ) (i j : ℕ) → IsNamed other name i → IsNamed other name j → i ≡ j)
    → (i : ℕ) (v : PlainInterval) (name : List ℕ) (partner : Option ℕ) → slice_get own i ≡ Some v → interval_name v ≡ name
    → IfSome partner (IsNamed other name) → (IsNone partner → (j : ℕ) → IsNamed other name j → ⊥) → IsPartner own other i partner
partner_found own other distinct i v name (Some j) at named some none = λ k.
    let have : HaveOneName own other i j = (name, (v, at, named), some) in
    (λ e. let same : j ≡ k = cc in subst (HaveOneName own other i) same have, λ also. ap Some (one_partner own other distinct i j k have also))
partner_found own other distinct i v name None at named some none = λ k. (
  λ e. absurd (let both : None ≡ Some k = e in cc),
  λ also. absurd (none (search rules) k (subst (λ (n : List ℕ). IsNamed other n k) (one_name own also.0 name i also.1 (v, at, named)) also.2)),
)

-- ---- what follows between partners

-- the intervals of a document are those of its net
pub as_many : (a : Annotation) → IsNetOf a.contents a.net → length a.contents.intervals ≡ intervals a.net
as_many a is = sym (AllZip-long IntervalBounds a.contents.intervals a.net.bounds is.bounds)

-- both intervals of a link are intervals of the document
link_within : (a : Annotation) → IsNetOf a.contents a.net → IsNet a.net → (k : ℕ) → k < length a.net.links → let link = link_at a.net k in (link.a < length a.contents.intervals) × (link.b < length a.contents.intervals)
link_within a is net k lt =
    let ends = All-get_or (λ (l : NetLink). (l.a < length a.net.bounds) × (l.b < length a.net.bounds)) a.net.links k (record { a = 0; rel = rel.Before; b = 0 }) lt net.ends in
    let same = as_many a is in
    (omega (arith, ends.0, same), omega (arith, ends.1, same))

module _ (own other : Annotation) (of_own : IsNetOf own.contents own.net) (own_net : IsNet own.net) (partners : List (Option ℕ)) (are : ArePartners own.contents.intervals other.contents.intervals partners) where
  -- links are between intervals with places for partners
  pub both_placed : (k : ℕ) → k < length own.net.links → let link = link_at own.net k in (link.a < length partners) × (link.b < length partners)
  both_placed k lt = let within = link_within own of_own own_net k lt in (omega (arith, within.0, are.size), omega (arith, within.1, are.size))

  module _ (table : Table) (closed : IsClosedOf other table) where
    -- partners are intervals of the table
    pub partners_within : ArePartnersWithin table.points partners
    partners_within i j at = elim (cases_lt i (length own.contents.intervals)) [
      | inl lt ↦
          let have = (are.each i lt j).0 at in
          let less = named_within other.contents.intervals have.0 j have.2 in
          omega (arith, less, as_many other closed.net, closed.closure.size)
      | inr past ↦ absurd (let none = get_or_past partners i None (omega (arith, past, are.size)) in let both : None ≡ Some j = sym none ∙ at in cc)
    ]

    -- the table entails a link between partners exactly where the link follows in the other annotation
    pub entails_follows : (k : ℕ) → k < length own.net.links → EntailsBetween table partners (link_at own.net k) ↔ FollowsIn own other k
    entails_follows k lt =
        let link = link_at own.net k in
        let within = link_within own of_own own_net k lt in
        let inside = λ (i j : ℕ) (have : HaveOneName own.contents.intervals other.contents.intervals i j). (let less = named_within other.contents.intervals have.0 j have.2 in let same = as_many other closed.net in in_net j less same) in (
          λ h.
              let first = (are.each link.a within.0 h.0).0 h.2 in
              let second = (are.each link.b within.1 h.1).0 h.3 in
              (h.0, h.1, first, second, (gives_what_follows other.net table closed.closure h.0 link.rel h.1 (inside link.a h.0 first) (inside link.b h.1 second)).0 h.4),
          λ h. (
            h.0,
            h.1,
            (are.each link.a within.0 h.0).1 h.2,
            (are.each link.b within.1 h.1).1 h.3,
            (gives_what_follows other.net table closed.closure h.0 link.rel h.1 (inside link.a h.0 h.2) (inside link.b h.1 h.3)).1 h.4,
          ),
        )
      where
        in_net : (j : ℕ) → j < length other.contents.intervals → length other.contents.intervals ≡ intervals other.net → j < intervals other.net
        in_net j less same = omega (arith, less, same)

-- ---- that there is one

count_same : (test other : ℕ → Bool) (ks : List ℕ) → ((k : ℕ) → Contains ks k → test k ≡ other k) → count_by test ks ≡ count_by other ks
count_same test other [] same = refl
count_same test other (k ∷ ks) same =
    let here = same k (first_in k ks) in
    let rest = count_same test other ks (λ j among. same j (rest_in k ks j among)) in
    sum_by-cons (λ j. cond (test j) 1 0) k ks ∙ (λ i. cond (here i) 1 0 + rest i) ∙ sym (sum_by-cons (λ j. cond (other j) 1 0) k ks)

one_count : (P : ℕ → Type 0) (ks : List ℕ) (m n : ℕ) → IsCountOf P ks m → IsCountOf P ks n → m ≡ n
one_count P ks m n is are = is.2 ∙ count_same is.0 are.0 ks (λ k among. same_from_decides (is.0 k) (are.0 k) (is.1 k among) (are.1 k among)) ∙ sym are.2

one_matched : (own other : Annotation) (links matched more found : ℕ) → AreMatched own other links matched → AreMatched own other more found → (links ≡ more) × (matched ≡ found)
one_matched own other links matched more found is are =
    let same = one_reduced_list own.net is.0 are.0 is.1 are.1 in (
      is.2 ∙ ap length same ∙ sym are.2,
      one_count (FollowsIn own other) are.0 matched found (subst (λ (ks : List ℕ). IsCountOf (FollowsIn own other) ks matched) same is.3) are.3,
    )

pub one_score : OneScore
one_score = λ doc key scores others is are.
    let precision = one_matched doc key scores.doc_links scores.matched others.doc_links others.matched is.0 are.0 in
    let recall = one_matched key doc scores.key_links scores.found others.key_links others.found is.1 are.1 in
    λ i. record { matched = precision.1 i; doc_links = precision.0 i; found = recall.1 i; key_links = recall.0 i }

-- ---- that there is one at all

-- the partner of an interval, or that there is none
partner_or_not : (own other : List PlainInterval) (i : ℕ) → i < length own → ((j : ℕ) × HaveOneName own other i j) ⊎ ((j : ℕ) → HaveOneName own other i j → ⊥)
partner_or_not own other i lt =
    let v = get_or own i (instance []) in
    let at : slice_get own i ≡ Some v = slice_get-get_or own i (instance []) lt in
    elim (named_or_not other (interval_name v)) [
      | yes found ↦ inl (found.0, (interval_name v, (v, at, refl), found.1))
      | no none ↦ inr (λ j have. none (j, subst (λ (n : List ℕ). IsNamed other n j) (one_name own have.0 (interval_name v) i have.1 (v, at, refl)) have.2))
    ]

-- a relation follows from a net, or it can fail
follows_or_not : (net : PlainNet) → IsNet net → HasTimeline net → (a : ℕ) (r : Rel) (b : ℕ) → a < intervals net → b < intervals net → Follows net a r b ⊎ (Follows net a r b → ⊥)
follows_or_not net is fits a r b la lb =
    let keep = replicate (length net.links) true in
    let law = λ (t : Timeline). atoms_say_the_relation t r a b in
    elim (atoms_decided net is fits.0 fits.1 keep (atoms_of a r b) (atoms_in_range (length net.bounds) r a b la lb)) [
      | inl all ↦ inl (λ t whole. (law t).1 (all t (fits_fewer net EveryLink (Kept keep) t (λ k below kept. tt) whole)))
      | inr fails ↦ inr (λ follows. fails.2 ((law fails.0).0 (follows fails.0 (fits_fewer net (Kept keep) EveryLink fails.0 (λ k below any. get_or-replicate (length net.links) k true false below) fails.1))))
    ]

module _ (own other : Annotation) (sound : IsSound own) (also : IsSound other) where
  inside : (i j : ℕ) → HaveOneName own.contents.intervals other.contents.intervals i j → j < intervals other.net
  inside i j have = let less = named_within other.contents.intervals have.0 j have.2 in let same = as_many other also.of_contents in omega (arith, less, same)

  -- a link follows in another annotation or it doesn't
  link_follows_or_not : (k : ℕ) → k < length own.net.links → FollowsIn own other k ⊎ (FollowsIn own other k → ⊥)
  link_follows_or_not k lt =
      let link = link_at own.net k in
      let mine = own.contents.intervals in
      let theirs = other.contents.intervals in
      let within = link_within own sound.of_contents sound.net k lt in
      elim (partner_or_not mine theirs link.a within.0) [
        | inr none ↦ inr (λ h. none h.0 h.2)
        | inl a ↦ elim (partner_or_not mine theirs link.b within.1) [
          | inr none ↦ inr (λ h. none h.1 h.3)
          | inl b ↦ elim (follows_or_not other.net also.net also.fits a.0 link.rel b.0 (inside link.a a.0 a.1) (inside link.b b.0 b.1)) [
            | inl follows ↦ inl (a.0, b.0, a.1, b.1, follows)
            | inr fails ↦ inr (λ h.
                let one = one_partner mine theirs also.contents.distinct link.a h.0 a.0 h.2 a.1 in
                let two = one_partner mine theirs also.contents.distinct link.b h.1 b.0 h.3 b.1 in
                fails (subst (λ (x : ℕ). Follows other.net x link.rel b.0) one (subst (λ (y : ℕ). Follows other.net h.0 link.rel y) two h.4)))
          ]
        ]
      ]

  -- whether it does, of any number
  pub follows_test : ℕ → Bool
  follows_test k = elim (cases_lt k (length own.net.links)) [
    | inl lt ↦ elim (link_follows_or_not k lt) [ inl follows ↦ true | inr fails ↦ false ]
    | inr past ↦ false
  ]

  pub test_tells : (k : ℕ) → k < length own.net.links → (follows_test k ≡ true) ↔ FollowsIn own other k
  unfolding follows_test
  test_tells k lt = elim (cases_lt k (length own.net.links)) as (λ c. (elim c [
    | inl less ↦ elim (link_follows_or_not k less) [ inl follows ↦ true | inr fails ↦ false ]
    | inr past ↦ false
  ] ≡ true) ↔ FollowsIn own other k) [
    | inl less ↦ elim (link_follows_or_not k less) as (λ d. (elim d [ inl follows ↦ true | inr fails ↦ false ] ≡ true) ↔ FollowsIn own other k) [
      | inl follows ↦ (λ e. follows, λ h. refl)
      | inr fails ↦ (λ e. absurd (let both : false ≡ true = e in cc), λ h. absurd (fails h))
    ]
    | inr past ↦ absurd (omega arith)
  ]

  pub some_test : (test : ℕ → Bool) × ((k : ℕ) → k < length own.net.links → (test k ≡ true) ↔ FollowsIn own other k)
  some_test = (follows_test, test_tells)

  some_matched : (links : ℕ) × (matched : ℕ) × AreMatched own other links matched
  some_matched =
      let reduced = every_net_is_reduced own.net sound.net sound.fits in (
        length reduced.0,
        count_by follows_test reduced.0,
        (reduced.0, reduced.1, refl, (follows_test, λ k among. test_tells k (All-contains (λ (j : ℕ). j < length own.net.links) reduced.0 k reduced.1.of_net among), refl)),
      )

pub every_score : EveryScore
every_score = λ doc key sound also.
    let precision = some_matched doc key sound also in
    let recall = some_matched key doc also sound in
    (record { matched = precision.1; doc_links = precision.0; found = recall.1; key_links = recall.0 }, (precision.2, recall.2))
