-- The printed texts of evidence.
use Rattle.std.specs.Prelude.{ℕ, ◌<◌, ⊤, List, [], ◌++◌, codes, decimal, length}
use Rattle.std.specs.List.{flat_map}
use Rattle.net_core.specs.declared.rels.Rel.{Rel}
use Rattle.evidence_format.specs.Evidence.{PlainEvidence, timeline, entails, counter, clash}
use Rattle.evidence_check.specs.declared.refusal.Reason.{Reason}
use Rattle.evidence_check.specs.declared.refusal.Reason.TheVariants.{Number, Size, Order, Link, Calendar, Step, End, Weak, Cited, Holds}
use Rattle.evidence_check.specs.declared.refusal.RefusedClaim.{RefusedClaim}
use Rattle.tml_refs.specs.Documents.{PlainDocument}
use Rattle.answers.specs.Lines.{line_prefix, name_at, numbered, related}

-- a relation that was verified, by the names of its intervals
abbrev pub relation_claim : List ℕ → PlainDocument → ℕ → Rel → ℕ → List ℕ
relation_claim words doc a r b = words ++ related (name_at doc.intervals a) r (name_at doc.intervals b) ++ codes "\n"

-- the number of a link that was cited
abbrev pub cited : ℕ → List ℕ
cited link = codes " " ++ decimal link

-- links that were verified to clash, by their numbers
abbrev pub clash_claim : List ℕ → List ℕ → List ℕ
clash_claim words cites = words ++ flat_map cited cites ++ codes "\n"

-- what supported evidence of a document shows
abbrev pub claim_line : PlainDocument → PlainEvidence → List ℕ
claim_line doc (timeline ranks) = codes "verified timeline\n"
claim_line doc (entails a r b walks) = relation_claim (codes "verified entails ") doc a r b
claim_line doc (counter a r b ranks) = relation_claim (codes "verified counter ") doc a r b
claim_line doc (clash cites walk spares) = clash_claim (codes "verified clash") cites

-- what supported claims of a document show, a line each
abbrev pub claim_lines : PlainDocument → List PlainEvidence → List ℕ
claim_lines doc es = flat_map (claim_line doc) es

-- the numbers of the intervals in evidence are those of intervals of a document
abbrev pub NamesIntervals : PlainDocument → PlainEvidence → Type 0
NamesIntervals doc (timeline ranks) = ⊤
NamesIntervals doc (entails a r b walks) = (a < length doc.intervals) × (b < length doc.intervals)
NamesIntervals doc (counter a r b ranks) = (a < length doc.intervals) × (b < length doc.intervals)
NamesIntervals doc (clash cites walk spares) = ⊤

-- why evidence is refused, with the numbers of the reason
abbrev pub reason_text : Reason → List ℕ
reason_text (Number number) = numbered (codes "Number ") number
reason_text (Size size) = numbered (codes "Size ") size
reason_text (Order interval) = numbered (codes "Order ") interval
reason_text (Link link) = numbered (codes "Link ") link
reason_text (Calendar from to) = line_prefix (codes "Calendar ") from ++ numbered [] to
reason_text (Step step) = numbered (codes "Step ") step
reason_text End = codes "End\n"
reason_text Weak = codes "Weak\n"
reason_text (Cited link) = numbered (codes "Cited ") link
reason_text Holds = codes "Holds\n"

-- the line of refused evidence: the claim, the part, and why
abbrev pub refusal_line : RefusedClaim → List ℕ
refusal_line refused = line_prefix (codes "evidence claim ") refused.claim ++ line_prefix (codes "part ") refused.refused.part ++ reason_text refused.refused.reason
