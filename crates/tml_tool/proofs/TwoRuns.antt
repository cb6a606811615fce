-- What is printed as evidence, `verify` accepts.
use Rattle.std.proofs.Common.{◌≡◌, ◌≢◌, ◌≤◌, false, ℕ, List, map, [], ◌∷◌, length, refl, Some, inl, inr, arith}
use Rattle.answers.specs.Commands.{argument}
use Rattle.answers.specs.Documents.{Contents, doc_file, document_rows, of_contents}
use Rattle.answers.specs.Judged.{documents}
use Rattle.evidence_answers.specs.Texts.{claim_lines}
use Rattle.evidence_answers.specs.Files.{evidence_file}
use Rattle.evidence_answers.specs.Accepting.{AcceptsText}
use Rattle.evidence_answers.specs.Verify.{OfVerify, verify_rows}
use Rattle.evidence_answers.proofs.Accepting.{accepted}
use Rattle.evidence_answers.proofs.VerifyAnswered.{verify_answered}
use Rattle.evidence_check.specs.Claims.{ShowsTruth}
use Rattle.evidence_check.specs.Supported.{IsSupported}
use Rattle.evidence_format.specs.Evidence.{PlainEvidence, clash, counter, entails, timeline}
use Rattle.evidence_format.proofs.Claims.{all_of_one}
use Rattle.net_answers.specs.Nets.{NetAnswers, of_net}
use Rattle.net_answers.specs.Showing.{ShowsEvidence}
use Rattle.net_build.specs.Built.{IsNetOf}
use Rattle.net_core.specs.Limits.{max_evidence}
use Rattle.net_core.specs.Nets.{PlainNet}
use Rattle.net_core.specs.Ranks.{pairs_of}
use Rattle.order_answers.specs.Ask.{OfAsk, of_numbers}
use Rattle.order_answers.specs.Relations.{OfRelations}
use Rattle.order_answers.specs.Solve.{OfSolve}
use Rattle.possible_answers.specs.Matrix.{OfMatrix}
use Rattle.possible_answers.specs.Possible.{OfPossible, of_intervals}
use Rattle.score_answers.specs.Reduce.{OfReduce}
use Rattle.score_answers.specs.Score.{OfKey, OfScore, key_clash, key_file, score_rows}
use Rattle.tml_accept.specs.Acceptance.{Says}
use Rattle.tml_io.specs.Files.{Files, held}
use Rattle.tml_refs.specs.Documents.{PlainDocument}
use Rattle.runs.specs.OneReply.{is_aborted}
use Rattle.runs.specs.Replies.{Replies}
use Rattle.runs.specs.declared.status.Status.{Status}
use Rattle.runs.specs.declared.status.Status.TheVariants.{Done, Clash, DocFault, TooLong}
use Rattle.runs.proofs.OneFile.{answered_or_long}
use Rattle.runs.proofs.TwoFiles.{judged_or_long}
use Rattle.tml_tool.specs.Commands.{rows_with}
use Rattle.tml_tool.specs.TwoRuns.{EvidenceIsVerified, PrintsEvidence}
use Rattle.tml_tool.specs.declared.commands.Form.{Form}
use Rattle.tml_tool.specs.declared.commands.Form.TheVariants.{Solve, Ask, Relations, Possible, Matrix, Reduce, Score}

-- ---- what is printed is evidence

-- the document is accepted, and the text is that of evidence that its net supports
pub record HasEvidence (doc text : List ℕ) : Type 0 where
  pub contents : PlainDocument
  pub net : PlainNet
  pub evidence : PlainEvidence
  pub says : Says doc contents
  pub built : IsNetOf contents net
  pub shows : ShowsEvidence net evidence text

-- answers of a status to an accepted document that are evidence of its net
abbrev AreEvidence : Contents → Status → Type 0
AreEvidence Of status = (doc : List ℕ) (contents : PlainDocument) → Says doc contents → (text : List ℕ) → Of contents status text → HasEvidence doc text

-- a clash is
a_clash : (Of : NetAnswers) (doc : List ℕ) (contents : PlainDocument) → Says doc contents → (text : List ℕ) → ((net : PlainNet) → Of contents net Clash text → ⊥) → of_net Of contents Clash text → HasEvidence doc text
a_clash Of doc contents says text none (net, built, inl (is, shown)) = record { contents = contents; net = net; evidence = clash shown.cites shown.walk (map pairs_of shown.spares); says = says; built = built; shows = shown.evidence }
a_clash Of doc contents says text none (net, built, inr (fits, h)) = absurd (none net h)

of_clash : (Of : NetAnswers) → ((contents : PlainDocument) (net : PlainNet) (text : List ℕ) → Of contents net Clash text → ⊥) → AreEvidence (of_net Of) Clash
of_clash Of none doc contents says text h = a_clash Of doc contents says text (λ net. none contents net text) h

-- a timeline is
of_timeline : AreEvidence (of_net OfSolve) Done
of_timeline doc contents says text (net, built, inl (is, shown)) = absurd (cc is)
of_timeline doc contents says text (net, built, inr (fits, shown)) = record { contents = contents; net = net; evidence = timeline (pairs_of shown.0); says = says; built = built; shows = shown.2 }

-- a proof is, and so is a counterexample
of_relation : (x rel y : List ℕ) → AreEvidence (OfAsk x rel y) Done
of_relation x rel y doc contents says text (inl (is, unknown)) = absurd (cc is)
of_relation x rel y doc contents says text (inr (a, r, b, name, (net, built, inl (is, shown)))) = absurd (cc is)
of_relation x rel y doc contents says text (inr (a, r, b, name, (net, built, inr (fits, inl proof)))) = record { contents = contents; net = net; evidence = entails a r b proof.0; says = says; built = built; shows = proof.2 }
of_relation x rel y doc contents says text (inr (a, r, b, name, (net, built, inr (fits, inr example)))) = record { contents = contents; net = net; evidence = counter a r b (pairs_of example.1); says = says; built = built; shows = example.5 }

of_asked_clash : (x rel y : List ℕ) → AreEvidence (OfAsk x rel y) Clash
of_asked_clash x rel y doc contents says text (inl (is, unknown)) = absurd (cc is)
of_asked_clash x rel y doc contents says text (inr (a, r, b, name, asked)) = of_clash (of_numbers a r b) (λ contents net text none. none) doc contents says text asked

of_possible_clash : (x y : List ℕ) → AreEvidence (OfPossible x y) Clash
of_possible_clash x y doc contents says text (inl (is, unknown)) = absurd (cc is)
of_possible_clash x y doc contents says text (inr (a, b, first, second, asked)) = of_clash (of_intervals a b) (λ contents net text none. none) doc contents says text asked

-- ---- and it is verified

-- a document in a file, with evidence of it
abbrev HasShown : Files → List ℕ → List ℕ → Type 0
HasShown files name text = (doc : List ℕ) × (held files name ≡ Some doc) × (length doc ≤ (doc_file name).limit) × HasEvidence doc text

-- an answer that is not the refusal of a document, nor that of a file
abbrev IsAnswer : Status → Type 0
IsAnswer status = (is_aborted status ≡ false) × (status ≡ DocFault → ⊥) × (status ≡ TooLong → ⊥)

shown : (files : Files) (Of : Contents) (name : List ℕ) (status : Status) (text : List ℕ) (taken : ℕ) → IsAnswer status → AreEvidence Of status → Replies (Some files) (document_rows Of name) status text taken → HasShown files name text
shown files Of name status text taken answer are h = elim (answered_or_long files (doc_file name) (of_contents Of) status text taken answer.0 h) [
  | inr long ↦ absurd (answer.2 long)
  | inl (doc, holds, short, inl refused) ↦ absurd (answer.1 refused.0)
  | inl (doc, holds, short, inr (contents, says, asked)) ↦ (doc, holds, short, are doc contents says text asked)
]

-- a clash that is not that of the key is one of the document
scored : (files : Files) (name key text : List ℕ) (taken : ℕ) → text ≢ key_clash → Replies (Some files) (score_rows name key) Clash text taken → HasShown files name text
scored files name key text taken other h = elim (judged_or_long documents files (doc_file name) (key_file key) OfScore Clash text taken refl h) [
  | inr long ↦ absurd (cc long)
  | inl (doc, holds, short, inl refused) ↦ absurd (cc refused.0)
  | inl (doc, holds, short, inr (bytes, (contents, says, inl fault))) ↦ absurd (cc fault.0)
  | inl (doc, holds, short, inr (bytes, (contents, says, inr (said, is, asked)))) ↦ (doc, holds, short, a_clash (OfKey said) doc contents says text (λ net answer. other answer.2.1) asked)
]

printed : (files : Files) (form : Form) (name : List ℕ) (given : List (List ℕ)) (status : Status) (text : List ℕ) (taken : ℕ) → PrintsEvidence form status text
    → Replies (Some files) (rows_with form (name ∷ given)) status text taken → HasShown files name text
printed files Solve name given Done text taken e h = shown files (of_net OfSolve) name Done text taken (refl, λ is. cc, λ is. cc) of_timeline h
printed files Solve name given Clash text taken e h = shown files (of_net OfSolve) name Clash text taken (refl, λ is. cc, λ is. cc) (of_clash OfSolve (λ contents net text none. none)) h
printed files Relations name given Clash text taken e h = shown files (of_net OfRelations) name Clash text taken (refl, λ is. cc, λ is. cc) (of_clash OfRelations (λ contents net text none. none)) h
printed files Ask name given Done text taken e h =
    shown files (OfAsk (argument given 0) (argument given 1) (argument given 2)) name Done text taken (refl, λ is. cc, λ is. cc) (of_relation (argument given 0) (argument given 1) (argument given 2)) h
printed files Ask name given Clash text taken e h =
    shown files (OfAsk (argument given 0) (argument given 1) (argument given 2)) name Clash text taken (refl, λ is. cc, λ is. cc) (of_asked_clash (argument given 0) (argument given 1) (argument given 2)) h
printed files Possible name given Clash text taken e h = shown files (OfPossible (argument given 0) (argument given 1)) name Clash text taken (refl, λ is. cc, λ is. cc) (of_possible_clash (argument given 0) (argument given 1)) h
printed files Matrix name given Clash text taken e h = shown files (of_net OfMatrix) name Clash text taken (refl, λ is. cc, λ is. cc) (of_clash OfMatrix (λ contents net text none. none)) h
printed files Reduce name given Clash text taken e h = shown files (of_net OfReduce) name Clash text taken (refl, λ is. cc, λ is. cc) (of_clash OfReduce (λ contents net text none. none)) h
printed files Score name given Clash text taken e h = scored files name (argument given 0) text taken e h
printed files form name given status text taken e h = absurd e

-- it is read as evidence, and verified
verified : (files : Files) (name other text : List ℕ) → HasShown files name text → held files other ≡ Some text → AcceptsText files (verify_rows name other) text
verified files name other text (doc, holds, short, has) held_text =
    let shows = has.shows in
    let few : length text ≤ max_evidence = omega (arith, shows.3) in
    accepted files name (evidence_file other) OfVerify doc text (claim_lines has.contents (has.evidence ∷ [])) has.contents (verify_answered name other).one_next holds short has.says held_text few few
    (has.net, has.built, (has.evidence ∷ [], inl shows.0, all_of_one (IsSupported has.net) has.evidence shows.1, all_of_one (ShowsTruth has.net) has.evidence shows.2, refl))

pub evidence_is_verified : EvidenceIsVerified
evidence_is_verified = λ files form name arguments other text status taken e h held_text. verified files name other text (printed files form name arguments status text taken e h) held_text
