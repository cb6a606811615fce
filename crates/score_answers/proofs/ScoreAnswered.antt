-- A document and a key have one answer: one status, and one text, but for which clash of the document is printed.
use Rattle.std.proofs.Common.{◌≡◌, ◌⊎◌, ℕ, List, ◌++◌, codes, refl, sym, ap, ◌∙◌, inl, inr}
use Rattle.std.specs.Prelude.{⊤}
use Rattle.answers.specs.Lines.{fault_line}
use Rattle.answers.proofs.Answered.{judged_answered}
use Rattle.answers.proofs.Contents.{its_document}
use Rattle.answers.proofs.Refusals.{one_fault_line}
use Rattle.net_answers.specs.Nets.{of_net}
use Rattle.net_answers.proofs.Nets.{fits_or_clash, its_net, net_answered}
use Rattle.net_build.specs.Built.{IsNetOf}
use Rattle.net_build.proofs.OneNet.{one_net}
use Rattle.net_core.specs.Entailment.{HasTimeline}
use Rattle.net_core.specs.Nets.{IsNet, PlainNet}
use Rattle.tml_accept.specs.Acceptance.{FirstFault, Says}
use Rattle.tml_accept.proofs.Judged.{every_document}
use Rattle.tml_accept.proofs.Phases.{accepted_or_fault, one_document, one_fault}
use Rattle.tml_refs.specs.Documents.{PlainDocument}
use Rattle.runs.specs.declared.status.Status.{Status}
use Rattle.runs.specs.declared.status.Status.TheVariants.{Clash, DocFault, Done}
use Rattle.runs.proofs.Answering.{Answer, AreAnswered, HasAnswer, IsAnswered, by_the_one, left_only, one_answer, one_of_two, right_only}
use Rattle.tml_score.specs.Scores.{Annotation, IsSound}
use Rattle.tml_score.proofs.Counted.{every_score, one_score}
use Rattle.score_answers.specs.Score.{HasKeyLine, IsFreeScore, OfAnnotations, OfKey, OfScore, ScoreIsFree, key_clash, key_file, score_rows, scores_text}

-- ---- by the nets of both

module _ (doc key : Annotation) where
  either : (status : Status) (text : List ℕ) → OfAnnotations doc key status text → (status ≡ Done) ⊎ (status ≡ Clash)
  either Done text h = inl refl
  either Clash text h = inr refl
  either status text h = absurd h

  of_annotations : (IsFree : Status → Type 0) → HasAnswer (OfAnnotations doc key) → IsAnswered ⊤ (OfAnnotations doc key) IsFree
  of_annotations IsFree there = one_of_two (OfAnnotations doc key) IsFree Done Clash refl refl either (λ text line h k. k.0 h.0.0 h.0.1)
      (λ text line determined h k. h.3 ∙ ap scores_text (one_score doc key h.1 k.1 h.2 k.2) ∙ sym k.3) (λ text line determined h k. h.1 ∙ sym k.1) (λ given. there)

-- ---- by what the key says

abbrev annotated : PlainDocument → PlainNet → Annotation
annotated contents net = record { contents = contents; net = net }

-- what an accepted document says, with its net, is sound where some timeline fits
sound : (doc : List ℕ) (contents : PlainDocument) → Says doc contents → (net : PlainNet) → IsNetOf contents net → IsNet net → HasTimeline net → IsSound (annotated contents net)
sound doc contents says net built is fits = record { contents = its_document doc contents says; of_contents = built; net = is; fits = fits }

module _ (doc : List ℕ) (contents : PlainDocument) (says : Says doc contents) (bytes : List ℕ) where
  abbrev IsFree : Status → Type 0
  IsFree = IsFreeScore contents bytes

  module _ (key : PlainDocument) (is : Says bytes key) where
    -- where some timeline fits the document, by that of the key
    by_key : (net : PlainNet) → IsSound (annotated contents net) → IsAnswered ⊤ (OfKey key contents net) IsFree
    by_key net own =
        let its = its_net bytes key is in
        let there : HasAnswer (OfAnnotations (annotated contents net) (annotated key its.net)) = elim (fits_or_clash its.net its.is) [
          | inr shown ↦ (Clash, key_clash, (shown.1.none, refl))
          | inl both ↦
              let found = every_score (annotated contents net) (annotated key its.net) own (sound bytes key is its.net its.built its.is both) in
              (Done, scores_text found.0, (both, found.0, found.1, refl))
        ] in
        by_the_one (IsNetOf key) (one_net key) (λ key_net. OfAnnotations (annotated contents net) (annotated key key_net)) its.net its.built (of_annotations (annotated contents net) (annotated key its.net) IsFree there)

    of_key : IsAnswered ⊤ (of_net (OfKey key) contents) IsFree
    of_key = net_answered (OfKey key) IsFree doc contents says (λ net built none. (refl, net, built, none)) (λ net built own fits. by_key net (sound doc contents says net built own fits))

  -- the fault of a key is reported, or it is accepted
  abbrev Fault : Answer
  Fault status text = (status ≡ DocFault) × HasKeyLine (FirstFault bytes) text

  abbrev OfAccepted : Answer
  OfAccepted status text = (key : PlainDocument) × Says bytes key × of_net (OfKey key) contents status text

  one_line : (text line : List ℕ) → HasKeyLine (FirstFault bytes) text → HasKeyLine (FirstFault bytes) line → text ≡ line
  one_line text line h k = h.2 ∙ ap (λ (line : List ℕ). codes "key " ++ line) (one_fault_line (FirstFault bytes) h.0 k.0 (one_fault bytes) h.1 k.1) ∙ sym k.2

  scored : IsAnswered ⊤ (OfScore contents bytes) IsFree
  scored = elim (every_document bytes) [
    | inl accepted ↦ right_only (by_the_one (Says bytes) (one_document bytes) (λ key. of_net (OfKey key) contents) accepted.0 accepted.1 (of_key accepted.0 accepted.1))
        Fault (λ status text h. accepted_or_fault bytes h.1.1.0 h.1.1.1 accepted h.1.1.2)
    | inr fault ↦ left_only
        (one_answer Fault IsFree DocFault refl (λ status text h. h.0) (λ text line determined h k. one_line text line h.1 k.1)
        (codes "key " ++ fault_line fault.0 fault.1) (refl, (fault_line fault.0 fault.1, (fault.0, fault.1, fault.2, refl), refl)))
        OfAccepted (λ status text h. accepted_or_fault bytes fault.0 fault.1 (h.0, h.1) fault.2)
  ]

pub score_answered : (name key : List ℕ) → AreAnswered (score_rows name key) ScoreIsFree
score_answered name key = judged_answered name (key_file key) OfScore IsFreeScore (λ doc contents says bytes. scored doc contents says bytes)
