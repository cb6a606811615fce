-- The times of every document have one text.
use Rattle.std.proofs.Common.{◌≡◌, ℕ, ℤ, List, [], ◌∷◌, ◌++◌, codes, refl}
use Rattle.std.specs.List.{All, AllZip}
use Rattle.std.proofs.lemmas.List.Elements.{All-head, All-tail}
use Rattle.answers.proofs.Answered.{document_answered}
use Rattle.answers.proofs.Contents.{its_document}
use Rattle.net_core.specs.declared.bounds.Bounds.{Bounds}
use Rattle.net_core.specs.declared.bounds.Bounds.TheVariants.{Exact, Within, Free}
use Rattle.net_build.specs.Built.{IntervalBounds}
use Rattle.net_build.proofs.EveryNet.{every_net}
use Rattle.timex_dates.specs.Answers.{IsCivil}
use Rattle.timex_dates.specs.Seconds.{IsCivilSecond}
use Rattle.timex_dates.proofs.EveryText.{every_text}
use Rattle.tml_accept.specs.Acceptance.{Says}
use Rattle.tml_refs.specs.Documents.{PlainDocument, PlainInterval, instance, time}
use Rattle.runs.specs.Rows.{NeverFree}
use Rattle.runs.specs.declared.status.Status.{Status}
use Rattle.runs.specs.declared.status.Status.TheVariants.{Done}
use Rattle.runs.proofs.Answering.{AreAnswered, one_answer}
use Rattle.document_answers.specs.Dates.{BoundsText, DateLine, DateLines, EndsText, OfDates, dates_rows, numbers}
use Rattle.document_answers.proofs.OneDateLines.{one_date_lines}

-- ---- there are lines

-- the ends of bounds have texts
every_ends : (lo hi : ℤ) → IsCivilSecond lo → IsCivilSecond hi → (text : List ℕ) × EndsText lo hi text
every_ends lo hi from to =
    let start = every_text lo from in
    let finish = every_text hi to in
    (numbers lo hi ++ start.0 ++ codes " " ++ finish.0, (start.0, finish.0, start.1, finish.1, refl))

every_bounds : (bounds : Bounds) → IsCivil bounds → (text : List ℕ) × BoundsText bounds text
every_bounds (Exact lo hi) civil = let ends = every_ends lo hi civil.0 civil.1 in (codes "exact " ++ ends.0, (ends.0, ends.1, refl))
every_bounds (Within lo hi) civil = let ends = every_ends lo hi civil.0 civil.1 in (codes "within " ++ ends.0, (ends.0, ends.1, refl))
every_bounds Free civil = (codes "free", refl)

every_date : (interval : PlainInterval) (bounds : Bounds) → IntervalBounds interval bounds → IsCivil bounds → (line : List ℕ) × DateLine interval line
every_date (instance name) bounds has civil = ([], refl)
every_date (time t) bounds has civil =
    let text = every_bounds bounds civil in
    (t.name ++ codes " " ++ text.0 ++ codes "\n", (bounds, text.0, has, text.1, refl))

-- intervals whose bounds have texts have lines
date_lines : (intervals : List PlainInterval) (bounds : List Bounds) → AllZip IntervalBounds intervals bounds → All IsCivil bounds → (out : List ℕ) × DateLines intervals out
date_lines [] bounds has civil = ([], refl)
date_lines (interval ∷ intervals) [] has civil = absurd has
date_lines (interval ∷ intervals) (b ∷ bounds) has civil =
    let line = every_date interval b has.0 (All-head IsCivil b bounds civil) in
    let rest = date_lines intervals bounds has.1 (All-tail IsCivil b bounds civil) in
    (line.0 ++ rest.0, (line.0, rest.0, line.1, rest.1, refl))

some : (doc : List ℕ) (contents : PlainDocument) → Says doc contents → (text : List ℕ) × OfDates contents Done text
some doc contents says =
    let net = every_net contents (its_document doc contents says) in
    date_lines contents.intervals net.0.bounds net.1.bounds net.3

-- ---- and one text of them

done : (contents : PlainDocument) (status : Status) (text : List ℕ) → OfDates contents status text → status ≡ Done
done contents Done text h = refl
done contents status text h = absurd h

pub dates_answered : (name : List ℕ) → AreAnswered (dates_rows name) NeverFree
dates_answered name = document_answered OfDates (λ doc contents says.
    let lines = some doc contents says in
    one_answer (OfDates contents) (λ status. ⊥) Done refl (done contents) (λ text line determined h k. one_date_lines contents.intervals text line h k) lines.0 lines.1) name
