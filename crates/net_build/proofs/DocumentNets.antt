-- The bounds and links of a document are a net.
use Rattle.std.proofs.Common.{◌≡◌, ℕ, ◌<◌, ◌≤◌, List, length, map, sym, ap, subst, ◌∙◌}
use Rattle.std.specs.List.{All, AllZip}
use Rattle.std.proofs.lemmas.List.{length-map}
use Rattle.std.proofs.lemmas.List.Elements.{All-map}
use Rattle.std.proofs.lemmas.Slice.Zip.{AllZip-long}
use Rattle.net_core.specs.Bounds.{AreOrdered}
use Rattle.net_core.specs.Limits.{max_intervals, max_links}
use Rattle.net_core.specs.Nets.{IsNet}
use Rattle.net_core.specs.declared.bounds.Bounds.{Bounds}
use Rattle.net_core.specs.declared.net.NetLink.{NetLink}
use Rattle.tml_refs.specs.Documents.{IsDocument, PlainDocument}
use Rattle.net_build.specs.Built.{IntervalBounds, net_link}

-- bounds in order, one for each interval, and the links of the document
pub is_net : (doc : PlainDocument) (bounds : List Bounds) (links : List NetLink) → IsDocument doc → AllZip IntervalBounds doc.intervals bounds → All AreOrdered bounds → links ≡ map net_link doc.links
    → IsNet (record { bounds = bounds; links = links })
is_net doc bounds links document zipped ordered same =
    let long = sym (AllZip-long IntervalBounds doc.intervals bounds zipped) in
    let AreInside : ℕ → NetLink → Type 0 = λ n l. (l.a < n) × (l.b < n) in
    record {
      few_intervals = subst (λ n. n ≤ max_intervals) long document.few_intervals;
      few_links = subst (λ n. n ≤ max_links) (sym (ap length same ∙ length-map doc.links net_link)) document.few_links;
      ordered = ordered;
      ends = subst (λ ls. All (AreInside (length bounds)) ls) (sym same)
          (All-map (AreInside (length bounds)) net_link doc.links (subst (λ n. All (λ l. AreInside n (net_link l)) doc.links) long document.ends));
    }
