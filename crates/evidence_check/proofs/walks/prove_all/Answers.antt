use Rattle.std.proofs.Common.{◌<◌, false, [], length, refl, ◌∙◌, arith, below_more}
use Rattle.net_core.proofs.Lent.{zip_from}
use Rattle.net_core.specs.Atoms.{atoms_in}
use Rattle.evidence_check.specs.Refusals.{IsNoProof, Proves, atom_at, walk_at}
use Rattle.evidence_check.specs.Supported.{IsProof}
use Rattle.evidence_check.proofs.Proving.{at_number, atom_is, not_both, walk_is}
use Rattle.evidence_check.proofs.walks.prove_all.Goals as goal

pub returns-in-Err-clause-err : goal.returns-in-Err-clause-err
returns-in-Err-clause-err c =
    let net = c.args.net.now in
    let atoms = atoms_in c.args.atoms in
    let walks = c.args.walks.now in
    let k = c.loop-k.k in
    let below : k < length atoms = omega (arith, c.loop-k-test.true, c.loop-k.invariant.end) in
    let refusal = at_number (λ a w. IsNoProof net a w c.in-Err.reason) atoms walks k c.in-Some.atom c.as_slice.result.now
    (atom_is atoms k c.in-Some.atom c.in-Some.ensures)
    (c.as_slice.ensures ∙ walk_is walks k c.index-walks-k.result (omega (arith, below, c.requires.one_each)) c.index-walks-k.is) c.in-Err.ensures.err in
    (k, (below, (λ proof. not_both net (atom_at atoms k) (walk_at walks k) c.in-Err.reason proof refusal), c.loop-k.invariant.so_far), refl, refusal)

pub loop-k-preserved : goal.loop-k-preserved
loop-k-preserved c =
    let net = c.args.net.now in
    let atoms = atoms_in c.args.atoms in
    let walks = c.args.walks.now in
    let k = c.loop-k.k in
    let below : k < length atoms = omega (arith, c.loop-k-test.true, c.loop-k.invariant.end) in
    let proof = rw c.in_default-prove.is at c.prove.ensures.ok in
    record {
      end = c.loop-k.invariant.end;
      so_far = below_more (Proves net atoms walks) k c.loop-k.invariant.so_far
          (at_number (IsProof net) atoms walks k c.in-Some.atom c.as_slice.result.now (atom_is atoms k c.in-Some.atom c.in-Some.ensures)
          (c.as_slice.ensures ∙ walk_is walks k c.index-walks-k.result (omega (arith, below, c.requires.one_each)) c.index-walks-k.is) proof);
    }

pub returns-clause-ok : goal.returns-clause-ok
returns-clause-ok c =
    zip_from (IsProof c.args.net.now) (record { from = 0; to = 0; strict = false }) [] (atoms_in c.args.atoms) c.args.walks.now c.requires.one_each
    (λ k below. c.loop-k.invariant.so_far k (omega (arith, below, c.loop-k.invariant.end, c.loop-k-test.false)))
