-- Lemmas of `named` that a checker needs, lent on: so it stands on nets and evidence alone.
pub use Rattle.named.proofs.Deciding.{implied, some_below}
pub use Rattle.named.proofs.Pairs.{zip_at, zip_from}
