pub mod ReduceAnswered
pub mod ScoreAnswered
