pub mod TrialLaws
mod EndLaws
mod PlainLaws
mod NumberLaws
mod RestLaws
mod RunLaws
mod BenchLaws
mod WitnessLaws
