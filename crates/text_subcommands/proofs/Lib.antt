pub mod CheckLemmas
pub mod MessageLemmas
pub mod MoveLemmas
pub mod PlayedLemmas
pub mod RefusalLemmas
pub mod TestLemmas
pub mod TimesLemmas
