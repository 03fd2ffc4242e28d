pub mod ArgumentLemmas
pub mod CommandLemmas
pub mod FaultLemmas
pub mod SetupLemmas
