pub mod CommandLemmas
pub mod CountLemmas
pub mod GameLemmas
pub mod PictureLemmas
pub mod TakeLemmas
pub mod ViewLemmas
