pub mod AnyRecording
pub mod AnyStream
pub mod HonestBoard
pub mod Inside
pub mod Laws
pub mod Recording
pub mod Sizes
