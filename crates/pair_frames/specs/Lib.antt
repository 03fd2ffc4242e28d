pub mod PutIn
pub mod Laws
