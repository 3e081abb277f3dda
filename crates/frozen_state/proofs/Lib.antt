pub mod Adding
pub mod Names
