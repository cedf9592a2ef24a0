pub mod Writer
pub mod Reader
pub mod Promises
pub mod Private
