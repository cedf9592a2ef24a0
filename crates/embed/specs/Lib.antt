pub mod Bytes
pub mod Exports
pub mod Private
