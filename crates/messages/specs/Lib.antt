pub mod Messages
pub mod Replies
pub mod Run
pub mod Forecast
pub mod Promises
pub mod Private
