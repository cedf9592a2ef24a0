pub mod ParseLaws
pub mod ReaderLaws
pub mod ReplyLaws
pub mod TurnLaws
pub mod RunLaws
pub mod ForecastLaws
pub mod PartLaws
pub mod JoinLaws
