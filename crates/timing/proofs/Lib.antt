pub mod RestLaws
pub mod AnswerLaws
pub mod SoundLaws
