pub mod Rows
pub mod Forms
pub mod ImageLaws
pub mod LentLaws
pub mod PlaceLaws
