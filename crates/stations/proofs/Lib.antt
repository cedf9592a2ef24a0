pub mod WriterLaws
pub mod FrontLaws
pub mod ReaderLaws
