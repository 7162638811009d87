pub mod PduLaws
pub mod SpelledLaws
pub mod WrittenLaws
pub mod NamedLaws
pub mod LengthLaws
pub mod WritableLaws
