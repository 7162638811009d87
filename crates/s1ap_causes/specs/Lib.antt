pub mod Causes
pub mod NameLaws
pub mod CauseLaws
