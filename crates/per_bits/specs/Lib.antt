pub mod Formats
pub mod Spelling
pub mod Reading
pub mod Writing
pub mod Written
pub mod Names
pub mod Kept
pub mod Sequences
pub mod BaseLaws
pub mod LargeLaws
pub mod FormatLaws
pub mod HeadLaws
pub mod WritingLaws
-- whole numbers, for those who stand on the formats
pub use Rattle.per_streams.specs.Numbers
-- crates below, passed on with all of their definitions
pub use Rattle.per_streams.specs as per_streams
