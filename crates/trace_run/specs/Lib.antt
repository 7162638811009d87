pub mod Play
pub mod Lines
pub mod OneLine
pub mod PartLaws
pub mod Parts
pub mod OctetLaws
pub mod Leaving
pub mod Watching
