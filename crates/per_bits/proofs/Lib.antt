pub mod WrittenLaws
pub mod Passing
pub mod PlaceLaws
pub mod Placed
pub mod OpenLaws
pub mod FieldLaws
pub mod Heads
pub mod Marked
