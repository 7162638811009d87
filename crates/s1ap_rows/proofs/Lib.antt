pub mod Gathering
pub mod WritableLaws
pub mod InPlace
pub mod Criticalities
pub mod Fronts
