pub mod Counts
pub mod Near
pub mod Context
pub mod Protecting
pub mod Accepting
pub mod Laws
