pub mod Sides
pub mod Messages
pub mod Protecting
pub mod Answering
pub mod Asking
pub mod View
