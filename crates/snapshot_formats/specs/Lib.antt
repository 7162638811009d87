pub mod Formats
pub mod Numbers
pub mod Heads
pub mod Contexts
pub mod Subscribers
