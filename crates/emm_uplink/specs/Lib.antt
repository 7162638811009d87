pub mod Serving
pub mod Attaching
