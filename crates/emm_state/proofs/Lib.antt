pub mod Unsealing
