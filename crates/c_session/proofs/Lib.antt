pub mod Heard
pub mod Labels
pub mod Left
pub mod Parting
pub mod Places
pub mod Saying
pub mod SaidTicks
pub mod Texts
