pub mod Faults
pub mod Keys
pub mod Nas
pub mod S1ap
