pub mod Components
pub mod PerFaults
pub mod MessageFaults
pub mod S1apFaults
pub mod Least
pub mod Ranged
