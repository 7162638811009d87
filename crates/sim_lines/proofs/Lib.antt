pub mod Printing
pub mod Faults
pub mod Further
pub mod Playing
