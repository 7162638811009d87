pub mod States
pub mod Fit
pub mod Fitting
pub mod Saving
pub mod SavingLaws
