pub mod Ids
pub mod Provisioned
pub mod Kept
pub mod Forgetting
pub mod Spending
pub mod SpendingLaws
