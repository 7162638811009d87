pub mod Changes
pub mod Ticks
pub mod RankLaws
