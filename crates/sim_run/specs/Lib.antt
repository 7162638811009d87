pub mod Simulated
-- crates below, passed on with all of their definitions
pub use Rattle.sim_lines.specs.sim_printing as sim_printing
