-- Slots, blocks and plans: what the check and the planner do, and in plain numbers what a plan is.
pub mod Refusals
pub mod Blocks
pub mod Checking
pub mod Planning
pub mod Plain
pub mod Claims
