-- Laws of slots, blocks and plans, and the theorems of them.
pub mod SumLaws
pub mod ReverseLaws
pub mod BlockLaws
pub mod CheckLaws
pub mod LineLaws
pub mod PlanLaws
pub mod CountLaws
pub mod RuleLaws
pub mod Theorems
