-- The laws of the wire that the crates above cite.
pub mod ByteLaws
pub mod RowLaws
pub mod TableLaws
pub mod FirstLaws
pub mod RuleLaws
pub mod FitLaws
pub mod PartLaws
pub mod ClearLaws
pub mod AppendLaws
pub mod PlainLaws
