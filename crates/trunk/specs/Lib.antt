-- What the trunk means: heads, kinds and records, the near end, the far end, and a list of calls on both (demand 3).
pub mod Head
pub mod Refusals
pub mod Kinds
pub mod Record
pub mod Bundle
pub mod Near
pub mod Far
pub mod Plain
pub mod Exactly
pub mod Line
pub mod Leaves
pub mod Demand
pub mod Consequences
pub mod Retries
