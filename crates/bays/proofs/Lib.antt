-- Laws of a record, of a bay's refusal, of the bay that has the turn, and of what a call does to one bay.
pub mod Records
pub mod Refusals
pub mod Turns
pub mod Fair
pub mod Alone
pub mod Free
pub mod Apart
pub mod Allowance
pub mod Fresh
-- The promises, proved, and instances of them.
pub mod Theorems
pub mod Trials
