-- Laws of a net: of its fields, its connections and its orders, and of the check that puts them together.
pub mod Blocks
pub mod Nets
pub mod Chains
pub mod EndTables
pub mod Wirings
pub mod FreeLoops
pub mod Orders
-- Of the definitions alone: one verdict, the ends of the channels, orders without code, a test for an accepted net, and the trial runs.
pub mod Verdicts
pub mod Places
pub mod Placed
pub mod Accepting
pub mod Trials
pub mod Decided
