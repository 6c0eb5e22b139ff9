-- Laws of following a stall: from the signals to the net, the call's answer by its refusals, what every chain is like, and what is promised of it.
pub mod Netted
pub mod Answers
pub mod Paths
pub mod Theorems
pub mod Trials
