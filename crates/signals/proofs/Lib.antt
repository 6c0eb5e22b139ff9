-- Laws of the ends of a net in a cycle, and of a cycle as a whole.
pub mod EndLaws
pub mod Settled
