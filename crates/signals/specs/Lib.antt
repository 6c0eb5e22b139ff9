-- Working definitions: what the signals of a cycle are, of a net.
pub mod Wires
