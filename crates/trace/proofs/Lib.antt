-- Laws of a trace: of a cycle's records, of their bytes, and of the numbers that bytes make.
pub mod ByteNumbers
pub mod Examples
pub mod RecordLists
pub mod TraceBytes
