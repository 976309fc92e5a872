-- Writing: bytes behind bytes, and a word byte by byte
pub mod Writing
