-- Mode: a job's mode, by the byte of 02
pub mod Mode
-- Table: the crate's table in the rules' terms
pub mod Table
-- Reader: what the reader reads
pub mod Reader
-- Judge: what the parts of the first pass answer
pub mod Judge
