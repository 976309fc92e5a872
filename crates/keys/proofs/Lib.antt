pub mod Insertion
pub mod Settling
pub mod Partition
pub mod Halving
pub mod Searching
pub mod Repeats
pub mod Numbers
pub mod Permuted
