-- Units: the units of a tag's fields, as the second pass meets them
pub mod Units
-- Read: what reading a job promises
pub mod Read
-- Room: the lists of a room
pub mod Room
