-- Keys: the intervals among hits, and their keys
pub mod Keys
-- Hits: what the parts that gather keys promise each other
pub mod Hits
