-- Window: the interval sweep does not look at the window
pub mod Window
-- Roomy: the program's work lists are never too short
pub mod Roomy
