-- Script: the script call's struct and promise
pub mod Script
-- Sweep: the sweeps'
pub mod Sweep
-- Finder: the finders'
pub mod Finder
