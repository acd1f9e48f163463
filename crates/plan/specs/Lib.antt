-- Prepared: what is looked up of a sheet. Plan: the sheet of a plan.
pub mod Prepared
pub mod Plan
