pub mod Ledger
pub mod Verdicts
