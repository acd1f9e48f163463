pub mod Ledgers
pub mod Strikes
pub mod Judging
pub mod Told
