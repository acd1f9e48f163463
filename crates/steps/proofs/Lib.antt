pub mod Chosen
pub mod Demands
pub mod Firsts
