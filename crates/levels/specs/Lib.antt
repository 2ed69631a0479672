pub mod Verdicts
pub mod Rules
pub mod Standings
