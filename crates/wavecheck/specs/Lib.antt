pub mod Findings
pub mod Reports
pub mod Tallies
pub mod Text
