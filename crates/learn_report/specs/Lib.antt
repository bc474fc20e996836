pub mod Index
pub mod Reports
