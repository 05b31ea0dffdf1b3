pub mod ReportView
pub mod Added
pub mod WholeView
pub mod Report
