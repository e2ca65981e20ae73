pub mod DemoRun
pub mod Sessions
pub mod Running
pub mod Auditing
pub mod Showing
