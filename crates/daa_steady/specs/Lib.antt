pub mod Alerts
pub mod Sides
