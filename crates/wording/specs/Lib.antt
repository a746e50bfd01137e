pub mod Page
pub mod Promises
pub mod StationPage
pub mod Stations
pub mod Wording
