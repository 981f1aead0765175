pub mod Prefix
pub mod Saving
pub mod Rooms
pub mod Statuses
pub mod Endings
pub mod Reading
pub mod Acting
pub mod Promises
