pub mod Tests
pub mod Orders
pub mod Numbers
pub mod Lists
pub mod Endings
