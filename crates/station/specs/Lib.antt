pub mod Filtering
pub mod Nearness
pub mod Judging
pub mod Counting
pub mod Exactness
pub mod Units
