pub mod Hall
pub mod Hearing
pub mod Listing
pub mod Numbers
pub mod Readers
pub mod Saying
pub mod Waiting
