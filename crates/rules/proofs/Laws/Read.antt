pub mod ReadBack
pub mod ReadSound
pub mod Finish
pub mod Reached
pub mod BeginsLaws
pub mod ReadRight
pub mod BeginsWritten
