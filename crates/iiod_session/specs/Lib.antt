pub mod Given
pub mod Run
pub mod Watch
pub mod PendingWrite
pub mod Session
