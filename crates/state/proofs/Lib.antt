pub mod Every
pub mod Kept
pub mod Nodes
pub mod RangeFacts
pub mod Threads
pub mod Walks
