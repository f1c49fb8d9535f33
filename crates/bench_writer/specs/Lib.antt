pub mod Buffer
pub mod Convert
pub mod Examples
pub mod Writer
