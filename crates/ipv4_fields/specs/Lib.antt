pub mod Field
pub mod Endpoint
pub mod Dispatchable
pub mod Cut
pub mod body
