pub mod Failing
pub mod Flood
pub mod FloodVersions
pub mod Publications
pub mod Traffic
pub mod body
