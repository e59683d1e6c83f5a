-- Models of the code: what the contracts of private functions cite. No public clause needs them.
pub mod Ahead
pub mod InOrder
