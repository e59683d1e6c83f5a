-- Models of the code: what the contracts of private functions cite, here and in the crate above. No public clause depends on
-- them.
pub mod Filling
pub mod Noting
pub mod Straight
