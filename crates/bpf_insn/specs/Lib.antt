pub mod Table
pub mod Word
pub mod body
