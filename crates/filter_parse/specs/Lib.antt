pub mod Code
pub mod Token
pub mod Grammar
pub mod Fault
pub mod Laws
pub mod body
