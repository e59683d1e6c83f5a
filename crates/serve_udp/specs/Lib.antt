pub mod Control
pub mod Front
pub mod FrontTurn
pub mod Service
pub mod body
