pub mod Connective
