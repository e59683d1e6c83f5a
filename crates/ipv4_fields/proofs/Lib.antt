pub mod FieldLemmas
pub mod FlowLemmas
pub mod FragmentLemmas
pub mod StandardFacts
pub mod TextLemmas
