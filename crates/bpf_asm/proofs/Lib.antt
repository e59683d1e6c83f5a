pub mod NumberLemmas
pub mod CutLemmas
pub mod TableLemmas
pub mod TokenLemmas
pub mod SpelledLemmas
pub mod FormLemmas
pub mod InsnLemmas
pub mod StatementLemmas
pub mod ReadLemmas
pub mod TextLemmas
pub mod TargetLemmas
pub mod AssemblyLemmas
pub mod ShownLemmas
pub mod PrintLemmas
pub mod ProgramLemmas
pub mod CodeLemmas
pub mod LabelLemmas
mod StandardFacts
