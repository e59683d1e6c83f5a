mod IgnoredLemmas
mod LogLemmas
mod DeskLemmas
mod MembersLemmas
