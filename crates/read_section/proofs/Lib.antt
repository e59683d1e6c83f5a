mod OrderLemmas
mod ListLemmas
mod VersionsRuleLemmas
mod HeldLemmas
mod HeldWordLemmas
mod PartEntryLemmas
mod ReadLemmas
mod SoughtLemmas
mod RowReadLemmas
mod FrontLemmas
mod ExtentReadLemmas
mod WorkerKept
mod OperatorKept
mod SeatKept
mod WorkerSeatLemmas
mod OperatorSeatLemmas
mod MeetingLemmas
mod OpeningLemmas
pub mod SectionLemmas
mod CacheLemmas
mod EnterLemmas
pub mod FilledLemmas
mod PutLemmas
mod KeeperLemmas
mod PoolLemmas
mod CurrentRowLemmas
