-- An update cut anywhere: what a run keeps of any lists, and that a queue may be filled again from values and marks.
pub mod Queues
pub mod AnyRuns
pub mod Fair
pub mod FairRuns
pub mod Slices
pub mod Resumes
