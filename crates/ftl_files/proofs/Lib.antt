pub mod ReportLemmas
pub mod ListedLemmas
pub mod ListingLemmas
pub mod NotedLemmas
pub mod TidyLemmas
pub mod ReadLemmas
pub mod NamesOfPaths
