pub mod Alike
pub mod TextParts
pub mod MovingWords
pub mod MovingPatterns
pub mod MovingEntries
pub mod Clean
pub mod MovingComments
pub mod Cutting
pub mod Slices
pub mod CutTexts
pub mod Between
pub mod LineFeeds
pub mod TextEnds
pub mod LaterPieces
pub mod LaterPatterns
pub mod LaterEntries
pub mod LaterComments
pub mod Joining
pub mod GoingOn
pub mod ReadersGoOn
pub mod EntriesGoOn
pub mod InnerStarts
pub mod CommentsGoOn
pub mod DamageStays
mod JoinedRows
pub mod WrittenWords
pub mod WrittenSoFar
pub mod WrittenInline
pub mod WrittenPieces
pub mod WrittenLines
pub mod WrittenPatterns
pub mod WrittenSelects
pub mod WrittenEntries
pub mod WrittenTerms
pub mod WrittenGaps
pub mod WrittenComments
pub mod WrittenMessages
pub mod WrittenTree
pub mod TrimmedTexts
pub mod ReadLines
pub mod ReadPatterns
pub mod ReadWords
pub mod ReadInlines
pub mod ReadTrees
pub mod NormalTexts
pub mod TidiedSources
mod ShapeRows
mod TreeShapeRows
mod WellFormedRows
mod NormalRows
