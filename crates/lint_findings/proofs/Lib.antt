pub mod Computing
mod PositionRows
mod SyntaxRows
mod FlawRows
mod CatalogRows
mod NumberRow
mod DateRow
mod CategoryRows
mod FactRows
mod LossRows
mod TextRows
mod NearNameRows
mod ComparisonRows
mod ReferenceRows
mod OutputRows
mod ShownLineRows
pub mod Lists
pub mod TilesAreTheList
pub mod NothingMissing
pub mod RequestErrors
pub mod EndlessPatterns
pub mod FlawlessCatalogs
pub mod NodesHold
pub mod ProgramIds
pub mod NodeRemarks
pub mod LetterRemarks
pub mod QuotedAreSpelled
pub mod NearNamesAreThere
pub mod FactsAreTrue
pub mod HintsAreSo
pub mod MisusesAreTrue
pub mod CategoriesAreTaken
pub mod MissingVariables
pub mod ShowingPatterns
pub mod WordsStand
pub mod LossesAreTrue
pub mod CleanReports
pub mod Positions
pub mod OccurrencesAreRead
pub mod OccurrencesAreTheNodes
pub mod PatternPlaces
pub mod Translations
pub mod OwnIds
pub mod RepeatedKeys
pub mod SourcePlaces
pub mod EachFinding
pub mod FindingsHold
pub mod Steps
pub mod Moves
pub mod Within
pub mod Seams
pub mod Columns
pub mod Splits
pub mod Feeds
