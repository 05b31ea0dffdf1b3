pub mod TilesFound
pub mod EntryPushed
pub mod TilesPushed
pub mod JunkTiles
pub mod Loops
pub mod Unquoted
