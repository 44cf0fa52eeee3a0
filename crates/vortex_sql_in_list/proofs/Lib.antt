mod FoundRows
mod ListedItems
