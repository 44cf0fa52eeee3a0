pub mod ItemSets
