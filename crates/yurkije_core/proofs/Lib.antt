pub mod ChunkOf
pub mod ChunkRuns
pub mod ChunkRows
pub mod PutRows
pub mod ChunkAnswers
pub mod LentAnswers
pub mod Looked
pub mod MarkedPlaces
