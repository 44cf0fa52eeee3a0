pub mod CommentLines
pub mod Parts
pub mod RoundTrip
pub mod Said
pub mod Scanning
pub mod Spans
pub mod Surplus
