mod Alike
mod Counts
mod Groups
mod ReplacedRows
mod Rows
mod SameMatches
mod Steps
mod TextRoom
