pub mod CivilDays
pub mod DigitLemmas
pub mod ItemLemmas
pub mod WrittenBytes
pub mod CivilTimes
