mod CycleDates
mod PassedYears
