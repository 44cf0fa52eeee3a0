mod Counts
mod Replacements
