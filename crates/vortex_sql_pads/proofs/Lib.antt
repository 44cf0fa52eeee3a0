mod Capitalised
mod Fillers
mod TextRoom
