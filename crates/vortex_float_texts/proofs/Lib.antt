mod Fifteen
mod Firsts
mod Halves
mod Powers
