mod Accepted
mod Bringing
mod Causing
mod Ending
mod Entries
mod Promise
