mod Walking
mod Among
mod Found
