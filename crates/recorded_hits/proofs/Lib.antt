mod Fronts
mod Recording
