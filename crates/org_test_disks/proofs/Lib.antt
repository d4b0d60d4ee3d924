mod Calls
mod ImageSoFar
mod Keeping
mod Outcomes
mod Overwriting
mod Fuses
