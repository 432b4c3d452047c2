mod Bound
mod Collected
mod FirstLine
mod Lists
mod Shown
mod Progress
mod Written
