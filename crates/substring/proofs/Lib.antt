mod Copies
mod Ends
