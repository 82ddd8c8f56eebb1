mod AsciiCodes
mod Collecting
mod Comparing
mod Copying
mod Encoded
