mod Blocks
mod Characters
mod Encodings
