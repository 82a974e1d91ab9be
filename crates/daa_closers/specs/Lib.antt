pub mod Closers
