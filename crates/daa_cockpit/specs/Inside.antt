-- What a program's functions, its proofs and the documents cite. No other crate rests on it; whoever relies on what the
-- cockpit shows at its end has to read all of it.
pub mod Reads
pub mod Shows
