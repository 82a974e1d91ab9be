-- What a contract sees of a source over a reader.
use Rattle.std.specs.Prelude.{ℕ}
use Rattle.daa_io.specs.declared.std_source.StdSource.{StdSource}

-- the reader below
abbrev pub reader_of : {R : Type 0} → StdSource R → R
reader_of source = source.reader

-- how many of its calls failed
abbrev pub faults_of : {R : Type 0} → StdSource R → ℕ
faults_of source = source.faults
