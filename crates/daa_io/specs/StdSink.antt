-- What a contract sees of a sink over a writer.
use Rattle.std.specs.Prelude.{ℕ}
use Rattle.daa_io.specs.declared.std_sink.StdSink.{StdSink}

-- the writer below
abbrev pub writer_of : {W : Type 0} → StdSink W → W
writer_of sink = sink.writer

-- how many of its calls failed
abbrev pub faults_of : {W : Type 0} → StdSink W → ℕ
faults_of sink = sink.faults
