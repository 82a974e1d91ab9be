-- What a contract sees of a shelf over files.
use Rattle.std.specs.Prelude.{ℕ}
use Rattle.daa_io.specs.declared.file_shelf.FileShelf.{FileShelf}

-- how many of its calls failed
abbrev pub faults_of : {R : Type 0} → FileShelf R → ℕ
faults_of shelf = shelf.faults
