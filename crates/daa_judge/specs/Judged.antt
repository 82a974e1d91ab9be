-- Whether bytes are a report, and where they differ from it.
use Rattle.std.specs.Prelude.{ℕ, ◌≡◌, ◌≢◌, ◌+◌, ◌++◌, ◌==◌, [], ◌∷◌, if◌then◌else◌, count_by}
use Rattle.daa_ahead.specs.Bytes.{Bytes}

-- the longest front that two runs of bytes have in common
abbrev pub common_front : Bytes → Bytes → Bytes
common_front [] other = []
common_front (x ∷ xs) [] = []
common_front (x ∷ xs) (y ∷ ys) = if x == y then x ∷ common_front xs ys else []

-- the bytes are not the report, and the line of this number is the first that is not the report's: the number is 1 more
-- than that of the line feeds (10) in the front that they have in common
pub record Differs (report : Bytes) (number : ℕ) (bytes : Bytes) : Type 0 where
  pub other : bytes ≢ report
  pub number_is : number ≡ 1 + count_by (λ byte. byte == 10) (common_front bytes report)

-- the report begins with these bytes
abbrev pub Begins : (bytes report : Bytes) → Type 0
Begins bytes report = (rest : Bytes) × (report ≡ bytes ++ rest)
