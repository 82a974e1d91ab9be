-- A way's share of seconds is how often the rate fits into it, or one more.
use Rattle.std.proofs.Common.{◌≡◌, ℕ, zero, suc, ◌+◌, ◌-◌, ◌*◌, ◌<◌, ◌≤◌, ⊎_elim, arith}
use Rattle.std.proofs.lemmas.Bool.{cases_lt}
use Rattle.std.proofs.lemmas.Nat.{mul-le}

module _ (way rate share n : ℕ) where
  pub not_more : way ≤ 7200000 → share * rate < 4294967296 + rate → n * 4294967296 ≤ way * share → n * rate ≤ way + rate
  not_more few most below = ⊎_elim (λ l. absurd (wrong l)) (λ g. g) (cases_lt (way + rate) (n * rate))
    where
      wrong : way + rate < n * rate → ⊥
      wrong l =
          let a : (n * 4294967296) * rate ≤ (way * share) * rate = mul-le (n * 4294967296) rate (way * share) rate below (omega arith) in
          let b : way * (share * rate) ≤ way * (4294967296 + rate) = mul-le way (share * rate) way (4294967296 + rate) (omega arith) (omega (arith, most)) in
          let d : (way + rate + 1) * 4294967296 ≤ (n * rate) * 4294967296 = mul-le (way + rate + 1) 4294967296 (n * rate) 4294967296 (omega (arith, l)) (omega arith) in
          let e : way * rate ≤ 7200000 * rate = mul-le way rate 7200000 rate few (omega arith) in
          omega (arith, a, b, d, e)

  pub not_less : 1 ≤ rate → 4294967296 ≤ share * rate → way * share < n * 4294967296 + 4294967296 → way < n * rate + rate
  not_less some least above = ⊎_elim (λ l. l) (λ g. absurd (wrong g)) (cases_lt way (n * rate + rate))
    where
      wrong : n * rate + rate ≤ way → ⊥
      wrong g =
          let a : (way * share + 1) * rate ≤ (n * 4294967296 + 4294967296) * rate = mul-le (way * share + 1) rate (n * 4294967296 + 4294967296) rate (omega (arith, above)) (omega arith) in
          let b : way * 4294967296 ≤ way * (share * rate) = mul-le way 4294967296 way (share * rate) (omega arith) least in
          let d : (n * rate + rate) * 4294967296 ≤ way * 4294967296 = mul-le (n * rate + rate) 4294967296 way 4294967296 g (omega arith) in
          omega (arith, some, a, b, d)

-- at a rate of at least 1 no more than the way
pub few_times : (n rate way : ℕ) → 1 ≤ rate → n * rate ≤ way → n ≤ way
few_times n rate way some below = let m = mul-le n 1 n rate (omega arith) some in omega (arith, m, below)

-- one less
pub one_less : (n rate : ℕ) → 1 ≤ n → (n - 1) * rate + rate ≡ n * rate
one_less zero rate h = absurd (omega (arith, h))
one_less (suc n) rate h = let e : suc n - 1 ≡ n = omega arith in rw e (omega arith)

pub some_times : (n rate way : ℕ) → way < n * rate → 1 ≤ n
some_times zero rate way h = absurd (omega (arith, h))
some_times (suc n) rate way h = omega arith
