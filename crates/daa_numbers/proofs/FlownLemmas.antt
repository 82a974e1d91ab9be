-- Sizes of what is flown.
use Rattle.std.proofs.Common.{◌≡◌, ◌∙◌, ℕ, ◌*◌, ◌/◌, ◌<◌, ◌≤◌, ap, sym, arith, ℤ, pos, negsuc, ◌+ℤ◌, ◌≤ℤ◌}
use Rattle.std.specs.Int.{int_div_euclid}
use Rattle.std.proofs.lemmas.Int.{ints}
use Rattle.daa_fixed.specs.Size.{IsWithin}
use Rattle.daa_numbers.specs.Flown.{flown_traffic, IsAge, IsFlown}
use Rattle.daa_numbers.specs.Inside.Flown.{AreParts}
use Rattle.daa_numbers.specs.declared.states.DaaTraffic.{DaaTraffic}

-- the quotient is no greater than the number
quotient : (m a b : ℕ) → a ≤ m → 0 < b → a / b ≤ m
quotient m a b h k = grind arith

pub euclid_within : (m : ℕ) (z d : ℤ) → pos 1 ≤ℤ d → IsWithin m z → IsWithin m (int_div_euclid z d)
euclid_within m (pos a) (pos b) some h = record { size = quotient m a b h.size (omega (arith, ints, some)) }
euclid_within m (negsuc a) (pos b) some h = record { size = omega (arith, ints, h.size, quotient a a b (omega arith) (omega (arith, ints, some))) }
euclid_within m z (negsuc b) some h = absurd (omega (arith, ints, some))

-- what is flown of the parts of an age
pub flown_by_parts : (at now most : ℕ) (reported ageless flown : DaaTraffic) (age rest : ℤ) (seconds : ℕ) → IsAge at now most age → AreParts age seconds rest
    → ageless ≡ record reported { age = 0 } → flown ≡ flown_traffic ageless rest seconds → IsFlown at now most reported flown
flown_by_parts at now most reported ageless flown age rest seconds age_is parts without is =
    let e : flown.age ≡ seconds = ap (λ (t : DaaTraffic). t.age) is in
    record {
      age = age;
      age_is = age_is;
      rest = rest;
      parts = parts.parts ∙ ap (λ (n : ℕ). pos (1000 * n) +ℤ rest) (sym e);
      less = omega (arith, ints, parts.range.most);
      back = λ before. e ∙ parts.back before;
      is = is ∙ ap (λ (t : DaaTraffic). flown_traffic t rest seconds) without ∙ ap (flown_traffic reported rest) (sym e);
    }
