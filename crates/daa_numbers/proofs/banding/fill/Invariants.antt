use Rattle.std.proofs.Common.{◌≡◌, ◌≤◌, ◌++◌, drop, length, map, take}
use Rattle.daa_numbers.specs.Filled.{band_of}
use Rattle.daa_numbers.proofs.banding.fill.Given as goal

-- the bands so far are filled in, the others are to come, and the places past them are as they were
abbrev pub invariant-loop-band : goal.invariant-loop-band
invariant-loop-band l = record {
  split : l.initial.band-iterator ≡ l.yielded ++ l.band-iterator;
  same_size : length l.bands ≡ length l.initial.bands;
  within : l.count ≤ length l.bands;
  counted : l.count ≡ length l.yielded;
  past : drop l.count l.bands ≡ drop l.count l.initial.bands;
  filled : map band_of (take l.count l.bands) ≡ l.yielded;
}
