use Rattle.std.proofs.Common.{rules, ◌≡◌, ◌∙◌, ap, ◌-ℤ◌, FitsSigned, w32, w64, to_z-of_z, lit<}
use Rattle.daa_fixed.specs.Size.{IsWithin}
use Rattle.daa_fixed.proofs.Bounds.{fits, minus, as_within}
use Rattle.daa_plane.specs.Gaps.{short_way, middle_of, gap_of}
use Rattle.daa_plane.specs.Sines.{sine_of, cosine_of}
use Rattle.daa_plane.proofs.PlaceLemmas.{place_parts}
use Rattle.daa_plane.proofs.Sizes.{wider}
use Rattle.daa_plane.proofs.gaps.gap_of.Goals as goal

pub middle_of-middle-requires-clause-lat : goal.middle_of-middle-requires-clause-lat
middle_of-middle-requires-clause-lat c =
    let x : FitsSigned w32 c.args.own.now.lat = search rules in
    let is : c.from.result ≡ c.args.own.now.lat = simp to_z-of_z at c.from.ensures in
    let s = as_within is (place_parts c.args.own.now c.requires.own).lat in
    let f = fits w64 s (lit< tt) in
    simp to_z-of_z s

pub middle_of-middle-requires-clause-other : goal.middle_of-middle-requires-clause-other
middle_of-middle-requires-clause-other c =
    let x : FitsSigned w32 c.args.aircraft.now.lat = search rules in
    let is : c.from-2.result ≡ c.args.aircraft.now.lat = simp to_z-of_z at c.from-2.ensures in
    let s = as_within is (place_parts c.args.aircraft.now c.requires.aircraft).lat in
    let f = fits w64 s (lit< tt) in
    simp to_z-of_z s

pub overflow_sub-result : goal.overflow_sub-result
overflow_sub-result c =
    let x : FitsSigned w32 c.args.aircraft.now.lat = search rules in
    let y : FitsSigned w32 c.args.own.now.lat = search rules in
    let one : c.from-3.result ≡ c.args.aircraft.now.lat = simp to_z-of_z at c.from-3.ensures in
    let two : c.from-4.result ≡ c.args.own.now.lat = simp to_z-of_z at c.from-4.ensures in
    let s = as_within one (place_parts c.args.aircraft.now c.requires.aircraft).lat in
    let t = as_within two (place_parts c.args.own.now c.requires.own).lat in
    let f = fits w64 s (lit< tt) in
    let g = fits w64 t (lit< tt) in
    simp to_z-of_z (fits w64 (minus s t) (lit< tt))

pub short_way-requires : goal.short_way-requires
short_way-requires c =
    let x : FitsSigned w32 c.args.aircraft.now.lon = search rules in
    let y : FitsSigned w32 c.args.own.now.lon = search rules in
    let one : c.from-5.result ≡ c.args.aircraft.now.lon = simp to_z-of_z at c.from-5.ensures in
    let two : c.from-6.result ≡ c.args.own.now.lon = simp to_z-of_z at c.from-6.ensures in
    let s = as_within one (place_parts c.args.aircraft.now c.requires.aircraft).lon in
    let t = as_within two (place_parts c.args.own.now c.requires.own).lon in
    let f = fits w64 s (lit< tt) in
    let g = fits w64 t (lit< tt) in
    let h = fits w64 (minus s t) (lit< tt) in
    simp to_z-of_z (minus s t)

pub sine_of-requires : goal.sine_of-requires
sine_of-requires c =
    let s : IsWithin 800000000 c.middle_of-middle.result = c.middle_of-middle.ensures.size in
    let f = fits w64 s (lit< tt) in
    simp to_z-of_z (wider 900000000 s tt)

pub cosine_of-requires : goal.cosine_of-requires
cosine_of-requires c =
    let s : IsWithin 800000000 c.middle_of-middle.result = c.middle_of-middle.ensures.size in
    let f = fits w64 s (lit< tt) in
    simp to_z-of_z (wider 900000000 s tt)

pub returns : goal.returns
unfolding gap_of
returns c =
    let own = c.args.own.now in
    let aircraft = c.args.aircraft.now in
    let po = place_parts own c.requires.own in
    let pa = place_parts aircraft c.requires.aircraft in
    let a : FitsSigned w32 own.lat = search rules in
    let b : FitsSigned w32 own.lon = search rules in
    let d : FitsSigned w32 aircraft.lat = search rules in
    let e : FitsSigned w32 aircraft.lon = search rules in
    let f1 : c.from.result ≡ own.lat = simp to_z-of_z at c.from.ensures in
    let f2 : c.from-2.result ≡ aircraft.lat = simp to_z-of_z at c.from-2.ensures in
    let f3 : c.from-3.result ≡ aircraft.lat = simp to_z-of_z at c.from-3.ensures in
    let f4 : c.from-4.result ≡ own.lat = simp to_z-of_z at c.from-4.ensures in
    let f5 : c.from-5.result ≡ aircraft.lon = simp to_z-of_z at c.from-5.ensures in
    let f6 : c.from-6.result ≡ own.lon = simp to_z-of_z at c.from-6.ensures in
    let g1 = fits w64 (as_within f1 po.lat) (lit< tt) in
    let g2 = fits w64 (as_within f2 pa.lat) (lit< tt) in
    let g3 = fits w64 (as_within f3 pa.lat) (lit< tt) in
    let g4 = fits w64 (as_within f4 po.lat) (lit< tt) in
    let g5 = fits w64 (as_within f5 pa.lon) (lit< tt) in
    let g6 = fits w64 (as_within f6 po.lon) (lit< tt) in
    let sl = minus (as_within f3 pa.lat) (as_within f4 po.lat) in
    let gl = fits w64 sl (lit< tt) in
    let go = fits w64 (minus (as_within f5 pa.lon) (as_within f6 po.lon)) (lit< tt) in
    let fm = fits w64 c.middle_of-middle.ensures.size (lit< tt) in
    let fw = fits w64 c.short_way.ensures.size (lit< tt) in
    let fs = fits w64 c.sine_of.ensures.size (lit< tt) in
    let fc = fits w64 c.cosine_of.ensures.size (lit< tt) in
    let m : c.middle_of-middle.result ≡ middle_of c.from.result c.from-2.result = simp to_z-of_z at c.middle_of-middle.ensures.value in
    let middle = m ∙ (λ i. middle_of (f1 i) (f2 i)) in
    let w : c.short_way.result ≡ short_way (c.from-5.result -ℤ c.from-6.result) = simp to_z-of_z at c.short_way.ensures.value in
    let lon = w ∙ (λ i. short_way (f5 i -ℤ f6 i)) in
    let s : c.sine_of.result ≡ sine_of c.middle_of-middle.result = simp to_z-of_z at c.sine_of.ensures.value in
    let sine = s ∙ ap sine_of middle in
    let k : c.cosine_of.result ≡ cosine_of c.middle_of-middle.result = simp to_z-of_z at c.cosine_of.ensures.value in
    let cosine = k ∙ ap cosine_of middle in
    record {
      value = simp to_z-of_z (λ i. record { lat = f3 i -ℤ f4 i; lon = lon i; sine = sine i; cosine = cosine i });
      size = record { lat = simp to_z-of_z sl; lon = simp to_z-of_z c.short_way.ensures.size; sine = simp to_z-of_z c.sine_of.ensures.size; cosine = simp to_z-of_z c.cosine_of.ensures.size };
    }
