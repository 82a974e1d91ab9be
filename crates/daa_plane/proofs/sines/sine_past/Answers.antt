use Rattle.std.proofs.Common.{rules, ◌≡◌, ◌∙◌, ap, ℤ, pos, ◌+ℤ◌, ◌-ℤ◌, FitsSigned, w64, to_z-of_z, arith, lit<}
use Rattle.std.proofs.lemmas.Int.{ints}
use Rattle.daa_fixed.proofs.Bounds.{fits, as_within, plus, minus}
use Rattle.daa_plane.specs.Rounding.{nearest, part}
use Rattle.daa_plane.specs.Sines.{sine_at, sine_past}
use Rattle.daa_plane.proofs.Sizes.{wider, part_small}
use Rattle.daa_plane.proofs.SineLemmas.{sine_at-within, bent-within, sine_past-within}
use Rattle.daa_plane.proofs.sines.sine_past.Goals as goal

pub nearest-bent-requires-clause-a : goal.nearest-bent-requires-clause-a
nearest-bent-requires-clause-a c =
    let a = fits w64 c.requires.arc (lit< tt) in
    let is : c.part.result ≡ part c.args.arc c.args.arc = simp to_z-of_z at c.part.ensures in
    let s = as_within is (part_small 1001 c.requires.arc c.requires.arc tt) in
    let f = fits w64 s (lit< tt) in
    simp to_z-of_z (wider 1000000000000000000 s tt)

pub part-requires-3-clause-b : goal.part-requires-3-clause-b
part-requires-3-clause-b c =
    let a = fits w64 c.requires.arc (lit< tt) in
    let p : FitsSigned w64 c.part.result = search rules in
    let is : c.part.result ≡ part c.args.arc c.args.arc = simp to_z-of_z at c.part.ensures in
    let bent : c.nearest-bent.result ≡ nearest c.part.result (pos 2) = simp to_z-of_z at c.nearest-bent.ensures in
    let s = as_within (bent ∙ ap (λ (z : ℤ). nearest z (pos 2)) is) (bent-within c.args.arc c.requires.arc) in
    let f = fits w64 s (lit< tt) in
    simp to_z-of_z (wider 100000000 s tt)

pub overflow_add-result : goal.overflow_add-result
overflow_add-result c =
    let a = fits w64 c.requires.arc (lit< tt) in
    let d : FitsSigned w64 c.args.degree = search rules in
    let fr : FitsSigned w64 (pos 90 -ℤ c.args.degree) = omega (arith, ints, c.requires.degree.least, c.requires.degree.most) in
    let one : FitsSigned w64 c.sine_at.result = search rules in
    let two : FitsSigned w64 c.sine_at-2.result = search rules in
    let e1 : c.sine_at.result ≡ sine_at c.args.degree = simp to_z-of_z at c.sine_at.ensures.value in
    let e2 : c.sine_at-2.result ≡ sine_at (pos 90 -ℤ c.args.degree) = simp to_z-of_z at c.sine_at-2.ensures.value in
    let s1 = as_within e1 (sine_at-within _) in
    let s2 = as_within e2 (sine_at-within _) in
    let is : c.part-2.result ≡ part c.sine_at-2.result c.args.arc = simp to_z-of_z at c.part-2.ensures in
    let p = as_within is (part_small 100001 s2 c.requires.arc tt) in
    let fp = fits w64 p (lit< tt) in
    simp to_z-of_z (fits w64 (plus s1 p) (lit< tt))

pub overflow_sub-result : goal.overflow_sub-result
overflow_sub-result c =
    let a = fits w64 c.requires.arc (lit< tt) in
    let d : FitsSigned w64 c.args.degree = search rules in
    let fr : FitsSigned w64 (pos 90 -ℤ c.args.degree) = omega (arith, ints, c.requires.degree.least, c.requires.degree.most) in
    let one : FitsSigned w64 c.sine_at.result = search rules in
    let two : FitsSigned w64 c.sine_at-2.result = search rules in
    let three : FitsSigned w64 c.sine_at-3.result = search rules in
    let fq : FitsSigned w64 c.part.result = search rules in
    let fb : FitsSigned w64 c.nearest-bent.result = search rules in
    let e1 : c.sine_at.result ≡ sine_at c.args.degree = simp to_z-of_z at c.sine_at.ensures.value in
    let e2 : c.sine_at-2.result ≡ sine_at (pos 90 -ℤ c.args.degree) = simp to_z-of_z at c.sine_at-2.ensures.value in
    let e3 : c.sine_at-3.result ≡ sine_at c.args.degree = simp to_z-of_z at c.sine_at-3.ensures.value in
    let s1 = as_within e1 (sine_at-within _) in
    let s2 = as_within e2 (sine_at-within _) in
    let s3 = as_within e3 (sine_at-within _) in
    let arcs : c.part.result ≡ part c.args.arc c.args.arc = simp to_z-of_z at c.part.ensures in
    let bent : c.nearest-bent.result ≡ nearest c.part.result (pos 2) = simp to_z-of_z at c.nearest-bent.ensures in
    let sb = as_within (bent ∙ ap (λ (z : ℤ). nearest z (pos 2)) arcs) (bent-within c.args.arc c.requires.arc) in
    let is : c.part-2.result ≡ part c.sine_at-2.result c.args.arc = simp to_z-of_z at c.part-2.ensures in
    let p = as_within is (part_small 100001 s2 c.requires.arc tt) in
    let fp = fits w64 p (lit< tt) in
    let is3 : c.part-3.result ≡ part c.sine_at-3.result c.nearest-bent.result = simp to_z-of_z at c.part-3.ensures in
    let p3 = as_within is3 (part_small 502 s3 sb tt) in
    let fp3 = fits w64 p3 (lit< tt) in
    let fs = fits w64 (plus s1 p) (lit< tt) in
    simp to_z-of_z (fits w64 (minus (plus s1 p) p3) (lit< tt))

pub returns : goal.returns
unfolding sine_past
returns c =
    let a = fits w64 c.requires.arc (lit< tt) in
    let d : FitsSigned w64 c.args.degree = search rules in
    let fr : FitsSigned w64 (pos 90 -ℤ c.args.degree) = omega (arith, ints, c.requires.degree.least, c.requires.degree.most) in
    let one : FitsSigned w64 c.sine_at.result = search rules in
    let two : FitsSigned w64 c.sine_at-2.result = search rules in
    let three : FitsSigned w64 c.sine_at-3.result = search rules in
    let fq : FitsSigned w64 c.part.result = search rules in
    let fb : FitsSigned w64 c.nearest-bent.result = search rules in
    let e1 : c.sine_at.result ≡ sine_at c.args.degree = simp to_z-of_z at c.sine_at.ensures.value in
    let e2 : c.sine_at-2.result ≡ sine_at (pos 90 -ℤ c.args.degree) = simp to_z-of_z at c.sine_at-2.ensures.value in
    let e3 : c.sine_at-3.result ≡ sine_at c.args.degree = simp to_z-of_z at c.sine_at-3.ensures.value in
    let s1 = as_within e1 (sine_at-within _) in
    let s2 = as_within e2 (sine_at-within _) in
    let s3 = as_within e3 (sine_at-within _) in
    let arcs : c.part.result ≡ part c.args.arc c.args.arc = simp to_z-of_z at c.part.ensures in
    let bent : c.nearest-bent.result ≡ nearest c.part.result (pos 2) = simp to_z-of_z at c.nearest-bent.ensures in
    let bend = bent ∙ ap (λ (z : ℤ). nearest z (pos 2)) arcs in
    let sb = as_within bend (bent-within c.args.arc c.requires.arc) in
    let is : c.part-2.result ≡ part c.sine_at-2.result c.args.arc = simp to_z-of_z at c.part-2.ensures in
    let p = as_within is (part_small 100001 s2 c.requires.arc tt) in
    let fp = fits w64 p (lit< tt) in
    let is3 : c.part-3.result ≡ part c.sine_at-3.result c.nearest-bent.result = simp to_z-of_z at c.part-3.ensures in
    let p3 = as_within is3 (part_small 502 s3 sb tt) in
    let fp3 = fits w64 p3 (lit< tt) in
    let fs = fits w64 (plus s1 p) (lit< tt) in
    let ft = fits w64 (minus (plus s1 p) p3) (lit< tt) in
    let second = is ∙ ap (λ (z : ℤ). part z c.args.arc) e2 in
    let third = is3 ∙ (λ i. part (e3 i) (bend i)) in
    let all : c.sine_at.result +ℤ c.part-2.result -ℤ c.part-3.result ≡ sine_past c.args.degree c.args.arc = λ i. e1 i +ℤ second i -ℤ third i in
    record { value = simp to_z-of_z all; size = simp to_z-of_z (as_within all (sine_past-within c.args.degree c.args.arc c.requires.arc)) }
