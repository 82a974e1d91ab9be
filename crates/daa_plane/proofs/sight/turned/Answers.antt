use Rattle.std.proofs.Common.{rules, ◌≡◌, ◌∙◌, ◌+ℤ◌, ◌-ℤ◌, ◌*ℤ◌, FitsSigned, w64, to_z-of_z, arith, lit<}
use Rattle.std.proofs.lemmas.Int.{ints}
use Rattle.daa_fixed.proofs.Bounds.{fits, plus, minus, times, within}
use Rattle.daa_plane.specs.Rounding.{nearest}
use Rattle.daa_plane.specs.Sight.{turned_east, turned_north}
use Rattle.daa_plane.specs.Sines.{sine_of, cosine_of}
use Rattle.daa_plane.proofs.Sizes.{wider}
use Rattle.daa_plane.proofs.sight.turned.Goals as goal

pub overflow_sub-to_east : goal.overflow_sub-to_east
overflow_sub-to_east c =
    let fe = fits w64 c.requires.east (lit< tt) in
    let fn = fits w64 c.requires.north (lit< tt) in
    let fa = fits w64 c.requires.angle (lit< tt) in
    let fs = fits w64 c.sine_of-sine.ensures.size (lit< tt) in
    let fc = fits w64 c.cosine_of-cosine.ensures.size (lit< tt) in
    let ec = times c.requires.east c.cosine_of-cosine.ensures.size in
    let ns = times c.requires.north c.sine_of-sine.ensures.size in
    let es = times c.requires.east c.sine_of-sine.ensures.size in
    let nc = times c.requires.north c.cosine_of-cosine.ensures.size in
    let f1 = fits w64 ec (lit< tt) in
    let f2 = fits w64 ns (lit< tt) in
    let f3 = fits w64 es (lit< tt) in
    let f4 = fits w64 nc (lit< tt) in
    simp to_z-of_z (fits w64 (minus ec ns) (lit< tt))

pub overflow_mul-to_north : goal.overflow_mul-to_north
overflow_mul-to_north c =
    let fe = fits w64 c.requires.east (lit< tt) in
    let fn = fits w64 c.requires.north (lit< tt) in
    let fa = fits w64 c.requires.angle (lit< tt) in
    let fs = fits w64 c.sine_of-sine.ensures.size (lit< tt) in
    let fc = fits w64 c.cosine_of-cosine.ensures.size (lit< tt) in
    let ec = times c.requires.east c.cosine_of-cosine.ensures.size in
    let ns = times c.requires.north c.sine_of-sine.ensures.size in
    let es = times c.requires.east c.sine_of-sine.ensures.size in
    let nc = times c.requires.north c.cosine_of-cosine.ensures.size in
    let f1 = fits w64 ec (lit< tt) in
    let f2 = fits w64 ns (lit< tt) in
    let f3 = fits w64 es (lit< tt) in
    let f4 = fits w64 nc (lit< tt) in
    simp to_z-of_z f3

pub overflow_mul-to_north-2 : goal.overflow_mul-to_north-2
overflow_mul-to_north-2 c =
    let fe = fits w64 c.requires.east (lit< tt) in
    let fn = fits w64 c.requires.north (lit< tt) in
    let fa = fits w64 c.requires.angle (lit< tt) in
    let fs = fits w64 c.sine_of-sine.ensures.size (lit< tt) in
    let fc = fits w64 c.cosine_of-cosine.ensures.size (lit< tt) in
    let ec = times c.requires.east c.cosine_of-cosine.ensures.size in
    let ns = times c.requires.north c.sine_of-sine.ensures.size in
    let es = times c.requires.east c.sine_of-sine.ensures.size in
    let nc = times c.requires.north c.cosine_of-cosine.ensures.size in
    let f1 = fits w64 ec (lit< tt) in
    let f2 = fits w64 ns (lit< tt) in
    let f3 = fits w64 es (lit< tt) in
    let f4 = fits w64 nc (lit< tt) in
    simp to_z-of_z f4

pub overflow_add-to_north : goal.overflow_add-to_north
overflow_add-to_north c =
    let fe = fits w64 c.requires.east (lit< tt) in
    let fn = fits w64 c.requires.north (lit< tt) in
    let fa = fits w64 c.requires.angle (lit< tt) in
    let fs = fits w64 c.sine_of-sine.ensures.size (lit< tt) in
    let fc = fits w64 c.cosine_of-cosine.ensures.size (lit< tt) in
    let ec = times c.requires.east c.cosine_of-cosine.ensures.size in
    let ns = times c.requires.north c.sine_of-sine.ensures.size in
    let es = times c.requires.east c.sine_of-sine.ensures.size in
    let nc = times c.requires.north c.cosine_of-cosine.ensures.size in
    let f1 = fits w64 ec (lit< tt) in
    let f2 = fits w64 ns (lit< tt) in
    let f3 = fits w64 es (lit< tt) in
    let f4 = fits w64 nc (lit< tt) in
    simp to_z-of_z (fits w64 (plus es nc) (lit< tt))

pub nearest-requires-clause-a : goal.nearest-requires-clause-a
nearest-requires-clause-a c =
    let fe = fits w64 c.requires.east (lit< tt) in
    let fn = fits w64 c.requires.north (lit< tt) in
    let fa = fits w64 c.requires.angle (lit< tt) in
    let fs = fits w64 c.sine_of-sine.ensures.size (lit< tt) in
    let fc = fits w64 c.cosine_of-cosine.ensures.size (lit< tt) in
    let ec = times c.requires.east c.cosine_of-cosine.ensures.size in
    let ns = times c.requires.north c.sine_of-sine.ensures.size in
    let es = times c.requires.east c.sine_of-sine.ensures.size in
    let nc = times c.requires.north c.cosine_of-cosine.ensures.size in
    let f1 = fits w64 ec (lit< tt) in
    let f2 = fits w64 ns (lit< tt) in
    let f3 = fits w64 es (lit< tt) in
    let f4 = fits w64 nc (lit< tt) in
    let f5 = fits w64 (minus ec ns) (lit< tt) in
    simp to_z-of_z (wider 1000000000000000000 (minus ec ns) tt)

pub nearest-requires-2-clause-a : goal.nearest-requires-2-clause-a
nearest-requires-2-clause-a c =
    let fe = fits w64 c.requires.east (lit< tt) in
    let fn = fits w64 c.requires.north (lit< tt) in
    let fa = fits w64 c.requires.angle (lit< tt) in
    let fs = fits w64 c.sine_of-sine.ensures.size (lit< tt) in
    let fc = fits w64 c.cosine_of-cosine.ensures.size (lit< tt) in
    let ec = times c.requires.east c.cosine_of-cosine.ensures.size in
    let ns = times c.requires.north c.sine_of-sine.ensures.size in
    let es = times c.requires.east c.sine_of-sine.ensures.size in
    let nc = times c.requires.north c.cosine_of-cosine.ensures.size in
    let f1 = fits w64 ec (lit< tt) in
    let f2 = fits w64 ns (lit< tt) in
    let f3 = fits w64 es (lit< tt) in
    let f4 = fits w64 nc (lit< tt) in
    let f6 = fits w64 (plus es nc) (lit< tt) in
    simp to_z-of_z (wider 1000000000000000000 (plus es nc) tt)

pub returns-clause-east : goal.returns-clause-east
unfolding turned_east
returns-clause-east c =
    let fe = fits w64 c.requires.east (lit< tt) in
    let fn = fits w64 c.requires.north (lit< tt) in
    let fa = fits w64 c.requires.angle (lit< tt) in
    let fs = fits w64 c.sine_of-sine.ensures.size (lit< tt) in
    let fc = fits w64 c.cosine_of-cosine.ensures.size (lit< tt) in
    let ec = times c.requires.east c.cosine_of-cosine.ensures.size in
    let ns = times c.requires.north c.sine_of-sine.ensures.size in
    let es = times c.requires.east c.sine_of-sine.ensures.size in
    let nc = times c.requires.north c.cosine_of-cosine.ensures.size in
    let f1 = fits w64 ec (lit< tt) in
    let f2 = fits w64 ns (lit< tt) in
    let f3 = fits w64 es (lit< tt) in
    let f4 = fits w64 nc (lit< tt) in
    let f5 = fits w64 (minus ec ns) (lit< tt) in
    let f6 = fits w64 (plus es nc) (lit< tt) in
    let b = within 1000000000 c.args.by (omega (arith, ints, c.requires.by.least)) c.requires.by.most in
    let fb = fits w64 b (lit< tt) in
    let sine : c.sine_of-sine.result ≡ sine_of c.args.angle = simp to_z-of_z at c.sine_of-sine.ensures.value in
    let cosine : c.cosine_of-cosine.result ≡ cosine_of c.args.angle = simp to_z-of_z at c.cosine_of-cosine.ensures.value in
    let r : FitsSigned w64 c.nearest.result = search rules in
    let is : c.nearest.result ≡ nearest (c.args.east *ℤ c.cosine_of-cosine.result -ℤ c.args.north *ℤ c.sine_of-sine.result) c.args.by = simp to_z-of_z at c.nearest.ensures in
    simp to_z-of_z (is ∙ (λ i. nearest (c.args.east *ℤ cosine i -ℤ c.args.north *ℤ sine i) c.args.by))

pub returns-clause-north : goal.returns-clause-north
unfolding turned_north
returns-clause-north c =
    let fe = fits w64 c.requires.east (lit< tt) in
    let fn = fits w64 c.requires.north (lit< tt) in
    let fa = fits w64 c.requires.angle (lit< tt) in
    let fs = fits w64 c.sine_of-sine.ensures.size (lit< tt) in
    let fc = fits w64 c.cosine_of-cosine.ensures.size (lit< tt) in
    let ec = times c.requires.east c.cosine_of-cosine.ensures.size in
    let ns = times c.requires.north c.sine_of-sine.ensures.size in
    let es = times c.requires.east c.sine_of-sine.ensures.size in
    let nc = times c.requires.north c.cosine_of-cosine.ensures.size in
    let f1 = fits w64 ec (lit< tt) in
    let f2 = fits w64 ns (lit< tt) in
    let f3 = fits w64 es (lit< tt) in
    let f4 = fits w64 nc (lit< tt) in
    let f5 = fits w64 (minus ec ns) (lit< tt) in
    let f6 = fits w64 (plus es nc) (lit< tt) in
    let b = within 1000000000 c.args.by (omega (arith, ints, c.requires.by.least)) c.requires.by.most in
    let fb = fits w64 b (lit< tt) in
    let sine : c.sine_of-sine.result ≡ sine_of c.args.angle = simp to_z-of_z at c.sine_of-sine.ensures.value in
    let cosine : c.cosine_of-cosine.result ≡ cosine_of c.args.angle = simp to_z-of_z at c.cosine_of-cosine.ensures.value in
    let r : FitsSigned w64 c.nearest-2.result = search rules in
    let is : c.nearest-2.result ≡ nearest (c.args.east *ℤ c.sine_of-sine.result +ℤ c.args.north *ℤ c.cosine_of-cosine.result) c.args.by = simp to_z-of_z at c.nearest-2.ensures in
    simp to_z-of_z (is ∙ (λ i. nearest (c.args.east *ℤ sine i +ℤ c.args.north *ℤ cosine i) c.args.by))
