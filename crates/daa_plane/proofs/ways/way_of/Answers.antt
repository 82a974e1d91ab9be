use Rattle.std.proofs.Common.{rules, ◌≡◌, ◌∙◌, ap, sym, subst, FitsSigned, w64, to_z, of_z, to_z-of_z}
use Rattle.daa_plane.specs.Inside.Sizes.{IsWay}
use Rattle.daa_plane.specs.Ways.{squares_of, way_east, way_north, convergence, way_of}
use Rattle.daa_plane.specs.declared.ways.Way.{Way}
use Rattle.daa_plane.proofs.WayLemmas.{way_of-within}
use Rattle.daa_plane.proofs.ways.way_of.Goals as goal

pub returns : goal.returns
unfolding way_of
returns c =
    let gap = c.args.gap.now in
    let is : c.squares_of-squares.result ≡ squares_of gap = c.squares_of-squares.ensures.value in
    let fe : FitsSigned w64 c.way_east.result = search rules in
    let fn : FitsSigned w64 c.way_north.result = search rules in
    let ft : FitsSigned w64 c.convergence.result = search rules in
    let east : c.way_east.result ≡ way_east gap c.squares_of-squares.result = c.way_east.ensures.value in
    let north : c.way_north.result ≡ way_north gap c.squares_of-squares.result = c.way_north.ensures.value in
    let turn : c.convergence.result ≡ convergence gap c.squares_of-squares.result = c.convergence.ensures.value in
    let east_is : c.way_east.result ≡ way_east gap (squares_of gap) = east ∙ ap (way_east gap) is in
    let north_is : c.way_north.result ≡ way_north gap (squares_of gap) = north ∙ ap (way_north gap) is in
    let turn_is : c.convergence.result ≡ convergence gap (squares_of gap) = turn ∙ ap (convergence gap) is in
    let all : ◌≡◌ {A = Way} record { east = to_z w64 (of_z w64 c.way_east.result); north = to_z w64 (of_z w64 c.way_north.result); turn = to_z w64 (of_z w64 c.convergence.result) } (way_of gap) =
    simp to_z-of_z (λ i. record { east = east_is i; north = north_is i; turn = turn_is i }) in
    record { value = all; size = subst (λ (w : Way). IsWay w) (sym all) (way_of-within gap c.requires) }
