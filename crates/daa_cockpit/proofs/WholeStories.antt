-- What goes on from a story and is no longer is that story.
use Rattle.std.proofs.Common.{◌≡◌, length, sym, arith}
use Rattle.daa_screen.specs.Story.{Story, GoesOn}
use Rattle.daa_screen.proofs.Fronts.{prefix_whole}

pub goes_on_whole : (first second : Story) → GoesOn first second → length second.pictures ≡ length first.pictures → second ≡ first
goes_on_whole first second on same =
    let list : first.pictures ≡ second.pictures = prefix_whole first.pictures second.pictures on.begins (omega (arith, same)) in
    λ i. record { feed = on.feed i; pictures = sym list i }
