use Rattle.daa_fixed.proofs.Towards.{toward_of-nearest, nearest-toward_of}
use Rattle.daa_fixed.proofs.moves.toward_is_nearest.Goals as goal

pub returns : goal.returns
returns c now target rate x r0 = (
  (λ e. toward_of-nearest now target rate x r0 e),
  (λ h. nearest-toward_of now target rate x r0 h),
)
