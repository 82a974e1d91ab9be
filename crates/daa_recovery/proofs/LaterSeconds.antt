-- What recovers at a second recovers at each later one.
use Rattle.std.proofs.Common.{ℕ, ◌≤◌, arith}
use Rattle.daa_config.specs.declared.candidate.Candidate.{Candidate}
use Rattle.daa_recovery.specs.OutlookState.{OutlookState}
use Rattle.daa_recovery.specs.Recovery.{Recovers}

pub lasts : (p : OutlookState) (candidate : Candidate) (m n : ℕ) → m ≤ n → Recovers p candidate m → Recovers p candidate n
lasts p candidate m n le r place aircraft there =
    let k = r place aircraft there in
    record {
      open_levels = λ x. k.open_levels (record {
        number = x.number;
        level = x.level;
        closes = x.closes;
        leg = x.leg;
        before = x.before;
        violates = (omega (arith, le, x.violates.0), x.violates.1);
      });
      apart = k.apart;
    }
