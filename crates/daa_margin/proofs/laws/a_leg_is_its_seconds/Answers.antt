use Rattle.daa_margin.proofs.Later.{second_is, seconds_are}
use Rattle.daa_margin.proofs.laws.a_leg_is_its_seconds.Goals as goal

pub returns : goal.returns
returns c = record {
  at_each_time = λ leg volume bounds k n d. second_is leg volume bounds k n d;
  at_some_time = λ leg volume bounds some. seconds_are leg volume bounds some;
}
