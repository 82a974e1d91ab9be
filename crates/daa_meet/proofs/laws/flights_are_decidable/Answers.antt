use Rattle.daa_meet.proofs.Meetings.{on_decided, between_decided}
use Rattle.daa_meet.proofs.laws.flights_are_decidable.Goals as goal

pub returns : goal.returns
returns c = record {
  on_a_leg = λ settings own candidate aircraft volume k a o h t v l. on_decided settings own candidate aircraft a o h t volume v k l;
  between = λ settings own candidate aircraft volume first upto a o h t v l. between_decided settings own candidate aircraft a o h t volume v first upto l;
}
