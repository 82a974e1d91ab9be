-- What a caller's numbers say of a moment.
use Rattle.std.specs.Prelude.{ℕ, zero, suc, ◌∷◌, [], List, map}
use Rattle.daa_state.specs.Bounds.{exact}
use Rattle.daa_state.specs.declared.word.Own.{Own}
use Rattle.daa_state.specs.declared.word.Traffic.{Traffic}
use Rattle.daa_state.specs.declared.word.Picture.{Picture}
use Rattle.daa_numbers.specs.declared.states.DaaTraffic.{DaaTraffic}

-- the bytes before the first 0
unfoldable pub text_of : List ℕ → List ℕ
text_of [] = []
text_of (zero ∷ rest) = []
text_of (suc n ∷ rest) = suc n ∷ text_of rest

-- the aircraft of a caller's numbers, whose report and the ownship's are taken as the truth
abbrev pub traffic_of : DaaTraffic → Traffic
traffic_of t = record { id = text_of t.id; x = t.x; y = t.y; alt = t.alt; vx = t.vx; vy = t.vy; vs = t.vs; age = t.age; bounds = exact }

-- the picture of a time, an ownship and a caller's aircraft
abbrev pub picture_of : ℕ → Own → List DaaTraffic → Picture
picture_of time own traffic = record { time = time; own = own; traffic = record { items = map traffic_of traffic } }
