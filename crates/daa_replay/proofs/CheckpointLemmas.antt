-- Places of a piece between two moments.
use Rattle.std.proofs.Common.{◌≡◌, ◌≤◌, ◌-◌, ◌∙◌, ℕ, Bool, true, false, length, Option, None, Some, Ok, Err, IfOk, IfSome, is_some, if◌then◌else◌, refl, sym, ap, ap₂, subst, arith}
use Rattle.daa_lines.specs.LinesOf.{Bytes}
use Rattle.daa_lines.specs.LinesState.{LinesState}
use Rattle.daa_state.specs.Bounds.{no_error}
use Rattle.daa_state.specs.Fault.{Checked, ◌>>=◌}
use Rattle.daa_state.specs.InRange.{IsFormat}
use Rattle.daa_state.specs.MomentStep.{MomentsState, Stepped, begun_moment, ended_picture, start, step, stepped, with_moment, with_own, with_traffic}
use Rattle.daa_state.specs.declared.fault.LineFault.TheVariants.{MomentOpen}
use Rattle.daa_state.specs.declared.moments.Moment.{Moment}
use Rattle.daa_state.specs.declared.word.Own.{Own}
use Rattle.daa_state.specs.declared.word.Picture.{Picture}
use Rattle.daa_state.specs.declared.word.Word.{Word}
use Rattle.daa_state.specs.declared.word.Word.TheVariants as says
use Rattle.daa_replay.specs.declared.checkpoint.Checkpoint.{Checkpoint}
use Rattle.daa_replay.specs.Lines.{next_state}
use Rattle.daa_replay.specs.Inside.Events.{HasLines}
use Rattle.daa_replay.specs.Inside.Checkpoint.{IsCheckpoint, Reading, lines_at, moments_at, reading, reading_at}

-- a place comes before what is read without one
abbrev pub steps-at : Option Checkpoint → ℕ
steps-at None = 0
steps-at (Some place) = 1

-- lines may be fed from a place on
pub lines-there : (piece : Bytes) (place : Checkpoint) → IsCheckpoint piece place → HasLines (length piece - place.done) (lines_at place)
lines-there piece place there = record { free = refl; going = refl; room = there.room }

-- the rest of the piece can be read from it
pub place-there : (piece : Bytes) (done : ℕ) (l : LinesState) (m : MomentsState) (place : Checkpoint) → reading done l m ≡ reading_at place → done ≤ length piece → HasLines (length piece - done) l
    → place.number ≤ place.fed → IsFormat place.format → IsCheckpoint piece place
place-there piece done l m place e within has counted format =
    let d : done ≡ place.done = ap (λ (r : Reading). r.done) e in
    let f : l.fed ≡ place.fed = ap (λ (r : Reading). r.lines.fed) e in
    record { within = omega (arith, d); counted = counted; format = format; room = omega (arith, d, f, has.room) }

pub behind-there : (piece : Bytes) (done : ℕ) (l : LinesState) (m : MomentsState) (here : Option Checkpoint) → IfSome here (λ place. reading done l m ≡ reading_at place) → done ≤ length piece
    → HasLines (length piece - done) l → IfSome here (λ place. place.number ≤ place.fed) → IfSome here (λ place. IsFormat place.format) → IfSome here (IsCheckpoint piece)
behind-there piece done l m None e within has counted format = tt
behind-there piece done l m (Some place) e within has counted format = place-there piece done l m place e within has counted format

pub lines-stand : (piece : Bytes) (done : ℕ) (l : LinesState) (m : MomentsState) (place : Checkpoint) → reading done l m ≡ reading_at place
    → IsCheckpoint piece place → HasLines (length piece - place.done) l
lines-stand piece done l m place e there =
    subst (λ (x : LinesState). HasLines (length piece - place.done) x) (sym (ap (λ (r : Reading). r.lines) e)) (lines-there piece place there)

pub same-reading : (done : ℕ) (l k : LinesState) (m n : MomentsState) → l ≡ k → m ≡ n → reading done l m ≡ reading done k n
same-reading done l k m n e f = ap₂ (λ (x : LinesState) (y : MomentsState). reading done x y) e f

-- ---- the moments at a place

-- after a `format`
pub after_format : (format : ℕ) → next_state start (step start (says.Format format)) ≡ record { moment = None; last = None; format = format }
unfolding step
after_format format = refl

abbrev pub after : MomentsState → Word → MomentsState
after state word = next_state state (step state word)

-- after a whole moment
pub after_moment : (format time : ℕ) (own : Own) →
    after (after (after (record { moment = None; last = None; format = format }) (says.Moment time)) (says.Own own no_error)) says.End
    ≡ record { moment = None; last = Some time; format = format }
unfolding step begun_moment with_own ended_picture
after_moment format time own = refl

pub moments-none : (place : Checkpoint) (m0 m1 : MomentsState) → m0 ≡ start → m1 ≡ after m0 (says.Format place.format) → place.last ≡ None → m1 ≡ moments_at place
moments-none place m0 m1 begun formed last =
    formed ∙ ap (λ (m : MomentsState). after m (says.Format place.format)) begun ∙ after_format place.format
    ∙ (λ i. record { moment = None; last = sym last i; format = place.format })

pub moments-some : (place : Checkpoint) (time : ℕ) (own : Own) (m0 m1 m2 m3 m4 : MomentsState) → m0 ≡ start → m1 ≡ after m0 (says.Format place.format) → m2 ≡ after m1 (says.Moment time)
    → m3 ≡ after m2 (says.Own own no_error) → m4 ≡ after m3 says.End → place.last ≡ Some time → m4 ≡ moments_at place
moments-some place time own m0 m1 m2 m3 m4 begun formed opened owned closed last =
    closed
    ∙ ap (λ (m : MomentsState). after m says.End) (owned ∙ ap (λ (m : MomentsState). after m (says.Own own no_error)) (opened ∙ ap (λ (m : MomentsState). after m (says.Moment time))
    (formed ∙ ap (λ (m : MomentsState). after m (says.Format place.format)) begun ∙ after_format place.format)))
    ∙ after_moment place.format time own
    ∙ (λ i. record { moment = None; last = sym last i; format = place.format })

-- ---- the last moment

-- where a moment ended, it is the last one
abbrev EndsLast : Stepped → Type 0
EndsLast next = IfSome next.picture (λ picture. next.state.last ≡ Some picture.time)

made_last : (state : MomentsState) (made : Checked Moment) → IfOk (with_moment state made) EndsLast
made_last state (Ok moment) = tt
made_last state (Err fault) = tt

format_last : (is_open : Bool) (state : MomentsState) → IfOk (if is_open then Err MomentOpen else Ok (stepped state None)) EndsLast
format_last true state = tt
format_last false state = tt

ended_last : (state : MomentsState) (ended : Checked Picture) →
    IfOk (ended >>= λ picture. Ok (stepped (record state { moment = None; last = Some picture.time }) (Some picture))) EndsLast
ended_last state (Ok picture) = refl
ended_last state (Err fault) = tt

ends_last : (state : MomentsState) (word : Word) → IfOk (step state word) EndsLast
unfolding step
ends_last state (says.Moment time) = made_last state (begun_moment state.moment state.last time)
ends_last state (says.Own own bounds) = made_last state (with_own state.moment own bounds)
ends_last state (says.Traffic traffic) = made_last state (with_traffic state.moment traffic)
ends_last state (says.Format format) = format_last (is_some state.moment) (record state { format = format })
ends_last state says.End = ended_last state (ended_picture state.moment)
ends_last state says.Skip = tt

pub last-ended : (old new : MomentsState) (word : Word) (picture : Picture) → step old word ≡ Ok (stepped new (Some picture)) → new.last ≡ Some picture.time
last-ended old new word picture e = subst (λ (r : Checked Stepped). IfOk r EndsLast) e (ends_last old word)
