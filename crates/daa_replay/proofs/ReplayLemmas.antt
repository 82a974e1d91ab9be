-- What the end of a replay leaves.
use Rattle.std.proofs.Common.{◌≡◌, ◌≤◌, ◌∙◌, ℕ, Bool, true, false, List, [], length, sym, ap, subst, arith, append-nil}
use Rattle.std.specs.List.{list_any}
use Rattle.daa_ahead.specs.Bytes.{StreamState, stream_state}
use Rattle.daa_ahead.specs.Moves as ahead
use Rattle.daa_config.specs.Settings.{Settings, IsAccepted}
use Rattle.daa_lines.specs.LinesOf.{Bytes}
use Rattle.daa_io.specs.Faults.{HasRisen}
use Rattle.daa_replay.specs.declared.lines.Event.{Event}
use Rattle.daa_replay.specs.declared.status.Status.{Status}
use Rattle.daa_replay.specs.declared.status.Status.TheVariants as status
use Rattle.daa_replay.specs.Lines.{events_of, is_refusal}
use Rattle.daa_replay.specs.Moment.{IsReportOf}
use Rattle.daa_replay.specs.Outside.{Outside, ShelfState, TakesSome, BreaksSome, outside}
use Rattle.daa_replay.specs.Replay.{ReportsAll}
use Rattle.daa_replay.specs.Inside.Batch.{AppendsSome, TakesTexts}
use Rattle.daa_replay.specs.Inside.Events.{IsGiven}
use Rattle.daa_replay.specs.Inside.Replay.{Course, Breaks, EndsAs, Writes}
use Rattle.daa_replay.specs.Inside.Run.{Leaves, Replays}
use Rattle.daa_replay.proofs.CourseLemmas.{breaks_join, writes_join}
use Rattle.daa_replay.proofs.GivenLemmas.{all_of}
use Rattle.daa_replay.proofs.ReportLemmas.{IsBegun, stops-first}
use Rattle.daa_replay.proofs.SomeReport.{begun-front}

-- of an input that began at the first course, these bytes were read
module _ (d e : Course) (bytes : Bytes) (begun : IsGiven [] [] d.progress) where
  all_events : (last : Bool) → (w : Writes d bytes last e) → w.events ≡ events_of bytes last
  all_events last w = all_of last bytes w.events e.progress w.after (w.gives [] [] begun)

  -- the report was written
  written : (last : Bool) → Writes d bytes last e → TakesSome (IsReportOf d.settings bytes last) (stream_state d.taken d.faults) (stream_state e.taken e.faults)
  written last w =
      let s : AppendsSome (IsReportOf d.settings bytes last) d.taken e.taken =
      subst (λ (l : List Event). TakesTexts d.settings l d.taken e.taken) (all_events last w) w.taken in
      record { text = s.text; is = s.is; taken = s.taken; calm = w.calm }

  refusals : d.progress.any_refused ≡ false → Writes d bytes true e → list_any is_refusal (events_of bytes true) ≡ e.progress.any_refused
  refusals none w = sym (w.refusals ∙ rw none (ap (list_any is_refusal) (all_events true w)))

  begun_so : (last : Bool) → Breaks d bytes last e → AppendsSome (IsBegun d.settings bytes last) d.taken e.taken
  begun_so last b = stops-first d.taken e.taken bytes last b.events (b.begins [] [] begun) b.stops

-- what was written is a beginning of the report
front_now : {settings : Settings} → IsAccepted settings → (old new : StreamState) (bytes : Bytes) (ended : Bool)
    → HasRisen old.faults new.faults → AppendsSome (IsBegun settings bytes ended) old.bytes new.bytes → BreaksSome (IsReportOf settings bytes ended) old new
front_now {settings = settings} ok old new bytes ended risen s =
    let f = begun-front settings ok bytes ended s.text s.is in
    record { risen = risen; front = s.text; unwritten = f.0; is = f.1; taken = s.taken }

module _ (places most : ℕ) (before after : ShelfState) (so sn : StreamState) (d e : Course) (begun : IsGiven [] [] d.progress) (bytes : Bytes) (within : length bytes ≤ most) where
  abbrev old : Outside
  old = outside before so (stream_state d.taken d.faults)

  abbrev new : Outside
  new = outside after sn (stream_state e.taken e.faults)

  reads_all : (refused : Bool) → d.progress.any_refused ≡ false → e.progress.any_refused ≡ refused → ahead.ReadsAll so sn bytes → Writes d bytes true e
      → ReportsAll d.settings most old new refused
  reads_all refused none any r w = record {
    reports = record { bytes = bytes; bound = within; read = r; written = written d e bytes begun true w };
    refusals = refusals d e bytes begun none w ∙ any;
  }

  whole : (mid : Course) → Writes d bytes false mid → Writes mid [] true e → Writes d bytes true e
  whole mid w v = subst (λ (b : Bytes). Writes d b true e) (append-nil bytes) (writes_join d mid e bytes [] true w v)

  -- the end of the input was met
  pub replays_over : IsAccepted d.settings → d.progress.any_refused ≡ false → (end : Status) (mid : Course) → Writes d bytes false mid → EndsAs end mid e → ahead.ReadsAll so sn bytes
      → Leaves (Replays d.settings most places) end old new
  replays_over ok none status.Accepted mid w (v, any) r =
      let all = whole mid w v in
      record { so = reads_all false none any r all; reads = omega (arith, r.calm); writes = omega (arith, all.calm) }
  replays_over ok none status.Refused mid w (v, any) r =
      let all = whole mid w v in
      record { so = reads_all true none any r all; reads = omega (arith, r.calm); writes = omega (arith, all.calm) }
  replays_over ok none status.SinkFault mid w b r =
      let all : Breaks d bytes true e = subst (λ (x : Bytes). Breaks d x true e) (append-nil bytes) (breaks_join d mid e bytes [] true w b) in
      record {
        so = record {
          bytes = bytes;
          bound = within;
          unreported = [];
          handed = rw (append-nil bytes) (record { handed = r.handed; bound = omega (arith, within) });
          in_turn = λ t. cc;
          read_calm = λ t. r.calm;
          ended = true;
          over = λ t. r;
          written = front_now ok old.sink new.sink bytes true all.risen (begun_so d e bytes begun true all);
        };
        reads = omega (arith, r.calm);
        writes = all.later;
      }
  replays_over ok none status.NotTaken mid w v r = absurd v
  replays_over ok none status.BadConfiguration mid w v r = absurd v
  replays_over ok none status.NoMemory mid w v r = absurd v
  replays_over ok none status.ShelfFault mid w v r = absurd v
  replays_over ok none status.SourceFault mid w v r = absurd v
  replays_over ok none status.Limit mid w v r = absurd v
  replays_over ok none status.StatesLong mid w v r = absurd v

  -- the source failed
  pub read_fails : so.faults ≤ sn.faults → Writes d bytes false e → ahead.ReadFails so sn bytes → Leaves (Replays d.settings most places) status.SourceFault old new
  read_fails never_falls w r = record {
    so = record { bytes = bytes; bound = within; read = r; written = written d e bytes begun false w };
    reads = never_falls;
    writes = omega (arith, w.calm);
  }

  -- one byte more was read than may be
  pub passes_limit : Writes d bytes false e → ahead.PassesMost most so sn bytes → Leaves (Replays d.settings most places) status.Limit old new
  passes_limit w r = record {
    so = record { bytes = bytes; bound = within; read = r; written = written d e bytes begun false w };
    reads = omega (arith, r.calm);
    writes = omega (arith, w.calm);
  }

  -- the sink failed
  pub write_fails : IsAccepted d.settings → so.faults ≤ sn.faults → Breaks d bytes false e → ahead.TakesFront places most so sn bytes
      → Leaves (Replays d.settings most places) status.SinkFault old new
  write_fails ok never_falls b r = record {
    so = record {
      bytes = bytes;
      bound = within;
      unreported = r.untaken;
      handed = record { handed = r.handed; bound = r.bound };
      in_turn = λ t. r.in_turn t;
      read_calm = λ t. r.calm t;
      ended = false;
      over = λ t. absurd (no t);
      written = front_now ok old.sink new.sink bytes false b.risen (begun_so d e bytes begun false b);
    };
    reads = never_falls;
    writes = b.later;
  }
    where
      no : false ≡ true → ⊥
      no t = cc
