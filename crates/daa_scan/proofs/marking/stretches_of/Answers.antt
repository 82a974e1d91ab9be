use Rattle.daa_scan.proofs.marking.stretches_of.Goals as goal

pub returns : goal.returns
returns c own aircraft = record {
  tracks = c.stretch_of.ensures own aircraft;
  speeds = c.stretch_of-2.ensures own aircraft;
  climbs = c.stretch_of-3.ensures own aircraft;
  heights = c.stretch_of-4.ensures own aircraft;
}
