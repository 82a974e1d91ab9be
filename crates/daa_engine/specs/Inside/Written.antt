-- The text of a moment as a function of what was found of it.
use Rattle.std.specs.Prelude.{ℕ, ℤ, List, [], ◌∷◌, ◌++◌, Option, Some, None, codes}
use Rattle.std.specs.List.{flat_map, zip}
use Rattle.daa_config.specs.Settings.{Settings}
use Rattle.daa_config.specs.declared.kind.Kind.{Kind}
use Rattle.daa_state.specs.Picture.{aircraft_of}
use Rattle.daa_state.specs.declared.word.Picture.{Picture}
use Rattle.daa_state.specs.declared.word.Traffic.{Traffic}
use Rattle.daa_bands.specs.Walk.{bands_left}
use Rattle.daa_bands.specs.declared.band.Band.{Band}
use Rattle.daa_report.specs.Lines.{Text, numbers_line, alert_line, band_line, resolve_line, last_line, recover_line}
use Rattle.daa_engine.specs.MomentText.{of_each}
use Rattle.daa_engine.specs.declared.alerts.AircraftAlert.{AircraftAlert}
use Rattle.daa_engine.specs.declared.findings.Finding.{Finding}
use Rattle.daa_engine.specs.declared.findings.Findings.{Findings}
use Rattle.daa_engine.specs.declared.say.Section.{Section}
use Rattle.daa_engine.specs.declared.say.Section.TheVariants.{Bands, Resolutions, LastTimes, Recoveries}
use Rattle.daa_engine.specs.Inside.Findings.{finding_of}

-- the two lines of an aircraft
unfoldable pub aircraft_text : Traffic × AircraftAlert → Text
aircraft_text pair = numbers_line (codes "now " ++ pair.0.id) (pair.1.level_now ∷ []) ++ alert_line pair.0.id pair.1.alert.level pair.1.alert.first

-- the two lines of each aircraft, in the order of the input
unfoldable pub alerts_text : List Traffic → List AircraftAlert → Text
alerts_text traffic alerts = flat_map aircraft_text (zip traffic alerts)

-- the line of a band of a kind
abbrev pub line_of : Kind → Band → Text
line_of kind = λ band. band_line kind band.from band.upto band.level

-- the lines of the bands that a board shows
unfoldable pub bands_text : Settings → List ℕ → Kind → Text
bands_text settings board kind = flat_map (line_of kind) (bands_left board settings kind 0)

-- the line of a kind's last time, where it has one
abbrev pub last_text : Kind → Option (Option ℕ) → Text
last_text kind None = []
last_text kind (Some found) = last_line kind found

-- the line of a kind's recovery, where it has one
abbrev pub recovery_text : Kind → Option (Option (ℕ × ℤ)) → Text
recovery_text kind None = []
recovery_text kind (Some found) = recover_line kind found

-- the lines of a part of the report for a kind
abbrev pub kind_text : Settings → List ℕ → Section → Kind → Finding → Text
kind_text settings board Bands kind finding = bands_text settings board kind
kind_text settings board Resolutions kind finding = resolve_line kind finding.lower finding.upper
kind_text settings board LastTimes kind finding = last_text kind finding.last
kind_text settings board Recoveries kind finding = recovery_text kind finding.recovery

-- and for all kinds
unfoldable pub kinds_text : Settings → List ℕ → Section → Findings → Text
kinds_text settings board part findings = of_each (λ kind. kind_text settings board part kind (finding_of findings kind))

-- the text of a moment, line by line
unfoldable pub written : Settings → Picture → List ℕ → List AircraftAlert → Findings → Text
written settings picture board alerts findings =
    numbers_line (codes "moment") (picture.time ∷ [])
    ++ (alerts_text (aircraft_of picture) alerts
    ++ (kinds_text settings board Bands findings
    ++ (kinds_text settings board Resolutions findings
    ++ (kinds_text settings board LastTimes findings
    ++ (kinds_text settings board Recoveries findings ++ numbers_line (codes "done") (picture.time ∷ []))))))
