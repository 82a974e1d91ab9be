-- What a level's table says that has neither a key `tau` nor a key `tep`: the same as with the rows up to `tcpa`, and by that
-- key alone. What a recovery's table says that has no key `nearest`: the same as with the rows up to `vdist`. And what a document
-- says that has no key `last_times`: the same as with the rows up to `recovery`.
use Rattle.std.specs.Prelude.{◌≡◌, ℤ, true, false, List, take, Some, Ok, if◌then◌else◌}
use Rattle.std.specs.List.{list_all}
use Rattle.toml.specs.Data.{Members}
use Rattle.daa_taumod.specs.declared.Model.TheVariants.{Taumod, Tcpa}
use Rattle.daa_config.specs.declared.numbers.LevelNumbers.{LevelNumbers}
use Rattle.daa_config.specs.declared.numbers.Numbers.{Numbers}
use Rattle.daa_config.specs.declared.numbers.RecoveryNumbers.{RecoveryNumbers}
use Rattle.daa_config.specs.ConfigOf.{config_in}
use Rattle.daa_config.specs.Document.{number_in, grid_in, level_by, recovery_by, numbers_by}
use Rattle.daa_config.specs.Level.{is_set, asks_one, asks_nearest, model_of}
use Rattle.daa_config.specs.Rows.{Row, document_rows, level_rows, recovery_rows, has_other_key, lacks_key, holds_other}
use Rattle.daa_config.specs.Settings.{Settings}

-- the rows up to `tcpa`
abbrev pub rows_to_tcpa : LevelNumbers → List Row
rows_to_tcpa n = take 7 (level_rows n)

-- the numbers of a table
abbrev pub numbers_of : Members → LevelNumbers
numbers_of table = level_by (number_in table)

-- the last two rows make no difference to the table, and its model is that of `tcpa` alone
pub record IsAsBefore (table : Members) : Type 0 where
  pub unknown : has_other_key (level_rows (numbers_of table)) table ≡ has_other_key (rows_to_tcpa (numbers_of table)) table
  pub missing : lacks_key (level_rows (numbers_of table)) table ≡ lacks_key (rows_to_tcpa (numbers_of table)) table
  pub other : holds_other (level_rows (numbers_of table)) table ≡ holds_other (rows_to_tcpa (numbers_of table)) table
  pub fit : list_all (λ row. row.fits) (level_rows (numbers_of table)) ≡ list_all (λ row. row.fits) (rows_to_tcpa (numbers_of table))
  pub one : asks_one (numbers_of table) ≡ true
  pub model : model_of (numbers_of table) ≡ (if is_set (number_in table "tcpa") then Tcpa else Taumod)

-- ---- the recovery

-- the rows up to `vdist`
abbrev pub rows_to_vdist : RecoveryNumbers → List Row
rows_to_vdist r = take 2 (recovery_rows r)

-- the numbers of a recovery's table
abbrev pub recovery_numbers : Members → RecoveryNumbers
recovery_numbers table = recovery_by (number_in table)

-- the last row makes no difference to the table, and it does not ask for the nearest value
pub record IsRecoveryAsBefore (table : Members) : Type 0 where
  pub unknown : has_other_key (recovery_rows (recovery_numbers table)) table ≡ has_other_key (rows_to_vdist (recovery_numbers table)) table
  pub missing : lacks_key (recovery_rows (recovery_numbers table)) table ≡ lacks_key (rows_to_vdist (recovery_numbers table)) table
  pub other : holds_other (recovery_rows (recovery_numbers table)) table ≡ holds_other (rows_to_vdist (recovery_numbers table)) table
  pub fit : list_all (λ row. row.fits) (recovery_rows (recovery_numbers table)) ≡ list_all (λ row. row.fits) (rows_to_vdist (recovery_numbers table))
  pub not_asked : asks_nearest (Some (recovery_numbers table)) ≡ false

-- ---- the document

-- the rows up to `recovery`, whatever stands at `last_times`
abbrev pub rows_to_recovery : Numbers → ℤ → List Row
rows_to_recovery n last_times = take 8 (document_rows n last_times)

-- the numbers of a document
abbrev pub document_numbers : Members → Numbers
document_numbers document = numbers_by (number_in document) (grid_in document)

-- all rows of a document
abbrev pub all_of : Members → List Row
all_of document = document_rows (document_numbers document) (number_in document "last_times")

-- the rows of a document up to `recovery`
abbrev pub all_before : Members → List Row
all_before document = rows_to_recovery (document_numbers document) (number_in document "last_times")

-- the last row makes no difference to the document, and the settings that it gives ask for no last times
pub record IsDocumentAsBefore (document : Members) : Type 0 where
  pub unknown : has_other_key (all_of document) document ≡ has_other_key (all_before document) document
  pub missing : lacks_key (all_of document) document ≡ lacks_key (all_before document) document
  pub other : holds_other (all_of document) document ≡ holds_other (all_before document) document
  pub fit : list_all (λ row. row.fits) (all_of document) ≡ list_all (λ row. row.fits) (all_before document)
  pub not_asked : (settings : Settings) → config_in document ≡ Ok settings → settings.last_times ≡ false
