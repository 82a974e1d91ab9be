use Rattle.std.proofs.Common.{◌≡◌, rules, pos, refl}
use Rattle.daa_config.specs.Inside.Rows.{row_by}
use Rattle.daa_config.specs.Rows.{number, optional}
use Rattle.daa_config.proofs.rows.level_rows.Goals as goal

pub returns : goal.returns
returns c =
    let l = c.args.l.now in
    let dthr : row_by c.number.result ≡ number "dthr" (pos 1) (pos 10000) l.dthr = search rules in
    let zthr : row_by c.number-2.result ≡ number "zthr" (pos 0) (pos 10000) l.zthr = search rules in
    let tthr : row_by c.number-3.result ≡ number "tthr" (pos 0) (pos 120) l.tthr = search rules in
    let tcoa : row_by c.number-4.result ≡ number "tcoa" (pos 0) (pos 120) l.tcoa = search rules in
    let look : row_by c.number-5.result ≡ number "lookahead" (pos 1) (pos 180) l.lookahead = search rules in
    let warn : row_by c.number-6.result ≡ number "alert" (pos 1) (pos 180) l.alert = search rules in
    let tcpa : row_by c.optional.result ≡ optional "tcpa" (pos 1) l.tcpa = search rules in
    let tau : row_by c.optional-2.result ≡ optional "tau" (pos 1) l.tau = search rules in
    let tep : row_by c.optional-3.result ≡ optional "tep" (pos 1) l.tep = search rules in
    rw (dthr, zthr, tthr, tcoa, look, warn, tcpa, tau, tep) refl
