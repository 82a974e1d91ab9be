-- A picture has no two texts, and no two boards.
use Rattle.std.proofs.Common.{◌≡◌, ◌≤◌, ◌++◌, ◌∙◌, ℕ, List, [], ◌∷◌, length, sym, ap, ap₂, subst, ⊎_elim, Bool, true, false, Option, None, option_map}
use Rattle.std.specs.Prelude.{codes, is_some}
use Rattle.std.specs.List.{flat_map}
use Rattle.std.proofs.lemmas.Bool.{cases_lt}
use Rattle.daa_config.specs.Candidates.{candidates_of}
use Rattle.daa_config.specs.Settings.{Settings, IsAccepted}
use Rattle.daa_config.specs.declared.kind.Kind.{Kind}
use Rattle.daa_config.specs.declared.kind.Kind.TheVariants.{Track, GroundSpeed, VerticalSpeed, Altitude}
use Rattle.daa_config.specs.declared.candidate.Resolution.{Resolution}
use Rattle.daa_config.specs.declared.candidate.Resolution.TheVariants.{Keep, To, Nothing}
use Rattle.daa_recovery.specs.declared.recovery.Recovery.{Recovery}
use Rattle.daa_last.proofs.Searching.{last_only}
use Rattle.daa_recovery.proofs.OneRecovery.{recovery_only}
use Rattle.daa_state.specs.Picture.{aircraft_of}
use Rattle.daa_state.specs.declared.word.Picture.{Picture}
use Rattle.daa_state.specs.declared.word.Traffic.{Traffic}
use Rattle.daa_alert.specs.declared.aircraft_alert.Alert.{Alert}
use Rattle.daa_alert.proofs.OneAlert.{now_once, alert_once}
use Rattle.daa_bands.specs.Board.{HasLevelOn, IsBoardOf}
use Rattle.daa_bands.proofs.KindLemmas.{kind_bands_only}
use Rattle.daa_resolve.specs.declared.side.Side.{Side}
use Rattle.daa_resolve.specs.declared.side.Side.TheVariants.{Lower, Upper}
use Rattle.daa_resolve.proofs.OneResolution.{one_answer}
use Rattle.daa_report.specs.Lines.{Text, numbers_line, alert_line, resolve_line, last_line, recover_line}
use Rattle.daa_engine.specs.Covered.{CoveredAt}
use Rattle.daa_bands.specs.Parts.{SplitsByEach}
use Rattle.daa_engine.specs.MomentText.{AreAircraftLines, IsLastText, IsRecoveryText, IsMomentText, of_each}
use Rattle.daa_engine.specs.Inside.Findings.{found_of}
use Rattle.daa_engine.specs.Inside.Written.{line_of}

module _ (s : Settings) (p : Picture) where
  aircraft_only : (t : Traffic) (a b : Text) → AreAircraftLines s p t a → AreAircraftLines s p t b → a ≡ b
  aircraft_only t a b h k =
      let n = now_once s p.own t h.now k.now h.now_is k.now_is in
      let w = alert_once s p.own t h.alert k.alert h.alert_is k.alert_is in
      h.text_is ∙ ap₂ (λ (x : ℕ) (y : Alert). numbers_line (codes "now " ++ t.id) (x ∷ []) ++ alert_line t.id y.level y.first) n w ∙ sym k.text_is

  alerts_only : (ts : List Traffic) (a b : Text) → SplitsByEach (AreAircraftLines s p) ts a → SplitsByEach (AreAircraftLines s p) ts b → a ≡ b
  alerts_only [] a b h k = h ∙ sym k
  alerts_only (t ∷ ts) a b h k =
      h.joined ∙ ap₂ (λ (x y : Text). x ++ y) (aircraft_only t h.first k.first h.first_is k.first_is) (alerts_only ts h.second k.second h.second_is k.second_is)
      ∙ sym k.joined

  last_line_only : (kind : Kind) (a b : Text) → IsLastText s p true Nothing kind a → IsLastText s p true Nothing kind b → a ≡ b
  last_line_only kind a b (found, is, e) (found', is', e') = e ∙ ap (last_line kind) (last_only s p kind found found' is is') ∙ sym e'

  -- with the same answer a kind has one text of its last time
  last_text_only : (asked : Bool) (answer : Resolution) (kind : Kind) (a b : Text) → IsLastText s p asked answer kind a → IsLastText s p asked answer kind b → a ≡ b
  last_text_only false answer kind a b h k = h ∙ sym k
  last_text_only true Keep kind a b h k = h ∙ sym k
  last_text_only true (To v) kind a b h k = last_line_only kind a b h k
  last_text_only true Nothing kind a b h k = last_line_only kind a b h k

  last_only_of : (asked : Bool) (answer answer' : Resolution) (kind : Kind) (a b : Text) → answer ≡ answer' → IsLastText s p asked answer kind a → IsLastText s p asked answer' kind b → a ≡ b
  last_only_of asked answer answer' kind a b e h k = last_text_only asked answer' kind a b (subst (λ (r : Resolution). IsLastText s p asked r kind a) e h) k

  recovery_line_only : IsAccepted s → (kind : Kind) (a b : Text) → IsRecoveryText s p true Nothing Nothing kind a → IsRecoveryText s p true Nothing Nothing kind b → a ≡ b
  recovery_line_only ok kind a b (found, is, e) (found', is', e') =
      e ∙ ap (λ (f : Option Recovery). recover_line kind (option_map found_of f)) (recovery_only None s p kind ok found found' is is') ∙ sym e'

  -- with the same answers a kind has one text of its recovery
  recovery_text_only : IsAccepted s → (asked : Bool) (lower upper : Resolution) (kind : Kind) (a b : Text)
      → IsRecoveryText s p asked lower upper kind a → IsRecoveryText s p asked lower upper kind b → a ≡ b
  recovery_text_only ok false lower upper kind a b h k = h ∙ sym k
  recovery_text_only ok true Keep upper kind a b h k = h ∙ sym k
  recovery_text_only ok true (To v) upper kind a b h k = h ∙ sym k
  recovery_text_only ok true Nothing Keep kind a b h k = h ∙ sym k
  recovery_text_only ok true Nothing (To v) kind a b h k = h ∙ sym k
  recovery_text_only ok true Nothing Nothing kind a b h k = recovery_line_only ok kind a b h k

  recovery_only_of : IsAccepted s → (asked : Bool) (lower upper lower' upper' : Resolution) (kind : Kind) (a b : Text) → lower ≡ lower' → upper ≡ upper'
      → IsRecoveryText s p asked lower upper kind a → IsRecoveryText s p asked lower' upper' kind b → a ≡ b
  recovery_only_of ok asked lower upper lower' upper' kind a b e f h k =
      recovery_text_only ok asked lower' upper' kind a b
      (subst (λ (r : Resolution). IsRecoveryText s p asked lower' r kind a) f (subst (λ (r : Resolution). IsRecoveryText s p asked r upper kind a) e h)) k

  each_only : (f g : Kind → Text) → ((kind : Kind) → f kind ≡ g kind) → of_each f ≡ of_each g
  each_only f g e = let t = e Track in let s' = e GroundSpeed in let c = e VerticalSpeed in let h = e Altitude in cc

  pub text_only : IsAccepted s → (a b : Text) → IsMomentText s p a → IsMomentText s p b → a ≡ b
  text_only ok a b h k =
      let bands : Kind → Text = λ kind. flat_map (line_of kind) (h.bands kind) in
      let bands' : Kind → Text = λ kind. flat_map (line_of kind) (k.bands kind) in
      let answers : Kind → Text = λ kind. resolve_line kind (h.answers kind Lower) (h.answers kind Upper) in
      let answers' : Kind → Text = λ kind. resolve_line kind (k.answers kind Lower) (k.answers kind Upper) in
      let same = λ (kind : Kind) (side : Side). one_answer (CoveredAt s p) s p.own ok kind side (h.answers kind side) (k.answers kind side)
      (h.answers_are kind side) (k.answers_are kind side) in
      let x = alerts_only (aircraft_of p) h.alerts k.alerts h.alerts_are k.alerts_are in
      let y = each_only bands bands' (λ kind. ap (flat_map (line_of kind))
      (kind_bands_only (CoveredAt s p) (length s.levels) s kind (h.bands kind) (k.bands kind) (h.bands_are kind) (k.bands_are kind))) in
      let z = each_only answers answers' (λ kind. ap₂ (resolve_line kind) (same kind Lower) (same kind Upper)) in
      let v = each_only h.lasts k.lasts (λ kind. last_only_of s.last_times (h.answers kind Lower) (k.answers kind Lower) kind (h.lasts kind) (k.lasts kind)
      (same kind Lower) (h.lasts_are kind) (k.lasts_are kind)) in
      let w = each_only h.recoveries k.recoveries (λ kind. recovery_only_of ok (is_some s.recovery) (h.answers kind Lower) (h.answers kind Upper)
      (k.answers kind Lower) (k.answers kind Upper) kind (h.recoveries kind) (k.recoveries kind) (same kind Lower) (same kind Upper) (h.recoveries_are kind) (k.recoveries_are kind)) in
      let m = numbers_line (codes "moment") (p.time ∷ []) in let d = numbers_line (codes "done") (p.time ∷ []) in
      h.text_is ∙ ap (λ (t : Text). m ++ (t ++ (of_each bands ++ (of_each answers ++ (of_each h.lasts ++ (of_each h.recoveries ++ d)))))) x
      ∙ ap (λ (t : Text). m ++ (k.alerts ++ (t ++ (of_each answers ++ (of_each h.lasts ++ (of_each h.recoveries ++ d)))))) y
      ∙ ap (λ (t : Text). m ++ (k.alerts ++ (of_each bands' ++ (t ++ (of_each h.lasts ++ (of_each h.recoveries ++ d)))))) z
      ∙ ap (λ (t : Text). m ++ (k.alerts ++ (of_each bands' ++ (of_each answers' ++ (t ++ (of_each h.recoveries ++ d)))))) v
      ∙ ap (λ (t : Text). m ++ (k.alerts ++ (of_each bands' ++ (of_each answers' ++ (of_each k.lasts ++ (t ++ d)))))) w ∙ sym k.text_is

-- ---- no two boards

-- a board that stands for what is covered has no level that another such board has not
pub same_level : (s : Settings) (p : Picture) (a b : List ℕ) → IsBoardOf (CoveredAt s p) s a → IsBoardOf (CoveredAt s p) s b
    → (index l : ℕ) → 1 ≤ l → HasLevelOn a index l → HasLevelOn b index l
same_level s p a b one other index l low h = ⊎_elim
    (λ in'. ⊎_elim
    (λ high. absurd (one.no_level_above index l high h))
    (λ high. (other.each index l in' low high).1 ((one.each index l in' low high).0 h))
    (cases_lt (length s.levels) l))
    (λ past. absurd (one.no_candidate_past index l past low h))
    (cases_lt index (length (candidates_of s)))
