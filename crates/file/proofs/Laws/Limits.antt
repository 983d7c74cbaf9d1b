-- A row of a file is accepted exactly where it keeps its limits: its lengths are right by its making, and its times are early.
-- Assumes nothing.
use mathlib.Core.Path.{◌≡◌, refl, sym, ◌∙◌, ap}
use mathlib.Core.Bool.{true, false, not, and-false}
use mathlib.Core.List.{List, [], ◌∷◌}
use Prim.Native.Nat.{ℕ, ◌+◌, ◌*◌, ◌/◌, ◌≤◌, ◌<◌}
use lib.ListN.{length, get_or, drop}
use borrow.Author.Tests.{eq-eqb, le-ltb}
use Rattle.settings.specs.Refusal.{Test, ◌when◌, first, refused, any_below}
use Rattle.settings.specs.declared.refusal.Refusal.TheVariants.{StrayMark, Crowded, TileDrift, Link, Phase}
use Rattle.settings.specs.Settings.{settings_cause, settings_refusal}
use Rattle.settings.specs.declared.Settings.{Settings}
use Rattle.settings.proofs.Laws.AnyBelow.{none_till}
use Rattle.settings.proofs.Laws.Refusal.{skip, end, unhit, skip_given, unhit_given, no_number}
use Rattle.settings.proofs.Laws.Settings.{limits}
use Rattle.rule.specs.Clock.{phase_most}
use Rattle.admission.specs.Call.{Call, call}
use Rattle.columns.specs.Marks.{marked, mark_bytes}
use Rattle.admission.specs.Refusal.{lengths_are, lengths_right, stray_mark, late_time, crowded, over, row_tests, row_cause}
use Rattle.admission.proofs.Laws.Limits.{NoneApplies, none_applies, within_limits}
use Rattle.links.specs.Links.{bad_links}
use Rattle.fields.specs.Field.{field_cause, field_refusal}
use Rattle.fields.specs.Limits.{FieldPlain}
use Rattle.fields.proofs.Limits.{field_plain}
use Rattle.contents.specs.Contents.{tiles_size, marks_field, marks_in, tiles_in, drifts_in, phases_in, links_in, call_in}
use Rattle.steps.specs.Number.{row_fields_cause, row_number}
use Rattle.file.specs.Limits.{RowKeeps}
use Rattle.contents.proofs.Laws.Contents.{marks_length, drifts_length, phases_length, links_length}

-- the tests that are left: 22, 24, 25, 53 and 26
abbrev pub row_limits : Settings → Call → List Test
row_limits s x =
    StrayMark when any_below (8 * mark_bytes s.width) (stray_mark s.width x.marks)
    ∷ Crowded when any_below s.width (crowded s.width x.marks)
    ∷ TileDrift when any_below s.width (over s.drift x.drifts)
    ∷ Phase when any_below s.width (over phase_most x.phases)
    ∷ Link when any_below s.width (bad_links s x.marks x.links)
    ∷ []

-- a row whose times are early enough for any marks
pub record Early (s : Settings) (ts : List ℕ) : Type 0 where
  pub pass : settings_refusal s ≡ 0
  pub long : length ts ≡ s.width
  pub early : (c : ℕ) → c < s.width → get_or ts c 0 ≤ 1099511627775

module _ (s : Settings) (ts : List ℕ) (row : Early s ts) where
  none_late : (ms : List ℕ) → any_below s.width (late_time ts ms) ≡ false
  unfolding late_time
  none_late ms =
      none_till _ s.width (λ c i. rw (le-ltb 1099511627775 (get_or ts c 0) (row.early c i)) (and-false (not (marked ms c))))

  module _ (bs : List ℕ) where
    lengths_fit : field_refusal 3 (mark_bytes s.width) bs ≡ 0 → lengths_right s.width ts (call_in s.width bs) ≡ true
    unfolding lengths_right lengths_are call_in call
    lengths_fit e =
        let w = s.width in
        let body = tiles_in w bs in
        rw (
          eq-eqb (length ts) w row.long,
          eq-eqb (length (marks_in w bs)) (mark_bytes w) (marks_length w bs e),
          eq-eqb (length (drifts_in w body)) w (drifts_length w body),
          eq-eqb (length (phases_in w body)) w (phases_length w body),
          eq-eqb (length (links_in w body)) (3 * w + 2) (links_length w body (limits s row.pass).width.0),
        ) (rw (eq-eqb w w refl))

    pub limited : field_refusal 3 (mark_bytes s.width) bs ≡ 0 →
        row_cause s ts (call_in s.width bs) ≡ first (row_limits s (call_in s.width bs))
    unfolding row_cause row_tests first settings_refusal
    limited e = skip_given (settings_cause s) _ row.pass ∙ rw (lengths_fit e, none_late (call_in s.width bs).marks)

    pub keeps : RowKeeps s bs → row_number s ts bs ≡ 0
    unfolding row_number row_fields_cause marks_field mark_bytes FieldPlain field_refusal
    keeps k =
        let m = (field_plain 3 ((s.width + 7) / 8) bs).0 k.marks_there in
        let t = (field_plain 4 (30 * s.width + 16) (drop (3 + (s.width + 7) / 8) bs)).0 k.tiles_there in
        let none = none_applies s (call_in s.width bs).marks (call_in s.width bs).drifts (call_in s.width bs).phases (call_in s.width bs).links (limits s row.pass).width.0 k.within in
        let goes =
        skip_given (field_cause 3 ((s.width + 7) / 8) bs) _ m
        ∙ skip_given (field_cause 4 (30 * s.width + 16) (drop (3 + (s.width + 7) / 8) bs)) _ t
        ∙ limited m in
        no_number _ (goes ∙ skip StrayMark _ none.none_stray ∙ skip Crowded _ none.none_crowded ∙ skip TileDrift _ none.none_fast ∙ skip Phase _ none.none_out_of_phase ∙ end Link none.none_bad)

    pub kept : row_number s ts bs ≡ 0 → RowKeeps s bs
    unfolding row_number row_fields_cause marks_field mark_bytes FieldPlain call_in call field_refusal
    kept e =
        let x = call_in s.width bs in
        let a = unhit_given (field_cause 3 (mark_bytes s.width) bs) _ e in
        let b = unhit_given (field_cause 4 (tiles_size s.width) (drop (marks_field s.width) bs)) _ a.1 in
        let stray = unhit StrayMark (any_below (8 * mark_bytes s.width) (stray_mark s.width x.marks)) _ (ap refused (sym (limited a.0)) ∙ b.1) in
        let crowd = unhit Crowded (any_below s.width (crowded s.width x.marks)) _ stray.1 in
        let drift = unhit TileDrift (any_below s.width (over s.drift x.drifts)) _ crowd.1 in
        let phase = unhit Phase (any_below s.width (over phase_most x.phases)) _ drift.1 in
        let link = unhit Link (any_below s.width (bad_links s x.marks x.links)) _ phase.1 in
        let none : NoneApplies s x.marks x.drifts x.phases x.links =
        record { none_stray = stray.0; none_crowded = crowd.0; none_fast = drift.0; none_out_of_phase = phase.0; none_bad = link.0 } in
        record {
          marks_there = (field_plain 3 (mark_bytes s.width) bs).1 a.0;
          tiles_there = (field_plain 4 (tiles_size s.width) (drop (marks_field s.width) bs)).1 b.0;
          within = within_limits s x.marks x.drifts x.phases x.links (limits s row.pass).width.0 (marks_length s.width bs a.0) none;
        }
