-- The proof of what specs/Limits.antt states: past each test by its limit, and back by `accepted`. Assumes nothing.
use mathlib.Core.Path.{◌≡◌, ◌∙◌}
use mathlib.Core.Bool.{true, false, not, and-false}
use mathlib.Core.List.{List}
use Prim.Native.Nat.{ℕ, ◌+◌, ◌*◌, ◌/◌}
use lib.ListN.{length, get_or}
use native.Mathlib.Omega.{arith}
use borrow.Author.Tests.{eq-eqb, le-ltb}
use Rattle.settings.specs.Refusal.{any_below}
use Rattle.settings.specs.Settings.{settings_cause, settings_refusal}
use Rattle.settings.specs.declared.refusal.Refusal.TheVariants as why
use Rattle.settings.specs.Limits.{SettingsPlain}
use Rattle.settings.specs.declared.Settings.{Settings}
use Rattle.settings.proofs.Limits.{settings_plain}
use Rattle.settings.proofs.Laws.Settings.{limits}
use Rattle.settings.proofs.Laws.AnyBelow.{none_till}
use Rattle.settings.proofs.Laws.Refusal.{skip, skip_given, end, no_number, unhit, unhit_given}
use Rattle.rule.specs.Clock.{phase_most}
use Rattle.columns.specs.Marks.{marked, mark_bytes}
use Rattle.columns.proofs.Laws.Lists.{by_test}
use Rattle.links.specs.Links.{latest_time, bad_links}
use Rattle.admission.specs.Call.{Call}
use Rattle.admission.specs.Limits.{RowLimits, RowPlain}
use Rattle.admission.specs.Refusal.{lengths_are, lengths_right, stray_mark, late_time, crowded, over, row_tests, row_cause, row_refusal}
use Rattle.admission.proofs.Laws.Accepted.{accepted}
use Rattle.admission.proofs.Laws.Limits.{NoneApplies, none_applies, within_limits}

module _ (s : Settings) (ts : List ℕ) (x : Call) where
  -- a call within its limits meets no test
  module _ (k : RowLimits s ts x) where
    lengths_fit : lengths_right s.width ts x ≡ true
    unfolding lengths_right lengths_are mark_bytes
    lengths_fit =
        let w = s.width in
        rw (
          eq-eqb (length ts) w k.before_long,
          eq-eqb (length x.marks) ((w + 7) / 8) (omega (arith, k.marks_long)),
          eq-eqb (length x.drifts) w k.drifts_long,
          eq-eqb (length x.phases) w k.phases_long,
          eq-eqb (length x.links) (3 * w + 2) k.links_long,
          eq-eqb x.room w k.room_long,
        ) (eq-eqb x.letter_room w k.letters_long)

    none_late : any_below s.width (late_time ts x.marks) ≡ false
    unfolding late_time
    none_late =
        none_till _ s.width
        (λ c i. by_test (marked x.marks c)
        (λ m. rw m)
        (λ m. rw (le-ltb latest_time (get_or ts c 0) (k.early c i m)) (and-false (not (marked x.marks c)))))

    kept : row_refusal s ts x ≡ 0
    unfolding row_refusal row_cause row_tests settings_refusal SettingsPlain
    kept =
        let none = none_applies s x.marks x.drifts x.phases x.links k.settings.width.0 k.tiles in
        no_number _
        (skip_given (settings_cause s) _ ((settings_plain s).0 k.settings)
        ∙ skip why.Lengths _ (rw lengths_fit)
        ∙ skip why.StrayMark _ none.none_stray
        ∙ skip why.LateTime _ none_late
        ∙ skip why.Crowded _ none.none_crowded
        ∙ skip why.TileDrift _ none.none_fast
        ∙ skip why.Phase _ none.none_out_of_phase
        ∙ end why.Link none.none_bad)

  -- and one that meets none is within them
  module _ (e : row_refusal s ts x ≡ 0) where
    untouched : NoneApplies s x.marks x.drifts x.phases x.links
    unfolding row_refusal row_cause row_tests
    untouched =
        let w = s.width in
        let t1 = unhit_given (settings_cause s) _ e in
        let t2 = unhit why.Lengths (not (lengths_right w ts x)) _ t1.1 in
        let t3 = unhit why.StrayMark (any_below (8 * mark_bytes w) (stray_mark w x.marks)) _ t2.1 in
        let t4 = unhit why.LateTime (any_below w (late_time ts x.marks)) _ t3.1 in
        let t5 = unhit why.Crowded (any_below w (crowded w x.marks)) _ t4.1 in
        let t6 = unhit why.TileDrift (any_below w (over s.drift x.drifts)) _ t5.1 in
        let t7 = unhit why.Phase (any_below w (over phase_most x.phases)) _ t6.1 in
        let t8 = unhit why.Link (any_below w (bad_links s x.marks x.links)) _ t7.1 in
        record { none_stray = t3.0; none_crowded = t5.0; none_fast = t6.0; none_out_of_phase = t7.0; none_bad = t8.0 }

    limited : RowLimits s ts x
    unfolding mark_bytes
    limited =
        let a = accepted s ts x e in
        let k = limits s a.settings in
        record {
          settings = k;
          before_long = a.lengths.before;
          marks_long = omega (arith, a.lengths.marks);
          drifts_long = a.lengths.drifts;
          phases_long = a.lengths.phases;
          links_long = a.lengths.links;
          room_long = a.lengths.room;
          letters_long = a.lengths.letters;
          early = a.time;
          tiles = within_limits s x.marks x.drifts x.phases x.links k.width.0 a.lengths.marks untouched;
        }

pub row_plain : RowPlain
unfolding RowPlain
row_plain s ts x = (kept s ts x, limited s ts x)
