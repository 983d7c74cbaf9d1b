-- The proofs of what specs/Promises.antt states. Assumes nothing.
use mathlib.Core.Path.{◌≡◌, refl, sym, ◌∙◌, ap}
use Rattle.std.specs.Prelude.{Some}
use Rattle.settings.specs.Settings.{step_of}
use Rattle.rule.specs.Stamp.{earlier, later, earliest, latest, latest_stamp}
use Rattle.rule.specs.Signed.{natural}
use Rattle.rule.specs.Pulse.{tile_letter}
use Rattle.tile.specs.Tile.{silent_at, reading_at, stamp_from, stamp_at, own_stamp, neighbour_places, neighbour_stamps, tile_cause, tile_refusal, answered, forwarded, P_of, correction_of, letter_of}
use Rattle.tile.specs.Cases.{reading_in, marked_in, stamps, heard as at}
use Rattle.rule.specs.Promises.{Tile, PExact}
use Rattle.tile.specs.Promises.{TileAnswered, PastCount, PRange, correction_most, CorrectionRange, CorrectionEnds}
use Rattle.settings.specs.declared.Settings.{Settings}
use Rattle.tile.specs.declared.Stamps.{Stamps}
use Rattle.settings.proofs.Laws.Refusal.{answered_number}
use Rattle.settings.proofs.Laws.Settings.{limits, step_small}
use Rattle.rule.proofs.Laws.Stamp.{earliest_by, latest_by}
use Rattle.rule.proofs.Laws.Forward.{P_most}
use Rattle.rule.proofs.Promises.{closed, p_exact}
use Rattle.tile.proofs.Laws.{Accepted, accepted, stamped, corrected as has_correction, forwarded_accepted, forwarded_alike}
use Rattle.tile.proofs.Range.{corrected, late_own, early_own, late_accepted, early_accepted}

-- a tile that is not turned away has stamps that the rule takes
tile_of : {s : Settings} {x : Stamps} → Accepted s x → Tile s (neighbour_stamps x)
tile_of a = record { checked = a.settings; two = (stamped a).two }

pub tile_answered : TileAnswered
unfolding TileAnswered PExact tile_refusal P_of correction_of letter_of answered tile_letter
tile_answered s x = (
  unfold forwarded in answered_number (tile_cause s x) _,
  λ e. rw (forwarded_accepted s x e) (ap Some (p_exact s (own_stamp x) (neighbour_stamps x) (tile_of (accepted s x e))), refl, refl),
)

pub past_count : PastCount
unfolding PastCount
past_count s x y e a b = forwarded_alike (record { count = e; silent = a; reading = b }) s

pub p_range : PRange
unfolding PRange own_stamp
p_range s x e =
    let a = accepted s x e in
    let t = stamped a in
    rw (closed (stamp_at x 0) (tile_of a))
    (P_most (limits s a.settings).unit.0 (step_of s) t.heard_enough t.ordered t.own_by (earliest_by t.all_by) (latest_by t.all_by))

pub correction_range : CorrectionRange
unfolding CorrectionRange TileAnswered own_stamp
correction_range s x c e =
    let z : tile_refusal s x ≡ 0 = unfold forwarded tile_refusal in has_correction (tile_cause s x) _ e in
    let a = accepted s x z in
    let t = stamped a in
    corrected s c (limits s a.settings) t.heard_enough t.ordered t.own_by (earliest_by t.all_by) (sym ((tile_answered s x).1 z).1 ∙ e)

pub correction_ends : CorrectionEnds
unfolding CorrectionEnds TileAnswered correction_most step_of own_stamp neighbour_stamps neighbour_places stamp_at stamp_from silent_at reading_at natural stamps reading_in marked_in earliest latest earlier later
correction_ends s ok =
    let k = limits s ok in
    let j = step_small s.unit s.drift k.unit.0 k.drift in (
      ((tile_answered s (stamps 2 (at latest_stamp) (at 0) (at 0) (at 0))).1 (late_accepted s ok)).1 ∙ late_own k.unit.0 (step_of s) k.unit.1 j,
      ((tile_answered s (stamps 2 (at 0) (at latest_stamp) (at latest_stamp) (at 0))).1 (early_accepted s ok)).1 ∙ early_own k.unit.0 (step_of s),
    )
