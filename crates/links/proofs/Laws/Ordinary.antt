-- Link values in the range of delays: none is bad, whoever is faulty. Assumes nothing.
use Rattle.std.proofs.Common.{◌≡◌, ℕ, ◌+◌, ◌-◌, ◌*◌, ◌<◌, Bool, true, false, not, eqb, List, get_or, sym, refl, arith, le-ltb}
use mathlib.Core.Bool.{and-false}
use Rattle.settings.specs.Refusal.{outside}
use Rattle.settings.specs.Settings.{settings_refusal}
use Rattle.rule.specs.Stamp.{silence}
use Rattle.settings.specs.declared.Settings.{Settings}
use Rattle.settings.proofs.Laws.Refusal.{inside}
use Rattle.settings.proofs.Laws.Settings.{limits}
use Rattle.links.specs.Links.{latest_time, bad_value, NeverBad}
use Rattle.columns.specs.Marks.{marked}
use Rattle.columns.proofs.Laws.Columns.{four_no, links_inner}
use Rattle.columns.proofs.Laws.Window.{sender_inner}
use Rattle.links.proofs.Laws.Links.{bad_links_are}

module _ (s : Settings) (ok : settings_refusal s ≡ 0) where
  abbrev pub Delay : ℕ → Type 0
  Delay v = outside (s.delay - s.uncertainty) s.delay v ≡ false

  delay_fine : (m : Bool) (v : ℕ) → Delay v → bad_value s m v ≡ false
  unfolding bad_value
  delay_fine true v e =
      rw (le-ltb latest_time v (omega (arith, inside (s.delay - s.uncertainty) s.delay v e, (limits s ok).delay))) (and-false (not (eqb v silence)))
  delay_fine false v e = e

  pub never_bad : (ls : List ℕ) (c : ℕ) → 2 < c → c < s.width - 3 →
      Delay (get_or ls (3 * c + 1) 0) → Delay (get_or ls (3 * c + 1 + 1) 0) → Delay (get_or ls (3 * c + 1 + 2) 0) → NeverBad s ls c
  unfolding NeverBad
  never_bad ls c i j x y z ms =
      let w = s.width in
      let k = c - 1 in
      let p = 3 * c + 1 in
      let wide = (limits s ok).width.0 in
      rw (
        bad_links_are w c k p wide (omega arith) (sym (sender_inner w c i (omega arith))) (sym (links_inner w wide c i (omega arith))) s ms ls refl,
        delay_fine (marked ms k) (get_or ls p 0) x,
        delay_fine (marked ms (k + 1)) (get_or ls (p + 1) 0) y,
        delay_fine (marked ms (k + 2)) (get_or ls (p + 2) 0) z,
        four_no w c wide (omega arith) (omega arith) (omega arith),
      )
