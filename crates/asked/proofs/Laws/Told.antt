-- What steps tell, whatever is asked: the wall goes on, and a question looks at no letters. Assumes nothing.
use mathlib.Core.Path.{◌≡◌, refl, sym, ◌∙◌, ap}
use mathlib.Core.Logic.{◌⊎◌, inl, inr, ⊎_elim}
use mathlib.Core.List.{List, []}
use Prim.Native.Nat.{ℕ, zero, suc}
use lib.Dec.{eqb}
use lib.ListN.{length}
use mathlib.Core.Bool.{Bool, true, false, cond}
use Rattle.std.specs.Prelude.{Option, Some, None, Result, Ok}
use Rattle.std.specs.Result.{result_unwrap_or}
use Rattle.settings.specs.declared.Settings.{Settings}
use Rattle.settings.specs.declared.refusal.Refusal.{Refusal}
use Rattle.settings.specs.declared.refusal.Refusal.TheVariants.{GoesOn}
use Rattle.columns.specs.Wrote.{Wrote}
use Rattle.row.specs.Row.{Pulses, pulses}
use Rattle.show.specs.Text.{texts_of}
use Rattle.steps.specs.Shown.{Shown, row_shown}
use Rattle.steps.specs.Step.{stepped, away, unless, settings_step, start_step, row_step, end_step, step_of}
use Rattle.steps.specs.Take.{taken, taken_of}
use Rattle.steps.specs.declared.RefusedAt.{RefusedAt}
use Rattle.steps.proofs.Laws.Answer.{next_same}
use Rattle.stages.specs.declared.Wall.{Wall}
use Rattle.stages.specs.declared.Wall.TheVariants.{New, Start, Row, End, Over}
use Rattle.told.specs.Telling.{says, Said}
use Rattle.told.specs.declared.Told.{Told}
use Rattle.told.proofs.Laws.{said}
use Rattle.telling.specs.Telling.{telling}
use Rattle.telling.proofs.Laws.Telling as range
use Rattle.found.specs.Finding.{finding}
use Rattle.found.proofs.Laws.Finding as wide
use Rattle.asked.specs.Asked.{lines_told, told_of, HasTables}
use Rattle.asked.specs.declared.Asked.{Asked}
use Rattle.asked.specs.declared.Asked.TheVariants.{Lines, Range, Wide}

-- the wall that is taken is the step's, which is over where the part is turned away
accepted : (y : Wall) (s : Settings) (l : ℕ) (ms : List ℕ) (r : Pulses) → taken y (row_shown s l ms r) ≡ Ok y
unfolding taken row_shown
accepted y s zero ms r = refl
accepted y s (suc l) ms r = refl

unless_next : (o : Option Refusal) (r : Pulses) (at : ℕ) (y : Wall) (q : Pulses) (shows : List Shown) → taken y shows ≡ Ok y →
    let u = unless o r at (stepped y q shows) in result_unwrap_or (taken_of u) Over ≡ u.next
unfolding unless away stepped taken_of taken
unless_next None r at y q shows e = rw e
unless_next (Some why) r at y q shows e = refl

end_next : (b : Bool) (r : Pulses) (at : ℕ) (shows : List Shown) → taken Over shows ≡ Ok Over →
    let u = cond b (stepped Over r shows) (away r GoesOn at) in result_unwrap_or (taken_of u) Over ≡ u.next
unfolding away stepped taken_of taken
end_next true r at shows e = rw e
end_next false r at shows e = refl

next_taken : (x : Wall) (r : Pulses) (bs : List ℕ) → result_unwrap_or (taken_of (step_of x r bs)) Over ≡ (step_of x r bs).next
unfolding step_of settings_step start_step row_step end_step stepped taken_of taken
next_taken New r bs = unless_next _ r 0 _ r [] refl
next_taken (Start p) r bs = unless_next _ r p.offset _ _ [] refl
next_taken (Row p) r bs = unless_next _ r _ _ _ _ (accepted _ p.settings p.row _ r)
next_taken (End p) r bs = end_next (eqb (length bs) 0) r p.offset _ (accepted _ p.settings p.row _ r)
next_taken Over r bs = refl

-- the wall that is left is the step's, or over
whatever : {y : Wall} (x : Wall) (r : Pulses) (bs : List ℕ) → (y ≡ (step_of x (pulses r.times []) bs).next) ⊎ (y ≡ Over) → (y ≡ (step_of x r bs).next) ⊎ (y ≡ Over)
whatever x r bs e = ⊎_elim (λ w. inl (w ∙ next_same x r.times bs [] r.letters)) (λ w. inr w) e

pub onward : (a : Asked) (rows : List ℕ) (x : Wall) (m : ℕ) (r : Pulses) (bs : List ℕ) →
    ((told_of a rows x m r bs).wall ≡ (step_of x r bs).next) ⊎ ((told_of a rows x m r bs).wall ≡ Over)
unfolding told_of lines_told says
onward Lines rows x m r bs = inl refl
onward Range rows x m r bs = whatever x r bs (range.told_wall rows x m r.times bs)
onward (Wide n) rows x m r bs = whatever x r bs (wide.told_wall n x m r.times bs)

-- lines are written from tables
pub tables_of : {a : Asked} (ts : List ℕ) → a ≡ Lines → HasTables a ts → HasTables Lines ts
tables_of ts e t = rw e at t

-- what was said of a step, by what is asked
module _ (a : Asked) (rows : List ℕ) (x : Wall) (m : ℕ) (r : Pulses) (bs : List ℕ) {output output_after : List ℕ} {at : ℕ} where
  pub lines_said : {t : Result Wall RefusedAt} {y : Wall} {end : ℕ} → a ≡ Lines → t ≡ taken_of (step_of x r bs) → y ≡ result_unwrap_or t Over →
      Wrote output at (texts_of (step_of x r bs).shows) output_after end →
      Said (told_of a rows x m r bs) (record { wall = y; kept = m; end = end }) output at output_after
  unfolding told_of lines_told
  lines_said {y = y} e is u w =
      rw e (said y m (ap (λ (z : Wall). says z m (texts_of (step_of x r bs).shows)) (sym (u ∙ rw is (next_taken x r bs)))) w)

  pub range_said : {u : Told} → a ≡ Range → Said (telling rows x m r.times bs) u output at output_after → Said (told_of a rows x m r bs) u output at output_after
  unfolding told_of
  range_said e s = rw e s

  pub wide_said : {u : Told} {n : ℕ} → a ≡ Wide n → Said (finding n x m r.times bs) u output at output_after → Said (told_of a rows x m r bs) u output at output_after
  unfolding told_of
  wide_said e s = rw e s
