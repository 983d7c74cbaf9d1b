-- One wave of a seam: what is handed in, what the seam operation answers, and the gap that it holds. Assumes nothing.
use Rattle.std.specs.Prelude.{Bool, ℕ, ℤ, pos, ◌-ℤ◌, Result, Ok, Err, is_err}
use Rattle.std.proofs.Math.Option.{Option, none, some}
use Rattle.settings.specs.declared.refusal.Refusal.{Refusal}
use Rattle.seam.specs.Seam.{seam_of}
use Rattle.seam.specs.declared.Seam.{Seam}
use Rattle.seam.specs.declared.Seam.TheVariants.{Closed, Open}

-- §E1.2 what the seam operation is given: each side's time, and whether its tile is faulty
pub record Wave : Type 0 where
  pub left : ℕ
  pub left_faulty : Bool
  pub right : ℕ
  pub right_faulty : Bool

-- §E1.2 the wave of these
unfoldable pub wave : (left : ℕ) (left_faulty : Bool) (right : ℕ) (right_faulty : Bool) → Wave
wave l lf r rf = record { left = l; left_faulty = lf; right = r; right_faulty = rf }

-- §E1.2 the answer of a hand-in: the seam, as the seam operation has it
unfoldable pub answer : Wave → Result Seam Refusal
answer w = seam_of w.left w.left_faulty w.right w.right_faulty

-- §E1.2 a wave is turned away there
unfoldable pub refused : Wave → Bool
refused w = is_err (answer w)

-- §E1.3 a closed seam has the gap, an open one gives no number
unfoldable pub where_closed : Result Seam Refusal → (gap : ℤ) → Option ℤ
where_closed (Ok (Closed h)) z = some z
where_closed (Ok (Open s)) z = none
where_closed (Err why) z = none

-- §E1.4 the gap of a wave, right less left: as many ticks as its half gap has half ticks
unfoldable pub gap_of : Wave → Option ℤ
gap_of w = where_closed (answer w) (pos w.right -ℤ pos w.left)
