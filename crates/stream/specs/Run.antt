-- A run over a wall file as the chain of its turns, whatever its steps tell: a kind of run is its step. Assumes nothing.
use Rattle.std.specs.Prelude.{◌≡◌, Bool, true, false, List, [], ◌++◌, ℕ, ◌<◌, length, take, drop}
use Rattle.row.specs.Row.{Pulses, cut}
use Rattle.stages.specs.Fit.{due_of, width_of}
use Rattle.stages.specs.declared.Wall.{Wall}
use Rattle.stages.specs.declared.Wall.TheVariants.{New, Over}

-- §16.4 what a step brings: the wall as it then stands, what the run keeps for its next step, the wall's row, and text
pub record Brought (K : Type 0) : Type 0 where
  pub wall : Wall
  pub keeps : K
  pub row : Pulses
  pub text : List ℕ

-- §16.4 the step of a kind of run: on a wall, with what the run keeps, the wall's row and the part that is due
abbrev pub Kind : Type 0 → Type 0
Kind K = Wall → K → (row : Pulses) → (part : List ℕ) → Brought K

-- §16.4 the step on a row's place in longer buffers, of what is read and not yet taken
abbrev pub brings : {K : Type 0} → Kind K → Wall → K → (lent : Pulses) (held : List ℕ) → Brought K
brings step x k r bs = step x k (cut (width_of x) r) (take (due_of x) bs)

-- §16.4 what a run comes to: a wall, what it keeps, and the wall's row; `held` is read and not yet taken, `delivered` is all that was read, in
-- whatever pieces, and `text` is that of the steps so far.
pub data Turns {K : Type 0} (step : Kind K) (first : K) : (ended : Bool) → Wall → K → (lent : Pulses) (held delivered text : List ℕ) → Type 0 where
  begins : {lent : Pulses} → Turns step first false New first lent [] [] []
  -- §E7.5 what is read comes behind what is held; nothing is read where the due part is there
  reads : {x : Wall} {k : K} {lent : Pulses} {held delivered text : List ℕ} → (piece : List ℕ) → length held < due_of x →
      Turns step first false x k lent held delivered text →
      Turns step first false x k lent (held ++ piece) (delivered ++ piece) text
  -- the input has ended: nothing more is read
  ends : {x : Wall} {k : K} {lent : Pulses} {held delivered text : List ℕ} → Turns step first false x k lent held delivered text →
      Turns step first true x k lent held delivered text
  -- a step is given less than is due only where the input has ended; the row that it leaves stands in the buffer, unless the wall is over
  steps : {ended : Bool} {x : Wall} {k : K} {lent : Pulses} {held delivered text : List ℕ} → (after : Pulses) → (length held < due_of x → ended ≡ true) →
      (((brings step x k lent held).wall ≡ Over → ⊥) → cut (width_of x) after ≡ (brings step x k lent held).row) →
      Turns step first ended x k lent held delivered text →
      Turns step first ended (brings step x k lent held).wall (brings step x k lent held).keeps after (drop (due_of x) held) delivered
      (text ++ (brings step x k lent held).text)

-- §16.4 a run that stands so, with text not yet handed over: what was delivered to it, and what it has handed over
pub record Ran {K : Type 0} (step : Kind K) (first : K) (ended : Bool) (x : Wall) (k : K) (lent : Pulses) (held pending : List ℕ) : Type 0 where
  pub delivered : List ℕ
  pub handed : List ℕ
  pub turns : Turns step first ended x k lent held delivered (handed ++ pending)
