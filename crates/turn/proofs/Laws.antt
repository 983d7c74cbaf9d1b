-- What a step leaves in the buffers of a run, from what it told. Assumes nothing.
use mathlib.Core.Path.{◌≡◌, ◌∙◌, ap}
use mathlib.Core.List.{List, ◌++◌}
use Prim.Native.Nat.{ℕ, ◌+◌, ◌-◌, min}
use lib.ListN.{length, take, drop}
use lib.Seq.{take_at}
use Rattle.row.specs.Row.{Pulses, pulses, cut}
use Rattle.stages.specs.Fit.{due_of, width_of}
use Rattle.window.specs.Window.{InBuffer, bytes_in}
use Rattle.told.specs.declared.Told.{Told}
use Rattle.stream.specs.State.{stepped, Advanced}
use Rattle.stream.specs.declared.State.{State}
use Rattle.stream.proofs.Laws.State.{part_taken}
use Rattle.asked.specs.Asked.{told_of, step_for, Tells}
use Rattle.asked.specs.declared.Asked.{Asked}

-- `stop` is where the due part ends, and the rows of the wall's width stand in longer buffers
module _ (a : Asked) (rows : List ℕ) (s : State) (m : ℕ) (input : List ℕ) (lent : Pulses) (output : List ℕ) (within : InBuffer s.window (length input)) (stop width : ℕ)
    (stop_is : stop ≡ s.window.start + min (due_of s.wall) (s.window.end - s.window.start)) (width_is : width ≡ width_of s.wall) where
  abbrev placed : Pulses → Pulses
  placed after = pulses (after.times ++ drop width lent.times) (after.letters ++ drop width lent.letters)

  cut_placed : (after : Pulses) → length after.times ≡ width → length after.letters ≡ width → cut (width_of s.wall) (placed after) ≡ after
  cut_placed after e f =
      rw (← width_is, take_at after.times (drop width lent.times) width e, take_at after.letters (drop width lent.letters) width f)

  pub advanced : (t : Told) (r : State) (after : Pulses) (output_after : List ℕ) → length after.times ≡ width → length after.letters ≡ width →
      r ≡ stepped s t.wall t.end →
      Tells (told_of a rows) s.wall m (take (stop - s.window.start) (drop s.window.start input)) (cut width lent) output s.text t after output_after →
      Advanced (step_for a rows) s m input lent output r t.kept (placed after) output_after
  unfolding step_for stepped
  advanced t r after output_after long letters_long made told =
      let part : take (stop - s.window.start) (drop s.window.start input) ≡ take (due_of s.wall) (bytes_in s.window input) =
      rw stop_is (part_taken s.window (due_of s.wall) input within) in
      let on = rw (part, width_is) at told in
      let end : r.text ≡ t.end = ap (λ (u : State). u.text) made in
      record {
        state = made ∙ rw (end, on.said.wall);
        keeps = on.said.kept;
        row = λ _. cut_placed after long letters_long ∙ on.row;
        text = rw end on.said.text;
      }
