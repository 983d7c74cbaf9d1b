-- A run goes on from step to step: what is true of it whatever its steps tell. Assumes nothing.
use mathlib.Core.Path.{◌≡◌, sym, ◌∙◌, ap, subst}
use mathlib.Core.Logic.{⊎_elim}
use mathlib.Core.List.{List, [], ◌++◌}
use Prim.Native.Nat.{ℕ}
use native.Mathlib.Omega.{arith}
use lib.ListN.{take, drop}
use Rattle.row.specs.Row.{Pulses, cut}
use Rattle.stages.specs.Fit.{due_size, due_of, width_of}
use Rattle.stages.specs.declared.Place.{Place}
use Rattle.stages.specs.declared.Wall.{Wall}
use Rattle.stages.specs.declared.Wall.TheVariants.{Start, Over}
use Rattle.steps.specs.Step.{Stepped, step_of}
use Rattle.file.specs.Stands.{Stands, steps_left}
use Rattle.file.proofs.Laws.Stands.{Ahead, step_ahead, step_stands, due_right}
use Rattle.file.proofs.Laws.Steps.{part_enough}
use Rattle.file.proofs.Laws.Width.{row_fits}
use Rattle.told.specs.Telling.{Telling}
use Rattle.stream.specs.Run.{Kind, brings}
use Rattle.stream.proofs.Laws.Held.{row_kept}
use Rattle.asked.specs.Asked.{Step, told_of, step_for}
use Rattle.asked.specs.declared.Asked.{Asked}
use Rattle.asked.proofs.Laws.Told.{onward}

-- a step of these tells a part of what is told from its wall on, and leaves the rest; row 0 and the end do not read the row that is lent
pub record Tale (t : Step Telling) : Type 0 where
  pub from : Wall → (kept : ℕ) → (row : Pulses) → (rest : List ℕ) → List ℕ
  pub goes : (x : Wall) (m : ℕ) (r : Pulses) (bs : List ℕ) → Stands x →
      from x m r bs ≡ (t x m r bs).text ++ from (t x m r bs).wall (t x m r bs).kept (step_of x r bs).row (drop (due_size x) bs)
  pub part : (x : Wall) (m : ℕ) (r : Pulses) (bs : List ℕ) → t x m r (take (due_size x) bs) ≡ t x m r bs
  pub start : (p : Place) (m : ℕ) (us vs : Pulses) (bs : List ℕ) → from (Start p) m us bs ≡ from (Start p) m vs bs
  pub over : (m : ℕ) (r : Pulses) (bs : List ℕ) → from Over m r bs ≡ []

module _ (a : Asked) (rows : List ℕ) where
  abbrev told : Step Telling
  told = told_of a rows

  abbrev step : Kind ℕ
  step = step_for a rows

  -- a step leads on: it stands, and a step that was due leaves fewer to come
  pub ahead : (x : Wall) (m : ℕ) (r : Pulses) (bs : List ℕ) → Stands x → (due_of x ≡ 0 → ⊥) → Ahead (step x m r bs).wall (steps_left x)
  unfolding step_for Stands steps_left
  ahead x m r bs i some =
      let on = step_ahead x r bs i some in
      ⊎_elim
      (λ e. subst (λ (y : Wall). Ahead y (steps_left x)) (sym e) on)
      (λ e. subst (λ (y : Wall). Ahead y (steps_left x)) (sym e) (record { stands = tt; less = omega (arith, on.less) }))
      (onward a rows x m r bs)

  pub stands : (x : Wall) (m : ℕ) (r : Pulses) (bs : List ℕ) → Stands x → Stands (step x m r bs).wall
  unfolding step_for Stands
  stands x m r bs i = ⊎_elim (λ e. subst Stands (sym e) (step_stands x r bs i)) (λ e. subst Stands (sym e) tt) (onward a rows x m r bs)

  -- the row that a step leaves fits its place in a buffer
  pub fits : (x : Wall) (m : ℕ) (lent : Pulses) (held : List ℕ) → Stands x → ((brings step x m lent held).wall ≡ Over → ⊥) →
      cut (width_of x) (brings step x m lent held).row ≡ (brings step x m lent held).row
  unfolding step_for
  fits x m lent held i more =
      row_fits x lent (take (due_of x) held) i (λ e. more (⊎_elim (λ w. w ∙ e) (λ w. w) (onward a rows x m (cut (width_of x) lent) (take (due_of x) held))))

  module _ (tale : Tale told) where
    -- what is told from the wall that is left is the same of the row in a buffer as of the row that the step left
    row_same : (x : Wall) (m k : ℕ) (r : Pulses) (bs : List ℕ) (us : Pulses) (cs : List ℕ) →
        (((told x m r bs).wall ≡ Over → ⊥) → cut (width_of x) us ≡ (step_of x r bs).row) →
        tale.from (told x m r bs).wall k (cut (width_of (told x m r bs).wall) us) cs ≡ tale.from (told x m r bs).wall k (step_of x r bs).row cs
    row_same x m k r bs us cs h =
        ⊎_elim
        (λ e. rw e (row_kept (λ (y : Wall) (q : Pulses). tale.from y k q cs) (λ p us vs. tale.start p k us vs cs) (λ us vs. tale.over k us cs ∙ sym (tale.over k vs cs)) x r bs us (step_of x r bs).row
        (λ n. h (λ z. n (sym e ∙ z)))))
        (λ e. rw e (tale.over k _ cs ∙ sym (tale.over k _ cs)))
        (onward a rows x m r bs)

    pub one : (x : Wall) (m : ℕ) (ts us : Pulses) (bs : List ℕ) → Stands x →
        (((brings step x m ts bs).wall ≡ Over → ⊥) → cut (width_of x) us ≡ (brings step x m ts bs).row) →
        tale.from x m (cut (width_of x) ts) bs
        ≡ (brings step x m ts bs).text
        ++ tale.from (brings step x m ts bs).wall (brings step x m ts bs).keeps (cut (width_of (brings step x m ts bs).wall) us) (drop (due_of x) bs)
    unfolding step_for
    one x m ts us bs i row =
        let r = cut (width_of x) ts in
        let part = take (due_of x) bs in
        let t = told x m r part in
        let due = due_right x i in
        let same : told x m r bs ≡ t = sym (tale.part x m r bs) ∙ ap (λ (n : ℕ). told x m r (take n bs)) (sym due) in
        let left : step_of x r bs ≡ step_of x r part = sym (part_enough x r bs) ∙ ap (λ (n : ℕ). step_of x r (take n bs)) (sym due) in
        tale.goes x m r bs i
        ∙ ap (λ (u : Telling). u.text ++ tale.from u.wall u.kept (step_of x r bs).row (drop (due_size x) bs)) same
        ∙ ap (λ (o : Stepped). t.text ++ tale.from t.wall t.kept o.row (drop (due_size x) bs)) left
        ∙ ap (λ (n : ℕ). t.text ++ tale.from t.wall t.kept (step_of x r part).row (drop n bs)) (sym due)
        ∙ ap (λ (l : List ℕ). t.text ++ l) (sym (row_same x m t.kept r part us (drop (due_of x) bs) row))
