-- What calls of the operation write over a file is the text of the steps over it. Assumes nothing.
use mathlib.Core.Path.{◌≡◌, refl, sym, ◌∙◌, ap}
use mathlib.Core.Bool.{true}
use mathlib.Core.List.{List, [], ◌∷◌, ◌++◌, append_assoc}
use mathlib.Core.Option.{none, some}
use Prim.Native.Nat.{ℕ, zero, suc, ◌+◌, ◌≤◌}
use lib.ListN.{length, take, drop}
use lib.Seq.{drop_at, length-take-le}
use native.Mathlib.Omega.{arith}
use Rattle.columns.proofs.Laws.Lists.{by_test}
use Rattle.row.specs.Row.{Pulses, pulses}
use Rattle.settings.specs.declared.Settings.{Settings}
use Rattle.steps.specs.Shown.{Shown, row_shown}
use Rattle.show.specs.Text.{texts_of, text_of}
use Rattle.std.specs.Prelude.{Option, Some, None}
use Rattle.settings.proofs.Laws.Refusal.{none_of}
use Rattle.steps.specs.Number.{start_cause, start_number, row_fields_cause}
use Rattle.steps.specs.Step.{unless}
use Rattle.file.specs.File.{wall_text}
use Rattle.steps.specs.Step.{stepped, away, row_step, step_of, steps_shown}
use Rattle.stages.specs.Fit.{place, due_size, due_of, wall_fits}
use Rattle.wall.specs.Operation.{fits, went_to, wall_of, end_of, Stepping}
use Rattle.file.specs.Program.{Calls, over, lent, taken}
use Rattle.stages.specs.declared.Place.{Place}
use Rattle.stages.specs.declared.Wall.{Wall}
use Rattle.stages.specs.declared.Wall.TheVariants.{New, Start, Row}
use Rattle.wall.specs.declared.Went.{Went}
use Rattle.wall.proofs.Laws.Fit.{fits_all}
use Rattle.stages.proofs.Laws.{fits_due}
use Rattle.steps.proofs.Laws.Taken.{by_cause, start_goes, start_away}
use Rattle.file.proofs.Laws.Steps.{one_step, nothing_more, steps_right}

pub texts_append : (xs ys : List Shown) → texts_of (xs ++ ys) ≡ texts_of xs ++ texts_of ys
unfolding texts_of
texts_append [] ys = refl
texts_append (x ∷ xs) ys = ap (λ (t : List ℕ). text_of x ++ t) (texts_append xs ys) ∙ sym (append_assoc (text_of x) (texts_of xs) (texts_of ys))

-- the letters of row 0 don't matter
pub any_letters : (n : ℕ) (s : Settings) (at : ℕ) (ts ls ms bs : List ℕ) →
    steps_shown n (Row (place s 0 at)) (pulses ts ls) bs ≡ steps_shown n (Row (place s 0 at)) (pulses ts ms) bs
unfolding step_of row_step unless stepped away row_shown place
any_letters zero s at ts ls ms bs = unfold steps_shown in refl
any_letters (suc n) s at ts ls ms bs =
    let x = Row (place s 0 at) in
    by_cause (row_fields_cause s ts bs)
    (λ e. rw (one_step n x (pulses ts ls) bs, one_step n x (pulses ts ms) bs, none_of (row_fields_cause s ts bs) e))
    (λ why e. rw (
      one_step n x (pulses ts ls) bs,
      one_step n x (pulses ts ms) bs,
      e,
      nothing_more n (pulses ts ls) (drop (due_size x) bs),
      nothing_more n (pulses ts ms) (drop (due_size x) bs),
    ))

-- the row lent for row 0 does not matter
pub any_row : (n : ℕ) (p : Place) (ts us : Pulses) (bs : List ℕ) → steps_shown n (Start p) ts bs ≡ steps_shown n (Start p) us bs
unfolding step_of stepped away start_number
any_row zero p ts us bs = unfold steps_shown in refl
any_row (suc n) p ts us bs =
    let s = p.settings in
    let rest = drop (due_size (Start p)) bs in
    by_cause (start_cause s bs)
    (λ e. rw (one_step n (Start p) ts bs, one_step n (Start p) us bs, start_goes ts bs s p.offset e, start_goes us bs s p.offset e)
    (any_letters n s _ _ ts.letters us.letters rest))
    (λ why e. rw (
      one_step n (Start p) ts bs,
      one_step n (Start p) us bs,
      start_away ts bs s p.offset e,
      start_away us bs s p.offset e,
      nothing_more n ts rest,
      nothing_more n us rest,
    ))

-- a call that went was one that fits, and its text is the step's
module _ (x : Wall) (part : List ℕ) (row : Pulses) (held : List ℕ) (at : ℕ) (answer : Option Went) (next : Wall) (end : ℕ) (row_after : Pulses) (out : List ℕ)
    (d : Stepping x part row held at answer row_after out) (e : wall_of answer ≡ some next) (f : end_of answer ≡ some end) where
  did_fit : fits x row (length held) at ≡ true
  unfolding wall_of
  did_fit =
      by_test (fits x row (length held) at)
      (λ t. t)
      (λ t. let is : answer ≡ None = rw t at d.answered in
      let none_some : none ≡ some next = sym (ap wall_of is) ∙ e in
      let never : ◌≡◌ {A = ℕ} 0 1 = cc in
      absurd (let g : ⊥ = omega arith in g))

  its_answer : answer ≡ Some (went_to (step_of x row part) at)
  its_answer = rw did_fit at d.answered

  its_wall : next ≡ (step_of x row part).next
  unfolding wall_of went_to
  its_wall = let same : some (step_of x row part).next ≡ some next = sym (ap wall_of its_answer) ∙ e in cc

  its_end : end ≡ at + length (texts_of (step_of x row part).shows)
  unfolding end_of went_to
  its_end = let same : some (at + length (texts_of (step_of x row part).shows)) ≡ some end = sym (ap end_of its_answer) ∙ f in cc

  its_row : row_after ≡ (step_of x row part).row
  its_row = rw did_fit at d.row_left

  its_text : drop at (take end out) ≡ texts_of (step_of x row part).shows
  its_text =
      rw (its_end, (d.text did_fit).holds)
      (drop_at (take at held) _ at (length-take-le at held (omega (arith, (fits_all x row (length held) at did_fit).0))))

-- the text of one step and of those after it
step_then : (m : ℕ) (x : Wall) (n : ℕ) (row : Pulses) (rest : List ℕ) → wall_fits x n ≡ true →
    let o = step_of x row (take (due_of x) rest) in
    texts_of (steps_shown (suc m) x row rest) ≡ texts_of o.shows ++ texts_of (steps_shown m o.next o.row (drop (due_of x) rest))
unfolding steps_shown
step_then m x n row rest e = rw (fits_due x n e) (texts_append _ _)

-- so many steps, or more, have this text
record Shows (x : Wall) (row : Pulses) (rest text : List ℕ) : Type 0 where
  pub steps : ℕ
  pub shows : (n : ℕ) → steps ≤ n → texts_of (steps_shown n x row rest) ≡ text

one_more : {x : Wall} {row : Pulses} {rest text : List ℕ} (held : List ℕ) (at : ℕ) (answer : Option Went) (next : Wall) (end : ℕ) (row_after : Pulses) (out : List ℕ) →
    Stepping x (take (due_of x) rest) row held at answer row_after out → wall_of answer ≡ some next → end_of answer ≡ some end →
    Shows next row_after (drop (due_of x) rest) text → Shows x row rest (drop at (take end out) ++ text)
one_more {x} {row} {rest} {text} held at answer next end row_after out d e f k = record { steps = suc k.steps; shows = go }
  where
    part : List ℕ
    part = take (due_of x) rest

    go : (n : ℕ) → suc k.steps ≤ n → texts_of (steps_shown n x row rest) ≡ drop at (take end out) ++ text
    go zero j = let never : ⊥ = omega arith in absurd never
    go (suc m) j =
        let o = step_of x row part in
        let fit = (fits_all x row (length held) at (did_fit x part row held at answer next end row_after out d e f)).2 in
        let wall_same = its_wall x part row held at answer next end row_after out d e f in
        let row_same = its_row x part row held at answer next end row_after out d e f in
        step_then m x (length row.times) row rest fit
        ∙ ap (λ (t : List ℕ). texts_of o.shows ++ t) (rw (← wall_same, ← row_same) (k.shows m (omega arith)))
        ∙ ap (λ (t : List ℕ). t ++ text) (sym (its_text x part row held at answer next end row_after out d e f))

shows : {x : Wall} {row : Pulses} {rest text : List ℕ} → Calls x row rest text → Shows x row rest text
shows (over {row} {rest}) = record { steps = 0; shows = λ n i. rw (nothing_more n row rest) (unfold texts_of in refl) }
shows (lent {p} {row} {rest} held c) =
    let k = shows c in
    record { steps = k.steps; shows = λ n i. rw (any_row n p held row rest) (k.shows n i) }
shows (taken held at answer next end row_after out d e f c) = one_more held at answer next end row_after out d e f (shows c)

pub calls_right : (row : Pulses) (file text : List ℕ) → Calls New row file text → text ≡ wall_text file
unfolding wall_text
calls_right row file text c =
    let k = shows c in
    sym (k.shows (k.steps + 1027) (omega arith)) ∙ ap texts_of (steps_right row file (k.steps + 1027) (omega arith))
