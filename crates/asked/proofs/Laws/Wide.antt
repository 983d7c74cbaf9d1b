-- The first wide seam from a wall on, step by step. Assumes nothing.
use mathlib.Core.Path.{◌≡◌, refl, sym, ◌∙◌, ap}
use mathlib.Core.Bool.{Bool, true, false, cond}
use mathlib.Core.List.{List, [], ◌∷◌, ◌++◌, append-nil}
use mathlib.Core.Option.{Option, none, some}
use Prim.Native.Nat.{ℕ, zero, suc, ◌+◌, ◌-◌}
use native.Mathlib.Omega.{arith}
use lib.Dec.{eqb, ltb}
use lib.ListN.{length, take, drop}
use Rattle.std.specs.Prelude as prelude
use Rattle.settings.specs.Refusal.{number as refusal_number}
use Rattle.settings.specs.declared.Settings.{Settings}
use Rattle.settings.specs.declared.refusal.Refusal.{Refusal}
use Rattle.settings.specs.declared.refusal.Refusal.TheVariants.{GoesOn}
use Rattle.settings.proofs.Laws.Refusal.{a_number}
use Rattle.row.specs.Row.{Pulses, pulses}
use Rattle.contents.specs.Contents.{row_size, marks_in}
use Rattle.stages.specs.Fit.{place, due_size}
use Rattle.stages.specs.declared.Wall.{Wall}
use Rattle.stages.specs.declared.Wall.TheVariants.{New, Start, Row, End, Over}
use Rattle.steps.specs.Answer.{cause_due, number_due, offset_due, wall_then, row_then, shown_then}
use Rattle.steps.specs.Number.{row_fields_cause}
use Rattle.steps.specs.Shown.{Shown, turned_away, row_shown, no_marks}
use Rattle.steps.specs.Step.{Stepped, stepped, away, after_row, step_of}
use Rattle.steps.proofs.Laws.Taken.{by_cause}
use Rattle.steps.proofs.Laws.Answer.{step_goes, step_away, times_same}
use Rattle.file.specs.File.{or_shown, rows_shown}
use Rattle.file.specs.Stands.{Stands}
use Rattle.file.proofs.Laws.Steps.{part_enough}
use Rattle.lines.specs.Line.{refused_line}
use Rattle.told.specs.Telling.{Telling, says}
use Rattle.found.specs.Found.{Found, refused, found, answer_text}
use Rattle.found.proofs.Laws.First.{or_else, found_append}
use Rattle.found.specs.Finding.{found_then, finding}
use Rattle.found.proofs.Laws.Finding.{told_away, told_on}
use Rattle.asked.specs.Asked.{told_of}
use Rattle.asked.specs.declared.Asked.TheVariants as asked
use Rattle.asked.proofs.Laws.Onward.{Tale}
use Rattle.asked.proofs.Laws.Lines.{from, goes_on}

module _ (n : ℕ) where
  -- the letters of a row that is shown are not looked at
  row_unread : (s : Settings) (l : ℕ) (ms : List ℕ) (r : Pulses) (xs : List Shown) →
      found n (row_shown s l ms r ++ xs) ≡ found n (row_shown s l ms (pulses r.times []) ++ xs)
  unfolding row_shown found
  row_unread s zero ms r xs = refl
  row_unread s (suc l) ms r xs = refl

  either : (b : Bool) (xs ys zs : List Shown) → found n xs ≡ found n ys → found n (cond b xs zs) ≡ found n (cond b ys zs)
  either true xs ys zs e = e
  either false xs ys zs e = refl

  either_cause : (o : prelude.Option Refusal) (at : ℕ) (xs ys : List Shown) → found n xs ≡ found n ys → found n (or_shown o at xs) ≡ found n (or_shown o at ys)
  unfolding or_shown
  either_cause prelude.None at xs ys e = e
  either_cause (prelude.Some why) at xs ys e = refl

  rows_unread : (s : Settings) (k l at : ℕ) (r : Pulses) (bs : List ℕ) → found n (rows_shown s k l at r bs) ≡ found n (rows_shown s k l at (pulses r.times []) bs)
  unfolding rows_shown
  rows_unread s zero l at r bs =
      let ms = no_marks s.width in
      either (eqb (length bs) 0) (row_shown s l ms r) (row_shown s l ms (pulses r.times [])) (turned_away GoesOn at ∷ [])
      (ap (found n) (sym (append-nil (row_shown s l ms r))) ∙ row_unread s l ms r [] ∙ ap (found n) (append-nil (row_shown s l ms (pulses r.times []))))
  rows_unread s (suc k) l at r bs = either_cause (row_fields_cause s r.times bs) _ _ _ (row_unread s l (marks_in s.width bs) r _)

  unread : (x : Wall) (r : Pulses) (bs : List ℕ) → found n (from x r bs) ≡ found n (from x (pulses r.times []) bs)
  unread New r bs = refl
  unread (Start p) r bs = refl
  unread (Row p) r bs = rows_unread p.settings (p.settings.rows - p.row) p.row p.offset r bs
  unread (End p) r bs = rows_unread p.settings zero p.row p.offset r bs
  unread Over r bs = refl

  -- what is told from a wall on: the answer, unless it has been told
  abbrev pub unless_over : Wall → List ℕ → List ℕ
  unless_over New t = t
  unless_over (Start p) t = t
  unless_over (Row p) t = t
  unless_over (End p) t = t
  unless_over Over t = []

  abbrev pub answer_from : Wall → (row : Pulses) → (rest : List ℕ) → List ℕ
  answer_from x r bs = unless_over x (answer_text (found n (from x (pulses r.times []) bs)))

  -- an answer is told at once
  at_once : (x : Wall) (m : ℕ) (a : Found) (y : Wall) (r : Pulses) (bs : List ℕ) →
      answer_text (some a) ≡ (found_then x y m (some a)).text ++ answer_from (found_then x y m (some a)).wall r bs
  unfolding found_then says
  at_once x m a y r bs = sym (append-nil (answer_text (some a)))

  -- after a row comes the next, or the end
  after_row_on : (s : Settings) (l at : ℕ) (t : List ℕ) → unless_over (after_row s l at) t ≡ t
  unfolding after_row
  after_row_on s l at t = go (ltb l s.rows)
    where
      go : (b : Bool) → unless_over (cond b (Row (place s l at)) (End (place s l at))) t ≡ t
      go true = refl
      go false = refl

  -- a step that is taken, by what is found in what it shows
  module _ (m : ℕ) (r : Pulses) (bs : List ℕ) where
    abbrev left : Wall → Pulses
    left x = row_then x r.times bs (pulses r.times [])

    abbrev rest : Wall → List ℕ
    rest x = drop (due_size x) bs

    nothing : (a : Found) → found n (shown_then Over (pulses r.times []) bs) ≡ some a → ⊥
    unfolding shown_then found
    nothing a e = let z : ◌≡◌ {A = ℕ} 0 1 = cc in omega (arith, z)

    on : (x : Wall) (a : Option Found) → found n (shown_then x (pulses r.times []) bs) ≡ a →
        unless_over x (answer_text (or_else a (found n (from (wall_then x bs) (left x) (rest x)))))
        ≡ (found_then x (wall_then x bs) m a).text ++ answer_from (found_then x (wall_then x bs) m a).wall (left x) (rest x)
    unfolding or_else
    on New (some a) e = at_once New m a _ (left New) (rest New)
    on (Start p) (some a) e = at_once (Start p) m a _ (left (Start p)) (rest (Start p))
    on (Row p) (some a) e = at_once (Row p) m a _ (left (Row p)) (rest (Row p))
    on (End p) (some a) e = at_once (End p) m a _ (left (End p)) (rest (End p))
    on Over (some a) e = absurd (nothing a e)
    on New none e = unfold found_then says wall_then in refl
    on (Start p) none e = unfold found_then says wall_then in ap answer_text (unread (wall_then (Start p) bs) (left (Start p)) (rest (Start p)))
    on (Row p) none e =
        unfold found_then says wall_then in
        (ap answer_text (unread (wall_then (Row p) bs) (left (Row p)) (rest (Row p))) ∙ sym (after_row_on p.settings (suc p.row) (p.offset + row_size p.settings.width) _))
    on (End p) none e = unfold found_then says wall_then found in sym (append-nil (answer_text none))
    on Over none e = unfold found_then says wall_then in refl

  -- a step that is turned away ends the file, which was not over
  not_over : (x : Wall) (m : ℕ) (ts bs t : List ℕ) → (number_due x ts bs ≡ 0 → ⊥) → unless_over x t ≡ t
  unfolding number_due cause_due
  not_over New m ts bs t k = refl
  not_over (Start p) m ts bs t k = refl
  not_over (Row p) m ts bs t k = refl
  not_over (End p) m ts bs t k = refl
  not_over Over m ts bs t k = absurd (k refl)

  pub goes : (x : Wall) (m : ℕ) (r : Pulses) (bs : List ℕ) → Stands x →
      answer_from x r bs
      ≡ (finding n x m r.times bs).text ++ answer_from (finding n x m r.times bs).wall (step_of x r bs).row (drop (due_size x) bs)
  goes x m r bs i =
      let ts = r.times in
      let r0 = pulses ts [] in
      let o = step_of x r0 bs in
      let split : found n (from x r0 bs) ≡ or_else (found n o.shows) (found n (from o.next o.row (drop (due_size x) bs))) =
      ap (found n) (goes_on x r0 bs i) ∙ found_append n o.shows (from o.next o.row (drop (due_size x) bs)) in
      let times : o.row.times ≡ (step_of x r bs).row.times = times_same x ts bs [] r.letters in
      let same : (t : Telling) → t.text ++ answer_from t.wall o.row (drop (due_size x) bs) ≡ t.text ++ answer_from t.wall (step_of x r bs).row (drop (due_size x) bs) =
      λ t. ap (λ (l : List ℕ). t.text ++ unless_over t.wall (answer_text (found n (from t.wall (pulses l []) (drop (due_size x) bs))))) times in
      by_cause (cause_due x ts bs)
      (λ none. let e : number_due x ts bs ≡ 0 = unfold number_due in none in
      let go = step_goes r0 bs x e in
      let kept : row_then x ts bs r0 ≡ o.row = sym (ap (λ (u : Stepped). u.row) go ∙ (unfold stepped in refl)) in
      ap (λ (a : Option Found). unless_over x (answer_text a)) (split ∙ rw go (unfold stepped in refl))
      ∙ on m r bs x (found n (shown_then x r0 bs)) refl
      ∙ ap (λ (t : Telling). t.text ++ answer_from t.wall (row_then x ts bs r0) (drop (due_size x) bs)) (sym (told_on n x m ts bs e))
      ∙ ap (λ (q : Pulses). (finding n x m ts bs).text ++ answer_from (finding n x m ts bs).wall q (drop (due_size x) bs)) kept
      ∙ same (finding n x m ts bs))
      (λ why because. let gone = step_away r0 bs x because in
      let k : number_due x ts bs ≡ 0 → ⊥ = unfold number_due in a_number _ why because in
      let number : number_due x ts bs ≡ refusal_number why = unfold number_due in rw because in
      let first : found n (from x r0 bs) ≡ some (refused why (offset_due x bs)) = split ∙ rw gone (unfold away stepped found or_else in refl) in
      ap (λ (a : Option Found). unless_over x (answer_text a)) first
      ∙ not_over x m ts bs _ k
      ∙ rw (told_away n x m ts bs k, number) (unfold says answer_text in sym (append-nil (refused_line (refusal_number why) (offset_due x bs)))))

  -- a step's answer depends on its part alone
  pub part_found : (x : Wall) (m : ℕ) (r : Pulses) (bs : List ℕ) → finding n x m r.times (take (due_size x) bs) ≡ finding n x m r.times bs
  unfolding finding
  part_found x m r bs = ap (λ (o : Stepped). found_then x o.next m (found n o.shows)) (part_enough x (pulses r.times []) bs)

  unfoldable pub wide_tale : (rows : List ℕ) → Tale (told_of (asked.Wide n) rows)
  unfolding told_of
  wide_tale rows =
      record {
        from = λ x m r bs. answer_from x r bs;
        goes = goes;
        part = part_found;
        start = λ p m us vs bs. refl;
        over = λ m r bs. refl;
      }
