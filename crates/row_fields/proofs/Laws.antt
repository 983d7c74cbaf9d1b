-- A row that is worked out from its fields, by the answer of the row operation. Assumes nothing.
use mathlib.Core.Path.{◌≡◌, sym, ◌∙◌, ap}
use Rattle.std.specs.Prelude.{Option, Result, Ok, Err}
use mathlib.Core.List.{List}
use Prim.Native.Nat.{ℕ, ◌+◌, ◌-◌, ◌*◌, ◌/◌, ◌≤◌}
use lib.ListN.{length, take, drop, length-drop}
use lib.Seq.{take_all}
use native.Mathlib.Omega.{arith}
use borrow.Author.Tests.{eq-eqb, ne_eqb}
use Rattle.settings.specs.Refusal.{number, refused, answer, number_in}
use Rattle.settings.specs.declared.Settings.{Settings}
use Rattle.settings.specs.declared.refusal.Refusal.{Refusal}
use Rattle.settings.proofs.Laws.Refusal.{numbered, skip_given, hit_given, answered_number}
use Rattle.settings.proofs.Laws.Cases.{by_equal}
use Rattle.admission.specs.Call.{call}
use Rattle.row.specs.Row.{Pulses, pulses, next_pulses, written, lettered}
use Rattle.row.specs.Promises.{RowAnswered}
use Rattle.columns.specs.Marks.{mark_bytes}
use Rattle.admission.specs.Refusal.{row_cause, row_refusal}
use Rattle.row.proofs.Promises.{row_answered}
use Rattle.fields.specs.Field.{field_cause, body}
use Rattle.contents.specs.Contents.{marks_field, tiles_size, marks_in, tiles_in, drifts_in, phases_in, links_in, call_in}
use Rattle.row_fields.specs.Worked.{Plannable, WorkedOut}
use Rattle.fields.proofs.Laws.Field.{field_there}

-- a part that goes to the end
pub to_the_end : (k : ℕ) (l : List ℕ) → take (length l - k) (drop k l) ≡ drop k l
to_the_end k l = take_all (length l - k) (drop k l) (omega (arith, length-drop k l))

-- the call that is made of the fields, at a width w that is the wall's
module _ (w v : ℕ) (e : w ≡ v) (part : List ℕ) where
  abbrev pub at_tiles : List ℕ
  at_tiles = take (length part - (3 + (w + 7) / 8)) (drop (3 + (w + 7) / 8) part)

  pub tiles_cause : field_cause 4 (30 * w + 16) at_tiles ≡ field_cause 4 (tiles_size v) (drop (marks_field v) part)
  unfolding marks_field mark_bytes
  tiles_cause = rw (to_the_end (3 + (w + 7) / 8) part, e)

  pub call_made : (room letters : ℕ) {marks drifts phases links tiles : List ℕ} → room ≡ v → letters ≡ v → marks ≡ body ((w + 7) / 8) part → tiles ≡ body (30 * w + 16) at_tiles →
      drifts ≡ drifts_in w tiles → phases ≡ phases_in w tiles → links ≡ links_in w tiles → call marks drifts phases links room letters ≡ call_in v part
  unfolding call_in marks_in tiles_in marks_field mark_bytes
  call_made room letters r x m t d q l = rw (d, q, l, t, m, r, x, to_the_end (3 + (w + 7) / 8) part, e)

module _ (s : Settings) (part before : List ℕ) (held : Pulses) (p : Plannable s part (length before) (length held.times) (length held.letters)) where
  -- the marks are there
  pub after_marks : 3 + mark_bytes s.width ≤ length part
  after_marks = field_there 3 (mark_bytes s.width) part p.marks_there

  abbrev tiles : Option Refusal
  tiles = field_cause 4 (tiles_size s.width) (drop (marks_field s.width) part)

  abbrev row : Option Refusal
  row = row_cause s before (call_in s.width part)

  -- the tiles' field is turned away
  pub tiles_away : (r : Result Unit Refusal) → r ≡ answer tiles tt → (refused tiles ≡ 0 → ⊥) → WorkedOut s part before held r held
  tiles_away r e k =
      record {
        answered = e ∙ sym (ap (λ (c : Option Refusal). answer c tt) (hit_given tiles row k));
        wrote = rw (ne_eqb (number_in r) 0 (λ z. k (sym (answered_number tiles tt) ∙ sym (ap number_in e) ∙ z)));
      }

  -- the row operation's answer and row
  pub worked : (times letters : List ℕ) (is_row : times ≡ written s before (call_in s.width part) held.times)
      (is_letters : letters ≡ lettered s before (call_in s.width part) held.letters) (r : Result Unit Refusal) → r ≡ answer row tt →
      refused tiles ≡ 0 → WorkedOut s part before held r (pulses times letters)
  unfolding RowAnswered row_refusal
  worked times letters is_row is_letters r e there =
      let a = row_answered s before (call_in s.width part) held in
      let n = ap number_in e ∙ answered_number row tt in
      record {
        answered = e ∙ sym (ap (λ (c : Option Refusal). answer c tt) (skip_given tiles row there));
        wrote =
            by_equal (number_in r) 0
            (λ z. let b = a.2 (sym n ∙ z) in rw (eq-eqb (number_in r) 0 z, is_row ∙ b.0, is_letters ∙ b.1))
            (λ k. let b = a.1 (λ z. k (n ∙ z)) in rw (ne_eqb (number_in r) 0 k, is_row ∙ b.0, is_letters ∙ b.1));
      }

-- the row afterwards, by the answer
module _ {s : Settings} {part before : List ℕ} {held row : Pulses} {r : Result Unit Refusal} (w : WorkedOut s part before held r row) where
  pub worked_away : {why : Refusal} → r ≡ Err why → row ≡ held
  worked_away {why} e = rw (e, ne_eqb (number why) 0 (numbered why)) at w.wrote

  pub worked_row : {done : Unit} → r ≡ Ok done → row ≡ next_pulses s before (call_in s.width part)
  worked_row e = rw e at w.wrote
