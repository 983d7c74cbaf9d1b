-- What makes ready for a step, and what a step leaves, from the contracts of what is called. Assumes nothing.
use mathlib.Core.Path.{◌≡◌, refl, sym, ◌∙◌, ap}
use mathlib.Core.Bool.{Bool, true, false}
use mathlib.Core.List.{List, ◌++◌}
use Rattle.std.specs.Prelude.{Result, Ok}
use Prim.Native.Nat.{ℕ, ◌+◌, ◌-◌, ◌≤◌, ◌<◌, min}
use native.Mathlib.Omega.{arith}
use borrow.Author.Tests.{lt-ltb, le-ltb, ltb-true, ltb-false}
use lib.Dec.{ltb}
use lib.ListN.{length, take, drop, length-take, length-drop, length-append, drop_of_length-le}
use lib.Seq.{take-take, take_all, take-add, drop_at, drop-drop, length-take-le}
use Rattle.columns.specs.Wrote.{Wrote}
use Rattle.stages.specs.Fit.{due_of}
use Rattle.lines.specs.Row.{step_room}
use Rattle.window.specs.Window.{InBuffer, bytes_in, lacking, filled_up}
use Rattle.file.specs.Stands.{Stands}
use Rattle.stream.specs.State.{Between, Starts, to_hand, MadeReady, made_ready}
use Rattle.stream.specs.declared.State.{State}
use Rattle.window.specs.declared.Window.{Window}
use Rattle.window.proofs.Laws.Window.{filled_already}

-- the first state stands between nothing and nothing
pub starts_between : (s : State) (n m : ℕ) → Starts s → Between s n m
unfolding Stands
starts_between s n m b =
    record { stands = rw b.wall tt; within = record { ordered = omega (arith, b.start, b.end); inside = omega (arith, b.end) }; text = omega (arith, b.text) }

module _ (s : State) (before : List ℕ) (n due : ℕ) (due_is : due ≡ due_of s.wall) where
  same_lack : {t : Bool} → lacking s.window due ≡ t → lacking s.window (due_of s.wall) ≡ t
  same_lack e = ap (lacking s.window) (sym due_is) ∙ e

  -- nothing is lacking, and there is room
  pub at_once : Between s (length before) n → lacking s.window due ≡ false → s.text + step_room ≤ n → made_ready s before n (Ok s) before
  unfolding to_hand
  at_once b e i =
      record {
        wall = refl;
        filled = filled_already s.window (due_of s.wall) before b.within (same_lack e);
        idle = λ _. (refl, refl);
        text = rw (same_lack e, le-ltb n (s.text + step_room) i);
        room = i;
      }

  -- the text is to be handed over where something is lacking, or the room is too small
  pub hand_lacking : lacking s.window due ≡ true → to_hand s n ≡ true
  unfolding to_hand
  hand_lacking e = rw (same_lack e)

  pub hand_full : lacking s.window due ≡ false → n < s.text + step_room → to_hand s n ≡ true
  unfolding to_hand
  hand_full e i = rw (same_lack e, lt-ltb n (s.text + step_room) i)

  -- handed over, and then filled
  pub filled_next : {E : Type 0} (f : Result Window E) (w : Window) (after : List ℕ) → f ≡ Ok w → to_hand s n ≡ true → step_room ≤ n →
      (lacking s.window due ≡ false → (f ≡ Ok s.window) × (after ≡ before)) →
      filled_up s.window due before f after →
      made_ready s before n (Ok (record { wall = s.wall; window = w; text = 0 })) after
  filled_next f w after e t i idle up =
      record {
        wall = refl;
        filled = rw due_is at (rw e at up);
        idle = λ k. let q = idle (ap (lacking s.window) due_is ∙ k) in let same : w ≡ s.window = cc in (same, q.1);
        text = rw t;
        room = i;
      }

-- the due part of a part, or what there is of it
take_both : (a b : ℕ) (xs : List ℕ) (t : Bool) → ltb b a ≡ t → take a (take b xs) ≡ take (min a b) xs
take_both a b xs true e =
    let more = ltb-true b a e in
    let less : min a b ≡ b = omega arith in
    let short : length (take b xs) ≤ a = simp length-take (omega arith) in
    rw less (take_all a (take b xs) short)
take_both a b xs false e =
    let less : min a b ≡ a = omega (arith, ltb-false b a e) in
    rw less (take-take a b xs (ltb-false b a e))

-- and what is left of it
drop_both : (a b : ℕ) (xs : List ℕ) (t : Bool) → ltb b a ≡ t → b ≤ length xs → drop a (take b xs) ≡ take (b - min a b) (drop (min a b) xs)
drop_both a b xs true e i =
    let more = ltb-true b a e in
    let less : min a b ≡ b = omega arith in
    let none : b - b ≡ 0 = omega arith in
    let short : length (take b xs) ≤ a = simp length-take (omega arith) in
    rw (less, none) (drop_of_length-le (take b xs) short)
drop_both a b xs false e i =
    let more = ltb-false b a e in
    let less : min a b ≡ a = omega arith in
    let sum : a + (b - a) ≡ b = omega arith in
    let split : take b xs ≡ take a xs ++ take (b - a) (drop a xs) = rw sum at (take-add a (b - a) xs) in
    rw (less, split) (drop_at (take a xs) (take (b - a) (drop a xs)) a (length-take-le a xs (omega arith)))

module _ (w : Window) (due : ℕ) (input : List ℕ) (i : InBuffer w (length input)) where
  abbrev size : ℕ
  size = w.end - w.start

  abbrev stop : ℕ
  stop = w.start + min due size

  pub part_taken : take (stop - w.start) (drop w.start input) ≡ take due (bytes_in w input)
  unfolding bytes_in
  part_taken =
      let count : stop - w.start ≡ min due size = omega arith in
      rw count (sym (take_both due size (drop w.start input) (ltb size due) refl))

  abbrev pub left : Window
  left = record { start = stop; end = w.end; ended = w.ended }

  pub rest_left : bytes_in left input ≡ drop due (bytes_in w input)
  unfolding bytes_in
  rest_left =
      let long : size ≤ length (drop w.start input) = simp length-drop (omega (arith, i.ordered, i.inside)) in
      let count : w.end - stop ≡ size - min due size = omega (arith, i.ordered) in
      rw (count, sym (drop-drop (min due size) w.start input)) (sym (drop_both due size (drop w.start input) (ltb size due) refl long))

  pub left_within : InBuffer left (length input)
  left_within = record { ordered = omega (arith, i.ordered); inside = i.inside }

-- text that is written lies within the buffer
pub wrote_within : (before : List ℕ) (at : ℕ) (text after : List ℕ) (end : ℕ) → at ≤ length before → Wrote before at text after end → end ≤ length after
wrote_within before at text after end i w =
    let long : min end (length after) ≡ min at (length before) + length text = simp (length-take, length-append) at (ap length w.holds) in
    omega (arith, w.goes)

pub ready_between : (s : State) (before : List ℕ) (n : ℕ) (r : State) (after : List ℕ) → Between s (length before) n → MadeReady s before n r after →
    Between r (length after) n
ready_between s before n r after b m =
    record { stands = rw m.wall b.stands; within = m.filled.within; text = omega (arith, m.room) }
