-- The seams of a row as five runs: 0 and 1; 0 and 2; each column from 1 on with the next, up to W - 3 and W - 2; W - 3 and W - 1;
-- W - 2 and W - 1. Assumes nothing.
use mathlib.Core.Path.{◌≡◌, refl, sym, ◌∙◌, ap}
use mathlib.Core.List.{List, [], ◌∷◌, ◌++◌, append_assoc, append-nil}
use mathlib.Core.Logic.{inl, inr}
use Prim.Native.Nat.{ℕ, zero, suc, ◌+◌, ◌-◌, ◌*◌, ◌≤◌, ◌<◌}
use native.Mathlib.Omega.{arith}
use lib.ListN.{length, get_or, length-append}
use Rattle.columns.specs.Marks.{marked}
use Rattle.seam.specs.Seam.{seam_of}
use Rattle.seam.specs.declared.Seam.{Seam}
use Rattle.seam.specs.declared.Seam.TheVariants.{Closed, Open}
use Rattle.settings.specs.declared.refusal.Refusal.{Refusal}
use Rattle.std.specs.Prelude.{Result, Ok, Err}
use Rattle.lines.specs.Line.{space}
use Rattle.lines.specs.Row.{each_below, each_of, right_neighbours, seam_text}
use Rattle.tables.specs.Word.{spaced}
use Rattle.seam_lines.specs.Seam.{seam_after, run_after}
use Rattle.seam_lines.proofs.Laws.Neighbours.{right_none, right_one, right_two, text_none, text_one, text_two}
use Rattle.seam_lines.proofs.Laws.Line.{halves_length, open_length, seam_is}
use Rattle.tables.proofs.Laws.Digits.{spaced_short}

-- one seam more of a run, and how long a run is
module _ (head ms ts : List ℕ) where
  abbrev pub line : (a b : ℕ) → List ℕ
  line a b = seam_after head a b (seam_of (get_or ts a 0) (marked ms a) (get_or ts b 0) (marked ms b))

  pub run_none : (gap from : ℕ) → [] ≡ run_after head ms ts gap from (from - from)
  unfolding run_after each_below
  run_none gap from = let none : from - from ≡ 0 = omega arith in rw none

  pub run_more : (gap from b : ℕ) → from ≤ b → run_after head ms ts gap from (b - from) ++ line (b - gap) b ≡ run_after head ms ts gap from (b + 1 - from)
  unfolding run_after each_below
  run_more gap from b i =
      let one : b + 1 - from ≡ suc (b - from) = omega arith in
      let here : b ≡ from + (b - from) = omega arith in
      rw one
      (ap (λ (c : ℕ). run_after head ms ts gap from (b - from) ++ line (c - gap) c) here)

  module _ (short : length head ≤ 7) where
    line_length : (a b : ℕ) → a ≤ 255 → b ≤ 255 → (s : Result Seam Refusal) → length (seam_after head a b s) ≤ 49
    unfolding seam_after
    line_length a b i j (Ok (Closed h)) =
        simp length-append (omega (arith, short, spaced_short a (omega arith), spaced_short b (omega arith), halves_length h))
    line_length a b i j (Ok (Open side)) =
        simp length-append (omega (arith, short, spaced_short a (omega arith), spaced_short b (omega arith), open_length side))
    line_length a b i j (Err why) = omega arith

    pub run_length : (gap from n : ℕ) → from + n ≤ 256 → length (run_after head ms ts gap from n) ≤ 49 * n
    unfolding run_after each_below
    run_length gap from zero i = omega arith
    run_length gap from (suc n) i =
        let a = from + n - gap in
        let b = from + n in
        simp length-append
        (omega (
          arith,
          run_length gap from n (omega arith),
          line_length a b (omega arith) (omega arith) (seam_of (get_or ts a 0) (marked ms a) (get_or ts b 0) (marked ms b)),
        ))

-- the five runs
module _ (w l : ℕ) (ms ts : List ℕ) (wide : 6 ≤ w) where
  abbrev seam : (a b : ℕ) → List ℕ
  seam a b = seam_text l ms ts a b

  abbrev pub seams_at : ℕ → List ℕ
  seams_at a = each_of (right_neighbours w a) (seam_text l ms ts a)

  abbrev head : List ℕ
  head = 115 ∷ space ∷ spaced l

  abbrev next_to : ℕ → List ℕ
  next_to k = seam (2 + k - 1) (2 + k)

  same : (a b c d : ℕ) → a ≡ c → b ≡ d → seam a b ≡ seam c d
  same a b c d e f = rw (e, f)

  run_is : (gap from n : ℕ) → run_after head ms ts gap from n ≡ each_below n (λ k. seam (from + k - gap) (from + k))
  unfolding run_after each_below seam_text
  run_is gap from zero = refl
  run_is gap from (suc n) =
      let a = from + n - gap in
      let b = from + n in
      rw (run_is gap from n, seam_is l a b (seam_of (get_or ts a 0) (marked ms a) (get_or ts b 0) (marked ms b)))

  first_two : seams_at 0 ≡ seam 0 1 ++ seam 0 2
  first_two = sym (text_two (seam 0) (right_neighbours w 0) 1 2 (right_two w 0 wide (inl refl)))

  one_of : (a : ℕ) → (a ≡ 0 → ⊥) → (a + 3 ≡ w → ⊥) → a + 1 < w → seams_at a ≡ seam a (a + 1)
  one_of a m n i = sym (text_one (seam a) (right_neighbours w a) (a + 1) (right_one w a wide m n i))

  inner : (m : ℕ) → m + 4 ≤ w → each_below (suc m) seams_at ≡ (seam 0 1 ++ seam 0 2) ++ each_below m next_to
  unfolding each_below
  inner zero i = first_two ∙ sym (append-nil (seam 0 1 ++ seam 0 2))
  inner (suc m) i =
      ap (λ (t : List ℕ). t ++ seams_at (suc m)) (inner m (omega arith))
      ∙ ap (λ (t : List ℕ). ((seam 0 1 ++ seam 0 2) ++ each_below m next_to) ++ t)
      (one_of (suc m) (omega arith) (omega arith) (omega arith) ∙ same (suc m) (suc m + 1) (2 + m - 1) (2 + m) (omega arith) (omega arith))
      ∙ append_assoc (seam 0 1 ++ seam 0 2) (each_below m next_to) (next_to m)

  module _ (v : ℕ) (e : w ≡ suc (suc (suc (suc v)))) where
    third_last : seams_at (suc v) ≡ next_to v ++ seam (w - 1 + 0 - 2) (w - 1 + 0)
    third_last =
        sym (text_two (seam (suc v)) (right_neighbours w (suc v)) (suc v + 1) (suc v + 2) (right_two w (suc v) wide (inr (omega arith))))
        ∙ ap (λ (t : List ℕ). t ++ seam (suc v) (suc v + 2)) (same (suc v) (suc v + 1) (2 + v - 1) (2 + v) (omega arith) (omega arith))
        ∙ ap (λ (t : List ℕ). next_to v ++ t) (same (suc v) (suc v + 2) (w - 1 + 0 - 2) (w - 1 + 0) (omega arith) (omega arith))

    second_last : seams_at (suc (suc v)) ≡ seam (w - 1 + 0 - 1) (w - 1 + 0)
    second_last =
        one_of (suc (suc v)) (omega arith) (omega arith) (omega arith)
        ∙ same (suc (suc v)) (suc (suc v) + 1) (w - 1 + 0 - 1) (w - 1 + 0) (omega arith) (omega arith)

    last_none : seams_at (suc (suc (suc v))) ≡ []
    last_none = sym (text_none (seam (suc (suc (suc v)))) (right_neighbours w (suc (suc (suc v)))) (right_none w (suc (suc (suc v))) wide (omega arith)))

    all_at : each_below w seams_at
        ≡ ((((seam 0 1 ++ seam 0 2) ++ each_below v next_to) ++ (next_to v ++ seam (w - 1 + 0 - 2) (w - 1 + 0))) ++ seam (w - 1 + 0 - 1) (w - 1 + 0)) ++ []
    unfolding each_below
    all_at =
        ap (λ (n : ℕ). each_below n seams_at) e
        ∙ ap (λ (t : List ℕ). ((t ++ seams_at (suc v)) ++ seams_at (suc (suc v))) ++ seams_at (suc (suc (suc v)))) (inner v (omega arith))
        ∙ rw (third_last, second_last, last_none)

    five : run_after head ms ts 1 1 1 ++ run_after head ms ts 2 2 1 ++ run_after head ms ts 1 2 (suc v) ++ run_after head ms ts 2 (w - 1) 1 ++ run_after head ms ts 1 (w - 1) 1
        ≡ ((((seam 0 1 ++ seam 0 2) ++ each_below v next_to) ++ (next_to v ++ seam (w - 1 + 0 - 2) (w - 1 + 0))) ++ seam (w - 1 + 0 - 1) (w - 1 + 0)) ++ []
    unfolding each_below
    five =
        rw (run_is 1 1 1, run_is 2 2 1, run_is 1 2 (suc v), run_is 2 (w - 1) 1, run_is 1 (w - 1) 1)
        (simp (append_assoc, append-nil))

  pub five_runs :
      run_after head ms ts 1 1 (2 - 1) ++ run_after head ms ts 2 2 (3 - 2) ++ run_after head ms ts 1 2 (w - 1 - 2) ++ run_after head ms ts 2 (w - 1) (w - (w - 1))
      ++ run_after head ms ts 1 (w - 1) (w - (w - 1))
      ≡ each_below w seams_at
  five_runs =
      let v = w - 4 in
      let e : w ≡ suc (suc (suc (suc (w - 4)))) = omega arith in
      let one : w - (w - 1) ≡ 1 = omega arith in
      let many : w - 1 - 2 ≡ suc (w - 4) = omega arith in
      rw (one, many) (five (w - 4) e ∙ sym (all_at (w - 4) e))
