-- The proofs of what specs/Promises.antt and specs/Program.antt state. Assumes nothing.
use mathlib.Core.Path.{◌≡◌, refl, ◌∙◌, ap}
use mathlib.Core.Bool.{Bool, true, false, cond}
use mathlib.Core.List.{List, [], ◌∷◌, ◌++◌}
use Prim.Native.Nat.{ℕ, suc, ◌-◌, ◌^◌, ◌≤◌, ◌<◌}
use native.Mathlib.Omega.{arith}
use lib.IntN.{ℤ, pos, negsuc, nat_abs}
use lib.ListN.{length, length-append}
use lib.Seq.{drop-append_seam}
use lib.Signed.{mag, lt_z}
use lib.Ieee.Exact.{HasValue}
use borrow.Author.Tests.{eq-eqb, ne_eqb, le-ltb}
use Rattle.settings.proofs.Laws.Refusal.{within, below, above}
use Rattle.settings.specs.Refusal.{outside}
use Rattle.settings.proofs.Laws.Cases.{by_order, by_zero}
use Rattle.std.specs.Prelude.{Result, Ok, Err, Some, None}
use Rattle.settings.specs.declared.refusal.Refusal.{Refusal}
use Rattle.settings.specs.declared.refusal.Refusal.TheVariants as refusal
use Rattle.settings.specs.declared.refusal.Refusal.TheVariants.{NoGap}
use Rattle.seam.specs.Seam.{half, halves}
use Rattle.seam.proofs.Laws.{half_exact}
use Rattle.waves.specs.Wave.{Wave, answer, refused, gap_of, where_closed}
use Rattle.waves.specs.Reading.{last, half_gap, between, extremes}
use Rattle.waves.specs.State.{fits, blank, started, put, word, handed, no_gap, signed, gaps_at, places, asked}
use Rattle.waves.specs.Ends.{half_gap_at, ends_of, ToldWords, told}
use Rattle.waves.specs.Program.{Call, Calls, done, hand_in, ask, Read, CallsRead, CallsFit}
use Rattle.waves.specs.Promises.{StartNumbers, RefusedKept, LastExact, ExtremesRight, Exact, AnswersExact, SameHalfGap, UnfitKept}
use Rattle.waves.specs.declared.Waves.{Waves}
use Rattle.waves.specs.declared.Started.{Started}
use Rattle.waves.specs.declared.half_gap.HalfGap.{HalfGap}
use Rattle.waves.specs.declared.Extremes.{Extremes}
use Rattle.waves.specs.declared.ends.Ends.{Ends}
use Rattle.waves.proofs.Laws.Ends.{signed_small, signed_least, signed_most, ends_told, told_words}
use Rattle.waves.proofs.Laws.Wave.{closed_halves}
use Rattle.waves.proofs.Laws.Extremes.{largest_right, smallest_right}
use Rattle.waves.proofs.Laws.Window.{Holds, holds_fit, holds_started, holds_more, asked_read}

pub start_numbers : StartNumbers
unfolding StartNumbers started
start_numbers n = (λ i k. rw (within 1 64 n i k), λ i. rw (below 1 64 n i), λ i. rw (above 1 64 n (omega arith) i))

started_waves : (n : ℕ) → 1 ≤ n → n ≤ 64 → (started n).waves ≡ blank n
unfolding started
started_waves n i k = rw (within 1 64 n i k)

read_from : {s t : Waves} {cs : List Call} (n : ℕ) (ws : List Wave) → Holds n ws s → Calls s cs t → Read n ws cs
unfolding Read handed
read_from n ws h done = tt
read_from {s} n ws h (hand_in w r e c) =
    (rw e, read_from n (ws ++ w ∷ []) (rw e (holds_more n ws s w h)) c)
read_from {s} n ws h (ask a e c) = (e ∙ asked_read n ws s h, read_from n ws h c)

fit_from : {s t : Waves} {cs : List Call} (n : ℕ) (ws : List Wave) → Holds n ws s → Calls s cs t → fits t ≡ true
fit_from {s} n ws h done = holds_fit n ws s h
fit_from {s} n ws h (hand_in w r e c) = fit_from n (ws ++ w ∷ []) (rw e (holds_more n ws s w h)) c
fit_from n ws h (ask a e c) = fit_from n ws h c

turned_away : (n : ℕ) → outside 1 64 n ≡ true → (started n).refusal ≡ Some refusal.Waves
unfolding started
turned_away n e = rw e

-- what a start that is accepted leaves
module _ (n : ℕ) (r : Started) (e : r ≡ started n) (z : r.refusal ≡ None) where
  not_outside : outside 1 64 n ≡ true → Holds n [] r.waves
  not_outside o = let never : ⊥ = cc (z, ap (λ (x : Started). x.refusal) e, turned_away n o) in absurd never

  accepted : Holds n [] r.waves
  accepted =
      by_order 1 n
      (λ i. by_order n 64
      (λ k. rw (e, started_waves n i k) (holds_started n i k))
      (λ k. not_outside (above 1 64 n i k)))
      (λ i. not_outside (below 1 64 n (omega arith)))

pub calls_read : CallsRead
unfolding CallsRead
calls_read n r cs t e z c = read_from n [] (accepted n r e z) c

pub calls_fit : CallsFit
unfolding CallsFit
calls_fit n r cs t e z c = fit_from n [] (accepted n r e z) c

pub last_exact : LastExact
unfolding LastExact last
last_exact A xs ys n =
    let before : length (xs ++ ys) - length ys ≡ length xs = simp length-append (omega arith) in
    (rw before (drop-append_seam xs ys), λ i. let none_before : length xs - n ≡ 0 = omega arith in rw none_before)

pub refused_kept : RefusedKept
unfolding RefusedKept handed refused
refused_kept s w e = rw e

unmoved : (b : Bool) (s : Waves) (x : ℕ) → fits s ≡ false → cond b s (put s x) ≡ s
unfolding put
unmoved true s x e = refl
unmoved false s x e = rw e

pub unfit_kept : UnfitKept
unfolding UnfitKept handed asked places gaps_at extremes
unfit_kept s e = (λ w. (unmoved (refused w) s (word w) e, refl), rw e)

pub extremes_right : ExtremesRight
unfolding ExtremesRight
extremes_right z zs = (largest_right z zs, smallest_right z zs)

pub same_half_gap : SameHalfGap
unfolding SameHalfGap gap_of where_closed answer half_gap halves
same_half_gap w h e =
    (rw e, rw (closed_halves w.left w.left_faulty w.right w.right_faulty h e))

half_value : (z : ℤ) → mag z < 2 ^ 52 → HasValue (half z) (lt_z z (pos 0)) (nat_abs z) 2
unfolding half
half_value (pos n) i = rw (le-ltb n 0 (omega arith)) (half_exact false n (omega arith))
half_value (negsuc n) i = half_exact true (suc n) (omega arith)

-- the half gap of a word is exact
exact_at : (x : ℕ) → no_gap x ≡ false → Exact (half_gap_at x)
unfolding half_gap_at half_gap
exact_at x n = record { at_least = signed_least x n; at_most = signed_most x n; value = half_value (signed x) (signed_small x n) }

exact_told : (e : Ends) (a b : HalfGap) → ToldWords e → told e ≡ Ok (between a b) → Exact a × Exact b
unfolding told between ToldWords
exact_told e a b w p = by_zero e.largest
    (λ z. let q : ◌≡◌ {A = Result Extremes Refusal} (Err NoGap) (Ok (between a b)) = rw (eq-eqb e.largest 0 z) at p in let never : ⊥ = cc in absurd never)
    (λ z.
    let q : ◌≡◌ {A = Result Extremes Refusal} (Ok (between (half_gap_at e.largest) (half_gap_at e.smallest))) (Ok (between a b)) = rw (ne_eqb e.largest 0 z) at p in
    let m : between (half_gap_at e.largest) (half_gap_at e.smallest) ≡ between a b = cc in
    let l : half_gap_at e.largest ≡ a = ap (λ (x : Extremes). x.largest) m in
    let s : half_gap_at e.smallest ≡ b = ap (λ (x : Extremes). x.smallest) m in
    (rw l at (exact_at e.largest (w z).0), rw s at (exact_at e.smallest (w z).1)))

pub answers_exact : AnswersExact
unfolding AnswersExact asked
answers_exact s a b e = exact_told (ends_of (places s)) a b (told_words (places s)) (ends_told (places s) ∙ e)
