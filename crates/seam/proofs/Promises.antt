-- The proofs of what specs/Promises.antt states. Assumes nothing.
use mathlib.Core.Path.{◌≡◌, refl, ◌∙◌, ap}
use mathlib.Core.Bool.{Bool, true, false}
use mathlib.Core.Logic.{◌⊎◌, inl, inr}
use Prim.Native.Nat.{ℕ, ◌+◌}
use native.Mathlib.Nat.{le_refl}
use native.Mathlib.Omega.{arith}
use lib.IntN.{pos, ◌-ℤ◌}
use lib.Ieee.{binary64, round, to_bits}
use Rattle.settings.proofs.Laws.Cases.{by_order}
use Rattle.rule.proofs.Laws.Signed.{minus, minus_fits, sub_pos, sub_≤}
use Rattle.settings.specs.Refusal.{number_in}
use Rattle.seam.specs.Seam.{latest, half, halves, late, joined, seam_of, halves_of, side_of}
use Rattle.seam.specs.Promises.{HalvesExact, ZeroGapPlus, Bits, PrintedBits, OddBits, GapRange, GapEnds, LatestTime, Over, SeamAnswered, FaultyUnread}
use Rattle.seam.specs.declared.Halves.{Halves}
use Rattle.seam.proofs.Laws.{half_exact, half_sub, half_fits, over_late, within_late, faulty_late, refused_left, refused_right, accepted}

pub halves_exact : HalvesExact
unfolding HalvesExact halves
halves_exact l r i k =
    record {
      midpoint = unfold half in half_exact false (l + r) (omega arith);
      half_gap = rw (minus r l) (half_sub r l (omega arith) (omega arith));
      midpoint_fits = half_fits (pos (l + r));
      half_gap_fits = half_fits (pos r -ℤ pos l);
    }

no_gap : (t : ℕ) → pos t -ℤ pos t ≡ pos 0
no_gap t = minus t t ∙ sub_pos t t (le_refl t) ∙ ap pos (omega arith)

zero_bits : to_bits binary64 (half (pos 0)) ≡ 0
unfolding half to_bits round
zero_bits = refl

pub zero_gap_plus : ZeroGapPlus
unfolding ZeroGapPlus halves
zero_gap_plus t = rw (no_gap t) zero_bits

pub printed_bits : PrintedBits
unfolding PrintedBits Bits halves half to_bits round
printed_bits = ((refl, refl), (refl, refl), (refl, refl))

pub odd_bits : OddBits
unfolding OddBits Bits halves half to_bits round
odd_bits = ((refl, refl), (refl, refl))

pub gap_range : GapRange
unfolding GapRange
gap_range l r i k = (
  minus_fits r l (omega arith) (omega arith),
  rw (minus r l) (sub_≤ 0 latest r l (omega arith)),
  rw (minus r l) (sub_≤ r l latest 0 (omega arith)),
)

pub gap_ends : GapEnds
unfolding GapEnds
gap_ends = (refl, refl)

pub latest_time : LatestTime
unfolding LatestTime
latest_time = refl

late_of : (t : ℕ) (f : Bool) → Over t f → late t f ≡ true
unfolding Over
late_of t f p = rw p.0 (over_late t p.1)

not_late_of : (t : ℕ) (f : Bool) → (Over t f → ⊥) → late t f ≡ false
unfolding Over
not_late_of t true n = faulty_late t
not_late_of t false n = by_order t latest (λ i. within_late t i) (λ i. absurd (n (refl, i)))

module _ (l : ℕ) (lf : Bool) (r : ℕ) (rf : Bool) where
  over : Over l lf ⊎ Over r rf → number_in (seam_of l lf r rf) ≡ 31
  over (inl p) = rw (refused_left l lf r rf (late_of l lf p))
  over (inr p) = rw (refused_right l lf r rf (late_of r rf p))

pub seam_answered : SeamAnswered
unfolding SeamAnswered joined halves_of side_of
seam_answered l lf r rf =
    record {
      over = over l lf r rf;
      not_over = λ m n. rw (accepted l lf r rf (not_late_of l lf m) (not_late_of r rf n));
      closed = λ p q i k. rw (p, q, accepted l false r false (within_late l i) (within_late r k)) (refl, refl);
      open_left = λ p q k. rw (p, q, accepted l true r false (faulty_late l) (within_late r k)) (refl, refl);
      open_right = λ p q i. rw (p, q, accepted l false r true (within_late l i) (faulty_late r)) (refl, refl);
      open_both = λ p q. rw (p, q, accepted l true r true (faulty_late l) (faulty_late r)) (refl, refl);
    }

pub faulty_unread : FaultyUnread
unfolding FaultyUnread seam_of late joined
faulty_unread a b t true = (refl, refl)
faulty_unread a b t false = (refl, refl)
