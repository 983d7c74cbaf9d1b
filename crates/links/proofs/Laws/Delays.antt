-- Link values looked at together: by the bits that are gathered of them, and for eight tiles at once; and a bad one among the columns so
-- far. Assumes nothing.
use Rattle.std.proofs.Common.{◌≡◌, ℕ, ◌+◌, ◌-◌, ◌*◌, ◌%◌, ◌^◌, ◌<◌, ◌≤◌, Bool, true, false, List, get_or, sym, ◌∙◌, true≢false, arith}
use lib.Bits.{bit_or}
use Rattle.settings.specs.Refusal.{outside, any_below}
use Rattle.settings.specs.Settings.{settings_refusal}
use Rattle.settings.specs.declared.Settings.{Settings}
use Rattle.settings.proofs.Laws.AnyBelow.{none_below, none_till}
use Rattle.settings.proofs.Laws.Cases.{by_equal}
use Rattle.settings.proofs.Laws.Refusal.{within}
use Rattle.columns.proofs.Laws.Lists.{by_test}
use Rattle.links.specs.Delays.{Delays, EightNeverBad}
use Rattle.std.proofs.lemmas.Nat.{le_or_l, le_or_r}
use Rattle.links.proofs.Laws.Ordinary.{never_bad}

-- 2^63 - 1
abbrev pub top_clear : ℕ
top_clear = 9223372036854775807

-- what is gathered of a value: its distance from the shortest delay, and its sum with the room above the longest
abbrev pub distance : (low v : ℕ) → ℕ
distance low v = (v + (2 ^ 64 - low)) % 2 ^ 64

abbrev pub raised : (high v : ℕ) → ℕ
raised high v = (v + (top_clear - high)) % 2 ^ 64

-- a value is a delay where neither has its top bit set
pub delay_by_bits : (low high v : ℕ) → low ≤ high → high ≤ top_clear → v < 2 ^ 64 →
    distance low v ≤ top_clear → raised high v ≤ top_clear → outside low high v ≡ false
delay_by_bits low high v i j k l m = within low high v (omega arith) (omega arith)

-- so many values are delays where the bits gathered of them have no top bit
abbrev pub Gathered : (low high : ℕ) → (links : List ℕ) → (from n bits : ℕ) → Type 0
Gathered low high ls from n bits = (k : ℕ) → from ≤ k → k < from + n → bits ≤ top_clear → outside low high (get_or ls k 0) ≡ false

pub gathered_more : (low high : ℕ) (ls : List ℕ) (from n bits : ℕ) → let v = get_or ls (from + n) 0 in low ≤ high → high ≤ top_clear → v < 2 ^ 64 →
    Gathered low high ls from n bits → Gathered low high ls from (n + 1) (bit_or bits (bit_or (distance low v) (raised high v)))
gathered_more low high ls from n bits i j small so_far k l m clear =
    let v = get_or ls (from + n) 0 in
    let both = bit_or (distance low v) (raised high v) in
    let of_value : both ≤ top_clear = omega (arith, le_or_r bits both, clear) in
    by_equal k (from + n)
    (λ e. rw e (delay_by_bits low high v i j small
    (omega (arith, le_or_l (distance low v) (raised high v), of_value)) (omega (arith, le_or_r (distance low v) (raised high v), of_value))))
    (λ e. so_far k l (omega arith) (omega (arith, le_or_l bits both, clear)))

-- eight tiles away from the ends
pub eight_never_bad : (s : Settings) → settings_refusal s ≡ 0 → (ls : List ℕ) (c : ℕ) → 3 ≤ c → c + 11 ≤ s.width →
    Delays (s.delay - s.uncertainty) s.delay ls (3 * c + 1) → EightNeverBad s ls c
unfolding Delays EightNeverBad
eight_never_bad s ok ls c i j all k l m =
    never_bad s ok ls k (omega arith) (omega arith)
    (all (3 * k + 1) (omega arith) (omega arith)) (all (3 * k + 1 + 1) (omega arith) (omega arith)) (all (3 * k + 1 + 2) (omega arith) (omega arith))

-- what holds somewhere below a bound does so below a larger one
pub some_on : (f : ℕ → Bool) (n m : ℕ) → n ≤ m → any_below n f ≡ true → any_below m f ≡ true
some_on f n m i e =
    by_test (any_below m f)
    (λ t. t)
    (λ t. absurd (true≢false (sym e ∙ none_till f n (λ k j. none_below f m k (omega arith) t))))
