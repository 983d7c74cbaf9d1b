-- The forwarding rule as the code computes it, in constant time: no search over s, no number below zero.
-- `rule_closed` of proofs/Laws/Closed.antt shows it equal to the rule of Forward.antt. Assumes nothing.
use Rattle.std.specs.Prelude.{cond, ◌≡◌, ℕ, ◌+◌, ◌-◌, ◌*◌, ◌/◌, ◌%◌, ◌≤◌, ◌<◌, min, max, ltb, leb}
use Rattle.rule.specs.Stamp.{Stamp, heard, silent, silence}

-- §4.1 how far above the earliest neighbour the middle lies, where the latest is g above it:
-- the largest over s of the smaller of g - 8hs and 8hs
unfoldable pub lift : (h g : ℕ) → ℕ
lift h g = 8 * h * (g / (16 * h)) + (g % (16 * h) - 8 * h)

-- §4.1 the middle of the neighbours: D is own less this and h
unfoldable pub middle : (h least most : ℕ) → ℕ
middle h l m = l + lift h (m - l)

-- §4.3 P with all stamps heard, by where own lies from the middle
unfoldable pub heard_P : (h j own least most : ℕ) → ℕ
heard_P h j o l m =
    let M = middle h l m in
    cond (ltb o (M + h)) (max o (l - 3 * h)) (cond (leb o (M + h + j)) (M + h) (min (m + 3 * h) (o - j)))

-- §4.3 P for any stamps; where one is silent, by §5.2 and §5.3
unfoldable pub closed_P : (h j : ℕ) → (own least most : Stamp) → ℕ
closed_P h j (heard o) (heard l) (heard m) = heard_P h j o l m
closed_P h j silent l (heard m) = m + 3 * h
closed_P h j (heard o) (heard l) silent = max o (l - 3 * h)
closed_P h j (heard o) silent m = o
closed_P h j silent l silent = 0

-- §4.3 what the code asks of its numbers: checked settings, and stamps up to 2^42 of which enough are heard
pub record Forwardable (h j own least most : ℕ) : Type 0 where
  pub unit_least : 0 < h
  pub unit_most : h ≤ 62500
  pub step_most : j ≤ 187500
  pub ordered : least ≤ most
  pub least_heard : least ≤ 4398046511104
  pub own_heard : (own ≡ silence → ⊥) → own ≤ 4398046511104
  pub most_heard : (most ≡ silence → ⊥) → most ≤ 4398046511104
  pub enough : own ≡ silence → most ≤ 4398046511104
