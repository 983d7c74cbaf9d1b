-- The ways of being neighbours, and the wall seen from its other end. Assumes nothing.
use mathlib.Core.Path.{◌≡◌, sym, ◌∙◌}
use mathlib.Core.Bool.{true, true≢false}
use Prim.Native.Nat.{ℕ, suc, ◌+◌, ◌-◌, ◌<◌}
use native.Mathlib.Omega.{arith}
use Rattle.settings.proofs.Laws.Cases.{by_equal}
use Rattle.columns.specs.Columns.{are_neighbours, Way, stay, hop, HopsWithin}
use Rattle.columns.proofs.Laws.Columns.{next, previous, first_third, third_first, third_last, last_third, strangers}

-- a claim by whether two equalities hold
by_both {ℓ} : {C : Type ℓ} (a b c d : ℕ) → (a ≡ b → c ≡ d → C) → ((a ≡ b → c ≡ d → ⊥) → C) → C
by_both a b c d f g = by_equal a b (λ p. by_equal c d (f p) (λ k. g (λ q r. k r))) (λ k. g (λ q r. k q))

-- a claim by how two columns are neighbours
pub by_neighbours {ℓ} : {C : Type ℓ} (w a b : ℕ) → are_neighbours w a b ≡ true → (suc a ≡ b → C) → (suc b ≡ a → C) → (a ≡ 0 → b ≡ 2 → C) →
    (a ≡ 2 → b ≡ 0 → C) → (a + 3 ≡ w → suc b ≡ w → C) → (suc a ≡ w → b + 3 ≡ w → C) → C
by_neighbours w a b e up down low_up low_down high_up high_down =
    by_equal (suc a) b up
    (λ n1. by_equal (suc b) a down
    (λ n2. by_both a 0 b 2 low_up
    (λ n3. by_both a 2 b 0 low_down
    (λ n4. by_both (a + 3) w (suc b) w high_up
    (λ n5. by_both (suc a) w (b + 3) w high_down
    (λ n6. absurd (true≢false (sym e ∙ strangers w a b (n1, n2, n3, n4, n5, n6)))))))))

-- from the other end
pub mirrored : (w a b : ℕ) → a < w → b < w → are_neighbours w a b ≡ true → are_neighbours w (w - 1 - a) (w - 1 - b) ≡ true
mirrored w a b i j e =
    by_neighbours w a b e
    (λ p. previous w (w - 1 - a) (w - 1 - b) (omega arith))
    (λ p. next w (w - 1 - a) (w - 1 - b) (omega arith))
    (λ p q. last_third w (w - 1 - a) (w - 1 - b) (omega arith) (omega arith))
    (λ p q. third_last w (w - 1 - a) (w - 1 - b) (omega arith) (omega arith))
    (λ p q. third_first w (w - 1 - a) (w - 1 - b) (omega arith) (omega arith))
    (λ p q. first_third w (w - 1 - a) (w - 1 - b) (omega arith) (omega arith))

-- a way stays in the wall
pub inside : {w n a b : ℕ} → a < w → Way w n a b → b < w
inside i stay = i
inside i (hop j e way) = j

pub mirrored_way : {w n a b : ℕ} → a < w → Way w n a b → Way w n (w - 1 - a) (w - 1 - b)
mirrored_way i stay = stay
mirrored_way {w} i (hop {b = b} {c = c} j e way) =
    let in_wall : w - 1 - c < w = omega arith in
    hop in_wall (mirrored w c b j (inside i way) e) (mirrored_way i way)

pub mirrored_within : {w n a b : ℕ} → a < w → HopsWithin w n a b → HopsWithin w n (w - 1 - a) (w - 1 - b)
mirrored_within i r = record { hops = r.hops; few = r.few; way = mirrored_way i r.way }
