-- The state after waves: its places hold the words of the last n that were not turned away, so the question is answered by the
-- full reading. Assumes nothing.
use mathlib.Core.Path.{◌≡◌, refl, sym, ◌∙◌, ap, subst}
use mathlib.Core.Bool.{Bool, true, false, cond}
use mathlib.Core.List.{List, [], ◌∷◌, ◌++◌, append-nil}
use Prim.Native.Nat.{ℕ, zero, suc, ◌-◌, ◌≤◌, ◌<◌}
use native.Mathlib.Omega.{arith}
use lib.ListN.{length, set, take, drop, replicate, length-replicate, length-set, take-append-drop}
use lib.Seq.{take-suc, take-set-le, take-set-lt, get_or-set_same, get_or-set_other, length-take-le}
use Rattle.settings.proofs.Laws.Cases.{by_equal}
use Rattle.waves.specs.Wave.{Wave, refused}
use Rattle.waves.specs.Reading.{taken, last, reading}
use Rattle.waves.specs.State.{size, next, fits, blank, word, following, put, handed, front, places, asked}
use Rattle.waves.specs.Ends.{ends_of}
use Rattle.waves.specs.declared.Waves.{Waves}
use Rattle.waves.proofs.Laws.State.{fit, after_last, after_inner}
use Rattle.waves.proofs.Laws.Ends.{ends_turn, ends_told}
use Rattle.waves.proofs.Laws.Ring.{turned, turn_set, last_more}
use Rattle.waves.proofs.Laws.Words.{line, line_length, last_gaps, taken_more, taken_same, line_more}

-- a state of n places: n, the place of the next wave, and as many words as a start makes
pub record Ready (n : ℕ) (s : Waves) : Type 0 where
  pub sized : size s ≡ n
  pub inside : next s < n
  pub few : n ≤ 64
  pub whole : length s.words ≡ 66

-- the state after waves: from the next place on it holds the words of the last n
pub record Holds (n : ℕ) (ws : List Wave) (s : Waves) : Type 0 where
  pub ready : Ready n s
  pub words : turned (next s) (take n s.words) ≡ last n (line n (taken ws))

following_below : (i n : ℕ) → i < n → following i n < n
following_below i n k =
    by_equal (suc i) n (λ e. rw (after_last i n e) (omega arith)) (λ e. rw (after_inner i n e) (omega arith))

-- one place more is taken
module _ (n : ℕ) (s : Waves) (x : ℕ) (r : Ready n s) where
  fitting : fits s ≡ true
  fitting = fit s (rw r.sized r.few) (rw r.sized r.inside)

  put_words : (put s x).words ≡ set (set s.words (next s) x) 65 (following (next s) n)
  unfolding put
  put_words = rw (fitting, r.sized)

  put_next : next (put s x) ≡ following (next s) n
  unfolding next
  put_next = rw put_words (get_or-set_same (set s.words (next s) x) 65 (following (next s) n) 0 (rw (length-set s.words (next s) x, r.whole) (omega arith)))

  put_size : size (put s x) ≡ n
  unfolding size next
  put_size =
      let other : 64 ≡ next s → ⊥ = λ e. omega (arith, r.inside, r.few) in
      rw (put_words, get_or-set_other (set s.words (next s) x) 65 64 (following (next s) n) 0 (λ e. omega arith), get_or-set_other s.words (next s) 64 x 0 other)
      r.sized

  put_ready : Ready n (put s x)
  put_ready =
      record {
        sized = put_size;
        inside = rw put_next (following_below (next s) n r.inside);
        few = r.few;
        whole = rw (put_words, length-set (set s.words (next s) x) 65 (following (next s) n), length-set s.words (next s) x) r.whole;
      }

  put_places : take n (put s x).words ≡ set (take n s.words) (next s) x
  put_places =
      rw (put_words, take-set-le n (set s.words (next s) x) 65 (following (next s) n) (omega (arith, r.few)), take-set-lt n s.words (next s) x r.inside)

  put_turned : turned (next (put s x)) (take n (put s x).words) ≡ drop 1 (turned (next s) (take n s.words)) ++ (x ∷ [])
  put_turned =
      let places = take n s.words in
      let many : length places ≡ n = length-take-le n s.words (omega (arith, r.few, r.whole)) in
      rw (put_next, put_places)
      (subst (λ (m : ℕ). turned (following (next s) m) (set places (next s) x) ≡ drop 1 (turned (next s) places) ++ (x ∷ [])) many
      (turn_set places (next s) x (rw many r.inside)))

pub holds_fit : (n : ℕ) (ws : List Wave) (s : Waves) → Holds n ws s → fits s ≡ true
holds_fit n ws s h = fitting n s 0 h.ready

take_replicate : (n m : ℕ) → n ≤ m → take n (replicate {A = ℕ} m 0) ≡ replicate n 0
take_replicate zero m i = refl
take_replicate (suc n) zero i = let never : ⊥ = omega arith in absurd never
take_replicate (suc n) (suc m) i = ap (◌∷◌ 0) (take_replicate n m (omega arith))

pub holds_started : (n : ℕ) → 1 ≤ n → n ≤ 64 → Holds n [] (blank n)
unfolding blank size next turned last taken
holds_started n i k =
    let none_past : length (replicate {A = ℕ} n 0 ++ []) - n ≡ 0 = rw (append-nil (replicate {A = ℕ} n 0), length-replicate {A = ℕ} n 0) (omega arith) in
    record {
      ready = record { sized = refl; inside = i; few = k; whole = refl };
      words = ap (λ (xs : List ℕ). xs ++ []) (take-set-le n (replicate 66 0) 64 n k ∙ take_replicate n 66 (omega arith)) ∙ rw none_past;
    }

module _ (n : ℕ) (ws : List Wave) (s : Waves) (w : Wave) (h : Holds n ws s) where
  holds_put : refused w ≡ false → Holds n (ws ++ w ∷ []) (put s (word w))
  holds_put e =
      record {
        ready = put_ready n s (word w) h.ready;
        words =
            rw (put_turned n s (word w) h.ready, h.words, taken_more ws w e, line_more n (taken ws) w)
            (sym (last_more n (line n (taken ws)) (word w) (omega (arith, h.ready.inside)) (rw (line_length n (taken ws)) (omega arith))));
      }

  holds_same : refused w ≡ true → Holds n (ws ++ w ∷ []) s
  holds_same e = record { ready = h.ready; words = rw (taken_same ws w e) h.words }

  pub holds_more : Holds n (ws ++ w ∷ []) (handed s w).waves
  unfolding handed
  holds_more = go (refused w) refl
    where
      go : (b : Bool) → refused w ≡ b → Holds n (ws ++ w ∷ []) (cond (refused w) s (put s (word w)))
      go false e = rw e (holds_put e)
      go true e = rw e (holds_same e)

front_take : (n : ℕ) (xs : List ℕ) → n ≤ length xs → front n xs ≡ take n xs
unfolding front
front_take zero xs i = refl
front_take (suc n) xs i = rw (take-suc xs n 0 (omega arith), front_take n xs (omega arith))

ends_turned : (i : ℕ) (xs : List ℕ) → ends_of (turned i xs) ≡ ends_of xs
unfolding turned
ends_turned i xs = ends_turn (drop i xs) (take i xs) ∙ ap ends_of (take-append-drop i xs)

pub asked_read : (n : ℕ) (ws : List Wave) (s : Waves) → Holds n ws s → asked s ≡ reading n ws
unfolding asked places reading
asked_read n ws s h =
    let xs = take n s.words in
    let r = h.ready in
    rw (holds_fit n ws s h, r.sized, front_take n s.words (omega (arith, r.few, r.whole)), ← ends_told xs, ← ends_turned (next s) xs, h.words, ends_told (last n (line n (taken ws))), last_gaps n (taken ws))
