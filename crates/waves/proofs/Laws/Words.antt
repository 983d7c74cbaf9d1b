-- The words of waves: their gaps, and the last n of them behind n places without a wave. Assumes nothing.
use mathlib.Core.Path.{◌≡◌, refl, sym, ◌∙◌, ap}
use mathlib.Core.Bool.{Bool, true, false, cond}
use mathlib.Core.List.{List, [], ◌∷◌, ◌++◌, map, append_assoc}
use mathlib.Core.Option.{some}
use Prim.Native.Nat.{ℕ, zero, suc, ◌+◌, ◌-◌, ◌≤◌}
use native.Mathlib.Omega.{arith}
use lib.IntN.{pos, ◌-ℤ◌}
use lib.ListN.{length, drop, replicate, length-append, length-map, length-replicate}
use lib.Seq.{drop-append-le, drop-append-add}
use Rattle.std.specs.Prelude.{Result, Ok, Err}
use Rattle.settings.specs.declared.refusal.Refusal.{Refusal}
use Rattle.settings.proofs.Laws.Cases.{by_order}
use Rattle.rule.proofs.Laws.Signed.{minus, sub_same}
use Rattle.seam.specs.Seam.{latest, seam_of}
use Rattle.seam.specs.declared.Seam.{Seam}
use Rattle.seam.specs.declared.Seam.TheVariants as seam
use Rattle.waves.specs.Wave.{Wave, answer, refused, where_closed, gap_of}
use Rattle.waves.specs.Reading.{taken, last, with_some, gaps}
use Rattle.waves.specs.State.{word_of, seam_word, word, signed, gap_at, gaps_at, level}
use Rattle.waves.proofs.Laws.Ends.{is_gap, open_word}
use Rattle.waves.proofs.Laws.Wave.{closed_times}

-- the gap of a wave's word is the wave's
closed_gap : (l r : ℕ) → l ≤ latest → r ≤ latest → gap_at (word_of l r) ≡ some (pos r -ℤ pos l)
unfolding gap_at word_of signed
closed_gap l r i k =
    rw (is_gap (level + r - l) (omega arith) (omega arith), minus (level + r - l) level, minus r l)
    (ap some (sub_same (level + r - l) level r l (omega arith)))

seam_gap : (l r : ℕ) (s : Result Seam Refusal) → ((h : _) → s ≡ Ok (seam.Closed h) → (l ≤ latest) × (r ≤ latest)) →
    gap_at (seam_word s l r) ≡ where_closed s (pos r -ℤ pos l)
unfolding seam_word where_closed
seam_gap l r (Ok (seam.Closed h)) i = let k = i h refl in closed_gap l r k.0 k.1
seam_gap l r (Ok (seam.Open o)) i = unfold gap_at in rw open_word
seam_gap l r (Err why) i = unfold gap_at in rw open_word

word_gap : (w : Wave) → gap_at (word w) ≡ gap_of w
unfolding word gap_of answer
word_gap w =
    seam_gap w.left w.right (seam_of w.left w.left_faulty w.right w.right_faulty)
    (λ h e. closed_times w.left w.left_faulty w.right w.right_faulty h e)

words_gaps : (ws : List Wave) → gaps_at (map word ws) ≡ gaps ws
unfolding gaps_at gaps
words_gaps [] = refl
words_gaps (w ∷ ws) = rw (word_gap w, words_gaps ws)

-- what stands for waves that there are not yet gives no number
no_waves : (k n : ℕ) (xs : List ℕ) → gaps_at (drop k (replicate n 0) ++ xs) ≡ gaps_at xs
unfolding gaps_at gap_at with_some
no_waves zero zero xs = refl
no_waves zero (suc n) xs = rw open_word (no_waves zero n xs)
no_waves (suc k) zero xs = refl
no_waves (suc k) (suc n) xs = no_waves k n xs

drop_map : (k : ℕ) (ws : List Wave) → drop k (map word ws) ≡ map word (drop k ws)
drop_map zero ws = refl
drop_map (suc k) [] = refl
drop_map (suc k) (w ∷ ws) = drop_map k ws

-- n places without a wave, and the words of waves
abbrev pub line : (n : ℕ) → List Wave → List ℕ
line n vs = replicate n 0 ++ map word vs

pub line_length : (n : ℕ) (vs : List Wave) → length (line n vs) ≡ n + length vs
line_length n vs = simp (length-append, length-replicate, length-map)

module _ (n : ℕ) (vs : List Wave) where
  blank_length : length (replicate {A = ℕ} n 0) ≡ n
  blank_length = length-replicate {A = ℕ} n 0

  few : length vs ≤ n → drop (length vs) (line n vs) ≡ drop (length vs) (replicate n 0) ++ map word vs
  few i = drop-append-le (length vs) (replicate n 0) (map word vs) (rw blank_length i)

  many : n ≤ length vs → drop (length vs) (line n vs) ≡ map word (drop (length vs - n) vs)
  many i =
      let split : length vs ≡ length (replicate {A = ℕ} n 0) + (length vs - n) = rw blank_length (omega arith) in
      ap (λ (k : ℕ). drop k (line n vs)) split ∙ drop-append-add (replicate n 0) (map word vs) (length vs - n) ∙ drop_map (length vs - n) vs

  -- the last n of these have the gaps of the last n waves
  pub last_gaps : gaps_at (last n (line n vs)) ≡ gaps (last n vs)
  unfolding last
  last_gaps =
      let past : length (line n vs) - n ≡ length vs = rw (line_length n vs) (omega arith) in
      rw past
      (by_order n (length vs)
      (λ i. rw (many i) (words_gaps (drop (length vs - n) vs)))
      (λ i. let all : length vs - n ≡ 0 = omega arith in rw (few (omega arith), all) (no_waves (length vs) n (map word vs) ∙ words_gaps vs)))

-- one wave more
kept : (b : Bool) (v w : Wave) (xs ys : List Wave) → xs ≡ ys ++ (w ∷ []) → cond b xs (v ∷ xs) ≡ cond b ys (v ∷ ys) ++ (w ∷ [])
kept true v w xs ys e = e
kept false v w xs ys e = ap (◌∷◌ v) e

pub taken_more : (ws : List Wave) (w : Wave) → refused w ≡ false → taken (ws ++ w ∷ []) ≡ taken ws ++ (w ∷ [])
unfolding taken
taken_more [] w e = rw e
taken_more (v ∷ ws) w e = kept (refused v) v w (taken (ws ++ w ∷ [])) (taken ws) (taken_more ws w e)

pub taken_same : (ws : List Wave) (w : Wave) → refused w ≡ true → taken (ws ++ w ∷ []) ≡ taken ws
unfolding taken
taken_same [] w e = rw e
taken_same (v ∷ ws) w e = rw (taken_same ws w e)

map_more : (vs : List Wave) (w : Wave) → map word (vs ++ w ∷ []) ≡ map word vs ++ (word w ∷ [])
map_more [] w = refl
map_more (v ∷ vs) w = ap (◌∷◌ (word v)) (map_more vs w)

pub line_more : (n : ℕ) (vs : List Wave) (w : Wave) → line n (vs ++ w ∷ []) ≡ line n vs ++ (word w ∷ [])
line_more n vs w = rw (map_more vs w) (sym (append_assoc (replicate n 0) (map word vs) (word w ∷ [])))
