-- A seam's line and how long its words are, the words as they are written, the halves of a closed seam, which are numbers, and a
-- seam by two codes that are in time. Assumes nothing.
use mathlib.Core.Path.{◌≡◌, refl, sym, ◌∙◌, ap}
use mathlib.Core.Bool.{Bool, true, false, cond, not, ◌||◌}
use mathlib.Core.List.{List, [], ◌∷◌, ◌++◌, append_assoc}
use Prim.Native.Nat.{ℕ, ◌+◌, ◌-◌, ◌≤◌}
use lib.Dec.{T, ltb}
use lib.ListN.{length, length-append}
use lib.Ieee.{Float, nan, inf, fin, binary64, to_bits, is_nan}
use lib.Ieee.Exact.{HasValue}
use native.Mathlib.Omega.{arith}
use Rattle.seam.specs.declared.Seam.{Seam}
use Rattle.seam.specs.declared.Seam.TheVariants.{Closed, Open}
use Rattle.settings.specs.declared.refusal.Refusal.{Refusal}
use Rattle.std.specs.Prelude.{Result, Ok, Err}
use Rattle.settings.specs.declared.refusal.Refusal.TheVariants.{LateSide}
use Rattle.lines.specs.Line.{space, seam_head, seam_line, s_line, line_end, halves_words, open_words, side_word}
use Rattle.lines.specs.Number.{hexadecimal}
use Rattle.tables.specs.Word.{bytes, spaced}
use Rattle.settings.proofs.Laws.Refusal.{neither}
use Rattle.seam.specs.Seam.{latest, halves, late, joined, seam_of}
use Rattle.seam.specs.Promises.{HalvesExact}
use Rattle.seam.specs.declared.Halves.{Halves}
use Rattle.seam.specs.declared.Side.{Side}
use Rattle.seam.specs.declared.Side.TheVariants.{Left, Right, Both}
use Rattle.seam.proofs.Laws.{late_within}
use Rattle.seam.proofs.Promises.{halves_exact}
use Rattle.tile_lines.specs.Tile.{code}
use Rattle.lines.proofs.Laws.Number.{hexadecimal_length}
use Rattle.seam_lines.specs.Seam.{Numbers, seam_after}

pub seam_is : (l a b : ℕ) (s : Result Seam Refusal) → seam_after (115 ∷ space ∷ spaced l) a b s ≡ s_line l a b s
unfolding seam_after s_line seam_line seam_head spaced
seam_is l a b (Ok (Closed h)) = simp append_assoc
seam_is l a b (Ok (Open side)) = simp append_assoc
seam_is l a b (Err why) = refl

pub halves_length : (h : Halves) → length (halves_words h) ≤ 33
unfolding halves_words
halves_length h =
    let m = to_bits binary64 h.midpoint in
    let g = to_bits binary64 h.half_gap in
    simp length-append (omega (arith, hexadecimal_length 16 m, hexadecimal_length 16 g))

pub open_length : (side : Side) → length (open_words side) ≤ 33
unfolding open_words side_word
open_length Left = omega arith
open_length Right = omega arith
open_length Both = omega arith

-- the words as they are written, and the end of the line
pub halves_text : (h : Halves) →
    (hexadecimal 16 (to_bits binary64 h.midpoint) ++ (space ∷ [])) ++ (hexadecimal 16 (to_bits binary64 h.half_gap) ++ (line_end ∷ []))
    ≡ halves_words h ++ (line_end ∷ [])
unfolding halves_words
halves_text h = simp append_assoc

pub open_text : (side : Side) {w : List ℕ} → w ≡ side_word side ++ (line_end ∷ []) → bytes 5 139291095151 ++ w ≡ open_words side ++ (line_end ∷ [])
unfolding open_words bytes
open_text side e = rw e

-- a closed seam's times are not late, so its halves are exact, and numbers
never : {C : Type 0} → ◌≡◌ {A = ℕ} 0 1 → C
never e = let no : ⊥ = omega arith in absurd no

closed_joined : (lf rf : Bool) (g h : Halves) → Closed h ≡ joined lf rf g → (lf ≡ false) × (rf ≡ false) × (h ≡ g)
unfolding joined
closed_joined false false g h e = (refl, refl, cc)
closed_joined true false g h e = never cc
closed_joined false true g h e = never cc
closed_joined true true g h e = never cc

module _ (l : ℕ) (lf : Bool) (r : ℕ) (rf : Bool) (h : Halves) where
  in_time : (t : ℕ) (f : Bool) → f ≡ false → late t f ≡ false → t ≤ latest
  in_time t f e d = late_within t (ap (late t) (sym e) ∙ d)

  closed_halves : Ok (Closed h) ≡ seam_of l lf r rf → (h ≡ halves l r) × (l ≤ latest) × (r ≤ latest)
  unfolding seam_of
  closed_halves e = go (late l lf || late r rf) refl e
    where
      go : (b : Bool) → (late l lf || late r rf) ≡ b → Ok (Closed h) ≡ cond b (Err LateSide) (Ok (joined lf rf (halves l r))) → (h ≡ halves l r) × (l ≤ latest) × (r ≤ latest)
      go true d z = never cc
      go false d z =
          let n = neither (late l lf) (late r rf) d in
          let same : Closed h ≡ joined lf rf (halves l r) = cc in
          let j = closed_joined lf rf (halves l r) h same in
          (j.2, in_time l lf j.0 n.0, in_time r rf j.1 n.1)

  valued : (x : Float) (s : Bool) (n d : ℕ) → HasValue x s n d → T (not (is_nan x))
  unfolding is_nan
  valued nan s n d v = absurd v
  valued (inf t) s n d v = absurd v
  valued (fin t m e) s n d v = tt

  pub closed_numbers : Ok (Closed h) ≡ seam_of l lf r rf → Numbers h
  unfolding HalvesExact
  closed_numbers e =
      let k = closed_halves e in
      let x = halves_exact l r k.1 k.2 in
      rw k.0
      record {
        midpoint = valued (halves l r).midpoint false (l + r) 2 x.midpoint;
        half_gap = valued (halves l r).half_gap (ltb r l) (r - l + (l - r)) 2 x.half_gap;
      }

-- a code that is in time is a correct tile's time
early : (t : ℕ) (f : Bool) {l : ℕ} → l ≡ code f t → l ≤ latest → (f ≡ false) × (l ≡ t)
unfolding code
early t true e i = let never : ⊥ = omega arith in absurd never
early t false e i = (refl, e)

pub by_codes : (tl : ℕ) (fl : Bool) (tr : ℕ) (fr : Bool) {l r : ℕ} → l ≡ code fl tl → r ≡ code fr tr → l ≤ latest → r ≤ latest →
    seam_of l false r false ≡ seam_of tl fl tr fr
by_codes tl fl tr fr d e i j =
    let a = early tl fl d i in
    let b = early tr fr e j in
    rw (a.0, b.0, a.1, b.1)
