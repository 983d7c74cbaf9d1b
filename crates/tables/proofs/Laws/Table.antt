-- What the tables hold, written part by part. Assumes nothing.
use mathlib.Core.Path.{◌≡◌, sym, ◌∙◌, ap}
use mathlib.Core.List.{List, [], ◌++◌, append-nil}
use Prim.Native.Nat.{ℕ, ◌+◌, ◌*◌, ◌≤◌, ◌<◌}
use native.Mathlib.Omega.{arith}
use lib.ListN.{length, take, get_or, length-append, get_or-append}
use lib.Seq.{take_all, take_at, get_or-append-add}
use borrow.Rule.Slice.PartMut.{put_mid}
use Rattle.std.proofs.lemmas.List.{ext_get_or}
use Rattle.columns.specs.Columns.{table_from}
use Rattle.columns.specs.Wrote.{Wrote}
use Rattle.columns.proofs.Laws.Lists.{table_length, table_at}
use Rattle.columns.proofs.Laws.Wrote.{wrote_then, wrote_as, wrote_at}
use Rattle.tables.proofs.Laws.Word.{wrote_part}
use Rattle.tables.specs.Word.{pair, triple, spaced, word_of, Holds, Tables}

-- a part that was written, and more after it
pub holds_part : (f : ℕ → ℕ) (n : ℕ) (more : List ℕ) {a b : List ℕ} {at end : ℕ} → Wrote a at (table_from n 0 f ++ more) b end → at ≤ length a → Holds b at n f
unfolding Holds
holds_part f n more w room k i =
    wrote_at w room k 0 (omega (arith, length-append (table_from n 0 f) more, table_length f n 0))
    ∙ get_or-append (table_from n 0 f) more 0 k (omega (arith, table_length f n 0)) ∙ table_at f n 0 k i ∙ ap f (omega arith)

pub holds_last : (f : ℕ → ℕ) (n : ℕ) {a b : List ℕ} {at end : ℕ} → Wrote a at (table_from n 0 f) b end → at ≤ length a → Holds b at n f
holds_last f n w room = holds_part f n [] (wrote_as w (sym (append-nil (table_from n 0 f)))) room

-- from the first place on
pub holds_first : (t : List ℕ) (n : ℕ) (f : ℕ → ℕ) → Holds t 0 n f → (k : ℕ) → k < n → get_or t k 0 ≡ f k
unfolding Holds
holds_first t n f h k i = let same : k ≡ 0 + k = omega arith in ap (λ (j : ℕ). get_or t j 0) same ∙ h k i

-- of two parts that were written the second
pub holds_second : (f g : ℕ → ℕ) (n m : ℕ) {a b : List ℕ} {at end : ℕ} → Wrote a at (table_from n 0 f ++ table_from m 0 g) b end → at ≤ length a → Holds b (at + n) m g
unfolding Holds
holds_second f g n m {b = b} {at = at} w room k i =
    let place : at + n + k ≡ at + (n + k) = omega arith in
    ap (λ (j : ℕ). get_or b j 0) place
    ∙ wrote_at w room (n + k) 0 (omega (arith, length-append (table_from n 0 f) (table_from m 0 g), table_length f n 0, table_length g m 0))
    ∙ ap (λ (j : ℕ). get_or (table_from n 0 f ++ table_from m 0 g) (j + k) 0) (sym (table_length f n 0))
    ∙ get_or-append-add (table_from n 0 f) (table_from m 0 g) k 0 ∙ table_at g m 0 k i ∙ ap g (omega arith)

-- of a list in two, what the front holds
pub holds_front : (f : ℕ → ℕ) (n : ℕ) (front rest : List ℕ) {t : List ℕ} → t ≡ front ++ rest → n ≤ length front → Holds t 0 n f → Holds front 0 n f
unfolding Holds
holds_front f n front rest is few h k i = sym (get_or-append front rest 0 (0 + k) (omega arith)) ∙ ap (λ (l : List ℕ). get_or l (0 + k) 0) (sym is) ∙ h k i

-- a part that is filled, by its number each place
pub filled : (f : ℕ → ℕ) (n : ℕ) (p : List ℕ) → length p ≡ n → ((k : ℕ) → k < n → get_or p k 0 ≡ f k) → p ≡ table_from n 0 f
filled f n p long each =
    ext_get_or 0 p (table_from n 0 f) (long ∙ sym (table_length f n 0))
    (λ k i. let j : k < n = omega arith in each k j ∙ ap f (omega arith) ∙ sym (table_at f n 0 k j))

-- the same in its place
pub wrote_filled : (f : ℕ → ℕ) (n m at end : ℕ) (t p : List ℕ) → m ≡ n → end ≡ at + n → end ≤ length t → length p ≡ n → ((k : ℕ) → k < n → get_or p k 0 ≡ f k) →
    Wrote t at (table_from n 0 f) (put_mid at m t p) end
wrote_filled f n m at end t p same ends room long each = wrote_as (wrote_part m at end t p (omega arith) (omega arith) room) (filled f n p long each)

-- the parts, one after the other
module _ {t₀ t₁ t₂ t₃ t₄ t₅ t₆ t₇ t₈ : List ℕ} (long : length t₀ ≡ 9616)
    (w₀ : Wrote t₀ 0 (table_from 256 0 (λ k. pair 16 k * 1)) t₁ 256)
    (w₁ : Wrote t₁ 256 (table_from 256 0 (λ k. pair 16 k * 281474976710656)) t₂ 512)
    (w₂ : Wrote t₂ 512 (table_from 100 0 (λ k. pair 10 k * 1)) t₃ 612)
    (w₃ : Wrote t₃ 612 (table_from 100 0 (λ k. pair 10 k * 65536)) t₄ 712)
    (w₄ : Wrote t₄ 712 (table_from 100 0 (λ k. pair 10 k * 4294967296)) t₅ 812)
    (w₅ : Wrote t₅ 812 (table_from 100 0 (λ k. pair 10 k * 281474976710656)) t₆ 912)
    (w₆ : Wrote t₆ 912 (table_from 256 0 (λ k. word_of (spaced k))) t₇ 1168)
    (w₇ : Wrote t₇ 1168 (table_from 256 0 (λ k. length (spaced k))) t₈ 1424) where
  -- the first pairs, of which the triples are made
  pub first_pairs : (length t₈ ≡ 9616) × Holds t₈ 0 256 (λ k. pair 16 k * 1)
  first_pairs =
      let all = wrote_then w₀ (wrote_then w₁ (wrote_then w₂ (wrote_then w₃ (wrote_then w₄ (wrote_then w₅ (wrote_then w₆ w₇)))))) in
      (all.as_long ∙ long, holds_part _ 256 _ all (omega arith))

  -- the triples past them, of two parts of the rest
  module _ (front rest first next : List ℕ) {t : List ℕ} (split : t₈ ≡ front ++ rest) (place : length front ≡ 1424)
      (one : first ≡ table_from 4096 0 triple) (two : next ≡ table_from 4096 0 (λ k. triple k * 16777216)) (whole : t ≡ front ++ (first ++ next)) where
    past : Wrote t₈ 1424 (table_from 4096 0 triple ++ table_from 4096 0 (λ k. triple k * 16777216)) t 9616
    past =
        let all = wrote_then w₀ (wrote_then w₁ (wrote_then w₂ (wrote_then w₃ (wrote_then w₄ (wrote_then w₅ (wrote_then w₆ w₇)))))) in
        let last : first ++ next ≡ table_from 4096 0 triple ++ table_from 4096 0 (λ k. triple k * 16777216) = rw (one, two) in
        let parts = length-append (table_from 4096 0 triple) (table_from 4096 0 (λ k. triple k * 16777216)) in
        let size : length t ≡ 9616 =
        omega (
          arith,
          ap length whole,
          length-append front (first ++ next),
          ap length last,
          parts,
          table_length triple 4096 0,
          table_length (λ k. triple k * 16777216) 4096 0,
        ) in
        record {
          as_long = size ∙ sym (all.as_long ∙ long);
          goes = omega (arith, parts, table_length triple 4096 0, table_length (λ k. triple k * 16777216) 4096 0);
          holds =
              take_all 9616 t (omega arith) ∙ whole
              ∙ ap (λ (l : List ℕ). l ++ (first ++ next)) (sym (ap (λ (l : List ℕ). take 1424 l) split ∙ take_at front rest 1424 place))
              ∙ ap (λ (l : List ℕ). take 1424 t₈ ++ l) last;
        }

    pub all_tables : Tables t
    all_tables =
        let r₈ = past in
        let r₇ = wrote_then w₇ r₈ in
        let r₆ = wrote_then w₆ r₇ in
        let r₅ = wrote_then w₅ r₆ in
        let r₄ = wrote_then w₄ r₅ in
        let r₃ = wrote_then w₃ r₄ in
        let r₂ = wrote_then w₂ r₃ in
        let r₁ = wrote_then w₁ r₂ in
        let size : length t ≡ 9616 = (wrote_then w₀ r₁).as_long ∙ long in
        record {
          size = size;
          last_pairs = holds_part _ 256 _ r₁ (omega (arith, r₁.as_long, size));
          first_digits = holds_part _ 100 _ r₂ (omega (arith, r₂.as_long, size));
          second_digits = holds_part _ 100 _ r₃ (omega (arith, r₃.as_long, size));
          third_digits = holds_part _ 100 _ r₄ (omega (arith, r₄.as_long, size));
          fourth_digits = holds_part _ 100 _ r₅ (omega (arith, r₅.as_long, size));
          columns = holds_part _ 256 _ r₆ (omega (arith, r₆.as_long, size));
          lengths = holds_part _ 256 _ r₇ (omega (arith, r₇.as_long, size));
          first_triples = holds_part _ 4096 _ r₈ (omega (arith, r₈.as_long, size));
          next_triples = holds_second triple _ 4096 4096 r₈ (omega (arith, r₈.as_long, size));
        }
