-- How late a pulse can be: at most d + A + 3h after the latest correct time before it. Assumes nothing.
use mathlib.Core.Path.{◌≡◌, refl, sym, ◌∙◌, ap}
use mathlib.Core.Bool.{Bool, true, false, true≢false}
use mathlib.Core.List.{List, map}
use mathlib.Core.Logic.{◌⊎◌, inl, inr}
use Prim.Native.Nat.{ℕ, zero, suc, ◌+◌, ◌*◌, ◌≤◌, ◌<◌, zero-le}
use lib.ListN.{get_or}
use native.Mathlib.Omega.{arith}
use Rattle.rule.specs.Clock.{reads}
use Rattle.rule.specs.Stamp.{within}
use Rattle.rule.specs.Pulse.{tile_P, tile_pulse}
use Rattle.rule.specs.Promises.{Envelope}
use Rattle.settings.specs.declared.Settings.{Settings}
use Rattle.rule.proofs.Promises.{envelope}
use Rattle.settings.proofs.Laws.Cases.{by_equal}
use Rattle.rule.proofs.Laws.Clock.{reads_mono, pulse_latest}
use Rattle.settings.proofs.Laws.Settings.{limits}
use Rattle.columns.specs.Columns.{neighbours, is_predecessor, link}
use Rattle.admission.specs.Call.{Call}
use Rattle.columns.specs.Marks.{marked}
use Rattle.pulse.specs.Pulse.{stamp, pulse}
use Rattle.columns.proofs.Laws.Columns.{own}
use Rattle.columns.proofs.Laws.Lists.{by_test}
use Rattle.admission.proofs.Laws.Accepted.{Accepted}
use Rattle.pulse.proofs.Laws.Stamps.{correct_heard, tile_of}
use Rattle.runs.proofs.Laws.Pulse.{Predecessors, one_free}
use Rattle.runs.proofs.Laws.Reach.{others_correct}

-- of the columns from a on, n of them, that f takes: none is faulty, or one is
abbrev NoneFaulty : (ms : List ℕ) → (ℕ → Bool) → (n a : ℕ) → Type 0
NoneFaulty ms f n a = (k : ℕ) → a ≤ k → k < a + n → f k ≡ true → marked ms k ≡ false

record Faulty (ms : List ℕ) (f : ℕ → Bool) (n a : ℕ) : Type 0 where
  k : ℕ
  from : a ≤ k
  to : k < a + n
  taken : f k ≡ true
  faulty : marked ms k ≡ true

find_faulty : (ms : List ℕ) (f : ℕ → Bool) (n a : ℕ) → NoneFaulty ms f n a ⊎ Faulty ms f n a
find_faulty ms f zero a = inl (λ k i j t. let never : ⊥ = omega arith in absurd never)
find_faulty ms f (suc n) a = go (find_faulty ms f n (suc a))
  where
    here : (f a ≡ true → marked ms a ≡ false) → NoneFaulty ms f n (suc a) → NoneFaulty ms f (suc n) a
    here out h k i j t = by_equal a k (λ e. ap (marked ms) (sym e) ∙ out (ap f e ∙ t)) (λ e. h k (omega arith) (omega arith) t)

    go : NoneFaulty ms f n (suc a) ⊎ Faulty ms f n (suc a) → NoneFaulty ms f (suc n) a ⊎ Faulty ms f (suc n) a
    go (inr x) = inr (record { k = x.k; from = omega (arith, x.from); to = omega (arith, x.to); taken = x.taken; faulty = x.faulty })
    go (inl h) =
        by_test (f a)
        (λ y. by_test (marked ms a)
        (λ m. inr (record { k = a; from = omega arith; to = omega arith; taken = y; faulty = m }))
        (λ m. inl (here (λ t. m) h)))
        (λ y. inl (here (λ t. absurd (true≢false (sym t ∙ y))) h))

-- all predecessors of a tile of an accepted row but one are correct
record Free (s : Settings) (x : Call) (c : ℕ) : Type 0 where
  k : ℕ
  in_row : k < s.width
  heard : is_predecessor s.width c k ≡ true
  correct : Predecessors s.width c (λ j. (j ≡ k → ⊥) → marked x.marks j ≡ false)

free_one : {s : Settings} {ts : List ℕ} {x : Call} → Accepted s ts x → (c : ℕ) → c < s.width → Free s x c
free_one {s} {ts} {x} r c i = go (find_faulty x.marks (is_predecessor s.width c) s.width 0)
  where
    go : NoneFaulty x.marks (is_predecessor s.width c) s.width 0 ⊎ Faulty x.marks (is_predecessor s.width c) s.width 0 → Free s x c
    go (inl h) = record { k = c; in_row = i; heard = own s.width c c refl; correct = λ j m t n. h j (omega arith) (omega arith) t }
    go (inr y) =
        let low : y.k < s.width = omega (arith, y.to) in
        record { k = y.k; in_row = low; heard = y.taken; correct = λ j m t n. others_correct r c j y.k i m low t y.taken n y.faulty }

pub pulse_most : {s : Settings} {ts : List ℕ} {x : Call} → Accepted s ts x → (T c : ℕ) →
    ((k : ℕ) → k < s.width → marked x.marks k ≡ false → get_or ts k 0 ≤ T) → c < s.width → pulse s ts x c ≤ T + (s.delay + s.hold + 3 * s.unit)
unfolding pulse tile_pulse Envelope
pulse_most {s} {ts} {x} r T c early i =
    let free = free_one r c i in
    let w = limits s r.settings in
    let p = get_or x.drifts c 0 in
    let q = get_or x.phases c 0 in
    let st = stamp s.width ts x c in
    let E = envelope s 0 (reads p q (T + s.delay)) (st c) (map st (neighbours s.width c)) (tile_of r c i st)
    (one_free w.width.0 i free.k free.in_row free.heard 0 (reads p q (T + s.delay)) st
    (λ j m t n. let ok = free.correct j m t n in
    rw (correct_heard r c i j ok)
    (within zero-le
    (reads_mono p q {a = get_or ts j 0 + link s.width x.links c j} {b = T + s.delay} (omega (arith, early j m ok, r.delay c j i m t ok)))))) in
    omega (
      arith,
      pulse_latest p q (T + s.delay) (s.hold + 3 * s.unit) (tile_P s (st c) (map st (neighbours s.width c)) + s.hold)
          (omega (arith, w.hold, r.in_phase c i)) (omega (arith, E.1)),
    )
