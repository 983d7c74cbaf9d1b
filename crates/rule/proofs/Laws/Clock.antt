-- Clocks: how far a reading moves with its tick and a tick with its reading, rounding included. Assumes nothing.
--
-- K is the clock's rate, 1,000,000 and the drift, so that t * K is one unknown to `omega`.
use mathlib.Core.Path.{◌≡◌}
use Prim.Native.Nat.{ℕ, ◌+◌, ◌-◌, ◌*◌, ◌≤◌, ◌<◌}
use native.Mathlib.Nat.{mul-le-mul_right, lt_of_mul-lt-mul_right}
use native.Mathlib.Omega.{arith}
use Rattle.settings.specs.Rounding.{up}
use Rattle.rule.specs.Clock.{million, reads, first_tick}
use Rattle.settings.proofs.Laws.Rounding.{up_reaches, up_least, up_mono}

-- how far a reading can move when its tick moves by n
unfoldable pub moves : (drift n : ℕ) → ℕ
moves p n = up (n * (million + p)) million

module _ (p q : ℕ) where
  pub reads_mono : {a b : ℕ} → a ≤ b → reads p q a ≤ reads p q b
  unfolding reads
  reads_mono {a} {b} h = omega (arith, mul-le-mul_right (million + p) h)

  -- an arrival that moves by n moves its stamp by at most `moves p n`
  pub reads_step : (n a : ℕ) {b : ℕ} → b ≤ a + n → reads p q b ≤ reads p q a + moves p n
  unfolding reads moves up
  reads_step n a {b} h = omega (arith, mul-le-mul_right (million + p) h)

  pub first_reaches : (v : ℕ) → v * million ≤ first_tick p q v * (million + p) + q
  unfolding first_tick
  first_reaches v = omega (arith, up_reaches (v * million - q) {b = million + p} (omega arith))

  pub first_least : (v : ℕ) → q < v * million → first_tick p q v * (million + p) + q < v * million + (million + p)
  unfolding first_tick
  first_least v h = omega (arith, up_least (v * million - q) {b = million + p} (omega arith))

  pub first_mono : {v w : ℕ} → v ≤ w → first_tick p q v ≤ first_tick p q w
  unfolding first_tick
  first_mono {v} {w} h = up_mono {b = million + p} (omega arith) (omega arith)

  -- a reading that moves by `moves p n` moves its first tick by at most n + 1
  pub first_step : (n v : ℕ) {w : ℕ} → q < w * million → w ≤ v + moves p n → first_tick p q w ≤ first_tick p q v + n + 1
  unfolding moves
  first_step n v {w} hq h =
      let K = million + p in
      let cost : up (n * K) million * million < n * K + million = up_least (n * K) {b = million} (omega arith) in
      let below : first_tick p q w * K < (first_tick p q v + n + 2) * K = omega (arith, first_least w hq, first_reaches v) in
      omega (arith, lt_of_mul-lt-mul_right K below)

  pub moves_add : (n k : ℕ) → moves p n + k ≤ moves p (n + k)
  unfolding moves up
  moves_add n k = omega arith

  -- the tick reads at least v, and no earlier one does
  pub first_reads : (v : ℕ) → v ≤ reads p q (first_tick p q v)
  unfolding reads
  first_reads v = omega (arith, first_reaches v)

  pub before_first : (v t : ℕ) → t < first_tick p q v → reads p q t < v
  unfolding reads first_tick
  before_first v t h =
      omega (arith, mul-le-mul_right (million + p) h, up_least (v * million - q) {b = million + p} (omega arith))

  -- a pulse at a reading at most y after the stamp of an arrival comes at most y ticks after the arrival
  pub pulse_latest : (a y v : ℕ) → q < v * million → v ≤ reads p q a + y → first_tick p q v ≤ a + y
  unfolding reads
  pulse_latest a y v hq h =
      let K = million + p in
      let below : first_tick p q v * K < (a + y + 1) * K = omega (arith, first_least v hq) in
      omega (arith, lt_of_mul-lt-mul_right K below)

  -- a pulse at a reading more than y after that stamp comes more than y - k ticks after it, where y readings take at least y - k ticks
  pub pulse_earliest : (a y k v : ℕ) → y * p ≤ k * (million + p) → reads p q a + y < v → a + y < first_tick p q v + k
  unfolding reads
  pulse_earliest a y k v cost h =
      let K = million + p in
      let below : (a + y) * K < (first_tick p q v + k) * K = omega (arith, first_reaches v) in
      lt_of_mul-lt-mul_right K below

  -- where n ticks are N readings to the millionth, a shift by one is a shift by the other
  pub reads_exact : (n N a : ℕ) → n * (million + p) ≡ N * million → reads p q (a + n) ≡ reads p q a + N
  unfolding reads
  reads_exact n N a e = omega arith

  pub first_exact : (n N v : ℕ) → n * (million + p) ≡ N * million → q < v * million → first_tick p q (v + N) ≡ first_tick p q v + n
  first_exact n N v e hq =
      let K = million + p in
      let up : first_tick p q (v + N) * K < (first_tick p q v + n + 1) * K = omega (arith, first_least (v + N) (omega arith), first_reaches v) in
      let down : (first_tick p q v + n) * K < (first_tick p q (v + N) + 1) * K = omega (arith, first_least v hq, first_reaches (v + N)) in
      omega (arith, lt_of_mul-lt-mul_right K up, lt_of_mul-lt-mul_right K down)

-- drift costs an interval of A readings at most c ticks, c as the settings have it: r × A / (1,000,000 + r), rounded up
pub drift_cost : (p r c y : ℕ) → p ≤ r → r * (c + y) ≤ c * (million + r) → p * (c + y) ≤ c * (million + p)
drift_cost p r c y h e = omega (arith, mul-le-mul_right y h)
