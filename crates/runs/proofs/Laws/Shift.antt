-- Row 0 and faulty arrivals n later: a pulse of row l is never earlier and at most n + l later. Assumes nothing.
use mathlib.Core.Path.{◌≡◌, sym, ◌∙◌}
use mathlib.Core.Bool.{true, false}
use mathlib.Core.List.{List}
use Prim.Native.Nat.{ℕ, zero, suc, ◌+◌, ◌≤◌, ◌<◌}
use lib.ListN.{length, get_or}
use native.Mathlib.Omega.{arith}
use Rattle.rule.specs.Stamp.{silence, ◌≼◌, in_order, last, after}
use Rattle.settings.specs.declared.Settings.{Settings}
use Rattle.settings.proofs.Laws.Cases.{by_equal}
use Rattle.rule.proofs.Laws.Clock.{moves, reads_mono, reads_step}
use Rattle.columns.specs.Columns.{is_predecessor, link}
use Rattle.admission.specs.Call.{Call}
use Rattle.columns.specs.Marks.{marked}
use Rattle.pulse.specs.Pulse.{stamp}
use Rattle.runs.specs.Run.{call_at, row_at}
use Rattle.runs.specs.Shift.{Later}
use Rattle.columns.proofs.Laws.Lists.{by_test}
use Rattle.admission.proofs.Laws.Accepted.{Accepted, accepted}
use Rattle.pulse.proofs.Laws.Stamps.{correct_heard, faulty_silent, faulty_heard}
use Rattle.runs.proofs.Laws.Pulse.{SameClock, same_clock, other_way, pulse_later, pulse_not_earlier}
use Rattle.runs.proofs.Laws.Run.{Run, written_at}

-- one sender of one tile, its arrival m later at the most
module _ {s : Settings} {ts us : List ℕ} {x y : Call} (r : Accepted s ts x) (r' : Accepted s us y) (c : ℕ) (i : c < s.width)
    (d : SameClock x y c) (n m k : ℕ) (j : k < s.width) (p : is_predecessor s.width c k ≡ true)
    (mark : marked x.marks k ≡ marked y.marks k) (more : n ≤ m) where
  -- no earlier, and at most `moves p m` later
  abbrev pub Shifted : Type 0
  Shifted =
      (stamp s.width ts x c k ≼ stamp s.width us y c k) × (stamp s.width us y c k ≼ after (moves (get_or x.drifts c 0) m) (stamp s.width ts x c k))

  pub silent_shift : marked x.marks k ≡ true → link s.width x.links c k ≡ silence → link s.width y.links c k ≡ silence → Shifted
  unfolding after
  silent_shift t e e' = rw (faulty_silent r c i k t e, faulty_silent r' c i k (sym mark ∙ t) e') (last, last)

  pub faulty_shift : marked x.marks k ≡ true → (link s.width x.links c k ≡ silence → ⊥) → (link s.width y.links c k ≡ silence → ⊥) →
      link s.width y.links c k ≡ link s.width x.links c k + n → Shifted
  unfolding after
  faulty_shift t e e' v =
      let p = get_or x.drifts c 0 in
      let q = get_or x.phases c 0 in
      let a = link s.width x.links c k in
      rw (faulty_heard r c i k t e, faulty_heard r' c i k (sym mark ∙ t) e', ← d.drift, ← d.phase, v)
      (in_order (reads_mono p q {a = a} {b = a + n} (omega arith)), in_order (reads_step p q m a {b = a + n} (omega arith)))

  pub correct_shift : marked x.marks k ≡ false → link s.width y.links c k ≡ link s.width x.links c k →
      get_or ts k 0 ≤ get_or us k 0 → get_or us k 0 ≤ get_or ts k 0 + m → Shifted
  unfolding after
  correct_shift t e a b =
      let p = get_or x.drifts c 0 in
      let q = get_or x.phases c 0 in
      let v = link s.width x.links c k in
      rw (correct_heard r c i k t, correct_heard r' c i k (sym mark ∙ t), ← d.drift, ← d.phase, e) (
        in_order (reads_mono p q {a = get_or ts k 0 + v} {b = get_or us k 0 + v} (omega arith)),
        in_order (reads_step p q m (get_or ts k 0 + v) {b = get_or us k 0 + v} (omega arith)),
      )

module _ {s : Settings} {ts us : List ℕ} {xs ys : List Call} {rs qs : List (List ℕ)} (n : ℕ) (run : Run s ts xs rs) (run' : Run s us ys qs)
    (start : (c : ℕ) → c < s.width → get_or us c 0 ≡ get_or ts c 0 + n) (later : Later s.width n xs ys) where
  first_call : (l : ℕ) → l < length xs → Accepted s (row_at ts rs l) (call_at xs l)
  first_call l i = accepted s (row_at ts rs l) (call_at xs l) (run.goes l i)

  second_call : (l : ℕ) → l < length xs → Accepted s (row_at us qs l) (call_at ys l)
  second_call l i = accepted s (row_at us qs l) (call_at ys l) (run'.goes l (omega (arith, later.as_many)))

  clock_same : (l c : ℕ) → l < length xs → SameClock (call_at xs l) (call_at ys l) c
  clock_same l c i = same_clock (later.drifts l i) (later.phases l i) c

  sender : (l c k : ℕ) → l < length xs → c < s.width → k < s.width → is_predecessor s.width c k ≡ true →
      (get_or (row_at ts rs l) k 0 ≤ get_or (row_at us qs l) k 0) × (get_or (row_at us qs l) k 0 ≤ get_or (row_at ts rs l) k 0 + (n + l)) →
      (stamp s.width (row_at ts rs l) (call_at xs l) c k ≼ stamp s.width (row_at us qs l) (call_at ys l) c k)
      × (stamp s.width (row_at us qs l) (call_at ys l) c k
      ≼ after (moves (get_or (call_at xs l).drifts c 0) (n + l)) (stamp s.width (row_at ts rs l) (call_at xs l) c k))
  sender l c k i j o p close =
      let r = first_call l i in
      let r' = second_call l i in
      let d = clock_same l c i in
      let m = later.marks l k i o in
      by_test (marked (call_at xs l).marks k)
      (λ t. by_equal (link s.width (call_at xs l).links c k) silence
      (λ e. silent_shift r r' c j d n (n + l) k o p m (omega arith) t e (later.silences l c k i j o p t e))
      (λ e. let v = later.arrivals l c k i j o p t e in faulty_shift r r' c j d n (n + l) k o p m (omega arith) t e v.1 v.0))
      (λ t. correct_shift r r' c j d n (n + l) k o p m (omega arith) t (later.delays l c k i j o p t) close.0 close.1)

  pub shifted : (l c : ℕ) → l ≤ length xs → c < s.width →
      (get_or (row_at ts rs l) c 0 ≤ get_or (row_at us qs l) c 0) × (get_or (row_at us qs l) c 0 ≤ get_or (row_at ts rs l) c 0 + (n + l))
  shifted zero c i j = unfold row_at in omega (arith, start c j)
  shifted (suc l) c i j =
      let e : l < length xs = omega arith in
      let d = clock_same l c e in
      rw (written_at run l c e j, written_at run' l c (omega (arith, later.as_many)) j) (
        pulse_not_earlier (second_call l e) (first_call l e) c j (other_way d) (λ k o p. (sender l c k e j o p (shifted l k (omega arith) o)).0),
        omega (arith, pulse_later (first_call l e) (second_call l e) c j d (n + l) (λ k o p. (sender l c k e j o p (shifted l k (omega arith) o)).1)),
      )
