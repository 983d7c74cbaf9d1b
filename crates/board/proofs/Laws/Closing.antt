-- Many closes at once are as many one by one. Assumes nothing.
use mathlib.Core.Path.{◌≡◌, refl, sym, ◌∙◌, ap}
use mathlib.Core.Bool.{Bool, true, false, cond, true≢false}
use Prim.Native.Nat.{ℕ, zero, suc, ◌+◌, ◌-◌, ◌≤◌, ◌<◌}
use native.Mathlib.Omega.{arith}
use borrow.Author.Tests.{leb-true, leb-false, le-leb, lt-leb, eq-eqb, ne_eqb}
use Rattle.std.specs.Prelude.{Option, Some, None}
use Rattle.settings.proofs.Laws.Cases.{by_order, by_equal}
use Rattle.senders.specs.Due.{reaches, due_code}
use Rattle.senders.specs.Senders.{last, unheard}
use Rattle.board.specs.Stand.{stand, closing, is_running}
use Rattle.board.specs.State.{looked_at, reached, runs, at, shut, shut_many}
use Rattle.board.specs.Closing.{end_of, due_by, closings, jumped}
use Rattle.board.specs.declared.Board.{Board}
use Rattle.board.specs.declared.stand.Stage.{Stage}
use Rattle.board.specs.declared.stand.Stage.TheVariants.{Running, Pulsed, Ended}
use Rattle.senders.proofs.Laws.Due.{enough_heard, too_few, Sound}
use Rattle.board.proofs.Laws.State.{runs_is, runs_at, many_over}

-- a claim by a test
by_test : {C : Type 0} (t : Bool) → (t ≡ true → C) → (t ≡ false → C) → C
by_test true f g = f refl
by_test false f g = g refl

-- the three stands after closes: before the end of the run, at a pulse, at the last reading
module _ (d : Option ℕ) (v n : ℕ) where
  pub waits : n ≤ end_of d v - v → closings d v n ≡ stand (v + n) Running
  unfolding closings
  waits i = rw (le-leb n (end_of d v - v) i)

  pub pulses : end_of d v - v < n → due_by d (end_of d v) ≡ true → closings d v n ≡ stand (end_of d v) Pulsed
  unfolding closings
  pulses i k = rw (lt-leb n (end_of d v - v) i, k)

  pub ends : end_of d v - v < n → due_by d (end_of d v) ≡ false → closings d v n ≡ stand (end_of d v) Ended
  unfolding closings
  ends i k = rw (lt-leb n (end_of d v - v) i, k)

-- where the run ends: at once, at the last reading, or where it ends from the next reading
end_now : (d : Option ℕ) (v : ℕ) → v ≤ last → due_by d v ≡ true → end_of d v ≡ v
unfolding end_of due_by
end_now None v i e = absurd (true≢false (sym e))
end_now (Some d) v i e = let k = leb-true d v e in omega arith

end_last : (d : Option ℕ) (v : ℕ) → due_by d v ≡ false → v ≡ last → end_of d v ≡ v
unfolding end_of due_by
end_last None v e l = sym l
end_last (Some d) v e l = let k = leb-false d v e in omega arith

end_later : (d : Option ℕ) (v : ℕ) → v ≤ last → due_by d v ≡ false → (v ≡ last → ⊥) → (end_of d v ≡ end_of d (suc v)) × (v < end_of d v)
unfolding end_of due_by
end_later None v i e l = let k : v < last = omega arith in (refl, k)
end_later (Some d) v i e l = let j = leb-false d v e in let k : v < last = omega arith in (omega arith, omega arith)

module _ (d : Option ℕ) (v : ℕ) (inside : v ≤ last) where
  none : closings d v 0 ≡ stand v Running
  none = waits d v 0 (omega arith) ∙ ap (λ (k : ℕ). stand k Running) (omega arith)

  -- one close more is one close and the rest from there
  more_pulsed : (n : ℕ) → due_by d v ≡ true → closings d v (suc n) ≡ stand v Pulsed
  more_pulsed n i = let e = end_now d v inside i in pulses d v (suc n) (omega arith) (rw e i) ∙ ap (λ (k : ℕ). stand k Pulsed) e

  more_ended : (n : ℕ) → due_by d v ≡ false → v ≡ last → closings d v (suc n) ≡ stand v Ended
  more_ended n i l = let e = end_last d v i l in ends d v (suc n) (omega arith) (rw e i) ∙ ap (λ (k : ℕ). stand k Ended) e

  more_waits : (n : ℕ) → due_by d v ≡ false → (v ≡ last → ⊥) → closings d v (suc n) ≡ closings d (suc v) n
  more_waits n i l =
      let (e, k) = end_later d v inside i l in
      by_order (suc n) (end_of d v - v)
      (λ p. waits d v (suc n) p ∙ ap (λ (m : ℕ). stand m Running) (omega arith) ∙ sym (waits d (suc v) n (omega arith)))
      (λ p. by_test (due_by d (end_of d v))
      (λ q. pulses d v (suc n) p q ∙ ap (λ (m : ℕ). stand m Pulsed) e ∙ sym (pulses d (suc v) n (omega arith) (rw e at q)))
      (λ q. ends d v (suc n) p q ∙ ap (λ (m : ℕ). stand m Ended) e ∙ sym (ends d (suc v) n (omega arith) (rw e at q))))

-- a close looks at the open reading
looks_at : (b : Board) → looked_at b ≡ b.stand.reading
unfolding looked_at
looks_at b = omega arith

-- P + A is reached where the pulse is due by then
reached_code : (b : Board) → reached b ≡ due_by (due_code b.settings b.senders) b.stand.reading
unfolding reached reaches due_code due_by unheard
reached_code b =
    let x = b.senders in
    by_order (unheard x) 1
    (λ k. rw (looks_at b, enough_heard (unheard x) k))
    (λ k. rw (too_few (unheard x) k))

-- one close, by the reading that is due
module _ (b : Board) (v : ℕ) (s : Sound b.settings b.senders) (i : v ≤ last) where
  abbrev due_at : Option ℕ
  due_at = due_code b.settings b.senders

  shut_is : shut (at b (stand v Running)) ≡ at b (closing (due_by due_at v) v)
  unfolding shut at stand
  shut_is = rw (runs_at b v s i, reached_code (at b (stand v Running)))

  shut_pulses : due_by due_at v ≡ true → shut (at b (stand v Running)) ≡ at b (stand v Pulsed)
  unfolding closing
  shut_pulses k = shut_is ∙ rw k

  shut_ends : due_by due_at v ≡ false → v ≡ last → shut (at b (stand v Running)) ≡ at b (stand v Ended)
  unfolding closing
  shut_ends k e = shut_is ∙ rw (k, eq-eqb v last e)

  shut_waits : due_by due_at v ≡ false → (v ≡ last → ⊥) → shut (at b (stand v Running)) ≡ at b (stand (suc v) Running)
  unfolding closing
  shut_waits k e = shut_is ∙ rw (k, ne_eqb v last e)

over_pulsed : (b : Board) (v : ℕ) → runs (at b (stand v Pulsed)) ≡ false
unfolding runs at stand is_running
over_pulsed b v = refl

over_ended : (b : Board) (v : ℕ) → runs (at b (stand v Ended)) ≡ false
unfolding runs at stand is_running
over_ended b v = refl

-- many closes are one close, one by one
many_are : (n : ℕ) (b : Board) (v : ℕ) → Sound b.settings b.senders → v ≤ last →
    shut_many n (at b (stand v Running)) ≡ at b (closings (due_code b.settings b.senders) v n)
unfolding shut_many
many_are zero b v s i = ap (at b) (sym (none (due_code b.settings b.senders) v i))
many_are (suc n) b v s i =
    let d = due_code b.settings b.senders in
    by_test (due_by d v)
    (λ k. ap (shut_many n) (shut_pulses b v s i k) ∙ many_over n _ (over_pulsed b v) ∙ ap (at b) (sym (more_pulsed d v i n k)))
    (λ k. by_equal v last
    (λ e. ap (shut_many n) (shut_ends b v s i k e) ∙ many_over n _ (over_ended b v) ∙ ap (at b) (sym (more_ended d v i n k e)))
    (λ e. ap (shut_many n) (shut_waits b v s i k e) ∙ many_are n b (suc v) s (omega arith) ∙ ap (at b) (sym (more_waits d v i n k e))))

pub jumps : (n : ℕ) (b : Board) → shut_many n b ≡ jumped n b
unfolding jumped at stand
jumps n b = pick (runs b) refl
  where
    pick : (p : Bool) → runs b ≡ p → shut_many n b ≡ cond p (at b (closings (due_code b.settings b.senders) b.stand.reading n)) b
    pick true e =
        let k = runs_is b e in
        ap (λ (x : Stage). shut_many n (at b (stand b.stand.reading x))) k.running ∙ many_are n b b.stand.reading k.sound k.opened
    pick false e = many_over n b e
