-- What a chain of turns has told is a beginning of the whole, and all of it once the wall is over. Assumes nothing.
use mathlib.Core.Path.{◌≡◌, refl, sym, ◌∙◌, ap}
use mathlib.Core.Bool.{Bool, true, false, true≢false}
use mathlib.Core.List.{List, [], ◌++◌, append-nil, append_assoc}
use lib.Dec.{ltb}
use Prim.Native.Nat.{ℕ}
use lib.ListN.{length, take, drop}
use lib.Seq.{take_at}
use Rattle.row.specs.Row.{Pulses, pulses, cut}
use Rattle.stages.specs.Fit.{due_of, width_of}
use Rattle.stages.specs.declared.Wall.{Wall}
use Rattle.stages.specs.declared.Wall.TheVariants.{New, Over}
use Rattle.file.specs.Stands.{Stands}
use Rattle.stream.specs.Run.{Kind, brings, Turns, begins, reads, ends, steps}
use Rattle.stream.specs.Promises.{RunRight}
use Rattle.stream.proofs.Laws.Held.{held_part}

-- `from` is what is told from a wall on; `one` says that a step tells its part of it, and leaves the rest to be told from its wall on
module _ {K : Type 0} (step : Kind K) (first : K) (from : Wall → K → (row : Pulses) → (rest : List ℕ) → List ℕ)
    (stands : (x : Wall) (k : K) (ts : Pulses) (part : List ℕ) → Stands x → Stands (step x k ts part).wall)
    (one : (x : Wall) (k : K) (ts us : Pulses) (bs : List ℕ) → Stands x →
    (((brings step x k ts bs).wall ≡ Over → ⊥) → cut (width_of x) us ≡ (brings step x k ts bs).row) →
    from x k (cut (width_of x) ts) bs
    ≡ (brings step x k ts bs).text
    ++ from (brings step x k ts bs).wall (brings step x k ts bs).keeps (cut (width_of (brings step x k ts bs).wall) us) (drop (due_of x) bs)) where
  reached_stands : {ended : Bool} {x : Wall} {k : K} {lent : Pulses} {held delivered text : List ℕ} → Turns step first ended x k lent held delivered text → Stands x
  unfolding Stands
  reached_stands begins = tt
  reached_stands (reads piece short r) = reached_stands r
  reached_stands (ends r) = reached_stands r
  reached_stands (steps {x = x} {k} after short row r) = stands x k _ _ (reached_stands r)

  told : {ended : Bool} {x : Wall} {k : K} {lent : Pulses} {held delivered text : List ℕ} → Turns step first ended x k lent held delivered text →
      (rest : List ℕ) → (ended ≡ true → rest ≡ []) → from New first (pulses [] []) (delivered ++ rest) ≡ text ++ from x k (cut (width_of x) lent) (held ++ rest)
  unfolding width_of
  told begins rest none = refl
  told (reads {x} {k} {lent} {held} {delivered} {text} piece short r) rest none =
      ap (from New first (pulses [] [])) (append_assoc delivered piece rest)
      ∙ told r (piece ++ rest) (λ e. absurd (true≢false (sym e)))
      ∙ ap (λ (l : List ℕ). text ++ from x k (cut (width_of x) lent) l) (sym (append_assoc held piece rest))
  told (ends r) rest none = told r rest (λ e. absurd (true≢false (sym e)))
  told (steps {x = x} {k} {lent} {held} {delivered} {text} after short row r) rest none =
      let part = held_part (due_of x) held rest (ltb (length held) (due_of x)) refl (λ l. none (short l)) in
      let b = brings step x k lent held in
      let same : brings step x k lent (held ++ rest) ≡ b = ap (step x k (cut (width_of x) lent)) part.0 in
      let on = one x k lent after (held ++ rest) (reached_stands r) (rw same row) in
      told r rest none
      ∙ ap (λ (l : List ℕ). text ++ l) (rw (same, part.1) at on)
      ∙ sym (append_assoc text b.text (from b.wall b.keeps (cut (width_of b.wall) after) (drop (due_of x) held ++ rest)))

  pub whole_right : ((k : K) (row : Pulses) (rest : List ℕ) → from Over k row rest ≡ []) → RunRight step first (from New first (pulses [] []))
  unfolding RunRight
  whole_right over r k lent output e rest none =
      let h = e.ran.handed in
      let s = r.state in
      let all = told e.ran.turns rest none in (
        λ done.
            let at = e.done done in
            let clear : take s.text output ≡ [] = rw at.1 refl in
            sym (rw (clear, at.0, over, append-nil, append-nil) at all),
        rw (all, append_assoc) (take_at h _ (length h) refl),
      )
