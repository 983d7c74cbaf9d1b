-- A list of events and what follows it: closes and first pulses. Assumes nothing.
use mathlib.Core.Path.{◌≡◌, refl, ◌∙◌, ap}
use mathlib.Core.Bool.{Bool, true, false, cond}
use mathlib.Core.List.{List, [], ◌∷◌, ◌++◌}
use Prim.Native.Nat.{ℕ, suc, ◌+◌}
use lib.Dec.{eqb}
use native.Mathlib.Omega.{arith}
use borrow.Author.Tests.{eq-eqb, ne_eqb}
use Rattle.rule.specs.Stamp.{Stamp, heard, silent, unheard_of, ◌≼◌, in_order, last}
use Rattle.rule.proofs.Laws.Stamp.{By, heard_by, unheard, ≼_refl}
use Rattle.board.specs.Events.{Event, pulse, close}
use Rattle.board_runs.specs.Reading.{closes, first_pulse}

pub closes_++ : (es fs : List Event) → closes (es ++ fs) ≡ closes es + closes fs
unfolding closes
closes_++ [] fs = omega arith
closes_++ (pulse k ∷ es) fs = closes_++ es fs
closes_++ (close ∷ es) fs = omega (arith, closes_++ es fs)

-- the first of two stamps, or the second where the first is silent
unfoldable pub or_else : Stamp → Stamp → Stamp
or_else (heard a) y = heard a
or_else silent y = y

pub not_silent : {a : ℕ} → heard a ≡ silent → ⊥
unfolding unheard_of
not_silent e = let never : ◌≡◌ {A = ℕ} 0 1 = ap unheard_of e in omega arith

-- a sender's first pulse in two lists
pub first_++ : (v k : ℕ) (es fs : List Event) → first_pulse v k (es ++ fs) ≡ or_else (first_pulse v k es) (first_pulse (v + closes es) k fs)
unfolding first_pulse closes or_else
first_++ v k [] fs = let e : v ≡ v + 0 = omega arith in ap (λ (w : ℕ). first_pulse w k fs) e
first_++ v k (pulse j ∷ es) fs = pick (eqb j k) (first_++ v k es fs)
  where
    pick : (b : Bool) → first_pulse v k (es ++ fs) ≡ or_else (first_pulse v k es) (first_pulse (v + closes es) k fs) →
        cond b (heard v) (first_pulse v k (es ++ fs)) ≡ or_else (cond b (heard v) (first_pulse v k es)) (first_pulse (v + closes es) k fs)
    pick true e = unfold or_else in refl
    pick false e = e
first_++ v k (close ∷ es) fs =
    let e : suc v + closes es ≡ v + suc (closes es) = omega arith in
    first_++ (suc v) k es fs ∙ ap (λ (w : ℕ). or_else (first_pulse (suc v) k es) (first_pulse w k fs)) e

-- a first pulse lies from the first reading to the open one
pub record Between (v w : ℕ) (x : Stamp) : Type 0 where
  pub from : heard v ≼ x
  pub by : By w x

pub first_between : (v k : ℕ) (es : List Event) → Between v (v + closes es) (first_pulse v k es)
unfolding first_pulse closes
first_between v k [] = record { from = last; by = unheard }
first_between v k (pulse j ∷ es) = pick (eqb j k) (first_between v k es)
  where
    pick : (b : Bool) → Between v (v + closes es) (first_pulse v k es) → Between v (v + closes es) (cond b (heard v) (first_pulse v k es))
    pick true r = record { from = ≼_refl (heard v); by = heard_by {a = v} (omega arith) }
    pick false r = r
first_between v k (close ∷ es) = widen (first_pulse (suc v) k es) (first_between (suc v) k es)
  where
    widen : (x : Stamp) → Between (suc v) (suc v + closes es) x → Between v (v + suc (closes es)) x
    widen (heard a) r = record { from = earlier r.from; by = within r.by }
      where
        earlier : heard (suc v) ≼ heard a → heard v ≼ heard a
        earlier (in_order i) = in_order {a = v} {b = a} (omega arith)

        within : By (suc v + closes es) (heard a) → By (v + suc (closes es)) (heard a)
        within (heard_by i) = heard_by {a = a} (omega arith)
    widen silent r = record { from = last; by = unheard }

-- a pulse at the end: of a sender that was silent, of one that was heard, of another one
module _ (v k : ℕ) (es : List Event) where
  pub first_new : first_pulse v k es ≡ silent → first_pulse v k (es ++ pulse k ∷ []) ≡ heard (v + closes es)
  unfolding first_pulse or_else
  first_new e = first_++ v k es (pulse k ∷ []) ∙ rw (e, eq-eqb k k refl)

  pub first_kept : {a : ℕ} (fs : List Event) → first_pulse v k es ≡ heard a → first_pulse v k (es ++ fs) ≡ heard a
  unfolding or_else
  first_kept fs e = first_++ v k es fs ∙ rw e

  or_silent : (x : Stamp) → or_else x silent ≡ x
  unfolding or_else
  or_silent (heard a) = refl
  or_silent silent = refl

  pub first_other : (j : ℕ) → (j ≡ k → ⊥) → first_pulse v k (es ++ pulse j ∷ []) ≡ first_pulse v k es
  unfolding first_pulse
  first_other j n = first_++ v k es (pulse j ∷ []) ∙ rw (ne_eqb j k n) (or_silent (first_pulse v k es))

  pub first_closed : first_pulse v k (es ++ close ∷ []) ≡ first_pulse v k es
  unfolding first_pulse
  first_closed = first_++ v k es (close ∷ []) ∙ or_silent (first_pulse v k es)
