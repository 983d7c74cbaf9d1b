-- Every file has a run that is done: what is claimed of runs is claimed of something. Assumes nothing.
use mathlib.Core.Path.{◌≡◌, refl}
use mathlib.Core.Bool.{true}
use mathlib.Core.List.{List, [], ◌++◌, append-nil}
use Rattle.std.specs.Prelude.{Ok}
use Prim.Native.Nat.{ℕ, zero, suc, ◌≤◌}
use native.Mathlib.Omega.{arith}
use lib.ListN.{take, drop}
use Rattle.settings.proofs.Laws.Cases.{by_equal}
use Rattle.row.specs.Row.{Pulses, pulses, cut}
use Rattle.stages.specs.Fit.{due_size, due_of, width_of}
use Rattle.stages.specs.declared.Wall.{Wall}
use Rattle.stages.specs.declared.Wall.TheVariants.{New, Over}
use Rattle.file.specs.Stands.{Stands, steps_left}
use Rattle.file.proofs.Laws.Stands.{Ahead, none_due}
use Rattle.stream.specs.Run.{Kind, brings, Turns, begins, reads, ends, steps}
use Rattle.stream.specs.Promises.{DoneWith, AnyFile}

module _ {K : Type 0} (step : Kind K) (first : K)
    (ahead : (x : Wall) (k : K) (ts : Pulses) (part : List ℕ) → Stands x → (due_of x ≡ 0 → ⊥) → Ahead (step x k ts part).wall (steps_left x))
    (fits : (x : Wall) (k : K) (lent : Pulses) (held : List ℕ) → Stands x → ((brings step x k lent held).wall ≡ Over → ⊥) →
    cut (width_of x) (brings step x k lent held).row ≡ (brings step x k lent held).row) where
  -- a run that has come to its end
  at_the_end : (x : Wall) (k : K) (lent : Pulses) (held delivered text : List ℕ) → x ≡ Over → Turns step first true x k lent held delivered text →
      DoneWith step first delivered
  at_the_end x k lent held delivered text over t =
      record {
        outcome = record { ended = Ok tt; state = record { wall = x; window = record { start = 0; end = 0; ended = true }; text = 0 } };
        keeps = k;
        lent = lent;
        output = [];
        ends = record { held = held; ran = record { delivered = delivered; handed = text; turns = rw (append-nil text) t }; done = λ _. (over, refl) };
        done = refl;
        delivered = refl;
      }

  -- once the input has ended the steps go on until the wall is over
  to_the_end : (n : ℕ) (x : Wall) (k : K) (lent : Pulses) (held delivered text : List ℕ) → steps_left x ≤ n → Stands x →
      Turns step first true x k lent held delivered text → DoneWith step first delivered
  to_the_end zero x k lent held delivered text i s t =
      by_equal (due_of x) 0
      (λ none. at_the_end x k lent held delivered text (none_due x s none) t)
      (λ some. let never : ⊥ = omega (arith, (ahead x k lent held s some).less, i) in absurd never)
  to_the_end (suc n) x k lent held delivered text i s t =
      let b = brings step x k lent held in
      by_equal (due_of x) 0
      (λ none. at_the_end x k lent held delivered text (none_due x s none) t)
      (λ some.
      let on = ahead x k (cut (width_of x) lent) (take (due_of x) held) s some in
      to_the_end n b.wall b.keeps b.row (drop (due_of x) held) delivered (text ++ b.text) (omega (arith, on.less, i)) on.stands
      (steps b.row (λ _. refl) (λ more. fits x k lent held s more) t))

  pub any_file : AnyFile step first
  unfolding AnyFile Stands steps_left due_of due_size
  any_file file = to_the_end 1027 New first (pulses [] []) file file [] (omega arith) tt (ends (reads file (omega arith) begins))
