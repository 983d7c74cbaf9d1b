-- What is found in one thing that is shown and in those after it. Assumes nothing.
use mathlib.Core.Path.{◌≡◌, refl, ◌∙◌, ap}
use mathlib.Core.List.{List, [], ◌∷◌, ◌++◌}
use mathlib.Core.Option.{Option, none, some}
use Rattle.std.specs.Prelude as prelude
use Rattle.std.specs.Prelude.{Some, None, Result, Ok, Err}
use Rattle.settings.specs.declared.refusal.Refusal.{Refusal}
use Prim.Native.Nat.{ℕ}
use native.Mathlib.Omega.{arith}
use Rattle.row.specs.Row.{Pulses}
use Rattle.steps.specs.Shown.{Shown, lines, turned_away, number_shown}
use Rattle.wide.specs.Wide.{row_first, wide_of}
use Rattle.wide.specs.declared.Wide.{Wide}
use Rattle.found.specs.Found.{Found, wide, refused, in_row, found}
use Rattle.found.specs.Promises.{Quiet, no_more, also, WideFirst, RefusedFirst}

never : ◌≡◌ {A = ℕ} 0 1 → ⊥
never e = omega (arith, e)

-- what comes first in two parts is what comes first in the one, otherwise in the other
unfoldable pub or_else : Option Found → Option Found → Option Found
or_else (some x) y = some x
or_else none y = y

row_or : (l : ℕ) (x : Result (prelude.Option Wide) Refusal) (y z : Option Found) → in_row l x (or_else y z) ≡ or_else (in_row l x y) z
unfolding in_row or_else
row_or l (Ok (Some x)) y z = refl
row_or l (Ok None) y z = refl
row_or l (Err k) y z = refl

pub found_append : (n : ℕ) (xs ys : List Shown) → found n (xs ++ ys) ≡ or_else (found n xs) (found n ys)
unfolding found or_else
found_append n [] ys = refl
found_append n (lines w l ms r ∷ xs) ys = ap (in_row l (row_first n w r.times ms)) (found_append n xs ys) ∙ row_or l (row_first n w r.times ms) (found n xs) (found n ys)
found_append n (turned_away k at ∷ xs) ys = refl

-- the three answers
module _ (n : ℕ) where
  pub record Firsts (xs : List Shown) (x : Option Found) : Type 0 where
    pub wides : (l a b g : ℕ) → x ≡ some (wide l a b g) → WideFirst n xs l a b g
    pub refusals : (k : Refusal) (at : ℕ) → x ≡ some (refused k at) → RefusedFirst n xs k at
    pub nothing : x ≡ none → Quiet n xs

  module _ (w l : ℕ) (ms : List ℕ) (r : Pulses) (xs : List Shown) where
    -- a row without a wide seam
    passed : (x : Option Found) → wide_of (row_first n w r.times ms) ≡ none → Firsts xs x → Firsts (lines w l ms r ∷ xs) x
    passed x e f =
        record {
          wides = λ m a b g q.
              let s = f.wides m a b g q in
              record {
                before = lines w l ms r ∷ s.before;
                width = s.width;
                marks = s.marks;
                row = s.row;
                after = s.after;
                split = ap (λ (ys : List Shown). lines w l ms r ∷ ys) s.split;
                quiet = also e s.quiet;
                is = s.is;
              };
          refusals = λ k at q.
              let s = f.refusals k at q in
              record {
                before = lines w l ms r ∷ s.before;
                after = s.after;
                split = ap (λ (ys : List Shown). lines w l ms r ∷ ys) s.split;
                quiet = also e s.quiet;
              };
          nothing = λ q. also e (f.nothing q);
        }

    in_first : (x : Result (prelude.Option Wide) Refusal) (rest : Option Found) → row_first n w r.times ms ≡ x → Firsts xs rest → Firsts (lines w l ms r ∷ xs) (in_row l x rest)
    unfolding in_row wide_of
    in_first (Ok (Some x)) rest e f =
        record {
          wides = λ m c d h q.
              let row : l ≡ m = cc in
              let left : x.left ≡ c = cc in
              let right : x.right ≡ d = cc in
              let gap : x.half_ticks ≡ h = cc in
              record { before = []; width = w; marks = ms; row = r; after = xs; split = rw row; quiet = no_more; is = rw (e, left, right, gap) };
          refusals = λ k at q. let z : ◌≡◌ {A = ℕ} 0 1 = cc in absurd (never z);
          nothing = λ q. let z : ◌≡◌ {A = ℕ} 0 1 = cc in absurd (never z);
        }
    in_first (Ok None) rest e f = passed rest (rw e) f
    in_first (Err k) rest e f = passed rest (rw e) f

  pub firsts : (xs : List Shown) → Firsts xs (found n xs)
  unfolding found
  firsts [] =
      record {
        wides = λ l a b g q. let z : ◌≡◌ {A = ℕ} 0 1 = cc in absurd (never z);
        refusals = λ k at q. let z : ◌≡◌ {A = ℕ} 0 1 = cc in absurd (never z);
        nothing = λ _. no_more;
      }
  firsts (lines w l ms r ∷ xs) = in_first w l ms r xs (row_first n w r.times ms) (found n xs) refl (firsts xs)
  firsts (turned_away k at ∷ xs) =
      record {
        wides = λ l a b g q. let z : ◌≡◌ {A = ℕ} 0 1 = cc in absurd (never z);
        refusals = λ m place q.
            let why : k ≡ m = cc in
            let offset : at ≡ place = cc in
            record { before = []; after = xs; split = rw (why, offset); quiet = no_more };
        nothing = λ q. let z : ◌≡◌ {A = ℕ} 0 1 = cc in absurd (never z);
      }

  -- where nothing is found there is no refusal
  pub quiet_number : {xs : List Shown} → Quiet n xs → number_shown xs ≡ 0
  unfolding number_shown
  quiet_number no_more = refl
  quiet_number (also e q) = quiet_number q
