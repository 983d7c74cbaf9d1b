-- The bytes of a window, as it is moved and read behind. Assumes nothing.
use mathlib.Core.Path.{◌≡◌, refl, sym, ◌∙◌, ap}
use mathlib.Core.Bool.{Bool, true, false, cond}
use mathlib.Core.List.{List}
use Rattle.std.specs.Prelude.{Result, Ok, Err}
use Prim.Native.Nat.{ℕ, suc, ◌+◌, ◌-◌, ◌≤◌, ◌<◌}
use native.Mathlib.Omega.{arith}
use borrow.Author.Tests.{eqb-false, ltb-true}
use lib.Dec.{eqb}
use lib.ListN.{length, take, drop, length-drop}
use lib.Seq.{take-take, take-add, take_at, drop_at, length-take-le}
use Rattle.std.specs.List.{copy_within}
use Rattle.window.specs.Window.{InBuffer, bytes_in, lacking, Placed, ReadOn, FilledUp, filled_up}
use Rattle.window.specs.declared.Window.{Window}

-- a window's bytes, copied to the front
pub at_front : (w : Window) (xs : List ℕ) {ys : List ℕ} → InBuffer w (length xs) → ys ≡ copy_within xs w.start w.end 0 →
    take (w.end - w.start) ys ≡ take (w.end - w.start) (drop w.start xs)
at_front w xs i e =
    let n = w.end - w.start in
    let long : length (take n (drop w.start xs)) ≡ n = length-take-le n _ (simp length-drop (omega (arith, i.ordered, i.inside))) in
    rw e (take_at (take n (drop w.start xs)) _ n long)

-- n bytes read behind a window
pub read_behind : (w : Window) (before after : List ℕ) (n : ℕ) → w.start ≤ w.end → w.end + n ≤ length after →
    take w.end after ≡ take w.end before →
    ReadOn w before (record { start = w.start; end = w.end + n; ended = eqb n 0 }) after
read_behind w before after n i j e =
    record {
      within = record { ordered = omega arith; inside = j };
      start = refl;
      kept = e;
      grown = omega arith;
      more = λ f. let some = eqb-false n 0 f in omega arith;
    }

-- how many bytes are still to be read for the due part, and one to see the input's end
unfoldable pub to_read : (due : ℕ) → Window → ℕ
to_read due w = cond w.ended 0 (suc (w.start + due - w.end))

pub never : true ≡ false → ⊥
never e = let z : ◌≡◌ {A = ℕ} 0 1 = cc in omega arith

-- where something is lacking, the input has not ended and the due part is not whole
pub lacking_some : (w : Window) (due : ℕ) → lacking w due ≡ true → (w.ended ≡ false) × (w.end - w.start < due)
unfolding lacking
lacking_some w due e = by_flag w.ended refl
  where
    by_flag : (b : Bool) → w.ended ≡ b → (w.ended ≡ false) × (w.end - w.start < due)
    by_flag true f = absurd (never (sym (rw f at e)))
    by_flag false f = (f, ltb-true _ _ (rw f at e))

-- each read leaves less to be read
pub reads_less : (w r : Window) (due : ℕ) (before after : List ℕ) → w.start ≤ w.end → lacking w due ≡ true → ReadOn w before r after →
    to_read due r < to_read due w
unfolding to_read
reads_less w r due before after i e on =
    let some = lacking_some w due e in
    rw some.0 (by_flag r.ended refl some.1)
  where
    by_flag : (b : Bool) → r.ended ≡ b → w.end - w.start < due →
        cond r.ended 0 (suc (r.start + due - r.end)) < suc (w.start + due - w.end)
    by_flag true f l = rw f (omega arith)
    by_flag false f l = rw f (omega (arith, on.more f, on.start))

pub same_front : (m n : ℕ) (xs ys : List ℕ) → m ≤ n → take n xs ≡ take n ys → take m xs ≡ take m ys
same_front m n xs ys i e = sym (take-take m n xs i) ∙ ap (take m) e ∙ take-take m n ys i

-- a part is settled by what stands up to its end
same_part : (s m : ℕ) (xs ys : List ℕ) → s ≤ length xs → s ≤ length ys → take (s + m) xs ≡ take (s + m) ys →
    take m (drop s xs) ≡ take m (drop s ys)
same_part s m xs ys i j e =
    sym (drop_at (take s xs) (take m (drop s xs)) s (length-take-le s xs i)) ∙ sym (ap (drop s) (take-add s m xs)) ∙ ap (drop s) e
    ∙ ap (drop s) (take-add s m ys) ∙ drop_at (take s ys) (take m (drop s ys)) s (length-take-le s ys j)

-- the bytes of a window stand first in one that has grown behind it
pub stand_first : (w r : Window) (before after : List ℕ) → InBuffer w (length before) → InBuffer r (length after) → length after ≡ length before →
    r.start ≡ w.start → w.end ≤ r.end → take w.end after ≡ take w.end before →
    take (w.end - w.start) (bytes_in r after) ≡ bytes_in w before
unfolding bytes_in
stand_first w r before after i j long s g e =
    let m = w.end - w.start in
    let whole : w.start + m ≡ w.end = omega (arith, i.ordered) in
    rw s
    (take-take m (r.end - w.start) (drop w.start after) (omega arith)
    ∙ same_part w.start m after before (omega (arith, i.ordered, i.inside)) (omega (arith, i.ordered, i.inside)) (rw whole e))

-- a window that is moved to the front
pub moved : (w : Window) (due : ℕ) (before after : List ℕ) → InBuffer w (length before) → due ≤ length before → length after ≡ length before →
    take (w.end - w.start) after ≡ take (w.end - w.start) (drop w.start before) →
    Placed w due before (record { start = 0; end = w.end - w.start; ended = w.ended }) after
unfolding bytes_in
moved w due before after i j long e =
    let size : w.end - w.start - 0 ≡ w.end - w.start = omega arith in
    record {
      within = record { ordered = omega arith; inside = omega (arith, i.inside) };
      size = size;
      same = rw size e;
      fits = omega arith;
      flag = refl;
    }

-- a window in which nothing is lacking
pub filled_already : (w : Window) (due : ℕ) (xs : List ℕ) → InBuffer w (length xs) → lacking w due ≡ false → FilledUp w due xs w xs
filled_already w due xs i e = record { within = i; first = stand_first w w xs xs i i refl refl (omega arith) refl; enough = e }

-- moved, and then filled
pub filled_moved : {E : Type 0} (w p : Window) (due : ℕ) (before mid : List ℕ) (f : Result Window E) (after : List ℕ) → Placed w due before p mid →
    filled_up p due mid f after → filled_up w due before f after
filled_moved w p due before mid (Ok r) after put up =
    record { within = up.within; first = rw put.size at up.first ∙ put.same; enough = up.enough }
filled_moved w p due before mid (Err e) after put up = tt
