-- The bytes that are read and not yet taken. Assumes nothing.
use Rattle.std.specs.Prelude.{◌≡◌, Bool, false, cond, List, ℕ, ◌+◌, ◌-◌, ◌≤◌, ◌<◌, ltb, length, take, drop, Result, IfOk}
use Rattle.window.specs.declared.Window.{Window}

-- §16.2 a window in a buffer of n bytes
pub record InBuffer (w : Window) (n : ℕ) : Type 0 where
  pub ordered : w.start ≤ w.end
  pub inside : w.end ≤ n

-- §16.2 the bytes in it
unfoldable pub bytes_in : Window → (buffer : List ℕ) → List ℕ
bytes_in w xs = take (w.end - w.start) (drop w.start xs)

-- §16.2 the due part is still to be read: it is not whole, and the input has not ended
unfoldable pub lacking : Window → (due : ℕ) → Bool
lacking w due = cond w.ended false (ltb (w.end - w.start) due)

-- §16.2 the same bytes, at a place where the due part fits
pub record Placed (w : Window) (due : ℕ) (before : List ℕ) (r : Window) (after : List ℕ) : Type 0 where
  pub within : InBuffer r (length after)
  pub size : r.end - r.start ≡ w.end - w.start
  pub same : bytes_in r after ≡ bytes_in w before
  pub fits : r.start + due ≤ length after
  pub flag : r.ended ≡ w.ended

-- §16.2 what one read leaves: the bytes up to the window's end stay, and the window has grown, or the input has ended
pub record ReadOn (w : Window) (before : List ℕ) (r : Window) (after : List ℕ) : Type 0 where
  pub within : InBuffer r (length after)
  pub start : r.start ≡ w.start
  pub kept : take w.end after ≡ take w.end before
  pub grown : w.end ≤ r.end
  pub more : r.ended ≡ false → w.end < r.end

-- §16.2 that, unless the read failed
abbrev pub read_on : {E : Type 0} → Window → (before : List ℕ) → Result Window E → (after : List ℕ) → Type 0
read_on w before f after = IfOk f (λ r. ReadOn w before r after)

-- §16.2 what is read comes behind what stood in the window, and the due part is whole or the input has ended
pub record FilledUp (w : Window) (due : ℕ) (before : List ℕ) (r : Window) (after : List ℕ) : Type 0 where
  pub within : InBuffer r (length after)
  pub first : take (w.end - w.start) (bytes_in r after) ≡ bytes_in w before
  pub enough : lacking r due ≡ false

-- §16.2 that, unless a read failed
abbrev pub filled_up : {E : Type 0} → Window → (due : ℕ) → (before : List ℕ) → Result Window E → (after : List ℕ) → Type 0
filled_up w due before f after = IfOk f (λ r. FilledUp w due before r after)
