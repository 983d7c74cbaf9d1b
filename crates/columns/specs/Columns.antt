-- Columns of a wall: which are neighbours, which tiles a tile hears, and how many hops lie between two. Assumes nothing.
use Rattle.std.specs.Prelude.{Bool, true, ◌&&◌, ◌||◌, cond, false, List, [], ◌∷◌, ◌≡◌, ℕ, zero, suc, ◌+◌, ◌≤◌, ◌<◌, eqb, length, get_or}

-- §1.1 a and b lie side by side, or they are one of the two pairs at the ends
unfoldable pub are_neighbours : (w a b : ℕ) → Bool
are_neighbours w a b =
    (eqb (suc a) b || eqb (suc b) a)
    || (((eqb a 0 && eqb b 2) || (eqb a 2 && eqb b 0)) || ((eqb (a + 3) w && eqb (suc b) w) || (eqb (suc a) w && eqb (b + 3) w)))

-- §1.2 a way of n hops from a column to another, each hop to a neighbour
pub data Way (w : ℕ) : (n a b : ℕ) → Type 0 where
  stay : {a : ℕ} → Way w 0 a a
  hop : {n a b c : ℕ} → c < w → are_neighbours w c b ≡ true → Way w n a b → Way w (suc n) a c

-- §1.2 at most n hops apart: there is a way of n hops or fewer
pub record HopsWithin (w n a b : ℕ) : Type 0 where
  pub hops : ℕ
  pub few : hops ≤ n
  pub way : Way w hops a b

-- §1.3 the columns from c on, n of them, for which f holds, rising
unfoldable pub columns_from : (n c : ℕ) → (ℕ → Bool) → List ℕ
columns_from zero c f = []
columns_from (suc n) c f = cond (f c) (c ∷ columns_from n (suc c) f) (columns_from n (suc c) f)

-- §1.1 the neighbours of column c, rising
unfoldable pub neighbours : (w c : ℕ) → List ℕ
neighbours w c = columns_from w 0 (λ k. are_neighbours w c k)

-- §1.3 tile c hears column k: it is own, or a neighbour of own
unfoldable pub is_predecessor : (w c k : ℕ) → Bool
is_predecessor w c k = eqb k c || are_neighbours w c k

-- §1.3 the predecessors of tile c, rising
unfoldable pub predecessors : (w c : ℕ) → List ℕ
predecessors w c = columns_from w 0 (λ k. is_predecessor w c k)

-- §7.3 the links of the tiles before column c
unfoldable pub links_before : (w c : ℕ) → ℕ
links_before w zero = 0
links_before w (suc c) = links_before w c + length (predecessors w c)

-- §7.3 the place of k in a list
unfoldable pub place_in : (k : ℕ) → List ℕ → ℕ
place_in k [] = 0
place_in k (x ∷ xs) = cond (eqb k x) 0 (suc (place_in k xs))

-- §7.3 where the link from sender k to tile c stands
unfoldable pub link_place : (w c k : ℕ) → ℕ
link_place w c k = links_before w c + place_in k (predecessors w c)

-- §7.3 the value of that link
unfoldable pub link : (w : ℕ) → (links : List ℕ) → (tile sender : ℕ) → ℕ
link w ls c k = get_or ls (link_place w c k) 0

-- §13.1 f holds of some number in a list
unfoldable pub any_of : List ℕ → (ℕ → Bool) → Bool
any_of [] f = false
any_of (k ∷ ks) f = f k || any_of ks f

-- §7.6 what f gives for each column from c on, n of them
unfoldable pub table_from : (n c : ℕ) → (ℕ → ℕ) → List ℕ
table_from zero c f = []
table_from (suc n) c f = f c ∷ table_from n (suc c) f
