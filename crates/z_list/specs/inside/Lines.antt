-- How lines are read, one after another.
use Rattle.std.specs.Prelude.{◌≡◌, ◌<◌, ◌≤◌, ℕ, ◌+◌, List, [], ◌∷◌, ◌++◌, length, Option, Some, None, Bool, true, nat_lt}
use Rattle.z_list.specs.Listing.{Line, Data, Rule, Locals, Does, End, AreMarks, lines}
use Rattle.z_list.specs.declared.mark.Mark.{Mark}

-- outside marks, behind a row that was full or not; behind a mark's beginning; in its instructions; behind them, with the bytes since
pub data Where : Type 0 where
  Outside : (full : Bool) → Where
  Named : Where
  Inside : Where
  Behind : (full : Bool) → (bytes : List ℕ) → Where

abbrev pub is_full : List ℕ → Bool
is_full bs = nat_lt 15 (length bs)

-- a row of some bytes goes on from one place to the next
pub record IsRow (at : ℕ) (left : ℕ) (a : ℕ) (bs : List ℕ) (at' : ℕ) (left' : ℕ) : Type 0 where
  pub here : a ≡ at
  pub some : 0 < length bs
  pub few : length bs ≤ 16
  pub next : at' ≡ at + length bs
  pub rest : length bs + left' ≡ left

abbrev pub Stays : ℕ → ℕ → ℕ → ℕ → ℕ → Type 0
Stays at left a at' left' = (a ≡ at) × (at' ≡ at) × (left' ≡ left)

module _ (first : List ℕ → Option ℕ) where
  -- a line leads from one state to another
  abbrev pub Goes : Where → ℕ → ℕ → Line → Where → ℕ → ℕ → Type 0
  Goes (Outside full) at left (Data a bs) w at' left' = (full ≡ true) × IsRow at left a bs at' left' × (w ≡ Outside (is_full bs))
  Goes (Outside full) at left (Rule a p r) w at' left' = Stays at left a at' left' × (0 < left) × (w ≡ Named)
  Goes Named at left (Locals a b) w at' left' = (a ≡ at) × (at' ≡ at + 1) × (1 + left' ≡ left) × (w ≡ Inside)
  Goes Inside at left (Does a bs) w at' left' =
      (a ≡ at) × (at' ≡ at + length bs) × (length bs + left' ≡ left) × (first bs ≡ Some (length bs)) × (w ≡ Inside)
  Goes Inside at left (Data a bs) w at' left' = IsRow at left a bs at' left' × (first bs ≡ None) × (w ≡ Behind (is_full bs) bs)
  Goes Inside at left (End a) w at' left' = Stays at left a at' left' × (w ≡ Outside true)
  Goes (Behind full cs) at left (Data a bs) w at' left' =
      (full ≡ true) × IsRow at left a bs at' left' × (first (cs ++ bs) ≡ None) × (w ≡ Behind (is_full bs) (cs ++ bs))
  Goes (Behind full cs) at left (End a) w at' left' = Stays at left a at' left' × (w ≡ Outside true)
  Goes w at left l w' at' left' = ⊥

  abbrev pub IsOutside : Where → Type 0
  IsOutside (Outside full) = Unit {0}
  IsOutside w = ⊥

  -- the lines lead to the end
  abbrev pub Accepts : Where → ℕ → ℕ → List Line → Type 0
  Accepts w at left [] = IsOutside w × (left ≡ 0)
  Accepts w at left (l ∷ ls) = (w' : Where) × (at' : ℕ) × (left' : ℕ) × Goes w at left l w' at' left' × Accepts w' at' left' ls

  -- the lines lead somewhere
  abbrev pub Comes : Where → ℕ → ℕ → List Line → Where → ℕ → ℕ → Type 0
  Comes w at left [] w' at' left' = (w ≡ w') × (at ≡ at') × (left ≡ left')
  Comes w at left (l ∷ ls) w' at' left' = (v : Where) × (a : ℕ) × (n : ℕ) × Goes w at left l v a n × Comes v a n ls w' at' left'

-- what is asked of instructions
pub record AreInstructions (first : List ℕ → Option ℕ) : Type 0 where
  pub some : (bs : List ℕ) (k : ℕ) → first bs ≡ Some k → (0 < k) × (k ≤ length bs)
  pub alone : (bs more : List ℕ) → first bs ≡ Some (length bs) → first (bs ++ more) ≡ Some (length bs)
  pub whole : (bs more : List ℕ) (k : ℕ) → first (bs ++ more) ≡ Some k → k ≡ length bs → first bs ≡ Some k
  pub none : (bs more : List ℕ) → first (bs ++ more) ≡ None → first bs ≡ None
  pub empty : first [] ≡ None

-- lines that are listed of these bytes for some marks
pub record IsListed (first : List ℕ → Option ℕ) (ls : List Line) (bytes : List ℕ) : Type 0 where
  pub marks : List Mark
  pub are : AreMarks 0 (length bytes) marks
  pub is : ls ≡ lines first 0 bytes marks

pub record Reads (first : List ℕ → Option ℕ) : Type 0 where
  pub sound : (n : ℕ) (ls : List Line) → Accepts first (Outside true) 0 n ls → (bytes : List ℕ) × (length bytes ≡ n) × IsListed first ls bytes
  pub complete : (ls : List Line) (bytes : List ℕ) → IsListed first ls bytes → Accepts first (Outside true) 0 (length bytes) ls
  pub viable : (n : ℕ) (ls : List Line) (w : Where) (at left : ℕ) → Comes first (Outside true) 0 n ls w at left →
      (more : List Line) × Accepts first (Outside true) 0 n (ls ++ more)
