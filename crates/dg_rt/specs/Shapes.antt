-- What words of memory stand for: values, and a substitution. Hold it against docs/LANGUAGE.md, where it says what a value is, and the Dialog manual,
-- chapter "Choice points" (on unification).
use Rattle.std.specs.Prelude.{◌≡◌, ◌≢◌, ℕ, suc, ◌+◌, ◌<◌, ◌≤◌, List, [], ◌∷◌, length, Option, Some, None, true}
use Rattle.dg_meaning.specs.Values.{Num, Word, Unknown, Object, Nil, Closure, Value, Var, Node, Values, NoMore, More, leaf, pair}
use Rattle.dg_meaning.specs.ValueCells.{count_of}
use Rattle.dg_meaning.specs.Pieces.{shown_letter}
use Rattle.dg_meaning.specs.Substitutions.{Substitution}
use Rattle.dg_meaning.specs.inside.Substitutions.{IsSubstitution}
use Rattle.dg_meaning.specs.inside.Unifiers.{binding_of}
use Rattle.z_model.specs.Zscii.{is_character}
use Rattle.dg_rt.specs.Areas.{heap_at}

-- ## Shapes

-- What stays while values are unified: how many cells are taken, how many variables there are, where each stands in the heap, the words of the cells
-- that are none, what the box that begins at a place stands for, and how many values the closure of each place of the program captures.
pub record Shape : Type 0 where
  pub top : ℕ
  pub vars : ℕ
  pub place : ℕ → ℕ
  pub fixed : ℕ → ℕ
  pub box : ℕ → Option Value
  pub captures : ℕ → ℕ

-- The variables stand in the heap in the order of their age, boxes don't overlap and end below the top, and the top is within the heap.
pub record IsShape (sh : Shape) : Type 0 where
  pub within : (n : ℕ) → n < sh.vars → sh.place n < 10000
  pub order : (m n : ℕ) → m < n → n < sh.vars → sh.place m < sh.place n
  pub apart : (j k : ℕ) (v w : Value) → sh.box j ≡ Some v → sh.box k ≡ Some w → j < k → j + 3 ≤ k
  pub ends : (k : ℕ) (v : Value) → sh.box k ≡ Some v → k + 3 ≤ sh.top
  pub room : sh.top ≤ 10000

-- The cell is taken, and no variable stands there.
abbrev pub IsFixed : Shape → ℕ → Type 0
IsFixed sh k = (k < sh.top) × ((n : ℕ) → n < sh.vars → sh.place n ≢ k)

-- A cell that is no variable's has this word.
pub record Cell (sh : Shape) (k x : ℕ) : Type 0 where
  pub fixed : IsFixed sh k
  pub is : sh.fixed k ≡ x

-- Letters stand in cells from a place on, a letter a cell.
abbrev pub Letters : Shape → ℕ → List ℕ → Type 0
Letters sh k [] = Unit {0}
Letters sh k (x ∷ xs) = Cell sh k x × Letters sh (suc k) xs

-- Each letter of an unknown word is shown as a character that a story prints.
abbrev pub ArePrinted : List ℕ → Type 0
ArePrinted [] = Unit {0}
ArePrinted (c ∷ cs) = ((c < 65536) × (is_character (shown_letter c) ≡ true)) × ArePrinted cs

-- ## Values

mutual
  -- A word stands for a value: a number, a word of the program, an object or the empty list by itself; a variable by its place; and a pair, a closure or
  -- an unknown word by the place of its box.
  pub data Shows (sh : Shape) : ℕ → Value → Type 0 where
    number : (n : ℕ) → n < 16384 → Shows sh n (leaf (Num n))
    dict : (n : ℕ) → n < 8192 → Shows sh (16384 + n) (leaf (Word n))
    object : (n : ℕ) → n < 4096 → Shows sh (24576 + n) (leaf (Object n))
    nil : Shows sh 28672 (leaf Nil)
    variable : (n : ℕ) → n < sh.vars → Shows sh (32768 + sh.place n) (Var n)
    boxed : {v : Value} (k header : ℕ) → k + 2 < 10000 → sh.box k ≡ Some v → Cell sh k header → Filled sh k header v → Shows sh (49152 + k) v

  -- What lies behind a box's header: a head and a tail; the number of captured values, a cell that isn't used, and the values; or two such cells and
  -- letters.
  pub data Filled (sh : Shape) : ℕ → ℕ → Value → Type 0 where
    pair_in : {h t : Value} (k x y : ℕ) → Cell sh (k + 1) x → Cell sh (k + 2) y → Shows sh x h → Shows sh y t → Filled sh k 0 (pair h t)
    closure_in : {vs : Values} (k place : ℕ) → place < 16384 → count_of vs ≡ sh.captures place → sh.captures place < 256 →
        Cell sh (k + 1) (count_of vs) → AllShow sh (k + 3) vs → Filled sh k (1 + place) (Node (Closure place) vs)
    word_in : {letters : List ℕ} (k : ℕ) → ArePrinted letters → Letters sh (k + 3) letters →
        Filled sh k (32768 + length letters) (leaf (Unknown letters))

  -- Cells from a place on stand for values.
  pub data AllShow (sh : Shape) : ℕ → Values → Type 0 where
    no_more : (k : ℕ) → AllShow sh k NoMore
    one_more : {v : Value} {vs : Values} (k x : ℕ) → Cell sh k x → Shows sh x v → AllShow sh (suc k) vs → AllShow sh k (More v vs)

-- ## A substitution

-- The words of memory stand for a substitution: an unbound variable's cell holds its own reference, a bound one's what it is bound to.
pub record Stands (sh : Shape) (cells : ℕ → ℕ) (S : Substitution) : Type 0 where
  pub sound : IsSubstitution S
  pub fixed : (k : ℕ) → k < 10000 → IsFixed sh k → cells (heap_at + k) ≡ sh.fixed k
  pub unbound : (n : ℕ) → n < sh.vars → binding_of n S ≡ None → cells (heap_at + sh.place n) ≡ 32768 + sh.place n
  pub bound : (n : ℕ) (v : Value) → n < sh.vars → binding_of n S ≡ Some v → Shows sh (cells (heap_at + sh.place n)) v
