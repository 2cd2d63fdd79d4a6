-- What the routines do that try objects one by one. Hold it against `tries` of dg_mid/specs/Step.antt, and `ask_object` of dg_meaning/specs/Moves.antt.
use Rattle.std.specs.Prelude.{◌≡◌, ◌≢◌, ℕ, suc, ◌+◌, ◌*◌, ◌<◌, ◌≤◌, List, [], ◌∷◌, Option, is_some, not}
use Rattle.dg_meaning.specs.Values.{Label, Value, Var, Node, Values}
use Rattle.dg_meaning.specs.Substitutions.{Substitution, walk, links}
use Rattle.dg_meaning.specs.Facts.{Fact, value_at, is_object}
use Rattle.z_lang.specs.declared.act.Act.{Act}
use Rattle.z_lang.specs.State.{Program}
use Rattle.z_lang.specs.Runs.{ActsRun as Runs, Returns}
use Rattle.dg_rt.specs.declared.numbers.TheConstants.{FAIL}
use Rattle.dg_rt.specs.declared.tries.TheConstants.{SEEK_ACTS, SOUGHT_ACTS, IF_OBJECT_ACTS, TRY_ACTS, LOOK_VALUE_ACTS, LOOK_FLAG_ACTS, LAND_ACTS}
use Rattle.dg_rt.specs.Cells.{at_cell, Holds, bit}
use Rattle.dg_rt.specs.Areas.{heap_at, mark_reg, heap_reg, frame_reg, choice_reg, inner_reg, stop_reg, trail_reg, back_reg, cut_reg, many_reg, key_reg, begin_reg, clash_reg, gather_reg, parameters_reg, state}
use Rattle.dg_rt.specs.Shapes.{Shape, IsShape, Shows, Stands}
use Rattle.dg_rt.specs.Back.{at_place}
use Rattle.dg_rt.specs.RunTime.{HasRunTime}
use Rattle.dg_rt.specs.Conditions.{Decides}
use Rattle.dg_rt.specs.Charges.{MeetsLimit}
use Rattle.dg_rt.specs.Frames.{RowIs}
use Rattle.dg_rt.specs.Tables.{IsTable, AreBytes}
use Rattle.dg_rt.specs.Changes.{SetIn, TableIn, FlagsIn, Argued}

-- ## Seeking

-- The second routine comes next, the first object is at hand, and nothing else is changed.
pub record SeeksAll (p : Program) (f w : ℕ) (memory typed output : List ℕ) (drawn next all : ℕ) (cells : ℕ → ℕ) (most : ℕ) : Type 0 where
  pub memory' : List ℕ
  pub cells' : ℕ → ℕ
  pub holds : Holds p.world.layout memory' cells'
  pub key : cells' key_reg ≡ 0
  pub others : (k : ℕ) → k ≢ key_reg → cells' k ≡ cells k
  pub locals' : List ℕ
  pub count : ℕ
  pub few : count ≤ most
  pub runs : Runs p f w SEEK_ACTS SEEK_ACTS (state memory (next ∷ all ∷ 0 ∷ []) typed drawn output) (Returns all)
      (state memory' locals' typed drawn output) count

-- The first one comes next, and nothing is changed.
pub record SeeksOne (p : Program) (f w : ℕ) (memory typed output : List ℕ) (drawn next all : ℕ) (most : ℕ) : Type 0 where
  pub locals' : List ℕ
  pub count : ℕ
  pub few : count ≤ most
  pub runs : Runs p f w SEEK_ACTS SEEK_ACTS (state memory (next ∷ all ∷ 0 ∷ []) typed drawn output) (Returns next)
      (state memory locals' typed drawn output) count

-- All objects are sought where the first argument is an unbound variable, else one at most, in 5 instructions a link and 8.
pub record SeekWorks : Type 0 where
  pub all : (p : Program) → HasRunTime p → (f w : ℕ) → 1 ≤ f → 4 ≤ w → (memory typed output : List ℕ) (drawn : ℕ) (sh : Shape)
      (cells : ℕ → ℕ) (S : Substitution) (v : Value) → Argued p memory sh cells S v → (next all x : ℕ) → walk S v ≡ Var x →
      SeeksAll p f w memory typed output drawn next all cells (5 * links S v + 8)
  pub one : (p : Program) → HasRunTime p → (f w : ℕ) → 1 ≤ f → 4 ≤ w → (memory typed output : List ℕ) (drawn : ℕ) (sh : Shape)
      (cells : ℕ → ℕ) (S : Substitution) (v : Value) → Argued p memory sh cells S v → (next all : ℕ) (l : Label) (vs : Values) →
      walk S v ≡ Node l vs → SeeksOne p f w memory typed output drawn next all (5 * links S v + 8)

-- Behind a value that was sought a routine comes next, or another one where arguments have clashed, in 2 instructions, and nothing is changed.
pub record SoughtWorks : Type 0 where
  pub goes : (p : Program) → HasRunTime p → (f w : ℕ) (memory typed output : List ℕ) (drawn x y : ℕ) (cells : ℕ → ℕ) →
      Holds p.world.layout memory cells → cells clash_reg ≡ 0 → Runs p f w SOUGHT_ACTS SOUGHT_ACTS (state memory (x ∷ y ∷ []) typed drawn output)
      (Returns x) (state memory (x ∷ y ∷ []) typed drawn output) 2
  pub fails : (p : Program) → HasRunTime p → (f w : ℕ) (memory typed output : List ℕ) (drawn x y : ℕ) (cells : ℕ → ℕ) →
      Holds p.world.layout memory cells → cells clash_reg ≢ 0 → Runs p f w SOUGHT_ACTS SOUGHT_ACTS (state memory (x ∷ y ∷ []) typed drawn output)
      (Returns y) (state memory (x ∷ y ∷ []) typed drawn output) 2

-- Whether a value is an object is decided, in 5 instructions a link and 20.
abbrev pub ObjectWorks : Type 0
ObjectWorks = (p : Program) → HasRunTime p → (f w : ℕ) → 2 ≤ f → 8 ≤ w → (memory typed output : List ℕ) (drawn : ℕ) (sh : Shape) →
    IsShape sh → (cells : ℕ → ℕ) → Holds p.world.layout memory cells → (S : Substitution) → Stands sh cells S → (x next : ℕ) (v : Value) →
    Shows sh x v → Decides p f w IF_OBJECT_ACTS memory (x ∷ next ∷ []) typed output drawn next (is_object (walk S v)) (5 * links S v + 20)

-- ## Trying

-- The word of the last object was answered, in 9 instructions, no choice was opened, and no arguments have clashed.
pub record TriesLast (p : Program) (f w : ℕ) (memory typed output : List ℕ) (drawn objects arguments : ℕ) (cells : ℕ → ℕ) (top : ℕ) : Type 0 where
  pub memory' : List ℕ
  pub cells' : ℕ → ℕ
  pub locals' : List ℕ
  pub holds : Holds p.world.layout memory' cells'
  pub cut : cells' cut_reg ≡ at_place top
  pub key : cells' key_reg ≡ cells key_reg
  pub clash : cells' clash_reg ≡ 0
  pub others : (k : ℕ) → k ≢ cut_reg → k ≢ key_reg → k ≢ clash_reg → k ≢ parameters_reg → cells' k ≡ cells k
  pub runs : Runs p f w TRY_ACTS TRY_ACTS (state memory (objects ∷ arguments ∷ []) typed drawn output) (Returns (24576 + cells key_reg))
      (state memory' locals' typed drawn output) 9

-- The word of an object was answered, in 44 instructions, and a choice was opened that goes on with the routine at hand and the next object; its cells
-- have what the registers say, and behind them twelve arguments; those that the query has are taken.
pub record TriesFurther (p : Program) (f w : ℕ) (memory typed output : List ℕ) (drawn objects arguments : ℕ) (cells : ℕ → ℕ)
    (top : ℕ) : Type 0 where
  pub memory' : List ℕ
  pub cells' : ℕ → ℕ
  pub locals' : List ℕ
  pub holds : Holds p.world.layout memory' cells'
  pub heap : cells' heap_reg ≡ top + 10 + arguments
  pub choice : cells' choice_reg ≡ at_place top
  pub mark : cells' mark_reg ≡ at_place top
  pub row : RowIs cells' (top + 0) (cells choice_reg ∷ cells 0 ∷ cells frame_reg ∷ cells inner_reg ∷ cells stop_reg ∷ cells trail_reg
      ∷ cells gather_reg ∷ cells back_reg ∷ 65535 ∷ suc (cells key_reg)
      ∷ cells 16 ∷ cells 17 ∷ cells 18 ∷ cells 19 ∷ cells 20 ∷ cells 21 ∷ cells 22 ∷ cells 23
      ∷ cells 24 ∷ cells 25
      ∷ cells 26 ∷ cells 27 ∷ [])
  pub cut : cells' cut_reg ≡ at_place top
  pub key : cells' key_reg ≡ cells key_reg
  pub clash : cells' clash_reg ≡ 0
  pub others : (k : ℕ) → k ≢ heap_reg → k ≢ choice_reg → k ≢ mark_reg → k ≢ cut_reg → k ≢ many_reg → k ≢ key_reg →
      k ≢ begin_reg →
      k ≢ clash_reg → k ≢ parameters_reg → (heap_at + top ≤ k → heap_at + (top + 22) ≤ k) → cells' k ≡ cells k
  pub runs : Runs p f w TRY_ACTS TRY_ACTS (state memory (objects ∷ arguments ∷ []) typed drawn output) (Returns (24576 + cells key_reg))
      (state memory' locals' typed drawn output) 44

-- So it is by whether other objects follow; where a choice would pass the heap's end, its limit is met.
pub record TryWorks : Type 0 where
  pub last : (p : Program) → HasRunTime p → (f w : ℕ) (memory typed output : List ℕ) (drawn objects arguments : ℕ) (cells : ℕ → ℕ)
      (top : ℕ) →
      Holds p.world.layout memory cells → cells heap_reg ≡ top → top ≤ 10000 → objects ≤ 4096 → arguments ≤ 12 →
      suc (cells key_reg) ≡ objects →
      TriesLast p f w memory typed output drawn objects arguments cells top
  pub further : (p : Program) → HasRunTime p → (f w : ℕ) → 1 ≤ f → 4 ≤ w → (memory typed output : List ℕ) (drawn objects arguments : ℕ)
      (cells : ℕ → ℕ) (top : ℕ) → Holds p.world.layout memory cells → cells heap_reg ≡ top → objects ≤ 4096 → arguments ≤ 12 →
      suc (cells key_reg) < objects → top + 10 + arguments ≤ 10000 → TriesFurther p f w memory typed output drawn objects arguments cells top
  pub meets : (p : Program) → HasRunTime p → (f w : ℕ) → 3 ≤ f → 4 ≤ w → (memory typed output : List ℕ) (drawn objects arguments : ℕ)
      (cells : ℕ → ℕ) (top : ℕ) → Holds p.world.layout memory cells → cells heap_reg ≡ top → top ≤ 10000 → objects ≤ 4096 →
      arguments ≤ 12 →
      suc (cells key_reg) < objects → 10000 < top + 10 + arguments →
      MeetsLimit p f w TRY_ACTS memory (objects ∷ arguments ∷ []) typed output drawn cells 13

-- ## What is set

-- A word is answered, and where nothing is set of the object arguments clash; nothing else is changed.
pub record LooksUp (p : Program) (f w : ℕ) (acts : List Act) (memory typed output : List ℕ) (drawn local : ℕ) (cells : ℕ → ℕ)
    (is : ℕ → Option Value → Type 0) (set : Option Value) : Type 0 where
  pub memory' : List ℕ
  pub cells' : ℕ → ℕ
  pub holds : Holds p.world.layout memory' cells'
  pub clash : cells' clash_reg ≡ bit (not (is_some set))
  pub others : (k : ℕ) → k ≢ clash_reg → cells' k ≡ cells k
  pub word : ℕ
  pub small : word < 65536
  pub word_is : is word set
  pub locals' : List ℕ
  pub count : ℕ
  pub few : count ≤ 14
  pub runs : Runs p f w acts acts (state memory (local ∷ []) typed drawn output) (Returns word) (state memory' locals' typed drawn output) count

-- So the word of an object stands for what is set.
abbrev pub LookValueWorks : Type 0
LookValueWorks = (p : Program) → HasRunTime p → (f w : ℕ) → 1 ≤ f → 4 ≤ w → (memory typed output : List ℕ) (drawn t n place : ℕ)
    (cells : ℕ → ℕ) (facts : List Fact) → Holds p.world.layout memory cells → IsTable p t n → TableIn cells t n facts place →
    cells clash_reg ≡ 0 → cells key_reg < n →
    LooksUp p f w LOOK_VALUE_ACTS memory typed output drawn (at_cell t) cells SetIn (value_at facts place (cells key_reg))

-- So it is with a flag, whose word says nothing more.
abbrev pub AnyWord : ℕ → Option Value → Type 0
AnyWord word set = Unit {0}

abbrev pub LookFlagWorks : Type 0
LookFlagWorks = (p : Program) → HasRunTime p → (f w : ℕ) → 1 ≤ f → 4 ≤ w → (memory typed output : List ℕ) (drawn b n place : ℕ)
    (cells : ℕ → ℕ) (facts : List Fact) → Holds p.world.layout memory cells → AreBytes p b n → FlagsIn cells b n facts place →
    cells clash_reg ≡ 0 → cells key_reg < n →
    LooksUp p f w LOOK_FLAG_ACTS memory typed output drawn (64 + b) cells AnyWord (value_at facts place (cells key_reg))

-- ## Landing

-- An inner construct begins at a place, whose fourth cell names the one around it, also where the place has no cells.
pub record LandsIn (p : Program) (f w : ℕ) (memory typed output : List ℕ) (drawn next top : ℕ) (cells : ℕ → ℕ) : Type 0 where
  pub memory' : List ℕ
  pub cells' : ℕ → ℕ
  pub holds : Holds p.world.layout memory' cells'
  pub inner : cells' inner_reg ≡ at_place top
  pub around : cells' (heap_at + (top + 3)) ≡ cells inner_reg
  pub others : (k : ℕ) → k ≢ inner_reg → k ≢ heap_at + (top + 3) → cells' k ≡ cells k
  pub runs : Runs p f w LAND_ACTS LAND_ACTS (state memory (next ∷ []) typed drawn output) (Returns next)
      (state memory' (next ∷ []) typed drawn output) 4

-- So it is where no arguments have clashed, in 4 instructions; else it fails.
pub record LandWorks : Type 0 where
  pub lands : (p : Program) → HasRunTime p → (f w : ℕ) (memory typed output : List ℕ) (drawn next top : ℕ) (cells : ℕ → ℕ) →
      Holds p.world.layout memory cells → cells clash_reg ≡ 0 → cells cut_reg ≡ at_place top → top ≤ 10000 →
      LandsIn p f w memory typed output drawn next top cells
  pub fails : (p : Program) → HasRunTime p → (f w : ℕ) (memory typed output : List ℕ) (drawn next : ℕ) (cells : ℕ → ℕ) →
      Holds p.world.layout memory cells → cells clash_reg ≢ 0 → Runs p f w LAND_ACTS LAND_ACTS (state memory (next ∷ []) typed drawn output)
      (Returns (p.names.routine FAIL)) (state memory (next ∷ []) typed drawn output) 2

-- ## All

-- The routines that try objects do so.
pub record TriesWork : Type 0 where
  pub seek : SeekWorks
  pub sought : SoughtWorks
  pub object : ObjectWorks
  pub tried : TryWorks
  pub value : LookValueWorks
  pub flag : LookFlagWorks
  pub land : LandWorks
