-- What the routines do that gather values and take them out. Hold it against the Dialog manual, chapter "Control flow" (on collecting), and
-- dg_meaning/specs/World.antt and Moves.antt (`takes_out`).
use Rattle.std.specs.Prelude.{◌≡◌, ◌≢◌, ℕ, ◌+◌, ◌*◌, ◌<◌, ◌≤◌, List, [], ◌∷◌, ◌++◌, length, Some, None, false}
use Rattle.std.specs.List.{sum_by}
use Rattle.dg_base.specs.declared.run.Ending.{Ending}
use Rattle.dg_base.specs.declared.run.Ending.TheVariants.{HeapLimit, AuxLimit}
use Rattle.dg_meaning.specs.Values.{Value}
use Rattle.dg_meaning.specs.Copies.{list_of, vars_in, copy_from, copy_cells}
use Rattle.dg_meaning.specs.Letters.{letters_in}
use Rattle.dg_meaning.specs.Numbers.{total}
use Rattle.dg_meaning.specs.Substitutions.{Substitution, resolved, contains}
use Rattle.dg_meaning.specs.Unify.{looks, size}
use Rattle.dg_meaning.specs.inside.Unifiers.{binding_of}
use Rattle.z_model.specs.declared.end.Halt.TheVariants.{AtQuit}
use Rattle.z_lang.specs.declared.act.Act.{Act}
use Rattle.z_lang.specs.State.{Program}
use Rattle.z_lang.specs.Runs.{ActsRun as Runs, Returns, Stops}
use Rattle.z_lang.specs.Standing.{IsKept}
use Rattle.dg_rt.specs.declared.numbers.TheConstants.{FAIL}
use Rattle.dg_rt.specs.declared.gathering.TheConstants.{OPEN_GATHERING_ACTS, KEEP_VALUE_ACTS, TAKE_LIST_ACTS, TAKE_SUM_ACTS}
use Rattle.dg_rt.specs.Cells.{at_cell, Holds}
use Rattle.dg_rt.specs.Areas.{heap_at, areas_end, kept_at, heap_reg, inner_reg, clash_reg, gather_reg, last_reg, from_reg, fill_reg, state}
use Rattle.dg_rt.specs.Shapes.{Shape, IsShape, Shows, Stands}
use Rattle.dg_rt.specs.Back.{at_place, Grown}
use Rattle.dg_rt.specs.RunTime.{HasRunTime}
use Rattle.dg_rt.specs.Closings.{closing, closing_most}
use Rattle.dg_rt.specs.Laying.{Formed, copy_word}
use Rattle.dg_rt.specs.Copies.{words_of, Row}
use Rattle.dg_rt.specs.CopiesIn.{HasCaptures}
use Rattle.dg_rt.specs.Arithmetic.{result_word, clash_of, IsNumber}

-- ## What lies there

-- The words of values in a row.
abbrev pub rows_of : List Value → List ℕ
rows_of [] = []
rows_of (v ∷ vs) = words_of v ++ rows_of vs

-- Each of some values is formed as those of a program are.
abbrev pub AreFormed : (ℕ → ℕ) → List Value → Type 0
AreFormed captures [] = Unit {0}
AreFormed captures (v ∷ vs) = Formed captures v × AreFormed captures vs

-- A gathering of values lies at a place: the name of the one around it, the address behind its values, and the values.
pub record GatheredAt (cells : ℕ → ℕ) (j around : ℕ) (vs : List Value) : Type 0 where
  pub low : areas_end ≤ j
  pub high : j + 2 + length (rows_of vs) ≤ kept_at
  pub named : cells gather_reg ≡ at_cell j
  pub before : cells j ≡ around
  pub end : cells (j + 1) ≡ at_cell (j + 2 + length (rows_of vs))
  pub values : Row cells (j + 2) (rows_of vs)

-- The next gathering lies at a place: in front of all others, or behind the newest.
pub data NextAt (cells : ℕ → ℕ) (k : ℕ) : Type 0 where
  at_first : cells gather_reg ≡ 0 → k ≡ areas_end → NextAt cells k
  at_end : (j around : ℕ) (vs : List Value) → GatheredAt cells j around vs → k ≡ j + 2 + length (rows_of vs) → NextAt cells k

-- A routine meets a limit: its closing ends the run, in so many instructions and those of the closing.
pub record MeetsThe (p : Program) (ending : Ending) (f w : ℕ) (acts : List Act) (memory locals typed output : List ℕ) (drawn : ℕ)
    (cells : ℕ → ℕ) (most : ℕ) : Type 0 where
  pub memory' : List ℕ
  pub count : ℕ
  pub runs : Runs p f w acts acts (state memory locals typed drawn output) (Stops AtQuit)
      (state memory' [] typed drawn (output ++ closing (cells last_reg) ending)) count
  pub few : count ≤ most + closing_most

-- ## Opening

-- A gathering of nothing was opened at a place, and is the newest.
pub record OpensGathering (p : Program) (f w : ℕ) (memory typed output : List ℕ) (drawn : ℕ) (cells : ℕ → ℕ) (k : ℕ) : Type 0 where
  pub memory' : List ℕ
  pub cells' : ℕ → ℕ
  pub locals' : List ℕ
  pub holds : Holds p.world.layout memory' cells'
  pub named : cells' gather_reg ≡ at_cell k
  pub before : cells' k ≡ cells gather_reg
  pub end : cells' (k + 1) ≡ at_cell (k + 2)
  pub others : (i : ℕ) → i ≢ gather_reg → i ≢ k → i ≢ k + 1 → cells' i ≡ cells i
  pub count : ℕ
  pub few : count ≤ 12
  pub runs : Runs p f w OPEN_GATHERING_ACTS OPEN_GATHERING_ACTS (state memory (0 ∷ 0 ∷ []) typed drawn output) (Returns 0)
      (state memory' locals' typed drawn output) count

-- So it is where there is room for its choice and for its header; else a limit is met, the heap's first.
pub record GatherWorks : Type 0 where
  pub opens : (p : Program) → HasRunTime p → (f w : ℕ) (memory typed output : List ℕ) (drawn : ℕ) (cells : ℕ → ℕ) (k : ℕ) →
      Holds p.world.layout memory cells → cells heap_reg + 10 ≤ 10000 → NextAt cells k → k + 2 ≤ kept_at →
      OpensGathering p f w memory typed output drawn cells k
  pub meets_heap : (p : Program) → HasRunTime p → (f w : ℕ) → 2 ≤ f → (memory typed output : List ℕ) (drawn : ℕ) (cells : ℕ → ℕ) →
      Holds p.world.layout memory cells → cells heap_reg ≤ 10000 → 10000 < cells heap_reg + 10 →
      MeetsThe p HeapLimit f w OPEN_GATHERING_ACTS memory (0 ∷ 0 ∷ []) typed output drawn cells 12
  pub meets_aux : (p : Program) → HasRunTime p → (f w : ℕ) → 2 ≤ f → (memory typed output : List ℕ) (drawn : ℕ) (cells : ℕ → ℕ)
      (k : ℕ) →
      Holds p.world.layout memory cells → cells heap_reg + 10 ≤ 10000 → NextAt cells k → k ≤ kept_at → kept_at < k + 2 →
      MeetsThe p AuxLimit f w OPEN_GATHERING_ACTS memory (0 ∷ 0 ∷ []) typed output drawn cells 12

-- ## A value is gathered

-- The newest inner construct gathers a value.
pub record GathersNow (sh : Shape) (cells : ℕ → ℕ) (v : Value) : Type 0 where
  pub at : ℕ
  pub below : at + 10 ≤ 10000
  pub inner : cells inner_reg ≡ at_place at
  pub shows : Shows sh (cells (heap_at + (at + 8))) v

-- Nothing is gathered: there is no gathering, no inner construct, or it gathers nothing.
pub data NothingGathers (cells : ℕ → ℕ) : Type 0 where
  none_open : cells gather_reg ≡ 0 → NothingGathers cells
  none_around : cells inner_reg ≡ 0 → NothingGathers cells
  no_value_there : (at : ℕ) → at + 10 ≤ 10000 → cells inner_reg ≡ at_place at → cells (heap_at + (at + 8)) ≡ 65535 → NothingGathers cells

-- The routine that fails was answered, within so many instructions, and words are changed.
pub record Keeps (p : Program) (memory typed output : List ℕ) (drawn : ℕ) (cells : ℕ → ℕ) (most : ℕ) : Type 0 where
  pub memory' : List ℕ
  pub cells' : ℕ → ℕ
  pub locals' : List ℕ
  pub holds : Holds p.world.layout memory' cells'
  pub count : ℕ
  pub few : count ≤ most
  pub runs : Runs p 3500 19000 KEEP_VALUE_ACTS KEEP_VALUE_ACTS (state memory (0 ∷ 0 ∷ []) typed drawn output) (Returns (p.names.routine FAIL))
      (state memory' locals' typed drawn output) count

-- A value was put behind those of the newest gathering, whose end is behind it then.
pub record KeepsValue (p : Program) (memory typed output : List ℕ) (drawn : ℕ) (cells : ℕ → ℕ) (j : ℕ) (vs : List Value) (v : Value)
    (most : ℕ) : Type 0 where
  pub keeps : Keeps p memory typed output drawn cells most
  pub end : keeps.cells' (j + 1) ≡ at_cell (j + 2 + length (rows_of vs) + length (words_of v))
  pub row : Row keeps.cells' (j + 2 + length (rows_of vs)) (words_of v)
  pub others : (i : ℕ) → i ≢ j + 1 → (j + 2 + length (rows_of vs) ≤ i → kept_at ≤ i) → keeps.cells' i ≡ cells i

-- What it takes at most.
abbrev pub keep_most : Substitution → ℕ → Value → ℕ
keep_most S n v = 20 * looks S n v + 8 * letters_in (resolved S v) + 12

-- So it is where there is room for the cells of a value, as it is now; else the limit of what is gathered is met; and where nothing is gathered nothing is
-- changed. The variable n isn't in the value.
pub record KeepWorks : Type 0 where
  pub keeps : (p : Program) → HasRunTime p → (sh : Shape) → IsShape sh → (typed output : List ℕ) (drawn : ℕ) (S : Substitution) (memory : List ℕ)
      (cells : ℕ → ℕ) → Holds p.world.layout memory cells → Stands sh cells S → (v : Value) (n : ℕ) → contains n (resolved S v) ≡ false →
      (j around : ℕ) (vs : List Value) → GatheredAt cells j around vs → GathersNow sh cells v →
      j + 2 + length (rows_of vs) + length (words_of (resolved S v)) ≤ kept_at →
      KeepsValue p memory typed output drawn cells j vs (resolved S v) (keep_most S n v)
  pub meets : (p : Program) → HasRunTime p → (sh : Shape) → IsShape sh → (typed output : List ℕ) (drawn : ℕ) (S : Substitution) (memory : List ℕ)
      (cells : ℕ → ℕ) → Holds p.world.layout memory cells → Stands sh cells S → (v : Value) (n : ℕ) → contains n (resolved S v) ≡ false →
      (j around : ℕ) (vs : List Value) → GatheredAt cells j around vs → GathersNow sh cells v →
      kept_at < j + 2 + length (rows_of vs) + length (words_of (resolved S v)) →
      MeetsThe p AuxLimit 3500 19000 KEEP_VALUE_ACTS memory (0 ∷ 0 ∷ []) typed output drawn cells (keep_most S n v)
  pub nothing : (p : Program) → HasRunTime p → (typed output : List ℕ) (drawn : ℕ) (memory : List ℕ) (cells : ℕ → ℕ) →
      Holds p.world.layout memory cells → NothingGathers cells → (k : Keeps p memory typed output drawn cells 8) × ((i : ℕ) → k.cells' i ≡ cells i)

-- ## What was gathered is taken out

-- What it takes at most to lay the list of some values.
abbrev pub list_most : List Value → ℕ
list_most vs = sum_by (λ v. 60 * size v + 8 * letters_in v) vs + 60

-- The list of what was gathered was laid on top of the heap, and memory stands for it and for what it stood for, in a grown shape. The gathering is gone.
pub record TakesList (p : Program) (story memory typed output : List ℕ) (drawn : ℕ) (sh : Shape) (S : Substitution) (cells : ℕ → ℕ) (around : ℕ)
    (vs : List Value) : Type 0 where
  pub memory' : List ℕ
  pub cells' : ℕ → ℕ
  pub locals' : List ℕ
  pub holds : Holds p.world.layout memory' cells'
  pub kept : IsKept p.world.layout.base story memory'
  pub clash : cells' clash_reg ≡ 0
  pub named : cells' gather_reg ≡ around
  pub heap : cells' heap_reg ≡ sh.top + copy_cells (list_of vs)
  pub others : (i : ℕ) → i ≢ clash_reg → i ≢ gather_reg → i ≢ heap_reg → i ≢ from_reg → i ≢ fill_reg →
      (heap_at + sh.top ≤ i → heap_at + (sh.top + copy_cells (list_of vs)) ≤ i) → cells' i ≡ cells i
  pub sh' : Shape
  pub top : sh'.top ≡ sh.top + copy_cells (list_of vs)
  pub vars : sh'.vars ≡ sh.vars + vars_in (list_of vs)
  pub grown : Grown sh sh'
  pub shape : IsShape sh'
  pub places_low : (n : ℕ) → n < sh'.vars → sh'.place n < sh'.top
  pub places_new : (n : ℕ) → sh.vars ≤ n → n < sh'.vars → sh.top ≤ sh'.place n
  pub boxes_old : (k : ℕ) (v : Value) → sh'.box k ≡ Some v → k < sh.top → sh.box k ≡ Some v
  pub stands : Stands sh' cells' S
  pub shows : Shows sh' (copy_word sh.top (list_of vs)) (copy_from sh.vars (list_of vs))
  pub small : copy_word sh.top (list_of vs) < 65536
  pub count : ℕ
  pub few : count ≤ list_most vs
  pub runs : Runs p 2400 14000 TAKE_LIST_ACTS TAKE_LIST_ACTS (state memory (0 ∷ 0 ∷ 0 ∷ 0 ∷ 0 ∷ []) typed drawn output)
      (Returns (copy_word sh.top (list_of vs))) (state memory' locals' typed drawn output) count

-- Nothing was taken out: the register of clashes is 1, and this is answered.
pub record TakesNone (p : Program) (acts : List Act) (memory locals typed output : List ℕ) (drawn : ℕ) (cells : ℕ → ℕ) : Type 0 where
  pub memory' : List ℕ
  pub cells' : ℕ → ℕ
  pub locals' : List ℕ
  pub holds : Holds p.world.layout memory' cells'
  pub clash : cells' clash_reg ≡ 1
  pub others : (i : ℕ) → i ≢ clash_reg → cells' i ≡ cells i
  pub runs : Runs p 2400 14000 acts acts (state memory locals typed drawn output) (Returns 65535) (state memory' locals' typed drawn output) 3

-- So it is with a gathering whose values are formed, where there is room for the list; else the heap's limit is met.
pub record ListWorks : Type 0 where
  pub takes : (p : Program) (story : List ℕ) (sh : Shape) → HasCaptures p story sh.captures → (typed output : List ℕ) (drawn : ℕ) (memory : List ℕ)
      (cells : ℕ → ℕ) → Holds p.world.layout memory cells → IsKept p.world.layout.base story memory → IsShape sh →
      ((n : ℕ) → n < sh.vars → sh.place n < sh.top) → (S : Substitution) → Stands sh cells S →
      ((n : ℕ) → sh.vars ≤ n → binding_of n S ≡ None) → cells heap_reg ≡ sh.top → (j around : ℕ) (vs : List Value) →
      GatheredAt cells j around vs → AreFormed sh.captures vs → sh.top + copy_cells (list_of vs) ≤ 10000 →
      TakesList p story memory typed output drawn sh S cells around vs
  pub meets : (p : Program) (story : List ℕ) (sh : Shape) → HasCaptures p story sh.captures → (typed output : List ℕ) (drawn : ℕ) (memory : List ℕ)
      (cells : ℕ → ℕ) → Holds p.world.layout memory cells → IsKept p.world.layout.base story memory → cells heap_reg ≡ sh.top →
      sh.top ≤ 10000 →
      (j around : ℕ) (vs : List Value) → GatheredAt cells j around vs → AreFormed sh.captures vs → 10000 < sh.top + copy_cells (list_of vs) →
      MeetsThe p HeapLimit 2400 14000 TAKE_LIST_ACTS memory (0 ∷ 0 ∷ 0 ∷ 0 ∷ 0 ∷ []) typed output drawn cells (list_most vs)
  pub none : (p : Program) → HasRunTime p → (typed output : List ℕ) (drawn : ℕ) (memory : List ℕ) (cells : ℕ → ℕ) →
      Holds p.world.layout memory cells →
      cells gather_reg ≡ 0 → TakesNone p TAKE_LIST_ACTS memory (0 ∷ 0 ∷ 0 ∷ 0 ∷ 0 ∷ []) typed output drawn cells

-- The sum of what was gathered was answered, or no value where there is none, and the gathering is gone.
pub record TakesSum (p : Program) (memory typed output : List ℕ) (drawn : ℕ) (cells : ℕ → ℕ) (around : ℕ) (vs : List Value) : Type 0 where
  pub memory' : List ℕ
  pub cells' : ℕ → ℕ
  pub locals' : List ℕ
  pub holds : Holds p.world.layout memory' cells'
  pub clash : cells' clash_reg ≡ clash_of (total vs)
  pub small : IsNumber (total vs)
  pub named : cells' gather_reg ≡ around
  pub others : (i : ℕ) → i ≢ clash_reg → i ≢ gather_reg → cells' i ≡ cells i
  pub count : ℕ
  pub few : count ≤ 10 * length vs + 12
  pub runs : Runs p 2400 14000 TAKE_SUM_ACTS TAKE_SUM_ACTS (state memory (0 ∷ 0 ∷ 0 ∷ 0 ∷ []) typed drawn output) (Returns (result_word (total vs)))
      (state memory' locals' typed drawn output) count

-- So it is with a gathering whose values are formed.
pub record SumWorks : Type 0 where
  pub takes : (p : Program) → HasRunTime p → (captures : ℕ → ℕ) (typed output : List ℕ) (drawn : ℕ) (memory : List ℕ) (cells : ℕ → ℕ) →
      Holds p.world.layout memory cells → (j around : ℕ) (vs : List Value) → GatheredAt cells j around vs → AreFormed captures vs →
      TakesSum p memory typed output drawn cells around vs
  pub none : (p : Program) → HasRunTime p → (typed output : List ℕ) (drawn : ℕ) (memory : List ℕ) (cells : ℕ → ℕ) →
      Holds p.world.layout memory cells →
      cells gather_reg ≡ 0 → TakesNone p TAKE_SUM_ACTS memory (0 ∷ 0 ∷ 0 ∷ 0 ∷ []) typed output drawn cells
