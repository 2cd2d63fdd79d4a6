-- What the routine does that lays a copy of a value on the heap. Hold it against docs/LANGUAGE.md, where it says that the variables of a copy are new.
use Rattle.std.specs.Prelude.{◌≡◌, ◌≢◌, ℕ, ◌+◌, ◌*◌, ◌<◌, ◌≤◌, List, [], ◌∷◌, length, Some, None}
use Rattle.dg_meaning.specs.Values.{Value}
use Rattle.dg_meaning.specs.Copies.{vars_in, copy_from, copy_cells}
use Rattle.dg_meaning.specs.Substitutions.{Substitution}
use Rattle.dg_meaning.specs.inside.Unifiers.{binding_of}
use Rattle.dg_meaning.specs.Letters.{letters_in}
use Rattle.dg_meaning.specs.Unify.{size}
use Rattle.z_lang.specs.declared.act.Act.{Act}
use Rattle.z_lang.specs.declared.act.Function.TheVariants as functions
use Rattle.z_lang.specs.State.{Program}
use Rattle.z_lang.specs.Acts.{computed}
use Rattle.z_lang.specs.Runs.{ActsRun as Runs, Returns}
use Rattle.z_lang.specs.Standing.{IsKept}
use Rattle.dg_rt.specs.declared.copies.TheConstants.{COPY_IN_ACTS}
use Rattle.dg_rt.specs.Cells.{at_cell, Holds}
use Rattle.dg_rt.specs.Areas.{heap_at, areas_end, from_reg, fill_reg, state}
use Rattle.dg_rt.specs.Shapes.{Shape, IsShape, Shows, Stands}
use Rattle.dg_rt.specs.Back.{Grown}
use Rattle.dg_rt.specs.RunTime.{HasRunTime}
use Rattle.dg_rt.specs.Laying.{Formed, copy_word, Lies}
use Rattle.dg_rt.specs.Copies.{words_of, Row}

-- Table 0 tells how many values the closure of each place captures, wherever memory is the story's from its static part on.
pub record HasCaptures (p : Program) (story : List ℕ) (captures : ℕ → ℕ) : Type 0 where
  pub has : HasRunTime p
  pub told : (m : List ℕ) (place : ℕ) → place < 16384 → captures place < 256 → IsKept p.world.layout.base story m →
      computed p.world.layout m functions.Byte (p.names.table 0) place ≡ Some (captures place)

-- Memory at a moment of a copy: behind the trail it is as when the copy began.
pub record Reading (p : Program) (story : List ℕ) (area : ℕ → ℕ) : Type 0 where
  pub memory : List ℕ
  pub cells : ℕ → ℕ
  pub holds : Holds p.world.layout memory cells
  pub kept : IsKept p.world.layout.base story memory
  pub behind : (k : ℕ) → areas_end ≤ k → cells k ≡ area k

-- Words are the same but in the two registers, and in places of the heap.
abbrev pub SameBut : (ℕ → ℕ) → (ℕ → ℕ) → ℕ → ℕ → Type 0
SameBut cells cells' lo hi = (k : ℕ) → k ≢ from_reg → k ≢ fill_reg → (heap_at + lo ≤ k → heap_at + hi ≤ k) → cells' k ≡ cells k

-- Acts of the routine answer the word of a copy that lies from a place on, up to the place that the second register held, and have read its cells.
pub record CopiesIn (p : Program) (story : List ℕ) (area : ℕ → ℕ) (f : ℕ) (acts : List Act) (typed output : List ℕ) (drawn : ℕ)
    (m : Reading p story area) (locals : List ℕ) (r lo : ℕ) (v : Value) (spent most : ℕ) : Type 0 where
  pub m' : Reading p story area
  pub locals' : List ℕ
  pub count : ℕ
  pub runs : Runs p f (5 * f) COPY_IN_ACTS acts (state m.memory locals typed drawn output) (Returns (copy_word lo v))
      (state m'.memory locals' typed drawn output) count
  pub from : m'.cells from_reg ≡ at_cell (r + length (words_of v))
  pub fill : m'.cells fill_reg ≡ lo
  pub lies : Lies (λ k. m'.cells (heap_at + k)) lo v
  pub others : SameBut m.cells m'.cells lo (lo + copy_cells v)
  pub few : count + spent ≤ most

-- A copy was laid on top of the heap, and memory stands for it and for what it stood for, in a grown shape, whose new variables and boxes lie there.
pub record CopiedIn (p : Program) (story : List ℕ) (area : ℕ → ℕ) (typed output : List ℕ) (drawn : ℕ) (m : Reading p story area) (sh : Shape)
    (S : Substitution) (r : ℕ) (v : Value) : Type 0 where
  pub copies : CopiesIn p story area (size v) COPY_IN_ACTS typed output drawn m (0 ∷ 0 ∷ 0 ∷ 0 ∷ 0 ∷ []) r sh.top v 0 (24 * size v + 8 * letters_in v)
  pub sh' : Shape
  pub top : sh'.top ≡ sh.top + copy_cells v
  pub vars : sh'.vars ≡ sh.vars + vars_in v
  pub grown : Grown sh sh'
  pub shape : IsShape sh'
  pub low : (n : ℕ) → n < sh'.vars → sh'.place n < sh'.top
  pub new_places : (n : ℕ) → sh.vars ≤ n → n < sh'.vars → sh.top ≤ sh'.place n
  pub new_boxes : (k : ℕ) (w : Value) → sh'.box k ≡ Some w → k < sh.top → sh.box k ≡ Some w
  pub stands : Stands sh' copies.m'.cells S
  pub shows : Shows sh' (copy_word sh.top v) (copy_from sh.vars v)

-- So it does with the cells of any value, in as many frames as the value has nodes, and within 24 instructions for each of them and 8 for each letter.
abbrev pub CopyInWorks : Type 0
CopyInWorks = (p : Program) (story : List ℕ) (sh : Shape) → HasCaptures p story sh.captures → (typed output : List ℕ) (drawn : ℕ) (area : ℕ → ℕ)
    (m : Reading p story area) → IsShape sh → ((n : ℕ) → n < sh.vars → sh.place n < sh.top) → (S : Substitution) → Stands sh m.cells S →
    ((n : ℕ) → sh.vars ≤ n → binding_of n S ≡ None) → (v : Value) (r : ℕ) → Formed sh.captures v → areas_end ≤ r →
    at_cell (r + length (words_of v)) ≤ p.world.layout.base → at_cell (r + length (words_of v)) < 65536 → Row area r (words_of v) →
    m.cells from_reg ≡ at_cell r → m.cells fill_reg ≡ sh.top + copy_cells v → sh.top + copy_cells v ≤ 10000 →
    CopiedIn p story area typed output drawn m sh S r v
