-- Values of global variables in memory, and what the routines do that change and read them. Hold it against docs/LANGUAGE.md, where it says what is kept,
-- and dg_meaning/specs/Facts.antt, "What is kept".
use Rattle.std.specs.Prelude.{◌≡◌, ◌≢◌, ℕ, ◌+◌, ◌*◌, ◌<◌, ◌≤◌, ◌⊎◌, List, [], ◌∷◌, ◌++◌, length, Option, Some, None, true, false, ◌==◌, if◌then◌else◌}
use Rattle.dg_base.specs.declared.run.Ending.TheVariants.{KeepLimit}
use Rattle.dg_meaning.specs.Values.{Value}
use Rattle.dg_meaning.specs.Substitutions.{Substitution, resolved, contains}
use Rattle.dg_meaning.specs.TypeTests.{is_fully_bound}
use Rattle.dg_meaning.specs.Letters.{letters_in}
use Rattle.dg_meaning.specs.Unify.{looks, size}
use Rattle.dg_meaning.specs.Copies.{vars_in, copy_from, copy_cells}
use Rattle.dg_meaning.specs.inside.Unifiers.{binding_of}
use Rattle.z_model.specs.declared.end.Halt.TheVariants.{AtQuit}
use Rattle.z_lang.specs.declared.act.Act.{Act}
use Rattle.z_lang.specs.State.{Program}
use Rattle.z_lang.specs.Runs.{ActsRun as Runs, Returns, Stops}
use Rattle.dg_rt.specs.declared.kept.TheConstants.{KEEP_ACTS, CLEAR_KEPT_ACTS, READ_KEPT_ACTS}
use Rattle.dg_rt.specs.Cells.{at_cell, Holds}
use Rattle.dg_rt.specs.Areas.{heap_at, kept_at, owners_at, line_at, fixed_end, heap_reg, clash_reg, last_reg, from_reg, fill_reg, state}
use Rattle.dg_rt.specs.Shapes.{Shape, IsShape, Shows, Stands}
use Rattle.dg_rt.specs.Back.{Grown}
use Rattle.dg_rt.specs.RunTime.{HasRunTime}
use Rattle.dg_rt.specs.Closings.{closing, closing_most}
use Rattle.dg_rt.specs.Charges.{MeetsLimit}
use Rattle.dg_rt.specs.Laying.{Formed, copy_word}
use Rattle.dg_rt.specs.Copies.{words_of, Row}
use Rattle.dg_rt.specs.CopiesIn.{HasCaptures, Reading}
use Rattle.dg_rt.specs.Conditions.{Decides}
use Rattle.dg_rt.specs.Operands.{no_value}
use Rattle.dg_rt.specs.Changes.{Argued}

-- ## Values that are kept

-- A value that is kept, and the first word of the variable's own.
pub record Block : Type 0 where
  pub entry : ℕ
  pub value : Value

abbrev pub block : ℕ → Value → Block
block h v = record { entry = h; value = v }

-- How many words some values take.
abbrev pub total : List Block → ℕ
total [] = 0
total (b ∷ bs) = length (words_of b.value) + total bs

-- The value of a variable, if it has one.
abbrev pub value_in : List Block → ℕ → Option Value
value_in [] h = None
value_in (b ∷ bs) h = if b.entry == h then Some b.value else value_in bs h

-- The values of the others.
abbrev pub without : ℕ → List Block → List Block
without h [] = []
without h (b ∷ bs) = if b.entry == h then without h bs else b ∷ without h bs

-- ## Where they lie

-- Two words of the variable say where its value begins and how many words it has, and a word behind the area says whose value begins there.
pub record BlockIn (cells : ℕ → ℕ) (j : ℕ) (b : Block) : Type 0 where
  pub begins : cells b.entry ≡ at_cell j
  pub long : cells (b.entry + 1) ≡ length (words_of b.value)
  pub owner : cells (j + 500) ≡ at_cell b.entry
  pub row : Row cells j (words_of b.value)

-- Values lie one behind another.
abbrev pub BlocksIn : (ℕ → ℕ) → ℕ → List Block → Type 0
BlocksIn cells j [] = Unit {0}
BlocksIn cells j (b ∷ bs) = BlockIn cells j b × BlocksIn cells (j + length (words_of b.value)) bs

-- The words of a variable's own lie behind all that every story has, in front of an end.
pub record IsEntry (last h : ℕ) : Type 0 where
  pub from : fixed_end ≤ h
  pub within : h + 2 ≤ last

-- They are apart from those of another one.
abbrev pub IsApart : ℕ → ℕ → Type 0
IsApart h i = (h + 2 ≤ i) ⊎ (i + 2 ≤ h)

-- So they are from those of some values.
abbrev pub IsBeside : ℕ → List Block → Type 0
IsBeside h [] = Unit {0}
IsBeside h (b ∷ bs) = IsApart h b.entry × IsBeside h bs

-- Each value has words of a variable's own.
abbrev pub HaveEntries : ℕ → List Block → Type 0
HaveEntries last [] = Unit {0}
HaveEntries last (b ∷ bs) = IsEntry last b.entry × (IsBeside b.entry bs × HaveEntries last bs)

-- The values are kept: they lie in the area from its first word on, and where there is room behind the last, no value begins.
pub record KeptIn (last : ℕ) (cells : ℕ → ℕ) (bs : List Block) : Type 0 where
  pub lie : BlocksIn cells kept_at bs
  pub end : total bs < 500 → cells (owners_at + total bs) ≡ 0
  pub few : total bs ≤ 500
  pub entries : HaveEntries last bs

-- A variable has one of the values, or none; the words of its own are apart from those of the other values.
pub record IsVariable (last : ℕ) (cells : ℕ → ℕ) (bs : List Block) (h : ℕ) : Type 0 where
  pub entry : IsEntry last h
  pub beside : IsBeside h (without h bs)
  pub unset : value_in bs h ≡ None → cells h ≡ 0

-- No value has this word as the first of its variable's own.
abbrev pub NoEntry : ℕ → List Block → Type 0
NoEntry k [] = Unit {0}
NoEntry k (b ∷ bs) = (k ≢ b.entry) × NoEntry k bs

-- ## Changes

-- A routine changed what is kept, to these values, and another one comes next. Only words of the area and of what names its values have changed, the
-- first words of other variables' own, and both words of this one's.
pub record Alters (p : Program) (f w : ℕ) (acts : List Act) (memory locals typed output : List ℕ) (drawn last h next : ℕ) (cells : ℕ → ℕ)
    (bs bs' : List Block) (most : ℕ) : Type 0 where
  pub memory' : List ℕ
  pub cells' : ℕ → ℕ
  pub locals' : List ℕ
  pub holds : Holds p.world.layout memory' cells'
  pub kept : KeptIn last cells' bs'
  pub unset : value_in bs' h ≡ None → cells' h ≡ 0
  pub others : (k : ℕ) → (kept_at ≤ k → line_at ≤ k) → k ≢ h → k ≢ h + 1 → NoEntry k bs → cells' k ≡ cells k
  pub count : ℕ
  pub few : count ≤ most
  pub runs : Runs p f w acts acts (state memory locals typed drawn output) (Returns next) (state memory' locals' typed drawn output) count

-- The limit of what is kept was met: its closing ends the run, in so many instructions and those of the closing.
pub record MeetsKeep (p : Program) (f w : ℕ) (acts : List Act) (memory locals typed output : List ℕ) (drawn : ℕ) (cells : ℕ → ℕ)
    (most : ℕ) : Type 0 where
  pub memory' : List ℕ
  pub count : ℕ
  pub runs : Runs p f w acts acts (state memory locals typed drawn output) (Stops AtQuit)
      (state memory' [] typed drawn (output ++ closing (cells last_reg) KeepLimit)) count
  pub few : count ≤ most + closing_most

-- A value is kept behind the others in place of the variable's own; it fails where an unbound variable stands in it, and else the limit is met where
-- there is no room for it.
pub record Keeping (p : Program) (f w : ℕ) (memory locals typed output : List ℕ) (drawn last h next : ℕ) (cells : ℕ → ℕ) (bs : List Block)
    (v : Value) (most : ℕ) : Type 0 where
  pub fails : is_fully_bound v ≡ false → Decides p f w KEEP_ACTS memory locals typed output drawn next false most
  pub keeps : is_fully_bound v ≡ true → total (without h bs) + length (words_of v) ≤ 500 →
      Alters p f w KEEP_ACTS memory locals typed output drawn last h next cells bs (without h bs ++ block h v ∷ [])
      (20 * total (without h bs) + most)
  pub meets : is_fully_bound v ≡ true → 500 < total (without h bs) + length (words_of v) →
      MeetsKeep p f w KEEP_ACTS memory locals typed output drawn cells (20 * total (without h bs) + most)

-- So it is with the first argument, resolved, in 35 instructions for each node and link of it and 8 for each letter, 20 for each word of the others, and
-- 50. The variable n, which isn't in the value, is the one for which a test of containment would look at all of it.
abbrev pub KeepWorks : Type 0
KeepWorks = (p : Program) → HasRunTime p → (f w : ℕ) → 3336 ≤ f → 16680 ≤ w → (memory typed output : List ℕ) (drawn : ℕ) (sh : Shape)
    (cells : ℕ → ℕ) (S : Substitution) (v : Value) → Argued p memory sh cells S v → (n : ℕ) → contains n (resolved S v) ≡ false →
    (last h objects next : ℕ) (bs : List Block) → at_cell last ≤ p.world.layout.base → KeptIn last cells bs → IsVariable last cells bs h →
    Keeping p f w memory (at_cell h ∷ objects ∷ next ∷ 0 ∷ []) typed output drawn last h next cells bs (resolved S v)
    (35 * looks S n v + 8 * letters_in (resolved S v) + 50)

-- A variable becomes unset, in 20 instructions for each word of the others, and 30.
abbrev pub ClearKeptWorks : Type 0
ClearKeptWorks = (p : Program) → HasRunTime p → (f w : ℕ) → 2 ≤ f → 8 ≤ w → (memory typed output : List ℕ) (drawn : ℕ)
    (cells : ℕ → ℕ) →
    Holds p.world.layout memory cells → (last h objects next : ℕ) (bs : List Block) → at_cell last ≤ p.world.layout.base → KeptIn last cells bs →
    IsVariable last cells bs h →
    Alters p f w CLEAR_KEPT_ACTS memory (at_cell h ∷ objects ∷ next ∷ []) typed output drawn last h next cells bs (without h bs)
    (20 * total (without h bs) + 30)

-- ## Reading

-- No value is answered, and the register of clashes says so.
pub record ReadsNothing (p : Program) (f w : ℕ) (memory locals typed output : List ℕ) (drawn : ℕ) (cells : ℕ → ℕ) : Type 0 where
  pub memory' : List ℕ
  pub cells' : ℕ → ℕ
  pub locals' : List ℕ
  pub holds : Holds p.world.layout memory' cells'
  pub clash : cells' clash_reg ≡ 1
  pub others : (k : ℕ) → k ≢ clash_reg → cells' k ≡ cells k
  pub runs : Runs p f w READ_KEPT_ACTS READ_KEPT_ACTS (state memory locals typed drawn output) (Returns no_value)
      (state memory' locals' typed drawn output) 4

-- The word of a copy is answered that lies on top of the heap, and memory stands for it and for what it stood for, in a grown shape, whose new
-- variables and boxes lie there.
pub record ReadsCopy (p : Program) (story : List ℕ) (area : ℕ → ℕ) (f w : ℕ) (locals typed output : List ℕ) (drawn : ℕ)
    (m : Reading p story area) (sh : Shape) (S : Substitution) (v : Value) : Type 0 where
  pub m' : Reading p story area
  pub locals' : List ℕ
  pub clash : m'.cells clash_reg ≡ 0
  pub heap : m'.cells heap_reg ≡ sh.top + copy_cells v
  pub others : (k : ℕ) → k ≢ heap_reg → k ≢ clash_reg → k ≢ from_reg → k ≢ fill_reg →
      (heap_at + sh.top ≤ k → heap_at + (sh.top + copy_cells v) ≤ k) → m'.cells k ≡ m.cells k
  pub sh' : Shape
  pub top : sh'.top ≡ sh.top + copy_cells v
  pub vars : sh'.vars ≡ sh.vars + vars_in v
  pub grown : Grown sh sh'
  pub shape : IsShape sh'
  pub low : (n : ℕ) → n < sh'.vars → sh'.place n < sh'.top
  pub new_places : (n : ℕ) → sh.vars ≤ n → n < sh'.vars → sh.top ≤ sh'.place n
  pub new_boxes : (k : ℕ) (u : Value) → sh'.box k ≡ Some u → k < sh.top → sh.box k ≡ Some u
  pub stands : Stands sh' m'.cells S
  pub shows : Shows sh' (copy_word sh.top v) (copy_from sh.vars v)
  pub count : ℕ
  pub few : count ≤ 38 * size v + 8 * letters_in v + 20
  pub runs : Runs p f w READ_KEPT_ACTS READ_KEPT_ACTS (state m.memory locals typed drawn output) (Returns (copy_word sh.top v))
      (state m'.memory locals' typed drawn output) count

-- A variable is read: a value is copied where there is room for it, and else the heap's limit is met.
pub record ReadsKept (p : Program) (story : List ℕ) (area : ℕ → ℕ) (f w : ℕ) (locals typed output : List ℕ) (drawn : ℕ)
    (m : Reading p story area) (sh : Shape) (S : Substitution) (set : Option Value) : Type 0 where
  pub nothing : set ≡ None → ReadsNothing p f w m.memory locals typed output drawn m.cells
  pub copies : (v : Value) → set ≡ Some v → sh.top + copy_cells v ≤ 10000 → ReadsCopy p story area f w locals typed output drawn m sh S v
  pub meets : (v : Value) → set ≡ Some v → 10000 < sh.top + copy_cells v →
      MeetsLimit p f w READ_KEPT_ACTS m.memory locals typed output drawn m.cells (14 * size v + 20)

-- So it is with each variable, whose value is formed as those of a program are.
abbrev pub ReadKeptWorks : Type 0
ReadKeptWorks = (p : Program) (story : List ℕ) (sh : Shape) → HasCaptures p story sh.captures → (f w : ℕ) → 502 ≤ f → 2510 ≤ w →
    (typed output : List ℕ) (drawn : ℕ) (area : ℕ → ℕ) (m : Reading p story area) → IsShape sh →
    ((n : ℕ) → n < sh.vars → sh.place n < sh.top) → m.cells heap_reg ≡ sh.top → (S : Substitution) → Stands sh m.cells S →
    ((n : ℕ) → sh.vars ≤ n → binding_of n S ≡ None) → (last h : ℕ) (bs : List Block) → at_cell last ≤ p.world.layout.base →
    KeptIn last m.cells bs → IsVariable last m.cells bs h →
    ((v : Value) → value_in bs h ≡ Some v → Formed sh.captures v) →
    ReadsKept p story area f w (at_cell h ∷ 0 ∷ 0 ∷ []) typed output drawn m sh S (value_in bs h)

-- ## All

-- The routines of global variables do so.
pub record KeptWork : Type 0 where
  pub keep : KeepWorks
  pub clear : ClearKeptWorks
  pub read : ReadKeptWorks
