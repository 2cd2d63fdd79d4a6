-- What is set of objects in memory, and what the routines do that change it and read it. Hold it against docs/LANGUAGE.md, "The world", and
-- dg_meaning/specs/Facts.antt and Changes.antt.
use Rattle.std.specs.Prelude.{◌≡◌, ◌≢◌, ℕ, ◌+◌, ◌*◌, ◌<◌, ◌≤◌, List, [], ◌∷◌, Option, Some, None, is_some, true, false, not}
use Rattle.dg_base.specs.declared.program.PlaceKind.{PlaceKind}
use Rattle.dg_base.specs.declared.program.PlaceKind.TheVariants.{ObjectVar, Parent, ObjectFlag}
use Rattle.dg_meaning.specs.Values.{Object, Value, Node}
use Rattle.dg_meaning.specs.Substitutions.{Substitution, walk, links, resolved}
use Rattle.dg_meaning.specs.Facts.{Fact, value_at, Alteration, ClearsAll, altered}
use Rattle.dg_meaning.specs.Changes.{object_change}
use Rattle.z_lang.specs.declared.act.Act.{Act}
use Rattle.z_lang.specs.State.{Program}
use Rattle.z_lang.specs.Runs.{ActsRun as Runs, Returns}
use Rattle.dg_rt.specs.declared.changes.TheConstants.{SET_VALUE_ACTS, SET_PARENT_ACTS, CLEAR_VALUE_ACTS, RAISE_FLAG_ACTS, LOWER_FLAG_ACTS, IF_RAISED_ACTS, IF_SET_ACTS, READ_VALUE_ACTS, PUT_ACTS}
use Rattle.dg_rt.specs.Cells.{at_cell, Holds, bit}
use Rattle.dg_rt.specs.Areas.{args_reg, clash_reg, state}
use Rattle.dg_rt.specs.Shapes.{Shape, IsShape, Shows, Stands}
use Rattle.dg_rt.specs.RunTime.{HasRunTime}
use Rattle.dg_rt.specs.Operands.{no_value}
use Rattle.dg_rt.specs.Conditions.{next_if, Decides}
use Rattle.dg_rt.specs.Tables.{IsTable, byte_at, AreBytes}

-- ## What is set

-- A word stands for what is set: no value for nothing, and for a value in every heap.
abbrev pub SetIn : ℕ → Option Value → Type 0
SetIn word None = word ≡ no_value
SetIn word (Some v) = (sh : Shape) → Shows sh word v

-- A table of so many words stands for what is set at a place of as many objects; nothing is set there of others.
pub record TableIn (cells : ℕ → ℕ) (t n : ℕ) (facts : List Fact) (place : ℕ) : Type 0 where
  pub each : (o : ℕ) → o < n → SetIn (cells (t + o)) (value_at facts place o)
  pub few : (o : ℕ) → n ≤ o → value_at facts place o ≡ None

-- A table of so many bytes, from one on, stands for the flags at a place of as many objects.
pub record FlagsIn (cells : ℕ → ℕ) (b n : ℕ) (facts : List Fact) (place : ℕ) : Type 0 where
  pub each : (o : ℕ) → o < n → byte_at cells (b + o) ≡ bit (is_some (value_at facts place o))
  pub few : (o : ℕ) → n ≤ o → value_at facts place o ≡ None

-- The facts behind a change, if there is one.
abbrev pub facts_behind : Option Alteration → List Fact → List Fact
facts_behind None facts = facts
facts_behind (Some a) facts = altered a facts

-- The objects that a change clears, where it clears a place of all of so many.
abbrev pub cleared : ℕ → Option Alteration → ℕ
cleared n (Some (ClearsAll place)) = n
cleared n change = 0

-- ## Changes

-- A routine changes a table of words, if there is a change, and the one behind comes next; or it changes nothing, and the one that fails does.
pub record AltersTable (p : Program) (f w : ℕ) (acts : List Act) (memory typed output : List ℕ) (drawn t n : ℕ) (cells : ℕ → ℕ)
    (facts : List Fact) (place next : ℕ) (change : Option Alteration) (most : ℕ) : Type 0 where
  pub memory' : List ℕ
  pub cells' : ℕ → ℕ
  pub holds : Holds p.world.layout memory' cells'
  pub table : TableIn cells' t n (facts_behind change facts) place
  pub others : (k : ℕ) → (t ≤ k → t + n ≤ k) → cells' k ≡ cells k
  pub locals' : List ℕ
  pub count : ℕ
  pub few : count ≤ most
  pub runs : Runs p f w acts acts (state memory (at_cell t ∷ n ∷ next ∷ 0 ∷ []) typed drawn output)
      (Returns (next_if p (is_some change) next)) (state memory' locals' typed drawn output) count

-- So it is with a table of bytes; every other byte stays, and every word that isn't of the table.
pub record AltersFlags (p : Program) (f w : ℕ) (acts : List Act) (memory typed output : List ℕ) (drawn b n : ℕ) (cells : ℕ → ℕ)
    (facts : List Fact) (place next : ℕ) (change : Option Alteration) (most : ℕ) : Type 0 where
  pub memory' : List ℕ
  pub cells' : ℕ → ℕ
  pub holds : Holds p.world.layout memory' cells'
  pub flags : FlagsIn cells' b n (facts_behind change facts) place
  pub bytes : (j : ℕ) → (b ≤ j → b + n ≤ j) → byte_at cells' j ≡ byte_at cells j
  pub others : (k : ℕ) → (b ≤ 2 * k + 1 → b + n ≤ 2 * k) → cells' k ≡ cells k
  pub locals' : List ℕ
  pub count : ℕ
  pub few : count ≤ most
  pub runs : Runs p f w acts acts (state memory ((64 + b) ∷ n ∷ next ∷ 0 ∷ []) typed drawn output)
      (Returns (next_if p (is_some change) next)) (state memory' locals' typed drawn output) count

-- A first argument stands in its register.
pub record Argued (p : Program) (memory : List ℕ) (sh : Shape) (cells : ℕ → ℕ) (S : Substitution) (v : Value) : Type 0 where
  pub shape : IsShape sh
  pub holds : Holds p.world.layout memory cells
  pub stands : Stands sh cells S
  pub first : Shows sh (cells args_reg) v

-- A value of an object is set so, at a place of this kind: a first argument is the object, and a second its value.
abbrev pub SetsValue : PlaceKind → List Act → Type 0
SetsValue kind acts = (p : Program) → HasRunTime p → (f w : ℕ) → 3 ≤ f → 16 ≤ w → (memory typed output : List ℕ) (drawn : ℕ) (sh : Shape)
    (cells : ℕ → ℕ) (S : Substitution) (v u : Value) → Argued p memory sh cells S v → Shows sh (cells (args_reg + 1)) u →
    (t n place next : ℕ) (facts : List Fact) (others : List Value) → IsTable p t n → n ≤ 4096 → TableIn cells t n facts place →
    AltersTable p f w acts memory typed output drawn t n cells facts place next
    (object_change n kind place true (resolved S v ∷ resolved S u ∷ others)) (5 * links S v + 5 * links S u + 40)

-- So it is cleared, of one object or of each.
abbrev pub ClearsValue : Type 0
ClearsValue = (p : Program) → HasRunTime p → (f w : ℕ) → 3 ≤ f → 16 ≤ w → (memory typed output : List ℕ) (drawn : ℕ) (sh : Shape)
    (cells : ℕ → ℕ) (S : Substitution) (v : Value) → Argued p memory sh cells S v → (t n place next : ℕ) (facts : List Fact)
    (kind : PlaceKind) (others : List Value) → IsTable p t n → n ≤ 4096 → TableIn cells t n facts place →
    AltersTable p f w CLEAR_VALUE_ACTS memory typed output drawn t n cells facts place next
    (object_change n kind place false (resolved S v ∷ others))
    (10 * links S v + 4 * cleared n (object_change n kind place false (resolved S v ∷ others)) + 50)

-- So a flag of an object is set.
abbrev pub RaisesFlag : Type 0
RaisesFlag = (p : Program) → HasRunTime p → (f w : ℕ) → 3 ≤ f → 16 ≤ w → (memory typed output : List ℕ) (drawn : ℕ) (sh : Shape)
    (cells : ℕ → ℕ) (S : Substitution) (v : Value) → Argued p memory sh cells S v → (b n place next : ℕ) (facts : List Fact)
    (others : List Value) → AreBytes p b n → n ≤ 4096 → FlagsIn cells b n facts place →
    AltersFlags p f w RAISE_FLAG_ACTS memory typed output drawn b n cells facts place next
    (object_change n ObjectFlag place true (resolved S v ∷ others)) (5 * links S v + 50)

-- So it is cleared, of one object or of each.
abbrev pub LowersFlag : Type 0
LowersFlag = (p : Program) → HasRunTime p → (f w : ℕ) → 3 ≤ f → 16 ≤ w → (memory typed output : List ℕ) (drawn : ℕ) (sh : Shape)
    (cells : ℕ → ℕ) (S : Substitution) (v : Value) → Argued p memory sh cells S v → (b n place next : ℕ) (facts : List Fact)
    (kind : PlaceKind) (others : List Value) → AreBytes p b n → n ≤ 4096 → FlagsIn cells b n facts place →
    AltersFlags p f w LOWER_FLAG_ACTS memory typed output drawn b n cells facts place next
    (object_change n kind place false (resolved S v ∷ others))
    (10 * links S v + 22 * cleared n (object_change n kind place false (resolved S v ∷ others)) + 60)

-- A routine gives one word a value, and another one comes next.
pub record Puts (p : Program) (f w : ℕ) (memory typed output : List ℕ) (drawn t x next : ℕ) (cells : ℕ → ℕ) : Type 0 where
  pub memory' : List ℕ
  pub cells' : ℕ → ℕ
  pub holds : Holds p.world.layout memory' cells'
  pub is : cells' t ≡ x
  pub others : (k : ℕ) → k ≢ t → cells' k ≡ cells k
  pub runs : Runs p f w PUT_ACTS PUT_ACTS (state memory (at_cell t ∷ x ∷ next ∷ []) typed drawn output) (Returns next)
      (state memory' (at_cell t ∷ x ∷ next ∷ []) typed drawn output) 2

-- So a flag of no object is set and cleared.
abbrev pub PutsWord : Type 0
PutsWord = (p : Program) (f w : ℕ) (memory typed output : List ℕ) (drawn t x next : ℕ) (cells : ℕ → ℕ) → Holds p.world.layout memory cells →
    IsTable p t 1 → x < 65536 → Puts p f w memory typed output drawn t x next cells

-- ## Queries

-- What is set at a place of the object that a value is: nothing where it is none.
abbrev pub set_of : List Fact → ℕ → Value → Option Value
set_of facts place (Node (Object o) parts) = value_at facts place o
set_of facts place v = None

-- Whether a flag of an object is set is decided.
abbrev pub TestsFlag : Type 0
TestsFlag = (p : Program) → HasRunTime p → (f w : ℕ) → 3 ≤ f → 16 ≤ w → (memory typed output : List ℕ) (drawn : ℕ) (sh : Shape)
    (cells : ℕ → ℕ) (S : Substitution) (v : Value) → Argued p memory sh cells S v → (b n place next : ℕ) (facts : List Fact) →
    AreBytes p b n → n ≤ 4096 → FlagsIn cells b n facts place →
    Decides p f w IF_RAISED_ACTS memory ((64 + b) ∷ n ∷ next ∷ []) typed output drawn next (is_some (set_of facts place (walk S v)))
    (5 * links S v + 40)

-- So is whether something is set at a place of no object, in 4 instructions.
abbrev pub TestsSet : Type 0
TestsSet = (p : Program) → HasRunTime p → (f w : ℕ) (memory typed output : List ℕ) (drawn : ℕ) (cells : ℕ → ℕ) →
    Holds p.world.layout memory cells → (t place next : ℕ) (facts : List Fact) → IsTable p t 1 → TableIn cells t 1 facts place →
    Decides p f w IF_SET_ACTS memory (at_cell t ∷ next ∷ []) typed output drawn next (is_some (value_at facts place 0)) 4

-- A word is answered that stands for what is set, and the register of clashes says whether there is nothing; nothing else is changed.
pub record ReadsValue (p : Program) (f w : ℕ) (memory typed output : List ℕ) (drawn t n : ℕ) (cells : ℕ → ℕ) (set : Option Value)
    (most : ℕ) : Type 0 where
  pub memory' : List ℕ
  pub cells' : ℕ → ℕ
  pub holds : Holds p.world.layout memory' cells'
  pub clash : cells' clash_reg ≡ bit (not (is_some set))
  pub others : (k : ℕ) → k ≢ clash_reg → cells' k ≡ cells k
  pub word : ℕ
  pub is : SetIn word set
  pub locals' : List ℕ
  pub count : ℕ
  pub few : count ≤ most
  pub runs : Runs p f w READ_VALUE_ACTS READ_VALUE_ACTS (state memory (at_cell t ∷ n ∷ []) typed drawn output) (Returns word)
      (state memory' locals' typed drawn output) count

-- So it is with the word of an object.
abbrev pub ValuesAreRead : Type 0
ValuesAreRead = (p : Program) → HasRunTime p → (f w : ℕ) → 3 ≤ f → 16 ≤ w → (memory typed output : List ℕ) (drawn : ℕ) (sh : Shape)
    (cells : ℕ → ℕ) (S : Substitution) (v : Value) → Argued p memory sh cells S v → (t n place : ℕ) (facts : List Fact) →
    IsTable p t n → n ≤ 4096 → TableIn cells t n facts place →
    ReadsValue p f w memory typed output drawn t n cells (set_of facts place (walk S v)) (5 * links S v + 40)

-- ## All

-- The routines that change and read what is set of objects do so.
pub record ChangesWork : Type 0 where
  pub set_value : SetsValue ObjectVar SET_VALUE_ACTS
  pub set_parent : SetsValue Parent SET_PARENT_ACTS
  pub clear_value : ClearsValue
  pub raise : RaisesFlag
  pub lower : LowersFlag
  pub put : PutsWord
  pub raised : TestsFlag
  pub is_set : TestsSet
  pub read : ValuesAreRead
