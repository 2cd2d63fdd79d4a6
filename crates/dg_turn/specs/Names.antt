-- The names of a program's objects, in routines: each is found by its number, and printed. Hold it against docs/LANGUAGE.md, where it says how an object is
-- printed, and dg_meaning/specs/Pieces.antt.
use Rattle.std.specs.Prelude.{◌≡◌, ℕ, zero, suc, ◌+◌, ◌/◌, ◌≤◌, List, [], ◌∷◌, ◌++◌, length, map, take, drop, codes, Some, None, All, Bool, false}
use Rattle.std.specs.Prelude.{get_or, nat_lt, if◌then◌else◌}
use Rattle.std.specs.List.{slice_get}
use Rattle.std.specs.Str.{chars}
use Rattle.dg_base.specs.Sound.{IsName}
use Rattle.dg_meaning.specs.Render.{last_of}
use Rattle.z_lang.specs.declared.act.Act.{Act}
use Rattle.z_lang.specs.declared.act.Act.TheVariants as acts
use Rattle.z_lang.specs.declared.act.Args.TheVariants as args
use Rattle.z_lang.specs.declared.act.Atom.TheVariants as atoms
use Rattle.z_lang.specs.declared.act.Comparison.TheVariants as comparisons
use Rattle.z_lang.specs.declared.act.Function.TheVariants as functions
use Rattle.z_lang.specs.declared.act.Routine.{Routine}
use Rattle.z_lang.specs.State.{Program}
use Rattle.dg_rt.specs.declared.registers.TheConstants.{LAST}
use Rattle.dg_rt.specs.RunTime.{routine_of, HasRunTime}
use Rattle.dg_rt.specs.Gaps.{last_word}
use Rattle.dg_rt.specs.Prints.{SpellsBy}
use Rattle.dg_turn.specs.Texts.{say, text_acts}

-- ## One name

-- How the text ends behind the mark of an object and its name.
abbrev pub name_end : List ℕ → ℕ
name_end cs = last_word (last_of (Some 35) cs)

-- The characters of a name are printed, and how the text ends is answered.
abbrev pub name_acts : List ℕ → List Act
name_acts cs = map say cs ++ acts.Return (atoms.Num (name_end cs)) ∷ []

-- What another routine answers is answered, to which locals 1 and 2 are handed over.
abbrev pub calling_acts : ℕ → List Act
calling_acts number = acts.Call (Some 3) (atoms.Routine number) (args.Two (atoms.Var 1) (atoms.Var 2)) ∷ acts.Return (atoms.Var 3) ∷ []

-- A name of more than 40 characters has a routine of its own.
abbrev pub is_long : List ℕ → Bool
is_long cs = nat_lt 40 (length cs)

-- The acts of a name: what its own routine answers, where the next one has this number, or its characters.
abbrev pub leaf_acts : ℕ → List ℕ → List Act
leaf_acts number cs = if is_long cs then calling_acts number else name_acts cs

-- The next number behind a name.
abbrev pub behind_name : ℕ → List ℕ → ℕ
behind_name number cs = if is_long cs then suc number else number

-- Those of names, of which the first that is long has a routine of this number.
abbrev pub name_leaves : ℕ → List (List ℕ) → List (List Act)
name_leaves number [] = []
name_leaves number (name ∷ names) = leaf_acts number (chars name) ∷ name_leaves (behind_name number (chars name)) names

-- The routines of names that have one of their own.
abbrev pub long_routines : List (List ℕ) → List Routine
long_routines [] = []
long_routines (name ∷ names) = if is_long (chars name) then routine_of 3 (name_acts (chars name)) ∷ long_routines names else long_routines names

-- ## Finding

-- The acts of the first of some leaves that ends behind a local; the first of them ends in front of a number, and each other one so many behind it. Behind
-- the last one nothing is printed.
abbrev pub chain_acts : (v step end label : ℕ) → List (List Act) → List Act
chain_acts v step end label [] = acts.Return (atoms.Num 2) ∷ []
chain_acts v step end label (leaf ∷ leaves) =
    acts.When (record { comparison = comparisons.Less; first = atoms.Var v; second = atoms.Num end; answer = false }) label
    ∷ (leaf ++ acts.Label label ∷ chain_acts v step (end + step) (suc label) leaves)

abbrev pub chain_routine : (v step end : ℕ) → List (List Act) → Routine
chain_routine v step end leaves = routine_of 3 (chain_acts v step end 0 leaves)

-- Routines of 32 leaves each, where the first one's end in front of numbers from one on, and those of each other one so many behind; so many are enough.
abbrev pub chain_routines : (v next most end : ℕ) → List (List Act) → List Routine
chain_routines v next zero end leaves = []
chain_routines v next (suc most) end [] = []
chain_routines v next (suc most) end (leaf ∷ leaves) =
    chain_routine v 1 end (take 32 (leaf ∷ leaves)) ∷ chain_routines v next most (end + next) (drop 32 (leaf ∷ leaves))

-- How many they are.
abbrev pub chains_of : ℕ → ℕ
chains_of n = (n + 31) / 32

-- Calls of so many routines, of which the first has a number.
abbrev pub calling_leaves : (number n : ℕ) → List (List Act)
calling_leaves number zero = []
calling_leaves number (suc n) = calling_acts number ∷ calling_leaves (suc number) n

-- ## All

-- The routine that prints the object of local 1's number: its mark, what the routine of a number finds by the number's quotient by 32 and what that leaves,
-- and how the text ends is kept.
abbrev pub object_routine : ℕ → Routine
object_routine find =
    routine_of 3 (text_acts (35 ∷ []) ++ acts.Copy LAST (atoms.Num (last_word (last_of None (35 ∷ []))))
    ∷ acts.Compute 2 functions.Mod (atoms.Var 1) (atoms.Num 32) ∷ acts.Compute 1 functions.Div (atoms.Var 1) (atoms.Num 32)
    ∷ acts.Call (Some 3) (atoms.Routine find) (args.Two (atoms.Var 1) (atoms.Var 2)) ∷ acts.Copy LAST (atoms.Var 3)
    ∷ acts.Return (atoms.Num 0) ∷ [])

-- The routines of the names of objects, of which the first has a number: the one that prints an object, the one that finds it among 1,024 others each, those
-- that find it among 32, those that find it among 1,024, and those of long names.
abbrev pub objects_routines : ℕ → List (List ℕ) → List Routine
objects_routines number objects =
    let n = length objects in
    let chains = chains_of n in
    let upper = chains_of chains in
    let first = number + 2 in
    object_routine (number + 1) ∷ chain_routine 1 32 32 (calling_leaves (first + chains) upper)
    ∷ (chain_routines 2 0 n 1 (name_leaves (first + chains + upper) objects)
    ++ (chain_routines 1 32 chains 1 (calling_leaves first chains)
    ++ long_routines objects))

-- The first of them prints the objects of a program, no more than 4,096, where each has its number.
abbrev pub NamesSpell : Type 0
NamesSpell = (p : Program) → HasRunTime p → (story : List ℕ) (number : ℕ) (objects : List (List ℕ)) → All IsName objects →
    length objects ≤ 4096 →
    ((k : ℕ) (r : Routine) → slice_get (objects_routines number objects) k ≡ Some r → p.routine_at (p.names.routine (number + k)) ≡ Some r) →
    SpellsBy p story (p.names.routine number) 4096 (λ n. codes "#" ++ get_or objects n [])
