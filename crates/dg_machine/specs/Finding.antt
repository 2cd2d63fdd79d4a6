-- What queries of objects lead to. Hold it against the Dialog manual, chapter "Choice points", and docs/LANGUAGE.md, "The world".
use Rattle.std.specs.Prelude.{ℕ, ◌≡◌, ◌+◌, ◌-◌, ◌*◌, ◌<◌, List, [], ◌∷◌, Option, Some, Bool, true, slice_get}
use Rattle.dg_base.specs.declared.program.PlaceKind.TheVariants.{Global}
use Rattle.dg_base.specs.declared.run.Limits.{Limits}
use Rattle.dg_arena.specs.Held.{meaning_of}
use Rattle.dg_meaning.specs.Changes.{found}
use Rattle.dg_meaning.specs.Copies.{copy_cells, copy_from, vars_in}
use Rattle.dg_meaning.specs.Facts.{kinds_of, value_at}
use Rattle.dg_meaning.specs.Moves.{ask_objects, reads_if_set}
use Rattle.dg_meaning.specs.Values.{Value}
use Rattle.dg_meaning.specs.World.{Game, worked}
use Rattle.dg_lasting.specs.Finding.{counted}
use Rattle.dg_meaning.specs.inside.Finding.{may_find}
use Rattle.dg_lasting.specs.declared.lasting.Lasting.{Lasting}
use Rattle.dg_unify.specs.declared.bindings.Ref.{Ref}
use Rattle.dg_mid.specs.declared.code.Op.{Op}
use Rattle.dg_mid.specs.declared.code.Code.{Code}
use Rattle.dg_mid.specs.Actions.{registers_of, world_of, asked_at, found_at}
use Rattle.dg_mid.specs.Code.{block_at}
use Rattle.dg_mid.specs.State.{Place, Find as FindOf, Tries as TriesOf, Mid, Status, Runs as RunsOf, Fails as FailsOf, inner_for}
use Rattle.dg_mid.specs.Step.{setting, does, done, seeks, tries}
use Rattle.dg_machine.specs.declared.memory.Memory.{Memory}
use Rattle.dg_machine.specs.declared.now.Now.{Now}
use Rattle.dg_machine.specs.declared.now.Now.TheVariants.{Enters, Resumes}
use Rattle.dg_machine.specs.declared.now.Search.{Search}
use Rattle.dg_machine.specs.declared.now.Way.TheVariants.{Tries}
use Rattle.dg_machine.specs.declared.tables.Tables.{Tables}
use Rattle.dg_machine.specs.Built.{OpBuilt}
use Rattle.dg_machine.specs.Layout.{FindAt, Holds}
use Rattle.dg_machine.specs.Measure.{lap, left_of, choices_left, with_way}
use Rattle.dg_machine.specs.Refs.{RefsAt}
use Rattle.dg_mid.specs.Seeking.{LeavesFirst, WaySeeks}
use Rattle.dg_machine.specs.Standing.{CodeIs, Stands, Falls, Around}
use Rattle.dg_machine.specs.Tables.{IsOf}

-- ## Copies

-- The machine behind a copy of a value.
abbrev pub copied_in : Value → Mid → Mid
copied_in v m = record m { state = record m.state { vars = m.state.vars + vars_in v; heap = m.state.heap + copy_cells v } }

-- A copy of a value was made.
pub record HasCopied (code : Code) (l : Limits) (v : Value) (m : Mid) (new : Memory) (made : Ref) : Type 0 where
  pub held : Holds code l new (copied_in v m)
  pub value : (meaning_of new.arena).value made ≡ Some (copy_from m.state.vars v)

-- ## What is answered at once

-- What is set of an object is read for the arguments behind the first at hand.
abbrev pub ReadsObject : Code → Lasting → Memory → Option ℕ → ℕ → List Op → Memory → Now → Type 0
ReadsObject code out old place object rest new after = (g : Game) (l : Limits) (m : Mid) (v : Value) (us : List Value) (n : ℕ) →
    may_find (kinds_of g.program) place ≡ true → CodeIs rest m → Holds code l old m → RefsAt (meaning_of old.arena) old.args.items (v ∷ us) →
    Around out g l m → Stands code l new after (done (setting g code l)
    (reads_if_set us (registers_of m) (found m.lasting.facts place object) (worked n (world_of [] m))) m)

-- The value of a global variable is read for the arguments at hand.
abbrev pub ReadsGlobal : Code → Lasting → Memory → ℕ → List Op → Memory → Now → Type 0
ReadsGlobal code out old place rest new after = (g : Game) (l : Limits) (m : Mid) (vs : List Value) →
    slice_get (kinds_of g.program) place ≡ Some Global → CodeIs rest m → Holds code l old m →
    RefsAt (meaning_of old.arena) old.args.items vs → Around out g l m → Stands code l new after (done (setting g code l)
    (reads_if_set vs (registers_of m) (value_at m.lasting.facts place 0) (world_of [] m)) m)

-- ## Queries of objects

-- A query with these arguments.
abbrev pub find_of : Option ℕ → List Value → Bool → ℕ → FindOf
find_of place vs many next = record { place = place; args = vs; many = many; next = next }

-- Objects are asked at a place that speaks of them, or without one, with the arguments at hand.
abbrev pub SeeksObjects : Tables → Code → Lasting → Memory → Option ℕ → Bool → ℕ → List Op → Memory → Now → Type 0
SeeksObjects t code out old place many next rest new after = (g : Game) → IsOf g.program t → (l : Limits) (m : Mid) (vs : List Value) →
    may_find (kinds_of g.program) place ≡ true → CodeIs rest m → Holds code l old m → RefsAt (meaning_of old.arena) old.args.items vs →
    Around out g l m → Stands code l new after (seeks (setting g code l) (find_of place vs many next)
    (ask_objects g place vs true [] (registers_of m) (world_of [] m)) m)

-- A place, or without one all objects, is asked with the arguments at hand.
abbrev pub SeeksPlace : Tables → Code → Lasting → Memory → Option ℕ → Bool → ℕ → List Op → Memory → Now → Type 0
SeeksPlace t code out old place many next rest new after = (g : Game) → IsOf g.program t → (l : Limits) (m : Mid) (vs : List Value) → CodeIs rest m →
    Holds code l old m → RefsAt (meaning_of old.arena) old.args.items vs → Around out g l m →
    Stands code l new after (seeks (setting g code l) (find_of place vs many next) (asked_at g [] place vs m) m)

-- An instruction that is built, with these behind it, is done, where something of the world is read.
abbrev pub ReadsOp : Tables → Code → Lasting → Memory → Op → List Op → Memory → Now → Type 0
ReadsOp t code out old x rest new after = (g : Game) → IsOf g.program t → (l : Limits) (m : Mid) → OpBuilt x → CodeIs rest m → Holds code l old m →
    Around out g l m → Stands code l new after (does (setting g code l) x m)

-- ## Objects that are tried

-- The machine where an object is found: at the block behind it, inside one more construct where one answer is wanted.
abbrev pub landed : Code → FindOf → Place → Mid → Mid
landed code f p m = record m { ops = block_at code f.next; inner = inner_for f.many p m.inner }

-- Neither a rule is entered next, nor does a choice go on.
abbrev pub IsLight : Now → Type 0
IsLight (Enters ops) = ⊥
IsLight Resumes = ⊥
IsLight now = Unit {0}

-- It fails where an object was tried.
abbrev pub MissesIn : Bool → Now → Type 0
MissesIn many after = (code : Code) (l : Limits) (r : Memory) (m : Mid) (ops : List Op) (p : Place) → Holds code l r m →
    Stands code l r after (FailsOf (record m { ops = ops; inner = inner_for many p m.inner }))

-- It goes on where an object is found, inside a construct of this height.
abbrev pub LandsAt : Code → Search → ℕ → Now → Type 0
LandsAt code k height after = (l : Limits) (r : Memory) (m : Mid) (f : FindOf) (p : Place) → LeavesFirst code f.many f.next → f.many ≡ k.many →
    f.next ≡ k.next → p.height ≡ height → Holds code l r m → Stands code l r after (RunsOf (landed code f p m))

-- An object was tried, and what is left is less than with one more choice.
pub record Tried (code : Code) (l : Limits) (old new : Memory) (after : Now) (s : Status) : Type 0 where
  pub stands : Stands code l new after s
  pub falls : left_of new after < lap * (choices_left old.choices.items + 1)

-- An object is tried with the arguments at hand.
abbrev pub TriesObject : Code → Lasting → Memory → Search → ℕ → ℕ → Memory → Now → Type 0
TriesObject code out old k object height new after = (g : Game) (l : Limits) (m : Mid) (f : FindOf) (p : Place) → WaySeeks g code (TriesOf f []) →
    Around out g l m → FindAt (meaning_of old.arena) old.args.items k f → p.height ≡ height → Holds code l old m →
    Tried code l old new after (done (setting g code l) (found_at [] f object (landed code f p m)) (landed code f p m))

-- The first of the objects from one up to another is tried with the arguments at hand.
abbrev pub TriesFirst : Code → Lasting → Memory → Search → ℕ → ℕ → Memory → Now → Type 0
TriesFirst code out old k from end new after = (g : Game) (l : Limits) (m : Mid) (f : FindOf) (objects : List ℕ) →
    WaySeeks g code (TriesOf f objects) → Around out g l m → FindAt (meaning_of old.arena) old.args.items k f →
    objects ≡ counted from (end - from) → Holds code l old m →
    Falls code l (with_way old (Tries k from end)) Resumes new after (tries (setting g code l) f objects m)
