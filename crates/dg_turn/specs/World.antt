-- The world in memory, and the instructions that change and read it, as turns. Hold it against docs/LANGUAGE.md, "The world", dg_meaning/specs/Facts.antt
-- and Changes.antt, and docs/REFUSALS.md, "Of a build", where it says what the world takes.
use Rattle.std.specs.Prelude.{◌≡◌, ◌≢◌, ℕ, ◌+◌, ◌*◌, ◌≤◌, ◌<◌, List, [], ◌∷◌, ◌++◌, length, map, Option, Some, None, is_some, Bool, true, false}
use Rattle.std.specs.List.{slice_get, sum_by}
use Rattle.dg_base.specs.declared.program.CoreProgram.{CoreProgram}
use Rattle.dg_base.specs.declared.program.PlaceKind.{PlaceKind}
use Rattle.dg_base.specs.declared.program.PlaceKind.TheVariants.{Flag, ObjectFlag, ObjectVar, Parent, Global}
use Rattle.dg_base.specs.declared.program.Term.{Term}
use Rattle.dg_base.specs.declared.run.Ending.TheVariants.{HeapLimit, TrailLimit}
use Rattle.dg_base.specs.Sound.{terms_of_kind}
use Rattle.dg_meaning.specs.Cells.{cells}
use Rattle.dg_meaning.specs.Changes.{change_of}
use Rattle.dg_meaning.specs.Facts.{Fact, value_at, Alteration, kinds_of, kept_size}
use Rattle.dg_meaning.specs.Substitutions.{walk, resolved}
use Rattle.dg_meaning.specs.Unify.{Unified, Equations, solve}
use Rattle.dg_meaning.specs.Values.{Value}
use Rattle.dg_mid.specs.State.{Mid}
use Rattle.dg_mid.specs.Step.{bound, more, trail_more}
use Rattle.z_model.specs.Run.{ZState}
use Rattle.z_lang.specs.declared.act.Act.TheVariants as acts
use Rattle.z_lang.specs.declared.act.Args.{Args}
use Rattle.z_lang.specs.declared.act.Args.TheVariants as args
use Rattle.z_lang.specs.declared.act.Atom.{Atom}
use Rattle.z_lang.specs.declared.act.Atom.TheVariants as atoms
use Rattle.z_lang.specs.declared.act.Routine.{Routine}
use Rattle.dg_rt.specs.declared.numbers.TheConstants.{SET_VALUE, SET_PARENT, CLEAR_VALUE, RAISE_FLAG, LOWER_FLAG, PUT, IF_RAISED, IF_SET, READ_VALUE, KEEP, CLEAR_KEPT, FAIL}
use Rattle.dg_rt.specs.declared.registers.TheConstants.{ARGS, WORD}
use Rattle.dg_rt.specs.RunTime.{routine_of}
use Rattle.dg_rt.specs.Unifies.{price}
use Rattle.dg_rt.specs.Cells.{at_cell}
use Rattle.dg_rt.specs.Kept.{Block, total, value_in, KeptIn}
use Rattle.dg_rt.specs.Laying.{Formed}
use Rattle.dg_rt.specs.Changes.{TableIn, FlagsIn, facts_behind, cleared, set_of}
use Rattle.dg_rt.specs.Closings.{closing_most}
use Rattle.dg_turn.specs.Told.{Telling, told_count}
use Rattle.dg_turn.specs.Plays.{Outside, Playing, Comes, Closes}
pub use Rattle.dg_turn.specs.Layout.{world_at, place_words, place_bytes, all_words, all_bytes, words_at, bytes_at, world_end}
use Rattle.dg_turn.specs.Terms.{terms_acts, written_in}
use Rattle.dg_turn.specs.Turns.{agreed_next, match_acts, last_acts}
use Rattle.dg_turn.specs.Operating.{term_value, term_links, deciding_routine, InFront, Deciding}

-- ## What lies there

-- Words stand for what is set at a place of a kind, but for a global variable.
abbrev pub PlaceIn : CoreProgram → List Fact → (ℕ → ℕ) → ℕ → PlaceKind → Type 0
PlaceIn program facts words place Flag = TableIn words (words_at program place) 1 facts place
PlaceIn program facts words place ObjectFlag = FlagsIn words (bytes_at program place) (length program.objects) facts place
PlaceIn program facts words place ObjectVar = TableIn words (words_at program place) (length program.objects) facts place
PlaceIn program facts words place Parent = TableIn words (words_at program place) (length program.objects) facts place
PlaceIn program facts words place Global = Unit {0}

-- The first word behind the words of places.
abbrev pub words_end : CoreProgram → ℕ
words_end program = world_at + all_words (length program.objects) (kinds_of program)

-- Words are those of a global variable.
pub record IsGlobal (program : CoreProgram) (h : ℕ) : Type 0 where
  pub place : ℕ
  pub is : slice_get (kinds_of program) place ≡ Some Global
  pub at : h ≡ words_at program place

-- So are those of each of some values.
abbrev pub AreGlobal : CoreProgram → List Block → Type 0
AreGlobal program [] = Unit {0}
AreGlobal program (b ∷ bs) = IsGlobal program b.entry × AreGlobal program bs

-- The values of all global variables are kept, which are formed as those of a program are, and the first word of one that is unset is 0.
pub record KeptFacts (program : CoreProgram) (facts : List Fact) (words : ℕ → ℕ) : Type 0 where
  pub blocks : List Block
  pub lie : KeptIn (words_end program) words blocks
  pub of_places : AreGlobal program blocks
  pub values : (place : ℕ) → slice_get (kinds_of program) place ≡ Some Global → value_in blocks (words_at program place) ≡ value_at facts place 0
  pub unset : (place : ℕ) → slice_get (kinds_of program) place ≡ Some Global → value_at facts place 0 ≡ None →
      words (words_at program place) ≡ 0
  pub size : total blocks ≡ kept_size (kinds_of program) facts
  pub formed : (h : ℕ) (v : Value) → value_in blocks h ≡ Some v → Formed (told_count program) v

-- So they do for each place of a program.
pub record FactsIn (program : CoreProgram) (facts : List Fact) (words : ℕ → ℕ) : Type 0 where
  pub each : (place : ℕ) (kind : PlaceKind) → slice_get (kinds_of program) place ≡ Some kind → PlaceIn program facts words place kind
  pub kept : KeptFacts program facts words

-- The world of a story may be written, and it has no more objects than values name.
pub record HasWorld (t : Telling) : Type 0 where
  pub few : length t.program.objects ≤ 4096
  pub room : let objects = length t.program.objects in
      64 + 2 * (world_at + all_words objects (kinds_of t.program)) + all_bytes objects (kinds_of t.program) < t.p.world.layout.base

-- ## Changes

-- What is put where a flag of no object lies: the empty list where it is set.
abbrev pub flag_word : Bool → ℕ
flag_word true = 28672
flag_word false = 65535

-- The routine that changes a place of a kind, and what is handed over to it.
abbrev pub changer : PlaceKind → Bool → ℕ
changer Flag sets = PUT
changer ObjectFlag true = RAISE_FLAG
changer ObjectFlag false = LOWER_FLAG
changer Parent true = SET_PARENT
changer Global true = KEEP
changer Global false = CLEAR_KEPT
changer kind true = SET_VALUE
changer kind false = CLEAR_VALUE

abbrev pub changed_at : CoreProgram → PlaceKind → ℕ → Bool → Atom × Atom
changed_at program Flag place sets = (atoms.Num (at_cell (words_at program place)), atoms.Num (flag_word sets))
changed_at program ObjectFlag place sets = (atoms.Num (64 + bytes_at program place), atoms.Num (length program.objects))
changed_at program kind place sets = (atoms.Num (at_cell (words_at program place)), atoms.Num (length program.objects))

abbrev pub changer_args : CoreProgram → PlaceKind → ℕ → Bool → ℕ → Args
changer_args program kind place sets behind =
    args.Three ((changed_at program kind place sets).0) ((changed_at program kind place sets).1) (atoms.Routine behind)

-- The routine of (now): its terms are written, and their place is changed.
abbrev pub now_routine : CoreProgram → PlaceKind → ℕ → List Term → Bool → ℕ → Routine
now_routine program kind place ts sets behind =
    deciding_routine program ts (changer kind sets) (changer_args program kind place sets behind)

-- What a change comes to in a machine.
abbrev pub change_in : CoreProgram → PlaceKind → ℕ → List Term → Bool → Mid → Option Alteration
change_in program kind place ts sets m =
    change_of (length program.objects) kind place sets (map (resolved m.state.subst) (map (term_value program m) ts))

-- What it takes at most.
abbrev pub now_most : CoreProgram → PlaceKind → ℕ → List Term → Bool → Mid → ℕ
now_most program kind place ts sets m =
    written_in program ts + 10 * sum_by (term_links program m) ts + 22 * cleared (length program.objects) (change_in program kind place ts sets m) + 80

-- Words outside that stand for other facts; those that aren't the world's are the same.
pub record Outer (program : CoreProgram) (facts : List Fact) (words : ℕ → ℕ) : Type 0 where
  pub words' : ℕ → ℕ
  pub others : (k : ℕ) → (world_at ≤ k → world_end program ≤ k) → words' k ≡ words k
  pub facts_in : FactsIn program facts words'

-- In one turn the world is changed, where there is a change, and it goes on; else it stays, and it fails.
pub record Changes (t : Telling) (out : Outside) (behind : ℕ) (change : Option Alteration) (facts : List Fact) (m : Mid) (most : ℕ)
    (z : ZState) : Type 0 where
  pub outer : Outer t.program (facts_behind change facts) out.words
  pub comes : Comes t (record out { words = outer.words' }) (agreed_next t.p behind (is_some change)) m most z

-- So it does, or the heap's limit is met.
pub record Changing (t : Telling) (out : Outside) (ts : List Term) (behind : ℕ) (change : Option Alteration) (facts : List Fact) (most : ℕ)
    (m : Mid) (z : ZState) : Type 0 where
  pub changes : m.state.heap + cells t.program ts ≤ 10000 → Changes t out behind change facts (more (cells t.program ts) m) most z
  pub meets : 10000 < m.state.heap + cells t.program ts → Closes t out HeapLimit (10 + closing_most) z

-- A change of a place that is no global variable is such a turn: `change_place` of dg_meaning/specs/Moves.antt.
abbrev pub NowTurns : Type 0
NowTurns = (t : Telling) → Playing t → HasWorld t → (out : Outside) (kind : PlaceKind) (place : ℕ) (ts : List Term) (sets : Bool) (behind : ℕ)
    (facts : List Fact) (m : Mid) (z : ZState) → slice_get (kinds_of t.program) place ≡ Some kind → kind ≢ Global →
    length ts ≡ terms_of_kind kind → FactsIn t.program facts out.words →
    InFront t out (now_routine t.program kind place ts sets behind) ts m z →
    Changing t out ts behind (change_in t.program kind place ts sets m) facts (now_most t.program kind place ts sets m) m z

-- ## Queries

-- The routine of a query of a flag of no object.
abbrev pub holds_routine : CoreProgram → ℕ → ℕ → Routine
holds_routine program place behind =
    deciding_routine program [] IF_SET (args.Two (atoms.Num (at_cell (words_at program place))) (atoms.Routine behind))

-- It is such a turn: `ask_place` of dg_meaning/specs/Moves.antt.
abbrev pub HoldsTurns : Type 0
HoldsTurns = (t : Telling) → Playing t → HasWorld t → (out : Outside) (place behind : ℕ) (facts : List Fact) (m : Mid) (z : ZState) →
    slice_get (kinds_of t.program) place ≡ Some Flag → FactsIn t.program facts out.words → InFront t out (holds_routine t.program place behind) [] m z →
    Deciding t out [] behind (is_some (value_at facts place 0)) 20 m z

-- What is set at a place of the object that a term is: nothing where it is none.
abbrev pub set_in : CoreProgram → List Fact → ℕ → Term → Mid → Option Value
set_in program facts place a m = set_of facts place (walk m.state.subst (term_value program m a))

-- The routine of a query of a flag of an object that is known.
abbrev pub flag_routine : CoreProgram → ℕ → Term → ℕ → Routine
flag_routine program place a behind =
    deciding_routine program (a ∷ []) IF_RAISED
    (args.Three (atoms.Num (64 + bytes_at program place)) (atoms.Num (length program.objects)) (atoms.Routine behind))

abbrev pub FlagTurns : Type 0
FlagTurns = (t : Telling) → Playing t → HasWorld t → (out : Outside) (place : ℕ) (a : Term) (behind : ℕ) (facts : List Fact) (m : Mid)
    (z : ZState) → slice_get (kinds_of t.program) place ≡ Some ObjectFlag → FactsIn t.program facts out.words →
    InFront t out (flag_routine t.program place a behind) (a ∷ []) m z →
    Deciding t out (a ∷ []) behind (is_some (set_in t.program facts place a m))
    (written_in t.program (a ∷ []) + 5 * term_links t.program m a + 60) m z

-- The routine of a query of a value of an object that is known: it is read, and unified with a second term.
abbrev pub reading_routine : CoreProgram → ℕ → Term → Term → ℕ → Routine
reading_routine program place a c behind =
    routine_of 0 (terms_acts program ARGS (a ∷ c ∷ [])
    ++ (acts.Call (Some WORD) (atoms.Routine READ_VALUE) (args.Two (atoms.Num (at_cell (words_at program place))) (atoms.Num (length program.objects)))
    ∷ (match_acts (ARGS + 1) WORD 1 ++ last_acts behind)))

-- The equation of a term and a value, and its unification.
abbrev pub value_equation : CoreProgram → Term → Value → Mid → Equations
value_equation program c v m = (term_value program m c, v) ∷ []

abbrev pub value_unified : CoreProgram → Term → Value → Mid → Unified
value_unified program c v m = solve m.state.subst (value_equation program c v m)

-- What reading takes at most, and unifying what was read.
abbrev pub reading_most : CoreProgram → Term → Term → Mid → ℕ
reading_most program a c m = written_in program (a ∷ c ∷ []) + 5 * term_links program m a + 70

abbrev pub answering_most : CoreProgram → Term → Term → Value → Mid → ℕ
answering_most program a c v m = reading_most program a c m + price m.state.subst (value_equation program c v m)

-- In one turn it fails where nothing is set, and else what is set is unified with the second term; or the limit of the heap or of the trail is met.
pub record Reading (t : Telling) (out : Outside) (a c : Term) (behind : ℕ) (set : Option Value) (m : Mid) (z : ZState) : Type 0 where
  pub fails : m.state.heap + cells t.program (a ∷ c ∷ []) ≤ 10000 → set ≡ None →
      Comes t out (t.p.names.routine FAIL) (more (cells t.program (a ∷ c ∷ [])) m) (reading_most t.program a c m) z
  pub unifies : (v : Value) → m.state.heap + cells t.program (a ∷ c ∷ []) ≤ 10000 → set ≡ Some v →
      let u = value_unified t.program c v m in
      trail_more m.state u ≤ 2000 →
      Comes t out (agreed_next t.p behind u.agrees) (bound u (more (cells t.program (a ∷ c ∷ [])) m)) (answering_most t.program a c v m) z
  pub meets_heap : 10000 < m.state.heap + cells t.program (a ∷ c ∷ []) → Closes t out HeapLimit (10 + closing_most) z
  pub meets_trail : (v : Value) → m.state.heap + cells t.program (a ∷ c ∷ []) ≤ 10000 → set ≡ Some v →
      2000 < trail_more m.state (value_unified t.program c v m) → Closes t out TrailLimit (answering_most t.program a c v m + closing_most) z

-- The objects at places of this kind have values.
abbrev pub HasValues : PlaceKind → Type 0
HasValues ObjectVar = Unit {0}
HasValues Parent = Unit {0}
HasValues kind = ⊥

abbrev pub ReadTurns : Type 0
ReadTurns = (t : Telling) → Playing t → HasWorld t → (out : Outside) (kind : PlaceKind) (place : ℕ) (a c : Term) (behind : ℕ) (facts : List Fact)
    (m : Mid) (z : ZState) → slice_get (kinds_of t.program) place ≡ Some kind → HasValues kind → FactsIn t.program facts out.words →
    InFront t out (reading_routine t.program place a c behind) (a ∷ c ∷ []) m z →
    Reading t out a c behind (set_in t.program facts place a m) m z
