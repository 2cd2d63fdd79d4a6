-- The routines of a story's code: one for each instruction, and where it goes on. Hold it against dg_mid/specs/Codes.antt and `does`
-- of dg_mid/specs/Step.antt.
use Rattle.std.specs.Prelude.{◌⊎◌, ◌≡◌, ◌≢◌, ℕ, ◌≤◌, List, [], ◌∷◌, length, Option, Some, None, Bool}
use Rattle.std.specs.List.{slice_get}
use Rattle.dg_base.specs.declared.program.PlaceKind.{PlaceKind}
use Rattle.dg_base.specs.declared.program.PlaceKind.TheVariants.{Flag, Global}
use Rattle.dg_base.specs.declared.program.Term.{Term}
use Rattle.dg_base.specs.Goals.{option_terms}
use Rattle.dg_base.specs.Sound.{IsName, terms_of_kind}
use Rattle.dg_meaning.specs.Cells.{nodes_of}
use Rattle.dg_meaning.specs.Facts.{kinds_of}
use Rattle.dg_mid.specs.declared.code.Action.TheVariants as action
use Rattle.dg_mid.specs.declared.code.Code.{Code}
use Rattle.dg_mid.specs.declared.code.Gathered.{Gathered}
use Rattle.dg_mid.specs.declared.code.Op.{Op}
use Rattle.dg_mid.specs.declared.code.Op.TheVariants as op
use Rattle.dg_mid.specs.Code.{block_at, rules_at, first_label}
use Rattle.z_lang.specs.declared.act.Routine.{Routine}
use Rattle.dg_rt.specs.declared.numbers.TheConstants.{DONE, FAIL, LEAVE, UNSTOP, KEEP_VALUE}
use Rattle.dg_rt.specs.CopiesIn.{HasCaptures}
use Rattle.dg_rt.specs.Prints.{Spells}
use Rattle.dg_turn.specs.Told.{Telling, told_count, RulesAt}
use Rattle.dg_turn.specs.Terms.{AreNodes}
use Rattle.dg_turn.specs.Turns.{enter_routine, equal_routine, goto_routine, commit_routine}
use Rattle.dg_turn.specs.Queries.{asking_routine}
use Rattle.dg_turn.specs.LastQueries.{last_routine}
use Rattle.dg_turn.specs.Choices.{branch_routine, try_routine, once_routine}
use Rattle.dg_turn.specs.Gatherings.{collect_routine, take_routine}
use Rattle.dg_turn.specs.Leaving.{just_routine}
use Rattle.dg_turn.specs.Operating.{test_routine, compare_routine, arith_routine, random_routine}
use Rattle.dg_turn.specs.Prints.{print_routine}
use Rattle.dg_turn.specs.Tries.{Sought, sought_at, sought_terms, tries_routine}
use Rattle.dg_turn.specs.Seeking.{find_routine}
use Rattle.dg_turn.specs.World.{HasWorld, now_routine, holds_routine}
use Rattle.dg_turn.specs.Globals.{global_routine}
use Rattle.dg_turn.specs.Typing.{HasTables, input_routine}
use Rattle.dg_turn.specs.Wording.{split_routine, join_routine}
use Rattle.dg_turn.specs.Rules.{keyed}
use Rattle.dg_turn.specs.Bodies.{query_routine, last_query_routine, FindsBodies}
use Rattle.dg_turn.specs.Texts.{text_routine, gap_routine, gap_n_routine, quit_routine}
use Rattle.dg_turn.specs.Stopping.{shield_routine, leave_routine}
use Rattle.dg_chain.specs.Selects.{SelectsAt}

-- ## One instruction

-- Its routine goes on at another one, where the code behind it stands.
pub record GoesOn (behind_is : ℕ → Type 0) (t : Telling) (x : ℕ) (routine : ℕ → Routine) : Type 0 where
  pub behind : ℕ
  pub is : t.p.routine_at x ≡ Some (routine behind)
  pub next : behind_is (t.p.names.routine behind)

-- So does that of a choice, which goes on with a block where it is gone back to.
pub record Opens (behind_is : ℕ → Type 0) (t : Telling) (x : ℕ) (routine : ℕ → ℕ → Routine) (block : ℕ) : Type 0 where
  pub alt : ℕ
  pub alt_is : t.p.names.routine alt ≡ t.at_block block
  pub goes : GoesOn behind_is t x (routine alt)

-- So does that of an equation, whose terms are those of a story.
pub record Unifies (behind_is : ℕ → Type 0) (t : Telling) (x : ℕ) (a b : Term) : Type 0 where
  pub goes : GoesOn behind_is t x (equal_routine t.program a b)
  pub nodes : AreNodes t.program (nodes_of (a ∷ b ∷ []))

-- So does that of a text, of characters that a story prints.
pub record Says (behind_is : ℕ → Type 0) (t : Telling) (x : ℕ) (text : List ℕ) : Type 0 where
  pub name : IsName text
  pub goes : GoesOn behind_is t x (text_routine name.characters)

-- So does that of as many spaces as a term says, which is one of a story.
pub record AsksSpaces (behind_is : ℕ → Type 0) (t : Telling) (x : ℕ) (a : Term) : Type 0 where
  pub goes : GoesOn behind_is t x (gap_n_routine t.program a)
  pub nodes : AreNodes t.program (nodes_of (a ∷ []))

-- So does that of a goal that writes terms of a story.
pub record Writes (behind_is : ℕ → Type 0) (t : Telling) (x : ℕ) (ts : List Term) (routine : ℕ → Routine) : Type 0 where
  pub goes : GoesOn behind_is t x routine
  pub nodes : AreNodes t.program (nodes_of ts)

-- So does that of a value that is printed, whose term is one of a story; two routines print the words and the objects of the program.
pub record Prints (behind_is : ℕ → Type 0) (t : Telling) (x : ℕ) (a : Term) : Type 0 where
  pub words : ℕ
  pub objects : ℕ
  pub goes : GoesOn behind_is t x (print_routine t.program a words objects)
  pub nodes : AreNodes t.program (nodes_of (a ∷ []))
  pub spells : Spells t.p t.story t.program (t.p.names.routine words) (t.p.names.routine objects)

-- So does that of a gathering of a term's values for another term, which is taken out at a block; the terms are those of a story.
pub record Collects (behind_is : ℕ → Type 0) (t : Telling) (x : ℕ) (a b : Term) (block : ℕ) : Type 0 where
  pub alt : ℕ
  pub alt_is : t.p.names.routine alt ≡ t.at_block block
  pub goes : GoesOn behind_is t x (collect_routine t.program a b alt)
  pub nodes : AreNodes t.program (nodes_of (a ∷ b ∷ []))

-- So does that of a gathering that is taken out; the story tells how many values each closure captures.
pub record TakesGathering (behind_is : ℕ → Type 0) (t : Telling) (x : ℕ) (whole : Gathered) : Type 0 where
  pub goes : GoesOn behind_is t x (take_routine whole)
  pub told : HasCaptures t.p t.story (told_count t.program)

-- So does that of a change of a place of the program, with as many terms as its kind wants, in a world that may be written.
pub record ChangesPlace (behind_is : ℕ → Type 0) (t : Telling) (x place : ℕ) (ts : List Term) (sets : Bool) : Type 0 where
  pub kind : PlaceKind
  pub kind_is : slice_get (kinds_of t.program) place ≡ Some kind
  pub fits : length ts ≡ terms_of_kind kind
  pub world : HasWorld t
  pub writes : Writes behind_is t x ts (now_routine t.program kind place ts sets)

-- So does that of a query of a flag of no object.
pub record FindsFlag (behind_is : ℕ → Type 0) (t : Telling) (x place : ℕ) : Type 0 where
  pub kind_is : slice_get (kinds_of t.program) place ≡ Some Flag
  pub world : HasWorld t
  pub goes : GoesOn behind_is t x (holds_routine t.program place)

-- So does that of a query of objects, whose terms are those of a story, in a world that may be written; where it begins with a variable another one tries
-- objects, and goes on at a block.
pub record FindsObjects (behind_is : ℕ → Type 0) (t : Telling) (x : ℕ) (place : Option ℕ) (ts : List Term) (many : Bool) (next : ℕ) : Type 0 where
  pub sought : Sought
  pub sought_is : sought_at t.program place ≡ Some sought
  pub fits : length ts ≡ sought_terms sought
  pub world : HasWorld t
  pub block : ℕ
  pub block_is : t.p.names.routine block ≡ t.at_block next
  pub tries : ℕ
  pub tries_is : first_label ts ≡ None → t.p.routine_at (t.p.names.routine tries) ≡ Some (tries_routine t.program sought many block)
  pub writes : Writes behind_is t x ts (λ behind. find_routine t.program sought ts behind tries)

-- So does that of a query of a global variable, in a story that tells how many values closures capture.
pub record FindsGlobal (behind_is : ℕ → Type 0) (t : Telling) (x place : ℕ) (a : Term) : Type 0 where
  pub kind_is : slice_get (kinds_of t.program) place ≡ Some Global
  pub world : HasWorld t
  pub captures : HasCaptures t.p t.story (told_count t.program)
  pub writes : Writes behind_is t x (a ∷ []) (global_routine t.program place a)

-- So does that of typed input, whose term is one of a story that has the tables of its program.
pub record Reads (behind_is : ℕ → Type 0) (t : Telling) (x : ℕ) (a : Term) : Type 0 where
  pub goes : GoesOn behind_is t x (input_routine t.program a)
  pub nodes : AreNodes t.program (nodes_of (a ∷ []))
  pub tables : HasTables t

-- So does that of words that are split or joined, whose terms are those of a story that has the tables.
pub record Words (behind_is : ℕ → Type 0) (t : Telling) (x : ℕ) (a b : Term) (routine : ℕ → Routine) : Type 0 where
  pub writes : Writes behind_is t x (a ∷ b ∷ []) routine
  pub tables : HasTables t

-- So does the first of a rule, of no more than 300 variables and 12 terms in its head.
pub record Enters (behind_is : ℕ → Type 0) (t : Telling) (x vars : ℕ) (head : List Term) : Type 0 where
  pub goes : GoesOn behind_is t x (enter_routine t.program vars head)
  pub few_vars : vars ≤ 300
  pub short : length head ≤ 12
  pub nodes : AreNodes t.program (nodes_of head)

-- The rules of a predicate stand from a number on, for queries of so many arguments, no more than 12.
pub record RulesFrom (t : Telling) (code : Code) (arguments number pred : ℕ) : Type 0 where
  pub short : arguments ≤ 12
  pub rules_are : RulesAt t arguments number (rules_at code pred)

-- A query goes on at a block, behind the rules of its predicate.
pub record Asks (t : Telling) (code : Code) (x pred : ℕ) (terms : List Term) (many : Bool) (next : ℕ) : Type 0 where
  pub behind : ℕ
  pub number : ℕ
  pub is : t.p.routine_at x ≡ Some (asking_routine t.program terms behind many number)
  pub goes : t.p.names.routine behind ≡ t.at_block next
  pub rules : RulesFrom t code (length terms) number pred
  pub nodes : AreNodes t.program (nodes_of terms)

-- The last of a rule goes on where the rule does, or at block 0.
pub record AsksLast (t : Telling) (code : Code) (x pred : ℕ) (terms : List Term) (many : Bool) : Type 0 where
  pub end : ℕ
  pub number : ℕ
  pub is : t.p.routine_at x ≡ Some (last_routine t.program terms end many number)
  pub end_is : t.p.names.routine end ≡ t.at_block 0
  pub rules : RulesFrom t code (length terms) number pred
  pub nodes : AreNodes t.program (nodes_of terms)

-- The routine of a number finds the bodies of all closures, each in at most 14 steps.
pub record FindsAll (t : Telling) (code : Code) (number : ℕ) : Type 0 where
  pub depth : ℕ
  pub few : depth ≤ 14
  pub finds : FindsBodies t number 0 code.closures depth

-- A query of a closure goes on at a block, behind the routine that finds its body.
pub record Queries (t : Telling) (code : Code) (x : ℕ) (a : Term) (b : Option Term) (many : Bool) (next : ℕ) : Type 0 where
  pub behind : ℕ
  pub find : ℕ
  pub is : t.p.routine_at x ≡ Some (query_routine t.program a b behind many find)
  pub goes : t.p.names.routine behind ≡ t.at_block next
  pub all : FindsAll t code find
  pub nodes : AreNodes t.program (nodes_of (a ∷ option_terms b))

-- The last of a rule goes on where the rule does, or at block 0.
pub record QueriesLast (t : Telling) (code : Code) (x : ℕ) (a : Term) (b : Option Term) (many : Bool) : Type 0 where
  pub end : ℕ
  pub find : ℕ
  pub is : t.p.routine_at x ≡ Some (last_query_routine t.program a b end many find)
  pub end_is : t.p.names.routine end ≡ t.at_block 0
  pub all : FindsAll t code find
  pub nodes : AreNodes t.program (nodes_of (a ∷ option_terms b))

-- A jump goes on at a block.
pub record Jumps (t : Telling) (x block : ℕ) : Type 0 where
  pub next : ℕ
  pub is : t.p.routine_at x ≡ Some (goto_routine next)
  pub next_is : t.p.names.routine next ≡ t.at_block block

-- What fails goes on at the routine that goes back.
abbrev pub FailsAt : Telling → ℕ → Type 0
FailsAt t x = t.p.routine_at x ≡ Some (goto_routine FAIL)

-- ## Code

-- The routine of an instruction stands at an address, and what is said of the one behind it.
abbrev pub OpAt : (ℕ → Type 0) → Telling → Code → ℕ → Op → Type 0
OpAt behind_is t code x (op.Do (action.Text text)) = Says behind_is t x text
OpAt behind_is t code x (op.Do (action.Print a)) = Prints behind_is t x a
OpAt behind_is t code x (op.Do (action.Gap kind)) = GoesOn behind_is t x (gap_routine kind)
OpAt behind_is t code x (op.Do (action.GapN a)) = AsksSpaces behind_is t x a
OpAt behind_is t code x (op.Do action.Quit) = t.p.routine_at x ≡ Some quit_routine
OpAt behind_is t code x (op.Do action.Just) = GoesOn behind_is t x just_routine
OpAt behind_is t code x (op.Do (action.Equal a b)) = Unifies behind_is t x a b
OpAt behind_is t code x (op.Do (action.Test kind a)) = Writes behind_is t x (a ∷ []) (test_routine t.program kind a)
OpAt behind_is t code x (op.Do (action.Compare f a b)) = Writes behind_is t x (a ∷ b ∷ []) (compare_routine t.program f a b)
OpAt behind_is t code x (op.Do (action.Arith f a b c)) = Writes behind_is t x (a ∷ b ∷ c ∷ []) (arith_routine t.program f a b c)
OpAt behind_is t code x (op.Do (action.Random a b c)) = Writes behind_is t x (a ∷ b ∷ c ∷ []) (random_routine t.program a b c)
OpAt behind_is t code x (op.Do action.Fail) = FailsAt t x
OpAt behind_is t code x (op.Do action.Stop) = x ≡ t.p.names.routine UNSTOP
OpAt behind_is t code x (op.Do (action.Now place args sets)) = ChangesPlace behind_is t x place args sets
OpAt behind_is t code x (op.Do (action.Input a)) = Reads behind_is t x a
OpAt behind_is t code x (op.Do (action.SplitWord a b)) = Words behind_is t x a b (split_routine t.program a b)
OpAt behind_is t code x (op.Do (action.JoinWords a b)) = Words behind_is t x a b (join_routine t.program a b)
OpAt behind_is t code x (op.Find (Some place) [] many next) = FindsFlag behind_is t x place
OpAt behind_is t code x (op.Find (Some place) (a ∷ []) many next) =
    FindsObjects behind_is t x (Some place) (a ∷ []) many next ⊎ FindsGlobal behind_is t x place a
OpAt behind_is t code x (op.Find place ts many next) = FindsObjects behind_is t x place ts many next
OpAt behind_is t code x (op.Ask pred terms many next) = Asks t code x pred terms many next
OpAt behind_is t code x (op.LastAsk pred terms many) = AsksLast t code x pred terms many
OpAt behind_is t code x (op.Query a b many next) = Queries t code x a b many next
OpAt behind_is t code x (op.LastQuery a b many) = QueriesLast t code x a b many
OpAt behind_is t code x (op.Select site mode blocks behind) = SelectsAt t x site mode blocks behind
OpAt behind_is t code x op.Take = GoesOn behind_is t x goto_routine
OpAt behind_is t code x (op.Branch alt) = Opens behind_is t x branch_routine alt
OpAt behind_is t code x op.Once = GoesOn behind_is t x once_routine
OpAt behind_is t code x (op.Try alt) = Opens behind_is t x try_routine alt
OpAt behind_is t code x (op.Shield alt) = Opens behind_is t x shield_routine alt
OpAt behind_is t code x (op.Retry alt) = Opens behind_is t x branch_routine alt
OpAt behind_is t code x (op.Collect a b alt) = Collects behind_is t x a b alt
OpAt behind_is t code x (op.TakeOut whole into) = TakesGathering behind_is t x whole
OpAt behind_is t code x (op.Keep a) = x ≡ t.p.names.routine KEEP_VALUE
OpAt behind_is t code x op.Commit = GoesOn behind_is t x commit_routine
OpAt behind_is t code x op.Refuse = t.p.routine_at x ≡ Some (commit_routine FAIL)
OpAt behind_is t code x op.Leave = GoesOn behind_is t x leave_routine
OpAt behind_is t code x op.Back = FailsAt t x
OpAt behind_is t code x op.Return = x ≡ t.p.names.routine LEAVE
OpAt behind_is t code x (op.Goto b) = Jumps t x b
OpAt behind_is t code x (op.Enter vars head) = Enters behind_is t x vars head
OpAt behind_is t code x op.Done = t.p.routine_at x ≡ Some (goto_routine DONE)

-- The routines of some instructions: the first stands at an address, and each goes on at the next one. Behind the last comes none.
abbrev pub OpsAt : Telling → Code → ℕ → List Op → Type 0
OpsAt t code x [] = Unit {0}
OpsAt t code x (o ∷ ops) = OpAt (λ y. OpsAt t code y ops) t code x o

-- The code of each block stands where the block does, which is somewhere; no predicate has more than 2,200 rules that have a key. The world may be written.
pub record BlocksAt (t : Telling) (code : Code) : Type 0 where
  pub world : HasWorld t
  pub each : (b : ℕ) → OpsAt t code (t.at_block b) (block_at code b)
  pub some : (b : ℕ) → t.at_block b ≢ 0
  pub few : (pred : ℕ) → keyed (rules_at code pred) ≤ 2200
