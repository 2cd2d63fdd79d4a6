-- Words that are split and joined, as turns. Hold it against docs/LANGUAGE.md, "Built-in queries", on splitting and joining words, and `splits` and
-- `joins` of dg_meaning/specs/Moves.antt.
use Rattle.std.specs.Prelude.{◌≡◌, ℕ, ◌+◌, ◌*◌, ◌<◌, ◌≤◌, List, [], ◌∷◌, ◌++◌, Option, Some, None}
use Rattle.dg_base.specs.declared.program.CoreProgram.{CoreProgram}
use Rattle.dg_base.specs.declared.program.Term.{Term}
use Rattle.dg_base.specs.declared.run.Ending.TheVariants.{HeapLimit, TrailLimit}
use Rattle.dg_meaning.specs.Cells.{cells}
use Rattle.dg_meaning.specs.Copies.{copy_cells}
use Rattle.dg_meaning.specs.Substitutions.{walk, resolved}
use Rattle.dg_meaning.specs.Unify.{looks}
use Rattle.dg_meaning.specs.Values.{Value}
use Rattle.dg_meaning.specs.Words.{letters_in_word, joined_letters, each_alone, spelled_value, spelled_list}
use Rattle.dg_mid.specs.State.{Mid}
use Rattle.dg_mid.specs.Step.{bound, more, trail_more}
use Rattle.z_model.specs.Run.{ZState}
use Rattle.z_lang.specs.declared.act.Act.TheVariants as acts
use Rattle.z_lang.specs.declared.act.Args.TheVariants as args
use Rattle.z_lang.specs.declared.act.Atom.TheVariants as atoms
use Rattle.z_lang.specs.declared.act.Routine.{Routine}
use Rattle.dg_rt.specs.declared.numbers.TheConstants.{FAIL, SPLIT, MADE, JOIN}
use Rattle.dg_rt.specs.declared.registers.TheConstants.{ARGS, WORD}
use Rattle.dg_rt.specs.Areas.{line_at, fixed_end}
use Rattle.dg_rt.specs.Closings.{closing_most}
use Rattle.dg_rt.specs.Making.{making_most}
use Rattle.dg_rt.specs.RunTime.{routine_of}
use Rattle.dg_rt.specs.Unifies.{price}
use Rattle.dg_turn.specs.Told.{Telling}
use Rattle.dg_turn.specs.Plays.{Playing, Outside, Comes, Closes}
use Rattle.dg_turn.specs.Operating.{InFront, term_value, term_links}
use Rattle.dg_turn.specs.Terms.{terms_acts, written_in}
use Rattle.dg_turn.specs.Turns.{agreed_next, match_acts, last_acts}
use Rattle.dg_turn.specs.Typing.{HasTables}
use Rattle.dg_turn.specs.World.{value_equation, value_unified}

-- ## The routines

-- Two terms are written, a routine makes a value of the word of the first, if there is one, and it is unified with the second.
abbrev pub word_routine : CoreProgram → ℕ → Term → Term → ℕ → Routine
word_routine program maker a b behind =
    routine_of 0 (terms_acts program ARGS (a ∷ b ∷ [])
    ++ (acts.Call (Some WORD) (atoms.Routine maker) (args.One (atoms.Var ARGS))
    ∷ acts.Call (Some WORD) (atoms.Routine MADE) (args.One (atoms.Var WORD))
    ∷ (match_acts (ARGS + 1) WORD 1 ++ last_acts behind)))

-- The routine that splits a word, and the one that joins words.
abbrev pub split_routine : CoreProgram → Term → Term → ℕ → Routine
split_routine program a b behind = word_routine program SPLIT a b behind

abbrev pub join_routine : CoreProgram → Term → Term → ℕ → Routine
join_routine program a b behind = word_routine program JOIN a b behind

-- ## What is made

-- The value that letters spell, where there are letters.
abbrev pub spelled_by : (List ℕ → Value) → Option (List ℕ) → Option Value
spelled_by spells None = None
spelled_by spells (Some letters) = Some (spells letters)

-- What it takes at most to make it behind what was looked at, and to lay it, where a program has these words.
abbrev pub making : List (List ℕ) → (List ℕ → Value) → ℕ → Option (List ℕ) → ℕ
making words spells looks None = looks
making words spells looks (Some letters) = looks + making_most words letters (spells letters)

-- The letters of a term that is a word or a number, and what they spell apart.
abbrev pub split_letters : CoreProgram → Term → Mid → Option (List ℕ)
split_letters program a m = letters_in_word program.words (walk m.state.subst (term_value program m a))

abbrev pub apart : CoreProgram → List ℕ → Value
apart program letters = spelled_list program.words (each_alone letters)

abbrev pub split_most : CoreProgram → Term → Mid → ℕ
split_most program a m = making program.words (apart program) (5 * term_links program m a + 40) (split_letters program a m)

-- The letters of a term that is a list of words and numbers, and what they spell together.
abbrev pub join_letters : CoreProgram → Term → Mid → Option (List ℕ)
join_letters program a m = joined_letters program.words (resolved m.state.subst (term_value program m a))

abbrev pub join_most : CoreProgram → Term → Mid → ℕ
join_most program a m =
    making program.words (spelled_value program.words) (800 * looks m.state.subst m.state.vars (term_value program m a) + 900) (join_letters program a m)

-- ## What it takes

-- What the whole takes at most, where a value is made, or found to be none, in so many instructions, and with unifying the value.
abbrev pub wording_most : CoreProgram → Term → Term → ℕ → ℕ
wording_most program a b making = written_in program (a ∷ b ∷ []) + making + 50

abbrev pub worded_most : CoreProgram → Term → Term → Value → ℕ → Mid → ℕ
worded_most program a b v making m = wording_most program a b making + price m.state.subst (value_equation program b v m)

-- The same by what is made.
abbrev pub word_paid : CoreProgram → Term → Term → Option Value → ℕ → Mid → ℕ
word_paid program a b None making m = wording_most program a b making
word_paid program a b (Some v) making m = worded_most program a b v making m

-- ## What it comes to

-- The player comes to a machine; the words outside are as before but for those of the line.
pub record ComesLined (t : Telling) (out : Outside) (next : ℕ) (m : Mid) (most : ℕ) (z : ZState) : Type 0 where
  pub words' : ℕ → ℕ
  pub others : (k : ℕ) → (line_at ≤ k → fixed_end ≤ k) → words' k ≡ out.words k
  pub comes : Comes t (record out { words = words' }) next m most z

-- In one turn it fails where no value is made, and else the value is unified with the second term; or the limit of the heap or of the trail is met.
pub record Wording (t : Telling) (out : Outside) (a b : Term) (behind : ℕ) (made : Option Value) (making : ℕ) (m : Mid) (z : ZState) : Type 0 where
  pub fails : m.state.heap + cells t.program (a ∷ b ∷ []) ≤ 10000 → made ≡ None →
      ComesLined t out (t.p.names.routine FAIL) (more (cells t.program (a ∷ b ∷ [])) m) (wording_most t.program a b making) z
  pub unifies : (v : Value) → m.state.heap + cells t.program (a ∷ b ∷ []) + copy_cells v ≤ 10000 → made ≡ Some v →
      let u = value_unified t.program b v m in
      trail_more m.state u ≤ 2000 →
      ComesLined t out (agreed_next t.p behind u.agrees) (bound u (more (copy_cells v) (more (cells t.program (a ∷ b ∷ [])) m)))
      (worded_most t.program a b v making m) z
  pub meets_heap : 10000 < m.state.heap + cells t.program (a ∷ b ∷ []) → Closes t out HeapLimit (10 + closing_most) z
  pub meets_value : (v : Value) → m.state.heap + cells t.program (a ∷ b ∷ []) ≤ 10000 → made ≡ Some v →
      10000 < m.state.heap + cells t.program (a ∷ b ∷ []) + copy_cells v →
      Closes t out HeapLimit (worded_most t.program a b v making m + closing_most) z
  pub meets_trail : (v : Value) → m.state.heap + cells t.program (a ∷ b ∷ []) + copy_cells v ≤ 10000 → made ≡ Some v →
      2000 < trail_more m.state (value_unified t.program b v m) → Closes t out TrailLimit (worded_most t.program a b v making m + closing_most) z

-- Splitting a word is such a turn, in a story that has the tables.
abbrev pub SplitTurns : Type 0
SplitTurns = (t : Telling) → Playing t → HasTables t → (out : Outside) (a b : Term) (behind : ℕ) (m : Mid) (z : ZState) →
    InFront t out (split_routine t.program a b behind) (a ∷ b ∷ []) m z →
    Wording t out a b behind (spelled_by (apart t.program) (split_letters t.program a m)) (split_most t.program a m) m z

-- So is joining words.
abbrev pub JoinTurns : Type 0
JoinTurns = (t : Telling) → Playing t → HasTables t → (out : Outside) (a b : Term) (behind : ℕ) (m : Mid) (z : ZState) →
    InFront t out (join_routine t.program a b behind) (a ∷ b ∷ []) m z →
    Wording t out a b behind (spelled_by (spelled_value t.program.words) (join_letters t.program a m)) (join_most t.program a m) m z
