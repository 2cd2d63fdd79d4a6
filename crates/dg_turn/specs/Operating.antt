-- Built-in queries that test, compare, calculate or throw, as turns. Hold it against docs/LANGUAGE.md, "Built-in queries", and `done` of
-- dg_mid/specs/Step.antt.
use Rattle.std.specs.Prelude.{◌≡◌, ℕ, ◌+◌, ◌*◌, ◌≤◌, ◌<◌, List, [], ◌∷◌, ◌++◌, Option, Some, None, Bool}
use Rattle.dg_base.specs.declared.program.ArithOp.{ArithOp}
use Rattle.dg_base.specs.declared.program.CompareOp.{CompareOp}
use Rattle.dg_base.specs.declared.program.CompareOp.TheVariants.{Less, Greater}
use Rattle.dg_base.specs.declared.program.CoreProgram.{CoreProgram}
use Rattle.dg_base.specs.declared.program.Term.{Term}
use Rattle.dg_base.specs.declared.program.TestKind.{TestKind}
use Rattle.dg_base.specs.declared.run.Ending.TheVariants.{HeapLimit, TrailLimit}
use Rattle.dg_meaning.specs.Cells.{nodes_of, cells}
use Rattle.dg_meaning.specs.Numbers.{of_numbers, calculated, thrown, are_in_order}
use Rattle.dg_meaning.specs.Substitutions.{walk, links}
use Rattle.dg_meaning.specs.TypeTests.{passes}
use Rattle.dg_meaning.specs.Unify.{Unified, Equations, solve}
use Rattle.dg_meaning.specs.Values.{Num, Value, leaf, value_of}
use Rattle.dg_mid.specs.State.{Mid, vars_of}
use Rattle.dg_mid.specs.Step.{bound, more, trail_more}
use Rattle.z_model.specs.Run.{ZState, word_at}
use Rattle.z_lang.specs.declared.act.Act.TheVariants as acts
use Rattle.z_lang.specs.declared.act.Args.{Args}
use Rattle.z_lang.specs.declared.act.Args.TheVariants as args
use Rattle.z_lang.specs.declared.act.Atom.TheVariants as atoms
use Rattle.z_lang.specs.declared.act.Routine.{Routine}
use Rattle.dg_rt.specs.declared.numbers.TheConstants.{FAIL, IF_LESS, THROW}
use Rattle.dg_rt.specs.declared.registers.TheConstants.{ARGS, WORD}
use Rattle.dg_rt.specs.RunTime.{routine_of}
use Rattle.dg_rt.specs.Unifies.{price}
use Rattle.dg_rt.specs.Closings.{closing_most}
use Rattle.dg_rt.specs.Conditions.{test_number, looked_at}
use Rattle.dg_rt.specs.Arithmetic.{arith_number, drawn_behind}
use Rattle.dg_turn.specs.Told.{Telling}
use Rattle.dg_turn.specs.Plays.{Playing, Outside, Represented, Comes, Closes}
use Rattle.dg_turn.specs.Terms.{terms_acts, AreNodes, written_in}
use Rattle.dg_turn.specs.Turns.{agreed_next, match_acts, last_acts}

-- The value of a term in a machine.
abbrev pub term_value : CoreProgram → Mid → Term → Value
term_value program m a = value_of program (vars_of m.frames) a

-- The links of a term's value.
abbrev pub term_links : CoreProgram → Mid → Term → ℕ
term_links program m a = links m.state.subst (term_value program m a)

-- ## Tests

-- Terms are written, and a routine that is given their words and what comes behind says what comes next.
abbrev pub deciding_routine : CoreProgram → List Term → ℕ → Args → Routine
deciding_routine program ts decider given =
    routine_of 0 (terms_acts program ARGS ts ++ (acts.Call (Some WORD) (atoms.Routine decider) given ∷ acts.Return (atoms.Var WORD) ∷ []))

-- The routine of a test.
abbrev pub test_routine : CoreProgram → TestKind → Term → ℕ → Routine
test_routine program kind a behind =
    deciding_routine program (a ∷ []) (test_number kind) (args.Two (atoms.Var ARGS) (atoms.Routine behind))

-- What a comparison hands over: that a first number is greater than a second is that the second is less.
abbrev pub compared_args : CompareOp → ℕ → Args
compared_args Less behind = args.Three (atoms.Var ARGS) (atoms.Var (ARGS + 1)) (atoms.Routine behind)
compared_args Greater behind = args.Three (atoms.Var (ARGS + 1)) (atoms.Var ARGS) (atoms.Routine behind)

-- The routine of a comparison.
abbrev pub compare_routine : CoreProgram → CompareOp → Term → Term → ℕ → Routine
compare_routine program f a b behind = deciding_routine program (a ∷ b ∷ []) IF_LESS (compared_args f behind)

-- The player is in front of a routine, for terms of a story.
pub record InFront (t : Telling) (out : Outside) (routine : Routine) (ts : List Term) (m : Mid) (z : ZState) : Type 0 where
  pub x : ℕ
  pub rep : Represented t out x m z
  pub there : t.p.routine_at x ≡ Some routine
  pub nodes : AreNodes t.program (nodes_of ts)

-- In one turn it goes on or fails, by whether this is passed, or the heap's limit is met.
pub record Deciding (t : Telling) (out : Outside) (ts : List Term) (behind : ℕ) (passed : Bool) (most : ℕ) (m : Mid) (z : ZState) : Type 0 where
  pub decides : m.state.heap + cells t.program ts ≤ 10000 → Comes t out (agreed_next t.p behind passed) (more (cells t.program ts) m) most z
  pub meets : 10000 < m.state.heap + cells t.program ts → Closes t out HeapLimit (10 + closing_most) z

-- What a test takes at most.
abbrev pub test_most : CoreProgram → TestKind → Term → Mid → ℕ
test_most program kind a m =
    written_in program (a ∷ []) + 15 * looked_at kind m.state.subst m.state.vars (term_value program m a) + 20

-- A test is such a turn.
abbrev pub TestTurns : Type 0
TestTurns = (t : Telling) → Playing t → (out : Outside) (kind : TestKind) (a : Term) (behind : ℕ) (m : Mid) (z : ZState) →
    InFront t out (test_routine t.program kind a behind) (a ∷ []) m z →
    Deciding t out (a ∷ []) behind (passes m.state.subst kind (term_value t.program m a)) (test_most t.program kind a m) m z

-- Whether two terms are in an order.
abbrev pub terms_in_order : CoreProgram → CompareOp → Term → Term → Mid → Bool
terms_in_order program f a b m =
    let S = m.state.subst in are_in_order f (walk S (term_value program m a)) (walk S (term_value program m b))

-- What a comparison takes at most.
abbrev pub compare_most : CoreProgram → Term → Term → Mid → ℕ
compare_most program a b m = written_in program (a ∷ b ∷ []) + 5 * (term_links program m a + term_links program m b) + 40

-- So is a comparison.
abbrev pub CompareTurns : Type 0
CompareTurns = (t : Telling) → Playing t → (out : Outside) (f : CompareOp) (a b : Term) (behind : ℕ) (m : Mid) (z : ZState) →
    InFront t out (compare_routine t.program f a b behind) (a ∷ b ∷ []) m z →
    Deciding t out (a ∷ b ∷ []) behind (terms_in_order t.program f a b m) (compare_most t.program a b m) m z

-- ## Numbers that are made

-- Three terms are written, a routine makes a number of the words of the first two, and it is unified with the third.
abbrev pub making_routine : CoreProgram → ℕ → Term → Term → Term → ℕ → Routine
making_routine program maker a b c behind =
    routine_of 0 (terms_acts program ARGS (a ∷ b ∷ c ∷ [])
    ++ (acts.Call (Some WORD) (atoms.Routine maker) (args.Two (atoms.Var ARGS) (atoms.Var (ARGS + 1)))
    ∷ (match_acts (ARGS + 2) WORD 1 ++ last_acts behind)))

-- The routines of arithmetic, and of dice.
abbrev pub arith_routine : CoreProgram → ArithOp → Term → Term → Term → ℕ → Routine
arith_routine program op a b c behind = making_routine program (arith_number op) a b c behind

abbrev pub random_routine : CoreProgram → Term → Term → Term → ℕ → Routine
random_routine program a b c behind = making_routine program THROW a b c behind

-- What is made of the values of two terms.
abbrev pub made_of : CoreProgram → (ℕ → ℕ → Option ℕ) → Term → Term → Mid → Option ℕ
made_of program f a b m = let S = m.state.subst in of_numbers f (walk S (term_value program m a)) (walk S (term_value program m b))

-- The equation of a term and a number, and its unification.
abbrev pub number_equation : CoreProgram → Term → ℕ → Mid → Equations
number_equation program c n m = (term_value program m c, leaf (Num n)) ∷ []

abbrev pub number_unified : CoreProgram → Term → ℕ → Mid → Unified
number_unified program c n m = solve m.state.subst (number_equation program c n m)

-- What making a number takes at most, and unifying it.
abbrev pub making_most : CoreProgram → Term → Term → Term → Mid → ℕ
making_most program a b c m = written_in program (a ∷ b ∷ c ∷ []) + 5 * (term_links program m a + term_links program m b) + 60

abbrev pub giving_most : CoreProgram → Term → Term → Term → ℕ → Mid → ℕ
giving_most program a b c n m = making_most program a b c m + price m.state.subst (number_equation program c n m)

-- The same by what is made.
abbrev pub making_paid : CoreProgram → Term → Term → Term → Option ℕ → Mid → ℕ
making_paid program a b c None m = making_most program a b c m
making_paid program a b c (Some n) m = giving_most program a b c n m

-- In one turn it fails where no number is made, and else the number is unified with the third term, with this outside behind it; or the limit of the
-- heap or of the trail is met.
pub record Making (t : Telling) (out out' : Outside) (a b c : Term) (behind : ℕ) (made : Option ℕ) (m : Mid) (z : ZState) : Type 0 where
  pub fails : m.state.heap + cells t.program (a ∷ b ∷ c ∷ []) ≤ 10000 → made ≡ None →
      Comes t out' (t.p.names.routine FAIL) (more (cells t.program (a ∷ b ∷ c ∷ [])) m) (making_most t.program a b c m) z
  pub unifies : (n : ℕ) → m.state.heap + cells t.program (a ∷ b ∷ c ∷ []) ≤ 10000 → made ≡ Some n →
      let u = number_unified t.program c n m in
      trail_more m.state u ≤ 2000 →
      Comes t out' (agreed_next t.p behind u.agrees) (bound u (more (cells t.program (a ∷ b ∷ c ∷ [])) m)) (giving_most t.program a b c n m) z
  pub meets_heap : 10000 < m.state.heap + cells t.program (a ∷ b ∷ c ∷ []) → Closes t out HeapLimit (10 + closing_most) z
  pub meets_trail : (n : ℕ) → m.state.heap + cells t.program (a ∷ b ∷ c ∷ []) ≤ 10000 → made ≡ Some n →
      2000 < trail_more m.state (number_unified t.program c n m) → Closes t out TrailLimit (giving_most t.program a b c n m + closing_most) z

-- Arithmetic is such a turn, and leaves the outside as it is.
abbrev pub ArithTurns : Type 0
ArithTurns = (t : Telling) → Playing t → (out : Outside) (op : ArithOp) (a b c : Term) (behind : ℕ) (m : Mid) (z : ZState) →
    InFront t out (arith_routine t.program op a b c behind) (a ∷ b ∷ c ∷ []) m z →
    Making t out out a b c behind (made_of t.program (calculated op) a b m) m z

-- So is a throw, with the dice drawn where it gives a number.
abbrev pub RandomTurns : Type 0
RandomTurns = (t : Telling) → Playing t → (out : Outside) (a b c : Term) (behind : ℕ) (m : Mid) (z : ZState) →
    InFront t out (random_routine t.program a b c behind) (a ∷ b ∷ c ∷ []) m z →
    let made = made_of t.program (thrown (word_at t.p.world out.drawn)) a b m in
    Making t out (record out { drawn = drawn_behind t.p out.drawn made }) a b c behind made m z
