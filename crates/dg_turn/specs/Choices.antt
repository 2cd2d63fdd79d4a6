-- Choices of blocks that are opened, and going back to one, as turns. Hold it against `does` and `goes_back` of dg_mid/specs/Step.antt.
use Rattle.std.specs.Prelude.{◌≡◌, ℕ, ◌+◌, ◌*◌, ◌<◌, ◌≤◌, List, [], ◌∷◌, length, Some, None}
use Rattle.dg_base.specs.declared.run.Ending.TheVariants.{HeapLimit}
use Rattle.dg_meaning.specs.Values.{Value}
use Rattle.dg_mid.specs.State.{Goes, Takes, Choice, Mid, Fails, place_of}
use Rattle.dg_mid.specs.Step.{more, passed, inside, within, back_at}
use Rattle.dg_mid.specs.Units.{undone}
use Rattle.dg_mid.specs.Heights.{StatusOrdered}
use Rattle.z_model.specs.Run.{ZState}
use Rattle.z_lang.specs.declared.act.Act.TheVariants as acts
use Rattle.z_lang.specs.declared.act.Args.TheVariants as args
use Rattle.z_lang.specs.declared.act.Atom.TheVariants as atoms
use Rattle.z_lang.specs.declared.act.Routine.{Routine}
use Rattle.dg_rt.specs.declared.numbers.TheConstants.{OPEN, FAIL, OPEN_INNER}
use Rattle.dg_rt.specs.declared.registers.TheConstants.{INNER}
use Rattle.dg_rt.specs.Areas.{back_reg}
use Rattle.dg_rt.specs.Shapes.{Shows}
use Rattle.dg_rt.specs.RunTime.{routine_of}
use Rattle.dg_rt.specs.Closings.{closing_most}
use Rattle.dg_turn.specs.Told.{Telling}
use Rattle.dg_turn.specs.Lies.{OpensFewer, StopsFewer}
use Rattle.dg_turn.specs.Plays.{Playing, Outside, Represented, Comes, Closes}

-- ## Opening

-- The routine that opens a choice whose other way is a block, by the number of that block's routine, and goes on there.
abbrev pub branch_routine : ℕ → ℕ → Routine
branch_routine alt behind =
    routine_of 0 (acts.Call None (atoms.Routine OPEN) (args.Three (atoms.Routine alt) (atoms.Num 0) (atoms.Num 0))
    ∷ acts.Return (atoms.Routine behind) ∷ [])

-- The same where an inner construct begins with the choice, which gathers nothing: their cells are the same.
abbrev pub try_routine : ℕ → ℕ → Routine
try_routine alt behind =
    routine_of 0 (acts.Call (Some INNER) (atoms.Routine OPEN) (args.Three (atoms.Routine alt) (atoms.Num 0) (atoms.Num 65535))
    ∷ acts.Return (atoms.Routine behind) ∷ [])

-- The player is in front of a routine that opens a choice whose other way is a block.
pub record OpensAt (t : Telling) (out : Outside) (routine : ℕ → ℕ → Routine) (block behind : ℕ) (m : Mid) (z : ZState) : Type 0 where
  pub x : ℕ
  pub alt : ℕ
  pub rep : Represented t out x m z
  pub there : t.p.routine_at x ≡ Some (routine alt behind)
  pub alt_is : t.p.names.routine alt ≡ t.at_block block

-- In one turn the choice is opened, or the heap's limit is met: `does` of a `Branch` and of a `Try`, and `resumed` of a `Retry`.
pub record BranchTurns : Type 0 where
  pub branches : (t : Telling) → Playing t → (out : Outside) (block behind : ℕ) (m : Mid) (z : ZState) →
      OpensAt t out branch_routine block behind m z → m.state.heap + 10 ≤ 10000 →
      Comes t out (t.p.names.routine behind) (inside (Goes block) 0 m) 30 z
  pub tries : (t : Telling) → Playing t → (out : Outside) (block behind : ℕ) (m : Mid) (z : ZState) →
      OpensAt t out try_routine block behind m z → m.state.heap + 10 ≤ 10000 →
      Comes t out (t.p.names.routine behind) (within (place_of m) (inside (Goes block) 0 m)) 30 z
  pub branch_meets : (t : Telling) → Playing t → (out : Outside) (block behind : ℕ) (m : Mid) (z : ZState) →
      (o : OpensAt t out branch_routine block behind m z) → 10000 < m.state.heap + 10 →
      Closes t out HeapLimit (10 + closing_most) z
  pub try_meets : (t : Telling) → Playing t → (out : Outside) (block behind : ℕ) (m : Mid) (z : ZState) →
      (o : OpensAt t out try_routine block behind m z) → 10000 < m.state.heap + 10 →
      Closes t out HeapLimit (10 + closing_most) z

-- The routine that begins an inner construct without a choice, and goes on there.
abbrev pub once_routine : ℕ → Routine
once_routine behind = routine_of 0 (acts.Call None (atoms.Routine OPEN_INNER) args.Zero ∷ acts.Return (atoms.Routine behind) ∷ [])

-- In one turn it is begun, or the heap's limit is met: `does` of a `Once`.
pub record OnceTurns : Type 0 where
  pub begins : (t : Telling) → Playing t → (out : Outside) (x behind : ℕ) (m : Mid) (z : ZState) →
      t.p.routine_at x ≡ Some (once_routine behind) → m.state.heap + 10 ≤ 10000 → Represented t out x m z →
      Comes t out (t.p.names.routine behind) (within (place_of m) (more 10 (passed m))) 20 z
  pub meets : (t : Telling) → Playing t → (out : Outside) (x behind : ℕ) (m : Mid) (z : ZState) →
      t.p.routine_at x ≡ Some (once_routine behind) → 10000 < m.state.heap + 10 → (r : Represented t out x m z) →
      Closes t out HeapLimit (10 + closing_most) z

-- ## Going back

-- The player is back at a choice that takes out a gathering for a value: a word that stands for it is in the register of what comes behind a query, and
-- the choices and stoppable parts that are left were opened where fewer gatherings were open.
pub record TakesAt (t : Telling) (out : Outside) (block : ℕ) (into : Value) (m : Mid) (most : ℕ) (z : ZState) : Type 0 where
  pub comes : Comes t out (t.at_block block) m most z
  pub into_is : Shows comes.rep.sh (comes.rep.cells back_reg) into
  pub fewer : OpensFewer (length m.gathered) m.choices × StopsFewer (length m.gathered) m.stops

-- In one turn a failure goes back to a choice that goes on with a block, or takes out a gathering there, in 6 instructions for each binding that is
-- undone and 34.
pub record BackTurns : Type 0 where
  pub goes : (t : Telling) → Playing t → (out : Outside) (m : Mid) (x : Choice) (xs : List Choice) (block : ℕ) (z : ZState) →
      m.choices ≡ x ∷ xs → x.way ≡ Goes block → StatusOrdered (Fails m) → Represented t out (t.p.names.routine FAIL) m z →
      Comes t out (t.at_block block) (back_at x xs m) (6 * undone m.choices m + 34) z
  pub takes : (t : Telling) → Playing t → (out : Outside) (m : Mid) (x : Choice) (xs : List Choice) (block : ℕ) (into : Value) (z : ZState) →
      m.choices ≡ x ∷ xs → x.way ≡ Takes block into → StatusOrdered (Fails m) → Represented t out (t.p.names.routine FAIL) m z →
      TakesAt t out block into (back_at x xs m) (6 * undone m.choices m + 34) z
