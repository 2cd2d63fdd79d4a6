-- Stoppable parts that are begun, left and stopped, inner constructs that are left for a failure, and ends of runs, as turns. Hold it against
-- dg_mid/specs/Step.antt, "Stoppable parts and gatherings" and "Inner constructs".
use Rattle.std.specs.Prelude.{◌≡◌, ℕ, ◌+◌, ◌*◌, ◌<◌, ◌≤◌, List, [], ◌∷◌, Some, None}
use Rattle.dg_base.specs.declared.run.Ending.TheVariants.{Done, Stopped, HeapLimit}
use Rattle.dg_mid.specs.State.{Place, Stop, Mid, Runs, stop_to}
use Rattle.dg_mid.specs.Step.{Setting, cut_to, shielded, stopped}
use Rattle.dg_mid.specs.Units.{dropped, unwound}
use Rattle.dg_mid.specs.Heights.{AgreeAll, StatusOrdered}
use Rattle.dg_mid.specs.Trails.{StatusTrailed}
use Rattle.z_model.specs.Run.{ZState}
use Rattle.z_lang.specs.declared.act.Act.TheVariants as acts
use Rattle.z_lang.specs.declared.act.Args.TheVariants as args
use Rattle.z_lang.specs.declared.act.Atom.TheVariants as atoms
use Rattle.z_lang.specs.declared.act.Function.TheVariants as functions
use Rattle.z_lang.specs.declared.act.Routine.{Routine}
use Rattle.dg_rt.specs.declared.numbers.TheConstants.{DONE, OPEN, FAIL, COMMIT, LEAVE, UNSTOP}
use Rattle.dg_rt.specs.declared.registers.TheConstants.{INNER, STOP}
use Rattle.dg_rt.specs.RunTime.{routine_of}
use Rattle.dg_rt.specs.Closings.{closing_most}
use Rattle.dg_turn.specs.Told.{Telling}
use Rattle.dg_turn.specs.Plays.{Playing, Outside, Represented, Comes, Closes}
use Rattle.dg_turn.specs.Turns.{goto_routine, commit_routine}
use Rattle.dg_turn.specs.Choices.{OpensAt}

-- ## Beginning

-- The routine that begins a stoppable part, by the number of the routine behind it, and goes on there: its choice, its inner construct and the part
-- have the same cells.
abbrev pub shield_routine : ℕ → ℕ → Routine
shield_routine alt behind =
    routine_of 0 (acts.Call (Some INNER) (atoms.Routine OPEN) (args.Three (atoms.Routine alt) (atoms.Num 0) (atoms.Num 65535))
    ∷ acts.Copy STOP (atoms.Var INNER) ∷ acts.Return (atoms.Routine behind) ∷ [])

-- In one turn it is begun, or the heap's limit is met: `does` of a `Shield`.
pub record ShieldTurns : Type 0 where
  pub begins : (t : Telling) → Playing t → (out : Outside) (block behind : ℕ) (m : Mid) (z : ZState) →
      OpensAt t out shield_routine block behind m z → m.state.heap + 10 ≤ 10000 →
      Comes t out (t.p.names.routine behind) (shielded block m) 30 z
  pub meets : (t : Telling) → Playing t → (out : Outside) (block behind : ℕ) (m : Mid) (z : ZState) →
      OpensAt t out shield_routine block behind m z → 10000 < m.state.heap + 10 → Closes t out HeapLimit (10 + closing_most) z

-- ## Leaving

-- The routine that leaves one and goes on there: the part around it is the one that its inner construct keeps. The address of that cell is 678, to which
-- twice the word of the construct is added; both wrap.
abbrev pub leave_routine : ℕ → Routine
leave_routine behind =
    routine_of 0 (acts.Compute STOP functions.Word (atoms.Num 678) (atoms.Var INNER) ∷ acts.Call None (atoms.Routine COMMIT) args.Zero
    ∷ acts.Return (atoms.Routine behind) ∷ [])

-- In one turn it is left, and the choices inside it are dropped, in 4 instructions each: `leaves`.
abbrev pub LeaveTurns : Type 0
LeaveTurns = (t : Telling) → Playing t → (out : Outside) (x : ℕ) (m : Mid) (z : ZState) (place : Place) (places : List Place) (behind : ℕ) →
    t.p.routine_at x ≡ Some (leave_routine behind) → m.inner ≡ place ∷ places → AgreeAll m.choices place → Represented t out x m z →
    Comes t out (t.p.names.routine behind) (cut_to place (record m { inner = places; stop = place.outer })) (4 * dropped place m.choices + 16) z

-- In one turn the newest inner construct is left, the choices inside it are dropped, and it fails: `refuses`.
abbrev pub RefuseTurns : Type 0
RefuseTurns = (t : Telling) → Playing t → (out : Outside) (x : ℕ) (m : Mid) (z : ZState) (place : Place) (places : List Place) →
    t.p.routine_at x ≡ Some (commit_routine FAIL) → m.inner ≡ place ∷ places → AgreeAll m.choices place → Represented t out x m z →
    Comes t out (t.p.names.routine FAIL) (cut_to place (record m { inner = places })) (4 * dropped place m.choices + 15) z

-- ## Stopping

-- In one turn of the routine that every story has for it, it goes on behind the innermost part that is open, in 4 instructions for each choice that is
-- dropped, 6 for each binding that is undone, and 20; without one the run ends: `stops`.
pub record StopTurns : Type 0 where
  pub stops : (g : Setting) (t : Telling) → Playing t → (out : Outside) (m : Mid) (tag : ℕ) (part : Stop) (around : List Stop) (z : ZState) →
      m.stop ≡ Some tag → stop_to tag m.stops ≡ Some (part, around) → StatusOrdered (Runs m) → StatusTrailed (Runs m) →
      Represented t out (t.p.names.routine UNSTOP) m z →
      Comes t out (t.at_block part.block) (stopped g part around m) (6 * unwound m.stop m + 20) z
  pub ends : (t : Telling) → Playing t → (out : Outside) (m : Mid) (z : ZState) → m.stop ≡ None →
      Represented t out (t.p.names.routine UNSTOP) m z → Closes t out Stopped 30 z

-- ## Ends

-- The run is done: an instruction that goes on with the closing of such a run ends it.
abbrev pub DoneTurns : Type 0
DoneTurns = (t : Telling) → Playing t → (out : Outside) (x : ℕ) (m : Mid) (z : ZState) → t.p.routine_at x ≡ Some (goto_routine DONE) →
    Represented t out x m z → Closes t out Done 30 z

-- A rule is answered where there is none: it fails.
abbrev pub NoRuleTurns : Type 0
NoRuleTurns = (t : Telling) → Playing t → (out : Outside) (m : Mid) (z : ZState) → m.frames ≡ [] →
    Represented t out (t.p.names.routine LEAVE) m z → Comes t out (t.p.names.routine FAIL) m 4 z
