-- What a story of routines does in its run. Hold it against z_lang/specs/Runs.antt, which says where acts lead, and z_model/specs/Run.antt, which says
-- what a run is.
use Rattle.std.specs.Prelude.{◌≡◌, ℕ, ◌+◌, ◌*◌, ◌≤◌, List, [], Some, Ok, slice_get}
use Rattle.z_model.specs.declared.fault.ZFault.{ZFault}
use Rattle.z_model.specs.declared.end.ZEnd.{ZEnd}
use Rattle.z_model.specs.declared.end.ZEnd.TheVariants as ends
use Rattle.z_model.specs.Machine.{Machine}
use Rattle.z_model.specs.Run.{ZGiven, ZState, ZRun, zrun, halt_ending}
use Rattle.z_model.specs.Story.{given_of, start_state, memory_of, story_run}
use Rattle.z_code.specs.Targets.{label_from}
use Rattle.z_lang.specs.declared.act.Routine.{Routine}
use Rattle.z_lang.specs.State.{State, Program}
use Rattle.z_lang.specs.Runs.{ActsOutcome, Returns, Stops, Rests, ActsRun, routine_entered}
use Rattle.z_lang.specs.Code.{ops_of_acts}
use Rattle.z_lang.specs.Standing.{RoutinesStand, IsKept, Context, HasRoom, Follows, resumed, state_at, program_of}
use Rattle.z_asm.specs.Story.{image_names}
use Rattle.z_story.specs.declared.building.Parts.{Parts}
use Rattle.z_story.specs.Parts.{image_of}

-- the program of a story's routines, with these dice words
abbrev pub program : Parts → List ℕ → List ℕ → Program
program parts story dice = program_of (given_of story dice) (image_names (image_of parts)) parts.routines

-- the packed address of a routine by its number, and the address of its first instruction
abbrev pub packed_at : Parts → ℕ → ℕ
packed_at parts k = (image_names (image_of parts)).routine k

abbrev pub first_at : Parts → ℕ → ℕ
first_at parts k = 8 * packed_at parts k + 1

-- ---- a routine

-- The run isn't broken within n instructions.
abbrev pub IsUnbroken : ZGiven → ℕ → ZState → Type 0
IsUnbroken w n z = (k : ℕ) → k ≤ n → (fault : ZFault) (at : ℕ) → (zrun w k z).end ≡ ends.Broken fault at → ⊥

-- Nor is it on the way to an outcome; on the way to a return, where the caller can take the answer; and an end of the run is none.
abbrev pub IsSafe : ZGiven → Context → ActsOutcome → State → ℕ → ZState → Type 0
IsSafe w c (Returns x) s n z = (m : Machine) → resumed w.layout s c x ≡ Ok m → IsUnbroken w n z
IsSafe w c (Stops halt) s n z = (k : ℕ) → IsUnbroken w k z
IsSafe w c (Rests acts) s n z = IsUnbroken w n z

-- Where the routine's acts run to an outcome in n instructions, from wherever it was called and on whatever memory the story has come to, the
-- player comes to that outcome in exactly n steps, and isn't broken on the way.
pub record DoesItsActs (p : Program) (story : List ℕ) (at : ℕ) (r : Routine) : Type 0 where
  pub comes : (c : Context) (f w n : ℕ) (s s' : State) (o : ActsOutcome) → IsKept p.world.layout.base story s.memory → HasRoom c s f w →
      ActsRun p f w r.body r.body s o s' n → Follows p story (label_from at (ops_of_acts r.body)) c o s' n (state_at s c at)
  pub safe : (c : Context) (f w n : ℕ) (s s' : State) (o : ActsOutcome) → IsKept p.world.layout.base story s.memory → HasRoom c s f w →
      ActsRun p f w r.body r.body s o s' n → IsSafe p.world c o s' n (state_at s c at)

-- ---- the whole run

-- the state in which a story's first routine begins
abbrev pub first_state : List ℕ → List ℕ → Routine → State
first_state story typed r = routine_entered (record { memory = memory_of story; locals = []; typed = typed; drawn = 0; output = [] }) r.locals (0, 0, 0)

-- A run has this end and this output.
abbrev pub IsRun : ZRun → ZEnd → List ℕ → Type 0
IsRun run end output = (run.end ≡ end) × (run.state.output ≡ output)

-- How a story's run goes by the outcome of its first routine, which comes one instruction behind the run's beginning: an end is the run's; where the
-- routine returns, the story quits with the next instruction; and else it has come so far.
abbrev pub GoesBy : (ℕ → ZRun) → ActsOutcome → List ℕ → ℕ → Type 0
GoesBy run (Returns x) output n = (k : ℕ) → n + 1 ≤ k → IsRun (run k) ends.Quit output
GoesBy run (Stops halt) output n = (k : ℕ) → n ≤ k → IsRun (run k) (halt_ending halt) output
GoesBy run (Rests acts) output n = IsRun (run n) ends.StepLimit output

-- Where the first routine's acts run to an outcome in n instructions, within the player's frames and words, the story's run goes by it, and isn't
-- broken up to there.
pub record PlaysFirst (p : Program) (story : List ℕ) (r : Routine) : Type 0 where
  pub goes : (typed : List ℕ) (f w n : ℕ) (s' : State) (o : ActsOutcome) → f ≤ 8190 → r.locals + w ≤ 65536 →
      ActsRun p f w r.body r.body (first_state story typed r) o s' n → GoesBy (story_run story typed p.world.dice) o s'.output (n + 1)
  pub safe : (typed : List ℕ) (f w n : ℕ) (s' : State) (o : ActsOutcome) → f ≤ 8190 → r.locals + w ≤ 65536 →
      ActsRun p f w r.body r.body (first_state story typed r) o s' n → IsUnbroken p.world (n + 1) (start_state story typed)

-- ---- the story

-- All routines of a story stand in it, each is the one that its name calls, each does what its acts mean, and the run is the first one's.
pub record StoryDoes (parts : Parts) (story : List ℕ) : Type 0 where
  pub stands : (dice : List ℕ) → RoutinesStand (program parts story dice) story
  pub named : (dice : List ℕ) (k : ℕ) (r : Routine) → slice_get parts.routines k ≡ Some r →
      (program parts story dice).routine_at (packed_at parts k) ≡ Some r
  pub does : (dice : List ℕ) (k : ℕ) (r : Routine) → slice_get parts.routines k ≡ Some r →
      DoesItsActs (program parts story dice) story (first_at parts k) r
  pub plays : (dice : List ℕ) (r : Routine) → slice_get parts.routines 0 ≡ Some r → PlaysFirst (program parts story dice) story r
