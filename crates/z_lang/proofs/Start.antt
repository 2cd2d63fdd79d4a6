-- A story's first instruction calls a routine without arguments, which begins.
use Rattle.std.proofs.Common.{◌≡◌, ◌≢◌, ℕ, ◌+◌, ◌*◌, ◌≤◌, List, [], ◌∷◌, Some, None, Ok, refl, ◌∙◌, arith}
use Rattle.std.specs.Prelude.{slice_get}
use Rattle.std.proofs.lemmas.Bool.{le-ltb, ne_eqb}
use Rattle.z_model.specs.declared.story.Layout.{Layout}
use Rattle.z_model.specs.declared.op.Op.{Op}
use Rattle.z_model.specs.declared.op.Operand.TheVariants as operands
use Rattle.z_model.specs.declared.table.Instr.TheVariants as instrs
use Rattle.z_model.specs.declared.table.One.TheVariants as one
use Rattle.z_model.specs.declared.end.Args.{Args as ZArgs}
use Rattle.z_model.specs.Story.{start_state, memory_of, first_address}
use Rattle.z_model.specs.Flow.{called, frame_entered as entered_by, local_count}
use Rattle.z_model.specs.Machine.{Machine}
use Rattle.z_model.specs.Run.{ZGiven, ZState, zstep, next_by, word_at}
use Rattle.z_model.specs.Step.{do_instr, do_one}
use Rattle.z_code.specs.declared.target.Target.TheVariants as targets
use Rattle.z_code.specs.Targets.{OpAt}
use Rattle.z_lang.specs.declared.act.Routine.{Routine}
use Rattle.z_lang.specs.State.{State, Program}
use Rattle.z_lang.specs.Runs.{routine_entered}
use Rattle.z_lang.specs.Code.{short_op}
use Rattle.z_lang.specs.Standing.{RoutinesStand, IsKept, Context, machine_at, state_at}
use Rattle.z_lang.proofs.Kept.{kept_get}
use Rattle.z_lang.proofs.Operands.{values_one, args_of}
use Rattle.z_lang.proofs.Follows.{end_at, by_row, on, large_is}

-- the opening frame
abbrev pub opening : Context
opening = record { back = 0; store = None; args = 0; callers = [] }

abbrev pub start_of_play : List ℕ → List ℕ → State
start_of_play memory typed = record { memory = memory; locals = []; typed = typed; drawn = 0; output = [] }

-- the player's start is this state at the first instruction
pub starts : (file typed : List ℕ) → start_state file typed ≡ state_at (start_of_play (memory_of file) typed) opening (first_address file)
starts file typed = refl

-- the routine that it calls was called from there
abbrev pub from_opening : ℕ → Context
from_opening end = record { back = end; store = None; args = 0; callers = record { back = 0; store = None; args = 0; locals = []; stack = [] } ∷ [] }

abbrev call_first : Op
call_first = short_op 15 (operands.Large 0)

call_begins : (layout : Layout) (memory typed : List ℕ) (pc end x n : ℕ) → x ≢ 0 → slice_get memory (8 * x) ≡ Some n → n ≤ 15 → called layout (machine_at (start_of_play memory typed) opening pc) end None (args_of 1 x 0 0 0) ≡ Ok (machine_at (routine_entered (start_of_play memory typed) n (0, 0, 0)) (from_opening end) (8 * x + 1))
unfolding called entered_by local_count
call_begins layout memory typed pc end x n some count few = rw (ne_eqb x 0 some, count, le-ltb 15 n few, le-ltb 65536 (0 + (0 + 0) + n) (omega arith)) refl

first_by : (w : ZGiven) (z : ZState) (end word : ℕ) (op : Op) (a : ZArgs) (m : Machine) → called w.layout z.machine end op.store a ≡ Ok m → next_by w z (do_instr w.layout word (instrs.One one.Call1n) op end a z.machine) ≡ on (record z { machine = m })
unfolding do_instr do_one
first_by w z end word op a m e = rw e refl

-- One instruction leads to the routine's beginning.
pub begins : (p : Program) (story : List ℕ) → RoutinesStand p story → (labels : ℕ → ℕ) (memory typed : List ℕ) (pc k : ℕ) (r : Routine) → OpAt story p.names labels pc call_first (Some (targets.Routine k) ∷ None ∷ None ∷ None ∷ []) None → IsKept p.world.layout.base story memory → p.world.layout.base ≤ pc → p.routine_at (p.names.routine k) ≡ Some r →
    zstep p.world (state_at (start_of_play memory typed) opening pc) ≡ on (state_at (routine_entered (start_of_play memory typed) r.locals (0, 0, 0)) (from_opening (end_at pc call_first)) (8 * p.names.routine k + 1))
begins p story stands labels memory typed pc k r fits kept from at =
    let place = stands.each (p.names.routine k) r at in
    let x = p.names.routine k in
    let end = end_at pc call_first in
    by_row p story labels (start_of_play memory typed) opening pc call_first (Some (targets.Routine k) ∷ None ∷ None ∷ None ∷ []) None (args_of 1 x 0 0 0) _ stands.laid_out (record { fits = fits; kept = kept; from = from }) (values_one p.world.layout (machine_at (start_of_play memory typed) opening pc) _ x (large_is p (start_of_play memory typed) opening pc x)) refl
    ∙ first_by p.world (state_at (start_of_play memory typed) opening pc) end (word_at p.world 0) _ (args_of 1 x 0 0 0) _ (call_begins p.world.layout memory typed pc end x r.locals place.some (kept_get p.world.layout.base story memory (8 * x) kept place.within ∙ place.count) place.few)
