-- What holds of every step and run: a run comes in pieces, its output only grows, the code stays, and what stands at the counter is done.
use Rattle.std.specs.Prelude.{◌≡◌, ◌≢◌, ◌<◌, ◌≤◌, ℕ, ◌+◌, List, ◌∷◌, ◌++◌, length, drop, flat_map, slice_get, Ok}
use Rattle.dg_base.specs.Begins.{Begins}
use Rattle.z_model.specs.declared.op.Op.{Op}
use Rattle.z_model.specs.declared.op.Found.{Found}
use Rattle.z_model.specs.declared.story.Layout.{Layout}
use Rattle.z_model.specs.declared.end.ZEnd.{ZEnd}
use Rattle.z_model.specs.declared.end.ZEnd.TheVariants as ends
use Rattle.z_model.specs.Table.{Rows}
use Rattle.z_model.specs.Decode.{◌>>=◌, op_at}
use Rattle.z_model.specs.Spelling.{spelling, BytesAt, IsOfTable, IsInstruction}
use Rattle.z_model.specs.Text.{string_at}
use Rattle.z_model.specs.Machine.{Machine, operand_values}
use Rattle.z_model.specs.Step.{do_instr, machine_step}
use Rattle.z_model.specs.Run.{ZGiven, ZState, Next, On, Ended, ZRun, zstep, zrun}

-- goes on where the steps were used up
abbrev pub then_more : (ZState → ZRun) → ZRun → ZRun
then_more more r = by_end r.end
  where
    by_end : ZEnd → ZRun
    by_end ends.StepLimit = more r.state
    by_end ends.Quit = r
    by_end ends.InputEnded = r
    by_end (ends.Broken fault at) = r

-- A run of k + j steps is one of k and then one of j, and what was printed stays.
pub record RunLaws (w : ZGiven) (s : ZState) : Type 0 where
  pub sum : (k j : ℕ) → zrun w (k + j) s ≡ then_more (zrun w j) (zrun w k s)
  pub grows : (k : ℕ) → Begins s.output (zrun w k s).state.output

-- ---- the code stays

-- The globals lie, 480 bytes long, between 64 and the static base, as those of a story do.
pub record IsLaid (layout : Layout) : Type 0 where
  pub from : 64 ≤ layout.globals
  pub globals : layout.globals + 480 ≤ layout.base

-- The length stays, the bytes from the static base on, and the header but for its flags.
pub record KeepsCode (layout : Layout) (old new : List ℕ) : Type 0 where
  pub size : length new ≡ length old
  pub code : drop layout.base new ≡ drop layout.base old
  pub header : (a : ℕ) → a < 64 → a ≢ 16 → a ≢ 17 → slice_get new a ≡ slice_get old a

-- the state in which an instruction leaves the run
abbrev pub state_behind : Next → ZState
state_behind (On s) = s
state_behind (Ended halt s) = s

-- A step keeps the code, and so does a run.
pub record CodeStays (w : ZGiven) (s : ZState) : Type 0 where
  pub step : KeepsCode w.layout s.machine.memory (state_behind (zstep w s)).machine.memory
  pub run : (k : ℕ) → KeepsCode w.layout s.machine.memory (zrun w k s).state.machine.memory

-- What stands from the static base on stands in each memory that keeps the code.
pub record StandsOn (layout : Layout) (old new : List ℕ) : Type 0 where
  pub bytes : (at : ℕ) (bytes : List ℕ) → layout.base ≤ at → BytesAt old at bytes → BytesAt new at bytes
  pub instruction : (rows : Rows) (at : ℕ) (op : Op) (end : ℕ) → layout.base ≤ at → IsInstruction rows old at op end →
      IsInstruction rows new at op end
  pub decoded : (rows : Rows) (at : ℕ) (x : Found) → layout.base ≤ at → IsInstruction rows old at x.op x.end →
      op_at rows old at ≡ Ok x → op_at rows new at ≡ Ok x
  pub string : (at : ℕ) → layout.base ≤ at → string_at new at ≡ string_at old at

-- ---- what stands at the counter is done

-- The operands of the instruction at the counter are taken, and then it does what its row says.
pub record IsDone (rows : Rows) (layout : Layout) (word : ℕ) (m : Machine) : Type 0 where
  pub is : (op : Op) (end : ℕ) (i : IsInstruction rows m.memory m.pc op end) →
      machine_step rows layout word m ≡ (operand_values layout m op.operands >>= λ a. do_instr layout word i.row.instr op end a.0 a.1)

-- an op of the table without literal text
pub record IsTextless (rows : Rows) (op : Op) : Type 0 where
  pub of_table : IsOfTable rows op
  pub text : op.text ≡ 0

-- Ops that are written one behind another are instructions one behind another.
pub record InARow (rows : Rows) (bytes : List ℕ) (at : ℕ) (ops : List Op) : Type 0 where
  pub each : (front rest : List Op) (op : Op) → ops ≡ front ++ op ∷ rest →
      IsInstruction rows bytes (at + length (flat_map spelling front)) op (at + length (flat_map spelling front) + length (spelling op))
