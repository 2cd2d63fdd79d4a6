-- The machine: its frames and its variables (Z-Machine Standard 1.1, sections 4.2, 6.1 to 6.4 and 7.1).
use Rattle.std.specs.Prelude.{ℕ, ◌+◌, ◌-◌, ◌*◌, ◌/◌, ◌%◌, List, [], ◌∷◌, ◌++◌, length, take, Option, Some, None, Result, Ok, Err, Bool, true, false, nat_lt, ◌==◌, if◌then◌else◌, slice_get, slice_index, slice_set}
use Rattle.z_model.specs.declared.fault.ZFault.{ZFault}
use Rattle.z_model.specs.declared.fault.ZFault.TheVariants.{BadOpcode, StackEmpty, StackFull, BadLocal}
use Rattle.z_model.specs.declared.op.Operand.{Operand}
use Rattle.z_model.specs.declared.op.Operand.TheVariants as operands
use Rattle.z_model.specs.declared.op.Operands.{Operands}
use Rattle.z_model.specs.declared.end.Args.{Args}
use Rattle.z_model.specs.declared.end.OpenTable.{OpenTable}
use Rattle.z_model.specs.declared.story.Layout.{Layout}
use Rattle.z_model.specs.Decode.{◌>>=◌, or_fault}
use Rattle.z_model.specs.Memory.{word_of}

-- A routine that was called: where its caller goes on, which variable takes its answer, how many arguments it was given,
-- its locals, and its stack with the top last.
pub record Frame : Type 0 where
  pub back : ℕ
  pub store : Option ℕ
  pub args : ℕ
  pub locals : List ℕ
  pub stack : List ℕ

-- The memory, the address of the next instruction, the present frame, the callers, and the tables into which output goes; the newest are first.
pub record Machine : Type 0 where
  pub memory : List ℕ
  pub pc : ℕ
  pub here : Frame
  pub callers : List Frame
  pub tables : List OpenTable

-- ---- words on the stacks

abbrev pub frame_words : Frame → ℕ
frame_words f = length f.locals + length f.stack

abbrev pub words_in : List Frame → ℕ
words_in [] = 0
words_in (f ∷ fs) = words_in fs + frame_words f

-- the words of all frames
abbrev pub words : Machine → ℕ
words m = words_in m.callers + frame_words m.here

abbrev pub with_stack : Machine → List ℕ → Machine
with_stack m stack = record m { here = record m.here { stack = stack } }

abbrev pub with_locals : Machine → List ℕ → Machine
with_locals m locals = record m { here = record m.here { locals = locals } }

unfoldable pub pushed : Machine → ℕ → Result Machine ZFault
pushed m x = if nat_lt (words m) 65536 then Ok (with_stack m (m.here.stack ++ x ∷ [])) else Err StackFull

unfoldable pub popped : Machine → Result (ℕ × Machine) ZFault
popped m =
    if nat_lt 0 (length m.here.stack) then
    Ok (slice_index m.here.stack (length m.here.stack - 1), with_stack m (take (length m.here.stack - 1) m.here.stack))
    else Err StackEmpty

-- ---- variables

abbrev pub global_at : Layout → ℕ → ℕ
global_at layout v = layout.globals + 2 * (v - 16)

abbrev pub global_of : Layout → Machine → ℕ → ℕ
global_of layout m v = word_of (slice_index m.memory (global_at layout v)) (slice_index m.memory (global_at layout v + 1))

abbrev pub local_of : Machine → ℕ → Result ℕ ZFault
local_of m v = or_fault BadLocal (slice_get m.here.locals (v - 1))

-- takes the value of a variable; 0 takes a word from the stack
unfoldable pub variable_of : Layout → Machine → ℕ → Result (ℕ × Machine) ZFault
variable_of layout m v =
    if v == 0 then popped m
    else if nat_lt v 16 then (local_of m v >>= λ x. Ok (x, m)) else Ok (global_of layout m v, m)

abbrev pub global_set : Layout → Machine → ℕ → ℕ → Machine
global_set layout m v x = record m { memory = slice_set (slice_set m.memory (global_at layout v) (x / 256)) (global_at layout v + 1) (x % 256) }

-- gives a local a value
unfoldable pub local_set : Machine → ℕ → ℕ → Result Machine ZFault
local_set m v x = if nat_lt (v - 1) (length m.here.locals) then Ok (with_locals m (slice_set m.here.locals (v - 1) x)) else Err BadLocal

-- gives a variable a value; 0 pushes a word
unfoldable pub stored : Layout → Machine → ℕ → ℕ → Result Machine ZFault
stored layout m v x =
    if v == 0 then pushed m x
    else if nat_lt v 16 then local_set m v x
    else if nat_lt v 256 then Ok (global_set layout m v x) else Err BadOpcode

-- the store of an instruction, where it has one
unfoldable pub stored_if : Layout → Machine → Option ℕ → ℕ → Result Machine ZFault
stored_if layout m None x = Ok m
stored_if layout m (Some v) x = stored layout m v x

-- ---- variables that an operand names: 0 is the top of the stack, in place

unfoldable pub held_in : Layout → Machine → ℕ → Result ℕ ZFault
held_in layout m v =
    if v == 0 then (popped m >>= λ p. Ok p.0)
    else if nat_lt v 16 then local_of m v
    else if nat_lt v 256 then Ok (global_of layout m v) else Err BadOpcode

unfoldable pub placed : Layout → Machine → ℕ → ℕ → Result Machine ZFault
placed layout m v x = if v == 0 then (popped m >>= λ p. pushed p.1 x) else stored layout m v x

-- ---- operands, from left to right

unfoldable pub operand_value : Layout → Machine → Operand → Result (ℕ × Machine) ZFault
operand_value layout m (operands.Large w) = Ok (w, m)
operand_value layout m (operands.Small b) = Ok (b, m)
operand_value layout m (operands.Variable v) = variable_of layout m v

unfoldable pub value_if : Layout → Machine → Bool → Operand → Result (ℕ × Machine) ZFault
value_if layout m false x = Ok (0, m)
value_if layout m true x = operand_value layout m x

unfoldable pub operand_values : Layout → Machine → Operands → Result (Args × Machine) ZFault
operand_values layout m o = do
  first ← value_if layout m (nat_lt 0 o.count) o.first
  second ← value_if layout first.1 (nat_lt 1 o.count) o.second
  third ← value_if layout second.1 (nat_lt 2 o.count) o.third
  fourth ← value_if layout third.1 (nat_lt 3 o.count) o.fourth
  Ok (record { count = o.count; first = first.0; second = second.0; third = third.0; fourth = fourth.0 }, fourth.1)
