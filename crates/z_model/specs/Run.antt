-- A step of the whole player, and a run of at most so many (Z-Machine Standard 1.1, section 5.5 on the start, section 7 on output, section 10 on input).
use Rattle.std.specs.Prelude.{ℕ, zero, suc, ◌+◌, ◌%◌, List, [], ◌∷◌, ◌++◌, length, Option, Result, Ok, Err, nat_lt, ◌==◌, ◌&&◌, ◌||◌, if◌then◌else◌, slice_index, encode_utf8}
use Rattle.std.specs.Fmt.{signed_decimal}
use Rattle.z_model.specs.declared.fault.ZFault.{ZFault}
use Rattle.z_model.specs.declared.story.Layout.{Layout}
use Rattle.z_model.specs.declared.end.Halt.{Halt}
use Rattle.z_model.specs.declared.end.Halt.TheVariants.{AtQuit, AtInput, AtFault}
use Rattle.z_model.specs.declared.end.ZEnd.{ZEnd}
use Rattle.z_model.specs.declared.end.ZEnd.TheVariants as ends
use Rattle.z_model.specs.declared.end.Effect.{Effect}
use Rattle.z_model.specs.declared.end.Effect.TheVariants.{Goes, PrintsCode, PrintsUnicode, PrintsNumber, PrintsText, PrintsLine, Draws, Reads, ReadsKey, Quits}
use Rattle.z_model.specs.Table.{Rows}
use Rattle.z_model.specs.Decode.{◌>>=◌}
use Rattle.z_model.specs.Zscii.{code_utf8}
use Rattle.z_model.specs.Text.{string_at, text_bytes}
use Rattle.z_model.specs.Typed.{typed_line, typed_left}
use Rattle.z_model.specs.Memory.{Memory, guarded, with_byte, with_bytes}
use Rattle.z_model.specs.Machine.{Machine, stored_if}
use Rattle.z_model.specs.Numbers.{signed_16}
use Rattle.z_model.specs.Flow.{returned}
use Rattle.z_model.specs.Step.{machine_step}

-- What a run is given: the instruction table, the story's layout, and the dice words, which are used in order and again from the first.
pub record ZGiven : Type 0 where
  pub rows : Rows
  pub layout : Layout
  pub dice : List ℕ

-- The machine, the typed bytes left, the place in the dice, and the output in UTF-8.
pub record ZState : Type 0 where
  pub machine : Machine
  pub typed : List ℕ
  pub drawn : ℕ
  pub output : List ℕ

-- how an instruction leaves the run
pub data Next : Type 0 where
  On : (s : ZState) → Next
  Ended : (halt : Halt) → (s : ZState) → Next

-- the dice word at a place
abbrev pub word_at : ZGiven → ℕ → ℕ
word_at w drawn = slice_index w.dice drawn

abbrev pub next_drawn : ZGiven → ℕ → ℕ
next_drawn w drawn = (drawn + 1) % length w.dice

-- the address is that of the instruction
abbrev pub broken_at : ZState → ZFault → Next
broken_at s fault = Ended (AtFault fault s.machine.pc) s

-- a state with another machine, and more output
abbrev pub after_output : ZState → Machine → List ℕ → ZState
after_output s m text = record s { machine = m; output = s.output ++ text }

abbrev pub on_unless : ZState → ZState → Result Machine ZFault → Next
on_unless s after (Ok m) = On (record after { machine = m })
on_unless s after (Err fault) = broken_at s fault

-- a typed line in its buffer: the characters from byte 2 on, their number in byte 1
unfoldable pub with_line : Memory → ℕ → List ℕ → Result Memory ZFault
with_line mem buffer line = do
  first ← with_bytes mem ((buffer + 2) % 65536) line
  with_byte first ((buffer + 1) % 65536) (length line)

-- and 13 stored behind it
unfoldable pub line_read : Layout → Machine → ℕ → Option ℕ → List ℕ → Result Machine ZFault
line_read layout m buffer store line = do
  memory ← with_line (guarded layout m.memory) buffer line
  stored_if layout (record m { memory = memory.bytes }) store 13

-- a typed line is taken, where a typed byte is left
abbrev pub line_taken : ZGiven → ZState → Machine → ℕ → ℕ → Option ℕ → List ℕ → Next
line_taken w s m buffer most store [] = Ended AtInput (record s { machine = m })
line_taken w s m buffer most store (byte ∷ typed) =
    on_unless s (record s { typed = typed_left (byte ∷ typed) }) (line_read w.layout m buffer store (typed_line most (byte ∷ typed)))

-- the code of a typed byte: 13 ends a line, and what is no printed part of ASCII is a question mark
abbrev pub key_code : ℕ → ℕ
key_code byte = if (byte == 10) || (byte == 13) then 13 else if nat_lt 31 byte && nat_lt byte 127 then byte else 63

-- a typed byte is taken, where one is left
abbrev pub key_taken : ZGiven → ZState → Machine → Option ℕ → List ℕ → Next
key_taken w s m store [] = Ended AtInput (record s { machine = m })
key_taken w s m store (byte ∷ typed) = on_unless s (record s { typed = typed }) (stored_if w.layout m store (key_code byte))

-- the outside's part of an instruction, behind which the machine is m
abbrev pub effect_on : ZGiven → ZState → Effect → Machine → Next
effect_on w s Goes m = On (record s { machine = m })
effect_on w s (PrintsCode c) m = On (after_output s m (code_utf8 c))
effect_on w s (PrintsUnicode c) m = On (after_output s m (encode_utf8 c))
effect_on w s (PrintsNumber x) m = On (after_output s m (signed_decimal (signed_16 x)))
effect_on w s (PrintsText at) m = On (after_output s m (text_bytes (string_at m.memory at)))
effect_on w s (PrintsLine at) m = on_unless s (after_output s m (text_bytes (string_at m.memory at) ++ 10 ∷ [])) (returned w.layout m 1)
effect_on w s Draws m = On (record s { machine = m; drawn = next_drawn w s.drawn })
effect_on w s (Reads buffer most store) m = line_taken w s m buffer most store s.typed
effect_on w s (ReadsKey store) m = key_taken w s m store s.typed
effect_on w s Quits m = Ended AtQuit (record s { machine = m })

abbrev pub next_by : ZGiven → ZState → Result (Effect × Machine) ZFault → Next
next_by w s (Err fault) = broken_at s fault
next_by w s (Ok am) = effect_on w s am.0 am.1

-- one instruction
unfoldable pub zstep : ZGiven → ZState → Next
zstep w s = next_by w s (machine_step w.rows w.layout (word_at w s.drawn) s.machine)

-- how a run ended, and its last state
pub record ZRun : Type 0 where
  pub end : ZEnd
  pub state : ZState

abbrev pub halt_ending : Halt → ZEnd
halt_ending AtQuit = ends.Quit
halt_ending AtInput = ends.InputEnded
halt_ending (AtFault fault at) = ends.Broken fault at

abbrev pub go_on : (ZState → ZRun) → Next → ZRun
go_on more (On s) = more s
go_on more (Ended halt s) = record { end = halt_ending halt; state = s }

-- at most n instructions
unfoldable pub zrun : ZGiven → ℕ → ZState → ZRun
zrun w zero s = record { end = ends.StepLimit; state = s }
zrun w (suc n) s = go_on (zrun w n) (zstep w s)
