-- What several instructions do: answers, printing, variables that operands name, objects and tables, reading and drawing (Z-Machine Standard 1.1, section 15).
use Rattle.std.specs.Prelude.{ℕ, ◌+◌, ◌%◌, List, [], ◌∷◌, Option, Some, None, is_some, Result, Ok, Err, Bool, not, nat_lt, ◌==◌, ◌||◌, if◌then◌else◌, slice_index}
use Rattle.z_model.specs.declared.fault.ZFault.{ZFault}
use Rattle.z_model.specs.declared.fault.ZFault.TheVariants.{BadWrite, BadCharacter, Unsupported}
use Rattle.z_model.specs.declared.op.Branch.{Branch}
use Rattle.z_model.specs.declared.end.Args.{Args}
use Rattle.z_model.specs.declared.end.OpenTable.{OpenTable}
use Rattle.z_model.specs.declared.story.Layout.{Layout}
use Rattle.z_model.specs.declared.end.Effect.{Effect}
use Rattle.z_model.specs.declared.end.Effect.TheVariants.{Goes, PrintsCode, PrintsUnicode, PrintsNumber, PrintsText, PrintsLine, Draws, Reads, ReadsKey, Quits}
use Rattle.z_model.specs.Decode.{◌>>=◌}
use Rattle.z_model.specs.Zscii.{is_printed, is_character}
use Rattle.z_model.specs.Text.{string_at, print_fault}
use Rattle.z_model.specs.Memory.{Memory, word_of, guarded, is_writable, byte_in, have_right}
use Rattle.z_model.specs.Machine.{Machine, popped, stored_if, held_in, placed}
use Rattle.z_model.specs.Flow.{at_pc, returned, branched}
use Rattle.z_model.specs.Tables.{usual_form, found_or_zero, scanned}
use Rattle.z_model.specs.Properties.{name_place}
use Rattle.z_model.specs.Streams.{codes_in, into_table}

-- ---- answers

abbrev pub goes : Result Machine ZFault → Result (Effect × Machine) ZFault
goes r = r >>= λ m. Ok (Goes, m)

-- the machine behind an instruction that gives this answer
abbrev pub answers : Layout → Machine → ℕ → Option ℕ → ℕ → Result (Effect × Machine) ZFault
answers layout m end store x = goes (stored_if layout (at_pc m end) store x)

-- the same, where the answer may be a fault
abbrev pub answers_or : Layout → Machine → ℕ → Option ℕ → Result ℕ ZFault → Result (Effect × Machine) ZFault
answers_or layout m end store r = r >>= λ x. answers layout m end store x

-- the machine with other bytes in its memory, unless there is a fault
abbrev pub write_effect : Machine → ℕ → Result Memory ZFault → Result (Effect × Machine) ZFault
write_effect m end r = r >>= λ memory. Ok (Goes, record m { memory = memory.bytes; pc = end })

-- a test, unless there is a fault
abbrev pub tests_or : Layout → Machine → ℕ → Option Branch → Result Bool ZFault → Result (Effect × Machine) ZFault
tests_or layout m end branch r = r >>= λ test. goes (branched layout m end branch test)

-- an answer is stored, and then there is a test
abbrev pub answers_and_tests : Layout → Machine → ℕ → Option ℕ → Option Branch → ℕ → Bool → Result (Effect × Machine) ZFault
answers_and_tests layout m end store branch x test = goes (stored_if layout m store x >>= λ after. branched layout after end branch test)

-- ---- objects and tables

-- the address of the table of objects
abbrev pub objects_in : Machine → ℕ
objects_in m = word_of (slice_index m.memory 10) (slice_index m.memory 11)

-- an object is stored, and it is tested whether it is one
abbrev pub answers_object : Layout → Machine → ℕ → Option ℕ → Option Branch → Result ℕ ZFault → Result (Effect × Machine) ZFault
answers_object layout m end store branch r = r >>= λ x. answers_and_tests layout m end store branch x (not (x == 0))

-- a place is stored, or 0, and it is tested whether there is one
abbrev pub answers_place : Layout → Machine → ℕ → Option ℕ → Option Branch → Result (Option ℕ) ZFault → Result (Effect × Machine) ZFault
answers_place layout m end store branch r = r >>= λ found. answers_and_tests layout m end store branch (found_or_zero found) (is_some found)

-- where a value stands in a table; the fourth operand is the form of its entries
abbrev pub sought : Layout → Machine → Args → Result (Option ℕ) ZFault
sought layout m a = scanned (guarded layout m.memory) a.first (if nat_lt 3 a.count then a.fourth else usual_form) a.third a.second

-- ---- printing

-- why what an effect prints may not be printed, if it may not
abbrev pub effect_fault : Effect → Machine → Option ZFault
effect_fault Goes m = None
effect_fault (PrintsCode c) m = if is_printed c then None else Some BadCharacter
effect_fault (PrintsUnicode c) m = if is_character c then None else Some BadCharacter
effect_fault (PrintsNumber x) m = None
effect_fault (PrintsText at) m = print_fault (string_at m.memory at)
effect_fault (PrintsLine at) m = print_fault (string_at m.memory at)
effect_fault Draws m = None
effect_fault (Reads buffer most store) m = None
effect_fault (ReadsKey store) m = None
effect_fault Quits m = None

-- this, unless there is a fault
abbrev pub unless : Option ZFault → Result (Effect × Machine) ZFault → Result (Effect × Machine) ZFault
unless None r = r
unless (Some fault) r = Err fault

-- What an effect prints goes out, or into the newest table where one is open.
unfoldable pub let_out : Layout → List OpenTable → Effect → Machine → Result (Effect × Machine) ZFault
let_out layout [] effect m = Ok (effect, m)
let_out layout (t ∷ ts) effect m = goes (into_table layout m t ts (codes_in effect m))

-- Each instruction that prints does so by this alone.
unfoldable pub print_effect : Layout → Effect → Machine → Result (Effect × Machine) ZFault
print_effect layout effect m = unless (effect_fault effect m) (let_out layout m.tables effect m)

-- a return behind what is printed: it is tried here, and made once the text is out
abbrev pub then_returned : List OpenTable → Effect × Machine → Machine → Effect × Machine
then_returned [] p after = p
then_returned (t ∷ ts) p after = (Goes, after)

-- the text is followed by a newline and a return
unfoldable pub prints_line : Layout → Machine → ℕ → Result (Effect × Machine) ZFault
prints_line layout m at = print_effect layout (PrintsLine at) m >>= λ p. returned layout p.1 1 >>= λ after. Ok (then_returned m.tables p after)

-- a string, if there is one
abbrev pub prints_text_if : Layout → Machine → Option ℕ → Result (Effect × Machine) ZFault
prints_text_if layout m None = Ok (Goes, m)
prints_text_if layout m (Some at) = print_effect layout (PrintsText at) m

-- the short name of an object
unfoldable pub prints_name : Layout → Machine → ℕ → ℕ → Result (Effect × Machine) ZFault
prints_name layout m end n = name_place (guarded layout m.memory) (objects_in m) n >>= λ found. prints_text_if layout (at_pc m end) found

-- ---- variables that operands name

-- a variable that an operand names, with a number added in place
abbrev pub added : Layout → Machine → ℕ → ℕ → Result (ℕ × Machine) ZFault
added layout m v by = do
  x ← held_in layout m v
  after ← placed layout m v ((x + by) % 65536)
  Ok ((x + by) % 65536, after)

abbrev pub adds : Layout → Machine → ℕ → ℕ → ℕ → Result (Effect × Machine) ZFault
adds layout m end v by = added layout (at_pc m end) v by >>= λ p. Ok (Goes, p.1)

-- its new value decides on the branch
abbrev pub adds_and_tests : Layout → Machine → ℕ → Option Branch → ℕ → ℕ → (ℕ → Bool) → Result (Effect × Machine) ZFault
adds_and_tests layout m end branch v by test = added layout m v by >>= λ p. goes (branched layout p.1 end branch (test p.0))

-- a word is taken from the stack, and given to a variable that an operand names
abbrev pub pulls : Layout → Machine → ℕ → ℕ → Result (Effect × Machine) ZFault
pulls layout m end v = popped (at_pc m end) >>= λ p. goes (placed layout p.1 v p.0)

-- a word is taken from the stack, and returned
abbrev pub returns_popped : Layout → Machine → Result (Effect × Machine) ZFault
returns_popped layout m = popped m >>= λ p. goes (returned layout p.1 p.0)

-- ---- reading and drawing

-- the tests of a reading on its buffer, which give how many characters it keeps
unfoldable pub most_typed : Layout → Machine → Args → Result ℕ ZFault
most_typed layout m a =
    if nat_lt 0 a.second then Err Unsupported
    else (byte_in (guarded layout m.memory) a.first >>= λ most.
    if have_right (is_writable layout) ((a.first + 1) % 65536) (most + 1) then Ok most else Err BadWrite)

-- what is stored behind a reading is tried before the line is taken
unfoldable pub read_effect : Layout → Machine → ℕ → Option ℕ → Args → Result (Effect × Machine) ZFault
read_effect layout m end store a =
    most_typed layout m a >>= λ most. stored_if layout (at_pc m end) store 13 >>= λ after. Ok (Reads a.first most store, at_pc m end)

-- the same of a typed byte, whose code is stored
unfoldable pub reads_key : Layout → Machine → ℕ → Option ℕ → Result (Effect × Machine) ZFault
reads_key layout m end store = stored_if layout (at_pc m end) store 13 >>= λ after. Ok (ReadsKey store, at_pc m end)

-- a number from 1 to r by the next dice word, or 0 where r isn't above 0
unfoldable pub random_of : Layout → ℕ → Machine → ℕ → Option ℕ → ℕ → Result (Effect × Machine) ZFault
random_of layout word m end store r =
    if (r == 0) || nat_lt 32767 r then answers layout m end store 0
    else (stored_if layout (at_pc m end) store (1 + word % r) >>= λ after. Ok (Draws, after))
