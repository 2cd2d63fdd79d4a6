-- What an instruction does, row by row (Z-Machine Standard 1.1, section 15).
use Rattle.std.specs.Prelude.{ℕ, ◌+◌, ◌-◌, ◌*◌, ◌%◌, length, Result, Ok, true, false, not, nat_lt, ◌==◌, int_lt, bit_and, bit_or}
use Rattle.z_model.specs.declared.fault.ZFault.{ZFault}
use Rattle.z_model.specs.declared.op.Op.{Op}
use Rattle.z_model.specs.declared.end.Args.{Args}
use Rattle.z_model.specs.declared.story.Layout.{Layout}
use Rattle.z_model.specs.declared.end.Effect.{Effect}
use Rattle.z_model.specs.declared.end.Effect.TheVariants.{Goes, PrintsCode, PrintsUnicode, PrintsNumber, PrintsText, Quits}
use Rattle.z_model.specs.declared.table.Instr.{Instr}
use Rattle.z_model.specs.declared.table.Instr.TheVariants as instrs
use Rattle.z_model.specs.declared.table.Two.{Two}
use Rattle.z_model.specs.declared.table.Two.TheVariants as two
use Rattle.z_model.specs.declared.table.One.{One}
use Rattle.z_model.specs.declared.table.One.TheVariants as one
use Rattle.z_model.specs.declared.table.Zero.{Zero}
use Rattle.z_model.specs.declared.table.Zero.TheVariants as none
use Rattle.z_model.specs.declared.table.Several.{Several}
use Rattle.z_model.specs.declared.table.Several.TheVariants as several
use Rattle.z_model.specs.declared.table.Extended.{Extended}
use Rattle.z_model.specs.declared.table.Extended.TheVariants as extended
use Rattle.z_model.specs.Table.{Rows}
use Rattle.z_model.specs.Decode.{◌>>=◌, op_at}
use Rattle.z_model.specs.Memory.{guarded, byte_in, with_byte, memory_word, with_word}
use Rattle.z_model.specs.Machine.{Machine, pushed, held_in, placed, operand_values}
use Rattle.z_model.specs.Numbers.{signed_16, quotient, remainder, equals_one, log_shifted, art_shifted}
use Rattle.z_model.specs.Flow.{at_pc, jumped, returned, frames_thrown, branched, called}
use Rattle.z_model.specs.Objects.{parent_at, sibling_at, child_at, link_in, is_inside, has_attribute, with_attribute, removed, inserted}
use Rattle.z_model.specs.Properties.{property_value, property_place, next_number, with_property, length_before}
use Rattle.z_model.specs.Tables.{table_copied}
use Rattle.z_model.specs.Streams.{streamed}
use Rattle.z_model.specs.Effects.{goes, answers, answers_or, write_effect, tests_or, objects_in, answers_object, answers_place, sought, print_effect, prints_line, prints_name}
use Rattle.z_model.specs.Effects.{adds, adds_and_tests, pulls, returns_popped, read_effect, reads_key, random_of}

-- the instructions with two operands
unfoldable pub do_two : Layout → Two → Op → ℕ → Args → Machine → Result (Effect × Machine) ZFault
do_two layout two.Je op end a m = goes (branched layout m end op.branch (equals_one a))
do_two layout two.Jl op end a m = goes (branched layout m end op.branch (int_lt (signed_16 a.first) (signed_16 a.second)))
do_two layout two.Jg op end a m = goes (branched layout m end op.branch (int_lt (signed_16 a.second) (signed_16 a.first)))
do_two layout two.DecChk op end a m = adds_and_tests layout m end op.branch a.first 65535 (λ x. int_lt (signed_16 x) (signed_16 a.second))
do_two layout two.IncChk op end a m = adds_and_tests layout m end op.branch a.first 1 (λ x. int_lt (signed_16 a.second) (signed_16 x))
do_two layout two.Jin op end a m = tests_or layout m end op.branch (is_inside (guarded layout m.memory) (objects_in m) a.first a.second)
do_two layout two.Test op end a m = goes (branched layout m end op.branch (bit_and a.first a.second == a.second))
do_two layout two.Or op end a m = answers layout m end op.store (bit_or a.first a.second)
do_two layout two.And op end a m = answers layout m end op.store (bit_and a.first a.second)
do_two layout two.TestAttr op end a m = tests_or layout m end op.branch (has_attribute (guarded layout m.memory) (objects_in m) a.first a.second)
do_two layout two.SetAttr op end a m = write_effect m end (with_attribute (guarded layout m.memory) (objects_in m) a.first a.second true)
do_two layout two.ClearAttr op end a m = write_effect m end (with_attribute (guarded layout m.memory) (objects_in m) a.first a.second false)
do_two layout two.Store op end a m = goes (placed layout (at_pc m end) a.first a.second)
do_two layout two.InsertObj op end a m = write_effect m end (inserted (guarded layout m.memory) (objects_in m) a.first a.second)
do_two layout two.Loadw op end a m = answers_or layout m end op.store (memory_word (guarded layout m.memory) ((a.first + 2 * a.second) % 65536))
do_two layout two.Loadb op end a m = answers_or layout m end op.store (byte_in (guarded layout m.memory) ((a.first + a.second) % 65536))
do_two layout two.GetProp op end a m = answers_or layout m end op.store (property_value (guarded layout m.memory) (objects_in m) a.first a.second)
do_two layout two.GetPropAddr op end a m = answers_or layout m end op.store (property_place (guarded layout m.memory) (objects_in m) a.first a.second)
do_two layout two.GetNextProp op end a m = answers_or layout m end op.store (next_number (guarded layout m.memory) (objects_in m) a.first a.second)
do_two layout two.Add op end a m = answers layout m end op.store ((a.first + a.second) % 65536)
do_two layout two.Sub op end a m = answers layout m end op.store ((a.first + (65536 - a.second)) % 65536)
do_two layout two.Mul op end a m = answers layout m end op.store (a.first * a.second % 65536)
do_two layout two.Div op end a m = answers_or layout m end op.store (quotient a.first a.second)
do_two layout two.Mod op end a m = answers_or layout m end op.store (remainder a.first a.second)
do_two layout two.Call2s op end a m = goes (called layout m end op.store a)
do_two layout two.Call2n op end a m = goes (called layout m end op.store a)
do_two layout two.SetColour op end a m = Ok (Goes, at_pc m end)
do_two layout two.Throw op end a m = goes (frames_thrown layout m a.first a.second)

-- the instructions with one operand
unfoldable pub do_one : Layout → One → Op → ℕ → Args → Machine → Result (Effect × Machine) ZFault
do_one layout one.Jz op end a m = goes (branched layout m end op.branch (a.first == 0))
do_one layout one.GetSibling op end a m =
    answers_object layout m end op.store op.branch (link_in (guarded layout m.memory) a.first (sibling_at (objects_in m) a.first))
do_one layout one.GetChild op end a m =
    answers_object layout m end op.store op.branch (link_in (guarded layout m.memory) a.first (child_at (objects_in m) a.first))
do_one layout one.GetParent op end a m = answers_or layout m end op.store (link_in (guarded layout m.memory) a.first (parent_at (objects_in m) a.first))
do_one layout one.GetPropLen op end a m = answers_or layout m end op.store (length_before (guarded layout m.memory) a.first)
do_one layout one.Inc op end a m = adds layout m end a.first 1
do_one layout one.Dec op end a m = adds layout m end a.first 65535
do_one layout one.PrintAddr op end a m = print_effect layout (PrintsText a.first) (at_pc m end)
do_one layout one.Call1s op end a m = goes (called layout m end op.store a)
do_one layout one.RemoveObj op end a m = write_effect m end (removed (guarded layout m.memory) (objects_in m) a.first)
do_one layout one.PrintObj op end a m = prints_name layout m end a.first
do_one layout one.Ret op end a m = goes (returned layout m a.first)
do_one layout one.Jump op end a m = goes (jumped m end (signed_16 a.first))
do_one layout one.PrintPaddr op end a m = print_effect layout (PrintsText (8 * a.first)) (at_pc m end)
do_one layout one.Load op end a m = answers_or layout m end op.store (held_in layout m a.first)
do_one layout one.Call1n op end a m = goes (called layout m end op.store a)

-- the instructions without operands
unfoldable pub do_zero : Layout → Zero → Op → ℕ → Args → Machine → Result (Effect × Machine) ZFault
do_zero layout none.Rtrue op end a m = goes (returned layout m 1)
do_zero layout none.Rfalse op end a m = goes (returned layout m 0)
do_zero layout none.Print op end a m = print_effect layout (PrintsText (end - op.text)) (at_pc m end)
do_zero layout none.PrintRet op end a m = prints_line layout m (end - op.text)
do_zero layout none.Nop op end a m = Ok (Goes, at_pc m end)
do_zero layout none.RetPopped op end a m = returns_popped layout m
do_zero layout none.Catch op end a m = answers layout m end op.store (length m.callers)
do_zero layout none.Quit op end a m = Ok (Quits, at_pc m end)
do_zero layout none.NewLine op end a m = print_effect layout (PrintsCode 13) (at_pc m end)
do_zero layout none.Verify op end a m = goes (branched layout m end op.branch layout.checksum_right)
do_zero layout none.Piracy op end a m = goes (branched layout m end op.branch true)

-- the instructions with several operands; a word is the next of the dice
unfoldable pub do_several : Layout → ℕ → Several → Op → ℕ → Args → Machine → Result (Effect × Machine) ZFault
do_several layout word several.CallVs op end a m = goes (called layout m end op.store a)
do_several layout word several.Storew op end a m = write_effect m end (with_word (guarded layout m.memory) ((a.first + 2 * a.second) % 65536) a.third)
do_several layout word several.Storeb op end a m = write_effect m end (with_byte (guarded layout m.memory) ((a.first + a.second) % 65536) (a.third % 256))
do_several layout word several.PutProp op end a m = write_effect m end (with_property (guarded layout m.memory) (objects_in m) a.first a.second a.third)
do_several layout word several.Aread op end a m = read_effect layout m end op.store a
do_several layout word several.PrintChar op end a m = print_effect layout (PrintsCode a.first) (at_pc m end)
do_several layout word several.PrintNum op end a m = print_effect layout (PrintsNumber a.first) (at_pc m end)
do_several layout word several.Random op end a m = random_of layout word m end op.store a.first
do_several layout word several.Push op end a m = goes (pushed (at_pc m end) a.first)
do_several layout word several.Pull op end a m = pulls layout m end a.first
do_several layout word several.SplitWindow op end a m = Ok (Goes, at_pc m end)
do_several layout word several.SetWindow op end a m = Ok (Goes, at_pc m end)
do_several layout word several.EraseWindow op end a m = Ok (Goes, at_pc m end)
do_several layout word several.EraseLine op end a m = Ok (Goes, at_pc m end)
do_several layout word several.SetCursor op end a m = Ok (Goes, at_pc m end)
do_several layout word several.SetTextStyle op end a m = Ok (Goes, at_pc m end)
do_several layout word several.BufferMode op end a m = Ok (Goes, at_pc m end)
do_several layout word several.OutputStream op end a m = goes (streamed layout (at_pc m end) a)
do_several layout word several.ReadChar op end a m = reads_key layout m end op.store
do_several layout word several.ScanTable op end a m = answers_place layout m end op.store op.branch (sought layout m a)
do_several layout word several.Not op end a m = answers layout m end op.store (65535 - a.first)
do_several layout word several.CallVn op end a m = goes (called layout m end op.store a)
do_several layout word several.CopyTable op end a m = write_effect m end (table_copied (guarded layout m.memory) a.first a.second a.third)
do_several layout word several.CheckArgCount op end a m = goes (branched layout m end op.branch (not (nat_lt m.here.args a.first)))

-- the instructions of the extended form
unfoldable pub do_extended : Layout → Extended → Op → ℕ → Args → Machine → Result (Effect × Machine) ZFault
do_extended layout extended.Save op end a m = answers layout m end op.store 0
do_extended layout extended.Restore op end a m = answers layout m end op.store 0
do_extended layout extended.LogShift op end a m = answers layout m end op.store (log_shifted a.first a.second)
do_extended layout extended.ArtShift op end a m = answers layout m end op.store (art_shifted a.first a.second)
do_extended layout extended.SaveUndo op end a m = answers layout m end op.store 65535
do_extended layout extended.RestoreUndo op end a m = answers layout m end op.store 0
do_extended layout extended.PrintUnicode op end a m = print_effect layout (PrintsUnicode a.first) (at_pc m end)

unfoldable pub do_instr : Layout → ℕ → Instr → Op → ℕ → Args → Machine → Result (Effect × Machine) ZFault
do_instr layout word (instrs.Two instr) op end a m = do_two layout instr op end a m
do_instr layout word (instrs.One instr) op end a m = do_one layout instr op end a m
do_instr layout word (instrs.Zero instr) op end a m = do_zero layout instr op end a m
do_instr layout word (instrs.Several instr) op end a m = do_several layout word instr op end a m
do_instr layout word (instrs.Extended instr) op end a m = do_extended layout instr op end a m

-- One instruction of the machine: it is decoded, its operands are taken from left to right, and then it is done; a word is the next of the dice.
unfoldable pub machine_step : Rows → Layout → ℕ → Machine → Result (Effect × Machine) ZFault
machine_step rows layout word m = do
  found ← op_at rows m.memory m.pc
  a ← operand_values layout m found.op.operands
  do_instr layout word found.row.instr found.op found.end a.0 a.1
