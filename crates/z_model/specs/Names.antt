-- The names of the instructions, as the Z-Machine Standard 1.1 spells them in the tables of section 14; section 15 says what each does.
use Rattle.std.specs.Prelude.{ℕ, List, codes}
use Rattle.z_model.specs.declared.table.Two.{Two}
use Rattle.z_model.specs.declared.table.Two.TheVariants as two
use Rattle.z_model.specs.declared.table.One.{One}
use Rattle.z_model.specs.declared.table.One.TheVariants as one
use Rattle.z_model.specs.declared.table.Zero.{Zero}
use Rattle.z_model.specs.declared.table.Zero.TheVariants as zero
use Rattle.z_model.specs.declared.table.Several.{Several}
use Rattle.z_model.specs.declared.table.Several.TheVariants as several
use Rattle.z_model.specs.declared.table.Extended.{Extended}
use Rattle.z_model.specs.declared.table.Extended.TheVariants as extended
use Rattle.z_model.specs.declared.table.Instr.{Instr}
use Rattle.z_model.specs.declared.table.Instr.TheVariants as instrs

-- the names of the instructions with two operands
abbrev pub name_of_two : Two → List ℕ
name_of_two two.Je = codes "je"
name_of_two two.Jl = codes "jl"
name_of_two two.Jg = codes "jg"
name_of_two two.DecChk = codes "dec_chk"
name_of_two two.IncChk = codes "inc_chk"
name_of_two two.Jin = codes "jin"
name_of_two two.Test = codes "test"
name_of_two two.Or = codes "or"
name_of_two two.And = codes "and"
name_of_two two.TestAttr = codes "test_attr"
name_of_two two.SetAttr = codes "set_attr"
name_of_two two.ClearAttr = codes "clear_attr"
name_of_two two.Store = codes "store"
name_of_two two.InsertObj = codes "insert_obj"
name_of_two two.Loadw = codes "loadw"
name_of_two two.Loadb = codes "loadb"
name_of_two two.GetProp = codes "get_prop"
name_of_two two.GetPropAddr = codes "get_prop_addr"
name_of_two two.GetNextProp = codes "get_next_prop"
name_of_two two.Add = codes "add"
name_of_two two.Sub = codes "sub"
name_of_two two.Mul = codes "mul"
name_of_two two.Div = codes "div"
name_of_two two.Mod = codes "mod"
name_of_two two.Call2s = codes "call_2s"
name_of_two two.Call2n = codes "call_2n"
name_of_two two.SetColour = codes "set_colour"
name_of_two two.Throw = codes "throw"

-- the names of those with one
abbrev pub name_of_one : One → List ℕ
name_of_one one.Jz = codes "jz"
name_of_one one.GetSibling = codes "get_sibling"
name_of_one one.GetChild = codes "get_child"
name_of_one one.GetParent = codes "get_parent"
name_of_one one.GetPropLen = codes "get_prop_len"
name_of_one one.Inc = codes "inc"
name_of_one one.Dec = codes "dec"
name_of_one one.PrintAddr = codes "print_addr"
name_of_one one.Call1s = codes "call_1s"
name_of_one one.RemoveObj = codes "remove_obj"
name_of_one one.PrintObj = codes "print_obj"
name_of_one one.Ret = codes "ret"
name_of_one one.Jump = codes "jump"
name_of_one one.PrintPaddr = codes "print_paddr"
name_of_one one.Load = codes "load"
name_of_one one.Call1n = codes "call_1n"

-- the names of those without operands
abbrev pub name_of_zero : Zero → List ℕ
name_of_zero zero.Rtrue = codes "rtrue"
name_of_zero zero.Rfalse = codes "rfalse"
name_of_zero zero.Print = codes "print"
name_of_zero zero.PrintRet = codes "print_ret"
name_of_zero zero.Nop = codes "nop"
name_of_zero zero.RetPopped = codes "ret_popped"
name_of_zero zero.Catch = codes "catch"
name_of_zero zero.Quit = codes "quit"
name_of_zero zero.NewLine = codes "new_line"
name_of_zero zero.Verify = codes "verify"
name_of_zero zero.Piracy = codes "piracy"

-- the names of those with several
abbrev pub name_of_several : Several → List ℕ
name_of_several several.CallVs = codes "call_vs"
name_of_several several.Storew = codes "storew"
name_of_several several.Storeb = codes "storeb"
name_of_several several.PutProp = codes "put_prop"
name_of_several several.Aread = codes "aread"
name_of_several several.PrintChar = codes "print_char"
name_of_several several.PrintNum = codes "print_num"
name_of_several several.Random = codes "random"
name_of_several several.Push = codes "push"
name_of_several several.Pull = codes "pull"
name_of_several several.SplitWindow = codes "split_window"
name_of_several several.SetWindow = codes "set_window"
name_of_several several.EraseWindow = codes "erase_window"
name_of_several several.EraseLine = codes "erase_line"
name_of_several several.SetCursor = codes "set_cursor"
name_of_several several.SetTextStyle = codes "set_text_style"
name_of_several several.BufferMode = codes "buffer_mode"
name_of_several several.OutputStream = codes "output_stream"
name_of_several several.ReadChar = codes "read_char"
name_of_several several.ScanTable = codes "scan_table"
name_of_several several.Not = codes "not"
name_of_several several.CallVn = codes "call_vn"
name_of_several several.CopyTable = codes "copy_table"
name_of_several several.CheckArgCount = codes "check_arg_count"

-- the names of those of the extended form
abbrev pub name_of_extended : Extended → List ℕ
name_of_extended extended.Save = codes "save"
name_of_extended extended.Restore = codes "restore"
name_of_extended extended.LogShift = codes "log_shift"
name_of_extended extended.ArtShift = codes "art_shift"
name_of_extended extended.SaveUndo = codes "save_undo"
name_of_extended extended.RestoreUndo = codes "restore_undo"
name_of_extended extended.PrintUnicode = codes "print_unicode"

-- the name of an instruction
abbrev pub name_of : Instr → List ℕ
name_of (instrs.Two instr) = name_of_two instr
name_of (instrs.One instr) = name_of_one instr
name_of (instrs.Zero instr) = name_of_zero instr
name_of (instrs.Several instr) = name_of_several instr
name_of (instrs.Extended instr) = name_of_extended instr
