-- The basic instructions: numbers, words of memory, calls, text and typed lines. Stories that use no others run by them as by the whole table.
use Rattle.std.specs.Prelude.{◌≡◌, ℕ, map, Option, Some, None, Bool, true, false, if◌then◌else◌}
use Rattle.z_model.specs.declared.table.Row.{Row}
use Rattle.z_model.specs.declared.table.Instr.{Instr}
use Rattle.z_model.specs.declared.table.Instr.TheVariants as instrs
use Rattle.z_model.specs.declared.table.Two.{Two}
use Rattle.z_model.specs.declared.table.Two.TheVariants as two
use Rattle.z_model.specs.declared.table.One.{One}
use Rattle.z_model.specs.declared.table.One.TheVariants as one
use Rattle.z_model.specs.declared.table.Zero.{Zero}
use Rattle.z_model.specs.declared.table.Zero.TheVariants as none
use Rattle.z_model.specs.declared.table.Several.{Several}
use Rattle.z_model.specs.declared.table.Several.TheVariants as several
use Rattle.z_model.specs.declared.table.Extended.{Extended}
use Rattle.z_model.specs.declared.table.Extended.TheVariants as extended
use Rattle.z_model.specs.Table.{Rows, player_rows}
use Rattle.z_model.specs.Run.{ZGiven, ZState, zrun}
use Rattle.z_model.specs.Parts.{IsBroken}

-- those with two operands
abbrev pub is_basic_two : Two → Bool
is_basic_two two.Je = true
is_basic_two two.Jl = true
is_basic_two two.Jg = true
is_basic_two two.IncChk = true
is_basic_two two.Or = true
is_basic_two two.And = true
is_basic_two two.Store = true
is_basic_two two.Loadw = true
is_basic_two two.Loadb = true
is_basic_two two.Add = true
is_basic_two two.Sub = true
is_basic_two two.Mul = true
is_basic_two two.Div = true
is_basic_two two.Mod = true
is_basic_two two.Call2s = true
is_basic_two two.Call2n = true
is_basic_two instr = false

-- those with one
abbrev pub is_basic_one : One → Bool
is_basic_one one.Jz = true
is_basic_one one.Inc = true
is_basic_one one.Dec = true
is_basic_one one.Call1s = true
is_basic_one one.Ret = true
is_basic_one one.Jump = true
is_basic_one one.PrintPaddr = true
is_basic_one one.Load = true
is_basic_one one.Call1n = true
is_basic_one instr = false

-- those without operands
abbrev pub is_basic_zero : Zero → Bool
is_basic_zero none.Rtrue = true
is_basic_zero none.Rfalse = true
is_basic_zero none.Print = true
is_basic_zero none.PrintRet = true
is_basic_zero none.Nop = true
is_basic_zero none.RetPopped = true
is_basic_zero none.Quit = true
is_basic_zero none.NewLine = true
is_basic_zero instr = false

-- those with several
abbrev pub is_basic_several : Several → Bool
is_basic_several several.CallVs = true
is_basic_several several.Storew = true
is_basic_several several.Storeb = true
is_basic_several several.Aread = true
is_basic_several several.PrintChar = true
is_basic_several several.PrintNum = true
is_basic_several several.Random = true
is_basic_several several.Push = true
is_basic_several several.Pull = true
is_basic_several several.Not = true
is_basic_several several.CallVn = true
is_basic_several instr = false

-- those of the extended form
abbrev pub is_basic_extended : Extended → Bool
is_basic_extended extended.PrintUnicode = true
is_basic_extended instr = false

abbrev pub is_basic : Instr → Bool
is_basic (instrs.Two instr) = is_basic_two instr
is_basic (instrs.One instr) = is_basic_one instr
is_basic (instrs.Zero instr) = is_basic_zero instr
is_basic (instrs.Several instr) = is_basic_several instr
is_basic (instrs.Extended instr) = is_basic_extended instr

-- a row, where its instruction is basic
abbrev pub basic_row : Option Row → Option Row
basic_row None = None
basic_row (Some row) = if is_basic row.instr then Some row else None

-- the part of the table that has the basic instructions
abbrev pub basic_rows : Rows
basic_rows kind = map basic_row (player_rows kind)

-- the same run by another table
abbrev pub by_rows : Rows → ZGiven → ZGiven
by_rows rows w = record w { rows = rows }

-- A run by the basic instructions that doesn't break has the same output and end by all of them.
pub record BasicRunsStay (w : ZGiven) (s : ZState) : Type 0 where
  pub same : (n : ℕ) → (IsBroken (zrun (by_rows basic_rows w) n s).end → ⊥) → zrun (by_rows player_rows w) n s ≡ zrun (by_rows basic_rows w) n s
