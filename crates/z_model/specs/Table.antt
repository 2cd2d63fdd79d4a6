-- The rows of the instruction table (Z-Machine Standard 1.1, section 14, the rows of version 8 that are listed there; section 15 for the numbers of operands).
use Rattle.std.specs.Prelude.{ℕ, List, [], ◌∷◌, Bool, true, false, Option, Some, None, slice_get}
use Rattle.z_model.specs.declared.table.Kind.{Kind}
use Rattle.z_model.specs.declared.table.Kind.TheVariants as kinds
use Rattle.z_model.specs.declared.table.Row.{Row}
use Rattle.z_model.specs.declared.table.Instr.{Instr}
use Rattle.z_model.specs.declared.table.Instr.TheVariants as instrs
use Rattle.z_model.specs.declared.table.Two.TheVariants as two
use Rattle.z_model.specs.declared.table.One.TheVariants as one
use Rattle.z_model.specs.declared.table.Zero.TheVariants as zero
use Rattle.z_model.specs.declared.table.Several.TheVariants as several
use Rattle.z_model.specs.declared.table.Extended.TheVariants as extended

-- an instruction with so many operands at least and at most, and whether a store, a branch or a text stands behind them
abbrev pub row : Instr → ℕ → ℕ → Bool → Bool → Bool → Option Row
row instr fewest most store branch text = Some (record { instr = instr; fewest = fewest; most = most; store = store; branch = branch; text = text })

-- nothing stands behind the operands
abbrev pub plain : Instr → ℕ → ℕ → Option Row
plain instr fewest most = row instr fewest most false false false

-- a store stands behind them
abbrev pub stores : Instr → ℕ → ℕ → Option Row
stores instr fewest most = row instr fewest most true false false

-- a branch stands behind them
abbrev pub branches : Instr → ℕ → ℕ → Option Row
branches instr fewest most = row instr fewest most false true false

-- a store and a branch stand behind them
abbrev pub stores_and_branches : Instr → ℕ → ℕ → Option Row
stores_and_branches instr fewest most = row instr fewest most true true false

-- a text stands behind them
abbrev pub tells : Instr → ℕ → ℕ → Option Row
tells instr fewest most = row instr fewest most false false true

-- A table: the rows of each kind, in the order of their numbers.
abbrev pub Rows : Type 0
Rows = Kind → List (Option Row)

-- the rows with two operands, from number 0 to 31
abbrev pub two_rows : List (Option Row)
two_rows =
    None ∷
    branches (instrs.Two two.Je) 2 4 ∷  -- 1
    branches (instrs.Two two.Jl) 2 2 ∷  -- 2
    branches (instrs.Two two.Jg) 2 2 ∷  -- 3
    branches (instrs.Two two.DecChk) 2 2 ∷  -- 4
    branches (instrs.Two two.IncChk) 2 2 ∷  -- 5
    branches (instrs.Two two.Jin) 2 2 ∷  -- 6
    branches (instrs.Two two.Test) 2 2 ∷  -- 7
    stores (instrs.Two two.Or) 2 2 ∷  -- 8
    stores (instrs.Two two.And) 2 2 ∷  -- 9
    branches (instrs.Two two.TestAttr) 2 2 ∷  -- 10
    plain (instrs.Two two.SetAttr) 2 2 ∷  -- 11
    plain (instrs.Two two.ClearAttr) 2 2 ∷  -- 12
    plain (instrs.Two two.Store) 2 2 ∷  -- 13
    plain (instrs.Two two.InsertObj) 2 2 ∷  -- 14
    stores (instrs.Two two.Loadw) 2 2 ∷  -- 15
    stores (instrs.Two two.Loadb) 2 2 ∷  -- 16
    stores (instrs.Two two.GetProp) 2 2 ∷  -- 17
    stores (instrs.Two two.GetPropAddr) 2 2 ∷  -- 18
    stores (instrs.Two two.GetNextProp) 2 2 ∷  -- 19
    stores (instrs.Two two.Add) 2 2 ∷  -- 20
    stores (instrs.Two two.Sub) 2 2 ∷  -- 21
    stores (instrs.Two two.Mul) 2 2 ∷  -- 22
    stores (instrs.Two two.Div) 2 2 ∷  -- 23
    stores (instrs.Two two.Mod) 2 2 ∷  -- 24
    stores (instrs.Two two.Call2s) 2 2 ∷  -- 25
    plain (instrs.Two two.Call2n) 2 2 ∷  -- 26
    plain (instrs.Two two.SetColour) 2 2 ∷  -- 27
    plain (instrs.Two two.Throw) 2 2 ∷  -- 28
    None ∷ None ∷ None ∷
    []

-- the rows with one operand, from 0 to 15
abbrev pub one_rows : List (Option Row)
one_rows =
    branches (instrs.One one.Jz) 1 1 ∷  -- 0
    stores_and_branches (instrs.One one.GetSibling) 1 1 ∷  -- 1
    stores_and_branches (instrs.One one.GetChild) 1 1 ∷  -- 2
    stores (instrs.One one.GetParent) 1 1 ∷  -- 3
    stores (instrs.One one.GetPropLen) 1 1 ∷  -- 4
    plain (instrs.One one.Inc) 1 1 ∷  -- 5
    plain (instrs.One one.Dec) 1 1 ∷  -- 6
    plain (instrs.One one.PrintAddr) 1 1 ∷  -- 7
    stores (instrs.One one.Call1s) 1 1 ∷  -- 8
    plain (instrs.One one.RemoveObj) 1 1 ∷  -- 9
    plain (instrs.One one.PrintObj) 1 1 ∷  -- 10
    plain (instrs.One one.Ret) 1 1 ∷  -- 11
    plain (instrs.One one.Jump) 1 1 ∷  -- 12
    plain (instrs.One one.PrintPaddr) 1 1 ∷  -- 13
    stores (instrs.One one.Load) 1 1 ∷  -- 14
    plain (instrs.One one.Call1n) 1 1 ∷  -- 15
    []

-- the rows without operands, from 0 to 15
abbrev pub zero_rows : List (Option Row)
zero_rows =
    plain (instrs.Zero zero.Rtrue) 0 0 ∷  -- 0
    plain (instrs.Zero zero.Rfalse) 0 0 ∷  -- 1
    tells (instrs.Zero zero.Print) 0 0 ∷  -- 2
    tells (instrs.Zero zero.PrintRet) 0 0 ∷  -- 3
    plain (instrs.Zero zero.Nop) 0 0 ∷  -- 4
    None ∷ None ∷ None ∷
    plain (instrs.Zero zero.RetPopped) 0 0 ∷  -- 8
    stores (instrs.Zero zero.Catch) 0 0 ∷  -- 9
    plain (instrs.Zero zero.Quit) 0 0 ∷  -- 10
    plain (instrs.Zero zero.NewLine) 0 0 ∷  -- 11
    None ∷
    branches (instrs.Zero zero.Verify) 0 0 ∷  -- 13
    None ∷
    branches (instrs.Zero zero.Piracy) 0 0 ∷  -- 15
    []

-- the rows with several operands, from 0 to 31
abbrev pub several_rows : List (Option Row)
several_rows =
    stores (instrs.Several several.CallVs) 1 4 ∷  -- 0
    plain (instrs.Several several.Storew) 3 3 ∷  -- 1
    plain (instrs.Several several.Storeb) 3 3 ∷  -- 2
    plain (instrs.Several several.PutProp) 3 3 ∷  -- 3
    stores (instrs.Several several.Aread) 1 4 ∷  -- 4
    plain (instrs.Several several.PrintChar) 1 1 ∷  -- 5
    plain (instrs.Several several.PrintNum) 1 1 ∷  -- 6
    stores (instrs.Several several.Random) 1 1 ∷  -- 7
    plain (instrs.Several several.Push) 1 1 ∷  -- 8
    plain (instrs.Several several.Pull) 1 1 ∷  -- 9
    plain (instrs.Several several.SplitWindow) 1 1 ∷  -- 10
    plain (instrs.Several several.SetWindow) 1 1 ∷  -- 11
    None ∷
    plain (instrs.Several several.EraseWindow) 1 1 ∷  -- 13
    plain (instrs.Several several.EraseLine) 1 1 ∷  -- 14
    plain (instrs.Several several.SetCursor) 2 2 ∷  -- 15
    None ∷
    plain (instrs.Several several.SetTextStyle) 1 1 ∷  -- 17
    plain (instrs.Several several.BufferMode) 1 1 ∷  -- 18
    plain (instrs.Several several.OutputStream) 1 2 ∷  -- 19
    None ∷ None ∷
    stores (instrs.Several several.ReadChar) 1 3 ∷  -- 22
    stores_and_branches (instrs.Several several.ScanTable) 3 4 ∷  -- 23
    stores (instrs.Several several.Not) 1 1 ∷  -- 24
    plain (instrs.Several several.CallVn) 1 4 ∷  -- 25
    None ∷ None ∷ None ∷
    plain (instrs.Several several.CopyTable) 3 3 ∷  -- 29
    None ∷
    branches (instrs.Several several.CheckArgCount) 1 1 ∷  -- 31
    []

-- the rows of the extended form, from 0 to 11
abbrev pub extended_rows : List (Option Row)
extended_rows =
    stores (instrs.Extended extended.Save) 0 4 ∷  -- 0
    stores (instrs.Extended extended.Restore) 0 4 ∷  -- 1
    stores (instrs.Extended extended.LogShift) 2 2 ∷  -- 2
    stores (instrs.Extended extended.ArtShift) 2 2 ∷  -- 3
    None ∷ None ∷ None ∷ None ∷ None ∷
    stores (instrs.Extended extended.SaveUndo) 0 0 ∷  -- 9
    stores (instrs.Extended extended.RestoreUndo) 0 0 ∷  -- 10
    plain (instrs.Extended extended.PrintUnicode) 1 1 ∷  -- 11
    []

-- the rows of a kind in the table of the player
abbrev pub player_rows : Rows
player_rows kinds.Two = two_rows
player_rows kinds.One = one_rows
player_rows kinds.Zero = zero_rows
player_rows kinds.Several = several_rows
player_rows kinds.Extended = extended_rows

-- what stands there, if anything does
abbrev pub entry : Option (Option Row) → Option Row
entry None = None
entry (Some row) = row

-- the row of a kind and a number
abbrev pub row_at : Rows → Kind → ℕ → Option Row
row_at rows kind number = entry (slice_get (rows kind) number)
