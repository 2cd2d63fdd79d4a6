-- The instructions of acts that fit can be assembled.
use Rattle.std.proofs.Common.{◌≡◌, ℕ, ◌+◌, ◌*◌, ◌<◌, ◌≤◌, Bool, true, false, List, [], ◌∷◌, Option, Some, None, Result, Ok, refl, sym, subst, arith}
use Rattle.std.specs.Prelude.{nat_lt, if◌then◌else◌}
use Rattle.std.proofs.lemmas.Bool.{ltb-true}
use Rattle.z_model.specs.declared.fault.ZFault.{ZFault}
use Rattle.z_model.specs.declared.op.Form.TheVariants as forms
use Rattle.z_model.specs.declared.op.Operand.{Operand}
use Rattle.z_model.specs.declared.op.Operand.TheVariants as operands
use Rattle.z_model.specs.declared.op.OperandType.TheVariants.{Omitted}
use Rattle.z_model.specs.declared.op.OperandTypes.{OperandTypes}
use Rattle.z_model.specs.declared.op.Branch.{Branch}
use Rattle.z_model.specs.declared.op.Op.{Op}
use Rattle.z_model.specs.declared.table.Row.{Row}
use Rattle.z_model.specs.declared.table.Instr.{Instr}
use Rattle.z_model.specs.declared.table.Instr.TheVariants as instrs
use Rattle.z_model.specs.declared.table.Two.TheVariants as two
use Rattle.z_model.specs.declared.table.One.TheVariants as one
use Rattle.z_model.specs.declared.table.Zero.TheVariants as none
use Rattle.z_model.specs.declared.table.Several.TheVariants as several
use Rattle.z_model.specs.declared.table.Extended.TheVariants as extended
use Rattle.z_model.specs.Table.{player_rows}
use Rattle.z_model.specs.Decode.{present, operand_count, count_in_row}
use Rattle.z_model.specs.Spelling.{type_code as code_of, type_of_operand, row_of, FitsType, FitsStore, FitsBranch, FitsText, IsOfTable}
use Rattle.z_code.specs.declared.target.LOp.{LOp}
use Rattle.z_code.specs.declared.target.Target.{Target}
use Rattle.z_code.specs.Targets.{nth}
use Rattle.z_code.specs.Open.{Counts, HasLabel, OpenIf, IsOpen, AreOpen}
use Rattle.z_lang.specs.declared.act.Atom.{Atom}
use Rattle.z_lang.specs.declared.act.Atom.TheVariants as atoms
use Rattle.z_lang.specs.declared.act.Function.{Function}
use Rattle.z_lang.specs.declared.act.Function.TheVariants as functions
use Rattle.z_lang.specs.declared.act.Width.{Width}
use Rattle.z_lang.specs.declared.act.Width.TheVariants as widths
use Rattle.z_lang.specs.declared.act.Print.{Print}
use Rattle.z_lang.specs.declared.act.Print.TheVariants as prints
use Rattle.z_lang.specs.declared.act.Comparison.{Comparison}
use Rattle.z_lang.specs.declared.act.Comparison.TheVariants as comparisons
use Rattle.z_lang.specs.declared.act.Args.{Args}
use Rattle.z_lang.specs.declared.act.Args.TheVariants as args
use Rattle.z_lang.specs.declared.act.Act.{Act}
use Rattle.z_lang.specs.declared.act.Act.TheVariants as acts
use Rattle.z_lang.specs.Code.{operand, target, one_of, two_of, three_of, four_of, short_op, variable_op, quit_op, function_number, write_number, compare_number, operands_by, targets_by, call_number, branch_on, print_op, with_args, arg_targets, ops_of_acts}
use Rattle.z_lang.specs.Bodies.{FitsAtom, FitArgs, FitsComparison, FitsStored, AreFit, Opens}
use Rattle.z_lang.proofs.Effects.{instr_of, write_instr, compare_instr}

-- ---- operands

one_present : (a : Operand) → present (type_of_operand a) ≡ 1
one_present (operands.Large n) = refl
one_present (operands.Small n) = refl
one_present (operands.Variable n) = refl

atom_fits : (counts : Counts) (a : Atom) → FitsAtom counts a → FitsType (type_of_operand (operand a)) (operand a)
atom_fits counts (atoms.Num n) h = by_size (nat_lt n 256) refl
  where
    by_size : (t : Bool) → nat_lt n 256 ≡ t → FitsType (type_of_operand (if t then operands.Small n else operands.Large n)) (if t then operands.Small n else operands.Large n)
    by_size true e = ltb-true n 256 e
    by_size false e = h
atom_fits counts (atoms.Var v) h = h
atom_fits counts (atoms.Routine r) h = omega arith
atom_fits counts (atoms.Table t) h = omega arith
atom_fits counts (atoms.Text t) h = omega arith

atom_open : (counts : Counts) (all : List LOp) (a : Atom) → FitsAtom counts a → OpenIf counts all (target a) (operand a)
atom_open counts all (atoms.Num n) h = tt
atom_open counts all (atoms.Var v) h = tt
atom_open counts all (atoms.Routine r) h = (refl, h)
atom_open counts all (atoms.Table t) h = (refl, h)
atom_open counts all (atoms.Text t) h = (refl, h)

-- ---- ops of the variable form

abbrev count_ok : ℕ → Result ℕ ZFault
count_ok n = Ok n

abbrev one_types : Operand → OperandTypes
one_types a = record { first = type_of_operand a; second = Omitted; third = Omitted; fourth = Omitted }

abbrev two_types : Operand → Operand → OperandTypes
two_types a b = record { first = type_of_operand a; second = type_of_operand b; third = Omitted; fourth = Omitted }

abbrev three_types : Operand → Operand → Operand → OperandTypes
three_types a b c = record { first = type_of_operand a; second = type_of_operand b; third = type_of_operand c; fourth = Omitted }

abbrev four_types : Operand → Operand → Operand → Operand → OperandTypes
four_types a b c d = record { first = type_of_operand a; second = type_of_operand b; third = type_of_operand c; fourth = type_of_operand d }

one_counted : (row : Row) (a : Operand) → nat_lt 1 row.fewest ≡ false → nat_lt row.most 1 ≡ false → count_in_row row (one_types a) ≡ count_ok 1
unfolding count_in_row operand_count
one_counted row a e f = rw (one_present a, e, f) refl

two_counted : (row : Row) (a b : Operand) → nat_lt 2 row.fewest ≡ false → nat_lt row.most 2 ≡ false → count_in_row row (two_types a b) ≡ count_ok 2
unfolding count_in_row operand_count
two_counted row a b e f = rw (one_present a, one_present b, e, f) refl

three_counted : (row : Row) (a b c : Operand) → nat_lt 3 row.fewest ≡ false → nat_lt row.most 3 ≡ false → count_in_row row (three_types a b c) ≡ count_ok 3
unfolding count_in_row operand_count
three_counted row a b c e f = rw (one_present a, one_present b, one_present c, e, f) refl

four_counted : (row : Row) (a b c d : Operand) → nat_lt 4 row.fewest ≡ false → nat_lt row.most 4 ≡ false → count_in_row row (four_types a b c d) ≡ count_ok 4
unfolding count_in_row operand_count
four_counted row a b c d e f = rw (one_present a, one_present b, one_present c, one_present d, e, f) refl

-- an operand within its width
abbrev Fits : Operand → Type 0
Fits x = FitsType (type_of_operand x) x

one_table : (number : ℕ) (row : Row) (x : Operand) (store : Option ℕ) → row_of player_rows forms.Variable number (one_types x) ≡ Ok row → number < 64 → nat_lt 1 row.fewest ≡ false → nat_lt row.most 1 ≡ false → Fits x → FitsStore row.store store → FitsBranch row.branch None → row.text ≡ false → IsOfTable player_rows (variable_op number (one_of x) store None)
one_table number row x store known lt few most fx fs fb text = record {
  row = row;
  is = record { known = known; form = lt; count = one_counted row x few most; first = fx; second = refl; third = refl; fourth = refl; store = fs; branch = fb };
  text = subst (λ (b : Bool). FitsText b 0) (sym text) refl;
}

two_table : (number : ℕ) (row : Row) (x y : Operand) (store : Option ℕ) (branch : Option Branch) → row_of player_rows forms.Variable number (two_types x y) ≡ Ok row → number < 64 → nat_lt 2 row.fewest ≡ false → nat_lt row.most 2 ≡ false → Fits x → Fits y → FitsStore row.store store → FitsBranch row.branch branch → row.text ≡ false → IsOfTable player_rows (variable_op number (two_of x y) store branch)
two_table number row x y store branch known lt few most fx fy fs fb text = record {
  row = row;
  is = record { known = known; form = lt; count = two_counted row x y few most; first = fx; second = fy; third = refl; fourth = refl; store = fs; branch = fb };
  text = subst (λ (b : Bool). FitsText b 0) (sym text) refl;
}

three_table : (number : ℕ) (row : Row) (x y z : Operand) (store : Option ℕ) (branch : Option Branch) → row_of player_rows forms.Variable number (three_types x y z) ≡ Ok row → number < 64 → nat_lt 3 row.fewest ≡ false → nat_lt row.most 3 ≡ false → Fits x → Fits y → Fits z → FitsStore row.store store → FitsBranch row.branch branch → row.text ≡ false → IsOfTable player_rows (variable_op number (three_of x y z) store branch)
three_table number row x y z store branch known lt few most fx fy fz fs fb text = record {
  row = row;
  is = record { known = known; form = lt; count = three_counted row x y z few most; first = fx; second = fy; third = fz; fourth = refl; store = fs; branch = fb };
  text = subst (λ (b : Bool). FitsText b 0) (sym text) refl;
}

four_table : (number : ℕ) (row : Row) (x y z u : Operand) (store : Option ℕ) (branch : Option Branch) → row_of player_rows forms.Variable number (four_types x y z u) ≡ Ok row → number < 64 → nat_lt 4 row.fewest ≡ false → nat_lt row.most 4 ≡ false → Fits x → Fits y → Fits z → Fits u → FitsStore row.store store → FitsBranch row.branch branch → row.text ≡ false → IsOfTable player_rows (variable_op number (four_of x y z u) store branch)
four_table number row x y z u store branch known lt few most fx fy fz fu fs fb text = record {
  row = row;
  is = record { known = known; form = lt; count = four_counted row x y z u few most; first = fx; second = fy; third = fz; fourth = fu; store = fs; branch = fb };
  text = subst (λ (b : Bool). FitsText b 0) (sym text) refl;
}

-- ---- ops of the short form

abbrev plain_row : Instr → Row
plain_row instr = record { instr = instr; fewest = 1; most = 1; store = false; branch = false; text = false }

few_code : (x : Operand) → code_of (type_of_operand x) ≤ 2
few_code (operands.Large n) = omega arith
few_code (operands.Small n) = omega arith
few_code (operands.Variable n) = omega arith

short_table : (number : ℕ) (instr : Instr) (x : Operand) → row_of player_rows forms.Short number (one_types x) ≡ Ok (plain_row instr) → number < 16 → Fits x → IsOfTable player_rows (short_op number x)
short_table number instr x known lt fx = record {
  row = plain_row instr;
  is = record { known = known; form = (lt, refl, refl, refl, (λ (e : 128 + 16 * code_of (type_of_operand x) + number ≡ 190). (let c = few_code x in omega arith))); count = one_counted _ x refl refl; first = fx; second = refl; third = refl; fourth = refl; store = tt; branch = tt };
  text = refl;
}

ret_known : (x : Operand) → row_of player_rows forms.Short 11 (one_types x) ≡ Ok (plain_row (instrs.One one.Ret))
ret_known (operands.Large n) = refl
ret_known (operands.Small n) = refl
ret_known (operands.Variable n) = refl

paddr_known : (x : Operand) → row_of player_rows forms.Short 13 (one_types x) ≡ Ok (plain_row (instrs.One one.PrintPaddr))
paddr_known (operands.Large n) = refl
paddr_known (operands.Small n) = refl
paddr_known (operands.Variable n) = refl

-- ---- the ops of single acts

abbrev function_row : Function → Row
function_row f = record { instr = instr_of f; fewest = 2; most = 2; store = true; branch = false; text = false }

function_known : (f : Function) (s : OperandTypes) → row_of player_rows forms.Variable (function_number f) s ≡ Ok (function_row f)
function_known functions.Add s = refl
function_known functions.Sub s = refl
function_known functions.Mul s = refl
function_known functions.Div s = refl
function_known functions.Mod s = refl
function_known functions.And s = refl
function_known functions.Or s = refl
function_known functions.Word s = refl
function_known functions.Byte s = refl

function_small : (f : Function) → function_number f < 64
function_small functions.Add = omega arith
function_small functions.Sub = omega arith
function_small functions.Mul = omega arith
function_small functions.Div = omega arith
function_small functions.Mod = omega arith
function_small functions.And = omega arith
function_small functions.Or = omega arith
function_small functions.Word = omega arith
function_small functions.Byte = omega arith

abbrev write_row : Width → Row
write_row k = record { instr = write_instr k; fewest = 3; most = 3; store = false; branch = false; text = false }

write_table : (k : Width) (x y z : Operand) → Fits x → Fits y → Fits z → IsOfTable player_rows (variable_op (write_number k) (three_of x y z) None None)
write_table widths.Word x y z fx fy fz = three_table 33 (write_row widths.Word) x y z None None refl (omega arith) refl refl fx fy fz tt tt refl
write_table widths.Byte x y z fx fy fz = three_table 34 (write_row widths.Byte) x y z None None refl (omega arith) refl refl fx fy fz tt tt refl

abbrev call_row : Option ℕ → Row
call_row (Some v) = record { instr = instrs.Several several.CallVs; fewest = 1; most = 4; store = true; branch = false; text = false }
call_row None = record { instr = instrs.Several several.CallVn; fewest = 1; most = 4; store = false; branch = false; text = false }

module _ (counts : Counts) (all : List LOp) where
  -- an op without labels
  plain_open : (op : Op) (ts : List (Option Target)) → IsOfTable player_rows op → op.text ≡ 0 → OpenIf counts all (nth ts 0) op.operands.first → OpenIf counts all (nth ts 1) op.operands.second → OpenIf counts all (nth ts 2) op.operands.third → OpenIf counts all (nth ts 3) op.operands.fourth → IsOpen counts all op ts None
  plain_open op ts table text a b c d = record { table = table; text = text; first = a; second = b; third = c; fourth = d; branch_open = tt }

  compare_row : Comparison → ℕ → Row
  compare_row k most = record { instr = compare_instr k; fewest = 2; most = most; store = false; branch = true; text = false }

  when_open : (k : Comparison) (a b : Atom) (answer : Bool) (l : ℕ) → FitsAtom counts a → FitsAtom counts b → FitsComparison counts k → HasLabel l all → IsOpen counts all (variable_op (compare_number k) (operands_by k (operand a) (operand b)) None (Some (branch_on answer))) (targets_by k (target a) (target b)) (Some l)
  unfolding compare_row
  when_open comparisons.Equal a b answer l fa fb fk has = record {
    table = two_table 1 (compare_row comparisons.Equal 4) (operand a) (operand b) None (Some (branch_on answer)) refl (omega arith) refl refl (atom_fits counts a fa) (atom_fits counts b fb) tt (omega arith) refl;
    text = refl;
    first = atom_open counts all a fa;
    second = atom_open counts all b fb;
    third = tt;
    fourth = tt;
    branch_open = (refl, has);
  }
  when_open comparisons.Less a b answer l fa fb fk has = record {
    table = two_table 2 (compare_row comparisons.Less 2) (operand a) (operand b) None (Some (branch_on answer)) refl (omega arith) refl refl (atom_fits counts a fa) (atom_fits counts b fb) tt (omega arith) refl;
    text = refl;
    first = atom_open counts all a fa;
    second = atom_open counts all b fb;
    third = tt;
    fourth = tt;
    branch_open = (refl, has);
  }
  when_open comparisons.Greater a b answer l fa fb fk has = record {
    table = two_table 3 (compare_row comparisons.Greater 2) (operand a) (operand b) None (Some (branch_on answer)) refl (omega arith) refl refl (atom_fits counts a fa) (atom_fits counts b fb) tt (omega arith) refl;
    text = refl;
    first = atom_open counts all a fa;
    second = atom_open counts all b fb;
    third = tt;
    fourth = tt;
    branch_open = (refl, has);
  }
  when_open (comparisons.Either c) a b answer l fa fb fk has = record {
    table = three_table 1 (compare_row (comparisons.Either c) 4) (operand a) (operand b) (operand c) None (Some (branch_on answer)) refl (omega arith) refl refl (atom_fits counts a fa) (atom_fits counts b fb) (atom_fits counts c fk) tt (omega arith) refl;
    text = refl;
    first = atom_open counts all a fa;
    second = atom_open counts all b fb;
    third = atom_open counts all c fk;
    fourth = tt;
    branch_open = (refl, has);
  }
  when_open (comparisons.Any c d) a b answer l fa fb fk has = record {
    table = four_table 1 (compare_row (comparisons.Any c d) 4) (operand a) (operand b) (operand c) (operand d) None (Some (branch_on answer)) refl (omega arith) refl refl (atom_fits counts a fa) (atom_fits counts b fb) (atom_fits counts c fk.0) (atom_fits counts d fk.1) tt (omega arith) refl;
    text = refl;
    first = atom_open counts all a fa;
    second = atom_open counts all b fb;
    third = atom_open counts all c fk.0;
    fourth = atom_open counts all d fk.1;
    branch_open = (refl, has);
  }

  print_open : (k : Print) (a : Atom) → FitsAtom counts a → IsOpen counts all (print_op k (operand a)) (target a ∷ None ∷ None ∷ None ∷ []) None
  print_open prints.Code a fa = plain_open _ _ (one_table 37 (plain_row (instrs.Several several.PrintChar)) (operand a) None refl (omega arith) refl refl (atom_fits counts a fa) tt tt refl) refl (atom_open counts all a fa) tt tt tt
  print_open prints.Number a fa = plain_open _ _ (one_table 38 (plain_row (instrs.Several several.PrintNum)) (operand a) None refl (omega arith) refl refl (atom_fits counts a fa) tt tt refl) refl (atom_open counts all a fa) tt tt tt
  print_open prints.Unicode a fa = plain_open _ _ (record {
    row = plain_row (instrs.Extended extended.PrintUnicode);
    is = record { known = refl; form = omega arith; count = one_counted _ (operand a) refl refl; first = atom_fits counts a fa; second = refl; third = refl; fourth = refl; store = tt; branch = tt };
    text = refl;
  }) refl (atom_open counts all a fa) tt tt tt
  print_open prints.Text a fa = plain_open _ _ (short_table 13 (instrs.One one.PrintPaddr) (operand a) (paddr_known (operand a)) (omega arith) (atom_fits counts a fa)) refl (atom_open counts all a fa) tt tt tt

  quit_open : IsOpen counts all quit_op (None ∷ None ∷ None ∷ None ∷ []) None
  unfolding count_in_row operand_count
  quit_open = plain_open _ _ (record {
    row = record { instr = instrs.Zero none.Quit; fewest = 0; most = 0; store = false; branch = false; text = false };
    is = record { known = refl; form = (omega arith, refl, refl, refl, (λ (e : 186 ≡ 190). (omega arith))); count = refl; first = refl; second = refl; third = refl; fourth = refl; store = tt; branch = tt };
    text = refl;
  }) refl tt tt tt tt

  call_stored : (v : Option ℕ) → FitsStored v → FitsStore (call_row v).store v
  call_stored None h = tt
  call_stored (Some v) h = h

  call_table : (v : Option ℕ) (a : Atom) (xs : Args) → FitsStored v → FitsAtom counts a → FitArgs counts xs → IsOfTable player_rows (variable_op (call_number v) (with_args (operand a) xs) v None)
  call_table None a args.Zero lt fa fx = one_table 57 (call_row None) (operand a) None refl (omega arith) refl refl (atom_fits counts a fa) tt tt refl
  call_table None a (args.One b) lt fa fx = two_table 57 (call_row None) (operand a) (operand b) None None refl (omega arith) refl refl (atom_fits counts a fa) (atom_fits counts b fx) tt tt refl
  call_table None a (args.Two b c) lt fa fx = three_table 57 (call_row None) (operand a) (operand b) (operand c) None None refl (omega arith) refl refl (atom_fits counts a fa) (atom_fits counts b fx.0) (atom_fits counts c fx.1) tt tt refl
  call_table None a (args.Three b c d) lt fa fx = four_table 57 (call_row None) (operand a) (operand b) (operand c) (operand d) None None refl (omega arith) refl refl (atom_fits counts a fa) (atom_fits counts b fx.0) (atom_fits counts c fx.1) (atom_fits counts d fx.2) tt tt refl
  call_table (Some v) a args.Zero lt fa fx = one_table 32 (call_row (Some v)) (operand a) (Some v) refl (omega arith) refl refl (atom_fits counts a fa) lt tt refl
  call_table (Some v) a (args.One b) lt fa fx = two_table 32 (call_row (Some v)) (operand a) (operand b) (Some v) None refl (omega arith) refl refl (atom_fits counts a fa) (atom_fits counts b fx) lt tt refl
  call_table (Some v) a (args.Two b c) lt fa fx = three_table 32 (call_row (Some v)) (operand a) (operand b) (operand c) (Some v) None refl (omega arith) refl refl (atom_fits counts a fa) (atom_fits counts b fx.0) (atom_fits counts c fx.1) lt tt refl
  call_table (Some v) a (args.Three b c d) lt fa fx = four_table 32 (call_row (Some v)) (operand a) (operand b) (operand c) (operand d) (Some v) None refl (omega arith) refl refl (atom_fits counts a fa) (atom_fits counts b fx.0) (atom_fits counts c fx.1) (atom_fits counts d fx.2) lt tt refl

  call_open : (v : Option ℕ) (a : Atom) (xs : Args) → FitsStored v → FitsAtom counts a → FitArgs counts xs → IsOpen counts all (variable_op (call_number v) (with_args (operand a) xs) v None) (target a ∷ arg_targets xs) None
  call_open v a args.Zero lt fa fx = plain_open _ _ (call_table v a args.Zero lt fa fx) refl (atom_open counts all a fa) tt tt tt
  call_open v a (args.One b) lt fa fx = plain_open _ _ (call_table v a (args.One b) lt fa fx) refl (atom_open counts all a fa) (atom_open counts all b fx) tt tt
  call_open v a (args.Two b c) lt fa fx = plain_open _ _ (call_table v a (args.Two b c) lt fa fx) refl (atom_open counts all a fa) (atom_open counts all b fx.0) (atom_open counts all c fx.1) tt
  call_open v a (args.Three b c d) lt fa fx = plain_open _ _ (call_table v a (args.Three b c d) lt fa fx) refl (atom_open counts all a fa) (atom_open counts all b fx.0) (atom_open counts all c fx.1) (atom_open counts all d fx.2)

  -- ---- bodies

  pub body_open : (body : List Act) → AreFit counts all body → AreOpen counts all (ops_of_acts body)
  body_open [] h = tt
  body_open (acts.Label l ∷ more) h = (h.0, body_open more h.1)
  body_open (acts.Goto l ∷ more) h = (plain_open _ _ (short_table 12 (instrs.One one.Jump) (operands.Large 0) refl (omega arith) (omega arith)) refl (refl, h.0) tt tt tt, body_open more h.1)
  body_open (acts.When t l ∷ more) h = (when_open t.comparison t.first t.second t.answer l h.0.0.0 h.0.0.1 h.0.0.2 h.0.1, body_open more h.1)
  body_open (acts.Copy v a ∷ more) h = (
    plain_open _ _ (two_table 13 (record { instr = instrs.Two two.Store; fewest = 2; most = 2; store = false; branch = false; text = false }) (operands.Small v) (operand a) None None refl (omega arith) refl refl h.0.0 (atom_fits counts a h.0.1) tt tt refl) refl tt (atom_open counts all a h.0.1) tt tt,
    body_open more h.1,
  )
  body_open (acts.Compute v f a b ∷ more) h = (
    plain_open _ _ (two_table (function_number f) (function_row f) (operand a) (operand b) (Some v) None (function_known f (two_types (operand a) (operand b))) (function_small f) refl refl (atom_fits counts a h.0.1) (atom_fits counts b h.0.2) h.0.0 tt refl) refl (atom_open counts all a h.0.1) (atom_open counts all b h.0.2) tt tt,
    body_open more h.1,
  )
  body_open (acts.Write w a b c ∷ more) h = (
    plain_open _ _ (write_table w (operand a) (operand b) (operand c) (atom_fits counts a h.0.0) (atom_fits counts b h.0.1) (atom_fits counts c h.0.2)) refl (atom_open counts all a h.0.0) (atom_open counts all b h.0.1) (atom_open counts all c h.0.2) tt,
    body_open more h.1,
  )
  body_open (acts.Print k a ∷ more) h = (print_open k a h.0, body_open more h.1)
  body_open (acts.Random v a ∷ more) h = (
    plain_open _ _ (one_table 39 (record { instr = instrs.Several several.Random; fewest = 1; most = 1; store = true; branch = false; text = false }) (operand a) (Some v) refl (omega arith) refl refl (atom_fits counts a h.0.1) h.0.0 tt refl) refl (atom_open counts all a h.0.1) tt tt tt,
    body_open more h.1,
  )
  body_open (acts.Read v a ∷ more) h = (
    plain_open _ _ (two_table 36 (record { instr = instrs.Several several.Aread; fewest = 1; most = 4; store = true; branch = false; text = false }) (operand a) (operands.Small 0) (Some v) None refl (omega arith) refl refl (atom_fits counts a h.0.1) (omega arith) h.0.0 tt refl) refl (atom_open counts all a h.0.1) tt tt tt,
    body_open more h.1,
  )
  body_open (acts.Call v a xs ∷ more) h = (call_open v a xs h.0.0 h.0.1 h.0.2, body_open more h.1)
  body_open (acts.Return a ∷ more) h = (plain_open _ _ (short_table 11 (instrs.One one.Ret) (operand a) (ret_known (operand a)) (omega arith) (atom_fits counts a h.0)) refl (atom_open counts all a h.0) tt tt tt, body_open more h.1)
  body_open (acts.Quit ∷ more) h = (quit_open, body_open more h.1)

pub opens : (counts : Counts) (body : List Act) → Opens counts body
opens counts body = record { opens = body_open counts (ops_of_acts body) body }
