-- The instructions of a routine.
use Rattle.std.specs.Prelude.{ℕ, List, [], ◌∷◌, map, Option, Some, None, Bool, false, nat_lt, if◌then◌else◌, pos}
use Rattle.z_model.specs.declared.op.Form.TheVariants as forms
use Rattle.z_model.specs.declared.op.Operand.{Operand}
use Rattle.z_model.specs.declared.op.Operand.TheVariants as operands
use Rattle.z_model.specs.declared.op.Operands.{Operands}
use Rattle.z_model.specs.declared.op.Branch.{Branch}
use Rattle.z_model.specs.declared.op.Op.{Op}
use Rattle.z_code.specs.declared.target.LOp.{LOp}
use Rattle.z_code.specs.declared.target.LOp.TheVariants as lops
use Rattle.z_code.specs.declared.target.Target.{Target}
use Rattle.z_code.specs.declared.target.Target.TheVariants as targets
use Rattle.z_lang.specs.declared.act.Atom.{Atom}
use Rattle.z_lang.specs.declared.act.Atom.TheVariants as atoms
use Rattle.z_lang.specs.declared.act.Function.{Function}
use Rattle.z_lang.specs.declared.act.Function.TheVariants as functions
use Rattle.z_lang.specs.declared.act.Width.{Width}
use Rattle.z_lang.specs.declared.act.Width.TheVariants as widths
use Rattle.z_lang.specs.declared.act.Print.{Print}
use Rattle.z_lang.specs.declared.act.Print.TheVariants as prints
use Rattle.z_lang.specs.declared.act.Comparison.{Comparison}
use Rattle.z_lang.specs.declared.act.Comparison.TheVariants as comparisons
use Rattle.z_lang.specs.declared.act.Test.{Test}
use Rattle.z_lang.specs.declared.act.Args.{Args}
use Rattle.z_lang.specs.declared.act.Args.TheVariants as args
use Rattle.z_lang.specs.declared.act.Act.{Act}
use Rattle.z_lang.specs.declared.act.Act.TheVariants as acts

-- an operand, to be filled in where it names a place of the story
abbrev pub operand : Atom → Operand
operand (atoms.Num n) = if nat_lt n 256 then operands.Small n else operands.Large n
operand (atoms.Var v) = operands.Variable v
operand (atoms.Routine r) = operands.Large 0
operand (atoms.Table t) = operands.Large 0
operand (atoms.Text t) = operands.Large 0

abbrev pub target : Atom → Option Target
target (atoms.Num n) = None
target (atoms.Var v) = None
target (atoms.Routine r) = Some (targets.Routine r)
target (atoms.Table t) = Some (targets.Table t)
target (atoms.Text t) = Some (targets.Text t)

abbrev pub no_operand : Operand
no_operand = operands.Small 0

abbrev pub none_of : Operands
none_of = record { count = 0; first = no_operand; second = no_operand; third = no_operand; fourth = no_operand }

abbrev pub one_of : Operand → Operands
one_of a = record { count = 1; first = a; second = no_operand; third = no_operand; fourth = no_operand }

abbrev pub two_of : Operand → Operand → Operands
two_of a b = record { count = 2; first = a; second = b; third = no_operand; fourth = no_operand }

abbrev pub three_of : Operand → Operand → Operand → Operands
three_of a b c = record { count = 3; first = a; second = b; third = c; fourth = no_operand }

abbrev pub four_of : Operand → Operand → Operand → Operand → Operands
four_of a b c d = record { count = 4; first = a; second = b; third = c; fourth = d }

abbrev pub short_op : ℕ → Operand → Op
short_op number a = record { form = forms.Short; number = number; operands = one_of a; store = None; branch = None; text = 0 }

abbrev pub variable_op : ℕ → Operands → Option ℕ → Option Branch → Op
variable_op number xs store branch = record { form = forms.Variable; number = number; operands = xs; store = store; branch = branch; text = 0 }

abbrev pub function_number : Function → ℕ
function_number functions.Add = 20
function_number functions.Sub = 21
function_number functions.Mul = 22
function_number functions.Div = 23
function_number functions.Mod = 24
function_number functions.And = 9
function_number functions.Or = 8
function_number functions.Word = 15
function_number functions.Byte = 16

abbrev pub write_number : Width → ℕ
write_number widths.Word = 33
write_number widths.Byte = 34

abbrev pub compare_number : Comparison → ℕ
compare_number comparisons.Equal = 1
compare_number comparisons.Less = 2
compare_number comparisons.Greater = 3
compare_number (comparisons.Either c) = 1
compare_number (comparisons.Any c d) = 1

-- the operands of a comparison
abbrev pub operands_by : Comparison → Operand → Operand → Operands
operands_by comparisons.Equal a b = two_of a b
operands_by comparisons.Less a b = two_of a b
operands_by comparisons.Greater a b = two_of a b
operands_by (comparisons.Either c) a b = three_of a b (operand c)
operands_by (comparisons.Any c d) a b = four_of a b (operand c) (operand d)

abbrev pub targets_by : Comparison → Option Target → Option Target → List (Option Target)
targets_by comparisons.Equal a b = a ∷ b ∷ None ∷ None ∷ []
targets_by comparisons.Less a b = a ∷ b ∷ None ∷ None ∷ []
targets_by comparisons.Greater a b = a ∷ b ∷ None ∷ None ∷ []
targets_by (comparisons.Either c) a b = a ∷ b ∷ target c ∷ None ∷ []
targets_by (comparisons.Any c d) a b = a ∷ b ∷ target c ∷ target d ∷ []

abbrev pub test_operands : Test → Operands
test_operands t = operands_by t.comparison (operand t.first) (operand t.second)

abbrev pub test_targets : Test → List (Option Target)
test_targets t = targets_by t.comparison (target t.first) (target t.second)

-- the number of a call with a store, and without one
abbrev pub call_number : Option ℕ → ℕ
call_number (Some v) = 32
call_number None = 57

-- a branch that is filled in later
abbrev pub branch_on : Bool → Branch
branch_on when = record { when = when; offset = pos 0; short = false }

abbrev pub print_op : Print → Operand → Op
print_op prints.Code a = variable_op 37 (one_of a) None None
print_op prints.Number a = variable_op 38 (one_of a) None None
print_op prints.Unicode a = record { form = forms.Extended; number = 11; operands = one_of a; store = None; branch = None; text = 0 }
print_op prints.Text a = short_op 13 a

abbrev pub with_args : Operand → Args → Operands
with_args f args.Zero = one_of f
with_args f (args.One a) = two_of f (operand a)
with_args f (args.Two a b) = three_of f (operand a) (operand b)
with_args f (args.Three a b c) = four_of f (operand a) (operand b) (operand c)

abbrev pub arg_targets : Args → List (Option Target)
arg_targets args.Zero = None ∷ None ∷ None ∷ []
arg_targets (args.One a) = target a ∷ None ∷ None ∷ []
arg_targets (args.Two a b) = target a ∷ target b ∷ None ∷ []
arg_targets (args.Three a b c) = target a ∷ target b ∷ target c ∷ []

abbrev pub quit_op : Op
quit_op = record { form = forms.Short; number = 10; operands = none_of; store = None; branch = None; text = 0 }

-- the instruction of an act
abbrev pub instruction : Act → LOp
instruction (acts.Label l) = lops.Label l
instruction (acts.Goto l) = lops.Do (short_op 12 (operands.Large 0)) (Some (targets.Label l) ∷ None ∷ None ∷ None ∷ []) None
instruction (acts.When t l) = lops.Do (variable_op (compare_number t.comparison) (test_operands t) None (Some (branch_on t.answer))) (test_targets t) (Some l)
instruction (acts.Copy v a) = lops.Do (variable_op 13 (two_of (operands.Small v) (operand a)) None None) (None ∷ target a ∷ None ∷ None ∷ []) None
instruction (acts.Compute v f a b) =
    lops.Do (variable_op (function_number f) (two_of (operand a) (operand b)) (Some v) None) (target a ∷ target b ∷ None ∷ None ∷ []) None
instruction (acts.Write w a b c) =
    lops.Do (variable_op (write_number w) (three_of (operand a) (operand b) (operand c)) None None) (target a ∷ target b ∷ target c ∷ None ∷ []) None
instruction (acts.Print k a) = lops.Do (print_op k (operand a)) (target a ∷ None ∷ None ∷ None ∷ []) None
instruction (acts.Random v a) = lops.Do (variable_op 39 (one_of (operand a)) (Some v) None) (target a ∷ None ∷ None ∷ None ∷ []) None
instruction (acts.Read v a) = lops.Do (variable_op 36 (two_of (operand a) (operands.Small 0)) (Some v) None) (target a ∷ None ∷ None ∷ None ∷ []) None
instruction (acts.Call v a xs) = lops.Do (variable_op (call_number v) (with_args (operand a) xs) v None) (target a ∷ arg_targets xs) None
instruction (acts.Return a) = lops.Do (short_op 11 (operand a)) (target a ∷ None ∷ None ∷ None ∷ []) None
instruction acts.Quit = lops.Do quit_op (None ∷ None ∷ None ∷ None ∷ []) None

abbrev pub ops_of_acts : List Act → List LOp
ops_of_acts body = map instruction body
