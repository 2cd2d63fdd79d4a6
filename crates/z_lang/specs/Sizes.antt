-- How many bytes acts take.
use Rattle.std.specs.Prelude.{◌≡◌, ℕ, ◌+◌, List, [], ◌∷◌, Option, Some, None, nat_lt, if◌then◌else◌}
use Rattle.z_lang.specs.declared.act.Atom.{Atom}
use Rattle.z_lang.specs.declared.act.Atom.TheVariants as atoms
use Rattle.z_lang.specs.declared.act.Print.{Print}
use Rattle.z_lang.specs.declared.act.Print.TheVariants as prints
use Rattle.z_lang.specs.declared.act.Comparison.{Comparison}
use Rattle.z_lang.specs.declared.act.Comparison.TheVariants as comparisons
use Rattle.z_lang.specs.declared.act.Args.{Args}
use Rattle.z_lang.specs.declared.act.Args.TheVariants as args
use Rattle.z_lang.specs.declared.act.Act.{Act}
use Rattle.z_lang.specs.declared.act.Act.TheVariants as acts
use Rattle.z_lang.specs.Code.{instruction, ops_of_acts}
use Rattle.z_code.specs.Targets.{op_size, ops_size}

-- a value's bytes: two for a number above 255 and for a name
abbrev pub atom_bytes : Atom → ℕ
atom_bytes (atoms.Num n) = if nat_lt n 256 then 1 else 2
atom_bytes (atoms.Var v) = 1
atom_bytes (atoms.Routine r) = 2
atom_bytes (atoms.Table t) = 2
atom_bytes (atoms.Text t) = 2

-- those of a comparison's further values
abbrev pub further_bytes : Comparison → ℕ
further_bytes comparisons.Equal = 0
further_bytes comparisons.Less = 0
further_bytes comparisons.Greater = 0
further_bytes (comparisons.Either a) = atom_bytes a
further_bytes (comparisons.Any a b) = atom_bytes a + atom_bytes b

abbrev pub args_bytes : Args → ℕ
args_bytes args.Zero = 0
args_bytes (args.One a) = atom_bytes a
args_bytes (args.Two a b) = atom_bytes a + atom_bytes b
args_bytes (args.Three a b c) = atom_bytes a + atom_bytes b + atom_bytes c

-- the bytes of a print's head
abbrev pub print_bytes : Print → ℕ
print_bytes prints.Code = 2
print_bytes prints.Number = 2
print_bytes prints.Unicode = 3
print_bytes prints.Text = 1

abbrev pub store_byte : Option ℕ → ℕ
store_byte None = 0
store_byte (Some v) = 1

-- the bytes of an act's instruction
abbrev pub act_bytes : Act → ℕ
act_bytes (acts.Label l) = 0
act_bytes (acts.Goto l) = 3
act_bytes (acts.When t l) = 4 + atom_bytes t.first + atom_bytes t.second + further_bytes t.comparison
act_bytes (acts.Copy v a) = 3 + atom_bytes a
act_bytes (acts.Compute v f a b) = 3 + atom_bytes a + atom_bytes b
act_bytes (acts.Write w a b c) = 2 + atom_bytes a + atom_bytes b + atom_bytes c
act_bytes (acts.Print k a) = print_bytes k + atom_bytes a
act_bytes (acts.Random v a) = 3 + atom_bytes a
act_bytes (acts.Read v a) = 4 + atom_bytes a
act_bytes (acts.Call v a xs) = 2 + atom_bytes a + args_bytes xs + store_byte v
act_bytes (acts.Return a) = 1 + atom_bytes a
act_bytes acts.Quit = 1

abbrev pub body_bytes : List Act → ℕ
body_bytes [] = 0
body_bytes (act ∷ more) = act_bytes act + body_bytes more

-- Acts take so many bytes, and one is at most one instruction.
pub record TakesBytes (body : List Act) : Type 0 where
  pub each : (act : Act) → op_size (instruction act) ≡ act_bytes act
  pub all : ops_size (ops_of_acts body) ≡ body_bytes body
