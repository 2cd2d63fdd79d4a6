-- The instruction of an act takes as many bytes as are said.
use Rattle.std.proofs.Common.{◌≡◌, ℕ, ◌+◌, ◌*◌, Bool, true, false, List, [], ◌∷◌, ◌++◌, length, Some, None, refl, arith, length-append}
use Rattle.std.specs.Prelude.{nat_lt, if◌then◌else◌}
use Rattle.z_model.specs.declared.op.Operand.TheVariants as operands
use Rattle.z_model.specs.Spelling.{type_of_operand, operand_bytes, bit}
use Rattle.z_code.specs.Targets.{op_size, ops_size}
use Rattle.z_lang.specs.declared.act.Atom.{Atom}
use Rattle.z_lang.specs.declared.act.Atom.TheVariants as atoms
use Rattle.z_lang.specs.declared.act.Function.{Function}
use Rattle.z_lang.specs.declared.act.Print.TheVariants as prints
use Rattle.z_lang.specs.declared.act.Comparison.{Comparison}
use Rattle.z_lang.specs.declared.act.Comparison.TheVariants as comparisons
use Rattle.z_lang.specs.declared.act.Args.TheVariants as args
use Rattle.z_lang.specs.declared.act.Act.{Act}
use Rattle.z_lang.specs.declared.act.Act.TheVariants as acts
use Rattle.z_lang.specs.Code.{operand, instruction, ops_of_acts}
use Rattle.z_lang.specs.Sizes.{atom_bytes, act_bytes, body_bytes, TakesBytes}

-- the bytes of an operand
abbrev bytes_of : Atom → List ℕ
bytes_of a = operand_bytes (type_of_operand (operand a)) (operand a)

operand_size : (a : Atom) → length (bytes_of a) ≡ atom_bytes a
operand_size (atoms.Num n) = by_size (nat_lt n 256)
  where
    by_size : (t : Bool) → length (operand_bytes (type_of_operand (if t then operands.Small n else operands.Large n)) (if t then operands.Small n else operands.Large n)) ≡ (if t then 1 else 2)
    by_size true = refl
    by_size false = refl
operand_size (atoms.Var v) = refl
operand_size (atoms.Routine r) = refl
operand_size (atoms.Table t) = refl
operand_size (atoms.Text t) = refl

-- what stands behind one operand, two, three and four
one_size : (a : Atom) (rest : List ℕ) → length (bytes_of a ++ rest) ≡ atom_bytes a + length rest
one_size a rest = let x = operand_size a in omega (arith, length-append (bytes_of a) rest)

two_size : (a b : Atom) (rest : List ℕ) → length (bytes_of a ++ (bytes_of b ++ rest)) ≡ atom_bytes a + atom_bytes b + length rest
two_size a b rest = let x = one_size a (bytes_of b ++ rest) in let y = one_size b rest in omega arith

three_size : (a b c : Atom) (rest : List ℕ) → length (bytes_of a ++ (bytes_of b ++ (bytes_of c ++ rest))) ≡ atom_bytes a + atom_bytes b + atom_bytes c + length rest
three_size a b c rest = let x = two_size a b (bytes_of c ++ rest) in let y = one_size c rest in omega arith

four_size : (a b c d : Atom) (rest : List ℕ) → length (bytes_of a ++ (bytes_of b ++ (bytes_of c ++ (bytes_of d ++ rest)))) ≡ atom_bytes a + atom_bytes b + atom_bytes c + atom_bytes d + length rest
four_size a b c d rest = let x = three_size a b c (bytes_of d ++ rest) in let y = one_size d rest in omega arith

-- the bytes of a branch
abbrev two_bytes : Bool → List ℕ
two_bytes answer = (128 * bit answer + 0) ∷ 0 ∷ []

-- the tests
when_size : (k : Comparison) (a b : Atom) (answer : Bool) (l : ℕ) → let act = acts.When (record { comparison = k; first = a; second = b; answer = answer }) l in op_size (instruction act) ≡ act_bytes act
when_size comparisons.Equal a b answer l = let x = two_size a b (two_bytes answer) in omega arith
when_size comparisons.Less a b answer l = let x = two_size a b (two_bytes answer) in omega arith
when_size comparisons.Greater a b answer l = let x = two_size a b (two_bytes answer) in omega arith
when_size (comparisons.Either c) a b answer l = let x = three_size a b c (two_bytes answer) in omega arith
when_size (comparisons.Any c d) a b answer l = let x = four_size a b c d (two_bytes answer) in omega arith

compute_size : (v : ℕ) (f : Function) (a b : Atom) → op_size (instruction (acts.Compute v f a b)) ≡ act_bytes (acts.Compute v f a b)
compute_size v f a b = let x = two_size a b (v ∷ []) in omega arith

pub act_takes : (act : Act) → op_size (instruction act) ≡ act_bytes act
act_takes (acts.Label l) = refl
act_takes (acts.Goto l) = refl
act_takes (acts.When t l) = when_size t.comparison t.first t.second t.answer l
act_takes (acts.Copy v a) = let x = one_size a [] in omega arith
act_takes (acts.Compute v f a b) = compute_size v f a b
act_takes (acts.Write w a b c) = let x = three_size a b c [] in omega arith
act_takes (acts.Print prints.Code a) = let x = one_size a [] in omega arith
act_takes (acts.Print prints.Number a) = let x = one_size a [] in omega arith
act_takes (acts.Print prints.Unicode a) = let x = one_size a [] in omega arith
act_takes (acts.Print prints.Text a) = let x = one_size a [] in omega arith
act_takes (acts.Random v a) = let x = one_size a (v ∷ []) in omega arith
act_takes (acts.Read v a) = let x = one_size a (0 ∷ v ∷ []) in omega arith
act_takes (acts.Call None a args.Zero) = let x = one_size a [] in omega arith
act_takes (acts.Call None a (args.One b)) = let x = two_size a b [] in omega arith
act_takes (acts.Call None a (args.Two b c)) = let x = three_size a b c [] in omega arith
act_takes (acts.Call None a (args.Three b c d)) = let x = four_size a b c d [] in omega arith
act_takes (acts.Call (Some v) a args.Zero) = let x = one_size a (v ∷ []) in omega arith
act_takes (acts.Call (Some v) a (args.One b)) = let x = two_size a b (v ∷ []) in omega arith
act_takes (acts.Call (Some v) a (args.Two b c)) = let x = three_size a b c (v ∷ []) in omega arith
act_takes (acts.Call (Some v) a (args.Three b c d)) = let x = four_size a b c d (v ∷ []) in omega arith
act_takes (acts.Return a) = let x = one_size a [] in omega arith
act_takes acts.Quit = refl

body_takes : (body : List Act) → ops_size (ops_of_acts body) ≡ body_bytes body
body_takes [] = refl
body_takes (act ∷ more) = let x = act_takes act in let y = body_takes more in omega arith

pub takes_bytes : (body : List Act) → TakesBytes body
takes_bytes body = record { each = act_takes; all = body_takes body }
