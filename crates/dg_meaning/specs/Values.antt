-- Values at run time, and what a term of a program stands for. Hold it against docs/LANGUAGE.md, where it says what a value is, and the chapter of
-- the Dialog manual on values.
use Rattle.std.specs.Prelude.{ℕ, List, [], ◌∷◌, Option, Some, None, map, get_or}
use Rattle.std.specs.List.{slice_get}
use Rattle.dg_base.specs.declared.program.Term.{Term, Pair', Row_of-Term, end_of-Term, more_of-Term, out-Term}
use Rattle.dg_base.specs.declared.program.Term.TheOpen as term
use Rattle.dg_base.specs.declared.program.ClosureBody.{ClosureBody}
use Rattle.dg_base.specs.declared.program.CoreProgram.{CoreProgram}

-- ## Values

-- What stands at the top of a value that is no variable: a number, a word of the program by its number, another word by its spelling, an object, the
-- empty list, a pair, or the closure of a place in the program.
pub data Label : Type 0 where
  Num : (n : ℕ) → Label
  Word : (n : ℕ) → Label
  Unknown : (spelling : List ℕ) → Label
  Object : (n : ℕ) → Label
  Nil : Label
  Pair : Label
  Closure : (place : ℕ) → Label

-- A value is a variable, by its number, or a label with its parts: those of a pair are its head and its tail, those of a closure its captured values
-- in order, and the others have none.
mutual
  pub data Value : Type 0 where
    Var : (n : ℕ) → Value
    Node : (label : Label) → (parts : Values) → Value

  pub data Values : Type 0 where
    NoMore : Values
    More : (first : Value) → (rest : Values) → Values

-- A value without parts.
abbrev pub leaf : Label → Value
leaf f = Node f NoMore

-- The pair of a head and a tail.
abbrev pub pair : Value → Value → Value
pair h t = Node Pair (More h (More t NoMore))

-- A list of values as the parts of one.
abbrev pub node_parts : List Value → Values
node_parts [] = NoMore
node_parts (v ∷ vs) = More v (node_parts vs)

-- ## Terms

-- What a variable of a rule or closure stands for, among the values of all its variables.
abbrev pub value_of_var : List Value → ℕ → Value
value_of_var env v = get_or env v (leaf Nil)

-- The values of the variables that a closure captures.
abbrev pub captured_values : List Value → Option ClosureBody → Values
captured_values env None = NoMore
captured_values env (Some closure) = node_parts (map (value_of_var env) closure.captured)

-- The value of a term without inner terms.
abbrev pub value_of_leaf : CoreProgram → List Value → term.Term-F Term → Value
value_of_leaf program env (term.Num n) = leaf (Num n)
value_of_leaf program env (term.Word w) = leaf (Word w)
value_of_leaf program env (term.Object o) = leaf (Object o)
value_of_leaf program env (term.Var v) = value_of_var env v
value_of_leaf program env (term.Closure c) = Node (Closure c) (captured_values env (slice_get program.closures c))
value_of_leaf program env other = leaf Nil

-- The value of a term of the program, among the values of the variables around it.
abbrev mutual
  pub value_of : CoreProgram → List Value → Term → Value
  value_of program env (Pair' s head t tail) = pair (value_of_row program env head) (value_of_row program env tail)
  value_of program env other = value_of_leaf program env (out-Term other)

  pub value_of_row : {m : _} → CoreProgram → List Value → Row_of-Term m → Value
  value_of_row program env end_of-Term = leaf Nil
  value_of_row program env (more_of-Term inner others) = value_of program env inner
