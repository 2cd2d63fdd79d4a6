-- What the routines do that make a number of two values. Hold it against docs/LANGUAGE.md, "Built-in queries" and "Choosing", and
-- dg_meaning/specs/Numbers.antt.
use Rattle.std.specs.Prelude.{◌≡◌, ◌≢◌, ℕ, ◌+◌, ◌*◌, ◌<◌, ◌≤◌, List, [], ◌∷◌, Option, Some, None}
use Rattle.dg_base.specs.declared.program.ArithOp.{ArithOp}
use Rattle.dg_base.specs.declared.program.ArithOp.TheVariants as arith_op
use Rattle.dg_meaning.specs.Values.{Value}
use Rattle.dg_meaning.specs.Substitutions.{Substitution, walk, links}
use Rattle.dg_meaning.specs.Numbers.{of_numbers, calculated, thrown}
use Rattle.z_model.specs.Run.{word_at, next_drawn}
use Rattle.z_lang.specs.declared.act.Act.{Act}
use Rattle.z_lang.specs.State.{Program}
use Rattle.z_lang.specs.Runs.{ActsRun as Runs, Returns}
use Rattle.dg_rt.specs.declared.numbers.TheConstants.{PLUS, MINUS, TIMES, DIVIDE, MODULO}
use Rattle.dg_rt.specs.declared.arithmetic.TheConstants.{PLUS_ACTS, MINUS_ACTS, TIMES_ACTS, DIVIDE_ACTS, MODULO_ACTS, THROW_ACTS}
use Rattle.dg_rt.specs.Cells.{Holds}
use Rattle.dg_rt.specs.Areas.{clash_reg, state}
use Rattle.dg_rt.specs.Shapes.{Shape, IsShape, Shows, Stands}
use Rattle.dg_rt.specs.RunTime.{HasRunTime}
use Rattle.dg_rt.specs.Operands.{no_value}

-- What is answered of a number, if there is one, and what the register of clashes says.
abbrev pub result_word : Option ℕ → ℕ
result_word None = no_value
result_word (Some n) = n

abbrev pub clash_of : Option ℕ → ℕ
clash_of None = 1
clash_of (Some n) = 0

-- It is one of a story.
abbrev pub IsNumber : Option ℕ → Type 0
IsNumber None = Unit {0}
IsNumber (Some n) = n < 16384

-- A number was made, if there is one, in so many instructions at most, and so many dice words are drawn then; nothing else is changed.
pub record Makes (p : Program) (f w : ℕ) (acts : List Act) (memory locals typed output : List ℕ) (drawn drawn' : ℕ) (cells : ℕ → ℕ)
    (made : Option ℕ) (most : ℕ) : Type 0 where
  pub memory' : List ℕ
  pub cells' : ℕ → ℕ
  pub holds : Holds p.world.layout memory' cells'
  pub clash : cells' clash_reg ≡ clash_of made
  pub others : (k : ℕ) → k ≢ clash_reg → cells' k ≡ cells k
  pub small : IsNumber made
  pub locals' : List ℕ
  pub count : ℕ
  pub few : count ≤ most
  pub runs : Runs p f w acts acts (state memory locals typed drawn output) (Returns (result_word made))
      (state memory' locals' typed drawn' output) count

-- Acts make of any two values what this function makes of them, looked up, in 5 instructions a link and 32; and this is drawn then, by what was made.
abbrev pub MakeOf : List Act → (Program → ℕ → ℕ → ℕ → Option ℕ) → (Program → ℕ → Option ℕ → ℕ) → Type 0
MakeOf acts f drawn_by = (p : Program) → HasRunTime p → (frames w : ℕ) → 2 ≤ frames → 8 ≤ w → (memory typed output : List ℕ) (drawn : ℕ)
    (sh : Shape) → IsShape sh → (cells : ℕ → ℕ) → Holds p.world.layout memory cells → (S : Substitution) → Stands sh cells S →
    (x y : ℕ) (v u : Value) → Shows sh x v → Shows sh y u →
    let made = of_numbers (f p drawn) (walk S v) (walk S u) in
    Makes p frames w acts memory (x ∷ y ∷ 0 ∷ []) typed output drawn (drawn_by p drawn made) cells made (5 * links S v + 5 * links S u + 32)

-- ## Arithmetic

-- The routine of each operation, and its number.
abbrev pub arith_acts : ArithOp → List Act
arith_acts arith_op.Plus = PLUS_ACTS
arith_acts arith_op.Minus = MINUS_ACTS
arith_acts arith_op.Times = TIMES_ACTS
arith_acts arith_op.Divide = DIVIDE_ACTS
arith_acts arith_op.Modulo = MODULO_ACTS

abbrev pub arith_number : ArithOp → ℕ
arith_number arith_op.Plus = PLUS
arith_number arith_op.Minus = MINUS
arith_number arith_op.Times = TIMES
arith_number arith_op.Divide = DIVIDE
arith_number arith_op.Modulo = MODULO

-- Each makes what the operation calculates, and nothing is drawn.
abbrev pub ArithWorks : Type 0
ArithWorks = (op : ArithOp) → MakeOf (arith_acts op) (λ p drawn. calculated op) (λ p drawn made. drawn)

-- ## Dice

-- How many words are drawn behind a throw: one more where it gives a number, in a circle.
abbrev pub drawn_behind : Program → ℕ → Option ℕ → ℕ
drawn_behind p drawn None = drawn
drawn_behind p drawn (Some n) = next_drawn p.world drawn

-- A throw makes what the next dice word comes to.
abbrev pub ThrowWorks : Type 0
ThrowWorks = MakeOf THROW_ACTS (λ p drawn. thrown (word_at p.world drawn)) drawn_behind
