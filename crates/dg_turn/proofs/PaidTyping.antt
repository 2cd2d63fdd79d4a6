-- What typed input costs is paid for.
use Rattle.std.proofs.Common.{◌≡◌, ℕ, zero, suc, ◌+◌, ◌≤◌, List, [], ◌∷◌, length, map, take, Option, ap, arith}
use Rattle.std.proofs.lemmas.Nat.{mul-le}
use Rattle.dg_base.specs.declared.program.Term.{Term}
use Rattle.dg_base.specs.Units.{units_of as line_units}
use Rattle.dg_meaning.specs.Cells.{nodes_of, cells as cells_of}
use Rattle.dg_meaning.specs.Moves.{takes_line}
use Rattle.dg_meaning.specs.Path.{Registers}
use Rattle.dg_meaning.specs.Values.{Value}
use Rattle.dg_meaning.specs.Words.{first_line, letter_of, letters_of}
use Rattle.dg_meaning.specs.World.{Print, World}
use Rattle.dg_mid.specs.declared.code.Action.TheVariants as action
use Rattle.dg_mid.specs.declared.code.Op.{Op}
use Rattle.dg_mid.specs.declared.code.Op.TheVariants as op
use Rattle.dg_mid.specs.Actions.{registers_of, world_of}
use Rattle.dg_mid.specs.State.{Mid, Runs}
use Rattle.dg_mid.specs.Step.{Setting, more}
use Rattle.dg_mid.specs.Units.{units_of, act_work}
use Rattle.dg_turn.specs.Terms.{AreNodes}
use Rattle.dg_turn.specs.Operating.{term_value}
use Rattle.dg_turn.specs.Paid.{paid}
use Rattle.dg_turn.specs.Typing.{input_most, ending_most}
use Rattle.dg_turn.specs.TypingPaid.{InputIsPaid}
use Rattle.dg_turn.proofs.Paid.{all_few}

-- a line has no more letters than units
fewer : (n : ℕ) (units : List (Option ℕ)) → length (take n (map letter_of units)) ≤ length units
fewer zero units = omega arith
fewer (suc n) [] = omega arith
fewer (suc n) (u ∷ units) = let e = fewer n units in omega arith

few_letters : (line : List ℕ) → length (letters_of line) ≤ length (line_units line)
few_letters line = fewer 200 (line_units line)

module _ (g : Setting) (ps : List Print) (m : Mid) (a : Term) (ops : List Op) (e : m.ops ≡ op.Do (action.Input a) ∷ ops) (nodes : AreNodes g.game.program (nodes_of (a ∷ []))) where
  abbrev m' : Mid
  m' = more (cells_of g.game.program (a ∷ [])) m

  abbrev r : Registers
  r = registers_of m'

  abbrev w : World
  w = world_of ps m'

  abbrev into : Value
  into = term_value g.game.program m a

  ends_paid : ending_most g.game.program a ≤ paid g ps (Runs m)
  ends_paid =
      let k = ap (λ (l : List Op). units_of g ps l m) e in
      let c = all_few g.game.program (nodes_of (a ∷ [])) nodes in
      omega arith

  takes_paid : (byte : ℕ) (typed : List ℕ) → m.lasting.typed ≡ byte ∷ typed → input_most g.game.program a (byte ∷ typed) m ≤ paid g ps (Runs m)
  takes_paid byte typed is =
      let k = ap (λ (l : List Op). units_of g ps l m) e in
      let q = ap (λ (l : List ℕ). act_work (takes_line g.game l into r w)) is in
      let c = all_few g.game.program (nodes_of (a ∷ [])) nodes in
      let line = first_line (byte ∷ typed) in
      let few = few_letters (first_line (byte ∷ typed)) in
      let product = mul-le (length (letters_of (first_line (byte ∷ typed)))) (1 + length g.game.program.words) (length (line_units (first_line (byte ∷ typed)))) (1 + length g.game.program.words) few (omega arith) in
      omega arith

pub input_is_paid : InputIsPaid
input_is_paid = record {
  takes = λ g ps m a ops byte typed e nodes is. takes_paid g ps m a ops e nodes byte typed is;
  ends = λ g ps m a ops e nodes. ends_paid g ps m a ops e nodes;
}
