-- What tests, comparisons, arithmetic and throws cost is paid for.
use Rattle.std.proofs.Common.{◌≡◌, ℕ, ◌+◌, ◌≤◌, List, [], ◌∷◌, Option, Some, None, refl, ap, arith}
use Rattle.dg_base.specs.declared.program.ArithOp.{ArithOp}
use Rattle.dg_base.specs.declared.program.CompareOp.{CompareOp}
use Rattle.dg_base.specs.declared.program.Term.{Term}
use Rattle.dg_base.specs.declared.program.TestKind.{TestKind}
use Rattle.dg_base.specs.declared.program.TestKind.TheVariants as test
use Rattle.dg_meaning.specs.Cells.{nodes_of, cells as cells_of}
use Rattle.dg_meaning.specs.Choosing.{die}
use Rattle.dg_meaning.specs.Moves.{looked_up, test_looks, gives_number, throws}
use Rattle.dg_meaning.specs.Numbers.{calculated, thrown}
use Rattle.dg_meaning.specs.Path.{Registers}
use Rattle.dg_meaning.specs.Values.{Value}
use Rattle.dg_meaning.specs.World.{Print, World, worked}
use Rattle.dg_mid.specs.declared.code.Action.TheVariants as action
use Rattle.dg_mid.specs.declared.code.Op.{Op}
use Rattle.dg_mid.specs.declared.code.Op.TheVariants as op
use Rattle.dg_mid.specs.Actions.{registers_of, world_of}
use Rattle.dg_mid.specs.State.{Mid, Runs}
use Rattle.dg_mid.specs.Step.{Setting, more}
use Rattle.dg_mid.specs.Units.{units_of, act_work}
use Rattle.dg_rt.specs.Conditions.{looked_at}
use Rattle.dg_turn.specs.Terms.{AreNodes}
use Rattle.dg_turn.specs.Operating.{term_value, test_most, compare_most, made_of, making_paid}
use Rattle.dg_turn.specs.Paid.{paid, OperationsArePaid}
use Rattle.dg_turn.proofs.Paid.{all_few}

looks_same : (kind : TestKind) (v : Value) (r : Registers) → test_looks kind v r ≡ looked_at kind r.bound r.next_var v
looks_same test.Number v r = refl
looks_same test.Word v r = refl
looks_same test.UnknownWord v r = refl
looks_same test.List v r = refl
looks_same test.Empty v r = refl
looks_same test.NonEmpty v r = refl
looks_same test.Bound v r = refl
looks_same test.Unbound v r = refl
looks_same test.FullyBound v r = refl

test_is_paid : (g : Setting) (ps : List Print) (m : Mid) (kind : TestKind) (a : Term) (ops : List Op) → m.ops ≡ op.Do (action.Test kind a) ∷ ops → AreNodes g.game.program (nodes_of (a ∷ [])) → test_most g.game.program kind a m ≤ paid g ps (Runs m)
test_is_paid g ps m kind a ops e nodes =
    let k = ap (λ (l : List Op). units_of g ps l m) e in
    let c = all_few g.game.program (nodes_of (a ∷ [])) nodes in
    let s = looks_same kind (term_value g.game.program m a) (registers_of (more (cells_of g.game.program (a ∷ [])) m)) in
    omega arith

compare_is_paid : (g : Setting) (ps : List Print) (m : Mid) (f : CompareOp) (a b : Term) (ops : List Op) → m.ops ≡ op.Do (action.Compare f a b) ∷ ops → AreNodes g.game.program (nodes_of (a ∷ b ∷ [])) → compare_most g.game.program a b m ≤ paid g ps (Runs m)
compare_is_paid g ps m f a b ops e nodes = let k = ap (λ (l : List Op). units_of g ps l m) e in let c = all_few g.game.program (nodes_of (a ∷ b ∷ [])) nodes in omega arith

module _ (g : Setting) (ps : List Print) (m : Mid) (a b c : Term) (ops : List Op) (nodes : AreNodes g.game.program (nodes_of (a ∷ b ∷ c ∷ []))) where
  abbrev m' : Mid
  m' = more (cells_of g.game.program (a ∷ b ∷ c ∷ [])) m

  abbrev r : Registers
  r = registers_of m'

  -- the world behind the looks
  abbrev looked : World
  looked = worked (looked_up r (term_value g.game.program m a) + looked_up r (term_value g.game.program m b)) (world_of ps m')

  abbrev into : Value
  into = term_value g.game.program m c

  arith_by : (f : ArithOp) → m.ops ≡ op.Do (action.Arith f a b c) ∷ ops → (made : Option ℕ) → made_of g.game.program (calculated f) a b m ≡ made → making_paid g.game.program a b c made m ≤ paid g ps (Runs m)
  arith_by f e None is =
      let k = ap (λ (l : List Op). units_of g ps l m) e in
      let q = ap (λ (o : Option ℕ). act_work (gives_number o into r looked)) is in
      let few = all_few g.game.program (nodes_of (a ∷ b ∷ c ∷ [])) nodes in
      omega arith
  arith_by f e (Some n) is =
      let k = ap (λ (l : List Op). units_of g ps l m) e in
      let q = ap (λ (o : Option ℕ). act_work (gives_number o into r looked)) is in
      let few = all_few g.game.program (nodes_of (a ∷ b ∷ c ∷ [])) nodes in
      omega arith

  random_by : m.ops ≡ op.Do (action.Random a b c) ∷ ops → (made : Option ℕ) → made_of g.game.program (thrown (die g.game.dice m.lasting.dice)) a b m ≡ made → making_paid g.game.program a b c made m ≤ paid g ps (Runs m)
  random_by e None is =
      let k = ap (λ (l : List Op). units_of g ps l m) e in
      let q = ap (λ (o : Option ℕ). act_work (throws o into r looked)) is in
      let few = all_few g.game.program (nodes_of (a ∷ b ∷ c ∷ [])) nodes in
      omega arith
  random_by e (Some n) is =
      let k = ap (λ (l : List Op). units_of g ps l m) e in
      let q = ap (λ (o : Option ℕ). act_work (throws o into r looked)) is in
      let few = all_few g.game.program (nodes_of (a ∷ b ∷ c ∷ [])) nodes in
      omega arith

arith_is_paid : (g : Setting) (ps : List Print) (m : Mid) (f : ArithOp) (a b c : Term) (ops : List Op) → m.ops ≡ op.Do (action.Arith f a b c) ∷ ops → AreNodes g.game.program (nodes_of (a ∷ b ∷ c ∷ [])) → making_paid g.game.program a b c (made_of g.game.program (calculated f) a b m) m ≤ paid g ps (Runs m)
arith_is_paid g ps m f a b c ops e nodes = arith_by g ps m a b c ops nodes f e (made_of g.game.program (calculated f) a b m) refl

random_is_paid : (g : Setting) (ps : List Print) (m : Mid) (a b c : Term) (ops : List Op) → m.ops ≡ op.Do (action.Random a b c) ∷ ops → AreNodes g.game.program (nodes_of (a ∷ b ∷ c ∷ [])) → making_paid g.game.program a b c (made_of g.game.program (thrown (die g.game.dice m.lasting.dice)) a b m) m ≤ paid g ps (Runs m)
random_is_paid g ps m a b c ops e nodes = random_by g ps m a b c ops nodes e (made_of g.game.program (thrown (die g.game.dice m.lasting.dice)) a b m) refl

pub operations_are_paid : OperationsArePaid
operations_are_paid = record {
  test = λ g ps m kind a ops e nodes. test_is_paid g ps m kind a ops e nodes;
  compare = λ g ps m f a b ops e nodes. compare_is_paid g ps m f a b ops e nodes;
  arith = λ g ps m f a b c ops e nodes. arith_is_paid g ps m f a b c ops e nodes;
  random = λ g ps m a b c ops e nodes. random_is_paid g ps m a b c ops e nodes;
}
