-- What splitting and joining words costs is paid for.
use Rattle.std.proofs.Common.{◌≡◌, ℕ, ◌+◌, ◌*◌, ◌≤◌, List, [], ◌∷◌, length, Option, Some, None, ap, arith, length-append}
use Rattle.dg_base.specs.declared.program.CoreProgram.{CoreProgram}
use Rattle.dg_base.specs.declared.program.Term.{Term, Pair'}
use Rattle.dg_base.specs.Terms.{nodes}
use Rattle.dg_meaning.specs.Cells.{nodes_of, cells as cells_of}
use Rattle.dg_meaning.specs.Moves.{splits, joins, looked_up, whole_looks}
use Rattle.dg_meaning.specs.Path.{Registers, Act}
use Rattle.dg_meaning.specs.Unify.{looks}
use Rattle.dg_meaning.specs.Values.{Value}
use Rattle.dg_meaning.specs.Words.{spelled_value}
use Rattle.dg_meaning.specs.World.{Print, worked}
use Rattle.dg_mid.specs.declared.code.Action.TheVariants as action
use Rattle.dg_mid.specs.declared.code.Op.{Op}
use Rattle.dg_mid.specs.declared.code.Op.TheVariants as op
use Rattle.dg_mid.specs.Actions.{registers_of, world_of}
use Rattle.dg_mid.specs.State.{Mid, Runs}
use Rattle.dg_mid.specs.Step.{Setting, more}
use Rattle.dg_mid.specs.Units.{units_of, act_work}
use Rattle.dg_turn.specs.Terms.{AreNodes}
use Rattle.dg_turn.specs.Operating.{term_value, term_links}
use Rattle.dg_turn.specs.Paid.{paid}
use Rattle.dg_turn.specs.Wording.{spelled_by, making, split_letters, apart, split_most, join_letters, join_most, word_paid}
use Rattle.dg_turn.specs.WordingPaid.{WordsArePaid}
use Rattle.dg_turn.proofs.Paid.{all_few}

-- a term is a node at least
some_nodes : (x : Term) → 1 ≤ length (nodes x)
some_nodes (Pair' s head t tail) = omega arith
some_nodes other = omega arith

terms_some : (a b : Term) → 1 ≤ length (nodes_of (a ∷ b ∷ []))
terms_some a b = let first = some_nodes a in let both = length-append (nodes a) (nodes_of (b ∷ [])) in omega arith

module _ (g : Setting) (ps : List Print) (m : Mid) (a b : Term) (are : AreNodes g.game.program (nodes_of (a ∷ b ∷ []))) where
  abbrev p : CoreProgram
  p = g.game.program

  abbrev m' : Mid
  m' = more (cells_of p (a ∷ b ∷ [])) m

  abbrev r : Registers
  r = registers_of m'

  abbrev into : Value
  into = term_value p m b

  abbrev va : Value
  va = term_value p m a

  -- what a goal with these terms is paid for an act
  abbrev given : Act → ℕ
  given act = 800 * (1 + (length (nodes_of (a ∷ b ∷ [])) + act_work act))

  split_by : (letters : Option (List ℕ)) → word_paid p a b (spelled_by (apart p) letters) (making p.words (apart p) (5 * term_links p m a + 40) letters) m ≤ given (splits g.game letters into r (worked (looked_up r va) (world_of ps m')))
  split_by None = let c = all_few p (nodes_of (a ∷ b ∷ [])) are in omega arith
  split_by (Some l) = let c = all_few p (nodes_of (a ∷ b ∷ [])) are in omega arith

  join_by : (letters : Option (List ℕ)) → word_paid p a b (spelled_by (spelled_value p.words) letters) (making p.words (spelled_value p.words) (800 * looks m.state.subst m.state.vars va + 900) letters) m ≤ given (joins g.game letters into r (worked (whole_looks r va) (world_of ps m')))
  join_by None = let c = all_few p (nodes_of (a ∷ b ∷ [])) are in let some = terms_some a b in omega arith
  join_by (Some l) = let c = all_few p (nodes_of (a ∷ b ∷ [])) are in let some = terms_some a b in omega arith

  module _ (ops : List Op) where
    split_paid : m.ops ≡ op.Do (action.SplitWord a b) ∷ ops → word_paid p a b (spelled_by (apart p) (split_letters p a m)) (split_most p a m) m ≤ paid g ps (Runs m)
    split_paid e = let k = ap (λ (l : List Op). units_of g ps l m) e in let few = split_by (split_letters p a m) in omega arith

    join_paid : m.ops ≡ op.Do (action.JoinWords a b) ∷ ops → word_paid p a b (spelled_by (spelled_value p.words) (join_letters p a m)) (join_most p a m) m ≤ paid g ps (Runs m)
    join_paid e = let k = ap (λ (l : List Op). units_of g ps l m) e in let few = join_by (join_letters p a m) in omega arith

pub words_are_paid : WordsArePaid
words_are_paid = record {
  split = λ g ps m a b ops e are. split_paid g ps m a b are ops e;
  join = λ g ps m a b ops e are. join_paid g ps m a b are ops e;
}
