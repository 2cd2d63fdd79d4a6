-- What typed input costs is paid for: the letters of a line are, for each word of the program. Hold it against dg_mid/specs/Units.antt.
use Rattle.std.specs.Prelude.{◌≡◌, ℕ, ◌≤◌, List, [], ◌∷◌}
use Rattle.dg_base.specs.declared.program.Term.{Term}
use Rattle.dg_meaning.specs.Cells.{nodes_of}
use Rattle.dg_meaning.specs.World.{Print}
use Rattle.dg_mid.specs.declared.code.Action.TheVariants as action
use Rattle.dg_mid.specs.declared.code.Op.{Op}
use Rattle.dg_mid.specs.declared.code.Op.TheVariants as op
use Rattle.dg_mid.specs.State.{Mid, Runs}
use Rattle.dg_mid.specs.Step.{Setting}
use Rattle.dg_turn.specs.Terms.{AreNodes}
use Rattle.dg_turn.specs.Typing.{input_most, ending_most}
use Rattle.dg_turn.specs.Paid.{paid}

-- So it is where a line is taken, and where the input has ended.
pub record InputIsPaid : Type 0 where
  pub takes : (g : Setting) (ps : List Print) (m : Mid) (a : Term) (ops : List Op) (byte : ℕ) (typed : List ℕ) →
      m.ops ≡ op.Do (action.Input a) ∷ ops → AreNodes g.game.program (nodes_of (a ∷ [])) → m.lasting.typed ≡ byte ∷ typed →
      input_most g.game.program a (byte ∷ typed) m ≤ paid g ps (Runs m)
  pub ends : (g : Setting) (ps : List Print) (m : Mid) (a : Term) (ops : List Op) → m.ops ≡ op.Do (action.Input a) ∷ ops →
      AreNodes g.game.program (nodes_of (a ∷ [])) → ending_most g.game.program a ≤ paid g ps (Runs m)
