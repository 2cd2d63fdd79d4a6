-- What splitting and joining words costs is paid for: the letters are, for each word of the program, and what is looked at. Hold it against
-- dg_mid/specs/Units.antt.
use Rattle.std.specs.Prelude.{◌≡◌, ◌≤◌, List, [], ◌∷◌}
use Rattle.dg_base.specs.declared.program.Term.{Term}
use Rattle.dg_meaning.specs.Cells.{nodes_of}
use Rattle.dg_meaning.specs.Words.{spelled_value}
use Rattle.dg_meaning.specs.World.{Print}
use Rattle.dg_mid.specs.declared.code.Action.TheVariants as action
use Rattle.dg_mid.specs.declared.code.Op.{Op}
use Rattle.dg_mid.specs.declared.code.Op.TheVariants as op
use Rattle.dg_mid.specs.State.{Mid, Runs}
use Rattle.dg_mid.specs.Step.{Setting}
use Rattle.dg_turn.specs.Terms.{AreNodes}
use Rattle.dg_turn.specs.Wording.{spelled_by, split_letters, apart, split_most, join_letters, join_most, word_paid}
use Rattle.dg_turn.specs.Paid.{paid}

-- So it is with both.
pub record WordsArePaid : Type 0 where
  pub split : (g : Setting) (ps : List Print) (m : Mid) (a b : Term) (ops : List Op) → m.ops ≡ op.Do (action.SplitWord a b) ∷ ops →
      AreNodes g.game.program (nodes_of (a ∷ b ∷ [])) →
      word_paid g.game.program a b (spelled_by (apart g.game.program) (split_letters g.game.program a m)) (split_most g.game.program a m) m
      ≤ paid g ps (Runs m)
  pub join : (g : Setting) (ps : List Print) (m : Mid) (a b : Term) (ops : List Op) → m.ops ≡ op.Do (action.JoinWords a b) ∷ ops →
      AreNodes g.game.program (nodes_of (a ∷ b ∷ [])) →
      word_paid g.game.program a b (spelled_by (spelled_value g.game.program.words) (join_letters g.game.program a m)) (join_most g.game.program a m) m
      ≤ paid g ps (Runs m)
