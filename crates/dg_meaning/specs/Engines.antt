-- What an engine promises that runs a program. Hold it against the Dialog manual, chapters "Output" and "Beyond the program".
use Rattle.std.specs.Prelude.{ℕ, List, Option, Some, None}
use Rattle.dg_base.specs.declared.program.CoreProgram.{CoreProgram}
use Rattle.dg_base.specs.declared.run.Limits.{Limits}
use Rattle.dg_base.specs.declared.run.Outcome.{Outcome}
use Rattle.dg_meaning.specs.World.{Game}
use Rattle.dg_meaning.specs.Shows.{Shows, ShowsInputFault, MayWrite}
use Rattle.dg_base.specs.Streams.{SourceView}
use Rattle.dg_base.specs.Written.{SinkView, Wrote, BrokeOff}

-- The program with the dice words.
abbrev pub game : CoreProgram → List ℕ → Game
game program dice = record { program = program; dice = dice }

-- What a source has left, where it told what it had left before.
abbrev pub told_behind : Option (List ℕ) → Option (List ℕ) → Option (List ℕ)
told_behind None left = None
told_behind (Some typed) left = left

abbrev pub left_told : SourceView → SourceView → Option (List ℕ)
left_told old new = told_behind old.left new.left

-- The sink took a text that shows the game with this outcome.
pub record HasShown (g : Game) (typed : List ℕ) (limits : Limits) (outcome : Outcome) (left : Option (List ℕ)) (old new : SinkView) : Type 0 where
  pub bytes : List ℕ
  pub shows : Shows g typed limits bytes outcome left
  pub wrote : Wrote old new bytes

-- The input failed, and the sink took the text up to there with its closing.
pub record HasLostInput (g : Game) (typed : List ℕ) (limits : Limits) (left : Option (List ℕ)) (old new : SinkView) : Type 0 where
  pub bytes : List ℕ
  pub shows : ShowsInputFault g typed limits bytes left
  pub wrote : Wrote old new bytes

-- The sink failed within a text that may be written: its count rose, it took a front of that text, and the text is longer than a room that it told.
pub record HasLostOutput (g : Game) (typed : List ℕ) (limits : Limits) (left : Option (List ℕ)) (old new : SinkView) : Type 0 where
  pub bytes : List ℕ
  pub may_write : MayWrite g typed limits bytes left
  pub broke : BrokeOff old new bytes
