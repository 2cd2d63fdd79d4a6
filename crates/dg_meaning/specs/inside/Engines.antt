-- What an engine promises, for the typed bytes that a source tells or for some, and after each fault. Hold it against the Dialog manual, chapters "Output"
-- and "Beyond the program".
use Rattle.std.specs.Prelude.{ℕ, List, Option, Some, None}
use Rattle.dg_base.specs.declared.run.Limits.{Limits}
use Rattle.dg_base.specs.declared.run.RunFault.{RunFault}
use Rattle.dg_base.specs.declared.run.RunFault.TheVariants.{Read, Write, OutOfMemory}
use Rattle.dg_meaning.specs.World.{Game}
use Rattle.dg_meaning.specs.Shows.{ShowsNoMemory}
use Rattle.dg_base.specs.Streams.{SourceView}
use Rattle.dg_base.specs.Written.{SinkView, Wrote}
use Rattle.dg_meaning.specs.Engines.{left_told, HasLostInput, HasLostOutput}

-- This holds for the typed bytes that a source tells, or for some where it doesn't tell them.
abbrev pub ForTyped : Option (List ℕ) → (List ℕ → Type 0) → Type 0
ForTyped None P = (typed : List ℕ) × P typed
ForTyped (Some typed) P = P typed

-- Memory ran out, and the sink took the text up to there with its closing.
pub record HasLostMemory (g : Game) (typed : List ℕ) (limits : Limits) (left : Option (List ℕ)) (old new : SinkView) : Type 0 where
  pub bytes : List ℕ
  pub shows : ShowsNoMemory g typed limits bytes left
  pub wrote : Wrote old new bytes

-- What stands after each fault, of a source and a sink.
abbrev pub HasBrokenOff : RunFault → Game → List ℕ → Limits → SourceView → SourceView → SinkView → SinkView → Type 0
HasBrokenOff Read g typed limits i i' old new = HasLostInput g typed limits i'.left old new
HasBrokenOff Write g typed limits i i' old new = HasLostOutput g typed limits (left_told i i') old new
HasBrokenOff OutOfMemory g typed limits i i' old new = HasLostMemory g typed limits i'.left old new
