-- What the trace of a run promises, for a source and a sink: what an engine promises of its text, in lines. Hold it against the Dialog manual on debugging.
use Rattle.std.specs.Prelude.{ℕ, List, Option}
use Rattle.dg_base.specs.declared.run.Limits.{Limits}
use Rattle.dg_base.specs.declared.run.Outcome.{Outcome}
use Rattle.dg_base.specs.declared.run.RunFault.{RunFault}
use Rattle.dg_base.specs.declared.run.RunFault.TheVariants.{Read, Write, OutOfMemory}
use Rattle.dg_base.specs.Streams.{SourceView}
use Rattle.dg_base.specs.Written.{SinkView, Wrote, BrokeOff}
use Rattle.dg_meaning.specs.Engines.{left_told}
use Rattle.dg_meaning.specs.Shows.{Form, ShowsBy, ShowsInputFaultBy, ShowsNoMemoryBy, MayWriteBy}
use Rattle.dg_meaning.specs.Trace.{names_of, as_lines}
use Rattle.dg_meaning.specs.World.{Game}

-- The form of a game's trace: lines, with the names of its predicates.
abbrev pub traced : Game → Form
traced g = as_lines (names_of g.program)

-- The sink took lines that show the game with this outcome.
pub record HasTraced (g : Game) (typed : List ℕ) (limits : Limits) (outcome : Outcome) (left : Option (List ℕ)) (old new : SinkView) : Type 0 where
  pub lines : List ℕ
  pub shows : ShowsBy (traced g) g typed limits lines outcome left
  pub wrote : Wrote old new lines

-- The input failed, and the sink took the lines up to there with those of the closing.
pub record HasTracedInput (g : Game) (typed : List ℕ) (limits : Limits) (left : Option (List ℕ)) (old new : SinkView) : Type 0 where
  pub lines : List ℕ
  pub shows : ShowsInputFaultBy (traced g) g typed limits lines left
  pub wrote : Wrote old new lines

-- Memory ran out, and the sink took the lines up to there with those of the closing.
pub record HasTracedMemory (g : Game) (typed : List ℕ) (limits : Limits) (left : Option (List ℕ)) (old new : SinkView) : Type 0 where
  pub lines : List ℕ
  pub shows : ShowsNoMemoryBy (traced g) g typed limits lines left
  pub wrote : Wrote old new lines

-- The sink failed within lines that may be written: its count rose, it took a front of them, and they are longer than a room that it told.
pub record HasTracedPart (g : Game) (typed : List ℕ) (limits : Limits) (left : Option (List ℕ)) (old new : SinkView) : Type 0 where
  pub lines : List ℕ
  pub may_write : MayWriteBy (traced g) g typed limits lines left
  pub broke : BrokeOff old new lines

-- What stands after each fault, of a source and a sink.
abbrev pub HasTracedFault : RunFault → Game → List ℕ → Limits → SourceView → SourceView → SinkView → SinkView → Type 0
HasTracedFault Read g typed limits i i' old new = HasTracedInput g typed limits i'.left old new
HasTracedFault Write g typed limits i i' old new = HasTracedPart g typed limits (left_told i i') old new
HasTracedFault OutOfMemory g typed limits i i' old new = HasTracedMemory g typed limits i'.left old new
