-- What is left of lines without their calls, as the text of a run.
use Rattle.std.specs.Prelude.{ℕ, List, Option}
use Rattle.dg_base.specs.Sound.{IsSound}
use Rattle.dg_base.specs.declared.run.Limits.{Limits}
use Rattle.dg_base.specs.declared.run.Outcome.{Outcome}
use Rattle.dg_meaning.specs.Shows.{ShowsBy, ShowsInputFaultBy, ShowsNoMemoryBy, Shows, ShowsInputFault, ShowsNoMemory}
use Rattle.dg_meaning.specs.Trace.{erased}
use Rattle.dg_meaning.specs.World.{Game}
use Rattle.dg_trace.specs.Traced.{traced}

-- Lines that show a run show it as a text without their calls, with the same ending, the same goals and the same bytes left.
abbrev pub ErasesToText : Type 0
ErasesToText = (g : Game) (typed : List ℕ) (limits : Limits) (lines : List ℕ) (outcome : Outcome) (left : Option (List ℕ)) → IsSound g.program →
    ShowsBy (traced g) g typed limits lines outcome left → Shows g typed limits (erased lines) outcome left

-- The same where the input failed.
abbrev pub ErasesWithoutInput : Type 0
ErasesWithoutInput = (g : Game) (typed : List ℕ) (limits : Limits) (lines : List ℕ) (left : Option (List ℕ)) → IsSound g.program →
    ShowsInputFaultBy (traced g) g typed limits lines left → ShowsInputFault g typed limits (erased lines) left

-- The same where memory ran out.
abbrev pub ErasesWithoutMemory : Type 0
ErasesWithoutMemory = (g : Game) (typed : List ℕ) (limits : Limits) (lines : List ℕ) (left : Option (List ℕ)) → IsSound g.program →
    ShowsNoMemoryBy (traced g) g typed limits lines left → ShowsNoMemory g typed limits (erased lines) left
