-- What comes of the search for a question, by tests. Hold it against dg_meaning/specs/Initial.antt, which says the same as facts.
use Rattle.std.specs.Prelude.{◌||◌, Option, Some, None, Bool, true, false, nat_lt, if◌then◌else◌}
use Rattle.dg_base.specs.declared.program.CoreProgram.{CoreProgram as Core}
use Rattle.dg_base.specs.declared.run.Ending.{Ending}
use Rattle.dg_base.specs.declared.run.Ending.TheVariants.{Done as Done-Ending, StepLimit}
use Rattle.dg_meaning.specs.Values.{Value}
use Rattle.dg_meaning.specs.Transcript.{Run}
use Rattle.dg_meaning.specs.Initial.{Question, first_run, value_put, Initial, TooLong, Unset, IsSet, HasValue, Other}

-- A run has ended at its budget.
abbrev pub is_at_budget : Ending → Bool
is_at_budget StepLimit = true
is_at_budget ending = false

-- A run is done.
abbrev pub is_done : Ending → Bool
is_done Done-Ending = true
is_done ending = false

-- A search takes too long that ends at its budget, or counts more than a million on the heap.
abbrev pub is_too_long : Run → Bool
is_too_long r = is_at_budget r.ending || nat_lt 1000000 r.world.meters.heap

-- A variable has the value that was put.
abbrev pub value_or_other : Option Value → Initial
value_or_other None = Other
value_or_other (Some v) = HasValue v

-- What comes of a search that has an answer: a flag is set, or a variable has a value.
abbrev pub answered : Core → Question → Initial
answered program q = if q.value then value_or_other (value_put program q q.object) else IsSet

-- What comes of a search that has ended so.
abbrev pub outcome_by : Core → Question → Run → Initial
outcome_by program q r = if is_too_long r then TooLong else (if is_done r.ending then answered program q else Unset)

-- What comes of the search for a question.
unfoldable pub outcome_of : Core → Question → Initial
outcome_of program q = outcome_by program q (first_run program q)
