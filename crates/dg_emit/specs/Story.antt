-- All routines of a story. Hold it against dg_turn/specs/Plays.antt, dg_turn/specs/Lies.antt, and docs/STORIES.md, where it says with which line a story
-- ends.
use Rattle.std.specs.Prelude.{ℕ, ◌+◌, List, ◌∷◌, ◌++◌, length, Bool}
use Rattle.dg_base.specs.declared.program.CoreProgram.{CoreProgram}
use Rattle.dg_mid.specs.declared.code.Code.{Code}
use Rattle.z_lang.specs.declared.act.Routine.{Routine}
use Rattle.dg_rt.specs.RunTime.{routine_of, runtime}
use Rattle.dg_rt.specs.Start.{start_acts}
use Rattle.dg_emit.specs.Numbers.{numbers_from, block_number}
use Rattle.dg_emit.specs.Code.{code_routines}

-- The number of the first routine of code: behind the one that begins and the run-time.
abbrev pub first_number : ℕ
first_number = 1 + length runtime

-- The routines of the story of some code, in the order of their numbers. Block 1 asks the entry.
abbrev pub story_routines : CoreProgram → Code → (keeps : Bool) → List Routine
story_routines program code keeps =
    routine_of 0 (start_acts keeps (block_number (numbers_from first_number code) 1)) ∷ (runtime ++ code_routines program first_number code)
