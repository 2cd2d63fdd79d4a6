-- What `make N` prints: hold it against man/dialog.1 and the README of dg_make.
use Rattle.std.specs.Prelude.{ℕ, List, ◌++◌, length, codes, decimal, count_by, nat_eq}
use Rattle.dg_base.specs.declared.run.Ending.{Ending}
use Rattle.dg_base.specs.declared.run.Ending.TheVariants.{Done, Quit, Failed, Stopped, InputEnded, StepLimit, HeapLimit, TrailLimit, AuxLimit, KeepLimit}
use Rattle.dg_base.specs.declared.run.Limits.{Limits}
use Rattle.dg_base.specs.declared.run.Outcome.{Outcome}

-- the limits of a run that has no options
abbrev pub made_limits : Limits
made_limits = record { steps = 100000000; heap = 1000000; trail = 200000; aux = 100000; keep = 10000 }

-- how many bytes a run may write
abbrev pub most_output : ℕ
most_output = 65536

-- how many lines a text has, each with a newline at its end
abbrev pub lines_in : List ℕ → ℕ
lines_in text = count_by (λ c. nat_eq c 10) text

-- the name of an ending
abbrev pub ending_name : Ending → List ℕ
ending_name Done = codes "Done"
ending_name Quit = codes "Quit"
ending_name Failed = codes "Failed"
ending_name Stopped = codes "Stopped"
ending_name InputEnded = codes "InputEnded"
ending_name StepLimit = codes "StepLimit"
ending_name HeapLimit = codes "HeapLimit"
ending_name TrailLimit = codes "TrailLimit"
ending_name AuxLimit = codes "AuxLimit"
ending_name KeepLimit = codes "KeepLimit"

-- source L lines B bytes
abbrev pub source_line : List ℕ → List ℕ
source_line source = codes "source " ++ (decimal (lines_in source) ++ (codes " lines " ++ (decimal (length source) ++ codes " bytes\n")))

-- output B bytes, the closing counted
abbrev pub output_line : List ℕ → List ℕ
output_line output = codes "output " ++ (decimal (length output) ++ codes " bytes\n")

-- goals G
abbrev pub goals_line : ℕ → List ℕ
goals_line goals = codes "goals " ++ (decimal goals ++ codes "\n")

-- ending E
abbrev pub ending_line : Ending → List ℕ
ending_line ending = codes "ending " ++ (ending_name ending ++ codes "\n")

-- the four lines on a source, and on what a run of it wrote
abbrev pub made_report : List ℕ → List ℕ → Outcome → List ℕ
made_report source output outcome =
    source_line source
    ++ (output_line output
    ++ (goals_line outcome.goals ++ ending_line outcome.ending))

-- what is printed where a run would write more than it may
abbrev pub too_long_line : List ℕ
too_long_line = codes "output too long\n"
