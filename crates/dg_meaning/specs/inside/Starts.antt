-- What a run shows that meets its limit before the first goal. Hold it against docs/LANGUAGE.md, "Limits".
use Rattle.std.specs.Prelude.{◌≡◌, ℕ, List}
use Rattle.dg_base.specs.declared.run.Ending.TheVariants.{KeepLimit}
use Rattle.dg_base.specs.declared.run.Outcome.{Outcome}
use Rattle.dg_meaning.specs.Transcript.{line_of}

-- The line of the limit on what is kept, with no goal taken.
pub record ShowsStart (bytes : List ℕ) (outcome : Outcome) : Type 0 where
  pub text : bytes ≡ line_of KeepLimit
  pub outcome_is : outcome ≡ record { ending = KeepLimit; goals = 0 }
