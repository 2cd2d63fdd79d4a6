-- What a program is for an engine: its code and its tables. Hold it against the README.
use Rattle.std.specs.Prelude.{◌≡◌, map}
use Rattle.dg_base.specs.declared.program.ClosureBody.{ClosureBody}
use Rattle.dg_base.specs.declared.program.CoreProgram.{CoreProgram}
use Rattle.dg_mid.specs.declared.code.MidProgram.{MidProgram}
use Rattle.dg_mid.specs.Codes.{Codes}
use Rattle.dg_mid.specs.Potential.{Tidy}
use Rattle.dg_mid.specs.Seeking.{BlocksLeave}
use Rattle.dg_mid.specs.Weights.{IsLight, Weights}

-- The code stands for a program, is tidy, leaves an inner construct first where one object is wanted, and takes no more room than the program has for
-- it; and the tables are those of the program.
pub record IsMidOf (program : CoreProgram) (mid : MidProgram) : Type 0 where
  pub codes : Codes program mid.code
  pub tidy : Tidy mid.code
  pub leave : BlocksLeave mid.code
  pub light : (w : Weights) → IsLight w program mid.code
  pub places : mid.places ≡ program.places
  pub objects : mid.objects ≡ program.objects
  pub words : mid.words ≡ program.words
  pub captured : mid.captured ≡ map (λ (closure : ClosureBody). closure.captured) program.closures
  pub sites : mid.sites ≡ program.sites
  pub entry : mid.entry ≡ program.entry
