-- What a story takes of a program beside its code. The proofs alone rest on it.
use Rattle.std.specs.Prelude.{◌≡◌, [], ◌∷◌, ◌++◌}
use Rattle.dg_base.specs.declared.program.CoreProgram.{CoreProgram}
use Rattle.dg_mid.specs.declared.code.Code.{Code}
use Rattle.z_story.specs.declared.building.Parts.{Parts}
use Rattle.dg_emit.specs.Outline.{SameOutline}
use Rattle.dg_fits.specs.Laws.{parts_with}
use Rattle.dg_story.specs.declared.building.Left.{Left}
use Rattle.dg_story.specs.Built.{program_tables, sites_table, keeps_within}

-- It is that of a program.
pub record IsLeftOf (program : CoreProgram) (left : Left) : Type 0 where
  pub tables : left.tables ≡ program_tables program
  pub outline : SameOutline left.outline program
  pub keeps : left.keeps ≡ keeps_within program

-- The parts of a story that are made of it and of code.
abbrev pub parts_left : Left → Code → Parts
parts_left left code = parts_with (left.tables ++ sites_table code ∷ []) left.outline code left.keeps
