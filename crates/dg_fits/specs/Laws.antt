-- That a program which isn't refused for its size has a story. Hold it against docs/REFUSALS.md, "Of a build", and z_story/specs/Parts.antt.
use Rattle.std.specs.Prelude.{ℕ, ◌+◌, ◌*◌, ◌≤◌, List, [], length, Bool, true, false}
use Rattle.dg_base.specs.declared.program.CoreProgram.{CoreProgram}
use Rattle.dg_base.specs.Sound.{IsSound, all_goals}
use Rattle.dg_meaning.specs.Few.{HeadsAreFew, AllHoldFew}
use Rattle.dg_mid.specs.declared.code.Code.{Code}
use Rattle.dg_mid.specs.Code.{rules_at}
use Rattle.dg_mid.specs.Codes.{Codes}
use Rattle.dg_mid.specs.Weights.{Weights, IsLight}
use Rattle.z_asm.specs.declared.image.Table.{Table}
use Rattle.z_asm.specs.Layout.{table_bytes}
use Rattle.z_asm.specs.Story as image
use Rattle.z_story.specs.declared.building.Parts.{Parts}
use Rattle.z_story.specs.Parts.{image_of, AreParts}
use Rattle.dg_turn.specs.Rules.{keyed}
use Rattle.dg_turn.specs.Sites.{sites_of}
use Rattle.dg_emit.specs.Numbers.{numbers_end}
use Rattle.dg_emit.specs.Code.{CodeFits}
use Rattle.dg_emit.specs.Story.{first_number, story_routines}
use Rattle.dg_fits.specs.Once.{StandOnce}
use Rattle.dg_fits.specs.Sizes.{world_size, words_size, selects, story_size}

-- A sound program that isn't refused for its size, in which each closure stands in one term at most, whose goals and heads hold at most 12 terms each, and
-- code that stands for it and takes no more room than its goals have, whatever the parts of code weigh.
pub record IsSized (program : CoreProgram) (code : Code) : Type 0 where
  pub sound : IsSound program
  pub once : StandOnce program
  pub world : world_size program ≤ 8000
  pub words : words_size program.words ≤ 20000
  pub size : story_size program ≤ 440000
  pub heads : HeadsAreFew 12 program
  pub goals : AllHoldFew 12 program
  pub codes : Codes program code
  pub light : (w : Weights) → IsLight w program code

-- The parts of the story of some code, with these tables: what starts keep is within its limit, or its run ends at once.
abbrev pub parts_with : List Table → CoreProgram → Code → (keeps : Bool) → Parts
parts_with tables program code keeps = record { tables = tables; strings = []; routines = story_routines program code keeps }

-- ## Sizes

-- What may be written is the areas of every story, the world, and a word for each select; what isn't is a byte for each closure, and the words.
pub record AreShort (program : CoreProgram) (tables : List Table) : Type 0 where
  pub written : length (table_bytes true tables) ≤ 31284 + 8002 + 2 * selects (all_goals program)
  pub told : length (table_bytes false tables) ≤ length program.closures + 20002

-- Such tables leave the readable part within its limit. Its story isn't too large where they do, and no number of a routine passes 65,535.
pub record StoryFits (program : CoreProgram) (code : Code) : Type 0 where
  pub near : (tables : List Table) (keeps : Bool) → AreShort program tables → image.front_of (image_of (parts_with tables program code keeps)) ≤ 65536
  pub small : (tables : List Table) (keeps : Bool) → let parts = image_of (parts_with tables program code keeps) in
      image.front_of parts ≤ 65536 → image.IsTooLarge parts → ⊥
  pub numbered : numbers_end first_number code ≤ 65535

abbrev pub StoriesFit : Type 0
StoriesFit = (program : CoreProgram) (code : Code) → IsSized program code → StoryFits program code

-- ## Numbers

-- Its code fits, no predicate has more than 2,200 rules that have a key, and no more selects choose a branch than the program has.
pub record CodeSuits (program : CoreProgram) (code : Code) : Type 0 where
  pub fits : CodeFits program code
  pub keyed_few : (pred : ℕ) → keyed (rules_at code pred) ≤ 2200
  pub sites_few : length (sites_of code.blocks) ≤ selects (all_goals program)

abbrev pub CodesSuit : Type 0
CodesSuit = (program : CoreProgram) (code : Code) → IsSized program code → CodeSuits program code

-- ## Routines

-- Its parts can be assembled, where there are two tables.
abbrev pub RoutinesFit : Type 0
RoutinesFit = (program : CoreProgram) (code : Code) → IsSized program code → (keeps : Bool) (tables : List Table) → 2 ≤ length tables →
    AreParts (parts_with tables program code keeps)
