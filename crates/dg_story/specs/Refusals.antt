-- Why a program has no story. Hold it against docs/REFUSALS.md, "Of a build".
use Rattle.std.specs.Prelude.{Option, Some, None, nat_lt, if◌then◌else◌}
use Rattle.dg_base.specs.declared.program.CoreProgram.{CoreProgram}
use Rattle.dg_fits.specs.Sizes.{world_size, words_size, story_size}
use Rattle.dg_story.specs.declared.refusal.BuildRefusal.{BuildRefusal}
use Rattle.dg_story.specs.declared.refusal.BuildRefusal.TheVariants.{WorldTooLarge, WordsTooLarge, StoryTooLarge}

-- The first of these that holds: the world, the words or the whole are too large.
abbrev pub build_refusal : CoreProgram → Option BuildRefusal
build_refusal program =
    if nat_lt 8000 (world_size program) then Some WorldTooLarge
    else (if nat_lt 20000 (words_size program.words) then Some WordsTooLarge
    else (if nat_lt 440000 (story_size program) then Some StoryTooLarge
    else None))
