use Rattle.std.proofs.Common.{rules}
use Rattle.z_model.proofs.story.has_bad_map.Goals as goal

pub returns-then-start-lt64 : goal.returns-then-start-lt64
returns-then-start-lt64 c = search rules

pub returns-else-start-lt64 : goal.returns-else-start-lt64
returns-else-start-lt64 c = search rules
