use Rattle.std.proofs.Common.{rules}
use Rattle.z_model.specs.Story.{story_refusal}
use Rattle.z_model.proofs.story.read_header.Goals as goal

pub returns-then-file-gt524288-clause-refused : goal.returns-then-file-gt524288-clause-refused
unfolding story_refusal
returns-then-file-gt524288-clause-refused c = search rules

pub returns-then-file-lt64-clause-refused : goal.returns-then-file-lt64-clause-refused
unfolding story_refusal
returns-then-file-lt64-clause-refused c = search rules

pub returns-then-file-ne8-clause-refused : goal.returns-then-file-ne8-clause-refused
unfolding story_refusal
returns-then-file-ne8-clause-refused c = search rules

pub returns-then-size-lt64-clause-refused : goal.returns-then-size-lt64-clause-refused
unfolding story_refusal
returns-then-size-lt64-clause-refused c = search rules

pub returns-then-has_bad_map-clause-refused : goal.returns-then-has_bad_map-clause-refused
unfolding story_refusal
returns-then-has_bad_map-clause-refused c = search rules

pub header_of-requires-clause-within : goal.header_of-requires-clause-within
unfolding story_refusal
header_of-requires-clause-within c = search rules

pub returns-clause-header : goal.returns-clause-header
unfolding story_refusal
returns-clause-header c = search rules
