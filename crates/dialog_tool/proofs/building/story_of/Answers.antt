use Rattle.std.proofs.Common.{Result, Err, ap, ◌∙◌}
use Rattle.dg_story.specs.declared.building.Built.{Built}
use Rattle.dg_story.specs.declared.refusal.BuildFault.{BuildFault}
use Rattle.dialog_tool.specs.inside.Building.{none, no_room}
use Rattle.dialog_tool.proofs.building.story_of.Goals as goal

abbrev failed : BuildFault → Result Built BuildFault
failed fault = Err fault

pub returns-in-Ok-clause-story : goal.returns-in-Ok-clause-story
returns-in-Ok-clause-story g c =
    let fits = rw c.in-Ok.is at c.build_story.ensures.fits in
    record { fits = fits; taken = c.in-Ok.ensures.built.story.assembled.header.accepted; agrees = c.in-Ok.ensures.agrees }

pub returns-in-Ok-clause-built : goal.returns-in-Ok-clause-built
returns-in-Ok-clause-built g c = c.in-Ok.ensures.built

pub returns-in-Err-Refused-clause-none : goal.returns-in-Err-Refused-clause-none
returns-in-Err-Refused-clause-none g c =
    let refused = c.build_story.ensures.refused c.in-Err-Refused.refusal (c.in-Err-Refused.is ∙ ap failed c.in-Err-Refused.field-0-is) in
    none c.in-Err-Refused.refusal refused c.refuse_build.ensures
