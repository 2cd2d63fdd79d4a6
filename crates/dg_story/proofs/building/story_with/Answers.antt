use Rattle.std.proofs.Common.{◌≡◌, Result, Err, sym, ap, subst, inl, inr, IfOk}
use Rattle.z_asm.specs.Assembled.{ArePlaces}
use Rattle.z_asm.specs.Story.{IsTooLarge}
use Rattle.z_story.specs.declared.building.Parts.{Parts}
use Rattle.z_story.specs.declared.building.Placed.{Placed}
use Rattle.z_story.specs.Parts.{AreParts, image_of}
use Rattle.dg_story.specs.declared.refusal.BuildFault.{BuildFault}
use Rattle.dg_story.specs.Built.{IsStoryOf, too_large}
use Rattle.dg_story.proofs.building.story_with.Goals as goal

abbrev failed : BuildFault → Result Placed BuildFault
failed fault = Err fault

abbrev unmade : BuildFault → Result Parts BuildFault
unmade fault = Err fault

same_fault : (fault : BuildFault) → failed fault ≡ failed too_large → fault ≡ too_large
same_fault fault e = cc

pub story_of-requires : goal.story_of-requires
story_of-requires c = subst AreParts (sym c.in-Ok.ensures.ok) c.requires.parts

pub returns-in-Ok-clause-ok : goal.returns-in-Ok-clause-ok
returns-in-Ok-clause-ok c = subst (λ (parts : Parts). IfOk c.story_of.result (λ placed. IsStoryOf parts placed.story.items)) c.in-Ok.ensures.ok c.story_of.ensures.ok

pub returns-in-Ok-clause-places : goal.returns-in-Ok-clause-places
returns-in-Ok-clause-places c =
    subst (λ (parts : Parts). IfOk c.story_of.result (λ placed. ArePlaces (image_of parts) placed.places.items)) c.in-Ok.ensures.ok c.story_of.ensures.places

pub returns-in-Ok-clause-large : goal.returns-in-Ok-clause-large
returns-in-Ok-clause-large c = λ e. inr (subst (λ (parts : Parts). IsTooLarge (image_of parts)) c.in-Ok.ensures.ok (c.story_of.ensures.large e))

pub returns-in-Err-clause-large : goal.returns-in-Err-clause-large
returns-in-Err-clause-large c = λ e. inl (c.in-Err.ensures.many (ap unmade (same_fault c.in-Err.fault e)))
