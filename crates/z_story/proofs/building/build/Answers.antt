use Rattle.std.proofs.Common.{sym, subst}
use Rattle.z_asm.specs.declared.image.Image.{Image}
use Rattle.z_asm.specs.Conditions.{IsImage}
use Rattle.z_story.proofs.Images.{is_image}
use Rattle.z_story.proofs.building.build.Goals as goal

pub places-requires : goal.places-requires
places-requires c = subst (λ (i : Image). IsImage i) (sym c.in_ok-image.ensures) (is_image c.bodies_open.ensures c.acts_take_bytes.ensures c.args.parts c.requires)

pub assemble-requires : goal.assemble-requires
assemble-requires c = subst (λ (i : Image). IsImage i) (sym c.in_ok-image.ensures) (is_image c.bodies_open.ensures c.acts_take_bytes.ensures c.args.parts c.requires)
