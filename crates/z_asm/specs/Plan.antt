-- A plan of a story: where everything of its image stands.
use Rattle.std.specs.Prelude.{◌≡◌, ℕ, ◌≤◌, List, map}
use Rattle.z_asm.specs.declared.image.Image.{Image}
use Rattle.z_asm.specs.declared.layout.Plan.{Plan}
use Rattle.z_asm.specs.Layout.{stand_from, end_from, packed_address}
use Rattle.z_asm.specs.Story.{image_base, dictionary_of, front_of, routines_from, image_end, addresses_of}

-- Parts of these sizes have these packed addresses from a place on, and end there, not too far.
pub record ArePlaced (start : ℕ) (sizes places : List ℕ) (end : ℕ) : Type 0 where
  pub places_are : places ≡ map packed_address (stand_from start sizes)
  pub end_is : end ≡ end_from start sizes
  pub near : end ≤ 524280

-- The plan of an image that isn't too large.
pub record IsPlan (image : Image) (p : Plan) : Type 0 where
  pub addresses_are : p.addresses ≡ addresses_of image
  pub base_is : p.base ≡ image_base image
  pub dictionary_is : p.dictionary ≡ dictionary_of image
  pub routines_are : p.routines_from ≡ routines_from image
  pub end_is : p.end ≡ image_end image
  pub readable : front_of image ≤ 65536
  pub near : image_end image ≤ 524280
