-- What an image has to be, to be assembled.
use Rattle.std.specs.Prelude.{ℕ, ◌<◌, ◌≤◌, List, [], ◌∷◌, length}
use Rattle.z_code.specs.Open.{Counts, HasLabel, AreOpen}
use Rattle.z_text.specs.Encode.{IsPrintable}
use Rattle.z_asm.specs.declared.image.Code.{Code}
use Rattle.z_asm.specs.declared.image.Image.{Image}
use Rattle.z_asm.specs.Layout.{code_size}

abbrev pub counts_of_image : Image → Counts
counts_of_image image = record { routines = length image.routines; tables = length image.tables; texts = length image.strings }

-- A routine has at most 15 locals, its instructions are open, and where a label stands in it, it takes at most 8,000 bytes.
pub record IsCode (counts : Counts) (code : Code) : Type 0 where
  pub few : code.locals ≤ 15
  pub short : (l : ℕ) → HasLabel l code.ops → code_size code ≤ 8000
  pub are_open : AreOpen counts code.ops code.ops

abbrev pub AreCodes : Counts → List Code → Type 0
AreCodes counts [] = Unit {0}
AreCodes counts (code ∷ codes) = IsCode counts code × AreCodes counts codes

abbrev pub ArePrintable : List (List ℕ) → Type 0
ArePrintable [] = Unit {0}
ArePrintable (text ∷ texts) = IsPrintable text × ArePrintable texts

-- An image with a routine, whose routines and texts can be written.
pub record IsImage (image : Image) : Type 0 where
  pub some : 0 < length image.routines
  pub routines : AreCodes (counts_of_image image) image.routines
  pub texts : ArePrintable image.strings
