-- What an assembled story has: each table, string and routine at its address, a header, and first instructions.
use Rattle.std.specs.Prelude.{◌≡◌, ℕ, ◌+◌, ◌*◌, ◌<◌, ◌≤◌, List, [], ◌∷◌, length, Some, None, true, false, slice_get}
use Rattle.z_model.specs.Spelling.{BytesAt}
use Rattle.z_model.specs.Story.{story_refusal, first_address, globals_of, static_base as story_base, length_of, layout_of}
use Rattle.z_code.specs.Targets.{label_from, OpsAt}
use Rattle.z_text.specs.Encode.{string_of, IsTextOf}
use Rattle.z_asm.specs.declared.image.Code.{Code}
use Rattle.z_asm.specs.declared.image.Table.{Table}
use Rattle.z_asm.specs.declared.image.Image.{Image}
use Rattle.z_asm.specs.Header.{globals}
use Rattle.z_asm.specs.Layout.{code_size}
use Rattle.z_asm.specs.Story.{image_base, code_start, front_of, image_names, first_ops, story_of}

-- A table's bytes stand at its address: before the static base where it is writable, and from there on where it isn't.
pub record HasTable (image : Image) (story : List ℕ) (k : ℕ) (t : Table) : Type 0 where
  pub stands : BytesAt story ((image_names image).table k) t.bytes
  pub writable : t.writable ≡ true → (image_names image).table k + length t.bytes ≤ image_base image
  pub fixed : t.writable ≡ false → image_base image ≤ (image_names image).table k

-- A string of the text stands at its packed address.
pub record HasText (image : Image) (story : List ℕ) (k : ℕ) (text : List ℕ) : Type 0 where
  pub stands : (codes : List ℕ) → IsTextOf codes text → BytesAt story (8 * (image_names image).text k) (string_of codes)
  pub behind : front_of image ≤ 8 * (image_names image).text k

-- A routine stands at its packed address: the number of its locals, and its instructions with their names filled in.
pub record HasCode (image : Image) (story : List ℕ) (k : ℕ) (code : Code) : Type 0 where
  pub count : slice_get story (8 * (image_names image).routine k) ≡ Some code.locals
  pub ops : let at = 8 * (image_names image).routine k + 1 in OpsAt story (image_names image) (label_from at code.ops) at code.ops
  pub behind : front_of image ≤ 8 * (image_names image).routine k

-- The player takes the story, and begins at the first instructions.
pub record HasHeader (image : Image) (story : List ℕ) : Type 0 where
  pub accepted : story_refusal story ≡ None
  pub right : (layout_of story).checksum_right ≡ true
  pub globals_is : globals_of story ≡ globals
  pub base : story_base story ≡ image_base image
  pub start : first_address story ≡ code_start image
  pub length : length_of story ≡ length story

pub record IsAssembled (image : Image) (story : List ℕ) : Type 0 where
  pub header : HasHeader image story
  pub first : OpsAt story (image_names image) (label_from (code_start image) first_ops) (code_start image) first_ops
  pub tables : (k : ℕ) (t : Table) → slice_get image.tables k ≡ Some t → HasTable image story k t
  pub texts : (k : ℕ) (text : List ℕ) → slice_get image.strings k ≡ Some text → HasText image story k text
  pub routines : (k : ℕ) (code : Code) → slice_get image.routines k ≡ Some code → HasCode image story k code

-- Stretches in order from a place on, none empty, apart, and within the end.
abbrev pub AreApart : ℕ → ℕ → List (ℕ × ℕ) → Type 0
AreApart at end [] = at ≤ end
AreApart at end (place ∷ places) = (at ≤ place.0) × (place.0 < place.1) × AreApart place.1 end places

-- For each routine its first byte, which stands at its packed address, and the place behind its last.
pub record ArePlaces (image : Image) (places : List (ℕ × ℕ)) : Type 0 where
  pub count : length places ≡ length image.routines
  pub each : (k : ℕ) (code : Code) → slice_get image.routines k ≡ Some code →
      let start = 8 * (image_names image).routine k in slice_get places k ≡ Some (start, start + code_size code)
  pub apart : AreApart 0 (length (story_of image)) places
