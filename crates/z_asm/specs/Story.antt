-- The story of an image, byte by byte (Z-Machine Standard 1.1, sections 1.1, 1.2, 5.2, 11.1 and 13.2).
use Rattle.std.specs.Prelude.{ℕ, ◌+◌, ◌-◌, ◌%◌, ◌<◌, ◌⊎◌, List, [], ◌∷◌, ◌++◌, map, length, sum, replicate, Some, None, true, false}
use Rattle.z_model.specs.declared.op.Form.TheVariants as forms
use Rattle.z_model.specs.declared.op.Operand.{Operand}
use Rattle.z_model.specs.declared.op.Operand.TheVariants as operands
use Rattle.z_model.specs.declared.op.Operands.{Operands}
use Rattle.z_model.specs.declared.op.Op.{Op}
use Rattle.z_code.specs.declared.target.LOp.{LOp}
use Rattle.z_code.specs.declared.target.LOp.TheVariants as lops
use Rattle.z_code.specs.declared.target.Target.TheVariants as targets
use Rattle.z_code.specs.Targets.{Names, label_from, ops_bytes}
use Rattle.z_text.specs.Encode.{string_of}
use Rattle.z_text.specs.Codes.{codes_from}
use Rattle.z_asm.specs.declared.image.Code.{Code}
use Rattle.z_asm.specs.declared.image.Image.{Image}
use Rattle.z_asm.specs.declared.layout.Addresses.{Addresses}
use Rattle.z_asm.specs.Header.{header_bytes}
use Rattle.z_asm.specs.Layout.{code_bytes, code_size, aligned, stand_from, end_from, laid, packed_address, table_bytes, table_places, names_at}

-- ---- the readable part

-- The header takes 64 bytes, the globals stand behind it and the object table behind them, with 63 default properties and no object.
abbrev pub tables_from : ℕ
tables_from = 670

-- the static base, behind the writable tables
abbrev pub image_base : Image → ℕ
image_base image = tables_from + length (table_bytes true image.tables)

-- the dictionary, behind the other tables: no separators, entries of six bytes, and none of them
abbrev pub dictionary_of : Image → ℕ
dictionary_of image = image_base image + length (table_bytes false image.tables)

abbrev pub dictionary : List ℕ
dictionary = 0 ∷ 6 ∷ 0 ∷ 0 ∷ []

-- the first instructions, behind the dictionary, and the end of the readable part behind them
abbrev pub code_start : Image → ℕ
code_start image = dictionary_of image + 4

abbrev pub front_of : Image → ℕ
front_of image = code_start image + 4

abbrev pub given : ℕ → Operand → Operands
given count first = record { count = count; first = first; second = operands.Small 0; third = operands.Small 0; fourth = operands.Small 0 }

abbrev pub call_first : Op
call_first = record { form = forms.Short; number = 15; operands = given 1 (operands.Large 0); store = None; branch = None; text = 0 }

abbrev pub then_quit : Op
then_quit = record { form = forms.Short; number = 10; operands = given 0 (operands.Small 0); store = None; branch = None; text = 0 }

-- They call routine 0, and quit.
abbrev pub first_ops : List LOp
first_ops =
    lops.Do call_first (Some (targets.Routine 0) ∷ None ∷ None ∷ None ∷ []) None ∷
    lops.Do then_quit (None ∷ None ∷ None ∷ None ∷ []) None ∷ []

-- ---- strings and routines

-- the string of a text
abbrev pub string_bytes : List ℕ → List ℕ
string_bytes text = string_of (codes_from None text)

abbrev pub strings_of : Image → List (List ℕ)
strings_of image = map string_bytes image.strings

abbrev pub string_sizes : Image → List ℕ
string_sizes image = map length (strings_of image)

-- where the routines begin, and where they end
abbrev pub routines_from : Image → ℕ
routines_from image = end_from (front_of image) (string_sizes image)

abbrev pub image_end : Image → ℕ
image_end image = end_from (routines_from image) (map code_size image.routines)

-- where everything stands: packed addresses of routines and texts, and addresses of tables
abbrev pub addresses_of : Image → Addresses
addresses_of image = record {
  routines = map packed_address (stand_from (routines_from image) (map code_size image.routines));
  tables = table_places tables_from (image_base image) image.tables;
  texts = map packed_address (stand_from (front_of image) (string_sizes image));
}

abbrev pub image_names : Image → Names
image_names image = names_at (addresses_of image)

abbrev pub string_part : List ℕ → ℕ → List ℕ
string_part bytes at = bytes

abbrev pub code_part : Names → Code → ℕ → List ℕ
code_part names code at = code_bytes names at code

-- ---- the whole

-- all bytes of the readable part behind the header
abbrev pub readable_bytes : Image → List ℕ
readable_bytes image =
    replicate 606 0 ++ (table_bytes true image.tables ++ (table_bytes false image.tables
    ++ (dictionary ++ ops_bytes (image_names image) (label_from (code_start image) first_ops) (code_start image) first_ops)))

abbrev pub all_strings : Image → List ℕ
all_strings image = laid (front_of image) (map string_part (strings_of image)) (string_sizes image)

abbrev pub image_routines : Image → List ℕ
image_routines image = laid (routines_from image) (map (code_part (image_names image)) image.routines) (map code_size image.routines)

-- all bytes behind the header, filled up to a multiple of 8
abbrev pub bytes_behind : Image → List ℕ
bytes_behind image = readable_bytes image ++ (all_strings image ++ (image_routines image ++ replicate (aligned (image_end image) - image_end image) 0))

-- the header, which is made last
abbrev pub header_of : Image → List ℕ
header_of image = header_bytes (code_start image) (dictionary_of image) (image_base image) (aligned (image_end image)) (sum (bytes_behind image) % 65536)

unfoldable pub story_of : Image → List ℕ
story_of image = header_of image ++ bytes_behind image

-- The image doesn't fit: its end is too far, or that of its readable part.
abbrev pub IsTooLarge : Image → Type 0
IsTooLarge image = (524280 < image_end image) ⊎ (65536 < front_of image)
