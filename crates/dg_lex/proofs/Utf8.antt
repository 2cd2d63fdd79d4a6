-- A text that is UTF-8 is so as a whole.
use Rattle.std.proofs.Common.{◌≡◌, ℕ, List, length}
use Rattle.std.specs.Str.{IsUtf8}
use Rattle.std.specs.Str.Lossy.{utf8_valid_len}
use Rattle.std.proofs.lemmas.Str.{utf8_valid_len-IsUtf8}

pub whole_is_valid : (text : List ℕ) → IsUtf8 text → utf8_valid_len text ≡ length text
whole_is_valid text valid = utf8_valid_len-IsUtf8 text valid
