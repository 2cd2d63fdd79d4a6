-- What is left of a string from a walker on; the string's codes are z_model's (Z-Machine Standard 1.1, section 3).
use Rattle.std.specs.Prelude.{◌≡◌, ℕ, List, [], ◌∷◌, ◌++◌, drop, Option, Some, None, Result, Ok, Err, if◌then◌else◌}
use Rattle.z_model.specs.declared.fault.ZFault.{ZFault}
use Rattle.z_model.specs.declared.fault.ZFault.TheVariants.{BadString}
use Rattle.z_model.specs.Decode.{text_end}
use Rattle.z_model.specs.Text.{Text, text_read, decoded_codes, z_characters}
use Rattle.z_text.specs.declared.walker.Pending.{Pending}
use Rattle.z_text.specs.declared.walker.Pending.TheVariants.{Nothing, One, Two}
use Rattle.z_text.specs.declared.walker.Walker.{Walker}

abbrev pub pending_characters : Pending → List ℕ
pending_characters Nothing = []
pending_characters (One z) = z ∷ []
pending_characters (Two y z) = y ∷ z ∷ []

-- the Z-characters that are left
abbrev pub characters_left : Walker → List ℕ → List ℕ
characters_left w bytes = pending_characters w.pending ++ (if w.last then [] else z_characters (drop w.at bytes))

-- the string's end, if it has one
abbrev pub end_left : Walker → List ℕ → Option ℕ
end_left w bytes = if w.last then Some w.at else text_end (drop w.at bytes) w.at

-- the codes that are left, and the string's end
abbrev pub rest_of : Walker → List ℕ → Text
rest_of w bytes = text_read (decoded_codes w.alphabet (characters_left w bytes)) (end_left w bytes)

-- The second is behind the first by one Z-character.
pub record IsBehind (z : ℕ) (here next : Walker) (bytes : List ℕ) : Type 0 where
  pub characters : characters_left here bytes ≡ z ∷ characters_left next bytes
  pub end : end_left next bytes ≡ end_left here bytes
  pub alphabet : next.alphabet ≡ here.alphabet

-- A Z-character is taken, or none is left, at the string's end or without one.
abbrev pub Takes : Result (Option (ℕ × Walker)) ZFault → Walker → List ℕ → Type 0
Takes (Ok (Some x)) w bytes = IsBehind x.0 w x.1 bytes
Takes (Ok None) w bytes = (characters_left w bytes ≡ []) × (end_left w bytes ≡ Some w.at)
Takes (Err fault) w bytes = (fault ≡ BadString) × (characters_left w bytes ≡ []) × (end_left w bytes ≡ None)

-- A code is the first that was left. None comes exactly where no code is left and the string has an end, at which the walker then stands; a fault
-- comes exactly where no code is left and it has none. What is left stays then.
abbrev pub Walks : Result (Option ℕ) ZFault → Walker → Walker → List ℕ → Type 0
Walks (Ok (Some code)) old new bytes = rest_of old bytes ≡ record { codes = code ∷ (rest_of new bytes).codes; end = (rest_of new bytes).end }
Walks (Ok None) old new bytes = (rest_of old bytes ≡ record { codes = []; end = Some new.at }) × (rest_of new bytes ≡ rest_of old bytes)
Walks (Err fault) old new bytes = (fault ≡ BadString) × (rest_of old bytes ≡ record { codes = []; end = None }) × (new ≡ old)
