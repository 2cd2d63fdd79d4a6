-- Lines of one form: where a text begins with one, and what stands at the end of its line.
use Rattle.std.specs.Prelude.{◌≡◌, ◌<◌, ◌≤◌, ℕ, List, ◌∷◌, ◌++◌, length, All, Some, codes, decimal}
use Rattle.z_model.specs.Table.{player_rows}
use Rattle.z_model.specs.Decode.{op_at}
use Rattle.z_list.specs.Listing.{Line, Data, Rule, Locals, Does, End}
use Rattle.z_list.specs.Texts.{all_spaced, found_text, newline, line_text, first_length}
use Rattle.z_list.specs.inside.Held.{bytes_in}
use Rattle.z_list.specs.inside.Read.{NoByte, IsStuck}

-- a text begins with bytes, each behind a space, and no further one
pub record BeginsWithBytes (text bytes rest : List ℕ) : Type 0 where
  pub is : text ≡ all_spaced bytes ++ rest
  pub small : All (λ b. b < 256) bytes
  pub last : NoByte rest

-- a line of this form was read, and its bytes are put behind those that were read before
pub record IsRead (form : Line → Type 0) (text rest old new : List ℕ) : Type 0 where
  pub line : Line
  pub fits : form line
  pub is : text ≡ line_text line ++ rest
  pub bytes : new ≡ old ++ bytes_in line

-- none was, and nothing was put
pub record IsUnread (form : Line → Type 0) (text old new : List ℕ) : Type 0 where
  pub stuck : IsStuck form text
  pub bytes : new ≡ old

-- ---- the forms of lines at a place, where so many bytes are left

abbrev pub IsData : ℕ → ℕ → Line → Type 0
IsData at left (Data a bs) = (a ≡ at) × (0 < length bs) × (length bs ≤ 16) × (length bs ≤ left) × All (λ b. b < 256) bs
IsData at left l = ⊥

abbrev pub IsRule : ℕ → Line → Type 0
IsRule at (Rule a p q) = (a ≡ at) × (p < 65536) × (q < 65536)
IsRule at l = ⊥

abbrev pub IsLocals : ℕ → Line → Type 0
IsLocals at (Locals a b) = (a ≡ at) × (b < 256)
IsLocals at l = ⊥

abbrev pub IsOp : ℕ → ℕ → Line → Type 0
IsOp at left (Does a bs) = (a ≡ at) × (length bs ≤ left) × (first_length bs ≡ Some (length bs)) × All (λ b. b < 256) bs
IsOp at left l = ⊥

abbrev pub IsEnd : ℕ → Line → Type 0
IsEnd at (End a) = a ≡ at
IsEnd at l = ⊥

-- ---- ends of lines

-- a row that has so many bytes may end so
pub record EndsRow (text : List ℕ) (count left : ℕ) (rest : List ℕ) : Type 0 where
  pub some : 0 < count
  pub few : count ≤ 16
  pub there : count ≤ left
  pub is : text ≡ newline ++ rest

abbrev pub EndsNoRow : List ℕ → ℕ → ℕ → Type 0
EndsNoRow text count left = 0 < count → count ≤ 16 → count ≤ left → (rest : List ℕ) → text ≡ newline ++ rest → ⊥

-- two numbers with a dot between them stand in front of a newline
pub record EndsRule (text rest : List ℕ) : Type 0 where
  pub pred : ℕ
  pub rule : ℕ
  pub small : pred < 65536
  pub small_too : rule < 65536
  pub is : text ≡ decimal pred ++ 46 ∷ (decimal rule ++ 10 ∷ rest)

abbrev pub EndsNoRule : List ℕ → Type 0
EndsNoRule text =
    (pred rule : ℕ) (rest : List ℕ) → pred < 65536 → rule < 65536 → text ≡ decimal pred ++ 46 ∷ (decimal rule ++ 10 ∷ rest) → ⊥

-- what stands behind the bytes of an instruction
abbrev pub op_tail : List ℕ → List ℕ
op_tail bytes = codes " ; " ++ (found_text (op_at player_rows bytes 0) ++ newline)

-- the bytes are one instruction, of no more bytes than are left, and its name and operands follow
pub record EndsOp (text bytes : List ℕ) (left : ℕ) (rest : List ℕ) : Type 0 where
  pub one : first_length bytes ≡ Some (length bytes)
  pub there : length bytes ≤ left
  pub is : text ≡ op_tail bytes ++ rest

abbrev pub EndsNoOp : List ℕ → List ℕ → ℕ → Type 0
EndsNoOp text bytes left =
    first_length bytes ≡ Some (length bytes) → length bytes ≤ left → (rest : List ℕ) → text ≡ op_tail bytes ++ rest → ⊥
