-- Lines as they are read: which go on from a state, and what lines that were read say of a text.
use Rattle.std.specs.Prelude.{◌≡◌, ◌<◌, ◌≤◌, ℕ, ◌+◌, ◌%◌, List, [], ◌++◌, length, map, Option, true}
use Rattle.z_list.specs.Listing.{Line}
use Rattle.z_list.specs.Texts.{spaced, story_line, line_text, texts, first_length}
use Rattle.z_list.specs.Reads.{IsListing, IsBadAt}
use Rattle.z_list.specs.inside.Lines.{Where, Outside, Goes, Comes, IsOutside}
use Rattle.z_list.specs.inside.Held.{bytes_of, IsFit, AreFit}

-- no byte stands in front, behind a space
abbrev pub NoByte : List ℕ → Type 0
NoByte text = (b : ℕ) (more : List ℕ) → b < 256 → text ≡ spaced b ++ more → ⊥

-- numbers taken as bytes
abbrev pub clamped : List ℕ → List ℕ
clamped bs = map (λ b. b % 256) bs

abbrev pub first_clamped : List ℕ → Option ℕ
first_clamped bs = first_length (clamped bs)

-- no line of this form stands in front
abbrev pub IsStuck : (Line → Type 0) → List ℕ → Type 0
IsStuck form text = (l : Line) → form l → (behind : List ℕ) → text ≡ line_text l ++ behind → ⊥

-- ---- lines in a row

-- a line that goes on from a state
pub record IsNext (w : Where) (at left : ℕ) (l : Line) : Type 0 where
  pub state : Where
  pub place : ℕ
  pub bytes_left : ℕ
  pub goes : Goes first_clamped w at left l state place bytes_left
  pub fit : IsFit l

-- These lines of a text were read, and behind them stands the rest.
pub record Stands (count : ℕ) (text : List ℕ) (ls : List Line) (w : Where) (at left : ℕ) (rest : List ℕ) : Type 0 where
  pub few : count ≤ 524288
  pub comes : Comes first_clamped (Outside true) 0 count ls w at left
  pub fit : AreFit ls
  pub is : text ≡ story_line count ++ (texts ls ++ rest)

-- What lines that were read say of a text: it is a listing where they are whole, and the next line is the first bad one where none goes on.
pub record Decides (count : ℕ) (text : List ℕ) (ls : List Line) (w : Where) (at left : ℕ) (rest : List ℕ) : Type 0 where
  pub whole : rest ≡ [] → IsOutside first_clamped w → left ≡ 0 → IsListing text (bytes_of ls)
  pub bad : IsStuck (IsNext w at left) rest → (rest ≡ [] → IsOutside first_clamped w → left ≡ 0 → ⊥) → IsBadAt text (length ls + 2)
