-- Which texts are listings, and the first line at which a text isn't one (hold it against docs/LISTING.md).
use Rattle.std.specs.Prelude.{◌≡◌, ◌<◌, ◌≤◌, ℕ, zero, suc, ◌-◌, List, [], ◌∷◌, ◌++◌, length, All, Option, Some, None, ◌==◌, if◌then◌else◌}
use Rattle.std.specs.Option.{option_map}
use Rattle.z_list.specs.declared.mark.Mark.{Mark}
use Rattle.z_list.specs.Listing.{AreMarks}
use Rattle.z_list.specs.Texts.{listed}

-- the numbers of a mark's predicate and rule have 16 bits
pub record IsMark (m : Mark) : Type 0 where
  pub pred : m.pred < 65536
  pub rule : m.rule < 65536

-- A text is the listing of a story, for some marks.
pub record IsListing (text story : List ℕ) : Type 0 where
  pub marks : List Mark
  pub fit : AreMarks 0 (length story) marks
  pub small : All IsMark marks
  pub short : length story ≤ 524288
  pub bytes : All (λ b. b < 256) story
  pub is : text ≡ listed story marks

-- A text is a front of a listing.
pub record BeginsListing (front : List ℕ) : Type 0 where
  pub behind : List ℕ
  pub story : List ℕ
  pub is : IsListing (front ++ behind) story

-- The first so many lines of a text, each with its newline, where there are so many that have one.
abbrev pub first_lines : ℕ → List ℕ → Option (List ℕ)
first_lines zero text = Some []
first_lines (suc n) [] = None
first_lines (suc n) (b ∷ text) = option_map (λ front. b ∷ front) (first_lines (if b == 10 then n else suc n) text)

-- The lines are there and begin a listing.
abbrev pub Begin : Option (List ℕ) → Type 0
Begin None = ⊥
Begin (Some front) = BeginsListing front

-- A line is the first bad one: the lines before it begin a listing, and with it they don't, or it isn't there; so the text is none.
pub record IsBadAt (text : List ℕ) (line : ℕ) : Type 0 where
  pub some : 0 < line
  pub before : Begin (first_lines (line - 1) text)
  pub bad : Begin (first_lines line text) → ⊥
  pub none : (story : List ℕ) → IsListing text story → ⊥
