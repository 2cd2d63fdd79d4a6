-- The lines of a listing: what stands where in a story, byte for byte (hold it against docs/LISTING.md).
use Rattle.std.specs.Prelude.{◌<◌, ◌≤◌, ℕ, zero, suc, ◌+◌, ◌-◌, List, [], ◌∷◌, ◌++◌, length, take, drop, Option, Some, None, nat_lt, if◌then◌else◌}
use Rattle.z_list.specs.declared.mark.Mark.{Mark}

-- A line behind the first: bytes outside marks and behind the last instruction of a mark; where a mark begins; its first byte;
-- an instruction; where a mark ends.
pub data Line : Type 0 where
  Data : (at : ℕ) → (bytes : List ℕ) → Line
  Rule : (at : ℕ) → (pred : ℕ) → (rule : ℕ) → Line
  Locals : (at : ℕ) → (byte : ℕ) → Line
  Does : (at : ℕ) → (bytes : List ℕ) → Line
  End : (at : ℕ) → Line

-- Marks in order from a place on, none empty, apart, and within the end.
abbrev pub AreMarks : ℕ → ℕ → List Mark → Type 0
AreMarks at end [] = at ≤ end
AreMarks at end (m ∷ ms) = (at ≤ m.from) × (m.from < m.to) × AreMarks m.to end ms

-- a row that isn't empty
abbrev pub last_row : ℕ → List ℕ → List Line
last_row at [] = []
last_row at (b ∷ bs) = Data at (b ∷ bs) ∷ []

-- Bytes from a place on, cut into sixteens, where these are in the first row already.
abbrev pub rows : ℕ → List ℕ → List ℕ → List Line
rows at row [] = last_row at row
rows at row (b ∷ bs) = if nat_lt (length row) 15 then rows at (row ++ b ∷ []) bs else Data at (row ++ b ∷ []) ∷ rows (at + 16) [] bs

-- A line for the instruction of this length and then the next lines; or, where there is none, rows of what is left and the end.
abbrev pub by_first : ℕ → List ℕ → Option ℕ → (ℕ → List Line) → List Line
by_first at bytes None next = rows at [] bytes ++ End (at + length bytes) ∷ []
by_first at bytes (Some k) next = Does at (take k bytes) ∷ next k

-- The length of the instruction with which bytes begin, if they begin with a whole one.
module _ (first : List ℕ → Option ℕ) where
  -- The instructions of a mark, what is left of it, and its end; there are no more of them than bytes.
  abbrev pub instructions : ℕ → ℕ → List ℕ → List Line
  instructions zero at bytes = End at ∷ []
  instructions (suc n) at bytes = by_first at bytes (first bytes) (λ k. instructions n (at + k) (drop k bytes))

  -- A mark that has these bytes.
  abbrev pub marked : Mark → List ℕ → List Line
  marked m [] = []
  marked m (b ∷ bs) = Rule m.from m.pred m.rule ∷ Locals m.from b ∷ instructions (length bs) (m.from + 1) bs

  -- Bytes from a place on, with these marks.
  abbrev pub lines : ℕ → List ℕ → List Mark → List Line
  lines at bytes [] = rows at [] bytes
  lines at bytes (m ∷ ms) = rows at [] (take (m.from - at) bytes) ++ (marked m (take (m.to - m.from) (drop (m.from - at) bytes)) ++
      lines m.to (drop (m.to - at) bytes) ms)
