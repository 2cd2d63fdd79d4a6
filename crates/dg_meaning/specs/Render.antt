-- The bytes of what was printed. Hold it against the Dialog manual, chapter "Output", on automatic spacing, line breaks and (uppercase).
use Rattle.std.specs.Prelude.{ℕ, ◌+◌, ◌-◌, List, [], ◌∷◌, ◌++◌, Option, Some, None, Bool, true, false, eqb, nat_lt, nat_le, min, replicate, ◌||◌, ◌&&◌, if◌then◌else◌}
use Rattle.std.specs.List.{list_any}
use Rattle.dg_base.specs.declared.program.GapKind.TheVariants.{NoSpace, Space, Line, Par, Upper}
use Rattle.dg_meaning.specs.World.{Print, Piece, GapOf, SpacesOf}

-- ## The gap between two pieces

-- It is a (line).
abbrev pub is_line : Print → Bool
is_line (GapOf Line) = true
is_line e = false

-- It is a (par).
abbrev pub is_par : Print → Bool
is_par (GapOf Par) = true
is_par e = false

-- It is an (uppercase).
abbrev pub is_upper : Print → Bool
is_upper (GapOf Upper) = true
is_upper e = false

-- The spaces that a gap asks for behind its last line or paragraph break, with so many before it; no more than 16,383 are counted.
abbrev pub spaces_from : ℕ → List Print → ℕ
spaces_from n [] = n
spaces_from n (GapOf Line ∷ gap) = spaces_from 0 gap
spaces_from n (GapOf Par ∷ gap) = spaces_from 0 gap
spaces_from n (SpacesOf k ∷ gap) = spaces_from (min (n + k) 16383) gap
spaces_from n (e ∷ gap) = spaces_from n gap

-- The spaces that a gap asks for.
abbrev pub spaces_of : List Print → List ℕ
spaces_of gap = replicate (spaces_from 0 gap) 32

-- Whether the last of a gap's (space) and (no space) is a (space); none where it has neither.
abbrev pub last_asked : Option Bool → List Print → Option Bool
last_asked asked [] = asked
last_asked asked (GapOf Space ∷ gap) = last_asked (Some true) gap
last_asked asked (GapOf NoSpace ∷ gap) = last_asked (Some false) gap
last_asked asked (e ∷ gap) = last_asked asked gap

-- ( [ {
abbrev pub opens : ℕ → Bool
opens b = list_any (eqb b) (40 ∷ 91 ∷ 123 ∷ [])

-- . , ; : ! ? ) ] }
abbrev pub closes : ℕ → Bool
closes b = list_any (eqb b) (46 ∷ 44 ∷ 59 ∷ 58 ∷ 33 ∷ 63 ∷ 41 ∷ 93 ∷ 125 ∷ [])

-- What stands between two characters where nothing breaks the line or counts spaces.
abbrev pub space_for : Option Bool → ℕ → ℕ → List ℕ
space_for (Some true) before after = 32 ∷ []
space_for (Some false) before after = []
space_for None before after = if opens before || closes after then [] else 32 ∷ []

-- What stands between the last character that was printed and the first of the next piece.
abbrev pub separator : List Print → Option ℕ → ℕ → List ℕ
separator gap None after = spaces_of gap
separator gap (Some before) after =
    if list_any is_par gap then 10 ∷ 10 ∷ spaces_of gap
    else (if list_any is_line gap then 10 ∷ spaces_of gap
    else (if nat_lt 0 (spaces_from 0 gap) then spaces_of gap else space_for (last_asked None gap) before after))

-- ## Pieces

-- The capital of a letter from a to z, and else the byte itself.
abbrev pub upper : ℕ → ℕ
upper b = if nat_le 97 b && nat_le b 122 then b - 32 else b

-- A piece, with a capital where the gap before it asks for one.
abbrev pub capital : List Print → List ℕ → List ℕ
capital gap [] = []
capital gap (b ∷ bs) = (if list_any is_upper gap then upper b else b) ∷ bs

-- The first of some bytes, or 0 where there is none.
abbrev pub first_of : List ℕ → ℕ
first_of [] = 0
first_of (b ∷ bs) = b

-- The last of some bytes, or what was last before them.
abbrev pub last_of : Option ℕ → List ℕ → Option ℕ
last_of before [] = before
last_of before (b ∷ bs) = last_of (Some b) bs

-- What the next piece meets: the last character that was printed, and the gap since.
pub record Met : Type 0 where
  pub last : Option ℕ
  pub gap : List Print

-- What the first piece meets.
abbrev pub nothing_met : Met
nothing_met = record { last = None; gap = [] }

-- The bytes by which one more thing makes the text grow.
abbrev pub written : Met → Print → List ℕ
written m (Piece bytes) = separator m.gap m.last (first_of bytes) ++ capital m.gap bytes
written m e = []

-- What is met behind it.
abbrev pub met_behind : Met → Print → Met
met_behind m (Piece bytes) = record { last = last_of m.last (capital m.gap bytes); gap = [] }
met_behind m e = record m { gap = m.gap ++ e ∷ [] }

-- ## The text

-- What is met behind these things.
abbrev pub met_from : Met → List Print → Met
met_from m [] = m
met_from m (e ∷ es) = met_from (met_behind m e) es

-- The bytes by which these things make the text grow.
abbrev pub render_from : Met → List Print → List ℕ
render_from m [] = []
render_from m (e ∷ es) = written m e ++ render_from (met_behind m e) es

-- The bytes of all that was printed.
unfoldable pub render : List Print → List ℕ
render es = render_from nothing_met es

-- The bytes by which the text of these things grows with one more.
abbrev pub growth : List Print → Print → List ℕ
growth es e = written (met_from nothing_met es) e

-- How many characters UTF-8 bytes are: those that don't continue one.
abbrev pub characters : List ℕ → ℕ
characters [] = 0
characters (b ∷ bs) = (if nat_lt b 128 || nat_le 192 b then 1 else 0) + characters bs
