-- Where the parts of a story stand.
use Rattle.std.specs.Prelude.{ℕ, ◌+◌, ◌-◌, ◌/◌, ◌%◌, List, [], ◌∷◌, ◌++◌, length, replicate, Bool, if◌then◌else◌, slice_index}
use Rattle.z_code.specs.Targets.{Names, ops_size, label_from, ops_bytes}
use Rattle.z_asm.specs.declared.image.Code.{Code}
use Rattle.z_asm.specs.declared.image.Table.{Table}
use Rattle.z_asm.specs.declared.layout.Addresses.{Addresses}

-- ---- routines

-- a routine's bytes, where it begins at an address: the number of its locals, and its instructions
abbrev pub code_bytes : Names → ℕ → Code → List ℕ
code_bytes names at code = code.locals ∷ ops_bytes names (label_from (at + 1) code.ops) (at + 1) code.ops

abbrev pub code_size : Code → ℕ
code_size code = 1 + ops_size code.ops

-- ---- parts behind one another, each at a multiple of 8

-- the next multiple of 8
abbrev pub aligned : ℕ → ℕ
aligned at = at + (8 - at % 8) % 8

-- where parts of these sizes stand, from a place on
abbrev pub stand_from : ℕ → List ℕ → List ℕ
stand_from at [] = []
stand_from at (size ∷ sizes) = aligned at ∷ stand_from (aligned at + size) sizes

-- where each begins and where it ends
abbrev pub spans_from : ℕ → List ℕ → List (ℕ × ℕ)
spans_from at [] = []
spans_from at (size ∷ sizes) = (aligned at, aligned at + size) ∷ spans_from (aligned at + size) sizes

-- where they end
abbrev pub end_from : ℕ → List ℕ → ℕ
end_from at [] = at
end_from at (size ∷ sizes) = end_from (aligned at + size) sizes

-- parts, each given the address at which it stands, with zero bytes before them
abbrev pub laid : ℕ → List (ℕ → List ℕ) → List ℕ → List ℕ
laid at [] sizes = []
laid at (part ∷ parts) [] = []
laid at (part ∷ parts) (size ∷ sizes) = replicate (aligned at - at) 0 ++ (part (aligned at) ++ laid (aligned at + size) parts sizes)

abbrev pub packed_address : ℕ → ℕ
packed_address at = at / 8

-- ---- tables

-- the bytes of the tables that are writable, or of those that aren't
abbrev pub table_bytes : Bool → List Table → List ℕ
table_bytes writable [] = []
table_bytes writable (t ∷ ts) =
    if t.writable then (if writable then t.bytes ++ table_bytes writable ts else table_bytes writable ts)
    else (if writable then table_bytes writable ts else t.bytes ++ table_bytes writable ts)

-- where the tables stand, when the writable ones begin at the first place and the others at the second
abbrev pub table_places : ℕ → ℕ → List Table → List ℕ
table_places here there [] = []
table_places here there (t ∷ ts) =
    if t.writable then here ∷ table_places (here + length t.bytes) there ts
    else there ∷ table_places here (there + length t.bytes) ts

-- ---- names

-- what the numbers stand for, and 0 beyond the last
abbrev pub names_at : Addresses → Names
names_at p = record { routine = λ k. slice_index p.routines k; table = λ k. slice_index p.tables k; text = λ k. slice_index p.texts k }
