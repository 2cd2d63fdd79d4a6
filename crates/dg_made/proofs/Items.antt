-- The items of a made source.
use Rattle.std.proofs.Common.{◌+◌, ◌*◌, ◌%◌, ◌<◌, ℕ, zero, suc, true, List, [], ◌∷◌, ◌++◌, codes, decimal, arith}
use Rattle.dg_base.specs.Tree.{part_word, part_value, Parts, no_parts, part, num, object_name, variable, text, print, ask, ask_all, group, now, exhaust, no_stmts, stmt, Body, no_branches, branch, no_changes, change, Said, rule, global_variable, Item}

-- ---- what is said

-- No statement.
abbrev pub nothing : Body
nothing = branch no_stmts no_branches

-- The line of a room of this name.
abbrev pub room_said : List ℕ → Said
room_said name = rule (part (part_word (codes "room")) (part (part_value (object_name name)) no_parts)) nothing

-- The line of a thing of this name in such a room.
abbrev pub thing_said : List ℕ → List ℕ → Said
thing_said name room =
    rule (part (part_value (object_name name)) (part (part_word (codes "has")) (part (part_word (codes "parent"))
    (part (part_value (object_name room)) no_parts)))) nothing

-- (line)
abbrev pub line_parts : Parts
line_parts = part (part_word (codes "line")) no_parts

-- (room $R), (describe $R), (count $C), ($T has parent $R)
abbrev pub room_parts : Parts
room_parts = part (part_word (codes "room")) (part (part_value (variable (codes "R"))) no_parts)

abbrev pub describe_parts : Parts
describe_parts = part (part_word (codes "describe")) (part (part_value (variable (codes "R"))) no_parts)

abbrev pub count_parts : List ℕ → Parts
count_parts name = part (part_word (codes "count")) (part (part_value (variable name)) no_parts)

abbrev pub parent_parts : Parts
parent_parts =
    part (part_value (variable (codes "T"))) (part (part_word (codes "has")) (part (part_word (codes "parent"))
    (part (part_value (variable (codes "R"))) no_parts)))

-- ($C plus 1 into $D)
abbrev pub plus_parts : Parts
plus_parts =
    part (part_value (variable (codes "C"))) (part (part_word (codes "plus")) (part (part_value (num 1))
    (part (part_word (codes "into")) (part (part_value (variable (codes "D"))) no_parts))))

-- (global variable (count 0))
abbrev pub zero_parts : Parts
zero_parts = part (part_word (codes "count")) (part (part_value (num 0)) no_parts)

abbrev pub count_said : Said
count_said = global_variable zero_parts

-- { *(room $R) (describe $R) }
abbrev pub rooms_body : Body
rooms_body = branch (stmt (ask_all room_parts) (stmt (ask describe_parts) no_stmts)) no_branches

abbrev pub entry_parts : Parts
entry_parts = part (part_word (codes "program")) (part (part_word (codes "entry")) (part (part_word (codes "point")) no_parts))

abbrev pub entry_body : Body
entry_body =
    branch (stmt (exhaust (group rooms_body)) (stmt (ask line_parts) (stmt (ask (count_parts (codes "C")))
    (stmt (print (variable (codes "C"))) (stmt (text (codes "things")) no_stmts))))) no_branches

-- { *($T has parent $R) $T (count $C) ($C plus 1 into $D) (now) (count $D) }
abbrev pub things_body : Body
things_body =
    branch (stmt (ask_all parent_parts) (stmt (print (variable (codes "T"))) (stmt (ask (count_parts (codes "C"))) (stmt (ask plus_parts)
    (stmt (now (change (count_parts (codes "D")) true no_changes)) no_stmts))))) no_branches

abbrev pub describe_body : Body
describe_body =
    branch (stmt (ask line_parts) (stmt (print (variable (codes "R"))) (stmt (text (codes ":")) (stmt (exhaust (group things_body)) no_stmts)))) no_branches

-- ---- the items

-- A letter before a number.
abbrev pub room_name : ℕ → List ℕ
room_name i = 114 ∷ decimal i

abbrev pub thing_name : ℕ → List ℕ
thing_name i = 116 ∷ decimal i

-- The room of a thing, among so many.
abbrev pub room_of : ℕ → ℕ → List ℕ
room_of n i = room_name ((7 * i + 3) % n)

abbrev pub item : ℕ → Said → Item
item line said = record { line = line; said = said }

-- What the line of this number says, of the rooms and of so many things.
abbrev pub room_at : ℕ → Said
room_at i = room_said (room_name i)

abbrev pub thing_at : ℕ → ℕ → Said
thing_at n i = thing_said (thing_name i) (room_of n i)

-- The item of this number behind so many lines.
abbrev pub behind : ℕ → (ℕ → Said) → ℕ → Item
behind m said i = item (m + i + 1) (said i)

abbrev pub room_item : ℕ → Item
room_item i = behind 0 room_at i

abbrev pub thing_item : ℕ → ℕ → Item
thing_item n i = behind n (thing_at n) i

-- The program behind so many lines.
abbrev pub program_items : ℕ → List Item
program_items l = item (l + 1) count_said ∷ item (l + 1 + 1) (rule entry_parts entry_body) ∷ item (l + 1 + 1 + 1 + 1 + 1) (rule describe_parts describe_body) ∷ []

-- The first so many, numbered from 0.
abbrev pub first_of : {X : Type 0} → (ℕ → X) → ℕ → List X
first_of one zero = []
first_of one (suc k) = first_of one k ++ one k ∷ []

-- The items of a source of so many rooms and things.
abbrev pub made_items : ℕ → List Item
made_items n = first_of room_item n ++ (first_of (thing_item n) n ++ program_items (n + n))

-- ---- each of them

-- Each of these is so.
abbrev pub Each : {X : Type 0} → (X → Type 0) → List X → Type 0
Each P [] = Unit {0}
Each P (x ∷ xs) = P x × Each P xs

pub each_append : {X : Type 0} (P : X → Type 0) (xs ys : List X) → Each P xs → Each P ys → Each P (xs ++ ys)
each_append P [] ys h k = k
each_append P (x ∷ xs) ys h k = (h.0, each_append P xs ys h.1 k)

pub each_first : {X : Type 0} (P : X → Type 0) (one : ℕ → X) (n : ℕ) → ((i : ℕ) → i < n → P (one i)) → Each P (first_of one n)
each_first P one zero h = tt
each_first P one (suc k) h = each_append P (first_of one k) (one k ∷ []) (each_first P one k λ i lt. h i (omega arith)) (h k (omega arith), tt)

-- What is so of each room, each thing and the program is so of all items.
pub each_made : (P : Item → Type 0) (n : ℕ) → ((i : ℕ) → i < n → P (room_item i)) → ((i : ℕ) → i < n → P (thing_item n i)) → Each P (program_items (n + n)) → Each P (made_items n)
each_made P n rooms things program =
    each_append P (first_of room_item n) (first_of (thing_item n) n ++ program_items (n + n)) (each_first P room_item n rooms)
    (each_append P (first_of (thing_item n) n) (program_items (n + n)) (each_first P (thing_item n) n things) program)
