-- What is declared where items are read: hold it against docs/LANGUAGE.md, "Head rules", and the chapter of the Dialog manual on global variables.
use Rattle.std.specs.Prelude.{◌≡◌, ◌||◌, List, [], ◌∷◌, Bool, true, false}
use Rattle.dg_base.specs.Tree.{Parts, no_parts, part, part_word, part_value, Value, current_topic, Said, global_variable, Item}
use Rattle.dg_reader.specs.Heads.{can_be_declared}
use Rattle.dg_reader.specs.Read.{is_topic}

-- A value is a `*`.
abbrev pub is_star : Value → Bool
is_star current_topic = true
is_star v = false

-- The first value among these parts is a `*`.
abbrev pub begins_with_topic : Parts → Bool
begins_with_topic no_parts = false
begins_with_topic (part (part_word w) ps) = begins_with_topic ps
begins_with_topic (part (part_value v) ps) = is_star v

-- A query that is declared may be, and begins with a `*` only behind a topic.
abbrev pub IsDeclaration : Bool → Said → Type 0
IsDeclaration before (global_variable ps) = (can_be_declared ps ≡ true) × (begins_with_topic ps ≡ true → before ≡ true)
IsDeclaration before said = Unit {0}

-- So is each that is declared by these items, which may stand behind a topic.
abbrev pub AreDeclarations : Bool → List Item → Type 0
AreDeclarations before [] = Unit {0}
AreDeclarations before (i ∷ is) = IsDeclaration before i.said × AreDeclarations (before || is_topic i.said) is
