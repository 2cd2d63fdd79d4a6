-- The items of a source with plain heads: hold them against docs/LANGUAGE.md, "Plain heads".
use Rattle.std.specs.Prelude.{ℕ, zero, suc, ◌+◌, List, [], ◌∷◌, Bool, true, false, Option, Some, length, nat_eq, if◌then◌else◌}
use Rattle.std.specs.List.{starts_with}
use Rattle.dg_base.specs.Tree as tree
use Rattle.dg_base.specs.Tree.{Said, Item}
use Rattle.dg_base.specs.Mentions.{things_in, names_in, variable_in}
use Rattle.dg_plain.specs.Plain.{Setting, choice_mark, plain_parts, rule_body}

-- Whether this begins one of these names.
abbrev pub begins_one : List (List ℕ) → List ℕ → Bool
begins_one [] mark = false
begins_one (n ∷ ns) mark = if starts_with nat_eq n mark then true else begins_one ns mark

-- The first of so many numbers, from this one on, that no name of a choice would begin with among these; or the one behind them.
abbrev pub first_free : List (List ℕ) → ℕ → ℕ → ℕ
first_free names number zero = number
first_free names number (suc left) = if begins_one names (choice_mark number) then first_free names (number + 1) left else number

-- The first number with which no variable of an item begins as the names of its choices do.
abbrev pub free_number : Said → ℕ
free_number said = let names = names_in variable_in (things_in said) in first_free names 0 (length names)

-- How the heads and bodies of an item are rewritten.
abbrev pub rule_setting : Option (List ℕ) → Said → Setting
rule_setting topic said = record { topic = topic; number = free_number said; declares = false }

-- How a declaration is rewritten.
abbrev pub in_declaration : Option (List ℕ) → Said → Setting
in_declaration topic said = record { topic = topic; number = free_number said; declares = true }

-- What an item says, with plain heads.
abbrev pub plain_said : Option (List ℕ) → Said → Said
plain_said t (tree.topic n) = tree.topic n
plain_said t (tree.rule ps b) = tree.rule (plain_parts (rule_setting t (tree.rule ps b)) 0 ps) (rule_body (rule_setting t (tree.rule ps b)) ps b)
plain_said t (tree.deny ps b) = tree.deny (plain_parts (rule_setting t (tree.deny ps b)) 0 ps) (rule_body (rule_setting t (tree.deny ps b)) ps b)
plain_said t (tree.access ps b) = tree.access (plain_parts (rule_setting t (tree.access ps b)) 0 ps) (rule_body (rule_setting t (tree.access ps b)) ps b)
plain_said t (tree.global_variable ps) = tree.global_variable (plain_parts (in_declaration t (tree.global_variable ps)) 0 ps)

-- The topic behind an item.
abbrev pub topic_behind : Option (List ℕ) → Said → Option (List ℕ)
topic_behind t (tree.topic n) = Some n
topic_behind t (tree.rule ps b) = t
topic_behind t (tree.deny ps b) = t
topic_behind t (tree.access ps b) = t
topic_behind t (tree.global_variable ps) = t

-- The items with plain heads, from this topic on.
abbrev pub plain_items : Option (List ℕ) → List Item → List Item
plain_items t [] = []
plain_items t (i ∷ is) = record { line = i.line; said = plain_said t i.said } ∷ plain_items (topic_behind t i.said) is
