-- What is left in items where plain heads replace it: hold it against docs/LANGUAGE.md, "Plain heads".
use Rattle.std.specs.Prelude.{◌≡◌, ◌&&◌, ℕ, List, [], ◌∷◌, Bool, true, false, not, Option, None}
use Rattle.std.specs.List.{All}
use Rattle.std.specs.Option.{is_some}
use Rattle.dg_base.specs.Tree.{Said, topic, rule, deny, access, global_variable, Item}
use Rattle.dg_base.specs.Mentions.{Thing, query, current_topic, unnamed, word_choice, things_in}
use Rattle.dg_base.specs.declared.mentions.Role.{Role}
use Rattle.dg_base.specs.declared.mentions.Role.TheVariants as role
use Rattle.dg_plain.specs.Items.{topic_behind}

abbrev pub is_nested : Role → Bool
is_nested role.Nested = true
is_nested r = false

-- A query as a value, a choice of words, an anonymous variable, or a `*` behind a topic. A declaration keeps its query and its anonymous variables.
abbrev pub is_left : Bool → Bool → Thing → Bool
is_left declares behind (query r ps) = is_nested r && not declares
is_left declares behind current_topic = behind
is_left declares behind (unnamed twice) = not declares
is_left declares behind (word_choice ws) = true
is_left declares behind t = false

abbrev pub is_declaration : Said → Bool
is_declaration (global_variable ps) = true
is_declaration (topic n) = false
is_declaration (rule ps b) = false
is_declaration (deny ps b) = false
is_declaration (access ps b) = false

-- Nothing is left in what an item says, behind this topic.
abbrev pub IsPlainSaid : Option (List ℕ) → Said → Type 0
IsPlainSaid t said = All (λ (x : Thing). is_left (is_declaration said) (is_some t) x ≡ false) (things_in said)

-- Nothing is left in these items, from this topic on.
abbrev pub ArePlain : Option (List ℕ) → List Item → Type 0
ArePlain t [] = Unit {0}
ArePlain t (i ∷ is) = IsPlainSaid t i.said × ArePlain (topic_behind t i.said) is

-- Nothing is left to replace.
abbrev pub IsPlain : List Item → Type 0
IsPlain = ArePlain None
