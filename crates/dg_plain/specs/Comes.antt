-- Where what is mentioned in items with plain heads comes from: hold it against docs/LANGUAGE.md, "Plain heads".
use Rattle.std.specs.Prelude.{◌≡◌, ℕ, List, Bool, true, false, None, codes}
use Rattle.std.specs.List.{All, Contains}
use Rattle.dg_base.specs.Heads.{name_of}
use Rattle.dg_base.specs.Tree.{Parts, Item}
use Rattle.dg_base.specs.Mentions.{Thing, topic_line, query, word, object, unnamed, variable, word_choice, other, branches, mentioned}
use Rattle.dg_base.specs.declared.mentions.Form.TheVariants as form
use Rattle.dg_base.specs.declared.mentions.Role.{Role}
use Rattle.dg_base.specs.declared.mentions.Role.TheVariants as role
use Rattle.dg_plain.specs.Items.{plain_items}

-- A variable, a list, braces, or a body.
abbrev pub is_free : Thing → Bool
is_free (variable n) = true
is_free (other form.List) = true
is_free (other form.Group) = true
is_free (branches n) = true
is_free t = false

-- A thing comes from these: it is free or stands among them, is the topic of a line, a query with other parts, a query that stood as a value, an
-- anonymous variable or a word of a choice; or it is the equation that tests a choice.
pub data ComesFrom (ts : List Thing) : Thing → Type 0 where
  free : (t : Thing) → is_free t ≡ true → ComesFrom ts t
  same : (t : Thing) → Contains ts t → ComesFrom ts t
  topic : (n : List ℕ) → Contains ts (topic_line n) → ComesFrom ts (object n)
  again : (r : Role) (ps qs : Parts) → name_of ps ≡ name_of qs → Contains ts (query r ps) → ComesFrom ts (query r qs)
  asked : (ps qs : Parts) → name_of ps ≡ name_of qs → Contains ts (query role.Nested ps) → ComesFrom ts (query role.AskedAll qs)
  left : (a b : Bool) → Contains ts (unnamed a) → ComesFrom ts (unnamed b)
  chosen : (ws : List (List ℕ)) (w : List ℕ) → Contains ts (word_choice ws) → Contains ws w → ComesFrom ts (word w)
  equation : (ps : Parts) → name_of ps ≡ codes "($ = $)" → ComesFrom ts (query role.Asked ps)

-- All that items mention with plain heads comes from what they mention.
abbrev pub MentionsComeFrom : List Item → Type 0
MentionsComeFrom is = All (ComesFrom (mentioned is)) (mentioned (plain_items None is))
