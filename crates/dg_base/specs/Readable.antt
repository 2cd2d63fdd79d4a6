-- What can be printed of what is read: hold it against docs/LANGUAGE.md, "Characters and tokens", and on numbers the chapter of the Dialog manual on values.
use Rattle.std.specs.Prelude.{◌≤◌, All}
use Rattle.dg_base.specs.Heads.{name_of}
use Rattle.dg_base.specs.Mentions.{Thing, topic_line, query, number, word, object, word_choice, text, select}
use Rattle.dg_base.specs.Sound.{IsName}

-- A number is in its range, a name or a text can be printed, and a select has a branch.
abbrev pub IsReadable : Thing → Type 0
IsReadable (topic_line n) = IsName n
IsReadable (query _ ps) = IsName (name_of ps)
IsReadable (number n) = n ≤ 16383
IsReadable (word w) = IsName w
IsReadable (object n) = IsName n
IsReadable (word_choice ws) = All IsName ws
IsReadable (text w) = IsName w
IsReadable (select n) = 1 ≤ n
IsReadable t = Unit {0}
