-- What an item may not have everywhere: a name that the profile refuses, and a `*` for the topic. Hold the names against docs/LANGUAGE.md, "Reserved names".
use Rattle.std.specs.Prelude.{Bool, true, false}
use Rattle.std.specs.List.{list_any}
use Rattle.dg_base.specs.Heads.{name_of}
use Rattle.dg_base.specs.Mentions.{Thing, query, current_topic, things_in}
use Rattle.dg_base.specs.Names.{name_among, refused_names}
use Rattle.dg_base.specs.Tree.{Said}

-- Whether a head, query or change is mentioned that has a name which the profile refuses.
abbrev pub is_refused : Thing → Bool
is_refused (query _ ps) = name_among (name_of ps) refused_names
is_refused t = false

-- Whether a `*` is mentioned that stands in the place of a value.
abbrev pub is_topic : Thing → Bool
is_topic current_topic = true
is_topic t = false

-- Whether a refused name stands in an item.
abbrev pub has_refused : Said → Bool
has_refused said = list_any is_refused (things_in said)

-- Whether a `*` stands in an item in the place of a value.
abbrev pub has_topic : Said → Bool
has_topic said = list_any is_topic (things_in said)
