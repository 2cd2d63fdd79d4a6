-- What an item is by its first tokens: hold it against the chapter of the Dialog manual on rules.
use Rattle.std.specs.Prelude.{ℕ, List}
use Rattle.dg_base.specs.Tree.{Parts, Body}

-- What the sign before a head makes of it.
pub data Sign : Type 0 where
  plain_rule : Sign
  negated : Sign
  access_rule : Sign

-- What an item is, before its head is looked at.
pub data Shape : Type 0 where
  topic_line : List ℕ → Shape
  clause : Sign → Parts → Body → Shape
