-- What short forms stand for in a tree. Hold it against dg_base/specs/Tree.antt.
use Rattle.std.specs.Prelude.{ℕ, List, map}
use Rattle.dg_base.specs.Tree as tree
use Rattle.dg_prelude.specs.declared.puts.Short.{Short}
use Rattle.dg_prelude.specs.declared.puts.Short.TheVariants as short
use Rattle.dg_prelude.specs.declared.puts.Bit.{Bit}
use Rattle.dg_prelude.specs.declared.puts.Bit.TheVariants as bit

-- A variable.
abbrev pub short_value : Short → tree.Value
short_value short.Any = tree.anonymous
short_value (short.Var name) = tree.variable name.now

-- A part of a head.
abbrev pub short_part : Bit → tree.Part
short_part (bit.Word text) = tree.part_word text.now
short_part (bit.Value v) = tree.part_value (short_value v)
short_part bit.Nil = tree.part_value (tree.plain_list tree.no_values)
short_part (bit.Cons head tail) = tree.part_value (tree.tailed_list (tree.value (short_value head) tree.no_values) (short_value tail))

-- A body that asks one query.
abbrev pub asking : List Bit → tree.Body
asking bits = tree.branch (tree.stmt (tree.ask (tree.parts_of (map short_part bits))) tree.no_stmts) tree.no_branches
