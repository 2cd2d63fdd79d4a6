-- How many selects stand in what is mentioned.
use Rattle.std.proofs.Common.{◌≡◌, ◌+◌, Bool, true, false, refl, arith}
use Rattle.dg_base.specs.Mentions as mentions
use Rattle.dg_base.specs.Mentions.{Mentions, nothing, thing, closed, join, of_value, of_values, of_parts, of_nested, of_body, of_changes}
use Rattle.dg_base.specs.Tree as tree
use Rattle.dg_base.specs.Tree.{Parts, Value, Values, Body, Changes}
use Rattle.dg_core.specs.Goals.{count_selects}

pub selects_join : (a b : Mentions) → count_selects (join a b) ≡ count_selects a + count_selects b
selects_join nothing b = omega arith
selects_join (thing (mentions.select n) ms) b = omega (arith, selects_join ms b)
selects_join (thing t ms) b = selects_join ms b
selects_join (closed inner ms) b = selects_join ms b

-- no select stands in a value outside closures
mutual
  pub value_counted : (t : Bool) (v : Value) → count_selects (of_value t v) ≡ 0
  value_counted t (tree.num n) = refl
  value_counted t (tree.dict_word w) = refl
  value_counted t (tree.object_name w) = refl
  value_counted t tree.current_topic = refl
  value_counted t tree.anonymous = refl
  value_counted t (tree.variable w) = refl
  value_counted t (tree.plain_list vs) = values_counted t vs
  value_counted t (tree.tailed_list vs v) = omega (arith, selects_join (of_values t vs) (of_value t v), values_counted t vs, value_counted t v)
  value_counted t (tree.closure b) = refl
  value_counted t (tree.nested ps) = nested_counted t ps
  value_counted t (tree.word_choice ws) = refl

  values_counted : (t : Bool) (vs : Values) → count_selects (of_values t vs) ≡ 0
  values_counted t tree.no_values = refl
  values_counted t (tree.value v vs) = omega (arith, selects_join (of_value t v) (of_values t vs), value_counted t v, values_counted t vs)

  nested_counted : (t : Bool) (ps : Parts) → count_selects (of_nested t ps) ≡ 0
  nested_counted t tree.no_parts = refl
  nested_counted t (tree.part (tree.part_word w) ps) = nested_counted t ps
  nested_counted t (tree.part (tree.part_value v) ps) = omega (arith, selects_join (of_value true v) (of_parts t ps), value_counted true v, parts_counted t ps)

  pub parts_counted : (t : Bool) (ps : Parts) → count_selects (of_parts t ps) ≡ 0
  parts_counted t tree.no_parts = refl
  parts_counted t (tree.part (tree.part_word w) ps) = parts_counted t ps
  parts_counted t (tree.part (tree.part_value v) ps) = omega (arith, selects_join (of_value t v) (of_parts t ps), value_counted t v, parts_counted t ps)

pub changes_counted : (cs : Changes) → count_selects (of_changes false cs) ≡ 0
changes_counted tree.no_changes = refl
changes_counted (tree.change ps set cs) = omega (arith, selects_join (of_parts false ps) (of_changes false cs), parts_counted false ps, changes_counted cs)

pub gathering_counted : (v : Value) (b : Body) (into : Value) → count_selects (join (of_value false v) (join (of_body false b) (of_value false into))) ≡ count_selects (of_body false b)
gathering_counted v b into =
    omega (arith, selects_join (of_value false v) (join (of_body false b) (of_value false into)), selects_join (of_body false b) (of_value false into), value_counted false v, value_counted false into)
