-- The tree in which access rules are put in, or why it is refused: hold it against docs/LANGUAGE.md, "Access rules" and "Limits", and docs/REFUSALS.md.
use Rattle.std.specs.Prelude.{ℕ, ◌+◌, ◌||◌, List, [], ◌∷◌, ◌++◌, Bool, true, false, Option, Some, None, length, nat_lt}
use Rattle.std.specs.List.{list_any}
use Rattle.std.specs.Option.{is_some}
use Rattle.dg_base.specs.Heads.{name_of}
use Rattle.dg_base.specs.Names.{builtin_named, name_among, prelude_names}
use Rattle.dg_base.specs.Tree as tree
use Rattle.dg_base.specs.Tree.{Parts, Body, Changes, Said, Item}
use Rattle.dg_base.specs.Mentions.{Thing, query, things_in}
use Rattle.dg_base.specs.declared.mentions.Role.TheVariants as role
use Rattle.dg_base.specs.declared.names.Builtin.{Builtin}
use Rattle.dg_base.specs.declared.names.Builtin.TheVariants as builtin
use Rattle.dg_plain.specs.Items.{free_number}
use Rattle.dg_put.specs.Put.{Access, Spot, Level, level, rule_for, in_item, in_rule, one_change, put_parts, put_changes, put_body}

-- ---- the rules of an item

abbrev pub access_in : Said → List Access
access_in (tree.access ps b) = record { name = name_of ps; head = ps; body = b } ∷ []
access_in (tree.topic n) = []
access_in (tree.rule ps b) = []
access_in (tree.deny ps b) = []
access_in (tree.global_variable ps) = []

-- The access rules of a source, in order.
abbrev pub access_rules : List Item → List Access
access_rules [] = []
access_rules (i ∷ is) = access_in i.said ++ access_rules is

-- A rule of either sign.
abbrev pub signed_rule : Bool → Parts → Body → Said
signed_rule true ps b = tree.rule ps b
signed_rule false ps b = tree.deny ps b

-- A rule for each head, all of one body.
abbrev pub head_rules : Changes → Body → List Said
head_rules tree.no_changes b = []
head_rules (tree.change ps set heads) b = signed_rule set ps b ∷ head_rules heads b

-- What becomes of a rule: its head is put in as a change is, of which each gives a rule.
abbrev pub put_rule : Level → Spot → Bool → Parts → Body → List Said
put_rule l p set ps b = let heads = put_changes l p 0 (one_change set ps) in head_rules heads.0 (put_body l p heads.1 b).0

-- A head into which nothing is put.
abbrev pub stay : Parts → Parts
stay ps = (put_parts (level [] 0 0) in_item 0 ps).0

-- What becomes of an item. An access rule is no rule, and a declaration stays.
abbrev pub put_said : List Access → Said → List Said
put_said rules (tree.topic n) = tree.topic n ∷ []
put_said rules (tree.rule ps b) = put_rule (level rules (free_number (tree.rule ps b)) (length rules)) (in_rule (tree.rule ps b)) true ps b
put_said rules (tree.deny ps b) = put_rule (level rules (free_number (tree.deny ps b)) (length rules)) (in_rule (tree.deny ps b)) false ps b
put_said rules (tree.access ps b) = []
put_said rules (tree.global_variable ps) = tree.global_variable (stay ps) ∷ []

abbrev pub on_line : ℕ → List Said → List Item
on_line line [] = []
on_line line (s ∷ ss) = record { line = line; said = s } ∷ on_line line ss

abbrev pub put_item : List Access → Item → List Item
put_item rules i = on_line i.line (put_said rules i.said)

-- ---- what can't be changed

abbrev pub count_values : Parts → ℕ
count_values tree.no_parts = 0
count_values (tree.part (tree.part_word w) ps) = count_values ps
count_values (tree.part (tree.part_value v) ps) = count_values ps + 1

-- A built-in query but `($ has parent $)`.
abbrev pub is_kept_builtin : Option Builtin → Bool
is_kept_builtin None = false
is_kept_builtin (Some builtin.HasParent) = false
is_kept_builtin (Some b) = true

-- A predicate that gets no rule and no change: a built-in but `($ has parent $)`, one that every program has, or one of an access
-- rule of several queries that is still there, since it was negated.
abbrev pub is_closed : List Access → Parts → Bool
is_closed rules ps = is_kept_builtin (builtin_named (name_of ps)) || (name_among (name_of ps) prelude_names || is_some (rule_for rules ps))

-- A head or a change that stands where none may.
abbrev pub is_misplaced : List Access → Thing → Bool
is_misplaced rules (query role.Rule ps) = is_closed rules ps
is_misplaced rules (query (role.Changed set) ps) = is_closed rules ps || nat_lt 2 (count_values ps)
is_misplaced rules t = false

-- ---- the answer

-- All items with access rules put in.
abbrev pub put_items : List Access → List Item → List Item
put_items rules [] = []
put_items rules (i ∷ is) = put_item rules i ++ put_items rules is

-- In one of these items a head or a change stands where none may.
abbrev pub are_bad : List Access → List Item → Bool
are_bad rules [] = false
are_bad rules (i ∷ is) = list_any (is_misplaced rules) (things_in i.said) || are_bad rules is
