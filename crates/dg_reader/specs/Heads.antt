-- The rules that items keep beside the grammar: hold them against docs/LANGUAGE.md, "Head rules" and "Reserved names", and the chapters of the Dialog
-- manual on rules, access predicates and global variables.
use Rattle.std.specs.Prelude.{ℕ, ◌&&◌, ◌||◌, List, Bool, true, false, not, Option, Some, None, codes, if◌then◌else◌}
use Rattle.std.specs.Option.{is_some}
use Rattle.std.specs.Str.{bytes_eq}
use Rattle.dg_base.specs.Heads.{name_of}
use Rattle.dg_base.specs.Names.{keywords, prelude_names, name_among, builtin_named}
use Rattle.dg_base.specs.Tree.{Part, part_word, part_value, Parts, no_parts, part, Value, num, dict_word, object_name, current_topic, anonymous, variable, plain_list, nested, Values, no_values, value, Stmt, ask, ask_all, ask_not, Stmts, no_stmts, stmt, Body, no_branches, branch, Said, rule, deny, access}
use Rattle.dg_base.specs.declared.refusal.Kind.{Kind}
use Rattle.dg_base.specs.declared.refusal.Kind.TheVariants.{NotInProfile, BadHead}
use Rattle.dg_open.specs.Shapes.{Sign, plain_rule, negated, access_rule}
use Rattle.dg_reader.specs.Grammar.{is_declaration}
use Rattle.dg_reader.specs.Profile.{has_refused, has_topic}

-- ---- names

-- A built-in query, but for that of parents, which a source may give rules to.
abbrev pub is_fixed : List ℕ → Bool
is_fixed name = is_some (builtin_named name) && not (bytes_eq (codes "($ has parent $)") name)

-- The name of a keyword, of a predicate of the prelude, or of such a query.
abbrev pub is_reserved : List ℕ → Bool
is_reserved name = name_among name keywords || (name_among name prelude_names || is_fixed name)

-- ---- values in a head

-- A value stands among these parts.
abbrev pub has_value : Parts → Bool
has_value no_parts = false
has_value (part (part_word w) ps) = has_value ps
has_value (part (part_value v) ps) = true

-- A query in a head has a value of its own.
abbrev pub has_own_value : Value → Bool
has_own_value (nested ps) = has_value ps
has_own_value v = true

-- Each query among these parts has a value.
abbrev pub queries_have_values : Parts → Bool
queries_have_values no_parts = true
queries_have_values (part (part_word w) ps) = queries_have_values ps
queries_have_values (part (part_value v) ps) = has_own_value v && queries_have_values ps

-- ---- access rules

-- A part is this variable.
abbrev pub is_variable : List ℕ → Part → Bool
is_variable name (part_value (variable w)) = bytes_eq w name
is_variable name p = false

-- This variable stands among these parts.
abbrev pub has_variable : List ℕ → Parts → Bool
has_variable name no_parts = false
has_variable name (part p ps) = is_variable name p || has_variable name ps

-- The values are named variables, and none stands twice.
abbrev pub are_distinct_variables : Parts → Bool
are_distinct_variables no_parts = true
are_distinct_variables (part (part_word w) ps) = are_distinct_variables ps
are_distinct_variables (part (part_value (variable w)) ps) = not (has_variable w ps) && are_distinct_variables ps
are_distinct_variables (part (part_value v) ps) = false

-- A query, for one answer, for all, or for none.
abbrev pub is_query_stmt : Stmt → Bool
is_query_stmt (ask ps) = true
is_query_stmt (ask_all ps) = true
is_query_stmt (ask_not ps) = true
is_query_stmt s = false

-- Queries alone.
abbrev pub are_queries : Stmts → Bool
are_queries no_stmts = true
are_queries (stmt s ss) = is_query_stmt s && are_queries ss

-- No statement.
abbrev pub is_empty_branch : Stmts → Bool
is_empty_branch no_stmts = true
is_empty_branch (stmt s ss) = false

-- One query at least, and queries alone.
abbrev pub is_access_branch : Stmts → Bool
is_access_branch ss = not (is_empty_branch ss) && are_queries ss

-- One such branch.
abbrev pub is_access_body : Body → Bool
is_access_body (branch ss no_branches) = is_access_branch ss
is_access_body b = false

-- An access rule has distinct variables in its head and queries for its body; of other rules nothing is asked here.
abbrev pub keeps_access_rules : Sign → Parts → Body → Bool
keeps_access_rules access_rule ps b = are_distinct_variables ps && is_access_body b
keeps_access_rules sign ps b = true

-- ---- declarations

abbrev mutual
  -- A number, a word, an object, or a list of such values without a tail.
  pub is_constant : Value → Bool
  is_constant (num n) = true
  is_constant (dict_word w) = true
  is_constant (object_name w) = true
  is_constant (plain_list vs) = are_constants vs
  is_constant v = false

  pub are_constants : Values → Bool
  are_constants no_values = true
  are_constants (value v vs) = is_constant v && are_constants vs

-- What a global variable may begin with: such a value, the topic, or nothing.
abbrev pub is_start : Value → Bool
is_start current_topic = true
is_start anonymous = true
is_start v = is_constant v

-- One value stands among these parts, and a global variable may begin with it.
abbrev pub has_one_start : Parts → Bool
has_one_start no_parts = false
has_one_start (part (part_word w) ps) = has_one_start ps
has_one_start (part (part_value v) ps) = not (has_value ps) && is_start v

-- A query may be declared: it isn't built in, and has one value to begin with.
abbrev pub can_be_declared : Parts → Bool
can_be_declared ps = not (is_some (builtin_named (name_of ps))) && has_one_start ps

-- One branch without statements.
abbrev pub is_empty_body : Body → Bool
is_empty_body (branch ss no_branches) = is_empty_branch ss
is_empty_body b = false

-- A query in the place of a value.
abbrev pub query_in : Part → Option Parts
query_in (part_value (nested ps)) = Some ps
query_in p = None

-- The query that stands behind the two words of a declaration, where nothing else does.
abbrev pub declared_query : Parts → Option Parts
declared_query (part p (part q (part r no_parts))) = query_in r
declared_query ps = None

-- There is such a query, and it may be declared.
abbrev pub declares_query : Option Parts → Bool
declares_query None = false
declares_query (Some ps) = can_be_declared ps

-- No sign stands before a head.
abbrev pub is_unsigned : Sign → Bool
is_unsigned plain_rule = true
is_unsigned sign = false

-- A declaration has no sign, no body, and a query that may be declared.
abbrev pub keeps_declaration_rules : Sign → Parts → Body → Bool
keeps_declaration_rules sign ps b = (is_unsigned sign && is_empty_body b) && declares_query (declared_query ps)

-- ---- items

-- The rules of its kind: of a declaration, or of another head.
abbrev pub keeps_own_rules : Sign → Parts → Body → Bool
keeps_own_rules sign ps b = if is_declaration ps then keeps_declaration_rules sign ps b else queries_have_values ps && keeps_access_rules sign ps b

-- The name that a rule's head may have, and the rules of its kind.
abbrev pub keeps_head_rules : Sign → Parts → Body → Bool
keeps_head_rules sign ps b = not (is_reserved (name_of ps)) && keeps_own_rules sign ps b

-- The rules of the head that an item has.
abbrev pub keeps_rules : Said → Bool
keeps_rules (rule ps b) = keeps_head_rules plain_rule ps b
keeps_rules (deny ps b) = keeps_head_rules negated ps b
keeps_rules (access ps b) = keeps_head_rules access_rule ps b
keeps_rules said = true

-- A `*` in the place of a value stands behind a topic.
abbrev pub keeps_topic_rule : Bool → Said → Bool
keeps_topic_rule behind_topic said = behind_topic || not (has_topic said)

-- Why an item is refused: a refused name stands in it, or else it breaks a rule.
abbrev pub fault_of : Bool → Said → Option Kind
fault_of behind_topic said = if has_refused said then Some NotInProfile else if keeps_topic_rule behind_topic said && keeps_rules said then None
    else Some BadHead
