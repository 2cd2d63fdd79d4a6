-- Items with plain heads: hold them against docs/LANGUAGE.md, "Plain heads", and the chapter of the Dialog manual on rules.
use Rattle.std.specs.Prelude.{ℕ, ◌+◌, List, [], ◌∷◌, ◌++◌, Bool, true, false, Option, Some, None, codes, decimal, if◌then◌else◌}
use Rattle.dg_base.specs.Tree as tree
use Rattle.dg_base.specs.Tree.{Part, Parts, Value, Values, Stmt, Stmts, Body, Arms, Changes}

-- What an item is rewritten with: the name of the topic, the number with which the names of its choices begin, and whether it is a declaration.
pub record Setting : Type 0 where
  pub topic : Option (List ℕ)
  pub number : ℕ
  pub declares : Bool

-- The name of an anonymous variable, which no token has.
abbrev pub unnamed_name : ℕ → List ℕ
unnamed_name n = codes "$" ++ decimal n

-- What the names of an item's choices begin with.
abbrev pub choice_mark : ℕ → List ℕ
choice_mark number = codes "S" ++ (decimal number ++ codes "-")

-- The name of the variable of a choice of words.
abbrev pub choice_name : ℕ → ℕ → List ℕ
choice_name number n = choice_mark number ++ decimal n

-- The topic, where there is one.
abbrev pub topic_value : Option (List ℕ) → Value
topic_value None = tree.current_topic
topic_value (Some name) = tree.object_name name

-- The first value among these parts, or the empty list where there is none: a head that stands as a value has one.
abbrev pub first_value : Parts → Value
first_value tree.no_parts = tree.plain_list tree.no_values
first_value (tree.part (tree.part_word w) ps) = first_value ps
first_value (tree.part (tree.part_value v) ps) = v

-- What stands for a query that stands as a value: its first value, but the query itself in a declaration.
abbrev pub standing_for : Setting → Parts → Value
standing_for c ps = if c.declares then tree.nested ps else first_value ps

abbrev mutual
  -- How many anonymous variables and choices of words stand here.
  pub new_in_value : Value → ℕ
  new_in_value (tree.num k) = 0
  new_in_value (tree.dict_word w) = 0
  new_in_value (tree.object_name w) = 0
  new_in_value tree.current_topic = 0
  new_in_value tree.anonymous = 1
  new_in_value (tree.variable w) = 0
  new_in_value (tree.plain_list vs) = new_in_values vs
  new_in_value (tree.tailed_list vs v) = new_in_values vs + new_in_value v
  new_in_value (tree.closure b) = new_in_body b
  new_in_value (tree.nested ps) = new_in_parts ps
  new_in_value (tree.word_choice ws) = 1

  pub new_in_values : Values → ℕ
  new_in_values tree.no_values = 0
  new_in_values (tree.value v vs) = new_in_value v + new_in_values vs

  pub new_in_parts : Parts → ℕ
  new_in_parts tree.no_parts = 0
  new_in_parts (tree.part p ps) = new_in_part p + new_in_parts ps

  pub new_in_part : Part → ℕ
  new_in_part (tree.part_word w) = 0
  new_in_part (tree.part_value v) = new_in_value v

  pub new_in_stmt : Stmt → ℕ
  new_in_stmt (tree.text w) = 0
  new_in_stmt (tree.print v) = new_in_value v
  new_in_stmt (tree.ask ps) = new_in_parts ps
  new_in_stmt (tree.ask_all ps) = new_in_parts ps
  new_in_stmt (tree.ask_not ps) = new_in_parts ps
  new_in_stmt (tree.group b) = new_in_body b
  new_in_stmt (tree.not_group b) = new_in_body b
  new_in_stmt (tree.now cs) = new_in_changes cs
  new_in_stmt (tree.choice arms) = new_in_arms arms
  new_in_stmt (tree.choice_else arms b) = new_in_arms arms + new_in_body b
  new_in_stmt (tree.exhaust s) = new_in_stmt s
  new_in_stmt (tree.stoppable s) = new_in_stmt s
  new_in_stmt (tree.collect v b into) = new_in_value v + new_in_body b + new_in_value into
  new_in_stmt (tree.accumulate v b into) = new_in_value v + new_in_body b + new_in_value into
  new_in_stmt (tree.select mode b) = new_in_body b
  new_in_stmt (tree.first_answer b) = new_in_body b

  pub new_in_stmts : Stmts → ℕ
  new_in_stmts tree.no_stmts = 0
  new_in_stmts (tree.stmt s ss) = new_in_stmt s + new_in_stmts ss

  pub new_in_body : Body → ℕ
  new_in_body tree.no_branches = 0
  new_in_body (tree.branch ss b) = new_in_stmts ss + new_in_body b

  pub new_in_arms : Arms → ℕ
  new_in_arms tree.no_arms = 0
  new_in_arms (tree.arm c b arms) = new_in_body c + new_in_body b + new_in_arms arms

  pub new_in_changes : Changes → ℕ
  new_in_changes tree.no_changes = 0
  new_in_changes (tree.change ps set cs) = new_in_parts ps + new_in_changes cs

abbrev mutual
  -- A value with new names, which are numbered from here on in order of appearance. An anonymous variable of a declaration gets none.
  pub plain_value : Setting → ℕ → Value → Value
  plain_value c n (tree.num k) = tree.num k
  plain_value c n (tree.dict_word w) = tree.dict_word w
  plain_value c n (tree.object_name w) = tree.object_name w
  plain_value c n tree.current_topic = topic_value c.topic
  plain_value c n tree.anonymous = if c.declares then tree.anonymous else tree.variable (unnamed_name n)
  plain_value c n (tree.variable w) = tree.variable w
  plain_value c n (tree.plain_list vs) = tree.plain_list (plain_values c n vs)
  plain_value c n (tree.tailed_list vs v) = tree.tailed_list (plain_values c n vs) (plain_value c (n + new_in_values vs) v)
  plain_value c n (tree.closure b) = tree.closure (plain_body c n b)
  plain_value c n (tree.nested ps) = standing_for c (plain_parts c n ps)
  plain_value c n (tree.word_choice ws) = tree.variable (choice_name c.number n)

  pub plain_values : Setting → ℕ → Values → Values
  plain_values c n tree.no_values = tree.no_values
  plain_values c n (tree.value v vs) = tree.value (plain_value c n v) (plain_values c (n + new_in_value v) vs)

  pub plain_parts : Setting → ℕ → Parts → Parts
  plain_parts c n tree.no_parts = tree.no_parts
  plain_parts c n (tree.part p ps) = tree.part (plain_part c n p) (plain_parts c (n + new_in_part p) ps)

  pub plain_part : Setting → ℕ → Part → Part
  plain_part c n (tree.part_word w) = tree.part_word w
  plain_part c n (tree.part_value v) = tree.part_value (plain_value c n v)

  pub plain_stmt : Setting → ℕ → Stmt → Stmt
  plain_stmt c n (tree.text w) = tree.text w
  plain_stmt c n (tree.print v) = tree.print (plain_value c n v)
  plain_stmt c n (tree.ask ps) = tree.ask (plain_parts c n ps)
  plain_stmt c n (tree.ask_all ps) = tree.ask_all (plain_parts c n ps)
  plain_stmt c n (tree.ask_not ps) = tree.ask_not (plain_parts c n ps)
  plain_stmt c n (tree.group b) = tree.group (plain_body c n b)
  plain_stmt c n (tree.not_group b) = tree.not_group (plain_body c n b)
  plain_stmt c n (tree.now cs) = tree.now (plain_changes c n cs)
  plain_stmt c n (tree.choice arms) = tree.choice (plain_arms c n arms)
  plain_stmt c n (tree.choice_else arms b) = tree.choice_else (plain_arms c n arms) (plain_body c (n + new_in_arms arms) b)
  plain_stmt c n (tree.exhaust s) = tree.exhaust (plain_stmt c n s)
  plain_stmt c n (tree.stoppable s) = tree.stoppable (plain_stmt c n s)
  plain_stmt c n (tree.collect v b into) = tree.collect (plain_value c n v) (plain_body c (n + new_in_value v) b)
      (plain_value c (n + new_in_value v + new_in_body b) into)
  plain_stmt c n (tree.accumulate v b into) = tree.accumulate (plain_value c n v) (plain_body c (n + new_in_value v) b)
      (plain_value c (n + new_in_value v + new_in_body b) into)
  plain_stmt c n (tree.select mode b) = tree.select mode (plain_body c n b)
  plain_stmt c n (tree.first_answer b) = tree.first_answer (plain_body c n b)

  pub plain_stmts : Setting → ℕ → Stmts → Stmts
  plain_stmts c n tree.no_stmts = tree.no_stmts
  plain_stmts c n (tree.stmt s ss) = tree.stmt (plain_stmt c n s) (plain_stmts c (n + new_in_stmt s) ss)

  pub plain_body : Setting → ℕ → Body → Body
  plain_body c n tree.no_branches = tree.no_branches
  plain_body c n (tree.branch ss b) = tree.branch (plain_stmts c n ss) (plain_body c (n + new_in_stmts ss) b)

  pub plain_arms : Setting → ℕ → Arms → Arms
  plain_arms c n tree.no_arms = tree.no_arms
  plain_arms c n (tree.arm a b arms) = tree.arm (plain_body c n a) (plain_body c (n + new_in_body a) b) (plain_arms c (n + new_in_body a + new_in_body b) arms)

  pub plain_changes : Setting → ℕ → Changes → Changes
  plain_changes c n tree.no_changes = tree.no_changes
  plain_changes c n (tree.change ps set cs) = tree.change (plain_parts c n ps) set (plain_changes c (n + new_in_parts ps) cs)

-- ---- what is put before a body

-- The parts of `($S = @word)`, of a variable and a word.
abbrev pub test_parts : List ℕ → List ℕ → Parts
test_parts name w = tree.part (tree.part_value (tree.variable name))
    (tree.part (tree.part_word (codes "=")) (tree.part (tree.part_value (tree.dict_word w)) tree.no_parts))

-- A branch for each word.
abbrev pub word_branches : List ℕ → List (List ℕ) → Body
word_branches name [] = tree.no_branches
word_branches name (w ∷ ws) = tree.branch (tree.stmt (tree.ask (test_parts name w)) tree.no_stmts) (word_branches name ws)

abbrev mutual
  -- What the choices of words and the queries in a head's value put before the body, in order.
  pub puts_of_value : Setting → ℕ → Value → List Stmt
  puts_of_value c n (tree.num k) = []
  puts_of_value c n (tree.dict_word w) = []
  puts_of_value c n (tree.object_name w) = []
  puts_of_value c n tree.current_topic = []
  puts_of_value c n tree.anonymous = []
  puts_of_value c n (tree.variable w) = []
  puts_of_value c n (tree.plain_list vs) = puts_of_values c n vs
  puts_of_value c n (tree.tailed_list vs v) = puts_of_values c n vs ++ puts_of_value c (n + new_in_values vs) v
  puts_of_value c n (tree.closure b) = []
  puts_of_value c n (tree.nested ps) = puts_of_parts c n ps ++ tree.ask_all (plain_parts c n ps) ∷ []
  puts_of_value c n (tree.word_choice ws) = tree.group (word_branches (choice_name c.number n) ws) ∷ []

  pub puts_of_values : Setting → ℕ → Values → List Stmt
  puts_of_values c n tree.no_values = []
  puts_of_values c n (tree.value v vs) = puts_of_value c n v ++ puts_of_values c (n + new_in_value v) vs

  pub puts_of_parts : Setting → ℕ → Parts → List Stmt
  puts_of_parts c n tree.no_parts = []
  puts_of_parts c n (tree.part p ps) = puts_of_part c n p ++ puts_of_parts c (n + new_in_part p) ps

  pub puts_of_part : Setting → ℕ → Part → List Stmt
  puts_of_part c n (tree.part_word w) = []
  puts_of_part c n (tree.part_value v) = puts_of_value c n v

-- Statements in front of others.
abbrev pub in_front : List Stmt → Stmts → Stmts
in_front [] ss = ss
in_front (p ∷ ps) ss = tree.stmt p (in_front ps ss)

-- Whether a body has one branch.
abbrev pub is_single : Body → Bool
is_single tree.no_branches = false
is_single (tree.branch ss tree.no_branches) = true
is_single (tree.branch ss (tree.branch next b)) = false

-- The statements of a body's only branch, or else the body as a group.
abbrev pub whole_body : Body → Stmts
whole_body (tree.branch ss tree.no_branches) = ss
whole_body b = tree.stmt (tree.group b) tree.no_stmts

abbrev pub is_none : List Stmt → Bool
is_none [] = true
is_none (p ∷ ps) = false

-- Statements before a whole body.
abbrev pub put_before : List Stmt → Body → Body
put_before ps b = if is_none ps then b else tree.branch (in_front ps (whole_body b)) tree.no_branches

-- The body of a rule, behind what its head puts before it.
abbrev pub rule_body : Setting → Parts → Body → Body
rule_body c ps b = put_before (puts_of_parts c 0 ps) (plain_body c (new_in_parts ps) b)
