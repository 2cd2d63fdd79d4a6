-- The tree of a source as plain data with a list type for each kind of list: hold it against the chapters of the Dialog manual on rules, values,
-- control and the world.
use Rattle.std.specs.Prelude.{ℕ, List, [], ◌∷◌, Bool}
use Rattle.dg_base.specs.declared.program.Mode.{Mode}

mutual
  -- One part of a head: a word, or the value of a place.
  pub data Part : Type 0 where
    part_word : List ℕ → Part
    part_value : Value → Part

  -- The parts of a head.
  pub data Parts : Type 0 where
    no_parts : Parts
    part : Part → Parts → Parts

  -- A value as it is written.
  pub data Value : Type 0 where
    num : ℕ → Value
    dict_word : List ℕ → Value
    object_name : List ℕ → Value
    current_topic : Value
    anonymous : Value
    variable : List ℕ → Value
    plain_list : Values → Value
    tailed_list : Values → Value → Value
    closure : Body → Value
    nested : Parts → Value
    word_choice : List (List ℕ) → Value

  -- The elements of a list.
  pub data Values : Type 0 where
    no_values : Values
    value : Value → Values → Values

  -- One statement.
  pub data Stmt : Type 0 where
    text : List ℕ → Stmt
    print : Value → Stmt
    ask : Parts → Stmt
    ask_all : Parts → Stmt
    ask_not : Parts → Stmt
    group : Body → Stmt
    not_group : Body → Stmt
    now : Changes → Stmt
    choice : Arms → Stmt
    choice_else : Arms → Body → Stmt
    exhaust : Stmt → Stmt
    stoppable : Stmt → Stmt
    collect : Value → Body → Value → Stmt
    accumulate : Value → Body → Value → Stmt
    select : Mode → Body → Stmt
    first_answer : Body → Stmt

  -- The statements of one branch.
  pub data Stmts : Type 0 where
    no_stmts : Stmts
    stmt : Stmt → Stmts → Stmts

  -- The branches of a body.
  pub data Body : Type 0 where
    no_branches : Body
    branch : Stmts → Body → Body

  -- The conditions of a choice, each with the body that follows it.
  pub data Arms : Type 0 where
    no_arms : Arms
    arm : Body → Body → Arms → Arms

  -- The changes of one statement, each with whether it sets.
  pub data Changes : Type 0 where
    no_changes : Changes
    change : Parts → Bool → Changes → Changes

-- What an item says.
pub data Said : Type 0 where
  topic : List ℕ → Said
  rule : Parts → Body → Said
  deny : Parts → Body → Said
  access : Parts → Body → Said
  global_variable : Parts → Said

-- An item, and the line on which it begins.
pub record Item : Type 0 where
  pub line : ℕ
  pub said : Said

-- A list as parts.
abbrev pub parts_of : List Part → Parts
parts_of [] = no_parts
parts_of (p ∷ ps) = part p (parts_of ps)

-- A list as elements.
abbrev pub values_of : List Value → Values
values_of [] = no_values
values_of (v ∷ vs) = value v (values_of vs)

-- A list as statements.
abbrev pub stmts_of : List Stmt → Stmts
stmts_of [] = no_stmts
stmts_of (s ∷ ss) = stmt s (stmts_of ss)

-- A list as branches.
abbrev pub branches_of : List Stmts → Body
branches_of [] = no_branches
branches_of (b ∷ bs) = branch b (branches_of bs)

-- A list of conditions, each with its body, as arms.
abbrev pub arms_of : List (Body × Body) → Arms
arms_of [] = no_arms
arms_of (a ∷ as') = arm a.0 a.1 (arms_of as')

-- A list of heads, each with whether it is set, as changes.
abbrev pub changes_of : List (Parts × Bool) → Changes
changes_of [] = no_changes
changes_of (c ∷ cs) = change c.0 c.1 (changes_of cs)
