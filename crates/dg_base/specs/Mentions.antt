-- What an item mentions, in the order in which it stands there: hold it against docs/LANGUAGE.md, "Names" and "Limits", and the chapters of the
-- Dialog manual on rules, values and control.
use Rattle.std.specs.Prelude.{ℕ, ◌+◌, List, [], ◌∷◌, ◌++◌, Bool, true, false}
use Rattle.dg_base.specs.Tree as tree
use Rattle.dg_base.specs.Tree.{Parts, Value, Values, Stmt, Stmts, Body, Arms, Changes, Said, Item}
use Rattle.dg_base.specs.declared.mentions.Role.{Role}
use Rattle.dg_base.specs.declared.mentions.Role.TheVariants as role
use Rattle.dg_base.specs.declared.mentions.Form.{Form}
use Rattle.dg_base.specs.declared.mentions.Form.TheVariants as form

-- One thing that a tree mentions.
pub data Thing : Type 0 where
  -- the name of a topic's line
  topic_line : List ℕ → Thing
  -- a head, a query or a change, by its role
  query : Role → Parts → Thing
  number : ℕ → Thing
  word : List ℕ → Thing
  object : List ℕ → Thing
  -- a `*` in the place of a value
  current_topic : Thing
  -- an anonymous variable, and whether a rule with plain heads has it at two places
  unnamed : Bool → Thing
  variable : List ℕ → Thing
  -- a choice of words, from left to right
  word_choice : List (List ℕ) → Thing
  text : List ℕ → Thing
  -- a list, or a statement of another form
  other : Form → Thing
  -- a body, by the number of its branches
  branches : ℕ → Thing
  -- a select, by the number of its branches
  select : ℕ → Thing
  closure : Thing

-- What stands somewhere: one thing after the other, a closure by what its body mentions.
pub data Mentions : Type 0 where
  nothing : Mentions
  thing : Thing → Mentions → Mentions
  closed : Mentions → Mentions → Mentions

-- Some mentions, and then others.
abbrev pub join : Mentions → Mentions → Mentions
join nothing after = after
join (thing t ms) after = thing t (join ms after)
join (closed inner ms) after = closed inner (join ms after)

-- One mention.
abbrev pub one : Thing → Mentions
one t = thing t nothing

-- The number of branches of a body.
abbrev pub branches_in : Body → ℕ
branches_in tree.no_branches = 0
branches_in (tree.branch ss b) = branches_in b + 1

-- A body, and what stands in its branches.
abbrev pub body : Body → Mentions → Mentions
body b inner = thing (branches (branches_in b)) inner

-- In each of these, twice says that what stands here comes to stand at two places of a rule with plain heads.
abbrev mutual
  pub of_parts : Bool → Parts → Mentions
  of_parts twice tree.no_parts = nothing
  of_parts twice (tree.part (tree.part_word w) ps) = of_parts twice ps
  of_parts twice (tree.part (tree.part_value v) ps) = join (of_value twice v) (of_parts twice ps)

  -- The parts of a query that stands as a value: its first value comes to stand for it, and in the query before the body.
  pub of_nested : Bool → Parts → Mentions
  of_nested twice tree.no_parts = nothing
  of_nested twice (tree.part (tree.part_word w) ps) = of_nested twice ps
  of_nested twice (tree.part (tree.part_value v) ps) = join (of_value true v) (of_parts twice ps)

  pub of_value : Bool → Value → Mentions
  of_value twice (tree.num n) = one (number n)
  of_value twice (tree.dict_word w) = one (word w)
  of_value twice (tree.object_name n) = one (object n)
  of_value twice tree.current_topic = one current_topic
  of_value twice tree.anonymous = one (unnamed twice)
  of_value twice (tree.variable n) = one (variable n)
  of_value twice (tree.plain_list vs) = thing (other form.List) (of_values twice vs)
  of_value twice (tree.tailed_list vs v) = thing (other form.List) (join (of_values twice vs) (of_value twice v))
  of_value twice (tree.closure b) = closed (body b (of_branches twice b)) nothing
  of_value twice (tree.nested ps) = thing (query role.Nested ps) (of_nested twice ps)
  of_value twice (tree.word_choice ws) = one (word_choice ws)

  pub of_values : Bool → Values → Mentions
  of_values twice tree.no_values = nothing
  of_values twice (tree.value v vs) = join (of_value twice v) (of_values twice vs)

  pub of_stmt : Bool → Stmt → Mentions
  of_stmt twice (tree.text w) = one (text w)
  of_stmt twice (tree.print v) = thing (other form.Print) (of_value twice v)
  of_stmt twice (tree.ask ps) = thing (query role.Asked ps) (of_parts twice ps)
  of_stmt twice (tree.ask_all ps) = thing (query role.AskedAll ps) (of_parts twice ps)
  of_stmt twice (tree.ask_not ps) = thing (query role.AskedNot ps) (of_parts twice ps)
  of_stmt twice (tree.group b) = thing (other form.Group) (body b (of_branches twice b))
  of_stmt twice (tree.not_group b) = thing (other form.NotGroup) (body b (of_branches twice b))
  of_stmt twice (tree.now cs) = thing (other form.Now) (of_changes twice cs)
  of_stmt twice (tree.choice arms) = thing (other form.If) (of_arms twice arms)
  of_stmt twice (tree.choice_else arms b) = thing (other form.If) (join (of_arms twice arms) (body b (of_branches twice b)))
  of_stmt twice (tree.exhaust s) = thing (other form.Exhaust) (of_stmt twice s)
  of_stmt twice (tree.stoppable s) = thing (other form.Stoppable) (of_stmt twice s)
  of_stmt twice (tree.collect v b into) = thing (other form.Collect) (join (of_value twice v) (join (body b (of_branches twice b)) (of_value twice into)))
  of_stmt twice (tree.accumulate v b into) = thing (other form.Accumulate) (join (of_value twice v) (join (body b (of_branches twice b)) (of_value twice into)))
  of_stmt twice (tree.select mode b) = thing (select (branches_in b)) (of_branches twice b)
  of_stmt twice (tree.first_answer b) = thing (other form.First) (body b (of_branches twice b))

  pub of_stmts : Bool → Stmts → Mentions
  of_stmts twice tree.no_stmts = nothing
  of_stmts twice (tree.stmt s ss) = join (of_stmt twice s) (of_stmts twice ss)

  pub of_branches : Bool → Body → Mentions
  of_branches twice tree.no_branches = nothing
  of_branches twice (tree.branch ss b) = join (of_stmts twice ss) (of_branches twice b)

  pub of_arms : Bool → Arms → Mentions
  of_arms twice tree.no_arms = nothing
  of_arms twice (tree.arm c b arms) = join (body c (of_branches twice c)) (join (body b (of_branches twice b)) (of_arms twice arms))

  pub of_changes : Bool → Changes → Mentions
  of_changes twice tree.no_changes = nothing
  of_changes twice (tree.change ps set cs) = thing (query (role.Changed set) ps) (join (of_parts twice ps) (of_changes twice cs))

-- What a body mentions.
abbrev pub of_body : Bool → Body → Mentions
of_body twice b = body b (of_branches twice b)

-- What a rule mentions, its head having this role.
abbrev pub of_rule : Role → Parts → Body → Mentions
of_rule r ps b = thing (query r ps) (join (of_parts false ps) (of_body false b))

-- What an item mentions.
abbrev pub of_said : Said → Mentions
of_said (tree.topic n) = one (topic_line n)
of_said (tree.rule ps b) = of_rule role.Rule ps b
of_said (tree.deny ps b) = of_rule role.Rule ps b
of_said (tree.access ps b) = of_rule role.Access ps b
of_said (tree.global_variable ps) = thing (query role.Declared ps) (of_parts false ps)

-- ---- at every depth

-- Each thing that is mentioned, a closure before what stands in it.
abbrev pub things : Mentions → List Thing
things nothing = []
things (thing t ms) = t ∷ things ms
things (closed inner ms) = closure ∷ (things inner ++ things ms)

-- What each closure mentions.
abbrev pub closures : Mentions → List Mentions
closures nothing = []
closures (thing t ms) = closures ms
closures (closed inner ms) = inner ∷ (closures inner ++ closures ms)

-- What an item mentions, at every depth.
abbrev pub things_in : Said → List Thing
things_in said = things (of_said said)

-- What items mention, at every depth.
abbrev pub mentioned : List Item → List Thing
mentioned [] = []
mentioned (i ∷ is) = things_in i.said ++ mentioned is

-- ---- questions

-- The names that these things give.
abbrev pub names_in : (Thing → List (List ℕ)) → List Thing → List (List ℕ)
names_in given [] = []
names_in given (t ∷ ts) = given t ++ names_in given ts

-- What these things weigh together.
abbrev pub weight_of : (Thing → ℕ) → List Thing → ℕ
weight_of weight [] = 0
weight_of weight (t ∷ ts) = weight_of weight ts + weight t

-- The name of a variable.
abbrev pub variable_in : Thing → List (List ℕ)
variable_in (variable n) = n ∷ []
variable_in t = []
