-- What comes of a tree when access rules are put in: hold it against docs/LANGUAGE.md, "Access rules", and the chapter of the Dialog manual on access
-- predicates.
use Rattle.std.specs.Prelude.{ℕ, zero, suc, ◌+◌, ◌&&◌, ◌||◌, List, [], ◌∷◌, ◌++◌, Bool, true, false, not, Option, Some, None, codes, decimal, nat_lt, if◌then◌else◌}
use Rattle.std.specs.Str.{bytes_eq}
use Rattle.dg_base.specs.Heads.{name_of}
use Rattle.dg_base.specs.Tree as tree
use Rattle.dg_base.specs.Tree.{Part, Parts, Value, Values, Stmt, Stmts, Body, Arms, Changes, Said}
use Rattle.dg_base.specs.Mentions.{things_in, names_in, variable_in}
use Rattle.dg_scopes.specs.Counts.{times, is_unnamed}
use Rattle.dg_plain.specs.Plain.{choice_mark}

-- An access rule, by the name of its predicate.
pub record Access : Type 0 where
  pub name : List ℕ
  pub head : Parts
  pub body : Body

-- The access rule of a query, a change or a head: the first of its predicate.
abbrev pub rule_for : List Access → Parts → Option Access
rule_for [] ps = None
rule_for (r ∷ rs) ps = if bytes_eq r.name (name_of ps) then Some r else rule_for rs ps

-- What an argument gives at one place, of the number of the next new name there: a value, and the number behind it.
abbrev pub Argument : Type 0
Argument = ℕ → Value × ℕ

-- Where something stands: which arguments are put in for which parameters, the number of the access rule's use and of a copied closure, where it
-- stands in one, the names that stand in its rule, whether it is itself an argument, and whether a closure is around it.
pub record Spot : Type 0 where
  pub given : List (List ℕ × Argument)
  pub use_number : Option ℕ
  pub copy_number : Option ℕ
  pub names : List (List ℕ)
  pub moved : Bool
  pub closed : Bool

-- The name of a parameter in an access rule's head.
abbrev pub parameter_of : Part → Option (List ℕ)
parameter_of (tree.part_value (tree.variable w)) = Some w
parameter_of h = None

abbrev pub with_argument : Option (List ℕ) → Option Argument → List (List ℕ × Argument) → List (List ℕ × Argument)
with_argument (Some w) (Some argument) given = (w, argument) ∷ given
with_argument (Some w) None given = given
with_argument None argument given = given

-- In an item that isn't an access rule.
abbrev pub in_item : Spot
in_item = record { given = []; use_number = None; copy_number = None; names = []; moved = false; closed = false }

-- In a rule of either sign.
abbrev pub in_rule : Said → Spot
in_rule said = record in_item { names = names_in variable_in (things_in said) }

-- In the body of an access rule that is put in.
abbrev pub within : List (List ℕ × Argument) → ℕ → Spot
within given n = record { given = given; use_number = Some n; copy_number = Some n; names = []; moved = false; closed = false }

-- An argument stands here, and is put in elsewhere.
abbrev pub moved_from : Spot → Spot
moved_from p = record p { moved = true }

-- In a closure that stands here.
abbrev pub in_closure : Spot → Spot
in_closure p = record p { closed = true }

-- In a closure of an argument, where it is put in: its own anonymous variables are new in each such copy.
abbrev pub in_copy : Spot → ℕ → Spot
in_copy p n = record p { copy_number = Some n; moved = false; closed = true }

-- What the names of an access rule's variables begin with where the rule is put in.
abbrev pub use_mark : ℕ → ℕ → List ℕ
use_mark mark n = choice_mark mark ++ (decimal n ++ codes "-")

-- What the names of anonymous variables begin with, of an access rule that is put in or of a copied closure: they stay anonymous.
abbrev pub copy_mark : ℕ → List ℕ
copy_mark n = codes "$" ++ decimal n

-- A name behind its mark, where it has a number.
abbrev pub marked : (ℕ → List ℕ) → Option ℕ → List ℕ → List ℕ
marked mark None w = w
marked mark (Some n) w = mark n ++ w

-- The name of a variable that is no parameter. An anonymous one that stands at several places is no closure's own, and isn't new in a copy.
abbrev pub own_name : ℕ → Spot → List ℕ → List ℕ
own_name mark p w =
    if is_unnamed w then marked copy_mark (if nat_lt 1 (times w p.names) then p.use_number else p.copy_number) w else marked (use_mark mark) p.use_number w

abbrev pub argument_for : List (List ℕ × Argument) → List ℕ → Option Argument
argument_for [] w = None
argument_for (g ∷ gs) w = if bytes_eq g.0 w then Some g.1 else argument_for gs w

-- What stands for a variable: its argument, or the variable under its name here. A closure's parameter stays.
abbrev pub own_or : ℕ → Spot → ℕ → List ℕ → Option Argument → Value × ℕ
own_or mark p n w None = (tree.variable (own_name mark p w), n)
own_or mark p n w (Some argument) = argument n

-- Whether a variable is the parameter of the closure around it.
abbrev pub is_own_parameter : Spot → List ℕ → Bool
is_own_parameter p w = p.closed && bytes_eq w (codes "_")

abbrev pub put_variable : ℕ → Spot → ℕ → List ℕ → Value × ℕ
put_variable mark p n w = if is_own_parameter p w then (tree.variable w, n) else own_or mark p n w (argument_for p.given w)

-- ---- an access rule's body

-- A query as a change, with whether it sets: a negated one is turned round.
abbrev pub change_by : Bool → Stmt → Option (Parts × Bool)
change_by set (tree.ask ps) = Some (ps, set)
change_by set (tree.ask_all ps) = Some (ps, set)
change_by set (tree.ask_not ps) = Some (ps, not set)
change_by set s = None

abbrev pub with_change : Option (Parts × Bool) → Changes → Changes
with_change None cs = cs
with_change (Some c) cs = tree.change c.0 c.1 cs

-- Queries as changes.
abbrev pub changes_in : Bool → Stmts → Changes
changes_in set tree.no_stmts = tree.no_changes
changes_in set (tree.stmt s ss) = with_change (change_by set s) (changes_in set ss)

-- The queries of an access rule's body, which is one list.
abbrev pub list_queries : Body → Stmts
list_queries tree.no_branches = tree.no_stmts
list_queries (tree.branch ss b) = ss

abbrev pub is_one : Stmts → Bool
is_one (tree.stmt s tree.no_stmts) = true
is_one ss = false

abbrev pub changes_behind : Changes → Changes → Changes
changes_behind tree.no_changes ds = ds
changes_behind (tree.change ps set cs) ds = tree.change ps set (changes_behind cs ds)

-- ---- what is put in

-- A thing that is made of another, with the number behind that.
abbrev pub made : {X Y : Type 0} → (X → Y) → X × ℕ → Y × ℕ
made f a = (f a.0, a.1)

-- What can be put in: the access rules, the number with which their variables' names begin, and how their bodies are put in, as bodies and as changes.
pub record Level : Type 0 where
  pub rules : List Access
  pub mark : ℕ
  pub inner : Spot → ℕ → Body → Body × ℕ
  pub inner_changes : Spot → ℕ → Changes → Changes × ℕ

-- A query: in its place the body of its access rule, made a statement; or this, where it has none.
abbrev pub put_query : Level → ℕ → (Body → Stmt) → Option Access → (Access → List (List ℕ × Argument)) → Stmt × ℕ → Stmt × ℕ
put_query l n statement None given other = other
put_query l n statement (Some r) given other = made statement (l.inner (within (given r) n) (n + 1) r.body)

-- An access rule that a change is replaced by: in a change that clears it has one query.
abbrev pub change_access : Bool → Option Access → Option Access
change_access set None = None
change_access set (Some r) = if set || is_one (list_queries r.body) then Some r else None

-- A change: in its place a change for each query of its access rule; or this, where it has none.
abbrev pub put_change : Level → ℕ → Bool → Option Access → (Access → List (List ℕ × Argument)) → Changes × ℕ → Changes × ℕ
put_change l n set None given other = other
put_change l n set (Some r) given other = l.inner_changes (within (given r) n) (n + 1) (changes_in set (list_queries r.body))

abbrev pub one_change : Bool → Parts → Changes
one_change set ps = tree.change ps set tree.no_changes

abbrev mutual
  -- A tree with access rules put in, at a place and from this number of a new name on, and the number behind it.
  pub put_value : Level → Spot → ℕ → Value → Value × ℕ
  put_value l p n (tree.num k) = (tree.num k, n)
  put_value l p n (tree.dict_word w) = (tree.dict_word w, n)
  put_value l p n (tree.object_name w) = (tree.object_name w, n)
  put_value l p n tree.current_topic = (tree.current_topic, n)
  put_value l p n tree.anonymous = (tree.anonymous, n)
  put_value l p n (tree.variable w) = put_variable l.mark p n w
  put_value l p n (tree.plain_list vs) = made tree.plain_list (put_values l p n vs)
  put_value l p n (tree.tailed_list vs v) = let a = put_values l p n vs in made (tree.tailed_list a.0) (put_value l p a.1 v)
  put_value l p n (tree.closure b) = made tree.closure (if p.moved then put_body l (in_copy p n) (n + 1) b else put_body l (in_closure p) n b)
  put_value l p n (tree.nested ps) = made tree.nested (put_parts l p n ps)
  put_value l p n (tree.word_choice ws) = (tree.word_choice ws, n)

  pub put_values : Level → Spot → ℕ → Values → Values × ℕ
  put_values l p n tree.no_values = (tree.no_values, n)
  put_values l p n (tree.value v vs) = let a = put_value l p n v in made (tree.value a.0) (put_values l p a.1 vs)

  pub put_parts : Level → Spot → ℕ → Parts → Parts × ℕ
  put_parts l p n tree.no_parts = (tree.no_parts, n)
  put_parts l p n (tree.part (tree.part_word w) ps) = made (tree.part (tree.part_word w)) (put_parts l p n ps)
  put_parts l p n (tree.part (tree.part_value v) ps) = let a = put_value l p n v in made (tree.part (tree.part_value a.0)) (put_parts l p a.1 ps)

  -- What is put in for a parameter, where this part is a value.
  pub argument_of : Level → Spot → Part → Option Argument
  argument_of l p (tree.part_word w) = None
  argument_of l p (tree.part_value v) = Some (λ n. put_value l p n v)

  -- The arguments of a query, by the parameters of its access rule's head.
  pub given_by : Level → Spot → Parts → Parts → List (List ℕ × Argument)
  given_by l p head tree.no_parts = []
  given_by l p tree.no_parts (tree.part q ps) = []
  given_by l p (tree.part h head) (tree.part q ps) = with_argument (parameter_of h) (argument_of l p q) (given_by l p head ps)

  pub put_stmt : Level → Spot → ℕ → Stmt → Stmt × ℕ
  put_stmt l p n (tree.text w) = (tree.text w, n)
  put_stmt l p n (tree.print v) = made tree.print (put_value l p n v)
  put_stmt l p n (tree.ask ps) = put_query l n tree.first_answer (rule_for l.rules ps) (λ r. given_by l (moved_from p) r.head ps)
      (made tree.ask (put_parts l p n ps))
  put_stmt l p n (tree.ask_all ps) = put_query l n tree.group (rule_for l.rules ps) (λ r. given_by l (moved_from p) r.head ps)
      (made tree.ask_all (put_parts l p n ps))
  put_stmt l p n (tree.ask_not ps) = put_query l n tree.not_group (rule_for l.rules ps) (λ r. given_by l (moved_from p) r.head ps)
      (made tree.ask_not (put_parts l p n ps))
  put_stmt l p n (tree.group b) = made tree.group (put_body l p n b)
  put_stmt l p n (tree.not_group b) = made tree.not_group (put_body l p n b)
  put_stmt l p n (tree.now cs) = made tree.now (put_changes l p n cs)
  put_stmt l p n (tree.choice arms) = made tree.choice (put_arms l p n arms)
  put_stmt l p n (tree.choice_else arms b) = let a = put_arms l p n arms in made (tree.choice_else a.0) (put_body l p a.1 b)
  put_stmt l p n (tree.exhaust s) = made tree.exhaust (put_stmt l p n s)
  put_stmt l p n (tree.stoppable s) = made tree.stoppable (put_stmt l p n s)
  put_stmt l p n (tree.collect v b into) =
      let a = put_value l p n v in let c = put_body l p a.1 b in made (tree.collect a.0 c.0) (put_value l p c.1 into)
  put_stmt l p n (tree.accumulate v b into) =
      let a = put_value l p n v in let c = put_body l p a.1 b in made (tree.accumulate a.0 c.0) (put_value l p c.1 into)
  put_stmt l p n (tree.select mode b) = made (tree.select mode) (put_body l p n b)
  put_stmt l p n (tree.first_answer b) = made tree.first_answer (put_body l p n b)

  pub put_stmts : Level → Spot → ℕ → Stmts → Stmts × ℕ
  put_stmts l p n tree.no_stmts = (tree.no_stmts, n)
  put_stmts l p n (tree.stmt s ss) = let a = put_stmt l p n s in made (tree.stmt a.0) (put_stmts l p a.1 ss)

  pub put_body : Level → Spot → ℕ → Body → Body × ℕ
  put_body l p n tree.no_branches = (tree.no_branches, n)
  put_body l p n (tree.branch ss b) = let a = put_stmts l p n ss in made (tree.branch a.0) (put_body l p a.1 b)

  pub put_arms : Level → Spot → ℕ → Arms → Arms × ℕ
  put_arms l p n tree.no_arms = (tree.no_arms, n)
  put_arms l p n (tree.arm c b arms) = let a = put_body l p n c in let d = put_body l p a.1 b in made (tree.arm a.0 d.0) (put_arms l p d.1 arms)

  pub put_changes : Level → Spot → ℕ → Changes → Changes × ℕ
  put_changes l p n tree.no_changes = (tree.no_changes, n)
  put_changes l p n (tree.change ps set cs) =
      let access = change_access set (rule_for l.rules ps) in
      let a = put_change l n set access (λ r. given_by l (moved_from p) r.head ps) (made (one_change set) (put_parts l p n ps)) in
      made (changes_behind a.0) (put_changes l p a.1 cs)

-- Access rules are put in to this depth: so many of them one in the other. Where none reaches itself, the number of all of them is enough.
abbrev pub level : List Access → ℕ → ℕ → Level
level rules mark zero = record { rules = []; mark = mark; inner = λ p n b. (b, n); inner_changes = λ p n cs. (cs, n) }
level rules mark (suc depth) = record {
  rules = rules;
  mark = mark;
  inner = put_body (level rules mark depth);
  inner_changes = put_changes (level rules mark depth);
}
