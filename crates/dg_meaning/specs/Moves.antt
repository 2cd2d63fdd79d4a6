-- What comes of one goal. Hold it against the Dialog manual, chapters "Choice points" and "Control flow", and docs/LANGUAGE.md, where it says what a
-- limit counts.
use Rattle.std.specs.Prelude.{ℕ, zero, suc, ◌+◌, ◌-◌, ◌*◌, ◌++◌, nat_lt, List, [], ◌∷◌, Option, Some, None, is_some, Bool, true, false, length, map, take, get_or, slice_get, slice_set, if◌then◌else◌}
use Rattle.std.specs.List.{zip, sum_by}
use Rattle.dg_base.specs.declared.program.Term.{Term}
use Rattle.dg_base.specs.declared.program.Term.TheVariants.{Var as Var-Term}
use Rattle.dg_base.specs.declared.program.Goal.{Goal, Goal-F}
use Rattle.dg_base.specs.declared.program.Goal.TheVariants.{Forever as Forever-Goal}
use Rattle.dg_base.specs.declared.program.Goal.TheOpen.{Text, Print as Print-Form, Gap, GapN, Equal, Ask, Holds, Now, Query, Either, Once, Not, If, Just, Fail, Stop, Quit, Forever, Exhaust, Collect, Accumulate, Stoppable, Select, Arith, Compare, Random, Test, IsObject, Input, SplitWord, JoinWords}
use Rattle.dg_base.specs.declared.program.GapKind.TheVariants.{Line}
use Rattle.dg_base.specs.declared.program.Mode.{Mode}
use Rattle.dg_base.specs.declared.program.PlaceKind.{PlaceKind}
use Rattle.dg_base.specs.declared.program.PlaceKind.TheVariants.{Flag, Global}
use Rattle.dg_base.specs.declared.program.Rule.{Rule}
use Rattle.dg_base.specs.declared.program.ClosureBody.{ClosureBody}
use Rattle.dg_base.specs.declared.program.Pred.{Pred}
use Rattle.dg_base.specs.declared.program.TestKind.{TestKind}
use Rattle.dg_base.specs.declared.program.TestKind.TheVariants.{FullyBound}
use Rattle.dg_base.specs.declared.run.Ending.TheVariants.{Quit as Quit-Ending, Stopped, InputEnded}
use Rattle.dg_base.specs.Goals.{terms_held, option_terms}
use Rattle.dg_base.specs.Units.{units_of}
use Rattle.dg_meaning.specs.Values.{Num, Object, Closure, Value, Var, Node, Values, leaf, value_of}
use Rattle.dg_meaning.specs.Substitutions.{Substitution, walk, links, resolved}
use Rattle.dg_meaning.specs.Unify.{Unified, Equations, looks, size, solve}
use Rattle.dg_meaning.specs.Letters.{copied, compared}
use Rattle.dg_meaning.specs.Selection.{first_excludes, from_candidate}
use Rattle.dg_meaning.specs.Copies.{list_of, values_of, vars_in, copy_from, copy_cells}
use Rattle.dg_meaning.specs.Numbers.{of_numbers, calculated, thrown, are_in_order, total}
use Rattle.dg_meaning.specs.Words.{first_line, behind_first, line_value, spelled_value, spelled_list, letters_in_word, each_alone, joined_letters, reading}
use Rattle.dg_meaning.specs.Facts.{value_at, Alteration, kinds_of}
use Rattle.dg_meaning.specs.Choosing.{die, picked, picks_at, Choice, choice_by as chosen}
use Rattle.dg_meaning.specs.World.{Game, World, Print, Piece, GapOf, SpacesOf, Prints, Asked, HasFailed, prints, noted, worked, reached, gathered_at, opened, dropped, drew}
use Rattle.dg_meaning.specs.Cells.{cells, writing}
use Rattle.dg_meaning.specs.Pieces.{pieces}
use Rattle.dg_meaning.specs.TypeTests.{passes}
use Rattle.dg_meaning.specs.Path.{Step, Do, Answers, Cut, Refuse, Back, Keep, Leave, Registers, Path, Whole, AsList, AsSum, Branch, Enter, Clash, TakeOut, Finds, ChoiceKind, Plain, Rules, Shield, Gathers, Move, GoesOn, FailsAt, EndsAt, StopsAt, Outcome, Moves, Chooses, Act, Goes, Tests, Unifies, Ends, Fails, Stops, Effect, Acts, Offers}
use Rattle.dg_meaning.specs.Render.{growth, characters}
use Rattle.dg_meaning.specs.Changes.{found, change_of, changed, changing}

-- ## The world

-- The world in which something more is printed; the characters that appear are work.
abbrev pub printed : Print → World → World
printed e w = worked (characters (growth (prints w.events) e)) (noted (Prints e) w)

-- The world in which these pieces are printed, one after another.
abbrev pub all_printed : List (List ℕ) → World → World
all_printed [] w = w
all_printed (piece ∷ others) w = all_printed others (printed (Piece piece) w)

-- The world in which a choice has no branch left.
abbrev pub exhausted : ChoiceKind → World → World
exhausted (Rules pred) w = noted (HasFailed pred) w
exhausted k w = w

-- The world in which these registers were reached, with more work done.
abbrev pub begun : Registers → ℕ → World → World
begun r work w = worked work (reached r.heap r.trail w)

-- ## Paths

-- The path of these steps and registers.
abbrev pub path_of : List Step → Registers → Path
path_of steps r = record { steps = steps; registers = r }

-- A list of goals as steps, among these values of the variables of their rule, whose (just) cuts to the tag.
abbrev pub goals_at : List Value → ℕ → List Goal → List Step
goals_at env t [] = []
goals_at env t (g ∷ gs) = Do g env t ∷ goals_at env t gs

-- The registers with so many more heap cells.
abbrev pub more_heap : ℕ → Registers → Registers
more_heap heap r = record r { heap = r.heap + heap }

-- The registers inside the next choice, with so many more heap cells.
abbrev pub inside : ℕ → Registers → Registers
inside heap r = record r { next_tag = r.next_tag + 1; heap = r.heap + heap }

-- The registers with what a unification has bound, and so many bindings more on the trail.
abbrev pub bound_by : Unified → ℕ → Registers → Registers
bound_by u trail r = record r { bound = u.subst; trail = r.trail + trail }

-- The bindings in front of an older substitution.
abbrev pub made_since : Substitution → Substitution → Substitution
made_since old new = take (length new - length old) new

-- How many of these bindings are of variables older than x.
abbrev pub older_bound : ℕ → Substitution → ℕ
older_bound x [] = 0
older_bound x (p ∷ S) = (if nat_lt p.0 x then 1 else 0) + older_bound x S

-- ## The branches of a choice

-- A branch of the next choice, with its heap cells and the work of beginning it.
abbrev pub enter : ℕ → ℕ → Registers → List Step → Branch
enter heap work r steps = Enter (path_of steps (inside heap r)) work

-- A branch with this path and work, or one that has failed where it begins.
abbrev pub enter_if : Bool → Path → ℕ → Branch
enter_if true path work = Enter path work
enter_if false path work = Clash path.registers work

-- The heap cells of a choice with so many arguments, in a branch with these behind it: the last branch has none.
abbrev pub choice_cells : {A : Type 0} → ℕ → List A → ℕ
choice_cells arguments [] = 0
choice_cells arguments (b ∷ bs) = 10 + arguments

-- A branch for each of the lists between (or).
abbrev pub list_branches : List Value → ℕ → List Step → Registers → List (List Goal) → List Branch
list_branches env t steps r [] = []
list_branches env t steps r (goals ∷ lists) = enter (choice_cells 0 lists) 1 r (goals_at env t goals ++ steps) ∷ list_branches env t steps r lists

-- ## Rules

-- A query takes the first answer alone, unless all are wanted.
abbrev pub first_alone : Bool → ℕ → List Step → List Step
first_alone true t steps = steps
first_alone false t steps = Cut t ∷ steps

-- The steps of a rule that is entered, among these values of its variables.
abbrev pub rule_steps : ℕ → Bool → List Value → ℕ → Rule → List Step → List Step
rule_steps pred many env t rule steps = goals_at env t rule.body ++ Answers pred ∷ first_alone many t steps

-- So many new variables, numbered from this on.
abbrev pub new_vars : ℕ → ℕ → List Value
new_vars zero next = []
new_vars (suc n) next = Var next ∷ new_vars n (suc next)

-- The variables of a rule that is entered.
abbrev pub vars_of : Rule → Registers → List Value
vars_of rule r = new_vars rule.vars r.next_var

-- The registers where a body with so many new variables and a head is entered inside the next choice, before the head is matched: 6 cells, the new
-- variables and the head.
abbrev pub entered_with : Game → ℕ → ℕ → List Term → Registers → Registers
entered_with g heap own head r = record (inside (heap + 6 + own + cells g.program head) r) { next_var = r.next_var + own }

-- The same for a rule.
abbrev pub entered : Game → ℕ → Rule → Registers → Registers
entered g heap rule r = entered_with g heap rule.vars rule.head r

-- Arguments and a head, among the values of its variables, side by side; an argument or head term without one at its place is left out.
abbrev pub head_equations : Game → List Value → List Value → List Term → Equations
head_equations g args env head = zip args (map (value_of g.program env) head)

-- The arguments unified with the head of a rule that is entered, from left to right.
abbrev pub match : Game → List Value → Rule → Registers → Unified
match g args rule r = solve r.bound (head_equations g args (vars_of rule r) rule.head)

-- The registers behind that; a binding of one of the rule's new variables isn't put on the trail.
abbrev pub matched : Unified → Registers → Registers → Registers
matched u before r = bound_by u (older_bound before.next_var (made_since before.bound u.subst)) r

-- The first argument of a query excludes a rule.
abbrev pub is_excluded : List Value → Registers → Rule → Bool
is_excluded args r rule = first_excludes r.bound args rule.head

-- The heap cells of the choice of a query in the branch of a rule with these behind it: it has some where one of these isn't excluded.
abbrev pub call_cells : List Value → Registers → List Rule → ℕ
call_cells args r rules = choice_cells (length args) (from_candidate r.bound args rules)

-- A branch that has failed with so much work and no cells, where its rule is excluded, or else this branch.
abbrev pub unless_excluded : Bool → Registers → ℕ → Branch → Branch
unless_excluded true r work b = Clash (inside 0 r) work
unless_excluded false r work b = b

-- The work of a unification: what it looks at counts twice, and each letter that it compares once.
abbrev pub unifying : Substitution → Equations → ℕ
unifying S es = 2 * (solve S es).count + compared S es

-- The work of entering a body with a head, among the values of its variables: the body, the nodes of the head, and the unification.
abbrev pub entering_with : Game → List Value → List Value → List Term → Registers → ℕ
entering_with g args env head r = 1 + writing head + unifying r.bound (head_equations g args env head)

-- The same for a rule.
abbrev pub entering : Game → List Value → Rule → Registers → ℕ
entering g args rule r = entering_with g args (vars_of rule r) rule.head r

-- The branch of a rule, with the heap cells of its choice; an excluded rule takes none, and fails as it begins.
abbrev pub rule_branch : Game → ℕ → List Value → Bool → List Step → Registers → ℕ → Rule → Branch
rule_branch g pred args many steps r heap rule =
    let u = match g args rule r in
    let path = path_of (rule_steps pred many (vars_of rule r) r.next_tag rule steps) (matched u r (entered g heap rule r)) in
    unless_excluded (is_excluded args r rule) r (entering g args rule r) (enter_if u.agrees path (entering g args rule r))

-- A branch for each rule of a predicate.
abbrev pub rule_branches : Game → ℕ → List Value → Bool → List Step → Registers → List Rule → List Branch
rule_branches g pred args many steps r [] = []
rule_branches g pred args many steps r (rule ∷ rules) = rule_branch g pred args many steps r (call_cells args r rules) rule
    ∷ rule_branches g pred args many steps r rules

-- The rules of a predicate; none where there is no such predicate.
abbrev pub rules_of : Option Pred → List Rule
rules_of None = []
rules_of (Some pred) = pred.rules

-- ## Closures

-- The variables of a closure's body: those that are captured, and so many new ones.
abbrev pub closure_vars : Values → ClosureBody → Registers → List Value
closure_vars parts closure r = values_of parts ++ new_vars closure.own r.next_var

-- The head of a closure that is asked with these arguments: its parameter, the first of its own variables, behind the captured ones, or nothing.
abbrev pub closure_head : Values → List Value → List Term
closure_head parts [] = []
closure_head parts (v ∷ vs) = Var-Term (length (values_of parts)) ∷ []

-- The steps of a closure that is entered, among these values of its variables.
abbrev pub closure_steps : Bool → List Value → ℕ → ClosureBody → List Step → List Step
closure_steps many env t closure steps = goals_at env t closure.body ++ first_alone many t steps

-- The branch of a closure, which is entered as a rule is.
abbrev pub closure_branch : Game → Values → ClosureBody → List Value → Bool → List Step → Registers → Branch
closure_branch g parts closure args many steps r =
    let env = closure_vars parts closure r in
    let head = closure_head parts args in
    let u = solve r.bound (head_equations g args env head) in
    let path = path_of (closure_steps many env r.next_tag closure steps) (matched u r (entered_with g 0 closure.own head r)) in
    enter_if u.agrees path (entering_with g args env head r)

-- ## Objects

-- The numbers of some things, from n on.
abbrev pub numbers : {A : Type 0} → ℕ → List A → List ℕ
numbers n [] = []
numbers n (x ∷ xs) = n ∷ numbers (suc n) xs

-- A branch for each of these objects, at a place, or without one for any object.
abbrev pub object_branches : Option ℕ → List Value → Bool → List Step → Registers → List ℕ → List Branch
object_branches place args many steps r [] = []
object_branches place args many steps r (o ∷ os) =
    Finds place o args (path_of (first_alone many r.next_tag steps) (inside (choice_cells (length args) os) r)) ∷ object_branches place args many steps r os

-- ## What comes of an act

-- The search goes on or has failed.
abbrev pub goes_on_if : Bool → List Step → Registers → World → Move
goes_on_if true steps r w = GoesOn (path_of steps r) w
goes_on_if false steps r w = FailsAt w

-- The search goes on behind equations that agree; each binding is put on the trail.
abbrev pub unified : Equations → List Step → Registers → World → Move
unified es steps r w =
    let u = solve r.bound es in
    let r' = bound_by u (length (made_since r.bound u.subst)) r in goes_on_if u.agrees steps r' (begun r' (unifying r.bound es) w)

-- A stop leaves the innermost stoppable part; without one the run ends.
abbrev pub stop : Option ℕ → World → Move
stop None w = EndsAt Stopped w
stop (Some s) w = StopsAt s w

-- What comes of an act in front of these steps, where the registers are these.
abbrev pub move_of : List Step → Registers → Act → Move
move_of steps r (Goes next w) = GoesOn (path_of next r) w
move_of steps r (Tests passed w) = goes_on_if passed steps r w
move_of steps r (Unifies made es w) = unified es steps made w
move_of steps r (Ends e w) = EndsAt e w
move_of steps r (Fails w) = FailsAt w
move_of steps r (Stops w) = stop r.stoppable w

-- ## Values that are made

-- A value that is made is unified with this one; its cells are on the heap.
abbrev pub gives : Value → Value → Registers → World → Act
gives into v r w = Unifies (more_heap (copy_cells v) r) ((into, v) ∷ []) w

-- A number is unified with this value, if there is one; it takes no cells.
abbrev pub gives_number : Option ℕ → Value → Registers → World → Act
gives_number None into r w = Fails w
gives_number (Some n) into r w = Unifies r ((into, leaf (Num n)) ∷ []) w

-- The registers behind a copy of a value.
abbrev pub behind_copy : Value → Registers → Registers
behind_copy v r = record r { next_var = r.next_var + vars_in v; heap = r.heap + copy_cells v }

-- The copy.
abbrev pub copy_of : Value → Registers → Value
copy_of v r = copy_from r.next_var v

-- A value that was read is copied, and unified with the first of these arguments; without an argument it isn't looked at.
abbrev pub reads : List Value → Registers → Value → World → Act
reads [] r v w = Tests true w
reads (arg ∷ args) r v w = Unifies (behind_copy v r) ((arg, copy_of v r) ∷ []) (worked (copied v) w)

-- The same, if anything is set.
abbrev pub reads_if_set : List Value → Registers → Option Value → World → Act
reads_if_set args r None w = Fails w
reads_if_set args r (Some v) w = reads args r v w

-- ## The beginning of a branch

-- What was gathered is taken out: each value is looked through and copied into the list, or looked at for the sum.
abbrev pub takes_out : Whole → Value → List Value → Registers → World → Act
takes_out AsList into vs r w = Unifies (behind_copy (list_of vs) r) ((into, copy_of (list_of vs) r) ∷ []) (begun r (sum_by (λ v. size v + copied v) vs) w)
takes_out AsSum into vs r w = gives_number (total vs) into r (begun r (length vs) w)

-- An object is unified with the first of these arguments, and the value that is set of it with the second, if there is one.
abbrev pub finds : List Value → ℕ → Registers → Value → World → Act
finds [] o r v w = Fails w
finds (a ∷ []) o r v w = Unifies r ((a, leaf (Object o)) ∷ []) w
finds (a ∷ b ∷ args) o r v w = Unifies (behind_copy v r) ((a, leaf (Object o)) ∷ (b, copy_of v r) ∷ []) (worked (copied v) w)

-- The same, if anything is set of it.
abbrev pub finds_if_set : List Value → ℕ → Registers → Option Value → World → Act
finds_if_set args o r None w = Fails w
finds_if_set args o r (Some v) w = finds args o r v w

-- The path on which a branch begins.
abbrev pub path_at : Branch → Path
path_at (Enter path work) = path
path_at (Clash r work) = path_of [] r
path_at (TakeOut t whole into path) = path
path_at (Finds place o args path) = path

-- What is done where a branch begins; an object that is tried is work.
abbrev pub beginning : Branch → World → Act
beginning (Enter path work) w = Goes path.steps (begun path.registers work w)
beginning (Clash r work) w = Fails (begun r work w)
beginning (TakeOut t whole into path) w = takes_out whole into (gathered_at t w.gathered) path.registers (dropped t w)
beginning (Finds place o args path) w = finds_if_set args o path.registers (found w.facts place o) (begun path.registers 1 w)

-- What comes of the beginning of a branch.
abbrev pub begins : Branch → World → Move
begins b w = move_of (path_at b).steps (path_at b).registers (beginning b w)

-- ## Goals

-- A choice; one with no branch fails.
abbrev pub choice : ChoiceKind → ℕ → List Branch → World → Outcome
choice k t [] w = Moves (FailsAt (exhausted k w))
choice k t (b ∷ bs) w = Chooses k t b bs w

-- What comes of an effect in front of these steps, where the registers are these; a choice has the next tag.
abbrev pub outcome_of : List Step → Registers → Effect → Outcome
outcome_of steps r (Acts a) = Moves (move_of steps r a)
outcome_of steps r (Offers k bs w) = choice k r.next_tag bs w

-- The node and the links that are looked at where a first argument is compared.
abbrev pub first_looks : Registers → List Value → ℕ
first_looks r [] = 0
first_looks r (v ∷ vs) = 1 + links r.bound v

-- A query offers a branch for each rule of its predicate; its first argument is looked at.
abbrev pub ask : Game → ℕ → List Value → Bool → List Step → Registers → World → Effect
ask g pred args many steps r w =
    Offers (Rules pred) (rule_branches g pred args many steps r (rules_of (slice_get g.program.preds pred)))
    (noted (Asked pred) (worked (first_looks r args) w))

-- The nodes and links of a whole value: a test of containment of the next variable, which is in no value, looks at all of them.
abbrev pub whole_looks : Registers → Value → ℕ
whole_looks r v = looks r.bound r.next_var v

-- The world in which a value is printed, resolved.
abbrev pub shown : Game → Value → Registers → World → World
shown g v r w = all_printed (pieces g.program (resolved r.bound v)) (worked (whole_looks r v) w)

-- The nodes and links that a test looks at.
abbrev pub test_looks : TestKind → Value → Registers → ℕ
test_looks FullyBound v r = whole_looks r v
test_looks kind v r = 1 + links r.bound v

-- The work of keeping a value: it is looked through and copied, resolved.
abbrev pub keeping : Registers → Value → ℕ
keeping r v = whole_looks r v + copied (resolved r.bound v)

-- The node and the links that are looked at where a value is looked up.
abbrev pub looked_up : Registers → Value → ℕ
looked_up r v = 1 + links r.bound v

-- As many spaces as a number says.
abbrev pub spaces : Value → List Step → World → Act
spaces (Node (Num n) vs) steps w = Goes steps (printed (SpacesOf n) w)
spaces v steps w = Fails w

-- A query of the objects at a place, or without one of all objects, by its first argument, looked up: an object is tested at once, and an unbound one
-- is every object in turn.
abbrev pub ask_object : Game → Option ℕ → Value → Value → List Value → Bool → List Step → Registers → World → Effect
ask_object g place (Var x) v args many steps r w = Offers Plain (object_branches place (v ∷ args) many steps r (numbers 0 g.program.objects)) w
ask_object g place (Node (Object o) vs) v args many steps r w = Acts (reads_if_set args r (found w.facts place o) w)
ask_object g place u v args many steps r w = Acts (Fails w)

-- The same; without an argument it fails.
abbrev pub ask_objects : Game → Option ℕ → List Value → Bool → List Step → Registers → World → Effect
ask_objects g place [] many steps r w = Acts (Fails w)
ask_objects g place (v ∷ args) many steps r w = ask_object g place (walk r.bound v) v args many steps r (worked (looked_up r v) w)

-- A query of a place of a kind.
abbrev pub ask_place : Game → ℕ → Option PlaceKind → List Value → Bool → List Step → Registers → World → Effect
ask_place g place None args many steps r w = Acts (Fails w)
ask_place g place (Some Flag) args many steps r w = Acts (Tests (is_some (value_at w.facts place 0)) w)
ask_place g place (Some Global) args many steps r w = Acts (reads_if_set args r (value_at w.facts place 0) w)
ask_place g place (Some kind) args many steps r w = ask_objects g (Some place) args many steps r w

-- What a change looks at in its arguments: a value for a global variable whole, as it is copied, and else what is at their top.
abbrev pub change_looks : PlaceKind → Registers → List Value → ℕ
change_looks Global r args = sum_by (keeping r) args
change_looks kind r args = sum_by (looked_up r) args

-- What comes of a change, or it fails.
abbrev pub changes : Game → PlaceKind → Option Alteration → List Step → World → Act
changes g kind None steps w = Fails w
changes g kind (Some a) steps w = Goes steps (worked (changing g.program kind a w.facts) (changed g.program a w))

-- A change of a place of a kind.
abbrev pub change_place : Game → ℕ → Option PlaceKind → List Value → Bool → List Step → Registers → World → Act
change_place g place None args sets steps r w = Fails w
change_place g place (Some kind) args sets steps r w = changes g kind
    (change_of (length g.program.objects) kind place sets (map (resolved r.bound) args)) steps (worked (change_looks kind r args) w)

-- A query of a closure, looked up, or of another value, which fails.
abbrev pub ask_body : Game → Values → Option ClosureBody → List Value → Bool → List Step → Registers → World → Effect
ask_body g parts None args many steps r w = Acts (Fails w)
ask_body g parts (Some closure) args many steps r w = Offers Plain (closure_branch g parts closure args many steps r ∷ []) w

abbrev pub ask_closure : Game → Value → List Value → Bool → List Step → Registers → World → Effect
ask_closure g (Node (Closure place) parts) args many steps r w = ask_body g parts (slice_get g.program.closures place) args many steps r w
ask_closure g v args many steps r w = Acts (Fails w)

-- What a select chooses, and the world in which it has.
abbrev pub selects : Game → ℕ → Mode → ℕ → World → Choice
selects g site mode branches w = chosen mode branches (picks_at w.sites site) (die g.dice w.dice)

abbrev pub selected : ℕ → Choice → World → World
selected site c w = drew c.drawn (record w { sites = slice_set w.sites site (picked c.branch (picks_at w.sites site)) })

-- What a throw of a die gives; where it gives a number, a word was drawn.
abbrev pub throws : Option ℕ → Value → Registers → World → Act
throws None into r w = Fails w
throws (Some n) into r w = gives_number (Some n) into r (drew 1 w)

-- The world in which so many letters were read and a value was made of them.
abbrev pub spelled : Game → ℕ → Value → World → World
spelled g letters v w = worked (reading g.program.words letters + copied v) w

-- The letters of a word, each as a word of its own; or it fails.
abbrev pub splits : Game → Option (List ℕ) → Value → Registers → World → Act
splits g None into r w = Fails w
splits g (Some letters) into r w =
    let v = spelled_list g.program.words (each_alone letters) in gives into v r (spelled g (length letters) v w)

-- Letters as one word; or it fails.
abbrev pub joins : Game → Option (List ℕ) → Value → Registers → World → Act
joins g None into r w = Fails w
joins g (Some letters) into r w =
    let v = spelled_value g.program.words letters in gives into v r (spelled g (length letters) v w)

-- A line is taken of the typed bytes, if any is left.
abbrev pub takes_line : Game → List ℕ → Value → Registers → World → Act
takes_line g [] into r w = Ends InputEnded w
takes_line g (b ∷ bytes) into r w =
    let line = first_line (b ∷ bytes) in
    let v = line_value g.program.words line in
    gives into v r (spelled g (length (units_of line)) v (printed (GapOf Line) (record w { typed = behind_first (b ∷ bytes) })))

-- What is gathered of the answers of goals, and taken out as a whole behind them.
abbrev pub gathers : Game → Whole → Term → List Goal → Term → List Value → ℕ → List Step → Registers → World → Effect
gathers g whole term goals into env t steps r w =
    Offers Gathers (enter 10 0 r (goals_at env t goals ++ Keep r.next_tag term env ∷ [])
    ∷ TakeOut r.next_tag whole (value_of g.program env into) (path_of steps (inside 0 r)) ∷ []) (opened r.next_tag w)

-- What a goal does whose terms were written, among these values of the variables of its rule, with the tag t that its (just) cuts to, and the steps behind it.
abbrev pub effect : Game → Goal-F Goal → List Value → ℕ → List Step → Registers → World → Effect
effect g (Text name) env t steps r w = Acts (Goes steps (printed (Piece name) w))
effect g (Print-Form a) env t steps r w = Acts (Goes steps (shown g (value_of g.program env a) r w))
effect g (Gap kind) env t steps r w = Acts (Goes steps (printed (GapOf kind) w))
effect g (GapN a) env t steps r w = let v = value_of g.program env a in Acts (spaces (walk r.bound v) steps (worked (looked_up r v) w))
effect g (Equal a b) env t steps r w = Acts (Unifies r ((value_of g.program env a, value_of g.program env b) ∷ []) w)
effect g (Test kind a) env t steps r w = let v = value_of g.program env a in Acts (Tests (passes r.bound kind v) (worked (test_looks kind v r) w))
effect g (Ask pred args many) env t steps r w = ask g pred (map (value_of g.program env) args) many steps r w
effect g (Holds place args many) env t steps r w = ask_place g place (slice_get (kinds_of g.program) place) (map (value_of g.program env) args) many steps r w
effect g (IsObject a many) env t steps r w = ask_objects g None (value_of g.program env a ∷ []) many steps r w
effect g (Now place args sets) env t steps r w = Acts (change_place g place (slice_get (kinds_of g.program) place)
    (map (value_of g.program env) args) sets steps r w)
effect g (Query a b many) env t steps r w =
    let v = value_of g.program env a in
    ask_closure g (walk r.bound v) (map (value_of g.program env) (option_terms b)) many steps r (worked (looked_up r v) w)
effect g (Either lists) env t steps r w = Offers Plain (list_branches env t steps r lists) w
effect g (Select site mode lists) env t steps r w =
    let c = selects g site mode (length lists) w in Acts (Goes (goals_at env t (get_or lists c.branch []) ++ steps) (selected site c w))
effect g (Once goals) env t steps r w = Offers Plain (enter 10 0 r (goals_at env t goals ++ Cut r.next_tag ∷ steps) ∷ []) w
effect g (Not goals) env t steps r w = Offers Plain (enter 10 0 r (goals_at env t goals ++ Refuse r.next_tag ∷ []) ∷ enter 0 0 r steps ∷ []) w
effect g (If test first other) env t steps r w =
    Offers Plain (enter 10 0 r (goals_at env t test ++ Cut r.next_tag ∷ (goals_at env t first ++ steps)) ∷
    enter 0 0 r (goals_at env t other ++ steps) ∷ []) w
effect g Forever env t steps r w = Offers Plain (enter 10 0 r steps ∷ enter 0 0 r (Do Forever-Goal env t ∷ steps) ∷ []) w
effect g (Exhaust goals) env t steps r w = Offers Plain (enter 10 0 r (goals_at env t goals ++ Back ∷ []) ∷ enter 0 0 r steps ∷ []) w
effect g (Collect term goals into) env t steps r w = gathers g AsList term goals into env t steps r w
effect g (Accumulate term goals into) env t steps r w = gathers g AsSum term goals into env t steps r w
effect g (Stoppable goals) env t steps r w =
    let part = path_of (goals_at env t goals ++ Leave r.next_tag r.stoppable ∷ steps) (record (inside 10 r) { stoppable = Some r.next_tag }) in
    Offers Shield (Enter part 0 ∷ enter 0 0 r steps ∷ []) w
effect g (Arith op a b c) env t steps r w =
    let v = value_of g.program env a in
    let u = value_of g.program env b in
    Acts (gives_number (of_numbers (calculated op) (walk r.bound v) (walk r.bound u)) (value_of g.program env c) r (worked (looked_up r v + looked_up r u) w))
effect g (Compare op a b) env t steps r w =
    let v = value_of g.program env a in
    let u = value_of g.program env b in Acts (Tests (are_in_order op (walk r.bound v) (walk r.bound u)) (worked (looked_up r v + looked_up r u) w))
effect g (Random a b c) env t steps r w =
    let v = value_of g.program env a in
    let u = value_of g.program env b in
    Acts (throws (of_numbers (thrown (die g.dice w.dice)) (walk r.bound v) (walk r.bound u)) (value_of g.program env c) r
    (worked (looked_up r v + looked_up r u) w))
effect g (SplitWord a b) env t steps r w =
    let v = value_of g.program env a in
    Acts (splits g (letters_in_word g.program.words (walk r.bound v)) (value_of g.program env b) r (worked (looked_up r v) w))
effect g (JoinWords a b) env t steps r w =
    let v = value_of g.program env a in
    Acts (joins g (joined_letters g.program.words (resolved r.bound v)) (value_of g.program env b) r (worked (whole_looks r v) w))
effect g (Input a) env t steps r w = Acts (takes_line g w.typed (value_of g.program env a) r w)
effect g Just env t steps r w = Acts (Goes (Cut t ∷ steps) w)
effect g Fail env t steps r w = Acts (Fails w)
effect g Stop env t steps r w = Acts (Stops w)
effect g Quit env t steps r w = Acts (Ends Quit-Ending w)

-- What comes of a goal whose terms were written.
abbrev pub outcome : Game → Goal-F Goal → List Value → ℕ → List Step → Registers → World → Outcome
outcome g x env t steps r w = outcome_of steps r (effect g x env t steps r w)

-- The registers behind the terms that a goal holds itself.
abbrev pub behind_terms : Game → Goal-F Goal → Registers → Registers
behind_terms g x r = more_heap (cells g.program (terms_held x)) r

-- What comes of a goal: its terms are written first, whatever then comes of it.
abbrev pub move : Game → Goal-F Goal → List Value → ℕ → List Step → Registers → World → Outcome
move g x env t steps r w = outcome g x env t steps (behind_terms g x r) (begun (behind_terms g x r) (writing (terms_held x)) w)
