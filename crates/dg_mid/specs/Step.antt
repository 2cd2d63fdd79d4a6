-- What one instruction does, with its limits. Hold it against the Dialog manual, chapters "Choice points", "Control flow" and "Beyond the program".
use Rattle.std.specs.Prelude.{ℕ, zero, suc, ◌+◌, ◌++◌, ◌-◌, nat_lt, List, [], ◌∷◌, Option, Some, None, Bool, true, false, length, map, get_or, drop, if◌then◌else◌}
use Rattle.std.specs.List.{zip, slice_get}
use Rattle.dg_base.specs.declared.program.Term.{Term}
use Rattle.dg_base.specs.declared.program.Term.TheVariants.{Var}
use Rattle.dg_base.specs.Goals.{option_terms}
use Rattle.dg_base.specs.declared.run.Limits.{Limits}
use Rattle.dg_base.specs.declared.run.Ending.TheVariants as ending
use Rattle.dg_meaning.specs.Values.{Closure, Value, Node, Values, value_of}
use Rattle.dg_meaning.specs.Substitutions.{Substitution, walk, resolved}
use Rattle.dg_meaning.specs.Unify.{Unified, Equations, solve}
use Rattle.dg_meaning.specs.Copies.{values_of}
use Rattle.dg_meaning.specs.World.{Game, Print, Gathering, gathered_size}
use Rattle.dg_meaning.specs.Path.{Registers, Act, Goes, Tests, Unifies, Ends, Fails as FailsNow, Stops, Effect, Acts, Offers}
use Rattle.dg_meaning.specs.Cells.{cells}
use Rattle.dg_meaning.specs.Moves.{new_vars, made_since, numbers, takes_out, selects, selected as picked}
use Rattle.dg_meaning.specs.Choosing.{Choice as Chosen}
use Rattle.dg_unify.specs.Store.{State, trail_of, marked}
use Rattle.dg_mid.specs.declared.code.Op.{Op}
use Rattle.dg_mid.specs.declared.code.Op.TheVariants as op
use Rattle.dg_mid.specs.declared.code.Gathered.{Gathered}
use Rattle.dg_mid.specs.declared.code.RuleCode.{RuleCode}
use Rattle.dg_mid.specs.declared.code.BodyCode.{BodyCode}
use Rattle.dg_mid.specs.declared.code.Code.{Code}
use Rattle.dg_mid.specs.Code.{block_at, rules_at, selected}
use Rattle.dg_mid.specs.State.{Place, Frame, Call, Target, ToPred, ToBody, Find, Way, Goes, Takes, Calls, Tries, Stop, Choice, Mid, Status, Runs, Enters, Resumes, Fails, Ended, vars_of, cut_of, place_of, inner_for, cut_choices, stop_to}
use Rattle.dg_mid.specs.Actions.{terms_of, whole_of, registers_of, world_of, act_at, asked_at, found_at, said_by, lasting_in}

-- What stays the same: the game, for what its program prints, captures and keeps, and for its dice, its code, and the limits.
pub record Setting : Type 0 where
  pub game : Game
  pub code : Code
  pub limits : Limits

-- The setting of a game.
abbrev pub setting : Game → Code → Limits → Setting
setting g code limits = record { game = g; code = code; limits = limits }

-- ## Heap and trail

-- The machine with so many more cells of the heap taken.
abbrev pub more : ℕ → Mid → Mid
more n m = record m { state = record m.state { heap = m.state.heap + n } }

-- So many more cells are taken and it goes on, or the limit is met.
abbrev pub charged : Setting → ℕ → Mid → Status → Status
charged g zero m next = next
charged g (suc n) m next = if nat_lt g.limits.heap (m.state.heap + suc n) then Ended ending.HeapLimit else next

-- What the bindings in front of older ones take of the trail, with what it has.
abbrev pub trail_more : State → Unified → ℕ
trail_more s u = s.trail + trail_of s.since (made_since s.subst u.subst)

-- The machine with what a unification has bound.
abbrev pub bound : Unified → Mid → Mid
bound u m = record m { state = record m.state { subst = u.subst; trail = trail_more m.state u } }

-- It goes on where values agree, and fails where they don't.
abbrev pub if_agreed : Bool → Mid → Status → Status
if_agreed true m next = next
if_agreed false m next = Fails m

-- A unification was done and it goes on so where the values agree, or the limit is met.
abbrev pub unified : Setting → Unified → Mid → Status → Status
unified g u m next = if nat_lt g.limits.trail (trail_more m.state u) then Ended ending.TrailLimit else if_agreed u.agrees (bound u m) next

-- ## Choices

-- The machine inside the next choice, which has no way on.
abbrev pub passed : Mid → Mid
passed m = record m { next_tag = m.next_tag + 1 }

-- A choice that opens now.
abbrev pub new_choice : Way → Mid → Choice
new_choice way m = record {
  place = place_of m;
  way = way;
  frames = m.frames;
  inner = m.inner;
  stops = m.stops;
  stop = m.stop;
  height = length m.gathered;
  state = marked m.state;
}

-- The machine inside a choice with this way on, of so many arguments.
abbrev pub inside : Way → ℕ → Mid → Mid
inside way arguments m = more (10 + arguments) (record m { choices = new_choice way m ∷ m.choices; next_tag = m.next_tag + 1; state = marked m.state })

-- The machine inside one more inner construct.
abbrev pub within : Place → Mid → Mid
within p m = record m { inner = p ∷ m.inner }

-- The machine without the choices that aren't older than a place.
abbrev pub cut_to : Place → Mid → Mid
cut_to p m = record m { choices = cut_choices p m.choices }

-- The oldest gatherings, so many.
abbrev pub gathered_to : ℕ → List Gathering → List Gathering
gathered_to height gs = drop (length gs - height) gs

-- The machine back at a choice, which is gone.
abbrev pub back_at : Choice → List Choice → Mid → Mid
back_at c cs m = record m {
  frames = c.frames;
  inner = c.inner;
  choices = cs;
  stops = c.stops;
  stop = c.stop;
  gathered = gathered_to c.height m.gathered;
  next_tag = c.place.tag;
  state = c.state;
}

-- ## Queries

-- A value that is walked, where there is one.
abbrev pub walked : Substitution → Option Value → Option Value
walked S None = None
walked S (Some v) = Some (walk S v)

-- The walked first argument of a call.
abbrev pub first_of : Substitution → Call → Option Value
first_of S call = walked S (slice_get call.args 0)

-- The machine at the code of a rule.
abbrev pub at_rule : Setting → RuleCode → Mid → Mid
at_rule g r m = record m { ops = block_at g.code r.block }

-- A call enters a rule, with these others left; a choice opens where there are any.
abbrev pub enters : Setting → Call → RuleCode → List RuleCode → Mid → Status
enters g call r [] m = Enters call (passed (at_rule g r m))
enters g call r (q ∷ qs) m = charged g (10 + length call.args) m (Enters call (inside (Calls call (q ∷ qs)) (length call.args) (at_rule g r m)))

-- A call enters the first of some rules, of which the others that aren't excluded are left.
abbrev pub begins : Setting → Call → List RuleCode → Mid → Status
begins g call [] m = Fails m
begins g call (r ∷ rs) m = enters g call r (selected (first_of m.state.subst call) rs) m

-- A predicate is asked.
abbrev pub asks : Setting → ℕ → Call → Mid → Status
asks g pred call m = begins g call (selected (first_of m.state.subst call) (rules_at g.code pred)) m

-- The parameter of a body, the first of its own variables, where there is an argument.
abbrev pub parameter : List Value → List Value → List Term
parameter captured [] = []
parameter captured (v ∷ vs) = Var (length captured) ∷ []

-- The frame of a body that is entered.
abbrev pub body_frame : List Value → ℕ → Call → Mid → Frame
body_frame captured own call m = record { vars = captured ++ new_vars own m.state.vars; cut = call.cut; many = call.many; next = call.next; inner = m.inner }

-- The arguments of a call beside the parameter of a body, whose new variables are numbered from this on.
abbrev pub body_equations : Setting → List Value → ℕ → List Value → ℕ → Equations
body_equations g captured own args next = zip args (map (value_of g.game.program (captured ++ new_vars own next)) (parameter captured args))

-- The body of a closure is entered, inside a choice that has no way on: its variables are made, and the argument is unified with its parameter.
abbrev pub enters_body : Setting → BodyCode → List Value → Call → Mid → Status
enters_body g c captured call m =
    let n = 6 + c.own + cells g.game.program (parameter captured call.args) in
    let m' = record (passed m) { ops = block_at g.code c.block; state = record m.state { vars = m.state.vars + c.own; heap = m.state.heap + n } } in
    let u = solve m.state.subst (body_equations g captured c.own call.args m.state.vars) in
    charged g n m (unified g u m' (Runs (record (bound u m') { frames = body_frame captured c.own call m ∷ m.frames; inner = [] })))

-- It is called.
abbrev pub calls : Setting → Target → Call → Mid → Status
calls g (ToPred pred) call m = asks g pred call m
calls g (ToBody c captured) call m = enters_body g c captured call m

-- The body of a closure, if there is one of its number.
abbrev pub body_of : Option BodyCode → Values → Option Target
body_of None parts = None
body_of (Some c) parts = Some (ToBody c (values_of parts))

-- What a value, looked up, asks: the body of a closure, or nothing.
abbrev pub closure_at : Code → Value → Option Target
closure_at code (Node (Closure place) parts) = body_of (slice_get code.closures place) parts
closure_at code v = None

-- The values of terms.
abbrev pub values : Setting → Mid → List Term → List Value
values g m terms = map (value_of g.game.program (vars_of m.frames)) terms

-- A call that goes on here.
abbrev pub call_of : List Value → Bool → ℕ → Mid → Call
call_of args many next m = record { args = args; many = many; next = next; cut = place_of m }

-- The last query of a rule: it goes on where the rule does, or, where the rule still has to cut, at the block that answers a rule.
abbrev pub asks_last : Setting → Target → List Value → Bool → Bool → Frame → List Frame → Mid → Status
asks_last g t args many true f fs m = calls g t (call_of args many f.next m) (record m { frames = fs; inner = f.inner })
asks_last g t args many false f fs m = calls g t (call_of args many 0 m) (record m { inner = [] })

-- The same with these frames.
abbrev pub last : Setting → Target → List Value → Bool → List Frame → Mid → Status
last g t args many [] m = calls g t (call_of args many 0 m) (record m { inner = [] })
last g t args many (f ∷ fs) m = asks_last g t args many f.many f fs m

-- The machine behind the answer of a rule; the rule's other choices are cut where one answer is wanted.
abbrev pub returned : Setting → Bool → Frame → List Frame → Mid → Mid
returned g true f fs m = record m { ops = block_at g.code f.next; frames = fs; inner = f.inner }
returned g false f fs m = cut_to f.cut (record m { ops = block_at g.code f.next; frames = fs; inner = f.inner })

-- The rule at hand is answered.
abbrev pub returns : Setting → List Frame → Mid → Status
returns g [] m = Fails m
returns g (f ∷ fs) m = Runs (returned g f.many f fs m)

-- ## Inner constructs

-- The newest inner construct is left, and the choices inside it are cut.
abbrev pub commits : List Place → Mid → Status
commits [] m = Fails m
commits (p ∷ ps) m = Runs (cut_to p (record m { inner = ps }))

-- The same, and then it fails.
abbrev pub refuses : List Place → Mid → Status
refuses [] m = Fails m
refuses (p ∷ ps) m = Fails (cut_to p (record m { inner = ps }))

-- ## Stoppable parts and gatherings

-- Where it goes on behind a stoppable part that begins now.
abbrev pub new_stop : ℕ → Mid → Stop
new_stop alt m = record { place = place_of m; block = alt; frames = m.frames; inner = m.inner; state = marked m.state; height = length m.gathered }

-- The machine inside a stoppable part.
abbrev pub shielded : ℕ → Mid → Mid
shielded alt m = record (within (place_of m) (inside (Goes alt) 0 m)) { stops = new_stop alt m ∷ m.stops; stop = Some m.next_tag }

-- A stoppable part is left.
abbrev pub leaves : List Place → Mid → Status
leaves [] m = Fails m
leaves (p ∷ ps) m = Runs (cut_to p (record m { inner = ps; stop = p.outer }))

-- The machine behind a stoppable part that was stopped.
abbrev pub stopped : Setting → Stop → List Stop → Mid → Mid
stopped g s ss m = record m {
  ops = block_at g.code s.block;
  frames = s.frames;
  inner = s.inner;
  choices = cut_choices s.place m.choices;
  stops = ss;
  stop = s.place.outer;
  gathered = gathered_to s.height m.gathered;
  next_tag = s.place.tag + 1;
  state = s.state;
}

-- A stop to this stoppable part; it fails where there is none.
abbrev pub stops_at : Setting → Option (Stop × List Stop) → Mid → Status
stops_at g None m = Fails m
stops_at g (Some found) m = Runs (stopped g found.0 found.1 m)

-- A stop to the innermost part that is open; the run ends where none is.
abbrev pub stops : Setting → Option ℕ → Mid → Status
stops g None m = Ended ending.Stopped
stops g (Some t) m = stops_at g (stop_to t m.stops) m

-- The machine with one more gathering, of nothing yet.
abbrev pub with_gathering : Mid → Mid
with_gathering m = record m { gathered = record { tag = m.next_tag; values = [] } ∷ m.gathered }

-- The machine inside a gathering of a value, which is taken out for another.
abbrev pub gathering : Value → Value → ℕ → Mid → Mid
gathering v into alt m = within (record (place_of m) { gathers = Some v }) (inside (Takes alt into) 0 (with_gathering m))

-- These gatherings are open, and it goes on, or the limit is met.
abbrev pub gathers : Setting → List Gathering → Status → Status
gathers g gs next = if nat_lt g.limits.aux (gathered_size gs) then Ended ending.AuxLimit else next

-- The gatherings with a value added to the newest.
abbrev pub newest_with : Value → List Gathering → List Gathering
newest_with v [] = []
newest_with v (x ∷ xs) = record x { values = x.values ++ v ∷ [] } ∷ xs

-- A value, if there is one, is gathered as it is now, and it fails.
abbrev pub keeps_value : Setting → Option Value → Mid → Status
keeps_value g None m = Fails m
keeps_value g (Some v) m =
    let gs = newest_with (resolved m.state.subst v) m.gathered in
    gathers g gs (Fails (record m { gathered = gs }))

-- So it is with the value of the newest inner construct.
abbrev pub keeps : Setting → List Place → Mid → Status
keeps g [] m = Fails m
keeps g (p ∷ ps) m = keeps_value g p.gathers (record m { inner = ps })

-- ## Instructions

-- It goes on where a test is passed.
abbrev pub if_passed : Bool → Mid → Status
if_passed true m = Runs m
if_passed false m = Fails m

-- It goes on where what is set takes no more than may be kept, or the limit is met.
abbrev pub keeps_within : Setting → ℕ → Status → Status
keeps_within g size next = if nat_lt g.limits.keep size then Ended ending.KeepLimit else next

-- The machine behind values that were made, in these registers.
abbrev pub made_in : Registers → Mid → Mid
made_in r m = record m { state = record m.state { vars = r.next_var; heap = m.state.heap + (r.heap - m.state.heap) } }

-- What an act leads to; the only steps that one goes on with are a cut of the rule.
abbrev pub done : Setting → Act → Mid → Status
done g (Goes [] w) m = keeps_within g w.meters.keep (Runs (lasting_in w m))
done g (Goes (s ∷ steps) w) m = Runs (cut_to (cut_of m.frames) m)
done g (Tests passed w) m = if_passed passed (lasting_in w m)
done g (Unifies made es w) m =
    let m' = made_in made (lasting_in w m) in
    let u = solve made.bound es in
    charged g (made.heap - m.state.heap) m (unified g u m' (Runs (bound u m')))
done g (Ends e w) m = Ended e
done g (FailsNow w) m = Fails (lasting_in w m)
done g (Stops w) m = stops g m.stop (lasting_in w m)

-- The machine at the block of the branch that a select has chosen.
abbrev pub at_choice : Setting → Chosen → ℕ → List ℕ → ℕ → Mid → Mid
at_choice g c site blocks behind m = record (lasting_in (picked site c (world_of [] m)) m) { ops = block_at g.code (get_or blocks c.branch behind) }

-- A query of objects is answered at once, or the objects are tried in turn.
abbrev pub seeks : Setting → Find → Effect → Mid → Status
seeks g f (Acts act) m = done g act m
seeks g f (Offers k bs w) m = Resumes (Tries f (numbers 0 g.game.program.objects)) m

-- What a value asks is called, and fails where it asks nothing.
abbrev pub queries : Setting → Option Target → List Value → Bool → ℕ → Mid → Status
queries g None args many next m = Fails m
queries g (Some t) args many next m = calls g t (call_of args many next m) m

-- The same of the last query of a rule.
abbrev pub queries_last : Setting → Option Target → List Value → Bool → Mid → Status
queries_last g None args many m = Fails m
queries_last g (Some t) args many m = last g t args many m.frames m

-- What a term asks.
abbrev pub asked_by : Setting → Term → Mid → Option Target
asked_by g a m = closure_at g.code (walk m.state.subst (value_of g.game.program (vars_of m.frames) a))

-- What an instruction leads to, where the machine is behind it.
abbrev pub does : Setting → Op → Mid → Status
does g (op.Do a) m = let n = cells g.game.program (terms_of a) in charged g n m (done g (act_at g.game [] a (more n m)) (more n m))
does g (op.Ask pred terms many next) m =
    let n = cells g.game.program terms in
    charged g n m (asks g pred (call_of (values g m terms) many next (more n m)) (more n m))
does g (op.LastAsk pred terms many) m =
    let n = cells g.game.program terms in
    charged g n m (last g (ToPred pred) (values g m terms) many m.frames (more n m))
does g (op.Query a b many next) m =
    let n = cells g.game.program (a ∷ option_terms b) in
    charged g n m (queries g (asked_by g a m) (values g m (option_terms b)) many next (more n m))
does g (op.LastQuery a b many) m =
    let n = cells g.game.program (a ∷ option_terms b) in
    charged g n m (queries_last g (asked_by g a m) (values g m (option_terms b)) many (more n m))
does g (op.Find place terms many next) m =
    let n = cells g.game.program terms in
    let f : Find = record { place = place; args = values g m terms; many = many; next = next } in
    charged g n m (seeks g f (asked_at g.game [] place f.args (more n m)) (more n m))
does g op.Take m = Runs (passed m)
does g (op.Branch alt) m = charged g 10 m (Runs (inside (Goes alt) 0 m))
does g (op.Select site mode blocks behind) m = Runs (at_choice g (selects g.game site mode (length blocks) (world_of [] m)) site blocks behind m)
does g op.Once m = charged g 10 m (Runs (within (place_of m) (more 10 (passed m))))
does g (op.Try alt) m = charged g 10 m (Runs (within (place_of m) (inside (Goes alt) 0 m)))
does g (op.Shield alt) m = charged g 10 m (Runs (shielded alt m))
does g (op.Collect term into alt) m =
    let n = cells g.game.program (term ∷ into ∷ []) in
    let v = value_of g.game.program (vars_of m.frames) in
    let m' = gathering (v term) (v into) alt (more n m) in
    charged g n m (charged g 10 (more n m) (gathers g m'.gathered (Runs m')))
does g (op.Retry alt) m = Fails m
does g (op.TakeOut whole into) m = Fails m
does g op.Commit m = commits m.inner m
does g op.Refuse m = refuses m.inner m
does g op.Leave m = leaves m.inner m
does g (op.Keep term) m = keeps g m.inner m
does g op.Back m = Fails m
does g op.Return m = returns g m.frames m
does g (op.Goto b) m = Runs (record m { ops = block_at g.code b })
does g (op.Enter vars head) m = Fails m
does g op.Done m = Ended ending.Done

-- The code at hand; it fails at its end.
abbrev pub runs : Setting → List Op → Mid → Status
runs g [] m = Fails m
runs g (x ∷ ops) m = does g x (record m { ops = ops })

-- ## Entering and going back

-- The frame of a rule that is entered.
abbrev pub new_frame : Call → ℕ → Mid → Frame
new_frame call vars m = record { vars = new_vars vars m.state.vars; cut = call.cut; many = call.many; next = call.next; inner = m.inner }

-- A rule is entered: its variables are made, its head is written, and the arguments are unified with it.
abbrev pub enter : Setting → Call → ℕ → List Term → Mid → Status
enter g call vars head m =
    let n = 6 + vars + cells g.game.program head in
    let f = new_frame call vars m in
    let m' = record m { state = record m.state { vars = m.state.vars + vars; heap = m.state.heap + n } } in
    let u = solve m.state.subst (zip call.args (map (value_of g.game.program f.vars) head)) in
    charged g n m (unified g u m' (Runs (record (bound u m') { frames = f ∷ m.frames; inner = [] })))

-- The code of a rule begins with its entering.
abbrev pub entered : Setting → Call → List Op → Mid → Status
entered g call (op.Enter vars head ∷ ops) m = enter g call vars head (record m { ops = ops })
entered g call ops m = Fails m

-- Values that were gathered are taken out, for another.
abbrev pub taken_out : List Print → Gathered → Value → List Value → Mid → Act
taken_out ps whole into values m = takes_out (whole_of whole) into values (registers_of m) (world_of ps m)

-- The newest of these gatherings is taken out, for a value.
abbrev pub takes_newest : Setting → Gathered → Value → List Gathering → Mid → Status
takes_newest g whole into [] m = Fails m
takes_newest g whole into (x ∷ xs) m = let m' = passed (record m { gathered = xs }) in done g (taken_out [] whole into x.values m') m'

-- A choice that takes a gathering out goes on at this code.
abbrev pub takes : Setting → Value → List Op → Mid → Status
takes g into (op.TakeOut whole t ∷ ops) m = takes_newest g whole into m.gathered (record m { ops = ops })
takes g into ops m = Fails m

-- A choice goes on at this code; it is kept where the code begins with a further way.
abbrev pub resumed : Setting → List Op → Mid → Status
resumed g (op.Retry alt ∷ ops) m = charged g 10 m (Runs (inside (Goes alt) 0 (record m { ops = ops })))
resumed g ops m = Runs (passed (record m { ops = ops }))

-- The machine at a block, inside the choice of further objects, where there are any.
abbrev pub trying : Setting → Find → List ℕ → Mid → Mid
trying g f [] m = record (passed m) { ops = block_at g.code f.next; inner = inner_for f.many (place_of m) m.inner }
trying g f (o ∷ os) m = record (inside (Tries f (o ∷ os)) (length f.args) m) { ops = block_at g.code f.next; inner = inner_for f.many (place_of m) m.inner }

-- The heap that this takes.
abbrev pub trying_cells : Find → List ℕ → ℕ
trying_cells f [] = 0
trying_cells f (o ∷ os) = 10 + length f.args

-- The first of some objects is tried.
abbrev pub tries : Setting → Find → List ℕ → Mid → Status
tries g f [] m = Fails m
tries g f (o ∷ os) m = charged g (trying_cells f os) m (done g (found_at [] f o (trying g f os m)) (trying g f os m))

-- A choice goes on.
abbrev pub goes_on : Setting → Way → Mid → Status
goes_on g (Goes b) m = resumed g (block_at g.code b) m
goes_on g (Takes b into) m = takes g into (block_at g.code b) m
goes_on g (Calls call rules) m = begins g call rules m
goes_on g (Tries f objects) m = tries g f objects m

-- A failure goes back to the newest choice; without one the run has failed.
abbrev pub goes_back : List Choice → Mid → Status
goes_back [] m = Ended ending.Failed
goes_back (c ∷ cs) m = Resumes c.way (back_at c cs m)

-- ## One step

-- What a step leads to.
abbrev pub step : Setting → Status → Status
step g (Runs m) = runs g m.ops m
step g (Enters call m) = entered g call m.ops m
step g (Resumes way m) = goes_on g way m
step g (Fails m) = goes_back m.choices m
step g (Ended e) = Ended e

-- An instruction takes a goal.
abbrev pub is_goal : Op → Bool
is_goal (op.Do a) = true
is_goal (op.Ask pred terms many next) = true
is_goal (op.LastAsk pred terms many) = true
is_goal (op.Query a b many next) = true
is_goal (op.LastQuery a b many) = true
is_goal (op.Find place terms many next) = true
is_goal op.Take = true
is_goal (op.Branch alt) = true
is_goal (op.Select site mode blocks behind) = true
is_goal op.Once = true
is_goal (op.Try alt) = true
is_goal (op.Shield alt) = true
is_goal (op.Collect term into alt) = true
is_goal x = false

-- The first of some instructions takes a goal.
abbrev pub at_goal : List Op → Bool
at_goal [] = false
at_goal (x ∷ ops) = is_goal x

-- The next step takes a goal.
abbrev pub takes_goal : Status → Bool
takes_goal (Runs m) = at_goal m.ops
takes_goal s = false

-- ## What is printed

-- What an instruction prints, where it meets no limit.
abbrev pub said_in : Setting → Mid → List Op → List Print
said_in g m (op.Do a ∷ ops) = said_by (act_at g.game [] a (more (cells g.game.program (terms_of a)) m))
said_in g m ops = []

-- What is printed by a step that leads to a status: nothing where the run has ended.
abbrev pub said_to : List Print → Status → List Print
said_to [] s = []
said_to (p ∷ ps) (Ended e) = []
said_to (p ∷ ps) s = p ∷ ps

-- What a step prints.
abbrev pub said : Setting → Status → List Print
said g (Runs m) = said_to (said_in g m m.ops) (step g (Runs m))
said g s = []

-- What was printed, with what is printed now behind it.
abbrev pub followed : List Print → List Print → List Print
followed ps [] = ps
followed ps (q ∷ qs) = ps ++ q ∷ qs
