-- What one step costs an engine, and what of it the search counts as work. Hold it against docs/LANGUAGE.md, where it says what a limit counts.
use Rattle.std.specs.Prelude.{ℕ, ◌+◌, ◌-◌, nat_lt, List, [], ◌∷◌, Option, Some, None, Bool, true, false, map, if◌then◌else◌}
use Rattle.std.specs.List.{zip}
use Rattle.dg_base.specs.declared.program.Term.{Term}
use Rattle.dg_base.specs.Goals.{option_terms}
use Rattle.dg_meaning.specs.Values.{Value, value_of}
use Rattle.dg_meaning.specs.Substitutions.{Substitution, links, resolved}
use Rattle.dg_meaning.specs.Unify.{Equations, looks}
use Rattle.dg_meaning.specs.Letters.{copied}
use Rattle.dg_meaning.specs.World.{Print, Gathering}
use Rattle.dg_meaning.specs.Cells.{cells, writing}
use Rattle.dg_meaning.specs.Moves.{unifying, first_looks}
use Rattle.dg_meaning.specs.Path.{Act, Goes as GoesNow, Unifies, Stops, Effect, Acts, Offers}
use Rattle.dg_unify.specs.Store.{State}
use Rattle.dg_mid.specs.declared.code.Op.{Op}
use Rattle.dg_mid.specs.declared.code.Op.TheVariants as op
use Rattle.dg_mid.specs.declared.code.Gathered.{Gathered}
use Rattle.dg_mid.specs.Code.{block_at}
use Rattle.dg_mid.specs.State.{Place, Frame, Call, Target, ToPred, ToBody, Find, Way, Goes, Takes, Calls, Tries, Stop, Choice, Mid, Status, Runs, Enters, Resumes, Fails, Ended, vars_of, cut_of, stop_to}
use Rattle.dg_mid.specs.Actions.{terms_of, registers_of, act_at, asked_at, found_at, world_by}
use Rattle.dg_mid.specs.Step.{Setting, more, passed, is_goal, new_frame, values, parameter, body_equations, asked_by, trying, taken_out}

-- ## What the search counts

-- The work of an act that was begun without any: what it does, and its unification.
abbrev pub act_work : Act → ℕ
act_work (Unifies made es w) = w.meters.work + unifying made.bound es
act_work act = (world_by act).meters.work

-- The same of an effect; branches that are offered are begun later.
abbrev pub effect_work : Effect → ℕ
effect_work (Acts act) = act_work act
effect_work (Offers k bs w) = w.meters.work

-- The work of trying the first of some objects.
abbrev pub found_work : Setting → List Print → Find → List ℕ → Mid → ℕ
found_work g ps f [] m = 0
found_work g ps f (o ∷ os) m = act_work (found_at ps f o (trying g f os m))

-- The work of entering the body of a closure, whose new variables are numbered from this on.
abbrev pub body_work : Setting → Target → List Value → Substitution → ℕ → ℕ
body_work g (ToPred pred) args S next = 0
body_work g (ToBody c captured) args S next = 1 + writing (parameter captured args) + unifying S (body_equations g captured c.own args next)

-- The work of calling what a value asks.
abbrev pub query_work : Setting → Option Target → List Value → Substitution → ℕ → ℕ
query_work g None args S next = 0
query_work g (Some t) args S next = body_work g t args S next

-- The work of a query of a closure, whose value is looked up.
abbrev pub asking_work : Setting → Term → Option Term → Mid → ℕ
asking_work g a b m =
    writing (a ∷ option_terms b) + (1 + links m.state.subst (value_of g.game.program (vars_of m.frames) a))
    + query_work g (asked_by g a m) (values g m (option_terms b)) m.state.subst m.state.vars

-- The work of gathering a value, if there is one: it is looked through and copied.
abbrev pub keeping_work : Option Value → State → ℕ
keeping_work None s = 0
keeping_work (Some v) s = looks s.subst s.vars v + copied (resolved s.subst v)

-- The same of the value of the newest of these constructs; without one nothing gathers.
abbrev pub gathering_work : List Place → State → ℕ
gathering_work [] s = 0
gathering_work (p ∷ ps) s = keeping_work p.gathers s

-- The work of a query with these arguments: they are written, and the first is looked up.
abbrev pub asking : Setting → List Term → Mid → ℕ
asking g terms m = writing terms + first_looks (registers_of m) (values g m terms)

-- The work of an instruction, behind what was printed.
abbrev pub effort : Setting → List Print → Op → Mid → ℕ
effort g ps (op.Do a) m = writing (terms_of a) + act_work (act_at g.game ps a (more (cells g.game.program (terms_of a)) m))
effort g ps (op.Ask pred terms many next) m = asking g terms m
effort g ps (op.LastAsk pred terms many) m = asking g terms m
effort g ps (op.Query a b many next) m = asking_work g a b m
effort g ps (op.LastQuery a b many) m = asking_work g a b m
effort g ps (op.Find place terms many next) m =
    writing terms + effect_work (asked_at g.game ps place (values g m terms) (more (cells g.game.program terms) m))
effort g ps (op.Collect term into alt) m = writing (term ∷ into ∷ [])
effort g ps (op.Keep term) m = gathering_work m.inner m.state
effort g ps x m = 0

-- The arguments of a call beside the terms of a rule's head.
abbrev pub head_equations : Setting → Call → ℕ → List Term → Mid → Equations
head_equations g call vars head m = zip call.args (map (value_of g.game.program (new_frame call vars m).vars) head)

-- The work of entering a rule.
abbrev pub entering : Setting → Call → List Op → Mid → ℕ
entering g call (op.Enter vars head ∷ ops) m = 1 + writing head + unifying m.state.subst (head_equations g call vars head m)
entering g call ops m = 0

-- The work of going on at a block: a list between (or) is one.
abbrev pub resuming : List Op → ℕ
resuming (op.Retry alt ∷ ops) = 1
resuming ops = 0

-- The work of taking the newest of these gatherings out, for a value.
abbrev pub taking_newest : List Print → Gathered → Value → List Gathering → Mid → ℕ
taking_newest ps whole into [] m = 0
taking_newest ps whole into (x ∷ xs) m = act_work (taken_out ps whole into x.values (passed (record m { gathered = xs })))

-- The same at a block.
abbrev pub taking : List Print → Value → List Op → Mid → ℕ
taking ps into (op.TakeOut whole t ∷ ops) m = taking_newest ps whole into m.gathered (record m { ops = ops })
taking ps into ops m = 0

-- ## What is paid by what was done before

-- The choices that a cut to a place drops.
abbrev pub dropped : Place → List Choice → ℕ
dropped p [] = 0
dropped p (c ∷ cs) = if nat_lt c.place.tag p.tag then 0 else 1 + dropped p cs

-- The choices that a cut to the newest of some places drops.
abbrev pub dropped_in : List Place → List Choice → ℕ
dropped_in [] cs = 0
dropped_in (p ∷ ps) cs = dropped p cs

-- The choices that the answer of the newest of some rules drops.
abbrev pub dropped_once : List Frame → List Choice → ℕ
dropped_once [] cs = 0
dropped_once (f ∷ fs) cs = if f.many then 0 else dropped f.cut cs

-- What a stop to a part drops, and takes off the trail.
abbrev pub unwound_to : Option (Stop × List Stop) → Mid → ℕ
unwound_to None m = 0
unwound_to (Some found) m = dropped found.0.place m.choices + (m.state.trail - found.0.state.trail)

-- The same for the part of a tag, where there is one.
abbrev pub unwound : Option ℕ → Mid → ℕ
unwound None m = 0
unwound (Some t) m = unwound_to (stop_to t m.stops) m

-- The choices that an act drops, and what it takes off the trail.
abbrev pub dropped_by : Act → Mid → ℕ
dropped_by (GoesNow (s ∷ steps) w) m = dropped (cut_of m.frames) m.choices
dropped_by (Stops w) m = unwound m.stop m
dropped_by act m = 0

-- The same of an instruction.
abbrev pub drops : Setting → Op → Mid → ℕ
drops g (op.Do a) m = let m' = more (cells g.game.program (terms_of a)) m in dropped_by (act_at g.game [] a m') m'
drops g op.Commit m = dropped_in m.inner m.choices
drops g op.Refuse m = dropped_in m.inner m.choices
drops g op.Leave m = dropped_in m.inner m.choices
drops g op.Return m = dropped_once m.frames m.choices
drops g x m = 0

-- The entries of the trail that going back takes off.
abbrev pub undone : List Choice → Mid → ℕ
undone [] m = 0
undone (c ∷ cs) m = m.state.trail - c.state.trail

-- ## One step

-- What the code at hand costs: one for its step, with all that it does.
abbrev pub units_of : Setting → List Print → List Op → Mid → ℕ
units_of g ps [] m = 1
units_of g ps (x ∷ ops) m = 1 + effort g ps x m + drops g x m

-- What going on costs.
abbrev pub units_by : Setting → List Print → Way → Mid → ℕ
units_by g ps (Goes b) m = 1 + resuming (block_at g.code b)
units_by g ps (Takes b into) m = 1 + taking ps into (block_at g.code b) m
units_by g ps (Calls call rules) m = 1
units_by g ps (Tries f objects) m = 1 + found_work g ps f objects m

-- What a step costs an engine, behind what was printed: 1 at least, until it has ended.
abbrev pub units : Setting → List Print → Status → ℕ
units g ps (Runs m) = units_of g ps m.ops m
units g ps (Enters call m) = 1 + entering g call m.ops m
units g ps (Resumes way m) = units_by g ps way m
units g ps (Fails m) = 1 + undone m.choices m
units g ps (Ended e) = 0

-- One or none.
abbrev pub one_if : Bool → ℕ
one_if true = 1
one_if false = 0

-- What the search counts of the code at hand.
abbrev pub earned_of : Setting → List Print → List Op → Mid → ℕ
earned_of g ps [] m = 0
earned_of g ps (x ∷ ops) m = one_if (is_goal x) + effort g ps x m

-- What it counts of going on.
abbrev pub earned_by : Setting → List Print → Way → Mid → ℕ
earned_by g ps (Goes b) m = resuming (block_at g.code b)
earned_by g ps (Takes b into) m = taking ps into (block_at g.code b) m
earned_by g ps (Calls call rules) m = 0
earned_by g ps (Tries f objects) m = found_work g ps f objects m

-- What the search adds to the work at a step, at least.
abbrev pub earned : Setting → List Print → Status → ℕ
earned g ps (Runs m) = earned_of g ps m.ops m
earned g ps (Enters call m) = entering g call m.ops m
earned g ps (Resumes way m) = earned_by g ps way m
earned g ps (Fails m) = 0
earned g ps (Ended e) = 0

-- ## Selection

-- Where the code at hand looks at rules, up to the second that isn't excluded.
abbrev pub selects_at : List Op → ℕ
selects_at (op.Ask pred terms many next ∷ ops) = 1
selects_at (op.LastAsk pred terms many ∷ ops) = 1
selects_at ops = 0

-- Where going on looks at rules.
abbrev pub selects_on : Way → ℕ
selects_on (Goes b) = 0
selects_on (Takes b into) = 0
selects_on (Calls call []) = 0
selects_on (Calls call (r ∷ rs)) = 1
selects_on (Tries f objects) = 0

-- Whether a step looks at rules.
abbrev pub selects : Status → ℕ
selects (Runs m) = selects_at m.ops
selects (Enters call m) = 0
selects (Resumes way m) = selects_on way
selects (Fails m) = 0
selects (Ended e) = 0
