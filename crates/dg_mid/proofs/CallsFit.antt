-- Calls have as many arguments as the rules that they may enter.
use Rattle.std.proofs.Common.{ℕ, zero, suc, ◌+◌, ◌≤◌, ◌⊎◌, inl, inr, List, [], ◌∷◌, ◌++◌, Option, Some, None, Bool, true, false, sym, subst, arith, length, map, get_or}
use Rattle.std.specs.List.{zip}
use Rattle.std.specs.Prelude.{if◌then◌else◌, ◌-◌, nat_lt, eqb}
use Rattle.std.proofs.lemmas.Bool.{cond_both}
use Rattle.std.proofs.lemmas.List.{length-map}
use Rattle.dg_base.specs.Goals.{option_terms, terms_held}
use Rattle.dg_base.specs.Sound.{IsSound}
use Rattle.dg_base.specs.declared.program.Goal.{Goal}
use Rattle.dg_base.specs.declared.program.Goal.TheVariants as goal
use Rattle.dg_base.specs.declared.program.Goal.TheOpen as form
use Rattle.dg_base.specs.declared.program.Term.{Term}
use Rattle.dg_base.specs.declared.run.Ending.{Ending}
use Rattle.dg_base.specs.declared.run.Ending.TheVariants as ending
use Rattle.dg_meaning.specs.Cells.{cells}
use Rattle.dg_meaning.specs.Few.{AllHoldFew}
use Rattle.dg_meaning.specs.Moves.{selects as selects_so}
use Rattle.dg_meaning.specs.Path.{Act, Goes as GoesAct, Tests, Unifies, Ends, Fails as FailsNow, Stops, Effect, Acts, Offers}
use Rattle.dg_meaning.specs.Substitutions.{walk, resolved}
use Rattle.dg_meaning.specs.Unify.{Unified, solve}
use Rattle.dg_meaning.specs.Values.{Value, value_of}
use Rattle.dg_meaning.specs.World.{Gathering, gathered_size, Game}
use Rattle.dg_mid.specs.declared.code.Op.{Op}
use Rattle.dg_mid.specs.declared.code.Op.TheVariants as op
use Rattle.dg_mid.specs.declared.code.Gathered.{Gathered}
use Rattle.dg_mid.specs.declared.code.Gathered.TheVariants as gathered
use Rattle.dg_mid.specs.declared.code.RuleCode.{RuleCode}
use Rattle.dg_mid.specs.Actions.{goal_of, terms_of, asked_at, act_at, found_at, world_of, lasting_in}
use Rattle.dg_mid.specs.Calls.{FirstFits, StatusFits}
use Rattle.dg_mid.specs.Code.{block_at, rules_at, selected}
use Rattle.dg_mid.specs.Codes.{End, Commits, Refuses, Backs, Leaves, Keeps, Finishes, found_goals, found_end, Stands, jumps, returns, commits, refuses, backs, leaves, keeps, finishes, acts, ask, last_ask, query, last_query, holds, objects, only, either, selects, once, negates, branch, exhausts, shields, collects, accumulates, forever, Others, last_list, more_lists, Branches, no_branch, a_branch, Codes}
use Rattle.dg_mid.specs.declared.code.Code.{Code}
use Rattle.dg_base.specs.declared.run.Limits.{Limits}
use Rattle.dg_mid.specs.Runs.{after}
use Rattle.dg_mid.specs.State.{Place, Frame, Call, Target, ToPred, ToBody, Find, Way, Goes, Takes, Calls, Tries, Stop, Choice, Mid, Status, Runs, Enters, Resumes, Fails, Ended, vars_of, cut_of, cut_choices, stop_to, place_of}
use Rattle.dg_mid.specs.Step.{Setting, setting, more, charged, bound, unified, if_agreed, if_passed, made_in, done, stops, stops_at, begins, enters, asks, calls, call_of, asks_last, last, queries, queries_last, asked_by, values, seeks}
use Rattle.dg_mid.specs.Step.{does, runs, commits as commits_to, refuses as refuses_to, leaves as leaves_to, returns as returns_to, returned, entered, resumed, goes_on, goes_back, step, passed, parameter, body_equations, body_frame, new_frame, first_of, keeps as keeps_to, gathering, gathers}
use Rattle.dg_mid.specs.Step.{newest_with, keeps_value, taken_out, takes_newest, takes, trying, trying_cells, tries, inside, shielded, within}
use Rattle.dg_mid.proofs.Backs.{goes_plainly}
use Rattle.dg_mid.proofs.Deep.{DeepIn, first_deep, rest_deep, inside_deep, append_deep, lists_deep, three_deep}
use Rattle.dg_mid.proofs.FitCode as fit
use Rattle.dg_mid.proofs.FitCode.{selected_fit, enters_with, all_enter, choices_fit, way_fits}
use Rattle.dg_mid.proofs.FitProgram as program
use Rattle.dg_mid.proofs.FitProgram.{asked_is, answers, ask_fits, start_fits}

module _ (g : Game) (n : ℕ) (code : Code) (limits : Limits) (codes : Codes g.program code) (sound : IsSound g.program) (few : AllHoldFew n g.program) where
  abbrev GoalFits : Goal → Type 0
  GoalFits x = fit.GoalFits g n code x

  abbrev AreFit : List Goal → Type 0
  AreFit gs = fit.AreFit g n code gs

  abbrev EndFits : End → Type 0
  EndFits end = fit.EndFits g n code end

  abbrev CodeFits : List Op → Type 0
  CodeFits ops = fit.CodeFits g n code ops

  abbrev ListsFit : ℕ → Type 0
  ListsFit b = fit.ListsFit g n code b

  abbrev RuleFits : ℕ → List Op → Type 0
  RuleFits k ops = fit.RuleFits g n code k ops

  abbrev RulesFit : ℕ → List RuleCode → Type 0
  RulesFit k rules = fit.RulesFit g n code k rules

  abbrev OutFits : List Op → Type 0
  OutFits ops = fit.OutFits g n code ops

  abbrev FramesFit : List Frame → Type 0
  FramesFit fs = fit.FramesFit g n code fs

  abbrev StopsFit : List Stop → Type 0
  StopsFit ss = fit.StopsFit g n code ss

  abbrev CallFits : Call → Type 0
  CallFits c = fit.CallFits g n code c

  abbrev WayIs : Way → Type 0
  WayIs way = fit.WayIs g n code way

  abbrev ChoicesAre : List Choice → Type 0
  ChoicesAre cs = fit.ChoicesAre g n code cs

  abbrev F : Mid → Type 0
  F m = fit.F g n code m

  abbrev S : Status → Type 0
  S s = fit.S g n code s

  abbrev set : Setting
  set = setting g code limits

  abbrev TargetFits : ℕ → Target → Type 0
  TargetFits k t = program.TargetFits g n code codes sound few k t

  abbrev IfTarget : ℕ → Option Target → Type 0
  IfTarget k t = program.IfTarget g n code codes sound few k t

  -- ## What leads where

  if_ends : (b : Bool) (e : Ending) (s : Status) → S s → S (if b then Ended e else s)
  if_ends true e s h = tt
  if_ends false e s h = h

  on_charged : (k : ℕ) (m : Mid) (s : Status) → S s → S (charged set k m s)
  on_charged zero m s h = h
  on_charged (suc k) m s h = if_ends (nat_lt limits.heap (m.state.heap + suc k)) ending.HeapLimit s h

  on_agreed : (b : Bool) (m : Mid) (s : Status) → F m → S s → S (if_agreed b m s)
  on_agreed true m s f h = h
  on_agreed false m s f h = f

  on_unified : (u : Unified) (m : Mid) (s : Status) → F m → S s → S (unified set u m s)
  on_unified u m s f h = if_ends _ ending.TrailLimit (if_agreed u.agrees (bound u m) s) (on_agreed u.agrees (bound u m) s f h)

  on_passed : (b : Bool) (m : Mid) → CodeFits m.ops → F m → S (if_passed b m)
  on_passed true m o f = (o, f)
  on_passed false m o f = f

  on_cut : (q : Place) (cs : List Choice) → ChoicesAre cs → ChoicesAre (cut_choices q cs)
  on_cut q [] h = tt
  on_cut q (c ∷ cs) h = cond_both (nat_lt c.place.tag q.tag) (c ∷ cs) (cut_choices q cs) ChoicesAre (λ e. h) (λ e. on_cut q cs h.3)

  on_stop_at : (u : ℕ) (ss : List Stop) (m : Mid) → F m → StopsFit ss → S (stops_at set (stop_to u ss) m)
  on_stop_at u [] m f h = f
  on_stop_at u (s ∷ ss) m f h = cond_both (eqb s.place.tag u) (Some (s, ss)) (stop_to u ss) (λ x. S (stops_at set x m)) (λ e. (h.0, (h.1, h.2, on_cut s.place m.choices f.2))) (λ e. on_stop_at u ss m f h.2)

  on_stops : (t : Option ℕ) (m : Mid) → F m → S (stops set t m)
  on_stops None m f = tt
  on_stops (Some u) m f = on_stop_at u m.stops m f f.1

  on_done : (act : Act) (m : Mid) → CodeFits m.ops → F m → S (done set act m)
  on_done (GoesAct [] w) m o f = if_ends _ ending.KeepLimit (Runs (lasting_in w m)) (o, f)
  on_done (GoesAct (s ∷ steps) w) m o f = (o, (f.0, f.1, on_cut (cut_of m.frames) m.choices f.2))
  on_done (Tests passed w) m o f = on_passed passed (lasting_in w m) o f
  on_done (Unifies made es w) m o f =
      let m' = made_in made (lasting_in w m) in
      let u = solve made.bound es in
      on_charged (made.heap - m.state.heap) m (unified set u m' (Runs (bound u m'))) (on_unified u m' (Runs (bound u m')) f (o, f))
  on_done (Ends x w) m o f = tt
  on_done (FailsNow w) m o f = f
  on_done (Stops w) m o f = on_stops m.stop (lasting_in w m) f

  -- ## Queries

  on_enters : (c : Call) (r : RuleCode) (rules : List RuleCode) (m : Mid) → CallFits c → RulesFit (length c.args) (r ∷ rules) → F m → S (enters set c r rules m)
  on_enters c r [] m a h f = (a, h.0, f)
  on_enters c r (q ∷ qs) m a h f = on_charged (10 + length c.args) m _ (a, h.0, (f.0, f.1, ((a, h.1), f.0, f.1, f.2)))

  on_begins : (c : Call) (rules : List RuleCode) (m : Mid) → CallFits c → RulesFit (length c.args) rules → F m → S (begins set c rules m)
  on_begins c [] m a h f = f
  on_begins c (r ∷ rs) m a h f = let first = first_of m.state.subst c in on_enters c r (selected first rs) m a (h.0, selected_fit g n code (length c.args) first rs h.1) f

  on_calls : (t : Target) (c : Call) (m : Mid) → CallFits c → TargetFits (length c.args) t → F m → S (calls set t c m)
  on_calls (ToPred pred) c m a h f = let first = first_of m.state.subst c in on_begins c (selected first (rules_at code pred)) m a (selected_fit g n code (length c.args) first (rules_at code pred) h) f
  on_calls (ToBody body captured) c m a h f =
      let k = 6 + body.own + cells g.program (parameter captured c.args) in
      let m' = record (passed m) { ops = block_at code body.block; state = record m.state { vars = m.state.vars + body.own; heap = m.state.heap + k } } in
      let u = solve m.state.subst (body_equations set captured body.own c.args m.state.vars) in
      let s = Runs (record (bound u m') { frames = body_frame captured body.own c m ∷ m.frames; inner = [] }) in
      on_charged k m (unified set u m' s) (on_unified u m' s f (h, ((a.1, f.0), f.1, f.2)))

  on_asks_last : (t : Target) (vs : List Value) (many every : Bool) (x : Frame) (xs : List Frame) (m : Mid) → length vs ≤ n → TargetFits (length vs) t → FramesFit (x ∷ xs) → F m → S (asks_last set t vs many every x xs m)
  on_asks_last t vs many true x xs m le h fs f = on_calls t (call_of vs many x.next m) (record m { frames = xs; inner = x.inner }) (le, fs.0) h (fs.1, f.1, f.2)
  on_asks_last t vs many false x xs m le h fs f = on_calls t (call_of vs many 0 m) (record m { inner = [] }) (le, answers g n code codes sound few) h f

  on_last : (t : Target) (vs : List Value) (many : Bool) (xs : List Frame) (m : Mid) → length vs ≤ n → TargetFits (length vs) t → FramesFit xs → F m → S (last set t vs many xs m)
  on_last t vs many [] m le h fs f = on_calls t (call_of vs many 0 m) (record m { inner = [] }) (le, answers g n code codes sound few) h f
  on_last t vs many (x ∷ xs) m le h fs f = on_asks_last t vs many x.many x xs m le h fs f

  on_queries : (t : Option Target) (vs : List Value) (many : Bool) (next : ℕ) (m : Mid) → length vs ≤ n → IfTarget (length vs) t → CodeFits (block_at code next) → F m → S (queries set t vs many next m)
  on_queries None vs many next m le h b f = f
  on_queries (Some t) vs many next m le h b f = on_calls t (call_of vs many next m) m (le, b) h f

  on_queries_last : (t : Option Target) (vs : List Value) (many : Bool) (m : Mid) → length vs ≤ n → IfTarget (length vs) t → F m → S (queries_last set t vs many m)
  on_queries_last None vs many m le h f = f
  on_queries_last (Some t) vs many m le h f = on_last t vs many m.frames m le h f.0 f

  on_seeks : (x : Find) (e : Effect) (m : Mid) → length x.args ≤ n → CodeFits (block_at code x.next) → CodeFits m.ops → F m → S (seeks set x e m)
  on_seeks x (Acts act) m le b o f = on_done act m o f
  on_seeks x (Offers k bs w) m le b o f = ((le, b), f)

  -- so many terms have so many values
  few_values : (m : Mid) (terms : List Term) → length terms ≤ n → length (values set m terms) ≤ n
  few_values m terms le = subst (λ k. k ≤ n) (sym (length-map terms (value_of g.program (vars_of m.frames)))) le

  rules_for : (m : Mid) (terms : List Term) (rules : List RuleCode) → RulesFit (length terms) rules → RulesFit (length (values set m terms)) rules
  rules_for m terms rules h = subst (λ k. RulesFit k rules) (sym (length-map terms (value_of g.program (vars_of m.frames)))) h

  -- ## Instructions between goals

  on_commits : (ps : List Place) (m : Mid) → CodeFits m.ops → F m → S (commits_to ps m)
  on_commits [] m o f = f
  on_commits (q ∷ ps) m o f = (o, (f.0, f.1, on_cut q m.choices f.2))

  on_leaves : (ps : List Place) (m : Mid) → CodeFits m.ops → F m → S (leaves_to ps m)
  on_leaves [] m o f = f
  on_leaves (q ∷ ps) m o f = (o, (f.0, f.1, on_cut q m.choices f.2))

  on_refuses : (ps : List Place) (m : Mid) → F m → S (refuses_to ps m)
  on_refuses [] m f = f
  on_refuses (q ∷ ps) m f = (f.0, f.1, on_cut q m.choices f.2)

  on_returned : (every : Bool) (x : Frame) (xs : List Frame) (m : Mid) → FramesFit (x ∷ xs) → F m → S (Runs (returned set every x xs m))
  on_returned true x xs m h f = (h.0, (h.1, f.1, f.2))
  on_returned false x xs m h f = (h.0, (h.1, f.1, on_cut x.cut m.choices f.2))

  on_returns : (xs : List Frame) (m : Mid) → FramesFit xs → F m → S (returns_to set xs m)
  on_returns [] m h f = f
  on_returns (x ∷ xs) m h f = on_returned x.many x xs m h f

  on_gathers : (gs : List Gathering) (s : Status) → S s → S (gathers set gs s)
  on_gathers gs s h = if_ends (nat_lt limits.aux (gathered_size gs)) ending.AuxLimit s h

  on_keeps_value : (v : Option Value) (m : Mid) → F m → S (keeps_value set v m)
  on_keeps_value None m f = f
  on_keeps_value (Some v) m f = let gs = newest_with (resolved m.state.subst v) m.gathered in on_gathers gs (Fails (record m { gathered = gs })) f

  on_keeps : (ps : List Place) (m : Mid) → F m → S (keeps_to set ps m)
  on_keeps [] m f = f
  on_keeps (q ∷ ps) m f = on_keeps_value q.gathers (record m { inner = ps }) f

  -- ## Goals

  -- a block of a select stands for the goals of its branch
  branch_fits : (blocks : List ℕ) (lists : List (List Goal)) (goals : List Goal) (end : End) → Branches code blocks lists goals end → DeepIn GoalFits lists → AreFit goals → EndFits end → (behind : ℕ) → CodeFits (block_at code behind) → (i : ℕ) → CodeFits (block_at code (get_or blocks i behind))
  branch_fits blocks lists goals end (no_branch goals' end') ls fit ends behind b i = b
  branch_fits blocks lists goals end (a_branch k ks list others goals' end' s bs) ls fit ends behind b zero = record { goals = list ++ goals; end = end; stands = s; fit = append_deep GoalFits list goals ls.0 fit; ends = ends }
  branch_fits blocks lists goals end (a_branch k ks list others goals' end' s bs) ls fit ends behind b (suc i) = branch_fits ks others goals end bs ls.1 fit ends behind b i

  found_fit : (many : Bool) (goals : List Goal) → AreFit goals → AreFit (found_goals many goals)
  found_fit true goals h = h
  found_fit false goals h = tt

  found_ends : (many : Bool) (goals : List Goal) (end : End) → AreFit goals → EndFits end → EndFits (found_end many goals end)
  found_ends true goals end h e = e
  found_ends false goals end h e = (h, e)

  -- a query of a place, or of all objects
  on_find : (place : Option ℕ) (terms : List Term) (many : Bool) (next : ℕ) (m : Mid) → length terms ≤ n → CodeFits (block_at code next) → CodeFits m.ops → F m → S (does set (op.Find place terms many next) m)
  on_find place terms many next m le b o f =
      let k = cells g.program terms in
      let x : Find = record { place = place; args = values set m terms; many = many; next = next } in
      on_charged k m _ (on_seeks x (asked_at g [] place x.args (more k m)) (more k m) (few_values m terms le) b o f)

  -- a gathering, which is taken out at a block
  on_collect : (term into : Term) (alt : ℕ) (m : Mid) → OutFits (block_at code alt) → CodeFits m.ops → F m → S (does set (op.Collect term into alt) m)
  on_collect term into alt m b o f =
      let k = cells g.program (term ∷ into ∷ []) in
      let v : Term → Value = λ t. value_of g.program (vars_of m.frames) t in
      let m' = gathering (v term) (v into) alt (more k m) in
      let s = gathers set m'.gathered (Runs m') in
      on_charged k m (charged set 10 (more k m) s) (on_charged 10 (more k m) s (on_gathers m'.gathered (Runs m') (o, (f.0, f.1, (b, f.0, f.1, f.2)))))

  -- code that goes on at a block where it is gone back to
  on_alt : (alt : ℕ) (m : Mid) → (CodeFits (block_at code alt) ⊎ ListsFit alt) → CodeFits m.ops → F m → S (charged set 10 m (Runs (inside (Goes alt) 0 m)))
  on_alt alt m b o f = on_charged 10 m (Runs (inside (Goes alt) 0 m)) (o, (f.0, f.1, (b, f.0, f.1, f.2)))

  -- the same in one more inner construct
  on_try : (alt : ℕ) (m : Mid) → CodeFits (block_at code alt) → CodeFits m.ops → F m → S (charged set 10 m (Runs (within (place_of m) (inside (Goes alt) 0 m))))
  on_try alt m b o f = on_charged 10 m (Runs (within (place_of m) (inside (Goes alt) 0 m))) (o, (f.0, f.1, (inl b, f.0, f.1, f.2)))

  on_runs : (ops : List Op) (goals : List Goal) (end : End) → Stands code ops goals end → AreFit goals → EndFits end → (m : Mid) → F m → S (runs set ops m)
  on_runs ops goals end (jumps b others goals' end' s) fit ends m f = (record { goals = goals'; end = end'; stands = s; fit = fit; ends = ends }, f)
  on_runs ops goals end (returns others) fit ends m f = on_returns m.frames (record m { ops = others }) f.0 f
  on_runs ops goals end (commits others goals' end' s) fit ends m f = on_commits m.inner (record m { ops = others }) (record { goals = goals'; end = end'; stands = s; fit = ends.0; ends = ends.1 }) f
  on_runs ops goals end (refuses others) fit ends m f = on_refuses m.inner (record m { ops = others }) f
  on_runs ops goals end (backs others) fit ends m f = f
  on_runs ops goals end (leaves others goals' end' s) fit ends m f = on_leaves m.inner (record m { ops = others }) (record { goals = goals'; end = end'; stands = s; fit = ends.0; ends = ends.1 }) f
  on_runs ops goals end (keeps term others) fit ends m f = on_keeps m.inner (record m { ops = others }) f
  on_runs ops goals end (finishes others) fit ends m f = tt
  on_runs ops goals end (acts a others goals' end' s) fit ends m f =
      let m0 : Mid = record m { ops = others } in
      let k = cells g.program (terms_of a) in
      let act = act_at g [] a (more k m0) in
      on_charged k m0 (done set act (more k m0)) (on_done act (more k m0) (record { goals = goals'; end = end'; stands = s; fit = rest_deep GoalFits (goal_of a) goals' fit; ends = ends }) f)
  on_runs ops goals end (ask pred terms many next others goals' end' s) fit ends m f =
      let m0 : Mid = record m { ops = others } in
      let k = cells g.program terms in
      let x = ask_fits g n code codes sound few pred terms many goals' fit in
      let c = call_of (values set m0 terms) many next (more k m0) in
      let b : CodeFits (block_at code next) = record { goals = goals'; end = end'; stands = s; fit = rest_deep GoalFits (goal.Ask pred terms many) goals' fit; ends = ends } in
      on_charged k m0 (asks set pred c (more k m0)) (on_calls (ToPred pred) c (more k m0) (few_values m0 terms x.0, b) (rules_for m0 terms (rules_at code pred) x.1) f)
  on_runs ops goals end (last_ask pred terms many others) fit ends m f =
      let m0 : Mid = record m { ops = others } in
      let k = cells g.program terms in
      let x = ask_fits g n code codes sound few pred terms many [] fit in
      let vs = values set m0 terms in
      on_charged k m0 (last set (ToPred pred) vs many m.frames (more k m0)) (on_last (ToPred pred) vs many m.frames (more k m0) (few_values m0 terms x.0) (rules_for m0 terms (rules_at code pred) x.1) f.0 f)
  on_runs ops goals end (query a t many next others goals' end' s) fit ends m f =
      let m0 : Mid = record m { ops = others } in
      let k = cells g.program (a ∷ option_terms t) in
      let held = (first_deep GoalFits (goal.Query a t many) goals' fit).1 in
      let le : length (option_terms t) ≤ n = let h : suc (length (option_terms t)) ≤ n = subst (λ l. length (terms_held l) ≤ n) (goal.outs-Query a t many) held in omega (arith, h) in
      let b : CodeFits (block_at code next) = record { goals = goals'; end = end'; stands = s; fit = rest_deep GoalFits (goal.Query a t many) goals' fit; ends = ends } in
      let asked = asked_by set a m0 in
      let vs = values set m0 (option_terms t) in
      on_charged k m0 (queries set asked vs many next (more k m0)) (on_queries asked vs many next (more k m0) (few_values m0 (option_terms t) le) (asked_is g n code codes sound few (length vs) (walk m.state.subst (value_of g.program (vars_of m.frames) a))) b f)
  on_runs ops goals end (last_query a t many others) fit ends m f =
      let m0 : Mid = record m { ops = others } in
      let k = cells g.program (a ∷ option_terms t) in
      let held = (first_deep GoalFits (goal.Query a t many) [] fit).1 in
      let le : length (option_terms t) ≤ n = let h : suc (length (option_terms t)) ≤ n = subst (λ l. length (terms_held l) ≤ n) (goal.outs-Query a t many) held in omega (arith, h) in
      let asked = asked_by set a m0 in
      let vs = values set m0 (option_terms t) in
      on_charged k m0 (queries_last set asked vs many (more k m0)) (on_queries_last asked vs many (more k m0) (few_values m0 (option_terms t) le) (asked_is g n code codes sound few (length vs) (walk m.state.subst (value_of g.program (vars_of m.frames) a))) f)
  on_runs ops goals end (holds place terms many next others goals' end' s o) fit ends m f =
      let rest = rest_deep GoalFits (goal.Holds place terms many) goals' fit in
      let le = subst (λ l. length (terms_held l) ≤ n) (goal.outs-Holds place terms many) (first_deep GoalFits (goal.Holds place terms many) goals' fit).1 in
      on_find (Some place) terms many next (record m { ops = others }) le (record { goals = found_goals many goals'; end = found_end many goals' end'; stands = o; fit = found_fit many goals' rest; ends = found_ends many goals' end' rest ends })
      (record { goals = goals'; end = end'; stands = s; fit = rest; ends = ends }) f
  on_runs ops goals end (objects term many next others goals' end' s o) fit ends m f =
      let rest = rest_deep GoalFits (goal.IsObject term many) goals' fit in
      let le = subst (λ l. length (terms_held l) ≤ n) (goal.outs-IsObject term many) (first_deep GoalFits (goal.IsObject term many) goals' fit).1 in
      on_find None (term ∷ []) many next (record m { ops = others }) le (record { goals = found_goals many goals'; end = found_end many goals' end'; stands = o; fit = found_fit many goals' rest; ends = found_ends many goals' end' rest ends })
      (record { goals = goals'; end = end'; stands = s; fit = rest; ends = ends }) f
  on_runs ops goals end (only list others goals' end' s) fit ends m f =
      let lists = lists_deep GoalFits (list ∷ []) (inside_deep GoalFits (goal.Either (list ∷ [])) goals' (form.Either (list ∷ [])) (goal.outs-Either (list ∷ [])) fit) in
      (record { goals = list ++ goals'; end = end'; stands = s; fit = append_deep GoalFits list goals' lists.0 (rest_deep GoalFits (goal.Either (list ∷ [])) goals' fit); ends = ends }, f)
  on_runs ops goals end (either alt list second lists others goals' end' s o) fit ends m f =
      let all = list ∷ second ∷ lists in
      let rest = rest_deep GoalFits (goal.Either all) goals' fit in
      let ls = lists_deep GoalFits all (inside_deep GoalFits (goal.Either all) goals' (form.Either all) (goal.outs-Either all) fit) in
      on_alt alt (record m { ops = others }) (inr (record { lists = second ∷ lists; goals = goals'; end = end'; others = o; are = ls.1; fit = rest; ends = ends }))
      (record { goals = list ++ goals'; end = end'; stands = s; fit = append_deep GoalFits list goals' ls.0 rest; ends = ends }) f
  on_runs ops goals end (selects site mode blocks lists behind others goals' end' bs s) fit ends m f =
      let rest = rest_deep GoalFits (goal.Select site mode lists) goals' fit in
      let ls = lists_deep GoalFits lists (inside_deep GoalFits (goal.Select site mode lists) goals' (form.Select site mode lists) (goal.outs-Select site mode lists) fit) in
      let c = selects_so g site mode (length blocks) (world_of [] (record m { ops = others })) in
      (branch_fits blocks lists goals' end' bs ls rest ends behind (record { goals = goals'; end = end'; stands = s; fit = rest; ends = ends }) c.branch, f)
  on_runs ops goals end (once inner others goals' end' s) fit ends m f =
      let fits = inside_deep GoalFits (goal.Once inner) goals' (form.Once inner) (goal.outs-Once inner) fit in
      let m0 : Mid = record m { ops = others } in
      on_charged 10 m0 (Runs (within (place_of m0) (more 10 (passed m0)))) (record { goals = inner; end = Commits goals' end'; stands = s; fit = fits; ends = (rest_deep GoalFits (goal.Once inner) goals' fit, ends) }, f)
  on_runs ops goals end (negates alt inner others goals' end' s o) fit ends m f =
      let fits = inside_deep GoalFits (goal.Not inner) goals' (form.Not inner) (goal.outs-Not inner) fit in
      let m0 : Mid = record m { ops = others } in
      on_try alt m0 (record { goals = goals'; end = end'; stands = o; fit = rest_deep GoalFits (goal.Not inner) goals' fit; ends = ends }) (record { goals = inner; end = Refuses; stands = s; fit = fits; ends = tt }) f
  on_runs ops goals end (branch alt test first other others goals' end' s o) fit ends m f =
      let rest = rest_deep GoalFits (goal.If test first other) goals' fit in
      let parts = three_deep GoalFits test first other (inside_deep GoalFits (goal.If test first other) goals' (form.If test first other) (goal.outs-If test first other) fit) in
      on_try alt (record m { ops = others }) (record { goals = other ++ goals'; end = end'; stands = o; fit = append_deep GoalFits other goals' parts.2 rest; ends = ends })
      (record { goals = test; end = Commits (first ++ goals') end'; stands = s; fit = parts.0; ends = (append_deep GoalFits first goals' parts.1 rest, ends) }) f
  on_runs ops goals end (exhausts alt inner others goals' end' s o) fit ends m f =
      let fits = inside_deep GoalFits (goal.Exhaust inner) goals' (form.Exhaust inner) (goal.outs-Exhaust inner) fit in
      on_try alt (record m { ops = others }) (record { goals = goals'; end = end'; stands = o; fit = rest_deep GoalFits (goal.Exhaust inner) goals' fit; ends = ends }) (record { goals = inner; end = Backs; stands = s; fit = fits; ends = tt }) f
  on_runs ops goals end (shields alt inner others goals' end' s o) fit ends m f =
      let fits = inside_deep GoalFits (goal.Stoppable inner) goals' (form.Stoppable inner) (goal.outs-Stoppable inner) fit in
      let rest = rest_deep GoalFits (goal.Stoppable inner) goals' fit in
      let m0 : Mid = record m { ops = others } in
      let b : CodeFits (block_at code alt) = record { goals = goals'; end = end'; stands = o; fit = rest; ends = ends } in
      on_charged 10 m0 (Runs (shielded alt m0)) (record { goals = inner; end = Leaves goals' end'; stands = s; fit = fits; ends = (rest, ends) }, (f.0, (b, f.0, f.1), (inl b, f.0, f.1, f.2)))
  on_runs ops goals end (collects term into alt inner others behind goals' end' s e o) fit ends m f =
      let fits = inside_deep GoalFits (goal.Collect term inner into) goals' (form.Collect term inner into) (goal.outs-Collect term inner into) fit in
      on_collect term into alt (record m { ops = others }) (record { whole = gathered.List; into = into; rest = behind; is = e; behind = record { goals = goals'; end = end'; stands = o; fit = rest_deep GoalFits (goal.Collect term inner into) goals' fit; ends = ends } })
      (record { goals = inner; end = Keeps term; stands = s; fit = fits; ends = tt }) f
  on_runs ops goals end (accumulates term into alt inner others behind goals' end' s e o) fit ends m f =
      let fits = inside_deep GoalFits (goal.Accumulate term inner into) goals' (form.Accumulate term inner into) (goal.outs-Accumulate term inner into) fit in
      on_collect term into alt (record m { ops = others }) (record { whole = gathered.Sum; into = into; rest = behind; is = e; behind = record { goals = goals'; end = end'; stands = o; fit = rest_deep GoalFits (goal.Accumulate term inner into) goals' fit; ends = ends } })
      (record { goals = inner; end = Keeps term; stands = s; fit = fits; ends = tt }) f
  on_runs ops goals end (forever b others goals' end' e s) fit ends m f =
      on_alt b (record m { ops = others }) (inl (record { goals = goals; end = end; stands = subst (λ l. Stands code l goals end) (sym e) (forever b others goals' end' e s); fit = fit; ends = ends }))
      (record { goals = goals'; end = end'; stands = s; fit = rest_deep GoalFits goal.Forever goals' fit; ends = ends }) f

  -- ## Entering and going back

  on_entered : (c : Call) (m : Mid) → CallFits c → RuleFits (length c.args) m.ops → F m → S (entered set c m.ops m)
  on_entered c m a h f =
      let m0 : Mid = record m { ops = h.rest } in
      let k = 6 + h.vars + cells g.program h.head in
      let x = new_frame c h.vars m0 in
      let m' : Mid = record m0 { state = record m.state { vars = m.state.vars + h.vars; heap = m.state.heap + k } } in
      let u = solve m.state.subst (zip c.args (map (value_of g.program x.vars) h.head)) in
      let s = Runs (record (bound u m') { frames = x ∷ m.frames; inner = [] }) in
      subst (λ l. S (entered set c l m)) (sym h.is) (on_charged k m0 (unified set u m' s) (on_unified u m' s f (h.body, ((a.1, f.0), f.1, f.2))))

  on_block : (b : ℕ) (m : Mid) → CodeFits (block_at code b) → F m → S (resumed set (block_at code b) m)
  on_block b m h f = subst S (sym (goes_plainly set (block_at code b) h.goals h.end m h.stands).0) (h, f)

  on_lists : (b : ℕ) (lists : List (List Goal)) (goals : List Goal) (end : End) → Others code b lists goals end → DeepIn GoalFits lists → AreFit goals → EndFits end → (m : Mid) → F m → S (resumed set (block_at code b) m)
  on_lists b lists goals end (last_list b' list goals' end' s) ls fit ends m f = on_block b m (record { goals = list ++ goals; end = end; stands = s; fit = append_deep GoalFits list goals ls.0 fit; ends = ends }) f
  on_lists b lists goals end (more_lists b' alt ops list second others goals' end' e s o) ls fit ends m f =
      subst (λ l. S (resumed set l m)) (sym e)
      (on_alt alt (record m { ops = ops }) (inr (record { lists = second ∷ others; goals = goals; end = end; others = o; are = ls.1; fit = fit; ends = ends }))
      (record { goals = list ++ goals; end = end; stands = s; fit = append_deep GoalFits list goals ls.0 fit; ends = ends }) f)

  on_goes : (b : ℕ) (m : Mid) → (CodeFits (block_at code b) ⊎ ListsFit b) → F m → S (resumed set (block_at code b) m)
  on_goes b m (inl h) f = on_block b m h f
  on_goes b m (inr h) f = on_lists b h.lists h.goals h.end h.others h.are h.fit h.ends m f

  on_takes_newest : (whole : Gathered) (into : Value) (gs : List Gathering) (m : Mid) → CodeFits m.ops → F m → S (takes_newest set whole into gs m)
  on_takes_newest whole into [] m o f = f
  on_takes_newest whole into (x ∷ xs) m o f = let m' = passed (record m { gathered = xs }) in on_done (taken_out [] whole into x.values m') m' o f

  on_takes : (into : Value) (ops : List Op) (m : Mid) → OutFits ops → F m → S (takes set into ops m)
  on_takes into ops m h f = subst (λ l. S (takes set into l m)) (sym h.is) (on_takes_newest h.whole into m.gathered (record m { ops = h.rest }) h.behind f)

  on_trying : (x : Find) (os : List ℕ) (m : Mid) → (length x.args ≤ n) × CodeFits (block_at code x.next) → F m → S (Runs (trying set x os m))
  on_trying x [] m h f = (h.1, f)
  on_trying x (o ∷ os) m h f = (h.1, (f.0, f.1, (h, f.0, f.1, f.2)))

  on_tries : (x : Find) (os : List ℕ) (m : Mid) → (length x.args ≤ n) × CodeFits (block_at code x.next) → F m → S (tries set x os m)
  on_tries x [] m h f = f
  on_tries x (o ∷ os) m h f =
      let m' = trying set x os m in
      let t = on_trying x os m h f in
      on_charged (trying_cells x os) m (done set (found_at [] x o m') m') (on_done (found_at [] x o m') m' t.0 t.1)

  on_goes_on : (way : Way) (m : Mid) → WayIs way → F m → S (goes_on set way m)
  on_goes_on (Goes b) m w f = on_goes b m w f
  on_goes_on (Takes b into) m w f = on_takes into (block_at code b) m w f
  on_goes_on (Calls call rules) m w f = on_begins call rules m w.0 w.1 f
  on_goes_on (Tries x os) m w f = on_tries x os m w f

  on_goes_back : (cs : List Choice) (m : Mid) → ChoicesAre cs → S (goes_back cs m)
  on_goes_back [] m h = tt
  on_goes_back (c ∷ cs) m h = (h.0, (h.1, h.2, h.3))

  on_step : (s : Status) → S s → S (step set s)
  on_step (Runs m) h = let o = h.0 in on_runs m.ops o.goals o.end o.stands o.fit o.ends m h.1
  on_step (Enters call m) h = on_entered call m h.0 h.1 h.2
  on_step (Resumes way m) h = on_goes_on way m h.0 h.1
  on_step (Fails m) h = on_goes_back m.choices m h.2
  on_step (Ended e) h = tt

  -- ## Whole runs

  all_are : (typed : List ℕ) (k : ℕ) → S (after set typed k).now
  all_are typed zero = (record { goals = goal.Ask g.program.entry [] false ∷ []; end = Finishes; stands = codes.starts; fit = start_fits g n code codes sound few; ends = tt }, (tt, tt, tt))
  all_are typed (suc k) = on_step (after set typed k).now (all_are typed k)

  -- the code at hand asks what fits
  first_fits : (ops : List Op) (goals : List Goal) (end : End) → Stands code ops goals end → AreFit goals → FirstFits n code ops
  first_fits ops goals end (ask pred terms many next others goals' end' s) fit = let x = ask_fits g n code codes sound few pred terms many goals' fit in (x.0, all_enter g n code (length terms) (rules_at code pred) x.1)
  first_fits ops goals end (last_ask pred terms many others) fit = let x = ask_fits g n code codes sound few pred terms many [] fit in (x.0, all_enter g n code (length terms) (rules_at code pred) x.1)
  first_fits ops goals end (holds place terms many next others goals' end' s o) fit = subst (λ l. length (terms_held l) ≤ n) (goal.outs-Holds place terms many) (first_deep GoalFits (goal.Holds place terms many) goals' fit).1
  first_fits ops goals end (objects term many next others goals' end' s o) fit = subst (λ l. length (terms_held l) ≤ n) (goal.outs-IsObject term many) (first_deep GoalFits (goal.IsObject term many) goals' fit).1
  first_fits ops goals end s fit = tt

  they_fit : (s : Status) → S s → StatusFits n code s
  they_fit (Runs m) h = let o = h.0 in (first_fits m.ops o.goals o.end o.stands o.fit, choices_fit g n code m.choices h.1.2)
  they_fit (Enters call m) h = (h.0.0, enters_with g n code (length call.args) m.ops h.1, choices_fit g n code m.choices h.2.2)
  they_fit (Resumes way m) h = (way_fits g n code way h.0, choices_fit g n code m.choices h.1.2)
  they_fit (Fails m) h = choices_fit g n code m.choices h.2
  they_fit (Ended e) h = tt

  pub all_fit : (typed : List ℕ) (k : ℕ) → StatusFits n code (after set typed k).now
  all_fit typed k = they_fit (after set typed k).now (all_are typed k)
