-- What holds in every run, whatever its code: trails order choices and stoppable parts as tags do, calls that are gone on with cut to where they stand, and
-- no step limit is met.
use Rattle.std.proofs.Common.{◌≡◌, ℕ, zero, suc, ◌+◌, List, [], ◌∷◌, Option, Some, None, Bool, true, false, refl, subst, arith, length, map}
use Rattle.std.specs.List.{zip}
use Rattle.std.specs.Prelude.{◌-◌, nat_lt, eqb, if◌then◌else◌}
use Rattle.std.proofs.lemmas.Bool.{cond_both}
use Rattle.dg_base.specs.Goals.{option_terms}
use Rattle.dg_base.specs.declared.program.Term.{Term}
use Rattle.dg_base.specs.declared.run.Ending.{Ending}
use Rattle.dg_base.specs.declared.run.Ending.TheVariants as ending
use Rattle.dg_meaning.specs.Cells.{cells}
use Rattle.dg_meaning.specs.Path.{Act, Goes as GoesAct, Tests, Unifies, Ends, Fails as FailsNow, Stops, Effect, Acts, Offers}
use Rattle.dg_meaning.specs.Substitutions.{resolved}
use Rattle.dg_meaning.specs.Unify.{Unified, solve}
use Rattle.dg_meaning.specs.Values.{Value, value_of}
use Rattle.dg_meaning.specs.World.{Gathering, gathered_size}
use Rattle.dg_mid.specs.declared.code.Op.{Op}
use Rattle.dg_mid.specs.declared.code.Op.TheVariants as op
use Rattle.dg_mid.specs.declared.code.Action.{Action}
use Rattle.dg_mid.specs.declared.code.Action.TheVariants as action
use Rattle.dg_mid.specs.declared.code.Gathered.{Gathered}
use Rattle.dg_mid.specs.declared.code.RuleCode.{RuleCode}
use Rattle.dg_mid.specs.Actions.{terms_of, asked_at, act_at, found_at, registers_of, world_of, lasting_in}
use Rattle.dg_mid.specs.Calls.{WayCuts, ChoicesCut, StatusCuts}
use Rattle.dg_mid.specs.Code.{block_at, rules_at, selected}
use Rattle.dg_mid.specs.Runs.{after}
use Rattle.dg_mid.specs.State.{Place, Frame, Call, Target, ToPred, ToBody, Find, Way, Goes, Takes, Calls, Tries, Stop, Choice, Mid, Status, Runs, Enters, Resumes, Fails, Ended, vars_of, cut_of, cut_choices, stop_to}
use Rattle.dg_mid.specs.Step.{Setting, more, charged, bound, unified, if_agreed, if_passed, made_in, done, stops, stops_at, begins, enters, asks, calls, call_of, asks_last, last, queries, queries_last, asked_by, values, seeks}
use Rattle.dg_mid.specs.Step.{does, runs, commits, refuses, leaves, returns, returned, entered, resumed, goes_on, goes_back, step, passed, parameter, body_equations, body_frame, new_frame, first_of, keeps, gathering, gathers}
use Rattle.dg_mid.specs.Step.{newest_with, keeps_value, taken_out, takes_newest, takes, trying, trying_cells, tries, with_gathering}
use Rattle.dg_mid.specs.Trails.{StopsTrailed, ChoicesTrailed, StatusTrailed}
use Rattle.dg_mid.proofs.Endings.{EndsWell, ActsWell, act_well, asked_well, found_well, taken_well}
use Rattle.dg_mid.proofs.Open.{F, S, stops_raise, choices_raise, stops_cut, ways_cut, choices_under, inside_is, shielded_is, passed_is, cut_is, bound_is}

-- ## Endings

heap_ends : ending.HeapLimit ≡ ending.StepLimit → ⊥
heap_ends e = absurd (cc (e))

trail_ends : ending.TrailLimit ≡ ending.StepLimit → ⊥
trail_ends e = absurd (cc (e))

aux_ends : ending.AuxLimit ≡ ending.StepLimit → ⊥
aux_ends e = absurd (cc (e))

keep_ends : ending.KeepLimit ≡ ending.StepLimit → ⊥
keep_ends e = absurd (cc (e))

module _ (set : Setting) where
  -- ## What leads where

  if_ends : (b : Bool) (e : Ending) (s : Status) → (e ≡ ending.StepLimit → ⊥) → S s → S (if b then Ended e else s)
  if_ends true e s never h = never
  if_ends false e s never h = h

  on_charged : (n : ℕ) (m : Mid) (s : Status) → S s → S (charged set n m s)
  on_charged zero m s h = h
  on_charged (suc n) m s h = if_ends (nat_lt set.limits.heap (m.state.heap + suc n)) ending.HeapLimit s heap_ends h

  on_agreed : (b : Bool) (m : Mid) (s : Status) → F m → S s → S (if_agreed b m s)
  on_agreed true m s f h = h
  on_agreed false m s f h = f

  on_unified : (u : Unified) (m : Mid) (s : Status) → F m → S s → S (unified set u m s)
  on_unified u m s f h = if_ends _ ending.TrailLimit (if_agreed u.agrees (bound u m) s) trail_ends (on_agreed u.agrees (bound u m) s (bound_is u m f) h)

  on_passed : (b : Bool) (m : Mid) → F m → S (if_passed b m)
  on_passed true m f = f
  on_passed false m f = f

  on_stop_at : (u t r : ℕ) (ss : List Stop) (m : Mid) → F m → StopsTrailed t r m.choices ss → S (stops_at set (stop_to u ss) m)
  on_stop_at u t r [] m f h = f
  on_stop_at u t r (s ∷ ss) m f h = cond_both (eqb s.place.tag u) (Some (s, ss)) (stop_to u ss) (λ x. S (stops_at set x m))
      (λ e. let cs = cut_choices s.place m.choices in (
        (
          stops_raise s.place.tag s.state.trail (s.place.tag + 1) s.state.trail cs ss (omega arith) (omega arith) (stops_cut s.place.tag s.state.trail s.place m.choices ss h.3),
          choices_raise s.place.tag s.state.trail (s.place.tag + 1) s.state.trail cs (omega arith) (omega arith) (choices_under m.next_tag m.state.trail s.state.trail s.place m.choices h.2 f.0.1),
        ),
        ways_cut s.place m.choices f.1,
      ))
      (λ e. on_stop_at u s.place.tag s.state.trail ss m f h.3)

  on_stops : (t : Option ℕ) (m : Mid) → F m → S (stops set t m)
  on_stops None m f = λ e. absurd (cc (e))
  on_stops (Some u) m f = on_stop_at u m.next_tag m.state.trail m.stops m f f.0.0

  on_done : (act : Act) (m : Mid) → EndsWell act → F m → S (done set act m)
  on_done (GoesAct [] w) m e f = if_ends _ ending.KeepLimit (Runs (lasting_in w m)) keep_ends f
  on_done (GoesAct (s ∷ steps) w) m e f = cut_is (cut_of m.frames) m f
  on_done (Tests passed w) m e f = on_passed passed (lasting_in w m) f
  on_done (Unifies made es w) m e f =
      let m' = made_in made (lasting_in w m) in
      let u = solve made.bound es in
      on_charged (made.heap - m.state.heap) m (unified set u m' (Runs (bound u m'))) (on_unified u m' (Runs (bound u m')) f (bound_is u m' f))
  on_done (Ends x w) m e f = e
  on_done (FailsNow w) m e f = f
  on_done (Stops w) m e f = absurd e

  on_act : (a : Action) (m : Mid) → F m → S (done set (act_at set.game [] a m) m)
  on_act action.Stop m f = on_stops m.stop (lasting_in (world_of [] m) m) f
  on_act a m f = on_done (act_at set.game [] a m) m (act_well set.game a m) f

  -- ## Queries

  on_enters : (c : Call) (r : RuleCode) (rules : List RuleCode) (m : Mid) → F m → c.cut.height ≡ m.state.heap → S (enters set c r rules m)
  on_enters c r [] m f e = passed_is m f
  on_enters c r (q ∷ qs) m f e = on_charged (10 + length c.args) m _ (inside_is (Calls c (q ∷ qs)) (length c.args) m f e)

  on_begins : (c : Call) (rules : List RuleCode) (m : Mid) → F m → c.cut.height ≡ m.state.heap → S (begins set c rules m)
  on_begins c [] m f e = f
  on_begins c (r ∷ rs) m f e = on_enters c r (selected (first_of m.state.subst c) rs) m f e

  on_calls : (t : Target) (c : Call) (m : Mid) → F m → c.cut.height ≡ m.state.heap → S (calls set t c m)
  on_calls (ToPred pred) c m f e = on_begins c (selected (first_of m.state.subst c) (rules_at set.code pred)) m f e
  on_calls (ToBody body captured) c m f e =
      let n = 6 + body.own + cells set.game.program (parameter captured c.args) in
      let m' = record (passed m) { ops = block_at set.code body.block; state = record m.state { vars = m.state.vars + body.own; heap = m.state.heap + n } } in
      let u = solve m.state.subst (body_equations set captured body.own c.args m.state.vars) in
      let s = Runs (record (bound u m') { frames = body_frame captured body.own c m ∷ m.frames; inner = [] }) in
      let f' : F m' = passed_is m f in
      on_charged n m (unified set u m' s) (on_unified u m' s f' (bound_is u m' f'))

  on_asks_last : (t : Target) (vs : List Value) (many every : Bool) (x : Frame) (xs : List Frame) (m : Mid) → F m → S (asks_last set t vs many every x xs m)
  on_asks_last t vs many true x xs m f = on_calls t (call_of vs many x.next m) (record m { frames = xs; inner = x.inner }) f refl
  on_asks_last t vs many false x xs m f = on_calls t (call_of vs many 0 m) (record m { inner = [] }) f refl

  on_last : (t : Target) (vs : List Value) (many : Bool) (xs : List Frame) (m : Mid) → F m → S (last set t vs many xs m)
  on_last t vs many [] m f = on_calls t (call_of vs many 0 m) (record m { inner = [] }) f refl
  on_last t vs many (x ∷ xs) m f = on_asks_last t vs many x.many x xs m f

  on_queries : (t : Option Target) (vs : List Value) (many : Bool) (next : ℕ) (m : Mid) → F m → S (queries set t vs many next m)
  on_queries None vs many next m f = f
  on_queries (Some t) vs many next m f = on_calls t (call_of vs many next m) m f refl

  on_queries_last : (t : Option Target) (vs : List Value) (many : Bool) (m : Mid) → F m → S (queries_last set t vs many m)
  on_queries_last None vs many m f = f
  on_queries_last (Some t) vs many m f = on_last t vs many m.frames m f

  on_seeks : (x : Find) (e : Effect) (m : Mid) → ActsWell e → F m → S (seeks set x e m)
  on_seeks x (Acts act) m well f = on_done act m well f
  on_seeks x (Offers k bs w) m well f = (f, tt)

  -- ## Instructions

  on_commits : (ps : List Place) (m : Mid) → F m → S (commits ps m)
  on_commits [] m f = f
  on_commits (p ∷ ps) m f = cut_is p m f

  on_refuses : (ps : List Place) (m : Mid) → F m → S (refuses ps m)
  on_refuses [] m f = f
  on_refuses (p ∷ ps) m f = cut_is p m f

  on_leaves : (ps : List Place) (m : Mid) → F m → S (leaves ps m)
  on_leaves [] m f = f
  on_leaves (p ∷ ps) m f = cut_is p m f

  on_returned : (every : Bool) (x : Frame) (xs : List Frame) (m : Mid) → F m → F (returned set every x xs m)
  on_returned true x xs m f = f
  on_returned false x xs m f = cut_is x.cut m f

  on_returns : (xs : List Frame) (m : Mid) → F m → S (returns set xs m)
  on_returns [] m f = f
  on_returns (x ∷ xs) m f = on_returned x.many x xs m f

  on_gathers : (gs : List Gathering) (s : Status) → S s → S (gathers set gs s)
  on_gathers gs s h = if_ends (nat_lt set.limits.aux (gathered_size gs)) ending.AuxLimit s aux_ends h

  on_keeps_value : (v : Option Value) (m : Mid) → F m → S (keeps_value set v m)
  on_keeps_value None m f = f
  on_keeps_value (Some v) m f = let gs = newest_with (resolved m.state.subst v) m.gathered in on_gathers gs (Fails (record m { gathered = gs })) f

  on_keeps : (ps : List Place) (m : Mid) → F m → S (keeps set ps m)
  on_keeps [] m f = f
  on_keeps (p ∷ ps) m f = on_keeps_value p.gathers (record m { inner = ps }) f

  on_does : (x : Op) (m : Mid) → F m → S (does set x m)
  on_does (op.Do a) m f =
      let n = cells set.game.program (terms_of a) in
      on_charged n m (done set (act_at set.game [] a (more n m)) (more n m)) (on_act a (more n m) f)
  on_does (op.Ask pred terms many next) m f =
      let n = cells set.game.program terms in
      on_charged n m (asks set pred (call_of (values set m terms) many next (more n m)) (more n m)) (on_calls (ToPred pred) (call_of (values set m terms) many next (more n m)) (more n m) f refl)
  on_does (op.LastAsk pred terms many) m f =
      let n = cells set.game.program terms in
      on_charged n m (last set (ToPred pred) (values set m terms) many m.frames (more n m)) (on_last (ToPred pred) (values set m terms) many m.frames (more n m) f)
  on_does (op.Query a t many next) m f =
      let n = cells set.game.program (a ∷ option_terms t) in
      on_charged n m (queries set (asked_by set a m) (values set m (option_terms t)) many next (more n m)) (on_queries (asked_by set a m) (values set m (option_terms t)) many next (more n m) f)
  on_does (op.LastQuery a t many) m f =
      let n = cells set.game.program (a ∷ option_terms t) in
      on_charged n m (queries_last set (asked_by set a m) (values set m (option_terms t)) many (more n m)) (on_queries_last (asked_by set a m) (values set m (option_terms t)) many (more n m) f)
  on_does (op.Find place terms many next) m f =
      let n = cells set.game.program terms in
      let x : Find = record { place = place; args = values set m terms; many = many; next = next } in
      let e = asked_at set.game [] place x.args (more n m) in
      on_charged n m (seeks set x e (more n m)) (on_seeks x e (more n m) (asked_well set.game true [] (registers_of (more n m)) place x.args (world_of [] (more n m))) f)
  on_does op.Take m f = passed_is m f
  on_does (op.Branch alt) m f = on_charged 10 m _ (inside_is (Goes alt) 0 m f tt)
  on_does (op.Select site mode blocks behind) m f = f
  on_does op.Once m f = on_charged 10 m _ (passed_is m f)
  on_does (op.Try alt) m f = on_charged 10 m _ (inside_is (Goes alt) 0 m f tt)
  on_does (op.Shield alt) m f = on_charged 10 m _ (shielded_is alt m f)
  on_does (op.Collect term into alt) m f =
      let n = cells set.game.program (term ∷ into ∷ []) in
      let v : Term → Value = λ t. value_of set.game.program (vars_of m.frames) t in
      let m' = gathering (v term) (v into) alt (more n m) in
      let s = gathers set m'.gathered (Runs m') in
      on_charged n m (charged set 10 (more n m) s) (on_charged 10 (more n m) s (on_gathers m'.gathered (Runs m') (inside_is (Takes alt (v into)) 0 (with_gathering (more n m)) f tt)))
  on_does (op.Retry alt) m f = f
  on_does (op.TakeOut whole into) m f = f
  on_does op.Commit m f = on_commits m.inner m f
  on_does op.Refuse m f = on_refuses m.inner m f
  on_does op.Leave m f = on_leaves m.inner m f
  on_does (op.Keep term) m f = on_keeps m.inner m f
  on_does op.Back m f = f
  on_does op.Return m f = on_returns m.frames m f
  on_does (op.Goto b) m f = f
  on_does (op.Enter vars head) m f = f
  on_does op.Done m f = λ e. absurd (cc (e))

  on_runs : (xs : List Op) (m : Mid) → F m → S (runs set xs m)
  on_runs [] m f = f
  on_runs (x ∷ xs) m f = on_does x (record m { ops = xs }) f

  -- ## Entering and going back

  on_entered : (c : Call) (xs : List Op) (m : Mid) → F m → S (entered set c xs m)
  on_entered c (op.Enter vars head ∷ xs) m0 f =
      let m = record m0 { ops = xs } in
      let n = 6 + vars + cells set.game.program head in
      let x = new_frame c vars m in
      let m' = record m { state = record m.state { vars = m.state.vars + vars; heap = m.state.heap + n } } in
      let u = solve m.state.subst (zip c.args (map (value_of set.game.program x.vars) head)) in
      let s = Runs (record (bound u m') { frames = x ∷ m.frames; inner = [] }) in
      on_charged n m (unified set u m' s) (on_unified u m' s f (bound_is u m' f))
  on_entered c xs m f = f

  on_resumed : (xs : List Op) (m : Mid) → F m → S (resumed set xs m)
  on_resumed (op.Retry alt ∷ xs) m f = on_charged 10 m _ (inside_is (Goes alt) 0 (record m { ops = xs }) f tt)
  on_resumed xs m f = passed_is m f

  on_takes_newest : (whole : Gathered) (into : Value) (gs : List Gathering) (m : Mid) → F m → S (takes_newest set whole into gs m)
  on_takes_newest whole into [] m f = f
  on_takes_newest whole into (x ∷ xs) m f = let m' = passed (record m { gathered = xs }) in on_done (taken_out [] whole into x.values m') m' (taken_well whole into x.values m') (passed_is m f)

  on_takes : (into : Value) (xs : List Op) (m : Mid) → F m → S (takes set into xs m)
  on_takes into (op.TakeOut whole t ∷ xs) m f = on_takes_newest whole into m.gathered (record m { ops = xs }) f
  on_takes into xs m f = f

  on_trying : (x : Find) (objects : List ℕ) (m : Mid) → F m → F (trying set x objects m)
  on_trying x [] m f = passed_is m f
  on_trying x (o ∷ objects) m f = inside_is (Tries x (o ∷ objects)) (length x.args) m f tt

  on_tries : (x : Find) (objects : List ℕ) (m : Mid) → F m → S (tries set x objects m)
  on_tries x [] m f = f
  on_tries x (o ∷ objects) m f =
      let m' = trying set x objects m in
      on_charged (trying_cells x objects) m (done set (found_at [] x o m') m') (on_done (found_at [] x o m') m' (found_well x o m') (on_trying x objects m f))

  on_goes_on : (way : Way) (m : Mid) → F m → WayCuts m.state.heap way → S (goes_on set way m)
  on_goes_on (Goes b) m f w = on_resumed (block_at set.code b) m f
  on_goes_on (Takes b into) m f w = on_takes into (block_at set.code b) m f
  on_goes_on (Calls call rules) m f w = on_begins call rules m f w
  on_goes_on (Tries x objects) m f w = on_tries x objects m f

  on_goes_back : (cs : List Choice) (m : Mid) → ChoicesTrailed m.next_tag m.state.trail cs → ChoicesCut cs → S (goes_back cs m)
  on_goes_back [] m h w = λ e. absurd (cc (e))
  on_goes_back (c ∷ cs) m h w = (((h.2, h.3), w.1), w.0)

  on_step : (s : Status) → S s → S (step set s)
  on_step (Runs m) f = on_runs m.ops m f
  on_step (Enters call m) f = on_entered call m.ops m f
  on_step (Resumes way m) f = on_goes_on way m f.0 f.1
  on_step (Fails m) f = on_goes_back m.choices m f.0.1 f.1
  on_step (Ended e) f = f

  all_open : (typed : List ℕ) (k : ℕ) → S (after set typed k).now
  all_open typed zero = ((tt, tt), tt)
  all_open typed (suc k) = on_step (after set typed k).now (all_open typed k)

  -- ## Each by itself

  are_trailed : (s : Status) → S s → StatusTrailed s
  are_trailed (Runs m) f = f.0
  are_trailed (Enters call m) f = f.0
  are_trailed (Resumes way m) f = f.0.0
  are_trailed (Fails m) f = f.0
  are_trailed (Ended e) f = tt

  they_cut : (s : Status) → S s → StatusCuts s
  they_cut (Runs m) f = f.1
  they_cut (Enters call m) f = f.1
  they_cut (Resumes way m) f = (f.1, f.0.1)
  they_cut (Fails m) f = f.1
  they_cut (Ended e) f = tt

  pub all_trailed : (typed : List ℕ) (k : ℕ) → StatusTrailed (after set typed k).now
  all_trailed typed k = are_trailed (after set typed k).now (all_open typed k)

  pub all_cut : (typed : List ℕ) (k : ℕ) → StatusCuts (after set typed k).now
  all_cut typed k = they_cut (after set typed k).now (all_open typed k)

  pub none_limited : (typed : List ℕ) (k : ℕ) → (after set typed k).now ≡ Ended ending.StepLimit → ⊥
  none_limited typed k is = subst S is (all_open typed k) refl
