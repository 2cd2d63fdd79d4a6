-- Code that cuts stands in a rule, and choices go on with few rules, in every run of code that stands for a program.
use Rattle.std.proofs.Common.{◌≡◌, ℕ, zero, suc, ◌+◌, ◌-◌, ◌≤◌, List, [], ◌∷◌, Option, Some, None, Bool, true, false, refl, sym, subst, length, nat_lt, map, arith}
use Rattle.std.specs.List.{zip}
use Rattle.std.specs.Prelude.{if◌then◌else◌, eqb}
use Rattle.std.proofs.lemmas.Bool.{cond_both}
use Rattle.dg_base.specs.Goals.{option_terms}
use Rattle.dg_base.specs.declared.program.CoreProgram.{CoreProgram}
use Rattle.dg_base.specs.declared.program.Term.{Term}
use Rattle.dg_base.specs.declared.run.Ending.{Ending}
use Rattle.dg_base.specs.declared.run.Ending.TheVariants as ending
use Rattle.dg_meaning.specs.Cells.{cells}
use Rattle.dg_meaning.specs.Path.{Act, Goes as GoesAct, Tests, Unifies, Ends, Fails as FailsNow, Stops, Effect, Acts, Offers}
use Rattle.dg_meaning.specs.Substitutions.{resolved}
use Rattle.dg_meaning.specs.Unify.{Unified, solve}
use Rattle.dg_meaning.specs.Values.{Value, value_of}
use Rattle.dg_meaning.specs.World.{Gathering, gathered_size}
use Rattle.dg_mid.specs.declared.code.Action.TheVariants as action
use Rattle.dg_mid.specs.declared.code.Gathered.{Gathered}
use Rattle.dg_mid.specs.declared.code.Op.{Op}
use Rattle.dg_mid.specs.declared.code.Op.TheVariants as op
use Rattle.dg_mid.specs.declared.code.RuleCode.{RuleCode}
use Rattle.dg_mid.specs.Actions.{terms_of, asked_at, act_at, found_at, lasting_in}
use Rattle.dg_mid.specs.Code.{block_at, rules_at, excluded, selected}
use Rattle.dg_mid.specs.Codes.{Codes}
use Rattle.dg_mid.specs.Runs.{after}
use Rattle.dg_mid.specs.State.{Place, Frame, Call, Target, ToPred, ToBody, Find, Way, Goes, Takes, Calls, Tries, Stop, Choice, Mid, Status, Runs, Enters, Resumes, Fails, Ended, vars_of, cut_of, cut_choices, stop_to}
use Rattle.dg_mid.specs.Step.{Setting, more, charged, bound, unified, if_agreed, if_passed, made_in, done, stops, stops_at, begins, enters, calls, call_of, asks, asks_last, last, queries, queries_last, asked_by, values, seeks}
use Rattle.dg_mid.specs.Step.{does, runs, commits, refuses, leaves, returns, returned, entered, resumed, goes_on, goes_back, step, passed, parameter, body_equations, body_frame, new_frame, first_of, keeps, gathering, gathers}
use Rattle.dg_mid.specs.Step.{newest_with, keeps_value, taken_out, takes_newest, takes, trying, trying_cells, tries}
use Rattle.dg_turn.specs.Rules.{keyed}
use Rattle.dg_chain.specs.Always.{IsSome, StandsIn, StatusStands}
use Rattle.dg_chain.proofs.Framed.{Top, Behind, behind, starts_top}

-- No more rules are left than there are.
selected_few : (first : Option Value) (rules : List RuleCode) (n : ℕ) → keyed rules ≤ n → keyed (selected first rules) ≤ n
selected_few first [] n le = le
selected_few first (r ∷ rs) n le = cond_both (excluded first r.key) (selected first rs) (r ∷ rs) (λ (l : List RuleCode). keyed l ≤ n) (λ e. selected_few first rs n (omega (arith, le))) (λ e. le)

module _ (set : Setting) (n : ℕ) (few : (pred : ℕ) → keyed (rules_at set.code pred) ≤ n) where
  -- ## What holds

  -- Code in some frames: behind no rule it is that of the start.
  abbrev In : List Op → List Frame → Type 0
  In ops [] = Top set.code ops
  In ops (f ∷ fs) = Unit {0}

  -- So is the code behind each frame.
  abbrev Rest : List Frame → Type 0
  Rest [] = Unit {0}
  Rest (f ∷ fs) = In (block_at set.code f.next) fs × Rest fs

  abbrev W : Way → List Frame → Type 0
  W (Goes b) frames = IsSome frames
  W (Takes b into) frames = IsSome frames
  W (Calls call rules) frames = In (block_at set.code call.next) frames × (keyed rules ≤ n)
  W (Tries f objs) frames = IsSome frames

  abbrev StopIn : Stop → Type 0
  StopIn s = IsSome s.frames × Rest s.frames

  abbrev Parts : List Stop → Type 0
  Parts [] = Unit {0}
  Parts (s ∷ ss) = StopIn s × Parts ss

  abbrev ChoiceIn : Choice → Type 0
  ChoiceIn c = W c.way c.frames × Rest c.frames × Parts c.stops

  abbrev C : List Choice → Type 0
  C [] = Unit {0}
  C (c ∷ cs) = ChoiceIn c × C cs

  abbrev F : Mid → Type 0
  F m = Rest m.frames × C m.choices × Parts m.stops

  abbrev S : Status → Type 0
  S (Runs m) = In m.ops m.frames × F m
  S (Enters call m) = In (block_at set.code call.next) m.frames × F m
  S (Resumes way m) = W way m.frames × F m
  S (Fails m) = F m
  S (Ended e) = Unit {0}

  -- in a rule code may be any
  any : (ops : List Op) (frames : List Frame) → IsSome frames → In ops frames
  any ops [] k = absurd k
  any ops (f ∷ fs) k = tt

  -- ## What leads where

  if_ends : (b : Bool) (e : Ending) (s : Status) → S s → S (if b then Ended e else s)
  if_ends true e s h = tt
  if_ends false e s h = h

  on_charged : (k : ℕ) (m : Mid) (s : Status) → S s → S (charged set k m s)
  on_charged zero m s h = h
  on_charged (suc k) m s h = if_ends (nat_lt set.limits.heap (m.state.heap + suc k)) ending.HeapLimit s h

  on_agreed : (b : Bool) (m : Mid) (s : Status) → F m → S s → S (if_agreed b m s)
  on_agreed true m s f h = h
  on_agreed false m s f h = f

  on_unified : (u : Unified) (m : Mid) (s : Status) → F m → S s → S (unified set u m s)
  on_unified u m s f h = if_ends _ ending.TrailLimit (if_agreed u.agrees (bound u m) s) (on_agreed u.agrees (bound u m) s f h)

  on_passed : (b : Bool) (m : Mid) → IsSome m.frames → F m → S (if_passed b m)
  on_passed true m k f = (any m.ops m.frames k, f)
  on_passed false m k f = f

  on_cut : (p : Place) (cs : List Choice) → C cs → C (cut_choices p cs)
  on_cut p [] h = tt
  on_cut p (c ∷ cs) h = cond_both (nat_lt c.place.tag p.tag) (c ∷ cs) (cut_choices p cs) C (λ e. h) (λ e. on_cut p cs h.1)

  on_stop_at : (u : ℕ) (ss : List Stop) (m : Mid) → F m → Parts ss → S (stops_at set (stop_to u ss) m)
  on_stop_at u [] m f h = f
  on_stop_at u (s ∷ ss) m f h = cond_both (eqb s.place.tag u) (Some (s, ss)) (stop_to u ss) (λ x. S (stops_at set x m)) (λ e. (any (block_at set.code s.block) s.frames h.0.0, (h.0.1, on_cut s.place m.choices f.1, h.1))) (λ e. on_stop_at u ss m f h.1)

  on_stops : (t : Option ℕ) (m : Mid) → F m → S (stops set t m)
  on_stops None m f = tt
  on_stops (Some u) m f = on_stop_at u m.stops m f f.2

  on_done : (act : Act) (m : Mid) → IsSome m.frames → F m → S (done set act m)
  on_done (GoesAct [] w) m k f = if_ends _ ending.KeepLimit (Runs (lasting_in w m)) (any m.ops m.frames k, f)
  on_done (GoesAct (s ∷ steps) w) m k f = (any m.ops m.frames k, (f.0, on_cut (cut_of m.frames) m.choices f.1, f.2))
  on_done (Tests b w) m k f = on_passed b (lasting_in w m) k f
  on_done (Unifies made es w) m k f =
      let m' = made_in made (lasting_in w m) in
      let u = solve made.bound es in
      on_charged (made.heap - m.state.heap) m (unified set u m' (Runs (bound u m'))) (on_unified u m' (Runs (bound u m')) f (any m.ops m.frames k, f))
  on_done (Ends x w) m k f = tt
  on_done (FailsNow w) m k f = f
  on_done (Stops w) m k f = on_stops m.stop (lasting_in w m) f

  -- ## Queries

  on_enters : (c : Call) (r : RuleCode) (rules : List RuleCode) (m : Mid) → In (block_at set.code c.next) m.frames → keyed rules ≤ n → F m → S (enters set c r rules m)
  on_enters c r [] m i le f = (i, f)
  on_enters c r (q ∷ qs) m i le f = on_charged (10 + length c.args) m _ (i, (f.0, (((i, le), f.0, f.2), f.1), f.2))

  on_begins : (c : Call) (rules : List RuleCode) (m : Mid) → In (block_at set.code c.next) m.frames → keyed rules ≤ n → F m → S (begins set c rules m)
  on_begins c [] m i le f = f
  on_begins c (r ∷ rs) m i le f = on_enters c r (selected (first_of m.state.subst c) rs) m i (selected_few (first_of m.state.subst c) rs n (omega (arith, le))) f

  on_calls : (t : Target) (c : Call) (m : Mid) → In (block_at set.code c.next) m.frames → F m → S (calls set t c m)
  on_calls (ToPred pred) c m i f = on_begins c (selected (first_of m.state.subst c) (rules_at set.code pred)) m i (selected_few (first_of m.state.subst c) (rules_at set.code pred) n (few pred)) f
  on_calls (ToBody body captured) c m i f =
      let k = 6 + body.own + cells set.game.program (parameter captured c.args) in
      let m' = record (passed m) { ops = block_at set.code body.block; state = record m.state { vars = m.state.vars + body.own; heap = m.state.heap + k } } in
      let u = solve m.state.subst (body_equations set captured body.own c.args m.state.vars) in
      let s = Runs (record (bound u m') { frames = body_frame captured body.own c m ∷ m.frames; inner = [] }) in
      on_charged k m (unified set u m' s) (on_unified u m' s f (tt, ((i, f.0), f.1, f.2)))

  on_asks_last : (t : Target) (vs : List Value) (many every : Bool) (x : Frame) (xs : List Frame) (m : Mid) → IsSome m.frames → Rest (x ∷ xs) → F m → S (asks_last set t vs many every x xs m)
  on_asks_last t vs many true x xs m k r f = on_calls t (call_of vs many x.next m) (record m { frames = xs; inner = x.inner }) r.0 (r.1, f.1, f.2)
  on_asks_last t vs many false x xs m k r f = on_calls t (call_of vs many 0 m) (record m { inner = [] }) (any (block_at set.code 0) m.frames k) f

  on_last : (t : Target) (vs : List Value) (many : Bool) (xs : List Frame) (m : Mid) → IsSome m.frames → IsSome xs → Rest xs → F m → S (last set t vs many xs m)
  on_last t vs many [] m k some r f = absurd some
  on_last t vs many (x ∷ xs) m k some r f = on_asks_last t vs many x.many x xs m k r f

  on_queries : (t : Option Target) (vs : List Value) (many : Bool) (next : ℕ) (m : Mid) → IsSome m.frames → F m → S (queries set t vs many next m)
  on_queries None vs many next m k f = f
  on_queries (Some t) vs many next m k f = on_calls t (call_of vs many next m) m (any (block_at set.code next) m.frames k) f

  on_queries_last : (t : Option Target) (vs : List Value) (many : Bool) (m : Mid) → IsSome m.frames → F m → S (queries_last set t vs many m)
  on_queries_last None vs many m k f = f
  on_queries_last (Some t) vs many m k f = on_last t vs many m.frames m k k f.0 f

  on_seeks : (x : Find) (e : Effect) (m : Mid) → IsSome m.frames → F m → S (seeks set x e m)
  on_seeks x (Acts act) m k f = on_done act m k f
  on_seeks x (Offers i bs w) m k f = (k, f)

  -- ## Instructions

  on_commits : (ps : List Place) (m : Mid) → IsSome m.frames → F m → S (commits ps m)
  on_commits [] m k f = f
  on_commits (p ∷ ps) m k f = (any m.ops m.frames k, (f.0, on_cut p m.choices f.1, f.2))

  on_refuses : (ps : List Place) (m : Mid) → F m → S (refuses ps m)
  on_refuses [] m f = f
  on_refuses (p ∷ ps) m f = (f.0, on_cut p m.choices f.1, f.2)

  on_leaves : (ps : List Place) (m : Mid) → IsSome m.frames → F m → S (leaves ps m)
  on_leaves [] m k f = f
  on_leaves (p ∷ ps) m k f = (any m.ops m.frames k, (f.0, on_cut p m.choices f.1, f.2))

  on_returned : (every : Bool) (x : Frame) (xs : List Frame) (m : Mid) → Rest (x ∷ xs) → F m → S (Runs (returned set every x xs m))
  on_returned true x xs m r f = (r.0, (r.1, f.1, f.2))
  on_returned false x xs m r f = (r.0, (r.1, on_cut x.cut m.choices f.1, f.2))

  on_returns : (xs : List Frame) (m : Mid) → Rest xs → F m → S (returns set xs m)
  on_returns [] m r f = f
  on_returns (x ∷ xs) m r f = on_returned x.many x xs m r f

  on_gathers : (gs : List Gathering) (s : Status) → S s → S (gathers set gs s)
  on_gathers gs s h = if_ends (nat_lt set.limits.aux (gathered_size gs)) ending.AuxLimit s h

  on_keeps_value : (v : Option Value) (m : Mid) → F m → S (keeps_value set v m)
  on_keeps_value None m f = f
  on_keeps_value (Some v) m f = let gs = newest_with (resolved m.state.subst v) m.gathered in on_gathers gs (Fails (record m { gathered = gs })) f

  on_keeps : (ps : List Place) (m : Mid) → F m → S (keeps set ps m)
  on_keeps [] m f = f
  on_keeps (p ∷ ps) m f = on_keeps_value p.gathers (record m { inner = ps }) f

  -- Instructions of a rule.
  on_does : (x : Op) (m : Mid) → IsSome m.frames → F m → S (does set x m)
  on_does (op.Do a) m k f =
      let c = cells set.game.program (terms_of a) in
      on_charged c m (done set (act_at set.game [] a (more c m)) (more c m)) (on_done (act_at set.game [] a (more c m)) (more c m) k f)
  on_does (op.Ask pred terms many next) m k f =
      let c = cells set.game.program terms in
      let call = call_of (values set m terms) many next (more c m) in
      on_charged c m (asks set pred call (more c m)) (on_calls (ToPred pred) call (more c m) (any (block_at set.code next) m.frames k) f)
  on_does (op.LastAsk pred terms many) m k f =
      let c = cells set.game.program terms in
      on_charged c m (last set (ToPred pred) (values set m terms) many m.frames (more c m)) (on_last (ToPred pred) (values set m terms) many m.frames (more c m) k k f.0 f)
  on_does (op.Query a t many next) m k f =
      let c = cells set.game.program (a ∷ option_terms t) in
      on_charged c m (queries set (asked_by set a m) (values set m (option_terms t)) many next (more c m)) (on_queries (asked_by set a m) (values set m (option_terms t)) many next (more c m) k f)
  on_does (op.LastQuery a t many) m k f =
      let c = cells set.game.program (a ∷ option_terms t) in
      on_charged c m (queries_last set (asked_by set a m) (values set m (option_terms t)) many (more c m)) (on_queries_last (asked_by set a m) (values set m (option_terms t)) many (more c m) k f)
  on_does (op.Find place terms many next) m k f =
      let c = cells set.game.program terms in
      let x : Find = record { place = place; args = values set m terms; many = many; next = next } in
      let e = asked_at set.game [] place x.args (more c m) in
      on_charged c m (seeks set x e (more c m)) (on_seeks x e (more c m) k f)
  on_does op.Take m k f = (any m.ops m.frames k, f)
  on_does (op.Branch alt) m k f = on_charged 10 m _ (any m.ops m.frames k, (f.0, ((k, f.0, f.2), f.1), f.2))
  on_does (op.Select site mode bs behind) m k f = (any _ m.frames k, f)
  on_does op.Once m k f = on_charged 10 m _ (any m.ops m.frames k, f)
  on_does (op.Try alt) m k f = on_charged 10 m _ (any m.ops m.frames k, (f.0, ((k, f.0, f.2), f.1), f.2))
  on_does (op.Shield alt) m k f = on_charged 10 m _ (any m.ops m.frames k, (f.0, ((k, f.0, f.2), f.1), ((k, f.0), f.2)))
  on_does (op.Collect term into alt) m k f =
      let c = cells set.game.program (term ∷ into ∷ []) in
      let v : Term → Value = λ t. value_of set.game.program (vars_of m.frames) t in
      let m' = gathering (v term) (v into) alt (more c m) in
      let s = gathers set m'.gathered (Runs m') in
      on_charged c m (charged set 10 (more c m) s) (on_charged 10 (more c m) s (on_gathers m'.gathered (Runs m') (any m.ops m.frames k, (f.0, ((k, f.0, f.2), f.1), f.2))))
  on_does (op.Retry alt) m k f = f
  on_does (op.TakeOut whole into) m k f = f
  on_does op.Commit m k f = on_commits m.inner m k f
  on_does op.Refuse m k f = on_refuses m.inner m f
  on_does op.Leave m k f = on_leaves m.inner m k f
  on_does (op.Keep term) m k f = on_keeps m.inner m f
  on_does op.Back m k f = f
  on_does op.Return m k f = on_returns m.frames m f.0 f
  on_does (op.Goto b) m k f = (any (block_at set.code b) m.frames k, f)
  on_does (op.Enter vars head) m k f = f
  on_does op.Done m k f = tt

  top_in : (ops : List Op) (frames : List Frame) → frames ≡ [] → Top set.code ops → In ops frames
  top_in ops frames e h = subst (In ops) (sym e) h

  -- Those behind no rule.
  on_top : (x : Op) (ops : List Op) (m : Mid) → m.frames ≡ [] → Behind set.code (x ∷ ops) → F m → S (does set x m)
  on_top (op.Goto b) ops m e h f = (top_in (block_at set.code b) m.frames e h, f)
  on_top (op.Ask pred terms many next) ops m e h f =
      let c = cells set.game.program terms in
      let call = call_of (values set m terms) many next (more c m) in
      on_charged c m (asks set pred call (more c m)) (on_calls (ToPred pred) call (more c m) (top_in (block_at set.code next) m.frames e h) f)
  on_top op.Done ops m e h f = tt
  on_top x ops m e h f = absurd h

  on_runs : (xs : List Op) (m : Mid) → In xs m.frames → F m → S (runs set xs m)
  on_runs [] m i f = f
  on_runs (x ∷ xs) m i f = by m.frames refl
    where
      by : (frames : List Frame) → m.frames ≡ frames → S (does set x (record m { ops = xs }))
      by [] e = on_top x xs (record m { ops = xs }) e (behind (subst (In (x ∷ xs)) e i)) f
      by (y ∷ ys) e = on_does x (record m { ops = xs }) (subst IsSome (sym e) tt) f

  -- ## Entering and going back

  on_entered : (c : Call) (xs : List Op) (m : Mid) → In (block_at set.code c.next) m.frames → F m → S (entered set c xs m)
  on_entered c (op.Enter vars head ∷ xs) m0 i f =
      let m = record m0 { ops = xs } in
      let k = 6 + vars + cells set.game.program head in
      let x = new_frame c vars m in
      let m' = record m { state = record m.state { vars = m.state.vars + vars; heap = m.state.heap + k } } in
      let u = solve m.state.subst (zip c.args (map (value_of set.game.program x.vars) head)) in
      let s = Runs (record (bound u m') { frames = x ∷ m.frames; inner = [] }) in
      on_charged k m (unified set u m' s) (on_unified u m' s f (tt, ((i, f.0), f.1, f.2)))
  on_entered c xs m i f = f

  on_resumed : (xs : List Op) (m : Mid) → IsSome m.frames → F m → S (resumed set xs m)
  on_resumed (op.Retry alt ∷ xs) m k f = on_charged 10 m _ (any xs m.frames k, (f.0, ((k, f.0, f.2), f.1), f.2))
  on_resumed xs m k f = (any xs m.frames k, f)

  on_takes_newest : (whole : Gathered) (into : Value) (gs : List Gathering) (m : Mid) → IsSome m.frames → F m → S (takes_newest set whole into gs m)
  on_takes_newest whole into [] m k f = f
  on_takes_newest whole into (x ∷ xs) m k f = let m' = passed (record m { gathered = xs }) in on_done (taken_out [] whole into x.values m') m' k f

  on_takes : (into : Value) (xs : List Op) (m : Mid) → IsSome m.frames → F m → S (takes set into xs m)
  on_takes into (op.TakeOut whole t ∷ xs) m k f = on_takes_newest whole into m.gathered (record m { ops = xs }) k f
  on_takes into xs m k f = f

  on_trying : (x : Find) (objs : List ℕ) (m : Mid) → IsSome m.frames → F m → F (trying set x objs m)
  on_trying x [] m k f = f
  on_trying x (o ∷ objs) m k f = (f.0, ((k, f.0, f.2), f.1), f.2)

  trying_some : (x : Find) (objs : List ℕ) (m : Mid) → IsSome m.frames → IsSome (trying set x objs m).frames
  trying_some x [] m k = k
  trying_some x (o ∷ objs) m k = k

  on_tries : (x : Find) (objs : List ℕ) (m : Mid) → IsSome m.frames → F m → S (tries set x objs m)
  on_tries x [] m k f = f
  on_tries x (o ∷ objs) m k f =
      let m' = trying set x objs m in
      on_charged (trying_cells x objs) m (done set (found_at [] x o m') m') (on_done (found_at [] x o m') m' (trying_some x objs m k) (on_trying x objs m k f))

  on_goes_on : (way : Way) (m : Mid) → W way m.frames → F m → S (goes_on set way m)
  on_goes_on (Goes b) m w f = on_resumed (block_at set.code b) m w f
  on_goes_on (Takes b into) m w f = on_takes into (block_at set.code b) m w f
  on_goes_on (Calls call rules) m w f = on_begins call rules m w.0 w.1 f
  on_goes_on (Tries x objs) m w f = on_tries x objs m w f

  on_goes_back : (cs : List Choice) (m : Mid) → C cs → S (goes_back cs m)
  on_goes_back [] m h = tt
  on_goes_back (c ∷ cs) m h = (h.0.0, (h.0.1, h.1, h.0.2))

  on_step : (s : Status) → S s → S (step set s)
  on_step (Runs m) h = on_runs m.ops m h.0 h.1
  on_step (Enters call m) h = on_entered call m.ops m h.0 h.1
  on_step (Resumes way m) h = on_goes_on way m h.0 h.1
  on_step (Fails m) h = on_goes_back m.choices m h.1
  on_step (Ended e) h = tt

  pub all_in : (start : Top set.code (block_at set.code 1)) (typed : List ℕ) (k : ℕ) → S (after set typed k).now
  all_in start typed zero = (start, (tt, tt, tt))
  all_in start typed (suc k) = on_step (after set typed k).now (all_in start typed k)

  -- ## What follows

  some_in : (x : Op) (ops : List Op) (frames : List Frame) → (Behind set.code (x ∷ ops) → ⊥) → In (x ∷ ops) frames → IsSome frames
  some_in x ops [] none i = absurd (none (behind i))
  some_in x ops (f ∷ fs) none i = tt

  stands_by : (ops : List Op) (frames : List Frame) → In ops frames → StandsIn ops frames
  stands_by (op.Do action.Just ∷ ops) frames i = some_in (op.Do action.Just) ops frames (λ h. h) i
  stands_by ops frames i = tt

  pub stands_so : (s : Status) → S s → n ≤ 2200 → StatusStands s
  stands_so (Runs m) h le = stands_by m.ops m.frames h.0
  stands_so (Enters call m) h le = tt
  stands_so (Resumes (Goes b) m) h le = tt
  stands_so (Resumes (Takes b into) m) h le = tt
  stands_so (Resumes (Calls call rules) m) h le = omega (arith, h.0.1, le)
  stands_so (Resumes (Tries x objs) m) h le = tt
  stands_so (Fails m) h le = tt
  stands_so (Ended e) h le = tt

-- So it is in every run of code that stands for a program, of at most 2,200 rules with a key a predicate.
pub all_stand : (program : CoreProgram) (set : Setting) → Codes program set.code → ((pred : ℕ) → keyed (rules_at set.code pred) ≤ 2200) → (typed : List ℕ) (k : ℕ) → StatusStands (after set typed k).now
all_stand program set codes few typed k = stands_so set 2200 few (after set typed k).now (all_in set 2200 few (starts_top program set.code codes) typed k) (omega arith)
