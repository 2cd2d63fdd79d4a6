-- Objects are tried where they may be found, in every run of code.
use Rattle.std.proofs.Common.{◌≡◌, ℕ, zero, suc, ◌+◌, ◌-◌, List, [], ◌∷◌, Option, Some, None, Bool, true, false, refl, ap, length, nat_lt, map}
use Rattle.std.specs.List.{zip}
use Rattle.std.specs.Prelude.{if◌then◌else◌, slice_get}
use Rattle.dg_base.specs.Goals.{option_terms}
use Rattle.dg_base.specs.declared.program.PlaceKind.{PlaceKind}
use Rattle.dg_base.specs.declared.program.PlaceKind.TheVariants.{Flag, ObjectFlag, ObjectVar, Parent, Global}
use Rattle.dg_base.specs.declared.run.Ending.{Ending}
use Rattle.dg_base.specs.declared.run.Ending.TheVariants as ending
use Rattle.dg_meaning.specs.Cells.{cells}
use Rattle.dg_meaning.specs.Facts.{kinds_of}
use Rattle.dg_meaning.specs.Moves.{ask_object, ask_objects, ask_place}
use Rattle.dg_meaning.specs.Path.{Step, Registers, Act, Goes as GoesAct, Tests, Unifies, Ends, Fails as FailsNow, Stops, Effect, Acts, Offers}
use Rattle.dg_meaning.specs.Substitutions.{walk, resolved}
use Rattle.dg_meaning.specs.Unify.{Unified, solve}
use Rattle.dg_meaning.specs.Values.{Object, Value, Var, Node, value_of}
use Rattle.dg_meaning.specs.World.{Game, World, Gathering, gathered_size}
use Rattle.dg_base.specs.declared.program.Term.{Term}
use Rattle.dg_meaning.specs.inside.Finding.{has_objects, may_find}
use Rattle.dg_mid.specs.declared.code.Op.{Op}
use Rattle.dg_mid.specs.declared.code.Op.TheVariants as op
use Rattle.dg_mid.specs.declared.code.RuleCode.{RuleCode}
use Rattle.dg_mid.specs.Actions.{terms_of, asked, asked_at, act_at, found_at, registers_of, world_of, lasting_in}
use Rattle.dg_mid.specs.Code.{block_at, rules_at, selected}
use Rattle.dg_mid.specs.Runs.{after}
use Rattle.dg_mid.specs.State.{Place, Frame, Call, Target, ToPred, ToBody, Find, Way, Goes, Takes, Calls, Tries, Stop, Choice, Mid, Status, Runs, Enters, Resumes, Fails, Ended, vars_of, cut_of, cut_choices, stop_to}
use Rattle.dg_mid.specs.Step.{Setting, more, charged, bound, unified, if_agreed, if_passed, made_in, done, stops, stops_at, begins, enters, asks, calls, call_of, asks_last, last, queries, queries_last, asked_by, values, seeks}
use Rattle.dg_mid.specs.Step.{does, runs, commits, refuses, leaves, returns, returned, entered, resumed, goes_on, goes_back, step, passed, parameter, body_equations, body_frame, new_frame, first_of, keeps, gathering, gathers}
use Rattle.dg_mid.specs.Step.{newest_with, keeps_value, taken_out, takes_newest, takes, trying, trying_cells, tries}
use Rattle.dg_mid.specs.declared.code.Gathered.{Gathered}
use Rattle.dg_mid.specs.Seeking.{LeavesFirst, OpLeaves, OpsLeave, WaySeeks, ChoicesSeek, MidSeeks, StatusSeeks}

-- ## Queries of objects

-- an effect offers objects where they may be found
abbrev MayOffer : Game → Option ℕ → Effect → Type 0
MayOffer g place (Acts act) = Unit {0}
MayOffer g place (Offers k bs w) = may_find (kinds_of g.program) place ≡ true

module _ (g : Game) (many : Bool) (steps : List Step) (r : Registers) where
  object_may : (place : Option ℕ) (u v : Value) (args : List Value) (w : World) → may_find (kinds_of g.program) place ≡ true → MayOffer g place (ask_object g place u v args many steps r w)
  object_may place (Var x) v args w e = e
  object_may place (Node (Object o) vs) v args w e = tt
  object_may place u v args w e = tt

  objects_may : (place : Option ℕ) (args : List Value) (w : World) → may_find (kinds_of g.program) place ≡ true → MayOffer g place (ask_objects g place args many steps r w)
  objects_may place [] w e = tt
  objects_may place (v ∷ args) w e = object_may place (walk r.bound v) v args _ e

  place_may : (place : ℕ) (k : Option PlaceKind) (args : List Value) (w : World) → slice_get (kinds_of g.program) place ≡ k → MayOffer g (Some place) (ask_place g place k args many steps r w)
  place_may place None args w e = tt
  place_may place (Some Flag) args w e = tt
  place_may place (Some Global) args w e = tt
  place_may place (Some ObjectFlag) args w e = objects_may (Some place) args w (ap has_objects e)
  place_may place (Some ObjectVar) args w e = objects_may (Some place) args w (ap has_objects e)
  place_may place (Some Parent) args w e = objects_may (Some place) args w (ap has_objects e)

  asked_may : (place : Option ℕ) (args : List Value) (w : World) → MayOffer g place (asked g place args many steps r w)
  asked_may None args w = objects_may None args w refl
  asked_may (Some place) args w = place_may place (slice_get (kinds_of g.program) place) args w refl

module _ (set : Setting) (all : (b : ℕ) → OpsLeave set.code (block_at set.code b)) where
  abbrev S : Status → Type 0
  S s = StatusSeeks set.game set.code s

  abbrev F : Mid → Type 0
  F m = MidSeeks set.game set.code m

  abbrev C : List Choice → Type 0
  C cs = ChoicesSeek set.game set.code cs

  -- ## What leads where

  if_ends : (b : Bool) (e : Ending) (s : Status) → S s → S (if b then Ended e else s)
  if_ends true e s h = tt
  if_ends false e s h = h

  on_charged : (n : ℕ) (m : Mid) (s : Status) → S s → S (charged set n m s)
  on_charged zero m s h = h
  on_charged (suc n) m s h = if_ends (nat_lt set.limits.heap (m.state.heap + suc n)) ending.HeapLimit s h

  on_agreed : (b : Bool) (m : Mid) (s : Status) → F m → S s → S (if_agreed b m s)
  on_agreed true m s f h = h
  on_agreed false m s f h = f

  on_unified : (u : Unified) (m : Mid) (s : Status) → F m → S s → S (unified set u m s)
  on_unified u m s f h = if_ends _ ending.TrailLimit (if_agreed u.agrees (bound u m) s) (on_agreed u.agrees (bound u m) s f h)

  on_passed : (b : Bool) (m : Mid) → F m → S (if_passed b m)
  on_passed true m f = f
  on_passed false m f = f

  if_cut : (b : Bool) (xs ys : List Choice) → C xs → C ys → C (if b then xs else ys)
  if_cut true xs ys h k = h
  if_cut false xs ys h k = k

  on_cut : (p : Place) (cs : List Choice) → C cs → C (cut_choices p cs)
  on_cut p [] h = tt
  on_cut p (c ∷ cs) h = if_cut (nat_lt c.place.tag p.tag) (c ∷ cs) (cut_choices p cs) h (on_cut p cs h.1)

  on_stop_at : (found : Option (Stop × List Stop)) (m : Mid) → F m → S (stops_at set found m)
  on_stop_at None m f = f
  on_stop_at (Some x) m f = (all x.0.block, on_cut x.0.place m.choices f.1)

  on_stops : (t : Option ℕ) (m : Mid) → F m → S (stops set t m)
  on_stops None m f = tt
  on_stops (Some t) m f = on_stop_at (stop_to t m.stops) m f

  on_done : (act : Act) (m : Mid) → F m → S (done set act m)
  on_done (GoesAct [] w) m f = if_ends _ ending.KeepLimit (Runs (lasting_in w m)) f
  on_done (GoesAct (s ∷ steps) w) m f = (f.0, on_cut (cut_of m.frames) m.choices f.1)
  on_done (Tests passed w) m f = on_passed passed (lasting_in w m) f
  on_done (Unifies made es w) m f =
      let m' = made_in made (lasting_in w m) in
      let u = solve made.bound es in
      on_charged (made.heap - m.state.heap) m (unified set u m' (Runs (bound u m'))) (on_unified u m' (Runs (bound u m')) f f)
  on_done (Ends x w) m f = tt
  on_done (FailsNow w) m f = f
  on_done (Stops w) m f = on_stops m.stop (lasting_in w m) f

  -- ## Queries

  on_enters : (c : Call) (r : RuleCode) (rules : List RuleCode) (m : Mid) → F m → S (enters set c r rules m)
  on_enters c r [] m f = (all r.block, f.1)
  on_enters c r (q ∷ qs) m f = on_charged (10 + length c.args) m _ (all r.block, (tt, f.1))

  on_begins : (c : Call) (rules : List RuleCode) (m : Mid) → F m → S (begins set c rules m)
  on_begins c [] m f = f
  on_begins c (r ∷ rs) m f = on_enters c r (selected (first_of m.state.subst c) rs) m f

  on_calls : (t : Target) (c : Call) (m : Mid) → F m → S (calls set t c m)
  on_calls (ToPred pred) c m f = on_begins c (selected (first_of m.state.subst c) (rules_at set.code pred)) m f
  on_calls (ToBody body captured) c m f =
      let n = 6 + body.own + cells set.game.program (parameter captured c.args) in
      let m' = record (passed m) { ops = block_at set.code body.block; state = record m.state { vars = m.state.vars + body.own; heap = m.state.heap + n } } in
      let u = solve m.state.subst (body_equations set captured body.own c.args m.state.vars) in
      let s = Runs (record (bound u m') { frames = body_frame captured body.own c m ∷ m.frames; inner = [] }) in
      on_charged n m (unified set u m' s) (on_unified u m' s (all body.block, f.1) (all body.block, f.1))

  on_asks_last : (t : Target) (vs : List Value) (many every : Bool) (x : Frame) (xs : List Frame) (m : Mid) → F m → S (asks_last set t vs many every x xs m)
  on_asks_last t vs many true x xs m f = on_calls t (call_of vs many x.next m) (record m { frames = xs; inner = x.inner }) f
  on_asks_last t vs many false x xs m f = on_calls t (call_of vs many 0 m) (record m { inner = [] }) f

  on_last : (t : Target) (vs : List Value) (many : Bool) (xs : List Frame) (m : Mid) → F m → S (last set t vs many xs m)
  on_last t vs many [] m f = on_calls t (call_of vs many 0 m) (record m { inner = [] }) f
  on_last t vs many (x ∷ xs) m f = on_asks_last t vs many x.many x xs m f

  on_queries : (t : Option Target) (vs : List Value) (many : Bool) (next : ℕ) (m : Mid) → F m → S (queries set t vs many next m)
  on_queries None vs many next m f = f
  on_queries (Some t) vs many next m f = on_calls t (call_of vs many next m) m f

  on_queries_last : (t : Option Target) (vs : List Value) (many : Bool) (m : Mid) → F m → S (queries_last set t vs many m)
  on_queries_last None vs many m f = f
  on_queries_last (Some t) vs many m f = on_last t vs many m.frames m f

  on_seeks : (x : Find) (e : Effect) (m : Mid) → MayOffer set.game x.place e → LeavesFirst set.code x.many x.next → F m → S (seeks set x e m)
  on_seeks x (Acts act) m may first f = on_done act m f
  on_seeks x (Offers k bs w) m may first f = ((may, first), f)

  -- ## Instructions

  on_commits : (ps : List Place) (m : Mid) → F m → S (commits ps m)
  on_commits [] m f = f
  on_commits (p ∷ ps) m f = (f.0, on_cut p m.choices f.1)

  on_refuses : (ps : List Place) (m : Mid) → F m → S (refuses ps m)
  on_refuses [] m f = f
  on_refuses (p ∷ ps) m f = (f.0, on_cut p m.choices f.1)

  on_leaves : (ps : List Place) (m : Mid) → F m → S (leaves ps m)
  on_leaves [] m f = f
  on_leaves (p ∷ ps) m f = (f.0, on_cut p m.choices f.1)

  on_returned : (every : Bool) (x : Frame) (xs : List Frame) (m : Mid) → F m → F (returned set every x xs m)
  on_returned true x xs m f = (all x.next, f.1)
  on_returned false x xs m f = (all x.next, on_cut x.cut m.choices f.1)

  on_returns : (xs : List Frame) (m : Mid) → F m → S (returns set xs m)
  on_returns [] m f = f
  on_returns (x ∷ xs) m f = on_returned x.many x xs m f

  on_gathers : (gs : List Gathering) (s : Status) → S s → S (gathers set gs s)
  on_gathers gs s h = if_ends (nat_lt set.limits.aux (gathered_size gs)) ending.AuxLimit s h

  on_keeps_value : (v : Option Value) (m : Mid) → F m → S (keeps_value set v m)
  on_keeps_value None m f = f
  on_keeps_value (Some v) m f = let gs = newest_with (resolved m.state.subst v) m.gathered in on_gathers gs (Fails (record m { gathered = gs })) f

  on_keeps : (ps : List Place) (m : Mid) → F m → S (keeps set ps m)
  on_keeps [] m f = f
  on_keeps (p ∷ ps) m f = on_keeps_value p.gathers (record m { inner = ps }) f

  on_does : (x : Op) (m : Mid) → OpLeaves set.code x → F m → S (does set x m)
  on_does (op.Do a) m l f =
      let n = cells set.game.program (terms_of a) in
      on_charged n m (done set (act_at set.game [] a (more n m)) (more n m)) (on_done (act_at set.game [] a (more n m)) (more n m) f)
  on_does (op.Ask pred terms many next) m l f =
      let n = cells set.game.program terms in
      on_charged n m (asks set pred (call_of (values set m terms) many next (more n m)) (more n m)) (on_calls (ToPred pred) (call_of (values set m terms) many next (more n m)) (more n m) f)
  on_does (op.LastAsk pred terms many) m l f =
      let n = cells set.game.program terms in
      on_charged n m (last set (ToPred pred) (values set m terms) many m.frames (more n m)) (on_last (ToPred pred) (values set m terms) many m.frames (more n m) f)
  on_does (op.Query a t many next) m l f =
      let n = cells set.game.program (a ∷ option_terms t) in
      on_charged n m (queries set (asked_by set a m) (values set m (option_terms t)) many next (more n m)) (on_queries (asked_by set a m) (values set m (option_terms t)) many next (more n m) f)
  on_does (op.LastQuery a t many) m l f =
      let n = cells set.game.program (a ∷ option_terms t) in
      on_charged n m (queries_last set (asked_by set a m) (values set m (option_terms t)) many (more n m)) (on_queries_last (asked_by set a m) (values set m (option_terms t)) many (more n m) f)
  on_does (op.Find place terms many next) m l f =
      let n = cells set.game.program terms in
      let x : Find = record { place = place; args = values set m terms; many = many; next = next } in
      let e = asked_at set.game [] place x.args (more n m) in
      on_charged n m (seeks set x e (more n m)) (on_seeks x e (more n m) (asked_may set.game true [] (registers_of (more n m)) place x.args (world_of [] (more n m))) l f)
  on_does op.Take m l f = f
  on_does (op.Branch alt) m l f = on_charged 10 m _ (f.0, (tt, f.1))
  on_does (op.Select site mode blocks behind) m l f = (all _, f.1)
  on_does op.Once m l f = on_charged 10 m _ f
  on_does (op.Try alt) m l f = on_charged 10 m _ (f.0, (tt, f.1))
  on_does (op.Shield alt) m l f = on_charged 10 m _ (f.0, (tt, f.1))
  on_does (op.Collect term into alt) m l f =
      let n = cells set.game.program (term ∷ into ∷ []) in
      let v : Term → Value = λ t. value_of set.game.program (vars_of m.frames) t in
      let m' = gathering (v term) (v into) alt (more n m) in
      let s = gathers set m'.gathered (Runs m') in
      on_charged n m (charged set 10 (more n m) s) (on_charged 10 (more n m) s (on_gathers m'.gathered (Runs m') (f.0, (tt, f.1))))
  on_does (op.Retry alt) m l f = f
  on_does (op.TakeOut whole into) m l f = f
  on_does op.Commit m l f = on_commits m.inner m f
  on_does op.Refuse m l f = on_refuses m.inner m f
  on_does op.Leave m l f = on_leaves m.inner m f
  on_does (op.Keep term) m l f = on_keeps m.inner m f
  on_does op.Back m l f = f
  on_does op.Return m l f = on_returns m.frames m f
  on_does (op.Goto b) m l f = (all b, f.1)
  on_does (op.Enter vars head) m l f = f
  on_does op.Done m l f = tt

  on_runs : (xs : List Op) (m : Mid) → OpsLeave set.code xs → F m → S (runs set xs m)
  on_runs [] m l f = f
  on_runs (x ∷ xs) m l f = on_does x (record m { ops = xs }) l.0 (l.1, f.1)

  -- ## Entering and going back

  on_entered : (c : Call) (xs : List Op) (m : Mid) → OpsLeave set.code xs → F m → S (entered set c xs m)
  on_entered c (op.Enter vars head ∷ xs) m0 l f =
      let m = record m0 { ops = xs } in
      let n = 6 + vars + cells set.game.program head in
      let x = new_frame c vars m in
      let m' = record m { state = record m.state { vars = m.state.vars + vars; heap = m.state.heap + n } } in
      let u = solve m.state.subst (zip c.args (map (value_of set.game.program x.vars) head)) in
      let s = Runs (record (bound u m') { frames = x ∷ m.frames; inner = [] }) in
      on_charged n m (unified set u m' s) (on_unified u m' s (l.1, f.1) (l.1, f.1))
  on_entered c xs m l f = f

  on_resumed : (xs : List Op) (m : Mid) → OpsLeave set.code xs → F m → S (resumed set xs m)
  on_resumed (op.Retry alt ∷ xs) m l f = on_charged 10 m _ (l.1, (tt, f.1))
  on_resumed xs m l f = (l, f.1)

  on_takes_newest : (whole : Gathered) (into : Value) (gs : List Gathering) (m : Mid) → F m → S (takes_newest set whole into gs m)
  on_takes_newest whole into [] m f = f
  on_takes_newest whole into (x ∷ xs) m f = let m' = passed (record m { gathered = xs }) in on_done (taken_out [] whole into x.values m') m' f

  on_takes : (into : Value) (xs : List Op) (m : Mid) → OpsLeave set.code xs → F m → S (takes set into xs m)
  on_takes into (op.TakeOut whole t ∷ xs) m l f = on_takes_newest whole into m.gathered (record m { ops = xs }) (l.1, f.1)
  on_takes into xs m l f = f

  on_trying : (x : Find) (objects : List ℕ) (m : Mid) → WaySeeks set.game set.code (Tries x objects) → F m → F (trying set x objects m)
  on_trying x [] m w f = (all x.next, f.1)
  on_trying x (o ∷ objects) m w f = (all x.next, (w, f.1))

  on_tries : (x : Find) (objects : List ℕ) (m : Mid) → WaySeeks set.game set.code (Tries x objects) → F m → S (tries set x objects m)
  on_tries x [] m w f = f
  on_tries x (o ∷ objects) m w f =
      let m' = trying set x objects m in
      on_charged (trying_cells x objects) m (done set (found_at [] x o m') m') (on_done (found_at [] x o m') m' (on_trying x objects m w f))

  on_goes_on : (way : Way) (m : Mid) → WaySeeks set.game set.code way → F m → S (goes_on set way m)
  on_goes_on (Goes b) m w f = on_resumed (block_at set.code b) m (all b) f
  on_goes_on (Takes b into) m w f = on_takes into (block_at set.code b) m (all b) f
  on_goes_on (Calls call rules) m w f = on_begins call rules m f
  on_goes_on (Tries x objects) m w f = on_tries x objects m w f

  on_goes_back : (cs : List Choice) (m : Mid) → C cs → F m → S (goes_back cs m)
  on_goes_back [] m h f = tt
  on_goes_back (c ∷ cs) m h f = (h.0, (f.0, h.1))

  on_step : (s : Status) → S s → S (step set s)
  on_step (Runs m) h = on_runs m.ops m h.0 h
  on_step (Enters call m) h = on_entered call m.ops m h.0 h
  on_step (Resumes way m) h = on_goes_on way m h.0 h.1
  on_step (Fails m) h = on_goes_back m.choices m h.1 h
  on_step (Ended e) h = tt

  pub all_seek : (typed : List ℕ) (n : ℕ) → S (after set typed n).now
  all_seek typed zero = (all 1, tt)
  all_seek typed (suc n) = on_step (after set typed n).now (all_seek typed n)
