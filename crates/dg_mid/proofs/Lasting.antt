-- What lasts, behind a step.
use Rattle.std.proofs.Common.{◌≡◌, ℕ, zero, suc, ◌+◌, ◌-◌, List, [], ◌∷◌, Option, Some, None, Bool, true, false, refl, length, nat_lt, map}
use Rattle.std.specs.List.{zip}
use Rattle.std.specs.Prelude.{if◌then◌else◌, slice_get}
use Rattle.std.proofs.lemmas.Bool.{cond_both}
use Rattle.dg_base.specs.Goals.{option_terms}
use Rattle.dg_base.specs.declared.program.PlaceKind.{PlaceKind}
use Rattle.dg_base.specs.declared.program.PlaceKind.TheVariants as kind
use Rattle.dg_base.specs.declared.run.Ending.{Ending}
use Rattle.dg_base.specs.declared.run.Ending.TheVariants as ending
use Rattle.dg_meaning.specs.Values.{Value, Object, Var, Node, value_of}
use Rattle.dg_meaning.specs.Substitutions.{walk, resolved}
use Rattle.dg_meaning.specs.Cells.{cells}
use Rattle.dg_meaning.specs.Changes.{found}
use Rattle.dg_meaning.specs.Facts.{kinds_of, value_at}
use Rattle.dg_meaning.specs.Numbers.{total}
use Rattle.dg_meaning.specs.Moves.{begun, looked_up, reads_if_set, finds_if_set, gives_number, takes_out, ask_object, ask_objects, ask_place, selects, selected as picked}
use Rattle.dg_meaning.specs.Path.{Registers, Act, Goes as GoesNow, Tests, Unifies, Ends, Fails as FailsNow, Stops, Effect, Acts, Offers, Whole, AsList, AsSum}
use Rattle.dg_meaning.specs.Unify.{Equations, Unified, solve}
use Rattle.dg_meaning.specs.World.{Game, World, Gathering, worked}
use Rattle.dg_mid.specs.declared.code.Op.{Op}
use Rattle.dg_mid.specs.declared.code.Op.TheVariants as op
use Rattle.dg_mid.specs.declared.code.Gathered.{Gathered}
use Rattle.dg_mid.specs.declared.code.RuleCode.{RuleCode}
use Rattle.dg_mid.specs.Code.{block_at, rules_at, selected}
use Rattle.dg_mid.specs.Reads.{lasting_of}
use Rattle.dg_mid.specs.Left.{overfills}
use Rattle.dg_mid.specs.Actions.{terms_of, whole_of, act_at, asked_at, found_at, registers_of, world_of, lasting_in}
use Rattle.dg_mid.specs.State.{Lasting, Mid, Frame, Place, Stop, Call, Target, ToPred, ToBody, Find, Way, Goes, Takes, Calls, Tries, Choice, Status, Runs, Enters, Resumes, Fails, Ended, vars_of, stop_to}
use Rattle.dg_mid.specs.Step.{Setting, more, charged, bound, unified, if_agreed, if_passed, made_in, gathers, done, stops, stops_at, begins, enters, asks, calls, call_of, asks_last, last, queries, queries_last, asked_by, values, seeks, trying, trying_cells, tries}
use Rattle.dg_mid.specs.Step.{does, runs, commits, refuses, leaves, keeps_value, keeps, newest_with, returns, returned, entered, resumed, taken_out, takes_newest, takes, goes_on, goes_back, passed, inside, gathering, parameter, body_equations, body_frame, new_frame, first_of}

module _ (P : Lasting → Type 0) (E : Ending → Type 0) where
  -- this holds of what lasts in a status, and that of an ending
  abbrev pub Leads : Status → Type 0
  Leads (Runs m) = P m.lasting
  Leads (Enters call m) = P m.lasting
  Leads (Resumes way m) = P m.lasting
  Leads (Fails m) = P m.lasting
  Leads (Ended e) = E e

  -- the same of what an act leads to in a machine
  abbrev pub Acting : Act → Mid → Type 0
  Acting (GoesNow [] w) m = P (lasting_of w)
  Acting (GoesNow (s ∷ steps) w) m = P m.lasting
  Acting (Tests passed w) m = P (lasting_of w)
  Acting (Unifies made es w) m = P (lasting_of w)
  Acting (Ends e w) m = E e
  Acting (FailsNow w) m = P (lasting_of w)
  Acting (Stops w) m = P (lasting_of w) × (m.stop ≡ None → E ending.Stopped)

  -- the same of an effect that offers no branches
  abbrev Effecting : Effect → Mid → Type 0
  Effecting (Acts act) m = Acting act m
  Effecting (Offers k bs w) m = Unit {0}

  -- what an instruction needs for that; an action is done where the heap has room for its terms
  abbrev pub Doing : Setting → Op → Mid → Type 0
  Doing g (op.Do a) m =
      let n = cells g.game.program (terms_of a) in overfills g m.state.heap n ≡ false → Acting (act_at g.game [] a (more n m)) (more n m)
  Doing g (op.Select site mode blocks behind) m =
      let c = selects g.game site mode (length blocks) (world_of [] m) in P (lasting_of (picked site c (world_of [] m)))
  Doing g op.Done m = E ending.Done
  Doing g x m = P m.lasting

  -- the same of the code at hand
  abbrev pub Running : Setting → List Op → Mid → Type 0
  Running g [] m = P m.lasting
  Running g (x ∷ ops) m = Doing g x (record m { ops = ops })

  -- every limit may be met
  pub record AtLimits : Type 0 where
    pub heap : E ending.HeapLimit
    pub trail : E ending.TrailLimit
    pub aux : E ending.AuxLimit
    pub keep : E ending.KeepLimit

  module _ (g : Setting) (full : AtLimits) where
    leads_if : (b : Bool) (e : Ending) (s : Status) → E e → Leads s → Leads (if b then Ended e else s)
    leads_if true e s f h = f
    leads_if false e s f h = h

    leads_room : (n : ℕ) (m : Mid) (s : Status) → (overfills g m.state.heap n ≡ false → Leads s) → Leads (charged g n m s)
    leads_room zero m s h = h refl
    leads_room (suc n) m s h = cond_both (nat_lt g.limits.heap (m.state.heap + suc n)) (Ended ending.HeapLimit) s Leads (λ e. full.heap) h

    leads_charged : (n : ℕ) (m : Mid) (s : Status) → Leads s → Leads (charged g n m s)
    leads_charged zero m s h = h
    leads_charged (suc n) m s h = leads_if (nat_lt g.limits.heap (m.state.heap + suc n)) ending.HeapLimit s full.heap h

    leads_agreed : (b : Bool) (m : Mid) (s : Status) → P m.lasting → Leads s → Leads (if_agreed b m s)
    leads_agreed true m s p h = h
    leads_agreed false m s p h = p

    leads_unified : (u : Unified) (m : Mid) (s : Status) → P m.lasting → Leads s → Leads (unified g u m s)
    leads_unified u m s p h = leads_if _ ending.TrailLimit (if_agreed u.agrees (bound u m) s) full.trail (leads_agreed u.agrees (bound u m) s p h)

    leads_unifies : (made : Registers) (es : Equations) (w : World) (m : Mid) → P (lasting_of w) → Leads (done g (Unifies made es w) m)
    leads_unifies made es w m p =
        let m' = made_in made (lasting_in w m) in
        let u = solve made.bound es in
        leads_charged (made.heap - m.state.heap) m (unified g u m' (Runs (bound u m'))) (leads_unified u m' (Runs (bound u m')) p p)

    leads_passed : (b : Bool) (m : Mid) → P m.lasting → Leads (if_passed b m)
    leads_passed true m p = p
    leads_passed false m p = p

    leads_stop_at : (found : Option (Stop × List Stop)) (m : Mid) → P m.lasting → Leads (stops_at g found m)
    leads_stop_at None m p = p
    leads_stop_at (Some f) m p = p

    leads_stops : (t : Option ℕ) (m : Mid) → P m.lasting → (t ≡ None → E ending.Stopped) → Leads (stops g t m)
    leads_stops None m p e = e refl
    leads_stops (Some t) m p e = leads_stop_at (stop_to t m.stops) m p

    leads_gathers : (gs : List Gathering) (s : Status) → Leads s → Leads (gathers g gs s)
    leads_gathers gs s h = leads_if _ ending.AuxLimit s full.aux h

    leads_done : (act : Act) (m : Mid) → Acting act m → Leads (done g act m)
    leads_done (GoesNow [] w) m a = leads_if _ ending.KeepLimit (Runs (lasting_in w m)) full.keep a
    leads_done (GoesNow (s ∷ steps) w) m a = a
    leads_done (Tests passed w) m a = leads_passed passed (lasting_in w m) a
    leads_done (Unifies made es w) m a = leads_unifies made es w m a
    leads_done (Ends e w) m a = a
    leads_done (FailsNow w) m a = a
    leads_done (Stops w) m a = leads_stops m.stop (lasting_in w m) a.0 a.1

    -- ## Queries

    leads_enters : (c : Call) (r : RuleCode) (rules : List RuleCode) (m : Mid) → P m.lasting → Leads (enters g c r rules m)
    leads_enters c r [] m p = p
    leads_enters c r (q ∷ qs) m p = leads_charged (10 + length c.args) m _ p

    leads_begins : (c : Call) (rules : List RuleCode) (m : Mid) → P m.lasting → Leads (begins g c rules m)
    leads_begins c [] m p = p
    leads_begins c (r ∷ rs) m p = leads_enters c r (selected (first_of m.state.subst c) rs) m p

    leads_calls : (t : Target) (c : Call) (m : Mid) → P m.lasting → Leads (calls g t c m)
    leads_calls (ToPred pred) c m p = leads_begins c (selected (first_of m.state.subst c) (rules_at g.code pred)) m p
    leads_calls (ToBody body captured) c m p =
        let n = 6 + body.own + cells g.game.program (parameter captured c.args) in
        let m' = record (passed m) { ops = block_at g.code body.block; state = record m.state { vars = m.state.vars + body.own; heap = m.state.heap + n } } in
        let u = solve m.state.subst (body_equations g captured body.own c.args m.state.vars) in
        let s = Runs (record (bound u m') { frames = body_frame captured body.own c m ∷ m.frames; inner = [] }) in
        leads_charged n m (unified g u m' s) (leads_unified u m' s p p)

    leads_asks_last : (t : Target) (vs : List Value) (many all : Bool) (f : Frame) (fs : List Frame) (m : Mid) → P m.lasting → Leads (asks_last g t vs many all f fs m)
    leads_asks_last t vs many true f fs m p = leads_calls t (call_of vs many f.next m) (record m { frames = fs; inner = f.inner }) p
    leads_asks_last t vs many false f fs m p = leads_calls t (call_of vs many 0 m) (record m { inner = [] }) p

    leads_last : (t : Target) (vs : List Value) (many : Bool) (fs : List Frame) (m : Mid) → P m.lasting → Leads (last g t vs many fs m)
    leads_last t vs many [] m p = leads_calls t (call_of vs many 0 m) (record m { inner = [] }) p
    leads_last t vs many (f ∷ fs) m p = leads_asks_last t vs many f.many f fs m p

    leads_queries : (t : Option Target) (vs : List Value) (many : Bool) (next : ℕ) (m : Mid) → P m.lasting → Leads (queries g t vs many next m)
    leads_queries None vs many next m p = p
    leads_queries (Some t) vs many next m p = leads_calls t (call_of vs many next m) m p

    leads_queries_last : (t : Option Target) (vs : List Value) (many : Bool) (m : Mid) → P m.lasting → Leads (queries_last g t vs many m)
    leads_queries_last None vs many m p = p
    leads_queries_last (Some t) vs many m p = leads_last t vs many m.frames m p

    -- ## Objects

    reads_lead : (args : List Value) (r : Registers) (v : Option Value) (w : World) (m : Mid) → P (lasting_of w) → Acting (reads_if_set args r v w) m
    reads_lead args r None w m p = p
    reads_lead [] r (Some v) w m p = p
    reads_lead (arg ∷ args) r (Some v) w m p = p

    object_leads : (x : Game) (place : Option ℕ) (u v : Value) (args : List Value) (r : Registers) (w : World) (m : Mid) → P (lasting_of w) → Effecting (ask_object x place u v args true [] r w) m
    object_leads x place (Var y) v args r w m p = tt
    object_leads x place (Node (Object o) vs) v args r w m p = reads_lead args r (found w.facts place o) w m p
    object_leads x place u v args r w m p = p

    objects_lead : (x : Game) (place : Option ℕ) (args : List Value) (r : Registers) (w : World) (m : Mid) → P (lasting_of w) → Effecting (ask_objects x place args true [] r w) m
    objects_lead x place [] r w m p = p
    objects_lead x place (v ∷ args) r w m p = object_leads x place (walk r.bound v) v args r (worked (looked_up r v) w) m p

    place_leads : (x : Game) (place : ℕ) (k : Option PlaceKind) (args : List Value) (r : Registers) (w : World) (m : Mid) → P (lasting_of w) → Effecting (ask_place x place k args true [] r w) m
    place_leads x place None args r w m p = p
    place_leads x place (Some kind.Flag) args r w m p = p
    place_leads x place (Some kind.Global) args r w m p = reads_lead args r (value_at w.facts place 0) w m p
    place_leads x place (Some k) args r w m p = objects_lead x (Some place) args r w m p

    asked_leads : (place : Option ℕ) (args : List Value) (m : Mid) → P m.lasting → Effecting (asked_at g.game [] place args m) m
    asked_leads (Some place) args m p = place_leads g.game place (slice_get (kinds_of g.game.program) place) args (registers_of m) (world_of [] m) m p
    asked_leads None args m p = objects_lead g.game None args (registers_of m) (world_of [] m) m p

    leads_seeks : (f : Find) (e : Effect) (m : Mid) → P m.lasting → Effecting e m → Leads (seeks g f e m)
    leads_seeks f (Acts act) m p a = leads_done act m a
    leads_seeks f (Offers k bs w) m p a = p

    finds_lead : (args : List Value) (o : ℕ) (r : Registers) (v : Option Value) (w : World) (m : Mid) → P (lasting_of w) → Acting (finds_if_set args o r v w) m
    finds_lead args o r None w m p = p
    finds_lead [] o r (Some v) w m p = p
    finds_lead (a ∷ []) o r (Some v) w m p = p
    finds_lead (a ∷ b ∷ args) o r (Some v) w m p = p

    trying_same : (f : Find) (o : ℕ) (os : List ℕ) (m : Mid) → P m.lasting → Leads (done g (found_at [] f o (trying g f os m)) (trying g f os m))
    trying_same f o [] m p =
        let m' = trying g f [] m in
        leads_done (found_at [] f o m') m' (finds_lead f.args o (registers_of m') (found m.lasting.facts f.place o) (begun (registers_of m') 1 (world_of [] m')) m' p)
    trying_same f o (q ∷ os) m p =
        let m' = trying g f (q ∷ os) m in
        leads_done (found_at [] f o m') m' (finds_lead f.args o (registers_of m') (found m.lasting.facts f.place o) (begun (registers_of m') 1 (world_of [] m')) m' p)

    leads_tries : (f : Find) (os : List ℕ) (m : Mid) → P m.lasting → Leads (tries g f os m)
    leads_tries f [] m p = p
    leads_tries f (o ∷ os) m p = leads_charged (trying_cells f os) m _ (trying_same f o os m p)

    -- ## Instructions

    leads_commits : (ps : List Place) (m : Mid) → P m.lasting → Leads (commits ps m)
    leads_commits [] m p = p
    leads_commits (q ∷ ps) m p = p

    leads_refuses : (ps : List Place) (m : Mid) → P m.lasting → Leads (refuses ps m)
    leads_refuses [] m p = p
    leads_refuses (q ∷ ps) m p = p

    leads_leaves : (ps : List Place) (m : Mid) → P m.lasting → Leads (leaves ps m)
    leads_leaves [] m p = p
    leads_leaves (q ∷ ps) m p = p

    leads_value : (v : Option Value) (m : Mid) → P m.lasting → Leads (keeps_value g v m)
    leads_value None m p = p
    leads_value (Some v) m p = leads_gathers (newest_with (resolved m.state.subst v) m.gathered) _ p

    leads_keeps : (ps : List Place) (m : Mid) → P m.lasting → Leads (keeps g ps m)
    leads_keeps [] m p = p
    leads_keeps (q ∷ ps) m p = leads_value q.gathers (record m { inner = ps }) p

    leads_returned : (all : Bool) (f : Frame) (fs : List Frame) (m : Mid) → P m.lasting → P (returned g all f fs m).lasting
    leads_returned true f fs m p = p
    leads_returned false f fs m p = p

    leads_returns : (fs : List Frame) (m : Mid) → P m.lasting → Leads (returns g fs m)
    leads_returns [] m p = p
    leads_returns (f ∷ fs) m p = leads_returned f.many f fs m p

    pub leads_does : (x : Op) (m : Mid) → Doing g x m → Leads (does g x m)
    leads_does (op.Do a) m p =
        let n = cells g.game.program (terms_of a) in
        leads_room n m (done g (act_at g.game [] a (more n m)) (more n m)) (λ e. leads_done (act_at g.game [] a (more n m)) (more n m) (p e))
    leads_does (op.Ask pred terms many next) m p =
        let n = cells g.game.program terms in
        leads_charged n m (asks g pred (call_of (values g m terms) many next (more n m)) (more n m)) (leads_calls (ToPred pred) (call_of (values g m terms) many next (more n m)) (more n m) p)
    leads_does (op.LastAsk pred terms many) m p =
        let n = cells g.game.program terms in
        leads_charged n m (last g (ToPred pred) (values g m terms) many m.frames (more n m)) (leads_last (ToPred pred) (values g m terms) many m.frames (more n m) p)
    leads_does (op.Query a b many next) m p =
        let n = cells g.game.program (a ∷ option_terms b) in
        leads_charged n m (queries g (asked_by g a m) (values g m (option_terms b)) many next (more n m)) (leads_queries (asked_by g a m) (values g m (option_terms b)) many next (more n m) p)
    leads_does (op.LastQuery a b many) m p =
        let n = cells g.game.program (a ∷ option_terms b) in
        leads_charged n m (queries_last g (asked_by g a m) (values g m (option_terms b)) many (more n m)) (leads_queries_last (asked_by g a m) (values g m (option_terms b)) many (more n m) p)
    leads_does (op.Find place terms many next) m p =
        let n = cells g.game.program terms in
        let f : Find = record { place = place; args = values g m terms; many = many; next = next } in
        leads_charged n m (seeks g f (asked_at g.game [] place f.args (more n m)) (more n m)) (leads_seeks f (asked_at g.game [] place f.args (more n m)) (more n m) p (asked_leads place f.args (more n m) p))
    leads_does op.Take m p = p
    leads_does (op.Branch alt) m p = leads_charged 10 m _ p
    leads_does (op.Select site mode blocks behind) m p = p
    leads_does op.Once m p = leads_charged 10 m _ p
    leads_does (op.Try alt) m p = leads_charged 10 m _ p
    leads_does (op.Shield alt) m p = leads_charged 10 m _ p
    leads_does (op.Collect term into alt) m p =
        let n = cells g.game.program (term ∷ into ∷ []) in
        let v = value_of g.game.program (vars_of m.frames) in
        let m' = gathering (v term) (v into) alt (more n m) in
        leads_charged n m (charged g 10 (more n m) (gathers g m'.gathered (Runs m'))) (leads_charged 10 (more n m) (gathers g m'.gathered (Runs m')) (leads_gathers m'.gathered (Runs m') p))
    leads_does (op.Retry alt) m p = p
    leads_does (op.TakeOut whole into) m p = p
    leads_does op.Commit m p = leads_commits m.inner m p
    leads_does op.Refuse m p = leads_refuses m.inner m p
    leads_does op.Leave m p = leads_leaves m.inner m p
    leads_does (op.Keep term) m p = leads_keeps m.inner m p
    leads_does op.Back m p = p
    leads_does op.Return m p = leads_returns m.frames m p
    leads_does (op.Goto b) m p = p
    leads_does (op.Enter vars head) m p = p
    leads_does op.Done m p = p

    pub leads_runs : (ops : List Op) (m : Mid) → Running g ops m → Leads (runs g ops m)
    leads_runs [] m p = p
    leads_runs (x ∷ ops) m p = leads_does x (record m { ops = ops }) p

    -- ## Entering and going back

    pub leads_entered : (c : Call) (ops : List Op) (m : Mid) → P m.lasting → Leads (entered g c ops m)
    leads_entered c (op.Enter vars head ∷ ops) m0 p =
        let m = record m0 { ops = ops } in
        let n = 6 + vars + cells g.game.program head in
        let f = new_frame c vars m in
        let m' = record m { state = record m.state { vars = m.state.vars + vars; heap = m.state.heap + n } } in
        let u = solve m.state.subst (zip c.args (map (value_of g.game.program f.vars) head)) in
        let s = Runs (record (bound u m') { frames = f ∷ m.frames; inner = [] }) in
        leads_charged n m (unified g u m' s) (leads_unified u m' s p p)
    leads_entered c ops m p = p

    number_leads : (n : Option ℕ) (into : Value) (r : Registers) (w : World) (m : Mid) → P (lasting_of w) → Acting (gives_number n into r w) m
    number_leads None into r w m p = p
    number_leads (Some n) into r w m p = p

    whole_leads : (whole : Whole) (into : Value) (vs : List Value) (r : Registers) (w : World) (m : Mid) → P (lasting_of w) → Acting (takes_out whole into vs r w) m
    whole_leads AsList into vs r w m p = p
    whole_leads AsSum into vs r w m p = number_leads (total vs) into r (begun r (length vs) w) m p

    pub leads_resumed : (ops : List Op) (m : Mid) → P m.lasting → Leads (resumed g ops m)
    leads_resumed (op.Retry alt ∷ ops) m p = leads_charged 10 m (Runs (inside (Goes alt) 0 (record m { ops = ops }))) p
    leads_resumed ops m p = p

    leads_newest : (whole : Gathered) (into : Value) (gs : List Gathering) (m : Mid) → P m.lasting → Leads (takes_newest g whole into gs m)
    leads_newest whole into [] m p = p
    leads_newest whole into (x ∷ xs) m p =
        let m' = passed (record m { gathered = xs }) in
        leads_done (taken_out [] whole into x.values m') m' (whole_leads (whole_of whole) into x.values (registers_of m') (world_of [] m') m' p)

    leads_takes : (into : Value) (ops : List Op) (m : Mid) → P m.lasting → Leads (takes g into ops m)
    leads_takes into (op.TakeOut whole t ∷ ops) m p = leads_newest whole into m.gathered (record m { ops = ops }) p
    leads_takes into ops m p = p

    pub leads_goes_on : (way : Way) (m : Mid) → P m.lasting → Leads (goes_on g way m)
    leads_goes_on (Goes b) m p = leads_resumed (block_at g.code b) m p
    leads_goes_on (Takes b into) m p = leads_takes into (block_at g.code b) m p
    leads_goes_on (Calls c rules) m p = leads_begins c rules m p
    leads_goes_on (Tries f os) m p = leads_tries f os m p

    pub leads_back : (cs : List Choice) (m : Mid) → P m.lasting → (cs ≡ [] → E ending.Failed) → Leads (goes_back cs m)
    leads_back [] m p e = e refl
    leads_back (c ∷ cs) m p e = p
