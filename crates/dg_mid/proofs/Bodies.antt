-- Queries of closures, and the bodies that they enter.
use Rattle.std.proofs.Common.{◌≡◌, ℕ, suc, ◌+◌, ◌≤◌, List, [], ◌∷◌, ◌++◌, Bool, Option, Some, None, refl, sym, ap, ◌∙◌, subst, arith, map}
use Rattle.std.specs.Prelude.{slice_get}
use Rattle.std.specs.List.{zip}
use Rattle.dg_base.specs.declared.program.Goal.{Goal, Goal-F}
use Rattle.dg_base.specs.declared.program.Goal.TheVariants as goal
use Rattle.dg_base.specs.declared.program.Goal.TheVariants.{outs-Query}
use Rattle.dg_base.specs.declared.program.Goal.TheOpen as form
use Rattle.dg_base.specs.declared.program.Term.{Term}
use Rattle.dg_base.specs.declared.program.ClosureBody.{ClosureBody}
use Rattle.dg_base.specs.declared.run.Limits.{Limits}
use Rattle.dg_base.specs.Goals.{option_terms}
use Rattle.dg_meaning.specs.Values.{Closure, Value, Var, Node, Values, value_of}
use Rattle.dg_meaning.specs.Substitutions.{walk, links}
use Rattle.dg_meaning.specs.Copies.{values_of}
use Rattle.dg_meaning.specs.Unify.{Unified, solve}
use Rattle.dg_meaning.specs.World.{Game, World, Print, worked}
use Rattle.dg_meaning.specs.Cells.{cells, writing}
use Rattle.dg_meaning.specs.Path.{Step, Do, Registers, Path, Branch}
use Rattle.dg_meaning.specs.Moves.{path_of, goals_at, first_alone, enter_if, new_vars, entered_with, matched, entering_with, unifying, head_equations, closure_head, closure_steps, closure_branch, ask_body, ask_closure, looked_up, outcome_of, made_since, older_bound}
use Rattle.dg_meaning.specs.Transcript.{Run}
use Rattle.dg_meaning.specs.inside.Context.{Way as WayOn, Live}
use Rattle.dg_meaning.specs.inside.Keeps.{Began, After, Failed}
use Rattle.dg_mid.specs.declared.code.Op.{Op}
use Rattle.dg_mid.specs.declared.code.Op.TheVariants as op
use Rattle.dg_mid.specs.declared.code.BodyCode.{BodyCode}
use Rattle.dg_mid.specs.declared.code.Code.{Code}
use Rattle.dg_mid.specs.Code.{block_at}
use Rattle.dg_mid.specs.State.{Place, Frame, Call, Target, ToBody, Mid, Status, Runs, Fails, vars_of, cut_of}
use Rattle.dg_mid.specs.Step.{Setting, setting, does, more, passed, unified, bound, values, call_of, parameter, body_frame, body_equations, enters_body, calls, body_of, closure_at, queries, queries_last}
use Rattle.dg_mid.specs.Units.{body_work, query_work, asking_work}
use Rattle.dg_mid.specs.Codes.{End, Returns, Stands, returns, BodyStands, Codes}
use Rattle.dg_mid.specs.Reads.{silents, Behind, Reads, Mirrors, Comes, GathersAt}
use Rattle.dg_mid.proofs.Here.{Here, steps_of}
use Rattle.dg_mid.proofs.Marks.{below_next}
use Rattle.dg_mid.proofs.Taking.{behind, taken_in, comes, taken_grows, began_grows, charge, heap_full, unify_on, trail_older}
use Rattle.dg_mid.proofs.Calls.{began_peaks, match_on}
use Rattle.dg_mid.proofs.Asks.{last_from}

-- the head of a closure is its parameter
head_is : (parts : Values) (args : List Value) → closure_head parts args ≡ parameter (values_of parts) args
head_is parts [] = refl
head_is parts (v ∷ vs) = refl

module _ (g : Game) (code : Code) (limits : Limits) (c : BodyCode) (closure : ClosureBody) (parts : Values) (own_is : c.own ≡ closure.own) (stands : Stands code (block_at code c.block) closure.body Returns) (call : Call) (answered : List ℕ) (after : List Step) (q : Registers)
    (m : Mid) (ps : List Print) (lives : List Live) (ways : List WayOn) (n : ℕ) (w : World) (run : Run) (reads : Reads g code (block_at code call.next) m.frames m.inner after) (cut : call.cut.tag ≡ q.next_tag) where
  abbrev set : Setting
  set = setting g code limits

  abbrev captured : List Value
  captured = values_of parts

  abbrev own : ℕ
  own = closure.own

  abbrev head : List Term
  head = parameter captured call.args

  abbrev steps : List Step
  steps = silents answered after

  abbrev env : ℕ → List Value
  env v = captured ++ new_vars own v

  abbrev branch : List Term → Branch
  branch h =
      let u = solve q.bound (head_equations g call.args (env q.next_var) h) in
      enter_if u.agrees (path_of (closure_steps call.many (env q.next_var) q.next_tag closure steps) (matched u q (entered_with g 0 own h q))) (entering_with g call.args (env q.next_var) h q)

  abbrev here : BodyCode
  here = record { own = own; block = c.block }

  enters_here : {least : ℕ} → Mirrors g code m ps q lives ways w → Began g lives ways (branch head) n w run → least ≤ w.meters.work + body_work set (ToBody here captured) call.args m.state.subst m.state.vars → Comes least ps set (enters_body set here captured call m) g n run
  enters_here {least = least} i began le =
      let k = 6 + own + cells g.program head in
      let f = body_frame captured own call m in
      let m2 : Mid = record (passed m) { ops = block_at code c.block; state = record m.state { vars = m.state.vars + own; heap = m.state.heap + k } } in
      let u = solve m.state.subst (body_equations set captured own call.args m.state.vars) in
      let u' = solve q.bound (head_equations g call.args (env q.next_var) head) in
      let same : u' ≡ u = ap (λ S. solve S (zip call.args (map (value_of g.program (env q.next_var)) head))) i.agrees.bound ∙ ap (λ v. solve m.state.subst (zip call.args (map (value_of g.program (env v)) head))) i.agrees.vars in
      let path : Path = path_of (closure_steps call.many (env q.next_var) q.next_tag closure steps) (matched u' q (entered_with g 0 own head q)) in
      let work = entering_with g call.args (env q.next_var) head q in
      let peaks = began_peaks g lives ways u'.agrees path work n w run began in
      let grows = began_grows g lives ways (branch head) n w run began in
      let made : made_since q.bound u'.subst ≡ made_since m.state.subst u.subst = ap (λ S. made_since S u'.subst) i.agrees.bound ∙ ap (λ (x : Unified). made_since m.state.subst x.subst) same in
      let few = trail_older m.state.since q.next_var (made_since m.state.subst u.subst) (omega (arith, i.agrees.since, i.agrees.vars)) in
      let older : older_bound q.next_var (made_since q.bound u'.subst) ≡ older_bound q.next_var (made_since m.state.subst u.subst) = ap (older_bound q.next_var) made in
      let as_here : work ≡ 1 + writing head + unifying m.state.subst (body_equations set captured own call.args m.state.vars) =
      ap (λ S. 1 + writing head + unifying S (zip call.args (map (value_of g.program (env q.next_var)) head))) i.agrees.bound
      ∙ ap (λ v. 1 + writing head + unifying m.state.subst (zip call.args (map (value_of g.program (env v)) head))) i.agrees.vars in
      charge set [] k m (unified set u m2 (Runs (record (bound u m2) { frames = f ∷ m.frames; inner = [] }))) g n run
      (λ full. record { world = w; at = record { passes = omega (arith, full, i.agrees.heap, peaks.0); printed = i.printed_is; happened = grows }; grows = grows })
      (unify_on set [] u m2 (Runs (record (bound u m2) { frames = f ∷ m.frames; inner = [] })) g n run
      (λ full. record { world = w; at = record { passes = omega (arith, full, i.agrees.trail, peaks.1, few, older); printed = i.printed_is; happened = grows }; grows = grows })
      (match_on g code limits u.agrees (bound u m2) f path work lives ways n w run
      (record {
        agrees = record {
          bound = ap (λ (x : Unified). x.subst) same;
          vars = ap (λ v. v + own) i.agrees.vars;
          heap = omega (arith, i.agrees.heap);
          trail = omega (arith, i.agrees.trail, few, older);
          since = omega (arith, i.agrees.since);
        };
        tag = ap (λ t. t + 1) i.tag;
        choices_are = i.choices_are;
        below = below_next m.next_tag m.choices i.below;
        stops_are = i.stops_are;
        stop_is = i.stop_is;
        gathered_is = i.gathered_is;
        lasting_is = i.lasting_is;
        printed_is = i.printed_is;
      })
      (record {
        goals = closure.body;
        end = Returns;
        rest = first_alone call.many call.cut.tag steps;
        stands = stands;
        below = record { noted = []; answered = answered; after = after; layer = reads; is = refl };
        gathers = tt;
        is = ap (λ v. goals_at (env v) q.next_tag closure.body ++ first_alone call.many q.next_tag steps) i.agrees.vars
            ∙ ap (λ t. goals_at (env m.state.vars) t closure.body ++ first_alone call.many t steps) (sym cut);
      })
      (subst (λ (x : Unified). Began g lives ways (enter_if x.agrees path work) n w run) same began) (omega (arith, le, as_here))))

  pub body_begins : {least : ℕ} → Mirrors g code m ps q lives ways w → Began g lives ways (closure_branch g parts closure call.args call.many steps q) n w run → least ≤ w.meters.work + body_work set (ToBody c captured) call.args m.state.subst m.state.vars → Comes least ps set (enters_body set c captured call m) g n run
  body_begins {least = least} i began le =
      subst (λ o. least ≤ w.meters.work + body_work set (ToBody (record { own = o; block = c.block }) captured) call.args m.state.subst m.state.vars → Comes least ps set (enters_body set (record { own = o; block = c.block }) captured call m) g n run) (sym own_is)
      (enters_here i (subst (λ h. Began g lives ways (branch h) n w run) (head_is parts call.args) began)) le

-- ## What a value asks

module _ (g : Game) (code : Code) (limits : Limits) (args : List Value) (many : Bool) (steps : List Step) (q : Registers) (m : Mid) (ps : List Print) (lives : List Live) (ways : List WayOn) (n : ℕ) (w : World) (run : Run) (K : Option Target → Status) where
  abbrev the : Setting
  the = setting g code limits

  -- what has to be shown where it fails, and where a body is entered
  abbrev Failing : ℕ → Type 0
  Failing least = Failed g lives n w run → least ≤ w.meters.work → Comes least ps the (K None) g n run

  abbrev Entering : ℕ → Type 0
  Entering least = (c : BodyCode) (closure : ClosureBody) (parts : Values) → c.own ≡ closure.own → Stands code (block_at code c.block) closure.body Returns → Began g lives ways (closure_branch g parts closure args many steps q) n w run →
      least ≤ w.meters.work + body_work the (ToBody c (values_of parts)) args m.state.subst m.state.vars → Comes least ps the (K (Some (ToBody c (values_of parts)))) g n run

  body_asked : {least : ℕ} → Failing least → Entering least → (parts : Values) (c : Option BodyCode) (closure : Option ClosureBody) → BodyStands code c closure → After g lives ways n (outcome_of steps q (ask_body g parts closure args many steps q w)) run →
      least ≤ w.meters.work + query_work the (body_of c parts) args m.state.subst m.state.vars → Comes least ps the (K (body_of c parts)) g n run
  body_asked {least = least} fails enters parts None None stand h le = fails h (omega (arith, le))
  body_asked {least = least} fails enters parts None (Some closure) stand h le = absurd stand
  body_asked {least = least} fails enters parts (Some c) None stand h le = absurd stand
  body_asked {least = least} fails enters parts (Some c) (Some closure) stand h le = enters c closure parts stand.0 stand.1 h le

  pub value_asked : {least : ℕ} → Failing least → Entering least → ((k : ℕ) → BodyStands code (slice_get code.closures k) (slice_get g.program.closures k)) → (u : Value) → After g lives ways n (outcome_of steps q (ask_closure g u args many steps q w)) run →
      least ≤ w.meters.work + query_work the (closure_at code u) args m.state.subst m.state.vars → Comes least ps the (K (closure_at code u)) g n run
  value_asked {least = least} fails enters bodies (Var x) h le = fails h (omega (arith, le))
  value_asked {least = least} fails enters bodies (Node (Closure k) parts) h le = body_asked fails enters parts (slice_get code.closures k) (slice_get g.program.closures k) (bodies k) h le
  value_asked {least = least} fails enters bodies (Node f parts) h le = fails h (omega (arith, le))

-- ## The goal

module _ (code : Code) (limits : Limits) (m : Mid) (ps : List Print) (ops : List Op) (g : Game) (n : ℕ) (w : World) (run : Run) (codes : Codes g.program code) (a : Term) (b : Option Term) (many : Bool) (on : List Step)
    (h : Here code m ps (Do (goal.Query a b many) (vars_of m.frames) (cut_of m.frames).tag ∷ on) g (suc n) w run) where
  abbrev now : Setting
  now = setting g code limits

  abbrev terms : List Term
  terms = a ∷ option_terms b

  abbrev k : ℕ
  k = cells g.program terms

  abbrev m' : Mid
  m' = record m { ops = ops }

  abbrev m0 : Mid
  m0 = more k m'

  abbrev x : Goal
  x = goal.Query a b many

  abbrev f : Goal-F Goal
  f = form.Query a b many

  abbrev r : Registers
  r = behind code m ps on g n w run x f (outs-Query a b many) h

  abbrev v : World
  v = taken_in code m ps on g n w run x f (outs-Query a b many) h

  abbrev args : List Value
  args = values now m (option_terms b)

  abbrev value : Value
  value = value_of g.program (vars_of m.frames) a

  abbrev seen : World
  seen = worked (looked_up r value) v

  abbrev Target-of : Option Target
  Target-of = closure_at code (walk m.state.subst value)

  mirrors_here : Mirrors g code m0 ps r h.lives h.ways seen
  mirrors_here =
      let i = h.mirrors in
      record {
        agrees = record { bound = i.agrees.bound; vars = i.agrees.vars; heap = omega (arith, i.agrees.heap); trail = i.agrees.trail; since = i.agrees.since };
        tag = i.tag;
        choices_are = i.choices_are;
        below = i.below;
        stops_are = i.stops_are;
        stop_is = i.stop_is;
        gathered_is = i.gathered_is;
        lasting_is = i.lasting_is;
        printed_is = i.printed_is;
      }

  -- a body is called with these frames
  goes_on_at : {least : ℕ} → (c : BodyCode) (closure : ClosureBody) (parts : Values) → c.own ≡ closure.own → Stands code (block_at code c.block) closure.body Returns → Began g h.lives h.ways (closure_branch g parts closure args many on r) n seen run →
      least ≤ seen.meters.work + body_work now (ToBody c (values_of parts)) args m.state.subst m.state.vars → (next : ℕ) (frames : List Frame) (inner : List Place) (answered : List ℕ) (after : List Step) → on ≡ silents answered after → Reads g code (block_at code next) frames inner after →
      Comes least ps now (calls now (ToBody c (values_of parts)) (call_of args many next m0) (record m0 { frames = frames; inner = inner })) g n run
  goes_on_at {least = least} c closure parts own_is stands began le next frames inner answered after e reads =
      body_begins g code limits c closure parts own_is stands (call_of args many next m0) answered after r (record m0 { frames = frames; inner = inner }) ps h.lives h.ways n seen run reads (sym h.mirrors.tag) mirrors_here
      (subst (λ l. Began g h.lives h.ways (closure_branch g parts closure args many l r) n seen run) e began) le

  fails_here : {least : ℕ} → Failed g h.lives n seen run → least ≤ seen.meters.work → Comes least ps now (Fails m0) g n run
  fails_here {least = least} failed le = record { world = seen; at = record { lives = h.lives; choices = h.mirrors.choices_are; gathered = h.mirrors.gathered_is; lasting = h.mirrors.lasting_is; printed = h.mirrors.printed_is; failed = failed }; worked = le }

  -- what comes of the goal
  comes_here : After g h.lives h.ways n (outcome_of on r (ask_closure g (walk m.state.subst value) args many on r seen)) run
  comes_here = subst (λ S. After g h.lives h.ways n (outcome_of on r (ask_closure g (walk S value) args many on r seen)) run) h.mirrors.agrees.bound (comes code m ps on g n w run x f (outs-Query a b many) h)

  counted : {least : ℕ} → least ≤ w.meters.work + (1 + asking_work now a b m) → least ≤ seen.meters.work + query_work now Target-of args m.state.subst m.state.vars
  counted {least = least} le = let same = ap (λ S. links S value) h.mirrors.agrees.bound in omega (arith, le, same)

  pub query_on : {least : ℕ} → (next : ℕ) (goals : List Goal) (end : End) (rest : List Step) → Stands code (block_at code next) goals end → Behind g code m.frames rest → GathersAt g end (vars_of m.frames) m.inner → on ≡ steps_of m goals end rest → least ≤ w.meters.work + (1 + asking_work now a b m) →
      Comes least ps now (does now (op.Query a b many next) m') g n run
  query_on {least = least} next goals end rest s below valued e le =
      charge now [] k m' _ g n run
      (heap_full now m' ps k v g n run h.mirrors.printed_is (omega (arith, h.mirrors.agrees.heap)) (taken_grows code m ps on g n w run x f (outs-Query a b many) h))
      (value_asked g code limits args many on r m0 ps h.lives h.ways n seen run (λ t. queries now t args many next m0) fails_here
      (λ c closure parts own_is stands began few. goes_on_at c closure parts own_is stands began few next m.frames m.inner [] on refl (record { goals = goals; end = end; rest = rest; stands = s; below = below; gathers = valued; is = e }))
      codes.bodies (walk m.state.subst value) comes_here (counted le))

  pub last_query_on : {least : ℕ} → Behind g code m.frames on → least ≤ w.meters.work + (1 + asking_work now a b m) → Comes least ps now (does now (op.LastQuery a b many) m') g n run
  last_query_on {least = least} below le =
      charge now [] k m' _ g n run
      (heap_full now m' ps k v g n run h.mirrors.printed_is (omega (arith, h.mirrors.agrees.heap)) (taken_grows code m ps on g n w run x f (outs-Query a b many) h))
      (value_asked g code limits args many on r m0 ps h.lives h.ways n seen run (λ t. queries_last now t args many m0) fails_here
      (λ c closure parts own_is stands began few. last_from code now (ToBody c (values_of parts)) args many m0 ps on g n run (goes_on_at c closure parts own_is stands began few)
      (subst (λ l. Reads g code l m.frames [] on) (sym codes.answers) (record { goals = []; end = Returns; rest = on; stands = returns []; below = below; gathers = tt; is = refl })) m.frames below)
      codes.bodies (walk m.state.subst value) comes_here (counted le))
