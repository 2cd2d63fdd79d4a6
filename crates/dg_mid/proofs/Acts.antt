-- What is done at once.
use Rattle.std.specs.Prelude.{◌-◌, map}
use Rattle.std.proofs.Common.{◌≡◌, ℕ, suc, ◌+◌, List, [], ◌∷◌, ◌++◌, Bool, true, false, Option, refl, ap, ◌∙◌, subst, arith, length, ◌≤◌, sym}
use Rattle.dg_base.specs.declared.program.Goal.{Goal, out-Goal}
use Rattle.dg_base.specs.declared.program.Goal.TheVariants.{outs-Text, outs-Print, outs-Gap, outs-GapN, outs-Equal, outs-Test, outs-Now, outs-Arith, outs-Compare, outs-Random, outs-Input, outs-SplitWord, outs-JoinWords, outs-Just, outs-Fail, outs-Stop, outs-Quit}
use Rattle.dg_base.specs.declared.run.Limits.{Limits}
use Rattle.dg_base.specs.declared.run.Ending.TheVariants as ending
use Rattle.dg_meaning.specs.Substitutions.{Substitution}
use Rattle.dg_meaning.specs.Unify.{Unified, Equations, solve}
use Rattle.dg_meaning.specs.World.{Game, World, Gathering, Meters, Event, Print, Prints, prints}
use Rattle.dg_meaning.specs.Cells.{cells}
use Rattle.dg_meaning.specs.Path.{Step, Do, Registers, Act, Goes, Tests, Unifies, Ends, Fails as FailsNow, Stops, Effect, Acts, FailsAt as MoveFails, End as EndsSo}
use Rattle.dg_meaning.specs.Moves.{begun, stop, goes_on_if, bound_by, made_since, unified, unifying, move_of, outcome_of, effect}
use Rattle.dg_meaning.specs.Transcript.{Run}
use Rattle.dg_meaning.specs.inside.OneRun.{Grows}
use Rattle.dg_meaning.specs.inside.Context.{Way as WayOn, Live}
use Rattle.dg_meaning.specs.inside.Keeps.{Went, After, world_at}
use Rattle.dg_meaning.proofs.OneRun.{grows_on, begun_grows}
use Rattle.dg_meaning.proofs.Stays.{world_in, EffectStays, effect_stays}
use Rattle.dg_mid.specs.declared.code.Op.{Op}
use Rattle.dg_mid.specs.declared.code.Op.TheVariants as op
use Rattle.dg_mid.specs.declared.code.Action.{Action}
use Rattle.dg_mid.specs.declared.code.Action.TheVariants as action
use Rattle.dg_mid.specs.declared.code.Code.{Code}
use Rattle.dg_mid.specs.State.{Lasting, Mid, Runs, Fails, vars_of, cut_of}
use Rattle.dg_mid.specs.Actions.{form_of, goal_of, terms_of, registers_of, world_of, act_in, act_at, world_by, said_by, lasting_in}
use Rattle.dg_mid.specs.Step.{Setting, setting, does, done, made_in, more, bound, unified as unified_here, if_agreed, if_passed, cut_to, said_to, followed}
use Rattle.dg_mid.specs.Units.{effort, act_work}
use Rattle.dg_mid.specs.Codes.{End, Stands}
use Rattle.dg_mid.specs.Reads.{Behind, lasting_of, Mirrors, Comes, GathersAt}
use Rattle.dg_mid.proofs.Here.{Here, steps_of, followed_is}
use Rattle.dg_mid.proofs.Marks.{goes_on, cuts, ends_here}
use Rattle.dg_mid.proofs.Taking.{behind, taken_in, comes, taken_grows, charge, heap_full, keep_on, trail_within, went_grows, unify_on}
use Rattle.dg_mid.proofs.Stops.{stops_with}
use Rattle.dg_mid.proofs.Alike.{Did, MadeAlike, Alike, goes, cuts as cuts_rule, tests, unifies, quits, lacks_input, fails, stops, AlikeEffects, alike, regs, world_with, action_alike}

-- ## Registers and worlds

pub registers_are : (q : Registers) (n : ℕ) (s : Option ℕ) (S : Substitution) (x : ℕ) → q.next_tag ≡ n → q.stoppable ≡ s → q.bound ≡ S → q.next_var ≡ x → q ≡ regs n s S x q.heap q.trail
registers_are q n s S x a b c d =
    ap (λ k. regs k q.stoppable q.bound q.next_var q.heap q.trail) a ∙ ap (λ k. regs n k q.bound q.next_var q.heap q.trail) b ∙ ap (λ k. regs n s k q.next_var q.heap q.trail) c ∙ ap (λ k. regs n s S k q.heap q.trail) d

pub world_is : (v : World) (gs : List Gathering) (o : Lasting) → v.gathered ≡ gs → lasting_of v ≡ o → v ≡ world_with v.events gs v.meters o.typed o.dice o.facts o.sites
world_is v gs o a b = ap (λ k. world_with v.events k v.meters v.typed v.dice v.facts v.sites) a ∙ ap (λ (k : Lasting). world_with v.events gs v.meters k.typed k.dice k.facts k.sites) b

abbrev pub nothing_counted : Meters
nothing_counted = record { heap = 0; trail = 0; aux = 0; keep = 0; work = 0 }

pub nothing_first : (ps : List Print) → prints (map Prints ps) ≡ ps
nothing_first [] = refl
nothing_first (p ∷ ps) = ap (λ l. p ∷ l) (nothing_first ps)

-- ## Acts

pub outs : (a : Action) → out-Goal (goal_of a) ≡ form_of a
outs (action.Text name) = outs-Text name
outs (action.Print t) = outs-Print t
outs (action.Gap kind) = outs-Gap kind
outs (action.GapN t) = outs-GapN t
outs (action.Equal a b) = outs-Equal a b
outs (action.Test kind t) = outs-Test kind t
outs (action.Now place args sets) = outs-Now place args sets
outs (action.Arith f a b c) = outs-Arith f a b c
outs (action.Compare f a b) = outs-Compare f a b
outs (action.Random a b c) = outs-Random a b c
outs (action.Input t) = outs-Input t
outs (action.SplitWord a b) = outs-SplitWord a b
outs (action.JoinWords a b) = outs-JoinWords a b
outs action.Just = outs-Just
outs action.Fail = outs-Fail
outs action.Stop = outs-Stop
outs action.Quit = outs-Quit

-- ## What an act leads to

after_test : (b : Bool) (steps : List Step) (r : Registers) (w : World) → world_at (goes_on_if b steps r w) ≡ w
after_test true steps r w = refl
after_test false steps r w = refl

said_runs : (qs : List Print) (m : Mid) → said_to qs (Runs m) ≡ qs
said_runs [] m = refl
said_runs (q ∷ qs) m = refl

said_fails : (qs : List Print) (m : Mid) → said_to qs (Fails m) ≡ qs
said_fails [] m = refl
said_fails (q ∷ qs) m = refl

-- a machine is where an act has led
module _ (set : Setting) (m : Mid) (goals : List Goal) (end : End) (rest : List Step) (g : Game) (n : ℕ) (run : Run) (stands : Stands set.code m.ops goals end) (below : Behind g set.code m.frames rest) (valued : GathersAt g end (vars_of m.frames) m.inner) where
  goes_so : {least : ℕ} → (ps qs : List Print) (q : Registers) (lives : List Live) (ways : List WayOn) (u : World) → Mirrors g set.code m (ps ++ qs) q lives ways u → Went g lives ways n (move_of (steps_of m goals end rest) q (Goes (steps_of m goals end rest) u)) run → least ≤ u.meters.work → Comes least (followed ps (said_to qs (Runs m))) set (Runs m) g n run
  goes_so {least = least} ps qs q lives ways u i st le =
      subst (λ l. Comes least l set (Runs m) g n run) (sym (ap (followed ps) (said_runs qs m) ∙ followed_is ps qs))
      (goes_on set m (steps_of m goals end rest) [] g n u run (record { goals = goals; end = end; rest = rest; stands = stands; below = below; gathers = valued; is = refl })
      (record { lives = lives; ways = ways; registers = q; mirrors = i; stands = st }) le)

  fails_so : {least : ℕ} → (ps qs : List Print) (q : Registers) (lives : List Live) (ways : List WayOn) (u : World) → Mirrors g set.code m (ps ++ qs) q lives ways u → Went g lives ways n (MoveFails u) run → least ≤ u.meters.work → Comes least (followed ps (said_to qs (Fails m))) set (Fails m) g n run
  fails_so {least = least} ps qs q lives ways u i f le =
      subst (λ l. Comes least l set (Fails m) g n run) (sym (ap (followed ps) (said_fails qs m) ∙ followed_is ps qs))
      (record { world = u; at = record { lives = lives; choices = i.choices_are; gathered = i.gathered_is; lasting = i.lasting_is; printed = i.printed_is; failed = f }; worked = le })

  tests_so : {least : ℕ} → (b : Bool) (ps qs : List Print) (q : Registers) (lives : List Live) (ways : List WayOn) (u : World) → Mirrors g set.code m (ps ++ qs) q lives ways u → Went g lives ways n (goes_on_if b (steps_of m goals end rest) q u) run → least ≤ u.meters.work → Comes least (followed ps (said_to qs (if_passed b m))) set (if_passed b m) g n run
  tests_so {least = least} true ps qs q lives ways u i st le = goes_so ps qs q lives ways u i st le
  tests_so {least = least} false ps qs q lives ways u i f le = fails_so ps qs q lives ways u i f le

module _ (set : Setting) (m : Mid) (goals : List Goal) (end : End) (rest : List Step) (g : Game) (n : ℕ) (run : Run) (stands : Stands set.code m.ops goals end) (below : Behind g set.code m.frames rest) (valued : GathersAt g end (vars_of m.frames) m.inner) where
  agreed_so : {least : ℕ} → (b : Bool) (u : Unified) (ps qs : List Print) (q : Registers) (lives : List Live) (ways : List WayOn) (v : World) → Mirrors g set.code (bound u m) (ps ++ qs) q lives ways v → Went g lives ways n (goes_on_if b (steps_of m goals end rest) q v) run → least ≤ v.meters.work →
      Comes least (followed ps (said_to qs (if_agreed b (bound u m) (Runs (bound u m))))) set (if_agreed b (bound u m) (Runs (bound u m))) g n run
  agreed_so {least = least} true u ps qs q lives ways v i st le = goes_so set (bound u m) goals end rest g n run stands below valued ps qs q lives ways v i st le
  agreed_so {least = least} false u ps qs q lives ways v i f le = fails_so set (bound u m) goals end rest g n run stands below valued ps qs q lives ways v i f le

  -- equations behind values that were made
  equations_so : {least : ℕ} → (es : Equations) (ps qs : List Print) (q : Registers) (lives : List Live) (ways : List WayOn) (v0 v : World) → prints v0.events ≡ ps → Grows v0 v → Mirrors g set.code m (ps ++ qs) q lives ways v → Went g lives ways n (unified es (steps_of m goals end rest) q v) run → least ≤ v.meters.work + unifying m.state.subst es →
      Comes least (followed ps (said_to qs (unified_here set (solve m.state.subst es) m (Runs (bound (solve m.state.subst es) m))))) set (unified_here set (solve m.state.subst es) m (Runs (bound (solve m.state.subst es) m))) g n run
  equations_so {least = least} es ps qs q lives ways v0 v first grown i h le =
      let S = m.state.subst in
      let u = solve S es in
      let made = made_since S u.subst in
      let few = trail_within m.state.since made in
      let q' : Registers = bound_by u (length made) q in
      let v' : World = begun q' (unifying S es) v in
      let went : Went g lives ways n (goes_on_if u.agrees (steps_of m goals end rest) q' v') run = subst (λ T. Went g lives ways n (let t = solve T es in (let r = bound_by t (length (made_since T t.subst)) q in goes_on_if t.agrees (steps_of m goals end rest) r (begun r (unifying T es) v))) run) i.agrees.bound h in
      let grows : Grows v' run.world = subst (λ y. Grows y run.world) (after_test u.agrees (steps_of m goals end rest) q' v') (went_grows g lives ways n (goes_on_if u.agrees (steps_of m goals end rest) q' v') run went) in
      let before = grows_on v0 v run.world grown (grows_on v v' run.world (begun_grows q' (unifying S es) v) grows) in
      unify_on set qs u m (Runs (bound u m)) g n run
      (λ full. record { world = v0; at = record { passes = omega (arith, full, i.agrees.trail, few, grows.meters.trail); printed = first; happened = before }; grows = before })
      (agreed_so u.agrees u ps qs q' lives ways v'
      (record {
        agrees = record { bound = refl; vars = i.agrees.vars; heap = i.agrees.heap; trail = omega (arith, i.agrees.trail, few); since = i.agrees.since };
        tag = i.tag;
        choices_are = i.choices_are;
        below = i.below;
        stops_are = i.stops_are;
        stop_is = i.stop_is;
        gathered_is = i.gathered_is;
        lasting_is = i.lasting_is;
        printed_is = i.printed_is;
      })
      went (omega (arith, le)))

-- what a unification reaches has been reached in the run
pub unified_reaches : (g : Game) (es : Equations) (steps : List Step) (q : Registers) (lives : List Live) (ways : List WayOn) (n : ℕ) (v : World) (run : Run) → Went g lives ways n (unified es steps q v) run → (q.heap ≤ run.world.meters.heap) × Grows v run.world
unified_reaches g es steps q lives ways n v run h =
    let u = solve q.bound es in
    let q' : Registers = bound_by u (length (made_since q.bound u.subst)) q in
    let v' : World = begun q' (unifying q.bound es) v in
    let grows : Grows v' run.world = subst (λ y. Grows y run.world) (after_test u.agrees steps q' v') (went_grows g lives ways n (goes_on_if u.agrees steps q' v') run h) in
    let reached = grows.meters.heap in
    (omega (arith, reached), grows_on v v' run.world (begun_grows q' (unifying q.bound es) v) grows)

-- the machine behind what was done to what lasts
did_mirrors : (g : Game) (code : Code) (m : Mid) (ps : List Print) (q : Registers) (lives : List Live) (ways : List WayOn) (v v1 w1 : World) → Did v v1 (world_of [] m) w1 → Mirrors g code m ps q lives ways v → Mirrors g code (lasting_in w1 m) (ps ++ prints w1.events) q lives ways v1
did_mirrors g code m ps q lives ways v v1 w1 d i = record {
  agrees = i.agrees;
  tag = i.tag;
  choices_are = i.choices_are;
  below = i.below;
  stops_are = i.stops_are;
  stop_is = i.stop_is;
  gathered_is = d.gathered ∙ i.gathered_is;
  lasting_is = d.lasting;
  printed_is = d.said ∙ ap (λ l. l ++ d.new) i.printed_is ∙ ap (λ l. ps ++ l) (sym d.said_here);
}

-- what the search counts of an act, the machine counts
pub act_works : (q r : Registers) (t : ℕ) (steps : List Step) (v w : World) (a b : Act) → q.bound ≡ r.bound → prints v.events ≡ prints w.events → Alike q r t steps v w a b → act_work a + w.meters.work ≡ act_work b + v.meters.work
act_works q r t steps v w a b e h (goes v1 w1 d) = d.work h
act_works q r t steps v w a b e h cuts_rule = omega arith
act_works q r t steps v w a b e h (tests x v1 w1 d) = d.work h
act_works q r t steps v w a b e h (unifies made here es v1 w1 ma d) =
    let x = d.work h in let y = ap (λ S. unifying S es) (ma.bound ∙ e ∙ sym ma.here_bound) in omega (arith, x, y)
act_works q r t steps v w a b e h quits = omega arith
act_works q r t steps v w a b e h lacks_input = omega arith
act_works q r t steps v w a b e h (fails v1 w1 d) = d.work h
act_works q r t steps v w a b e h stops = omega arith

module _ (code : Code) (limits : Limits) (m : Mid) (goals : List Goal) (end : End) (rest : List Step) (g : Game) (n : ℕ) (run : Run) (stands : Stands code m.ops goals end) (below : Behind g code m.frames rest) (valued : GathersAt g end (vars_of m.frames) m.inner) where
  abbrev set : Setting
  set = setting g code limits

  made_so : {least : ℕ} → (es : Equations) (ps : List Print) (q made here : Registers) (lives : List Live) (ways : List WayOn) (v v1 w1 : World) → MadeAlike q (registers_of m) made here → Did v v1 (world_of [] m) w1 → Mirrors g code m ps q lives ways v → Grows v v1 → Went g lives ways n (unified es (steps_of m goals end rest) made v1) run →
      least ≤ v1.meters.work + unifying made.bound es → Comes least (followed ps (said_to (prints w1.events) (done set (Unifies here es w1) m))) set (done set (Unifies here es w1) m) g n run
  made_so {least = least} es ps q made here lives ways v v1 w1 ma d i grown h le =
      let m' = made_in here (lasting_in w1 m) in
      let qs = prints w1.events in
      let reached = unified_reaches g es (steps_of m goals end rest) made lives ways n v1 run h in
      let before = grows_on v v1 run.world grown reached.1 in
      let on = did_mirrors g code m ps q lives ways v v1 w1 d i in
      let bound_is : made.bound ≡ m.state.subst = ma.bound ∙ i.agrees.bound in
      let mirrors : Mirrors g code m' (ps ++ qs) made lives ways v1 = record {
        agrees = record { bound = bound_is; vars = ma.vars; heap = let x = ma.heap in let y = i.agrees.heap in let z = ma.higher in omega (arith, x, y, z); trail = let x = i.agrees.trail in omega (arith, x, ma.trail); since = let x = ma.older in let y = i.agrees.since in omega (arith, x, y) };
        tag = ma.tag ∙ i.tag;
        choices_are = i.choices_are;
        below = i.below;
        stops_are = i.stops_are;
        stop_is = ma.stop ∙ i.stop_is;
        gathered_is = on.gathered_is;
        lasting_is = on.lasting_is;
        printed_is = on.printed_is;
      } in
      charge set qs (here.heap - m.state.heap) m (unified_here set (solve here.bound es) m' (Runs (bound (solve here.bound es) m'))) g n run
      (λ full. record { world = v; at = record { passes = let x = ma.heap in let y = i.agrees.heap in let z = ma.higher in omega (arith, full, x, y, z, reached.0); printed = i.printed_is; happened = before }; grows = before })
      (subst (λ S. Comes least (followed ps (said_to qs (unified_here set (solve S es) m' (Runs (bound (solve S es) m'))))) set (unified_here set (solve S es) m' (Runs (bound (solve S es) m'))) g n run) (sym ma.here_bound)
      (equations_so set m' goals end rest g n run stands below valued es ps qs made lives ways v v1 i.printed_is grown mirrors h (let x = ap (λ S. unifying S es) bound_is in omega (arith, le, x))))

  pub act_on : {least : ℕ} → (ps : List Print) (q : Registers) (lives : List Live) (ways : List WayOn) (v : World) (a b : Act) → Alike q (registers_of m) (cut_of m.frames).tag (steps_of m goals end rest) v (world_of [] m) a b → Mirrors g code m ps q lives ways v → Grows v (world_by a) → Grows v run.world →
      Went g lives ways n (move_of (steps_of m goals end rest) q a) run → least ≤ act_work a → Comes least (followed ps (said_to (said_by b) (done set b m))) set (done set b m) g n run
  act_on {least = least} ps q lives ways v a b (goes v1 w1 d) i grown happened h le =
      keep_on set (prints w1.events) w1.meters.keep (Runs (lasting_in w1 m)) g n run
      (λ full. record { world = v; at = record { passes = let x = d.keep (omega arith) in let y = (went_grows g lives ways n (move_of (steps_of m goals end rest) q a) run h).meters.keep in omega (arith, full, x, y); printed = i.printed_is; happened = happened }; grows = happened })
      (goes_so set (lasting_in w1 m) goals end rest g n run stands below valued ps (prints w1.events) q lives ways v1 (did_mirrors g code m ps q lives ways v v1 w1 d i) h le)
  act_on {least = least} ps q lives ways v a b cuts_rule i grown happened h le =
      goes_on set (cut_to (cut_of m.frames) m) (steps_of m goals end rest) [] g n v run (record { goals = goals; end = end; rest = rest; stands = stands; below = below; gathers = valued; is = refl })
      (cuts code m ps (cut_of m.frames) (steps_of m goals end rest) g n v run (record { lives = lives; ways = ways; registers = q; mirrors = i; stands = h })) (omega (arith, le))
  act_on {least = least} ps q lives ways v a b (tests x v1 w1 d) i grown happened h le =
      tests_so set (lasting_in w1 m) goals end rest g n run stands below valued x ps (prints w1.events) q lives ways v1 (did_mirrors g code m ps q lives ways v v1 w1 d i) h le
  act_on {least = least} ps q lives ways v a b (unifies made here es v1 w1 ma d) i grown happened h le = made_so es ps q made here lives ways v v1 w1 ma d i grown h le
  act_on {least = least} ps q lives ways v a b quits i grown happened h le = ends_here set ending.Quit (EndsSo ending.Quit) g n v run refl (λ w x. x) i.printed_is h le
  act_on {least = least} ps q lives ways v a b lacks_input i grown happened h le = ends_here set ending.InputEnded (EndsSo ending.InputEnded) g n v run refl (λ w x. x) i.printed_is h le
  act_on {least = least} ps q lives ways v a b (fails v1 w1 d) i grown happened h le =
      fails_so set (lasting_in w1 m) goals end rest g n run stands below valued ps (prints w1.events) q lives ways v1 (did_mirrors g code m ps q lives ways v v1 w1 d i) h le
  act_on {least = least} ps q lives ways v a b stops i grown happened h le =
      stops_with set m ps g n v run q lives ways i m.stop (subst (λ t. Went g lives ways n (stop t v) run) i.stop_is h) le

-- ## The instruction

pub grows_in : (v : World) (a : Act) → Grows v (world_in a) → Grows v (world_by a)
grows_in v (Goes steps w) h = h
grows_in v (Tests b w) h = h
grows_in v (Unifies made es w) h = h
grows_in v (Ends e w) h = h
grows_in v (FailsNow w) h = h
grows_in v (Stops w) h = h

pub effects_act : (q r : Registers) (t : ℕ) (steps : List Step) (v w : World) (a b : Effect) → AlikeEffects q r t steps v w a b → (a ≡ Acts (act_in a)) × Alike q r t steps v w (act_in a) (act_in b)
effects_act q r t steps v w a b (alike x y h) = (refl, h)

pub acts : {least : ℕ} → {ps : List Print} → (code : Code) (limits : Limits) (m : Mid) (a : Action) (ops : List Op) (goals : List Goal) (end : End) (rest : List Step) (g : Game) (n : ℕ) (w : World) (run : Run) → Stands code ops goals end → Behind g code m.frames rest → GathersAt g end (vars_of m.frames) m.inner →
    Here code m ps (Do (goal_of a) (vars_of m.frames) (cut_of m.frames).tag ∷ steps_of m goals end rest) g (suc n) w run → least ≤ w.meters.work + (1 + effort (setting g code limits) ps (op.Do a) m) →
    Comes least (followed ps (said_to (said_by (act_at g [] a (more (cells g.program (terms_of a)) m))) (does (setting g code limits) (op.Do a) (record m { ops = ops })))) (setting g code limits) (does (setting g code limits) (op.Do a) (record m { ops = ops })) g n run
acts {least = least} {ps = ps} code limits m a ops goals end rest g n w run stands below valued h le =
    let set = setting g code limits in
    let i = h.mirrors in
    let env = vars_of m.frames in
    let t = (cut_of m.frames).tag in
    let steps = steps_of m goals end rest in
    let x = goal_of a in
    let f = form_of a in
    let k = cells g.program (terms_of a) in
    let m' : Mid = record m { ops = ops } in
    let m0 : Mid = more k m' in
    let q = behind code m ps steps g n w run x f (outs a) h in
    let v = taken_in code m ps steps g n w run x f (outs a) h in
    let q0 = regs m.next_tag m.stop m.state.subst m.state.vars q.heap q.trail in
    let v0 = world_with v.events m.gathered v.meters m.lasting.typed m.lasting.dice m.lasting.facts m.lasting.sites in
    let happened : Grows v0 run.world = subst (λ (y : World). Grows y run.world) (world_is v m.gathered m.lasting i.gathered_is i.lasting_is) (taken_grows code m ps steps g n w run x f (outs a) h) in
    let o = subst (λ y. After g h.lives h.ways n (outcome_of steps q0 (effect g f env t steps q0 y)) run) (world_is v m.gathered m.lasting i.gathered_is i.lasting_is)
    (subst (λ y. After g h.lives h.ways n (outcome_of steps y (effect g f env t steps y v)) run) (registers_are q m.next_tag m.stop m.state.subst m.state.vars i.tag i.stop_is i.agrees.bound i.agrees.vars) (comes code m ps steps g n w run x f (outs a) h)) in
    let same : (es' : List Event) → AlikeEffects q0 (registers_of m0) t steps v0 (world_with es' m.gathered nothing_counted m.lasting.typed m.lasting.dice m.lasting.facts m.lasting.sites) (effect g f env t steps q0 v0) (effect g f env t [] (registers_of m0) (world_with es' m.gathered nothing_counted m.lasting.typed m.lasting.dice m.lasting.facts m.lasting.sites)) =
    λ es'. action_alike m.next_tag m.stop m.state.subst m.state.vars q.heap q.trail m0.state.heap m0.state.trail v.events es' m.gathered v.meters nothing_counted m.lasting.typed m.lasting.dice m.lasting.facts m.lasting.sites t steps g a env in
    let here = effects_act q0 (registers_of m0) t steps v0 (world_of [] m0) _ _ (same []) in
    let counted = effects_act q0 (registers_of m0) t steps v0 (world_of ps m0) _ _ (same (map Prints ps)) in
    let work = act_works q0 (registers_of m0) t steps v0 (world_of ps m0) _ _ refl (i.printed_is ∙ sym (nothing_first ps)) counted.1 in
    charge set (said_by (act_at g [] a m0)) k m' (done set (act_at g [] a m0) m0) g n run
    (heap_full set m' ps k v0 g n run i.printed_is (omega (arith, i.agrees.heap)) happened)
    (act_on code limits m0 goals end rest g n run stands below valued ps q0 h.lives h.ways v0 (act_in (effect g f env t steps q0 v0)) (act_at g [] a m0) here.1
    (record {
      agrees = record { bound = refl; vars = refl; heap = omega (arith, i.agrees.heap); trail = i.agrees.trail; since = i.agrees.since };
      tag = refl;
      choices_are = i.choices_are;
      below = i.below;
      stops_are = i.stops_are;
      stop_is = refl;
      gathered_is = refl;
      lasting_is = refl;
      printed_is = i.printed_is;
    })
    (grows_in v0 (act_in (effect g f env t steps q0 v0)) (subst (EffectStays q0.next_tag v0) here.0 (effect_stays g f env t steps q0 v0)).grows) happened
    (subst (λ e. After g h.lives h.ways n (outcome_of steps q0 e) run) here.0 o)
    (omega (arith, le, work)))
