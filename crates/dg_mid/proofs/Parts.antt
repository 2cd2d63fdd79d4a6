-- Stoppable parts and gatherings.
use Rattle.std.specs.Prelude.{◌-◌}
use Rattle.std.proofs.Common.{◌≡◌, ℕ, suc, ◌+◌, ◌≤◌, List, [], ◌∷◌, ◌++◌, Some, Option, None, refl, sym, ap, ◌∙◌, subst, arith, length, map}
use Rattle.dg_base.specs.declared.program.Goal.{Goal, Goal-F, out-Goal}
use Rattle.dg_base.specs.Goals.{terms_held}
use Rattle.dg_base.specs.declared.program.Goal.TheVariants as goal
use Rattle.dg_base.specs.declared.program.Goal.TheVariants.{outs-Stoppable, outs-Collect, outs-Accumulate}
use Rattle.dg_base.specs.declared.program.Goal.TheOpen as form
use Rattle.dg_base.specs.declared.program.Term.{Term}
use Rattle.dg_base.specs.declared.run.Limits.{Limits}
use Rattle.dg_meaning.specs.Values.{Value, value_of}
use Rattle.dg_meaning.specs.World.{Game, World, Gathering, Event, Print, Prints, prints, gathered_size, gathered_at, opened, dropped, gathered_without}
use Rattle.dg_meaning.specs.Cells.{cells, writing}
use Rattle.dg_meaning.specs.Path.{Step, Do, Keep, Leave, Registers, TakeOut, Plain, Whole, AsList, AsSum}
use Rattle.dg_meaning.specs.Moves.{begun, path_of, goals_at, enter, inside, outcome_of, effect, move_of, gives_number, gathers as gathering_of, takes_out as takes_out_act}
use Rattle.dg_meaning.specs.Transcript.{Run}
use Rattle.dg_meaning.specs.inside.Context.{Way as WayOn, Live, IsNewest, tags_of}
use Rattle.dg_meaning.specs.inside.Keeps.{Tried, After, Went}
use Rattle.dg_meaning.specs.inside.OneRun.{Grows}
use Rattle.dg_meaning.proofs.Keeps.{stands_happened}
use Rattle.dg_meaning.proofs.OneRun.{begun_grows}
use Rattle.dg_meaning.specs.Numbers.{total}
use Rattle.dg_mid.specs.declared.code.Op.{Op}
use Rattle.dg_mid.specs.declared.code.Op.TheVariants as op
use Rattle.dg_mid.specs.declared.code.Gathered.{Gathered}
use Rattle.dg_mid.specs.declared.code.Gathered.TheVariants as gathered
use Rattle.dg_mid.specs.declared.code.Code.{Code}
use Rattle.dg_mid.specs.Code.{block_at}
use Rattle.dg_mid.specs.State.{Lasting, Goes, Mid, Runs, vars_of, cut_of, Takes}
use Rattle.dg_mid.specs.Step.{Setting, setting, does, more, charged, passed, shielded, new_stop, gathers, gathering, taken_out, done, said_to, followed, takes, takes_newest}
use Rattle.dg_mid.specs.Actions.{whole_of, registers_of, world_of, world_by, said_by}
use Rattle.dg_mid.specs.Units.{taking, taking_newest}
use Rattle.dg_mid.specs.Codes.{End, Stands, Leaves, Keeps}
use Rattle.dg_mid.specs.Reads.{Behind, WayIs, TakesAt, IsStop, Mirrors, Comes, GathersAt, TakesNewest}
use Rattle.dg_mid.proofs.Newest.{has_newest, at_newest, without_newest}
use Rattle.dg_mid.proofs.Here.{Here, steps_of}
use Rattle.dg_mid.proofs.Marks.{goes_on, below_next}
use Rattle.dg_mid.proofs.Taking.{behind, taken_in, comes, charge, heap_full, gather_on, began_grows}
use Rattle.dg_mid.proofs.Choices.{choice_mirrors, inside_is, mirrors_behind}
use Rattle.dg_mid.proofs.Backs.{tried_plainly}
use Rattle.dg_mid.proofs.Alike.{Alike, regs, world_with, takes_alike}
use Rattle.dg_mid.proofs.Acts.{registers_are, world_is, nothing_counted, nothing_first, act_works, act_on}

module _ (code : Code) (limits : Limits) (m : Mid) (ops : List Op) (goals : List Goal) (end : End) (rest : List Step) (g : Game) (n : ℕ) (w : World) (run : Run) (below : Behind g code m.frames rest) (valued : GathersAt g end (vars_of m.frames) m.inner) where
  abbrev set : Setting
  set = setting g code limits

  abbrev steps : List Step
  steps = steps_of m goals end rest

  abbrev vars : List Value
  vars = vars_of m.frames

  abbrev tag : ℕ
  tag = (cut_of m.frames).tag

  abbrev m' : Mid
  m' = record m { ops = ops }

  way_behind : (others : List Op) (q : Registers) → Stands code others goals end → WayIs g code others m.frames m.inner q 0 (path_of steps (inside 0 q))
  way_behind others q s = record { reads = record { goals = goals; end = end; rest = rest; stands = s; below = below; gathers = valued; is = refl }; registers = refl }

  pub shields : {least : ℕ} → {ps : List Print} → (alt : ℕ) (inner : List Goal) → Stands code ops inner (Leaves goals end) → Stands code (block_at code alt) goals end → Here code m ps (Do (goal.Stoppable inner) vars tag ∷ steps) g (suc n) w run → least ≤ w.meters.work + 1 → Comes least ps set (does set (op.Shield alt) m') g n run
  shields {least = least} {ps = ps} alt inner s other h le =
      let x = goal.Stoppable inner in
      let f = form.Stoppable inner in
      let q = behind code m ps steps g n w run x f (outs-Stoppable inner) h in
      let v = taken_in code m ps steps g n w run x f (outs-Stoppable inner) h in
      let on = goals_at vars tag inner ++ Leave q.next_tag q.stoppable ∷ steps in
      let q' : Registers = record (inside 10 q) { stoppable = Some q.next_tag } in
      let u = begun q' 0 v in
      let st = comes code m ps steps g n w run x f (outs-Stoppable inner) h in
      let i = mirrors_behind code limits m ops goals end rest g n w run below valued ps h.registers h.lives h.ways v h.mirrors refl refl h.mirrors.printed_is in
      let way = way_behind (block_at code alt) q other in
      let c : Live = record { kind = Plain; tag = q.next_tag; others = enter 0 0 q steps ∷ []; height = length v.gathered; ways_on = h.ways } in
      let on_way : WayOn = record { tag = q.next_tag; others = enter 0 0 q steps ∷ []; height = length v.gathered } in
      let part : IsStop g code (new_stop alt m') on_way = record {
        registers = q;
        path = path_of steps (inside 0 q);
        work = 0;
        agrees = record { bound = i.agrees.bound; vars = i.agrees.vars; heap = i.agrees.heap; trail = i.agrees.trail; since = omega arith };
        tag_at = i.tag;
        stop_at = i.stop_is;
        tag = i.tag;
        others = refl;
        way_is = way;
        height = ap length i.gathered_is;
      } in
      charge set [] 10 m' (Runs (shielded alt m')) g n run
      (heap_full set m' ps 10 u g n run i.printed_is (omega (arith, i.agrees.heap)) (stands_happened g _ _ _ n u run st))
      (goes_on set (shielded alt m') on [] g n u run
      (record { goals = inner; end = Leaves goals end; rest = rest; stands = s; below = below; gathers = valued; is = ap (λ k. goals_at vars tag inner ++ Leave k q.stoppable ∷ steps) i.tag ∙ ap (λ k. goals_at vars tag inner ++ Leave m.next_tag k ∷ steps) i.stop_is })
      (record {
        lives = c ∷ h.lives;
        ways = on_way ∷ h.ways;
        registers = q';
        mirrors = choice_mirrors g code m' ps q q' h.lives h.ways (on_way ∷ h.ways) v u (Goes alt) 0 c (new_stop alt m' ∷ m.stops) (Some m.next_tag) i refl refl i.printed_is (record { bound = refl; vars = refl; heap = omega arith; trail = omega arith; tag = refl })
            (part, i.stops_are) (ap Some i.tag) i.stops_are (ap length i.gathered_is) refl (refl, way);
        stands = st;
      }) (omega (arith, le)))

  -- a gathering opens
  gathers_so : {least : ℕ} → {ps : List Print} → (whole : Gathered) (x : Goal) (f : Goal-F Goal) (is : out-Goal x ≡ f) (term into : Term) (alt : ℕ) (inner : List Goal) (others : List Op) → terms_held f ≡ term ∷ into ∷ [] →
      ((q : Registers) (v : World) → effect g f vars tag steps q v ≡ gathering_of g (whole_of whole) term inner into vars tag steps q v) →
      Stands code ops inner (Keeps term) → block_at code alt ≡ op.TakeOut whole into ∷ others → Stands code others goals end → Here code m ps (Do x vars tag ∷ steps) g (suc n) w run →
      least ≤ w.meters.work + (1 + writing (term ∷ into ∷ [])) → Comes least ps set (does set (op.Collect term into alt) m') g n run
  gathers_so {least = least} {ps = ps} whole x f is term into alt inner others held offers s block other h le =
      let i = h.mirrors in
      let q = behind code m ps steps g n w run x f is h in
      let v = taken_in code m ps steps g n w run x f is h in
      let k = cells g.program (term ∷ into ∷ []) in
      let taken : cells g.program (terms_held f) ≡ k = ap (cells g.program) held in
      let written : writing (terms_held f) ≡ writing (term ∷ into ∷ []) = ap writing held in
      let m1 = more k m' in
      let new : Gathering = record { tag = m.next_tag; values = [] } in
      let m2 : Mid = record m1 { gathered = new ∷ m.gathered } in
      let on = goals_at vars tag inner ++ Keep q.next_tag term vars ∷ [] in
      let o = opened q.next_tag v in
      let u = begun (inside 10 q) 0 o in
      let st = subst (λ e. After g h.lives h.ways n (outcome_of steps q e) run) (offers q v) (comes code m ps steps g n w run x f is h) in
      let happened = stands_happened g _ _ _ n u run st in
      let gathered : o.gathered ≡ new ∷ m.gathered = ap (λ t. record { tag = t; values = [] } ∷ v.gathered) i.tag ∙ ap (λ l. new ∷ l) i.gathered_is in
      let here : Mirrors g code m2 ps q h.lives h.ways o = record {
        agrees = record { bound = i.agrees.bound; vars = i.agrees.vars; heap = omega (arith, i.agrees.heap, taken); trail = i.agrees.trail; since = i.agrees.since };
        tag = i.tag;
        choices_are = i.choices_are;
        below = i.below;
        stops_are = i.stops_are;
        stop_is = i.stop_is;
        gathered_is = gathered;
        lasting_is = i.lasting_is;
        printed_is = i.printed_is;
      } in
      let value = value_of g.program vars in
      let out = TakeOut q.next_tag (whole_of whole) (value into) (path_of steps (inside 0 q)) in
      let c : Live = record { kind = Plain; tag = q.next_tag; others = out ∷ []; height = length o.gathered - 1; ways_on = h.ways } in
      charge set [] k m' (charged set 10 m1 (gathers set (new ∷ m.gathered) (Runs (gathering (value term) (value into) alt m1)))) g n run
      (heap_full set m' ps k u g n run i.printed_is (omega (arith, i.agrees.heap, taken)) happened)
      (charge set [] 10 m1 (gathers set (new ∷ m.gathered) (Runs (gathering (value term) (value into) alt m1))) g n run
      (heap_full set m1 ps 10 u g n run i.printed_is (omega (arith, i.agrees.heap, taken)) happened)
      (gather_on set ps (new ∷ m.gathered) (Runs (gathering (value term) (value into) alt m1)) u g n run i.printed_is (let a = ap gathered_size gathered in omega (arith, a)) happened
      (goes_on set (gathering (value term) (value into) alt m1) on [] g n u run
      (record { goals = inner; end = Keeps term; rest = rest; stands = s; below = below; gathers = refl; is = ap (λ t. goals_at vars tag inner ++ Keep t term vars ∷ []) i.tag })
      (record {
        lives = c ∷ h.lives;
        ways = h.ways;
        registers = inside 10 q;
        mirrors = choice_mirrors g code m2 ps q (inside 10 q) h.lives h.ways h.ways o u (Takes alt (value into)) 0 c m.stops m.stop here refl refl i.printed_is (inside_is q (inside 10 q) 10 refl) i.stops_are i.stop_is i.stops_are
            (let l = ap length gathered in omega (arith, l)) refl (refl, record { path = path_of steps (inside 0 q); ops = others; whole = whole; term = into; others_are = refl; block = block; way = way_behind others q other });
        stands = st;
      }) (omega (arith, le, written)))))

  pub collects : {least : ℕ} → {ps : List Print} → (term into : Term) (alt : ℕ) (inner : List Goal) (others : List Op) → Stands code ops inner (Keeps term) → block_at code alt ≡ op.TakeOut gathered.List into ∷ others → Stands code others goals end → Here code m ps (Do (goal.Collect term inner into) vars tag ∷ steps) g (suc n) w run →
      least ≤ w.meters.work + (1 + writing (term ∷ into ∷ [])) → Comes least ps set (does set (op.Collect term into alt) m') g n run
  collects {least = least} {ps = ps} term into alt inner others s block other h le = gathers_so gathered.List (goal.Collect term inner into) (form.Collect term inner into) (outs-Collect term inner into) term into alt inner others refl (λ q v. refl) s block other h le

  pub accumulates : {least : ℕ} → {ps : List Print} → (term into : Term) (alt : ℕ) (inner : List Goal) (others : List Op) → Stands code ops inner (Keeps term) → block_at code alt ≡ op.TakeOut gathered.Sum into ∷ others → Stands code others goals end → Here code m ps (Do (goal.Accumulate term inner into) vars tag ∷ steps) g (suc n) w run →
      least ≤ w.meters.work + (1 + writing (term ∷ into ∷ [])) → Comes least ps set (does set (op.Collect term into alt) m') g n run
  accumulates {least = least} {ps = ps} term into alt inner others s block other h le = gathers_so gathered.Sum (goal.Accumulate term inner into) (form.Accumulate term inner into) (outs-Accumulate term inner into) term into alt inner others refl (λ q v. refl) s block other h le

number_says : (o : Option ℕ) (into : Value) (r : Registers) (w : World) → said_by (gives_number o into r w) ≡ prints w.events
number_says None into r w = refl
number_says (Some n) into r w = refl

taken_says : (whole : Whole) (into : Value) (vs : List Value) (r : Registers) (w : World) → said_by (takes_out_act whole into vs r w) ≡ prints w.events
taken_says AsList into vs r w = refl
taken_says AsSum into vs r w = number_says (total vs) into r (begun r (length vs) w)

number_grows : (o : Option ℕ) (into : Value) (r : Registers) (w v : World) → Grows w v → Grows w (world_by (gives_number o into r v))
number_grows None into r w v h = h
number_grows (Some n) into r w v h = h

takes_grow : (whole : Whole) (into : Value) (vs : List Value) (r : Registers) (w : World) → Grows w (world_by (takes_out_act whole into vs r w))
takes_grow AsList into vs r w = begun_grows r _ w
takes_grow AsSum into vs r w = number_grows (total vs) into r w (begun r (length vs) w) (begun_grows r (length vs) w)

-- a gathering is taken out
pub takes_out : {least : ℕ} → {ps : List Print} → (code : Code) (limits : Limits) (b : ℕ) (into : Value) (m : Mid) (c : Live) (lives : List Live) (q : Registers) (g : Game) (n : ℕ) (w : World) (run : Run) → Mirrors g code m ps q lives c.ways_on w → c.kind ≡ Plain → Tried g c.kind c.tag c.height c.ways_on lives c.others n w run →
    TakesAt g code b into m.frames m.inner q c.others → TakesNewest c.others m.gathered → least ≤ w.meters.work + taking ps into (block_at code b) m → Comes least ps (setting g code limits) (takes (setting g code limits) into (block_at code b) m) g n run
takes_out {least = least} {ps = ps} code limits b into m c lives q g n w run i kind tried t newest le =
    let set = setting g code limits in
    let o = has_newest m.next_tag m.gathered (subst (λ k. IsNewest k (tags_of m.gathered)) i.tag (subst (λ bs. TakesNewest bs m.gathered) t.others_are newest)) in
    let d = dropped q.next_tag w in
    let m1 : Mid = passed (record m { ops = t.ops; gathered = o.others }) in
    let vs = o.first.values in
    let whole = whole_of t.whole in
    let there : d.gathered ≡ m1.gathered = ap (λ k. gathered_without k w.gathered) i.tag ∙ ap (gathered_without m.next_tag) (i.gathered_is ∙ o.is) ∙ without_newest m.next_tag o.first o.others o.tag in
    let values : gathered_at q.next_tag w.gathered ≡ vs = ap (λ k. gathered_at k w.gathered) i.tag ∙ ap (gathered_at m.next_tag) (i.gathered_is ∙ o.is) ∙ at_newest m.next_tag o.first o.others o.tag in
    let r = t.path.registers in
    let on = inside_is q r 0 t.way.registers in
    let q0 = regs m1.next_tag m1.stop m1.state.subst m1.state.vars r.heap r.trail in
    let v0 = world_with d.events m1.gathered d.meters m1.lasting.typed m1.lasting.dice m1.lasting.facts m1.lasting.sites in
    let st = tried_plainly g c lives (TakeOut q.next_tag whole into t.path ∷ []) n w run kind t.others_are tried in
    let went = subst (λ v. Went g lives c.ways_on n (move_of t.path.steps q0 (takes_out_act whole into vs q0 v)) run) (world_is d m1.gathered m1.lasting there i.lasting_is)
    (subst (λ x. Went g lives c.ways_on n (move_of t.path.steps x (takes_out_act whole into vs x d)) run) (registers_are r m1.next_tag m1.stop m1.state.subst m1.state.vars (on.tag ∙ ap (λ k. k + 1) i.tag) (ap (λ (x : Registers). x.stoppable) t.way.registers ∙ i.stop_is) (on.bound ∙ i.agrees.bound) (on.vars ∙ i.agrees.vars))
    (subst (λ l. Went g lives c.ways_on n (move_of t.path.steps r (takes_out_act whole into l r d)) run) values st)) in
    let grown = began_grows g lives c.ways_on (TakeOut q.next_tag whole into t.path) n w run st in
    let happened : Grows v0 run.world = subst (λ (o : Lasting). Grows (world_with w.events m1.gathered w.meters o.typed o.dice o.facts o.sites) run.world) i.lasting_is (record { events = grown.events; meters = grown.meters; typed = grown.typed; dice = grown.dice }) in
    let alike : (es' : List Event) (steps : List Step) → Alike q0 (registers_of m1) (cut_of m.frames).tag steps v0 (world_with es' m1.gathered nothing_counted m1.lasting.typed m1.lasting.dice m1.lasting.facts m1.lasting.sites) (takes_out_act whole into vs q0 v0) (takes_out_act whole into vs (registers_of m1) (world_with es' m1.gathered nothing_counted m1.lasting.typed m1.lasting.dice m1.lasting.facts m1.lasting.sites)) =
    λ es' steps. takes_alike m1.next_tag m1.stop m1.state.subst m1.state.vars r.heap r.trail m1.state.heap m1.state.trail d.events es' m1.gathered d.meters nothing_counted m1.lasting.typed m1.lasting.dice m1.lasting.facts m1.lasting.sites (cut_of m.frames).tag steps whole into vs in
    let work = act_works q0 (registers_of m1) (cut_of m.frames).tag t.path.steps v0 (world_of ps m1) _ _ refl (i.printed_is ∙ sym (nothing_first ps)) (alike (map Prints ps) t.path.steps) in
    let silent = taken_says whole into vs (registers_of m1) (world_of [] m1) in
    subst (λ l. Comes least ps set (takes set into l m) g n run) (sym t.block)
    (subst (λ gs. Comes least ps set (takes_newest set t.whole into gs (record m { ops = t.ops })) g n run) (sym o.is)
    (subst (λ l. Comes least (followed ps (said_to l (done set (taken_out [] t.whole into vs m1) m1))) set (done set (taken_out [] t.whole into vs m1) m1) g n run) silent
    (act_on code limits m1 t.way.reads.goals t.way.reads.end t.way.reads.rest g n run t.way.reads.stands t.way.reads.below t.way.reads.gathers ps q0 lives c.ways_on v0 (takes_out_act whole into vs q0 v0) (taken_out [] t.whole into vs m1) (alike [] (steps_of m1 t.way.reads.goals t.way.reads.end t.way.reads.rest))
    (record {
      agrees = record { bound = refl; vars = refl; heap = let x = on.heap in let y = i.agrees.heap in omega (arith, x, y); trail = let x = on.trail in let y = i.agrees.trail in omega (arith, x, y); since = i.agrees.since };
      tag = refl;
      choices_are = i.choices_are;
      below = below_next m.next_tag m.choices i.below;
      stops_are = i.stops_are;
      stop_is = refl;
      gathered_is = refl;
      lasting_is = refl;
      printed_is = i.printed_is;
    })
    (takes_grow whole into vs q0 v0) happened (subst (λ l. Went g lives c.ways_on n (move_of l q0 (takes_out_act whole into vs q0 v0)) run) t.way.reads.is went) (let z = ap (λ l. taking ps into l m) t.block ∙ ap (λ gs. taking_newest ps t.whole into gs (record m { ops = t.ops })) o.is in omega (arith, le, z, work)))))
