-- Goals that open a choice or an inner construct.
use Rattle.std.proofs.Common.{◌≡◌, ℕ, suc, ◌+◌, ◌≤◌, List, [], ◌∷◌, ◌++◌, Option, refl, sym, ap, ◌∙◌, subst, arith, length}
use Rattle.dg_base.specs.declared.program.Goal.{Goal}
use Rattle.dg_base.specs.declared.program.Goal.TheVariants as goal
use Rattle.dg_base.specs.declared.program.Goal.TheVariants.{outs-Either, outs-Once, outs-Not, outs-If, outs-Exhaust, outs-Forever}
use Rattle.dg_base.specs.declared.program.Goal.TheOpen as form
use Rattle.dg_base.specs.declared.run.Limits.{Limits}
use Rattle.dg_meaning.specs.Values.{Value}
use Rattle.dg_meaning.specs.World.{Game, World, Print, prints}
use Rattle.dg_meaning.specs.Path.{Step, Do, Cut, Refuse, Back, Registers, Branch, Enter, Clash, TakeOut, Finds, Plain}
use Rattle.dg_meaning.specs.Moves.{begun, path_of, goals_at, enter, inside, list_branches}
use Rattle.dg_meaning.specs.Transcript.{Run}
use Rattle.dg_meaning.specs.inside.Context.{Way as WayOn, Live}
use Rattle.dg_meaning.specs.inside.Keeps.{Stands as StandsIn, open_at}
use Rattle.dg_meaning.proofs.Keeps.{stands_happened}
use Rattle.dg_mid.specs.declared.code.Op.{Op}
use Rattle.dg_mid.specs.declared.code.Op.TheVariants as op
use Rattle.dg_mid.specs.declared.code.Code.{Code}
use Rattle.dg_mid.specs.Code.{block_at}
use Rattle.dg_mid.specs.State.{Place, Frame, Way, Goes, Stop, Mid, Runs, vars_of, cut_of, place_of}
use Rattle.dg_mid.specs.Step.{Setting, setting, does, more, charged, passed, within, new_choice, inside as inside_choice}
use Rattle.dg_mid.specs.Codes.{End, Stands, Others, last_list, more_lists, Commits, Refuses, Backs, forever}
use Rattle.dg_mid.specs.Reads.{Behind, Layer, kept, WayOf, GoesAt, AreStops, end_steps, lasting_of, Mirrors, Comes, GathersAt}
use Rattle.dg_mid.proofs.Here.{Here, steps_of}
use Rattle.dg_mid.proofs.Marks.{goes_on, below_next}
use Rattle.dg_mid.proofs.Taking.{behind, taken_in, comes, charge, heap_full}

-- ## A choice that opens

-- these registers are inside a choice of others, with so many cells
pub record IsInside (q r : Registers) (cells : ℕ) : Type 0 where
  pub bound : r.bound ≡ q.bound
  pub vars : r.next_var ≡ q.next_var
  pub heap : q.heap + cells ≤ r.heap
  pub trail : q.trail ≤ r.trail
  pub tag : r.next_tag ≡ q.next_tag + 1

pub inside_is : (q r : Registers) (cells : ℕ) → r ≡ inside cells q → IsInside q r cells
inside_is q r cells e = subst (λ (x : Registers). IsInside q x cells) (sym e) (record { bound = refl; vars = refl; heap = omega arith; trail = omega arith; tag = refl })

-- the machine inside a choice that has this way on
pub choice_mirrors : (g : Game) (code : Code) (m : Mid) (ps : List Print) (q r : Registers) (lives : List Live) (ways now_ways : List WayOn) (w v : World) (way : Way) (arguments : ℕ) (c : Live) (now_stops : List Stop) (now_stop : Option ℕ) →
    Mirrors g code m ps q lives ways w → v.gathered ≡ w.gathered → lasting_of v ≡ lasting_of w → prints v.events ≡ ps → IsInside q r (10 + arguments) → AreStops g code now_stops now_ways → r.stoppable ≡ now_stop →
    AreStops g code m.stops c.ways_on → open_at c.others c.height ≡ length m.gathered → c.tag ≡ q.next_tag → WayOf g code way m.frames m.inner m.state.subst q c.kind c.others →
    Mirrors g code (record (inside_choice way arguments m) { stops = now_stops; stop = now_stop }) ps r (c ∷ lives) now_ways v
choice_mirrors g code m ps q r lives ways now_ways w v way arguments c now_stops now_stop i same out printed on stops_are stop_is old height tag way_is = record {
  agrees = record { bound = on.bound ∙ i.agrees.bound; vars = on.vars ∙ i.agrees.vars; heap = omega (arith, i.agrees.heap, on.heap); trail = omega (arith, i.agrees.trail, on.trail); since = omega arith };
  tag = omega (arith, on.tag, i.tag);
  choices_are = kept (new_choice way m) m.choices c lives
      (record { registers = q; agrees = record { bound = i.agrees.bound; vars = i.agrees.vars; heap = i.agrees.heap; trail = i.agrees.trail; since = omega arith }; tag_at = i.tag; tag = tag ∙ i.tag; way = way_is; stops = old; stop_at = i.stop_is; height = height })
      i.below i.choices_are;
  below = omega arith;
  stops_are = stops_are;
  stop_is = stop_is;
  gathered_is = same ∙ i.gathered_is;
  lasting_is = out ∙ i.lasting_is;
  printed_is = printed;
}

-- the machine inside the next choice, which has no way on, with so many cells more
pub passed_mirrors : (g : Game) (code : Code) (m : Mid) (ps : List Print) (q r : Registers) (lives : List Live) (ways : List WayOn) (w v : World) (cells : ℕ) → Mirrors g code m ps q lives ways w → v.gathered ≡ w.gathered → lasting_of v ≡ lasting_of w → prints v.events ≡ ps → IsInside q r cells → r.stoppable ≡ m.stop →
    Mirrors g code (more cells (passed m)) ps r lives ways v
passed_mirrors g code m ps q r lives ways w v cells i same out printed on stop = record {
  agrees = record { bound = on.bound ∙ i.agrees.bound; vars = on.vars ∙ i.agrees.vars; heap = omega (arith, i.agrees.heap, on.heap); trail = omega (arith, i.agrees.trail, on.trail); since = i.agrees.since };
  tag = omega (arith, on.tag, i.tag);
  choices_are = i.choices_are;
  below = below_next m.next_tag m.choices i.below;
  stops_are = i.stops_are;
  stop_is = stop;
  gathered_is = same ∙ i.gathered_is;
  lasting_is = out ∙ i.lasting_is;
  printed_is = printed;
}

-- ## Steps

pub goals_append : (env : List Value) (t : ℕ) (xs ys : List Goal) (steps : List Step) → goals_at env t xs ++ (goals_at env t ys ++ steps) ≡ goals_at env t (xs ++ ys) ++ steps
goals_append env t [] ys steps = refl
goals_append env t (x ∷ xs) ys steps = ap (λ l. Do x env t ∷ l) (goals_append env t xs ys steps)

module _ (g : Game) (code : Code) (frames : List Frame) (inner : List Place) (rest : List Step) (end : End) (below : Behind g code frames rest) (valued : GathersAt g end (vars_of frames) inner) where
  abbrev env : List Value
  env = vars_of frames

  abbrev t : ℕ
  t = (cut_of frames).tag

  -- goals in front of others
  pub layered : (ops : List Op) (xs goals : List Goal) → Stands code ops (xs ++ goals) end → Layer (Behind g code frames) g code ops env t inner (goals_at env t xs ++ (goals_at env t goals ++ end_steps end env t inner rest))
  layered ops xs goals s = record { goals = xs ++ goals; end = end; rest = rest; stands = s; below = below; gathers = valued; is = goals_append env t xs goals (end_steps end env t inner rest) }

  -- the lists between (or) that are left
  pub lists_go : (q : Registers) (b : ℕ) (lists : List (List Goal)) (goals : List Goal) → Others code b lists goals end → GoesAt g code b frames inner q (list_branches env t (goals_at env t goals ++ end_steps end env t inner rest) q lists)
  lists_go q b lists goals (last_list b' list goals' end' s) = record { reads = layered (block_at code b) list goals s; registers = refl }
  lists_go q b lists goals (more_lists b' alt ops list second others goals' end' block s more) =
      record { alt = alt; ops = ops; block = block; way = record { reads = layered ops list goals s; registers = refl }; others = lists_go q alt (second ∷ others) goals more; some = omega arith }

-- branches that go on at a block take no gathering out
pub goes_open : (g : Game) (code : Code) (b : ℕ) (frames : List Frame) (inner : List Place) (q : Registers) (others : List Branch) (height : ℕ) → GoesAt g code b frames inner q others → open_at others height ≡ height
goes_open g code b frames inner q [] height goes = refl
goes_open g code b frames inner q (Enter path work ∷ os) height goes = refl
goes_open g code b frames inner q (Clash r work ∷ os) height goes = refl
goes_open g code b frames inner q (TakeOut t whole into path ∷ os) height goes = absurd goes
goes_open g code b frames inner q (Finds place o args path ∷ os) height goes = absurd goes

-- ## Goals

module _ (code : Code) (limits : Limits) (m : Mid) (ops : List Op) (goals : List Goal) (end : End) (rest : List Step) (g : Game) (n : ℕ) (w : World) (run : Run) (below : Behind g code m.frames rest) (valued : GathersAt g end (vars_of m.frames) m.inner) where
  abbrev set : Setting
  set = setting g code limits

  abbrev pub steps : List Step
  steps = steps_of m goals end rest

  abbrev vars : List Value
  vars = vars_of m.frames

  abbrev tag : ℕ
  tag = (cut_of m.frames).tag

  abbrev m' : Mid
  m' = record m { ops = ops }

  -- behind a goal without terms
  pub mirrors_behind : (ps : List Print) (q : Registers) (lives : List Live) (ways : List WayOn) (v : World) → Mirrors g code m ps q lives ways w → v.gathered ≡ w.gathered → lasting_of v ≡ lasting_of w → prints v.events ≡ ps → Mirrors g code m ps (record q { heap = q.heap + 0 }) lives ways v
  mirrors_behind ps q lives ways v i same out printed = record {
    agrees = record { bound = i.agrees.bound; vars = i.agrees.vars; heap = omega (arith, i.agrees.heap); trail = i.agrees.trail; since = i.agrees.since };
    tag = i.tag;
    choices_are = i.choices_are;
    below = i.below;
    stops_are = i.stops_are;
    stop_is = i.stop_is;
    gathered_is = same ∙ i.gathered_is;
    lasting_is = out ∙ i.lasting_is;
    printed_is = printed;
  }

  -- a choice opens, and the machine goes on in it; the inner constructs are these
  pub opens : {least : ℕ} → {ps : List Print} → (alt : ℕ) (o : Branch) (os : List Branch) (work : ℕ) (now : List Place) (on : List Step) (lives : List Live) (ways : List WayOn) (q : Registers) (v : World) →
      Mirrors g code m ps q lives ways v → GoesAt g code alt m.frames m.inner q (o ∷ os) → Layer (Behind g code m.frames) g code ops vars tag now on →
      StandsIn g (record { kind = Plain; tag = q.next_tag; others = o ∷ os; height = length v.gathered; ways_on = ways } ∷ lives) ways (path_of on (inside 10 q)) n (begun (inside 10 q) work v) run →
      least ≤ v.meters.work + work → Comes least ps set (charged set 10 m' (Runs (record (inside_choice (Goes alt) 0 m') { inner = now }))) g n run
  opens {least = least} {ps = ps} alt o os work now on lives ways q v i goes layer st le =
      let u = begun (inside 10 q) work v in
      let c : Live = record { kind = Plain; tag = q.next_tag; others = o ∷ os; height = length v.gathered; ways_on = ways } in
      charge set [] 10 m' (Runs (record (inside_choice (Goes alt) 0 m') { inner = now })) g n run
      (heap_full set m' ps 10 u g n run i.printed_is (omega (arith, i.agrees.heap)) (stands_happened g _ ways _ n u run st))
      (goes_on set (record (inside_choice (Goes alt) 0 m') { inner = now }) on [] g n u run layer
      (record {
        lives = c ∷ lives;
        ways = ways;
        registers = inside 10 q;
        mirrors = choice_mirrors g code m' ps q (inside 10 q) lives ways ways v u (Goes alt) 0 c m.stops m.stop i refl refl i.printed_is (inside_is q (inside 10 q) 10 refl) i.stops_are i.stop_is i.stops_are
            (goes_open g code alt m.frames m.inner q (o ∷ os) (length v.gathered) goes ∙ ap length i.gathered_is) refl (refl, goes);
        stands = st;
      }) le)

  pub either : {least : ℕ} → {ps : List Print} → (alt : ℕ) (list second : List Goal) (lists : List (List Goal)) → Stands code ops (list ++ goals) end → Others code alt (second ∷ lists) goals end →
      Here code m ps (Do (goal.Either (list ∷ second ∷ lists)) vars tag ∷ steps) g (suc n) w run → least ≤ w.meters.work + 1 → Comes least ps set (does set (op.Branch alt) m') g n run
  either {least = least} {ps = ps} alt list second lists s others h le =
      let x = goal.Either (list ∷ second ∷ lists) in
      let f = form.Either (list ∷ second ∷ lists) in
      let q = behind code m ps steps g n w run x f (outs-Either (list ∷ second ∷ lists)) h in
      let v = taken_in code m ps steps g n w run x f (outs-Either (list ∷ second ∷ lists)) h in
      opens alt _ _ 1 m.inner (goals_at vars tag list ++ steps) h.lives h.ways q v (mirrors_behind ps h.registers h.lives h.ways v h.mirrors refl refl h.mirrors.printed_is)
      (lists_go g code m.frames m.inner rest end below valued q alt (second ∷ lists) goals others) (layered g code m.frames m.inner rest end below valued ops list goals s)
      (comes code m ps steps g n w run x f (outs-Either (list ∷ second ∷ lists)) h) (omega (arith, le))

  -- a goal with one list of goals
  pub only : {least : ℕ} → {ps : List Print} → (list : List Goal) → Stands code ops (list ++ goals) end → Here code m ps (Do (goal.Either (list ∷ [])) vars tag ∷ steps) g (suc n) w run → least ≤ w.meters.work + 1 → Comes least ps set (does set op.Take m') g n run
  only {least = least} {ps = ps} list s h le =
      let x = goal.Either (list ∷ []) in
      let f = form.Either (list ∷ []) in
      let q = behind code m ps steps g n w run x f (outs-Either (list ∷ [])) h in
      let v = taken_in code m ps steps g n w run x f (outs-Either (list ∷ [])) h in
      let u = begun (inside 0 q) 1 v in
      let i = passed_mirrors g code m' ps h.registers (inside 0 q) h.lives h.ways w u 0 h.mirrors refl refl h.mirrors.printed_is (record { bound = refl; vars = refl; heap = omega arith; trail = omega arith; tag = refl }) h.mirrors.stop_is in
      goes_on set (passed m') (goals_at vars tag list ++ steps) [] g n u run
      (layered g code m.frames m.inner rest end below valued ops list goals s)
      (record {
        lives = h.lives;
        ways = h.ways;
        registers = inside 0 q;
        mirrors = record { agrees = record { bound = i.agrees.bound; vars = i.agrees.vars; heap = omega (arith, i.agrees.heap); trail = i.agrees.trail; since = i.agrees.since }; tag = i.tag; choices_are = i.choices_are; below = i.below; stops_are = i.stops_are; stop_is = i.stop_is; gathered_is = i.gathered_is; lasting_is = i.lasting_is; printed_is = i.printed_is };
        stands = comes code m ps steps g n w run x f (outs-Either (list ∷ [])) h;
      }) (omega (arith, le))

  pub once : {least : ℕ} → {ps : List Print} → (inner : List Goal) → Stands code ops inner (Commits goals end) → Here code m ps (Do (goal.Once inner) vars tag ∷ steps) g (suc n) w run → least ≤ w.meters.work + 1 → Comes least ps set (does set op.Once m') g n run
  once {least = least} {ps = ps} inner s h le =
      let x = goal.Once inner in
      let f = form.Once inner in
      let q = behind code m ps steps g n w run x f (outs-Once inner) h in
      let v = taken_in code m ps steps g n w run x f (outs-Once inner) h in
      let on = goals_at vars tag inner ++ Cut q.next_tag ∷ steps in
      let st = comes code m ps steps g n w run x f (outs-Once inner) h in
      let u = begun (inside 10 q) 0 v in
      charge set [] 10 m' (Runs (within (place_of m') (more 10 (passed m')))) g n run
      (heap_full set m' ps 10 u g n run h.mirrors.printed_is (omega (arith, h.mirrors.agrees.heap)) (stands_happened g h.lives h.ways _ n u run st))
      (goes_on set (within (place_of m') (more 10 (passed m'))) on [] g n u run
      (record { goals = inner; end = Commits goals end; rest = rest; stands = s; below = below; gathers = valued; is = ap (λ k. goals_at vars tag inner ++ Cut k ∷ steps) h.mirrors.tag })
      (record {
        lives = h.lives;
        ways = h.ways;
        registers = inside 10 q;
        mirrors = passed_mirrors g code m' ps h.registers (inside 10 q) h.lives h.ways w u 10 h.mirrors refl refl h.mirrors.printed_is (record { bound = refl; vars = refl; heap = omega arith; trail = omega arith; tag = refl }) h.mirrors.stop_is;
        stands = st;
      }) (omega (arith, le)))

  -- the way on behind an inner construct
  pub other_way : (alt : ℕ) (q : Registers) (xs : List Goal) → Stands code (block_at code alt) (xs ++ goals) end → GoesAt g code alt m.frames m.inner q (enter 0 0 q (goals_at vars tag xs ++ steps) ∷ [])
  other_way alt q xs s = record { reads = layered g code m.frames m.inner rest end below valued (block_at code alt) xs goals s; registers = refl }

  pub negates : {least : ℕ} → {ps : List Print} → (alt : ℕ) (inner : List Goal) → Stands code ops inner Refuses → Stands code (block_at code alt) goals end → Here code m ps (Do (goal.Not inner) vars tag ∷ steps) g (suc n) w run → least ≤ w.meters.work + 1 → Comes least ps set (does set (op.Try alt) m') g n run
  negates {least = least} {ps = ps} alt inner s other h le =
      let x = goal.Not inner in
      let f = form.Not inner in
      let q = behind code m ps steps g n w run x f (outs-Not inner) h in
      let v = taken_in code m ps steps g n w run x f (outs-Not inner) h in
      opens alt _ _ 0 (place_of m ∷ m.inner) (goals_at vars tag inner ++ Refuse q.next_tag ∷ []) h.lives h.ways q v (mirrors_behind ps h.registers h.lives h.ways v h.mirrors refl refl h.mirrors.printed_is)
      (other_way alt q [] other)
      (record { goals = inner; end = Refuses; rest = rest; stands = s; below = below; gathers = tt; is = ap (λ k. goals_at vars tag inner ++ Refuse k ∷ []) h.mirrors.tag })
      (comes code m ps steps g n w run x f (outs-Not inner) h) (omega (arith, le))

  pub branch : {least : ℕ} → {ps : List Print} → (alt : ℕ) (test first other : List Goal) → Stands code ops test (Commits (first ++ goals) end) → Stands code (block_at code alt) (other ++ goals) end →
      Here code m ps (Do (goal.If test first other) vars tag ∷ steps) g (suc n) w run → least ≤ w.meters.work + 1 → Comes least ps set (does set (op.Try alt) m') g n run
  branch {least = least} {ps = ps} alt test first other s o h le =
      let x = goal.If test first other in
      let f = form.If test first other in
      let q = behind code m ps steps g n w run x f (outs-If test first other) h in
      let v = taken_in code m ps steps g n w run x f (outs-If test first other) h in
      opens alt _ _ 0 (place_of m ∷ m.inner) (goals_at vars tag test ++ Cut q.next_tag ∷ (goals_at vars tag first ++ steps)) h.lives h.ways q v (mirrors_behind ps h.registers h.lives h.ways v h.mirrors refl refl h.mirrors.printed_is)
      (other_way alt q other o)
      (record {
        goals = test;
        end = Commits (first ++ goals) end;
        rest = rest;
        stands = s;
        below = below;
        gathers = valued;
        is = ap (λ k. goals_at vars tag test ++ Cut k ∷ (goals_at vars tag first ++ steps)) h.mirrors.tag
            ∙ ap (λ l. goals_at vars tag test ++ Cut m.next_tag ∷ l) (goals_append vars tag first goals (end_steps end vars tag m.inner rest));
      })
      (comes code m ps steps g n w run x f (outs-If test first other) h) (omega (arith, le))

  pub exhausts : {least : ℕ} → {ps : List Print} → (alt : ℕ) (inner : List Goal) → Stands code ops inner Backs → Stands code (block_at code alt) goals end → Here code m ps (Do (goal.Exhaust inner) vars tag ∷ steps) g (suc n) w run → least ≤ w.meters.work + 1 → Comes least ps set (does set (op.Try alt) m') g n run
  exhausts {least = least} {ps = ps} alt inner s other h le =
      let x = goal.Exhaust inner in
      let f = form.Exhaust inner in
      let q = behind code m ps steps g n w run x f (outs-Exhaust inner) h in
      let v = taken_in code m ps steps g n w run x f (outs-Exhaust inner) h in
      opens alt _ _ 0 (place_of m ∷ m.inner) (goals_at vars tag inner ++ Back ∷ []) h.lives h.ways q v (mirrors_behind ps h.registers h.lives h.ways v h.mirrors refl refl h.mirrors.printed_is)
      (other_way alt q [] other)
      (record { goals = inner; end = Backs; rest = rest; stands = s; below = below; gathers = tt; is = refl })
      (comes code m ps steps g n w run x f (outs-Exhaust inner) h) (omega (arith, le))

  pub endless : {least : ℕ} → {ps : List Print} → (b : ℕ) → block_at code b ≡ op.Branch b ∷ ops → Stands code ops goals end → Here code m ps (Do goal.Forever vars tag ∷ steps) g (suc n) w run → least ≤ w.meters.work + 1 → Comes least ps set (does set (op.Branch b) m') g n run
  endless {least = least} {ps = ps} b block s h le =
      let x = goal.Forever in
      let f = form.Forever in
      let q = behind code m ps steps g n w run x f outs-Forever h in
      let v = taken_in code m ps steps g n w run x f outs-Forever h in
      let again : Stands code (block_at code b) (goal.Forever ∷ goals) end = subst (λ l. Stands code l (goal.Forever ∷ goals) end) (sym block) (forever b ops goals end block s) in
      opens b _ _ 0 m.inner steps h.lives h.ways q v (mirrors_behind ps h.registers h.lives h.ways v h.mirrors refl refl h.mirrors.printed_is)
      (other_way b q (goal.Forever ∷ []) again)
      (record { goals = goals; end = end; rest = rest; stands = s; below = below; gathers = valued; is = refl })
      (comes code m ps steps g n w run x f outs-Forever h) (omega (arith, le))
