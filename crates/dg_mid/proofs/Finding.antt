-- Queries of places and of all objects, and the objects that they try.
use Rattle.std.specs.Prelude.{map}
use Rattle.std.proofs.Common.{◌≡◌, ℕ, suc, ◌+◌, ◌≤◌, List, [], ◌∷◌, Bool, true, false, Option, Some, None, refl, sym, ap, ◌∙◌, subst, arith, length}
use Rattle.dg_base.specs.declared.program.Goal.{Goal, Goal-F, out-Goal}
use Rattle.dg_base.specs.declared.program.Goal.TheVariants as goal
use Rattle.dg_base.specs.declared.program.Goal.TheVariants.{outs-Holds, outs-IsObject}
use Rattle.dg_base.specs.declared.program.Goal.TheOpen as form
use Rattle.dg_base.specs.declared.program.Term.{Term}
use Rattle.dg_base.specs.declared.run.Limits.{Limits}
use Rattle.dg_base.specs.Goals.{terms_held}
use Rattle.dg_meaning.specs.Values.{Object, Value, leaf, value_of}
use Rattle.dg_meaning.specs.World.{Game, World, Event, Print, Prints, prints, worked, Gathering}
use Rattle.dg_meaning.specs.Cells.{cells, writing}
use Rattle.dg_meaning.specs.Path.{Step, Do, Registers, Act, Finds, Plain, Effect, FailsAt as MoveFails}
use Rattle.dg_meaning.specs.Letters.{copied}
use Rattle.dg_meaning.specs.Changes.{found}
use Rattle.dg_meaning.specs.Moves.{begun, choice, path_of, first_alone, inside, behind_copy, copy_of, finds_if_set, object_branches, numbers, move_of, outcome_of, effect}
use Rattle.dg_meaning.specs.Transcript.{Run}
use Rattle.dg_meaning.specs.inside.OneRun.{Grows}
use Rattle.dg_meaning.specs.inside.Context.{Way as WayOn, Live}
use Rattle.dg_meaning.specs.inside.Keeps.{Began, Tried, After, Went, open_at}
use Rattle.dg_meaning.proofs.OneRun.{grows_on, worked_grows}
use Rattle.dg_mid.specs.declared.code.Op.{Op}
use Rattle.dg_mid.specs.declared.code.Op.TheVariants as op
use Rattle.dg_mid.specs.declared.code.Code.{Code}
use Rattle.dg_mid.specs.Code.{block_at}
use Rattle.dg_mid.specs.State.{Place, Find, Tries, Mid, vars_of, cut_of, place_of, inner_for}
use Rattle.dg_mid.specs.Step.{Setting, setting, does, more, seeks, tries, trying, done, followed, said_to}
use Rattle.dg_mid.specs.Actions.{registers_of, world_of, asked, found_at}
use Rattle.dg_mid.specs.Units.{effort, act_work, effect_work, found_work}
use Rattle.dg_mid.specs.Codes.{End, Stands, found_goals, found_end}
use Rattle.dg_mid.specs.Reads.{Behind, TriesAt, Mirrors, Comes, GathersAt, TakesNewest}
use Rattle.dg_mid.proofs.Here.{Here, steps_of}
use Rattle.dg_mid.proofs.Marks.{below_next}
use Rattle.dg_mid.proofs.Taking.{behind, taken_in, comes, taken_grows, began_grows, went_grows, charge, heap_full}
use Rattle.dg_mid.proofs.Choices.{choice_mirrors, inside_is}
use Rattle.dg_mid.proofs.Backs.{tried_plainly}
use Rattle.dg_mid.proofs.Alike.{AtOnce, AlikeAsked, at_once, in_turn, regs, world_with, asked_alike, found_alike}
use Rattle.dg_mid.proofs.Acts.{registers_are, world_is, nothing_counted, nothing_first, act_works, act_on, unified_reaches}

-- objects that are tried take no gathering out
objects_open : (place : Option ℕ) (args : List Value) (many : Bool) (steps : List Step) (r : Registers) (os : List ℕ) (height : ℕ) → open_at (object_branches place args many steps r os) height ≡ height
objects_open place args many steps r [] height = refl
objects_open place args many steps r (o ∷ os) height = refl

objects_newest : (place : Option ℕ) (args : List Value) (many : Bool) (steps : List Step) (r : Registers) (os : List ℕ) (gs : List Gathering) → TakesNewest (object_branches place args many steps r os) gs
objects_newest place args many steps r [] gs = tt
objects_newest place args many steps r (o ∷ os) gs = tt

-- where objects are offered they are tried
offered_tried : (g : Game) (place : Option ℕ) (args : List Value) (many : Bool) (steps : List Step) (r : Registers) (os : List ℕ) (t : ℕ) (lives : List Live) (ways : List WayOn) (n : ℕ) (w : World) (run : Run) →
    After g lives ways n (choice Plain t (object_branches place args many steps r os) w) run → Tried g Plain t (length w.gathered) ways lives (object_branches place args many steps r os) n w run
offered_tried g place args many steps r [] t lives ways n w run h = h
offered_tried g place args many steps r (o ∷ os) t lives ways n w run h = h

-- the steps where an object is found
found_steps : (many : Bool) (m : Mid) (p : Place) (goals : List Goal) (end : End) (rest : List Step) → first_alone many p.tag (steps_of m goals end rest) ≡ steps_of (record m { inner = inner_for many p m.inner }) (found_goals many goals) (found_end many goals end) rest
found_steps true m p goals end rest = refl
found_steps false m p goals end rest = refl

-- what is gathered behind an object that is found
found_keeps : (g : Game) (many : Bool) (goals : List Goal) (end : End) (env : List Value) (p : Place) (inner : List Place) → GathersAt g end env inner → GathersAt g (found_end many goals end) env (inner_for many p inner)
found_keeps g true goals end env p inner h = h
found_keeps g false goals end env p inner h = h

-- what the search counts of a query, the machine counts
effect_works : (q r : Registers) (t : ℕ) (steps : List Step) (v w : World) (place : Option ℕ) (args : List Value) (many : Bool) (os : List ℕ) (e e' : Effect) → q.bound ≡ r.bound → prints v.events ≡ prints w.events → AlikeAsked q r t steps v w place args many os e e' →
    effect_work e + w.meters.work ≡ effect_work e' + v.meters.work
effect_works q r t steps v w place args many os e e' same printed (at_once a b h) = act_works q r t steps v w a b same printed h.alike
effect_works q r t steps v w place args many os e e' same printed (in_turn i) = omega arith

module _ (code : Code) (limits : Limits) (m : Mid) (ops : List Op) (goals : List Goal) (end : End) (rest : List Step) (g : Game) (n : ℕ) (w : World) (run : Run) (stands : Stands code ops goals end) (below : Behind g code m.frames rest) (valued : GathersAt g end (vars_of m.frames) m.inner) where
  abbrev set : Setting
  set = setting g code limits

  abbrev vars : List Value
  vars = vars_of m.frames

  abbrev tag : ℕ
  tag = (cut_of m.frames).tag

  abbrev steps : List Step
  steps = steps_of m goals end rest

  abbrev m' : Mid
  m' = record m { ops = ops }

  -- what the query does
  does_so : {least : ℕ} → {ps : List Print} → (k : ℕ) (f : Find) (heap trail : ℕ) (es : List Event) (meters : _) (lives : List Live) (ways : List WayOn) (e e' : Effect) → Stands code (block_at code f.next) (found_goals f.many goals) (found_end f.many goals end) →
      let m0 = more k m' in
      let q0 = regs m.next_tag m.stop m.state.subst m.state.vars heap trail in
      let v0 = world_with es m.gathered meters m.lasting.typed m.lasting.dice m.lasting.facts m.lasting.sites in
      Mirrors g code m0 ps q0 lives ways v0 → Grows v0 run.world → AlikeAsked q0 (registers_of m0) tag steps v0 (world_of [] m0) f.place f.args f.many (numbers 0 g.program.objects) e e' →
      After g lives ways n (outcome_of steps q0 e) run → least ≤ effect_work e → Comes least ps set (seeks set f e' m0) g n run
  does_so {least = least} {ps = ps} k f heap trail es meters lives ways e e' there i happened (at_once a b h) st le =
      let m0 = more k m' in
      let q0 = regs m.next_tag m.stop m.state.subst m.state.vars heap trail in
      let v0 = world_with es m.gathered meters m.lasting.typed m.lasting.dice m.lasting.facts m.lasting.sites in
      subst (λ l. Comes least (followed ps (said_to l (done set b m0))) set (done set b m0) g n run) h.silent
      (act_on code limits m0 goals end rest g n run stands below valued ps q0 lives ways v0 a b h.alike i h.grows happened st le)
  does_so {least = least} {ps = ps} k f heap trail es meters lives ways e e' there i happened (in_turn j) st le =
      let q0 = regs m.next_tag m.stop m.state.subst m.state.vars heap trail in
      let v0 = world_with es m.gathered meters m.lasting.typed m.lasting.dice m.lasting.facts m.lasting.sites in
      let os = numbers 0 g.program.objects in
      let bs = object_branches f.place f.args f.many steps q0 os in
      record {
        world = worked j v0;
        at = record {
          live = record { kind = Plain; tag = m.next_tag; others = bs; height = length m.gathered; ways_on = ways };
          lives = lives;
          registers = q0;
          mirrors = record { agrees = i.agrees; tag = i.tag; choices_are = i.choices_are; below = i.below; stops_are = i.stops_are; stop_is = i.stop_is; gathered_is = i.gathered_is; lasting_is = i.lasting_is; printed_is = i.printed_is };
          way_is = (refl, record { goals = goals; end = end; rest = rest; stands = there; below = below; gathers = valued; others_are = refl });
          tag = refl;
          height = objects_open f.place f.args f.many steps q0 os (length m.gathered);
          newest = objects_newest f.place f.args f.many steps q0 os m.gathered;
          tried = offered_tried g f.place f.args f.many steps q0 os m.next_tag lives ways n (worked j v0) run st;
        };
        worked = le;
      }

  -- a query of a place or of all objects
  asks_so : {least : ℕ} → {ps : List Print} → (place : Option ℕ) (terms : List Term) (many : Bool) (next : ℕ) (x : Goal) (f : Goal-F Goal) (is : out-Goal x ≡ f) → terms_held f ≡ terms →
      ((q : Registers) (v : World) → effect g f vars tag steps q v ≡ asked g place (map (value_of g.program vars) terms) many steps q v) → Stands code (block_at code next) (found_goals many goals) (found_end many goals end) →
      Here code m ps (Do x vars tag ∷ steps) g (suc n) w run → least ≤ w.meters.work + (1 + effort set ps (op.Find place terms many next) m) → Comes least ps set (does set (op.Find place terms many next) m') g n run
  asks_so {least = least} {ps = ps} place terms many next x f is held acts there h le =
      let i = h.mirrors in
      let k = cells g.program terms in
      let taken : cells g.program (terms_held f) ≡ k = ap (cells g.program) held in
      let written : writing (terms_held f) ≡ writing terms = ap writing held in
      let args = map (value_of g.program vars) terms in
      let m0 : Mid = more k m' in
      let q = behind code m ps steps g n w run x f is h in
      let v = taken_in code m ps steps g n w run x f is h in
      let q0 = regs m.next_tag m.stop m.state.subst m.state.vars q.heap q.trail in
      let v0 = world_with v.events m.gathered v.meters m.lasting.typed m.lasting.dice m.lasting.facts m.lasting.sites in
      let here : Find = record { place = place; args = args; many = many; next = next } in
      let happened : Grows v0 run.world = subst (λ (y : World). Grows y run.world) (world_is v m.gathered m.lasting i.gathered_is i.lasting_is) (taken_grows code m ps steps g n w run x f is h) in
      let o = subst (λ y. After g h.lives h.ways n (outcome_of steps q0 (asked g place args many steps q0 y)) run) (world_is v m.gathered m.lasting i.gathered_is i.lasting_is)
      (subst (λ y. After g h.lives h.ways n (outcome_of steps y (asked g place args many steps y v)) run) (registers_are q m.next_tag m.stop m.state.subst m.state.vars i.tag i.stop_is i.agrees.bound i.agrees.vars)
      (subst (λ e. After g h.lives h.ways n (outcome_of steps q e) run) (acts q v) (comes code m ps steps g n w run x f is h))) in
      let same : (es' : List Event) → AlikeAsked q0 (registers_of m0) tag steps v0 (world_with es' m.gathered nothing_counted m.lasting.typed m.lasting.dice m.lasting.facts m.lasting.sites) place args many (numbers 0 g.program.objects) (asked g place args many steps q0 v0) (asked g place args true [] (registers_of m0) (world_with es' m.gathered nothing_counted m.lasting.typed m.lasting.dice m.lasting.facts m.lasting.sites)) =
      λ es'. asked_alike m.next_tag m.stop m.state.subst m.state.vars q.heap q.trail m0.state.heap m0.state.trail v.events es' m.gathered v.meters nothing_counted m.lasting.typed m.lasting.dice m.lasting.facts m.lasting.sites tag steps g place args many in
      let work = effect_works q0 (registers_of m0) tag steps v0 (world_of ps m0) place args many (numbers 0 g.program.objects) _ _ refl (i.printed_is ∙ sym (nothing_first ps)) (same (map Prints ps)) in
      charge set [] k m' _ g n run
      (heap_full set m' ps k v0 g n run i.printed_is (omega (arith, i.agrees.heap, taken)) happened)
      (does_so k here q.heap q.trail v.events v.meters h.lives h.ways (asked g place args many steps q0 v0) (asked g place args true [] (registers_of m0) (world_of [] m0)) there
      (record {
        agrees = record { bound = refl; vars = refl; heap = omega (arith, i.agrees.heap, taken); trail = i.agrees.trail; since = i.agrees.since };
        tag = refl;
        choices_are = i.choices_are;
        below = i.below;
        stops_are = i.stops_are;
        stop_is = refl;
        gathered_is = refl;
        lasting_is = refl;
        printed_is = i.printed_is;
      })
      happened (same []) o (omega (arith, le, work, written)))

  pub holds_so : {least : ℕ} → {ps : List Print} → (place : ℕ) (terms : List Term) (many : Bool) (next : ℕ) → Stands code (block_at code next) (found_goals many goals) (found_end many goals end) →
      Here code m ps (Do (goal.Holds place terms many) vars tag ∷ steps) g (suc n) w run → least ≤ w.meters.work + (1 + effort set ps (op.Find (Some place) terms many next) m) → Comes least ps set (does set (op.Find (Some place) terms many next) m') g n run
  holds_so place terms many next there h le = asks_so (Some place) terms many next (goal.Holds place terms many) (form.Holds place terms many) (outs-Holds place terms many) refl (λ q v. refl) there h le

  pub objects_so : {least : ℕ} → {ps : List Print} → (term : Term) (many : Bool) (next : ℕ) → Stands code (block_at code next) (found_goals many goals) (found_end many goals end) →
      Here code m ps (Do (goal.IsObject term many) vars tag ∷ steps) g (suc n) w run → least ≤ w.meters.work + (1 + effort set ps (op.Find None (term ∷ []) many next) m) → Comes least ps set (does set (op.Find None (term ∷ []) many next) m') g n run
  objects_so term many next there h le = asks_so None (term ∷ []) many next (goal.IsObject term many) (form.IsObject term many) (outs-IsObject term many) refl (λ q v. refl) there h le

-- ## Objects that are tried

module _ (code : Code) (limits : Limits) (g : Game) (n : ℕ) (w : World) (run : Run) where
  abbrev here : Setting
  here = setting g code limits

  -- an object is tried where the machine is inside its choice
  found_on : {least : ℕ} → {ps : List Print} → (f : Find) (o : ℕ) (m : Mid) (goals : List Goal) (end : End) (rest : List Step) (r : Registers) (on : List Step) (lives : List Live) (ways : List WayOn) → Stands code m.ops goals end → Behind g code m.frames rest → GathersAt g end (vars_of m.frames) m.inner → on ≡ steps_of m goals end rest →
      Mirrors g code m ps r lives ways w → Began g lives ways (Finds f.place o f.args (path_of on r)) n w run → least ≤ w.meters.work + act_work (found_at ps f o m) → Comes least ps here (done here (found_at [] f o m) m) g n run
  found_on {least = least} {ps = ps} f o m goals end rest r on lives ways stands below valued e i began le =
      let q0 = regs m.next_tag m.stop m.state.subst m.state.vars r.heap r.trail in
      let v0 = world_with w.events m.gathered w.meters m.lasting.typed m.lasting.dice m.lasting.facts m.lasting.sites in
      let is = world_is w m.gathered m.lasting i.gathered_is i.lasting_is in
      let at : Act = finds_if_set f.args o q0 (found m.lasting.facts f.place o) (begun q0 1 v0) in
      let went = subst (λ l. Went g lives ways n (move_of l q0 at) run) e
      (subst (λ y. Went g lives ways n (move_of on q0 (finds_if_set f.args o q0 (found y.facts f.place o) (begun q0 1 y))) run) is
      (subst (λ x. Went g lives ways n (move_of on x (finds_if_set f.args o x (found w.facts f.place o) (begun x 1 w))) run) (registers_are r m.next_tag m.stop m.state.subst m.state.vars i.tag i.stop_is i.agrees.bound i.agrees.vars) began)) in
      let happened : Grows v0 run.world = subst (λ (y : World). Grows y run.world) is (began_grows g lives ways (Finds f.place o f.args (path_of on r)) n w run began) in
      let same : (es' : List Event) → AtOnce q0 (registers_of m) (cut_of m.frames).tag (steps_of m goals end rest) v0 (world_with es' m.gathered nothing_counted m.lasting.typed m.lasting.dice m.lasting.facts m.lasting.sites) at (finds_if_set f.args o (registers_of m) (found m.lasting.facts f.place o) (begun (registers_of m) 1 (world_with es' m.gathered nothing_counted m.lasting.typed m.lasting.dice m.lasting.facts m.lasting.sites))) =
      λ es'. found_alike m.next_tag m.stop m.state.subst m.state.vars r.heap r.trail m.state.heap m.state.trail w.events es' m.gathered w.meters nothing_counted m.lasting.typed m.lasting.dice m.lasting.facts m.lasting.sites (cut_of m.frames).tag (steps_of m goals end rest) f.args o (found m.lasting.facts f.place o) in
      let alike = same [] in
      let work = act_works q0 (registers_of m) (cut_of m.frames).tag (steps_of m goals end rest) v0 (world_of ps m) at (found_at ps f o m) refl (i.printed_is ∙ sym (nothing_first ps)) (same (map Prints ps)).alike in
      subst (λ l. Comes least (followed ps (said_to l (done here (found_at [] f o m) m))) here (done here (found_at [] f o m) m) g n run) alike.silent
      (act_on code limits m goals end rest g n run stands below valued ps q0 lives ways v0 at (found_at [] f o m) alike.alike
      (record {
        agrees = record { bound = refl; vars = refl; heap = i.agrees.heap; trail = i.agrees.trail; since = i.agrees.since };
        tag = refl;
        choices_are = i.choices_are;
        below = i.below;
        stops_are = i.stops_are;
        stop_is = refl;
        gathered_is = refl;
        lasting_is = refl;
        printed_is = i.printed_is;
      })
      alike.grows happened went (omega (arith, le, work)))

  -- the registers of an object that is tried were reached
  found_reaches : (args : List Value) (o : ℕ) (y : Option Value) (on : List Step) (r : Registers) (lives : List Live) (ways : List WayOn) → Went g lives ways n (move_of on r (finds_if_set args o r y (begun r 1 w))) run → Grows (begun r 1 w) run.world
  found_reaches args o None on r lives ways h = went_grows g lives ways n (MoveFails (begun r 1 w)) run h
  found_reaches [] o (Some y) on r lives ways h = went_grows g lives ways n (MoveFails (begun r 1 w)) run h
  found_reaches (a ∷ []) o (Some y) on r lives ways h = (unified_reaches g ((a, leaf (Object o)) ∷ []) on r lives ways n (begun r 1 w) run h).1
  found_reaches (a ∷ b ∷ args) o (Some y) on r lives ways h =
      grows_on (begun r 1 w) (worked (copied y) (begun r 1 w)) run.world (worked_grows (copied y) (begun r 1 w))
      (unified_reaches g ((a, leaf (Object o)) ∷ (b, copy_of y r) ∷ []) on (behind_copy y r) lives ways n (worked (copied y) (begun r 1 w)) run h).1

  -- the objects that are left are tried
  pub tries_on : {least : ℕ} → {ps : List Print} → (f : Find) (os : List ℕ) (m : Mid) (c : Live) (lives : List Live) (q : Registers) → Mirrors g code m ps q lives c.ways_on w → c.tag ≡ m.next_tag → c.kind ≡ Plain → open_at c.others c.height ≡ length m.gathered →
      Tried g c.kind c.tag c.height c.ways_on lives c.others n w run → TriesAt g code f os m.frames m.inner q c.others → least ≤ w.meters.work + found_work here ps f os m → Comes least ps here (tries here f os m) g n run
  tries_on {least = least} {ps = ps} f [] m c lives q i tag kind height tried t le =
      let failed = tried_plainly g c lives [] n w run kind t.others_are tried in
      record { world = w; at = record { lives = lives; choices = i.choices_are; gathered = i.gathered_is; lasting = i.lasting_is; printed = i.printed_is; failed = failed }; worked = omega (arith, le) }
  tries_on {least = least} {ps = ps} f (o ∷ []) m c lives q i tag kind height tried t le =
      let after = steps_of m t.goals t.end t.rest in
      let r = inside 0 q in
      let on = first_alone f.many q.next_tag after in
      let began = tried_plainly g c lives (Finds f.place o f.args (path_of on r) ∷ []) n w run kind t.others_are tried in
      found_on f o (trying here f [] m) (found_goals f.many t.goals) (found_end f.many t.goals t.end) t.rest r on lives c.ways_on t.stands t.below (found_keeps g f.many t.goals t.end (vars_of m.frames) (place_of m) m.inner t.gathers)
      (ap (λ k. first_alone f.many k after) i.tag ∙ found_steps f.many m (place_of m) t.goals t.end t.rest)
      (record {
        agrees = record { bound = i.agrees.bound; vars = i.agrees.vars; heap = omega (arith, i.agrees.heap); trail = i.agrees.trail; since = i.agrees.since };
        tag = ap (λ k. k + 1) i.tag;
        choices_are = i.choices_are;
        below = below_next m.next_tag m.choices i.below;
        stops_are = i.stops_are;
        stop_is = i.stop_is;
        gathered_is = i.gathered_is;
        lasting_is = i.lasting_is;
        printed_is = i.printed_is;
      })
      began le
  tries_on {least = least} {ps = ps} f (o ∷ p ∷ os) m c lives q i tag kind height tried t le =
      let after = steps_of m t.goals t.end t.rest in
      let cells_are = 10 + length f.args in
      let r = inside cells_are q in
      let on = first_alone f.many q.next_tag after in
      let left = object_branches f.place f.args f.many after q (p ∷ os) in
      let c' : Live = record { kind = Plain; tag = c.tag; others = left; height = c.height; ways_on = c.ways_on } in
      let began = tried_plainly g c lives (Finds f.place o f.args (path_of on r) ∷ left) n w run kind t.others_are tried in
      let height_is : c.height ≡ length m.gathered = ap (λ l. open_at l c.height) (sym t.others_are) ∙ height in
      charge here [] cells_are m _ g n run
      (heap_full here m ps cells_are (begun r 1 w) g n run i.printed_is (omega (arith, i.agrees.heap)) (found_reaches f.args o (found w.facts f.place o) on r (c' ∷ lives) c.ways_on began))
      (found_on f o (trying here f (p ∷ os) m) (found_goals f.many t.goals) (found_end f.many t.goals t.end) t.rest r on (c' ∷ lives) c.ways_on t.stands t.below (found_keeps g f.many t.goals t.end (vars_of m.frames) (place_of m) m.inner t.gathers)
      (ap (λ k. first_alone f.many k after) i.tag ∙ found_steps f.many m (place_of m) t.goals t.end t.rest)
      (choice_mirrors g code m ps q r lives c.ways_on c.ways_on w w (Tries f (p ∷ os)) (length f.args) c' m.stops m.stop i refl refl i.printed_is (inside_is q r cells_are refl) i.stops_are i.stop_is i.stops_are height_is (tag ∙ sym i.tag)
      (refl, record { goals = t.goals; end = t.end; rest = t.rest; stands = t.stands; below = t.below; gathers = t.gathers; others_are = refl }))
      began le)
