-- Objects that are tried with the arguments of a query.
use Rattle.std.proofs.Common.{◌≡◌, ℕ, ◌+◌, ◌-◌, ◌<◌, ◌≤◌, List, [], ◌∷◌, ◌++◌, Bool, true, false, Option, Some, None, refl, sym, ap, ◌∙◌, subst, arith, length, map, Bor}
use Rattle.std.specs.Prelude.{nat_lt, reverse, if◌then◌else◌}
use Rattle.std.specs.List.{All, zip}
use Rattle.std.proofs.lemmas.Bool.{ltb-true}
use Rattle.std.proofs.lemmas.List.{append-nil}
use Rattle.std.specs.declared.vec.Vec.{Vec}
use Rattle.std.specs.declared.alloc.Global.{Global}
use Rattle.dg_base.specs.declared.cells.Simple.{Simple}
use Rattle.dg_base.specs.declared.program.Goal.{Goal}
use Rattle.dg_base.specs.declared.program.CoreProgram.{CoreProgram}
use Rattle.dg_meaning.specs.Changes.{found}
use Rattle.dg_meaning.specs.Facts.{kinds_of}
use Rattle.dg_meaning.specs.Letters.{copied}
use Rattle.dg_meaning.specs.Unify.{Equations}
use Rattle.dg_meaning.specs.Values.{Object, Value, leaf}
use Rattle.dg_meaning.specs.World.{Game, World, worked}
use Rattle.dg_meaning.specs.Path.{Step, Registers, Unifies, Branch, Clash, Finds, Plain, Moves, Move, Offers}
use Rattle.dg_meaning.specs.Moves.{begun, path_of, move_of, inside, choice_cells, first_alone, goals_at, numbers, object_branches, behind_copy, copy_of, finds, finds_if_set, outcome_of, begins as the_begins}
use Rattle.dg_meaning.specs.inside.OneRun.{Grows}
use Rattle.dg_meaning.specs.Transcript.{Run}
use Rattle.dg_meaning.specs.inside.Context.{Way, Live, pushed}
use Rattle.dg_meaning.specs.inside.Keeps.{After, Went, Began, Tried, world_at}
use Rattle.dg_meaning.proofs.Keeps.{has_happened}
use Rattle.dg_interp.specs.Runnable.{AreRunnable}
use Rattle.dg_interp.proofs.RunnableLemmas.{all_none}
use Rattle.dg_unify.specs.Store.{Store, State, Saved, Kept, Holds, Charged, told, or_nil}
use Rattle.dg_unify.specs.inside.Engines.{Agrees}
use Rattle.dg_unify.specs.declared.bindings.Ref.{Ref}
use Rattle.dg_unify.specs.declared.bindings.Full.{Full}
use Rattle.dg_unify.specs.declared.bindings.Full.TheVariants as full
use Rattle.dg_unify.specs.declared.bindings.Mark.{Mark as Place}
use Rattle.dg_unify.specs.declared.list.ListBindings.{ListBindings}
use Rattle.dg_world.specs.Tables.{simple_value}
use Rattle.dg_choices.specs.declared.frames.Env.{Env}
use Rattle.dg_choices.specs.declared.frames.Frame.{Frame}
use Rattle.dg_choices.specs.declared.frames.Trial.{Trial}
use Rattle.dg_choices.specs.declared.frames.Left.TheVariants.{Things}
use Rattle.dg_choices.specs.declared.frames.Choice.{Choice}
use Rattle.dg_interp.specs.declared.engine.Engine.{Engine}
use Rattle.dg_terms.specs.Terms.{Overflows}
use Rattle.dg_interp.specs.inside.Querying.{mark_of}
use Rattle.dg_interp.specs.inside.Frames.{stretch, values_in, mark_steps, steps_behind, branches_of, EndsBy, IsLeft, has_some}
use Rattle.dg_lasting.specs.Finding.{counted}
use Rattle.dg_meaning.specs.inside.Finding.{may_find}
use Rattle.dg_interp.specs.inside.Trying.{trial_branches}
use Rattle.dg_interp.specs.inside.Giving.{SolvesAt}
use Rattle.dg_interp.specs.inside.Finding.{made_values, TriesObjectsAt, FindsAt}
use Rattle.dg_interp.specs.inside.Engine.{Point, store_in, KeepsPlaces, steps_of, HasPlace, IsSound, IsReady, IsPushed, FailsAt, FullAt, BeginsAt, OpensAt, Leads, Silent, WentWrong, kept_if, open_in}
use Rattle.dg_lasting.proofs.Finds.{numbers_counted, counted_first, same_copy, behind_simple}
use Rattle.dg_interp.proofs.Trials.{counted_some, trials_all}
use Rattle.dg_unify.proofs.StoreLemmas.{kept_same}
use Rattle.dg_interp.proofs.Stores.{values_kept, values_count, hold_front, appended_stretch}
use Rattle.dg_interp.proofs.Links.{SameBy, same_here, behind_same, at_same, frame_raise}
use Rattle.dg_interp.proofs.Grown.{grown_longer, grown_values, grown_base, grown_choices}
use Rattle.dg_interp.proofs.Places.{silent, peak_begun, agrees_inside, adds_nothing, inside_in, open_still, limits_here}
use Rattle.dg_interp.proofs.Queries.{marked}
use Rattle.dg_interp.proofs.Begun.{begun_values, begun_sound, begun_there}
use Rattle.dg_interp.proofs.Opens.{chosen, pushed_behind, pushed_there}
use Rattle.dg_interp.proofs.Giving.{with_store, acts_on, same_agrees}
use Rattle.dg_interp.proofs.TakingOut.{made_heap}
use Rattle.dg_interp.proofs.Findings.{InEach, worked_none}

-- ## An object that is found

-- what is copied where it is
abbrev work_of : List Value → Simple → ℕ
work_of [] v = 0
work_of (a ∷ []) v = 0
work_of (a ∷ b ∷ args) v = copied (simple_value v)

zip_none : (xs : List Value) → zip {K = Value} {X = Value} xs [] ≡ []
zip_none [] = refl
zip_none (x ∷ xs) = refl

finds_so : (vals : List Value) (object : ℕ) (v : Simple) (r : Registers) (w : World) → 0 < length vals → finds vals object r (simple_value v) w ≡ Unifies r (zip vals (leaf (Object object) ∷ simple_value v ∷ [])) (worked (work_of vals v) w)
finds_so [] object v r w some = absurd (omega arith)
finds_so (a ∷ []) object v r w some = ap (Unifies r ((a, leaf (Object object)) ∷ [])) (sym (worked_none w))
finds_so (a ∷ b ∷ args) object v r w some =
    let u = worked (copied (simple_value v)) w in
    let pairs : List (Value × Value) → Equations = λ l. (a, leaf (Object object)) ∷ (b, simple_value v) ∷ l in
    ap (λ q. Unifies q ((a, leaf (Object object)) ∷ (b, copy_of (simple_value v) r) ∷ []) u) (behind_simple v r)
    ∙ ap (λ x. Unifies r ((a, leaf (Object object)) ∷ (b, x) ∷ []) u) (same_copy r.next_var v)
    ∙ ap (λ l. Unifies r (pairs l) u) (sym (zip_none args))

module _ (place : Option ℕ) (object : ℕ) (args : Env) (old : Engine) (ready : IsReady old) where
  abbrev s : Store
  s = store_in old.store

  abbrev xs : List Ref
  xs = old.refs.items

  abbrev found_from : Point
  found_from = FindsAt place object args old

  -- nothing is set of it
  pub finds_none : InEach old (λ w. found w.facts place object ≡ None) → WentWrong found_from old old
  finds_none none = record {
    sound = ready.sound;
    left = refl;
    limits = silent (limits_here old);
    leads = λ g n w run st. record {
      world = w;
      adds = adds_nothing w;
      holds = record {
        inside = st.at.inside;
        failed = subst (λ o. Went g st.at.inside.lives st.at.ways n (move_of (steps_of old) st.at.registers (finds_if_set (values_in s xs args) object st.at.registers o w)) run) (none g w st.at.inside.program st.at.inside.world) st.went;
      };
    };
  }

  module _ (v : Simple) (thing value : Ref) (store : ListBindings) (k : Kept s (store_in store)) (saved : (ms : List Saved) → KeepsPlaces old.store ms → KeepsPlaces store ms) (same : (store_in store).state ≡ s.state)
      (thing_is : (store_in store).value thing ≡ Some (leaf (Object object))) (value_is : (store_in store).value value ≡ Some (simple_value v)) (ends : EndsBy (length xs) args) (some : 0 < args.len) where
    abbrev t : Store
    t = store_in store

    abbrev pub pairs : Equations
    pairs = zip (map (told t) (stretch xs args)) (map (told t) (thing ∷ value ∷ []))

    pairs_are : pairs ≡ zip (values_in s xs args) (leaf (Object object) ∷ simple_value v ∷ [])
    pairs_are =
        ap (λ l. zip l (map (told t) (thing ∷ value ∷ []))) (values_kept (length xs) s t xs xs k (hold_front s xs ready.sound.base.hold) refl args ends)
        ∙ ap (λ o. zip (values_in s xs args) (or_nil o ∷ told t value ∷ [])) thing_is
        ∙ ap (λ o. zip (values_in s xs args) (leaf (Object object) ∷ or_nil o ∷ [])) value_is

    many : 0 < length (values_in s xs args)
    many = omega (arith, some, values_count s xs args ends)

    pub finds_leads : InEach old (λ w. found w.facts place object ≡ Some (simple_value v)) → Leads found_from (SolvesAt pairs (with_store old store old.made ready k saved))
    finds_leads is g n w run st =
        let r = st.at.registers in
        let vals = values_in s xs args in
        let u = worked (work_of vals v) w in
        record {
          world = u;
          adds = record { events_are = refl; typed = refl };
          holds = acts_on old store old.made ready k saved g n w u run st.at st.at.inside.world (omega (arith, st.at.inside.peak, k.heap_limit)) (λ x y. Unifies x pairs y) r (same_agrees s t r same st.at.agrees) refl refl
              (subst (λ a. Went g st.at.inside.lives st.at.ways n (move_of (steps_of old) r a) run)
              (ap (λ o. finds_if_set vals object r o w) (is g w st.at.inside.program st.at.inside.world) ∙ finds_so vals object v r w many ∙ ap (λ es. Unifies r es u) (sym pairs_are)) st.went);
        }

-- ## A trial that begins

choice_some : (n : ℕ) (os : List ℕ) → choice_cells n os ≡ (if has_some os then 10 + n else 0)
choice_some n [] = refl
choice_some n (o ∷ os) = refl

-- what a trial reaches
finds_reach : (vals : List Value) (object : ℕ) (steps : List Step) (r : Registers) (fact : Option Value) (w : World) → r.heap ≤ w.meters.heap → r.heap ≤ (world_at (move_of steps r (finds_if_set vals object r fact w))).meters.heap
finds_reach vals object steps r None w h = h
finds_reach [] object steps r (Some v) w h = h
finds_reach (a ∷ []) object steps r (Some v) w h = made_heap ((a, leaf (Object object)) ∷ []) steps r w
finds_reach (a ∷ b ∷ args) object steps r (Some v) w h =
    omega (arith, made_heap ((a, leaf (Object object)) ∷ (b, copy_of v r) ∷ []) steps (behind_copy v r) (worked (copied v) w))

module _ (old : Engine) (trial : Trial) (args : Env) (place : Place) (sound : IsSound old) (some : nat_lt trial.from trial.end ≡ true) where
  -- objects may not be found there
  pub not_found : false ≡ may_find (kinds_of old.program.now) trial.place → WentWrong (BeginsAt (Things trial args) place old) old old
  not_found never = record {
    sound = sound;
    left = refl;
    limits = silent (limits_here old);
    leads = λ g n w run st.
        let r = st.at.registers in
        let vals = values_in (store_in old.store) old.refs.items args in
        let steps = steps_behind (values_in (store_in old.store) old.refs.items) old.frames.items (length old.frames.items) in
        let here : may_find (kinds_of g.program) trial.place ≡ false = ap (λ (p : CoreProgram). may_find (kinds_of p) trial.place) (sym st.at.inside.program) ∙ sym never in
        let one : branches_of g (values_in (store_in old.store) old.refs.items) old.frames.items (length old.frames.items) (Things trial args) r ≡ Clash (inside 0 r) 0 ∷ [] =
        ap (λ b. trial_branches b trial.place vals trial.many steps r (counted trial.from (trial.end - trial.from))) here
        ∙ ap (trial_branches false trial.place vals trial.many steps r) (counted_first trial.from trial.end (ltb-true trial.from trial.end some)) in
        let v = begun (inside 0 r) 0 w in
        record {
          world = v;
          adds = record { events_are = refl; typed = refl };
          holds = record {
            inside = inside_in v st.at.inside.world (peak_begun old.store (inside 0 r) 0 w (agrees_inside old.store r st.at.agrees) st.at.inside.peak) st.at.inside;
            failed = subst (λ l. Tried g Plain r.next_tag (open_in old) st.at.ways st.at.inside.lives l n w run) one st.tried;
          };
        };
  }

module _ (old : Engine) (trial : Trial) (args : Env) (b : Bool) (heap : ℕ) (place : Place) (store1 : ListBindings) (choices : Vec Choice Global) (sound : IsSound old) (left : IsLeft (length old.frames.items) (length old.refs.items) (Things trial args))
    (some : nat_lt trial.from trial.end ≡ true) (has : HasPlace old place) (same_b : b ≡ nat_lt (trial.from + 1) trial.end) (heap_is : heap ≡ (if b then 10 + args.len else 0)) (k1 : Kept (store_in old.store) (store_in store1))
    (saved1 : (ms : List Saved) → KeepsPlaces old.store ms → KeepsPlaces store1 ms) (may : true ≡ may_find (kinds_of old.program.now) trial.place) where
  abbrev s0 : Store
  s0 = store_in old.store

  abbrev s1 : Store
  s1 = store_in store1

  abbrev fs : List Frame
  fs = old.frames.items

  abbrev ys : List Ref
  ys = old.refs.items

  abbrev os : List Choice
  os = reverse old.choices.items

  abbrev pub others : Trial
  others = record trial { from = trial.from + 1 }

  abbrev o : Choice
  o = record { tag = old.newest; left = Things others args; height = length fs; refs = length ys; gathered = open_in old; place = place; stoppable = old.stoppable }

  abbrev from : Point
  from = BeginsAt (Things trial args) place old

  abbrev vals : List Value
  vals = values_in s0 ys args

  abbrev steps : List Step
  steps = steps_behind (values_in s0 ys) fs (length fs)

  abbrev rest : List ℕ
  rest = counted (trial.from + 1) (trial.end - (trial.from + 1))

  abbrev behind : Registers → Registers
  behind r = inside heap r

  abbrev branch : Registers → Branch
  branch r = Finds trial.place trial.from vals (path_of (first_alone trial.many r.next_tag steps) (behind r))

  abbrev others_of : Game → Registers → List Branch
  others_of g r = branches_of g (values_in s0 ys) fs (length fs) (Things others args) r

  heap_of : choice_cells (length vals) rest ≡ heap
  heap_of =
      choice_some (length vals) rest
      ∙ ap (λ x. if x then 10 + length vals else 0) (counted_some (trial.from + 1) trial.end ∙ sym same_b)
      ∙ ap (λ n. if b then 10 + n else 0) (values_count s0 ys args left.0)
      ∙ sym heap_is

  split : (g : Game) (r : Registers) → old.program.now ≡ g.program → branches_of g (values_in s0 ys) fs (length fs) (Things trial args) r ≡ branch r ∷ others_of g r
  split g r same =
      let yes : may_find (kinds_of g.program) trial.place ≡ true = ap (λ (p : CoreProgram). may_find (kinds_of p) trial.place) (sym same) ∙ sym may in
      ap (λ y. trial_branches y trial.place vals trial.many steps r (counted trial.from (trial.end - trial.from))) yes
      ∙ ap (trial_branches true trial.place vals trial.many steps r) (counted_first trial.from trial.end (ltb-true trial.from trial.end some))
      ∙ ap (λ h. Finds trial.place trial.from vals (path_of (first_alone trial.many r.next_tag steps) (inside h r)) ∷ object_branches trial.place vals trial.many steps r rest) heap_of
      ∙ ap (λ l. branch r ∷ l) (sym (trials_all trial.place vals trial.many steps r rest))
      ∙ ap (λ y. branch r ∷ trial_branches y trial.place vals trial.many steps r rest) (sym yes)

  abbrev live : (g : Game) (r : Registers) → List Way → Live
  live g r ways = record { kind = Plain; tag = r.next_tag; others = others_of g r; height = open_in old; ways_on = ways }

  trial_begins : (g : Game) (n : ℕ) (w : World) (run : Run) (st : from g n w run) → Began g (pushed (live g st.at.registers st.at.ways) st.at.inside.lives) st.at.ways (branch st.at.registers) n w run
  trial_begins g n w run st = subst (λ l. Tried g Plain st.at.registers.next_tag (open_in old) st.at.ways st.at.inside.lives l n w run) (split g st.at.registers st.at.inside.program) st.tried

  -- the heap is full where the choice is kept
  pub trial_full : (e : Full) → Overflows heap s0 e → FullAt from s0 e
  trial_full full.Heap h = λ g n w run st.
      let r = st.at.registers in
      let v = begun (behind r) 1 w in
      let grows : Grows (world_at (the_begins (branch r) w)) run.world = has_happened g _ st.at.ways n (Moves (the_begins (branch r) w)) run (trial_begins g n w run st) in
      omega (arith, grows.meters.heap, h, st.at.agrees.heap, finds_reach vals trial.from (first_alone trial.many r.next_tag steps) (behind r) (found w.facts trial.place trial.from) v (omega arith))
  trial_full full.Trail h = absurd h
  trial_full full.OutOfMemory h = tt

  module _ (goals : Bor (List Goal)) (charged : Charged heap s0 s1) (kept : reverse choices.items ≡ kept_if b o os) (none : goals.now ≡ []) where
    abbrev here : Frame
    here = record { goals = goals; env = record { from = 0; len = 0 }; tag = old.newest; mark = mark_of trial.many old.newest; behind = length fs }

    abbrev pub trying : Engine
    trying = record old { store = store1; choices = choices; here = here }

    others_left : IsLeft (length fs) (length ys) (Things others args)
    others_left = left

    no_refs : ys ≡ ys ++ []
    no_refs = sym (append-nil ys)

    none_held : All (Holds s1) []
    none_held = all_none (Holds s1)

    pub trying_ready : IsReady trying
    trying_ready = record {
      sound = begun_sound old (Things others args) b place store1 old.refs old.made choices sound others_left tt same_b has k1 saved1 [] no_refs none_held kept here;
      here = record { runnable = subst AreRunnable (sym none) (all_none _); older = omega arith; env = omega arith };
    }

    pub trying_limits : Silent old trying
    trying_limits = record { heap = k1.heap_limit; trail = k1.trail_limit; aux = refl; keep = refl; told = refl }

    same_values : SameBy (length ys) (values_in s0 ys) (values_in s1 ys)
    same_values = begun_values old (Things others args) b place store1 old.refs old.made choices sound others_left tt same_b has k1 saved1 [] no_refs none_held kept

    steps_now : steps_of trying ≡ first_alone trial.many old.newest steps
    steps_now =
        let vs = values_in s1 ys here.env in
        let deeper = steps_behind (values_in s1 ys) fs (length fs) in
        ap (λ l. goals_at vs old.newest l ++ mark_steps vs (mark_of trial.many old.newest) old.newest deeper) none
        ∙ marked vs trial.many old.newest old.newest deeper
        ∙ ap (first_alone trial.many old.newest) (behind_same (length ys) (values_in s0 ys) (values_in s1 ys) fs fs (length fs) (length fs) (omega arith) same_values sound.base.frames (same_here (length fs) fs))

    agrees_now : (r : Registers) → Agrees s0 r → Agrees s1 (behind r)
    agrees_now r a =
        let now = charged.state in
        record {
          bound = a.bound ∙ ap (λ (t : State). t.subst) (sym now);
          vars = a.vars ∙ ap (λ (t : State). t.vars) (sym now);
          heap = omega (arith, a.heap, ap (λ (t : State). t.heap) now);
          trail = omega (arith, a.trail, ap (λ (t : State). t.trail) now);
          since = omega (arith, a.since, ap (λ (t : State). t.since) now, ap (λ (t : State). t.vars) now);
        }

    pub trial_leads : Leads from (FindsAt trial.place trial.from args trying)
    trial_leads g n w run st =
        let r = st.at.registers in
        let v = begun (behind r) 1 w in
        let on : List Step → List Value → Move = λ l vs. move_of l (behind r) (finds_if_set vs trial.from (behind r) (found w.facts trial.place trial.from) v) in
        let now : on (first_alone trial.many r.next_tag steps) vals ≡ on (steps_of trying) (values_in s1 ys args) =
        ap (λ t. on (first_alone trial.many t steps) vals) st.at.tag ∙ ap (λ l. on l vals) (sym steps_now) ∙ ap (on (steps_of trying)) (sym (same_values args left.0)) in
        record {
          world = v;
          adds = record { events_are = refl; typed = refl };
          holds = record {
            at = begun_there old (Things others args) b place store1 old.refs old.made choices sound others_left tt same_b has k1 saved1 [] no_refs none_held kept (Things trial args) refl g n w run st here v (behind r) st.at.inside.world (peak_begun store1 (behind r) 1 w (agrees_now r st.at.agrees) (omega (arith, st.at.inside.peak, k1.heap_limit))) (agrees_now r st.at.agrees) (ap (λ i. i + 1) st.at.tag) refl;
            went = subst (λ m. Went g (pushed (live g r st.at.ways) st.at.inside.lives) st.at.ways n m run) now (trial_begins g n w run st);
          };
        }

-- ## Values behind the Refs

module _ (old : Engine) (refs1 : Vec Ref Global) (made : List Ref) (ready : IsReady old) (is : refs1.items ≡ old.refs.items ++ made) (hold : All (Holds (store_in old.store)) made) where
  abbrev s2 : Store
  s2 = store_in old.store

  abbrev before : List Ref
  before = old.refs.items

  abbrev after : List Ref
  after = refs1.items

  abbrev all_frames : List Frame
  all_frames = old.frames.items

  abbrev all_choices : List Choice
  all_choices = reverse old.choices.items

  abbrev pub grown : Engine
  grown = record old { refs = refs1 }

  pub grown_ready : IsReady grown
  grown_ready = record {
    sound = record { base = grown_base old old.store refs1 made ready (kept_same s2) (λ ms h. h) is hold; room = ready.sound.room; picks = ready.sound.picks };
    here = frame_raise (length all_frames) (length all_frames) (length before) (length after) old.here (omega arith) (grown_longer old old.store refs1 made ready (kept_same s2) (λ ms h. h) is hold) ready.here;
  }

  grown_steps : steps_of grown ≡ steps_of old
  grown_steps = at_same (length before) (values_in s2 before) (values_in s2 after) all_frames all_frames (length all_frames) old.here ready.here (grown_values old old.store refs1 made ready (kept_same s2) (λ ms h. h) is hold) ready.sound.base.frames (same_here (length all_frames) all_frames)

  module _ (place : Option ℕ) (many : Bool) (next : Engine) (end : ℕ) (push : IsPushed grown.here grown next) (may : may_find (kinds_of old.program.now) place ≡ true) (end_is : end ≡ length old.program.now.objects) (made_is : made ≡ old.made.items) where
    abbrev pub all_tried : Trial
    all_tried = record { place = place; many = many; from = 0; end = end }

    abbrev pub its_args : Env
    its_args = record { from = length before; len = length made }

    abbrev from_objects : Point
    from_objects = TriesObjectsAt place many old

    abbrev pushed_to : Engine
    pushed_to = record grown { frames = next.frames }

    pub next_limits : Silent old next
    next_limits = subst (Silent old) (sym push.same) (record { heap = refl; trail = refl; aux = refl; keep = refl; told = refl })

    pub next_left : next.left ≡ old.left
    next_left = ap (λ (e : Engine). e.left) push.same

    behind_all : steps_behind (values_in s2 after) next.frames.items (length next.frames.items) ≡ steps_of old
    behind_all = pushed_behind grown grown.here next.frames grown_ready grown_ready.here push.frames ∙ grown_steps

    args_told : values_in s2 after its_args ≡ made_values old
    args_told = ap (map (told s2)) (appended_stretch before made after (length made) is refl ∙ made_is)

    all_objects : (g : Game) → old.program.now ≡ g.program → counted 0 (end - 0) ≡ numbers 0 g.program.objects
    all_objects g same =
        let many : end - 0 ≡ length g.program.objects = omega (arith, end_is, ap (λ (p : CoreProgram). length p.objects) same) in
        ap (counted 0) many ∙ sym (numbers_counted 0 g.program.objects)

    all_branches : (g : Game) (r : Registers) → old.program.now ≡ g.program → branches_of g (values_in s2 after) next.frames.items (length next.frames.items) (Things all_tried its_args) r ≡ object_branches place (made_values old) many (steps_of old) r (numbers 0 g.program.objects)
    all_branches g r same =
        let yes : may_find (kinds_of g.program) place ≡ true = ap (λ (p : CoreProgram). may_find (kinds_of p) place) (sym same) ∙ may in
        ap (λ b. trial_branches b place (values_in s2 after its_args) many (steps_behind (values_in s2 after) next.frames.items (length next.frames.items)) r (counted 0 (end - 0))) yes
        ∙ ap (λ l. trial_branches true place (values_in s2 after its_args) many l r (counted 0 (end - 0))) behind_all
        ∙ ap (λ vs. trial_branches true place vs many (steps_of old) r (counted 0 (end - 0))) args_told
        ∙ ap (trial_branches true place (made_values old) many (steps_of old) r) (all_objects g same)
        ∙ trials_all place (made_values old) many (steps_of old) r (numbers 0 g.program.objects)

    opens_there : Leads from_objects (OpensAt (Things all_tried its_args) pushed_to)
    opens_there g n w run st =
        let r = st.at.registers in
        let bs = object_branches place (made_values old) many (steps_of old) r (numbers 0 g.program.objects) in
        let at = st.at in
        record {
          world = w;
          adds = adds_nothing w;
          holds = record {
            at = pushed_there grown grown.here next.frames grown_ready grown_ready.here push.frames (old.newest + 1) g w (record {
              inside = record {
                program = at.inside.program;
                entries = at.inside.entries;
                lives = at.inside.lives;
                lives_are = at.inside.lives_are;
                saved = at.inside.saved;
                keeps = at.inside.keeps;
                choices = grown_choices old old.store refs1 made ready (kept_same s2) (λ ms h. h) is hold g at.inside.saved at.inside.entries at.inside.choices;
                world = at.inside.world;
                peak = at.inside.peak;
              };
              ways = at.ways;
              ways_are = at.ways_are;
              registers = at.registers;
              agrees = at.agrees;
              tag = at.tag;
              stop = at.stop;
            });
            tried =
                subst (λ l. Tried g Plain r.next_tag (open_in old) at.ways at.inside.lives l n w run) (sym (all_branches g r at.inside.program))
                (subst (λ i. Tried g Plain r.next_tag i at.ways at.inside.lives bs n w run) (sym (open_still old.lasting g w at.inside.world))
                (chosen g at.inside.lives at.ways n run r.next_tag bs w st.came));
          };
        }

    pub objects_open : Leads from_objects (OpensAt (Things all_tried its_args) next)
    objects_open = subst (λ (e : Engine). Leads from_objects (OpensAt (Things all_tried its_args) e)) (sym push.same) opens_there

-- there are no objects
no_numbers : {A : Type 0} (xs : List A) → length xs ≡ 0 → numbers 0 xs ≡ []
no_numbers xs none = numbers_counted 0 xs ∙ ap (counted 0) none

pub no_objects : (place : Option ℕ) (many : Bool) (old : Engine) → length old.program.now.objects ≡ 0 → Leads (TriesObjectsAt place many old) (FailsAt old)
no_objects place many old none g n w run st =
    let r = st.at.registers in
    let here : numbers 0 g.program.objects ≡ [] = no_numbers g.program.objects (ap (λ (p : CoreProgram). length p.objects) (sym st.at.inside.program) ∙ none) in
    record {
      world = w;
      adds = adds_nothing w;
      holds = record {
        inside = st.at.inside;
        failed = subst (λ os. After g st.at.inside.lives st.at.ways n (outcome_of (steps_of old) r (Offers Plain (object_branches place (made_values old) many (steps_of old) r os) w)) run) here st.came;
      };
    }
