-- A rule of a query begins, or fails where it begins.
use Rattle.std.proofs.Common.{◌≡◌, ℕ, zero, suc, ◌+◌, ◌<◌, ◌≤◌, List, [], ◌∷◌, ◌++◌, Bool, true, false, Option, refl, sym, ap, ◌∙◌, subst, arith, length, length-append, map, Bor}
use Rattle.std.specs.Prelude.{reverse}
use Rattle.std.specs.List.{All, zip}
use Rattle.std.proofs.lemmas.List.{length-map}
use Rattle.std.specs.declared.vec.Vec.{Vec}
use Rattle.std.specs.declared.alloc.Global.{Global}
use Rattle.dg_base.specs.declared.program.Goal.{Goal}
use Rattle.dg_base.specs.declared.program.Rule.{Rule}
use Rattle.dg_base.specs.declared.program.CoreProgram.{CoreProgram}
use Rattle.dg_meaning.specs.Values.{Value, value_of}
use Rattle.dg_meaning.specs.inside.Substitutions.{IsSubstitution, Extends}
use Rattle.dg_meaning.specs.Unify.{Unified, solve}
use Rattle.dg_meaning.specs.World.{Game, World}
use Rattle.dg_meaning.specs.Path.{Step, Registers, Path, Branch, Enter, Clash, Plain, Rules as RulesOf, Moves}
use Rattle.dg_meaning.specs.Moves.{begun, inside, enter, path_of, choice_cells, begins as the_begins, enter_if, is_excluded, call_cells, unless_excluded, entering, older_bound, rule_steps, vars_of, new_vars, entered, match, matched, rule_branch, rule_branches}
use Rattle.dg_meaning.specs.Transcript.{Run}
use Rattle.dg_meaning.specs.inside.Context.{Way, Live}
use Rattle.dg_meaning.specs.inside.Keeps.{Stands, Began, Tried}
use Rattle.dg_interp.specs.Runnable.{AreRunnable, IsRunnableRule}
use Rattle.dg_meaning.proofs.Keeps.{has_happened}
use Rattle.dg_meaning.proofs.Solving.{solve_extends}
use Rattle.dg_unify.specs.Store.{Store, State, Saved, Kept, Charged, told, trail_of}
use Rattle.dg_unify.specs.Laws.{saves_drops}
use Rattle.dg_unify.specs.Listed.{fields_of}
use Rattle.dg_unify.specs.declared.bindings.Ref.{Ref}
use Rattle.dg_unify.specs.declared.bindings.Full.{Full}
use Rattle.dg_unify.specs.declared.bindings.Full.TheVariants as full
use Rattle.dg_unify.specs.declared.bindings.Mark.{Mark as Place}
use Rattle.dg_unify.specs.declared.list.ListBindings.{ListBindings}
use Rattle.dg_choices.specs.declared.frames.Query.{Query}
use Rattle.dg_choices.specs.declared.frames.Env.{Env}
use Rattle.dg_choices.specs.declared.frames.Mark.TheVariants.{AnswerOf}
use Rattle.dg_choices.specs.declared.frames.Frame.{Frame}
use Rattle.dg_choices.specs.declared.frames.Left.TheVariants.{Rules, Way as OneWay, Behind}
use Rattle.dg_choices.specs.declared.frames.Choice.{Choice}
use Rattle.dg_choices.specs.declared.frames.Left.{Left}
use Rattle.dg_interp.specs.declared.engine.Engine.{Engine}
use Rattle.dg_terms.specs.Terms.{Overflows}
use Rattle.dg_terms.specs.Passing.{IsCandidate}
use Rattle.dg_meaning.specs.Selection.{first_excludes, from_candidate}
use Rattle.dg_interp.specs.inside.Rules.{rule_cells, matched_in, EntersRule, RuleFull}
use Rattle.dg_interp.specs.inside.Frames.{values_in, frame_steps, steps_behind, steps_at, kind_of, branches_of, IsFrame, IsLeft}
use Rattle.dg_interp.specs.inside.Engine.{store_in, KeepsPlaces, HasPlace, Point, IsSound, BeginsAt, FullAt, Adds, Silent, WentOn, WentWrong, kept_if, open_in}
use Rattle.dg_unify.specs.inside.Engines.{Agrees}
use Rattle.dg_interp.proofs.Places.{silent, peak_begun, agrees_inside}
use Rattle.dg_interp.proofs.Links.{SameBy, same_here, behind_same}
use Rattle.dg_unify.proofs.StoreLemmas.{kept_on}
use Rattle.dg_interp.proofs.Stores.{values_kept, hold_front, appended_stretch, values_count, trail_append, trail_older, made_is}
use Rattle.dg_interp.proofs.Begun.{begun_values, begun_sound, begun_stands, begun_fails}
use Rattle.dg_interp.proofs.Turns.{all_first, all_rest, reverse_pop}

-- ## Peaks

-- where a branch begins its counts are reached
pub began_peaks : (g : Game) (lives : List Live) (ways : List Way) (b : Bool) (path : Path) (work n : ℕ) (w : World) (run : Run) → Began g lives ways (enter_if b path work) n w run →
    (path.registers.heap ≤ run.world.meters.heap) × (path.registers.trail ≤ run.world.meters.trail)
began_peaks g lives ways true path work n w run h =
    let later = (has_happened g lives ways n (Moves (the_begins (Enter path work) w)) run h).meters in (omega (arith, later.heap), omega (arith, later.trail))
began_peaks g lives ways false path work n w run h =
    let later = (has_happened g lives ways n (Moves (the_begins (Clash path.registers work) w)) run h).meters in (omega (arith, later.heap), omega (arith, later.trail))

-- ## What a rule makes of registers

-- the registers behind a matched head agree with the store
module _ (g : Game) (rule : Rule) (args : List Value) (heap : ℕ) (s s1 s2 : Store) (r : Registers) (agrees : Agrees s r) (sub : IsSubstitution s.state.subst) (charged : Charged heap s s1) where
  abbrev u : Unified
  u = match g args rule r

  abbrev behind : Registers
  behind = matched u r (entered g heap rule r)

  meant : matched_in g.program rule args s1 ≡ u
  meant =
      ap (λ (t : State). solve t.subst (zip args (map (value_of g.program (new_vars rule.vars t.vars)) rule.head))) charged.state
      ∙ ap (λ S. solve S (zip args (map (value_of g.program (new_vars rule.vars s.state.vars)) rule.head))) (sym agrees.bound)
      ∙ ap (λ n. solve r.bound (zip args (map (value_of g.program (new_vars rule.vars n)) rule.head))) (sym agrees.vars)

  extends : Extends r.bound u.subst
  extends = solve_extends r.bound _ (subst IsSubstitution (sym agrees.bound) sub)

  -- what the head's bindings take of the trail
  taken : (since : ℕ) → trail_of since u.subst ≡ trail_of since extends.made + trail_of since r.bound
  taken since = ap (trail_of since) extends.is ∙ trail_append since extends.made r.bound

  counted_trail : behind.trail ≡ r.trail + older_bound r.next_var extends.made
  counted_trail = ap (λ made. r.trail + older_bound r.next_var made) (made_is extends.made r.bound u.subst extends.is)

  since_is : s1.state.since ≡ s.state.since
  since_is = ap (λ (t : State). t.since) charged.state

  older : trail_of s1.state.since extends.made ≤ older_bound r.next_var extends.made
  older = trail_older s1.state.since r.next_var extends.made (omega (arith, since_is, agrees.since, agrees.vars))

  module _ (refs refs' : List Ref) (found : Bool) (enters : EntersRule g.program rule args s1 s2 refs refs' found) where
    pub rule_found : found ≡ u.agrees
    rule_found = enters.agrees ∙ ap (λ (v : Unified). v.agrees) meant

    bound_same : s1.state.subst ≡ r.bound
    bound_same = ap (λ (t : State). t.subst) charged.state ∙ sym agrees.bound

    trail_same : s2.state.trail + trail_of s1.state.since r.bound ≡ s1.state.trail + trail_of s1.state.since u.subst
    trail_same =
        ap (λ S. s2.state.trail + trail_of s1.state.since S) (sym bound_same)
        ∙ enters.trail
        ∙ ap (λ (v : Unified). s1.state.trail + trail_of s1.state.since v.subst) meant

    pub rule_agrees : Agrees s2 behind
    rule_agrees =
        let heap1 : s1.state.heap ≡ s.state.heap + heap = ap (λ (t : State). t.heap) charged.state in
        let vars1 : s1.state.vars ≡ s.state.vars = ap (λ (t : State). t.vars) charged.state in
        let trail1 : s1.state.trail ≡ s.state.trail = ap (λ (t : State). t.trail) charged.state in
        let now = taken s1.state.since in
        record {
          bound = sym (enters.subst ∙ ap (λ (v : Unified). v.subst) meant);
          vars = omega (arith, enters.vars, vars1, agrees.vars);
          heap = omega (arith, enters.heap, heap1, agrees.heap);
          trail = omega (arith, trail_same, now, older, counted_trail, trail1, agrees.trail);
          since = omega (arith, enters.since, since_is, enters.vars, vars1, agrees.since);
        }

    pub rule_vars : map (told s2) enters.appended.made ≡ vars_of rule r
    rule_vars = enters.appended.values ∙ ap (λ (t : State). new_vars rule.vars t.vars) charged.state ∙ ap (new_vars rule.vars) (sym agrees.vars)

  -- a limit that is met there is below the counts behind
  pub rule_heap : (limit : ℕ) → limit < s1.state.heap + rule_cells g.program rule → limit < behind.heap
  rule_heap limit h = let heap1 : s1.state.heap ≡ s.state.heap + heap = ap (λ (t : State). t.heap) charged.state in omega (arith, h, heap1, agrees.heap)

  pub rule_trail : (limit : ℕ) → limit + trail_of s1.state.since s1.state.subst < s1.state.trail + trail_of s1.state.since (matched_in g.program rule args s1).subst → limit < behind.trail
  rule_trail limit h =
      let now = taken s1.state.since in
      let same : trail_of s1.state.since s1.state.subst ≡ trail_of s1.state.since r.bound = ap (trail_of s1.state.since) (ap (λ (t : State). t.subst) charged.state ∙ sym agrees.bound) in
      let same' : trail_of s1.state.since (matched_in g.program rule args s1).subst ≡ trail_of s1.state.since u.subst = ap (λ (v : Unified). trail_of s1.state.since v.subst) meant in
      let trail1 : s1.state.trail ≡ s.state.trail = ap (λ (t : State). t.trail) charged.state in
      omega (arith, h, now, same, same', older, counted_trail, trail1, agrees.trail)

-- ## The engine

pub kept_more : (b : Bool) (o : Choice) (xs ys : List Choice) → b ≡ true → ys ≡ xs ++ o ∷ [] → reverse ys ≡ kept_if b o (reverse xs)
kept_more b o xs ys h e = reverse_pop ys xs o e ∙ ap (λ x. kept_if x o (reverse xs)) (sym h)

module _ (old : Engine) (query : Query) (args : Env) (rules others : Bor (List Rule)) (rule : Rule) (place : Place) (store1 : ListBindings) (choices : Vec Choice Global) (sound : IsSound old)
    (left : IsLeft (length old.frames.items) (length old.refs.items) (Rules query args rules)) (has : HasPlace old place) (split : rules.now ≡ rule ∷ others.now) (later : List Rule) (later_is : later ≡ from_candidate (store_in old.store).state.subst (values_in (store_in old.store) old.refs.items args) others.now) (candidate : IsCandidate (store_in old.store) (values_in (store_in old.store) old.refs.items args) rules.now)
    (k1 : Kept (store_in old.store) (store_in store1)) (saved1 : (ms : List Saved) → KeepsPlaces old.store ms → KeepsPlaces store1 ms) where
  abbrev s : Store
  s = store_in old.store

  abbrev s1 : Store
  s1 = store_in store1

  abbrev fs : List Frame
  fs = old.frames.items

  abbrev xs : List Ref
  xs = old.refs.items

  abbrev os : List Choice
  os = reverse old.choices.items

  abbrev heap : ℕ
  heap = choice_cells args.len later

  abbrev o : Choice
  o = record { tag = old.newest; left = Rules query args others; height = length fs; refs = length xs; gathered = open_in old; place = place; stoppable = old.stoppable }

  abbrev from : Point
  from = BeginsAt (Rules query args rules) place old

  abbrev the_args : List Value
  the_args = values_in s xs args

  abbrev steps : List Step
  steps = steps_behind (values_in s xs) fs (length fs)

  runnable_all : All IsRunnableRule (rule ∷ others.now)
  runnable_all = subst (All IsRunnableRule) split left.0

  pub rule_runnable : IsRunnableRule rule
  rule_runnable = all_first IsRunnableRule rule others.now runnable_all

  others_fit : IsLeft (length fs) (length xs) (Rules query args others)
  others_fit = (all_rest IsRunnableRule rule others.now runnable_all, left.1)

  abbrev branches : Registers → Game → List Branch
  branches r g = rule_branches g query.pred the_args query.many steps r others.now

  abbrev lives_now : Game → Registers → List Live → List Way → List Live
  lives_now g r lives ways = record { kind = RulesOf query.pred; tag = r.next_tag; others = branches r g; height = open_in old; ways_on = ways } ∷ lives

  abbrev behind_of : Game → Registers → Registers
  behind_of g r = matched (match g the_args rule r) r (entered g heap rule r)

  -- the branch of the rule, which isn't excluded
  abbrev branch : Registers → Game → Branch
  branch r g = enter_if (match g the_args rule r).agrees (path_of (rule_steps query.pred query.many (vars_of rule r) r.next_tag rule steps) (behind_of g r)) (entering g the_args rule r)

  same_heap : (r : Registers) → Agrees s r → call_cells the_args r others.now ≡ heap
  same_heap r agrees =
      ap (λ S. choice_cells (length the_args) (from_candidate S the_args others.now)) agrees.bound
      ∙ ap (choice_cells (length the_args)) (sym later_is)
      ∙ ap (λ n. choice_cells n later) (values_count s xs args left.1)

  not_excluded : (r : Registers) → Agrees s r → is_excluded the_args r rule ≡ false
  not_excluded r agrees = ap (λ S. first_excludes S the_args rule.head) agrees.bound ∙ subst (IsCandidate s the_args) split candidate

  branch_is : (g : Game) (r : Registers) → Agrees s r → rule_branch g query.pred the_args query.many steps r (call_cells the_args r others.now) rule ≡ branch r g
  branch_is g r agrees =
      ap (λ h. rule_branch g query.pred the_args query.many steps r h rule) (same_heap r agrees)
      ∙ ap (λ b. unless_excluded b r (entering g the_args rule r) (branch r g)) (not_excluded r agrees)

  begins : (g : Game) (n : ℕ) (w : World) (run : Run) (st : from g n w run) → Began g (lives_now g st.at.registers st.at.inside.lives st.at.ways) st.at.ways (branch st.at.registers g) n w run
  begins g n w run st =
      let r = st.at.registers in
      subst (λ b. Began g (lives_now g r st.at.inside.lives st.at.ways) st.at.ways b n w run) (branch_is g r st.at.agrees)
      (subst (λ l. Tried g (RulesOf query.pred) r.next_tag (open_in old) st.at.ways st.at.inside.lives (rule_branches g query.pred the_args query.many steps r l) n w run) split st.tried)

  sub : IsSubstitution s.state.subst
  sub = old.store.sound.fits.sound

  -- the heap is full where the choice is kept
  pub keep_full : (e : Full) → Overflows heap s e → FullAt from s e
  keep_full full.Heap h = λ g n w run st.
      let r = st.at.registers in
      let peaks = began_peaks g _ st.at.ways (match g the_args rule r).agrees _ _ n w run (begins g n w run st) in
      omega (arith, peaks.0, h, st.at.agrees.heap)
  keep_full full.Trail h = absurd h
  keep_full full.OutOfMemory h = tt

  module _ (charged : Charged heap s s1) where
    -- heap or trail is full where the rule is entered
    pub enter_full : (e : Full) → ((program : CoreProgram) → old.program.now ≡ program → RuleFull program rule (values_in s1 xs args) s1 e) → FullAt from s e
    enter_full full.Heap h = λ g n w run st.
        let r = st.at.registers in
        let peaks = began_peaks g _ st.at.ways (match g the_args rule r).agrees _ _ n w run (begins g n w run st) in
        let less = rule_heap g rule the_args heap s s1 s1 r st.at.agrees sub charged s.heap_limit (omega (arith, h g.program st.at.inside.program, k1.heap_limit)) in
        omega (arith, peaks.0, less)
    enter_full full.Trail h = λ g n w run st.
        let r = st.at.registers in
        let same : values_in s1 xs args ≡ the_args = values_kept (length xs) s s1 xs xs k1 (hold_front s xs sound.base.hold) refl args left.1 in
        let here = subst (λ vs. RuleFull g.program rule vs s1 full.Trail) same (h g.program st.at.inside.program) in
        let peaks = began_peaks g _ st.at.ways (match g the_args rule r).agrees _ _ n w run (begins g n w run st) in
        let less = rule_trail g rule the_args heap s s1 s1 r st.at.agrees sub charged s.trail_limit (omega (arith, here, k1.trail_limit)) in
        omega (arith, peaks.1, less)
    enter_full full.OutOfMemory h = tt

    module _ (store2 : ListBindings) (refs2 made2 : Vec Ref Global) (found : Bool) (kept : reverse choices.items ≡ kept_if true o os) (k2 : Kept s1 (store_in store2)) (saved2 : (ms : List Saved) → KeepsPlaces store1 ms → KeepsPlaces store2 ms)
        (enters : (program : CoreProgram) → old.program.now ≡ program → EntersRule program rule (values_in s1 xs args) s1 (store_in store2) xs refs2.items found) where
      abbrev s2 : Store
      s2 = store_in store2

      abbrev ys : List Ref
      ys = refs2.items

      same_args : values_in s1 xs args ≡ the_args
      same_args = values_kept (length xs) s s1 xs xs k1 (hold_front s xs sound.base.hold) refl args left.1

      does : (g : Game) → old.program.now ≡ g.program → EntersRule g.program rule the_args s1 s2 xs ys found
      does g there = subst (λ vs. EntersRule g.program rule vs s1 s2 xs ys found) same_args (enters g.program there)

      k12 : Kept s s2
      k12 = kept_on s s1 s2 k1 k2

      abbrev ends : EntersRule old.program.now rule (values_in s1 xs args) s1 s2 xs ys found
      ends = enters old.program.now refl

      saved12 : (ms : List Saved) → KeepsPlaces old.store ms → KeepsPlaces store2 ms
      saved12 ms h = saved2 ms (saved1 ms h)

      abbrev new : Frame → Engine
      new here = record old { store = store2; refs = refs2; choices = choices; made = made2; here = here }

      values_now : SameBy (length xs) (values_in s xs) (values_in s2 ys)
      values_now = begun_values old (Rules query args others) true place store2 refs2 made2 choices sound others_fit tt refl has k12 saved12 ends.appended.made ends.appended.is ends.appended.hold kept

      rule_sound : (here : Frame) → IsSound (new here)
      rule_sound = begun_sound old (Rules query args others) true place store2 refs2 made2 choices sound others_fit tt refl has k12 saved12 ends.appended.made ends.appended.is ends.appended.hold kept

      adds_begun : (r : Registers) (work : ℕ) (w : World) → Adds [] w (begun r work w)
      adds_begun r work w = record { events_are = refl; typed = refl }

      limits : (here : Frame) → Silent old (new here)
      limits here = record { heap = k12.heap_limit; trail = k12.trail_limit; aux = refl; keep = refl; told = refl }

      -- its head doesn't match
      pub rule_wrong : found ≡ false → WentWrong from old (new old.here)
      rule_wrong is = record {
        sound = rule_sound old.here;
        left = refl;
        limits = silent (limits old.here);
        leads = λ g n w run st.
            let r = st.at.registers in
            let none : (match g the_args rule r).agrees ≡ false = sym (rule_found g rule the_args heap s s1 s2 r st.at.agrees sub charged xs ys found (does g st.at.inside.program)) ∙ is in
            let work = entering g the_args rule r in
            record {
              world = begun (behind_of g r) work w;
              adds = adds_begun (behind_of g r) work w;
              holds = begun_fails old (Rules query args others) true place store2 refs2 made2 choices sound others_fit tt refl has k12 saved12 ends.appended.made ends.appended.is ends.appended.hold kept (Rules query args rules) refl g n w run st old.here (begun (behind_of g r) work w) st.at.inside.world
                  (peak_begun store2 (behind_of g r) work w (rule_agrees g rule the_args heap s s1 s2 r st.at.agrees sub charged xs ys found (does g st.at.inside.program)) (omega (arith, st.at.inside.peak, k12.heap_limit)))
                  (subst (λ b. Began g (lives_now g r st.at.inside.lives st.at.ways) st.at.ways (enter_if b (path_of (rule_steps query.pred query.many (vars_of rule r) r.next_tag rule steps) (behind_of g r)) work) n w run) none (begins g n w run st));
            };
      }

      module _ (goals : Bor (List Goal)) (body : goals.now ≡ rule.body) where
        abbrev here : Frame
        here = record { goals = goals; env = record { from = length xs; len = rule.vars }; tag = old.newest; mark = AnswerOf query; behind = length fs }

        vars_count : (g : Game) → (there : old.program.now ≡ g.program) → rule.vars ≡ length (does g there).appended.made
        vars_count g there = sym (sym (length-map (does g there).appended.made (told s2)) ∙ ap length (does g there).appended.values ∙ made_count rule.vars s1.state.vars)
          where
            made_count : (n next : ℕ) → length (new_vars n next) ≡ n
            made_count zero next = refl
            made_count (suc n) next = ap suc (made_count n (suc next))

        values_made : (g : Game) (r : Registers) → old.program.now ≡ g.program → Agrees s r → values_in s2 ys here.env ≡ vars_of rule r
        values_made g r there agrees = ap (map (told s2)) (appended_stretch xs (does g there).appended.made ys rule.vars (does g there).appended.is (vars_count g there)) ∙ rule_vars g rule the_args heap s s1 s2 r agrees sub charged xs ys found (does g there)

        same_steps : (g : Game) (r : Registers) → old.program.now ≡ g.program → Agrees s r → r.next_tag ≡ old.newest → steps_at (values_in s2 ys) fs here ≡ rule_steps query.pred query.many (vars_of rule r) r.next_tag rule steps
        same_steps g r there agrees tag =
            ap (λ vs. frame_steps vs goals.now old.newest (AnswerOf query) (steps_behind (values_in s2 ys) fs (length fs))) (values_made g r there agrees)
            ∙ ap (λ l. frame_steps (vars_of rule r) goals.now old.newest (AnswerOf query) l) (behind_same (length xs) (values_in s xs) (values_in s2 ys) fs fs (length fs) (length fs) (omega arith) values_now sound.base.frames (same_here (length fs) fs))
            ∙ ap (λ (l : List Goal). frame_steps (vars_of rule r) l old.newest (AnswerOf query) steps) body
            ∙ ap (λ t. rule_steps query.pred query.many (vars_of rule r) t rule steps) (sym tag)

        -- it begins
        pub rule_begun : found ≡ true → WentOn from old (new here)
        rule_begun is = record {
          ready = record {
            sound = rule_sound here;
            here = record {
              runnable = subst AreRunnable (sym body) rule_runnable;
              older = omega arith;
              env = let g : Game = record { program = old.program.now; dice = [] } in omega (arith, vars_count g refl, ap length (does g refl).appended.is, length-append xs (does g refl).appended.made);
            };
          };
          left = refl;
          limits = silent (limits here);
          leads = λ g n w run st.
              let r = st.at.registers in
              let yes' : (match g the_args rule r).agrees ≡ true = sym (rule_found g rule the_args heap s s1 s2 r st.at.agrees sub charged xs ys found (does g st.at.inside.program)) ∙ is in
              let work = entering g the_args rule r in
              let s' = behind_of g r in
              let agrees = rule_agrees g rule the_args heap s s1 s2 r st.at.agrees sub charged xs ys found (does g st.at.inside.program) in
              record {
                world = begun s' work w;
                adds = adds_begun s' work w;
                holds = begun_stands old (Rules query args others) true place store2 refs2 made2 choices sound others_fit tt refl has k12 saved12 ends.appended.made ends.appended.is ends.appended.hold kept (Rules query args rules) refl g n w run st here (begun s' work w) s' st.at.inside.world (peak_begun store2 s' work w agrees (omega (arith, st.at.inside.peak, k12.heap_limit)))
                    agrees (ap (λ i. i + 1) st.at.tag) refl
                    (subst (λ l. Stands g (lives_now g r st.at.inside.lives st.at.ways) st.at.ways (path_of l s') n (begun s' work w) run) (sym (same_steps g r st.at.inside.program st.at.agrees st.at.tag))
                    (subst (λ b. Began g (lives_now g r st.at.inside.lives st.at.ways) st.at.ways (enter_if b (path_of (rule_steps query.pred query.many (vars_of rule r) r.next_tag rule steps) s') work) n w run) yes' (begins g n w run st)));
              };
        }

-- ## A way on

module _ (old : Engine) (left : Left) (frame : Frame) (place : Place) (sound : IsSound old) (is : IsFrame (length old.frames.items) (length old.refs.items) frame)
    (alone : (g : Game) (values : Env → List Value) (fs : List Frame) (r : Registers) → branches_of g values fs (length old.frames.items) left r ≡ enter 0 0 r (steps_at values fs frame) ∷ []) (plain : kind_of left ≡ Plain) where
  pub way_begun : WentOn (BeginsAt left place old) old (record old { here = frame })
  way_begun = record {
    ready = record { sound = record { base = sound.base; room = sound.room; picks = sound.picks }; here = is };
    left = refl;
    limits = record { heap = refl; trail = refl; aux = refl; keep = refl; calls = []; told = refl };
    leads = λ g n w run st.
        let r = st.at.registers in
        let v = begun (inside 0 r) 0 w in
        record {
          world = v;
          adds = record { events_are = refl; typed = refl };
          holds = record {
            at = record {
              inside = record {
                program = st.at.inside.program;
                entries = st.at.inside.entries;
                lives = st.at.inside.lives;
                lives_are = st.at.inside.lives_are;
                saved = st.at.inside.saved;
                keeps = saves_drops true (fields_of old.store) st.back st.at.inside.saved st.is.keeps;
                choices = st.at.inside.choices;
                world = st.at.inside.world;
                peak = peak_begun old.store (inside 0 r) 0 w (agrees_inside old.store r st.at.agrees) st.at.inside.peak;
              };
              ways = st.at.ways;
              ways_are = st.at.ways_are;
              registers = inside 0 r;
              agrees = agrees_inside old.store r st.at.agrees;
              tag = ap (λ k. k + 1) st.at.tag;
              stop = st.at.stop;
            };
            stands = subst (λ k. Tried g k r.next_tag (open_in old) st.at.ways st.at.inside.lives (enter 0 0 r (steps_at (values_in (store_in old.store) old.refs.items) old.frames.items frame) ∷ []) n w run) plain
                (subst (λ l. Tried g (kind_of left) r.next_tag (open_in old) st.at.ways st.at.inside.lives l n w run) (alone g (values_in (store_in old.store) old.refs.items) old.frames.items r) st.tried);
          };
        };
  }

pub one_way_begun : (old : Engine) (frame : Frame) (place : Place) → IsSound old → IsFrame (length old.frames.items) (length old.refs.items) frame → WentOn (BeginsAt (OneWay frame) place old) old (record old { here = frame })
one_way_begun old frame place sound is = way_begun old (OneWay frame) frame place sound is (λ g values fs r. refl) refl

pub part_begun : (old : Engine) (frame : Frame) (cut : Option ℕ) (place : Place) → IsSound old → IsFrame (length old.frames.items) (length old.refs.items) frame → WentOn (BeginsAt (Behind frame cut) place old) old (record old { here = frame })
part_begun old frame cut place sound is = way_begun old (Behind frame cut) frame place sound is (λ g values fs r. refl) refl
