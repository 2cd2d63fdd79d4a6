-- Rules that a query passes by.
use Rattle.std.proofs.Common.{◌≡◌, ℕ, suc, ◌≤◌, ◌-◌, List, [], ◌∷◌, ◌++◌, true, Option, refl, sym, ap, ◌∙◌, subst, arith, length, Bor}
use Rattle.std.specs.List.{All}
use Rattle.std.proofs.lemmas.Bool.{cond_both}
use Rattle.std.specs.Prelude.{max, replicate}
use Rattle.std.specs.declared.vec.Vec.{Vec}
use Rattle.std.specs.declared.alloc.Global.{Global}
use Rattle.dg_base.specs.declared.program.Rule.{Rule}
use Rattle.dg_meaning.specs.Values.{Value}
use Rattle.dg_meaning.specs.World.{Game, World, HasFailed, noted}
use Rattle.dg_meaning.specs.Path.{Step, Registers, Clash, Rules as RulesOf}
use Rattle.dg_meaning.specs.Selection.{first_excludes, from_candidate}
use Rattle.dg_meaning.specs.Moves.{begun, inside, is_excluded, call_cells, unless_excluded, enter_if, path_of, rule_steps, vars_of, entered, match, matched, entering, rule_branch, rule_branches}
use Rattle.dg_meaning.specs.Transcript.{Run}
use Rattle.dg_meaning.specs.inside.Context.{Live, Way}
use Rattle.dg_meaning.specs.inside.Keeps.{Failed, Began, Tried, tried_in}
use Rattle.dg_interp.specs.Runnable.{IsRunnableRule}
use Rattle.dg_meaning.proofs.Keeps.{failed, tries}
use Rattle.dg_unify.specs.Store.{Store}
use Rattle.dg_unify.specs.Laws.{saves_drops}
use Rattle.dg_unify.specs.Listed.{fields_of}
use Rattle.dg_unify.specs.declared.bindings.Mark.{Mark as Place}
use Rattle.dg_unify.specs.declared.bindings.View.{View}
use Rattle.dg_choices.specs.declared.frames.Query.{Query}
use Rattle.dg_choices.specs.declared.frames.Env.{Env}
use Rattle.dg_choices.specs.declared.frames.Left.TheVariants.{Rules}
use Rattle.dg_interp.specs.declared.engine.Engine.{Engine}
use Rattle.dg_watch.specs.declared.watch.CallEvent.{CallEvent}
use Rattle.dg_watch.specs.declared.watch.CallEvent.TheVariants as call
use Rattle.dg_interp.specs.inside.Frames.{values_in, steps_behind, IsLeft}
use Rattle.dg_lasting.specs.Lasting.{InWorld}
use Rattle.dg_interp.proofs.Kept.{rules_open}
use Rattle.dg_interp.specs.inside.Engine.{store_in, open_in, Point, IsSound, HasPlace, FailsAt, BeginsAt, with_all, events_of, again_rules, Adds, LeadsBy, Leads, Tells, WentWrong}
use Rattle.dg_terms.specs.Passing.{IsFirst, IsCandidate, PassesTo}
use Rattle.dg_interp.proofs.Places.{peak_begun, agrees_inside, peak_drops, peak_tried, there_in, world_still, world_tried, adds_nothing, adds_on, adds_drops, tried_events, adds_tried, all_on, leads_by, leads_then, leads_to, leads_nowhere}
use Rattle.dg_interp.proofs.Turns.{all_rest}

candidates_runnable : (S : _) (args : List Value) (rules : List Rule) → All IsRunnableRule rules → All IsRunnableRule (from_candidate S args rules)
candidates_runnable S args [] h = h
candidates_runnable S args (rule ∷ rules) h = cond_both (first_excludes S args rule.head) (from_candidate S args rules) (rule ∷ rules) (All IsRunnableRule) (λ e. candidates_runnable S args rules (all_rest IsRunnableRule rule rules h)) (λ e. h)

fewer_candidates : (S : _) (args : List Value) (rules : List Rule) → length (from_candidate S args rules) ≤ length rules
fewer_candidates S args [] = omega arith
fewer_candidates S args (rule ∷ rules) =
    cond_both (first_excludes S args rule.head) (from_candidate S args rules) (rule ∷ rules) (λ l. length l ≤ length (rule ∷ rules)) (λ e. omega (arith, fewer_candidates S args rules)) (λ e. omega arith)

module _ (old : Engine) (query : Query) (args : Env) (place : Place) (sound : IsSound old) where
  abbrev s : Store
  s = store_in old.store

  abbrev the_args : List Value
  the_args = values_in s old.refs.items args

  abbrev steps : List Step
  steps = steps_behind (values_in s old.refs.items) old.frames.items (length old.frames.items)

  abbrev at : Bor (List Rule) → Point
  at rules = BeginsAt (Rules query args rules) place old

  abbrev bor : Bor (List Rule) → List Rule → Bor (List Rule)
  bor b rules = record { ref_ptr = b.ref_ptr; now = rules }

  -- where these branches are tried
  abbrev TriedAt : Game → Registers → List Way → List Live → List Rule → ℕ → World → Run → Type 0
  TriedAt g r ways lives rules n w run = Tried g (RulesOf query.pred) r.next_tag (open_in old) ways lives (rule_branches g query.pred the_args query.many steps r rules) n w run

  at_tried : (b b' : Bor (List Rule)) (rules : List Rule) (g : Game) (n : ℕ) (w v : World) (run : Run) → b'.now ≡ rules → InWorld old.lasting g v → v.meters.heap ≤ s.heap_limit → (st : at b g n w run) → TriedAt g st.at.registers st.at.ways st.at.inside.lives rules n v run → at b' g n v run
  at_tried b b' rules g n w v run e is peak st tried = record {
    at = there_in v is peak st.at;
    back = st.back;
    is = st.is;
    back_agrees = st.back_agrees;
    newest = tt;
    tried = subst (λ l. TriedAt g st.at.registers st.at.ways st.at.inside.lives l n v run) (sym e) tried;
  }

  same_at : (b b' : Bor (List Rule)) → b.now ≡ b'.now → Leads (at b) (at b')
  same_at b b' e g n w run st = record { world = w; adds = adds_nothing w; holds = at_tried b b' b.now g n w w run (sym e) st.at.inside.world st.at.inside.peak st st.tried }

  -- an excluded rule fails as it begins
  passes_one : (b : Bor (List Rule)) (rule : Rule) (rules : List Rule) → first_excludes s.state.subst the_args rule.head ≡ true → LeadsBy (again_rules query.pred rules) (at (bor b (rule ∷ rules))) (at (bor b rules))
  passes_one b rule rules excluded g n w run st =
      let r = st.at.registers in
      let work = entering g the_args rule r in
      let bs = rule_branches g query.pred the_args query.many steps r rules in
      let c : Live = record { kind = RulesOf query.pred; tag = r.next_tag; others = bs; height = open_in old; ways_on = st.at.ways } in
      let v = begun (inside 0 r) work w in
      let is : is_excluded the_args r rule ≡ true = ap (λ S. first_excludes S the_args rule.head) st.at.agrees.bound ∙ excluded in
      let wrong : Failed g (c ∷ st.at.inside.lives) n v run =
      subst (λ x. Began g (c ∷ st.at.inside.lives) st.at.ways x n w run) (passed g r rule (call_cells the_args r rules) is) st.tried in
      let f = failed g (c ∷ st.at.inside.lives) n v run wrong in
      let begun_adds : Adds [] w v = record { events_are = refl; typed = refl } in
      let tried = tried_events (RulesOf query.pred) bs in
      let dropped = adds_drops v f.world f.drops in
      let u = tried_in (RulesOf query.pred) bs f.world in
      let reached = peak_begun old.store (inside 0 r) work w (agrees_inside old.store r st.at.agrees) st.at.inside.peak in
      let peak = peak_tried s.heap_limit (RulesOf query.pred) bs f.world (peak_drops s.heap_limit v f.world f.drops reached) in
      let still = world_still old.lasting g v f.world st.at.inside.world f.drops (f.gatherings ∙ rules_open g query.pred the_args query.many steps r rules (open_in old)) in
      record {
        world = u;
        adds = subst (λ es. Adds es w u) (again_so r rules) (adds_on w f.world u [] tried (adds_on w v f.world [] [] begun_adds dropped) (adds_tried (RulesOf query.pred) bs f.world));
        holds = at_tried (bor b (rule ∷ rules)) (bor b rules) rules g n w u run refl (world_tried old.lasting g (RulesOf query.pred) bs f.world still) peak st (tries g c st.at.inside.lives n f.world run f.resumed);
      }
    where
      again_so : (r : Registers) (rules : List Rule) → tried_events (RulesOf query.pred) (rule_branches g query.pred the_args query.many steps r rules) ≡ events_of (again_rules query.pred rules)
      again_so r [] = refl
      again_so r (rule ∷ rules) = refl

      passed : (g : Game) (r : Registers) (rule : Rule) (heap : ℕ) → is_excluded the_args r rule ≡ true → rule_branch g query.pred the_args query.many steps r heap rule ≡ Clash (inside 0 r) (entering g the_args rule r)
      passed g r rule heap is = ap (λ b. unless_excluded b r (entering g the_args rule r) (enter_if (match g the_args rule r).agrees (path_of (rule_steps query.pred query.many (vars_of rule r) r.next_tag rule steps) (matched (match g the_args rule r) r (entered g heap rule r))) (entering g the_args rule r))) is

  -- a rule that is passed by is told before the next
  told_on : (rules : List Rule) (m : ℕ) → m ≤ length rules → again_rules query.pred rules ++ replicate (length rules - max m 1) (call.Retried query.pred) ≡ replicate (suc (length rules) - max m 1) (call.Retried query.pred)
  told_on [] m le =
      let same : 0 - max m 1 ≡ 1 - max m 1 = omega (arith, le) in
      ap (λ i. replicate i (call.Retried query.pred)) same
  told_on (rule ∷ rules) m le =
      let same : suc (suc (length rules) - max m 1) ≡ suc (suc (length rules)) - max m 1 = omega (arith, le) in
      ap (λ i. replicate i (call.Retried query.pred)) same

  passes_all : (b : Bor (List Rule)) (rules : List Rule) → LeadsBy (replicate (length rules - max (length (from_candidate s.state.subst the_args rules)) 1) (call.Retried query.pred)) (at (bor b rules)) (at (bor b (from_candidate s.state.subst the_args rules)))
  passes_all b [] = leads_nowhere (at (bor b []))
  passes_all b (rule ∷ rules) =
      cond_both (first_excludes s.state.subst the_args rule.head) (from_candidate s.state.subst the_args rules) (rule ∷ rules)
      (λ l. LeadsBy (replicate (suc (length rules) - max (length l) 1) (call.Retried query.pred)) (at (bor b (rule ∷ rules))) (at (bor b l)))
      (λ e.
      let left = from_candidate s.state.subst the_args rules in
      subst (λ cs. LeadsBy cs (at (bor b (rule ∷ rules))) (at (bor b left))) (told_on rules (length left) (fewer_candidates s.state.subst the_args rules))
      (leads_by (again_rules query.pred rules) (replicate (length rules - max (length left) 1) (call.Retried query.pred)) (at (bor b (rule ∷ rules))) (at (bor b rules)) (at (bor b left)) (passes_one b rule rules e) (passes_all b rules)))
      (λ e.
      let none : suc (length rules) - max (suc (length rules)) 1 ≡ 0 = omega arith in
      subst (λ i. LeadsBy (replicate i (call.Retried query.pred)) (at (bor b (rule ∷ rules))) (at (bor b (rule ∷ rules)))) (sym none) (leads_nowhere (at (bor b (rule ∷ rules)))))

  module _ (rules left : Bor (List Rule)) (first : Option View) (is_first : IsFirst s the_args first) (passed : PassesTo first rules.now left.now) where
    are : left.now ≡ from_candidate s.state.subst the_args rules.now
    are = passed.begin s the_args is_first

    abbrev pub passed_calls : List CallEvent
    passed_calls = replicate (length rules.now - max (length left.now) 1) (call.Retried query.pred)

    pub passes : LeadsBy passed_calls (at rules) (at left)
    passes =
        let goal = from_candidate s.state.subst the_args rules.now in
        let calls = replicate (length rules.now - max (length goal) 1) (call.Retried query.pred) in
        subst (λ (l : List Rule). LeadsBy (replicate (length rules.now - max (length l) 1) (call.Retried query.pred)) (at rules) (at left)) (sym are)
        (leads_then calls (at rules) (at (bor rules rules.now)) (at left) (same_at rules (bor rules rules.now) refl)
        (leads_to calls (at (bor rules rules.now)) (at (bor rules goal)) (at left) (passes_all rules rules.now) (same_at (bor rules goal) left (sym are))))

    pub passes_told : (told : Vec CallEvent Global) → LeadsBy passed_calls (at rules) (BeginsAt (Rules query args left) place (record old { told = told }))
    passes_told told =
        leads_to passed_calls (at rules) (at left) (BeginsAt (Rules query args left) place (record old { told = told })) passes
        (λ g n w run st. record { world = w; adds = adds_nothing w; holds = record { at = st.at; back = st.back; is = st.is; back_agrees = st.back_agrees; newest = tt; tried = st.tried } })

    abbrev pub passed_tells : (told : Vec CallEvent Global) → told.items ≡ with_all old.told.items passed_calls → Tells old (record old { told = told })
    passed_tells told is = record { heap = refl; trail = refl; aux = refl; keep = refl; calls = passed_calls; told = is }

    pub passed_left : IsLeft (length old.frames.items) (length old.refs.items) (Rules query args rules) → IsLeft (length old.frames.items) (length old.refs.items) (Rules query args left)
    passed_left is = (subst (All IsRunnableRule) (sym are) (candidates_runnable s.state.subst the_args rules.now is.0), is.1)

    pub passed_candidate : IsCandidate s the_args left.now
    passed_candidate = passed.candidate s the_args is_first

    pub passed_fewer : length left.now ≤ length rules.now
    passed_fewer = subst (λ (l : List Rule). length l ≤ length rules.now) (sym are) (fewer_candidates s.state.subst the_args rules.now)

    none_tried : (told : Vec CallEvent Global) → left.now ≡ [] → LeadsBy (call.Failed query.pred ∷ []) (at left) (FailsAt (record old { told = told }))
    none_tried told e g n w run st = record {
      world = noted (HasFailed query.pred) w;
      adds = record { events_are = refl; typed = refl };
      holds = record {
        inside = record {
          program = st.at.inside.program;
          entries = st.at.inside.entries;
          lives = st.at.inside.lives;
          lives_are = st.at.inside.lives_are;
          saved = st.at.inside.saved;
          keeps = saves_drops true (fields_of old.store) st.back st.at.inside.saved st.is.keeps;
          choices = st.at.inside.choices;
          world = st.at.inside.world;
          peak = st.at.inside.peak;
        };
        failed = subst (λ l. TriedAt g st.at.registers st.at.ways st.at.inside.lives l n w run) e st.tried;
      };
    }

    -- none is left
    pub none_left : (told before : Vec CallEvent Global) → left.now ≡ [] → before.items ≡ with_all old.told.items passed_calls → told.items ≡ before.items ++ call.Failed query.pred ∷ [] → WentWrong (at rules) old (record old { told = told })
    none_left told before e is now = record {
      sound = record { base = sound.base; room = sound.room; picks = sound.picks };
      left = refl;
      limits = record {
        heap = refl;
        trail = refl;
        aux = refl;
        keep = refl;
        calls = passed_calls ++ call.Failed query.pred ∷ [];
        told = now ∙ ap (λ l. l ++ call.Failed query.pred ∷ []) is ∙ all_on old.told.items passed_calls (call.Failed query.pred ∷ []);
      };
      leads = leads_by passed_calls (call.Failed query.pred ∷ []) (at rules) (at left) (FailsAt (record old { told = told })) passes (none_tried told e);
    }

-- ## More was told

pub told_sound : (old : Engine) (told : Vec CallEvent Global) → IsSound old → IsSound (record old { told = told })
told_sound old told sound = record { base = sound.base; room = sound.room; picks = sound.picks }

pub told_place : (old : Engine) (told : Vec CallEvent Global) (place : Place) → HasPlace old place → HasPlace (record old { told = told }) place
told_place old told place has = record { back = has.back; saved = has.saved; is = has.is; back_to = has.back_to }
