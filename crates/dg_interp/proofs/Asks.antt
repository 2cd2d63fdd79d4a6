-- A query is asked.
use Rattle.std.proofs.Common.{◌≡◌, ℕ, zero, suc, ◌+◌, ◌^◌, ◌<◌, ◌≤◌, List, [], ◌∷◌, ◌++◌, true, refl, sym, ap, ◌∙◌, subst, arith, length, length-append, map, take, Bor}
use Rattle.std.specs.Prelude.{slice_get, reverse}
use Rattle.std.specs.List.{All}
use Rattle.std.specs.declared.vec.Vec.{Vec}
use Rattle.std.specs.declared.alloc.Global.{Global}
use Rattle.dg_base.specs.declared.program.Goal.{Goal, out-Goal}
use Rattle.dg_base.specs.declared.program.Goal.TheVariants.{Ask, outs-Ask}
use Rattle.dg_base.specs.declared.program.Term.{Term}
use Rattle.dg_base.specs.declared.program.Rule.{Rule}
use Rattle.dg_base.specs.declared.program.Pred.{Pred}
use Rattle.dg_base.specs.declared.program.CoreProgram.{CoreProgram}
use Rattle.dg_base.specs.Goals.{terms_held}
use Rattle.dg_meaning.specs.Values.{Value, value_of}
use Rattle.dg_meaning.specs.World.{Game, World, Asked, HasFailed, noted, worked}
use Rattle.dg_meaning.specs.inside.Context.{Way, Live}
use Rattle.dg_meaning.specs.Path.{Registers, Branch, Rules as RulesOf, Outcome}
use Rattle.dg_meaning.specs.Moves.{first_looks, rule_branches, rules_of, choice, outcome}
use Rattle.dg_meaning.specs.Cells.{cells}
use Rattle.dg_meaning.specs.Transcript.{Run}
use Rattle.dg_meaning.specs.inside.Keeps.{After, Tried}
use Rattle.dg_interp.specs.Runnable.{IsRunnableRule}
use Rattle.dg_unify.specs.Store.{Store, State, Saved, Holds, Kept, marked, told}
use Rattle.dg_unify.specs.declared.bindings.Ref.{Ref}
use Rattle.dg_unify.specs.Laws.{saves_drops}
use Rattle.dg_unify.specs.Listed.{fields_of}
use Rattle.dg_unify.specs.declared.bindings.Full.{Full}
use Rattle.dg_unify.specs.declared.bindings.Mark.{Mark as Place}
use Rattle.dg_unify.specs.declared.list.ListBindings.{ListBindings}
use Rattle.dg_choices.specs.declared.frames.Query.{Query}
use Rattle.dg_choices.specs.declared.frames.Env.{Env}
use Rattle.dg_choices.specs.declared.frames.Frame.{Frame}
use Rattle.dg_choices.specs.declared.frames.Choice.{Choice}
use Rattle.dg_choices.specs.declared.frames.Left.TheVariants.{Rules}
use Rattle.dg_interp.specs.declared.engine.Engine.{Engine}
use Rattle.dg_watch.specs.declared.watch.CallEvent.{CallEvent}
use Rattle.dg_watch.specs.declared.watch.CallEvent.TheVariants as call
use Rattle.dg_interp.specs.inside.Rules.{ArgsWritten}
use Rattle.dg_terms.specs.Terms.{Overflows, Written}
use Rattle.dg_interp.specs.inside.Frames.{stretch, values_in, steps_behind, AreChoices, AreFrames, IsLeft, StandOn, GoBackTo}
use Rattle.dg_interp.specs.inside.Engine.{store_in, open_in, KeepsPlaces, HasPlace, IsPlace, Point, IsSound, IsReady, TakesAt, FailsAt, BeginsAt, FullAt, with_all, Adds, LeadsBy, Tells, steps_of}
use Rattle.dg_unify.specs.inside.Engines.{Agrees}
use Rattle.dg_interp.proofs.Links.{SameBy, same_here, same_append, behind_new, at_same, frame_raise, frames_append, choices_same, stand_raise, stand_same}
use Rattle.dg_unify.proofs.StoreLemmas.{kept_same, all_hold}
use Rattle.dg_interp.proofs.Stores.{values_kept, hold_front, appended_stretch}
use Rattle.dg_interp.proofs.Kept.{back_limits}
use Rattle.dg_interp.proofs.Grown.{grown_front, grown_longer, grown_values, grown_hold, grown_back, grown_base, grown_choices}
use Rattle.dg_interp.proofs.Places.{open_still}
use Rattle.dg_interp.proofs.Takes.{behind, taken_in, comes_of, terms_full, peak_taken}
use Rattle.dg_interp.proofs.Turns.{all_first, all_rest}

-- the rules of a runnable program
pub rules_runnable : (preds : List Pred) (i : ℕ) → All (λ (pred : Pred). All IsRunnableRule pred.rules) preds → All IsRunnableRule (rules_of (slice_get preds i))
rules_runnable [] i h = λ k d lt. absurd (omega arith)
rules_runnable (pred ∷ preds) zero h = all_first (λ (p : Pred). All IsRunnableRule p.rules) pred preds h
rules_runnable (pred ∷ preds) (suc i) h = rules_runnable preds i (all_rest (λ (p : Pred). All IsRunnableRule p.rules) pred preds h)

pub nothing_in : (rules : List Rule) → length rules ≤ 0 → rules ≡ []
nothing_in [] h = refl
nothing_in (x ∷ rules) h = absurd (omega arith)

-- the heap is full where its arguments are written
pub args_full : (query : Query) (terms : List Term) (old : Engine) (e : Full) → ((program : CoreProgram) → old.program.now ≡ program → Overflows (cells program terms) (store_in old.store) e) → FullAt (TakesAt (Ask query.pred terms query.many) old) (store_in old.store) e
args_full query terms old e h =
    terms_full (Ask query.pred terms query.many) old e
    (λ g same. subst (λ x. Overflows (cells g.program (terms_held x)) (store_in old.store) e) (sym (outs-Ask query.pred terms query.many)) (h g.program same))

-- a query is tried
chosen_rules : (g : Game) (lives : List Live) (ways : List Way) (n : ℕ) (run : Run) (q t : ℕ) (bs : List Branch) (w : World) → After g lives ways n (choice (RulesOf q) t bs w) run → Tried g (RulesOf q) t (length w.gathered) ways lives bs n w run
chosen_rules g lives ways n run q t [] w h = h
chosen_rules g lives ways n run q t (b ∷ bs) w h = h

module _ (old : Engine) (query : Query) (terms : List Term) (store1 : ListBindings) (refs1 made1 : Vec Ref Global) (args : Env) (ready : IsReady old) (k1 : Kept (store_in old.store) (store_in store1)) (saved1 : (ms : List Saved) → KeepsPlaces old.store ms → KeepsPlaces store1 ms)
    (written : (program : CoreProgram) → old.program.now ≡ program → ArgsWritten program (values_in (store_in old.store) old.refs.items old.here.env) terms (store_in old.store) (store_in store1) old.refs.items refs1.items args) where
  abbrev s : Store
  s = store_in old.store

  abbrev s1 : Store
  s1 = store_in store1

  abbrev xs : List Ref
  xs = old.refs.items

  abbrev ys : List Ref
  ys = refs1.items

  abbrev fs : List Frame
  fs = old.frames.items

  abbrev os : List Choice
  os = reverse old.choices.items

  abbrev x : Goal
  x = Ask query.pred terms query.many

  abbrev from : Point
  from = TakesAt x old

  abbrev there : ArgsWritten old.program.now (values_in s xs old.here.env) terms s s1 xs ys args
  there = written old.program.now refl

  abbrev made : List Ref
  made = there.written.appended.made

  front : take (length xs) ys ≡ take (length xs) xs
  front = grown_front old store1 refs1 made ready k1 saved1 there.written.appended.is there.written.appended.hold

  longer : length xs ≤ length ys
  longer = grown_longer old store1 refs1 made ready k1 saved1 there.written.appended.is there.written.appended.hold

  same_values : SameBy (length xs) (values_in s xs) (values_in s1 ys)
  same_values = grown_values old store1 refs1 made ready k1 saved1 there.written.appended.is there.written.appended.hold

  hold : All (Holds s1) ys
  hold = grown_hold old store1 refs1 made ready k1 saved1 there.written.appended.is there.written.appended.hold

  -- the values of the arguments
  args_are : (g : Game) → old.program.now ≡ g.program → values_in s1 ys args ≡ map (value_of g.program (values_in s xs old.here.env)) terms
  args_are g same =
      ap (λ i. values_in s1 ys (record { from = i; len = args.len })) there.from
      ∙ ap (map (told s1)) (appended_stretch xs made ys args.len there.written.appended.is there.count)
      ∙ there.written.appended.values ∙ ap (λ p. map (value_of p (values_in s xs old.here.env)) terms) same

  -- the registers behind its terms
  abbrev r_of : (g : Game) (n : ℕ) (w : World) (run : Run) → from g n w run → Registers
  r_of g n w run st = behind x old g n w run st

  abbrev looked_in : (g : Game) (n : ℕ) (w : World) (run : Run) → from g n w run → World
  looked_in g n w run st = worked (first_looks (r_of g n w run st) (values_in s1 ys args)) (taken_in x old g n w run st)

  abbrev asked_in : (g : Game) (n : ℕ) (w : World) (run : Run) → from g n w run → World
  asked_in g n w run st = noted (Asked query.pred) (looked_in g n w run st)

  agrees_written : (g : Game) (n : ℕ) (w : World) (run : Run) (st : from g n w run) → Agrees s1 (r_of g n w run st)
  agrees_written g n w run st =
      let here = (written g.program st.at.inside.program).written.charged.state in
      let form : cells g.program (terms_held (out-Goal x)) ≡ cells g.program terms = ap (λ f. cells g.program (terms_held f)) (outs-Ask query.pred terms query.many) in
      record {
        bound = st.at.agrees.bound ∙ ap (λ (t : State). t.subst) (sym here);
        vars = st.at.agrees.vars ∙ ap (λ (t : State). t.vars) (sym here);
        heap = omega (arith, st.at.agrees.heap, form, ap (λ (t : State). t.heap) here);
        trail = omega (arith, st.at.agrees.trail, ap (λ (t : State). t.trail) here);
        since = omega (arith, st.at.agrees.since, ap (λ (t : State). t.since) here, ap (λ (t : State). t.vars) here);
      }

  adds_asked : (g : Game) (n : ℕ) (w : World) (run : Run) (st : from g n w run) → Adds (Asked query.pred ∷ []) w (asked_in g n w run st)
  adds_asked g n w run st = record { events_are = refl; typed = refl }

  abbrev branches : (g : Game) (n : ℕ) (w : World) (run : Run) → from g n w run → List Rule → List Branch
  branches g n w run st rules = rule_branches g query.pred (values_in s1 ys args) query.many (steps_of old) (r_of g n w run st) rules

  asked : (rules : List Rule) → rules ≡ rules_of (slice_get old.program.now.preds query.pred) → (g : Game) (n : ℕ) (w : World) (run : Run) (st : from g n w run) →
      After g st.at.inside.lives st.at.ways n (choice (RulesOf query.pred) (r_of g n w run st).next_tag (branches g n w run st rules) (asked_in g n w run st)) run
  asked rules are g n w run st =
      let r = r_of g n w run st in
      let values = values_in s xs old.here.env in
      let v = taken_in x old g n w run st in
      let as_asked = ap (λ f. outcome g f values old.here.tag (steps_of old) r v) (outs-Ask query.pred terms query.many) in
      let on : List Rule → List Value → Outcome = λ rs vs. choice (RulesOf query.pred) r.next_tag (rule_branches g query.pred vs query.many (steps_of old) r rs) (noted (Asked query.pred) (worked (first_looks r vs) v)) in
      let here : rules_of (slice_get g.program.preds query.pred) ≡ rules = ap (λ (p : CoreProgram). rules_of (slice_get p.preds query.pred)) (sym st.at.inside.program) ∙ sym are in
      subst (λ m. After g st.at.inside.lives st.at.ways n m run) (as_asked ∙ ap (λ rs. on rs (map (value_of g.program values) terms)) here ∙ ap (on rules) (sym (args_are g st.at.inside.program))) (comes_of x old g n w run st)

  module _ (told : Vec CallEvent Global) (rules : Bor (List Rule)) (are : rules.now ≡ rules_of (slice_get old.program.now.preds query.pred)) where
    -- no rule is there
    abbrev pub failing : Engine
    failing = record old { store = store1; refs = refs1; made = made1; told = told }

    abbrev pub ask_tells : (calls : List CallEvent) → told.items ≡ with_all old.told.items calls → Tells old failing
    ask_tells calls is = record { heap = k1.heap_limit; trail = k1.trail_limit; aux = refl; keep = refl; calls = calls; told = is }

    failing_keeps : KeepsPlaces store1 ready.sound.base.places.saved
    failing_keeps = saved1 ready.sound.base.places.saved ready.sound.base.places.keeps

    failing_back : GoBackTo ys s1.heap_limit s1.trail_limit os ready.sound.base.places.saved
    failing_back = grown_back old store1 refs1 made ready k1 saved1 there.written.appended.is there.written.appended.hold

    pub failing_sound : IsSound failing
    failing_sound = record { base = grown_base old store1 refs1 made ready k1 saved1 there.written.appended.is there.written.appended.hold; room = ready.sound.room; picks = ready.sound.picks }

    choices_now : (g : Game) (ms : List Saved) (cs : List Live) → AreChoices g xs fs os ms cs → AreChoices g ys fs os ms cs
    choices_now g ms cs h = grown_choices old store1 refs1 made ready k1 saved1 there.written.appended.is there.written.appended.hold g ms cs h

    pub asks_none : rules.now ≡ [] → LeadsBy (call.Asked query.pred ∷ call.Failed query.pred ∷ []) from (FailsAt failing)
    asks_none none g n w run st =
        let v = asked_in g n w run st in
        record {
          world = noted (HasFailed query.pred) v;
          adds = record { events_are = refl; typed = refl };
          holds = record {
            inside = record {
              program = st.at.inside.program;
              entries = st.at.inside.entries;
              lives = st.at.inside.lives;
              lives_are = st.at.inside.lives_are;
              saved = st.at.inside.saved;
              keeps = saved1 st.at.inside.saved st.at.inside.keeps;
              choices = choices_now g st.at.inside.saved st.at.inside.entries st.at.inside.choices;
              world = st.at.inside.world;
              peak = peak_taken x old store1 g n w run st (agrees_written g n w run st) (omega (arith, st.at.inside.peak, k1.heap_limit));
            };
            failed = asked [] (sym none ∙ are) g n w run st;
          };
        }

    module _ (place : Place) (frames : Vec Frame Global) (store2 : ListBindings) (pushed_on : frames.items ≡ fs ++ old.here ∷ []) (k2 : Kept s1 (store_in store2)) (state2 : (store_in store2).state ≡ marked s1.state)
        (saved2 : (ms : List Saved) → KeepsPlaces store1 ms → KeepsPlaces store2 (record { mark = place; store = store_in store2 } ∷ ms)) where
      abbrev s2 : Store
      s2 = store_in store2

      abbrev gs : List Frame
      gs = fs ++ old.here ∷ []

      abbrev pub asking : Engine
      asking = record old { store = store2; refs = refs1; made = made1; frames = frames; newest = old.newest + 1; told = told }

      count : length gs ≡ length fs + 1
      count = length-append fs (old.here ∷ [])

      frames_now : AreFrames (length gs) (length ys) gs
      frames_now = frames_append (length ys) fs old.here failing_sound.base.frames (frame_raise (length fs) (length fs) (length xs) (length ys) old.here (omega arith) longer ready.here)

      stand : StandOn gs (length gs) (length ys) (old.newest + 1) os
      stand = stand_raise gs (length fs) (length gs) (length ys) (length ys) old.newest (old.newest + 1) os (omega (arith, count)) (omega arith) (omega arith) (stand_same fs gs (length fs) (length ys) old.newest os (same_append fs old.here) failing_sound.base.choices)

      place_now : (ms : List Saved) → KeepsPlaces store1 ms → IsPlace asking place (record { mark = place; store = s2 }) ms
      place_now ms h = record { keeps = saved2 ms h; place_is = refl; hold = all_hold s1 s2 ys k2 hold; kept = kept_same s2 }

      back_now : GoBackTo ys s2.heap_limit s2.trail_limit os ready.sound.base.places.saved
      back_now = back_limits ys s1.heap_limit s1.trail_limit s2.heap_limit s2.trail_limit os ready.sound.base.places.saved (sym k2.heap_limit) (sym k2.trail_limit) failing_back

      pub asking_place : HasPlace asking place
      asking_place = record { back = record { mark = place; store = s2 }; saved = ready.sound.base.places.saved; is = place_now ready.sound.base.places.saved failing_keeps; back_to = back_now }

      abbrev pub asking_tells : (calls : List CallEvent) → told.items ≡ with_all old.told.items calls → Tells old asking
      asking_tells calls is = record { heap = k2.heap_limit ∙ k1.heap_limit; trail = k2.trail_limit ∙ k1.trail_limit; aux = refl; keep = refl; calls = calls; told = is }

      pub asking_sound : old.newest + 1 + old.left < 2 ^ 64 → IsSound asking
      asking_sound room = record {
        base = record {
          program = ready.sound.base.program;
          sound = ready.sound.base.sound;
          hold = all_hold s1 s2 ys k2 hold;
          frames = subst (λ (l : List Frame). AreFrames (length l) (length ys) l) (sym pushed_on) frames_now;
          choices = subst (λ (l : List Frame). StandOn l (length l) (length ys) (old.newest + 1) os) (sym pushed_on) stand;
          places = record { saved = ready.sound.base.places.saved; keeps = saves_drops true (fields_of store2) _ _ (saved2 ready.sound.base.places.saved failing_keeps); back_to = back_now };
        };
        room = room;
        picks = ready.sound.picks;
      }

      pub asking_left : IsLeft (length frames.items) (length ys) (Rules query args rules)
      asking_left =
          (subst (λ (l : List Rule). All IsRunnableRule l) (sym are) (rules_runnable old.program.now.preds query.pred ready.sound.base.program.preds), omega (arith, there.from, there.count, ap length there.written.appended.is, length-append xs made))

      values2 : SameBy (length ys) (values_in s1 ys) (values_in s2 ys)
      values2 = values_kept (length ys) s1 s2 ys ys k2 (hold_front s1 ys hold) refl

      steps_now : steps_behind (values_in s2 ys) frames.items (length frames.items) ≡ steps_of old
      steps_now =
          ap (λ (l : List Frame). steps_behind (values_in s2 ys) l (length l)) pushed_on
          ∙ ap (steps_behind (values_in s2 ys) gs) count
          ∙ behind_new (length ys) (values_in s2 ys) fs old.here failing_sound.base.frames ready.here.older
          ∙ at_same (length xs) (values_in s xs) (values_in s2 ys) fs fs (length fs) old.here ready.here (λ env ends. values2 env (omega (arith, ends, longer)) ∙ same_values env ends) ready.sound.base.frames (same_here (length fs) fs)

      agrees_now : (g : Game) (n : ℕ) (w : World) (run : Run) (st : from g n w run) → Agrees s2 (r_of g n w run st)
      agrees_now g n w run st =
          let a = agrees_written g n w run st in
          record {
            bound = a.bound ∙ ap (λ (t : State). t.subst) (sym state2);
            vars = a.vars ∙ ap (λ (t : State). t.vars) (sym state2);
            heap = a.heap ∙ ap (λ (t : State). t.heap) (sym state2);
            trail = omega (arith, a.trail, ap (λ (t : State). t.trail) state2);
            since = omega (arith, ap (λ (t : State). t.since) state2, ap (λ (t : State). t.vars) state2);
          }

      pub asks_some : LeadsBy (call.Asked query.pred ∷ []) from (BeginsAt (Rules query args rules) place asking)
      asks_some g n w run st =
          let r = r_of g n w run st in
          record {
            world = asked_in g n w run st;
            adds = adds_asked g n w run st;
            holds = record {
              at = record {
                inside = record {
                  program = st.at.inside.program;
                  entries = st.at.inside.entries;
                  lives = st.at.inside.lives;
                  lives_are = st.at.inside.lives_are;
                  saved = st.at.inside.saved;
                  keeps = saves_drops true (fields_of store2) (record { mark = place; store = s2 }) st.at.inside.saved (place_now st.at.inside.saved (saved1 st.at.inside.saved st.at.inside.keeps)).keeps;
                  choices = subst (λ l. AreChoices g ys l os st.at.inside.saved st.at.inside.entries) (sym pushed_on)
                      (choices_same g ys ys fs gs (length fs) (length ys) old.newest os st.at.inside.saved st.at.inside.entries refl (same_append fs old.here) failing_sound.base.choices (choices_now g st.at.inside.saved st.at.inside.entries st.at.inside.choices));
                  world = st.at.inside.world;
                  peak = peak_taken x old store2 g n w run st (agrees_now g n w run st) (omega (arith, st.at.inside.peak, k1.heap_limit, k2.heap_limit));
                };
                ways = st.at.ways;
                ways_are = st.at.ways_are;
                registers = r;
                agrees = agrees_now g n w run st;
                tag = st.at.tag;
                stop = st.at.stop;
              };
              back = record { mark = place; store = s2 };
              is = place_now st.at.inside.saved (saved1 st.at.inside.saved st.at.inside.keeps);
              back_agrees = agrees_now g n w run st;
              newest = tt;
              tried =
                  let same : rule_branches g query.pred (values_in s2 ys args) query.many (steps_behind (values_in s2 ys) frames.items (length frames.items)) r rules.now ≡ branches g n w run st rules.now =
                  ap (λ l. rule_branches g query.pred (values_in s2 ys args) query.many l r rules.now) steps_now
                  ∙ ap (λ vs. rule_branches g query.pred vs query.many (steps_of old) r rules.now) (values2 args (omega (arith, there.from, there.count, ap length there.written.appended.is, length-append xs made))) in
                  subst (λ l. Tried g (RulesOf query.pred) r.next_tag (open_in old) st.at.ways st.at.inside.lives l n (asked_in g n w run st) run) (sym same)
                  (subst (λ i. Tried g (RulesOf query.pred) r.next_tag i st.at.ways st.at.inside.lives (branches g n w run st rules.now) n (asked_in g n w run st) run) (sym (open_still old.lasting g w st.at.inside.world))
                  (chosen_rules g st.at.inside.lives st.at.ways n run query.pred r.next_tag (branches g n w run st rules.now) (asked_in g n w run st) (asked rules.now are g n w run st)));
            };
          }

-- ## Arguments

pub args_written : (program : CoreProgram) (terms : List Term) (s t : Store) (refs before made behind : List Ref) (env : Env) (args : Env) (part : List Ref) → part ≡ stretch refs env → before ≡ [] → behind ≡ refs ++ made → args.from ≡ length refs → args.len ≡ length made →
    Written (cells program terms) (map (value_of program (map (told s) part)) terms) s t before made → ArgsWritten program (values_in s refs env) terms s t refs behind args
args_written program terms s t refs before made _ env args part is empty appended from len h =
    let same : h.appended.made ≡ made = sym (h.appended.is ∙ ap (λ l. l ++ h.appended.made) empty) in
    record {
      written = record {
        charged = h.charged;
        appended = record {
          made = made;
          is = appended;
          hold = subst (All (Holds t)) same h.appended.hold;
          values = ap (map (told t)) (sym same) ∙ h.appended.values ∙ ap (λ l. map (value_of program (map (told s) l)) terms) is;
        };
      };
      from = from;
      count = len;
    }
