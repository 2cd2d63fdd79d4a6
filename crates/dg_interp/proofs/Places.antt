-- Where an engine stands, and how it goes on from there.
use Rattle.std.proofs.Common.{◌≡◌, ◌≢◌, ℕ, zero, suc, ◌+◌, ◌-◌, ◌≤◌, List, [], ◌∷◌, ◌++◌, Option, Some, true, false, refl, sym, ap, ◌∙◌, subst, arith, length, take, drop, get_or, length-take, append_assoc}
use Rattle.std.specs.Prelude.{max, slice_get, reverse}
use Rattle.std.proofs.lemmas.Option.{slice_get-get_or}
use Rattle.std.proofs.lemmas.List.{append-nil, length-map, length-drop, drop_all}
use Rattle.std.specs.declared.vec.Vec.{Vec}
use Rattle.std.specs.declared.alloc.Global.{Global}
use Rattle.dg_base.specs.declared.program.CoreProgram.{CoreProgram}
use Rattle.dg_base.specs.declared.run.Ending.TheVariants.{Done}
use Rattle.dg_meaning.specs.World.{Game, World, Event, Answered, Retried, noted}
use Rattle.dg_meaning.specs.Path.{Step, Answers, Cut, Registers, Result, End, Branch, ChoiceKind, Plain, Rules, Shield, Gathers}
use Rattle.dg_meaning.specs.Moves.{path_of, first_alone, begun, inside}
use Rattle.dg_meaning.specs.Peaks.{Area, Heap, Trail, Aux, Keep}
use Rattle.dg_meaning.specs.Transcript.{Run}
use Rattle.dg_meaning.specs.inside.Context.{Live, cut_to, Drops}
use Rattle.dg_meaning.specs.inside.Keeps.{Stands, Finished, tried_in}
use Rattle.dg_meaning.proofs.Keeps.{passes_answer, passes_cut, passes_leave, passes_refuse, passes_back, done}
use Rattle.dg_meaning.specs.Values.{Value}
use Rattle.dg_unify.specs.Store.{Saved}
use Rattle.dg_unify.specs.declared.bindings.Ref.{Ref}
use Rattle.dg_choices.specs.declared.frames.Env.{Env}
use Rattle.dg_unify.specs.Laws.{saves_drops}
use Rattle.dg_unify.specs.Listed.{fields_of}
use Rattle.dg_unify.specs.declared.list.ListBindings.{ListBindings}
use Rattle.dg_choices.specs.declared.frames.Query.{Query}
use Rattle.dg_choices.specs.declared.frames.Mark.{Mark}
use Rattle.dg_choices.specs.declared.frames.Mark.TheVariants.{Nothing, AnswerOf, CutTo, RefuseTo, Exhausted, LeavePart, Keep as KeepIn}
use Rattle.dg_choices.specs.declared.frames.Frame.{Frame}
use Rattle.dg_choices.specs.declared.frames.Choice.{Choice}
use Rattle.dg_interp.specs.declared.engine.Engine.{Engine}
use Rattle.dg_watch.specs.declared.watch.CallEvent.{CallEvent}
use Rattle.dg_watch.specs.declared.watch.CallEvent.TheVariants as call
use Rattle.dg_interp.specs.inside.Frames.{values_in, mark_steps, frame_steps, steps_behind, steps_at, lives_of, ways_of, AreChoices, IsFrame, AreFrames, StandOn, GoBackTo, floor_of, all_left}
use Rattle.dg_interp.specs.inside.Engine.{store_in, limit_in, KeepsPlaces, Within, On, There, Sound, IsReady, Point, StandsAt, FailsAt, with_all, events_of, event_of, Adds, Then, LeadsBy, Leads, branches_left, SameLimits, Silent, Tells, WentOn, WentWrong, EndsAt, HasEndedSo, MarkPassed, Refused, FrameLeft, steps_of}
use Rattle.dg_choices.specs.inside.Cutting.{older_than, Cuts}
use Rattle.dg_lasting.specs.declared.lasting.Lasting.{Lasting}
use Rattle.dg_lasting.specs.Lasting.{row_of, InWorld}
use Rattle.dg_interp.specs.inside.Gathering.{KeepsAt}
use Rattle.dg_unify.specs.inside.Engines.{Agrees}
use Rattle.dg_interp.proofs.Links.{same_take, same_values, behind_same, behind_frame, behind_end, frames_take, choices_same, rest_older, choices_cut, lives_cut, ways_cut, back_cut, keeps_cut, stand_cut, stand_same, stand_floor, floor_within, cut_fewer}

-- ## From world to world

pub all_on : {A : Type 0} (xs ys zs : List A) → with_all (with_all xs ys) zs ≡ with_all xs (ys ++ zs)
all_on xs [] zs = refl
all_on xs (y ∷ ys) zs = all_on (xs ++ y ∷ []) ys zs

pub all_append : {A : Type 0} (xs ys : List A) → with_all xs ys ≡ xs ++ ys
all_append xs [] = sym (append-nil xs)
all_append xs (y ∷ ys) = all_append (xs ++ y ∷ []) ys ∙ append_assoc xs (y ∷ []) ys

pub adds_nothing : (w : World) → Adds [] w w
adds_nothing w = record { events_are = refl; typed = refl }

pub adds_on : (w v u : World) (xs ys : List Event) → Adds xs w v → Adds ys v u → Adds (xs ++ ys) w u
adds_on w v u xs ys a b = record {
  events_are = b.events_are ∙ ap (λ l. with_all l ys) a.events_are ∙ all_on w.events xs ys;
  typed = b.typed ∙ a.typed;
}

pub adds_drops : (w v : World) → Drops w v → Adds [] w v
adds_drops w v d = record { events_are = ap (λ (x : World). x.events) d.is; typed = ap (λ (x : World). x.typed) d.is }

pub open_still : (out : Lasting) (g : Game) (w : World) → InWorld out g w → length out.gathered.rows ≡ length w.gathered
open_still out g w is = ap length is.1.0 ∙ length-map w.gathered row_of

-- what drops nothing is the same
drops_none : {A : Type 0} (c : ℕ) (xs : List A) → length (drop c xs) ≡ length xs → drop c xs ≡ xs
drops_none c [] e = drop_all c [] (omega arith)
drops_none zero (x ∷ xs) e = refl
drops_none (suc c) (x ∷ xs) e = absurd (omega (arith, e, length-drop c xs))

-- as many are open as before
pub world_still : (out : Lasting) (g : Game) (w v : World) → InWorld out g w → Drops w v → length v.gathered ≡ length out.gathered.rows → InWorld out g v
world_still out g w v is d count =
    let same : drop d.count w.gathered ≡ w.gathered = drops_none d.count w.gathered (ap (λ (x : World). length x.gathered) (sym d.is) ∙ count ∙ open_still out g w is) in
    subst (InWorld out g) (sym (d.is ∙ ap (λ l. record w { gathered = l }) same)) is

pub world_tried : (out : Lasting) (g : Game) (k : ChoiceKind) (bs : List Branch) (w : World) → InWorld out g w → InWorld out g (tried_in k bs w)
world_tried out g k [] w is = is
world_tried out g (Rules q) (b ∷ bs) w is = is
world_tried out g Plain (b ∷ bs) w is = is
world_tried out g Shield (b ∷ bs) w is = is
world_tried out g Gathers (b ∷ bs) w is = is

-- the same in another world
abbrev pub inside_in : {p : CoreProgram} {out : Lasting} {s : ListBindings} {rs : List Ref} {fs : List Frame} {os : List Choice} {g : Game} {w : World} (v : World) → InWorld out g v → v.meters.heap ≤ (store_in s).heap_limit → Within p out s rs fs os g w → Within p out s rs fs os g v
inside_in v is peak i = record { program = i.program; entries = i.entries; lives = i.lives; lives_are = i.lives_are; saved = i.saved; keeps = i.keeps; choices = i.choices; world = is; peak = peak }

-- and over a store that keeps its places
abbrev pub inside_kept : {p : CoreProgram} {out : Lasting} {s : ListBindings} {rs : List Ref} {fs : List Frame} {os : List Choice} {g : Game} {w : World} (s' : ListBindings) (v : World) → ((ms : List Saved) → KeepsPlaces s ms → KeepsPlaces s' ms) → InWorld out g v → v.meters.heap ≤ (store_in s').heap_limit → Within p out s rs fs os g w → Within p out s' rs fs os g v
inside_kept s' v k is peak i = record { program = i.program; entries = i.entries; lives = i.lives; lives_are = i.lives_are; saved = i.saved; keeps = k i.saved i.keeps; choices = i.choices; world = is; peak = peak }

abbrev pub there_in : {p : CoreProgram} {out : Lasting} {s : ListBindings} {rs : List Ref} {fs : List Frame} {os : List Choice} {next : ℕ} {part : Option ℕ} {g : Game} {w : World} (v : World) → InWorld out g v → v.meters.heap ≤ (store_in s).heap_limit → On p out s rs fs os next part g w → On p out s rs fs os next part g v
there_in v is peak at = record { inside = inside_in v is peak at.inside; ways = at.ways; ways_are = at.ways_are; registers = at.registers; agrees = at.agrees; tag = at.tag; stop = at.stop }

-- ## What was reached of the heap

-- a path that a store is on is within its limit
pub agrees_within : (s : ListBindings) (r : Registers) → Agrees (store_in s) r → r.heap ≤ (store_in s).heap_limit
agrees_within s r a = omega (arith, a.heap, s.sound.heap_fits)

-- where a path is reached no more was reached than the limit
pub peak_begun : (s : ListBindings) (r : Registers) (work : ℕ) (w : World) → Agrees (store_in s) r → w.meters.heap ≤ (store_in s).heap_limit → (begun r work w).meters.heap ≤ (store_in s).heap_limit
peak_begun s r work w a peak = let within = agrees_within s r a in omega (arith, within, peak)

-- inside a choice that takes no cells it is where it was
pub agrees_inside : (s : ListBindings) (r : Registers) → Agrees (store_in s) r → Agrees (store_in s) (inside 0 r)
agrees_inside s r a = record { bound = a.bound; vars = a.vars; heap = omega (arith, a.heap); trail = a.trail; since = a.since }

pub peak_drops : (limit : ℕ) (w v : World) → Drops w v → w.meters.heap ≤ limit → v.meters.heap ≤ limit
peak_drops limit w v d peak = subst (λ (x : World). x.meters.heap ≤ limit) (sym d.is) peak

pub peak_tried : (limit : ℕ) (k : ChoiceKind) (bs : List Branch) (w : World) → w.meters.heap ≤ limit → (tried_in k bs w).meters.heap ≤ limit
peak_tried limit k [] w peak = peak
peak_tried limit (Rules q) (b ∷ bs) w peak = peak
peak_tried limit Plain (b ∷ bs) w peak = peak
peak_tried limit Shield (b ∷ bs) w peak = peak
peak_tried limit Gathers (b ∷ bs) w peak = peak

-- a call is noted
pub adds_noted : (w : World) (e : Event) → Adds (e ∷ []) w (noted e w)
adds_noted w e = record { events_are = refl; typed = refl }

-- what happens where a choice is tried again
abbrev pub tried_events : ChoiceKind → List Branch → List Event
tried_events k [] = []
tried_events (Rules q) (b ∷ bs) = Retried q ∷ []
tried_events Plain (b ∷ bs) = []
tried_events Shield (b ∷ bs) = []
tried_events Gathers (b ∷ bs) = []

pub adds_tried : (k : ChoiceKind) (bs : List Branch) (w : World) → Adds (tried_events k bs) w (tried_in k bs w)
adds_tried k [] w = adds_nothing w
adds_tried (Rules q) (b ∷ bs) w = adds_noted w (Retried q)
adds_tried Plain (b ∷ bs) w = adds_nothing w
adds_tried Shield (b ∷ bs) w = adds_nothing w
adds_tried Gathers (b ∷ bs) w = adds_nothing w

pub then_on : (xs ys : List Event) (w : World) (P Q : World → Type 0) → Then xs w P → ((v : World) → P v → Then ys v Q) → Then (xs ++ ys) w Q
then_on xs ys w P Q a f =
    let b = f a.world a.holds in
    record { world = b.world; adds = adds_on w a.world b.world xs ys a.adds b.adds; holds = b.holds }

events_on : (xs ys : List CallEvent) → events_of (xs ++ ys) ≡ events_of xs ++ events_of ys
events_on [] ys = refl
events_on (x ∷ xs) ys = ap (λ l. event_of x ++ l) (events_on xs ys) ∙ sym (append_assoc (event_of x) (events_of xs) (events_of ys))

pub leads_by : (xs ys : List CallEvent) (A B C : Point) → LeadsBy xs A B → LeadsBy ys B C → LeadsBy (xs ++ ys) A C
leads_by xs ys A B C a b g n w run h =
    subst (λ l. Then l w (λ v. C g n v run)) (sym (events_on xs ys)) (then_on (events_of xs) (events_of ys) w (λ v. B g n v run) (λ v. C g n v run) (a g n w run h) (λ v k. b g n v run k))

pub leads_then : (ys : List CallEvent) (A B C : Point) → Leads A B → LeadsBy ys B C → LeadsBy ys A C
leads_then ys A B C a b = leads_by [] ys A B C a b

pub leads_to : (xs : List CallEvent) (A B C : Point) → LeadsBy xs A B → Leads B C → LeadsBy xs A C
leads_to xs A B C a b = subst (λ cs. LeadsBy cs A C) (append-nil xs) (leads_by xs [] A B C a b)

pub leads_on : (A B C : Point) → Leads A B → Leads B C → Leads A C
leads_on A B C a b = leads_by [] [] A B C a b

pub leads_nowhere : (A : Point) → Leads A A
leads_nowhere A g n w run h = record { world = w; adds = adds_nothing w; holds = h }

abbrev pub limits_here : (e : Engine) → Silent e e
limits_here e = record { heap = refl; trail = refl; aux = refl; keep = refl; told = refl }

-- the limits that stay
abbrev pub same_limits : {old new : Engine} → Silent old new → SameLimits old new
same_limits h = record { heap = h.heap; trail = h.trail; aux = h.aux; keep = h.keep }

abbrev pub telling_limits : {old new : Engine} → Tells old new → SameLimits old new
telling_limits h = record { heap = h.heap; trail = h.trail; aux = h.aux; keep = h.keep }

-- nothing is told
abbrev pub silent : {old new : Engine} → Silent old new → Tells old new
silent h = record { heap = h.heap; trail = h.trail; aux = h.aux; keep = h.keep; calls = []; told = h.told }

pub limits_at : (old new : Engine) → SameLimits old new → (area : Area) → limit_in area new ≡ limit_in area old
limits_at old new same Heap = same.heap
limits_at old new same Trail = same.trail
limits_at old new same Aux = same.aux
limits_at old new same Keep = same.keep

abbrev pub limits_on : (a b c : Engine) → Silent a b → Silent b c → Silent a c
limits_on a b c h k = record { heap = k.heap ∙ h.heap; trail = k.trail ∙ h.trail; aux = k.aux ∙ h.aux; keep = k.keep ∙ h.keep; told = k.told ∙ h.told }

abbrev pub silent_on : (a b c : Engine) → Silent a b → Tells b c → Tells a c
silent_on a b c h k = record {
  heap = k.heap ∙ h.heap;
  trail = k.trail ∙ h.trail;
  aux = k.aux ∙ h.aux;
  keep = k.keep ∙ h.keep;
  calls = k.calls;
  told = k.told ∙ ap (λ l. with_all l k.calls) h.told;
}

abbrev pub tells_on : (a b c : Engine) → Tells a b → Tells b c → Tells a c
tells_on a b c h k = record {
  heap = k.heap ∙ h.heap;
  trail = k.trail ∙ h.trail;
  aux = k.aux ∙ h.aux;
  keep = k.keep ∙ h.keep;
  calls = h.calls ++ k.calls;
  told = k.told ∙ ap (λ l. with_all l k.calls) h.told ∙ all_on a.told.items h.calls k.calls;
}

-- ## What a cut leaves

pub keeps_older : (s : ListBindings) (t : ℕ) (os : List Choice) (ms : List Saved) → KeepsPlaces s ms → KeepsPlaces s (rest_older t os ms)
keeps_older s t os ms h = keeps_cut (KeepsPlaces s) (λ m ms k. saves_drops true (fields_of s) m ms k) tt t os ms h

module _ (t : ℕ) (p : CoreProgram) (out : Lasting) (s : ListBindings) (rs : List Ref) (fs : List Frame) (os os' : List Choice) (is : os' ≡ older_than t os) where
  pub cut_base : (newest : ℕ) → Sound p s rs fs os newest → Sound p s rs fs os' newest
  cut_base newest h = record {
    program = h.program;
    sound = h.sound;
    hold = h.hold;
    frames = h.frames;
    choices = subst (StandOn fs (length fs) (length rs) newest) (sym is) (stand_cut fs t (length fs) (length rs) newest os h.choices);
    places = record {
      saved = rest_older t os h.places.saved;
      keeps = keeps_older s t os h.places.saved h.places.keeps;
      back_to = subst (λ l. GoBackTo rs (store_in s).heap_limit (store_in s).trail_limit l (rest_older t os h.places.saved)) (sym is) (back_cut t rs _ _ os h.places.saved h.places.back_to);
    };
  }

  abbrev pub cut_inside : (g : Game) (w v : World) → InWorld out g v → v.meters.heap ≤ (store_in s).heap_limit → Within p out s rs fs os g w → Within p out s rs fs os' g v
  cut_inside g w v world peak i = record {
    program = i.program;
    entries = rest_older t os i.entries;
    lives = cut_to t i.lives;
    lives_are = ap (cut_to t) i.lives_are ∙ sym (lives_cut g t rs fs os i.saved i.entries i.choices) ∙ ap (λ l. lives_of l (rest_older t os i.entries)) (sym is);
    saved = rest_older t os i.saved;
    keeps = keeps_older s t os i.saved i.keeps;
    choices = subst (λ l. AreChoices g rs fs l (rest_older t os i.saved) (rest_older t os i.entries)) (sym is) (choices_cut g t rs fs os i.saved i.entries i.choices);
    world = world;
    peak = peak;
  }

  pub ways_left : (g : Game) (w : World) (i : Within p out s rs fs os g w) → ways_of os' (rest_older t os i.entries) ≡ ways_of os i.entries
  ways_left g w i = ap (λ l. ways_of l (rest_older t os i.entries)) is ∙ ways_cut g t rs fs os i.saved i.entries i.choices

-- ## The same place

module _ (old new : Engine) (program : new.program.now ≡ old.program.now) (lasting : new.lasting ≡ old.lasting) (store : new.store ≡ old.store) (newest : new.newest ≡ old.newest) (part : new.stoppable ≡ old.stoppable) (kept : new.choices ≡ old.choices) (steps : steps_of new ≡ steps_of old)
    (choices : (g : Game) (ms : List Saved) (cs : List Live) → AreChoices g old.refs.items old.frames.items (reverse old.choices.items) ms cs → AreChoices g new.refs.items new.frames.items (reverse new.choices.items) ms cs) where
  pub same_place : Leads (StandsAt old) (StandsAt new)
  same_place g n w run st = record {
    world = w;
    adds = adds_nothing w;
    holds = record {
      at = record {
        inside = record {
          program = program ∙ st.at.inside.program;
          entries = st.at.inside.entries;
          lives = st.at.inside.lives;
          lives_are = st.at.inside.lives_are ∙ ap (λ (c : Vec Choice Global). lives_of (reverse c.items) st.at.inside.entries) (sym kept);
          saved = st.at.inside.saved;
          keeps = subst (λ s. KeepsPlaces s st.at.inside.saved) (sym store) st.at.inside.keeps;
          choices = choices g st.at.inside.saved st.at.inside.entries st.at.inside.choices;
          world = subst (λ o. InWorld o g w) (sym lasting) st.at.inside.world;
          peak = subst (λ (s : ListBindings). w.meters.heap ≤ (store_in s).heap_limit) (sym store) st.at.inside.peak;
        };
        ways = st.at.ways;
        ways_are = st.at.ways_are ∙ ap (λ (c : Vec Choice Global). ways_of (reverse c.items) st.at.inside.entries) (sym kept);
        registers = st.at.registers;
        agrees = subst (λ s. Agrees (store_in s) st.at.registers) (sym store) st.at.agrees;
        tag = st.at.tag ∙ ap (λ n. n + 1) (sym newest);
        stop = st.at.stop ∙ sym part;
      };
      stands = subst (λ s. Stands g st.at.inside.lives st.at.ways (path_of s st.at.registers) n w run) (sym steps) st.stands;
    };
  }

-- ## Marks

-- the steps of a frame whose goals are done
steps_done : (values : Env → List Value) (fs : List Frame) (f : Frame) (mark : Mark) → f.goals.now ≡ [] → f.mark ≡ mark → steps_at values fs f ≡ mark_steps (values f.env) mark f.tag (steps_behind values fs f.behind)
steps_done values fs f mark none is =
    ap (λ (goals : _). frame_steps (values f.env) goals f.tag f.mark (steps_behind values fs f.behind)) none ∙ ap (λ m. mark_steps (values f.env) m f.tag (steps_behind values fs f.behind)) is

abbrev pub marked_off : Engine → Engine
marked_off e = record e { here = record e.here { mark = Nothing } }

module _ (old : Engine) (ready : IsReady old) (none : old.here.goals.now ≡ []) where
  abbrev fs : List Frame
  fs = old.frames.items

  abbrev values : Env → List Value
  values = values_in (store_in old.store) old.refs.items

  abbrev rest : List Step
  rest = steps_behind values fs old.here.behind

  off_ready : IsReady (marked_off old)
  off_ready = record {
    sound = record { base = ready.sound.base; room = ready.sound.room; picks = ready.sound.picks };
    here = record { runnable = ready.here.runnable; older = ready.here.older; env = ready.here.env };
  }

  off : steps_of (marked_off old) ≡ rest
  off = steps_done values fs (record old.here { mark = Nothing }) Nothing none refl

  pub nothing_passed : old.here.mark ≡ Nothing → MarkPassed old (marked_off old)
  nothing_passed is = record {
    went_on = record {
      ready = off_ready;
      left = refl;
      limits = record { heap = refl; trail = refl; aux = refl; keep = refl; calls = []; told = refl };
      leads = same_place old (marked_off old) refl refl refl refl refl refl (off ∙ sym (steps_done values fs old.here Nothing none is)) (λ g ms cs h. h);
    };
    goals = none;
    mark = refl;
    behind = refl;
    fewer = omega arith;
  }

  pub answer_passed : (query : Query) (told : Vec CallEvent Global) → old.here.mark ≡ AnswerOf query → query.many ≡ true → told.items ≡ old.told.items ++ call.Answered query.pred ∷ [] → MarkPassed old (record (marked_off old) { told = told })
  answer_passed query told is many tells = record {
    went_on = record {
      ready = record {
        sound = record { base = ready.sound.base; room = ready.sound.room; picks = ready.sound.picks };
        here = record { runnable = ready.here.runnable; older = ready.here.older; env = ready.here.env };
      };
      left = refl;
      limits = record { heap = refl; trail = refl; aux = refl; keep = refl; calls = call.Answered query.pred ∷ []; told = tells };
      leads = λ g n w run st.
          let was : steps_of old ≡ Answers query.pred ∷ rest = steps_done values fs old.here (AnswerOf query) none is ∙ ap (λ m. Answers query.pred ∷ first_alone m old.here.tag rest) many in
          record {
            world = noted (Answered query.pred) w;
            adds = adds_noted w (Answered query.pred);
            holds = record {
              at = there_in _ st.at.inside.world st.at.inside.peak st.at;
              stands = subst (λ s. Stands g st.at.inside.lives st.at.ways (path_of s st.at.registers) n (noted (Answered query.pred) w) run) (sym off)
                  (passes_answer g st.at.inside.lives st.at.ways query.pred rest st.at.registers n w run (subst (λ s. Stands g st.at.inside.lives st.at.ways (path_of s st.at.registers) n w run) was st.stands));
            };
          };
    };
    goals = none;
    mark = refl;
    behind = refl;
    fewer = omega arith;
  }

  pub back_passed : old.here.mark ≡ Exhausted → Refused old (marked_off old)
  back_passed is = record {
    wrong = record {
      sound = off_ready.sound;
      left = refl;
      limits = record { heap = refl; trail = refl; aux = refl; keep = refl; calls = []; told = refl };
      leads = λ g n w run st. record {
        world = w;
        adds = adds_nothing w;
        holds = record {
          inside = st.at.inside;
          failed = passes_back g st.at.inside.lives st.at.ways [] st.at.registers n w run (subst (λ s. Stands g st.at.inside.lives st.at.ways (path_of s st.at.registers) n w run) (steps_done values fs old.here Exhausted none is) st.stands);
        };
      };
    };
    fewer = omega arith;
  }

  pub keep_ready : IsReady (marked_off old)
  keep_ready = off_ready

  -- what is gathered was answered
  pub keep_leads : (t : ℕ) → old.here.mark ≡ KeepIn t → Leads (StandsAt old) (KeepsAt (marked_off old))
  keep_leads t is g n w run st = record {
    world = w;
    adds = adds_nothing w;
    holds = record {
      at = st.at;
      tag = t;
      stands = subst (λ s. Stands g st.at.inside.lives st.at.ways (path_of s st.at.registers) n w run) (steps_done values fs old.here (KeepIn t) none is) st.stands;
    };
  }

  pub value_passed : (t : ℕ) → old.here.mark ≡ KeepIn t → (new : Engine) → WentWrong (KeepsAt (marked_off old)) (marked_off old) new → branches_left new ≤ branches_left old → Refused old new
  value_passed t is new h less = record {
    wrong = record {
      sound = h.sound;
      left = h.left;
      limits = record { heap = h.limits.heap; trail = h.limits.trail; aux = h.limits.aux; keep = h.limits.keep; calls = h.limits.calls; told = h.limits.told };
      leads = leads_then h.limits.calls (StandsAt old) (KeepsAt (marked_off old)) (FailsAt new) (keep_leads t is) h.leads;
    };
    fewer = less;
  }

  module _ (t : ℕ) (choices : Vec Choice Global) (part : Option ℕ) (told : Vec CallEvent Global) (cuts : Cuts t old.choices.items choices.items) where
    abbrev new : Engine
    new = record (marked_off old) { choices = choices; stoppable = part; told = told }

    cut_ready : IsReady new
    cut_ready = record {
      sound = record { base = cut_base t old.program.now old.lasting old.store old.refs.items fs (reverse old.choices.items) (reverse choices.items) cuts old.newest ready.sound.base; room = ready.sound.room; picks = ready.sound.picks };
      here = record { runnable = ready.here.runnable; older = ready.here.older; env = ready.here.env };
    }

    cut_less : branches_left new ≤ branches_left old
    cut_less = subst (λ os. all_left os ≤ branches_left old) (sym cuts) (cut_fewer t (reverse old.choices.items))

    abbrev inside_left : (g : Game) (w v : World) → InWorld old.lasting g v → v.meters.heap ≤ (store_in old.store).heap_limit → Within old.program.now old.lasting old.store old.refs.items fs (reverse old.choices.items) g w → Within old.program.now old.lasting old.store old.refs.items fs (reverse choices.items) g v
    inside_left = cut_inside t old.program.now old.lasting old.store old.refs.items fs (reverse old.choices.items) (reverse choices.items) cuts

    cut_at : (g : Game) (n : ℕ) (w v : World) (run : Run) → InWorld old.lasting g v → v.meters.heap ≤ (store_in old.store).heap_limit → (at : There old (old.newest + 1) g w) (r : Registers) → Agrees (store_in old.store) r → r.next_tag ≡ old.newest + 1 → r.stoppable ≡ part → Stands g (cut_to t at.inside.lives) at.ways (path_of rest r) n v run → StandsAt new g n v run
    cut_at g n w v run world peak at r agrees tag stop stands = record {
      at = record {
        inside = inside_left g w v world peak at.inside;
        ways = at.ways;
        ways_are = at.ways_are ∙ sym (ways_left t old.program.now old.lasting old.store old.refs.items fs (reverse old.choices.items) (reverse choices.items) cuts g w at.inside);
        registers = r;
        agrees = agrees;
        tag = tag;
        stop = stop;
      };
      stands = subst (λ s. Stands g (cut_to t at.inside.lives) at.ways (path_of s r) n v run) (sym off) stands;
    }

    cut_passes : (calls : List CallEvent) → told.items ≡ with_all old.told.items calls → LeadsBy calls (StandsAt old) (StandsAt new) → MarkPassed old new
    cut_passes calls is leads = record { went_on = record { ready = cut_ready; left = refl; limits = record { heap = refl; trail = refl; aux = refl; keep = refl; calls = calls; told = is }; leads = leads }; goals = none; mark = refl; behind = refl; fewer = cut_less }

    pub part_left : told ≡ old.told → old.here.mark ≡ LeavePart t part → MarkPassed old new
    part_left same is = cut_passes [] (ap (λ (l : Vec CallEvent Global). l.items) same)
        (λ g n w run st.
        let r = st.at.registers in
        let a = st.at.agrees in
        record {
          world = w;
          adds = adds_nothing w;
          holds = cut_at g n w w run st.at.inside.world st.at.inside.peak st.at (record r { stoppable = part }) (record { bound = a.bound; vars = a.vars; heap = a.heap; trail = a.trail; since = a.since }) st.at.tag refl
              (passes_leave g st.at.inside.lives st.at.ways t part rest r n w run (subst (λ s. Stands g st.at.inside.lives st.at.ways (path_of s r) n w run) (steps_done values fs old.here (LeavePart t part) none is) st.stands));
        })

    pub refused : told ≡ old.told → old.here.mark ≡ RefuseTo t → Refused old new
    refused same is = record {
      wrong = record {
        sound = cut_ready.sound;
        left = refl;
        limits = record { heap = refl; trail = refl; aux = refl; keep = refl; calls = []; told = ap (λ (l : Vec CallEvent Global). l.items) same };
        leads = λ g n w run st. record {
          world = w;
          adds = adds_nothing w;
          holds = record {
            inside = inside_left g w w st.at.inside.world st.at.inside.peak st.at.inside;
            failed = passes_refuse g st.at.inside.lives st.at.ways t [] st.at.registers n w run (subst (λ s. Stands g st.at.inside.lives st.at.ways (path_of s st.at.registers) n w run) (steps_done values fs old.here (RefuseTo t) none is) st.stands);
          };
        };
      };
      fewer = cut_less;
    }

  pub tag_passed : (t : ℕ) (choices : Vec Choice Global) → Cuts t old.choices.items choices.items → old.here.mark ≡ CutTo t → MarkPassed old (record (marked_off old) { choices = choices })
  tag_passed t choices cuts is = cut_passes t choices old.stoppable old.told cuts [] refl
      (λ g n w run st. record {
        world = w;
        adds = adds_nothing w;
        holds = cut_at t choices old.stoppable old.told cuts g n w w run st.at.inside.world st.at.inside.peak st.at st.at.registers st.at.agrees st.at.tag st.at.stop
            (passes_cut g st.at.inside.lives st.at.ways t rest st.at.registers n w run (subst (λ s. Stands g st.at.inside.lives st.at.ways (path_of s st.at.registers) n w run) (steps_done values fs old.here (CutTo t) none is) st.stands));
      })

  pub cut_passed : (query : Query) (choices : Vec Choice Global) (told : Vec CallEvent Global) → old.here.mark ≡ AnswerOf query → query.many ≡ false → Cuts old.here.tag old.choices.items choices.items → told.items ≡ old.told.items ++ call.Answered query.pred ∷ [] →
      MarkPassed old (record (marked_off old) { choices = choices; told = told })
  cut_passed query choices told is many cuts tells =
      let t = old.here.tag in
      cut_passes t choices old.stoppable told cuts (call.Answered query.pred ∷ []) tells
      (λ g n w run st.
      let was : steps_of old ≡ Answers query.pred ∷ Cut t ∷ rest = steps_done values fs old.here (AnswerOf query) none is ∙ ap (λ m. Answers query.pred ∷ first_alone m t rest) many in
      let v = noted (Answered query.pred) w in
      record {
        world = v;
        adds = adds_noted w (Answered query.pred);
        holds = cut_at t choices old.stoppable told cuts g n w v run st.at.inside.world st.at.inside.peak st.at st.at.registers st.at.agrees st.at.tag st.at.stop
            (passes_cut g st.at.inside.lives st.at.ways t rest st.at.registers n v run
            (passes_answer g st.at.inside.lives st.at.ways query.pred (Cut t ∷ rest) st.at.registers n w run (subst (λ s. Stands g st.at.inside.lives st.at.ways (path_of s st.at.registers) n w run) was st.stands)));
      })

-- ## The frame behind

module _ (old : Engine) (frames : Vec Frame Global) (f : Frame) (needed : ℕ) (ready : IsReady old) (none : old.here.goals.now ≡ []) (off : old.here.mark ≡ Nothing) (some : old.here.behind ≢ 0)
    (is : f ≡ get_or old.frames.items (old.here.behind - 1) f) (need : needed ≡ max (floor_of (reverse old.choices.items)) f.behind) (kept : frames.items ≡ take needed old.frames.items) where
  abbrev was : List Frame
  was = old.frames.items

  abbrev the_refs : List Ref
  the_refs = old.refs.items

  abbrev os : List Choice
  os = reverse old.choices.items

  abbrev the_values : Env → List Value
  the_values = values_in (store_in old.store) the_refs

  abbrev left_at : Engine
  left_at = record old { frames = frames; here = f }

  at : slice_get was (old.here.behind - 1) ≡ Some f
  at = slice_get-get_or was (old.here.behind - 1) f (omega (arith, ready.here.older)) ∙ ap Some (sym is)

  frame : IsFrame (old.here.behind - 1) (length the_refs) f
  frame = ready.sound.base.frames (old.here.behind - 1) f (omega (arith, ready.here.older)) at

  enough : needed ≤ length was
  enough = omega (arith, need, floor_within was (length was) (length the_refs) old.newest os ready.sound.base.choices, frame.older, ready.here.older)

  count : length (take needed was) ≡ needed
  count = length-take needed was ∙ omega (arith, enough)

  same : steps_at the_values frames.items f ≡ steps_of old
  same =
      let link : suc (old.here.behind - 1) ≡ old.here.behind = omega arith in
      let few : AreFrames needed (length the_refs) was = λ k h lt e. ready.sound.base.frames k h (omega (arith, lt, enough)) e in
      ap (λ l. steps_at the_values l f) kept
      ∙ ap (frame_steps (the_values f.env) f.goals.now f.tag f.mark) (behind_same (length the_refs) the_values the_values was (take needed was) needed f.behind (omega (arith, need)) (same_values (length the_refs) the_values) few (same_take was needed))
      ∙ sym (behind_frame the_values was (old.here.behind - 1) f at frame.older)
      ∙ ap (steps_behind the_values was) link
      ∙ sym (steps_done the_values was old.here Nothing none off)

  stand : StandOn was needed (length the_refs) old.newest os
  stand = stand_floor was (length was) needed (length the_refs) old.newest os (omega (arith, need)) ready.sound.base.choices

  choices_kept : (g : Game) (ms : List Saved) (cs : List Live) → AreChoices g the_refs was os ms cs → AreChoices g the_refs frames.items os ms cs
  choices_kept g ms cs h = subst (λ l. AreChoices g the_refs l os ms cs) (sym kept) (choices_same g the_refs the_refs was (take needed was) needed (length the_refs) old.newest os ms cs refl (same_take was needed) stand h)

  pub frame_left : FrameLeft old left_at
  frame_left = record {
    went_on = record {
      ready = record {
        sound = record {
          base = record {
            program = ready.sound.base.program;
            sound = ready.sound.base.sound;
            hold = ready.sound.base.hold;
            frames = subst (λ (l : List Frame). AreFrames (length l) (length the_refs) l) (sym kept) (frames_take (length the_refs) needed was enough (λ k h lt e. ready.sound.base.frames k h (omega (arith, lt, enough)) e));
            choices = subst (λ (l : List Frame). StandOn l (length l) (length the_refs) old.newest os) (sym kept)
                (subst (λ n. StandOn (take needed was) n (length the_refs) old.newest os) (sym count) (stand_same was (take needed was) needed (length the_refs) old.newest os (same_take was needed) stand));
            places = record { saved = ready.sound.base.places.saved; keeps = ready.sound.base.places.keeps; back_to = ready.sound.base.places.back_to };
          };
          room = ready.sound.room;
          picks = ready.sound.picks;
        };
        here = record { runnable = frame.runnable; older = subst (λ (l : List Frame). f.behind ≤ length l) (sym kept) (omega (arith, need, count)); env = frame.env };
      };
      left = refl;
      limits = record { heap = refl; trail = refl; aux = refl; keep = refl; calls = []; told = refl };
      leads = same_place old left_at refl refl refl refl refl refl same choices_kept;
    };
    older = omega (arith, frame.older);
    fewer = omega arith;
  }

-- ## On and on

pub went_nowhere : (e : Engine) → IsReady e → WentOn (StandsAt e) e e
went_nowhere e ready = record { ready = ready; left = refl; limits = silent (limits_here e); leads = leads_nowhere (StandsAt e) }

pub went_further : (From : Point) (a b c : Engine) → WentOn From a b → WentOn (StandsAt b) b c → WentOn From a c
went_further From a b c h k = record {
  ready = k.ready;
  left = k.left ∙ h.left;
  limits = tells_on a b c h.limits k.limits;
  leads = leads_by h.limits.calls k.limits.calls From (StandsAt b) (StandsAt c) h.leads k.leads;
}

pub went_wrong : (From : Point) (a b c : Engine) → WentOn From a b → WentWrong (StandsAt b) b c → WentWrong From a c
went_wrong From a b c h k = record {
  sound = k.sound;
  left = k.left ∙ h.left;
  limits = tells_on a b c h.limits k.limits;
  leads = leads_by h.limits.calls k.limits.calls From (StandsAt b) (FailsAt c) h.leads k.leads;
}

-- a run that has ended has finished
pub just_finished : {es : List Event} {w : World} {result : Result} {e : Engine} {g : Game} {n : ℕ} {run : Run} → Then es w (λ u. EndsAt result e g n u run) → Then es w (λ u. Finished n u result run)
just_finished t = record { world = t.world; adds = t.adds; holds = t.holds.finished }

-- no frame is behind
pub all_done : (From : Point) (old e : Engine) → WentOn From old e → e.here.goals.now ≡ [] → e.here.mark ≡ Nothing → e.here.behind ≡ 0 → HasEndedSo From (End Done) old e
all_done From old e h none off end = record {
  left = h.left;
  limits = h.limits;
  ends = leads_to h.limits.calls From (StandsAt e) (EndsAt (End Done) e) h.leads
      (λ g n v run k.
      let values = values_in (store_in e.store) e.refs.items in
      let steps : steps_of e ≡ [] = steps_done values e.frames.items e.here Nothing none off ∙ ap (steps_behind values e.frames.items) end ∙ behind_end values e.frames.items in
      let stands = subst (λ s. Stands g k.at.inside.lives k.at.ways (path_of s k.at.registers) n v run) steps k.stands in
      record { world = v; adds = adds_nothing v; holds = record { finished = done g k.at.inside.lives k.at.ways k.at.registers n v run stands; world = k.at.inside.world; peak = k.at.inside.peak } });
}
