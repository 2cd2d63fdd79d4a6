-- How goals add up to a run.
use Rattle.std.proofs.Common.{◌≡◌, ℕ, suc, ◌<◌, List, [], ◌∷◌, ◌++◌, Bool, false, Option, refl, sym, ap, ◌∙◌, subst, arith, length, append_assoc, Ok, Err}
use Rattle.std.specs.Prelude.{Result, IfOk, IfErr}
use Rattle.std.proofs.lemmas.List.{append-nil, append_cancel_left}
use Rattle.dg_base.specs.declared.program.Goal.{Goal}
use Rattle.dg_base.specs.declared.run.Ending.{Ending}
use Rattle.dg_base.specs.declared.run.Ending.TheVariants.{StepLimit}
use Rattle.dg_base.specs.declared.run.RunFault.{RunFault}
use Rattle.dg_base.specs.declared.run.RunFault.TheVariants.{Read, Write, OutOfMemory}
use Rattle.dg_meaning.specs.World.{Game, World, Event, Print, prints}
use Rattle.dg_meaning.specs.Path.{Result as SearchResult, End}
use Rattle.dg_meaning.specs.Moves.{path_of, goals_at}
use Rattle.dg_meaning.specs.Transcript.{Run, ending_of}
use Rattle.dg_meaning.specs.inside.OneRun.{Grows}
use Rattle.dg_base.specs.Begins.{Begins, EndsWith}
use Rattle.dg_meaning.specs.Peaks.{Area, Heap, Trail, Aux, Keep, limit_ending}
use Rattle.dg_meaning.specs.inside.Keeps.{Stands, Finished}
use Rattle.dg_meaning.proofs.Dropping.{prints_append, drops_grow}
use Rattle.dg_meaning.proofs.Keeps.{stands_happened, limited}
use Rattle.dg_meaning.proofs.OneRun.{begins_on}
use Rattle.dg_unify.specs.declared.bindings.Full.{Full}
use Rattle.dg_unify.specs.declared.bindings.Full.TheVariants as full
use Rattle.dg_spacing.specs.declared.spacer.Spacer.{Spacer}
use Rattle.dg_interp.specs.declared.engine.Engine.{Engine}
use Rattle.std.specs.declared.vec.Vec.{Vec}
use Rattle.std.specs.declared.alloc.Global.{Global}
use Rattle.dg_watch.specs.declared.watch.CallEvent.{CallEvent}
use Rattle.dg_watch.specs.declared.watch.CallEvent.TheVariants as call
use Rattle.dg_watch.specs.Told.{Told, Saw, told_events, told_behind}
use Rattle.dg_watch.specs.Watching.{Watching, Given, Lost}
use Rattle.dg_watch.proofs.Telling.{given_nothing, given_on, lost_first, lost_later}
use Rattle.dg_watch.proofs.Events.{events_told_on, told_behind_on}
use Rattle.dg_spacing.specs.Spacer.{StandsFor}
use Rattle.dg_interp.specs.inside.Frames.{mark_steps, steps_behind, values_in}
use Rattle.dg_lasting.specs.Lacks.{lack_of, as_stored}
use Rattle.dg_interp.specs.inside.Engine.{store_in, Point, LackAt, IsReady, StandsAt, events_of, SameLimits, Tells, Then, FullAt, Forgets}
use Rattle.dg_base.specs.Streams.{SourceView}
use Rattle.dg_meaning.specs.Shows.{IsLeft}
use Rattle.dg_meaning.specs.Engines.{left_told}
use Rattle.dg_meaning.proofs.Engines.{as_told}
use Rattle.dg_interp.specs.inside.Showing.{call_told, calls_told, ShowsAll, LosesAll, ShowsFront, BreaksSo}
use Rattle.dg_interp.specs.inside.Running.{HasText, Writes, Gave, Awaits, Stretch, Reaches, HasEnded, IsNoFurther, MeetsLimit, Ended, HasPart, LosesOutput, Broken, GoalDone}
use Rattle.dg_interp.proofs.Places.{adds_nothing, all_append}

-- ## What happens

-- what happened, in a stretch
pub stretched : (es : List Event) (w : World) (Q : World → Type 0) → Then es w Q → Stretch es [] w Q
stretched es w Q t = record { world = t.world; events_are = t.adds.events_are ∙ all_append w.events es; typed = sym t.adds.typed; holds = t.holds }

-- what holds behind a stretch
pub stretch_map : (es : List Event) (ts : List ℕ) (w : World) (Q R : World → Type 0) → ((u : World) → Q u → R u) → Stretch es ts w Q → Stretch es ts w R
stretch_map es ts w Q R f t = record { world = t.world; events_are = t.events_are; typed = t.typed; holds = f t.world t.holds }

pub calls_print_nothing : (cs : List CallEvent) → prints (events_of cs) ≡ []
calls_print_nothing [] = refl
calls_print_nothing (call.Asked pred ∷ cs) = calls_print_nothing cs
calls_print_nothing (call.Answered pred ∷ cs) = calls_print_nothing cs
calls_print_nothing (call.Retried pred ∷ cs) = calls_print_nothing cs
calls_print_nothing (call.Failed pred ∷ cs) = calls_print_nothing cs
calls_print_nothing (call.Printed ∷ cs) = calls_print_nothing cs

-- what calls are told as
calls_behind : (es : List Print) (cs : List CallEvent) → told_behind es (events_of cs) ≡ calls_told cs
calls_behind es [] = refl
calls_behind es (call.Asked pred ∷ cs) = ap (λ l. call_told (call.Asked pred) ++ l) (calls_behind es cs)
calls_behind es (call.Answered pred ∷ cs) = ap (λ l. call_told (call.Answered pred) ++ l) (calls_behind es cs)
calls_behind es (call.Retried pred ∷ cs) = ap (λ l. call_told (call.Retried pred) ++ l) (calls_behind es cs)
calls_behind es (call.Failed pred ∷ cs) = ap (λ l. call_told (call.Failed pred) ++ l) (calls_behind es cs)
calls_behind es (call.Printed ∷ cs) = calls_behind es cs

pub call_is : (c : CallEvent) → (c ≡ call.Printed → ⊥) → call_told c ≡ Saw c ∷ []
call_is (call.Asked pred) h = refl
call_is (call.Answered pred) h = refl
call_is (call.Retried pred) h = refl
call_is (call.Failed pred) h = refl
call_is call.Printed h = absurd (h refl)

-- of these calls all but those that are left were shown
pub record CallsShown {P : Type 0} (v : Watching P) (calls left : List CallEvent) (before now : P) : Type 0 where
  pub done : List Told
  pub given : Given v before now done
  pub is : calls_told calls ≡ done ++ calls_told left

pub calls_begin : {P : Type 0} (v : Watching P) (calls : List CallEvent) (k : P) → CallsShown v calls calls k k
calls_begin v calls k = record { done = []; given = given_nothing v k; is = refl }

module _ {P : Type 0} (v : Watching P) (calls : List CallEvent) (k b c : P) where
  pub calls_more : (left : List CallEvent) (x : CallEvent) (rest : List CallEvent) → CallsShown v calls left k b → left ≡ x ∷ rest → Given v b c (call_told x) → CallsShown v calls rest k c
  calls_more left x rest h e given = record {
    done = h.done ++ call_told x;
    given = given_on v k b c h.done (call_told x) h.given given;
    is = h.is ∙ ap (λ l. h.done ++ calls_told l) e ∙ sym (append_assoc h.done (call_told x) (calls_told rest));
  }

  pub calls_end : (left : List CallEvent) → CallsShown v calls left k b → left ≡ [] → Given v k b (calls_told calls)
  calls_end left h e = subst (Given v k b) (sym (h.is ∙ ap (λ l. h.done ++ calls_told l) e ∙ append-nil h.done)) h.given

  pub calls_break : (left : List CallEvent) (x : CallEvent) (rest : List CallEvent) → CallsShown v calls left k b → left ≡ x ∷ rest → Lost v b c (call_told x) → Lost v k c (calls_told calls)
  calls_break left x rest h e lost =
      subst (Lost v k c) (sym (h.is ∙ ap (λ l. h.done ++ calls_told l) e))
      (lost_later v k b c h.done (call_told x ++ calls_told rest) h.given (lost_first v b c (call_told x) (calls_told rest) lost))

-- what an engine that had told nothing has told
pub quiet_told : (old new : Engine) (h : Tells old new) → old.told.items ≡ [] → new.told.items ≡ h.calls
quiet_told old new h quiet = h.told ∙ all_append old.told.items h.calls ∙ ap (λ l. l ++ h.calls) quiet

-- an end comes later
pub finished_later : (n : ℕ) (w : World) (r : SearchResult) (run : Run) → Finished n w r run → Grows w run.world
finished_later n w r run f = subst (Grows w) (sym (ap (λ (x : Run). x.world) f.is)) (drops_grow w f.world f.drops)

-- ## What was told is forgotten

told_ready : (told : Vec CallEvent Global) (e : Engine) → IsReady e → IsReady (record e { told = told })
told_ready told e h = record { sound = record { base = h.sound.base; room = h.sound.room; picks = h.sound.picks }; here = h.here }

told_stands : (told : Vec CallEvent Global) (e : Engine) (g : Game) (n : ℕ) (w : World) (run : Run) → StandsAt e g n w run → StandsAt (record e { told = told }) g n w run
told_stands told e g n w run st = record { at = st.at; stands = st.stands }

module _ (e f : Engine) (h : Forgets e f) where
  pub forgets_ready : IsReady e → IsReady f
  forgets_ready r = subst IsReady (sym h.same) (told_ready f.told e r)

  pub forgets_stands : (g : Game) (n : ℕ) (w : World) (run : Run) → StandsAt e g n w run → StandsAt f g n w run
  forgets_stands g n w run st = subst (λ (x : Engine). StandsAt x g n w run) (sym h.same) (told_stands f.told e g n w run st)

  pub forgets_limits : SameLimits e f
  forgets_limits = subst (SameLimits e) (sym h.same) (record { heap = refl; trail = refl; aux = refl; keep = refl })

  pub forgets_left : f.left ≡ e.left
  forgets_left = ap (λ (x : Engine). x.left) h.same

  pub forgets_goals : f.here.goals.now ≡ e.here.goals.now
  forgets_goals = ap (λ (x : Engine). x.here.goals.now) h.same

-- ## What is told

module _ {P : Type 0} (v : Watching P) where
  pub text_shown : (s s' : Spacer) (start k k' : P) (es more : List Event) → HasText v s start k es → ShowsAll v more s s' k k' → HasText v s' start k' (es ++ more)
  text_shown s s' start k k' es more h f =
      let a = f (prints es) h.stands in
      record {
        stands = subst (StandsFor s') (sym (prints_append es more)) a.stands;
        given = subst (Given v start k') (sym (events_told_on es more)) (given_on v start k k' (told_events es) (told_behind (prints es) more) h.given a.given);
      }

  pub writes_shown : (s s' : Spacer) (k k' : P) (more : List Event) → ShowsAll v more s s' k k' → Writes v s s' k k' more
  writes_shown s s' k k' more f start es h = text_shown s s' start k k' es more h f

  pub text_same : (s : Spacer) (start now : P) (xs ys : List Event) → ys ≡ xs ++ [] → HasText v s start now xs → HasText v s start now ys
  text_same s start now xs ys e h = subst (HasText v s start now) (sym (e ∙ append-nil xs)) h

  -- it failed within a front of what happened
  pub lost_begins : (part whole : List Event) → Begins part whole → (a b : P) → Lost v a b (told_events part) → Lost v a b (told_events whole)
  lost_begins part whole h a b lost = subst (Lost v a b) (sym (ap told_events h.is ∙ events_told_on part h.behind)) (lost_first v a b (told_events part) (told_behind (prints part) h.behind) lost)

  pub lost_shown : (s : Spacer) (start k k' : P) (es more : List Event) → HasText v s start k es → LosesAll v more s k k' → Lost v start k' (told_events (es ++ more))
  lost_shown s start k k' es more h f = subst (Lost v start k') (sym (events_told_on es more)) (lost_later v start k k' (told_events es) (told_behind (prints es) more) h.given (f (prints es) h.stands))

  -- nothing
  pub shows_nothing : (s : Spacer) (k : P) → ShowsAll v [] s s k k
  shows_nothing s k es st = record { stands = subst (StandsFor s) (sym (append-nil es)) st; given = given_nothing v k }

  pub writes_nothing : (s : Spacer) (k : P) → Writes v s s k k []
  writes_nothing s k start es h = subst (HasText v s start k) (sym (append-nil es)) h

  pub writes_on : (s s' s'' : Spacer) (k k' k'' : P) (xs ys : List Event) → Writes v s s' k k' xs → Writes v s' s'' k' k'' ys → Writes v s s'' k k'' (xs ++ ys)
  writes_on s s' s'' k k' k'' xs ys a b start es h = subst (HasText v s'' start k'') (append_assoc es xs ys) (b start (es ++ xs) (a start es h))

  -- one stretch behind another
  pub shows_on : (xs ys : List Event) (s t u : Spacer) (a b c : P) → ShowsAll v xs s t a b → ShowsAll v ys t u b c → ShowsAll v (xs ++ ys) s u a c
  shows_on xs ys s t u a b c h k es st =
      let x = h es st in
      let y = k (es ++ prints xs) x.stands in
      record {
        stands = subst (StandsFor u) (append_assoc es (prints xs) (prints ys) ∙ ap (λ l. es ++ l) (sym (prints_append xs ys))) y.stands;
        given = subst (Given v a c) (sym (told_behind_on es xs ys)) (given_on v a b c (told_behind es xs) (told_behind (es ++ prints xs) ys) x.given y.given);
      }

  pub loses_first : (xs ys : List Event) (s : Spacer) (a c : P) → LosesAll v xs s a c → LosesAll v (xs ++ ys) s a c
  loses_first xs ys s a c h es st = subst (Lost v a c) (sym (told_behind_on es xs ys)) (lost_first v a c (told_behind es xs) (told_behind (es ++ prints xs) ys) (h es st))

  pub loses_later : (xs ys : List Event) (s t : Spacer) (a b c : P) → ShowsAll v xs s t a b → LosesAll v ys t b c → LosesAll v (xs ++ ys) s a c
  loses_later xs ys s t a b c h k es st =
      let x = h es st in
      subst (Lost v a c) (sym (told_behind_on es xs ys)) (lost_later v a b c (told_behind es xs) (told_behind (es ++ prints xs) ys) x.given (k (es ++ prints xs) x.stands))

  -- it breaks off in a front of what was to be told
  pub shown_first : (xs ys : List Event) (s t : Spacer) (a b : P) (fault : RunFault) → BreaksSo v fault xs s t a b → BreaksSo v fault (xs ++ ys) s t a b
  shown_first xs ys s t a b Read h = absurd h
  shown_first xs ys s t a b Write h = loses_first xs ys s a b h
  shown_first xs ys s t a b OutOfMemory h = record { front = h.front; rest = h.rest ++ ys; is = ap (λ l. l ++ ys) h.is ∙ append_assoc h.front h.rest ys; shown = h.shown }

  -- or behind one
  pub shown_later : (xs ys : List Event) (s t u : Spacer) (a b c : P) (fault : RunFault) → ShowsAll v xs s t a b → BreaksSo v fault ys t u b c → BreaksSo v fault (xs ++ ys) s u a c
  shown_later xs ys s t u a b c Read h k = absurd k
  shown_later xs ys s t u a b c Write h k = loses_later xs ys s t a b c h k
  shown_later xs ys s t u a b c OutOfMemory h k = record {
    front = xs ++ k.front;
    rest = k.rest;
    is = ap (λ l. xs ++ l) k.is ∙ sym (append_assoc xs k.front k.rest);
    shown = shows_on xs k.front s t u a b c h k.shown;
  }

  -- where nothing was told
  pub shows_front : (more : List Event) (s s' : Spacer) (k k' : P) → s' ≡ s → k' ≡ k → ShowsFront v more s s' k k'
  shows_front more s s' k k' e f = record {
    front = [];
    rest = more;
    is = refl;
    shown = subst (λ t. ShowsAll v [] s t k k') (sym e) (subst (λ p. ShowsAll v [] s s k p) (sym f) (shows_nothing s k));
  }

  -- calls
  pub calls_shown : (cs : List CallEvent) (s : Spacer) (k k' : P) → Given v k k' (calls_told cs) → ShowsAll v (events_of cs) s s k k'
  calls_shown cs s k k' h es st = record {
    stands = subst (λ l. StandsFor s (es ++ l)) (sym (calls_print_nothing cs)) (subst (StandsFor s) (sym (append-nil es)) st);
    given = subst (Given v k k') (sym (calls_behind es cs)) h;
  }

  pub calls_lost : (cs : List CallEvent) (s : Spacer) (k k' : P) → Lost v k k' (calls_told cs) → LosesAll v (events_of cs) s k k'
  calls_lost cs s k k' h es st = subst (Lost v k k') (sym (calls_behind es cs)) h

-- ## Nothing is read

pub gave_nothing : (i : SourceView) → Gave i i false []
gave_nothing i = record { left = λ rest h. h; later = omega arith }

pub gave_on : (a b c : SourceView) (ended : Bool) (xs ys : List ℕ) → Gave a b false xs → Gave b c ended ys → Gave a c ended (xs ++ ys)
gave_on a b c ended xs ys h k = record {
  left = λ rest is. subst (IsLeft a.left) (sym (append_assoc xs ys rest)) (h.left (ys ++ rest) (k.left rest is));
  later = omega (arith, h.later, k.later);
}

-- what is left where nothing was read
pub left_here : (i : SourceView) (w : World) → Awaits i false [] w → IsLeft i.left w.typed
left_here i w a = subst (IsLeft i.left) (sym a.typed) a.left

-- ## Limits

pub same_on : (a b c : Engine) → SameLimits a b → SameLimits b c → SameLimits a c
same_on a b c h k = record { heap = k.heap ∙ h.heap; trail = k.trail ∙ h.trail; aux = k.aux ∙ h.aux; keep = k.keep ∙ h.keep }

pub same_here : (e : Engine) → SameLimits e e
same_here e = record { heap = refl; trail = refl; aux = refl; keep = refl }

-- a goal at hand where no goal is left
limit_at : (e : Engine) (g : Game) (w : World) (run : Run) (st : StandsAt e g 0 w run) (goals : List Goal) → 0 < length goals →
    Stands g st.at.inside.lives st.at.ways (path_of (goals_at (values_in (store_in e.store) e.refs.items e.here.env) e.here.tag goals ++ mark_steps (values_in (store_in e.store) e.refs.items e.here.env) e.here.mark e.here.tag (steps_behind (values_in (store_in e.store) e.refs.items) e.frames.items e.here.behind)) st.at.registers) 0 w run → Finished 0 w (End StepLimit) run
limit_at e g w run st [] some h = absurd (omega arith)
limit_at e g w run st (x ∷ goals) some h = limited g st.at.inside.lives st.at.ways x _ e.here.tag _ st.at.registers w run h

pub limited_at : (e : Engine) (g : Game) (w : World) (run : Run) → 0 < length e.here.goals.now → StandsAt e g 0 w run → Finished 0 w (End StepLimit) run
limited_at e g w run some st = limit_at e g w run st e.here.goals.now some st.stands

-- with no goal left no more happens or is taken
pub no_more : (e : Engine) (added : List Event) (i : SourceView) (taken : List ℕ) (g : Game) (w : World) (run : Run) (a : Awaits i false taken w) → 0 < length e.here.goals.now → StandsAt e g 0 w run
    → IsNoFurther added a.rest w run
no_more e added i taken g w run a some st =
    let f = limited_at e g w run some st in
    let same : run.world.events ≡ w.events = ap (λ (r : Run). r.world.events) f.is ∙ ap (λ (u : World). u.events) f.drops.is in
    let kept : run.world.typed ≡ w.typed = ap (λ (r : Run). r.world.typed) f.is ∙ ap (λ (u : World). u.typed) f.drops.is in
    record {
      events = record { behind = added; is = ap (λ l. l ++ added) (sym same) };
      typed = record { taken = taken; is = kept ∙ a.typed };
    }

-- ## What a store lacks

-- what a store lacks
pub lack_from : (From : Point) (e : Engine) (f : Full) → FullAt From (store_in e.store) f → LackAt From e (lack_of f)
lack_from From e full.Heap h = h
lack_from From e full.Trail h = h
lack_from From e full.OutOfMemory h = h

pub stored_done : (P : Bool → Type 0) (r : Result Bool Full) → IfOk r P → IfOk (as_stored r) P
stored_done P (Ok done) h = h
stored_done P (Err f) h = tt

pub stored_lacks : (From : Point) (e : Engine) (r : Result Bool Full) → IfErr r (λ f. FullAt From (store_in e.store) f) → IfErr (as_stored r) (λ lack. LackAt From e lack)
stored_lacks From e (Ok done) h = tt
stored_lacks From e (Err f) h = lack_from From e f h

-- ## Endings

module _ {P : Type 0} (v : Watching P) where
  pub reads_nothing : (e : Engine) (s : Spacer) (k : P) (i : SourceView) (Q : World → Run → P → Type 0) → ((g : Game) (w : World) (run : Run) (start : P) → IsLeft i.left w.typed → StandsAt e g e.left w run → HasText v s start k w.events → Q w run start) → Reaches v e s k i i Q
  reads_nothing e s k i Q f = record {
    taken = [];
    ended = false;
    gave = gave_nothing i;
    reaches = λ g w run start a st text. f g w run start (left_here i w a) st text;
  }

  pub finished_so : (r : SearchResult) (e : Ending) (n m : ℕ) (s : Spacer) (k k' : P) (i : Option (List ℕ)) (w : World) (run : Run) (start : P) → IsLeft i w.typed → HasText v s start k w.events → n ≡ m → e ≡ ending_of r → (cs : List CallEvent) → Given v k k' (calls_told cs) → Then (events_of cs) w (λ u. Finished n u r run) →
      HasEnded v e m s k' i w run start
  finished_so r e n m s k k' i w run start left text same is cs told t =
      let f = t.holds in
      let events : f.world.events ≡ w.events ++ events_of cs = ap (λ (u : World). u.events) f.drops.is ∙ t.adds.events_are ∙ all_append w.events (events_of cs) in
      let typed : f.world.typed ≡ w.typed = ap (λ (u : World). u.typed) f.drops.is ∙ t.adds.typed in
      record {
        world = f.world;
        typed = subst (IsLeft i) (sym typed) left;
        is = f.is ∙ ap (λ x. record { left = n; world = f.world; ending = x }) (sym is) ∙ ap (λ i. record { left = i; world = f.world; ending = e }) same;
        text = subst (HasText v s start k') (sym events) (text_shown v s s start k k' w.events (events_of cs) text (calls_shown v cs s k k' told));
      }

  -- with nothing told at its end
  pub finished_here : (r : SearchResult) (e : Ending) (n m : ℕ) (s : Spacer) (k : P) (i : Option (List ℕ)) (w : World) (run : Run) (start : P) → IsLeft i w.typed → HasText v s start k w.events → n ≡ m → e ≡ ending_of r → Then [] w (λ u. Finished n u r run) → HasEnded v e m s k i w run start
  finished_here r e n m s k i w run start left text same is t = finished_so r e n m s k k i w run start left text same is [] (given_nothing v k) t

  pub run_limited : (e : Engine) (s : Spacer) (k : P) (i : SourceView) → 0 < length e.here.goals.now → e.left ≡ 0 → Reaches v e s k i i (HasEnded v StepLimit e.left s k (left_told i i))
  run_limited e s k i some none =
      reads_nothing e s k i (HasEnded v StepLimit e.left s k (left_told i i))
      (λ g w run start left st text.
      finished_here (End StepLimit) StepLimit 0 e.left s k (left_told i i) w run start (as_told i i w.typed left) text (sym none) refl (record { world = w; adds = adds_nothing w; holds = limited_at e g w run some (subst (λ n. StandsAt e g n w run) none st) }))

  -- the limit of an area was met
  pub ended_at : (area : Area) (left : ℕ) (old : Engine) (s s' : Spacer) (k k' : P) (i i' : SourceView) → MeetsLimit v area left old s s' k k' i i' → Ended v (limit_ending area) left old s s' k k' i i'
  ended_at Heap left old s s' k k' i i' h = h
  ended_at Trail left old s s' k k' i i' h = h
  ended_at Aux left old s s' k k' i i' h = h
  ended_at Keep left old s s' k k' i i' h = h

-- ## Broken off at the goal at hand

module _ {P : Type 0} (v : Watching P) (old : Engine) (s s' : Spacer) (k k' : P) (i i' : SourceView) (more : List Event) (bytes : List ℕ) (left : ℕ) (some : 0 < length old.here.goals.now) (left_is : old.left ≡ suc left) (gave : Gave i i' false bytes)
    (comes : (g : Game) (n : ℕ) (w : World) (run : Run) → Awaits i' false bytes w → StandsAt old g (suc n) w run → Stretch more bytes w (λ u. Grows u run.world)) where
  -- it failed at the goal at hand
  loses_here : LosesAll v more s k k' → LosesOutput v old s k k' i i'
  loses_here lost = record {
    goals = 0;
    below = omega (arith, left_is);
    taken = bytes;
    gave = gave;
    breaks = λ g w run start a st text.
        let t = comes g 0 w run a st in
        lost_begins v t.world.events run.world.events t.holds.events start k' (subst (λ l. Lost v start k' (told_events l)) (sym t.events_are) (lost_shown v s start k k' w.events more text lost));
    until = λ g w run a st.
        let t = comes g 0 w run a st in
        subst (λ l. EndsWith l run.world.typed) (append_cancel_left bytes t.world.typed a.rest (sym t.typed ∙ a.typed)) t.holds.typed;
    since = λ g w run a st. (no_more old more i' bytes g w run a some st).typed;
  }

  -- or memory ran out
  part_here : ShowsFront v more s s' k k' → Reaches v old s k i i' (HasPart v s' k' i'.left)
  part_here f = record {
    taken = bytes;
    ended = false;
    gave = gave;
    reaches = λ g w run start a st text.
        let t = comes g left w run a (subst (λ n. StandsAt old g n w run) left_is st) in
        let begins : Begins (w.events ++ f.front) t.world.events = record { behind = f.rest; is = t.events_are ∙ ap (λ l. w.events ++ l) f.is ∙ sym (append_assoc w.events f.front f.rest) } in
        record {
          part = w.events ++ f.front;
          until = begins_on (w.events ++ f.front) t.world.events run.world.events begins t.holds.events;
          text = text_shown v s s' start k k' w.events f.front text f.shown;
          rest = a.rest;
          left = a.left;
          taken = record { taken = bytes; is = a.typed };
          typed = subst (λ l. EndsWith l run.world.typed) (append_cancel_left bytes t.world.typed a.rest (sym t.typed ∙ a.typed)) t.holds.typed;
        };
  }

  pub breaks_here : (fault : RunFault) → BreaksSo v fault more s s' k k' → Broken v fault old s s' k k' i i'
  breaks_here Read h = absurd h
  breaks_here Write h = loses_here h
  breaks_here OutOfMemory h = part_here h

-- what has happened where a run comes to it
pub happens : (mid : Engine) (es : List Event) (g : Game) (n : ℕ) (w : World) (run : Run) → Then es w (λ u. StandsAt mid g n u run) → Stretch es [] w (λ u. Grows u run.world)
happens mid es g n w run t = stretched es w (λ u. Grows u run.world) (record { world = t.world; adds = t.adds; holds = stands_happened g t.holds.at.inside.lives t.holds.at.ways _ n t.world run t.holds.stands })

-- ## What is told where an engine is

module _ {P : Type 0} (v : Watching P) (old new : Engine) (s s' : Spacer) (k k' : P) (i : SourceView) (more : List Event) (left : old.left ≡ suc new.left) (leads : (g : Game) (n : ℕ) (w : World) (run : Run) → StandsAt old g (suc n) w run → Then more w (λ u. StandsAt new g n u run)) where
  pub shown_done : IsReady new → SameLimits old new → new.told.items ≡ [] → ShowsAll v more s s' k k' → GoalDone v old new s s' k k' i i
  shown_done ready limits quiet shown = record {
    ready = ready;
    limits = limits;
    left = left;
    added = more;
    taken = [];
    gave = gave_nothing i;
    leads = λ g n w run a st. stretched more w (λ u. StandsAt new g n u run) (leads g n w run st);
    writes = writes_shown v s s' k k' more shown;
    silent = quiet;
  }

  pub shown_breaks : 0 < length old.here.goals.now → (fault : RunFault) → BreaksSo v fault more s s' k k' → Broken v fault old s s' k k' i i
  shown_breaks some fault h = breaks_here v old s s' k k' i i more [] new.left some left (gave_nothing i) (λ g n w run a st. happens new more g n w run (leads g n w run st)) fault h
