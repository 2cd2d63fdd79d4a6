-- From goal to goal up to the end of a run.
use Rattle.std.proofs.Common.{◌≡◌, ℕ, suc, ◌+◌, ◌<◌, List, [], ◌∷◌, ◌++◌, Option, Some, None, Bool, false, Err, refl, sym, ap, ◌∙◌, subst, arith, length, length-append, inl, inr, append_assoc}
use Rattle.std.specs.Prelude.{Result, Ok, IfOk, IfErr}
use Rattle.dg_base.specs.declared.run.Ending.{Ending}
use Rattle.dg_base.specs.declared.run.Ending.TheVariants.{Done, Failed, HeapLimit, TrailLimit, AuxLimit, KeepLimit}
use Rattle.dg_base.specs.declared.run.RunFault.{RunFault}
use Rattle.dg_base.specs.declared.run.RunFault.TheVariants.{Read, Write, OutOfMemory}
use Rattle.dg_meaning.specs.World.{Game, World, Event}
use Rattle.dg_meaning.specs.Path.{Result as SearchResult, Failing, End}
use Rattle.dg_meaning.specs.Transcript.{Run, ending_of}
use Rattle.dg_meaning.specs.inside.OneRun.{Grows}
use Rattle.dg_base.specs.Begins.{EndsWith}
use Rattle.dg_meaning.proofs.OneRun.{ends_on}
use Rattle.dg_meaning.specs.Peaks.{Area, Heap, Trail, Aux, Keep, greatest}
use Rattle.dg_meaning.proofs.Keeps.{stands_happened}
use Rattle.dg_lasting.specs.declared.lack.Lack.{Lack}
use Rattle.dg_lasting.specs.Lacks.{area_of}
use Rattle.dg_spacing.specs.declared.spacer.Spacer.{Spacer}
use Rattle.dg_interp.specs.declared.engine.Engine.{Engine}
use Rattle.dg_watch.specs.declared.watch.CallEvent.{CallEvent}
use Rattle.dg_watch.specs.Watching.{Watching, Given, Lost}
use Rattle.dg_watch.specs.Told.{told_events}
use Rattle.dg_interp.specs.inside.Engine.{PassesLimit, limit_in, IsReady, StandsAt, LacksIn, LackAt, Then, Tells, events_of, HasEndedSo, AtGoal, GoesToGoal, Forgets}
use Rattle.dg_interp.specs.inside.Showing.{calls_told}
use Rattle.dg_base.specs.Streams.{SourceView}
use Rattle.dg_meaning.specs.Shows.{IsLeft}
use Rattle.std.proofs.lemmas.List.{append-nil, append_cancel_left}
use Rattle.dg_meaning.specs.Engines.{told_behind, left_told}
use Rattle.dg_meaning.proofs.Engines.{as_told}
use Rattle.dg_interp.specs.inside.Running.{Gave, Awaits, Stretch, HasText, Reaches, GoesOn, HasEnded, MeetsLimit, Ended, HasPart, IsLimited, TakesMore, LosesInput, LosesOutput, Broken, GoalDone, Does, TellsSo, ending_at, limit_of}
use Rattle.dg_interp.proofs.Places.{limits_at, adds_nothing, telling_limits, just_finished}
use Rattle.dg_interp.proofs.Runs.{same_on, same_here, gave_nothing, gave_on, stretched, ended_at, writes_nothing, writes_on, text_shown, calls_shown, calls_lost, quiet_told, forgets_ready, forgets_stands, forgets_limits, forgets_left, forgets_goals, finished_so, finished_later, lost_begins, lost_shown, no_more}

-- ## From stretch to stretch

pub stretch_on : (xs ys : List Event) (ts us : List ℕ) (w : World) (Q R : World → Type 0) → Stretch xs ts w Q → ((u : World) → w.typed ≡ ts ++ u.typed → Q u → Stretch ys us u R) → Stretch (xs ++ ys) (ts ++ us) w R
stretch_on xs ys ts us w Q R a f =
    let b = f a.world a.typed a.holds in
    record {
      world = b.world;
      events_are = b.events_are ∙ ap (λ l. l ++ ys) a.events_are ∙ append_assoc w.events xs ys;
      typed = a.typed ∙ ap (λ l. ts ++ l) b.typed ∙ sym (append_assoc ts us b.world.typed);
      holds = b.holds;
    }

-- what the first of two stretches awaits
awaits_first : (a b : SourceView) (ended : Bool) (xs ys : List ℕ) (w : World) → Gave a b ended ys → Awaits b ended (xs ++ ys) w → Awaits a false xs w
awaits_first a b ended xs ys w h k = record { rest = ys ++ k.rest; left = h.left k.rest k.left; typed = k.typed ∙ append_assoc xs ys k.rest }

-- and then the other
abbrev awaits_then : (b : SourceView) (ended : Bool) (xs ys : List ℕ) (w v : World) → w.typed ≡ xs ++ v.typed → Awaits b ended (xs ++ ys) w → Awaits b ended ys v
awaits_then b ended xs ys w v e k = record { rest = k.rest; left = k.left; typed = append_cancel_left xs v.typed (ys ++ k.rest) (sym e ∙ k.typed ∙ append_assoc xs ys k.rest) }

-- what is left behind a stretch
left_behind : (b : SourceView) (xs : List ℕ) (w v : World) → w.typed ≡ xs ++ v.typed → Awaits b false xs w → IsLeft b.left v.typed
left_behind b xs w v e k = subst (IsLeft b.left) (append_cancel_left xs k.rest v.typed (sym k.typed ∙ e)) k.left

-- a stretch of calls behind a stretch
pub then_called : (xs : List Event) (ts : List ℕ) (cs : List CallEvent) (w : World) (Q R : World → Type 0) → Stretch xs ts w Q → ((u : World) → Q u → Then (events_of cs) u R) → Stretch (xs ++ events_of cs) ts w R
then_called xs ts cs w Q R a f =
    subst (λ l. Stretch (xs ++ events_of cs) l w R) (append-nil ts)
    (stretch_on xs (events_of cs) ts [] w Q R a (λ u e h. stretched (events_of cs) u R (f u h)))

-- ## Behind a goal

module _ {P : Type 0} (v : Watching P) (old mid : Engine) (s s' : Spacer) (k k' : P) (i i' : SourceView) (some : 0 < length old.here.goals.now) (h : GoalDone v old mid s s' k k' i i') where
  leads_here : (g : Game) (w : World) (run : Run) → Awaits i' false h.taken w → StandsAt old g old.left w run → Stretch h.added h.taken w (λ u. StandsAt mid g mid.left u run)
  leads_here g w run a st = h.leads g mid.left w run a (subst (λ n. StandsAt old g n w run) h.left st)

  text_here : (w u : World) (start : P) → u.events ≡ w.events ++ h.added → HasText v s start k w.events → HasText v s' start k' u.events
  text_here w u start more text = subst (HasText v s' start k') (sym more) (h.writes start w.events text)

  -- calls are told behind it
  module _ (new : Engine) (k'' : P) (tells : Tells mid new) where
    told_is : new.told.items ≡ tells.calls
    told_is = quiet_told mid new tells h.silent

    text_called : (start : P) (es : List Event) → Given v k' k'' (calls_told new.told.items) → HasText v s' start k' es → HasText v s' start k'' (es ++ events_of tells.calls)
    text_called start es given text = text_shown v s' s' start k' k'' es (events_of tells.calls) text (calls_shown v tells.calls s' k' k'' (subst (λ l. Given v k' k'' (calls_told l)) told_is given))

    writes_called : Given v k' k'' (calls_told new.told.items) → (start : P) (es : List Event) → HasText v s start k es → HasText v s' start k'' (es ++ (h.added ++ events_of tells.calls))
    writes_called given start es text = subst (HasText v s' start k'') (append_assoc es h.added (events_of tells.calls)) (text_called start (es ++ h.added) given (h.writes start es text))

    -- it failed while it was told them
    called_lost : ((g : Game) (n : ℕ) (w : World) (run : Run) → StandsAt mid g n w run → Then (events_of tells.calls) w (λ u. Grows u run.world)) → Lost v k' k'' (calls_told new.told.items) → LosesOutput v old s k k'' i i'
    called_lost grows lost = record {
      goals = 0;
      below = omega (arith, h.left);
      taken = h.taken;
      gave = h.gave;
      breaks = λ g w run start a st text.
          let t = comes g w run a st in
          lost_begins v t.world.events run.world.events t.holds.events start k''
          (subst (λ l. Lost v start k'' (told_events l)) (append_assoc w.events h.added (events_of tells.calls) ∙ sym t.events_are)
          (lost_shown v s' start k' k'' (w.events ++ h.added) (events_of tells.calls) (h.writes start w.events text)
          (calls_lost v tells.calls s' k' k'' (subst (λ l. Lost v k' k'' (calls_told l)) told_is lost))));
      until = λ g w run a st.
          let t = comes g w run a st in
          subst (λ l. EndsWith l run.world.typed) (append_cancel_left h.taken t.world.typed a.rest (sym t.typed ∙ a.typed)) t.holds.typed;
      since = λ g w run a st. (no_more old h.added i' h.taken g w run a some st).typed;
    }
      where
        comes : (g : Game) (w : World) (run : Run) → Awaits i' false h.taken w → StandsAt old g (suc 0) w run → Stretch (h.added ++ events_of tells.calls) h.taken w (λ u. Grows u run.world)
        comes g w run a st = then_called h.added h.taken tells.calls w (λ u. StandsAt mid g 0 u run) (λ u. Grows u run.world) (h.leads g 0 w run a st) (λ u at. grows g 0 u run at)

  next_goes_on : (new e : Engine) (k'' : P) → AtGoal (StandsAt mid) mid new → Forgets new e → Given v k' k'' (calls_told new.told.items) → GoesOn v old e s s' k k'' i i' × (old.left ≡ suc e.left)
  next_goes_on new e k'' a forgets given =
      let left : e.left ≡ mid.left = forgets_left new e forgets ∙ a.went_on.left in (
        record {
          ready = forgets_ready new e forgets a.went_on.ready;
          goal = subst (λ l. 0 < length l) (sym (forgets_goals new e forgets)) a.goal;
          limits = same_on old new e (same_on old mid new h.limits (telling_limits a.went_on.limits)) (forgets_limits new e forgets);
          goals = 1;
          left = omega (arith, h.left, left);
          added = h.added ++ events_of a.went_on.limits.calls;
          taken = h.taken;
          gave = h.gave;
          leads = λ g n w run awaits st.
              let one : 1 + n ≡ suc n = omega arith in
              then_called h.added h.taken a.went_on.limits.calls w (λ u. StandsAt mid g n u run) (λ u. StandsAt e g n u run) (h.leads g n w run awaits (subst (λ i. StandsAt old g i w run) one st))
              (λ u at. let t = a.went_on.leads g n u run at in record { world = t.world; adds = t.adds; holds = forgets_stands new e forgets g n t.world run t.holds });
          writes = writes_called new k'' a.went_on.limits given;
          silent = forgets.told;
        },
        h.left ∙ ap suc (sym left),
      )

  -- whatever comes behind the goal, with what it took
  behind_goal : (k'' : P) (Q : World → Run → P → Type 0) → ((g : Game) (w u : World) (run : Run) (start : P) → EndsWith w.typed u.typed → IsLeft i'.left u.typed → StandsAt mid g mid.left u run → HasText v s' start k' u.events → Q w run start) → Reaches v old s k i i' Q
  behind_goal k'' Q f = record {
    taken = h.taken;
    ended = false;
    gave = h.gave;
    reaches = λ g w run start a st text.
        let t = leads_here g w run a st in
        f g w t.world run start (record { taken = h.taken; is = t.typed }) (left_behind i' h.taken w t.world t.typed a) t.holds (text_here w t.world start t.events_are text);
  }

  next_ended : (new e : Engine) (k'' : P) (result : SearchResult) (ending : Ending) → ending ≡ ending_of result → HasEndedSo (StandsAt mid) result mid new → Forgets new e → Given v k' k'' (calls_told new.told.items) → Reaches v old s k i i' (HasEnded v ending e.left s' k'' (left_told i i'))
  next_ended new e k'' result ending is a forgets given =
      behind_goal k'' (HasEnded v ending e.left s' k'' (left_told i i'))
      (λ g w u run start taken left st text.
      let x = finished_so v result ending mid.left e.left s' k' k'' (left_told i i') u run start (as_told i i' u.typed left) text (sym (forgets_left new e forgets ∙ a.left)) is a.limits.calls (subst (λ l. Given v k' k'' (calls_told l)) (told_is new k'' a.limits) given) (just_finished (a.ends g mid.left u run st)) in
      record { world = x.world; typed = x.typed; is = x.is; text = x.text })

  pub next_ok : (new e : Engine) (k'' : P) (ending result : Option Ending) → result ≡ ending → Forgets new e → Given v k' k'' (calls_told new.told.items) → GoesToGoal (StandsAt mid) ending mid new → Does v result old e s s' k k'' i i'
  next_ok new e k'' ending result same forgets given a = subst (λ o. Does v o old e s s' k k'' i i') (sym same) (here ending a) where
    here : (ending : Option Ending) → GoesToGoal (StandsAt mid) ending mid new → Does v ending old e s s' k k'' i i'
    here None a = next_goes_on new e k'' a forgets given
    here (Some Done) a = next_ended new e k'' (End Done) Done refl a forgets given
    here (Some Failed) a = next_ended new e k'' Failing Failed refl a forgets given
    here (Some _) a = absurd a

  next_unseen : (new : Engine) (k'' : P) (ending : Option Ending) → GoesToGoal (StandsAt mid) ending mid new → Lost v k' k'' (calls_told new.told.items) → LosesOutput v old s k k'' i i'
  next_unseen new k'' None a lost =
      called_lost new k'' a.went_on.limits
      (λ g n w run st. let t = a.went_on.leads g n w run st in record { world = t.world; adds = t.adds; holds = stands_happened g t.holds.at.inside.lives t.holds.at.ways _ n t.world run t.holds.stands })
      lost
  next_unseen new k'' (Some Done) a lost = called_lost new k'' a.limits (λ g n w run st. let t = a.ends g n w run st in record { world = t.world; adds = t.adds; holds = finished_later n t.world (End Done) run t.holds.finished }) lost
  next_unseen new k'' (Some Failed) a lost = called_lost new k'' a.limits (λ g n w run st. let t = a.ends g n w run st in record { world = t.world; adds = t.adds; holds = finished_later n t.world Failing run t.holds.finished }) lost
  next_unseen new k'' (Some _) a lost = absurd a

  -- what is told behind it, and what comes of that
  module _ (new e : Engine) (s'' : Spacer) (same : s'' ≡ s') (k'' : P) (ending : Option Ending) (a : GoesToGoal (StandsAt mid) ending mid new) where
    told_so : (r : Result (Option Ending) RunFault) → TellsSo v ending new e k' k'' r → IfOk r (λ o. Does v o old e s s' k k'' i i')
    told_so (Ok o) t = next_ok new e k'' ending o t.is t.forgets t.given a
    told_so (Err fault) t = tt

    broken_so : (r : Result (Option Ending) RunFault) → TellsSo v ending new e k' k'' r → IfErr r (λ fault. Broken v fault old s s' k k'' i i')
    broken_so (Ok o) t = tt
    broken_so (Err Write) t = next_unseen new k'' ending a t
    broken_so (Err Read) t = absurd t
    broken_so (Err OutOfMemory) t = absurd t

    pub next_told : (r : Result (Option Ending) RunFault) → TellsSo v ending new e k' k'' r → IfOk r (λ o. Does v o old e s s'' k k'' i i')
    next_told r t = subst (λ z. IfOk r (λ o. Does v o old e s z k k'' i i')) (sym same) (told_so r t)

    pub next_broken : (r : Result (Option Ending) RunFault) → TellsSo v ending new e k' k'' r → IfErr r (λ fault. Broken v fault old s s'' k k'' i i')
    next_broken r t = subst (λ z. IfErr r (λ fault. Broken v fault old s z k k'' i i')) (sym same) (broken_so r t)

  next_lost : Reaches v old s k i i' (HasPart v s' k' i'.left)
  next_lost =
      behind_goal k' (HasPart v s' k' i'.left)
      (λ g w u run start taken left st text.
      let later = stands_happened g st.at.inside.lives st.at.ways _ mid.left u run st.stands in
      record { part = u.events; until = later.events; text = text; rest = u.typed; left = left; taken = taken; typed = later.typed })

  next_limit : (area : Area) (left : ℕ) → mid.left ≡ left → PassesLimit area (StandsAt mid) (limit_in area mid) → MeetsLimit v area left old s s' k k' i i'
  next_limit area left same f = record {
    goals = 0;
    left_is = omega (arith, h.left, same);
    added = h.added;
    taken = h.taken;
    gave = h.gave;
    passed = λ g w run a st. let t = h.leads g 0 w run a st in subst (λ n. n < greatest area run.world.meters) (limits_at old mid h.limits area) (f g 0 t.world run t.holds);
    until = λ g w run a st.
        let t = h.leads g 0 w run a st in
        record { world = t.world; events_are = t.events_are; typed = t.typed; holds = stands_happened g t.holds.at.inside.lives t.holds.at.ways _ 0 t.world run t.holds.stands };
    since = λ g w run a st. no_more old h.added i' h.taken g w run a some st;
    writes = h.writes;
  }

  pub next_lacks : (new : Engine) (lack : Lack) (r : Result Ending RunFault) → r ≡ limit_of lack → new.left ≡ mid.left → LackAt (StandsAt mid) mid lack → IfOk r (λ ending. Ended v ending new.left old s s' k k' i i')
  next_lacks new lack r is left f = subst (λ q. IfOk q (λ ending. Ended v ending new.left old s s' k k' i i')) (sym is) (here (area_of lack) f) where
    here : (area : Option Area) → LacksIn area (StandsAt mid) mid → IfOk (ending_at area) (λ ending. Ended v ending new.left old s s' k k' i i')
    here None f = tt
    here (Some area) f = ended_at v area new.left old s s' k k' i i' (next_limit area new.left (sym left) f)

  pub next_breaks : (lack : Lack) (r : Result Ending RunFault) → r ≡ limit_of lack → IfErr r (λ fault. Broken v fault old s s' k k' i i')
  next_breaks lack r is = subst (λ q. IfErr q (λ fault. Broken v fault old s s' k k' i i')) (sym is) (here (area_of lack)) where
    here : (area : Option Area) → IfErr (ending_at area) (λ fault. Broken v fault old s s' k k' i i')
    here None = next_lost
    here (Some area) = tt

-- ## On and on

pub goes_nowhere : {P : Type 0} (v : Watching P) (e : Engine) (s : Spacer) (k : P) (i : SourceView) → IsReady e → 0 < length e.here.goals.now → e.told.items ≡ [] → GoesOn v e e s s k k i i
goes_nowhere v e s k i ready goal quiet = record {
  ready = ready;
  goal = goal;
  limits = same_here e;
  goals = 0;
  left = omega arith;
  added = [];
  taken = [];
  gave = gave_nothing i;
  leads = λ g n w run a st.
      let same : 0 + n ≡ n = omega arith in
      stretched [] w (λ u. StandsAt e g n u run) (record { world = w; adds = adds_nothing w; holds = subst (λ i. StandsAt e g i w run) same st });
  writes = writes_nothing v s k;
  silent = quiet;
}

-- what is told behind two stretches
told_on : (a b c : Option (List ℕ)) (xs : List ℕ) → ((rest : List ℕ) → IsLeft b rest → IsLeft a (xs ++ rest)) → (typed : List ℕ) → IsLeft (told_behind b c) typed → IsLeft (told_behind a c) typed
told_on None b c xs gave typed h = tt
told_on (Some x) (Some y) c xs gave typed h = h
told_on (Some x) None c xs gave typed h =
    let none : x ≡ xs ++ [] = gave [] tt in
    let one : x ≡ xs ++ 0 ∷ [] = gave (0 ∷ []) tt in
    absurd (omega (arith, ap length none, ap length one, length-append xs [], length-append xs (0 ∷ [])))

takes_more_on : (xs ys more : List ℕ) (w v : World) (run : Run) → w.typed ≡ xs ++ v.typed → TakesMore (length ys) (length more) v run → TakesMore (length (xs ++ ys)) (length more) w run
takes_more_on xs ys more w v run e (inl over) = inl over
takes_more_on xs ys more w v run e (inr more_taken) =
    let a = ap length e ∙ length-append xs v.typed in
    let b = length-append xs ys in
    inr (omega (arith, a, b, more_taken.0), omega (arith, a, b, more_taken.1))

module _ {P : Type 0} (v : Watching P) (a b : Engine) (s s' s'' : Spacer) (k k' k'' : P) (i i' i'' : SourceView) (h : GoesOn v a b s s' k k' i i') where
  pub goes_further : (c : Engine) → GoesOn v b c s' s'' k' k'' i' i'' → GoesOn v a c s s'' k k'' i i''
  goes_further c j = record {
    ready = j.ready;
    goal = j.goal;
    limits = same_on a b c h.limits j.limits;
    goals = h.goals + j.goals;
    left = omega (arith, h.left, j.left);
    added = h.added ++ j.added;
    taken = h.taken ++ j.taken;
    gave = gave_on i i' i'' false h.taken j.taken h.gave j.gave;
    leads = λ g n w run awaits st.
        let same : h.goals + j.goals + n ≡ h.goals + (j.goals + n) = omega arith in
        stretch_on h.added j.added h.taken j.taken w (λ u. StandsAt b g (j.goals + n) u run) (λ u. StandsAt c g n u run)
        (h.leads g (j.goals + n) w run (awaits_first i' i'' false h.taken j.taken w j.gave awaits) (subst (λ i. StandsAt a g i w run) same st))
        (λ u e at. j.leads g n u run (awaits_then i'' false h.taken j.taken w u e awaits) at);
    writes = writes_on v s s' s'' k k' k'' h.added j.added h.writes j.writes;
    silent = j.silent;
  }

  has_text : (w u : World) (start : P) → u.events ≡ w.events ++ h.added → HasText v s start k w.events → HasText v s' start k' u.events
  has_text w u start more text = subst (HasText v s' start k') (sym more) (h.writes start w.events text)

  reaches_further : (Q R : World → Run → P → Type 0) → ((w u : World) (run : Run) (start : P) → EndsWith w.typed u.typed → Q u run start → R w run start) → Reaches v b s' k' i' i'' Q → Reaches v a s k i i'' R
  reaches_further Q R f j = record {
    taken = h.taken ++ j.taken;
    ended = j.ended;
    gave = gave_on i i' i'' j.ended h.taken j.taken h.gave j.gave;
    reaches = λ g w run start awaits st text.
        let t = h.leads g b.left w run (awaits_first i' i'' j.ended h.taken j.taken w j.gave awaits) (subst (λ n. StandsAt a g n w run) h.left st) in
        f w t.world run start (record { taken = h.taken; is = t.typed }) (j.reaches g t.world run start (awaits_then i'' j.ended h.taken j.taken w t.world t.typed awaits) t.holds (has_text w t.world start t.events_are text));
  }

  pub ended_reaches : (e : Ending) (n : ℕ) → Reaches v b s' k' i' i'' (HasEnded v e n s'' k'' (left_told i' i'')) → Reaches v a s k i i'' (HasEnded v e n s'' k'' (left_told i i''))
  ended_reaches e n = reaches_further (HasEnded v e n s'' k'' (left_told i' i'')) (HasEnded v e n s'' k'' (left_told i i''))
      (λ w u run start ends y. record { world = y.world; typed = told_on i.left i'.left i''.left h.taken h.gave.left y.world.typed y.typed; is = y.is; text = y.text })

  -- the input failed further on
  loses_further : LosesInput v b s' s'' k' k'' i' i'' → LosesInput v a s s'' k k'' i i''
  loses_further j =
      let all = append_assoc h.taken j.taken j.more in
      let behind : suc (h.goals + j.goals) ≡ h.goals + suc j.goals = omega arith in
      record {
        goals = h.goals + j.goals;
        below = omega (arith, h.left, j.below);
        added = h.added ++ j.added;
        taken = h.taken ++ j.taken;
        more = j.more;
        rose = omega (arith, h.gave.later, j.rose);
        gave = subst (Gave i i'' false) (sym all) (gave_on i i' i'' false h.taken (j.taken ++ j.more) h.gave j.gave);
        stops = λ g w run awaits st.
            let here = subst (λ l. Awaits i'' false l w) all awaits in
            stretch_on h.added j.added h.taken j.taken w (λ u. StandsAt b g j.goals u run) (λ u. IsLimited u run)
            (h.leads g j.goals w run (awaits_first i' i'' false h.taken (j.taken ++ j.more) w j.gave here) st)
            (λ u e at. j.stops g u run (awaits_then i'' false h.taken (j.taken ++ j.more) w u e here) at);
        reads = λ g w run awaits st.
            let here = subst (λ l. Awaits i'' false l w) all awaits in
            let t = h.leads g (suc j.goals) w run (awaits_first i' i'' false h.taken (j.taken ++ j.more) w j.gave here) (subst (λ i. StandsAt a g i w run) behind st) in
            takes_more_on h.taken j.taken j.more w t.world run t.typed (j.reads g t.world run (awaits_then i'' false h.taken (j.taken ++ j.more) w t.world t.typed here) t.holds);
        writes = writes_on v s s' s'' k k' k'' h.added j.added h.writes j.writes;
      }

  -- or the output
  output_further : LosesOutput v b s' k' k'' i' i'' → LosesOutput v a s k k'' i i''
  output_further j =
      let behind : suc (h.goals + j.goals) ≡ h.goals + suc j.goals = omega arith in
      record {
        goals = h.goals + j.goals;
        below = omega (arith, h.left, j.below);
        taken = h.taken ++ j.taken;
        gave = gave_on i i' i'' false h.taken j.taken h.gave j.gave;
        breaks = λ g w run start awaits st text.
            let t = h.leads g (suc j.goals) w run (awaits_first i' i'' false h.taken j.taken w j.gave awaits) (subst (λ i. StandsAt a g i w run) behind st) in
            j.breaks g t.world run start (awaits_then i'' false h.taken j.taken w t.world t.typed awaits) t.holds (has_text w t.world start t.events_are text);
        until = λ g w run awaits st.
            let t = h.leads g (suc j.goals) w run (awaits_first i' i'' false h.taken j.taken w j.gave awaits) (subst (λ i. StandsAt a g i w run) behind st) in
            j.until g t.world run (awaits_then i'' false h.taken j.taken w t.world t.typed awaits) t.holds;
        since = λ g w run awaits st.
            let t = h.leads g j.goals w run (awaits_first i' i'' false h.taken j.taken w j.gave awaits) st in
            j.since g t.world run (awaits_then i'' false h.taken j.taken w t.world t.typed awaits) t.holds;
      }

  pub broken_reaches : (fault : RunFault) → Broken v fault b s' s'' k' k'' i' i'' → Broken v fault a s s'' k k'' i i''
  broken_reaches Read j = loses_further j
  broken_reaches Write j = output_further j
  broken_reaches OutOfMemory j =
      reaches_further (HasPart v s'' k'' i''.left) (HasPart v s'' k'' i''.left)
      (λ w u run start ends y. record { part = y.part; until = y.until; text = y.text; rest = y.rest; left = y.left; taken = ends_on w.typed u.typed y.rest ends y.taken; typed = y.typed })
      j

  limit_further : (area : Area) (left : ℕ) → MeetsLimit v area left b s' s'' k' k'' i' i'' → MeetsLimit v area left a s s'' k k'' i i''
  limit_further area left j =
      let behind : suc (h.goals + j.goals) ≡ h.goals + suc j.goals = omega arith in
      record {
        goals = h.goals + j.goals;
        left_is = omega (arith, h.left, j.left_is);
        added = h.added ++ j.added;
        taken = h.taken ++ j.taken;
        gave = gave_on i i' i'' false h.taken j.taken h.gave j.gave;
        passed = λ g w run awaits st.
            let t = h.leads g (suc j.goals) w run (awaits_first i' i'' false h.taken j.taken w j.gave awaits) (subst (λ i. StandsAt a g i w run) behind st) in
            subst (λ n. n < greatest area run.world.meters) (limits_at a b h.limits area) (j.passed g t.world run (awaits_then i'' false h.taken j.taken w t.world t.typed awaits) t.holds);
        until = λ g w run awaits st.
            stretch_on h.added j.added h.taken j.taken w (λ u. StandsAt b g (suc j.goals) u run) (λ u. Grows u run.world)
            (h.leads g (suc j.goals) w run (awaits_first i' i'' false h.taken j.taken w j.gave awaits) (subst (λ i. StandsAt a g i w run) behind st))
            (λ u e at. j.until g u run (awaits_then i'' false h.taken j.taken w u e awaits) at);
        since = λ g w run awaits st.
            let t = h.leads g j.goals w run (awaits_first i' i'' false h.taken j.taken w j.gave awaits) st in
            let x = j.since g t.world run (awaits_then i'' false h.taken j.taken w t.world t.typed awaits) t.holds in
            record {
              events = record { behind = x.events.behind; is = sym (append_assoc w.events h.added j.added) ∙ ap (λ l. l ++ j.added) (sym t.events_are) ∙ x.events.is };
              typed = x.typed;
            };
        writes = writes_on v s s' s'' k k' k'' h.added j.added h.writes j.writes;
      }

  pub ended_further : (e : Ending) (left : ℕ) → Ended v e left b s' s'' k' k'' i' i'' → Ended v e left a s s'' k k'' i i''
  ended_further HeapLimit left j = limit_further Heap left j
  ended_further TrailLimit left j = limit_further Trail left j
  ended_further AuxLimit left j = limit_further Aux left j
  ended_further KeepLimit left j = limit_further Keep left j
  ended_further e left j = ended_reaches e left j
