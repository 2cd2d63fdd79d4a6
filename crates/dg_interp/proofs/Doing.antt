-- One goal, and what is told of it.
use Rattle.std.proofs.Common.{◌≡◌, ℕ, suc, ◌<◌, List, [], ◌∷◌, Bool, true, false, Option, Some, None, refl, sym, ap, ◌∙◌, subst, arith, length, Ok, Err}
use Rattle.std.specs.Prelude.{Result, IfOk, IfErr}
use Rattle.dg_base.specs.declared.program.Goal.{Goal, out-Goal}
use Rattle.dg_base.specs.declared.program.Goal as place
use denote.Hole.Carrier.{out}
use Rattle.dg_base.specs.declared.program.Goal.TheVariants.{Text, Gap, GapN, Print as PrintGoal, Quit, Stop, Input}
use Rattle.dg_base.specs.declared.program.GapKind.{GapKind}
use Rattle.dg_base.specs.declared.program.Term.{Term}
use Rattle.dg_base.specs.declared.run.Ending.{Ending}
use Rattle.dg_base.specs.declared.run.Ending.TheVariants.{Failed, Stopped, Quit as Quit-Ending}
use Rattle.dg_base.specs.declared.run.RunFault.{RunFault}
use Rattle.dg_base.specs.declared.run.RunFault.TheVariants.{Read, Write, OutOfMemory}
use Rattle.dg_meaning.specs.World.{Game, World, Print, Piece, GapOf, Prints}
use Rattle.dg_meaning.specs.Path.{Result as SearchResult, Failing, End}
use Rattle.dg_meaning.specs.Transcript.{Run, ending_of}
use Rattle.dg_meaning.specs.inside.OneRun.{Grows}
use Rattle.dg_meaning.specs.Peaks.{Area, greatest}
use Rattle.dg_meaning.proofs.Keeps.{stands_happened}
use Rattle.dg_unify.specs.declared.bindings.Ref.{Ref}
use Rattle.dg_spacing.specs.declared.spacer.Spacer.{Spacer}
use Rattle.dg_interp.specs.declared.engine.Engine.{Engine}
use Rattle.dg_watch.specs.Watching.{Watching, Given, Lost}
use Rattle.dg_lasting.specs.declared.lack.Lack.{Lack}
use Rattle.dg_lasting.specs.Lacks.{area_of}
use Rattle.dg_interp.specs.inside.Engine.{limit_in, LacksIn, LackAt, PassesLimit, IsAct, pieces_at, WrotePrinted, StandsAt, TakesAt, events_of, Then, Taken, Forgets, WentOn, HasEndedSo, Branches, Stops}
use Rattle.dg_base.specs.Streams.{SourceView}
use Rattle.dg_meaning.specs.Engines.{left_told}
use Rattle.dg_meaning.proofs.Engines.{as_told}
use Rattle.dg_interp.specs.inside.Showing.{calls_told, as_events}
use Rattle.dg_interp.specs.inside.Running.{Reaches, HasEnded, MeetsLimit, HasPart, LosesOutput, Broken, GoalDone, DoesGoal, TellsSo, LacksSo, ComesTo, ending_at, limit_of, over}
use Rattle.dg_interp.proofs.Places.{limits_at, adds_nothing, same_limits, telling_limits, just_finished}
use Rattle.dg_interp.proofs.Goals.{prints_word, prints_gap, quits}
use Rattle.dg_interp.proofs.Runs.{stretched, quiet_told, finished_later, forgets_ready, forgets_stands, forgets_limits, forgets_left, writes_nothing, calls_shown, calls_lost, gave_nothing, same_on, no_more, reads_nothing, finished_so, finished_here, ended_at, breaks_here, shown_done, shown_breaks}

-- ## One goal

-- all goals but these seven are acts
pub is_act : (x : Goal) → ((name : List ℕ) → x ≡ Text name → ⊥) → ((a : Term) → x ≡ PrintGoal a → ⊥) → (x ≡ Quit → ⊥) → (x ≡ Stop → ⊥) → ((kind : GapKind) → x ≡ Gap kind → ⊥) → ((a : Term) → x ≡ GapN a → ⊥) → ((a : Term) → x ≡ Input a → ⊥) → IsAct (out-Goal x)
unfolding out-Goal out
is_act (place.Text name) text print quit stop gap spaces input = absurd (text name refl)
is_act (place.Print a) text print quit stop gap spaces input = absurd (print a refl)
is_act place.Quit text print quit stop gap spaces input = absurd (quit refl)
is_act place.Stop text print quit stop gap spaces input = absurd (stop refl)
is_act (place.Gap kind) text print quit stop gap spaces input = absurd (gap kind refl)
is_act (place.GapN a) text print quit stop gap spaces input = absurd (spaces a refl)
is_act (place.Input a) text print quit stop gap spaces input = absurd (input a refl)
is_act x text print quit stop gap spaces input = tt

module _ {P : Type 0} (v : Watching P) (x : Goal) (old mid : Engine) (s : Spacer) (k : P) (i : SourceView) (some : 0 < length old.here.goals.now) (taken : Taken x old mid) (quiet : mid.told.items ≡ []) where
  takes_here : (g : Game) (w : World) (run : Run) → StandsAt old g old.left w run → TakesAt x mid g mid.left w run
  takes_here g w run st = taken.takes g mid.left w run (subst (λ n. StandsAt old g n w run) taken.left st)

  module _ (new : Engine) (h : WentOn (TakesAt x mid) mid new) where
    left_new : old.left ≡ suc new.left
    left_new = taken.left ∙ ap suc (sym h.left)

    leads_new : (g : Game) (n : ℕ) (w : World) (run : Run) → StandsAt old g (suc n) w run → Then (events_of h.limits.calls) w (λ u. StandsAt new g n u run)
    leads_new g n w run st = h.leads g n w run (taken.takes g n w run st)

    told_is : new.told.items ≡ h.limits.calls
    told_is = quiet_told mid new h.limits quiet

    -- it has begun a branch, or goes on
    pub goal_done : (k' : P) (e : Engine) → Forgets new e → Given v k k' (calls_told new.told.items) → GoalDone v old e s s k k' i i
    goal_done k' e forgets given =
        shown_done v old e s s k k' i (events_of h.limits.calls) (left_new ∙ ap suc (sym (forgets_left new e forgets)))
        (λ g n w run st. let t = leads_new g n w run st in record { world = t.world; adds = t.adds; holds = forgets_stands new e forgets g n t.world run t.holds })
        (forgets_ready new e forgets h.ready) (same_on old new e (same_on old mid new (same_limits taken.limits) (telling_limits h.limits)) (forgets_limits new e forgets)) forgets.told
        (calls_shown v h.limits.calls s k k' (subst (λ l. Given v k k' (calls_told l)) told_is given))

    done_lost : (k' : P) → Lost v k k' (calls_told new.told.items) → LosesOutput v old s k k' i i
    done_lost k' lost = shown_breaks v old new s s k k' i (events_of h.limits.calls) left_new leads_new some Write (calls_lost v h.limits.calls s k k' (subst (λ l. Lost v k k' (calls_told l)) told_is lost))

  module _ (new : Engine) (result : SearchResult) (h : HasEndedSo (TakesAt x mid) result mid new) where
    told_end : new.told.items ≡ h.limits.calls
    told_end = quiet_told mid new h.limits quiet

    pub goal_ended : (e : Ending) → e ≡ ending_of result → (k' : P) (left : ℕ) → left ≡ new.left → Given v k k' (calls_told new.told.items) → Reaches v old s k i i (HasEnded v e left s k' (left_told i i))
    goal_ended e is k' left same given =
        reads_nothing v old s k i (HasEnded v e left s k' (left_told i i))
        (λ g w run start here st text. finished_so v result e mid.left left s k k' (left_told i i) w run start (as_told i i w.typed here) text (sym (same ∙ h.left)) is h.limits.calls (subst (λ l. Given v k k' (calls_told l)) told_end given) (just_finished (h.ends g mid.left w run (takes_here g w run st))))

    end_lost : (k' : P) → Lost v k k' (calls_told new.told.items) → LosesOutput v old s k k' i i
    end_lost k' lost =
        breaks_here v old s s k k' i i (events_of h.limits.calls) [] mid.left some taken.left (gave_nothing i)
        (λ g n w run a st.
        let t = h.ends g n w run (taken.takes g n w run st) in
        stretched (events_of h.limits.calls) w (λ u. Grows u run.world) (record { world = t.world; adds = t.adds; holds = finished_later n t.world result run t.holds.finished }))
        Write (calls_lost v h.limits.calls s k k' (subst (λ l. Lost v k k' (calls_told l)) told_end lost))

  -- memory ran out before anything was told
  pub goal_lost : Reaches v old s k i i (HasPart v s k i.left)
  goal_lost =
      reads_nothing v old s k i (HasPart v s k i.left)
      (λ g w run start left st text.
      let later = stands_happened g st.at.inside.lives st.at.ways _ old.left w run st.stands in
      record { part = w.events; until = later.events; text = text; rest = w.typed; left = left; taken = record { taken = []; is = refl }; typed = later.typed })

  pub goal_limit : (area : Area) (left : ℕ) → mid.left ≡ left → PassesLimit area (TakesAt x mid) (limit_in area mid) → MeetsLimit v area left old s s k k i i
  goal_limit area left same h = record {
    goals = 0;
    left_is = omega (arith, taken.left, same);
    added = [];
    taken = [];
    gave = gave_nothing i;
    passed = λ g w run a st. subst (λ n. n < greatest area run.world.meters) (limits_at old mid (same_limits taken.limits) area) (h g 0 w run (taken.takes g 0 w run st));
    until = λ g w run a st. stretched [] w (λ u. Grows u run.world) (record { world = w; adds = adds_nothing w; holds = stands_happened g st.at.inside.lives st.at.ways _ 1 w run st.stands });
    since = λ g w run a st. no_more old [] i [] g w run a some st;
    writes = writes_nothing v s k;
  }

  pub lacks_does : (new : Engine) → new.left ≡ mid.left → (lack : Lack) → LackAt (TakesAt x mid) mid lack → IfOk (over (limit_of lack)) (λ ending. DoesGoal v ending old new s s k k i i)
  lacks_does new left lack h = here (area_of lack) h where
    here : (area : Option Area) → LacksIn area (TakesAt x mid) mid → IfOk (over (ending_at area)) (λ ending. DoesGoal v ending old new s s k k i i)
    here None h = tt
    here (Some area) h = ended_at v area new.left old s s k k i i (goal_limit area new.left (sym left) h)

  pub lacks_breaks : (lack : Lack) → IfErr (over (limit_of lack)) (λ fault. Broken v fault old s s k k i i)
  lacks_breaks lack = here (area_of lack) where
    here : (area : Option Area) → IfErr (over (ending_at area)) (λ fault. Broken v fault old s s k k i i)
    here None = goal_lost
    here (Some area) = tt

  -- from where the goal was done to where it was told
  module _ (new e : Engine) (s' : Spacer) (same : s' ≡ s) (k' : P) (result : Result (Option Ending) RunFault) (left : new.left ≡ mid.left) where
    went_does : WentOn (TakesAt x mid) mid new → (r : Result (Option Ending) RunFault) → TellsSo v None new e k k' r → IfOk r (λ ending. DoesGoal v ending old e s s k k' i i)
    went_does h (Ok ending) t = subst (λ o. DoesGoal v o old e s s k k' i i) (sym t.is) (goal_done new h k' e t.forgets t.given)
    went_does h (Err fault) t = tt

    went_breaks : WentOn (TakesAt x mid) mid new → (r : Result (Option Ending) RunFault) → TellsSo v None new e k k' r → IfErr r (λ fault. Broken v fault old s s k k' i i)
    went_breaks h (Ok ending) t = tt
    went_breaks h (Err Write) t = done_lost new h k' t
    went_breaks h (Err Read) t = absurd t
    went_breaks h (Err OutOfMemory) t = absurd t

    module _ (end : SearchResult) (ending : Ending) (is : ending ≡ ending_of end) (does : Reaches v old s k i i (HasEnded v ending e.left s k' (left_told i i)) → DoesGoal v (Some ending) old e s s k k' i i) where
      end_does : HasEndedSo (TakesAt x mid) end mid new → (r : Result (Option Ending) RunFault) → TellsSo v (Some ending) new e k k' r → IfOk r (λ ending. DoesGoal v ending old e s s k k' i i)
      end_does h (Ok o) t = subst (λ o. DoesGoal v o old e s s k k' i i) (sym t.is) (does (goal_ended new end h ending is k' e.left (forgets_left new e t.forgets) t.given))
      end_does h (Err fault) t = tt

      end_breaks : HasEndedSo (TakesAt x mid) end mid new → (r : Result (Option Ending) RunFault) → TellsSo v (Some ending) new e k k' r → IfErr r (λ fault. Broken v fault old s s k k' i i)
      end_breaks h (Ok o) t = tt
      end_breaks h (Err Write) t = end_lost new end h k' t
      end_breaks h (Err Read) t = absurd t
      end_breaks h (Err OutOfMemory) t = absurd t

    lacks_so : (lack : Lack) → LackAt (TakesAt x mid) mid lack → LacksSo lack new e k k' result → IfOk result (λ ending. DoesGoal v ending old e s s k k' i i)
    lacks_so lack f t =
        subst (λ q. IfOk q (λ ending. DoesGoal v ending old e s s k k' i i)) (sym t.is)
        (subst (λ p. IfOk (over (limit_of lack)) (λ ending. DoesGoal v ending old e s s k p i i)) (sym t.shown) (lacks_does e (ap (λ (y : Engine). y.left) t.engine ∙ left) lack f))

    lacks_so_breaks : (lack : Lack) → LacksSo lack new e k k' result → IfErr result (λ fault. Broken v fault old s s k k' i i)
    lacks_so_breaks lack t =
        subst (λ q. IfErr q (λ fault. Broken v fault old s s k k' i i)) (sym t.is)
        (subst (λ p. IfErr (over (limit_of lack)) (λ fault. Broken v fault old s s k p i i)) (sym t.shown) (lacks_breaks lack))

    -- the spacer is as it was
    does_at : IfOk result (λ ending. DoesGoal v ending old e s s k k' i i) → IfOk result (λ ending. DoesGoal v ending old e s s' k k' i i)
    does_at h = subst (λ z. IfOk result (λ ending. DoesGoal v ending old e s z k k' i i)) (sym same) h

    breaks_at : IfErr result (λ fault. Broken v fault old s s k k' i i) → IfErr result (λ fault. Broken v fault old s s' k k' i i)
    breaks_at h = subst (λ z. IfErr result (λ fault. Broken v fault old s z k k' i i)) (sym same) h

    pub goal_does : (r : Result Bool Lack) → ComesTo v r new e k k' result → IfOk r (λ found. Branches (TakesAt x mid) found mid new) → IfErr r (λ lack. LackAt (TakesAt x mid) mid lack) → IfOk result (λ ending. DoesGoal v ending old e s s' k k' i i)
    goal_does (Ok true) t ok err = does_at (went_does ok result t)
    goal_does (Ok false) t ok err = does_at (end_does Failing Failed refl (λ h. h) ok result t)
    goal_does (Err lack) t ok err = does_at (lacks_so lack err t)

    pub goal_breaks : (r : Result Bool Lack) → ComesTo v r new e k k' result → IfOk r (λ found. Branches (TakesAt x mid) found mid new) → IfErr result (λ fault. Broken v fault old s s' k k' i i)
    goal_breaks (Ok true) t ok = breaks_at (went_breaks ok result t)
    goal_breaks (Ok false) t ok = breaks_at (end_breaks Failing Failed refl (λ h. h) ok result t)
    goal_breaks (Err lack) t ok = breaks_at (lacks_so_breaks lack t)

    pub stops_does : TellsSo v None new e k k' result → x ≡ Stop → Stops true mid new → IfOk result (λ ending. DoesGoal v ending old e s s' k k' i i)
    stops_does t is h = does_at (went_does (subst (λ y. WentOn (TakesAt y mid) mid new) (sym is) h) result t)

    pub stops_breaks : TellsSo v None new e k k' result → x ≡ Stop → Stops true mid new → IfErr result (λ fault. Broken v fault old s s' k k' i i)
    stops_breaks t is h = breaks_at (went_breaks (subst (λ y. WentOn (TakesAt y mid) mid new) (sym is) h) result t)

    pub stopped_does : TellsSo v (Some Stopped) new e k k' result → x ≡ Stop → Stops false mid new → IfOk result (λ ending. DoesGoal v ending old e s s' k k' i i)
    stopped_does t is h = does_at (end_does (End Stopped) Stopped refl (λ h. h) (subst (λ y. HasEndedSo (TakesAt y mid) (End Stopped) mid new) (sym is) h) result t)

    pub stopped_breaks : TellsSo v (Some Stopped) new e k k' result → x ≡ Stop → Stops false mid new → IfErr result (λ fault. Broken v fault old s s' k k' i i)
    stopped_breaks t is h = breaks_at (end_breaks (End Stopped) Stopped refl (λ h. h) (subst (λ y. HasEndedSo (TakesAt y mid) (End Stopped) mid new) (sym is) h) result t)

  pub goal_quits : x ≡ Quit → Reaches v old s k i i (HasEnded v Quit-Ending mid.left s k (left_told i i))
  goal_quits is =
      reads_nothing v old s k i (HasEnded v Quit-Ending mid.left s k (left_told i i))
      (λ g w run start left st text.
      finished_here v (End Quit-Ending) Quit-Ending mid.left mid.left s k (left_told i i) w run start (as_told i i w.typed left) text refl refl
      (quits mid g mid.left w run (subst (λ y. TakesAt y mid g mid.left w run) is (takes_here g w run st))))

-- ## One thing that is printed

pub one_then : (x : Goal) (e : Print) (old mid : Engine) → Taken x old mid → ((g : Game) (n : ℕ) (w : World) (run : Run) → TakesAt x mid g n w run → Then (Prints e ∷ []) w (λ u. StandsAt mid g n u run)) → (g : Game) (n : ℕ) (w : World) (run : Run) → StandsAt old g (suc n) w run → Then (Prints e ∷ []) w (λ u. StandsAt mid g n u run)
one_then x e old mid taken prints_it g n w run st = prints_it g n w run (taken.takes g n w run st)

pub word_prints : (x : Goal) (name bytes : List ℕ) (e : Engine) → x ≡ Text name → bytes ≡ name → (g : Game) (n : ℕ) (w : World) (run : Run) → TakesAt x e g n w run → Then (Prints (Piece bytes) ∷ []) w (λ v. StandsAt e g n v run)
word_prints x name bytes e is same g n w run st = prints_word bytes e g n w run (subst (λ y. TakesAt y e g n w run) (is ∙ ap Text (sym same)) st)

pub gap_prints : (x : Goal) (kind : GapKind) (p : Print) (e : Engine) → x ≡ Gap kind → p ≡ GapOf kind → (g : Game) (n : ℕ) (w : World) (run : Run) → TakesAt x e g n w run → Then (Prints p ∷ []) w (λ v. StandsAt e g n v run)
gap_prints x kind p e is same g n w run st = subst (λ q. Then (Prints q ∷ []) w (λ v. StandsAt e g n v run)) (sym same) (prints_gap kind e g n w run (subst (λ y. TakesAt y e g n w run) is st))

-- ## A printed value

pub value_then : (x : Goal) (term : Term) (value : Ref) (old mid new : Engine) → Taken x old mid → x ≡ PrintGoal term → WrotePrinted term value mid new → (g : Game) (n : ℕ) (w : World) (run : Run) → StandsAt old g (suc n) w run → Then (as_events (pieces_at new value)) w (λ u. StandsAt new g n u run)
value_then x term value old mid new taken is wrote g n w run st = wrote.leads g n w run (subst (λ y. TakesAt y mid g n w run) is (taken.takes g n w run st))
