-- A gathering opens.
use Rattle.std.proofs.Common.{◌≡◌, ℕ, ◌+◌, ◌-◌, ◌^◌, ◌<◌, List, [], ◌∷◌, ◌++◌, refl, sym, ap, ◌∙◌, subst, arith, length, map, take, drop, length-append, append_assoc, Bor}
use Rattle.std.specs.Prelude.{reverse}
use Rattle.std.specs.List.{All}
use Rattle.std.specs.declared.vec.Vec.{Vec}
use Rattle.std.specs.declared.alloc.Global.{Global}
use Rattle.std.proofs.lemmas.List.Elements.{All-cons, All-append}
use Rattle.std.proofs.Math.Seq.{drop-append_seam}
use Rattle.dg_base.specs.declared.program.Goal.{Goal, out-Goal}
use Rattle.dg_base.specs.declared.program.Goal.TheVariants.{outs-Collect, outs-Accumulate}
use Rattle.dg_base.specs.declared.program.Term.{Term}
use Rattle.dg_base.specs.declared.program.Term.TheVariants.{Var as Var-Term}
use Rattle.dg_base.specs.declared.program.CoreProgram.{CoreProgram}
use Rattle.dg_base.specs.Goals.{terms_held}
use Rattle.dg_meaning.specs.Values.{Value, value_of, value_of_var}
use Rattle.dg_meaning.specs.World.{Game, World, opened}
use Rattle.dg_meaning.specs.Cells.{writing}
use Rattle.dg_meaning.specs.Path.{Step, Keep, Registers, TakeOut as TakeOutBranch}
use Rattle.dg_meaning.specs.Moves.{path_of, begun, goals_at, inside, outcome}
use Rattle.dg_meaning.specs.Transcript.{Run}
use Rattle.dg_meaning.specs.inside.OneRun.{Grows}
use Rattle.dg_meaning.specs.inside.Context.{Live, Way as WayOn}
use Rattle.dg_meaning.specs.inside.Keeps.{Stands, After}
use Rattle.dg_meaning.specs.Peaks.{Aux}
use Rattle.dg_meaning.proofs.Keeps.{stands_happened, keeps_value}
use Rattle.dg_unify.specs.Store.{Store, State, Saved, Holds, Kept, Charged, HeapFull, told, marked}
use Rattle.dg_unify.specs.inside.Engines.{Agrees}
use Rattle.dg_unify.specs.declared.bindings.Ref.{Ref}
use Rattle.dg_unify.specs.declared.bindings.Full.{Full}
use Rattle.dg_unify.specs.declared.bindings.Full.TheVariants as full
use Rattle.dg_unify.specs.declared.bindings.Mark.{Mark as Place}
use Rattle.dg_unify.specs.declared.list.ListBindings.{ListBindings}
use Rattle.dg_interp.specs.Runnable.{AreRunnable}
use Rattle.dg_choices.specs.declared.frames.Env.{Env}
use Rattle.dg_choices.specs.declared.frames.Frame.{Frame}
use Rattle.dg_choices.specs.declared.frames.Mark.TheVariants.{Nothing, Keep as KeepIn}
use Rattle.dg_choices.specs.declared.frames.Left.TheVariants.{TakeOut}
use Rattle.dg_choices.specs.declared.frames.Whole.{Whole}
use Rattle.dg_choices.specs.declared.frames.Whole.TheVariants.{List as InList, Sum as InSum}
use Rattle.dg_choices.specs.declared.frames.Choice.{Choice}
use Rattle.dg_interp.specs.declared.engine.Engine.{Engine}
use Rattle.dg_lasting.specs.declared.lasting.Lasting.{Lasting}
use Rattle.dg_lasting.specs.Lasting.{picks_in, InWorld, MayPick, OpensOne, OpensTooMuch}
use Rattle.dg_terms.specs.Terms.{BothMade}
use Rattle.dg_interp.specs.inside.Frames.{values_in, steps_at, steps_behind, whole_of, lives_of, ways_of, IsChoice, AreChoices, IsFrame, AreFrames, StandOn, GoBackTo}
use Rattle.dg_interp.specs.inside.Gathering.{gathering_goal, gathering_live, GathersAt}
use Rattle.dg_interp.specs.inside.Engine.{Point, store_in, KeepsPlaces, IsReady, TakesAt, Leads, WentOn, FullAt, PassesLimit, steps_of, open_in}
use Rattle.dg_interp.proofs.Links.{SameBy, SameTo, same_append, at_same, behind_new, frame_raise, frames_raise, frames_append, stand_raise, stand_same, choices_same, back_same}
use Rattle.dg_interp.proofs.Places.{peak_begun, open_still, inside_kept}
use Rattle.dg_unify.proofs.StoreLemmas.{kept_on, all_hold, kept_told}
use Rattle.dg_interp.proofs.Stores.{values_kept, hold_front, front_same}
use Rattle.dg_interp.proofs.Kept.{back_limits}
use Rattle.dg_interp.proofs.Takes.{behind, taken_in, comes_of, adds_taken}
use Rattle.dg_interp.proofs.Giving.{with_store, steps_kept, written_agrees, written_peak}

-- ## The terms are written

pub gathering_held : (whole : Whole) (term : Term) (goals : List Goal) (into : Term) → terms_held (out-Goal (gathering_goal whole term goals into)) ≡ term ∷ into ∷ []
gathering_held InList term goals into = ap terms_held (outs-Collect term goals into)
gathering_held InSum term goals into = ap terms_held (outs-Accumulate term goals into)

-- the steps for whose answers a value is kept
abbrev steps_for : Engine → List Goal → List Value → ℕ → Term → List Value → List Step
steps_for old goals values t y among = goals_at values old.here.tag goals ++ Keep t y among ∷ []

-- where a run stands whose goal has opened a gathering
abbrev StandsIn : Whole → Engine → Value → Registers → List WayOn → List Live → List Step → Game → ℕ → World → Run → Type 0
StandsIn whole old into r ways lives steps g n v run = Stands g (gathering_live whole into (steps_of old) (open_in old) r ways ∷ lives) ways (path_of steps (inside 10 r)) n (begun (inside 10 r) 0 (opened r.next_tag v)) run

chosen : (whole : Whole) (term : Term) (goals : List Goal) (into : Term) (old : Engine) (g : Game) (n : ℕ) (w : World) (run : Run) (st : TakesAt (gathering_goal whole term goals into) old g n w run) → (let env = values_in (store_in old.store) old.refs.items old.here.env in
    let r = behind (gathering_goal whole term goals into) old g n w run st in
    StandsIn whole old (value_of g.program env into) r st.at.ways st.at.inside.lives (steps_for old goals env r.next_tag term env) g n (taken_in (gathering_goal whole term goals into) old g n w run st) run)
chosen InList term goals into old g n w run st =
    let x = gathering_goal InList term goals into in
    let env = values_in (store_in old.store) old.refs.items old.here.env in
    let r = behind x old g n w run st in
    let v = taken_in x old g n w run st in
    let a = open_still old.lasting g w st.at.inside.world in
    let height : length (opened r.next_tag v).gathered - 1 ≡ open_in old = omega (arith, a) in
    subst (λ h. Stands g (gathering_live InList (value_of g.program env into) (steps_of old) h r st.at.ways ∷ st.at.inside.lives) st.at.ways (path_of (steps_for old goals env r.next_tag term env) (inside 10 r)) n (begun (inside 10 r) 0 (opened r.next_tag v)) run) height
    (subst (λ f. After g st.at.inside.lives st.at.ways n (outcome g f env old.here.tag (steps_of old) r v) run) (outs-Collect term goals into) (comes_of x old g n w run st))
chosen InSum term goals into old g n w run st =
    let x = gathering_goal InSum term goals into in
    let env = values_in (store_in old.store) old.refs.items old.here.env in
    let r = behind x old g n w run st in
    let v = taken_in x old g n w run st in
    let a = open_still old.lasting g w st.at.inside.world in
    let height : length (opened r.next_tag v).gathered - 1 ≡ open_in old = omega (arith, a) in
    subst (λ h. Stands g (gathering_live InSum (value_of g.program env into) (steps_of old) h r st.at.ways ∷ st.at.inside.lives) st.at.ways (path_of (steps_for old goals env r.next_tag term env) (inside 10 r)) n (begun (inside 10 r) 0 (opened r.next_tag v)) run) height
    (subst (λ f. After g st.at.inside.lives st.at.ways n (outcome g f env old.here.tag (steps_of old) r v) run) (outs-Accumulate term goals into) (comes_of x old g n w run st))

module _ (whole : Whole) (term : Term) (goals : List Goal) (into : Term) (old : Engine) (store : ListBindings) (stack : Vec Ref Global) (value out : Ref) (ready : IsReady old) (k : Kept (store_in old.store) (store_in store)) (saved : (ms : List Saved) → KeepsPlaces old.store ms → KeepsPlaces store ms)
    (made : (program : CoreProgram) → old.program.now ≡ program → BothMade program term into (values_in (store_in old.store) old.refs.items old.here.env) (store_in old.store) (store_in store) value out) where
  abbrev wx : Goal
  wx = gathering_goal whole term goals into

  abbrev ws : Store
  ws = store_in old.store

  abbrev ws1 : Store
  ws1 = store_in store

  abbrev wenv : List Value
  wenv = values_in ws old.refs.items old.here.env

  abbrev e1 : Engine
  e1 = with_store old store stack ready k saved

  env_kept : values_in ws1 old.refs.items old.here.env ≡ wenv
  env_kept = values_kept (length old.refs.items) ws ws1 old.refs.items old.refs.items k (hold_front ws old.refs.items ready.sound.base.hold) refl old.here.env ready.here.env

  pub gathers_written : Leads (TakesAt wx old) (GathersAt whole value out goals e1)
  gathers_written g n w run st =
      let r = behind wx old g n w run st in
      let v = taken_in wx old g n w run st in
      let m = made g.program st.at.inside.program in
      let ways = st.at.ways in
      let lives = st.at.inside.lives in
      let here = chosen whole term goals into old g n w run st in
      let named = keeps_value g _ ways goals wenv old.here.tag r.next_tag term wenv (inside 10 r) n (begun (inside 10 r) 0 (opened r.next_tag v)) run here in
      let a = adds_taken r (writing (terms_held (out-Goal wx))) w in
      record {
        world = v;
        adds = record { events_are = a.events_are; typed = refl };
        holds = record {
          at = record {
            inside = inside_kept _ _ saved st.at.inside.world (written_peak wx (term ∷ into ∷ []) (gathering_held whole term goals into) old store stack ready k saved (λ program e. (made program e).state) g n w run st) st.at.inside;
            ways = ways;
            ways_are = st.at.ways_are;
            registers = r;
            agrees = written_agrees wx (term ∷ into ∷ []) (gathering_held whole term goals into) old store stack ready k saved (λ program e. (made program e).state) g n w run st;
            tag = st.at.tag;
            stop = st.at.stop;
          };
          began =
              subst (λ l. StandsIn whole e1 (told ws1 out) r ways lives (steps_for old goals l r.next_tag (Var-Term 0) (told ws1 value ∷ [])) g n v run) (sym env_kept)
              (subst (λ l. Stands g (gathering_live whole (told ws1 out) l (open_in old) r ways ∷ lives) ways (path_of (steps_for old goals wenv r.next_tag (Var-Term 0) (told ws1 value ∷ [])) (inside 10 r)) n (begun (inside 10 r) 0 (opened r.next_tag v)) run) (sym (steps_kept old store stack ready k saved))
              (subst (λ y. StandsIn whole old y r ways lives (steps_for old goals wenv r.next_tag (Var-Term 0) (told ws1 value ∷ [])) g n v run) (sym m.right_is)
              (subst (λ y. StandsIn whole old (value_of g.program wenv into) r ways lives (steps_for old goals wenv r.next_tag (Var-Term 0) (y ∷ [])) g n v run) (sym m.left_is) named)));
        };
      }

-- ## The gathering opens

module _ (whole : Whole) (value into : Ref) (goals : Bor (List Goal)) (old : Engine) (ready : IsReady old) (runnable : AreRunnable goals.now) (holds : Holds (store_in old.store) value × Holds (store_in old.store) into) where
  abbrev from : Point
  from = GathersAt whole value into goals.now old

  abbrev s : Store
  s = store_in old.store

  abbrev fs : List Frame
  fs = old.frames.items

  abbrev xs : List Ref
  xs = old.refs.items

  abbrev os : List Choice
  os = reverse old.choices.items

  abbrev t : ℕ
  t = old.newest + 1

  abbrev opened_in : (g : Game) (n : ℕ) (w : World) (run : Run) → from g n w run → World
  opened_in g n w run st = begun (inside 10 st.at.registers) 0 (opened st.at.registers.next_tag w)

  happened : (g : Game) (n : ℕ) (w : World) (run : Run) (st : from g n w run) → Grows (opened_in g n w run st) run.world
  happened g n w run st = stands_happened g _ _ _ n (opened_in g n w run st) run st.began

  -- too much is gathered
  pub open_full : OpensTooMuch old.lasting → PassesLimit Aux from old.lasting.gathered.aux
  open_full h = λ g n w run st.
      let later = (happened g n w run st).meters in
      let full = h.stands g w st.at.registers.next_tag st.at.inside.world in
      omega (arith, full, later.aux)

  module _ (place : Place) (store0 : ListBindings) (k0 : Kept (store_in old.store) (store_in store0)) (state0 : (store_in store0).state ≡ marked (store_in old.store).state)
      (saved0 : (ms : List Saved) → KeepsPlaces old.store ms → KeepsPlaces store0 (record { mark = place; store = store_in store0 } ∷ ms)) where
    abbrev s0 : Store
    s0 = store_in store0

    pub cells_full : (e : Full) (u : Store) → HeapFull 10 s0 u e → FullAt from s e
    cells_full full.Heap u h = λ g n w run st.
        let later = (happened g n w run st).meters in
        omega (arith, later.heap, h.0, st.at.agrees.heap, k0.heap_limit, ap (λ (q : State). q.heap) state0)
    cells_full full.Trail u h = absurd h
    cells_full full.OutOfMemory u h = tt

    module _ (none : Bor (List Goal)) (empty : none.now ≡ []) (store1 : ListBindings) (refs : Vec Ref Global) (frames : Vec Frame Global) (choices : Vec Choice Global) (out : Lasting) (k1 : Kept s0 (store_in store1)) (saved1 : (ms : List Saved) → KeepsPlaces store0 ms → KeepsPlaces store1 ms) (charged : Charged 10 s0 (store_in store1))
        (room : old.newest + 1 + old.left < 2 ^ 64) (refs_are : refs.items ≡ xs ++ value ∷ into ∷ []) (frames_are : frames.items ≡ fs ++ record { goals = none; env = record { from = length xs; len = 1 }; tag = old.here.tag; mark = KeepIn t; behind = 0 } ∷ [])
        (opens : OpensOne old.lasting out)
        (kept : reverse choices.items ≡ record { tag = t; left = TakeOut whole (record { from = length xs + 1; len = 1 }) old.here; height = length frames.items; refs = length refs.items; gathered = length out.gathered.rows; place = place; stoppable = old.stoppable } ∷ os) where
      abbrev s1 : Store
      s1 = store_in store1

      abbrev ys : List Ref
      ys = refs.items

      abbrev gs : List Frame
      gs = frames.items

      -- behind the goals the value is kept
      abbrev behind_goals : Frame
      behind_goals = record { goals = none; env = record { from = length xs; len = 1 }; tag = old.here.tag; mark = KeepIn t; behind = 0 }

      abbrev taken_env : Env
      taken_env = record { from = length xs + 1; len = 1 }

      abbrev o : Choice
      o = record { tag = t; left = TakeOut whole taken_env old.here; height = length gs; refs = length ys; gathered = length out.gathered.rows; place = place; stoppable = old.stoppable }

      abbrev m : Saved
      m = record { mark = place; store = s0 }

      abbrev first : Frame
      first = record old.here { goals = goals; mark = Nothing; behind = length gs }

      abbrev pub opened_engine : Engine
      opened_engine = record old { store = store1; refs = refs; frames = frames; lasting = out; choices = choices; newest = t; here = first }

      k : Kept s s1
      k = kept_on s s0 s1 k0 k1

      front : take (length xs) ys ≡ take (length xs) xs
      front = front_same xs (value ∷ into ∷ []) ys refs_are

      more_refs : length ys ≡ length xs + 2
      more_refs = ap length refs_are ∙ length-append xs (value ∷ into ∷ [])

      more_frames : length gs ≡ length fs + 1
      more_frames = ap length frames_are ∙ length-append fs (behind_goals ∷ [])

      hold0 : All (Holds s0) ys
      hold0 = subst (All (Holds s0)) (sym refs_are) (All-append (Holds s0) xs (value ∷ into ∷ []) (all_hold s s0 xs k0 ready.sound.base.hold)
          (all_hold s s0 (value ∷ into ∷ []) k0 (All-cons (Holds s) value (into ∷ []) holds.0 (All-cons (Holds s) into [] holds.1 (λ i d lt. absurd (omega arith))))))

      hold1 : All (Holds s1) ys
      hold1 = all_hold s0 s1 ys k1 hold0

      nothing_runnable : AreRunnable []
      nothing_runnable = λ i d lt. absurd (omega arith)

      frames_now : AreFrames (length gs) (length ys) gs
      frames_now = subst (λ (l : List Frame). AreFrames (length l) (length ys) l) (sym frames_are)
          (frames_append (length ys) fs behind_goals (frames_raise (length fs) (length xs) (length ys) fs (omega (arith, more_refs)) ready.sound.base.frames)
          (record { runnable = subst AreRunnable (sym empty) nothing_runnable; older = omega arith; env = omega (arith, more_refs) }))

      same_fs : SameTo (length fs) fs gs
      same_fs = subst (SameTo (length fs) fs) (sym frames_are) (same_append fs behind_goals)

      here_is : IsFrame (length gs) (length ys) old.here
      here_is = frame_raise (length fs) (length gs) (length xs) (length ys) old.here (omega (arith, more_frames)) (omega (arith, more_refs)) ready.here

      first_is : IsFrame (length gs) (length ys) first
      first_is = record { runnable = runnable; older = omega arith; env = here_is.env }

      stand : StandOn gs (length gs) (length ys) t os
      stand = stand_raise gs (length fs) (length gs) (length xs) (length ys) old.newest t os (omega (arith, more_frames)) (omega (arith, more_refs)) (omega arith) (stand_same fs gs (length fs) (length xs) old.newest os same_fs ready.sound.base.choices)

      -- what stands at the two Refs
      value_there : (u : Store) → values_in u ys (record { from = length xs; len = 1 }) ≡ told u value ∷ []
      value_there u = ap (λ l. map (told u) (take 1 (drop (length xs) l))) refs_are ∙ ap (λ l. map (told u) (take 1 l)) (drop-append_seam xs (value ∷ into ∷ []))

      into_there : (u : Store) → values_in u ys taken_env ≡ told u into ∷ []
      into_there u =
          ap (λ l. map (told u) (take 1 (drop (length xs + 1) l))) (refs_are ∙ sym (append_assoc xs (value ∷ []) (into ∷ [])))
          ∙ ap (λ i. map (told u) (take 1 (drop i ((xs ++ value ∷ []) ++ into ∷ [])))) (sym (length-append xs (value ∷ [])))
          ∙ ap (λ l. map (told u) (take 1 l)) (drop-append_seam (xs ++ value ∷ []) (into ∷ []))

      -- the values that were there
      values0 : SameBy (length xs) (values_in s xs) (values_in s0 ys)
      values0 = values_kept (length xs) s s0 xs ys k0 (hold_front s xs ready.sound.base.hold) front

      values1 : SameBy (length xs) (values_in s xs) (values_in s1 ys)
      values1 = values_kept (length xs) s s1 xs ys k (hold_front s xs ready.sound.base.hold) front

      same_out : steps_at (values_in s0 ys) gs old.here ≡ steps_of old
      same_out = at_same (length xs) (values_in s xs) (values_in s0 ys) fs gs (length fs) old.here ready.here values0 ready.sound.base.frames same_fs

      same_first : steps_of opened_engine ≡ goals_at (values_in s xs old.here.env) old.here.tag goals.now ++ Keep t (Var-Term 0) (told s value ∷ []) ∷ []
      same_first =
          let env = values_in s1 ys old.here.env in
          ap (λ (l : List Frame). goals_at env old.here.tag goals.now ++ steps_behind (values_in s1 ys) l (length l)) frames_are
          ∙ ap (λ i. goals_at env old.here.tag goals.now ++ steps_behind (values_in s1 ys) (fs ++ behind_goals ∷ []) i) (length-append fs (behind_goals ∷ []))
          ∙ ap (λ l. goals_at env old.here.tag goals.now ++ l) (behind_new (length ys) (values_in s1 ys) fs behind_goals (frames_raise (length fs) (length xs) (length ys) fs (omega (arith, more_refs)) ready.sound.base.frames) (omega arith))
          ∙ ap (λ (l : List Goal). goals_at env old.here.tag goals.now ++ (goals_at (values_in s1 ys behind_goals.env) old.here.tag l ++ Keep t (Var-Term 0) (values_in s1 ys behind_goals.env) ∷ [])) empty
          ∙ ap (λ vs. goals_at env old.here.tag goals.now ++ Keep t (Var-Term 0) vs ∷ []) (value_there s1 ∙ ap (λ v. v ∷ []) (kept_told s s1 value k holds.0))
          ∙ ap (λ vs. goals_at vs old.here.tag goals.now ++ Keep t (Var-Term 0) (told s value ∷ []) ∷ []) (values1 old.here.env ready.here.env)

      agrees0 : (r : Registers) → Agrees s r → Agrees s0 r
      agrees0 r a = record {
        bound = a.bound ∙ ap (λ (u : State). u.subst) (sym state0);
        vars = a.vars ∙ ap (λ (u : State). u.vars) (sym state0);
        heap = a.heap ∙ ap (λ (u : State). u.heap) (sym state0);
        trail = omega (arith, a.trail, ap (λ (u : State). u.trail) state0);
        since = omega (arith, ap (λ (u : State). u.since) state0, ap (λ (u : State). u.vars) state0);
      }

      agrees1 : (r : Registers) → Agrees s r → Agrees s1 (inside 10 r)
      agrees1 r a =
          let b = agrees0 r a in
          let now = charged.state in
          record {
            bound = b.bound ∙ ap (λ (u : State). u.subst) (sym now);
            vars = b.vars ∙ ap (λ (u : State). u.vars) (sym now);
            heap = omega (arith, b.heap, ap (λ (u : State). u.heap) now);
            trail = omega (arith, b.trail, ap (λ (u : State). u.trail) now);
            since = omega (arith, b.since, ap (λ (u : State). u.since) now, ap (λ (u : State). u.vars) now);
          }

      branch_is : (r : Registers) → TakeOutBranch r.next_tag (whole_of whole) (told s into) (path_of (steps_of old) (inside 0 r)) ∷ [] ≡ TakeOutBranch r.next_tag (whole_of whole) (value_of_var (values_in s0 ys taken_env) 0) (path_of (steps_at (values_in s0 ys) gs old.here) (inside 0 r)) ∷ []
      branch_is r =
          ap (λ v. TakeOutBranch r.next_tag (whole_of whole) v (path_of (steps_of old) (inside 0 r)) ∷ []) (sym (ap (λ vs. value_of_var vs 0) (into_there s0) ∙ kept_told s s0 into k0 holds.1))
          ∙ ap (λ l. TakeOutBranch r.next_tag (whole_of whole) (value_of_var (values_in s0 ys taken_env) 0) (path_of l (inside 0 r)) ∷ []) (sym same_out)

      count_open : length out.gathered.rows ≡ open_in old + 1
      count_open = ap (λ (x : Lasting). length x.gathered.rows) opens.is ∙ omega arith

      choice_is : (g : Game) (r : Registers) (on : List WayOn) → Agrees s r → r.next_tag ≡ t → r.stoppable ≡ old.stoppable → IsChoice g ys gs o m on (gathering_live whole (told s into) (steps_of old) (open_in old) r on)
      choice_is g r on a tag part = record {
        registers = r;
        agrees = agrees0 r a;
        hold = hold_front s0 ys hold0;
        place = refl;
        tag_at = tag;
        stop = part;
        kind = refl;
        tag = tag;
        others = branch_is r;
        height = sym count_open;
        ways_on = refl;
      }

      new_world : (g : Game) (w : World) (r : Registers) → InWorld old.lasting g w → InWorld out g (begun (inside 10 r) 0 (opened r.next_tag w))
      new_world g w r is = opens.stands g w r.next_tag is

      pub gathering_opened : WentOn from old opened_engine
      gathering_opened = record {
        ready = record {
          sound = record {
            base = record {
              program = ready.sound.base.program;
              sound = ready.sound.base.sound;
              hold = hold1;
              frames = frames_now;
              choices = subst (StandOn gs (length gs) (length ys) t) (sym kept) (omega arith, omega arith, omega arith, ((here_is, omega (arith, more_refs)), refl, tt), frames_now, stand);
              places = record {
                saved = m ∷ ready.sound.base.places.saved;
                keeps = saved1 (m ∷ ready.sound.base.places.saved) (saved0 ready.sound.base.places.saved ready.sound.base.places.keeps);
                back_to = subst (λ l. GoBackTo ys s1.heap_limit s1.trail_limit l (m ∷ ready.sound.base.places.saved)) (sym kept) (
                  refl,
                  hold_front s0 ys hold0,
                  sym k1.heap_limit,
                  sym k1.trail_limit,
                  back_limits ys s.heap_limit s.trail_limit s1.heap_limit s1.trail_limit os ready.sound.base.places.saved (sym k.heap_limit) (sym k.trail_limit)
                      (back_same xs ys fs (length fs) (length xs) old.newest s.heap_limit s.trail_limit os ready.sound.base.places.saved front ready.sound.base.choices ready.sound.base.places.back_to),
                );
              };
            };
            room = room;
            picks = subst (λ (x : Lasting). MayPick old.left (picks_in x)) (sym opens.is) ready.sound.picks;
          };
          here = first_is;
        };
        left = refl;
        limits = record { heap = k.heap_limit; trail = k.trail_limit; aux = ap (λ (x : Lasting). x.gathered.aux) opens.is; keep = ap (λ (x : Lasting). x.world.area.keep) opens.is; calls = []; told = refl };
        leads = λ g n w run st.
            let r = st.at.registers in
            let c = gathering_live whole (told s into) (steps_of old) (open_in old) r st.at.ways in
            record {
              world = opened_in g n w run st;
              adds = record { events_are = refl; typed = refl };
              holds = record {
                at = record {
                  inside = record {
                    program = st.at.inside.program;
                    entries = c ∷ st.at.inside.entries;
                    lives = c ∷ st.at.inside.lives;
                    lives_are = ap (λ l. c ∷ l) st.at.inside.lives_are ∙ ap (λ l. lives_of l (c ∷ st.at.inside.entries)) (sym kept);
                    saved = m ∷ st.at.inside.saved;
                    keeps = saved1 (m ∷ st.at.inside.saved) (saved0 st.at.inside.saved st.at.inside.keeps);
                    choices = subst (λ l. AreChoices g ys gs l (m ∷ st.at.inside.saved) (c ∷ st.at.inside.entries)) (sym kept) (
                      subst (λ ws. IsChoice g ys gs o m ws c) st.at.ways_are (choice_is g r st.at.ways st.at.agrees st.at.tag st.at.stop),
                      choices_same g xs ys fs gs (length fs) (length xs) old.newest os st.at.inside.saved st.at.inside.entries front same_fs ready.sound.base.choices st.at.inside.choices,
                    );
                    world = new_world g w r st.at.inside.world;
                    peak = peak_begun store1 (inside 10 r) 0 (opened r.next_tag w) (agrees1 r st.at.agrees) (omega (arith, st.at.inside.peak, k.heap_limit));
                  };
                  ways = st.at.ways;
                  ways_are = st.at.ways_are ∙ ap (λ l. ways_of l (c ∷ st.at.inside.entries)) (sym kept);
                  registers = inside 10 r;
                  agrees = agrees1 r st.at.agrees;
                  tag = ap (λ i. i + 1) st.at.tag;
                  stop = st.at.stop;
                };
                stands = subst (λ l. Stands g (c ∷ st.at.inside.lives) st.at.ways (path_of l (inside 10 r)) n (opened_in g n w run st) run)
                    (ap (λ i. goals_at (values_in s xs old.here.env) old.here.tag goals.now ++ Keep i (Var-Term 0) (told s value ∷ []) ∷ []) st.at.tag ∙ sym same_first) st.began;
              };
            };
      }
