-- A closure is asked.
use Rattle.std.proofs.Common.{◌≡◌, ℕ, zero, suc, ◌+◌, ◌-◌, ◌^◌, ◌<◌, ◌≤◌, List, [], ◌∷◌, ◌++◌, Bool, true, false, Option, None, Some, refl, sym, ap, ◌∙◌, subst, arith, length, length-append, map, take, Bor}
use Rattle.std.specs.Prelude.{slice_get, reverse}
use Rattle.std.specs.List.{All, zip}
use Rattle.std.specs.declared.vec.Vec.{Vec}
use Rattle.std.specs.declared.alloc.Global.{Global}
use Rattle.dg_base.specs.declared.program.Goal.{Goal, out-Goal}
use Rattle.dg_base.specs.declared.program.Goal.TheVariants.{Query, outs-Query}
use Rattle.dg_base.specs.Goals.{option_terms, terms_held}
use Rattle.dg_base.specs.declared.program.ClosureBody.{ClosureBody}
use Rattle.dg_base.specs.declared.program.CoreProgram.{CoreProgram}
use Rattle.dg_base.specs.declared.program.Term.{Term, out-Term}
use Rattle.dg_base.specs.declared.program.Term.TheVariants.{Var as Var-Term, outs-Var}
use Rattle.dg_meaning.specs.Values.{Num, Word, Unknown, Object, Nil, Pair, Closure, Value, Values, Var, Node, value_of, value_of_var}
use Rattle.dg_meaning.specs.Copies.{values_of}
use Rattle.dg_meaning.specs.Substitutions.{walk}
use Rattle.dg_meaning.specs.inside.Substitutions.{IsSubstitution, Extends}
use Rattle.dg_meaning.specs.Unify.{Unified, solve}
use Rattle.dg_meaning.specs.World.{Game, World, worked}
use Rattle.dg_meaning.specs.Cells.{node_cells, cells, writing}
use Rattle.dg_meaning.specs.Path.{Step, Registers, Outcome, Acts, Fails, Offers, Plain}
use Rattle.dg_meaning.specs.Moves.{begun, path_of, enter_if, looked_up, outcome, outcome_of, ask_body, ask_closure, closure_vars, closure_head, closure_steps, closure_branch, head_equations, entered_with, matched, entering_with, older_bound, new_vars, goals_at, first_alone}
use Rattle.dg_meaning.specs.Transcript.{Run}
use Rattle.dg_meaning.specs.inside.Context.{Live}
use Rattle.dg_meaning.specs.inside.Keeps.{After, Stands, Began}
use Rattle.dg_interp.specs.Runnable.{AreRunnable, IsRunnableBody}
use Rattle.dg_meaning.proofs.Solving.{solve_extends}
use Rattle.dg_unify.specs.Store.{Store, State, Saved, Holds, Kept, Made, told, trail_of}
use Rattle.dg_unify.specs.inside.Engines.{Agrees}
use Rattle.dg_unify.specs.declared.bindings.Ref.{Ref}
use Rattle.dg_unify.specs.declared.bindings.Full.{Full}
use Rattle.dg_unify.specs.declared.bindings.Full.TheVariants as full
use Rattle.dg_unify.specs.declared.list.ListBindings.{ListBindings}
use Rattle.dg_choices.specs.declared.frames.Frame.{Frame}
use Rattle.dg_choices.specs.declared.frames.Choice.{Choice}
use Rattle.dg_interp.specs.declared.engine.Engine.{Engine}
use Rattle.dg_interp.specs.inside.Bodies.{IsBody, HasNoBody, parameters, matched_body, EntersBody, BodyFull}
use Rattle.dg_interp.specs.inside.Frames.{stretch, values_in, frame_steps, mark_steps, steps_behind, AreChoices, AreFrames, StandOn, GoBackTo}
use Rattle.dg_terms.specs.Terms.{Overflows, BothMade}
use Rattle.dg_interp.specs.inside.Engine.{store_in, KeepsPlaces, Point, IsSound, IsReady, TakesAt, FailsAt, FullAt, Adds, Leads, Silent, WentOn, steps_of}
use Rattle.dg_interp.specs.inside.Querying.{QueriesAt, mark_of}
use Rattle.dg_interp.proofs.Begins.{began_peaks}
use Rattle.dg_interp.proofs.Links.{SameBy, same_here, same_append, behind_new, at_same, frame_raise, frames_append, choices_same, stand_raise, stand_same}
use Rattle.dg_interp.proofs.Stores.{values_kept, hold_front, appended_stretch, trail_append, trail_older, made_is, both_among}
use Rattle.dg_interp.proofs.Grown.{grown_front, grown_longer, grown_values, grown_hold, grown_back, grown_base, grown_choices}
use Rattle.dg_interp.proofs.Places.{peak_begun, inside_kept, adds_nothing}
use Rattle.dg_interp.proofs.Takes.{behind as after_terms, taken_in, comes_of, adds_taken, terms_full, peak_taken}
use Rattle.dg_interp.proofs.Values.{made_among, term_full, agrees_behind}
use Rattle.dg_interp.proofs.Turns.{all_first, all_rest}

-- ## The parameter

-- a variable of a body
var_value : (program : CoreProgram) (env : List Value) (n : ℕ) → value_of program env (Var-Term n) ≡ value_of_var env n
unfolding out-Term denote.Hole.Carrier.out
var_value program env n = refl

parameters_are : (program : CoreProgram) (parts : Values) (env args : List Value) → parameters (length (values_of parts)) env args ≡ map (value_of program env) (closure_head parts args)
parameters_are program parts env [] = refl
parameters_are program parts env (v ∷ vs) = ap (λ x. x ∷ []) (sym (var_value program env (length (values_of parts))))

head_cells : (program : CoreProgram) (parts : Values) (args : List Value) → cells program (closure_head parts args) ≡ 0
head_cells program parts [] = refl
head_cells program parts (v ∷ vs) =
    let alone : cells program (Var-Term (length (values_of parts)) ∷ []) ≡ 0 + node_cells program (out-Term (Var-Term (length (values_of parts)))) = refl in
    omega (arith, alone, ap (node_cells program) (outs-Var (length (values_of parts))))

-- ## What a body makes of registers

module _ (g : Game) (parts : Values) (body : ClosureBody) (args : List Value) (s : Store) (r : Registers) (agrees : Agrees s r) (sub : IsSubstitution s.state.subst) where
  abbrev env : List Value
  env = closure_vars parts body r

  abbrev head : List Term
  head = closure_head parts args

  abbrev u : Unified
  u = solve r.bound (head_equations g args env head)

  abbrev behind : Registers
  behind = matched u r (entered_with g 0 body.own head r)

  abbrev held : List Value
  held = values_of parts

  meant : matched_body held body.own args s ≡ u
  meant =
      ap (λ S. solve S (zip args (parameters (length held) (held ++ new_vars body.own s.state.vars) args))) (sym agrees.bound)
      ∙ ap (λ n. solve r.bound (zip args (parameters (length held) (held ++ new_vars body.own n) args))) (sym agrees.vars)
      ∙ ap (λ vs. solve r.bound (zip args vs)) (parameters_are g.program parts env args)

  extends : Extends r.bound u.subst
  extends = solve_extends r.bound _ (subst IsSubstitution (sym agrees.bound) sub)

  taken : (since : ℕ) → trail_of since u.subst ≡ trail_of since extends.made + trail_of since r.bound
  taken since = ap (trail_of since) extends.is ∙ trail_append since extends.made r.bound

  counted_trail : behind.trail ≡ r.trail + older_bound r.next_var extends.made
  counted_trail = ap (λ made. r.trail + older_bound r.next_var made) (made_is extends.made r.bound u.subst extends.is)

  older : trail_of s.state.since extends.made ≤ older_bound r.next_var extends.made
  older = trail_older s.state.since r.next_var extends.made (omega (arith, agrees.since, agrees.vars))

  no_head : cells g.program head ≡ 0
  no_head = head_cells g.program parts args

  module _ (s2 : Store) (refs refs' : List Ref) (found : Bool) (enters : EntersBody held body.own args s s2 refs refs' found) where
    pub body_found : found ≡ u.agrees
    body_found = enters.agrees ∙ ap (λ (v : Unified). v.agrees) meant

    trail_same : s2.state.trail + trail_of s.state.since r.bound ≡ s.state.trail + trail_of s.state.since u.subst
    trail_same =
        ap (λ S. s2.state.trail + trail_of s.state.since S) agrees.bound
        ∙ enters.trail
        ∙ ap (λ (v : Unified). s.state.trail + trail_of s.state.since v.subst) meant

    pub body_agrees : Agrees s2 behind
    body_agrees =
        let now = taken s.state.since in
        record {
          bound = sym (enters.subst ∙ ap (λ (v : Unified). v.subst) meant);
          vars = omega (arith, enters.vars, agrees.vars);
          heap = omega (arith, enters.heap, no_head, agrees.heap);
          trail = omega (arith, trail_same, now, older, counted_trail, agrees.trail);
          since = omega (arith, enters.since, enters.vars, agrees.since);
        }

    pub vars_told : map (told s2) enters.appended.made ≡ env
    vars_told = enters.appended.values ∙ ap (λ n. held ++ new_vars body.own n) (sym agrees.vars)

  pub body_heap : (limit : ℕ) → limit < s.state.heap + 6 + body.own → limit < behind.heap
  body_heap limit h = omega (arith, h, no_head, agrees.heap)

  pub body_trail : (limit : ℕ) → limit + trail_of s.state.since s.state.subst < s.state.trail + trail_of s.state.since (matched_body held body.own args s).subst → limit < behind.trail
  body_trail limit h =
      let now = taken s.state.since in
      let same : trail_of s.state.since s.state.subst ≡ trail_of s.state.since r.bound = ap (trail_of s.state.since) (sym agrees.bound) in
      let same' : trail_of s.state.since (matched_body held body.own args s).subst ≡ trail_of s.state.since u.subst = ap (λ (v : Unified). trail_of s.state.since v.subst) meant in
      omega (arith, h, now, same, same', older, counted_trail, agrees.trail)

-- ## What is no closure

no_body : (g : Game) (v : Value) (args : List Value) (many : Bool) (steps : List Step) (r : Registers) (w : World) → HasNoBody g.program v → ask_closure g v args many steps r w ≡ Acts (Fails w)
no_body g (Var n) args many steps r w h = refl
no_body g (Node (Num n) vs) args many steps r w h = refl
no_body g (Node (Word n) vs) args many steps r w h = refl
no_body g (Node (Unknown n) vs) args many steps r w h = refl
no_body g (Node (Object n) vs) args many steps r w h = refl
no_body g (Node Nil vs) args many steps r w h = refl
no_body g (Node Pair vs) args many steps r w h = refl
no_body g (Node (Closure place) parts) args many steps r w h = ap (λ o. ask_body g parts o args many steps r w) h

body_there : (closures : List ClosureBody) (i : ℕ) (body : ClosureBody) → slice_get closures i ≡ Some body → All IsRunnableBody closures → IsRunnableBody body
body_there [] i body is h = absurd (let no : None ≡ Some body = is in cc)
body_there (c ∷ cs) zero body is h = subst IsRunnableBody (let same : Some c ≡ Some body = is in cc) (all_first IsRunnableBody c cs h)
body_there (c ∷ cs) (suc i) body is h = body_there cs i body is (all_rest IsRunnableBody c cs h)

pub marked : (values : List Value) (many : Bool) (t tag : ℕ) (rest : List Step) → mark_steps values (mark_of many t) tag rest ≡ first_alone many t rest
marked values true t tag rest = refl
marked values false t tag rest = refl

-- ## The engine

module _ (value : Ref) (many : Bool) (old : Engine) (ready : IsReady old) where
  abbrev s : Store
  s = store_in old.store

  abbrev xs : List Ref
  xs = old.refs.items

  abbrev fs : List Frame
  fs = old.frames.items

  abbrev os : List Choice
  os = reverse old.choices.items

  abbrev from : Point
  from = QueriesAt value many old

  abbrev args : List Value
  args = map (told s) old.made.items

  -- the value, looked up
  abbrev found_value : Value
  found_value = walk s.state.subst (told s value)

  pub asks_nothing : HasNoBody old.program.now found_value → Leads from (FailsAt old)
  asks_nothing none g n w run st =
      let r = st.at.registers in
      let here : HasNoBody g.program (walk r.bound (told s value)) =
      subst (λ (p : CoreProgram). HasNoBody p (walk r.bound (told s value))) st.at.inside.program (subst (λ S. HasNoBody old.program.now (walk S (told s value))) (sym st.at.agrees.bound) none) in
      record {
        world = w;
        adds = adds_nothing w;
        holds = record {
          inside = st.at.inside;
          failed = subst (λ e. After g st.at.inside.lives st.at.ways n (outcome_of (steps_of old) r e) run) (no_body g (walk r.bound (told s value)) args many (steps_of old) r w here) st.queried;
        };
      }

  module _ (closure : Ref) (body : ClosureBody) (is : IsBody old.program.now s found_value closure body) (sub : IsSubstitution s.state.subst) where
    abbrev parts : Values
    parts = is.parts

    abbrev captured : List Value
    captured = values_of parts

    abbrev the_head : List Term
    the_head = closure_head parts args

    pub runnable : IsRunnableBody body
    runnable = body_there old.program.now.closures is.place body is.found ready.sound.base.program.closures

    abbrev env_of : Registers → List Value
    env_of r = closure_vars parts body r

    abbrev u_of : Game → Registers → Unified
    u_of g r = solve r.bound (head_equations g args (env_of r) the_head)

    abbrev behind_of : Game → Registers → Registers
    behind_of g r = matched (u_of g r) r (entered_with g 0 body.own the_head r)

    abbrev steps_in : Registers → List Step
    steps_in r = closure_steps many (env_of r) r.next_tag body (steps_of old)

    abbrev work_of : Game → Registers → ℕ
    work_of g r = entering_with g args (env_of r) the_head r

    is_asked : (g : Game) (r : Registers) (w : World) → old.program.now ≡ g.program → Agrees s r → ask_closure g (walk r.bound (told s value)) args many (steps_of old) r w ≡ Offers Plain (closure_branch g parts body args many (steps_of old) r ∷ []) w
    is_asked g r w same agrees =
        ap (λ S. ask_closure g (walk S (told s value)) args many (steps_of old) r w) agrees.bound
        ∙ ap (λ v. ask_closure g v args many (steps_of old) r w) is.is
        ∙ ap (λ o. ask_body g parts o args many (steps_of old) r w) (ap (λ (p : CoreProgram). slice_get p.closures is.place) (sym same) ∙ is.found)

    begins : (g : Game) (n : ℕ) (w : World) (run : Run) (st : from g n w run) → Began g st.at.inside.lives st.at.ways (enter_if (u_of g st.at.registers).agrees (path_of (steps_in st.at.registers) (behind_of g st.at.registers)) (work_of g st.at.registers)) n w run
    begins g n w run st =
        let r = st.at.registers in
        subst (λ e. After g st.at.inside.lives st.at.ways n (outcome_of (steps_of old) r e) run) (is_asked g r w st.at.inside.program st.at.agrees) st.queried

    -- heap or trail is full where the body is entered
    pub body_full : (e : Full) → BodyFull captured body.own args s e → FullAt from s e
    body_full full.Heap h = λ g n w run st.
        let r = st.at.registers in
        let peaks = began_peaks g st.at.inside.lives st.at.ways (u_of g r).agrees (path_of (steps_in r) (behind_of g r)) (work_of g r) n w run (begins g n w run st) in
        let less = body_heap g parts body args s r st.at.agrees sub s.heap_limit h in
        omega (arith, peaks.0, less)
    body_full full.Trail h = λ g n w run st.
        let r = st.at.registers in
        let peaks = began_peaks g st.at.inside.lives st.at.ways (u_of g r).agrees (path_of (steps_in r) (behind_of g r)) (work_of g r) n w run (begins g n w run st) in
        let less = body_trail g parts body args s r st.at.agrees sub s.trail_limit h in
        omega (arith, peaks.1, less)
    body_full full.OutOfMemory h = tt

    module _ (store2 : ListBindings) (refs2 : Vec Ref Global) (found : Bool) (k2 : Kept s (store_in store2)) (saved2 : (ms : List Saved) → KeepsPlaces old.store ms → KeepsPlaces store2 ms)
        (enters : EntersBody captured body.own args s (store_in store2) xs refs2.items found) where
      abbrev s2 : Store
      s2 = store_in store2

      abbrev ys : List Ref
      ys = refs2.items

      abbrev made : List Ref
      made = enters.appended.made

      front : take (length xs) ys ≡ take (length xs) xs
      front = grown_front old store2 refs2 made ready k2 saved2 enters.appended.is enters.appended.hold

      longer : length xs ≤ length ys
      longer = grown_longer old store2 refs2 made ready k2 saved2 enters.appended.is enters.appended.hold

      now : SameBy (length xs) (values_in s xs) (values_in s2 ys)
      now = grown_values old store2 refs2 made ready k2 saved2 enters.appended.is enters.appended.hold

      hold : All (Holds s2) ys
      hold = grown_hold old store2 refs2 made ready k2 saved2 enters.appended.is enters.appended.hold

      abbrev pub entering : Engine
      entering = record old { store = store2; refs = refs2 }

      pub entering_limits : Silent old entering
      entering_limits = record { heap = k2.heap_limit; trail = k2.trail_limit; aux = refl; keep = refl; told = refl }

      back_now : GoBackTo ys s2.heap_limit s2.trail_limit os ready.sound.base.places.saved
      back_now = grown_back old store2 refs2 made ready k2 saved2 enters.appended.is enters.appended.hold

      pub entering_sound : IsSound entering
      entering_sound = record { base = grown_base old store2 refs2 made ready k2 saved2 enters.appended.is enters.appended.hold; room = ready.sound.room; picks = ready.sound.picks }

      choices_now : (g : Game) (ms : List Saved) (cs : List Live) → AreChoices g xs fs os ms cs → AreChoices g ys fs os ms cs
      choices_now g ms cs h = grown_choices old store2 refs2 made ready k2 saved2 enters.appended.is enters.appended.hold g ms cs h

      adds_begun : (r : Registers) (work : ℕ) (w : World) → Adds [] w (begun r work w)
      adds_begun r work w = record { events_are = refl; typed = refl }

      -- the argument isn't the parameter's
      pub enters_not : found ≡ false → Leads from (FailsAt entering)
      enters_not not g n w run st =
          let r = st.at.registers in
          let none : (u_of g r).agrees ≡ false = sym (body_found g parts body args s r st.at.agrees sub s2 xs ys found enters) ∙ not in
          let v = begun (behind_of g r) (work_of g r) w in
          record {
            world = v;
            adds = adds_begun (behind_of g r) (work_of g r) w;
            holds = record {
              inside = record {
                program = st.at.inside.program;
                entries = st.at.inside.entries;
                lives = st.at.inside.lives;
                lives_are = st.at.inside.lives_are;
                saved = st.at.inside.saved;
                keeps = saved2 st.at.inside.saved st.at.inside.keeps;
                choices = choices_now g st.at.inside.saved st.at.inside.entries st.at.inside.choices;
                world = st.at.inside.world;
                peak = peak_begun store2 (behind_of g r) (work_of g r) w (body_agrees g parts body args s r st.at.agrees sub s2 xs ys found enters) (omega (arith, st.at.inside.peak, k2.heap_limit));
              };
              failed = subst (λ b. Began g st.at.inside.lives st.at.ways (enter_if b (path_of (steps_in r) (behind_of g r)) (work_of g r)) n w run) none (begins g n w run st);
            };
          }

      module _ (frames : Vec Frame Global) (goals : Bor (List Goal)) (len : ℕ) (pushed_on : frames.items ≡ fs ++ old.here ∷ []) (goals_are : goals.now ≡ body.body) (len_is : len ≡ length ys - length xs) where
        abbrev gs : List Frame
        gs = fs ++ old.here ∷ []

        abbrev here : Frame
        here = record { goals = goals; env = record { from = length xs; len = len }; tag = old.newest + 1; mark = mark_of many (old.newest + 1); behind = length frames.items }

        abbrev pub begun_body : Engine
        begun_body = record old { store = store2; refs = refs2; frames = frames; newest = old.newest + 1; here = here }

        count : length gs ≡ length fs + 1
        count = length-append fs (old.here ∷ [])

        all_made : len ≡ length made
        all_made = omega (arith, len_is, ap length enters.appended.is, length-append xs made)

        frames_now : AreFrames (length gs) (length ys) gs
        frames_now = frames_append (length ys) fs old.here entering_sound.base.frames (frame_raise (length fs) (length fs) (length xs) (length ys) old.here (omega arith) longer ready.here)

        stand : StandOn gs (length gs) (length ys) (old.newest + 1) os
        stand = stand_raise gs (length fs) (length gs) (length ys) (length ys) old.newest (old.newest + 1) os (omega (arith, count)) (omega arith) (omega arith) (stand_same fs gs (length fs) (length ys) old.newest os (same_append fs old.here) entering_sound.base.choices)

        steps_now : steps_behind (values_in s2 ys) frames.items (length frames.items) ≡ steps_of old
        steps_now =
            ap (λ (l : List Frame). steps_behind (values_in s2 ys) l (length l)) pushed_on
            ∙ ap (steps_behind (values_in s2 ys) gs) count
            ∙ behind_new (length ys) (values_in s2 ys) fs old.here entering_sound.base.frames ready.here.older
            ∙ at_same (length xs) (values_in s xs) (values_in s2 ys) fs fs (length fs) old.here ready.here now ready.sound.base.frames (same_here (length fs) fs)

        values_now : (g : Game) (r : Registers) → Agrees s r → values_in s2 ys here.env ≡ env_of r
        values_now g r agrees = ap (map (told s2)) (appended_stretch xs made ys len enters.appended.is all_made) ∙ vars_told g parts body args s r agrees sub s2 xs ys found enters

        same_steps : (g : Game) (r : Registers) → Agrees s r → r.next_tag ≡ old.newest + 1 → steps_of begun_body ≡ steps_in r
        same_steps g r agrees tag =
            ap (λ vs. frame_steps vs goals.now (old.newest + 1) here.mark (steps_behind (values_in s2 ys) frames.items (length frames.items))) (values_now g r agrees)
            ∙ ap (λ l. frame_steps (env_of r) goals.now (old.newest + 1) here.mark l) steps_now
            ∙ ap (λ (l : List Goal). frame_steps (env_of r) l (old.newest + 1) here.mark (steps_of old)) goals_are
            ∙ ap (λ l. goals_at (env_of r) (old.newest + 1) body.body ++ l) (marked _ many (old.newest + 1) (old.newest + 1) (steps_of old))
            ∙ ap (λ t. closure_steps many (env_of r) t body (steps_of old)) (sym tag)

        pub begins_body : old.newest + 1 + old.left < 2 ^ 64 → found ≡ true → WentOn from old begun_body
        begins_body room agreed = record {
          ready = record {
            sound = record {
              base = record {
                program = ready.sound.base.program;
                sound = ready.sound.base.sound;
                hold = hold;
                frames = subst (λ (l : List Frame). AreFrames (length l) (length ys) l) (sym pushed_on) frames_now;
                choices = subst (λ (l : List Frame). StandOn l (length l) (length ys) (old.newest + 1) os) (sym pushed_on) stand;
                places = record { saved = ready.sound.base.places.saved; keeps = saved2 ready.sound.base.places.saved ready.sound.base.places.keeps; back_to = back_now };
              };
              room = room;
              picks = ready.sound.picks;
            };
            here = record {
              runnable = subst AreRunnable (sym goals_are) runnable.body;
              older = omega arith;
              env = omega (arith, all_made, ap length enters.appended.is, length-append xs made);
            };
          };
          left = refl;
          limits = record { heap = k2.heap_limit; trail = k2.trail_limit; aux = refl; keep = refl; calls = []; told = refl };
          leads = λ g n w run st.
              let r = st.at.registers in
              let met : (u_of g r).agrees ≡ true = sym (body_found g parts body args s r st.at.agrees sub s2 xs ys found enters) ∙ agreed in
              let v = begun (behind_of g r) (work_of g r) w in
              let agrees = body_agrees g parts body args s r st.at.agrees sub s2 xs ys found enters in
              record {
                world = v;
                adds = adds_begun (behind_of g r) (work_of g r) w;
                holds = record {
                  at = record {
                    inside = record {
                      program = st.at.inside.program;
                      entries = st.at.inside.entries;
                      lives = st.at.inside.lives;
                      lives_are = st.at.inside.lives_are;
                      saved = st.at.inside.saved;
                      keeps = saved2 st.at.inside.saved st.at.inside.keeps;
                      choices = subst (λ l. AreChoices g ys l os st.at.inside.saved st.at.inside.entries) (sym pushed_on)
                          (choices_same g ys ys fs gs (length fs) (length ys) old.newest os st.at.inside.saved st.at.inside.entries refl (same_append fs old.here) entering_sound.base.choices (choices_now g st.at.inside.saved st.at.inside.entries st.at.inside.choices));
                      world = st.at.inside.world;
                      peak = peak_begun store2 (behind_of g r) (work_of g r) w agrees (omega (arith, st.at.inside.peak, k2.heap_limit));
                    };
                    ways = st.at.ways;
                    ways_are = st.at.ways_are;
                    registers = behind_of g r;
                    agrees = agrees;
                    tag = ap (λ i. i + 1) st.at.tag;
                    stop = st.at.stop;
                  };
                  stands = subst (λ l. Stands g st.at.inside.lives st.at.ways (path_of l (behind_of g r)) n v run) (sym (same_steps g r st.at.agrees st.at.tag))
                      (subst (λ b. Began g st.at.inside.lives st.at.ways (enter_if b (path_of (steps_in r) (behind_of g r)) (work_of g r)) n w run) met (begins g n w run st));
                };
              };
        }

-- ## The terms of a query

query_held : (a : Term) (b : Option Term) (many : Bool) → terms_held (out-Goal (Query a b many)) ≡ a ∷ option_terms b
query_held a b many = ap terms_held (outs-Query a b many)

-- what is asked was made, and the argument behind it
module _ (a : Term) (b : Option Term) (many : Bool) (old : Engine) (store : ListBindings) (made : Vec Ref Global) (value : Ref) (ready : IsReady old) (k : Kept (store_in old.store) (store_in store)) (saved : (ms : List Saved) → KeepsPlaces old.store ms → KeepsPlaces store ms)
    (agrees : (g : Game) (n : ℕ) (w : World) (run : Run) (st : TakesAt (Query a b many) old g n w run) → Agrees (store_in store) (after_terms (Query a b many) old g n w run st))
    (value_is : (program : CoreProgram) → old.program.now ≡ program → told (store_in store) value ≡ value_of program (values_in (store_in old.store) old.refs.items old.here.env) a)
    (args_are : (program : CoreProgram) → old.program.now ≡ program → map (told (store_in store)) made.items ≡ map (value_of program (values_in (store_in old.store) old.refs.items old.here.env)) (option_terms b)) where
  abbrev x : Goal
  x = Query a b many

  abbrev pub asking : Engine
  asking = record old { store = store; made = made }

  abbrev values : List Value
  values = values_in (store_in old.store) old.refs.items old.here.env

  steps_same : steps_of asking ≡ steps_of old
  steps_same = at_same (length old.refs.items) (values_in (store_in old.store) old.refs.items) (values_in (store_in store) old.refs.items) old.frames.items old.frames.items (length old.frames.items) old.here ready.here
      (values_kept (length old.refs.items) (store_in old.store) (store_in store) old.refs.items old.refs.items k (hold_front (store_in old.store) old.refs.items ready.sound.base.hold) refl) ready.sound.base.frames (same_here (length old.frames.items) old.frames.items)

  pub asks : Leads (TakesAt x old) (QueriesAt value many asking)
  asks g n w run st =
      let r = after_terms x old g n w run st in
      let v = value_of g.program values a in
      let t = worked (looked_up r v) (taken_in x old g n w run st) in
      let all = adds_taken r (writing (terms_held (out-Goal x))) w in
      let on : List Step → Value → List Value → Outcome = λ steps u us. outcome_of steps r (ask_closure g (walk r.bound u) us many steps r t) in
      record {
        world = t;
        adds = record { events_are = all.events_are; typed = refl };
        holds = record {
          at = record {
            inside = inside_kept _ _ saved st.at.inside.world (peak_taken x old store g n w run st (agrees g n w run st) (omega (arith, st.at.inside.peak, k.heap_limit))) st.at.inside;
            ways = st.at.ways;
            ways_are = st.at.ways_are;
            registers = r;
            agrees = agrees g n w run st;
            tag = st.at.tag;
            stop = st.at.stop;
          };
          queried = subst (λ o. After g st.at.inside.lives st.at.ways n o run)
              (ap (λ f. outcome g f values old.here.tag (steps_of old) r (taken_in x old g n w run st)) (outs-Query a b many)
              ∙ ap (λ l. on l v (map (value_of g.program values) (option_terms b))) (sym steps_same)
              ∙ ap (λ u. on (steps_of asking) u (map (value_of g.program values) (option_terms b))) (sym (value_is g.program st.at.inside.program))
              ∙ ap (on (steps_of asking) (told (store_in store) value)) (sym (args_are g.program st.at.inside.program)))
              (comes_of x old g n w run st);
        };
      }

-- two terms were made
pub both_agree : (a c : Term) (many : Bool) (old : Engine) (store : ListBindings) (ra rb : Ref) → ((program : CoreProgram) → old.program.now ≡ program → BothMade program a c (values_in (store_in old.store) old.refs.items old.here.env) (store_in old.store) (store_in store) ra rb) →
    (g : Game) (n : ℕ) (w : World) (run : Run) (st : TakesAt (Query a (Some c) many) old g n w run) → Agrees (store_in store) (after_terms (Query a (Some c) many) old g n w run st)
both_agree a c many old store ra rb made g n w run st =
    let here = (made g.program st.at.inside.program).state in
    let form : cells g.program (terms_held (out-Goal (Query a (Some c) many))) ≡ cells g.program (a ∷ c ∷ []) = ap (cells g.program) (query_held a (Some c) many) in
    record {
      bound = st.at.agrees.bound ∙ ap (λ (t : State). t.subst) (sym here);
      vars = st.at.agrees.vars ∙ ap (λ (t : State). t.vars) (sym here);
      heap = omega (arith, st.at.agrees.heap, form, ap (λ (t : State). t.heap) here);
      trail = omega (arith, st.at.agrees.trail, ap (λ (t : State). t.trail) here);
      since = omega (arith, st.at.agrees.since, ap (λ (t : State). t.since) here, ap (λ (t : State). t.vars) here);
    }

pub both_full : (a c : Term) (many : Bool) (old : Engine) (e : Full) → ((program : CoreProgram) → old.program.now ≡ program → Overflows (cells program (a ∷ c ∷ [])) (store_in old.store) e) → FullAt (TakesAt (Query a (Some c) many) old) (store_in old.store) e
both_full a c many old e h = terms_full (Query a (Some c) many) old e (λ g same. subst (λ l. Overflows (cells g.program l) (store_in old.store) e) (sym (query_held a (Some c) many)) (h g.program same))

pub one_full : (a : Term) (many : Bool) (old : Engine) (e : Full) → ((program : CoreProgram) → old.program.now ≡ program → Overflows (cells program (a ∷ [])) (store_in old.store) e) → FullAt (TakesAt (Query a None many) old) (store_in old.store) e
one_full a many old = term_full (Query a None many) a (query_held a None many) old

pub one_agrees : (a : Term) (many : Bool) (old : Engine) (store : ListBindings) (value : Ref) → ((program : CoreProgram) → old.program.now ≡ program → Made (cells program (a ∷ [])) (store_in old.store) (store_in store) value (value_of program (values_in (store_in old.store) old.refs.items old.here.env) a)) →
    (g : Game) (n : ℕ) (w : World) (run : Run) (st : TakesAt (Query a None many) old g n w run) → Agrees (store_in store) (after_terms (Query a None many) old g n w run st)
one_agrees a many old store value written = agrees_behind (Query a None many) a (query_held a None many) old store value written

-- the values of what a frame has
pub one_among : (a : Term) (old : Engine) (t : Store) (value : Ref) (part : List Ref) → part ≡ stretch old.refs.items old.here.env → ((program : CoreProgram) → old.program.now ≡ program → Made (cells program (a ∷ [])) (store_in old.store) t value (value_of program (map (told (store_in old.store)) part) a)) →
    (program : CoreProgram) → old.program.now ≡ program → Made (cells program (a ∷ [])) (store_in old.store) t value (value_of program (values_in (store_in old.store) old.refs.items old.here.env) a)
one_among a old t value part e h program same = made_among program [] _ (store_in old.store) t old.refs.items part old.here.env value a e (h program same)

pub two_among : (a c : Term) (old : Engine) (t : Store) (ra rb : Ref) (part : List Ref) → part ≡ stretch old.refs.items old.here.env → ((program : CoreProgram) → old.program.now ≡ program → BothMade program a c (map (told (store_in old.store)) part) (store_in old.store) t ra rb) →
    (program : CoreProgram) → old.program.now ≡ program → BothMade program a c (values_in (store_in old.store) old.refs.items old.here.env) (store_in old.store) t ra rb
two_among a c old t ra rb part e h program same = both_among program a c (store_in old.store) t ra rb old.refs.items part old.here.env e (h program same)
