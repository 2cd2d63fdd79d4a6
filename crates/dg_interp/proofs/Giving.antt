-- What becomes of a value that a goal makes and unifies with one of its terms.
use Rattle.std.proofs.Common.{◌≡◌, ℕ, ◌+◌, ◌<◌, List, [], ◌∷◌, Bool, true, false, Some, None, refl, sym, ap, ◌∙◌, subst, arith, length, ◌≤◌}
use Rattle.std.specs.Prelude.{Ok, Err, IfOk}
use Rattle.std.specs.Prelude.{Result as Answer}
use Rattle.std.specs.declared.vec.Vec.{Vec}
use Rattle.std.specs.declared.alloc.Global.{Global}
use Rattle.dg_base.specs.declared.program.Goal.{Goal, out-Goal}
use Rattle.dg_base.specs.declared.program.Term.{Term}
use Rattle.dg_base.specs.declared.program.CoreProgram.{CoreProgram}
use Rattle.dg_base.specs.Goals.{terms_held}
use Rattle.dg_meaning.specs.Values.{Num, leaf}
use Rattle.dg_meaning.specs.inside.Substitutions.{IsSubstitution, Extends}
use Rattle.dg_meaning.specs.Unify.{Unified, Equations, solve}
use Rattle.dg_meaning.specs.World.{Game, World, worked}
use Rattle.dg_meaning.specs.Cells.{cells, writing}
use Rattle.dg_meaning.specs.Path.{Registers, Act, Unifies, Moves, Failing}
use Rattle.dg_meaning.specs.Moves.{begun, made_since, bound_by, goes_on_if, outcome, unifying, path_of, move_of, gives_number}
use Rattle.dg_meaning.specs.Transcript.{Run}
use Rattle.dg_meaning.specs.inside.OneRun.{Grows}
use Rattle.dg_meaning.specs.inside.Keeps.{Stands, Failed, After, Went, world_at}
use Rattle.dg_meaning.proofs.Keeps.{has_happened}
use Rattle.dg_meaning.proofs.Solving.{solve_extends}
use Rattle.dg_unify.specs.Store.{Store, State, Saved, Kept, Holds, told, or_nil, trail_of, Does, UnifyFull}
use Rattle.dg_unify.specs.inside.Engines.{Agrees}
use Rattle.dg_unify.specs.declared.bindings.Ref.{Ref}
use Rattle.dg_unify.specs.declared.bindings.Full.{Full}
use Rattle.dg_unify.specs.declared.bindings.Full.TheVariants as full
use Rattle.dg_unify.specs.declared.list.ListBindings.{ListBindings}
use Rattle.dg_interp.specs.declared.engine.Engine.{Engine}
use Rattle.dg_terms.specs.Terms.{Overflows}
use Rattle.dg_interp.specs.inside.Frames.{values_in}
use Rattle.dg_interp.specs.inside.Engine.{Point, store_in, KeepsPlaces, steps_of, There, IsReady, TakesAt, StandsAt, FailsAt, FullAt, Leads, Silent, WentOn, Branches}
use Rattle.dg_lasting.specs.Lasting.{InWorld}
use Rattle.dg_interp.specs.inside.Giving.{ActsAt, SolvesAt, UnifiesAt, GivesAt}
use Rattle.dg_unify.proofs.StoreLemmas.{kept_told}
use Rattle.dg_interp.proofs.Stores.{trail_append, trail_within, made_is, values_kept, hold_front}
use Rattle.dg_interp.proofs.Places.{silent, peak_begun, inside_kept, adds_nothing}
use Rattle.dg_interp.proofs.Links.{same_here, at_same}
use Rattle.dg_interp.proofs.Takes.{behind, taken_in, comes_of, peak_taken, adds_taken, terms_full, store_ready}
use Rattle.dg_interp.proofs.Branches.{went_on_from, ended_from}

-- ## Numbers

-- ## An engine whose store has changed

module _ (old : Engine) (store : ListBindings) (stack : Vec Ref Global) (ready : IsReady old) (k : Kept (store_in old.store) (store_in store)) (saved : (ms : List Saved) → KeepsPlaces old.store ms → KeepsPlaces store ms) where
  abbrev pub with_store : Engine
  with_store = record old { store = store; made = stack }

  pub steps_kept : steps_of with_store ≡ steps_of old
  steps_kept = at_same (length old.refs.items) (values_in (store_in old.store) old.refs.items) (values_in (store_in store) old.refs.items) old.frames.items old.frames.items (length old.frames.items) old.here ready.here
      (values_kept (length old.refs.items) (store_in old.store) (store_in store) old.refs.items old.refs.items k (hold_front (store_in old.store) old.refs.items ready.sound.base.hold) refl) ready.sound.base.frames (same_here (length old.frames.items) old.frames.items)

  pub kept_limits : Silent old with_store
  kept_limits = record { heap = k.heap_limit; trail = k.trail_limit; aux = refl; keep = refl; told = refl }

  module _ (g : Game) (n : ℕ) (w v : World) (run : Run) (at : There old (old.newest + 1) g w) (world : InWorld old.lasting g v) (peak : v.meters.heap ≤ (store_in store).heap_limit) where
    abbrev there_on : (r : Registers) → Agrees (store_in store) r → r.next_tag ≡ at.registers.next_tag → r.stoppable ≡ at.registers.stoppable → There with_store (old.newest + 1) g v
    there_on r agrees tag part = record {
      inside = inside_kept _ _ saved world peak at.inside;
      ways = at.ways;
      ways_are = at.ways_are;
      registers = r;
      agrees = agrees;
      tag = tag ∙ at.tag;
      stop = part ∙ at.stop;
    }

    pub stands_on : (r : Registers) → Agrees (store_in store) r → r.next_tag ≡ at.registers.next_tag → r.stoppable ≡ at.registers.stoppable → Stands g at.inside.lives at.ways (path_of (steps_of old) r) n v run → StandsAt with_store g n v run
    stands_on r agrees tag part h = record { at = there_on r agrees tag part; stands = subst (λ s. Stands g at.inside.lives at.ways (path_of s r) n v run) (sym steps_kept) h }

    pub acts_on : (act : Registers → World → Act) (r : Registers) → Agrees (store_in store) r → r.next_tag ≡ at.registers.next_tag → r.stoppable ≡ at.registers.stoppable → Went g at.inside.lives at.ways n (move_of (steps_of old) r (act r v)) run → ActsAt act with_store g n v run
    acts_on act r agrees tag part h = record { at = there_on r agrees tag part; went = subst (λ s. Went g at.inside.lives at.ways n (move_of s r (act r v)) run) (sym steps_kept) h }

    pub fails_on : Failed g at.inside.lives n v run → FailsAt with_store g n v run
    fails_on h = record { inside = inside_kept _ _ saved world peak at.inside; failed = h }

pub same_limits : (e : Engine) → Silent e e
same_limits e = record { heap = refl; trail = refl; aux = refl; keep = refl; told = refl }

-- ## A goal whose terms are written

module _ (x : Goal) (ts : List Term) (held : terms_held (out-Goal x) ≡ ts) (old : Engine) where
  pub written_full : (e : Full) → ((program : CoreProgram) → old.program.now ≡ program → Overflows (cells program ts) (store_in old.store) e) → FullAt (TakesAt x old) (store_in old.store) e
  written_full e h = terms_full x old e (λ g same. subst (λ l. Overflows (cells g.program l) (store_in old.store) e) (sym held) (h g.program same))

  module _ (store : ListBindings) (stack : Vec Ref Global) (ready : IsReady old) (k : Kept (store_in old.store) (store_in store)) (saved : (ms : List Saved) → KeepsPlaces old.store ms → KeepsPlaces store ms)
      (grew : (program : CoreProgram) → old.program.now ≡ program → (store_in store).state ≡ record (store_in old.store).state { heap = (store_in old.store).state.heap + cells program ts }) where
    pub written_agrees : (g : Game) (n : ℕ) (w : World) (run : Run) (st : TakesAt x old g n w run) → Agrees (store_in store) (behind x old g n w run st)
    written_agrees g n w run st =
        let here = grew g.program st.at.inside.program in
        let form : cells g.program (terms_held (out-Goal x)) ≡ cells g.program ts = ap (cells g.program) held in
        record {
          bound = st.at.agrees.bound ∙ ap (λ (t : State). t.subst) (sym here);
          vars = st.at.agrees.vars ∙ ap (λ (t : State). t.vars) (sym here);
          heap = omega (arith, st.at.agrees.heap, form, ap (λ (t : State). t.heap) here);
          trail = omega (arith, st.at.agrees.trail, ap (λ (t : State). t.trail) here);
          since = omega (arith, st.at.agrees.since, ap (λ (t : State). t.since) here, ap (λ (t : State). t.vars) here);
        }

    -- no more was reached than the limit
    pub written_peak : (g : Game) (n : ℕ) (w : World) (run : Run) (st : TakesAt x old g n w run) → (taken_in x old g n w run st).meters.heap ≤ (store_in store).heap_limit
    written_peak g n w run st = peak_taken x old store g n w run st (written_agrees g n w run st) (omega (arith, st.at.inside.peak, k.heap_limit))

    -- what the goal does is this act, behind so much work
    pub written_acts : (act : Registers → World → Act) (work : Game → Registers → ℕ)
        → ((g : Game) (r : Registers) (v : World) → old.program.now ≡ g.program → r.bound ≡ (store_in store).state.subst → outcome g (out-Goal x) (values_in (store_in old.store) old.refs.items old.here.env) old.here.tag (steps_of old) r v ≡ Moves (move_of (steps_of old) r (act r (worked (work g r) v))))
        → Leads (TakesAt x old) (ActsAt act (with_store old store stack ready k saved))
    written_acts act work is g n w run st =
        let r = behind x old g n w run st in
        let t = taken_in x old g n w run st in
        let v = worked (work g r) t in
        let a = adds_taken r (writing (terms_held (out-Goal x))) w in
        record {
          world = v;
          adds = record { events_are = a.events_are; typed = refl };
          holds = acts_on old store stack ready k saved g n w v run st.at st.at.inside.world (written_peak g n w run st) act r (written_agrees g n w run st) refl refl
              (subst (λ o. After g st.at.inside.lives st.at.ways n o run) (is g r t st.at.inside.program (written_agrees g n w run st).bound) (comes_of x old g n w run st));
        }

-- ## Equations

module _ (es : Equations) (old : Engine) (sound : IsSubstitution (store_in old.store).state.subst) (g : Game) (n : ℕ) (w : World) (run : Run) (st : SolvesAt es old g n w run) where
  abbrev s : Store
  s = store_in old.store

  abbrev r : Registers
  r = st.at.registers

  abbrev u : Unified
  u = solve r.bound es

  abbrev after : Registers
  after = bound_by u (length (made_since r.bound u.subst)) r

  abbrev bound_in : World
  bound_in = begun after (unifying r.bound es) w

  meant : solve s.state.subst es ≡ u
  meant = ap (λ S. solve S es) (sym st.at.agrees.bound)

  extends : Extends r.bound u.subst
  extends = solve_extends r.bound es (subst IsSubstitution (sym st.at.agrees.bound) sound)

  counted_trail : after.trail ≡ r.trail + length extends.made
  counted_trail = ap (λ l. r.trail + length l) (made_is extends.made r.bound u.subst extends.is)

  taken : (since : ℕ) → trail_of since u.subst ≡ trail_of since extends.made + trail_of since r.bound
  taken since = ap (trail_of since) extends.is ∙ trail_append since extends.made r.bound

  before : trail_of s.state.since s.state.subst ≡ trail_of s.state.since r.bound
  before = ap (trail_of s.state.since) (sym st.at.agrees.bound)

  pub solved_agrees : (new : Store) (found : Bool) → Does s new (solve s.state.subst es) found → Agrees new after
  solved_agrees new found does =
      let now = taken s.state.since in
      let few = trail_within s.state.since extends.made in
      let behind : trail_of s.state.since new.state.subst ≡ trail_of s.state.since u.subst = ap (trail_of s.state.since) (does.subst ∙ ap (λ (v : Unified). v.subst) meant) in
      record {
        bound = sym (does.subst ∙ ap (λ (v : Unified). v.subst) meant);
        vars = omega (arith, does.binds.vars, st.at.agrees.vars);
        heap = omega (arith, does.binds.heap, st.at.agrees.heap);
        trail = omega (arith, does.binds.trail, before, behind, now, few, counted_trail, st.at.agrees.trail);
        since = omega (arith, does.binds.since, does.binds.vars, st.at.agrees.since);
      }

  pub solved_comes : (found : Bool) → found ≡ (solve s.state.subst es).agrees → Went g st.at.inside.lives st.at.ways n (goes_on_if found (steps_of old) after bound_in) run
  solved_comes found is = subst (λ o. Went g st.at.inside.lives st.at.ways n (goes_on_if o (steps_of old) after bound_in) run) (sym (is ∙ ap (λ (v : Unified). v.agrees) meant)) st.went

  world_is : (o : Bool) → world_at (goes_on_if o (steps_of old) after bound_in) ≡ bound_in
  world_is true = refl
  world_is false = refl

  pub solved_trail : (limit : ℕ) → limit + trail_of s.state.since s.state.subst < s.state.trail + trail_of s.state.since (solve s.state.subst es).subst → limit < run.world.meters.trail
  solved_trail limit h =
      let now = taken s.state.since in
      let few = trail_within s.state.since extends.made in
      let behind : trail_of s.state.since (solve s.state.subst es).subst ≡ trail_of s.state.since u.subst = ap (λ (v : Unified). trail_of s.state.since v.subst) meant in
      let grows : Grows bound_in run.world = subst (λ v. Grows v run.world) (world_is u.agrees) (has_happened g st.at.inside.lives st.at.ways n (Moves (goes_on_if u.agrees (steps_of old) after bound_in)) run st.went) in
      omega (arith, h, before, behind, now, few, counted_trail, st.at.agrees.trail, grows.meters.trail)

pub solved_full : (es : Equations) (old : Engine) → IsSubstitution (store_in old.store).state.subst → (e : Full) → UnifyFull (store_in old.store) (solve (store_in old.store).state.subst es) e → FullAt (SolvesAt es old) (store_in old.store) e
solved_full es old sound full.Heap h = absurd h
solved_full es old sound full.Trail h = λ g n w run st. solved_trail es old sound g n w run st (store_in old.store).trail_limit h
solved_full es old sound full.OutOfMemory h = tt

module _ (es : Equations) (old : Engine) (store : ListBindings) (ready : IsReady old) (sound : IsSubstitution (store_in old.store).state.subst) (k : Kept (store_in old.store) (store_in store)) (saved : (ms : List Saved) → KeepsPlaces old.store ms → KeepsPlaces store ms)
    (found : Bool) (does : Does (store_in old.store) (store_in store) (solve (store_in old.store).state.subst es) found) where
  abbrev solved_to : Engine
  solved_to = with_store old store old.made ready k saved

  solved_peak : (g : Game) (n : ℕ) (w : World) (run : Run) (st : SolvesAt es old g n w run) → (bound_in es old sound g n w run st).meters.heap ≤ (store_in store).heap_limit
  solved_peak g n w run st = peak_begun store (after es old sound g n w run st) (unifying st.at.registers.bound es) w (solved_agrees es old sound g n w run st (store_in store) found does) (omega (arith, st.at.inside.peak, k.heap_limit))

  pub solved_on : found ≡ true → WentOn (SolvesAt es old) old solved_to
  solved_on is = record {
    ready = store_ready old store old.made k saved ready;
    left = refl;
    limits = silent (kept_limits old store old.made ready k saved);
    leads = λ g n w run st. record {
      world = bound_in es old sound g n w run st;
      adds = record { events_are = refl; typed = refl };
      holds = stands_on old store old.made ready k saved g n w (bound_in es old sound g n w run st) run st.at st.at.inside.world (solved_peak g n w run st) (after es old sound g n w run st) (solved_agrees es old sound g n w run st (store_in store) found does) refl refl
          (subst (λ o. Went g st.at.inside.lives st.at.ways n (goes_on_if o (steps_of old) (after es old sound g n w run st) (bound_in es old sound g n w run st)) run) is (solved_comes es old sound g n w run st found does.agrees));
    };
  }

  pub solved_fails : found ≡ false → Leads (SolvesAt es old) (FailsAt solved_to)
  solved_fails is g n w run st = record {
    world = bound_in es old sound g n w run st;
    adds = record { events_are = refl; typed = refl };
    holds = fails_on old store old.made ready k saved g n w (bound_in es old sound g n w run st) run st.at st.at.inside.world (solved_peak g n w run st)
        (subst (λ o. Went g st.at.inside.lives st.at.ways n (goes_on_if o (steps_of old) (after es old sound g n w run st) (bound_in es old sound g n w run st)) run) is (solved_comes es old sound g n w run st found does.agrees));
  }

-- two values are one equation
abbrev pub equation : Ref → Ref → Engine → Equations
equation a b e = (told (store_in e.store) a, told (store_in e.store) b) ∷ []

-- ## A number that is given

pub none_given : (into : Ref) (old : Engine) → Leads (GivesAt None into old) (FailsAt old)
none_given into old g n w run st = record { world = w; adds = adds_nothing w; holds = record { inside = st.at.inside; failed = st.went } }

pub same_agrees : (s t : Store) (r : Registers) → t.state ≡ s.state → Agrees s r → Agrees t r
same_agrees s t r is h = record {
  bound = h.bound ∙ ap (λ (x : State). x.subst) (sym is);
  vars = h.vars ∙ ap (λ (x : State). x.vars) (sym is);
  heap = h.heap ∙ ap (λ (x : State). x.heap) (sym is);
  trail = omega (arith, h.trail, ap (λ (x : State). x.trail) is);
  since = omega (arith, h.since, ap (λ (x : State). x.since) is, ap (λ (x : State). x.vars) is);
}

pub number_given : (m : ℕ) (into made : Ref) (old : Engine) (store : ListBindings) (ready : IsReady old) (k : Kept (store_in old.store) (store_in store)) (saved : (ms : List Saved) → KeepsPlaces old.store ms → KeepsPlaces store ms) →
    Holds (store_in old.store) into → (store_in store).state ≡ (store_in old.store).state → (store_in store).value made ≡ Some (leaf (Num m)) → Leads (GivesAt (Some m) into old) (UnifiesAt into made (with_store old store old.made ready k saved))
number_given m into made old store ready k saved hold same is g n w run st =
    let s = store_in old.store in
    let t = store_in store in
    let values : gives_number (Some m) (told s into) st.at.registers w ≡ Unifies st.at.registers ((told t into, told t made) ∷ []) w =
    ap (λ v. Unifies st.at.registers ((v, leaf (Num m)) ∷ []) w) (sym (kept_told s t into k hold))
    ∙ ap (λ o. Unifies st.at.registers ((told t into, or_nil o) ∷ []) w) (sym is) in
    record {
      world = w;
      adds = adds_nothing w;
      holds = acts_on old store old.made ready k saved g n w w run st.at st.at.inside.world (omega (arith, st.at.inside.peak, k.heap_limit)) (λ r v. Unifies r ((told t into, told t made) ∷ []) v) st.at.registers (same_agrees s t st.at.registers same st.at.agrees) refl refl
          (subst (λ c. Went g st.at.inside.lives st.at.ways n (move_of (steps_of old) st.at.registers c) run) values st.went);
    }

-- ## What a call answers

branches_from : (A B : Point) (old mid new : Engine) → mid.left ≡ old.left → Silent old mid → Leads A B → (found : Bool) → Branches B found mid new → Branches A found old new
branches_from A B old between new left limits h true k = went_on_from A B old between new left limits h k
branches_from A B old between new left limits h false k = ended_from A B Failing old between new left limits h k

pub branches_made : (A B : Point) (old mid new : Engine) → mid.left ≡ old.left → Silent old mid → Leads A B → (r : Answer Bool Full) → IfOk r (λ found. Branches B found mid new) → IfOk r (λ found. Branches A found old new)
branches_made A B old between new left limits h (Ok found) k = branches_from A B old between new left limits h found k
branches_made A B old between new left limits h (Err e) k = tt
