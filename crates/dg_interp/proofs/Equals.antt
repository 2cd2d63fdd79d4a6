-- What an equation comes to.
use Rattle.std.proofs.Common.{◌≡◌, ℕ, ◌+◌, ◌<◌, List, [], ◌∷◌, Bool, true, false, refl, sym, ap, ◌∙◌, subst, arith, length, ◌≤◌}
use Rattle.std.specs.declared.vec.Vec.{Vec}
use Rattle.std.specs.declared.alloc.Global.{Global}
use Rattle.dg_base.specs.declared.program.Goal.{Goal, out-Goal}
use Rattle.dg_base.specs.declared.program.Goal.TheVariants.{Equal, outs-Equal}
use Rattle.dg_base.specs.declared.program.Term.{Term}
use Rattle.dg_base.specs.declared.program.CoreProgram.{CoreProgram}
use Rattle.dg_base.specs.Goals.{terms_held}
use Rattle.dg_meaning.specs.Values.{Value, value_of}
use Rattle.dg_meaning.specs.World.{Game, World}
use Rattle.dg_meaning.specs.inside.Substitutions.{IsSubstitution, Extends}
use Rattle.dg_meaning.specs.Unify.{Unified}
use Rattle.dg_meaning.specs.inside.Unify.{unify}
use Rattle.dg_meaning.specs.Cells.{cells, writing}
use Rattle.dg_meaning.specs.Path.{Registers}
use Rattle.dg_meaning.specs.Moves.{begun, made_since, bound_by, goes_on_if, outcome, unifying}
use Rattle.dg_meaning.specs.Transcript.{Run}
use Rattle.dg_meaning.specs.inside.OneRun.{Grows}
use Rattle.dg_meaning.specs.inside.Keeps.{After, Went, world_at}
use Rattle.dg_meaning.proofs.Keeps.{has_happened}
use Rattle.dg_meaning.specs.Path.{Moves}
use Rattle.dg_meaning.proofs.Solving.{solve_extends}
use Rattle.dg_unify.specs.Store.{Store, State, Saved, Kept, told, trail_of, Does, UnifyFull}
use Rattle.dg_unify.specs.declared.bindings.Ref.{Ref}
use Rattle.dg_unify.specs.declared.bindings.Full.{Full}
use Rattle.dg_unify.specs.declared.bindings.Full.TheVariants as full
use Rattle.dg_unify.specs.declared.list.ListBindings.{ListBindings}
use Rattle.dg_interp.specs.declared.engine.Engine.{Engine}
use Rattle.dg_terms.specs.Terms.{Overflows, BothMade}
use Rattle.dg_interp.specs.inside.Frames.{values_in}
use Rattle.dg_interp.specs.inside.Engine.{store_in, KeepsPlaces, steps_of, IsReady, TakesAt, FailsAt, FullAt, Adds, Leads, WentOn}
use Rattle.dg_unify.specs.inside.Engines.{Agrees}
use Rattle.dg_interp.proofs.Places.{silent, agrees_within}
use Rattle.dg_interp.proofs.Stores.{trail_append, trail_within, made_is}
use Rattle.dg_interp.proofs.Takes.{behind, taken_in, comes_of, adds_taken, terms_full, store_ready}
use Rattle.dg_interp.proofs.Values.{grown, grown_limits, stands_behind, fails_behind}

-- ## Two terms

held : (a b : Term) → terms_held (out-Goal (Equal a b)) ≡ a ∷ b ∷ []
held a b = ap terms_held (outs-Equal a b)

pub equal_full : (a b : Term) (old : Engine) (e : Full) → ((program : CoreProgram) → old.program.now ≡ program → Overflows (cells program (a ∷ b ∷ [])) (store_in old.store) e) → FullAt (TakesAt (Equal a b) old) (store_in old.store) e
equal_full a b old e h = terms_full (Equal a b) old e (λ g same. subst (λ l. Overflows (cells g.program l) (store_in old.store) e) (sym (held a b)) (h g.program same))

-- ## What is bound

module _ (a b : Term) (old : Engine) (mid : Store) (ra rb : Ref) (sound : IsSubstitution (store_in old.store).state.subst)
    (made : (program : CoreProgram) → old.program.now ≡ program → BothMade program a b (values_in (store_in old.store) old.refs.items old.here.env) (store_in old.store) mid ra rb) (g : Game) (n : ℕ) (w : World) (run : Run) (st : TakesAt (Equal a b) old g n w run) where
  abbrev x : Goal
  x = Equal a b

  abbrev s : Store
  s = store_in old.store

  abbrev env : List Value
  env = values_in s old.refs.items old.here.env

  abbrev r : Registers
  r = behind x old g n w run st

  abbrev u : Unified
  u = unify r.bound (value_of g.program env a) (value_of g.program env b)

  abbrev after : Registers
  after = bound_by u (length (made_since r.bound u.subst)) r

  abbrev bound_in : World
  bound_in = begun after (unifying r.bound ((value_of g.program env a, value_of g.program env b) ∷ [])) (taken_in x old g n w run st)

  form : cells g.program (terms_held (out-Goal x)) ≡ cells g.program (a ∷ b ∷ [])
  form = ap (cells g.program) (held a b)

  meant : unify mid.state.subst (told mid ra) (told mid rb) ≡ u
  meant =
      let m = made g.program st.at.inside.program in
      ap (λ (y : State). unify y.subst (told mid ra) (told mid rb)) m.state
      ∙ ap (λ S. unify S (told mid ra) (told mid rb)) (sym st.at.agrees.bound)
      ∙ ap (λ v. unify r.bound v (told mid rb)) m.left_is
      ∙ ap (λ v. unify r.bound (value_of g.program env a) v) m.right_is

  extends : Extends r.bound u.subst
  extends = solve_extends r.bound ((value_of g.program env a, value_of g.program env b) ∷ []) (subst IsSubstitution (sym st.at.agrees.bound) sound)

  counted_trail : after.trail ≡ r.trail + length extends.made
  counted_trail = ap (λ l. r.trail + length l) (made_is extends.made r.bound u.subst extends.is)

  taken : (since : ℕ) → trail_of since u.subst ≡ trail_of since extends.made + trail_of since r.bound
  taken since = ap (trail_of since) extends.is ∙ trail_append since extends.made r.bound

  pub equal_agrees : (new : Store) (found : Bool) → Does mid new (unify mid.state.subst (told mid ra) (told mid rb)) found → Agrees new after
  equal_agrees new found does =
      let m = made g.program st.at.inside.program in
      let since : mid.state.since ≡ s.state.since = ap (λ (y : State). y.since) m.state in
      let vars : mid.state.vars ≡ s.state.vars = ap (λ (y : State). y.vars) m.state in
      let heap : mid.state.heap ≡ s.state.heap + cells g.program (a ∷ b ∷ []) = ap (λ (y : State). y.heap) m.state in
      let trail : mid.state.trail ≡ s.state.trail = ap (λ (y : State). y.trail) m.state in
      let now = taken mid.state.since in
      let few = trail_within mid.state.since extends.made in
      let before : trail_of mid.state.since mid.state.subst ≡ trail_of mid.state.since r.bound = ap (λ (y : State). trail_of mid.state.since y.subst) m.state ∙ ap (trail_of mid.state.since) (sym st.at.agrees.bound) in
      let behind : trail_of mid.state.since new.state.subst ≡ trail_of mid.state.since u.subst = ap (trail_of mid.state.since) (does.subst ∙ ap (λ (v : Unified). v.subst) meant) in
      record {
        bound = sym (does.subst ∙ ap (λ (v : Unified). v.subst) meant);
        vars = omega (arith, does.binds.vars, vars, st.at.agrees.vars);
        heap = omega (arith, does.binds.heap, heap, form, st.at.agrees.heap);
        trail = omega (arith, does.binds.trail, before, behind, now, few, counted_trail, trail, st.at.agrees.trail);
        since = omega (arith, does.binds.since, since, does.binds.vars, vars, st.at.agrees.since);
      }

  comes : Went g st.at.inside.lives st.at.ways n (goes_on_if u.agrees (steps_of old) after bound_in) run
  comes = subst (λ f. After g st.at.inside.lives st.at.ways n (outcome g f env old.here.tag (steps_of old) r (taken_in x old g n w run st)) run) (outs-Equal a b) (comes_of x old g n w run st)

  pub equal_comes : (found : Bool) → found ≡ (unify mid.state.subst (told mid ra) (told mid rb)).agrees → Went g st.at.inside.lives st.at.ways n (goes_on_if found (steps_of old) after bound_in) run
  equal_comes found is = subst (λ o. Went g st.at.inside.lives st.at.ways n (goes_on_if o (steps_of old) after bound_in) run) (sym (is ∙ ap (λ (v : Unified). v.agrees) meant)) comes

  world_is : (o : Bool) → world_at (goes_on_if o (steps_of old) after bound_in) ≡ bound_in
  world_is true = refl
  world_is false = refl

  pub equal_trail : (limit : ℕ) → limit + trail_of mid.state.since mid.state.subst < mid.state.trail + trail_of mid.state.since (unify mid.state.subst (told mid ra) (told mid rb)).subst → limit < run.world.meters.trail
  equal_trail limit h =
      let m = made g.program st.at.inside.program in
      let trail : mid.state.trail ≡ s.state.trail = ap (λ (y : State). y.trail) m.state in
      let now = taken mid.state.since in
      let few = trail_within mid.state.since extends.made in
      let before : trail_of mid.state.since mid.state.subst ≡ trail_of mid.state.since r.bound = ap (λ (y : State). trail_of mid.state.since y.subst) m.state ∙ ap (trail_of mid.state.since) (sym st.at.agrees.bound) in
      let behind : trail_of mid.state.since (unify mid.state.subst (told mid ra) (told mid rb)).subst ≡ trail_of mid.state.since u.subst = ap (λ (v : Unified). trail_of mid.state.since v.subst) meant in
      let grows : Grows bound_in run.world = subst (λ v. Grows v run.world) (world_is u.agrees) (has_happened g st.at.inside.lives st.at.ways n (Moves (goes_on_if u.agrees (steps_of old) after bound_in)) run comes) in
      omega (arith, h, before, behind, now, few, counted_trail, trail, st.at.agrees.trail, grows.meters.trail)

pub equal_trail_full : (a b : Term) (old : Engine) (mid : Store) (ra rb : Ref) → IsSubstitution (store_in old.store).state.subst → ((program : CoreProgram) → old.program.now ≡ program → BothMade program a b (values_in (store_in old.store) old.refs.items old.here.env) (store_in old.store) mid ra rb) → (e : Full) → UnifyFull mid (unify mid.state.subst (told mid ra) (told mid rb)) e → FullAt (TakesAt (Equal a b) old) (store_in old.store) e
equal_trail_full a b old mid ra rb sound made full.Heap h = absurd h
equal_trail_full a b old mid ra rb sound made full.Trail h = λ g n w run st. equal_trail a b old mid ra rb sound made g n w run st (store_in old.store).trail_limit (subst (λ k. k + trail_of mid.state.since mid.state.subst < mid.state.trail + trail_of mid.state.since (unify mid.state.subst (told mid ra) (told mid rb)).subst) (made g.program st.at.inside.program).kept.trail_limit h)
equal_trail_full a b old mid ra rb sound made full.OutOfMemory h = tt

-- ## The engine behind it

module _ (a b : Term) (old : Engine) (mid : Store) (ra rb : Ref) (store : ListBindings) (stack : Vec Ref Global) (ready : IsReady old) (sound : IsSubstitution (store_in old.store).state.subst) (k : Kept (store_in old.store) (store_in store)) (saved : (ms : List Saved) → KeepsPlaces old.store ms → KeepsPlaces store ms)
    (made : (program : CoreProgram) → old.program.now ≡ program → BothMade program a b (values_in (store_in old.store) old.refs.items old.here.env) (store_in old.store) mid ra rb) (found : Bool) (does : Does mid (store_in store) (unify mid.state.subst (told mid ra) (told mid rb)) found) where
  abbrev y : Goal
  y = Equal a b

  adds_bound : (g : Game) (n : ℕ) (w : World) (run : Run) (st : TakesAt y old g n w run) → Adds [] w (bound_in a b old mid ra rb sound made g n w run st)
  adds_bound g n w run st = let t = adds_taken (behind y old g n w run st) (writing (terms_held (out-Goal y))) w in record { events_are = t.events_are; typed = refl }

  equal_peak : (g : Game) (n : ℕ) (w : World) (run : Run) (st : TakesAt y old g n w run) → (bound_in a b old mid ra rb sound made g n w run st).meters.heap ≤ (store_in store).heap_limit
  equal_peak g n w run st =
      let r = behind y old g n w run st in
      let agrees = equal_agrees a b old mid ra rb sound made g n w run st (store_in store) found does in
      let here = agrees_within store (after a b old mid ra rb sound made g n w run st) agrees in
      omega (arith, st.at.inside.peak, k.heap_limit, here)

  pub equal_passed : found ≡ true → WentOn (TakesAt y old) old (grown y old store stack ready k saved)
  equal_passed is = record {
    ready = store_ready old store stack k saved ready;
    left = refl;
    limits = silent (grown_limits y old store stack ready k saved);
    leads = λ g n w run st.
        let v = bound_in a b old mid ra rb sound made g n w run st in
        let r = after a b old mid ra rb sound made g n w run st in
        record {
          world = v;
          adds = adds_bound g n w run st;
          holds = stands_behind y old store stack ready k saved g n w v run st.at.inside.world (equal_peak g n w run st) st r (equal_agrees a b old mid ra rb sound made g n w run st (store_in store) found does) refl refl
              (subst (λ o. Went g st.at.inside.lives st.at.ways n (goes_on_if o (steps_of old) r v) run) is (equal_comes a b old mid ra rb sound made g n w run st found does.agrees));
        };
  }

  pub equal_failed : found ≡ false → Leads (TakesAt y old) (FailsAt (grown y old store stack ready k saved))
  equal_failed is g n w run st =
      let v = bound_in a b old mid ra rb sound made g n w run st in
      let r = after a b old mid ra rb sound made g n w run st in
      record {
        world = v;
        adds = adds_bound g n w run st;
        holds = fails_behind y old store stack ready k saved g n w v run st.at.inside.world (equal_peak g n w run st) st (subst (λ o. Went g st.at.inside.lives st.at.ways n (goes_on_if o (steps_of old) r v) run) is (equal_comes a b old mid ra rb sound made g n w run st found does.agrees));
      }
