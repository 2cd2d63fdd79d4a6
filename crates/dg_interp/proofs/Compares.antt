-- What a comparison comes to.
use Rattle.std.proofs.Common.{◌≡◌, ℕ, ◌+◌, List, [], ◌∷◌, Bool, true, false, sym, ap, ◌∙◌, subst, arith}
use Rattle.std.specs.declared.vec.Vec.{Vec}
use Rattle.std.specs.declared.alloc.Global.{Global}
use Rattle.dg_base.specs.declared.program.CompareOp.{CompareOp}
use Rattle.dg_base.specs.declared.program.Goal.{Goal, out-Goal}
use Rattle.dg_base.specs.declared.program.Goal.TheVariants.{Compare, outs-Compare}
use Rattle.dg_base.specs.declared.program.Term.{Term}
use Rattle.dg_base.specs.declared.program.CoreProgram.{CoreProgram}
use Rattle.dg_base.specs.Goals.{terms_held}
use Rattle.dg_meaning.specs.Values.{Value, value_of}
use Rattle.dg_meaning.specs.Substitutions.{walk}
use Rattle.dg_meaning.specs.Numbers.{are_in_order}
use Rattle.dg_meaning.specs.World.{Game, World, worked}
use Rattle.dg_meaning.specs.Cells.{cells}
use Rattle.dg_meaning.specs.Path.{Moves}
use Rattle.dg_meaning.specs.Moves.{goes_on_if, looked_up, outcome}
use Rattle.dg_meaning.specs.Transcript.{Run}
use Rattle.dg_meaning.specs.inside.Keeps.{After}
use Rattle.dg_unify.specs.Store.{Store, State, Saved, Kept, told}
use Rattle.dg_unify.specs.inside.Engines.{Agrees}
use Rattle.dg_unify.specs.declared.bindings.Ref.{Ref}
use Rattle.dg_unify.specs.declared.bindings.Full.{Full}
use Rattle.dg_unify.specs.declared.list.ListBindings.{ListBindings}
use Rattle.dg_interp.specs.declared.engine.Engine.{Engine}
use Rattle.dg_terms.specs.Terms.{Overflows, BothMade}
use Rattle.dg_interp.specs.inside.Frames.{values_in}
use Rattle.dg_interp.specs.inside.Engine.{store_in, KeepsPlaces, steps_of, IsReady, TakesAt, FailsAt, FullAt, Leads, WentOn}
use Rattle.dg_interp.proofs.Takes.{behind, taken_in, comes_of, terms_full}
use Rattle.dg_interp.proofs.Values.{grown, passed_on, not_passed}

-- ## The goal

held : (op : CompareOp) (a b : Term) → terms_held (out-Goal (Compare op a b)) ≡ a ∷ b ∷ []
held op a b = ap terms_held (outs-Compare op a b)

pub compare_full : (op : CompareOp) (a b : Term) (old : Engine) (e : Full) → ((program : CoreProgram) → old.program.now ≡ program → Overflows (cells program (a ∷ b ∷ [])) (store_in old.store) e) → FullAt (TakesAt (Compare op a b) old) (store_in old.store) e
compare_full op a b old e h = terms_full (Compare op a b) old e (λ g same. subst (λ l. Overflows (cells g.program l) (store_in old.store) e) (sym (held op a b)) (h g.program same))

module _ (op : CompareOp) (a b : Term) (old : Engine) (store : ListBindings) (stack : Vec Ref Global) (ra rb : Ref) (ready : IsReady old) (k : Kept (store_in old.store) (store_in store)) (saved : (ms : List Saved) → KeepsPlaces old.store ms → KeepsPlaces store ms)
    (made : (program : CoreProgram) → old.program.now ≡ program → BothMade program a b (values_in (store_in old.store) old.refs.items old.here.env) (store_in old.store) (store_in store) ra rb) where
  abbrev x : Goal
  x = Compare op a b

  abbrev s : Store
  s = store_in store

  abbrev env : List Value
  env = values_in (store_in old.store) old.refs.items old.here.env

  passed : Bool
  passed = are_in_order op (walk s.state.subst (told s ra)) (walk s.state.subst (told s rb))

  agrees : (g : Game) (n : ℕ) (w : World) (run : Run) (st : TakesAt x old g n w run) → Agrees s (behind x old g n w run st)
  agrees g n w run st =
      let here = (made g.program st.at.inside.program).state in
      let form : cells g.program (terms_held (out-Goal x)) ≡ cells g.program (a ∷ b ∷ []) = ap (cells g.program) (held op a b) in
      record {
        bound = st.at.agrees.bound ∙ ap (λ (t : State). t.subst) (sym here);
        vars = st.at.agrees.vars ∙ ap (λ (t : State). t.vars) (sym here);
        heap = omega (arith, st.at.agrees.heap, form, ap (λ (t : State). t.heap) here);
        trail = omega (arith, st.at.agrees.trail, ap (λ (t : State). t.trail) here);
        since = omega (arith, st.at.agrees.since, ap (λ (t : State). t.since) here, ap (λ (t : State). t.vars) here);
      }

  abbrev work : (g : Game) (n : ℕ) (w : World) (run : Run) → TakesAt x old g n w run → ℕ
  work g n w run st = looked_up (behind x old g n w run st) (value_of g.program env a) + looked_up (behind x old g n w run st) (value_of g.program env b)

  comes : (g : Game) (n : ℕ) (w : World) (run : Run) (st : TakesAt x old g n w run) → After g st.at.inside.lives st.at.ways n (Moves (goes_on_if passed (steps_of old) (behind x old g n w run st) (worked (work g n w run st) (taken_in x old g n w run st)))) run
  unfolding passed
  comes g n w run st =
      let r = behind x old g n w run st in
      let v = taken_in x old g n w run st in
      let m = made g.program st.at.inside.program in
      let same : are_in_order op (walk s.state.subst (told s ra)) (walk s.state.subst (told s rb)) ≡ are_in_order op (walk r.bound (value_of g.program env a)) (walk r.bound (value_of g.program env b)) =
      ap (λ S. are_in_order op (walk S (told s ra)) (walk S (told s rb))) (sym (agrees g n w run st).bound)
      ∙ ap (λ y. are_in_order op (walk r.bound y) (walk r.bound (told s rb))) m.left_is ∙ ap (λ y. are_in_order op (walk r.bound (value_of g.program env a)) (walk r.bound y)) m.right_is in
      subst (λ q. After g st.at.inside.lives st.at.ways n q run)
      (ap (λ f. outcome g f env old.here.tag (steps_of old) r v) (outs-Compare op a b) ∙ ap (λ y. Moves (goes_on_if y (steps_of old) r (worked (work g n w run st) v))) (sym same)) (comes_of x old g n w run st)

  pub compare_passed : true ≡ are_in_order op (walk s.state.subst (told s ra)) (walk s.state.subst (told s rb)) → WentOn (TakesAt x old) old (grown x old store stack ready k saved)
  unfolding passed
  compare_passed is = passed_on x old store stack ready k saved passed agrees work comes (sym is)

  pub compare_failed : false ≡ are_in_order op (walk s.state.subst (told s ra)) (walk s.state.subst (told s rb)) → Leads (TakesAt x old) (FailsAt (grown x old store stack ready k saved))
  unfolding passed
  compare_failed is = not_passed x old store stack ready k saved passed agrees work comes (sym is)
