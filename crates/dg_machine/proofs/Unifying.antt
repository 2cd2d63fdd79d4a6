-- What a unification leads to that is done at once.
use Rattle.std.proofs.Common.{◌≡◌, ◌+◌, ◌-◌, List, [], ◌∷◌, Bool, true, false, refl, sym, ap, ◌∙◌, subst, arith}
use Rattle.std.specs.Borrow.{Bor}
use Rattle.dg_base.specs.declared.program.Term.{Term}
use Rattle.dg_base.specs.declared.run.Limits.{Limits}
use Rattle.dg_base.specs.declared.run.Ending.TheVariants.{TrailLimit}
use Rattle.dg_meaning.specs.Values.{value_of}
use Rattle.dg_meaning.specs.Unify.{Equations, Unified, solve}
use Rattle.dg_meaning.specs.inside.Unify.{unify}
use Rattle.dg_meaning.specs.World.{Game, World}
use Rattle.dg_meaning.specs.Path.{Unifies}
use Rattle.dg_mid.specs.declared.code.Op.{Op}
use Rattle.dg_mid.specs.declared.code.Action.TheVariants as action
use Rattle.dg_mid.specs.declared.code.Code.{Code}
use Rattle.dg_mid.specs.Actions.{registers_of, world_of, act_at}
use Rattle.dg_mid.specs.Reads.{lasting_of}
use Rattle.dg_mid.specs.State.{Lasting as LastingOf, Mid, Runs as RunsOf, vars_of}
use Rattle.dg_mid.specs.Step.{Setting, setting, charged, bound, unified, if_agreed, made_in, done}
use Rattle.dg_machine.specs.declared.now.Now.TheVariants.{Runs, Fails, Ended}
use Rattle.dg_machine.specs.declared.memory.Memory.{Memory}
use Rattle.dg_machine.specs.Layout.{Matched, Unmatched}
use Rattle.dg_machine.specs.Standing.{CodeIs, Stands}
use Rattle.dg_machine.proofs.Leaving.{unified_on, unified_off}

-- values that are at hand are unified, and no cell is taken, where what lasts became so
pub done_unifies_in : (g : Setting) (es : Equations) (m : Mid) (o : LastingOf) (w : World) → lasting_of w ≡ o → let m' = record m { lasting = o } in done g (Unifies (registers_of m) es w) m ≡ unified g (solve m.state.subst es) m' (RunsOf (bound (solve m.state.subst es) m'))
done_unifies_in g es m o w e =
    let none : m.state.heap - m.state.heap ≡ 0 = omega arith in
    let same : m.state.heap + 0 ≡ m.state.heap = omega arith in
    let u = solve m.state.subst es in
    let m' = record m { lasting = o } in
    ap (λ x. charged g (m.state.heap - m.state.heap) m (unified g u (made_in (registers_of m) (record m { lasting = x })) (RunsOf (bound u (made_in (registers_of m) (record m { lasting = x })))))) e
    ∙ ap (λ k. charged g k m (unified g u (record m' { state = record m.state { heap = m.state.heap + k } }) (RunsOf (bound u (record m' { state = record m.state { heap = m.state.heap + k } }))))) none
    ∙ ap (λ k. unified g u (record m' { state = record m.state { heap = k } }) (RunsOf (bound u (record m' { state = record m.state { heap = k } })))) same

-- the same where that is as it was
pub done_unifies : (g : Setting) (es : Equations) (m : Mid) (w : World) → lasting_of w ≡ m.lasting → done g (Unifies (registers_of m) es w) m ≡ unified g (solve m.state.subst es) m (RunsOf (bound (solve m.state.subst es) m))
done_unifies g es m w e = done_unifies_in g es m m.lasting w e

module _ (code : Code) (g : Game) (l : Limits) (u : Unified) (m : Mid) (new : Memory) where
  abbrev set_u : Setting
  set_u = setting g code l

  pub agreed_stands : (rest : Bor (List Op)) (b : Bool) → b ≡ true → CodeIs rest.now m → Matched code l u m new b → Stands code l new (Runs rest) (unified set_u u m (RunsOf (bound u m)))
  agreed_stands rest b e at x =
      subst (Stands code l new (Runs rest)) (sym (unified_on set_u u m (RunsOf (bound u m)) x.fits ∙ ap (λ a. if_agreed a (bound u m) (RunsOf (bound u m))) (sym x.agrees ∙ e))) (at, x.held)

  pub clash_stands : (b : Bool) → b ≡ false → Matched code l u m new b → Stands code l new Fails (unified set_u u m (RunsOf (bound u m)))
  clash_stands b e x = subst (Stands code l new Fails) (sym (unified_on set_u u m (RunsOf (bound u m)) x.fits ∙ ap (λ a. if_agreed a (bound u m) (RunsOf (bound u m))) (sym x.agrees ∙ e))) x.held

  pub unmatched_stands : Unmatched l u m new → Stands code l new (Ended TrailLimit) (unified set_u u m (RunsOf (bound u m)))
  unmatched_stands x = subst (Stands code l new (Ended TrailLimit)) (sym (unified_off set_u u m (RunsOf (bound u m)) x.over)) (refl, x.roomy)

-- an equation, behind its cells
pub equal_is : (g : Game) (set : Setting) (a b : Term) (m : Mid) → let u = unify m.state.subst (value_of g.program (vars_of m.frames) a) (value_of g.program (vars_of m.frames) b) in
    done set (act_at g [] (action.Equal a b) m) m ≡ unified set u m (RunsOf (bound u m))
equal_is g set a b m = done_unifies set ((value_of g.program (vars_of m.frames) a, value_of g.program (vars_of m.frames) b) ∷ []) m (world_of [] m) refl
