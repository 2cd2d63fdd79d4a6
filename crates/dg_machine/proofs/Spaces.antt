-- What a goal of spaces comes to.
use Rattle.std.proofs.Common.{◌≡◌, ℕ, List, [], ◌∷◌, Some, None, refl, sym, ap, ◌∙◌, subst}
use Rattle.dg_base.specs.declared.program.Term.{Term}
use Rattle.dg_base.specs.declared.run.Ending.TheVariants.{HeapLimit}
use Rattle.dg_base.specs.declared.run.Limits.{Limits}
use Rattle.dg_meaning.specs.Values.{Value, Num, Word, Unknown, Object, Nil, Pair, Closure, Var, Node, value_of}
use Rattle.dg_meaning.specs.Cells.{cells}
use Rattle.dg_meaning.specs.Substitutions.{walk}
use Rattle.dg_meaning.specs.World.{Game, World, SpacesOf, worked}
use Rattle.dg_meaning.specs.Path.{Goes, Fails as FailsNow}
use Rattle.dg_meaning.specs.Moves.{spaces, printed, looked_up}
use Rattle.dg_mid.specs.declared.code.Op.{Op}
use Rattle.dg_mid.specs.declared.code.Op.TheVariants as op
use Rattle.dg_mid.specs.declared.code.Action.TheVariants as action
use Rattle.dg_mid.specs.declared.code.Code.{Code}
use Rattle.dg_mid.specs.Actions.{act_at, said_by, registers_of, world_of}
use Rattle.dg_mid.specs.State.{Mid, vars_of, Runs as RunsOf, Ended as EndedOf}
use Rattle.dg_mid.specs.Step.{Setting, setting, more, done, does, said_in}
use Rattle.dg_machine.specs.declared.now.Now.TheVariants.{Fails}
use Rattle.dg_machine.specs.declared.memory.Memory.{Memory}
use Rattle.dg_terms.specs.Throwing.{number_in}
use Rattle.dg_machine.specs.Layout.{Holds, Lacks}
use Rattle.dg_machine.specs.Standing.{Stands}
use Rattle.dg_machine.proofs.Opens.{fits}
use Rattle.dg_machine.proofs.Leads.{charged_on, charged_off, charged_led}
use Rattle.dg_machine.proofs.Goals.{keeps_none}

pub spaces_some : (v : Value) (n : ℕ) (w : World) → number_in v ≡ Some n → spaces v [] w ≡ Goes [] (printed (SpacesOf n) w)
spaces_some (Node (Num k) vs) n w e = let same : k ≡ n = cc in ap (λ i. Goes [] (printed (SpacesOf i) w)) same
spaces_some (Node (Word k) vs) n w e = absurd (cc)
spaces_some (Node (Unknown k) vs) n w e = absurd (cc)
spaces_some (Node (Object k) vs) n w e = absurd (cc)
spaces_some (Node Nil vs) n w e = absurd (cc)
spaces_some (Node Pair vs) n w e = absurd (cc)
spaces_some (Node (Closure k) vs) n w e = absurd (cc)
spaces_some (Var x) n w e = absurd (cc)

pub spaces_none : (v : Value) (w : World) → number_in v ≡ None → spaces v [] w ≡ FailsNow w
spaces_none (Node (Num k) vs) w e = absurd (cc)
spaces_none (Node (Word k) vs) w e = refl
spaces_none (Node (Unknown k) vs) w e = refl
spaces_none (Node (Object k) vs) w e = refl
spaces_none (Node Nil vs) w e = refl
spaces_none (Node Pair vs) w e = refl
spaces_none (Node (Closure k) vs) w e = refl
spaces_none (Var x) w e = refl

module _ (code : Code) (g : Game) (l : Limits) (t : Term) (m : Mid) (new : Memory) where
  abbrev set_s : Setting
  set_s = setting g code l

  abbrev n_s : ℕ
  n_s = cells g.program (t ∷ [])

  abbrev v_s : Value
  v_s = walk m.state.subst (value_of g.program (vars_of m.frames) t)

  -- as many spaces as the value says
  module _ (held : Holds code l new (more n_s m)) (count : ℕ) (is : Some count ≡ number_in v_s) where
    abbrev world_s : World
    world_s = worked (looked_up (registers_of (more n_s m)) (value_of g.program (vars_of m.frames) t)) (world_of [] (more n_s m))

    act_is : act_at g [] (action.GapN t) (more n_s m) ≡ Goes [] (printed (SpacesOf count) world_s)
    act_is = spaces_some v_s count world_s (sym is)

    pub spaces_done : does set_s (op.Do (action.GapN t)) m ≡ RunsOf (more n_s m)
    spaces_done =
        charged_on set_s n_s m (done set_s (act_at g [] (action.GapN t) (more n_s m)) (more n_s m)) (fits code l (more n_s m) new held)
        ∙ ap (λ a. done set_s a (more n_s m)) act_is ∙ keeps_none g code l (RunsOf (more n_s m))

    pub spaces_said : (rest : List Op) → said_in set_s m (op.Do (action.GapN t) ∷ rest) ≡ SpacesOf count ∷ []
    spaces_said rest = ap said_by act_is

  -- and it fails where that is no number
  pub spaces_fail : (old : Memory) (rest : List Op) → Holds code l new (more n_s m) → None ≡ number_in v_s → Stands code l new Fails (does set_s (op.Do (action.GapN t)) m)
  spaces_fail old rest held is =
      let world = worked (looked_up (registers_of (more n_s m)) (value_of g.program (vars_of m.frames) t)) (world_of [] (more n_s m)) in
      charged_led code g l n_s m (more n_s m) (done set_s (act_at g [] (action.GapN t) (more n_s m)) (more n_s m)) new new Fails held refl
      (subst (λ a. Stands code l new Fails (done set_s a (more n_s m))) (sym (spaces_none v_s world (sym is))) held)

  pub silent_spaces : (rest : List Op) → None ≡ number_in v_s → said_in set_s m (op.Do (action.GapN t) ∷ rest) ≡ []
  silent_spaces rest is = ap said_by (spaces_none v_s (worked (looked_up (registers_of (more n_s m)) (value_of g.program (vars_of m.frames) t)) (world_of [] (more n_s m))) (sym is))

  pub spaces_over : (old : Memory) → Holds code l old m → Lacks n_s l m.state.heap new → does set_s (op.Do (action.GapN t)) m ≡ EndedOf HeapLimit
  spaces_over old h over = charged_off set_s n_s m (done set_s (act_at g [] (action.GapN t) (more n_s m)) (more n_s m)) (fits code l m old h) over.over
