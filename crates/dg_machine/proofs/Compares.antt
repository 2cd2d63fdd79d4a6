-- What a comparison and a calculation come to.
use Rattle.std.proofs.Common.{◌≡◌, ℕ, List, [], ◌∷◌, Bool, true, false, Option, Some, None, refl, sym, ap, ◌∙◌, subst}
use Rattle.std.specs.Borrow.{Bor}
use Rattle.dg_base.specs.declared.run.Ending.TheVariants.{HeapLimit}
use Rattle.dg_base.specs.declared.run.Limits.{Limits}
use Rattle.dg_meaning.specs.Values.{Value, Num, leaf}
use Rattle.dg_meaning.specs.Cells.{cells}
use Rattle.dg_meaning.specs.inside.Unify.{unify}
use Rattle.dg_meaning.specs.Moves.{gives_number}
use Rattle.dg_meaning.specs.World.{Game, World}
use Rattle.dg_mid.specs.declared.code.Op.{Op}
use Rattle.dg_mid.specs.declared.code.Op.TheVariants as op
use Rattle.dg_mid.specs.declared.code.Action.{Action}
use Rattle.dg_mid.specs.declared.code.Code.{Code}
use Rattle.dg_mid.specs.Actions.{terms_of, act_at, registers_of}
use Rattle.dg_mid.specs.Reads.{lasting_of}
use Rattle.dg_mid.specs.State.{Mid, Runs as RunsOf, Fails as FailsOf}
use Rattle.dg_mid.specs.Step.{Setting, setting, more, bound, done, does, if_passed, unified}
use Rattle.dg_machine.specs.declared.now.Now.{Now}
use Rattle.dg_machine.specs.declared.now.Now.TheVariants.{Runs, Fails, Ended}
use Rattle.dg_machine.specs.declared.memory.Memory.{Memory}
use Rattle.dg_machine.specs.Layout.{Holds, Lacks}
use Rattle.dg_machine.specs.Standing.{CodeIs, Stands}
use Rattle.dg_machine.proofs.Leads.{charged_led, full_stands}
use Rattle.dg_machine.proofs.Unifying.{done_unifies}

-- what is calculated is unified
module _ (g : Setting) (w : Value) (m : Mid) (world : World) (is : lasting_of world ≡ m.lasting) where
  pub gives_none : (o : Option ℕ) → None ≡ o → done g (gives_number o w (registers_of m) world) m ≡ FailsOf m
  gives_none o e = ap (λ x. done g (gives_number x w (registers_of m) world) m) (sym e) ∙ ap (λ o. FailsOf (record m { lasting = o })) is

  pub gives_some : (o : Option ℕ) (n : ℕ) → Some n ≡ o → done g (gives_number o w (registers_of m) world) m ≡ unified g (unify m.state.subst w (leaf (Num n))) m (RunsOf (bound (unify m.state.subst w (leaf (Num n))) m))
  gives_some o n e = ap (λ x. done g (gives_number x w (registers_of m) world) m) (sym e) ∙ done_unifies g ((w, leaf (Num n)) ∷ []) m world is

-- an action is done behind its cells
module _ (code : Code) (g : Game) (l : Limits) (a : Action) (m : Mid) where
  abbrev set_m : Setting
  set_m = setting g code l

  abbrev n_m : ℕ
  n_m = cells g.program (terms_of a)

  pub act_full : (old new : Memory) → Holds code l old m → Lacks n_m l m.state.heap new → Stands code l new (Ended HeapLimit) (does set_m (op.Do a) m)
  act_full old new h over = full_stands code g l n_m m (done set_m (act_at g [] a (more n_m m)) (more n_m m)) old new h over

  pub act_led : (mid new : Memory) (now : Now) → Holds code l mid (more n_m m) → Stands code l new now (done set_m (act_at g [] a (more n_m m)) (more n_m m)) → Stands code l new now (does set_m (op.Do a) m)
  act_led mid new now held stands = charged_led code g l n_m m (more n_m m) (done set_m (act_at g [] a (more n_m m)) (more n_m m)) mid new now held refl stands

-- it goes on where a test is passed
pub passed_on : (code : Code) (l : Limits) (m : Mid) (r : Memory) (rest : Bor (List Op)) (b : Bool) → true ≡ b → CodeIs rest.now m → Holds code l r m → Stands code l r (Runs rest) (if_passed b m)
passed_on code l m r rest b e at h = subst (λ x. Stands code l r (Runs rest) (if_passed x m)) e (at, h)

pub passed_not : (code : Code) (l : Limits) (m : Mid) (r : Memory) (b : Bool) → false ≡ b → Holds code l r m → Stands code l r Fails (if_passed b m)
passed_not code l m r b e h = subst (λ x. Stands code l r Fails (if_passed x m)) e h
