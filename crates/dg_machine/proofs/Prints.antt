-- What an action comes to that has taken cells, and goes on with what it prints.
use Rattle.std.proofs.Common.{◌≡◌, ℕ, List, [], ◌∷◌, refl, sym, ap, ◌∙◌, subst}
use Rattle.std.specs.Borrow.{Bor}
use Rattle.dg_base.specs.declared.run.Limits.{Limits}
use Rattle.dg_base.specs.Written.{SinkView, BrokeOff}
use Rattle.dg_meaning.specs.World.{Game, Print}
use Rattle.dg_meaning.specs.Render.{render}
use Rattle.dg_mid.specs.declared.code.Op.{Op}
use Rattle.dg_mid.specs.declared.code.Op.TheVariants as op
use Rattle.dg_mid.specs.declared.code.Action.{Action}
use Rattle.dg_mid.specs.declared.code.Code.{Code}
use Rattle.dg_mid.specs.State.{Mid, Runs as RunsOf}
use Rattle.dg_mid.specs.Step.{Setting, setting, more, does, runs, step, said, said_in, said_to, followed}
use Rattle.dg_lasting.specs.declared.lasting.Lasting.{Lasting}
use Rattle.dg_spacing.specs.declared.spacer.Spacer.{Spacer}
use Rattle.dg_machine.specs.declared.now.Now.TheVariants.{Runs}
use Rattle.dg_machine.specs.declared.memory.Memory.{Memory}
use Rattle.dg_machine.specs.Built.{OpsBuilt}
use Rattle.dg_machine.specs.Layout.{Holds}
use Rattle.dg_machine.specs.Standing.{CodeIs, Stands, Around, HasLasting}
use Rattle.dg_machine.specs.inside.Running.{HasText, GoalDone, GoalLost}

said_runs : (ps : List Print) (m : Mid) → said_to ps (RunsOf m) ≡ ps
said_runs [] m = refl
said_runs (p ∷ ps) m = refl

module _ (code : Code) (g : Game) (l : Limits) (m : Mid) (r : Memory) (n : ℕ) (ops : List Op) (a : Action) (qs : List Print) (rest : Bor (List Op)) (split : ops ≡ op.Do a ∷ rest.now) (at : CodeIs ops m) (h : Holds code l r (more n m))
    (done_is : does (setting g code l) (op.Do a) (record m { ops = rest.now }) ≡ RunsOf (more n (record m { ops = rest.now }))) (said_is : said_in (setting g code l) m (op.Do a ∷ rest.now) ≡ qs) where
  abbrev set_p : Setting
  set_p = setting g code l

  abbrev behind_p : Mid
  behind_p = more n (record m { ops = rest.now })

  first_is : m.ops ≡ op.Do a ∷ rest.now
  first_is = at.0 ∙ split

  step_is : step set_p (RunsOf m) ≡ RunsOf behind_p
  step_is = ap (λ xs. runs set_p xs m) first_is ∙ done_is

  says : said set_p (RunsOf m) ≡ qs
  says = ap (λ s. said_to (said_in set_p m m.ops) s) step_is ∙ ap (λ ps. said_to ps (RunsOf behind_p)) (ap (said_in set_p m) first_is ∙ said_is) ∙ said_runs qs behind_p

  pub said_done : (s s' : Spacer) (k k' : SinkView) (out : Lasting) → Around out g l m → ((start : SinkView) (ps : List Print) → HasText s start k ps → HasText s' start k' (followed ps qs)) → GoalDone code g l r out (Runs rest) s s' k k' m
  said_done s s' k k' out w wrote =
      let built : OpsBuilt (op.Do a ∷ rest.now) = subst OpsBuilt split at.1 in
      record {
        stands = subst (Stands code l r (Runs rest)) (sym step_is) ((refl, built.1), h);
        lasting = subst (HasLasting out g l) (sym step_is) w;
        writes = λ start ps text. subst (λ xs. HasText s' start k' (followed ps xs)) (sym says) (wrote start ps text);
      }

  pub said_lost : (k k' : SinkView) (start : SinkView) (ps : List Print) → BrokeOff start k' (render (followed ps qs)) → GoalLost g code l k k' m start ps
  said_lost k k' start ps broke = record { behind = behind_p; goes = step_is; broke = subst (λ xs. BrokeOff start k' (render (followed ps xs))) (sym says) broke }
