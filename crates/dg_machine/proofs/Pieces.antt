-- What a goal that prints a value comes to.
use Rattle.std.proofs.Common.{◌≡◌, ℕ, List, [], ◌∷◌, ◌++◌, refl, sym, ap, ◌∙◌, subst, append-nil}
use Rattle.dg_base.specs.declared.program.Term.{Term}
use Rattle.dg_base.specs.declared.run.Ending.TheVariants.{HeapLimit}
use Rattle.dg_base.specs.declared.run.Limits.{Limits}
use Rattle.dg_base.specs.Written.{SinkView, BrokeOff}
use Rattle.dg_meaning.specs.Values.{Value, value_of}
use Rattle.dg_meaning.specs.Cells.{cells}
use Rattle.dg_meaning.specs.Substitutions.{resolved}
use Rattle.dg_meaning.specs.Pieces.{pieces}
use Rattle.dg_meaning.specs.World.{Game, World, Print, Piece, worked}
use Rattle.dg_meaning.specs.Render.{render}
use Rattle.dg_meaning.specs.Moves.{printed, all_printed, whole_looks}
use Rattle.dg_mid.specs.declared.code.Op.{Op}
use Rattle.dg_mid.specs.declared.code.Op.TheVariants as op
use Rattle.dg_mid.specs.declared.code.Action.TheVariants as action
use Rattle.dg_mid.specs.declared.code.Code.{Code}
use Rattle.dg_mid.specs.Actions.{act_at, registers_of, world_of, lasting_in}
use Rattle.dg_mid.specs.State.{Mid, vars_of, Runs as RunsOf, Ended as EndedOf}
use Rattle.dg_mid.specs.Step.{Setting, setting, more, done, does, said_in, followed, keeps_within}
use Rattle.dg_spacing.specs.declared.spacer.Spacer.{Spacer}
use Rattle.dg_texts.specs.Printing.{as_prints, AddsAll, growth_of}
use Rattle.dg_texts.proofs.Texts.{all_prints, text_grows, text_breaks}
use Rattle.dg_spacing.specs.Spacer.{StandsFor}
use Rattle.dg_machine.specs.declared.memory.Memory.{Memory}
use Rattle.dg_machine.specs.Layout.{Holds, Lacks}
use Rattle.dg_machine.specs.inside.Running.{HasText}
use Rattle.dg_machine.proofs.Opens.{fits}
use Rattle.dg_machine.proofs.Leads.{charged_on, charged_off}
use Rattle.dg_machine.proofs.Lasting.{all_lasting}
use Rattle.dg_machine.proofs.Goals.{keeps_none}

-- ## Pieces

-- what is kept behind pieces
all_keep : (ps : List (List ℕ)) (w : World) → (all_printed ps w).meters.keep ≡ w.meters.keep
all_keep [] w = refl
all_keep (p ∷ ps) w = all_keep ps (printed (Piece p) w)

-- ## Text

followed_is : (ps qs : List Print) → followed ps qs ≡ ps ++ qs
followed_is ps [] = sym (append-nil ps)
followed_is ps (q ∷ qs) = refl

pub text_behind : (ps : List (List ℕ)) (s s' : Spacer) (k k' : SinkView) → AddsAll ps s s' k k' → (start : SinkView) (qs : List Print) → HasText s start k qs → HasText s' start k' (followed qs (as_prints ps))
text_behind ps s s' k k' adds start qs text =
    subst (HasText s' start k') (sym (followed_is qs (as_prints ps))) (record { stands = (adds qs text.stands).stands; wrote = text_grows s s' start k k' qs ps text.stands text.wrote adds })

pub text_within : (ps : List (List ℕ)) (s : Spacer) (k k' : SinkView) → ((es : List Print) → StandsFor s es → BrokeOff k k' (growth_of es ps)) → (start : SinkView) (qs : List Print) → HasText s start k qs → BrokeOff start k' (render (followed qs (as_prints ps)))
text_within ps s k k' broke start qs text =
    subst (λ es. BrokeOff start k' (render es)) (sym (followed_is qs (as_prints ps))) (text_breaks s start k k' qs ps text.stands text.wrote broke)

-- ## The goal

module _ (code : Code) (g : Game) (l : Limits) (t : Term) (m : Mid) (new : Memory) where
  abbrev set_v : Setting
  set_v = setting g code l

  abbrev n_v : ℕ
  n_v = cells g.program (t ∷ [])

  abbrev mid_v : Mid
  mid_v = more n_v m

  abbrev value_v : Value
  value_v = value_of g.program (vars_of m.frames) t

  abbrev pub pieces_v : List (List ℕ)
  pieces_v = pieces g.program (resolved m.state.subst value_v)

  abbrev world_v : World
  world_v = worked (whole_looks (registers_of mid_v) value_v) (world_of [] mid_v)

  pub value_done : Holds code l new (more n_v m) → does set_v (op.Do (action.Print t)) m ≡ RunsOf (more n_v m)
  value_done held =
      charged_on set_v n_v m (done set_v (act_at g [] (action.Print t) mid_v) mid_v) (fits code l mid_v new held)
      ∙ ap (λ k. keeps_within set_v k (RunsOf (lasting_in (all_printed pieces_v world_v) mid_v))) (all_keep pieces_v world_v)
      ∙ ap (λ o. keeps_within set_v 0 (RunsOf (record mid_v { lasting = o }))) (all_lasting pieces_v world_v)
      ∙ keeps_none g code l (RunsOf mid_v)

  pub value_said : (rest : List Op) → said_in set_v m (op.Do (action.Print t) ∷ rest) ≡ as_prints pieces_v
  value_said rest = all_prints pieces_v world_v

  pub value_over : (old : Memory) → Holds code l old m → Lacks n_v l m.state.heap new → does set_v (op.Do (action.Print t)) m ≡ EndedOf HeapLimit
  value_over old h over = charged_off set_v n_v m (done set_v (act_at g [] (action.Print t) mid_v) mid_v) (fits code l m old h) over.over
