-- A rule that cuts, or is answered, leads on.
use Rattle.std.proofs.Common.{◌≡◌, ℕ, ◌+◌, ◌*◌, ◌≤◌, Bool, true, false, List, [], ◌∷◌, refl, ap, ◌∙◌, subst, arith}
use Rattle.dg_meaning.specs.World.{Print}
use Rattle.dg_mid.specs.declared.code.Code.{Code}
use Rattle.dg_mid.specs.declared.code.Op.{Op}
use Rattle.dg_mid.specs.declared.code.Op.TheVariants as op
use Rattle.dg_mid.specs.declared.code.Action.TheVariants as action
use Rattle.dg_mid.specs.State.{Place, Frame, Mid, Runs, cut_of}
use Rattle.dg_mid.specs.Step.{Setting, more, cut_to, returned, returns}
use Rattle.dg_mid.specs.Units.{units_of, dropped}
use Rattle.dg_mid.specs.Heights.{FramesNamed}
use Rattle.z_model.specs.Run.{ZState}
use Rattle.dg_rt.specs.declared.numbers.TheConstants.{LEAVE}
use Rattle.dg_turn.specs.Told.{Telling}
use Rattle.dg_turn.specs.Plays.{Playing, Represented, Comes as ComesTo}
use Rattle.dg_turn.specs.Paid.{paid}
use Rattle.dg_turn.specs.Leaving.{just_routine}
use Rattle.dg_turn.proofs.ReturnTurn.{just_turns, return_turns}
use Rattle.dg_turn.proofs.StopTurn.{no_rule_turns}
use Rattle.dg_turn.proofs.Paid.{turns_are_paid}
use Rattle.dg_chain.specs.Always.{IsSome, StandsIn, Always}
use Rattle.dg_chain.specs.Steps.{Comes}
use Rattle.dg_chain.specs.Routines.{GoesOn, OpsAt, BlocksAt}
use Rattle.dg_chain.specs.Stands.{Printed, Stands}
use Rattle.dg_chain.specs.Whole.{OpLeads, story_setting}
use Rattle.dg_chain.proofs.Leading.{more_none, Lead, led_runs, led_fails, at_op, silently, a_unit}

module _ (t : Telling) (plays : Playing t) (code : Code) (blocks : BlocksAt t code) (dice : List ℕ) where
  abbrev set : Setting
  set = story_setting t code dice

  abbrev cost : List Print → Mid → ℕ
  cost ps m = paid set ps (Runs m)

  -- ## (just)

  just_by : (ps : List Print) (m : Mid) (rest : List Op) (z : ZState) → m.ops ≡ op.Do action.Just ∷ rest → Always code (Runs m) → Stands t code ps (Runs m) z → (frames : List Frame) → m.frames ≡ frames → IsSome frames →
      Comes t.p.world (Stands t code) 1 ps (Runs (cut_to (cut_of m.frames) (more 0 (record m { ops = rest })))) (cost ps m) z
  just_by ps m rest z e always s [] i some = absurd some
  just_by ps m rest z e always s (f ∷ fs) i some =
      let o : GoesOn (λ y. OpsAt t code y rest) t s.at.x just_routine = at_op t code dice ps m rest z (op.Do action.Just) e s in
      let names : FramesNamed m.next_tag m.state.heap m.choices (f ∷ fs) = subst (FramesNamed m.next_tag m.state.heap m.choices) i always.ordered.named.frames_are in
      let m0 = record m { ops = rest } in
      let cut : cut_of m.frames ≡ f.cut = ap cut_of i in
      let k = ap (λ (l : List Op). units_of set ps l m) e in
      let d : dropped (cut_of m.frames) m.choices ≡ dropped f.cut m.choices = ap (λ (p : Place). dropped p m.choices) cut in
      led_runs t code dice 1 (omega arith) ps s.printed (t.p.names.routine o.behind) (cut_to f.cut m) (cut_to (cut_of m.frames) (more 0 m0)) (4 * dropped f.cut m.choices + 10) (cost ps m) z
      (ap (λ (p : Place). cut_to p (more 0 m0)) cut ∙ ap (cut_to f.cut) (more_none m0)) o.next (omega arith) (just_turns t plays s.printed.out s.at.x o.behind m f fs z o.is i names.0 s.at.rep)

  pub just_leads : OpLeads t code dice (op.Do action.Just)
  just_leads ps m rest z e always s =
      let stands : StandsIn (op.Do action.Just ∷ rest) m.frames = subst (λ (l : List Op). StandsIn l m.frames) e always.stands in
      silently t code dice ps m rest z (op.Do action.Just) e (Runs (cut_to (cut_of m.frames) (more 0 (record m { ops = rest })))) (cost ps m) refl (just_by ps m rest z e always s m.frames refl stands)

  -- ## Answers

  returned_leads : (ps : List Print) (m : Mid) (w : Printed t ps m.lasting) (rest : List Op) (f : Frame) (fs : List Frame) (b : Bool) (most all : ℕ) (z : ZState) → most ≤ all → ComesTo t w.out (t.at_block f.next) (returned set b f fs m) most z →
      Comes t.p.world (Stands t code) 1 ps (Runs (returned set b f fs (record m { ops = rest }))) all z
  returned_leads ps m w rest f fs true most all z le k = led_runs t code dice 1 (omega arith) ps w (t.at_block f.next) (returned set true f fs m) (returned set true f fs (record m { ops = rest })) most all z refl (blocks.each f.next) le k
  returned_leads ps m w rest f fs false most all z le k = led_runs t code dice 1 (omega arith) ps w (t.at_block f.next) (returned set false f fs m) (returned set false f fs (record m { ops = rest })) most all z refl (blocks.each f.next) le k

  return_by : (ps : List Print) (m : Mid) (w : Printed t ps m.lasting) (rest : List Op) (z : ZState) → m.ops ≡ op.Return ∷ rest → Always code (Runs m) → Represented t w.out (t.p.names.routine LEAVE) m z → (frames : List Frame) → m.frames ≡ frames → Lead t code dice 1 ps (returns set frames (record m { ops = rest })) (cost ps m) z
  return_by ps m w rest z e always r [] i =
      let unit = a_unit t code dice ps m in
      led_fails t code dice 1 (omega arith) ps w m (record m { ops = rest }) 4 (cost ps m) z refl (omega arith) (no_rule_turns t plays w.out m z i r)
  return_by ps m w rest z e always r (f ∷ fs) i =
      let names : FramesNamed m.next_tag m.state.heap m.choices (f ∷ fs) = subst (FramesNamed m.next_tag m.state.heap m.choices) i always.ordered.named.frames_are in
      returned_leads ps m w rest f fs f.many _ (cost ps m) z (turns_are_paid.returned set ps m rest e) (return_turns set t plays w.out m f fs z i names.0 r)

  pub return_leads : OpLeads t code dice op.Return
  return_leads ps m rest z e always s =
      let x_is : s.at.x ≡ t.p.names.routine LEAVE = at_op t code dice ps m rest z op.Return e s in
      silently t code dice ps m rest z op.Return e _ (cost ps m) refl
      (return_by ps m s.printed rest z e always (subst (λ (y : ℕ). Represented t s.printed.out y m z) x_is s.at.rep) m.frames refl)
