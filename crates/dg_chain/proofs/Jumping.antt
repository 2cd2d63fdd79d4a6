-- Code that only goes on, that stops, and that ends the run.
use Rattle.std.proofs.Common.{◌≡◌, ℕ, List, [], ◌∷◌, ◌++◌, Option, Some, None, refl, sym, ap, ◌∙◌, subst, arith}
use Rattle.dg_base.specs.declared.run.Ending.TheVariants as ending
use Rattle.dg_meaning.specs.World.{Print}
use Rattle.dg_mid.specs.declared.code.Action.TheVariants as action
use Rattle.dg_mid.specs.declared.code.Code.{Code}
use Rattle.dg_mid.specs.declared.code.Op.{Op}
use Rattle.dg_mid.specs.declared.code.Op.TheVariants as op
use Rattle.dg_mid.specs.Actions.{world_of, lasting_in}
use Rattle.dg_mid.specs.Code.{block_at}
use Rattle.dg_mid.specs.Heights.{StopsNamed}
use Rattle.dg_mid.specs.State.{Stop, Mid, Runs, Fails, Ended, stop_to}
use Rattle.dg_mid.specs.Step.{Setting, more, passed, stops, stops_at, stopped}
use Rattle.z_model.specs.Run.{ZState}
use Rattle.dg_rt.specs.declared.numbers.TheConstants.{DONE, FAIL, UNSTOP}
use Rattle.dg_rt.specs.Areas.{stop_reg}
use Rattle.dg_turn.specs.Told.{Telling}
use Rattle.dg_turn.specs.Lies.{NamesStop, StopNamed}
use Rattle.dg_turn.specs.Plays.{Playing, Represented}
use Rattle.dg_turn.specs.Paid.{paid}
use Rattle.dg_turn.specs.Turns.{goto_routine}
use Rattle.dg_turn.proofs.OnceTurn.{goto_turns}
use Rattle.dg_turn.proofs.Paid.{turns_are_paid}
use Rattle.dg_turn.proofs.StopTurn.{stop_found, stop_turns, done_turns}
use Rattle.dg_chain.specs.Always.{Always}
use Rattle.dg_chain.specs.Routines.{GoesOn, Jumps, FailsAt, OpsAt, BlocksAt}
use Rattle.dg_chain.specs.Stands.{Stands}
use Rattle.dg_chain.specs.Whole.{OpLeads, story_setting}
use Rattle.dg_chain.proofs.Leading.{more_none, Lead, led_runs, led_fails, finishes, at_op, silently, a_unit}

module _ (t : Telling) (plays : Playing t) (code : Code) (blocks : BlocksAt t code) (dice : List ℕ) where
  abbrev set : Setting
  set = story_setting t code dice

  abbrev cost : List Print → Mid → ℕ
  cost ps m = paid set ps (Runs m)

  pub take_leads : OpLeads t code dice op.Take
  take_leads ps m rest z e always s =
      let o : GoesOn (λ y. OpsAt t code y rest) t s.at.x goto_routine = at_op t code dice ps m rest z op.Take e s in
      let unit = a_unit t code dice ps m in
      silently t code dice ps m rest z op.Take e (Runs (passed (record m { ops = rest }))) (cost ps m) refl
      (led_runs t code dice 1 (omega arith) ps s.printed (t.p.names.routine o.behind) m (passed (record m { ops = rest })) 3 (cost ps m) z refl o.next (omega arith) (goto_turns t plays s.printed.out s.at.x o.behind m z o.is s.at.rep))

  pub goto_leads : (b : ℕ) → OpLeads t code dice (op.Goto b)
  goto_leads b ps m rest z e always s =
      let o : Jumps t s.at.x b = at_op t code dice ps m rest z (op.Goto b) e s in
      let ops : OpsAt t code (t.p.names.routine o.next) (block_at code b) = subst (λ (y : ℕ). OpsAt t code y (block_at code b)) (sym o.next_is) (blocks.each b) in
      let unit = a_unit t code dice ps m in
      silently t code dice ps m rest z (op.Goto b) e (Runs (record m { ops = block_at code b })) (cost ps m) refl
      (led_runs t code dice 1 (omega arith) ps s.printed (t.p.names.routine o.next) m (record m { ops = block_at code b }) 3 (cost ps m) z refl ops (omega arith) (goto_turns t plays s.printed.out s.at.x o.next m z o.is s.at.rep))

  pub back_leads : OpLeads t code dice op.Back
  back_leads ps m rest z e always s =
      let there : FailsAt t s.at.x = at_op t code dice ps m rest z op.Back e s in
      let unit = a_unit t code dice ps m in
      silently t code dice ps m rest z op.Back e (Fails (record m { ops = rest })) (cost ps m) refl
      (led_fails t code dice 1 (omega arith) ps s.printed m (record m { ops = rest }) 3 (cost ps m) z refl (omega arith) (goto_turns t plays s.printed.out s.at.x FAIL m z there s.at.rep))

  pub fail_leads : OpLeads t code dice (op.Do action.Fail)
  fail_leads ps m rest z e always s =
      let there : FailsAt t s.at.x = at_op t code dice ps m rest z (op.Do action.Fail) e s in
      let unit = a_unit t code dice ps m in
      let m' = record m { ops = rest } in
      silently t code dice ps m rest z (op.Do action.Fail) e (Fails (lasting_in (world_of [] (more 0 m')) (more 0 m'))) (cost ps m) refl
      (led_fails t code dice 1 (omega arith) ps s.printed m (lasting_in (world_of [] (more 0 m')) (more 0 m')) 3 (cost ps m) z (ap (λ (k : Mid). record (lasting_in (world_of [] k) k) { frames = m.frames; inner = m.inner }) (more_none m')) (omega arith)
      (goto_turns t plays s.printed.out s.at.x FAIL m z there s.at.rep))

  -- ## Stopping

  -- the part that a register names is one of those that are open
  stop_known : (m : Mid) (tag word : ℕ) → Always code (Runs m) → (n : NamesStop word tag m.stops) → stop_to tag m.stops ≡ Some (n.part, n.around)
  stop_known m tag word always n =
      let named : StopsNamed m.next_tag m.state.heap m.choices (n.within ++ n.part ∷ n.around) = subst (StopsNamed m.next_tag m.state.heap m.choices) n.is always.ordered.named.stops_are in
      ap (λ (i : ℕ). stop_to i m.stops) n.tag_is ∙ ap (stop_to n.part.place.tag) n.is ∙ stop_found m.next_tag m.state.heap m.choices n.within n.part n.around named

  stops_by : (ps : List Print) (m : Mid) (rest : List Op) (z : ZState) → m.ops ≡ op.Do action.Stop ∷ rest → Always code (Runs m) → (s : Stands t code ps (Runs m) z) → Represented t s.printed.out (t.p.names.routine UNSTOP) m z → (u : Option ℕ) → m.stop ≡ u → Lead t code dice 1 ps (stops set u (more 0 (record m { ops = rest }))) (cost ps m) z
  stops_by ps m rest z e always s r None i =
      let unit = a_unit t code dice ps m in
      finishes t code dice 1 (omega arith) ps s.printed ending.Stopped 30 (cost ps m) z (λ q. (cc)) (omega arith) (stop_turns.ends t plays s.printed.out m z i r)
  stops_by ps m rest z e always s r (Some tag) i =
      let n : NamesStop (r.cells stop_reg) tag m.stops = subst (λ (o : Option ℕ). StopNamed (r.cells stop_reg) o m.stops) i r.mid.stop in
      let found = stop_known m tag (r.cells stop_reg) always n in
      let m' = more 0 (record m { ops = rest }) in
      let fits = turns_are_paid.stop set ps m rest e in
      subst (λ (o : Option (Stop × List Stop)). Lead t code dice 1 ps (stops_at set o m') (cost ps m) z) (sym found)
      (led_runs t code dice 1 (omega arith) ps s.printed (t.at_block n.part.block) (stopped set n.part n.around m) (stopped set n.part n.around m') _ (cost ps m) z refl (blocks.each n.part.block) (omega arith)
      (stop_turns.stops set t plays s.printed.out m tag n.part n.around z i found always.ordered always.trailed r))

  pub stop_leads : OpLeads t code dice (op.Do action.Stop)
  stop_leads ps m rest z e always s =
      let x_is : s.at.x ≡ t.p.names.routine UNSTOP = at_op t code dice ps m rest z (op.Do action.Stop) e s in
      let r : Represented t s.printed.out (t.p.names.routine UNSTOP) m z = subst (λ (y : ℕ). Represented t s.printed.out y m z) x_is s.at.rep in
      silently t code dice ps m rest z (op.Do action.Stop) e _ (cost ps m) refl (stops_by ps m rest z e always s r m.stop refl)

  -- ## The end

  pub done_leads : OpLeads t code dice op.Done
  done_leads ps m rest z e always s =
      let there : t.p.routine_at s.at.x ≡ Some (goto_routine DONE) = at_op t code dice ps m rest z op.Done e s in
      let unit = a_unit t code dice ps m in
      silently t code dice ps m rest z op.Done e (Ended ending.Done) (cost ps m) refl (finishes t code dice 1 (omega arith) ps s.printed ending.Done 30 (cost ps m) z (λ q. (cc)) (omega arith) (done_turns t plays s.printed.out s.at.x m z there s.at.rep))
