-- Choices of blocks, inner constructs and stoppable parts lead on.
use Rattle.std.proofs.Common.{◌≡◌, ℕ, List, [], ◌∷◌, Some, refl, subst, arith}
use Rattle.dg_meaning.specs.World.{Print}
use Rattle.dg_mid.specs.declared.code.Code.{Code}
use Rattle.dg_mid.specs.declared.code.Op.{Op}
use Rattle.dg_mid.specs.declared.code.Op.TheVariants as op
use Rattle.dg_mid.specs.State.{Place, Goes, Mid, Runs, place_of}
use Rattle.dg_mid.specs.Step.{Setting, more, passed, inside, within, shielded, cut_to, commits, refuses, leaves}
use Rattle.dg_mid.specs.Heights.{AgreeAll, PlacesNamed}
use Rattle.z_lang.specs.declared.act.Routine.{Routine}
use Rattle.z_model.specs.Run.{ZState}
use Rattle.dg_rt.specs.declared.numbers.TheConstants.{FAIL}
use Rattle.dg_turn.specs.Told.{Telling}
use Rattle.dg_turn.specs.Plays.{Playing}
use Rattle.dg_turn.specs.Paid.{paid}
use Rattle.dg_turn.specs.Turns.{commit_routine}
use Rattle.dg_turn.specs.Choices.{branch_routine, try_routine, once_routine, OpensAt}
use Rattle.dg_turn.specs.Stopping.{shield_routine, leave_routine}
use Rattle.dg_turn.proofs.BranchTurn.{branch_turns}
use Rattle.dg_turn.proofs.ShieldTurn.{shield_turns}
use Rattle.dg_turn.proofs.OnceTurn.{once_turns}
use Rattle.dg_turn.proofs.CommitTurn.{commit_turns, refuse_turns, leave_turns}
use Rattle.dg_turn.proofs.Paid.{turns_are_paid}
use Rattle.dg_chain.specs.Always.{IsSome, StandsInside, Always}
use Rattle.dg_chain.specs.Routines.{GoesOn, Opens, OpsAt}
use Rattle.dg_chain.specs.Stands.{Stands}
use Rattle.dg_chain.specs.Whole.{OpLeads, story_setting}
use Rattle.dg_chain.proofs.Leading.{Lead, led_runs, led_fails, ten_leads, at_op, silently, a_unit}

module _ (t : Telling) (plays : Playing t) (code : Code) (dice : List ℕ) where
  abbrev set : Setting
  set = story_setting t code dice

  abbrev cost : List Print → Mid → ℕ
  cost ps m = paid set ps (Runs m)

  -- in front of a routine that opens
  opening : (ps : List Print) (m : Mid) (z : ZState) (rest : List Op) (routine : ℕ → ℕ → Routine) (alt : ℕ) (s : Stands t code ps (Runs m) z) → (o : Opens (λ y. OpsAt t code y rest) t s.at.x routine alt) → OpensAt t s.printed.out routine alt o.goes.behind m z
  opening ps m z rest routine alt s o = record { x = s.at.x; alt = o.alt; rep = s.at.rep; there = o.goes.is; alt_is = o.alt_is }

  pub branch_leads : (alt : ℕ) → OpLeads t code dice (op.Branch alt)
  branch_leads alt ps m rest z e always s =
      let out = s.printed.out in
      let o : Opens (λ y. OpsAt t code y rest) t s.at.x branch_routine alt = at_op t code dice ps m rest z (op.Branch alt) e s in
      let at = opening ps m z rest branch_routine alt s o in
      let m' = record m { ops = rest } in
      let unit = a_unit t code dice ps m in
      silently t code dice ps m rest z (op.Branch alt) e _ (cost ps m) refl
      (ten_leads t code dice 1 (omega arith) ps s.printed (t.p.names.routine o.goes.behind) m' (inside (Goes alt) 0 m) (inside (Goes alt) 0 m') 30 (cost ps m) z s.at.rep.mid.state.few refl o.goes.next (omega arith)
      (λ room. branch_turns.branches t plays out alt o.goes.behind m z at room) (λ over. branch_turns.branch_meets t plays out alt o.goes.behind m z at over))

  pub try_leads : (alt : ℕ) → OpLeads t code dice (op.Try alt)
  try_leads alt ps m rest z e always s =
      let out = s.printed.out in
      let o : Opens (λ y. OpsAt t code y rest) t s.at.x try_routine alt = at_op t code dice ps m rest z (op.Try alt) e s in
      let at = opening ps m z rest try_routine alt s o in
      let m' = record m { ops = rest } in
      let unit = a_unit t code dice ps m in
      silently t code dice ps m rest z (op.Try alt) e _ (cost ps m) refl
      (ten_leads t code dice 1 (omega arith) ps s.printed (t.p.names.routine o.goes.behind) m' (within (place_of m) (inside (Goes alt) 0 m)) (within (place_of m') (inside (Goes alt) 0 m')) 30 (cost ps m) z s.at.rep.mid.state.few refl o.goes.next (omega arith)
      (λ room. branch_turns.tries t plays out alt o.goes.behind m z at room) (λ over. branch_turns.try_meets t plays out alt o.goes.behind m z at over))

  pub shield_leads : (alt : ℕ) → OpLeads t code dice (op.Shield alt)
  shield_leads alt ps m rest z e always s =
      let out = s.printed.out in
      let o : Opens (λ y. OpsAt t code y rest) t s.at.x shield_routine alt = at_op t code dice ps m rest z (op.Shield alt) e s in
      let at = opening ps m z rest shield_routine alt s o in
      let m' = record m { ops = rest } in
      let unit = a_unit t code dice ps m in
      silently t code dice ps m rest z (op.Shield alt) e _ (cost ps m) refl
      (ten_leads t code dice 1 (omega arith) ps s.printed (t.p.names.routine o.goes.behind) m' (shielded alt m) (shielded alt m') 30 (cost ps m) z s.at.rep.mid.state.few refl o.goes.next (omega arith)
      (λ room. shield_turns.begins t plays out alt o.goes.behind m z at room) (λ over. shield_turns.meets t plays out alt o.goes.behind m z at over))

  pub once_leads : OpLeads t code dice op.Once
  once_leads ps m rest z e always s =
      let out = s.printed.out in
      let r = s.at.rep in
      let o : GoesOn (λ y. OpsAt t code y rest) t s.at.x once_routine = at_op t code dice ps m rest z op.Once e s in
      let m' = record m { ops = rest } in
      let unit = a_unit t code dice ps m in
      silently t code dice ps m rest z op.Once e _ (cost ps m) refl
      (ten_leads t code dice 1 (omega arith) ps s.printed (t.p.names.routine o.behind) m' (within (place_of m) (more 10 (passed m))) (within (place_of m') (more 10 (passed m'))) 20 (cost ps m) z r.mid.state.few refl o.next (omega arith)
      (λ room. once_turns.begins t plays out s.at.x o.behind m z o.is room r) (λ over. once_turns.meets t plays out s.at.x o.behind m z o.is over r))

  -- ## Leaving

  -- the newest of some places
  pub newest_agrees : (m : Mid) (p : Place) (places : List Place) → Always code (Runs m) → m.inner ≡ p ∷ places → AgreeAll m.choices p
  newest_agrees m p places always i = (let names : PlacesNamed m.next_tag m.state.heap m.choices (p ∷ places) = subst (PlacesNamed m.next_tag m.state.heap m.choices) i always.ordered.named.inner_are in names.0.agrees)

  commit_by : (ps : List Print) (m : Mid) (rest : List Op) (z : ZState) → m.ops ≡ op.Commit ∷ rest → Always code (Runs m) → Stands t code ps (Runs m) z → (inner : List Place) → m.inner ≡ inner → IsSome inner → Lead t code dice 1 ps (commits inner (record m { ops = rest })) (cost ps m) z
  commit_by ps m rest z e always s [] i some = absurd some
  commit_by ps m rest z e always s (p ∷ places) i some =
      let o : GoesOn (λ y. OpsAt t code y rest) t s.at.x commit_routine = at_op t code dice ps m rest z op.Commit e s in
      let m' = record m { ops = rest } in
      led_runs t code dice 1 (omega arith) ps s.printed (t.p.names.routine o.behind) (cut_to p (record m { inner = places })) (cut_to p (record m' { inner = places })) _ (cost ps m) z refl o.next
      (turns_are_paid.commit set ps m p places rest e i) (commit_turns t plays s.printed.out s.at.x m z p places o.behind o.is i (newest_agrees m p places always i) s.at.rep)

  pub commit_leads : OpLeads t code dice op.Commit
  commit_leads ps m rest z e always s =
      let inside : StandsInside (op.Commit ∷ rest) m.inner = subst (λ (l : List Op). StandsInside l m.inner) e always.begins.1 in
      silently t code dice ps m rest z op.Commit e _ (cost ps m) refl (commit_by ps m rest z e always s m.inner refl inside)

  refuse_by : (ps : List Print) (m : Mid) (rest : List Op) (z : ZState) → m.ops ≡ op.Refuse ∷ rest → Always code (Runs m) → Stands t code ps (Runs m) z → (inner : List Place) → m.inner ≡ inner → IsSome inner → Lead t code dice 1 ps (refuses inner (record m { ops = rest })) (cost ps m) z
  refuse_by ps m rest z e always s [] i some = absurd some
  refuse_by ps m rest z e always s (p ∷ places) i some =
      let there : t.p.routine_at s.at.x ≡ Some (commit_routine FAIL) = at_op t code dice ps m rest z op.Refuse e s in
      let m' = record m { ops = rest } in
      led_fails t code dice 1 (omega arith) ps s.printed (cut_to p (record m { inner = places })) (cut_to p (record m' { inner = places })) _ (cost ps m) z refl
      (turns_are_paid.refuse set ps m p places rest e i) (refuse_turns t plays s.printed.out s.at.x m z p places there i (newest_agrees m p places always i) s.at.rep)

  pub refuse_leads : OpLeads t code dice op.Refuse
  refuse_leads ps m rest z e always s =
      let inside : StandsInside (op.Refuse ∷ rest) m.inner = subst (λ (l : List Op). StandsInside l m.inner) e always.begins.1 in
      silently t code dice ps m rest z op.Refuse e _ (cost ps m) refl (refuse_by ps m rest z e always s m.inner refl inside)

  leave_by : (ps : List Print) (m : Mid) (rest : List Op) (z : ZState) → m.ops ≡ op.Leave ∷ rest → Always code (Runs m) → Stands t code ps (Runs m) z → (inner : List Place) → m.inner ≡ inner → IsSome inner → Lead t code dice 1 ps (leaves inner (record m { ops = rest })) (cost ps m) z
  leave_by ps m rest z e always s [] i some = absurd some
  leave_by ps m rest z e always s (p ∷ places) i some =
      let o : GoesOn (λ y. OpsAt t code y rest) t s.at.x leave_routine = at_op t code dice ps m rest z op.Leave e s in
      let m' = record m { ops = rest } in
      led_runs t code dice 1 (omega arith) ps s.printed (t.p.names.routine o.behind) (cut_to p (record m { inner = places; stop = p.outer })) (cut_to p (record m' { inner = places; stop = p.outer })) _ (cost ps m) z refl o.next
      (turns_are_paid.leave set ps m p places rest e i) (leave_turns t plays s.printed.out s.at.x m z p places o.behind o.is i (newest_agrees m p places always i) s.at.rep)

  pub leave_leads : OpLeads t code dice op.Leave
  leave_leads ps m rest z e always s =
      let inside : StandsInside (op.Leave ∷ rest) m.inner = subst (λ (l : List Op). StandsInside l m.inner) e always.begins.1 in
      silently t code dice ps m rest z op.Leave e _ (cost ps m) refl (leave_by ps m rest z e always s m.inner refl inside)
