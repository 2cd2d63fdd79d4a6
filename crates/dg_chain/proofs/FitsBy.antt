-- A story whose turns are those of boundaries that tell the truth fits its program.
use Rattle.std.proofs.Common.{◌≡◌, ℕ, ◌≤◌, ◌⊎◌, inl, inr, ⊎_elim, List, sym, subst, arith}
use Rattle.dg_base.specs.declared.run.Ending.{Ending}
use Rattle.dg_base.specs.declared.run.Ending.TheVariants as endings
use Rattle.dg_meaning.specs.World.{Game}
use Rattle.dg_meaning.specs.Transcript.{run}
use Rattle.z_model.specs.declared.end.ZEnd.{ZEnd}
use Rattle.z_model.specs.declared.end.ZEnd.TheVariants as ends
use Rattle.dg_meaning.proofs.OneRun.{begins_on}
use Rattle.z_model.specs.Run.{ZGiven, ZState, ZRun, zrun}
use Rattle.z_lang.specs.Turns.{Turning}
use Rattle.z_lang.specs.WholeRuns.{Within, IsOver, Shown, IsTurn}
use Rattle.z_lang.proofs.Turns.{shows, suffices, ends_by}
use Rattle.dg_chain.specs.Agrees.{IsDone, IsCut, EndsWhole, IsThere, IsAtLimit, Fits, printed_body, enough_for}
use Rattle.dg_chain.specs.inside.Tells.{InTime, reached, over, Tells}

-- a run whose budget was used up has no other ending
not_input : (e : Ending) → e ≡ endings.StepLimit → e ≡ endings.InputEnded → ⊥
not_input e p q = cc

not_done : (e : Ending) → e ≡ endings.StepLimit → IsDone e → ⊥
not_done e p d = subst (λ (x : Ending). IsDone x) p d

module _ {A : Type 0} (w : ZGiven) (t : Turning ZEnd A) (Rep : A → ZState → Type 0) (turns : (a : A) (z : ZState) → Rep a z → IsTurn w (λ e. e) t Rep a z) (g : Game) (typed : List ℕ) (a : A) (tells : Tells g typed t a) (z : ZState) (rep : Rep a z) where
  shown_by : (r : ZRun) → Shown (λ e. e) t a r → ((r.end ≡ ends.StepLimit) × IsCut g typed r.state.output) ⊎ EndsWhole g typed r.end r.state.output
  shown_by r s = ⊎_elim within over_by s.is
    where
      within : Within t s.b r → ((r.end ≡ ends.StepLimit) × IsCut g typed r.state.output) ⊎ EndsWhole g typed r.end r.state.output
      within h = inl (h.end, tells.between s.reached r.state.output h.least h.most)

      over_by : IsOver (λ e. e) t s.b r → ((r.end ≡ ends.StepLimit) × IsCut g typed r.state.output) ⊎ EndsWhole g typed r.end r.state.output
      over_by h = inr (subst (λ (e : ZEnd). EndsWhole g typed e r.state.output) (sym h.end_is) (subst (λ (bytes : List ℕ). EndsWhole g typed h.end bytes) (sym h.output) (tells.whole s.reached h.end h.bytes h.next)))

  enough_by : (steps n : ℕ) → enough_for g typed n ≤ steps → InTime g typed t a n → IsThere g typed n (zrun w steps z).state.output (zrun w steps z).end ⊎ IsAtLimit g typed n (zrun w steps z).state.output (zrun w steps z).end
  enough_by steps n le (reached {b = b} {spent = spent} r in_time going printed) =
      inl (record {
        printed = begins_on (printed_body g typed n) (t.out b) (zrun w steps z).state.output printed (suffices w (λ e. e) t Rep turns steps z rep r (omega arith));
        input = λ e. absurd (not_input (run g typed n).ending going e);
        done = λ d. absurd (not_done (run g typed n).ending going d);
      })
  enough_by steps n le (over {b = b} {spent = spent} {end = end} {bytes = bytes} r next in_time is) =
      let there = ends_by w (λ e. e) t Rep turns steps end bytes z rep r next (omega arith) in
      ⊎_elim
      (λ i. inl (subst (λ (e : ZEnd). IsThere g typed n (zrun w steps z).state.output e) (sym there.0) (subst (λ (xs : List ℕ). IsThere g typed n xs end) (sym there.1) i)))
      (λ i. inr (subst (λ (e : ZEnd). IsAtLimit g typed n (zrun w steps z).state.output e) (sym there.0) (subst (λ (xs : List ℕ). IsAtLimit g typed n xs end) (sym there.1) i)))
      is

  -- The whole run, for every number of instructions.
  pub fits : (steps : ℕ) → Fits g typed steps (zrun w steps z).state.output (zrun w steps z).end
  fits steps = record { shown = shown_by (zrun w steps z) (shows w (λ e. e) t Rep turns steps a z rep); enough = λ n le. enough_by steps n le (tells.in_time n) }
