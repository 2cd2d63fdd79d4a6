-- Runs that aren't broken on the way.
use Rattle.std.proofs.Common.{◌≡◌, ℕ, ◌+◌, ◌-◌, List, refl, sym, ap, ◌∙◌, subst, arith}
use Rattle.z_model.specs.declared.fault.ZFault.{ZFault}
use Rattle.z_model.specs.declared.end.Halt.{Halt}
use Rattle.z_model.specs.declared.end.Halt.TheVariants.{AtQuit, AtInput}
use Rattle.z_model.specs.declared.end.ZEnd.{ZEnd}
use Rattle.z_model.specs.declared.end.ZEnd.TheVariants as ends
use Rattle.z_model.specs.Laws.{then_more}
use Rattle.z_model.proofs.Runs.{run_laws}
use Rattle.z_model.specs.Run.{ZGiven, ZState, ZRun, zrun, halt_ending}
use Rattle.z_lang.specs.declared.act.Act.{Act}
use Rattle.z_lang.specs.State.{State, Program}
use Rattle.z_lang.specs.Runs.{ActsOutcome, Stops, ActsRun, rests, at_label, goes, taken, passed, done, calls, calls_last, ends_input, returns, quits}
use Rattle.z_lang.specs.Leads.{Leads, Ends}
use Rattle.z_story.specs.Does.{IsUnbroken}

abbrev pub NotBroken : ZEnd → Type 0
NotBroken end = (fault : ZFault) (at : ℕ) → end ≡ ends.Broken fault at → ⊥

broken_stays : (more : ZState → ZRun) (end : ZEnd) (s : ZState) (fault : ZFault) (at : ℕ) → end ≡ ends.Broken fault at → (then_more more (record { end = end; state = s })).end ≡ ends.Broken fault at
broken_stays more ends.StepLimit s fault at e = absurd (cc)
broken_stays more ends.Quit s fault at e = absurd (cc)
broken_stays more ends.InputEnded s fault at e = absurd (cc)
broken_stays more (ends.Broken f a) s fault at e = e

-- a run that isn't broken wasn't before
pub unbroken_to : (w : ZGiven) (m : ℕ) (z : ZState) → NotBroken (zrun w m z).end → IsUnbroken w m z
unbroken_to w m z well k le fault at e =
    let q : k + (m - k) ≡ m = omega arith in
    let piece : then_more (zrun w (m - k)) (zrun w k z) ≡ zrun w m z = sym ((run_laws w z).sum k (m - k)) ∙ ap (λ (i : ℕ). zrun w i z) q in
    well fault at (ap (λ (r : ZRun). r.end) (sym piece) ∙ broken_stays (zrun w (m - k)) (zrun w k z).end (zrun w k z).state fault at e)

pub leads_unbroken : (w : ZGiven) (n : ℕ) (z z' : ZState) → Leads w n z z' → IsUnbroken w n z
unfolding zrun
leads_unbroken w n z z' l =
    let q : n + 0 ≡ n = omega arith in
    let whole = ap (λ (i : ℕ). zrun w i z) (sym q) ∙ l.by 0 in
    unbroken_to w n z (λ fault at e. absurd (let h = ap (λ (r : ZRun). r.end) (sym whole) ∙ e in cc h))

pub ends_unbroken : (w : ZGiven) (n : ℕ) (z : ZState) (r : ZRun) → Ends w n z r → NotBroken r.end → (k : ℕ) → IsUnbroken w k z
ends_unbroken w n z r l well k i le =
    unbroken_to w (n + k) z (λ fault at e. well fault at (ap (λ (x : ZRun). x.end) (sym (l.by k)) ∙ e)) i (omega arith)

-- an end of acts isn't a fault
quit_is_well : (o : ActsOutcome) (h halt : Halt) → o ≡ Stops halt → o ≡ Stops h → NotBroken (halt_ending h) → NotBroken (halt_ending halt)
quit_is_well o h halt e e' well = subst (λ (x : Halt). NotBroken (halt_ending x)) (let same : Stops h ≡ Stops halt = sym e' ∙ e in cc same) well

pub stops_well : (p : Program) (halt : Halt) {f w n : ℕ} {body acts : List Act} {s s' : State} {o : ActsOutcome} → o ≡ Stops halt → ActsRun p f w body acts s o s' n → NotBroken (halt_ending halt)
stops_well p halt e rests = absurd (cc)
stops_well p halt e (at_label r) = stops_well p halt e r
stops_well p halt e (goes b r) = stops_well p halt e r
stops_well p halt e (taken a b r) = stops_well p halt e r
stops_well p halt e (passed a r) = stops_well p halt e r
stops_well p halt e (done d r) = stops_well p halt e r
stops_well p halt e (calls va vs at lt le inner stored r) = stops_well p halt e r
stops_well p halt e (calls_last {halt = h} va vs at lt le inner) = stops_well p halt e inner
stops_well p halt e (ends_input v r t none) = quit_is_well (Stops AtInput) AtInput halt e refl (λ fault at q. absurd (cc))
stops_well p halt e (returns v) = absurd (cc)
stops_well p halt e quits = quit_is_well (Stops AtQuit) AtQuit halt e refl (λ fault at q. absurd (cc))
