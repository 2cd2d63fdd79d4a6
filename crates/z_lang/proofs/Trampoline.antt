-- A routine that calls the routine in a variable, puts its answer there and begins again: one turn.
use Rattle.std.proofs.Common.{◌≡◌, ℕ, suc, ◌+◌, ◌*◌, ◌<◌, ◌≤◌, List, [], ◌∷◌, Some, refl, subst, arith}
use Rattle.z_model.specs.declared.end.Halt.{Halt}
use Rattle.z_model.specs.Run.{ZState, zstep}
use Rattle.z_code.specs.Targets.{OpsAt}
use Rattle.z_lang.specs.declared.act.Atom.TheVariants as atoms
use Rattle.z_lang.specs.declared.act.Args.TheVariants as args
use Rattle.z_lang.specs.declared.act.Routine.{Routine}
use Rattle.z_lang.specs.declared.act.Act.{Act}
use Rattle.z_lang.specs.declared.act.Act.TheVariants as acts
use Rattle.z_lang.specs.State.{State, Program, value, put}
use Rattle.z_lang.specs.Runs.{Returns, Stops, ActsRun, routine_entered, left_with}
use Rattle.z_lang.specs.Code.{ops_of_acts}
use Rattle.z_lang.specs.Leads.{Leads}
use Rattle.z_lang.specs.Standing.{RoutinesStand, IsKept, Context, machine_at, state_at, HasRoom, ArrivesAt}
use Rattle.z_lang.proofs.Stretches.{leads_none, leads_step, leads_then}
use Rattle.z_lang.proofs.Kept.{stretch_kept}
use Rattle.z_lang.proofs.Keeping.{put_keeps}
use Rattle.z_lang.proofs.Calls.{within, call_returns}
use Rattle.z_lang.proofs.Follows.{end_at, on, outside_same, goto_step, comes_step}
use Rattle.z_lang.proofs.Routines.{call_op, call_step, room_within, follows, routine_follows}

-- the acts of the trampoline
abbrev pub trampoline : ℕ → List Act
trampoline v = acts.Label 0 ∷ acts.Call (Some v) (atoms.Var v) args.Zero ∷ acts.Goto 0 ∷ []

-- What a turn comes to, where the routine that is called returns.
pub record Bounces (p : Program) (story : List ℕ) (c : Context) (pc : ℕ) (s s2 : State) (n : ℕ) : Type 0 where
  pub kept : IsKept p.world.layout.base story s2.memory
  pub leads : Leads p.world n (state_at s c pc) (state_at s2 c pc)

module _ (p : Program) (story : List ℕ) (stands : RoutinesStand p story) (v : ℕ) (labels : ℕ → ℕ) (pc : ℕ) (placed : OpsAt story p.names labels pc (ops_of_acts (trampoline v))) (from : p.world.layout.base ≤ pc) (c : Context) where
  -- a turn whose routine returns
  pub bounces : (s s1 s2 : State) (x y f w f' w' n : ℕ) (r : Routine) → IsKept p.world.layout.base story s.memory → HasRoom c s f w → value p s (atoms.Var v) ≡ Some x → p.routine_at x ≡ Some r → f' < f → r.locals + w' ≤ w → ActsRun p f' w' r.body r.body (routine_entered s r.locals (0, 0, 0)) (Returns y) s1 n → put p v y (left_with s s1) ≡ Some s2 → Bounces p story c pc s s2 (suc n + 1)
  bounces s s1 s2 x y f w f' w' n r k room is at lt le runs stored =
      let place = stands.each x r at in
      let end = end_at pc (call_op (Some v) (atoms.Var v) args.Zero) in
      let fr = room.frames in
      let wr = room.words in
      let c' = within s c end (Some v) 0 in
      let begins = call_step p story stands s c labels pc (Some v) x (atoms.Var v) args.Zero (0, 0, 0) r (record { fits = placed.1.0; kept = k; from = from }) is refl place (omega arith) (omega arith) in
      let routine = routine_follows p story stands x r at place.labels place.code_is c' f' w' n (routine_entered s r.locals (0, 0, 0)) s1 (Returns y) k (room_within p story stands c s f w f' w' end (Some v) 0 r.locals (0, 0, 0) room lt le place.few) runs in
      let put_is = put_keeps p v y (left_with s s1) s2 stored in
      let back = routine.comes (machine_at s2 c end) (call_returns p s s1 s2 c end (Some v) 0 y stored) in
      let back2 = subst (λ (z : ZState). Leads p.world n (state_at (routine_entered s r.locals (0, 0, 0)) c' (8 * x + 1)) z) (outside_same (left_with s s1) s2 (machine_at s2 c end) put_is.same) back in
      let all = leads_step p.world n (state_at s c pc) (state_at (routine_entered s r.locals (0, 0, 0)) c' (8 * x + 1)) (state_at s2 c end) begins back2 in
      let kept2 = stretch_kept p.world story (suc n) (state_at s c pc) (state_at s2 c end) stands.laid_out.laid all k in
      let again = goto_step p story labels c stands.laid_out s2 end 0 (record { fits = placed.1.1.0; kept = kept2; from = omega arith }) in
      let there = subst (λ (a : ℕ). Leads p.world 1 (state_at s2 c end) (state_at s2 c a)) placed.0 (leads_step p.world 0 (state_at s2 c end) (state_at s2 c (labels 0)) (state_at s2 c (labels 0)) again (leads_none p.world (state_at s2 c (labels 0)))) in
      record { kept = kept2; leads = leads_then p.world (suc n) 1 (state_at s c pc) (state_at s2 c end) (state_at s2 c pc) all there }

  -- a turn whose routine ends the run
  pub stops : (s s1 : State) (x f w f' w' n : ℕ) (halt : Halt) (r : Routine) → IsKept p.world.layout.base story s.memory → HasRoom c s f w → value p s (atoms.Var v) ≡ Some x → p.routine_at x ≡ Some r → f' < f → r.locals + w' ≤ w → ActsRun p f' w' r.body r.body (routine_entered s r.locals (0, 0, 0)) (Stops halt) s1 n → ArrivesAt p story labels c (Stops halt) s1 (suc n) (state_at s c pc)
  stops s s1 x f w f' w' n halt r k room is at lt le runs =
      let place = stands.each x r at in
      let end = end_at pc (call_op (Some v) (atoms.Var v) args.Zero) in
      let fr = room.frames in
      let wr = room.words in
      let c' = within s c end (Some v) 0 in
      let begins = call_step p story stands s c labels pc (Some v) x (atoms.Var v) args.Zero (0, 0, 0) r (record { fits = placed.1.0; kept = k; from = from }) is refl place (omega arith) (omega arith) in
      let routine = routine_follows p story stands x r at place.labels place.code_is c' f' w' n (routine_entered s r.locals (0, 0, 0)) s1 (Stops halt) k (room_within p story stands c s f w f' w' end (Some v) 0 r.locals (0, 0, 0) room lt le place.few) runs in
      comes_step p story labels c (Stops halt) s1 n (state_at s c pc) (state_at (routine_entered s r.locals (0, 0, 0)) c' (8 * x + 1)) begins routine.comes

-- ---- from within one routine to the next

-- the end of the trampoline's call
abbrev pub call_end : ℕ → ℕ → ℕ
call_end v pc = end_at pc (call_op (Some v) (atoms.Var v) args.Zero)

-- where the routines that the trampoline calls were called from
abbrev pub inside : Context → ℕ → ℕ → List ℕ → Context
inside c end v l = record { back = end; store = Some v; args = 0; callers = record { back = c.back; store = c.store; args = c.args; locals = l; stack = [] } ∷ c.callers }

-- What it comes to when a routine returns the next one.
pub record Hops (p : Program) (story : List ℕ) (c' : Context) (s2 : State) (r2 : Routine) (y n : ℕ) (z : ZState) : Type 0 where
  pub kept : IsKept p.world.layout.base story s2.memory
  pub leads : Leads p.world n z (state_at (routine_entered s2 r2.locals (0, 0, 0)) c' (8 * y + 1))

module _ (p : Program) (story : List ℕ) (stands : RoutinesStand p story) (v : ℕ) (labels : ℕ → ℕ) (pc : ℕ) (placed : OpsAt story p.names labels pc (ops_of_acts (trampoline v))) (from : p.world.layout.base ≤ pc) (c : Context) where
  -- the rest of a routine returns the next, which the trampoline begins
  pub hops : (here_labels : ℕ → ℕ) (start at : ℕ) (body acts : List Act) (s s1 s2 : State) (l : List ℕ) (y f w f' w' n : ℕ) (r2 : Routine) → OpsAt story p.names here_labels start (ops_of_acts body) → p.world.layout.base ≤ start → OpsAt story p.names here_labels at (ops_of_acts acts) → p.world.layout.base ≤ at → IsKept p.world.layout.base story s.memory → HasRoom (inside c (call_end v pc) v l) s f' w' → ActsRun p f' w' body acts s (Returns y) s1 n → put p v y (record s1 { locals = l }) ≡ Some s2 → s2.locals ≡ l → value p s2 (atoms.Var v) ≡ Some y → p.routine_at y ≡ Some r2 → HasRoom c s2 f w → 1 ≤ f → r2.locals ≤ w → Hops p story (inside c (call_end v pc) v l) s2 r2 y (n + 2) (state_at s (inside c (call_end v pc) v l) at)
  hops here_labels start at body acts s s1 s2 l y f w f' w' n r2 pb sb pa ba k room runs stored locals is at2 room2 some few =
      let place = stands.each y r2 at2 in
      let fr = room2.frames in
      let wr = room2.words in
      let fl = follows p story stands (inside c (call_end v pc) v l) here_labels start at pb sb pa ba k room runs in
      let put_is = put_keeps p v y (record s1 { locals = l }) s2 stored in
      let back = fl.comes (machine_at s2 c (call_end v pc)) (call_returns p (record s1 { locals = l }) s1 s2 c (call_end v pc) (Some v) 0 y stored) in
      let back2 = subst (λ (z : ZState). Leads p.world n (state_at s (inside c (call_end v pc) v l) at) z) (outside_same (record s1 { locals = l }) s2 (machine_at s2 c (call_end v pc)) put_is.same) back in
      let kept2 = stretch_kept p.world story n (state_at s (inside c (call_end v pc) v l) at) (state_at s2 c (call_end v pc)) stands.laid_out.laid back2 k in
      let again = goto_step p story labels c stands.laid_out s2 (call_end v pc) 0 (record { fits = placed.1.1.0; kept = kept2; from = omega arith }) in
      let there = subst (λ (a : ℕ). zstep p.world (state_at s2 c (call_end v pc)) ≡ on (state_at s2 c a)) placed.0 again in
      let begins = call_step p story stands s2 c labels pc (Some v) y (atoms.Var v) args.Zero (0, 0, 0) r2 (record { fits = placed.1.0; kept = kept2; from = from }) is refl place (omega arith) (omega arith) in
      let c'' = within s2 c (call_end v pc) (Some v) 0 in
      let last = leads_step p.world 0 (state_at s2 c pc) (state_at (routine_entered s2 r2.locals (0, 0, 0)) c'' (8 * y + 1)) (state_at (routine_entered s2 r2.locals (0, 0, 0)) c'' (8 * y + 1)) begins (leads_none p.world (state_at (routine_entered s2 r2.locals (0, 0, 0)) c'' (8 * y + 1))) in
      let both = leads_step p.world 1 (state_at s2 c (call_end v pc)) (state_at s2 c pc) (state_at (routine_entered s2 r2.locals (0, 0, 0)) c'' (8 * y + 1)) there last in
      let all = leads_then p.world n 2 (state_at s (inside c (call_end v pc) v l) at) (state_at s2 c (call_end v pc)) (state_at (routine_entered s2 r2.locals (0, 0, 0)) c'' (8 * y + 1)) back2 both in
      record { kept = kept2; leads = subst (λ (x : List ℕ). Leads p.world (n + 2) (state_at s (inside c (call_end v pc) v l) at) (state_at (routine_entered s2 r2.locals (0, 0, 0)) (inside c (call_end v pc) v x) (8 * y + 1))) locals all }
