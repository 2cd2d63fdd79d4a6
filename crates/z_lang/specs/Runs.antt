-- The meaning of routines: where acts lead, within how many frames and words of the machine's stack, and in how many instructions.
use Rattle.std.specs.Prelude.{◌≡◌, ℕ, suc, ◌+◌, ◌≤◌, ◌<◌, ◌==◌, List, [], ◌∷◌, take, Option, Some, None, not, if◌then◌else◌}
use Rattle.z_model.specs.declared.end.Halt.{Halt}
use Rattle.z_model.specs.declared.end.Halt.TheVariants.{AtQuit, AtInput}
use Rattle.z_model.specs.Flow.{zeros}
use Rattle.z_lang.specs.declared.act.Atom.{Atom}
use Rattle.z_lang.specs.declared.act.Args.{Args}
use Rattle.z_lang.specs.declared.act.Test.{Test}
use Rattle.z_lang.specs.declared.act.Routine.{Routine}
use Rattle.z_lang.specs.declared.act.Act.{Act}
use Rattle.z_lang.specs.declared.act.Act.TheVariants as acts
use Rattle.z_lang.specs.State.{State, Program, value, put, put_if}
use Rattle.z_lang.specs.Acts.{answer_of, does, readable, arguments}

-- the acts behind a label
unfoldable pub behind_label : ℕ → List Act → Option (List Act)
behind_label l [] = None
behind_label l (acts.Label k ∷ more) = if k == l then Some more else behind_label l more
behind_label l (act ∷ more) = behind_label l more

-- What acts come to: a value is returned, the run ends, or these acts come next.
pub data ActsOutcome : Type 0 where
  Returns : (x : ℕ) → ActsOutcome
  Stops : (halt : Halt) → ActsOutcome
  Rests : (acts : List Act) → ActsOutcome

-- the state in which a routine begins
abbrev pub routine_entered : State → ℕ → ℕ × ℕ × ℕ → State
routine_entered s n xs = record s { locals = take n (xs.0 ∷ xs.1 ∷ xs.2 ∷ zeros) }

-- the state behind a call, with the caller's locals
abbrev pub left_with : State → State → State
left_with s after = record after { locals = s.locals }

-- Acts of a body lead from a state to an outcome and a state, within f further frames and w further words, in n instructions.
pub data ActsRun (p : Program) : ℕ → ℕ → List Act → List Act → State → ActsOutcome → State → ℕ → Type 0 where
  rests : {f w : ℕ} {body acts : List Act} {s : State} → ActsRun p f w body acts s (Rests acts) s 0
  at_label : {f w l n : ℕ} {body more : List Act} {s s' : State} {o : ActsOutcome} →
      ActsRun p f w body more s o s' n → ActsRun p f w body (acts.Label l ∷ more) s o s' n
  goes : {f w l n : ℕ} {body more there : List Act} {s s' : State} {o : ActsOutcome} → behind_label l body ≡ Some there →
      ActsRun p f w body there s o s' n → ActsRun p f w body (acts.Goto l ∷ more) s o s' (suc n)
  taken : {f w l n : ℕ} {test : Test} {body more there : List Act} {s s' : State} {o : ActsOutcome} →
      answer_of p s test ≡ Some test.answer → behind_label l body ≡ Some there →
      ActsRun p f w body there s o s' n → ActsRun p f w body (acts.When test l ∷ more) s o s' (suc n)
  passed : {f w l n : ℕ} {test : Test} {body more : List Act} {s s' : State} {o : ActsOutcome} → answer_of p s test ≡ Some (not test.answer) →
      ActsRun p f w body more s o s' n → ActsRun p f w body (acts.When test l ∷ more) s o s' (suc n)
  done : {f w n : ℕ} {act : Act} {body more : List Act} {s s1 s' : State} {o : ActsOutcome} → does p act s ≡ Some s1 →
      ActsRun p f w body more s1 o s' n → ActsRun p f w body (act ∷ more) s o s' (suc n)
  calls : {f w f' w' : ℕ} {v : Option ℕ} {x y n n' : ℕ} {a : Atom} {args : Args} {xs : ℕ × ℕ × ℕ} {r : Routine}
      {body more : List Act} {s s1 s2 s' : State} {o : ActsOutcome} →
      value p s a ≡ Some x → arguments p s args ≡ Some xs → p.routine_at x ≡ Some r → f' < f → r.locals + w' ≤ w →
      ActsRun p f' w' r.body r.body (routine_entered s r.locals xs) (Returns y) s1 n → put_if p v y (left_with s s1) ≡ Some s2 →
      ActsRun p f w body more s2 o s' n' → ActsRun p f w body (acts.Call v a args ∷ more) s o s' (suc n + n')
  calls_last : {f w f' w' : ℕ} {v : Option ℕ} {x n : ℕ} {a : Atom} {args : Args} {xs : ℕ × ℕ × ℕ} {r : Routine} {halt : Halt}
      {body more : List Act} {s s' : State} →
      value p s a ≡ Some x → arguments p s args ≡ Some xs → p.routine_at x ≡ Some r → f' < f → r.locals + w' ≤ w →
      ActsRun p f' w' r.body r.body (routine_entered s r.locals xs) (Stops halt) s' n →
      ActsRun p f w body (acts.Call v a args ∷ more) s (Stops halt) s' (suc n)
  ends_input : {f w v x most : ℕ} {a : Atom} {body more : List Act} {s tried : State} → value p s a ≡ Some x →
      readable p.world.layout s.memory x ≡ Some most → put p v 13 s ≡ Some tried → s.typed ≡ [] →
      ActsRun p f w body (acts.Read v a ∷ more) s (Stops AtInput) s 1
  returns : {f w x : ℕ} {a : Atom} {body more : List Act} {s : State} →
      value p s a ≡ Some x → ActsRun p f w body (acts.Return a ∷ more) s (Returns x) s 1
  quits : {f w : ℕ} {body more : List Act} {s : State} → ActsRun p f w body (acts.Quit ∷ more) s (Stops AtQuit) s 1
