-- In an assembled story the routines stand, and the run is the first one's.
use Rattle.std.proofs.Common.{◌≡◌, ℕ, zero, suc, ◌+◌, ◌-◌, ◌≤◌, List, [], ◌∷◌, take, drop, length-take, Some, Ok, refl, sym, ap, ◌∙◌, subst, arith}
use Rattle.std.specs.Prelude.{slice_get}
use Rattle.std.proofs.Math.Seq.{take-length}
use Rattle.std.proofs.lemmas.Option.{same_Some}
use Rattle.z_model.specs.Flow.{zeros}
use Rattle.z_model.specs.Machine.{stored_if}
use Rattle.z_model.specs.declared.story.Layout.{Layout}
use Rattle.z_model.specs.Run.{ZGiven, ZState, ZRun, zrun, zstep, halt_ending}
use Rattle.z_model.specs.declared.end.Halt.{Halt}
use Rattle.z_model.specs.declared.end.Halt.TheVariants.{AtQuit}
use Rattle.z_model.specs.declared.end.ZEnd.{ZEnd}
use Rattle.z_model.specs.declared.end.ZEnd.TheVariants as ends
use Rattle.z_model.specs.Story.{given_of, start_state, memory_of, story_run}
use Rattle.z_code.specs.Open.{Counts}
use Rattle.z_code.specs.Targets.{Names, label_from}
use Rattle.z_lang.specs.declared.act.Routine.{Routine}
use Rattle.z_lang.specs.State.{State, Program}
use Rattle.z_lang.specs.Runs.{ActsOutcome, Returns, Stops, Rests, ActsRun}
use Rattle.z_lang.specs.Code.{ops_of_acts, quit_op}
use Rattle.z_lang.specs.Leads.{Leads, Ends}
use Rattle.z_lang.specs.Standing.{RoutinesStand, StandsAs, ListStands, RoutinesFollow, IsLaidOut, IsKept, Context, HasRoom, Follows, ArrivesAt, resumed, machine_state, machine_at, state_at}
use Rattle.z_lang.proofs.Stretches.{ends_then, ends_last}
use Rattle.z_lang.proofs.Follows.{end_at, quit_step, comes_step, on}
use Rattle.z_lang.proofs.Start.{opening, start_of_play, from_opening, begins}
use Rattle.z_asm.specs.Story.{image_names, code_start, first_ops, call_first}
use Rattle.z_asm.specs.Assembled.{IsAssembled, HasCode}
use Rattle.z_asm.proofs.Standing.{mapped}
use Rattle.z_story.specs.declared.building.Parts.{Parts}
use Rattle.z_story.specs.Parts.{IsRoutine, AreRoutines, AreParts, parts_counts, routine_code, image_of}
use Rattle.z_story.specs.Does.{program, packed_at, first_at, IsUnbroken, IsSafe, DoesItsActs, first_state, IsRun, GoesBy, PlaysFirst, StoryDoes}
use Rattle.z_story.proofs.Addresses.{found_at}
use Rattle.z_story.proofs.Unbroken.{NotBroken, leads_unbroken, ends_unbroken, stops_well}

-- a routine of a list
routine_of : (counts : Counts) (rs : List Routine) (k : ℕ) (r : Routine) → AreRoutines counts rs → slice_get rs k ≡ Some r → IsRoutine counts r
routine_of counts [] k r h e = absurd (cc)
routine_of counts (y ∷ rs) zero r h e = subst (λ (x : Routine). IsRoutine counts x) (same_Some y r e) h.0
routine_of counts (y ∷ rs) (suc k) r h e = routine_of counts rs k r h.1 e

-- ---- runs

-- a run of at least as many steps as a stretch that ends it
ended_by : (w : ZGiven) (n k : ℕ) (z : ZState) (r : ZRun) → Ends w n z r → n ≤ k → zrun w k z ≡ r
ended_by w n k z r l le = let e : n + (k - n) ≡ k = omega arith in ap (λ (i : ℕ). zrun w i z) (sym e) ∙ l.by (k - n)

led_to : (w : ZGiven) (n : ℕ) (z z' : ZState) → Leads w n z z' → zrun w n z ≡ (let r : ZRun = record { end = ends.StepLimit; state = z' } in r)
unfolding zrun
led_to w n z z' l = let e : n + 0 ≡ n = omega arith in ap (λ (i : ℕ). zrun w i z) (sym e) ∙ l.by 0

-- the opening frame goes on behind the call
comes_back : (layout : Layout) (s : State) (end x : ℕ) → resumed layout s (from_opening end) x ≡ Ok (machine_at (record s { locals = [] }) opening end)
unfolding stored_if
comes_back layout s end x = refl

module _ (lists : (given : ZGiven) (names : Names) (rs : List Routine) (story : List ℕ) → ListStands given names rs story) (follow : RoutinesFollow) (parts : Parts) (story : List ℕ) (is : AreParts parts) (assembled : IsAssembled (image_of parts) story) (dice : List ℕ) where
  abbrev p : Program
  p = program parts story dice

  abbrev image_first : ℕ
  image_first = code_start (image_of parts)

  laid_out : IsLaidOut (given_of story dice)
  laid_out =
      let globals = assembled.header.globals_is in
      let base = assembled.header.base in
      record { rows = refl; laid = record { from = omega arith; globals = omega arith } }

  has_code : (k : ℕ) (r : Routine) → slice_get parts.routines k ≡ Some r → HasCode (image_of parts) story k (routine_code r)
  has_code k r e = assembled.routines k (routine_code r) (mapped routine_code parts.routines k r e)

  stands : RoutinesStand (program parts story dice) story
  stands = (lists (given_of story dice) (image_names (image_of parts)) parts.routines story).stands laid_out each
    where
      each : (k : ℕ) (r : Routine) → slice_get parts.routines k ≡ Some r → StandsAs (given_of story dice) (image_names (image_of parts)) story k r
      each k r e =
          let h = has_code k r e in
          let behind = h.behind in
          let base = assembled.header.base in
          record { few = (routine_of (parts_counts parts) parts.routines k r is.routines e).few; some = omega arith; behind = omega arith; count = h.count; code_is = h.ops }

  comes : (k : ℕ) (r : Routine) → slice_get parts.routines k ≡ Some r → (c : Context) (f w n : ℕ) (s s' : State) (o : ActsOutcome) → IsKept p.world.layout.base story s.memory → HasRoom c s f w → ActsRun p f w r.body r.body s o s' n → Follows p story (label_from (first_at parts k) (ops_of_acts r.body)) c o s' n (state_at s c (first_at parts k))
  comes k r e c f w n s s' o kept room runs = follow p story stands (packed_at parts k) r (found_at parts k r e) (label_from (first_at parts k) (ops_of_acts r.body)) (has_code k r e).ops c f w n s s' o kept room runs

  safe_by : (labels : ℕ → ℕ) (c : Context) (n : ℕ) (s' : State) (o : ActsOutcome) (z : ZState) → ((halt : Halt) → o ≡ Stops halt → NotBroken (halt_ending halt)) → ArrivesAt p story labels c o s' n z → IsSafe p.world c o s' n z
  safe_by labels c n s' (Returns x) z well h = λ m back. leads_unbroken p.world n z (machine_state s' m) (h m back)
  safe_by labels c n s' (Stops halt) z well h = ends_unbroken p.world n z (record { end = halt_ending halt; state = h.0 }) h.2 (well halt refl)
  safe_by labels c n s' (Rests acts) z well h = leads_unbroken p.world n z (state_at s' c h.pc) h.leads

  does : (k : ℕ) (r : Routine) → slice_get parts.routines k ≡ Some r → DoesItsActs (program parts story dice) story (first_at parts k) r
  does k r e = record {
    comes = comes k r e;
    safe = λ c f w n s s' o kept room runs. safe_by (label_from (first_at parts k) (ops_of_acts r.body)) c n s' o (state_at s c (first_at parts k)) (λ halt i. stops_well p halt i runs) (comes k r e c f w n s s' o kept room runs).comes;
  }

  -- ---- the whole run

  memory_is : memory_of story ≡ story
  memory_is = ap (λ (n : ℕ). take n story) assembled.header.length ∙ take-length story

  starts_kept : IsKept p.world.layout.base story (memory_of story)
  starts_kept = ap (λ (l : List ℕ). drop p.world.layout.base l) memory_is

  -- the context in which the first routine is called
  abbrev first_context : Context
  first_context = from_opening (end_at image_first call_first)

  module _ (r : Routine) (e : slice_get parts.routines 0 ≡ Some r) (typed : List ℕ) (f w n : ℕ) (s' : State) (o : ActsOutcome) (few : f ≤ 8190) (fits : r.locals + w ≤ 65536) (runs : ActsRun p f w r.body r.body (first_state story typed r) o s' n) where
    abbrev labels : ℕ → ℕ
    labels = label_from (first_at parts 0) (ops_of_acts r.body)

    abbrev at_first : ZState
    at_first = state_at (first_state story typed r) first_context (first_at parts 0)

    first_step : zstep p.world (start_state story typed) ≡ on at_first
    first_step =
        let base = assembled.header.base in
        subst (λ (pc : ℕ). zstep p.world (state_at (start_of_play (memory_of story) typed) opening pc) ≡ on at_first) (sym assembled.header.start)
        (begins p story stands (label_from image_first first_ops) (memory_of story) typed image_first 0 r assembled.first.0 starts_kept (omega arith) (found_at parts 0 r e))

    room : HasRoom first_context (first_state story typed r) f w
    room =
        let long = length-take r.locals (0 ∷ 0 ∷ 0 ∷ zeros) in
        record { frames = omega arith; words = omega arith }

    routine : Follows p story labels first_context o s' n at_first
    routine = comes 0 r e first_context f w n (first_state story typed r) s' o starts_kept room runs

    whole : ArrivesAt p story labels first_context o s' (suc n) (start_state story typed)
    whole = comes_step p story labels first_context o s' n (start_state story typed) at_first first_step routine.comes

    output_is : (z : ZState) → z.output ≡ s'.output → (end : ZEnd) (k : ℕ) → zrun p.world k (start_state story typed) ≡ (let run : ZRun = record { end = end; state = z } in run) → IsRun (zrun p.world k (start_state story typed)) end s'.output
    output_is z same end k e = (ap (λ (run : ZRun). run.end) e, ap (λ (run : ZRun). run.state.output) e ∙ same)

    -- behind the routine's return
    behind_return : (x : ℕ) → ArrivesAt p story labels first_context (Returns x) s' (suc n) (start_state story typed) → (k : ℕ) → n + 1 + 1 ≤ k → IsRun (zrun p.world k (start_state story typed)) ends.Quit s'.output
    behind_return x h k le =
        let back = record s' { locals = [] } in
        let end = end_at image_first call_first in
        let z = state_at back opening end in
        let leads = h (machine_at back opening end) (comes_back p.world.layout s' end x) in
        let base = assembled.header.base in
        let quits = quit_step p story (label_from image_first first_ops) opening laid_out back end (record { fits = assembled.first.1.0; kept = routine.kept; from = omega arith }) in
        let last = state_at back opening (end_at end quit_op) in
        let all = ends_then p.world (suc n) 1 (start_state story typed) z (record { end = ends.Quit; state = last }) leads (ends_last p.world z last AtQuit quits) in
        output_is last refl ends.Quit k (ended_by p.world (suc n + 1) k (start_state story typed) (record { end = ends.Quit; state = last }) all (omega arith))

    goes_by : (x : ActsOutcome) → ArrivesAt p story labels first_context x s' (suc n) (start_state story typed) → GoesBy (λ k. zrun p.world k (start_state story typed)) x s'.output (n + 1)
    goes_by (Returns x) h = behind_return x h
    goes_by (Stops halt) h = λ k le. output_is h.0 h.1 (halt_ending halt) k (ended_by p.world (suc n) k (start_state story typed) (record { end = halt_ending halt; state = h.0 }) h.2 (omega arith))
    goes_by (Rests acts) h =
        let one : suc n ≡ n + 1 = omega arith in
        subst (λ (i : ℕ). IsRun (zrun p.world i (start_state story typed)) ends.StepLimit s'.output) one (output_is (state_at s' first_context h.pc) refl ends.StepLimit (suc n) (led_to p.world (suc n) (start_state story typed) (state_at s' first_context h.pc) h.leads))

    goes : GoesBy (story_run story typed dice) o s'.output (n + 1)
    unfolding story_run
    goes = goes_by o whole

    -- a run that isn't broken at the outcome
    unbroken_by : (x : ActsOutcome) → ArrivesAt p story labels first_context x s' (suc n) (start_state story typed) → ((halt : Halt) → x ≡ Stops halt → NotBroken (halt_ending halt)) → IsUnbroken p.world (suc n) (start_state story typed)
    unbroken_by (Returns x) h well =
        let back = record s' { locals = [] } in
        let end = end_at image_first call_first in
        leads_unbroken p.world (suc n) (start_state story typed) (state_at back opening end) (h (machine_at back opening end) (comes_back p.world.layout s' end x))
    unbroken_by (Stops halt) h well = ends_unbroken p.world (suc n) (start_state story typed) (record { end = halt_ending halt; state = h.0 }) h.2 (well halt refl) (suc n)
    unbroken_by (Rests acts) h well = leads_unbroken p.world (suc n) (start_state story typed) (state_at s' first_context h.pc) h.leads

    unbroken : IsUnbroken p.world (n + 1) (start_state story typed)
    unbroken = let one : suc n ≡ n + 1 = omega arith in subst (λ (i : ℕ). IsUnbroken p.world i (start_state story typed)) one (unbroken_by o whole (λ halt e. stops_well p halt e runs))

  plays : (r : Routine) → slice_get parts.routines 0 ≡ Some r → PlaysFirst (program parts story dice) story r
  plays r e = record {
    goes = λ typed f w n s' o few fits runs. goes r e typed f w n s' o few fits runs;
    safe = λ typed f w n s' o few fits runs. unbroken r e typed f w n s' o few fits runs;
  }

-- All of it.
pub story_does : ((given : ZGiven) (names : Names) (rs : List Routine) (story : List ℕ) → ListStands given names rs story) → RoutinesFollow → (parts : Parts) (story : List ℕ) → AreParts parts → IsAssembled (image_of parts) story → StoryDoes parts story
story_does lists follow parts story is assembled = record {
  stands = λ dice. stands lists follow parts story is assembled dice;
  named = λ dice k r e. found_at parts k r e;
  does = λ dice k r e. does lists follow parts story is assembled dice k r e;
  plays = λ dice r e. plays lists follow parts story is assembled dice r e;
}
