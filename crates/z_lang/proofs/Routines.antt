-- The instructions of routines follow their meaning, act by act and call by call.
use Rattle.std.proofs.Common.{◌≡◌, ℕ, suc, ◌+◌, ◌-◌, ◌*◌, ◌<◌, ◌≤◌, Bool, true, false, List, [], ◌∷◌, length, take, length-take, Option, Some, None, Ok, refl, sym, ap, ◌∙◌, subst, arith}
use Rattle.std.specs.Prelude.{◌==◌, if◌then◌else◌}
use Rattle.std.proofs.lemmas.Option.{same_Some}
use Rattle.std.proofs.lemmas.Bool.{eqb-true}
use Rattle.z_model.specs.declared.op.Op.{Op}
use Rattle.z_model.specs.declared.table.Row.{Row}
use Rattle.z_model.specs.declared.table.Instr.TheVariants as instrs
use Rattle.z_model.specs.declared.table.Several.TheVariants as several
use Rattle.z_model.specs.declared.end.Args.{Args as ZArgs}
use Rattle.z_model.specs.declared.end.Halt.TheVariants.{AtQuit, AtInput}
use Rattle.z_model.specs.Flow.{zeros, called}
use Rattle.z_model.specs.Machine.{Machine, operand_values, words_in}
use Rattle.z_model.specs.Run.{ZGiven, ZState, zstep, next_by, word_at}
use Rattle.z_model.specs.Step.{do_instr, do_several}
use Rattle.z_code.specs.declared.target.Target.{Target}
use Rattle.z_code.specs.Targets.{filled, OpsAt, Names}
use Rattle.z_lang.specs.declared.act.Atom.{Atom}
use Rattle.z_lang.specs.declared.act.Args.{Args}
use Rattle.z_lang.specs.declared.act.Args.TheVariants as args
use Rattle.z_lang.specs.declared.act.Routine.{Routine}
use Rattle.z_lang.specs.declared.act.Act.{Act}
use Rattle.z_lang.specs.declared.act.Act.TheVariants as acts
use Rattle.z_lang.specs.State.{State, Program, value}
use Rattle.z_lang.specs.Acts.{does, arguments}
use Rattle.z_lang.specs.Runs.{ActsOutcome, Stops, Rests, ActsRun, rests, at_label, goes as jumps, taken, passed, done, calls, calls_last, ends_input, returns, quits, behind_label, routine_entered, left_with}
use Rattle.z_lang.specs.Code.{variable_op, call_number, quit_op, with_args, arg_targets, operand, target, ops_of_acts}
use Rattle.z_lang.specs.Leads.{Leads}
use Rattle.z_lang.specs.Standing.{StandsAt, RoutinesStand, IsKept, Context, machine_at, machine_state, state_at, HasRoom, Follows}
use Rattle.z_lang.proofs.Stretches.{leads_none, leads_step, ends_last}
use Rattle.z_lang.proofs.Kept.{kept_get, step_kept, stretch_kept}
use Rattle.z_lang.proofs.Operands.{operand_is, values_one, values_two, values_three, values_four, args_of, the_args}
use Rattle.z_lang.proofs.Keeping.{bound, put_if_keeps, does_keeps}
use Rattle.z_lang.proofs.Calls.{within, call_enters, call_returns}
use Rattle.z_lang.proofs.Follows.{comes_step, comes_then, Here, end_at, row_by, by_row, on, outside_same, copy_step, compute_step, write_step, print_step, random_step, goto_step, taken_step, passed_step, read_op, read_step, input_step, return_step, quit_step}

-- ---- where a label's acts stand

behind_placed : (story : List ℕ) (names : Names) (labels : ℕ → ℕ) (l : ℕ) (body there : List Act) (at : ℕ) → behind_label l body ≡ Some there → OpsAt story names labels at (ops_of_acts body) → OpsAt story names labels (labels l) (ops_of_acts there) × (at ≤ labels l)
unfolding behind_label
behind_placed story names labels l [] there at e h = absurd (cc)
behind_placed story names labels l (acts.Label k ∷ more) there at e h = by_test (k == l) refl e (λ i. behind_placed story names labels l more there at i h.1)
  where
    by_test : (t : Bool) → (k == l) ≡ t → (if t then Some more else behind_label l more) ≡ Some there → (behind_label l more ≡ Some there → OpsAt story names labels (labels l) (ops_of_acts there) × (at ≤ labels l)) → OpsAt story names labels (labels l) (ops_of_acts there) × (at ≤ labels l)
    by_test true q i more_is =
        let same = eqb-true k l q in
        let here : labels l ≡ at = ap labels (sym same) ∙ h.0 in
        (subst (λ (a : ℕ). OpsAt story names labels a (ops_of_acts there)) (sym here) (subst (λ (x : List Act). OpsAt story names labels at (ops_of_acts x)) (same_Some more there i) h.1), omega arith)
    by_test false q i more_is = more_is i
behind_placed story names labels l (acts.Goto k ∷ more) there at e h = let r = behind_placed story names labels l more there _ e h.1 in (r.0, omega arith)
behind_placed story names labels l (acts.When t k ∷ more) there at e h = let r = behind_placed story names labels l more there _ e h.1 in (r.0, omega arith)
behind_placed story names labels l (acts.Copy v a ∷ more) there at e h = let r = behind_placed story names labels l more there _ e h.1 in (r.0, omega arith)
behind_placed story names labels l (acts.Compute v f a b ∷ more) there at e h = let r = behind_placed story names labels l more there _ e h.1 in (r.0, omega arith)
behind_placed story names labels l (acts.Write k a b d ∷ more) there at e h = let r = behind_placed story names labels l more there _ e h.1 in (r.0, omega arith)
behind_placed story names labels l (acts.Print k a ∷ more) there at e h = let r = behind_placed story names labels l more there _ e h.1 in (r.0, omega arith)
behind_placed story names labels l (acts.Random v a ∷ more) there at e h = let r = behind_placed story names labels l more there _ e h.1 in (r.0, omega arith)
behind_placed story names labels l (acts.Read v a ∷ more) there at e h = let r = behind_placed story names labels l more there _ e h.1 in (r.0, omega arith)
behind_placed story names labels l (acts.Call v a xs ∷ more) there at e h = let r = behind_placed story names labels l more there _ e h.1 in (r.0, omega arith)
behind_placed story names labels l (acts.Return a ∷ more) there at e h = let r = behind_placed story names labels l more there _ e h.1 in (r.0, omega arith)
behind_placed story names labels l (acts.Quit ∷ more) there at e h = let r = behind_placed story names labels l more there _ e h.1 in (r.0, omega arith)

-- ---- calls

abbrev pub call_op : Option ℕ → Atom → Args → Op
call_op v a xs = variable_op (call_number v) (with_args (operand a) xs) v None

-- the row of a call
abbrev call_row : Option ℕ → Row
call_row (Some v) = record { instr = instrs.Several several.CallVs; fewest = 1; most = 4; store = true; branch = false; text = false }
call_row None = record { instr = instrs.Several several.CallVn; fewest = 1; most = 4; store = false; branch = false; text = false }

call_rows : (v : Option ℕ) (a : Atom) (xs : Args) (names : Names) (labels : ℕ → ℕ) (end : ℕ) (ts : List (Option Target)) → row_by (filled names labels end (call_op v a xs) ts None) ≡ Ok (call_row v)
call_rows (Some v) a xs names labels end ts = refl
call_rows None a xs names labels end ts = refl

abbrev pub many : Args → ℕ
many args.Zero = 1
many (args.One a) = 2
many (args.Two a b) = 3
many (args.Three a b c) = 4

abbrev triple : ℕ → ℕ → ℕ → ℕ × ℕ × ℕ
triple x y z = (x, y, z)

args_values : (p : Program) (s : State) (c : Context) (pc : ℕ) (labels : ℕ → ℕ) (end : ℕ) (v : Option ℕ) (a : Atom) (x : ℕ) (xs : Args) (ys : ℕ × ℕ × ℕ) → value p s a ≡ Some x → arguments p s xs ≡ Some ys → operand_values p.world.layout (machine_at s c pc) (filled p.names labels end (call_op v a xs) (target a ∷ arg_targets xs) None).operands ≡ the_args (args_of (many xs) x ys.0 ys.1 ys.2) (machine_at s c pc)
args_values p s c pc labels end v a x args.Zero ys e f =
    values_one p.world.layout (machine_at s c pc) _ x (operand_is p s c pc labels end a x e)
    ∙ ap (λ (t : ℕ × ℕ × ℕ). the_args (args_of 1 x t.0 t.1 t.2) (machine_at s c pc)) (same_Some (triple 0 0 0) ys f)
args_values p s c pc labels end v a x (args.One b) ys e f =
    let y = bound (value p s b) _ ys f in
    values_two p.world.layout (machine_at s c pc) _ _ x y.x (operand_is p s c pc labels end a x e) (operand_is p s c pc labels end b y.x y.is)
    ∙ ap (λ (t : ℕ × ℕ × ℕ). the_args (args_of 2 x t.0 t.1 t.2) (machine_at s c pc)) (same_Some (triple y.x 0 0) ys y.rest)
args_values p s c pc labels end v a x (args.Two b d) ys e f =
    let y = bound (value p s b) _ ys f in
    let z = bound (value p s d) _ ys y.rest in
    values_three p.world.layout (machine_at s c pc) _ _ _ x y.x z.x (operand_is p s c pc labels end a x e) (operand_is p s c pc labels end b y.x y.is) (operand_is p s c pc labels end d z.x z.is)
    ∙ ap (λ (t : ℕ × ℕ × ℕ). the_args (args_of 3 x t.0 t.1 t.2) (machine_at s c pc)) (same_Some (triple y.x z.x 0) ys z.rest)
args_values p s c pc labels end v a x (args.Three b d h) ys e f =
    let y = bound (value p s b) _ ys f in
    let z = bound (value p s d) _ ys y.rest in
    let u = bound (value p s h) _ ys z.rest in
    values_four p.world.layout (machine_at s c pc) _ _ _ _ x y.x z.x u.x (operand_is p s c pc labels end a x e) (operand_is p s c pc labels end b y.x y.is) (operand_is p s c pc labels end d z.x z.is) (operand_is p s c pc labels end h u.x u.is)
    ∙ ap (λ (t : ℕ × ℕ × ℕ). the_args (args_of 4 x t.0 t.1 t.2) (machine_at s c pc)) (same_Some (triple y.x z.x u.x) ys u.rest)

calls_by : (w : ZGiven) (z : ZState) (end word : ℕ) (v : Option ℕ) (op : Op) (a : ZArgs) (m : Machine) → called w.layout z.machine end op.store a ≡ Ok m → next_by w z (do_instr w.layout word (call_row v).instr op end a z.machine) ≡ on (record z { machine = m })
unfolding do_instr do_several
calls_by w z end word (Some v) op a m e = rw e refl
calls_by w z end word None op a m e = rw e refl

module _ (p : Program) (story : List ℕ) (stands : RoutinesStand p story) where
  abbrev pub base : ℕ
  base = p.world.layout.base

  -- the first instruction of a routine comes next
  pub call_step : (s : State) (c : Context) (labels : ℕ → ℕ) (pc : ℕ) (v : Option ℕ) (x : ℕ) (a : Atom) (xs : Args) (ys : ℕ × ℕ × ℕ) (r : Routine) → Here p story labels s pc (call_op v a xs) (target a ∷ arg_targets xs) None → value p s a ≡ Some x → arguments p s xs ≡ Some ys → StandsAt p story x r → length c.callers + 1 < 8192 → words_in c.callers + length s.locals + r.locals ≤ 65536 →
      zstep p.world (state_at s c pc) ≡ on (state_at (routine_entered s r.locals ys) (within s c (end_at pc (call_op v a xs)) v (many xs - 1)) (8 * x + 1))
  call_step s c labels pc v x a xs ys r here e f at frames room =
      let end = end_at pc (call_op v a xs) in
      by_row p story labels s c pc (call_op v a xs) (target a ∷ arg_targets xs) None (args_of (many xs) x ys.0 ys.1 ys.2) _ stands.laid_out here (args_values p s c pc labels end v a x xs ys e f) (call_rows v a xs p.names labels end (target a ∷ arg_targets xs))
      ∙ calls_by p.world (state_at s c pc) end (word_at p.world s.drawn) v _ (args_of (many xs) x ys.0 ys.1 ys.2) _ (call_enters p.world.layout s c pc end v (many xs) x ys.0 ys.1 ys.2 r.locals at.some frames (kept_get base story s.memory (8 * x) here.kept at.within ∙ at.count) at.few room)

  -- ---- a stretch of acts

  step_follows : (labels : ℕ → ℕ) (c : Context) (o : ActsOutcome) (s' : State) (n : ℕ) (z z1 : ZState) → zstep p.world z ≡ on z1 → Follows p story labels c o s' n z1 → Follows p story labels c o s' (suc n) z
  step_follows labels c o s' n z z1 e h = record { kept = h.kept; comes = comes_step p story labels c o s' n z z1 e h.comes }

  -- a single act is done, and the others stand behind it
  record Done (labels : ℕ → ℕ) (c : Context) (s s1 : State) (pc : ℕ) (more : List Act) : Type 0 where
    next : ℕ
    step : zstep p.world (state_at s c pc) ≡ on (state_at s1 c next)
    placed : OpsAt story p.names labels next (ops_of_acts more)
    from : base ≤ next

  act_done : (c : Context) (labels : ℕ → ℕ) (s s1 : State) (pc : ℕ) (act : Act) (more : List Act) → OpsAt story p.names labels pc (ops_of_acts (act ∷ more)) → base ≤ pc → IsKept base story s.memory → does p act s ≡ Some s1 → Done labels c s s1 pc more
  act_done c labels s s1 pc (acts.Copy v a) more h le k e = record { next = _; step = copy_step p story labels c stands.laid_out s s1 pc v a (record { fits = h.0; kept = k; from = le }) e; placed = h.1; from = omega arith }
  act_done c labels s s1 pc (acts.Compute v f a b) more h le k e = record { next = _; step = compute_step p story labels c stands.laid_out s s1 pc v f a b (record { fits = h.0; kept = k; from = le }) e; placed = h.1; from = omega arith }
  act_done c labels s s1 pc (acts.Write w a b d) more h le k e = record { next = _; step = write_step p story labels c stands.laid_out s s1 pc w a b d (record { fits = h.0; kept = k; from = le }) e; placed = h.1; from = omega arith }
  act_done c labels s s1 pc (acts.Print w a) more h le k e = record { next = _; step = print_step p story labels c stands.laid_out s s1 pc w a (record { fits = h.0; kept = k; from = le }) e; placed = h.1; from = omega arith }
  act_done c labels s s1 pc (acts.Random v a) more h le k e = record { next = _; step = random_step p story labels c stands.laid_out s s1 pc v a (record { fits = h.0; kept = k; from = le }) e; placed = h.1; from = omega arith }
  act_done c labels s s1 pc (acts.Read v a) more h le k e = record { next = _; step = read_step p story labels c stands.laid_out s s1 pc v a (record { fits = h.0; kept = k; from = le }) e; placed = h.1; from = omega arith }
  act_done c labels s s1 pc act more h le k e = absurd (cc)

  -- the room that is left in the routine that is called
  pub room_within : (c : Context) (s : State) (f w f' w' end : ℕ) (v : Option ℕ) (k n : ℕ) (ys : ℕ × ℕ × ℕ) → HasRoom c s f w → f' < f → n + w' ≤ w → n ≤ 15 → HasRoom (within s c end v k) (routine_entered s n ys) f' w'
  room_within c s f w f' w' end v k n ys room lt le few =
      let a = room.frames in
      let b = room.words in
      let l : length (take n (ys.0 ∷ ys.1 ∷ ys.2 ∷ zeros)) ≡ n = length-take n (ys.0 ∷ ys.1 ∷ ys.2 ∷ zeros) ∙ (omega arith) in
      record { frames = omega arith; words = omega arith }

  room_kept : (c : Context) (s s1 : State) (f w : ℕ) → length s1.locals ≡ length s.locals → HasRoom c s f w → HasRoom c s1 f w
  room_kept c s s1 f w e room = let a = room.words in record { frames = room.frames; words = omega arith }

  pub follows : {f w n : ℕ} {body acts : List Act} {s s' : State} {o : ActsOutcome} (c : Context) (labels : ℕ → ℕ) (start pc : ℕ) → OpsAt story p.names labels start (ops_of_acts body) → base ≤ start → OpsAt story p.names labels pc (ops_of_acts acts) → base ≤ pc → IsKept base story s.memory → HasRoom c s f w → ActsRun p f w body acts s o s' n → Follows p story labels c o s' n (state_at s c pc)
  follows c labels start pc pb sb pa ba k room (rests {s = s}) = record { kept = k; comes = record { pc = pc; placed = pa; from = ba; leads = leads_none p.world (state_at s c pc) } }
  follows c labels start pc pb sb pa ba k room (at_label r) = follows c labels start pc pb sb pa.1 ba k room r
  follows {s = s} {s' = s'} {o = o} c labels start pc pb sb pa ba k room (jumps {l = l} {n = n} {body = body} {there = there} e r) =
      let to = behind_placed story p.names labels l body there start e pb in
      step_follows labels c o s' n (state_at s c pc) (state_at s c (labels l)) (goto_step p story labels c stands.laid_out s pc l (record { fits = pa.0; kept = k; from = ba })) (follows c labels start (labels l) pb sb to.0 (omega arith) k room r)
  follows {s = s} {s' = s'} {o = o} c labels start pc pb sb pa ba k room (taken {l = l} {n = n} {test = t} {body = body} {there = there} a e r) =
      let to = behind_placed story p.names labels l body there start e pb in
      step_follows labels c o s' n (state_at s c pc) (state_at s c (labels l)) (taken_step p story labels c stands.laid_out s pc l t (record { fits = pa.0; kept = k; from = ba }) a) (follows c labels start (labels l) pb sb to.0 (omega arith) k room r)
  follows {s = s} {s' = s'} {o = o} c labels start pc pb sb pa ba k room (passed {l = l} {n = n} {test = t} a r) =
      step_follows labels c o s' n (state_at s c pc) (state_at s c _) (passed_step p story labels c stands.laid_out s pc l t (record { fits = pa.0; kept = k; from = ba }) a) (follows c labels start _ pb sb pa.1 (omega arith) k room r)
  follows {s = s} {s' = s'} {o = o} c labels start pc pb sb pa ba k room (done {f = f} {w = w} {n = n} {act = act} {more = more} {s1 = s1} e r) =
      let d = act_done c labels s s1 pc act more pa ba k e in
      let kept = step_kept p.world story (state_at s c pc) (state_at s1 c d.next) stands.laid_out.laid d.step k in
      step_follows labels c o s' n (state_at s c pc) (state_at s1 c d.next) d.step (follows c labels start d.next pb sb d.placed d.from kept (room_kept c s s1 f w (does_keeps p act s s1 e) room) r)
  follows {s = s} {s' = s'} {o = o} c labels start pc pb sb pa ba k room (calls {f = f} {w = w} {f' = f'} {w' = w'} {v = v} {x = x} {y = y} {n = n} {n' = n'} {a = a} {args = xs} {xs = ys} {r = r} {s1 = s1} {s2 = s2} va vs at lt le inner stored rest) =
      let place = stands.each x r at in
      let end = end_at pc (call_op v a xs) in
      let within' = within s c end v (many xs - 1) in
      let fr = room.frames in
      let wr = room.words in
      let begins = call_step s c labels pc v x a xs ys r (record { fits = pa.0; kept = k; from = ba }) va vs place (omega arith) (omega arith) in
      let from = place.within in
      let routine = follows within' place.labels (8 * x + 1) (8 * x + 1) place.code_is (omega arith) place.code_is (omega arith) k (room_within c s f w f' w' end v (many xs - 1) r.locals ys room lt le place.few) inner in
      let put_is = put_if_keeps p v y (left_with s s1) s2 stored in
      let back = routine.comes (machine_at s2 c end) (call_returns p s s1 s2 c end v (many xs - 1) y stored) in
      let back2 = subst (λ (z : ZState). Leads p.world n (state_at (routine_entered s r.locals ys) within' (8 * x + 1)) z) (outside_same (left_with s s1) s2 (machine_at s2 c end) put_is.same) back in
      let all = leads_step p.world n (state_at s c pc) (state_at (routine_entered s r.locals ys) within' (8 * x + 1)) (state_at s2 c end) begins back2 in
      let kept2 = stretch_kept p.world story (suc n) (state_at s c pc) (state_at s2 c end) stands.laid_out.laid all k in
      let later = follows c labels start end pb sb pa.1 (omega arith) kept2 (room_kept c s s2 f w put_is.locals room) rest in
      record { kept = later.kept; comes = comes_then p story labels c o s' (suc n) n' (state_at s c pc) (state_at s2 c end) all later.comes }
  follows {s = s} {s' = s'} c labels start pc pb sb pa ba k room (calls_last {f = f} {w = w} {f' = f'} {w' = w'} {v = v} {x = x} {n = n} {a = a} {args = xs} {xs = ys} {r = r} {halt = halt} va vs at lt le inner) =
      let place = stands.each x r at in
      let end = end_at pc (call_op v a xs) in
      let within' = within s c end v (many xs - 1) in
      let fr = room.frames in
      let wr = room.words in
      let begins = call_step s c labels pc v x a xs ys r (record { fits = pa.0; kept = k; from = ba }) va vs place (omega arith) (omega arith) in
      let from = place.within in
      let routine = follows within' place.labels (8 * x + 1) (8 * x + 1) place.code_is (omega arith) place.code_is (omega arith) k (room_within c s f w f' w' end v (many xs - 1) r.locals ys room lt le place.few) inner in
      record { kept = routine.kept; comes = comes_step p story labels c (Stops halt) s' n (state_at s c pc) (state_at (routine_entered s r.locals ys) within' (8 * x + 1)) begins routine.comes }
  follows c labels start pc pb sb pa ba k room (ends_input {v = v} {x = x} {most = most} {a = a} {s = s} {tried = tried} e r t none) =
      record { kept = k; comes = (state_at s c (end_at pc (read_op p story labels c stands.laid_out v a)), refl, ends_last p.world (state_at s c pc) (state_at s c (end_at pc (read_op p story labels c stands.laid_out v a))) AtInput (input_step p story labels c stands.laid_out s tried pc v x most a (record { fits = pa.0; kept = k; from = ba }) e r t none)) }
  follows c labels start pc pb sb pa ba k room (returns {x = x} {a = a} {s = s} e) =
      record { kept = k; comes = λ m r. leads_step p.world 0 (state_at s c pc) (machine_state s m) (machine_state s m) (return_step p story labels c stands.laid_out s pc x a m (record { fits = pa.0; kept = k; from = ba }) e r) (leads_none p.world (machine_state s m)) }
  follows c labels start pc pb sb pa ba k room (quits {s = s}) =
      record { kept = k; comes = (state_at s c (end_at pc quit_op), refl, ends_last p.world (state_at s c pc) (state_at s c (end_at pc quit_op)) AtQuit (quit_step p story labels c stands.laid_out s pc (record { fits = pa.0; kept = k; from = ba }))) }

-- a whole routine
pub routine_follows : (p : Program) (story : List ℕ) → RoutinesStand p story → (x : ℕ) (r : Routine) → p.routine_at x ≡ Some r → (labels : ℕ → ℕ) → OpsAt story p.names labels (8 * x + 1) (ops_of_acts r.body) → (c : Context) (f w n : ℕ) (s s' : State) (o : ActsOutcome) → IsKept p.world.layout.base story s.memory → HasRoom c s f w → ActsRun p f w r.body r.body s o s' n → Follows p story labels c o s' n (state_at s c (8 * x + 1))
routine_follows p story stands x r at labels placed c f w n s s' o k room runs =
    let place = stands.each x r at in
    let from = place.within in
    follows p story stands c labels (8 * x + 1) (8 * x + 1) placed (omega arith) placed (omega arith) k room runs

-- ---- stretches of acts, one behind another

in_count : (p : Program) (f w n n' : ℕ) (body acts : List Act) (s s' : State) (o : ActsOutcome) → n ≡ n' → ActsRun p f w body acts s o s' n → ActsRun p f w body acts s o s' n'
in_count p f w n n' body acts s s' o e r = subst (λ (i : ℕ). ActsRun p f w body acts s o s' i) e r

same_acts : (xs ys : List Act) → Rests xs ≡ Rests ys → xs ≡ ys
same_acts xs ys e = cc

-- Acts that come to others, and what these come to.
pub runs_then : (p : Program) (m : ℕ) (next : List Act) (s' : State) (o : ActsOutcome) {f w n : ℕ} {body acts : List Act} {s s1 : State} {o1 : ActsOutcome} → o1 ≡ Rests next → ActsRun p f w body acts s o1 s1 n → ActsRun p f w body next s1 o s' m → ActsRun p f w body acts s o s' (n + m)
runs_then p m next s' o e (rests {f = f} {w = w} {body = body} {acts = acts} {s = s}) later = in_count p f w m (0 + m) body acts s s' o (omega arith) (subst (λ (xs : List Act). ActsRun p f w body xs s o s' m) (sym (same_acts acts next e)) later)
runs_then p m next s' o e (at_label r) later = at_label (runs_then p m next s' o e r later)
runs_then p m next s' o e (jumps {f = f} {w = w} {l = l} {n = n} {body = body} {more = more} {s = s} b r) later = in_count p f w (suc (n + m)) (suc n + m) body _ s s' o (omega arith) (jumps b (runs_then p m next s' o e r later))
runs_then p m next s' o e (taken {f = f} {w = w} {n = n} {body = body} {s = s} a b r) later = in_count p f w (suc (n + m)) (suc n + m) body _ s s' o (omega arith) (taken a b (runs_then p m next s' o e r later))
runs_then p m next s' o e (passed {f = f} {w = w} {n = n} {body = body} {s = s} a r) later = in_count p f w (suc (n + m)) (suc n + m) body _ s s' o (omega arith) (passed a (runs_then p m next s' o e r later))
runs_then p m next s' o e (done {f = f} {w = w} {n = n} {body = body} {s = s} d r) later = in_count p f w (suc (n + m)) (suc n + m) body _ s s' o (omega arith) (done d (runs_then p m next s' o e r later))
runs_then p m next s' o e (calls {f = f} {w = w} {n = n} {n' = n'} {body = body} {s = s} va vs at lt le inner stored r) later = in_count p f w (suc n + (n' + m)) (suc n + n' + m) body _ s s' o (omega arith) (calls va vs at lt le inner stored (runs_then p m next s' o e r later))
runs_then p m next s' o e (calls_last va vs at lt le inner) later = absurd (cc)
runs_then p m next s' o e (ends_input v r t none) later = absurd (cc)
runs_then p m next s' o e (returns v) later = absurd (cc)
runs_then p m next s' o e quits later = absurd (cc)
