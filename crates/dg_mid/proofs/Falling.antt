-- A number falls at each step that takes no goal.
use Rattle.std.proofs.Common.{◌≡◌, ℕ, zero, suc, ◌+◌, ◌*◌, ◌<◌, ◌≤◌, List, [], ◌∷◌, Bool, true, false, Option, Some, None, refl, arith, length, map}
use Rattle.std.specs.Prelude.{nat_lt, ◌-◌}
use Rattle.std.specs.List.{zip}
use Rattle.std.proofs.lemmas.Bool.{cond_both}
use Rattle.dg_base.specs.declared.program.Term.{Term}
use Rattle.dg_base.specs.declared.run.Ending.TheVariants as ending
use Rattle.dg_meaning.specs.Values.{Value, value_of}
use Rattle.dg_meaning.specs.Cells.{cells}
use Rattle.dg_meaning.specs.Substitutions.{resolved}
use Rattle.dg_meaning.specs.Unify.{Unified, Equations, solve}
use Rattle.dg_meaning.specs.World.{World, worked, Gathering, gathered_size}
use Rattle.dg_meaning.specs.Numbers.{total}
use Rattle.dg_meaning.specs.Moves.{begun, behind_copy, copy_of, finds_if_set, gives_number}
use Rattle.dg_meaning.specs.Letters.{copied}
use Rattle.dg_meaning.specs.Changes.{found}
use Rattle.dg_meaning.specs.Copies.{list_of}
use Rattle.dg_meaning.specs.Path.{Registers, Unifies}
use Rattle.dg_mid.specs.declared.code.Op.{Op}
use Rattle.dg_mid.specs.declared.code.Op.TheVariants as op
use Rattle.dg_mid.specs.declared.code.Gathered.{Gathered}
use Rattle.dg_mid.specs.declared.code.Gathered.TheVariants as gathered
use Rattle.dg_mid.specs.declared.code.RuleCode.{RuleCode}
use Rattle.dg_mid.specs.Code.{block_at, selected, excluded}
use Rattle.dg_mid.specs.State.{Place, Frame, Call, Find, Goes, Calls, Tries, Choice, Mid, Status, Runs, Enters, Resumes, Fails, Ended, place_of, inner_for, cut_choices, Takes}
use Rattle.dg_mid.specs.Step.{Setting, trying, tries, done, made_in, gathers, taken_out, charged, unified, bound, trail_more, if_agreed, enters, begins, returned, returns, commits, refuses, leaves, keeps, new_frame, runs, entered, enter, resumed, goes_back, step, first_of, inside, passed, at_rule, at_goal, takes_goal, keeps_value, takes, newest_with, takes_newest}
use Rattle.dg_mid.specs.Potential.{begins_goto, Tidy, IsOver}
use Rattle.dg_mid.specs.Actions.{registers_of, world_of, world_by, lasting_in}
use Rattle.dg_mid.specs.Falling.{jumping, frames_deep, deep, times, choices_left, left_at}

times_more : (m n k : ℕ) → m ≤ n → times m k ≤ times n k
times_more zero n k le = omega arith
times_more (suc m) zero k le = absurd (omega (arith, le))
times_more (suc m) (suc n) k le = let h = times_more m n k (omega (arith, le)) in omega (arith, h)

cut_left : (p : Place) (cs : List Choice) → choices_left (cut_choices p cs) ≤ choices_left cs
cut_left p [] = omega arith
cut_left p (c ∷ cs) = cond_both (nat_lt c.place.tag p.tag) (c ∷ cs) (cut_choices p cs) (λ l. choices_left l ≤ choices_left (c ∷ cs)) (λ e. omega arith) (λ e. let h = cut_left p cs in omega (arith, h))

-- jumping is one at most
jumping_one : (ops : List Op) → jumping ops ≤ 1
jumping_one [] = omega arith
jumping_one (op.Goto b ∷ ops) = omega arith
jumping_one (x ∷ ops) = omega arith

no_jump : (ops : List Op) → begins_goto ops ≡ false → jumping ops ≡ 0
no_jump [] e = refl
no_jump (op.Goto b ∷ ops) e = absurd (cc (e))
no_jump (x ∷ ops) e = refl

selected_fewer : (a : Option Value) (rs : List RuleCode) → length (selected a rs) ≤ length rs
selected_fewer a [] = omega arith
selected_fewer a (r ∷ rs) = cond_both (excluded a r.key) (selected a rs) (r ∷ rs) (λ l. length l ≤ length (r ∷ rs)) (λ e. let h = selected_fewer a rs in omega (arith, h)) (λ e. omega arith)

charged_less : (g : Setting) (n : ℕ) (m : Mid) (next : Status) (k : ℕ) → left_at next < k → left_at (charged g n m next) < k
charged_less g zero m next k h = h
charged_less g (suc n) m next k h = cond_both (nat_lt g.limits.heap (m.state.heap + suc n)) (Ended ending.HeapLimit) next (λ s. left_at s < k) (λ e. omega (arith, h)) (λ e. h)

agreed_less : (b : Bool) (m : Mid) (next : Status) (k : ℕ) → 1 + choices_left m.choices < k → left_at next < k → left_at (if_agreed b m next) < k
agreed_less true m next k a h = h
agreed_less false m next k a h = a

unified_less : (g : Setting) (u : Unified) (m : Mid) (next : Status) (k : ℕ) → 1 + choices_left m.choices < k → left_at next < k → left_at (unified g u m next) < k
unified_less g u m next k a h = cond_both (nat_lt g.limits.trail (trail_more m.state u)) (Ended ending.TrailLimit) (if_agreed u.agrees (bound u m) next) (λ s. left_at s < k) (λ e. omega (arith, h)) (λ e. agreed_less u.agrees (bound u m) next k a h)

enters_less : (g : Setting) (call : Call) (r : RuleCode) (rs : List RuleCode) (m : Mid) (n : ℕ) → length rs ≤ n → left_at (enters g call r rs m) < times (suc (suc n)) (2 * deep m.frames m.inner + 8) + choices_left m.choices
enters_less g call r [] m n le = omega arith
enters_less g call r (q ∷ qs) m n le =
    let more = times_more (suc (length (q ∷ qs))) (suc n) (2 * deep m.frames m.inner + 8) (omega (arith, le)) in
    charged_less g (10 + length call.args) m (Enters call (inside (Calls call (q ∷ qs)) (length call.args) (at_rule g r m))) _ (omega (arith, more))

begins_less : (g : Setting) (call : Call) (rs : List RuleCode) (m : Mid) → left_at (begins g call rs m) < left_at (Resumes (Calls call rs) m)
begins_less g call [] m = omega arith
begins_less g call (r ∷ rs) m = enters_less g call r (selected (first_of m.state.subst call) rs) m (length rs) (selected_fewer (first_of m.state.subst call) rs)

enter_less : (g : Setting) (call : Call) (vars : ℕ) (head : List Term) (m : Mid) → left_at (enter g call vars head m) < left_at (Enters call m)
enter_less g call vars head m =
    let k = 6 + vars + cells g.game.program head in
    let f = new_frame call vars m in
    let m' : Mid = record m { state = record m.state { vars = m.state.vars + vars; heap = m.state.heap + k } } in
    let u = solve m.state.subst (zip call.args (map (value_of g.game.program f.vars) head)) in
    let one = jumping_one m.ops in
    charged_less g k m _ _ (unified_less g u m' (Runs (record (bound u m') { frames = f ∷ m.frames; inner = [] })) _ (omega arith) (omega (arith, one)))

entered_less : (g : Setting) (call : Call) (ops : List Op) (m : Mid) → left_at (entered g call ops m) < left_at (Enters call m)
entered_less g call [] m = omega arith
entered_less g call (op.Enter vars head ∷ ops) m = enter_less g call vars head (record m { ops = ops })
entered_less g call (x ∷ ops) m = omega arith

made_less : (g : Setting) (made : Registers) (es : Equations) (w : World) (m : Mid) (k : ℕ) → 1 + choices_left m.choices < k → 2 * deep m.frames m.inner + 2 + jumping m.ops + choices_left m.choices < k → left_at (done g (Unifies made es w) m) < k
made_less g made es w m k a h =
    let m' = made_in made (lasting_in w m) in
    charged_less g (made.heap - m.state.heap) m _ k (unified_less g (solve made.bound es) m' (Runs (bound (solve made.bound es) m')) k a h)

number_less : (g : Setting) (o : Option ℕ) (into : Value) (r : Registers) (w : World) (m : Mid) (k : ℕ) → 1 + choices_left m.choices < k → 2 * deep m.frames m.inner + 2 + jumping m.ops + choices_left m.choices < k → left_at (done g (gives_number o into r w) m) < k
number_less g None into r w m k a h = a
number_less g (Some n) into r w m k a h = made_less g r _ w m k a h

taken_less : (g : Setting) (whole : Gathered) (into : Value) (vs : List Value) (m : Mid) (k : ℕ) → 1 + choices_left m.choices < k → 2 * deep m.frames m.inner + 2 + jumping m.ops + choices_left m.choices < k → left_at (done g (taken_out [] whole into vs m) m) < k
taken_less g gathered.List into vs m k a h =
    let r = registers_of m in
    made_less g (behind_copy (list_of vs) r) ((into, copy_of (list_of vs) r) ∷ []) (world_by (taken_out [] gathered.List into vs m)) m k a h
taken_less g gathered.Sum into vs m k a h = let r = registers_of m in number_less g (total vs) into r (begun r (length vs) (world_of [] m)) m k a h

resumed_less : (g : Setting) (b : ℕ) (ops : List Op) (m : Mid) → ((alt : ℕ) (rest : List Op) → ops ≡ op.Retry alt ∷ rest → alt < b) → left_at (resumed g ops m) < left_at (Resumes (Goes b) m)
resumed_less g b [] m earlier = omega arith
resumed_less g b (op.Retry alt ∷ ops) m earlier =
    let less = earlier alt ops refl in
    let more = times_more (suc (suc alt)) (suc b) (2 * deep m.frames m.inner + 8) (omega (arith, less)) in
    let one = jumping_one ops in
    charged_less g 10 m _ _ (omega (arith, more, one))
resumed_less g b (x ∷ ops) m earlier = let one = jumping_one (x ∷ ops) in omega (arith, one)

newest_less : (g : Setting) (whole : Gathered) (into : Value) (gs : List Gathering) (m : Mid) → left_at (takes_newest g whole into gs m) < 2 * deep m.frames m.inner + 8 + choices_left m.choices
newest_less g whole into [] m = omega arith
newest_less g whole into (x ∷ xs) m = let one = jumping_one m.ops in taken_less g whole into x.values (passed (record m { gathered = xs })) _ (omega arith) (omega (arith, one))

takes_less : (g : Setting) (b : ℕ) (into : Value) (ops : List Op) (m : Mid) → left_at (takes g into ops m) < left_at (Resumes (Takes b into) m)
takes_less g b into [] m = omega arith
takes_less g b into (op.TakeOut whole t ∷ ops) m = let h = newest_less g whole into m.gathered (record m { ops = ops }) in omega (arith, h)
takes_less g b into (x ∷ ops) m = omega arith

returned_less : (g : Setting) (b : Bool) (f : Frame) (fs : List Frame) (m : Mid) (k : ℕ) → jumping (block_at g.code f.next) ≡ 0 → 2 * (length f.inner + frames_deep fs) + 2 + choices_left m.choices < k → left_at (Runs (returned g b f fs m)) < k
returned_less g true f fs m k none h = omega (arith, none, h)
returned_less g false f fs m k none h = let cut = cut_left f.cut m.choices in omega (arith, none, h, cut)

returns_less : (g : Setting) (frames : List Frame) (m : Mid) → Tidy g.code → left_at (returns g frames m) < 2 * (length m.inner + frames_deep frames) + 2 + choices_left m.choices
returns_less g [] m code = omega arith
returns_less g (f ∷ fs) m code = returned_less g f.many f fs m _ (no_jump (block_at g.code f.next) (code.no_jumps f.next)) (omega arith)

commits_less : (ps : List Place) (m : Mid) → left_at (commits ps m) < 2 * (length ps + frames_deep m.frames) + 2 + choices_left m.choices
commits_less [] m = omega arith
commits_less (p ∷ ps) m = let one = jumping_one m.ops in let cut = cut_left p m.choices in omega (arith, one, cut)

leaves_less : (ps : List Place) (m : Mid) → left_at (leaves ps m) < 2 * (length ps + frames_deep m.frames) + 2 + choices_left m.choices
leaves_less [] m = omega arith
leaves_less (p ∷ ps) m = let one = jumping_one m.ops in let cut = cut_left p m.choices in omega (arith, one, cut)

refuses_less : (ps : List Place) (m : Mid) → left_at (refuses ps m) < 2 * (length ps + frames_deep m.frames) + 2 + choices_left m.choices
refuses_less [] m = omega arith
refuses_less (p ∷ ps) m = let cut = cut_left p m.choices in omega (arith, cut)

gathers_less : (g : Setting) (gs : List Gathering) (next : Status) (k : ℕ) → 0 < k → left_at next < k → left_at (gathers g gs next) < k
gathers_less g gs next k a h = cond_both (nat_lt g.limits.aux (gathered_size gs)) (Ended ending.AuxLimit) next (λ s. left_at s < k) (λ e. a) (λ e. h)

value_less : (g : Setting) (o : Option Value) (m : Mid) → left_at (keeps_value g o m) < 2 + choices_left m.choices
value_less g None m = omega arith
value_less g (Some v) m =
    let gs = newest_with (resolved m.state.subst v) m.gathered in
    gathers_less g gs (Fails (record m { gathered = gs })) _ (omega arith) (omega arith)

keeps_less : (g : Setting) (ps : List Place) (m : Mid) → left_at (keeps g ps m) < 2 * (length ps + frames_deep m.frames) + 2 + choices_left m.choices
keeps_less g [] m = omega arith
keeps_less g (p ∷ ps) m = let h = value_less g p.gathers (record m { inner = ps }) in omega (arith, h)

runs_less : (g : Setting) (ops : List Op) (m : Mid) → Tidy g.code → at_goal ops ≡ false → left_at (runs g ops m) < 2 * deep m.frames m.inner + 2 + jumping ops + choices_left m.choices
runs_less g [] m code e = omega arith
runs_less g (op.Commit ∷ ops) m code e = let h = commits_less m.inner (record m { ops = ops }) in omega (arith, h)
runs_less g (op.Leave ∷ ops) m code e = let h = leaves_less m.inner (record m { ops = ops }) in omega (arith, h)
runs_less g (op.Refuse ∷ ops) m code e = let h = refuses_less m.inner (record m { ops = ops }) in omega (arith, h)
runs_less g (op.Keep t ∷ ops) m code e = let h = keeps_less g m.inner (record m { ops = ops }) in omega (arith, h)
runs_less g (op.Back ∷ ops) m code e = omega arith
runs_less g (op.Return ∷ ops) m code e = let h = returns_less g m.frames (record m { ops = ops }) code in omega (arith, h)
runs_less g (op.Done ∷ ops) m code e = omega arith
runs_less g (op.Goto b ∷ ops) m code e = let none = no_jump (block_at g.code b) (code.no_jumps b) in omega (arith, none)
runs_less g (op.Retry alt ∷ ops) m code e = omega arith
runs_less g (op.Enter vars head ∷ ops) m code e = omega arith
runs_less g (op.TakeOut whole into ∷ ops) m code e = omega arith
runs_less g (x ∷ ops) m code e = absurd (cc (e))

goes_back_less : (cs : List Choice) (m : Mid) → left_at (goes_back cs m) < 1 + choices_left cs
goes_back_less [] m = omega arith
goes_back_less (c ∷ cs) m = omega arith

found_less : (g : Setting) (args : List Value) (o : ℕ) (y : Option Value) (r : Registers) (w : World) (m : Mid) (k : ℕ) → 1 + choices_left m.choices < k → 2 * deep m.frames m.inner + 2 + jumping m.ops + choices_left m.choices < k → left_at (done g (finds_if_set args o r y w) m) < k
found_less g args o None r w m k a h = a
found_less g [] o (Some y) r w m k a h = a
found_less g (v ∷ []) o (Some y) r w m k a h = made_less g r _ w m k a h
found_less g (v ∷ u ∷ args) o (Some y) r w m k a h = made_less g (behind_copy y r) _ (worked (copied y) w) m k a h

inner_more : (many : Bool) (p : Place) (inner : List Place) → length (inner_for many p inner) ≤ 1 + length inner
inner_more true p inner = omega arith
inner_more false p inner = omega arith

tries_less : (g : Setting) (f : Find) (os : List ℕ) (m : Mid) → left_at (tries g f os m) < left_at (Resumes (Tries f os) m)
tries_less g f [] m = omega arith
tries_less g f (o ∷ []) m =
    let m' = trying g f [] m in
    let one = jumping_one (block_at g.code f.next) in
    let few = inner_more f.many (place_of m) m.inner in
    found_less g f.args o (found m.lasting.facts f.place o) (registers_of m') (begun (registers_of m') 1 (world_of [] m')) m' _ (omega arith) (omega (arith, one, few))
tries_less g f (o ∷ p ∷ os) m =
    let m' = trying g f (p ∷ os) m in
    let one = jumping_one (block_at g.code f.next) in
    let few = inner_more f.many (place_of m) m.inner in
    charged_less g (10 + length f.args) m _ _ (found_less g f.args o (found m.lasting.facts f.place o) (registers_of m') (begun (registers_of m') 1 (world_of [] m')) m' _ (omega arith) (omega (arith, one, few)))

pub step_falls : (g : Setting) (now : Status) → Tidy g.code → takes_goal now ≡ false → (IsOver now → ⊥) → left_at (step g now) < left_at now
step_falls g (Runs m) code e on = runs_less g m.ops m code e
step_falls g (Enters call m) code e on = entered_less g call m.ops m
step_falls g (Resumes (Goes b) m) code e on = resumed_less g b (block_at g.code b) m (code.earlier b)
step_falls g (Resumes (Takes b into) m) code e on = takes_less g b into (block_at g.code b) m
step_falls g (Resumes (Calls call rules) m) code e on = begins_less g call rules m
step_falls g (Resumes (Tries f os) m) code e on = tries_less g f os m
step_falls g (Fails m) code e on = goes_back_less m.choices m
step_falls g (Ended x) code e on = absurd (on tt)
