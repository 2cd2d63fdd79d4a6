-- What is left, called and entered.
use Rattle.std.proofs.Common.{◌≡◌, ℕ, suc, ◌+◌, ◌-◌, ◌<◌, ◌≤◌, List, [], ◌∷◌, Some, None, Bool, true, false, refl, sym, ap, ◌∙◌, subst, arith, length, drop, take, nat_lt, reverse, vec_capacity, length-drop, get_or}
use Rattle.std.proofs.Math.Seq.{take-length}
use Rattle.std.specs.Borrow.{Bor}
use Rattle.std.proofs.lemmas.Bool.{cond-true, cond-false, lt-ltb, le-ltb}
use Rattle.std.specs.List.{zip}
use Rattle.std.proofs.Common.{Option, map}
use Rattle.dg_base.specs.declared.run.Limits.{Limits}
use Rattle.dg_base.specs.declared.run.Ending.TheVariants as ending
use Rattle.dg_base.specs.declared.program.Term.{Term}
use Rattle.dg_meaning.specs.Unify.{Unified, solve}
use Rattle.dg_meaning.specs.Values.{Value, value_of}
use Rattle.dg_meaning.specs.Cells.{cells}
use Rattle.dg_meaning.specs.Moves.{new_vars}
use Rattle.dg_meaning.specs.World.{Game}
use Rattle.dg_unify.specs.Store.{State, Store}
use Rattle.dg_unify.specs.declared.bindings.View.{View}
use Rattle.dg_arena.specs.Held.{meaning_of}
use Rattle.dg_mid.specs.declared.code.Op.{Op}
use Rattle.dg_mid.specs.declared.code.Op.TheVariants as op
use Rattle.dg_mid.specs.declared.code.Code.{Code}
use Rattle.dg_mid.specs.declared.code.RuleCode.{RuleCode}
use Rattle.dg_mid.specs.Code.{block_at, rules_at, selected}
use Rattle.dg_mid.specs.State.{Mid, Frame as FrameOf, Call as CallOf, Choice as ChoiceOf, Way as WayOf, Target, Goes as GoesOf, Calls as CallsOf, Status, Runs as RunsOf, Enters as EntersOf, Fails as FailsOf, Ended as EndedOf}
use Rattle.dg_mid.specs.Step.{Setting, setting, back_at, cut_to, bound, unified, trail_more, inside, passed, at_rule, begins, enters as enters_of, first_of, if_agreed, enter, entered, returns, returned, resumed, goes_on, goes_back, call_of, asks, asks_last, last, calls as calls_of}
use Rattle.dg_mid.specs.Heights.{AgreeAll, FramesNamed, MidOrdered}
use Rattle.dg_mid.specs.Potential.{Tidy, begins_goto}
use Rattle.dg_machine.specs.declared.now.Frame.{Frame}
use Rattle.dg_machine.specs.declared.now.Call.{Call}
use Rattle.dg_machine.specs.declared.now.Way.{Way}
use Rattle.dg_machine.specs.declared.now.Way.TheVariants.{Goes, Calls}
use Rattle.dg_machine.specs.declared.now.Now.{Now}
use Rattle.dg_machine.specs.declared.now.Now.TheVariants.{Runs, Enters, Resumes, Fails, Ended}
use Rattle.dg_machine.specs.declared.memory.Memory.{Memory}
use Rattle.dg_machine.specs.declared.tables.Tables.{Tables}
use Rattle.dg_machine.specs.Tables.{IsOf}
use Rattle.dg_machine.specs.Links.{named, below}
use Rattle.dg_machine.specs.Stops.{tags_of}
use Rattle.dg_machine.specs.Built.{AreArguments, OpBuilt, OpsBuilt, IsBuilt}
use Rattle.dg_machine.specs.Refs.{RefsAt}
use Rattle.dg_machine.specs.Passing.{codes_from, IsFirst}
use Rattle.dg_machine.specs.Layout.{Holds, Roomy, Lacks, CallAt, RulesAt, WayAt, Opened, WentBack, Matched, Unmatched, headed_state, in_frame, last_rules, heap_in}
use Rattle.dg_machine.specs.Measure.{way_left, choices_left, with_way}
use Rattle.dg_unify.specs.declared.bindings.Ref.{Ref}
use Rattle.dg_machine.specs.Standing.{CodeIs, Stands, Falls, EntersWith, EntersIn, CallBegins, CallsRules}
use Rattle.dg_machine.proofs.Kept.{call_kept}
use Rattle.dg_machine.proofs.Opens.{left_more}
use Rattle.dg_mid.proofs.RulesLeft.{EndsIn, ends_on, selected_end, next_end, no_longer}
use Rattle.dg_machine.proofs.PassedRules.{codes_selected, last_end, AreLast, are_last}
use Rattle.dg_machine.proofs.Hands.{some_frame, no_frame, no_jump, few, at_most_one}
use Rattle.dg_machine.proofs.Leads.{was_cut, charged_within, charged_stands, full_stands, height_now, way_held, call_held}

-- ## The answer of a rule

-- the newest frame is left
pub record LeftFrame (code : Code) (l : Limits) (r new : Memory) (frame : Frame) (m : Mid) : Type 0 where
  pub newest : FrameOf
  pub behind : List FrameOf
  pub is : m.frames ≡ newest ∷ behind
  pub next : newest.next ≡ frame.next
  pub many : newest.many ≡ frame.many
  pub cut : newest.cut.height ≡ frame.cut
  pub named_cut : AgreeAll m.choices newest.cut
  pub held : Holds code l new (record m { frames = behind; inner = newest.inner })
  pub older : frame.behind < r.frame

pub left_frame : (code : Code) (l : Limits) (m : Mid) (frame : Frame) (r : Memory) → MidOrdered m → Holds code l r m → named r.frames.items r.frame ≡ Some frame → LeftFrame code l r (record r { frame = frame.behind; inner = frame.inner }) frame m
left_frame code l m frame r o h is =
    let x = some_frame (meaning_of r.arena) (tags_of m.stops) r.inners.items r.frames.items r.frame frame m.frames is h.0.frames_are in
    let named_all : FramesNamed m.next_tag m.state.heap m.choices (x.newest ∷ x.behind) = subst (FramesNamed m.next_tag m.state.heap m.choices) x.is o.named.frames_are in
    record {
      newest = x.newest;
      behind = x.behind;
      is = x.is;
      next = x.next;
      many = x.many;
      cut = x.cut;
      named_cut = named_all.0.agrees;
      held = (record { saves = h.0.saves; stand = h.0.stand; state_is = h.0.state_is; limits = h.0.limits; frames_are = x.behind_is; inner_are = x.inner_is; stop_is = h.0.stop_is; choices_are = h.0.choices_are; room = record { frames_fit = h.0.room.frames_fit; inners_fit = h.0.room.inners_fit; choices_fit = h.0.room.choices_fit; stops_fit = h.0.room.stops_fit; frames_few = h.0.room.frames_few; inners_few = h.0.room.inners_few; choices_few = h.0.room.choices_few; stops_few = h.0.room.stops_few; refs = h.0.room.refs } }, h.1);
      older = x.older;
    }

-- the code of a block that is built
pub block_is : (code : Code) (b : ℕ) (ops : List Op) (m : Mid) → IsBuilt code → ops ≡ block_at code b → m.ops ≡ block_at code b → CodeIs ops m
block_is code b ops m built is at = (at ∙ sym is, subst OpsBuilt (sym is) (built.blocks b))

no_jump_at : (code : Code) (b : ℕ) (ops : List Op) → Tidy code → ops ≡ block_at code b → begins_goto ops ≡ false
no_jump_at code b ops tidy is = subst (λ l. begins_goto l ≡ false) (sym is) (tidy.no_jumps b)

module _ (code : Code) (g : Game) (l : Limits) (m : Mid) (frame : Frame) (r new : Memory) (ops block : Bor (List Op)) (built : IsBuilt code) (tidy : Tidy code) (is : block.now ≡ block_at code frame.next) where
  abbrev set_a : Setting
  set_a = setting g code l

  -- where memory holds what is behind the rule, the number that falls has fallen
  falls_behind : (m' : Mid) → Holds code l new m' → new.frame < r.frame → choices_left new.choices.items ≤ choices_left r.choices.items → Falls code l r (Runs ops) new (Runs block) (RunsOf (record m' { ops = block_at code frame.next }))
  falls_behind m' h older fewer =
      let none = no_jump block.now (no_jump_at code frame.next block.now tidy is) in
      let bounds = few code l new m' h in
      let inner = bounds.inner in
      record { stands = (block_is code frame.next block.now (record m' { ops = block_at code frame.next }) built is refl, h); falls = omega (arith, none, inner, older, fewer) }

  pub answered_all : (x : LeftFrame code l r new frame m) → frame.many ≡ true → new.frame ≡ frame.behind → new.choices ≡ r.choices → Falls code l r (Runs ops) new (Runs block) (returns set_a m.frames m)
  answered_all x many at same =
      let older = x.older in
      let fewer : choices_left new.choices.items ≤ choices_left r.choices.items = let e = ap (λ v. choices_left v.items) same in omega (arith, e) in
      subst (λ fs. Falls code l r (Runs ops) new (Runs block) (returns set_a fs m)) (sym x.is)
      (subst (λ b. Falls code l r (Runs ops) new (Runs block) (RunsOf (returned set_a b x.newest x.behind m))) (sym (x.many ∙ many))
      (subst (λ b. Falls code l r (Runs ops) new (Runs block) (RunsOf (record m { ops = block_at code b; frames = x.behind; inner = x.newest.inner }))) (sym x.next)
      (falls_behind (record m { frames = x.behind; inner = x.newest.inner }) x.held (omega (arith, older, at)) fewer)))

  pub answered_one : (mid : Memory) (x : LeftFrame code l r mid frame m) → frame.many ≡ false → new.frame ≡ frame.behind → Holds code l new (cut_to x.newest.cut (record m { frames = x.behind; inner = x.newest.inner })) → choices_left new.choices.items ≤ choices_left r.choices.items → Falls code l r (Runs ops) new (Runs block) (returns set_a m.frames m)
  answered_one mid x many at held fewer =
      let older = x.older in
      subst (λ fs. Falls code l r (Runs ops) new (Runs block) (returns set_a fs m)) (sym x.is)
      (subst (λ b. Falls code l r (Runs ops) new (Runs block) (RunsOf (returned set_a b x.newest x.behind m))) (sym (x.many ∙ many))
      (subst (λ b. Falls code l r (Runs ops) new (Runs block) (RunsOf (cut_to x.newest.cut (record m { ops = block_at code b; frames = x.behind; inner = x.newest.inner })))) (sym x.next)
      (falls_behind (cut_to x.newest.cut (record m { frames = x.behind; inner = x.newest.inner })) held (omega (arith, older, at)) fewer)))

pub not_answered : (code : Code) (g : Game) (l : Limits) (m : Mid) (r : Memory) (ops : Bor (List Op)) → Holds code l r m → named r.frames.items r.frame ≡ None → Falls code l r (Runs ops) r Fails (returns (setting g code l) m.frames m)
not_answered code g l m r ops h is = subst (λ fs. Falls code l r (Runs ops) r Fails (returns (setting g code l) fs m)) (sym (no_frame (meaning_of r.arena) (tags_of m.stops) r.inners.items r.frames.items r.frame m.frames is h.0.frames_are)) (record { stands = h; falls = omega arith })

-- ## Calls

module _ (code : Code) (g : Game) (l : Limits) (m : Mid) (k : Call) (pred left : ℕ) (r new : Memory) (block : Bor (List Op)) (built : IsBuilt code) (h : Holds code l r m) where
  abbrev set_b : Setting
  set_b = setting g code l

  abbrev s_b : Store
  s_b = meaning_of r.arena

  pub calls_none : (c : CallOf) → CallBegins code l r k pred left r Fails (begins set_b c [] m)
  calls_none c = record { stands = h; falls = omega arith }

  -- the only rule that is left is entered
  pub enters_last : (c : CallOf) (rule : RuleCode) (rules : List RuleCode) → length rules ≡ 0 → CallAt s_b r.args.items k c → block.now ≡ block_at code rule.block → CallBegins code l r k pred 1 (record r { call = k }) (Enters block) (enters_of set_b c rule rules m)
  enters_last c rule [] none at is = record { stands = (block_is code rule.block block.now (passed (at_rule set_b rule m)) built is refl, at, call_held code l r (passed (at_rule set_b rule m)) k h); falls = omega arith }
  enters_last c rule (q ∷ qs) none at is = absurd (omega (arith, none))

  -- the first of several is entered
  pub enters_first : (c : CallOf) (rule : RuleCode) (rules : List RuleCode) (n : ℕ) → 1 ≤ length rules → n ≡ length c.args → CallAt s_b r.args.items k c → block.now ≡ block_at code rule.block → Holds code l new (inside (CallsOf c rules) n m) → Opened (Calls k pred left) n r new → CallBegins code l r k pred (suc left) (record new { call = k }) (Enters block) (enters_of set_b c rule rules m)
  enters_first c rule [] n some count at is held o = absurd (omega (arith, some))
  enters_first c rule (q ∷ qs) n some count at is held o =
      let held' : Holds code l new (inside (CallsOf c (q ∷ qs)) (length c.args) m) = subst (λ i. Holds code l new (inside (CallsOf c (q ∷ qs)) i m)) count held in
      let m' = inside (CallsOf c (q ∷ qs)) (length c.args) m in
      let left_now : choices_left new.choices.items ≡ choices_left r.choices.items + suc left = ap choices_left o.choices ∙ left_more r.choices.items o.choice ∙ ap (λ w. choices_left r.choices.items + way_left w) o.goes in
      let here : CallAt (meaning_of new.arena) new.args.items k c = subst (λ v. CallAt (meaning_of new.arena) v k c) (sym (ap (λ v. v.items) o.args)) (call_kept s_b (meaning_of new.arena) r.args.items k c o.values at) in
      record {
        stands = charged_stands code g l (10 + length c.args) m (record m' { ops = block_at code rule.block }) (EntersOf c (record m' { ops = block_at code rule.block })) (record new { call = k }) (Enters block) (call_held code l new m' k held') refl
            (block_is code rule.block block.now (record m' { ops = block_at code rule.block }) built is refl, here, call_held code l new (record m' { ops = block_at code rule.block }) k held');
        falls = omega (arith, left_now);
      }

  pub enters_not : (c : CallOf) (rule : RuleCode) (rules : List RuleCode) (n : ℕ) → 1 ≤ length rules → n ≡ length c.args → Lacks (10 + n) l m.state.heap new → CallBegins code l r k pred (suc left) new (Ended ending.HeapLimit) (enters_of set_b c rule rules m)
  enters_not c rule [] n some count over = absurd (omega (arith, some))
  enters_not c rule (q ∷ qs) n some count over = record {
    stands = full_stands code g l (10 + length c.args) m (EntersOf c (inside (CallsOf c (q ∷ qs)) (length c.args) (at_rule set_b rule m))) r new h (subst (λ i. Lacks (10 + i) l m.state.heap new) count over);
    falls = omega arith;
  }

-- a call with fewer rules left has fallen further
pub begins_on : (code : Code) (l : Limits) (r new : Memory) (k : Call) (pred n left : ℕ) (now : Now) (s : Status) → n ≤ left → CallBegins code l r k pred n new now s → CallBegins code l r k pred left new now s
begins_on code l r new k pred n left now s le x = let falls = x.falls in record { stands = x.stands; falls = omega (arith, falls, le) }

-- the first argument of a call, as memory holds it
pub selected_in : (code : Code) (l : Limits) (m : Mid) (r : Memory) (first : Option View) (c : CallOf) (rules : List RuleCode) → Holds code l r m → IsFirst (meaning_of r.arena) r.args.items first → RefsAt (meaning_of r.arena) r.args.items c.args → codes_from first rules ≡ selected (first_of m.state.subst c) rules
selected_in code l m r first c rules h is at = codes_selected (meaning_of r.arena) r.args.items first c is at rules ∙ ap (λ (s : State). selected (first_of s.subst c) rules) h.0.state_is

-- ## Entering

pub split_list : {A : Type 0} (xs : List A) (x : A) → 1 ≤ length xs → x ≡ get_or xs 0 x → xs ≡ x ∷ take (length xs - 1) (drop 1 xs)
split_list [] x le e = absurd (omega (arith, le))
split_list (y ∷ ys) x le e =
    let one : length (y ∷ ys) - 1 ≡ length ys = omega arith in
    ap (λ z. z ∷ ys) (sym e) ∙ ap (λ l. x ∷ l) (sym (ap (λ n. take n ys) one ∙ take-length ys))

pub unified_on : (g : Setting) (u : Unified) (m : Mid) (next : Status) → trail_more m.state u ≤ g.limits.trail → unified g u m next ≡ if_agreed u.agrees (bound u m) next
unified_on g u m next le = cond-false (nat_lt g.limits.trail (trail_more m.state u)) (EndedOf ending.TrailLimit) (if_agreed u.agrees (bound u m) next) (le-ltb g.limits.trail (trail_more m.state u) le)

pub unified_off : (g : Setting) (u : Unified) (m : Mid) (next : Status) → g.limits.trail < trail_more m.state u → unified g u m next ≡ EndedOf ending.TrailLimit
unified_off g u m next lt = cond-true (nat_lt g.limits.trail (trail_more m.state u)) (EndedOf ending.TrailLimit) (if_agreed u.agrees (bound u m) next) (lt-ltb g.limits.trail (trail_more m.state u) lt)

module _ (code : Code) (g : Game) (l : Limits) (m : Mid) (k : Call) (c : CallOf) (vars : ℕ) (head : List Term) (r new : Memory) (ops rest : Bor (List Op)) (at : CodeIs rest.now m) (h : Holds code l r m) where
  abbrev set_c : Setting
  set_c = setting g code l

  abbrev made : List Value
  made = new_vars vars m.state.vars

  -- the cells of the rule, and the machine with its variables and its head
  abbrev cells_c : ℕ
  cells_c = 6 + vars + cells g.program head

  abbrev made_mid : Mid
  made_mid = record m { state = headed_state vars (cells g.program head) m.state }

  abbrev u_c : Unified
  u_c = solve m.state.subst (zip c.args (map (value_of g.program made) head))

  abbrev next_c : Status
  next_c = RunsOf (in_frame c made (bound u_c made_mid))

  pub enters_full : Lacks cells_c l m.state.heap new → Falls code l r (Enters ops) new (Ended ending.HeapLimit) (enter set_c c vars head m)
  enters_full over = record { stands = full_stands code g l cells_c m (unified set_c u_c made_mid next_c) r new h over; falls = omega arith }

  -- what the unification leads to is stood for, where its cells were taken
  led_to : (now : Now) → m.state.heap + cells_c ≤ l.heap → Stands code l new now (unified set_c u_c made_mid next_c) → Stands code l new now (enter set_c c vars head m)
  led_to now within stands = charged_within code g l cells_c m (unified set_c u_c made_mid next_c) new now within stands

  pub enters_unmatched : m.state.heap + cells_c ≤ l.heap → Unmatched l u_c made_mid new → Falls code l r (Enters ops) new (Ended ending.TrailLimit) (enter set_c c vars head m)
  enters_unmatched within x = record {
    stands = led_to (Ended ending.TrailLimit) within (subst (Stands code l new (Ended ending.TrailLimit)) (sym (unified_off set_c u_c made_mid next_c x.over)) (refl, x.roomy));
    falls = omega arith;
  }

  pub enters_clash : (b : Bool) → b ≡ false → m.state.heap + cells_c ≤ l.heap → Matched code l u_c made_mid new b → new.choices ≡ r.choices → Falls code l r (Enters ops) new Fails (enter set_c c vars head m)
  enters_clash b e within x same =
      let left_now : choices_left new.choices.items ≡ choices_left r.choices.items = ap (λ v. choices_left v.items) same in
      let failed : unified set_c u_c made_mid next_c ≡ FailsOf (bound u_c made_mid) = unified_on set_c u_c made_mid next_c x.fits ∙ ap (λ a. if_agreed a (bound u_c made_mid) next_c) (sym x.agrees ∙ e) in
      record { stands = led_to Fails within (subst (Stands code l new Fails) (sym failed) x.held); falls = omega (arith, left_now) }

  pub enters : (last : Memory) (b : Bool) → b ≡ true → m.state.heap + cells_c ≤ l.heap → Matched code l u_c made_mid last b → Holds code l new (in_frame c made (bound u_c made_mid)) → new.choices ≡ r.choices → Falls code l r (Enters ops) new (Runs rest) (enter set_c c vars head m)
  enters last b agree within x here same =
      let bounds = few code l new (in_frame c made (bound u_c made_mid)) here in
      let frame = bounds.frame in
      let inner = bounds.inner in
      let jumps = at_most_one rest.now in
      let left_now : choices_left new.choices.items ≡ choices_left r.choices.items = ap (λ v. choices_left v.items) same in
      let agreed : unified set_c u_c made_mid next_c ≡ next_c = unified_on set_c u_c made_mid next_c x.fits ∙ ap (λ a. if_agreed a (bound u_c made_mid) next_c) (sym x.agrees ∙ agree) in
      record { stands = led_to (Runs rest) within (subst (Stands code l new (Runs rest)) (sym agreed) (at, here)); falls = omega (arith, left_now, frame, inner, jumps) }

-- ## Going on

-- code that begins otherwise than with a kept choice goes on as it is
pub resumed_as_is : (g : Setting) (x : Op) (ops : List Op) (m : Mid) → OpBuilt x → ((alt : ℕ) → x ≡ op.Retry alt → ⊥) → resumed g (x ∷ ops) m ≡ RunsOf (passed (record m { ops = x ∷ ops }))
resumed_as_is g (op.Retry alt) ops m built other = absurd (other alt refl)
resumed_as_is g x ops m built other = refl

pub resumed_none : (g : Setting) (ops : List Op) (m : Mid) → length ops < 1 → resumed g ops m ≡ RunsOf (passed (record m { ops = ops }))
resumed_none g [] m lt = refl
resumed_none g (x ∷ ops) m lt = absurd (omega (arith, lt))

pub resumed_else : (g : Setting) (all : List Op) (x : Op) (rest : List Op) (m : Mid) → all ≡ x ∷ rest → OpsBuilt all → ((alt : ℕ) → x ≡ op.Retry alt → ⊥) → resumed g all m ≡ RunsOf (passed (record m { ops = all }))
resumed_else g all x rest m is built other =
    let parts : OpsBuilt (x ∷ rest) = subst OpsBuilt is built in
    subst (λ xs. resumed g xs m ≡ RunsOf (passed (record m { ops = xs }))) (sym is) (resumed_as_is g x rest m parts.0 other)

module _ (code : Code) (g : Game) (l : Limits) (b : ℕ) (m : Mid) (r new : Memory) (ops : Bor (List Op)) (tidy : Tidy code) (built : IsBuilt code) (is : ops.now ≡ block_at code b) (h : Holds code l r m) where
  abbrev set_d : Setting
  set_d = setting g code l

  -- it goes on with all of the block
  pub goes_as_is : resumed set_d ops.now m ≡ RunsOf (passed (record m { ops = ops.now })) → Falls code l (with_way r (Goes b)) Resumes r (Runs ops) (resumed set_d (block_at code b) m)
  goes_as_is same =
      let none = no_jump ops.now (no_jump_at code b ops.now tidy is) in
      let bounds = few code l r m h in
      let frame = bounds.frame in
      let inner = bounds.inner in
      subst (λ xs. Falls code l (with_way r (Goes b)) Resumes r (Runs ops) (resumed set_d xs m)) is
      (subst (Falls code l (with_way r (Goes b)) Resumes r (Runs ops)) (sym same) (record { stands = ((refl, subst OpsBuilt (sym is) (built.blocks b)), h); falls = omega (arith, none, frame, inner) }))

  -- it is kept with an earlier block
  pub goes_kept : (alt : ℕ) (rest : Bor (List Op)) → ops.now ≡ op.Retry alt ∷ rest.now → Holds code l new (inside (GoesOf alt) 0 (record m { ops = rest.now })) → Opened (Goes alt) 0 r new → Falls code l (with_way r (Goes b)) Resumes new (Runs rest) (resumed set_d (block_at code b) m)
  goes_kept alt rest kept held o =
      let block : block_at code b ≡ op.Retry alt ∷ rest.now = sym is ∙ kept in
      let earlier = tidy.earlier b alt rest.now block in
      let left_now : choices_left new.choices.items ≡ choices_left r.choices.items + suc alt = ap choices_left o.choices ∙ left_more r.choices.items o.choice ∙ ap (λ w. choices_left r.choices.items + way_left w) o.goes in
      let bounds = few code l new (inside (GoesOf alt) 0 (record m { ops = rest.now })) held in
      let frame = bounds.frame in
      let inner = bounds.inner in
      let jumps = at_most_one rest.now in
      let m' = inside (GoesOf alt) 0 (record m { ops = rest.now }) in
      let all_built : OpsBuilt (op.Retry alt ∷ rest.now) = subst OpsBuilt block (built.blocks b) in
      subst (λ xs. Falls code l (with_way r (Goes b)) Resumes new (Runs rest) (resumed set_d xs m)) (sym block)
      (record {
        stands = charged_stands code g l 10 (record m { ops = rest.now }) m' (RunsOf m') new (Runs rest) held refl ((refl, all_built.1), held);
        falls = omega (arith, left_now, earlier, frame, inner, jumps);
      })

  pub goes_full : (alt : ℕ) (rest : List Op) → ops.now ≡ op.Retry alt ∷ rest → Lacks 10 l m.state.heap new → Falls code l (with_way r (Goes b)) Resumes new (Ended ending.HeapLimit) (resumed set_d (block_at code b) m)
  goes_full alt rest kept over =
      let block : block_at code b ≡ op.Retry alt ∷ rest = sym is ∙ kept in
      subst (λ xs. Falls code l (with_way r (Goes b)) Resumes new (Ended ending.HeapLimit) (resumed set_d xs m)) (sym block)
      (record { stands = full_stands code g l 10 (record m { ops = rest }) (RunsOf (inside (GoesOf alt) 0 (record m { ops = rest }))) r new h over; falls = omega arith })

-- ## Failing

pub failed_all : (code : Code) (l : Limits) (m : Mid) (r new : Memory) → Holds code l r m → (cs : List ChoiceOf) → WentBack code l None new m cs → Roomy l new → Falls code l r Fails new (Ended ending.Failed) (goes_back cs m)
failed_all code l m r new h [] w roomy = record { stands = (refl, roomy); falls = omega arith }
failed_all code l m r new h (c ∷ cs) w roomy = absurd w

pub failed_to : (code : Code) (l : Limits) (m : Mid) (way : Way) (r new : Memory) → (cs : List ChoiceOf) → WentBack code l (Some way) new m cs → choices_left r.choices.items ≡ choices_left new.choices.items + way_left way → Falls code l r Fails (with_way new way) Resumes (goes_back cs m)
failed_to code l m way r new [] w left = absurd w
failed_to code l m way r new (c ∷ cs) w left = record { stands = (w.0, way_held code l new (back_at c cs m) way w.1); falls = omega (arith, left) }

-- ## Last queries

module _ (code : Code) (g : Game) (l : Limits) (t : Target) (many : Bool) (vs : List Value) (m : Mid) (r new : Memory) (now : Now) (h : Holds code l r m) where
  abbrev set_e : Setting
  set_e = setting g code l

  -- memory without inner constructs at hand
  pub no_inner_held : Holds code l (record r { inner = 0 }) (record m { inner = [] })
  no_inner_held = (record { saves = h.0.saves; stand = h.0.stand; state_is = h.0.state_is; limits = h.0.limits; frames_are = h.0.frames_are; inner_are = refl; stop_is = h.0.stop_is; choices_are = h.0.choices_are; room = record { frames_fit = h.0.room.frames_fit; inners_fit = h.0.room.inners_fit; choices_fit = h.0.room.choices_fit; stops_fit = h.0.room.stops_fit; frames_few = h.0.room.frames_few; inners_few = h.0.room.inners_few; choices_few = h.0.room.choices_few; stops_few = h.0.room.stops_few; refs = h.0.room.refs } }, h.1)

  pub asks_behind : (frame : Frame) → named r.frames.items r.frame ≡ Some frame → frame.many ≡ true → ((m' : Mid) → Holds code l (record r { frame = frame.behind; inner = frame.inner }) m' → Stands code l new now (calls_of set_e t (call_of vs many frame.next m') m')) → Stands code l new now (last set_e t vs many m.frames m)
  asks_behind frame is all asked =
      let x = some_frame (meaning_of r.arena) (tags_of m.stops) r.inners.items r.frames.items r.frame frame m.frames is h.0.frames_are in
      let held : Holds code l (record r { frame = frame.behind; inner = frame.inner }) (record m { frames = x.behind; inner = x.newest.inner }) =
      (record { saves = h.0.saves; stand = h.0.stand; state_is = h.0.state_is; limits = h.0.limits; frames_are = x.behind_is; inner_are = x.inner_is; stop_is = h.0.stop_is; choices_are = h.0.choices_are; room = record { frames_fit = h.0.room.frames_fit; inners_fit = h.0.room.inners_fit; choices_fit = h.0.room.choices_fit; stops_fit = h.0.room.stops_fit; frames_few = h.0.room.frames_few; inners_few = h.0.room.inners_few; choices_few = h.0.room.choices_few; stops_few = h.0.room.stops_few; refs = h.0.room.refs } }, h.1) in
      let m' = record m { frames = x.behind; inner = x.newest.inner } in
      subst (λ fs. Stands code l new now (last set_e t vs many fs m)) (sym x.is)
      (subst (λ b. Stands code l new now (asks_last set_e t vs many b x.newest x.behind m)) (sym (x.many ∙ all))
      (subst (λ n. Stands code l new now (calls_of set_e t (call_of vs many n m) m')) (sym x.next) (asked m' held)))

  asks_here : ((m' : Mid) → Holds code l (record r { inner = 0 }) m' → Stands code l new now (calls_of set_e t (call_of vs many 0 m') m')) → Stands code l new now (calls_of set_e t (call_of vs many 0 m) (record m { inner = [] }))
  asks_here asked = asked (record m { inner = [] }) no_inner_held

  pub asks_first : named r.frames.items r.frame ≡ None → ((m' : Mid) → Holds code l (record r { inner = 0 }) m' → Stands code l new now (calls_of set_e t (call_of vs many 0 m') m')) → Stands code l new now (last set_e t vs many m.frames m)
  asks_first is asked = subst (λ fs. Stands code l new now (last set_e t vs many fs m)) (sym (no_frame (meaning_of r.arena) (tags_of m.stops) r.inners.items r.frames.items r.frame m.frames is h.0.frames_are)) (asks_here asked)

  pub asks_inside : (frame : Frame) → named r.frames.items r.frame ≡ Some frame → frame.many ≡ false → ((m' : Mid) → Holds code l (record r { inner = 0 }) m' → Stands code l new now (calls_of set_e t (call_of vs many 0 m') m')) → Stands code l new now (last set_e t vs many m.frames m)
  asks_inside frame is one asked =
      let x = some_frame (meaning_of r.arena) (tags_of m.stops) r.inners.items r.frames.items r.frame frame m.frames is h.0.frames_are in
      subst (λ fs. Stands code l new now (last set_e t vs many fs m)) (sym x.is)
      (subst (λ b. Stands code l new now (asks_last set_e t vs many b x.newest x.behind m)) (sym (x.many ∙ one)) (asks_here asked))

pub asked_all : (code : Code) (g : Game) (l : Limits) (pred next left cut : ℕ) (many : Bool) (vs : List Value) (first : Option View) (m : Mid) (r new : Memory) (now : Now) → Holds code l r m → RefsAt (meaning_of r.arena) r.args.items vs → IsFirst (meaning_of r.arena) r.args.items first →
    left ≡ length (codes_from first (rules_at code pred)) → cut ≡ heap_in r → CallsRules code r (record { next = next; many = many; cut = cut }) pred left new now → Stands code l new now (asks (setting g code l) pred (call_of vs many next m) m)
asked_all code g l pred next left cut many vs first m r new now h refs is len height calls =
    let all = rules_at code pred in
    let k : Call = record { next = next; many = many; cut = cut } in
    let c = call_of vs many next m in
    let rules = selected (first_of m.state.subst c) all in
    let at : CallAt (meaning_of r.arena) r.args.items k c = record { args = refs; next = refl; many = refl; cut = height_now code l m r cut h height } in
    let same : left ≡ length rules = len ∙ ap length (selected_in code l m r first c all h is refs) in
    let last = are_last code pred rules (selected_end (first_of m.state.subst c) all) in
    let done = calls g l m c rules h (record { call = at; there = subst (λ n. n ≤ length all) (sym same) last.there; rules_are = last.are ∙ ap (last_rules code pred) (sym same) }) in
    done.stands

-- ## Slices of rules

pub split_first : {A : Type 0} (xs : List A) (d : A) → 1 ≤ length xs → xs ≡ get_or xs 0 d ∷ take (length xs - 1) (drop 1 xs)
split_first [] d le = absurd (omega (arith, le))
split_first (y ∷ ys) d le =
    let one : length (y ∷ ys) - 1 ≡ length ys = omega arith in
    ap (λ l. y ∷ l) (sym (ap (λ n. take n ys) one ∙ take-length ys))

pub rules_count : (code : Code) (s : Store) (refs : List Ref) (k : Call) (pred left : ℕ) (c : CallOf) (rules : List RuleCode) → RulesAt code s refs k pred left c rules → length rules ≡ left
rules_count code s refs k pred left c rules at =
    let all = rules_at code pred in
    ap length at.rules_are ∙ length-drop (length all - left) all ∙ (let e : length all - (length all - left) ≡ left = omega (arith, at.there) in e)

sliced : (all : List RuleCode) (left : ℕ) → left ≤ length all → take (length all - (length all - left)) (drop (length all - left) all) ≡ drop (length all - left) all
sliced all left le =
    let count = length-drop (length all - left) all in
    ap (λ n. take n (drop (length all - left) all)) (sym count) ∙ take-length (drop (length all - left) all)

-- the last so many rules of a predicate as a slice
pub slice_is : (code : Code) (pred left : ℕ) (all : List RuleCode) → all ≡ rules_at code pred → left ≤ length (rules_at code pred) → take (length all - (length all - left)) (drop (length all - left) all) ≡ last_rules code pred left
slice_is code pred left all same there = sliced all left (subst (λ xs. left ≤ length xs) (sym same) there) ∙ ap (λ xs. drop (length xs - left) xs) same

-- the rules that a call enters, and those that its first argument leaves behind the first
pub record Further (code : Code) (m : Mid) (c : CallOf) (pred left : ℕ) (rules : List RuleCode) (rule : RuleCode) (n : ℕ) : Type 0 where
  pub others : List RuleCode
  pub is : rules ≡ rule ∷ others
  pub count : n ≡ length (selected (first_of m.state.subst c) others)
  pub last : AreLast code pred (selected (first_of m.state.subst c) others)
  pub fewer : suc n ≤ left

pub further_in : (code : Code) (l : Limits) (m : Mid) (r : Memory) (first : Option View) (c : CallOf) (k : Call) (pred left n : ℕ) (rules xs others : List RuleCode) (rule : RuleCode) → Holds code l r m → IsFirst (meaning_of r.arena) r.args.items first → RulesAt code (meaning_of r.arena) r.args.items k pred left c rules →
    xs ≡ last_rules code pred left → xs ≡ rule ∷ others → n ≡ length (codes_from first others) → Further code m c pred left rules rule n
further_in code l m r first c k pred left n rules xs others rule h is at slice split len =
    let all = rules_at code pred in
    let chosen = selected (first_of m.state.subst c) others in
    let whole : rules ≡ rule ∷ others = at.rules_are ∙ sym slice ∙ split in
    let end : EndsIn all (rule ∷ others) = subst (EndsIn all) (sym slice ∙ split) (last_end code pred left) in
    let count : n ≡ length chosen = len ∙ ap length (selected_in code l m r first c others h is at.call.args) in
    let chosen_end = selected_end (first_of m.state.subst c) others in
    let short = no_longer others chosen chosen_end in
    let left_is : length (rule ∷ others) ≡ left = ap length (sym (sym slice ∙ split)) ∙ length-drop (length all - left) all ∙ (let e : length all - (length all - left) ≡ left = omega (arith, at.there) in e) in
    record {
      others = others;
      is = whole;
      count = count;
      last = are_last code pred chosen (ends_on all others chosen (next_end rule all others end) chosen_end);
      fewer = omega (arith, count, short, left_is);
    }

-- what is said of entering the first of them is said of the call
pub further_begins : (code : Code) (g : Game) (l : Limits) (m : Mid) (r new : Memory) (c : CallOf) (k : Call) (pred left n : ℕ) (rules : List RuleCode) (rule : RuleCode) (now : Now) → Holds code l r m → CallAt (meaning_of r.arena) r.args.items k c → Further code m c pred left rules rule n →
    EntersWith code r k rule.block pred n new now → CallBegins code l r k pred left new now (begins (setting g code l) c rules m)
further_begins code g l m r new c k pred left n rules rule now h at f enters =
    let chosen = selected (first_of m.state.subst c) f.others in
    let there : n ≤ length (rules_at code pred) = subst (λ i. i ≤ length (rules_at code pred)) (sym f.count) f.last.there in
    let done = enters g l m c rule chosen h refl (record { call = at; there = there; rules_are = f.last.are ∙ ap (last_rules code pred) (sym f.count) }) in
    subst (λ rs. CallBegins code l r k pred left new now (begins (setting g code l) c rs m)) (sym f.is) (begins_on code l r new k pred (suc n) left now (enters_of (setting g code l) c rule chosen m) f.fewer done)

-- ## Ways

pub go_calls : (code : Code) (g : Game) (l : Limits) (m : Mid) (k : Call) (pred left : ℕ) (r new : Memory) (now : Now) (on : WayOf) → WayAt code (meaning_of r.arena) r.args.items (Calls k pred left) on → CallsRules code r k pred left new now → Holds code l r m → Falls code l (with_way r (Calls k pred left)) Resumes new now (goes_on (setting g code l) on m)
go_calls code g l m k pred left r new now (CallsOf c rules) at calls h = let x = calls g l m c rules h at in record { stands = x.stands; falls = x.falls }
go_calls code g l m k pred left r new now on at calls h = absurd at

pub go_goes : (code : Code) (g : Game) (l : Limits) (m : Mid) (b : ℕ) (r new : Memory) (now : Now) (on : WayOf) → WayAt code (meaning_of r.arena) r.args.items (Goes b) on → Falls code l (with_way r (Goes b)) Resumes new now (goes_on (setting g code l) (GoesOf b) m) → Falls code l (with_way r (Goes b)) Resumes new now (goes_on (setting g code l) on m)
go_goes code g l m b r new now (GoesOf b') at falls = subst (λ k. Falls code l (with_way r (Goes b)) Resumes new now (goes_on (setting g code l) (GoesOf k) m)) (sym at) falls
go_goes code g l m b r new now on at falls = absurd at

-- ## The first of a rule

-- code that begins with the entering of a rule
pub record EntersAt (all rest : List Op) (vars : ℕ) (head : List Term) : Type 0 where
  pub is : all ≡ op.Enter vars head ∷ rest
  pub args : AreArguments head
  pub built : OpsBuilt rest

pub entering_is : (all : List Op) (x : Op) (rest : List Op) (vars : ℕ) (head : List Term) → all ≡ x ∷ rest → x ≡ op.Enter vars head → OpsBuilt all → EntersAt all rest vars head
entering_is all x rest vars head is enter built =
    let whole : all ≡ op.Enter vars head ∷ rest = is ∙ ap (λ y. y ∷ rest) enter in
    let parts : OpsBuilt (op.Enter vars head ∷ rest) = subst OpsBuilt whole built in
    record { is = whole; args = parts.0; built = parts.1 }

-- what is said of the first of a rule is said of its entering
pub rule_entered : (tb : Tables) (code : Code) (g : Game) → IsOf g.program tb → (l : Limits) (m : Mid) (k : Call) (c : CallOf) (vars : ℕ) (head : List Term) (r new : Memory) (now : Now) (ops : Bor (List Op)) (rest : List Op) → EntersAt ops.now rest vars head → m.ops ≡ ops.now → CallAt (meaning_of r.arena) r.args.items k c → Holds code l r m →
    EntersIn tb code r k vars head rest new now → Falls code l r (Enters ops) new now (entered (setting g code l) c m.ops m)
rule_entered tb code g is_of l m k c vars head r new now ops rest e at call h does =
    subst (λ xs. Falls code l r (Enters ops) new now (entered (setting g code l) c xs m)) (sym (at ∙ e.is)) (does g is_of l (record m { ops = rest }) c ops (refl, e.built) call h)

-- ## The answer of a rule that cuts

pub cut_behind : (code : Code) (l : Limits) (m : Mid) (frame : Frame) (r mid : Memory) (x : LeftFrame code l r (record r { frame = frame.behind; inner = frame.inner }) frame m) → reverse mid.choices.items ≡ below frame.cut (reverse r.choices.items) →
    vec_capacity mid.choices ≡ vec_capacity r.choices → length mid.choices.items ≤ length r.choices.items → mid ≡ record r { choices = mid.choices } →
    Holds code l (record mid { frame = frame.behind; inner = frame.inner }) (cut_to x.newest.cut (record m { frames = x.behind; inner = x.newest.inner }))
cut_behind code l m frame r mid x left capacity fewer same =
    was_cut code l (record m { frames = x.behind; inner = x.newest.inner }) x.newest.cut frame.cut (record r { frame = frame.behind; inner = frame.inner }) (record mid { frame = frame.behind; inner = frame.inner }) x.held x.cut x.named_cut left capacity fewer
    (ap (λ (y : Memory). record y { frame = frame.behind; inner = frame.inner }) same)
