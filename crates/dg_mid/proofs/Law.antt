-- Each step is paid: by what the search counts there, or by what earlier steps have left.
use Rattle.std.proofs.Common.{◌≡◌, ℕ, zero, suc, ◌+◌, ◌*◌, ◌<◌, ◌≤◌, List, [], ◌∷◌, Bool, true, false, Option, Some, None, refl, sym, ap, ◌∙◌, subst, arith, length, map}
use Rattle.std.specs.Prelude.{get_or, ◌-◌, nat_lt, if◌then◌else◌}
use Rattle.std.specs.List.{zip}
use Rattle.std.proofs.lemmas.Bool.{cond_both}
use Rattle.dg_base.specs.declared.program.Term.{Term}
use Rattle.dg_base.specs.Goals.{option_terms}
use Rattle.dg_meaning.specs.Substitutions.{links}
use Rattle.dg_mid.specs.declared.code.BodyCode.{BodyCode}
use Rattle.dg_meaning.specs.Values.{Num, Object, Value, leaf, value_of}
use Rattle.dg_meaning.specs.Unify.{Unified, Equations, solve}
use Rattle.dg_meaning.specs.Substitutions.{resolved}
use Rattle.dg_meaning.specs.World.{World, worked, Gathering, Print, Prints, gathered_size}
use Rattle.dg_meaning.specs.Path.{Registers, Act, Goes as GoesNow, Tests, Unifies, Ends, Fails as FailsNow, Stops, Effect}
use Rattle.dg_meaning.specs.Moves.{begun, numbers, selects, behind_copy, copy_of, finds_if_set, gives_number}
use Rattle.dg_meaning.specs.Letters.{copied}
use Rattle.dg_meaning.specs.Changes.{found}
use Rattle.dg_meaning.specs.Copies.{list_of}
use Rattle.dg_meaning.specs.Numbers.{total}
use Rattle.dg_base.specs.declared.run.Ending.TheVariants as ending
use Rattle.dg_meaning.specs.Cells.{cells, writing}
use Rattle.dg_mid.specs.declared.code.Op.{Op}
use Rattle.dg_mid.specs.declared.code.Op.TheVariants as op
use Rattle.dg_mid.specs.declared.code.Gathered.{Gathered}
use Rattle.dg_mid.specs.declared.code.Gathered.TheVariants as gathered
use Rattle.dg_mid.specs.declared.code.RuleCode.{RuleCode}
use Rattle.dg_mid.specs.declared.code.Code.{Code}
use Rattle.dg_mid.specs.Code.{block_at, rules_at, selected, excluded}
use Rattle.dg_mid.specs.State.{Place, Frame, Call, Target, ToPred, ToBody, Find, Way, Goes, Calls, Tries, Stop, Choice, Mid, Status, Runs, Enters, Resumes, Fails, Ended, vars_of, cut_of, place_of, inner_for, cut_choices, stop_to, Takes}
use Rattle.dg_mid.specs.Step.{Setting, parameter, body_frame, body_equations, enters_body, calls, queries, queries_last, asked_by, values, seeks, trying, tries, done, made_in, gathers, gathering, taken_out, step, runs, does, charged, more, unified, bound, trail_more, if_agreed, if_passed, inside, passed, within, cut_to, enters, begins, asks, asks_last, last, first_of, returned, returns, commits, refuses, leaves, keeps, new_frame, enter, entered, resumed, goes_on, goes_back, at_rule, is_goal, call_of, shielded, gathering, stopped, stops, stops_at, keeps_value, takes, with_gathering, newest_with, takes_newest}
use Rattle.dg_mid.specs.Units.{asking, units, units_of, earned, earned_of, earned_by, effort, entering, drops, dropped, dropped_in, dropped_once, undone, unwound, unwound_to, one_if, act_work, effect_work, found_work, body_work, query_work, dropped_by, resuming, units_by, taking, taking_newest}
use Rattle.dg_mid.specs.Potential.{cut_from, pending, all_pending, nothing, is_goto, is_return, returning, due_at, due, stored, potential, begins_goto, begins_return, OpTidy, OpsTidy, EntersRule, AllEnter, Tidy, CutsFirst, MayAnswer, FramesTidy, Lower, CallFine, WayFine, ChoicesFine, FineWith, MidFine, Reaching, StatusFine, Affords}
use Rattle.dg_mid.proofs.Pending.{one_gone, cut_falls, pending_falls, Fewer, all_fewer, choices_fewer, nothing_fewer, choices_trail, cut_fine, cut_pending, cut_lower, cut_length, WithPlace, with_fewer, executed, opened, opened_fine}
use Rattle.dg_mid.specs.Actions.{terms_of, act_at, registers_of, world_of, world_by, lasting_in}
use Rattle.dg_mid.proofs.Trails.{few_trailed}
use Rattle.dg_mid.proofs.Alike.{Alike, goes, cuts, tests, unifies as unifies', quits, lacks_input, fails as fails', stops as stops', action_alike, AlikeAsked, at_once, in_turn, asked_alike}
use Rattle.dg_mid.proofs.Acts.{nothing_counted, effects_act}

-- ## What is due

due_most_at : (frames : List Frame) (x : Op) → due_at frames x ≤ 7
due_most_at frames x =
    cond_both (is_goto x) 7 _ (λ k. k ≤ 7) (λ e. omega arith)
    (λ e. cond_both (is_return x) (returning frames) _ (λ k. k ≤ 7) (λ e. few frames) (λ e. cond_both (is_goal x) 3 5 (λ k. k ≤ 7) (λ e. omega arith) (λ e. omega arith))) where
      few : (fs : List Frame) → returning fs ≤ 7
      few [] = omega arith
      few (f ∷ fs) = cond_both f.many 6 5 (λ k. k ≤ 7) (λ e. omega arith) (λ e. omega arith)

pub due_most : (frames : List Frame) (ops : List Op) → due frames ops ≤ 7
due_most frames [] = omega arith
due_most frames (x ∷ ops) = due_most_at frames x

-- not more than 6 where it is no jump
pub due_block : (frames : List Frame) (ops : List Op) → begins_goto ops ≡ false → due frames ops ≤ 6
due_block frames [] h = omega arith
due_block frames (x ∷ ops) h =
    rw h (cond_both (is_return x) (returning frames) _ (λ k. k ≤ 6) (λ e. few frames) (λ e. cond_both (is_goal x) 3 5 (λ k. k ≤ 6) (λ e. omega arith) (λ e. omega arith))) where
      few : (fs : List Frame) → returning fs ≤ 6
      few [] = omega arith
      few (f ∷ fs) = cond_both f.many 6 5 (λ k. k ≤ 6) (λ e. omega arith) (λ e. omega arith)

-- and not more than 5 where it is no answer that doesn't cut either
pub due_behind : (frames : List Frame) (ops : List Op) → begins_goto ops ≡ false → (begins_return ops ≡ true → CutsFirst frames) → due frames ops ≤ 5
due_behind frames [] h a = omega arith
due_behind frames (x ∷ ops) h a =
    rw h (cond_both (is_return x) (returning frames) _ (λ k. k ≤ 5) (λ e. few frames (a e)) (λ e. cond_both (is_goal x) 3 5 (λ k. k ≤ 5) (λ e. omega arith) (λ e. omega arith))) where
      few : (fs : List Frame) → CutsFirst fs → returning fs ≤ 5
      few [] c = omega arith
      few (f ∷ fs) c = rw c (let k : 5 ≤ 5 = omega arith in k)

-- ## What is dropped, whatever the code at hand

unwound_to_same : (o : Option (Stop × List Stop)) (ops : List Op) (m : Mid) → unwound_to o (record m { ops = ops }) ≡ unwound_to o m
unwound_to_same None ops m = refl
unwound_to_same (Some x) ops m = refl

unwound_same : (S : Option ℕ) (ops : List Op) (m : Mid) → unwound S (record m { ops = ops }) ≡ unwound S m
unwound_same None ops m = refl
unwound_same (Some t) ops m = unwound_to_same (stop_to t m.stops) ops m

drops_same : (x : Act) (ops : List Op) (m : Mid) → dropped_by x (record m { ops = ops }) ≡ dropped_by x m
drops_same (GoesNow [] w) ops m = refl
drops_same (GoesNow (s ∷ steps) w) ops m = refl
drops_same (Tests b w) ops m = refl
drops_same (Unifies made es w) ops m = refl
drops_same (Ends e w) ops m = refl
drops_same (FailsNow w) ops m = refl
drops_same (Stops w) ops m = unwound_same m.stop ops m

-- ## Statuses

-- what has to hold where it stops to a part: what is pending there is pending here, and its trail and choices are as they should be
pub record Unwinds (code : Code) (m : Mid) (s : Stop) : Type 0 where
  pub fewer : Fewer (pending s.frames s.inner) (pending m.frames m.inner)
  pub trail : s.state.trail ≤ m.state.trail
  pub fine : FineWith code s.frames s.inner (cut_choices s.place m.choices) (s.place.tag + 1) s.state.trail

abbrev pub MayStop : Code → Mid → Type 0
MayStop code m = (t : ℕ) → m.stop ≡ Some t → (s : Stop) (ss : List Stop) → stop_to t m.stops ≡ Some (s, ss) → Unwinds code m s

abbrev pub StatusMayStop : Code → Status → Type 0
StatusMayStop code (Runs m) = MayStop code m
StatusMayStop code (Enters call m) = Unit {0}
StatusMayStop code (Resumes way m) = Unit {0}
StatusMayStop code (Fails m) = Unit {0}
StatusMayStop code (Ended e) = Unit {0}

module _ (g : Setting) (tidy : Tidy g.code) (rules : (pred : ℕ) → AllEnter g.code (rules_at g.code pred)) where
  -- a limit is met, or it goes on
  pub charge : (u b k : ℕ) (m : Mid) (next : Status) → Affords g.code u b next → Affords g.code u b (charged g k m next)
  charge u b zero m next h = h
  charge u b (suc k) m next h =
      cond_both (nat_lt g.limits.heap (m.state.heap + suc k)) (Ended ending.HeapLimit) next (Affords g.code u b) (λ e. record { fine = tt; few = let x = h.few in omega (arith, x) }) (λ e. h)

  -- the machine fails
  pub fails : (u b : ℕ) (m : Mid) (frames : List Frame) (inner : List Place) → ChoicesFine g.code (pending frames inner) m.state.trail m.choices → u + (4 + stored (pending frames inner) m.choices m.state.trail) ≤ b → Affords g.code u b (Fails m)
  fails u b m frames inner h le =
      let f = nothing_fewer (pending frames inner) (λ u v a. pending_falls u v frames inner a) in
      record {
        fine = choices_fewer g.code nothing (pending frames inner) m.state.trail m.choices f h;
        few = let x = all_fewer nothing (pending frames inner) m.choices f in omega (arith, x, le);
      }

  -- it goes on with what follows
  pub follows : (u b : ℕ) (m : Mid) → MidFine g.code m → OpsTidy g.code m.ops → u + (7 + stored (pending m.frames m.inner) m.choices m.state.trail) ≤ b → Affords g.code u b (Runs m)
  follows u b m h t le = record { fine = (h, t); few = let x = due_most m.frames m.ops in omega (arith, x, le) }

  -- a unification is done
  agreed : (u b : ℕ) (yes : Bool) (m : Mid) (next : Status) → Affords g.code u b (Fails m) → Affords g.code u b next → Affords g.code u b (if_agreed yes m next)
  agreed u b true m next f n = n
  agreed u b false m next f n = f

  pub unifies : (u b : ℕ) (un : Unified) (m : Mid) (next : Status) → Affords g.code u b (Fails (bound un m)) → Affords g.code u b next → Affords g.code u b (unified g un m next)
  unifies u b un m next f n =
      cond_both (nat_lt g.limits.trail (trail_more m.state un)) (Ended ending.TrailLimit) (if_agreed un.agrees (bound un m) next) (Affords g.code u b) (λ e. record { fine = tt; few = let x = n.few in omega (arith, x) }) (λ e. agreed u b un.agrees (bound un m) next f n)

  -- ## Choices

  -- a choice opens
  pub opens : (m : Mid) (way : Way) (n : ℕ) → MidFine g.code m → WayFine g.code way m.frames m.next_tag → MidFine g.code (inside way n m)
  opens m way n h w = record {
    newest = let x = pending_falls m.next_tag (m.next_tag + 1) m.frames m.inner (omega arith) in omega (arith, x, h.newest);
    lower = omega arith;
    frames_are = h.frames_are;
    choices_are = (record { covers = λ u v a b. omega arith; newest = h.newest; trail_is = omega arith; way = w; frames = h.frames_are; lower = h.lower }, h.choices_are);
  }

  passes_fine : (m : Mid) → MidFine g.code m → MidFine g.code (passed m)
  passes_fine m h = record {
    newest = let x = pending_falls m.next_tag (m.next_tag + 1) m.frames m.inner (omega arith) in omega (arith, x, h.newest);
    lower = up m.choices h.lower;
    frames_are = h.frames_are;
    choices_are = h.choices_are;
  } where
    up : (cs : List Choice) → Lower m.next_tag cs → Lower (m.next_tag + 1) cs
    up [] l = tt
    up (c ∷ cs) l = omega (arith, l)

  -- what a choice takes: five, as nothing is pending that is newer
  pub open_costs : (m : Mid) (way : Way) (n : ℕ) → MidFine g.code m → stored (pending m.frames m.inner) (inside way n m).choices m.state.trail ≡ 5 + stored (pending m.frames m.inner) m.choices m.state.trail
  open_costs m way n h = let x = h.newest in omega (arith, x)

  -- an inner construct opens at a place that was just passed
  pub opens_place : (m : Mid) (p : Place) → p.tag < m.next_tag → Reaching p.tag m.choices → MidFine g.code m → MidFine g.code (within p m)
  opens_place m p lt r h = record {
    newest = let a = one_gone m.next_tag p lt in let b = h.newest in omega (arith, a, b);
    lower = h.lower;
    frames_are = h.frames_are;
    choices_are = fine m.choices r h.choices_are;
  } where
    fine : (cs : List Choice) → Reaching p.tag cs → ChoicesFine g.code (pending m.frames m.inner) m.state.trail cs → ChoicesFine g.code (pending m.frames (p ∷ m.inner)) m.state.trail cs
    fine [] r c = tt
    fine (c ∷ cs) r k = opened_fine g.code (pending m.frames m.inner) (pending m.frames (p ∷ m.inner)) m.state.trail p c cs (record { is = λ u. omega arith }) r k

  pub place_costs : (m : Mid) (p : Place) → all_pending (pending m.frames (p ∷ m.inner)) m.choices ≤ suc (all_pending (pending m.frames m.inner) m.choices)
  place_costs m p = opened (pending m.frames m.inner) (pending m.frames (p ∷ m.inner)) p m.choices (record { is = λ u. omega arith })

  -- ## Fewer places

  fewer_fine : (frames : List Frame) (inner : List Place) (frames' : List Frame) (inner' : List Place) (cs : List Choice) (t trail : ℕ) → Fewer (pending frames' inner') (pending frames inner) → FramesTidy g.code frames' → FineWith g.code frames inner cs t trail → FineWith g.code frames' inner' cs t trail
  fewer_fine frames inner frames' inner' cs t trail f tidy_are h = record {
    newest = let x = f.less t in let y = h.newest in omega (arith, x, y);
    lower = h.lower;
    frames_are = tidy_are;
    choices_are = choices_fewer g.code (pending frames' inner') (pending frames inner) trail cs f h.choices_are;
  }

  -- choices are cut
  cut_is_fine : (frames : List Frame) (inner : List Place) (cs : List Choice) (t trail : ℕ) (p : Place) → FineWith g.code frames inner cs t trail → FineWith g.code frames inner (cut_choices p cs) t trail
  cut_is_fine frames inner cs t trail p h = record {
    newest = h.newest;
    lower = cut_lower t trail g.code (pending frames inner) p cs h.choices_are h.lower;
    frames_are = h.frames_are;
    choices_are = cut_fine g.code (pending frames inner) trail p cs h.choices_are;
  }

  cut_pays : (frames : List Frame) (inner : List Place) (cs : List Choice) (t trail : ℕ) (p : Place) → FineWith g.code frames inner cs t trail → 5 * dropped p cs + stored (pending frames inner) (cut_choices p cs) trail ≤ stored (pending frames inner) cs trail
  cut_pays frames inner cs t trail p h = let a = cut_pending g.code (pending frames inner) trail p cs h.choices_are in let b = cut_length p cs in omega (arith, a, b)

  -- a place is executed, with a cut to it
  place_pays : (frames : List Frame) (inner : List Place) (frames' : List Frame) (inner' : List Place) (cs : List Choice) (t trail : ℕ) (p : Place) → WithPlace (pending frames inner) (pending frames' inner') p → FineWith g.code frames inner cs t trail →
      5 * dropped p cs + 3 + stored (pending frames' inner') (cut_choices p cs) trail ≤ stored (pending frames inner) cs trail
  place_pays frames inner frames' inner' cs t trail p w h = let a = executed g.code (pending frames inner) (pending frames' inner') trail p cs w h.choices_are in let b = cut_length p cs in omega (arith, a, b)

  place_fine : (frames : List Frame) (inner : List Place) (frames' : List Frame) (inner' : List Place) (cs : List Choice) (t trail : ℕ) (p : Place) → WithPlace (pending frames inner) (pending frames' inner') p → FramesTidy g.code frames' → FineWith g.code frames inner cs t trail → FineWith g.code frames' inner' (cut_choices p cs) t trail
  place_fine frames inner frames' inner' cs t trail p w tidy_are h =
      cut_is_fine frames' inner' cs t trail p (fewer_fine frames inner frames' inner' cs t trail (with_fewer (pending frames inner) (pending frames' inner') p w) tidy_are h)

  inner_gone : (frames : List Frame) (inner : List Place) → Fewer (pending frames []) (pending frames inner)
  inner_gone frames inner = record { less = λ u. omega arith; gone = λ u v le. let a = pending_falls u v [] inner le in omega (arith, a) }

  -- ## Queries

  all_selected : (first : Option Value) (rs : List RuleCode) → AllEnter g.code rs → AllEnter g.code (selected first rs)
  all_selected first [] h = tt
  all_selected first (r ∷ rs) h = cond_both (excluded first r.key) (selected first rs) (r ∷ rs) (AllEnter g.code) (λ e. all_selected first rs h.1) (λ e. h)

  reaching : (t : ℕ) (cs : List Choice) → Lower t cs → Reaching t cs
  reaching t [] l = tt
  reaching t (c ∷ cs) l = omega (arith, l)

  enters_pays : (u b : ℕ) (call : Call) (r : RuleCode) (others : List RuleCode) (m : Mid) → MidFine g.code m → call.cut.tag ≡ m.next_tag → MayAnswer g.code call.next m.frames → EntersRule (block_at g.code r.block) → AllEnter g.code others →
      u + (7 + stored (pending m.frames m.inner) m.choices m.state.trail) ≤ b → Affords g.code u b (enters g call r others m)
  enters_pays u b call r [] m h t a e o le = record {
    fine = (passes_fine (at_rule g r m) (record { newest = h.newest; lower = h.lower; frames_are = h.frames_are; choices_are = h.choices_are }), record { older = omega (arith, t); answer = a }, e, subst (λ k. Reaching k m.choices) (sym t) (reaching m.next_tag m.choices h.lower), tidy.blocks r.block);
    few = omega (arith, le);
  }
  enters_pays u b call r (q ∷ qs) m h t a e o le =
      let here : MidFine g.code (at_rule g r m) = record { newest = h.newest; lower = h.lower; frames_are = h.frames_are; choices_are = h.choices_are } in
      charge u b (10 + length call.args) m _ (record {
        fine = (opens (at_rule g r m) (Calls call (q ∷ qs)) (length call.args) here (t, o, a), record { older = omega (arith, t); answer = a }, e, omega (arith, t), tidy.blocks r.block);
        few = let x = open_costs (at_rule g r m) (Calls call (q ∷ qs)) (length call.args) here in omega (arith, le, x);
      })

  begins_pays : (u b : ℕ) (call : Call) (rules : List RuleCode) (m : Mid) → MidFine g.code m → call.cut.tag ≡ m.next_tag → MayAnswer g.code call.next m.frames → AllEnter g.code rules →
      u + (7 + stored (pending m.frames m.inner) m.choices m.state.trail) ≤ b → Affords g.code u b (begins g call rules m)
  begins_pays u b call [] m h t a o le = fails u b m m.frames m.inner h.choices_are (omega (arith, le))
  begins_pays u b call (r ∷ rs) m h t a o le = enters_pays u b call r (selected (first_of m.state.subst call) rs) m h t a o.0 (all_selected (first_of m.state.subst call) rs o.1) le

  asks_pays : (u b pred : ℕ) (call : Call) (m : Mid) → MidFine g.code m → call.cut.tag ≡ m.next_tag → MayAnswer g.code call.next m.frames →
      u + (7 + stored (pending m.frames m.inner) m.choices m.state.trail) ≤ b → Affords g.code u b (asks g pred call m)
  asks_pays u b pred call m h t a le = begins_pays u b call (selected (first_of m.state.subst call) (rules_at g.code pred)) m h t a (all_selected (first_of m.state.subst call) (rules_at g.code pred) (rules pred)) le

  -- the frame that goes on is dropped, or it cuts
  frame_opens : (many : Bool) (p : Place) (frames : List Frame) (inner : List Place) (N' : ℕ → ℕ) (cs : List Choice) (trail : ℕ) → ((u : ℕ) → N' u ≡ cut_from u many p + pending frames inner u) → Reaching p.tag cs → ChoicesFine g.code (pending frames inner) trail cs →
      ChoicesFine g.code N' trail cs × (all_pending N' cs ≤ suc (all_pending (pending frames inner) cs))
  frame_opens true p frames inner N' [] trail is r h = (tt, let a = is 0 in omega (arith, a))
  frame_opens true p frames inner N' (c ∷ cs) trail is r h =
      let f : Fewer N' (pending frames inner) = record { less = λ u. let a = is u in omega (arith, a); gone = λ u v le. let a = is u in let b = is v in omega (arith, a, b) } in
      (choices_fewer g.code N' (pending frames inner) trail (c ∷ cs) f h, let a = all_fewer N' (pending frames inner) (c ∷ cs) f in omega (arith, a))
  frame_opens false p frames inner N' [] trail is r h = (tt, opened (pending frames inner) N' p [] (record { is = is }))
  frame_opens false p frames inner N' (c ∷ cs) trail is r h =
      (opened_fine g.code (pending frames inner) N' trail p c cs (record { is = is }) r h, opened (pending frames inner) N' p (c ∷ cs) (record { is = is }))

  no_cut : (t : ℕ) (many : Bool) (p : Place) → p.tag < t → cut_from t many p ≡ 0
  no_cut t true p lt = refl
  no_cut t false p lt = one_gone t p lt

  -- a body is entered, and what is called pays with its work
  opens_pays : (u b : ℕ) (c : BodyCode) (captured : List Value) (call : Call) (m : Mid) → MidFine g.code m → call.cut.tag ≡ m.next_tag → MayAnswer g.code call.next m.frames →
      u + (7 + stored (pending m.frames m.inner) m.choices m.state.trail) + 12 * body_work g (ToBody c captured) call.args m.state.subst m.state.vars ≤ b → Affords g.code (u + body_work g (ToBody c captured) call.args m.state.subst m.state.vars) b (enters_body g c captured call m)
  opens_pays u b c captured call m h t a le =
      let w = body_work g (ToBody c captured) call.args m.state.subst m.state.vars in
      let n = 6 + c.own + cells g.game.program (parameter captured call.args) in
      let f = body_frame captured c.own call m in
      let m' : Mid = record (passed m) { ops = block_at g.code c.block; state = record m.state { vars = m.state.vars + c.own; heap = m.state.heap + n } } in
      let es : Equations = body_equations g captured c.own call.args m.state.vars in
      let un = solve m.state.subst es in
      let few = few_trailed m.state es in
      let p = passes_fine m h in
      let on = frame_opens call.many call.cut m.frames m.inner (pending (f ∷ m.frames) []) m.choices m.state.trail (λ u. omega arith) (subst (λ k. Reaching k m.choices) (sym t) (reaching m.next_tag m.choices h.lower)) h.choices_are in
      charge (u + w) b n m (unified g un m' (Runs (record (bound un m') { frames = f ∷ m.frames; inner = [] })))
      (unifies (u + w) b un m' (Runs (record (bound un m') { frames = f ∷ m.frames; inner = [] }))
      (fails (u + w) b (bound un m') m.frames m.inner (choices_trail g.code (pending m.frames m.inner) m.state.trail (trail_more m.state un) m.choices (omega arith) h.choices_are) (omega (arith, le, few)))
      (follows (u + w) b (record (bound un m') { frames = f ∷ m.frames; inner = [] })
      (record {
        newest = let x = no_cut (m.next_tag + 1) call.many call.cut (omega (arith, t)) in let y = p.newest in omega (arith, x, y);
        lower = p.lower;
        frames_are = (a, h.frames_are);
        choices_are = choices_trail g.code (pending (f ∷ m.frames) []) m.state.trail (trail_more m.state un) m.choices (omega arith) on.0;
      })
      (tidy.blocks c.block) (let x = on.1 in omega (arith, le, few, x))))

  calls_pays : (u b : ℕ) (t : Target) (call : Call) (m : Mid) → MidFine g.code m → call.cut.tag ≡ m.next_tag → MayAnswer g.code call.next m.frames →
      u + (7 + stored (pending m.frames m.inner) m.choices m.state.trail) + 12 * body_work g t call.args m.state.subst m.state.vars ≤ b → Affords g.code (u + body_work g t call.args m.state.subst m.state.vars) b (calls g t call m)
  calls_pays u b (ToPred pred) call m h t a le = let p = asks_pays u b pred call m h t a (omega (arith, le)) in record { fine = p.fine; few = let z = p.few in omega (arith, z) }
  calls_pays u b (ToBody c captured) call m h t a le = opens_pays u b c captured call m h t a le

  last_pays : (u b : ℕ) (pred : Target) (args : List Value) (many yes : Bool) (f : Frame) (fs : List Frame) (m : Mid) → m.frames ≡ f ∷ fs → f.many ≡ yes → FineWith g.code (f ∷ fs) m.inner m.choices m.next_tag m.state.trail →
      u + (7 + stored (pending (f ∷ fs) m.inner) m.choices m.state.trail) + 12 * body_work g pred args m.state.subst m.state.vars ≤ b → Affords g.code (u + body_work g pred args m.state.subst m.state.vars) b (asks_last g pred args many yes f fs m)
  last_pays u b pred args many true f fs m is e h le =
      let w : Fewer (pending fs f.inner) (pending (f ∷ fs) m.inner) = record {
        less = λ u. omega arith;
        gone = λ u v a. let x = pending_falls u v [] m.inner a in let y = cut_falls u v f.many f.cut a in omega (arith, x, y);
      } in
      calls_pays u b pred (call_of args many f.next m) (record m { frames = fs; inner = f.inner })
      (fewer_fine (f ∷ fs) m.inner fs f.inner m.choices m.next_tag m.state.trail w h.frames_are.1 h) refl h.frames_are.0
      (let x = all_fewer (pending fs f.inner) (pending (f ∷ fs) m.inner) m.choices w in omega (arith, le, x))
  last_pays u b pred args many false f fs m is e h le =
      let w = inner_gone (f ∷ fs) m.inner in
      let here = fewer_fine (f ∷ fs) m.inner (f ∷ fs) [] m.choices m.next_tag m.state.trail w h.frames_are h in
      calls_pays u b pred (call_of args many 0 m) (record m { inner = [] })
      (subst (λ l. FineWith g.code l [] m.choices m.next_tag m.state.trail) (sym is) here) refl (λ x. subst CutsFirst (sym is) e)
      (let x = all_fewer (pending (f ∷ fs) []) (pending (f ∷ fs) m.inner) m.choices w in
      subst (λ l. u + (7 + stored (pending l []) m.choices m.state.trail) + 12 * body_work g pred args m.state.subst m.state.vars ≤ b) (sym is) (omega (arith, le, x)))

  lasts_pays : (u b : ℕ) (pred : Target) (args : List Value) (many : Bool) (frames : List Frame) (m : Mid) → m.frames ≡ frames → FineWith g.code frames m.inner m.choices m.next_tag m.state.trail →
      u + (7 + stored (pending frames m.inner) m.choices m.state.trail) + 12 * body_work g pred args m.state.subst m.state.vars ≤ b → Affords g.code (u + body_work g pred args m.state.subst m.state.vars) b (last g pred args many frames m)
  lasts_pays u b pred args many [] m is h le =
      let w = inner_gone [] m.inner in
      let here = fewer_fine [] m.inner [] [] m.choices m.next_tag m.state.trail w h.frames_are h in
      calls_pays u b pred (call_of args many 0 m) (record m { inner = [] })
      (subst (λ l. FineWith g.code l [] m.choices m.next_tag m.state.trail) (sym is) here) refl (λ x. subst CutsFirst (sym is) tt)
      (let x = all_fewer (pending [] []) (pending [] m.inner) m.choices w in
      subst (λ l. u + (7 + stored (pending l []) m.choices m.state.trail) + 12 * body_work g pred args m.state.subst m.state.vars ≤ b) (sym is) (omega (arith, le, x)))
  lasts_pays u b pred args many (f ∷ fs) m is h le = last_pays u b pred args many f.many f fs m is refl h le

  -- ## Rules

  rule_pays : (b vars : ℕ) (head : List Term) (call : Call) (m : Mid) → MidFine g.code m → CallFine g.code call m.frames m.next_tag → Reaching call.cut.tag m.choices → OpsTidy g.code m.ops →
      2 + stored (pending m.frames m.inner) m.choices m.state.trail + 13 * entering g call (op.Enter vars head ∷ []) m ≤ b → Affords g.code (1 + entering g call (op.Enter vars head ∷ []) m) b (enter g call vars head m)
  rule_pays b vars head call m h c r t le =
      let w = entering g call (op.Enter vars head ∷ []) m in
      let n = 6 + vars + cells g.game.program head in
      let f = new_frame call vars m in
      let m' : Mid = record m { state = record m.state { vars = m.state.vars + vars; heap = m.state.heap + n } } in
      let es : Equations = zip call.args (map (value_of g.game.program f.vars) head) in
      let un = solve m.state.subst es in
      let few = few_trailed m.state es in
      let on = frame_opens call.many call.cut m.frames m.inner (pending (f ∷ m.frames) []) m.choices m.state.trail (λ u. omega arith) r h.choices_are in
      charge (1 + w) b n m (unified g un m' (Runs (record (bound un m') { frames = f ∷ m.frames; inner = [] })))
      (unifies (1 + w) b un m' (Runs (record (bound un m') { frames = f ∷ m.frames; inner = [] }))
      (fails (1 + w) b (bound un m') m.frames m.inner (choices_trail g.code (pending m.frames m.inner) m.state.trail (trail_more m.state un) m.choices (omega arith) h.choices_are) (omega (arith, le, few)))
      (follows (1 + w) b (record (bound un m') { frames = f ∷ m.frames; inner = [] })
      (record {
        newest = let x = no_cut m.next_tag call.many call.cut c.older in let y = h.newest in omega (arith, x, y);
        lower = h.lower;
        frames_are = (c.answer, h.frames_are);
        choices_are = choices_trail g.code (pending (f ∷ m.frames) []) m.state.trail (trail_more m.state un) m.choices (omega arith) on.0;
      })
      t (let x = on.1 in omega (arith, le, few, x))))

  -- ## Instructions

  -- places of constructs
  leaves_pays : (u b : ℕ) (p : Place) (ps : List Place) (ops : List Op) (stop : Option ℕ) (m : Mid) → FineWith g.code m.frames (p ∷ ps) m.choices m.next_tag m.state.trail → OpsTidy g.code ops → u + (4 + stored (pending m.frames (p ∷ ps)) m.choices m.state.trail) ≤ b + 5 * dropped p m.choices →
      Affords g.code u b (Runs (cut_to p (record m { ops = ops; inner = ps; stop = stop })))
  leaves_pays u b p ps ops stop m h t le =
      let w : WithPlace (pending m.frames (p ∷ ps)) (pending m.frames ps) p = record { is = λ u. omega arith } in
      follows u b (cut_to p (record m { ops = ops; inner = ps; stop = stop })) (place_fine m.frames (p ∷ ps) m.frames ps m.choices m.next_tag m.state.trail p w h.frames_are h) t
      (let x = place_pays m.frames (p ∷ ps) m.frames ps m.choices m.next_tag m.state.trail p w h in omega (arith, le, x))

  refuses_pays : (u b : ℕ) (p : Place) (ps : List Place) (m : Mid) → FineWith g.code m.frames (p ∷ ps) m.choices m.next_tag m.state.trail → u + (1 + stored (pending m.frames (p ∷ ps)) m.choices m.state.trail) ≤ b + 5 * dropped p m.choices →
      Affords g.code u b (Fails (cut_to p (record m { inner = ps })))
  refuses_pays u b p ps m h le =
      let w : WithPlace (pending m.frames (p ∷ ps)) (pending m.frames ps) p = record { is = λ u. omega arith } in
      let f = place_fine m.frames (p ∷ ps) m.frames ps m.choices m.next_tag m.state.trail p w h.frames_are h in
      fails u b (cut_to p (record m { inner = ps })) m.frames ps f.choices_are
      (let x = place_pays m.frames (p ∷ ps) m.frames ps m.choices m.next_tag m.state.trail p w h in omega (arith, le, x))

  commit_pays : (b : ℕ) (inner : List Place) (m : Mid) → FineWith g.code m.frames inner m.choices m.next_tag m.state.trail → OpsTidy g.code m.ops → 5 + stored (pending m.frames inner) m.choices m.state.trail ≤ b → Affords g.code (1 + dropped_in inner m.choices) b (commits inner m)
  commit_pays b [] m h t le = fails 1 b m m.frames [] h.choices_are (omega (arith, le))
  commit_pays b (p ∷ ps) m h t le = leaves_pays (1 + dropped p m.choices) b p ps m.ops m.stop m h t (omega (arith, le))

  leave_pays : (b : ℕ) (inner : List Place) (m : Mid) → FineWith g.code m.frames inner m.choices m.next_tag m.state.trail → OpsTidy g.code m.ops → 5 + stored (pending m.frames inner) m.choices m.state.trail ≤ b → Affords g.code (1 + dropped_in inner m.choices) b (leaves inner m)
  leave_pays b [] m h t le = fails 1 b m m.frames [] h.choices_are (omega (arith, le))
  leave_pays b (p ∷ ps) m h t le = leaves_pays (1 + dropped p m.choices) b p ps m.ops p.outer m h t (omega (arith, le))

  refuse_pays : (b : ℕ) (inner : List Place) (m : Mid) → FineWith g.code m.frames inner m.choices m.next_tag m.state.trail → 5 + stored (pending m.frames inner) m.choices m.state.trail ≤ b → Affords g.code (1 + dropped_in inner m.choices) b (refuses inner m)
  refuse_pays b [] m h le = fails 1 b m m.frames [] h.choices_are (omega (arith, le))
  refuse_pays b (p ∷ ps) m h le = refuses_pays (1 + dropped p m.choices) b p ps m h (omega (arith, le))

  gathers_pays : (u b : ℕ) (gs : List Gathering) (next : Status) → Affords g.code u b next → Affords g.code u b (gathers g gs next)
  gathers_pays u b gs next h =
      cond_both (nat_lt g.limits.aux (gathered_size gs)) (Ended ending.AuxLimit) next (Affords g.code u b) (λ e. record { fine = tt; few = let x = h.few in omega (arith, x) }) (λ e. h)

  value_pays : (u b : ℕ) (v : Option Value) (inner : List Place) (m : Mid) → FineWith g.code m.frames inner m.choices m.next_tag m.state.trail → u + (4 + stored (pending m.frames inner) m.choices m.state.trail) ≤ b → Affords g.code u b (keeps_value g v m)
  value_pays u b None inner m h le = fails u b m m.frames inner h.choices_are (omega (arith, le))
  value_pays u b (Some v) inner m h le =
      let gs = newest_with (resolved m.state.subst v) m.gathered in
      gathers_pays u b gs (Fails (record m { gathered = gs })) (fails u b (record m { gathered = gs }) m.frames inner h.choices_are (omega (arith, le)))

  keep_pays : (u b : ℕ) (inner : List Place) (m : Mid) → FineWith g.code m.frames inner m.choices m.next_tag m.state.trail → u + (4 + stored (pending m.frames inner) m.choices m.state.trail) ≤ b → Affords g.code u b (keeps g inner m)
  keep_pays u b [] m h le = fails u b m m.frames [] h.choices_are (omega (arith, le))
  keep_pays u b (p ∷ ps) m h le = value_pays u b p.gathers (p ∷ ps) (record m { inner = ps }) h le

  test_pays : (u b : ℕ) (yes : Bool) (m : Mid) → MidFine g.code m → OpsTidy g.code m.ops → u + (7 + stored (pending m.frames m.inner) m.choices m.state.trail) ≤ b → Affords g.code u b (if_passed yes m)
  test_pays u b true m h t le = follows u b m h t le
  test_pays u b false m h t le = fails u b m m.frames m.inner h.choices_are (omega (arith, le))

  -- answers
  return_pays : (b : ℕ) (yes : Bool) (f : Frame) (fs : List Frame) (m : Mid) → f.many ≡ yes → FineWith g.code (f ∷ fs) m.inner m.choices m.next_tag m.state.trail → (if yes then 6 else 5) + stored (pending (f ∷ fs) m.inner) m.choices m.state.trail ≤ b →
      Affords g.code (1 + (if yes then 0 else dropped f.cut m.choices)) b (Runs (returned g yes f fs m))
  return_pays b true f fs m e h le =
      let w : Fewer (pending fs f.inner) (pending (f ∷ fs) m.inner) = record {
        less = λ u. omega arith;
        gone = λ u v a. let x = pending_falls u v [] m.inner a in let y = cut_falls u v f.many f.cut a in omega (arith, x, y);
      } in
      record {
        fine = (fewer_fine (f ∷ fs) m.inner fs f.inner m.choices m.next_tag m.state.trail w h.frames_are.1 h, tidy.blocks f.next);
        few = let x = all_fewer (pending fs f.inner) (pending (f ∷ fs) m.inner) m.choices w in let d = due_behind fs (block_at g.code f.next) (tidy.no_jumps f.next) h.frames_are.0 in omega (arith, le, x, d);
      }
  return_pays b false f fs m e h le =
      let w = inner_gone (f ∷ fs) m.inner in
      let here = fewer_fine (f ∷ fs) m.inner (f ∷ fs) [] m.choices m.next_tag m.state.trail w h.frames_are h in
      let p : WithPlace (pending (f ∷ fs) []) (pending fs f.inner) f.cut = record { is = λ u. let x = ap (λ y. cut_from u y f.cut + pending fs f.inner u) e in omega (arith, x) } in
      follows (1 + dropped f.cut m.choices) b (returned g false f fs m) (place_fine (f ∷ fs) [] fs f.inner m.choices m.next_tag m.state.trail f.cut p h.frames_are.1 here) (tidy.blocks f.next)
      (let x = all_fewer (pending (f ∷ fs) []) (pending (f ∷ fs) m.inner) m.choices w in
      let y = place_pays (f ∷ fs) [] fs f.inner m.choices m.next_tag m.state.trail f.cut p here in omega (arith, le, x, y))

  returns_pays : (b : ℕ) (frames : List Frame) (m : Mid) → FineWith g.code frames m.inner m.choices m.next_tag m.state.trail → returning frames + stored (pending frames m.inner) m.choices m.state.trail ≤ b → Affords g.code (1 + dropped_once frames m.choices) b (returns g frames m)
  returns_pays b [] m h le = fails 1 b m [] m.inner h.choices_are (omega (arith, le))
  returns_pays b (f ∷ fs) m h le = return_pays b f.many f fs m refl h le

  -- stops
  -- a stop pays for the choices that it drops and for what it takes off the trail, where what is pending at its part is pending here too
  stopped_pays : (b : ℕ) (s : Stop) (ss : List Stop) (ops : List Op) (m : Mid) → MidFine g.code m → Unwinds g.code m s → 16 + stored (pending m.frames m.inner) m.choices m.state.trail ≤ b →
      Affords g.code (1 + dropped s.place m.choices + (m.state.trail - s.state.trail)) b (Runs (stopped g s ss (record m { ops = ops })))
  stopped_pays b s ss ops m h w le =
      follows (1 + dropped s.place m.choices + (m.state.trail - s.state.trail)) b (stopped g s ss (record m { ops = ops })) w.fine (tidy.blocks s.block)
      (let x = all_fewer (pending s.frames s.inner) (pending m.frames m.inner) (cut_choices s.place m.choices) w.fewer in
      let y = cut_pending g.code (pending m.frames m.inner) m.state.trail s.place m.choices h.choices_are in
      let z = cut_length s.place m.choices in let t = w.trail in omega (arith, le, x, y, z, t))

  stops_to_pay : (b : ℕ) (o : Option (Stop × List Stop)) (ops : List Op) (m : Mid) → MidFine g.code m → ((s : Stop) (ss : List Stop) → o ≡ Some (s, ss) → Unwinds g.code m s) → 16 + stored (pending m.frames m.inner) m.choices m.state.trail ≤ b →
      Affords g.code (1 + unwound_to o m) b (stops_at g o (record m { ops = ops }))
  stops_to_pay b None ops m h w le = fails 1 b (record m { ops = ops }) m.frames m.inner h.choices_are (omega (arith, le))
  stops_to_pay b (Some x) ops m h w le = let p = stopped_pays b x.0 x.1 ops m h (w x.0 x.1 refl) le in record { fine = p.fine; few = let y = p.few in omega (arith, y) }

  stops_pay : (b : ℕ) (S : Option ℕ) (ops : List Op) (m : Mid) → MidFine g.code m → ((t : ℕ) → S ≡ Some t → (s : Stop) (ss : List Stop) → stop_to t m.stops ≡ Some (s, ss) → Unwinds g.code m s) → 16 + stored (pending m.frames m.inner) m.choices m.state.trail ≤ b →
      Affords g.code (1 + unwound S m) b (stops g S (record m { ops = ops }))
  stops_pay b None ops m h w le = record { fine = tt; few = omega (arith, le) }
  stops_pay b (Some t) ops m h w le = stops_to_pay b (stop_to t m.stops) ops m h (w t refl) le

  opens_inner : (m : Mid) (way : Way) (v : Option Value) (n : ℕ) → MidFine g.code m → WayFine g.code way m.frames m.next_tag →
      let p : Place = record (place_of m) { gathers = v } in
      MidFine g.code (within p (inside way n m)) × (stored (pending m.frames (p ∷ m.inner)) (inside way n m).choices m.state.trail ≤ 8 + stored (pending m.frames m.inner) m.choices m.state.trail)
  opens_inner m way v n h w =
      let p : Place = record (place_of m) { gathers = v } in (
        opens_place (inside way n m) p (omega arith) (omega arith) (opens m way n h w),
        let x = open_costs m way n h in let y = place_costs (inside way n m) p in omega (arith, x, y),
      )

  -- ## Acts

  made_pays : (c b : ℕ) (es : Equations) (made : Registers) (w : World) (m : Mid) → made.bound ≡ m.state.subst → MidFine g.code m → OpsTidy g.code m.ops → c + (7 + stored (pending m.frames m.inner) m.choices m.state.trail) + (solve m.state.subst es).count ≤ b → Affords g.code c b (done g (Unifies made es w) m)
  made_pays c b es made w m e h t le =
      let m' = made_in made (lasting_in w m) in
      let un = solve m.state.subst es in
      let few = few_trailed m.state es in
      let more_trail : trail_more m'.state un ≡ trail_more m.state un = refl in
      let fine = choices_trail g.code (pending m.frames m.inner) m.state.trail (trail_more m.state un) m.choices (omega arith) h.choices_are in
      charge c b (made.heap - m.state.heap) m _
      (subst (λ S. Affords g.code c b (unified g (solve S es) m' (Runs (bound (solve S es) m')))) (sym e)
      (unifies c b un m' (Runs (bound un m')) (fails c b (bound un m') m.frames m.inner fine (omega (arith, le, few)))
      (follows c b (bound un m') (record { newest = h.newest; lower = h.lower; frames_are = h.frames_are; choices_are = fine }) t (omega (arith, le, few)))))

  -- an act pays with its work
  act_pays : (c b : ℕ) (m : Mid) (ps : List Print) (t : ℕ) (x y : Act) → Alike (registers_of m) (registers_of m) t [] (world_of ps m) (world_of [] m) x y → MidFine g.code m → MayStop g.code m → OpsTidy g.code m.ops →
      c + 16 + stored (pending m.frames m.inner) m.choices m.state.trail + 2 * act_work x ≤ b → Affords g.code (1 + (c + act_work x) + dropped_by y m) b (done g y m)
  act_pays c b m ps t x y (goes v1 w1 d) h s ts le =
      cond_both (nat_lt g.limits.keep w1.meters.keep) (Ended ending.KeepLimit) (Runs (lasting_in w1 m)) (Affords g.code _ b) (λ e. record { fine = tt; few = omega (arith, le) }) (λ e. follows _ b (lasting_in w1 m) h ts (omega (arith, le)))
  act_pays c b m ps t x y cuts h s ts le = follows _ b (cut_to (cut_of m.frames) m) (cut_is_fine m.frames m.inner m.choices m.next_tag m.state.trail (cut_of m.frames) h) ts (let z = cut_pays m.frames m.inner m.choices m.next_tag m.state.trail (cut_of m.frames) h in omega (arith, le, z))
  act_pays c b m ps t x y (tests p v1 w1 d) h s ts le = test_pays _ b p (lasting_in w1 m) h ts (omega (arith, le))
  act_pays c b m ps t x y (unifies' made here es v1 w1 ma d) h s ts le =
      let z = ap (λ S. (solve S es).count) ma.bound in
      made_pays _ b es here w1 m ma.here_bound h ts (omega (arith, le, z))
  act_pays c b m ps t x y quits h s ts le = record { fine = tt; few = omega (arith, le) }
  act_pays c b m ps t x y lacks_input h s ts le = record { fine = tt; few = omega (arith, le) }
  act_pays c b m ps t x y (fails' v1 w1 d) h s ts le = fails _ b (lasting_in w1 m) m.frames m.inner h.choices_are (omega (arith, le))
  act_pays c b m ps t x y stops' h s ts le =
      let p = stops_pay (b - (c + act_work x)) m.stop m.ops m h s (omega (arith, le)) in
      record { fine = p.fine; few = let z = p.few in omega (arith, z, le) }

  number_pays : (c b : ℕ) (o : Option ℕ) (into : Value) (w : World) (m : Mid) → MidFine g.code m → OpsTidy g.code m.ops → c + act_work (gives_number o into (registers_of m) w) + (7 + stored (pending m.frames m.inner) m.choices m.state.trail) + act_work (gives_number o into (registers_of m) w) ≤ b → (v : World) → Affords g.code (c + act_work (gives_number o into (registers_of m) w)) b (done g (gives_number o into (registers_of m) v) m)
  number_pays c b None into w m h t le v = fails _ b (lasting_in v m) m.frames m.inner h.choices_are (omega (arith, le))
  number_pays c b (Some n) into w m h t le v = made_pays _ b ((into, leaf (Num n)) ∷ []) (registers_of m) v m refl h t (omega (arith, le))

  taken_pays : (b : ℕ) (ps : List Print) (whole : Gathered) (into : Value) (vs : List Value) (m : Mid) → MidFine g.code m → OpsTidy g.code m.ops → 8 + stored (pending m.frames m.inner) m.choices m.state.trail + 13 * act_work (taken_out ps whole into vs m) ≤ b → Affords g.code (1 + act_work (taken_out ps whole into vs m)) b (done g (taken_out [] whole into vs m) m)
  taken_pays b ps gathered.List into vs m h t le =
      let r = registers_of m in
      made_pays _ b ((into, copy_of (list_of vs) r) ∷ []) (behind_copy (list_of vs) r) (world_by (taken_out [] gathered.List into vs m)) m refl h t (omega (arith, le))
  taken_pays b ps gathered.Sum into vs m h t le = number_pays 1 b (total vs) into (begun (registers_of m) (length vs) (world_of ps m)) m h t (omega (arith, le)) (begun (registers_of m) (length vs) (world_of [] m))

  -- a query of a closure pays with its work
  queries_pays : (u b : ℕ) (t : Option Target) (args : List Value) (many : Bool) (next : ℕ) (m : Mid) → MidFine g.code m → begins_return (block_at g.code next) ≡ false → u + (7 + stored (pending m.frames m.inner) m.choices m.state.trail) + 12 * query_work g t args m.state.subst m.state.vars ≤ b →
      Affords g.code (u + query_work g t args m.state.subst m.state.vars + 0) b (queries g t args many next m)
  queries_pays u b None args many next m h e le = fails _ b m m.frames m.inner h.choices_are (omega (arith, le))
  queries_pays u b (Some t) args many next m h e le =
      let p = calls_pays u b t (call_of args many next m) m h refl (λ e'. absurd (let k : false ≡ true = sym e ∙ e' in cc (k))) le in
      record { fine = p.fine; few = let z = p.few in omega (arith, z) }

  queries_last_pays : (u b : ℕ) (t : Option Target) (args : List Value) (many : Bool) (m : Mid) → MidFine g.code m → u + (7 + stored (pending m.frames m.inner) m.choices m.state.trail) + 12 * query_work g t args m.state.subst m.state.vars ≤ b →
      Affords g.code (u + query_work g t args m.state.subst m.state.vars + 0) b (queries_last g t args many m)
  queries_last_pays u b None args many m h le = fails _ b m m.frames m.inner h.choices_are (omega (arith, le))
  queries_last_pays u b (Some t) args many m h le =
      let p = lasts_pays u b t args many m.frames m refl h le in
      record { fine = p.fine; few = let z = p.few in omega (arith, z) }

  -- a query of a place pays with its work
  seeks_pays : (c b : ℕ) (m : Mid) (ps : List Print) (f : Find) (t : ℕ) (x y : Effect) → AlikeAsked (registers_of m) (registers_of m) t [] (world_of ps m) (world_of [] m) f.place f.args true (numbers 0 g.game.program.objects) x y → MidFine g.code m → MayStop g.code m → OpsTidy g.code m.ops →
      c + 16 + stored (pending m.frames m.inner) m.choices m.state.trail + 2 * effect_work x ≤ b → Affords g.code (1 + (c + effect_work x) + 0) b (seeks g f y m)
  seeks_pays c b m ps f t x y (at_once a a' h) fine s ts le =
      let p = act_pays c b m ps t a a' h.alike fine s ts le in
      record { fine = p.fine; few = let z = p.few in omega (arith, z) }
  seeks_pays c b m ps f t x y (in_turn i) fine s ts le = record { fine = (fine, tt); few = omega (arith, le) }

  pays_op : (ps : List Print) (x : Op) (ops : List Op) (m : Mid) (b : ℕ) → MidFine g.code m → MayStop g.code m → OpTidy g.code x → OpsTidy g.code ops → due_at m.frames x + stored (pending m.frames m.inner) m.choices m.state.trail + 13 * (one_if (is_goal x) + effort g ps x m) ≤ b →
      Affords g.code (1 + effort g ps x m + drops g x m) b (does g x (record m { ops = ops }))
  pays_op ps (op.Do a) ops m b h w t ts le =
      let k = cells g.game.program (terms_of a) in
      let m1 = more k (record m { ops = ops }) in
      let same = action_alike m.next_tag m.stop m.state.subst m.state.vars m1.state.heap m1.state.trail m1.state.heap m1.state.trail (map Prints ps) [] m.gathered nothing_counted nothing_counted m.lasting.typed m.lasting.dice m.lasting.facts m.lasting.sites (cut_of m.frames).tag [] g.game a (vars_of m.frames) in
      let p = act_pays (writing (terms_of a)) b m1 ps (cut_of m.frames).tag _ _ (effects_act (registers_of m1) (registers_of m1) (cut_of m.frames).tag [] (world_of ps m1) (world_of [] m1) _ _ same).1 h (λ t' e s ss f. let u = w t' e s ss f in record { fewer = u.fewer; trail = u.trail; fine = u.fine }) ts (omega (arith, le)) in
      charge _ b k (record m { ops = ops }) _ (record { fine = p.fine; few = let z = p.few in let y = drops_same (act_at g.game [] a (more k m)) ops (more k m) in omega (arith, z, y) })
  pays_op ps (op.Ask pred terms many next) ops m b h w t ts le = charge _ b _ (record m { ops = ops }) _ (asks_pays _ b pred (call_of (map (value_of g.game.program (vars_of m.frames)) terms) many next (more (cells g.game.program terms) (record m { ops = ops }))) (more (cells g.game.program terms) (record m { ops = ops })) h refl (λ e. absurd (let k : false ≡ true = sym t ∙ e in cc (k))) (omega (arith, le)))
  pays_op ps (op.LastAsk pred terms many) ops m b h w t ts le = charge _ b _ (record m { ops = ops }) _ (lasts_pays (1 + asking g terms m) b (ToPred pred) (map (value_of g.game.program (vars_of m.frames)) terms) many m.frames (more (cells g.game.program terms) (record m { ops = ops })) refl h (omega (arith, le)))
  pays_op ps (op.Query a x many next) ops m b h w t ts le =
      let k = cells g.game.program (a ∷ option_terms x) in
      let p = queries_pays (1 + (writing (a ∷ option_terms x) + (1 + links m.state.subst (value_of g.game.program (vars_of m.frames) a)))) b (asked_by g a m) (values g m (option_terms x)) many next (more k (record m { ops = ops })) h t (omega (arith, le)) in
      charge _ b k (record m { ops = ops }) _ (record { fine = p.fine; few = let z = p.few in omega (arith, z) })
  pays_op ps (op.LastQuery a x many) ops m b h w t ts le =
      let k = cells g.game.program (a ∷ option_terms x) in
      let p = queries_last_pays (1 + (writing (a ∷ option_terms x) + (1 + links m.state.subst (value_of g.game.program (vars_of m.frames) a)))) b (asked_by g a m) (values g m (option_terms x)) many (more k (record m { ops = ops })) h (omega (arith, le)) in
      charge _ b k (record m { ops = ops }) _ (record { fine = p.fine; few = let z = p.few in omega (arith, z) })
  pays_op ps (op.Find place terms many next) ops m b h w t ts le =
      let k = cells g.game.program terms in
      let m1 = more k (record m { ops = ops }) in
      let f : Find = record { place = place; args = values g m terms; many = many; next = next } in
      let same = asked_alike m.next_tag m.stop m.state.subst m.state.vars m1.state.heap m1.state.trail m1.state.heap m1.state.trail (map Prints ps) [] m.gathered nothing_counted nothing_counted m.lasting.typed m.lasting.dice m.lasting.facts m.lasting.sites (cut_of m.frames).tag [] g.game place f.args true in
      charge _ b k (record m { ops = ops }) _ (seeks_pays (writing terms) b m1 ps f (cut_of m.frames).tag _ _ same h (λ t' e s ss x. let u = w t' e s ss x in record { fewer = u.fewer; trail = u.trail; fine = u.fine }) ts (omega (arith, le)))
  pays_op ps op.Take ops m b h w t ts le = follows _ b (passed (record m { ops = ops })) (passes_fine (record m { ops = ops }) h) ts (omega (arith, le))
  pays_op ps (op.Branch alt) ops m b h w t ts le = charge _ b 10 (record m { ops = ops }) _ (follows _ b (inside (Goes alt) 0 (record m { ops = ops })) (opens (record m { ops = ops }) (Goes alt) 0 h tt) ts (let x = open_costs (record m { ops = ops }) (Goes alt) 0 h in omega (arith, le, x)))
  pays_op ps (op.Select site mode blocks behind) ops m b h w t ts le =
      let c = selects g.game site mode (length blocks) (world_of [] (record m { ops = ops })) in
      let at = get_or blocks c.branch behind in
      record { fine = (h, tidy.blocks at); few = let d = due_block m.frames (block_at g.code at) (tidy.no_jumps at) in omega (arith, le, d) }
  pays_op ps op.Once ops m b h w t ts le =
      let q = passed (record m { ops = ops }) in
      charge _ b 10 (record m { ops = ops }) _ (follows _ b (within (place_of (record m { ops = ops })) (more 10 q)) (opens_place (more 10 q) (place_of m) (omega arith) (reaching m.next_tag m.choices h.lower) (passes_fine (record m { ops = ops }) h)) ts (let y = place_costs m (place_of m) in omega (arith, le, y)))
  pays_op ps (op.Try alt) ops m b h w t ts le = let o = opens_inner (record m { ops = ops }) (Goes alt) None 0 h tt in charge _ b 10 (record m { ops = ops }) _ (follows _ b (within (place_of (record m { ops = ops })) (inside (Goes alt) 0 (record m { ops = ops }))) o.0 ts (let x = o.1 in omega (arith, le, x)))
  pays_op ps (op.Shield alt) ops m b h w t ts le = let o = opens_inner (record m { ops = ops }) (Goes alt) None 0 h tt in charge _ b 10 (record m { ops = ops }) _ (follows _ b (shielded alt (record m { ops = ops })) o.0 ts (let x = o.1 in omega (arith, le, x)))
  pays_op ps (op.Collect term into alt) ops m b h w t ts le =
      let n = cells g.game.program (term ∷ into ∷ []) in
      let v = value_of g.game.program (vars_of m.frames) in
      let m1 = with_gathering (more n (record m { ops = ops })) in
      let o = opens_inner m1 (Takes alt (v into)) (Some (v term)) 0 h tt in
      charge _ b n (record m { ops = ops }) _ (charge _ b 10 (more n (record m { ops = ops })) _ (gathers_pays _ b (gathering (v term) (v into) alt (more n (record m { ops = ops }))).gathered _ (follows _ b (gathering (v term) (v into) alt (more n (record m { ops = ops }))) o.0 ts (let x = o.1 in omega (arith, le, x)))))
  pays_op ps (op.Retry alt) ops m b h w t ts le = fails _ b (record m { ops = ops }) m.frames m.inner h.choices_are (omega (arith, le))
  pays_op ps op.Commit ops m b h w t ts le = commit_pays b m.inner (record m { ops = ops }) h ts (omega (arith, le))
  pays_op ps op.Refuse ops m b h w t ts le = refuse_pays b m.inner (record m { ops = ops }) h (omega (arith, le))
  pays_op ps op.Back ops m b h w t ts le = fails _ b (record m { ops = ops }) m.frames m.inner h.choices_are (omega (arith, le))
  pays_op ps op.Leave ops m b h w t ts le = leave_pays b m.inner (record m { ops = ops }) h ts (omega (arith, le))
  pays_op ps (op.Keep term) ops m b h w t ts le = keep_pays _ b m.inner (record m { ops = ops }) h (omega (arith, le))
  pays_op ps (op.TakeOut whole into) ops m b h w t ts le = fails _ b (record m { ops = ops }) m.frames m.inner h.choices_are (omega (arith, le))
  pays_op ps op.Return ops m b h w t ts le = returns_pays b m.frames (record m { ops = ops }) h (omega (arith, le))
  pays_op ps op.Done ops m b h w t ts le = record { fine = tt; few = omega (arith, le) }
  pays_op ps (op.Goto b0) ops m b h w t ts le = record { fine = (h, tidy.blocks b0); few = let d = due_block m.frames (block_at g.code b0) (tidy.no_jumps b0) in omega (arith, le, d) }
  pays_op ps (op.Enter vars head) ops m b h w t ts le = fails _ b (record m { ops = ops }) m.frames m.inner h.choices_are (omega (arith, le))

  -- ## Going on

  goes_pays : (b : ℕ) (m : Mid) → MidFine g.code m → OpsTidy g.code m.ops → 8 + stored (pending m.frames m.inner) m.choices m.state.trail ≤ b → Affords g.code 1 b (Runs (passed m))
  goes_pays b m h t le = follows 1 b (passed m) (passes_fine m h) t (omega (arith, le))

  resumed_pays : (b : ℕ) (ops : List Op) (m : Mid) → MidFine g.code m → OpsTidy g.code ops → 8 + stored (pending m.frames m.inner) m.choices m.state.trail + 13 * resuming ops ≤ b → Affords g.code (1 + resuming ops) b (resumed g ops m)
  resumed_pays b [] m h t le = goes_pays b (record m { ops = [] }) h t (omega (arith, le))
  resumed_pays b (op.Retry alt ∷ ops) m h t le = charge _ b 10 m _ (follows _ b (inside (Goes alt) 0 (record m { ops = ops })) (opens (record m { ops = ops }) (Goes alt) 0 h tt) t.1 (let x = open_costs (record m { ops = ops }) (Goes alt) 0 h in omega (arith, le, x)))
  resumed_pays b (x ∷ ops) m h t le = goes_pays b (record m { ops = x ∷ ops }) h t (omega (arith, le))

  newest_pays : (b : ℕ) (ps : List Print) (whole : Gathered) (into : Value) (gs : List Gathering) (m : Mid) → MidFine g.code m → OpsTidy g.code m.ops → 8 + stored (pending m.frames m.inner) m.choices m.state.trail + 13 * taking_newest ps whole into gs m ≤ b → Affords g.code (1 + taking_newest ps whole into gs m) b (takes_newest g whole into gs m)
  newest_pays b ps whole into [] m h t le = fails 1 b m m.frames m.inner h.choices_are (omega (arith, le))
  newest_pays b ps whole into (x ∷ xs) m h t le = taken_pays b ps whole into x.values (passed (record m { gathered = xs })) (passes_fine m h) t (omega (arith, le))

  takes_pays : (b : ℕ) (ps : List Print) (into : Value) (ops : List Op) (m : Mid) → MidFine g.code m → OpsTidy g.code ops → 8 + stored (pending m.frames m.inner) m.choices m.state.trail + 13 * taking ps into ops m ≤ b → Affords g.code (1 + taking ps into ops m) b (takes g into ops m)
  takes_pays b ps into [] m h t le = fails 1 b m m.frames m.inner h.choices_are (omega (arith, le))
  takes_pays b ps into (op.TakeOut whole term ∷ ops) m h t le = newest_pays b ps whole into m.gathered (record m { ops = ops }) h t.1 le
  takes_pays b ps into (x ∷ ops) m h t le = fails 1 b m m.frames m.inner h.choices_are (omega (arith, le))

  found_pays : (b : ℕ) (args : List Value) (o : ℕ) (y : Option Value) (w v : World) (m : Mid) → MidFine g.code m → OpsTidy g.code m.ops → 1 ≤ w.meters.work → stored (pending m.frames m.inner) m.choices m.state.trail + 13 * act_work (finds_if_set args o (registers_of m) y w) ≤ b →
      Affords g.code (1 + act_work (finds_if_set args o (registers_of m) y w)) b (done g (finds_if_set args o (registers_of m) y v) m)
  found_pays b args o None w v m h t one le = fails _ b (lasting_in v m) m.frames m.inner h.choices_are (omega (arith, le, one))
  found_pays b [] o (Some y) w v m h t one le = fails _ b (lasting_in v m) m.frames m.inner h.choices_are (omega (arith, le, one))
  found_pays b (a ∷ []) o (Some y) w v m h t one le = made_pays _ b ((a, leaf (Object o)) ∷ []) (registers_of m) v m refl h t (omega (arith, le, one))
  found_pays b (a ∷ a' ∷ args) o (Some y) w v m h t one le =
      made_pays _ b ((a, leaf (Object o)) ∷ (a', copy_of y (registers_of m)) ∷ []) (behind_copy y (registers_of m)) (worked (copied y) v) m refl h t (omega (arith, le, one))

  -- the machine where an object is tried
  wanted_pays : (many : Bool) (p : Place) (m : Mid) → p.tag < m.next_tag → Reaching p.tag m.choices → MidFine g.code m → (inner : List Place) → m.inner ≡ inner →
      MidFine g.code (record m { inner = inner_for many p inner }) × (stored (pending m.frames (inner_for many p inner)) m.choices m.state.trail ≤ 3 + stored (pending m.frames inner) m.choices m.state.trail)
  wanted_pays true p m lt r h inner e = (subst (λ l. FineWith g.code m.frames l m.choices m.next_tag m.state.trail) e h, omega arith)
  wanted_pays false p m lt r h inner e =
      (subst (λ l. FineWith g.code m.frames (p ∷ l) m.choices m.next_tag m.state.trail) e (opens_place m p lt r h), let y = subst (λ l. all_pending (pending m.frames (p ∷ l)) m.choices ≤ suc (all_pending (pending m.frames l) m.choices)) e (place_costs m p) in omega (arith, y))

  tries_pays : (b : ℕ) (ps : List Print) (f : Find) (os : List ℕ) (m : Mid) → MidFine g.code m → 8 + stored (pending m.frames m.inner) m.choices m.state.trail + 13 * found_work g ps f os m ≤ b → Affords g.code (1 + found_work g ps f os m) b (tries g f os m)
  tries_pays b ps f [] m h le = fails 1 b m m.frames m.inner h.choices_are (omega (arith, le))
  tries_pays b ps f (o ∷ []) m h le =
      let m1 : Mid = record (passed m) { ops = block_at g.code f.next } in
      let m' = trying g f [] m in
      let p = wanted_pays f.many (place_of m) m1 (omega arith) (reaching m.next_tag m.choices h.lower) (passes_fine m h) m.inner refl in
      found_pays b f.args o (found m.lasting.facts f.place o) (begun (registers_of m') 1 (world_of ps m')) (begun (registers_of m') 1 (world_of [] m')) m' p.0 (tidy.blocks f.next) (omega arith) (let x = p.1 in omega (arith, le, x))
  tries_pays b ps f (o ∷ i ∷ os) m h le =
      let m1 : Mid = record (inside (Tries f (i ∷ os)) (length f.args) m) { ops = block_at g.code f.next } in
      let m' = trying g f (i ∷ os) m in
      let p = wanted_pays f.many (place_of m) m1 (omega arith) (omega arith) (opens m (Tries f (i ∷ os)) (length f.args) h tt) m.inner refl in
      charge _ b (10 + length f.args) m _ (found_pays b f.args o (found m.lasting.facts f.place o) (begun (registers_of m') 1 (world_of ps m')) (begun (registers_of m') 1 (world_of [] m')) m' p.0 (tidy.blocks f.next) (omega arith)
      (let x = p.1 in let y = open_costs m (Tries f (i ∷ os)) (length f.args) h in omega (arith, le, x, y)))

  way_pays : (b : ℕ) (ps : List Print) (way : Way) (m : Mid) → MidFine g.code m → WayFine g.code way m.frames m.next_tag → 8 + stored (pending m.frames m.inner) m.choices m.state.trail + 13 * earned_by g ps way m ≤ b → Affords g.code (units_by g ps way m) b (goes_on g way m)
  way_pays b ps (Goes k) m h w le = resumed_pays b (block_at g.code k) m h (tidy.blocks k) le
  way_pays b ps (Takes k into) m h w le = takes_pays b ps into (block_at g.code k) m h (tidy.blocks k) le
  way_pays b ps (Calls call rules) m h w le = begins_pays 1 b call rules m h w.0 w.2 w.1 (omega (arith, le))
  way_pays b ps (Tries f os) m h w le = tries_pays b ps f os m h le

  back_pays : (b : ℕ) (cs : List Choice) (m : Mid) → ChoicesFine g.code nothing m.state.trail cs → 4 + stored nothing cs m.state.trail ≤ b → Affords g.code (1 + undone cs m) b (goes_back cs m)
  back_pays b [] m h le = record { fine = tt; few = omega (arith, le) }
  back_pays b (c ∷ cs) m h le = record {
    fine = (record { newest = h.0.newest; lower = h.0.lower; frames_are = h.0.frames; choices_are = h.1 }, h.0.way);
    few = let x = h.0.trail_is in omega (arith, le, x);
  }

  entered_pays : (b : ℕ) (call : Call) (m : Mid) (ops : List Op) → EntersRule ops → MidFine g.code m → CallFine g.code call m.frames m.next_tag → Reaching call.cut.tag m.choices → OpsTidy g.code ops →
      2 + stored (pending m.frames m.inner) m.choices m.state.trail + 13 * entering g call ops m ≤ b → Affords g.code (1 + entering g call ops m) b (entered g call ops m)
  entered_pays b call m ops e h c r t le =
      subst (λ l. OpsTidy g.code l → 2 + stored (pending m.frames m.inner) m.choices m.state.trail + 13 * entering g call l m ≤ b → Affords g.code (1 + entering g call l m) b (entered g call l m)) (sym e.is)
      (λ t' le'. rule_pays b e.vars e.head call (record m { ops = e.rest }) h c r t'.1 le') t le

  runs_pays : (b : ℕ) (ps : List Print) (ops : List Op) (m : Mid) → MidFine g.code m → MayStop g.code m → OpsTidy g.code ops → due m.frames ops + stored (pending m.frames m.inner) m.choices m.state.trail + 13 * earned_of g ps ops m ≤ b → Affords g.code (units_of g ps ops m) b (runs g ops m)
  runs_pays b ps [] m h w t le = fails 1 b m m.frames m.inner h.choices_are (omega (arith, le))
  runs_pays b ps (x ∷ ops) m h w t le = pays_op ps x ops m b h w t.0 t.1 le

  -- a step is paid by what the search counts there, thirteen times, and by what is left
  pub pays : (ps : List Print) (now : Status) → StatusFine g.code now → StatusMayStop g.code now → Affords g.code (units g ps now) (potential now + 13 * earned g ps now) (step g now)
  pays ps (Runs m) h w = runs_pays _ ps m.ops m h.0 w h.1 (omega arith)
  pays ps (Enters call m) h w = entered_pays _ call m m.ops h.2 h.0 h.1 h.3 h.4 (omega arith)
  pays ps (Resumes way m) h w = way_pays _ ps way m h.0 h.1 (omega arith)
  pays ps (Fails m) h w = back_pays _ m.choices m h (omega arith)
  pays ps (Ended e) h w = record { fine = tt; few = omega arith }
