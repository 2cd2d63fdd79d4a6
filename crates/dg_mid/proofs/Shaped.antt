-- Each step keeps the shape of the open constructs.
use Rattle.std.proofs.Common.{◌≡◌, ℕ, zero, suc, ◌+◌, ◌<◌, ◌≤◌, List, [], ◌∷◌, ◌++◌, Bool, true, false, Option, Some, None, refl, sym, ap, subst, arith, length, map}
use Rattle.std.specs.Prelude.{slice_get, get_or, nat_lt, eqb, ◌-◌}
use Rattle.std.specs.List.{zip}
use Rattle.std.proofs.lemmas.Bool.{cond_both, eq-eqb, eqb-true}
use Rattle.dg_base.specs.declared.program.Goal.{Goal}
use Rattle.dg_base.specs.declared.program.Goal.TheVariants as goal
use Rattle.dg_base.specs.declared.program.Term.{Term}
use Rattle.dg_meaning.specs.Values.{Closure, Value, Var, Node, Values, value_of}
use Rattle.dg_meaning.specs.Substitutions.{walk}
use Rattle.dg_base.specs.Goals.{option_terms}
use Rattle.dg_meaning.specs.Unify.{Unified, solve}
use Rattle.dg_base.specs.declared.run.Ending.TheVariants as ending
use Rattle.dg_meaning.specs.Substitutions.{resolved}
use Rattle.dg_meaning.specs.World.{Gathering, gathered_size}
use Rattle.dg_meaning.specs.Path.{Act, Goes as GoesNow, Tests, Unifies, Ends, Fails as FailsNow, Stops, Effect, Acts, Offers}
use Rattle.dg_meaning.specs.Cells.{cells}
use Rattle.dg_mid.specs.declared.code.Op.{Op}
use Rattle.dg_mid.specs.declared.code.Op.TheVariants as op
use Rattle.dg_mid.specs.declared.code.Gathered.TheVariants as gathered
use Rattle.dg_mid.specs.declared.code.Gathered.{Gathered}
use Rattle.dg_mid.specs.declared.code.RuleCode.{RuleCode}
use Rattle.dg_mid.specs.declared.code.BodyCode.{BodyCode}
use Rattle.dg_mid.specs.Actions.{terms_of, act_at, asked_at, found_at, world_of, lasting_in}
use Rattle.dg_mid.specs.declared.code.Code.{Code}
use Rattle.dg_mid.specs.Code.{block_at, rules_at, selected, excluded}
use Rattle.dg_mid.specs.State.{Place, Frame, Call, Target, ToPred, ToBody, Find, Way, Goes, Calls, Tries, Stop, Choice, Mid, Status, Runs, Enters, Resumes, Fails, Ended, vars_of, cut_of, place_of, inner_for, cut_choices, stop_to, Takes}
use Rattle.dg_mid.specs.Step.{Setting, parameter, body_frame, body_equations, enters_body, calls, body_of, closure_at, queries, queries_last, asked_by, values, does, seeks, trying, tries, done, made_in, gathers, taken_out, step, runs, charged, more, unified, bound, trail_more, if_agreed, if_passed, inside, passed, within, new_choice, enters, begins, asks, asks_last, last, first_of, returned, returns, commits, refuses, leaves, keeps, new_frame, new_stop, enter, entered, resumed, goes_on, goes_back, at_rule, call_of, shielded, gathering, stops, stops_at, keeps_value, takes, with_gathering, newest_with, takes_newest}
use Rattle.dg_mid.specs.Codes.{End, Returns, Commits, Refuses, Backs, Leaves, Keeps, Stands, Others, last_list, more_lists, jumps, returns as stands_returns, commits as stands_commits, refuses as stands_refuses, backs, leaves as stands_leaves, keeps as stands_keeps, shields, collects, accumulates, finishes, acts, ask, last_ask, query, last_query, holds, objects, found_goals, found_end, only, either, selects, once, negates, branch, exhausts, forever}
use Rattle.dg_mid.specs.Potential.{one_from, cut_from, pending, ChoicesFine, MidFine, StatusFine}
use Rattle.dg_mid.specs.inside.Shapes.{StopOlder, head_of, Fits, FitsCode, BlockFits, plain, retry, FramesFit, StopCovers, ActiveAt, Active, AllTrails, RuleFits, RulesFit, BodyFits, MayBody, TargetFits, CallFits, GoesFit, TriesFit, WayFits, ChoicesShaped, MidShaped, ShapedAt, RunShaped, StatusShaped, TakesFit}
use Rattle.dg_mid.proofs.Pending.{one_falls, cut_falls}
use Rattle.dg_mid.proofs.Backs.{goes_plainly}
use Rattle.dg_mid.proofs.Chosen.{branch_stands}
use Rattle.dg_meaning.specs.Moves.{selects as selecting}
use Rattle.dg_mid.proofs.Shapes.{older_up, below_up, trails_up, trails_cut, trails_push, shaped_cut, covers_more, covers_less, active_moves, active_left, found}

-- ## Parts of a machine

Conv : List ℕ → (ℕ → ℕ) → (ℕ → ℕ) → Type 0
Conv chain N N' = (s : Stop) → head_of chain ≡ Some s.place.tag → StopCovers N s → StopCovers N' s

lists_s : (code : Code) (frames : List Frame) (inner : List Place) (frames' : List Frame) (inner' : List Place) (cs : List Choice) (ss : List Stop) (S : Option ℕ) (t k : ℕ) (chain : List ℕ) → Conv chain (pending frames inner) (pending frames' inner') → MidShaped code frames inner cs ss S t k chain → MidShaped code frames' inner' cs ss S t k chain
unfolding Conv
lists_s code frames inner frames' inner' cs ss S t k chain conv h = record { here = record { active = active_moves code (pending frames inner) (pending frames' inner') chain ss conv h.here.active; stop_is = h.here.stop_is; older = h.here.older; below = h.here.below; trails = h.here.trails }; choices_are = h.choices_are }

trail_s : (code : Code) (frames : List Frame) (inner : List Place) (cs : List Choice) (ss : List Stop) (S : Option ℕ) (t k k' : ℕ) (chain : List ℕ) → k ≤ k' → MidShaped code frames inner cs ss S t k chain → MidShaped code frames inner cs ss S t k' chain
trail_s code frames inner cs ss S t k k' chain le h = record { here = record { active = h.here.active; stop_is = h.here.stop_is; older = h.here.older; below = h.here.below; trails = trails_up k k' cs ss le h.here.trails }; choices_are = h.choices_are }

tag_s : (code : Code) (frames : List Frame) (inner : List Place) (cs : List Choice) (ss : List Stop) (S : Option ℕ) (t t' k : ℕ) (chain : List ℕ) → t ≤ t' → MidShaped code frames inner cs ss S t k chain → MidShaped code frames inner cs ss S t' k chain
tag_s code frames inner cs ss S t t' k chain le h = record { here = record { active = h.here.active; stop_is = h.here.stop_is; older = older_up t t' (head_of chain) le h.here.older; below = below_up t t' ss le h.here.below; trails = h.here.trails }; choices_are = h.choices_are }

cut_s : (code : Code) (frames : List Frame) (inner : List Place) (cs : List Choice) (ss : List Stop) (S : Option ℕ) (t k : ℕ) (chain : List ℕ) (p : Place) → MidShaped code frames inner cs ss S t k chain → MidShaped code frames inner (cut_choices p cs) ss S t k chain
cut_s code frames inner cs ss S t k chain p h = record { here = record { active = h.here.active; stop_is = h.here.stop_is; older = h.here.older; below = h.here.below; trails = trails_cut k p cs ss h.here.trails }; choices_are = shaped_cut code p cs h.choices_are }

push_s : (code : Code) (m : Mid) (way : Way) (n : ℕ) (chain : List ℕ) → ShapedAt code m chain → WayFits code way m.frames m.inner chain → ShapedAt code (inside way n m) chain
push_s code m way n chain h w = record {
  here = record { active = h.here.active; stop_is = h.here.stop_is; older = older_up m.next_tag (m.next_tag + 1) (head_of chain) (omega arith) h.here.older; below = below_up m.next_tag (m.next_tag + 1) m.stops (omega arith) h.here.below; trails = trails_push m.state.trail (new_choice way m) m.choices m.stops h.here.below h.here.trails };
  choices_are = ((chain, h.here, w), h.choices_are);
}

place_s : (code : Code) (frames : List Frame) (inner : List Place) (cs : List Choice) (ss : List Stop) (S : Option ℕ) (t k : ℕ) (chain : List ℕ) (p : Place) → MidShaped code frames inner cs ss S t k chain → MidShaped code frames (p ∷ inner) cs ss S t k chain
unfolding Conv
place_s code frames inner cs ss S t k chain p h = lists_s code frames inner frames (p ∷ inner) cs ss S t k chain (λ s e c. covers_more (pending frames inner) (pending frames (p ∷ inner)) s (λ u v a. let x = one_falls u v p a in omega (arith, x)) c) h

-- a place that isn't older than the innermost part goes
gone_s : (code : Code) (frames : List Frame) (inner : List Place) (frames' : List Frame) (inner' : List Place) (cs : List Choice) (ss : List Stop) (S : Option ℕ) (t k : ℕ) (chain : List ℕ) (p : Place) → StopOlder p.tag (head_of chain) → ((u : ℕ) → pending frames inner u ≡ one_from u p + pending frames' inner' u) → MidShaped code frames inner cs ss S t k chain → MidShaped code frames' inner' cs ss S t k chain
unfolding Conv
gone_s code frames inner frames' inner' cs ss S t k chain p older is h = lists_s code frames inner frames' inner' cs ss S t k chain (λ s e c. covers_less (pending frames inner) (pending frames' inner') p s is (let lt : s.place.tag < p.tag = subst (StopOlder p.tag) e older in omega (arith, lt)) c) h

-- the same is pending
same_s : (code : Code) (frames : List Frame) (inner : List Place) (frames' : List Frame) (inner' : List Place) (cs : List Choice) (ss : List Stop) (S : Option ℕ) (t k : ℕ) (chain : List ℕ) → ((u : ℕ) → pending frames inner u ≡ pending frames' inner' u) → MidShaped code frames inner cs ss S t k chain → MidShaped code frames' inner' cs ss S t k chain
unfolding Conv
same_s code frames inner frames' inner' cs ss S t k chain is h = lists_s code frames inner frames' inner' cs ss S t k chain (λ s e c. covers_more (pending frames inner) (pending frames' inner') s (λ u v a. let x = is u in let y = is v in omega (arith, x, y)) c) h

older_in : (code : Code) (N : ℕ → ℕ) (t : ℕ) (chain : List ℕ) (ss : List Stop) → Active code N (t ∷ chain) ss → StopOlder t (head_of chain)
older_in code N t chain [] h = absurd h
older_in code N t chain (s ∷ ss) h = by (older_in code N t chain ss) (eqb s.place.tag t) refl h where
  by : (Active code N (t ∷ chain) ss → StopOlder t (head_of chain)) → (b : Bool) → eqb s.place.tag t ≡ b → ActiveAt code N t chain s ss b → StopOlder t (head_of chain)
  by on true e h = subst (λ k. StopOlder k (head_of chain)) (eqb-true s.place.tag t e) h.0.older
  by on false e h = on h

all_within : (code : Code) (N : ℕ → ℕ) (u k k' : ℕ) (cs : List Choice) → k ≤ k' → ChoicesFine code N k cs → AllTrails u k' cs
all_within code N u k k' [] le h = tt
all_within code N u k k' (c ∷ cs) le h = let x = h.0.trail_is in ((λ e. omega (arith, x, le)), all_within code (pending c.frames c.inner) u c.state.trail k' cs (omega (arith, x, le)) h.1)

others_fit : (code : Code) (chain r : List ℕ) (inner : List Place) (b : ℕ) (lists : List (List Goal)) (goals : List Goal) (end : End) → Fits chain r end inner → Others code b lists goals end → BlockFits code chain r inner b
others_fit code chain r inner b lists goals end f (last_list b' list goals' end' s) = plain b (record { goals = list ++ goals; end = end; stands = s; fits = f })
others_fit code chain r inner b lists goals end f (more_lists b' alt ops list second others goals' end' e s more) = retry b alt ops e (record { goals = list ++ goals; end = end; stands = s; fits = f }) (others_fit code chain r inner alt (second ∷ others) goals end f more)

opened_s : (code : Code) (f : Frame) (frames : List Frame) (inner : List Place) (cs : List Choice) (ss : List Stop) (S : Option ℕ) (t k : ℕ) (chain : List ℕ) → MidShaped code frames inner cs ss S t k chain → MidShaped code (record f { inner = inner } ∷ frames) [] cs ss S t k chain
unfolding Conv
opened_s code f frames inner cs ss S t k chain h = lists_s code frames inner (record f { inner = inner } ∷ frames) [] cs ss S t k chain (λ s e c. covers_more (pending frames inner) (pending (record f { inner = inner } ∷ frames) []) s (λ u v a. let x = cut_falls u v f.many f.cut a in omega (arith, x)) c) h

-- ## Steps

module _ (g : Setting) (answers : block_at g.code 0 ≡ op.Return ∷ []) (rules : (pred : ℕ) → RulesFit g.code (rules_at g.code pred)) (bodies : (k : ℕ) → MayBody g.code (slice_get g.code.closures k)) where
  charge_s : (k : ℕ) (m : Mid) (next : Status) → StatusShaped g.code next → StatusShaped g.code (charged g k m next)
  charge_s zero m next h = h
  charge_s (suc k) m next h = cond_both (nat_lt g.limits.heap (m.state.heap + suc k)) (Ended ending.HeapLimit) next (StatusShaped g.code) (λ e. tt) (λ e. h)

  agreed_s : (yes : Bool) (m : Mid) (next : Status) → ChoicesShaped g.code m.choices → StatusShaped g.code next → StatusShaped g.code (if_agreed yes m next)
  agreed_s true m next f n = n
  agreed_s false m next f n = f

  unify_s : (u : Unified) (m : Mid) (next : Status) → ChoicesShaped g.code m.choices → StatusShaped g.code next → StatusShaped g.code (unified g u m next)
  unify_s u m next f n = cond_both (nat_lt g.limits.trail (trail_more m.state u)) (Ended ending.TrailLimit) (if_agreed u.agrees (bound u m) next) (StatusShaped g.code) (λ e. tt) (λ e. agreed_s u.agrees (bound u m) next f n)

  test_s : (yes : Bool) (m : Mid) → ChoicesShaped g.code m.choices → StatusShaped g.code (Runs m) → StatusShaped g.code (if_passed yes m)
  test_s true m f h = h
  test_s false m f h = f

  -- queries
  all_fit : (first : Option Value) (rs : List RuleCode) → RulesFit g.code rs → RulesFit g.code (selected first rs)
  all_fit first [] h = tt
  all_fit first (r ∷ rs) h = cond_both (excluded first r.key) (selected first rs) (r ∷ rs) (RulesFit g.code) (λ e. all_fit first rs h.1) (λ e. h)

  enters_s : (call : Call) (r : RuleCode) (others : List RuleCode) (m : Mid) (chain : List ℕ) → ShapedAt g.code m chain → CallFits g.code call m.frames m.inner chain → RuleFits g.code (block_at g.code r.block) → RulesFit g.code others → StatusShaped g.code (enters g call r others m)
  enters_s call r [] m chain h c f o = (chain, tag_s g.code m.frames m.inner m.choices m.stops m.stop m.next_tag (m.next_tag + 1) m.state.trail chain (omega arith) h, c, f)
  enters_s call r (q ∷ qs) m chain h c f o = charge_s (10 + length call.args) m _ (chain, push_s g.code (at_rule g r m) (Calls call (q ∷ qs)) (length call.args) chain (record { here = h.here; choices_are = h.choices_are }) (c, o), c, f)

  begins_s : (call : Call) (rs : List RuleCode) (m : Mid) (chain : List ℕ) → ShapedAt g.code m chain → CallFits g.code call m.frames m.inner chain → RulesFit g.code rs → StatusShaped g.code (begins g call rs m)
  begins_s call [] m chain h c o = h.choices_are
  begins_s call (r ∷ rs) m chain h c o = enters_s call r (selected (first_of m.state.subst call) rs) m chain h c o.0 (all_fit (first_of m.state.subst call) rs o.1)

  asks_s : (pred : ℕ) (call : Call) (m : Mid) (chain : List ℕ) → ShapedAt g.code m chain → CallFits g.code call m.frames m.inner chain → StatusShaped g.code (asks g pred call m)
  asks_s pred call m chain h c = begins_s call (selected (first_of m.state.subst call) (rules_at g.code pred)) m chain h c (all_fit (first_of m.state.subst call) (rules_at g.code pred) (rules pred))

  -- a body is entered
  frame_s : (f : Frame) (m : Mid) (chain : List ℕ) → ShapedAt g.code m chain → MidShaped g.code (record f { inner = m.inner } ∷ m.frames) [] m.choices m.stops m.stop m.next_tag m.state.trail chain
  frame_s f m chain h = opened_s g.code f m.frames m.inner m.choices m.stops m.stop m.next_tag m.state.trail chain h

  opens_s : (c : BodyCode) (captured : List Value) (call : Call) (m : Mid) (chain : List ℕ) → ShapedAt g.code m chain → CallFits g.code call m.frames m.inner chain → BodyFits g.code c → StatusShaped g.code (enters_body g c captured call m)
  opens_s c captured call m chain h cf s =
      let n = 6 + c.own + cells g.game.program (parameter captured call.args) in
      let f = body_frame captured c.own call m in
      let m1 : Mid = record (passed m) { ops = block_at g.code c.block; state = record m.state { vars = m.state.vars + c.own; heap = m.state.heap + n } } in
      let un = solve m.state.subst (body_equations g captured c.own call.args m.state.vars) in
      let up = tag_s g.code (f ∷ m.frames) [] m.choices m.stops m.stop m.next_tag (m.next_tag + 1) (trail_more m.state un) chain (omega arith)
      (trail_s g.code (f ∷ m.frames) [] m.choices m.stops m.stop m.next_tag m.state.trail (trail_more m.state un) chain (omega arith) (frame_s f m chain h)) in
      charge_s n m _ (unify_s un m1 (Runs (record (bound un m1) { frames = f ∷ m.frames; inner = [] })) h.choices_are
      (chain, up, record { r = chain; code_is = record { goals = s.body; end = Returns; stands = s.stands; fits = (refl, refl) }; frames_are = (cf.older, (cf.r, cf.next, cf.frames_are)) }))

  calls_s : (t : Target) (call : Call) (m : Mid) (chain : List ℕ) → ShapedAt g.code m chain → CallFits g.code call m.frames m.inner chain → TargetFits g.code t → StatusShaped g.code (calls g t call m)
  calls_s (ToPred pred) call m chain h c s = asks_s pred call m chain h c
  calls_s (ToBody b captured) call m chain h c s = opens_s b captured call m chain h c s

  -- what a value asks fits
  abbrev MayTarget : Option Target → Type 0
  MayTarget None = Unit {0}
  MayTarget (Some t) = TargetFits g.code t

  body_fits : (c : Option BodyCode) (parts : Values) → MayBody g.code c → MayTarget (body_of c parts)
  body_fits None parts h = tt
  body_fits (Some c) parts h = h

  target_fits : (v : Value) → MayTarget (closure_at g.code v)
  target_fits (Var x) = tt
  target_fits (Node (Closure k) parts) = body_fits (slice_get g.code.closures k) parts (bodies k)
  target_fits (Node f parts) = tt

  -- the block that answers
  answer_fits : (chain r : List ℕ) → chain ≡ r → FitsCode g.code (block_at g.code 0) chain r []
  answer_fits chain r e = record { goals = []; end = Returns; stands = subst (λ l. Stands g.code l [] Returns) (sym answers) (stands_returns []); fits = (refl, e) }

  last_on_s : (yes : Bool) (pred : Target) (args : List Value) (many : Bool) (f : Frame) (fs : List Frame) (m : Mid) (chain r : List ℕ) → TargetFits g.code pred → m.frames ≡ f ∷ fs → f.many ≡ yes → MidShaped g.code (f ∷ fs) [] m.choices m.stops m.stop m.next_tag m.state.trail chain → FramesFit g.code (f ∷ fs) r → chain ≡ r → StatusShaped g.code (asks_last g pred args many yes f fs m)
  last_on_s true pred args many f fs m chain r tf is is_many h fit e =
      calls_s pred (call_of args many f.next m) (record m { frames = fs; inner = f.inner }) chain
      (same_s g.code (f ∷ fs) [] fs f.inner m.choices m.stops m.stop m.next_tag m.state.trail chain (λ u. let x = ap (λ y. cut_from u y f.cut) is_many in omega (arith, x)) h)
      (record { r = fit.1.0; next = subst (λ l. FitsCode g.code (block_at g.code f.next) l fit.1.0 f.inner) (sym e) fit.1.1; frames_are = fit.1.2; older = h.here.older }) tf
  last_on_s false pred args many f fs m chain r tf is is_many h fit e =
      calls_s pred (call_of args many 0 m) (record m { inner = [] }) chain
      (subst (λ l. MidShaped g.code l [] m.choices m.stops m.stop m.next_tag m.state.trail chain) (sym is) h)
      (record { r = r; next = answer_fits chain r e; frames_are = subst (λ l. FramesFit g.code l r) (sym is) fit; older = h.here.older }) tf

  last_s : (pred : Target) (args : List Value) (many : Bool) (frames : List Frame) (m : Mid) (chain r : List ℕ) → TargetFits g.code pred → m.frames ≡ frames → MidShaped g.code frames [] m.choices m.stops m.stop m.next_tag m.state.trail chain → FramesFit g.code frames r → chain ≡ r → StatusShaped g.code (last g pred args many frames m)
  last_s pred args many [] m chain r tf is h fit e =
      calls_s pred (call_of args many 0 m) (record m { inner = [] }) chain
      (subst (λ l. MidShaped g.code l [] m.choices m.stops m.stop m.next_tag m.state.trail chain) (sym is) h)
      (record { r = r; next = answer_fits chain r e; frames_are = subst (λ l. FramesFit g.code l r) (sym is) tt; older = h.here.older }) tf
  last_s pred args many (f ∷ fs) m chain r tf is h fit e = last_on_s f.many pred args many f fs m chain r tf is refl h fit e

  -- answers
  return_s : (yes : Bool) (f : Frame) (fs : List Frame) (m : Mid) (chain r : List ℕ) → f.many ≡ yes → MidShaped g.code (f ∷ fs) [] m.choices m.stops m.stop m.next_tag m.state.trail chain → FramesFit g.code (f ∷ fs) r → chain ≡ r → StatusShaped g.code (Runs (returned g yes f fs m))
  return_s true f fs m chain r is_many h fit e = (
    chain,
    same_s g.code (f ∷ fs) [] fs f.inner m.choices m.stops m.stop m.next_tag m.state.trail chain (λ u. let x = ap (λ y. cut_from u y f.cut) is_many in omega (arith, x)) h,
    record { r = fit.1.0; code_is = subst (λ l. FitsCode g.code (block_at g.code f.next) l fit.1.0 f.inner) (sym e) fit.1.1; frames_are = fit.1.2 },
  )
  return_s false f fs m chain r is_many h fit e = (
    chain,
    cut_s g.code fs f.inner m.choices m.stops m.stop m.next_tag m.state.trail chain f.cut
        (gone_s g.code (f ∷ fs) [] fs f.inner m.choices m.stops m.stop m.next_tag m.state.trail chain f.cut (subst (λ l. StopOlder f.cut.tag (head_of l)) (sym e) fit.0) (λ u. let x = ap (λ y. cut_from u y f.cut) is_many in omega (arith, x)) h),
    record { r = fit.1.0; code_is = subst (λ l. FitsCode g.code (block_at g.code f.next) l fit.1.0 f.inner) (sym e) fit.1.1; frames_are = fit.1.2 },
  )

  returns_s : (frames : List Frame) (m : Mid) (chain r : List ℕ) → MidShaped g.code frames [] m.choices m.stops m.stop m.next_tag m.state.trail chain → FramesFit g.code frames r → chain ≡ r → StatusShaped g.code (returns g frames m)
  returns_s [] m chain r h fit e = h.choices_are
  returns_s (f ∷ fs) m chain r h fit e = return_s f.many f fs m chain r refl h fit e

  -- inner constructs
  commit_s : (inner : List Place) (m : Mid) (goals : List Goal) (end : End) (chain r : List ℕ) → Stands g.code m.ops goals end → MidShaped g.code m.frames inner m.choices m.stops m.stop m.next_tag m.state.trail chain → FramesFit g.code m.frames r → Fits chain r (Commits goals end) inner → StatusShaped g.code (commits inner m)
  commit_s [] m goals end chain r s h fit f = absurd f
  commit_s (p ∷ ps) m goals end chain r s h fit f = (
    chain,
    cut_s g.code m.frames ps m.choices m.stops m.stop m.next_tag m.state.trail chain p (gone_s g.code m.frames (p ∷ ps) m.frames ps m.choices m.stops m.stop m.next_tag m.state.trail chain p f.0 (λ u. omega arith) h),
    record { r = r; code_is = record { goals = goals; end = end; stands = s; fits = f.1 }; frames_are = fit },
  )

  leave_s : (inner : List Place) (m : Mid) (goals : List Goal) (end : End) (chain r : List ℕ) → Stands g.code m.ops goals end → MidShaped g.code m.frames inner m.choices m.stops m.stop m.next_tag m.state.trail chain → FramesFit g.code m.frames r → Fits chain r (Leaves goals end) inner → StatusShaped g.code (leaves inner m)
  leave_s inner m goals end [] r s h fit f = absurd f
  leave_s [] m goals end (t ∷ chain) r s h fit f = absurd f
  leave_s (p ∷ ps) m goals end (t ∷ chain) r s h fit f =
      let older = older_in g.code (pending m.frames (p ∷ ps)) t chain m.stops h.here.active in
      let lt = h.here.older in (
        chain,
        record {
          here = record {
            active = active_left g.code (pending m.frames (p ∷ ps)) (pending m.frames ps) p t m.next_tag chain m.stops f.0 (λ u. omega arith) h.here.below older h.here.active;
            stop_is = f.1;
            older = older_up t m.next_tag (head_of chain) (omega (arith, lt)) older;
            below = h.here.below;
            trails = trails_cut m.state.trail p m.choices m.stops h.here.trails;
          };
          choices_are = shaped_cut g.code p m.choices h.choices_are;
        },
        record { r = r; code_is = record { goals = goals; end = end; stands = s; fits = f.2 }; frames_are = fit },
      )

  refuse_s : (inner : List Place) (m : Mid) → ChoicesShaped g.code m.choices → StatusShaped g.code (refuses inner m)
  refuse_s [] m h = h
  refuse_s (p ∷ ps) m h = shaped_cut g.code p m.choices h

  gather_s : (gs : List Gathering) (next : Status) → StatusShaped g.code next → StatusShaped g.code (gathers g gs next)
  gather_s gs next h = cond_both (nat_lt g.limits.aux (gathered_size gs)) (Ended ending.AuxLimit) next (StatusShaped g.code) (λ e. tt) (λ e. h)

  value_s : (v : Option Value) (m : Mid) → ChoicesShaped g.code m.choices → StatusShaped g.code (keeps_value g v m)
  value_s None m h = h
  value_s (Some v) m h =
      let gs = newest_with (resolved m.state.subst v) m.gathered in
      gather_s gs (Fails (record m { gathered = gs })) h

  keep_s : (inner : List Place) (m : Mid) → ChoicesShaped g.code m.choices → StatusShaped g.code (keeps g inner m)
  keep_s [] m h = h
  keep_s (p ∷ ps) m h = value_s p.gathers (record m { inner = ps }) h

  -- stops
  stop_found : (t u : ℕ) (chain : List ℕ) (m : Mid) → ShapedAt g.code m (t ∷ chain) → (o : Option (Stop × List Stop)) → stop_to t m.stops ≡ o → StatusShaped g.code (stops_at g o m)
  stop_found t u chain m h None e = h.choices_are
  stop_found t u chain m h (Some x) e =
      let f = found g.code (pending m.frames m.inner) t m.state.trail m.next_tag m.choices chain m.stops x.0 x.1 h.here.trails h.here.below h.here.active e in
      let s = f.fine in (
        chain,
        record {
          here = record { active = f.active; stop_is = s.outer; older = older_up x.0.place.tag (x.0.place.tag + 1) (head_of chain) (omega arith) s.older; below = below_up x.0.place.tag (x.0.place.tag + 1) x.1 (omega arith) f.below; trails = trails_cut x.0.state.trail x.0.place m.choices x.1 f.trails };
          choices_are = shaped_cut g.code x.0.place m.choices h.choices_are;
        },
        record { r = s.r; code_is = s.block; frames_are = s.frames },
      )

  stop_s : (S : Option ℕ) (chain : List ℕ) (m : Mid) → S ≡ head_of chain → ShapedAt g.code m chain → StatusShaped g.code (stops g S m)
  stop_s None chain m e h = tt
  stop_s (Some t) [] m e h = absurd (cc (e))
  stop_s (Some t) (t' ∷ chain) m e h =
      let same : t ≡ t' = cc in
      stop_found t m.next_tag chain m (subst (λ k. ShapedAt g.code m (k ∷ chain)) (sym same) h) (stop_to t m.stops) refl

  -- ## Acts

  done_s : (act : Act) (m : Mid) (goals : List Goal) (end : End) (chain r : List ℕ) → Stands g.code m.ops goals end → ShapedAt g.code m chain → FramesFit g.code m.frames r → Fits chain r end m.inner → StatusShaped g.code (done g act m)
  done_s (GoesNow [] w) m goals end chain r s h fit f =
      cond_both (nat_lt g.limits.keep w.meters.keep) (Ended ending.KeepLimit) (Runs (lasting_in w m)) (StatusShaped g.code) (λ e. tt) (λ e. (chain, h, record { r = r; code_is = record { goals = goals; end = end; stands = s; fits = f }; frames_are = fit }))
  done_s (GoesNow (x ∷ steps) w) m goals end chain r s h fit f =
      (chain, cut_s g.code m.frames m.inner m.choices m.stops m.stop m.next_tag m.state.trail chain (cut_of m.frames) h, record { r = r; code_is = record { goals = goals; end = end; stands = s; fits = f }; frames_are = fit })
  done_s (Tests b w) m goals end chain r s h fit f = test_s b (lasting_in w m) h.choices_are (chain, h, record { r = r; code_is = record { goals = goals; end = end; stands = s; fits = f }; frames_are = fit })
  done_s (Unifies made es w) m goals end chain r s h fit f =
      let m1 = made_in made (lasting_in w m) in
      let un = solve made.bound es in
      charge_s (made.heap - m.state.heap) m _ (unify_s un m1 (Runs (bound un m1)) h.choices_are
      (chain, trail_s g.code m.frames m.inner m.choices m.stops m.stop m.next_tag m.state.trail (trail_more m1.state un) chain (omega arith) h, record { r = r; code_is = record { goals = goals; end = end; stands = s; fits = f }; frames_are = fit }))
  done_s (Ends e w) m goals end chain r s h fit f = tt
  done_s (FailsNow w) m goals end chain r s h fit f = h.choices_are
  done_s (Stops w) m goals end chain r s h fit f = stop_s m.stop chain (lasting_in w m) h.here.stop_is h

  -- ## Instructions

  module _ (m : Mid) (ops : List Op) (chain r : List ℕ) (fine : MidFine g.code m) (h : ShapedAt g.code m chain) (fit : FramesFit g.code m.frames r) where
    abbrev m' : Mid
    m' = record m { ops = ops }

    -- it goes on with these goals
    on_s : (goals : List Goal) (end : End) (k : ℕ) → m.state.trail ≤ k → Stands g.code ops goals end → Fits chain r end m.inner → (chain : List ℕ) × MidShaped g.code m.frames m.inner m.choices m.stops m.stop m.next_tag k chain × RunShaped g.code ops m.frames m.inner chain
    on_s goals end k le s f = (chain, trail_s g.code m.frames m.inner m.choices m.stops m.stop m.next_tag m.state.trail k chain le h, record { r = r; code_is = record { goals = goals; end = end; stands = s; fits = f }; frames_are = fit })

    call_s : (next : ℕ) (goals : List Goal) (end : End) → Stands g.code (block_at g.code next) goals end → Fits chain r end m.inner → (call : Call) → call.next ≡ next → call.cut ≡ place_of m → CallFits g.code call m.frames m.inner chain
    call_s next goals end s f call e c = record { r = r; next = subst (λ k. FitsCode g.code (block_at g.code k) chain r m.inner) (sym e) (record { goals = goals; end = end; stands = s; fits = f }); frames_are = fit; older = subst (λ (p : Place). StopOlder p.tag (head_of chain)) (sym c) h.here.older }

    goes_s : (b : ℕ) (goals : List Goal) (end : End) → Stands g.code (block_at g.code b) goals end → Fits chain r end m.inner → GoesFit g.code b m.frames m.inner chain
    goes_s b goals end s f = record { r = r; block = plain b (record { goals = goals; end = end; stands = s; fits = f }); frames_are = fit }

    -- an inner construct with a way on, which gathers this
    tries_s : (way : Way) (v : Option Value) (goals : List Goal) (end : End) → WayFits g.code way m.frames m.inner chain → Stands g.code ops goals end → Fits chain r end (record (place_of m) { gathers = v } ∷ m.inner) →
        StatusShaped g.code (Runs (within (record (place_of m') { gathers = v }) (inside way 0 m')))
    tries_s way v goals end w s f = (
      chain,
      place_s g.code m.frames m.inner (new_choice way m' ∷ m.choices) m.stops m.stop (m.next_tag + 1) m.state.trail chain (record (place_of m) { gathers = v }) (push_s g.code m' way 0 chain h w),
      record { r = r; code_is = record { goals = goals; end = end; stands = s; fits = f }; frames_are = fit },
    )

    shield_s : (b : ℕ) (inner goals : List Goal) (end : End) → Stands g.code ops inner (Leaves goals end) → Stands g.code (block_at g.code b) goals end → Fits chain r end m.inner → StatusShaped g.code (Runs (shielded b m'))
    shield_s b inner goals end s o f =
        let p = push_s g.code m' (Goes b) 0 chain h (goes_s b goals end o f) in
        let N' = pending m.frames (place_of m ∷ m.inner) in (
          m.next_tag ∷ chain,
          record {
            here = record {
              active = subst (ActiveAt g.code N' m.next_tag chain (new_stop b m') m.stops) (sym (eq-eqb m.next_tag m.next_tag refl)) (
                record {
                  covers = λ u v a b. let x = one_falls u v (place_of m) a in omega (arith, x);
                  newest = fine.newest;
                  r = r;
                  block = record { goals = goals; end = end; stands = o; fits = f };
                  frames = fit;
                  tidy = fine.frames_are;
                  outer = h.here.stop_is;
                  older = h.here.older;
                },
                h.here.active,
              );
              stop_is = refl;
              older = omega arith;
              below = (omega arith, h.here.below);
              trails = (omega arith, (λ e. omega arith, all_within g.code (pending m.frames m.inner) m.next_tag m.state.trail m.state.trail m.choices (omega arith) fine.choices_are), p.here.trails);
            };
            choices_are = p.choices_are;
          },
          record { r = r; code_is = record { goals = inner; end = Leaves goals end; stands = s; fits = (refl, h.here.stop_is, f) }; frames_are = fit },
        )

    fits_empty : (N : List Place) → m.inner ≡ N → MidShaped g.code m.frames N m.choices m.stops m.stop m.next_tag m.state.trail chain
    fits_empty N e = subst (λ l. MidShaped g.code m.frames l m.choices m.stops m.stop m.next_tag m.state.trail chain) e h

  queried_s : (t : Option Target) (args : List Value) (many : Bool) (next : ℕ) (m : Mid) (chain : List ℕ) → MayTarget t → ShapedAt g.code m chain → CallFits g.code (call_of args many next m) m.frames m.inner chain → StatusShaped g.code (queries g t args many next m)
  queried_s None args many next m chain tf h c = h.choices_are
  queried_s (Some t) args many next m chain tf h c = calls_s t (call_of args many next m) m chain h c tf

  queried_last_s : (t : Option Target) (args : List Value) (many : Bool) (m : Mid) (chain r : List ℕ) → MayTarget t → MidShaped g.code m.frames [] m.choices m.stops m.stop m.next_tag m.state.trail chain → FramesFit g.code m.frames r → chain ≡ r → StatusShaped g.code (queries_last g t args many m)
  queried_last_s None args many m chain r tf h fit e = h.choices_are
  queried_last_s (Some t) args many m chain r tf h fit e = last_s t args many m.frames m chain r tf refl h fit e

  seeks_s : (f : Find) (e : Effect) (m : Mid) (goals : List Goal) (end : End) (chain r : List ℕ) → Stands g.code m.ops goals end → Stands g.code (block_at g.code f.next) (found_goals f.many goals) (found_end f.many goals end) → ShapedAt g.code m chain → FramesFit g.code m.frames r → Fits chain r end m.inner → StatusShaped g.code (seeks g f e m)
  seeks_s f (Acts act) m goals end chain r s o h fit fits = done_s act m goals end chain r s h fit fits
  seeks_s f (Offers k bs w) m goals end chain r s o h fit fits = (chain, h, record { r = r; goals = goals; end = end; stands = o; fits = fits; frames_are = fit })

  finds_s : (place : Option ℕ) (terms : List Term) (many : Bool) (next : ℕ) (m : Mid) (goals : List Goal) (end : End) (chain r : List ℕ) → Stands g.code m.ops goals end → Stands g.code (block_at g.code next) (found_goals many goals) (found_end many goals end) → ShapedAt g.code m chain → FramesFit g.code m.frames r → Fits chain r end m.inner → StatusShaped g.code (does g (op.Find place terms many next) m)
  finds_s place terms many next m goals end chain r s o h fit fits =
      let k = cells g.game.program terms in
      let f : Find = record { place = place; args = values g m terms; many = many; next = next } in
      charge_s k m _ (seeks_s f (asked_at g.game [] place f.args (more k m)) (more k m) goals end chain r s o h fit fits)

  runs_s : (m : Mid) (ops : List Op) (goals : List Goal) (end : End) (chain r : List ℕ) → Stands g.code ops goals end → MidFine g.code m → ShapedAt g.code m chain → FramesFit g.code m.frames r → Fits chain r end m.inner → StatusShaped g.code (runs g ops m)
  runs_s m ops goals end chain r (jumps b others goals' end' s) fine h fit f = (chain, h, record { r = r; code_is = record { goals = goals; end = end; stands = s; fits = f }; frames_are = fit })
  runs_s m ops goals end chain r (stands_returns others) fine h fit f = returns_s m.frames (record m { ops = others }) chain r (fits_empty m others chain r fine h fit [] f.0) fit f.1
  runs_s m ops goals end chain r (stands_commits others goals' end' s) fine h fit f = commit_s m.inner (record m { ops = others }) goals' end' chain r s h fit f
  runs_s m ops goals end chain r (stands_refuses others) fine h fit f = refuse_s m.inner (record m { ops = others }) h.choices_are
  runs_s m ops goals end chain r (backs others) fine h fit f = h.choices_are
  runs_s m ops goals end chain r (stands_leaves others goals' end' s) fine h fit f = leave_s m.inner (record m { ops = others }) goals' end' chain r s h fit f
  runs_s m ops goals end chain r (stands_keeps term others) fine h fit f = keep_s m.inner (record m { ops = others }) h.choices_are
  runs_s m ops goals end chain r (finishes others) fine h fit f = tt
  runs_s m ops goals end chain r (shields alt inner others goals' end' s o) fine h fit f = charge_s 10 (record m { ops = others }) _ (shield_s m others chain r fine h fit alt inner goals' end' s o f)
  runs_s m ops goals end chain r (collects term into alt inner others behind goals' end' s e o) fine h fit f =
      let n = cells g.game.program (term ∷ into ∷ []) in
      let v = value_of g.game.program (vars_of m.frames) in
      charge_s n (record m { ops = others }) _ (charge_s 10 (more n (record m { ops = others })) _ (gather_s (gathering (v term) (v into) alt (more n (record m { ops = others }))).gathered _
      (tries_s (with_gathering (more n m)) others chain r fine h fit (Takes alt (v into)) (Some (v term)) inner (Keeps term) (record { r = r; whole = gathered.List; into = into; ops = behind; block = e; code_is = record { goals = goals'; end = end'; stands = o; fits = f }; frames_are = fit }) s tt)))
  runs_s m ops goals end chain r (accumulates term into alt inner others behind goals' end' s e o) fine h fit f =
      let n = cells g.game.program (term ∷ into ∷ []) in
      let v = value_of g.game.program (vars_of m.frames) in
      charge_s n (record m { ops = others }) _ (charge_s 10 (more n (record m { ops = others })) _ (gather_s (gathering (v term) (v into) alt (more n (record m { ops = others }))).gathered _
      (tries_s (with_gathering (more n m)) others chain r fine h fit (Takes alt (v into)) (Some (v term)) inner (Keeps term) (record { r = r; whole = gathered.Sum; into = into; ops = behind; block = e; code_is = record { goals = goals'; end = end'; stands = o; fits = f }; frames_are = fit }) s tt)))
  runs_s m ops goals end chain r (acts a others goals' end' s) fine h fit f =
      let k = cells g.game.program (terms_of a) in
      charge_s k (record m { ops = others }) _ (done_s (act_at g.game [] a (more k (record m { ops = others }))) (more k (record m { ops = others })) goals' end' chain r s h fit f)
  runs_s m ops goals end chain r (ask pred terms many next others goals' end' s) fine h fit f =
      charge_s _ (record m { ops = others }) _ (asks_s pred (call_of (map (value_of g.game.program (vars_of m.frames)) terms) many next (more (cells g.game.program terms) (record m { ops = others }))) (more (cells g.game.program terms) (record m { ops = others })) chain h
      (record { r = r; next = record { goals = goals'; end = end'; stands = s; fits = f }; frames_are = fit; older = h.here.older }))
  runs_s m ops goals end chain r (last_ask pred terms many others) fine h fit f =
      charge_s _ (record m { ops = others }) _ (last_s (ToPred pred) (map (value_of g.game.program (vars_of m.frames)) terms) many m.frames (more (cells g.game.program terms) (record m { ops = others })) chain r tt refl (fits_empty m others chain r fine h fit [] f.0) fit f.1)
  runs_s m ops goals end chain r (query a b many next others goals' end' s) fine h fit f =
      let k = cells g.game.program (a ∷ option_terms b) in
      let m1 = more k (record m { ops = others }) in
      charge_s k (record m { ops = others }) _ (queried_s (asked_by g a m) (values g m (option_terms b)) many next m1 chain (target_fits (walk m.state.subst (value_of g.game.program (vars_of m.frames) a))) h
      (record { r = r; next = record { goals = goals'; end = end'; stands = s; fits = f }; frames_are = fit; older = h.here.older }))
  runs_s m ops goals end chain r (last_query a b many others) fine h fit f =
      let k = cells g.game.program (a ∷ option_terms b) in
      charge_s k (record m { ops = others }) _ (queried_last_s (asked_by g a m) (values g m (option_terms b)) many (more k (record m { ops = others })) chain r (target_fits (walk m.state.subst (value_of g.game.program (vars_of m.frames) a)))
      (fits_empty m others chain r fine h fit [] f.0) fit f.1)
  runs_s m ops goals end chain r (holds place terms many next others goals' end' s o) fine h fit f = finds_s (Some place) terms many next (record m { ops = others }) goals' end' chain r s o h fit f
  runs_s m ops goals end chain r (objects term many next others goals' end' s o) fine h fit f = finds_s None (term ∷ []) many next (record m { ops = others }) goals' end' chain r s o h fit f
  runs_s m ops goals end chain r (only list others goals' end' s) fine h fit f =
      (chain, tag_s g.code m.frames m.inner m.choices m.stops m.stop m.next_tag (m.next_tag + 1) m.state.trail chain (omega arith) h, record { r = r; code_is = record { goals = list ++ goals'; end = end'; stands = s; fits = f }; frames_are = fit })
  runs_s m ops goals end chain r (either alt list second lists others goals' end' s o) fine h fit f =
      charge_s 10 (record m { ops = others }) _ (chain, push_s g.code (record m { ops = others }) (Goes alt) 0 chain h (record { r = r; block = others_fit g.code chain r m.inner alt (second ∷ lists) goals' end' f o; frames_are = fit }), record { r = r; code_is = record { goals = list ++ goals'; end = end'; stands = s; fits = f }; frames_are = fit })
  runs_s m ops goals end chain r (selects site mode blocks lists behind others goals' end' bs s) fine h fit f =
      let c = selecting g.game site mode (length blocks) (world_of [] (record m { ops = others })) in
      (chain, h, record { r = r; code_is = record { goals = get_or lists c.branch [] ++ goals'; end = end'; stands = branch_stands g.code blocks lists behind c.branch goals' end' bs s; fits = f }; frames_are = fit })
  runs_s m ops goals end chain r (once inner others goals' end' s) fine h fit f =
      charge_s 10 (record m { ops = others }) _ (
        chain,
        place_s g.code m.frames m.inner m.choices m.stops m.stop (m.next_tag + 1) m.state.trail chain (place_of m) (tag_s g.code m.frames m.inner m.choices m.stops m.stop m.next_tag (m.next_tag + 1) m.state.trail chain (omega arith) h),
        record { r = r; code_is = record { goals = inner; end = Commits goals' end'; stands = s; fits = (h.here.older, f) }; frames_are = fit },
      )
  runs_s m ops goals end chain r (negates alt inner others goals' end' s o) fine h fit f = charge_s 10 (record m { ops = others }) _ (tries_s m others chain r fine h fit (Goes alt) None inner Refuses (goes_s m others chain r fine h fit alt goals' end' o f) s tt)
  runs_s m ops goals end chain r (branch alt tested first other others goals' end' s o) fine h fit f = charge_s 10 (record m { ops = others }) _ (tries_s m others chain r fine h fit (Goes alt) None tested (Commits (first ++ goals') end') (goes_s m others chain r fine h fit alt (other ++ goals') end' o f) s (h.here.older, f))
  runs_s m ops goals end chain r (exhausts alt inner others goals' end' s o) fine h fit f = charge_s 10 (record m { ops = others }) _ (tries_s m others chain r fine h fit (Goes alt) None inner Backs (goes_s m others chain r fine h fit alt goals' end' o f) s tt)
  runs_s m ops goals end chain r (forever b others goals' end' e s) fine h fit f =
      let again : Stands g.code (block_at g.code b) (goal.Forever ∷ goals') end' = subst (λ l. Stands g.code l (goal.Forever ∷ goals') end') (sym e) (forever b others goals' end' e s) in
      charge_s 10 (record m { ops = others }) _ (chain, push_s g.code (record m { ops = others }) (Goes b) 0 chain h (goes_s m others chain r fine h fit b (goal.Forever ∷ goals') end' again f), record { r = r; code_is = record { goals = goals'; end = end'; stands = s; fits = f }; frames_are = fit })

  -- ## Going on

  enter_s : (call : Call) (m : Mid) (chain : List ℕ) (vars : ℕ) (head : List Term) (body : List Goal) → ShapedAt g.code m chain → CallFits g.code call m.frames m.inner chain → Stands g.code m.ops body Returns → StatusShaped g.code (enter g call vars head m)
  enter_s call m chain vars head body h c s =
      let n = 6 + vars + cells g.game.program head in
      let f = new_frame call vars m in
      let m1 : Mid = record m { state = record m.state { vars = m.state.vars + vars; heap = m.state.heap + n } } in
      let un = solve m.state.subst (zip call.args (map (value_of g.game.program f.vars) head)) in
      let up = trail_s g.code (f ∷ m.frames) [] m.choices m.stops m.stop m.next_tag m.state.trail (trail_more m.state un) chain (omega arith)
      (frame_s call f m chain h) in
      charge_s n m _ (unify_s un m1 (Runs (record (bound un m1) { frames = f ∷ m.frames; inner = [] })) h.choices_are
      (chain, up, record { r = chain; code_is = record { goals = body; end = Returns; stands = s; fits = (refl, refl) }; frames_are = (c.older, (c.r, c.next, c.frames_are)) })) where
        frame_s : (call : Call) (f : Frame) (m : Mid) (chain : List ℕ) → ShapedAt g.code m chain → MidShaped g.code (record f { inner = m.inner } ∷ m.frames) [] m.choices m.stops m.stop m.next_tag m.state.trail chain
        frame_s call f m chain h = opened_s g.code f m.frames m.inner m.choices m.stops m.stop m.next_tag m.state.trail chain h

  entered_s : (call : Call) (m : Mid) (chain : List ℕ) → ShapedAt g.code m chain → CallFits g.code call m.frames m.inner chain → RuleFits g.code m.ops → StatusShaped g.code (entered g call m.ops m)
  entered_s call m chain h c f = subst (λ l. StatusShaped g.code (entered g call l m)) (sym f.is) (enter_s call (record m { ops = f.rest }) chain f.vars f.head f.body h c f.stands)

  resumed_s : (b : ℕ) (m : Mid) (chain r : List ℕ) → ShapedAt g.code m chain → FramesFit g.code m.frames r → BlockFits g.code chain r m.inner b → StatusShaped g.code (resumed g (block_at g.code b) m)
  resumed_s b m chain r h fit (plain b' f) =
      subst (StatusShaped g.code) (sym (goes_plainly g (block_at g.code b) f.goals f.end m f.stands).0)
      (chain, tag_s g.code m.frames m.inner m.choices m.stops m.stop m.next_tag (m.next_tag + 1) m.state.trail chain (omega arith) h, record { r = r; code_is = f; frames_are = fit })
  resumed_s b m chain r h fit (retry b' alt ops e f others) =
      subst (λ l. StatusShaped g.code (resumed g l m)) (sym e)
      (charge_s 10 m _ (chain, push_s g.code (record m { ops = ops }) (Goes alt) 0 chain h (record { r = r; block = others; frames_are = fit }), record { r = r; code_is = f; frames_are = fit }))

  newest_s : (whole : Gathered) (into : Value) (gs : List Gathering) (m : Mid) (chain r : List ℕ) → ShapedAt g.code m chain → FitsCode g.code m.ops chain r m.inner → FramesFit g.code m.frames r → StatusShaped g.code (takes_newest g whole into gs m)
  newest_s whole into [] m chain r h f fit = h.choices_are
  newest_s whole into (x ∷ xs) m chain r h f fit =
      let m1 = passed (record m { gathered = xs }) in
      done_s (taken_out [] whole into x.values m1) m1 f.goals f.end chain r f.stands (tag_s g.code m.frames m.inner m.choices m.stops m.stop m.next_tag (m.next_tag + 1) m.state.trail chain (omega arith) h) fit f.fits

  taken_s : (into : Value) (b : ℕ) (m : Mid) (chain : List ℕ) → ShapedAt g.code m chain → TakesFit g.code b m.frames m.inner chain → StatusShaped g.code (takes g into (block_at g.code b) m)
  taken_s into b m chain h w = subst (λ l. StatusShaped g.code (takes g into l m)) (sym w.block) (newest_s w.whole into m.gathered (record m { ops = w.ops }) chain w.r h w.code_is w.frames_are)

  wanted_fits : (many : Bool) (p : Place) (goals : List Goal) (end : End) (chain r : List ℕ) (inner : List Place) → StopOlder p.tag (head_of chain) → Fits chain r end inner → Fits chain r (found_end many goals end) (inner_for many p inner)
  wanted_fits true p goals end chain r inner older f = f
  wanted_fits false p goals end chain r inner older f = (older, f)

  wanted_s : (many : Bool) (p : Place) (frames : List Frame) (inner : List Place) (cs : List Choice) (ss : List Stop) (S : Option ℕ) (t k : ℕ) (chain : List ℕ) → MidShaped g.code frames inner cs ss S t k chain → MidShaped g.code frames (inner_for many p inner) cs ss S t k chain
  wanted_s true p frames inner cs ss S t k chain h = h
  wanted_s false p frames inner cs ss S t k chain h = place_s g.code frames inner cs ss S t k chain p h

  tried_s : (f : Find) (os : List ℕ) (m : Mid) (chain : List ℕ) → ShapedAt g.code m chain → TriesFit g.code f m.frames m.inner chain → StatusShaped g.code (tries g f os m)
  tried_s f [] m chain h w = h.choices_are
  tried_s f (o ∷ []) m chain h w =
      done_s (found_at [] f o (trying g f [] m)) (trying g f [] m) (found_goals f.many w.goals) (found_end f.many w.goals w.end) chain w.r w.stands
      (wanted_s f.many (place_of m) m.frames m.inner m.choices m.stops m.stop (m.next_tag + 1) m.state.trail chain (tag_s g.code m.frames m.inner m.choices m.stops m.stop m.next_tag (m.next_tag + 1) m.state.trail chain (omega arith) h))
      w.frames_are (wanted_fits f.many (place_of m) w.goals w.end chain w.r m.inner h.here.older w.fits)
  tried_s f (o ∷ i ∷ os) m chain h w =
      charge_s (10 + length f.args) m _ (done_s (found_at [] f o (trying g f (i ∷ os) m)) (trying g f (i ∷ os) m) (found_goals f.many w.goals) (found_end f.many w.goals w.end) chain w.r w.stands
      (wanted_s f.many (place_of m) m.frames m.inner (new_choice (Tries f (i ∷ os)) m ∷ m.choices) m.stops m.stop (m.next_tag + 1) m.state.trail chain (push_s g.code m (Tries f (i ∷ os)) (length f.args) chain h w))
      w.frames_are (wanted_fits f.many (place_of m) w.goals w.end chain w.r m.inner h.here.older w.fits))

  way_s : (way : Way) (m : Mid) (chain : List ℕ) → ShapedAt g.code m chain → WayFits g.code way m.frames m.inner chain → StatusShaped g.code (goes_on g way m)
  way_s (Goes b) m chain h w = resumed_s b m chain w.r h w.frames_are w.block
  way_s (Takes b into) m chain h w = taken_s into b m chain h w
  way_s (Calls call rs) m chain h w = begins_s call rs m chain h w.0 w.1
  way_s (Tries f os) m chain h w = tried_s f os m chain h w

  back_s : (cs : List Choice) (m : Mid) → ChoicesShaped g.code cs → StatusShaped g.code (goes_back cs m)
  back_s [] m h = tt
  back_s (c ∷ cs) m h = (h.0.0, record { here = h.0.1; choices_are = h.1 }, h.0.2)

  pub shaped : (now : Status) → StatusFine g.code now → StatusShaped g.code now → StatusShaped g.code (step g now)
  shaped (Runs m) fine h = runs_s m m.ops h.2.code_is.goals h.2.code_is.end h.0 h.2.r h.2.code_is.stands fine.0 h.1 h.2.frames_are h.2.code_is.fits
  shaped (Enters call m) fine h = entered_s call m h.0 h.1 h.2 h.3
  shaped (Resumes way m) fine h = way_s way m h.0 h.1 h.2
  shaped (Fails m) fine h = back_s m.choices m h
  shaped (Ended e) fine h = tt
