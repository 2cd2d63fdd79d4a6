-- What the goals within a query of a single predicate are made of.
use Rattle.std.proofs.Common.{◌≡◌, ℕ, zero, suc, ◌+◌, ◌≤◌, ◌⊎◌, inl, inr, List, [], ◌∷◌, ◌++◌, Option, Some, None, Bool, true, false, refl, sym, subst, arith, get_or}
use Rattle.std.specs.Prelude.{◌&&◌, ◌||◌, not, nat_lt}
use Rattle.dg_base.specs.declared.program.Goal.{Goal, Goal-F, out-Goal}
use Rattle.dg_base.specs.declared.program.Goal.TheVariants as goal
use Rattle.dg_base.specs.declared.program.Term.{Term}
use Rattle.dg_base.specs.declared.run.Ending.TheVariants as ending
use Rattle.dg_base.specs.declared.run.Limits.{Limits}
use Rattle.dg_meaning.specs.Cells.{cells}
use Rattle.dg_meaning.specs.Path.{Effect, Acts, Offers}
use Rattle.dg_meaning.specs.Substitutions.{resolved}
use Rattle.dg_meaning.specs.Values.{Value, value_of}
use Rattle.dg_meaning.specs.World.{Game, Gathering, gathered_size}
use Rattle.dg_single.specs.Plain.{is_plain, are_plain}
use Rattle.dg_meaning.specs.Sets.{is_in_set}
use Rattle.dg_single.specs.inside.Left.{all_plain}
use Rattle.dg_single.proofs.PlainLemmas.{plain_layer}
use Rattle.dg_single.proofs.SetLemmas.{and_left, and_right}
use Rattle.dg_mid.specs.declared.code.Op.{Op}
use Rattle.dg_mid.specs.declared.code.Op.TheVariants as op
use Rattle.dg_mid.specs.declared.code.Action.{Action}
use Rattle.dg_mid.specs.declared.code.Action.TheVariants as action
use Rattle.dg_mid.specs.declared.code.Gathered.{Gathered}
use Rattle.dg_mid.specs.declared.code.Code.{Code}
use Rattle.dg_mid.specs.Actions.{goal_of, form_of, asked_at, act_at, registers_of, world_of, lasting_in}
use Rattle.dg_mid.specs.Code.{block_at}
use Rattle.dg_mid.specs.Codes.{End, Commits, Refuses, Leaves, Keeps, found_goals, found_end, Stands, Branches, no_branch, a_branch}
use Rattle.dg_mid.specs.Singles.{AnswersIn, StopsSince}
use Rattle.dg_mid.specs.State.{Place, Frame, Target, Find, Way, Goes, Takes, Stop, Choice, Mid, Status, Runs, Fails, vars_of, cut_of, cut_choices, place_of}
use Rattle.dg_mid.specs.Step.{Setting, setting, more, charged, done, call_of, queries, queries_last, values, seeks}
use Rattle.dg_mid.specs.Step.{does, commits as commits_to, refuses as refuses_to, leaves as leaves_to, returns as returns_to, returned, keeps as keeps_to, gathering, gathers}
use Rattle.dg_mid.specs.Step.{newest_with, keeps_value, inside, new_choice, shielded, within, with_gathering}
use Rattle.dg_mid.proofs.Acts.{outs}
use Rattle.dg_mid.specs.Step.{new_stop}
use Rattle.dg_mid.proofs.Endings.{ActsWell, act_well, asked_well}
use Rattle.dg_mid.proofs.Rest.{cut_newer, Next, Does, CutsTo, Stuck, goals_next, end_next, first_next, seals, SealedBy, goals_sealed, Sealed, Ahead, Left, sealed_up, ahead_up, left_into, sealed_goals, body_ahead, left_skip, left_cut_to, left_just, left_open}
use Rattle.dg_mid.proofs.Within.{Query, Hand, Reached, Behind, AtHand, OutAt, WayAt, WithinAt, InQuery, parts_push, hand_up, opened, hand_cut, within_cut, PartAt}
use Rattle.dg_mid.proofs.SingleCalls.{at_hand, list_hand, must_seal, skip, if_ends, on_charged, on_stops, on_done, first_sealed, first_up, IfTarget, on_target, body_last}

module _ (q : Query) where
  abbrev g : Game
  g = q.game

  abbrev code : Code
  code = q.code

  abbrev limits : Limits
  limits = q.limits

  abbrev S : List Bool
  S = q.set

  abbrev t0 : ℕ
  t0 = q.tag

  abbrev cs0 : List Choice
  cs0 = q.choices

  abbrev depth : ℕ
  depth = q.depth

  abbrev set : Setting
  set = setting g code limits

  abbrev C : Status → Type 0
  C s = InQuery code S t0 cs0 depth s

  abbrev W : ℕ → List Choice → List Stop → Type 0
  W u cs ss = WithinAt code S t0 cs0 depth u cs ss

  abbrev H : ℕ → List Op → List Frame → List Place → List Choice → Type 0
  H u ops fs inner cs = AtHand code S t0 cs0 depth u ops fs inner cs

  abbrev A : ℕ → List Next → Type 0
  A u K = Ahead S t0 cs0 u K

  abbrev L : ℕ → List Next → List Choice → Type 0
  L u K cs = Left S t0 cs0 u K cs

  abbrev D : ℕ → List Next → Type 0
  D u K = Sealed S t0 cs0 u K

  abbrev B : List Frame → List Next → Type 0
  B fs K = Behind code S t0 cs0 depth fs K

  abbrev Way-At : ℕ → Way → List Frame → List Place → List Choice → Type 0
  Way-At u way fs inner cs = WayAt code S t0 cs0 depth u way fs inner cs

  -- the steps of goals and of what comes behind them, in these frames
  abbrev next_in : List Frame → List Place → List Goal → End → List Next → List Next
  next_in fs inner goals end rest = goals_next (cut_of fs).tag goals (end_next end (cut_of fs).tag inner rest)

  -- ## Instructions between goals

  -- a rule within the query is answered
  pub on_returned : (every : Bool) (f : Frame) (fs : List Frame) (m : Mid) (J : List Next) → Hand code S t0 cs0 depth (B fs) (block_at code f.next) (cut_of fs).tag f.inner J → A m.next_tag (first_next every f.cut.tag J) → L m.next_tag (first_next every f.cut.tag J) m.choices → W m.next_tag m.choices m.stops → C (Runs (returned set every f fs m))
  on_returned true f fs m J h a l w = (record { rest = J; hand = h; ahead = a; left = l }, w)
  on_returned false f fs m J h a l w =
      (record { rest = J; hand = h; ahead = a.2; left = left_cut_to S t0 cs0 q.older m.next_tag J m.choices f.cut a.0 l }, within_cut code S t0 cs0 depth q.older m.next_tag f.cut m.choices m.stops a.0 w)

  pub on_returns : (frames : List Frame) (m : Mid) (rest : List Next) (ops : List Op) → (AnswersIn depth frames (op.Return ∷ ops) → ⊥) → B frames rest → A m.next_tag rest → L m.next_tag rest m.choices → W m.next_tag m.choices m.stops → C (returns_to set frames m)
  on_returns [] m rest ops misses b a l w = absurd b
  on_returns (f ∷ fs) m rest ops misses b a l w = elim b.1 [
    | inl h ↦ absurd (misses h.0)
    | inr h ↦ on_returned f.many f fs m b.0 h (subst (A m.next_tag) b.2 a) (subst (λ K. L m.next_tag K m.choices) b.2 l) w
  ]

  -- the newest inner construct is left
  pub on_commits : (inner : List Place) (m : Mid) (goals : List Goal) (end : End) (rest : List Next) → t0 ≤ (cut_of m.frames).tag → Stands code m.ops goals end → B m.frames rest → A m.next_tag (end_next (Commits goals end) (cut_of m.frames).tag inner rest) → L m.next_tag (end_next (Commits goals end) (cut_of m.frames).tag inner rest) m.choices → W m.next_tag m.choices m.stops → C (commits_to inner m)
  on_commits [] m goals end rest low s b a l w = w
  on_commits (p ∷ ps) m goals end rest low s b a l w =
      (at_hand q m.next_tag m.ops m.frames ps (cut_choices p m.choices) goals end rest s b a.2 (left_cut_to S t0 cs0 q.older m.next_tag (next_in m.frames ps goals end rest) m.choices p a.0 l) low, within_cut code S t0 cs0 depth q.older m.next_tag p m.choices m.stops a.0 w)

  pub on_leaves : (inner : List Place) (m : Mid) (goals : List Goal) (end : End) (rest : List Next) → t0 ≤ (cut_of m.frames).tag → Stands code m.ops goals end → B m.frames rest → A m.next_tag (end_next (Leaves goals end) (cut_of m.frames).tag inner rest) → L m.next_tag (end_next (Leaves goals end) (cut_of m.frames).tag inner rest) m.choices → W m.next_tag m.choices m.stops → C (leaves_to inner m)
  on_leaves [] m goals end rest low s b a l w = w
  on_leaves (p ∷ ps) m goals end rest low s b a l w =
      (at_hand q m.next_tag m.ops m.frames ps (cut_choices p m.choices) goals end rest s b a.2 (left_cut_to S t0 cs0 q.older m.next_tag (next_in m.frames ps goals end rest) m.choices p a.0 l) low, within_cut code S t0 cs0 depth q.older m.next_tag p m.choices m.stops a.0 w)

  pub on_refuses : (inner : List Place) (m : Mid) (rest : List Next) → A m.next_tag (end_next Refuses (cut_of m.frames).tag inner rest) → W m.next_tag m.choices m.stops → C (refuses_to inner m)
  on_refuses [] m rest a w = w
  on_refuses (p ∷ ps) m rest a w = within_cut code S t0 cs0 depth q.older m.next_tag p m.choices m.stops a.0 w

  pub on_gathers : (gs : List Gathering) (s : Status) → C s → C (gathers set gs s)
  on_gathers gs s h = if_ends q (nat_lt limits.aux (gathered_size gs)) ending.AuxLimit s h

  pub on_keeps_value : (v : Option Value) (m : Mid) → W m.next_tag m.choices m.stops → C (keeps_value set v m)
  on_keeps_value None m w = w
  on_keeps_value (Some v) m w = let gs = newest_with (resolved m.state.subst v) m.gathered in on_gathers gs (Fails (record m { gathered = gs })) w

  pub on_keeps : (ps : List Place) (m : Mid) → W m.next_tag m.choices m.stops → C (keeps_to set ps m)
  on_keeps [] m w = w
  on_keeps (q ∷ ps) m w = on_keeps_value q.gathers (record m { inner = ps }) w

  -- ## Goals that are done at once

  -- no such goal but (just) and (fail) seals
  abbrev pub UnlessCut : Action → Type 0 → Type 0
  UnlessCut action.Just P = Unit {0}
  UnlessCut action.Fail P = Unit {0}
  UnlessCut a P = P

  pub act_quiet : (a : Action) (t : ℕ) → UnlessCut a ((c : ℕ) → seals (form_of a) t c → ⊥)
  act_quiet action.Just t = tt
  act_quiet action.Fail t = tt
  act_quiet a t = λ c s. s

  -- what is behind a goal that is done at once
  module _ (m : Mid) (goals : List Goal) (end : End) (rest : List Next) (s : Stands code m.ops goals end) (b : B m.frames rest) (w : W m.next_tag m.choices m.stops) (low : t0 ≤ (cut_of m.frames).tag) where
    abbrev K : List Next
    K = next_in m.frames m.inner goals end rest

    -- it goes on so
    pub goes_behind : A m.next_tag K → L m.next_tag K m.choices → C (Runs m)
    goes_behind a l = (at_hand q m.next_tag m.ops m.frames m.inner m.choices goals end rest s b a l low, w)

    pub on_act : (x : Action) → StopsSince t0 m.stop (op.Do x ∷ []) → A m.next_tag (Does (goal_of x) (cut_of m.frames).tag ∷ K) → L m.next_tag (Does (goal_of x) (cut_of m.frames).tag ∷ K) m.choices → C (done set (act_at g [] x m) m)
    on_act action.Stop since a l = on_stops q m.stop (lasting_in (world_of [] m) m) since w
    on_act action.Fail since a l = w
    on_act action.Just since a l =
        (at_hand q m.next_tag m.ops m.frames m.inner (cut_choices (cut_of m.frames) m.choices) goals end rest s b a.3 (left_just S t0 cs0 q.older m.next_tag goal.Just K m.choices (cut_of m.frames) (outs action.Just) a.0 l) low, within_cut code S t0 cs0 depth q.older m.next_tag (cut_of m.frames) m.choices m.stops a.0 w)
    on_act x since a l = on_done q (act_at g [] x m) m (act_well g x m) a.0 (goes_behind a.3 (skip q m.next_tag (cut_of m.frames).tag (goal_of x) (form_of x) K m.choices (outs x) (act_quiet x (cut_of m.frames).tag) l))

  -- ## Goals that open choices

  -- code that goes on at a block where it is gone back to
  pub on_alt : (alt : ℕ) (m : Mid) → Way-At m.next_tag (Goes alt) m.frames m.inner m.choices → H (m.next_tag + 1) m.ops m.frames m.inner (new_choice (Goes alt) m ∷ m.choices) → W m.next_tag m.choices m.stops → C (charged set 10 m (Runs (inside (Goes alt) 0 m)))
  on_alt alt m x h w = on_charged q 10 m (Runs (inside (Goes alt) 0 m)) (h, opened code S t0 cs0 depth (Goes alt) m w x)

  -- the same in one more inner construct
  pub on_try : (alt : ℕ) (m : Mid) → Way-At m.next_tag (Goes alt) m.frames m.inner m.choices → H (m.next_tag + 1) m.ops m.frames (place_of m ∷ m.inner) (new_choice (Goes alt) m ∷ m.choices) → W m.next_tag m.choices m.stops → C (charged set 10 m (Runs (within (place_of m) (inside (Goes alt) 0 m))))
  on_try alt m x h w = on_charged q 10 m (Runs (within (place_of m) (inside (Goes alt) 0 m))) (h, opened code S t0 cs0 depth (Goes alt) m w x)

  module _ (m : Mid) (way : Way) (t : ℕ) (low : t0 ≤ t) (high : t ≤ m.next_tag) (w : W m.next_tag m.choices m.stops) (J K : List Next) (a : A m.next_tag J) (l : L m.next_tag J m.choices) where
    -- goals in front of what cuts to the place that was opened with them, which comes before what is left
    pub inner_ahead : (gs : List Goal) → A (m.next_tag + 1) K → D (m.next_tag + 1) K → A (m.next_tag + 1) (goals_next t gs K)
    inner_ahead gs k d = body_ahead S t0 cs0 (m.next_tag + 1) t gs K low (omega (arith, high)) (inr d) k

    pub inner_left : (gs : List Goal) → D m.next_tag K → ((c : ℕ) → SealedBy c J → SealedBy c K) → L (m.next_tag + 1) (goals_next t gs K) (new_choice way m ∷ m.choices)
    inner_left gs d up = left_open S t0 cs0 m.next_tag J (goals_next t gs K) (new_choice way m) m.choices refl (λ c x. goals_sealed c t gs K (up c x)) (sealed_goals S t0 cs0 m.next_tag t gs K d) l

  -- a place that opens now seals
  pub place_seals : (u v : ℕ) (K : List Next) → t0 ≤ u → u ≤ v → D v (CutsTo u ∷ K)
  place_seals u v K low le = record { tag = u; from = low; to = le; by = inl refl }

  pub stuck_seals : (v : ℕ) → t0 ≤ v → D v (Stuck ∷ [])
  stuck_seals v le = record { tag = v; from = le; to = omega arith; by = tt }

  -- a block of a select
  pub branch_hand : (u : ℕ) (fs : List Frame) (inner : List Place) (cs : List Choice) (rest : List Next) (blocks : List ℕ) (lists : List (List Goal)) (goals : List Goal) (end : End) → Branches code blocks lists goals end → B fs rest → t0 ≤ (cut_of fs).tag → (cut_of fs).tag ≤ u →
      (all_plain S lists ≡ true) ⊎ D u (next_in fs inner goals end rest) → A u (next_in fs inner goals end rest) → L u (next_in fs inner goals end rest) cs → (behind : ℕ) → H u (block_at code behind) fs inner cs → (i : ℕ) → H u (block_at code (get_or blocks i behind)) fs inner cs
  branch_hand u fs inner cs rest blocks lists goals end (no_branch goals' end') b low high p a l behind h i = h
  branch_hand u fs inner cs rest blocks lists goals end (a_branch k ks list others goals' end' s bs) b low high p a l behind h zero =
      list_hand q u (block_at code k) fs inner cs list goals end rest s b
      (body_ahead S t0 cs0 u (cut_of fs).tag list (next_in fs inner goals end rest) low high (one p) a)
      (left_into S t0 cs0 u u (next_in fs inner goals end rest) (goals_next (cut_of fs).tag list (next_in fs inner goals end rest)) cs (omega arith) (λ c x. goals_sealed c (cut_of fs).tag list (next_in fs inner goals end rest) x) l) low
    where
      one : (all_plain S (list ∷ others) ≡ true) ⊎ D u (next_in fs inner goals end rest) → (are_plain S list ≡ true) ⊎ D u (next_in fs inner goals end rest)
      one (inl e) = inl (and_left (are_plain S list) (all_plain S others) e)
      one (inr d) = inr d
  branch_hand u fs inner cs rest blocks lists goals end (a_branch k ks list others goals' end' s bs) b low high p a l behind h (suc i) = branch_hand u fs inner cs rest ks others goals end bs b low high (more_plain p) a l behind h i
    where
      more_plain : (all_plain S (list ∷ others) ≡ true) ⊎ D u (next_in fs inner goals end rest) → (all_plain S others ≡ true) ⊎ D u (next_in fs inner goals end rest)
      more_plain (inl e) = inl (and_right (are_plain S list) (all_plain S others) e)
      more_plain (inr d) = inr d

  -- a query of a place, or of all objects
  pub on_seeks : (x : Find) (e : Effect) (m : Mid) (goals : List Goal) (end : End) (rest : List Next) → ActsWell e → Stands code (block_at code x.next) (found_goals x.many goals) (found_end x.many goals end) → Stands code m.ops goals end → B m.frames rest → t0 ≤ (cut_of m.frames).tag →
      (x.many ≡ true → D m.next_tag (next_in m.frames m.inner goals end rest)) → A m.next_tag (next_in m.frames m.inner goals end rest) → L m.next_tag (next_in m.frames m.inner goals end rest) m.choices → W m.next_tag m.choices m.stops → C (seeks set x e m)
  on_seeks x (Acts act) m goals end rest well there s b low d a l w = on_done q act m well low (at_hand q m.next_tag m.ops m.frames m.inner m.choices goals end rest s b a l low, w)
  on_seeks x (Offers k bs v) m goals end rest well there s b low d a l w = (record { goals = goals; end = end; rest = rest; stands = there; low = low; below = b; ahead = a; left = l; seal = d }, w)

  -- a gathering, which is taken out at a block
  pub on_collect : (term into : Term) (alt : ℕ) (m : Mid) → OutAt code S t0 cs0 depth m.next_tag (block_at code alt) m.frames m.inner m.choices →
      ((p : Place) (n : Choice) → p.tag ≡ m.next_tag → n.place.tag ≡ m.next_tag → H (m.next_tag + 1) m.ops m.frames (p ∷ m.inner) (n ∷ m.choices)) → W m.next_tag m.choices m.stops → C (does set (op.Collect term into alt) m)
  on_collect term into alt m out h w =
      let k = cells g.program (term ∷ into ∷ []) in
      let v : Term → Value = λ t. value_of g.program (vars_of m.frames) t in
      let m1 = with_gathering (more k m) in
      let m' = gathering (v term) (v into) alt (more k m) in
      let s = gathers set m'.gathered (Runs m') in
      let at = h (record (place_of (more k m)) { gathers = Some (v term) }) (new_choice (Takes alt (v into)) m1) refl refl in
      on_charged q k m (charged set 10 (more k m) s) (on_charged q 10 (more k m) s (on_gathers m'.gathered (Runs m') (at, opened code S t0 cs0 depth (Takes alt (v into)) m1 w out)))

  -- a list between (or) goes on, and others are left
  pub on_list : (alt : ℕ) (m : Mid) (list goals : List Goal) (end : End) (rest : List Next) → Stands code m.ops (list ++ goals) end → B m.frames rest → t0 ≤ (cut_of m.frames).tag → (cut_of m.frames).tag ≤ m.next_tag → D m.next_tag (next_in m.frames m.inner goals end rest) → A m.next_tag (next_in m.frames m.inner goals end rest) → L m.next_tag (next_in m.frames m.inner goals end rest) m.choices →
      Way-At m.next_tag (Goes alt) m.frames m.inner m.choices → W m.next_tag m.choices m.stops → C (charged set 10 m (Runs (inside (Goes alt) 0 m)))
  on_list alt m list goals end rest s b low high d a l way w =
      let T = (cut_of m.frames).tag in
      let u = m.next_tag in
      let K = next_in m.frames m.inner goals end rest in
      on_alt alt m way (list_hand q (u + 1) m.ops m.frames m.inner (new_choice (Goes alt) m ∷ m.choices) list goals end rest s b (inner_ahead m (Goes alt) T low high w K K a l list (ahead_up S t0 cs0 u (u + 1) K (omega arith) a) (sealed_up S t0 cs0 u (u + 1) K (omega arith) d)) (inner_left m (Goes alt) T low high w K K a l list d (λ c z. z)) low) w

  -- what a condition goes on with
  pub both_left : (u : ℕ) (K : List Next) (x y : Bool) → ((x && y) ≡ true) ⊎ D u K → (x ≡ true) ⊎ D u K
  both_left u K x y (inl e) = inl (and_left x y e)
  both_left u K x y (inr d) = inr d

  pub both_right : (u : ℕ) (K : List Next) (x y : Bool) → ((x && y) ≡ true) ⊎ D u K → (y ≡ true) ⊎ D u K
  both_right u K x y (inl e) = inl (and_right x y e)
  both_right u K x y (inr d) = inr d

  -- a query of a predicate is plain for one answer, or of the set
  pub ask_plain : (pred : ℕ) (many : Bool) (u : ℕ) (K : List Next) → (((not many || is_in_set S pred) && true) ≡ true) ⊎ D u K → ((not many || is_in_set S pred) ≡ true) ⊎ D u K
  ask_plain pred many u K p = both_left u K (not many || is_in_set S pred) true p

  -- a query for all answers is sealed
  pub many_seals : (many : Bool) (u : ℕ) (K : List Next) (x : Goal) (layer : Goal-F Goal) → out-Goal x ≡ layer → (many ≡ true → plain_layer S layer ≡ false) → (is_plain S x ≡ true) ⊎ D u K → many ≡ true → D u K
  many_seals many u K x layer is misses p e = must_seal q u K x layer is (misses e) p

  pub query_seal : (many : Bool) (u : ℕ) (K : List Next) (x : Goal) (layer : Goal-F Goal) → out-Goal x ≡ layer → (many ≡ true → plain_layer S layer ≡ false) → (is_plain S x ≡ true) ⊎ D u K → (many ≡ false) ⊎ D u K
  query_seal true u K x layer is misses p = inr (must_seal q u K x layer is (misses refl) p)
  query_seal false u K x layer is misses p = inl refl

  pub on_queries : (t : Option Target) (vs : List Value) (many : Bool) (next : ℕ) (m : Mid) (K : List Next) → IfTarget q t → Reached code S t0 cs0 depth (B m.frames) next (cut_of m.frames).tag m.inner m.frames K → A m.next_tag K → L m.next_tag K m.choices → (many ≡ false) ⊎ D m.next_tag K → W m.next_tag m.choices m.stops → C (queries set t vs many next m)
  on_queries None vs many next m K k r a l d w = w
  on_queries (Some t) vs many next m K k r a l d w = on_target q t (call_of vs many next m) m K k r refl a l (sealed d) w
    where
      sealed : (many ≡ false) ⊎ D m.next_tag K → D m.next_tag (first_next many m.next_tag K)
      sealed (inl e) = first_sealed q many m.next_tag m.next_tag K e w.from (omega arith)
      sealed (inr d) = first_up q many m.next_tag m.next_tag K d

  pub on_queries_last : (t : Option Target) (vs : List Value) (many : Bool) (m : Mid) (rest : List Next) → IfTarget q t → t0 ≤ (cut_of m.frames).tag → B m.frames rest → A m.next_tag rest → L m.next_tag rest m.choices → (many ≡ false) ⊎ D m.next_tag rest → W m.next_tag m.choices m.stops → C (queries_last set t vs many m)
  on_queries_last None vs many m rest k low b a l d w = w
  on_queries_last (Some t) vs many m rest k low b a l d w = body_last q vs many m w low t m.frames rest refl k b a l d

  pub on_find : (place : Option ℕ) (terms : List Term) (many : Bool) (next : ℕ) (m : Mid) (goals : List Goal) (end : End) (rest : List Next) → Stands code (block_at code next) (found_goals many goals) (found_end many goals end) → Stands code m.ops goals end → B m.frames rest → t0 ≤ (cut_of m.frames).tag →
      (many ≡ true → D m.next_tag (next_in m.frames m.inner goals end rest)) → A m.next_tag (next_in m.frames m.inner goals end rest) → L m.next_tag (next_in m.frames m.inner goals end rest) m.choices → W m.next_tag m.choices m.stops → C (does set (op.Find place terms many next) m)
  on_find place terms many next m goals end rest there s b low d a l w =
      let k = cells g.program terms in
      let x : Find = record { place = place; args = values set m terms; many = many; next = next } in
      on_charged q k m _ (on_seeks x (asked_at g [] place x.args (more k m)) (more k m) goals end rest (asked_well g true [] (registers_of (more k m)) place x.args (world_of [] (more k m))) there s b low d a l w)

  pub stops_on : (x : Action) (others : List Op) (stop : Option ℕ) → StopsSince t0 stop (op.Do x ∷ others) → StopsSince t0 stop (op.Do x ∷ [])
  stops_on action.Stop others stop h = h
  stops_on x others stop h = tt

  -- a stoppable part
  pub on_shield : (alt : ℕ) (m : Mid) → H m.next_tag (block_at code alt) m.frames m.inner m.choices → H (m.next_tag + 1) m.ops m.frames (place_of m ∷ m.inner) (new_choice (Goes alt) m ∷ m.choices) → W m.next_tag m.choices m.stops → C (charged set 10 m (Runs (shielded alt m)))
  on_shield alt m there h w =
      let n = new_choice (Goes alt) m in
      let u = m.next_tag in
      let o = opened code S t0 cs0 depth (Goes alt) m w (inl there) in
      let part : PartAt code S t0 cs0 depth (new_stop alt m) (n ∷ m.choices) = record { from = w.from; hand = subst (H (u + 1) (block_at code alt) m.frames m.inner) (sym (cut_newer (place_of m) n m.choices (omega arith))) (hand_cut code S t0 cs0 depth q.older (u + 1) (block_at code alt) m.frames m.inner m.choices (place_of m) w.from (hand_up code S t0 cs0 depth u (block_at code alt) m.frames m.inner m.choices there)) } in
      on_charged q 10 m (Runs (shielded alt m)) (h, record { from = o.from; kept = o.kept; parts = (omega arith, inr part, parts_push code S t0 cs0 depth u n m.choices m.stops (omega arith) w.parts) })

  pub on_gathering : (x : Goal) (layer : Goal-F Goal) → out-Goal x ≡ layer → (whole : Gathered) (term into : Term) (alt : ℕ) (inner : List Goal) (others behind : List Op) (goals : List Goal) (end : End) → Stands code others inner (Keeps term) → block_at code alt ≡ op.TakeOut whole into ∷ behind → Stands code behind goals end → ((t c : ℕ) → seals layer t c → ⊥) →
      (m : Mid) (rest : List Next) → B m.frames rest → A m.next_tag (Does x (cut_of m.frames).tag ∷ next_in m.frames m.inner goals end rest) → L m.next_tag (Does x (cut_of m.frames).tag ∷ next_in m.frames m.inner goals end rest) m.choices → W m.next_tag m.choices m.stops → C (does set (op.Collect term into alt) (record m { ops = others }))
  on_gathering x layer is whole term into alt inner others behind goals end s e o quiet m rest b a l w =
      let m0 : Mid = record m { ops = others } in
      let T = (cut_of m.frames).tag in
      let u = m.next_tag in
      let low = w.from in
      let high = a.1 in
      let K = next_in m.frames m.inner goals end rest in
      let J = Stuck ∷ [] in
      let l' = left_skip S t0 cs0 u T x K m.choices (λ c z. quiet T c (subst (λ f. seals f T c) is z)) l in
      on_collect term into alt m0 (record { whole = whole; into = into; after = behind; is = e; behind = at_hand q u behind m.frames m.inner m.choices goals end rest o b a.3 l' a.0 })
      (λ p n pe ne. at_hand q (u + 1) others m.frames (p ∷ m.inner) (n ∷ m.choices) inner (Keeps term) rest s b (body_ahead S t0 cs0 (u + 1) T inner J a.0 (omega (arith, high)) (inr (stuck_seals (u + 1) (omega (arith, low)))) tt)
      (left_open S t0 cs0 u K (goals_next T inner J) n m.choices ne (λ c z. goals_sealed c T inner J tt) (sealed_goals S t0 cs0 u T inner J (stuck_seals u low)) l') a.0) w
