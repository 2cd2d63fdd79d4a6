-- Goals within a query of a single predicate.
use Rattle.std.proofs.Common.{ℕ, ◌+◌, ◌≤◌, inl, inr, List, [], ◌∷◌, ◌++◌, Some, None, Bool, true, refl, sym, ap, subst, arith, length}
use Rattle.std.specs.Prelude.{◌&&◌, not}
use Rattle.dg_base.specs.Goals.{option_terms}
use Rattle.dg_base.specs.declared.program.Goal.{Goal}
use Rattle.dg_base.specs.declared.program.Goal.TheVariants as goal
use Rattle.dg_base.specs.declared.program.Goal.TheOpen as form
use Rattle.dg_base.specs.declared.run.Limits.{Limits}
use Rattle.dg_meaning.specs.Cells.{cells}
use Rattle.dg_meaning.specs.Moves.{selects as selects_so}
use Rattle.dg_meaning.specs.Substitutions.{walk}
use Rattle.dg_meaning.specs.Values.{value_of}
use Rattle.dg_meaning.specs.World.{Game}
use Rattle.dg_single.specs.Plain.{are_plain}
use Rattle.dg_mid.specs.declared.code.Op.{Op}
use Rattle.dg_mid.specs.declared.code.Gathered.TheVariants as gathered
use Rattle.dg_mid.specs.declared.code.Code.{Code}
use Rattle.dg_mid.specs.Actions.{terms_of, act_at, world_of}
use Rattle.dg_mid.specs.Code.{block_at}
use Rattle.dg_mid.specs.Codes.{End, Commits, Refuses, Backs, Leaves, Stands, jumps, returns, commits, refuses, backs, leaves, keeps, finishes, acts, ask, last_ask, query, last_query, holds, objects, only, either, selects, once, negates, branch, exhausts, shields, collects, accumulates, forever}
use Rattle.dg_mid.specs.Singles.{AnswersIn, StopsSince}
use Rattle.dg_mid.specs.State.{Place, Frame, ToPred, Way, Goes, Stop, Choice, Mid, Status, Runs, vars_of, cut_of, place_of}
use Rattle.dg_mid.specs.Step.{Setting, setting, more, done, asks, call_of, last, queries, queries_last, asked_by, values}
use Rattle.dg_mid.specs.Step.{runs, passed}
use Rattle.dg_mid.specs.Step.{new_choice, within}
use Rattle.dg_mid.proofs.Rest.{Next, CutsTo, Stuck, goals_next, end_next, next_append, SealedBy, goals_sealed, Sealed, Ahead, Left, sealed_up, ahead_up, left_into, body_ahead, left_open}
use Rattle.dg_mid.proofs.Within.{Query, Behind, AtHand, WayAt, WithinAt, InQuery, raised, Hand}
use Rattle.dg_mid.proofs.SingleCalls.{at_hand, list_hand, must_seal, plain_inside, skip, on_charged, asked_is, on_asked, pred_last}
use Rattle.dg_mid.proofs.SingleGoals.{on_returns, on_commits, on_leaves, on_refuses, on_keeps, on_act, on_alt, on_try, inner_ahead, inner_left, place_seals, stuck_seals, branch_hand, on_list, both_left, both_right, ask_plain, many_seals, query_seal, on_queries, on_queries_last, on_find, stops_on, on_shield, on_gathering}

module _ (q : Query) where
  abbrev g : Game
  g = q.game

  abbrev code : Code
  code = q.code

  abbrev limits : Limits
  limits = q.limits

  abbrev S : List Bool
  S = q.set

  abbrev t0 : ℕ
  t0 = q.tag

  abbrev cs0 : List Choice
  cs0 = q.choices

  abbrev depth : ℕ
  depth = q.depth

  abbrev set : Setting
  set = setting g code limits

  abbrev C : Status → Type 0
  C s = InQuery code S t0 cs0 depth s

  abbrev W : ℕ → List Choice → List Stop → Type 0
  W u cs ss = WithinAt code S t0 cs0 depth u cs ss

  abbrev H : ℕ → List Op → List Frame → List Place → List Choice → Type 0
  H u ops fs inner cs = AtHand code S t0 cs0 depth u ops fs inner cs

  abbrev A : ℕ → List Next → Type 0
  A u K = Ahead S t0 cs0 u K

  abbrev L : ℕ → List Next → List Choice → Type 0
  L u K cs = Left S t0 cs0 u K cs

  abbrev D : ℕ → List Next → Type 0
  D u K = Sealed S t0 cs0 u K

  abbrev B : List Frame → List Next → Type 0
  B fs K = Behind code S t0 cs0 depth fs K

  abbrev Way-At : ℕ → Way → List Frame → List Place → List Choice → Type 0
  Way-At u way fs inner cs = WayAt code S t0 cs0 depth u way fs inner cs

  -- the steps of goals and of what comes behind them, in these frames
  abbrev next_in : List Frame → List Place → List Goal → End → List Next → List Next
  next_in fs inner goals end rest = goals_next (cut_of fs).tag goals (end_next end (cut_of fs).tag inner rest)

  -- ## Goals

  pub on_runs : (ops : List Op) (goals : List Goal) (end : End) → Stands code ops goals end → (m : Mid) (rest : List Next) → (AnswersIn depth m.frames ops → ⊥) → StopsSince t0 m.stop ops → t0 ≤ (cut_of m.frames).tag → B m.frames rest → A m.next_tag (next_in m.frames m.inner goals end rest) → L m.next_tag (next_in m.frames m.inner goals end rest) m.choices → W m.next_tag m.choices m.stops → C (runs set ops m)
  on_runs ops goals end (jumps b others goals' end' s) m rest misses since from below' a l w = (at_hand q m.next_tag (block_at code b) m.frames m.inner m.choices goals' end' rest s below' a l from, w)
  on_runs ops goals end (returns others) m rest misses since from below' a l w = on_returns q m.frames (record m { ops = others }) rest others misses below' a l w
  on_runs ops goals end (commits others goals' end' s) m rest misses since from below' a l w = on_commits q m.inner (record m { ops = others }) goals' end' rest from s below' a l w
  on_runs ops goals end (refuses others) m rest misses since from below' a l w = on_refuses q m.inner (record m { ops = others }) rest a w
  on_runs ops goals end (backs others) m rest misses since from below' a l w = w
  on_runs ops goals end (leaves others goals' end' s) m rest misses since from below' a l w = on_leaves q m.inner (record m { ops = others }) goals' end' rest from s below' a l w
  on_runs ops goals end (keeps term others) m rest misses since from below' a l w = on_keeps q m.inner (record m { ops = others }) w
  on_runs ops goals end (finishes others) m rest misses since from below' a l w = tt
  on_runs ops goals end (acts x others goals' end' s) m rest misses since from below' a l w =
      let m0 : Mid = record m { ops = others } in
      let k = cells g.program (terms_of x) in
      on_charged q k m0 (done set (act_at g [] x (more k m0)) (more k m0)) (on_act q (more k m0) goals' end' rest s below' w from x (stops_on q x others m.stop since) a l)
  on_runs ops goals end (ask pred terms many next others goals' end' s) m rest misses since from below' a l w =
      let m0 : Mid = record m { ops = others } in
      let k = cells g.program terms in
      let x = goal.Ask pred terms many in
      let T = (cut_of m.frames).tag in
      let K = next_in m.frames m.inner goals' end' rest in
      let c = call_of (values set m0 terms) many next (more k m0) in
      let h : Hand code S t0 cs0 depth (B m.frames) (block_at code next) T m.inner K = record { goals = goals'; end = end'; rest = rest; low = from; stands = s; below = below'; is = refl } in
      on_charged q k m0 (asks set pred c (more k m0)) (on_asked q pred c (more k m0) K (inr h) refl a.3 (skip q m.next_tag T x (form.Ask pred terms many) K m.choices (goal.outs-Ask pred terms many) (λ d z. z) l) (ask_plain q pred many (m.next_tag) K (plain_inside q m.next_tag K x (form.Ask pred terms many) (goal.outs-Ask pred terms many) a.2)) w)
  on_runs ops goals end (last_ask pred terms many others) m rest misses since from below' a l w =
      let m0 : Mid = record m { ops = others } in
      let k = cells g.program terms in
      let x = goal.Ask pred terms many in
      let T = (cut_of m.frames).tag in
      let vs = values set m0 terms in
      on_charged q k m0 (last set (ToPred pred) vs many m.frames (more k m0)) (pred_last q vs many (more k m0) w from pred m.frames rest refl below' a.3 (skip q m.next_tag T x (form.Ask pred terms many) rest m.choices (goal.outs-Ask pred terms many) (λ d z. z) l) (ask_plain q pred many (m.next_tag) rest (plain_inside q m.next_tag rest x (form.Ask pred terms many) (goal.outs-Ask pred terms many) a.2)))
  on_runs ops goals end (query v t many next others goals' end' s) m rest misses since from below' a l w =
      let m0 : Mid = record m { ops = others } in
      let k = cells g.program (v ∷ option_terms t) in
      let x = goal.Query v t many in
      let T = (cut_of m.frames).tag in
      let K = next_in m.frames m.inner goals' end' rest in
      let vs = values set m0 (option_terms t) in
      let h : Hand code S t0 cs0 depth (B m.frames) (block_at code next) T m.inner K = record { goals = goals'; end = end'; rest = rest; low = from; stands = s; below = below'; is = refl } in
      let asked = asked_by set v m0 in
      on_charged q k m0 (queries set asked vs many next (more k m0)) (on_queries q asked vs many next (more k m0) K (asked_is q (walk m.state.subst (value_of g.program (vars_of m.frames) v))) (inr h) a.3 (skip q m.next_tag T x (form.Query v t many) K m.choices (goal.outs-Query v t many) (λ d z. z) l) (query_seal q many m.next_tag K x (form.Query v t many) (goal.outs-Query v t many) (λ e. ap (λ b. not b && true) e) a.2) w)
  on_runs ops goals end (last_query v t many others) m rest misses since from below' a l w =
      let m0 : Mid = record m { ops = others } in
      let k = cells g.program (v ∷ option_terms t) in
      let x = goal.Query v t many in
      let T = (cut_of m.frames).tag in
      let vs = values set m0 (option_terms t) in
      let asked = asked_by set v m0 in
      on_charged q k m0 (queries_last set asked vs many (more k m0)) (on_queries_last q asked vs many (more k m0) rest (asked_is q (walk m.state.subst (value_of g.program (vars_of m.frames) v))) from below' a.3 (skip q m.next_tag T x (form.Query v t many) rest m.choices (goal.outs-Query v t many) (λ d z. z) l) (query_seal q many m.next_tag rest x (form.Query v t many) (goal.outs-Query v t many) (λ e. ap (λ b. not b && true) e) a.2) w)
  on_runs ops goals end (holds place terms many next others goals' end' s o) m rest misses since from below' a l w =
      let m0 : Mid = record m { ops = others } in
      let x = goal.Holds place terms many in
      let K = next_in m.frames m.inner goals' end' rest in
      let is = goal.outs-Holds place terms many in
      on_find q (Some place) terms many next m0 goals' end' rest o s below' a.0 (many_seals q many m.next_tag K x (form.Holds place terms many) is (λ e. ap (λ b. not b && true) e) a.2) a.3 (skip q m.next_tag (cut_of m.frames).tag x (form.Holds place terms many) K m.choices is (λ d z. z) l) w
  on_runs ops goals end (objects term many next others goals' end' s o) m rest misses since from below' a l w =
      let m0 : Mid = record m { ops = others } in
      let x = goal.IsObject term many in
      let K = next_in m.frames m.inner goals' end' rest in
      let is = goal.outs-IsObject term many in
      on_find q None (term ∷ []) many next m0 goals' end' rest o s below' a.0 (many_seals q many m.next_tag K x (form.IsObject term many) is (λ e. ap (λ b. not b && true) e) a.2) a.3 (skip q m.next_tag (cut_of m.frames).tag x (form.IsObject term many) K m.choices is (λ d z. z) l) w
  on_runs ops goals end (only list others goals' end' s) m rest misses since from below' a l w =
      let x = goal.Either (list ∷ []) in
      let layer = form.Either (list ∷ []) in
      let is = goal.outs-Either (list ∷ []) in
      let T = (cut_of m.frames).tag in
      let u = m.next_tag in
      let K = next_in m.frames m.inner goals' end' rest in
      let d = must_seal q u K x layer is refl a.2 in
      let high = a.1 in (
        list_hand q (u + 1) others m.frames m.inner m.choices list goals' end' rest s below' (body_ahead S t0 cs0 (u + 1) T list K a.0 (omega (arith, high)) (inr (sealed_up S t0 cs0 u (u + 1) K (omega arith) d)) (ahead_up S t0 cs0 u (u + 1) K (omega arith) a.3))
            (left_into S t0 cs0 u (u + 1) K (goals_next T list K) m.choices (omega arith) (λ c z. goals_sealed c T list K z) (skip q u T x layer K m.choices is (λ c z. z) l)) from,
        raised code S t0 cs0 depth u m.choices m.stops w,
      )
  on_runs ops goals end (either alt list second lists others goals' end' s o) m rest misses since from below' a l w =
      let m0 : Mid = record m { ops = others } in
      let x = goal.Either (list ∷ second ∷ lists) in
      let layer = form.Either (list ∷ second ∷ lists) in
      let is = goal.outs-Either (list ∷ second ∷ lists) in
      let T = (cut_of m.frames).tag in
      let u = m.next_tag in
      let K = next_in m.frames m.inner goals' end' rest in
      let d = must_seal q u K x layer is refl a.2 in
      let l' = skip q u T x layer K m.choices is (λ c z. z) l in
      on_list q alt m0 list goals' end' rest s below' a.0 a.1 d a.3 l' (inr (record { lists = second ∷ lists; goals = goals'; end = end'; rest = rest; others = o; below = below'; low = a.0; high = a.1; ahead = a.3; left = l'; seal = d })) w
  on_runs ops goals end (selects site mode blocks lists behind others goals' end' bs s) m rest misses since from below' a l w =
      let x = goal.Select site mode lists in
      let layer = form.Select site mode lists in
      let is = goal.outs-Select site mode lists in
      let T = (cut_of m.frames).tag in
      let u = m.next_tag in
      let K = next_in m.frames m.inner goals' end' rest in
      let l' = skip q u T x layer K m.choices is (λ c z. z) l in
      let c = selects_so g site mode (length blocks) (world_of [] (record m { ops = others })) in
      (branch_hand q u m.frames m.inner m.choices rest blocks lists goals' end' bs below' a.0 a.1 (plain_inside q u K x layer is a.2) a.3 l' behind (at_hand q u (block_at code behind) m.frames m.inner m.choices goals' end' rest s below' a.3 l' from) c.branch, w)
  on_runs ops goals end (once inner others goals' end' s) m rest misses since from below' a l w =
      let m0 : Mid = record m { ops = others } in
      let x = goal.Once inner in
      let layer = form.Once inner in
      let is = goal.outs-Once inner in
      let T = (cut_of m.frames).tag in
      let u = m.next_tag in
      let low = w.from in
      let high = a.1 in
      let K = next_in m.frames m.inner goals' end' rest in
      let J = CutsTo u ∷ K in
      let up = ahead_up S t0 cs0 u (u + 1) K (omega arith) a.3 in
      on_charged q 10 m0 (Runs (within (place_of m0) (more 10 (passed m0)))) (
        at_hand q (u + 1) others m.frames (place_of m0 ∷ m.inner) m.choices inner (Commits goals' end') rest s below'
            (body_ahead S t0 cs0 (u + 1) T inner J a.0 (omega (arith, high)) (inr (place_seals q u (u + 1) K low (omega arith))) (low, omega arith, up))
            (left_into S t0 cs0 u (u + 1) K (goals_next T inner J) m.choices (omega arith) (λ c z. goals_sealed c T inner J (inr z)) (skip q u T x layer K m.choices is (λ c z. z) l)) from,
        raised code S t0 cs0 depth u m.choices m.stops w,
      )
  on_runs ops goals end (negates alt inner others goals' end' s o) m rest misses since from below' a l w =
      let m0 : Mid = record m { ops = others } in
      let T = (cut_of m.frames).tag in
      let u = m.next_tag in
      let low = w.from in
      let K = next_in m.frames m.inner goals' end' rest in
      let J = CutsTo u ∷ Stuck ∷ [] in
      let l' = skip q u T (goal.Not inner) (form.Not inner) K m.choices (goal.outs-Not inner) (λ c z. z) l in
      on_try q alt m0 (inl (at_hand q u (block_at code alt) m.frames m.inner m.choices goals' end' rest o below' a.3 l' from))
      (at_hand q (u + 1) others m.frames (place_of m0 ∷ m.inner) (new_choice (Goes alt) m0 ∷ m.choices) inner Refuses rest s below'
      (inner_ahead q m0 (Goes alt) T a.0 a.1 w K J a.3 l' inner (low, omega arith, tt) (place_seals q u (u + 1) (Stuck ∷ []) low (omega arith)))
      (inner_left q m0 (Goes alt) T a.0 a.1 w K J a.3 l' inner (place_seals q u u (Stuck ∷ []) low (omega arith)) (λ c z. inr tt)) from) w
  on_runs ops goals end (branch alt test first other others goals' end' s o) m rest misses since from below' a l w =
      let m0 : Mid = record m { ops = others } in
      let x = goal.If test first other in
      let layer = form.If test first other in
      let is = goal.outs-If test first other in
      let T = (cut_of m.frames).tag in
      let u = m.next_tag in
      let low = w.from in
      let high = a.1 in
      let K = next_in m.frames m.inner goals' end' rest in
      let l' = skip q u T x layer K m.choices is (λ c z. z) l in
      let p = plain_inside q u K x layer is a.2 in
      let mid = goals_next T (first ++ goals') (end_next end' T m.inner rest) in
      let same = next_append T first goals' (end_next end' T m.inner rest) in
      let J = CutsTo u ∷ mid in
      let then_ahead : A u mid = subst (A u) (sym same) (body_ahead S t0 cs0 u T first K a.0 a.1 (both_left q u K (are_plain S first) (are_plain S other) p) a.3) in
      on_try q alt m0 (inl (list_hand q u (block_at code alt) m.frames m.inner m.choices other goals' end' rest o below' (body_ahead S t0 cs0 u T other K a.0 a.1 (both_right q u K (are_plain S first) (are_plain S other) p) a.3) (left_into S t0 cs0 u u K (goals_next T other K) m.choices (omega arith) (λ c z. goals_sealed c T other K z) l') from))
      (at_hand q (u + 1) others m.frames (place_of m0 ∷ m.inner) (new_choice (Goes alt) m0 ∷ m.choices) test (Commits (first ++ goals') end') rest s below'
      (inner_ahead q m0 (Goes alt) T a.0 a.1 w K J a.3 l' test (low, omega arith, ahead_up S t0 cs0 u (u + 1) mid (omega arith) then_ahead) (place_seals q u (u + 1) mid low (omega arith)))
      (inner_left q m0 (Goes alt) T a.0 a.1 w K J a.3 l' test (place_seals q u u mid low (omega arith)) (λ c z. inr (subst (SealedBy c) (sym same) (goals_sealed c T first K z)))) from) w
  on_runs ops goals end (exhausts alt inner others goals' end' s o) m rest misses since from below' a l w =
      let m0 : Mid = record m { ops = others } in
      let T = (cut_of m.frames).tag in
      let u = m.next_tag in
      let low = w.from in
      let K = next_in m.frames m.inner goals' end' rest in
      let J = Stuck ∷ [] in
      let l' = skip q u T (goal.Exhaust inner) (form.Exhaust inner) K m.choices (goal.outs-Exhaust inner) (λ c z. z) l in
      on_try q alt m0 (inl (at_hand q u (block_at code alt) m.frames m.inner m.choices goals' end' rest o below' a.3 l' from))
      (at_hand q (u + 1) others m.frames (place_of m0 ∷ m.inner) (new_choice (Goes alt) m0 ∷ m.choices) inner Backs rest s below'
      (inner_ahead q m0 (Goes alt) T a.0 a.1 w K J a.3 l' inner tt (stuck_seals q (u + 1) (omega (arith, low))))
      (inner_left q m0 (Goes alt) T a.0 a.1 w K J a.3 l' inner (stuck_seals q u low) (λ c z. tt)) from) w
  on_runs ops goals end (shields alt inner others goals' end' s o) m rest misses since from below' a l w =
      let m0 : Mid = record m { ops = others } in
      let T = (cut_of m.frames).tag in
      let u = m.next_tag in
      let low = w.from in
      let K = next_in m.frames m.inner goals' end' rest in
      let J = CutsTo u ∷ K in
      let l' = skip q u T (goal.Stoppable inner) (form.Stoppable inner) K m.choices (goal.outs-Stoppable inner) (λ c z. z) l in
      let there = at_hand q u (block_at code alt) m.frames m.inner m.choices goals' end' rest o below' a.3 l' from in
      on_shield q alt m0 there
      (at_hand q (u + 1) others m.frames (place_of m0 ∷ m.inner) (new_choice (Goes alt) m0 ∷ m.choices) inner (Leaves goals' end') rest s below'
      (inner_ahead q m0 (Goes alt) T a.0 a.1 w K J a.3 l' inner (low, omega arith, ahead_up S t0 cs0 u (u + 1) K (omega arith) a.3) (place_seals q u (u + 1) K low (omega arith)))
      (inner_left q m0 (Goes alt) T a.0 a.1 w K J a.3 l' inner (place_seals q u u K low (omega arith)) (λ c z. inr z)) from) w
  on_runs ops goals end (collects term into alt inner others behind goals' end' s e o) m rest misses since from below' a l w =
      on_gathering q (goal.Collect term inner into) (form.Collect term inner into) (goal.outs-Collect term inner into) gathered.List term into alt inner others behind goals' end' s e o (λ t c z. z) m rest below' a l w
  on_runs ops goals end (accumulates term into alt inner others behind goals' end' s e o) m rest misses since from below' a l w =
      on_gathering q (goal.Accumulate term inner into) (form.Accumulate term inner into) (goal.outs-Accumulate term inner into) gathered.Sum term into alt inner others behind goals' end' s e o (λ t c z. z) m rest below' a l w
  on_runs ops goals end (forever b others goals' end' e s) m rest misses since from below' a l w =
      let m0 : Mid = record m { ops = others } in
      let x = goal.Forever in
      let T = (cut_of m.frames).tag in
      let u = m.next_tag in
      let K = next_in m.frames m.inner goals' end' rest in
      let d = must_seal q u K x form.Forever goal.outs-Forever refl a.2 in
      let l' = skip q u T x form.Forever K m.choices goal.outs-Forever (λ c z. z) l in
      on_alt q b m0 (inl (at_hand q u (block_at code b) m.frames m.inner m.choices (x ∷ goals') end' rest (subst (λ k. Stands code k (x ∷ goals') end') (sym e) (forever b others goals' end' e s)) below' a l from))
      (at_hand q (u + 1) others m.frames m.inner (new_choice (Goes b) m0 ∷ m.choices) goals' end' rest s below' (ahead_up S t0 cs0 u (u + 1) K (omega arith) a.3) (left_open S t0 cs0 u K K (new_choice (Goes b) m0) m.choices refl (λ c z. z) d l') from) w
