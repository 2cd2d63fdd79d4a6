-- Queries that are made within a query of a single predicate.
use Rattle.std.proofs.Common.{◌≡◌, ℕ, zero, suc, ◌+◌, ◌≤◌, ◌⊎◌, inl, inr, List, [], ◌∷◌, ◌++◌, Option, Some, None, Bool, true, false, refl, sym, ap, ◌∙◌, subst, arith, length, map}
use Rattle.std.specs.List.{zip}
use Rattle.std.specs.Prelude.{if◌then◌else◌, ◌&&◌, ◌||◌, not, ◌-◌, nat_lt, eqb, slice_get}
use Rattle.std.proofs.lemmas.Bool.{cond_both, eqb-true}
use Rattle.dg_base.specs.declared.program.ClosureBody.{ClosureBody}
use Rattle.dg_base.specs.declared.program.Goal.{Goal, Goal-F, out-Goal}
use Rattle.dg_base.specs.declared.program.Pred.{Pred}
use Rattle.dg_base.specs.declared.program.Rule.{Rule}
use Rattle.dg_base.specs.declared.run.Ending.{Ending}
use Rattle.dg_base.specs.declared.run.Ending.TheVariants as ending
use Rattle.dg_base.specs.declared.run.Limits.{Limits}
use Rattle.dg_meaning.specs.Cells.{cells}
use Rattle.dg_meaning.specs.Moves.{rules_of}
use Rattle.dg_meaning.specs.Path.{Act, Goes as GoesAct, Tests, Unifies, Ends, Fails as FailsNow, Stops}
use Rattle.dg_meaning.specs.Unify.{Unified, solve}
use Rattle.dg_meaning.specs.Values.{Closure, Value, Values, Node, value_of}
use Rattle.dg_meaning.specs.World.{Game}
use Rattle.dg_base.specs.Goals.{has_rule}
use Rattle.dg_single.specs.Plain.{is_plain, has_cut, are_plain, rules_fit}
use Rattle.dg_meaning.specs.Sets.{is_in_set}
use Rattle.dg_single.proofs.PlainLemmas.{plain_layer, plain_out}
use Rattle.dg_single.proofs.SetLemmas.{and_left, and_right, or_cases}
use Rattle.dg_mid.specs.declared.code.Op.{Op}
use Rattle.dg_mid.specs.declared.code.RuleCode.{RuleCode}
use Rattle.dg_mid.specs.declared.code.BodyCode.{BodyCode}
use Rattle.dg_mid.specs.declared.code.Code.{Code}
use Rattle.dg_mid.specs.Actions.{lasting_in}
use Rattle.dg_mid.specs.Code.{block_at, rules_at, excluded, selected}
use Rattle.dg_mid.specs.Codes.{End, Returns, Stands, returns, RulesStand, BodyStands}
use Rattle.dg_mid.specs.Singles.{PartSince}
use Rattle.dg_mid.specs.State.{Place, Frame, Call, Target, ToPred, ToBody, Way, Calls, Stop, Choice, Mid, Status, Runs, Ended, cut_of, cut_choices, stop_to}
use Rattle.dg_mid.specs.Step.{Setting, setting, charged, bound, unified, if_agreed, if_passed, made_in, done, stops, stops_at, begins, enters, asks, calls, call_of, asks_last, last, body_of, closure_at}
use Rattle.dg_mid.specs.Step.{entered, passed, parameter, body_equations, body_frame, new_frame, first_of}
use Rattle.dg_mid.specs.Step.{new_choice}
use Rattle.dg_mid.proofs.Endings.{EndsWell}
use Rattle.dg_mid.proofs.Rest.{Next, Does, CutsTo, goals_next, end_next, first_next, next_append, seals, goals_sealed, cut_seals, Sealed, Ahead, Left, sealed_up, ahead_up, left_into, sealed_goals, body_ahead, left_skip, left_open}
use Rattle.dg_mid.proofs.Within.{Query, Reached, Behind, AtHand, RuleAt, BodyOk, RulesOk, WayAt, PartsAt, WithinAt, EntersAt, InQuery, raised, opened, hand_cut, within_cut, stops_there}

module _ (q : Query) where
  abbrev g : Game
  g = q.game

  abbrev code : Code
  code = q.code

  abbrev limits : Limits
  limits = q.limits

  abbrev S : List Bool
  S = q.set

  abbrev t0 : ℕ
  t0 = q.tag

  abbrev cs0 : List Choice
  cs0 = q.choices

  abbrev depth : ℕ
  depth = q.depth

  abbrev set : Setting
  set = setting g code limits

  abbrev C : Status → Type 0
  C s = InQuery code S t0 cs0 depth s

  abbrev W : ℕ → List Choice → List Stop → Type 0
  W u cs ss = WithinAt code S t0 cs0 depth u cs ss

  abbrev H : ℕ → List Op → List Frame → List Place → List Choice → Type 0
  H u ops fs inner cs = AtHand code S t0 cs0 depth u ops fs inner cs

  abbrev A : ℕ → List Next → Type 0
  A u K = Ahead S t0 cs0 u K

  abbrev L : ℕ → List Next → List Choice → Type 0
  L u K cs = Left S t0 cs0 u K cs

  abbrev D : ℕ → List Next → Type 0
  D u K = Sealed S t0 cs0 u K

  abbrev B : List Frame → List Next → Type 0
  B fs K = Behind code S t0 cs0 depth fs K

  abbrev Way-At : ℕ → Way → List Frame → List Place → List Choice → Type 0
  Way-At u way fs inner cs = WayAt code S t0 cs0 depth u way fs inner cs

  -- the steps of goals and of what comes behind them, in these frames
  abbrev next_in : List Frame → List Place → List Goal → End → List Next → List Next
  next_in fs inner goals end rest = goals_next (cut_of fs).tag goals (end_next end (cut_of fs).tag inner rest)

  -- code at hand
  pub at_hand : (u : ℕ) (ops : List Op) (fs : List Frame) (inner : List Place) (cs : List Choice) (goals : List Goal) (end : End) (rest : List Next) → Stands code ops goals end → B fs rest → A u (next_in fs inner goals end rest) → L u (next_in fs inner goals end rest) cs → t0 ≤ (cut_of fs).tag → H u ops fs inner cs
  at_hand u ops fs inner cs goals end rest s b a l low = record { rest = next_in fs inner goals end rest; hand = record { goals = goals; end = end; rest = rest; low = low; stands = s; below = b; is = refl }; ahead = a; left = l }

  -- the same where a list stands in front
  pub list_hand : (u : ℕ) (ops : List Op) (fs : List Frame) (inner : List Place) (cs : List Choice) (list goals : List Goal) (end : End) (rest : List Next) → Stands code ops (list ++ goals) end → B fs rest → A u (goals_next (cut_of fs).tag list (next_in fs inner goals end rest)) → L u (goals_next (cut_of fs).tag list (next_in fs inner goals end rest)) cs → t0 ≤ (cut_of fs).tag → H u ops fs inner cs
  list_hand u ops fs inner cs list goals end rest s b a l low =
      let e = sym (next_append (cut_of fs).tag list goals (end_next end (cut_of fs).tag inner rest)) in
      at_hand u ops fs inner cs (list ++ goals) end rest s b (subst (A u) e a) (subst (λ K. L u K cs) e l) low

  -- ## Goals that are plain

  -- a goal that isn't plain is sealed
  pub must_seal : (u : ℕ) (K : List Next) (x : Goal) (layer : Goal-F Goal) → out-Goal x ≡ layer → plain_layer S layer ≡ false → (is_plain S x ≡ true) ⊎ D u K → D u K
  must_seal u K x layer is misses (inl e) = let q = sym (plain_out S x ∙ ap (plain_layer S) is ∙ misses) ∙ e in absurd (cc (q))
  must_seal u K x layer is misses (inr s) = s

  -- a goal that is plain goes on with plain lists
  pub plain_inside : (u : ℕ) (K : List Next) (x : Goal) (layer : Goal-F Goal) → out-Goal x ≡ layer → (is_plain S x ≡ true) ⊎ D u K → (plain_layer S layer ≡ true) ⊎ D u K
  plain_inside u K x layer is (inl e) = inl (sym (plain_out S x ∙ ap (plain_layer S) is) ∙ e)
  plain_inside u K x layer is (inr s) = inr s

  -- a goal of a form that neither cuts nor fails is passed
  pub skip : (u t : ℕ) (x : Goal) (layer : Goal-F Goal) (K : List Next) (cs : List Choice) → out-Goal x ≡ layer → ((c : ℕ) → seals layer t c → ⊥) → L u (Does x t ∷ K) cs → L u K cs
  skip u t x layer K cs is quiet l = left_skip S t0 cs0 u t x K cs (λ c s. quiet c (subst (λ f. seals f t c) is s)) l

  -- ## What leads where

  pub if_ends : (b : Bool) (e : Ending) (s : Status) → C s → C (if b then Ended e else s)
  if_ends true e s h = tt
  if_ends false e s h = h

  pub on_charged : (k : ℕ) (m : Mid) (s : Status) → C s → C (charged set k m s)
  on_charged zero m s h = h
  on_charged (suc k) m s h = if_ends (nat_lt limits.heap (m.state.heap + suc k)) ending.HeapLimit s h

  pub on_agreed : (b : Bool) (m : Mid) (s : Status) → W m.next_tag m.choices m.stops → C s → C (if_agreed b m s)
  on_agreed true m s w h = h
  on_agreed false m s w h = w

  pub on_unified : (u : Unified) (m : Mid) (s : Status) → W m.next_tag m.choices m.stops → C s → C (unified set u m s)
  on_unified u m s w h = if_ends _ ending.TrailLimit (if_agreed u.agrees (bound u m) s) (on_agreed u.agrees (bound u m) s w h)

  pub on_passed : (b : Bool) (m : Mid) → C (Runs m) → C (if_passed b m)
  on_passed true m h = h
  on_passed false m h = h.1

  pub on_stop_at : (v u : ℕ) (ss : List Stop) (m : Mid) → t0 ≤ v → W m.next_tag m.choices m.stops → PartsAt code S t0 cs0 depth u m.choices ss → C (stops_at set (stop_to v ss) m)
  on_stop_at v u [] m le w h = w
  on_stop_at v u (s ∷ ss) m le w h = cond_both (eqb s.place.tag v) (Some (s, ss)) (stop_to v ss) (λ x. C (stops_at set x m))
      (λ e. let k = eqb-true s.place.tag v e in stops_there code S t0 cs0 depth q.older u s ss m.choices (omega (arith, le, k)) w.kept h)
      (λ e. on_stop_at v s.place.tag ss m le w h.2)

  pub on_stops : (t : Option ℕ) (m : Mid) → PartSince t0 t → W m.next_tag m.choices m.stops → C (stops set t m)
  on_stops None m le w = tt
  on_stops (Some v) m le w = on_stop_at v m.next_tag m.stops m le w w.parts

  pub on_cut : (p : Place) (m : Mid) → t0 ≤ p.tag → C (Runs m) → C (Runs (record m { choices = cut_choices p m.choices }))
  on_cut p m le h = (hand_cut code S t0 cs0 depth q.older m.next_tag m.ops m.frames m.inner m.choices p le h.0, within_cut code S t0 cs0 depth q.older m.next_tag p m.choices m.stops le h.1)

  pub on_done : (act : Act) (m : Mid) → EndsWell act → t0 ≤ (cut_of m.frames).tag → C (Runs m) → C (done set act m)
  on_done (GoesAct [] w) m e le h = if_ends _ ending.KeepLimit (Runs (lasting_in w m)) h
  on_done (GoesAct (s ∷ steps) w) m e le h = on_cut (cut_of m.frames) m le h
  on_done (Tests passed w) m e le h = on_passed passed (lasting_in w m) h
  on_done (Unifies made es w) m e le h =
      let m' = made_in made (lasting_in w m) in
      let u = solve made.bound es in
      on_charged (made.heap - m.state.heap) m (unified set u m' (Runs (bound u m'))) (on_unified u m' (Runs (bound u m')) h.1 h)
  on_done (Ends x w) m e le h = tt
  on_done (FailsNow w) m e le h = h.1
  on_done (Stops w) m e le h = absurd e

  -- ## Queries

  -- the body of a rule ahead
  pub rule_ahead : (u t : ℕ) (K : List Next) (body : List Goal) (others : List RuleCode) → t0 ≤ t → t ≤ u → BodyOk code S t0 cs0 depth u K body others → A u K → A (u + 1) (goals_next t body K)
  rule_ahead u t K body others low high (inl h) a = body_ahead S t0 cs0 (u + 1) t body K low (omega (arith, high)) (inl h.0) (ahead_up S t0 cs0 u (u + 1) K (omega arith) a)
  rule_ahead u t K body others low high (inr s) a = body_ahead S t0 cs0 (u + 1) t body K low (omega (arith, high)) (inr (sealed_up S t0 cs0 u (u + 1) K (omega arith) s)) (ahead_up S t0 cs0 u (u + 1) K (omega arith) a)

  -- where others are left, it is sealed
  pub rule_sealed : (u t : ℕ) (K : List Next) (body : List Goal) (q : RuleCode) (qs : List RuleCode) → t0 ≤ t → t ≤ u → BodyOk code S t0 cs0 depth u K body (q ∷ qs) → D u (goals_next t body K)
  rule_sealed u t K body q qs low high (inl h) = elim h.1 [ inl e ↦ absurd (cc (e)) | inr cuts ↦ record { tag = t; from = low; to = high; by = cut_seals t body K cuts } ]
  rule_sealed u t K body q qs low high (inr s) = sealed_goals S t0 cs0 u t body K s

  -- fewer rules are left
  pub body_fewer : (u : ℕ) (K : List Next) (body : List Goal) (first : Option Value) (others : List RuleCode) → BodyOk code S t0 cs0 depth u K body others → BodyOk code S t0 cs0 depth u K body (selected first others)
  body_fewer u K body first others (inl h) = elim h.1 [ inl e ↦ inl (h.0, inl (ap (selected first) e)) | inr cuts ↦ inl (h.0, inr cuts) ]
  body_fewer u K body first others (inr s) = inr s

  pub rules_selected : (u : ℕ) (K : List Next) (first : Option Value) (rules : List RuleCode) → RulesOk code S t0 cs0 depth u K rules → RulesOk code S t0 cs0 depth u K (selected first rules)
  rules_selected u K first [] h = tt
  rules_selected u K first (r ∷ rs) h = cond_both (excluded first r.key) (selected first rs) (r ∷ rs) (RulesOk code S t0 cs0 depth u K) (λ e. rules_selected u K first rs h.1) (λ e. h)

  module _ (c : Call) (m : Mid) (rest : List Next) (reached : Reached code S t0 cs0 depth (B m.frames) c.next (cut_of m.frames).tag m.inner m.frames rest) (cut : c.cut.tag ≡ m.next_tag)
      (a : A m.next_tag (first_next c.many c.cut.tag rest)) (l : L m.next_tag (first_next c.many c.cut.tag rest) m.choices) (w : W m.next_tag m.choices m.stops) where
    abbrev F : List Next
    F = first_next c.many c.cut.tag rest

    cut_from : t0 ≤ c.cut.tag
    cut_from = let x = w.from in omega (arith, x, cut)

    pub on_enters : (r : RuleCode) (rules : List RuleCode) (x : RuleAt code S t0 cs0 depth (block_at code r.block)) → BodyOk code S t0 cs0 depth m.next_tag F x.body rules → RulesOk code S t0 cs0 depth m.next_tag F rules → C (enters set c r rules m)
    on_enters r [] x h k = (
      record { rest = rest; below = reached; rule = x; low = cut_from; ahead = rule_ahead m.next_tag c.cut.tag F x.body [] cut_from (omega (arith, cut)) h a; left = left_into S t0 cs0 m.next_tag (m.next_tag + 1) F (goals_next c.cut.tag x.body F) m.choices (omega arith) (λ d s. goals_sealed d c.cut.tag x.body F s) l },
      raised code S t0 cs0 depth m.next_tag m.choices m.stops w,
    )
    on_enters r (q ∷ qs) x h k =
        let n = new_choice (Calls c (q ∷ qs)) m in
        let J = goals_next c.cut.tag x.body F in
        on_charged (10 + length c.args) m _ (
          record { rest = rest; below = reached; rule = x; low = cut_from; ahead = rule_ahead m.next_tag c.cut.tag F x.body (q ∷ qs) cut_from (omega (arith, cut)) h a; left = left_open S t0 cs0 m.next_tag F J n m.choices refl (λ d s. goals_sealed d c.cut.tag x.body F s) (rule_sealed m.next_tag c.cut.tag F x.body q qs cut_from (omega (arith, cut)) h) l },
          opened code S t0 cs0 depth (Calls c (q ∷ qs)) m w (record { rest = rest; below = reached; cut = cut; ahead = a; left = l; rules_are = k }),
        )

    pub on_begins : (rules : List RuleCode) → RulesOk code S t0 cs0 depth m.next_tag F rules → C (begins set c rules m)
    on_begins [] h = w
    on_begins (r ∷ rs) h =
        let first = first_of m.state.subst c in
        on_enters r (selected first rs) h.0.rule (body_fewer m.next_tag F h.0.rule.body first rs h.0.body) (rules_selected m.next_tag F first rs h.1)

    -- the body of a closure, behind which a seal comes
    pub on_body : (b : BodyCode) (captured : List Value) (body : List Goal) → Stands code (block_at code b.block) body Returns → D m.next_tag F → C (calls set (ToBody b captured) c m)
    on_body b captured body s d =
        let k = 6 + b.own + cells g.program (parameter captured c.args) in
        let m' = record (passed m) { ops = block_at code b.block; state = record m.state { vars = m.state.vars + b.own; heap = m.state.heap + k } } in
        let u = solve m.state.subst (body_equations set captured b.own c.args m.state.vars) in
        let fs = body_frame captured b.own c m ∷ m.frames in
        let now = Runs (record (bound u m') { frames = fs; inner = [] }) in
        let up = raised code S t0 cs0 depth m.next_tag m.choices m.stops w in
        let J = goals_next c.cut.tag body F in
        on_charged k m (unified set u m' now) (on_unified u m' now up (
          at_hand (m.next_tag + 1) (block_at code b.block) fs [] m.choices body Returns F s (rest, reached, refl) (rule_ahead m.next_tag c.cut.tag F body [] cut_from (omega (arith, cut)) (inr d) a) (left_into S t0 cs0 m.next_tag (m.next_tag + 1) F J m.choices (omega arith) (λ e s. goals_sealed e c.cut.tag body F s) l) cut_from,
          up,
        ))

  -- a rule is entered
  pub on_entered : (c : Call) (m : Mid) → EntersAt code S t0 cs0 depth c m.next_tag m.ops m.frames m.inner m.choices → W m.next_tag m.choices m.stops → C (entered set c m.ops m)
  on_entered c m h w =
      let r = h.rule in
      let m0 : Mid = record m { ops = r.after } in
      let k = 6 + r.vars + cells g.program r.head in
      let x = new_frame c r.vars m0 in
      let m' : Mid = record m0 { state = record m.state { vars = m.state.vars + r.vars; heap = m.state.heap + k } } in
      let u = solve m.state.subst (zip c.args (map (value_of g.program x.vars) r.head)) in
      let s = Runs (record (bound u m') { frames = x ∷ m.frames; inner = [] }) in
      subst (λ l. C (entered set c l m)) (sym r.is)
      (on_charged k m0 (unified set u m' s) (on_unified u m' s w (at_hand m.next_tag r.after (x ∷ m.frames) [] m.choices r.body Returns (first_next c.many c.cut.tag h.rest) r.stands (h.rest, h.below, refl) h.ahead h.left h.low, w)))

  -- ## Which rules a query finds

  abbrev pub rule_at : (c : RuleCode) (cs : List RuleCode) (rule : Rule) (rules : List Rule) → RulesStand code (c ∷ cs) (rule ∷ rules) → RuleAt code S t0 cs0 depth (block_at code c.block)
  rule_at c cs rule rules s = let x = s.0 in record { vars = rule.vars; head = rule.head; after = x.ops; body = rule.body; is = x.block; stands = x.body }

  -- each is sealed
  pub rules_sealed : (u : ℕ) (K : List Next) (cs : List RuleCode) (rules : List Rule) → RulesStand code cs rules → D u K → RulesOk code S t0 cs0 depth u K cs
  rules_sealed u K [] [] s d = tt
  rules_sealed u K [] (rule ∷ rules) s d = absurd s
  rules_sealed u K (c ∷ cs) [] s d = absurd s
  rules_sealed u K (c ∷ cs) (rule ∷ rules) s d = (record { rule = rule_at c cs rule rules s; body = inr d }, rules_sealed u K cs rules s.1 d)

  pub no_codes : (cs : List RuleCode) (rules : List Rule) → RulesStand code cs rules → not (has_rule rules) ≡ true → cs ≡ []
  no_codes [] rules s e = refl
  no_codes (c ∷ cs) [] s e = absurd s
  no_codes (c ∷ cs) (rule ∷ rules) s e = absurd (cc (e))

  -- they fit the set
  pub rules_plain : (u : ℕ) (K : List Next) (cs : List RuleCode) (rules : List Rule) → RulesStand code cs rules → rules_fit S rules ≡ true → RulesOk code S t0 cs0 depth u K cs
  rules_plain u K [] [] s h = tt
  rules_plain u K [] (rule ∷ rules) s h = absurd s
  rules_plain u K (c ∷ cs) [] s h = absurd s
  rules_plain u K (c ∷ cs) (rule ∷ rules) s h =
      let first = and_left (are_plain S rule.body && (not (has_rule rules) || has_cut rule.body)) (rules_fit S rules) h in
      let last = or_cases (not (has_rule rules)) (has_cut rule.body) (and_right (are_plain S rule.body) (not (has_rule rules) || has_cut rule.body) first) in (
        record { rule = rule_at c cs rule rules s; body = inl (and_left (are_plain S rule.body) (not (has_rule rules) || has_cut rule.body) first, elim last [ inl e ↦ inl (no_codes cs rules s.1 e) | inr e ↦ inr e ]) },
        rules_plain u K cs rules s.1 (and_right (are_plain S rule.body && (not (has_rule rules) || has_cut rule.body)) (rules_fit S rules) h),
      )

  -- a predicate of the set
  pub pred_plain : (u : ℕ) (K : List Next) (pred : ℕ) (o : Option Pred) → slice_get g.program.preds pred ≡ o → RulesStand code (rules_at code pred) (rules_of o) → is_in_set S pred ≡ true → RulesOk code S t0 cs0 depth u K (rules_at code pred)
  pred_plain u K pred None e s h = rules_plain u K (rules_at code pred) [] s refl
  pred_plain u K pred (Some p) e s h = rules_plain u K (rules_at code pred) p.rules s (q.closed pred p e h)

  -- the first answer alone is sealed by its own cut
  pub first_sealed : (many : Bool) (u t : ℕ) (K : List Next) → many ≡ false → t0 ≤ t → t ≤ u → D u (first_next many t K)
  first_sealed true u t K e low high = absurd (cc (e))
  first_sealed false u t K e low high = record { tag = t; from = low; to = high; by = inl refl }

  pub first_up : (many : Bool) (u t : ℕ) (K : List Next) → D u K → D u (first_next many t K)
  first_up true u t K d = d
  first_up false u t K d = record { tag = d.tag; from = d.from; to = d.to; by = inr d.by }

  pub first_ahead : (many : Bool) (u t : ℕ) (K : List Next) → t0 ≤ t → t ≤ u → A u K → A u (first_next many t K)
  first_ahead true u t K low high a = a
  first_ahead false u t K low high a = (low, high, a)

  pub first_left : (many : Bool) (u t : ℕ) (K : List Next) (cs : List Choice) → L u K cs → L u (first_next many t K) cs
  first_left true u t K cs l = l
  first_left false u t K cs l = left_into S t0 cs0 u u K (CutsTo t ∷ K) cs (omega arith) (λ c s. inr s) l

  -- a query of a predicate may enter its rules
  pub pred_ok : (pred : ℕ) (many : Bool) (u t : ℕ) (K : List Next) → t0 ≤ t → t ≤ u → ((not many || is_in_set S pred) ≡ true) ⊎ D u K → RulesOk code S t0 cs0 depth u (first_next many t K) (rules_at code pred)
  pred_ok pred many u t K low high (inl e) = elim (or_cases (not many) (is_in_set S pred) e) [
    | inl x ↦ rules_sealed u (first_next many t K) (rules_at code pred) (rules_of (slice_get g.program.preds pred)) (q.codes.rules pred) (first_sealed many u t K (not_many many x) low high)
    | inr x ↦ pred_plain u (first_next many t K) pred (slice_get g.program.preds pred) refl (q.codes.rules pred) x
  ]
    where
      not_many : (b : Bool) → not b ≡ true → b ≡ false
      not_many true e = absurd (cc (e))
      not_many false e = refl
  pred_ok pred many u t K low high (inr d) = rules_sealed u (first_next many t K) (rules_at code pred) (rules_of (slice_get g.program.preds pred)) (q.codes.rules pred) (first_up many u t K d)

  -- what a value asks has a body
  abbrev pub TargetOk : Target → Type 0
  TargetOk (ToPred pred) = ⊥
  TargetOk (ToBody b captured) = (body : List Goal) × Stands code (block_at code b.block) body Returns

  abbrev pub IfTarget : Option Target → Type 0
  IfTarget None = Unit {0}
  IfTarget (Some t) = TargetOk t

  pub body_is : (o : Option BodyCode) (q : Option ClosureBody) (parts : Values) → BodyStands code o q → IfTarget (body_of o parts)
  body_is None q parts h = tt
  body_is (Some b) None parts h = absurd h
  body_is (Some b) (Some closure) parts h = (closure.body, h.1)

  pub asked_is : (v : Value) → IfTarget (closure_at code v)
  asked_is (Node (Closure place) parts) = body_is (slice_get code.closures place) (slice_get g.program.closures place) parts (q.codes.bodies place)
  asked_is v = tt

  -- the code that answers a rule
  pub answers_at : Stands code (block_at code 0) [] Returns
  answers_at = subst (λ l. Stands code l [] Returns) (sym q.codes.answers) (returns [])

  -- it is called where it may leave choices that are cut
  pub on_target : (t : Target) (c : Call) (m : Mid) (rest : List Next) → TargetOk t → Reached code S t0 cs0 depth (B m.frames) c.next (cut_of m.frames).tag m.inner m.frames rest → c.cut.tag ≡ m.next_tag →
      A m.next_tag rest → L m.next_tag rest m.choices → D m.next_tag (first_next c.many c.cut.tag rest) → W m.next_tag m.choices m.stops → C (calls set t c m)
  on_target (ToPred pred) c m rest k reached cut a l d w = absurd k
  on_target (ToBody b captured) c m rest k reached cut a l d w =
      let x = w.from in
      on_body c m rest reached cut (first_ahead c.many m.next_tag c.cut.tag rest (omega (arith, x, cut)) (omega (arith, cut)) a) (first_left c.many m.next_tag c.cut.tag rest m.choices l) w b captured k.0 k.1 d

  pub on_asked : (pred : ℕ) (c : Call) (m : Mid) (rest : List Next) → Reached code S t0 cs0 depth (B m.frames) c.next (cut_of m.frames).tag m.inner m.frames rest → c.cut.tag ≡ m.next_tag →
      A m.next_tag rest → L m.next_tag rest m.choices → ((not c.many || is_in_set S pred) ≡ true) ⊎ D m.next_tag rest → W m.next_tag m.choices m.stops → C (asks set pred c m)
  on_asked pred c m rest reached cut a l d w =
      let x = w.from in
      let first = first_of m.state.subst c in
      let K = first_next c.many c.cut.tag rest in
      on_begins c m rest reached cut (first_ahead c.many m.next_tag c.cut.tag rest (omega (arith, x, cut)) (omega (arith, cut)) a) (first_left c.many m.next_tag c.cut.tag rest m.choices l) w (selected first (rules_at code pred))
      (rules_selected m.next_tag K first (rules_at code pred) (pred_ok pred c.many m.next_tag c.cut.tag rest (omega (arith, x, cut)) (omega (arith, cut)) d))

  -- ## The last query of a rule

  -- what is called goes on where the rule does, or at the block that answers it
  module _ (vs : List Value) (many : Bool) (m : Mid) (w : W m.next_tag m.choices m.stops) (low : t0 ≤ (cut_of m.frames).tag) where
    pub pred_last : (pred : ℕ) (frames : List Frame) (rest : List Next) → m.frames ≡ frames → B frames rest → A m.next_tag rest → L m.next_tag rest m.choices → ((not many || is_in_set S pred) ≡ true) ⊎ D m.next_tag rest → C (last set (ToPred pred) vs many frames m)
    pred_last pred [] rest e b a l d = absurd b
    pred_last pred (f ∷ fs) rest e b a l d = pred_asks f.many f fs rest b.0 refl e b.1 b.2 a l d
      where
        pred_asks : (every : Bool) (f : Frame) (fs : List Frame) (rest J : List Next) → f.many ≡ every → m.frames ≡ f ∷ fs → Reached code S t0 cs0 depth (B fs) f.next (cut_of fs).tag f.inner fs J → rest ≡ first_next f.many f.cut.tag J → A m.next_tag rest → L m.next_tag rest m.choices → ((not many || is_in_set S pred) ≡ true) ⊎ D m.next_tag rest → C (asks_last set (ToPred pred) vs many every f fs m)
        pred_asks true f fs rest J q e r is a l d =
            let same : rest ≡ J = is ∙ ap (λ x. first_next x f.cut.tag J) q in
            on_asked pred (call_of vs many f.next m) (record m { frames = fs; inner = f.inner }) J r refl (subst (A m.next_tag) same a) (subst (λ K. L m.next_tag K m.choices) same l) (subst (λ K. ((not many || is_in_set S pred) ≡ true) ⊎ D m.next_tag K) same d) w
        pred_asks false f fs rest J q e r is a l d =
            let reached : Reached code S t0 cs0 depth (B (f ∷ fs)) 0 f.cut.tag [] (f ∷ fs) rest = inr (record { goals = []; end = Returns; rest = rest; low = subst (λ xs. t0 ≤ (cut_of xs).tag) e low; stands = answers_at; below = (J, r, is); is = refl }) in
            on_asked pred (call_of vs many 0 m) (record m { inner = [] }) rest (subst (λ xs. Reached code S t0 cs0 depth (B xs) 0 (cut_of xs).tag [] xs rest) (sym e) reached) refl a l d w

    pub body_last : (t : Target) (frames : List Frame) (rest : List Next) → m.frames ≡ frames → TargetOk t → B frames rest → A m.next_tag rest → L m.next_tag rest m.choices → (many ≡ false) ⊎ D m.next_tag rest → C (last set t vs many frames m)
    body_last t [] rest e k b a l d = absurd b
    body_last t (f ∷ fs) rest e k b a l d = body_asks f.many f fs rest b.0 refl e b.1 b.2 a l d
      where
        sealed : (K : List Next) → (many ≡ false) ⊎ D m.next_tag K → D m.next_tag (first_next many m.next_tag K)
        sealed K (inl e) = first_sealed many m.next_tag m.next_tag K e w.from (omega arith)
        sealed K (inr d) = first_up many m.next_tag m.next_tag K d

        body_asks : (every : Bool) (f : Frame) (fs : List Frame) (rest J : List Next) → f.many ≡ every → m.frames ≡ f ∷ fs → Reached code S t0 cs0 depth (B fs) f.next (cut_of fs).tag f.inner fs J → rest ≡ first_next f.many f.cut.tag J → A m.next_tag rest → L m.next_tag rest m.choices → (many ≡ false) ⊎ D m.next_tag rest → C (asks_last set t vs many every f fs m)
        body_asks true f fs rest J q e r is a l d =
            let same : rest ≡ J = is ∙ ap (λ x. first_next x f.cut.tag J) q in
            on_target t (call_of vs many f.next m) (record m { frames = fs; inner = f.inner }) J k r refl (subst (A m.next_tag) same a) (subst (λ K. L m.next_tag K m.choices) same l) (sealed J (subst (λ K. (many ≡ false) ⊎ D m.next_tag K) same d)) w
        body_asks false f fs rest J q e r is a l d =
            let reached : Reached code S t0 cs0 depth (B (f ∷ fs)) 0 f.cut.tag [] (f ∷ fs) rest = inr (record { goals = []; end = Returns; rest = rest; low = subst (λ xs. t0 ≤ (cut_of xs).tag) e low; stands = answers_at; below = (J, r, is); is = refl }) in
            on_target t (call_of vs many 0 m) (record m { inner = [] }) rest k (subst (λ xs. Reached code S t0 cs0 depth (B xs) 0 (cut_of xs).tag [] xs rest) (sym e) reached) refl a l (sealed rest d) w
