-- A query of a single predicate leaves no choice open behind its answer.
use Rattle.std.proofs.Common.{◌≡◌, ℕ, zero, suc, ◌+◌, ◌<◌, ◌≤◌, inl, inr, List, [], ◌∷◌, Bool, true, false, refl, sym, ap, ◌∙◌, subst, arith, length}
use Rattle.std.specs.Prelude.{if◌then◌else◌, ◌||◌, not}
use Rattle.dg_base.specs.declared.program.Goal.{Goal}
use Rattle.dg_base.specs.declared.run.Limits.{Limits}
use Rattle.dg_meaning.specs.Cells.{cells}
use Rattle.dg_meaning.specs.Values.{Value}
use Rattle.dg_meaning.specs.World.{Game, Gathering}
use Rattle.dg_meaning.specs.Sets.{is_in_set}
use Rattle.dg_single.specs.Singles.{IsClosed}
use Rattle.dg_mid.specs.declared.code.Op.{Op}
use Rattle.dg_mid.specs.declared.code.Op.TheVariants as op
use Rattle.dg_mid.specs.declared.code.Gathered.{Gathered}
use Rattle.dg_mid.specs.declared.code.Code.{Code}
use Rattle.dg_mid.specs.Actions.{found_at}
use Rattle.dg_mid.specs.Code.{block_at}
use Rattle.dg_mid.specs.Codes.{End, Commits, found_goals, found_end, Stands, returns, Others, last_list, more_lists, Codes}
use Rattle.dg_mid.specs.Reads.{AreBelow}
use Rattle.dg_mid.specs.Singles.{frames_behind, AsksIn, AnswersIn, OpenedSince, StaysIn, led, choices_in, IsAnswered}
use Rattle.dg_mid.specs.State.{Place, Frame, ToPred, Find, Way, Goes, Takes, Calls, Tries, Stop, Choice, Mid, Status, Runs, Enters, Resumes, Fails, Ended, cut_of, cut_choices, place_of, inner_for}
use Rattle.dg_mid.specs.Step.{Setting, setting, more, done, asks, call_of, asks_last, last, values}
use Rattle.dg_mid.specs.Step.{runs, returns as returns_to, returned, resumed, goes_on, goes_back, step, passed}
use Rattle.dg_mid.specs.Step.{taken_out, takes_newest, takes, trying, trying_cells, tries, new_choice}
use Rattle.dg_mid.proofs.Backs.{goes_plainly}
use Rattle.dg_mid.specs.Runs.{after}
use Rattle.dg_mid.specs.Trails.{StopsTrailed, ChoicesTrailed, MidTrailed, StatusTrailed}
use Rattle.dg_mid.proofs.Standing.{all_trailed}
use Rattle.dg_mid.proofs.Endings.{found_well, taken_well}
use Rattle.dg_mid.proofs.Rest.{Next, CutsTo, goals_next, end_next, first_next, SealedBy, goals_sealed, Sealed, Ahead, Left, ahead_up, left_into, body_ahead, left_cut_to, left_open}
use Rattle.dg_mid.proofs.Within.{Query, Reached, Behind, AtHand, OutAt, TriesAt, WayAt, PartsAt, Kept, base, WithinAt, InQuery, raised, hand_up, opened, deeper, newest}
use Rattle.dg_mid.proofs.SingleCalls.{at_hand, list_hand, on_charged, on_done, on_begins, on_entered, on_asked}
use Rattle.dg_mid.proofs.SingleGoals.{place_seals, on_list}
use Rattle.dg_mid.proofs.SingleRuns.{on_runs}

module _ (q : Query) where
  abbrev g : Game
  g = q.game

  abbrev code : Code
  code = q.code

  abbrev limits : Limits
  limits = q.limits

  abbrev S : List Bool
  S = q.set

  abbrev t0 : ℕ
  t0 = q.tag

  abbrev cs0 : List Choice
  cs0 = q.choices

  abbrev depth : ℕ
  depth = q.depth

  abbrev set : Setting
  set = setting g code limits

  abbrev C : Status → Type 0
  C s = InQuery code S t0 cs0 depth s

  abbrev W : ℕ → List Choice → List Stop → Type 0
  W u cs ss = WithinAt code S t0 cs0 depth u cs ss

  abbrev H : ℕ → List Op → List Frame → List Place → List Choice → Type 0
  H u ops fs inner cs = AtHand code S t0 cs0 depth u ops fs inner cs

  abbrev A : ℕ → List Next → Type 0
  A u K = Ahead S t0 cs0 u K

  abbrev L : ℕ → List Next → List Choice → Type 0
  L u K cs = Left S t0 cs0 u K cs

  abbrev D : ℕ → List Next → Type 0
  D u K = Sealed S t0 cs0 u K

  abbrev B : List Frame → List Next → Type 0
  B fs K = Behind code S t0 cs0 depth fs K

  abbrev Way-At : ℕ → Way → List Frame → List Place → List Choice → Type 0
  Way-At u way fs inner cs = WayAt code S t0 cs0 depth u way fs inner cs

  -- the steps of goals and of what comes behind them, in these frames
  abbrev next_in : List Frame → List Place → List Goal → End → List Next → List Next
  next_in fs inner goals end rest = goals_next (cut_of fs).tag goals (end_next end (cut_of fs).tag inner rest)

  -- ## Going on, and going back

  on_block : (b : ℕ) (m : Mid) → H m.next_tag (block_at code b) m.frames m.inner m.choices → W m.next_tag m.choices m.stops → C (resumed set (block_at code b) m)
  on_block b m h w = subst C (sym (goes_plainly set (block_at code b) h.hand.goals h.hand.end m h.hand.stands).0) (hand_up code S t0 cs0 depth m.next_tag (block_at code b) m.frames m.inner m.choices h, raised code S t0 cs0 depth m.next_tag m.choices m.stops w)

  module _ (b : ℕ) (m : Mid) (w : W m.next_tag m.choices m.stops) where
    on_lists : (lists : List (List Goal)) (goals : List Goal) (end : End) (rest : List Next) → Others code b lists goals end → B m.frames rest → t0 ≤ (cut_of m.frames).tag → (cut_of m.frames).tag ≤ m.next_tag → A m.next_tag (next_in m.frames m.inner goals end rest) → L m.next_tag (next_in m.frames m.inner goals end rest) m.choices → D m.next_tag (next_in m.frames m.inner goals end rest) → C (resumed set (block_at code b) m)
    on_lists lists goals end rest (last_list b' list goals' end' s) below' low high a l d =
        let T = (cut_of m.frames).tag in
        let u = m.next_tag in
        let K = next_in m.frames m.inner goals end rest in
        on_block b m (list_hand q u (block_at code b) m.frames m.inner m.choices list goals end rest s below' (body_ahead S t0 cs0 u T list K low high (inr d) a) (left_into S t0 cs0 u u K (goals_next T list K) m.choices (omega arith) (λ c z. goals_sealed c T list K z) l) low) w
    on_lists lists goals end rest (more_lists b' alt ops list second others goals' end' e s o) below' low high a l d =
        subst (λ k. C (resumed set k m)) (sym e)
        (on_list q alt (record m { ops = ops }) list goals end rest s below' low high d a l (inr (record { lists = second ∷ others; goals = goals; end = end; rest = rest; others = o; below = below'; low = low; high = high; ahead = a; left = l; seal = d })) w)

    on_goes : Way-At m.next_tag (Goes b) m.frames m.inner m.choices → C (resumed set (block_at code b) m)
    on_goes (inl h) = on_block b m h w
    on_goes (inr h) = on_lists h.lists h.goals h.end h.rest h.others h.below h.low h.high h.ahead h.left h.seal

  on_takes_newest : (whole : Gathered) (into : Value) (gs : List Gathering) (m : Mid) → C (Runs m) → C (takes_newest set whole into gs m)
  on_takes_newest whole into [] m h = h.1
  on_takes_newest whole into (x ∷ xs) m h =
      let m' = passed (record m { gathered = xs }) in
      on_done q (taken_out [] whole into x.values m') m' (taken_well whole into x.values m') h.0.hand.low (hand_up code S t0 cs0 depth m.next_tag m.ops m.frames m.inner m.choices h.0, raised code S t0 cs0 depth m.next_tag m.choices m.stops h.1)

  on_takes : (into : Value) (ops : List Op) (m : Mid) → OutAt code S t0 cs0 depth m.next_tag ops m.frames m.inner m.choices → W m.next_tag m.choices m.stops → C (takes set into ops m)
  on_takes into ops m h w = subst (λ k. C (takes set into k m)) (sym h.is) (on_takes_newest h.whole into m.gathered (record m { ops = h.after }) (h.behind, w))

  -- the code where an object is found
  found_code : (many : Bool) (u next : ℕ) (fs : List Frame) (inner : List Place) (cs : List Choice) (p : Place) (goals : List Goal) (end : End) (rest : List Next) → p.tag ≡ u → t0 ≤ u → t0 ≤ (cut_of fs).tag → Stands code (block_at code next) (found_goals many goals) (found_end many goals end) → B fs rest → A u (next_in fs inner goals end rest) →
      (many ≡ true → D u (next_in fs inner goals end rest)) → ((J : List Next) → ((c : ℕ) → SealedBy c (next_in fs inner goals end rest) → SealedBy c J) → D u J → L (u + 1) J cs) → H (u + 1) (block_at code next) fs (inner_for many p inner) cs
  found_code true u next fs inner cs p goals end rest e from low s b a d l =
      let K = next_in fs inner goals end rest in
      at_hand q (u + 1) (block_at code next) fs inner cs goals end rest s b (ahead_up S t0 cs0 u (u + 1) K (omega arith) a) (l K (λ c z. z) (d refl)) low
  found_code false u next fs inner cs p goals end rest e from low s b a d l =
      let K = next_in fs inner goals end rest in
      at_hand q (u + 1) (block_at code next) fs (p ∷ inner) cs [] (Commits goals end) rest s b (omega (arith, from, e), omega (arith, e), ahead_up S t0 cs0 u (u + 1) K (omega arith) a) (l (CutsTo p.tag ∷ K) (λ c z. inr z) (place_seals q p.tag u K (omega (arith, from, e)) (omega (arith, e)))) low

  on_trying : (x : Find) (os : List ℕ) (m : Mid) → TriesAt code S t0 cs0 depth m.next_tag x m.frames m.inner m.choices → W m.next_tag m.choices m.stops → C (Runs (trying set x os m))
  on_trying x [] m h w =
      let K = next_in m.frames m.inner h.goals h.end h.rest in
      (found_code x.many m.next_tag x.next m.frames m.inner m.choices (place_of m) h.goals h.end h.rest refl w.from h.low h.stands h.below h.ahead h.seal (λ J up d. left_into S t0 cs0 m.next_tag (m.next_tag + 1) K J m.choices (omega arith) up h.left), raised code S t0 cs0 depth m.next_tag m.choices m.stops w)
  on_trying x (o ∷ os) m h w =
      let K = next_in m.frames m.inner h.goals h.end h.rest in
      let n = new_choice (Tries x (o ∷ os)) m in
      (found_code x.many m.next_tag x.next m.frames m.inner (n ∷ m.choices) (place_of m) h.goals h.end h.rest refl w.from h.low h.stands h.below h.ahead h.seal (λ J up d. left_open S t0 cs0 m.next_tag K J n m.choices refl up d h.left), opened code S t0 cs0 depth (Tries x (o ∷ os)) m w (same x os h))
    where
      same : (x : Find) (os : List ℕ) → TriesAt code S t0 cs0 depth m.next_tag x m.frames m.inner m.choices → TriesAt code S t0 cs0 depth m.next_tag x m.frames m.inner m.choices
      same x os h = h

  on_tries : (x : Find) (os : List ℕ) (m : Mid) → TriesAt code S t0 cs0 depth m.next_tag x m.frames m.inner m.choices → W m.next_tag m.choices m.stops → C (tries set x os m)
  on_tries x [] m h w = w
  on_tries x (o ∷ os) m h w =
      let m' = trying set x os m in
      let t = on_trying x os m h w in
      on_charged q (trying_cells x os) m (done set (found_at [] x o m') m') (on_done q (found_at [] x o m') m' (found_well x o m') t.0.hand.low t)

  on_goes_on : (way : Way) (m : Mid) → Way-At m.next_tag way m.frames m.inner m.choices → W m.next_tag m.choices m.stops → C (goes_on set way m)
  on_goes_on (Goes b) m h w = on_goes b m w h
  on_goes_on (Takes b into) m h w = on_takes into (block_at code b) m h w
  on_goes_on (Calls call rules) m h w = on_begins q call m h.rest h.below h.cut h.ahead h.left w rules h.rules_are
  on_goes_on (Tries x os) m h w = on_tries x os m h w

  on_goes_back : (cs : List Choice) (m : Mid) → OpenedSince t0 cs → Kept code S t0 cs0 depth cs → C (goes_back cs m)
  on_goes_back [] m since k = absurd since
  on_goes_back (c ∷ cs) m since k = let x = newest code S t0 cs0 depth q.older c cs since k in (x.0, record { from = since; kept = x.2; parts = x.1 })

  -- ## A step that stays within the query

  pub on_step : (s : Status) → StaysIn t0 depth s → C s → C (step set s)
  on_step (Runs m) stays h =
      let x = h.0.hand in
      on_runs q m.ops x.goals x.end x.stands m x.rest stays.0 stays.1 x.low x.below (subst (A m.next_tag) x.is h.0.ahead) (subst (λ K. L m.next_tag K m.choices) x.is h.0.left) h.1
  on_step (Enters call m) stays h = on_entered q call m h.0 h.1
  on_step (Resumes way m) stays h = on_goes_on way m h.0 h.1
  on_step (Fails m) stays h = on_goes_back m.choices m stays h.kept
  on_step (Ended e) stays h = absurd stays

  -- ## The query and its answer

  in_set : (pred p : ℕ) (many : Bool) → p ≡ pred → is_in_set S pred ≡ true → (not many || is_in_set S p) ≡ true
  in_set pred p true e among = ap (is_in_set S) e ∙ among
  in_set pred p false e among = refl

  -- a last query of the set
  last_in : (p : ℕ) (vs : List Value) (many : Bool) (frames : List Frame) (m : Mid) → m.frames ≡ frames → frames_behind frames ≡ depth → (not many || is_in_set S p) ≡ true → m.choices ≡ cs0 → W m.next_tag m.choices m.stops → C (last set (ToPred p) vs many frames m)
  last_in p vs many [] m e d among same w =
      on_asked q p (call_of vs many 0 m) (record m { inner = [] }) [] (inl (ap length e ∙ d, refl)) refl tt (inl same) (inl among) w
  last_in p vs many (f ∷ fs) m e d among same w = asks_in f.many d
    where
      asks_in : (every : Bool) → (if every then length fs else length (f ∷ fs)) ≡ depth → C (asks_last set (ToPred p) vs many every f fs m)
      asks_in true d = on_asked q p (call_of vs many f.next m) (record m { frames = fs; inner = f.inner }) [] (inl (d, refl)) refl tt (inl same) (inl among) w
      asks_in false d = on_asked q p (call_of vs many 0 m) (record m { inner = [] }) [] (inl (ap length e ∙ d, refl)) refl tt (inl same) (inl among) w

  -- a query of the set, made here
  pub query_in : (pred : ℕ) (m : Mid) (ops : List Op) → is_in_set S pred ≡ true → m.choices ≡ cs0 → AsksIn pred depth m.frames ops → W m.next_tag m.choices m.stops → C (runs set ops m)
  query_in pred m (op.Ask p terms many next ∷ ops) among same made w =
      let m0 : Mid = record m { ops = ops } in
      let k = cells g.program terms in
      let c = call_of (values set m0 terms) many next (more k m0) in
      on_charged q k m0 (asks set p c (more k m0)) (on_asked q p c (more k m0) [] (inl (made.1, refl)) refl tt (inl same) (inl (in_set pred p many made.0 among)) w)
  query_in pred m (op.LastAsk p terms many ∷ ops) among same made w =
      let m0 : Mid = record m { ops = ops } in
      let k = cells g.program terms in
      let vs = values set m0 terms in
      on_charged q k m0 (last set (ToPred p) vs many m.frames (more k m0)) (last_in p vs many m.frames (more k m0) refl made.1 (in_set pred p many made.0 among) same w)
  query_in pred m _ among same made w = absurd made

  -- where nothing is left, no choice is
  none_left : (u : ℕ) (cs : List Choice) → L u [] cs → cs ≡ cs0
  none_left u cs (inl e) = e
  none_left u cs (inr h) = absurd h.by

  answered : (every : Bool) (f : Frame) (fs : List Frame) (m : Mid) → A m.next_tag (first_next every f.cut.tag []) → L m.next_tag (first_next every f.cut.tag []) m.choices → (returned set every f fs m).choices ≡ cs0
  answered true f fs m a l = none_left m.next_tag m.choices l
  answered false f fs m a l = none_left m.next_tag (cut_choices f.cut m.choices) (left_cut_to S t0 cs0 q.older m.next_tag [] m.choices f.cut a.0 l)

  -- what the answering rule has behind it
  answers_it : (f : Frame) (fs : List Frame) (m : Mid) (K : List Next) → length fs ≡ depth → B (f ∷ fs) K → A m.next_tag K → L m.next_tag K m.choices → (returned set f.many f fs m).choices ≡ cs0
  answers_it f fs m K e b a l = by_what b.1
    where
      by_what : Reached code S t0 cs0 depth (B fs) f.next (cut_of fs).tag f.inner fs b.0 → (returned set f.many f fs m).choices ≡ cs0
      by_what (inl h) =
          let is = b.2 ∙ ap (first_next f.many f.cut.tag) h.1 in
          answered f.many f fs m (subst (A m.next_tag) is a) (subst (λ J. L m.next_tag J m.choices) is l)
      by_what (inr h) = let d = deeper code S t0 cs0 depth fs h.rest h.below in absurd (omega (arith, d, e))

  -- its last rule is answered
  returns_it : (frames : List Frame) (m : Mid) (K : List Next) (ops : List Op) → AnswersIn depth frames (op.Return ∷ ops) → B frames K → A m.next_tag K → L m.next_tag K m.choices → choices_in (returns_to set frames m) ≡ cs0
  returns_it [] m K ops e b a l = absurd e
  returns_it (f ∷ fs) m K ops e b a l = answers_it f fs m K e b a l

  return_is : (ops : List Op) (goals : List Goal) (end : End) → Stands code ops goals end → (m : Mid) (rest : List Next) → AnswersIn depth m.frames ops → B m.frames rest → A m.next_tag (next_in m.frames m.inner goals end rest) → L m.next_tag (next_in m.frames m.inner goals end rest) m.choices → choices_in (runs set ops m) ≡ cs0
  return_is ops goals end (returns others) m rest e b a l = returns_it m.frames (record m { ops = others }) rest others e b a l
  return_is ops goals end s m rest e b a l = absurd e

  pub answer_leaves : (m : Mid) → AnswersIn depth m.frames m.ops → C (Runs m) → choices_in (step set (Runs m)) ≡ cs0
  answer_leaves m e h =
      let x = h.0.hand in
      return_is m.ops x.goals x.end x.stands m x.rest e x.below (subst (A m.next_tag) x.is h.0.ahead) (subst (λ K. L m.next_tag K m.choices) x.is h.0.left)

-- ## Whole runs

-- the choices that are open are older than the next
choices_below : (t r : ℕ) (cs : List Choice) → ChoicesTrailed t r cs → AreBelow t cs
choices_below t r [] h = tt
choices_below t r (c ∷ cs) h = h.0

module _ (g : Game) (code : Code) (limits : Limits) (codes : Codes g.program code) (S : List Bool) (closed : IsClosed g.program.preds S) (m : Mid) (trailed : MidTrailed m) (depth : ℕ) where
  -- the query that is made here
  abbrev made : Query
  made = record { game = g; code = code; limits = limits; codes = codes; set = S; closed = closed; tag = m.next_tag; choices = m.choices; older = choices_below m.next_tag m.state.trail m.choices trailed.1; depth = depth }

  parts_before : (t r : ℕ) (cs : List Choice) (ss : List Stop) → t ≤ m.next_tag → StopsTrailed t r cs ss → PartsAt code S m.next_tag m.choices depth t m.choices ss
  parts_before t r cs [] le h = tt
  parts_before t r cs (s ∷ ss) le h = let x = h.0 in (x, inl (omega (arith, x, le)), parts_before s.place.tag s.state.trail cs ss (omega (arith, x, le)) h.3)

  at_query : WithinAt code S m.next_tag m.choices depth m.next_tag m.choices m.stops
  at_query = record { from = omega arith; kept = base m.choices refl; parts = parts_before m.next_tag m.state.trail m.choices m.stops (omega arith) trailed.0 }

  abbrev here : Setting
  here = setting g code limits

  stays_in : (pred : ℕ) → is_in_set S pred ≡ true → AsksIn pred depth m.frames m.ops → (i : ℕ) → ((j : ℕ) → j < i → StaysIn m.next_tag depth (led here j (step here (Runs m)))) → InQuery code S m.next_tag m.choices depth (led here i (step here (Runs m)))
  stays_in pred among asks zero stays = query_in made pred m m.ops among refl asks at_query
  stays_in pred among asks (suc i) stays = on_step made (led here i (step here (Runs m))) (stays i (omega arith)) (stays_in pred among asks i (λ j lt. stays j (omega (arith, lt))))

  leaves_none : (pred : ℕ) → is_in_set S pred ≡ true → AsksIn pred depth m.frames m.ops → (steps : ℕ) → ((j : ℕ) → j < steps → StaysIn m.next_tag depth (led here j (step here (Runs m)))) → (answer : Mid) → led here steps (step here (Runs m)) ≡ Runs answer → AnswersIn depth answer.frames answer.ops → choices_in (step here (Runs answer)) ≡ m.choices
  leaves_none pred among asks steps stays answer there answers =
      answer_leaves made answer answers (subst (InQuery code S m.next_tag m.choices depth) there (stays_in pred among asks steps stays))

pub single_leaves : (g : Game) (code : Code) (limits : Limits) → Codes g.program code → (S : List Bool) → IsClosed g.program.preds S → (typed : List ℕ) (k : ℕ) (pred : ℕ) (m : Mid) (steps : ℕ) (answer : Mid) →
    is_in_set S pred ≡ true → (after (setting g code limits) typed k).now ≡ Runs m → IsAnswered (setting g code limits) pred m steps answer → choices_in (step (setting g code limits) (Runs answer)) ≡ m.choices
single_leaves g code limits codes S closed typed k pred m steps answer among is h =
    let set = setting g code limits in
    leaves_none g code limits codes S closed m (subst StatusTrailed is (all_trailed set typed k)) h.depth pred among h.asks steps h.stays answer h.there h.answers
