-- Arguments are unified with the terms of a rule's head, one after another, up to a clash.
use Rattle.std.proofs.Common.{◌≡◌, ◌≢◌, ℕ, zero, suc, ◌+◌, ◌-◌, ◌*◌, ◌<◌, ◌≤◌, Bool, true, false, List, [], ◌∷◌, ◌++◌, Some, inl, inr, length, refl, sym, ap, ◌∙◌, subst, arith, append_assoc}
use Rattle.std.specs.Prelude.{max}
use Rattle.std.specs.List.{zip}
use Rattle.std.proofs.lemmas.Bool.{cases_lt}
use Rattle.dg_base.specs.declared.run.Ending.TheVariants.{TrailLimit}
use Rattle.dg_meaning.specs.Values.{Value}
use Rattle.dg_meaning.specs.Substitutions.{Substitution}
use Rattle.dg_meaning.specs.Letters.{compared}
use Rattle.dg_meaning.specs.Unify.{agreed, Unified, Equations, solve, counted, top_of_pairs}
use Rattle.dg_meaning.specs.inside.Unify.{unify, and_then}
use Rattle.dg_meaning.proofs.Bindings.{solve_below}
use Rattle.dg_meaning.proofs.UnifyLaws.{solve_first, solve_nothing}
use Rattle.dg_meaning.proofs.Solving.{solve_extends}
use Rattle.dg_mid.specs.State.{Mid}
use Rattle.dg_mid.specs.Step.{bound, trail_more}
use Rattle.z_model.specs.declared.end.Halt.TheVariants.{AtQuit}
use Rattle.z_lang.specs.declared.act.Act.{Act}
use Rattle.z_lang.specs.State.{State}
use Rattle.z_lang.specs.Runs.{ActsRun, ActsOutcome, Stops, calls, calls_last}
use Rattle.dg_rt.specs.declared.rules.TheConstants.{MATCH_ACTS}
use Rattle.dg_rt.specs.declared.heads.TheConstants.{TAKE_ACTS}
use Rattle.dg_rt.specs.inside.Walks.{steps}
use Rattle.dg_rt.specs.Cells.{Holds, bit}
use Rattle.dg_rt.specs.Areas.{state}
use Rattle.dg_rt.specs.Shapes.{Shape}
use Rattle.dg_rt.specs.RunTime.{routine_of, HasRunTime}
use Rattle.dg_rt.specs.Unifies.{price}
use Rattle.dg_rt.specs.Closings.{closing, closing_most}
use Rattle.dg_rt.specs.Rules.{Matches as MatchesOne}
use Rattle.dg_rt.proofs.Backs.{grown_none}
use Rattle.dg_rt.proofs.Binding.{trail_append}
use Rattle.dg_rt.proofs.Compared.{compared_then, compared_append}
use Rattle.dg_rt.proofs.Following.{register}
use Rattle.dg_rt.proofs.Matching.{match_works}
use Rattle.dg_rt.proofs.Takes.{take_works}
use Rattle.dg_rt.proofs.UnifySteps.{steps_are}
use Rattle.dg_turn.specs.Told.{Telling}
use Rattle.dg_turn.specs.Lies.{MidIn}
use Rattle.dg_turn.specs.Turns.{unifying_acts, match_acts}
use Rattle.dg_turn.proofs.Argument.{One, one, one_full}
use Rattle.dg_turn.proofs.Standing.{match_at, take_at}
use Rattle.dg_turn.proofs.Suiting.{AreMatchers, stands, Suits, Then, AllSuit, matching, matching_length, matching_are, matching_acts, matching_suits}
use Rattle.dg_turn.proofs.Rows.{InRegisters, regs_stay}
use Rattle.dg_turn.proofs.Unified.{more_is, setting, moment}

-- ## One after another

-- What a machine's trail has behind bindings on bindings.
trail_then : (m : Mid) (u v : Unified) (made more : Substitution) → u.subst ≡ made ++ m.state.subst → v.subst ≡ more ++ u.subst → trail_more (bound u m).state v ≡ trail_more m.state v
trail_then m u v made more is then =
    let a = more_is m.state u made is in
    let b = more_is (bound u m).state v more then in
    let both : v.subst ≡ (more ++ made) ++ m.state.subst = then ∙ ap (λ (l : Substitution). more ++ l) is ∙ sym (append_assoc more made m.state.subst) in
    let d = more_is m.state v (more ++ made) both in
    let e = trail_append m.state.since more made in
    omega arith

-- a machine with bindings on bindings
bound_then : (m : Mid) (u v : Unified) → trail_more (bound u m).state v ≡ trail_more m.state v → bound v (bound u m) ≡ bound v m
bound_then m u v e = ap (λ (n : ℕ). record m { state = record m.state { subst = v.subst; trail = n } }) e

-- Acts went on behind the matches: whether values have clashed is told, and memory stands for the machine with what was bound.
pub record Matched (t : Telling) (outer : ℕ → ℕ) (f w : ℕ) (body rest all : List Act) (sh : Shape) (memory typed output : List ℕ) (drawn : ℕ) (c : ℕ → ℕ) (m : Mid) (u : Unified) (most : ℕ) : Type 0 where
  pub memory' : List ℕ
  pub cells' : ℕ → ℕ
  pub trail' : List ℕ
  pub holds : Holds t.p.world.layout memory' cells'
  pub mid : MidIn t outer sh cells' trail' (bound u m)
  pub clash : cells' 13 ≡ 1 - bit u.agrees
  pub others : (k : ℕ) → k ≢ 1 → k ≢ 13 → k < 303 → cells' k ≡ c k
  pub count : ℕ
  pub few : count ≤ most
  pub runs : (o : ActsOutcome) (s' : State) (k : ℕ) → ActsRun t.p f w body rest (state memory' [] typed drawn output) o s' k → ActsRun t.p f w body all (state memory [] typed drawn output) o s' (steps count k)

-- Or the trail's limit has ended the run.
pub record Full (t : Telling) (f w : ℕ) (body all : List Act) (memory typed output : List ℕ) (drawn : ℕ) (c : ℕ → ℕ) (most : ℕ) : Type 0 where
  pub memory' : List ℕ
  pub locals' : List ℕ
  pub count : ℕ
  pub few : count ≤ most + closing_most
  pub runs : ActsRun t.p f w body all (state memory [] typed drawn output) (Stops AtQuit) (state memory' locals' typed drawn (output ++ closing (c 28) TrailLimit)) count

-- Both, by what the bindings take of the trail.
pub record Goes (t : Telling) (outer : ℕ → ℕ) (f w : ℕ) (body rest all : List Act) (sh : Shape) (memory typed output : List ℕ) (drawn : ℕ) (c : ℕ → ℕ) (m : Mid) (u : Unified) (most : ℕ) : Type 0 where
  pub matched : trail_more m.state u ≤ 2000 → Matched t outer f w body rest all sh memory typed output drawn c m u most
  pub full : 2000 < trail_more m.state u → Full t f w body all memory typed output drawn c most

module _ (t : Telling) (outer : ℕ → ℕ) (has : HasRunTime t.p) (f w : ℕ) (frames_left : 3400 ≤ f) (words_left : 16700 ≤ w) (sh : Shape) (typed output : List ℕ) (drawn : ℕ) (body rest : List Act) where
  abbrev now : List ℕ → State
  now memory = state memory [] typed drawn output

  -- where two have clashed nothing more is done
  all_skip : (n v x : ℕ) (rs : List ℕ) (memory : List ℕ) (c : ℕ → ℕ) → length rs ≡ n → AreMatchers rs → Holds t.p.world.layout memory c → 16 ≤ v → v + n ≤ 240 → 16 ≤ x → x + n ≤ 240 → c 13 ≢ 0 → (o : ActsOutcome) (s' : State) (k : ℕ) → ActsRun t.p f w body rest (now memory) o s' k → ActsRun t.p f w body (unifying_acts v x rs ++ rest) (now memory) o s' (steps (3 * n) k)
  all_skip zero v x [] memory c e are h lv hv lx hx clash o s' k r = r
  all_skip zero v x (_ ∷ rs) memory c e are h lv hv lx hx clash o s' k r = absurd (omega arith)
  all_skip (suc n) v x [] memory c e are h lv hv lx hx clash o s' k r = absurd (omega arith)
  all_skip (suc n) v x (q ∷ rs) memory c e are h lv hv lx hx clash o s' k r =
      let high = has.mapped.room in
      let st = stands t.p has q are.0 in
      let a = c (v - 16) in
      let b = c (x - 16) in
      let more = all_skip n (suc v) (suc x) rs memory c (omega arith) are.1 h (omega arith) (omega arith) (omega arith) (omega arith) clash o s' k r in
      let e1 = steps_are (3 * n) k in
      let e2 = steps_are (3 * suc n) k in
      let sum : suc 2 + steps (3 * n) k ≡ steps (3 * suc n) k = omega arith in
      subst (ActsRun t.p f w body (unifying_acts v x (q ∷ rs) ++ rest) (now memory) o s') sum
      (calls {f' = 0} {w' = 0} {n = 2} {n' = steps (3 * n) k} {xs = (a, b, 0)} refl (rw (register t.p (now memory) c v h lv (omega arith) (omega arith), register t.p (now memory) c x h lx (omega arith) (omega arith)) refl) st.at (omega arith) (omega arith)
      (st.skips t.p has.mapped 0 0 memory typed output drawn a b c h clash) refl more)

  no_more : (S : Substitution) (m : Mid) → m.state.subst ≡ S → trail_more m.state (agreed S) ≡ m.state.trail
  no_more S m e = let r = more_is m.state (agreed S) [] (sym e) in omega arith

  -- What unifying so many costs.
  abbrev cost : Substitution → Equations → ℕ → ℕ
  cost S es n = price S es + 6 * n

  -- So it is with all, from whatever memory stands for a machine.
  abbrev Others : ℕ → List ℕ → ℕ → ℕ → ℕ → List Value → List Value → Type 0
  Others n rs v x low xs ys = (memory : List ℕ) (c : ℕ → ℕ) (trail : List ℕ) (m : Mid) → Holds t.p.world.layout memory c → MidIn t outer sh c trail m → c 13 ≡ 0 → m.state.since ≤ low → top_of_pairs m.state.subst ≤ low → InRegisters sh c (v - 16) xs → InRegisters sh c (x - 16) ys →
      Goes t outer f w body rest (unifying_acts v x rs ++ rest) sh memory typed output drawn c m (solve m.state.subst (zip xs ys)) (cost m.state.subst (zip xs ys) n)

  module _ (n v x : ℕ) (q : ℕ) (rs : List ℕ) (low : ℕ) (memory : List ℕ) (c : ℕ → ℕ) (trail : List ℕ) (m : Mid) (a b : Value) (xs ys : List Value) (er : length rs ≡ n) (ex : length xs ≡ n) (ey : length ys ≡ n) (are : AreMatchers rs) (h : Holds t.p.world.layout memory c) (mid : MidIn t outer sh c trail m)
      (lv : 30 ≤ v) (hv : v + suc n ≤ 240) (lx : 30 ≤ x) (hx : x + suc n ≤ 240) (young : m.state.since ≤ low) (below : top_of_pairs m.state.subst ≤ low) (rx : InRegisters sh c (v - 16) (a ∷ xs)) (ry : InRegisters sh c (x - 16) (b ∷ ys)) (next : Then low a b (λ high. Others n rs (suc v) (suc x) high xs ys))
      (acts : List Act) (at : t.p.routine_at (t.p.names.routine q) ≡ Some (routine_of 4 acts)) (ends : MatchesOne acts (setting t has sh memory typed output drawn c trail m h mid) memory (c (v - 16)) (c (x - 16)) (price m.state.subst ((a, b) ∷ [])) (unify m.state.subst a b)) where
    abbrev S : Substitution
    S = m.state.subst

    abbrev es : Equations
    es = zip xs ys

    abbrev u : Unified
    u = unify S a b

    abbrev first_most : ℕ
    first_most = price S ((a, b) ∷ [])

    letters_are : compared S ((a, b) ∷ es) ≡ compared S ((a, b) ∷ []) + compared_then u es
    letters_are = compared_append S ((a, b) ∷ []) es mid.state.stands.sound

    abbrev all : List Act
    all = unifying_acts v x (q ∷ rs) ++ rest

    high : 24694 ≤ t.p.world.layout.base
    high = let room = has.mapped.room in omega arith

    abbrev OneHere : Type 0
    OneHere = One t outer sh acts memory typed output drawn (c (v - 16)) (c (x - 16)) c m u first_most

    -- the call of the first
    first_call : (r : OneHere) → (o : ActsOutcome) (s' : State) (k : ℕ) → ActsRun t.p f w body (unifying_acts (suc v) (suc x) rs ++ rest) (now r.memory') o s' k → ActsRun t.p f w body all (now memory) o s' (suc r.count + k)
    first_call r o s' k rest' = let base = high in calls {f' = 3337} {w' = 16685} {n = r.count} {n' = k} {xs = (c (v - 16), c (x - 16), 0)} refl (rw (register t.p (now memory) c v h (omega arith) (omega arith) (omega arith), register t.p (now memory) c x h (omega arith) (omega arith) (omega arith)) refl) at (omega arith) (omega arith) r.runs refl rest'

    abbrev first : trail_more m.state u ≤ 2000 → OneHere
    first few = one t outer has sh acts memory typed output drawn c trail m h mid (c (v - 16)) (c (x - 16)) a b ends few

    -- the first passes the trail's limit
    first_full : (most : ℕ) → first_most + 6 ≤ most → 2000 < trail_more m.state u → Full t f w body all memory typed output drawn c most
    first_full most le over =
        let base = high in
        let r = one_full t outer has sh acts memory typed output drawn c trail m h mid (c (v - 16)) (c (x - 16)) a b ends over in
        let few = r.few in
        record {
          memory' = r.memory';
          locals' = r.locals';
          count = suc r.count;
          few = omega arith;
          runs = calls_last {f' = 3337} {w' = 16685} {n = r.count} {xs = (c (v - 16), c (x - 16), 0)} refl (rw (register t.p (now memory) c v h (omega arith) (omega arith) (omega arith), register t.p (now memory) c x h (omega arith) (omega arith) (omega arith)) refl) at (omega arith) (omega arith) r.runs;
        }

    -- the first clashes
    first_clashes : u.agrees ≡ false → Goes t outer f w body rest all sh memory typed output drawn c m u (15 * u.count + 8 * compared S ((a, b) ∷ es) + 6 * suc n)
    first_clashes e = record {
      matched = λ few.
          let sum = letters_are in
          let r = first few in
          let one_is : r.cells' 13 ≡ 1 = r.clash ∙ ap (λ (g : Bool). 1 - bit g) e in
          let few' = r.few in
          record {
            memory' = r.memory';
            cells' = r.cells';
            trail' = r.trail';
            holds = r.holds;
            mid = r.mid;
            clash = r.clash;
            others = r.others;
            count = suc r.count + 3 * n;
            few = omega arith;
            runs = λ o s' k r'.
                let d = all_skip n (suc v) (suc x) rs r.memory' r.cells' er are r.holds (omega arith) (omega arith) (omega arith) (omega arith) (λ (q : r.cells' 13 ≡ 0). (omega arith)) o s' k r' in
                let e1 = steps_are (3 * n) k in
                let e2 = steps_are (suc r.count + 3 * n) k in
                let sum' : suc r.count + steps (3 * n) k ≡ steps (suc r.count + 3 * n) k = omega arith in
                subst (ActsRun t.p f w body all (now memory) o s') sum' (first_call r o s' (steps (3 * n) k) d);
          };
      full = λ over. let sum = letters_are in first_full (15 * u.count + 8 * compared S ((a, b) ∷ es) + 6 * suc n) (omega arith) over;
    }

    -- the first agrees, and the others come behind it
    first_agrees : u.agrees ≡ true → Goes t outer f w body rest all sh memory typed output drawn c m (counted u.count (solve u.subst es)) (15 * (u.count + (solve u.subst es).count) + 8 * compared S ((a, b) ∷ es) + 6 * suc n)
    first_agrees e =
        let sum : compared S ((a, b) ∷ es) ≡ compared S ((a, b) ∷ []) + compared u.subst es = letters_are ∙ rw e refl in
        let v2 = solve u.subst es in
        let under = solve_below next.high S ((a, b) ∷ []) mid.state.stands.sound (let le = next.more in omega arith) (let ta = next.argument in let tb = next.term in omega arith) in
        let young' : m.state.since ≤ next.high = (let le = next.more in omega arith) in
        let grew = solve_extends S ((a, b) ∷ []) mid.state.stands.sound in
        let grew' = solve_extends u.subst es grew.sound in
        let then = trail_then m u v2 grew.made grew'.made grew.is grew'.is in
        let first_trail = more_is m.state u grew.made grew.is in
        let second_trail = more_is (bound u m).state v2 grew'.made grew'.is in
        let go : (fit : trail_more m.state u ≤ 2000) → Goes t outer f w body rest (unifying_acts (suc v) (suc x) rs ++ rest) sh (first fit).memory' typed output drawn (first fit).cells' (bound u m) v2 (cost u.subst es n) = λ fit.
        let r = first fit in
        let zero_is : r.cells' 13 ≡ 0 = r.clash ∙ ap (λ (g : Bool). 1 - bit g) e in
        let nv : suc v - 16 ≡ suc (v - 16) = omega arith in
        let nx : suc x - 16 ≡ suc (x - 16) = omega arith in
        let rx' = subst (λ (k : ℕ). InRegisters sh r.cells' k xs) (sym nv) (regs_stay sh sh c r.cells' (grown_none sh) (suc (v - 16)) xs (λ j low lt. r.others j (λ q. (omega arith)) (λ q. (omega arith)) (omega arith)) rx.1) in
        let ry' = subst (λ (k : ℕ). InRegisters sh r.cells' k ys) (sym nx) (regs_stay sh sh c r.cells' (grown_none sh) (suc (x - 16)) ys (λ j low lt. r.others j (λ q. (omega arith)) (λ q. (omega arith)) (omega arith)) ry.1) in
        next.others r.memory' r.cells' r.trail' (bound u m) r.holds r.mid zero_is young' under rx' ry' in
        record {
          matched = λ few.
              let fit : trail_more m.state u ≤ 2000 = omega arith in
              let r = first fit in
              let o = (go fit).matched (omega arith) in
              let few1 = r.few in
              let few2 = o.few in
              record {
                memory' = o.memory';
                cells' = o.cells';
                trail' = o.trail';
                holds = o.holds;
                mid = subst (MidIn t outer sh o.cells' o.trail') (bound_then m u v2 then) o.mid;
                clash = o.clash;
                others = λ k n1 n13 low. o.others k n1 n13 low ∙ r.others k n1 n13 low;
                count = suc r.count + o.count;
                few = omega arith;
                runs = λ out s' k r'.
                    let e1 = steps_are o.count k in
                    let e2 = steps_are (suc r.count + o.count) k in
                    let sum' : suc r.count + steps o.count k ≡ steps (suc r.count + o.count) k = omega arith in
                    subst (ActsRun t.p f w body all (now memory) out s') sum' (first_call r out s' (steps o.count k) (o.runs out s' k r'));
              };
          full = λ over. elim (cases_lt 2000 (trail_more m.state u)) [
            | inl lt ↦ first_full (15 * (u.count + v2.count) + 8 * compared S ((a, b) ∷ es) + 6 * suc n) (omega arith) lt
            | inr ge ↦
                let r = first ge in
                let o = (go ge).full (omega arith) in
                let few1 = r.few in
                let few2 = o.few in
                record {
                  memory' = o.memory';
                  locals' = o.locals';
                  count = suc r.count + o.count;
                  few = omega arith;
                  runs = subst (λ (i : ℕ). ActsRun t.p f w body all (now memory) (Stops AtQuit) (state o.memory' o.locals' typed drawn (output ++ closing i TrailLimit)) (suc r.count + o.count)) (r.others 28 (λ q. (omega arith)) (λ q. (omega arith)) (omega arith))
                      (first_call r (Stops AtQuit) (state o.memory' o.locals' typed drawn (output ++ closing (r.cells' 28) TrailLimit)) o.count o.runs);
                }
          ];
        }

    by_answer : (agrees : Bool) → u.agrees ≡ agrees → solve S ((a, b) ∷ es) ≡ and_then u (λ S'. solve S' es) → Goes t outer f w body rest all sh memory typed output drawn c m (solve S ((a, b) ∷ es)) (cost S ((a, b) ∷ es) (suc n))
    by_answer false e is =
        let q : solve S ((a, b) ∷ es) ≡ u = is ∙ rw e refl in
        subst (λ (z : Unified). Goes t outer f w body rest all sh memory typed output drawn c m z (15 * z.count + 8 * compared S ((a, b) ∷ es) + 6 * suc n)) (sym q) (first_clashes e)
    by_answer true e is =
        let q : solve S ((a, b) ∷ es) ≡ counted u.count (solve u.subst es) = is ∙ rw e refl in
        subst (λ (z : Unified). Goes t outer f w body rest all sh memory typed output drawn c m z (15 * z.count + 8 * compared S ((a, b) ∷ es) + 6 * suc n)) (sym q) (first_agrees e)

    pub all_unified : Goes t outer f w body rest all sh memory typed output drawn c m (solve S ((a, b) ∷ es)) (cost S ((a, b) ∷ es) (suc n))
    all_unified = by_answer u.agrees refl (solve_first S (a, b) es mid.state.stands.sound)

  unify_one : (n v x : ℕ) (q : ℕ) (rs : List ℕ) (low : ℕ) (memory : List ℕ) (c : ℕ → ℕ) (trail : List ℕ) (m : Mid) (a b : Value) (xs ys : List Value) → length rs ≡ n → length xs ≡ n → length ys ≡ n → AreMatchers rs → (h : Holds t.p.world.layout memory c) (mid : MidIn t outer sh c trail m) → c 13 ≡ 0 →
      30 ≤ v → v + suc n ≤ 240 → 30 ≤ x → x + suc n ≤ 240 → m.state.since ≤ low → top_of_pairs m.state.subst ≤ low → InRegisters sh c (v - 16) (a ∷ xs) → InRegisters sh c (x - 16) (b ∷ ys) → Suits low q a b → Then low a b (λ high. Others n rs (suc v) (suc x) high xs ys) →
      Goes t outer f w body rest (unifying_acts v x (q ∷ rs) ++ rest) sh memory typed output drawn c m (solve m.state.subst ((a, b) ∷ zip xs ys)) (cost m.state.subst ((a, b) ∷ zip xs ys) (suc n))
  unify_one n v x q rs low memory c trail m a b xs ys er ex ey are h mid none lv hv lx hx young below rx ry (inl e) next =
      all_unified n v x q rs low memory c trail m a b xs ys er ex ey are h mid lv hv lx hx young below rx ry next MATCH_ACTS
      (subst (λ (k : ℕ). t.p.routine_at (t.p.names.routine k) ≡ Some (routine_of 4 MATCH_ACTS)) (sym e) (match_at t.p has))
      (match_works.matches (setting t has sh memory typed output drawn c trail m h mid) m.state.subst (moment t has sh memory typed output drawn c trail m h mid) (c (v - 16)) (c (x - 16)) a b rx.0 ry.0 none)
  unify_one n v x q rs low memory c trail m a b xs ys er ex ey are h mid none lv hv lx hx young below rx ry (inr e) next =
      all_unified n v x q rs low memory c trail m a b xs ys er ex ey are h mid lv hv lx hx young below rx ry next TAKE_ACTS
      (subst (λ (k : ℕ). t.p.routine_at (t.p.names.routine k) ≡ Some (routine_of 4 TAKE_ACTS)) (sym e.0) (take_at t.p has))
      (take_works.takes (setting t has sh memory typed output drawn c trail m h mid) m.state.subst (moment t has sh memory typed output drawn c trail m h mid) (c (v - 16)) (c (x - 16)) a b rx.0 ry.0 none
      (record { low = low; high = e.1.high; young = young; bound = below; argument = e.1.argument; term = e.1.term }))

  -- Arguments and terms are unified by routines that suit them.
  pub unifies : (n v x : ℕ) (rs : List ℕ) (low : ℕ) (memory : List ℕ) (c : ℕ → ℕ) (trail : List ℕ) (m : Mid) (xs ys : List Value) → length rs ≡ n → length xs ≡ n → length ys ≡ n → AreMatchers rs → AllSuit low rs xs ys → Holds t.p.world.layout memory c → MidIn t outer sh c trail m → c 13 ≡ 0 → 30 ≤ v → v + n ≤ 240 → 30 ≤ x → x + n ≤ 240 →
      m.state.since ≤ low → top_of_pairs m.state.subst ≤ low → InRegisters sh c (v - 16) xs → InRegisters sh c (x - 16) ys →
      Goes t outer f w body rest (unifying_acts v x rs ++ rest) sh memory typed output drawn c m (solve m.state.subst (zip xs ys)) (cost m.state.subst (zip xs ys) n)
  unifies zero v x [] low memory c trail m [] ys er ex ey are suit h mid none lv hv lx hx young below rx ry =
      let S = m.state.subst in
      let few = mid.state.few_trail in
      let same = no_more S m refl in
      subst (λ (u : Unified). Goes t outer f w body rest rest sh memory typed output drawn c m u (cost S [] 0)) (sym (solve_nothing S)) (record {
        matched = λ fit. record {
          memory' = memory;
          cells' = c;
          trail' = trail;
          holds = h;
          mid = subst (λ (n : ℕ). MidIn t outer sh c trail (record m { state = record m.state { trail = n } })) (sym same) mid;
          clash = none;
          others = λ k n1 n13 low. refl;
          count = 0;
          few = omega arith;
          runs = λ o s' k r. r;
        };
        full = λ over. absurd (omega arith);
      })
  unifies zero v x (q ∷ rs) low memory c trail m xs ys er ex ey are suit h mid none lv hv lx hx young below rx ry = absurd (omega arith)
  unifies zero v x [] low memory c trail m (a ∷ xs) ys er ex ey are suit h mid none lv hv lx hx young below rx ry = absurd (omega arith)
  unifies (suc n) v x [] low memory c trail m xs ys er ex ey are suit h mid none lv hv lx hx young below rx ry = absurd (omega arith)
  unifies (suc n) v x (q ∷ rs) low memory c trail m [] ys er ex ey are suit h mid none lv hv lx hx young below rx ry = absurd (omega arith)
  unifies (suc n) v x (q ∷ rs) low memory c trail m (a ∷ xs) [] er ex ey are suit h mid none lv hv lx hx young below rx ry = absurd (omega arith)
  unifies (suc n) v x (q ∷ rs) low memory c trail m (a ∷ xs) (b ∷ ys) er ex ey are suit h mid none lv hv lx hx young below rx ry =
      let next = suit.1 in
      unify_one n v x q rs low memory c trail m a b xs ys (omega arith) (omega arith) (omega arith) are.1 h mid none lv hv lx hx young below rx ry suit.0 (record {
        high = next.high;
        more = next.more;
        argument = next.argument;
        term = next.term;
        others = λ memory1 c1 trail1 m1 h1 mid1 none1 young1 below1 rx1 ry1. unifies n (suc v) (suc x) rs next.high memory1 c1 trail1 m1 xs ys (omega arith) (omega arith) (omega arith) are.1 next.others h1 mid1 none1 (omega arith) (omega arith) (omega arith) (omega arith) young1 below1 rx1 ry1;
      })

  -- where two have clashed nothing more is done
  pub skips : (n v x : ℕ) (memory : List ℕ) (c : ℕ → ℕ) → Holds t.p.world.layout memory c → 16 ≤ v → v + n ≤ 240 → 16 ≤ x → x + n ≤ 240 → c 13 ≢ 0 → (o : ActsOutcome) (s' : State) (k : ℕ) → ActsRun t.p f w body rest (now memory) o s' k → ActsRun t.p f w body (match_acts v x n ++ rest) (now memory) o s' (steps (3 * n) k)
  skips n v x memory c h lv hv lx hx clash o s' k r =
      subst (λ (l : List Act). ActsRun t.p f w body (l ++ rest) (now memory) o s' (steps (3 * n) k)) (matching_acts n v x)
      (all_skip n v x (matching n) memory c (matching_length n) (matching_are n) h lv hv lx hx clash o s' k r)

  pub matches : (n v x : ℕ) (memory : List ℕ) (c : ℕ → ℕ) (trail : List ℕ) (m : Mid) (xs ys : List Value) → length xs ≡ n → length ys ≡ n → Holds t.p.world.layout memory c → MidIn t outer sh c trail m → c 13 ≡ 0 → 30 ≤ v → v + n ≤ 240 → 30 ≤ x → x + n ≤ 240 → InRegisters sh c (v - 16) xs → InRegisters sh c (x - 16) ys →
      Goes t outer f w body rest (match_acts v x n ++ rest) sh memory typed output drawn c m (solve m.state.subst (zip xs ys)) (cost m.state.subst (zip xs ys) n)
  matches n v x memory c trail m xs ys ex ey h mid none lv hv lx hx rx ry =
      let low = max m.state.since (top_of_pairs m.state.subst) in
      subst (λ (l : List Act). Goes t outer f w body rest (l ++ rest) sh memory typed output drawn c m (solve m.state.subst (zip xs ys)) (cost m.state.subst (zip xs ys) n)) (matching_acts n v x)
      (unifies n v x (matching n) low memory c trail m xs ys (matching_length n) ex ey (matching_are n) (matching_suits n low xs ys) h mid none lv hv lx hx (omega arith) (omega arith) rx ry)
