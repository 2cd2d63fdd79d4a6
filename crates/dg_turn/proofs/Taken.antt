-- What comes behind a gathering that was taken out: its value, if there is one, is unified with another.
use Rattle.std.proofs.Common.{◌≡◌, ◌≢◌, ℕ, suc, ◌+◌, ◌*◌, ◌<◌, ◌≤◌, false, List, [], ◌∷◌, ◌++◌, length, Option, None, Some, refl, sym, ap, ◌∙◌, subst, arith}
use Rattle.dg_base.specs.declared.run.Ending.TheVariants.{TrailLimit}
use Rattle.dg_meaning.specs.Unify.{Unified, Equations, solve}
use Rattle.dg_meaning.specs.Values.{Num, Value, leaf}
use Rattle.dg_meaning.specs.World.{Gathering}
use Rattle.dg_mid.specs.declared.code.Gathered.{Gathered}
use Rattle.dg_mid.specs.State.{Mid}
use Rattle.dg_mid.specs.Step.{bound, trail_more}
use Rattle.z_model.specs.declared.end.Halt.TheVariants.{AtQuit}
use Rattle.z_model.specs.Run.{ZState}
use Rattle.z_lang.specs.declared.act.Act.{Act}
use Rattle.z_lang.specs.declared.act.Act.TheVariants as acts
use Rattle.z_lang.specs.declared.act.Atom.TheVariants as atoms
use Rattle.z_lang.specs.declared.act.Routine.{Routine}
use Rattle.z_lang.specs.State.{State, Program}
use Rattle.z_lang.specs.Runs.{ActsRun, ActsOutcome, Returns, Stops, done}
use Rattle.dg_rt.specs.declared.numbers.TheConstants.{FAIL}
use Rattle.dg_rt.specs.inside.Walks.{steps}
use Rattle.dg_rt.specs.Arithmetic.{result_word, clash_of, IsNumber}
use Rattle.dg_rt.specs.Cells.{with_cell, replaced, Holds}
use Rattle.dg_rt.specs.Areas.{state}
use Rattle.dg_rt.specs.Closings.{closing, closing_most}
use Rattle.dg_rt.specs.CopiesIn.{HasCaptures}
use Rattle.dg_rt.specs.Shapes.{Shape, Shows, number}
use Rattle.dg_rt.specs.Unifies.{price}
use Rattle.dg_rt.proofs.Cells.{other_cell, same_cell}
use Rattle.dg_rt.proofs.Following.{word, copies, register, IsPut, puts}
use Rattle.dg_rt.proofs.UnifySteps.{steps_are}
use Rattle.dg_turn.specs.Told.{Telling}
use Rattle.dg_turn.specs.Rest.{gather_words, newest, RestIn}
use Rattle.dg_turn.specs.Lies.{OpensFewer, StopsFewer, MidIn}
use Rattle.dg_turn.specs.Plays.{Playing, Outside, Represented, Comes, Closes}
use Rattle.dg_turn.specs.Turns.{agreed_next, match_acts, last_acts}
use Rattle.dg_turn.specs.Gatherings.{take_routine, TakesHere}
use Rattle.dg_turn.proofs.Ends.{next_small, concludes}
use Rattle.dg_turn.proofs.Gathered.{ChoicesReopened, StopsReopened, choices_fewer, stops_fewer, mid_gathered, rest_taken}
use Rattle.dg_turn.proofs.Matching.{Goes, skips, matches}
use Rattle.dg_turn.proofs.Moving.{moves, closes}
use Rattle.dg_turn.proofs.Resting.{length_words}
use Rattle.dg_turn.proofs.Staying.{mid_same}

-- a word stands for a value, where there is one
abbrev pub ShowsIt : Shape → ℕ → Option Value → Type 0
ShowsIt sh w None = Unit {0}
ShowsIt sh w (Some v) = Shows sh w v

-- the value of a sum
abbrev pub sum_value : Option ℕ → Option Value
sum_value None = None
sum_value (Some n) = Some (leaf (Num n))

-- what the register of clashes says of a value
abbrev pub clash_of_value : Option Value → ℕ
clash_of_value None = 1
clash_of_value (Some v) = 0

pub sum_clash : (o : Option ℕ) → clash_of_value (sum_value o) ≡ clash_of o
sum_clash None = refl
sum_clash (Some n) = refl

-- the word of a sum stands for its value
pub sum_shows : (sh : Shape) (w : ℕ) (o : Option ℕ) → IsNumber o → w ≡ result_word o → ShowsIt sh w (sum_value o)
sum_shows sh w None small is = tt
sum_shows sh w (Some n) small is = subst (λ (i : ℕ). Shows sh i (leaf (Num n))) (sym is) (number n small)

-- how many values closures capture, told otherwise
pub captures_as : (p : Program) (story : List ℕ) (c c' : ℕ → ℕ) → ((place : ℕ) → c' place ≡ c place) → HasCaptures p story c → HasCaptures p story c'
captures_as p story c c' same h = record {
  has = h.has;
  told = λ m place low few kept. h.told m place low (subst (λ (n : ℕ). n < 256) (same place) few) kept ∙ ap word (sym (same place));
}

-- ## Behind the routine that takes it out

-- Memory stands for a machine, the register of clashes says whether there is a value, and its word and that of the value to be unified are known.
pub record Taken (t : Telling) (out : Outside) (body rest : List Act) (memory : List ℕ) (m' : Mid) (into : Value) (made : Option Value) (most : ℕ) : Type 0 where
  pub memory2 : List ℕ
  pub c2 : ℕ → ℕ
  pub holds : Holds t.p.world.layout memory2 c2
  pub sh' : Shape
  pub trail' : List ℕ
  pub mid : MidIn t out.words sh' c2 trail' m'
  pub clash : c2 13 ≡ clash_of_value made
  pub last : c2 28 ≡ out.words 28
  pub shows_into : Shows sh' (c2 16) into
  pub shows_made : ShowsIt sh' (c2 36) made
  pub count : ℕ
  pub few : count ≤ most
  pub runs : (o : ActsOutcome) (s' : State) (n : ℕ) → ActsRun t.p 3500 19000 body rest (state memory2 [] out.typed out.drawn out.output) o s' n → ActsRun t.p 3500 19000 body body (state memory [] out.typed out.drawn out.output) o s' (steps count n)

module _ (t : Telling) (plays : Playing t) (out : Outside) (whole : Gathered) (behind : ℕ) (into : Value) (m : Mid) (z : ZState) (e : TakesHere t out whole behind into m z) where
  abbrev r : Represented t out e.x m z
  r = e.rep

  abbrev routine : Routine
  routine = take_routine whole behind

  abbrev matching : List Act
  matching = match_acts 32 52 1 ++ last_acts behind

  abbrev now : List ℕ → State
  now memory = state memory [] out.typed out.drawn out.output

  abbrev TakenAs : Mid → Option Value → ℕ → Type 0
  TakenAs m' made most = Taken t out routine.body matching r.memory m' into made most

  -- where there is no value it fails
  pub none_taken : (m' : Mid) (most all : ℕ) → TakenAs m' None most → most + 20 ≤ all → Comes t out (t.p.names.routine FAIL) m' all z
  none_taken m' most all k le =
      let high = plays.has.mapped.room in
      let one = k.clash in
      let last = concludes t.p plays.has plays.words 3500 19000 (omega arith) (omega arith) routine.body k.memory2 out.typed out.output out.drawn behind k.c2 k.holds false one in
      let y = t.p.names.routine FAIL in
      let skip = skips t out.words plays.has 3500 19000 (omega arith) (omega arith) k.sh' out.typed out.output out.drawn routine.body (last_acts behind) 1 32 52 k.memory2 k.c2 k.holds (omega arith) (omega arith) (omega arith) (omega arith) (λ (q : k.c2 13 ≡ 0). (omega arith)) (Returns y) (now last.memory') 4 last.runs in
      let few = k.few in
      let e1 = steps_are k.count (steps (3 * 1) 4) in
      let e2 = steps_are (3 * 1) 4 in
      moves t plays out e.x m z r routine e.there (omega arith) y (steps k.count (steps (3 * 1) 4)) all last.memory' [] last.cells' k.sh' k.trail' m'
      (k.runs (Returns y) (now last.memory') (steps (3 * 1) 4) skip)
      last.holds (next_small t.p plays.words behind false) (mid_same t k.sh' k.c2 last.cells' k.trail' m' (λ j ne far. last.others j (λ (q : j ≡ 36). (let v = far.1 (omega arith) in omega arith))) k.mid) (omega arith)

  module _ (m' : Mid) (v : Value) (most : ℕ) (k : TakenAs m' (Some v) most) where
    abbrev es : Equations
    es = (into, v) ∷ []

    abbrev u : Unified
    u = solve m'.state.subst ((into, v) ∷ [])

    matched : Goes t out.words 3500 19000 routine.body (last_acts behind) matching k.sh' k.memory2 out.typed out.output out.drawn k.c2 m' u (price m'.state.subst es + 6 * 1)
    matched = matches t out.words plays.has 3500 19000 (omega arith) (omega arith) k.sh' out.typed out.output out.drawn routine.body (last_acts behind) 1 32 52 k.memory2 k.c2 k.trail' m' (into ∷ []) (v ∷ []) refl refl k.holds k.mid k.clash (omega arith) (omega arith) (omega arith) (omega arith) (k.shows_into, tt) (k.shows_made, tt)

    pub value_taken : (all : ℕ) → most + price m'.state.subst es + 20 ≤ all → trail_more m'.state u ≤ 2000 → Comes t out (agreed_next t.p behind u.agrees) (bound u m') all z
    value_taken all le few_trail =
        let g = matched.matched few_trail in
        let y = agreed_next t.p behind u.agrees in
        let last = concludes t.p plays.has plays.words 3500 19000 (omega arith) (omega arith) routine.body g.memory' out.typed out.output out.drawn behind g.cells' g.holds u.agrees g.clash in
        let few = k.few in
        let few3 = g.few in
        let e1 = steps_are k.count (steps g.count 4) in
        let e2 = steps_are g.count 4 in
        moves t plays out e.x m z r routine e.there (omega arith) y (steps k.count (steps g.count 4)) all last.memory' [] last.cells' k.sh' g.trail' (bound u m')
        (k.runs (Returns y) (now last.memory') (steps g.count 4) (g.runs (Returns y) (now last.memory') 4 last.runs))
        last.holds (next_small t.p plays.words behind u.agrees) (mid_same t k.sh' g.cells' last.cells' g.trail' (bound u m') (λ j ne far. last.others j (λ (q : j ≡ 36). (let w = far.1 (omega arith) in omega arith))) g.mid) (omega arith)

    pub trail_full : (all : ℕ) → most + price m'.state.subst es + 20 ≤ all → 2000 < trail_more m'.state u → Closes t out TrailLimit (all + closing_most) z
    trail_full all le over =
        let g = matched.full over in
        let few = k.few in
        let few3 = g.few in
        let e1 = steps_are k.count g.count in
        let last : k.c2 28 ≡ r.cells 28 = k.last ∙ sym (r.mid.rest.outside.registers 28 (omega arith) (omega arith) (λ q. (omega arith))) in
        closes t plays out e.x m z r routine e.there (omega arith) (steps k.count g.count) (all + closing_most) TrailLimit g.memory' g.locals'
        (subst (λ (j : ℕ). ActsRun t.p 3500 19000 routine.body routine.body (now r.memory) (Stops AtQuit) (state g.memory' g.locals' out.typed out.drawn (out.output ++ closing j TrailLimit)) (steps k.count g.count)) last
        (k.runs (Stops AtQuit) (state g.memory' g.locals' out.typed out.drawn (out.output ++ closing (k.c2 28) TrailLimit)) g.count g.runs))
        (omega arith)

  -- ## The routine that takes it out is called

  -- the word is put into its register, and that of the value to be unified into another
  module _ (memory' : List ℕ) (cells' : ℕ → ℕ) (holds : Holds t.p.world.layout memory' cells') (answer : ℕ) (small : answer < 65536) where
    abbrev pub memory1 : List ℕ
    memory1 = with_cell memory' 36 answer

    abbrev pub c1 : ℕ → ℕ
    c1 = replaced cells' 36 answer

    pub put1 : IsPut t.p (now memory') cells' 52 answer
    put1 = let high = plays.has.mapped.room in puts t.p (now memory') cells' 52 answer holds (omega arith) (omega arith) (omega arith) small

    abbrev back : ℕ
    back = replaced cells' 36 answer 8

    pub put2 : IsPut t.p (now memory1) c1 32 back
    put2 = let high = plays.has.mapped.room in puts t.p (now memory1) c1 32 back put1.holds (omega arith) (omega arith) (omega arith) (put1.holds.words 8)

    abbrev pub memory3 : List ℕ
    memory3 = with_cell memory1 16 back

    abbrev pub c3 : ℕ → ℕ
    c3 = replaced c1 16 back

    pub c3_else : (j : ℕ) → j ≢ 16 → j ≢ 36 → c3 j ≡ cells' j
    c3_else j n16 n36 = other_cell c1 16 back j n16 ∙ other_cell cells' 36 answer j n36

    pub c3_made : c3 36 ≡ answer
    c3_made = other_cell c1 16 back 36 (λ q. (omega arith)) ∙ same_cell cells' 36 answer

    pub c3_into : c3 16 ≡ cells' 8
    c3_into = same_cell c1 16 back ∙ other_cell cells' 36 answer 8 (λ q. (omega arith))

    pub copied : (body : List Act) (o : ActsOutcome) (s' : State) (n : ℕ) → ActsRun t.p 3500 19000 body matching (now memory3) o s' n → ActsRun t.p 3500 19000 body (acts.Copy 32 (atoms.Var 24) ∷ matching) (now memory1) o s' (suc n)
    copied body o s' n go =
        let high = plays.has.mapped.room in
        done (copies t.p (now memory1) (now memory3) 32 (atoms.Var 24) back (register t.p (now memory1) c1 24 put1.holds (omega arith) (omega arith) (omega arith)) put2.put_is) go

  -- the text's end is as it was
  pub text_last : r.cells 28 ≡ out.words 28
  text_last = r.mid.rest.outside.registers 28 (omega arith) (omega arith) (λ q. (omega arith))

  -- the rest of memory where there is a gathering
  pub rest_there : (x : Gathering) (xs : List Gathering) → m.gathered ≡ x ∷ xs → RestIn t out.words r.cells (x ∷ xs)
  rest_there x xs here = subst (RestIn t out.words r.cells) here r.mid.rest

  -- memory stands for the machine without it
  pub mid_without : (x : Gathering) (xs : List Gathering) → m.gathered ≡ x ∷ xs → (c' : ℕ → ℕ) → c' 29 ≡ newest (gather_words xs) → ((k : ℕ) → k ≢ 13 → k ≢ 16 → k ≢ 29 → k ≢ 36 → c' k ≡ r.cells k) → MidIn t out.words r.sh c' r.trail (record m { gathered = xs })
  mid_without x xs here c' named others =
      let names = length_words xs in
      let opens = ap gather_words here in
      let all = ap (λ (gs : List Gathering). length gs) here in
      let counts : length m.gathered ≡ suc (length (gather_words xs)) = omega arith in
      let word = newest (gather_words (x ∷ xs)) in
      let choices : ChoicesReopened (gather_words m.gathered) (gather_words xs) m.choices = subst (λ (l : List ℕ). ChoicesReopened l (gather_words xs) m.choices) (sym opens) (choices_fewer word (gather_words xs) m.choices (subst (λ (n : ℕ). OpensFewer n m.choices) counts e.fewer.0)) in
      let stops : StopsReopened (gather_words m.gathered) (gather_words xs) m.stops = subst (λ (l : List ℕ). StopsReopened l (gather_words xs) m.stops) (sym opens) (stops_fewer word (gather_words xs) m.stops (subst (λ (n : ℕ). StopsFewer n m.stops) counts e.fewer.1)) in
      mid_gathered t r.sh r.cells c' r.trail m xs
      (λ k n0 n29 far lt. others k (λ (q : k ≡ 13). (let y = far.0 (omega arith) in omega arith)) (λ (q : k ≡ 16). (let y = far.0 (omega arith) in omega arith)) n29 (λ (q : k ≡ 36). (let y = far.1 (omega arith) in omega arith)))
      choices stops
      (rest_taken t r.cells c' x xs named (λ k low n29 far. others k (λ (q : k ≡ 13). (omega arith)) (λ (q : k ≡ 16). (omega arith)) n29 (λ (q : k ≡ 36). (let y = far (omega arith) in omega arith))) (rest_there x xs here))
      r.mid

  -- as many instructions, counted otherwise
  pub counted : (i : ℕ) (o : ActsOutcome) (s' : State) (n : ℕ) → ActsRun t.p 3500 19000 routine.body routine.body (now r.memory) o s' (suc i + suc n) → ActsRun t.p 3500 19000 routine.body routine.body (now r.memory) o s' (steps (suc (i + 1)) n)
  counted i o s' n run = let many = steps_are (suc (i + 1)) n in let same : suc i + suc n ≡ steps (suc (i + 1)) n = omega arith in subst (λ (j : ℕ). ActsRun t.p 3500 19000 routine.body routine.body (now r.memory) o s' j) same run
