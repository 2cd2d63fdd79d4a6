-- Choosing a branch is a turn.
use Rattle.std.proofs.Common.{◌≡◌, ℕ, suc, ◌+◌, ◌-◌, ◌<◌, ◌≤◌, inl, inr, Bool, true, false, List, [], ◌∷◌, length, Some, refl, sym, ap, ◌∙◌, subst, arith, get_or}
use Rattle.std.specs.Prelude.{slice_set, ◌==◌}
use Rattle.std.proofs.lemmas.Bool.{cases_eq, eq-eqb, ne_eqb, cond-true, cond-false}
use Rattle.dg_base.specs.declared.program.Mode.{Mode}
use Rattle.dg_base.specs.declared.program.Mode.TheVariants.{Stopping, Cycling, PurelyAtRandom, AtRandom, ThenAtRandom, ThenPurelyAtRandom}
use Rattle.dg_meaning.specs.Choosing.{Picks, picked, picks_at, Choice, choice_by}
use Rattle.dg_mid.specs.State.{Mid}
use Rattle.z_model.specs.Run.{ZState, word_at}
use Rattle.z_lang.specs.declared.act.Act.{Act}
use Rattle.z_lang.specs.declared.act.Atom.TheVariants as atoms
use Rattle.z_lang.specs.declared.act.Comparison.TheVariants as comparisons
use Rattle.z_lang.specs.declared.act.Routine.{Routine}
use Rattle.z_lang.specs.State.{State, Program}
use Rattle.z_lang.specs.Acts.{answer_of}
use Rattle.z_lang.specs.Runs.{ActsRun, Returns, calls, taken, passed, returns, behind_label}
use Rattle.dg_rt.specs.declared.numbers.TheConstants.{PICK_STOPPING, PICK_CYCLING, PICK_PURELY, PICK_AT_RANDOM, PICK_THEN_AT_RANDOM, PICK_THEN_PURELY}
use Rattle.dg_rt.specs.declared.picks.TheConstants.{PICK_STOPPING_ACTS, PICK_CYCLING_ACTS, PICK_PURELY_ACTS, PICK_AT_RANDOM_ACTS, PICK_THEN_AT_RANDOM_ACTS, PICK_THEN_PURELY_ACTS}
use Rattle.dg_rt.specs.Cells.{at_cell, compared, replaced}
use Rattle.dg_rt.specs.Areas.{state}
use Rattle.dg_rt.specs.Picks.{SiteIn, pick_acts, pick_number, drawn_more, Chooses}
use Rattle.dg_rt.specs.RunTime.{routine_of, HasRunTime}
use Rattle.dg_rt.proofs.Cells.{other_cell, same_cell}
use Rattle.dg_rt.proofs.Following.{tested, local_1, put_1}
use Rattle.dg_rt.proofs.Picking.{picks_work}
use Rattle.dg_turn.specs.Told.{Site, Telling}
use Rattle.dg_turn.specs.Lies.{MidIn}
use Rattle.dg_turn.specs.Rest.{aux_end}
use Rattle.dg_turn.specs.Plays.{Playing, Outside, Represented}
use Rattle.dg_turn.specs.Sites.{numbers_of, site_at, SitesIn, HasSites, branch_acts, select_routine, Selecting, OuterSites, Selects, PickTurns}
use Rattle.dg_turn.proofs.OnceTurn.{goto_turns}
use Rattle.dg_turn.proofs.Moving.{moves_to}
use Rattle.dg_turn.proofs.Sites.{site_placed, numbers_long, sites_behind}
use Rattle.dg_turn.proofs.Within.{mid_world}

-- ## The branches

-- the routine of a branch is returned
pub record Branches (p : Program) (f w : ℕ) (body : List Act) (i : ℕ) (bs : List ℕ) (behind n : ℕ) (s : State) : Type 0 where
  pub count : ℕ
  pub few : count + i ≤ n + 2
  pub runs : ActsRun p f w body (branch_acts i bs behind) s (Returns (p.names.routine (get_or bs (n - i) behind))) s count

module _ (p : Program) (f w : ℕ) (body : List Act) (memory typed output : List ℕ) (drawn behind n : ℕ) where
  abbrev now : State
  now = state memory (n ∷ []) typed drawn output

  -- labels from a number on are those of these acts
  abbrev SameLabels : ℕ → List ℕ → Type 0
  SameLabels i bs = (j : ℕ) → i ≤ j → behind_label j body ≡ behind_label j (branch_acts i bs behind)

  is_branch : (i : ℕ) (t : Bool) → compared comparisons.Equal n i ≡ t → answer_of p now (record { comparison = comparisons.Equal; first = atoms.Var 1; second = atoms.Num i; answer = false }) ≡ Some t
  is_branch i t e = tested p now comparisons.Equal (atoms.Var 1) (atoms.Num i) false n i t (local_1 p memory n [] typed drawn output) refl e

  here : (i b : ℕ) (bs : List ℕ) → behind_label i (branch_acts i (b ∷ bs) behind) ≡ Some (branch_acts (suc i) bs behind)
  unfolding behind_label
  here i b bs = cond-true (i == i) (Some (branch_acts (suc i) bs behind)) (behind_label i (branch_acts (suc i) bs behind)) (eq-eqb i i refl)

  later : (i b j : ℕ) (bs : List ℕ) → i < j → behind_label j (branch_acts i (b ∷ bs) behind) ≡ behind_label j (branch_acts (suc i) bs behind)
  unfolding behind_label
  later i b j bs lt = cond-false (i == j) (Some (branch_acts (suc i) bs behind)) (behind_label j (branch_acts (suc i) bs behind)) (ne_eqb i j (λ (e : i ≡ j). (omega arith)))

  -- what is returned, where a branch is at this place among those that are left
  abbrev Gives : ℕ → List ℕ → ℕ → ℕ → Type 0
  Gives i bs k count = ActsRun p f w body (branch_acts i bs behind) now (Returns (p.names.routine (get_or bs k behind))) now count

  pub branches_run : (i : ℕ) (bs : List ℕ) → i ≤ n → SameLabels i bs → Branches p f w body i bs behind n now
  branches_run i [] le same = record { count = 1; few = omega arith; runs = returns refl }
  branches_run i (b ∷ bs) le same = elim (cases_eq n i) [
    | inl e ↦
        let none : n - i ≡ 0 = omega arith in
        record { count = 2; few = omega arith; runs = subst (λ (k : ℕ). Gives i (b ∷ bs) k 2) (sym none) (passed (is_branch i true (eq-eqb n i e)) (returns refl)) }
    | inr ne ↦
        let r = branches_run (suc i) bs (omega arith) (λ j lt. same j (omega arith) ∙ later i b j bs (omega arith)) in
        let few = r.few in
        let next : n - i ≡ suc (n - suc i) = omega arith in
        record {
          count = suc r.count;
          few = omega arith;
          runs = subst (λ (k : ℕ). Gives i (b ∷ bs) k (suc r.count)) (sym next) (taken (is_branch i false (ne_eqb n i ne)) (same i (omega arith) ∙ here i b bs) r.runs);
        }
  ]

-- ## Where the routines stand

pick_at : (p : Program) → HasRunTime p → (mode : Mode) → p.routine_at (p.names.routine (pick_number mode)) ≡ Some (routine_of 4 (pick_acts mode))
pick_at p has Stopping = has.each (PICK_STOPPING - 1) (routine_of 4 PICK_STOPPING_ACTS) refl
pick_at p has Cycling = has.each (PICK_CYCLING - 1) (routine_of 4 PICK_CYCLING_ACTS) refl
pick_at p has PurelyAtRandom = has.each (PICK_PURELY - 1) (routine_of 4 PICK_PURELY_ACTS) refl
pick_at p has AtRandom = has.each (PICK_AT_RANDOM - 1) (routine_of 4 PICK_AT_RANDOM_ACTS) refl
pick_at p has ThenAtRandom = has.each (PICK_THEN_AT_RANDOM - 1) (routine_of 4 PICK_THEN_AT_RANDOM_ACTS) refl
pick_at p has ThenPurelyAtRandom = has.each (PICK_THEN_PURELY - 1) (routine_of 4 PICK_THEN_PURELY_ACTS) refl

-- ## The turn

module _ (t : Telling) (plays : Playing t) (has : HasSites t) (out : Outside) (s : Site) (behind : ℕ) (kept : List Picks) (m : Mid) (z : ZState) (sites : SitesIn t kept out.words) where
  abbrev a : ℕ
  a = site_at t.program (numbers_of t.sites) s.number

  abbrev picks : Picks
  picks = picks_at kept s.number

  abbrev w : ℕ
  w = word_at t.p.world out.drawn

  -- one branch alone
  of_one : (b : ℕ) → Selecting t out s (b ∷ []) behind m z → Selects t out s (b ∷ []) behind kept (choice_by s.mode s.branches picks w) m z
  of_one b e =
      let one : 1 ≡ s.branches = e.all in
      let all = e.all in
      let k = goto_turns t plays out e.x b m z e.there e.rep in
      let few = k.few in
      subst (λ (n : ℕ). Selects t out s (b ∷ []) behind kept (choice_by s.mode n picks w) m z) one (record {
        outer = record {
          words' = out.words;
          others = λ j far. refl;
          sites_in = sites_behind t has kept out.words out.words s (picked 0 picks) e.known sites (λ two. absurd (omega arith)) (λ j ne. refl);
        };
        comes = record { there = k.there; count = k.count; some = k.some; few = omega arith; leads = k.leads; rep = k.rep };
      })

  -- two or more
  module _ (b c : ℕ) (bs : List ℕ) (e : Selecting t out s (b ∷ c ∷ bs) behind m z) where
    abbrev branches : List ℕ
    branches = b ∷ c ∷ bs

    abbrev n : ℕ
    n = length branches

    abbrev r : Represented t out e.x m z
    r = e.rep

    abbrev routine : Routine
    routine = select_routine (at_cell a) s.mode branches behind

    abbrev choice : Choice
    choice = choice_by s.mode n picks w

    within : at_cell (a + 1) ≤ t.p.world.layout.base
    within =
        let p = site_placed t.sites s e.known in
        let few = p.few in
        let long = numbers_long t.sites in
        let room = has.room in
        omega arith

    far : aux_end ≤ a
    far = omega arith

    site_is : SiteIn s.mode n picks (r.cells a)
    site_is =
        let two : 2 ≤ s.branches = (let all = e.all in omega arith) in
        subst (λ (k : ℕ). SiteIn s.mode k picks (r.cells a)) (sym e.all) (subst (SiteIn s.mode s.branches picks) (sym (r.mid.rest.outside.areas a far)) (sites.each s e.known two))

    chosen : Chooses t.p 3400 15000 s.mode r.memory out.typed out.output out.drawn a n r.cells picks choice
    chosen = picks_work s.mode t.p 3400 15000 r.memory out.typed out.output out.drawn a n r.cells picks r.holds within (omega arith) (let few = has.are.few s e.known in let all = e.all in omega arith) site_is

    abbrev k : Chooses t.p 3400 15000 s.mode r.memory out.typed out.output out.drawn a n r.cells picks choice
    k = chosen

    abbrev words : ℕ → ℕ
    words = replaced out.words a (k.cells' a)

    abbrev out' : Outside
    out' = record out { drawn = drawn_more t.p out.drawn choice.drawn; words = words }

    -- memory behind the pick is what is outside then
    high_same : (j : ℕ) → aux_end ≤ j → k.cells' j ≡ words j
    high_same j le = elim (cases_eq j a) [
      | inl same ↦ ap k.cells' same ∙ sym (same_cell out.words a (k.cells' a)) ∙ ap words (sym same)
      | inr ne ↦ k.others j ne ∙ r.mid.rest.outside.areas j le ∙ sym (other_cell out.words a (k.cells' a) j ne)
    ]

    mid : MidIn t words r.sh k.cells' r.trail m
    mid =
        mid_world t r.sh r.cells k.cells' r.trail m words (λ j ne kept_at lt. k.others j (λ (q : j ≡ a). (let f = far in omega arith)))
        (λ j lt. other_cell out.words a (k.cells' a) j (λ (q : j ≡ a). (let f = far in omega arith))) high_same r.mid

    outer : OuterSites t (slice_set kept s.number (picked choice.branch picks)) out.words
    outer = record {
      words' = words;
      others = λ j outside. other_cell out.words a (k.cells' a) j (λ (q : j ≡ a). (let p = site_placed t.sites s e.known in let few = p.few in let long = numbers_long t.sites in let o = outside (omega arith) in omega arith));
      sites_in = sites_behind t has kept out.words words s (picked choice.branch picks) e.known sites
          (λ two. subst (λ (i : ℕ). SiteIn s.mode i (picked choice.branch picks) (words a)) e.all (subst (SiteIn s.mode n (picked choice.branch picks)) (sym (same_cell out.words a (k.cells' a))) k.site))
          (λ j ne. other_cell out.words a (k.cells' a) j ne);
    }

    of_more : Selects t out s branches behind kept choice m z
    unfolding behind_label outer
    of_more =
        let here = branches_run t.p 3500 19000 routine.body k.memory' out.typed out.output out'.drawn behind choice.branch 0 branches (omega arith) (λ j le. refl) in
        let few = k.few in
        let few' = here.few in
        let below = k.site.last in
        let all = e.all in
        let at_front : choice.branch - 0 ≡ choice.branch = omega arith in
        let y = t.p.names.routine (get_or branches choice.branch behind) in
        let s0 = state r.memory (0 ∷ []) out.typed out.drawn out.output in
        let s1 = state k.memory' k.locals' out.typed out'.drawn out.output in
        let s2 = state k.memory' (choice.branch ∷ []) out.typed out'.drawn out.output in
        record {
          outer = outer;
          comes = moves_to t plays out e.x m z r routine e.there (omega arith) out' y (suc k.count + here.count) (s.branches + 20) k.memory' (choice.branch ∷ []) k.cells' r.sh r.trail m
              (calls {f' = 3400} {w' = 15000} {n = k.count} {n' = here.count} {xs = (at_cell a, n, 0)} {s1 = s1} {s2 = s2} refl refl (pick_at t.p plays.has s.mode) (omega arith) (omega arith) k.runs (put_1 t.p k.memory' 0 choice.branch [] out.typed out'.drawn out.output)
              (subst (λ (i : ℕ). ActsRun t.p 3500 19000 routine.body (branch_acts 0 branches behind) s2 (Returns (t.p.names.routine (get_or branches i behind))) s2 here.count) at_front here.runs))
              k.holds (plays.words (get_or branches choice.branch behind)) mid (omega arith);
        }

    of_two : Selects t out s branches behind kept (choice_by s.mode s.branches picks w) m z
    of_two = subst (λ (i : ℕ). Selects t out s branches behind kept (choice_by s.mode i picks w) m z) e.all of_more

  by_branches : (branches : List ℕ) → Selecting t out s branches behind m z → Selects t out s branches behind kept (choice_by s.mode s.branches picks w) m z
  by_branches [] e = absurd (let some = has.are.some s e.known in let all = e.all in omega arith)
  by_branches (b ∷ []) e = of_one b e
  by_branches (b ∷ c ∷ bs) e = of_two b c bs e

pub pick_turns : PickTurns
pick_turns t plays has out s branches behind kept m z sites e = by_branches t plays has out s behind kept m z sites branches e
