-- A change of a global variable is a turn.
use Rattle.std.proofs.Common.{◌≡◌, ◌≢◌, ℕ, suc, ◌+◌, ◌-◌, ◌*◌, ◌<◌, ◌≤◌, ◌⊎◌, inl, inr, Bool, true, false, List, [], ◌∷◌, ◌++◌, length, Option, Some, None, refl, sym, ap, ◌∙◌, subst, arith}
use Rattle.std.specs.Prelude.{is_some}
use Rattle.std.specs.List.{slice_get}
use Rattle.std.proofs.lemmas.Bool.{cases_lt, cond-true, cond-false}
use Rattle.dg_base.specs.declared.program.PlaceKind.TheVariants.{Global}
use Rattle.dg_base.specs.declared.program.Term.{Term}
use Rattle.dg_base.specs.declared.run.Ending.TheVariants.{HeapLimit, KeepLimit}
use Rattle.dg_meaning.specs.Cells.{cells as cells_of}
use Rattle.dg_meaning.specs.Facts.{Fact, value_at, Alteration, Sets, Clears, altered, size_of, kinds_of, kept_size}
use Rattle.dg_meaning.specs.Letters.{letters_in}
use Rattle.dg_meaning.specs.Substitutions.{Substitution, resolved, contains}
use Rattle.dg_meaning.specs.TypeTests.{is_fully_bound}
use Rattle.dg_meaning.specs.Unify.{looks}
use Rattle.dg_meaning.specs.Values.{Value}
use Rattle.dg_mid.specs.State.{Mid}
use Rattle.dg_mid.specs.Step.{more}
use Rattle.z_model.specs.declared.end.Halt.TheVariants.{AtQuit}
use Rattle.z_model.specs.Run.{ZState}
use Rattle.z_lang.specs.declared.act.Act.{Act}
use Rattle.z_lang.specs.declared.act.Act.TheVariants as acts
use Rattle.z_lang.specs.declared.act.Args.{Args}
use Rattle.z_lang.specs.declared.act.Args.TheVariants as args
use Rattle.z_lang.specs.declared.act.Atom.TheVariants as atoms
use Rattle.z_lang.specs.declared.act.Routine.{Routine}
use Rattle.z_lang.specs.State.{State, Program}
use Rattle.z_lang.specs.Runs.{ActsRun, Returns, Stops, routine_entered, left_with, calls, calls_last, returns}
use Rattle.dg_rt.specs.declared.numbers.TheConstants.{KEEP, CLEAR_KEPT}
use Rattle.dg_rt.specs.declared.kept.TheConstants.{KEEP_ACTS, CLEAR_KEPT_ACTS}
use Rattle.dg_rt.specs.inside.Walks.{steps}
use Rattle.dg_rt.specs.Cells.{at_cell, with_cell, replaced, Holds}
use Rattle.dg_rt.specs.Areas.{state}
use Rattle.dg_rt.specs.RunTime.{routine_of, HasRunTime}
use Rattle.dg_rt.specs.Changes.{facts_behind}
use Rattle.dg_rt.specs.Closings.{closing, closing_most}
use Rattle.dg_rt.specs.Copies.{words_of}
use Rattle.dg_rt.specs.Kept.{Block, block, total, without, IsVariable, Alters, MeetsKeep, Keeping as KeepingValue}
use Rattle.dg_rt.specs.Laying.{Formed}
use Rattle.dg_rt.proofs.Absent.{next_absent}
use Rattle.dg_rt.proofs.Altered.{set_there, set_elsewhere, cleared_there, cleared_elsewhere}
use Rattle.dg_rt.proofs.Blocks.{words_long, none_without}
use Rattle.dg_rt.proofs.Cells.{other_cell, same_cell}
use Rattle.dg_rt.proofs.Following.{word as word_is, register, puts}
use Rattle.dg_rt.proofs.Forming.{resolved_shows_formed}
use Rattle.dg_rt.proofs.KeepingValue.{keep_works, clear_kept_works}
use Rattle.dg_rt.proofs.UnifySteps.{steps_are}
use Rattle.dg_turn.specs.Told.{Telling, told_count}
use Rattle.dg_turn.specs.Plays.{Playing, Outside, Represented, Closes}
use Rattle.dg_turn.specs.Rest.{aux_end}
use Rattle.dg_turn.specs.Terms.{written_in, Wrote}
use Rattle.dg_turn.specs.Turns.{agreed_next}
use Rattle.dg_turn.specs.Operating.{term_value, deciding_routine, InFront}
use Rattle.dg_turn.specs.World.{world_at, world_end, words_at, words_end, KeptFacts, FactsIn, HasWorld, now_routine, change_in}
use Rattle.dg_turn.specs.Globals.{kept_behind, global_most, Keeps, Keeping, GlobalTurns}
use Rattle.dg_turn.proofs.DecidingTurn.{next_is}
use Rattle.dg_turn.proofs.Ends.{next_small}
use Rattle.dg_turn.proofs.GlobalFacts.{formed_by, none_outside, value_none, variable_in, size_left, size_after, kept_set, kept_cleared}
use Rattle.dg_turn.proofs.Moving.{moves_to, closes}
use Rattle.dg_turn.proofs.NowTurn.{joined, joined_low, joined_high}
use Rattle.dg_turn.proofs.Places.{facts_same, facts_with}
use Rattle.dg_turn.proofs.Terms.{writes_terms, meets_terms}
use Rattle.dg_turn.proofs.Within.{mid_world}

module _ (p : Program) (has : HasRunTime p) where
  keep_at : p.routine_at (p.names.routine KEEP) ≡ Some (routine_of 4 KEEP_ACTS)
  keep_at = has.each (KEEP - 1) (routine_of 4 KEEP_ACTS) refl

  clear_kept_at : p.routine_at (p.names.routine CLEAR_KEPT) ≡ Some (routine_of 3 CLEAR_KEPT_ACTS)
  clear_kept_at = has.each (CLEAR_KEPT - 1) (routine_of 3 CLEAR_KEPT_ACTS) refl

-- A routine that is called changes words of the world and of what is kept alone, which then stand for these facts, and answers this.
record KeptBy (t : Telling) (out : Outside) (decider : ℕ) (xs : ℕ × ℕ × ℕ) (memory : List ℕ) (cells : ℕ → ℕ) (facts : List Fact) (y most : ℕ) : Type 0 where
  called : Routine
  stands : t.p.routine_at (t.p.names.routine decider) ≡ Some called
  few_locals : called.locals ≤ 4
  memory' : List ℕ
  cells' : ℕ → ℕ
  holds : Holds t.p.world.layout memory' cells'
  inside : (k : ℕ) → (14315 ≤ k → 15315 ≤ k) → (world_at ≤ k → world_end t.program ≤ k) → cells' k ≡ cells k
  facts_in : FactsIn t.program facts cells'
  locals' : List ℕ
  count : ℕ
  few : count ≤ most
  runs : ActsRun t.p 3450 18000 called.body called.body (routine_entered (state memory [] out.typed out.drawn out.output) called.locals xs) (Returns y) (state memory' locals' out.typed out.drawn out.output) count

module _ (t : Telling) (plays : Playing t) (world : HasWorld t) (out : Outside) (place : ℕ) (a : Term) (sets : Bool) (decider behind : ℕ) (change : Option Alteration) (facts facts' : List Fact) (m : Mid) (z : ZState) (facts_out : FactsIn t.program facts out.words) where
  abbrev ts : List Term
  ts = a ∷ []

  abbrev h : ℕ
  h = words_at t.program place

  abbrev objects : ℕ
  objects = length t.program.objects

  abbrev next : ℕ
  next = t.p.names.routine behind

  abbrev given : Args
  given = args.Three (atoms.Num (at_cell h)) (atoms.Num objects) (atoms.Routine behind)

  abbrev n : ℕ
  n = cells_of t.program ts

  abbrev routine : Routine
  routine = deciding_routine t.program ts decider given

  abbrev last : List Act
  last = acts.Call (Some 52) (atoms.Routine decider) given ∷ acts.Return (atoms.Var 52) ∷ []

  abbrev now : List ℕ → State
  now memory = state memory [] out.typed out.drawn out.output

  abbrev y : ℕ
  y = agreed_next t.p behind (is_some change)

  abbrev xs : ℕ × ℕ × ℕ
  xs = (at_cell h, objects, next)

  module _ (e : InFront t out routine ts m z) where
    abbrev r : Represented t out e.x m z
    r = e.rep

    abbrev Written : Type 0
    Written = Wrote t out.words 3500 19000 routine.body last routine.body r.sh r.memory out.typed out.output out.drawn r.cells r.trail m n 32 (term_value t.program m a ∷ []) (written_in t.program ts + 6)

    written : m.state.heap + n ≤ 10000 → Written
    written room = writes_terms t plays.has 3500 19000 r.sh r.memory out.typed out.output out.drawn r.cells r.trail m r.holds r.mid routine.body (omega arith) (omega arith) last 32 ts (omega arith) (omega arith) (λ q. absurd (omega arith)) e.nodes room

    -- the world and what is kept are in memory behind the terms
    facts_here : (w1 : Written) → FactsIn t.program facts w1.cells'
    facts_here w1 = facts_same t.program facts out.words w1.cells' (λ k le. w1.mid.rest.outside.areas k le) facts_out

    changed : (most all : ℕ) → written_in t.program ts + most + 10 ≤ all → (w1 : Written) → KeptBy t out decider xs w1.memory' w1.cells' facts' y most → Keeps t out behind change facts' (more n m) all z
    changed most all le w1 k =
        let high = plays.has.mapped.room in
        let small = next_small t.p plays.words behind (is_some change) in
        let put = puts t.p (left_with (now w1.memory') (state k.memory' k.locals' out.typed out.drawn out.output)) k.cells' 52 y k.holds (omega arith) (omega arith) (omega arith) small in
        let memory2 = with_cell k.memory' 36 y in
        let c2 = replaced k.cells' 36 y in
        let words = joined out.words c2 in
        let out' : Outside = record out { words = words } in
        let mid2 = mid_world t w1.sh' w1.cells' c2 r.trail (more n m) words (λ j ne far lt. other_cell k.cells' 36 y j (λ (q : j ≡ 36). (let b = far.1 (omega arith) in omega arith)) ∙ k.inside j (λ le. absurd (omega arith)) (λ le. absurd (omega arith))) (λ j lt. joined_low out.words c2 j lt) (λ j le. sym (joined_high out.words c2 j le)) w1.mid in
        let fit = k.few_locals in
        let few1 = w1.few in
        let few2 = k.few in
        let e1 = steps_are w1.count (suc k.count + 1) in
        let others_stay : (j : ℕ) → (14315 ≤ j → 15315 ≤ j) → (world_at ≤ j → world_end t.program ≤ j) → (j < aux_end) ⊎ (aux_end ≤ j) → words j ≡ out.words j = λ j kept far side. elim side [
          | inl lt ↦ joined_low out.words c2 j lt
          | inr le ↦ joined_high out.words c2 j le ∙ other_cell k.cells' 36 y j (λ (q : j ≡ 36). (omega arith)) ∙ k.inside j kept far ∙ w1.mid.rest.outside.areas j le
        ] in
        record {
          outer = record {
            words' = words;
            others = λ j kept far. others_stay j kept far (cases_lt j aux_end);
            facts_in = facts_same t.program facts' k.cells' words (λ j low. joined_high out.words c2 j low ∙ other_cell k.cells' 36 y j (λ (q : j ≡ 36). (omega arith))) k.facts_in;
          };
          comes = moves_to t plays out e.x m z r routine e.there (omega arith) out' y (steps w1.count (suc k.count + 1)) all memory2 [] c2 w1.sh' r.trail (more n m)
              (w1.runs (Returns y) (now memory2) (suc k.count + 1)
              (calls {f' = 3450} {w' = 18000} {n = k.count} {n' = 1} {xs = xs} {s1 = state k.memory' k.locals' out.typed out.drawn out.output} {s2 = now memory2} refl refl k.stands (omega arith) (omega arith) k.runs put.put_is
              (returns (register t.p (now memory2) c2 52 put.holds (omega arith) (omega arith) (omega arith) ∙ ap word_is (same_cell k.cells' 36 y)))))
              put.holds small mid2 (omega arith);
        }

    no_room : 10000 < m.state.heap + n → Closes t out HeapLimit (10 + closing_most) z
    no_room over =
        let k = meets_terms t plays.has 3500 19000 r.sh r.memory out.typed out.output out.drawn r.cells r.trail m r.holds r.mid routine.body (omega arith) (omega arith) last 32 ts over in
        let few = k.few in
        closes t plays out e.x m z r routine e.there (omega arith) k.count (10 + closing_most) HeapLimit k.memory' k.locals' k.runs (omega arith)

    -- the limit of what is kept
    too_much : (most all : ℕ) → written_in t.program ts + most + 10 ≤ all → (w1 : Written) → (body : List Act) → t.p.routine_at (t.p.names.routine decider) ≡ Some (routine_of 4 body) → MeetsKeep t.p 3450 18000 body w1.memory' (at_cell h ∷ objects ∷ next ∷ 0 ∷ []) out.typed out.output out.drawn w1.cells' most → Closes t out KeepLimit (all + closing_most) z
    too_much most all le w1 body stands k =
        let few1 = w1.few in
        let few2 = k.few in
        let e1 = steps_are w1.count (suc k.count) in
        let text : w1.cells' 28 ≡ r.cells 28 = w1.others 28 (λ q. (omega arith)) (λ q. (omega arith)) (λ q. (omega arith)) (λ q. (omega arith)) (omega arith) in
        closes t plays out e.x m z r routine e.there (omega arith) (steps w1.count (suc k.count)) (all + closing_most) KeepLimit k.memory' []
        (w1.runs (Stops AtQuit) (state k.memory' [] out.typed out.drawn (out.output ++ closing (r.cells 28) KeepLimit)) (suc k.count)
        (calls_last {f' = 3450} {w' = 18000} {n = k.count} {xs = xs} {r = routine_of 4 body} refl refl stands (omega arith) (omega arith)
        (subst (λ (i : ℕ). ActsRun t.p 3450 18000 body body (state w1.memory' (at_cell h ∷ objects ∷ next ∷ 0 ∷ []) out.typed out.drawn out.output) (Stops AtQuit) (state k.memory' [] out.typed out.drawn (out.output ++ closing i KeepLimit)) k.count) text k.runs)))
        (omega arith)

    -- ## What is kept behind the terms

    writable : at_cell (words_end t.program) ≤ t.p.world.layout.base
    writable = let room = world.room in omega arith

    module _ (is : slice_get (kinds_of t.program) place ≡ Some Global) (w1 : Written) where
      here : FactsIn t.program facts w1.cells'
      here = facts_here w1

      k : KeptFacts t.program facts w1.cells'
      k = here.kept

      abbrev left : List Block
      left = without h k.blocks

      var : IsVariable (words_end t.program) w1.cells' k.blocks h
      var = variable_in t.program facts w1.cells' k place is

      -- what has changed is kept
      altered_by : (acts : List Act) (locals : ℕ) → locals ≤ 4 → (ls : List ℕ) → t.p.routine_at (t.p.names.routine decider) ≡ Some (routine_of locals acts) → routine_entered (now w1.memory') locals xs ≡ state w1.memory' ls out.typed out.drawn out.output → (bs : List Block) (most : ℕ) (al : Alters t.p 3450 18000 acts w1.memory' ls out.typed out.output out.drawn (words_end t.program) h next w1.cells' k.blocks bs most) → is_some change ≡ true → ((q o : ℕ) → q ≢ place → value_at facts' q o ≡ value_at facts q o) → KeptFacts t.program facts' al.cells' → KeptBy t out decider xs w1.memory' w1.cells' facts' y most
      altered_by acts locals few ls stands enters bs most al some elsewhere kept = record {
        called = routine_of locals acts;
        stands = stands;
        few_locals = few;
        memory' = al.memory';
        cells' = al.cells';
        holds = al.holds;
        inside = λ i far away. outside_same i far away;
        facts_in = facts_with t.program facts facts' w1.cells' al.cells' place is elsewhere k.blocks k.of_places (λ i low ne ne' none. al.others i (λ q. (omega arith)) ne ne' none) kept here;
        locals' = al.locals';
        count = al.count;
        few = al.few;
        runs = subst (λ (s : State). ActsRun t.p 3450 18000 acts acts s (Returns y) (state al.memory' al.locals' out.typed out.drawn out.output) al.count) (sym enters)
            (subst (λ (i : ℕ). ActsRun t.p 3450 18000 acts acts (state w1.memory' ls out.typed out.drawn out.output) (Returns i) (state al.memory' al.locals' out.typed out.drawn out.output) al.count) (next_is t.p behind true ∙ ap (agreed_next t.p behind) (sym some)) al.runs);
      }
        where
          not_ours : (i : ℕ) → (world_at ≤ i → world_end t.program ≤ i) → i ≢ h
          not_ours i away = λ (q : i ≡ h). (let en = var.entry in let from = en.from in let within = en.within in let b : world_end t.program ≤ i = away (omega arith) in omega arith)

          not_second : (i : ℕ) → (world_at ≤ i → world_end t.program ≤ i) → i ≢ h + 1
          not_second i away = λ (q : i ≡ h + 1). (let en = var.entry in let from = en.from in let within = en.within in let b : world_end t.program ≤ i = away (omega arith) in omega arith)

          outside_same : (i : ℕ) → (14315 ≤ i → 15315 ≤ i) → (world_at ≤ i → world_end t.program ≤ i) → al.cells' i ≡ w1.cells' i
          outside_same i far away = al.others i far (not_ours i away) (not_second i away) (none_outside t.program k.blocks k.of_places i away)

-- ## It is set

module _ (t : Telling) (plays : Playing t) (world : HasWorld t) (out : Outside) (place : ℕ) (a : Term) (behind : ℕ) (facts : List Fact) (m : Mid) (z : ZState) (facts_out : FactsIn t.program facts out.words) (is : slice_get (kinds_of t.program) place ≡ Some Global) where
  abbrev S : Substitution
  S = m.state.subst

  abbrev v : Value
  v = term_value t.program m a

  abbrev u : Value
  u = resolved S v

  abbrev most : ℕ
  most = 35 * looks S m.state.vars v + 8 * letters_in u + 50

  abbrev w : ℕ
  w = words_at t.program place

  abbrev ob : ℕ
  ob = length t.program.objects

  abbrev after : ℕ
  after = t.p.names.routine behind

  module _ (change : Option Alteration) (facts' : List Fact) (moved : ℕ) (e : InFront t out (now_routine t.program Global place (a ∷ []) true behind) (a ∷ []) m z) where
    abbrev Term1 : Type 0
    Term1 = Written t plays world out place a true KEEP behind change facts facts' m z facts_out e

    abbrev go : m.state.heap + cells_of t.program (a ∷ []) ≤ 10000 → Term1
    go room = written t plays world out place a true KEEP behind change facts facts' m z facts_out e room

    abbrev kept1 : (w1 : Term1) → KeptFacts t.program facts w1.cells'
    kept1 w1 = k t plays world out place a true KEEP behind change facts facts' m z facts_out e is w1

    law : (w1 : Term1) → KeepingValue t.p 3450 18000 w1.memory' (at_cell w ∷ ob ∷ after ∷ 0 ∷ []) out.typed out.output out.drawn (words_end t.program) w after w1.cells' (kept1 w1).blocks u most
    law w1 =
        let s = w1.mid.state in
        let absent : contains m.state.vars u ≡ false = subst (λ (i : ℕ). contains i u ≡ false) s.vars (next_absent w1.cells' S s.stands s.known w1.words.0) in
        keep_works t.p plays.has 3450 18000 (omega arith) (omega arith) w1.memory' out.typed out.output out.drawn w1.sh' w1.cells' S v (record { shape = s.shape; holds = w1.holds; stands = s.stands; first = w1.words.0 }) m.state.vars absent (words_end t.program) w ob after (kept1 w1).blocks
        (writable t plays world out place a true KEEP behind change facts facts' m z facts_out e) (kept1 w1).lie (var t plays world out place a true KEEP behind change facts facts' m z facts_out e is w1)

    formed : (w1 : Term1) → Formed (told_count t.program) u
    formed w1 = let s = w1.mid.state in formed_by w1.sh'.captures (told_count t.program) s.told u (resolved_shows_formed w1.cells' S s.stands s.known w1.words.0)

    no_more : m.state.heap + cells_of t.program (a ∷ []) ≤ 10000 → kept_size (kinds_of t.program) facts ≤ 500
    no_more room = let q = (kept1 (go room)).size in let few = (kept1 (go room)).lie.few in omega arith

    -- an unbound variable stands in it
    fails_turn : change ≡ None → facts' ≡ facts → is_fully_bound u ≡ false → Keeping t out (a ∷ []) behind change facts' (global_most t.program a moved m) m z
    fails_turn none same free = record {
      changes = λ room few. (let w1 = go room in let d = (law w1).fails free in changed t plays world out place a true KEEP behind change facts facts' m z facts_out e most (global_most t.program a moved m) (omega arith) w1
          (record {
            called = routine_of 4 KEEP_ACTS;
            stands = keep_at t.p plays.has;
            few_locals = omega arith;
            memory' = w1.memory';
            cells' = w1.cells';
            holds = w1.holds;
            inside = λ i far away. refl;
            facts_in = subst (λ (l : List Fact). FactsIn t.program l w1.cells') (sym same) (facts_here t plays world out place a true KEEP behind change facts facts' m z facts_out e w1);
            locals' = d.locals';
            count = d.count;
            few = d.few;
            runs = subst (λ (i : ℕ). ActsRun t.p 3450 18000 KEEP_ACTS KEEP_ACTS (state w1.memory' (at_cell w ∷ ob ∷ after ∷ 0 ∷ []) out.typed out.drawn out.output) (Returns i) (state w1.memory' d.locals' out.typed out.drawn out.output) d.count) (next_is t.p behind false ∙ ap (λ (x : Option Alteration). agreed_next t.p behind (is_some x)) (sym none)) d.runs;
          }));
      meets_heap = λ over. no_room t plays world out place a true KEEP behind change facts facts' m z facts_out e over;
      meets_keep = λ room over. (let few = no_more room in let q : kept_size (kinds_of t.program) facts' ≡ kept_size (kinds_of t.program) facts = ap (kept_size (kinds_of t.program)) same in absurd (omega arith));
    }

    -- none does
    module _ (some : change ≡ Some (Sets place 0 u)) (new : facts' ≡ altered (Sets place 0 u) facts) (all_moved : moved ≡ kept_size (kinds_of t.program) facts') (full : is_fully_bound u ≡ true) where
      elsewhere : (q o : ℕ) → q ≢ place → value_at facts' q o ≡ value_at facts q o
      elsewhere q o ne = ap (λ (l : List Fact). value_at l q o) new ∙ set_elsewhere place 0 u facts q o (λ x. absurd (ne x))

      there : value_at facts' place 0 ≡ Some u
      there = ap (λ (l : List Fact). value_at l place 0) new ∙ set_there place 0 u facts

      sizes : (w1 : Term1) → kept_size (kinds_of t.program) facts' ≡ total (without w (kept1 w1).blocks) + length (words_of u)
      sizes w1 =
          let b = size_after t.program facts facts' w1.cells' (kept1 w1) place is (λ q ne. elsewhere q 0 ne) in
          let c = ap size_of there in
          let d = words_long u in
          b ∙ ap (λ (i : ℕ). total (without w (kept1 w1).blocks) + i) (c ∙ sym d)

      sets_turn : Keeping t out (a ∷ []) behind change facts' (global_most t.program a moved m) m z
      sets_turn = record {
        changes = λ room few. (let w1 = go room in let q = sizes w1 in
            let al = (law w1).keeps full (omega arith) in
            changed t plays world out place a true KEEP behind change facts facts' m z facts_out e (20 * total (without w (kept1 w1).blocks) + most) (global_most t.program a moved m) (omega arith) w1
            (altered_by t plays world out place a true KEEP behind change facts facts' m z facts_out e is w1 KEEP_ACTS 4 (omega arith) (at_cell w ∷ ob ∷ after ∷ 0 ∷ []) (keep_at t.p plays.has) refl (without w (kept1 w1).blocks ++ block w u ∷ []) (20 * total (without w (kept1 w1).blocks) + most) al (ap is_some some) elsewhere
            (kept_set t.program facts facts' w1.cells' (kept1 w1) place is (λ i ne. elsewhere i 0 ne) al.cells' u there (formed w1) al.kept (λ i low ne ne' away. al.others i (λ le. (omega arith)) ne ne' away))));
        meets_heap = λ over. no_room t plays world out place a true KEEP behind change facts facts' m z facts_out e over;
        meets_keep = λ room over. (let w1 = go room in let q = sizes w1 in
            too_much t plays world out place a true KEEP behind change facts facts' m z facts_out e (20 * total (without w (kept1 w1).blocks) + most) (global_most t.program a moved m) (omega arith) w1 KEEP_ACTS (keep_at t.p plays.has) ((law w1).meets full (omega arith)));
      }

-- ## It is cleared

module _ (t : Telling) (plays : Playing t) (world : HasWorld t) (out : Outside) (place : ℕ) (a : Term) (behind : ℕ) (facts : List Fact) (m : Mid) (z : ZState) (facts_out : FactsIn t.program facts out.words) (is : slice_get (kinds_of t.program) place ≡ Some Global) (e : InFront t out (now_routine t.program Global place (a ∷ []) false behind) (a ∷ []) m z) where
  abbrev facts2 : List Fact
  facts2 = altered (Clears place 0) facts

  abbrev change2 : Option Alteration
  change2 = Some (Clears place 0)

  abbrev w2 : ℕ
  w2 = words_at t.program place

  abbrev Term2 : Type 0
  Term2 = Written t plays world out place a false CLEAR_KEPT behind change2 facts facts2 m z facts_out e

  abbrev kept2 : (w1 : Term2) → KeptFacts t.program facts w1.cells'
  kept2 w1 = k t plays world out place a false CLEAR_KEPT behind change2 facts facts2 m z facts_out e is w1

  other2 : (q o : ℕ) → q ≢ place → value_at facts2 q o ≡ value_at facts q o
  other2 q o ne = cleared_elsewhere place 0 facts q o (λ x. absurd (ne x))

  gone2 : value_at facts2 place 0 ≡ None
  gone2 = cleared_there place 0 facts

  sizes2 : (w1 : Term2) → kept_size (kinds_of t.program) facts2 ≡ total (without w2 (kept2 w1).blocks)
  sizes2 w1 =
      let b = size_after t.program facts facts2 w1.cells' (kept2 w1) place is (λ q ne. other2 q 0 ne) in
      let c : size_of (value_at facts2 place 0) ≡ 0 = ap size_of gone2 in
      omega arith

  clears_turn : Keeping t out (a ∷ []) behind change2 facts2 (global_most t.program a (kept_size (kinds_of t.program) facts2) m) m z
  clears_turn = record {
    changes = λ room few. (let w1 = written t plays world out place a false CLEAR_KEPT behind change2 facts facts2 m z facts_out e room in
        let q = sizes2 w1 in
        let bs = without w2 (kept2 w1).blocks in
        let al = clear_kept_works t.p plays.has 3450 18000 (omega arith) (omega arith) w1.memory' out.typed out.output out.drawn w1.cells' w1.holds (words_end t.program) w2 (length t.program.objects) (t.p.names.routine behind) (kept2 w1).blocks (writable t plays world out place a false CLEAR_KEPT behind change2 facts facts2 m z facts_out e) (kept2 w1).lie (var t plays world out place a false CLEAR_KEPT behind change2 facts facts2 m z facts_out e is w1) in
        let unset = value_none w2 bs (none_without w2 (kept2 w1).blocks) in
        changed t plays world out place a false CLEAR_KEPT behind change2 facts facts2 m z facts_out e (20 * total bs + 30) (global_most t.program a (kept_size (kinds_of t.program) facts2) m) (omega arith) w1
        (altered_by t plays world out place a false CLEAR_KEPT behind change2 facts facts2 m z facts_out e is w1 CLEAR_KEPT_ACTS 3 (omega arith) (at_cell w2 ∷ length t.program.objects ∷ t.p.names.routine behind ∷ []) (clear_kept_at t.p plays.has) refl bs (20 * total bs + 30) al refl other2
        (kept_cleared t.program facts facts2 w1.cells' (kept2 w1) place is (λ i ne. other2 i 0 ne) al.cells' gone2 al.kept (al.unset unset) (λ i low ne ne' away. al.others i (λ le. (omega arith)) ne ne' away))));
    meets_heap = λ over. no_room t plays world out place a false CLEAR_KEPT behind change2 facts facts2 m z facts_out e over;
    meets_keep = λ room over. (let w1 = written t plays world out place a false CLEAR_KEPT behind change2 facts facts2 m z facts_out e room in let q = sizes2 w1 in let sum = size_left t.program facts w1.cells' (kept2 w1) place is in let few = (kept2 w1).lie.few in absurd (omega arith));
  }

-- ## The turn

pub global_turns : GlobalTurns
global_turns t plays world out place a true behind facts m z is facts_out e = by (is_fully_bound (resolved m.state.subst (term_value t.program m a))) refl
  where
    by : (b : Bool) → is_fully_bound (resolved m.state.subst (term_value t.program m a)) ≡ b → Keeping t out (a ∷ []) behind (change_in t.program Global place (a ∷ []) true m) (facts_behind (change_in t.program Global place (a ∷ []) true m) facts) (global_most t.program a (kept_behind t.program (change_in t.program Global place (a ∷ []) true m) facts) m) m z
    by false q =
        let none : (change_in t.program Global place (a ∷ []) true m) ≡ None = cond-false (is_fully_bound (resolved m.state.subst (term_value t.program m a))) (Some (Sets place 0 (resolved m.state.subst (term_value t.program m a)))) None q in
        fails_turn t plays world out place a behind facts m z facts_out is (change_in t.program Global place (a ∷ []) true m) (facts_behind (change_in t.program Global place (a ∷ []) true m) facts) (kept_behind t.program (change_in t.program Global place (a ∷ []) true m) facts) e none (ap (λ (x : Option Alteration). facts_behind x facts) none) q
    by true q =
        let some : (change_in t.program Global place (a ∷ []) true m) ≡ Some (Sets place 0 (resolved m.state.subst (term_value t.program m a))) = cond-true (is_fully_bound (resolved m.state.subst (term_value t.program m a))) (Some (Sets place 0 (resolved m.state.subst (term_value t.program m a)))) None q in
        let new = ap (λ (x : Option Alteration). facts_behind x facts) some in
        sets_turn t plays world out place a behind facts m z facts_out is (change_in t.program Global place (a ∷ []) true m) (facts_behind (change_in t.program Global place (a ∷ []) true m) facts) (kept_behind t.program (change_in t.program Global place (a ∷ []) true m) facts) e some new (ap (λ (x : Option Alteration). kept_behind t.program x facts) some ∙ ap (kept_size (kinds_of t.program)) (sym new)) q
global_turns t plays world out place a false behind facts m z is facts_out e = clears_turn t plays world out place a behind facts m z facts_out is e
