-- Typed input is one turn: a line is read, the value that it spells is laid on the heap, and it is unified with a term.
use Rattle.std.proofs.Common.{◌≡◌, ◌≢◌, ℕ, suc, ◌+◌, ◌-◌, ◌*◌, ◌<◌, ◌≤◌, inl, inr, List, [], ◌∷◌, ◌++◌, length, take, Some, None, refl, sym, ap, ◌∙◌, subst, ◌⊎◌, arith}
use Rattle.std.specs.Prelude.{nat_lt, if◌then◌else◌, ◌==◌}
use Rattle.std.proofs.lemmas.Bool.{cases_eq, cases_lt, eq-eqb, ne_eqb, lt-ltb, le-ltb, cond-true, cond-false}
use Rattle.dg_base.specs.declared.program.GapKind.TheVariants as kinds
use Rattle.dg_base.specs.declared.program.Term.{Term}
use Rattle.dg_base.specs.declared.run.Ending.{Ending}
use Rattle.dg_base.specs.declared.run.Ending.TheVariants.{HeapLimit, TrailLimit}
use Rattle.dg_meaning.specs.Cells.{cells as cells_of}
use Rattle.dg_meaning.specs.Copies.{copy_cells}
use Rattle.dg_meaning.specs.Letters.{letters_in}
use Rattle.dg_meaning.specs.Render.{Met, met_behind}
use Rattle.dg_meaning.specs.Unify.{Unified, size}
use Rattle.dg_meaning.specs.Values.{Value}
use Rattle.dg_meaning.specs.Words.{first_line, behind_first, letters_of}
use Rattle.dg_meaning.specs.World.{GapOf}
use Rattle.dg_mid.specs.State.{Mid}
use Rattle.dg_mid.specs.Step.{bound, trail_more, more}
use Rattle.z_model.specs.declared.end.Halt.{Halt}
use Rattle.z_model.specs.declared.end.Halt.TheVariants.{AtQuit, AtInput}
use Rattle.z_model.specs.Flow.{zeros}
use Rattle.z_model.specs.Run.{ZState, halt_ending}
use Rattle.z_model.specs.Typed.{typed_line}
use Rattle.z_lang.specs.declared.act.Act.{Act}
use Rattle.z_lang.specs.declared.act.Act.TheVariants as acts
use Rattle.z_lang.specs.declared.act.Args.TheVariants as args
use Rattle.z_lang.specs.declared.act.Atom.TheVariants as atoms
use Rattle.z_lang.specs.declared.act.Routine.{Routine}
use Rattle.z_lang.specs.State.{Program, State}
use Rattle.z_lang.specs.Runs.{ActsRun, ActsOutcome, Returns, Stops, Rests, rests, calls, calls_last, done}
use Rattle.z_lang.specs.Leads.{Ends}
use Rattle.z_lang.specs.Standing.{IsKept}
use Rattle.z_lang.proofs.Routines.{routine_follows}
use Rattle.z_lang.proofs.Trampoline.{stops}
use Rattle.dg_rt.specs.declared.numbers.TheConstants.{READ_LINE, LINE_CELLS, WRITTEN_VALUE, BREAK_LINE}
use Rattle.dg_rt.specs.declared.typing.TheConstants.{READ_LINE_ACTS, LINE_CELLS_ACTS, WRITTEN_VALUE_ACTS, BREAK_LINE_ACTS}
use Rattle.dg_rt.specs.inside.Walks.{steps}
use Rattle.dg_rt.specs.Cells.{at_cell, with_cell, replaced}
use Rattle.dg_rt.specs.Areas.{heap_at, state}
use Rattle.dg_rt.specs.Closings.{closing, closing_most}
use Rattle.dg_rt.specs.Copies.{words_of}
use Rattle.dg_rt.specs.CopiesIn.{HasCaptures}
use Rattle.dg_rt.specs.Gaps.{break_word, asked_word, Meets}
use Rattle.dg_rt.specs.RunTime.{routine_of, HasRunTime}
use Rattle.dg_rt.specs.Shapes.{ArePrinted, Shows}
use Rattle.dg_rt.specs.Typing.{ReadsLine, WritesCells, IsWritten, LaysWritten, BreaksLine}
use Rattle.dg_rt.specs.Unifies.{price}
use Rattle.dg_rt.proofs.Cells.{other_cell, same_cell}
use Rattle.dg_rt.proofs.BreakingLines.{break_works}
use Rattle.dg_rt.proofs.CopySteps.{rows_keep}
use Rattle.dg_rt.proofs.Grows.{grown_shows}
use Rattle.dg_rt.proofs.Following.{word as word_is, register, IsPut, puts, copies}
use Rattle.dg_rt.proofs.LaySteps.{kept_cell}
use Rattle.dg_rt.proofs.LineCells.{line_cells_work}
use Rattle.dg_rt.proofs.LineBytes.{few_codes, same_length, codes_are_letters}
use Rattle.dg_rt.proofs.LineValues.{IsSmall, line_is_small}
use Rattle.dg_rt.proofs.ReadingLines.{lines_work}
use Rattle.dg_rt.proofs.Showing.{word_small}
use Rattle.dg_rt.proofs.UnifySteps.{steps_are}
use Rattle.dg_rt.proofs.WrittenValues.{written_works}
use Rattle.dg_turn.specs.Told.{Telling, told_count}
use Rattle.dg_turn.specs.Lies.{StateIn, MidIn}
use Rattle.dg_turn.specs.Plays.{Playing, Outside, Represented, Closes}
use Rattle.dg_turn.specs.Rest.{aux_end}
use Rattle.dg_turn.specs.Terms.{written_in, Wrote}
use Rattle.dg_turn.specs.Texts.{met_words}
use Rattle.dg_turn.specs.Turns.{agreed_next, match_acts, last_acts}
use Rattle.dg_turn.specs.Operating.{term_value, InFront}
use Rattle.dg_turn.specs.World.{value_equation, value_unified}
use Rattle.dg_turn.specs.Typing.{read_acts, input_routine, HasTables, typed_value, input_most, ending_most, EndsAtInput, TakesLine, Typing, InputTurns}
use Rattle.dg_turn.proofs.GapLaws.{spaces_on, asked_on, upper_same, line_none, line_some}
use Rattle.dg_turn.proofs.Growing.{stands_same}
use Rattle.dg_turn.proofs.Grows.{mid_grown}
use Rattle.dg_turn.proofs.Meeting.{meets_here, met_meets, met_others, mid_met}
use Rattle.dg_turn.proofs.Staying.{IsKept as IsKeptRegister, mid_same}
use Rattle.dg_turn.proofs.Terms.{writes_terms, meets_terms}
use Rattle.dg_turn.proofs.Matching.{Goes, matches}
use Rattle.dg_turn.proofs.Ends.{next_small, concludes}
use Rattle.dg_turn.proofs.Moving.{moves_to, closes}
use Rattle.dg_turn.proofs.Within.{mid_world}

-- ## Where the routines stand

read_at : (p : Program) → HasRunTime p → p.routine_at (p.names.routine READ_LINE) ≡ Some (routine_of 4 READ_LINE_ACTS)
read_at p has = has.each 115 (routine_of 4 READ_LINE_ACTS) refl

cells_at : (p : Program) → HasRunTime p → p.routine_at (p.names.routine LINE_CELLS) ≡ Some (routine_of 5 LINE_CELLS_ACTS)
cells_at p has = has.each 120 (routine_of 5 LINE_CELLS_ACTS) refl

written_at : (p : Program) → HasRunTime p → p.routine_at (p.names.routine WRITTEN_VALUE) ≡ Some (routine_of 2 WRITTEN_VALUE_ACTS)
written_at p has = has.each 121 (routine_of 2 WRITTEN_VALUE_ACTS) refl

break_at : (p : Program) → HasRunTime p → p.routine_at (p.names.routine BREAK_LINE) ≡ Some (routine_of 0 BREAK_LINE_ACTS)
break_at p has = has.each 122 (routine_of 0 BREAK_LINE_ACTS) refl

-- ## Acts in a story

-- From the static part on memory is still the story's where acts of a routine have led.
pub acts_keep : (t : Telling) → Playing t → (x : ℕ) (r : Routine) → t.p.routine_at x ≡ Some r → r.locals ≡ 0 → (memory typed output : List ℕ) (drawn : ℕ) → IsKept t.p.world.layout.base t.story memory → (o : ActsOutcome) (s' : State) (n : ℕ) → ActsRun t.p 3500 19000 r.body r.body (state memory [] typed drawn output) o s' n → IsKept t.p.world.layout.base t.story s'.memory
acts_keep t plays x r at none memory typed output drawn kept o s' n runs =
    let place = plays.stands.each x r at in
    let room = plays.room memory typed output drawn in
    let fr = room.frames in
    let wr = room.words in
    (routine_follows t.p t.story plays.stands x r at place.labels place.code_is t.context 3500 19000 n (state memory [] typed drawn output) s' o kept (record { frames = omega arith; words = omega arith }) runs).kept

-- Acts that end the run do so in a turn.
module _ (t : Telling) (plays : Playing t) (out : Outside) (x : ℕ) (m : Mid) (z : ZState) (r : Represented t out x m z) (body : Routine) (there : t.p.routine_at x ≡ Some body) (none : body.locals ≡ 0) where
  pub over : (halt : Halt) (memory' locals' typed' output' : List ℕ) (drawn' n : ℕ) → ActsRun t.p 3500 19000 body.body body.body (state r.memory [] out.typed out.drawn out.output) (Stops halt) (state memory' locals' typed' drawn' output') n → (last : ZState) × (last.output ≡ output') × Ends t.p.world (suc n) z (record { end = halt_ending halt; state = last })
  over halt memory' locals' typed' output' drawn' n runs =
      let high = plays.has.mapped.room in
      let s0 = state r.memory [] out.typed out.drawn out.output in
      let s1 = state memory' locals' typed' drawn' output' in
      let no_locals : take body.locals (0 ∷ 0 ∷ 0 ∷ zeros) ≡ [] = ap (λ (i : ℕ). take i (0 ∷ 0 ∷ 0 ∷ zeros)) none in
      let q = stops t.p t.story plays.stands 16 plays.labels t.pc plays.placed plays.from t.context s0 s1 x 3600 20000 3500 19000 n halt body r.kept (plays.room r.memory out.typed out.output out.drawn) (register t.p s0 r.cells 16 r.holds (omega arith) (omega arith) (omega arith) ∙ ap word_is r.next_is) there (omega arith) (omega arith) (subst (λ (l : List ℕ). ActsRun t.p 3500 19000 body.body body.body (state r.memory l out.typed out.drawn out.output) (Stops halt) s1 n) (sym no_locals) runs) in
      (q.0, q.1, subst (λ (s : ZState). Ends t.p.world (suc n) s (record { end = halt_ending halt; state = q.0 })) (sym r.is) q.2)

  pub closes_anyhow : (n most : ℕ) (ending : Ending) (memory' locals' typed' : List ℕ) → ActsRun t.p 3500 19000 body.body body.body (state r.memory [] out.typed out.drawn out.output) (Stops AtQuit) (state memory' locals' typed' out.drawn (out.output ++ closing (r.cells 28) ending)) n → n + 1 ≤ most → Closes t out ending most z
  closes_anyhow n most ending memory' locals' typed' runs le =
      let q = over AtQuit memory' locals' typed' (out.output ++ closing (r.cells 28) ending) out.drawn n runs in
      record {
        at_end = q.0;
        written = q.1 ∙ ap (λ (i : ℕ). out.output ++ closing i ending) (r.mid.rest.outside.registers 28 (omega arith) (omega arith) (λ e. (omega arith)));
        count = suc n;
        few = omega arith;
        ends = q.2;
      }

-- ## Words outside

-- Those outside, and behind what is gathered these.
abbrev pub joined : (ℕ → ℕ) → (ℕ → ℕ) → ℕ → ℕ
joined outer cells k = if nat_lt k aux_end then outer k else cells k

pub joined_low : (outer cells : ℕ → ℕ) (k : ℕ) → k < aux_end → joined outer cells k ≡ outer k
joined_low outer cells k lt = cond-true (nat_lt k aux_end) (outer k) (cells k) (lt-ltb k aux_end lt)

pub joined_high : (outer cells : ℕ → ℕ) (k : ℕ) → aux_end ≤ k → joined outer cells k ≡ cells k
joined_high outer cells k le = cond-false (nat_lt k aux_end) (outer k) (cells k) (le-ltb k aux_end le)

-- What the next piece meets behind a line.
line_met : (cells cells' : ℕ → ℕ) (met : Met) → Meets cells met → cells' 30 ≡ (if cells 30 == 0 then 1 else cells 30) → cells' 31 ≡ 0 → ((k : ℕ) → k ≢ 30 → k ≢ 31 → cells' k ≡ cells k) → Meets cells' (met_behind met (GapOf kinds.Line))
line_met cells cells' met h lines spaces others =
    let e = GapOf kinds.Line in
    record {
      last = others 28 (λ q. (omega arith)) (λ q. (omega arith)) ∙ h.last;
      lines = lines ∙ by_break;
      spaces = spaces ∙ sym (spaces_on 0 met.gap e);
      asked = others 32 (λ q. (omega arith)) (λ q. (omega arith)) ∙ h.asked ∙ ap asked_word (sym (asked_on None met.gap e));
      upper = others 33 (λ q. (omega arith)) (λ q. (omega arith)) ∙ h.upper ∙ sym (upper_same met.gap e refl);
    }
  where
    by_break : (if cells 30 == 0 then 1 else cells 30) ≡ break_word (met.gap ++ GapOf kinds.Line ∷ [])
    by_break = elim (cases_eq (cells 30) 0) [
      | inl none ↦ cond-true (cells 30 == 0) 1 (cells 30) (eq-eqb (cells 30) 0 none) ∙ sym (line_none met.gap (sym h.lines ∙ none))
      | inr some ↦ cond-false (cells 30 == 0) 1 (cells 30) (ne_eqb (cells 30) 0 some) ∙ h.lines ∙ sym (line_some met.gap (λ q. some (h.lines ∙ q)))
    ]

-- ## The turn

module _ (t : Telling) (plays : Playing t) (tables : HasTables t) (out : Outside) (met : Met) (a : Term) (behind : ℕ) (m : Mid) (z : ZState) (meets : Meets out.words met) (e : InFront t out (input_routine t.program a behind) (a ∷ []) m z) where
  abbrev r : Represented t out e.x m z
  r = e.rep

  abbrev ts : List Term
  ts = a ∷ []

  abbrev n : ℕ
  n = cells_of t.program ts

  abbrev va : Value
  va = term_value t.program m a

  abbrev routine : Routine
  routine = input_routine t.program a behind

  abbrev matching : List Act
  matching = match_acts 32 52 1 ++ last_acts behind

  abbrev rest1 : List Act
  rest1 = read_acts ++ matching

  abbrev now : List ℕ → List ℕ → State
  now typed memory = state memory [] typed out.drawn out.output

  abbrev Run : List Act → State → ActsOutcome → State → ℕ → Type 0
  Run acts s o s' k = ActsRun t.p 3500 19000 routine.body acts s o s' k

  abbrev Written : Type 0
  Written = Wrote t out.words 3500 19000 routine.body rest1 routine.body r.sh r.memory out.typed out.output out.drawn r.cells r.trail m n 32 (va ∷ []) (written_in t.program ts + 6)

  no_room : 10000 < m.state.heap + n → Closes t out HeapLimit (10 + closing_most) z
  no_room over' =
      let k = meets_terms t plays.has 3500 19000 r.sh r.memory out.typed out.output out.drawn r.cells r.trail m r.holds r.mid routine.body (omega arith) (omega arith) rest1 32 ts over' in
      let few = k.few in
      closes t plays out e.x m z r routine e.there (omega arith) k.count (10 + closing_most) HeapLimit k.memory' k.locals' k.runs (omega arith)

  written : m.state.heap + n ≤ 10000 → Written
  written room = writes_terms t plays.has 3500 19000 r.sh r.memory out.typed out.output out.drawn r.cells r.trail m r.holds r.mid routine.body (omega arith) (omega arith) rest1 32 ts (omega arith) (omega arith) (λ q. absurd (omega arith)) e.nodes room

  -- the input has ended
  ends_here : Written → out.typed ≡ [] → EndsAtInput t out (ending_most t.program a) z
  ends_here w1 none =
      let k = lines_work.ends t.p plays.has 3400 15000 w1.memory' out.output out.drawn w1.cells' w1.holds in
      let few1 = w1.few in
      let few2 = k.few in
      let e1 = steps_are w1.count (suc k.count) in
      let last : Run rest1 (now [] w1.memory') (Stops AtInput) (state k.memory' k.locals' [] out.drawn out.output) (suc k.count) = calls_last {f' = 3400} {w' = 15000} {n = k.count} {xs = (0, 0, 0)} refl refl (read_at t.p plays.has) (omega arith) (omega arith) k.runs in
      let all = w1.runs (Stops AtInput) (state k.memory' k.locals' [] out.drawn out.output) (suc k.count) (subst (λ (l : List ℕ). Run rest1 (now l w1.memory') (Stops AtInput) (state k.memory' k.locals' [] out.drawn out.output) (suc k.count)) (sym none) last) in
      let q = over t plays out e.x m z r routine e.there refl AtInput k.memory' k.locals' [] out.output out.drawn (steps w1.count (suc k.count)) all in
      record { at_end = q.0; written = q.1; count = suc (steps w1.count (suc k.count)); some = omega arith; few = omega arith; ends = q.2 }

  -- ## A line

  module _ (byte : ℕ) (typed : List ℕ) (typed_is : out.typed ≡ byte ∷ typed) (w1 : Written) where
    abbrev bytes : List ℕ
    bytes = byte ∷ typed

    abbrev left : List ℕ
    left = behind_first bytes

    abbrev letters : List ℕ
    letters = letters_of (first_line bytes)

    abbrev v : Value
    v = typed_value t.program bytes

    abbrev captures : ℕ → ℕ
    captures place = told_count t.program place

    small : ArePrinted letters → IsSmall captures v (9 * length letters) (2 * length letters + 1) (3 * length letters + 1)
    small shown = line_is_small captures t.program.words tables.words.few letters shown

    -- it is read
    abbrev ReadLine : Type 0
    ReadLine = ReadsLine t.p t.story 3400 15000 w1.memory' out.output out.drawn byte typed w1.cells'

    reads_line : ReadLine
    reads_line =
        let kept = acts_keep t plays e.x routine e.there refl r.memory out.typed out.output out.drawn r.kept (Rests rest1) (now out.typed w1.memory') (steps w1.count 0) (w1.runs (Rests rest1) (now out.typed w1.memory') 0 rests) in
        lines_work.reads t.p plays.has t.story 3400 15000 (omega arith) (omega arith) w1.memory' out.output out.drawn byte typed w1.cells' w1.holds kept

    module _ (q1 : ReadLine) (many : length letters ≤ 200) where
      abbrev memory2 : List ℕ
      memory2 = with_cell q1.memory' 36 (length letters)

      abbrev c2 : ℕ → ℕ
      c2 = replaced q1.cells' 36 (length letters)

      put_2 : IsPut t.p (now left q1.memory') q1.cells' 52 (length letters)
      put_2 = let high = plays.has.mapped.room in puts t.p (now left q1.memory') q1.cells' 52 (length letters) q1.holds (omega arith) (omega arith) (omega arith) (omega arith)

      abbrev LineWritten : Type 0
      LineWritten = WritesCells t.p t.story v c2 15315 (λ x memory' locals' count. ActsRun t.p 3400 15000 LINE_CELLS_ACTS LINE_CELLS_ACTS (state memory2 (length letters ∷ 0 ∷ 0 ∷ 0 ∷ 0 ∷ []) left out.drawn out.output) (Returns x) (state memory' locals' left out.drawn out.output) count) (150 * (length letters * (1 + length t.program.words)) + 20)

      writes_line : LineWritten
      writes_line =
          let high = plays.has.mapped.room in
          line_cells_work t.p plays.has t.story t.program.words tables.words 3400 15000 (omega arith) (omega arith) memory2 left out.output out.drawn c2 put_2.holds
          (kept_cell t.p.world.layout.base t.story q1.memory' 36 (length letters) (omega arith) q1.kept) letters many
          (rows_keep q1.cells' c2 15745 letters (λ k from to. other_cell q1.cells' 36 (length letters) k (λ (y : k ≡ 36). (omega arith))) q1.row)

      module _ (q2 : LineWritten) where
        abbrev x3 : ℕ
        x3 = at_cell (15315 + length (words_of v))

        abbrev memory3 : List ℕ
        memory3 = with_cell q2.memory' 36 x3

        abbrev c3 : ℕ → ℕ
        c3 = replaced q2.cells' 36 x3

        short : length (words_of v) ≤ 630
        short = let s = (small q1.printed).short in omega arith

        put_3 : IsPut t.p (now left q2.memory') q2.cells' 52 x3
        put_3 = let high = plays.has.mapped.room in let le = short in puts t.p (now left q2.memory') q2.cells' 52 x3 q2.holds (omega arith) (omega arith) (omega arith) (omega arith)

        -- what has changed since the terms were written
        same_3 : (k : ℕ) → k ≢ 36 → (15315 ≤ k → 15945 ≤ k) → c3 k ≡ w1.cells' k
        same_3 k ne far =
            let le = short in
            other_cell q2.cells' 36 x3 k ne ∙ q2.others k (λ z'. (let y = far z' in omega arith)) ∙ other_cell q1.cells' 36 (length letters) k ne ∙ q1.others k far

        told : HasCaptures t.p t.story w1.sh'.captures
        told = record {
          has = plays.has;
          told = λ memory place lt few kept.
              let same = w1.mid.state.told place in
              tables.captures.told memory place lt (omega arith) kept ∙ ap (λ (i : ℕ). Some i) (sym same);
        }

        is_written : IsWritten t.p t.story w1.sh'.captures memory3 c3 v
        is_written =
            let high = plays.has.mapped.room in
            let le = short in
            let s = line_is_small w1.sh'.captures t.program.words tables.words.few letters q1.printed in
            let few = s.few_cells in
            record {
              told = told;
              holds = put_3.holds;
              kept = kept_cell t.p.world.layout.base t.story q2.memory' 36 x3 (omega arith) q2.kept;
              formed = s.formed;
              free = s.free;
              small = omega arith;
              row = rows_keep q2.cells' c3 15315 (words_of v) (λ k from to. other_cell q2.cells' 36 x3 k (λ (y : k ≡ 36). (omega arith))) q2.row;
              within = omega arith;
            }

        heap_is : c3 3 ≡ w1.sh'.top
        heap_is = same_3 3 (λ y. (omega arith)) (λ y. (omega arith)) ∙ w1.mid.heap ∙ sym w1.mid.state.heap

        -- up to the value
        to_value : (o : ActsOutcome) (s' : State) (k : ℕ) → Run (acts.Call (Some 52) (atoms.Routine WRITTEN_VALUE) (args.One (atoms.Var 52)) ∷ acts.Call None (atoms.Routine BREAK_LINE) args.Zero ∷ acts.Copy 29 (atoms.Num 0) ∷ matching) (now left memory3) o s' k → Run routine.body (now out.typed r.memory) o s' (steps w1.count (suc q1.count + (suc q2.count + k)))
        to_value o s' k go =
            let high = plays.has.mapped.room in
            let on = calls {f' = 3400} {w' = 15000} {n = q1.count} {n' = suc q2.count + k} {xs = (0, 0, 0)} {s2 = now left memory2} refl refl (read_at t.p plays.has) (omega arith) (omega arith) q1.runs put_2.put_is
            (calls {f' = 3400} {w' = 15000} {n = q2.count} {n' = k} {xs = (length letters, 0, 0)} {s2 = now left memory3} refl (rw (register t.p (now left memory2) c2 52 put_2.holds (omega arith) (omega arith) (omega arith) ∙ ap word_is (same_cell q1.cells' 36 (length letters))) refl) (cells_at t.p plays.has) (omega arith) (omega arith) q2.runs put_3.put_is go) in
            w1.runs o s' (suc q1.count + (suc q2.count + k)) (subst (λ (l : List ℕ). Run rest1 (now l w1.memory') o s' (suc q1.count + (suc q2.count + k))) (sym typed_is) on)

        -- the value doesn't fit
        value_full : 10000 < m.state.heap + n + copy_cells v → Closes t out HeapLimit (input_most t.program a bytes m + closing_most) z
        value_full over' =
            let high = plays.has.mapped.room in
            let heap = heap_is in
            let top = w1.mid.state.heap in
            let low = w1.mid.state.few in
            let k = written_works.meets t.p t.story w1.sh'.captures 3400 15000 memory3 left out.output out.drawn c3 v is_written (omega arith) (omega arith) (omega arith) (omega arith) in
            let few1 = w1.few in
            let few2 = q1.few in
            let few3 = q2.few in
            let few4 = k.few in
            let e1 = steps_are w1.count (suc q1.count + (suc q2.count + suc k.count)) in
            let last : c3 28 ≡ r.cells 28 = same_3 28 (λ y. (omega arith)) (λ y. (omega arith)) ∙ w1.others 28 (λ y. (omega arith)) (λ y. (omega arith)) (λ y. (omega arith)) (λ y. (omega arith)) (omega arith) in
            let final = state k.memory' [] left out.drawn (out.output ++ closing (c3 28) HeapLimit) in
            let on : Run (acts.Call (Some 52) (atoms.Routine WRITTEN_VALUE) (args.One (atoms.Var 52)) ∷ acts.Call None (atoms.Routine BREAK_LINE) args.Zero ∷ acts.Copy 29 (atoms.Num 0) ∷ matching) (now left memory3) (Stops AtQuit) final (suc k.count) = calls_last {f' = 3400} {w' = 15000} {n = k.count} {xs = (x3, 0, 0)} refl (rw (register t.p (now left memory3) c3 52 put_3.holds (omega arith) (omega arith) (omega arith) ∙ ap word_is (same_cell q2.cells' 36 x3)) refl) (written_at t.p plays.has) (omega arith) (omega arith) k.runs in
            closes_anyhow t plays out e.x m z r routine e.there refl (steps w1.count (suc q1.count + (suc q2.count + suc k.count))) (input_most t.program a bytes m + closing_most) HeapLimit k.memory' [] left
            (subst (λ (j : ℕ). Run routine.body (now out.typed r.memory) (Stops AtQuit) (state k.memory' [] left out.drawn (out.output ++ closing j HeapLimit)) (steps w1.count (suc q1.count + (suc q2.count + suc k.count)))) last
            (to_value (Stops AtQuit) final (suc k.count) on))
            (omega arith)

        -- it is laid
        abbrev Laid : Type 0
        Laid = LaysWritten t.p 3400 15000 memory3 left out.output out.drawn c3 w1.sh' m.state.subst v (38 * size v + 8 * letters_in v + 12)

        lays_it : m.state.heap + n + copy_cells v ≤ 10000 → Laid
        lays_it room =
            let high = plays.has.mapped.room in
            let s = w1.mid.state in
            let top = s.heap in
            let nodes = (line_is_small captures t.program.words tables.words.few letters q1.printed).few_nodes in
            written_works.lays t.p t.story w1.sh' 3400 15000 memory3 left out.output out.drawn c3 v is_written (omega arith) (omega arith) s.shape s.low m.state.subst
            (stands_same w1.sh' w1.cells' c3 m.state.subst s.low (λ k lt. (let few = s.shape.room in same_3 (heap_at + k) (λ y. (omega arith)) (λ y. (omega arith)))) s.stands)
            s.known heap_is (omega arith)

        module _ (q3 : Laid) (fits : m.state.heap + n + copy_cells v ≤ 10000) where
          abbrev m2 : Mid
          m2 = more (copy_cells v) (more n m)

          abbrev memory4 : List ℕ
          memory4 = with_cell q3.memory' 36 q3.word

          abbrev c4 : ℕ → ℕ
          c4 = replaced q3.cells' 36 q3.word

          small_word : q3.word < 65536
          small_word = word_small q3.shape q3.shows

          put_4 : IsPut t.p (now left q3.memory') q3.cells' 52 q3.word
          put_4 = let high = plays.has.mapped.room in puts t.p (now left q3.memory') q3.cells' 52 q3.word q3.holds (omega arith) (omega arith) (omega arith) small_word

          abbrev outer4 : ℕ → ℕ
          outer4 = joined out.words c4

          -- words in front of the areas, and those behind as they were
          abbrev hybrid : ℕ → ℕ
          hybrid k = if nat_lt k aux_end then c4 k else w1.cells' k

          hybrid_low : (k : ℕ) → k < aux_end → hybrid k ≡ c4 k
          hybrid_low k lt = cond-true (nat_lt k aux_end) (c4 k) (w1.cells' k) (lt-ltb k aux_end lt)

          hybrid_high : (k : ℕ) → aux_end ≤ k → hybrid k ≡ w1.cells' k
          hybrid_high k le = cond-false (nat_lt k aux_end) (c4 k) (w1.cells' k) (le-ltb k aux_end le)

          same_4 : (k : ℕ) → k ≢ 3 → k ≢ 36 → k ≢ 38 → k ≢ 39 → (heap_at + w1.sh'.top ≤ k → heap_at + (w1.sh'.top + copy_cells v) ≤ k) → (15315 ≤ k → 15945 ≤ k) → c4 k ≡ w1.cells' k
          same_4 k n3 n36 n38 n39 far far' = other_cell q3.cells' 36 q3.word k n36 ∙ q3.others k n3 n38 n39 far ∙ same_3 k n36 far'

          grown_state : StateIn t q3.sh' hybrid r.trail m2.state
          grown_state =
              let s = w1.mid.state in
              let top = q3.top in
              let heap = s.heap in
              let vars = q3.vars in
              let vars' = s.vars in
              record {
                shape = q3.shape;
                low = q3.low;
                stands = stands_same q3.sh' q3.cells' hybrid m.state.subst q3.low (λ k lt. (let few = q3.shape.room in hybrid_low (heap_at + k) (omega arith) ∙ other_cell q3.cells' 36 q3.word (heap_at + k) (λ y. (omega arith)))) q3.stands;
                known = λ i le. s.known i (omega arith);
                heap = omega arith;
                vars = omega arith;
                trail_len = s.trail_len;
                few = omega arith;
                few_trail = s.few_trail;
                told = λ place. q3.grown.told place ∙ s.told place;
              }

          mid_hybrid : MidIn t out.words q3.sh' hybrid r.trail m2
          mid_hybrid =
              let top = w1.mid.state.heap in
              let heap : hybrid 3 ≡ m2.state.heap = (let a1 = q3.heap in let b1 = heap_is in hybrid_low 3 (omega arith) ∙ other_cell q3.cells' 36 q3.word 3 (λ y. (omega arith)) ∙ a1 ∙ (omega arith)) in
              mid_grown t w1.sh' q3.sh' w1.cells' hybrid r.trail (more n m) m2.state q3.grown q3.boxes (λ i le lt. (let vars = q3.vars in absurd (omega arith))) refl refl heap
              (λ k n0 n3 kept far. by_side k n3 kept far (cases_lt k aux_end)) grown_state w1.mid
            where
              by_side : (k : ℕ) → k ≢ 3 → IsKeptRegister k → (heap_at + w1.sh'.top ≤ k → 10315 ≤ k) → (k < aux_end) ⊎ (aux_end ≤ k) → hybrid k ≡ w1.cells' k
              by_side k n3 kept far (inl lt) =
                  let few = w1.mid.state.few in
                  let top = w1.mid.state.heap in
                  hybrid_low k lt ∙ same_4 k n3 (λ y. (let q = kept.1 (omega arith) in omega arith)) (λ y. (let q = kept.1 (omega arith) in omega arith)) (λ y. (let q = kept.1 (omega arith) in omega arith)) (λ y. (let q = far y in omega arith)) (λ y. absurd (omega arith))
              by_side k n3 kept far (inr le) = hybrid_high k le

          mid_4 : MidIn t outer4 q3.sh' c4 r.trail m2
          mid_4 = mid_world t q3.sh' hybrid c4 r.trail m2 outer4 (λ k n0 kept lt. sym (hybrid_low k lt)) (λ k lt. joined_low out.words c4 k lt) (λ k le. sym (joined_high out.words c4 k le)) mid_hybrid

          meets_4 : Meets outer4 met
          meets_4 = record {
            last = joined_low out.words c4 28 (omega arith) ∙ meets.last;
            lines = joined_low out.words c4 30 (omega arith) ∙ meets.lines;
            spaces = joined_low out.words c4 31 (omega arith) ∙ meets.spaces;
            asked = joined_low out.words c4 32 (omega arith) ∙ meets.asked;
            upper = joined_low out.words c4 33 (omega arith) ∙ meets.upper;
          }

          -- the text breaks
          abbrev Broken : Type 0
          Broken = BreaksLine t.p 3400 15000 memory4 left out.output out.drawn c4

          breaks : Broken
          breaks = break_works t.p plays.has 3400 15000 memory4 left out.output out.drawn c4 put_4.holds

          module _ (q4 : Broken) where
            abbrev later : Met
            later = met_behind met (GapOf kinds.Line)

            abbrev words6 : ℕ → ℕ
            words6 = met_words later outer4

            abbrev memory6 : List ℕ
            memory6 = with_cell q4.memory' 13 0

            abbrev c6 : ℕ → ℕ
            c6 = replaced q4.cells' 13 0

            meets_5 : Meets q4.cells' later
            meets_5 = line_met c4 q4.cells' met (meets_here outer4 c4 met mid_4.rest.outside meets_4) q4.lines q4.spaces q4.others

            put_6 : IsPut t.p (now left q4.memory') q4.cells' 29 0
            put_6 = let high = plays.has.mapped.room in puts t.p (now left q4.memory') q4.cells' 29 0 q4.holds (omega arith) (omega arith) (omega arith) (omega arith)

            mid_6 : MidIn t words6 q3.sh' c6 r.trail m2
            mid_6 =
                mid_same t q3.sh' q4.cells' c6 r.trail m2 (λ k ne far. other_cell q4.cells' 13 0 k (λ (y : k ≡ 13). (let q = far.0 (omega arith) in omega arith)))
                (mid_met t q3.sh' c4 q4.cells' r.trail m2 later (λ k n0 n28 n30 n31 n32 n33 kept. q4.others k n30 n31) meets_5 mid_4)

            abbrev u : Unified
            u = value_unified t.program a v m

            shows_term : Shows q3.sh' (c6 16) va
            shows_term =
                let same : c6 16 ≡ w1.cells' 16 = other_cell q4.cells' 13 0 16 (λ y. (omega arith)) ∙ q4.others 16 (λ y. (omega arith)) (λ y. (omega arith)) ∙ same_4 16 (λ y. (omega arith)) (λ y. (omega arith)) (λ y. (omega arith)) (λ y. (omega arith)) (λ y. (omega arith)) (λ y. (omega arith)) in
                subst (λ (i : ℕ). Shows q3.sh' i va) (sym same) (grown_shows q3.grown w1.words.0)

            shows_line : Shows q3.sh' (c6 36) v
            shows_line =
                let same : c6 36 ≡ q3.word = other_cell q4.cells' 13 0 36 (λ y. (omega arith)) ∙ q4.others 36 (λ y. (omega arith)) (λ y. (omega arith)) ∙ same_cell q3.cells' 36 q3.word in
                subst (λ (i : ℕ). Shows q3.sh' i v) (sym same) q3.shows

            matched : Goes t words6 3500 19000 routine.body (last_acts behind) matching q3.sh' memory6 left out.output out.drawn c6 m2 u (price m.state.subst (value_equation t.program a v m) + 6 * 1)
            matched = matches t words6 plays.has 3500 19000 (omega arith) (omega arith) q3.sh' left out.output out.drawn routine.body (last_acts behind) 1 32 52 memory6 c6 r.trail m2 (va ∷ []) (v ∷ []) refl refl put_6.holds mid_6 (same_cell q4.cells' 13 0) (omega arith) (omega arith) (omega arith) (omega arith) (shows_term, tt) (shows_line, tt)

            abbrev count_to : ℕ → ℕ
            count_to k = steps w1.count (suc q1.count + (suc q2.count + (suc q3.count + (suc q4.count + suc k))))

            -- up to the match
            to_match : (o : ActsOutcome) (s' : State) (k : ℕ) → Run matching (now left memory6) o s' k → Run routine.body (now out.typed r.memory) o s' (count_to k)
            to_match o s' k go =
                let high = plays.has.mapped.room in
                to_value o s' (suc q3.count + (suc q4.count + suc k))
                (calls {f' = 3400} {w' = 15000} {n = q3.count} {n' = suc q4.count + suc k} {xs = (x3, 0, 0)} {s2 = now left memory4} refl (rw (register t.p (now left memory3) c3 52 put_3.holds (omega arith) (omega arith) (omega arith) ∙ ap word_is (same_cell q2.cells' 36 x3)) refl) (written_at t.p plays.has) (omega arith) (omega arith) q3.runs put_4.put_is
                (calls {f' = 3400} {w' = 15000} {n = q4.count} {n' = suc k} {xs = (0, 0, 0)} {s2 = now left q4.memory'} refl refl (break_at t.p plays.has) (omega arith) (omega arith) q4.runs refl
                (done (copies t.p (now left q4.memory') (now left memory6) 29 (atoms.Num 0) 0 refl put_6.put_is) go)))

            all_few : (k all : ℕ) → written_in t.program ts + 80 * length letters + 150 * (length letters * (1 + length t.program.words)) + 38 * size v + 8 * letters_in v + 380 + k ≤ all → count_to k ≤ all
            all_few k all le =
                let few1 = w1.few in
                let few2 = q1.few in
                let few3 = q2.few in
                let few4 = q3.few in
                let few5 = q4.few in
                let e1 = steps_are w1.count (suc q1.count + (suc q2.count + (suc q3.count + (suc q4.count + suc k)))) in
                omega arith

            words_same : (k : ℕ) → k ≢ 28 → k ≢ 30 → k ≢ 31 → k ≢ 32 → k ≢ 33 → (15315 ≤ k → 15945 ≤ k) → words6 k ≡ out.words k
            words_same k n28 n30 n31 n32 n33 far = met_others later outer4 k n28 n30 n31 n32 n33 ∙ by_side (cases_lt k aux_end)
              where
                by_side : (k < aux_end) ⊎ (aux_end ≤ k) → outer4 k ≡ out.words k
                by_side (inl lt) = joined_low out.words c4 k lt
                by_side (inr le) =
                    let few = w1.mid.state.few in
                    let top = w1.mid.state.heap in
                    joined_high out.words c4 k le ∙ same_4 k (λ y. (omega arith)) (λ y. (omega arith)) (λ y. (omega arith)) (λ y. (omega arith)) (λ y. (omega arith)) far ∙ w1.mid.rest.outside.areas k le

            takes_line : trail_more m.state u ≤ 2000 → TakesLine t out met bytes (agreed_next t.p behind u.agrees) (bound u m2) (input_most t.program a bytes m) z
            takes_line few =
                let g = matched.matched few in
                let y = agreed_next t.p behind u.agrees in
                let last = concludes t.p plays.has plays.words 3500 19000 (omega arith) (omega arith) routine.body g.memory' left out.output out.drawn behind g.cells' g.holds u.agrees g.clash in
                let few3 = g.few in
                let e2 = steps_are g.count 4 in
                record {
                  words' = words6;
                  meets = met_meets later outer4;
                  others = λ k n28 n30 n31 n32 n33 far. words_same k n28 n30 n31 n32 n33 far;
                  comes = moves_to t plays out e.x m z r routine e.there (omega arith) (record out { typed = left; words = words6 }) y (count_to (steps g.count 4)) (input_most t.program a bytes m) last.memory' [] last.cells' q3.sh' g.trail' (bound u m2)
                      (to_match (Returns y) (now left last.memory') (steps g.count 4) (g.runs (Returns y) (now left last.memory') 4 last.runs))
                      last.holds (next_small t.p plays.words behind u.agrees) (mid_same t q3.sh' g.cells' last.cells' g.trail' (bound u m2) (λ j ne far. last.others j (λ (q : j ≡ 36). (let w = far.1 (omega arith) in omega arith))) g.mid) (let few' = all_few (steps g.count 4) (input_most t.program a bytes m - 2) (omega arith) in omega arith);
                }

            trail_full : 2000 < trail_more m.state u → Closes t out TrailLimit (input_most t.program a bytes m + closing_most) z
            trail_full over' =
                let g = matched.full over' in
                let few3 = g.few in
                let last : c6 28 ≡ r.cells 28 = other_cell q4.cells' 13 0 28 (λ y. (omega arith)) ∙ q4.others 28 (λ y. (omega arith)) (λ y. (omega arith)) ∙ same_4 28 (λ y. (omega arith)) (λ y. (omega arith)) (λ y. (omega arith)) (λ y. (omega arith)) (λ y. (omega arith)) (λ y. (omega arith)) ∙ w1.others 28 (λ y. (omega arith)) (λ y. (omega arith)) (λ y. (omega arith)) (λ y. (omega arith)) (omega arith) in
                closes_anyhow t plays out e.x m z r routine e.there refl (count_to g.count) (input_most t.program a bytes m + closing_most) TrailLimit g.memory' g.locals' left
                (subst (λ (j : ℕ). Run routine.body (now out.typed r.memory) (Stops AtQuit) (state g.memory' g.locals' left out.drawn (out.output ++ closing j TrailLimit)) (count_to g.count)) last
                (to_match (Stops AtQuit) (state g.memory' g.locals' left out.drawn (out.output ++ closing (c6 28) TrailLimit)) g.count g.runs))
                (let few' = all_few g.count (input_most t.program a bytes m + closing_most - 1) (omega arith) in omega arith)

  -- ## All of it

  few_letters : (bytes : List ℕ) → length (letters_of (first_line bytes)) ≤ 200
  few_letters bytes = let e1 = few_codes bytes in let e2 = same_length (typed_line 200 bytes) in let e3 = ap (λ (l : List ℕ). length l) (codes_are_letters bytes) in omega arith

  pub typing : Typing t out met a behind m z
  typing = record {
    ends = λ room none. ends_here (written room) none;
    takes = λ byte typed is fits few.
        let w1 = written (omega arith) in
        let many = few_letters (byte ∷ typed) in
        let q1 = reads_line byte typed is w1 in
        let q2 = writes_line byte typed is w1 q1 many in
        let q3 = lays_it byte typed is w1 q1 many q2 fits in
        takes_line byte typed is w1 q1 many q2 q3 fits (breaks byte typed is w1 q1 many q2 q3 fits) few;
    meets_heap = λ over'. no_room over';
    meets_value = λ byte typed is room over'.
        let w1 = written room in
        let many = few_letters (byte ∷ typed) in
        let q1 = reads_line byte typed is w1 in
        value_full byte typed is w1 q1 many (writes_line byte typed is w1 q1 many) over';
    meets_trail = λ byte typed is fits over'.
        let w1 = written (omega arith) in
        let many = few_letters (byte ∷ typed) in
        let q1 = reads_line byte typed is w1 in
        let q2 = writes_line byte typed is w1 q1 many in
        let q3 = lays_it byte typed is w1 q1 many q2 fits in
        trail_full byte typed is w1 q1 many q2 q3 fits (breaks byte typed is w1 q1 many q2 q3 fits) over';
  }

pub input_turns : InputTurns
input_turns t plays tables out met a behind m z meets e = typing t plays tables out met a behind m z meets e
