-- The points of a run of code tell the truth of its game, and come in time.
use Rattle.std.proofs.Common.{◌≡◌, ℕ, zero, suc, ◌+◌, ◌-◌, ◌*◌, ◌<◌, ◌≤◌, Bool, true, false, List, ◌⊎◌, inl, inr, ⊎_elim, refl, sym, ap, ◌∙◌, subst, arith}
use Rattle.std.proofs.lemmas.Bool.{cases_lt}
use Rattle.dg_base.specs.declared.run.Ending.{Ending}
use Rattle.dg_base.specs.declared.run.Ending.TheVariants as endings
use Rattle.dg_meaning.specs.World.{Game, World, Print, prints}
use Rattle.dg_meaning.specs.Render.{render}
use Rattle.dg_meaning.specs.Search.{answer}
use Rattle.dg_meaning.specs.Transcript.{text_of, Run, run_of, run, closed, line_of, transcript, closed_text}
use Rattle.dg_base.specs.Begins.{Begins}
use Rattle.dg_meaning.specs.Peaks.{Area, Heap, Trail, Aux, Keep, greatest, peak, limit_of, limit_ending}
use Rattle.dg_meaning.proofs.OneRun.{begins_same, begins_on}
use Rattle.dg_meaning.proofs.Limits.{later_run, limit_covers}
use Rattle.dg_mid.specs.declared.code.Code.{Code}
use Rattle.dg_mid.specs.Codes.{Codes}
use Rattle.dg_mid.specs.Laws.{RunsAsSearched, CostsItsWork, LooksItsWork, MovesOn, NoStepLimit}
use Rattle.dg_mid.specs.State.{Status, Runs, Enters, Resumes, Fails, Ended}
use Rattle.dg_mid.specs.Step.{Setting, setting, takes_goal}
use Rattle.dg_mid.specs.Units.{units, selects, one_if}
use Rattle.dg_mid.specs.Potential.{Tidy, IsOver}
use Rattle.dg_mid.specs.Reads.{At, EndedAt, HasEnded, MeetsLimit}
use Rattle.dg_mid.specs.Heights.{StatusOrdered}
use Rattle.dg_mid.specs.Runs.{Point, after, IsAt}
use Rattle.z_model.specs.Run.{ZGiven, ZState, zrun}
use Rattle.dg_mid.proofs.Whole.{at_limit}
use Rattle.z_model.specs.declared.end.ZEnd.{ZEnd}
use Rattle.z_model.specs.declared.end.ZEnd.TheVariants as ends
use Rattle.z_lang.specs.Turns.{Turn, To, Over as IsOverWith, printed_by}
use Rattle.dg_chain.specs.Agrees.{story_limits, Fits, IsDone, IsCut, of_body, of_transcript, of_limit, EndsWhole, by_done, by_input, by_limit, IsLimitText, IsThere, IsAtLimit, printed_body}
use Rattle.dg_chain.specs.Steps.{end_of, written_with, Standing, is_resumed, StepsAreTurns, Starts, StoriesFit}
use Rattle.dg_chain.proofs.FitsBy.{fits}
use Rattle.dg_chain.specs.inside.Tells.{InTime, reached, over, Tells}
use Rattle.dg_chain.proofs.Happened.{text_grows, at_happened, printed_begins, part_of}
use Rattle.dg_chain.proofs.Points.{points, resumed_at, behind, turning, next_is, second_is, cost_once, cost_twice, on_before, rests_before, reaches, over_or, turn_to, Before, turns, first}

module _ (g : Game) (code : Code) (typed : List ℕ) (codes : Codes g.program code) (searched : RunsAsSearched) where
  abbrev set : Setting
  set = setting g code story_limits

  abbrev point : ℕ → Point
  point k = points g code typed k

  is_at : (k : ℕ) → IsAt set g typed (point k)
  is_at k = searched g code story_limits codes typed k

  -- ## Ends

  -- the search has ended so
  done_ended : (e : Ending) (ps : List Print) (n : ℕ) (w : World) (r : Run) → IsDone e → EndedAt set e ps n w r → HasEnded e ps n w r
  done_ended endings.Done ps n w r d h = h
  done_ended endings.Quit ps n w r d h = h
  done_ended endings.Failed ps n w r d h = h
  done_ended endings.Stopped ps n w r d h = h
  done_ended endings.InputEnded ps n w r d h = absurd d
  done_ended endings.StepLimit ps n w r d h = absurd d
  done_ended endings.HeapLimit ps n w r d h = absurd d
  done_ended endings.TrailLimit ps n w r d h = absurd d
  done_ended endings.AuxLimit ps n w r d h = absurd d
  done_ended endings.KeepLimit ps n w r d h = absurd d

  -- The run of so many goals has ended so, with this transcript.
  record IsDoneSo (k : ℕ) (e : Ending) (n : ℕ) : Type 0 where
    ending : (run g typed n).ending ≡ e
    whole : closed_text (point k).prints (line_of e) ≡ transcript g typed n

  done_so : (k : ℕ) (e : Ending) (n : ℕ) → (point k).now ≡ Ended e → IsDone e → (point k).goals ≤ n → IsDoneSo k e n
  done_so k e n is d le =
      let p = point k in
      let m = n - p.goals in
      let all : p.goals + m ≡ n = omega arith in
      let c = (is_at k).comes m in
      let at : EndedAt set e p.prints m c.world (run g typed (p.goals + m)) = subst (λ (now : Status). At set now p.prints g m c.world (run g typed (p.goals + m))) is c.at in
      let h = done_ended e p.prints m c.world (run g typed (p.goals + m)) d at in
      let r : run g typed n ≡ run_of (answer m c.world h.result) = ap (run g typed) (sym all) ∙ h.is in
      record {
        ending = ap (λ (x : Run). x.ending) r ∙ h.ending_is;
        whole = ap (λ (l : List Print). closed_text l (line_of e)) (sym h.printed) ∙ ap (λ (x : Ending). closed c.world.events (line_of x)) (sym h.ending_is) ∙ sym (ap (λ (x : Run). closed x.world.events (line_of x.ending)) r);
      }

  -- The input has ended so.
  record IsInputSo (k : ℕ) (n : ℕ) : Type 0 where
    ending : (run g typed n).ending ≡ endings.InputEnded
    body : render (point k).prints ≡ printed_body g typed n

  input_so : (k n : ℕ) → (point k).now ≡ Ended endings.InputEnded → (point k).goals ≤ n → IsInputSo k n
  input_so k n is le =
      let p = point k in
      let m = n - p.goals in
      let all : p.goals + m ≡ n = omega arith in
      let c = (is_at k).comes m in
      let h : HasEnded endings.InputEnded p.prints m c.world (run g typed (p.goals + m)) = subst (λ (now : Status). At set now p.prints g m c.world (run g typed (p.goals + m))) is c.at in
      let r : run g typed n ≡ run_of (answer m c.world h.result) = ap (run g typed) (sym all) ∙ h.is in
      record {
        ending = ap (λ (x : Run). x.ending) r ∙ h.ending_is;
        body = ap render (sym h.printed) ∙ sym (ap (λ (x : Run). text_of x.world.events) r);
      }

  -- The limit of an area was met.
  record IsLimitSo (area : Area) (k : ℕ) : Type 0 where
    passed : limit_of area story_limits < peak area g typed (point k).goals
    text : IsLimitText g typed area (closed_text (point k).prints (line_of (limit_ending area)))

  met : (area : Area) (ps : List Print) (n : ℕ) (w : World) (r : Run) → EndedAt set (limit_ending area) ps n w r → MeetsLimit (limit_of area story_limits) (greatest area r.world.meters) ps w r
  met Heap ps n w r h = h
  met Trail ps n w r h = h
  met Aux ps n w r h = h
  met Keep ps n w r h = h

  limit_so : (area : Area) (k : ℕ) → (point k).now ≡ Ended (limit_ending area) → IsLimitSo area k
  limit_so area k is =
      let p = point k in
      let c = (is_at k).comes 0 in
      let none : p.goals + 0 ≡ p.goals = omega arith in
      let at = met area p.prints 0 c.world (run g typed (p.goals + 0)) (subst (λ (now : Status). At set now p.prints g 0 c.world (run g typed (p.goals + 0))) is c.at) in
      let h : MeetsLimit (limit_of area story_limits) (peak area g typed p.goals) p.prints c.world (run g typed p.goals) = subst (λ (n : ℕ). MeetsLimit (limit_of area story_limits) (peak area g typed n) p.prints c.world (run g typed n)) none at in
      let part = part_of c.world.events (run g typed (p.goals - 1)).world.events (run g typed p.goals).world.events h.happened.events (later_run g typed (p.goals - 1) p.goals (omega arith)).events (subst (Begins (prints (run g typed (p.goals - 1)).world.events)) (sym h.printed) (is_at k).since) in
      record {
        passed = h.passes;
        text = record {
          goals = p.goals;
          passed = h.passes;
          part = part.part;
          until = part.until;
          text = ap (λ (l : List Print). closed_text l (line_of (limit_ending area))) (sym (part.prints_are ∙ h.printed));
          covers = λ n within. text_grows (run g typed n).world.events part.part (limit_covers g typed story_limits area p.goals part.part h.passes part.since n within);
        };
      }

  -- ## Between

  -- a point's text begins that of a run
  point_begins : (k : ℕ) → (IsOver (point k).now → ⊥) → Begins (render (point k).prints) (printed_body g typed ((point k).goals + 0))
  point_begins k on =
      let p = point k in
      let c = (is_at k).comes 0 in
      printed_begins p.prints (run g typed (p.goals + 0)) (at_happened set g p.now p.prints 0 c.world (run g typed (p.goals + 0)) c.at on)

  -- An ending is one of its own, the input's, or an area's.
  pub data Cases : Ending → Type 0 where
    own : {e : Ending} → IsDone e → ((ps : List Print) → written_with ps e ≡ closed_text ps (line_of e)) → end_of e ≡ ends.Quit → Cases e
    input : Cases endings.InputEnded
    limit : (area : Area) → ((ps : List Print) → written_with ps (limit_ending area) ≡ closed_text ps (line_of (limit_ending area))) → end_of (limit_ending area) ≡ ends.Quit → Cases (limit_ending area)

  cases : (e : Ending) → (e ≡ endings.StepLimit → ⊥) → Cases e
  cases endings.Done last = own tt (λ ps. refl) refl
  cases endings.Quit last = own tt (λ ps. refl) refl
  cases endings.Failed last = own tt (λ ps. refl) refl
  cases endings.Stopped last = own tt (λ ps. refl) refl
  cases endings.InputEnded last = input
  cases endings.StepLimit last = absurd (last refl)
  cases endings.HeapLimit last = limit Heap (λ ps. refl) refl
  cases endings.TrailLimit last = limit Trail (λ ps. refl) refl
  cases endings.AuxLimit last = limit Aux (λ ps. refl) refl
  cases endings.KeepLimit last = limit Keep (λ ps. refl) refl

  module _ (never : (k : ℕ) → (point k).now ≡ Ended endings.StepLimit → ⊥) where
    cases_at : (k : ℕ) (e : Ending) → (point k).now ≡ Ended e → Cases e
    cases_at k e is = cases e (λ q. never k (is ∙ ap Ended q))

    cut_by : (k : ℕ) (e : Ending) (bytes : List ℕ) → Cases e → (point k).now ≡ Ended e → Begins bytes (written_with (point k).prints e) → IsCut g typed bytes
    cut_by k e bytes (own d written end) is h =
        let s = done_so k e (point k).goals is d (omega arith) in
        of_transcript (point k).goals (subst IsDone (sym s.ending) d) (subst (Begins bytes) (written (point k).prints ∙ s.whole) h)
    cut_by k e bytes input is h = of_body (point k).goals (subst (Begins bytes) (input_so k (point k).goals is (omega arith)).body h)
    cut_by k e bytes (limit area written end) is h = of_limit area (closed_text (point k).prints (line_of (limit_ending area))) (limit_so area k is).text (subst (Begins bytes) (written (point k).prints) h)

    ended_cut : (k : ℕ) (e : Ending) (bytes : List ℕ) → (point k).now ≡ Ended e → Begins bytes (written_with (point k).prints e) → IsCut g typed bytes
    ended_cut k e bytes is h = cut_by k e bytes (cases_at k e is) is h

    -- what lies between two boundaries is a front of what some run writes
    cut_so : (k : ℕ) (now : Status) (bytes : List ℕ) → (point k).now ≡ now → Begins bytes (printed_by (turning g code typed) (turn_to (point k).prints now k)) → IsCut g typed bytes
    cut_so k (Ended e) bytes is h = ended_cut k e bytes is h
    cut_so k (Runs m) bytes is h = of_body ((point k).goals + 0) (begins_on bytes (render (point k).prints) (printed_body g typed ((point k).goals + 0)) h (point_begins k (λ o. subst IsOver is o)))
    cut_so k (Enters call m) bytes is h = of_body ((point k).goals + 0) (begins_on bytes (render (point k).prints) (printed_body g typed ((point k).goals + 0)) h (point_begins k (λ o. subst IsOver is o)))
    cut_so k (Resumes way m) bytes is h = of_body ((point k).goals + 0) (begins_on bytes (render (point k).prints) (printed_body g typed ((point k).goals + 0)) h (point_begins k (λ o. subst IsOver is o)))
    cut_so k (Fails m) bytes is h = of_body ((point k).goals + 0) (begins_on bytes (render (point k).prints) (printed_body g typed ((point k).goals + 0)) h (point_begins k (λ o. subst IsOver is o)))

    -- ## Whole runs

    whole_by : (k : ℕ) (e : Ending) → Cases e → (point k).now ≡ Ended e → EndsWhole g typed (end_of e) (written_with (point k).prints e)
    whole_by k e (own d written end) is = let s = done_so k e (point k).goals is d (omega arith) in subst (λ (x : ZEnd). EndsWhole g typed x (written_with (point k).prints e)) (sym end) (by_done (point k).goals (subst IsDone (sym s.ending) d) (written (point k).prints ∙ s.whole))
    whole_by k e input is = let s = input_so k (point k).goals is (omega arith) in by_input (point k).goals s.ending s.body
    whole_by k e (limit area written end) is = subst (λ (x : ZEnd). EndsWhole g typed x (written_with (point k).prints (limit_ending area))) (sym end) (subst (EndsWhole g typed ends.Quit) (sym (written (point k).prints)) (by_limit area (limit_so area k is).text))

    ended_whole : (k : ℕ) (e : Ending) → (point k).now ≡ Ended e → EndsWhole g typed (end_of e) (written_with (point k).prints e)
    ended_whole k e is = whole_by k e (cases_at k e is) is

    no_over : (k : ℕ) (end : ZEnd) (bytes : List ℕ) → ◌≡◌ {A = Turn ZEnd ℕ} (To k) (IsOverWith end bytes) → ⊥
    no_over k end bytes e = cc

    whole_so : (k : ℕ) (now : Status) (end : ZEnd) (bytes : List ℕ) → (point k).now ≡ now → turn_to (point k).prints now k ≡ IsOverWith end bytes → EndsWhole g typed end bytes
    whole_so k (Ended e) end bytes is h =
        let q : end_of e ≡ end = cc in
        let b : written_with (point k).prints e ≡ bytes = cc in
        subst (λ (x : ZEnd). EndsWhole g typed x bytes) q (subst (EndsWhole g typed (end_of e)) b (ended_whole k e is))
    whole_so k (Runs m) end bytes is h = absurd (no_over k end bytes h)
    whole_so k (Enters call m) end bytes is h = absurd (no_over k end bytes h)
    whole_so k (Resumes way m) end bytes is h = absurd (no_over k end bytes h)
    whole_so k (Fails m) end bytes is h = absurd (no_over k end bytes h)

    -- ## In time

    -- A point before the goal behind n, or before the end.
    record Found (n : ℕ) : Type 0 where
      k : ℕ
      on : IsOver (point k).now → ⊥
      is : (((point k).goals ≡ n) × (takes_goal (point k).now ≡ true)) ⊎ (((point (suc k)).goals ≤ n) × IsOver (point (suc k)).now)

    find : (n k : ℕ) → IsOver (point k).now ⊎ (n < (point k).goals) → Found n
    find n zero (inl o) = absurd o
    find n zero (inr lt) = absurd (omega arith)
    find n (suc k) h = ⊎_elim (λ o. find n k (inl o)) (λ not. ⊎_elim (λ lt. find n k (inr lt)) (before not) (cases_lt n (point k).goals)) (over_or (point k).now)
      where
        ends_next : (IsOver (point k).now → ⊥) → (point (suc k)).goals ≤ n → Found n
        ends_next not le = record { k = k; on = not; is = inr (le, ⊎_elim (λ o. o) (λ lt. absurd (omega arith)) h) }

        by_goal : (IsOver (point k).now → ⊥) → (point k).goals ≤ n → (b : Bool) → takes_goal (point k).now ≡ b → Found n
        by_goal not le false e = let q : (point (suc k)).goals ≡ 0 + (point k).goals = ap (λ (b : Bool). one_if b + (point k).goals) e in ends_next not (omega arith)
        by_goal not le true e =
            let q : (point (suc k)).goals ≡ 1 + (point k).goals = ap (λ (b : Bool). one_if b + (point k).goals) e in
            ⊎_elim (λ lt. ends_next not (omega arith)) (λ ge. let same : (point k).goals ≡ n = omega arith in record { k = k; on = not; is = inl (same, e) }) (cases_lt (point k).goals n)

        before : (IsOver (point k).now → ⊥) → (point k).goals ≤ n → Found n
        before not le = by_goal not le (takes_goal (point k).now) refl

    module _ (costs : CostsItsWork) (looks : LooksItsWork) (moves : MovesOn) (tidy : Tidy code) where
      abbrev work : ℕ → ℕ
      work n = (run g typed n).world.meters.work

      work_rises : (m n : ℕ) → m ≤ n → work m ≤ work n
      work_rises m n le = (later_run g typed m n le).meters.work

      spends : (k n : ℕ) → (point k).goals ≤ n → (point k).spent ≤ 13 * work n + 7
      spends k n le = let c : (point k).spent ≤ 13 * work (point k).goals + 7 = costs g code story_limits codes tidy typed k in let r = work_rises (point k).goals n le in omega arith

      rises : (area : Area) (j n : ℕ) → j ≤ n → peak area g typed j ≤ peak area g typed n
      rises Heap j n le = (later_run g typed j n le).meters.heap
      rises Trail j n le = (later_run g typed j n le).meters.trail
      rises Aux j n le = (later_run g typed j n le).meters.aux
      rises Keep j n le = (later_run g typed j n le).meters.keep

      looked : (k n : ℕ) → (point k).goals ≤ n → (point k).looks ≤ 1 + work n
      looked k n le = let c : (point k).looks ≤ 1 + work (point k).goals = looks g code story_limits codes tidy typed k in let r = work_rises (point k).goals n le in omega arith

      found : (n : ℕ) → Found n
      found n = find n (13 * work n + 8) (moves g code story_limits codes tidy typed n (13 * work n + 8) (omega arith))

      -- where a goal is taken no choice goes on
      goal_rests : (now : Status) → takes_goal now ≡ true → is_resumed now ≡ false
      goal_rests (Runs m) e = refl
      goal_rests (Enters call m) e = refl
      goal_rests (Resumes way m) e = absurd (cc)
      goal_rests (Fails m) e = refl
      goal_rests (Ended x) e = refl

      -- before a further goal
      before_goal : (n k : ℕ) → (IsOver (point k).now → ⊥) → (point k).goals ≡ n → takes_goal (point k).now ≡ true → InTime g typed (turning g code typed) 0 n
      before_goal n k on q takes =
          let p = point k in
          let c = (is_at k).comes 0 in
          let l = at_limit g code story_limits codes typed p.now p.prints c.world (run g typed (p.goals + 0)) takes c.at in
          let all : p.goals + 0 ≡ n = omega arith in
          let r : run g typed n ≡ record { left = 0; world = l.world; ending = endings.StepLimit } = ap (run g typed) (sym all) ∙ l.is in
          let s = spends k n (omega arith) in
          let looks' = looked k n (omega arith) in
          let printed : prints (run g typed n).world.events ≡ p.prints = ap (λ (x : Run). prints x.world.events) r ∙ l.printed_is in
          reached (reaches g code typed k (goal_rests (point k).now takes) on) (omega arith) (ap (λ (x : Run). x.ending) r) (subst (λ (ps : List Print). Begins (printed_body g typed n) (render ps)) printed (begins_same (printed_body g typed n)))

      there_by : (n k : ℕ) (e : Ending) → Cases e → (point k).now ≡ Ended e → (point k).goals ≤ n → IsThere g typed n (written_with (point k).prints e) (end_of e) ⊎ IsAtLimit g typed n (written_with (point k).prints e) (end_of e)
      there_by n k e (own d written end) is le =
          let s = done_so k e n is d le in
          let whole = written (point k).prints ∙ s.whole in
          inl (record {
            printed = subst (Begins (printed_body g typed n)) (sym whole) (record { behind = _; is = refl });
            input = λ q. absurd (subst IsDone (sym s.ending ∙ q) d);
            done = λ x. (whole, end);
          })
      there_by n k e input is le =
          let s = input_so k n is le in
          inl (record {
            printed = subst (Begins (printed_body g typed n)) (sym s.body) (begins_same (printed_body g typed n));
            input = λ q. (s.body, refl);
            done = λ x. absurd (subst IsDone s.ending x);
          })
      there_by n k e (limit area written end) is le =
          let s = limit_so area k is in
          let passed = s.passed in
          let rise = rises area (point k).goals n le in
          inr (record { area = area; passed = omega arith; text = subst (IsLimitText g typed area) (sym (written (point k).prints)) s.text; quit = end })

      there_so : (n k : ℕ) (e : Ending) → (point k).now ≡ Ended e → (point k).goals ≤ n → IsThere g typed n (written_with (point k).prints e) (end_of e) ⊎ IsAtLimit g typed n (written_with (point k).prints e) (end_of e)
      there_so n k e is le = there_by n k e (cases_at k e is) is le

      ended_rests : (k : ℕ) (e : Ending) → (point k).now ≡ Ended e → resumed_at g code typed k ≡ false
      ended_rests k e is = ap is_resumed is

      -- before the end, where no choice goes on
      before_end_once : (n k : ℕ) → resumed_at g code typed k ≡ false → (IsOver (point k).now → ⊥) → (point (suc k)).goals ≤ n → (e : Ending) → (point (suc k)).now ≡ Ended e → InTime g typed (turning g code typed) 0 n
      before_end_once n k rest on le e is =
          let p = point k in
          let u = units set p.prints p.now in
          let s = spends (suc k) n le in
          let l = selects p.now in
          let looks' = looked (suc k) n le in
          let both : (point (suc k)).looks ≡ l + p.looks = refl in
          let sum : (point (suc k)).spent ≡ u + p.spent = refl in
          let at = ended_rests (suc k) e is in
          let cost : (turning g code typed).cost k ≡ 830 * u + 9000 * l + 0 = cost_once g code typed k at in
          over (reaches g code typed k rest on) (next_is g code typed k at ∙ ap (λ (now : Status). turn_to (point (suc k)).prints now (suc k)) is) (omega arith) (there_so n (suc k) e is le)

      -- before the end, where one does
      before_end_twice : (n k : ℕ) → resumed_at g code typed (suc k) ≡ true → (IsOver (point k).now → ⊥) → (point (suc (suc k))).goals ≤ n → (e : Ending) → (point (suc (suc k))).now ≡ Ended e → InTime g typed (turning g code typed) 0 n
      before_end_twice n k goes on le e is =
          let p = point k in
          let q = point (suc k) in
          let u = units set p.prints p.now in
          let u' = units set q.prints q.now in
          let l = selects p.now in
          let l' = selects q.now in
          let s = spends (suc (suc k)) n le in
          let looks' = looked (suc (suc k)) n le in
          let both : (point (suc (suc k))).looks ≡ l' + (l + p.looks) = refl in
          let sum : (point (suc (suc k))).spent ≡ u' + (u + p.spent) = refl in
          let cost : (turning g code typed).cost k ≡ 830 * u + 9000 * l + (830 * u' + 9000 * l') = cost_twice g code typed k goes in
          over (reaches g code typed k (rests_before g code typed k goes) on) (second_is g code typed k goes ∙ ap (λ (now : Status). turn_to (point (suc (suc k))).prints now (suc (suc k))) is) (omega arith) (there_so n (suc (suc k)) e is le)

      before_end_by : (n k : ℕ) (b : Bool) → resumed_at g code typed k ≡ b → (IsOver (point k).now → ⊥) → (point (suc k)).goals ≤ n → (e : Ending) → (point (suc k)).now ≡ Ended e → InTime g typed (turning g code typed) 0 n
      before_end_by n k false r on le e is = before_end_once n k r on le e is
      before_end_by n zero true r on le e is = absurd (cc)
      before_end_by n (suc k) true r on le e is = before_end_twice n k r (on_before g code typed k on) le e is

      before_end : (n k : ℕ) → (IsOver (point k).now → ⊥) → (point (suc k)).goals ≤ n → (now : Status) → (point (suc k)).now ≡ now → IsOver now → InTime g typed (turning g code typed) 0 n
      before_end n k on le (Ended e) is o = before_end_by n k (resumed_at g code typed k) refl on le e is
      before_end n k on le (Runs m) is o = absurd o
      before_end n k on le (Enters call m) is o = absurd o
      before_end n k on le (Resumes way m) is o = absurd o
      before_end n k on le (Fails m) is o = absurd o

      in_time : (n : ℕ) → InTime g typed (turning g code typed) 0 n
      in_time n =
          let f = found n in
          ⊎_elim (λ x. before_goal n f.k f.on x.0 x.1) (λ x. before_end n f.k f.on x.0 (point (suc f.k)).now refl x.1) f.is

      -- The boundaries tell the truth, and come in time.
      pub tells : Tells g typed (turning g code typed) 0
      tells = record {
        between = λ {b} {spent} r bytes low high. cut_so (behind g code typed b) (point (behind g code typed b)).now bytes refl high;
        whole = λ {b} {spent} r end bytes next. whole_so (behind g code typed b) (point (behind g code typed b)).now end bytes refl next;
        in_time = in_time;
      }

-- ## Whole runs

-- A story whose turns are the steps of its code fits the program, whatever stands for a status, and whatever always holds.
pub fits_by : RunsAsSearched → CostsItsWork → LooksItsWork → MovesOn → NoStepLimit → (g : Game) (code : Code) (typed : List ℕ) → Codes g.program code → Tidy code →
    (w : ZGiven) (Always : Status → Type 0) (Stands : Standing) → StepsAreTurns w (setting g code story_limits) Always Stands →
    ((k : ℕ) → Always (after (setting g code story_limits) typed k).now) →
    (z : ZState) → Starts w (setting g code story_limits) Stands typed z → (steps : ℕ) → Fits g typed steps (zrun w steps z).state.output (zrun w steps z).end
fits_by searched costs looks moves never g code typed codes tidy w Always Stands steps always z starts =
    fits w (turning g code typed) (Before g code typed w Always Stands steps always) (turns g code typed w Always Stands steps always) g typed 0
    (tells g code typed codes searched (λ k. never (setting g code story_limits) typed k) costs looks moves tidy) z (first g code typed w Always Stands steps always z starts)

pub stories_fit : StoriesFit
stories_fit searched costs looks moves heights never g code typed codes tidy w at steps z starts =
    fits_by searched costs looks moves never g code typed codes tidy w StatusOrdered (λ ps now y. y ≡ at ps now) steps (λ k. heights (setting g code story_limits) typed k) z starts
