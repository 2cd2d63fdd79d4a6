-- Typed input leads on, or the run ends with the input.
use Rattle.std.proofs.Common.{◌≡◌, ℕ, ◌+◌, ◌-◌, ◌<◌, ◌≤◌, Bool, true, false, List, [], ◌∷◌, ◌++◌, length, ⊎_elim, refl, sym, ap, ◌∙◌, subst, arith}
use Rattle.std.proofs.lemmas.Bool.{cases_lt}
use Rattle.std.proofs.lemmas.List.{append-nil}
use Rattle.dg_base.specs.declared.program.GapKind.TheVariants.{Line}
use Rattle.dg_base.specs.declared.program.Term.{Term}
use Rattle.dg_base.specs.declared.run.Ending.{Ending}
use Rattle.dg_base.specs.declared.run.Ending.TheVariants as ending
use Rattle.dg_base.specs.Units.{units_of as line_units}
use Rattle.dg_meaning.specs.Cells.{cells}
use Rattle.dg_meaning.specs.Copies.{copy_cells}
use Rattle.dg_meaning.specs.Moves.{takes_line, spelled, printed as printed_in}
use Rattle.dg_meaning.specs.Path.{Registers}
use Rattle.dg_meaning.specs.Render.{nothing_met, met_from, Met}
use Rattle.dg_meaning.specs.Unify.{Unified}
use Rattle.dg_meaning.specs.Values.{Value}
use Rattle.dg_meaning.specs.Words.{first_line, behind_first}
use Rattle.dg_meaning.specs.World.{World, Print, GapOf}
use Rattle.dg_mid.specs.declared.code.Action.TheVariants as action
use Rattle.dg_mid.specs.declared.code.Code.{Code}
use Rattle.dg_mid.specs.declared.code.Op.{Op}
use Rattle.dg_mid.specs.declared.code.Op.TheVariants as op
use Rattle.dg_mid.specs.Actions.{registers_of, act_at, said_by, world_of, lasting_in}
use Rattle.dg_mid.specs.State.{Mid, Status, Runs, Ended}
use Rattle.dg_mid.specs.Step.{Setting, bound, charged, unified, if_agreed, done, more, trail_more, said_to, followed}
use Rattle.z_model.specs.Run.{ZState}
use Rattle.dg_rt.specs.Closings.{closing_most}
use Rattle.dg_rt.specs.Gaps.{Meets}
use Rattle.dg_rt.proofs.Counted.{met_on}
use Rattle.dg_turn.specs.Told.{Telling}
use Rattle.dg_turn.specs.Plays.{Playing}
use Rattle.dg_turn.specs.Paid.{paid}
use Rattle.dg_turn.specs.Operating.{term_value, InFront}
use Rattle.dg_turn.specs.Typing.{input_routine, typed_value, input_most, TakesLine, Typing}
use Rattle.dg_turn.specs.Turns.{agreed_next}
use Rattle.dg_turn.specs.World.{value_unified}
use Rattle.dg_turn.proofs.InputTurn.{input_turns}
use Rattle.dg_turn.proofs.PaidTyping.{input_is_paid}
use Rattle.dg_turn.proofs.Places.{facts_apart}
use Rattle.dg_chain.specs.Routines.{Reads, OpsAt}
use Rattle.dg_turn.proofs.Sites.{sites_same}
use Rattle.dg_chain.specs.Stands.{Printed, Stands}
use Rattle.dg_chain.specs.Whole.{OpLeads, story_setting}
use Rattle.dg_chain.proofs.Leading.{Lead, finishes, charged_on, charged_off, unified_on, unified_off, at_op, a_unit}
use Rattle.dg_chain.proofs.Printed.{render_one, said_by_op}
use Rattle.dg_chain.proofs.Unifying.{agreed_leads}

module _ (t : Telling) (plays : Playing t) (code : Code) (dice : List ℕ) where
  abbrev set : Setting
  set = story_setting t code dice

  module _ (a : Term) (ps : List Print) (m : Mid) (rest : List Op) (z : ZState) (e : m.ops ≡ op.Do (action.Input a) ∷ rest) (s : Stands t code ps (Runs m) z) where
    abbrev x : Op
    x = op.Do (action.Input a)

    abbrev n : ℕ
    n = cells t.program (a ∷ [])

    abbrev cost : ℕ
    cost = paid set ps (Runs m)

    abbrev met : Met
    met = met_from nothing_met ps

    -- the machine behind its term, its registers and the world there
    abbrev m' : Mid
    m' = more n (record m { ops = rest })

    abbrev r : Registers
    r = registers_of m'

    abbrev w : World
    w = world_of [] m'

    abbrev into : Value
    into = term_value t.program m a

    o : Reads (λ y. OpsAt t code y rest) t s.at.x a
    o = at_op t code dice ps m rest z x e s

    at : InFront t s.printed.out (input_routine t.program a o.goes.behind) (a ∷ []) m z
    at = record { x = s.at.x; rep = s.at.rep; there = o.goes.is; nodes = o.nodes }

    turn : Typing t s.printed.out met a o.goes.behind m z
    turn = input_turns t plays o.tables s.printed.out met a o.goes.behind m z s.printed.meets at

    -- what comes of these typed bytes
    abbrev next : List ℕ → Status
    next typed = done set (takes_line set.game typed into r w) m'

    abbrev Leads : List ℕ → Status → Type 0
    Leads typed d = Lead t code dice 1 (followed ps (said_to (said_by (takes_line set.game typed into r w)) d)) d cost z

    -- ---- no line

    no_line : m.lasting.typed ≡ [] → m.state.heap + n ≤ 10000 → Leads [] (next [])
    no_line none room =
        let q = turn.ends room (s.printed.lasts.typed ∙ none) in
        let few = q.few in
        let paid' = input_is_paid.ends set ps m a rest e o.nodes in
        record { last = q.at_end; output = q.written ∙ s.printed.written; count = q.count; some = q.some; few = omega arith; ends = q.ends }

    -- ---- a line

    module _ (byte : ℕ) (typed : List ℕ) (is : m.lasting.typed ≡ byte ∷ typed) where
      abbrev bytes : List ℕ
      bytes = byte ∷ typed

      abbrev v : Value
      v = typed_value t.program bytes

      abbrev c : ℕ
      c = copy_cells v

      abbrev u : Unified
      u = value_unified t.program a v m

      abbrev w1 : World
      w1 = spelled set.game (length (line_units (first_line bytes))) v (printed_in (GapOf Line) (record w { typed = behind_first bytes }))

      abbrev m2 : Mid
      m2 = more c (lasting_in w1 m')

      abbrev es : List Print
      es = GapOf Line ∷ []

      abbrev most : ℕ
      most = input_most t.program a bytes m

      fits : most ≤ cost
      fits = input_is_paid.takes set ps m a rest byte typed e o.nodes is

      out_is : s.printed.out.typed ≡ bytes
      out_is = s.printed.lasts.typed ∙ is

      now_is : next bytes ≡ charged set c m' (unified set u m2 (Runs (bound u m2)))
      now_is =
          let heap = m'.state.heap in
          let less : heap + c - heap ≡ c = omega arith in
          let with_cells : ℕ → Mid = λ (d : ℕ). record (lasting_in w1 m') { state = record m'.state { heap = heap + d } } in
          ap (λ (d : ℕ). charged set d m' (unified set u (with_cells d) (Runs (bound u (with_cells d))))) less

      -- what is outside behind it
      abbrev behind_line : TakesLine t s.printed.out met bytes (agreed_next t.p o.goes.behind u.agrees) (bound u (more c (more n m))) most z → Printed t (ps ++ es) m2.lasting
      behind_line q = record {
        out = record s.printed.out { typed = behind_first bytes; words = q.words' };
        written = s.printed.written ∙ sym (append-nil _) ∙ sym (render_one ps (GapOf Line));
        meets = subst (Meets q.words') (sym (met_on nothing_met ps es)) q.meets;
        lasts = record {
          drawn = s.printed.lasts.drawn;
          typed = refl;
          facts = facts_apart t.program m.lasting.facts s.printed.out.words q.words' (λ k le far. q.others k (λ y. (omega arith)) (λ y. (omega arith)) (λ y. (omega arith)) (λ y. (omega arith)) (λ y. (omega arith)) far) s.printed.lasts.facts;
          keeps = s.printed.lasts.keeps;
          sites = sites_same t m.lasting.sites s.printed.out.words q.words' (λ k le. q.others k (λ y. (omega arith)) (λ y. (omega arith)) (λ y. (omega arith)) (λ y. (omega arith)) (λ y. (omega arith)) (λ y. (omega arith))) s.printed.lasts.sites;
        };
      }

      by_answer : (b : Bool) → Lead t code dice 1 (ps ++ es) (if_agreed b (bound u m2) (Runs (bound u m2))) cost z → Leads bytes (if_agreed b (bound u m2) (Runs (bound u m2)))
      by_answer true h = h
      by_answer false h = h

      at_limit : (d : Ending) → Lead t code dice 1 ps (Ended d) cost z → Leads bytes (Ended d)
      at_limit d h = h

      agreed : m.state.heap + n + c ≤ 10000 → trail_more m.state u ≤ 2000 → Leads bytes (if_agreed u.agrees (bound u m2) (Runs (bound u m2)))
      agreed room few =
          let q = turn.takes byte typed out_is room few in
          by_answer u.agrees (agreed_leads t plays code dice (ps ++ es) (behind_line q) o.goes.behind u.agrees (bound u (more c (more n m))) (bound u m2) (bound u m2) most cost z refl refl o.goes.next fits q.comes)

      unified_leads : m.state.heap + n + c ≤ 10000 → Leads bytes (unified set u m2 (Runs (bound u m2)))
      unified_leads room =
          let unit = a_unit t code dice ps m in
          ⊎_elim (λ lt. subst (Leads bytes) (sym (unified_off t code dice u m2 (Runs (bound u m2)) lt)) (at_limit ending.TrailLimit (finishes t code dice 1 (omega arith) ps s.printed ending.TrailLimit (most + closing_most) cost z (λ q. (cc)) (let f = fits in omega arith) (turn.meets_trail byte typed out_is room lt))))
          (λ le. subst (Leads bytes) (sym (unified_on t code dice u m2 (Runs (bound u m2)) le)) (agreed room le)) (cases_lt 2000 (trail_more m2.state u))

      a_line : m.state.heap + n ≤ 10000 → Leads bytes (next bytes)
      a_line room =
          let few : m'.state.heap ≤ 10000 = room in
          subst (Leads bytes) (sym now_is)
          (⊎_elim (λ lt. subst (Leads bytes) (sym (charged_off t code dice c m' (unified set u m2 (Runs (bound u m2))) few lt)) (at_limit ending.HeapLimit (finishes t code dice 1 (omega arith) ps s.printed ending.HeapLimit (most + closing_most) cost z (λ q. (cc)) (let f = fits in omega arith) (turn.meets_value byte typed out_is room lt))))
          (λ le. subst (Leads bytes) (sym (charged_on t code dice c m' (unified set u m2 (Runs (bound u m2))) le)) (unified_leads le)) (cases_lt 10000 (m'.state.heap + c)))

    -- ---- both

    by_typed : (typed : List ℕ) → m.lasting.typed ≡ typed → m.state.heap + n ≤ 10000 → Leads typed (next typed)
    by_typed [] is room = no_line is room
    by_typed (byte ∷ typed) is room = a_line byte typed is room

    charged_leads : Leads m.lasting.typed (charged set n (record m { ops = rest }) (next m.lasting.typed))
    charged_leads =
        let unit = a_unit t code dice ps m in
        let few = s.at.rep.mid.state.few in
        ⊎_elim (λ lt. subst (Leads m.lasting.typed) (sym (charged_off t code dice n (record m { ops = rest }) (next m.lasting.typed) few lt)) (over_leads m.lasting.typed lt))
        (λ le. subst (Leads m.lasting.typed) (sym (charged_on t code dice n (record m { ops = rest }) (next m.lasting.typed) le)) (by_typed m.lasting.typed refl le)) (cases_lt 10000 (m.state.heap + n))
      where
        over_leads : (typed : List ℕ) → 10000 < m.state.heap + n → Leads typed (Ended ending.HeapLimit)
        over_leads [] over = let unit = a_unit t code dice ps m in finishes t code dice 1 (omega arith) ps s.printed ending.HeapLimit (10 + closing_most) cost z (λ q. (cc)) (omega arith) (turn.meets_heap over)
        over_leads (byte ∷ typed) over = let unit = a_unit t code dice ps m in finishes t code dice 1 (omega arith) ps s.printed ending.HeapLimit (10 + closing_most) cost z (λ q. (cc)) (omega arith) (turn.meets_heap over)

  pub input_leads : (a : Term) → OpLeads t code dice (op.Do (action.Input a))
  input_leads a ps m rest z e always s =
      let n = cells t.program (a ∷ []) in
      let m' = record m { ops = rest } in
      let now : Status = charged set n m' (done set (act_at set.game [] (action.Input a) (more n m')) (more n m')) in
      subst (λ (l : List Print). Lead t code dice 1 l now (paid set ps (Runs m)) z) (sym (said_by_op set ps m (op.Do (action.Input a)) rest e)) (charged_leads a ps m rest z e s)
