-- Texts and gaps lead on, and (quit) ends the run.
use Rattle.std.proofs.Common.{◌≡◌, ℕ, ◌+◌, ◌*◌, ◌<◌, ◌≤◌, List, [], ◌∷◌, ◌++◌, length, Some, ⊎_elim, refl, sym, ap, ◌∙◌, subst, arith}
use Rattle.std.specs.Prelude.{encode_utf8_all}
use Rattle.std.proofs.lemmas.Bool.{cases_lt}
use Rattle.dg_base.specs.declared.program.GapKind.{GapKind}
use Rattle.dg_base.specs.declared.program.Term.{Term}
use Rattle.dg_base.specs.declared.run.Ending.TheVariants as ending
use Rattle.dg_meaning.specs.Cells.{cells}
use Rattle.dg_meaning.specs.Moves.{looked_up, printed as printed_in, spaces}
use Rattle.dg_meaning.specs.Render.{nothing_met, met_from, spaces_from}
use Rattle.dg_meaning.specs.Substitutions.{walk}
use Rattle.dg_meaning.specs.Values.{Num, Word, Unknown, Object, Nil, Pair, Closure, Value, Values, Var, Node, value_of}
use Rattle.dg_meaning.specs.World.{World, Print, Piece, GapOf, SpacesOf, worked}
use Rattle.dg_mid.specs.declared.code.Action.TheVariants as action
use Rattle.dg_mid.specs.declared.code.Code.{Code}
use Rattle.dg_mid.specs.declared.code.Op.{Op}
use Rattle.dg_mid.specs.declared.code.Op.TheVariants as op
use Rattle.dg_mid.specs.Actions.{act_at, registers_of, said_by, world_of, lasting_in}
use Rattle.dg_mid.specs.State.{Mid, Status, Runs, Fails, Ended, vars_of}
use Rattle.dg_mid.specs.Step.{Setting, charged, done, more, said_in, said_to, followed}
use Rattle.z_model.specs.Run.{ZState}
use Rattle.dg_rt.specs.Closings.{closing_most}
use Rattle.dg_rt.specs.Operands.{no_value, number_word}
use Rattle.dg_turn.specs.Told.{Telling}
use Rattle.dg_turn.specs.Plays.{Playing, Comes as ComesTo}
use Rattle.dg_turn.specs.Paid.{paid}
use Rattle.dg_turn.specs.Texts.{printed, quit_routine, gap_routine, gap_n_most, Spacing}
use Rattle.dg_turn.proofs.GapTurn.{gap_turns}
use Rattle.dg_turn.proofs.PaidTexts.{texts_are_paid}
use Rattle.dg_turn.proofs.SpacesTurn.{gap_n_turns, quit_turns}
use Rattle.dg_turn.proofs.TextTurn.{text_turns}
use Rattle.dg_chain.specs.Routines.{GoesOn, Says, AsksSpaces, OpsAt}
use Rattle.dg_chain.specs.Stands.{Stands}
use Rattle.dg_chain.specs.Whole.{OpLeads, story_setting}
use Rattle.dg_chain.proofs.Leading.{more_none, Lead, Alike, led_runs, led_fails, finishes, charged_on, charged_off, at_op, silently, a_unit}
use Rattle.dg_chain.proofs.Printed.{printed_more, said_by_op, said_at_end}

module _ (t : Telling) (plays : Playing t) (code : Code) (dice : List ℕ) where
  abbrev set : Setting
  set = story_setting t code dice

  abbrev cost : List Print → Mid → ℕ
  cost ps m = paid set ps (Runs m)

  -- ## One thing is printed

  -- the machine behind it
  abbrev behind : Print → Mid → Mid
  behind p m = lasting_in (printed_in p (world_of [] m)) m

  -- It leads on where the turn has this outside.
  prints_on : (p : Print) (next : ℕ) (ps : List Print) (m m' : Mid) (rest : List Op) (z : ZState) (s : Stands t code ps (Runs m) z) (most : ℕ) → Alike m.lasting m m' → m'.ops ≡ rest → OpsAt t code next rest → most ≤ cost ps m → ComesTo t (printed (met_from nothing_met ps) p s.printed.out) next m most z → Lead t code dice 1 (ps ++ p ∷ []) (Runs m') (cost ps m) z
  prints_on p next ps m m' rest z s most h ops_are ops le k =
      led_runs t code dice 1 (omega arith) (ps ++ p ∷ []) (printed_more ps s.printed p) next m m' most (cost ps m) z h (subst (OpsAt t code next) (sym ops_are) ops) le k

  pub text_leads : (name : List ℕ) → OpLeads t code dice (op.Do (action.Text name))
  text_leads name ps m rest z e always s =
      let x = op.Do (action.Text name) in
      let o : Says (λ y. OpsAt t code y rest) t s.at.x name = at_op t code dice ps m rest z x e s in
      let met = met_from nothing_met ps in
      let cs = o.name.characters in
      let m' = record m { ops = rest } in
      let all = o.name.printable in
      let is : encode_utf8_all cs ≡ name = sym o.name.encoded in
      let most = 3 * spaces_from 0 met.gap + length cs + 30 in
      let fits : most ≤ cost ps m = texts_are_paid.text set ps m cs rest (e ∙ ap (λ (l : List ℕ). op.Do (action.Text l) ∷ rest) o.name.encoded) all in
      let turn = text_turns t plays s.printed.out s.at.x o.goes.behind m z met cs o.goes.is o.name.some all s.printed.meets s.at.rep in
      let there = subst (λ (l : List ℕ). ComesTo t (printed met (Piece l) s.printed.out) (t.p.names.routine o.goes.behind) m most z) is turn in
      subst (λ (l : List Print). Lead t code dice 1 l (Runs (behind (Piece name) (more 0 m'))) (cost ps m) z) (sym (said_by_op set ps m x rest e))
      (prints_on (Piece name) (t.p.names.routine o.goes.behind) ps m (behind (Piece name) (more 0 m')) rest z s most (ap (λ (k : Mid). behind (Piece name) k) (more_none m')) refl o.goes.next fits there)

  pub gap_leads : (kind : GapKind) → OpLeads t code dice (op.Do (action.Gap kind))
  gap_leads kind ps m rest z e always s =
      let x = op.Do (action.Gap kind) in
      let o : GoesOn (λ y. OpsAt t code y rest) t s.at.x (gap_routine kind) = at_op t code dice ps m rest z x e s in
      let met = met_from nothing_met ps in
      let m' = record m { ops = rest } in
      subst (λ (l : List Print). Lead t code dice 1 l (Runs (behind (GapOf kind) (more 0 m'))) (cost ps m) z) (sym (said_by_op set ps m x rest e))
      (prints_on (GapOf kind) (t.p.names.routine o.behind) ps m (behind (GapOf kind) (more 0 m')) rest z s 6 (ap (λ (k : Mid). behind (GapOf kind) k) (more_none m')) refl o.next (texts_are_paid.gap set ps m kind rest e)
      (gap_turns t plays s.printed.out s.at.x o.behind m z met kind o.is s.printed.meets s.at.rep))

  -- ## Counted spaces

  module _ (a : Term) (ps : List Print) (m : Mid) (rest : List Op) (z : ZState) (e : m.ops ≡ op.Do (action.GapN a) ∷ rest) (s : Stands t code ps (Runs m) z) where
    abbrev x : Op
    x = op.Do (action.GapN a)

    abbrev n : ℕ
    n = cells t.program (a ∷ [])

    abbrev va : Value
    va = value_of t.program (vars_of m.frames) a

    -- the machine behind its term, and the world there
    abbrev m' : Mid
    m' = more n (record m { ops = rest })

    abbrev w : World
    w = worked (looked_up (registers_of m') va) (world_of [] m')

    o : AsksSpaces (λ y. OpsAt t code y rest) t s.at.x a
    o = at_op t code dice ps m rest z x e s

    at : Spacing t s.printed.out a o.goes.behind m z
    at = record { x = s.at.x; rep = s.at.rep; there = o.goes.is; nodes = o.nodes }

    fits : gap_n_most t.program a m ≤ cost ps m
    fits = texts_are_paid.gap_n set ps m a rest e o.nodes

    module _ (room : m.state.heap + n ≤ 10000) where
      -- what comes of a value that was looked up
      abbrev Comes : Value → Type 0
      Comes u = let act = spaces u [] w in Lead t code dice 1 (followed ps (said_to (said_by act) (done set act m'))) (done set act m') (cost ps m) z

      counts : (k : ℕ) (parts : Values) → walk m.state.subst va ≡ Node (Num k) parts → Comes (Node (Num k) parts)
      counts k parts is =
          led_runs t code dice 1 (omega arith) (ps ++ SpacesOf k ∷ []) (printed_more ps s.printed (SpacesOf k)) (t.p.names.routine o.goes.behind) (more n m) (lasting_in (printed_in (SpacesOf k) w) m') (gap_n_most t.program a m) (cost ps m) z refl o.goes.next fits
          (gap_n_turns.counts t plays s.printed.out a o.goes.behind m z (met_from nothing_met ps) k parts at room s.printed.meets is)

      fails : number_word (walk m.state.subst va) ≡ no_value → Lead t code dice 1 ps (Fails (lasting_in w m')) (cost ps m) z
      fails none =
          led_fails t code dice 1 (omega arith) ps s.printed (more n m) (lasting_in w m') (gap_n_most t.program a m) (cost ps m) z refl fits
          (gap_n_turns.fails t plays s.printed.out a o.goes.behind m z at room none)

      by_value : (u : Value) → walk m.state.subst va ≡ u → Comes u
      by_value (Var i) is = fails (ap number_word is)
      by_value (Node (Num k) parts) is = counts k parts is
      by_value (Node (Word k) parts) is = fails (ap number_word is)
      by_value (Node (Unknown letters) parts) is = fails (ap number_word is)
      by_value (Node (Object k) parts) is = fails (ap number_word is)
      by_value (Node Nil parts) is = fails (ap number_word is)
      by_value (Node Pair parts) is = fails (ap number_word is)
      by_value (Node (Closure place) parts) is = fails (ap number_word is)

    abbrev next : Status
    next = done set (act_at set.game [] (action.GapN a) m') m'

    abbrev Leads : Status → Type 0
    Leads d = Lead t code dice 1 (followed ps (said_to (said_in set m (x ∷ rest)) d)) d (cost ps m) z

    over_leads : 10000 < m.state.heap + n → Leads (Ended ending.HeapLimit)
    over_leads over =
        subst (λ (l : List Print). Lead t code dice 1 (followed ps l) (Ended ending.HeapLimit) (cost ps m) z) (sym (said_at_end (said_in set m (x ∷ rest)) ending.HeapLimit))
        (let unit = a_unit t code dice ps m in finishes t code dice 1 (omega arith) ps s.printed ending.HeapLimit (10 + closing_most) (cost ps m) z (λ q. (cc)) (omega arith) (gap_n_turns.meets t plays s.printed.out a o.goes.behind m z at over))

    charged_leads : Leads (charged set n (record m { ops = rest }) next)
    charged_leads =
        ⊎_elim (λ lt. subst Leads (sym (charged_off t code dice n (record m { ops = rest }) next s.at.rep.mid.state.few lt)) (over_leads lt))
        (λ le. subst Leads (sym (charged_on t code dice n (record m { ops = rest }) next le)) (by_value le (walk m.state.subst va) refl)) (cases_lt 10000 (m.state.heap + n))

  pub gap_n_leads : (a : Term) → OpLeads t code dice (op.Do (action.GapN a))
  gap_n_leads a ps m rest z e always s =
      let n = cells t.program (a ∷ []) in
      let m' = record m { ops = rest } in
      let now : Status = charged set n m' (done set (act_at set.game [] (action.GapN a) (more n m')) (more n m')) in
      subst (λ (l : List Print). Lead t code dice 1 l now (cost ps m) z) (sym (said_by_op set ps m (op.Do (action.GapN a)) rest e)) (charged_leads a ps m rest z e s)

  -- ## The end

  pub quit_leads : OpLeads t code dice (op.Do action.Quit)
  quit_leads ps m rest z e always s =
      let x = op.Do action.Quit in
      let there : t.p.routine_at s.at.x ≡ Some quit_routine = at_op t code dice ps m rest z x e s in
      let unit = a_unit t code dice ps m in
      silently t code dice ps m rest z x e (Ended ending.Quit) (cost ps m) refl (finishes t code dice 1 (omega arith) ps s.printed ending.Quit 30 (cost ps m) z (λ q. (cc)) (omega arith) (quit_turns t plays s.printed.out s.at.x m z there s.at.rep))
