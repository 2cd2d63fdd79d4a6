-- Terms that are unified, and rules that are entered, lead on.
use Rattle.std.proofs.Common.{◌≡◌, ℕ, ◌+◌, ◌-◌, ◌≤◌, Bool, true, false, List, [], ◌∷◌, length, refl, sym, ap, ◌∙◌, subst, arith}
use Rattle.dg_base.specs.declared.program.Term.{Term}
use Rattle.dg_base.specs.declared.run.Ending.TheVariants as ending
use Rattle.dg_meaning.specs.Cells.{cells}
use Rattle.dg_meaning.specs.Path.{Unifies as UnifiesNow}
use Rattle.dg_meaning.specs.Unify.{Unified, Equations, solve}
use Rattle.dg_meaning.specs.Values.{value_of}
use Rattle.dg_meaning.specs.World.{Print}
use Rattle.dg_mid.specs.declared.code.Action.TheVariants as action
use Rattle.dg_mid.specs.declared.code.Code.{Code}
use Rattle.dg_mid.specs.declared.code.Op.{Op}
use Rattle.dg_mid.specs.declared.code.Op.TheVariants as op
use Rattle.dg_mid.specs.Actions.{act_at, registers_of, world_of}
use Rattle.dg_mid.specs.State.{Call, Lasting, Mid, Status, Runs, Enters as EntersNow, vars_of}
use Rattle.dg_mid.specs.Step.{Setting, more, bound, charged, unified, if_agreed, done, new_frame, enter, entered as enters_now}
use Rattle.dg_mid.specs.Units.{units}
use Rattle.dg_mid.specs.Calls.{EntersWith}
use Rattle.z_model.specs.Run.{ZState}
use Rattle.dg_rt.specs.Closings.{closing_most}
use Rattle.dg_turn.specs.Told.{Telling}
use Rattle.dg_turn.specs.Plays.{Playing, Comes as ComesTo}
use Rattle.dg_turn.specs.Paid.{paid}
use Rattle.dg_turn.specs.Turns.{agreed_next, equal_unified, equal_most, Equating, head_unified, entered, entering_most, Entering}
use Rattle.dg_turn.proofs.EqualTurn.{equal_turns}
use Rattle.dg_turn.proofs.EnterTurn.{enter_turns}
use Rattle.dg_turn.proofs.Paid.{turns_are_paid}
use Rattle.dg_chain.specs.Always.{Always}
use Rattle.dg_chain.specs.Steps.{step_cost}
use Rattle.dg_chain.specs.Routines.{Unifies, Enters, OpsAt}
use Rattle.dg_chain.specs.Stands.{Printed, Stands}
use Rattle.dg_chain.specs.Whole.{OpLeads, story_setting}
use Rattle.dg_chain.proofs.Points.{units_never_none}
use Rattle.dg_chain.proofs.Leading.{Lead, Alike, led_runs, led_fails, finishes, charged_leads, unified_leads, at_op, silently, a_unit}

module _ (t : Telling) (plays : Playing t) (code : Code) (dice : List ℕ) where
  abbrev set : Setting
  set = story_setting t code dice

  -- Where values agree it goes on, and else it fails.
  pub agreed_leads : (ps : List Print) {l : Lasting} (w : Printed t ps l) (behind : ℕ) (b : Bool) (m m' m2 : Mid) (most all : ℕ) (z : ZState) → Alike l m m' → Alike l m (record m2 { frames = m.frames; inner = m.inner }) → OpsAt t code (t.p.names.routine behind) m'.ops → most ≤ all → ComesTo t w.out (agreed_next t.p behind b) m most z →
      Lead t code dice 1 ps (if_agreed b m2 (Runs m')) all z
  agreed_leads ps w behind true m m' m2 most all z h f ops le k = led_runs t code dice 1 (omega arith) ps w (t.p.names.routine behind) m m' most all z h ops le k
  agreed_leads ps w behind false m m' m2 most all z h f ops le k = led_fails t code dice 1 (omega arith) ps w m m2 most all z f le k

  -- ## Two terms

  -- an equation takes no further cells
  unifies_now : (es : Equations) (m : Mid) → done set (UnifiesNow (registers_of m) es (world_of [] m)) m ≡ unified set (solve m.state.subst es) m (Runs (bound (solve m.state.subst es) m))
  unifies_now es m =
      let u = solve m.state.subst es in
      let none : m.state.heap - m.state.heap ≡ 0 = omega arith in
      let same_heap : m.state.heap + (m.state.heap - m.state.heap) ≡ m.state.heap = omega arith in
      let with_heap : ℕ → Mid = λ (h : ℕ). record m { state = record m.state { heap = h } } in
      ap (λ (h : ℕ). charged set (m.state.heap - m.state.heap) m (unified set u (with_heap h) (Runs (bound u (with_heap h))))) same_heap
      ∙ ap (λ (n : ℕ). charged set n m (unified set u m (Runs (bound u m)))) none

  pub equal_leads : (a b : Term) → OpLeads t code dice (op.Do (action.Equal a b))
  equal_leads a b ps m rest z e always s =
      let out = s.printed.out in
      let ts = a ∷ b ∷ [] in
      let n = cells t.program ts in
      let x = op.Do (action.Equal a b) in
      let o : Unifies (λ y. OpsAt t code y rest) t s.at.x a b = at_op t code dice ps m rest z x e s in
      let at : Equating t out a b o.goes.behind m z = record { x = s.at.x; rep = s.at.rep; there = o.goes.is; nodes = o.nodes } in
      let m' = more n (record m { ops = rest }) in
      let u = equal_unified t.program a b m in
      let cost = paid set ps (Runs m) in
      let most = equal_most t.program a b m in
      let fits : most ≤ cost = turns_are_paid.equal set ps m a b rest e o.nodes in
      let unit = a_unit t code dice ps m in
      let now = unifies_now ((value_of t.program (vars_of m.frames) a, value_of t.program (vars_of m.frames) b) ∷ []) m' in
      silently t code dice ps m rest z x e _ cost refl
      (charged_leads t code dice 1 (omega arith) ps s.printed n (record m { ops = rest }) (done set (act_at set.game [] (action.Equal a b) m') m') cost z s.at.rep.mid.state.few
      (λ room. subst (λ (next : Status). Lead t code dice 1 ps next cost z) (sym now)
      (unified_leads t code dice 1 (omega arith) ps s.printed u m' (Runs (bound u m')) cost z
      (λ few. agreed_leads ps s.printed o.goes.behind u.agrees (bound u (more n m)) (bound u m') (bound u m') most cost z refl refl o.goes.next fits (equal_turns.unifies t plays out a b o.goes.behind m z at room few))
      (λ over. finishes t code dice 1 (omega arith) ps s.printed ending.TrailLimit (most + closing_most) cost z (λ q. (cc)) (omega arith) (equal_turns.meets_trail t plays out a b o.goes.behind m z at room over))))
      (λ over. finishes t code dice 1 (omega arith) ps s.printed ending.HeapLimit (10 + closing_most) cost z (λ q. (cc)) (omega arith) (equal_turns.meets_heap t plays out a b o.goes.behind m z at over)))

  -- ## A rule

  module _ (ps : List Print) (call : Call) (m : Mid) (z : ZState) (s : Stands t code ps (EntersNow call m) z) (w : EntersWith (length call.args) m.ops) (few_args : length call.args ≤ 12) where
    abbrev cost : ℕ
    cost = paid set ps (EntersNow call m)

    abbrev m' : Mid
    m' = record m { ops = w.rest }

    abbrev n : ℕ
    n = 6 + w.vars + cells t.program w.head

    abbrev u : Unified
    u = head_unified t.program call w.vars w.head m

    o : Enters (λ y. OpsAt t code y w.rest) t s.at.x w.vars w.head
    o = subst (OpsAt t code s.at.x) w.is s.at.ops_are

    abbrev at : Entering t s.printed.out call w.vars w.head o.goes.behind m z
    at = record { x = s.at.x; rep = s.at.rep; call_is = s.at.call_is; there = o.goes.is; fits = sym w.fits; short = o.short; nodes = o.nodes }

    abbrev most : ℕ
    most = entering_most t.program call w.vars w.head m

    fits : most ≤ cost
    fits = turns_are_paid.enter set ps call m w.vars w.head w.rest w.is o.nodes o.few_vars o.short

    a_unit_here : 1 ≤ units set ps (EntersNow call m)
    a_unit_here = units_never_none set ps (EntersNow call m) (λ q. q)

    enter_leads : Lead t code dice 1 ps (enter set call w.vars w.head m') cost z
    enter_leads =
        let out = s.printed.out in
        let unit = a_unit_here in
        let le = fits in
        let taken : Mid = record m' { state = record m.state { vars = m.state.vars + w.vars; heap = m.state.heap + n } } in
        let inside : Mid = record (bound u taken) { frames = new_frame call w.vars m' ∷ m.frames; inner = [] } in
        charged_leads t code dice 1 (omega arith) ps s.printed n m' (unified set u taken (Runs inside)) cost z s.at.rep.mid.state.few
        (λ room. unified_leads t code dice 1 (omega arith) ps s.printed u taken (Runs inside) cost z
        (λ few. agreed_leads ps s.printed o.goes.behind u.agrees (entered t.program call w.vars w.head u m) inside (bound u taken) most cost z refl refl o.goes.next le (enter_turns.enters t plays out call w.vars w.head o.goes.behind m z at room few))
        (λ over. finishes t code dice 1 (omega arith) ps s.printed ending.TrailLimit (most + closing_most) cost z (λ q. (cc)) (omega arith) (enter_turns.meets_trail t plays out call w.vars w.head o.goes.behind m z at room over)))
        (λ over. finishes t code dice 1 (omega arith) ps s.printed ending.HeapLimit (10 + closing_most) cost z (λ q. (cc)) (omega arith) (enter_turns.meets_heap t plays out call w.vars w.head o.goes.behind m z at o.few_vars over))

  pub enters_lead : (ps : List Print) (call : Call) (m : Mid) (z : ZState) → Always code (EntersNow call m) → Stands t code ps (EntersNow call m) z → Lead t code dice 1 ps (enters_now set call m.ops m) (step_cost set ps (EntersNow call m)) z
  enters_lead ps call m z always s =
      let w = always.fits.1 in
      subst (λ (l : List Op). Lead t code dice 1 ps (enters_now set call l m) (step_cost set ps (EntersNow call m)) z) (sym w.is) (enter_leads ps call m z s w always.fits.0)
