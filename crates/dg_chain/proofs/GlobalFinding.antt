-- A query of a global variable leads on.
use Rattle.std.proofs.Common.{◌≡◌, ℕ, ◌+◌, ◌-◌, ◌≤◌, List, [], ◌∷◌, Bool, true, Option, Some, None, refl, sym, ap, subst, arith}
use Rattle.dg_base.specs.declared.program.PlaceKind.{PlaceKind}
use Rattle.dg_base.specs.declared.program.Term.{Term}
use Rattle.dg_base.specs.declared.run.Ending.TheVariants as ending
use Rattle.dg_meaning.specs.Cells.{cells}
use Rattle.dg_meaning.specs.Copies.{copy_cells}
use Rattle.dg_meaning.specs.Facts.{value_at}
use Rattle.dg_meaning.specs.Letters.{copied}
use Rattle.dg_meaning.specs.Moves.{ask_place, reads_if_set, behind_copy}
use Rattle.dg_meaning.specs.Path.{Effect, Unifies as UnifiesNow}
use Rattle.dg_meaning.specs.Unify.{solve}
use Rattle.dg_meaning.specs.Values.{Value}
use Rattle.dg_meaning.specs.World.{Print, worked}
use Rattle.dg_mid.specs.declared.code.Code.{Code}
use Rattle.dg_mid.specs.declared.code.Op.{Op}
use Rattle.dg_mid.specs.declared.code.Op.TheVariants as op
use Rattle.dg_mid.specs.Actions.{registers_of, world_of}
use Rattle.dg_mid.specs.State.{Find, Mid, Status, Runs}
use Rattle.dg_mid.specs.Step.{Setting, more, bound, charged, unified, done, seeks}
use Rattle.z_model.specs.Run.{ZState}
use Rattle.dg_rt.specs.Closings.{closing_most}
use Rattle.dg_turn.specs.Told.{Telling}
use Rattle.dg_turn.specs.Plays.{Playing}
use Rattle.dg_turn.specs.Paid.{paid}
use Rattle.dg_turn.specs.Operating.{term_value, InFront}
use Rattle.dg_turn.specs.Globals.{global_routine, copied_in, copy_equation, copy_unified, global_read_most, global_copied_most, ReadingGlobal}
use Rattle.dg_turn.proofs.ReadGlobal.{read_global_turns}
use Rattle.dg_turn.proofs.PaidGlobals.{globals_are_paid}
use Rattle.dg_chain.specs.Routines.{OpAt, FindsGlobal, OpsAt}
use Rattle.dg_chain.specs.Stands.{Stands}
use Rattle.dg_chain.specs.Whole.{OpLeads, story_setting}
use Rattle.dg_chain.proofs.Leading.{Lead, led_fails, finishes, charged_leads, unified_leads, at_op, silently, a_unit}
use Rattle.dg_chain.proofs.Unifying.{agreed_leads}

module _ (t : Telling) (plays : Playing t) (code : Code) (dice : List ℕ) where
  abbrev set : Setting
  set = story_setting t code dice

  module _ (place : ℕ) (a : Term) (ps : List Print) (m : Mid) (rest : List Op) (z : ZState) (s : Stands t code ps (Runs m) z) (behind : ℕ) (next : OpsAt t code (t.p.names.routine behind) rest) where
    abbrev n : ℕ
    n = cells t.program (a ∷ [])

    abbrev m' : Mid
    m' = more n (record m { ops = rest })

    abbrev cost : ℕ
    cost = paid set ps (Runs m)

    abbrev va : Value
    va = term_value t.program m a

    -- a copy takes its cells
    copies_now : (v : Value) → let u = solve m'.state.subst (copy_equation t.program a v m) in
        let w = worked (copied v) (world_of [] m') in
        done set (UnifiesNow (behind_copy v (registers_of m')) (copy_equation t.program a v m) w) m' ≡ charged set (copy_cells v) m' (unified set u (copied_in v m') (Runs (bound u (copied_in v m'))))
    copies_now v =
        let u = solve m'.state.subst (copy_equation t.program a v m) in
        let less : m'.state.heap + copy_cells v - m'.state.heap ≡ copy_cells v = omega arith in
        ap (λ (k : ℕ). charged set k m' (unified set u (record m' { state = record m'.state { vars = (copied_in v m').state.vars; heap = m'.state.heap + k } }) (Runs (bound u (record m' { state = record m'.state { vars = (copied_in v m').state.vars; heap = m'.state.heap + k } }))))) less

    read_led : (found : Option Value) → (room : m.state.heap + n ≤ 10000) → global_read_most t.program a ≤ cost → ((v : Value) → found ≡ Some v → global_copied_most t.program a v m ≤ cost) → ReadingGlobal t s.printed.out a behind found m z → Lead t code dice 1 ps (done set (reads_if_set (va ∷ []) (registers_of m') found (world_of [] m')) m') cost z
    read_led None room fits more_fits k = led_fails t code dice 1 (omega arith) ps s.printed (more n m) m' (global_read_most t.program a) cost z refl fits (k.fails room refl)
    read_led (Some v) room fits more_fits k =
        let u = copy_unified t.program a v m in
        let most = global_copied_most t.program a v m in
        let unit = a_unit t code dice ps m in
        let within = more_fits v refl in
        let m2 = copied_in v m' in
        subst (λ (st : Status). Lead t code dice 1 ps st cost z) (sym (copies_now v))
        (charged_leads t code dice 1 (omega arith) ps s.printed (copy_cells v) m' (unified set u m2 (Runs (bound u m2))) cost z room
        (λ space. unified_leads t code dice 1 (omega arith) ps s.printed u m2 (Runs (bound u m2)) cost z
        (λ few. agreed_leads t plays code dice ps s.printed behind u.agrees (bound u (copied_in v (more n m))) (bound u m2) (bound u m2) most cost z refl refl next within (k.unifies v space refl few))
        (λ over. finishes t code dice 1 (omega arith) ps s.printed ending.TrailLimit (most + closing_most) cost z (λ q. (cc)) (omega arith) (k.meets_trail v space refl over)))
        (λ over. finishes t code dice 1 (omega arith) ps s.printed ending.HeapLimit (most + closing_most) cost z (λ q. (cc)) (omega arith) (k.meets_copy v room refl over)))

  pub find_global_leads : (place : ℕ) (a : Term) (many : Bool) (next : ℕ) → ((behind_is : ℕ → Type 0) (y : ℕ) → OpAt behind_is t code y (op.Find (Some place) (a ∷ []) many next) → FindsGlobal behind_is t y place a) → OpLeads t code dice (op.Find (Some place) (a ∷ []) many next)
  find_global_leads place a many next told ps m rest z e always s =
      let x = op.Find (Some place) (a ∷ []) many next in
      let o : FindsGlobal (λ y. OpsAt t code y rest) t s.at.x place a = told (λ y. OpsAt t code y rest) s.at.x (at_op t code dice ps m rest z x e s) in
      let n = cells t.program (a ∷ []) in
      let m' = more n (record m { ops = rest }) in
      let cost = paid set ps (Runs m) in
      let unit = a_unit t code dice ps m in
      let args = term_value t.program m a ∷ [] in
      let f : Find = record { place = Some place; args = args; many = many; next = next } in
      let at : (k : Option PlaceKind) → Effect = λ (k : Option PlaceKind). ask_place set.game place k args true [] (registers_of m') (world_of [] m') in
      let is = ap at o.kind_is in
      let here : InFront t s.printed.out (global_routine t.program place a o.writes.goes.behind) (a ∷ []) m z = record { x = s.at.x; rep = s.at.rep; there = o.writes.goes.is; nodes = o.writes.nodes } in
      let k = read_global_turns t plays o.world o.captures s.printed.out place a o.writes.goes.behind m.lasting.facts m z o.kind_is s.printed.lasts.facts here in
      silently t code dice ps m rest z x e _ cost refl
      (subst (λ (k : Effect). Lead t code dice 1 ps (charged set n (record m { ops = rest }) (seeks set f k m')) cost z) (sym is)
      (charged_leads t code dice 1 (omega arith) ps s.printed n (record m { ops = rest }) (done set (reads_if_set args (registers_of m') (value_at m.lasting.facts place 0) (world_of [] m')) m') cost z s.at.rep.mid.state.few
      (λ room. read_led place a ps m rest z s o.writes.goes.behind o.writes.goes.next (value_at m.lasting.facts place 0) room (globals_are_paid.read set ps m place a many next rest e o.writes.nodes) (λ v set_is. globals_are_paid.copy set ps m place a v many next rest e o.kind_is o.writes.nodes set_is) k)
      (λ over. finishes t code dice 1 (omega arith) ps s.printed ending.HeapLimit (10 + closing_most) cost z (λ q. (cc)) (omega arith) (k.meets_heap over))))
