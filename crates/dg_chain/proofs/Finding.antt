-- A query of a flag of no object leads on.
use Rattle.std.proofs.Common.{ℕ, List, [], Bool, true, Option, Some, refl, sym, ap, subst}
use Rattle.std.specs.Prelude.{is_some}
use Rattle.dg_base.specs.declared.program.PlaceKind.{PlaceKind}
use Rattle.dg_meaning.specs.Facts.{value_at}
use Rattle.dg_meaning.specs.Moves.{ask_place}
use Rattle.dg_meaning.specs.Path.{Effect}
use Rattle.dg_mid.specs.declared.code.Code.{Code}
use Rattle.dg_mid.specs.declared.code.Op.TheVariants as op
use Rattle.dg_mid.specs.Actions.{registers_of, world_of}
use Rattle.dg_mid.specs.State.{Find, Runs}
use Rattle.dg_mid.specs.Step.{Setting, more, seeks}
use Rattle.dg_turn.specs.Told.{Telling}
use Rattle.dg_turn.specs.Plays.{Playing}
use Rattle.dg_turn.specs.Paid.{paid}
use Rattle.dg_turn.specs.Operating.{InFront}
use Rattle.dg_turn.specs.World.{holds_routine}
use Rattle.dg_turn.proofs.ReadingTurn.{holds_turns}
use Rattle.dg_turn.proofs.PaidWorld.{world_is_paid}
use Rattle.dg_chain.specs.Routines.{FindsFlag, OpsAt}
use Rattle.dg_chain.specs.Whole.{OpLeads, story_setting}
use Rattle.dg_chain.proofs.Leading.{Lead, at_op, silently}
use Rattle.dg_chain.proofs.Operating.{deciding_leads}

module _ (t : Telling) (plays : Playing t) (code : Code) (dice : List ℕ) where
  abbrev set : Setting
  set = story_setting t code dice

  pub flag_leads : (place : ℕ) (many : Bool) (next : ℕ) → OpLeads t code dice (op.Find (Some place) [] many next)
  flag_leads place many next ps m rest z e always s =
      let x = op.Find (Some place) [] many next in
      let o : FindsFlag (λ y. OpsAt t code y rest) t s.at.x place = at_op t code dice ps m rest z x e s in
      let m' = more 0 (record m { ops = rest }) in
      let f : Find = record { place = Some place; args = []; many = many; next = next } in
      let at : (k : Option PlaceKind) → Effect = λ (k : Option PlaceKind). ask_place set.game place k [] true [] (registers_of m') (world_of [] m') in
      let is = ap at o.kind_is in
      let here : InFront t s.printed.out (holds_routine t.program place o.goes.behind) [] m z = record { x = s.at.x; rep = s.at.rep; there = o.goes.is; nodes = tt } in
      let d = holds_turns t plays o.world s.printed.out place o.goes.behind m.lasting.facts m z o.kind_is s.printed.lasts.facts here in
      silently t code dice ps m rest z x e _ (paid set ps (Runs m)) refl
      (subst (λ (k : Effect). Lead t code dice 1 ps (seeks set f k m') (paid set ps (Runs m)) z) (sym is)
      (deciding_leads t plays code dice ps m rest z s [] o.goes.behind (is_some (value_at m.lasting.facts place 0)) 20 o.goes.next (world_is_paid.holds set ps m place many next rest e) d))
