-- A value that is printed leads on.
use Rattle.std.proofs.Common.{◌≡◌, ℕ, ◌+◌, ◌<◌, ◌≤◌, List, [], ◌∷◌, ◌++◌, ⊎_elim, refl, sym, ap, ◌∙◌, subst, arith, append_assoc}
use Rattle.std.proofs.lemmas.Bool.{cases_lt}
use Rattle.std.proofs.lemmas.List.{append-nil}
use Rattle.dg_base.specs.declared.program.Term.{Term}
use Rattle.dg_base.specs.declared.run.Ending.TheVariants as ending
use Rattle.dg_meaning.specs.Cells.{cells}
use Rattle.dg_meaning.specs.Moves.{all_printed as all_printed_in, printed as printed_in}
use Rattle.dg_meaning.specs.Pieces.{pieces}
use Rattle.dg_meaning.specs.Render.{nothing_met, met_from}
use Rattle.dg_meaning.specs.Substitutions.{resolved}
use Rattle.dg_meaning.specs.Unify.{looks}
use Rattle.dg_meaning.specs.Values.{Value}
use Rattle.dg_meaning.specs.World.{World, Print, Piece, Prints as EventPrints, prints, worked}
use Rattle.dg_meaning.proofs.Dropping.{prints_append}
use Rattle.dg_mid.specs.declared.code.Action.TheVariants as action
use Rattle.dg_mid.specs.declared.code.Code.{Code}
use Rattle.dg_mid.specs.declared.code.Op.{Op}
use Rattle.dg_mid.specs.declared.code.Op.TheVariants as op
use Rattle.dg_mid.specs.Actions.{act_at, world_of, lasting_in}
use Rattle.dg_mid.specs.State.{Mid, Status, Runs, Ended}
use Rattle.dg_mid.specs.Step.{Setting, charged, done, keeps_within, more, said_in, said_to, followed}
use Rattle.z_model.specs.Run.{ZState}
use Rattle.dg_rt.specs.Closings.{closing_most}
use Rattle.dg_rt.specs.Prints.{all_pieces}
use Rattle.dg_turn.specs.Told.{Telling}
use Rattle.dg_turn.specs.Plays.{Playing}
use Rattle.dg_turn.specs.Paid.{paid}
use Rattle.dg_turn.specs.Operating.{term_value, InFront}
use Rattle.dg_turn.specs.Prints.{print_routine, print_most}
use Rattle.dg_turn.proofs.PaidTexts.{texts_are_paid}
use Rattle.dg_turn.proofs.PrintTurn.{print_turns}
use Rattle.dg_chain.specs.Routines.{Prints, OpsAt}
use Rattle.dg_chain.specs.Stands.{Stands}
use Rattle.dg_chain.specs.Whole.{OpLeads, story_setting}
use Rattle.dg_chain.proofs.Leading.{Lead, Alike, led_runs, finishes, charged_on, charged_off, at_op, a_unit}
use Rattle.dg_chain.proofs.Printed.{printed_all, said_by_op, said_on, said_at_end}

-- The pieces are printed in the world, and what lasts of it stays.
pieces_said : (bs : List (List ℕ)) (w : World) → prints (all_printed_in bs w).events ≡ prints w.events ++ all_pieces bs
pieces_said [] w = sym (append-nil (prints w.events))
pieces_said (b ∷ bs) w =
    let e = Piece b in
    pieces_said bs (printed_in e w) ∙ ap (λ (l : List Print). l ++ all_pieces bs) (prints_append w.events (EventPrints e ∷ [])) ∙ append_assoc (prints w.events) (e ∷ []) (all_pieces bs)

pieces_last : (bs : List (List ℕ)) (w : World) (m : Mid) → lasting_in (all_printed_in bs w) m ≡ lasting_in w m
pieces_last [] w m = refl
pieces_last (b ∷ bs) w m = pieces_last bs (printed_in (Piece b) w) m

pieces_keep : (bs : List (List ℕ)) (w : World) → (all_printed_in bs w).meters.keep ≡ w.meters.keep
pieces_keep [] w = refl
pieces_keep (b ∷ bs) w = pieces_keep bs (printed_in (Piece b) w)

module _ (t : Telling) (plays : Playing t) (code : Code) (dice : List ℕ) where
  abbrev set : Setting
  set = story_setting t code dice

  abbrev cost : List Print → Mid → ℕ
  cost ps m = paid set ps (Runs m)

  module _ (a : Term) (ps : List Print) (m : Mid) (rest : List Op) (z : ZState) (e : m.ops ≡ op.Do (action.Print a) ∷ rest) (s : Stands t code ps (Runs m) z) where
    abbrev x : Op
    x = op.Do (action.Print a)

    abbrev n : ℕ
    n = cells t.program (a ∷ [])

    abbrev va : Value
    va = term_value t.program m a

    abbrev bs : List (List ℕ)
    bs = pieces t.program (resolved m.state.subst va)

    -- the machine behind its term, the world there, and the one behind the pieces
    abbrev m' : Mid
    m' = more n (record m { ops = rest })

    abbrev w : World
    w = worked (looks m.state.subst m.state.vars va) (world_of [] m')

    abbrev w' : World
    w' = all_printed_in bs w

    o : Prints (λ y. OpsAt t code y rest) t s.at.x a
    o = at_op t code dice ps m rest z x e s

    at : InFront t s.printed.out (print_routine t.program a o.words o.objects o.goes.behind) (a ∷ []) m z
    at = record { x = s.at.x; rep = s.at.rep; there = o.goes.is; nodes = o.nodes }

    abbrev most : ℕ
    most = print_most t.program (met_from nothing_met ps) a m

    fits : most ≤ cost ps m
    fits = texts_are_paid.print set ps m a rest e o.nodes

    abbrev next : Status
    next = done set (act_at set.game [] (action.Print a) m') m'

    abbrev Leads : Status → Type 0
    Leads d = Lead t code dice 1 (followed ps (said_to (said_in set m (x ∷ rest)) d)) d (cost ps m) z

    room_leads : m.state.heap + n ≤ 10000 → Leads next
    room_leads room =
        let es = all_pieces bs in
        let h : Alike m.lasting (more n m) (lasting_in w' m') = pieces_last bs w m' in
        let said : followed ps (said_to (prints w'.events) (Runs (lasting_in w' m'))) ≡ ps ++ es = said_on ps (prints w'.events) (lasting_in w' m') ∙ ap (λ (l : List Print). ps ++ l) (pieces_said bs w) in
        let there : Leads (Runs (lasting_in w' m')) = subst (λ (l : List Print). Lead t code dice 1 l (Runs (lasting_in w' m')) (cost ps m) z) (sym said)
        (led_runs t code dice 1 (omega arith) (ps ++ es) (printed_all ps s.printed es) (t.p.names.routine o.goes.behind) (more n m) (lasting_in w' m') most (cost ps m) z h o.goes.next fits
        (print_turns.prints t plays s.printed.out a o.words o.objects o.goes.behind m z (met_from nothing_met ps) o.spells at room s.printed.meets)) in
        subst (λ (k : ℕ). Leads (keeps_within set k (Runs (lasting_in w' m')))) (sym (pieces_keep bs w)) there

    over_leads : 10000 < m.state.heap + n → Leads (Ended ending.HeapLimit)
    over_leads over =
        subst (λ (l : List Print). Lead t code dice 1 (followed ps l) (Ended ending.HeapLimit) (cost ps m) z) (sym (said_at_end (said_in set m (x ∷ rest)) ending.HeapLimit))
        (let unit = a_unit t code dice ps m in finishes t code dice 1 (omega arith) ps s.printed ending.HeapLimit (10 + closing_most) (cost ps m) z (λ q. (cc)) (omega arith) (print_turns.meets t plays s.printed.out a o.words o.objects o.goes.behind m z at over))

    charged_leads : Leads (charged set n (record m { ops = rest }) next)
    charged_leads =
        ⊎_elim (λ lt. subst Leads (sym (charged_off t code dice n (record m { ops = rest }) next s.at.rep.mid.state.few lt)) (over_leads lt))
        (λ le. subst Leads (sym (charged_on t code dice n (record m { ops = rest }) next le)) (room_leads le)) (cases_lt 10000 (m.state.heap + n))

  pub print_leads : (a : Term) → OpLeads t code dice (op.Do (action.Print a))
  print_leads a ps m rest z e always s =
      let n = cells t.program (a ∷ []) in
      let m' = record m { ops = rest } in
      let now : Status = charged set n m' (done set (act_at set.game [] (action.Print a) (more n m')) (more n m')) in
      subst (λ (l : List Print). Lead t code dice 1 l now (cost ps m) z) (sym (said_by_op set ps m (op.Do (action.Print a)) rest e)) (charged_leads a ps m rest z e s)
