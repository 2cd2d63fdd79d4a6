-- Queries lead on: to the rule that is entered, or to a failure.
use Rattle.std.proofs.Common.{◌≡◌, ℕ, ◌+◌, ◌*◌, ◌<◌, ◌≤◌, Bool, true, false, List, [], ◌∷◌, length, refl, sym, subst, arith}
use Rattle.dg_base.specs.declared.program.Term.{Term}
use Rattle.dg_base.specs.declared.run.Ending.TheVariants as ending
use Rattle.dg_meaning.specs.Cells.{cells}
use Rattle.dg_meaning.specs.Values.{Value}
use Rattle.dg_meaning.specs.World.{Print}
use Rattle.dg_mid.specs.declared.code.Code.{Code}
use Rattle.dg_mid.specs.declared.code.Op.{Op}
use Rattle.dg_mid.specs.declared.code.Op.TheVariants as op
use Rattle.dg_mid.specs.declared.code.RuleCode.{RuleCode}
use Rattle.dg_mid.specs.Code.{rules_at, selected}
use Rattle.dg_mid.specs.State.{Frame, Call, ToPred, Mid, Runs, vars_of}
use Rattle.dg_mid.specs.Step.{Setting, more, first_of, asks, asks_last, last, call_of, values}
use Rattle.z_model.specs.Run.{ZState}
use Rattle.dg_rt.specs.Closings.{closing_most}
use Rattle.dg_turn.specs.Told.{Telling, RulesAt}
use Rattle.dg_turn.specs.Plays.{Playing, Closes}
use Rattle.dg_turn.specs.Paid.{paid}
use Rattle.dg_turn.specs.Rules.{keyed}
use Rattle.dg_turn.specs.Queries.{asked_call, asking_most, Asking, AskedAt}
use Rattle.dg_turn.specs.LastQueries.{left_at, next_of, LastAsking, LastAlone}
use Rattle.dg_turn.proofs.Rows.{length_map}
use Rattle.dg_turn.proofs.AskTurn.{ask_turns}
use Rattle.dg_turn.proofs.LastTurn.{last_turns}
use Rattle.dg_turn.proofs.Beginning.{begin_turns}
use Rattle.dg_turn.proofs.Begun.{ask_begins}
use Rattle.dg_turn.proofs.Paid.{turns_are_paid}
use Rattle.dg_chain.specs.Routines.{Asks, AsksLast, BlocksAt}
use Rattle.dg_chain.specs.Stands.{Printed, Stands}
use Rattle.dg_chain.specs.Whole.{OpLeads, story_setting}
use Rattle.dg_chain.proofs.Leading.{Lead, finishes, leading_then, charged_leads, begun_leads, at_op, silently, a_unit}

module _ (t : Telling) (plays : Playing t) (code : Code) (blocks : BlocksAt t code) (dice : List ℕ) where
  abbrev set : Setting
  set = story_setting t code dice

  abbrev cost : List Print → Mid → ℕ
  cost ps m = paid set ps (Runs m)

  pub ask_leads : (pred : ℕ) (terms : List Term) (many : Bool) (next : ℕ) → OpLeads t code dice (op.Ask pred terms many next)
  ask_leads pred terms many next ps m rest z e always s =
      let out = s.printed.out in
      let a : Asks t code s.at.x pred terms many next = at_op t code dice ps m rest z (op.Ask pred terms many next) e s in
      let at : Asking t out terms many next a.number m z = record { x = s.at.x; behind = a.behind; rep = s.at.rep; there = a.is; goes = a.goes; short = a.rules.short; nodes = a.nodes } in
      let n = cells t.program terms in
      let m' = record m { ops = rest } in
      let call = asked_call t.program terms many next m in
      let rules = rules_at code pred in
      let unit = a_unit t code dice ps m in
      silently t code dice ps m rest z (op.Ask pred terms many next) e _ (cost ps m) refl
      (charged_leads t code dice 1 (omega arith) ps s.printed n m' (asks set pred (call_of (values set m' terms) many next (more n m')) (more n m')) (cost ps m) z s.at.rep.mid.state.few
      (λ room. begun_leads t code dice 1 (omega arith) ps s.printed blocks call (more n m) rest room refl (selected (first_of m.state.subst call) rules) _ (cost ps m) z
      (turns_are_paid.ask set ps m pred terms many next rules rest e a.nodes (blocks.few pred)) (ask_begins t plays blocks.some out terms many next a.number rules m z a.rules.rules_are room at))
      (λ over. finishes t code dice 1 (omega arith) ps s.printed ending.HeapLimit (10 + closing_most) (cost ps m) z (λ q. (cc)) (omega arith) (ask_turns.meets t plays out terms many next a.number m z at over)))

  -- ## The last of a rule

  -- A query was asked, and its rules are looked at.
  asked_leads : (ps : List Print) (m : Mid) (w : Printed t ps m.lasting) (number pred : ℕ) (call : Call) (rest : List Op) (most all : ℕ) (z : ZState) → RulesAt t (length call.args) number (rules_at code pred) → call.cut.height ≡ m.state.heap → m.state.heap ≤ 10000 →
      most + (4 * keyed (rules_at code pred) + 70) ≤ all → AskedAt t w.out number call (first_of m.state.subst call) m most z → Lead t code dice 1 ps (asks set pred call (record m { ops = rest })) all z
  asked_leads ps m w number pred call rest most all z rules_are cut heap le a =
      let rules = rules_at code pred in
      let few = a.few in
      let b = begin_turns t plays blocks.some w.out rules number call a.key m a.there rules_are a.key_is cut a.looks in
      leading_then t code dice 1 ps (asks set pred call (record m { ops = rest })) a.count (4 * keyed rules + 70) all z a.there (omega arith) a.leads
      (begun_leads t code dice 1 (omega arith) ps w blocks call m rest heap refl (selected (first_of m.state.subst call) rules) (4 * keyed rules + 70) (4 * keyed rules + 70) a.there (omega arith) b)

  module _ (pred : ℕ) (terms : List Term) (many : Bool) (ps : List Print) (m : Mid) (rest : List Op) (z : ZState) (e : m.ops ≡ op.LastAsk pred terms many ∷ rest) (s : Stands t code ps (Runs m) z) where
    abbrev n : ℕ
    n = cells t.program terms

    abbrev m' : Mid
    m' = record m { ops = rest }

    abbrev args : List Value
    args = values set m terms

    abbrev rules : List RuleCode
    rules = rules_at code pred

    a : AsksLast t code s.at.x pred terms many
    a = at_op t code dice ps m rest z (op.LastAsk pred terms many) e s

    abbrev at : (f : Frame) (fs : List Frame) → m.frames ≡ f ∷ fs → LastAsking t s.printed.out terms many a.number f fs m z
    at f fs i = record { x = s.at.x; end = a.end; rep = s.at.rep; there = a.is; end_is = a.end_is; frames = i; short = a.rules.short; nodes = a.nodes }

    abbrev alone : m.frames ≡ [] → LastAlone t s.printed.out terms many a.number m z
    alone i = record { x = s.at.x; end = a.end; rep = s.at.rep; there = a.is; end_is = a.end_is; frames = i; short = a.rules.short; nodes = a.nodes }

    rules_are : RulesAt t (length args) a.number rules
    rules_are = subst (λ (k : ℕ). RulesAt t k a.number rules) (sym (length_map t.program (vars_of m.frames) terms)) a.rules.rules_are

    paid_for : asking_most t.program terms m + (4 * keyed rules + 70) ≤ cost ps m
    paid_for = let k = turns_are_paid.last_ask set ps m pred terms many rules rest e a.nodes (blocks.few pred) in omega arith

    -- where all answers of the rule at hand are wanted, or one is
    asks_by : (b : Bool) (f : Frame) (fs : List Frame) → m.state.heap + n ≤ 10000 →
        AskedAt t s.printed.out a.number (call_of args many (next_of b f) (more n m)) (first_of m.state.subst (call_of args many (next_of b f) (more n m))) (left_at b f fs (more n m)) (asking_most t.program terms m) z →
        Lead t code dice 1 ps (asks_last set (ToPred pred) args many b f fs (more n m')) (cost ps m) z
    asks_by true f fs room k = asked_leads ps (left_at true f fs (more n m)) s.printed a.number pred (call_of args many f.next (more n m)) rest (asking_most t.program terms m) (cost ps m) z rules_are refl room paid_for k
    asks_by false f fs room k = asked_leads ps (left_at false f fs (more n m)) s.printed a.number pred (call_of args many 0 (more n m)) rest (asking_most t.program terms m) (cost ps m) z rules_are refl room paid_for k

    room_by : (frames : List Frame) → m.frames ≡ frames → m.state.heap + n ≤ 10000 → Lead t code dice 1 ps (last set (ToPred pred) args many frames (more n m')) (cost ps m) z
    room_by [] i room = asked_leads ps (record (more n m) { inner = [] }) s.printed a.number pred (call_of args many 0 (more n m)) rest (asking_most t.program terms m) (cost ps m) z rules_are refl room paid_for (last_turns.asks_alone t plays s.printed.out terms many a.number m z (alone i) room)
    room_by (f ∷ fs) i room = asks_by f.many f fs room (last_turns.asks t plays s.printed.out terms many a.number f fs m z (at f fs i) room)

    over_by : (frames : List Frame) → m.frames ≡ frames → 10000 < m.state.heap + n → Closes t s.printed.out ending.HeapLimit (10 + closing_most) z
    over_by [] i over = last_turns.alone_meets t plays s.printed.out terms many a.number m z (alone i) over
    over_by (f ∷ fs) i over = last_turns.meets t plays s.printed.out terms many a.number f fs m z (at f fs i) over

  pub last_leads : (pred : ℕ) (terms : List Term) (many : Bool) → OpLeads t code dice (op.LastAsk pred terms many)
  last_leads pred terms many ps m rest z e always s =
      let n = cells t.program terms in
      let m' = record m { ops = rest } in
      let unit = a_unit t code dice ps m in
      silently t code dice ps m rest z (op.LastAsk pred terms many) e _ (cost ps m) refl
      (charged_leads t code dice 1 (omega arith) ps s.printed n m' (last set (ToPred pred) (values set m terms) many m.frames (more n m')) (cost ps m) z s.at.rep.mid.state.few
      (λ room. room_by pred terms many ps m rest z e s m.frames refl room)
      (λ over. finishes t code dice 1 (omega arith) ps s.printed ending.HeapLimit (10 + closing_most) (cost ps m) z (λ q. (cc)) (omega arith) (over_by pred terms many ps m rest z e s m.frames refl over)))
