-- Queries of closures lead on: to the body that is entered, or to a failure.
use Rattle.std.proofs.Common.{◌≡◌, ◌≢◌, ℕ, zero, suc, ◌+◌, ◌*◌, ◌<◌, ◌≤◌, Bool, true, false, List, [], ◌∷◌, length, map, Option, Some, None, refl, sym, ap, ◌∙◌, subst, arith}
use Rattle.std.specs.List.{slice_get}
use Rattle.dg_unify.specs.Store.{State}
use Rattle.dg_base.specs.Goals.{option_terms}
use Rattle.dg_base.specs.declared.program.CoreProgram.{CoreProgram}
use Rattle.dg_base.specs.declared.program.Term.{Term, out-Term}
use Rattle.dg_base.specs.declared.program.Term.TheVariants.{Var as Var-Term, outs-Var}
use Rattle.dg_base.specs.declared.run.Ending.TheVariants as ending
use Rattle.dg_meaning.specs.Cells.{cells, node_cells}
use Rattle.dg_meaning.specs.Copies.{values_of}
use Rattle.dg_meaning.specs.Values.{Num, Word, Object, Nil, Pair, Closure, Unknown, Value, Var, Node, Values, value_of}
use Rattle.dg_meaning.specs.World.{Print}
use Rattle.dg_mid.specs.declared.code.BodyCode.{BodyCode}
use Rattle.dg_mid.specs.declared.code.Code.{Code}
use Rattle.dg_mid.specs.declared.code.Op.{Op}
use Rattle.dg_mid.specs.declared.code.Op.TheVariants as op
use Rattle.dg_mid.specs.Code.{block_at}
use Rattle.dg_mid.specs.State.{Frame, Call, Target, ToBody, Mid, Status, Runs, Fails, vars_of}
use Rattle.dg_mid.specs.Step.{Setting, charged, bound, unified, passed, more, parameter, body_frame, enters_body, calls, body_of, closure_at, values, call_of, asks_last, last, queries, queries_last, asked_by}
use Rattle.z_model.specs.Run.{ZState}
use Rattle.z_lang.proofs.Stretches.{leads_then}
use Rattle.dg_rt.specs.Closings.{closing_most}
use Rattle.dg_turn.specs.Told.{Telling}
use Rattle.dg_turn.specs.Plays.{Playing}
use Rattle.dg_turn.specs.Paid.{paid}
use Rattle.dg_turn.specs.LastQueries.{left_at, next_of}
use Rattle.dg_turn.specs.Bodies.{query_call, asked_value, querying_most, FindsAt, Looks, BodyAt, body_unified, entered_body, body_most}
use Rattle.dg_turn.proofs.QueryTurn.{query_turns}
use Rattle.dg_turn.proofs.LastQueryTurn.{last_query_turns}
use Rattle.dg_turn.proofs.FindTurn.{find_turns}
use Rattle.dg_turn.proofs.BodyTurn.{body_turns}
use Rattle.dg_turn.proofs.Paid.{turns_are_paid}
use Rattle.dg_chain.specs.Routines.{FindsAll, Queries, QueriesLast, OpsAt, BlocksAt}
use Rattle.dg_chain.specs.Stands.{Printed, Stands}
use Rattle.dg_chain.specs.Whole.{OpLeads, story_setting}
use Rattle.dg_chain.proofs.Printed.{as_lasts}
use Rattle.dg_chain.proofs.Leading.{Lead, Alike, led_fails, finishes, leading_then, charged_leads, unified_leads, at_op, silently, a_unit}
use Rattle.dg_chain.proofs.Unifying.{agreed_leads}

-- ## What is asked

there_is : (cs : List BodyCode) (n : ℕ) → n < length cs → slice_get cs n ≡ None → ⊥
there_is [] n lt e = absurd (omega arith)
there_is (c ∷ cs) zero lt e = cc
there_is (c ∷ cs) (suc n) lt e = there_is cs n (omega arith) e

-- a parameter takes no cells
no_cells : (program : CoreProgram) (captured args : List Value) → cells program (parameter captured args) ≡ 0
no_cells program captured [] = refl
no_cells program captured (v ∷ vs) =
    let alone : cells program (Var-Term (length captured) ∷ []) ≡ 0 + node_cells program (out-Term (Var-Term (length captured))) = refl in
    omega (arith, alone, ap (node_cells program) (outs-Var (length captured)))

few_values : (f : Term → Value) (b : Option Term) → length (map f (option_terms b)) ≤ 1
few_values f None = omega arith
few_values f (Some t) = omega arith

-- a closure of the code, with its body
record Asked (code : Code) (v : Value) (target : Target) : Type 0 where
  place : ℕ
  parts : Values
  c : BodyCode
  v_is : v ≡ Node (Closure place) parts
  body_is : slice_get code.closures place ≡ Some c
  target_is : ToBody c (values_of parts) ≡ target

asked_is : (code : Code) (v : Value) (target : Target) → closure_at code v ≡ Some target → Asked code v target
asked_is code (Var n) target e = absurd (cc)
asked_is code (Node (Num n) parts) target e = absurd (cc)
asked_is code (Node (Word n) parts) target e = absurd (cc)
asked_is code (Node (Object n) parts) target e = absurd (cc)
asked_is code (Node Nil parts) target e = absurd (cc)
asked_is code (Node Pair parts) target e = absurd (cc)
asked_is code (Node (Unknown n) parts) target e = absurd (cc)
asked_is code (Node (Closure place) parts) target e = by_body (slice_get code.closures place) refl e
  where
    by_body : (o : Option BodyCode) → slice_get code.closures place ≡ o → body_of o parts ≡ Some target → Asked code (Node (Closure place) parts) target
    by_body None q f = absurd (cc)
    by_body (Some c) q f = record { place = place; parts = parts; c = c; v_is = refl; body_is = q; target_is = cc }

none_there : (code : Code) (v : Value) → closure_at code v ≡ None → (n : ℕ) (parts : Values) → n < length code.closures → v ≢ Node (Closure (0 + n)) parts
none_there code v e n parts lt q = by_body (slice_get code.closures (0 + n)) refl (ap (closure_at code) (sym q) ∙ e)
  where
    by_body : (o : Option BodyCode) → slice_get code.closures (0 + n) ≡ o → body_of o parts ≡ None → ⊥
    by_body None r f = there_is code.closures (0 + n) (omega (arith, lt)) r
    by_body (Some c) r f = cc

module _ (t : Telling) (plays : Playing t) (code : Code) (blocks : BlocksAt t code) (dice : List ℕ) where
  abbrev set : Setting
  set = story_setting t code dice

  abbrev cost : List Print → Mid → ℕ
  cost ps m = paid set ps (Runs m)

  -- what is asked is called, or it fails
  abbrev to : Mid → Call → Mid → Option Target → Status
  to failed call m None = Fails failed
  to failed call m (Some target) = calls set target call m

  -- ## A body is entered

  module _ (ps : List Print) (call : Call) (m : Mid) (w : Printed t ps m.lasting) (rest : List Op) (short : length call.args ≤ 1) (cut : call.cut.height ≡ m.state.heap) where
    abbrev m' : Mid
    m' = record m { ops = rest }

    body_leads : (number place : ℕ) (c : BodyCode) (parts : Values) (b : BodyAt t number place c) (z : ZState) → FindsAt t w.out number call (Node (Closure place) parts) m z → Lead t code dice 1 ps (enters_body set c (values_of parts) call m') (body_most t.program (values_of parts) c.own call m) z
    body_leads number place c parts b z f =
        let captured = values_of parts in
        let own = c.own in
        let u = body_unified t.program captured own call m in
        let all = body_most t.program captured own call m in
        let none : 6 + own ≡ 6 + own + cells t.program (parameter captured call.args) = omega (arith, no_cells t.program captured call.args) in
        let at : ℕ → Mid = λ k. record (passed m') { ops = block_at code c.block; state = record m.state { vars = m.state.vars + own; heap = m.state.heap + k } } in
        let inside : ℕ → Mid = λ k. record (bound u (at k)) { frames = body_frame captured own call m' ∷ m.frames; inner = [] } in
        let n = 6 + own in
        let ops : OpsAt t code (t.p.names.routine b.block) (block_at code c.block) = subst (λ (y : ℕ). OpsAt t code y (block_at code c.block)) (sym b.block_is) (blocks.each c.block) in
        subst (λ (k : ℕ). Lead t code dice 1 ps (charged set k m' (unified set u (at k) (Runs (inside k)))) all z) none
        (charged_leads t code dice 1 (omega arith) ps w n m' (unified set u (at n) (Runs (inside n))) all z f.rep.mid.state.few
        (λ room. unified_leads t code dice 1 (omega arith) ps w u (at n) (Runs (inside n)) all z
        (λ few. agreed_leads t plays code dice ps w b.block u.agrees (entered_body captured own call u m) (inside n) (bound u (at n)) all all z refl refl ops (omega arith) (body_turns.enters t plays w.out number place c call parts m z b short cut f room few))
        (λ over. finishes t code dice 1 (omega arith) ps w ending.TrailLimit (all + closing_most) all z (λ q. (cc)) (omega arith) (body_turns.meets_trail t plays w.out number place c call parts m z b short cut f room over)))
        (λ over. finishes t code dice 1 (omega arith) ps w ending.HeapLimit (25 + closing_most) all z (λ q. (cc)) (omega arith) (body_turns.meets_heap t plays w.out number place c call parts m z b f over)))

    -- What is asked, if it is a closure, and else it fails.
    module _ (failed : Mid) (like : Alike m.lasting m (record failed { frames = m.frames; inner = m.inner })) where
      looked_leads : (find : ℕ) (finds : FindsAll t code find) (v : Value) (most all : ℕ) (z : ZState) → Looks t w.out find call v m most z → (o : Option Target) → closure_at code v ≡ o → most + 4 * finds.depth + 30 ≤ all →
          ((c : BodyCode) (captured : List Value) → o ≡ Some (ToBody c captured) → c.own ≤ 300 → most + 4 * finds.depth + body_most t.program captured c.own call m ≤ all) → Lead t code dice 1 ps (to failed call m' o) all z
      looked_leads find finds v most all z k None e least enough =
          let f = find_turns.fails t plays w.out find 0 finds.depth code.closures finds.finds call v m k.there (none_there code v e) k.finds in
          let few = k.few in
          let few' = f.few in
          let some = k.some in
          led_fails t code dice 1 (omega arith) ps w m failed (most + (4 * finds.depth + 6)) all z like (omega arith)
          (record { there = f.there; count = k.count + f.count; some = omega arith; few = omega arith; leads = leads_then t.p.world k.count f.count z k.there f.there k.leads f.leads; rep = f.rep })
      looked_leads find finds v most all z k (Some target) e least enough =
          let a = asked_is code v target e in
          let here : a.place ≡ 0 + a.place = omega arith in
          let at : FindsAt t w.out find call (Node (Closure (0 + a.place)) a.parts) m k.there = subst (λ (x : Value). FindsAt t w.out find call x m k.there) (a.v_is ∙ ap (λ (i : ℕ). Node (Closure i) a.parts) here) k.finds in
          let g = find_turns.finds t plays w.out find 0 finds.depth code.closures finds.finds a.place a.c a.parts call m k.there a.body_is at in
          let few = k.few in
          let few' = g.few in
          let fits = enough a.c (values_of a.parts) (ap Some (sym a.target_is)) g.body_at.few in
          subst (λ (x : Target). Lead t code dice 1 ps (calls set x call m') all z) a.target_is
          (leading_then t code dice 1 ps (enters_body set a.c (values_of a.parts) call m') (k.count + g.count) (body_most t.program (values_of a.parts) a.c.own call m) all z g.there (omega arith) (leads_then t.p.world k.count g.count z k.there g.there k.leads g.leads)
          (body_leads g.number (0 + a.place) a.c a.parts g.body_at g.there g.finds))

  -- ## Queries

  queries_are : (args : List Value) (many : Bool) (next : ℕ) (m : Mid) (o : Option Target) → to m (call_of args many next m) m o ≡ queries set o args many next m
  queries_are args many next m None = refl
  queries_are args many next m (Some target) = refl

  pub query_leads : (a : Term) (b : Option Term) (many : Bool) (next : ℕ) → OpLeads t code dice (op.Query a b many next)
  query_leads a b many next ps m rest z e always s =
      let out = s.printed.out in
      let o : Queries t code s.at.x a b many next = at_op t code dice ps m rest z (op.Query a b many next) e s in
      let n = cells t.program (a ∷ option_terms b) in
      let m1 = more n (record m { ops = rest }) in
      let args = values set m (option_terms b) in
      let call = query_call t.program a b many next m in
      let target = asked_by set a m in
      let unit = a_unit t code dice ps m in
      silently t code dice ps m rest z (op.Query a b many next) e _ (cost ps m) refl
      (charged_leads t code dice 1 (omega arith) ps s.printed n (record m { ops = rest }) (queries set target args many next m1) (cost ps m) z s.at.rep.mid.state.few
      (λ room. subst (λ (now : Status). Lead t code dice 1 ps now (cost ps m) z) (queries_are args many next m1 target)
      (looked_leads ps call (more n m) s.printed rest (few_values (value_of t.program (vars_of m.frames)) b) refl m1 refl o.find o.all (asked_value t.program a m) (querying_most t.program a b m) (cost ps m) z
      (query_turns.asks t plays out s.at.x a b o.behind many next o.find m z o.is o.goes o.nodes room s.at.rep) target refl (turns_are_paid.unasked set ps m a b many next rest o.all.depth e o.nodes o.all.few)
      (λ c captured q own. turns_are_paid.query set ps m a b many next rest c captured call o.all.depth e q refl o.nodes own o.all.few)))
      (λ over. finishes t code dice 1 (omega arith) ps s.printed ending.HeapLimit (10 + closing_most) (cost ps m) z (λ q. (cc)) (omega arith) (query_turns.meets t plays out s.at.x a b o.behind many o.find m z o.is over s.at.rep)))

  -- ## The last of a rule

  module _ (a : Term) (b : Option Term) (many : Bool) (ps : List Print) (m : Mid) (rest : List Op) (z : ZState) (e : m.ops ≡ op.LastQuery a b many ∷ rest) (s : Stands t code ps (Runs m) z) where
    abbrev n : ℕ
    n = cells t.program (a ∷ option_terms b)

    abbrev m1 : Mid
    m1 = more n (record m { ops = rest })

    abbrev args : List Value
    args = values set m (option_terms b)

    abbrev target : Option Target
    target = asked_by set a m

    o : QueriesLast t code s.at.x a b many
    o = at_op t code dice ps m rest z (op.LastQuery a b many) e s

    abbrev call : ℕ → Call
    call next = query_call t.program a b many next m

    -- where it goes on, and the machine in which it is called
    called_leads : (next : ℕ) (left : Mid) → Alike left.lasting left (record m1 { frames = left.frames; inner = left.inner }) → left.state ≡ (more n m).state → Looks t s.printed.out o.find (call next) (asked_value t.program a m) left (querying_most t.program a b m) z → Lead t code dice 1 ps (to m1 (call next) (record left { ops = rest }) target) (cost ps m) z
    called_leads next left like same k =
        looked_leads ps (call next) left (as_lasts s.printed left.lasting (ap (λ (k : Mid). k.lasting) (sym like))) rest (few_values (value_of t.program (vars_of m.frames)) b) (ap (λ (x : State). x.heap) (sym same)) m1 like o.find o.all (asked_value t.program a m) (querying_most t.program a b m) (cost ps m) z k target refl
        (turns_are_paid.last_unasked set ps m a b many rest o.all.depth e o.nodes o.all.few)
        (λ c captured q own.
        let paid_for = turns_are_paid.last_query set ps m a b many rest c captured (call next) o.all.depth e q refl o.nodes own o.all.few in
        let costs = ap (λ (x : State). body_most t.program captured c.own (call next) (record m { state = x })) same in
        omega arith)

    -- inside a rule, all of whose answers are wanted, or one
    inside_leads : (every : Bool) (f : Frame) (fs : List Frame) → Looks t s.printed.out o.find (call (next_of every f)) (asked_value t.program a m) (left_at every f fs (more n m)) (querying_most t.program a b m) z →
        Lead t code dice 1 ps (to m1 (call (next_of every f)) (record (left_at every f fs (more n m)) { ops = rest }) target) (cost ps m) z
    inside_leads true f fs k = called_leads f.next (left_at true f fs (more n m)) refl refl k
    inside_leads false f fs k = called_leads 0 (left_at false f fs (more n m)) refl refl k

    inside_is : (every : Bool) (f : Frame) (fs : List Frame) (x : Target) → calls set x (call (next_of every f)) (record (left_at every f fs (more n m)) { ops = rest }) ≡ asks_last set x args many every f fs m1
    inside_is true f fs x = refl
    inside_is false f fs x = refl

    lasts_are : (f : Frame) (fs : List Frame) → m.frames ≡ f ∷ fs → (q : Option Target) → to m1 (call (next_of f.many f)) (record (left_at f.many f fs (more n m)) { ops = rest }) q ≡ queries_last set q args many m1
    lasts_are f fs i None = refl
    lasts_are f fs i (Some x) = inside_is f.many f fs x ∙ sym (ap (λ (l : List Frame). last set x args many l m1) i)

    alone_is : m.frames ≡ [] → (q : Option Target) → to m1 (call 0) (record m1 { inner = [] }) q ≡ queries_last set q args many m1
    alone_is i None = refl
    alone_is i (Some x) = sym (ap (λ (l : List Frame). last set x args many l m1) i)

    room_by : (frames : List Frame) → m.frames ≡ frames → m.state.heap + n ≤ 10000 → Lead t code dice 1 ps (queries_last set target args many m1) (cost ps m) z
    room_by [] i room =
        subst (λ (now : Status). Lead t code dice 1 ps now (cost ps m) z) (alone_is i target) (called_leads 0 (record (more n m) { inner = [] }) refl refl (last_query_turns.asks_alone t plays s.printed.out s.at.x a b o.end many o.find m z o.is o.end_is i o.nodes room s.at.rep))
    room_by (f ∷ fs) i room =
        subst (λ (now : Status). Lead t code dice 1 ps now (cost ps m) z) (lasts_are f fs i target) (inside_leads f.many f fs (last_query_turns.asks t plays s.printed.out s.at.x a b o.end many o.find f fs m z o.is o.end_is i o.nodes room s.at.rep))

  pub last_query_leads : (a : Term) (b : Option Term) (many : Bool) → OpLeads t code dice (op.LastQuery a b many)
  last_query_leads a b many ps m rest z e always s =
      let o : QueriesLast t code s.at.x a b many = at_op t code dice ps m rest z (op.LastQuery a b many) e s in
      let n = cells t.program (a ∷ option_terms b) in
      let m1 = more n (record m { ops = rest }) in
      let unit = a_unit t code dice ps m in
      silently t code dice ps m rest z (op.LastQuery a b many) e _ (cost ps m) refl
      (charged_leads t code dice 1 (omega arith) ps s.printed n (record m { ops = rest }) (queries_last set (asked_by set a m) (values set m (option_terms b)) many m1) (cost ps m) z s.at.rep.mid.state.few
      (λ room. room_by a b many ps m rest z e s m.frames refl room)
      (λ over. finishes t code dice 1 (omega arith) ps s.printed ending.HeapLimit (10 + closing_most) (cost ps m) z (λ q. (cc)) (omega arith) (last_query_turns.meets t plays s.printed.out s.at.x a b o.end many o.find m z o.is over s.at.rep)))
