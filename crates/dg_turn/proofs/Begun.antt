-- Queries and failures with the rules that are looked at then.
use Rattle.std.proofs.Common.{ℕ, ◌+◌, ◌*◌, ◌≤◌, List, [], ◌∷◌, length, refl, sym, subst, arith}
use Rattle.dg_base.specs.declared.run.Ending.TheVariants.{HeapLimit}
use Rattle.dg_meaning.specs.Cells.{cells}
use Rattle.dg_mid.specs.declared.code.RuleCode.{RuleCode}
use Rattle.dg_mid.specs.Code.{selected}
use Rattle.dg_mid.specs.State.{Call, Mid, vars_of}
use Rattle.dg_mid.specs.Step.{more, first_of, back_at}
use Rattle.z_model.specs.Run.{ZState}
use Rattle.z_lang.specs.Leads.{Leads}
use Rattle.z_lang.proofs.Stretches.{leads_then}
use Rattle.dg_rt.specs.Closings.{closing_most}
use Rattle.dg_turn.specs.Told.{Telling, RulesAt}
use Rattle.dg_turn.specs.Plays.{Outside}
use Rattle.dg_turn.specs.Rules.{keyed, BegunTo, behind_first}
use Rattle.dg_turn.specs.Queries.{asked_call, asking_most, AskBegins, FailBegins}
use Rattle.dg_turn.proofs.Rows.{length_map}
use Rattle.dg_turn.proofs.Beginning.{begin_turns}
use Rattle.dg_turn.proofs.AskTurn.{ask_turns}
use Rattle.dg_turn.proofs.FailTurn.{fail_turns}
use Rattle.dg_turn.proofs.Moving.{closes_then}

begun_then : (t : Telling) (out : Outside) (call : Call) (found others : List RuleCode) (m : Mid) (a n most all : ℕ) (z there : ZState) → a ≤ n → n + most ≤ all → Leads t.p.world a z there → BegunTo t out call found others m most there → BegunTo t out call found others m all z
begun_then t out call [] others m a n most all z there le sum leads k = let few = k.few in let some = k.some in record { there = k.there; count = a + k.count; some = omega arith; few = omega arith; leads = leads_then t.p.world a k.count z there k.there leads k.leads; rep = k.rep }
begun_then t out call (r ∷ rs) [] m a n most all z there le sum leads k = let few = k.few in let some = k.some in record { there = k.there; count = a + k.count; some = omega arith; few = omega arith; leads = leads_then t.p.world a k.count z there k.there leads k.leads; rep = k.rep; call_is = k.call_is }
begun_then t out call (r ∷ rs) (q ∷ qs) m a n most all z there le sum leads k = record {
  opens = λ room. (let o = k.opens room in let few = o.few in let some = o.some in record { there = o.there; count = a + o.count; some = omega arith; few = omega arith; leads = leads_then t.p.world a o.count z there o.there leads o.leads; rep = o.rep; call_is = o.call_is });
  meets = λ over. closes_then t out HeapLimit a n (most + closing_most) (all + closing_most) z there le (omega arith) leads (k.meets over);
}

pub ask_begins : AskBegins
ask_begins t plays blocks out ts many next number rules m z are room asking =
    let size = length_map t.program (vars_of m.frames) ts in
    let call = asked_call t.program ts many next m in
    let first = first_of m.state.subst call in
    let found = selected first rules in
    let m' = more (cells t.program ts) m in
    let a = ask_turns.asks t plays out ts many next number m z asking room in
    let rules_are : RulesAt t (length call.args) number rules = subst (λ (n : ℕ). RulesAt t n number rules) (sym size) are in
    let b = begin_turns t plays blocks out rules number call a.key m' a.there rules_are a.key_is refl a.looks in
    begun_then t out call found (behind_first first found) m' a.count (asking_most t.program ts m) (4 * keyed rules + 70) (asking_most t.program ts m + 4 * keyed rules + 70) z a.there a.few (omega arith) a.leads b

pub fail_begins : FailBegins
fail_begins t plays blocks out m x xs call rules z e way ordered short r =
    let first = first_of x.state.subst call in
    let found = selected first rules in
    let m' = back_at x xs m in
    let a = fail_turns t plays out m x xs call rules z e way ordered short r in
    let b = begin_turns t plays blocks out rules a.number call a.key m' a.there a.rules_are a.key_is a.cut a.looks in
    begun_then t out call found (behind_first first found) m' a.count _ (4 * keyed rules + 70) _ z a.there a.few (omega arith) a.leads b
