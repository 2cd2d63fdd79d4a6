-- Rules are looked at, up to the first that isn't excluded.
use Rattle.std.proofs.Common.{◌≡◌, ℕ, ◌+◌, ◌*◌, Bool, true, false, List, [], ◌∷◌, length, Option, Some, None, refl, sym, ap, ◌∙◌, subst, arith}
use Rattle.std.specs.Prelude.{not, ◌==◌, ◌||◌, if◌then◌else◌}
use Rattle.dg_meaning.specs.Values.{Label, Value, Var, Node}
use Rattle.dg_mid.specs.declared.code.RuleCode.{RuleCode}
use Rattle.dg_mid.specs.Code.{label_of, excluded, selected}
use Rattle.dg_mid.specs.State.{Call, Mid}
use Rattle.z_model.specs.Run.{ZState}
use Rattle.z_lang.specs.declared.act.Atom.TheVariants as atoms
use Rattle.z_lang.specs.declared.act.Comparison.TheVariants as comparisons
use Rattle.z_lang.specs.Acts.{answer_of}
use Rattle.z_lang.specs.Runs.{passed, returns}
use Rattle.z_lang.proofs.Stretches.{leads_none, leads_then}
use Rattle.dg_rt.specs.Areas.{state}
use Rattle.dg_rt.specs.Shapes.{Shape}
use Rattle.dg_rt.specs.RunTime.{routine_of}
use Rattle.dg_rt.specs.Rules.{key_word}
use Rattle.dg_rt.proofs.Following.{bool, register}
use Rattle.dg_turn.specs.Told.{Telling, FirstIs, KeyFits, rule_acts, RuleAt, RulesAt}
use Rattle.dg_turn.specs.Plays.{Playing, Outside, CallAt}
use Rattle.dg_turn.specs.Rules.{LooksAt, Selects, passed_over, SelectTurns}
use Rattle.dg_turn.proofs.Rows.{call_stays}
use Rattle.dg_turn.proofs.Keys.{key_tells}
use Rattle.dg_turn.proofs.Moving.{moved}

-- an excluded rule has a key
pub never : (first : Option Value) (r : RuleCode) → label_of r.key ≡ None → excluded first r.key ≡ true → ⊥
never None r q e = cc
never (Some (Var x)) r q e = cc
never (Some (Node f vs)) r q e = absurd (let z : false ≡ true = sym (rw q refl) ∙ e in cc)

module _ (t : Telling) (plays : Playing t) (out : Outside) (call : Call) (first : Option Value) (key found : ℕ) (m : Mid) (is_key : FirstIs first key) where
  -- it is passed over in one turn
  passes : (r : RuleCode) (rs : List RuleCode) (number : ℕ) (z : ZState) (g : Label) → label_of r.key ≡ Some g → excluded first r.key ≡ true → (i : RuleAt (λ n. RulesAt t (length call.args) n rs) t (length call.args) number r) → (l : LooksAt t out number call key found m z) → Selects t out rs call key found m 4 z
  passes r rs number z g labelled excludes i l =
      let rep = l.rep in
      let high = plays.has.mapped.room in
      let n = length call.args in
      let at : t.p.routine_at (t.p.names.routine number) ≡ Some (routine_of 1 (rule_acts (Some g) n i.enter number i.next)) = i.is ∙ ap (λ (o : Option Label). Some (routine_of 1 (rule_acts o n i.enter number i.next))) labelled in
      let s0 = state rep.memory (0 ∷ []) out.typed out.drawn out.output in
      let tells : ((key == 32768) || (key == key_word g)) ≡ false = key_tells first key r.key g labelled is_key (subst KeyFits labelled i.fits) ∙ ap not excludes in
      let test : answer_of t.p s0 (record { comparison = comparisons.Either (atoms.Num (key_word g)); first = atoms.Var 27; second = atoms.Num 32768; answer = true }) ≡ Some false =
      rw (register t.p s0 rep.cells 27 rep.holds (omega arith) (omega arith) (omega arith), l.key_is) (ap bool tells) in
      let go = moved t plays out (t.p.names.routine number) m z rep (routine_of 1 (rule_acts (Some g) n i.enter number i.next)) at (omega arith) (t.p.names.routine i.next) 2 rep.memory (0 ∷ []) rep.cells rep.sh rep.trail m
      (passed test (returns refl)) rep.holds (plays.words i.next) rep.mid in
      record {
        number = i.next;
        rules_are = i.behind;
        there = go.there;
        count = 4;
        few = omega arith;
        leads = go.leads;
        looks = record {
          rep = go.rep;
          call_is = subst (λ (s : Shape). CallAt t s go.rep.cells call) (sym go.shape_is) (call_stays t rep.sh rep.cells go.rep.cells call (λ k low n12 lt. go.cells_are k (λ e. (omega arith))) l.call_is);
          key_is = go.cells_are 11 (λ e. (omega arith)) ∙ l.key_is;
          found_is = go.cells_are 12 (λ e. (omega arith)) ∙ l.found_is;
        };
      }

  here : (r : RuleCode) (rs : List RuleCode) (number : ℕ) (z : ZState) → (b : Bool) → excluded first r.key ≡ b → RuleAt (λ n. RulesAt t (length call.args) n rs) t (length call.args) number r → (l : LooksAt t out number call key found m z) →
      ((number : ℕ) (z : ZState) → RulesAt t (length call.args) number rs → (k : LooksAt t out number call key found m z) → Selects t out (selected first rs) call key found m (4 * passed_over first rs) z) → Selects t out (if b then selected first rs else r ∷ rs) call key found m (4 * (if b then 1 + passed_over first rs else 0)) z
  here r rs number z false e i l ih = record { number = number; rules_are = i; there = z; count = 0; few = omega arith; leads = leads_none t.p.world z; looks = l }
  here r rs number z true e i l ih = by_label (label_of r.key) refl
    where
      by_label : (o : Option Label) → label_of r.key ≡ o → Selects t out (selected first rs) call key found m (4 * (1 + passed_over first rs)) z
      by_label None q = absurd (never first r q e)
      by_label (Some g) q =
          let a = passes r rs number z g q e i l in
          let b = ih a.number a.there a.rules_are a.looks in
          let few = a.few in
          let few' = b.few in
          record { number = b.number; rules_are = b.rules_are; there = b.there; count = a.count + b.count; few = omega arith; leads = leads_then t.p.world a.count b.count z a.there b.there a.leads b.leads; looks = b.looks }

  selects : (rules : List RuleCode) (number : ℕ) (z : ZState) → RulesAt t (length call.args) number rules → (l : LooksAt t out number call key found m z) → Selects t out (selected first rules) call key found m (4 * passed_over first rules) z
  selects [] number z are l = record { number = number; rules_are = are; there = z; count = 0; few = omega arith; leads = leads_none t.p.world z; looks = l }
  selects (r ∷ rs) number z are l = here r rs number z (excluded first r.key) refl are l (λ n y a k. selects rs n y a k)

pub select_turns : SelectTurns
select_turns t plays out rules number call first key found m z are is_key l = selects t plays out call first key found m is_key rules number z are l
