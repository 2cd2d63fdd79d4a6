-- Rules are looked at from the first to the second that isn't excluded.
use Rattle.std.proofs.Common.{◌≡◌, ◌≢◌, ℕ, ◌+◌, ◌*◌, ◌≤◌, Bool, true, false, List, [], ◌∷◌, Option, Some, None, refl, ap, subst, arith}
use Rattle.std.specs.Prelude.{if◌then◌else◌}
use Rattle.dg_base.specs.declared.run.Ending.TheVariants.{HeapLimit}
use Rattle.dg_meaning.specs.Values.{Label, Value}
use Rattle.dg_mid.specs.Code.{label_of, excluded, selected}
use Rattle.dg_mid.specs.State.{Call, Mid}
use Rattle.dg_mid.specs.Step.{first_of}
use Rattle.dg_mid.specs.declared.code.RuleCode.{RuleCode}
use Rattle.z_model.specs.Run.{ZState}
use Rattle.z_lang.specs.Leads.{Leads}
use Rattle.z_lang.proofs.Stretches.{leads_then}
use Rattle.dg_rt.specs.Closings.{closing_most}
use Rattle.dg_turn.specs.Told.{Telling, FirstIs}
use Rattle.dg_turn.specs.Plays.{Playing, Outside}
use Rattle.dg_turn.specs.Rules.{LooksAt, Selects, one_if_key, keyed, passed_over, BegunTo, behind_first, BeginTurns}
use Rattle.dg_turn.proofs.Looking.{never, select_turns}
use Rattle.dg_turn.proofs.Finding.{found_turns, none_turns}
use Rattle.dg_turn.proofs.Moving.{closes_then}

-- the first that is left isn't excluded
left_first : (first : Option Value) (rules : List RuleCode) (r : RuleCode) (rs : List RuleCode) → selected first rules ≡ r ∷ rs → excluded first r.key ≡ false
left_first first [] r rs e = absurd (cc)
left_first first (x ∷ xs) r rs e = by_answer (λ f. left_first first xs r rs f) (excluded first x.key) refl e
  where
    by_answer : (selected first xs ≡ r ∷ rs → excluded first r.key ≡ false) → (b : Bool) → excluded first x.key ≡ b → (if b then selected first xs else x ∷ xs) ≡ r ∷ rs → excluded first r.key ≡ false
    by_answer ih true q f = ih f
    by_answer ih false q f = (let same : x ≡ r = cc in subst (λ (y : RuleCode). excluded first y.key ≡ false) same q)

-- those that are passed over have keys
over_and_left : (first : Option Value) (rules : List RuleCode) → passed_over first rules + keyed (selected first rules) ≤ keyed rules
over_and_left first [] = omega arith
over_and_left first (r ∷ rs) = by_answer (excluded first r.key) refl (over_and_left first rs)
  where
    by_answer : (b : Bool) → excluded first r.key ≡ b → passed_over first rs + keyed (selected first rs) ≤ keyed rs → (if b then 1 + passed_over first rs else 0) + keyed (if b then selected first rs else r ∷ rs) ≤ keyed (r ∷ rs)
    by_answer true e le = by_label (label_of r.key) refl
      where
        by_label : (o : Option Label) → label_of r.key ≡ o → 1 + passed_over first rs + keyed (selected first rs) ≤ one_if_key o + keyed rs
        by_label None q = absurd (never first r q e)
        by_label (Some f) q = omega arith
    by_answer false e le = omega arith

module _ (t : Telling) (plays : Playing t) (blocks : (b : ℕ) → t.at_block b ≢ 0) (out : Outside) (call : Call) (key : ℕ) (m : Mid) (is_key : FirstIs (first_of m.state.subst call) key) (cut : call.cut.height ≡ m.state.heap) where
  abbrev first : Option Value
  first = first_of m.state.subst call

  -- behind the first that was found
  second : (r : RuleCode) (rs found : List RuleCode) (a most : ℕ) (z there : ZState) → selected first rs ≡ found → Leads t.p.world a z there → (s : Selects t out found call key (t.at_block r.block) m (4 * passed_over first rs) there) → a + 4 * passed_over first rs + 60 ≤ most → BegunTo t out call (r ∷ rs) found m most z
  second r rs [] a most z there e leads s enough =
      let l = subst (λ (n : ℕ). LooksAt t out n call key (t.at_block r.block) m s.there) s.rules_are s.looks in
      let k = none_turns.begins t plays out call key (t.at_block r.block) m s.there (blocks r.block) l in
      let few = s.few in
      let few' = k.few in
      let some = k.some in
      record { there = k.there; count = a + (s.count + k.count); some = omega arith; few = omega arith; leads = leads_then t.p.world a (s.count + k.count) z there k.there leads (leads_then t.p.world s.count k.count there s.there k.there s.leads k.leads); rep = k.rep; call_is = k.call_is }
  second r rs (q ∷ qs) a most z there e leads s enough =
      let i = left_first first rs q qs e in
      let few = s.few in
      let both = leads_then t.p.world a s.count z there s.there leads s.leads in
      record {
        opens = λ room.
            let k = found_turns.opens t plays out q qs s.number call key (t.at_block r.block) m s.there s.rules_are is_key i (blocks r.block) cut room s.looks in
            let few' = k.few in
            let some = k.some in
            record { there = k.there; count = a + s.count + k.count; some = omega arith; few = omega arith; leads = leads_then t.p.world (a + s.count) k.count z s.there k.there both k.leads; rep = k.rep; call_is = k.call_is };
        meets = λ over.
            let k = found_turns.meets t plays out q qs s.number call first key (t.at_block r.block) m s.there s.rules_are is_key i (blocks r.block) over s.looks in
            closes_then t out HeapLimit (a + s.count) (a + s.count) (15 + closing_most) (most + closing_most) z s.there (omega arith) (omega arith) both k;
      }

  begun : (rules found : List RuleCode) (z : ZState) → selected first rules ≡ found → Selects t out found call key 0 m (4 * passed_over first rules) z → BegunTo t out call found (behind_first first found) m (4 * keyed rules + 70) z
  begun rules [] z e s =
      let l = subst (λ (n : ℕ). LooksAt t out n call key 0 m s.there) s.rules_are s.looks in
      let k = none_turns.fails t plays out call key m s.there l in
      let whole = over_and_left first rules in
      let few = s.few in
      let few' = k.few in
      let some = k.some in
      record { there = k.there; count = s.count + k.count; some = omega arith; few = omega arith; leads = leads_then t.p.world s.count k.count z s.there k.there s.leads k.leads; rep = k.rep }
  begun rules (r ∷ rs) z e s =
      let i = left_first first rules r rs e in
      let f = found_turns.keeps t plays out r rs s.number call first key m s.there s.rules_are is_key i s.looks in
      let n = select_turns t plays out rs f.number call first key (t.at_block r.block) m f.there f.rules_are is_key f.looks in
      let few = s.few in
      let few' = f.few in
      let whole = over_and_left first rules in
      let left = ap keyed e in
      let behind = over_and_left first rs in
      second r rs (selected first rs) (s.count + f.count) (4 * keyed rules + 70) z f.there refl (leads_then t.p.world s.count f.count z s.there f.there s.leads f.leads) n (omega arith)

pub begin_turns : BeginTurns
begin_turns t plays blocks out rules number call key m z are is_key cut l =
    begun t plays blocks out call key m is_key cut rules (selected (first_of m.state.subst call) rules) z refl (select_turns t plays out rules number call (first_of m.state.subst call) key 0 m z are is_key l)
