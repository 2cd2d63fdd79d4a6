-- The body of a closure is found: turns of the story.
use Rattle.std.proofs.Common.{◌≡◌, ◌≢◌, ℕ, zero, suc, ◌+◌, ◌-◌, ◌*◌, ◌<◌, ◌≤◌, Bool, true, false, inl, inr, List, [], ◌∷◌, ◌++◌, length, Option, Some, None, refl, sym, ap, ◌∙◌, subst, arith, length-append}
use Rattle.std.specs.Prelude.{if◌then◌else◌}
use Rattle.std.specs.List.{slice_get}
use lib.IntN.{negsuc}
use Rattle.std.proofs.lemmas.Int.{ints}
use Rattle.std.proofs.lemmas.Bool.{lt-ltb, le-ltb, cases_lt}
use Rattle.std.proofs.lemmas.Option.{slice_get_within}
use Rattle.z_model.specs.Numbers.{signed_16}
use Rattle.dg_meaning.specs.Values.{Label, Num, Word, Unknown, Object, Nil, Pair, Closure, Value, Var, Node, Values}
use Rattle.dg_mid.specs.declared.code.BodyCode.{BodyCode}
use Rattle.dg_mid.specs.State.{Call, Mid}
use Rattle.z_model.specs.Run.{ZState}
use Rattle.z_lang.specs.declared.act.Act.{Act}
use Rattle.z_lang.specs.declared.act.Atom.TheVariants as atoms
use Rattle.z_lang.specs.declared.act.Comparison.TheVariants as comparisons
use Rattle.z_lang.specs.Leads.{Leads}
use Rattle.z_lang.specs.Runs.{ActsRun, Returns, taken, passed, returns, behind_label}
use Rattle.z_lang.proofs.Stretches.{leads_none, leads_then}
use Rattle.dg_rt.specs.declared.numbers.TheConstants.{FAIL}
use Rattle.dg_rt.specs.Cells.{compared}
use Rattle.dg_rt.specs.Areas.{state}
use Rattle.dg_rt.specs.Rules.{KeyIs}
use Rattle.dg_rt.specs.RunTime.{routine_of}
use Rattle.dg_rt.specs.Shapes.{Shape, Shows}
use Rattle.dg_rt.proofs.Following.{tested, register}
use Rattle.dg_turn.specs.Told.{Telling}
use Rattle.dg_turn.specs.Lies.{WordsIn}
use Rattle.dg_turn.specs.Plays.{Playing, Outside, registers}
use Rattle.dg_turn.specs.Bodies.{FindsAt, fork_routine, body_routine, BodyAt, FindsBodies, no_body, one_body, two_parts, FoundBody, FindsNone, FindTurns}
use Rattle.dg_turn.proofs.Staying.{mid_same}
use Rattle.dg_turn.proofs.ToBody.{other_body}
use Rattle.dg_turn.proofs.Rows.{registers_same}
use Rattle.dg_turn.proofs.Moving.{moved, moves}

-- ## Keys in order

negative : (k : ℕ) → k < 32768 → signed_16 (32768 + k) ≡ negsuc (32767 - k)
negative k lt = rw (le-ltb (32768 + k) 32768 (omega arith)) (omega (arith, ints))

boxed_word : (k : ℕ) → 49152 + k ≡ 32768 + (16384 + k)
boxed_word k = omega arith

before : (p q : ℕ) → p < q → q < 16384 → compared comparisons.Less (49152 + p) (49152 + q) ≡ true
before p q lt small = rw (boxed_word p, boxed_word q, negative (16384 + p) (omega arith), negative (16384 + q) (omega arith)) (lt-ltb (32767 - (16384 + q)) (32767 - (16384 + p)) (omega arith))

not_before : (p q : ℕ) → q ≤ p → p < 16384 → compared comparisons.Less (49152 + p) (49152 + q) ≡ false
not_before p q le small = rw (boxed_word p, boxed_word q, negative (16384 + p) (omega arith), negative (16384 + q) (omega arith)) (le-ltb (32767 - (16384 + q)) (32767 - (16384 + p)) (omega arith))

-- ## Parts of a list

get_left : (cs ds : List BodyCode) (n : ℕ) → n < length cs → slice_get (cs ++ ds) n ≡ slice_get cs n
get_left [] ds n lt = absurd (omega arith)
get_left (c ∷ cs) ds zero lt = refl
get_left (c ∷ cs) ds (suc n) lt = get_left cs ds n (omega arith)

get_right : (cs ds : List BodyCode) (n : ℕ) → length cs ≤ n → slice_get (cs ++ ds) n ≡ slice_get ds (n - length cs)
get_right [] ds n le = let e : n ≡ n - 0 = omega arith in ap (slice_get ds) e
get_right (c ∷ cs) ds zero le = absurd (omega arith)
get_right (c ∷ cs) ds (suc n) le = let e : n - length cs ≡ suc n - suc (length cs) = omega arith in get_right cs ds n (omega arith) ∙ ap (slice_get ds) e

code_of : BodyCode → Option BodyCode → BodyCode
code_of d None = d
code_of d (Some c) = c

first_is : (c d : BodyCode) → slice_get (c ∷ []) 0 ≡ Some d → c ≡ d
unfolding code_of
first_is c d e = ap (code_of c) e

-- a key that is a closure's
key_closure : (f : Label) (vs : Values) (key place : ℕ) → KeyIs (Node f vs) key → key ≡ 49152 + place → f ≡ Closure place
key_closure (Num n) vs key place k e = let a = k.0 in let b = k.1 in absurd (omega arith)
key_closure (Word n) vs key place k e = let a = k.0 in let b = k.1 in absurd (omega arith)
key_closure (Unknown letters) vs key place k e = let a = k.0 in absurd (omega arith)
key_closure (Object n) vs key place k e = let a = k.0 in let b = k.1 in absurd (omega arith)
key_closure Nil vs key place k e = let a = k.0 in absurd (omega arith)
key_closure Pair vs key place k e = let a = k.0 in absurd (omega arith)
key_closure (Closure q) vs key place k e = let a = k.0 in let same : q ≡ place = omega arith in ap Closure same

no_closure : (v : Value) (key place : ℕ) → KeyIs v key → ((parts : Values) → v ≢ Node (Closure place) parts) → key ≢ 49152 + place
no_closure (Var x) key place k none e = omega arith
no_closure (Node f vs) key place k none e = none vs (ap (λ (g : Label). Node g vs) (key_closure f vs key place k e))

-- ## One step

module _ (t : Telling) (plays : Playing t) (out : Outside) (call : Call) (v : Value) (m : Mid) where
  -- A routine that changes nothing answers another.
  record Steps (y : ℕ) (z : ZState) : Type 0 where
    there : ZState
    leads : Leads t.p.world 4 z there
    finds : FindsAt t out y call v m there

  steps_to : (number y : ℕ) (z : ZState) (acts' : List Act) → t.p.routine_at (t.p.names.routine number) ≡ Some (routine_of 0 acts') → (f : FindsAt t out number call v m z) → ActsRun t.p 3500 19000 acts' acts' (state f.rep.memory [] out.typed out.drawn out.output) (Returns (t.p.names.routine y)) (state f.rep.memory [] out.typed out.drawn out.output) 2 → Steps y z
  steps_to number y z acts' there f runs =
      let rep = f.rep in
      let go = moved t plays out (t.p.names.routine number) m z rep (routine_of 0 acts') there (omega arith) (t.p.names.routine y) 2 rep.memory [] rep.cells rep.sh rep.trail m runs rep.holds (plays.words y) rep.mid in
      record {
        there = go.there;
        leads = go.leads;
        finds = record {
          rep = go.rep;
          shown = subst (λ (s : Shape). Shows s (go.rep.cells 15) v) (sym go.shape_is) (subst (λ (w : ℕ). Shows rep.sh w v) (sym (go.cells_are 15 (λ q. (omega arith)))) f.shown);
          key_is = subst (KeyIs v) (sym (go.cells_are 11 (λ q. (omega arith)))) f.key_is;
          args_are = subst (λ (s : Shape). WordsIn s (registers go.rep.cells 16 (length call.args)) call.args) (sym go.shape_is) (subst (λ (l : List ℕ). WordsIn rep.sh l call.args) (sym (registers_same rep.cells go.rep.cells 16 (length call.args) (λ j low lt. go.cells_are j (λ q. (omega arith))))) f.args_are);
          count_is = go.cells_are 37 (λ q. (omega arith)) ∙ f.count_is;
          next_is = go.cells_are 8 (λ q. (omega arith)) ∙ f.next_is;
          many_is = go.cells_are 10 (λ q. (omega arith)) ∙ f.many_is;
        };
      }

  -- by the test of a fork
  forks : (number left right place : ℕ) (z : ZState) (b : Bool) → t.p.routine_at (t.p.names.routine number) ≡ Some (fork_routine place left right) → place < 16384 → (f : FindsAt t out number call v m z) → compared comparisons.Less (f.rep.cells 11) (49152 + place) ≡ b → Steps (if b then left else right) z
  unfolding behind_label
  forks number left right place z true there small f e =
      let high = plays.has.mapped.room in
      let s0 = state f.rep.memory [] out.typed out.drawn out.output in
      steps_to number left z (fork_routine place left right).body there f
      (taken (tested t.p s0 comparisons.Less (atoms.Var 27) (atoms.Num (49152 + place)) true (f.rep.cells 11) (49152 + place) true (register t.p s0 f.rep.cells 27 f.rep.holds (omega arith) (omega arith) (omega arith)) refl e) refl (returns refl))
  forks number left right place z false there small f e =
      let high = plays.has.mapped.room in
      let s0 = state f.rep.memory [] out.typed out.drawn out.output in
      steps_to number right z (fork_routine place left right).body there f
      (passed (tested t.p s0 comparisons.Less (atoms.Var 27) (atoms.Num (49152 + place)) true (f.rep.cells 11) (49152 + place) false (register t.p s0 f.rep.cells 27 f.rep.holds (omega arith) (omega arith) (omega arith)) refl e) (returns refl))

  -- ## No body

  fails_then : (d : ℕ) (z there : ZState) → Leads t.p.world 4 z there → FindsNone t out m (4 * d + 6) there → FindsNone t out m (4 * suc d + 6) z
  fails_then d z there leads k = let few = k.few in record { there = k.there; count = 4 + k.count; few = omega arith; leads = leads_then t.p.world 4 k.count z there k.there leads k.leads; rep = k.rep }

  fails : (number place depth : ℕ) (cs : List BodyCode) → FindsBodies t number place cs depth → (z : ZState) → ((n : ℕ) (parts : Values) → n < length cs → v ≢ Node (Closure (place + n)) parts) → FindsAt t out number call v m z → FindsNone t out m (4 * depth + 6) z
  fails number place depth cs (no_body _ _) z none f = record { there = z; count = 0; few = omega arith; leads = leads_none t.p.world z; rep = f.rep }
  fails number place depth cs (one_body _ _ _ c b) z none f =
      let rep = f.rep in
      let here : place + 0 ≡ place = omega arith in
      let other : rep.cells 11 ≢ 49152 + place = no_closure v (rep.cells 11) place f.key_is (λ parts. subst (λ (i : ℕ). v ≢ Node (Closure i) parts) here (none 0 parts (omega arith))) in
      let r = other_body t plays out number place c call v m z b f other in
      let k = moves t plays out (t.p.names.routine number) m z rep (body_routine place c.own b.block) b.is (omega arith) (t.p.names.routine FAIL) 4 (4 * depth + 6) r.memory' [] r.cells' rep.sh rep.trail m r.runs r.holds (plays.words FAIL) (mid_same t rep.sh rep.cells r.cells' rep.trail m (λ j ne far. r.others j (λ (q : j ≡ 36). (let y : 302 < j = far.1 (omega arith) in omega arith))) rep.mid) (omega arith) in
      record { there = k.there; count = k.count; few = k.few; leads = k.leads; rep = k.rep }
  fails number place depth cs (two_parts _ left right _ d bs ds there small a b) z none f = by_test (compared comparisons.Less (f.rep.cells 11) (49152 + (place + length bs))) refl (λ y g. fails left place d bs a y (λ n parts lt. none n parts (let size = length-append bs ds in omega arith)) g)
      (λ y g. fails right (place + length bs) d ds b y (λ n parts lt e. none (length bs + n) parts (let size = length-append bs ds in omega arith) (e ∙ (let sum : place + length bs + n ≡ place + (length bs + n) = omega arith in ap (λ (i : ℕ). Node (Closure i) parts) sum))) g)
    where
      by_test : (r : Bool) → compared comparisons.Less (f.rep.cells 11) (49152 + (place + length bs)) ≡ r → ((y : ZState) → FindsAt t out left call v m y → FindsNone t out m (4 * d + 6) y) → ((y : ZState) → FindsAt t out right call v m y → FindsNone t out m (4 * d + 6) y) → FindsNone t out m (4 * suc d + 6) z
      by_test true e l r = let k = forks number left right (place + length bs) z true there small f e in fails_then d z k.there k.leads (l k.there k.finds)
      by_test false e l r = let k = forks number left right (place + length bs) z false there small f e in fails_then d z k.there k.leads (r k.there k.finds)

-- ## A body

found_then : (t : Telling) (out : Outside) (place : ℕ) (c : BodyCode) (call : Call) (v : Value) (m : Mid) (d : ℕ) (z there : ZState) → Leads t.p.world 4 z there → FoundBody t out place c call v m (4 * d) there → FoundBody t out place c call v m (4 * suc d) z
found_then t out place c call v m d z there leads k = let few = k.few in record { number = k.number; body_at = k.body_at; there = k.there; count = 4 + k.count; few = omega arith; leads = leads_then t.p.world 4 k.count z there k.there leads k.leads; finds = k.finds }

found : (t : Telling) (plays : Playing t) (out : Outside) (number place depth : ℕ) (cs : List BodyCode) → FindsBodies t number place cs depth → (n p : ℕ) → p ≡ place + n → (c : BodyCode) (parts : Values) (call : Call) (m : Mid) (z : ZState) → slice_get cs n ≡ Some c → FindsAt t out number call (Node (Closure p) parts) m z →
    FoundBody t out p c call (Node (Closure p) parts) m (4 * depth) z
found t plays out number place depth cs (no_body _ _) n p is c parts call m z e f = absurd (let lt = slice_get_within [] n c e in omega arith)
found t plays out number place depth cs (one_body _ _ _ d b) n p is c parts call m z e f =
    let lt = slice_get_within (d ∷ []) n c e in
    let none : n ≡ 0 = omega arith in
    let same : d ≡ c = first_is d c (ap (slice_get (d ∷ [])) (sym none) ∙ e) in
    let at : place ≡ p = omega arith in
    record { number = number; body_at = subst (BodyAt t number p) same (subst (λ (i : ℕ). BodyAt t number i d) at b); there = z; count = 0; few = omega arith; leads = leads_none t.p.world z; finds = f }
found t plays out number place depth cs (two_parts _ left right _ d bs ds there small a b) n p is c parts call m z e f = elim (cases_lt n (length bs)) [
  | inl lt ↦
      let key = f.key_is.0 in
      let small_p = f.key_is.1 in
      let test : compared comparisons.Less (f.rep.cells 11) (49152 + (place + length bs)) ≡ true = ap (λ (k : ℕ). compared comparisons.Less k (49152 + (place + length bs))) key ∙ before p (place + length bs) (omega arith) small in
      let k = forks t plays out call (Node (Closure p) parts) m number left right (place + length bs) z true there small f test in
      found_then t out p c call (Node (Closure p) parts) m d z k.there k.leads (found t plays out left place d bs a n p is c parts call m k.there (sym (get_left bs ds n lt) ∙ e) k.finds)
  | inr ge ↦
      let key = f.key_is.0 in
      let small_p = f.key_is.1 in
      let test : compared comparisons.Less (f.rep.cells 11) (49152 + (place + length bs)) ≡ false = ap (λ (k : ℕ). compared comparisons.Less k (49152 + (place + length bs))) key ∙ not_before p (place + length bs) (omega arith) small_p in
      let k = forks t plays out call (Node (Closure p) parts) m number left right (place + length bs) z false there small f test in
      found_then t out p c call (Node (Closure p) parts) m d z k.there k.leads (found t plays out right (place + length bs) d ds b (n - length bs) p (omega arith) c parts call m k.there (sym (get_right bs ds n ge) ∙ e) k.finds)
]

pub find_turns : FindTurns
find_turns = record {
  finds = λ t plays out number place depth cs h n c parts call m z e f. found t plays out number place depth cs h n (place + n) refl c parts call m z e f;
  fails = λ t plays out number place depth cs h call v m z none f. fails t plays out call v m number place depth cs h z none f;
}
