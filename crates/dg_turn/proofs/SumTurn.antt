-- A gathering is taken out as a sum: one turn of the story.
use Rattle.std.proofs.Common.{◌≡◌, ◌≢◌, ℕ, suc, ◌+◌, ◌*◌, ◌<◌, List, [], ◌∷◌, ◌++◌, length, Option, None, Some, refl, sym, ap, ◌∙◌, subst, arith}
use Rattle.dg_meaning.specs.Numbers.{total}
use Rattle.dg_meaning.specs.Values.{Num, Value, leaf}
use Rattle.dg_meaning.specs.World.{Gathering, gathered_size}
use Rattle.dg_mid.specs.declared.code.Gathered.TheVariants as gathered
use Rattle.dg_mid.specs.State.{Mid}
use Rattle.z_model.specs.Run.{ZState}
use Rattle.z_lang.specs.State.{Program}
use Rattle.z_lang.specs.Runs.{calls}
use Rattle.dg_rt.specs.declared.numbers.TheConstants.{FAIL, TAKE_SUM}
use Rattle.dg_rt.specs.declared.gathering.TheConstants.{TAKE_SUM_ACTS}
use Rattle.dg_rt.specs.Arithmetic.{result_word, IsNumber}
use Rattle.dg_rt.specs.Cells.{with_cell}
use Rattle.dg_rt.specs.Areas.{state}
use Rattle.dg_rt.specs.RunTime.{routine_of, HasRunTime}
use Rattle.dg_rt.specs.Shapes.{Shows}
use Rattle.dg_rt.proofs.SumTaken.{sum_works}
use Rattle.dg_turn.specs.Told.{Telling, told_count}
use Rattle.dg_turn.specs.Rest.{aux_at, gather_words, newest, RestIn}
use Rattle.dg_turn.specs.Plays.{Playing, Outside, Represented, Comes}
use Rattle.dg_turn.specs.Turns.{match_acts, last_acts}
use Rattle.dg_turn.specs.Gatherings.{take_routine, TakesHere, adding_most, summing_most, TakesSum}
use Rattle.dg_turn.proofs.Gathered.{gathered_at}
use Rattle.dg_turn.proofs.Staying.{mid_same}
use Rattle.dg_turn.proofs.Taken.{sum_value, sum_clash, sum_shows, Taken, none_taken, value_taken, trail_full, memory3, c3, put1, put2, c3_else, c3_made, c3_into, copied, text_last, rest_there, mid_without, counted}

take_sum_at : (p : Program) → HasRunTime p → p.routine_at (p.names.routine TAKE_SUM) ≡ Some (routine_of 4 TAKE_SUM_ACTS)
take_sum_at p has = has.each 103 (routine_of 4 TAKE_SUM_ACTS) refl

result_small : (made : Option ℕ) → IsNumber made → result_word made < 65536
result_small None small = omega arith
result_small (Some n) small = omega arith

module _ (t : Telling) (plays : Playing t) (out : Outside) (behind : ℕ) (into : Value) (x : Gathering) (xs : List Gathering) (m : Mid) (z : ZState) (here : m.gathered ≡ x ∷ xs) (e : TakesHere t out gathered.Sum behind into m z) where
  abbrev rs : Represented t out e.x m z
  rs = e.rep

  abbrev gone : Mid
  gone = record m { gathered = xs }

  there_now : RestIn t out.words rs.cells (x ∷ xs)
  there_now = rest_there t plays out gathered.Sum behind into m z e x xs here

  taken_sum : Taken t out (take_routine gathered.Sum behind).body (match_acts 32 52 1 ++ last_acts behind) rs.memory gone into (sum_value (total x.values)) (10 * length x.values + 14)
  taken_sum =
      let high = plays.has.mapped.room in
      let vs = x.values in
      let k = sum_works.takes t.p plays.has (told_count t.program) out.typed out.output out.drawn rs.memory rs.cells rs.holds (aux_at + gathered_size xs) (newest (gather_words xs)) vs (gathered_at t rs.cells x xs there_now) there_now.gatherings.0.formed in
      let answer = result_word (total vs) in
      let small = result_small (total x.values) k.small in
      let c' = c3 t plays out gathered.Sum behind into m z e k.memory' k.cells' k.holds answer small in
      let other : (j : ℕ) → j ≢ 16 → j ≢ 36 → c' j ≡ k.cells' j = c3_else t plays out gathered.Sum behind into m z e k.memory' k.cells' k.holds answer small in
      let few = k.few in
      record {
        memory2 = memory3 t plays out gathered.Sum behind into m z e k.memory' k.cells' k.holds answer small;
        c2 = c';
        holds = (put2 t plays out gathered.Sum behind into m z e k.memory' k.cells' k.holds answer small).holds;
        sh' = rs.sh;
        trail' = rs.trail;
        mid = mid_without t plays out gathered.Sum behind into m z e x xs here c' (other 29 (λ q. (omega arith)) (λ q. (omega arith)) ∙ k.named) (λ j n13 n16 n29 n36. other j n16 n36 ∙ k.others j n13 n29);
        clash = other 13 (λ q. (omega arith)) (λ q. (omega arith)) ∙ k.clash ∙ sym (sum_clash (total vs));
        last = other 28 (λ q. (omega arith)) (λ q. (omega arith)) ∙ k.others 28 (λ q. (omega arith)) (λ q. (omega arith)) ∙ text_last t plays out gathered.Sum behind into m z e;
        shows_into = subst (λ (w : ℕ). Shows rs.sh w into) (sym (c3_into t plays out gathered.Sum behind into m z e k.memory' k.cells' k.holds answer small ∙ k.others 8 (λ q. (omega arith)) (λ q. (omega arith)))) e.into_is;
        shows_made = sum_shows rs.sh (c' 36) (total vs) k.small (c3_made t plays out gathered.Sum behind into m z e k.memory' k.cells' k.holds answer small);
        count = suc (k.count + 1);
        few = omega arith;
        runs = λ o s' n go. counted t plays out gathered.Sum behind into m z e k.count o s' n (calls {f' = 2400} {w' = 14000} {n = k.count} {n' = suc n} {xs = (0, 0, 0)} {s1 = state k.memory' k.locals' out.typed out.drawn out.output} {s2 = state (with_cell k.memory' 36 answer) [] out.typed out.drawn out.output} refl refl (take_sum_at t.p plays.has) (omega arith) (omega arith) k.runs
            (put1 t plays out gathered.Sum behind into m z e k.memory' k.cells' k.holds answer small).put_is (copied t plays out gathered.Sum behind into m z e k.memory' k.cells' k.holds answer small (take_routine gathered.Sum behind).body o s' n go));
      }

  as_made : (o : Option ℕ) → total x.values ≡ o → Taken t out (take_routine gathered.Sum behind).body (match_acts 32 52 1 ++ last_acts behind) rs.memory gone into (sum_value o) (10 * length x.values + 14)
  as_made o q = subst (λ (i : Option ℕ). Taken t out (take_routine gathered.Sum behind).body (match_acts 32 52 1 ++ last_acts behind) rs.memory gone into (sum_value i) (10 * length x.values + 14)) q taken_sum

  pub sum_turn : TakesSum t out behind into x xs m z
  sum_turn = record {
    fails = λ none. none_taken t plays out gathered.Sum behind into m z e gone (10 * length x.values + 14) (adding_most x.values) (as_made None none) (omega arith);
    sums = λ n is few. value_taken t plays out gathered.Sum behind into m z e gone (leaf (Num n)) (10 * length x.values + 14) (as_made (Some n) is) (summing_most into x.values n m) (omega arith) few;
    meets_trail = λ n is over. trail_full t plays out gathered.Sum behind into m z e gone (leaf (Num n)) (10 * length x.values + 14) (as_made (Some n) is) (summing_most into x.values n m) (omega arith) over;
  }

-- ## Without a gathering

module _ (t : Telling) (plays : Playing t) (out : Outside) (behind : ℕ) (into : Value) (m : Mid) (z : ZState) (none : m.gathered ≡ []) (e : TakesHere t out gathered.Sum behind into m z) where
  taken_none : Taken t out (take_routine gathered.Sum behind).body (match_acts 32 52 1 ++ last_acts behind) e.rep.memory m into None 5
  taken_none =
      let high = plays.has.mapped.room in
      let r = e.rep in
      let k = sum_works.none t.p plays.has out.typed out.output out.drawn r.memory r.cells r.holds (r.mid.rest.gather ∙ ap (λ (gs : List Gathering). newest (gather_words gs)) none) in
      let small : 65535 < 65536 = omega arith in
      let c' = c3 t plays out gathered.Sum behind into m z e k.memory' k.cells' k.holds 65535 small in
      let other : (j : ℕ) → j ≢ 16 → j ≢ 36 → c' j ≡ k.cells' j = c3_else t plays out gathered.Sum behind into m z e k.memory' k.cells' k.holds 65535 small in
      record {
        memory2 = memory3 t plays out gathered.Sum behind into m z e k.memory' k.cells' k.holds 65535 small;
        c2 = c';
        holds = (put2 t plays out gathered.Sum behind into m z e k.memory' k.cells' k.holds 65535 small).holds;
        sh' = r.sh;
        trail' = r.trail;
        mid = mid_same t r.sh r.cells c' r.trail m (λ j n0 far. other j (λ (q : j ≡ 16). (let y = far.0 (omega arith) in omega arith)) (λ (q : j ≡ 36). (let y = far.1 (omega arith) in omega arith)) ∙ k.others j (λ (q : j ≡ 13). (let y = far.0 (omega arith) in omega arith))) r.mid;
        clash = other 13 (λ q. (omega arith)) (λ q. (omega arith)) ∙ k.clash;
        last = other 28 (λ q. (omega arith)) (λ q. (omega arith)) ∙ k.others 28 (λ q. (omega arith)) ∙ text_last t plays out gathered.Sum behind into m z e;
        shows_into = subst (λ (w : ℕ). Shows r.sh w into) (sym (c3_into t plays out gathered.Sum behind into m z e k.memory' k.cells' k.holds 65535 small ∙ k.others 8 (λ q. (omega arith)))) e.into_is;
        shows_made = tt;
        count = suc (3 + 1);
        few = omega arith;
        runs = λ o s' n go. counted t plays out gathered.Sum behind into m z e 3 o s' n (calls {f' = 2400} {w' = 14000} {n = 3} {n' = suc n} {xs = (0, 0, 0)} {s1 = state k.memory' k.locals' out.typed out.drawn out.output} {s2 = state (with_cell k.memory' 36 65535) [] out.typed out.drawn out.output} refl refl (take_sum_at t.p plays.has) (omega arith) (omega arith) k.runs
            (put1 t plays out gathered.Sum behind into m z e k.memory' k.cells' k.holds 65535 small).put_is (copied t plays out gathered.Sum behind into m z e k.memory' k.cells' k.holds 65535 small (take_routine gathered.Sum behind).body o s' n go));
      }

  pub no_sum_turn : Comes t out (t.p.names.routine FAIL) m 40 z
  no_sum_turn = none_taken t plays out gathered.Sum behind into m z e m 5 40 taken_none (omega arith)
