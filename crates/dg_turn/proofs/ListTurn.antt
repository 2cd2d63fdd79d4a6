-- A gathering is taken out as a list: one turn of the story.
use Rattle.std.proofs.Common.{⊎_elim, ◌≡◌, ◌≢◌, ℕ, suc, ◌+◌, ◌<◌, ◌≤◌, List, [], ◌∷◌, ◌++◌, None, Some, refl, sym, ap, ◌∙◌, subst, arith}
use Rattle.dg_base.specs.declared.run.Ending.TheVariants.{HeapLimit}
use Rattle.dg_meaning.specs.Copies.{list_of, vars_in, copy_from, copy_cells}
use Rattle.dg_meaning.specs.Values.{Value}
use Rattle.dg_meaning.specs.World.{Gathering, gathered_size}
use Rattle.dg_mid.specs.declared.code.Gathered.{Gathered}
use Rattle.dg_mid.specs.declared.code.Gathered.TheVariants as gathered
use Rattle.dg_mid.specs.State.{Mid}
use Rattle.z_model.specs.Run.{ZState}
use Rattle.z_lang.specs.declared.act.Act.{Act}
use Rattle.z_lang.specs.State.{Program}
use Rattle.z_lang.specs.Runs.{calls, calls_last}
use Rattle.dg_rt.specs.declared.numbers.TheConstants.{FAIL, TAKE_LIST}
use Rattle.dg_rt.specs.declared.gathering.TheConstants.{TAKE_LIST_ACTS}
use Rattle.dg_rt.specs.Cells.{with_cell, replaced}
use Rattle.dg_rt.specs.Areas.{heap_at, trail_at, state}
use Rattle.dg_rt.specs.Closings.{closing_most}
use Rattle.dg_rt.specs.CopiesIn.{HasCaptures}
use Rattle.dg_rt.specs.Gatherings as rt
use Rattle.dg_rt.specs.Gatherings.{AreFormed, GatheredAt, list_most}
use Rattle.dg_rt.specs.Laying.{copy_word}
use Rattle.dg_rt.specs.RunTime.{routine_of, HasRunTime}
use Rattle.dg_rt.specs.Shapes.{Shows}
use Rattle.dg_rt.proofs.Cells.{other_cell, same_cell}
use Rattle.dg_rt.proofs.Grows.{grown_shows}
use Rattle.dg_rt.proofs.ListTaken.{list_works}
use Rattle.dg_turn.specs.Told.{Telling, told_count}
use Rattle.dg_turn.specs.Rest.{aux_at, gather_words, newest, RestIn}
use Rattle.dg_turn.specs.Lies.{MidIn}
use Rattle.dg_turn.specs.Plays.{Playing, Outside, Represented, Comes, Closes}
use Rattle.dg_turn.specs.Turns.{match_acts, last_acts}
use Rattle.dg_turn.specs.Gatherings.{take_routine, TakesHere, with_copy, taking_most, TakesList, TakeTurns}
use Rattle.dg_turn.proofs.Gathered.{are_told, gathered_at}
use Rattle.dg_turn.proofs.Grows.{mid_grown}
use Rattle.dg_turn.proofs.Moving.{closes}
use Rattle.dg_turn.proofs.Staying.{IsKept, mid_same}
use Rattle.dg_turn.proofs.Taken.{captures_as, Taken, none_taken, value_taken, trail_full, memory3, c3, put1, put2, c3_else, c3_made, c3_into, copied, text_last, rest_there, mid_without, counted}
use Rattle.dg_turn.proofs.Growing.{stands_same}
use Rattle.std.proofs.lemmas.Bool.{cases_eq}
use Rattle.dg_turn.proofs.SumTurn.{no_sum_turn, sum_turn}

take_list_at : (p : Program) → HasRunTime p → p.routine_at (p.names.routine TAKE_LIST) ≡ Some (routine_of 5 TAKE_LIST_ACTS)
take_list_at p has = has.each 102 (routine_of 5 TAKE_LIST_ACTS) refl

module _ (t : Telling) (plays : Playing t) (has : HasCaptures t.p t.story (told_count t.program)) (out : Outside) (behind : ℕ) (into : Value) (x : Gathering) (xs : List Gathering) (m : Mid) (z : ZState) (here : m.gathered ≡ x ∷ xs) (e : TakesHere t out gathered.List behind into m z) where
  abbrev rl : Represented t out e.x m z
  rl = e.rep

  abbrev vs : List Value
  vs = x.values

  abbrev v : Value
  v = list_of x.values

  abbrev without : Mid
  without = record m { gathered = xs }

  abbrev body : List Act
  body = (take_routine gathered.List behind).body

  there_now : RestIn t out.words rl.cells (x ∷ xs)
  there_now = rest_there t plays out gathered.List behind into m z e x xs here

  at : GatheredAt rl.cells (aux_at + gathered_size xs) (newest (gather_words xs)) x.values
  at = gathered_at t rl.cells x xs there_now

  told : (place : ℕ) → told_count t.program place ≡ rl.sh.captures place
  told place = sym (rl.mid.state.told place)

  has_here : HasCaptures t.p t.story rl.sh.captures
  has_here = captures_as t.p t.story (told_count t.program) rl.sh.captures (λ place. rl.mid.state.told place) has

  formed : AreFormed rl.sh.captures x.values
  formed = are_told (told_count t.program) rl.sh.captures told x.values there_now.gatherings.0.formed

  heap_is : rl.cells 3 ≡ rl.sh.top
  heap_is = rl.mid.heap ∙ sym rl.mid.state.heap

  no_room : 10000 < m.state.heap + copy_cells (list_of x.values) → Closes t out HeapLimit (list_most x.values + closing_most + 4) z
  no_room over =
      let top = rl.mid.state.heap in
      let low = rl.mid.state.few in
      let q = list_works.meets t.p t.story rl.sh has_here out.typed out.output out.drawn rl.memory rl.cells rl.holds rl.kept heap_is (omega arith) (aux_at + gathered_size xs) (newest (gather_words xs)) x.values at formed (omega arith) in
      let few = q.few in
      closes t plays out e.x m z rl (take_routine gathered.List behind) e.there (omega arith) (suc q.count) (list_most x.values + closing_most + 4) HeapLimit q.memory' []
      (calls_last {f' = 2400} {w' = 14000} {n = q.count} {xs = (0, 0, 0)} refl refl (take_list_at t.p plays.has) (omega arith) (omega arith) q.runs)
      (omega arith)

  module _ (room : m.state.heap + copy_cells (list_of x.values) ≤ 10000) where
    k : rt.TakesList t.p t.story rl.memory out.typed out.output out.drawn rl.sh m.state.subst rl.cells (newest (gather_words xs)) x.values
    k =
        let top = rl.mid.state.heap in
        list_works.takes t.p t.story rl.sh has_here out.typed out.output out.drawn rl.memory rl.cells rl.holds rl.kept rl.mid.state.shape rl.mid.state.low m.state.subst rl.mid.state.stands rl.mid.state.known heap_is (aux_at + gathered_size xs) (newest (gather_words xs)) x.values at formed (omega arith)

    abbrev answer : ℕ
    answer = copy_word rl.sh.top (list_of x.values)

    abbrev c' : ℕ → ℕ
    c' = c3 t plays out gathered.List behind into m z e k.memory' k.cells' k.holds answer k.small

    other : (j : ℕ) → j ≢ 16 → j ≢ 36 → c' j ≡ k.cells' j
    other j n16 n36 = c3_else t plays out gathered.List behind into m z e k.memory' k.cells' k.holds answer k.small j n16 n36

    -- first the gathering is gone
    abbrev mixed : ℕ → ℕ
    mixed = replaced rl.cells 29 (newest (gather_words xs))

    mid_gone : MidIn t out.words rl.sh mixed rl.trail without
    mid_gone = mid_without t plays out gathered.List behind into m z e x xs here mixed (same_cell rl.cells 29 (newest (gather_words xs))) (λ j n13 n16 n29 n36. other_cell rl.cells 29 (newest (gather_words xs)) j n29)

    -- then the list lies on the heap
    same_word : (j : ℕ) → j ≢ 0 → j ≢ 3 → IsKept j → (heap_at + rl.sh.top ≤ j → trail_at ≤ j) → c' j ≡ mixed j
    same_word j n0 n3 far beyond =
        let top = rl.mid.state.heap in
        let n16 : j ≢ 16 = λ (q : j ≡ 16). (let y = far.0 (omega arith) in omega arith) in
        let n36 : j ≢ 36 = λ (q : j ≡ 36). (let y = far.1 (omega arith) in omega arith) in
        ⊎_elim (λ (q : j ≡ 29). subst (λ (i : ℕ). c' i ≡ mixed i) (sym q) (other 29 (λ p. (omega arith)) (λ p. (omega arith)) ∙ k.named ∙ sym (same_cell rl.cells 29 (newest (gather_words xs)))))
        (λ (n29 : j ≢ 29).
        other j n16 n36 ∙ k.others j (λ (q : j ≡ 13). (let y = far.0 (omega arith) in omega arith)) n29 n3 (λ (q : j ≡ 38). (let y = far.1 (omega arith) in omega arith)) (λ (q : j ≡ 39). (let y = far.1 (omega arith) in omega arith)) (λ (q : heap_at + rl.sh.top ≤ j). (let y = beyond q in omega arith))
        ∙ sym (other_cell rl.cells 29 (newest (gather_words xs)) j n29)) (cases_eq j 29)

    mid_list : MidIn t out.words k.sh' c' rl.trail (with_copy (list_of x.values) without)
    mid_list =
        let s = rl.mid.state in
        let top = s.heap in
        let vars = s.vars in
        let top' = k.top in
        let vars' = k.vars in
        let few = s.few in
        mid_grown t rl.sh k.sh' mixed c' rl.trail without (record m.state { vars = m.state.vars + vars_in v; heap = m.state.heap + copy_cells v }) k.grown (λ j w q lt. k.boxes_old j w q lt) (λ n le lt. k.places_new n le lt) refl refl
        (other 3 (λ q. (omega arith)) (λ q. (omega arith)) ∙ k.heap ∙ (omega arith))
        same_word
        (record {
          shape = k.shape;
          low = k.places_low;
          stands = stands_same k.sh' k.cells' c' m.state.subst k.places_low (λ i lt. (let high = k.shape.room in other (heap_at + i) (λ q. (omega arith)) (λ q. (omega arith)))) k.stands;
          known = λ n le. s.known n (let g = k.grown.vars in omega arith);
          heap = omega arith;
          vars = omega arith;
          trail_len = s.trail_len;
          few = room;
          few_trail = s.few_trail;
          told = λ place. k.grown.told place ∙ s.told place;
        })
        mid_gone

    taken_list : Taken t out body (match_acts 32 52 1 ++ last_acts behind) rl.memory (with_copy (list_of x.values) without) into (Some (copy_from m.state.vars (list_of x.values))) (list_most x.values + 2)
    taken_list =
        let few = k.few in
        record {
          memory2 = memory3 t plays out gathered.List behind into m z e k.memory' k.cells' k.holds answer k.small;
          c2 = c';
          holds = (put2 t plays out gathered.List behind into m z e k.memory' k.cells' k.holds answer k.small).holds;
          sh' = k.sh';
          trail' = rl.trail;
          mid = mid_list;
          clash = other 13 (λ q. (omega arith)) (λ q. (omega arith)) ∙ k.clash;
          last = other 28 (λ q. (omega arith)) (λ q. (omega arith)) ∙ k.others 28 (λ q. (omega arith)) (λ q. (omega arith)) (λ q. (omega arith)) (λ q. (omega arith)) (λ q. (omega arith)) (λ q. (omega arith)) ∙ text_last t plays out gathered.List behind into m z e;
          shows_into = subst (λ (w : ℕ). Shows k.sh' w into) (sym (c3_into t plays out gathered.List behind into m z e k.memory' k.cells' k.holds answer k.small ∙ k.others 8 (λ q. (omega arith)) (λ q. (omega arith)) (λ q. (omega arith)) (λ q. (omega arith)) (λ q. (omega arith)) (λ q. (omega arith)))) (grown_shows k.grown e.into_is);
          shows_made = subst (λ (w : ℕ). Shows k.sh' w (copy_from m.state.vars (list_of x.values))) (sym (c3_made t plays out gathered.List behind into m z e k.memory' k.cells' k.holds answer k.small)) (subst (λ (n : ℕ). Shows k.sh' answer (copy_from n (list_of x.values))) rl.mid.state.vars k.shows);
          count = suc (k.count + 1);
          few = omega arith;
          runs = λ o s' n go. counted t plays out gathered.List behind into m z e k.count o s' n (calls {f' = 2400} {w' = 14000} {n = k.count} {n' = suc n} {xs = (0, 0, 0)} {s1 = state k.memory' k.locals' out.typed out.drawn out.output} {s2 = state (with_cell k.memory' 36 answer) [] out.typed out.drawn out.output} refl refl (take_list_at t.p plays.has) (omega arith) (omega arith) k.runs
              (put1 t plays out gathered.List behind into m z e k.memory' k.cells' k.holds answer k.small).put_is (copied t plays out gathered.List behind into m z e k.memory' k.cells' k.holds answer k.small body o s' n go));
        }

  pub list_turn : TakesList t out behind into x xs m z
  list_turn = record {
    lists = λ room few. value_taken t plays out gathered.List behind into m z e (with_copy (list_of x.values) without) (copy_from m.state.vars (list_of x.values)) (list_most x.values + 2) (taken_list room) (taking_most into x.values m) (omega arith) few;
    meets_heap = λ over. no_room over;
    meets_trail = λ room over. trail_full t plays out gathered.List behind into m z e (with_copy (list_of x.values) without) (copy_from m.state.vars (list_of x.values)) (list_most x.values + 2) (taken_list room) (taking_most into x.values m) (omega arith) over;
  }

-- ## Without a gathering

module _ (t : Telling) (plays : Playing t) (out : Outside) (behind : ℕ) (into : Value) (m : Mid) (z : ZState) (none : m.gathered ≡ []) (e : TakesHere t out gathered.List behind into m z) where
  taken_none : Taken t out (take_routine gathered.List behind).body (match_acts 32 52 1 ++ last_acts behind) e.rep.memory m into None 5
  taken_none =
      let high = plays.has.mapped.room in
      let r = e.rep in
      let k = list_works.none t.p plays.has out.typed out.output out.drawn r.memory r.cells r.holds (r.mid.rest.gather ∙ ap (λ (gs : List Gathering). newest (gather_words gs)) none) in
      let small : 65535 < 65536 = omega arith in
      let c' = c3 t plays out gathered.List behind into m z e k.memory' k.cells' k.holds 65535 small in
      let other : (j : ℕ) → j ≢ 16 → j ≢ 36 → c' j ≡ k.cells' j = c3_else t plays out gathered.List behind into m z e k.memory' k.cells' k.holds 65535 small in
      record {
        memory2 = memory3 t plays out gathered.List behind into m z e k.memory' k.cells' k.holds 65535 small;
        c2 = c';
        holds = (put2 t plays out gathered.List behind into m z e k.memory' k.cells' k.holds 65535 small).holds;
        sh' = r.sh;
        trail' = r.trail;
        mid = mid_same t r.sh r.cells c' r.trail m (λ j n0 far. other j (λ (q : j ≡ 16). (let y = far.0 (omega arith) in omega arith)) (λ (q : j ≡ 36). (let y = far.1 (omega arith) in omega arith)) ∙ k.others j (λ (q : j ≡ 13). (let y = far.0 (omega arith) in omega arith))) r.mid;
        clash = other 13 (λ q. (omega arith)) (λ q. (omega arith)) ∙ k.clash;
        last = other 28 (λ q. (omega arith)) (λ q. (omega arith)) ∙ k.others 28 (λ q. (omega arith)) ∙ text_last t plays out gathered.List behind into m z e;
        shows_into = subst (λ (w : ℕ). Shows r.sh w into) (sym (c3_into t plays out gathered.List behind into m z e k.memory' k.cells' k.holds 65535 small ∙ k.others 8 (λ q. (omega arith)))) e.into_is;
        shows_made = tt;
        count = suc (3 + 1);
        few = omega arith;
        runs = λ o s' n go. counted t plays out gathered.List behind into m z e 3 o s' n (calls {f' = 2400} {w' = 14000} {n = 3} {n' = suc n} {xs = (0, 0, 0)} {s1 = state k.memory' k.locals' out.typed out.drawn out.output} {s2 = state (with_cell k.memory' 36 65535) [] out.typed out.drawn out.output} refl refl (take_list_at t.p plays.has) (omega arith) (omega arith) k.runs
            (put1 t plays out gathered.List behind into m z e k.memory' k.cells' k.holds 65535 small).put_is (copied t plays out gathered.List behind into m z e k.memory' k.cells' k.holds 65535 small (take_routine gathered.List behind).body o s' n go));
      }

  pub no_list_turn : Comes t out (t.p.names.routine FAIL) m 40 z
  no_list_turn = none_taken t plays out gathered.List behind into m z e m 5 40 taken_none (omega arith)

-- ## Both

unopened_turn : (t : Telling) → Playing t → (out : Outside) (whole : Gathered) (behind : ℕ) (into : Value) (m : Mid) (z : ZState) → m.gathered ≡ [] → TakesHere t out whole behind into m z → Comes t out (t.p.names.routine FAIL) m 40 z
unopened_turn t plays out gathered.List behind into m z none e = no_list_turn t plays out behind into m z none e
unopened_turn t plays out gathered.Sum behind into m z none e = no_sum_turn t plays out behind into m z none e

pub take_turns : TakeTurns
take_turns = record {
  list = λ t plays has out behind into x xs m z here e. list_turn t plays has out behind into x xs m z here e;
  sum = λ t plays out behind into x xs m z here e. sum_turn t plays out behind into x xs m z here e;
  unopened = λ t plays out whole behind into m z none e. unopened_turn t plays out whole behind into m z none e;
}
