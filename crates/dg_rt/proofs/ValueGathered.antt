-- The routine that gathers a value does so.
use Rattle.std.proofs.Common.{◌≡◌, ◌≢◌, ℕ, suc, ◌+◌, ◌*◌, ◌<◌, ◌≤◌, Bool, true, false, List, [], ◌∷◌, ◌++◌, drop, length, Some, refl, ap, ◌∙◌, arith}
use Rattle.std.specs.Prelude.{◌==◌}
use Rattle.std.proofs.lemmas.Bool.{eq-eqb, ne_eqb}
use Rattle.dg_base.specs.declared.run.Ending.TheVariants.{AuxLimit}
use Rattle.dg_meaning.specs.Letters.{letters_in}
use Rattle.dg_meaning.specs.Substitutions.{Substitution, resolved, contains}
use Rattle.dg_meaning.specs.Unify.{looks}
use Rattle.dg_meaning.specs.Values.{Value}
use Rattle.z_model.specs.declared.end.Halt.TheVariants.{AtQuit}
use Rattle.z_lang.specs.declared.act.Act.{Act}
use Rattle.z_lang.specs.declared.act.Atom.TheVariants as atoms
use Rattle.z_lang.specs.declared.act.Comparison.TheVariants as comparisons
use Rattle.z_lang.specs.declared.act.Function.TheVariants as functions
use Rattle.z_lang.specs.declared.act.Width.TheVariants as widths
use Rattle.z_lang.specs.State.{State, Program, value}
use Rattle.z_lang.specs.Acts.{answer_of}
use Rattle.z_lang.specs.Runs.{ActsRun as Runs, ActsOutcome, Returns, Stops, at_label, taken, passed, done, calls, returns, behind_label}
use Rattle.dg_rt.specs.declared.numbers.TheConstants.{FAIL}
use Rattle.dg_rt.specs.declared.gathering.TheConstants.{KEEP_VALUE_ACTS}
use Rattle.dg_rt.specs.declared.copies.TheConstants.{COPY_OUT_ACTS}
use Rattle.dg_rt.specs.Cells.{at_cell, with_cell, replaced, Holds}
use Rattle.dg_rt.specs.Areas.{heap_at, last_reg, kept_at, state}
use Rattle.dg_rt.specs.Shapes.{Shape, IsShape, Shows, number, dict, object, nil, variable, boxed, Stands}
use Rattle.dg_rt.specs.Back.{at_place}
use Rattle.dg_rt.specs.RunTime.{HasRunTime}
use Rattle.dg_rt.specs.Closings.{closing}
use Rattle.dg_rt.specs.Copies.{words_of, Row, Copies, in_area, past_it, CopiesOut}
use Rattle.dg_rt.specs.Gatherings.{rows_of, GatheredAt, MeetsThe, GathersNow, NothingGathers, none_open, none_around, no_value_there, Keeps, KeepsValue, keep_most, KeepWorks}
use Rattle.dg_rt.proofs.Cells.{holds_with, reads_cell, writes_cell, other_cell, same_cell}
use Rattle.dg_rt.proofs.Copying as copying
use Rattle.dg_rt.proofs.Following.{word, tested, computes, writes, register, local_1, local_2, put_1, put_2}
use Rattle.dg_rt.proofs.GatheringOpened.{quits_aux}
use Rattle.dg_rt.proofs.Standing.{copy_out_at}

-- no value's word is that of no value
shows_some : {sh : Shape} {x : ℕ} {v : Value} → IsShape sh → Shows sh x v → x ≢ 65535
shows_some is (number n lt) e = omega arith
shows_some is (dict n lt) e = omega arith
shows_some is (object n lt) e = omega arith
shows_some is nil e = omega arith
shows_some is (variable n lt) e = let w = is.within n lt in omega arith
shows_some is (boxed k header lt box at inside) e = omega arith

row_other : (c : ℕ → ℕ) (i e y : ℕ) (ws : List ℕ) → e < i → Row c i ws → Row (replaced c e y) i ws
row_other c i e y [] lt r = tt
row_other c i e y (z ∷ ws) lt r = (other_cell c e y i (λ q. (omega arith)) ∙ r.0, row_other c (suc i) e y ws (omega arith) r.1)

module _ (p : Program) (has : HasRunTime p) (memory typed output : List ℕ) (drawn : ℕ) (cells : ℕ → ℕ) (h : Holds p.world.layout memory cells) where
  abbrev body : List Act
  body = KEEP_VALUE_ACTS

  abbrev st : List ℕ → ℕ → ℕ → State
  st m a b = state m (a ∷ b ∷ []) typed drawn output

  abbrev Run : List Act → State → ActsOutcome → State → ℕ → Type 0
  Run acts s o s' n = Runs p 3500 19000 body acts s o s' n

  gather_is : (m : List ℕ) (c : ℕ → ℕ) → Holds p.world.layout m c → (a b : ℕ) → value p (st m a b) (atoms.Var 45) ≡ word (c 29)
  gather_is m c hm a b = let room = has.mapped.room in register p (st m a b) c 45 hm (omega arith) (omega arith) (omega arith)

  inner_is : (a b : ℕ) → value p (st memory a b) (atoms.Var 22) ≡ word (cells 6)
  inner_is a b = let room = has.mapped.room in register p (st memory a b) cells 22 h (omega arith) (omega arith) (omega arith)

  fails : (m : List ℕ) (a b : ℕ) → Run (drop 9 body) (st m a b) (Returns (p.names.routine FAIL)) (st m a b) 1
  fails m a b = returns refl

  stays : (a b n : ℕ) → n ≤ 8 → Run body (st memory 0 0) (Returns (p.names.routine FAIL)) (st memory a b) n → (k : Keeps p memory typed output drawn cells 8) × ((i : ℕ) → k.cells' i ≡ cells i)
  stays a b n le run = (record { memory' = memory; cells' = cells; locals' = a ∷ b ∷ []; holds = h; count = n; few = le; runs = run }, (λ i. refl))

  -- there is a gathering
  open_now : (t : Bool) → (cells 29 == 0) ≡ t → answer_of p (st memory 0 0) (record { comparison = comparisons.Equal; first = atoms.Var 45; second = atoms.Num 0; answer = true }) ≡ Some t
  open_now t e = tested p (st memory 0 0) comparisons.Equal (atoms.Var 45) (atoms.Num 0) true (cells 29) 0 t (gather_is memory cells h 0 0) refl e

  inner_now : (t : Bool) → (cells 6 == 0) ≡ t → answer_of p (st memory 0 0) (record { comparison = comparisons.Equal; first = atoms.Var 22; second = atoms.Num 0; answer = true }) ≡ Some t
  inner_now t e = tested p (st memory 0 0) comparisons.Equal (atoms.Var 22) (atoms.Num 0) true (cells 6) 0 t (inner_is 0 0) refl e

  -- up to the value
  module _ (at x : ℕ) (below : at + 10 ≤ 10000) (inner : cells 6 ≡ at_place at) (value : cells (heap_at + (at + 8)) ≡ x) where
    to_value : cells 29 ≢ 0 → (o : ActsOutcome) (s' : State) (n : ℕ) → Run (drop 3 body) (st memory x 0) o s' n → Run body (st memory 0 0) o s' (suc (suc (suc n)))
    to_value some o s' n rest =
        let room = has.mapped.room in
        passed (open_now false (ne_eqb (cells 29) 0 some))
        (passed (inner_now false (ne_eqb (cells 6) 0 (λ (e : cells 6 ≡ 0). (omega arith))))
        (done (computes p (st memory 0 0) (st memory x 0) 1 functions.Word (atoms.Num 686) (atoms.Var 22) 686 (cells 6) x refl (inner_is 0 0) (reads_cell p.world.layout memory cells 686 (cells 6) (heap_at + (at + 8)) h (omega arith) (omega arith) ∙ ap word value) (put_1 p memory 0 x (0 ∷ []) typed drawn output))
        rest))

    value_now : (t : Bool) → (x == 65535) ≡ t → answer_of p (st memory x 0) (record { comparison = comparisons.Equal; first = atoms.Var 1; second = atoms.Num 65535; answer = true }) ≡ Some t
    value_now t e = tested p (st memory x 0) comparisons.Equal (atoms.Var 1) (atoms.Num 65535) true x 65535 t (local_1 p memory x (0 ∷ []) typed drawn output) refl e

    no_value : cells 29 ≢ 0 → x ≡ 65535 → (k : Keeps p memory typed output drawn cells 8) × ((i : ℕ) → k.cells' i ≡ cells i)
    unfolding behind_label
    no_value some is = stays x 0 5 (omega arith) (to_value some (Returns (p.names.routine FAIL)) (st memory x 0) 2 (taken (value_now true (eq-eqb x 65535 is)) refl (fails memory x 0)))

  abbrev Stays : Type 0
  Stays = (k : Keeps p memory typed output drawn cells 8) × ((i : ℕ) → k.cells' i ≡ cells i)

  around_by : cells 6 ≡ 0 → (t : Bool) → (cells 29 == 0) ≡ t → Stays
  unfolding behind_label
  around_by e true q = stays 0 0 2 (omega arith) (taken (open_now true q) refl (fails memory 0 0))
  around_by e false q = stays 0 0 3 (omega arith) (passed (open_now false q) (taken (inner_now true (eq-eqb (cells 6) 0 e)) refl (fails memory 0 0)))

  zero_not : (cells 29 == 0) ≡ false → cells 29 ≢ 0
  zero_not q e = let yes = eq-eqb (cells 29) 0 e in cc (yes, q)

  value_by : (at : ℕ) → at + 10 ≤ 10000 → cells 6 ≡ at_place at → cells (heap_at + (at + 8)) ≡ 65535 → (t : Bool) → (cells 29 == 0) ≡ t → Stays
  unfolding behind_label
  value_by at below inner value true q = stays 0 0 2 (omega arith) (taken (open_now true q) refl (fails memory 0 0))
  value_by at below inner value false q = no_value at 65535 below inner value (zero_not q) refl

  nothing : NothingGathers cells → Stays
  unfolding behind_label
  nothing (none_open e) = stays 0 0 2 (omega arith) (taken (open_now true (eq-eqb (cells 29) 0 e)) refl (fails memory 0 0))
  nothing (none_around e) = around_by e (cells 29 == 0) refl
  nothing (no_value_there at below inner value) = value_by at below inner value (cells 29 == 0) refl

  -- ## A value

  module _ (sh : Shape) (is : IsShape sh) (S : Substitution) (stands : Stands sh cells S) (v : Value) (n : ℕ) (absent : contains n (resolved S v) ≡ false) (j around : ℕ) (vs : List Value) (g : GatheredAt cells j around vs) (now : GathersNow sh cells v) where
    abbrev x : ℕ
    x = cells (heap_at + (now.at + 8))

    abbrev k : ℕ
    k = j + 2 + length (rows_of vs)

    abbrev row : List ℕ
    row = words_of (resolved S v)

    copies : CopiesOut p 3335 COPY_OUT_ACTS typed output drawn memory (x ∷ at_cell k ∷ at_cell kept_at ∷ 0 ∷ 0 ∷ []) cells k kept_at row 0 (20 * looks S n v + 8 * letters_in (resolved S v))
    copies =
        let low = g.low in
        let high = g.high in
        let room = has.mapped.room in
        copying.copy_works p has sh is typed output drawn S stands.sound n kept_at (omega arith) (omega arith) (record { memory = memory; cells = cells; holds = h; stands = stands }) x k v now.shows absent (omega arith) (omega arith)

    -- up to the copy
    to_copy : (y i : ℕ) (m : List ℕ) (ls : List ℕ) → y < 65536 → Runs p 3335 (5 * 3335) COPY_OUT_ACTS COPY_OUT_ACTS (state memory (x ∷ at_cell k ∷ at_cell kept_at ∷ 0 ∷ 0 ∷ []) typed drawn output) (Returns y) (state m ls typed drawn output) i →
        (o : ActsOutcome) (s' : State) (q : ℕ) → Run (drop 6 body) (st m x y) o s' q → Run body (st memory 0 0) o s' (suc (suc (suc (suc (suc (suc i + q))))))
    to_copy y i m ls small run o s' q rest =
        let named = g.named in
        let low = g.low in
        let high = g.high in
        let room = has.mapped.room in
        to_value now.at x now.below now.inner refl (λ (e : cells 29 ≡ 0). (omega arith)) o s' (suc (suc (suc i + q)))
        (passed (value_now now.at x now.below now.inner refl false (ne_eqb x 65535 (shows_some is now.shows)))
        (done (computes p (st memory x 0) (st memory x (at_cell k)) 2 functions.Word (atoms.Var 45) (atoms.Num 1) (cells 29) 1 (at_cell k) (gather_is memory cells h x 0) refl (reads_cell p.world.layout memory cells (cells 29) 1 (j + 1) h (omega arith) (omega arith) ∙ ap word g.end) (put_2 p memory x 0 (at_cell k) [] typed drawn output))
        (calls {f' = 3335} {w' = 5 * 3335} {n = i} {n' = q} {xs = (x, at_cell k, 28694)} {s1 = state m ls typed drawn output} {s2 = st m x y} refl (rw (local_1 p memory x (at_cell k ∷ []) typed drawn output, local_2 p memory x (at_cell k) [] typed drawn output) refl) (copy_out_at p has) (omega arith) (omega arith) run (put_2 p m x (at_cell k) y [] typed drawn output) rest)))

    abbrev Copied : Type 0
    Copied = Copies p.world.layout cells k kept_at row (λ y memory' locals'. Runs p 3335 (5 * 3335) COPY_OUT_ACTS COPY_OUT_ACTS (state memory (x ∷ at_cell k ∷ at_cell kept_at ∷ 0 ∷ 0 ∷ []) typed drawn output) (Returns y) (state memory' locals' typed drawn output) copies.count)

    keeps_by : k + length row ≤ kept_at → Copied → KeepsValue p memory typed output drawn cells j vs (resolved S v) (keep_most S n v)
    unfolding behind_label
    keeps_by fits (past_it m ls c hm over others run) = absurd (omega arith)
    keeps_by fits (in_area m ls c hm le at others run) =
        let few = copies.few in
        let low = g.low in
        let named = g.named in
        let room = has.mapped.room in
        let y = at_cell (k + length row) in
        let m' = with_cell m (j + 1) y in
        let c' = replaced c (j + 1) y in
        let gather : c 29 ≡ cells 29 = others 29 (λ q. (omega arith)) in
        record {
          keeps = record {
            memory' = m';
            cells' = c';
            locals' = x ∷ y ∷ [];
            holds = holds_with p.world.layout m c (j + 1) y hm (omega arith) (omega arith);
            count = suc (suc (suc (suc (suc (suc copies.count + 3)))));
            few = omega arith;
            runs = to_copy y copies.count m ls (omega arith) run (Returns (p.names.routine FAIL)) (st m' x y) 3
                (passed (tested p (st m x y) comparisons.Equal (atoms.Var 2) (atoms.Num 0) true y 0 false (local_2 p m x y [] typed drawn output) refl (ne_eqb y 0 (λ (e : y ≡ 0). (omega arith))))
                (done (writes p (st m x y) widths.Word (atoms.Var 45) (atoms.Num 1) (atoms.Var 2) (c 29) 1 y m' (gather_is m c hm x y) refl (local_2 p m x y [] typed drawn output) (writes_cell p.world.layout m c (c 29) 1 y (j + 1) hm (omega arith) (omega arith)))
                (at_label (fails m' x y))));
          };
          end = same_cell c (j + 1) y;
          row = row_other c k (j + 1) y row (omega arith) at;
          others = λ i ne far. other_cell c (j + 1) y i ne ∙ others i (λ q. (let z = far q in omega arith));
        }

    keeps : k + length row ≤ kept_at → KeepsValue p memory typed output drawn cells j vs (resolved S v) (keep_most S n v)
    keeps fits = keeps_by fits copies.ends

    meets_by : kept_at < k + length row → Copied → MeetsThe p AuxLimit 3500 19000 body memory (0 ∷ 0 ∷ []) typed output drawn cells (keep_most S n v)
    unfolding behind_label
    meets_by over (in_area m ls c hm le at others run) = absurd (omega arith)
    meets_by over (past_it m ls c hm lt others run) =
        let few = copies.few in
        let low = g.low in
        let q = quits_aux p has 3500 19000 (omega arith) body (drop 12 body) m (x ∷ 0 ∷ []) typed output drawn (cells last_reg) c hm (others 28 (λ r. (omega arith))) in
        let cheap = q.few in
        record {
          memory' = m;
          count = suc (suc (suc (suc (suc (suc copies.count + suc (suc q.count))))));
          runs = to_copy 0 copies.count m ls (omega arith) run (Stops AtQuit) (state m [] typed drawn (output ++ closing (cells last_reg) AuxLimit)) (suc (suc q.count))
              (taken (tested p (st m x 0) comparisons.Equal (atoms.Var 2) (atoms.Num 0) true 0 0 true (local_2 p m x 0 [] typed drawn output) refl refl) refl q.runs);
          few = omega arith;
        }

    meets : kept_at < k + length row → MeetsThe p AuxLimit 3500 19000 body memory (0 ∷ 0 ∷ []) typed output drawn cells (keep_most S n v)
    meets over = meets_by over copies.ends

pub keep_works : KeepWorks
keep_works = record {
  keeps = λ p has sh is typed output drawn S memory cells h stands v n absent j around vs g now fits. keeps p has memory typed output drawn cells h sh is S stands v n absent j around vs g now fits;
  meets = λ p has sh is typed output drawn S memory cells h stands v n absent j around vs g now over. meets p has memory typed output drawn cells h sh is S stands v n absent j around vs g now over;
  nothing = λ p has typed output drawn memory cells h none. nothing p has memory typed output drawn cells h none;
}
