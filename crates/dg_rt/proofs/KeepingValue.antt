-- The routines that keep a value and drop one do so.
use Rattle.std.proofs.Common.{◌≡◌, ◌≢◌, ℕ, suc, ◌+◌, ◌*◌, ◌<◌, ◌≤◌, inl, inr, Bool, true, false, List, [], ◌∷◌, ◌++◌, length, drop, Some, None, refl, ap, ◌∙◌, subst, arith}
use Rattle.std.proofs.lemmas.Bool.{ne_eqb, eq-eqb, cases_eq}
use Rattle.dg_base.specs.declared.run.Ending.TheVariants.{KeepLimit}
use Rattle.dg_meaning.specs.Values.{Value}
use Rattle.dg_meaning.specs.Substitutions.{Substitution, resolved, contains}
use Rattle.dg_meaning.specs.TypeTests.{is_fully_bound}
use Rattle.dg_meaning.specs.Letters.{letters_in}
use Rattle.dg_meaning.specs.Unify.{looks}
use Rattle.z_model.specs.declared.end.Halt.TheVariants.{AtQuit}
use Rattle.z_lang.specs.declared.act.Atom.TheVariants as atoms
use Rattle.z_lang.specs.declared.act.Comparison.TheVariants as comparisons
use Rattle.z_lang.specs.declared.act.Function.TheVariants as functions
use Rattle.z_lang.specs.declared.act.Width.TheVariants as widths
use Rattle.z_lang.specs.State.{State, Program}
use Rattle.z_lang.specs.Runs.{ActsRun as Runs, ActsOutcome as Outcome, Returns, Stops, done, taken, passed, calls, calls_last, returns, behind_label, at_label}
use Rattle.dg_rt.specs.declared.numbers.TheConstants.{KEEP_LIMIT, DROP_KEPT}
use Rattle.dg_rt.specs.declared.operands.TheConstants.{FULL_ACTS}
use Rattle.dg_rt.specs.declared.copies.TheConstants.{COPY_OUT_ACTS}
use Rattle.dg_rt.specs.declared.closings.TheConstants.{KEEP_LIMIT_ACTS}
use Rattle.dg_rt.specs.declared.kept.TheConstants.{DROP_KEPT_ACTS, KEEP_ACTS}
use Rattle.dg_rt.specs.Cells.{at_cell, with_cell, replaced, Holds, bit}
use Rattle.dg_rt.specs.Areas.{state}
use Rattle.dg_rt.specs.Shapes.{Shape}
use Rattle.dg_rt.specs.RunTime.{routine_of, HasRunTime}
use Rattle.dg_rt.specs.Closings.{closing}
use Rattle.dg_rt.specs.Changes.{Argued}
use Rattle.dg_rt.specs.Conditions.{Decides}
use Rattle.dg_rt.specs.Copies.{words_of, Row, Copies, CopiesOut, in_area, past_it}
use Rattle.dg_rt.specs.Operands.{Fills}
use Rattle.dg_rt.specs.Kept.{Block, block, total, value_in, without, BlockIn, IsEntry, IsBeside, KeptIn, IsVariable, Alters, MeetsKeep, Keeping, KeepWorks, ClearKeptWorks}
use Rattle.dg_rt.proofs.Blocks.{words_some, total_on, blocks_on, blocks_keep, no_entry_low, no_entry_back, none_there, beside_same, have_on}
use Rattle.dg_rt.proofs.Cells.{holds_with, writes_cell, other_cell, same_cell}
use Rattle.dg_rt.proofs.CaptureSteps.{divides}
use Rattle.dg_rt.proofs.Closing.{closings_work}
use Rattle.dg_rt.proofs.Copying as copying
use Rattle.dg_rt.proofs.CopySteps.{rows_keep, stands_away}
use Rattle.dg_rt.proofs.Dropping.{Dropped, drops}
use Rattle.dg_rt.proofs.Following.{word, tested, computes, writes, register, local_1, local_3, put_2}
use Rattle.dg_rt.proofs.FullBound.{full_works}
use Rattle.dg_rt.proofs.Locals.{subtracts, get_1, get_2, get_3, get_4, set_2, set_4}
use Rattle.dg_rt.proofs.Standing.{full_at, copy_out_at}

drop_at : (p : Program) → HasRunTime p → p.routine_at (p.names.routine DROP_KEPT) ≡ Some (routine_of 4 DROP_KEPT_ACTS)
drop_at p has = has.each 95 (routine_of 4 DROP_KEPT_ACTS) refl

keep_limit_at : (p : Program) → HasRunTime p → p.routine_at (p.names.routine KEEP_LIMIT) ≡ Some (routine_of 0 KEEP_LIMIT_ACTS)
keep_limit_at p has = has.each 14 (routine_of 0 KEEP_LIMIT_ACTS) refl

-- ## A variable becomes unset

pub clear_kept_works : ClearKeptWorks
clear_kept_works p has f w some enough memory typed output drawn cells hs last h objects next bs writable k v =
    let d = drops p has last writable 1 4 (omega arith) (omega arith) memory typed output drawn h cells hs bs k v in
    let few = d.few in
    let j = at_cell (14315 + total (without h bs)) in
    record {
      memory' = d.memory';
      cells' = d.cells';
      locals' = at_cell h ∷ j ∷ next ∷ [];
      holds = d.holds;
      kept = d.kept;
      unset = λ e. d.gone;
      others = λ i far ne ne' away. d.others i far ne away;
      count = suc d.count + 1;
      few = omega arith;
      runs = calls {f' = 1} {w' = 4} {n = d.count} {n' = 1} {xs = (at_cell h, 0, 0)} {s1 = state d.memory' d.locals' typed drawn output} {s2 = state d.memory' (at_cell h ∷ j ∷ next ∷ []) typed drawn output} refl (rw (local_1 p memory (at_cell h) (objects ∷ next ∷ []) typed drawn output) refl) (drop_at p has) (omega arith) (omega arith) d.runs (put_2 p d.memory' (at_cell h) objects j (next ∷ []) typed drawn output)
          (returns (local_3 p d.memory' (at_cell h) j next [] typed drawn output));
    }

-- ## A value is kept

-- the values with one more behind them
one_more : (last : ℕ) (cells cells' : ℕ → ℕ) (h : ℕ) (u : Value) (bs : List Block) → KeptIn last cells bs → IsBeside h bs → IsEntry last h → total bs + length (words_of u) ≤ 500 → BlockIn cells' (14315 + total bs) (block h u) → (total bs + length (words_of u) < 500 → cells' (14815 + (total bs + length (words_of u))) ≡ 0) → ((k : ℕ) → 14315 ≤ k → k < 14315 + total bs → cells' k ≡ cells k) → ((k : ℕ) → 14815 ≤ k → k < 14815 + total bs → cells' k ≡ cells k) → ((k : ℕ) → 15945 ≤ k → k ≢ h → k ≢ h + 1 → cells' k ≡ cells k) → KeptIn last cells' (bs ++ block h u ∷ [])
one_more last cells cells' h u bs k beside entry few there end area owners others =
    let sum = total_on bs (block h u ∷ []) in
    let alone : total (block h u ∷ []) ≡ length (words_of u) + 0 = refl in
    let same = beside_same last cells cells' h bs k.entries beside others in
    let front = blocks_keep cells cells' 14315 bs area (λ i lo hi. owners i (omega arith) (omega arith)) same k.lie in
    record {
      lie = blocks_on cells' 14315 bs (block h u ∷ []) front (there, tt);
      end = λ lt. (let q : 14815 + total (bs ++ block h u ∷ []) ≡ 14815 + (total bs + length (words_of u)) = omega arith in ap cells' q) ∙ end (omega arith);
      few = omega arith;
      entries = have_on last h u bs k.entries entry beside;
    }

-- it is found behind them
last_there : (h : ℕ) (u : Value) (bs : List Block) → value_in (bs ++ block h u ∷ []) h ≡ None → ⊥
last_there h u bs e =
    let absent = none_there (bs ++ block h u ∷ []) h e in
    (no_entry_back h bs (block h u ∷ []) absent).0 refl

module _ (p : Program) (has : HasRunTime p) (f w : ℕ) (frames : 3336 ≤ f) (stack : 16680 ≤ w) (memory typed output : List ℕ) (drawn : ℕ) (sh : Shape) (cells : ℕ → ℕ) (S : Substitution) (v : Value) (arg : Argued p memory sh cells S v) (n : ℕ) (absent : contains n (resolved S v) ≡ false) (last h objects next : ℕ) (bs : List Block) (writable : at_cell last ≤ p.world.layout.base) (k : KeptIn last cells bs) (var : IsVariable last cells bs h) where
  abbrev ha : ℕ
  ha = at_cell h

  abbrev u : Value
  u = resolved S v

  abbrev size : ℕ
  size = length (words_of u)

  abbrev now : List ℕ → ℕ → ℕ → State
  now m a b = state m (ha ∷ a ∷ next ∷ b ∷ []) typed drawn output

  abbrev most : ℕ
  most = 35 * looks S n v + 8 * letters_in u + 50

  high : at_cell 15945 ≤ p.world.layout.base
  high = has.mapped.room

  full : Fills p 3335 FULL_ACTS memory typed output drawn (cells 16) 0 0 S v 0 (15 * looks S n v)
  full = full_works p has memory typed output drawn sh arg.shape cells arg.holds S arg.stands (cells 16) v arg.first n absent

  -- up to what tells whether an unbound variable stands in it
  to_full : (t : Bool) → is_fully_bound u ≡ t → (o : Outcome) (s' : State) (i : ℕ) → Runs p f w KEEP_ACTS (drop 1 KEEP_ACTS) (now memory (bit t) 0) o s' i → Runs p f w KEEP_ACTS KEEP_ACTS (now memory objects 0) o s' (suc full.count + i)
  to_full t e o s' i rest =
      let hi = high in
      calls {f' = 3335} {w' = 10005} {n = full.count} {n' = i} {xs = (cells 16, 0, 0)} {s1 = state memory full.locals' typed drawn output} {s2 = now memory (bit t) 0} refl (rw (register p (now memory objects 0) cells 32 arg.holds (omega arith) (omega arith) (omega arith)) refl) (full_at p has) (omega arith) (omega arith) full.runs (set_2 p memory ha objects next 0 (bit (is_fully_bound u)) typed drawn output ∙ ap (λ (b : Bool). Some (now memory (bit b) 0)) e) rest

  fails : is_fully_bound u ≡ false → Decides p f w KEEP_ACTS memory (ha ∷ objects ∷ next ∷ 0 ∷ []) typed output drawn next false most
  unfolding behind_label
  fails e =
      let few = full.few in
      record {
        locals' = ha ∷ 0 ∷ next ∷ 0 ∷ [];
        count = suc full.count + 2;
        few = omega arith;
        runs = to_full false e (Returns (p.names.routine 21)) (now memory 0 0) 2
            (taken (tested p (now memory 0 0) comparisons.Equal (atoms.Var 2) (atoms.Num 0) true 0 0 true (get_2 p memory ha 0 next 0 typed drawn output) refl refl) refl (returns refl));
      }

  d : Dropped p last 1 4 memory typed output drawn h cells bs
  d = drops p has last writable 1 4 (omega arith) (omega arith) memory typed output drawn h cells arg.holds bs k var

  abbrev left : List Block
  left = without h bs

  abbrev j : ℕ
  j = 14315 + total left

  few_left : total left ≤ 500
  few_left = d.kept.few

  stays : (i : ℕ) → i < 14315 → d.cells' i ≡ cells i
  stays i lt = let from = var.entry.from in d.others i (λ z. omega arith) (λ z. omega arith) (no_entry_low last i bs k.entries (omega arith))

  copy : CopiesOut p 3335 COPY_OUT_ACTS typed output drawn d.memory' (cells 16 ∷ at_cell j ∷ at_cell 14815 ∷ 0 ∷ 0 ∷ []) d.cells' j 14815 (words_of u) 0 (20 * looks S n v + 8 * letters_in u)
  copy =
      let hi = high in
      let fl = few_left in
      let st = stands_away arg.shape cells d.cells' (λ i lt. stays i (omega arith)) arg.stands in
      copying.copy_works p has sh arg.shape typed output drawn S st.sound n 14815 (omega arith) (omega arith) (record { memory = d.memory'; cells = d.cells'; holds = d.holds; stands = st }) (cells 16) j v arg.first absent (omega arith) (omega arith)

  -- up to what tells whether there was room
  to_copy : is_fully_bound u ≡ true → (x : ℕ) (memory2 locals2 : List ℕ) → Runs p 3335 16675 COPY_OUT_ACTS COPY_OUT_ACTS (state d.memory' (cells 16 ∷ at_cell j ∷ at_cell 14815 ∷ 0 ∷ 0 ∷ []) typed drawn output) (Returns x) (state memory2 locals2 typed drawn output) copy.count → (o : Outcome) (s' : State) (i : ℕ) → Runs p f w KEEP_ACTS (drop 4 KEEP_ACTS) (now memory2 (at_cell j) x) o s' i →
      Runs p f w KEEP_ACTS KEEP_ACTS (now memory objects 0) o s' (suc full.count + suc (suc d.count + (suc copy.count + i)))
  to_copy e x memory2 locals2 runs o s' i rest =
      let hi = high in
      to_full true e o s' (suc (suc d.count + (suc copy.count + i)))
      (passed (tested p (now memory 1 0) comparisons.Equal (atoms.Var 2) (atoms.Num 0) true 1 0 false (get_2 p memory ha 1 next 0 typed drawn output) refl refl)
      (calls {f' = 1} {w' = 4} {n = d.count} {n' = suc copy.count + i} {xs = (ha, 0, 0)} {s1 = state d.memory' d.locals' typed drawn output} {s2 = now d.memory' (at_cell j) 0} refl (rw (get_1 p memory ha 1 next 0 typed drawn output) refl) (drop_at p has) (omega arith) (omega arith) d.runs (set_2 p d.memory' ha 1 next 0 (at_cell j) typed drawn output)
      (calls {f' = 3335} {w' = 16675} {n = copy.count} {n' = i} {xs = (cells 16, at_cell j, at_cell 14815)} {s1 = state memory2 locals2 typed drawn output} {s2 = now memory2 (at_cell j) x} refl (rw (register p (now d.memory' (at_cell j) 0) d.cells' 32 d.holds (omega arith) (omega arith) (omega arith) ∙ ap word (stays 16 (omega arith)), get_2 p d.memory' ha (at_cell j) next 0 typed drawn output) refl) (copy_out_at p has) (omega arith) (omega arith) runs (set_4 p memory2 ha (at_cell j) next 0 x typed drawn output) rest)))

  -- ---- no room

  meets : is_fully_bound u ≡ true → 500 < total left + size → MeetsKeep p f w KEEP_ACTS memory (ha ∷ objects ∷ next ∷ 0 ∷ []) typed output drawn cells (20 * total left + most)
  unfolding behind_label
  meets e over = by copy.ends
    where
      by : Copies p.world.layout d.cells' j 14815 (words_of u) (λ x memory2 locals2. Runs p 3335 16675 COPY_OUT_ACTS COPY_OUT_ACTS (state d.memory' (cells 16 ∷ at_cell j ∷ at_cell 14815 ∷ 0 ∷ 0 ∷ []) typed drawn output) (Returns x) (state memory2 locals2 typed drawn output) copy.count) → MeetsKeep p f w KEEP_ACTS memory (ha ∷ objects ∷ next ∷ 0 ∷ []) typed output drawn cells (20 * total left + most)
      by (in_area memory2 locals2 cells2 h2 fits row others runs) = absurd (omega arith)
      by (past_it memory2 locals2 cells2 h2 much others runs) =
          let c = closings_work.keep p has memory2 typed output drawn cells2 h2 in
          let same : cells2 28 ≡ cells 28 = others 28 (λ z. omega arith) ∙ stays 28 (omega arith) in
          let few1 = full.few in
          let few2 = d.few in
          let few3 = copy.few in
          let few4 = c.few in
          record {
            memory' = memory2;
            count = suc full.count + suc (suc d.count + (suc copy.count + suc (suc c.count)));
            few = omega arith;
            runs = to_copy e 0 memory2 locals2 runs (Stops AtQuit) (state memory2 [] typed drawn (output ++ closing (cells 28) KeepLimit)) (suc (suc c.count))
                (taken (tested p (now memory2 (at_cell j) 0) comparisons.Equal (atoms.Var 4) (atoms.Num 0) true 0 0 true (get_4 p memory2 ha (at_cell j) next 0 typed drawn output) refl refl) refl
                (calls_last {f' = 1} {w' = 0} {n = c.count} {xs = (0, 0, 0)} {r = routine_of 0 KEEP_LIMIT_ACTS} refl refl (keep_limit_at p has) (omega arith) (omega arith)
                (subst (λ (i : ℕ). Runs p 1 0 KEEP_LIMIT_ACTS KEEP_LIMIT_ACTS (state memory2 [] typed drawn output) (Stops AtQuit) (state memory2 [] typed drawn (output ++ closing i KeepLimit)) c.count) same c.runs)));
          }

  -- ---- room

  abbrev e1 : ℕ
  e1 = j + size

  -- the end is marked where there is room behind it
  record Ends (memory3 : List ℕ) (a : ℕ) (cells3 : ℕ → ℕ) : Type 0 where
    memory' : List ℕ
    cells' : ℕ → ℕ
    holds : Holds p.world.layout memory' cells'
    end : total left + size < 500 → cells' (14815 + (total left + size)) ≡ 0
    others : (i : ℕ) → (e1 + 500 ≤ i → 15315 ≤ i) → cells' i ≡ cells3 i
    count : ℕ
    few : count ≤ 3
    runs : Runs p f w KEEP_ACTS (drop 10 KEEP_ACTS) (now memory3 a (at_cell e1)) (Returns next) (now memory' a (at_cell e1)) count

  ends : (memory3 : List ℕ) (a : ℕ) (cells3 : ℕ → ℕ) → Holds p.world.layout memory3 cells3 → total left + size ≤ 500 → Ends memory3 a cells3
  unfolding behind_label
  ends memory3 a cells3 h3 room = elim (cases_eq e1 14815) [
    | inl q ↦ at_end q
    | inr ne ↦ in_front ne
  ]
    where
      at_end : e1 ≡ 14815 → Ends memory3 a cells3
      at_end q = record {
        memory' = memory3;
        cells' = cells3;
        holds = h3;
        end = λ lt. absurd (omega arith);
        others = λ i far. refl;
        count = 2;
        few = omega arith;
        runs = taken (tested p (now memory3 a (at_cell e1)) comparisons.Equal (atoms.Var 4) (atoms.Num 29694) true (at_cell e1) 29694 true (get_4 p memory3 ha a next (at_cell e1) typed drawn output) refl (eq-eqb (at_cell e1) 29694 (omega arith))) refl (returns (get_3 p memory3 ha a next (at_cell e1) typed drawn output));
      }

      in_front : (e1 ≡ 14815 → ⊥) → Ends memory3 a cells3
      in_front ne =
          let low = h3.low in
          let hi = high in
          let o = e1 + 500 in
          let m1 = with_cell memory3 o 0 in
          let place : 14815 + (total left + size) ≡ o = omega arith in
          record {
            memory' = m1;
            cells' = replaced cells3 o 0;
            holds = holds_with p.world.layout memory3 cells3 o 0 h3 (omega arith) (omega arith);
            end = λ lt. ap (replaced cells3 o 0) place ∙ same_cell cells3 o 0;
            others = λ i far. other_cell cells3 o 0 i (λ (z : i ≡ o). (let y : 15315 ≤ i = far (omega arith) in omega arith));
            count = 3;
            few = omega arith;
            runs = passed (tested p (now memory3 a (at_cell e1)) comparisons.Equal (atoms.Var 4) (atoms.Num 29694) true (at_cell e1) 29694 false (get_4 p memory3 ha a next (at_cell e1) typed drawn output) refl (ne_eqb (at_cell e1) 29694 (λ (z : at_cell e1 ≡ 29694). ne (omega arith))))
                (done (writes p (now memory3 a (at_cell e1)) widths.Word (atoms.Var 4) (atoms.Num 500) (atoms.Num 0) (at_cell e1) 500 0 m1 (get_4 p memory3 ha a next (at_cell e1) typed drawn output) refl refl (writes_cell p.world.layout memory3 cells3 (at_cell e1) 500 0 o h3 (omega arith) (omega arith)))
                (at_label (returns (get_3 p m1 ha a next (at_cell e1) typed drawn output))));
          }

  keeps : is_fully_bound u ≡ true → total left + size ≤ 500 → Alters p f w KEEP_ACTS memory (ha ∷ objects ∷ next ∷ 0 ∷ []) typed output drawn last h next cells bs (left ++ block h u ∷ []) (20 * total left + most)
  keeps e room = by copy.ends
    where
      by : Copies p.world.layout d.cells' j 14815 (words_of u) (λ x memory2 locals2. Runs p 3335 16675 COPY_OUT_ACTS COPY_OUT_ACTS (state d.memory' (cells 16 ∷ at_cell j ∷ at_cell 14815 ∷ 0 ∷ 0 ∷ []) typed drawn output) (Returns x) (state memory2 locals2 typed drawn output) copy.count) → Alters p f w KEEP_ACTS memory (ha ∷ objects ∷ next ∷ 0 ∷ []) typed output drawn last h next cells bs (left ++ block h u ∷ []) (20 * total left + most)
      by (past_it memory2 locals2 cells2 h2 much others runs) = absurd (omega arith)
      by (in_area memory2 locals2 cells2 h2 fits row others runs) =
          let low = h2.low in
          let hi = high in
          let from = var.entry.from in
          let within' = var.entry.within in
          let within : at_cell (h + 2) ≤ p.world.layout.base = omega arith in
          let some = words_some u in
          let ja = at_cell j in
          let ea = at_cell e1 in
          let m3 = with_cell memory2 h ja in
          let c3 = replaced cells2 h ja in
          let h3 = holds_with p.world.layout memory2 cells2 h ja h2 (omega arith) (omega arith) in
          let o = j + 500 in
          let m4 = with_cell m3 o ha in
          let c4 = replaced c3 o ha in
          let h4 = holds_with p.world.layout m3 c3 o ha h3 (omega arith) (omega arith) in
          let m5 = with_cell m4 (h + 1) size in
          let c5 = replaced c4 (h + 1) size in
          let h5 = holds_with p.world.layout m4 c4 (h + 1) size h4 (omega arith) (omega arith) in
          let z = ends m5 size c5 h5 room in
          let c5_is : (i : ℕ) → i ≢ h → i ≢ o → i ≢ h + 1 → c5 i ≡ cells2 i = λ i ne ne' ne2. other_cell c4 (h + 1) size i ne2 ∙ other_cell c3 o ha i ne' ∙ other_cell cells2 h ja i ne in
          let latest : (i : ℕ) → i ≢ h → i ≢ o → i ≢ h + 1 → (e1 + 500 ≤ i → 15315 ≤ i) → z.cells' i ≡ cells2 i = λ i ne ne' ne2 far. z.others i far ∙ c5_is i ne ne' ne2 in
          let first : z.cells' h ≡ ja = z.others h (λ q. omega arith) ∙ other_cell c4 (h + 1) size h (λ q. omega arith) ∙ other_cell c3 o ha h (λ q. omega arith) ∙ same_cell cells2 h ja in
          let second : z.cells' (h + 1) ≡ size = z.others (h + 1) (λ q. omega arith) ∙ same_cell c4 (h + 1) size in
          let owner : z.cells' o ≡ ha = z.others o (λ q. omega arith) ∙ other_cell c4 (h + 1) size o (λ q. omega arith) ∙ same_cell c3 o ha in
          let row' : Row z.cells' j (words_of u) = rows_keep cells2 z.cells' j (words_of u) (λ i lo to. latest i (λ q. omega arith) (λ q. omega arith) (λ q. omega arith) (λ q. omega arith)) row in
          let dropped : (i : ℕ) → (14315 + total left ≤ i → 14815 ≤ i) → i ≢ h → i ≢ o → i ≢ h + 1 → (e1 + 500 ≤ i → 15315 ≤ i) → z.cells' i ≡ d.cells' i = λ i far ne ne' ne2 far'. latest i ne ne' ne2 far' ∙ others i (λ q. (let y : 14815 ≤ i = far q in omega arith)) in
          let kept = one_more last d.cells' z.cells' h u left d.kept var.beside var.entry room (record { begins = first; long = second; owner = owner; row = row' }) z.end
          (λ i lo to. dropped i (λ q. omega arith) (λ q. omega arith) (λ q. omega arith) (λ q. omega arith) (λ q. omega arith))
          (λ i lo to. dropped i (λ q. omega arith) (λ q. omega arith) (λ q. omega arith) (λ q. omega arith) (λ q. omega arith))
          (λ i lo ne ne'. dropped i (λ q. omega arith) ne (λ q. omega arith) ne' (λ q. omega arith)) in
          let few1 = full.few in
          let few2 = d.few in
          let few3 = copy.few in
          let few4 = z.few in
          record {
            memory' = z.memory';
            cells' = z.cells';
            locals' = ha ∷ size ∷ next ∷ ea ∷ [];
            holds = z.holds;
            kept = kept;
            unset = λ none. absurd (last_there h u left none);
            others = λ i far ne ne' away. dropped i (λ q. (let y : 15315 ≤ i = far (omega arith) in omega arith)) ne (λ (q : i ≡ o). (let y : 15315 ≤ i = far (omega arith) in omega arith)) ne' (λ q. far (omega arith)) ∙ d.others i far ne away;
            count = suc full.count + suc (suc d.count + (suc copy.count + suc (suc (suc (suc (suc (suc z.count)))))));
            few = omega arith;
            runs = to_copy e ea memory2 locals2 runs (Returns next) (now z.memory' size ea) (suc (suc (suc (suc (suc (suc z.count))))))
                (passed (tested p (now memory2 ja ea) comparisons.Equal (atoms.Var 4) (atoms.Num 0) true ea 0 false (get_4 p memory2 ha ja next ea typed drawn output) refl (ne_eqb ea 0 (λ (q : ea ≡ 0). omega arith)))
                (done (writes p (now memory2 ja ea) widths.Word (atoms.Var 1) (atoms.Num 0) (atoms.Var 2) ha 0 ja m3 (get_1 p memory2 ha ja next ea typed drawn output) refl (get_2 p memory2 ha ja next ea typed drawn output) (writes_cell p.world.layout memory2 cells2 ha 0 ja h h2 (omega arith) (omega arith)))
                (done (writes p (now m3 ja ea) widths.Word (atoms.Var 2) (atoms.Num 500) (atoms.Var 1) ja 500 ha m4 (get_2 p m3 ha ja next ea typed drawn output) refl (get_1 p m3 ha ja next ea typed drawn output) (writes_cell p.world.layout m3 c3 ja 500 ha o h3 (omega arith) (omega arith)))
                (done (computes p (now m4 ja ea) (now m4 (size + size) ea) 2 functions.Sub (atoms.Var 4) (atoms.Var 2) ea ja (size + size) (get_4 p m4 ha ja next ea typed drawn output) (get_2 p m4 ha ja next ea typed drawn output) (subtracts p m4 ea ja (size + size) (omega arith) (omega arith)) (set_2 p m4 ha ja next ea (size + size) typed drawn output))
                (done (computes p (now m4 (size + size) ea) (now m4 size ea) 2 functions.Div (atoms.Var 2) (atoms.Num 2) (size + size) 2 size (get_2 p m4 ha (size + size) next ea typed drawn output) refl (divides p m4 (size + size) 2 (omega arith) (omega arith) (omega arith) ∙ ap word (omega arith)) (set_2 p m4 ha (size + size) next ea size typed drawn output))
                (done (writes p (now m4 size ea) widths.Word (atoms.Var 1) (atoms.Num 1) (atoms.Var 2) ha 1 size m5 (get_1 p m4 ha size next ea typed drawn output) refl (get_2 p m4 ha size next ea typed drawn output) (writes_cell p.world.layout m4 c4 ha 1 size (h + 1) h4 (omega arith) (omega arith)))
                z.runs))))));
          }

  pub keeping : Keeping p f w memory (ha ∷ objects ∷ next ∷ 0 ∷ []) typed output drawn last h next cells bs u most
  keeping = record { fails = fails; keeps = keeps; meets = meets }

pub keep_works : KeepWorks
keep_works p has f w frames stack memory typed output drawn sh cells S v arg n absent last h objects next bs writable k var = keeping p has f w frames stack memory typed output drawn sh cells S v arg n absent last h objects next bs writable k var
