-- The routine that unifies, where it goes on with parts: two pairs, two closures of a place, and two unknown words.
use Rattle.std.proofs.Common.{◌≡◌, ℕ, suc, ◌+◌, ◌*◌, ◌<◌, ◌≤◌, Bool, true, false, List, [], ◌∷◌, drop, length, Some, refl, sym, ap, ◌∙◌, subst, arith, ◌≢◌}
use Rattle.std.specs.Prelude.{◌==◌, eqb}
use Rattle.std.proofs.lemmas.Bool.{eq-eqb, ne_eqb, eqb-true}
use Rattle.z_lang.specs.declared.act.Act.{Act}
use Rattle.z_lang.specs.State.{State}
use Rattle.z_lang.specs.Runs.{ActsRun as Runs, ActsOutcome as Outcome, Returns, at_label, goes, taken, passed, done, calls, calls_last, returns, behind_label}
use Rattle.dg_meaning.specs.Values.{Closure, Unknown, Value, Node, Values, NoMore, More, leaf, pair}
use Rattle.dg_meaning.specs.ValueCells.{count_of}
use Rattle.dg_meaning.specs.Substitutions.{Substitution, walk, resolved}
use Rattle.dg_meaning.specs.inside.Substitutions.{Extends}
use Rattle.dg_meaning.specs.Unify.{same_spelling, Equations, as_many, side_by_side, Goes, Clashes, turn, cost, Unified, solve, counted}
use Rattle.dg_meaning.specs.inside.Unify.{unify}
use Rattle.dg_meaning.specs.Letters.{values_compared, compared as letters_compared}
use Rattle.dg_meaning.proofs.Solving.{solve_extends}
use Rattle.dg_meaning.proofs.UnifyLaws.{solve_nothing}
use Rattle.dg_rt.proofs.Standing.{unify_at}
use Rattle.dg_rt.specs.declared.numbers.TheConstants.{UNIFY}
use Rattle.dg_rt.specs.declared.unify.TheConstants.{UNIFY_ACTS}
use Rattle.dg_rt.specs.Cells.{bit}
use Rattle.dg_rt.specs.Shapes.{Shape, Cell, Letters, Shows, AllShow, one_more}
use Rattle.dg_rt.specs.Moments.{Setting, Moment, in_state}
use Rattle.dg_rt.specs.Unifies.{answers, is_full, Unifies, price}
use Rattle.dg_rt.specs.inside.Walks.{steps}
use Rattle.dg_rt.specs.inside.Depth.{AllSmaller, Below, under}
use Rattle.dg_rt.proofs.Locals.{third, fourth, put_third, simple_is_positive, high_is_negative}
use Rattle.dg_rt.proofs.Showing.{all_low, letters_low}
use Rattle.dg_rt.proofs.Depth.{below_later, below_smaller, all_smaller_later}
use Rattle.dg_rt.proofs.Ways.{clashing, nothing, many_are, goes_on, letters_on, letters_clash, first_yes, first_no, price_yes, takes_less, same_word}
use Rattle.dg_rt.proofs.UnifySteps.{steps_are, ends_map, ends_into, ends_counted, third_less, third_zero, same_fields, at_end, read_1, read_2, read_3, read_4, next_1, next_2, end_5, half_5, field, third_fourth}
use Rattle.dg_rt.proofs.Alone.{Run, Meant, Below_it, Again, longer, stays, at_most, base, Done, as_meant, to_headers}
use Rattle.dg_meaning.proofs.EqualValues.{equal_values}
use Rattle.z_lang.specs.declared.act.Atom.TheVariants as atoms
use Rattle.z_lang.specs.declared.act.Args.TheVariants as args
use Rattle.z_lang.specs.declared.act.Comparison.TheVariants as comparisons
use Rattle.z_lang.specs.declared.act.Act.TheVariants as acts

-- ---- parts

-- Parts of a value in the box at a place.
pub record Inside (sh : Shape) (S : Substitution) (ks : List ℕ) (k : ℕ) (w : Value) (vs : Values) : Type 0 where
  pub small : k + 2 < 10000
  pub box : sh.box k ≡ Some w
  pub less : AllSmaller S vs w
  pub below : Below sh S ks w

inside_first : {sh : Shape} {S : Substitution} {ks : List ℕ} {k : ℕ} {w : Value} (v : Value) (vs : Values) → Inside sh S ks k w (More v vs) → Below sh S (k ∷ ks) v
inside_first {ks = ks} {k = k} {w = w} v vs i = under ks v k w i.small i.box i.less.0 i.below

inside_later : {sh : Shape} {S : Substitution} {ks : List ℕ} {k : ℕ} {w : Value} (v : Value) (vs : Values) (S' : Substitution) → Extends S S' → Inside sh S ks k w (More v vs) → Inside sh S' ks k w vs
inside_later {sh} {S} {ks} {k} {w} v vs S' grew i = subst (λ (s : Substitution). Inside sh s ks k w vs) (sym grew.is) (record { small = i.small; box = i.box; less = all_smaller_later grew.made S vs w i.less.1; below = below_later grew.made i.below })

module _ (g : Setting) (f : ℕ) where
  abbrev call_parts : Act
  call_parts = acts.Call (Some 3) (atoms.Routine UNIFY) (args.Two (atoms.Var 3) (atoms.Var 4))

  abbrev if_clash : Act
  if_clash = acts.When (record { comparison = comparisons.Equal; first = atoms.Var 3; second = atoms.Num 0; answer = true }) 21

  -- The first two parts are unified by a call, and where they agree it goes on with the others.
  called : (S : Substitution) (m : Moment g S) (rest : List Act) (u w x y z : ℕ) (h h' : Value) (es : Equations) (more spent most : ℕ) → 0 < more → more + price S ((h, h') ∷ es) + spent ≤ most + 5 →
      Unifies g f UNIFY_ACTS m.memory (x ∷ y ∷ 0 ∷ 0 ∷ 0 ∷ []) 7 (price S ((h, h') ∷ [])) (unify S h h') →
      ((m' : Moment g (unify S h h').subst) (spent' : ℕ) → (unify S h h').agrees ≡ true → more + price (unify S h h').subst es + spent' ≤ most → Meant g f rest m'.memory (u ∷ w ∷ 1 ∷ y ∷ z ∷ []) spent' most (solve (unify S h h').subst es)) →
      Meant g f (call_parts ∷ if_clash ∷ rest) m.memory (u ∷ w ∷ x ∷ y ∷ z ∷ []) spent most (solve S ((h, h') ∷ es))
  unfolding behind_label
  called S m rest u w x y z h h' es more spent most some room head next = by_end head
    where
      by_answer : (n : ℕ) (m' : Moment g (unify S h h').subst) (locals : List ℕ) → n + 7 ≤ price S ((h, h') ∷ []) → Runs g.p f (5 * f) UNIFY_ACTS UNIFY_ACTS (in_state g m.memory (x ∷ y ∷ 0 ∷ 0 ∷ 0 ∷ [])) (Returns (bit (unify S h h').agrees)) (in_state g m'.memory locals) n → (ok : Bool) → (unify S h h').agrees ≡ ok → Meant g f (call_parts ∷ if_clash ∷ rest) m.memory (u ∷ w ∷ x ∷ y ∷ z ∷ []) spent most (solve S ((h, h') ∷ es))
      by_answer n m' locals few r true e =
          let is = first_yes S m.at.stands.sound h h' es e in
          let costs = price_yes S m.at.stands.sound h h' es e in
          let yes : bit (unify S h h').agrees ≡ 1 = rw e refl in
          subst (λ (v : Unified). Meant g f (call_parts ∷ if_clash ∷ rest) m.memory (u ∷ w ∷ x ∷ y ∷ z ∷ []) spent most v) (sym is)
          (ends_counted (unify S h h').count (ends_map (λ k. suc n + suc k) (λ k. omega arith) (λ k o s' q. calls {f' = f} {w' = 5 * f} {n = n} {n' = suc k} {xs = (x, y, 0)} refl (rw (third g.p m.memory u w x y z g.typed g.drawn g.output, fourth g.p m.memory u w x y z g.typed g.drawn g.output) refl) (unify_at g.p g.has) (omega arith) (omega arith) r (rw yes (put_third g.p m'.memory u w x y z 1 g.typed g.drawn g.output))
          (passed (third_zero g m'.memory u w 1 y z false true refl) q)) (next m' (spent + 2 + n) e (omega arith))))
      by_answer n m' locals few r false e =
          let is = first_no S m.at.stands.sound h h' es e in
          let costs = (takes_less S m.at.stands.sound h h' es g.since false e).costs in
          let no : bit (unify S h h').agrees ≡ 0 = rw e refl in
          subst (λ (v : Unified). Meant g f (call_parts ∷ if_clash ∷ rest) m.memory (u ∷ w ∷ x ∷ y ∷ z ∷ []) spent most v) (sym is)
          (answers (suc n + 2) m' (u ∷ w ∷ 0 ∷ y ∷ z ∷ []) (omega arith) (calls {f' = f} {w' = 5 * f} {n = n} {n' = 2} {xs = (x, y, 0)} refl (rw (third g.p m.memory u w x y z g.typed g.drawn g.output, fourth g.p m.memory u w x y z g.typed g.drawn g.output) refl) (unify_at g.p g.has) (omega arith) (omega arith) r (rw no (put_third g.p m'.memory u w x y z 0 g.typed g.drawn g.output))
          (taken (third_zero g m'.memory u w 0 y z true true refl) refl (rw no (returns refl)))))

      by_end : Unifies g f UNIFY_ACTS m.memory (x ∷ y ∷ 0 ∷ 0 ∷ 0 ∷ []) 7 (price S ((h, h') ∷ [])) (unify S h h') → Meant g f (call_parts ∷ if_clash ∷ rest) m.memory (u ∷ w ∷ x ∷ y ∷ z ∷ []) spent most (solve S ((h, h') ∷ es))
      by_end (answers n m' locals few r) = by_answer n m' locals few r (unify S h h').agrees refl
      by_end (is_full n memory locals over few r) =
          let less = takes_less S m.at.stands.sound h h' es g.since (unify S h h').agrees refl in
          let trails = less.trails in
          let costs = less.costs in
          is_full (suc n) memory locals (omega arith) (omega arith) (calls_last {f' = f} {w' = 5 * f} {n = n} {xs = (x, y, 0)} refl (rw (third g.p m.memory u w x y z g.typed g.drawn g.output, fourth g.p m.memory u w x y z g.typed g.drawn g.output) refl) (unify_at g.p g.has) (omega arith) (omega arith) r)

  -- ---- captured values, one after another

  parts : (limit : ℕ) → Below_it g f limit → (k k' : ℕ) (v' u' : Value) (ks ls : List ℕ) → length ls ≡ length ks → 3335 ≤ f + length ks → (vs us : Values) → as_many vs us ≡ true → (S : Substitution) (m : Moment g S) (i i' j j' x y spent most : ℕ) → i ≡ j + 3 → i' ≡ j' + 3 → AllShow g.sh i vs → AllShow g.sh i' us → Inside g.sh S ks k v' vs → Inside g.sh S ls k' u' us →
      (solve S (side_by_side vs us)).count < limit → 2 + price S (side_by_side vs us) + spent ≤ most →
      Meant g f (drop 78 UNIFY_ACTS) m.memory ((49152 + j) ∷ (49152 + j') ∷ x ∷ y ∷ (49152 + (j + count_of vs)) ∷ []) spent most (solve S (side_by_side vs us))
  unfolding behind_label
  parts limit again k k' v' u' ks ls same deep NoMore NoMore many S m i i' j j' x y spent most e e' a a' inside inside' few le =
      subst (λ (r : Unified). Meant g f (drop 78 UNIFY_ACTS) m.memory ((49152 + j) ∷ (49152 + j') ∷ x ∷ y ∷ (49152 + (j + 0)) ∷ []) spent most r) (sym (solve_nothing S))
      (answers 2 m ((49152 + j) ∷ (49152 + j') ∷ x ∷ y ∷ (49152 + (j + 0)) ∷ []) (omega arith)
      (passed (at_end g m.memory (49152 + j) (49152 + j') x y (49152 + (j + 0)) true (eq-eqb (49152 + j) (49152 + (j + 0)) (omega arith))) (returns refl)))
  parts limit again k k' v' u' ks ls same deep NoMore (More u us) many S m i i' j j' x y spent most e e' a a' inside inside' few le = absurd (cc many)
  parts limit again k k' v' u' ks ls same deep (More v vs) NoMore many S m i i' j j' x y spent most e e' a a' inside inside' few le = absurd (cc many)
  parts limit again k k' v' u' ks ls same deep (More v vs) (More u us) many S m i i' j j' x y spent most e e' (one_more _ c at s a) (one_more _ c' at' s' a') inside inside' few le =
      let end = 49152 + (j + count_of (More v vs)) in
      let end' = 49152 + (suc j + count_of vs) in
      let ends_same : end' ≡ end = omega arith in
      let here : Cell g.sh (j + 3) c = subst (λ (n : ℕ). Cell g.sh n c) e at in
      let here' : Cell g.sh (j' + 3) c' = subst (λ (n : ℕ). Cell g.sh n c') e' at' in
      let top = g.is.room in
      let low = here.fixed.0 in
      let low' = here'.fixed.0 in
      let less = takes_less S m.at.stands.sound v u (side_by_side vs us) g.since (unify S v u).agrees refl in
      let counts = less.counts in
      let head = again S m c c' v u (k ∷ ks) (k' ∷ ls) s s' (inside_first v vs inside) (inside_first u us inside') (omega arith) (omega arith) (omega arith) in
      longer g f 3
      (λ o s' n r. taken (at_end g m.memory (49152 + j) (49152 + j') x y end false (ne_eqb (49152 + j) end (λ (q : 49152 + j ≡ end). (omega arith)))) refl
      (done (read_3 g m.memory (49152 + j) (49152 + j') x y end 33444 c (field g S m 33444 3 j (j + 3) c here (omega arith) (omega arith) refl))
      (done (read_4 g m.memory (49152 + j) (49152 + j') c y end 33444 c' (field g S m 33444 3 j' (j' + 3) c' here' (omega arith) (omega arith) refl)) r)))
      (called S m (drop 75 UNIFY_ACTS) (49152 + j) (49152 + j') c c' end v u (side_by_side vs us) 4 (3 + spent) most (omega arith) (omega arith) head
      (λ m' spent' yes le'.
      let grew = solve_extends S ((v, u) ∷ []) m.at.stands.sound in
      let counts' = ap (λ (r : Unified). r.count) (first_yes S m.at.stands.sound v u (side_by_side vs us) yes) in
      longer g f 2
      (λ o s' n r. done (next_1 g m'.memory (49152 + j) (49152 + j') 1 c' end (49152 + suc j) (omega arith)) (done (next_2 g m'.memory (49152 + suc j) (49152 + j') 1 c' end (49152 + suc j') (omega arith)) (at_label r)))
      (subst (λ (z : ℕ). Meant g f (drop 78 UNIFY_ACTS) m'.memory ((49152 + suc j) ∷ (49152 + suc j') ∷ 1 ∷ c' ∷ z ∷ []) (2 + spent') most (solve (unify S v u).subst (side_by_side vs us))) ends_same
      (parts limit again k k' v' u' ks ls same deep vs us many (unify S v u).subst m' (suc i) (suc i') (suc j) (suc j') 1 c' (2 + spent') most (omega arith) (omega arith) a a' (inside_later v vs (unify S v u).subst grew inside) (inside_later u us (unify S v u).subst grew inside') (omega arith) (omega arith)))))

  -- ---- letters, one after another

  record Spells (S : Substitution) (m : Moment g S) (j j' x y z : ℕ) (xs ys : List ℕ) : Type 0 where
    locals' : List ℕ
    count : ℕ
    runs : Run g f (drop 91 UNIFY_ACTS) (in_state g m.memory ((49152 + j) ∷ (49152 + j') ∷ x ∷ y ∷ z ∷ [])) (Returns (bit (same_spelling xs ys))) (in_state g m.memory locals') count
    few : count ≤ 2 + 6 * length xs

  spells : (S : Substitution) (m : Moment g S) (xs ys : List ℕ) → length xs ≡ length ys → (i i' j j' x y z : ℕ) → z ≡ 49152 + (j + length xs) → i ≡ j + 3 → i' ≡ j' + 3 → Letters g.sh i xs → Letters g.sh i' ys → Spells S m j j' x y z xs ys
  unfolding behind_label
  spells S m [] [] same i i' j j' x y z ez e e' a a' = record {
    locals' = (49152 + j) ∷ (49152 + j') ∷ x ∷ y ∷ z ∷ [];
    count = 2;
    runs = passed (at_end g m.memory (49152 + j) (49152 + j') x y z true (eq-eqb (49152 + j) z (omega arith))) (at_label (returns refl));
    few = omega arith;
  }
  spells S m [] (d ∷ ys) same i i' j j' x y z ez e e' a a' = absurd (omega arith)
  spells S m (c ∷ xs) [] same i i' j j' x y z ez e e' a a' = absurd (omega arith)
  spells S m (c ∷ xs) (d ∷ ys) same i i' j j' x y z ez e e' a a' = by_letter (eqb c d) refl (spells S m xs ys (omega arith) (suc i) (suc i') (suc j) (suc j') c d z (omega arith) (omega arith) (omega arith) a.1 a'.1)
    where
      here : Cell g.sh (j + 3) c
      here = subst (λ (n : ℕ). Cell g.sh n c) e a.0

      here' : Cell g.sh (j' + 3) d
      here' = subst (λ (n : ℕ). Cell g.sh n d) e' a'.0

      to_letters : (o : Outcome) (s' : State) (n : ℕ) → Run g f (drop 87 UNIFY_ACTS) (in_state g m.memory ((49152 + j) ∷ (49152 + j') ∷ c ∷ d ∷ z ∷ [])) o s' n → Run g f (drop 91 UNIFY_ACTS) (in_state g m.memory ((49152 + j) ∷ (49152 + j') ∷ x ∷ y ∷ z ∷ [])) o s' (suc (suc (suc n)))
      to_letters o s' n r =
          taken (at_end g m.memory (49152 + j) (49152 + j') x y z false (ne_eqb (49152 + j) z (λ (q : 49152 + j ≡ z). (omega arith)))) refl
          (done (read_3 g m.memory (49152 + j) (49152 + j') x y z 33444 c (field g S m 33444 3 j (j + 3) c here (omega arith) (omega arith) refl))
          (done (read_4 g m.memory (49152 + j) (49152 + j') c y z 33444 d (field g S m 33444 3 j' (j' + 3) d here' (omega arith) (omega arith) refl)) r))

      by_letter : (t : Bool) → eqb c d ≡ t → Spells S m (suc j) (suc j') c d z xs ys → Spells S m j j' x y z (c ∷ xs) (d ∷ ys)
      by_letter true q r =
          let top = g.is.room in
          let low = here.fixed.0 in
          let low' = here'.fixed.0 in
          let few = r.few in
          record {
            locals' = r.locals';
            count = suc (suc (suc (suc (suc (suc r.count)))));
            runs = rw q (to_letters (Returns (bit (same_spelling xs ys))) (in_state g m.memory r.locals') (suc (suc (suc r.count)))
                (passed (same_fields g m.memory (49152 + j) (49152 + j') c d z true q)
                (done (next_1 g m.memory (49152 + j) (49152 + j') c d z (49152 + suc j) (omega arith)) (done (next_2 g m.memory (49152 + suc j) (49152 + j') c d z (49152 + suc j') (omega arith)) (at_label r.runs)))));
            few = omega arith;
          }
      by_letter false q r = record {
        locals' = (49152 + j) ∷ (49152 + j') ∷ c ∷ d ∷ z ∷ [];
        count = 5;
        runs = rw q (to_letters (Returns 0) (in_state g m.memory ((49152 + j) ∷ (49152 + j') ∷ c ∷ d ∷ z ∷ [])) 2 (taken (same_fields g m.memory (49152 + j) (49152 + j') c d z false q) refl (returns refl)));
        few = omega arith;
      }

  -- ---- two boxes of one header

  module _ (S : Substitution) (m : Moment g S) (a b : Value) where
    -- up to the comparison of the heads
    to_heads : (k k' x y z hd hd' : ℕ) → k ≢ k' → k + 2 < 10000 → k' + 2 < 10000 → Cell g.sh k 0 → Cell g.sh k' 0 → Cell g.sh (k + 1) hd → Cell g.sh (k' + 1) hd' → (o : Outcome) (s' : State) (n : ℕ) → Run g f (drop 14 UNIFY_ACTS) (in_state g m.memory ((49152 + k) ∷ (49152 + k') ∷ hd ∷ hd' ∷ z ∷ [])) o s' n → Run g f (drop 5 UNIFY_ACTS) (in_state g m.memory ((49152 + k) ∷ (49152 + k') ∷ x ∷ y ∷ z ∷ [])) o s' (steps 9 n)
    to_heads k k' x y z hd hd' apart lt lt' c c' one one' o s' n r =
        to_headers g f S m a b k k' 0 0 x y z apart lt lt' c c' o s' (steps 4 n)
        (passed (same_fields g m.memory (49152 + k) (49152 + k') 0 0 z true refl)
        (passed (third_zero g m.memory (49152 + k) (49152 + k') 0 0 z true false refl)
        (done (read_3 g m.memory (49152 + k) (49152 + k') 0 0 z 33440 hd (field g S m 33440 1 k (k + 1) hd one (omega arith) (omega arith) refl))
        (done (read_4 g m.memory (49152 + k) (49152 + k') hd 0 z 33440 hd' (field g S m 33440 1 k' (k' + 1) hd' one' (omega arith) (omega arith) refl)) r))))

    pub pairs : (k k' x y z hd hd' tl tl' : ℕ) (h t h' t' : Value) (ks ls : List ℕ) → k ≢ k' → length ls ≡ length ks → 3335 ≤ f + length ks → Cell g.sh k 0 → Cell g.sh k' 0 → Cell g.sh (k + 1) hd → Cell g.sh (k' + 1) hd' → Cell g.sh (k + 2) tl → Cell g.sh (k' + 2) tl' → Shows g.sh hd h → Shows g.sh hd' h' → Shows g.sh tl t → Shows g.sh tl' t' →
        Inside g.sh S ks k (pair h t) (More h (More t NoMore)) → Inside g.sh S ls k' (pair h' t') (More h' (More t' NoMore)) → walk S a ≡ pair h t → walk S b ≡ pair h' t' → Below_it g f (unify S a b).count → Again g f (unify S a b).count ks ls → (alike : Bool) → (hd == hd') ≡ alike → Done g f S m a b (drop 5 UNIFY_ACTS) (49152 + k) (49152 + k') x y z
    unfolding behind_label
    -- heads of one word are equal already
    pairs k k' x y z hd hd' tl tl' h t h' t' ks ls apart same deep c c' one one' two two' s s' q q' inside inside' ea eb heads tails true alike =
        let es : Equations = (h, h') ∷ (t, t') ∷ [] in
        let e : turn S a b ≡ Goes es = rw (ea, eb) refl in
        let answer = goes_on S a b es m.at.stands.sound e in
        let count = ap (λ (r : Unified). r.count) answer in
        let letters : letters_compared S ((a, b) ∷ []) ≡ letters_compared S es = letters_on S a b es m.at.stands.sound e ∙ rw (ea, eb) (omega arith) in
        let equal : h ≡ h' = same_word g.is s s' (eqb-true hd hd' alike) in
        let silent = equal_values S h h' m.at.stands.sound (ap (resolved S) equal) in
        let first = first_yes S m.at.stands.sound h h' ((t, t') ∷ []) silent.0 ∙ ap (λ (S' : Substitution). counted (unify S h h').count (solve S' ((t, t') ∷ []))) silent.1 in
        let counts = ap (λ (r : Unified). r.count) first in
        let costs = price_yes S m.at.stands.sound h h' ((t, t') ∷ []) silent.0 ∙ ap (λ (S' : Substitution). price S ((h, h') ∷ []) + price S' ((t, t') ∷ [])) silent.1 in
        let tail = tails S m tl tl' hd hd' z t t' q q' (below_smaller t inside.less.1.0 inside.below) (below_smaller t' inside'.less.1.0 inside'.below) (omega arith) in
        let whole = ends_into (steps 13) (λ n e few. let thirteen = steps_are 13 n in omega arith)
        (λ n o s' r. to_heads k k' x y z hd hd' apart inside.small inside'.small c c' one one' o s' (steps 4 n)
        (taken (third_fourth g m.memory (49152 + k) (49152 + k') hd hd' z true alike) refl
        (done (read_1 g m.memory (49152 + k) (49152 + k') hd hd' z 33442 tl (field g S m 33442 2 k (k + 2) tl two (omega arith) (omega arith) refl))
        (done (read_2 g m.memory tl (49152 + k') hd hd' z 33442 tl' (field g S m 33442 2 k' (k' + 2) tl' two' (omega arith) (omega arith) refl)) (goes refl r))))) tail in
        as_meant g f S m a b answer (ends_counted (cost S a b)
        (subst (λ (r : Unified). Meant g f (drop 5 UNIFY_ACTS) m.memory ((49152 + k) ∷ (49152 + k') ∷ x ∷ y ∷ z ∷ []) (base g f S m a b) (at_most g f S m a b) r) (sym first) (ends_counted (unify S h h').count whole)))
    pairs k k' x y z hd hd' tl tl' h t h' t' ks ls apart same deep c c' one one' two two' s s' q q' inside inside' ea eb heads tails false alike =
        let es : Equations = (h, h') ∷ (t, t') ∷ [] in
        let e : turn S a b ≡ Goes es = rw (ea, eb) refl in
        let answer = goes_on S a b es m.at.stands.sound e in
        let count = ap (λ (r : Unified). r.count) answer in
        let letters : letters_compared S ((a, b) ∷ []) ≡ letters_compared S es = letters_on S a b es m.at.stands.sound e ∙ rw (ea, eb) (omega arith) in
        let less = takes_less S m.at.stands.sound h h' ((t, t') ∷ []) g.since (unify S h h').agrees refl in
        let counts = less.counts in
        let head = heads S m hd hd' h h' (k ∷ ks) (k' ∷ ls) s s' (inside_first h (More t NoMore) inside) (inside_first h' (More t' NoMore) inside') (omega arith) (omega arith) (omega arith) in
        let later = called S m (drop 17 UNIFY_ACTS) (49152 + k) (49152 + k') hd hd' z h h' ((t, t') ∷ []) 3 (10 + base g f S m a b) (at_most g f S m a b) (omega arith) (omega arith) head
        (λ m' spent' yes le'.
        let grew = solve_extends S ((h, h') ∷ []) m.at.stands.sound in
        let counts' = ap (λ (r : Unified). r.count) (first_yes S m.at.stands.sound h h' ((t, t') ∷ []) yes) in
        let after = inside_later h (More t NoMore) (unify S h h').subst grew inside in
        let after' = inside_later h' (More t' NoMore) (unify S h h').subst grew inside' in
        let tail = tails (unify S h h').subst m' tl tl' 1 hd' z t t' q q' (below_smaller t after.less.0 after.below) (below_smaller t' after'.less.0 after'.below) (omega arith) in
        ends_into (steps 3) (λ n e few. let three = steps_are 3 n in omega arith) (λ n o s' r. at_label (done (read_1 g m'.memory (49152 + k) (49152 + k') 1 hd' z 33442 tl (field g (unify S h h').subst m' 33442 2 k (k + 2) tl two (omega arith) (omega arith) refl))
        (done (read_2 g m'.memory tl (49152 + k') 1 hd' z 33442 tl' (field g (unify S h h').subst m' 33442 2 k' (k' + 2) tl' two' (omega arith) (omega arith) refl)) (goes refl r)))) tail) in
        let whole = longer g f 10
        (λ o s' n r. to_heads k k' x y z hd hd' apart inside.small inside'.small c c' one one' o s' (suc n) (passed (third_fourth g m.memory (49152 + k) (49152 + k') hd hd' z false alike) r)) later in
        as_meant g f S m a b answer (ends_counted (cost S a b) whole)

    -- up to the test of what the header says
    to_contents : (k k' header header' x y z : ℕ) → k ≢ k' → k + 2 < 10000 → k' + 2 < 10000 → 0 < header → header ≡ header' → Cell g.sh k header → Cell g.sh k' header' → (o : Outcome) (s' : State) (n : ℕ) → Run g f (drop 64 UNIFY_ACTS) (in_state g m.memory ((49152 + k) ∷ (49152 + k') ∷ header ∷ header' ∷ z ∷ [])) o s' n → Run g f (drop 5 UNIFY_ACTS) (in_state g m.memory ((49152 + k) ∷ (49152 + k') ∷ x ∷ y ∷ z ∷ [])) o s' (steps 7 n)
    unfolding behind_label
    to_contents k k' header header' x y z apart lt lt' some e c c' o s' n r =
        to_headers g f S m a b k k' header header' x y z apart lt lt' c c' o s' (steps 2 n)
        (passed (same_fields g m.memory (49152 + k) (49152 + k') header header' z true (eq-eqb header header' e))
        (taken (third_zero g m.memory (49152 + k) (49152 + k') header header' z false false (ne_eqb header 0 (λ (e : header ≡ 0). (omega arith)))) refl r))

    pub closures : (k k' x y z place place' : ℕ) (vs us : Values) (ks ls : List ℕ) → k ≢ k' → length ls ≡ length ks → 3335 ≤ f + length ks → place < 16384 → place ≡ place' → Cell g.sh k (1 + place) → Cell g.sh k' (1 + place') → Cell g.sh (k + 1) (count_of vs) → Cell g.sh (k' + 1) (count_of us) → AllShow g.sh (k + 3) vs → AllShow g.sh (k' + 3) us →
        Inside g.sh S ks k (Node (Closure place) vs) vs → Inside g.sh S ls k' (Node (Closure place') us) us → walk S a ≡ Node (Closure place) vs → walk S b ≡ Node (Closure place') us → Below_it g f (unify S a b).count → (t : Bool) → as_many vs us ≡ t → Done g f S m a b (drop 5 UNIFY_ACTS) (49152 + k) (49152 + k') x y z
    unfolding behind_label
    closures k k' x y z place place' vs us ks ls apart same deep small alike c c' one one' all all' inside inside' ea eb heads false many =
        let header = 1 + place in
        let header' = 1 + place' in
        let n = count_of vs in
        let n' = count_of us in
        let differ : (n == n') ≡ false = sym (many_are vs us) ∙ many in
        let is_it : turn S a b ≡ Clashes = rw (ea, eb, eq-eqb place place' alike, many) refl in
        let answer = clashing S a b m.at.stands.sound is_it in
        let count = ap (λ (r : Unified). r.count) answer in
        as_meant g f S m a b answer (stays g f S m 12 (base g f S m a b) (at_most g f S m a b) (cost S a b + 0) false ((49152 + k) ∷ (49152 + k') ∷ n ∷ n' ∷ z ∷ [])
        (to_contents k k' header header' x y z apart inside.small inside'.small (omega arith) (omega arith) c c' (Returns 0) (in_state g m.memory ((49152 + k) ∷ (49152 + k') ∷ n ∷ n' ∷ z ∷ [])) 5
        (passed (third_less g m.memory (49152 + k) (49152 + k') header header' z false true (simple_is_positive header (omega arith)))
        (done (read_3 g m.memory (49152 + k) (49152 + k') header header' z 33440 n (field g S m 33440 1 k (k + 1) n one (omega arith) (omega arith) refl))
        (done (read_4 g m.memory (49152 + k) (49152 + k') n header' z 33440 n' (field g S m 33440 1 k' (k' + 1) n' one' (omega arith) (omega arith) refl))
        (taken (same_fields g m.memory (49152 + k) (49152 + k') n n' z false differ) refl (returns refl)))))) (omega arith))
    closures k k' x y z place place' vs us ks ls apart same deep small alike c c' one one' all all' inside inside' ea eb heads true many =
        let header = 1 + place in
        let header' = 1 + place' in
        let n = count_of vs in
        let n' = count_of us in
        let end = 49152 + (k + n) in
        let inside_small = inside.small in
        let low = all_low g.is (k + 3) vs (omega arith) all in
        let equal : (n == n') ≡ true = sym (many_are vs us) ∙ many in
        let es : Equations = side_by_side vs us in
        let e : turn S a b ≡ Goes es = rw (ea, eb, eq-eqb place place' alike, many) refl in
        let answer = goes_on S a b es m.at.stands.sound e in
        let count = ap (λ (r : Unified). r.count) answer in
        let letters : letters_compared S ((a, b) ∷ []) ≡ letters_compared S es = letters_on S a b es m.at.stands.sound e ∙ rw (ea, eb) (omega arith) in
        let later = parts (unify S a b).count heads k k' (Node (Closure place) vs) (Node (Closure place') us) ks ls same deep vs us many S m (k + 3) (k' + 3) k k' n n' (13 + base g f S m a b) (at_most g f S m a b) refl refl all all' inside inside' (omega arith) (omega arith) in
        let whole = longer g f 13
        (λ o s' i r. to_contents k k' header header' x y z apart inside.small inside'.small (omega arith) (omega arith) c c' o s' (steps 6 i)
        (passed (third_less g m.memory (49152 + k) (49152 + k') header header' z false true (simple_is_positive header (omega arith)))
        (done (read_3 g m.memory (49152 + k) (49152 + k') header header' z 33440 n (field g S m 33440 1 k (k + 1) n one (omega arith) (omega arith) refl))
        (done (read_4 g m.memory (49152 + k) (49152 + k') n header' z 33440 n' (field g S m 33440 1 k' (k' + 1) n' one' (omega arith) (omega arith) refl))
        (passed (same_fields g m.memory (49152 + k) (49152 + k') n n' z true equal)
        (done (end_5 g m.memory (49152 + k) (49152 + k') n n' z end (omega arith)) (goes refl r))))))) later in
        as_meant g f S m a b answer (ends_counted (cost S a b) whole)

    -- up to the comparison of letters
    to_spelling : (k k' x y z n n' : ℕ) → k ≢ k' → k + 2 < 10000 → k' + 2 < 10000 → k + 3 + n ≤ 10000 → n ≡ n' → Cell g.sh k (32768 + n) → Cell g.sh k' (32768 + n') → (o : Outcome) (s' : State) (i : ℕ) → Run g f (drop 91 UNIFY_ACTS) (in_state g m.memory ((49152 + k) ∷ (49152 + k') ∷ (32768 + n) ∷ (32768 + n') ∷ (49152 + (k + n)) ∷ [])) o s' i → Run g f (drop 5 UNIFY_ACTS) (in_state g m.memory ((49152 + k) ∷ (49152 + k') ∷ x ∷ y ∷ z ∷ [])) o s' (steps 11 i)
    unfolding behind_label
    to_spelling k k' x y z n n' apart lt lt' low e c c' o s' i r =
        to_contents k k' (32768 + n) (32768 + n') x y z apart lt lt' (omega arith) (omega arith) c c' o s' (steps 4 i)
        (taken (third_less g m.memory (49152 + k) (49152 + k') (32768 + n) (32768 + n') z true true (high_is_negative n (omega arith))) refl
        (done (end_5 g m.memory (49152 + k) (49152 + k') (32768 + n) (32768 + n') z (16384 + (k + n)) (omega arith))
        (done (half_5 g m.memory (49152 + k) (49152 + k') (32768 + n) (32768 + n') (16384 + (k + n)) (49152 + (k + n)) (omega arith)) (goes refl r))))

    pub words : (k k' x y z : ℕ) (xs ys : List ℕ) → k ≢ k' → k + 2 < 10000 → k' + 2 < 10000 → length xs ≡ length ys → Cell g.sh k (32768 + length xs) → Cell g.sh k' (32768 + length ys) → Letters g.sh (k + 3) xs → Letters g.sh (k' + 3) ys → walk S a ≡ leaf (Unknown xs) → walk S b ≡ leaf (Unknown ys) → (t : Bool) → same_spelling xs ys ≡ t → Done g f S m a b (drop 5 UNIFY_ACTS) (49152 + k) (49152 + k') x y z
    words k k' x y z xs ys apart lt lt' alike c c' all all' ea eb true e =
        let is_it : turn S a b ≡ Goes [] = rw (ea, eb, e) refl in
        let answer = nothing S a b m.at.stands.sound is_it in
        let count = ap (λ (r : Unified). r.count) answer in
        let letters = letters_on S a b [] m.at.stands.sound is_it in
        let these : values_compared (walk S a) (walk S b) ≡ length xs + length ys = rw (ea, eb) refl in
        let low = letters_low g.is (k + 3) xs (omega arith) all in
        let r = spells S m xs ys alike (k + 3) (k' + 3) k k' (32768 + length xs) (32768 + length ys) (49152 + (k + length xs)) refl refl refl all all' in
        let few = r.few in
        let runs : Run g f (drop 91 UNIFY_ACTS) (in_state g m.memory ((49152 + k) ∷ (49152 + k') ∷ (32768 + length xs) ∷ (32768 + length ys) ∷ (49152 + (k + length xs)) ∷ [])) (Returns 1) (in_state g m.memory r.locals') r.count = rw e at r.runs in
        as_meant g f S m a b answer (stays g f S m (steps 11 r.count) (base g f S m a b) (at_most g f S m a b) (cost S a b + 0) true r.locals'
        (to_spelling k k' x y z (length xs) (length ys) apart lt lt' low alike c c' (Returns 1) (in_state g m.memory r.locals') r.count runs) (omega (arith, steps_are 11 r.count)))
    words k k' x y z xs ys apart lt lt' alike c c' all all' ea eb false e =
        let is_it : turn S a b ≡ Clashes = rw (ea, eb, e) refl in
        let answer = clashing S a b m.at.stands.sound is_it in
        let count = ap (λ (r : Unified). r.count) answer in
        let letters = letters_clash S a b m.at.stands.sound is_it in
        let these : values_compared (walk S a) (walk S b) ≡ length xs + length ys = rw (ea, eb) refl in
        let low = letters_low g.is (k + 3) xs (omega arith) all in
        let r = spells S m xs ys alike (k + 3) (k' + 3) k k' (32768 + length xs) (32768 + length ys) (49152 + (k + length xs)) refl refl refl all all' in
        let few = r.few in
        let runs : Run g f (drop 91 UNIFY_ACTS) (in_state g m.memory ((49152 + k) ∷ (49152 + k') ∷ (32768 + length xs) ∷ (32768 + length ys) ∷ (49152 + (k + length xs)) ∷ [])) (Returns 0) (in_state g m.memory r.locals') r.count = rw e at r.runs in
        as_meant g f S m a b answer (stays g f S m (steps 11 r.count) (base g f S m a b) (at_most g f S m a b) (cost S a b + 0) false r.locals'
        (to_spelling k k' x y z (length xs) (length ys) apart lt lt' low alike c c' (Returns 0) (in_state g m.memory r.locals') r.count runs) (omega (arith, steps_are 11 r.count)))
