-- The routine that unifies an argument with a term of which each variable is new does so.
use Rattle.std.proofs.Common.{◌≡◌, ◌≢◌, ℕ, zero, suc, ◌+◌, ◌-◌, ◌*◌, ◌<◌, ◌≤◌, Bool, true, false, List, [], ◌∷◌, drop, length, Some, refl, sym, ap, ◌∙◌, subst, arith}
use Rattle.std.proofs.lemmas.Bool.{eq-eqb, ne_eqb}
use Rattle.z_model.specs.declared.end.Halt.TheVariants.{AtQuit}
use Rattle.z_lang.specs.declared.act.Atom.TheVariants as atoms
use Rattle.z_lang.specs.declared.act.Comparison.TheVariants as comparisons
use Rattle.z_lang.specs.State.{State, Program}
use Rattle.z_lang.specs.Runs.{ActsRun as Runs, ActsOutcome as Outcome, Returns, Stops, at_label, taken, passed, done, calls, calls_last, returns, behind_label}
use Rattle.dg_meaning.specs.Values.{Label, Pair, Value, Var, Node, Values, NoMore, More, leaf, pair}
use Rattle.dg_meaning.specs.Facts.{is_simple}
use Rattle.dg_meaning.specs.Substitutions.{Substitution, walk, links}
use Rattle.dg_meaning.specs.inside.Substitutions.{Extends}
use Rattle.dg_meaning.specs.Unify.{same_label, Equations, Goes, Binds, Clashes, turn, cost, Unified, solve, top, top_of_pairs}
use Rattle.dg_meaning.specs.inside.Unify.{unify}
use Rattle.dg_meaning.specs.Letters.{values_compared, compared as letters_compared}
use Rattle.dg_meaning.proofs.Bindings.{solve_below}
use Rattle.dg_meaning.proofs.LookUps.{walk_node}
use Rattle.dg_meaning.proofs.Solving.{solve_extends, walk_top}
use Rattle.dg_rt.specs.declared.heads.TheConstants.{TAKE_ACTS}
use Rattle.dg_rt.specs.Cells.{with_cell, replaced, Holds, bit}
use Rattle.dg_rt.specs.Areas.{heap_at, clash_reg, IsMapped, state}
use Rattle.dg_rt.specs.Shapes.{Shape, IsFixed, Cell, Shows, number, dict, object, nil, variable, boxed, Filled, pair_in, closure_in, word_in}
use Rattle.dg_rt.specs.Moments.{Setting, Moment, in_state}
use Rattle.dg_rt.specs.Unifies.{price}
use Rattle.dg_rt.specs.Rules.{Matches, agree, limit_met}
use Rattle.dg_rt.specs.Taking.{Ascends, a_variable, a_simple, a_pair, AreNew, TakeWorks}
use Rattle.dg_rt.specs.inside.Walks.{steps}
use Rattle.dg_rt.specs.inside.Depth.{Below, on_top, under}
use Rattle.dg_rt.proofs.Cells.{other_cell, same_cell}
use Rattle.dg_rt.proofs.Depth.{below_later, below_smaller, head_smaller, tail_smaller, levels}
use Rattle.dg_rt.proofs.Following.{tested, register, puts}
use Rattle.dg_rt.proofs.Fresh.{ascends_order, ascends_top, taken_binds, earlier_binds}
use Rattle.dg_rt.proofs.Locals.{get_3, get_4, simple_no_reference, boxed_no_reference}
use Rattle.dg_rt.proofs.Showing.{variable_word, node_word}
use Rattle.dg_rt.proofs.Ways.{goes_on, letters_on, first_yes, first_no, price_yes, takes_less, Simple, a_number, a_word, an_object, a_nil, simple_no_box}
use Rattle.dg_rt.proofs.UnifySteps.{steps_are}
use Rattle.dg_rt.proofs.TakeSteps.{take_at, Taken, agrees, clashes, is_full, taken_map, taken_into, taken_counted, third_zero, clash_zero, read_1, read_2, read_3, read_4, field_in}
use Rattle.dg_rt.proofs.TakeWalks.{behind_walk, Looked, looked_up}
use Rattle.dg_rt.proofs.TakeEnds.{Run, Meant, longer, at_most, base, Done, as_meant, owns, binds_argument, two_simple, box_simple, simple_box, to_header, other_box}

-- ---- what a term's word is

simple_word : {sh : Shape} {y : ℕ} {f : Label} → Shows sh y (leaf f) → is_simple (leaf f) ≡ true → Simple y f
simple_word (number n lt) e = a_number n lt
simple_word (dict n lt) e = a_word n lt
simple_word (object n lt) e = an_object n lt
simple_word nil e = a_nil
simple_word (boxed k header lt box at (closure_in _ place small told few one all)) e = absurd (cc e)
simple_word (boxed k header lt box at (word_in _ fine all)) e = absurd (cc e)

record PairAt (sh : Shape) (y : ℕ) (h t : Value) : Type 0 where
  k : ℕ
  is : y ≡ 49152 + k
  small : k + 2 < 10000
  box : sh.box k ≡ Some (pair h t)
  head : ℕ
  tail : ℕ
  head_at : Cell sh (k + 1) head
  tail_at : Cell sh (k + 2) tail
  head_shows : Shows sh head h
  tail_shows : Shows sh tail t

pair_word : {sh : Shape} {y : ℕ} {h t : Value} → Shows sh y (pair h t) → PairAt sh y h t
pair_word (boxed k header lt box at (pair_in _ x y one two s q)) = record { k = k; is = refl; small = lt; box = box; head = x; tail = y; head_at = one; tail_at = two; head_shows = s; tail_shows = q }

module _ (g : Setting) (calm : g.begun.cells clash_reg ≡ 0) where
  still : {S : Substitution} (m : Moment g S) → m.cells clash_reg ≡ 0
  still m = m.at.others clash_reg (λ e. (omega arith)) (λ le. (omega arith)) ∙ calm

  -- ---- two pairs

  module _ (f : ℕ) (S : Substitution) (m : Moment g S) (a : Value) (low middle : ℕ) (ks : List ℕ) (bound : top_of_pairs S ≤ low) (argument : top a ≤ low) (ha ta hb tb : Value) (k k' hx tx hy ty : ℕ)
      (one : Cell g.sh (k + 1) hx) (two : Cell g.sh (k + 2) tx) (one' : Cell g.sh (k' + 1) hy) (two' : Cell g.sh (k' + 2) ty) (ea : walk S a ≡ pair ha ta) (order : low ≤ middle) (ordered : top hb ≤ middle)
      (tails : (S' : Substitution) (m' : Moment g S') (c d : ℕ) → Extends S S' → top_of_pairs S' ≤ middle → Meant g (suc f) (drop 2 TAKE_ACTS) m'.memory (tx ∷ ty ∷ c ∷ d ∷ []) 15 (price S' ((ta, tb) ∷ [])) (unify S' ta tb)) where
    abbrev parts : Equations
    parts = (ha, hb) ∷ (ta, tb) ∷ []

    abbrev first : Unified
    first = unify S ha hb

    abbrev us : Values
    us = More hb (More tb NoMore)

    abbrev before : ℕ
    before = 25 + 4 * links S a

    abbrev Behind : Type 0
    Behind = Meant g (suc f) (drop 16 TAKE_ACTS) m.memory ((49152 + k) ∷ (49152 + k') ∷ hx ∷ hy ∷ []) before (30 + 15 * links S a + price S parts) (solve S parts)

    abbrev Head : Type 0
    Head = Meant g f (drop 2 TAKE_ACTS) m.memory (hx ∷ hy ∷ 0 ∷ 0 ∷ []) 15 (price S ((ha, hb) ∷ [])) first

    begins : (o : Outcome) (s' : State) (n : ℕ) → Runs g.p f (5 * f) TAKE_ACTS (drop 2 TAKE_ACTS) (in_state g m.memory (hx ∷ hy ∷ 0 ∷ 0 ∷ [])) o s' n → Runs g.p f (5 * f) TAKE_ACTS TAKE_ACTS (in_state g m.memory (hx ∷ hy ∷ 0 ∷ 0 ∷ [])) o s' (suc n)
    begins o s' n r = passed (clash_zero g m.memory hx hy 0 0 m.cells m.at.holds true false (eq-eqb (m.cells clash_reg) 0 (still m))) (at_label r)

    agreed : (n : ℕ) (m' : Moment g first.subst) (locals : List ℕ) → first.agrees ≡ true → n + 15 ≤ price S ((ha, hb) ∷ []) → Run g f (drop 2 TAKE_ACTS) (in_state g m.memory (hx ∷ hy ∷ 0 ∷ 0 ∷ [])) (Returns 0) (in_state g m'.memory locals) n → Behind
    unfolding behind_label
    agreed n m' locals ok few r =
        let costs = price_yes S m.at.stands.sound ha hb ((ta, tb) ∷ []) ok in
        let small = walk_top low S a bound argument in
        let head_small : top ha ≤ middle = (let q = ap top ea in omega arith) in
        let below = solve_below middle S ((ha, hb) ∷ []) m.at.stands.sound (omega arith) (omega arith) in
        let box = 49152 + k in
        let box' = 49152 + k' in
        subst (λ (u : Unified). Meant g (suc f) (drop 16 TAKE_ACTS) m.memory (box ∷ box' ∷ hx ∷ hy ∷ []) before (30 + 15 * links S a + price S parts) u) (sym (first_yes S m.at.stands.sound ha hb ((ta, tb) ∷ []) ok))
        (taken_counted first.count (taken_into (λ j. suc (suc n) + suc (suc (suc j))) (λ j e le. omega arith)
        (λ j o s' q. calls {f' = f} {w' = 5 * f} {n = suc n} {n' = suc (suc (suc j))} {xs = (hx, hy, 0)} refl (rw (get_3 g.p m.memory box box' hx hy g.typed g.drawn g.output, get_4 g.p m.memory box box' hx hy g.typed g.drawn g.output) refl) (take_at g.p g.has) (omega arith) (omega arith)
        (begins (Returns 0) (in_state g m'.memory locals) n r) refl
        (done (read_1 g m'.memory box box' hx hy 33442 tx (field_in g m'.memory m'.cells m'.at.holds m'.at.stands.fixed 33442 2 k (k + 2) tx two (omega arith) (omega arith) refl))
        (done (read_2 g m'.memory tx box' hx hy 33442 ty (field_in g m'.memory m'.cells m'.at.holds m'.at.stands.fixed 33442 2 k' (k' + 2) ty two' (omega arith) (omega arith) refl))
        (taken (clash_zero g m'.memory tx ty hx hy m'.cells m'.at.holds true true (eq-eqb (m'.cells clash_reg) 0 (still m'))) refl q))))
        (tails first.subst m' hx hy (solve_extends S ((ha, hb) ∷ []) m.at.stands.sound) below)))

    clashed : (n : ℕ) (m' : Moment g first.subst) (locals : List ℕ) → first.agrees ≡ false → n + 15 ≤ price S ((ha, hb) ∷ []) → Run g f (drop 2 TAKE_ACTS) (in_state g m.memory (hx ∷ hy ∷ 0 ∷ 0 ∷ [])) (Returns 0) (in_state g (with_cell m'.memory clash_reg 1) locals) n → Behind
    unfolding behind_label
    clashed n m' locals ko few r =
        let costs = (takes_less S m.at.stands.sound ha hb ((ta, tb) ∷ []) g.since false ko).costs in
        let box = 49152 + k in
        let box' = 49152 + k' in
        let room = g.has.mapped.room in
        let memory = with_cell m'.memory clash_reg 1 in
        let cells = replaced m'.cells clash_reg 1 in
        let put = puts g.p (in_state g m'.memory locals) m'.cells 29 1 m'.at.holds (omega arith) (omega arith) (omega arith) (omega arith) in
        let fixed : (i : ℕ) → i < 10000 → IsFixed g.sh i → cells (heap_at + i) ≡ g.sh.fixed i = λ i lt fx. other_cell m'.cells clash_reg 1 (heap_at + i) (λ (e : heap_at + i ≡ clash_reg). (omega arith)) ∙ m'.at.stands.fixed i lt fx in
        subst (λ (u : Unified). Meant g (suc f) (drop 16 TAKE_ACTS) m.memory (box ∷ box' ∷ hx ∷ hy ∷ []) before (30 + 15 * links S a + price S parts) u) (sym (first_no S m.at.stands.sound ha hb ((ta, tb) ∷ []) ko))
        (clashes (suc (suc n) + 4) m' (tx ∷ ty ∷ hx ∷ hy ∷ []) ko (omega arith)
        (calls {f' = f} {w' = 5 * f} {n = suc n} {n' = 4} {xs = (hx, hy, 0)} refl (rw (get_3 g.p m.memory box box' hx hy g.typed g.drawn g.output, get_4 g.p m.memory box box' hx hy g.typed g.drawn g.output) refl) (take_at g.p g.has) (omega arith) (omega arith)
        (begins (Returns 0) (in_state g memory locals) n r) refl
        (done (read_1 g memory box box' hx hy 33442 tx (field_in g memory cells put.holds fixed 33442 2 k (k + 2) tx two (omega arith) (omega arith) refl))
        (done (read_2 g memory tx box' hx hy 33442 ty (field_in g memory cells put.holds fixed 33442 2 k' (k' + 2) ty two' (omega arith) (omega arith) refl))
        (passed (clash_zero g memory tx ty hx hy cells put.holds false true (ne_eqb (cells clash_reg) 0 (λ (e : cells clash_reg ≡ 0). (let q = same_cell m'.cells clash_reg 1 in omega arith)))) (returns refl))))))

    by_head : Head → Behind
    by_head (agrees n m' locals ok few r) = agreed n m' locals ok few r
    by_head (clashes n m' locals ko few r) = clashed n m' locals ko few r
    by_head (is_full n memory locals over few r) =
        let less = takes_less S m.at.stands.sound ha hb ((ta, tb) ∷ []) g.since first.agrees refl in
        let trails = less.trails in
        let costs = less.costs in
        is_full (suc (suc n)) memory locals (omega arith) (omega arith)
        (calls_last {f' = f} {w' = 5 * f} {n = suc n} {xs = (hx, hy, 0)} refl (rw (get_3 g.p m.memory (49152 + k) (49152 + k') hx hy g.typed g.drawn g.output, get_4 g.p m.memory (49152 + k) (49152 + k') hx hy g.typed g.drawn g.output) refl) (take_at g.p g.has) (omega arith) (omega arith)
        (begins (Stops AtQuit) _ n r))

    pairs : (x d : ℕ) → k + 2 < 10000 → k' + 2 < 10000 → Cell g.sh k 0 → Head → Done g (suc f) S m a (pair hb tb) (drop 9 TAKE_ACTS) (49152 + k) (49152 + k') x d
    pairs x d lt lt' c head =
        let eb = walk_node S Pair us in
        let is_it : turn S a (pair hb tb) ≡ Goes parts = rw (ea, eb) refl in
        let answer = goes_on S a (pair hb tb) parts m.at.stands.sound is_it in
        let count = ap (λ (u : Unified). u.count) answer in
        let letters = letters_on S a (pair hb tb) parts m.at.stands.sound is_it in
        as_meant g (suc f) S m a (pair hb tb) answer (taken_counted (cost S a (pair hb tb))
        (taken_into (λ n. suc (suc (suc (suc (suc (suc (suc n))))))) (λ n e le. omega arith)
        (λ n o s' r. to_header g (suc f) S m a (pair hb tb) k k' 0 x d lt lt' c o s' (suc (suc (suc n)))
        (passed (third_zero g m.memory (49152 + k) (49152 + k') 0 d true false refl)
        (done (read_3 g m.memory (49152 + k) (49152 + k') 0 d 33440 hx (field_in g m.memory m.cells m.at.holds m.at.stands.fixed 33440 1 k (k + 1) hx one (omega arith) (omega arith) refl))
        (done (read_4 g m.memory (49152 + k) (49152 + k') hx d 33440 hy (field_in g m.memory m.cells m.at.holds m.at.stands.fixed 33440 1 k' (k' + 1) hy one' (omega arith) (omega arith) refl)) r))))
        (by_head head)))

  -- ---- one level

  -- What is meant at so many frames.
  abbrev Meant_at : ℕ → (S : Substitution) → Moment g S → ℕ → ℕ → ℕ → ℕ → Value → Value → Type 0
  Meant_at f S m x y c d a b = Meant g f (drop 2 TAKE_ACTS) m.memory (x ∷ y ∷ c ∷ d ∷ []) 15 (price S ((a, b) ∷ [])) (unify S a b)

  -- up to what is found by the walk
  module _ (f : ℕ) (S : Substitution) (m : Moment g S) (x y c d : ℕ) (a b : Value) (s : Shows g.sh x a) where
    abbrev looked : Looked g f S m y d (drop 2 TAKE_ACTS) x c a 3
    looked = looked_up g f S m y d x c a s

    behind : Done g f S m a b (behind_walk g f S m y d (walk S a)) looked.word y looked.third d → Meant_at f S m x y c d a b
    behind r = let few = looked.few in taken_map (λ n. steps looked.count n) (λ n. let e = steps_are looked.count n in omega arith) (λ n o s' q. looked.runs o s' n q) r

  -- the term is a variable
  own : (f : ℕ) (S : Substitution) (m : Moment g S) (y d u t : ℕ) (a : Value) (low n : ℕ) → top_of_pairs S ≤ low → top a ≤ low → low ≤ n → n < g.sh.vars → g.since ≤ n → (v : Value) → walk S a ≡ v → Shows g.sh u v → Done g f S m a (Var n) (behind_walk g f S m y d v) u (32768 + g.sh.place n) t d
  own f S m y d u t a low n bound argument le old young (Var i) e s = owns g f S m a (Var n) (drop 23 TAKE_ACTS) n u t d (Var i) old young s (taken_binds S a low bound argument n le ∙ ap (Binds n) e)
  own f S m y d u t a low n bound argument le old young (Node h vs) e s = owns g f S m a (Var n) (drop 10 TAKE_ACTS) n u t d (Node h vs) old young s (taken_binds S a low bound argument n le ∙ ap (Binds n) e)

  -- the term is simple
  simple : (f : ℕ) (S : Substitution) (m : Moment g S) (y d u t : ℕ) (a : Value) (low high : ℕ) (h' : Label) → 3 ≤ f → top_of_pairs S ≤ low → top a ≤ low → Ascends low (leaf h') high → Simple y h' → Shows g.sh y (leaf h') → (v : Value) → walk S a ≡ v → Shows g.sh u v → Done g f S m a (leaf h') (behind_walk g f S m y d v) u y t d
  simple f S m y d u t a low high h' deep bound argument asc q sy v e (variable i old) = binds_argument g f S m a (leaf h') i y t d (leaf h') old deep sy (node_word sy) (earlier_binds S a low bound argument i high h' NoMore e asc)
  simple f S m y d u t a low high h' deep bound argument asc q sy v e (number n lt) = two_simple g f S m a (leaf h') u y t d _ h' (a_number n lt) q e (walk_node S h' NoMore) _ refl
  simple f S m y d u t a low high h' deep bound argument asc q sy v e (dict n lt) = two_simple g f S m a (leaf h') u y t d _ h' (a_word n lt) q e (walk_node S h' NoMore) _ refl
  simple f S m y d u t a low high h' deep bound argument asc q sy v e (object n lt) = two_simple g f S m a (leaf h') u y t d _ h' (an_object n lt) q e (walk_node S h' NoMore) _ refl
  simple f S m y d u t a low high h' deep bound argument asc q sy v e nil = two_simple g f S m a (leaf h') u y t d _ h' a_nil q e (walk_node S h' NoMore) _ refl
  simple f S m y d u t a low high h' deep bound argument asc q sy (Node h vs) e (boxed k header lt box at inside) = box_simple g f S m a (leaf h') k y t d h h' vs q (simple_no_box q inside).1 e (walk_node S h' NoMore)
  simple f S m y d u t a low high h' deep bound argument asc q sy (Var n) e (boxed k header lt box at inside) = elim inside [ ]

  -- the term is a pair
  module _ (f : ℕ) (S : Substitution) (m : Moment g S) (y d : ℕ) (a : Value) (low middle high : ℕ) (ks : List ℕ) (bound : top_of_pairs S ≤ low) (argument : top a ≤ low) (hb tb : Value) (p : Ascends low hb middle) (q : Ascends middle tb high) (at : PairAt g.sh y hb tb) (sy : Shows g.sh y (pair hb tb)) (deep : 3 ≤ suc f)
      (head : (x : ℕ) (ha : Value) → Shows g.sh x ha → top ha ≤ low → Meant_at f S m x at.head 0 0 ha hb)
      (tails : (x : ℕ) (ta : Value) → Shows g.sh x ta → top ta ≤ middle → (S' : Substitution) (m' : Moment g S') (c e : ℕ) → Extends S S' → top_of_pairs S' ≤ middle → Meant_at (suc f) S' m' x at.tail c e ta tb) where
    abbrev b : Value
    b = pair hb tb

    abbrev tails_of : Values
    tails_of = More hb (More tb NoMore)

    abbrev At : Value → ℕ → ℕ → Type 0
    At v u t = Done g (suc f) S m a b (behind_walk g (suc f) S m y d v) u y t d

    -- a simple value
    clash : (u t : ℕ) (h : Label) → Simple u h → same_label h Pair ≡ false → walk S a ≡ leaf h → At (leaf h) u t
    clash u t h s unlike e = subst (λ (z : ℕ). Done g (suc f) S m a b (drop 9 TAKE_ACTS) u z t d) (sym at.is) (simple_box g (suc f) S m a b u at.k t d h Pair tails_of s at.small unlike e (walk_node S Pair tails_of))

    in_box : (k header t : ℕ) (h : Label) (vs : Values) → k + 2 < 10000 → Cell g.sh k header → walk S a ≡ Node h vs → Filled g.sh k header (Node h vs) → Done g (suc f) S m a b (drop 9 TAKE_ACTS) (49152 + k) (49152 + at.k) t d
    in_box k header t h vs lt c e (pair_in {h = ha} {t = ta} _ hx tx one two s s') =
        let small = walk_top low S a bound argument in
        let order = ascends_order p in
        let head_small : top ha ≤ low = (let q = ap top e in omega arith) in
        let tail_small : top ta ≤ middle = (let q = ap top e in omega arith) in
        pairs f S m a low middle ks bound argument ha ta hb tb k at.k hx tx at.head at.tail one two at.head_at at.tail_at e order (ascends_top p) (tails tx ta s' tail_small) t d lt at.small c (head hx ha s head_small)
    in_box k header t h vs lt c e (closure_in _ place small told few one all) =
        other_box g (suc f) S m a b k at.k (1 + place) t d lt at.small c (λ (z : 1 + place ≡ 0). (omega arith)) (rw (e, walk_node S Pair tails_of) refl)
    in_box k header t h vs lt c e (word_in {letters = letters} _ fine all) =
        other_box g (suc f) S m a b k at.k (32768 + length letters) t d lt at.small c (λ (z : 32768 + length letters ≡ 0). (omega arith)) (rw (e, walk_node S Pair tails_of) refl)

    by_shows : (u t : ℕ) (v : Value) → walk S a ≡ v → Shows g.sh u v → At v u t
    by_shows u t v e (variable i old) = binds_argument g (suc f) S m a b i y t d b old deep sy (node_word sy) (earlier_binds S a low bound argument i high Pair tails_of e (a_pair low middle high p q))
    by_shows u t v e (number n lt) = clash u t _ (a_number n lt) refl e
    by_shows u t v e (dict n lt) = clash u t _ (a_word n lt) refl e
    by_shows u t v e (object n lt) = clash u t _ (an_object n lt) refl e
    by_shows u t v e nil = clash u t _ a_nil refl e
    by_shows u t (Node h vs) e (boxed k header lt box c inside) = subst (λ (z : ℕ). Done g (suc f) S m a b (drop 9 TAKE_ACTS) (49152 + k) z t d) (sym at.is) (in_box k header t h vs lt c e inside)
    by_shows u t (Var n) e (boxed k header lt box c inside) = elim inside [ ]

  -- ---- all levels

  takes : (f : ℕ) (S : Substitution) (m : Moment g S) (x y c d : ℕ) (a b : Value) (low high : ℕ) (ks : List ℕ) → Shows g.sh x a → Shows g.sh y b → Below g.sh S ks b → 3337 ≤ f + length ks → g.since ≤ low → top_of_pairs S ≤ low → top a ≤ low → Ascends low b high → Meant_at f S m x y c d a b
  takes f S m x y c d a b low high ks s sy below deep young bound argument (a_variable _ n _ le lt) =
      let v = variable_word sy in
      let l = looked f S m x y c d a b s in
      behind f S m x y c d a b s (subst (λ (z : ℕ). Done g f S m a b (behind_walk g f S m y d (walk S a)) l.word z l.third d) (sym v.is) (own f S m y d l.word l.third a low n bound argument le v.old (omega arith) (walk S a) refl l.shows))
  takes f S m x y c d a b low high ks s sy below deep young bound argument (a_simple _ _ h is order) =
      let levels_are = levels g.is S below in
      let l = looked f S m x y c d a b s in
      behind f S m x y c d a b s (simple f S m y d l.word l.third a low high h (omega arith) bound argument (a_simple low high h is order) (simple_word sy is) sy (walk S a) refl l.shows)
  takes zero S m x y c d a b low high ks s sy below deep young bound argument (a_pair _ middle _ p q) = let levels_are = levels g.is S below in absurd (omega arith)
  takes (suc f) S m x y c d a b low high ks s sy below deep young bound argument (a_pair {h = hb} {t = tb} _ middle _ p q) =
      let levels_are = levels g.is S below in
      let order = ascends_order p in
      let at = pair_word sy in
      let l = looked (suc f) S m x y c d a b s in
      behind (suc f) S m x y c d a b s (by_shows f S m y d a low middle high ks bound argument hb tb p q at sy (omega arith)
      (λ x' ha s' small. takes f S m x' at.head 0 0 ha hb low middle (at.k ∷ ks) s' at.head_shows (under ks hb at.k (pair hb tb) at.small at.box (head_smaller S hb tb) below) (omega arith) young bound small p)
      (λ x' ta s' small S' m' c' e' grew bound'.
      takes (suc f) S' m' x' at.tail c' e' ta tb middle high ks s' at.tail_shows (subst (λ (z : Substitution). Below g.sh z ks tb) (sym grew.is) (below_later grew.made (below_smaller tb (tail_smaller S hb tb) below))) deep (omega arith) bound' small q)
      l.word l.third (walk S a) refl l.shows)

-- ---- the routine

skips : (p : Program) → IsMapped p → (f w : ℕ) (memory typed output : List ℕ) (drawn x y : ℕ) (c : ℕ → ℕ) → Holds p.world.layout memory c → c clash_reg ≢ 0 → Runs p f w TAKE_ACTS TAKE_ACTS (state memory (x ∷ y ∷ 0 ∷ 0 ∷ []) typed drawn output) (Returns 0) (state memory (x ∷ y ∷ 0 ∷ 0 ∷ []) typed drawn output) 2
unfolding behind_label
skips p map f w memory typed output drawn x y c h some =
    let room = map.room in
    let s = state memory (x ∷ y ∷ 0 ∷ 0 ∷ []) typed drawn output in
    taken (tested p s comparisons.Equal (atoms.Var 29) (atoms.Num 0) false (c clash_reg) 0 false (register p s c 29 h (omega arith) (omega arith) (omega arith)) refl (ne_eqb (c clash_reg) 0 some)) refl (returns refl)

module _ (g : Setting) (S : Substitution) (m : Moment g S) (x y : ℕ) (a b : Value) (none : m.cells clash_reg ≡ 0) where
  calm : g.begun.cells clash_reg ≡ 0
  calm = sym (m.at.others clash_reg (λ e. (omega arith)) (λ le. (omega arith))) ∙ none

  abbrev Whole : Type 0
  Whole = Taken g (unify S a b) 15 (price S ((a, b) ∷ [])) (λ n o s. Runs g.p 3337 16685 TAKE_ACTS (drop 2 TAKE_ACTS) (in_state g m.memory (x ∷ y ∷ 0 ∷ 0 ∷ [])) o s n)

  begins_whole : (o : Outcome) (s' : State) (n : ℕ) → Runs g.p 3337 16685 TAKE_ACTS (drop 2 TAKE_ACTS) (in_state g m.memory (x ∷ y ∷ 0 ∷ 0 ∷ [])) o s' n → Runs g.p 3337 16685 TAKE_ACTS TAKE_ACTS (in_state g m.memory (x ∷ y ∷ 0 ∷ 0 ∷ [])) o s' (suc n)
  begins_whole o s' n r = passed (clash_zero g m.memory x y 0 0 m.cells m.at.holds true false (eq-eqb (m.cells clash_reg) 0 none)) (at_label r)

  by_end : Whole → Matches TAKE_ACTS g m.memory x y (price S ((a, b) ∷ [])) (unify S a b)
  by_end (agrees n m' locals ok few q) =
      agree m' m'.memory locals m'.cells (suc n) m'.at.holds (still g calm m' ∙ rw ok refl) (λ k ne. refl) (omega arith) (begins_whole (Returns 0) (in_state g m'.memory locals) n q)
  by_end (clashes n m' locals ko few q) =
      let room = g.has.mapped.room in
      let put = puts g.p (in_state g m'.memory locals) m'.cells 29 1 m'.at.holds (omega arith) (omega arith) (omega arith) (omega arith) in
      agree m' (with_cell m'.memory clash_reg 1) locals (replaced m'.cells clash_reg 1) (suc n) put.holds (same_cell m'.cells clash_reg 1 ∙ rw ko refl) (λ k ne. other_cell m'.cells clash_reg 1 k ne) (omega arith)
      (begins_whole (Returns 0) (in_state g (with_cell m'.memory clash_reg 1) locals) n q)
  by_end (is_full n memory locals over few q) = limit_met memory locals (suc n) over (omega arith) (begins_whole (Stops AtQuit) _ n q)

  whole : Shows g.sh x a → Shows g.sh y b → AreNew g.since S a b → Whole
  whole s sy new = takes g calm 3337 S m x y 0 0 a b new.low new.high [] s sy (on_top b) (omega arith) new.young new.bound new.argument new.term

pub take_works : TakeWorks
take_works = record {
  takes = λ g S m x y a b s sy none new. by_end g S m x y a b none (whole g S m x y a b none s sy new);
  skips = λ p map f w memory typed output drawn x y c h some. skips p map f w memory typed output drawn x y c h some;
}
