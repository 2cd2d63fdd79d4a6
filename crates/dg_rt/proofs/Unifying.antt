-- The routine that unifies does so.
use Rattle.std.proofs.Common.{◌≡◌, ℕ, zero, suc, ◌+◌, ◌<◌, ◌≤◌, inl, inr, List, [], ◌∷◌, drop, length, refl, arith, ◌≢◌, sym, ap, ◌∙◌}
use Rattle.std.proofs.lemmas.Bool.{ne_eqb, cases_eq, cases_order}
use Rattle.z_model.specs.declared.end.Halt.TheVariants.{AtQuit}
use Rattle.z_lang.specs.Runs.{ActsRun as Runs, Returns, Stops, at_label}
use Rattle.dg_meaning.specs.Values.{Label, Value, Node, Values}
use Rattle.dg_meaning.specs.Substitutions.{Substitution, walk, resolved}
use Rattle.dg_meaning.specs.Unify.{same_spelling, same_label, as_many, Unified}
use Rattle.dg_meaning.specs.inside.Unify.{unify}
use Rattle.dg_rt.specs.Closings.{closing_most}
use Rattle.dg_rt.specs.declared.unify.TheConstants.{UNIFY_ACTS}
use Rattle.dg_rt.specs.Cells.{bit}
use Rattle.dg_rt.specs.Areas.{state}
use Rattle.dg_rt.specs.Shapes.{Cell, Shows, Filled, pair_in, closure_in, word_in}
use Rattle.dg_rt.specs.Moments.{Setting, Fits, Passes, Moment, in_state}
use Rattle.dg_rt.specs.Unifies.{closed, answers, is_full, Unifies, price, UnifyWorks}
use Rattle.dg_rt.specs.inside.Walks.{steps}
use Rattle.dg_rt.specs.inside.Depth.{Below, on_top}
use Rattle.dg_rt.proofs.Depth.{below_walk, parts_smaller, levels}
use Rattle.dg_rt.proofs.Ways.{simple_no_box, other_length, same_word, Kind, kind_variable, kind_simple, kind_box, kind}
use Rattle.dg_rt.proofs.UnifySteps.{ends_map, steps_are, behind_both, first_looked, second_looked}
use Rattle.dg_rt.proofs.Alone.{Meant, Below_it, Again, Done, two_same, second_younger, first_younger, two_simple, simple_box, box_simple, other_headers, same, first_to_simple, first_to_box, second_to_simple, second_to_box}
use Rattle.dg_rt.proofs.Together.{Inside, pairs, closures, words}
use Rattle.std.specs.Prelude.{◌==◌}
use Rattle.dg_meaning.proofs.Walks.{walked}

module _ (g : Setting) (f : ℕ) where
  module _ (S : Substitution) (m : Moment g S) (a b : Value) where
    -- ---- two boxes

    boxes : {k k' header header' : ℕ} {h h' : Label} {vs us : Values} (x y z : ℕ) (ks ls : List ℕ) → k ≢ k' → length ls ≡ length ks → 3335 ≤ f + length ks → Filled g.sh k header (Node h vs) → Filled g.sh k' header' (Node h' us) → Cell g.sh k header → Cell g.sh k' header' →
        Inside g.sh S ks k (Node h vs) vs → Inside g.sh S ls k' (Node h' us) us → walk S a ≡ Node h vs → walk S b ≡ Node h' us → Below_it g f (unify S a b).count → Again g f (unify S a b).count ks ls → Done g f S m a b (drop 5 UNIFY_ACTS) (49152 + k) (49152 + k') x y z
    boxes x y z ks ls apart same deep (pair_in {h = h} {t = t} k hd tl one two s q) (pair_in {h = h'} {t = t'} k' hd' tl' one' two' s' q') c c' inside inside' ea eb heads tails = pairs g f S m a b k k' x y z hd hd' tl tl' h t h' t' ks ls apart same deep c c' one one' two two' s s' q q' inside inside' ea eb heads tails (hd == hd') refl
    boxes x y z ks ls apart same deep (closure_in {vs = vs} k place small count few_captured one all) (closure_in {vs = us} k' place' small' count' few_captured' one' all') c c' inside inside' ea eb heads tails =
        elim (cases_eq place place') [
          | inl e ↦ closures g f S m a b k k' x y z place place' vs us ks ls apart same deep small e c c' one one' all all' inside inside' ea eb heads (as_many vs us) refl
          | inr ne ↦ other_headers g f S m a b k k' (1 + place) (1 + place') x y z apart inside.small inside'.small c c' (λ (e : 1 + place ≡ 1 + place'). ne (omega arith)) (rw (ea, eb, ne_eqb place place' ne) refl)
        ]
    boxes x y z ks ls apart same deep (word_in {letters = xs} k fine all) (word_in {letters = ys} k' fine' all') c c' inside inside' ea eb heads tails =
        elim (cases_eq (length xs) (length ys)) [
          | inl e ↦ words g f S m a b k k' x y z xs ys apart inside.small inside'.small e c c' all all' ea eb (same_spelling xs ys) refl
          | inr ne ↦ other_headers g f S m a b k k' (32768 + length xs) (32768 + length ys) x y z apart inside.small inside'.small c c' (λ (e : 32768 + length xs ≡ 32768 + length ys). ne (omega arith)) (rw (ea, eb, other_length xs ys ne) refl)
        ]
    boxes x y z ks ls apart same deep (pair_in k hd tl one two s q) (closure_in k' place' small' count' few_captured' one' all') c c' inside inside' ea eb heads tails = other_headers g f S m a b k k' 0 (1 + place') x y z apart inside.small inside'.small c c' (λ (e : 0 ≡ 1 + place'). (omega arith)) (rw (ea, eb) refl)
    boxes x y z ks ls apart same deep (pair_in k hd tl one two s q) (word_in {letters = ys} k' fine' all') c c' inside inside' ea eb heads tails = other_headers g f S m a b k k' 0 (32768 + length ys) x y z apart inside.small inside'.small c c' (λ (e : 0 ≡ 32768 + length ys). (omega arith)) (rw (ea, eb) refl)
    boxes x y z ks ls apart same deep (closure_in k place small count few_captured one all) (pair_in k' hd' tl' one' two' s' q') c c' inside inside' ea eb heads tails = other_headers g f S m a b k k' (1 + place) 0 x y z apart inside.small inside'.small c c' (λ (e : 1 + place ≡ 0). (omega arith)) (rw (ea, eb) refl)
    boxes x y z ks ls apart same deep (closure_in k place small count few_captured one all) (word_in {letters = ys} k' fine' all') c c' inside inside' ea eb heads tails = other_headers g f S m a b k k' (1 + place) (32768 + length ys) x y z apart inside.small inside'.small c c' (λ (e : 1 + place ≡ 32768 + length ys). (omega arith)) (rw (ea, eb) refl)
    boxes x y z ks ls apart same deep (word_in {letters = xs} k fine all) (pair_in k' hd' tl' one' two' s' q') c c' inside inside' ea eb heads tails = other_headers g f S m a b k k' (32768 + length xs) 0 x y z apart inside.small inside'.small c c' (λ (e : 32768 + length xs ≡ 0). (omega arith)) (rw (ea, eb) refl)
    boxes x y z ks ls apart same deep (word_in {letters = xs} k fine all) (closure_in k' place' small' count' few_captured' one' all') c c' inside inside' ea eb heads tails = other_headers g f S m a b k k' (32768 + length xs) (1 + place') x y z apart inside.small inside'.small c c' (λ (e : 32768 + length xs ≡ 1 + place'). (omega arith)) (rw (ea, eb) refl)

    -- ---- one level

    in_one_box : {k k' : ℕ} {v v' : Label} {vs us : Values} (x y z : ℕ) → k ≡ k' → Shows g.sh (49152 + k) (Node v vs) → Shows g.sh (49152 + k') (Node v' us) → walk S a ≡ Node v vs → walk S b ≡ Node v' us → Done g f S m a b (drop 5 UNIFY_ACTS) (49152 + k) (49152 + k') x y z
    in_one_box {k} {k'} {v} {v'} {vs} {us} x y z e s s' ea eb =
        let words : 49152 + k ≡ 49152 + k' = omega arith in
        let value : Node v vs ≡ Node v' us = same_word g.is s s' words in
        let one = (walked S m.at.stands.sound a).same in
        let two = (walked S m.at.stands.sound b).same in
        same g f S m a b (49152 + k) (49152 + k') x y z words (sym one ∙ ap (resolved S) (ea ∙ value ∙ sym eb) ∙ two)

    by_kind : {u w : ℕ} {v v' : Value} (x y z : ℕ) (ks ls : List ℕ) → 2 ≤ f → Kind g.sh u v → Kind g.sh w v' → Shows g.sh u v → Shows g.sh w v' → walk S a ≡ v → walk S b ≡ v' → Below g.sh S ks v → Below g.sh S ls v' → length ls ≡ length ks → 3336 ≤ suc f + length ks → Below_it g f (unify S a b).count → Again g f (unify S a b).count ks ls → Done g f S m a b (behind_both v v') u w x y z
    by_kind x y z ks ls two (kind_variable n old) (kind_variable i old') s s' ea eb below below' same deep heads tails =
        elim (cases_order n i) [
          | inl e ↦ two_same g f S m a b n i x y z old e ea eb
          | inr (inl lt) ↦ second_younger g f S m a b n i x y z two old old' lt ea eb
          | inr (inr gt) ↦ first_younger g f S m a b n i x y z two old old' gt ea eb
        ]
    by_kind x y z ks ls two (kind_variable n old) (kind_simple {u = w} {g = h'} q) s s' ea eb below below' same deep heads tails = first_to_simple g f S m a b n w x y z h' two old q s' ea eb
    by_kind x y z ks ls two (kind_variable n old) (kind_box {f = h'} {vs = us} k header lt box at inside) s s' ea eb below below' same deep heads tails = first_to_box g f S m a b n k x y z h' us ls two old (omega arith) s' below' (omega arith) ea eb
    by_kind x y z ks ls two (kind_simple {u = u} {g = h} q) (kind_variable n old) s s' ea eb below below' same deep heads tails = second_to_simple g f S m a b n u x y z h two old q s ea eb
    by_kind x y z ks ls two (kind_box {f = h} {vs = vs} k header lt box at inside) (kind_variable n old) s s' ea eb below below' same deep heads tails = second_to_box g f S m a b n k x y z h vs ks two old (omega arith) s below (omega arith) ea eb
    by_kind x y z ks ls two (kind_simple {u = u} {g = h} q) (kind_simple {u = w} {g = h'} q') s s' ea eb below below' same deep heads tails = two_simple g f S m a b u w x y z h h' q q' ea eb (same_label h h') refl
    by_kind x y z ks ls two (kind_simple {u = u} {g = h} q) (kind_box {f = h'} {vs = us} k header lt box at inside) s s' ea eb below below' same deep heads tails = simple_box g f S m a b u k x y z h h' us q (omega arith) (simple_no_box q inside).0 ea eb
    by_kind x y z ks ls two (kind_box {f = h} {vs = vs} k header lt box at inside) (kind_simple {u = w} {g = h'} q) s s' ea eb below below' same deep heads tails = box_simple g f S m a b k w x y z h h' vs q (omega arith) (simple_no_box q inside).1 ea eb
    by_kind x y z ks ls two (kind_box {f = h} {vs = vs} k header lt box at inside) (kind_box {f = h'} {vs = us} k' header' lt' box' at' inside') s s' ea eb below below' same deep heads tails =
        elim (cases_eq k k') [
          | inl e ↦ in_one_box x y z e s s' ea eb
          | inr ne ↦ boxes x y z ks ls ne same (omega arith) inside inside' at at' (record { small = lt; box = box; less = parts_smaller S h vs; below = below }) (record { small = lt'; box = box'; less = parts_smaller S h' us; below = below' }) ea eb heads tails
        ]

    level : (u w x y z : ℕ) (ks ls : List ℕ) → Shows g.sh u a → Shows g.sh w b → Below g.sh S ks a → Below g.sh S ls b → length ls ≡ length ks → 3336 ≤ suc f + length ks → Below_it g f (unify S a b).count → Again g f (unify S a b).count ks ls → Meant g f (drop 1 UNIFY_ACTS) m.memory (u ∷ w ∷ x ∷ y ∷ z ∷ []) 7 (price S ((a, b) ∷ [])) (unify S a b)
    level u w x y z ks ls s s' below below' same deep heads tails =
        let one = first_looked g (suc f) S m u w x y z a s in
        let two = second_looked g (suc f) S m (walk S a) one.word w one.third y z b s' in
        let l = levels g.is S below in
        let r = by_kind two.third y z ks ls (omega arith) (kind one.shows) (kind two.shows) one.shows two.shows refl refl (below_walk S m.at.stands.sound below) (below_walk S m.at.stands.sound below') same deep heads tails in
        let few_a = one.few in
        let few_b = two.few in
        ends_map (λ n. steps one.count (steps two.count n)) (λ n. let first = steps_are one.count (steps two.count n) in let second = steps_are two.count n in omega arith) (λ n o st q. one.runs o st (steps two.count n) (two.runs o st n q)) r

-- ---- all levels

labelled : {g : Setting} {f : ℕ} {memory locals : List ℕ} {spent most : ℕ} {u : Unified} → Unifies g f (drop 1 UNIFY_ACTS) memory locals spent most u → Unifies g f UNIFY_ACTS memory locals spent most u
labelled r = ends_map (λ n. n) (λ n. omega arith) (λ n o s q. at_label q) r

-- by the count of the meaning
unifies : (g : Setting) (limit f : ℕ) (S : Substitution) (m : Moment g S) (u w x y z : ℕ) (a b : Value) (ks ls : List ℕ) → Shows g.sh u a → Shows g.sh w b → Below g.sh S ks a → Below g.sh S ls b → length ls ≡ length ks → 3336 ≤ f + length ks → (unify S a b).count < limit → Unifies g f (drop 1 UNIFY_ACTS) m.memory (u ∷ w ∷ x ∷ y ∷ z ∷ []) 7 (price S ((a, b) ∷ [])) (unify S a b)
unifies g zero f S m u w x y z a b ks ls s s' below below' same deep lt = absurd (omega arith)
unifies g (suc limit) zero S m u w x y z a b ks ls s s' below below' same deep lt = let l = levels g.is S below in absurd (omega arith)
unifies g (suc limit) (suc f) S m u w x y z a b ks ls s s' below below' same deep lt =
    level g f S m a b u w x y z ks ls s s' below below' same deep
    (λ S' m' u' w' a' b' ks' ls' q q' inner inner' same' deep' less. labelled (unifies g limit f S' m' u' w' 0 0 0 a' b' ks' ls' q q' inner inner' same' deep' (omega arith)))
    (λ S' m' u' w' x' y' z' a' b' q q' inner inner' less. unifies g limit (suc f) S' m' u' w' x' y' z' a' b' ks ls q q' inner inner' same deep (omega arith))

-- The routine, called with two values.
pub unify_works : UnifyWorks
unify_works g S m x y a b s s' =
    ends_map (λ n. n) (λ n. omega arith) (λ n o st q. q) (labelled (unifies g (suc (unify S a b).count) 3336 S m x y 0 0 0 a b [] [] s s' (on_top a) (on_top b) refl (omega arith) (omega arith)))

-- ---- what comes of it where it is known whether the bindings fit

-- It answers, and what is meant is bound.
pub record Answers (g : Setting) (memory : List ℕ) (x y most : ℕ) (u : Unified) : Type 0 where
  pub m : Moment g u.subst
  pub locals' : List ℕ
  pub count : ℕ
  pub runs : Runs g.p 3336 16680 UNIFY_ACTS UNIFY_ACTS (in_state g memory (x ∷ y ∷ 0 ∷ 0 ∷ 0 ∷ [])) (Returns (bit u.agrees)) (in_state g m.memory locals') count
  pub few : count ≤ most

-- The trail's limit ends the run.
pub record Quits (g : Setting) (memory : List ℕ) (x y most : ℕ) : Type 0 where
  pub memory' : List ℕ
  pub locals' : List ℕ
  pub count : ℕ
  pub runs : Runs g.p 3336 16680 UNIFY_ACTS UNIFY_ACTS (in_state g memory (x ∷ y ∷ 0 ∷ 0 ∷ 0 ∷ [])) (Stops AtQuit) (state memory' locals' g.typed g.drawn (closed g)) count
  pub few : count ≤ most + closing_most

module _ (g : Setting) (S : Substitution) (m : Moment g S) (x y : ℕ) (a b : Value) (s : Shows g.sh x a) (s' : Shows g.sh y b) where
  abbrev Whole : Type 0
  Whole = Unifies g 3336 UNIFY_ACTS m.memory (x ∷ y ∷ 0 ∷ 0 ∷ 0 ∷ []) 0 (price S ((a, b) ∷ [])) (unify S a b)

  pub unify_answers : Fits g (unify S a b).subst → Answers g m.memory x y (price S ((a, b) ∷ [])) (unify S a b)
  unify_answers room = by_end (unify_works g S m x y a b s s')
    where
      by_end : Whole → Answers g m.memory x y (price S ((a, b) ∷ [])) (unify S a b)
      by_end (answers n m' locals few q) = record { m = m'; locals' = locals; count = n; runs = q; few = omega arith }
      by_end (is_full n memory locals over few q) = absurd (omega arith)

  pub unify_quits : Passes g (unify S a b).subst → Quits g m.memory x y (price S ((a, b) ∷ []))
  unify_quits over = by_end (unify_works g S m x y a b s s')
    where
      by_end : Whole → Quits g m.memory x y (price S ((a, b) ∷ []))
      by_end (answers n m' locals few q) = absurd (let room = m'.room in omega arith)
      by_end (is_full n memory locals over' few q) = record { memory' = memory; locals' = locals; count = n; runs = q; few = omega arith }
