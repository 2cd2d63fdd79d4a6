-- The test of containment answers what it means.
use Rattle.std.proofs.Common.{◌≡◌, ℕ, zero, suc, ◌+◌, ◌*◌, ◌<◌, ◌≤◌, inl, inr, Bool, true, false, List, ◌∷◌, drop, length, Some, refl, sym, ap, ◌∙◌, subst, arith, [], Option, None}
use Rattle.std.proofs.lemmas.Bool.{eq-eqb, ne_eqb, cases_eq}
use Rattle.z_lang.specs.declared.act.Act.{Act}
use Rattle.z_lang.specs.State.{State}
use Rattle.z_lang.specs.Runs.{ActsRun as Runs, ActsOutcome as Outcome, Returns, at_label, goes, taken, passed, done, returns, behind_label}
use Rattle.dg_meaning.specs.Values.{Label, Pair, Closure, Value, Var, Node, Values, NoMore, More, pair}
use Rattle.dg_meaning.specs.Substitutions.{walk, links, resolved}
use Rattle.dg_meaning.specs.Unify.{looked, size}
use Rattle.dg_meaning.proofs.LookUps.{walk_node, looks_up, walk_free, none_unbound}
use Rattle.dg_rt.specs.declared.unify.TheConstants.{OCCURS_ACTS}
use Rattle.dg_rt.specs.Cells.{at_cell, bit}
use Rattle.dg_rt.specs.Areas.{heap_at, state}
use Rattle.dg_rt.specs.Shapes.{Cell, Shows, number, dict, object, nil, boxed, Filled, pair_in, closure_in, word_in, variable}
use Rattle.dg_rt.specs.inside.Walks.{Occurs, steps}
use Rattle.dg_rt.specs.inside.Depth.{Below, under}
use Rattle.dg_rt.proofs.Following.{computes, copies}
use Rattle.dg_rt.proofs.Locals.{get_2, get_3, set_2, set_3}
use Rattle.dg_rt.proofs.Cells.{reads_cell}
use Rattle.dg_rt.proofs.Showing.{same_place, node_word, variable_word, letters_low, reference_value}
use Rattle.dg_rt.proofs.Depth.{below_smaller, below_walk, parts_smaller, levels}
use Rattle.dg_rt.proofs.Looks.{links_some}
use Rattle.dg_meaning.specs.inside.Unifiers.{binding_of}
use Rattle.dg_rt.proofs.OccursSteps.{LookingFor, enter, ref, now, look, look_all, look_variable, resolved_walked, look_node, less, test_same, variable_less, third_less, third_second, Enters, Goes, simple, unknown, Called, loops, closure, of_pair, head}
use Rattle.dg_rt.proofs.UnifySteps.{steps_are}
use Rattle.z_lang.specs.declared.act.Atom.TheVariants as atoms
use Rattle.z_lang.specs.declared.act.Function.TheVariants as functions

module _ (io : LookingFor) where
  open io use {p, has, sh, is, memory, typed, output, drawn, cells, h, S, st, n, old}

  -- ---- a variable is looked up

  -- where it goes on behind that: with an unbound variable, or with another value
  abbrev behind : Value → List Act
  behind (Var z) = drop 11 OCCURS_ACTS
  behind (Node g vs) = drop 16 OCCURS_ACTS

  -- acts lead there with the word of w, within 3 instructions a link and 2
  record Leads (acts : List Act) (b c d : ℕ) (w : Value) (l : ℕ) : Type 0 where
    word : ℕ
    shows : Shows sh word w
    third : ℕ
    count : ℕ
    runs : (f : ℕ) (o : Outcome) (s' : State) (m : ℕ) → Runs p f (4 * f) OCCURS_ACTS (behind w) (now io word third d) o s' m → Runs p f (4 * f) OCCURS_ACTS acts (now io b c d) o s' (steps count m)
    few : count ≤ 3 * l + 2

  abbrev cell_of : ℕ → ℕ
  cell_of y = cells (heap_at + sh.place y)

  abbrev ref_of : ℕ → ℕ
  ref_of y = 32768 + sh.place y

  loads : (y c d f : ℕ) → y < sh.vars → (o : Outcome) (s' : State) (m : ℕ) → Runs p f (4 * f) OCCURS_ACTS (drop 4 OCCURS_ACTS) (now io (ref_of y) (cell_of y) d) o s' m → Runs p f (4 * f) OCCURS_ACTS (drop 3 OCCURS_ACTS) (now io (ref_of y) c d) o s' (suc m)
  loads y c d f young o s' m rest =
      let room = has.mapped.room in
      let within = is.within y young in
      done (computes p (now io (ref_of y) c d) (now io (ref_of y) (cell_of y) d) 3 functions.Word (atoms.Num 670) (atoms.Var 2) (at_cell heap_at) (ref_of y) (cell_of y) refl (get_2 p memory (ref io) (ref_of y) c d typed drawn output) (reads_cell p.world.layout memory cells (at_cell heap_at) (ref_of y) (heap_at + sh.place y) h (omega arith) (omega arith)) (set_3 p memory (ref io) (ref_of y) c d (cell_of y) typed drawn output)) rest

  loads_back : (y b d f : ℕ) → y < sh.vars → (o : Outcome) (s' : State) (m : ℕ) → Runs p f (4 * f) OCCURS_ACTS (drop 7 OCCURS_ACTS) (now io (cell_of y) (ref_of y) d) o s' m → Runs p f (4 * f) OCCURS_ACTS (drop 6 OCCURS_ACTS) (now io b (ref_of y) d) o s' (suc m)
  loads_back y b d f young o s' m rest =
      let room = has.mapped.room in
      let within = is.within y young in
      done (computes p (now io b (ref_of y) d) (now io (cell_of y) (ref_of y) d) 2 functions.Word (atoms.Num 670) (atoms.Var 3) (at_cell heap_at) (ref_of y) (cell_of y) refl (get_3 p memory (ref io) b (ref_of y) d typed drawn output) (reads_cell p.world.layout memory cells (at_cell heap_at) (ref_of y) (heap_at + sh.place y) h (omega arith) (omega arith)) (set_2 p memory (ref io) b (ref_of y) d (cell_of y) typed drawn output)) rest

  free : (y c d : ℕ) → y < sh.vars → binding_of y S ≡ None → (l : ℕ) → Leads (drop 3 OCCURS_ACTS) (ref_of y) c d (Var y) l
  unfolding behind_label
  free y c d young e l = record {
    word = ref_of y;
    shows = variable y young;
    third = cell_of y;
    count = 2;
    runs = λ f o s' m r. loads y c d f young o s' (suc m) (taken (third_second io (ref_of y) (cell_of y) d true (eq-eqb (cell_of y) (ref_of y) (st.unbound y young e))) refl r);
    few = omega arith;
  }

  free_back : (y b d : ℕ) → y < sh.vars → binding_of y S ≡ None → (l : ℕ) → Leads (drop 6 OCCURS_ACTS) b (ref_of y) d (Var y) l
  unfolding behind_label
  free_back y b d young e l = record {
    word = cell_of y;
    shows = subst (λ (x : ℕ). Shows sh x (Var y)) (sym (st.unbound y young e)) (variable y young);
    third = ref_of y;
    count = 2;
    runs = λ f o s' m r. loads_back y b d f young o s' (suc m) (taken (third_second io (cell_of y) (ref_of y) d true (eq-eqb (ref_of y) (cell_of y) (sym (st.unbound y young e)))) refl r);
    few = omega arith;
  }

  other : (y : ℕ) (u : Value) → y < sh.vars → binding_of y S ≡ Some u → cell_of y ≡ ref_of y → ⊥
  other y u young e i =
      let up = looks_up S y u st.sound e in
      let links_up = up.links in
      let same = reference_value is y young (st.bound y u young e) i in
      let l = ap (links S) same in
      omega arith

  found : (y c d : ℕ) (g : Label) (vs : Values) → y < sh.vars → binding_of y S ≡ Some (Node g vs) → (l : ℕ) → Leads (drop 3 OCCURS_ACTS) (ref_of y) c d (Node g vs) (suc l)
  unfolding behind_label
  found y c d g vs young e l = record {
    word = cell_of y;
    shows = st.bound y (Node g vs) young e;
    third = cell_of y;
    count = 4;
    runs = λ f o s' m r. loads y c d f young o s' (suc (suc (suc m)))
        (passed (third_second io (ref_of y) (cell_of y) d false (ne_eqb (cell_of y) (ref_of y) (other y (Node g vs) young e)))
        (taken (third_less io (ref_of y) (cell_of y) d 49152 false false (node_word (st.bound y (Node g vs) young e))) refl
        (done (copies p (now io (ref_of y) (cell_of y) d) (now io (cell_of y) (cell_of y) d) 2 (atoms.Var 3) (cell_of y) (get_3 p memory (ref io) (ref_of y) (cell_of y) d typed drawn output) (set_2 p memory (ref io) (ref_of y) (cell_of y) d (cell_of y) typed drawn output)) (at_label r))));
    few = omega arith;
  }

  found_back : (y b d : ℕ) (g : Label) (vs : Values) → y < sh.vars → binding_of y S ≡ Some (Node g vs) → (l : ℕ) → Leads (drop 6 OCCURS_ACTS) b (ref_of y) d (Node g vs) (suc l)
  unfolding behind_label
  found_back y b d g vs young e l = record {
    word = cell_of y;
    shows = st.bound y (Node g vs) young e;
    third = ref_of y;
    count = 4;
    runs = λ f o s' m r. loads_back y b d f young o s' (suc (suc (suc m)))
        (passed (third_second io (cell_of y) (ref_of y) d false (ne_eqb (ref_of y) (cell_of y) (λ (i : ref_of y ≡ cell_of y). other y (Node g vs) young e (sym i))))
        (passed (less io (cell_of y) (ref_of y) d 49152 false true (node_word (st.bound y (Node g vs) young e))) (goes refl r)));
    few = omega arith;
  }

  link : (y c d z : ℕ) (w : Value) (l : ℕ) → y < sh.vars → binding_of y S ≡ Some (Var z) → Leads (drop 6 OCCURS_ACTS) (ref_of y) (cell_of y) d w l → Leads (drop 3 OCCURS_ACTS) (ref_of y) c d w (suc l)
  link y c d z w l young e rest =
      let few = rest.few in
      record {
        word = rest.word;
        shows = rest.shows;
        third = rest.third;
        count = suc (suc (suc rest.count));
        runs = λ f o s' m r. loads y c d f young o s' (suc (suc (steps rest.count m)))
            (passed (third_second io (ref_of y) (cell_of y) d false (ne_eqb (cell_of y) (ref_of y) (other y (Var z) young e)))
            (passed (third_less io (ref_of y) (cell_of y) d 49152 true false (variable_less io (st.bound y (Var z) young e))) (rest.runs f o s' m r)));
        few = omega arith;
      }

  link_back : (y b d z : ℕ) (w : Value) (l : ℕ) → y < sh.vars → binding_of y S ≡ Some (Var z) → Leads (drop 3 OCCURS_ACTS) (cell_of y) (ref_of y) d w l → Leads (drop 6 OCCURS_ACTS) b (ref_of y) d w (suc l)
  unfolding behind_label
  link_back y b d z w l young e rest =
      let few = rest.few in
      record {
        word = rest.word;
        shows = rest.shows;
        third = rest.third;
        count = suc (suc (suc rest.count));
        runs = λ f o s' m r. loads_back y b d f young o s' (suc (suc (steps rest.count m)))
            (passed (third_second io (cell_of y) (ref_of y) d false (ne_eqb (ref_of y) (cell_of y) (λ (i : ref_of y ≡ cell_of y). other y (Var z) young e (sym i))))
            (taken (less io (cell_of y) (ref_of y) d 49152 true true (variable_less io (st.bound y (Var z) young e))) refl (rest.runs f o s' m r)));
        few = omega arith;
      }

  abbrev First : ℕ → ℕ → ℕ → Type 0
  First y c d = Leads (drop 3 OCCURS_ACTS) (ref_of y) c d (walk S (Var y)) (links S (Var y))

  abbrev Second : ℕ → ℕ → ℕ → Type 0
  Second y b d = Leads (drop 6 OCCURS_ACTS) b (ref_of y) d (walk S (Var y)) (links S (Var y))

  by_binding : (y c d : ℕ) → y < sh.vars → (known : Option Value) → binding_of y S ≡ known → ((z : ℕ) → z < sh.vars → links S (Var z) < links S (Var y) → Second z (ref_of y) d) → First y c d
  by_binding y c d young None e next = rw (walk_free S y (none_unbound y S e)) (free y c d young e (links S (Var y)))
  by_binding y c d young (Some (Node g vs)) e next =
      let up = looks_up S y (Node g vs) st.sound e in
      rw (up.walk, walk_node S g vs, up.links) (found y c d g vs young e (links S (Node g vs)))
  by_binding y c d young (Some (Var z)) e next =
      let up = looks_up S y (Var z) st.sound e in
      let links_up = up.links in
      let v = variable_word (st.bound y (Var z) young e) in
      rw (up.walk, up.links) (link y c d z (walk S (Var z)) (links S (Var z)) young e (subst (λ (x : ℕ). Leads (drop 6 OCCURS_ACTS) (ref_of y) x d (walk S (Var z)) (links S (Var z))) (sym v.is) (next z v.old (omega arith))))

  by_binding_back : (y b d : ℕ) → y < sh.vars → (known : Option Value) → binding_of y S ≡ known → ((z : ℕ) → z < sh.vars → links S (Var z) < links S (Var y) → First z (ref_of y) d) → Second y b d
  by_binding_back y b d young None e next = rw (walk_free S y (none_unbound y S e)) (free_back y b d young e (links S (Var y)))
  by_binding_back y b d young (Some (Node g vs)) e next =
      let up = looks_up S y (Node g vs) st.sound e in
      rw (up.walk, walk_node S g vs, up.links) (found_back y b d g vs young e (links S (Node g vs)))
  by_binding_back y b d young (Some (Var z)) e next =
      let up = looks_up S y (Var z) st.sound e in
      let links_up = up.links in
      let v = variable_word (st.bound y (Var z) young e) in
      rw (up.walk, up.links) (link_back y b d z (walk S (Var z)) (links S (Var z)) young e (subst (λ (x : ℕ). Leads (drop 3 OCCURS_ACTS) x (ref_of y) d (walk S (Var z)) (links S (Var z))) (sym v.is) (next z v.old (omega arith))))

  -- for every variable, by its links
  both : (k d : ℕ) → ((y c : ℕ) → y < sh.vars → links S (Var y) < k → First y c d) × ((y b : ℕ) → y < sh.vars → links S (Var y) < k → Second y b d)
  both zero d = (λ y c young lt. absurd (omega arith), λ y b young lt. absurd (omega arith))
  both (suc k) d =
      let r = both k d in (
        λ y c young lt. by_binding y c d young (binding_of y S) refl (λ z old' less. r.1 z (ref_of y) old' (omega arith)),
        λ y b young lt. by_binding_back y b d young (binding_of y S) refl (λ z old' less. r.0 z (ref_of y) old' (omega arith)),
      )

  leads : (b c d y : ℕ) → Shows sh b (Var y) → Leads (drop 3 OCCURS_ACTS) b c d (walk S (Var y)) (links S (Var y))
  leads b c d y s =
      let v = variable_word s in
      subst (λ (x : ℕ). Leads (drop 3 OCCURS_ACTS) x c d (walk S (Var y)) (links S (Var y))) (sym v.is) ((both (suc (links S (Var y))) d).0 y c v.old (omega arith))

  -- ---- all together

  -- runs for parts, and for a tail
  abbrev Heads : ℕ → Value → Type 0
  Heads f w = (x : ℕ) (a : Value) (ks : List ℕ) → Shows sh x a → Below sh S ks a → 3334 ≤ f + length ks → size (resolved S a) < size (resolved S w) → Called io f x (look io a)

  abbrev Tails : ℕ → List ℕ → Value → Type 0
  Tails f ks w = (y c d : ℕ) (a : Value) → Shows sh y a → Below sh S ks a → size (resolved S a) < size (resolved S w) → Enters io f (enter a) y c d (look io a)

  node : {u : ℕ} (f c d : ℕ) (g : Label) (vs : Values) (ks : List ℕ) → Shows sh u (Node g vs) → Below sh S ks (Node g vs) → 3334 ≤ suc f + length ks → Heads f (Node g vs) → Tails (suc f) ks (Node g vs) → Goes io (suc f) u c d (look_all io vs)
  node f c d g vs ks (number m lt) below few heads tails = simple io (suc f) m c d (omega arith)
  node f c d g vs ks (dict m lt) below few heads tails = simple io (suc f) (16384 + m) c d (omega arith)
  node f c d g vs ks (object m lt) below few heads tails = simple io (suc f) (24576 + m) c d (omega arith)
  node f c d g vs ks nil below few heads tails = simple io (suc f) 28672 c d (omega arith)
  node f c d g vs ks (boxed k header lt at cell inside) below few heads tails = box f c d ks inside lt at cell below few heads tails
    where
      box : {k header : ℕ} {g : Label} {vs : Values} (f c d : ℕ) (ks : List ℕ) → Filled sh k header (Node g vs) → k + 2 < 10000 → sh.box k ≡ Some (Node g vs) → Cell sh k header → Below sh S ks (Node g vs) → 3334 ≤ suc f + length ks → Heads f (Node g vs) → Tails (suc f) ks (Node g vs) → Goes io (suc f) (49152 + k) c d (look_all io vs)
      box f c d ks (pair_in {h = a} {t = b} k x y one two sa sb) lt at cell below few heads tails =
          let smaller = parts_smaller S Pair (More a (More b NoMore)) in
          of_pair io f k c d x y a b lt cell one two sb
          (heads x a (k ∷ ks) sa (under ks a k (pair a b) lt at smaller.0 below) (omega arith) (smaller.0 []))
          (λ c'. tails y c' d b sb (below_smaller b smaller.1.0 below) (smaller.1.0 []))
          (head io sa)
      box f c d ks (closure_in {vs = vs} k place small told captured many all) lt at cell below few heads tails =
          closure io f k c d place vs lt small cell many all
          (loops io f k (1 + place) (k + 3) vs (Node (Closure place) vs) refl all (parts_smaller S (Closure place) vs) (λ x a sa smaller. heads x a (k ∷ ks) sa (under ks a k (Node (Closure place) vs) lt at smaller below) (omega arith) (smaller [])))
      box f c d ks (word_in {letters = xs} k fine all) lt at cell below few heads tails = let low = letters_low is (k + 3) xs (omega arith) all in unknown io (suc f) k c d (length xs) lt (omega arith) cell

  -- a value that isn't looked up
  unwalked : (f u c d : ℕ) (g : Label) (vs : Values) → Goes io f u c d (look_all io vs) → Enters io f (drop 16 OCCURS_ACTS) u c d (look io (Node g vs))
  unwalked f u c d g vs r =
      let tells = look_node io (Node g vs) g vs (walk_node S g vs) in
      let few = r.few in
      record { locals' = r.locals'; count = r.count; runs = rw tells r.runs; few = rw tells (omega arith) }

  -- a variable that is looked up: it ends with a variable
  unbound : (f b c d y z : ℕ) → walk S (Var y) ≡ Var z → Leads (drop 3 OCCURS_ACTS) b c d (Var z) (links S (Var y)) → Enters io f (drop 3 OCCURS_ACTS) b c d (look io (Var y))
  unfolding behind_label
  unbound f b c d y z e up =
      let v = variable_word up.shows in
      let few = up.few in
      let two = steps_are up.count 2 in
      let tells = look_variable io (Var y) z e in
      elim (cases_eq z n) [
        | inl same ↦
            let yes = eq-eqb z n same in
            record {
              locals' = (ref io) ∷ up.word ∷ up.third ∷ d ∷ [];
              count = steps up.count 2;
              runs = rw (tells, yes) (up.runs f (Returns 1) (now io up.word up.third d) 2 (taken (test_same io up.word up.third d true (eq-eqb up.word (ref io) (v.is ∙ ap (λ (i : ℕ). 32768 + sh.place i) same))) refl (returns refl)));
              few = rw tells (omega arith);
            }
        | inr ne ↦
            let none = ne_eqb z n ne in
            record {
              locals' = (ref io) ∷ up.word ∷ up.third ∷ d ∷ [];
              count = steps up.count 2;
              runs = rw (tells, none) (up.runs f (Returns 0) (now io up.word up.third d) 2 (passed (test_same io up.word up.third d false (ne_eqb up.word (ref io) (λ (i : up.word ≡ (ref io)). ne (same_place is z n v.old old (let k = v.is in omega arith))))) (returns refl)));
              few = rw tells (omega arith);
            }
      ]

  -- it ends with another value
  bound : (f b c d y : ℕ) (g : Label) (vs : Values) → walk S (Var y) ≡ Node g vs → (up : Leads (drop 3 OCCURS_ACTS) b c d (Node g vs) (links S (Var y))) → Goes io f up.word up.third d (look_all io vs) → Enters io f (drop 3 OCCURS_ACTS) b c d (look io (Var y))
  bound f b c d y g vs e up r =
      let some = links_some S st.sound y g vs e in
      let few = up.few in
      let few' = r.few in
      let all = steps_are up.count r.count in
      let tells = look_node io (Var y) g vs e in
      record {
        locals' = r.locals';
        count = steps up.count r.count;
        runs = rw tells (up.runs f (Returns (bit (look_all io vs).0)) (state memory r.locals' typed drawn output) r.count r.runs);
        few = rw tells (omega arith);
      }

  one_level : (f b c d : ℕ) (v : Value) (ks : List ℕ) → Shows sh b v → Below sh S ks v → 3334 ≤ suc f + length ks → Heads f v → Tails (suc f) ks v → Enters io (suc f) (enter v) b c d (look io v)
  one_level f b c d (Node g vs) ks s below few heads tails = unwalked (suc f) b c d g vs (node f c d g vs ks s below few heads tails)
  one_level f b c d (Var y) ks s below few heads tails = by_walk (walk S (Var y)) refl (leads b c d y s)
    where
      by_walk : (w : Value) → walk S (Var y) ≡ w → Leads (drop 3 OCCURS_ACTS) b c d w (links S (Var y)) → Enters io (suc f) (drop 3 OCCURS_ACTS) b c d (look io (Var y))
      by_walk (Var z) e up = unbound (suc f) b c d y z e up
      by_walk (Node g vs) e up =
          let whole : Below sh S ks (Node g vs) = subst (Below sh S ks) e (below_walk S st.sound below) in
          let same : size (resolved S (Var y)) ≡ size (resolved S (Node g vs)) = ap size (resolved_walked io (Var y) (Node g vs) e) in
          bound (suc f) b c d y g vs e up
          (node f up.third d g vs ks up.shows whole few (λ x a ks' sa ba few' less. heads x a ks' sa ba few' (omega arith)) (λ z c' d' a sa ba less. tails z c' d' a sa ba (omega arith)))

  -- the routine from its beginning
  begun : (f b c d : ℕ) (v : Value) (l : Bool × ℕ) → Shows sh b v → Enters io f (enter v) b c d l → Occurs p f OCCURS_ACTS memory typed output drawn (ref io) b c d l
  unfolding behind_label
  begun f b c d (Var y) l s r =
      let few = r.few in
      record { locals' = r.locals'; count = suc r.count; runs = at_label (passed (less io b c d 49152 true false (variable_less io s)) (at_label r.runs)); few = omega arith }
  begun f b c d (Node g vs) l s r =
      let few = r.few in
      record { locals' = r.locals'; count = suc r.count; runs = at_label (taken (less io b c d 49152 false false (node_word s)) refl r.runs); few = omega arith }

module _ (io : LookingFor) where
  open io use {p, sh, is, memory, typed, output, drawn, S, n}

  occurs : (most f b c d : ℕ) (v : Value) (ks : List ℕ) → Shows sh b v → Below sh S ks v → 3334 ≤ f + length ks → size (resolved S v) < most → Enters io f (enter v) b c d (look io v)
  occurs zero f b c d v ks s below few lt = absurd (omega arith)
  occurs (suc most) zero b c d v ks s below few lt = let l = levels is S below in absurd (omega arith)
  occurs (suc most) (suc f) b c d v ks s below few lt =
      one_level io f b c d v ks s below few
      (λ x a ks' sa below' few' less. begun io f x 0 0 a (look io a) sa (occurs most f x 0 0 a ks' sa below' few' (omega arith)))
      (λ y c' d' a sa below' less. occurs most (suc f) y c' d' a ks sa below' few (omega arith))

  -- called with the variable and a value
  pub occurs_works : (f b : ℕ) (v : Value) (ks : List ℕ) → Shows sh b v → Below sh S ks v → 3334 ≤ f + length ks → Occurs p f OCCURS_ACTS memory typed output drawn (32768 + sh.place n) b 0 0 (looked (resolved S v) S n v (walk S v))
  occurs_works f b v ks s below few =
      begun io f b 0 0 v (look io v) s (occurs (suc (size (resolved S v))) f b 0 0 v ks s below few (omega arith))
