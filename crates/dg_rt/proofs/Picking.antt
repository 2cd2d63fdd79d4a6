-- The routines that choose a branch do so.
use Rattle.std.proofs.Common.{◌≡◌, ◌≢◌, ℕ, suc, ◌+◌, ◌-◌, ◌%◌, ◌<◌, ◌≤◌, Bool, true, false, inl, inr, List, [], ◌∷◌, drop, Some, refl, sym, ap, ◌∙◌, subst, arith}
use Rattle.std.specs.Prelude.{min, nat_eq, nat_lt, if◌then◌else◌}
use Rattle.std.proofs.Math.Nat.{mod-add-mod}
use Rattle.std.proofs.lemmas.Bool.{cases_lt, lt-ltb, le-ltb, lt-leb, eq-eqb, ne_eqb, cond-true, cond-false}
use Rattle.dg_base.specs.declared.program.Mode.{Mode}
use Rattle.dg_base.specs.declared.program.Mode.TheVariants.{Stopping, Cycling, PurelyAtRandom, AtRandom, ThenAtRandom, ThenPurelyAtRandom}
use Rattle.dg_meaning.specs.Choosing.{Picks, picked, Choice, undrawn, drawn as drawn_one, other_at, choice_among}
use Rattle.z_model.specs.Run.{word_at, next_drawn}
use Rattle.z_lang.specs.declared.act.Act.{Act}
use Rattle.z_lang.specs.declared.act.Act.TheVariants as acts
use Rattle.z_lang.specs.declared.act.Atom.TheVariants as atoms
use Rattle.z_lang.specs.declared.act.Comparison.TheVariants as comparisons
use Rattle.z_lang.specs.declared.act.Function.TheVariants as functions
use Rattle.z_lang.specs.declared.act.Width.TheVariants as widths
use Rattle.z_lang.specs.State.{State, Program, value}
use Rattle.z_lang.specs.Acts.{answer_of, does}
use Rattle.z_lang.specs.Runs.{ActsRun as Runs, ActsOutcome as Outcome, Returns, at_label, done, taken, passed, goes, returns, behind_label}
use Rattle.dg_rt.specs.declared.picks.TheConstants.{PICK_STOPPING_ACTS, PICK_CYCLING_ACTS, PICK_PURELY_ACTS, PICK_AT_RANDOM_ACTS, PICK_THEN_AT_RANDOM_ACTS, PICK_THEN_PURELY_ACTS}
use Rattle.dg_rt.specs.Cells.{at_cell, compared, with_cell, replaced, Holds}
use Rattle.dg_rt.specs.Areas.{state}
use Rattle.dg_rt.specs.Picks.{site_word, SiteIn, pick_acts, drawn_more, Chooses, PicksWork}
use Rattle.dg_rt.proofs.Calculating.{draws}
use Rattle.dg_rt.proofs.CaptureSteps.{leaves}
use Rattle.dg_rt.proofs.Cells.{holds_with, reads_cell, writes_cell, other_cell, same_cell}
use Rattle.dg_rt.proofs.Following.{word, some_state, tested, computes, copies, writes}
use Rattle.dg_rt.proofs.Locals.{less_by, not_less_by, adds, subtracts, get_1, get_2, get_3, get_4, set_2, set_3, set_4}

-- ## Branches

-- the branch at a place among the others
pub other_below : (last place k : ℕ) → place + 1 < k → other_at last place < k
other_below last place k lt = elim (cases_lt place last) [
  | inl l ↦ rw (lt-ltb place last l) (omega arith)
  | inr g ↦ rw (le-ltb place last g) (omega arith)
]

module _ (p : Program) (f w : ℕ) (memory typed output : List ℕ) (a k : ℕ) (cells : ℕ → ℕ) (h : Holds p.world.layout memory cells) (within : at_cell (a + 1) ≤ p.world.layout.base) (two : 2 ≤ k) (small : k < 16384) where
  -- the dice, and locals 2 to 4
  abbrev at : ℕ → ℕ → ℕ → ℕ → State
  at d x y z = state memory (at_cell a ∷ x ∷ y ∷ z ∷ []) typed d output

  -- A branch is answered, and the site's word becomes x.
  record Picked (body more : List Act) (start : State) (d x branch most : ℕ) : Type 0 where
    memory' : List ℕ
    cells' : ℕ → ℕ
    holds : Holds p.world.layout memory' cells'
    is : cells' a ≡ x
    others : (j : ℕ) → j ≢ a → cells' j ≡ cells j
    locals' : List ℕ
    count : ℕ
    few : count ≤ most
    runs : Runs p f w body more start (Returns branch) (state memory' locals' typed d output) count

  -- one act more in front
  stepped : {body rest front : List Act} {s0 s1 : State} {d x branch most : ℕ} → Picked body rest s1 d x branch most → ((o : Outcome) (s' : State) (n : ℕ) → Runs p f w body rest s1 o s' n → Runs p f w body front s0 o s' (suc n)) → Picked body front s0 d x branch (suc most)
  stepped {branch = branch} e step =
      let few = e.few in
      record { memory' = e.memory'; cells' = e.cells'; holds = e.holds; is = e.is; others = e.others; locals' = e.locals'; count = suc e.count; few = omega arith; runs = step (Returns branch) _ e.count e.runs }

  -- in as many instructions and more
  wider : {body more : List Act} {s : State} {d x branch : ℕ} (most all : ℕ) → most ≤ all → Picked body more s d x branch most → Picked body more s d x branch all
  wider most all le e = let few = e.few in record { memory' = e.memory'; cells' = e.cells'; holds = e.holds; is = e.is; others = e.others; locals' = e.locals'; count = e.count; few = omega arith; runs = e.runs }

  -- a label in front
  labelled : {body rest : List Act} {l : ℕ} {s : State} {d x branch most : ℕ} → Picked body rest s d x branch most → Picked body (acts.Label l ∷ rest) s d x branch most
  labelled e = record { memory' = e.memory'; cells' = e.cells'; holds = e.holds; is = e.is; others = e.others; locals' = e.locals'; count = e.count; few = e.few; runs = at_label e.runs }

  -- a local, whatever memory is
  abbrev Local : ℕ → ℕ → ℕ → ℕ → ℕ → ℕ → Type 0
  Local v d x y z n = (m : List ℕ) → value p (state m (at_cell a ∷ x ∷ y ∷ z ∷ []) typed d output) (atoms.Var v) ≡ word n

  two_is : (d x y z : ℕ) → Local 2 d x y z x
  two_is d x y z m = get_2 p m (at_cell a) x y z typed d output

  three_is : (d x y z : ℕ) → Local 3 d x y z y
  three_is d x y z m = get_3 p m (at_cell a) x y z typed d output

  four_is : (d x y z : ℕ) → Local 4 d x y z z
  four_is d x y z m = get_4 p m (at_cell a) x y z typed d output

  -- a branch is answered, and the word stays
  answers : (body more : List Act) (v d x y z n : ℕ) → Local v d x y z n → Picked body (acts.Return (atoms.Var v) ∷ more) (at d x y z) d (cells a) n 1
  answers body more v d x y z n is = record { memory' = memory; cells' = cells; holds = h; is = refl; others = λ j ne. refl; locals' = at_cell a ∷ x ∷ y ∷ z ∷ []; count = 1; few = omega arith; runs = returns (is memory) }

  -- a word is kept, and a branch is answered
  keeps : (body more : List Act) (u v d x y z n b : ℕ) → Local u d x y z n → Local v d x y z b → n < 65536 →
      Picked body (acts.Write widths.Word (atoms.Var 1) (atoms.Num 0) (atoms.Var u) ∷ acts.Return (atoms.Var v) ∷ more) (at d x y z) d n b 2
  keeps body more u v d x y z n b kept is lt =
      let low = h.low in
      record {
        memory' = with_cell memory a n;
        cells' = replaced cells a n;
        holds = holds_with p.world.layout memory cells a n h (omega arith) lt;
        is = same_cell cells a n;
        others = λ j ne. other_cell cells a n j ne;
        locals' = at_cell a ∷ x ∷ y ∷ z ∷ [];
        count = 2;
        few = omega arith;
        runs = done (writes p (at d x y z) widths.Word (atoms.Var 1) (atoms.Num 0) (atoms.Var u) (at_cell a) 0 n (with_cell memory a n) (get_1 p memory (at_cell a) x y z typed d output) refl (kept memory) (writes_cell p.world.layout memory cells (at_cell a) 0 n a h (omega arith) (omega arith)))
            (returns (is (with_cell memory a n)));
      }

  -- what was kept is read
  abbrev kept : Act
  kept = acts.Compute 3 functions.Word (atoms.Var 1) (atoms.Num 0)

  reads : (d x y z : ℕ) → does p kept (at d x y z) ≡ some_state (at d x (cells a) z)
  reads d x y z =
      let low = h.low in
      computes p (at d x y z) (at d x (cells a) z) 3 functions.Word (atoms.Var 1) (atoms.Num 0) (at_cell a) 0 (cells a) (get_1 p memory (at_cell a) x y z typed d output) refl
      (reads_cell p.world.layout memory cells (at_cell a) 0 a h (omega arith) (omega arith)) (set_3 p memory (at_cell a) x y z (cells a) typed d output)

  -- a dice word is drawn into local 3 or 4
  draws_three : (v d x y z r : ℕ) → Local v d x y z r → 0 < r → r < 16384 → does p (acts.Random 3 (atoms.Var v)) (at d x y z) ≡ some_state (at (next_drawn p.world d) x (1 + word_at p.world d % r) z)
  draws_three v d x y z r is some few = draws p (at d x y z) (at d x (1 + word_at p.world d % r) z) 3 (atoms.Var v) r (is memory) some (omega arith) (set_3 p memory (at_cell a) x y z (1 + word_at p.world d % r) typed d output)

  draws_four : (v d x y z r : ℕ) → Local v d x y z r → 0 < r → r < 16384 → does p (acts.Random 4 (atoms.Var v)) (at d x y z) ≡ some_state (at (next_drawn p.world d) x y (1 + word_at p.world d % r))
  draws_four v d x y z r is some few = draws p (at d x y z) (at d x y (1 + word_at p.world d % r)) 4 (atoms.Var v) r (is memory) some (omega arith) (set_4 p memory (at_cell a) x y z (1 + word_at p.world d % r) typed d output)

  -- a local is less than another one
  less : (u v : ℕ) (answer : Bool) (d x y z m n : ℕ) (t : Bool) → Local u d x y z m → Local v d x y z n → compared comparisons.Less m n ≡ t → answer_of p (at d x y z) (record { comparison = comparisons.Less; first = atoms.Var u; second = atoms.Var v; answer = answer }) ≡ Some t
  less u v answer d x y z m n t first second e = tested p (at d x y z) comparisons.Less (atoms.Var u) (atoms.Var v) answer m n t (first memory) (second memory) e

  less_one : (d y z : ℕ) → does p (acts.Compute 2 functions.Sub (atoms.Var 2) (atoms.Num 1)) (at d k y z) ≡ some_state (at d (k - 1) y z)
  less_one d y z = computes p (at d k y z) (at d (k - 1) y z) 2 functions.Sub (atoms.Var 2) (atoms.Num 1) k 1 (k - 1) (two_is d k y z memory) refl (subtracts p memory k 1 (k - 1) (omega arith) (omega arith)) (set_2 p memory (at_cell a) k y z (k - 1) typed d output)

  -- one more than local 3 is put into local 4
  one_more : (d x y z : ℕ) → y < 16384 → does p (acts.Compute 4 functions.Add (atoms.Var 3) (atoms.Num 1)) (at d x y z) ≡ some_state (at d x y (y + 1))
  one_more d x y z lt = computes p (at d x y z) (at d x y (y + 1)) 4 functions.Add (atoms.Var 3) (atoms.Num 1) y 1 (y + 1) (three_is d x y z memory) refl (adds p memory y 1 (y + 1) refl (omega arith)) (set_4 p memory (at_cell a) x y z (y + 1) typed d output)

  back_one_three : (d x y z : ℕ) → y < 16384 → does p (acts.Compute 3 functions.Sub (atoms.Var 3) (atoms.Num 1)) (at d x (1 + y) z) ≡ some_state (at d x y z)
  back_one_three d x y z lt = computes p (at d x (1 + y) z) (at d x y z) 3 functions.Sub (atoms.Var 3) (atoms.Num 1) (1 + y) 1 y (three_is d x (1 + y) z memory) refl (subtracts p memory (1 + y) 1 y refl (omega arith)) (set_3 p memory (at_cell a) x (1 + y) z y typed d output)

  -- ## One mode after another

  module _ (d : ℕ) (picks : Picks) where
    abbrev c : ℕ
    c = picks.count

    abbrev die : ℕ
    die = word_at p.world d

    abbrev d' : ℕ
    d' = next_drawn p.world d

    -- What a mode's routine does by its choice.
    abbrev By : Mode → Choice → Type 0
    By mode choice = Chooses p f w mode memory typed output d a k cells picks choice

    chosen : (mode : Mode) (choice : Choice) (x most : ℕ) → most ≤ 12 → choice.branch < k → x ≡ site_word mode k (picked choice.branch picks) → Picked (pick_acts mode) (pick_acts mode) (at d k 0 0) (drawn_more p d choice.drawn) x choice.branch most → By mode choice
    chosen mode choice x most le below is e =
        let few = e.few in
        record { memory' = e.memory'; cells' = e.cells'; holds = e.holds; site = record { last = below; is = e.is ∙ is }; others = e.others; locals' = e.locals'; count = e.count; few = omega arith; runs = e.runs }

    -- behind a pick at random the branch is kept
    kept_last : (b : ℕ) → 1 + b ≡ site_word AtRandom k (picked b picks)
    kept_last b = sym (cond-false (nat_eq (c + 1) 0) 0 (1 + b) (ne_eqb (c + 1) 0 (λ (e : c + 1 ≡ 0). (omega arith))))

    -- ---- stopping

    stopping_last : (y : ℕ) → cells a ≡ y → y ≡ k - 1 → Picked PICK_STOPPING_ACTS PICK_STOPPING_ACTS (at d k 0 0) d y y 4
    unfolding behind_label
    stopping_last y e is =
        let r = answers PICK_STOPPING_ACTS (drop 4 PICK_STOPPING_ACTS) 3 d (k - 1) (cells a) 0 (cells a) (three_is d (k - 1) (cells a) 0) in
        subst (λ (n : ℕ). Picked PICK_STOPPING_ACTS PICK_STOPPING_ACTS (at d k 0 0) d n n 4) e
        (stepped (stepped (stepped r
        (λ o s' n go. passed (less 3 2 true d (k - 1) (cells a) 0 (cells a) (k - 1) false (three_is d (k - 1) (cells a) 0) (two_is d (k - 1) (cells a) 0) (not_less_by (cells a) (k - 1) (omega arith) (omega arith) (omega arith))) go))
        (λ o s' n go. done (less_one d (cells a) 0) go))
        (λ o s' n go. done (reads d k 0 0) go))

    stopping_next : (y : ℕ) → cells a ≡ y → y < k - 1 → Picked PICK_STOPPING_ACTS PICK_STOPPING_ACTS (at d k 0 0) d (y + 1) y 6
    unfolding behind_label
    stopping_next y e lt =
        let r = keeps PICK_STOPPING_ACTS [] 4 3 d (k - 1) (cells a) (cells a + 1) (cells a + 1) (cells a) (four_is d (k - 1) (cells a) (cells a + 1)) (three_is d (k - 1) (cells a) (cells a + 1)) (omega arith) in
        subst (λ (n : ℕ). Picked PICK_STOPPING_ACTS PICK_STOPPING_ACTS (at d k 0 0) d (n + 1) n 6) e
        (stepped (stepped (stepped (stepped r
        (λ o s' n go. done (one_more d (k - 1) (cells a) 0 (omega arith)) go))
        (λ o s' n go. taken (less 3 2 true d (k - 1) (cells a) 0 (cells a) (k - 1) true (three_is d (k - 1) (cells a) 0) (two_is d (k - 1) (cells a) 0) (less_by (cells a) (k - 1) (omega arith) (omega arith) (omega arith))) refl go))
        (λ o s' n go. done (less_one d (cells a) 0) go))
        (λ o s' n go. done (reads d k 0 0) go))

    stopping : cells a ≡ min c (k - 1) → By Stopping (choice_among Stopping k picks die)
    stopping is =
        let y = min c (k - 1) in
        elim (cases_lt y (k - 1)) [
          | inl lt ↦ chosen Stopping (undrawn y) (y + 1) 6 (omega arith) (omega arith) (omega arith) (stopping_next y is lt)
          | inr ge ↦ chosen Stopping (undrawn y) y 4 (omega arith) (omega arith) (omega arith) (stopping_last y is (omega arith))
        ]

    -- ---- cycling

    cycling : cells a ≡ c % k → By Cycling (choice_among Cycling k picks die)
    cycling is =
        let y = cells a in
        let few : y < k = omega (arith, is) in
        let z = (y + 1) % k in
        let next : z ≡ (c + 1) % k = ap (λ (n : ℕ). (n + 1) % k) is ∙ mod-add-mod c k 1 in
        let r = keeps PICK_CYCLING_ACTS [] 4 3 d k y z z y (four_is d k y z) (three_is d k y z) (omega arith) in
        subst (λ (n : ℕ). By Cycling (undrawn n)) is
        (chosen Cycling (undrawn y) z 5 (omega arith) (omega arith) next
        (stepped (stepped (stepped r
        (λ o s' n go. done (computes p (at d k y (y + 1)) (at d k y z) 4 functions.Mod (atoms.Var 4) (atoms.Var 2) (y + 1) k z (four_is d k y (y + 1) memory) (two_is d k y (y + 1) memory) (leaves p memory (y + 1) k (omega arith) (omega arith) (omega arith)) (set_4 p memory (at_cell a) k y (y + 1) z typed d output)) go))
        (λ o s' n go. done (one_more d k y 0 (omega arith)) go))
        (λ o s' n go. done (reads d k 0 0) go)))

    -- ---- any

    -- a branch that is drawn
    abbrev any : ℕ
    any = die % k

    purely : cells a ≡ 0 → By PurelyAtRandom (choice_among PurelyAtRandom k picks die)
    purely is =
        let few : any < k = omega arith in
        chosen PurelyAtRandom (drawn_one any) (cells a) 3 (omega arith) few is
        (stepped (stepped (answers PICK_PURELY_ACTS [] 3 d' k any 0 any (three_is d' k any 0))
        (λ o s' n go. done (back_one_three d' k any 0 (omega arith)) go))
        (λ o s' n go. done (draws_three 2 d k 0 0 k (two_is d k 0 0) (omega arith) small) go))

    -- ---- any other than the last

    abbrev place : ℕ
    place = die % (k - 1)

    abbrev other : ℕ
    other = other_at picks.last place

    -- one more than the branch is in local 4, and is kept
    kept_four : (d1 y b : ℕ) → b < k → Picked PICK_AT_RANDOM_ACTS (drop 10 PICK_AT_RANDOM_ACTS) (at d1 k y (1 + b)) d1 (1 + b) b 3
    kept_four d1 y b lt =
        stepped (keeps PICK_AT_RANDOM_ACTS [] 4 3 d1 k b (1 + b) (1 + b) b (four_is d1 k b (1 + b)) (three_is d1 k b (1 + b)) (omega arith))
        (λ o s' n go. done (computes p (at d1 k y (1 + b)) (at d1 k b (1 + b)) 3 functions.Sub (atoms.Var 4) (atoms.Num 1) (1 + b) 1 b (four_is d1 k y (1 + b) memory) refl (subtracts p memory (1 + b) 1 b refl (omega arith)) (set_3 p memory (at_cell a) k y (1 + b) b typed d1 output)) go)

    -- local 3 is 0
    is_none : (x y : ℕ) (t : Bool) → compared comparisons.Equal y 0 ≡ t → answer_of p (at d x y 0) (record { comparison = comparisons.Equal; first = atoms.Var 3; second = atoms.Num 0; answer = false }) ≡ Some t
    is_none x y t e = tested p (at d x y 0) comparisons.Equal (atoms.Var 3) (atoms.Num 0) false y 0 t (three_is d x y 0 memory) refl e

    -- one place fewer than there are branches
    less_four : (y z : ℕ) → does p (acts.Compute 4 functions.Sub (atoms.Var 2) (atoms.Num 1)) (at d k y z) ≡ some_state (at d k y (k - 1))
    less_four y z = computes p (at d k y z) (at d k y (k - 1)) 4 functions.Sub (atoms.Var 2) (atoms.Num 1) k 1 (k - 1) (two_is d k y z memory) refl (subtracts p memory k 1 (k - 1) (omega arith) (omega arith)) (set_4 p memory (at_cell a) k y z (k - 1) typed d output)

    at_first : cells a ≡ 0 → Picked PICK_AT_RANDOM_ACTS PICK_AT_RANDOM_ACTS (at d k 0 0) d' (1 + any) any 7
    unfolding behind_label
    at_first e =
        stepped (stepped (stepped (stepped (kept_four d' (cells a) any (omega arith))
        (λ o s' n go. goes refl go))
        (λ o s' n go. done (draws_four 2 d k (cells a) 0 k (two_is d k (cells a) 0) (omega arith) small) go))
        (λ o s' n go. passed (is_none k (cells a) true (eq-eqb (cells a) 0 e)) go))
        (λ o s' n go. done (reads d k 0 0) go)

    -- behind the dice word
    at_place : (last : ℕ) → last < k → cells a ≡ 1 + last → Picked PICK_AT_RANDOM_ACTS (drop 7 PICK_AT_RANDOM_ACTS) (at d' k (cells a) (1 + place)) d' (1 + other_at last place) (other_at last place) 5
    unfolding behind_label
    at_place last lt e =
        let few : place < k - 1 = omega arith in
        let y = cells a in
        elim (cases_lt place last) [
          | inl l ↦ rw (lt-ltb place last l) (wider 4 5 (omega arith) (stepped (kept_four d' y place (omega arith))
              (λ o s' n go. taken (less 4 3 true d' k y (1 + place) (1 + place) y true (four_is d' k y (1 + place)) (three_is d' k y (1 + place)) (less_by (1 + place) y (omega arith) (omega arith) (omega arith))) refl go)))
          | inr g ↦ rw (le-ltb place last g) (stepped (stepped (labelled (kept_four d' y (place + 1) (omega arith)))
              (λ o s' n go. done (computes p (at d' k y (1 + place)) (at d' k y (1 + (place + 1))) 4 functions.Add (atoms.Var 4) (atoms.Num 1) (1 + place) 1 (1 + (place + 1)) (four_is d' k y (1 + place) memory) refl (adds p memory (1 + place) 1 (1 + (place + 1)) (omega arith) (omega arith)) (set_4 p memory (at_cell a) k y (1 + place) (1 + (place + 1)) typed d' output)) go))
              (λ o s' n go. passed (less 4 3 true d' k y (1 + place) (1 + place) y false (four_is d' k y (1 + place)) (three_is d' k y (1 + place)) (not_less_by (1 + place) y (omega arith) (omega arith) (omega arith))) go))
        ]

    at_other : (last : ℕ) → last < k → cells a ≡ 1 + last → Picked PICK_AT_RANDOM_ACTS PICK_AT_RANDOM_ACTS (at d k 0 0) d' (1 + other_at last place) (other_at last place) 9
    unfolding behind_label
    at_other last lt e =
        stepped (stepped (stepped (stepped (at_place last lt e)
        (λ o s' n go. done (draws_four 4 d k (cells a) (k - 1) (k - 1) (four_is d k (cells a) (k - 1)) (omega arith) (omega arith)) go))
        (λ o s' n go. done (less_four (cells a) 0) go))
        (λ o s' n go. taken (is_none k (cells a) false (ne_eqb (cells a) 0 (λ (q : cells a ≡ 0). (omega arith)))) refl go))
        (λ o s' n go. done (reads d k 0 0) go)

    at_random : (t : Bool) → picks.last < k → cells a ≡ (if t then 0 else 1 + picks.last) → By AtRandom (drawn_one (if t then any else other))
    at_random true lt is =
        chosen AtRandom (drawn_one any) (1 + any) 7 (omega arith) (omega arith) (kept_last any) (at_first is)
    at_random false lt is =
        chosen AtRandom (drawn_one other) (1 + other) 9 (omega arith) (other_below picks.last place k (omega arith)) (kept_last other) (at_other picks.last lt is)

    -- ---- one after another, and then any other than the last

    then_kept : (d1 n b : ℕ) → n < 65536 → Picked PICK_THEN_AT_RANDOM_ACTS (drop 15 PICK_THEN_AT_RANDOM_ACTS) (at d1 k n b) d1 n b 2
    then_kept d1 n b lt = keeps PICK_THEN_AT_RANDOM_ACTS [] 3 4 d1 k n b n b (three_is d1 k n b) (four_is d1 k n b) lt

    then_both : (d1 y b : ℕ) → b < k → Picked PICK_THEN_AT_RANDOM_ACTS (drop 13 PICK_THEN_AT_RANDOM_ACTS) (at d1 k y b) d1 (k + b) b 3
    then_both d1 y b lt =
        stepped (labelled (then_kept d1 (k + b) b (omega arith)))
        (λ o s' n go. done (computes p (at d1 k y b) (at d1 k (k + b) b) 3 functions.Add (atoms.Var 4) (atoms.Var 2) b k (k + b) (four_is d1 k y b memory) (two_is d1 k y b memory) (adds p memory b k (k + b) (omega arith) (omega arith)) (set_3 p memory (at_cell a) k y b (k + b) typed d1 output)) go)

    -- behind the count
    then_counted : (y : ℕ) → y < k → Picked PICK_THEN_AT_RANDOM_ACTS (drop 4 PICK_THEN_AT_RANDOM_ACTS) (at d k (y + 1) y) d (if nat_lt (y + 1) k then y + 1 else k + y) y 5
    unfolding behind_label
    then_counted y lt = elim (cases_lt (y + 1) k) [
      | inl l ↦ rw (lt-ltb (y + 1) k l) (wider 3 5 (omega arith) (stepped (then_kept d (y + 1) y (omega arith))
          (λ o s' n go. taken (less 3 2 true d k (y + 1) y (y + 1) k true (three_is d k (y + 1) y) (two_is d k (y + 1) y) (less_by (y + 1) k (omega arith) (omega arith) l)) refl go)))
      | inr g ↦ rw (le-ltb (y + 1) k g) (stepped (stepped (then_both d (y + 1) y lt)
          (λ o s' n go. goes refl go))
          (λ o s' n go. passed (less 3 2 true d k (y + 1) y (y + 1) k false (three_is d k (y + 1) y) (two_is d k (y + 1) y) (not_less_by (y + 1) k (omega arith) (omega arith) g)) go))
    ]

    then_next : (y : ℕ) → cells a ≡ y → y < k → Picked PICK_THEN_AT_RANDOM_ACTS PICK_THEN_AT_RANDOM_ACTS (at d k 0 0) d (if nat_lt (y + 1) k then y + 1 else k + y) y 9
    unfolding behind_label
    then_next y e lt =
        let x = cells a in
        subst (λ (n : ℕ). Picked PICK_THEN_AT_RANDOM_ACTS PICK_THEN_AT_RANDOM_ACTS (at d k 0 0) d (if nat_lt (n + 1) k then n + 1 else k + n) n 9) e
        (stepped (stepped (stepped (stepped (then_counted x (omega arith))
        (λ o s' n go. done (computes p (at d k x x) (at d k (x + 1) x) 3 functions.Add (atoms.Var 3) (atoms.Num 1) x 1 (x + 1) (three_is d k x x memory) refl (adds p memory x 1 (x + 1) refl (omega arith)) (set_3 p memory (at_cell a) k x x (x + 1) typed d output)) go))
        (λ o s' n go. done (copies p (at d k x 0) (at d k x x) 4 (atoms.Var 3) x (three_is d k x 0 memory) (set_4 p memory (at_cell a) k x 0 x typed d output)) go))
        (λ o s' n go. passed (less 3 2 false d k x 0 x k true (three_is d k x 0) (two_is d k x 0) (less_by x k (omega arith) (omega arith) (omega arith))) go))
        (λ o s' n go. done (reads d k 0 0) go))

    -- behind the dice word
    then_place : (last : ℕ) → last < k → Picked PICK_THEN_AT_RANDOM_ACTS (drop 10 PICK_THEN_AT_RANDOM_ACTS) (at d' k last (1 + place)) d' (k + other_at last place) (other_at last place) 5
    unfolding behind_label
    then_place last lt =
        let few : place < k - 1 = omega arith in
        let up : 1 + place ≡ place + 1 = omega arith in
        elim (cases_lt place last) [
          | inl l ↦ rw (lt-ltb place last l) (stepped (stepped (labelled (then_both d' last place (omega arith)))
              (λ o s' n go. done (computes p (at d' k last (1 + place)) (at d' k last place) 4 functions.Sub (atoms.Var 4) (atoms.Num 1) (1 + place) 1 place (four_is d' k last (1 + place) memory) refl (subtracts p memory (1 + place) 1 place refl (omega arith)) (set_4 p memory (at_cell a) k last (1 + place) place typed d' output)) go))
              (λ o s' n go. passed (less 3 4 true d' k last (1 + place) last (1 + place) false (three_is d' k last (1 + place)) (four_is d' k last (1 + place)) (not_less_by last (1 + place) (omega arith) (omega arith) (omega arith))) go))
          | inr g ↦ rw (le-ltb place last g) (subst (λ (n : ℕ). Picked PICK_THEN_AT_RANDOM_ACTS (drop 10 PICK_THEN_AT_RANDOM_ACTS) (at d' k last (1 + place)) d' (k + n) n 5) up
              (wider 4 5 (omega arith) (stepped (then_both d' last (1 + place) (omega arith))
              (λ o s' n go. taken (less 3 4 true d' k last (1 + place) last (1 + place) true (three_is d' k last (1 + place)) (four_is d' k last (1 + place)) (less_by last (1 + place) (omega arith) (omega arith) (omega arith))) refl go))))
        ]

    then_other : (last : ℕ) → last < k → cells a ≡ k + last → Picked PICK_THEN_AT_RANDOM_ACTS PICK_THEN_AT_RANDOM_ACTS (at d k 0 0) d' (k + other_at last place) (other_at last place) 10
    unfolding behind_label
    then_other last lt e =
        let x = cells a in
        stepped (stepped (stepped (stepped (stepped (then_place last lt)
        (λ o s' n go. done (draws_four 4 d k last (k - 1) (k - 1) (four_is d k last (k - 1)) (omega arith) (omega arith)) go))
        (λ o s' n go. done (less_four last 0) go))
        (λ o s' n go. done (computes p (at d k x 0) (at d k last 0) 3 functions.Sub (atoms.Var 3) (atoms.Var 2) x k last (three_is d k x 0 memory) (two_is d k x 0 memory) (subtracts p memory x k last e (omega arith)) (set_3 p memory (at_cell a) k x 0 last typed d output)) go))
        (λ o s' n go. taken (less 3 2 false d k x 0 x k false (three_is d k x 0) (two_is d k x 0) (not_less_by x k (omega arith) (omega arith) (omega arith))) refl go))
        (λ o s' n go. done (reads d k 0 0) go)

    then_at_random : picks.last < k → cells a ≡ (if nat_lt c k then c else k + picks.last) → By ThenAtRandom (choice_among ThenAtRandom k picks die)
    then_at_random lt is = elim (cases_lt c k) [
      | inl l ↦ rw (lt-ltb c k l) (chosen ThenAtRandom (undrawn c) (if nat_lt (c + 1) k then c + 1 else k + c) 9 (omega arith) l refl (then_next c (is ∙ cond-true (nat_lt c k) c (k + picks.last) (lt-ltb c k l)) l))
      | inr g ↦ rw (le-ltb c k g) (chosen ThenAtRandom (drawn_one other) (k + other) 10 (omega arith) (other_below picks.last place k (omega arith))
          (sym (cond-false (nat_lt (c + 1) k) (c + 1) (k + other) (le-ltb (c + 1) k (omega arith))))
          (then_other picks.last lt (is ∙ cond-false (nat_lt c k) c (k + picks.last) (le-ltb c k g))))
    ]

    -- ---- one after another, and then any

    then_first : cells a < k → Picked PICK_THEN_PURELY_ACTS PICK_THEN_PURELY_ACTS (at d k 0 0) d (cells a + 1) (cells a) 5
    then_first lt =
        let x = cells a in
        stepped (stepped (stepped (keeps PICK_THEN_PURELY_ACTS (drop 5 PICK_THEN_PURELY_ACTS) 4 3 d k x (x + 1) (x + 1) x (four_is d k x (x + 1)) (three_is d k x (x + 1)) (omega arith))
        (λ o s' n go. done (one_more d k x 0 (omega arith)) go))
        (λ o s' n go. passed (less 3 2 false d k x 0 x k true (three_is d k x 0) (two_is d k x 0) (less_by x k (omega arith) (omega arith) lt)) go))
        (λ o s' n go. done (reads d k 0 0) go)

    then_any : cells a ≡ k → Picked PICK_THEN_PURELY_ACTS PICK_THEN_PURELY_ACTS (at d k 0 0) d' (cells a) any 5
    unfolding behind_label
    then_any e =
        let x = cells a in
        stepped (stepped (stepped (stepped (answers PICK_THEN_PURELY_ACTS [] 3 d' k any 0 any (three_is d' k any 0))
        (λ o s' n go. done (back_one_three d' k any 0 (omega arith)) go))
        (λ o s' n go. done (draws_three 2 d k x 0 k (two_is d k x 0) (omega arith) small) go))
        (λ o s' n go. taken (less 3 2 false d k x 0 x k false (three_is d k x 0) (two_is d k x 0) (not_less_by x k (omega arith) (omega arith) (omega arith))) refl go))
        (λ o s' n go. done (reads d k 0 0) go)

    then_purely : cells a ≡ min c k → By ThenPurelyAtRandom (choice_among ThenPurelyAtRandom k picks die)
    then_purely is = elim (cases_lt c k) [
      | inl l ↦
          let here : cells a ≡ c = omega arith in
          rw (lt-ltb c k l) (subst (λ (n : ℕ). By ThenPurelyAtRandom (undrawn n)) here (chosen ThenPurelyAtRandom (undrawn (cells a)) (cells a + 1) 5 (omega arith) (omega arith) (omega arith) (then_first (omega arith))))
      | inr g ↦ rw (le-ltb c k g) (chosen ThenPurelyAtRandom (drawn_one any) (cells a) 5 (omega arith) (omega arith) (omega arith) (then_any (omega arith)))
    ]

    by_mode : (mode : Mode) → SiteIn mode k picks (cells a) → By mode (choice_among mode k picks die)
    by_mode Stopping s = stopping s.is
    by_mode Cycling s = cycling s.is
    by_mode PurelyAtRandom s = purely s.is
    by_mode AtRandom s = at_random (nat_eq c 0) s.last s.is
    by_mode ThenAtRandom s = then_at_random s.last s.is
    by_mode ThenPurelyAtRandom s = then_purely s.is

pub picks_work : PicksWork
picks_work mode p f w memory typed output drawn a k cells picks h within two small site =
    rw (lt-leb k 1 two) (by_mode p f w memory typed output a k cells h within two small drawn picks mode site)
