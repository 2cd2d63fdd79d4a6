-- What undoing gives back of an older choice is given back from what it gives of a newer stoppable part.
use Rattle.std.proofs.Common.{◌≡◌, ◌≢◌, ℕ, suc, ◌+◌, ◌<◌, ◌≤◌, inl, inr, List, [], ◌∷◌, length, Some, refl, sym, ap, ◌∙◌, subst, arith}
use Rattle.std.proofs.lemmas.Bool.{cases_lt}
use Rattle.dg_mid.specs.State.{Choice}
use Rattle.dg_rt.proofs.Backs.{back_between}
use Rattle.dg_rt.specs.Back.{Saved, Grown, GivesBack}
use Rattle.dg_rt.specs.Shapes.{Shape, IsShape, IsFixed, Cell}
use Rattle.dg_turn.proofs.Resting.{length_open, open_in}
use Rattle.dg_turn.specs.Lies.{CellsAre, BoxesStay, StopsIn, EndsBefore, ChoicesIn}
use Rattle.dg_turn.specs.Rest.{newest, open_to}
use Rattle.dg_turn.specs.Told.{Telling}

-- ## Cells of a shape that has grown

fixed_back : {w sh : Shape} → Grown w sh → (k : ℕ) → k < w.top → IsFixed sh k → IsFixed w k
fixed_back g k lt f = (lt, λ n low e. f.1 n (let v = g.vars in omega arith) (g.places n low ∙ e))

cell_back : {w sh : Shape} → Grown w sh → (k x : ℕ) → k < w.top → Cell sh k x → Cell w k x
cell_back g k x lt c = let f = fixed_back g k lt c.fixed in record { fixed = f; is = sym (g.fixed k f) ∙ c.is }

cells_back : {w sh : Shape} → Grown w sh → (k : ℕ) (xs : List ℕ) → k + length xs ≤ w.top → CellsAre sh k xs → CellsAre w k xs
cells_back g k [] le h = tt
cells_back g k (x ∷ xs) le h = (cell_back g k x (omega arith) h.0, cells_back g (suc k) xs (omega arith) h.1)

-- ## Two shapes that one has grown from

module _ (a b sh : Shape) (is_a : IsShape a) (low_a : (n : ℕ) → n < a.vars → a.place n < a.top) (is : IsShape sh) (ga : Grown a sh) (gb : Grown b sh) (le : a.top ≤ b.top) where
  -- the first variable of a that is none of b would stand in a cell of b that is none's
  stands_in : a.vars ≤ b.vars
  stands_in = elim (cases_lt b.vars a.vars) [
    | inl lt ↦
        let n = b.vars in
        let at = low_a n lt in
        let there = ga.places n lt in
        let all = ga.vars in
        let none : (i : ℕ) → i < b.vars → b.place i ≢ sh.place n = λ i low e. (let before = is.order i n low (omega arith) in let here = gb.places i low in omega arith) in
        absurd ((gb.others (sh.place n) (omega arith, none)).1 n (omega arith) refl)
    | inr ge ↦ ge
  ]

  between : (w : Saved) → w.sh ≡ b → BoxesStay sh w → Grown a b
  between w e boxes = record {
    top = le;
    vars = stands_in;
    places = λ n lt. sym (gb.places n (let v = stands_in in omega arith)) ∙ ga.places n lt;
    others = λ k f. fixed_back gb k (let lt = f.0 in omega arith) (ga.others k f);
    fixed = λ k f. (let f' = fixed_back gb k (let lt = f.0 in omega arith) (ga.others k f) in sym (gb.fixed k f') ∙ ga.fixed k f);
    boxes = λ k v q. (let end = is_a.ends k v q in subst (λ (s : Shape). s.box k ≡ Some v) e (boxes k v (ga.boxes k v q) (let same = ap (λ (s : Shape). s.top) e in omega arith)));
    told = λ place. sym (gb.told place) ∙ ga.told place;
  }

-- ## The choices that are left

-- Choices in front of a stoppable part lie in what undoing gives back there.
pub choices_left : (t : Telling) {sh : Shape} {cells : ℕ → ℕ} {trail : List ℕ} → IsShape sh → (opens : List ℕ) (w : Saved) (at few : ℕ) → GivesBack sh cells trail w → BoxesStay sh w → at ≤ w.sh.top → few ≤ length opens → (word : ℕ) (cs : List Choice) → EndsBefore at few cs → (h : ChoicesIn t sh cells trail opens word cs) →
    ((c : Choice) (ds : List Choice) → cs ≡ c ∷ ds → (c.place.height < at) × (c.state.heap ≤ at) × (c.state.trail ≤ length w.trail)) → ChoicesIn t w.sh w.cells w.trail (open_to few opens) word cs
choices_left t is opens w at few back boxes high names word [] ends h first = h
choices_left t {sh} {cells} {trail} is opens w at few back boxes high names word (c ∷ cs) ends h first =
    let f = first c cs refl in
    let e = ends.0 f.0 in
    let end = e.0 in
    let fewer = e.1 in
    let s = h.state in
    let heap = s.heap in
    let size = h.size in
    let long = s.trail_len in
    let trails = f.2 in
    let tops : h.saved.sh.top ≤ w.sh.top = let o = f.1 in omega arith in
    let g = between h.saved.sh w.sh sh s.shape s.low is h.back.grown back.grown tops w refl boxes in
    let count = length_open few opens names in
    let same = open_in c.height few opens fewer names in
    record {
      word_is = h.word_is;
      behind = h.behind;
      routine = h.routine;
      e = h.e;
      l = h.l;
      stop = h.stop;
      gather = h.gather;
      next = h.next;
      many = h.many;
      key = h.key;
      args = h.args;
      cells_are = cells_back back.grown c.place.height (h.behind ∷ h.routine ∷ h.e ∷ h.l ∷ h.stop ∷ c.state.trail ∷ h.gather ∷ h.next ∷ h.many ∷ h.key ∷ h.args) (omega arith) h.cells_are;
      size = h.size;
      saved = h.saved;
      back = back_between w h.saved g (omega arith) back h.back;
      state = h.state;
      marked = h.marked;
      way = h.way;
      frames = h.frames;
      inner = h.inner;
      stop_is = h.stop_is;
      few_open = omega arith;
      gather_is = h.gather_is ∙ ap newest (sym same);
      stops = subst (λ (l : List ℕ). StopsIn t h.saved.sh h.saved.cells h.saved.trail l c.stops) (sym same) h.stops;
      apart = h.apart;
      fewer = h.fewer;
      older_are = subst (λ (l : List ℕ). ChoicesIn t h.saved.sh h.saved.cells h.saved.trail l h.behind cs) (sym same) h.older_are;
    }
