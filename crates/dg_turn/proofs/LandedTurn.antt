-- A machine whose newest inner construct has no cells: turns that lead there, and the one that leaves it.
use Rattle.std.proofs.Common.{◌≡◌, ◌≢◌, ℕ, suc, ◌+◌, ◌<◌, ◌≤◌, inl, inr, List, [], ◌∷◌, Some, refl, sym, ap, ◌∙◌, subst, arith}
use Rattle.std.proofs.lemmas.Bool.{cases_eq}
use Rattle.dg_mid.specs.State.{Place, Mid}
use Rattle.dg_mid.specs.Step.{cut_to}
use Rattle.z_model.specs.Run.{ZState}
use Rattle.z_lang.specs.declared.act.Routine.{Routine}
use Rattle.z_lang.specs.Leads.{Leads}
use Rattle.z_lang.specs.Runs.{ActsRun, Returns, calls, returns, routine_entered, left_with}
use Rattle.z_lang.specs.Standing.{IsKept, state_at}
use Rattle.z_lang.proofs.Trampoline.{bounces}
use Rattle.dg_rt.specs.Areas.{heap_at, state}
use Rattle.dg_rt.specs.Back.{at_place}
use Rattle.dg_rt.specs.Cells.{with_cell, replaced, Holds}
use Rattle.dg_rt.specs.Choices.{Chain}
use Rattle.dg_rt.specs.Shapes.{Cell}
use Rattle.dg_rt.proofs.Cells.{other_cell, same_cell}
use Rattle.dg_rt.proofs.Cutting.{commit_works, chain_same}
use Rattle.dg_rt.proofs.Following.{word as word_is, register, puts}
use Rattle.dg_turn.specs.Told.{Telling}
use Rattle.dg_turn.specs.Lies.{MidIn}
use Rattle.dg_turn.specs.Plays.{Playing, Outside, Represented}
use Rattle.dg_turn.specs.Rest.{gather_words}
use Rattle.dg_turn.specs.Seeking.{LandedTurns}
use Rattle.dg_turn.specs.Turns.{commit_routine}
use Rattle.dg_turn.proofs.Cutting.{places_of, chained, fallen_is, cut_in}
use Rattle.dg_turn.proofs.Standing.{commit_at}
use Rattle.dg_turn.proofs.Staying.{mid_same}

-- ## One turn

-- The player is in front of the call of the next routine, whatever memory stands for.
pub record Facing (t : Telling) (out : Outside) (next : ℕ) (z : ZState) : Type 0 where
  pub memory : List ℕ
  pub is : z ≡ state_at (state memory [] out.typed out.drawn out.output) t.context t.pc
  pub kept : IsKept t.p.world.layout.base t.story memory
  pub cells : ℕ → ℕ
  pub holds : Holds t.p.world.layout memory cells
  pub next_is : cells 0 ≡ next

abbrev pub facing : (t : Telling) (out : Outside) (x : ℕ) (m : Mid) (z : ZState) → Represented t out x m z → Facing t out x z
facing t out x m z r = record { memory = r.memory; is = r.is; kept = r.kept; cells = r.cells; holds = r.holds; next_is = r.next_is }

-- Where it is behind a turn, by the words there.
pub record Bounced (t : Telling) (out : Outside) (y : ℕ) (cells' : ℕ → ℕ) (n : ℕ) (z : ZState) : Type 0 where
  pub there : ZState
  pub leads : Leads t.p.world (n + 2) z there
  pub memory : List ℕ
  pub is : there ≡ state_at (state memory [] out.typed out.drawn out.output) t.context t.pc
  pub kept : IsKept t.p.world.layout.base t.story memory
  pub holds : Holds t.p.world.layout memory (replaced cells' 0 y)

pub bounced : (t : Telling) → Playing t → (out : Outside) (x : ℕ) (z : ZState) (r : Facing t out x z) (body : Routine) → t.p.routine_at x ≡ Some body → body.locals ≤ 15 → (y n : ℕ) (memory' locals' : List ℕ) (cells' : ℕ → ℕ) →
    ActsRun t.p 3500 19000 body.body body.body (routine_entered (state r.memory [] out.typed out.drawn out.output) body.locals (0, 0, 0)) (Returns y) (state memory' locals' out.typed out.drawn out.output) n → Holds t.p.world.layout memory' cells' → y < 65536 → Bounced t out y cells' n z
bounced t plays out x z r body there few y n memory' locals' cells' runs holds small =
    let high = plays.has.mapped.room in
    let s0 = state r.memory [] out.typed out.drawn out.output in
    let s1 = state memory' locals' out.typed out.drawn out.output in
    let put = puts t.p (left_with s0 s1) cells' 16 y holds (omega arith) (omega arith) (omega arith) small in
    let s2 = state (with_cell memory' 0 y) [] out.typed out.drawn out.output in
    let b = bounces t.p t.story plays.stands 16 plays.labels t.pc plays.placed plays.from t.context s0 s1 s2 x y 3600 20000 3500 19000 n body r.kept (plays.room r.memory out.typed out.output out.drawn) (register t.p s0 r.cells 16 r.holds (omega arith) (omega arith) (omega arith) ∙ ap word_is r.next_is) there (omega arith) (omega arith) runs put.put_is in
    let sum : suc n + 1 ≡ n + 2 = omega arith in
    record {
      there = state_at s2 t.context t.pc;
      leads = subst (λ (k : ℕ). Leads t.p.world k z (state_at s2 t.context t.pc)) sum (subst (λ (s : ZState). Leads t.p.world (suc n + 1) s (state_at s2 t.context t.pc)) (sym r.is) b.leads);
      memory = with_cell memory' 0 y;
      is = refl;
      kept = b.kept;
      holds = put.holds;
    }

-- ## An inner construct without cells is left

by_six : (c c' : ℕ → ℕ) (l : ℕ) → ((i : ℕ) → i ≢ 5 → i ≢ 6 → c' i ≡ c i) → c' 6 ≡ l → (j : ℕ) → j ≢ 5 → c' j ≡ replaced c 6 l j
by_six c c' l others six j n5 = elim (cases_eq j 6) [
  | inl q ↦ subst (λ (i : ℕ). c' i ≡ replaced c 6 l i) (sym q) (six ∙ sym (same_cell c 6 l))
  | inr n6 ↦ others j n5 n6 ∙ sym (other_cell c 6 l j n6)
]

pub landed_turns : LandedTurns
landed_turns t plays out x m z place ps behind there e agrees l =
    let c = l.cells in
    let around = c (heap_at + (m.state.heap + 3)) in
    let c0 = replaced c 6 around in
    let same_places : l.place ∷ l.places ≡ place ∷ ps = sym l.inner_are ∙ e in
    let place_is : l.place ≡ place = cc (same_places) in
    let places_are : l.places ≡ ps = cc (same_places) in
    let height : place.height ≡ m.state.heap = ap (λ (p : Place). p.height) (sym place_is) ∙ l.height in
    let mid0 : MidIn t out.words l.sh c0 l.trail (record m { inner = ps }) = subst (λ (qs : List Place). MidIn t out.words l.sh c0 l.trail (record m { inner = qs })) places_are l.mid in
    let top = mid0.state.heap in
    let few = mid0.state.few in
    let at : (k y : ℕ) → Cell l.sh k y → c0 (heap_at + k) ≡ y = λ k y cell. mid0.state.stands.fixed k (let low = cell.fixed.0 in omega arith) cell.fixed ∙ cell.is in
    let chain0 = chained t l.sh c0 l.trail (gather_words m.gathered) mid0.hb (omega arith) at (c0 5) m.choices mid0.choices mid0.under in
    let back : (j : ℕ) → c (heap_at + j) ≡ c0 (heap_at + j) = λ j. sym (other_cell c 6 around (heap_at + j) (λ q. (omega arith))) in
    let chain1 : Chain c (c 5) (places_of m.choices) = subst (λ (w : ℕ). Chain c w (places_of m.choices)) (other_cell c 6 around 5 (λ q. (omega arith))) (chain_same c0 c (c0 5) (places_of m.choices) back chain0) in
    let k = commit_works t.p plays.has 3000 18000 (omega arith) (omega arith) l.memory out.typed out.output out.drawn place.height (omega arith) c l.holds (l.inner ∙ ap at_place (sym height)) (places_of m.choices) chain1 in
    let around_is : c (heap_at + (place.height + 3)) ≡ around = ap (λ (h : ℕ). c (heap_at + (h + 3))) height in
    let same : (j : ℕ) → j ≢ 5 → k.cells' j ≡ c0 j = λ j n5. by_six c k.cells' around (λ i n5' n6. k.others i n5' n6) (k.inner ∙ around_is) j n5 in
    let mid1 = cut_in t l.sh c0 k.cells' l.trail (record m { inner = ps }) place agrees same mid0 k.chain in
    let fallen = fallen_is place m.choices agrees in
    let few' = k.few in
    let y = t.p.names.routine behind in
    let f : Facing t out x z = record { memory = l.memory; is = l.is; kept = l.kept; cells = c; holds = l.holds; next_is = l.next_is } in
    let g = bounced t plays out x z f (commit_routine behind) there (omega arith) y (suc k.count + 1) k.memory' [] k.cells'
    (calls {f' = 3000} {w' = 18000} {n = k.count} {n' = 1} {xs = (0, 0, 0)} {s2 = state k.memory' [] out.typed out.drawn out.output} refl refl (commit_at t.p plays.has) (omega arith) (omega arith) k.runs refl (returns refl))
    k.holds (plays.words behind) in
    record {
      there = g.there;
      count = suc k.count + 1 + 2;
      some = omega arith;
      few = omega arith;
      leads = g.leads;
      rep = record {
        memory = g.memory;
        is = g.is;
        kept = g.kept;
        cells = replaced k.cells' 0 y;
        holds = g.holds;
        next_is = same_cell k.cells' 0 y;
        sh = l.sh;
        trail = l.trail;
        mid = mid_same t l.sh k.cells' (replaced k.cells' 0 y) l.trail (cut_to place (record m { inner = ps })) (λ j ne far. other_cell k.cells' 0 y j ne) mid1;
      };
    }
