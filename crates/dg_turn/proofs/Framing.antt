-- Memory with a new frame stands for the machine inside a rule.
use Rattle.std.proofs.Common.{◌≡◌, ◌≢◌, ℕ, zero, suc, ◌+◌, ◌*◌, ◌<◌, ◌≤◌, inl, inr, List, [], ◌∷◌, length, refl, sym, ap, ◌∙◌, subst, arith}
use Rattle.std.proofs.lemmas.Bool.{cases_eq}
use Rattle.dg_meaning.specs.Moves.{new_vars}
use Rattle.dg_mid.specs.State.{Call, Mid}
use Rattle.dg_meaning.specs.Values.{Value}
use Rattle.dg_mid.specs.Step.{body_frame}
use Rattle.dg_rt.proofs.Cells.{other_cell, same_cell}
use Rattle.dg_rt.specs.Areas.{heap_at, trail_at}
use Rattle.dg_rt.specs.Back.{at_place, Grown}
use Rattle.dg_rt.specs.Cells.{replaced}
use Rattle.dg_rt.specs.Frames.{InRow, Captured, RowIs}
use Rattle.dg_rt.specs.Shapes.{Shape, Cell}
use Rattle.dg_turn.proofs.Staying.{mid_with}
use Rattle.dg_turn.proofs.Growing.{grown_captured, grown_frames, grown_inner, stands_same}
use Rattle.dg_turn.proofs.Grows.{mid_grown}
use Rattle.dg_turn.proofs.Making.{made, made_grown, made_shape, made_stands, made_low, made_known, made_row, block_cell, new_place}
use Rattle.dg_turn.proofs.Kept.{Beyond}
use Rattle.dg_turn.specs.Lies.{bit_of, FramesIn, FrameIn, StateIn, MidIn}
use Rattle.dg_turn.specs.Told.{Telling}
use Rattle.dg_unify.specs.Store as store

length_new : (n k : ℕ) → length (new_vars n k) ≡ n
length_new zero k = refl
length_new (suc n) k = ap suc (length_new n (suc k))

-- The machine inside the body of a closure that has captured these values, and inside a rule, which has captured none, whose head isn't written yet.
abbrev pub inside_body : List Value → Call → ℕ → Mid → Mid
inside_body captured call n m = record m { state = record m.state { vars = m.state.vars + n; heap = m.state.heap + (6 + n) }; frames = body_frame captured n call m ∷ m.frames; inner = [] }

abbrev pub inside_rule : Call → ℕ → Mid → Mid
inside_rule call n m = inside_body [] call n m

-- Memory stands for it.
pub record Inside (t : Telling) (outer : ℕ → ℕ) (sh : Shape) (c : ℕ → ℕ) (trail : List ℕ) (m : Mid) : Type 0 where
  pub sh' : Shape
  pub grown : Grown sh sh'
  pub mid : MidIn t outer sh' c trail m

pub body_in : (t : Telling) {outer : ℕ → ℕ} (sh : Shape) (c c' : ℕ → ℕ) (trail : List ℕ) (m : Mid) (captured : List Value) (box to : ℕ) (call : Call) (n : ℕ) → MidIn t outer sh c trail m → m.state.heap + (6 + n) ≤ 10000 → Captured sh box captured → c 8 ≡ t.at_block call.next → to ≡ at_place call.cut.height → c 10 ≡ bit_of call.many →
    c' 3 ≡ sh.top + 6 + n → c' 4 ≡ at_place sh.top → c' 6 ≡ 0 → RowIs c' (sh.top + 0) (c 4 ∷ c 8 ∷ to ∷ c 6 ∷ (n + n + c 10) ∷ box ∷ []) → ((i : ℕ) → i < n → c' (heap_at + (sh.top + 6 + i)) ≡ at_place (sh.top + 6 + i)) →
    ((k : ℕ) → k ≢ 3 → k ≢ 4 → k ≢ 6 → k ≢ 13 → (heap_at + sh.top ≤ k → trail_at ≤ k) → c' k ≡ c k) → Inside t outer sh c' trail (inside_body captured call n m)
body_in t sh c c' trail m captured box to call n mid room closure back cut many heap frame inner row vars others =
    let s = mid.state in
    let top = s.heap in
    let fits : sh.top + 6 + n ≤ 10000 = omega arith in
    let same : (k : ℕ) → k < sh.top → c' (heap_at + k) ≡ c (heap_at + k) = λ k lt. others (heap_at + k) (λ e. (omega arith)) (λ e. (omega arith)) (λ e. (omega arith)) (λ e. (omega arith)) (λ le. (omega arith)) in
    let s1 = made sh c c' m.state.subst s.shape s.low s.stands s.known 6 n fits same vars in
    let g = made_grown sh c c' m.state.subst s.shape s.low s.stands s.known 6 n fits same vars in
    let a = replaced c' 4 (c 4) in
    let cv = replaced a 6 (c 6) in
    let virtual : (k : ℕ) → k ≢ 4 → k ≢ 6 → c' k ≡ cv k = λ k n4 n6. sym (other_cell a 6 (c 6) k n6 ∙ other_cell c' 4 (c 4) k n4) in
    let low_heap : (k : ℕ) → cv (heap_at + k) ≡ c' (heap_at + k) = λ k. sym (virtual (heap_at + k) (λ e. (omega arith)) (λ e. (omega arith))) in
    let beyond : Beyond sh.top c cv = λ k n0 n3 mid' far. elim (cases_eq k 6) [
      | inl six ↦ subst (λ (i : ℕ). cv i ≡ c i) (sym six) (same_cell a 6 (c 6))
      | inr n6 ↦ elim (cases_eq k 4) [
        | inl four ↦ subst (λ (i : ℕ). cv i ≡ c i) (sym four) (other_cell a 6 (c 6) 4 (λ e. (omega arith)) ∙ same_cell c' 4 (c 4))
        | inr n4 ↦ sym (virtual k n4 n6) ∙ others k n3 n4 n6 (λ (e : k ≡ 13). (let q = mid'.0 (omega arith) in omega arith)) far
      ]
    ] in
    let low = made_low sh c c' m.state.subst s.shape s.low s.stands s.known 6 n fits same vars in
    let state : store.State = record m.state { vars = m.state.vars + n; heap = m.state.heap + (6 + n) } in
    let state_in : StateIn t s1 cv trail state = record {
      shape = made_shape sh c c' m.state.subst s.shape s.low s.stands s.known 6 n fits same vars;
      low = low;
      stands = stands_same s1 c' cv m.state.subst low (λ k lt. low_heap k) (made_stands sh c c' m.state.subst s.shape s.low s.stands s.known 6 n fits same vars);
      known = made_known sh c c' m.state.subst s.shape s.low s.stands s.known 6 n fits same vars;
      heap = omega arith;
      vars = let v = s.vars in omega arith;
      trail_len = s.trail_len;
      few = room;
      few_trail = s.few_trail;
      told = s.told;
    } in
    let behind : (k : ℕ) → sh.vars ≤ k → k < s1.vars → sh.top ≤ s1.place k = λ k old young. (let p = new_place sh c c' m.state.subst s.shape s.low s.stands s.known 6 n fits same vars k old in omega arith) in
    let three : cv 3 ≡ m.state.heap + (6 + n) = sym (virtual 3 (λ e. (omega arith)) (λ e. (omega arith))) ∙ heap ∙ omega arith in
    let mid1 = mid_grown t sh s1 c cv trail m state g (λ k v e lt. e) behind refl refl three beyond state_in mid in
    let cell : (i k x : ℕ) → i < 6 → k ≡ sh.top + i → c' (heap_at + k) ≡ x → Cell s1 (sh.top + i) x = λ i k x lt e is. (let b = block_cell sh c c' m.state.subst s.shape s.low s.stands s.known 6 n fits same vars i lt in record { fixed = b.fixed; is = b.is ∙ ap (λ (j : ℕ). c' (heap_at + j)) (sym e) ∙ is }) in
    let size = length_new n m.state.vars in
    let own = new_vars n m.state.vars in
    let frame_in : FrameIn (λ e. FramesIn t s1 m.stops e m.frames) t s1 m.stops (c' 4) (body_frame captured n call m) = record {
      at = sh.top;
      word_is = frame;
      captured = captured;
      own = own;
      vars = refl;
      below = omega arith;
      e = c 4;
      e_is = cell 0 (sh.top + 0) (c 4) (omega arith) (omega arith) row.0;
      next = cell 1 (suc (sh.top + 0)) (t.at_block call.next) (omega arith) (omega arith) (row.1.0 ∙ back);
      cut = cell 2 (suc (suc (sh.top + 0))) (at_place call.cut.height) (omega arith) (omega arith) (row.1.1.0 ∙ cut);
      l = c 6;
      l_is = cell 3 (suc (suc (suc (sh.top + 0)))) (c 6) (omega arith) (omega arith) row.1.1.1.0;
      many = cell 4 (suc (suc (suc (suc (sh.top + 0))))) (2 * length own + bit_of call.many) (omega arith) (omega arith) (row.1.1.1.1.0 ∙ omega arith);
      c = box;
      c_is = cell 5 (suc (suc (suc (suc (suc (sh.top + 0)))))) box (omega arith) (omega arith) row.1.1.1.1.1.0;
      closure = grown_captured g box captured closure;
      row = subst (λ (k : ℕ). InRow s1 (sh.top + 6) (new_vars n k)) s.vars (made_row sh c c' m.state.subst s.shape s.low s.stands s.known 6 n fits same vars);
      inner = grown_inner g m.stops (c 6) m.inner mid.inner;
      behind_is = grown_frames t g m.stops (c 4) m.frames mid.frames;
    } in
    record { sh' = s1; grown = g; mid = mid_with t s1 cv c' trail (record m { state = state }) (body_frame captured n call m ∷ m.frames) [] (λ k n0 n4 n6 far. virtual k n4 n6) frame_in inner mid1 }

-- Memory with the frame of a rule.
pub framed_in : (t : Telling) {outer : ℕ → ℕ} (sh : Shape) (c c' : ℕ → ℕ) (trail : List ℕ) (m : Mid) (call : Call) (n : ℕ) → MidIn t outer sh c trail m → m.state.heap + (6 + n) ≤ 10000 → c 8 ≡ t.at_block call.next → c 9 ≡ at_place call.cut.height → c 10 ≡ bit_of call.many →
    c' 3 ≡ sh.top + 6 + n → c' 4 ≡ at_place sh.top → c' 6 ≡ 0 → RowIs c' (sh.top + 0) (c 4 ∷ c 8 ∷ c 9 ∷ c 6 ∷ (n + n + c 10) ∷ 0 ∷ []) → ((i : ℕ) → i < n → c' (heap_at + (sh.top + 6 + i)) ≡ at_place (sh.top + 6 + i)) →
    ((k : ℕ) → k ≢ 3 → k ≢ 4 → k ≢ 6 → k ≢ 13 → (heap_at + sh.top ≤ k → trail_at ≤ k) → c' k ≡ c k) → Inside t outer sh c' trail (inside_rule call n m)
framed_in t sh c c' trail m call n mid room back cut many heap frame inner row vars others = body_in t sh c c' trail m [] 0 (c 9) call n mid room refl back cut many heap frame inner row vars others
