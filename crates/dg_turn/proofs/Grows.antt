-- A machine stands in memory that has grown.
use Rattle.std.proofs.Common.{◌≡◌, ◌≢◌, ℕ, ◌+◌, ◌<◌, ◌≤◌, inl, inr, List, sym, ap, ◌∙◌, subst, arith}
use Rattle.std.specs.Prelude.{nat_lt}
use Rattle.std.proofs.lemmas.Bool.{le-ltb, cases_lt}
use Rattle.dg_mid.specs.State.{Mid}
use Rattle.dg_rt.proofs.Backs.{back_grown, trail_stays}
use Rattle.dg_rt.specs.Areas.{heap_at, trail_at}
use Rattle.dg_rt.specs.Back.{Saved, Grown, GivesBack}
use Rattle.dg_rt.specs.Moments.{IsMark}
use Rattle.dg_rt.specs.Shapes.{Shape}
use Rattle.dg_turn.proofs.Growing.{grown_frames, grown_inner, BoxesNew, boxes_stay, stops_at, choices_at}
use Rattle.dg_turn.proofs.Kept.{Beyond}
use Rattle.dg_turn.proofs.Resting.{rest_stays}
use Rattle.dg_turn.proofs.Staying.{low_kept, high_kept, rest_kept}
use Rattle.dg_turn.specs.Lies.{StopNamed, FramesIn, InnersIn, StateIn, MidIn}
use Rattle.dg_turn.specs.Rest.{gather_words}
use Rattle.dg_turn.specs.Told.{Telling}
use Rattle.dg_unify.specs.Store.{State}

-- the mark stays
pub grown_mark : (sh sh' : Shape) (since hb : ℕ) → Grown sh sh' → ((n : ℕ) → sh.vars ≤ n → n < sh'.vars → sh.top ≤ sh'.place n) → IsMark sh since hb → IsMark sh' since hb
grown_mark sh sh' since hb g new k = record {
  low = k.low;
  high = let a = k.high in let b = g.top in omega arith;
  old = let a = k.old in let b = g.vars in omega arith;
  older = λ n lt. elim (cases_lt n sh.vars) [
    | inl old ↦ k.older n old ∙ ap (λ (i : ℕ). nat_lt i hb) (sym (g.places n old))
    | inr ge ↦ (let a = k.old in let b = k.high in let c = new n ge lt in le-ltb n since (omega arith) ∙ sym (le-ltb (sh'.place n) hb (omega arith)))
  ];
}

-- The heap has grown: its first cells are as they were, and so are the registers of a machine.
pub mid_grown : (t : Telling) {outer : ℕ → ℕ} (sh sh' : Shape) (cells cells' : ℕ → ℕ) (trail : List ℕ) (m : Mid) (s : State) → Grown sh sh' → BoxesNew sh sh' → ((n : ℕ) → sh.vars ≤ n → n < sh'.vars → sh.top ≤ sh'.place n) → s.since ≡ m.state.since → s.trail ≡ m.state.trail → cells' 3 ≡ s.heap → Beyond sh.top cells cells' →
    StateIn t sh' cells' trail s → MidIn t outer sh cells trail m → MidIn t outer sh' cells' trail (record m { state = s })
mid_grown t sh sh' cells cells' trail m s g boxes new since same_trail heap beyond state mid =
    let top = mid.state.heap in
    let few = mid.state.few in
    let long = mid.state.trail_len in
    let short = mid.state.few_trail in
    let opens = gather_words m.gathered in
    let low : (k : ℕ) → k ≢ 0 → k ≢ 3 → k ≤ 7 → cells' k ≡ cells k = λ k n0 n3 le. beyond k n0 n3 (low_kept k le) (λ le'. (omega arith)) in
    let high = mid.marked.high in
    let backs : (w : Saved) → w.sh.top ≤ mid.hb → GivesBack sh cells trail w → GivesBack sh' cells' trail w = λ w le b. (let below = b.grown.top in back_grown w g (λ k lt. beyond (heap_at + k) (λ e. (omega arith)) (λ e. (omega arith)) (high_kept (heap_at + k) (omega arith)) (λ le'. (omega arith))) b) in
    let there = choices_at t g opens (cells 5) (cells' 5) mid.hb m.choices (low 5 (λ e. (omega arith)) (λ e. (omega arith)) (omega arith)) backs mid.choices mid.under in
    let parts = stops_at t g opens mid.hb m.stops backs (boxes_stay sh sh' mid.hb high boxes) mid.stops mid.stops_under in
    record {
      heap = heap;
      height = low 1 (λ e. (omega arith)) (λ e. (omega arith)) (omega arith) ∙ mid.height ∙ sym same_trail;
      state = state;
      on_trail = trail_stays cells cells' trail (λ i lt. beyond (trail_at + i) (λ e. (omega arith)) (λ e. (omega arith)) (high_kept (trail_at + i) (omega arith)) (λ le. (omega arith))) mid.on_trail;
      frames = subst (λ (x : ℕ). FramesIn t sh' m.stops x m.frames) (sym (low 4 (λ e. (omega arith)) (λ e. (omega arith)) (omega arith))) (grown_frames t g m.stops (cells 4) m.frames mid.frames);
      choices = there.choices_are;
      hb = mid.hb;
      mark = low 2 (λ e. (omega arith)) (λ e. (omega arith)) (omega arith) ∙ mid.mark;
      marked = subst (λ (i : ℕ). IsMark sh' i mid.hb) (sym since) (grown_mark sh sh' m.state.since mid.hb g new mid.marked);
      under = there.under;
      inner = subst (λ (x : ℕ). InnersIn sh' m.stops x m.inner) (sym (low 6 (λ e. (omega arith)) (λ e. (omega arith)) (omega arith))) (grown_inner g m.stops (cells 6) m.inner mid.inner);
      stop = subst (λ (x : ℕ). StopNamed x m.stop m.stops) (sym (low 7 (λ e. (omega arith)) (λ e. (omega arith)) (omega arith))) mid.stop;
      stops = parts.stops_are;
      stops_under = parts.under;
      apart = mid.apart;
      rest = rest_stays t cells cells' m.gathered (λ k lt far. beyond k (λ e. (omega arith)) (λ e. (omega arith)) (rest_kept k lt (λ q. (let y = far q in omega arith))) (λ q. (let y = far (omega arith) in omega arith))) mid.rest;
    }
