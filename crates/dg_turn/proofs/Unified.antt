-- A unification keeps what memory stands for.
use Rattle.std.proofs.Common.{◌≡◌, ◌≢◌, ℕ, ◌+◌, ◌-◌, ◌<◌, ◌≤◌, List, [], ◌∷◌, ◌++◌, length, take, refl, sym, ap, ◌∙◌, subst, arith, length-append}
use Rattle.std.specs.Prelude.{nat_lt, if◌then◌else◌}
use Rattle.dg_meaning.specs.Substitutions.{Substitution}
use Rattle.dg_meaning.specs.inside.Substitutions.{Extends}
use Rattle.dg_meaning.specs.Unify.{Unified}
use Rattle.dg_meaning.specs.Moves.{made_since}
use Rattle.dg_unify.specs.Store as store
use Rattle.dg_mid.specs.State.{Mid}
use Rattle.dg_mid.specs.Step.{bound, trail_more}
use Rattle.dg_rt.specs.Cells.{Holds}
use Rattle.dg_rt.specs.Shapes.{Shape}
use Rattle.dg_rt.specs.Back.{Begun}
use Rattle.dg_rt.specs.Moments.{trail_of, IsAt, Setting, Fits, Passes, Moment}
use Rattle.dg_rt.specs.RunTime.{HasRunTime}
use Rattle.dg_rt.proofs.Backs.{grown_none}
use Rattle.dg_rt.proofs.Binding.{trail_append}
use Rattle.dg_turn.specs.Told.{Telling}
use Rattle.dg_turn.specs.Lies.{StopNamed, FramesIn, InnersIn, MidIn}
use Rattle.dg_turn.specs.Rest.{gather_words}
use Rattle.dg_turn.proofs.Resting.{rest_stays}
use Rattle.dg_turn.proofs.Growing.{stops_at, choices_at}

same_trail : (since : ℕ) (S : Substitution) → store.trail_of since S ≡ trail_of since S
same_trail since [] = refl
same_trail since (b ∷ S) = ap (λ (n : ℕ). (if nat_lt b.0 since then 1 else 0) + n) (same_trail since S)

take_front : (xs ys : Substitution) → take (length xs) (xs ++ ys) ≡ xs
take_front [] ys = refl
take_front (x ∷ xs) ys = ap (λ (l : Substitution). x ∷ l) (take_front xs ys)

made_is : (made S : Substitution) → made_since S (made ++ S) ≡ made
made_is made S = let n : length (made ++ S) - length S ≡ length made = omega (arith, length-append made S) in ap (λ (k : ℕ). take k (made ++ S)) n ∙ take_front made S

-- The trail behind some bindings.
pub more_is : (s : store.State) (u : Unified) (made : Substitution) → u.subst ≡ made ++ s.subst → trail_more s u ≡ s.trail + trail_of s.since made
more_is s u made e = ap (λ (l : Substitution). s.trail + store.trail_of s.since (made_since s.subst l)) e ∙ ap (λ (l : Substitution). s.trail + store.trail_of s.since l) (made_is made s.subst) ∙ ap (λ (n : ℕ). s.trail + n) (same_trail s.since made)

module _ (t : Telling) {outer : ℕ → ℕ} (has : HasRunTime t.p) (sh : Shape) (memory typed output : List ℕ) (drawn : ℕ) (cells : ℕ → ℕ) (trail : List ℕ) (m : Mid) (holds : Holds t.p.world.layout memory cells) (mid : MidIn t outer sh cells trail m) where
  abbrev pub begun : Begun
  begun = record { cells = cells; trail = trail }

  abbrev S : Substitution
  S = m.state.subst

  pub at_first : IsAt t.p.world.layout sh m.state.since mid.hb S m.state.trail begun memory cells S
  at_first = record {
    holds = holds;
    stands = mid.state.stands;
    mark = mid.mark;
    made = [];
    made_is = refl;
    height = let h = mid.height in omega arith;
    entries = tt;
    trail = trail;
    on_trail = mid.on_trail;
    tall = mid.state.trail_len ∙ sym mid.height;
    known = mid.state.known;
    others = λ k ne far. refl;
    backs = λ w le g. g;
  }

  abbrev pub setting : Setting
  setting = record { p = t.p; has = has; sh = sh; is = mid.state.shape; since = m.state.since; hb = mid.hb; marked = mid.marked; S0 = S; left = m.state.trail; begun = begun; typed = typed; output = output; drawn = drawn }

  -- The moment at which it begins.
  abbrev pub moment : Moment setting S
  moment = record { memory = memory; cells = cells; at = at_first; room = let few = mid.state.few_trail in omega arith }

  -- what memory stands for behind it
  pub mid_behind : (u : Unified) (memory' : List ℕ) (cells' : ℕ → ℕ) → trail_more m.state u ≤ 2000 → (i : IsAt t.p.world.layout sh m.state.since mid.hb S m.state.trail begun memory' cells' u.subst) → MidIn t outer sh cells' i.trail (bound u m)
  mid_behind u memory' cells' few i =
      let low : (k : ℕ) → k ≢ 1 → k < 303 → cells' k ≡ cells k = λ k ne lt. i.others k ne (λ le. (omega arith)) in
      let more = more_is m.state u i.made i.made_is in
      let s = mid.state in
      let opens = gather_words m.gathered in
      let there = choices_at t (grown_none sh) opens (cells 5) (cells' 5) mid.hb m.choices (low 5 (λ e. (omega arith)) (omega arith)) i.backs mid.choices mid.under in
      let parts = stops_at t (grown_none sh) opens mid.hb m.stops i.backs (λ w le b. b) mid.stops mid.stops_under in
      record {
        heap = low 3 (λ e. (omega arith)) (omega arith) ∙ mid.heap;
        height = i.height ∙ sym more;
        state = record { shape = s.shape; low = s.low; stands = i.stands; known = i.known; heap = s.heap; vars = s.vars; trail_len = i.tall ∙ i.height ∙ sym more; few = s.few; few_trail = few; told = s.told };
        on_trail = i.on_trail;
        frames = subst (λ (w : ℕ). FramesIn t sh m.stops w m.frames) (sym (low 4 (λ e. (omega arith)) (omega arith))) mid.frames;
        choices = there.choices_are;
        hb = mid.hb;
        mark = i.mark;
        marked = mid.marked;
        under = there.under;
        inner = subst (λ (w : ℕ). InnersIn sh m.stops w m.inner) (sym (low 6 (λ e. (omega arith)) (omega arith))) mid.inner;
        stop = subst (λ (w : ℕ). StopNamed w m.stop m.stops) (sym (low 7 (λ e. (omega arith)) (omega arith))) mid.stop;
        stops = parts.stops_are;
        stops_under = parts.under;
        apart = mid.apart;
        rest = rest_stays t cells cells' m.gathered (λ k lt far. i.others k (λ e. (omega arith)) (λ q. far (omega arith))) mid.rest;
      }

  -- what the bindings take of the trail
  taken_by : (u : Unified) → Extends S u.subst → trail_of m.state.since u.subst + m.state.trail ≡ trail_more m.state u + trail_of m.state.since S
  taken_by u grew =
      let more = more_is m.state u grew.made grew.is in
      let sum = ap (trail_of m.state.since) grew.is ∙ trail_append m.state.since grew.made S in
      omega arith

  pub fits : (u : Unified) → Extends S u.subst → trail_more m.state u ≤ 2000 → Fits setting u.subst
  fits u grew few = let takes = taken_by u grew in omega arith

  pub fit_trail : (u : Unified) → Extends S u.subst → Fits setting u.subst → trail_more m.state u ≤ 2000
  fit_trail u grew few = let takes = taken_by u grew in omega arith

  pub pass_trail : (u : Unified) → Extends S u.subst → Passes setting u.subst → 2000 < trail_more m.state u
  pass_trail u grew over = let takes = taken_by u grew in omega arith
