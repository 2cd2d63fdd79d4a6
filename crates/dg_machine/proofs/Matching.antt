-- How arguments and the head of a rule go on from one pair to the next.
use Rattle.std.proofs.Common.{◌≡◌, ℕ, ◌+◌, ◌<◌, ◌≤◌, List, [], ◌∷◌, ◌++◌, append_assoc, true, false, inl, inr, refl, sym, ap, ◌∙◌, subst, arith, length, get_or, drop, MatchResult}
use Rattle.std.specs.Prelude.{Bool, Result, Ok, Err, ◌⊎◌}
use Rattle.std.specs.List.{zip}
use Rattle.std.proofs.lemmas.List.{drop_more, drop_all}
use Rattle.std.proofs.lemmas.Bool.{cond-true, cond-false}
use Rattle.dg_base.specs.declared.run.Limits.{Limits}
use Rattle.dg_meaning.specs.Values.{Value, Pair, More, NoMore, pair}
use Rattle.dg_meaning.specs.Substitutions.{Substitution, walk}
use Rattle.dg_meaning.specs.inside.Substitutions.{IsSubstitution}
use Rattle.dg_meaning.specs.Unify.{Equations, Unified, agreed, counted, cost, solve}
use Rattle.dg_meaning.specs.inside.Unify.{unify, and_then}
use Rattle.dg_meaning.proofs.Solving.{solve_extends}
use Rattle.dg_meaning.proofs.LookUps.{walk_node}
use Rattle.dg_meaning.proofs.UnifyLaws.{solve_none, solve_first, unify_pair}
use Rattle.dg_meaning.proofs.Bindings.{made_is}
use Rattle.dg_unify.specs.Store.{State, Store, told, Kept, OnlyBinds, Does, BrokeOff, Follows, UnifyFull, trail_for, trail_of}
use Rattle.dg_unify.specs.declared.bindings.Ref.{Ref}
use Rattle.dg_unify.specs.declared.bindings.Full.{Full}
use Rattle.dg_unify.specs.declared.bindings.Full.TheVariants as full
use Rattle.dg_unify.proofs.StoreLemmas.{kept_same}
use Rattle.dg_unify.proofs.Meets.{more_same}
use Rattle.dg_unify.proofs.Goings.{counted_none, counted_twice, binds_on, broke_later, then_extends}
use Rattle.dg_arena.specs.declared.arena.Arena.{Arena}
use Rattle.dg_arena.specs.Held.{meaning_of}
use Rattle.dg_mid.specs.declared.code.Code.{Code}
use Rattle.dg_mid.specs.State.{Mid}
use Rattle.dg_mid.specs.Step.{bound, more, trail_more}
use Rattle.dg_machine.specs.declared.memory.Memory.{Memory}
use Rattle.dg_machine.specs.Refs.{Keeps}
use Rattle.dg_machine.specs.Heads.{Matches}
use Rattle.dg_machine.specs.Layout.{Holds, HasRoom, Matched, Unmatched, heap_in}
use Rattle.dg_machine.proofs.Opens.{roomy, roomy_on, on_arena, grows_not, refs_on}

-- what the pairs from a number on have to become equal to
abbrev pub pairs_from : List Value → List Value → ℕ → Equations
pairs_from us ws n = zip (drop n us) (drop n ws)

-- what is left of a unification, where the answer of the whole is that of the rest
pub record Left (old now : State) (es fs : Equations) : Type 0 where
  pub binds : OnlyBinds old now
  pub made : Substitution
  pub grown : now.subst ≡ made ++ old.subst
  pub before : ℕ
  pub same : solve old.subst es ≡ counted before (solve now.subst fs)

-- the same of the pairs from a number on
abbrev pub Matching : State → State → List Value → List Value → ℕ → Type 0
Matching old now us ws n = Left old now (pairs_from us ws 0) (pairs_from us ws n)

pub left_starts : (s : State) (es : Equations) → Left s s es es
left_starts s es = record { binds = more_same s; made = []; grown = refl; before = 0; same = counted_none (solve s.subst es) }

pub matching_starts : (s : State) (us ws : List Value) → Matching s s us ws 0
matching_starts s us ws = left_starts s (pairs_from us ws 0)

-- the answer of the rest is that of the whole
pub left_ends : (old now new : Store) (es fs : Equations) → Kept old now → Left old.state now.state es fs → (r : Result Bool Full) → Follows now new (solve now.state.subst fs) r → Follows old new (solve old.state.subst es) r
left_ends old now new es fs kept m (Ok d) u = record {
  agrees = u.agrees ∙ sym (ap (λ (x : Unified). x.agrees) m.same);
  subst = u.subst ∙ sym (ap (λ (x : Unified). x.subst) m.same);
  binds = binds_on old.state now.state new.state m.binds u.binds;
}
left_ends old now new es fs kept m (Err e) h =
    broke_later old now new kept m.binds m.made m.grown (solve now.state.subst fs) (solve old.state.subst es) [] (ap (λ (x : Unified). x.subst) m.same) e h

pub zip_none : {A B : Type 0} (xs : List A) → zip {K = A} {X = B} xs [] ≡ []
zip_none [] = refl
zip_none (x ∷ xs) = refl

-- no pair is left
none_left : (us ws : List Value) (n : ℕ) → (length us ≤ n) ⊎ (length ws ≤ n) → pairs_from us ws n ≡ []
none_left us ws n (inl le) = ap (λ (l : List Value). zip l (drop n ws)) (drop_all n us le)
none_left us ws n (inr le) = ap (λ (l : List Value). zip (drop n us) l) (drop_all n ws le) ∙ zip_none (drop n us)

pub matched : (old now : Store) (us ws : List Value) (n : ℕ) → Kept old now → IsSubstitution now.state.subst → Matching old.state now.state us ws n → (length us ≤ n) ⊎ (length ws ≤ n) → Follows old now (solve old.state.subst (pairs_from us ws 0)) (Ok true)
matched old now us ws n kept sound m le =
    let e : solve now.state.subst (pairs_from us ws n) ≡ agreed now.state.subst = ap (solve now.state.subst) (none_left us ws n le) ∙ solve_none now.state.subst sound in
    left_ends old now now (pairs_from us ws 0) (pairs_from us ws n) kept m (Ok true) (rw e (record { agrees = refl; subst = refl; binds = more_same now.state }))

-- the first of what is left
module _ (old now : Store) (kept : Kept old now) (sound : IsSubstitution now.state.subst) (es rest : Equations) (v w : Value) (m : Left old.state now.state es ((v, w) ∷ rest)) where
  abbrev S : Substitution
  S = now.state.subst

  abbrev one : Unified
  one = unify S v w

  abbrev next : Substitution → Unified
  next S' = solve S' rest

  first_then : solve S ((v, w) ∷ rest) ≡ and_then one next
  first_then = solve_first S (v, w) rest sound

  pub left_full : (new : Store) (e : Full) → BrokeOff now new one e → Follows old new (solve old.state.subst es) (Err e)
  left_full new e h =
      let grew = solve_extends S ((v, w) ∷ []) sound in
      let x = then_extends one next (λ S' is. solve_extends S' rest (subst IsSubstitution (sym is) grew.sound)) in
      left_ends old now new es ((v, w) ∷ rest) kept m (Err e) (broke_later now now new (kept_same now) (more_same now.state) [] refl one (solve S ((v, w) ∷ rest)) x.0 (ap (λ (y : Unified). y.subst) first_then ∙ x.1) e h)

  pub left_clash : (new : Store) (answer : Bool) → answer ≡ false → Does now new one answer → Follows old new (solve old.state.subst es) (Ok false)
  left_clash new answer is h =
      let e : solve S ((v, w) ∷ rest) ≡ one = first_then ∙ cond-false one.agrees (counted one.count (next one.subst)) one (sym h.agrees ∙ is) in
      left_ends old now new es ((v, w) ∷ rest) kept m (Ok false) (record {
        agrees = sym is ∙ h.agrees ∙ sym (ap (λ (x : Unified). x.agrees) e);
        subst = h.subst ∙ sym (ap (λ (x : Unified). x.subst) e);
        binds = h.binds;
      })

  pub left_on : (new : Store) (answer : Bool) → answer ≡ true → Does now new one answer → Left old.state new.state es rest
  left_on new answer is h =
      let same : solve S ((v, w) ∷ rest) ≡ counted one.count (solve new.state.subst rest) =
      first_then ∙ cond-true one.agrees (counted one.count (next one.subst)) one (sym h.agrees ∙ is) ∙ ap (λ S'. counted one.count (solve S' rest)) (sym h.subst) in
      let grew = solve_extends S ((v, w) ∷ []) sound in
      record {
        binds = binds_on old.state now.state new.state m.binds h.binds;
        made = grew.made ++ m.made;
        grown = h.subst ∙ grew.is ∙ ap (λ T. grew.made ++ T) m.grown ∙ sym (append_assoc grew.made m.made old.state.subst);
        before = m.before + one.count;
        same = m.same ∙ ap (counted m.before) same ∙ counted_twice m.before one.count (solve new.state.subst rest);
      }

-- of two pairs their parts are left
pub left_parts : (old now : State) (es : Equations) → IsSubstitution now.subst → (v w x y x' y' : Value) → walk now.subst v ≡ pair x y → w ≡ pair x' y' → Left old now es ((v, w) ∷ []) → Left old now es ((x, x') ∷ (y, y') ∷ [])
left_parts old now es sound v w x y x' y' wv is m =
    let S = now.subst in
    let ww : walk S w ≡ pair x' y' = ap (walk S) is ∙ walk_node S Pair (More x' (More y' NoMore)) in
    let e : unify S v w ≡ counted (cost S v w) (solve S ((x, x') ∷ (y, y') ∷ [])) = unify_pair S v w x y x' y' sound wv ww ∙ ap (counted (cost S v w)) (sym (solve_first S (x, x') ((y, y') ∷ []) sound)) in
    record { binds = m.binds; made = m.made; grown = m.grown; before = m.before + cost S v w; same = m.same ∙ ap (counted m.before) e ∙ counted_twice m.before (cost S v w) (solve S ((x, x') ∷ (y, y') ∷ [])) }

module _ (old now : Store) (kept : Kept old now) (sound : IsSubstitution now.state.subst) (us ws : List Value) (n : ℕ) (d : Value) (la : n < length us) (lb : n < length ws) (a : Ref) (w : Value) (ea : told now a ≡ get_or us n d) (eb : w ≡ get_or ws n d) (m : Matching old.state now.state us ws n) where
  abbrev all : Equations
  all = pairs_from us ws 0

  abbrev others : Equations
  others = pairs_from us ws (n + 1)

  -- the first of the pairs that are left
  first_is : pairs_from us ws n ≡ (told now a, w) ∷ others
  first_is =
      ap (λ (l : List Value). zip l (drop n ws)) (drop_more us n d la)
      ∙ ap (λ (l : List Value). zip (get_or us n d ∷ drop (n + 1) us) l) (drop_more ws n d lb)
      ∙ ap (λ v. (v, get_or ws n d) ∷ others) (sym ea)
      ∙ ap (λ v. (told now a, v) ∷ others) (sym eb)

  first_left : Left old.state now.state all ((told now a, w) ∷ others)
  first_left = subst (λ fs. Left old.state now.state all fs) first_is m

  pub match_full : (new : Store) (e : Full) → BrokeOff now new (unify now.state.subst (told now a) w) e → Follows old new (solve old.state.subst all) (Err e)
  match_full new e h = left_full old now kept sound all others (told now a) w first_left new e h

  pub match_clash : (new : Store) (answer : Bool) → answer ≡ false → Does now new (unify now.state.subst (told now a) w) answer → Follows old new (solve old.state.subst all) (Ok false)
  match_clash new answer is h = left_clash old now kept sound all others (told now a) w first_left new answer is h

  pub match_on : (new : Store) (answer : Bool) → answer ≡ true → Does now new (unify now.state.subst (told now a) w) answer → Matching old.state new.state us ws (n + 1)
  match_on new answer is h = left_on old now kept sound all others (told now a) w first_left new answer is h

-- ## In memory

trail_append : (since : ℕ) (made S : Substitution) → trail_of since (made ++ S) ≡ trail_of since made + trail_of since S
trail_append since [] S = omega arith
trail_append since (p ∷ made) S = ap (λ n. trail_for since p.0 + n) (trail_append since made S) ∙ omega arith

state_bound : (t s : State) (S : Substitution) (n : ℕ) → OnlyBinds s t → t.subst ≡ S → t.trail ≡ n → t ≡ record s { subst = S; trail = n }
state_bound t s S n b e f =
    ap (λ k. record t { vars = k }) b.vars
    ∙ ap (λ k. record t { vars = s.vars; since = k }) b.since
    ∙ ap (λ k. record t { vars = s.vars; since = s.since; heap = k }) b.heap
    ∙ ap (λ T. record t { vars = s.vars; since = s.since; heap = s.heap; subst = T }) e
    ∙ ap (λ k. record s { subst = S; trail = k }) f

-- what the bindings that are meant take of the trail
meant_trail : (s : State) (es : Equations) → IsSubstitution s.subst → trail_of s.since (solve s.subst es).subst + s.trail ≡ trail_of s.since s.subst + trail_more s (solve s.subst es)
meant_trail s es sound =
    let x = solve_extends s.subst es sound in
    let all = ap (trail_of s.since) x.is ∙ trail_append s.since x.made s.subst in
    let made = ap (trail_of s.since) (made_is s.subst (solve s.subst es).subst x) in
    omega (arith, all, made)

module _ (code : Code) (l : Limits) (m : Mid) (r : Memory) (a : Arena) (es : Equations) (h : Holds code l r m) (keeps : Keeps r.arena a) where
  abbrev u : Unified
  u = solve m.state.subst es

  was : (meaning_of r.arena).state ≡ m.state
  was = h.0.state_is

  sound_here : IsSubstitution m.state.subst
  sound_here = subst (λ (s : State). IsSubstitution s.subst) was r.arena.sound.fits.sound

  matched_does : (b : Bool) → Does (meaning_of r.arena) (meaning_of a) u b → Matched code l u m (record r { arena = a }) b
  matched_does b does =
      let binds : OnlyBinds m.state (meaning_of a).state = subst (λ s. OnlyBinds s (meaning_of a).state) was does.binds in
      let meant = meant_trail m.state es sound_here in
      let now = ap (trail_of m.state.since) does.subst in
      let trail : (meaning_of a).state.trail ≡ trail_more m.state u = omega (arith, meant, now, binds.trail) in
      let fits : (meaning_of a).state.trail ≤ (meaning_of a).trail_limit = a.sound.trail_fits in
      let state : (meaning_of a).state ≡ (bound u m).state = state_bound (meaning_of a).state m.state u.subst (trail_more m.state u) binds does.subst trail in
      record {
        agrees = does.agrees;
        held = on_arena code l m (bound u m).state r a h keeps.kept keeps.saved state (omega arith);
        fits = omega (arith, fits, trail, keeps.kept.trail_limit, h.0.limits.trail);
      }

  over_trail : (e : Full) → UnifyFull (meaning_of r.arena) u e → l.trail < trail_more m.state u
  over_trail full.Heap f = absurd f
  over_trail full.Trail f =
      let meant = meant_trail m.state es sound_here in
      let f' = subst (λ (s : State). (meaning_of r.arena).trail_limit + trail_of s.since s.subst < s.trail + trail_of s.since u.subst) was f in
      omega (arith, meant, f', h.0.limits.trail)
  over_trail full.OutOfMemory f = absurd (grows_not f)

  pub matched_in : (result : Result Bool Full) → Follows (meaning_of r.arena) (meaning_of a) (solve (meaning_of r.arena).state.subst es) result → MatchResult result (Matched code l u m (record r { arena = a })) (λ _. Unmatched l u m (record r { arena = a }))
  matched_in (Ok b) f = matched_does b (subst (λ (s : State). Does (meaning_of r.arena) (meaning_of a) (solve s.subst es) b) was f)
  matched_in (Err e) f =
      let f' = subst (λ (s : State). BrokeOff (meaning_of r.arena) (meaning_of a) (solve s.subst es) e) was f in
      record { over = over_trail e f'.cause; roomy = roomy_on l r a (roomy code l m r h) keeps.kept }

  -- the same, with so many cells more taken
  pub matched_at : (n : ℕ) (result : Result Bool Full) → Matches (heap_in r + n) (meaning_of r.arena) (meaning_of a) (solve (meaning_of r.arena).state.subst es) result → MatchResult result (Matched code l u (more n m) (record r { arena = a })) (λ _. Unmatched l u (more n m) (record r { arena = a }))
  matched_at n (Ok b) f =
      let binds : OnlyBinds (more n m).state (meaning_of a).state = subst (λ (s : State). OnlyBinds (record s { heap = s.heap + n }) (meaning_of a).state) was f.binds in
      let made = f.subst ∙ ap (λ (s : State). (solve s.subst es).subst) was in
      let meant = meant_trail m.state es sound_here in
      let now = ap (trail_of m.state.since) made in
      let trail : (meaning_of a).state.trail ≡ trail_more m.state u = omega (arith, meant, now, binds.trail) in
      let fits : (meaning_of a).state.trail ≤ (meaning_of a).trail_limit = a.sound.trail_fits in
      let state : (meaning_of a).state ≡ (bound u (more n m)).state = state_bound (meaning_of a).state (more n m).state u.subst (trail_more m.state u) binds made trail in
      record {
        agrees = f.agrees ∙ ap (λ (s : State). (solve s.subst es).agrees) was;
        held = on_arena code l m (bound u (more n m)).state r a h keeps.kept keeps.saved state (omega arith);
        fits = omega (arith, fits, trail, keeps.kept.trail_limit, h.0.limits.trail);
      }
  matched_at n (Err e) f = record { over = over_trail e (subst (λ (s : State). UnifyFull (meaning_of r.arena) (solve s.subst es) e) was f); roomy = roomy_on l r a (roomy code l m r h) keeps.kept }

-- what a unification leaves of the heap, it leaves of room
pub heap_after : (r : Memory) (a : Arena) (es : Equations) (b : Bool) → Follows (meaning_of r.arena) (meaning_of a) (solve (meaning_of r.arena).state.subst es) (Ok b) → heap_in (record r { arena = a }) ≡ heap_in r
heap_after r a es b f = f.binds.heap

pub room_grown : (r : Memory) (a : Arena) → HasRoom r → Keeps r.arena a → heap_in r ≤ heap_in (record r { arena = a }) → HasRoom (record r { arena = a })
room_grown r a h keeps heap =
    let limit = keeps.kept.heap_limit in
    record {
      frames_fit = omega (arith, limit, h.frames_fit);
      inners_fit = omega (arith, limit, h.inners_fit);
      choices_fit = omega (arith, limit, h.choices_fit);
      stops_fit = omega (arith, limit, h.stops_fit);
      frames_few = omega (arith, heap, h.frames_few);
      inners_few = omega (arith, heap, h.inners_few);
      choices_few = omega (arith, heap, h.choices_few);
      stops_few = omega (arith, heap, h.stops_few);
      refs = refs_on r a h keeps.kept (omega (arith, heap));
    }

pub room_after : (r : Memory) (a : Arena) → HasRoom r → Keeps r.arena a → heap_in (record r { arena = a }) ≡ heap_in r → HasRoom (record r { arena = a })
room_after r a h keeps heap = room_grown r a h keeps (omega (arith, heap))
