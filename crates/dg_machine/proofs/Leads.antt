-- What instructions lead to.
use Rattle.std.proofs.Common.{◌≡◌, ℕ, zero, suc, ◌+◌, ◌*◌, ◌<◌, ◌≤◌, List, [], ◌∷◌, Some, None, refl, sym, ap, ◌∙◌, subst, arith, length, nat_lt, reverse, vec_capacity}
use Rattle.std.specs.Borrow.{Bor}
use Rattle.std.proofs.lemmas.Bool.{cond-true, cond-false, lt-ltb, le-ltb}
use Rattle.dg_base.specs.declared.run.Limits.{Limits}
use Rattle.dg_base.specs.declared.run.Ending.TheVariants as ending
use Rattle.dg_meaning.specs.World.{Game}
use Rattle.dg_unify.specs.Store.{State}
use Rattle.dg_mid.specs.declared.code.Code.{Code}
use Rattle.dg_arena.specs.Held.{meaning_of}
use Rattle.dg_mid.specs.declared.code.Op.{Op}
use Rattle.dg_mid.specs.State.{Place, Mid, Frame as FrameOf, Choice as ChoiceOf, Status, Ended, Fails as FailsOf, place_of, cut_of}
use Rattle.dg_mid.specs.Step.{Setting, setting, charged, cut_to, commits, refuses}
use Rattle.dg_mid.specs.Heights.{AgreeAll, FramesNamed, PlacesNamed, MidOrdered}
use Rattle.dg_machine.specs.declared.now.Frame.{Frame}
use Rattle.dg_machine.specs.declared.now.Inner.{Inner}
use Rattle.dg_machine.specs.declared.now.Way.{Way}
use Rattle.dg_machine.specs.declared.now.Now.{Now}
use Rattle.dg_machine.specs.declared.now.Now.TheVariants.{Runs, Fails, Ended as EndedNow}
use Rattle.dg_machine.specs.declared.now.Call.{Call}
use Rattle.dg_machine.specs.declared.memory.Memory.{Memory}
use Rattle.dg_machine.specs.Layout.{Holds, HasRoom, Lacks, Took, Opened, heap_in}
use Rattle.dg_machine.specs.Links.{named, below}
use Rattle.dg_machine.specs.Stops.{tags_of}
use Rattle.dg_machine.specs.Measure.{choices_left, with_way}
use Rattle.dg_machine.specs.Standing.{CodeIs, Stands, Falls}
use Rattle.dg_machine.proofs.Opens.{fits}
use Rattle.dg_machine.proofs.Hands.{some_frame, no_frame, some_inner, no_inner, cut_held, cut_room, agree_none, cut_left, at_most_one}

pub charged_on : (g : Setting) (n : ℕ) (m : Mid) (next : Status) → m.state.heap + n ≤ g.limits.heap → charged g n m next ≡ next
charged_on g zero m next le = refl
charged_on g (suc n) m next le = cond-false (nat_lt g.limits.heap (m.state.heap + suc n)) (Ended ending.HeapLimit) next (le-ltb g.limits.heap (m.state.heap + suc n) le)

pub charged_off : (g : Setting) (n : ℕ) (m : Mid) (next : Status) → m.state.heap ≤ g.limits.heap → g.limits.heap < m.state.heap + n → charged g n m next ≡ Ended ending.HeapLimit
charged_off g zero m next fits lt = absurd (omega arith)
charged_off g (suc n) m next fits lt = cond-true (nat_lt g.limits.heap (m.state.heap + suc n)) (Ended ending.HeapLimit) next (lt-ltb g.limits.heap (m.state.heap + suc n) lt)

-- ## Limits

-- memory holds what is behind cells that were taken, so they were taken
pub charged_stands : (code : Code) (g : Game) (l : Limits) (n : ℕ) (m m' : Mid) (next : Status) (new : Memory) (after : Now) → Holds code l new m' → m'.state.heap ≡ m.state.heap + n → Stands code l new after next → Stands code l new after (charged (setting g code l) n m next)
charged_stands code g l n m m' next new after h heap stands =
    let within = fits code l m' new h in
    subst (Stands code l new after) (sym (charged_on (setting g code l) n m next (omega (arith, within, heap)))) stands

-- the same, where cells were taken on the way
pub charged_within : (code : Code) (g : Game) (l : Limits) (n : ℕ) (m : Mid) (next : Status) (new : Memory) (after : Now) → m.state.heap + n ≤ l.heap → Stands code l new after next → Stands code l new after (charged (setting g code l) n m next)
charged_within code g l n m next new after within stands = subst (Stands code l new after) (sym (charged_on (setting g code l) n m next within)) stands

pub charged_led : (code : Code) (g : Game) (l : Limits) (n : ℕ) (m m' : Mid) (next : Status) (mid new : Memory) (after : Now) → Holds code l mid m' → m'.state.heap ≡ m.state.heap + n → Stands code l new after next → Stands code l new after (charged (setting g code l) n m next)
charged_led code g l n m m' next mid new after h heap stands =
    let within = fits code l m' mid h in
    charged_within code g l n m next new after (omega (arith, within, heap)) stands

pub full_stands : (code : Code) (g : Game) (l : Limits) (n : ℕ) (m : Mid) (next : Status) (old new : Memory) → Holds code l old m → Lacks n l m.state.heap new → Stands code l new (EndedNow ending.HeapLimit) (charged (setting g code l) n m next)
full_stands code g l n m next old new h lacks =
    subst (Stands code l new (EndedNow ending.HeapLimit)) (sym (charged_off (setting g code l) n m next (fits code l m old h) lacks.over)) (refl, lacks.roomy)

-- a place that is named now has the height of the heap
pub height_now : (code : Code) (l : Limits) (m : Mid) (r : Memory) (h : ℕ) → Holds code l r m → h ≡ heap_in r → (place_of m).height ≡ h
height_now code l m r h holds is = sym (is ∙ ap (λ (s : State). s.heap) holds.0.state_is)

pub few_more : (way : Way) (n : ℕ) (old new : Memory) → HasRoom old → Opened way n old new → 10 * length new.inners.items + 10 ≤ heap_in new
few_more way n old new room o = let heap = o.heap in let inners = ap (λ v. length v.items) o.inners in let few = room.inners_few in omega (arith, heap, inners, few)

-- ## Cuts

pub agree_cut : (t h : ℕ) (cs : List ChoiceOf) (fs : List FrameOf) → FramesNamed t h cs fs → AgreeAll cs (cut_of fs)
agree_cut t h cs [] n = agree_none (cut_of []) cs refl refl
agree_cut t h cs (f ∷ fs) n = n.0.agrees

-- the choices that aren't older than a place were cut, and only they
pub was_cut : (code : Code) (l : Limits) (m : Mid) (p : Place) (to : ℕ) (r new : Memory) → Holds code l r m → p.height ≡ to → AgreeAll m.choices p → reverse new.choices.items ≡ below to (reverse r.choices.items) →
    vec_capacity new.choices ≡ vec_capacity r.choices → length new.choices.items ≤ length r.choices.items → new ≡ record r { choices = new.choices } → Holds code l new (cut_to p m)
was_cut code l m p to r new h height agree left capacity fewer same = subst (λ x. Holds code l x (cut_to p m)) (sym same) (cut_held code l m p to r new h height agree left (cut_room r new h.0.room capacity fewer))

pub just_some : (code : Code) (l : Limits) (m : Mid) (frame : Frame) (r new : Memory) → MidOrdered m → Holds code l r m → named r.frames.items r.frame ≡ Some frame → reverse new.choices.items ≡ below frame.cut (reverse r.choices.items) →
    vec_capacity new.choices ≡ vec_capacity r.choices → length new.choices.items ≤ length r.choices.items → new ≡ record r { choices = new.choices } → Holds code l new (cut_to (cut_of m.frames) m)
just_some code l m frame r new o h is left capacity fewer same =
    let x = some_frame (meaning_of r.arena) (tags_of m.stops) r.inners.items r.frames.items r.frame frame m.frames is h.0.frames_are in
    was_cut code l m (cut_of m.frames) frame.cut r new h (ap (λ fs. (cut_of fs).height) x.is ∙ x.cut) (agree_cut m.next_tag m.state.heap m.choices m.frames o.named.frames_are) left capacity fewer same

pub just_none : (code : Code) (l : Limits) (m : Mid) (r new : Memory) → MidOrdered m → Holds code l r m → named r.frames.items r.frame ≡ None → reverse new.choices.items ≡ below 0 (reverse r.choices.items) →
    vec_capacity new.choices ≡ vec_capacity r.choices → length new.choices.items ≤ length r.choices.items → new ≡ record r { choices = new.choices } → Holds code l new (cut_to (cut_of m.frames) m)
just_none code l m r new o h is left capacity fewer same =
    let none = no_frame (meaning_of r.arena) (tags_of m.stops) r.inners.items r.frames.items r.frame m.frames is h.0.frames_are in
    was_cut code l m (cut_of m.frames) 0 r new h (ap (λ fs. (cut_of fs).height) none) (agree_cut m.next_tag m.state.heap m.choices m.frames o.named.frames_are) left capacity fewer same

-- ## Inner constructs

-- the innermost construct is left
pub record LeftInner (code : Code) (l : Limits) (r new : Memory) (m : Mid) : Type 0 where
  pub innermost : Place
  pub around : List Place
  pub is : m.inner ≡ innermost ∷ around
  pub held : Holds code l new (cut_to innermost (record m { inner = around }))
  pub fewer : choices_left new.choices.items ≤ choices_left r.choices.items
  pub frame : new.frame ≡ r.frame
  pub inner : new.inner < r.inner

pub left_inner : (code : Code) (l : Limits) (m : Mid) (inner : Inner) (r mid : Memory) → MidOrdered m → Holds code l r m → named r.inners.items r.inner ≡ Some inner → reverse mid.choices.items ≡ below inner.height (reverse r.choices.items) →
    vec_capacity mid.choices ≡ vec_capacity r.choices → length mid.choices.items ≤ length r.choices.items → mid ≡ record r { choices = mid.choices } → LeftInner code l r (record mid { inner = inner.around }) m
left_inner code l m inner r mid o h is left capacity fewer same =
    let x = some_inner (meaning_of r.arena) (tags_of m.stops) r.inners.items r.inner inner m.inner is h.0.inner_are in
    let named_all : PlacesNamed m.next_tag m.state.heap m.choices (x.innermost ∷ x.around) = subst (PlacesNamed m.next_tag m.state.heap m.choices) x.is o.named.inner_are in
    let out : Holds code l (record r { inner = inner.around }) (record m { inner = x.around }) = (record { saves = h.0.saves; stand = h.0.stand; state_is = h.0.state_is; limits = h.0.limits; frames_are = h.0.frames_are; inner_are = x.around_is; stop_is = h.0.stop_is; choices_are = h.0.choices_are; room = record { frames_fit = h.0.room.frames_fit; inners_fit = h.0.room.inners_fit; choices_fit = h.0.room.choices_fit; stops_fit = h.0.room.stops_fit; frames_few = h.0.room.frames_few; inners_few = h.0.room.inners_few; choices_few = h.0.room.choices_few; stops_few = h.0.room.stops_few; refs = h.0.room.refs } }, h.1) in
    record {
      innermost = x.innermost;
      around = x.around;
      is = x.is;
      held = was_cut code l (record m { inner = x.around }) x.innermost inner.height (record r { inner = inner.around }) (record mid { inner = inner.around }) out x.height named_all.0.agrees left capacity fewer (ap (λ (y : Memory). record y { inner = inner.around }) same);
      fewer = cut_left inner.height r.choices.items mid.choices.items left;
      frame = ap (λ (y : Memory). y.frame) same;
      inner = x.older;
    }

module _ (code : Code) (l : Limits) (m : Mid) (r new : Memory) (ops : Bor (List Op)) (rest : Bor (List Op)) where
  pub committed : LeftInner code l r new m → CodeIs rest.now m → Falls code l r (Runs ops) new (Runs rest) (commits m.inner m)
  committed x at =
      let jumps = at_most_one rest.now in
      let fewer = x.fewer in
      let frame = x.frame in
      let inner = x.inner in
      subst (λ ps. Falls code l r (Runs ops) new (Runs rest) (commits ps m)) (sym x.is) (record { stands = (at, x.held); falls = omega (arith, jumps, fewer, frame, inner) })

  pub refused : LeftInner code l r new m → Falls code l r (Runs ops) new Fails (refuses m.inner m)
  refused x =
      let fewer = x.fewer in
      subst (λ ps. Falls code l r (Runs ops) new Fails (refuses ps m)) (sym x.is) (record { stands = x.held; falls = omega (arith, fewer) })

  pub fails_now : Holds code l r m → Falls code l r (Runs ops) r Fails (FailsOf m)
  fails_now h = record { stands = h; falls = omega arith }

  pub not_committed : Holds code l r m → named r.inners.items r.inner ≡ None → Falls code l r (Runs ops) r Fails (commits m.inner m)
  not_committed h is = subst (λ ps. Falls code l r (Runs ops) r Fails (commits ps m)) (sym (no_inner (meaning_of r.arena) (tags_of m.stops) r.inners.items r.inner m.inner is h.0.inner_are)) (fails_now h)

  pub not_refused : Holds code l r m → named r.inners.items r.inner ≡ None → Falls code l r (Runs ops) r Fails (refuses m.inner m)
  not_refused h is = subst (λ ps. Falls code l r (Runs ops) r Fails (refuses ps m)) (sym (no_inner (meaning_of r.arena) (tags_of m.stops) r.inners.items r.inner m.inner is h.0.inner_are)) (fails_now h)

pub few_took : (old new : Memory) → HasRoom old → Took 10 old new → 10 * length new.inners.items + 10 ≤ heap_in new
few_took old new room t = let heap = t.heap in let inners = ap (λ (r : Memory). length r.inners.items) t.others in let few = room.inners_few in omega (arith, heap, inners, few)

-- memory holds the same with another way or another call at hand
pub way_held : (code : Code) (l : Limits) (r : Memory) (m : Mid) (way : Way) → Holds code l r m → Holds code l (with_way r way) m
way_held code l r m way h = (record { saves = h.0.saves; stand = h.0.stand; state_is = h.0.state_is; limits = h.0.limits; frames_are = h.0.frames_are; inner_are = h.0.inner_are; stop_is = h.0.stop_is; choices_are = h.0.choices_are; room = record { frames_fit = h.0.room.frames_fit; inners_fit = h.0.room.inners_fit; choices_fit = h.0.room.choices_fit; stops_fit = h.0.room.stops_fit; frames_few = h.0.room.frames_few; inners_few = h.0.room.inners_few; choices_few = h.0.room.choices_few; stops_few = h.0.room.stops_few; refs = h.0.room.refs } }, h.1)

pub call_held : (code : Code) (l : Limits) (r : Memory) (m : Mid) (k : Call) → Holds code l r m → Holds code l (record r { call = k }) m
call_held code l r m k h = (record { saves = h.0.saves; stand = h.0.stand; state_is = h.0.state_is; limits = h.0.limits; frames_are = h.0.frames_are; inner_are = h.0.inner_are; stop_is = h.0.stop_is; choices_are = h.0.choices_are; room = record { frames_fit = h.0.room.frames_fit; inners_fit = h.0.room.inners_fit; choices_fit = h.0.room.choices_fit; stops_fit = h.0.room.stops_fit; frames_few = h.0.room.frames_few; inners_few = h.0.room.inners_few; choices_few = h.0.room.choices_few; stops_few = h.0.room.stops_few; refs = h.0.room.refs } }, h.1)
