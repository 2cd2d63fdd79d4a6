-- What memory goes back to.
use Rattle.std.proofs.Common.{append_assoc, drop, ◌≡◌, ℕ, ◌+◌, ◌*◌, ◌≤◌, List, [], ◌∷◌, ◌++◌, Some, None, refl, sym, ap, ◌∙◌, subst, arith, length, reverse, take, ◌-◌, vec_capacity, length-append, min, inl, inr}
use Rattle.std.proofs.lemmas.List.{length-reverse, length-drop}
use Rattle.std.proofs.lemmas.Bool.{cases_lt}
use Rattle.std.proofs.Math.Nat.{min-eq_left, min_comm}
use Rattle.dg_meaning.specs.World.{Gathering}
use Rattle.std.proofs.Math.Seq.{take-append_seam, drop-append_seam}
use Rattle.dg_base.specs.declared.run.Limits.{Limits}
use Rattle.dg_base.specs.Begins.{Begins}
use Rattle.dg_meaning.proofs.OneRun.{begins_same}
use Rattle.dg_unify.specs.Store.{State, Store, Saved, Back}
use Rattle.dg_unify.specs.declared.bindings.Ref.{Ref}
use Rattle.dg_arena.specs.declared.arena.Arena.{Arena}
use Rattle.dg_arena.specs.Held.{meaning_of, saves_of}
use Rattle.dg_mid.specs.declared.code.Code.{Code}
use Rattle.dg_mid.specs.State.{Mid, Choice as ChoiceOf}
use Rattle.dg_mid.specs.Step.{gathered_to}
use Rattle.dg_mid.specs.Stops.{choices_of}
use Rattle.dg_machine.specs.declared.now.Choice.{Choice}
use Rattle.dg_machine.specs.declared.memory.Memory.{Memory}
use Rattle.dg_machine.specs.Layout.{InnersAt, FramesAt, WayAt, ChoicesAt, HasRoom, Roomy, Holds, CanRestore, WentBack, heap_in, limit_in}
use Rattle.dg_machine.specs.Stops.{tags_of, StopIs, Among}
use Rattle.dg_machine.proofs.StopLemmas.{among_tail, among_fewer, among_same, under_up, under_few}
use Rattle.dg_machine.proofs.Kept.{way_kept, frames_kept, inners_kept}
use Rattle.dg_machine.proofs.Cuts.{drops, first_older, back_to}
use Rattle.dg_machine.proofs.Opens.{newest_is}

-- ## A choice

begun_part : {A : Type 0} (part xs : List A) (n : ℕ) → Begins part xs → length part ≡ n → take n xs ≡ part
begun_part part xs n b len = ap (λ k. take k xs) (sym len) ∙ ap (take (length part)) b.is ∙ take-append_seam part b.behind

-- the limits stay
pub record SameLimits (s t : Store) : Type 0 where
  heap : s.heap_limit ≡ t.heap_limit
  trail : s.trail_limit ≡ t.trail_limit

limits_then : (a : Arena) (sv : Saved) (ms : List Saved) → saves_of a (sv ∷ ms) → SameLimits sv.store (meaning_of a)
limits_then a sv ms h = record { heap = ap (λ (s : Store). s.heap_limit) h.0.3.store; trail = ap (λ (s : Store). s.trail_limit) h.0.3.store }

-- so many gatherings are open where a choice is gone back to
left_open : (gs : List Gathering) (height now then next : ℕ) → length gs ≡ now → height ≡ then → next ≡ min now then → length (gathered_to height gs) ≡ next
left_open gs height now then next e f is =
    let some = length-drop (length gs - height) gs in
    elim (cases_lt now then) [
      | inl lt ↦ let least : next ≡ now = is ∙ min-eq_left (omega (arith, lt)) in omega (arith, some, e, f, lt, least)
      | inr ge ↦ let least : next ≡ then = is ∙ min_comm now then ∙ min-eq_left ge in omega (arith, some, e, f, ge, least)
    ]

-- what a choice keeps of Refs
pub record KeptRefs (all then args : List Ref) (at count : ℕ) : Type 0 where
  pub left : take at all ≡ then
  pub moved : take count (drop at all) ≡ args
  pub within : at + count ≤ length all

kept_refs : (all then args : List Ref) (at count : ℕ) → Begins (then ++ args) all → length then ≡ at → length args ≡ count → KeptRefs all then args at count
kept_refs all then args at count b e f =
    let is : all ≡ then ++ (args ++ b.behind) = b.is ∙ append_assoc then args b.behind in
    let behind : drop at all ≡ args ++ b.behind = ap (λ n. drop n all) (sym e) ∙ ap (drop (length then)) is ∙ drop-append_seam then (args ++ b.behind) in
    record {
      left = ap (λ n. take n all) (sym e) ∙ ap (take (length then)) is ∙ take-append_seam then (args ++ b.behind);
      moved = ap (take count) behind ∙ ap (λ n. take n (args ++ b.behind)) (sym f) ∙ take-append_seam args b.behind;
      within = omega (arith, ap length is, length-append then (args ++ b.behind), length-append args b.behind, e, f);
    }

-- there is room for what is moved
pub record MayMove (r : Memory) (k : Choice) : Type 0 where
  pub within : k.refs + k.args ≤ length r.kept.items
  pub fits : k.args ≤ vec_capacity r.args

pub record WentBackTo (k : Choice) (r new : Memory) : Type 0 where
  pub frames : new.frames.items ≡ take k.frames r.frames.items
  pub inners : new.inners.items ≡ take k.inners r.inners.items
  pub stops : new.stops.items ≡ take k.stops r.stops.items
  pub kept : new.kept.items ≡ take k.refs r.kept.items
  pub args : new.args.items ≡ take k.args (drop k.refs r.kept.items)
  pub choices : new.choices ≡ r.choices
  pub frames_room : vec_capacity new.frames ≡ vec_capacity r.frames
  pub inners_room : vec_capacity new.inners ≡ vec_capacity r.inners
  pub stops_room : vec_capacity new.stops ≡ vec_capacity r.stops
  pub kept_room : vec_capacity new.kept ≡ vec_capacity r.kept
  pub args_room : vec_capacity new.args ≡ vec_capacity r.args
  pub heads_room : vec_capacity new.heads ≡ vec_capacity r.heads
  pub path_room : vec_capacity new.path ≡ vec_capacity r.path
  pub frame : new.frame ≡ k.frame
  pub inner : new.inner ≡ k.inner
  pub stop : new.stop ≡ k.stop
  pub gathered : new.gathered ≡ min r.gathered k.gathered

-- memory goes back to a choice whose mark stood
module _ (code : Code) (l : Limits) (r new : Memory) (k : Choice) (c : ChoiceOf) (cs : List ChoiceOf) (x : CanRestore code r k c cs) where
  pub stood : saves_of r.arena (record { mark = k.mark; store = x.saved.store } ∷ x.saves)
  stood = subst (λ y. saves_of r.arena (record { mark = y; store = x.saved.store } ∷ x.saves)) x.at.mark x.stand

  refs : KeptRefs r.kept.items x.at.refs_then x.at.args k.refs k.args
  refs = kept_refs r.kept.items x.at.refs_then x.at.args k.refs k.args x.at.refs_begin x.at.refs_len x.at.args_len

  pub may_move : Roomy l r → MayMove r k
  may_move room = record { within = refs.within; fits = let a = x.at.args_len in let b = x.at.args_few in let d = room.args in omega (arith, a, b, d) }

  module _ (back : Back x.saved.store (meaning_of new.arena)) (to : WentBackTo k r new) (room : Roomy l r) where
    was : SameLimits x.saved.store (meaning_of r.arena)
    was = limits_then r.arena (record { mark = k.mark; store = x.saved.store }) x.saves stood

    pub roomy_back : Roomy l new
    roomy_back = record {
      limits = record { heap = back.kept.heap_limit ∙ was.heap ∙ room.limits.heap; trail = back.kept.trail_limit ∙ was.trail ∙ room.limits.trail };
      frames = let a = room.frames in omega (arith, a, to.frames_room);
      inners = let a = room.inners in omega (arith, a, to.inners_room);
      choices = let a = room.choices in omega (arith, a, ap vec_capacity to.choices);
      stops = let a = room.stops in omega (arith, a, to.stops_room);
      kept = let a = room.kept in omega (arith, a, to.kept_room);
      args = let a = room.args in omega (arith, a, to.args_room);
      heads = let a = room.heads in omega (arith, a, to.heads_room);
      path = let a = room.path in omega (arith, a, to.path_room);
    }

    left_frames : new.frames.items ≡ x.at.frames_then
    left_frames = to.frames ∙ begun_part x.at.frames_then r.frames.items k.frames x.at.frames_begin x.at.frames_len

    left_inners : new.inners.items ≡ x.at.inners_then
    left_inners = to.inners ∙ begun_part x.at.inners_then r.inners.items k.inners x.at.inners_begin x.at.inners_len

    left_stops : new.stops.items ≡ x.at.stops_then
    left_stops = to.stops ∙ begun_part x.at.stops_then r.stops.items k.stops x.at.stops_begin x.at.stops_len

    left_refs : new.kept.items ≡ x.at.refs_then
    left_refs = to.kept ∙ refs.left

    args_now : new.args.items ≡ x.at.args
    args_now = to.args ∙ refs.moved

    state : (meaning_of new.arena).state ≡ c.state
    state = back.state ∙ x.at.state

    heap : heap_in new ≡ c.state.heap
    heap = ap (λ (s : State). s.heap) state

    choices_left_in : Among x.points x.means (reverse new.choices.items) cs
    choices_left_in = subst (λ v. Among x.points x.means (reverse v.items) cs) (sym to.choices) x.left_in

    stops_left_in : Among x.points x.means (reverse new.stops.items) (choices_of c.stops)
    stops_left_in = subst (λ ts. Among x.points x.means (reverse ts) (choices_of c.stops)) (sym left_stops) x.at.older_are.1

    points_few : 10 * length x.points ≤ heap_in new
    points_few = let few = under_few c.state.heap x.points x.under in omega (arith, few, heap)

    room_back : HasRoom new
    room_back =
        let limit : limit_in new ≡ l.heap = roomy_back.limits.heap in
        let few_choices = among_fewer x.points x.means (reverse new.choices.items) cs choices_left_in in
        let few_stops = among_fewer x.points x.means (reverse new.stops.items) (choices_of c.stops) stops_left_in in
        let turned = length-reverse new.choices.items in
        let turned' = length-reverse new.stops.items in
        let few = points_few in
        record {
          frames_fit = let a = roomy_back.frames in omega (arith, limit, a);
          inners_fit = let a = roomy_back.inners in omega (arith, limit, a);
          choices_fit = let a = roomy_back.choices in omega (arith, limit, a);
          stops_fit = let a = roomy_back.stops in omega (arith, limit, a);
          frames_few = let a = x.at.frames_few in omega (arith, a, heap, ap length left_frames);
          inners_few = let a = x.at.inners_few in omega (arith, a, heap, ap length left_inners);
          choices_few = omega (arith, few, few_choices, turned);
          stops_few = omega (arith, few, few_stops, turned');
          refs = record {
            kept_fit = let a = roomy_back.kept in omega (arith, limit, a);
            kept_few = let a = x.at.refs_few in omega (arith, a, heap, ap length left_refs);
            args_fit = roomy_back.args;
            args_few = let a = x.at.args_few in omega (arith, a, ap length args_now);
            heads_fit = roomy_back.heads;
            path_fit = let a = roomy_back.path in omega (arith, limit, a);
          };
        }

    choices_then : ChoicesAt code new.frames.items new.inners.items new.kept.items new.stops.items x.saves x.points x.means
    choices_then =
        subst (λ ts. ChoicesAt code new.frames.items new.inners.items new.kept.items ts x.saves x.points x.means) (sym left_stops)
        (subst (λ rs. ChoicesAt code new.frames.items new.inners.items rs x.at.stops_then x.saves x.points x.means) (sym left_refs)
        (subst (λ is. ChoicesAt code new.frames.items is x.at.refs_then x.at.stops_then x.saves x.points x.means) (sym left_inners)
        (subst (λ xs. ChoicesAt code xs x.at.inners_then x.at.refs_then x.at.stops_then x.saves x.points x.means) (sym left_frames) x.at.older_are.0)))

    frames_then : FramesAt (meaning_of new.arena) (tags_of c.stops) new.inners.items new.frames.items new.frame c.frames
    frames_then =
        let us = tags_of c.stops in
        subst (λ e. FramesAt (meaning_of new.arena) us new.inners.items new.frames.items e c.frames) (sym to.frame)
        (subst (λ is. FramesAt (meaning_of new.arena) us is new.frames.items k.frame c.frames) (sym left_inners)
        (subst (λ xs. FramesAt (meaning_of new.arena) us x.at.inners_then xs k.frame c.frames) (sym left_frames)
        (frames_kept x.saved.store (meaning_of new.arena) us us x.at.inners_then x.at.inners_then x.at.frames_then x.at.frames_then k.frame c.frames back.kept (begins_same us) (begins_same x.at.inners_then) (begins_same x.at.frames_then) x.at.frames_are)))

    pub went_back : (m : Mid) → length m.gathered ≡ r.gathered → saves_of new.arena (record { mark = k.mark; store = x.saved.store } ∷ x.saves) → WentBack code l (Some k.way) new m (c ∷ cs)
    went_back m many stays = (
      subst (λ rs. WayAt code (meaning_of new.arena) rs k.way c.way) (sym args_now) (way_kept code x.saved.store (meaning_of new.arena) x.at.args k.way c.way back.kept x.at.way),
      (
        record {
          saves = x.saves;
          stand = drops new.arena (record { mark = k.mark; store = x.saved.store }) x.saves stays;
          state_is = state;
          limits = roomy_back.limits;
          frames_are = frames_then;
          inner_are = subst (λ i. InnersAt (meaning_of new.arena) (tags_of c.stops) new.inners.items i c.inner) (sym to.inner)
              (subst (λ is. InnersAt (meaning_of new.arena) (tags_of c.stops) is k.inner c.inner) (sym left_inners) (inners_kept x.saved.store (meaning_of new.arena) (tags_of c.stops) (tags_of c.stops) x.at.inners_then x.at.inners_then k.inner c.inner back.kept (begins_same (tags_of c.stops)) (begins_same x.at.inners_then) x.at.inner_are));
          stop_is = subst (λ i. StopIs (tags_of c.stops) i c.stop) (sym to.stop) x.at.stop_is;
          choices_are = record {
            points = x.points;
            means = x.means;
            are = choices_then;
            under = under_up c.state.heap (heap_in new) x.points (omega (arith, heap)) x.under;
            choices_in = choices_left_in;
            stops_in = stops_left_in;
          };
          room = room_back;
        },
        left_open m.gathered c.height r.gathered k.gathered new.gathered many x.at.gathered to.gathered,
      ),
    )

-- ## The newest choice

-- room is left where a choice was dropped
pub dropped_roomy : (l : Limits) (r new : Memory) → Roomy l r → vec_capacity new.choices ≡ vec_capacity r.choices → Roomy l (record r { choices = new.choices })
dropped_roomy l r new h same = record { limits = h.limits; frames = h.frames; inners = h.inners; choices = let x = h.choices in omega (arith, x, same); stops = h.stops; kept = h.kept; args = h.args; heads = h.heads; path = h.path }

newest_in : (code : Code) (l : Limits) (m : Mid) (r new : Memory) (k : Choice) (cs : List ChoiceOf) → (h : Holds code l r m) → new ≡ record r { choices = new.choices } → r.choices.items ≡ new.choices.items ++ k ∷ [] → Among h.0.choices_are.points h.0.choices_are.means (reverse r.choices.items) cs →
    (c : ChoiceOf) × (ds : List ChoiceOf) × (cs ≡ c ∷ ds) × CanRestore code new k c ds
newest_in code l m r new k [] h is items x = absurd (let e = among_same h.0.choices_are.points h.0.choices_are.means (reverse r.choices.items) [] x in omega (arith, e, ap length (newest_is new.choices.items r.choices.items k items)))
newest_in code l m r new k (c ∷ cs) h is items x =
    let y = h.0.choices_are in
    let first : Among y.points y.means (k ∷ reverse new.choices.items) (c ∷ cs) = subst (λ ks. Among y.points y.means ks (c ∷ cs)) (newest_is new.choices.items r.choices.items k items) x in
    let left = among_tail y.points y.means k (reverse new.choices.items) c cs first in
    let older = first_older code r.frames.items r.inners.items r.kept.items r.stops.items h.0.saves y.points y.means k (reverse new.choices.items) c cs y.are first in
    let at = back_to code r.frames.items r.inners.items r.kept.items r.stops.items r.arena k.mark.heap h.0.saves y.points y.means k (reverse new.choices.items) c cs (reverse new.choices.items) cs refl older h.0.stand y.are first left in
    (c, cs, refl, subst (λ z. CanRestore code z k c cs) (sym is) at)

-- memory may go back to its newest choice
pub can_go_back : (code : Code) (l : Limits) (m : Mid) (r new : Memory) (k : Choice) → Holds code l r m → new ≡ record r { choices = new.choices } → r.choices.items ≡ new.choices.items ++ k ∷ [] → (c : ChoiceOf) × (ds : List ChoiceOf) × (m.choices ≡ c ∷ ds) × CanRestore code new k c ds
can_go_back code l m r new k h is items = newest_in code l m r new k m.choices h is items h.0.choices_are.choices_in

none_in : (code : Code) (l : Limits) (new : Memory) (m : Mid) (ps : List Choice) (qs : List ChoiceOf) (ks : List Choice) (cs : List ChoiceOf) → length ks ≡ 0 → Among ps qs ks cs → WentBack code l None new m cs
none_in code l new m ps qs ks [] e x = tt
none_in code l new m ps qs ks (c ∷ cs) e x = absurd (let same = among_same ps qs ks (c ∷ cs) x in omega (arith, e, same))

pub went_nowhere : (code : Code) (l : Limits) (m : Mid) (r new : Memory) → Holds code l r m → length r.choices.items ≡ 0 → WentBack code l None new m m.choices
went_nowhere code l m r new h none = none_in code l new m h.0.choices_are.points h.0.choices_are.means (reverse r.choices.items) m.choices (omega (arith, none, length-reverse r.choices.items)) h.0.choices_are.choices_in
