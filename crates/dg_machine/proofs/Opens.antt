-- What the calls of memory leave in it.
use Rattle.std.proofs.Common.{append-nil, ◌≡◌, ℕ, zero, suc, ◌+◌, ◌*◌, ◌<◌, ◌≤◌, List, [], ◌∷◌, ◌++◌, Option, Some, inl, IsTrue, false, refl, sym, ap, ◌∙◌, subst, arith, length, reverse, take, vec_capacity, length-append}
use Rattle.std.specs.List.{slice_get}
use Rattle.std.proofs.lemmas.List.{length-reverse, reverse-append, length-take-le}
use Rattle.std.proofs.lemmas.Option.{slice_get_within}
use Rattle.dg_base.specs.declared.run.Limits.{Limits}
use Rattle.dg_meaning.specs.Values.{Value}
use Rattle.dg_base.specs.Begins.{Begins}
use Rattle.dg_meaning.proofs.OneRun.{begins_same}
use Rattle.dg_unify.specs.Store.{State, Store, Saved, Kept, Charged, HeapFull, marked}
use Rattle.dg_unify.specs.declared.bindings.Mark.{Mark}
use Rattle.dg_unify.specs.declared.bindings.Full.{Full}
use Rattle.dg_unify.specs.declared.bindings.Full.TheVariants as full
use Rattle.dg_arena.specs.declared.arena.Arena.{Arena}
use Rattle.dg_arena.specs.Held.{meaning_of, saves_of}
use Rattle.dg_mid.specs.declared.code.Code.{Code}
use Rattle.dg_mid.specs.State.{Place, Mid, Stop, Goes as GoesOf, Frame as FrameOf, Call as CallOf, Way as WayOf, Choice as ChoiceOf}
use Rattle.dg_mid.specs.Step.{more, inside, within, new_choice, new_stop}
use Rattle.dg_mid.specs.Stops.{choices_of}
use Rattle.dg_machine.specs.declared.now.Frame.{Frame}
use Rattle.dg_machine.specs.declared.now.Inner.{Inner}
use Rattle.dg_machine.specs.declared.now.Choice.{Choice}
use Rattle.dg_machine.specs.declared.now.Way.{Way}
use Rattle.dg_machine.specs.declared.memory.Memory.{Memory}
use Rattle.dg_unify.specs.declared.bindings.Ref.{Ref}
use Rattle.dg_machine.specs.Refs.{RowAt}
use Rattle.dg_machine.specs.Built.{most_args}
use Rattle.dg_machine.specs.Links.{named}
use Rattle.dg_machine.specs.Layout.{RefsFit, KeptAt, InnersAt, FramesAt, WayAt, ChoicesAt, AreAmong, HasRoom, Roomy, Lacks, HoldsWith, Holds, HasFrameRoom, in_frame, heap_in, limit_in, choice_here}
use Rattle.dg_machine.specs.Measure.{way_left, choices_left}
use Rattle.dg_machine.specs.Stops.{tags_of, StopIs, Among}
use Rattle.dg_machine.proofs.StopLemmas.{among_front, among_same, tags_length, choices_length, under_up, under_few}
use Rattle.dg_machine.proofs.Kept.{way_kept, inners_kept, frames_kept, among_kept}
use Rattle.dg_unify.proofs.StoreLemmas.{kept_on}

-- ## Lists

-- what was put at the end stands there
at_end : {A : Type 0} (xs : List A) (x : A) → slice_get (xs ++ x ∷ []) (length xs) ≡ Some x
at_end [] x = refl
at_end (y ∷ xs) x = at_end xs x

pub named_end : {A : Type 0} (xs ys : List A) (n : ℕ) (x : A) → ys ≡ xs ++ x ∷ [] → n ≡ length ys → named ys n ≡ Some x
named_end xs ys n x items len =
    let last : n ≡ suc (length xs) = omega (arith, len, ap length items, length-append xs (x ∷ [])) in
    subst (λ k. named ys k ≡ Some x) (sym last) (subst (λ l. slice_get l (length xs) ≡ Some x) (sym items) (at_end xs x))

pub newest_is : {A : Type 0} (xs ys : List A) (x : A) → ys ≡ xs ++ x ∷ [] → reverse ys ≡ x ∷ reverse xs
newest_is xs ys x items = ap reverse items ∙ reverse-append xs (x ∷ [])

named_within : {A : Type 0} (xs : List A) (n : ℕ) (x : A) → named xs n ≡ Some x → n ≤ length xs
named_within xs zero x e = omega arith
named_within xs (suc n) x e = let lt = slice_get_within xs n x e in omega (arith, lt)

pub inner_within : (s : Store) (us : List ℕ) (is : List Inner) (l : ℕ) (ps : List Place) → InnersAt s us is l ps → l ≤ length is
inner_within s us is l [] h = omega (arith, h)
inner_within s us is l (p ∷ ps) h = named_within is l h.inner h.there

pub frame_within : (s : Store) (us : List ℕ) (is : List Inner) (xs : List Frame) (e : ℕ) (fs : List FrameOf) → FramesAt s us is xs e fs → e ≤ length xs
frame_within s us is xs e [] h = omega (arith, h)
frame_within s us is xs e (f ∷ fs) h = named_within xs e h.frame h.there

pub left_more : (xs : List Choice) (k : Choice) → choices_left (xs ++ k ∷ []) ≡ choices_left xs + way_left k.way
left_more [] k = omega arith
left_more (x ∷ xs) k = let more_left = left_more xs k in omega (arith, more_left)

-- ## The heap

pub grows_not : IsTrue false → ⊥
grows_not e = cc

pub heap_full : (n : ℕ) (a b : Arena) (e : Full) → HeapFull n (meaning_of a) (meaning_of b) e → (meaning_of a).heap_limit < (meaning_of a).state.heap + n
heap_full n a b full.Heap h = h.0
heap_full n a b full.Trail h = absurd h
heap_full n a b full.OutOfMemory h = absurd (grows_not h.0)

pub refs_fit_on : (limit limit' heap heap' kept_room args_room heads_room path_room : ℕ) (kept args : List Ref) → limit' ≡ limit → heap ≤ heap' → RefsFit limit heap kept_room kept args_room args heads_room path_room → RefsFit limit' heap' kept_room kept args_room args heads_room path_room
refs_fit_on limit limit' heap heap' kept_room args_room heads_room path_room kept args e le h = record { kept_fit = omega (arith, e, h.kept_fit); kept_few = omega (arith, le, h.kept_few); args_fit = h.args_fit; args_few = h.args_few; heads_fit = h.heads_fit; path_fit = omega (arith, e, h.path_fit) }

-- the same areas with another store
pub refs_on : (r : Memory) (a : Arena) → HasRoom r → Kept (meaning_of r.arena) (meaning_of a) → heap_in r ≤ heap_in (record r { arena = a }) → RefsFit (limit_in (record r { arena = a })) (heap_in (record r { arena = a })) (vec_capacity r.kept) r.kept.items (vec_capacity r.args) r.args.items (vec_capacity r.heads) (vec_capacity r.path)
refs_on r a h kept le = refs_fit_on (limit_in r) (limit_in (record r { arena = a })) (heap_in r) (heap_in (record r { arena = a })) (vec_capacity r.kept) (vec_capacity r.args) (vec_capacity r.heads) (vec_capacity r.path) r.kept.items r.args.items kept.heap_limit le h.refs

pub took_room : (n : ℕ) (r : Memory) (a : Arena) → HasRoom r → Kept (meaning_of r.arena) (meaning_of a) → Charged n (meaning_of r.arena) (meaning_of a) → HasRoom (record r { arena = a })
took_room n r a h kept charged =
    let heap : heap_in (record r { arena = a }) ≡ heap_in r + n = ap (λ (s : State). s.heap) charged.state in
    let limit : limit_in (record r { arena = a }) ≡ limit_in r = kept.heap_limit in
    record {
      frames_fit = omega (arith, limit, h.frames_fit);
      inners_fit = omega (arith, limit, h.inners_fit);
      choices_fit = omega (arith, limit, h.choices_fit);
      stops_fit = omega (arith, limit, h.stops_fit);
      frames_few = omega (arith, heap, h.frames_few);
      inners_few = omega (arith, heap, h.inners_few);
      choices_few = omega (arith, heap, h.choices_few);
      stops_few = omega (arith, heap, h.stops_few);
      refs = refs_on r a h kept (omega (arith, heap));
    }

-- what lay in memory lies in it where the heap is higher
higher : (code : Code) (l : Limits) (m : Mid) (r : Memory) (a : Arena) (h : Holds code l r m) → heap_in r ≤ heap_in (record r { arena = a }) → AreAmong code r.frames.items r.inners.items r.kept.items (heap_in (record r { arena = a })) h.0.saves r.choices.items m.choices r.stops.items m.stops
higher code l m r a h le = among_kept code r.frames.items r.frames.items r.inners.items r.inners.items r.kept.items r.kept.items (heap_in r) (heap_in (record r { arena = a })) h.0.saves r.choices.items m.choices r.stops.items m.stops (begins_same r.frames.items) (begins_same r.inners.items) (begins_same r.kept.items) le h.0.choices_are

pub took : (code : Code) (l : Limits) (m : Mid) (n : ℕ) (r : Memory) (a : Arena) → Holds code l r m → Kept (meaning_of r.arena) (meaning_of a) → ((ms : List Saved) → saves_of r.arena ms → saves_of a ms) → Charged n (meaning_of r.arena) (meaning_of a) → Holds code l (record r { arena = a }) (more n m)
took code l m n r a h kept saved charged = (
  record {
    saves = h.0.saves;
    stand = saved h.0.saves h.0.stand;
    state_is = charged.state ∙ ap (λ (s : State). record s { heap = s.heap + n }) h.0.state_is;
    limits = record { heap = kept.heap_limit ∙ h.0.limits.heap; trail = kept.trail_limit ∙ h.0.limits.trail };
    frames_are = frames_kept (meaning_of r.arena) (meaning_of a) (tags_of m.stops) (tags_of m.stops) r.inners.items r.inners.items r.frames.items r.frames.items r.frame m.frames kept (begins_same (tags_of m.stops)) (begins_same r.inners.items) (begins_same r.frames.items) h.0.frames_are;
    inner_are = inners_kept (meaning_of r.arena) (meaning_of a) (tags_of m.stops) (tags_of m.stops) r.inners.items r.inners.items r.inner m.inner kept (begins_same (tags_of m.stops)) (begins_same r.inners.items) h.0.inner_are;
    stop_is = h.0.stop_is;
    choices_are = higher code l m r a h (let heap = ap (λ (s : State). s.heap) charged.state in omega (arith, heap));
    room = took_room n r a h.0.room kept charged;
  },
  h.1,
)

-- the store was changed, and no heap was given back
pub on_arena : (code : Code) (l : Limits) (m : Mid) (s : State) (r : Memory) (a : Arena) → Holds code l r m → Kept (meaning_of r.arena) (meaning_of a) → ((ms : List Saved) → saves_of r.arena ms → saves_of a ms) → (meaning_of a).state ≡ s → m.state.heap ≤ s.heap → Holds code l (record r { arena = a }) (record m { state = s })
on_arena code l m s r a h kept saved state more_heap =
    let was : heap_in r ≡ m.state.heap = ap (λ (x : State). x.heap) h.0.state_is in
    let heap : heap_in (record r { arena = a }) ≡ s.heap = ap (λ (x : State). x.heap) state in
    let limit : limit_in (record r { arena = a }) ≡ limit_in r = kept.heap_limit in
    let room = h.0.room in (
      record {
        saves = h.0.saves;
        stand = saved h.0.saves h.0.stand;
        state_is = state;
        limits = record { heap = kept.heap_limit ∙ h.0.limits.heap; trail = kept.trail_limit ∙ h.0.limits.trail };
        frames_are = frames_kept (meaning_of r.arena) (meaning_of a) (tags_of m.stops) (tags_of m.stops) r.inners.items r.inners.items r.frames.items r.frames.items r.frame m.frames kept (begins_same (tags_of m.stops)) (begins_same r.inners.items) (begins_same r.frames.items) h.0.frames_are;
        inner_are = inners_kept (meaning_of r.arena) (meaning_of a) (tags_of m.stops) (tags_of m.stops) r.inners.items r.inners.items r.inner m.inner kept (begins_same (tags_of m.stops)) (begins_same r.inners.items) h.0.inner_are;
        stop_is = h.0.stop_is;
        choices_are = higher code l m r a h (omega (arith, heap, was, more_heap));
        room = record {
          frames_fit = omega (arith, limit, room.frames_fit);
          inners_fit = omega (arith, limit, room.inners_fit);
          choices_fit = omega (arith, limit, room.choices_fit);
          stops_fit = omega (arith, limit, room.stops_fit);
          frames_few = omega (arith, heap, was, more_heap, room.frames_few);
          inners_few = omega (arith, heap, was, more_heap, room.inners_few);
          choices_few = omega (arith, heap, was, more_heap, room.choices_few);
          stops_few = omega (arith, heap, was, more_heap, room.stops_few);
          refs = refs_on r a room kept (omega (arith, heap, was, more_heap));
        };
      },
      h.1,
    )

-- other values are at hand
pub registers_held : (code : Code) (l : Limits) (m : Mid) (r new : Memory) → Holds code l r m → vec_capacity new.args ≡ vec_capacity r.args → length new.args.items ≤ most_args → vec_capacity new.heads ≡ vec_capacity r.heads → vec_capacity new.path ≡ vec_capacity r.path → new.kept.items ≡ r.kept.items → vec_capacity new.kept ≡ vec_capacity r.kept →
    Holds code l (record r { args = new.args; heads = new.heads; path = new.path; kept = new.kept }) m
registers_held code l m r new h capacity few heads path kept kept_room =
    let room = h.0.room in (
      record {
        saves = h.0.saves;
        stand = h.0.stand;
        state_is = h.0.state_is;
        limits = h.0.limits;
        frames_are = h.0.frames_are;
        inner_are = h.0.inner_are;
        stop_is = h.0.stop_is;
        choices_are = subst (λ rs. AreAmong code r.frames.items r.inners.items rs (heap_in r) h.0.saves r.choices.items m.choices r.stops.items m.stops) (sym kept) h.0.choices_are;
        room = record {
          frames_fit = room.frames_fit;
          inners_fit = room.inners_fit;
          choices_fit = room.choices_fit;
          stops_fit = room.stops_fit;
          frames_few = room.frames_few;
          inners_few = room.inners_few;
          choices_few = room.choices_few;
          stops_few = room.stops_few;
          refs = record { kept_fit = omega (arith, kept_room, room.refs.kept_fit); kept_few = omega (arith, ap length kept, room.refs.kept_few); args_fit = omega (arith, capacity, room.refs.args_fit); args_few = few; heads_fit = omega (arith, heads, room.refs.heads_fit); path_fit = omega (arith, path, room.refs.path_fit) };
        };
      },
      h.1,
    )

pub roomy : (code : Code) (l : Limits) (m : Mid) (r : Memory) → Holds code l r m → Roomy l r
roomy code l m r h =
    let limit = h.0.limits.heap in
    let room = h.0.room in
    record {
      limits = h.0.limits;
      frames = omega (arith, limit, room.frames_fit);
      inners = omega (arith, limit, room.inners_fit);
      choices = omega (arith, limit, room.choices_fit);
      stops = omega (arith, limit, room.stops_fit);
      kept = omega (arith, limit, room.refs.kept_fit);
      args = room.refs.args_fit;
      heads = room.refs.heads_fit;
      path = omega (arith, limit, room.refs.path_fit);
    }

-- the same room, where the store keeps its limits
pub roomy_on : (l : Limits) (r : Memory) (a : Arena) → Roomy l r → Kept (meaning_of r.arena) (meaning_of a) → Roomy l (record r { arena = a })
roomy_on l r a h kept = record { limits = record { heap = kept.heap_limit ∙ h.limits.heap; trail = kept.trail_limit ∙ h.limits.trail }; frames = h.frames; inners = h.inners; choices = h.choices; stops = h.stops; kept = h.kept; args = h.args; heads = h.heads; path = h.path }

-- the same room in other registers
pub registers_roomy : (l : Limits) (r new : Memory) → Roomy l r → vec_capacity new.args ≡ vec_capacity r.args → vec_capacity new.heads ≡ vec_capacity r.heads → vec_capacity new.path ≡ vec_capacity r.path → vec_capacity new.kept ≡ vec_capacity r.kept → Roomy l (record r { args = new.args; heads = new.heads; path = new.path; kept = new.kept })
registers_roomy l r new h args heads path kept = record { limits = h.limits; frames = h.frames; inners = h.inners; choices = h.choices; stops = h.stops; kept = let x = h.kept in omega (arith, x, kept); args = let x = h.args in omega (arith, x, args); heads = let x = h.heads in omega (arith, x, heads); path = let x = h.path in omega (arith, x, path) }

pub fits : (code : Code) (l : Limits) (m : Mid) (r : Memory) → Holds code l r m → m.state.heap ≤ l.heap
fits code l m r h =
    let within : heap_in r ≤ limit_in r = r.arena.sound.heap_fits in
    let limit = h.0.limits.heap in
    let heap = ap (λ (s : State). s.heap) h.0.state_is in
    omega (arith, within, limit, heap)

pub lacks : (code : Code) (l : Limits) (m : Mid) (n : ℕ) (r : Memory) (a b : Arena) (e : Full) → Holds code l r m → Kept (meaning_of r.arena) (meaning_of a) → (meaning_of a).state.heap ≡ (meaning_of r.arena).state.heap → Kept (meaning_of a) (meaning_of b) → HeapFull n (meaning_of a) (meaning_of b) e → Lacks n l m.state.heap (record r { arena = b })
lacks code l m n r a b e h kept heap kept' f =
    let over = heap_full n a b e f in
    let limit = h.0.limits.heap in
    let limit' = kept.heap_limit in
    let state = ap (λ (s : State). s.heap) h.0.state_is in
    record { over = omega (arith, over, limit, limit', heap, state); roomy = roomy_on l (record r { arena = a }) b (roomy_on l r a (roomy code l m r h) kept) kept' }

-- ## Choices

marks_here : (a : Arena) (mark : Mark) (ms : List Saved) → saves_of a (record { mark = mark; store = meaning_of a } ∷ ms) → (meaning_of a).state.heap ≡ mark.heap
marks_here a mark ms h = ap (λ (s : Store). s.state.heap) h.0.3.store

taken_length : {A : Type 0} (n : ℕ) (xs : List A) → n ≤ length xs → length (take n xs) ≡ n
taken_length n xs le = length-take-le n xs le

-- a choice opens, and a stoppable part with it or none
module _ (code : Code) (l : Limits) (m : Mid) (on : WayOf) (n counted : ℕ) (r new : Memory) (a : Arena) (w : Way) (mark : Mark) (h : Holds code l r m) (way : WayAt code (meaning_of r.arena) (take n r.args.items) w on) (few_args : n ≤ length r.args.items)
    (kept : Kept (meaning_of r.arena) (meaning_of a)) (saved : (ms : List Saved) → saves_of r.arena ms → saves_of a (record { mark = mark; store = meaning_of a } ∷ ms)) (same : (meaning_of a).state ≡ marked (meaning_of r.arena).state)
    (kept' : Kept (meaning_of a) (meaning_of new.arena)) (saved' : (ms : List Saved) → saves_of a ms → saves_of new.arena ms) (charged : Charged (10 + counted) (meaning_of a) (meaning_of new.arena))
    (kept_items : new.kept.items ≡ r.kept.items ++ take n r.args.items) (items : new.choices.items ≡ r.choices.items ++ choice_here r w n mark ∷ []) where
  abbrev pub k : Choice
  k = choice_here r w n mark

  abbrev pub here : Saved
  here = record { mark = mark; store = meaning_of a }

  stand : saves_of a (here ∷ h.0.saves)
  stand = saved h.0.saves h.0.stand

  state : (meaning_of a).state ≡ marked m.state
  state = same ∙ ap marked h.0.state_is

  was : heap_in r ≡ m.state.heap
  was = ap (λ (s : State). s.heap) h.0.state_is

  high : m.state.heap ≡ mark.heap
  high = ap (λ (s : State). s.heap) (sym state) ∙ marks_here a mark h.0.saves stand

  grown : heap_in new ≡ heap_in r + (10 + counted)
  grown = ap (λ (s : State). s.heap) charged.state ∙ ap (λ (s : State). s.heap + (10 + counted)) same

  now : Kept (meaning_of r.arena) (meaning_of new.arena)
  now = kept_on (meaning_of r.arena) (meaning_of a) (meaning_of new.arena) kept kept'

  abbrev pub points : List Choice
  points = h.0.choices_are.points

  abbrev pub means : List ChoiceOf
  means = h.0.choices_are.means

  frames_in : (s : Store) (us : List ℕ) → Kept (meaning_of r.arena) s → Begins (tags_of m.stops) us → FramesAt s us r.inners.items r.frames.items r.frame m.frames
  frames_in s us kept_in b = frames_kept (meaning_of r.arena) s (tags_of m.stops) us r.inners.items r.inners.items r.frames.items r.frames.items r.frame m.frames kept_in b (begins_same r.inners.items) (begins_same r.frames.items) h.0.frames_are

  choice_in : (ts : List Choice) → Begins r.stops.items ts → ChoicesAt code r.frames.items r.inners.items new.kept.items ts (here ∷ h.0.saves) (k ∷ points) (new_choice on m ∷ means)
  choice_in ts b =
      let few = h.0.room in
      let count : length (take n r.args.items) ≡ n = taken_length n r.args.items few_args in (
        record {
          args = take n r.args.items;
          way = way_kept code (meaning_of r.arena) (meaning_of a) (take n r.args.items) w on kept way;
          mark = refl;
          state = state;
          height = high;
          heap = high;
          frames_then = r.frames.items;
          inners_then = r.inners.items;
          frames_begin = begins_same r.frames.items;
          inners_begin = begins_same r.inners.items;
          frames_len = refl;
          inners_len = refl;
          stops_then = r.stops.items;
          stops_begin = b;
          stops_len = refl;
          refs_then = r.kept.items;
          refs_begin = record { behind = []; is = kept_items ∙ sym (append-nil (r.kept.items ++ take n r.args.items)) };
          refs_len = refl;
          args_len = count;
          args_few = omega (arith, count, few_args, few.refs.args_few);
          refs_few = omega (arith, few.refs.kept_few, was);
          frames_are = frames_in (meaning_of a) (tags_of m.stops) kept (begins_same (tags_of m.stops));
          inner_are = inners_kept (meaning_of r.arena) (meaning_of a) (tags_of m.stops) (tags_of m.stops) r.inners.items r.inners.items r.inner m.inner kept (begins_same (tags_of m.stops)) (begins_same r.inners.items) h.0.inner_are;
          stop_is = h.0.stop_is;
          frames_few = omega (arith, few.frames_few, was);
          inners_few = omega (arith, few.inners_few, was);
          gathered = h.1;
          older_are = (h.0.choices_are.are, h.0.choices_are.stops_in);
        },
        under_up (heap_in r) m.state.heap points (omega (arith, was)) h.0.choices_are.under,
      )

  pub opened_with : (new' : Memory) (ss : List Stop) (stop : Option ℕ) → new' ≡ record r { arena = new.arena; choices = new.choices; kept = new.kept; stops = new'.stops; stop = new'.stop } → Begins (tags_of m.stops) (tags_of ss) → StopIs (tags_of ss) new'.stop stop → Begins r.stops.items new'.stops.items →
      Among (k ∷ points) (new_choice on m ∷ means) (reverse new'.stops.items) (choices_of ss) → HasRoom new' → HoldsWith code l new' (inside on counted m).state m.frames m.inner (new_choice on m ∷ m.choices) ss stop
  opened_with new' ss stop is b stop_is b' stops_in room =
      let low : mark.heap < heap_in new = omega (arith, grown, was, high) in
      let few : 10 * length (k ∷ points) ≤ heap_in new = let x = under_few (heap_in r) points h.0.choices_are.under in omega (arith, grown, x) in
      let whole : HoldsWith code l (record r { arena = new.arena; choices = new.choices; kept = new.kept; stops = new'.stops; stop = new'.stop }) (inside on counted m).state m.frames m.inner (new_choice on m ∷ m.choices) ss stop =
      record {
        saves = here ∷ h.0.saves;
        stand = saved' (here ∷ h.0.saves) stand;
        state_is = charged.state ∙ ap (λ (s : State). record s { heap = s.heap + (10 + counted) }) state;
        limits = record { heap = now.heap_limit ∙ h.0.limits.heap; trail = now.trail_limit ∙ h.0.limits.trail };
        frames_are = frames_in (meaning_of new.arena) (tags_of ss) now b;
        inner_are = inners_kept (meaning_of r.arena) (meaning_of new.arena) (tags_of m.stops) (tags_of ss) r.inners.items r.inners.items r.inner m.inner now b (begins_same r.inners.items) h.0.inner_are;
        stop_is = stop_is;
        choices_are = record {
          points = k ∷ points;
          means = new_choice on m ∷ means;
          are = choice_in new'.stops.items b';
          under = (low, few);
          choices_in = subst (λ ks. Among (k ∷ points) (new_choice on m ∷ means) ks (new_choice on m ∷ m.choices)) (sym (newest_is r.choices.items new.choices.items k items)) (inl (refl, refl, h.0.choices_are.choices_in));
          stops_in = stops_in;
        };
        room = subst HasRoom is room;
      } in
      subst (λ x. HoldsWith code l x (inside on counted m).state m.frames m.inner (new_choice on m ∷ m.choices) ss stop) (sym is) whole

  pub opened : HasRoom (record r { arena = new.arena; choices = new.choices; kept = new.kept }) → Holds code l (record r { arena = new.arena; choices = new.choices; kept = new.kept }) (inside on counted m)
  opened room = (
    opened_with (record r { arena = new.arena; choices = new.choices; kept = new.kept }) m.stops m.stop refl (begins_same (tags_of m.stops)) h.0.stop_is (begins_same r.stops.items)
        (among_front k (new_choice on m) points means (reverse r.stops.items) (choices_of m.stops) h.0.choices_are.stops_in) room,
    h.1,
  )

  -- the areas of choices and of stoppable parts have grown by the choice
  pub parted_held : (alt : ℕ) (new' : Memory) → on ≡ GoesOf alt → counted ≡ 0 → new' ≡ record r { arena = new.arena; choices = new.choices; kept = new.kept; stops = new'.stops; stop = new'.stop } → new'.stops.items ≡ r.stops.items ++ k ∷ [] → new'.stop ≡ length new'.stops.items → HasRoom new' → HoldsWith code l new' (inside on counted m).state m.frames m.inner (new_choice on m ∷ m.choices) (new_stop alt m ∷ m.stops) (Some m.next_tag)
  parted_held alt new' goes none is items' last room =
      let x = h.0.choices_are in
      let tags : List ℕ = tags_of (new_stop alt m ∷ m.stops) in
      let many : length new'.stops.items ≡ length tags = omega (arith, ap length items', length-append r.stops.items (k ∷ []), length-reverse r.stops.items, among_same points means (reverse r.stops.items) (choices_of m.stops) x.stops_in, choices_length m.stops, tags_length m.stops, length-append (tags_of m.stops) (m.next_tag ∷ [])) in
      let place : new'.stop ≡ length tags = last ∙ many in
      opened_with new' (new_stop alt m ∷ m.stops) (Some m.next_tag) is (record { behind = m.next_tag ∷ []; is = refl }) (record { within = omega (arith, place); is = named_end (tags_of m.stops) tags new'.stop m.next_tag refl place })
      (record { behind = k ∷ []; is = items' })
      (subst (λ ts. Among (k ∷ points) (new_choice on m ∷ means) ts (choices_of (new_stop alt m ∷ m.stops))) (sym (newest_is r.stops.items new'.stops.items k items')) (inl (refl, ap (λ w'. new_choice w' m) (sym goes), x.stops_in))) room

pub opened_room : (n counted : ℕ) (r new : Memory) (a : Arena) (k : Choice) → HasRoom r → n ≤ length r.args.items → n ≤ 10 + counted → Kept (meaning_of r.arena) (meaning_of a) → (meaning_of a).state ≡ marked (meaning_of r.arena).state → Kept (meaning_of a) (meaning_of new.arena) → Charged (10 + counted) (meaning_of a) (meaning_of new.arena) →
    new.kept.items ≡ r.kept.items ++ take n r.args.items → vec_capacity new.kept ≡ vec_capacity r.kept → new.choices.items ≡ r.choices.items ++ k ∷ [] → vec_capacity new.choices ≡ vec_capacity r.choices → HasRoom (record r { arena = new.arena; choices = new.choices; kept = new.kept })
opened_room n counted r new a k h few_args fewer kept same kept' charged kept_items kept_capacity items capacity =
    let heap : heap_in new ≡ heap_in r + (10 + counted) = ap (λ (s : State). s.heap) charged.state ∙ ap (λ (s : State). s.heap + (10 + counted)) same in
    let limit : limit_in new ≡ limit_in r = kept'.heap_limit ∙ kept.heap_limit in
    let more_choices : length new.choices.items ≡ length r.choices.items + 1 = ap length items ∙ length-append r.choices.items (k ∷ []) in
    let count : length (take n r.args.items) ≡ n = taken_length n r.args.items few_args in
    let more_refs : length new.kept.items ≡ length r.kept.items + length (take n r.args.items) = ap length kept_items ∙ length-append r.kept.items (take n r.args.items) in
    record {
      frames_fit = omega (arith, limit, h.frames_fit);
      inners_fit = omega (arith, limit, h.inners_fit);
      choices_fit = omega (arith, limit, capacity, h.choices_fit);
      stops_fit = omega (arith, limit, h.stops_fit);
      frames_few = omega (arith, heap, h.frames_few);
      inners_few = omega (arith, heap, h.inners_few);
      choices_few = omega (arith, heap, more_choices, h.choices_few);
      stops_few = omega (arith, heap, h.stops_few);
      refs = record {
        kept_fit = omega (arith, limit, kept_capacity, h.refs.kept_fit);
        kept_few = omega (arith, heap, count, fewer, more_refs, h.refs.kept_few);
        args_fit = h.refs.args_fit;
        args_few = h.refs.args_few;
        heads_fit = h.refs.heads_fit;
        path_fit = omega (arith, limit, h.refs.path_fit);
      };
    }

pub parted_room : (r new : Memory) (a : Arena) (k : Choice) → HasRoom r → Kept (meaning_of r.arena) (meaning_of a) → (meaning_of a).state ≡ marked (meaning_of r.arena).state → Kept (meaning_of a) (meaning_of new.arena) → Charged 10 (meaning_of a) (meaning_of new.arena) →
    new.choices.items ≡ r.choices.items ++ k ∷ [] → vec_capacity new.choices ≡ vec_capacity r.choices → new.stops.items ≡ r.stops.items ++ k ∷ [] → vec_capacity new.stops ≡ vec_capacity r.stops → HasRoom (record r { arena = new.arena; choices = new.choices; stops = new.stops; stop = new.stop })
parted_room r new a k h kept same kept' charged items capacity items' capacity' =
    let x = opened_room 0 0 r (record r { arena = new.arena; choices = new.choices }) a k h (omega arith) (omega arith) kept same kept' charged (sym (append-nil r.kept.items)) refl items capacity in
    let heap : heap_in new ≡ heap_in r + 10 = ap (λ (s : State). s.heap) charged.state ∙ ap (λ (s : State). s.heap + 10) same in
    let limit : limit_in new ≡ limit_in r = kept'.heap_limit ∙ kept.heap_limit in
    let more_stops : length new.stops.items ≡ length r.stops.items + 1 = ap length items' ∙ length-append r.stops.items (k ∷ []) in
    record {
      frames_fit = x.frames_fit;
      inners_fit = x.inners_fit;
      choices_fit = x.choices_fit;
      stops_fit = omega (arith, limit, capacity', h.stops_fit);
      frames_few = x.frames_few;
      inners_few = x.inners_few;
      choices_few = x.choices_few;
      stops_few = omega (arith, heap, more_stops, h.stops_few);
      refs = x.refs;
    }

pub kept_same : (s : Store) → Kept s s
kept_same s = record { values = λ r v e. e; places = omega arith; words = λ at w e. e; heap_limit = refl; trail_limit = refl; grows = refl }

-- ## Inner constructs

pub begun : (code : Code) (l : Limits) (m : Mid) (p : Place) (r new : Memory) (inner : Inner) → Holds code l r m → p.height ≡ inner.height → StopIs (tags_of m.stops) inner.stop p.outer → KeptAt (meaning_of r.arena) inner.kept p.gathers → inner.around ≡ r.inner → 10 * length r.inners.items + 10 ≤ heap_in r →
    new.inners.items ≡ r.inners.items ++ inner ∷ [] → vec_capacity new.inners ≡ vec_capacity r.inners → new.inner ≡ length new.inners.items → Holds code l (record r { inners = new.inners; inner = new.inner }) (within p m)
begun code l m p r new inner h height outer kept around few items capacity last =
    let s = meaning_of r.arena in
    let more_inners : length new.inners.items ≡ length r.inners.items + 1 = ap length items ∙ length-append r.inners.items (inner ∷ []) in
    let begins : Begins r.inners.items new.inners.items = record { behind = inner ∷ []; is = items } in
    let in_list = inner_within (meaning_of r.arena) (tags_of m.stops) r.inners.items r.inner m.inner h.0.inner_are in
    let room = h.0.room in (
      record {
        saves = h.0.saves;
        stand = h.0.stand;
        state_is = h.0.state_is;
        limits = h.0.limits;
        frames_are = frames_kept s s (tags_of m.stops) (tags_of m.stops) r.inners.items new.inners.items r.frames.items r.frames.items r.frame m.frames (kept_same s) (begins_same (tags_of m.stops)) begins (begins_same r.frames.items) h.0.frames_are;
        inner_are = record {
          inner = inner;
          there = named_end r.inners.items new.inners.items new.inner inner items last;
          height = height;
          outer = outer;
          kept = kept;
          older = omega (arith, around, last, more_inners, in_list);
          around_is = subst (λ k. InnersAt s (tags_of m.stops) new.inners.items k m.inner) (sym around) (inners_kept s s (tags_of m.stops) (tags_of m.stops) r.inners.items new.inners.items r.inner m.inner (kept_same s) (begins_same (tags_of m.stops)) begins h.0.inner_are);
        };
        stop_is = h.0.stop_is;
        choices_are = among_kept code r.frames.items r.frames.items r.inners.items new.inners.items r.kept.items r.kept.items (heap_in r) (heap_in r) h.0.saves r.choices.items m.choices r.stops.items m.stops (begins_same r.frames.items) begins (begins_same r.kept.items) (omega arith) h.0.choices_are;
        room = record {
          frames_fit = room.frames_fit;
          inners_fit = omega (arith, room.inners_fit, capacity);
          choices_fit = room.choices_fit;
          stops_fit = room.stops_fit;
          frames_few = room.frames_few;
          inners_few = omega (arith, few, more_inners);
          choices_few = room.choices_few;
          stops_few = room.stops_few;
          refs = room.refs;
        };
      },
      h.1,
    )

-- ## Frames

pub framed : (code : Code) (l : Limits) (m : Mid) (c : CallOf) (vs : List Value) (r new : Memory) (frame : Frame) → Holds code l r m → c.next ≡ frame.next → c.many ≡ frame.many → c.cut.height ≡ frame.cut → RowAt (meaning_of r.arena) frame.vars vs →
    frame.inner ≡ r.inner → frame.behind ≡ r.frame → HasFrameRoom r → new.frames.items ≡ r.frames.items ++ frame ∷ [] → vec_capacity new.frames ≡ vec_capacity r.frames → new.frame ≡ length new.frames.items → new.inner ≡ 0 →
    Holds code l (record r { frames = new.frames; frame = new.frame; inner = new.inner }) (in_frame c vs m)
framed code l m c vs r new frame h next many cut vars inner behind few items capacity last none =
    let more_frames : length new.frames.items ≡ length r.frames.items + 1 = ap length items ∙ length-append r.frames.items (frame ∷ []) in
    let begins : Begins r.frames.items new.frames.items = record { behind = frame ∷ []; is = items } in
    let s = meaning_of r.arena in
    let in_list = frame_within s (tags_of m.stops) r.inners.items r.frames.items r.frame m.frames h.0.frames_are in
    let room = h.0.room in (
      record {
        saves = h.0.saves;
        stand = h.0.stand;
        state_is = h.0.state_is;
        limits = h.0.limits;
        frames_are = record {
          frame = frame;
          there = named_end r.frames.items new.frames.items new.frame frame items last;
          next = next;
          many = many;
          cut = cut;
          vars = vars;
          inner_is = subst (λ k. InnersAt s (tags_of m.stops) r.inners.items k m.inner) (sym inner) h.0.inner_are;
          older = omega (arith, behind, last, more_frames, in_list);
          behind_is = subst (λ k. FramesAt s (tags_of m.stops) r.inners.items new.frames.items k m.frames) (sym behind)
              (frames_kept s s (tags_of m.stops) (tags_of m.stops) r.inners.items r.inners.items r.frames.items new.frames.items r.frame m.frames (kept_same s) (begins_same (tags_of m.stops)) (begins_same r.inners.items) begins h.0.frames_are);
        };
        inner_are = none;
        stop_is = h.0.stop_is;
        choices_are = among_kept code r.frames.items new.frames.items r.inners.items r.inners.items r.kept.items r.kept.items (heap_in r) (heap_in r) h.0.saves r.choices.items m.choices r.stops.items m.stops begins (begins_same r.inners.items) (begins_same r.kept.items) (omega arith) h.0.choices_are;
        room = record {
          frames_fit = omega (arith, room.frames_fit, capacity);
          inners_fit = room.inners_fit;
          choices_fit = room.choices_fit;
          stops_fit = room.stops_fit;
          frames_few = omega (arith, few, more_frames);
          inners_few = room.inners_few;
          choices_few = room.choices_few;
          stops_few = room.stops_few;
          refs = room.refs;
        };
      },
      h.1,
    )
