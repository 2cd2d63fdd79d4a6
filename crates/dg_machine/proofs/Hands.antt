-- What is at hand, and what stays where it is left.
use Rattle.std.proofs.Common.{◌≡◌, ℕ, ◌+◌, ◌<◌, ◌≤◌, List, [], ◌∷◌, ◌++◌, Some, None, false, refl, sym, ap, ◌∙◌, subst, arith, length, reverse, inl, inr, vec_capacity}
use Rattle.std.specs.Prelude.{nat_lt}
use Rattle.std.proofs.lemmas.List.{reverse-append}
use Rattle.std.proofs.lemmas.Bool.{cond-true, cond-false, cases_lt, lt-ltb, le-ltb}
use Rattle.dg_base.specs.declared.run.Limits.{Limits}
use Rattle.dg_unify.specs.Store.{Store}
use Rattle.dg_arena.specs.Held.{meaning_of}
use Rattle.dg_mid.specs.declared.code.Op.{Op}
use Rattle.dg_mid.specs.declared.code.Op.TheVariants as op
use Rattle.dg_mid.specs.declared.code.Code.{Code}
use Rattle.dg_mid.specs.State.{Place, Mid, Frame as FrameOf, Choice as ChoiceOf, cut_choices}
use Rattle.dg_mid.specs.Step.{more, cut_to}
use Rattle.dg_mid.specs.Heights.{AgreeAll}
use Rattle.dg_mid.specs.Falling.{jumping}
use Rattle.dg_mid.specs.Potential.{begins_goto}
use Rattle.dg_machine.specs.declared.now.Frame.{Frame}
use Rattle.dg_machine.specs.declared.now.Inner.{Inner}
use Rattle.dg_machine.specs.declared.now.Choice.{Choice}
use Rattle.dg_machine.specs.declared.memory.Memory.{Memory}
use Rattle.dg_machine.specs.Refs.{RowAt}
use Rattle.dg_machine.specs.Links.{named, below}
use Rattle.dg_machine.specs.Layout.{KeptAt, InnersAt, FramesAt, HasRoom, Holds, heap_in, limit_in}
use Rattle.dg_machine.specs.Measure.{choices_left}
use Rattle.dg_machine.specs.Stops.{tags_of, StopIs, Among}
use Rattle.dg_machine.proofs.Cuts.{among_cut}
use Rattle.dg_machine.proofs.Opens.{inner_within, frame_within, left_more}

-- ## At hand

-- the newest of these frames is this one
pub record NewestFrame (s : Store) (us : List ℕ) (inners : List Inner) (xs : List Frame) (e : ℕ) (frame : Frame) (fs : List FrameOf) : Type 0 where
  pub newest : FrameOf
  pub behind : List FrameOf
  pub is : fs ≡ newest ∷ behind
  pub next : newest.next ≡ frame.next
  pub many : newest.many ≡ frame.many
  pub cut : newest.cut.height ≡ frame.cut
  pub vars : RowAt s frame.vars newest.vars
  pub inner_is : InnersAt s us inners frame.inner newest.inner
  pub older : frame.behind < e
  pub behind_is : FramesAt s us inners xs frame.behind behind

pub some_frame : (s : Store) (us : List ℕ) (is : List Inner) (xs : List Frame) (e : ℕ) (frame : Frame) (fs : List FrameOf) → named xs e ≡ Some frame → FramesAt s us is xs e fs → NewestFrame s us is xs e frame fs
some_frame s us is xs e frame [] n h = let none : named xs 0 ≡ Some frame = subst (λ k. named xs k ≡ Some frame) h n in absurd (cc)
some_frame s us is xs e frame (f ∷ fs) n h =
    let same : h.frame ≡ frame = let there = h.there in cc in
    record {
      newest = f;
      behind = fs;
      is = refl;
      next = h.next ∙ ap (λ (x : Frame). x.next) same;
      many = h.many ∙ ap (λ (x : Frame). x.many) same;
      cut = h.cut ∙ ap (λ (x : Frame). x.cut) same;
      vars = subst (λ (x : Frame). RowAt s x.vars f.vars) same h.vars;
      inner_is = subst (λ (x : Frame). InnersAt s us is x.inner f.inner) same h.inner_is;
      older = subst (λ (x : Frame). x.behind < e) same h.older;
      behind_is = subst (λ (x : Frame). FramesAt s us is xs x.behind fs) same h.behind_is;
    }

pub no_frame : (s : Store) (us : List ℕ) (is : List Inner) (xs : List Frame) (e : ℕ) (fs : List FrameOf) → named xs e ≡ None → FramesAt s us is xs e fs → fs ≡ []
no_frame s us is xs e [] n h = refl
no_frame s us is xs e (f ∷ fs) n h = let there = h.there in absurd (cc)

-- the innermost of these inner constructs is this one
pub record Innermost (s : Store) (us : List ℕ) (inners : List Inner) (l : ℕ) (inner : Inner) (ps : List Place) : Type 0 where
  pub innermost : Place
  pub around : List Place
  pub is : ps ≡ innermost ∷ around
  pub height : innermost.height ≡ inner.height
  pub outer : StopIs us inner.stop innermost.outer
  pub kept : KeptAt s inner.kept innermost.gathers
  pub older : inner.around < l
  pub around_is : InnersAt s us inners inner.around around

pub some_inner : (s : Store) (us : List ℕ) (is : List Inner) (l : ℕ) (inner : Inner) (ps : List Place) → named is l ≡ Some inner → InnersAt s us is l ps → Innermost s us is l inner ps
some_inner s us is l inner [] n h = let none : named is 0 ≡ Some inner = subst (λ k. named is k ≡ Some inner) h n in absurd (cc)
some_inner s us is l inner (p ∷ ps) n h =
    let same : h.inner ≡ inner = let there = h.there in cc in
    record {
      innermost = p;
      around = ps;
      is = refl;
      height = h.height ∙ ap (λ (x : Inner). x.height) same;
      outer = subst (λ (x : Inner). StopIs us x.stop p.outer) same h.outer;
      kept = subst (λ (x : Inner). KeptAt s x.kept p.gathers) same h.kept;
      older = subst (λ (x : Inner). x.around < l) same h.older;
      around_is = subst (λ (x : Inner). InnersAt s us is x.around ps) same h.around_is;
    }

pub no_inner : (s : Store) (us : List ℕ) (is : List Inner) (l : ℕ) (ps : List Place) → named is l ≡ None → InnersAt s us is l ps → ps ≡ []
no_inner s us is l [] n h = refl
no_inner s us is l (p ∷ ps) n h = let there = h.there in absurd (cc)

-- ## Cuts

pub nothing_more : (code : Code) (l : Limits) (r : Memory) (m : Mid) → Holds code l r m → Holds code l r (more 0 m)
nothing_more code l r m h =
    let same : m.state.heap ≡ m.state.heap + 0 = omega arith in
    (record { saves = h.0.saves; stand = h.0.stand; state_is = h.0.state_is ∙ ap (λ n. record m.state { heap = n }) same; limits = h.0.limits; frames_are = h.0.frames_are; inner_are = h.0.inner_are; stop_is = h.0.stop_is; choices_are = h.0.choices_are; room = h.0.room }, h.1)

pub cut_held : (code : Code) (l : Limits) (m : Mid) (p : Place) (to : ℕ) (r new : Memory) → Holds code l r m → p.height ≡ to → AgreeAll m.choices p → reverse new.choices.items ≡ below to (reverse r.choices.items) → HasRoom (record r { choices = new.choices }) → Holds code l (record r { choices = new.choices }) (cut_to p m)
cut_held code l m p to r new h height agree left room =
    let x = h.0.choices_are in
    let left_in = among_cut code r.frames.items r.inners.items r.kept.items r.stops.items p to h.0.saves x.points x.means (reverse r.choices.items) m.choices height agree x.are x.choices_in in (
      record {
        saves = h.0.saves;
        stand = h.0.stand;
        state_is = h.0.state_is;
        limits = h.0.limits;
        frames_are = h.0.frames_are;
        inner_are = h.0.inner_are;
        stop_is = h.0.stop_is;
        choices_are = record {
          points = x.points;
          means = x.means;
          are = x.are;
          under = x.under;
          choices_in = subst (λ ks. Among x.points x.means ks (cut_choices p m.choices)) (sym left) left_in;
          stops_in = x.stops_in;
        };
        room = room;
      },
      h.1,
    )

pub cut_room : (r new : Memory) → HasRoom r → vec_capacity new.choices ≡ vec_capacity r.choices → length new.choices.items ≤ length r.choices.items → HasRoom (record r { choices = new.choices })
cut_room r new h capacity fewer = record {
  frames_fit = h.frames_fit;
  inners_fit = h.inners_fit;
  choices_fit = omega (arith, h.choices_fit, capacity);
  stops_fit = h.stops_fit;
  frames_few = h.frames_few;
  inners_few = h.inners_few;
  choices_few = omega (arith, h.choices_few, fewer);
  stops_few = h.stops_few;
  refs = h.refs;
}

-- nothing is older than the beginning
pub below_none : (ks : List Choice) → below 0 ks ≡ []
below_none [] = refl
below_none (k ∷ ks) = cond-false (nat_lt k.mark.heap 0) (k ∷ ks) (below 0 ks) (le-ltb k.mark.heap 0 (omega arith)) ∙ below_none ks

pub cut_none : (p : Place) (cs : List ChoiceOf) → p.tag ≡ 0 → cut_choices p cs ≡ []
cut_none p [] e = refl
cut_none p (c ∷ cs) e = cond-false (nat_lt c.place.tag p.tag) (c ∷ cs) (cut_choices p cs) (le-ltb c.place.tag p.tag (omega (arith, e))) ∙ cut_none p cs e

pub agree_none : (p : Place) (cs : List ChoiceOf) → p.tag ≡ 0 → p.height ≡ 0 → AgreeAll cs p
agree_none p [] e h = tt
agree_none p (c ∷ cs) e h = (record { older = λ lt. absurd (omega (arith, lt, e)); newer = λ ge. omega (arith, h) }, agree_none p cs e h)

-- ## The number that falls

left_below : (to : ℕ) (ks : List Choice) → choices_left (below to ks) ≤ choices_left ks
left_below to [] = omega arith
left_below to (k ∷ ks) =
    elim (cases_lt k.mark.heap to) [
      | inl lt ↦ subst (λ l. choices_left l ≤ choices_left (k ∷ ks)) (sym (cond-true (nat_lt k.mark.heap to) (k ∷ ks) (below to ks) (lt-ltb k.mark.heap to lt))) (omega arith)
      | inr ge ↦
          let further = left_below to ks in
          subst (λ l. choices_left l ≤ choices_left (k ∷ ks)) (sym (cond-false (nat_lt k.mark.heap to) (k ∷ ks) (below to ks) (le-ltb k.mark.heap to ge))) (omega (arith, further))
    ]

left_back : (xs : List Choice) → choices_left (reverse xs) ≡ choices_left xs
left_back [] = refl
left_back (x ∷ xs) =
    let turned : reverse (x ∷ xs) ≡ reverse xs ++ x ∷ [] = reverse-append (x ∷ []) xs in
    let more_left = left_more (reverse xs) x in
    let rest = left_back xs in
    ap choices_left turned ∙ omega (arith, more_left, rest)

pub cut_left : (to : ℕ) (xs ys : List Choice) → reverse ys ≡ below to (reverse xs) → choices_left ys ≤ choices_left xs
cut_left to xs ys e =
    let a = left_below to (reverse xs) in
    let b = left_back xs in
    let c = left_back ys in
    let d = ap choices_left e in
    omega (arith, a, b, c, d)

pub no_jump : (ops : List Op) → begins_goto ops ≡ false → jumping ops ≡ 0
no_jump [] e = refl
no_jump (op.Goto b ∷ ops) e = absurd (cc)
no_jump (x ∷ ops) e = refl

pub at_most_one : (ops : List Op) → jumping ops ≤ 1
at_most_one [] = omega arith
at_most_one (op.Goto b ∷ ops) = omega arith
at_most_one (x ∷ ops) = omega arith

-- frames and inner constructs are few
pub record Few (r : Memory) : Type 0 where
  pub frame : r.frame ≤ 500000000
  pub inner : r.inner ≤ 500000000
  pub frames : length r.frames.items ≤ 500000000
  pub inners : length r.inners.items ≤ 500000000

pub few : (code : Code) (l : Limits) (r : Memory) (m : Mid) → Holds code l r m → Few r
few code l r m h =
    let small : limit_in r ≤ 2147483648 = r.arena.roomy.small in
    let within : heap_in r ≤ limit_in r = r.arena.sound.heap_fits in
    let room = h.0.room in
    let in_frames = frame_within (meaning_of r.arena) (tags_of m.stops) r.inners.items r.frames.items r.frame m.frames h.0.frames_are in
    let in_inners = inner_within (meaning_of r.arena) (tags_of m.stops) r.inners.items r.inner m.inner h.0.inner_are in
    record {
      frame = omega (arith, small, within, room.frames_few, in_frames);
      inner = omega (arith, small, within, room.inners_few, in_inners);
      frames = omega (arith, small, within, room.frames_few);
      inners = omega (arith, small, within, room.inners_few);
    }
