-- What choices between goals come to.
use Rattle.std.proofs.Common.{◌≡◌, ℕ, ◌+◌, ◌^◌, ◌<◌, ◌≤◌, List, [], ◌∷◌, ◌++◌, Bool, true, false, refl, sym, ap, ◌∙◌, subst, arith, length, length-append, Bor}
use Rattle.std.specs.Prelude.{reverse, Result as Answer, Ok, Err, IfOk}
use Rattle.std.specs.List.{All}
use Rattle.dg_base.specs.declared.program.Goal.{Goal, out-Goal}
use Rattle.dg_base.specs.declared.program.Goal.TheVariants.{Either, Once, Not, If, Forever, Exhaust, Stoppable, Collect, Accumulate, outs-Either, outs-Once, outs-Not, outs-If, outs-Forever, outs-Exhaust, outs-Stoppable, outs-Collect, outs-Accumulate}
use Rattle.dg_base.specs.declared.program.Goal.TheOpen as part
use Rattle.dg_base.specs.declared.program.Term.{Term}
use Rattle.dg_choices.specs.declared.frames.Whole.{Whole}
use Rattle.dg_choices.specs.declared.frames.Whole.TheVariants.{List as InList, Sum as InSum}
use Rattle.dg_interp.specs.inside.Gathering.{gathering_goal}
use Rattle.dg_base.specs.Goals.{terms_held}
use Rattle.dg_meaning.specs.Values.{Value}
use Rattle.dg_meaning.specs.World.{Game, World}
use Rattle.dg_meaning.specs.Cells.{writing}
use Rattle.dg_meaning.specs.Path.{Step, Do, Cut, Refuse, Registers, Plain, Failing, Chooses}
use Rattle.dg_meaning.specs.Moves.{begun, inside, enter, choice, goals_at, list_branches, outcome, path_of}
use Rattle.dg_meaning.specs.Transcript.{Run}
use Rattle.dg_interp.specs.Runnable.{AreRunnable}
use Rattle.dg_meaning.specs.inside.Keeps.{After, Stands}
use Rattle.dg_meaning.proofs.Keeps.{stands_happened}
use Rattle.dg_interp.proofs.RunnableLemmas.{runnable_inside, lists_runnable, three_runnable}
use Rattle.dg_unify.specs.Store.{Store, State, Saved, Kept, Charged, HeapFull}
use Rattle.dg_unify.specs.declared.bindings.Full.{Full}
use Rattle.dg_unify.specs.declared.bindings.Full.TheVariants as full
use Rattle.dg_unify.specs.declared.list.ListBindings.{ListBindings}
use Rattle.dg_choices.specs.declared.frames.Env.{Env}
use Rattle.dg_choices.specs.declared.frames.Frame.{Frame}
use Rattle.dg_choices.specs.declared.frames.Left.TheVariants.{Lists, Ways}
use Rattle.dg_choices.specs.declared.frames.Mark.TheVariants.{Nothing, CutTo, RefuseTo, Exhausted}
use Rattle.dg_interp.specs.declared.engine.Engine.{Engine}
use Rattle.dg_interp.specs.inside.Frames.{values_in, mark_steps, steps_behind, steps_at, IsFrame, IsLeft}
use Rattle.dg_unify.specs.inside.Engines.{Agrees}
use Rattle.dg_interp.specs.inside.Engine.{store_in, KeepsPlaces, steps_of, IsReady, Point, TakesAt, OpensAt, IsSound, FailsAt, IsPushed, IsAgain, FullAt, Leads, Silent, WentOn, Branches}
use Rattle.dg_interp.proofs.Links.{same_here, same_values, same_append, behind_same, at_same, stand_raise}
use Rattle.dg_interp.proofs.Takes.{behind, taken_in, comes_of, adds_taken, store_sound, agrees_here, peak_here}
use Rattle.dg_interp.proofs.Places.{peak_begun, inside_in, inside_kept, adds_nothing, limits_on}
use Rattle.dg_interp.proofs.Branches.{went_on_from, ended_from}
use Rattle.dg_interp.proofs.Opens.{opens, pushed_behind, pushed_same, pushed_takes}
use Rattle.dg_interp.proofs.Stores.{values_kept, hold_front}

pub branches_made : (A B : Point) (old mid new : Engine) → mid.left ≡ old.left → Silent old mid → Leads A B → (r : Answer Bool Full) → IfOk r (λ found. Branches B found mid new) → IfOk r (λ found. Branches A found old new)
branches_made A B old between new left limits h (Ok true) k = went_on_from A B old between new left limits h k
branches_made A B old between new left limits h (Ok false) k = ended_from A B Failing old between new left limits h k
branches_made A B old between new left limits h (Err e) k = tt

-- ## What runnable goals hold

pub either_runnable : (lists : List (List Goal)) → AreRunnable (Either lists ∷ []) → All AreRunnable lists
either_runnable lists h = lists_runnable lists (runnable_inside (Either lists) [] (part.Either lists) (outs-Either lists) h)

pub once_runnable : (goals : List Goal) → AreRunnable (Once goals ∷ []) → AreRunnable goals
once_runnable goals h = runnable_inside (Once goals) [] (part.Once goals) (outs-Once goals) h

pub not_runnable : (goals : List Goal) → AreRunnable (Not goals ∷ []) → AreRunnable goals
not_runnable goals h = runnable_inside (Not goals) [] (part.Not goals) (outs-Not goals) h

pub exhaust_runnable : (goals : List Goal) → AreRunnable (Exhaust goals ∷ []) → AreRunnable goals
exhaust_runnable goals h = runnable_inside (Exhaust goals) [] (part.Exhaust goals) (outs-Exhaust goals) h

pub stoppable_runnable : (goals : List Goal) → AreRunnable (Stoppable goals ∷ []) → AreRunnable goals
stoppable_runnable goals h = runnable_inside (Stoppable goals) [] (part.Stoppable goals) (outs-Stoppable goals) h

pub gathering_runnable : (whole : Whole) (term : Term) (goals : List Goal) (into : Term) → AreRunnable (gathering_goal whole term goals into ∷ []) → AreRunnable goals
gathering_runnable InList term goals into h = runnable_inside (Collect term goals into) [] (part.Collect term goals into) (outs-Collect term goals into) h
gathering_runnable InSum term goals into h = runnable_inside (Accumulate term goals into) [] (part.Accumulate term goals into) (outs-Accumulate term goals into) h

pub if_runnable : (test first other : List Goal) → AreRunnable (If test first other ∷ []) → AreRunnable test × AreRunnable first × AreRunnable other
if_runnable test first other h = three_runnable test first other (runnable_inside (If test first other) [] (part.If test first other) (outs-If test first other) h)

-- ## Where an engine stands

-- the values of an engine's Refs
abbrev pub values_of : Engine → Env → List Value
values_of e = values_in (store_in e.store) e.refs.items

-- the steps behind all frames
abbrev pub behind_all : Engine → List Step
behind_all e = steps_behind (values_of e) e.frames.items (length e.frames.items)

-- ## A frame behind the others

pub record Behind (frame : Frame) (old new : Engine) : Type 0 where
  pub all : behind_all new ≡ steps_at (values_of old) old.frames.items frame
  pub same : (f : Frame) → IsFrame (length old.frames.items) (length old.refs.items) f → steps_at (values_of new) new.frames.items f ≡ steps_at (values_of old) old.frames.items f
  pub older : (k : ℕ) → k ≤ length old.frames.items → steps_behind (values_of new) new.frames.items k ≡ steps_behind (values_of old) old.frames.items k
  pub takes : (x : Goal) (g : Game) (n : ℕ) (w : World) (run : Run) → TakesAt x old g n w run → TakesAt x new g n w run
  pub limits : Silent old new

pub pushed_means : (frame : Frame) (old new : Engine) → IsReady old → IsFrame (length old.frames.items) (length old.refs.items) frame → IsPushed frame old new → Behind frame old new
pushed_means frame old new ready is p = subst (Behind frame old) (sym p.same) (record {
  all = pushed_behind old frame new.frames ready is p.frames;
  same = pushed_same old frame new.frames ready is p.frames;
  older = λ k le.
      ap (λ (l : List Frame). steps_behind (values_of old) l k) p.frames
      ∙ behind_same (length old.refs.items) (values_of old) (values_of old) old.frames.items (old.frames.items ++ frame ∷ []) (length old.frames.items) k le (same_values (length old.refs.items) (values_of old)) ready.sound.base.frames (same_append old.frames.items frame);
  takes = pushed_takes old frame new.frames ready is p.frames;
  limits = record { heap = refl; trail = refl; aux = refl; keep = refl; told = refl };
})

pub pushed_leads : (x : Goal) (frame : Frame) (old new : Engine) → Behind frame old new → (B : Point) → Leads (TakesAt x new) B → Leads (TakesAt x old) B
pushed_leads x frame old new b B h g n w run st = h g n w run (b.takes x g n w run st)

pub stays : (A : Point) → Leads A A
stays A g n w run st = record { world = w; adds = adds_nothing w; holds = st }

-- where the engine goes on is behind the others
pub pushed_here : (old new : Engine) → IsReady old → IsPushed old.here old new → behind_all new ≡ steps_of new
pushed_here old new ready p =
    let b = pushed_means old.here old new ready ready.here p in
    b.all ∙ sym (b.same old.here ready.here) ∙ ap (steps_at (values_of new) new.frames.items) (sym (ap (λ (e : Engine). e.here) p.same))

pub pushed_room : (frame : Frame) (old new : Engine) → IsPushed frame old new → old.newest + 1 + old.left < 2 ^ 64 → new.newest + 1 + new.left < 2 ^ 64
pushed_room frame old new p room = subst (λ (e : Engine). e.newest + 1 + e.left < 2 ^ 64) (sym p.same) room

-- goals in front of where the engine goes on
abbrev pub then_frame : Bor (List Goal) → Engine → Frame
then_frame goals e = record e.here { goals = goals; mark = Nothing; behind = length e.frames.items }

pub then_is : (goals : Bor (List Goal)) (e : Engine) → IsReady e → AreRunnable goals.now → IsFrame (length e.frames.items) (length e.refs.items) (then_frame goals e)
then_is goals e ready runnable = record { runnable = runnable; older = omega arith; env = ready.here.env }

-- both were put behind the others
pub record Twice (goals : Bor (List Goal)) (old between new : Engine) : Type 0 where
  pub all : behind_all new ≡ goals_at (values_of new new.here.env) new.here.tag goals.now ++ steps_of new
  pub older : steps_behind (values_of new) new.frames.items (length between.frames.items) ≡ steps_of new
  pub takes : (x : Goal) (g : Game) (n : ℕ) (w : World) (run : Run) → TakesAt x old g n w run → TakesAt x new g n w run
  pub limits : Silent old new

pub twice : (goals : Bor (List Goal)) (old between new : Engine) → IsReady old → AreRunnable goals.now → IsPushed old.here old between → IsPushed (then_frame goals between) between new → Twice goals old between new
twice goals old between new ready runnable p q =
    let f = then_frame goals between in
    let b = pushed_means old.here old between ready ready.here p in
    let is = then_is goals between p.ready runnable in
    let c = pushed_means f between new p.ready is q in
    let here : behind_all between ≡ steps_of between = pushed_here old between ready p in
    let again : steps_of new ≡ steps_of between = ap (steps_at (values_of new) new.frames.items) (ap (λ (e : Engine). e.here) q.same) ∙ c.same between.here p.ready.here in
    let values : values_of new ≡ values_of between = ap values_of q.same in
    record {
      all =
          c.all
          ∙ ap (λ l. goals_at (values_of between between.here.env) between.here.tag goals.now ++ l) (here ∙ sym again)
          ∙ sym (ap (λ (e : Engine). goals_at (values_of e e.here.env) e.here.tag goals.now ++ steps_of new) q.same);
      older = c.older (length between.frames.items) (omega arith) ∙ here ∙ sym again;
      takes = λ x g n w run st. c.takes x g n w run (b.takes x g n w run st);
      limits = limits_on old between new b.limits c.limits;
    }

-- ## Negation

pub not_opens : (goals : Bor (List Goal)) (old : Engine) → Leads (TakesAt (Not goals.now) old) (OpensAt (Ways (record old.here { goals = goals; mark = RefuseTo (old.newest + 1); behind = 0 }) old.here) old)
not_opens goals old =
    let env = values_of old old.here.env in
    let t = old.here.tag in
    opens (Not goals.now) old (ap terms_held (outs-Not goals.now)) _ refl
    (λ g r w same tag.
    ap (λ f. outcome g f env t (steps_of old) r w) (outs-Not goals.now)
    ∙ ap (λ k. Chooses Plain r.next_tag (enter 10 0 r (goals_at env t goals.now ++ Refuse k ∷ [])) (enter 0 0 r (steps_of old) ∷ []) w) tag)

-- ## All answers

pub exhaust_opens : (goals : Bor (List Goal)) (old : Engine) → Leads (TakesAt (Exhaust goals.now) old) (OpensAt (Ways (record old.here { goals = goals; mark = Exhausted; behind = 0 }) old.here) old)
exhaust_opens goals old =
    let env = values_of old old.here.env in
    opens (Exhaust goals.now) old (ap terms_held (outs-Exhaust goals.now)) _ refl (λ g r w same tag. ap (λ f. outcome g f env old.here.tag (steps_of old) r w) (outs-Exhaust goals.now))

-- ## The endless choice

again_steps : (again : Frame) (old : Engine) → IsAgain Forever again old → steps_at (values_of old) old.frames.items again ≡ Do Forever (values_of old old.here.env) old.here.tag ∷ steps_of old
again_steps again old is =
    ap (steps_at (values_of old) old.frames.items) is.rest
    ∙ ap (λ (l : List Goal). goals_at (values_of old old.here.env) old.here.tag l ++ mark_steps (values_of old old.here.env) old.here.mark old.here.tag (steps_behind (values_of old) old.frames.items old.here.behind)) is.goals

pub forever_opens : (again : Frame) (old : Engine) → IsAgain Forever again old → Leads (TakesAt Forever old) (OpensAt (Ways old.here again) old)
forever_opens again old is =
    opens Forever old (ap terms_held outs-Forever) _ refl
    (λ g r w same tag.
    ap (λ f. outcome g f (values_of old old.here.env) old.here.tag (steps_of old) r w) outs-Forever
    ∙ ap (λ l. Chooses Plain r.next_tag (enter 10 0 r (steps_of old)) (enter 0 0 r l ∷ []) w) (sym (again_steps again old is)))

-- ## A choice between lists

pub either_opens : (lists : Bor (List (List Goal))) (old : Engine) → behind_all old ≡ steps_of old → Leads (TakesAt (Either lists.now) old) (OpensAt (Lists old.here.env old.here.tag lists) old)
either_opens lists old is =
    let env = values_of old old.here.env in
    let t = old.here.tag in
    opens (Either lists.now) old (ap terms_held (outs-Either lists.now)) _ refl
    (λ g r w same tag.
    ap (λ f. outcome g f env t (steps_of old) r w) (outs-Either lists.now)
    ∙ ap (λ l. choice Plain r.next_tag (list_branches env t l r lists.now) w) (sym is))

pub no_lists : {A : Type 0} (xs : List A) → length xs ≤ 0 → xs ≡ []
no_lists [] h = refl
no_lists (x ∷ xs) h = absurd (omega (arith, h))

pub either_fails : (lists : List (List Goal)) (old : Engine) → lists ≡ [] → Leads (TakesAt (Either lists) old) (FailsAt old)
either_fails lists old none g n w run st =
    let x = Either lists in
    let r = behind x old g n w run st in
    let v = taken_in x old g n w run st in
    let env = values_of old old.here.env in
    record {
      world = v;
      adds = adds_taken r (writing (terms_held (out-Goal x))) w;
      holds = record {
        inside = inside_in _ st.at.inside.world (peak_here x old (ap terms_held (outs-Either lists)) g n w run st) st.at.inside;
        failed = subst (λ m. After g st.at.inside.lives st.at.ways n m run)
            (ap (λ f. outcome g f env old.here.tag (steps_of old) r v) (outs-Either lists) ∙ ap (λ l. choice Plain r.next_tag (list_branches env old.here.tag (steps_of old) r l) v) none) (comes_of x old g n w run st);
      };
    }

-- ## A condition

pub if_opens : (test first other : Bor (List Goal)) (old : Engine) (k : ℕ) → behind_all old ≡ goals_at (values_of old old.here.env) old.here.tag first.now ++ steps_of old → steps_behind (values_of old) old.frames.items k ≡ steps_of old →
    Leads (TakesAt (If test.now first.now other.now) old) (OpensAt (Ways (record old.here { goals = test; mark = CutTo (old.newest + 1); behind = length old.frames.items }) (record old.here { goals = other; mark = Nothing; behind = k })) old)
if_opens test first other old k all older =
    let env = values_of old old.here.env in
    let t = old.here.tag in
    let steps = steps_of old in
    opens (If test.now first.now other.now) old (ap terms_held (outs-If test.now first.now other.now)) _ refl
    (λ g r w same tag.
    ap (λ f. outcome g f env t steps r w) (outs-If test.now first.now other.now)
    ∙ ap (λ i. Chooses Plain r.next_tag (enter 10 0 r (goals_at env t test.now ++ Cut i ∷ (goals_at env t first.now ++ steps))) (enter 0 0 r (goals_at env t other.now ++ steps) ∷ []) w) tag
    ∙ ap (λ l. Chooses Plain r.next_tag (enter 10 0 r (goals_at env t test.now ++ Cut (old.newest + 1) ∷ l)) (enter 0 0 r (goals_at env t other.now ++ steps) ∷ []) w) (sym all)
    ∙ ap (λ l. Chooses Plain r.next_tag (enter 10 0 r (goals_at env t test.now ++ Cut (old.newest + 1) ∷ behind_all old)) (enter 0 0 r (goals_at env t other.now ++ l) ∷ []) w) (sym older))

-- the frames of a condition, where the engine goes on behind both
abbrev pub test_frame : Bor (List Goal) → Engine → Frame
test_frame test e = record e.here { goals = test; mark = CutTo (e.newest + 1); behind = length e.frames.items }

abbrev pub other_frame : Bor (List Goal) → Engine → Engine → Frame
other_frame other between e = record e.here { goals = other; mark = Nothing; behind = length between.frames.items }

pub branch_opens : (test first other : Bor (List Goal)) (old between e : Engine) → IsReady old → AreRunnable first.now → IsPushed old.here old between → IsPushed (then_frame first between) between e → Leads (TakesAt (If test.now first.now other.now) old) (OpensAt (Ways (test_frame test e) (other_frame other between e)) e)
branch_opens test first other old between e ready runnable p q g n w run st =
    let t = twice first old between e ready runnable p q in
    if_opens test first other e (length between.frames.items) t.all t.older g n w run (t.takes (If test.now first.now other.now) g n w run st)

pub branch_left : (test first other : Bor (List Goal)) (old between e : Engine) → IsReady old → AreRunnable test.now → AreRunnable first.now → AreRunnable other.now → IsPushed old.here old between → IsPushed (then_frame first between) between e → IsLeft (length e.frames.items) (length e.refs.items) (Ways (test_frame test e) (other_frame other between e))
branch_left test first other old between e ready runnable runnable1 runnable2 p q =
    let here = q.ready.here in
    (record { runnable = runnable; older = omega arith; env = here.env }, record { runnable = runnable2; older = omega (arith, ap (λ (l : List Frame). length l) q.frames, length-append between.frames.items (then_frame first between ∷ [])); env = here.env })

-- ## A first answer

module _ (goals : Bor (List Goal)) (old : Engine) (ready : IsReady old) (all : behind_all old ≡ steps_of old) where
  abbrev x : Goal
  x = Once goals.now

  abbrev env : List Value
  env = values_of old old.here.env

  once_steps : Registers → List Step
  once_steps r = goals_at env old.here.tag goals.now ++ Cut r.next_tag ∷ steps_of old

  once_stands : (g : Game) (n : ℕ) (w : World) (run : Run) (st : TakesAt x old g n w run) → Stands g st.at.inside.lives st.at.ways (path_of (once_steps (behind x old g n w run st)) (inside 10 (behind x old g n w run st))) n (begun (inside 10 (behind x old g n w run st)) 0 (taken_in x old g n w run st)) run
  unfolding once_steps
  once_stands g n w run st = subst (λ f. After g st.at.inside.lives st.at.ways n (outcome g f env old.here.tag (steps_of old) (behind x old g n w run st) (taken_in x old g n w run st)) run) (outs-Once goals.now) (comes_of x old g n w run st)

  held_none : terms_held (out-Goal x) ≡ []
  held_none = ap terms_held (outs-Once goals.now)

  pub once_full : (e : Full) (t : Store) → HeapFull 10 (store_in old.store) t e → FullAt (TakesAt x old) (store_in old.store) e
  once_full full.Heap t h = λ g n w run st.
      let later = (stands_happened g st.at.inside.lives st.at.ways _ n _ run (once_stands g n w run st)).meters in
      let a = agrees_here x old held_none g n w run st in
      omega (arith, later.heap, h.0, a.heap)
  once_full full.Trail t h = absurd h
  once_full full.OutOfMemory t h = tt

  module _ (store : ListBindings) (is : IsFrame (length old.frames.items) (length old.refs.items) (record old.here { goals = goals; mark = CutTo (old.newest + 1); behind = length old.frames.items })) (room : old.newest + 1 + old.left < 2 ^ 64)
      (k : Kept (store_in old.store) (store_in store)) (saved : (ms : List Saved) → KeepsPlaces old.store ms → KeepsPlaces store ms) (charged : Charged 10 (store_in old.store) (store_in store)) where
    abbrev first : Frame
    first = record old.here { goals = goals; mark = CutTo (old.newest + 1); behind = length old.frames.items }

    abbrev new : Engine
    new = record old { store = store; newest = old.newest + 1; here = first }

    agrees_now : (r : Registers) → Agrees (store_in old.store) r → Agrees (store_in store) (inside 10 r)
    agrees_now r a =
        let now = charged.state in
        record {
          bound = a.bound ∙ ap (λ (t : State). t.subst) (sym now);
          vars = a.vars ∙ ap (λ (t : State). t.vars) (sym now);
          heap = omega (arith, a.heap, ap (λ (t : State). t.heap) now);
          trail = omega (arith, a.trail, ap (λ (t : State). t.trail) now);
          since = omega (arith, a.since, ap (λ (t : State). t.since) now, ap (λ (t : State). t.vars) now);
        }

    same_first : steps_of new ≡ goals_at env old.here.tag goals.now ++ Cut (old.newest + 1) ∷ steps_of old
    same_first =
        at_same (length old.refs.items) (values_of old) (values_of new) old.frames.items old.frames.items (length old.frames.items) first is
        (values_kept (length old.refs.items) (store_in old.store) (store_in store) old.refs.items old.refs.items k (hold_front (store_in old.store) old.refs.items ready.sound.base.hold) refl) ready.sound.base.frames (same_here (length old.frames.items) old.frames.items)
        ∙ ap (λ l. goals_at env old.here.tag goals.now ++ Cut (old.newest + 1) ∷ l) all

    stood : IsSound (record old { store = store; made = old.made })
    stood = store_sound old store old.made k saved ready.sound

    pub once_begun : WentOn (TakesAt x old) old new
    unfolding once_steps
    once_begun = record {
      ready = record {
        sound = record {
          base = record {
            program = ready.sound.base.program;
            sound = ready.sound.base.sound;
            hold = stood.base.hold;
            frames = ready.sound.base.frames;
            choices = stand_raise old.frames.items (length old.frames.items) (length old.frames.items) (length old.refs.items) (length old.refs.items) old.newest (old.newest + 1) (reverse old.choices.items) (omega arith) (omega arith) (omega arith) ready.sound.base.choices;
            places = record { saved = stood.base.places.saved; keeps = stood.base.places.keeps; back_to = stood.base.places.back_to };
          };
          room = room;
          picks = ready.sound.picks;
        };
        here = is;
      };
      left = refl;
      limits = record { heap = k.heap_limit; trail = k.trail_limit; aux = refl; keep = refl; calls = []; told = refl };
      leads = λ g n w run st.
          let r = behind x old g n w run st in
          let v = taken_in x old g n w run st in
          let a = adds_taken r (writing (terms_held (out-Goal x))) w in
          let agrees = agrees_now r (agrees_here x old held_none g n w run st) in
          record {
            world = begun (inside 10 r) 0 v;
            adds = record { events_are = a.events_are; typed = refl };
            holds = record {
              at = record {
                inside = inside_kept _ _ saved st.at.inside.world (peak_begun store (inside 10 r) 0 v agrees (omega (arith, peak_here x old held_none g n w run st, k.heap_limit))) st.at.inside;
                ways = st.at.ways;
                ways_are = st.at.ways_are;
                registers = inside 10 r;
                agrees = agrees;
                tag = ap (λ i. i + 1) st.at.tag;
                stop = st.at.stop;
              };
              stands = subst (λ l. Stands g st.at.inside.lives st.at.ways (path_of l (inside 10 r)) n (begun (inside 10 r) 0 v) run) (ap (λ i. goals_at env old.here.tag goals.now ++ Cut i ∷ steps_of old) st.at.tag ∙ sym same_first) (once_stands g n w run st);
            };
          };
    }
