-- What the taking of a goal comes to.
use Rattle.std.proofs.Common.{◌≡◌, ℕ, ◌+◌, ◌≤◌, List, [], refl, sym, ap, ◌∙◌, arith}
use Rattle.std.specs.Prelude.{reverse}
use Rattle.std.specs.declared.vec.Vec.{Vec}
use Rattle.std.specs.declared.alloc.Global.{Global}
use Rattle.dg_base.specs.declared.program.Goal.{Goal, out-Goal}
use Rattle.dg_base.specs.Goals.{terms_held}
use Rattle.dg_meaning.specs.Values.{Value}
use Rattle.dg_meaning.specs.World.{Game, World, worked}
use Rattle.dg_meaning.specs.Cells.{cells, writing}
use Rattle.dg_meaning.specs.Path.{Registers}
use Rattle.dg_meaning.specs.Moves.{begun, behind_terms, outcome}
use Rattle.dg_meaning.specs.Transcript.{Run}
use Rattle.dg_meaning.specs.inside.OneRun.{Grows}
use Rattle.dg_meaning.specs.inside.Keeps.{After}
use Rattle.dg_meaning.proofs.Keeps.{has_happened, takes}
use Rattle.dg_meaning.proofs.Search.{outcome_grows}
use Rattle.dg_meaning.proofs.OneRun.{grows_on}
use Rattle.dg_unify.specs.Store.{Saved, Kept}
use Rattle.dg_unify.specs.declared.bindings.Ref.{Ref}
use Rattle.dg_unify.specs.declared.bindings.Full.{Full}
use Rattle.dg_unify.specs.declared.bindings.Full.TheVariants as full
use Rattle.dg_unify.specs.declared.list.ListBindings.{ListBindings}
use Rattle.dg_interp.specs.declared.engine.Engine.{Engine}
use Rattle.dg_terms.specs.Terms.{Overflows}
use Rattle.dg_interp.specs.inside.Frames.{values_in}
use Rattle.dg_interp.specs.inside.Engine.{store_in, KeepsPlaces, steps_of, IsSound, IsReady, TakesAt, FullAt, Adds}
use Rattle.dg_unify.proofs.StoreLemmas.{all_hold}
use Rattle.dg_unify.specs.inside.Engines.{Agrees}
use Rattle.dg_interp.proofs.Places.{peak_begun}
use Rattle.dg_interp.proofs.Kept.{back_limits}

-- ## A goal

module _ (x : Goal) (e : Engine) (g : Game) (n : ℕ) (w : World) (run : Run) (st : TakesAt x e g n w run) where
  abbrev values : List Value
  values = values_in (store_in e.store) e.refs.items e.here.env

  -- the registers behind its terms
  abbrev pub behind : Registers
  behind = behind_terms g (out-Goal x) st.at.registers

  -- the world in which it is taken
  abbrev pub taken_in : World
  taken_in = begun behind (writing (terms_held (out-Goal x))) (worked 1 w)

  pub comes_of : After g st.at.inside.lives st.at.ways n (outcome g (out-Goal x) values e.here.tag (steps_of e) behind taken_in) run
  comes_of = takes g st.at.inside.lives st.at.ways x values e.here.tag (steps_of e) st.at.registers n w run st.stands

  pub taken_grows : Grows taken_in run.world
  taken_grows = grows_on taken_in _ run.world (outcome_grows g (out-Goal x) values e.here.tag (steps_of e) behind taken_in) (has_happened g st.at.inside.lives st.at.ways n (outcome g (out-Goal x) values e.here.tag (steps_of e) behind taken_in) run comes_of)

-- what is reached where it is taken
pub peak_taken : (x : Goal) (e : Engine) (store : ListBindings) (g : Game) (n : ℕ) (w : World) (run : Run) (st : TakesAt x e g n w run) → Agrees (store_in store) (behind x e g n w run st) → w.meters.heap ≤ (store_in store).heap_limit → (taken_in x e g n w run st).meters.heap ≤ (store_in store).heap_limit
peak_taken x e store g n w run st agrees peak = peak_begun store (behind x e g n w run st) (writing (terms_held (out-Goal x))) (worked 1 w) agrees peak

-- a goal without terms leaves the registers where they agree
pub no_cells : (r heap : ℕ) → heap ≡ 0 → r + heap ≡ r
no_cells r heap e = omega (arith, e)

module _ (x : Goal) (old : Engine) (none : terms_held (out-Goal x) ≡ []) (g : Game) (n : ℕ) (w : World) (run : Run) (st : TakesAt x old g n w run) where
  pub agrees_here : Agrees (store_in old.store) (behind x old g n w run st)
  agrees_here =
      let r = behind x old g n w run st in
      let heap : r.heap ≡ st.at.registers.heap = no_cells st.at.registers.heap _ (ap (cells g.program) none) in
      record { bound = st.at.agrees.bound; vars = st.at.agrees.vars; heap = heap ∙ st.at.agrees.heap; trail = st.at.agrees.trail; since = st.at.agrees.since }

  pub peak_here : (taken_in x old g n w run st).meters.heap ≤ (store_in old.store).heap_limit
  peak_here = peak_taken x old old.store g n w run st agrees_here st.at.inside.peak

pub adds_taken : (r : Registers) (work : ℕ) (w : World) → Adds [] w (begun r work (worked 1 w))
adds_taken r work w = record { events_are = refl; typed = refl }

-- the heap is full where its terms are written
pub terms_full : (x : Goal) (old : Engine) (e : Full) → ((g : Game) → old.program.now ≡ g.program → Overflows (cells g.program (terms_held (out-Goal x))) (store_in old.store) e) → FullAt (TakesAt x old) (store_in old.store) e
terms_full x old full.Heap h = λ g n w run st. let grows = (taken_grows x old g n w run st).meters in omega (arith, grows.heap, h g st.at.inside.program, st.at.agrees.heap)
terms_full x old full.Trail h = absurd (h (record { program = old.program.now; dice = [] }) refl)
terms_full x old full.OutOfMemory h = tt

-- ## The store has grown

module _ (old : Engine) (store : ListBindings) (made : Vec Ref Global) (k : Kept (store_in old.store) (store_in store)) (saved : (ms : List Saved) → KeepsPlaces old.store ms → KeepsPlaces store ms) where
  pub store_sound : IsSound old → IsSound (record old { store = store; made = made })
  store_sound sound = record {
    base = record {
      program = sound.base.program;
      sound = sound.base.sound;
      hold = all_hold (store_in old.store) (store_in store) old.refs.items k sound.base.hold;
      frames = sound.base.frames;
      choices = sound.base.choices;
      places = record { saved = sound.base.places.saved; keeps = saved sound.base.places.saved sound.base.places.keeps; back_to = back_limits old.refs.items _ _ _ _ (reverse old.choices.items) sound.base.places.saved (sym k.heap_limit) (sym k.trail_limit) sound.base.places.back_to };
    };
    room = sound.room;
    picks = sound.picks;
  }

  pub store_ready : IsReady old → IsReady (record old { store = store; made = made })
  store_ready ready = record { sound = store_sound ready.sound; here = ready.here }
