-- What is kept in a gathering.
use Rattle.std.proofs.Common.{◌≡◌, ℕ, ◌<◌, ◌≤◌, List, [], Option, Some, None, refl, sym, ap, ◌∙◌, subst, arith, map}
use Rattle.dg_base.specs.declared.program.Term.{out-Term}
use Rattle.dg_base.specs.declared.program.Term.TheVariants.{Var as Var-Term}
use Rattle.dg_base.specs.declared.program.CoreProgram.{CoreProgram}
use Rattle.dg_meaning.specs.Values.{Value, value_of, value_of_var}
use Rattle.dg_meaning.specs.Substitutions.{resolved}
use Rattle.dg_meaning.specs.World.{Game, World, worked, gathered_with, gathered_size, kept}
use Rattle.dg_meaning.specs.Path.{Moves, FailsAt as FailsMove}
use Rattle.dg_meaning.specs.Moves.{keeping}
use Rattle.dg_meaning.specs.Transcript.{Run}
use Rattle.dg_meaning.specs.inside.OneRun.{Grows}
use Rattle.dg_meaning.specs.inside.Context.{tags_of, IsNewest}
use Rattle.dg_meaning.specs.inside.Keeps.{Failed}
use Rattle.dg_meaning.proofs.Keeps.{has_happened, passes_keep, keeps_in_newest}
use Rattle.dg_unify.specs.Store.{Store, State, Saved, Kept, Made, told, or_nil}
use Rattle.dg_unify.specs.declared.bindings.Ref.{Ref}
use Rattle.dg_unify.specs.declared.bindings.Full.{Full}
use Rattle.dg_unify.specs.declared.bindings.Full.TheVariants as full
use Rattle.dg_unify.specs.declared.list.ListBindings.{ListBindings}
use Rattle.dg_lists.specs.Writing.{value_at}
use Rattle.dg_interp.specs.declared.engine.Engine.{Engine}
use Rattle.dg_terms.specs.Terms.{Overflows}
use Rattle.dg_lasting.specs.Lacks.{area_of}
use Rattle.dg_lasting.specs.declared.lack.Lack.{Lack}
use Rattle.dg_choices.specs.declared.frames.Env.{Env}
use Rattle.dg_lasting.specs.declared.lasting.Lasting.{Lasting}
use Rattle.dg_lasting.specs.Lasting.{picks_in, InWorld, MayPick, Gathers, GathersTooMuch}
use Rattle.dg_interp.specs.inside.Frames.{stretch, values_in}
use Rattle.dg_interp.specs.inside.Gathering.{KeepsAt}
use Rattle.dg_interp.specs.inside.Engine.{Point, store_in, KeepsPlaces, IsReady, FullAt, LacksIn, LackAt, LeadsBy, Leads, Silent, Tells, PassesLimit, WentWrong, limit_in}
use Rattle.dg_meaning.specs.Peaks.{Area, Aux}
use Rattle.dg_interp.proofs.Places.{limits_at, telling_limits, silent}
use Rattle.dg_interp.proofs.Takes.{store_sound}

-- ## A value is kept

var_alone : (program : CoreProgram) (env : List Value) → value_of program env (Var-Term 0) ≡ value_of_var env 0
unfolding out-Term denote.Hole.Carrier.out
var_alone program env = refl

-- nothing is taken of the heap
pub nothing_full : (From : Point) (s : Store) (e : Full) → s.state.heap ≤ s.heap_limit → Overflows 0 s e → FullAt From s e
nothing_full From s full.Heap le h = absurd (omega (arith, le, h))
nothing_full From s full.Trail le h = absurd h
nothing_full From s full.OutOfMemory le h = tt

module _ (old : Engine) (ready : IsReady old) (store1 : ListBindings) (r : Ref) (k1 : Kept (store_in old.store) (store_in store1)) (saved1 : (ms : List Saved) → KeepsPlaces old.store ms → KeepsPlaces store1 ms)
    (made : Made 0 (store_in old.store) (store_in store1) r (value_of_var (values_in (store_in old.store) old.refs.items old.here.env) 0)) where
  abbrev s : Store
  s = store_in old.store

  abbrev env : List Value
  env = values_in s old.refs.items old.here.env

  -- what is kept
  abbrev pub what : Value
  what = value_at (store_in store1) r

  what_is : what ≡ resolved s.state.subst (value_of_var env 0)
  what_is = ap (λ (t : State). resolved t.subst (told (store_in store1) r)) made.charged.state ∙ ap (λ o. resolved s.state.subst (or_nil o)) made.value

  module _ (g : Game) (n : ℕ) (w : World) (run : Run) (st : KeepsAt old g n w run) where
    abbrev x : Value
    x = value_of g.program env (Var-Term 0)

    abbrev pub kept_in : World
    kept_in = kept st.tag (resolved st.at.registers.bound x) (worked (keeping st.at.registers x) w)

    newest : IsNewest st.tag (tags_of w.gathered)
    newest = keeps_in_newest g st.at.inside.lives st.at.ways st.tag (Var-Term 0) env [] st.at.registers n w run st.stands

    failed : Failed g st.at.inside.lives n kept_in run
    failed = passes_keep g st.at.inside.lives st.at.ways st.tag (Var-Term 0) env [] st.at.registers n w run st.stands

    same_what : resolved st.at.registers.bound x ≡ what
    same_what = ap (λ S. resolved S x) st.at.agrees.bound ∙ ap (resolved s.state.subst) (var_alone g.program env) ∙ sym what_is

    happened : Grows kept_in run.world
    happened = has_happened g st.at.inside.lives st.at.ways n (Moves (FailsMove kept_in)) run failed

    gathered_is : kept_in.gathered ≡ gathered_with st.tag what w.gathered
    gathered_is = ap (λ v. gathered_with st.tag v w.gathered) same_what

    -- the limit is passed
    passed : GathersTooMuch what old.lasting → old.lasting.gathered.aux < run.world.meters.aux
    passed h = omega (arith, h.stands g w st.tag st.at.inside.world newest, ap gathered_size gathered_is, happened.meters.aux)

    kept_world : (out : Lasting) → Gathers what old.lasting out → InWorld out g kept_in
    kept_world out is = subst (λ v. InWorld out g (kept st.tag v (worked (keeping st.at.registers x) w))) (sym same_what) (is.stands g (worked (keeping st.at.registers x) w) st.tag st.at.inside.world newest)

  pub keep_full : GathersTooMuch what old.lasting → PassesLimit Aux (KeepsAt old) old.lasting.gathered.aux
  keep_full h = λ g n w run st. passed g n w run st h

  module _ (store2 : ListBindings) (out : Lasting) (same : store_in store2 ≡ store_in store1) (saved2 : (ms : List Saved) → KeepsPlaces store1 ms → KeepsPlaces store2 ms) (is : Gathers what old.lasting out) where
    abbrev new : Engine
    new = record old { store = store2; lasting = out }

    k : Kept s (store_in store2)
    k = subst (Kept s) (sym same) k1

    saved : (ms : List Saved) → KeepsPlaces old.store ms → KeepsPlaces store2 ms
    saved ms h = saved2 ms (saved1 ms h)

    pub value_kept : WentWrong (KeepsAt old) old new
    value_kept = record {
      sound = let now = store_sound old store2 old.made k saved ready.sound in record { base = now.base; room = now.room; picks = subst (λ (o : Lasting). MayPick old.left (picks_in o)) (sym is.is) now.picks };
      left = refl;
      limits = record { heap = k.heap_limit; trail = k.trail_limit; aux = ap (λ (o : Lasting). o.gathered.aux) is.is; keep = ap (λ (o : Lasting). o.world.area.keep) is.is; calls = []; told = refl };
      leads = λ g n w run st. record {
        world = kept_in g n w run st;
        adds = record { events_are = refl; typed = refl };
        holds = record {
          inside = record {
            program = st.at.inside.program;
            entries = st.at.inside.entries;
            lives = st.at.inside.lives;
            lives_are = st.at.inside.lives_are;
            saved = st.at.inside.saved;
            keeps = saved st.at.inside.saved st.at.inside.keeps;
            choices = st.at.inside.choices;
            world = kept_world g n w run st out is;
            peak = omega (arith, st.at.inside.peak, k.heap_limit);
          };
          failed = failed g n w run st;
        };
      };
    }

-- ## A value among those at hand

pub var_among : (t t1 : Store) (a : Ref) (refs part : List Ref) (place : Env) → part ≡ stretch refs place → Made 0 t t1 a (value_of_var (map (told t) part) 0) → Made 0 t t1 a (value_of_var (values_in t refs place) 0)
var_among t t1 a refs part place is h = subst (λ l. Made 0 t t1 a (value_of_var (map (told t) l) 0)) is h

-- what is lacked further on is lacked here
pub lacks_by : (A B : Point) (old mid : Engine) → (tells : Tells old mid) → LeadsBy tells.calls A B → (lack : Lack) → LackAt B mid lack → LackAt A old lack
lacks_by A B old between tells leads lack h = in_area (area_of lack) h
  where
    in_area : (o : Option Area) → LacksIn o B between → LacksIn o A old
    in_area None h = tt
    in_area (Some area) h = λ g n w run a.
        let x = leads g n w run a in
        let y = h g n x.world run x.holds in
        let same_limit : limit_in area between ≡ limit_in area old = limits_at old between (telling_limits tells) area in
        omega (arith, y, same_limit)

pub lacks_from : (A B : Point) (old mid : Engine) → Silent old mid → Leads A B → (lack : Lack) → LackAt B mid lack → LackAt A old lack
lacks_from A B old between same leads lack h = lacks_by A B old between (silent same) leads lack h
