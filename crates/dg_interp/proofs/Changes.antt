-- What a change of the world comes to.
use Rattle.std.proofs.Common.{◌≡◌, ℕ, ◌+◌, ◌<◌, List, [], ◌∷◌, Bool, true, false, Option, Some, None, cond, map, refl, sym, ap, ◌∙◌, subst, arith, length}
use Rattle.std.specs.Prelude.{Ok, Err, slice_get, not, filter, nat_eq}
use Rattle.std.specs.Prelude.{Result as Answer}
use Rattle.std.specs.List.{All}
use Rattle.std.proofs.lemmas.List.Elements.{All-cons, All-head, All-tail}
use Rattle.dg_base.specs.declared.program.Goal.{Goal, out-Goal}
use Rattle.dg_base.specs.declared.program.Goal.TheVariants.{Now, outs-Now}
use Rattle.dg_base.specs.declared.program.PlaceKind.{PlaceKind}
use Rattle.dg_base.specs.declared.program.Term.{Term}
use Rattle.dg_base.specs.declared.program.CoreProgram.{CoreProgram}
use Rattle.dg_base.specs.Goals.{terms_held}
use Rattle.dg_meaning.specs.Values.{Value, value_of}
use Rattle.dg_meaning.specs.Substitutions.{Substitution, resolved}
use Rattle.dg_meaning.specs.Facts.{Fact, is_at, Alteration, Sets, Clears, ClearsAll, altered, kinds_of}
use Rattle.dg_meaning.specs.Changes.{change_of, changed, changing}
use Rattle.dg_meaning.specs.World.{Game, World, worked}
use Rattle.dg_meaning.specs.Cells.{cells}
use Rattle.dg_meaning.specs.Path.{Registers, Moves, GoesOn}
use Rattle.dg_meaning.specs.Moves.{outcome, path_of, move_of, changes, change_looks, change_place}
use Rattle.dg_meaning.specs.Transcript.{Run}
use Rattle.dg_meaning.specs.inside.Keeps.{After, Went}
use Rattle.dg_meaning.proofs.Keeps.{has_happened}
use Rattle.dg_meaning.specs.Peaks.{Keep}
use Rattle.dg_unify.specs.Store.{Store, Saved, Holds, Kept, told}
use Rattle.dg_unify.specs.declared.bindings.Ref.{Ref}
use Rattle.dg_world.specs.Tables.{Outline}
use Rattle.dg_world.specs.Worlds.{StandsFor}
use Rattle.dg_world.specs.declared.change.KeepFull.{KeepFull}
use Rattle.dg_world.specs.declared.world.World.{World as FactsWorld}
use Rattle.dg_choose.specs.Dice.{HasDrawn}
use Rattle.dg_lists.specs.Formed.{IsFormed}
use Rattle.dg_interp.specs.declared.engine.Engine.{Engine}
use Rattle.dg_lasting.specs.declared.lasting.Lasting.{Lasting}
use Rattle.dg_interp.specs.inside.Frames.{values_in}
use Rattle.dg_lasting.specs.Lasting.{outline, HaveGathered, InWorld}
use Rattle.dg_interp.specs.inside.Engine.{store_in, limit_in, KeepsPlaces, steps_of, IsReady, TakesAt, StandsAt, FailsAt, PassesLimit, Leads, Then, Silent, WentOn}
use Rattle.dg_lasting.specs.Changing.{all_in_store, SetsFormed, Became}
use Rattle.dg_interp.specs.inside.Made.{MadeArgs, changes_at, ChangedMade}
use Rattle.dg_interp.proofs.Places.{silent}
use Rattle.dg_interp.proofs.Takes.{behind, taken_in, comes_of}
use Rattle.dg_interp.proofs.Giving.{written_agrees}
use Rattle.dg_interp.proofs.Acted.{acted_to, acted_ready, acted_limits, acted_on, acted_not}

pub now_held : (place : ℕ) (terms : List Term) (sets : Bool) → terms_held (out-Goal (Now place terms sets)) ≡ terms
now_held place terms sets = ap terms_held (outs-Now place terms sets)

-- what was made holds
pub made_hold : (terms : List Term) (old new : Engine) → MadeArgs terms old new → All (Holds (store_in new.store)) new.made.items
made_hold terms old new made = let a = (made.written old.program.now refl).appended in subst (All (Holds (store_in new.store))) (sym a.is) a.hold

-- ## Values of the language

abbrev FactFormed : Fact → Type 0
FactFormed fact = IsFormed fact.value

kept_formed : (b : Bool) (f : Fact) (fs : List Fact) → FactFormed f → All FactFormed fs → All FactFormed (cond b (f ∷ fs) fs)
kept_formed true f fs h k = All-cons FactFormed f fs h k
kept_formed false f fs h k = k

filter_formed : (keeps : Fact → Bool) (facts : List Fact) → All FactFormed facts → All FactFormed (filter keeps facts)
filter_formed keeps [] h = h
filter_formed keeps (f ∷ fs) h = kept_formed (keeps f) f (filter keeps fs) (All-head FactFormed f fs h) (filter_formed keeps fs (All-tail FactFormed f fs h))

pub altered_formed : (a : Alteration) (facts : List Fact) → SetsFormed a → All FactFormed facts → All FactFormed (altered a facts)
altered_formed (Sets p n v) facts h k = All-cons FactFormed _ facts h k
altered_formed (Clears p n) facts h k = filter_formed (λ fact. not (is_at p n fact)) facts k
altered_formed (ClearsAll p) facts h k = filter_formed (λ fact. not (nat_eq fact.place p)) facts k

-- ## The change

told_all : (S : Substitution) (s : Store) (rs : List Ref) → map (resolved S) (map (told s) rs) ≡ map (λ r. resolved S (told s r)) rs
told_all S s [] = refl
told_all S s (r ∷ rs) = ap (λ l. resolved S (told s r) ∷ l) (told_all S s rs)

module _ (place : ℕ) (terms : List Term) (sets : Bool) (old mid new : Engine) (ready : IsReady old) (made : MadeArgs terms old mid) (result : Answer Bool KeepFull) (done : ChangedMade place sets result mid new) where
  abbrev x : Goal
  x = Now place terms sets

  abbrev outer : Lasting
  outer = record old.lasting { world = new.lasting.world; row = new.lasting.row }

  abbrev s1 : Store
  s1 = store_in mid.store

  abbrev vals : List Value
  vals = all_in_store s1 mid.made.items

  program_is : mid.program.now ≡ old.program.now
  program_is = ap (λ (e : Engine). e.program.now) made.same

  lasting_is : mid.lasting ≡ old.lasting
  lasting_is = ap (λ (e : Engine). e.lasting) made.same

  kept : Kept (store_in old.store) (store_in new.store)
  kept = subst (λ (t : Store). Kept (store_in old.store) t) (sym done.store) made.kept

  keeps : (ms : List Saved) → KeepsPlaces old.store ms → KeepsPlaces new.store ms
  keeps ms h = done.saved ms (made.saved ms h)

  grew : (program : CoreProgram) → old.program.now ≡ program → (store_in new.store).state ≡ record (store_in old.store).state { heap = (store_in old.store).state.heap + cells program terms }
  grew program e = ap (λ (t : Store). t.state) done.store ∙ (made.written program e).charged.state

  abbrev to : Engine
  to = acted_to x terms (now_held place terms sets) old outer new.store mid.made ready kept keeps grew

  here : new ≡ to
  here = done.same ∙ ap (λ (e : Engine). record e { store = new.store; lasting = record e.lasting { world = new.lasting.world; row = new.lasting.row } }) made.same

  keep_is : new.lasting.world.area.keep ≡ old.lasting.world.area.keep
  keep_is = done.limit ∙ ap (λ (o : Lasting). o.world.area.keep) lasting_is

  pub changed_ready : IsReady new
  changed_ready = subst IsReady (sym here) (acted_ready x terms (now_held place terms sets) old outer new.store mid.made ready kept keeps grew refl)

  pub changed_limits : Silent old new
  changed_limits = subst (Silent old) (sym here) (acted_limits x terms (now_held place terms sets) old outer new.store mid.made ready kept keeps grew refl keep_is)

  pub changed_left : new.left ≡ old.left
  changed_left = ap (λ (e : Engine). e.left) here

  module _ (g : Game) (n : ℕ) (w : World) (run : Run) (st : TakesAt x old g n w run) where
    abbrev r : Registers
    r = behind x old g n w run st

    abbrev v : World
    v = taken_in x old g n w run st

    abbrev args : List Value
    args = map (value_of g.program (values_in (store_in old.store) old.refs.items old.here.env)) terms

    abbrev o : Outline
    o = outline g.program old.lasting.world.area.keep

    abbrev kind_at : Option PlaceKind
    kind_at = slice_get (kinds_of g.program) place

    same_program : mid.program.now ≡ g.program
    same_program = program_is ∙ st.at.inside.program

    args_are : map (resolved r.bound) args ≡ vals
    args_are =
        let appended = (made.written g.program st.at.inside.program).appended in
        let bound : r.bound ≡ s1.state.subst = (written_agrees x terms (now_held place terms sets) old new.store mid.made ready kept keeps grew g n w run st).bound ∙ ap (λ (t : Store). t.state.subst) done.store in
        ap (map (resolved r.bound)) (sym appended.values)
        ∙ told_all r.bound s1 appended.made
        ∙ ap (λ S. map (λ q. resolved S (told s1 q)) appended.made) bound
        ∙ ap (all_in_store s1) (sym appended.is)

    comes : Went g st.at.inside.lives st.at.ways n (move_of (steps_of old) r (change_place g place kind_at args sets (steps_of old) r v)) run
    comes = subst (λ m. After g st.at.inside.lives st.at.ways n m run)
        (ap (λ f. outcome g f (values_in (store_in old.store) old.refs.items old.here.env) old.here.tag (steps_of old) r v) (outs-Now place terms sets)) (comes_of x old g n w run st)

    became_in : Became o w.facts (changes_at (length g.program.objects) place sets vals kind_at) mid.lasting.world new.lasting.world result
    became_in =
        let is = st.at.inside.world.0 in
        let h = done.became o w.facts (subst (λ (u : Lasting). StandsFor u.world o w.facts) (sym lasting_is) is.stands) (ap kinds_of (sym same_program)) (ap (λ (p : CoreProgram). length p.objects) (sym same_program)) (ap (λ (u : Lasting). length u.row.items) lasting_is ∙ is.room) in
        subst (λ (p : CoreProgram). Became o w.facts (changes_at (length p.objects) place sets vals kind_at) mid.lasting.world new.lasting.world result) same_program h

    -- nothing was changed
    world_same : new.lasting.world ≡ mid.lasting.world → InWorld outer g v
    world_same e =
        let is = st.at.inside.world in
        let same = e ∙ ap (λ (u : Lasting). u.world) lasting_is in (
          record {
            stands = subst (λ (u : FactsWorld). StandsFor u (outline g.program u.area.keep) w.facts) (sym same) is.0.stands;
            formed = is.0.formed;
            room = done.row ∙ ap (λ (u : Lasting). length u.row.items) lasting_is ∙ is.0.room ∙ sym keep_is;
          },
          is.1,
          is.2,
          is.3,
        )

    world_changed : (a : Alteration) (u : World) → u.facts ≡ altered a w.facts → u.gathered ≡ w.gathered → u.dice ≡ w.dice → u.sites ≡ w.sites → StandsFor new.lasting.world o (altered a w.facts) → SetsFormed a → InWorld outer g u
    world_changed a u facts gathered dice sites stands formed =
        let is = st.at.inside.world in (
          record {
            stands = subst (λ l. StandsFor new.lasting.world (outline g.program new.lasting.world.area.keep) l) (sym facts) (subst (λ k. StandsFor new.lasting.world (outline g.program k) (altered a w.facts)) (sym keep_is) stands);
            formed = subst (All FactFormed) (sym facts) (altered_formed a w.facts formed is.0.formed);
            room = done.row ∙ ap (λ (z : Lasting). length z.row.items) lasting_is ∙ is.0.room ∙ sym keep_is;
          },
          subst (HaveGathered old.lasting.gathered.rows) (sym gathered) is.1,
          subst (λ d. HasDrawn old.lasting.dice g.dice d) (sym dice) is.2,
          sites ∙ is.3,
        )

    -- what is left of the run by what became of the change
    abbrev Left : Answer Bool KeepFull → Type 0
    Left (Ok true) = Then [] w (λ z. StandsAt to g n z run)
    Left (Ok false) = Then [] w (λ z. FailsAt to g n z run)
    Left (Err e) = old.lasting.world.area.keep < run.world.meters.keep

    left_of : (looks : ℕ) (k : PlaceKind) (a : Option Alteration) (b : Answer Bool KeepFull) → Became o w.facts a mid.lasting.world new.lasting.world b → Went g st.at.inside.lives st.at.ways n (move_of (steps_of old) r (changes g k a (steps_of old) (worked looks v))) run → Left b
    left_of looks k None (Ok false) h went = acted_not x terms (now_held place terms sets) old outer new.store mid.made ready kept keeps grew g n w run st (worked looks v) refl refl (world_same h) refl went
    left_of looks k None (Ok true) h went = absurd h
    left_of looks k None (Err e) h went = absurd h
    left_of looks k (Some a) (Ok true) h went =
        let u = worked (changing g.program k a v.facts) (changed g.program a (worked looks v)) in
        acted_on x terms (now_held place terms sets) old outer new.store mid.made ready kept keeps grew g n w run st u refl refl (world_changed a u refl refl refl refl h.0 h.1) refl went
    left_of looks k (Some a) (Ok false) h went = absurd h
    left_of looks k (Some a) (Err e) h went =
        let u = worked (changing g.program k a v.facts) (changed g.program a (worked looks v)) in
        let later = (has_happened g st.at.inside.lives st.at.ways n (Moves (GoesOn (path_of (steps_of old) r) u)) run went).meters in
        omega (arith, later.keep, h.0)

    left_at : (k : Option PlaceKind) (b : Answer Bool KeepFull) → Became o w.facts (changes_at (length g.program.objects) place sets vals k) mid.lasting.world new.lasting.world b → Went g st.at.inside.lives st.at.ways n (move_of (steps_of old) r (change_place g place k args sets (steps_of old) r v)) run → Left b
    left_at None (Ok false) h went = acted_not x terms (now_held place terms sets) old outer new.store mid.made ready kept keeps grew g n w run st v refl refl (world_same h) refl went
    left_at None (Ok true) h went = absurd h
    left_at None (Err e) h went = absurd h
    left_at (Some k) b h went =
        let looks = change_looks k r args in
        left_of looks k (change_of (length g.program.objects) k place sets vals) b h
        (subst (λ l. Went g st.at.inside.lives st.at.ways n (move_of (steps_of old) r (changes g k (change_of (length g.program.objects) k place sets l) (steps_of old) (worked looks v))) run) args_are went)

    left : Left result
    left = left_at kind_at result became_in comes

  pub changed_on : result ≡ Ok true → WentOn (TakesAt x old) old new
  changed_on is = record {
    ready = changed_ready;
    left = changed_left;
    limits = silent (changed_limits);
    leads = λ g n w run st. subst (λ (e : Engine). Then [] w (λ z. StandsAt e g n z run)) (sym here) (subst (Left g n w run st) is (left g n w run st));
  }

  pub changed_not : result ≡ Ok false → Leads (TakesAt x old) (FailsAt new)
  changed_not is g n w run st = subst (λ (e : Engine). Then [] w (λ z. FailsAt e g n z run)) (sym here) (subst (Left g n w run st) is (left g n w run st))

  pub changed_full : (e : KeepFull) → result ≡ Err e → PassesLimit Keep (TakesAt x old) (limit_in Keep old)
  changed_full e is g n w run st = subst (Left g n w run st) is (left g n w run st)
