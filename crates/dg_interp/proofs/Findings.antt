-- What queries of the world come to.
use Rattle.std.proofs.Common.{◌≡◌, ℕ, zero, suc, ◌+◌, List, [], ◌∷◌, Bool, true, false, Option, Some, None, refl, sym, ap, ◌∙◌, subst, arith, map, drop}
use Rattle.std.specs.Prelude.{slice_get, is_some}
use Rattle.std.specs.List.{All}
use Rattle.std.specs.Option.{option_map}
use Rattle.std.proofs.lemmas.List.Elements.{All-head, All-tail}
use Rattle.std.specs.declared.vec.Vec.{Vec}
use Rattle.std.specs.declared.alloc.Global.{Global}
use Rattle.dg_base.specs.declared.cells.Cell.{Cell}
use Rattle.dg_base.specs.declared.cells.Simple.{Simple}
use Rattle.dg_base.specs.declared.program.Goal.{Goal, out-Goal}
use Rattle.dg_base.specs.declared.program.Goal.TheVariants.{Holds as HoldsGoal, IsObject, outs-Holds, outs-IsObject}
use Rattle.dg_base.specs.declared.program.PlaceKind.{PlaceKind}
use Rattle.dg_base.specs.declared.program.PlaceKind.TheVariants.{Flag, ObjectFlag, ObjectVar, Parent, Global as GlobalKind}
use Rattle.dg_base.specs.declared.program.Term.{Term}
use Rattle.dg_base.specs.declared.program.CoreProgram.{CoreProgram}
use Rattle.dg_base.specs.Goals.{terms_held}
use Rattle.dg_meaning.specs.Cells.{cells, writing}
use Rattle.dg_meaning.specs.Changes.{found}
use Rattle.dg_meaning.specs.Copies.{vars_in, copy_from, copy_cells}
use Rattle.dg_meaning.specs.Facts.{Fact, value_at, kinds_of}
use Rattle.dg_meaning.specs.Letters.{copied}
use Rattle.dg_meaning.specs.Substitutions.{walk}
use Rattle.dg_meaning.specs.ValueCells.{cells_of}
use Rattle.dg_meaning.specs.Values.{Num, Word, Unknown, Object, Nil, Pair, Closure, Value, Var, Node, value_of}
use Rattle.dg_meaning.specs.World.{Game, World, worked}
use Rattle.dg_meaning.specs.Path.{Step, Registers, Act, Unifies, Tests, Fails, Effect, Acts, Offers, Plain, Moves}
use Rattle.dg_meaning.specs.Moves.{effect, outcome_of, move_of, behind_copy, copy_of, reads, reads_if_set, looked_up, unified, ask_object, ask_objects, ask_place, object_branches, numbers}
use Rattle.dg_meaning.specs.inside.OneRun.{Grows}
use Rattle.dg_meaning.specs.Transcript.{Run}
use Rattle.dg_meaning.specs.inside.Keeps.{After, Went, world_at}
use Rattle.dg_meaning.proofs.Keeps.{has_happened}
use Rattle.dg_unify.specs.Store.{Store, State, Saved, Kept, Holds, told, or_nil}
use Rattle.dg_unify.specs.inside.Engines.{Agrees}
use Rattle.dg_unify.specs.declared.bindings.Ref.{Ref}
use Rattle.dg_unify.specs.declared.bindings.Full.{Full}
use Rattle.dg_unify.specs.declared.bindings.Full.TheVariants as full
use Rattle.dg_unify.specs.declared.list.ListBindings.{ListBindings}
use Rattle.dg_lists.specs.Reading.{Lacks, Copied}
use Rattle.dg_world.specs.Tables.{Outline, IsKind, simple_value}
use Rattle.dg_world.specs.Worlds.{StandsFor}
use Rattle.dg_interp.specs.declared.engine.Engine.{Engine}
use Rattle.dg_lasting.specs.declared.subject.Subject.TheVariants.{Open, Thing, Other}
use Rattle.dg_lasting.specs.Subjects.{may_name, IsSubject}
use Rattle.dg_interp.specs.inside.Frames.{values_in}
use Rattle.dg_interp.specs.inside.Made.{MadeArgs}
use Rattle.dg_lasting.specs.Lasting.{outline, InWorld}
use Rattle.dg_meaning.specs.inside.Finding.{may_find}
use Rattle.dg_lasting.proofs.Finds.{no_copy, same_copy, KeptAs, value_formed, kept_as, kept_none}
use Rattle.dg_interp.specs.inside.Giving.{ActsAt, UnifiesAt}
use Rattle.dg_interp.specs.inside.Finding.{EffectAt, made_values, AsksPlaceAt, AsksObjectsAt, TriesObjectsAt, ReadsAt}
use Rattle.dg_interp.specs.inside.Engine.{Point, store_in, KeepsPlaces, steps_of, IsReady, TakesAt, FailsAt, FullAt, Leads, Silent, WentOn}
use Rattle.dg_unify.proofs.StoreLemmas.{kept_told}
use Rattle.dg_interp.proofs.Places.{silent, adds_nothing, inside_in, inside_kept, limits_here}
use Rattle.dg_interp.proofs.Takes.{behind, taken_in, comes_of, adds_taken}
use Rattle.dg_interp.proofs.Giving.{with_store, steps_kept, kept_limits, acts_on, written_agrees, written_peak}
use Rattle.dg_interp.proofs.TakingOut.{made_heap}

-- what holds of a world in which an engine may be
abbrev pub InEach : Engine → (World → Type 0) → Type 0
InEach e P = (g : Game) (w : World) → e.program.now ≡ g.program → InWorld e.lasting g w → P w

-- ## What is read

-- a copy of a value was made
pub record CopyMade (s t : Store) (v : Value) (made : Ref) : Type 0 where
  pub state : t.state ≡ record s.state { vars = s.state.vars + vars_in v; heap = s.state.heap + copy_cells v }
  pub value : t.value made ≡ Some (copy_from s.state.vars v)

-- what is set was copied, or there was no room for it
pub record CopyOf (s t : Store) (fact : Option Value) (made : Ref) : Type 0 where
  pub v : Value
  pub is : fact ≡ Some v
  pub copy : CopyMade s t v made

pub record NoCopyOf (s : Store) (fact : Option Value) (e : Full) : Type 0 where
  pub v : Value
  pub is : fact ≡ Some v
  pub cause : Lacks (copy_cells v) s e

pub copy_made : (s t : Store) (v : Value) (made : Ref) → Copied s t v made → CopyMade s t v made
copy_made s t v made c = record { state = c.grew.state; value = c.value }

-- the registers behind a copy agree with the store
pub copy_agrees : (s t : Store) (v : Value) (made : Ref) (r : Registers) → CopyMade s t v made → Agrees s r → Agrees t (behind_copy v r)
copy_agrees s t v made r c a =
    let now = c.state in
    record {
      bound = a.bound ∙ ap (λ (x : State). x.subst) (sym now);
      vars = omega (arith, a.vars, ap (λ (x : State). x.vars) now);
      heap = omega (arith, a.heap, ap (λ (x : State). x.heap) now);
      trail = omega (arith, a.trail, ap (λ (x : State). x.trail) now);
      since = omega (arith, a.since, ap (λ (x : State). x.since) now, ap (λ (x : State). x.vars) now);
    }

pub copy_told : (s t : Store) (v : Value) (made : Ref) (r : Registers) → CopyMade s t v made → Agrees s r → copy_of v r ≡ told t made
copy_told s t v made r c a = ap (λ n. copy_from n v) a.vars ∙ ap or_nil (sym c.value)

module _ (fact : List Fact → Option Value) (args : List Value) (old : Engine) where
  abbrev from : Point
  from = ReadsAt fact args old

  abbrev s : Store
  s = store_in old.store

  -- nothing is set
  pub reads_none : InEach old (λ w. fact w.facts ≡ None) → Leads from (FailsAt old)
  reads_none none g n w run st = record {
    world = w;
    adds = adds_nothing w;
    holds = record {
      inside = st.at.inside;
      failed = subst (λ o. Went g st.at.inside.lives st.at.ways n (move_of (steps_of old) st.at.registers (reads_if_set args st.at.registers o w)) run) (none g w st.at.inside.program st.at.inside.world) st.went;
    };
  }

  -- something is set, and isn't looked at
  pub reads_alone : IsReady old → args ≡ [] → InEach old (λ w. (v : Value) × (fact w.facts ≡ Some v)) → WentOn from old old
  reads_alone ready none some = record {
    ready = ready;
    left = refl;
    limits = silent (limits_here old);
    leads = λ g n w run st.
        let v = some g w st.at.inside.program st.at.inside.world in
        let r = st.at.registers in
        record {
          world = w;
          adds = adds_nothing w;
          holds = record {
            at = st.at;
            stands = subst (λ a. Went g st.at.inside.lives st.at.ways n (move_of (steps_of old) r a) run) (ap (λ o. reads_if_set args r o w) v.1 ∙ ap (λ l. reads l r v.0 w) none) st.went;
          };
        };
  }

  module _ (into : Value) (rest : List Value) (is : args ≡ into ∷ rest) where
    read_so : (g : Game) (n : ℕ) (w : World) (run : Run) (st : from g n w run) (v : Value) → fact w.facts ≡ Some v → Went g st.at.inside.lives st.at.ways n (unified ((into, copy_of v st.at.registers) ∷ []) (steps_of old) (behind_copy v st.at.registers) (worked (copied v) w)) run
    read_so g n w run st v e =
        let r = st.at.registers in
        subst (λ a. Went g st.at.inside.lives st.at.ways n (move_of (steps_of old) r a) run) (ap (λ o. reads_if_set args r o w) e ∙ ap (λ l. reads l r v w) is) st.went

    -- there is no room for a copy of what is set
    pub reads_full : (e : Full) → InEach old (λ w. NoCopyOf s (fact w.facts) e) → FullAt from s e
    reads_full full.Heap h = λ g n w run st.
        let no = h g w st.at.inside.program st.at.inside.world in
        let r = behind_copy no.v st.at.registers in
        let es = (into, copy_of no.v st.at.registers) ∷ [] in
        let v = worked (copied no.v) w in
        let grows : Grows (world_at (unified es (steps_of old) r v)) run.world = has_happened g st.at.inside.lives st.at.ways n (Moves (unified es (steps_of old) r v)) run (read_so g n w run st no.v no.is) in
        omega (arith, no.cause, st.at.agrees.heap, made_heap es (steps_of old) r v, grows.meters.heap)
    reads_full full.Trail h = λ g n w run st. absurd (h g w st.at.inside.program st.at.inside.world).cause
    reads_full full.OutOfMemory h = tt

  -- what is set is unified with what stands at a Ref
  pub reads_leads : (into made : Ref) (rest : List Value) (store : ListBindings) (stack : Vec Ref Global) (ready : IsReady old) (k : Kept s (store_in store)) (saved : (ms : List Saved) → KeepsPlaces old.store ms → KeepsPlaces store ms) →
      args ≡ told s into ∷ rest → Holds s into → InEach old (λ w. CopyOf s (store_in store) (fact w.facts) made) → Leads from (UnifiesAt into made (with_store old store stack ready k saved))
  reads_leads into made rest store stack ready k saved is hold here g n w run st =
      let t = store_in store in
      let c = here g w st.at.inside.program st.at.inside.world in
      let r = st.at.registers in
      let q = behind_copy c.v r in
      let v = worked (copied c.v) w in
      let values : Unifies q ((told s into, copy_of c.v r) ∷ []) v ≡ Unifies q ((told t into, told t made) ∷ []) v =
      ap (λ x. Unifies q ((x, copy_of c.v r) ∷ []) v) (sym (kept_told s t into k hold)) ∙ ap (λ y. Unifies q ((told t into, y) ∷ []) v) (copy_told s t c.v made r c.copy st.at.agrees) in
      record {
        world = v;
        adds = record { events_are = refl; typed = refl };
        holds = acts_on old store stack ready k saved g n w v run st.at st.at.inside.world (omega (arith, st.at.inside.peak, k.heap_limit)) (λ x u. Unifies x ((told t into, told t made) ∷ []) u) q (copy_agrees s t c.v made r c.copy st.at.agrees) refl refl
            (subst (λ a. Went g st.at.inside.lives st.at.ways n (move_of (steps_of old) r a) run) values (read_so (told s into) rest is g n w run st c.v c.is));
      }

-- ## Values without parts

-- a copy of one leaves the state as it was, and is the value itself
pub simple_same : (s t : Store) (v : Simple) (made : Ref) → Copied s t (simple_value v) made → t.state ≡ s.state
simple_same s t v made c =
    let vars : s.state.vars + vars_in (simple_value v) ≡ s.state.vars = omega (arith, (no_copy v).0) in
    let heap : s.state.heap + copy_cells (simple_value v) ≡ s.state.heap = omega (arith, (no_copy v).1) in
    c.grew.state ∙ ap (λ n. record s.state { vars = n; heap = s.state.heap + copy_cells (simple_value v) }) vars ∙ ap (λ n. record s.state { heap = n }) heap

pub simple_told : (s t : Store) (v : Simple) (made : Ref) → Copied s t (simple_value v) made → t.value made ≡ Some (simple_value v)
simple_told s t v made c = c.value ∙ ap Some (same_copy s.state.vars v)

-- ## What is set

-- what is found of an object, in each world in which an engine may be
pub found_each : (place : Option ℕ) (object : ℕ) (old : Engine) (is : Option Value) → ((o : Outline) (facts : List Fact) → StandsFor old.lasting.world o facts → may_find o.kinds place ≡ true → is ≡ found facts place object) → may_find (kinds_of old.program.now) place ≡ true → InEach old (λ w. found w.facts place object ≡ is)
found_each place object old is h may g w same world = sym (h (outline g.program old.lasting.world.area.keep) w.facts world.0.stands (ap (λ (p : CoreProgram). may_find (kinds_of p) place) (sym same) ∙ may))

module _ (place : ℕ) (old : Engine) (kept : Option (List Cell)) (h : (o : Outline) (facts : List Fact) → StandsFor old.lasting.world o facts → IsKind o place GlobalKind → kept ≡ option_map cells_of (value_at facts place 0)) (kind : slice_get (kinds_of old.program.now) place ≡ Some GlobalKind) where
  value_kept : InEach old (λ w. kept ≡ option_map cells_of (value_at w.facts place 0))
  value_kept g w same world = h (outline g.program old.lasting.world.area.keep) w.facts world.0.stands (ap (λ (p : CoreProgram). slice_get (kinds_of p) place) (sym same) ∙ kind)

  pub global_none : None ≡ kept → InEach old (λ w. value_at w.facts place 0 ≡ None)
  global_none is g w same world = kept_none (value_at w.facts place 0) (is ∙ value_kept g w same world)

  pub global_some : (cells : List Cell) → Some cells ≡ kept → InEach old (λ w. KeptAs (value_at w.facts place 0) cells)
  global_some cells is g w same world = kept_as (value_at w.facts place 0) cells (is ∙ value_kept g w same world) (λ v e. value_formed w.facts place 0 v world.0.formed e)

-- whether a flag is set
pub flag_each : (place : ℕ) (old : Engine) (b : Bool) → ((o : Outline) (facts : List Fact) → StandsFor old.lasting.world o facts → IsKind o place Flag → b ≡ is_some (value_at facts place 0)) → slice_get (kinds_of old.program.now) place ≡ Some Flag → InEach old (λ w. is_some (value_at w.facts place 0) ≡ b)
flag_each place old b h kind g w same world = sym (h (outline g.program old.lasting.world.area.keep) w.facts world.0.stands (ap (λ (p : CoreProgram). slice_get (kinds_of p) place) (sym same) ∙ kind))

-- ## Refs that were made

pub holds_at : (P : Ref → Type 0) (refs : List Ref) (i : ℕ) (r : Ref) → Some r ≡ slice_get refs i → All P refs → P r
holds_at P [] i r e h = absurd (let no : Some r ≡ None = e in cc)
holds_at P (q ∷ refs) zero r e h = subst P (let same : q ≡ r = cc in same) (All-head P q refs h)
holds_at P (q ∷ refs) (suc i) r e h = holds_at P refs i r e (All-tail P q refs h)

pub second_told : (s : Store) (refs : List Ref) (r : Ref) → Some r ≡ slice_get refs 1 → drop 1 (map (told s) refs) ≡ told s r ∷ drop 2 (map (told s) refs)
second_told s [] r e = absurd (let no : Some r ≡ None = e in cc)
second_told s (a ∷ []) r e = absurd (let no : Some r ≡ None = e in cc)
second_told s (a ∷ b ∷ refs) r e = let same : b ≡ r = cc in ap (λ q. told s q ∷ map (told s) refs) same

pub no_second : (s : Store) (refs : List Ref) → None ≡ slice_get refs 1 → drop 1 (map (told s) refs) ≡ []
no_second s [] e = refl
no_second s (a ∷ []) e = refl
no_second s (a ∷ b ∷ refs) e = absurd (let no : None ≡ Some b = e in cc)

-- ## Goals whose terms are written

module _ (x : Goal) (terms : List Term) (held : terms_held (out-Goal x) ≡ terms) (does : List Value → Game → List Step → Registers → World → Effect)
    (means : (g : Game) (env : List Value) (t : ℕ) (steps : List Step) (r : Registers) (w : World) → effect g (out-Goal x) env t steps r w ≡ does (map (value_of g.program env) terms) g steps r w) (old mid : Engine) (ready : IsReady old) (made : MadeArgs terms old mid) where
  abbrev to : Engine
  to = with_store old mid.store mid.made ready made.kept made.saved

  grew : (program : CoreProgram) → old.program.now ≡ program → (store_in mid.store).state ≡ record (store_in old.store).state { heap = (store_in old.store).state.heap + cells program terms }
  grew program e = (made.written program e).charged.state

  pub asked_limits : Silent old mid
  asked_limits = subst (Silent old) (sym made.same) (kept_limits old mid.store mid.made ready made.kept made.saved)

  pub asked_left : mid.left ≡ old.left
  asked_left = ap (λ (e : Engine). e.left) made.same

  asks_there : Leads (TakesAt x old) (EffectAt (does (made_values to)) to)
  asks_there g n w run st =
      let env = values_in (store_in old.store) old.refs.items old.here.env in
      let r = behind x old g n w run st in
      let v = taken_in x old g n w run st in
      let appended = (made.written g.program st.at.inside.program).appended in
      let values : made_values to ≡ map (value_of g.program env) terms = ap (map (told (store_in mid.store))) appended.is ∙ appended.values in
      let steps = steps_kept old mid.store mid.made ready made.kept made.saved in
      record {
        world = v;
        adds = adds_taken r (writing (terms_held (out-Goal x))) w;
        holds = record {
          at = record {
            inside = inside_kept _ _ made.saved st.at.inside.world (written_peak x terms held old mid.store mid.made ready made.kept made.saved grew g n w run st) st.at.inside;
            ways = st.at.ways;
            ways_are = st.at.ways_are;
            registers = r;
            agrees = written_agrees x terms held old mid.store mid.made ready made.kept made.saved grew g n w run st;
            tag = st.at.tag;
            stop = st.at.stop;
          };
          came = subst (λ o. After g st.at.inside.lives st.at.ways n o run)
              (ap (outcome_of (steps_of old) r) (means g env old.here.tag (steps_of old) r v ∙ ap (λ vs. does vs g (steps_of old) r v) (sym values))
              ∙ ap (λ l. outcome_of l r (does (made_values to) g l r v)) (sym steps))
              (comes_of x old g n w run st);
        };
      }

  pub asks_world : Leads (TakesAt x old) (EffectAt (does (made_values mid)) mid)
  asks_world = subst (λ (e : Engine). Leads (TakesAt x old) (EffectAt (does (made_values e)) e)) (sym made.same) asks_there

-- what a query of a place does, and what one of all objects
abbrev pub of_place : ℕ → Bool → List Value → Game → List Step → Registers → World → Effect
of_place place many vs g steps r w = ask_place g place (slice_get (kinds_of g.program) place) vs many steps r w

abbrev pub of_all : Bool → List Value → Game → List Step → Registers → World → Effect
of_all many vs g steps r w = ask_objects g None vs many steps r w

pub holds_means : (place : ℕ) (terms : List Term) (many : Bool) (g : Game) (env : List Value) (t : ℕ) (steps : List Step) (r : Registers) (w : World) →
    effect g (out-Goal (HoldsGoal place terms many)) env t steps r w ≡ ask_place g place (slice_get (kinds_of g.program) place) (map (value_of g.program env) terms) many steps r w
holds_means place terms many g env t steps r w = ap (λ f. effect g f env t steps r w) (outs-Holds place terms many)

pub object_means : (term : Term) (many : Bool) (g : Game) (env : List Value) (t : ℕ) (steps : List Step) (r : Registers) (w : World) →
    effect g (out-Goal (IsObject term many)) env t steps r w ≡ ask_objects g None (map (value_of g.program env) (term ∷ [])) many steps r w
object_means term many g env t steps r w = ap (λ f. effect g f env t steps r w) (outs-IsObject term many)

pub holds_held : (place : ℕ) (terms : List Term) (many : Bool) → terms_held (out-Goal (HoldsGoal place terms many)) ≡ terms
holds_held place terms many = ap terms_held (outs-Holds place terms many)

pub object_held : (term : Term) (many : Bool) → terms_held (out-Goal (IsObject term many)) ≡ term ∷ []
object_held term many = ap terms_held (outs-IsObject term many)

-- ## One effect in place of another

-- in each world in which an engine may be, on each path on which it may be
abbrev pub OnEach : Engine → (Game → Registers → World → Type 0) → Type 0
OnEach e P = (g : Game) (r : Registers) (w : World) → e.program.now ≡ g.program → InWorld e.lasting g w → Agrees (store_in e.store) r → P g r w

module _ (does : Game → List Step → Registers → World → Effect) (old : Engine) where
  -- another effect behind so much work
  pub effect_on : (next : Game → List Step → Registers → World → Effect) (work : Registers → ℕ) → OnEach old (λ g r w. does g (steps_of old) r w ≡ next g (steps_of old) r (worked (work r) w)) → Leads (EffectAt does old) (EffectAt next old)
  effect_on next work is g n w run st =
      let r = st.at.registers in
      let v = worked (work r) w in
      record {
        world = v;
        adds = record { events_are = refl; typed = refl };
        holds = record {
          at = record {
            inside = inside_in v st.at.inside.world st.at.inside.peak st.at.inside;
            ways = st.at.ways;
            ways_are = st.at.ways_are;
            registers = r;
            agrees = st.at.agrees;
            tag = st.at.tag;
            stop = st.at.stop;
          };
          came = subst (λ o. After g st.at.inside.lives st.at.ways n (outcome_of (steps_of old) r o) run) (is g r w st.at.inside.program st.at.inside.world st.at.agrees) st.came;
        };
      }

  -- an act behind so much work
  pub effect_acts : (act : Registers → World → Act) (work : Registers → ℕ) → OnEach old (λ g r w. does g (steps_of old) r w ≡ Acts (act r (worked (work r) w))) → Leads (EffectAt does old) (ActsAt act old)
  effect_acts act work is g n w run st =
      let h = effect_on (λ g steps r u. Acts (act r u)) work is g n w run st in
      record { world = h.world; adds = h.adds; holds = record { at = h.holds.at; went = h.holds.came } }

  -- a failure
  pub effect_fails : (work : Registers → ℕ) → OnEach old (λ g r w. does g (steps_of old) r w ≡ Acts (Fails (worked (work r) w))) → Leads (EffectAt does old) (FailsAt old)
  effect_fails work is g n w run st =
      let h = effect_acts (λ r u. Fails u) work is g n w run st in
      record { world = h.world; adds = h.adds; holds = record { inside = h.holds.at.inside; failed = h.holds.went } }

-- work that is none
pub worked_none : (w : World) → worked 0 w ≡ w
worked_none w = ap (λ n. record w { meters = record w.meters { work = n } }) (omega arith)

-- ## Flags

module _ (test : List Fact → Bool) (old : Engine) where
  pub test_on : IsReady old → InEach old (λ w. test w.facts ≡ true) → WentOn (ActsAt (λ r w. Tests (test w.facts) w) old) old old
  test_on ready passed = record {
    ready = ready;
    left = refl;
    limits = silent (limits_here old);
    leads = λ g n w run st. record {
      world = w;
      adds = adds_nothing w;
      holds = record { at = st.at; stands = subst (λ b. Went g st.at.inside.lives st.at.ways n (move_of (steps_of old) st.at.registers (Tests b w)) run) (passed g w st.at.inside.program st.at.inside.world) st.went };
    };
  }

  pub test_not : InEach old (λ w. test w.facts ≡ false) → Leads (ActsAt (λ r w. Tests (test w.facts) w) old) (FailsAt old)
  test_not failed g n w run st = record {
    world = w;
    adds = adds_nothing w;
    holds = record { inside = st.at.inside; failed = subst (λ b. Went g st.at.inside.lives st.at.ways n (move_of (steps_of old) st.at.registers (Tests b w)) run) (failed g w st.at.inside.program st.at.inside.world) st.went };
  }

-- ## A query of a place

module _ (place : ℕ) (many : Bool) (old : Engine) where
  abbrev asked : Option PlaceKind → Game → List Step → Registers → World → Effect
  asked kind g steps r w = ask_place g place kind (made_values old) many steps r w

  kind_is : (kind : Option PlaceKind) → slice_get (kinds_of old.program.now) place ≡ kind → (g : Game) → old.program.now ≡ g.program → slice_get (kinds_of g.program) place ≡ kind
  kind_is kind is g same = ap (λ (p : CoreProgram). slice_get (kinds_of p) place) (sym same) ∙ is

  -- the place is of this kind
  kind_asked : (kind : Option PlaceKind) → slice_get (kinds_of old.program.now) place ≡ kind → OnEach old (λ g r w. asked (slice_get (kinds_of g.program) place) g (steps_of old) r w ≡ asked kind g (steps_of old) r (worked 0 w))
  kind_asked kind is g r w same world agrees = ap (λ k. asked k g (steps_of old) r w) (kind_is kind is g same) ∙ ap (asked kind g (steps_of old) r) (sym (worked_none w))

  pub asks_no_place : slice_get (kinds_of old.program.now) place ≡ None → Leads (AsksPlaceAt place many old) (FailsAt old)
  asks_no_place is = effect_fails _ old (λ r. 0) (kind_asked None is)

  pub asks_flag : slice_get (kinds_of old.program.now) place ≡ Some Flag → Leads (AsksPlaceAt place many old) (ActsAt (λ r w. Tests (is_some (value_at w.facts place 0)) w) old)
  asks_flag is = effect_acts _ old (λ r w. Tests (is_some (value_at w.facts place 0)) w) (λ r. 0) (kind_asked (Some Flag) is)

  pub asks_global : slice_get (kinds_of old.program.now) place ≡ Some GlobalKind → Leads (AsksPlaceAt place many old) (ReadsAt (λ facts. value_at facts place 0) (made_values old) old)
  asks_global is = effect_acts _ old (λ r w. reads_if_set (made_values old) r (value_at w.facts place 0) w) (λ r. 0) (kind_asked (Some GlobalKind) is)

  objects_asked : (kind : PlaceKind) → (kind ≡ Flag → ⊥) → (kind ≡ GlobalKind → ⊥) → (g : Game) (steps : List Step) (r : Registers) (w : World) → asked (Some kind) g steps r w ≡ ask_objects g (Some place) (made_values old) many steps r w
  objects_asked Flag f v g steps r w = absurd (f refl)
  objects_asked GlobalKind f v g steps r w = absurd (v refl)
  objects_asked ObjectFlag f v g steps r w = refl
  objects_asked ObjectVar f v g steps r w = refl
  objects_asked Parent f v g steps r w = refl

  pub asks_of_objects : (kind : PlaceKind) → (kind ≡ Flag → ⊥) → (kind ≡ GlobalKind → ⊥) → slice_get (kinds_of old.program.now) place ≡ Some kind → Leads (AsksPlaceAt place many old) (AsksObjectsAt (Some place) many old)
  asks_of_objects kind f v is =
      effect_on _ old (λ g steps r w. ask_objects g (Some place) (made_values old) many steps r w) (λ r. 0) (λ g r w same world agrees. kind_asked (Some kind) is g r w same world agrees ∙ objects_asked kind f v g (steps_of old) r (worked 0 w))

-- ## A query of objects

pub first_told : (s : Store) (refs : List Ref) (first : Ref) → Some first ≡ slice_get refs 0 → map (told s) refs ≡ told s first ∷ drop 1 (map (told s) refs)
first_told s [] first e = absurd (let no : Some first ≡ None = e in cc)
first_told s (r ∷ refs) first e = let same : r ≡ first = cc in ap (λ q. told s q ∷ map (told s) refs) same

pub none_told : (s : Store) (refs : List Ref) → None ≡ slice_get refs 0 → map (told s) refs ≡ []
none_told s [] e = refl
none_told s (r ∷ refs) e = absurd (let no : None ≡ Some r = e in cc)

module _ (place : Option ℕ) (many : Bool) (old : Engine) where
  abbrev values : List Value
  values = made_values old

  pub asks_no_values : None ≡ slice_get old.made.items 0 → Leads (AsksObjectsAt place many old) (FailsAt old)
  asks_no_values none = effect_fails _ old (λ r. 0) (λ g r w same world agrees.
      ap (λ l. ask_objects g place l many (steps_of old) r w) (none_told (store_in old.store) old.made.items none) ∙ ap (λ u. Acts (Fails u)) (sym (worked_none w)))

  module _ (first : Ref) (is : Some first ≡ slice_get old.made.items 0) where
    abbrev v : Value
    v = told (store_in old.store) first

    -- the first value, looked up
    abbrev looked : Value
    looked = walk (store_in old.store).state.subst v

    object_asked : OnEach old (λ g r w. ask_objects g place values many (steps_of old) r w ≡ ask_object g place looked v (drop 1 values) many (steps_of old) r (worked (looked_up r v) w))
    object_asked g r w same world agrees =
        ap (λ l. ask_objects g place l many (steps_of old) r w) (first_told (store_in old.store) old.made.items first is)
        ∙ ap (λ S. ask_object g place (walk S v) v (drop 1 values) many (steps_of old) r (worked (looked_up r v) w)) agrees.bound

    pub asks_open : IsSubject looked Open → Leads (AsksObjectsAt place many old) (TriesObjectsAt place many old)
    asks_open var = effect_on _ old _ (λ r. looked_up r v) (λ g r w same world agrees.
        object_asked g r w same world agrees
        ∙ ap (λ u. ask_object g place u v (drop 1 values) many (steps_of old) r (worked (looked_up r v) w)) var.1
        ∙ ap (λ l. Offers Plain (object_branches place l many (steps_of old) r (numbers 0 g.program.objects)) (worked (looked_up r v) w)) (sym (first_told (store_in old.store) old.made.items first is)))

    pub asks_thing : (object : ℕ) → IsSubject looked (Thing object) → Leads (AsksObjectsAt place many old) (ReadsAt (λ facts. found facts place object) (drop 1 values) old)
    asks_thing object thing = effect_acts _ old (λ r w. reads_if_set (drop 1 values) r (found w.facts place object) w) (λ r. looked_up r v) (λ g r w same world agrees.
        object_asked g r w same world agrees ∙ ap (λ u. ask_object g place u v (drop 1 values) many (steps_of old) r (worked (looked_up r v) w)) thing)

    other_asked : (g : Game) (u : Value) (steps : List Step) (r : Registers) (w : World) → may_name u ≡ false → ask_object g place u v (drop 1 values) many steps r w ≡ Acts (Fails w)
    other_asked g (Var n) steps r w h = absurd (cc)
    other_asked g (Node (Num n) vs) steps r w h = refl
    other_asked g (Node (Word n) vs) steps r w h = refl
    other_asked g (Node (Unknown n) vs) steps r w h = refl
    other_asked g (Node (Object n) vs) steps r w h = absurd (cc)
    other_asked g (Node Nil vs) steps r w h = refl
    other_asked g (Node Pair vs) steps r w h = refl
    other_asked g (Node (Closure n) vs) steps r w h = refl

    pub asks_other : IsSubject looked Other → Leads (AsksObjectsAt place many old) (FailsAt old)
    asks_other other = effect_fails _ old (λ r. looked_up r v) (λ g r w same world agrees. object_asked g r w same world agrees ∙ other_asked g looked (steps_of old) r (worked (looked_up r v) w) other)
