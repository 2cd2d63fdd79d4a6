-- What is read of the world at once.
use Rattle.std.specs.Prelude.{is_some, slice_get}
use Rattle.std.proofs.Common.{◌≡◌, ℕ, ◌+◌, ◌-◌, ◌<◌, ◌≤◌, List, [], ◌∷◌, Option, Some, None, Bool, true, false, refl, sym, ap, ◌∙◌, subst, arith, length, get_or, vec_capacity}
use Rattle.std.specs.Borrow.{Bor}
use Rattle.std.specs.Option.{option_map}
use Rattle.dg_arena.specs.Held.{meaning_of}
use Rattle.dg_arena.specs.declared.arena.Arena.{Arena}
use Rattle.dg_base.specs.declared.cells.Cell.{Cell}
use Rattle.dg_base.specs.declared.cells.Simple.{Simple}
use Rattle.dg_base.specs.declared.program.PlaceKind.{PlaceKind}
use Rattle.dg_base.specs.declared.program.PlaceKind.TheVariants.{Flag, Global}
use Rattle.dg_base.specs.declared.run.Limits.{Limits}
use Rattle.dg_meaning.specs.Copies.{copy_cells, copy_from, vars_in}
use Rattle.dg_meaning.specs.Facts.{Fact, kinds_of, value_at}
use Rattle.dg_meaning.specs.Letters.{copied}
use Rattle.dg_meaning.specs.Moves.{behind_copy, copy_of, numbers, reads, reads_if_set, ask_object, ask_objects, ask_place, looked_up}
use Rattle.dg_meaning.specs.Path.{Registers, Unifies, Acts, Fails as FailsNow}
use Rattle.dg_meaning.specs.Changes.{found}
use Rattle.dg_meaning.specs.Substitutions.{Substitution, walk}
use Rattle.dg_meaning.specs.inside.Unify.{unify}
use Rattle.dg_meaning.specs.ValueCells.{cells_of}
use Rattle.dg_meaning.specs.Values.{Nil, Object, Value, Var, Node, leaf}
use Rattle.dg_meaning.specs.World.{Game, World, worked}
use Rattle.dg_lists.specs.Reading.{Copied}
use Rattle.dg_lasting.specs.Finding.{counted}
use Rattle.dg_meaning.specs.inside.Finding.{may_find, has_objects}
use Rattle.dg_lasting.specs.Lasting.{outline}
use Rattle.dg_lasting.specs.Subjects.{may_name, IsSubject}
use Rattle.dg_lasting.specs.declared.lasting.Lasting.{Lasting}
use Rattle.dg_lasting.specs.declared.subject.Subject.TheVariants.{Open, Thing, Other}
use Rattle.dg_lasting.proofs.Finds.{numbers_counted, same_copy, behind_simple, KeptAs, value_formed, kept_as}
use Rattle.dg_unify.specs.Store.{State, Store, Shows}
use Rattle.dg_unify.specs.declared.bindings.View.{View}
use Rattle.dg_unify.proofs.StoreLemmas.{told_is}
use Rattle.dg_unify.specs.declared.bindings.Ref.{Ref}
use Rattle.dg_world.specs.Tables.{Outline, IsKind, simple_value}
use Rattle.dg_world.specs.Worlds.{StandsFor}
use Rattle.dg_mid.specs.declared.code.Op.{Op}
use Rattle.dg_mid.specs.declared.code.Code.{Code}
use Rattle.dg_mid.specs.Actions.{asked_at, registers_of, world_of}
use Rattle.dg_mid.specs.Reads.{lasting_of}
use Rattle.dg_mid.specs.State.{Tries as TriesOf, Mid, Status, Runs as RunsOf, Resumes as ResumesOf, Fails as FailsOf}
use Rattle.dg_mid.specs.Step.{setting, charged, bound, done, seeks, unified, made_in, if_passed}
use Rattle.dg_machine.specs.declared.memory.Memory.{Memory}
use Rattle.dg_machine.specs.declared.now.Now.{Now}
use Rattle.dg_machine.specs.declared.now.Now.TheVariants.{Runs, Resumes, Fails}
use Rattle.dg_machine.specs.declared.now.Search.{Search}
use Rattle.dg_machine.specs.declared.now.Way.TheVariants.{Tries}
use Rattle.dg_machine.specs.Finding.{copied_in, HasCopied, ReadsGlobal, SeeksObjects, SeeksPlace, find_of}
use Rattle.dg_machine.specs.Passing.{IsFirst}
use Rattle.dg_machine.specs.Tables.{IsOf}
use Rattle.dg_machine.specs.declared.tables.Tables.{Tables}
use Rattle.dg_machine.specs.Layout.{Holds, Lacks}
use Rattle.dg_machine.specs.Refs.{RefsAt, Keeps}
use Rattle.dg_machine.specs.Measure.{with_way}
use Rattle.dg_machine.specs.Standing.{CodeIs, Stands, Around}
use Rattle.dg_machine.specs.inside.Writing.{Overflows, SpareFits}
use Rattle.dg_machine.proofs.Leads.{way_held}
use Rattle.dg_machine.proofs.Opens.{on_arena, registers_held, registers_roomy, roomy, roomy_on}
use Rattle.dg_machine.proofs.Unifying.{done_unifies}

-- ## Copies

-- a copy is unified with a value, behind the cells that it takes
pub done_copies : (code : Code) (g : Game) (l : Limits) (u v : Value) (m : Mid) (w : World) → lasting_of w ≡ m.lasting → let x = unify m.state.subst u (copy_from m.state.vars v) in
    done (setting g code l) (Unifies (behind_copy v (registers_of m)) ((u, copy_of v (registers_of m)) ∷ []) w) m ≡ charged (setting g code l) (copy_cells v) m (unified (setting g code l) x (copied_in v m) (RunsOf (bound x (copied_in v m))))
done_copies code g l u v m w e =
    let set = setting g code l in
    let x = unify m.state.subst u (copy_from m.state.vars v) in
    let taken : m.state.heap + copy_cells v - m.state.heap ≡ copy_cells v = omega arith in
    let made = behind_copy v (registers_of m) in
    ap (λ o. charged set (m.state.heap + copy_cells v - m.state.heap) m (unified set x (made_in made (record m { lasting = o })) (RunsOf (bound x (made_in made (record m { lasting = o })))))) e
    ∙ ap (λ k. charged set k m (unified set x (record m { state = record m.state { vars = m.state.vars + vars_in v; heap = m.state.heap + k } }) (RunsOf (bound x (record m { state = record m.state { vars = m.state.vars + vars_in v; heap = m.state.heap + k } }))))) taken

-- memory behind a copy
pub was_copied : (code : Code) (l : Limits) (m : Mid) (v : Value) (r : Memory) (a : Arena) (made : Ref) → Holds code l r m → Keeps r.arena a → Copied (meaning_of r.arena) (meaning_of a) v made → HasCopied code l v m (record r { arena = a }) made
was_copied code l m v r a made h keeps c = record {
  held = on_arena code l m (copied_in v m).state r a h keeps.kept keeps.saved (c.grew.state ∙ ap (λ (s : State). record s { vars = s.vars + vars_in v; heap = s.heap + copy_cells v }) h.0.state_is) (omega arith);
  value = c.value ∙ ap (λ (s : State). Some (copy_from s.vars v)) h.0.state_is;
}

pub no_copy_room : (code : Code) (l : Limits) (m : Mid) (n : ℕ) (r : Memory) (a : Arena) → Holds code l r m → Keeps r.arena a → Overflows n (meaning_of r.arena) → Lacks n l m.state.heap (record r { arena = a })
no_copy_room code l m n r a h keeps over =
    let limit = h.0.limits.heap in
    let heap = ap (λ (s : State). s.heap) h.0.state_is in
    record { over = omega (arith, over, limit, heap); roomy = roomy_on l r a (roomy code l m r h) keeps.kept }

-- the same, where Refs were kept behind others meanwhile
module _ (code : Code) (l : Limits) (m : Mid) (r new : Memory) (h : Holds code l r m) (keeps : Keeps r.arena new.arena) (room : vec_capacity new.kept ≡ vec_capacity r.kept) where
  pub kept_copied : (v : Value) (made : Ref) → new.kept.items ≡ r.kept.items → Copied (meaning_of r.arena) (meaning_of new.arena) v made → HasCopied code l v m (record r { arena = new.arena; kept = new.kept }) made
  kept_copied v made same c =
      let x = was_copied code l m v r new.arena made h keeps c in
      record { held = registers_held code l (copied_in v m) (record r { arena = new.arena }) (record r { arena = new.arena; kept = new.kept }) x.held refl h.0.room.refs.args_few refl refl same room; value = x.value }

  pub no_kept_room : (n : ℕ) → Overflows n (meaning_of r.arena) → Lacks n l m.state.heap (record r { arena = new.arena; kept = new.kept })
  no_kept_room n over =
      let x = no_copy_room code l m n r new.arena h keeps over in
      record { over = x.over; roomy = registers_roomy l (record r { arena = new.arena }) (record r { arena = new.arena; kept = new.kept }) x.roomy refl refl refl room }

-- there is room behind the Refs that choices keep
pub spare_fits : (code : Code) (l : Limits) (m : Mid) (r : Memory) → Holds code l r m → SpareFits (meaning_of r.arena) (vec_capacity r.kept) r.kept.items
spare_fits code l m r h = record { fits = h.0.room.refs.kept_fit; few = h.0.room.refs.kept_few }

-- ## What is set

module _ (code : Code) (g : Game) (l : Limits) (m : Mid) (vs : List Value) (w : World) (is : lasting_of w ≡ m.lasting) where
  abbrev read_to : Option Value → Status
  read_to fact = done (setting g code l) (reads_if_set vs (registers_of m) fact w) m

  -- nothing is set
  pub read_none : (fact : Option Value) → fact ≡ None → read_to fact ≡ FailsOf m
  read_none fact e = ap read_to e ∙ ap (λ o. FailsOf (record m { lasting = o })) is

  read_tests : (us : List Value) (v : Value) → us ≡ [] → done (setting g code l) (reads us (registers_of m) v w) m ≡ RunsOf m
  read_tests us v e = ap (λ xs. done (setting g code l) (reads xs (registers_of m) v w) m) e ∙ ap (λ o. RunsOf (record m { lasting = o })) is

  -- it isn't looked at
  pub read_alone : (fact : Option Value) (v : Value) → fact ≡ Some v → vs ≡ [] → read_to fact ≡ RunsOf m
  read_alone fact v e none = ap read_to e ∙ read_tests vs v none

  module _ (u : Value) (us : List Value) (some : vs ≡ u ∷ us) (fact : Option Value) where
    -- a value without parts is unified
    pub read_simple : (x : Simple) → fact ≡ Some (simple_value x) → read_to fact ≡ unified (setting g code l) (unify m.state.subst u (simple_value x)) m (RunsOf (bound (unify m.state.subst u (simple_value x)) m))
    read_simple x e =
        let r = registers_of m in
        let v = simple_value x in
        let world = worked (copied v) w in
        ap read_to e
        ∙ ap (λ xs. done (setting g code l) (reads xs r v w) m) some
        ∙ ap (λ q. done (setting g code l) (Unifies q ((u, copy_of v r) ∷ []) world) m) (behind_simple x r)
        ∙ ap (λ y. done (setting g code l) (Unifies r ((u, y) ∷ []) world) m) (same_copy r.next_var x)
        ∙ done_unifies (setting g code l) ((u, v) ∷ []) m world is

    -- any value is copied, and the copy is unified
    pub read_copy : (v : Value) → fact ≡ Some v → let x = unify m.state.subst u (copy_from m.state.vars v) in read_to fact ≡ charged (setting g code l) (copy_cells v) m (unified (setting g code l) x (copied_in v m) (RunsOf (bound x (copied_in v m))))
    read_copy v e = ap read_to e ∙ ap (λ xs. done (setting g code l) (reads xs (registers_of m) v w) m) some ∙ done_copies code g l u v m (worked (copied v) w) is

-- the value of a global variable, of which these are the cells
pub global_here : (g : Game) (l : Limits) (m : Mid) (out : Lasting) (place : ℕ) (kept : Option (List Cell)) → ((o : Outline) (facts : List Fact) → StandsFor out.world o facts → IsKind o place Global → kept ≡ option_map cells_of (value_at facts place 0)) → slice_get (kinds_of g.program) place ≡ Some Global → Around out g l m → kept ≡ option_map cells_of (value_at m.lasting.facts place 0)
global_here g l m out place kept h kind w = h (outline g.program out.world.area.keep) m.lasting.facts w.0.0.stands kind

pub global_kept : (g : Game) (l : Limits) (m : Mid) (out : Lasting) (place : ℕ) (cells : List Cell) → Some cells ≡ option_map cells_of (value_at m.lasting.facts place 0) → Around out g l m → KeptAs (value_at m.lasting.facts place 0) cells
global_kept g l m out place cells is w = kept_as (value_at m.lasting.facts place 0) cells is (λ v e. value_formed m.lasting.facts place 0 v w.0.0.formed e)

-- ## Queries of objects

pub record SplitArgs (vs : List Value) : Type 0 where
  pub first : Value
  pub others : List Value
  pub is : vs ≡ first ∷ others

pub split_args : (vs : List Value) → 1 ≤ length vs → SplitArgs vs
split_args [] le = absurd (omega (arith, le))
split_args (v ∷ vs) le = record { first = v; others = vs; is = refl }

pub no_others : (v : Value) (us : List Value) → length (v ∷ us) < 2 → us ≡ []
no_others v [] lt = refl
no_others v (u ∷ us) lt = absurd (omega (arith, lt))

pub second_is : (v : Value) (us : List Value) (x : SplitArgs us) → get_or (v ∷ us) 1 (leaf Nil) ≡ x.first
second_is v us x = ap (λ xs. get_or (v ∷ xs) 1 (leaf Nil)) x.is

-- what the first argument shows
pub no_first : (s : Store) (rs : List Ref) (vs : List Value) → RefsAt s rs vs → IsFirst s rs None → vs ≡ []
no_first s [] [] h f = refl
no_first s [] (v ∷ vs) h f = absurd h
no_first s (r ∷ rs) vs h f = absurd f

pub record FirstShows (s : Store) (S : Substitution) (vs : List Value) (view : View) : Type 0 where
  pub first : Value
  pub others : List Value
  pub is : vs ≡ first ∷ others
  pub shows : Shows s (walk S first) view

pub first_shows : (s : Store) (S : Substitution) (rs : List Ref) (vs : List Value) (view : View) → s.state.subst ≡ S → RefsAt s rs vs → IsFirst s rs (Some view) → FirstShows s S vs view
first_shows s S [] vs view e h f = absurd f
first_shows s S (r ∷ rs) [] view e h f = absurd h
first_shows s S (r ∷ rs) (v ∷ vs) view e h f = record { first = v; others = vs; is = refl; shows = subst (λ T. Shows s (walk T v) view) e (subst (λ x. Shows s (walk s.state.subst x) view) (told_is s r v h.0) f) }

other_fails : (g : Game) (place : Option ℕ) (x u : Value) (us : List Value) (r : Registers) (w : World) → may_name x ≡ false → ask_object g place x u us true [] r w ≡ Acts (FailsNow w)
other_fails g place (Var n) u us r w e = absurd (let no : true ≡ false = e in cc)
other_fails g place (Node (Object o) vs) u us r w e = absurd (let no : true ≡ false = e in cc)
other_fails g place x u us r w e = refl

module _ (code : Code) (g : Game) (l : Limits) (m : Mid) (place : Option ℕ) (vs : List Value) (many : Bool) (next : ℕ) where
  abbrev sought : Status
  sought = seeks (setting g code l) (find_of place vs many next) (ask_objects g place vs true [] (registers_of m) (world_of [] m)) m

  -- without an argument it fails
  pub sought_none : vs ≡ [] → sought ≡ FailsOf m
  sought_none e = ap (λ xs. seeks (setting g code l) (find_of place vs many next) (ask_objects g place xs true [] (registers_of m) (world_of [] m)) m) e

  module _ (u : Value) (us : List Value) (is : vs ≡ u ∷ us) where
    abbrev looked : World
    looked = worked (looked_up (registers_of m) u) (world_of [] m)

    asks_so : (x : Value) → walk m.state.subst u ≡ x → sought ≡ seeks (setting g code l) (find_of place vs many next) (ask_object g place x u us true [] (registers_of m) looked) m
    asks_so x e =
        ap (λ xs. seeks (setting g code l) (find_of place vs many next) (ask_objects g place xs true [] (registers_of m) (world_of [] m)) m) is
        ∙ ap (λ y. seeks (setting g code l) (find_of place vs many next) (ask_object g place y u us true [] (registers_of m) looked) m) e

    -- an unbound one is every object in turn
    pub sought_open : IsSubject (walk m.state.subst u) Open → sought ≡ ResumesOf (TriesOf (find_of place vs many next) (numbers 0 g.program.objects)) m
    sought_open s = asks_so (Var s.0) s.1

    -- an object is read at once
    pub sought_thing : (o : ℕ) → IsSubject (walk m.state.subst u) (Thing o) → sought ≡ done (setting g code l) (reads_if_set us (registers_of m) (found m.lasting.facts place o) looked) m
    sought_thing o s = asks_so (leaf (Object o)) s

    -- nothing else is one
    pub sought_other : IsSubject (walk m.state.subst u) Other → sought ≡ FailsOf m
    sought_other s = asks_so (walk m.state.subst u) refl ∙ ap (λ x. seeks (setting g code l) (find_of place vs many next) x m) (other_fails g place (walk m.state.subst u) u us (registers_of m) looked s)

-- all objects are tried
pub tries_all : (code : Code) (g : Game) (l : Limits) (m : Mid) (t : Tables) (k : Search) (end : ℕ) (vs : List Value) (r : Memory) → IsOf g.program t → end ≡ length t.objects → RefsAt (meaning_of r.arena) r.args.items vs → Holds code l r m → Stands code l (with_way r (Tries k 0 end)) Resumes (ResumesOf (TriesOf (find_of k.place vs k.many k.next) (numbers 0 g.program.objects)) m)
tries_all code g l m t k end vs r is_of count at h =
    let all : end - 0 ≡ length g.program.objects = let n = ap length is_of.objects in omega (arith, n, count) in
    ((record { place = refl; args = at; many = refl; next = refl }, numbers_counted 0 g.program.objects ∙ ap (counted 0) (sym all)), way_held code l r m (Tries k 0 end) h)

-- ## Places

module _ (t : Tables) (code : Code) (out : Lasting) (old new : Memory) (now : Now) (k : Search) (rest : List Op) where
  -- all objects are asked
  pub seeks_all : k.place ≡ None → SeeksObjects t code out old k.place k.many k.next rest new now → SeeksPlace t code out old k.place k.many k.next rest new now
  seeks_all e s = subst (λ p. SeeksObjects t code out old p k.many k.next rest new now → SeeksPlace t code out old p k.many k.next rest new now) (sym e) (λ f g is_of l m vs at h refs w. f g is_of l m vs refl at h refs w) s

  module _ (place : ℕ) (is : k.place ≡ Some place) (g : Game) (is_of : IsOf g.program t) (l : Limits) (m : Mid) (vs : List Value) where
    abbrev asked_place : Option PlaceKind → Status
    asked_place kind = seeks (setting g code l) (find_of k.place vs k.many k.next) (ask_place g place kind vs true [] (registers_of m) (world_of [] m)) m

    pub place_so : (kind : Option PlaceKind) → kind ≡ slice_get t.kinds.items place → seeks (setting g code l) (find_of k.place vs k.many k.next) (asked_at g [] k.place vs m) m ≡ asked_place kind
    place_so kind e = ap (λ p. seeks (setting g code l) (find_of k.place vs k.many k.next) (asked_at g [] p vs m) m) is ∙ ap asked_place (sym (e ∙ ap (λ ks. slice_get ks place) is_of.kinds))

    kind_here : (kind : PlaceKind) → Some kind ≡ slice_get t.kinds.items place → slice_get (kinds_of g.program) place ≡ Some kind
    kind_here kind e = sym (e ∙ ap (λ ks. slice_get ks place) is_of.kinds)

    -- a place that isn't there
    pub asks_nowhere : None ≡ slice_get t.kinds.items place → Holds code l old m → Stands code l old Fails (seeks (setting g code l) (find_of k.place vs k.many k.next) (asked_at g [] k.place vs m) m)
    asks_nowhere e h = subst (Stands code l old Fails) (sym (place_so None e)) h

    -- a flag
    flag_is : (b : Bool) → Some Flag ≡ slice_get t.kinds.items place → ((o : Outline) (facts : List Fact) → StandsFor out.world o facts → IsKind o place Flag → b ≡ is_some (value_at facts place 0)) → Around out g l m → seeks (setting g code l) (find_of k.place vs k.many k.next) (asked_at g [] k.place vs m) m ≡ if_passed b m
    flag_is b e h w = place_so (Some Flag) e ∙ ap (λ c. if_passed c m) (sym (h (outline g.program out.world.area.keep) m.lasting.facts w.0.0.stands (kind_here Flag e)))

    pub asks_set : (rest' : Bor (List Op)) (b : Bool) → b ≡ true → Some Flag ≡ slice_get t.kinds.items place → ((o : Outline) (facts : List Fact) → StandsFor out.world o facts → IsKind o place Flag → b ≡ is_some (value_at facts place 0)) → CodeIs rest'.now m → Holds code l old m → Around out g l m →
        Stands code l old (Runs rest') (seeks (setting g code l) (find_of k.place vs k.many k.next) (asked_at g [] k.place vs m) m)
    asks_set rest' b set e f at h w = subst (Stands code l old (Runs rest')) (sym (flag_is b e f w ∙ ap (λ c. if_passed c m) set)) (at, h)

    pub asks_clear : (b : Bool) → b ≡ false → Some Flag ≡ slice_get t.kinds.items place → ((o : Outline) (facts : List Fact) → StandsFor out.world o facts → IsKind o place Flag → b ≡ is_some (value_at facts place 0)) → Holds code l old m → Around out g l m →
        Stands code l old Fails (seeks (setting g code l) (find_of k.place vs k.many k.next) (asked_at g [] k.place vs m) m)
    asks_clear b clear e f h w = subst (Stands code l old Fails) (sym (flag_is b e f w ∙ ap (λ c. if_passed c m) clear)) h

    -- a global variable
    pub asks_global : ReadsGlobal code out old place rest new now → Some Global ≡ slice_get t.kinds.items place → CodeIs rest m → Holds code l old m → RefsAt (meaning_of old.arena) old.args.items vs → Around out g l m →
        Stands code l new now (seeks (setting g code l) (find_of k.place vs k.many k.next) (asked_at g [] k.place vs m) m)
    asks_global reads e at h refs w = subst (Stands code l new now) (sym (place_so (Some Global) e)) (reads g l m vs (kind_here Global e) at h refs w)

    -- objects
    kind_asks : (kind : PlaceKind) → (kind ≡ Flag → ⊥) → (kind ≡ Global → ⊥) → asked_place (Some kind) ≡ seeks (setting g code l) (find_of k.place vs k.many k.next) (ask_objects g (Some place) vs true [] (registers_of m) (world_of [] m)) m
    kind_asks Flag a b = absurd (a refl)
    kind_asks Global a b = absurd (b refl)
    kind_asks kind a b = refl

    kind_has : (kind : PlaceKind) → (kind ≡ Flag → ⊥) → (kind ≡ Global → ⊥) → has_objects (Some kind) ≡ true
    kind_has Flag a b = absurd (a refl)
    kind_has Global a b = absurd (b refl)
    kind_has kind a b = refl

    pub asks_objects : (kind : PlaceKind) → (kind ≡ Flag → ⊥) → (kind ≡ Global → ⊥) → SeeksObjects t code out old k.place k.many k.next rest new now → Some kind ≡ slice_get t.kinds.items place → CodeIs rest m → Holds code l old m → RefsAt (meaning_of old.arena) old.args.items vs → Around out g l m →
        Stands code l new now (seeks (setting g code l) (find_of k.place vs k.many k.next) (asked_at g [] k.place vs m) m)
    asks_objects kind a b sought e at h refs w =
        let may : may_find (kinds_of g.program) k.place ≡ true = ap (may_find (kinds_of g.program)) is ∙ ap has_objects (kind_here kind e) ∙ kind_has kind a b in
        let same = ap (λ p. seeks (setting g code l) (find_of k.place vs k.many k.next) (ask_objects g p vs true [] (registers_of m) (world_of [] m)) m) is in
        subst (Stands code l new now) (sym (place_so (Some kind) e ∙ kind_asks kind a b ∙ sym same)) (sought g is_of l m vs may at h refs w)
