-- What the goals come to that write terms and make no choice.
use Rattle.std.proofs.Common.{◌≡◌, ℕ, List, [], ◌∷◌, Bool, true, false, refl, sym, ap, ◌∙◌, subst, arith, length, map, ◌≤◌}
use Rattle.std.specs.declared.vec.Vec.{Vec}
use Rattle.std.specs.declared.alloc.Global.{Global}
use Rattle.dg_base.specs.declared.program.Goal.{Goal, out-Goal}
use Rattle.dg_base.specs.declared.program.Goal.TheVariants.{Print, Test, outs-Print, outs-Test}
use Rattle.dg_base.specs.declared.program.Term.{Term}
use Rattle.dg_base.specs.declared.program.TestKind.{TestKind}
use Rattle.dg_base.specs.declared.program.CoreProgram.{CoreProgram}
use Rattle.dg_base.specs.Goals.{terms_held}
use Rattle.dg_meaning.specs.Values.{Value, value_of}
use Rattle.dg_meaning.specs.World.{Game, World, Piece, Prints, worked}
use Rattle.dg_meaning.specs.Cells.{cells, writing}
use Rattle.dg_meaning.specs.TypeTests.{passes}
use Rattle.dg_meaning.specs.Path.{Registers, Outcome, Moves}
use Rattle.dg_meaning.specs.Substitutions.{resolved}
use Rattle.dg_meaning.specs.Pieces.{pieces}
use Rattle.dg_meaning.specs.Moves.{printed, all_printed, goes_on_if, path_of, whole_looks, test_looks, outcome}
use Rattle.dg_meaning.specs.Transcript.{Run}
use Rattle.dg_meaning.specs.inside.Keeps.{Stands, Failed, After}
use Rattle.dg_unify.specs.Store.{Store, State, Saved, Kept, Made, told, or_nil}
use Rattle.dg_unify.specs.declared.bindings.Ref.{Ref}
use Rattle.dg_unify.specs.declared.bindings.Full.{Full}
use Rattle.dg_unify.specs.declared.list.ListBindings.{ListBindings}
use Rattle.dg_choices.specs.declared.frames.Env.{Env}
use Rattle.dg_interp.specs.declared.engine.Engine.{Engine}
use Rattle.dg_terms.specs.Terms.{Overflows}
use Rattle.dg_interp.specs.inside.Frames.{stretch, values_in}
use Rattle.dg_interp.specs.inside.Engine.{store_in, KeepsPlaces, steps_of, IsReady, TakesAt, StandsAt, FailsAt, FullAt, Adds, Then, Leads, Silent, WentOn, pieces_at, WrotePrinted}
use Rattle.dg_lasting.specs.declared.lasting.Lasting.{Lasting}
use Rattle.dg_lasting.specs.Lasting.{InWorld}
use Rattle.dg_unify.specs.inside.Engines.{Agrees}
use Rattle.dg_interp.proofs.Places.{silent, inside_kept, adds_nothing}
use Rattle.dg_unify.proofs.StoreLemmas.{holds_some}
use Rattle.dg_interp.proofs.Links.{same_here, at_same}
use Rattle.dg_interp.proofs.Stores.{values_kept, hold_front}
use Rattle.dg_interp.proofs.Takes.{behind, taken_in, comes_of, peak_taken, adds_taken, terms_full, store_ready}

module _ (x : Goal) (old : Engine) (store : ListBindings) (made : Vec Ref Global) (ready : IsReady old) (k : Kept (store_in old.store) (store_in store)) (saved : (ms : List Saved) → KeepsPlaces old.store ms → KeepsPlaces store ms) where
  abbrev pub grown : Engine
  grown = record old { store = store; made = made }

  steps_same : steps_of grown ≡ steps_of old
  steps_same = at_same (length old.refs.items) (values_in (store_in old.store) old.refs.items) (values_in (store_in store) old.refs.items) old.frames.items old.frames.items (length old.frames.items) old.here ready.here
      (values_kept (length old.refs.items) (store_in old.store) (store_in store) old.refs.items old.refs.items k (hold_front (store_in old.store) old.refs.items ready.sound.base.hold) refl) ready.sound.base.frames (same_here (length old.frames.items) old.frames.items)

  pub grown_limits : Silent old grown
  grown_limits = record { heap = k.heap_limit; trail = k.trail_limit; aux = refl; keep = refl; told = refl }

  pub stands_behind : (g : Game) (n : ℕ) (w v : World) (run : Run) → InWorld old.lasting g v → v.meters.heap ≤ (store_in store).heap_limit → (st : TakesAt x old g n w run) (r : Registers) → Agrees (store_in store) r → r.next_tag ≡ st.at.registers.next_tag → r.stoppable ≡ st.at.registers.stoppable → Stands g st.at.inside.lives st.at.ways (path_of (steps_of old) r) n v run → StandsAt grown g n v run
  stands_behind g n w v run none_open peak st r agrees tag part stands = record {
    at = record {
      inside = inside_kept _ _ saved none_open peak st.at.inside;
      ways = st.at.ways;
      ways_are = st.at.ways_are;
      registers = r;
      agrees = agrees;
      tag = tag ∙ st.at.tag;
      stop = part ∙ st.at.stop;
    };
    stands = subst (λ s. Stands g st.at.inside.lives st.at.ways (path_of s r) n v run) (sym steps_same) stands;
  }

  pub fails_behind : (g : Game) (n : ℕ) (w v : World) (run : Run) → InWorld old.lasting g v → v.meters.heap ≤ (store_in store).heap_limit → (st : TakesAt x old g n w run) → Failed g st.at.inside.lives n v run → FailsAt grown g n v run
  fails_behind g n w v run none_open peak st h = record {
    inside = inside_kept _ _ saved none_open peak st.at.inside;
    failed = h;
  }

pub made_among : (program : CoreProgram) (terms : List Term) (n : ℕ) (s t : Store) (refs part : List Ref) (env : Env) (r : Ref) (term : Term) → part ≡ stretch refs env → Made n s t r (value_of program (map (told s) part) term) → Made n s t r (value_of program (values_in s refs env) term)
made_among program terms n s t refs part env r term e h = subst (λ l. Made n s t r (value_of program (map (told s) l) term)) e h

-- ## One term

module _ (x : Goal) (term : Term) (held : terms_held (out-Goal x) ≡ term ∷ []) (old : Engine) where
  pub term_full : (e : Full) → ((program : CoreProgram) → old.program.now ≡ program → Overflows (cells program (term ∷ [])) (store_in old.store) e) → FullAt (TakesAt x old) (store_in old.store) e
  term_full e h = terms_full x old e (λ g same. subst (λ l. Overflows (cells g.program l) (store_in old.store) e) (sym held) (h g.program same))

  pub agrees_behind : (store : ListBindings) (value : Ref) → ((program : CoreProgram) → old.program.now ≡ program → Made (cells program (term ∷ [])) (store_in old.store) (store_in store) value (value_of program (values_in (store_in old.store) old.refs.items old.here.env) term)) →
      (g : Game) (n : ℕ) (w : World) (run : Run) (st : TakesAt x old g n w run) → Agrees (store_in store) (behind x old g n w run st)
  agrees_behind store value written g n w run st =
      let here = (written g.program st.at.inside.program).charged.state in
      let form : cells g.program (terms_held (out-Goal x)) ≡ cells g.program (term ∷ []) = ap (cells g.program) held in
      record {
        bound = st.at.agrees.bound ∙ ap (λ (t : State). t.subst) (sym here);
        vars = st.at.agrees.vars ∙ ap (λ (t : State). t.vars) (sym here);
        heap = omega (arith, st.at.agrees.heap, form, ap (λ (t : State). t.heap) here);
        trail = omega (arith, st.at.agrees.trail, ap (λ (t : State). t.trail) here);
        since = omega (arith, st.at.agrees.since, ap (λ (t : State). t.since) here, ap (λ (t : State). t.vars) here);
      }

-- ## A test

-- a goal that tests something, when its terms are written
module _ (x : Goal) (old : Engine) (store : ListBindings) (made : Vec Ref Global) (ready : IsReady old) (k : Kept (store_in old.store) (store_in store)) (saved : (ms : List Saved) → KeepsPlaces old.store ms → KeepsPlaces store ms) (passed : Bool)
    (agrees : (g : Game) (n : ℕ) (w : World) (run : Run) (st : TakesAt x old g n w run) → Agrees (store_in store) (behind x old g n w run st)) (work : (g : Game) (n : ℕ) (w : World) (run : Run) → TakesAt x old g n w run → ℕ)
    (comes : (g : Game) (n : ℕ) (w : World) (run : Run) (st : TakesAt x old g n w run) → After g st.at.inside.lives st.at.ways n (Moves (goes_on_if passed (steps_of old) (behind x old g n w run st) (worked (work g n w run st) (taken_in x old g n w run st)))) run) where
  abbrev looked : (g : Game) (n : ℕ) (w : World) (run : Run) → TakesAt x old g n w run → World
  looked g n w run st = worked (work g n w run st) (taken_in x old g n w run st)

  looked_peak : (g : Game) (n : ℕ) (w : World) (run : Run) (st : TakesAt x old g n w run) → (looked g n w run st).meters.heap ≤ (store_in store).heap_limit
  looked_peak g n w run st = peak_taken x old store g n w run st (agrees g n w run st) (omega (arith, st.at.inside.peak, k.heap_limit))

  adds_looked : (g : Game) (n : ℕ) (w : World) (run : Run) (st : TakesAt x old g n w run) → Adds [] w (looked g n w run st)
  adds_looked g n w run st = let a = adds_taken (behind x old g n w run st) (writing (terms_held (out-Goal x))) w in record { events_are = a.events_are; typed = refl }

  pub passed_on : passed ≡ true → WentOn (TakesAt x old) old (grown x old store made ready k saved)
  passed_on is = record {
    ready = store_ready old store made k saved ready;
    left = refl;
    limits = silent (grown_limits x old store made ready k saved);
    leads = λ g n w run st. record {
      world = looked g n w run st;
      adds = adds_looked g n w run st;
      holds = stands_behind x old store made ready k saved g n w (looked g n w run st) run st.at.inside.world (looked_peak g n w run st) st (behind x old g n w run st) (agrees g n w run st) refl refl
          (subst (λ b. After g st.at.inside.lives st.at.ways n (Moves (goes_on_if b (steps_of old) (behind x old g n w run st) (looked g n w run st))) run) is (comes g n w run st));
    };
  }

  pub not_passed : passed ≡ false → Leads (TakesAt x old) (FailsAt (grown x old store made ready k saved))
  not_passed is g n w run st = record {
    world = looked g n w run st;
    adds = adds_looked g n w run st;
    holds = fails_behind x old store made ready k saved g n w (looked g n w run st) run st.at.inside.world (looked_peak g n w run st) st
        (subst (λ b. After g st.at.inside.lives st.at.ways n (Moves (goes_on_if b (steps_of old) (behind x old g n w run st) (looked g n w run st))) run) is (comes g n w run st));
  }

test_held : (kind : TestKind) (term : Term) → terms_held (out-Goal (Test kind term)) ≡ term ∷ []
test_held kind term = ap terms_held (outs-Test kind term)

pub test_full : (kind : TestKind) (term : Term) (old : Engine) (e : Full) → ((program : CoreProgram) → old.program.now ≡ program → Overflows (cells program (term ∷ [])) (store_in old.store) e) → FullAt (TakesAt (Test kind term) old) (store_in old.store) e
test_full kind term old = term_full (Test kind term) term (test_held kind term) old

module _ (kind : TestKind) (term : Term) (old : Engine) (store : ListBindings) (made : Vec Ref Global) (value : Ref) (ready : IsReady old) (k : Kept (store_in old.store) (store_in store)) (saved : (ms : List Saved) → KeepsPlaces old.store ms → KeepsPlaces store ms)
    (written : (program : CoreProgram) → old.program.now ≡ program → Made (cells program (term ∷ [])) (store_in old.store) (store_in store) value (value_of program (values_in (store_in old.store) old.refs.items old.here.env) term)) where
  abbrev x : Goal
  x = Test kind term

  abbrev s : Store
  s = store_in store

  abbrev env : List Value
  env = values_in (store_in old.store) old.refs.items old.here.env

  agrees : (g : Game) (n : ℕ) (w : World) (run : Run) (st : TakesAt x old g n w run) → Agrees s (behind x old g n w run st)
  agrees = agrees_behind x term (test_held kind term) old store value written

  passed : Bool
  passed = passes s.state.subst kind (told s value)

  comes : (g : Game) (n : ℕ) (w : World) (run : Run) (st : TakesAt x old g n w run) → After g st.at.inside.lives st.at.ways n (Moves (goes_on_if passed (steps_of old) (behind x old g n w run st) (worked (test_looks kind (value_of g.program env term) (behind x old g n w run st)) (taken_in x old g n w run st)))) run
  unfolding passed
  comes g n w run st =
      let r = behind x old g n w run st in
      let v = taken_in x old g n w run st in
      let m : Bool → Outcome = λ b. Moves (goes_on_if b (steps_of old) r (worked (test_looks kind (value_of g.program env term) r) v)) in
      let same : passes s.state.subst kind (told s value) ≡ passes r.bound kind (value_of g.program env term) =
      ap (λ S. passes S kind (told s value)) (sym (agrees g n w run st).bound) ∙ ap (λ o. passes r.bound kind (or_nil o)) (written g.program st.at.inside.program).value in
      subst (λ q. After g st.at.inside.lives st.at.ways n q run) (ap (λ f. outcome g f env old.here.tag (steps_of old) r v) (outs-Test kind term) ∙ ap m (sym same)) (comes_of x old g n w run st)

  pub test_passed : true ≡ passes s.state.subst kind (told s value) → WentOn (TakesAt x old) old (grown x old store made ready k saved)
  unfolding passed
  test_passed is = passed_on x old store made ready k saved passed agrees (λ g n w run st. test_looks kind (value_of g.program env term) (behind x old g n w run st)) comes (sym is)

  pub test_failed : false ≡ passes s.state.subst kind (told s value) → Leads (TakesAt x old) (FailsAt (grown x old store made ready k saved))
  unfolding passed
  test_failed is = not_passed x old store made ready k saved passed agrees (λ g n w run st. test_looks kind (value_of g.program env term) (behind x old g n w run st)) comes (sym is)

-- ## A printed value

print_held : (term : Term) → terms_held (out-Goal (Print term)) ≡ term ∷ []
print_held term = ap terms_held (outs-Print term)

pub print_full : (term : Term) (old : Engine) (e : Full) → ((program : CoreProgram) → old.program.now ≡ program → Overflows (cells program (term ∷ [])) (store_in old.store) e) → FullAt (TakesAt (Print term) old) (store_in old.store) e
print_full term old = term_full (Print term) term (print_held term) old

adds_printed : (ps : List (List ℕ)) (w : World) → Adds (map (λ p. Prints (Piece p)) ps) w (all_printed ps w)
adds_printed [] w = adds_nothing w
adds_printed (p ∷ ps) w =
    let a = adds_printed ps (printed (Piece p) w) in
    record { events_are = a.events_are; typed = a.typed }

world_printed : (out : Lasting) (g : Game) (ps : List (List ℕ)) (w : World) → InWorld out g w → InWorld out g (all_printed ps w)
world_printed out g [] w is = is
world_printed out g (p ∷ ps) w is = world_printed out g ps (printed (Piece p) w) is

peak_printed : (ps : List (List ℕ)) (w : World) (limit : ℕ) → w.meters.heap ≤ limit → (all_printed ps w).meters.heap ≤ limit
peak_printed [] w limit peak = peak
peak_printed (p ∷ ps) w limit peak = peak_printed ps (printed (Piece p) w) limit peak

module _ (term : Term) (old : Engine) (store : ListBindings) (made : Vec Ref Global) (value : Ref) (ready : IsReady old) (k : Kept (store_in old.store) (store_in store)) (saved : (ms : List Saved) → KeepsPlaces old.store ms → KeepsPlaces store ms)
    (written : (program : CoreProgram) → old.program.now ≡ program → Made (cells program (term ∷ [])) (store_in old.store) (store_in store) value (value_of program (values_in (store_in old.store) old.refs.items old.here.env) term)) where
  abbrev y : Goal
  y = Print term

  abbrev new : Engine
  new = grown y old store made ready k saved

  abbrev values : List Value
  values = values_in (store_in old.store) old.refs.items old.here.env

  shown : (g : Game) (n : ℕ) (w : World) (run : Run) (st : TakesAt y old g n w run) → World
  shown g n w run st = worked (whole_looks (behind y old g n w run st) (value_of g.program values term)) (taken_in y old g n w run st)

  same_pieces : (g : Game) (n : ℕ) (w : World) (run : Run) (st : TakesAt y old g n w run) → pieces g.program (resolved (behind y old g n w run st).bound (value_of g.program values term)) ≡ pieces_at new value
  same_pieces g n w run st =
      let r = behind y old g n w run st in
      let s = store_in store in
      ap (λ v. pieces g.program (resolved r.bound (or_nil v))) (sym (written g.program st.at.inside.program).value)
      ∙ ap (λ S. pieces g.program (resolved S (told s value))) (agrees_behind y term (print_held term) old store value written g n w run st).bound
      ∙ ap (λ p. pieces p (resolved s.state.subst (told s value))) (sym st.at.inside.program)

  prints_next : (g : Game) (n : ℕ) (w : World) (run : Run) → TakesAt y old g n w run → Then (map (λ piece. Prints (Piece piece)) (pieces_at new value)) w (λ v. StandsAt new g n v run)
  prints_next g n w run st =
      let r = behind y old g n w run st in
      let v = taken_in y old g n w run st in
      let before = worked (whole_looks r (value_of g.program values term)) v in
      let ps = pieces_at new value in
      let b = adds_printed ps before in
      let stands : Stands g st.at.inside.lives st.at.ways (path_of (steps_of old) r) n (all_printed ps before) run =
      subst (λ l. Stands g st.at.inside.lives st.at.ways (path_of (steps_of old) r) n (all_printed l before) run) (same_pieces g n w run st)
      (subst (λ f. After g st.at.inside.lives st.at.ways n (outcome g f values old.here.tag (steps_of old) r v) run) (outs-Print term) (comes_of y old g n w run st)) in
      record {
        world = all_printed ps before;
        adds = record { events_are = b.events_are; typed = b.typed };
        holds = stands_behind y old store made ready k saved g n w (all_printed ps before) run (world_printed old.lasting g ps before st.at.inside.world) (peak_printed ps before (store_in store).heap_limit (peak_taken y old store g n w run st (agrees_behind y term (print_held term) old store value written g n w run st) (omega (arith, st.at.inside.peak, k.heap_limit)))) st r (agrees_behind y term (print_held term) old store value written g n w run st) refl refl stands;
      }

  pub wrote_printed : WrotePrinted term value old new
  wrote_printed = record {
    ready = store_ready old store made k saved ready;
    left = refl;
    limits = grown_limits y old store made ready k saved;
    holds = holds_some (store_in store) value _ (written old.program.now refl).value;
    leads = prints_next;
  }
