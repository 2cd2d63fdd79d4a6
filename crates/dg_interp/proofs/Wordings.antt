-- What splitting and joining words and reading a line come to.
use Rattle.std.proofs.Common.{◌≡◌, ℕ, ◌+◌, List, [], ◌∷◌, Bool, true, false, Option, Some, None, refl, sym, ap, ◌∙◌, subst, arith, length}
use Rattle.std.specs.Prelude.{IfOk, IfErr}
use Rattle.std.specs.Prelude.{Result as Answer}
use Rattle.std.specs.declared.vec.Vec.{Vec}
use Rattle.std.specs.declared.alloc.Global.{Global}
use Rattle.dg_base.specs.declared.program.Goal.{out-Goal}
use Rattle.dg_base.specs.declared.program.Goal.TheVariants.{SplitWord, JoinWords, Input, outs-SplitWord, outs-JoinWords, outs-Input}
use Rattle.dg_base.specs.declared.program.Term.{Term}
use Rattle.dg_base.specs.declared.program.CoreProgram.{CoreProgram}
use Rattle.dg_base.specs.Goals.{terms_held}
use Rattle.dg_meaning.specs.Values.{Value, value_of}
use Rattle.dg_meaning.specs.Cells.{cells}
use Rattle.dg_meaning.specs.Copies.{copy_cells}
use Rattle.dg_meaning.specs.Letters.{copied}
use Rattle.dg_meaning.specs.Substitutions.{walk, resolved}
use Rattle.dg_meaning.specs.Unify.{Unified, solve}
use Rattle.dg_meaning.specs.Words.{letters_in_word, joined_letters, each_alone, spelled_value, spelled_list, reading}
use Rattle.dg_meaning.specs.World.{Game, World, worked}
use Rattle.dg_meaning.specs.Path.{Registers, Unifies, Fails, Moves}
use Rattle.dg_meaning.specs.Moves.{looked_up, whole_looks, outcome, move_of, more_heap, gives, splits, joins, takes_line, begun, unifying, bound_by, made_since, goes_on_if}
use Rattle.dg_meaning.specs.inside.OneRun.{Grows}
use Rattle.dg_meaning.specs.Transcript.{Run}
use Rattle.dg_meaning.specs.inside.Keeps.{Went, world_at}
use Rattle.dg_meaning.proofs.Keeps.{has_happened}
use Rattle.dg_unify.specs.Store.{Store, State, Saved, Kept, Holds, Made, told, or_nil}
use Rattle.dg_unify.specs.inside.Engines.{Agrees}
use Rattle.dg_unify.specs.declared.bindings.Ref.{Ref}
use Rattle.dg_unify.specs.declared.bindings.Full.{Full}
use Rattle.dg_unify.specs.declared.bindings.Full.TheVariants as full
use Rattle.dg_unify.specs.declared.list.ListBindings.{ListBindings}
use Rattle.dg_interp.specs.declared.engine.Engine.{Engine}
use Rattle.dg_interp.specs.inside.Frames.{values_in}
use Rattle.dg_terms.specs.Terms.{BothMade}
use Rattle.dg_texts.specs.Spelling.{TooMany}
use Rattle.dg_interp.specs.inside.Engine.{store_in, KeepsPlaces, steps_of, IsReady, TakesAt, FailsAt, FullAt, Leads, Branches}
use Rattle.dg_interp.specs.inside.Giving.{UnifiesAt}
use Rattle.dg_meaning.specs.Engines.{game}
use Rattle.dg_interp.specs.inside.Wording.{words_in, MakesAt, AwaitsInput}
use Rattle.dg_meaning.proofs.OneRun.{grows_on, begun_grows}
use Rattle.dg_interp.proofs.Takes.{store_ready}
use Rattle.dg_interp.proofs.Places.{adds_nothing}
use Rattle.dg_unify.proofs.StoreLemmas.{holds_some, kept_told}
use Rattle.dg_interp.proofs.Giving.{with_store, kept_limits, acts_on, written_acts, branches_made}
use Rattle.dg_interp.proofs.Branches.{full_made}

-- ## A value that is made

module _ (v : Value) (into : Ref) (old : Engine) where
  abbrev s : Store
  s = store_in old.store

  module _ (g : Game) (n : ℕ) (w : World) (run : Run) (st : MakesAt v into old g n w run) where
    abbrev behind : Registers
    behind = more_heap (copy_cells v) st.at.registers

    abbrev u : Unified
    u = solve behind.bound ((told s into, v) ∷ [])

    abbrev bound : Registers
    bound = bound_by u (length (made_since behind.bound u.subst)) behind

    abbrev bound_in : World
    bound_in = begun bound (unifying behind.bound ((told s into, v) ∷ [])) w

    world_is : (o : Bool) → world_at (goes_on_if o (steps_of old) bound bound_in) ≡ bound_in
    world_is true = refl
    world_is false = refl

    pub made_grows : Grows bound_in run.world
    made_grows = subst (λ x. Grows x run.world) (world_is u.agrees) (has_happened g st.at.inside.lives st.at.ways n (Moves (goes_on_if u.agrees (steps_of old) bound bound_in)) run st.went)

    -- the run comes later than before it was made
    pub made_later : Grows w run.world
    made_later = grows_on w bound_in run.world (begun_grows bound (unifying behind.bound ((told s into, v) ∷ [])) w) made_grows

  -- the heap is full where it is made
  pub made_full : (e : Full) → TooMany (copy_cells v) s e → FullAt (MakesAt v into old) s e
  made_full full.Heap h = λ g n w run st. let grows = (made_grows g n w run st).meters in omega (arith, h, grows.heap, st.at.agrees.heap)
  made_full full.Trail h = absurd h
  made_full full.OutOfMemory h = tt

  module _ (store : ListBindings) (stack : Vec Ref Global) (ready : IsReady old) (k : Kept s (store_in store)) (saved : (ms : List Saved) → KeepsPlaces old.store ms → KeepsPlaces store ms) (hold : Holds s into) where
    grown_agrees : (made : Ref) → Made (copy_cells v) s (store_in store) made v → (r : Registers) → Agrees s r → Agrees (store_in store) (more_heap (copy_cells v) r)
    grown_agrees made m r h =
        let is = m.charged.state in
        record {
          bound = h.bound ∙ ap (λ (x : State). x.subst) (sym is);
          vars = h.vars ∙ ap (λ (x : State). x.vars) (sym is);
          heap = omega (arith, h.heap, ap (λ (x : State). x.heap) is);
          trail = omega (arith, h.trail, ap (λ (x : State). x.trail) is);
          since = omega (arith, h.since, ap (λ (x : State). x.since) is, ap (λ (x : State). x.vars) is);
        }

    pub value_given : (made : Ref) → Made (copy_cells v) s (store_in store) made v → Leads (MakesAt v into old) (UnifiesAt into made (with_store old store stack ready k saved))
    value_given made m g n w run st =
        let t = store_in store in
        let r = st.at.registers in
        let values : gives (told s into) v r w ≡ Unifies (more_heap (copy_cells v) r) ((told t into, told t made) ∷ []) w =
        ap (λ x. Unifies (more_heap (copy_cells v) r) ((x, v) ∷ []) w) (sym (kept_told s t into k hold))
        ∙ ap (λ o. Unifies (more_heap (copy_cells v) r) ((told t into, or_nil o) ∷ []) w) (sym m.value) in
        record {
          world = w;
          adds = adds_nothing w;
          holds = acts_on old store stack ready k saved g n w w run st.at st.at.inside.world (omega (arith, st.at.inside.peak, k.heap_limit)) (λ r v. Unifies r ((told t into, told t made) ∷ []) v) (more_heap (copy_cells v) r) (grown_agrees made m r st.at.agrees) refl refl
              (subst (λ c. Went g st.at.inside.lives st.at.ways n (move_of (steps_of old) r c) run) values st.went);
        }

    -- what unifying it comes to
    pub made_done : (made : Ref) → Made (copy_cells v) s (store_in store) made v → (new : Engine) (r : Answer Bool Full) → IfOk r (λ found. Branches (UnifiesAt into made (with_store old store stack ready k saved)) found (with_store old store stack ready k saved) new) → IfOk r (λ found. Branches (MakesAt v into old) found old new)
    made_done made m new r h = branches_made (MakesAt v into old) (UnifiesAt into made (with_store old store stack ready k saved)) old (with_store old store stack ready k saved) new refl (kept_limits old store stack ready k saved) (value_given made m) r h

    pub made_stops : (made : Ref) → Made (copy_cells v) s (store_in store) made v → (r : Answer Bool Full) → IfErr r (λ e. FullAt (UnifiesAt into made (with_store old store stack ready k saved)) (store_in store) e) → IfErr r (λ e. FullAt (MakesAt v into old) s e)
    made_stops made m r h = full_made (MakesAt v into old) (UnifiesAt into made (with_store old store stack ready k saved)) s (store_in store) r k.heap_limit k.trail_limit (value_given made m) h

-- ## Work

worked_on : (a b : ℕ) (w : World) → worked b (worked a w) ≡ worked (a + b) w
worked_on a b w = ap (λ n. record w { meters = record w.meters { work = n } }) (omega arith)

worked_none : (w : World) → worked 0 w ≡ w
worked_none w = ap (λ n. record w { meters = record w.meters { work = n } }) (omega arith)

-- ## Splitting

pub split_held : (a b : Term) → terms_held (out-Goal (SplitWord a b)) ≡ a ∷ b ∷ []
split_held a b = ap terms_held (outs-SplitWord a b)

pub join_held : (a b : Term) → terms_held (out-Goal (JoinWords a b)) ≡ a ∷ b ∷ []
join_held a b = ap terms_held (outs-JoinWords a b)

pub input_held : (a : Term) → terms_held (out-Goal (Input a)) ≡ a ∷ []
input_held a = ap terms_held (outs-Input a)

module _ (a b : Term) (old : Engine) (store : ListBindings) (stack : Vec Ref Global) (ra rb : Ref) (ready : IsReady old) (k : Kept (store_in old.store) (store_in store)) (saved : (ms : List Saved) → KeepsPlaces old.store ms → KeepsPlaces store ms)
    (made : (program : CoreProgram) → old.program.now ≡ program → BothMade program a b (values_in (store_in old.store) old.refs.items old.here.env) (store_in old.store) (store_in store) ra rb) where
  abbrev t : Store
  t = store_in store

  abbrev new : Engine
  new = with_store old store stack ready k saved

  abbrev env : List Value
  env = values_in (store_in old.store) old.refs.items old.here.env

  abbrev words : List (List ℕ)
  words = words_in old

  split_letters : (g : Game) (r : Registers) (o : Option (List ℕ)) → old.program.now ≡ g.program → r.bound ≡ t.state.subst → letters_in_word words (walk t.state.subst (told t ra)) ≡ o → letters_in_word g.program.words (walk r.bound (value_of g.program env a)) ≡ o
  split_letters g r o same bound e =
      ap (λ (p : CoreProgram). letters_in_word p.words (walk r.bound (value_of g.program env a))) (sym same)
      ∙ ap (λ S. letters_in_word words (walk S (value_of g.program env a))) bound
      ∙ ap (λ x. letters_in_word words (walk t.state.subst x)) (sym (made g.program same).left_is)
      ∙ e

  pub split_fails : letters_in_word words (walk t.state.subst (told t ra)) ≡ None → Leads (TakesAt (SplitWord a b) old) (FailsAt new)
  split_fails none g n w run st =
      let h = written_acts (SplitWord a b) (a ∷ b ∷ []) (split_held a b) old store stack ready k saved (λ program e. (made program e).state) (λ r w. Fails w) (λ g r. looked_up r (value_of g.program env a))
      (λ g r v same bound.
      ap (λ f. outcome g f env old.here.tag (steps_of old) r v) (outs-SplitWord a b)
      ∙ ap (λ o. Moves (move_of (steps_of old) r (splits g o (value_of g.program env b) r (worked (looked_up r (value_of g.program env a)) v)))) (split_letters g r None same bound none)) g n w run st in
      record { world = h.world; adds = h.adds; holds = record { inside = h.holds.at.inside; failed = h.holds.went } }

  pub split_leads : (letters : List ℕ) → letters_in_word words (walk t.state.subst (told t ra)) ≡ Some letters → Leads (TakesAt (SplitWord a b) old) (MakesAt (spelled_list words (each_alone letters)) rb new)
  split_leads letters some =
      let V = λ (p : CoreProgram). spelled_list p.words (each_alone letters) in
      let more = λ (p : CoreProgram). reading p.words (length letters) + copied (V p) in
      written_acts (SplitWord a b) (a ∷ b ∷ []) (split_held a b) old store stack ready k saved (λ program e. (made program e).state) (λ r w. gives (told t rb) (V old.program.now) r w) (λ g r. looked_up r (value_of g.program env a) + more g.program)
      (λ g r v same bound.
      let va = value_of g.program env a in
      let vb = value_of g.program env b in
      let steps = steps_of old in
      ap (λ f. outcome g f env old.here.tag steps r v) (outs-SplitWord a b)
      ∙ ap (λ o. Moves (move_of steps r (splits g o vb r (worked (looked_up r va) v)))) (split_letters g r (Some letters) same bound some)
      ∙ ap (λ x. Moves (move_of steps r (gives vb (V g.program) r x))) (worked_on (looked_up r va) (more g.program) v)
      ∙ ap (λ y. Moves (move_of steps r (gives y (V g.program) r (worked (looked_up r va + more g.program) v)))) (sym (made g.program same).right_is)
      ∙ ap (λ p. Moves (move_of steps r (gives (told t rb) (V p) r (worked (looked_up r va + more g.program) v)))) (sym same))

  -- ## Joining

  join_letters : (g : Game) (r : Registers) (o : Option (List ℕ)) → old.program.now ≡ g.program → r.bound ≡ t.state.subst → joined_letters words (resolved t.state.subst (told t ra)) ≡ o → joined_letters g.program.words (resolved r.bound (value_of g.program env a)) ≡ o
  join_letters g r o same bound e =
      ap (λ (p : CoreProgram). joined_letters p.words (resolved r.bound (value_of g.program env a))) (sym same)
      ∙ ap (λ S. joined_letters words (resolved S (value_of g.program env a))) bound
      ∙ ap (λ x. joined_letters words (resolved t.state.subst x)) (sym (made g.program same).left_is)
      ∙ e

  pub join_fails : joined_letters words (resolved t.state.subst (told t ra)) ≡ None → Leads (TakesAt (JoinWords a b) old) (FailsAt new)
  join_fails none g n w run st =
      let h = written_acts (JoinWords a b) (a ∷ b ∷ []) (join_held a b) old store stack ready k saved (λ program e. (made program e).state) (λ r w. Fails w) (λ g r. whole_looks r (value_of g.program env a))
      (λ g r v same bound.
      ap (λ f. outcome g f env old.here.tag (steps_of old) r v) (outs-JoinWords a b)
      ∙ ap (λ o. Moves (move_of (steps_of old) r (joins g o (value_of g.program env b) r (worked (whole_looks r (value_of g.program env a)) v)))) (join_letters g r None same bound none)) g n w run st in
      record { world = h.world; adds = h.adds; holds = record { inside = h.holds.at.inside; failed = h.holds.went } }

  pub join_leads : (letters : List ℕ) → joined_letters words (resolved t.state.subst (told t ra)) ≡ Some letters → Leads (TakesAt (JoinWords a b) old) (MakesAt (spelled_value words letters) rb new)
  join_leads letters some =
      let V = λ (p : CoreProgram). spelled_value p.words letters in
      let more = λ (p : CoreProgram). reading p.words (length letters) + copied (V p) in
      written_acts (JoinWords a b) (a ∷ b ∷ []) (join_held a b) old store stack ready k saved (λ program e. (made program e).state) (λ r w. gives (told t rb) (V old.program.now) r w) (λ g r. whole_looks r (value_of g.program env a) + more g.program)
      (λ g r v same bound.
      let va = value_of g.program env a in
      let vb = value_of g.program env b in
      let steps = steps_of old in
      ap (λ f. outcome g f env old.here.tag steps r v) (outs-JoinWords a b)
      ∙ ap (λ o. Moves (move_of steps r (joins g o vb r (worked (whole_looks r va) v)))) (join_letters g r (Some letters) same bound some)
      ∙ ap (λ x. Moves (move_of steps r (gives vb (V g.program) r x))) (worked_on (whole_looks r va) (more g.program) v)
      ∙ ap (λ y. Moves (move_of steps r (gives y (V g.program) r (worked (whole_looks r va + more g.program) v)))) (sym (made g.program same).right_is)
      ∙ ap (λ p. Moves (move_of steps r (gives (told t rb) (V p) r (worked (whole_looks r va + more g.program) v)))) (sym same))

-- ## Reading a line

same_line : (g : Game) (p : CoreProgram) (typed : List ℕ) (into : Value) (r : Registers) (w : World) → p ≡ g.program → takes_line g typed into r w ≡ takes_line (game p []) typed into r w
same_line g p [] into r w same = refl
same_line g p (b ∷ typed) into r w same = ap (λ q. takes_line (game q []) (b ∷ typed) into r w) (sym same)

pub input_awaits : (a : Term) (old : Engine) (store : ListBindings) (stack : Vec Ref Global) (ra : Ref) (ready : IsReady old) (k : Kept (store_in old.store) (store_in store)) (saved : (ms : List Saved) → KeepsPlaces old.store ms → KeepsPlaces store ms) →
    ((program : CoreProgram) → old.program.now ≡ program → Made (cells program (a ∷ [])) (store_in old.store) (store_in store) ra (value_of program (values_in (store_in old.store) old.refs.items old.here.env) a)) →
    AwaitsInput a ra old (with_store old store stack ready k saved)
input_awaits a old store stack ra ready k saved made =
    let t = store_in store in
    let env = values_in (store_in old.store) old.refs.items old.here.env in
    let steps = steps_of old in
    record {
      ready = store_ready old store stack k saved ready;
      left = refl;
      limits = kept_limits old store stack ready k saved;
      holds = holds_some t ra _ (made old.program.now refl).value;
      program = refl;
      leads =
          written_acts (Input a) (a ∷ []) (input_held a) old store stack ready k saved (λ program e. (made program e).charged.state) (λ r w. takes_line (game old.program.now []) w.typed (told t ra) r w) (λ g r. 0)
          (λ g r v same bound.
          ap (λ f. outcome g f env old.here.tag steps r v) (outs-Input a)
          ∙ ap (λ x. Moves (move_of steps r x)) (same_line g old.program.now v.typed (value_of g.program env a) r v same)
          ∙ ap (λ o. Moves (move_of steps r (takes_line (game old.program.now []) v.typed (or_nil o) r v))) (sym (made g.program same).value)
          ∙ ap (λ (x : World). Moves (move_of steps r (takes_line (game old.program.now []) x.typed (told t ra) r x))) (sym (worked_none v)));
    }
