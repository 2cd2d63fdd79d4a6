-- A change of a place of each kind is a turn.
use Rattle.std.proofs.Common.{◌≡◌, ◌≢◌, ℕ, ◌+◌, ◌-◌, ◌*◌, ◌<◌, ◌≤◌, Bool, true, false, List, [], ◌∷◌, length, Option, Some, refl, sym, ap, ◌∙◌, subst, arith}
use Rattle.std.specs.Prelude.{is_some}
use Rattle.std.specs.List.{slice_get, sum_by}
use Rattle.std.proofs.lemmas.List.Sums.{sum_by-cons}
use Rattle.dg_base.specs.declared.program.PlaceKind.{PlaceKind}
use Rattle.dg_base.specs.declared.program.PlaceKind.TheVariants.{Flag, ObjectFlag, ObjectVar, Parent, Global}
use Rattle.dg_base.specs.declared.program.Term.{Term}
use Rattle.dg_base.specs.Sound.{terms_of_kind}
use Rattle.dg_meaning.specs.Changes.{object_change, flag_change}
use Rattle.dg_meaning.specs.Facts.{Fact, set, Alteration, Sets, Clears, altered, kinds_of}
use Rattle.dg_meaning.specs.Substitutions.{Substitution, resolved}
use Rattle.dg_meaning.specs.Values.{Value}
use Rattle.dg_mid.specs.State.{Mid}
use Rattle.z_model.specs.Run.{ZState}
use Rattle.z_lang.specs.declared.act.Act.{Act}
use Rattle.z_lang.specs.declared.act.Args.{Args}
use Rattle.z_lang.specs.declared.act.Args.TheVariants as args
use Rattle.z_lang.specs.declared.act.Atom.TheVariants as atoms
use Rattle.z_lang.specs.State.{Program}
use Rattle.z_lang.specs.Runs.{ActsRun, Returns}
use Rattle.dg_rt.specs.declared.numbers.TheConstants.{SET_VALUE, SET_PARENT, CLEAR_VALUE, RAISE_FLAG, LOWER_FLAG, PUT}
use Rattle.dg_rt.specs.declared.changes.TheConstants.{SET_VALUE_ACTS, SET_PARENT_ACTS, CLEAR_VALUE_ACTS, RAISE_FLAG_ACTS, LOWER_FLAG_ACTS, PUT_ACTS}
use Rattle.dg_rt.specs.Cells.{at_cell, Holds}
use Rattle.dg_rt.specs.Areas.{state}
use Rattle.dg_rt.specs.Shapes.{Shows, nil}
use Rattle.dg_rt.specs.RunTime.{routine_of, HasRunTime}
use Rattle.dg_rt.specs.Changes.{SetIn, TableIn, facts_behind, cleared, AltersTable, AltersFlags}
use Rattle.dg_rt.proofs.Altered.{set_there, set_elsewhere, cleared_there, cleared_elsewhere, table_with}
use Rattle.dg_rt.proofs.Changing.{set_value_works, set_parent_works, clear_value_works}
use Rattle.dg_rt.proofs.Flagging.{raise_works, lower_works}
use Rattle.dg_rt.proofs.Reading.{put_works}
use Rattle.dg_turn.specs.Told.{Telling}
use Rattle.dg_turn.specs.Plays.{Playing, Outside}
use Rattle.dg_turn.specs.Terms.{written_in}
use Rattle.dg_turn.specs.Turns.{agreed_next}
use Rattle.dg_turn.specs.Operating.{term_value, term_links, deciding_routine, InFront}
use Rattle.dg_turn.specs.World.{place_words, place_bytes, world_end, words_at, bytes_at, PlaceIn, FactsIn, HasWorld, flag_word, now_routine, change_in, now_most, Changing, NowTurns}
use Rattle.dg_turn.proofs.DecidingTurn.{next_is}
use Rattle.dg_turn.proofs.NowTurn.{ChangedBy, changing}
use Rattle.dg_turn.proofs.Sums.{before_all}
use Rattle.dg_turn.proofs.Places.{table_of, bytes_of, AtPlace, stays_elsewhere, object_at, words_changed, bytes_changed}

-- ## Where the routines stand

module _ (p : Program) (has : HasRunTime p) where
  set_value_at : p.routine_at (p.names.routine SET_VALUE) ≡ Some (routine_of 4 SET_VALUE_ACTS)
  set_value_at = has.each (SET_VALUE - 1) (routine_of 4 SET_VALUE_ACTS) refl

  set_parent_at : p.routine_at (p.names.routine SET_PARENT) ≡ Some (routine_of 4 SET_PARENT_ACTS)
  set_parent_at = has.each (SET_PARENT - 1) (routine_of 4 SET_PARENT_ACTS) refl

  clear_value_at : p.routine_at (p.names.routine CLEAR_VALUE) ≡ Some (routine_of 4 CLEAR_VALUE_ACTS)
  clear_value_at = has.each (CLEAR_VALUE - 1) (routine_of 4 CLEAR_VALUE_ACTS) refl

  raise_at : p.routine_at (p.names.routine RAISE_FLAG) ≡ Some (routine_of 4 RAISE_FLAG_ACTS)
  raise_at = has.each (RAISE_FLAG - 1) (routine_of 4 RAISE_FLAG_ACTS) refl

  lower_at : p.routine_at (p.names.routine LOWER_FLAG) ≡ Some (routine_of 4 LOWER_FLAG_ACTS)
  lower_at = has.each (LOWER_FLAG - 1) (routine_of 4 LOWER_FLAG_ACTS) refl

  put_at : p.routine_at (p.names.routine PUT) ≡ Some (routine_of 3 PUT_ACTS)
  put_at = has.each (PUT - 1) (routine_of 3 PUT_ACTS) refl

-- ## What a routine of the run-time changes

module _ (t : Telling) (plays : Playing t) (world : HasWorld t) (out : Outside) (place behind : ℕ) (facts : List Fact) (memory : List ℕ) (cells : ℕ → ℕ) (h : Holds t.p.world.layout memory cells) (there : FactsIn t.program facts cells) where
  abbrev n : ℕ
  n = length t.program.objects

  abbrev next : ℕ
  next = t.p.names.routine behind

  abbrev By : ℕ → Args → Option Alteration → ℕ → Type 0
  By decider given change most = ChangedBy t out decider given memory cells (facts_behind change facts) (agreed_next t.p behind (is_some change)) most

  -- a table of words
  by_table : (kind : PlaceKind) → slice_get (kinds_of t.program) place ≡ Some kind → place_words n kind ≡ n → kind ≢ Global → (decider : ℕ) (acts : List Act) → t.p.routine_at (t.p.names.routine decider) ≡ Some (routine_of 4 acts) → (change : Option Alteration) → AtPlace place change → (most : ℕ) → ((cells' : ℕ → ℕ) (facts' : List Fact) → TableIn cells' (words_at t.program place) n facts' place → PlaceIn t.program facts' cells' place kind) → AltersTable t.p 3400 15000 acts memory out.typed out.output out.drawn (words_at t.program place) n cells facts place next change most → By decider (args.Three (atoms.Num (at_cell (words_at t.program place))) (atoms.Num n) (atoms.Routine behind)) change most
  by_table kind is size other decider acts stands change at most place_in k = record {
    xs = (at_cell (words_at t.program place), n, next);
    given_is = refl;
    called = routine_of 4 acts;
    stands = stands;
    few_locals = omega arith;
    memory' = k.memory';
    cells' = k.cells';
    holds = k.holds;
    inside = λ i far. (let b = before_all (place_words n) (kinds_of t.program) place kind is in k.others i (λ le. (let z : world_end t.program ≤ i = far (omega arith) in omega arith)));
    facts_in = words_changed t.program cells k.cells' facts (facts_behind change facts) place kind is (λ q o ne. stays_elsewhere facts place q o change at ne) (place_in k.cells' (facts_behind change facts) k.table) there n size other k.others;
    locals' = k.locals';
    count = k.count;
    few = k.few;
    runs = subst (λ (i : ℕ). ActsRun t.p 3400 15000 acts acts (state memory (at_cell (words_at t.program place) ∷ n ∷ next ∷ 0 ∷ []) out.typed out.drawn out.output) (Returns i) (state k.memory' k.locals' out.typed out.drawn out.output) k.count) (next_is t.p behind (is_some change)) k.runs;
  }

  -- flags of objects
  by_flags : slice_get (kinds_of t.program) place ≡ Some ObjectFlag → (decider : ℕ) (acts : List Act) → t.p.routine_at (t.p.names.routine decider) ≡ Some (routine_of 4 acts) → (change : Option Alteration) → AtPlace place change → (most : ℕ) → AltersFlags t.p 3400 15000 acts memory out.typed out.output out.drawn (bytes_at t.program place) n cells facts place next change most → By decider (args.Three (atoms.Num (64 + bytes_at t.program place)) (atoms.Num n) (atoms.Routine behind)) change most
  by_flags is decider acts stands change at most k = record {
    xs = (64 + bytes_at t.program place, n, next);
    given_is = refl;
    called = routine_of 4 acts;
    stands = stands;
    few_locals = omega arith;
    memory' = k.memory';
    cells' = k.cells';
    holds = k.holds;
    inside = λ i far. (let b = before_all (place_bytes n) (kinds_of t.program) place ObjectFlag is in k.others i (λ le. (let z : world_end t.program ≤ i = far (omega arith) in omega arith)));
    facts_in = bytes_changed t.program cells k.cells' facts (facts_behind change facts) place ObjectFlag is (λ q o ne. stays_elsewhere facts place q o change at ne) k.flags there refl k.bytes k.others;
    locals' = k.locals';
    count = k.count;
    few = k.few;
    runs = subst (λ (i : ℕ). ActsRun t.p 3400 15000 acts acts (state memory ((64 + bytes_at t.program place) ∷ n ∷ next ∷ 0 ∷ []) out.typed out.drawn out.output) (Returns i) (state k.memory' k.locals' out.typed out.drawn out.output) k.count) (next_is t.p behind (is_some change)) k.runs;
  }

  -- a flag of no object
  by_word : slice_get (kinds_of t.program) place ≡ Some Flag → (sets : Bool) → By PUT (args.Three (atoms.Num (at_cell (words_at t.program place))) (atoms.Num (flag_word sets)) (atoms.Routine behind)) (flag_change place sets) 2
  by_word is sets =
      let w = words_at t.program place in
      let table = table_of t world place 1 Flag is refl in
      let k = put_works t.p 3400 15000 memory out.typed out.output out.drawn w (flag_word sets) next cells h table (flag_small sets) in
      record {
        xs = (w_at, flag_word sets, next);
        given_is = refl;
        called = routine_of 3 PUT_ACTS;
        stands = put_at t.p plays.has;
        few_locals = omega arith;
        memory' = k.memory';
        cells' = k.cells';
        holds = k.holds;
        inside = λ i far. (let b = before_all (place_words n) (kinds_of t.program) place Flag is in k.others i (λ (q : i ≡ w). (let z : world_end t.program ≤ i = far (omega arith) in omega arith)));
        facts_in = words_changed t.program cells k.cells' facts (facts_behind (flag_change place sets) facts) place Flag is (λ q o ne. stays_elsewhere facts place q o (flag_change place sets) (flag_at_place sets) ne) (flag_table sets k.cells' k.is k.others) there 1 refl (λ (q : Flag ≡ Global). cc) (λ i far. k.others i (λ (q : i ≡ w). (let z : w + 1 ≤ i = far (omega arith) in omega arith)));
        locals' = w_at ∷ flag_word sets ∷ next ∷ [];
        count = 2;
        few = omega arith;
        runs = subst (λ (i : ℕ). ActsRun t.p 3400 15000 PUT_ACTS PUT_ACTS (state memory (w_at ∷ flag_word sets ∷ next ∷ []) out.typed out.drawn out.output) (Returns i) (state k.memory' (w_at ∷ flag_word sets ∷ next ∷ []) out.typed out.drawn out.output) 2) (goes_on sets) k.runs;
      }
    where
      w_at : ℕ
      w_at = at_cell (words_at t.program place)

      flag_small : (b : Bool) → flag_word b < 65536
      flag_small true = omega arith
      flag_small false = omega arith

      flag_at_place : (b : Bool) → AtPlace place (flag_change place b)
      flag_at_place true = refl
      flag_at_place false = refl

      goes_on : (b : Bool) → next ≡ agreed_next t.p behind (is_some (flag_change place b))
      goes_on true = refl
      goes_on false = refl

      flag_table : (b : Bool) (cells' : ℕ → ℕ) → cells' (words_at t.program place) ≡ flag_word b → ((i : ℕ) → i ≢ words_at t.program place → cells' i ≡ cells i) → TableIn cells' (words_at t.program place) 1 (facts_behind (flag_change place b) facts) place
      flag_table true cells' e others =
          let w = words_at t.program place in
          let first : w + 0 ≡ w = omega arith in
          let there_is : cells' (w + 0) ≡ 28672 = ap cells' first ∙ e in
          let shows : SetIn (cells' (w + 0)) (Some set) = λ sh. subst (λ (x : ℕ). Shows sh x set) (sym there_is) nil in
          table_with cells cells' w 1 place 0 facts (altered (Sets place 0 set) facts) (omega arith) (subst (SetIn (cells' (w + 0))) (sym (set_there place 0 set facts)) shows) (λ i ne. set_elsewhere place 0 set facts place i (λ x. ne)) (λ i ne. others i (λ (q : i ≡ w). ne (omega arith))) (there.each place Flag is)
      flag_table false cells' e others =
          let w = words_at t.program place in
          let first : w + 0 ≡ w = omega arith in
          table_with cells cells' w 1 place 0 facts (altered (Clears place 0) facts) (omega arith) (subst (SetIn (cells' (w + 0))) (sym (cleared_there place 0 facts)) (ap cells' first ∙ e)) (λ i ne. cleared_elsewhere place 0 facts place i (λ x. ne)) (λ i ne. others i (λ (q : i ≡ w). ne (omega arith))) (there.each place Flag is)

-- ## The turns

module _ (t : Telling) (plays : Playing t) (world : HasWorld t) (out : Outside) (place behind : ℕ) (facts : List Fact) (m : Mid) (z : ZState) (facts_out : FactsIn t.program facts out.words) where
  abbrev S : Substitution
  S = m.state.subst

  abbrev objects : ℕ
  objects = length t.program.objects

  abbrev after : ℕ
  after = t.p.names.routine behind

  abbrev w : ℕ
  w = words_at t.program place

  abbrev b : ℕ
  b = bytes_at t.program place

  abbrev Turn : PlaceKind → List Term → Bool → Type 0
  Turn kind ts sets = InFront t out (now_routine t.program kind place ts sets behind) ts m z → Changing t out ts behind (change_in t.program kind place ts sets m) facts (now_most t.program kind place ts sets m) m z

  abbrev value : Term → Value
  value a = term_value t.program m a

  abbrev links_of : Term → ℕ
  links_of a = term_links t.program m a

  -- the links of one term, and of two
  one_links : (a : Term) → sum_by (term_links t.program m) (a ∷ []) ≡ links_of a
  one_links a = sum_by-cons (term_links t.program m) a [] ∙ omega arith

  two_links : (a c : Term) → sum_by (term_links t.program m) (a ∷ c ∷ []) ≡ links_of a + links_of c
  two_links a c = sum_by-cons (term_links t.program m) a (c ∷ []) ∙ ap (λ (i : ℕ). links_of a + i) (one_links c)

  flag_turn : slice_get (kinds_of t.program) place ≡ Some Flag → (sets : Bool) → Turn Flag [] sets
  flag_turn is sets e = changing t plays out [] (omega arith) PUT (args.Three (atoms.Num (at_cell w)) (atoms.Num (flag_word sets)) (atoms.Routine behind)) behind (flag_change place sets) facts m z facts_out e 2 (now_most t.program Flag place [] sets m) (omega arith)
      (λ w1 here. by_word t plays world out place behind facts w1.memory' w1.cells' w1.holds here is sets)

  abbrev given : Args
  given = args.Three (atoms.Num (at_cell w)) (atoms.Num objects) (atoms.Routine behind)

  -- a value of an object
  abbrev two_values : Term → Term → List Value
  two_values a c = resolved S (value a) ∷ resolved S (value c) ∷ []

  value_turn : slice_get (kinds_of t.program) place ≡ Some ObjectVar → (a c : Term) → Turn ObjectVar (a ∷ c ∷ []) true
  value_turn is a c e =
      let change = object_change objects ObjectVar place true (two_values a c) in
      let sum = two_links a c in
      let most = 5 * links_of a + 5 * links_of c + 40 in
      changing t plays out (a ∷ c ∷ []) (omega arith) SET_VALUE given behind change facts m z facts_out e most (now_most t.program ObjectVar place (a ∷ c ∷ []) true m) (omega arith)
      (λ w1 here. by_table t plays world out place behind facts w1.memory' w1.cells' w1.holds here ObjectVar is refl (λ (q : ObjectVar ≡ Global). cc) SET_VALUE SET_VALUE_ACTS (set_value_at t.p plays.has) change (object_at place objects ObjectVar true (two_values a c)) most (λ cells' facts' x. x)
      (set_value_works t.p plays.has 3400 15000 (omega arith) (omega arith) w1.memory' out.typed out.output out.drawn w1.sh' w1.cells' S (value a) (value c) (record { shape = w1.mid.state.shape; holds = w1.holds; stands = w1.mid.state.stands; first = w1.words.0 }) w1.words.1.0 w objects place after facts [] (table_of t world place objects ObjectVar is refl) world.few (here.each place ObjectVar is)))

  parent_turn : slice_get (kinds_of t.program) place ≡ Some Parent → (a c : Term) → Turn Parent (a ∷ c ∷ []) true
  parent_turn is a c e =
      let change = object_change objects Parent place true (two_values a c) in
      let sum = two_links a c in
      let most = 5 * links_of a + 5 * links_of c + 40 in
      changing t plays out (a ∷ c ∷ []) (omega arith) SET_PARENT given behind change facts m z facts_out e most (now_most t.program Parent place (a ∷ c ∷ []) true m) (omega arith)
      (λ w1 here. by_table t plays world out place behind facts w1.memory' w1.cells' w1.holds here Parent is refl (λ (q : Parent ≡ Global). cc) SET_PARENT SET_PARENT_ACTS (set_parent_at t.p plays.has) change (object_at place objects Parent true (two_values a c)) most (λ cells' facts' x. x)
      (set_parent_works t.p plays.has 3400 15000 (omega arith) (omega arith) w1.memory' out.typed out.output out.drawn w1.sh' w1.cells' S (value a) (value c) (record { shape = w1.mid.state.shape; holds = w1.holds; stands = w1.mid.state.stands; first = w1.words.0 }) w1.words.1.0 w objects place after facts [] (table_of t world place objects Parent is refl) world.few (here.each place Parent is)))

  -- none
  module _ (kind : PlaceKind) (is : slice_get (kinds_of t.program) place ≡ Some kind) (size : place_words objects kind ≡ objects) (other : kind ≢ Global) (place_in : (cells' : ℕ → ℕ) (facts' : List Fact) → TableIn cells' w objects facts' place → PlaceIn t.program facts' cells' place kind) (table_in : (cells' : ℕ → ℕ) (facts' : List Fact) → PlaceIn t.program facts' cells' place kind → TableIn cells' w objects facts' place) (a c : Term) where
    abbrev gone : Option Alteration
    gone = object_change objects kind place false (two_values a c)

    cleared_turn : (all : ℕ) → written_in t.program (a ∷ c ∷ []) + (10 * links_of a + 4 * cleared objects gone + 50) + 10 ≤ all → InFront t out (deciding_routine t.program (a ∷ c ∷ []) CLEAR_VALUE given) (a ∷ c ∷ []) m z → Changing t out (a ∷ c ∷ []) behind gone facts all m z
    cleared_turn all le e =
        let most = 10 * links_of a + 4 * cleared objects gone + 50 in
        changing t plays out (a ∷ c ∷ []) (omega arith) CLEAR_VALUE given behind gone facts m z facts_out e most all le
        (λ w1 here. by_table t plays world out place behind facts w1.memory' w1.cells' w1.holds here kind is size other CLEAR_VALUE CLEAR_VALUE_ACTS (clear_value_at t.p plays.has) gone (object_at place objects kind false (two_values a c)) most place_in
        (clear_value_works t.p plays.has 3400 15000 (omega arith) (omega arith) w1.memory' out.typed out.output out.drawn w1.sh' w1.cells' S (value a) (record { shape = w1.mid.state.shape; holds = w1.holds; stands = w1.mid.state.stands; first = w1.words.0 }) w objects place after facts kind (resolved S (value c) ∷ []) (table_of t world place objects kind is size) world.few (table_in w1.cells' facts (here.each place kind is))))

  no_value_turn : slice_get (kinds_of t.program) place ≡ Some ObjectVar → (a c : Term) → Turn ObjectVar (a ∷ c ∷ []) false
  no_value_turn is a c e = let sum = two_links a c in cleared_turn ObjectVar is refl (λ (q : ObjectVar ≡ Global). cc) (λ cells' facts' x. x) (λ cells' facts' x. x) a c (now_most t.program ObjectVar place (a ∷ c ∷ []) false m) (omega arith) e

  no_parent_turn : slice_get (kinds_of t.program) place ≡ Some Parent → (a c : Term) → Turn Parent (a ∷ c ∷ []) false
  no_parent_turn is a c e = let sum = two_links a c in cleared_turn Parent is refl (λ (q : Parent ≡ Global). cc) (λ cells' facts' x. x) (λ cells' facts' x. x) a c (now_most t.program Parent place (a ∷ c ∷ []) false m) (omega arith) e

  -- a flag of an object
  abbrev given_flag : Args
  given_flag = args.Three (atoms.Num (64 + b)) (atoms.Num objects) (atoms.Routine behind)

  raise_turn : slice_get (kinds_of t.program) place ≡ Some ObjectFlag → (a : Term) → Turn ObjectFlag (a ∷ []) true
  raise_turn is a e =
      let change = object_change objects ObjectFlag place true (resolved S (value a) ∷ []) in
      let sum = one_links a in
      let most = 5 * links_of a + 50 in
      changing t plays out (a ∷ []) (omega arith) RAISE_FLAG given_flag behind change facts m z facts_out e most (now_most t.program ObjectFlag place (a ∷ []) true m) (omega arith)
      (λ w1 here. by_flags t plays world out place behind facts w1.memory' w1.cells' w1.holds here is RAISE_FLAG RAISE_FLAG_ACTS (raise_at t.p plays.has) change (object_at place objects ObjectFlag true (resolved S (value a) ∷ [])) most
      (raise_works t.p plays.has 3400 15000 (omega arith) (omega arith) w1.memory' out.typed out.output out.drawn w1.sh' w1.cells' S (value a) (record { shape = w1.mid.state.shape; holds = w1.holds; stands = w1.mid.state.stands; first = w1.words.0 }) b objects place after facts [] (bytes_of t world place is) world.few (here.each place ObjectFlag is)))

  lower_turn : slice_get (kinds_of t.program) place ≡ Some ObjectFlag → (a : Term) → Turn ObjectFlag (a ∷ []) false
  lower_turn is a e =
      let change = object_change objects ObjectFlag place false (resolved S (value a) ∷ []) in
      let sum = one_links a in
      let most = 10 * links_of a + 22 * cleared objects change + 60 in
      changing t plays out (a ∷ []) (omega arith) LOWER_FLAG given_flag behind change facts m z facts_out e most (now_most t.program ObjectFlag place (a ∷ []) false m) (omega arith)
      (λ w1 here. by_flags t plays world out place behind facts w1.memory' w1.cells' w1.holds here is LOWER_FLAG LOWER_FLAG_ACTS (lower_at t.p plays.has) change (object_at place objects ObjectFlag false (resolved S (value a) ∷ [])) most
      (lower_works t.p plays.has 3400 15000 (omega arith) (omega arith) w1.memory' out.typed out.output out.drawn w1.sh' w1.cells' S (value a) (record { shape = w1.mid.state.shape; holds = w1.holds; stands = w1.mid.state.stands; first = w1.words.0 }) b objects place after facts ObjectFlag [] (bytes_of t world place is) world.few (here.each place ObjectFlag is)))

  -- by the kind, and as many terms as it has
  by_kind : (kind : PlaceKind) (ts : List Term) (sets : Bool) → slice_get (kinds_of t.program) place ≡ Some kind → kind ≢ Global → length ts ≡ terms_of_kind kind → Turn kind ts sets
  by_kind Flag [] sets is other size e = flag_turn is sets e
  by_kind Flag (a ∷ ts) sets is other size e = absurd (omega arith)
  by_kind ObjectFlag [] sets is other size e = absurd (omega arith)
  by_kind ObjectFlag (a ∷ []) true is other size e = raise_turn is a e
  by_kind ObjectFlag (a ∷ []) false is other size e = lower_turn is a e
  by_kind ObjectFlag (a ∷ c ∷ ts) sets is other size e = absurd (omega arith)
  by_kind ObjectVar [] sets is other size e = absurd (omega arith)
  by_kind ObjectVar (a ∷ []) sets is other size e = absurd (omega arith)
  by_kind ObjectVar (a ∷ c ∷ []) true is other size e = value_turn is a c e
  by_kind ObjectVar (a ∷ c ∷ []) false is other size e = no_value_turn is a c e
  by_kind ObjectVar (a ∷ c ∷ d ∷ ts) sets is other size e = absurd (omega arith)
  by_kind Parent [] sets is other size e = absurd (omega arith)
  by_kind Parent (a ∷ []) sets is other size e = absurd (omega arith)
  by_kind Parent (a ∷ c ∷ []) true is other size e = parent_turn is a c e
  by_kind Parent (a ∷ c ∷ []) false is other size e = no_parent_turn is a c e
  by_kind Parent (a ∷ c ∷ d ∷ ts) sets is other size e = absurd (omega arith)
  by_kind Global ts sets is other size e = absurd (other refl)

pub now_turns : NowTurns
now_turns t plays world out kind place ts sets behind facts m z is other size facts_out e = by_kind t plays world out place behind facts m z facts_out kind ts sets is other size e
