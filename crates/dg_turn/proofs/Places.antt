-- Where the tables of places lie, and that a change of one leaves the others.
use Rattle.std.proofs.Common.{◌≡◌, ◌≢◌, ℕ, ◌+◌, ◌*◌, ◌/◌, ◌<◌, ◌≤◌, inl, inr, Bool, true, false, List, [], ◌∷◌, length, Option, Some, None, refl, sym, ap, ◌∙◌, subst, arith}
use Rattle.std.specs.Prelude.{nat_lt}
use Rattle.std.specs.List.{slice_get}
use Rattle.std.proofs.lemmas.Bool.{cases_order, cond_both}
use Rattle.dg_base.specs.declared.program.CoreProgram.{CoreProgram}
use Rattle.dg_base.specs.declared.program.PlaceKind.{PlaceKind}
use Rattle.dg_base.specs.declared.program.PlaceKind.TheVariants.{Flag, ObjectFlag, ObjectVar, Parent, Global}
use Rattle.dg_meaning.specs.Values.{Num, Word, Unknown, Object, Nil, Pair, Closure, Value, Var, Node}
use Rattle.dg_meaning.specs.Facts.{Fact, value_at, takes, Alteration, Sets, Clears, ClearsAll, kinds_of}
use Rattle.dg_meaning.specs.Changes.{sets_if_taken, object_set, if_there, object_change, global_change, flag_change, change_of}
use Rattle.dg_rt.specs.Tables.{byte_at, IsTable, AreBytes}
use Rattle.dg_rt.specs.Areas.{line_at, fixed_end}
use Rattle.dg_rt.specs.Changes.{TableIn, FlagsIn, facts_behind}
use Rattle.dg_rt.proofs.Altered.{set_elsewhere, cleared_elsewhere, others_stay, table_stays, flags_stay}
use Rattle.dg_turn.specs.Told.{Telling}
use Rattle.dg_turn.specs.Rest.{aux_end}
use Rattle.dg_turn.specs.World.{world_at, place_words, place_bytes, all_words, words_at, bytes_at, PlaceIn, AreGlobal, KeptFacts, FactsIn, HasWorld}
use Rattle.dg_rt.specs.Kept.{Block, NoEntry}
use Rattle.dg_turn.proofs.GlobalFacts.{none_among, none_behind, kept_stay}
use Rattle.dg_turn.proofs.Sums.{before_all, before_later}

-- ## Tables

module _ (t : Telling) (world : HasWorld t) where
  abbrev n : ℕ
  n = length t.program.objects

  abbrev kinds : List PlaceKind
  kinds = kinds_of t.program

  -- The table of a place is within what may be written.
  pub table_of : (place k : ℕ) (kind : PlaceKind) → slice_get kinds place ≡ Some kind → place_words n kind ≡ k → IsTable t.p (words_at t.program place) k
  table_of place k kind e size =
      let b = before_all (place_words n) kinds place kind e in
      let room = world.room in
      record { from = omega arith; within = omega arith }

  pub bytes_of : (place : ℕ) → slice_get kinds place ≡ Some ObjectFlag → AreBytes t.p (bytes_at t.program place) n
  bytes_of place e =
      let b = before_all (place_bytes n) kinds place ObjectFlag e in
      let room = world.room in
      record { from = omega arith; within = omega arith }

-- ## Facts

-- The place of a change.
abbrev place_of : Alteration → ℕ
place_of (Sets place o v) = place
place_of (Clears place o) = place
place_of (ClearsAll place) = place

abbrev pub AtPlace : ℕ → Option Alteration → Type 0
AtPlace place None = Unit {0}
AtPlace place (Some a) = place_of a ≡ place

-- Nothing else is changed than what is set at the place of a change.
pub stays_elsewhere : (facts : List Fact) (place q o : ℕ) (change : Option Alteration) → AtPlace place change → q ≢ place → value_at (facts_behind change facts) q o ≡ value_at facts q o
stays_elsewhere facts place q o None at ne = refl
stays_elsewhere facts place q o (Some (Sets p i v)) at ne = set_elsewhere p i v facts q o (λ e. absurd (ne (e ∙ at)))
stays_elsewhere facts place q o (Some (Clears p i)) at ne = cleared_elsewhere p i facts q o (λ e. absurd (ne (e ∙ at)))
stays_elsewhere facts place q o (Some (ClearsAll p)) at ne = others_stay p facts q o (λ e. ne (e ∙ at))

-- A change of a place is there.
module _ (place : ℕ) where
  taken_at : (kind : PlaceKind) (o : ℕ) (v : Value) → AtPlace place (sets_if_taken kind place o v)
  taken_at kind o v = cond_both (takes kind v) (Some (Sets place o v)) None (AtPlace place) (λ e. refl) (λ e. tt)

  object_set_at : (kind : PlaceKind) (o : ℕ) (values : List Value) → AtPlace place (object_set kind place o values)
  object_set_at ObjectFlag o values = refl
  object_set_at Flag o [] = tt
  object_set_at Flag o (v ∷ values) = taken_at Flag o v
  object_set_at ObjectVar o [] = tt
  object_set_at ObjectVar o (v ∷ values) = taken_at ObjectVar o v
  object_set_at Parent o [] = tt
  object_set_at Parent o (v ∷ values) = taken_at Parent o v
  object_set_at Global o [] = tt
  object_set_at Global o (v ∷ values) = taken_at Global o v

  there_at : (objects o : ℕ) (change : Option Alteration) → AtPlace place change → AtPlace place (if_there objects o change)
  there_at objects o change at = cond_both (nat_lt o objects) change None (AtPlace place) (λ e. at) (λ e. tt)

  pub object_at : (objects : ℕ) (kind : PlaceKind) (sets : Bool) (values : List Value) → AtPlace place (object_change objects kind place sets values)
  object_at objects kind true [] = tt
  object_at objects kind true (Node (Object o) vs ∷ values) = there_at objects o (object_set kind place o values) (object_set_at kind o values)
  object_at objects kind true (Node (Num k) vs ∷ values) = tt
  object_at objects kind true (Node (Word k) vs ∷ values) = tt
  object_at objects kind true (Node (Unknown spelling) vs ∷ values) = tt
  object_at objects kind true (Node Nil vs ∷ values) = tt
  object_at objects kind true (Node Pair vs ∷ values) = tt
  object_at objects kind true (Node (Closure c) vs ∷ values) = tt
  object_at objects kind true (Var x ∷ values) = tt
  object_at objects kind false [] = tt
  object_at objects kind false (Node (Object o) vs ∷ values) = there_at objects o (Some (Clears place o)) refl
  object_at objects kind false (Node (Num k) vs ∷ values) = tt
  object_at objects kind false (Node (Word k) vs ∷ values) = tt
  object_at objects kind false (Node (Unknown spelling) vs ∷ values) = tt
  object_at objects kind false (Node Nil vs ∷ values) = tt
  object_at objects kind false (Node Pair vs ∷ values) = tt
  object_at objects kind false (Node (Closure c) vs ∷ values) = tt
  object_at objects kind false (Var x ∷ values) = refl

  global_at : (sets : Bool) (values : List Value) → AtPlace place (global_change place sets values)
  global_at true [] = tt
  global_at true (v ∷ values) = taken_at Global 0 v
  global_at false values = refl

  flag_at : (sets : Bool) → AtPlace place (flag_change place sets)
  flag_at true = refl
  flag_at false = refl

  pub change_at : (objects : ℕ) (kind : PlaceKind) (sets : Bool) (values : List Value) → AtPlace place (change_of objects kind place sets values)
  change_at objects Flag sets values = flag_at sets
  change_at objects ObjectFlag sets values = object_at objects ObjectFlag sets values
  change_at objects ObjectVar sets values = object_at objects ObjectVar sets values
  change_at objects Parent sets values = object_at objects Parent sets values
  change_at objects Global sets values = global_at sets values

-- ## A table changes

module _ (program : CoreProgram) (cells cells' : ℕ → ℕ) (facts facts' : List Fact) (place : ℕ) (kind : PlaceKind) (is : slice_get (kinds_of program) place ≡ Some kind) (elsewhere : (q o : ℕ) → q ≢ place → value_at facts' q o ≡ value_at facts q o) (there : PlaceIn program facts' cells' place kind) (h : FactsIn program facts cells) where
  abbrev objects : ℕ
  objects = length program.objects

  abbrev ks : List PlaceKind
  ks = kinds_of program

  abbrev all : ℕ
  all = world_at + all_words objects ks

  -- the place that has changed, and each other one
  each_by : KeptFacts program facts' cells' → ((q : ℕ) (k : PlaceKind) → q ≢ place → slice_get ks q ≡ Some k → PlaceIn program facts' cells' q k) → FactsIn program facts' cells'
  each_by kept others = record {
    kept = kept;
    each = λ q k e. elim (cases_order q place) [
      | inl same ↦ subst (λ (i : ℕ). PlaceIn program facts' cells' i k) (sym same) (subst (PlaceIn program facts' cells' place) (let found : Some kind ≡ Some k = sym is ∙ ap (slice_get ks) (sym same) ∙ e in cc) there)
      | inr (inl lt) ↦ others q k (λ (s : q ≡ place). (omega arith)) e
      | inr (inr gt) ↦ others q k (λ (s : q ≡ place). (omega arith)) e
    ];
  }

  -- a table of words that stays
  table_kept : (q k : ℕ) (kind' : PlaceKind) → slice_get ks q ≡ Some kind' → place_words objects kind' ≡ k → q ≢ place → ((i : ℕ) → words_at program q ≤ i → i < words_at program q + k → cells' i ≡ cells i) → TableIn cells (words_at program q) k facts q → TableIn cells' (words_at program q) k facts' q
  table_kept q k kind' e size ne same old = table_stays cells cells' (words_at program q) k q facts facts' (λ o. elsewhere q o ne) (λ o lt. same (words_at program q + o) (omega arith) (omega arith)) old

  -- words in front of all bytes
  words_front : (q : ℕ) (kind' : PlaceKind) → slice_get ks q ≡ Some kind' → words_at program q + place_words objects kind' ≤ all
  words_front q kind' e = let b = before_all (place_words objects) ks q kind' e in omega arith

  flags_kept : (q : ℕ) → q ≢ place → ((j : ℕ) → bytes_at program q ≤ j → j < bytes_at program q + objects → byte_at cells' j ≡ byte_at cells j) → FlagsIn cells (bytes_at program q) objects facts q → FlagsIn cells' (bytes_at program q) objects facts' q
  flags_kept q ne same old = flags_stay cells cells' (bytes_at program q) objects q facts facts' (λ o. elsewhere q o ne) (λ o lt. same (bytes_at program q + o) (omega arith) (omega arith)) old

  byte_same : (j : ℕ) → cells' (j / 2) ≡ cells (j / 2) → byte_at cells' j ≡ byte_at cells j
  byte_same j e = rw e refl

  -- What lies in words has changed at one place.
  module _ (k : ℕ) (size : place_words objects kind ≡ k) (other : kind ≢ Global) (others : (i : ℕ) → (words_at program place ≤ i → words_at program place + k ≤ i) → cells' i ≡ cells i) where
    -- two tables are apart
    apart : (q : ℕ) (kind' : PlaceKind) → q ≢ place → slice_get ks q ≡ Some kind' → (i : ℕ) → words_at program q ≤ i → i < words_at program q + place_words objects kind' → cells' i ≡ cells i
    apart q kind' ne e i low lt = elim (cases_order q place) [
      | inl same ↦ absurd (ne same)
      | inr (inl before) ↦ (let b = before_later (place_words objects) ks q place kind' e before in others i (λ le. (omega arith)))
      | inr (inr behind) ↦ (let b = before_later (place_words objects) ks place q kind is behind in others i (λ le. (omega arith)))
    ]

    bytes_apart : (q j : ℕ) → bytes_at program q ≤ j → byte_at cells' j ≡ byte_at cells j
    bytes_apart q j le = let b = words_front place kind is in byte_same j (others (j / 2) (λ low. (omega arith)))

    stay : (q : ℕ) (kind' : PlaceKind) → q ≢ place → slice_get ks q ≡ Some kind' → PlaceIn program facts' cells' q kind'
    stay q Flag ne e = table_kept q 1 Flag e refl ne (apart q Flag ne e) (h.each q Flag e)
    stay q ObjectFlag ne e = flags_kept q ne (λ j le lt. bytes_apart q j le) (h.each q ObjectFlag e)
    stay q ObjectVar ne e = table_kept q objects ObjectVar e refl ne (apart q ObjectVar ne e) (h.each q ObjectVar e)
    stay q Parent ne e = table_kept q objects Parent e refl ne (apart q Parent ne e) (h.each q Parent e)
    stay q Global ne e = tt

    pub words_changed : FactsIn program facts' cells'
    words_changed = each_by kept stay
      where
        away : (q : ℕ) → slice_get ks q ≡ Some Global → q ≢ place
        away q e = λ (same : q ≡ place). (let found : Some kind ≡ Some Global = sym is ∙ ap (slice_get ks) (sym same) ∙ e in other (cc))

        kept : KeptFacts program facts' cells'
        kept = kept_stay program facts facts' cells cells' (λ q e. elsewhere q 0 (away q e)) (λ i lo hi. others i (λ le. absurd (omega arith)))
            (λ q e. (apart q Global (away q e) e (words_at program q) (omega arith) (omega arith), apart q Global (away q e) e (words_at program q + 1) (omega arith) (omega arith))) h.kept

  -- What lies in bytes has.
  module _ (flag : kind ≡ ObjectFlag) (bytes : (j : ℕ) → (bytes_at program place ≤ j → bytes_at program place + objects ≤ j) → byte_at cells' j ≡ byte_at cells j) (others : (i : ℕ) → (bytes_at program place ≤ 2 * i + 1 → bytes_at program place + objects ≤ 2 * i) → cells' i ≡ cells i) where
    words_apart : (q : ℕ) (kind' : PlaceKind) → slice_get ks q ≡ Some kind' → (i : ℕ) → words_at program q ≤ i → i < words_at program q + place_words objects kind' → cells' i ≡ cells i
    words_apart q kind' e i low lt = let b = words_front q kind' e in others i (λ le. absurd (omega arith))

    flag_is : slice_get ks place ≡ Some ObjectFlag
    flag_is = is ∙ ap (λ (x : PlaceKind). Some x) flag

    flags_apart : (q : ℕ) → q ≢ place → slice_get ks q ≡ Some ObjectFlag → (j : ℕ) → bytes_at program q ≤ j → j < bytes_at program q + objects → byte_at cells' j ≡ byte_at cells j
    flags_apart q ne e j low lt = elim (cases_order q place) [
      | inl same ↦ absurd (ne same)
      | inr (inl before) ↦ (let b = before_later (place_bytes objects) ks q place ObjectFlag e before in bytes j (λ le. (omega arith)))
      | inr (inr behind) ↦ (let b = before_later (place_bytes objects) ks place q ObjectFlag flag_is behind in bytes j (λ le. (omega arith)))
    ]

    flag_stay : (q : ℕ) (kind' : PlaceKind) → q ≢ place → slice_get ks q ≡ Some kind' → PlaceIn program facts' cells' q kind'
    flag_stay q Flag ne e = table_kept q 1 Flag e refl ne (words_apart q Flag e) (h.each q Flag e)
    flag_stay q ObjectFlag ne e = flags_kept q ne (flags_apart q ne e) (h.each q ObjectFlag e)
    flag_stay q ObjectVar ne e = table_kept q objects ObjectVar e refl ne (words_apart q ObjectVar e) (h.each q ObjectVar e)
    flag_stay q Parent ne e = table_kept q objects Parent e refl ne (words_apart q Parent e) (h.each q Parent e)
    flag_stay q Global ne e = tt

    pub bytes_changed : FactsIn program facts' cells'
    bytes_changed = each_by kept flag_stay
      where
        away : (q : ℕ) → slice_get ks q ≡ Some Global → q ≢ place
        away q e = λ (same : q ≡ place). (let found : Some ObjectFlag ≡ Some Global = sym flag_is ∙ ap (slice_get ks) (sym same) ∙ e in cc)

        kept : KeptFacts program facts' cells'
        kept = kept_stay program facts facts' cells cells' (λ q e. elsewhere q 0 (away q e)) (λ i lo hi. others i (λ le. absurd (omega arith)))
            (λ q e. (words_apart q Global e (words_at program q) (omega arith) (omega arith), words_apart q Global e (words_at program q + 1) (omega arith) (omega arith))) h.kept

-- ## Words stay

-- The facts are those that words from the world on say; those of lines and letters stand for none.
pub facts_apart : (program : CoreProgram) (facts : List Fact) (words words' : ℕ → ℕ) → ((k : ℕ) → aux_end ≤ k → (line_at ≤ k → fixed_end ≤ k) → words' k ≡ words k) → FactsIn program facts words → FactsIn program facts words'
facts_apart program facts words words' same h = record {
  each = λ place kind e. by_kind place kind (h.each place kind e);
  kept = kept_stay program facts facts words words' (λ place e. refl) (λ k lo hi. same k lo (λ q. absurd (omega arith)))
      (λ place e. (same (words_at program place) (omega arith) (λ q. (omega arith)), same (words_at program place + 1) (omega arith) (λ q. (omega arith)))) h.kept;
}
  where
    n : ℕ
    n = length program.objects

    by_kind : (place : ℕ) (kind : PlaceKind) → PlaceIn program facts words place kind → PlaceIn program facts words' place kind
    by_kind place Flag old = table_stays words words' (words_at program place) 1 place facts facts (λ o. refl) (λ o lt. same (words_at program place + o) (omega arith) (λ q. (omega arith))) old
    by_kind place ObjectFlag old = flags_stay words words' (bytes_at program place) n place facts facts (λ o. refl) (λ o lt. byte_is (bytes_at program place + o) (omega arith)) old
      where
        byte_is : (j : ℕ) → 2 * world_at ≤ j → byte_at words' j ≡ byte_at words j
        byte_is j le = let e = same (j / 2) (omega arith) (λ q. (omega arith)) in rw e refl
    by_kind place ObjectVar old = table_stays words words' (words_at program place) n place facts facts (λ o. refl) (λ o lt. same (words_at program place + o) (omega arith) (λ q. (omega arith))) old
    by_kind place Parent old = table_stays words words' (words_at program place) n place facts facts (λ o. refl) (λ o lt. same (words_at program place + o) (omega arith) (λ q. (omega arith))) old
    by_kind place Global old = tt

-- So are those that words from the world on say.
pub facts_same : (program : CoreProgram) (facts : List Fact) (words words' : ℕ → ℕ) → ((k : ℕ) → aux_end ≤ k → words' k ≡ words k) → FactsIn program facts words → FactsIn program facts words'
facts_same program facts words words' same h = facts_apart program facts words words' (λ k le far. same k le) h

-- ## A global variable changes

module _ (program : CoreProgram) (facts facts' : List Fact) (cells cells' : ℕ → ℕ) (place : ℕ) (is : slice_get (kinds_of program) place ≡ Some Global) (elsewhere : (q o : ℕ) → q ≢ place → value_at facts' q o ≡ value_at facts q o) (bs : List Block) (of_places : AreGlobal program bs) (others : (i : ℕ) → world_at ≤ i → i ≢ words_at program place → i ≢ words_at program place + 1 → NoEntry i bs → cells' i ≡ cells i) (kept : KeptFacts program facts' cells') (h : FactsIn program facts cells) where
  abbrev size : ℕ
  size = length program.objects

  abbrev all_kinds : List PlaceKind
  all_kinds = kinds_of program

  away : (q : ℕ) (kind : PlaceKind) → slice_get all_kinds q ≡ Some kind → kind ≢ Global → q ≢ place
  away q kind e other = λ (same : q ≡ place). (let found : Some kind ≡ Some Global = sym e ∙ ap (slice_get all_kinds) same ∙ is in other (cc))

  -- words of a place of another kind
  word_stays : (q : ℕ) (kind : PlaceKind) → slice_get all_kinds q ≡ Some kind → kind ≢ Global → (i : ℕ) → words_at program q ≤ i → i < words_at program q + place_words size kind → cells' i ≡ cells i
  word_stays q kind e other i lo hi =
      let none = none_among program bs of_places q kind e other i lo hi in
      elim (cases_order q place) [
        | inl same ↦ absurd (away q kind e other same)
        | inr (inl before) ↦ (let c = before_later (place_words size) all_kinds q place kind e before in others i (omega arith) (λ x. omega arith) (λ x. omega arith) none)
        | inr (inr behind) ↦ (let c = before_later (place_words size) all_kinds place q Global is behind in others i (omega arith) (λ x. omega arith) (λ x. omega arith) none)
      ]

  byte_stays : (q j : ℕ) → bytes_at program q ≤ j → byte_at cells' j ≡ byte_at cells j
  byte_stays q j le =
      let b = before_all (place_words size) all_kinds place Global is in
      let e = others (j / 2) (omega arith) (λ x. omega arith) (λ x. omega arith) (none_behind program bs of_places (j / 2) (omega arith)) in
      rw e refl

  table_stay : (q k : ℕ) (kind : PlaceKind) → slice_get all_kinds q ≡ Some kind → kind ≢ Global → place_words size kind ≡ k → TableIn cells (words_at program q) k facts q → TableIn cells' (words_at program q) k facts' q
  table_stay q k kind e other same old = table_stays cells cells' (words_at program q) k q facts facts' (λ o. elsewhere q o (away q kind e other)) (λ o lt. word_stays q kind e other (words_at program q + o) (omega arith) (omega arith)) old

  each_place : (q : ℕ) (kind : PlaceKind) → slice_get all_kinds q ≡ Some kind → PlaceIn program facts' cells' q kind
  each_place q Flag e = table_stay q 1 Flag e (λ (x : Flag ≡ Global). cc) refl (h.each q Flag e)
  each_place q ObjectFlag e = flags_stay cells cells' (bytes_at program q) size q facts facts' (λ o. elsewhere q o (away q ObjectFlag e (λ (x : ObjectFlag ≡ Global). cc))) (λ o lt. byte_stays q (bytes_at program q + o) (omega arith)) (h.each q ObjectFlag e)
  each_place q ObjectVar e = table_stay q size ObjectVar e (λ (x : ObjectVar ≡ Global). cc) refl (h.each q ObjectVar e)
  each_place q Parent e = table_stay q size Parent e (λ (x : Parent ≡ Global). cc) refl (h.each q Parent e)
  each_place q Global e = tt

  pub facts_with : FactsIn program facts' cells'
  facts_with = record { each = each_place; kept = kept }
