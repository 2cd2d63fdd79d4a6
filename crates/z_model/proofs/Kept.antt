-- What a step leaves of the code.
use Rattle.std.proofs.Common.{◌≡◌, ◌≢◌, ℕ, zero, suc, ◌+◌, ◌-◌, ◌*◌, ◌/◌, ◌%◌, ◌<◌, ◌≤◌, Bool, true, false, cond, eqb, ltb, List, [], ◌∷◌, ◌++◌, length, drop, Option, Some, None, Result, Ok, Err, IfOk, refl, sym, ap, ◌∙◌, arith, ◌⊎◌, inl, inr}
use Rattle.std.specs.Prelude.{slice_get}
use Rattle.std.proofs.Math.ListN.{set}
use Rattle.std.proofs.lemmas.List.{length-set, drop-set-lt}
use Rattle.std.proofs.lemmas.Bool.{eqb-true, ltb-true, ltb-false}
use lib.IntN.{ℤ, negsuc}
use Rattle.std.specs.Prelude.{pos}
use Rattle.z_model.specs.declared.fault.ZFault.{ZFault}
use Rattle.z_model.specs.declared.story.Layout.{Layout}
use Rattle.z_model.specs.declared.op.Branch.{Branch}
use Rattle.z_model.specs.declared.op.Op.{Op}
use Rattle.z_model.specs.declared.op.Operand.{Operand}
use Rattle.z_model.specs.declared.op.Operand.TheVariants as operands
use Rattle.z_model.specs.declared.op.Operands.{Operands}
use Rattle.z_model.specs.declared.end.Args.{Args}
use Rattle.z_model.specs.declared.end.OpenTable.{OpenTable}
use Rattle.z_model.specs.declared.property.Property.{Property}
use Rattle.z_model.specs.declared.end.Effect.{Effect}
use Rattle.z_model.specs.declared.end.Effect.TheVariants.{Goes, PrintsCode, PrintsUnicode, PrintsNumber, PrintsText, PrintsLine, Draws, Reads, ReadsKey, Quits}
use Rattle.z_model.specs.declared.table.Instr.{Instr}
use Rattle.z_model.specs.declared.table.Instr.TheVariants as instrs
use Rattle.z_model.specs.declared.table.Two.{Two}
use Rattle.z_model.specs.declared.table.Two.TheVariants as two
use Rattle.z_model.specs.declared.table.One.{One}
use Rattle.z_model.specs.declared.table.One.TheVariants as one
use Rattle.z_model.specs.declared.table.Zero.{Zero}
use Rattle.z_model.specs.declared.table.Zero.TheVariants as none
use Rattle.z_model.specs.declared.table.Several.{Several}
use Rattle.z_model.specs.declared.table.Several.TheVariants as several
use Rattle.z_model.specs.declared.table.Extended.{Extended}
use Rattle.z_model.specs.declared.table.Extended.TheVariants as extended
use Rattle.z_model.specs.Table.{Rows}
use Rattle.z_model.specs.Decode.{◌>>=◌, op_at}
use Rattle.z_model.specs.Memory.{Memory, guarded, is_writable, byte_in, memory_word, with_byte, with_word, with_bytes}
use Rattle.z_model.specs.Machine.{Frame, Machine, pushed, popped, global_at, global_set, local_of, local_set, variable_of, stored, stored_if, held_in, placed, operand_value, value_if, operand_values}
use Rattle.z_model.specs.Numbers.{signed_16}
use Rattle.z_model.specs.Flow.{at_pc, jump_address, jumped, return_to, returned, in_frames, frames_thrown, branch_taken, agrees, branched, local_count, frame_entered, called}
use Rattle.z_model.specs.Objects.{parent_at, sibling_at, child_at, some_object, some_attribute, with_attribute, link_to, passed_by, unchained, removed, inserted}
use Rattle.z_model.specs.Properties.{property_of, with_value, with_property, name_place}
use Rattle.z_model.specs.Tables.{found_or_zero, table_size, bytes_in, cleared, copied_on, table_copied}
use Rattle.z_model.specs.Streams.{codes_in, into_table, stream_opened, stream_closed, streamed}
use Rattle.z_model.specs.Effects.{goes, answers, answers_or, write_effect, tests_or, answers_and_tests, objects_in, answers_object, answers_place}
use Rattle.z_model.specs.Effects.{effect_fault, unless, let_out, print_effect, then_returned, prints_line, prints_text_if, prints_name}
use Rattle.z_model.specs.Effects.{added, adds, adds_and_tests, pulls, returns_popped, most_typed, read_effect, reads_key, random_of}
use Rattle.z_model.specs.Step.{do_two, do_one, do_zero, do_several, do_extended, do_instr, machine_step}
use Rattle.z_model.specs.Text.{string_at, text_bytes}
use Rattle.z_model.specs.Typed.{typed_line, typed_left}
use Rattle.z_model.specs.Run.{ZGiven, ZState, Next, On, Ended, go_on, zstep, zrun, next_by, after_output, effect_on, on_unless, line_taken, line_read, key_taken, key_code, with_line, word_at}
use Rattle.z_model.specs.Laws.{IsLaid, KeepsCode, CodeStays, state_behind}

-- ---- answers of which something holds

-- This holds of the answer, if there is one.
record Gives {A : Type 0} (r : Result A ZFault) (P : A → Type 0) : Type 0 where
  holds : IfOk r P

given : {A : Type 0} {P : A → Type 0} {x : A} → P x → Gives (Ok x) P
given p = record { holds = p }

refused : {A : Type 0} {P : A → Type 0} {fault : ZFault} → Gives {A = A} (Err fault) P
refused = record { holds = tt }

if_bind : {A B : Type 0} (r : Result A ZFault) (f : A → Result B ZFault) (P : A → Type 0) (Q : B → Type 0) → Gives r P → ((x : A) → P x → Gives (f x) Q) → Gives (r >>= f) Q
if_bind (Ok x) f P Q h k = k x h.holds
if_bind (Err fault) f P Q h k = refused

if_any : {A B : Type 0} (r : Result A ZFault) (f : A → Result B ZFault) (Q : B → Type 0) → ((x : A) → Gives (f x) Q) → Gives (r >>= f) Q
if_any (Ok x) f Q k = k x
if_any (Err fault) f Q k = refused

if_cond : {A : Type 0} (b : Bool) (r r' : Result A ZFault) (P : A → Type 0) → Gives r P → Gives r' P → Gives (cond b r r') P
if_cond true r r' P h k = h
if_cond false r r' P h k = k

if_then : {A : Type 0} (b : Bool) (r r' : Result A ZFault) (P : A → Type 0) → (b ≡ true → Gives r P) → (b ≡ false → Gives r' P) → Gives (cond b r r') P
if_then true r r' P h k = h refl
if_then false r r' P h k = k refl

-- ---- bytes that are set

get_set_other : (l : List ℕ) (i a x : ℕ) → a ≢ i → slice_get (set l i x) a ≡ slice_get l a
get_set_other [] i a x ne = refl
get_set_other (y ∷ l) zero zero x ne = absurd (ne refl)
get_set_other (y ∷ l) zero (suc a) x ne = refl
get_set_other (y ∷ l) (suc i) zero x ne = refl
get_set_other (y ∷ l) (suc i) (suc a) x ne = get_set_other l i a x (λ e. ne (ap suc e))

module _ (layout : Layout) (laid : IsLaid layout) where
  -- an address below the static base that isn't in the header but for the flags
  abbrev IsFree : ℕ → Type 0
  IsFree a = ((a ≡ 16) ⊎ (a ≡ 17)) ⊎ ((64 ≤ a) × (a < layout.base))

  below_base : (a : ℕ) → IsFree a → a < layout.base
  below_base a (inl (inl e)) = let from = laid.from in let globals = laid.globals in omega arith
  below_base a (inl (inr e)) = let from = laid.from in let globals = laid.globals in omega arith
  below_base a (inr h) = h.1

  not_header : (a b : ℕ) → IsFree a → b < 64 → b ≢ 16 → b ≢ 17 → b ≢ a
  not_header a b (inl (inl e)) lt p q = λ same. p (same ∙ e)
  not_header a b (inl (inr e)) lt p q = λ same. q (same ∙ e)
  not_header a b (inr h) lt p q = λ same. absurd (omega (arith, h.0))

  same_kept : (l : List ℕ) → KeepsCode layout l l
  same_kept l = record { size = refl; code = refl; header = λ a lt p q. refl }

  kept_then : (a b c : List ℕ) → KeepsCode layout a b → KeepsCode layout b c → KeepsCode layout a c
  kept_then a b c p q = record {
    size = q.size ∙ p.size;
    code = q.code ∙ p.code;
    header = λ i lt n m. q.header i lt n m ∙ p.header i lt n m;
  }

  set_kept : (l : List ℕ) (i x : ℕ) → IsFree i → KeepsCode layout l (set l i x)
  set_kept l i x free = record {
    size = length-set l i x;
    code = drop-set-lt layout.base l i x (below_base i free);
    header = λ a lt p q. get_set_other l i a x (not_header i a free lt p q);
  }

  writable_free : (a : ℕ) → is_writable layout a ≡ true → IsFree a
  writable_free a may = by_tests (eqb a 16) (eqb a 17) (ltb a 64) (ltb a layout.base) refl refl refl refl may
    where
      by_tests : (p q r s : Bool) → eqb a 16 ≡ p → eqb a 17 ≡ q → ltb a 64 ≡ r → ltb a layout.base ≡ s → cond p true (cond q true (cond r false s)) ≡ true → IsFree a
      by_tests true q r s e f g h may = inl (inl (eqb-true a 16 e))
      by_tests false true r s e f g h may = inl (inr (eqb-true a 17 f))
      by_tests false false true s e f g h may = absurd cc
      by_tests false false false true e f g h may = inr (ltb-false a 64 g, ltb-true a layout.base h)
      by_tests false false false false e f g h may = absurd cc

  -- ---- memory

  -- The rights are those of the story, and the code is kept.
  record KeptBy (old : List ℕ) (mem : Memory) : Type 0 where
    rights : mem.may_write ≡ is_writable layout
    code : KeepsCode layout old mem.bytes

  guarded_kept : (l : List ℕ) → KeptBy l (guarded layout l)
  guarded_kept l = record { rights = refl; code = same_kept l }

  byte_kept : (old : List ℕ) (mem : Memory) (a b : ℕ) → KeptBy old mem → Gives (with_byte mem a b) (KeptBy old)
  unfolding with_byte
  byte_kept old mem a b k = if_then (mem.may_write a) (Ok (record mem { bytes = set mem.bytes a b })) (Err _) (KeptBy old) (λ may. given (record {
    rights = k.rights;
    code = kept_then old mem.bytes (set mem.bytes a b) k.code (set_kept mem.bytes a b (writable_free a (sym (ap (λ (f : ℕ → Bool). f a) k.rights) ∙ may)));
  })) (λ no. refused)

  word_kept : (old : List ℕ) (mem : Memory) (a x : ℕ) → KeptBy old mem → Gives (with_word mem a x) (KeptBy old)
  unfolding with_word
  word_kept old mem a x k = if_bind (with_byte mem a (x / 256)) _ (KeptBy old) (KeptBy old) (byte_kept old mem a (x / 256) k) (λ first h. byte_kept old first ((a + 1) % 65536) (x % 256) h)

  bytes_kept : (old : List ℕ) (mem : Memory) (a : ℕ) (bs : List ℕ) → KeptBy old mem → Gives (with_bytes mem a bs) (KeptBy old)
  unfolding with_bytes
  bytes_kept old mem a [] k = given k
  bytes_kept old mem a (b ∷ bs) k = if_bind (with_byte mem a b) _ (KeptBy old) (KeptBy old) (byte_kept old mem a b k) (λ first h. bytes_kept old first ((a + 1) % 65536) bs h)

  line_kept : (old : List ℕ) (mem : Memory) (buffer : ℕ) (line : List ℕ) → KeptBy old mem → Gives (with_line mem buffer line) (KeptBy old)
  unfolding with_line
  line_kept old mem buffer line k =
      if_bind (with_bytes mem ((buffer + 2) % 65536) line) _ (KeptBy old) (KeptBy old) (bytes_kept old mem ((buffer + 2) % 65536) line k) (λ first h. byte_kept old first ((buffer + 1) % 65536) (length line) h)

  -- ---- objects, properties and tables

  if_object : {A : Type 0} (n : ℕ) (r : Result A ZFault) (P : A → Type 0) → Gives r P → Gives (some_object n r) P
  unfolding some_object
  if_object n r P h = if_cond _ _ _ P refused h

  if_attribute : {A : Type 0} (n a : ℕ) (r : Result A ZFault) (P : A → Type 0) → Gives r P → Gives (some_attribute n a r) P
  unfolding some_attribute
  if_attribute n a r P h = if_cond _ _ _ P refused h

  module _ (old : List ℕ) where
    attribute_kept : (mem : Memory) (objects n a : ℕ) (on : Bool) → KeptBy old mem → Gives (with_attribute mem objects n a on) (KeptBy old)
    unfolding with_attribute
    attribute_kept mem objects n a on k = if_attribute n a _ (KeptBy old) (if_any (byte_in mem _) _ (KeptBy old) (λ byte. byte_kept old mem _ _ k))

    passed_kept : (mem : Memory) (objects a : ℕ) (place : Option ℕ) → KeptBy old mem → Gives (passed_by mem objects a place) (KeptBy old)
    passed_kept mem objects a None k = given k
    passed_kept mem objects a (Some place) k = if_any (memory_word mem (sibling_at objects a)) _ (KeptBy old) (λ next. word_kept old mem place next k)

    unchained_kept : (mem : Memory) (objects a parent : ℕ) → KeptBy old mem → Gives (unchained mem objects a parent) (KeptBy old)
    unfolding unchained
    unchained_kept mem objects a parent k = if_cond _ _ _ (KeptBy old) (given k) (if_any (link_to mem objects a 65536 _) _ (KeptBy old) (λ place. passed_kept mem objects a place k))

    removed_kept : (mem : Memory) (objects a : ℕ) → KeptBy old mem → Gives (removed mem objects a) (KeptBy old)
    unfolding removed
    removed_kept mem objects a k =
        if_object a _ (KeptBy old) (if_any (memory_word mem (parent_at objects a)) _ (KeptBy old) (λ parent.
        if_bind (unchained mem objects a parent) _ (KeptBy old) (KeptBy old) (unchained_kept mem objects a parent k) (λ out h.
        if_bind (with_word out (parent_at objects a) 0) _ (KeptBy old) (KeptBy old) (word_kept old out (parent_at objects a) 0 h) (λ alone j.
        word_kept old alone (sibling_at objects a) 0 j))))

    inserted_kept : (mem : Memory) (objects a b : ℕ) → KeptBy old mem → Gives (inserted mem objects a b) (KeptBy old)
    unfolding inserted
    inserted_kept mem objects a b k =
        if_object b _ (KeptBy old) (if_bind (removed mem objects a) _ (KeptBy old) (KeptBy old) (removed_kept mem objects a k) (λ out h.
        if_any (memory_word out (child_at objects b)) _ (KeptBy old) (λ first.
        if_bind (with_word out (parent_at objects a) b) _ (KeptBy old) (KeptBy old) (word_kept old out (parent_at objects a) b h) (λ below j.
        if_bind (with_word below (sibling_at objects a) first) _ (KeptBy old) (KeptBy old) (word_kept old below (sibling_at objects a) first j) (λ beside i.
        word_kept old beside (child_at objects b) a i)))))

    value_put : (mem : Memory) (x : ℕ) (found : Option Property) → KeptBy old mem → Gives (with_value mem x found) (KeptBy old)
    value_put mem x None k = refused
    value_put mem x (Some p) k = if_cond _ _ _ (KeptBy old) (byte_kept old mem p.at (x % 256) k) (if_cond _ _ _ (KeptBy old) (word_kept old mem p.at x k) refused)

    property_kept : (mem : Memory) (objects n number x : ℕ) → KeptBy old mem → Gives (with_property mem objects n number x) (KeptBy old)
    unfolding with_property
    property_kept mem objects n number x k = if_any (property_of mem objects n number) _ (KeptBy old) (λ found. value_put mem x found k)

    cleared_kept : (mem : Memory) (at n : ℕ) → KeptBy old mem → Gives (cleared mem at n) (KeptBy old)
    unfolding cleared
    cleared_kept mem at zero k = given k
    cleared_kept mem at (suc more) k = if_bind (with_byte mem at 0) _ (KeptBy old) (KeptBy old) (byte_kept old mem at 0 k) (λ first h. cleared_kept first ((at + 1) % 65536) more h)

    copied_on_kept : (mem : Memory) (a b n : ℕ) → KeptBy old mem → Gives (copied_on mem a b n) (KeptBy old)
    unfolding copied_on
    copied_on_kept mem a b zero k = given k
    copied_on_kept mem a b (suc more) k =
        if_any (byte_in mem a) _ (KeptBy old) (λ byte. if_bind (with_byte mem b byte) _ (KeptBy old) (KeptBy old) (byte_kept old mem b byte k) (λ first h.
        copied_on_kept first ((a + 1) % 65536) ((b + 1) % 65536) more h))

    copied_kept : (mem : Memory) (a b n : ℕ) → KeptBy old mem → Gives (table_copied mem a b n) (KeptBy old)
    unfolding table_copied
    copied_kept mem a b n k =
        if_cond _ _ _ (KeptBy old) (cleared_kept mem a (table_size n) k) (
        if_cond _ _ _ (KeptBy old) (if_any (bytes_in mem a n) _ (KeptBy old) (λ bytes. bytes_kept old mem b bytes k)) (copied_on_kept mem a b (table_size n) k))

  -- ---- the machine

  abbrev Kept : List ℕ → Machine → Type 0
  Kept old m = KeepsCode layout old m.memory

  abbrev KeptWith : (X : Type 0) → List ℕ → X × Machine → Type 0
  KeptWith X old p = KeepsCode layout old p.1.memory

  module _ (old : List ℕ) where
    pushed_kept : (m : Machine) (x : ℕ) → Kept old m → Gives (pushed m x) (Kept old)
    unfolding pushed
    pushed_kept m x k = if_cond _ _ _ (Kept old) (given k) refused

    popped_kept : (m : Machine) → Kept old m → Gives (popped m) (KeptWith ℕ old)
    unfolding popped
    popped_kept m k = if_cond _ _ _ (KeptWith ℕ old) (given k) refused

    local_kept : (m : Machine) (v x : ℕ) → Kept old m → Gives (local_set m v x) (Kept old)
    unfolding local_set
    local_kept m v x k = if_cond _ _ _ (Kept old) (given k) refused

    global_kept : (m : Machine) (v x : ℕ) → 16 ≤ v → v < 256 → Kept old m → Kept old (global_set layout m v x)
    global_kept m v x ge lt k =
        let from = laid.from in
        let globals = laid.globals in
        let first : List ℕ = set m.memory (global_at layout v) (x / 256) in
        kept_then old m.memory _ k (kept_then m.memory (set m.memory (global_at layout v) (x / 256)) _ (set_kept m.memory (global_at layout v) (x / 256) (inr (omega arith, omega arith))) (set_kept first (global_at layout v + 1) (x % 256) (inr (omega arith, omega arith))))

    stored_kept : (m : Machine) (v x : ℕ) → Kept old m → Gives (stored layout m v x) (Kept old)
    unfolding stored
    stored_kept m v x k =
        if_cond (eqb v 0) _ _ (Kept old) (pushed_kept m x k) (if_then (ltb v 16) _ _ (Kept old) (λ lt. local_kept m v x k) (λ ge.
        if_then (ltb v 256) (Ok (global_set layout m v x)) _ (Kept old) (λ lt. given (global_kept m v x (ltb-false v 16 ge) (ltb-true v 256 lt) k)) (λ no. refused)))

    stored_if_kept : (m : Machine) (store : Option ℕ) (x : ℕ) → Kept old m → Gives (stored_if layout m store x) (Kept old)
    unfolding stored_if
    stored_if_kept m None x k = given k
    stored_if_kept m (Some v) x k = stored_kept m v x k

    variable_kept : (m : Machine) (v : ℕ) → Kept old m → Gives (variable_of layout m v) (KeptWith ℕ old)
    unfolding variable_of
    variable_kept m v k = if_cond (eqb v 0) _ _ (KeptWith ℕ old) (popped_kept m k) (if_cond (ltb v 16) _ _ (KeptWith ℕ old) (if_any (local_of m v) _ (KeptWith ℕ old) (λ x. given k)) (given k))

    placed_kept : (m : Machine) (v x : ℕ) → Kept old m → Gives (placed layout m v x) (Kept old)
    unfolding placed
    placed_kept m v x k = if_cond (eqb v 0) _ _ (Kept old) (if_bind (popped m) _ (KeptWith ℕ old) (Kept old) (popped_kept m k) (λ p h. pushed_kept p.1 x h)) (stored_kept m v x k)

    value_kept : (m : Machine) (there : Bool) (o : Operand) → Kept old m → Gives (value_if layout m there o) (KeptWith ℕ old)
    unfolding value_if operand_value
    value_kept m false o k = given k
    value_kept m true (operands.Large w) k = given k
    value_kept m true (operands.Small b) k = given k
    value_kept m true (operands.Variable v) k = variable_kept m v k

    values_kept : (m : Machine) (o : Operands) → Kept old m → Gives (operand_values layout m o) (KeptWith Args old)
    unfolding operand_values
    values_kept m o k =
        if_bind (value_if layout m (ltb 0 o.count) o.first) _ (KeptWith ℕ old) (KeptWith Args old) (value_kept m (ltb 0 o.count) o.first k) (λ a ha.
        if_bind (value_if layout a.1 (ltb 1 o.count) o.second) _ (KeptWith ℕ old) (KeptWith Args old) (value_kept a.1 (ltb 1 o.count) o.second ha) (λ b hb.
        if_bind (value_if layout b.1 (ltb 2 o.count) o.third) _ (KeptWith ℕ old) (KeptWith Args old) (value_kept b.1 (ltb 2 o.count) o.third hb) (λ c hc.
        if_bind (value_if layout c.1 (ltb 3 o.count) o.fourth) _ (KeptWith ℕ old) (KeptWith Args old) (value_kept c.1 (ltb 3 o.count) o.fourth hc) (λ d hd. given hd))))

    -- ---- where it goes on

    jumped_kept : (m : Machine) (end : ℕ) (offset : ℤ) → Kept old m → Gives (jumped m end offset) (Kept old)
    unfolding jumped
    jumped_kept m end offset k = if_any (jump_address _) _ (Kept old) (λ pc. given k)

    return_kept : (m : Machine) (callers : List Frame) (x : ℕ) → Kept old m → Gives (return_to layout m callers x) (Kept old)
    return_kept m [] x k = refused
    return_kept m (f ∷ fs) x k = stored_if_kept (record m { pc = m.here.back; here = f; callers = fs }) m.here.store x k

    returned_kept : (m : Machine) (x : ℕ) → Kept old m → Gives (returned layout m x) (Kept old)
    unfolding returned
    returned_kept m x k = return_kept m m.callers x k

    in_frames_kept : (m : Machine) (frames : List Frame) → Kept old m → Kept old (in_frames m frames)
    in_frames_kept m [] k = k
    in_frames_kept m (f ∷ fs) k = k

    thrown_kept : (m : Machine) (x frame : ℕ) → Kept old m → Gives (frames_thrown layout m x frame) (Kept old)
    unfolding frames_thrown
    thrown_kept m x frame k = if_cond _ _ _ (Kept old) refused (returned_kept (in_frames m (drop (length m.callers - frame) (m.here ∷ m.callers))) x (in_frames_kept m (drop (length m.callers - frame) (m.here ∷ m.callers)) k))

    taken_kept : (m : Machine) (end : ℕ) (offset : ℤ) → Kept old m → Gives (branch_taken layout m end offset) (Kept old)
    unfolding branch_taken
    taken_kept m end (pos zero) k = returned_kept m 0 k
    taken_kept m end (pos (suc zero)) k = returned_kept m 1 k
    taken_kept m end (pos (suc (suc n))) k = jumped_kept m end (pos (suc (suc n))) k
    taken_kept m end (negsuc n) k = jumped_kept m end (negsuc n) k

    branched_kept : (m : Machine) (end : ℕ) (b : Option Branch) (test : Bool) → Kept old m → Gives (branched layout m end b test) (Kept old)
    unfolding branched
    branched_kept m end None test k = given k
    branched_kept m end (Some b) test k = if_cond (agrees b.when test) _ _ (Kept old) (taken_kept m end b.offset k) (given k)

    entered_kept : (m : Machine) (end : ℕ) (store : Option ℕ) (a : Args) → Kept old m → Gives (frame_entered m end store a) (Kept old)
    unfolding frame_entered
    entered_kept m end store a k = if_cond _ _ _ (Kept old) (if_any (local_count m.memory (8 * a.first)) _ (Kept old) (λ n. if_cond _ _ _ (Kept old) refused (given k))) refused

    called_kept : (m : Machine) (end : ℕ) (store : Option ℕ) (a : Args) → Kept old m → Gives (called layout m end store a) (Kept old)
    unfolding called
    called_kept m end store a k = if_cond _ _ _ (Kept old) (stored_if_kept (at_pc m end) store 0 k) (entered_kept m end store a k)

    -- ---- what several instructions do

    abbrev KeptBehind : Effect × Machine → Type 0
    KeptBehind p = KeepsCode layout old p.1.memory

    goes_kept : (r : Result Machine ZFault) → Gives r (Kept old) → Gives (goes r) KeptBehind
    goes_kept r h = if_bind r _ (Kept old) KeptBehind h (λ m k. given k)

    answers_kept : (m : Machine) (end : ℕ) (store : Option ℕ) (x : ℕ) → Kept old m → Gives (answers layout m end store x) KeptBehind
    answers_kept m end store x k = goes_kept (stored_if layout (at_pc m end) store x) (stored_if_kept (at_pc m end) store x k)

    answers_or_kept : (m : Machine) (end : ℕ) (store : Option ℕ) (r : Result ℕ ZFault) → Kept old m → Gives (answers_or layout m end store r) KeptBehind
    answers_or_kept m end store r k = if_any r _ KeptBehind (λ x. answers_kept m end store x k)

    written_kept : (m : Machine) (end : ℕ) (r : Result Memory ZFault) → Gives r (KeptBy old) → Gives (write_effect m end r) KeptBehind
    written_kept m end r h = if_bind r _ (KeptBy old) KeptBehind h (λ mem k. given k.code)

    tests_or_kept : (m : Machine) (end : ℕ) (b : Option Branch) (r : Result Bool ZFault) → Kept old m → Gives (tests_or layout m end b r) KeptBehind
    tests_or_kept m end b r k = if_any r _ KeptBehind (λ test. goes_kept (branched layout m end b test) (branched_kept m end b test k))

    both_kept : (m : Machine) (end : ℕ) (store : Option ℕ) (b : Option Branch) (x : ℕ) (test : Bool) → Kept old m → Gives (answers_and_tests layout m end store b x test) KeptBehind
    both_kept m end store b x test k = goes_kept _ (if_bind (stored_if layout m store x) _ (Kept old) (Kept old) (stored_if_kept m store x k) (λ after h. branched_kept after end b test h))

    object_kept : (m : Machine) (end : ℕ) (store : Option ℕ) (b : Option Branch) (r : Result ℕ ZFault) → Kept old m → Gives (answers_object layout m end store b r) KeptBehind
    object_kept m end store b r k = if_any r _ KeptBehind (λ x. both_kept m end store b x _ k)

    place_kept : (m : Machine) (end : ℕ) (store : Option ℕ) (b : Option Branch) (r : Result (Option ℕ) ZFault) → Kept old m → Gives (answers_place layout m end store b r) KeptBehind
    place_kept m end store b r k = if_any r _ KeptBehind (λ found. both_kept m end store b (found_or_zero found) _ k)

    -- ---- printing, and tables into which it goes

    story_kept : (m : Machine) → Kept old m → KeptBy old (guarded layout m.memory)
    story_kept m k = record { rights = refl; code = k }

    into_kept : (m : Machine) (t : OpenTable) (ts : List OpenTable) (codes : List ℕ) → Kept old m → Gives (into_table layout m t ts codes) (Kept old)
    unfolding into_table
    into_kept m t ts codes k = if_bind (with_bytes (guarded layout m.memory) ((t.at + 2 + t.count) % 65536) codes) _ (KeptBy old) (Kept old) (bytes_kept old (guarded layout m.memory) ((t.at + 2 + t.count) % 65536) codes (story_kept m k)) (λ mem h. given h.code)

    closed_kept : (m : Machine) (tables : List OpenTable) → Kept old m → Gives (stream_closed layout m tables) (Kept old)
    closed_kept m [] k = given k
    closed_kept m (t ∷ ts) k = if_bind (with_word (guarded layout m.memory) t.at t.count) _ (KeptBy old) (Kept old) (word_kept old (guarded layout m.memory) t.at t.count (story_kept m k)) (λ mem h. given h.code)

    opened_kept : (m : Machine) (at : ℕ) → Kept old m → Gives (stream_opened m at) (Kept old)
    unfolding stream_opened
    opened_kept m at k = if_cond _ _ _ (Kept old) (given k) refused

    streamed_kept : (m : Machine) (a : Args) → Kept old m → Gives (streamed layout m a) (Kept old)
    unfolding streamed
    streamed_kept m a k = if_cond _ _ _ (Kept old) (opened_kept m a.second k) (if_cond _ _ _ (Kept old) (closed_kept m m.tables k) (given k))

    unless_kept : (fault : Option ZFault) (r : Result (Effect × Machine) ZFault) → Gives r KeptBehind → Gives (unless fault r) KeptBehind
    unless_kept None r k = k
    unless_kept (Some fault) r k = refused

    out_kept : (tables : List OpenTable) (effect : Effect) (m : Machine) → Kept old m → Gives (let_out layout tables effect m) KeptBehind
    unfolding let_out
    out_kept [] effect m k = given k
    out_kept (t ∷ ts) effect m k = goes_kept (into_table layout m t ts (codes_in effect m)) (into_kept m t ts (codes_in effect m) k)

    printed_kept : (effect : Effect) (m : Machine) → Kept old m → Gives (print_effect layout effect m) KeptBehind
    unfolding print_effect
    printed_kept effect m k = unless_kept (effect_fault effect m) (let_out layout m.tables effect m) (out_kept m.tables effect m k)

    behind_kept : (tables : List OpenTable) (p : Effect × Machine) (after : Machine) → KeptBehind p → Kept old after → KeptBehind (then_returned tables p after)
    behind_kept [] p after h k = h
    behind_kept (t ∷ ts) p after h k = k

    line_printed_kept : (m : Machine) (at : ℕ) → Kept old m → Gives (prints_line layout m at) KeptBehind
    unfolding prints_line
    line_printed_kept m at k = if_bind (print_effect layout (PrintsLine at) m) _ KeptBehind KeptBehind (printed_kept (PrintsLine at) m k) (λ p h. if_bind (returned layout p.1 1) _ (Kept old) KeptBehind (returned_kept p.1 1 h) (λ after j. given (behind_kept m.tables p after h j)))

    text_printed_kept : (m : Machine) (found : Option ℕ) → Kept old m → Gives (prints_text_if layout m found) KeptBehind
    text_printed_kept m None k = given k
    text_printed_kept m (Some at) k = printed_kept (PrintsText at) m k

    name_printed_kept : (m : Machine) (end n : ℕ) → Kept old m → Gives (prints_name layout m end n) KeptBehind
    unfolding prints_name
    name_printed_kept m end n k = if_any (name_place (guarded layout m.memory) (objects_in m) n) _ KeptBehind (λ found. text_printed_kept (at_pc m end) found k)

    added_kept : (m : Machine) (v by : ℕ) → Kept old m → Gives (added layout m v by) (KeptWith ℕ old)
    added_kept m v by k = if_any (held_in layout m v) _ (KeptWith ℕ old) (λ x. if_bind (placed layout m v ((x + by) % 65536)) _ (Kept old) (KeptWith ℕ old) (placed_kept m v ((x + by) % 65536) k) (λ after h. given h))

    adds_kept : (m : Machine) (end v by : ℕ) → Kept old m → Gives (adds layout m end v by) KeptBehind
    adds_kept m end v by k = if_bind (added layout (at_pc m end) v by) _ (KeptWith ℕ old) KeptBehind (added_kept (at_pc m end) v by k) (λ p h. given h)

    tests_kept : (m : Machine) (end : ℕ) (b : Option Branch) (v by : ℕ) (test : ℕ → Bool) → Kept old m → Gives (adds_and_tests layout m end b v by test) KeptBehind
    tests_kept m end b v by test k = if_bind (added layout m v by) _ (KeptWith ℕ old) KeptBehind (added_kept m v by k) (λ p h. goes_kept (branched layout p.1 end b _) (branched_kept p.1 end b _ h))

    pulls_kept : (m : Machine) (end v : ℕ) → Kept old m → Gives (pulls layout m end v) KeptBehind
    pulls_kept m end v k = if_bind (popped (at_pc m end)) _ (KeptWith ℕ old) KeptBehind (popped_kept (at_pc m end) k) (λ p h. goes_kept (placed layout p.1 v p.0) (placed_kept p.1 v p.0 h))

    returns_kept : (m : Machine) → Kept old m → Gives (returns_popped layout m) KeptBehind
    returns_kept m k = if_bind (popped m) _ (KeptWith ℕ old) KeptBehind (popped_kept m k) (λ p h. goes_kept (returned layout p.1 p.0) (returned_kept p.1 p.0 h))

    reads_kept : (m : Machine) (end : ℕ) (store : Option ℕ) (a : Args) → Kept old m → Gives (read_effect layout m end store a) KeptBehind
    unfolding read_effect
    reads_kept m end store a k = if_any (most_typed layout m a) _ KeptBehind (λ most. if_any (stored_if layout (at_pc m end) store 13) _ KeptBehind (λ after. given k))

    key_kept : (m : Machine) (end : ℕ) (store : Option ℕ) → Kept old m → Gives (reads_key layout m end store) KeptBehind
    unfolding reads_key
    key_kept m end store k = if_any (stored_if layout (at_pc m end) store 13) _ KeptBehind (λ after. given k)

    random_kept : (word : ℕ) (m : Machine) (end : ℕ) (store : Option ℕ) (r : ℕ) → Kept old m → Gives (random_of layout word m end store r) KeptBehind
    unfolding random_of
    random_kept word m end store r k =
        if_cond _ _ _ KeptBehind (answers_kept m end store 0 k) (if_bind (stored_if layout (at_pc m end) store (1 + word % r)) _ (Kept old) KeptBehind (stored_if_kept (at_pc m end) store (1 + word % r) k) (λ after h. given h))

  -- ---- the rows

  module _ (m : Machine) where
    -- the memory before the instruction's effect
    abbrev Same : Machine → Type 0
    Same m' = KeepsCode layout m.memory m'.memory

    abbrev SameBehind : Effect × Machine → Type 0
    SameBehind p = KeepsCode layout m.memory p.1.memory

    here : KeepsCode layout m.memory m.memory
    here = same_kept m.memory

    story : KeptBy m.memory (guarded layout m.memory)
    story = guarded_kept m.memory

    two_kept : (i : Two) (op : Op) (end : ℕ) (a : Args) → Gives (do_two layout i op end a m) SameBehind
    unfolding do_two
    two_kept two.Je op end a = goes_kept m.memory (branched layout m end op.branch _) (branched_kept m.memory m end op.branch _ here)
    two_kept two.Jl op end a = goes_kept m.memory (branched layout m end op.branch _) (branched_kept m.memory m end op.branch _ here)
    two_kept two.Jg op end a = goes_kept m.memory (branched layout m end op.branch _) (branched_kept m.memory m end op.branch _ here)
    two_kept two.DecChk op end a = tests_kept m.memory m end op.branch a.first 65535 _ here
    two_kept two.IncChk op end a = tests_kept m.memory m end op.branch a.first 1 _ here
    two_kept two.Jin op end a = tests_or_kept m.memory m end op.branch _ here
    two_kept two.Test op end a = goes_kept m.memory (branched layout m end op.branch _) (branched_kept m.memory m end op.branch _ here)
    two_kept two.Or op end a = answers_kept m.memory m end op.store _ here
    two_kept two.And op end a = answers_kept m.memory m end op.store _ here
    two_kept two.TestAttr op end a = tests_or_kept m.memory m end op.branch _ here
    two_kept two.SetAttr op end a = written_kept m.memory m end _ (attribute_kept m.memory (guarded layout m.memory) (objects_in m) a.first a.second true story)
    two_kept two.ClearAttr op end a = written_kept m.memory m end _ (attribute_kept m.memory (guarded layout m.memory) (objects_in m) a.first a.second false story)
    two_kept two.Store op end a = goes_kept m.memory (placed layout (at_pc m end) a.first a.second) (placed_kept m.memory (at_pc m end) a.first a.second here)
    two_kept two.InsertObj op end a = written_kept m.memory m end _ (inserted_kept m.memory (guarded layout m.memory) (objects_in m) a.first a.second story)
    two_kept two.Loadw op end a = answers_or_kept m.memory m end op.store _ here
    two_kept two.Loadb op end a = answers_or_kept m.memory m end op.store _ here
    two_kept two.GetProp op end a = answers_or_kept m.memory m end op.store _ here
    two_kept two.GetPropAddr op end a = answers_or_kept m.memory m end op.store _ here
    two_kept two.GetNextProp op end a = answers_or_kept m.memory m end op.store _ here
    two_kept two.Add op end a = answers_kept m.memory m end op.store _ here
    two_kept two.Sub op end a = answers_kept m.memory m end op.store _ here
    two_kept two.Mul op end a = answers_kept m.memory m end op.store _ here
    two_kept two.Div op end a = answers_or_kept m.memory m end op.store _ here
    two_kept two.Mod op end a = answers_or_kept m.memory m end op.store _ here
    two_kept two.Call2s op end a = goes_kept m.memory (called layout m end op.store a) (called_kept m.memory m end op.store a here)
    two_kept two.Call2n op end a = goes_kept m.memory (called layout m end op.store a) (called_kept m.memory m end op.store a here)
    two_kept two.SetColour op end a = given here
    two_kept two.Throw op end a = goes_kept m.memory (frames_thrown layout m a.first a.second) (thrown_kept m.memory m a.first a.second here)

    one_kept : (i : One) (op : Op) (end : ℕ) (a : Args) → Gives (do_one layout i op end a m) SameBehind
    unfolding do_one
    one_kept one.Jz op end a = goes_kept m.memory (branched layout m end op.branch _) (branched_kept m.memory m end op.branch _ here)
    one_kept one.GetSibling op end a = object_kept m.memory m end op.store op.branch _ here
    one_kept one.GetChild op end a = object_kept m.memory m end op.store op.branch _ here
    one_kept one.GetParent op end a = answers_or_kept m.memory m end op.store _ here
    one_kept one.GetPropLen op end a = answers_or_kept m.memory m end op.store _ here
    one_kept one.Inc op end a = adds_kept m.memory m end a.first 1 here
    one_kept one.Dec op end a = adds_kept m.memory m end a.first 65535 here
    one_kept one.PrintAddr op end a = printed_kept m.memory (PrintsText a.first) (at_pc m end) here
    one_kept one.Call1s op end a = goes_kept m.memory (called layout m end op.store a) (called_kept m.memory m end op.store a here)
    one_kept one.RemoveObj op end a = written_kept m.memory m end _ (removed_kept m.memory (guarded layout m.memory) (objects_in m) a.first story)
    one_kept one.PrintObj op end a = name_printed_kept m.memory m end a.first here
    one_kept one.Ret op end a = goes_kept m.memory (returned layout m a.first) (returned_kept m.memory m a.first here)
    one_kept one.Jump op end a = goes_kept m.memory (jumped m end (signed_16 a.first)) (jumped_kept m.memory m end (signed_16 a.first) here)
    one_kept one.PrintPaddr op end a = printed_kept m.memory (PrintsText (8 * a.first)) (at_pc m end) here
    one_kept one.Load op end a = answers_or_kept m.memory m end op.store _ here
    one_kept one.Call1n op end a = goes_kept m.memory (called layout m end op.store a) (called_kept m.memory m end op.store a here)

    zero_kept : (i : Zero) (op : Op) (end : ℕ) (a : Args) → Gives (do_zero layout i op end a m) SameBehind
    unfolding do_zero
    zero_kept none.Rtrue op end a = goes_kept m.memory (returned layout m 1) (returned_kept m.memory m 1 here)
    zero_kept none.Rfalse op end a = goes_kept m.memory (returned layout m 0) (returned_kept m.memory m 0 here)
    zero_kept none.Print op end a = printed_kept m.memory (PrintsText (end - op.text)) (at_pc m end) here
    zero_kept none.PrintRet op end a = line_printed_kept m.memory m (end - op.text) here
    zero_kept none.Nop op end a = given here
    zero_kept none.RetPopped op end a = returns_kept m.memory m here
    zero_kept none.Catch op end a = answers_kept m.memory m end op.store _ here
    zero_kept none.Quit op end a = given here
    zero_kept none.NewLine op end a = printed_kept m.memory (PrintsCode 13) (at_pc m end) here
    zero_kept none.Verify op end a = goes_kept m.memory (branched layout m end op.branch _) (branched_kept m.memory m end op.branch _ here)
    zero_kept none.Piracy op end a = goes_kept m.memory (branched layout m end op.branch _) (branched_kept m.memory m end op.branch _ here)

    several_kept : (word : ℕ) (i : Several) (op : Op) (end : ℕ) (a : Args) → Gives (do_several layout word i op end a m) SameBehind
    unfolding do_several
    several_kept word several.CallVs op end a = goes_kept m.memory (called layout m end op.store a) (called_kept m.memory m end op.store a here)
    several_kept word several.Storew op end a = written_kept m.memory m end _ (word_kept m.memory (guarded layout m.memory) _ a.third (guarded_kept m.memory))
    several_kept word several.Storeb op end a = written_kept m.memory m end _ (byte_kept m.memory (guarded layout m.memory) _ (a.third % 256) (guarded_kept m.memory))
    several_kept word several.PutProp op end a = written_kept m.memory m end _ (property_kept m.memory (guarded layout m.memory) (objects_in m) a.first a.second a.third story)
    several_kept word several.Aread op end a = reads_kept m.memory m end op.store a here
    several_kept word several.PrintChar op end a = printed_kept m.memory (PrintsCode a.first) (at_pc m end) here
    several_kept word several.PrintNum op end a = printed_kept m.memory (PrintsNumber a.first) (at_pc m end) here
    several_kept word several.Random op end a = random_kept m.memory word m end op.store a.first here
    several_kept word several.Push op end a = goes_kept m.memory (pushed (at_pc m end) a.first) (pushed_kept m.memory (at_pc m end) a.first here)
    several_kept word several.Pull op end a = pulls_kept m.memory m end a.first here
    several_kept word several.SplitWindow op end a = given here
    several_kept word several.SetWindow op end a = given here
    several_kept word several.EraseWindow op end a = given here
    several_kept word several.EraseLine op end a = given here
    several_kept word several.SetCursor op end a = given here
    several_kept word several.SetTextStyle op end a = given here
    several_kept word several.BufferMode op end a = given here
    several_kept word several.OutputStream op end a = goes_kept m.memory (streamed layout (at_pc m end) a) (streamed_kept m.memory (at_pc m end) a here)
    several_kept word several.ReadChar op end a = key_kept m.memory m end op.store here
    several_kept word several.ScanTable op end a = place_kept m.memory m end op.store op.branch _ here
    several_kept word several.Not op end a = answers_kept m.memory m end op.store _ here
    several_kept word several.CallVn op end a = goes_kept m.memory (called layout m end op.store a) (called_kept m.memory m end op.store a here)
    several_kept word several.CopyTable op end a = written_kept m.memory m end _ (copied_kept m.memory (guarded layout m.memory) a.first a.second a.third story)
    several_kept word several.CheckArgCount op end a = goes_kept m.memory (branched layout m end op.branch _) (branched_kept m.memory m end op.branch _ here)

    extended_kept : (i : Extended) (op : Op) (end : ℕ) (a : Args) → Gives (do_extended layout i op end a m) SameBehind
    unfolding do_extended
    extended_kept extended.Save op end a = answers_kept m.memory m end op.store _ here
    extended_kept extended.Restore op end a = answers_kept m.memory m end op.store _ here
    extended_kept extended.LogShift op end a = answers_kept m.memory m end op.store _ here
    extended_kept extended.ArtShift op end a = answers_kept m.memory m end op.store _ here
    extended_kept extended.SaveUndo op end a = answers_kept m.memory m end op.store _ here
    extended_kept extended.RestoreUndo op end a = answers_kept m.memory m end op.store _ here
    extended_kept extended.PrintUnicode op end a = printed_kept m.memory (PrintsUnicode a.first) (at_pc m end) here

    instr_kept : (word : ℕ) (i : Instr) (op : Op) (end : ℕ) (a : Args) → Gives (do_instr layout word i op end a m) SameBehind
    unfolding do_instr
    instr_kept word (instrs.Two i) op end a = two_kept i op end a
    instr_kept word (instrs.One i) op end a = one_kept i op end a
    instr_kept word (instrs.Zero i) op end a = zero_kept i op end a
    instr_kept word (instrs.Several i) op end a = several_kept word i op end a
    instr_kept word (instrs.Extended i) op end a = extended_kept i op end a

  later_kept : (old : List ℕ) (m : Machine) (r : Result (Effect × Machine) ZFault) → KeepsCode layout old m.memory → Gives r (λ p. KeepsCode layout m.memory p.1.memory) → Gives r (λ p. KeepsCode layout old p.1.memory)
  later_kept old m (Ok p) k h = given (kept_then old m.memory p.1.memory k h.holds)
  later_kept old m (Err fault) k h = refused

  machine_kept : (rows : Rows) (word : ℕ) (m : Machine) → Gives (machine_step rows layout word m) (λ p. KeepsCode layout m.memory p.1.memory)
  unfolding machine_step
  machine_kept rows word m =
      if_any (op_at rows m.memory m.pc) _ _ (λ found. if_bind (operand_values layout m found.op.operands) _ (KeptWith Args m.memory) _ (values_kept m.memory m found.op.operands (same_kept m.memory)) (λ a k.
      later_kept m.memory a.1 (do_instr layout word found.row.instr found.op found.end a.0 a.1) k (instr_kept a.1 word found.row.instr found.op found.end a.0)))

-- ---- the player's step, and a run

module _ (w : ZGiven) (laid : IsLaid w.layout) where
  abbrev After : ZState → ZState → Type 0
  After s s' = KeepsCode w.layout s.machine.memory s'.machine.memory

  unless_after : (s after : ZState) (r : Result Machine ZFault) → Gives r (λ m. KeepsCode w.layout s.machine.memory m.memory) → After s (state_behind (on_unless s after r))
  unless_after s after (Ok m) k = k.holds
  unless_after s after (Err fault) k = same_kept w.layout laid s.machine.memory

  read_kept : (old : List ℕ) (m : Machine) (buffer : ℕ) (store : Option ℕ) (line : List ℕ) → KeepsCode w.layout old m.memory → Gives (line_read w.layout m buffer store line) (λ m'. KeepsCode w.layout old m'.memory)
  unfolding line_read
  read_kept old m buffer store line k =
      if_bind (with_line (guarded w.layout m.memory) buffer line) _ (KeptBy w.layout laid old) _ (line_kept w.layout laid old (guarded w.layout m.memory) buffer line (record { rights = refl; code = k })) (λ mem h.
      stored_if_kept w.layout laid old (record m { memory = mem.bytes }) store 13 h.code)

  line_after : (s : ZState) (m : Machine) (buffer most : ℕ) (store : Option ℕ) (typed : List ℕ) → KeepsCode w.layout s.machine.memory m.memory → After s (state_behind (line_taken w s m buffer most store typed))
  line_after s m buffer most store [] k = k
  line_after s m buffer most store (byte ∷ typed) k =
      unless_after s (record s { typed = typed_left (byte ∷ typed) }) (line_read w.layout m buffer store (typed_line most (byte ∷ typed))) (read_kept s.machine.memory m buffer store (typed_line most (byte ∷ typed)) k)

  key_after : (s : ZState) (m : Machine) (store : Option ℕ) (typed : List ℕ) → KeepsCode w.layout s.machine.memory m.memory → After s (state_behind (key_taken w s m store typed))
  key_after s m store [] k = k
  key_after s m store (byte ∷ typed) k = unless_after s (record s { typed = typed }) (stored_if w.layout m store (key_code byte)) (stored_if_kept w.layout laid s.machine.memory m store (key_code byte) k)

  effect_after : (s : ZState) (effect : Effect) (m : Machine) → KeepsCode w.layout s.machine.memory m.memory → After s (state_behind (effect_on w s effect m))
  effect_after s Goes m k = k
  effect_after s (PrintsCode c) m k = k
  effect_after s (PrintsUnicode c) m k = k
  effect_after s (PrintsNumber x) m k = k
  effect_after s (PrintsText at) m k = k
  effect_after s (PrintsLine at) m k = unless_after s (after_output s m (text_bytes (string_at m.memory at) ++ 10 ∷ [])) (returned w.layout m 1) (returned_kept w.layout laid s.machine.memory m 1 k)
  effect_after s Draws m k = k
  effect_after s (Reads buffer most store) m k = line_after s m buffer most store s.typed k
  effect_after s (ReadsKey store) m k = key_after s m store s.typed k
  effect_after s Quits m k = k

  next_after : (s : ZState) (r : Result (Effect × Machine) ZFault) → Gives r (λ p. KeepsCode w.layout s.machine.memory p.1.memory) → After s (state_behind (next_by w s r))
  next_after s (Ok p) k = effect_after s p.0 p.1 k.holds
  next_after s (Err fault) k = same_kept w.layout laid s.machine.memory

  step_after : (s : ZState) → After s (state_behind (zstep w s))
  unfolding zstep
  step_after s = next_after s (machine_step w.rows w.layout (word_at w s.drawn) s.machine) (machine_kept w.layout laid w.rows (word_at w s.drawn) s.machine)

  run_after : (k : ℕ) (s : ZState) → After s (zrun w k s).state
  unfolding zrun
  run_after zero s = same_kept w.layout laid s.machine.memory
  run_after (suc k) s = by_next (zstep w s) (step_after s) (λ s'. run_after k s')
    where
      by_next : (next : Next) → After s (state_behind next) → ((s' : ZState) → After s' (zrun w k s').state) → After s (go_on (zrun w k) next).state
      by_next (On s') first later = kept_then w.layout laid s.machine.memory s'.machine.memory (zrun w k s').state.machine.memory first (later s')
      by_next (Ended halt s') first later = first

  pub code_stays : (s : ZState) → CodeStays w s
  code_stays s = record { step = step_after s; run = λ k. run_after k s }
