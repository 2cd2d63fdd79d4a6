-- The rest of each effect.
use Rattle.std.proofs.Common.{◌≡◌, ◌≢◌, ℕ, zero, suc, ◌+◌, ◌-◌, ◌%◌, ◌<◌, ◌≤◌, Bool, true, false, cond, eqb, ltb, List, [], ◌∷◌, length, Option, Some, None, Result, Ok, Err, IsOk, ◌⊎◌, inl, inr, refl, sym, subst, arith}
use Rattle.std.proofs.lemmas.List.{append-nil, length-take}
use Rattle.z_model.specs.declared.fault.ZFault.{ZFault}
use Rattle.z_model.specs.declared.fault.ZFault.TheVariants.{BadOpcode}
use Rattle.z_model.specs.declared.story.Layout.{Layout}
use Rattle.z_model.specs.declared.end.Halt.{Halt}
use Rattle.z_model.specs.declared.end.Halt.TheVariants.{AtQuit, AtInput}
use Rattle.z_model.specs.declared.end.Effect.{Effect}
use Rattle.z_model.specs.declared.end.Effect.TheVariants.{Goes, PrintsCode, PrintsUnicode, PrintsNumber, PrintsText, PrintsLine, Draws, Reads, ReadsKey, Quits}
use Rattle.z_model.specs.Decode.{◌>>=◌}
use Rattle.z_model.specs.Machine.{Machine, pushed, local_set, global_set, stored, stored_if, words}
use Rattle.std.proofs.Math.ListN.{set}
use Rattle.z_model.specs.Memory.{Memory, guarded, is_writable, have_right, with_byte, with_bytes}
use Rattle.z_model.specs.Flow.{returned}
use Rattle.z_model.specs.Typed.{typed_bytes, typed_codes, typed_line, typed_left, left_within}
use Rattle.z_model.specs.Run.{ZGiven, line_read, with_line, next_drawn, key_code}
use Rattle.z_play.specs.inside.Effects.{CanFinish}
use Rattle.z_play.specs.View.{Sets}
use Rattle.z_play.specs.inside.Acting.{Finished, Unfinished}
use Rattle.z_play.proofs.Reading.{StopsWithin, left_shorter}

-- ---- a line that fits its buffer is read

all_first : (may : ℕ → Bool) (a n : ℕ) → have_right may a (suc n) ≡ true → (may a ≡ true) × (have_right may ((a + 1) % 65536) n ≡ true)
unfolding have_right
all_first may a n e = by_test (may a) refl e
  where
    by_test : (t : Bool) → may a ≡ t → cond t (have_right may ((a + 1) % 65536) n) false ≡ true → (may a ≡ true) × (have_right may ((a + 1) % 65536) n ≡ true)
    by_test true is e = (is, e)
    by_test false is e = absurd cc

bind_ok : {A B : Type 0} (r : Result A ZFault) (f : A → Result B ZFault) → IsOk r → ((x : A) → IsOk (f x)) → IsOk (r >>= f)
bind_ok (Ok x) f h k = k x
bind_ok (Err e) f h k = h

-- the bytes are written, and the rights stay
record BytesWritten (mem : Memory) (r : Result Memory ZFault) : Type 0 where
  after : Memory
  is : r ≡ Ok after
  rights : after.may_write ≡ mem.may_write

bytes_ok : (mem : Memory) (a n : ℕ) (bytes : List ℕ) → have_right mem.may_write a n ≡ true → length bytes ≤ n → BytesWritten mem (with_bytes mem a bytes)
unfolding with_bytes with_byte
bytes_ok mem a n [] may few = record { after = mem; is = refl; rights = refl }
bytes_ok mem a zero (b ∷ bytes) may few = absurd (omega arith)
bytes_ok mem a (suc n) (b ∷ bytes) may few =
    let first = all_first mem.may_write a n may in
    let rest = bytes_ok (record mem { bytes = set mem.bytes a b }) ((a + 1) % 65536) n bytes first.1 (omega arith) in
    record { after = rest.after; is = rw first.0 rest.is; rights = rest.rights }

line_ok : (mem : Memory) (buffer most : ℕ) (line : List ℕ) → have_right mem.may_write ((buffer + 1) % 65536) (most + 1) ≡ true → length line ≤ most → IsOk (with_line mem buffer line)
unfolding with_line with_byte
line_ok mem buffer most line may few =
    let one : most + 1 ≡ suc most = omega arith in
    let first = all_first mem.may_write ((buffer + 1) % 65536) most (subst (λ (n : ℕ). have_right mem.may_write ((buffer + 1) % 65536) n ≡ true) one may) in
    let two : ((buffer + 1) % 65536 + 1) % 65536 ≡ (buffer + 2) % 65536 = omega arith in
    let there = bytes_ok mem ((buffer + 2) % 65536) most line (subst (λ (a : ℕ). have_right mem.may_write a most ≡ true) two first.1) few in
    rw (there.is, there.rights, first.0) refl

-- a store doesn't fail for the memory
store_ok : (layout : Layout) (m : Machine) (memory : List ℕ) (store : Option ℕ) (x : ℕ) → IsOk (stored_if layout m store x) → IsOk (stored_if layout (record m { memory = memory }) store x)
unfolding stored_if stored pushed local_set
store_ok layout m memory None x h = h
store_ok layout m memory (Some v) x h = by_tests (eqb v 0) (ltb v 16) (ltb v 256) h
  where
    by_test : (t : Bool) (a b : Machine) (e : ZFault) → IsOk {T = Machine} {E = ZFault} (cond t (Ok a) (Err e)) → IsOk {T = Machine} {E = ZFault} (cond t (Ok b) (Err e))
    by_test true a b e h = refl
    by_test false a b e h = h

    by_tests : (empty small one : Bool) →
        IsOk (cond empty (pushed m x) (cond small (local_set m v x) (cond one (Ok (global_set layout m v x)) (Err BadOpcode)))) →
        IsOk (cond empty (pushed (record m { memory = memory }) x) (cond small (local_set (record m { memory = memory }) v x) (cond one (Ok (global_set layout (record m { memory = memory }) v x)) (Err BadOpcode))))
    by_tests true small one h = by_test (ltb (words m) 65536) _ _ _ h
    by_tests false true one h = by_test (ltb (v - 1) (length m.here.locals)) _ _ _ h
    by_tests false false one h = by_test one _ _ _ h

pub read_ok : (layout : Layout) (m : Machine) (buffer most : ℕ) (store : Option ℕ) (line : List ℕ) → have_right (is_writable layout) ((buffer + 1) % 65536) (most + 1) ≡ true → IsOk (stored_if layout m store 13) → length line ≤ most → IsOk (line_read layout m buffer store line)
unfolding line_read
read_ok layout m buffer most store line may can few = bind_ok (with_line (guarded layout m.memory) buffer line) _ (line_ok (guarded layout m.memory) buffer most line may few) (λ memory. store_ok layout m memory.bytes store 13 can)

-- ---- the effects

pub plain_goes : (w : ZGiven) (m : Machine) (typed : List ℕ) (drawn : ℕ) (left : Option (List ℕ)) → left ≡ Some typed → Finished w Goes m typed drawn None m left drawn
plain_goes w m typed drawn left told = record { behind = typed; left_is = told; last = m; same = refl; is = λ before output. rw (append-nil output) refl }

pub finish_draws : (w : ZGiven) (m : Machine) (typed : List ℕ) (drawn : ℕ) (left : Option (List ℕ)) → left ≡ Some typed → Finished w Draws m typed drawn None m left (next_drawn w drawn)
finish_draws w m typed drawn left told = record { behind = typed; left_is = told; last = m; same = refl; is = λ before output. rw (append-nil output) refl }

pub finish_quits : (w : ZGiven) (m : Machine) (typed : List ℕ) (drawn : ℕ) (left : Option (List ℕ)) → left ≡ Some typed → Finished w Quits m typed drawn (Some AtQuit) m left drawn
finish_quits w m typed drawn left told = record { behind = typed; left_is = told; last = m; same = tt; is = λ before output. rw (append-nil output) refl }

pub finish_line : (w : ZGiven) (m m' : Machine) (at : ℕ) (typed : List ℕ) (drawn : ℕ) (left : Option (List ℕ)) → left ≡ Some typed → returned w.layout m 1 ≡ Ok m' → Finished w (PrintsLine at) m typed drawn None m' left drawn
finish_line w m m' at typed drawn left told e = record { behind = typed; left_is = told; last = m'; same = refl; is = λ before output. rw e refl }

abbrev pub IsPlain : Effect → Type 0
IsPlain Goes = Unit {0}
IsPlain (PrintsCode c) = Unit {0}
IsPlain (PrintsUnicode c) = Unit {0}
IsPlain (PrintsNumber x) = Unit {0}
IsPlain (PrintsText at) = Unit {0}
IsPlain (PrintsLine at) = ⊥
IsPlain Draws = ⊥
IsPlain (Reads buffer most store) = ⊥
IsPlain (ReadsKey store) = ⊥
IsPlain Quits = ⊥

pub finish_plain : (w : ZGiven) (effect : Effect) (m : Machine) (typed : List ℕ) (drawn : ℕ) (left : Option (List ℕ)) → IsPlain effect → left ≡ Some typed → Finished w effect m typed drawn None m left drawn
finish_plain w Goes m typed drawn left p told = plain_goes w m typed drawn left told
finish_plain w (PrintsCode c) m typed drawn left p told = record { behind = typed; left_is = told; last = m; same = refl; is = λ before output. refl }
finish_plain w (PrintsUnicode c) m typed drawn left p told = record { behind = typed; left_is = told; last = m; same = refl; is = λ before output. refl }
finish_plain w (PrintsNumber x) m typed drawn left p told = record { behind = typed; left_is = told; last = m; same = refl; is = λ before output. refl }
finish_plain w (PrintsText at) m typed drawn left p told = record { behind = typed; left_is = told; last = m; same = refl; is = λ before output. refl }
finish_plain w (PrintsLine at) m typed drawn left p told = absurd p
finish_plain w Draws m typed drawn left p told = absurd p
finish_plain w (Reads buffer most store) m typed drawn left p told = absurd p
finish_plain w (ReadsKey store) m typed drawn left p told = absurd p
finish_plain w Quits m typed drawn left p told = absurd p

-- ---- a reading

pub finish_input : (w : ZGiven) (m new : Machine) (buffer most : ℕ) (store : Option ℕ) (typed : List ℕ) (drawn : ℕ) (left : Option (List ℕ)) → typed ≡ [] → left ≡ Some [] → Finished w (Reads buffer most store) m typed drawn (Some AtInput) new left drawn
finish_input w m new buffer most store [] drawn left none told = record { behind = []; left_is = told; last = m; same = tt; is = λ before output. rw (append-nil output) refl }
finish_input w m new buffer most store (b ∷ typed) drawn left none told = absurd cc

pub finish_reading : (w : ZGiven) (m m' : Machine) (buffer most : ℕ) (store : Option ℕ) (typed : List ℕ) (drawn : ℕ) (left : Option (List ℕ)) → typed ≢ [] → left ≡ Some (typed_left typed) → line_read w.layout m buffer store (typed_line most typed) ≡ Ok m' → Finished w (Reads buffer most store) m typed drawn None m' left drawn
finish_reading w m m' buffer most store [] drawn left some told e = absurd (some refl)
finish_reading w m m' buffer most store (b ∷ typed) drawn left some told e = record { behind = typed_left (b ∷ typed); left_is = told; last = m'; same = refl; is = λ before output. rw (e, append-nil output) refl }

left_less : (b : ℕ) (typed : List ℕ) → length (typed_left (b ∷ typed)) < length (b ∷ typed)
unfolding typed_left left_within
left_less b typed = by_test (eqb b 10) (left_shorter 65535 typed)
  where
    by_test : (t : Bool) → length (left_within 65535 typed) ≤ length typed → length (cond t typed (left_within 65535 typed)) < length (b ∷ typed)
    by_test true less = omega arith
    by_test false less = omega arith

line_short : (most : ℕ) (typed : List ℕ) → length (typed_line most typed) ≤ most
unfolding typed_line
line_short most typed = omega (arith, length-take most (typed_codes (typed_bytes typed)))

ok_is : {A : Type 0} (r : Result A ZFault) → IsOk r → (x : A) × (r ≡ Ok x)
ok_is (Ok x) h = (x, refl)
ok_is (Err e) h = absurd cc

pub unfinished_reading : (w : ZGiven) (m : Machine) (buffer most : ℕ) (store : Option ℕ) (typed : List ℕ) (drawn : ℕ) (left : Option (List ℕ)) → have_right (is_writable w.layout) ((buffer + 1) % 65536) (most + 1) ≡ true → IsOk (stored_if w.layout m store 13) → StopsWithin (typed_left typed) typed left → Unfinished w (Reads buffer most store) m typed drawn left
unfinished_reading w m buffer most store [] drawn left may can stops = record { prints_none = refl; rest = stops.rest; left_is = stops.is; most = stops.most; halt = Some AtInput; last = m; behind = []; beyond = tt; is = λ before output. refl }
unfinished_reading w m buffer most store (b ∷ typed) drawn left may can stops =
    let read = ok_is (line_read w.layout m buffer store (typed_line most (b ∷ typed))) (read_ok w.layout m buffer most store (typed_line most (b ∷ typed)) may can (line_short most (b ∷ typed))) in
    by_read read.0 read.1
  where
    by_read : (x : Machine) → line_read w.layout m buffer store (typed_line most (b ∷ typed)) ≡ Ok x → Unfinished w (Reads buffer most store) m (b ∷ typed) drawn left
    by_read x e = record { prints_none = refl; rest = stops.rest; left_is = stops.is; most = stops.most; halt = None; last = x; behind = typed_left (b ∷ typed); beyond = (stops.least, left_less b typed); is = λ before output. rw e refl }

-- ---- a typed byte

pub no_key : (w : ZGiven) (m new : Machine) (store : Option ℕ) (typed : List ℕ) (drawn : ℕ) (left : Option (List ℕ)) → typed ≡ [] → left ≡ Some [] → Finished w (ReadsKey store) m typed drawn (Some AtInput) new left drawn
no_key w m new store [] drawn left none told = record { behind = []; left_is = told; last = m; same = tt; is = λ before output. rw (append-nil output) refl }
no_key w m new store (b ∷ typed) drawn left none told = absurd cc

pub finish_key : (w : ZGiven) (m m' : Machine) (store : Option ℕ) (b : ℕ) (typed : List ℕ) (drawn : ℕ) (left : Option (List ℕ)) → left ≡ Some typed → stored_if w.layout m store (key_code b) ≡ Ok m' → Finished w (ReadsKey store) m (b ∷ typed) drawn None m' left drawn
finish_key w m m' store b typed drawn left told e = record { behind = typed; left_is = told; last = m'; same = refl; is = λ before output. rw (e, append-nil output) refl }

pub unfinished_key : (w : ZGiven) (m : Machine) (store : Option ℕ) (typed : List ℕ) (drawn : ℕ) (left : Option (List ℕ)) → ((x : ℕ) → IsOk (stored_if w.layout m store x)) → left ≡ Some typed → Unfinished w (ReadsKey store) m typed drawn left
unfinished_key w m store [] drawn left can told = record { prints_none = refl; rest = []; left_is = told; most = omega arith; halt = Some AtInput; last = m; behind = []; beyond = tt; is = λ before output. refl }
unfinished_key w m store (b ∷ typed) drawn left can told =
    let stored = ok_is (stored_if w.layout m store (key_code b)) (can (key_code b)) in
    by_store stored.0 stored.1
  where
    by_store : (x : Machine) → stored_if w.layout m store (key_code b) ≡ Ok x → Unfinished w (ReadsKey store) m (b ∷ typed) drawn left
    by_store x e = record { prints_none = refl; rest = b ∷ typed; left_is = told; most = omega arith; halt = None; last = x; behind = typed; beyond = (omega arith, omega arith); is = λ before output. rw e refl }

-- ---- every effect leads on

pub finishes : {R : Type 0} (w : ZGiven) (effect : Effect) (m : Machine) (typed : List ℕ) (drawn : ℕ) → CanFinish effect w.layout m → ((halt : Option Halt) (new : Machine) (left : Option (List ℕ)) (drawn' : ℕ) → Finished w effect m typed drawn halt new left drawn' → R) → R
finishes w Goes m typed drawn can k = k _ _ _ _ (finish_plain w Goes m typed drawn (Some typed) tt refl)
finishes w (PrintsCode c) m typed drawn can k = k _ _ _ _ (finish_plain w (PrintsCode c) m typed drawn (Some typed) tt refl)
finishes w (PrintsUnicode c) m typed drawn can k = k _ _ _ _ (finish_plain w (PrintsUnicode c) m typed drawn (Some typed) tt refl)
finishes w (PrintsNumber x) m typed drawn can k = k _ _ _ _ (finish_plain w (PrintsNumber x) m typed drawn (Some typed) tt refl)
finishes w (PrintsText at) m typed drawn can k = k _ _ _ _ (finish_plain w (PrintsText at) m typed drawn (Some typed) tt refl)
finishes w (PrintsLine at) m typed drawn can k = let r = ok_is (returned w.layout m 1) can in k _ _ _ _ (finish_line w m r.0 at typed drawn (Some typed) refl r.1)
finishes w Draws m typed drawn can k = k _ _ _ _ (finish_draws w m typed drawn (Some typed) refl)
finishes w (Reads buffer most store) m [] drawn can k = k _ _ _ _ (finish_input w m m buffer most store [] drawn (Some []) refl refl)
finishes w (Reads buffer most store) m (b ∷ typed) drawn can k =
    let read = ok_is (line_read w.layout m buffer store (typed_line most (b ∷ typed))) (read_ok w.layout m buffer most store (typed_line most (b ∷ typed)) can.0 can.1 (line_short most (b ∷ typed))) in
    k _ _ _ _ (finish_reading w m read.0 buffer most store (b ∷ typed) drawn (Some (typed_left (b ∷ typed))) (λ e. absurd cc) refl read.1)
finishes w (ReadsKey store) m [] drawn can k = k _ _ _ _ (no_key w m m store [] drawn (Some []) refl refl)
finishes w (ReadsKey store) m (b ∷ typed) drawn can k =
    let stored = ok_is (stored_if w.layout m store (key_code b)) (can (key_code b)) in
    k _ _ _ _ (finish_key w m stored.0 store b typed drawn (Some typed) refl stored.1)
finishes w Quits m typed drawn can k = k _ _ _ _ (finish_quits w m typed drawn (Some typed) refl)

-- ---- what a reading gives

pub sets_ok : {X Y : Type 0} (r : Result X ZFault) (m : Y) (given : Result Y ZFault) → Sets r m given → IsOk given → IsOk r
sets_ok (Ok x) m given h ok = refl
sets_ok (Err e) m given h ok = absurd (failed h ok)
  where
    failed : given ≡ Err e → IsOk given → ⊥
    failed h ok = cc

pub sets_given : {X Y : Type 0} (r : Result X ZFault) (m : Y) (given : Result Y ZFault) → Sets r m given → IsOk given → given ≡ Ok m
sets_given (Ok x) m given h ok = h
sets_given (Err e) m given h ok = absurd (failed h ok)
  where
    failed : given ≡ Err e → IsOk given → ⊥
    failed h ok = cc

-- a line is printed, and its return was tried
pub line_finished : {X : Type 0} (w : ZGiven) (effect : Effect) (m m' : Machine) (at : ℕ) (typed : List ℕ) (drawn : ℕ) (r : Result X ZFault) →
    effect ≡ PrintsLine at → CanFinish effect w.layout m → Sets r m' (returned w.layout m 1) → Finished w effect m typed drawn None m' (Some typed) drawn
line_finished w effect m m' at typed drawn r is can sets =
    let ok : IsOk (returned w.layout m 1) = subst (λ (e : Effect). CanFinish e w.layout m) is can in
    subst (λ (e : Effect). Finished w e m typed drawn None m' (Some typed) drawn) (sym is)
    (finish_line w m m' at typed drawn (Some typed) refl (sets_given r m' (returned w.layout m 1) sets ok))

-- what is neither a line nor a draw nor a reading nor an end
pub is_plain : (effect : Effect) → (effect ≡ Goes) ⊎ (((x : ℕ) × (effect ≡ PrintsCode x)) ⊎ (((x : ℕ) × (effect ≡ PrintsUnicode x)) ⊎
    (((x : ℕ) × (effect ≡ PrintsNumber x)) ⊎ ((x : ℕ) × (effect ≡ PrintsText x))))) → IsPlain effect
is_plain effect (inl e) = subst IsPlain (sym e) tt
is_plain effect (inr (inl p)) = subst IsPlain (sym p.1) tt
is_plain effect (inr (inr (inl p))) = subst IsPlain (sym p.1) tt
is_plain effect (inr (inr (inr (inl p)))) = subst IsPlain (sym p.1) tt
is_plain effect (inr (inr (inr (inr p)))) = subst IsPlain (sym p.1) tt
