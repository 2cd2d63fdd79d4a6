-- What single acts keep: the number of locals, and the outside where they only store.
use Rattle.std.proofs.Common.{◌≡◌, ℕ, ◌+◌, ◌-◌, ◌%◌, Bool, true, false, List, [], ◌∷◌, length, Option, Some, None, Result, Ok, Err, refl, sym, ap, ◌∙◌, subst}
use Rattle.std.proofs.Math.ListN.{length-set}
use Rattle.std.specs.Prelude.{nat_lt, ◌==◌, ◌||◌, if◌then◌else◌}
use Rattle.std.proofs.lemmas.Option.{same_Some}
use Rattle.z_model.specs.declared.fault.ZFault.{ZFault}
use Rattle.z_model.specs.declared.story.Layout.{Layout}
use Rattle.z_model.specs.Typed.{typed_line, typed_left}
use Rattle.z_model.specs.Memory.{Memory, guarded, is_writable, byte_in, have_right}
use Rattle.z_model.specs.Run.{word_at, next_drawn, with_line}
use Rattle.z_lang.specs.declared.act.Act.{Act}
use Rattle.z_lang.specs.declared.act.Act.TheVariants as acts
use Rattle.z_lang.specs.State.{◌>>=◌, unless_fault, State, Program, value, put, put_if, with_local}
use Rattle.z_lang.specs.Acts.{computed, bytes_unless, memory_with, print_output, random_drawn, readable, line_in, does, with_output}
use Rattle.z_lang.proofs.Operands.{in_local, in_global}
use Rattle.z_lang.proofs.Effects.{no_fault}

-- a step of a chain of options that is there
pub record Bound {A B : Type 0} (o : Option A) (f : A → Option B) (y : B) : Type 0 where
  pub x : A
  pub is : o ≡ Some x
  pub rest : f x ≡ Some y

pub bound : {A B : Type 0} (o : Option A) (f : A → Option B) (y : B) → (o >>= f) ≡ Some y → Bound o f y
bound (Some x) f y e = record { x = x; is = refl; rest = e }
bound None f y e = absurd (cc)

-- the same outside
pub record SameOutside (s s1 : State) : Type 0 where
  pub typed : s1.typed ≡ s.typed
  pub drawn : s1.drawn ≡ s.drawn
  pub output : s1.output ≡ s.output

abbrev pub the_state : State → Option State
the_state s = Some s

-- as many locals, and the same outside
pub record Puts (s s1 : State) : Type 0 where
  pub locals : length s1.locals ≡ length s.locals
  pub same : SameOutside s s1

puts_at : (s s1 s2 : State) → s1 ≡ s2 → Puts s s1 → Puts s s2
puts_at s s1 s2 e h = subst (λ (t : State). Puts s t) e h

pub put_keeps : (p : Program) (v x : ℕ) (s s1 : State) → put p v x s ≡ Some s1 → Puts s s1
unfolding put with_local
put_keeps p v x s s1 e = by_tests (v == 0) (nat_lt v 16) (nat_lt (v - 1) (length s.locals)) (nat_lt v 256) e
  where
    local_kept : Puts s (in_local s v x)
    local_kept = record { locals = length-set s.locals (v - 1) x; same = record { typed = refl; drawn = refl; output = refl } }

    global_kept : Puts s (in_global p s v x)
    global_kept = record { locals = refl; same = record { typed = refl; drawn = refl; output = refl } }

    by_tests : (z l r g : Bool) → (if z then None else if l then (if r then the_state (in_local s v x) else None) else if g then the_state (in_global p s v x) else None) ≡ the_state s1 → Puts s s1
    by_tests true l r g h = absurd (cc)
    by_tests false true true g h = puts_at s (in_local s v x) s1 (same_Some (in_local s v x) s1 h) local_kept
    by_tests false true false g h = absurd (cc)
    by_tests false false r true h = puts_at s (in_global p s v x) s1 (same_Some (in_global p s v x) s1 h) global_kept
    by_tests false false r false h = absurd (cc)

pub put_if_keeps : (p : Program) (v : Option ℕ) (x : ℕ) (s s1 : State) → put_if p v x s ≡ Some s1 → Puts s s1
put_if_keeps p None x s s1 e = puts_at s s s1 (same_Some s s1 e) (record { locals = refl; same = record { typed = refl; drawn = refl; output = refl } })
put_if_keeps p (Some v) x s s1 e = put_keeps p v x s s1 e

-- ---- acts

-- what a draw did
pub data Drew (p : Program) (v r : ℕ) (s s1 : State) : Type 0 where
  nothing_drawn : ((r == 0) || nat_lt 32767 r) ≡ true → put p v 0 s ≡ Some s1 → Drew p v r s s1
  one_drawn : (after : State) → ((r == 0) || nat_lt 32767 r) ≡ false → put p v (1 + word_at p.world s.drawn % r) s ≡ Some after → record after { drawn = next_drawn p.world s.drawn } ≡ s1 → Drew p v r s s1

pub drew : (p : Program) (v r : ℕ) (s s1 : State) → random_drawn p v r s ≡ Some s1 → Drew p v r s s1
unfolding random_drawn
drew p v r s s1 e = by_test ((r == 0) || nat_lt 32767 r) refl e
  where
    by_test : (t : Bool) → ((r == 0) || nat_lt 32767 r) ≡ t → (if t then put p v 0 s else (put p v (1 + word_at p.world s.drawn % r) s >>= λ after. the_state (record after { drawn = next_drawn p.world s.drawn }))) ≡ the_state s1 → Drew p v r s s1
    by_test true q h = nothing_drawn q h
    by_test false q h = let b = bound (put p v (1 + word_at p.world s.drawn % r) s) _ s1 h in one_drawn b.x q b.is (same_Some _ s1 b.rest)

draw_keeps : (p : Program) (v r : ℕ) (s s1 : State) → random_drawn p v r s ≡ Some s1 → length s1.locals ≡ length s.locals
draw_keeps p v r s s1 e = by_case (drew p v r s s1 e)
  where
    by_case : Drew p v r s s1 → length s1.locals ≡ length s.locals
    by_case (nothing_drawn q h) = (put_keeps p v 0 s s1 h).locals
    by_case (one_drawn after q h same) = ap (λ (t : State). length t.locals) (sym same) ∙ (put_keeps p v (1 + word_at p.world s.drawn % r) s after h).locals

-- a buffer that may be read into
pub record IsReadable (layout : Layout) (memory : List ℕ) (x most : ℕ) : Type 0 where
  pub byte : byte_in (guarded layout memory) x ≡ Ok most
  pub may : have_right (is_writable layout) ((x + 1) % 65536) (most + 1) ≡ true

abbrev some_number : ℕ → Option ℕ
some_number n = Some n

pub is_readable : (layout : Layout) (memory : List ℕ) (x most : ℕ) → readable layout memory x ≡ Some most → IsReadable layout memory x most
unfolding readable
is_readable layout memory x most e = let b = bound (unless_fault (byte_in (guarded layout memory) x)) _ most e in by_test b.x b.is (have_right (is_writable layout) ((x + 1) % 65536) (b.x + 1)) refl b.rest
  where
    by_test : (n : ℕ) → unless_fault (byte_in (guarded layout memory) x) ≡ Some n → (t : Bool) → have_right (is_writable layout) ((x + 1) % 65536) (n + 1) ≡ t → (if t then some_number n else None) ≡ some_number most → IsReadable layout memory x most
    by_test n is true q h = let same = same_Some n most h in record { byte = no_fault (byte_in (guarded layout memory) x) most (is ∙ h); may = subst (λ (i : ℕ). have_right (is_writable layout) ((x + 1) % 65536) (i + 1) ≡ true) same q }
    by_test n is false q h = absurd (cc)

-- the memory whose bytes these are
record MemoryOf (r : Result Memory ZFault) (bytes : List ℕ) : Type 0 where
  mem : Memory
  is : r ≡ Ok mem
  same : mem.bytes ≡ bytes

memory_of : (r : Result Memory ZFault) (bytes : List ℕ) → bytes_unless r ≡ Some bytes → MemoryOf r bytes
memory_of (Ok mem) bytes e = record { mem = mem; is = refl; same = same_Some mem.bytes bytes e }
memory_of (Err fault) bytes e = absurd (cc)

-- a line that was taken
pub record Took (p : Program) (v x most : ℕ) (s s1 : State) : Type 0 where
  pub byte : ℕ
  pub typed : List ℕ
  pub is : s.typed ≡ byte ∷ typed
  pub memory : Memory
  pub line : with_line (guarded p.world.layout s.memory) x (typed_line most (byte ∷ typed)) ≡ Ok memory
  pub stored : put p v 13 (record s { memory = memory.bytes; typed = typed_left (byte ∷ typed) }) ≡ Some s1

pub took : (p : Program) (v x most : ℕ) (s s1 : State) → line_in p v x most s.typed s ≡ Some s1 → Took p v x most s s1
unfolding line_in
took p v x most s s1 e = by_typed s.typed refl e
  where
    by_typed : (t : List ℕ) → s.typed ≡ t → line_in p v x most t s ≡ Some s1 → Took p v x most s s1
    by_typed [] q h = absurd (cc)
    by_typed (byte ∷ typed) q h =
        let m = bound (bytes_unless (with_line (guarded p.world.layout s.memory) x (typed_line most (byte ∷ typed)))) _ s1 h in
        let mem = memory_of (with_line (guarded p.world.layout s.memory) x (typed_line most (byte ∷ typed))) m.x m.is in
        record { byte = byte; typed = typed; is = q; memory = mem.mem; line = mem.is; stored = subst (λ (l : List ℕ). put p v 13 (record s { memory = l; typed = typed_left (byte ∷ typed) }) ≡ Some s1) (sym mem.same) m.rest }

pub does_keeps : (p : Program) (act : Act) (s s1 : State) → does p act s ≡ Some s1 → length s1.locals ≡ length s.locals
does_keeps p (acts.Copy v a) s s1 e = let x = bound (value p s a) _ s1 e in (put_keeps p v x.x s s1 x.rest).locals
does_keeps p (acts.Compute v f a b) s s1 e =
    let x = bound (value p s a) _ s1 e in
    let y = bound (value p s b) _ s1 x.rest in
    let z = bound (computed p.world.layout s.memory f x.x y.x) _ s1 y.rest in
    (put_keeps p v z.x s s1 z.rest).locals
does_keeps p (acts.Write w a b d) s s1 e =
    let x = bound (value p s a) _ s1 e in
    let y = bound (value p s b) _ s1 x.rest in
    let z = bound (value p s d) _ s1 y.rest in
    let m = bound (memory_with p.world.layout s.memory w x.x y.x z.x) _ s1 z.rest in
    ap (λ (t : State). length t.locals) (sym (same_Some (record s { memory = m.x }) s1 m.rest))
does_keeps p (acts.Print k a) s s1 e =
    let x = bound (value p s a) _ s1 e in
    let t = bound (print_output s.memory k x.x) _ s1 x.rest in
    ap (λ (t : State). length t.locals) (sym (same_Some (with_output s t.x) s1 t.rest))
does_keeps p (acts.Random v a) s s1 e = let r = bound (value p s a) _ s1 e in draw_keeps p v r.x s s1 r.rest
does_keeps p (acts.Read v a) s s1 e =
    let x = bound (value p s a) _ s1 e in
    let most = bound (readable p.world.layout s.memory x.x) _ s1 x.rest in
    let tried = bound (put p v 13 s) _ s1 most.rest in
    let t = took p v x.x most.x s s1 tried.rest in
    (put_keeps p v 13 (record s { memory = t.memory.bytes; typed = typed_left (t.byte ∷ t.typed) }) s1 t.stored).locals
does_keeps p act s s1 e = absurd (cc)
