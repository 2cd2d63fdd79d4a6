-- Static memory is kept by every run of acts.
use Rattle.std.proofs.Common.{◌≡◌, ℕ, ◌+◌, ◌-◌, ◌*◌, ◌/◌, ◌%◌, ◌<◌, ◌≤◌, Bool, true, false, List, [], ◌∷◌, length, Option, Some, None, Result, Ok, Err, refl, sym, ap, ◌∙◌, subst, arith}
use Rattle.std.specs.Prelude.{nat_lt, ◌==◌, if◌then◌else◌, slice_set}
use Rattle.std.proofs.lemmas.Bool.{eqb-true, ltb-true}
use Rattle.std.proofs.lemmas.List.{drop-set-lt}
use Rattle.std.proofs.lemmas.Option.{same_Some}
use Rattle.z_model.specs.declared.fault.ZFault.{ZFault}
use Rattle.z_model.specs.declared.fault.ZFault.TheVariants.{BadWrite}
use Rattle.z_model.specs.declared.story.Layout.{Layout}
use Rattle.z_model.specs.Decode.{◌>>=◌}
use Rattle.z_model.specs.Memory.{Memory, guarded, is_writable, with_byte, with_word, with_bytes}
use Rattle.z_model.specs.Machine.{global_at}
use Rattle.z_model.specs.Run.{with_line, word_at}
use Rattle.z_model.specs.Typed.{typed_line, typed_left}
use Rattle.z_lang.specs.declared.act.Act.{Act}
use Rattle.z_lang.specs.declared.act.Act.TheVariants as acts
use Rattle.z_lang.specs.declared.act.Width.{Width}
use Rattle.z_lang.specs.declared.act.Width.TheVariants as widths
use Rattle.z_lang.specs.State.{State, Program, value, put, put_if, with_local}
use Rattle.z_lang.specs.Acts.{computed, bytes_unless, memory_with, print_output, readable, does, with_output}
use Rattle.z_lang.specs.Runs.{ActsRun, ActsOutcome, rests, at_label, goes, taken, passed, done, calls, calls_last, ends_input, returns, quits, left_with}
use Rattle.z_lang.specs.Standing.{IsKept}
use Rattle.z_lang.proofs.Keeping.{bound, Drew, nothing_drawn, one_drawn, drew, took}
use Rattle.z_lang.proofs.Operands.{in_local, in_global}

-- ---- single bytes

abbrev memory_ok : Memory → Result Memory ZFault
memory_ok mem = Ok mem

abbrev some_bytes : List ℕ → Option (List ℕ)
some_bytes bytes = Some bytes

record Chained {A B : Type 0} (r : Result A ZFault) (f : A → Result B ZFault) (y : B) : Type 0 where
  x : A
  is : r ≡ Ok x
  rest : f x ≡ Ok y

chained : {A B : Type 0} (r : Result A ZFault) (f : A → Result B ZFault) (y : B) → (r >>= f) ≡ Ok y → Chained r f y
chained (Ok x) f y e = record { x = x; is = refl; rest = e }
chained (Err fault) f y e = absurd (cc)

module _ (layout : Layout) (story : List ℕ) (high : 600 ≤ layout.base) where
  abbrev Kept : List ℕ → Type 0
  Kept memory = IsKept layout.base story memory

  set_kept : (m : List ℕ) (i x : ℕ) → Kept m → i < layout.base → Kept (slice_set m i x)
  set_kept m i x kept lt = drop-set-lt layout.base m i x lt ∙ kept

  below : (a : ℕ) → is_writable layout a ≡ true → a < layout.base
  below a may = by_tests (a == 16) (a == 17) (nat_lt a 64) (nat_lt a layout.base) refl refl refl refl may
    where
      by_tests : (p q r s : Bool) → (a == 16) ≡ p → (a == 17) ≡ q → nat_lt a 64 ≡ r → nat_lt a layout.base ≡ s → (if p then true else if q then true else if r then false else s) ≡ true → a < layout.base
      by_tests true q r s e f g h may = let same = eqb-true a 16 e in omega arith
      by_tests false true r s e f g h may = let same = eqb-true a 17 f in omega arith
      by_tests false false true s e f g h may = absurd (cc)
      by_tests false false false true e f g h may = ltb-true a layout.base h
      by_tests false false false false e f g h may = absurd (cc)

  -- The rights are those of the story, and static memory is kept.
  record KeptIn (mem : Memory) : Type 0 where
    rights : mem.may_write ≡ is_writable layout
    kept : Kept mem.bytes

  guarded_kept : (m : List ℕ) → Kept m → KeptIn (guarded layout m)
  guarded_kept m k = record { rights = refl; kept = k }

  byte_kept : (mem mem' : Memory) (a b : ℕ) → KeptIn mem → with_byte mem a b ≡ Ok mem' → KeptIn mem'
  unfolding with_byte
  byte_kept mem mem' a b k e = by_test (mem.may_write a) refl e
    where
      by_test : (t : Bool) → mem.may_write a ≡ t → (if t then memory_ok (record mem { bytes = slice_set mem.bytes a b }) else Err BadWrite) ≡ Ok mem' → KeptIn mem'
      by_test true q h =
          let there : KeptIn (record mem { bytes = slice_set mem.bytes a b }) = record { rights = k.rights; kept = set_kept mem.bytes a b k.kept (below a (sym (ap (λ (f : ℕ → Bool). f a) k.rights) ∙ q)) } in
          subst KeptIn (cc (h)) there
      by_test false q h = absurd (cc)

  word_kept : (mem mem' : Memory) (a x : ℕ) → KeptIn mem → with_word mem a x ≡ Ok mem' → KeptIn mem'
  unfolding with_word
  word_kept mem mem' a x k e =
      let c = chained (with_byte mem a (x / 256)) _ mem' e in
      byte_kept c.x mem' ((a + 1) % 65536) (x % 256) (byte_kept mem c.x a (x / 256) k c.is) c.rest

  bytes_kept : (mem mem' : Memory) (a : ℕ) (bs : List ℕ) → KeptIn mem → with_bytes mem a bs ≡ Ok mem' → KeptIn mem'
  unfolding with_bytes
  bytes_kept mem mem' a [] k e = subst KeptIn (cc (e)) k
  bytes_kept mem mem' a (b ∷ bs) k e =
      let c = chained (with_byte mem a b) _ mem' e in
      bytes_kept c.x mem' ((a + 1) % 65536) bs (byte_kept mem c.x a b k c.is) c.rest

  line_kept : (mem mem' : Memory) (x : ℕ) (line : List ℕ) → KeptIn mem → with_line mem x line ≡ Ok mem' → KeptIn mem'
  unfolding with_line
  line_kept mem mem' x line k e =
      let c = chained (with_bytes mem ((x + 2) % 65536) line) _ mem' e in
      byte_kept c.x mem' ((x + 1) % 65536) _ (bytes_kept mem c.x ((x + 2) % 65536) line k c.is) c.rest

  unless_kept : (r : Result Memory ZFault) (bytes : List ℕ) → ((mem : Memory) → r ≡ Ok mem → KeptIn mem) → bytes_unless r ≡ Some bytes → Kept bytes
  unless_kept (Ok mem) bytes h e = subst Kept (same_Some mem.bytes bytes e) (h mem refl).kept
  unless_kept (Err fault) bytes h e = absurd (cc)

  written_kept : (m bytes : List ℕ) (w : Width) (a i x : ℕ) → Kept m → memory_with layout m w a i x ≡ Some bytes → Kept bytes
  unfolding memory_with
  written_kept m bytes widths.Word a i x k e =
      unless_kept (with_word (guarded layout m) ((a + 2 * i) % 65536) x) bytes (λ mem q. word_kept (guarded layout m) mem ((a + 2 * i) % 65536) x (guarded_kept m k) q) e
  written_kept m bytes widths.Byte a i x k e =
      unless_kept (with_byte (guarded layout m) ((a + i) % 65536) (x % 256)) bytes (λ mem q. byte_kept (guarded layout m) mem ((a + i) % 65536) (x % 256) (guarded_kept m k) q) e

-- ---- acts

module _ (p : Program) (story : List ℕ) (globals : p.world.layout.globals ≡ 64) (high : 600 ≤ p.world.layout.base) where
  abbrev KeptAt : State → Type 0
  KeptAt s = IsKept p.world.layout.base story s.memory

  put_kept : (v x : ℕ) (s s1 : State) → KeptAt s → put p v x s ≡ Some s1 → KeptAt s1
  unfolding put with_local
  put_kept v x s s1 k e = by_tests (v == 0) (nat_lt v 16) (nat_lt (v - 1) (length s.locals)) (nat_lt v 256) refl e
    where
      global_kept : v < 256 → KeptAt (in_global p s v x)
      global_kept lt =
          let first = slice_set s.memory (global_at p.world.layout v) (x / 256) in
          set_kept p.world.layout story high first (global_at p.world.layout v + 1) (x % 256) (set_kept p.world.layout story high s.memory (global_at p.world.layout v) (x / 256) k (omega arith)) (omega arith)

      by_tests : (z l r g : Bool) → nat_lt v 256 ≡ g → (if z then None else if l then (if r then Some (in_local s v x) else None) else if g then Some (in_global p s v x) else None) ≡ Some s1 → KeptAt s1
      by_tests true l r g lt h = absurd (cc)
      by_tests false true true g lt h = subst KeptAt (same_Some (in_local s v x) s1 h) k
      by_tests false true false g lt h = absurd (cc)
      by_tests false false r true lt h = subst KeptAt (same_Some (in_global p s v x) s1 h) (global_kept (ltb-true v 256 lt))
      by_tests false false r false lt h = absurd (cc)

  put_if_kept : (v : Option ℕ) (x : ℕ) (s s1 : State) → KeptAt s → put_if p v x s ≡ Some s1 → KeptAt s1
  put_if_kept None x s s1 k e = subst KeptAt (same_Some s s1 e) k
  put_if_kept (Some v) x s s1 k e = put_kept v x s s1 k e

  drawn_kept : (v r : ℕ) (s s1 : State) → KeptAt s → Drew p v r s s1 → KeptAt s1
  drawn_kept v r s s1 k (nothing_drawn q h) = put_kept v 0 s s1 k h
  drawn_kept v r s s1 k (one_drawn after q h same) = subst KeptAt same (put_kept v (1 + word_at p.world s.drawn % r) s after k h)

  act_kept : (act : Act) (s s1 : State) → KeptAt s → does p act s ≡ Some s1 → KeptAt s1
  act_kept (acts.Copy v a) s s1 k e = let x = bound (value p s a) _ s1 e in put_kept v x.x s s1 k x.rest
  act_kept (acts.Compute v f a b) s s1 k e =
      let x = bound (value p s a) _ s1 e in
      let y = bound (value p s b) _ s1 x.rest in
      let z = bound (computed p.world.layout s.memory f x.x y.x) _ s1 y.rest in
      put_kept v z.x s s1 k z.rest
  act_kept (acts.Write w a b d) s s1 k e =
      let x = bound (value p s a) _ s1 e in
      let y = bound (value p s b) _ s1 x.rest in
      let z = bound (value p s d) _ s1 y.rest in
      let m = bound (memory_with p.world.layout s.memory w x.x y.x z.x) _ s1 z.rest in
      subst KeptAt (same_Some (record s { memory = m.x }) s1 m.rest) (written_kept p.world.layout story high s.memory m.x w x.x y.x z.x k m.is)
  act_kept (acts.Print d a) s s1 k e =
      let x = bound (value p s a) _ s1 e in
      let t = bound (print_output s.memory d x.x) _ s1 x.rest in
      subst KeptAt (same_Some (with_output s t.x) s1 t.rest) k
  act_kept (acts.Random v a) s s1 k e = let r = bound (value p s a) _ s1 e in drawn_kept v r.x s s1 k (drew p v r.x s s1 r.rest)
  act_kept (acts.Read v a) s s1 k e =
      let x = bound (value p s a) _ s1 e in
      let most = bound (readable p.world.layout s.memory x.x) _ s1 x.rest in
      let tried = bound (put p v 13 s) _ s1 most.rest in
      let t = took p v x.x most.x s s1 tried.rest in
      let line = line_kept p.world.layout story high (guarded p.world.layout s.memory) t.memory x.x (typed_line most.x (t.byte ∷ t.typed)) (guarded_kept p.world.layout story high s.memory k) t.line in
      put_kept v 13 (record s { memory = t.memory.bytes; typed = typed_left (t.byte ∷ t.typed) }) s1 line.kept t.stored
  act_kept act s s1 k e = absurd (cc)

  -- ---- runs

  pub runs_keep : {f w n : ℕ} {body more : List Act} {s s' : State} {o : ActsOutcome} → ActsRun p f w body more s o s' n → KeptAt s → KeptAt s'
  runs_keep rests k = k
  runs_keep (at_label r) k = runs_keep r k
  runs_keep (goes e r) k = runs_keep r k
  runs_keep (taken e e' r) k = runs_keep r k
  runs_keep (passed e r) k = runs_keep r k
  runs_keep (done {act = act} {s = s} {s1 = s1} e r) k = runs_keep r (act_kept act s s1 k e)
  runs_keep (calls {v = v} {y = y} {s = s} {s1 = s1} {s2 = s2} e1 e2 e3 lt le r e4 later) k = runs_keep later (put_if_kept v y (left_with s s1) s2 (runs_keep r k) e4)
  runs_keep (calls_last e1 e2 e3 lt le r) k = runs_keep r k
  runs_keep (ends_input e1 e2 e3 e4) k = k
  runs_keep (returns e) k = k
  runs_keep quits k = k
