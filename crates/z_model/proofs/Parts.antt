-- What is done by a part of a table is done by the whole.
use Rattle.std.proofs.Common.{◌≡◌, ℕ, zero, suc, ◌+◌, ◌/◌, ◌%◌, Bool, true, false, cond, eqb, ltb, List, [], ◌∷◌, Option, Some, None, Result, Ok, Err, refl, sym, ap, subst, ◌∙◌}
use Rattle.z_model.specs.declared.fault.ZFault.{ZFault}
use Rattle.z_model.specs.declared.fault.ZFault.TheVariants.{BadOpcode}
use Rattle.z_model.specs.declared.story.Layout.{Layout}
use Rattle.z_model.specs.declared.end.Effect.{Effect}
use Rattle.z_model.specs.declared.end.Effect.TheVariants.{Goes, PrintsCode, PrintsUnicode, PrintsNumber, PrintsText, PrintsLine, Draws, Reads, ReadsKey, Quits}
use Rattle.z_model.specs.declared.table.Kind.{Kind}
use Rattle.z_model.specs.declared.table.Kind.TheVariants as kinds
use Rattle.z_model.specs.declared.table.Row.{Row}
use Rattle.z_model.specs.declared.op.Found.{Found}
use Rattle.z_model.specs.Table.{Rows, row_at}
use Rattle.z_model.specs.Decode.{◌>>=◌, or_fault, byte_at, known, variable_row, body_at, long_at, short_at, variable_at, extended_at, op_at}
use Rattle.z_model.specs.Machine.{Machine}
use Rattle.z_model.specs.Step.{machine_step}
use Rattle.z_model.specs.Run.{ZGiven, ZState, Next, On, Ended, ZRun, go_on, next_by, effect_on, line_taken, key_taken, word_at, zstep, zrun}
use Rattle.z_model.specs.Parts.{IsPartOf, IsBroken, RunsStay}

-- An answer stays, unless it is a fault.
abbrev Stays : {A : Type 0} → Result A ZFault → Result A ZFault → Type 0
Stays (Ok x) r = r ≡ Ok x
Stays (Err fault) r = Unit {0}

stays_same : {A : Type 0} (r : Result A ZFault) → Stays r r
stays_same (Ok x) = refl
stays_same (Err fault) = tt

bind_stays : {A B : Type 0} (r r' : Result A ZFault) (f : A → Result B ZFault) → Stays r r' → Stays (r >>= f) (r' >>= f)
bind_stays (Ok x) r' f e = subst (λ (q : Result _ ZFault). Stays (f x) (q >>= f)) (sym e) (stays_same (f x))
bind_stays (Err fault) r' f h = tt

after_same : {A B : Type 0} (r : Result A ZFault) (f g : A → Result B ZFault) → ((x : A) → Stays (f x) (g x)) → Stays (r >>= f) (r >>= g)
after_same (Ok x) f g h = h x
after_same (Err fault) f g h = tt

cond_stays : {A : Type 0} (t : Bool) (a a' b b' : Result A ZFault) → Stays a a' → Stays b b' → Stays (cond t a b) (cond t a' b')
cond_stays true a a' b b' h k = h
cond_stays false a a' b b' h k = k

module _ (part rows : Rows) (within : IsPartOf part rows) where
  known_stays : (kind : Kind) (number : ℕ) → Stays (known part kind number) (known rows kind number)
  known_stays kind number = by_row (row_at part kind number) refl
    where
      by_row : (o : Option Row) → row_at part kind number ≡ o → Stays (or_fault BadOpcode o) (known rows kind number)
      by_row None e = tt
      by_row (Some row) e = ap (λ (o : Option Row). or_fault BadOpcode o) (within kind number row e)

  long_stays : (bytes : List ℕ) (at first : ℕ) → Stays (long_at part bytes at first) (long_at rows bytes at first)
  unfolding long_at
  long_stays bytes at first = bind_stays _ _ _ (known_stays kinds.Two (first % 32))

  short_stays : (bytes : List ℕ) (at first : ℕ) → Stays (short_at part bytes at first) (short_at rows bytes at first)
  unfolding short_at
  short_stays bytes at first = bind_stays _ _ _ (known_stays _ (first % 16))

  row_stays : (number : ℕ) → Stays (variable_row part number) (variable_row rows number)
  row_stays number = cond_stays (ltb number 32) _ _ _ _ (known_stays kinds.Two number) (known_stays kinds.Several _)

  variable_stays : (bytes : List ℕ) (at first : ℕ) → Stays (variable_at part bytes at first) (variable_at rows bytes at first)
  unfolding variable_at
  variable_stays bytes at first = bind_stays _ _ _ (row_stays (first % 64))

  extended_stays : (bytes : List ℕ) (at : ℕ) → Stays (extended_at part bytes at) (extended_at rows bytes at)
  unfolding extended_at
  extended_stays bytes at = after_same (byte_at bytes (at + 1)) _ _ (λ number. bind_stays _ _ _ (known_stays kinds.Extended number))

  op_stays : (bytes : List ℕ) (at : ℕ) → Stays (op_at part bytes at) (op_at rows bytes at)
  unfolding op_at
  op_stays bytes at = after_same (byte_at bytes at) _ _ (λ first.
      cond_stays (ltb first 128) _ _ _ _ (long_stays bytes at first) (
      cond_stays (eqb first 190) _ _ _ _ (extended_stays bytes at) (
      cond_stays (ltb first 192) _ _ _ _ (short_stays bytes at first) (variable_stays bytes at first))))

  step_stays : (layout : Layout) (word : ℕ) (m : Machine) → Stays (machine_step part layout word m) (machine_step rows layout word m)
  unfolding machine_step
  step_stays layout word m = bind_stays (op_at part m.memory m.pc) (op_at rows m.memory m.pc) _ (op_stays m.memory m.pc)

abbrev with_rows : ZGiven → Rows → ZGiven
with_rows w rows = record { rows = rows; layout = w.layout; dice = w.dice }

module _ (w : ZGiven) (rows : Rows) (within : IsPartOf w.rows rows) where
  line_same : (s : ZState) (m : Machine) (buffer most : ℕ) (store : Option ℕ) (typed : List ℕ) →
      line_taken (with_rows w rows) s m buffer most store typed ≡ line_taken w s m buffer most store typed
  line_same s m buffer most store [] = refl
  line_same s m buffer most store (byte ∷ typed) = refl

  key_same : (s : ZState) (m : Machine) (store : Option ℕ) (typed : List ℕ) → key_taken (with_rows w rows) s m store typed ≡ key_taken w s m store typed
  key_same s m store [] = refl
  key_same s m store (byte ∷ typed) = refl

  -- the outside's part is the same
  effect_same : (s : ZState) (effect : Effect) (m : Machine) → effect_on (with_rows w rows) s effect m ≡ effect_on w s effect m
  effect_same s Goes m = refl
  effect_same s (PrintsCode c) m = refl
  effect_same s (PrintsUnicode c) m = refl
  effect_same s (PrintsNumber x) m = refl
  effect_same s (PrintsText at) m = refl
  effect_same s (PrintsLine at) m = refl
  effect_same s Draws m = refl
  effect_same s (Reads buffer most store) m = line_same s m buffer most store s.typed
  effect_same s (ReadsKey store) m = key_same s m store s.typed
  effect_same s Quits m = refl

  next_same : (s : ZState) (r : Result (Effect × Machine) ZFault) → next_by (with_rows w rows) s r ≡ next_by w s r
  next_same s (Err fault) = refl
  next_same s (Ok am) = effect_same s am.0 am.1

  one : (s : ZState) (n : ℕ) → ((z : ZState) → (IsBroken (zrun w n z).end → ⊥) → zrun (with_rows w rows) n z ≡ zrun w n z) →
      (r : Result (Effect × Machine) ZFault) (r' : Result (Effect × Machine) ZFault) → Stays r r' →
      (IsBroken (go_on (zrun w n) (next_by w s r)).end → ⊥) → go_on (zrun (with_rows w rows) n) (next_by (with_rows w rows) s r') ≡ go_on (zrun w n) (next_by w s r)
  one s n more (Err fault) r' h whole = absurd (whole tt)
  one s n more (Ok am) r' e whole =
      ap (λ (q : Result (Effect × Machine) ZFault). go_on (zrun (with_rows w rows) n) (next_by (with_rows w rows) s q)) e
      ∙ ap (λ (next : Next). go_on (zrun (with_rows w rows) n) next) (next_same s (Ok am))
      ∙ by_next (next_by w s (Ok am)) whole
    where
      by_next : (next : Next) → (IsBroken (go_on (zrun w n) next).end → ⊥) → go_on (zrun (with_rows w rows) n) next ≡ go_on (zrun w n) next
      by_next (On z) whole = more z whole
      by_next (Ended halt z) whole = refl

  stay : (n : ℕ) (s : ZState) → (IsBroken (zrun w n s).end → ⊥) → zrun (with_rows w rows) n s ≡ zrun w n s
  unfolding zrun zstep
  stay zero s whole = refl
  stay (suc n) s whole = one s n (stay n) (machine_step w.rows w.layout (word_at w s.drawn) s.machine) (machine_step rows w.layout (word_at w s.drawn) s.machine) (step_stays w.rows rows within w.layout (word_at w s.drawn) s.machine) whole

pub runs_stay : (w : ZGiven) (s : ZState) → RunsStay w s
runs_stay w s = record { same = λ rows within n whole. stay w rows within n s whole }
