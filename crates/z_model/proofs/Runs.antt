-- Runs in pieces, and what they print.
use Rattle.std.proofs.Common.{◌≡◌, ℕ, zero, suc, ◌+◌, List, [], ◌∷◌, ◌++◌, Option, Result, Ok, Err, refl, sym, ap, ◌∙◌, arith, append_assoc}
use Rattle.std.proofs.lemmas.List.{append-nil}
use Rattle.dg_base.specs.Begins.{Begins}
use Rattle.z_model.specs.declared.fault.ZFault.{ZFault}
use Rattle.z_model.specs.declared.end.Halt.{Halt}
use Rattle.z_model.specs.declared.end.Halt.TheVariants.{AtQuit, AtInput, AtFault}
use Rattle.z_model.specs.declared.end.Effect.{Effect}
use Rattle.z_model.specs.declared.end.Effect.TheVariants.{Goes, PrintsCode, PrintsUnicode, PrintsNumber, PrintsText, PrintsLine, Draws, Reads, ReadsKey, Quits}
use Rattle.z_model.specs.Machine.{Machine, stored_if}
use Rattle.z_model.specs.Numbers.{signed_16}
use Rattle.z_model.specs.Flow.{returned}
use Rattle.z_model.specs.Step.{machine_step}
use Rattle.z_model.specs.Run.{ZState, ZGiven, Next, On, Ended, halt_ending, ZRun, go_on, zstep, zrun, next_by, after_output, effect_on, on_unless, line_taken, line_read, key_taken, key_code, word_at}
use Rattle.z_model.specs.Typed.{typed_line, typed_left}
use Rattle.z_model.specs.Text.{string_at, text_bytes}
use Rattle.z_model.specs.Zscii.{code_utf8}
use Rattle.std.specs.Prelude.{encode_utf8}
use Rattle.std.specs.Fmt.{signed_decimal}
use Rattle.z_model.specs.Laws.{then_more, RunLaws}

halted : (more : ZState → ZRun) (halt : Halt) (s : ZState) → then_more more (record { end = halt_ending halt; state = s }) ≡ record { end = halt_ending halt; state = s }
halted more AtQuit s = refl
halted more AtInput s = refl
halted more (AtFault fault at) s = refl

sum_next : (w : ZGiven) (k j : ℕ) → ((s : ZState) → zrun w (k + j) s ≡ then_more (zrun w j) (zrun w k s)) → (next : Next) → go_on (zrun w (k + j)) next ≡ then_more (zrun w j) (go_on (zrun w k) next)
sum_next w k j same (On s) = same s
sum_next w k j same (Ended halt s) = sym (halted (zrun w j) halt s)

sum_law : (w : ZGiven) (k j : ℕ) (s : ZState) → zrun w (k + j) s ≡ then_more (zrun w j) (zrun w k s)
unfolding zrun
sum_law w zero j s = let e : zero + j ≡ j = omega arith in ap (λ (n : ℕ). zrun w n s) e
sum_law w (suc k) j s =
    let e : suc k + j ≡ suc (k + j) = omega arith in
    ap (λ (n : ℕ). zrun w n s) e ∙ sum_next w k j (λ s'. sum_law w k j s') (zstep w s)

-- ---- the output

same_begins : (xs : List ℕ) → Begins xs xs
same_begins xs = record { behind = []; is = sym (append-nil xs) }

begins_then : (xs ys zs : List ℕ) → Begins xs ys → Begins ys zs → Begins xs zs
begins_then xs ys zs p q = record { behind = p.behind ++ q.behind; is = q.is ∙ ap (λ (l : List ℕ). l ++ q.behind) p.is ∙ append_assoc xs p.behind q.behind }

abbrev state_of : Next → ZState
state_of (On s) = s
state_of (Ended halt s) = s

unless_grows : (s after : ZState) (r : Result Machine ZFault) → Begins s.output after.output → Begins s.output (state_of (on_unless s after r)).output
unless_grows s after (Ok m) more = more
unless_grows s after (Err fault) more = same_begins s.output

line_grows : (w : ZGiven) (s : ZState) (m : Machine) (buffer most : ℕ) (store : Option ℕ) (typed : List ℕ) → Begins s.output (state_of (line_taken w s m buffer most store typed)).output
line_grows w s m buffer most store [] = same_begins s.output
line_grows w s m buffer most store (byte ∷ typed) = unless_grows s (record s { typed = typed_left (byte ∷ typed) }) (line_read w.layout m buffer store (typed_line most (byte ∷ typed))) (same_begins s.output)

key_grows : (w : ZGiven) (s : ZState) (m : Machine) (store : Option ℕ) (typed : List ℕ) → Begins s.output (state_of (key_taken w s m store typed)).output
key_grows w s m store [] = same_begins s.output
key_grows w s m store (byte ∷ typed) = unless_grows s (record s { typed = typed }) (stored_if w.layout m store (key_code byte)) (same_begins s.output)

effect_grows : (w : ZGiven) (s : ZState) (effect : Effect) (m : Machine) → Begins s.output (state_of (effect_on w s effect m)).output
effect_grows w s Goes m = same_begins s.output
effect_grows w s (PrintsCode c) m = record { behind = code_utf8 c; is = refl }
effect_grows w s (PrintsUnicode c) m = record { behind = encode_utf8 c; is = refl }
effect_grows w s (PrintsNumber x) m = record { behind = signed_decimal (signed_16 x); is = refl }
effect_grows w s (PrintsText at) m = record { behind = text_bytes (string_at m.memory at); is = refl }
effect_grows w s (PrintsLine at) m = unless_grows s (after_output s m (text_bytes (string_at m.memory at) ++ 10 ∷ [])) (returned w.layout m 1) (record { behind = text_bytes (string_at m.memory at) ++ 10 ∷ []; is = refl })
effect_grows w s Draws m = same_begins s.output
effect_grows w s (Reads buffer most store) m = line_grows w s m buffer most store s.typed
effect_grows w s (ReadsKey store) m = key_grows w s m store s.typed
effect_grows w s Quits m = same_begins s.output

step_grows : (w : ZGiven) (s : ZState) (r : Result (Effect × Machine) ZFault) → Begins s.output (state_of (next_by w s r)).output
step_grows w s (Ok am) = effect_grows w s am.0 am.1
step_grows w s (Err fault) = same_begins s.output

zstep_grows : (w : ZGiven) (s : ZState) → Begins s.output (state_of (zstep w s)).output
unfolding zstep
zstep_grows w s = step_grows w s (machine_step w.rows w.layout (word_at w s.drawn) s.machine)

run_grows : (w : ZGiven) (k : ℕ) (s : ZState) → Begins s.output (zrun w k s).state.output
unfolding zrun
run_grows w zero s = same_begins s.output
run_grows w (suc k) s = by_next (zstep w s) (zstep_grows w s) (λ s'. run_grows w k s')
  where
    by_next : (next : Next) → Begins s.output (state_of next).output → ((s' : ZState) → Begins s'.output (zrun w k s').state.output) → Begins s.output (go_on (zrun w k) next).state.output
    by_next (On s') first later = begins_then s.output s'.output (zrun w k s').state.output first (later s')
    by_next (Ended halt s') first later = first

pub run_laws : (w : ZGiven) (s : ZState) → RunLaws w s
run_laws w s = record { sum = λ k j. sum_law w k j s; grows = λ k. run_grows w k s }
