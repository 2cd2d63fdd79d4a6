-- What a call is in the arrays.
use Rattle.std.proofs.Common.{◌≡◌, ℕ, suc, ◌+◌, ◌-◌, ◌*◌, ◌<◌, ◌≤◌, true, ltb, List, [], ◌∷◌, ◌++◌, length, take, drop, reverse, set, Option, Ok, Err, refl, ap, subst, ◌∙◌, arith}
use Rattle.std.proofs.lemmas.List.{length-take, length-reverse, reverse-append, take_more_set, take_all}
use Rattle.std.proofs.Math.Seq.{take-append_seam, drop-append_seam, drop-length}
use Rattle.std.proofs.lemmas.Bool.{le-ltb, lt-ltb}
use Rattle.z_model.specs.declared.fault.ZFault.{ZFault}
use Rattle.z_model.specs.declared.fault.ZFault.TheVariants.{StackFull}
use Rattle.z_model.specs.declared.end.Args.{Args}
use Rattle.z_model.specs.Machine.{words}
use Rattle.z_model.specs.Flow.{frame_entered, local_count, locals_from}
use Rattle.z_play.specs.declared.engine.Called.{Called}
use Rattle.z_play.specs.declared.engine.Engine.{Engine}
use Rattle.z_play.specs.View.{callers_view, view_of, callers_of, stack_of, tables_of, machine, Nested, Sound}
use Rattle.z_play.proofs.Views.{view_words}

views_long : (fs : List Called) (stack : List ℕ) → length (callers_view fs stack) ≡ length fs
views_long [] stack = refl
views_long (f ∷ fs) stack = ap suc (views_long fs (take f.base stack))

pub callers_long : (e : Engine) → Sound e → length (machine e).callers ≡ e.depth
callers_long e sound = views_long (callers_of e) (take e.here.base (stack_of e)) ∙ omega (arith, length-reverse (take e.depth e.frames.items), length-take e.depth e.frames.items, sound.room, sound.depth)

words_are : (e : Engine) → Sound e → words (machine e) ≡ e.top
words_are e sound = omega (arith, view_words e.memory.bytes.items e.pc e.here (callers_of e) (stack_of e) (tables_of e) sound.nested (omega (arith, sound.here, length-take e.top e.stack.items, sound.words, sound.top)), length-take e.top e.stack.items, sound.words, sound.top)

module _ (e : Engine) (sound : Sound e) (end : ℕ) (store : Option ℕ) (a : Args) where
  pub too_deep : 8191 ≤ e.depth → frame_entered (machine e) end store a ≡ Err StackFull
  unfolding frame_entered
  too_deep full = rw (le-ltb (length (machine e).callers + 1) 8192 (omega (arith, callers_long e sound))) refl

  module _ (room : e.depth < 8191) where
    deep_enough : ltb (length (machine e).callers + 1) 8192 ≡ true
    deep_enough = lt-ltb (length (machine e).callers + 1) 8192 (omega (arith, callers_long e sound))

    frames_are : reverse (take (e.depth + 1) (set e.frames.items e.depth e.here)) ≡ e.here ∷ callers_of e
    frames_are = ap reverse (take_more_set e.frames.items e.depth e.here (omega (arith, sound.room))) ∙ reverse-append (take e.depth e.frames.items) (e.here ∷ [])

    pub frames_nested : Nested (reverse (take (e.depth + 1) (set e.frames.items e.depth e.here))) e.top
    frames_nested = rw frames_are (sound.here, sound.nested)

    pub bad_call : (fault : ZFault) → local_count e.memory.bytes.items (8 * a.first) ≡ Err fault → frame_entered (machine e) end store a ≡ Err fault
    unfolding frame_entered
    bad_call fault bad = rw (deep_enough, bad) refl

    pub too_many : (n : ℕ) → local_count e.memory.bytes.items (8 * a.first) ≡ Ok n → 65536 < e.top + n → frame_entered (machine e) end store a ≡ Err StackFull
    unfolding frame_entered
    too_many n good big = rw (deep_enough, good, lt-ltb 65536 (words (machine e) + n) (omega (arith, words_are e sound))) refl

    pub is_entered : (n : ℕ) → n ≤ 15 → local_count e.memory.bytes.items (8 * a.first) ≡ Ok n → e.top + n ≤ 65536 → (stack : List ℕ) → take (e.top + n) stack ≡ stack_of e ++ locals_from n a → frame_entered (machine e) end store a ≡ Ok (view_of e.memory.bytes.items (8 * a.first + 1) (record { back = end; store = store; args = a.count - 1; base = e.top; locals = n }) (reverse (take (e.depth + 1) (set e.frames.items e.depth e.here))) (take (e.top + n) stack) (tables_of e))
    unfolding frame_entered
    is_entered n few good fits stack is =
        let old : List ℕ = stack_of e in
        let new : List ℕ = locals_from n a in
        let long : length old ≡ e.top = omega (arith, length-take e.top e.stack.items, sound.words, sound.top) in
        let front : take e.top (old ++ new) ≡ old = subst (λ (k : ℕ). take k (old ++ new) ≡ old) long (take-append_seam old new) in
        let rest : drop e.top (old ++ new) ≡ new = subst (λ (k : ℕ). drop k (old ++ new) ≡ new) long (drop-append_seam old new) in
        let size : length new ≡ n = omega (arith, length-take n (a.second ∷ a.third ∷ a.fourth ∷ 0 ∷ 0 ∷ 0 ∷ 0 ∷ 0 ∷ 0 ∷ 0 ∷ 0 ∷ 0 ∷ 0 ∷ 0 ∷ 0 ∷ [])) in
        let all : take n new ≡ new = take_all n new (omega arith) in
        let none : drop n new ≡ [] = subst (λ (k : ℕ). drop k new ≡ []) size (drop-length new) in
        rw (deep_enough, good, le-ltb 65536 (words (machine e) + n) (omega (arith, words_are e sound)), is, front, rest, all, none, frames_are) refl
