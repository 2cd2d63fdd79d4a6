use Rattle.std.proofs.Common.{◌≡◌, ◌+◌, ◌<◌, ℕ, suc, true, false, List, [], ◌∷◌, ◌++◌, length, refl, sym, ap, ◌∙◌, subst, arith}
use Rattle.z_code.specs.Open.{Counts}
use Rattle.z_lang.specs.declared.act.Act.{Act}
use Rattle.z_lang.specs.declared.act.Routine.{Routine}
use Rattle.z_lang.specs.Code.{ops_of_acts}
use Rattle.z_lang.specs.Bodies.{AreFit}
use Rattle.z_lang.specs.Sizes.{body_bytes}
use Rattle.z_asm.specs.declared.image.Table.{Table}
use Rattle.z_story.specs.declared.building.Parts.{Parts}
use Rattle.z_story.specs.Parts.{IsRoutine, AreRoutines, AreParts}
use Rattle.dg_rt.specs.Fits.{IsFit, AllFit, RuntimeFits}
use Rattle.dg_rt.specs.RunTime.{runtime}
use Rattle.dialog_tests.proofs.routines.parts_of.Goals as goal

abbrev counts : Counts
counts = record { routines = 138; tables = 2; texts = 0 }

is_fit : (r : Routine) → IsFit counts r → IsRoutine counts r
is_fit r f = record { few = f.few; short = f.short; fit = f.fit }

all_fit : (rs : List Routine) → AllFit counts rs → AreRoutines counts rs
all_fit [] f = tt
all_fit (r ∷ rs) f = (is_fit r f.0, all_fit rs f.1)

with_last : (rs : List Routine) (last : Routine) → AreRoutines counts rs → IsRoutine counts last → AreRoutines counts (rs ++ (last ∷ []))
with_last [] last f g = (g, tt)
with_last (r ∷ rs) last f g = (f.0, with_last rs last f.1 g)

so_many : length runtime ≡ 136
so_many = refl

one_more : (n m : ℕ) → n ≡ m + 1 → suc n ≡ suc m + 1
one_more n m e = omega arith

length_with : (rs : List Routine) (last : Routine) → length (rs ++ (last ∷ [])) ≡ length rs + 1
length_with [] last = refl
length_with (r ∷ rs) last = one_more (length (rs ++ (last ∷ []))) (length rs) (length_with rs last)

all_counted : (n m : ℕ) → n ≡ m + 1 → m ≡ 136 → suc n ≡ 138
all_counted n m e k = omega arith

is_routine : (r : Routine) (body : List Act) → r ≡ record { locals = 0; body = body } → AreFit counts (ops_of_acts body) body → body_bytes body < 8000 → IsRoutine counts r
is_routine r body e fit short = subst (λ (x : Routine). IsRoutine counts x) (sym e) (record { few = omega arith; short = λ l has. short; fit = fit })

are_parts : RuntimeFits → (p : Parts) (t u : Table) (a b : Routine) → p.tables ≡ t ∷ u ∷ [] → p.strings ≡ [] → p.routines ≡ a ∷ (runtime ++ (b ∷ [])) → IsRoutine counts a → IsRoutine counts b → AreParts p
are_parts fits p t u a b et es er fa fb =
    let many : length (a ∷ (runtime ++ (b ∷ []))) ≡ 138 = all_counted (length (runtime ++ (b ∷ []))) (length runtime) (length_with runtime b) so_many in
    let all : AreRoutines counts (a ∷ (runtime ++ (b ∷ []))) = (fa, with_last runtime b (all_fit runtime (fits counts (let many = so_many in omega arith) (omega arith))) fb) in
    let base : AreParts (record { tables = t ∷ u ∷ []; strings = []; routines = a ∷ (runtime ++ (b ∷ [])) }) =
    record { some = omega arith; routines = subst (λ (n : ℕ). AreRoutines (record { routines = n; tables = 2; texts = 0 }) (a ∷ (runtime ++ (b ∷ [])))) (sym many) all; texts = tt } in
    subst (λ (ts : List Table). AreParts (record { tables = ts; strings = p.strings; routines = p.routines })) (sym et)
    (subst (λ (ss : List (List ℕ)). AreParts (record { tables = t ∷ u ∷ []; strings = ss; routines = p.routines })) (sym es)
    (subst (λ (rs : List Routine). AreParts (record { tables = t ∷ u ∷ []; strings = []; routines = rs })) (sym er) base))

pub returns : goal.returns
returns c =
    let table : Table = record { bytes = c.from_vec.result; writable = true } in
    let a : Routine = c.in_ok-routine_of.field-0 in
    let b : Routine = c.in_ok-routine_of-2.field-0 in
    let other : Table = record { bytes = c.new-words.result; writable = false } in
    let et : c.push-2.new.self ≡ table ∷ other ∷ [] = c.in_ok-push-2.ensures.ok ∙ ap (λ (xs : List Table). xs ++ (other ∷ [])) (c.in_ok-push.ensures.ok ∙ ap (λ (xs : List Table). xs ++ (table ∷ [])) c.new-tables.ensures) in
    let er : c.push-4.new.self ≡ a ∷ (runtime ++ (b ∷ [])) =
    c.in_ok-push-4.ensures.ok ∙ ap (λ (xs : List Routine). xs ++ (b ∷ [])) (c.in_ok-append.ensures ∙ (ap (λ (xs : List Routine). xs ++ c.in_ok-runtime.field-0) (c.in_ok-push-3.ensures.ok
    ∙ ap (λ (xs : List Routine). xs ++ (a ∷ [])) c.new-routines.ensures) ∙ ap (λ (xs : List Routine). (a ∷ []) ++ xs) c.in_ok-runtime.ensures)) in
    are_parts c.runtime_fits.ensures (record { tables = c.push-2.new.self; strings = c.new-strings.result; routines = c.push-4.new.self }) table other a b et c.new-strings.ensures er
    (is_routine a c.args.main.now c.in_ok-routine_of.ensures c.requires.main c.requires.main_short)
    (is_routine b c.args.next.now c.in_ok-routine_of-2.ensures c.requires.next c.requires.next_short)
