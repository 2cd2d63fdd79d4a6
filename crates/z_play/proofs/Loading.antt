-- A story without the bytes behind its length is the same story.
use Rattle.std.proofs.Common.{◌≡◌, ◌<◌, ◌≤◌, ◌+◌, ◌*◌, ◌%◌, ℕ, List, [], length, take, drop, Bool, true, false, cond, not, eqb, ltb, Option, Some, None, refl, sym, ◌∙◌, ap, subst, arith}
use Rattle.std.specs.Prelude.{slice_index, sum, ◌==◌}
use Rattle.std.proofs.lemmas.List.{get_or-take, take-take, length-take-le}
use Rattle.std.proofs.lemmas.Bool.{ltb-false, or_parts}
use Rattle.z_model.specs.declared.story.StoryRefusal.{StoryRefusal}
use Rattle.z_model.specs.declared.story.Layout.{Layout}
use Rattle.z_model.specs.declared.story.Header.{Header}
use Rattle.z_model.specs.Run.{ZState}
use Rattle.z_model.specs.Story.{header_word, first_address, globals_of, static_base, length_of, memory_of, layout_of, first_machine, story_refusal, has_bad_length, has_bad_map, IsHeader}
use Rattle.z_play.specs.inside.Scene.{given_by}
use Rattle.z_play.specs.Ready.{IsStory, IsLoaded}

-- ---- what isn't refused

record Bounds (file : List ℕ) : Type 0 where
  most : length file ≤ 524288
  header : 64 ≤ length_of file
  within : length_of file ≤ length file
  from : 64 ≤ globals_of file
  globals : globals_of file + 480 ≤ static_base file
  base : static_base file ≤ length_of file

not_refused : (t : Bool) (refusal : StoryRefusal) (rest : Option StoryRefusal) → cond t (Some refusal) rest ≡ None → (t ≡ false) × (rest ≡ None)
not_refused true refusal rest e = absurd cc
not_refused false refusal rest e = (refl, e)

bounds : (file : List ℕ) → story_refusal file ≡ None → Bounds file
unfolding story_refusal
bounds file e =
    let a = not_refused (ltb 524288 (length file)) _ _ e in
    let b = not_refused (ltb (length file) 64) _ _ a.1 in
    let c = not_refused (not (slice_index file 0 == 8)) _ _ b.1 in
    let d = not_refused (has_bad_length file) _ _ c.1 in
    let f = not_refused (has_bad_map file) _ _ d.1 in
    let l = or_parts (ltb (length_of file) 64) (ltb (length file) (length_of file)) d.0 in
    let m = or_parts (ltb (globals_of file) 64) _ f.0 in
    let n = or_parts (ltb (static_base file) (globals_of file + 480)) _ m.1 in
    let o = or_parts (ltb (length_of file) (static_base file)) _ n.1 in
    record {
      most = ltb-false 524288 (length file) a.0;
      header = ltb-false (length_of file) 64 l.0;
      within = ltb-false (length file) (length_of file) l.1;
      from = ltb-false (globals_of file) 64 m.0;
      globals = ltb-false (static_base file) (globals_of file + 480) n.0;
      base = ltb-false (length_of file) (static_base file) o.0;
    }

-- ---- the bytes up to the length

word_same : (file : List ℕ) (at : ℕ) → Bounds file → at + 1 < 64 → header_word (memory_of file) at ≡ header_word file at
word_same file at b h =
    let high : at < length_of file = omega (arith, b.header) in
    let low : at + 1 < length_of file = omega (arith, b.header) in
    rw (get_or-take (length_of file) file at 0 high, get_or-take (length_of file) file (at + 1) 0 low) refl

long : (file : List ℕ) → Bounds file → length (memory_of file) ≡ length_of file
long file b = length-take-le (length_of file) file b.within

pick : (t : Bool) (x y z : ℕ) → x ≡ cond t y z → cond t x z ≡ cond t y z
pick true x y z e = e
pick false x y z e = refl

length_same : (file : List ℕ) → Bounds file → length_of (memory_of file) ≡ length_of file
length_same file b = ap (λ (w : ℕ). cond (eqb w 0) (length (memory_of file)) (8 * w)) (word_same file 26 b (omega arith)) ∙ pick (eqb (header_word file 26) 0) (length (memory_of file)) (length file) (8 * header_word file 26) (long file b)

whole : (file : List ℕ) → Bounds file → memory_of (memory_of file) ≡ memory_of file
whole file b = ap (λ (n : ℕ). take n (memory_of file)) (length_same file b) ∙ take-take (length_of file) (length_of file) file (omega arith)

layout_from : ℕ → ℕ → ℕ → List ℕ → Layout
layout_from globals base sum_is memory = record { globals = globals; base = base; checksum_right = sum (drop 64 memory) % 65536 == sum_is }

layout_same : (file : List ℕ) → Bounds file → layout_of (memory_of file) ≡ layout_of file
unfolding layout_from
layout_same file b =
    let story : List ℕ = memory_of file in
    ap (λ (x : ℕ). layout_from x (header_word story 14) (header_word story 28) (memory_of story)) (word_same file 12 b (omega arith))
    ∙ ap (λ (x : ℕ). layout_from (header_word file 12) x (header_word story 28) (memory_of story)) (word_same file 14 b (omega arith))
    ∙ ap (λ (x : ℕ). layout_from (header_word file 12) (header_word file 14) x (memory_of story)) (word_same file 28 b (omega arith))
    ∙ ap (λ (m : List ℕ). layout_from (header_word file 12) (header_word file 14) (header_word file 28) m) (whole file b)

start_same : (file : List ℕ) → Bounds file → first_address (memory_of file) ≡ first_address file
start_same file b = word_same file 6 b (omega arith)

-- ---- a loaded story

pub story_of : (file : List ℕ) (h : Header) → IsHeader file h → IsStory (memory_of file) h.start h.layout
story_of file h is =
    let b = bounds file is.accepted in
    let base : h.layout.base ≡ static_base file = ap (λ (l : Layout). l.base) is.layout in
    let globals : h.layout.globals ≡ globals_of file = ap (λ (l : Layout). l.globals) is.layout in
    let n = long file b in
    record {
      whole = whole file b;
      layout_is = is.layout ∙ sym (layout_same file b);
      start_is = is.start ∙ sym (start_same file b);
      size = subst (λ (k : ℕ). k ≤ 524288) (sym n) (omega (arith, b.within, b.most));
      base = subst (λ (k : ℕ). h.layout.base ≤ k) (sym n) (subst (λ (k : ℕ). k ≤ length_of file) (sym base) b.base);
      from = subst (λ (k : ℕ). 64 ≤ k) (sym globals) b.from;
      globals = subst (λ (k : ℕ). k + 480 ≤ h.layout.base) (sym globals) (subst (λ (k : ℕ). globals_of file + 480 ≤ k) (sym base) b.globals);
    }

from_start : List ℕ → List ℕ → ℕ → ZState
from_start typed memory start = record { machine = first_machine memory start; typed = typed; drawn = 0; output = [] }

pub loaded_of : (file : List ℕ) (h : Header) → IsHeader file h → IsLoaded file (memory_of file)
unfolding from_start
loaded_of file h is =
    let b = bounds file is.accepted in
    record {
      accepted = is.accepted;
      is = refl;
      given = λ dice. ap (λ (l : Layout). given_by l dice) (layout_same file b);
      start = λ typed. ap (λ (m : List ℕ). from_start typed m (first_address (memory_of file))) (whole file b) ∙ ap (λ (s : ℕ). from_start typed (memory_of file) s) (start_same file b);
    }
