-- Where lines that were read can't go on, the next line is the first bad one.
use Rattle.std.proofs.Common.{◌≡◌, ℕ, suc, ◌+◌, ◌-◌, ◌≤◌, List, [], ◌∷◌, ◌++◌, length, Option, Some, None, refl, sym, ap, subst, ◌∙◌, arith, append_assoc}
use Rattle.std.specs.Prelude.{true}
use Rattle.std.specs.Option.{option_map}
use Rattle.std.proofs.lemmas.List.{append-nil}
use Rattle.z_list.specs.Listing.{Line, AreMarks, lines}
use Rattle.z_list.specs.Texts.{line_text, texts, story_line, first_length}
use Rattle.z_list.specs.Reads.{IsListing, BeginsListing, first_lines, Begin, IsBadAt}
use Rattle.z_list.specs.inside.Lines.{Where, Outside, IsOutside, Accepts}
use Rattle.z_list.specs.inside.Held.{bytes_of, bytes_in, HaveNumbers, AreFit}
use Rattle.z_list.specs.inside.Read.{first_clamped, IsStuck, IsNext, Stands}
use Rattle.z_list.proofs.Instructions.{Small, small_nil, small_append, asked}
use Rattle.z_list.proofs.Same.{lines_same}
use Rattle.z_list.proofs.Held.{bytes_append, numbers_append, lines_bytes, numbers_back}
use Rattle.z_list.proofs.Complete.{joins}
use Rattle.z_list.proofs.Sounds.{sound}
use Rattle.z_list.proofs.Written.{texts_append}
use Rattle.z_list.proofs.OneStory.{lined, follows, count_same}
use Rattle.z_list.proofs.GoesOn.{read_onward}
use Rattle.z_list.proofs.Clear.{story_is_line, line_is_line, next_line, next_lines, HasLine, first_one, lines_same_text, line_some}

pub fit_small : (ls : List Line) → AreFit ls → Small (bytes_of ls)
fit_small [] f = small_nil
fit_small (l ∷ ls) f = small_append (bytes_in l) (bytes_of ls) f.0.bytes (fit_small ls f.1)

fit_numbers : (ls : List Line) → AreFit ls → HaveNumbers ls
fit_numbers [] f = tt
fit_numbers (l ∷ ls) f = (f.0.numbers, fit_numbers ls f.1)

-- accepted lines with bytes and numbers of a story are a listing
pub accepted_listing : (count : ℕ) (ls : List Line) → count ≤ 524288 → Accepts first_clamped (Outside true) 0 count ls → Small (bytes_of ls) → HaveNumbers ls →
    IsListing (story_line count ++ texts ls) (bytes_of ls)
accepted_listing count ls few a small numbers =
    let s = sound first_clamped asked (Outside true) 0 count ls tt a in
    let ends : 0 + count ≡ length s.bytes = omega (arith, s.count) in
    let same_end : length s.bytes ≡ 0 + length s.bytes = omega arith in
    let are : AreMarks 0 (length s.bytes) s.marks = subst (λ (k : ℕ). AreMarks 0 k s.marks) ends s.are in
    let bytes : bytes_of ls ≡ s.bytes = ap bytes_of s.is ∙ lines_bytes first_clamped asked 0 (length s.bytes) s.bytes s.marks are in
    let size : count ≡ length (bytes_of ls) = sym s.count ∙ ap length (sym bytes) in
    record {
      marks = s.marks;
      fit = subst (λ (b : List ℕ). AreMarks 0 (length b) s.marks) (sym bytes) are;
      small = numbers_back first_clamped asked 0 s.bytes s.marks (subst (λ (k : ℕ). AreMarks 0 k s.marks) same_end are) (subst HaveNumbers s.is numbers);
      short = omega (arith, size, few);
      bytes = small;
      is = ap (λ (k : ℕ). story_line k ++ texts ls) size
          ∙ ap (λ (x : List Line). story_line (length (bytes_of ls)) ++ texts x)
          (s.is ∙ (lines_same 0 s.bytes s.marks (subst Small bytes small) ∙ ap (λ (b : List ℕ). lines first_length 0 b s.marks) (sym bytes)));
    }

begins : (count : ℕ) (text : List ℕ) (ls : List Line) (w : Where) (at left : ℕ) (rest : List ℕ) → Stands count text ls w at left rest → BeginsListing (story_line count ++ texts ls)
begins count text ls w at left rest s =
    let on = read_onward first_clamped asked count ls w at left s.comes in
    let small : Small (bytes_of (ls ++ on.more)) = subst Small (sym (bytes_append ls on.more)) (small_append (bytes_of ls) (bytes_of on.more) (fit_small ls s.fit) on.small) in
    record {
      behind = texts on.more;
      story = bytes_of (ls ++ on.more);
      is = subst (λ (t : List ℕ). IsListing t (bytes_of (ls ++ on.more))) (ap (λ (t : List ℕ). story_line count ++ t) (texts_append ls on.more) ∙ sym (append_assoc (story_line count) (texts ls) (texts on.more)))
          (accepted_listing count (ls ++ on.more) s.few (joins first_clamped asked (Outside true) 0 count ls on.more w at left s.comes on.accepted) small (numbers_append ls on.more (fit_numbers ls s.fit) on.numbers));
    }

front_lines : (count : ℕ) (text : List ℕ) (ls : List Line) (w : Where) (at left : ℕ) (rest : List ℕ) → Stands count text ls w at left rest → (n : ℕ) →
    first_lines (suc (length ls + n)) text ≡ option_map (λ x. story_line count ++ (texts ls ++ x)) (first_lines n rest)
front_lines count text ls w at left rest s n =
    ap (first_lines (suc (length ls + n))) s.is ∙ (next_line (story_line count) (texts ls ++ rest) (length ls + n) (story_is_line count s.few)
    ∙ (ap (option_map (λ x. story_line count ++ x)) (next_lines ls rest n s.fit) ∙ twice (first_lines n rest)))
  where
    twice : (o : Option (List ℕ)) → option_map (λ x. story_line count ++ x) (option_map (λ x. texts ls ++ x) o) ≡ option_map (λ x. story_line count ++ (texts ls ++ x)) o
    twice None = refl
    twice (Some x) = refl

-- no listing begins with a line that doesn't go on
no_more : (count : ℕ) (text : List ℕ) (ls : List Line) (w : Where) (at left : ℕ) (rest : List ℕ) → Stands count text ls w at left rest → IsStuck (IsNext w at left) rest →
    (line : List ℕ) → first_lines 1 rest ≡ Some line → BeginsListing (story_line count ++ (texts ls ++ line)) → ⊥
no_more count text ls w at left rest s stuck line there b =
    let l = lined ((story_line count ++ (texts ls ++ line)) ++ b.behind) b.story b.is in
    let both = count_same count (length b.story) ((texts ls ++ line) ++ b.behind) (texts l.all) s.few l.short (sym (append_assoc (story_line count) (texts ls ++ line) b.behind) ∙ l.is) in
    let accepted : Accepts first_clamped (Outside true) 0 count l.all = subst (λ (n : ℕ). Accepts first_clamped (Outside true) 0 n l.all) (sym both.0) l.accepted in
    let f = follows (Outside true) 0 count ls l.all w at left (line ++ b.behind) s.comes accepted s.fit l.fit (sym (append_assoc (texts ls) line b.behind) ∙ both.1) in
    by_more f.more f.accepted f.fit f.rest_is
  where
    has : HasLine rest line
    has = first_one rest line there

    by_more : (more : List Line) → Accepts first_clamped w at left more → AreFit more → line ++ b.behind ≡ texts more → ⊥
    by_more [] a f e = line_some line b.behind has.is_line e
    by_more (m ∷ ms) (v, k, n, g, a) f e =
        let same : line ≡ line_text m = lines_same_text line (line_text m) b.behind (texts ms) has.is_line (line_is_line m f.0) e in
        stuck m (record { state = v; place = k; bytes_left = n; goes = g; fit = f.0 }) has.rest (has.is ∙ ap (λ (t : List ℕ). t ++ has.rest) same)

no_listing : (count : ℕ) (text : List ℕ) (ls : List Line) (w : Where) (at left : ℕ) (rest : List ℕ) → Stands count text ls w at left rest → IsStuck (IsNext w at left) rest →
    (rest ≡ [] → IsOutside first_clamped w → left ≡ 0 → ⊥) → (story : List ℕ) → IsListing text story → ⊥
no_listing count text ls w at left rest s stuck open_end story h =
    let l = lined text story h in
    let both = count_same count (length story) (texts ls ++ rest) (texts l.all) s.few l.short (sym s.is ∙ l.is) in
    let accepted : Accepts first_clamped (Outside true) 0 count l.all = subst (λ (n : ℕ). Accepts first_clamped (Outside true) 0 n l.all) (sym both.0) l.accepted in
    let f = follows (Outside true) 0 count ls l.all w at left rest s.comes accepted s.fit l.fit both.1 in
    by_more f.more f.accepted f.fit f.rest_is
  where
    by_more : (more : List Line) → Accepts first_clamped w at left more → AreFit more → rest ≡ texts more → ⊥
    by_more [] a f e = open_end e a.0 a.1
    by_more (m ∷ ms) (v, k, n, g, a) f e = stuck m (record { state = v; place = k; bytes_left = n; goes = g; fit = f.0 }) (texts ms) e

pub stuck_is_bad : (count : ℕ) (text : List ℕ) (ls : List Line) (w : Where) (at left : ℕ) (rest : List ℕ) → Stands count text ls w at left rest → IsStuck (IsNext w at left) rest →
    (rest ≡ [] → IsOutside first_clamped w → left ≡ 0 → ⊥) → IsBadAt text (length ls + 2)
stuck_is_bad count text ls w at left rest s stuck open_end =
    let one : length ls + 2 - 1 ≡ suc (length ls + 0) = omega arith in
    let two : length ls + 2 ≡ suc (length ls + 1) = omega arith in
    record {
      some = omega arith;
      before = subst Begin (sym (ap (λ (k : ℕ). first_lines k text) one ∙ front_lines count text ls w at left rest s 0))
          (subst (λ (t : List ℕ). BeginsListing (story_line count ++ t)) (sym (append-nil (texts ls))) (begins count text ls w at left rest s));
      bad = λ b. by_line (first_lines 1 rest) refl
          (subst Begin (ap (λ (k : ℕ). first_lines k text) two ∙ front_lines count text ls w at left rest s 1) b);
      none = no_listing count text ls w at left rest s stuck open_end;
    }
  where
    by_line : (o : Option (List ℕ)) → first_lines 1 rest ≡ o → Begin (option_map (λ x. story_line count ++ (texts ls ++ x)) o) → ⊥
    by_line None e b = b
    by_line (Some line) e b = no_more count text ls w at left rest s stuck line e b

pub whole_is_listing : (count : ℕ) (text : List ℕ) (ls : List Line) (w : Where) (at : ℕ) → Stands count text ls w at 0 [] → IsOutside first_clamped w → IsListing text (bytes_of ls)
whole_is_listing count text ls w at s outside =
    let a : Accepts first_clamped (Outside true) 0 count ls = subst (λ (x : List Line). Accepts first_clamped (Outside true) 0 count x) (append-nil ls) (joins first_clamped asked (Outside true) 0 count ls [] w at 0 s.comes (outside, refl)) in
    subst (λ (t : List ℕ). IsListing t (bytes_of ls)) (ap (λ (t : List ℕ). story_line count ++ t) (sym (append-nil (texts ls))) ∙ sym s.is) (accepted_listing count ls s.few a (fit_small ls s.fit) (fit_numbers ls s.fit))
