-- A text that is a listing is one of lines that are accepted; what it begins with was read so, and it has one story.
use Rattle.std.proofs.Common.{◌≡◌, ℕ, ◌+◌, ◌≤◌, List, [], ◌∷◌, ◌++◌, length, refl, sym, ap, subst, ◌∙◌, arith, append_assoc}
use Rattle.std.specs.Prelude.{true, codes, decimal}
use Rattle.std.proofs.lemmas.List.{append-nil, append_cancel_left}
use Rattle.z_list.specs.Listing.{Line, AreMarks, lines}
use Rattle.z_list.specs.Texts.{line_text, texts, story_line}
use Rattle.z_list.specs.Reads.{IsListing}
use Rattle.z_list.specs.inside.Lines.{Where, Outside, Goes, Accepts, Comes}
use Rattle.z_list.specs.inside.Held.{bytes_of, place_in, AreFit}
use Rattle.z_list.specs.inside.Read.{first_clamped}
use Rattle.z_list.proofs.Instructions.{Small, asked}
use Rattle.z_list.proofs.Same.{lines_same}
use Rattle.z_list.proofs.Held.{lines_bytes, lines_numbers}
use Rattle.z_list.proofs.Complete.{listed_read}
use Rattle.z_list.proofs.TextLemmas.{story_open, numbers_same, newline_no_digit, tails}
use Rattle.z_list.proofs.OneLine.{one_line, no_line}
use Rattle.z_list.proofs.Turns.{goes_place, goes_same, accepts_fit, accepts_comes}

-- the lines of a listing
pub record Lined (text story : List ℕ) : Type 0 where
  pub all : List Line
  pub accepted : Accepts first_clamped (Outside true) 0 (length story) all
  pub fit : AreFit all
  pub bytes : bytes_of all ≡ story
  pub short : length story ≤ 524288
  pub is : text ≡ story_line (length story) ++ texts all

pub lined : (text story : List ℕ) → IsListing text story → Lined text story
lined text story h =
    let ls : List Line = lines first_clamped 0 story h.marks in
    let size : length story ≡ 0 + length story = omega arith in
    let accepted : Accepts first_clamped (Outside true) 0 (length story) ls = listed_read first_clamped asked 0 story h.marks (subst (λ (k : ℕ). AreMarks 0 k h.marks) size h.fit) in
    let bytes : bytes_of ls ≡ story = lines_bytes first_clamped asked 0 (length story) story h.marks h.fit in
    record {
      all = ls;
      accepted = accepted;
      fit = accepts_fit first_clamped (Outside true) 0 (length story) ls accepted (omega (arith, h.short)) (subst Small (sym bytes) h.bytes) (lines_numbers first_clamped asked 0 story h.marks h.small);
      bytes = bytes;
      short = h.short;
      is = h.is ∙ ap (λ (l : List Line). story_line (length story) ++ texts l) (sym (lines_same 0 story h.marks h.bytes));
    }

-- what goes on behind lines that were read
pub record Follows (w : Where) (at left : ℕ) (ls all : List Line) (rest : List ℕ) : Type 0 where
  pub more : List Line
  pub all_are : all ≡ ls ++ more
  pub accepted : Accepts first_clamped w at left more
  pub fit : AreFit more
  pub rest_is : rest ≡ texts more

pub follows : (w : Where) (at left : ℕ) (ls all : List Line) (w' : Where) (at' left' : ℕ) (rest : List ℕ) → Comes first_clamped w at left ls w' at' left' → Accepts first_clamped w at left all →
    AreFit ls → AreFit all → texts ls ++ rest ≡ texts all → Follows w' at' left' ls all rest
follows w at left [] all w' at' left' rest c a hf ha e = record {
  more = all;
  all_are = refl;
  accepted = subst (λ (v : Where). Accepts first_clamped v at' left' all) c.0 (subst (λ (k : ℕ). Accepts first_clamped w k left' all) c.1 (subst (λ (n : ℕ). Accepts first_clamped w at n all) c.2 a));
  fit = ha;
  rest_is = e;
}
follows w at left (l ∷ ls) [] w' at' left' rest c a hf ha e = absurd (no_line l (texts ls ++ rest) (sym e ∙ append_assoc (line_text l) (texts ls) rest))
follows w at left (l ∷ ls) (m ∷ ms) w' at' left' rest (v, i, n, g, c) (u, j, k, h, a) hf ha e =
    let e' : line_text l ++ (texts ls ++ rest) ≡ line_text m ++ texts ms = sym (append_assoc (line_text l) (texts ls) rest) ∙ e in
    let place : place_in l ≡ place_in m = goes_place first_clamped w at left l v i n g ∙ sym (goes_place first_clamped w at left m u j k h) in
    let one : l ≡ m = one_line l m (texts ls ++ rest) (texts ms) place hf.0 ha.0 e' in
    let h' : Goes first_clamped w at left l u j k = subst (λ (x : Line). Goes first_clamped w at left x u j k) (sym one) h in
    let s = goes_same first_clamped w at left l u j k v i n h' g in
    let a' : Accepts first_clamped v i n ms = subst (λ (x : Where). Accepts first_clamped x i n ms) s.0 (subst (λ (x : ℕ). Accepts first_clamped u x n ms) s.1 (subst (λ (x : ℕ). Accepts first_clamped u j x ms) s.2 a)) in
    let rests : texts ls ++ rest ≡ texts ms = append_cancel_left (line_text l) (texts ls ++ rest) (texts ms) (e' ∙ ap (λ (x : Line). line_text x ++ texts ms) (sym one)) in
    let f = follows v i n ls ms w' at' left' rest c a' hf.1 ha.1 rests in
    record { more = f.more; all_are = ap (λ (x : Line). x ∷ ms) (sym one) ∙ ap (λ (x : List Line). l ∷ x) f.all_are; accepted = f.accepted; fit = f.fit; rest_is = f.rest_is }

pub count_same : (m n : ℕ) (r s : List ℕ) → m ≤ 524288 → n ≤ 524288 → story_line m ++ r ≡ story_line n ++ s → (m ≡ n) × (r ≡ s)
count_same m n r s hm hn e =
    let e' = append_cancel_left (codes "story ") (decimal m ++ 10 ∷ r) (decimal n ++ 10 ∷ s) (sym (story_open m r) ∙ (e ∙ story_open n s)) in
    let both = numbers_same m n 10 10 r s (omega (arith, hm)) (omega (arith, hn)) newline_no_digit newline_no_digit e' in
    (both.0, tails 10 10 r s both.1)

no_lines : (ls : List Line) → [] ≡ texts ls → ls ≡ []
no_lines [] e = refl
no_lines (l ∷ ls) e = absurd (no_line l (texts ls) e)

pub one_story : (text one other : List ℕ) → IsListing text one → IsListing text other → one ≡ other
one_story text one other h k =
    let a = lined text one h in
    let b = lined text other k in
    let both = count_same (length one) (length other) (texts a.all) (texts b.all) a.short b.short (sym a.is ∙ b.is) in
    let ended = accepts_comes first_clamped (Outside true) 0 (length one) a.all a.accepted in
    let accepted : Accepts first_clamped (Outside true) 0 (length one) b.all = subst (λ (n : ℕ). Accepts first_clamped (Outside true) 0 n b.all) (sym both.0) b.accepted in
    let f = follows (Outside true) 0 (length one) a.all b.all ended.end ended.place 0 [] ended.comes accepted a.fit b.fit (append-nil (texts a.all) ∙ both.1) in
    let same : b.all ≡ a.all = f.all_are ∙ (ap (λ (x : List Line). a.all ++ x) (no_lines f.more f.rest_is) ∙ append-nil a.all) in
    sym a.bytes ∙ (ap bytes_of (sym same) ∙ b.bytes)
