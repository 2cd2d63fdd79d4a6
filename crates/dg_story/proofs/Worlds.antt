-- What starts set, place by place, is what the facts at the start are.
use Rattle.std.proofs.Common.{◌≡◌, ℕ, zero, suc, ◌+◌, ◌/◌, ◌%◌, ◌*◌, List, [], ◌∷◌, ◌++◌, length, map, Option, Some, None, refl, ap, ◌∙◌, arith, length-append, Bool, true, false}
use Rattle.std.specs.Prelude.{All, nat_eq, is_some, if◌then◌else◌}
use Rattle.std.specs.List.{slice_get}
use Rattle.std.proofs.lemmas.Bool.{eq-eqb}
use Rattle.std.proofs.lemmas.List.Elements.{All-head, All-tail}
use Rattle.std.proofs.lemmas.List.Sums.{sum_by-cons}
use Rattle.dg_base.specs.declared.program.CoreProgram.{CoreProgram}
use Rattle.dg_base.specs.declared.program.Place.{Place}
use Rattle.dg_base.specs.declared.program.PlaceKind.{PlaceKind}
use Rattle.dg_base.specs.declared.program.PlaceKind.TheVariants.{Flag, ObjectFlag, ObjectVar, Parent, Global}
use Rattle.dg_base.specs.declared.program.Term.{Term, out-Term}
use Rattle.dg_base.specs.declared.program.Term.TheOpen as term
use Rattle.dg_base.specs.Sound.{IsSimple, IsStartOf, IsPlaceOf, IsSound}
use Rattle.dg_meaning.specs.Facts.{Fact, value_at, kept_at, start_value, starts_from, start_facts, no_program, kinds_of}
use Rattle.dg_meaning.specs.Values.{Value, value_of_leaf}
use Rattle.dg_rt.specs.Cells.{bit}
use Rattle.dg_rt.specs.Operands.{simple_word}
use Rattle.dg_turn.specs.Starts.{set_word, object_words, object_bytes, bytes_of_place, bytes_from}
use Rattle.dg_turn.specs.World.{place_bytes, all_bytes}
use Rattle.dg_turn.proofs.Starting.{IsNoPair, leaf_is, of_object, of_nothing, fact_of, starts_elsewhere, behind}
use Rattle.dg_turn.proofs.Starts.{flags_long}
use Rattle.dg_story.specs.Built.{word_bytes}
use Rattle.dg_story.specs.inside.World.{Starts, term_word, word_by, flag_by, words_by, flags_by, own_flags, world_flags, laid_own, laid_words}
use Rattle.dg_story.specs.Kept.{place_words_at, start_words_from}

-- ## One value

by_leaf : (x : term.Term-F Term) → IsSimple x → (simple_word (value_of_leaf no_program [] x) ≡ term_word x) × IsNoPair x
by_leaf (term.Num n) simple = (refl, tt)
by_leaf (term.Word n) simple = (refl, tt)
by_leaf (term.Object n) simple = (refl, tt)
by_leaf term.Nil simple = (refl, tt)
by_leaf (term.Var n) simple = absurd simple
by_leaf (term.Pair head tail) simple = absurd simple
by_leaf (term.Closure c) simple = absurd simple

start_word : (x : Term) → IsSimple (out-Term x) → simple_word (start_value x) ≡ term_word (out-Term x)
start_word x simple = let l = by_leaf (out-Term x) simple in ap simple_word (leaf_is x l.1) ∙ l.0

-- what the first of some starts that is of an object sets
abbrev pub set_by : Starts → ℕ → Option Value
set_by [] o = None
set_by (start ∷ starts) o = if nat_eq start.0 o then Some (start_value start.1) else set_by starts o

abbrev AreSimple : Starts → Type 0
AreSimple starts = All (λ (start : ℕ × Term). IsSimple (out-Term start.1)) starts

-- by whether the first start is of an object
first_word : (b : Bool) (x : Term) (s : Option Value) (w : ℕ) → IsSimple (out-Term x) → set_word s ≡ w → set_word (if b then Some (start_value x) else s) ≡ (if b then term_word (out-Term x) else w)
first_word true x s w simple e = start_word x simple
first_word false x s w simple e = e

word_is : (starts : Starts) (o : ℕ) → AreSimple starts → set_word (set_by starts o) ≡ word_by starts o
word_is [] o simple = refl
word_is (start ∷ starts) o simple =
    let q = λ (s : ℕ × Term). IsSimple (out-Term s.1) in
    first_word (nat_eq start.0 o) start.1 (set_by starts o) (word_by starts o) (All-head q start starts simple) (word_is starts o (All-tail q start starts simple))

first_flag : (b : Bool) (v : Value) (s : Option Value) (w : ℕ) → bit (is_some s) ≡ w → bit (is_some (if b then Some v else s)) ≡ (if b then 1 else w)
first_flag true v s w e = refl
first_flag false v s w e = e

flag_is : (starts : Starts) (o : ℕ) → bit (is_some (set_by starts o)) ≡ flag_by starts o
flag_is [] o = refl
flag_is (start ∷ starts) o = first_flag (nat_eq start.0 o) (start_value start.1) (set_by starts o) (flag_by starts o) (flag_is starts o)

-- ## A place

value_here : (p o : ℕ) (starts : Starts) (rest : List Fact) → value_at rest p o ≡ None → value_at (map (fact_of p) starts ++ rest) p o ≡ set_by starts o
value_here p o [] rest none = none
value_here p o (start ∷ starts) rest none =
    rw (eq-eqb p p refl) (ap (λ (s : Option Value). if nat_eq start.0 o then Some (start_value start.1) else s) (value_here p o starts rest none))

-- What is set at a place is what its own starts set.
pub set_at : (places : List Place) (n i : ℕ) (place : Place) → slice_get places i ≡ Some place → (o : ℕ) → value_at (starts_from n places) (n + i) o ≡ set_by place.start o
set_at [] n i place e o = absurd (cc)
set_at (pl ∷ pls) n zero place e o =
    let same : pl ≡ place = cc in
    let at : n + 0 ≡ n = omega arith in
    ap (λ (k : ℕ). value_at (starts_from n (pl ∷ pls)) k o) at ∙ value_here n o pl.start (starts_from (n + 1) pls) (behind pls (n + 1) n o (omega arith)) ∙ ap (λ (p : Place). set_by p.start o) same
set_at (pl ∷ pls) n (suc i) place e o =
    let at : n + suc i ≡ n + 1 + i = omega arith in
    starts_elsewhere n (n + suc i) o pl.start (starts_from (n + 1) pls) (λ (q : n ≡ n + suc i). (omega arith)) ∙ ap (λ (k : ℕ). value_at (starts_from (n + 1) pls) k o) at ∙ set_at pls (n + 1) i place e o

words_are : (facts : List Fact) (starts : Starts) (place o n : ℕ) → ((k : ℕ) → value_at facts place k ≡ set_by starts k) → AreSimple starts → object_words facts place o n ≡ words_by starts o n
words_are facts starts place o zero same simple = refl
words_are facts starts place o (suc n) same simple =
    ap (λ (w : ℕ). w ∷ object_words facts place (suc o) n) (ap set_word (same o) ∙ word_is starts o simple) ∙ ap (λ (l : List ℕ). word_by starts o ∷ l) (words_are facts starts place (suc o) n same simple)

flags_are : (facts : List Fact) (starts : Starts) (place o n : ℕ) → ((k : ℕ) → value_at facts place k ≡ set_by starts k) → object_bytes facts place o n ≡ flags_by starts o n
flags_are facts starts place o zero same = refl
flags_are facts starts place o (suc n) same =
    ap (λ (w : ℕ). w ∷ object_bytes facts place (suc o) n) (ap (λ (s : Option Value). bit (is_some s)) (same o) ∙ flag_is starts o) ∙ ap (λ (l : List ℕ). flag_by starts o ∷ l) (flags_are facts starts place (suc o) n same)

-- the starts of a place are simple, but for those of a global variable
abbrev SimpleBy : PlaceKind → Starts → Type 0
SimpleBy Flag starts = AreSimple starts
SimpleBy ObjectFlag starts = Unit {0}
SimpleBy ObjectVar starts = AreSimple starts
SimpleBy Parent starts = AreSimple starts
SimpleBy Global starts = Unit {0}

place_flags : (objects : ℕ) (facts : List Fact) (place : ℕ) (kind : PlaceKind) (starts : Starts) → ((k : ℕ) → value_at facts place k ≡ set_by starts k) → bytes_of_place objects facts place kind ≡ own_flags objects kind starts
place_flags objects facts place Flag starts same = refl
place_flags objects facts place ObjectFlag starts same = flags_are facts starts place 0 objects same
place_flags objects facts place ObjectVar starts same = refl
place_flags objects facts place Parent starts same = refl
place_flags objects facts place Global starts same = refl

all_simple : (program : CoreProgram) (kind : PlaceKind) → ((start : ℕ × Term) → IsStartOf program kind start → IsSimple (out-Term start.1)) → (starts : Starts) → All (IsStartOf program kind) starts → AreSimple starts
all_simple program kind simple starts all = λ k d lt. simple _ (all k d lt)

simple_by : (program : CoreProgram) (kind : PlaceKind) (starts : Starts) → All (IsStartOf program kind) starts → SimpleBy kind starts
simple_by program Flag starts all = all_simple program Flag (λ s h. of_nothing (out-Term s.1) h.fits.1) starts all
simple_by program ObjectFlag starts all = tt
simple_by program ObjectVar starts all = all_simple program ObjectVar (λ s h. h.fits.1) starts all
simple_by program Parent starts all = all_simple program Parent (λ s h. of_object (out-Term s.1) h.fits.1) starts all
simple_by program Global starts all = tt

-- ## All places

abbrev kinds : List Place → List PlaceKind
kinds places = map (λ (p : Place). p.kind) places

module _ (program : CoreProgram) (facts : List Fact) where
  abbrev n : ℕ
  n = length program.objects

  abbrev SetAt : ℕ → List Place → Type 0
  SetAt from places = (i : ℕ) (place : Place) → slice_get places i ≡ Some place → (o : ℕ) → value_at facts (from + i) o ≡ set_by place.start o

  set_first : (from : ℕ) (place : Place) (places : List Place) → SetAt from (place ∷ places) → (o : ℕ) → value_at facts from o ≡ set_by place.start o
  set_first from place places set o = let e : from ≡ from + 0 = omega arith in ap (λ (k : ℕ). value_at facts k o) e ∙ set 0 place refl o

  set_rest : (from : ℕ) (place : Place) (places : List Place) → SetAt from (place ∷ places) → SetAt (suc from) places
  set_rest from place places set i other e o = let q : suc from + i ≡ from + suc i = omega arith in ap (λ (k : ℕ). value_at facts k o) q ∙ set (suc i) other e o

  laid_is : (kept : List Fact) (j from : ℕ) (kind : PlaceKind) (starts : Starts) → ((k : ℕ) → value_at facts from k ≡ set_by starts k) → SimpleBy kind starts → place_words_at n facts kept j from kind ≡ laid_own n kept j from kind starts
  laid_is kept j from Flag starts same simple = words_are facts starts from 0 1 same simple
  laid_is kept j from ObjectFlag starts same simple = refl
  laid_is kept j from ObjectVar starts same simple = words_are facts starts from 0 n same simple
  laid_is kept j from Parent starts same simple = words_are facts starts from 0 n same simple
  laid_is kept j from Global starts same simple = refl

  all_laid_are : (kept : List Fact) (j from : ℕ) (places : List Place) → SetAt from places → All (IsPlaceOf program) places → start_words_from n facts kept j from (kinds places) ≡ laid_words n kept j from places
  all_laid_are kept j from [] set all = refl
  all_laid_are kept j from (place ∷ places) set all =
      let first = All-head (IsPlaceOf program) place places all in
      let next = j + kept_at kept from place.kind in
      ap (λ (l : List ℕ). l ++ start_words_from n facts kept next (suc from) (kinds places)) (laid_is kept j from place.kind place.start (set_first from place places set) (simple_by program place.kind place.start first.starts))
      ∙ ap (λ (l : List ℕ). laid_own n kept j from place.kind place.start ++ l) (all_laid_are kept next (suc from) places (set_rest from place places set) (All-tail (IsPlaceOf program) place places all))

  all_flags_are : (from : ℕ) (places : List Place) → SetAt from places → bytes_from n facts from (kinds places) ≡ world_flags n places
  all_flags_are from [] set = refl
  all_flags_are from (place ∷ places) set =
      ap (λ (l : List ℕ). l ++ bytes_from n facts (suc from) (kinds places)) (place_flags n facts from place.kind place.start (set_first from place places set))
      ∙ ap (λ (l : List ℕ). own_flags n place.kind place.start ++ l) (all_flags_are (suc from) places (set_rest from place places set))

-- The words and flags of the world are those of its places.
module _ (program : CoreProgram) (sound : IsSound program) where
  abbrev facts : List Fact
  facts = start_facts program.places

  set_here : SetAt program facts 0 program.places
  set_here i place e o = set_at program.places 0 i place e o

  pub laid_made : (kept : List Fact) (j : ℕ) → start_words_from (length program.objects) facts kept j 0 (kinds_of program) ≡ laid_words (length program.objects) kept j 0 program.places
  laid_made kept j = all_laid_are program facts kept j 0 program.places set_here sound.places

  pub flags_made : bytes_from (length program.objects) facts 0 (kinds_of program) ≡ world_flags (length program.objects) program.places
  flags_made = all_flags_are program facts 0 program.places set_here

-- ## Lengths

pub word_bytes_long : (ws : List ℕ) → length (word_bytes ws) ≡ 2 * length ws
word_bytes_long [] = refl
word_bytes_long (w ∷ ws) = omega (arith, word_bytes_long ws)

pub word_bytes_append : (xs ys : List ℕ) → word_bytes (xs ++ ys) ≡ word_bytes xs ++ word_bytes ys
word_bytes_append [] ys = refl
word_bytes_append (x ∷ xs) ys = ap (λ (l : List ℕ). x / 256 ∷ x % 256 ∷ l) (word_bytes_append xs ys)

module _ (n : ℕ) (facts : List Fact) where
  pub flags_all_long : (from : ℕ) (ks : List PlaceKind) → length (bytes_from n facts from ks) ≡ all_bytes n ks
  flags_all_long from [] = refl
  flags_all_long from (k ∷ ks) = omega (arith, length-append (bytes_of_place n facts from k) (bytes_from n facts (suc from) ks), flags_long n facts from k, flags_all_long (suc from) ks, sum_by-cons (place_bytes n) k ks)
