-- Lists of words that are written from their end on.
use Rattle.std.proofs.Common.{◌≡◌, ℕ, zero, suc, ◌+◌, ◌-◌, ◌<◌, ◌≤◌, List, [], ◌∷◌, ◌++◌, Some, refl, sym, ap, ◌∙◌, subst, arith, length, append_assoc, append-nil}
use Rattle.std.specs.Prelude.{◌↔◌, map, take, drop, IsTrue, Ok, encode_utf8_all}
use Rattle.std.specs.List.{All}
use Rattle.std.proofs.Math.Seq.{drop-append_seam, take-append_seam, take-length}
use Rattle.std.proofs.Math.Utf8.{encode}
use Rattle.std.proofs.lemmas.List.{map-append, length-append}
use Rattle.std.proofs.lemmas.List.Elements.{All-nil, All-cons, All-pop}
use Rattle.std.proofs.lemmas.Str.{encodes-append}
use Rattle.dg_meaning.specs.Values.{Nil, Value, leaf, pair}
use Rattle.dg_meaning.specs.Copies.{copy_cells, list_of}
use Rattle.dg_meaning.specs.Words.{spellings_of, spelled_value, spelled_list, each_alone}
use Rattle.dg_unify.specs.Store.{State, Store, Kept, Charged, Made, HeapFull, Holds, told}
use Rattle.dg_unify.specs.declared.bindings.Ref.{Ref}
use Rattle.dg_unify.specs.declared.bindings.Full.{Full}
use Rattle.dg_unify.specs.declared.bindings.Full.TheVariants as full
use Rattle.dg_unify.proofs.StoreLemmas.{told_is, kept_told}
use Rattle.dg_words.specs.Letters.{AreSmall}
use Rattle.dg_words.specs.Cutting.{between, words_before, IsWord}
use Rattle.dg_words.proofs.CharLemmas.{is_within}
use Rattle.dg_words.proofs.WordLemmas.{words_again}
use Rattle.dg_terms.proofs.TermLemmas.{charged_on}
use Rattle.dg_texts.specs.Spelling.{IsShort, TooMany, MakesValue, MakesBefore}
use Rattle.dg_texts.proofs.SpellLemmas.{words_short}

-- ## Room

too_later : (m n k : ℕ) (s t : Store) → m + n ≤ k → Kept s t → Charged m s t → (e : Full) → TooMany n t e → TooMany k s e
too_later m n k s t le kept a full.Heap h =
    let same : t.state.heap ≡ s.state.heap + m = ap (λ (x : State). x.heap) a.state in
    omega (arith, h, kept.heap_limit, same, le)
too_later m n k s t le kept a full.Trail h = h
too_later m n k s t le kept a full.OutOfMemory h = subst IsTrue kept.grows h

too_more : (n k : ℕ) (s : Store) → n ≤ k → (e : Full) → TooMany n s e → TooMany k s e
too_more n k s le full.Heap h = omega (arith, h, le)
too_more n k s le full.Trail h = h
too_more n k s le full.OutOfMemory h = h

pub too_many : (n : ℕ) (s t : Store) (e : Full) → HeapFull n s t e → TooMany n s e
too_many n s t full.Heap h = h.0
too_many n s t full.Trail h = h
too_many n s t full.OutOfMemory h = h.0

-- ## One word in front of a list

pub before_made : (v : Value) (list value longer : Ref) (s t u : Store) → Kept s t → Holds s list → Made (copy_cells v) s t value v → Made 3 t u longer (pair (told t value) (told t list)) → MakesBefore v list s u (Ok longer)
before_made v list value longer s t u k hold a b = record {
  charged = charged_on (copy_cells v) 3 (copy_cells v + 3) s t u refl k a.charged b.charged;
  value = b.value ∙ ap (λ w. Some (pair w (told t list))) (told_is t value v a.value) ∙ ap (λ w. Some (pair v w)) (kept_told s t list k hold);
}

pub before_full : (v : Value) (s : Store) (e : Full) → TooMany (copy_cells v) s e → TooMany (copy_cells v + 3) s e
before_full v s e h = too_more (copy_cells v) (copy_cells v + 3) s (omega arith) e h

pub before_over : (v : Value) (value : Ref) (s t u : Store) → Kept s t → Made (copy_cells v) s t value v → (e : Full) → HeapFull 3 t u e → TooMany (copy_cells v + 3) s e
before_over v value s t u k a e h = too_later (copy_cells v) 3 (copy_cells v + 3) s t (omega arith) k a.charged e (too_many 3 t u e h)

-- ## Words in front of a list

cells_behind : (us vs : List Value) → copy_cells (list_of vs) ≤ copy_cells (list_of (us ++ vs))
cells_behind [] vs = omega arith
cells_behind (u ∷ us) vs = omega (arith, cells_behind us vs)

-- these words are left to be written in front of a list
pub record Writing (words all left : List (List ℕ)) (s t : Store) (list : Ref) : Type 0 where
  pub done : List (List ℕ)
  pub is : all ≡ left ++ done
  pub made : Made (copy_cells (spelled_list words done)) s t list (spelled_list words done)

pub writing_starts : (words all : List (List ℕ)) (s t : Store) (nil : Ref) → Made 0 s t nil (leaf Nil) → Writing words all all s t nil
writing_starts words all s t nil m = record { done = []; is = sym (append-nil all); made = m }

module _ (words all left : List (List ℕ)) (word : List ℕ) (rest : List (List ℕ)) (s t : Store) (list : Ref) (k : Kept s t) (w : Writing words all left s t list) (is : left ≡ rest ++ word ∷ []) where
  abbrev v_w : Value
  v_w = spelled_value words word

  whole : all ≡ rest ++ word ∷ w.done
  whole = w.is ∙ ap (λ l. l ++ w.done) is ∙ append_assoc rest (word ∷ []) w.done

  pub writing_goes : (u : Store) (longer : Ref) → Made (copy_cells v_w + 3) t u longer (pair v_w (told t list)) → Writing words all rest s u longer
  writing_goes u longer m =
      let l = spelled_list words w.done in
      record {
        done = word ∷ w.done;
        is = whole;
        made = record {
          charged = charged_on (copy_cells l) (copy_cells v_w + 3) (copy_cells (spelled_list words (word ∷ w.done))) s t u (omega arith) k w.made.charged m.charged;
          value = m.value ∙ ap (λ x. Some (pair v_w x)) (told_is t list l w.made.value);
        };
      }

  pub writing_full : (e : Full) → TooMany (copy_cells v_w + 3) t e → TooMany (copy_cells (spelled_list words all)) s e
  writing_full e h =
      let f = spelled_value words in
      let l = spelled_list words w.done in
      let same : spelled_list words all ≡ list_of (map f rest ++ f word ∷ map f w.done) = ap (spelled_list words) whole ∙ ap list_of (map-append f rest (word ∷ w.done)) in
      let few = cells_behind (map f rest) (f word ∷ map f w.done) in
      too_later (copy_cells l) (copy_cells v_w + 3) (copy_cells (spelled_list words all)) s t (omega (arith, ap copy_cells same, few)) k w.made.charged e h

pub writing_ends : (words all left : List (List ℕ)) (s t : Store) (list : Ref) → Writing words all left s t list → left ≡ [] → MakesValue (spelled_list words all) s t (Ok list)
writing_ends words all left s t list w none =
    let same : w.done ≡ all = sym (w.is ∙ ap (λ l. l ++ w.done) none) in
    subst (λ l. Made (copy_cells (spelled_list words l)) s t list (spelled_list words l)) same w.made

-- ## The words of a line

pub record LineWriting (words : List (List ℕ)) (letters line : List ℕ) (end : ℕ) (s t : Store) (list : Ref) : Type 0 where
  pub left : List (List ℕ)
  pub writing : Writing words (spellings_of letters) left s t list
  pub end_is : words_before line end ≡ map encode_utf8_all left
  pub short : All IsShort left

pub line_starts : (words : List (List ℕ)) (letters line : List ℕ) (s t : Store) (nil : Ref) → Made 0 s t nil (leaf Nil) → IsShort letters → line ≡ encode_utf8_all letters → LineWriting words letters line (length line) s t nil
line_starts words letters line s t nil m short is = record {
  left = spellings_of letters;
  writing = writing_starts words (spellings_of letters) s t nil m;
  end_is = ap spellings_of (take-length line ∙ is) ∙ words_again letters;
  short = words_short letters short;
}

-- a list that ends so
record EndsSo (left xs : List (List ℕ)) (y : List ℕ) : Type 0 where
  word : List ℕ
  rest : List (List ℕ)
  is : left ≡ rest ++ word ∷ []
  bytes : y ≡ encode_utf8_all word
  before : xs ≡ map encode_utf8_all rest

ends_first : (w : List ℕ) (ws : List (List ℕ)) (y : List ℕ) → encode_utf8_all w ∷ map encode_utf8_all ws ≡ y ∷ [] → EndsSo (w ∷ ws) [] y
ends_first w [] y e = record { word = w; rest = []; is = refl; bytes = sym (let same : encode_utf8_all w ≡ y = cc in same); before = refl }
ends_first w (v ∷ vs) y e = absurd (let same : encode_utf8_all v ∷ map encode_utf8_all vs ≡ [] = cc in cc)

ends_so : (left xs : List (List ℕ)) (y : List ℕ) → map encode_utf8_all left ≡ xs ++ y ∷ [] → EndsSo left xs y
ends_so [] [] y e = absurd (cc)
ends_so [] (x ∷ xs) y e = absurd (cc)
ends_so (w ∷ ws) [] y e = ends_first w ws y e
ends_so (w ∷ ws) (x ∷ xs) y e =
    let first : encode_utf8_all w ≡ x = cc in
    let behind : map encode_utf8_all ws ≡ xs ++ y ∷ [] = cc in
    let h = ends_so ws xs y behind in
    record { word = h.word; rest = w ∷ h.rest; is = ap (λ l. w ∷ l) h.is; bytes = h.bytes; before = ap (λ v. v ∷ xs) (sym first) ∙ ap (λ l. encode_utf8_all w ∷ l) h.before }

-- the last word of those that are left
pub record LastWord (line : List ℕ) (from to : ℕ) (left : List (List ℕ)) : Type 0 where
  pub word : List ℕ
  pub rest : List (List ℕ)
  pub is : left ≡ rest ++ word ∷ []
  pub bytes : between line from to ≡ encode_utf8_all word
  pub before : words_before line from ≡ map encode_utf8_all rest
  pub short : IsShort word
  pub others : All IsShort rest

module _ (words : List (List ℕ)) (letters line : List ℕ) (end : ℕ) (s t : Store) (list : Ref) (p : LineWriting words letters line end s t list) where
  pub word_here : (from to : ℕ) → IsWord line end from to → LastWord line from to p.left
  word_here from to w =
      let h = ends_so p.left (words_before line from) (between line from to) (sym p.end_is ∙ w.words) in
      let split = All-pop IsShort p.left h.rest (Some h.word) h.is p.short in
      record { word = h.word; rest = h.rest; is = h.is; bytes = h.bytes; before = h.before; short = split.1; others = split.0 }

  pub line_goes : (from to : ℕ) (u : Store) (longer : Ref) → Kept s t → (h : LastWord line from to p.left) → MakesBefore (spelled_value words h.word) list t u (Ok longer) → LineWriting words letters line from s u longer
  line_goes from to u longer k h m = record {
    left = h.rest;
    writing = writing_goes words (spellings_of letters) p.left h.word h.rest s t list k p.writing h.is u longer m;
    end_is = h.before;
    short = h.others;
  }

  pub line_full : (from to : ℕ) (e : Full) → Kept s t → (h : LastWord line from to p.left) → TooMany (copy_cells (spelled_value words h.word) + 3) t e → TooMany (copy_cells (spelled_list words (spellings_of letters))) s e
  line_full from to e k h m = writing_full words (spellings_of letters) p.left h.word h.rest s t list k p.writing h.is e m

  none_left : (left : List (List ℕ)) → map encode_utf8_all left ≡ [] → left ≡ []
  none_left [] e = refl
  none_left (w ∷ ws) e = absurd (cc)

  pub line_ends : words_before line end ≡ [] → MakesValue (spelled_list words (spellings_of letters)) s t (Ok list)
  line_ends none = writing_ends words (spellings_of letters) p.left s t list p.writing (none_left p.left (sym p.end_is ∙ none))

-- ## The letters of a spelling

pub record LetterWriting (words : List (List ℕ)) (letters : List ℕ) (end : ℕ) (s t : Store) (list : Ref) : Type 0 where
  pub before : List ℕ
  pub behind : List ℕ
  pub is : letters ≡ before ++ behind
  pub end_is : end ≡ length (encode_utf8_all before)
  pub writing : Writing words (each_alone letters) (each_alone before) s t list
  pub small : AreSmall before

pub letters_start : (words : List (List ℕ)) (letters spelling : List ℕ) (s t : Store) (nil : Ref) → Made 0 s t nil (leaf Nil) → AreSmall letters → spelling ≡ encode_utf8_all letters → LetterWriting words letters (length spelling) s t nil
letters_start words letters spelling s t nil m small is = record {
  before = letters;
  behind = [];
  is = sym (append-nil letters);
  end_is = ap length is;
  writing = writing_starts words (each_alone letters) s t nil m;
  small = small;
}

-- the last of letters
record LastOf (before : List ℕ) : Type 0 where
  letter : ℕ
  rest : List ℕ
  is : before ≡ rest ++ letter ∷ []

last_of : (c : ℕ) (cs : List ℕ) → LastOf (c ∷ cs)
last_of c [] = record { letter = c; rest = []; is = refl }
last_of c (d ∷ ds) = let h = last_of d ds in record { letter = h.letter; rest = c ∷ h.rest; is = ap (λ l. c ∷ l) h.is }

some_last : (before : List ℕ) (end : ℕ) → end ≡ length (encode_utf8_all before) → 0 < end → LastOf before
some_last [] end is some = absurd (omega (arith, is, some))
some_last (c ∷ cs) end is some = last_of c cs

-- the last letter of those that are left
pub record LastLetter (spelling before : List ℕ) (end : ℕ) : Type 0 where
  pub letter : ℕ
  pub rest : List ℕ
  pub is : before ≡ rest ++ letter ∷ []
  pub front : take end spelling ≡ encode_utf8_all rest ++ encode letter
  pub bytes : take (end - length (encode_utf8_all rest)) (drop (length (encode_utf8_all rest)) spelling) ≡ encode_utf8_all (letter ∷ [])
  pub fewer : length (encode_utf8_all rest) < end
  pub within : end ≤ length spelling

letter_at : (spelling letters behind rest : List ℕ) (c end : ℕ) → spelling ≡ encode_utf8_all letters → letters ≡ (rest ++ c ∷ []) ++ behind → end ≡ length (encode_utf8_all (rest ++ c ∷ [])) → LastLetter spelling (rest ++ c ∷ []) end
letter_at spelling letters behind rest c end spelled is end_is =
    let front = encode_utf8_all rest in
    let both : encode_utf8_all (rest ++ c ∷ []) ≡ front ++ encode c = encodes-append rest (c ∷ []) ∙ ap (λ l. front ++ l) (append-nil (encode c)) in
    let whole : spelling ≡ (front ++ encode c) ++ encode_utf8_all behind = spelled ∙ ap encode_utf8_all is ∙ encodes-append (rest ++ c ∷ []) behind ∙ ap (λ l. l ++ encode_utf8_all behind) both in
    let count : end ≡ length (front ++ encode c) = end_is ∙ ap length both in
    let long : end ≡ length front + length (encode c) = count ∙ length-append front (encode c) in
    let left : end - length front ≡ length (encode c) = omega (arith, long) in
    let there : spelling ≡ front ++ (encode c ++ encode_utf8_all behind) = whole ∙ append_assoc front (encode c) (encode_utf8_all behind) in
    let at : drop (length front) spelling ≡ encode c ++ encode_utf8_all behind = ap (drop (length front)) there ∙ drop-append_seam front (encode c ++ encode_utf8_all behind) in
    let some = is_within (front ++ (encode c ++ [])) rest [] c (length front) refl refl in
    record {
      letter = c;
      rest = rest;
      is = refl;
      front = ap (λ n. take n spelling) count ∙ ap (take (length (front ++ encode c))) whole ∙ take-append_seam (front ++ encode c) (encode_utf8_all behind);
      bytes = ap (λ n. take n (drop (length front) spelling)) left ∙ ap (take (length (encode c))) at ∙ take-append_seam (encode c) (encode_utf8_all behind) ∙ sym (append-nil (encode c));
      fewer = omega (arith, long, some, length-append front (encode c ++ []), ap length (append-nil (encode c)));
      within = omega (arith, count, ap length whole, length-append (front ++ encode c) (encode_utf8_all behind));
    }

-- it begins at a place
pub record AtLetter (spelling before : List ℕ) (from end : ℕ) : Type 0 where
  pub last : LastLetter spelling before end
  pub from_is : from ≡ length (encode_utf8_all last.rest)
  pub bytes : take (end - from) (drop from spelling) ≡ encode_utf8_all (last.letter ∷ [])
  pub fewer : from < end

some_end : {P : Type 0} (n : ℕ) → P ↔ (n ≡ 0) → (P → ⊥) → 0 < n
some_end zero h never = absurd (never (h.1 refl))
some_end (suc n) h never = omega arith

module _ (words : List (List ℕ)) (letters spelling : List ℕ) (end : ℕ) (s t : Store) (list : Ref) (p : LetterWriting words letters end s t list) where
  letter_here : spelling ≡ encode_utf8_all letters → 0 < end → LastLetter spelling p.before end
  letter_here spelled some =
      let h = some_last p.before end p.end_is some in
      subst (λ l. LastLetter spelling l end) (sym h.is) (letter_at spelling letters p.behind h.rest h.letter end spelled (p.is ∙ ap (λ l. l ++ p.behind) h.is) (p.end_is ∙ ap (λ l. length (encode_utf8_all l)) h.is))

  pub letter_found : {P : Type 0} (from : ℕ) → spelling ≡ encode_utf8_all letters → P ↔ (end ≡ 0) → (P → ⊥) → ((before : List ℕ) (c : ℕ) → take end spelling ≡ encode_utf8_all before ++ encode c → Some from ≡ Some (length (encode_utf8_all before))) → AtLetter spelling p.before from end
  letter_found from spelled none never start =
      let h = letter_here spelled (some_end end none never) in
      let same : Some from ≡ Some (length (encode_utf8_all h.rest)) = start h.rest h.letter h.front in
      let from_is : from ≡ length (encode_utf8_all h.rest) = cc in
      record { last = h; from_is = from_is; bytes = ap (λ n. take (end - n) (drop n spelling)) from_is ∙ h.bytes; fewer = omega (arith, from_is, h.fewer) }

  alone_is : (h : LastLetter spelling p.before end) → each_alone p.before ≡ each_alone h.rest ++ (h.letter ∷ []) ∷ []
  alone_is h = ap each_alone h.is ∙ map-append (λ c. c ∷ []) h.rest (h.letter ∷ [])

  small_here : (h : LastLetter spelling p.before end) → AreSmall h.rest × (h.letter < 65536)
  small_here h = All-pop (λ c. c < 65536) p.before h.rest (Some h.letter) h.is p.small

  pub short_here : (h : LastLetter spelling p.before end) → IsShort (h.letter ∷ [])
  short_here h = record { few = omega arith; small = All-cons (λ c. c < 65536) h.letter [] (small_here h).1 (All-nil (λ c. c < 65536)) }

  pub letters_go : (from : ℕ) (u : Store) (longer : Ref) → Kept s t → (h : LastLetter spelling p.before end) → from ≡ length (encode_utf8_all h.rest) → MakesBefore (spelled_value words (h.letter ∷ [])) list t u (Ok longer) → LetterWriting words letters from s u longer
  letters_go from u longer k h is m = record {
    before = h.rest;
    behind = h.letter ∷ p.behind;
    is = p.is ∙ ap (λ l. l ++ p.behind) h.is ∙ append_assoc h.rest (h.letter ∷ []) p.behind;
    end_is = is;
    writing = writing_goes words (each_alone letters) (each_alone p.before) (h.letter ∷ []) (each_alone h.rest) s t list k p.writing (alone_is h) u longer m;
    small = (small_here h).0;
  }

  pub letters_full : (e : Full) → Kept s t → (h : LastLetter spelling p.before end) → TooMany (copy_cells (spelled_value words (h.letter ∷ [])) + 3) t e → TooMany (copy_cells (spelled_list words (each_alone letters))) s e
  letters_full e k h m = writing_full words (each_alone letters) (each_alone p.before) (h.letter ∷ []) (each_alone h.rest) s t list k p.writing (alone_is h) e m

  no_letters : (before : List ℕ) → 0 ≡ length (encode_utf8_all before) → before ≡ []
  no_letters [] e = refl
  no_letters (c ∷ cs) e = let some = is_within (encode c ++ encode_utf8_all cs) [] cs c 0 refl refl in absurd (omega (arith, some, e))

  pub letters_end : end ≡ 0 → MakesValue (spelled_list words (each_alone letters)) s t (Ok list)
  letters_end none = writing_ends words (each_alone letters) (each_alone p.before) s t list p.writing (ap each_alone (no_letters p.before (sym none ∙ p.end_is)))
