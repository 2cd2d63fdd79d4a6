-- Words and numbers by their letters.
use Rattle.std.proofs.Common.{◌≡◌, ℕ, zero, suc, ◌+◌, ◌<◌, ◌≤◌, Bool, true, false, cond, List, [], ◌∷◌, ◌++◌, Option, Some, None, inl, inr, refl, sym, ap, ◌∙◌, subst, arith, length, append_assoc, append-nil}
use Rattle.std.specs.Prelude.{take, get_or, slice_get, eqb, count_by, encode_utf8_all, option_map, IfSome}
use Rattle.std.specs.List.{All}
use Rattle.std.specs.Str.{chars, IsAscii, all_scalars}
use Rattle.std.specs.Fmt.{decimal}
use Rattle.std.proofs.lemmas.List.{length-append, take_more, take_all}
use Rattle.std.proofs.lemmas.List.Elements.{All-append, All-nil, All-cons, All-head, All-tail}
use Rattle.std.proofs.lemmas.Str.{chars-encodes, chars-nil, encodes-IsAscii, encodes-append}
use Rattle.std.proofs.lemmas.Fmt.{IsAscii-decimal}
use Rattle.std.proofs.lemmas.Bool.{le-leb, lt-leb}
use Rattle.std.proofs.lemmas.Option.{slice_get_within, get_or_from_slice_get, slice_get_cases}
use Rattle.dg_base.specs.Sound.{IsName, IsPrintable}
use Rattle.dg_meaning.specs.Values.{Label, Num, Word, Unknown, Object, Nil, Pair, Closure, Value, Var, Node, Values, NoMore, pair}
use Rattle.dg_meaning.specs.Substitutions.{resolved}
use Rattle.dg_meaning.specs.inside.Substitutions.{all_resolved, IsSubstitution}
use Rattle.dg_meaning.proofs.Walks.{resolved_node, resolved_unbound, walked}
use Rattle.dg_meaning.specs.Words.{is_alone, if_spelled, spellings_behind, spellings_of, letters_in_word, letters_in_list, followed_by, few_enough, joined_letters}
use Rattle.dg_unify.specs.Store.{Store, Shows, told}
use Rattle.dg_unify.specs.declared.bindings.Ref.{Ref}
use Rattle.dg_unify.specs.declared.bindings.View.{View}
use Rattle.dg_unify.specs.declared.bindings.View.TheVariants as view
use Rattle.dg_base.specs.declared.cells.Simple.TheVariants as simple
use Rattle.dg_unify.proofs.StoreLemmas.{walked_to}
use Rattle.dg_words.specs.Letters.{AreSmall}
use Rattle.dg_words.specs.Chars.{begins}
use Rattle.dg_words.proofs.CharLemmas.{counted}
use Rattle.dg_texts.specs.Printing.{value_at, shows_nil}
use Rattle.dg_texts.specs.Spelling.{IsSpelled, IsShort, JoinsWord, IsJoined}

-- ## Letters

scalars_in : (cs : List ℕ) → All IsPrintable cs → all_scalars cs ≡ true
scalars_in [] h = refl
scalars_in (c ∷ cs) h = rw ((All-head IsPrintable c cs h).scalar, scalars_in cs (All-tail IsPrintable c cs h)) refl

small_in : (cs : List ℕ) → All IsPrintable cs → AreSmall cs
small_in [] h = All-nil (λ c. c < 65536)
small_in (c ∷ cs) h = All-cons (λ x. x < 65536) c cs (let p = All-head IsPrintable c cs h in omega (arith, p.to)) (small_in cs (All-tail IsPrintable c cs h))

-- bytes are the spelling of small letters
pub record Lettered (bytes letters : List ℕ) : Type 0 where
  pub is : encode_utf8_all letters ≡ bytes
  pub small : AreSmall letters

name_letters : (bytes : List ℕ) → IsName bytes → Lettered bytes (chars bytes)
name_letters bytes h =
    let e : chars bytes ≡ h.characters = ap chars h.encoded ∙ chars-encodes h.characters (scalars_in h.characters h.printable) in
    record { is = ap encode_utf8_all e ∙ sym h.encoded; small = subst AreSmall (sym e) (small_in h.characters h.printable) }

pub names_spelled : (words : List (List ℕ)) → All IsName words → All IsSpelled words
names_spelled [] h = All-nil IsSpelled
names_spelled (w ∷ words) h = let e = name_letters w (All-head IsName w words h) in All-cons IsSpelled w words (e.is, e.small) (names_spelled words (All-tail IsName w words h))

pub word_letters : (words : List (List ℕ)) → All IsSpelled words → (n : ℕ) → Lettered (get_or words n []) (chars (get_or words n []))
word_letters [] h n = record { is = ap encode_utf8_all chars-nil; small = subst AreSmall (sym chars-nil) (All-nil (λ c. c < 65536)) }
word_letters (w ∷ words) h zero = let e = All-head IsSpelled w words h in record { is = e.0; small = e.1 }
word_letters (w ∷ words) h (suc n) = word_letters words (All-tail IsSpelled w words h) n

small_ascii : (bs : List ℕ) → IsAscii bs → AreSmall bs
small_ascii [] h = All-nil (λ c. c < 65536)
small_ascii (b ∷ bs) h = All-cons (λ c. c < 65536) b bs (let a : b < 128 = h 0 in omega arith) (small_ascii bs (λ i. h (suc i)))

pub number_letters : (n : ℕ) → n < 65536 → Lettered (decimal n) (decimal n)
number_letters n lt = let a = IsAscii-decimal n (omega arith) in record { is = encodes-IsAscii (decimal n) a; small = small_ascii (decimal n) a }

-- ## Joining

-- so much of a list of words was joined
pub record Joining (words : List (List ℕ)) (v u : Value) (bytes : List ℕ) : Type 0 where
  pub done : List ℕ
  pub short : IsShort done
  pub is : bytes ≡ encode_utf8_all done
  pub rest : letters_in_list words v ≡ followed_by (Some done) (letters_in_list words u)

followed_nothing : (o : Option (List ℕ)) → o ≡ followed_by (Some []) o
followed_nothing None = refl
followed_nothing (Some back) = refl

pub joining_starts : (words : List (List ℕ)) (v : Value) (bytes : List ℕ) → bytes ≡ [] → Joining words v v bytes
joining_starts words v bytes none = record { done = []; short = record { few = omega arith; small = All-nil (λ c. c < 65536) }; is = none; rest = followed_nothing (letters_in_list words v) }

followed_on : (done more : List ℕ) (o : Option (List ℕ)) → followed_by (Some done) (followed_by (Some more) o) ≡ followed_by (Some (done ++ more)) o
followed_on done more None = refl
followed_on done more (Some back) = ap Some (sym (append_assoc done more back))

at_pair : (words : List (List ℕ)) (v u head tail : Value) (bytes : List ℕ) (j : Joining words v u bytes) → u ≡ pair head tail → letters_in_list words v ≡ followed_by (Some j.done) (followed_by (letters_in_word words head) (letters_in_list words tail))
at_pair words v u head tail bytes j is = j.rest ∙ ap (λ x. followed_by (Some j.done) (letters_in_list words x)) is

module _ (words : List (List ℕ)) (v u head tail : Value) (bytes : List ℕ) (j : Joining words v u bytes) (is : u ≡ pair head tail) where
  joined_bytes : (more bytes' : List ℕ) → bytes' ≡ bytes ++ encode_utf8_all more → bytes' ≡ encode_utf8_all (j.done ++ more)
  joined_bytes more bytes' e = e ∙ ap (λ l. l ++ encode_utf8_all more) j.is ∙ sym (encodes-append j.done more)

  pub joining_goes : (more bytes' : List ℕ) → letters_in_word words head ≡ Some more → AreSmall more → bytes' ≡ bytes ++ encode_utf8_all more → count_by begins bytes' ≤ 200 → Joining words v tail bytes'
  joining_goes more bytes' found small e few =
      let here = joined_bytes more bytes' e in
      let count = (counted (j.done ++ more)).count in
      let same : count_by begins bytes' ≡ count_by begins (encode_utf8_all (j.done ++ more)) = ap (count_by begins) here in
      record {
        done = j.done ++ more;
        short = record { few = omega (arith, few, count, same); small = All-append (λ c. c < 65536) j.done more j.short.small small };
        is = here;
        rest = at_pair words v u head tail bytes j is ∙ ap (λ o. followed_by (Some j.done) (followed_by o (letters_in_list words tail))) found ∙ followed_on j.done more (letters_in_list words tail);
      }

  pub joining_stops : letters_in_word words head ≡ None → few_enough (letters_in_list words v) ≡ None
  joining_stops none = ap few_enough (at_pair words v u head tail bytes j is ∙ ap (λ o. followed_by (Some j.done) (followed_by o (letters_in_list words tail))) none)

  too_many : (more : List ℕ) (o : Option (List ℕ)) → 200 < length (j.done ++ more) → few_enough (followed_by (Some (j.done ++ more)) o) ≡ None
  too_many more None many = refl
  too_many more (Some back) many = rw (lt-leb (length ((j.done ++ more) ++ back)) 200 (omega (arith, many, length-append (j.done ++ more) back))) refl

  pub joining_full : (more : List ℕ) → letters_in_word words head ≡ Some more → 200 < count_by begins (bytes ++ encode_utf8_all more) → few_enough (letters_in_list words v) ≡ None
  joining_full more found many =
      let count = (counted (j.done ++ more)).count in
      let here : bytes ++ encode_utf8_all more ≡ encode_utf8_all (j.done ++ more) = joined_bytes more (bytes ++ encode_utf8_all more) refl in
      ap few_enough (at_pair words v u head tail bytes j is ∙ ap (λ o. followed_by (Some j.done) (followed_by o (letters_in_list words tail))) found ∙ followed_on j.done more (letters_in_list words tail))
      ∙ too_many more (letters_in_list words tail) (omega (arith, many, count, ap (count_by begins) here))

pub not_joined : (o : Option (List ℕ)) (bytes : List ℕ) → o ≡ None → IsJoined o bytes false
not_joined o bytes e = subst (λ x. IsJoined x bytes false) (sym e) refl

-- ## The words of a line are short

abbrev ShortIn : ℕ → List ℕ → Type 0
ShortIn n letters = (length letters ≤ n) × AreSmall letters

if_short : (n : ℕ) (begun : List ℕ) → ShortIn n begun → All (ShortIn n) (if_spelled begun)
if_short n [] h = All-nil (ShortIn n)
if_short n (c ∷ cs) h = All-cons (ShortIn n) (c ∷ cs) [] h (All-nil (ShortIn n))

by_tests : (space alone : Bool) (n c : ℕ) (begun cs : List ℕ) → ShortIn n begun → ShortIn n (c ∷ []) → All (ShortIn n) (spellings_behind [] cs) → All (ShortIn n) (spellings_behind (begun ++ c ∷ []) cs) → All (ShortIn n) (cond space (if_spelled begun ++ spellings_behind [] cs) (cond alone (if_spelled begun ++ (c ∷ []) ∷ spellings_behind [] cs) (spellings_behind (begun ++ c ∷ []) cs)))
by_tests true alone n c begun cs b one rest on = All-append (ShortIn n) (if_spelled begun) (spellings_behind [] cs) (if_short n begun b) rest
by_tests false true n c begun cs b one rest on = All-append (ShortIn n) (if_spelled begun) ((c ∷ []) ∷ spellings_behind [] cs) (if_short n begun b) (All-cons (ShortIn n) (c ∷ []) (spellings_behind [] cs) one rest)
by_tests false false n c begun cs b one rest on = on

short_behind : (n : ℕ) (begun cs : List ℕ) → length begun + length cs ≤ n → AreSmall begun → AreSmall cs → All (ShortIn n) (spellings_behind begun cs)
short_behind n begun [] le b small = if_short n begun (omega arith, b)
short_behind n begun (c ∷ cs) le b small =
    let P = λ (x : ℕ). x < 65536 in
    let here = All-head P c cs small in
    let rest = All-tail P c cs small in
    by_tests (eqb c 32) (is_alone c) n c begun cs (omega arith, b) (omega arith, All-cons P c [] here (All-nil P)) (short_behind n [] cs (omega arith) (All-nil P) rest)
    (short_behind n (begun ++ c ∷ []) cs (omega (arith, length-append begun (c ∷ []))) (All-append P begun (c ∷ []) b (All-cons P c [] here (All-nil P))) rest)

short_each : (ws : List (List ℕ)) → All (ShortIn 200) ws → All IsShort ws
short_each [] h = All-nil IsShort
short_each (w ∷ ws) h = let a = All-head (ShortIn 200) w ws h in All-cons IsShort w ws (record { few = a.0; small = a.1 }) (short_each ws (All-tail (ShortIn 200) w ws h))

pub words_short : (letters : List ℕ) → IsShort letters → All IsShort (spellings_of letters)
words_short letters h = short_each (spellings_of letters) (short_behind 200 [] letters (omega (arith, h.few)) (All-nil (λ c. c < 65536)) h.small)

-- ## What is seen of a spelling

pub none_seen : (o : Option (List ℕ)) → None ≡ option_map encode_utf8_all o → o ≡ None
none_seen None e = refl
none_seen (Some letters) e = absurd (cc e)

-- these letters are seen
pub record Seen (o : Option (List ℕ)) (bytes : List ℕ) : Type 0 where
  pub letters : List ℕ
  pub is : o ≡ Some letters
  pub spelled : bytes ≡ encode_utf8_all letters

pub some_seen : (o : Option (List ℕ)) (bytes : List ℕ) → Some bytes ≡ option_map encode_utf8_all o → Seen o bytes
some_seen None bytes e = absurd (cc e)
some_seen (Some letters) bytes e = record { letters = letters; is = refl; spelled = cc e }

-- ## Letters that are read one by one

pub record LettersTo (spelling letters : List ℕ) (n : ℕ) : Type 0 where
  pub within : n ≤ length spelling
  pub same : take n letters ≡ take n spelling
  pub small : AreSmall (take n spelling)

pub letters_begin : (spelling letters : List ℕ) → LettersTo spelling letters 0
letters_begin spelling letters = record { within = omega arith; same = refl; small = All-nil (λ c. c < 65536) }

pub letters_more : (spelling letters letters' : List ℕ) (n x : ℕ) → LettersTo spelling letters n → slice_get spelling n ≡ Some x → take (n + 1) letters' ≡ take n letters ++ x ∷ [] → x < 65536 → LettersTo spelling letters' (n + 1)
letters_more spelling letters letters' n x t h now lt =
    let inside : n < length spelling = slice_get_within spelling n x h in
    let more : take (n + 1) spelling ≡ take n spelling ++ x ∷ [] = take_more spelling n 0 inside ∙ ap (λ y. take n spelling ++ y ∷ []) (get_or_from_slice_get spelling n x 0 h) in
    let P = λ (c : ℕ). c < 65536 in
    record {
      within = omega (arith, inside);
      same = now ∙ ap (λ l. l ++ x ∷ []) t.same ∙ sym more;
      small = subst AreSmall (sym more) (All-append P (take n spelling) (x ∷ []) t.small (All-cons P x [] lt (All-nil P)));
    }

pub letters_end : (spelling letters : List ℕ) (n : ℕ) → LettersTo spelling letters n → slice_get spelling n ≡ None → (take n letters ≡ spelling) × AreSmall spelling
letters_end spelling letters n t h =
    let le : length spelling ≤ n = elim (slice_get_cases spelling n).1 as (λ z. length spelling ≤ n) [ inl p ↦ absurd (cc (h, p.2)) | inr p ↦ p.0 ] in
    let whole = take_all n spelling le in
    (t.same ∙ whole, subst AreSmall whole t.small)

pub letter_inside : (spelling letters : List ℕ) (n x : ℕ) → LettersTo spelling letters n → slice_get spelling n ≡ Some x → length spelling ≤ 200 → n < 200
letter_inside spelling letters n x t h short = let inside = slice_get_within spelling n x h in omega (arith, inside, short)

-- ## Values that are looked up

node_here : (s : Store) → IsSubstitution s.state.subst → (r : Ref) (f : Label) (vs : Values) → walked_to s r ≡ Node f vs → value_at s r ≡ Node f (all_resolved s.state.subst vs)
node_here s sound r f vs is = let S = s.state.subst in sym (walked S sound (told s r)).same ∙ ap (resolved S) is ∙ resolved_node S f vs

var_here : (s : Store) → IsSubstitution s.state.subst → (r : Ref) (n : ℕ) → walked_to s r ≡ Var n → value_at s r ≡ Var n
var_here s sound r n is = let S = s.state.subst in sym (walked S sound (told s r)).same ∙ ap (resolved S) is ∙ resolved_unbound S n ((walked S sound (told s r)).free n is)

same_letters : (words : List (List ℕ)) (f : Label) (us vs : Values) → letters_in_word words (Node f us) ≡ letters_in_word words (Node f vs)
same_letters words (Num n) us vs = refl
same_letters words (Word n) us vs = refl
same_letters words (Unknown spelling) us vs = refl
same_letters words (Object n) us vs = refl
same_letters words Nil us vs = refl
same_letters words Pair us vs = refl
same_letters words (Closure n) us vs = refl

pub word_walked : (s : Store) → IsSubstitution s.state.subst → (words : List (List ℕ)) (r : Ref) → letters_in_word words (value_at s r) ≡ letters_in_word words (walked_to s r)
word_walked s sound words r = by_value (walked_to s r) refl where
  by_value : (w : Value) → walked_to s r ≡ w → letters_in_word words (value_at s r) ≡ letters_in_word words w
  by_value (Var n) is = ap (letters_in_word words) (var_here s sound r n is)
  by_value (Node f vs) is = ap (letters_in_word words) (node_here s sound r f vs is) ∙ same_letters words f (all_resolved s.state.subst vs) vs

-- the letters of what is no pair
abbrev pub end_letters : Bool → Option (List ℕ)
end_letters true = Some []
end_letters false = None

-- what is no pair has no elements, and can't be joined
pub record IsEnd (words : List (List ℕ)) (v : Value) (nil : Bool) : Type 0 where
  pub letters : letters_in_list words v ≡ end_letters nil
  pub none : joined_letters words v ≡ None

end_node : (words : List (List ℕ)) (f : Label) (vs : Values) (b : Bool) → (f ≡ Pair → ⊥) → (f ≡ Nil → b ≡ true) → ((f ≡ Nil → ⊥) → b ≡ false) → IsEnd words (Node f vs) b
end_node words (Num n) vs b k is isnt = record { letters = ap end_letters (sym (isnt (λ e. cc e))); none = refl }
end_node words (Word n) vs b k is isnt = record { letters = ap end_letters (sym (isnt (λ e. cc e))); none = refl }
end_node words (Unknown x) vs b k is isnt = record { letters = ap end_letters (sym (isnt (λ e. cc e))); none = refl }
end_node words (Object n) vs b k is isnt = record { letters = ap end_letters (sym (isnt (λ e. cc e))); none = refl }
end_node words (Closure n) vs b k is isnt = record { letters = ap end_letters (sym (isnt (λ e. cc e))); none = refl }
end_node words Nil vs b k is isnt = record { letters = ap end_letters (sym (is refl)); none = refl }
end_node words Pair vs b k is isnt = absurd (k refl)

end_at : (s : Store) → IsSubstitution s.state.subst → (words : List (List ℕ)) (r : Ref) (f : Label) (vs : Values) (b : Bool) → walked_to s r ≡ Node f vs → (f ≡ Pair → ⊥) → (f ≡ Nil → b ≡ true) → ((f ≡ Nil → ⊥) → b ≡ false) → IsEnd words (value_at s r) b
end_at s sound words r f vs b is k on off = subst (λ v. IsEnd words v b) (sym (node_here s sound r f vs is)) (end_node words f (all_resolved s.state.subst vs) b k on off)

pub end_shown : (s : Store) → IsSubstitution s.state.subst → (words : List (List ℕ)) (r : Ref) (v : View) → ((h t : Ref) → v ≡ view.Pair h t → ⊥) → Shows s (walked_to s r) v → IsEnd words (value_at s r) (shows_nil v)
end_shown s sound words r (view.Unbound x) k shows = subst (λ v. IsEnd words v false) (sym (var_here s sound r shows.number shows.is)) (record { letters = refl; none = refl })
end_shown s sound words r (view.Pair h t) k shows = absurd (k h t refl)
end_shown s sound words r (view.Closure p c) k shows = end_at s sound words r (Closure p) shows.parts false shows.is (λ e. cc e) (λ e. absurd (cc e)) (λ n. refl)
end_shown s sound words r (view.Unknown x) k shows = end_at s sound words r (Unknown shows.spelling) NoMore false shows.is (λ e. cc e) (λ e. absurd (cc e)) (λ n. refl)
end_shown s sound words r (view.Simple (simple.Num n)) k shows = end_at s sound words r (Num n) NoMore false shows (λ e. cc e) (λ e. absurd (cc e)) (λ n. refl)
end_shown s sound words r (view.Simple (simple.Word n)) k shows = end_at s sound words r (Word n) NoMore false shows (λ e. cc e) (λ e. absurd (cc e)) (λ n. refl)
end_shown s sound words r (view.Simple (simple.Object n)) k shows = end_at s sound words r (Object n) NoMore false shows (λ e. cc e) (λ e. absurd (cc e)) (λ n. refl)
end_shown s sound words r (view.Simple simple.Nil) k shows = end_at s sound words r Nil NoMore true shows (λ e. cc e) (λ e. refl) (λ n. absurd (n refl))

pub joining_over : (words : List (List ℕ)) (v u : Value) (bytes : List ℕ) (nil : Bool) → Joining words v u bytes → IsEnd words u nil → IsJoined (few_enough (letters_in_list words v)) bytes nil
joining_over words v u bytes true j end =
    let whole : letters_in_list words v ≡ Some j.done = j.rest ∙ ap (followed_by (Some j.done)) end.letters ∙ ap Some (append-nil j.done) in
    let few : few_enough (letters_in_list words v) ≡ Some j.done = ap few_enough whole ∙ rw (le-leb (length j.done) 200 j.short.few) refl in
    subst (λ o. IsJoined o bytes true) (sym few) (refl, j.short, j.is)
joining_over words v u bytes false j end = not_joined (few_enough (letters_in_list words v)) bytes (ap few_enough (j.rest ∙ ap (followed_by (Some j.done)) end.letters))

-- a word was joined, or wasn't
pub joining_on : (words : List (List ℕ)) (v u head tail : Value) (bytes bytes' : List ℕ) (o : Option (List ℕ)) → Joining words v u bytes → u ≡ pair head tail → letters_in_word words head ≡ o → JoinsWord o bytes bytes' true → Joining words v tail bytes'
joining_on words v u head tail bytes bytes' None j is found h = absurd (cc h)
joining_on words v u head tail bytes bytes' (Some more) j is found h = joining_goes words v u head tail bytes j is more bytes' found h.0 h.1 h.2

pub joining_refused : (words : List (List ℕ)) (v u head tail : Value) (bytes bytes' : List ℕ) (o : Option (List ℕ)) → Joining words v u bytes → u ≡ pair head tail → letters_in_word words head ≡ o → JoinsWord o bytes bytes' false → IsJoined (few_enough (letters_in_list words v)) bytes' false
joining_refused words v u head tail bytes bytes' None j is found h = not_joined (few_enough (letters_in_list words v)) bytes' (joining_stops words v u head tail bytes j is found)
joining_refused words v u head tail bytes bytes' (Some more) j is found h = not_joined (few_enough (letters_in_list words v)) bytes' (joining_full words v u head tail bytes j is more found h)

pub pair_joined : (words : List (List ℕ)) (v head tail : Value) → v ≡ pair head tail → joined_letters words v ≡ few_enough (letters_in_list words v)
pair_joined words v head tail is = ap (joined_letters words) is ∙ ap (λ x. few_enough (letters_in_list words x)) (sym is)

-- ## What a call answers

pub seen_small : (o : Option (List ℕ)) (letters : List ℕ) → o ≡ Some letters → IfSome o AreSmall → AreSmall letters
seen_small o letters is h = subst (λ x. IfSome x AreSmall) is h

pub none_joined : (o : Option (List ℕ)) (bytes : List ℕ) → IsJoined o bytes false → o ≡ None
none_joined None bytes h = refl
none_joined (Some letters) bytes h = absurd (cc h.0)

-- these letters were joined
pub record WasJoined (o : Option (List ℕ)) (bytes : List ℕ) : Type 0 where
  pub letters : List ℕ
  pub are : o ≡ Some letters
  pub short : IsShort letters
  pub is : bytes ≡ encode_utf8_all letters

pub was_joined : (o : Option (List ℕ)) (bytes : List ℕ) → IsJoined o bytes true → WasJoined o bytes
was_joined None bytes h = absurd (cc h)
was_joined (Some letters) bytes h = record { letters = letters; are = refl; short = h.1; is = h.2 }
