-- The name of a head and the parts of a choice of words can be printed where the words can.
use Rattle.std.proofs.Common.{◌≡◌, ◌≢◌, ◌<◌, ◌≤◌, ℕ, List, [], ◌∷◌, ◌++◌, ◌&&◌, Bool, true, false, not, nat_eq, refl, sym, ◌∙◌, ap, subst, arith, append_assoc, lit<}
use Rattle.std.specs.Prelude.{if◌then◌else◌}
use Rattle.std.specs.List.{All}
use Rattle.std.specs.Str.{IsUtf8}
use Rattle.std.proofs.lemmas.Bool.{and_parts}
use Rattle.std.proofs.lemmas.Bool.Decides.{nat_tests}
use Rattle.std.proofs.lemmas.List.{append-nil}
use Rattle.std.proofs.lemmas.List.Elements.{All-nil, All-cons, All-append, All-head, All-tail}
use Rattle.std.proofs.lemmas.Str.{IsUtf8-append, IsUtf8-nil}
use Rattle.dg_base.specs.Heads.{is_special, escaped, parts_behind, name_of}
use Rattle.dg_base.specs.Sound.{IsName}
use Rattle.dg_base.specs.Tree.{part_word, part_value, Parts, no_parts, part}
use Rattle.dg_lex.specs.Spelled.{IsClean, IsText, IsSpelled}
use Rattle.dg_lex.proofs.TextLemmas.{name_from, seam, one_utf8, moved, back_moved, special_small}
use Rattle.dg_reader.specs.Tokens as tokens
use Rattle.dg_reader.specs.Tokens.{slash, begins_otherwise, is_slash_cut, word_parts}

-- ---- names of heads

both_text : (xs ys : List ℕ) → IsText xs → IsText ys → IsText (xs ++ ys)
both_text xs ys h k = record { utf8 = IsUtf8-append xs ys h.utf8 k.utf8; clean = All-append IsClean xs ys h.clean k.clean }

no_text : IsText []
no_text = record { utf8 = IsUtf8-nil; clean = All-nil IsClean }

sign_text : (c : ℕ) → 32 ≤ c → c < 127 → IsText (c ∷ [])
sign_text c from to = record { utf8 = one_utf8 c (omega arith); clean = All-cons IsClean c [] (record { from = from; no_delete = λ e. omega arith; low = omega arith }) (All-nil IsClean) }

escaped_utf8 : (done w : List ℕ) → IsUtf8 (done ++ w) → IsUtf8 (done ++ escaped w)
escaped_utf8 done [] u = u
escaped_utf8 done (c ∷ cs) u =
    here (is_special c) refl (λ v. escaped_utf8 (done ++ 92 ∷ c ∷ []) cs v) (escaped_utf8 (done ++ c ∷ []) cs (moved done c cs u))
  where
    here : (b : Bool) → is_special c ≡ b → (IsUtf8 ((done ++ 92 ∷ c ∷ []) ++ cs) → IsUtf8 ((done ++ 92 ∷ c ∷ []) ++ escaped cs)) → IsUtf8 ((done ++ c ∷ []) ++ escaped cs) → IsUtf8 (done ++ (if b then 92 ∷ c ∷ escaped cs else c ∷ escaped cs))
    here true q two one =
        let small : c < 128 = omega (arith, special_small c q) in
        let each = seam done c cs small u in
        let sign : IsUtf8 (92 ∷ c ∷ []) = IsUtf8-append (92 ∷ []) (c ∷ []) (one_utf8 92 (lit< tt)) (one_utf8 c small) in
        subst IsUtf8 (append_assoc done (92 ∷ c ∷ []) (escaped cs)) (two (IsUtf8-append (done ++ 92 ∷ c ∷ []) cs (IsUtf8-append done (92 ∷ c ∷ []) each.0 sign) each.1))
    here false q two one = back_moved done c (escaped cs) one

escaped_clean : (w : List ℕ) → All IsClean w → All IsClean (escaped w)
escaped_clean [] h = h
escaped_clean (c ∷ cs) h = here (is_special c) (escaped_clean cs (All-tail IsClean c cs h))
  where
    here : (b : Bool) → All IsClean (escaped cs) → All IsClean (if b then 92 ∷ c ∷ escaped cs else c ∷ escaped cs)
    here true rest = All-cons IsClean 92 (c ∷ escaped cs) (record { from = omega arith; no_delete = λ e. omega arith; low = omega arith }) (All-cons IsClean c (escaped cs) (All-head IsClean c cs h) rest)
    here false rest = All-cons IsClean c (escaped cs) (All-head IsClean c cs h) rest

-- each word of a head is spelled
abbrev pub WordsSpelled : Parts → Type 0
WordsSpelled no_parts = Unit {0}
WordsSpelled (part (part_word w) ps) = IsSpelled w × WordsSpelled ps
WordsSpelled (part (part_value v) ps) = WordsSpelled ps

word_text : (w : List ℕ) → IsSpelled w → IsText (escaped w)
word_text w h = record { utf8 = escaped_utf8 [] w h.text.utf8; clean = escaped_clean w h.text.clean }

behind_text : (ps : Parts) → WordsSpelled ps → IsText (parts_behind ps)
behind_text no_parts h = no_text
behind_text (part (part_word w) ps) h = both_text (32 ∷ []) (escaped w ++ parts_behind ps) (sign_text 32 (omega arith) (omega arith)) (both_text (escaped w) (parts_behind ps) (word_text w h.0) (behind_text ps h.1))
behind_text (part (part_value v) ps) h = both_text (32 ∷ []) (36 ∷ parts_behind ps) (sign_text 32 (omega arith) (omega arith)) (both_text (36 ∷ []) (parts_behind ps) (sign_text 36 (omega arith) (omega arith)) (behind_text ps h))

opened : (xs : List ℕ) → IsText xs → IsName (40 ∷ xs)
opened xs h = name_from (40 ∷ xs) (record { text = both_text (40 ∷ []) xs (sign_text 40 (omega arith) (omega arith)) h; some = λ e. cc })

closing : IsText (41 ∷ [])
closing = sign_text 41 (omega arith) (omega arith)

pub head_named : (ps : Parts) → WordsSpelled ps → IsName (name_of ps)
head_named no_parts h = opened (41 ∷ []) closing
head_named (part (part_word w) ps) h = opened (escaped w ++ (parts_behind ps ++ 41 ∷ [])) (both_text (escaped w) (parts_behind ps ++ 41 ∷ []) (word_text w h.0) (both_text (parts_behind ps) (41 ∷ []) (behind_text ps h.1) closing))
head_named (part (part_value v) ps) h = opened (36 ∷ (parts_behind ps ++ 41 ∷ [])) (both_text (36 ∷ []) (parts_behind ps ++ 41 ∷ []) (sign_text 36 (omega arith) (omega arith)) (both_text (parts_behind ps) (41 ∷ []) (behind_text ps h) closing))

-- ---- choices of words

not_nil : (ys : List ℕ) (y : ℕ) → ys ++ y ∷ [] ≡ [] → ⊥
not_nil [] y e = cc
not_nil (z ∷ ys) y e = cc

pieces_named : (before : ℕ) (part text : List ℕ) → IsUtf8 (part ++ text) → All IsClean part → All IsClean text → (part ≡ [] → before ≡ slash) → (part ≡ [] → text ≢ []) → All IsName (tokens.cut_parts before part text)
pieces_named before piece [] u c d first some =
    All-cons IsName piece [] (name_from piece (record { text = record { utf8 = subst IsUtf8 (append-nil piece) u; clean = c }; some = λ e. some e refl })) (All-nil IsName)
pieces_named before piece (x ∷ xs) u c d first some =
    here (is_slash_cut before x xs) refl (λ v s. pieces_named slash [] xs v (All-nil IsClean) (All-tail IsClean x xs d) (λ e. refl) s)
    (pieces_named x (piece ++ x ∷ []) xs (moved piece x xs u) (All-append IsClean piece (x ∷ []) c (All-cons IsClean x [] (All-head IsClean x xs d) (All-nil IsClean))) (All-tail IsClean x xs d) (λ e. absurd (not_nil piece x e)) (λ e. absurd (not_nil piece x e)))
  where
    here : (b : Bool) → is_slash_cut before x xs ≡ b → (IsUtf8 xs → (◌≡◌ {A = List ℕ} [] [] → xs ≢ []) → All IsName (tokens.cut_parts slash [] xs)) → All IsName (tokens.cut_parts x (piece ++ x ∷ []) xs) → All IsName (if b then piece ∷ tokens.cut_parts slash [] xs else tokens.cut_parts x (piece ++ x ∷ []) xs)
    here true q cuts goes =
        let each = and_parts (nat_eq x slash) (not (nat_eq before slash) && begins_otherwise xs) q in
        let rest = and_parts (not (nat_eq before slash)) (begins_otherwise xs) each.1 in
        let small : x < 128 = grind (arith, nat_tests, each.0) in
        let sides = seam piece x xs small u in
        All-cons IsName piece (tokens.cut_parts slash [] xs)
        (name_from piece (record { text = record { utf8 = sides.0; clean = c }; some = λ e. let same : nat_eq before slash ≡ true = ap (λ (n : ℕ). nat_eq n slash) (first e) in let no : true ≡ false = sym rest.0 ∙ ap not same in cc }))
        (cuts sides.1 (λ e f. let no : true ≡ false = sym rest.1 ∙ ap begins_otherwise f in cc))
    here false q cuts goes = goes

pub choice_named : (w : List ℕ) → IsSpelled w → All IsName (word_parts w)
choice_named w h = pieces_named slash [] w h.text.utf8 (All-nil IsClean) h.text.clean (λ e. refl) (λ e. h.some)
