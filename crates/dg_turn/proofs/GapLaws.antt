-- What a gap comes to with one thing more.
use Rattle.std.proofs.Common.{◌≡◌, ℕ, ◌+◌, ◌≤◌, Bool, true, false, List, [], ◌∷◌, ◌++◌, Option, Some, min, refl, ◌∙◌, arith}
use Rattle.std.specs.Prelude.{◌||◌, if◌then◌else◌}
use Rattle.std.specs.List.{list_any}
use Rattle.std.proofs.lemmas.List.Folds.{list_any-append}
use Rattle.dg_base.specs.declared.program.GapKind.TheVariants as kinds
use Rattle.dg_meaning.specs.World.{Print, Piece, GapOf, SpacesOf}
use Rattle.dg_meaning.specs.Render.{is_line, is_par, is_upper, spaces_from, last_asked}
use Rattle.dg_rt.specs.Cells.{bit}
use Rattle.dg_rt.specs.Gaps.{break_word}

or_none : (b : Bool) → (b || false) ≡ b
or_none true = refl
or_none false = refl

or_one : (b : Bool) → (b || true) ≡ true
or_one true = refl
or_one false = refl

any_more : (p : Print → Bool) (gap : List Print) (e : Print) → p e ≡ true → list_any p (gap ++ e ∷ []) ≡ true
any_more p gap e is = list_any-append p gap (e ∷ []) ∙ rw is (or_one (list_any p gap))

any_same : (p : Print → Bool) (gap : List Print) (e : Print) → p e ≡ false → list_any p (gap ++ e ∷ []) ≡ list_any p gap
any_same p gap e is = list_any-append p gap (e ∷ []) ∙ rw is (or_none (list_any p gap))

-- The spaces of a gap, and what is asked for.
pub spaces_on : (n : ℕ) (gap : List Print) (e : Print) → spaces_from n (gap ++ e ∷ []) ≡ spaces_from (spaces_from n gap) (e ∷ [])
spaces_on n [] e = refl
spaces_on n (Piece b ∷ gap) e = spaces_on n gap e
spaces_on n (SpacesOf k ∷ gap) e = spaces_on (min (n + k) 16383) gap e
spaces_on n (GapOf kinds.NoSpace ∷ gap) e = spaces_on n gap e
spaces_on n (GapOf kinds.Space ∷ gap) e = spaces_on n gap e
spaces_on n (GapOf kinds.Line ∷ gap) e = spaces_on 0 gap e
spaces_on n (GapOf kinds.Par ∷ gap) e = spaces_on 0 gap e
spaces_on n (GapOf kinds.Upper ∷ gap) e = spaces_on n gap e

pub asked_on : (a : Option Bool) (gap : List Print) (e : Print) → last_asked a (gap ++ e ∷ []) ≡ last_asked (last_asked a gap) (e ∷ [])
asked_on a [] e = refl
asked_on a (Piece b ∷ gap) e = asked_on a gap e
asked_on a (SpacesOf k ∷ gap) e = asked_on a gap e
asked_on a (GapOf kinds.NoSpace ∷ gap) e = asked_on (Some false) gap e
asked_on a (GapOf kinds.Space ∷ gap) e = asked_on (Some true) gap e
asked_on a (GapOf kinds.Line ∷ gap) e = asked_on a gap e
asked_on a (GapOf kinds.Par ∷ gap) e = asked_on a gap e
asked_on a (GapOf kinds.Upper ∷ gap) e = asked_on a gap e

-- No more than 16,383 spaces are counted.
pub spaces_few : (n : ℕ) (gap : List Print) → n ≤ 16383 → spaces_from n gap ≤ 16383
spaces_few n [] le = le
spaces_few n (Piece b ∷ gap) le = spaces_few n gap le
spaces_few n (SpacesOf k ∷ gap) le = spaces_few (min (n + k) 16383) gap (omega arith)
spaces_few n (GapOf kinds.NoSpace ∷ gap) le = spaces_few n gap le
spaces_few n (GapOf kinds.Space ∷ gap) le = spaces_few n gap le
spaces_few n (GapOf kinds.Line ∷ gap) le = spaces_few 0 gap (omega arith)
spaces_few n (GapOf kinds.Par ∷ gap) le = spaces_few 0 gap (omega arith)
spaces_few n (GapOf kinds.Upper ∷ gap) le = spaces_few n gap le

-- What breaks the text stays behind what is no line and no paragraph.
abbrev break_of : Bool → Bool → ℕ
break_of par line = if par then 2 else (if line then 1 else 0)

pub break_same : (gap : List Print) (e : Print) → is_par e ≡ false → is_line e ≡ false → break_word (gap ++ e ∷ []) ≡ break_word gap
break_same gap e par line = rw (any_same is_par gap e par, any_same is_line gap e line) refl

pub break_par : (gap : List Print) → break_word (gap ++ GapOf kinds.Par ∷ []) ≡ 2
break_par gap = rw (any_more is_par gap (GapOf kinds.Par) refl) refl

pub upper_same : (gap : List Print) (e : Print) → is_upper e ≡ false → bit (list_any is_upper (gap ++ e ∷ [])) ≡ bit (list_any is_upper gap)
upper_same gap e off = rw (any_same is_upper gap e off) refl

pub upper_more : (gap : List Print) → bit (list_any is_upper (gap ++ GapOf kinds.Upper ∷ [])) ≡ 1
upper_more gap = rw (any_more is_upper gap (GapOf kinds.Upper) refl) refl

-- A line breaks the text where nothing does so far.
line_is : (gap : List Print) → break_word (gap ++ GapOf kinds.Line ∷ []) ≡ break_of (list_any is_par gap) true
line_is gap = rw (any_same is_par gap (GapOf kinds.Line) refl, any_more is_line gap (GapOf kinds.Line) refl) refl

line_first : (par line : Bool) → break_of par line ≡ 0 → break_of par true ≡ 1
line_first true line e = absurd (omega arith)
line_first false true e = refl
line_first false false e = refl

line_later : (par line : Bool) → (break_of par line ≡ 0 → ⊥) → break_of par true ≡ break_of par line
line_later true line ne = refl
line_later false true ne = refl
line_later false false ne = absurd (ne refl)

pub line_none : (gap : List Print) → break_word gap ≡ 0 → break_word (gap ++ GapOf kinds.Line ∷ []) ≡ 1
line_none gap e = line_is gap ∙ line_first (list_any is_par gap) (list_any is_line gap) e

pub line_some : (gap : List Print) → (break_word gap ≡ 0 → ⊥) → break_word (gap ++ GapOf kinds.Line ∷ []) ≡ break_word gap
line_some gap ne = line_is gap ∙ line_later (list_any is_par gap) (list_any is_line gap) ne
